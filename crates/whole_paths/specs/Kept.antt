-- What an end keeps until it is acknowledged: the records of its subflow, and the pieces that were granted to it.
use Rattle.std.specs.Prelude.{ℕ, ◌≡◌, ◌<◌, ◌≤◌, ◌⊎◌, Some, List, [], ◌∷◌, slice_get}
use Rattle.sides.specs.declared.side.Side.{Side}
use Rattle.subflow_send.specs.Records.{Record, end_of}
use Rattle.path_store.specs.declared.granted_piece.GrantedPiece.{GrantedPiece}
use Rattle.path_core.specs.Codec.{Codec}
use Rattle.path_core.specs.End.{PathEnd}
use Rattle.path_core.specs.State.{end_at}
use Rattle.world_laws.specs.declared.member.Member.TheVariants.{App, Path}
use Rattle.world_laws.specs.Actors.{Actor, ActorCrew}
use Rattle.world_laws.specs.Worlds.{WorldState, Turn, world_run}

-- each of the first ones is let go, or is one of the others, which have the order of the first ones
abbrev pub AreKept : {X : Type 0} → (X → Type 0) → (X → X → Type 0) → List X → List X → Type 0
AreKept Gone Same [] ys = Unit {0}
AreKept Gone Same (x ∷ xs) [] = Gone x × AreKept Gone Same xs []
AreKept Gone Same (x ∷ xs) (y ∷ ys) = (Gone x × AreKept Gone Same xs (y ∷ ys)) ⊎ (Same x y × AreKept Gone Same xs ys)

-- two records are the same but for how often they were sent
pub record IsSameRecord (r t : Record) : Type 0 where
  pub pos : t.pos ≡ r.pos
  pub kind : t.kind ≡ r.kind
  pub piece : t.piece ≡ r.piece
  pub mapping : t.mapping ≡ r.mapping

-- An end lets a record go as SND.UNA rises to its end or past it (RFC 9293, section 3.4), and a granted piece as the Data ACKs that it heard
-- acknowledge all of it (RFC 8684, section 3.3.2); neither goes back.
pub record KeepsWhatWaits (e f : PathEnd) : Type 0 where
  pub una : e.tcp.send.una ≤ f.tcp.send.una
  pub records : AreKept (λ (r : Record). (e.tcp.send.una < f.tcp.send.una) × (end_of r ≤ f.tcp.send.una)) IsSameRecord e.tcp.send.records f.tcp.send.records
  pub heard : e.sending.heard ≤ f.sending.heard
  pub pieces : AreKept (λ (x : GrantedPiece). x.to ≤ f.sending.heard) (λ (x y : GrantedPiece). y ≡ x) e.sending.granted f.sending.granted

module _ {C : Type 0} where
  -- with both ends of a path
  abbrev pub EndsKeepWhatWaits : Actor C → Actor C → Type 0
  EndsKeepWhatWaits (Path p) (Path q) = (s : Side) → KeepsWhatWaits (end_at s p) (end_at s q)
  EndsKeepWhatWaits (App a) (App b) = Unit {0}
  EndsKeepWhatWaits _ _ = ⊥

  -- by whatever turns
  abbrev pub WhatWaitsIsKept : Codec C → Type 0
  WhatWaitsIsKept k = (w : WorldState C) (more : List Turn) (actor : ℕ) (c : ActorCrew C) → slice_get w.crew actor ≡ Some c
      → (d : ActorCrew C) × (slice_get (world_run k more w).crew actor ≡ Some d) × EndsKeepWhatWaits c.member d.member
