-- The Data ACK with which an acknowledgement comes that an end owes (RFC 8684, section 3.3.2).
use Rattle.std.specs.Prelude.{ℕ, ◌-◌, ◌^◌, ◌≡◌, ◌<◌, ◌≤◌, true, false, Option, Some, IfSome, List, [], ◌∷◌, slice_get}
use Rattle.sides.specs.declared.side.Side.{Side}
use Rattle.link_model.specs.Steps.{segments_sent}
use Rattle.path_segments.specs.Options.{PlainOption}
use Rattle.path_segments.specs.Spelled.{PlainSegment}
use Rattle.path_segments.specs.declared.segment.PathMapping.{PathMapping}
use Rattle.path_segments.specs.declared.segment.PathOption.TheVariants.{Dss}
use Rattle.reassembly_book.specs.Steps.{next_wanted}
use Rattle.subflow_tcp.specs.States.{is_dead}
use Rattle.actor_desk.specs.Desk.{SixBooks, reassembly_of}
use Rattle.path_core.specs.Codec.{Codec}
use Rattle.path_core.specs.Looking.{first_sends, segment_sent}
use Rattle.path_core.specs.State.{PathState, end_at}
use Rattle.world_laws.specs.declared.member.Member.TheVariants.{App, Path}
use Rattle.world_laws.specs.Actors.{Actor, ActorCrew}
use Rattle.world_laws.specs.Openings.{Start, opened_world}
use Rattle.world_laws.specs.Worlds.{Turn, after_turn, world_run}
use Rattle.whole_paths.specs.Owed.{IsAnswered, IsAnsweredSo, AnswerGoesOn, AnswerComesSo}

-- the segment acknowledges and nothing more, between these positions of its subflow, and its DSS has a Data ACK of this place or one past it,
-- below 2^62
pub record IsDataAckFrom (edge last place : ℕ) (x : PlainSegment) : Type 0 where
  pub from : edge ≤ x.position
  pub up_to : x.position ≤ last
  pub syn : x.syn ≡ false
  pub fin : x.fin ≡ false
  pub payload : x.payload ≡ []
  pub next : ℕ
  pub mapping : Option (PathMapping ℕ)
  pub others : List PlainOption
  pub options : x.options ≡ Dss (Some next) mapping ∷ others
  pub enough : place ≤ next
  pub low : next < 2 ^ 62

module _ {C : Type 0} where
  -- as this side's end sends a segment that is no reset, its reassembly book wants this place next, or one past it
  abbrev pub WantsWhereItSends : SixBooks → Side → ℕ → PathState C → Type 0
  WantsWhereItSends six s place p = IfSome (first_sends p.agenda p) (λ t. t.from ≡ s → (segment_sent p t).rst ≡ false → place ≤ next_wanted (reassembly_of s six))

  -- as this side's end sends a segment that is no reset, and isn't dead, it was told that its book wants this place next, or one past it
  abbrev pub KnowsWhereItSends : Side → ℕ → PathState C → Type 0
  KnowsWhereItSends s place p = IfSome (first_sends p.agenda p) (λ t. t.from ≡ s → is_dead (end_at s p).tcp.state ≡ false → (segment_sent p t).rst ≡ false
      → place ≤ (end_at s p).receiving.next)

  -- The path becomes this actor, with fewer than 2^64 - 1 segments sent from the side. Where its end may send a DSS, didn't fall back to plain
  -- TCP and is between these positions, and that is so as it sends, such is the answer that it owes.
  abbrev pub DataAcksGoOn : Codec C → Actor C → Actor C → Type 0
  DataAcksGoOn k (Path p) (Path q) = (s : Side) (position by edge last place : ℕ) → segments_sent s p.link < 2 ^ 64 - 1
      → (end_at s p).modes.clear ≡ true → (end_at s p).modes.identity ≡ false → edge ≤ (end_at s p).tcp.send.nxt → (end_at s p).tcp.send.nxt ≤ last
      → (end_at s p).receiving.next < 2 ^ 62
      → KnowsWhereItSends s place p
      → (h : IsAnswered k s position by p) → IsAnsweredSo (IsDataAckFrom edge last place) h → (go : AnswerGoesOn k s position by p q)
      × AnswerComesSo (IsDataAckFrom edge last place) go
  DataAcksGoOn k (App a) (App b) = Unit {0}
  DataAcksGoOn k _ _ = ⊥

  -- by any turn
  abbrev pub WhatIsOwedHasADataAck : Codec C → Type 0
  WhatIsOwedHasADataAck k = (start : Start) (turns : List Turn) → let w = world_run k turns (opened_world start) in
      (turn : Turn) (actor : ℕ) (c : ActorCrew C) → slice_get w.crew actor ≡ Some c
      → (d : ActorCrew C) × (slice_get (after_turn k turn w).crew actor ≡ Some d) × DataAcksGoOn k c.member d.member
