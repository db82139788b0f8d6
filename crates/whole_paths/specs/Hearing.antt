-- What an acknowledgement makes of the end that hears it (RFC 9293, sections 3.10.7.3 and 3.10.7.4).
use Rattle.std.specs.Prelude.{ℕ, ◌≡◌, ◌≤◌, ◌⊎◌, Some, slice_get}
use Rattle.subflow_tcp.specs.declared.verdicts.Meaning.TheVariants.{Accepts, Taken}
use Rattle.path_core.specs.Codec.{Codec}
use Rattle.path_core.specs.State.{PathState, end_at}
use Rattle.path_core.specs.declared.judged.Judged.TheVariants as judged
use Rattle.world_laws.specs.declared.member.Member.TheVariants.{App, Path}
use Rattle.world_laws.specs.Actors.{Actor, ActorCrew}
use Rattle.world_laws.specs.Worlds.{WorldState, Turn, after_turn}
use Rattle.whole_paths.specs.Brought.{Comes, IsTo}

module _ {C : Type 0} where
  -- a copy comes next, and its end takes it, or accepts it as the SYN/ACK: it acknowledges all before this position
  pub record Acknowledges (k : Codec C) (p : PathState C) : Type 0 where
    pub copy : Comes k p
    pub acknowledged : ℕ
    pub taken : ((position : ℕ) × IsTo k p copy (judged.As (Taken position acknowledged))) ⊎ IsTo k p copy (judged.As (Accepts acknowledged))

  -- SND.UNA is that position then, or past it, unless the path stays as it is
  pub record Counts (k : Codec C) (p q : PathState C) : Type 0 where
    pub counts : (a : Acknowledges k p) → (q ≡ p) ⊎ (a.acknowledged ≤ (end_at a.copy.due.to q).tcp.send.una)

  -- as the path becomes this actor
  abbrev pub PathsCount : Codec C → Actor C → Actor C → Type 0
  PathsCount k (Path p) (Path q) = Counts k p q
  PathsCount k (App a) (App b) = Unit {0}
  PathsCount k _ _ = ⊥

  -- by any turn
  abbrev pub EachAcknowledgementCounts : Codec C → Type 0
  EachAcknowledgementCounts k = (w : WorldState C) (turn : Turn) (actor : ℕ) (c : ActorCrew C) → slice_get w.crew actor ≡ Some c
      → (d : ActorCrew C) × (slice_get (after_turn k turn w).crew actor ≡ Some d) × PathsCount k c.member d.member
