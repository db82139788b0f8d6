-- What wants an acknowledgement of a copy that an end takes (RFC 9293, section 3.10.7.4; RFC 8684, sections 3.1, 3.2 and 3.3.3).
use Rattle.std.specs.Prelude.{ℕ, ◌≡◌, ◌<◌, ◌⊎◌, true, Some, slice_get}
use Rattle.std.specs.List.{list_any}
use Rattle.subflow_tcp.specs.Segments.{occupied}
use Rattle.path_agenda.specs.Items.{wants_ack}
use Rattle.path_core.specs.Arrival.{copy_of}
use Rattle.path_core.specs.Codec.{Codec}
use Rattle.path_core.specs.MpJoin.{is_joined}
use Rattle.path_core.specs.OptionsIn.{items_of, options_heard}
use Rattle.path_core.specs.State.{PathState, end_at}
use Rattle.world_laws.specs.declared.member.Member.TheVariants.{App, Path}
use Rattle.world_laws.specs.Actors.{Actor, ActorCrew}
use Rattle.world_laws.specs.Worlds.{WorldState, Turn, after_turn}
use Rattle.whole_paths.specs.Brought.{Brings}

module _ {C : Type 0} where
  -- the copy occupies positions, by bytes or a FIN; or it has a DATA_FIN, both keys, or the third MP_JOIN
  abbrev pub WantsAnswer : (k : Codec C) (p : PathState C) → Brings k p → Type 0
  WantsAnswer k p b =
      let said = options_heard (end_at b.copy.due.to p) b.copy.segment in
      (0 < occupied (copy_of said)) ⊎ (list_any wants_ack (items_of (is_joined p.profile) b.copy.due.to said) ≡ true)

  -- an acknowledgement is due then, unless the path stays as it is
  pub record OwesAnAnswer (k : Codec C) (p q : PathState C) : Type 0 where
    pub owes : (b : Brings k p) → WantsAnswer k p b → (q ≡ p) ⊎ ((end_at b.copy.due.to q).tcp.due.ack ≡ true)

  -- as the path becomes this actor
  abbrev pub PathsOwe : Codec C → Actor C → Actor C → Type 0
  PathsOwe k (Path p) (Path q) = OwesAnAnswer k p q
  PathsOwe k (App a) (App b) = Unit {0}
  PathsOwe k _ _ = ⊥

  -- by any turn
  abbrev pub WhatWantsAnAnswerIsOwedOne : Codec C → Type 0
  WhatWantsAnAnswerIsOwedOne k = (w : WorldState C) (turn : Turn) (actor : ℕ) (c : ActorCrew C) → slice_get w.crew actor ≡ Some c
      → (d : ActorCrew C) × (slice_get (after_turn k turn w).crew actor ≡ Some d) × PathsOwe k c.member d.member
