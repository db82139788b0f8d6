-- A path that joins carries nothing of A's stream before A may send a DSS on it: until B answered its third MP_JOIN (RFC 8684,
-- section 3.2).
use Rattle.std.specs.Prelude.{ℕ, ◌≡◌, Bool, true, false, Some, List, slice_get}
use Rattle.std.specs.List.{list_any}
use Rattle.sides.specs.declared.side.Side.TheVariants.{A}
use Rattle.actor_desk.specs.declared.ask.Note.{Note}
use Rattle.path_core.specs.MpJoin.{is_joined}
use Rattle.world_laws.specs.declared.member.Member.TheVariants.{App, Path}
use Rattle.world_laws.specs.Actors.{Actor, ActorCrew}
use Rattle.world_laws.specs.RoundEnd.{asks_grant}
use Rattle.world_laws.specs.Worlds.{WorldState}

-- bytes of A's stream were asked for
abbrev pub asks_for_a : Note → Bool
asks_for_a note = asks_grant A note.ask

module _ {C : Type 0} where
  -- bytes of A's stream weren't asked for by these steps of a path that joins, as long as A may not use the DSS on it
  abbrev pub WaitsSo : List Note → Actor C → Type 0
  WaitsSo notes (App a) = Unit {0}
  WaitsSo notes (Path p) = is_joined p.profile ≡ true → p.a.modes.clear ≡ false → list_any asks_for_a notes ≡ false

  -- no path that joins asks for bytes of A's stream before A may use the DSS on it
  pub record JoinsWait (w : WorldState C) : Type 0 where
    pub each : (actor : ℕ) (c : ActorCrew C) → slice_get w.crew actor ≡ Some c → WaitsSo c.list c.member
