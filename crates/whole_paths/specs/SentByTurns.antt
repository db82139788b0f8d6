-- How many segments a link takes: one a turn at most.
use Rattle.std.specs.Prelude.{ℕ, ◌≡◌, ◌≤◌, Some, List, length, slice_get}
use Rattle.sides.specs.declared.side.Side.{Side}
use Rattle.link_model.specs.Steps.{segments_sent}
use Rattle.path_core.specs.Codec.{Codec}
use Rattle.path_core.specs.State.{PathState}
use Rattle.world_laws.specs.Actors.{Actor, ActorCrew}
use Rattle.world_laws.specs.Members.{HoldsOfKind}
use Rattle.world_laws.specs.Openings.{Start}
use Rattle.world_laws.specs.RoundDone.{reached}
use Rattle.world_laws.specs.Worlds.{Turn}

module _ {C : Type 0} where
  -- on a path, so many from each side at most
  abbrev pub SentAtMost : ℕ → Actor C → Type 0
  SentAtMost most = HoldsOfKind (λ app. Unit {0}) (λ (p : PathState C). (s : Side) → segments_sent s p.link ≤ most)

  -- after these turns as many as they are
  abbrev pub EachTurnSendsOneAtMost : Codec C → Type 0
  EachTurnSendsOneAtMost k = (start : Start) (turns : List Turn) (actor : ℕ) (c : ActorCrew C) → slice_get (reached k start turns).crew actor ≡ Some c
      → SentAtMost (length turns) c.member
