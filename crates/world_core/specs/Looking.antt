-- The paths among the actors, what is about to arrive on them, and what is about to be sent.
use Rattle.std.specs.Prelude.{ℕ, Bool, false, Option, Some, None, option_and_then, List, slice_get}
use Rattle.sides.specs.declared.side.Side.TheVariants.{B}
use Rattle.path_core.specs.declared.looking.Departing.{Departing}
use Rattle.path_core.specs.MpJoin.{is_listening}
use Rattle.path_core.specs.Looking.{Arrived, departing, next_arrival}
use Rattle.path_core.specs.State.{PathState, end_at}
use Rattle.world_laws.specs.Actors.{Actor, ActorCrew}
use Rattle.world_laws.specs.declared.member.Member.TheVariants.{App, Path}

module _ {C : Type 0} where
  abbrev pub member_path : Actor C → Option (PathState C)
  member_path (App a) = None
  member_path (Path p) = Some p

  abbrev pub crew_path : Option (ActorCrew C) → Option (PathState C)
  crew_path None = None
  crew_path (Some c) = member_path c.member

  -- the path that the actor of this number is
  abbrev pub path_at : ℕ → List (ActorCrew C) → Option (PathState C)
  path_at actor crew = crew_path (slice_get crew actor)

-- the copy that arrives by the actor's next step, if one does
abbrev pub arriving_at : ℕ → List (ActorCrew (List ℕ)) → Option Arrived
arriving_at actor crew = option_and_then next_arrival (path_at actor crew)

-- B's end of the path listens
abbrev pub listens_on : Option (PathState (List ℕ)) → Bool
listens_on None = false
listens_on (Some p) = is_listening (end_at B p).tcp.state

-- the actor is a path whose B end listens
abbrev pub listens_at : ℕ → List (ActorCrew (List ℕ)) → Bool
listens_at actor crew = listens_on (path_at actor crew)
