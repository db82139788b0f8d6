-- The copy which B's end takes as a join is found by the token by which it asks (RFC 8684, section 3.2).
use Rattle.std.specs.Prelude.{ℕ, ◌≡◌, true, Some, None, List, slice_get}
use Rattle.sides.specs.declared.side.Side.TheVariants.{A, B}
use Rattle.join_handshake.specs.declared.hearing.JoinSyn.{JoinSyn}
use Rattle.path_segments.specs.Heard.{HeardSegment}
use Rattle.path_core.specs.Arrival.{expected_by}
use Rattle.path_core.specs.OptionsIn.{items_of}
use Rattle.path_core.specs.MpJoin.{is_joined, join_asked}
use Rattle.path_core.specs.Looking.{Arrived, next_arrival}
use Rattle.path_core.specs.Octets.{octets}
use Rattle.path_core.specs.State.{PathState, end_at}
use Rattle.connection_table.specs.Routing.{join_token}
use Rattle.world_laws.specs.declared.member.Member.TheVariants.{App, Path}
use Rattle.world_laws.specs.Actors.{Actor, ActorCrew}
use Rattle.world_laws.specs.Openings.{Start, opened_world}
use Rattle.world_laws.specs.Promises.{HasRoom, NumbersFit}
use Rattle.world_laws.specs.Worlds.{WorldState, Turn, world_run}

-- on a path that joins, B's end hears a SYN without ACK in the copy, which asks to join so
pub record IsHeardAsJoin (p : PathState (List ℕ)) (copy : Arrived) (asked : JoinSyn) : Type 0 where
  pub joins : is_joined p.profile ≡ true
  pub to : copy.to ≡ B
  pub heard : HeardSegment
  pub reads : octets.reads p.profile.spelling A (expected_by (end_at B p)) copy.octets ≡ Some heard
  pub syn : heard.syn ≡ true
  pub alone : heard.acknowledged ≡ None
  pub asks : join_asked (items_of true B heard) ≡ Some asked

-- the copy that comes next
abbrev pub FindsJoin : PathState (List ℕ) → Type 0
FindsJoin p = (copy : Arrived) (asked : JoinSyn) → next_arrival p ≡ Some copy → IsHeardAsJoin p copy asked → join_token copy.addresses copy.octets ≡ Some asked.token

abbrev pub FindsJoinNext : Actor (List ℕ) → Type 0
FindsJoinNext (App a) = Unit {0}
FindsJoinNext (Path p) = FindsJoin p

-- on each path
pub record FindsJoins (w : WorldState (List ℕ)) : Type 0 where
  pub each : (actor : ℕ) (c : ActorCrew (List ℕ)) → slice_get w.crew actor ≡ Some c → FindsJoinNext c.member

-- at every moment, where the numbers of the start fit
abbrev pub JoinsAreFound : Type 0
JoinsAreFound = (start : Start) (turns : List Turn) → HasRoom start → NumbersFit start → FindsJoins (world_run octets turns (opened_world start))
