-- The trace of turns: the segments that they hand to the links, in order.
use Rattle.std.specs.Prelude.{◌≡◌, ◌⊎◌, IsOk, ℕ, zero, suc, Bool, true, false, Option, option_map, option_and_then, List, [], ◌∷◌, ◌++◌, take}
use Rattle.std.specs.Option.{option_to_list}
use Rattle.path_core.specs.Looking.{departing}
use Rattle.path_core.specs.declared.looking.Departing.{Departing}
use Rattle.path_core.specs.Octets.{octets}
use Rattle.path_core.specs.State.{PathState, path_of}
use Rattle.segment_wire.specs.Reading.{segment_meaning}
use Rattle.segment_wire.specs.Paths.{addresses_from}
use Rattle.run_trace.specs.declared.making.TraceFault.{TraceFault}
use Rattle.run_trace.specs.declared.making.TraceFault.TheVariants as fault
use Rattle.link_trace.specs.declared.sent.Sent.{Sent}
use Rattle.world_core.specs.Kept.{Kept, standing}
use Rattle.world_core.specs.Looking.{path_at}
use Rattle.world_laws.specs.Worlds.{WorldState, Turn, after_turn, all_over, is_going, world_run}

-- at the path's tick
abbrev pub sent_as : PathState (List ℕ) → Departing → Sent
sent_as p d = record {
  tick = p.clock;
  path = path_of p;
  from = d.from;
  number = d.number;
  octets = d.octets;
  fate = d.fate;
}

-- the segment that the path's next step hands to the link, if it hands one
abbrev pub sent_by : PathState (List ℕ) → Option Sent
sent_by p = option_map (sent_as p) (departing p)

-- the segment that the actor's next step hands to a link, if it hands one
abbrev pub sent_next : ℕ → WorldState (List ℕ) → Option Sent
sent_next actor w = option_and_then sent_by (path_at actor w.crew)

-- a round's end sends nothing
abbrev pub sent_at : Turn → WorldState (List ℕ) → List Sent
sent_at (Turn.Step actor) w = option_to_list (sent_next actor w)
sent_at Turn.Round w = []

-- the segments that these turns hand to the links, in order
abbrev pub trace_of : List Turn → WorldState (List ℕ) → List Sent
trace_of [] w = []
trace_of (turn ∷ turns) w = sent_at turn w ++ trace_of turns (after_turn octets turn w)

-- the octets are a segment between the addresses of its path
abbrev pub IsWhole : Sent → Type 0
IsWhole s = IsOk (segment_meaning (addresses_from s.path s.from) s.octets)

-- an actor whose turn hasn't ended makes the step; each turn ended where the round does
abbrev pub can_be_made : Turn → WorldState (List ℕ) → Bool
can_be_made (Turn.Step actor) w = is_going actor w
can_be_made Turn.Round w = all_over w.crew

-- the turn of this place is the first that can't be made
abbrev pub StopsAt : ℕ → List Turn → WorldState (List ℕ) → Type 0
StopsAt place [] w = ⊥
StopsAt zero (turn ∷ turns) w = can_be_made turn w ≡ false
StopsAt (suc place) (turn ∷ turns) w = (can_be_made turn w ≡ true) × StopsAt place turns (after_turn octets turn w)

-- where the turn stands that can't be made
abbrev pub place_of : TraceFault → ℕ
place_of (fault.Turn place) = place
place_of fault.Memory = 0

-- why these turns weren't all made; memory may always be wanting
abbrev pub IsTraceFault : List Turn → WorldState (List ℕ) → TraceFault → Type 0
IsTraceFault turns w (fault.Turn place) = StopsAt place turns w
IsTraceFault turns w fault.Memory = Unit {0}

-- the world failed for want of memory, or is this one
abbrev pub FailedOrIs : Kept → Kept → Type 0
FailedOrIs new old = (new.failed ≡ true) ⊎ (new ≡ old)

-- the world stands behind the first `count` of the turns
abbrev pub StandsBehind : ℕ → List Turn → WorldState (List ℕ) → Kept → Type 0
StandsBehind count turns w v = v ≡ standing (world_run octets (take count turns) w)

-- how the world stands that turns were made in, where these weren't all made: behind those before the one that can't be made;
-- where memory was wanting, it has failed, or stands behind some first ones
abbrev pub StandsAtFault : TraceFault → List Turn → WorldState (List ℕ) → Kept → Type 0
StandsAtFault (fault.Turn place) turns w v = StandsBehind place turns w v
StandsAtFault fault.Memory turns w v = (v.failed ≡ true) ⊎ ((count : ℕ) × StandsBehind count turns w v)
