-- In which order a path opens: A's SYN, B's answer, and then all else.
use Rattle.std.specs.Prelude.{◌≡◌, ◌<◌, ℕ, true, false, Some, None, List, take}
use Rattle.std.specs.List.{slice_get}
use Rattle.link_trace.specs.declared.sent.Sent.{Sent}
use Rattle.path_core.specs.Octets.{made}
use Rattle.path_segments.specs.Spelled.{PlainSegment}
use Rattle.path_segments.specs.declared.spelling.Spelling.{Spelling}
use Rattle.run_trace.specs.Trace.{trace_of}
use Rattle.sides.specs.declared.side.Side.TheVariants.{A, B}
use Rattle.sides.specs.declared.side.Side.{Side}
use Rattle.stream_lanes.specs.Words.{Has}
use Rattle.world_laws.specs.Openings.{Start, opened_world}
use Rattle.world_laws.specs.Promises.{HasRoom, NumbersFit}
use Rattle.world_laws.specs.Worlds.{Turn}

-- a SYN alone, and one that acknowledges it: position 1 (RFC 9293, section 3.5)
abbrev pub IsSyn : PlainSegment → Type 0
IsSyn sg = (sg.syn ≡ true) × (sg.rst ≡ false) × (sg.acknowledged ≡ None)

abbrev pub IsSynAck : PlainSegment → Type 0
IsSynAck sg = (sg.syn ≡ true) × (sg.acknowledged ≡ Some 1)

-- a segment of a side on the path of this number, as it was made, that is such a one
pub record IsOn (number : ℕ) (side : Side) (Is : PlainSegment → Type 0) (x : Sent) : Type 0 where
  pub path : x.path ≡ number
  pub from : x.from ≡ side
  pub spelling : Spelling
  pub segment : PlainSegment
  pub octets : x.octets ≡ made spelling side segment
  pub is : Is segment

-- A SYN of B's answers one of A's that was sent on its path. What is no SYN and no reset comes behind the answer, and A's SYN of another path
-- behind the answer on path 0.
pub record ComesInOrder (before : List Sent) (x : Sent) : Type 0 where
  pub spelling : Spelling
  pub segment : PlainSegment
  pub octets : x.octets ≡ made spelling x.from segment
  pub answers : x.from ≡ B → segment.syn ≡ true → Has (IsOn x.path A IsSyn) before
  pub behind : segment.syn ≡ false → segment.rst ≡ false → Has (IsOn x.path B IsSynAck) before
  pub joins : x.from ≡ A → segment.syn ≡ true → 0 < x.path → Has (IsOn 0 B IsSynAck) before

-- each segment of a trace, whatever its script does
abbrev pub EachComesInOrder : Type 0
EachComesInOrder =
    (start : Start) (turns : List Turn) → HasRoom start → NumbersFit start → (i : ℕ) (x : Sent)
    → slice_get (trace_of turns (opened_world start)) i ≡ Some x → ComesInOrder (take i (trace_of turns (opened_world start))) x
