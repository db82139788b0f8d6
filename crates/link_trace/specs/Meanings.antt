-- What the octets of a trace mean, and what its SYNs tell: from which numbers those of a direction count, and how its windows are scaled.
use Rattle.std.specs.Prelude.{ℕ, ◌==◌, ◌&&◌, if◌then◌else◌, Option, Some, None, Result, Ok, Err, List, [], ◌∷◌}
use Rattle.std.specs.Option.{option_or}
use Rattle.sides.specs.declared.side.Side.{Side}
use Rattle.link_script.specs.Places.{same_side}
use Rattle.segment_wire.specs.declared.reading.SegmentFault.{SegmentFault}
use Rattle.segment_wire.specs.Options.{option_octets, window_scale_of}
use Rattle.segment_wire.specs.Reading.{segment_meaning}
use Rattle.segment_wire.specs.Segment.{Segment}
use Rattle.segment_wire.specs.Paths.{addresses_from}
use Rattle.link_trace.specs.declared.meanings.Syn.{Syn}
use Rattle.link_trace.specs.declared.sent.Sent.{Sent}

-- what the octets mean between the addresses of the path
abbrev pub meaning_in : Sent → Result Segment SegmentFault
meaning_in s = segment_meaning (addresses_from s.path s.from) s.octets

-- the first window scale among these options (RFC 7323, section 2.2)
abbrev pub scale_in : List (List ℕ) → Option ℕ
scale_in [] = None
scale_in (option ∷ options) = option_or (window_scale_of option) (scale_in options)

-- the number of a SYN, and its window scale
abbrev pub syn_in : Result Segment SegmentFault → Option Syn
syn_in (Ok segment) =
    if segment.head.syn then Some (record { number = segment.head.seq; scale = scale_in (option_octets segment.options) }) else None
syn_in (Err fault) = None

-- of a segment of this side on this path
abbrev pub syn_of : ℕ → Side → Sent → Option Syn
syn_of path from s = if s.path == path && same_side s.from from then syn_in (meaning_in s) else None

-- of the first SYN of a side on a path
abbrev pub first_syn : ℕ → Side → List Sent → Option Syn
first_syn path from [] = None
first_syn path from (s ∷ trace) = option_or (syn_of path from s) (first_syn path from trace)

-- the own scale, where the peer tells one too
abbrev pub both : Option ℕ → Option ℕ → Option ℕ
both own None = None
both own (Some scale) = own

-- how many bits the windows of a side are shifted by: both SYNs tell such a number (RFC 7323, section 1.3)
abbrev pub agreed : Option Syn → Option Syn → Option ℕ
agreed (Some own) (Some peer) = both own.scale peer.scale
agreed _ _ = None
