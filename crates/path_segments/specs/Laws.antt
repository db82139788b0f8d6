-- What is written is heard as it was meant.
use Rattle.std.specs.Prelude.{◌≡◌, ℕ, ◌+◌, ◌*◌, ◌/◌, ◌^◌, ◌<◌, min, Bool, true, false, is_some, ◌&&◌, ◌==◌, if◌then◌else◌, Option, Some, option_map, IfSome, List, [], map, All, pos, ◌-ℤ◌}
use Rattle.sides.specs.declared.side.Side.{Side}
use Rattle.seq_units.specs.Number.{IsNear}
use Rattle.segment_wire.specs.Changes.{with_turned_bit, text_stripped, text_altered}
use Rattle.segment_wire.specs.Paths.{addresses_from}
use Rattle.mptcp_options.specs.Text.{Fits}
use Rattle.path_segments.specs.declared.expected.Expected.{Expected}
use Rattle.path_segments.specs.declared.position.HeardPosition.{HeardPosition}
use Rattle.path_segments.specs.declared.position.HeardPosition.TheVariants.{At}
use Rattle.path_segments.specs.declared.segment.PathSegment.{PathSegment}
use Rattle.path_segments.specs.declared.segment.PathOption.{PathOption}
use Rattle.path_segments.specs.declared.segment.PathOption.TheVariants.{Capable, Join, Dss, AddAddr, Remove, Prio, Fail, FastClose, Reset}
use Rattle.path_segments.specs.declared.segment.PathMapping.{PathMapping}
use Rattle.path_segments.specs.declared.segment.PathMapping.TheVariants.{Bytes, End, Infinite}
use Rattle.path_segments.specs.declared.spelling.Spelling.{Spelling}
use Rattle.path_segments.specs.Options.{PlainOption, said_option, relative_number}
use Rattle.path_segments.specs.Spelled.{PlainSegment, CanSay, spelled_text}
use Rattle.path_segments.specs.Heard.{heard_in}
use Rattle.path_segments.specs.HeardLent.{IsExpected}

-- each number means what it was made of
abbrev pub meant_mapping : PathMapping ℕ → PathMapping (Option ℕ)
meant_mapping (Bytes place position len fin checksum) = Bytes (Some place) (Some position) len fin checksum
meant_mapping (End place checksum) = End (Some place) checksum
meant_mapping (Infinite place position) = Infinite (Some place) (Some position)

-- each number of an option means what it was made of
abbrev pub meant_option : PlainOption → PathOption (Option ℕ) (List ℕ)
meant_option (Capable flag_a flag_c keys) = Capable flag_a flag_c keys
meant_option (Join form) = Join form
meant_option (Dss next mapping) = Dss (option_map (λ n. Some n) next) (option_map meant_mapping mapping)
meant_option (AddAddr echo id address port hmac) = AddAddr echo id address port hmac
meant_option (Remove ids) = Remove ids
meant_option (Prio backup) = Prio backup
meant_option (Fail place) = Fail (Some place)
meant_option (FastClose key) = FastClose key
meant_option (Reset transient reason) = Reset transient reason

-- a window is heard as the octets tell it
abbrev pub window_told : Bool → ℕ → ℕ
window_told syn window = if syn then min 65535 window else 32 * (window / 32)

-- each number of a segment means what it was made of, and its window is the one that the octets tell
abbrev pub meant : PlainSegment → PathSegment HeardPosition (List (PathOption (Option ℕ) (List ℕ))) (List ℕ)
meant s = record {
  position = At s.position;
  acknowledged = option_map (λ n. At n) s.acknowledged;
  syn = s.syn;
  fin = s.fin;
  rst = s.rst;
  window = window_told s.syn s.window;
  mss = s.mss;
  options = map meant_option s.options;
  payload = s.payload;
}

-- ---- fresh: near what the hearer expects

-- a position is less than half the numbers away
abbrev pub IsPositionFresh : ℕ → ℕ → Type 0
IsPositionFresh expected position = IsNear (2 ^ 32) (pos position -ℤ pos expected)

-- a place that is sent with four octets is less than half the numbers away; each has a position below 2^62 behind it
pub record IsPlaceFresh (short : Bool) (expected place : ℕ) : Type 0 where
  pub below : place + 1 < 2 ^ 62
  pub near : short ≡ true → IsNear (2 ^ 32) (pos place -ℤ pos expected)

-- a mapping of bytes is none of length 0, and not the one that a DATA_FIN without payload has
pub record IsBytes (position len : ℕ) (fin : Bool) : Type 0 where
  pub some : (len == 0) ≡ false
  pub no_end : (fin && (relative_number position == 0 && len == 1)) ≡ false

-- the places and positions of a mapping are so
abbrev pub IsMappingFresh : Bool → Expected → PathMapping ℕ → Type 0
IsMappingFresh short expected (Bytes place position len fin checksum) =
    IsPlaceFresh short expected.place place × IsPositionFresh expected.edge position × IsBytes position len fin
IsMappingFresh short expected (End place checksum) = IsPlaceFresh short expected.place place
IsMappingFresh short expected (Infinite place position) =
    IsPlaceFresh short expected.place place × IsPositionFresh expected.edge position

-- the numbers of a DSS are fresh, and the place of MP_FAIL, which has eight octets always; other options have none
abbrev pub IsOptionFresh : Bool → Expected → PlainOption → Type 0
IsOptionFresh short expected (Dss next mapping) =
    IfSome next (IsPlaceFresh short expected.told) × IfSome mapping (IsMappingFresh short expected)
IsOptionFresh short expected (Fail place) = IsPlaceFresh false expected.told place
IsOptionFresh short expected _ = Unit {0}

-- an option whose numbers fit their fields, near what is expected
pub record IsHearable (spelling : Spelling) (from : Side) (expected : Expected) (o : PlainOption) : Type 0 where
  pub fits : Fits (said_option spelling from o)
  pub fresh : IsOptionFresh spelling.short expected o

-- the positions of a segment are near, and its options can be heard
pub record IsFresh (spelling : Spelling) (from : Side) (expected : Expected) (s : PlainSegment) : Type 0 where
  pub position : IsPositionFresh expected.edge s.position
  pub acknowledged : IfSome s.acknowledged (IsPositionFresh expected.unacknowledged)
  -- a SYN has a maximum segment size, and no other segment
  pub syn : is_some s.mss ≡ s.syn
  pub mss : IfSome s.mss (λ n. n < 2 ^ 16)
  pub options : All (IsHearable spelling from expected) s.options

-- what is written is heard as it was meant
abbrev pub IsHeardAsMeant : Type 0
IsHeardAsMeant = (spelling : Spelling) (from : Side) (expected : Expected) (s : PlainSegment)
    → CanSay spelling from s → IsExpected expected → IsFresh spelling from expected s
    → heard_in spelling from expected (spelled_text spelling from s) ≡ Some (meant s)

-- the octets can tell the window
abbrev pub IsWindowTold : PlainSegment → Type 0
IsWindowTold s = window_told s.syn s.window ≡ s.window

-- two segments that are both fresh, with windows that octets can tell, have the same octets only if they are the same
abbrev pub DiffersInOctets : Type 0
DiffersInOctets = (spelling : Spelling) (from : Side) (expected : Expected) (s t : PlainSegment)
    → CanSay spelling from s → CanSay spelling from t → IsExpected expected
    → IsFresh spelling from expected s → IsFresh spelling from expected t → IsWindowTold s → IsWindowTold t
    → spelled_text spelling from s ≡ spelled_text spelling from t → s ≡ t

-- ---- the two changes that a path can make on its way

-- without its options of Multipath TCP a segment is heard as it was meant, but for these options
abbrev pub StrippedIsHeardWithoutOptions : Type 0
StrippedIsHeardWithoutOptions = (spelling : Spelling) (from : Side) (expected : Expected) (s : PlainSegment)
    → CanSay spelling from s → IsExpected expected → IsFresh spelling from expected s
    → heard_in spelling from expected (text_stripped (addresses_from spelling.path from) (spelled_text spelling from s))
    ≡ Some (record (meant s) { options = [] })

-- with a bit of its payload turned it is the segment of that payload
abbrev pub AlteredIsSaid : Type 0
AlteredIsSaid = (spelling : Spelling) (from : Side) (s : PlainSegment) → CanSay spelling from s
    → text_altered (addresses_from spelling.path from) (spelled_text spelling from s)
    ≡ spelled_text spelling from (record s { payload = with_turned_bit s.payload })
