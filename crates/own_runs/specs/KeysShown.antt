-- Which segments of a run show both keys.
use Rattle.std.specs.Prelude.{◌≡◌, ℕ, Bool, true, false, Some, List, take}
use Rattle.std.specs.List.{list_any, slice_get}
use Rattle.link_trace.specs.declared.sent.Sent.{Sent}
use Rattle.mptcp_options.specs.declared.capable.CapableKeys.TheVariants.{Both, Sender, WithData}
use Rattle.path_core.specs.Octets.{made}
use Rattle.path_segments.specs.Options.{PlainOption}
use Rattle.path_segments.specs.Spelled.{PlainSegment}
use Rattle.path_segments.specs.declared.segment.PathMapping.TheVariants.{Bytes, End}
use Rattle.path_segments.specs.declared.segment.PathOption.TheVariants.{Capable, Dss}
use Rattle.path_segments.specs.declared.spelling.Spelling.{Spelling}
use Rattle.run_trace.specs.Trace.{trace_of}
use Rattle.sides.specs.declared.side.Side.TheVariants.{A, B}
use Rattle.sides.specs.declared.side.Side.{Side}
use Rattle.stream_lanes.specs.Words.{Has}
use Rattle.world_laws.specs.NeverFalls.{IsWhole}
use Rattle.world_laws.specs.Openings.{Start, opened_world}
use Rattle.world_laws.specs.Promises.{IsPlain, NumbersFit}
use Rattle.world_laws.specs.Worlds.{Turn}

-- MP_CAPABLE with both keys, with and without data (RFC 8684, section 3.1)
abbrev pub shows_keys : PlainOption → Bool
shows_keys (Capable flag_a flag_c (Both sender receiver)) = true
shows_keys (Capable flag_a flag_c (WithData sender receiver len checksum)) = true
shows_keys _ = false

-- the one with data
abbrev pub maps_key : PlainOption → Bool
maps_key (Capable flag_a flag_c (WithData sender receiver len checksum)) = true
maps_key _ = false

-- MP_CAPABLE with the key of its sender alone
abbrev pub shows_key : PlainOption → Bool
shows_key (Capable flag_a flag_c (Sender key)) = true
shows_key _ = false

-- Both keys are shown by A, on no SYN and no reset, and with data on path 0 alone; there each SYN of B shows its key.
pub record KeysShownSo (path : ℕ) (s : Side) (sg : PlainSegment) : Type 0 where
  pub keys : list_any shows_keys sg.options ≡ true → (s ≡ A) × (sg.syn ≡ false) × (sg.rst ≡ false)
  pub first : list_any maps_key sg.options ≡ true → path ≡ 0
  pub shows : s ≡ B → path ≡ 0 → sg.syn ≡ true → list_any shows_key sg.options ≡ true

-- the segment, as it was made
pub record ShowsKeysSo (x : Sent) : Type 0 where
  pub spelling : Spelling
  pub segment : PlainSegment
  pub octets : x.octets ≡ made spelling x.from segment
  pub shows : KeysShownSo x.path x.from segment

abbrev pub EachShowsKeysSo : Type 0
EachShowsKeysSo =
    (start : Start) (turns : List Turn) → IsPlain start → IsWhole start → NumbersFit start
    → (i : ℕ) (x : Sent) → slice_get (trace_of turns (opened_world start)) i ≡ Some x → ShowsKeysSo x

-- a segment of A on path 0, as it was made, that shows both keys
pub record ShowsBothKeys (x : Sent) : Type 0 where
  pub path : x.path ≡ 0
  pub from : x.from ≡ A
  pub spelling : Spelling
  pub segment : PlainSegment
  pub octets : x.octets ≡ made spelling A segment
  pub shows : list_any shows_keys segment.options ≡ true

-- a mapping of octets, and the DATA_FIN (RFC 8684, sections 3.1, 3.3.1 and 3.3.3)
abbrev pub bears_option : PlainOption → Bool
bears_option (Dss next (Some (Bytes place position len fin checksum))) = true
bears_option (Dss next (Some (End place checksum))) = true
bears_option (Capable flag_a flag_c (WithData sender receiver len checksum)) = true
bears_option _ = false

-- Where the segment, as it was made, has such an option, and is A's, it comes behind one that shows both keys.
pub record ComesBehindKeys (before : List Sent) (x : Sent) : Type 0 where
  pub spelling : Spelling
  pub segment : PlainSegment
  pub octets : x.octets ≡ made spelling x.from segment
  pub behind : x.from ≡ A → list_any bears_option segment.options ≡ true → Has ShowsBothKeys before

abbrev pub EachComesBehindKeys : Type 0
EachComesBehindKeys =
    (start : Start) (turns : List Turn) → IsPlain start → IsWhole start → NumbersFit start
    → (i : ℕ) (x : Sent) → slice_get (trace_of turns (opened_world start)) i ≡ Some x
    → ComesBehindKeys (take i (trace_of turns (opened_world start))) x
