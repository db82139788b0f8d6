-- Options, heard again.
use Rattle.std.proofs.Common.{◌≡◌, refl, ap, ℕ, Option, Some, None, option_map}
use Rattle.mptcp_options.specs.declared.dss.DssMap.{DssMap}
use Rattle.path_segments.specs.declared.expected.Expected.{Expected}
use Rattle.path_segments.specs.declared.segment.PathOption.TheVariants.{Capable, Join, Dss, AddAddr, Remove, Prio, Fail, FastClose, Reset}
use Rattle.path_segments.specs.declared.segment.PathMapping.{PathMapping}
use Rattle.path_segments.specs.declared.segment.PathMapping.TheVariants.{Bytes, End, Infinite}
use Rattle.path_segments.specs.declared.spelling.Spelling.{Spelling}
use Rattle.path_segments.specs.Spelling.{data_number}
use Rattle.path_segments.specs.Options.{PlainOption, said_option, said_mapping, ends_stream, mapping_ends_stream}
use Rattle.path_segments.specs.Heard.{place_heard, heard_mapping, heard_option}
use Rattle.path_segments.specs.HeardLent.{IsExpected}
use Rattle.path_segments.specs.Laws.{meant_mapping, meant_option, IsPlaceFresh, IsMappingFresh, IsOptionFresh}
use Rattle.path_segments.proofs.NumbersAgain.{place_again, whole_again, relative_again}
use Rattle.std.specs.Prelude.{IfSome}
use Rattle.sides.specs.declared.side.Side.{Side}
use Rattle.sides.specs.Side.{peer}

module _ (spelling : Spelling) (from : Side) (expected : Expected) (is : IsExpected expected) where
  mapping_again : (m : PathMapping ℕ) → IsMappingFresh spelling.short expected m
      → heard_mapping spelling from expected (said_mapping spelling from m) (ends_stream m) ≡ meant_mapping m
  unfolding heard_mapping
  mapping_again (Bytes place position len fin checksum) fresh =
      rw (place_again spelling from expected.place place is.place fresh.0, relative_again expected.edge position fresh.1, fresh.2.some, fresh.2.no_end) refl
  mapping_again (End place checksum) fresh = rw (place_again spelling from expected.place place is.place fresh) refl
  mapping_again (Infinite place position) fresh =
      rw (place_again spelling from expected.place place is.place fresh.0, relative_again expected.edge position fresh.1) refl

  mapping_again_if : (m : Option (PathMapping ℕ)) → IfSome m (IsMappingFresh spelling.short expected)
      → option_map (λ (map : DssMap). heard_mapping spelling from expected map (mapping_ends_stream m)) (option_map (said_mapping spelling from) m)
      ≡ option_map meant_mapping m
  mapping_again_if None fresh = refl
  mapping_again_if (Some m) fresh = ap (λ n. Some n) (mapping_again m fresh)

  ack_again_if : (next : Option ℕ) → IfSome next (IsPlaceFresh spelling.short expected.told)
      → option_map (place_heard spelling (peer from) expected.told) (option_map (data_number spelling (peer from)) next)
      ≡ option_map (λ n. Some n) next
  ack_again_if None fresh = refl
  ack_again_if (Some next) fresh = ap (λ n. Some n) (place_again spelling (peer from) expected.told next is.told fresh)

  pub option_again : (o : PlainOption) → IsOptionFresh spelling.short expected o
      → heard_option spelling from expected (said_option spelling from o) ≡ meant_option o
  option_again (Dss next mapping) fresh = rw (ack_again_if next fresh.0, mapping_again_if mapping fresh.1) refl
  option_again (Fail place) fresh = ap Fail (whole_again spelling (peer from) expected.told place is.told fresh.below)
  option_again _ fresh = refl
