-- What was meant tells the segment.
use Rattle.std.proofs.Common.{◌≡◌, refl, sym, ◌∙◌, ap, ℕ, Option, Some, None, option_map, unwrap_or, List, [], ◌∷◌, map}
use Rattle.path_segments.specs.declared.position.HeardPosition.{HeardPosition}
use Rattle.path_segments.specs.declared.position.HeardPosition.TheVariants.{At, Nowhere}
use Rattle.path_segments.specs.declared.segment.PathSegment.{PathSegment}
use Rattle.path_segments.specs.declared.segment.PathOption.{PathOption}
use Rattle.path_segments.specs.declared.segment.PathOption.TheVariants.{Capable, Join, Dss, AddAddr, Remove, Prio, Fail, FastClose, Reset}
use Rattle.path_segments.specs.declared.segment.PathMapping.{PathMapping}
use Rattle.path_segments.specs.declared.segment.PathMapping.TheVariants.{Bytes, End, Infinite}
use Rattle.path_segments.specs.Options.{PlainOption}
use Rattle.path_segments.specs.Spelled.{PlainSegment}
use Rattle.path_segments.specs.Heard.{heard_in}
use Rattle.path_segments.specs.Laws.{meant_mapping, meant_option, meant, window_told, DiffersInOctets}
use Rattle.path_segments.proofs.SegmentsAgain.{heard_as_meant}

abbrev HeardPlain : Type 0
HeardPlain = PathSegment HeardPosition (List (PathOption (Option ℕ) (List ℕ))) (List ℕ)

-- each number back again
abbrev number : Option ℕ → ℕ
number n = unwrap_or n 0

abbrev position_of : HeardPosition → ℕ
position_of (At position) = position
position_of (Nowhere number) = 0

abbrev back_mapping : PathMapping (Option ℕ) → PathMapping ℕ
back_mapping (Bytes place position len fin checksum) = Bytes (number place) (number position) len fin checksum
back_mapping (End place checksum) = End (number place) checksum
back_mapping (Infinite place position) = Infinite (number place) (number position)

abbrev back_option : PathOption (Option ℕ) (List ℕ) → PlainOption
back_option (Capable flag_a flag_c keys) = Capable flag_a flag_c keys
back_option (Join form) = Join form
back_option (Dss next mapping) = Dss (option_map number next) (option_map back_mapping mapping)
back_option (AddAddr echo id address port hmac) = AddAddr echo id address port hmac
back_option (Remove ids) = Remove ids
back_option (Prio backup) = Prio backup
back_option (Fail place) = Fail (number place)
back_option (FastClose key) = FastClose key
back_option (Reset transient reason) = Reset transient reason

abbrev back : HeardPlain → PlainSegment
back s = record {
  position = position_of s.position;
  acknowledged = option_map position_of s.acknowledged;
  syn = s.syn;
  fin = s.fin;
  rst = s.rst;
  window = s.window;
  mss = s.mss;
  options = map back_option s.options;
  payload = s.payload;
}

mapping_back : (m : PathMapping ℕ) → back_mapping (meant_mapping m) ≡ m
mapping_back (Bytes place position len fin checksum) = refl
mapping_back (End place checksum) = refl
mapping_back (Infinite place position) = refl

number_back_if : (n : Option ℕ) → option_map number (option_map (λ m. Some m) n) ≡ n
number_back_if None = refl
number_back_if (Some n) = refl

position_back_if : (n : Option ℕ) → option_map position_of (option_map (λ m. At m) n) ≡ n
position_back_if None = refl
position_back_if (Some n) = refl

mapping_back_if : (m : Option (PathMapping ℕ)) → option_map back_mapping (option_map meant_mapping m) ≡ m
mapping_back_if None = refl
mapping_back_if (Some m) = ap (λ n. Some n) (mapping_back m)

option_back : (o : PlainOption) → back_option (meant_option o) ≡ o
option_back (Dss next mapping) = rw (number_back_if next, mapping_back_if mapping) refl
option_back _ = refl

options_back : (options : List PlainOption) → map back_option (map meant_option options) ≡ options
options_back [] = refl
options_back (o ∷ options) = rw (option_back o, options_back options) refl

segment_back : (s : PlainSegment) → window_told s.syn s.window ≡ s.window → back (meant s) ≡ s
segment_back s told = rw (position_back_if s.acknowledged, told, options_back s.options) refl

some_is : {X : Type 0} (x y : X) → Some x ≡ Some y → x ≡ y
some_is x y e = cc

pub differs : DiffersInOctets
differs spelling from expected s t can_s can_t is fresh_s fresh_t told_s told_t same =
    sym (segment_back s told_s)
    ∙ ap back (some_is (meant s) (meant t)
    (sym (heard_as_meant spelling from expected s can_s is fresh_s)
    ∙ ap (heard_in spelling from expected) same
    ∙ heard_as_meant spelling from expected t can_t is fresh_t))
    ∙ segment_back t told_t
