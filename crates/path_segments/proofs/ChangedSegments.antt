-- The two changes on octets are changes of the segment that the octets say.
use Rattle.std.proofs.Common.{◌≡◌, refl, sym, ◌∙◌, ap, ℕ, ◌<◌, ◌^◌, Bool, true, not, Option, Some, None, is_some, option_map, List, [], ◌∷◌, ◌++◌, length, map, append_assoc}
use Rattle.std.specs.Prelude.{IfSome, filter, replicate, if◌then◌else◌, Ok}
use Rattle.std.specs.Result.{result_ok}
use Rattle.sides.specs.declared.side.Side.{Side}
use Rattle.sides.specs.Side.{peer}
use Rattle.segment_wire.specs.Options.{option_octets}
use Rattle.segment_wire.specs.Segment.{CanWrite, segment_text}
use Rattle.segment_wire.specs.Reading.{segment_meaning}
use Rattle.segment_wire.specs.Changes as changes
use Rattle.segment_wire.proofs.Again.{segment_meaning-written}
use Rattle.segment_wire.proofs.Appended.{option_octets-append}
use Rattle.segment_wire.proofs.Changed.{others_can_be_carried}
use Rattle.segment_wire.specs.Paths.{addresses_from}
use Rattle.mptcp_options.specs.Value.{OptionValue}
use Rattle.mptcp_options.specs.Text.{option_text}
use Rattle.path_segments.specs.declared.expected.Expected.{Expected}
use Rattle.path_segments.specs.declared.spelling.Spelling.{Spelling}
use Rattle.path_segments.specs.Options.{PlainOption, said_option}
use Rattle.path_segments.specs.Spelled.{PlainSegment, CanSay, options_text, padding, padded, unpadded_options, spelled, spelled_text}
use Rattle.path_segments.specs.Heard.{heard_options, heard_segment, heard_in, first_mss}
use Rattle.path_segments.specs.HeardLent.{IsExpected}
use Rattle.path_segments.specs.Laws.{IsFresh, meant, StrippedIsHeardWithoutOptions, AlteredIsSaid}
use Rattle.path_segments.proofs.Carried.{option_text-IsOption}
use Rattle.path_segments.proofs.NumbersAgain.{position_again}
use Rattle.path_segments.proofs.ListsAgain.{syn_octets, octets-zeros, octets-padded, mss_passed, scale_passed, first_mss-syn}
use Rattle.path_segments.proofs.SegmentsAgain.{four, written, window_again, ack_again}

abbrev is_other : List ℕ → Bool
is_other option = not (changes.is_multipath option)

is_multipath-text : (option : OptionValue) → changes.is_multipath (option_text option) ≡ true
unfolding option_text
is_multipath-text option = refl

module _ (spelling : Spelling) (from : Side) where
  abbrev text_of : PlainOption → List ℕ
  text_of o = option_text (said_option spelling from o)

  octets-options : (options : List PlainOption) (rest : List ℕ)
      → option_octets (options_text spelling from options ++ rest) ≡ map text_of options ++ option_octets rest
  octets-options [] rest = refl
  octets-options (o ∷ options) rest =
      ap option_octets (append_assoc (text_of o) (options_text spelling from options) rest)
      ∙ option_octets-append (text_of o) (options_text spelling from options ++ rest) (option_text-IsOption (said_option spelling from o))
      ∙ ap (λ (t : List (List ℕ)). text_of o ∷ t) (octets-options options rest)

  others-options : (options : List PlainOption) → filter is_other (map text_of options ++ []) ≡ []
  others-options [] = refl
  others-options (o ∷ options) = rw (is_multipath-text (said_option spelling from o)) (others-options options)

  others-syn : (mss : Option ℕ) (rest : List (List ℕ)) → filter is_other (syn_octets mss ++ rest) ≡ syn_octets mss ++ filter is_other rest
  others-syn None rest = refl
  others-syn (Some mss) rest = refl

  octets-others : (mss : Option ℕ) → option_octets (changes.padded (changes.packed (syn_octets mss ++ []))) ≡ syn_octets mss ++ []
  octets-others None = refl
  octets-others (Some mss) = refl

  module _ (expected : Expected) (is : IsExpected expected) (s : PlainSegment) where
    -- what is left of the options
    others_left : option_octets (changes.other_options (padded (unpadded_options spelling from s))) ≡ syn_octets s.mss ++ []
    others_left =
        let count = padding (length (unpadded_options spelling from s)) in
        ap (λ (t : List (List ℕ)). option_octets (changes.padded (changes.packed (filter is_other t))))
        (octets-padded spelling from expected is s
        ∙ ap (λ (t : List (List ℕ)). syn_octets s.mss ++ t)
        (octets-options s.options (replicate count 0) ∙ ap (λ (t : List (List ℕ)). map text_of s.options ++ t) (octets-zeros count)))
        ∙ ap (λ (t : List (List ℕ)). option_octets (changes.padded (changes.packed t)))
        (others-syn s.mss (map text_of s.options ++ []) ∙ ap (λ (t : List (List ℕ)). syn_octets s.mss ++ t) (others-options s.options))
        ∙ octets-others s.mss

    no_options : (mss : Option ℕ) → heard_options spelling from expected (syn_octets mss ++ []) ≡ []
    no_options None = refl
    no_options (Some mss) = rw (mss_passed mss spelling.checksums, scale_passed spelling.checksums) refl

    mss_left : (mss : Option ℕ) (syn : Bool) → is_some mss ≡ syn → IfSome mss (λ n. n < 2 ^ 16)
        → (if syn then first_mss (syn_octets mss ++ []) else None) ≡ mss
    mss_left None syn e fits = rw (sym e) refl
    mss_left (Some mss) syn e fits = rw (sym e) (first_mss-syn mss [] fits)

module _ (spelling : Spelling) (from : Side) (s : PlainSegment) (can : CanSay spelling from s) where
  meaning : segment_meaning (addresses_from spelling.path from) (spelled_text spelling from s) ≡ Ok (spelled spelling from s)
  meaning =
      segment_meaning-written (addresses_from spelling.path from) (spelled spelling from s)
      (four spelling.path from) (four spelling.path (peer from)) (written spelling from s can)

  text-stripped : changes.text_stripped (addresses_from spelling.path from) (spelled_text spelling from s)
      ≡ segment_text (addresses_from spelling.path from) (changes.stripped (spelled spelling from s))
  unfolding changes.text_stripped
  text-stripped = ap (changes.changed_text changes.stripped (addresses_from spelling.path from) (spelled_text spelling from s)) meaning

  stripped-written : CanWrite (changes.stripped (spelled spelling from s))
  stripped-written =
      let can_write = written spelling from s can in
      record { head = can_write.head; carried = others_can_be_carried (spelled spelling from s).options (spelled spelling from s).payload can_write.carried }

  -- what the octets say without these options
  pub stripped_means : (expected : Expected)
      → heard_in spelling from expected (changes.text_stripped (addresses_from spelling.path from) (spelled_text spelling from s))
      ≡ Some (heard_segment spelling from expected (changes.stripped (spelled spelling from s)))
  stripped_means expected =
      ap (heard_in spelling from expected) text-stripped
      ∙ ap (λ r. option_map (heard_segment spelling from expected) (result_ok r))
      (segment_meaning-written (addresses_from spelling.path from) (changes.stripped (spelled spelling from s))
      (four spelling.path from) (four spelling.path (peer from)) stripped-written)

  module _ (expected : Expected) (is : IsExpected expected) (fresh : IsFresh spelling from expected s) where
    segment-stripped : heard_segment spelling from expected (changes.stripped (spelled spelling from s)) ≡ record (meant s) { options = [] }
    unfolding spelled
    segment-stripped =
        rw (
          position_again spelling from expected.edge s.position fresh.position,
          ack_again spelling (peer from) expected.unacknowledged s.acknowledged fresh.acknowledged,
          window_again s.syn s.window,
          others_left spelling from expected is s,
          mss_left spelling from expected is s s.mss s.syn fresh.syn fresh.mss,
          no_options spelling from expected is s s.mss,
        ) refl

    stripped-heard : heard_in spelling from expected (changes.text_stripped (addresses_from spelling.path from) (spelled_text spelling from s))
        ≡ Some (record (meant s) { options = [] })
    stripped-heard = stripped_means expected ∙ ap (λ t. Some t) segment-stripped

  altered-spelled : changes.altered (spelled spelling from s) ≡ spelled spelling from (record s { payload = changes.with_turned_bit s.payload })
  unfolding spelled
  altered-spelled = refl

  altered-said : changes.text_altered (addresses_from spelling.path from) (spelled_text spelling from s)
      ≡ spelled_text spelling from (record s { payload = changes.with_turned_bit s.payload })
  unfolding changes.text_altered
  altered-said =
      ap (changes.changed_text changes.altered (addresses_from spelling.path from) (spelled_text spelling from s)) meaning
      ∙ ap (segment_text (addresses_from spelling.path from)) altered-spelled

pub stripped_is_heard : StrippedIsHeardWithoutOptions
stripped_is_heard spelling from expected s can is fresh = stripped-heard spelling from s can expected is fresh

pub altered_is_said : AlteredIsSaid
altered_is_said spelling from s can = altered-said spelling from s can
