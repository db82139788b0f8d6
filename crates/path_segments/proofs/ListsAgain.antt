-- The options of a segment that was written, one after the other.
use Rattle.std.proofs.Common.{◌≡◌, refl, sym, ◌∙◌, ap, ℕ, zero, suc, ◌<◌, ◌^◌, Bool, Option, Some, None, is_some, List, [], ◌∷◌, ◌++◌, length, map, append_assoc, arith}
use Rattle.std.specs.Prelude.{All, IfSome, replicate, if◌then◌else◌}
use Rattle.std.specs.Int.{w16, to_be_bytes}
use Rattle.std.proofs.lemmas.List.Elements.{All-head, All-tail}
use Rattle.sides.specs.declared.side.Side.{Side}
use Rattle.segment_wire.specs.Options.{plain_options, option_octets}
use Rattle.segment_wire.proofs.Fronts.{later, plain_options-padding}
use Rattle.segment_wire.proofs.Appended.{IsOption, option_octets-append}
use Rattle.mptcp_options.specs.Value.{Meaning, Unknown}
use Rattle.mptcp_options.specs.Text.{option_text}
use Rattle.mptcp_options.specs.Meaning.{option_meaning, is_of_another_kind}
use Rattle.mptcp_options.proofs.OptionLaws.{read_again}
use Rattle.path_segments.specs.declared.expected.Expected.{Expected}
use Rattle.path_segments.specs.declared.spelling.Spelling.{Spelling}
use Rattle.path_segments.specs.Options.{PlainOption, said_option}
use Rattle.path_segments.specs.Spelled.{PlainSegment, syn_text, options_text, padding, padded, unpadded_options, CanSayOption}
use Rattle.path_segments.specs.Heard.{known_or, known_in, heard_option, heard_options, first_mss}
use Rattle.path_segments.specs.HeardLent.{IsExpected}
use Rattle.path_segments.specs.Laws.{meant_option, IsHearable}
use Rattle.path_segments.proofs.Carried.{option_text-IsOption}
use Rattle.path_segments.proofs.OptionsAgain.{option_again}

octets-later : (n : ℕ) (options : List (ℕ × List ℕ)) → map (λ (o : ℕ × List ℕ). o.1) (later n options) ≡ map (λ (o : ℕ × List ℕ). o.1) options
octets-later n [] = refl
octets-later n (o ∷ options) = ap (λ (t : List (List ℕ)). o.1 ∷ t) (octets-later n options)

octets-no_operation : (rest : List ℕ) → option_octets (1 ∷ rest) ≡ option_octets rest
octets-no_operation rest = ap (map (λ (o : ℕ × List ℕ). o.1)) (plain_options-padding (1 ∷ rest) refl) ∙ octets-later 1 (plain_options rest)

pub octets-zeros : (n : ℕ) → option_octets (replicate n 0) ≡ []
octets-zeros zero = refl
octets-zeros (suc n) = refl

abbrev pub mss_option : ℕ → List ℕ
mss_option mss = 2 ∷ 4 ∷ to_be_bytes w16 mss

abbrev pub scale_option : List ℕ
scale_option = 3 ∷ 3 ∷ 5 ∷ []

mss-IsOption : (mss : ℕ) → IsOption (mss_option mss)
mss-IsOption mss = record { kind = omega arith; len = refl; low = omega arith }

scale-IsOption : IsOption scale_option
scale-IsOption = record { kind = omega arith; len = refl; low = omega arith }

-- what stands before the options of Multipath TCP
abbrev pub syn_octets : Option ℕ → List (List ℕ)
syn_octets None = []
syn_octets (Some mss) = mss_option mss ∷ scale_option ∷ []

octets-syn : (mss : Option ℕ) (rest : List ℕ) → option_octets (syn_text mss ++ rest) ≡ syn_octets mss ++ option_octets rest
octets-syn None rest = refl
octets-syn (Some mss) rest =
    option_octets-append (mss_option mss) (scale_option ++ 1 ∷ rest) (mss-IsOption mss)
    ∙ ap (λ (t : List (List ℕ)). mss_option mss ∷ t)
    (option_octets-append scale_option (1 ∷ rest) scale-IsOption ∙ ap (λ (t : List (List ℕ)). scale_option ∷ t) (octets-no_operation rest))

pub mss_passed : (mss : ℕ) (checksums : Bool) → option_meaning (mss_option mss) checksums ≡ Unknown
unfolding option_meaning is_of_another_kind
mss_passed mss checksums = refl

pub scale_passed : (checksums : Bool) → option_meaning scale_option checksums ≡ Unknown
unfolding option_meaning is_of_another_kind
scale_passed checksums = refl

pub known-syn : (mss : Option ℕ) (checksums : Bool) (rest : List (List ℕ)) → known_in checksums (syn_octets mss ++ rest) ≡ known_in checksums rest
known-syn None checksums rest = refl
known-syn (Some mss) checksums rest = rw (mss_passed mss checksums, scale_passed checksums) refl

pub first_mss-syn : (mss : ℕ) (rest : List (List ℕ)) → mss < 2 ^ 16 → first_mss (syn_octets (Some mss) ++ rest) ≡ Some mss
first_mss-syn mss rest fits = ap (λ (n : ℕ). Some n) (omega arith)

module _ (spelling : Spelling) (from : Side) (expected : Expected) (is : IsExpected expected) where
  known-options : (options : List PlainOption) (rest : List ℕ) → All (CanSayOption spelling from) options
      → All (IsHearable spelling from expected) options → option_octets rest ≡ []
      → heard_options spelling from expected (option_octets (options_text spelling from options ++ rest)) ≡ map meant_option options
  known-options [] rest can hearable none = ap (heard_options spelling from expected) none
  known-options (o ∷ options) rest can hearable none =
      let text = option_text (said_option spelling from o) in
      let can_o = All-head (CanSayOption spelling from) o options can in
      let hears_o = All-head (IsHearable spelling from expected) o options hearable in
      let others = options_text spelling from options ++ rest in
      ap (λ (t : List ℕ). heard_options spelling from expected (option_octets t)) (append_assoc text (options_text spelling from options) rest)
      ∙ ap (heard_options spelling from expected) (option_octets-append text others (option_text-IsOption (said_option spelling from o)))
      ∙ ap (λ (m : Meaning). map (heard_option spelling from expected) (known_or m (known_in spelling.checksums (option_octets others))))
      (read_again (said_option spelling from o) spelling.checksums can_o.form hears_o.fits)
      ∙ ap (λ first. first ∷ heard_options spelling from expected (option_octets others)) (option_again spelling from expected is o hears_o.fresh)
      ∙ ap (λ t. meant_option o ∷ t)
      (known-options options rest (All-tail (CanSayOption spelling from) o options can) (All-tail (IsHearable spelling from expected) o options hearable) none)

  module _ (s : PlainSegment) where
    pub octets-padded : option_octets (padded (unpadded_options spelling from s))
        ≡ syn_octets s.mss ++ option_octets (options_text spelling from s.options ++ replicate (padding (length (unpadded_options spelling from s))) 0)
    octets-padded =
        let zeros : List ℕ = replicate (padding (length (unpadded_options spelling from s))) 0 in
        ap option_octets (append_assoc (syn_text s.mss) (options_text spelling from s.options) zeros)
        ∙ octets-syn s.mss (options_text spelling from s.options ++ zeros)

    pub options_again : All (CanSayOption spelling from) s.options → All (IsHearable spelling from expected) s.options
        → heard_options spelling from expected (option_octets (padded (unpadded_options spelling from s))) ≡ map meant_option s.options
    options_again can hearable =
        let count = padding (length (unpadded_options spelling from s)) in
        ap (heard_options spelling from expected) octets-padded
        ∙ ap (map (heard_option spelling from expected))
        (known-syn s.mss spelling.checksums (option_octets (options_text spelling from s.options ++ replicate count 0)))
        ∙ known-options s.options (replicate count 0) can hearable (octets-zeros count)

    mss_if : (mss : Option ℕ) (syn : Bool) (rest : List (List ℕ)) → is_some mss ≡ syn → IfSome mss (λ n. n < 2 ^ 16)
        → (if syn then first_mss (syn_octets mss ++ rest) else None) ≡ mss
    mss_if None syn rest e fits = rw (sym e) refl
    mss_if (Some mss) syn rest e fits = rw (sym e) (first_mss-syn mss rest fits)

    pub mss_again : is_some s.mss ≡ s.syn → IfSome s.mss (λ n. n < 2 ^ 16)
        → (if s.syn then first_mss (option_octets (padded (unpadded_options spelling from s))) else None) ≡ s.mss
    mss_again e fits =
        ap (λ (t : List (List ℕ)). if s.syn then first_mss t else None) octets-padded ∙ mss_if s.mss s.syn _ e fits
