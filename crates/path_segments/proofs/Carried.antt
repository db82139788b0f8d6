-- The options of a segment that can be said are options that a segment can carry.
use Rattle.std.proofs.Common.{◌≡◌, refl, ◌∙◌, ap, ℕ, zero, suc, ◌+◌, true, Option, Some, None, List, [], ◌∷◌, ◌++◌, length, append_assoc, length-append, arith}
use Rattle.std.specs.Prelude.{replicate}
use Rattle.std.proofs.lemmas.List.{length-replicate}
use Rattle.sides.specs.declared.side.Side.{Side}
use Rattle.segment_wire.specs.Options.{are_whole}
use Rattle.segment_wire.specs.Segment.{CanCarry}
use Rattle.segment_wire.proofs.Appended.{IsOption, are_whole-append}
use Rattle.mptcp_options.specs.Value.{OptionValue}
use Rattle.mptcp_options.specs.Text.{option_text}
use Rattle.path_segments.specs.declared.spelling.Spelling.{Spelling}
use Rattle.path_segments.specs.Options.{PlainOption, said_option}
use Rattle.path_segments.specs.Spelled.{PlainSegment, syn_text, options_text, padding, padded, unpadded_options, CanSay}

pub option_text-IsOption : (option : OptionValue) → IsOption (option_text option)
unfolding option_text
option_text-IsOption option = record { kind = omega arith; len = omega arith; low = omega arith }

whole-zeros : (n : ℕ) → are_whole (replicate n 0) ≡ true
whole-zeros zero = refl
whole-zeros (suc n) = refl

module _ (spelling : Spelling) (from : Side) where
  whole-options : (options : List PlainOption) (rest : List ℕ)
      → are_whole (options_text spelling from options ++ rest) ≡ are_whole rest
  whole-options [] rest = refl
  whole-options (o ∷ options) rest =
      ap are_whole (append_assoc (option_text (said_option spelling from o)) (options_text spelling from options) rest)
      ∙ are_whole-append (option_text (said_option spelling from o)) (options_text spelling from options ++ rest) (option_text-IsOption (said_option spelling from o))
      ∙ whole-options options rest

  whole-syn : (mss : Option ℕ) (rest : List ℕ) → are_whole (syn_text mss ++ rest) ≡ are_whole rest
  whole-syn None rest = refl
  whole-syn (Some mss) rest = refl

  module _ (s : PlainSegment) where
    whole-padded : are_whole (padded (unpadded_options spelling from s)) ≡ true
    whole-padded =
        let zeros : List ℕ = replicate (padding (length (unpadded_options spelling from s))) 0 in
        ap are_whole (append_assoc (syn_text s.mss) (options_text spelling from s.options) zeros)
        ∙ whole-syn s.mss (options_text spelling from s.options ++ zeros)
        ∙ whole-options s.options zeros
        ∙ whole-zeros (padding (length (unpadded_options spelling from s)))

    length-padded : length (padded (unpadded_options spelling from s))
        ≡ length (unpadded_options spelling from s) + padding (length (unpadded_options spelling from s))
    length-padded =
        length-append (unpadded_options spelling from s) (replicate (padding (length (unpadded_options spelling from s))) 0)
        ∙ ap (λ (n : ℕ). length (unpadded_options spelling from s) + n) (length-replicate (padding (length (unpadded_options spelling from s))) 0)

    pub carried : CanSay spelling from s → (options payload : List ℕ) → options ≡ padded (unpadded_options spelling from s)
        → payload ≡ s.payload → CanCarry options payload
    carried can options payload is_padded is_payload = rw (is_padded, is_payload) (record {
      room = omega (arith, length-padded, can.room);
      padded = omega (arith, length-padded);
      whole = whole-padded;
      fits = omega (arith, length-padded, can.room, can.fits);
    })
