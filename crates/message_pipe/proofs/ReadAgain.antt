-- What was framed is read again, whatever follows it.
use Rattle.std.proofs.Common.{◌≡◌, ℕ, ◌+◌, ◌-◌, ◌≤◌, List, [], ◌∷◌, ◌++◌, length, take, drop, Some, sym, ◌∙◌, ap, length-append, arith, rules}
use Rattle.std.proofs.Math.Seq.{take-append_seam, drop-append_seam}
use Rattle.std.proofs.lemmas.Grind.{common_steps}
use Rattle.std.proofs.lemmas.List.{take-append-le, drop-append-le}
use Rattle.std.proofs.lemmas.Nat.{from_be_bytes-to_be_bytes_4}
use Rattle.message_pipe.specs.Frames.{frame_of, told_length, first_message, behind_first}
use Rattle.message_pipe.specs.Uses.{FramesAreReadAgain}
use Rattle.message_pipe.proofs.Framed.{drop_four}

-- the octets begin with a whole frame, of this message, and this stands behind it
pub record Begins (octets message behind : List ℕ) : Type 0 where
  pub some : 4 ≤ length octets
  pub fits : told_length octets ≤ length octets - 4
  pub message_is : message ≡ take (told_length octets) (drop 4 octets)
  pub behind_is : behind ≡ drop (4 + told_length octets) octets

pub is_first : (octets : List ℕ) → 4 ≤ length octets → told_length octets ≤ length octets - 4
    → (first_message octets ≡ Some (take (told_length octets) (drop 4 octets))) × (behind_first octets ≡ drop (4 + told_length octets) octets)
is_first octets some fits = (search rules, search rules)

pub first_is : (octets message : List ℕ) → first_message octets ≡ Some message → Begins octets message (behind_first octets)
first_is octets message first = record {
  some = grind (arith, common_steps);
  fits = grind (arith, common_steps);
  message_is = grind (arith, common_steps);
  behind_is = grind (arith, common_steps);
}

pub read_again : FramesAreReadAgain
read_again message behind small =
    let told : told_length (frame_of message ++ behind) ≡ length message = from_be_bytes-to_be_bytes_4 (length message) small in
    let long : length (message ++ behind) ≡ length message + length behind = length-append message behind in
    let is = is_first (frame_of message ++ behind) (omega (arith, long)) (omega (arith, long, told)) in
    record {
      first = is.0 ∙ (ap (λ n. Some (take n (message ++ behind))) told ∙ ap (λ m. Some m) (take-append_seam message behind));
      rest = is.1 ∙ (ap (λ n. drop (4 + n) (frame_of message ++ behind)) told ∙ (drop_four _ _ _ _ (length message) (message ++ behind) ∙ drop-append_seam message behind));
    }

stays_begun : (held more message behind : List ℕ) → Begins held message behind → first_message (held ++ more) ≡ Some message × (behind_first (held ++ more) ≡ behind ++ more)
stays_begun [] more message behind b = absurd (let some = b.some in omega arith)
stays_begun (w ∷ []) more message behind b = absurd (let some = b.some in omega arith)
stays_begun (w ∷ x ∷ []) more message behind b = absurd (let some = b.some in omega arith)
stays_begun (w ∷ x ∷ y ∷ []) more message behind b = absurd (let some = b.some in omega arith)
stays_begun (w ∷ x ∷ y ∷ z ∷ octets) more message behind b =
    let n = told_length (w ∷ x ∷ y ∷ z ∷ octets) in
    let long : length (octets ++ more) ≡ length octets + length more = length-append octets more in
    let is = is_first (w ∷ x ∷ y ∷ z ∷ (octets ++ more)) (omega arith) (let fits = b.fits in omega (arith, long)) in
    let within : n ≤ length octets = let fits = b.fits in omega arith in (
      is.0 ∙ ap (λ m. Some m) (take-append-le n octets more within ∙ sym b.message_is),
      is.1 ∙ (drop_four w x y z n (octets ++ more) ∙ (drop-append-le n octets more within ∙ ap (λ end. end ++ more) (sym (b.behind_is ∙ drop_four w x y z n octets)))),
    )

-- a whole frame stays the first one, whatever is put behind
pub stays_first : (held more message : List ℕ) → first_message held ≡ Some message → first_message (held ++ more) ≡ Some message × (behind_first (held ++ more) ≡ behind_first held ++ more)
stays_first held more message first = stays_begun held more message (behind_first held) (first_is held message first)
