-- What a word looks like to `clap`, and as a part.
use Rattle.std.proofs.Common.{◌≡◌, ◌∙◌, ℕ, ◌+◌, ◌==◌, zero, suc, Bool, true, false, cond, ◌&&◌, refl, sym, ap, subst, List, [], ◌∷◌, length, Option, Some, None, true≢false, codes, arith}
use Rattle.std.proofs.lemmas.Bool.{eqb-true}
use Rattle.std.proofs.lemmas.Str.{encodes-chars}
use Rattle.std.proofs.lemmas.Slice.Eq.{bytes_eq-Decides}
use Rattle.std.specs.List.{position_or_len, before_first, after_first}
use Rattle.std.specs.Str.{bytes_eq, chars, IsUtf8}
use Rattle.std.specs.Char.{encode_utf8}
use Rattle.std.specs.Prelude.{slice_get, take, drop, encode_utf8_all}
use Rattle.clap.specs.Words.{Row, Text}
use Rattle.clap.specs.Lexer.{has_byte, long_of, short_of}
use Rattle.clap.specs.Faults.{bundle_fault, bundle_step_fault, flags_fault}
use Rattle.clap.specs.declared.error.kind.ErrorKind.TheVariants.{UnknownArgument}
use Rattle.run_words.specs.Parts.{Word, Choice, mode_option, rounds_option, order_option, number_option, label, written, choice_of, Part, option, name, is_dashed, is_equals, with_part}
use Rattle.run_words.specs.Lines.{◌>>=◌}
use Rattle.run_words.proofs.Rules.{some≢none, form_rules, name_id, taken}
use Rattle.run_words.proofs.Uses.{no_several, held, new, or_false, place, place_name, then_none}

-- ---- what a word looks like

abbrev pub looks_long : Word → Bool
looks_long (x ∷ y ∷ rest) = (x == 45) && (y == 45)
looks_long word = false

pub choice_written : (word : Word) (choice : Choice) → choice_of word ≡ Some choice → written choice ≡ word
choice_written word choice = go (bytes_eq (written mode_option) word) (bytes_eq (written rounds_option) word) (bytes_eq (written order_option) word) (bytes_eq (written number_option) word) refl refl refl refl
  where
    go : (a b d e : Bool) → bytes_eq (written mode_option) word ≡ a → bytes_eq (written rounds_option) word ≡ b → bytes_eq (written order_option) word ≡ d → bytes_eq (written number_option) word ≡ e
        → cond a (Some mode_option) (cond b (Some rounds_option) (cond d (Some order_option) (cond e (Some number_option) None))) ≡ Some choice → written choice ≡ word
    go true b d e p q r s is = subst (λ k. written k ≡ word) (taken is) ((bytes_eq-Decides (written mode_option) word).0 p)
    go false true d e p q r s is = subst (λ k. written k ≡ word) (taken is) ((bytes_eq-Decides (written rounds_option) word).0 q)
    go false false true e p q r s is = subst (λ k. written k ≡ word) (taken is) ((bytes_eq-Decides (written order_option) word).0 r)
    go false false false true p q r s is = subst (λ k. written k ≡ word) (taken is) ((bytes_eq-Decides (written number_option) word).0 s)
    go false false false false p q r s is = absurd (some≢none choice is)

pub written_long : (choice : Choice) → looks_long (written choice) ≡ true
written_long mode_option = refl
written_long rounds_option = refl
written_long order_option = refl
written_long number_option = refl

pub no_choice : (word : Word) → looks_long word ≡ false → choice_of word ≡ None
no_choice word e = (elim (choice_of word) as (λ o. choice_of word ≡ o → o ≡ None)
    [ None ↦ λ is. refl | Some choice ↦ λ is. absurd (true≢false (sym (written_long choice) ∙ ap looks_long (choice_written word choice is) ∙ e)) ]) refl

pub looks-take : (n : ℕ) (word : Word) → looks_long word ≡ false → looks_long (take n word) ≡ false
looks-take zero word e = refl
looks-take (suc n) [] e = refl
looks-take (suc zero) (x ∷ rest) e = refl
looks-take (suc (suc n)) (x ∷ []) e = refl
looks-take (suc (suc n)) (x ∷ y ∷ rest) e = e

pub no_choice_joined : (word : Word) → looks_long word ≡ false → choice_of (before_first is_equals word) ≡ None
no_choice_joined word e = no_choice (before_first is_equals word) (looks-take (position_or_len is_equals word) word e)

pub record IsPlain (word : Word) : Type 0 where
  pub ending : bytes_eq word (codes "--") ≡ false
  pub long : long_of word ≡ None
  pub short : short_of word ≡ None
  pub choice : choice_of word ≡ None
  pub joined : choice_of (before_first is_equals word) ≡ None
  pub dashed : is_dashed word ≡ false

pub is_plain : (word : Word) → is_dashed word ≡ false → IsPlain word
is_plain [] e = record { ending = refl; long = refl; short = refl; choice = no_choice [] refl; joined = no_choice_joined [] refl; dashed = refl }
is_plain (x ∷ []) e = (elim (x == 45) as (λ b. (x == 45) ≡ b → IsPlain (x ∷ [])) [
  | true ↦ λ h. record { ending = no_several (x == 45); long = rw h refl; short = rw h refl; choice = no_choice (x ∷ []) refl; joined = no_choice_joined (x ∷ []) refl; dashed = refl }
  | false ↦ λ h. record { ending = no_several (x == 45); long = rw h refl; short = rw h refl; choice = no_choice (x ∷ []) refl; joined = no_choice_joined (x ∷ []) refl; dashed = refl }
]) refl
is_plain (x ∷ y ∷ rest) e =
    let alone : looks_long (x ∷ y ∷ rest) ≡ false = rw e refl in
    record { ending = rw e refl; long = rw e refl; short = rw e refl; choice = no_choice (x ∷ y ∷ rest) alone; joined = no_choice_joined (x ∷ y ∷ rest) alone; dashed = e }

-- each word is `--`, longer behind `--`, begins with one `-`, or isn't dashed
pub by_look : (P : Word → Type 0) → P (45 ∷ 45 ∷ []) → ((m : ℕ) (ms : Word) → P (45 ∷ 45 ∷ m ∷ ms)) → ((y : ℕ) (rest : Word) → (y == 45) ≡ false → P (45 ∷ y ∷ rest))
    → ((word : Word) → is_dashed word ≡ false → P word) → (word : Word) → P word
by_look P a b d e [] = e [] refl
by_look P a b d e (x ∷ []) = e (x ∷ []) refl
by_look P a b d e (x ∷ y ∷ rest) = (elim (x == 45) as (λ t. (x == 45) ≡ t → P (x ∷ y ∷ rest))
    [ true ↦ λ h. subst (λ z. P (z ∷ y ∷ rest)) (sym (eqb-true x 45 h)) (second (y == 45) refl) | false ↦ λ h. e (x ∷ y ∷ rest) h ]) refl
  where
    second : (t : Bool) → (y == 45) ≡ t → P (45 ∷ y ∷ rest)
    second true h = subst (λ z. P (45 ∷ z ∷ rest)) (sym (eqb-true y 45 h)) (elim rest as (λ n. P (45 ∷ 45 ∷ n)) [ [] ↦ a | m ∷ ms ↦ b m ms ])
    second false h = d y rest h

-- a text that begins with `-` has a character behind it
pub has_character : (y : ℕ) (rest : Word) → IsUtf8 (45 ∷ y ∷ rest) → (x : ℕ) × (slice_get (chars (y ∷ rest)) 0 ≡ Some x)
unfolding chars encode_utf8
has_character y rest utf8 = go (chars (y ∷ rest)) refl
  where
    go : (cs : List ℕ) → chars (y ∷ rest) ≡ cs → (x : ℕ) × (slice_get cs 0 ≡ Some x)
    go (x ∷ xs) is = (x, refl)
    go [] is =
        let one : encode_utf8_all (45 ∷ []) ≡ 45 ∷ y ∷ rest = ap (λ cs. encode_utf8_all (45 ∷ cs)) (sym is) ∙ encodes-chars (45 ∷ y ∷ rest) utf8 in
        let lengths : 1 ≡ suc (suc (length rest)) = ap length one in
        absurd (omega arith)

-- no option has one character
pub bundle_refused : (y : ℕ) (ys : Word) (x : ℕ) (rows : List Row) (pending : Option (Text × List Text)) → slice_get (chars (y ∷ ys)) 0 ≡ Some x
    → bundle_fault form_rules false (y ∷ ys) (held rows pending) ≡ UnknownArgument ∷ []
unfolding flags_fault
bundle_refused y ys x rows pending known =
    ap (λ o. bundle_step_fault form_rules false o (y ∷ ys) 0 (held rows pending) (flags_fault form_rules false (length ys))) known

-- ---- the cut at the first `=`

-- no `=`, no cut
pub uncut : (word : Word) → has_byte 61 word ≡ false → before_first is_equals word ≡ word
uncut [] e = refl
uncut (x ∷ rest) e =
    let parts = or_false (x == 61) (has_byte 61 rest) e in
    let here : (x == 61) ≡ false = parts.0 in
    let one : 1 + position_or_len is_equals rest ≡ suc (position_or_len is_equals rest) = omega arith in
    rw (here, one) (ap (λ w. x ∷ w) (uncut rest parts.1))

pub past_dashes : (n : Word) → position_or_len is_equals (45 ∷ 45 ∷ n) ≡ suc (suc (position_or_len is_equals n))
past_dashes n = omega arith

pub cut_name : (n : Word) → before_first is_equals (45 ∷ 45 ∷ n) ≡ 45 ∷ 45 ∷ before_first is_equals n
cut_name n = ap (λ k. take k (45 ∷ 45 ∷ n)) (past_dashes n)

pub cut_value : (n : Word) → after_first is_equals (45 ∷ 45 ∷ n) ≡ after_first is_equals n
cut_value n =
    let k = position_or_len is_equals n in
    let more : suc (suc k) + 1 ≡ suc (suc (k + 1)) = omega arith in
    ap (λ i. drop (i + 1) (45 ∷ 45 ∷ n)) (past_dashes n) ∙ ap (λ i. drop i (45 ∷ 45 ∷ n)) more

-- ---- the parts, in whichever order they are put

pub option_first : (choice : Choice) (v : Text) (o : Option (List Part)) (position : ℕ) (rows : List Row)
    → (new (label choice) v rows >>= λ r. o >>= place position r) ≡ (with_part (Some (option choice v)) o >>= place position rows)
unfolding place
option_first choice v None position rows = then_none (new (label choice) v rows)
option_first choice v (Some parts) position rows = refl

pub name_first : (v : Text) (o : Option (List Part)) (position : ℕ) (rows : List Row)
    → place_name (name_id position) v rows (λ r. o >>= place (suc position) r) ≡ (with_part (Some (name v)) o >>= place position rows)
unfolding place
name_first v None position rows = elim (name_id position) as (λ id. place_name id v rows (λ r. None) ≡ None) [ None ↦ refl | Some id ↦ then_none (new id v rows) ]
name_first v (Some parts) position rows = refl
