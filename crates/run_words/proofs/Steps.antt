-- One word of the walk of `clap`, where no option waits for its value, where one does, and behind `--`.
use Rattle.std.proofs.Common.{◌≡◌, ◌∙◌, ℕ, ◌==◌, suc, Bool, true, false, refl, sym, ap, subst, List, [], ◌∷◌, map, length, Option, Some, None, codes, suc-ne-zero}
use Rattle.std.specs.List.{fold, before_first, after_first}
use Rattle.std.specs.Str.{bytes_eq, IsUtf8}
use Rattle.std.specs.Prelude.{option_map}
use Rattle.clap.specs.Words.{Row, Text}
use Rattle.clap.specs.Lexer.{has_byte, long_of, short_of}
use Rattle.clap.specs.Kinds.{Kinds, or_else}
use Rattle.clap.specs.Walk.{Walk, Waiting, idle, option as waits_for, arg_by_index, arg_by_long, settled, settled_rows, used, walked, to_positional, value}
use Rattle.clap.specs.Faults.{settle_fault, turn_fault, walk_fault, step_fault, use_fault}
use Rattle.clap.specs.declared.error.kind.ErrorKind.TheVariants.{UnknownArgument, InvalidValue}
use Rattle.run_words.specs.Parts.{Word, Choice, mode_option, rounds_option, order_option, number_option, label, written, choice_of, option, name, is_dashed, is_equals, with_part, parts_of}
use Rattle.run_words.specs.Lines.{◌>>=◌}
use Rattle.run_words.proofs.Rules.{some≢none, by_choice, by_long, chosen, form_rules, is_named, name_id, named, no_name, shape}
use Rattle.run_words.proofs.Uses.{or_nothing, no_several, Agrees, Settles, agrees_then, held, new, or_else_assoc, or_else_nil, place, place_name, settles_lack, settles_nothing, settles_value, then_none, then_some, use_agrees}
use Rattle.run_words.proofs.Looks.{bundle_refused, by_look, choice_written, cut_name, cut_value, has_character, is_plain, looks_long, name_first, no_choice, no_choice_joined, option_first, uncut}

-- ---- one word of the walk

abbrev pub at : List Row → Option (Text × List Text) → Waiting → ℕ → Bool → Walk
at rows pending waiting position trailing =
    record { held = held rows pending; waiting = waiting; position = position; is_trailing = trailing; stopped = None }

abbrev pub end : Walk → List Text → Walk
end w words = fold (walked form_rules []) w words

-- the kinds of fault of a walk from here on, and the rows at its end
abbrev pub total : Walk → List Text → Kinds
total w words = or_else (walk_fault shape [] w words) (settle_fault form_rules false (end w words).held)

abbrev pub last_rows : Walk → List Text → List Row
last_rows w words = (settled form_rules (end w words).held).rows

abbrev pub Gives : Walk → List Text → Option (List Row) → Type 0
Gives w words found = Agrees (total w words) (last_rows w words) found

pub one_step : (w after : Walk) (word : Text) (rest : List Text) (turn : Kinds) (found : Option (List Row))
    → turn_fault shape [] w word ≡ turn → walked form_rules [] w word ≡ after → Agrees (or_else turn (total after rest)) (last_rows after rest) found → Gives w (word ∷ rest) found
unfolding walk_fault
one_step w after word rest turn found faults moves agrees =
    let next = walked form_rules [] w word in
    let same : total w (word ∷ rest) ≡ or_else (turn_fault shape [] w word) (total next rest) =
    or_else_assoc (turn_fault shape [] w word) (walk_fault shape [] next rest) (settle_fault form_rules false (end next rest).held) in
    subst (λ k. Agrees k (last_rows w (word ∷ rest)) found) (sym same)
    (subst (λ k. Agrees (or_else k (total next rest)) (last_rows next rest) found) (sym faults)
    (subst (λ x. Agrees (or_else turn (total x rest)) (last_rows x rest) found) (sym moves) agrees))

-- a word that is refused
pub refused_word : (w : Walk) (word : Text) (rest : List Text) (turn : Kinds) (found : Option (List Row)) → turn_fault shape [] w word ≡ turn
    → (length turn ≡ 0 → ⊥) → None ≡ found → Gives w (word ∷ rest) found
refused_word w word rest [] found faults some none = absurd (some refl)
refused_word w word rest (k ∷ ks) found faults some none = one_step w _ word rest (k ∷ ks) found faults refl
    (subst (λ o. Agrees (or_else (k ∷ ks) (total (walked form_rules [] w word) rest)) (last_rows (walked form_rules [] w word) rest) o) none tt)

-- a word that goes to the name of this position, or is one too many
module _ (pending : Option (Text × List Text)) (reading : List Row → Option (List Row)) (settles : Settles pending reading) (waiting : Waiting) (rows : List Row)
    (position : ℕ) (trailing : Bool) (word : Text) (rest : List Text) (g : ℕ → List Row → Option (List Row)) where
  abbrev here : Walk
  here = at rows pending waiting position trailing

  name_word : turn_fault shape [] here word ≡ step_fault shape position here.held value → walked form_rules [] here word ≡ to_positional form_rules (arg_by_index form_rules position) word here here.held
      → ((id : Text) → name_id position ≡ Some id → Gives (at (settled_rows form_rules pending rows) (Some (id, word ∷ [])) idle (suc position) trailing) rest
      (new id word (settled_rows form_rules pending rows) >>= g (suc position)))
      → Gives here (word ∷ rest) (reading rows >>= λ r. place_name (name_id position) word r (g (suc position)))
  name_word faults moves later = go (name_id position) refl
    where
      go : (o : Option Text) → name_id position ≡ o → Gives here (word ∷ rest) (reading rows >>= λ r. place_name o word r (g (suc position)))
      go None e =
          let none = no_name position e in
          let stray : step_fault shape position here.held value ≡ UnknownArgument ∷ [] = rw none refl in
          refused_word here word rest (UnknownArgument ∷ []) _ (faults ∙ stray) (λ z. absurd (suc-ne-zero 0 z)) (sym (then_none (reading rows)))
      go (Some id) e =
          let is = is_named position id e in
          let alone = no_several (Rattle.clap.specs.Walk.is_pending (named position id) pending) in
          let turn : step_fault shape position here.held value ≡ settle_fault form_rules false here.held = rw (is.by_index, alone) refl in
          let moved : to_positional form_rules (arg_by_index form_rules position) word here here.held ≡ at (settled_rows form_rules pending rows) (Some (id, word ∷ [])) idle (suc position) trailing =
          rw (is.by_index, alone, is.next) (ap (λ b. at (settled_rows form_rules pending rows) (Some (id, word ∷ [])) idle (suc position) b) (or_nothing trailing)) in
          one_step here _ word rest _ _ (faults ∙ turn) (moves ∙ moved)
          (agrees_then _ _ _ _ (reading rows) (λ r. place_name (Some id) word r (g (suc position))) (settles rows) (later id e))

-- ---- behind `--`

pub trails : (words : List Text) (pending : Option (Text × List Text)) (reading : List Row → Option (List Row)) → Settles pending reading → (waiting : Waiting) (rows : List Row) (position : ℕ)
    → Gives (at rows pending waiting position true) words (reading rows >>= λ r. place position r (map name words))
unfolding place walk_fault walked
trails [] pending reading settles waiting rows position =
    subst (λ k. Agrees k (settled_rows form_rules pending rows) (reading rows >>= λ r. Some r)) refl
    (subst (λ o. Agrees (settle_fault form_rules false (held rows pending)) (settled_rows form_rules pending rows) o) (sym (then_some (reading rows))) (settles rows))
trails (word ∷ rest) pending reading settles waiting rows position =
    name_word pending reading settles waiting rows position true word rest (λ q r. place q r (map name rest)) refl refl
    (λ id e. trails rest (Some (id, word ∷ [])) (new id word) (settles_value id None (Some position) word (is_named position id e).by_id) idle (settled_rows form_rules pending rows) (suc position))

-- ---- one word, where no option waits for its value

-- a cut that makes an option of a word that is none is at a `=`
pub has_equals : (m : ℕ) (ms : Word) (choice : Choice) → choice_of (45 ∷ 45 ∷ m ∷ ms) ≡ None → choice_of (45 ∷ 45 ∷ before_first is_equals (m ∷ ms)) ≡ Some choice → has_byte 61 (m ∷ ms) ≡ true
has_equals m ms choice whole cut = (elim (has_byte 61 (m ∷ ms)) as (λ b. has_byte 61 (m ∷ ms) ≡ b → b ≡ true)
    [ true ↦ λ e. refl | false ↦ λ e. absurd (some≢none choice (sym whole ∙ ap (λ n. choice_of (45 ∷ 45 ∷ n)) (sym (uncut (m ∷ ms) e)) ∙ cut)) ]) refl

pub record Reads (words : List Text) : Type 0 where
  pub free : (pending : Option (Text × List Text)) (reading : List Row → Option (List Row)) → Settles pending reading → (rows : List Row) (position : ℕ)
      → Gives (at rows pending idle position false) words (reading rows >>= λ r. parts_of None words >>= place position r)
  pub due : (choice : Choice) (rows : List Row) (position : ℕ)
      → Gives (at rows (Some (label choice, [])) (waits_for (label choice)) position false) words (parts_of (Some choice) words >>= place position rows)

module _ (pending : Option (Text × List Text)) (reading : List Row → Option (List Row)) (settles : Settles pending reading) (rows : List Row) (position : ℕ) (rest : List Text) (later : Reads rest) where
  abbrev stands : Walk
  stands = at rows pending idle position false

  abbrev Free : Text → Type 0
  Free word = IsUtf8 word → Gives stands (word ∷ rest) (reading rows >>= λ r. parts_of None (word ∷ rest) >>= place position r)

  free_ending : Free (45 ∷ 45 ∷ [])
  unfolding parts_of walked
  free_ending utf8 = one_step stands (at rows pending idle position true) (45 ∷ 45 ∷ []) rest [] _ refl refl (trails rest pending reading settles idle rows position)

  free_option : (choice : Choice) → turn_fault shape [] stands (written choice) ≡ or_else (settle_fault form_rules false stands.held) []
      → walked form_rules [] stands (written choice) ≡ at (settled_rows form_rules pending rows) (Some (label choice, [])) (waits_for (label choice)) position false
      → parts_of None (written choice ∷ rest) ≡ parts_of (Some choice) rest → Gives stands (written choice ∷ rest) (reading rows >>= λ r. parts_of None (written choice ∷ rest) >>= place position r)
  free_option choice faults moves is =
      let turn = settle_fault form_rules false stands.held in
      let after = at (settled_rows form_rules pending rows) (Some (label choice, [])) (waits_for (label choice)) position false in
      subst (λ o. Gives stands (written choice ∷ rest) (reading rows >>= λ r. o >>= place position r)) (sym is)
      (one_step stands after (written choice) rest turn (reading rows >>= λ r. parts_of (Some choice) rest >>= place position r) (faults ∙ or_else_nil turn) moves
      (agrees_then turn (total after rest) (settled_rows form_rules pending rows) (last_rows after rest) (reading rows) (λ r. parts_of (Some choice) rest >>= place position r)
      (settles rows) (later.due choice (settled_rows form_rules pending rows) position)))

  free_written : (choice : Choice) → Gives stands (written choice ∷ rest) (reading rows >>= λ r. parts_of None (written choice ∷ rest) >>= place position r)
  unfolding parts_of walked
  free_written mode_option = free_option mode_option refl refl refl
  free_written rounds_option = free_option rounds_option refl refl refl
  free_written order_option = free_option order_option refl refl refl
  free_written number_option = free_option number_option refl refl refl

  -- `--rounds=N`
  free_joined : (m : ℕ) (ms : Word) (choice : Choice) → choice_of (45 ∷ 45 ∷ m ∷ ms) ≡ None → choice_of (45 ∷ 45 ∷ before_first is_equals (m ∷ ms)) ≡ Some choice
      → Gives stands ((45 ∷ 45 ∷ m ∷ ms) ∷ rest) (reading rows >>= λ r. parts_of None ((45 ∷ 45 ∷ m ∷ ms) ∷ rest) >>= place position r)
  unfolding parts_of walked
  free_joined m ms choice whole cut =
      let n = m ∷ ms in
      let v = after_first is_equals n in
      let known : arg_by_long form_rules (before_first is_equals n) ≡ Some (chosen choice) = by_long (before_first is_equals n) ∙ ap (option_map chosen) cut in
      let equals = has_equals m ms choice whole cut in
      let joined : choice_of (before_first is_equals (45 ∷ 45 ∷ n)) ≡ Some choice = ap choice_of (cut_name n) ∙ cut in
      let settling = settle_fault form_rules false stands.held in
      let r₁ = settled_rows form_rules pending rows in
      let using = use_fault false (chosen choice) (v ∷ []) r₁ in
      let after = at (used (chosen choice) (v ∷ []) r₁) None idle position false in
      let faults : turn_fault shape [] stands (45 ∷ 45 ∷ n) ≡ or_else (or_else settling using) [] = rw (equals, known) refl in
      let moves : walked form_rules [] stands (45 ∷ 45 ∷ n) ≡ after = rw (equals, known) refl in
      let parts : parts_of None ((45 ∷ 45 ∷ n) ∷ rest) ≡ with_part (Some (option choice v)) (parts_of None rest) =
      rw (whole, joined) (ap (λ w. with_part (Some (option choice w)) (parts_of None rest)) (cut_value n)) in
      subst (λ o. Gives stands ((45 ∷ 45 ∷ n) ∷ rest) (reading rows >>= λ r. o >>= place position r)) (sym parts)
      (one_step stands after (45 ∷ 45 ∷ n) rest (or_else settling using) (reading rows >>= λ r. with_part (Some (option choice v)) (parts_of None rest) >>= place position r)
      (faults ∙ or_else_nil (or_else settling using)) moves
      (subst (λ k. Agrees k (last_rows after rest) (reading rows >>= λ r. with_part (Some (option choice v)) (parts_of None rest) >>= place position r)) (sym (or_else_assoc settling using (total after rest)))
      (agrees_then settling (or_else using (total after rest)) r₁ (last_rows after rest) (reading rows) (λ r. with_part (Some (option choice v)) (parts_of None rest) >>= place position r) (settles rows)
      (subst (λ o. Agrees (or_else using (total after rest)) (last_rows after rest) o) (option_first choice v (parts_of None rest) position r₁)
      (agrees_then using (total after rest) (used (chosen choice) (v ∷ []) r₁) (last_rows after rest) (new (label choice) v r₁) (λ r. parts_of None rest >>= place position r)
      (use_agrees (label choice) (Some (label choice)) None v r₁)
      (later.free None (λ r. Some r) settles_nothing (used (chosen choice) (v ∷ []) r₁) position))))))

  -- a word that begins with `--` and is no option
  free_unknown : (m : ℕ) (ms : Word) → choice_of (45 ∷ 45 ∷ m ∷ ms) ≡ None → choice_of (45 ∷ 45 ∷ before_first is_equals (m ∷ ms)) ≡ None
      → Gives stands ((45 ∷ 45 ∷ m ∷ ms) ∷ rest) (reading rows >>= λ r. parts_of None ((45 ∷ 45 ∷ m ∷ ms) ∷ rest) >>= place position r)
  unfolding parts_of
  free_unknown m ms whole cut =
      let n = m ∷ ms in
      let unknown : arg_by_long form_rules (before_first is_equals n) ≡ None = by_long (before_first is_equals n) ∙ ap (option_map chosen) cut in
      let faults : turn_fault shape [] stands (45 ∷ 45 ∷ n) ≡ UnknownArgument ∷ [] = rw unknown refl in
      let joined : choice_of (before_first is_equals (45 ∷ 45 ∷ n)) ≡ None = ap choice_of (cut_name n) ∙ cut in
      let parts : parts_of None ((45 ∷ 45 ∷ n) ∷ rest) ≡ None = rw (whole, joined) refl in
      subst (λ o. Gives stands ((45 ∷ 45 ∷ n) ∷ rest) (reading rows >>= λ r. o >>= place position r)) (sym parts)
      (refused_word stands (45 ∷ 45 ∷ n) rest (UnknownArgument ∷ []) _ faults (λ z. absurd (suc-ne-zero 0 z)) (sym (then_none (reading rows))))

  free_long : (m : ℕ) (ms : Word) → Free (45 ∷ 45 ∷ m ∷ ms)
  free_long m ms utf8 = go (choice_of (45 ∷ 45 ∷ m ∷ ms)) (choice_of (45 ∷ 45 ∷ before_first is_equals (m ∷ ms))) refl refl
    where
      go : (whole cut : Option Choice) → choice_of (45 ∷ 45 ∷ m ∷ ms) ≡ whole → choice_of (45 ∷ 45 ∷ before_first is_equals (m ∷ ms)) ≡ cut
          → Gives stands ((45 ∷ 45 ∷ m ∷ ms) ∷ rest) (reading rows >>= λ r. parts_of None ((45 ∷ 45 ∷ m ∷ ms) ∷ rest) >>= place position r)
      go (Some choice) cut e f = subst (λ w. Gives stands (w ∷ rest) (reading rows >>= λ r. parts_of None (w ∷ rest) >>= place position r)) (choice_written (45 ∷ 45 ∷ m ∷ ms) choice e) (free_written choice)
      go None (Some choice) e f = free_joined m ms choice e f
      go None None e f = free_unknown m ms e f

  -- a word that begins with one `-`
  free_short : (y : ℕ) (ys : Word) → (y == 45) ≡ false → Free (45 ∷ y ∷ ys)
  unfolding parts_of
  free_short y ys e utf8 =
      let word = 45 ∷ y ∷ ys in
      let alone : looks_long word ≡ false = e in
      let whole = no_choice word alone in
      let joined = no_choice_joined word alone in
      let some = has_character y ys utf8 in
      let ending : bytes_eq word (codes "--") ≡ false = rw e refl in
      let long : long_of word ≡ None = rw e refl in
      let short : short_of word ≡ Some (y ∷ ys) = rw e refl in
      let bundle = bundle_refused y ys some.0 rows pending some.1 in
      let faults : turn_fault shape [] stands word ≡ UnknownArgument ∷ [] = rw (ending, long, short, bundle) refl in
      let parts : parts_of None (word ∷ rest) ≡ None = rw (e, whole, joined) refl in
      subst (λ o. Gives stands (word ∷ rest) (reading rows >>= λ r. o >>= place position r)) (sym parts)
      (refused_word stands word rest (UnknownArgument ∷ []) _ faults (λ z. absurd (suc-ne-zero 0 z)) (sym (then_none (reading rows))))

  free_plain : (word : Word) → is_dashed word ≡ false → Free word
  unfolding parts_of walked
  free_plain word e utf8 =
      let is = is_plain word e in
      let ending = is.ending in
      let long = is.long in
      let short = is.short in
      let whole = is.choice in
      let joined = is.joined in
      let faults : turn_fault shape [] stands word ≡ step_fault shape position stands.held value = rw (ending, long, short) refl in
      let moves : walked form_rules [] stands word ≡ to_positional form_rules (arg_by_index form_rules position) word stands stands.held = rw (ending, long, short) refl in
      let parts : parts_of None (word ∷ rest) ≡ with_part (Some (name word)) (parts_of None rest) = rw (ending, whole, joined, e) refl in
      subst (λ o. Gives stands (word ∷ rest) (reading rows >>= λ r. o >>= place position r)) (sym parts)
      (subst (λ f. Gives stands (word ∷ rest) (reading rows >>= f)) (λ i r. name_first word (parts_of None rest) position r i)
      (name_word pending reading settles idle rows position false word rest (λ q r. parts_of None rest >>= place q r) faults moves
      (λ id known. later.free (Some (id, word ∷ [])) (new id word) (settles_value id None (Some position) word (is_named position id known).by_id) (settled_rows form_rules pending rows) (suc position))))

  pub free_word : (word : Word) → Free word
  free_word = by_look Free free_ending free_long free_short free_plain

-- ---- one word, where an option waits for its value

module _ (choice : Choice) (rows : List Row) (position : ℕ) (rest : List Text) (later : Reads rest) where
  abbrev lacking : Option (Text × List Text)
  lacking = Some (label choice, [])

  abbrev waits : Walk
  waits = at rows lacking (waits_for (label choice)) position false

  abbrev Due : Text → Type 0
  Due word = IsUtf8 word → Gives waits (word ∷ rest) (parts_of (Some choice) (word ∷ rest) >>= place position rows)

  -- what lacks its value is a fault
  lacks : settle_fault form_rules false waits.held ≡ InvalidValue ∷ []
  lacks = let known = by_choice choice in rw known refl

  due_ending : Due (45 ∷ 45 ∷ [])
  unfolding parts_of walked
  due_ending utf8 = one_step waits (at rows lacking (waits_for (label choice)) position true) (45 ∷ 45 ∷ []) rest [] None refl refl
      (trails rest lacking (λ r. None) (settles_lack choice) (waits_for (label choice)) rows position)

  due_long : (m : ℕ) (ms : Word) → Due (45 ∷ 45 ∷ m ∷ ms)
  unfolding parts_of
  due_long m ms utf8 = go (choice_of (45 ∷ 45 ∷ before_first is_equals (m ∷ ms))) refl (has_byte 61 (m ∷ ms)) refl
    where
      word : Word
      word = 45 ∷ 45 ∷ m ∷ ms

      go : (cut : Option Choice) → choice_of (45 ∷ 45 ∷ before_first is_equals (m ∷ ms)) ≡ cut → (b : Bool) → has_byte 61 (m ∷ ms) ≡ b → Gives waits ((45 ∷ 45 ∷ m ∷ ms) ∷ rest) None
      go None e b f =
          let unknown : arg_by_long form_rules (before_first is_equals (m ∷ ms)) ≡ None = by_long (before_first is_equals (m ∷ ms)) ∙ ap (option_map chosen) e in
          let faults : turn_fault shape [] waits (45 ∷ 45 ∷ m ∷ ms) ≡ UnknownArgument ∷ [] = rw unknown refl in
          refused_word waits (45 ∷ 45 ∷ m ∷ ms) rest (UnknownArgument ∷ []) None faults (λ z. absurd (suc-ne-zero 0 z)) refl
      go (Some other) e true f =
          let known : arg_by_long form_rules (before_first is_equals (m ∷ ms)) ≡ Some (chosen other) = by_long (before_first is_equals (m ∷ ms)) ∙ ap (option_map chosen) e in
          let lack = lacks in
          let faults : turn_fault shape [] waits (45 ∷ 45 ∷ m ∷ ms) ≡ InvalidValue ∷ [] = rw (known, f, lack) refl in
          refused_word waits (45 ∷ 45 ∷ m ∷ ms) rest (InvalidValue ∷ []) None faults (λ z. absurd (suc-ne-zero 0 z)) refl
      go (Some other) e false f =
          let known : arg_by_long form_rules (before_first is_equals (m ∷ ms)) ≡ Some (chosen other) = by_long (before_first is_equals (m ∷ ms)) ∙ ap (option_map chosen) e in
          let lack = lacks in
          let faults : turn_fault shape [] waits (45 ∷ 45 ∷ m ∷ ms) ≡ InvalidValue ∷ [] = rw (known, f, lack) refl in
          refused_word waits (45 ∷ 45 ∷ m ∷ ms) rest (InvalidValue ∷ []) None faults (λ z. absurd (suc-ne-zero 0 z)) refl

  due_short : (y : ℕ) (ys : Word) → (y == 45) ≡ false → Due (45 ∷ y ∷ ys)
  unfolding parts_of
  due_short y ys e utf8 =
      let word = 45 ∷ y ∷ ys in
      let some = has_character y ys utf8 in
      let ending : bytes_eq word (codes "--") ≡ false = rw e refl in
      let long : long_of word ≡ None = rw e refl in
      let short : short_of word ≡ Some (y ∷ ys) = rw e refl in
      let bundle = bundle_refused y ys some.0 rows lacking some.1 in
      let faults : turn_fault shape [] waits word ≡ UnknownArgument ∷ [] = rw (ending, long, short, bundle) refl in
      refused_word waits word rest (UnknownArgument ∷ []) None faults (λ z. absurd (suc-ne-zero 0 z)) refl

  due_value : (word : Word) → is_dashed word ≡ false → turn_fault shape [] waits word ≡ []
      → walked form_rules [] waits word ≡ at rows (Some (label choice, word ∷ [])) idle position false → Gives waits (word ∷ rest) (parts_of (Some choice) (word ∷ rest) >>= place position rows)
  unfolding parts_of
  due_value word e faults moves =
      let after = at rows (Some (label choice, word ∷ [])) idle position false in
      rw e (one_step waits after word rest [] (with_part (Some (option choice word)) (parts_of None rest) >>= place position rows) faults moves
      (subst (λ o. Agrees (total after rest) (last_rows after rest) o) (option_first choice word (parts_of None rest) position rows)
      (later.free (Some (label choice, word ∷ [])) (new (label choice) word) (settles_value (label choice) (Some (label choice)) None word (by_choice choice)) rows position)))

-- a value that is a word of its own
pub due_plain : (choice : Choice) (rows : List Row) (position : ℕ) (rest : List Text) (later : Reads rest) (word : Word) → is_dashed word ≡ false → Due choice rows position rest later word
unfolding walked
due_plain mode_option rows position rest later word e utf8 =
    let is = is_plain word e in let ending = is.ending in let long = is.long in let short = is.short in
    due_value mode_option rows position rest later word e (rw (ending, long, short) refl) (rw (ending, long, short) refl)
due_plain rounds_option rows position rest later word e utf8 =
    let is = is_plain word e in let ending = is.ending in let long = is.long in let short = is.short in
    due_value rounds_option rows position rest later word e (rw (ending, long, short) refl) (rw (ending, long, short) refl)
due_plain order_option rows position rest later word e utf8 =
    let is = is_plain word e in let ending = is.ending in let long = is.long in let short = is.short in
    due_value order_option rows position rest later word e (rw (ending, long, short) refl) (rw (ending, long, short) refl)
due_plain number_option rows position rest later word e utf8 =
    let is = is_plain word e in let ending = is.ending in let long = is.long in let short = is.short in
    due_value number_option rows position rest later word e (rw (ending, long, short) refl) (rw (ending, long, short) refl)

pub due_word : (choice : Choice) (rows : List Row) (position : ℕ) (rest : List Text) (later : Reads rest) (word : Word) → Due choice rows position rest later word
due_word choice rows position rest later = by_look (Due choice rows position rest later) (due_ending choice rows position rest later) (due_long choice rows position rest later)
    (due_short choice rows position rest later) (due_plain choice rows position rest later)
