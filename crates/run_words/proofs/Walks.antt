-- The whole walk of `clap`: its fault and its rows are those of the parts of the words.
--
-- A parse by `clap` (`run_words`): a command without groups, defaults or rules between arguments is simple, and then
-- `try_get_matches_from` is exact both ways by `fault_of` and `matches_of` over `app_of` of the command, which the
-- builders compute; `is_simple_and_free` is `refl`. One private function for each argument that is added, at most four
-- calls in one function. Write the filled-in rules as one function of id, long name and index (`plain`), so that the
-- use of a rule computes at variables; then relate kinds of fault, rows and the own reading by `Agrees` (both or
-- neither), compose it by `agrees_then` in the order in which `clap` settles what is pending, and go by one word
-- (`one_step`) and by what the word looks like (`by_look`). A name lookup is a `find` over literals: four Bools and
-- their cases (`by_long`).
use Rattle.std.proofs.Common.{◌≡◌, ◌∙◌, ℕ, Bool, true, false, ◌||◌, refl, sym, ap, subst, List, [], ◌∷◌, map, Option, Some, None}
use Rattle.std.specs.Prelude.{string_bytes, String}
use Rattle.std.specs.Global.{Global}
use Rattle.std.specs.List.{fold}
use Rattle.std.specs.Str.{IsUtf8}
use Rattle.std.proofs.lemmas.Str.{IsUtf8-string_bytes}
use Rattle.clap.specs.Words.{Rule, Row, Text}
use Rattle.clap.specs.Kinds.{or_else}
use Rattle.clap.specs.Walk.{idle, has_row, settled, with_default, nothing_held}
use Rattle.clap.specs.Simple.{built, matches_of}
use Rattle.clap.specs.Faults.{fault_of, settle_fault, walk_fault, defaults_fault, is_simple_and_free}
use Rattle.clap.proofs.FaultLemmas.{leaf_fault}
use Rattle.run_words.specs.Parts.{parts_of}
use Rattle.run_words.specs.Lines.{◌>>=◌}
use Rattle.run_words.specs.Form.{line_form}
use Rattle.run_words.proofs.Rules.{plain, form_rules, shape}
use Rattle.run_words.proofs.Uses.{Agrees, place, held, settles_nothing, settles_lack, then_some, or_else_nil}
use Rattle.run_words.proofs.Steps.{Reads, at, end, total, last_rows, free_word, due_word}

-- the words are text
abbrev pub AreTexts : List Text → Type 0
AreTexts [] = Unit
AreTexts (word ∷ rest) = IsUtf8 word × AreTexts rest

pub are_texts : (words : List (String Global)) → AreTexts (map string_bytes words)
are_texts [] = tt
are_texts (word ∷ rest) = (IsUtf8-string_bytes word, are_texts rest)

reads_nothing : Reads []
unfolding place walk_fault parts_of
reads_nothing = record {
  free = λ pending reading settles rows position. subst (λ o. Agrees (settle_fault form_rules false (held rows pending)) (settled form_rules (held rows pending)).rows o) (sym (then_some (reading rows))) (settles rows);
  due = λ choice rows position. settles_lack choice rows;
}

pub reads : (words : List Text) → AreTexts words → Reads words
reads [] texts = reads_nothing
reads (word ∷ rest) texts =
    let later = reads rest texts.1 in
    record {
      free = λ pending reading settles rows position. free_word pending reading settles rows position rest later word texts.0;
      due = λ choice rows position. due_word choice rows position rest later word texts.0;
    }

-- ---- after the walk

or_true : (b : Bool) → (b || true) ≡ true
or_true = elim [ true ↦ refl | false ↦ refl ]

no_default : (rows : List Row) (id : Text) (l : Option Text) (i : Option ℕ) (rest : List Rule) → defaults_fault rows (plain id l i ∷ rest) ≡ defaults_fault rows rest
unfolding defaults_fault
no_default rows id l i rest = (elim (has_row id rows) as (λ b. has_row id rows ≡ b → defaults_fault rows (plain id l i ∷ rest) ≡ defaults_fault rows rest)
    [ true ↦ λ e. rw e refl | false ↦ λ e. rw e refl ]) refl

keeps : (rows : List Row) (id : Text) (l : Option Text) (i : Option ℕ) → with_default rows (plain id l i) ≡ rows
keeps rows id l i = (elim (has_row id rows) as (λ b. has_row id rows ≡ b → with_default rows (plain id l i) ≡ rows)
    [ true ↦ λ e. rw e refl | false ↦ λ e. rw e refl ]) refl

-- rules without a default, as a list of what differs
abbrev Ids : Type 0
Ids = List (Text × (Option Text × Option ℕ))

abbrev rules_by : Ids → List Rule
rules_by = map (λ p. plain p.0 p.1.0 p.1.1)

no_defaults : (rows : List Row) (ids : Ids) → defaults_fault rows (rules_by ids) ≡ []
unfolding defaults_fault
no_defaults rows [] = refl
no_defaults rows (p ∷ rest) = no_default rows p.0 p.1.0 p.1.1 (rules_by rest) ∙ no_defaults rows rest

all_kept : (rows : List Row) (ids : Ids) → fold with_default rows (rules_by ids) ≡ rows
all_kept rows [] = refl
all_kept rows (p ∷ rest) = ap (λ r. fold with_default r (rules_by rest)) (keeps rows p.0 p.1.0 p.1.1) ∙ all_kept rows rest

abbrev form_ids : Ids
form_ids = map (λ r. (r.id, (r.long, r.index))) form_rules

abbrev pub found_in : List Text → Option (List Row)
found_in words = parts_of None words >>= place 1 []

abbrev start : Rattle.clap.specs.Walk.Walk
start = at [] None idle 1 false

fault_is : (words : List Text) → fault_of line_form words ≡ total start words
fault_is words =
    let last = end start words in
    let kinds = settle_fault form_rules false last.held in
    let rows = (settled form_rules last.held).rows in
    leaf_fault (built line_form) nothing_held words refl
    ∙ ap (λ k. or_else (walk_fault shape [] start words) (or_else kinds (or_else k []))) (no_defaults rows form_ids)
    ∙ ap (or_else (walk_fault shape [] start words)) (or_else_nil kinds)

rows_are : (words : List Text) → matches_of line_form words ≡ last_rows start words
rows_are words = all_kept (last_rows start words) form_ids

-- `clap` refuses the words exactly where their parts have no place, and finds what they say
pub walk_agrees : (words : List Text) → AreTexts words → Agrees (fault_of line_form words) (matches_of line_form words) (found_in words)
unfolding parts_of
walk_agrees words texts =
    subst (λ k. Agrees k (matches_of line_form words) (found_in words)) (sym (fault_is words))
    (subst (λ r. Agrees (total start words) r (found_in words)) (sym (rows_are words))
    ((reads words texts).free None (λ r. Some r) settles_nothing [] 1))

pub form_is_simple : is_simple_and_free line_form ≡ true
form_is_simple = refl
