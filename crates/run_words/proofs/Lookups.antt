-- What the rows of parts say of each id, and so what the words ask for.
use Rattle.std.proofs.Common.{◌≡◌, ◌∙◌, ℕ, suc, Bool, true, false, cond, ◌&&◌, true≢false, refl, sym, ap, subst, List, [], ◌∷◌, Option, Some, None, codes, inl, inr}
use Rattle.std.specs.Prelude.{slice_get, Result, Ok, Err, ◌⊎◌}
use Rattle.std.specs.Str.{bytes_eq}
use Rattle.clap.specs.Words.{Row, Text, first_of, first_value, rows_of}
use Rattle.clap.specs.declared.parser.matches.Found.{Found}
use Rattle.clap.proofs.WalkLemmas.{first_value-rows}
use Rattle.clap.specs.Kinds.{Kinds, IsAmong}
use Rattle.clap.specs.declared.error.kind.ErrorKind.{ErrorKind}
use Rattle.clap.specs.declared.error.kind.ErrorKind.TheVariants.{OutOfMemory}
use Rattle.run_words.specs.declared.fault.WordsFault.{WordsFault}
use Rattle.run_words.specs.declared.fault.WordsFault.TheVariants.{Usage, Memory}
use Rattle.clap.specs.Simple.{matches_of}
use Rattle.clap.specs.Faults.{fault_of}
use Rattle.run_words.specs.Form.{line_form}
use Rattle.run_words.specs.Parts.{Word, Choice, mode_option, rounds_option, order_option, number_option, label, Part, option, name, parts_of}
use Rattle.run_words.specs.Lines.{◌>>=◌, Line, Names, Work, values_of, names_of, names_in, at_most_once, is_given, work_in, line_of, line_of_parts}
use Rattle.run_words.specs.Form.{fault_by, given_name, names_by, line_by}
use Rattle.run_words.proofs.Rules.{some≢none}
use Rattle.run_words.proofs.Uses.{row, place, Agrees, then_none}
use Rattle.run_words.proofs.Placing.{id_at, id_differs, label_differs, rows_for, placed_rows, placed_fits, placed_once, places, Fits, Fresh, Once}
use Rattle.run_words.proofs.Walks.{AreTexts, found_in, walk_agrees}

-- ---- options

first_option : (choice : Choice) (position : ℕ) (parts : List Part) → first_of (label choice) (rows_for position parts) ≡ slice_get (values_of choice parts) 0
first_option choice position [] = refl
first_option choice position (option other v ∷ parts) = go (bytes_eq (label other) (label choice)) refl (first_option choice position parts)
  where
    go : (b : Bool) → bytes_eq (label other) (label choice) ≡ b → first_of (label choice) (rows_for position parts) ≡ slice_get (values_of choice parts) 0
        → first_of (label choice) (row (label other) v ∷ rows_for position parts) ≡ slice_get (values_of choice (option other v ∷ parts)) 0
    go = elim [ true ↦ λ e later. rw e refl | false ↦ λ e later. rw e later ]
first_option choice position (name v ∷ parts) =
    let apart = id_differs position choice in
    rw apart (first_option choice (suc position) parts)

-- ---- names

abbrev name_rows : ℕ → List Word → List Row
name_rows position [] = []
name_rows position (word ∷ words) = row (id_at position) word ∷ name_rows (suc position) words

first_name : (q position : ℕ) (parts : List Part) → first_of (id_at q) (rows_for position parts) ≡ first_of (id_at q) (name_rows position (names_of parts))
first_name q position [] = refl
first_name q position (option choice v ∷ parts) =
    let apart = label_differs choice q in
    rw apart (first_name q position parts)
first_name q position (name v ∷ parts) = go (bytes_eq (id_at position) (id_at q)) refl (first_name q (suc position) parts)
  where
    go : (b : Bool) → bytes_eq (id_at position) (id_at q) ≡ b → first_of (id_at q) (rows_for (suc position) parts) ≡ first_of (id_at q) (name_rows (suc position) (names_of parts))
        → first_of (id_at q) (row (id_at position) v ∷ rows_for (suc position) parts) ≡ first_of (id_at q) (row (id_at position) v ∷ name_rows (suc position) (names_of parts))
    go = elim [ true ↦ λ e later. rw e refl | false ↦ λ e later. rw e later ]

then_all_none : {A B : Type 0} (o : Option A) (f : A → Option B) → ((x : A) → f x ≡ None) → (o >>= f) ≡ None
then_all_none None f h = refl
then_all_none (Some x) f h = h x

abbrev five : Word → Word → Word → Word → Word → Option Names
five s x y z t = Some (record { script = s; file_a = x; file_b = y; read_by_b = z; read_by_a = t })

abbrev names_by_five : Option Word → Option Word → Option Word → Option Word → Option Word → Option Names
names_by_five s x y z t = s >>= λ script. x >>= λ file_a. y >>= λ file_b. z >>= λ read_by_b. t >>= λ read_by_a. five script file_a file_b read_by_b read_by_a

-- five names, none of which is empty
names_chain : (a b d e f : Bool) (s x y z t : Word) → cond (a && (b && (d && (e && f)))) (five s x y z t) None
    ≡ names_by_five (cond a (Some s) None) (cond b (Some x) None) (cond d (Some y) None) (cond e (Some z) None) (cond f (Some t) None)
names_chain false b d e f s x y z t = refl
names_chain true false d e f s x y z t = refl
names_chain true true false e f s x y z t = refl
names_chain true true true false f s x y z t = refl
names_chain true true true true false s x y z t = refl
names_chain true true true true true s x y z t = refl

names_found : (names : List Word) → Fits 1 names → names_in names ≡ names_by (λ id. first_of id (name_rows 1 names))
names_found [] fits = refl
names_found (s ∷ []) fits = sym (then_all_none (given_name (Some s)) _ (λ a. refl))
names_found (s ∷ x ∷ []) fits = sym (then_all_none (given_name (Some s)) _ (λ a. then_all_none (given_name (Some x)) _ (λ b. refl)))
names_found (s ∷ x ∷ y ∷ []) fits = sym (then_all_none (given_name (Some s)) _ (λ a. then_all_none (given_name (Some x)) _ (λ b. then_all_none (given_name (Some y)) _ (λ d. refl))))
names_found (s ∷ x ∷ y ∷ z ∷ []) fits =
    sym (then_all_none (given_name (Some s)) _ (λ a. then_all_none (given_name (Some x)) _ (λ b. then_all_none (given_name (Some y)) _ (λ d. then_all_none (given_name (Some z)) _ (λ e. refl)))))
names_found (s ∷ x ∷ y ∷ z ∷ t ∷ []) fits = names_chain (is_given s) (is_given x) (is_given y) (is_given z) (is_given t) s x y z t
names_found (s ∷ x ∷ y ∷ z ∷ t ∷ u ∷ rest) fits = absurd (some≢none fits.1.1.1.1.1.0.0 fits.1.1.1.1.1.0.1)

-- ---- the line

abbrev one_line : Names → Work → Option Line
one_line n w = Some (record { work = w; names = n })

in_order : (given : Option Word) (work : Word → Option Work) (names : Option Names)
    → (names >>= λ n. given >>= λ word. work word >>= λ w. one_line n w) ≡ ((given >>= work) >>= λ w. names >>= λ n. one_line n w)
in_order None work None = refl
in_order None work (Some n) = refl
in_order (Some word) work None = sym (then_none (work word))
in_order (Some word) work (Some n) = refl

pub line_found : (parts : List Part) (found : List Row) → place 1 [] parts ≡ Some found → line_of_parts parts ≡ line_by (λ id. first_of id found)
unfolding line_of_parts
line_found parts found e =
    let same : found ≡ rows_for 1 parts = placed_rows 1 [] parts found e in
    let value : Text → Option Text = λ id. first_of id (rows_for 1 parts) in
    let mode = placed_once mode_option 1 [] parts found e ∙ ap (λ o. Some o) (sym (first_option mode_option 1 parts)) in
    let rounds = placed_once rounds_option 1 [] parts found e ∙ ap (λ o. Some o) (sym (first_option rounds_option 1 parts)) in
    let order = placed_once order_option 1 [] parts found e ∙ ap (λ o. Some o) (sym (first_option order_option 1 parts)) in
    let number = placed_once number_option 1 [] parts found e ∙ ap (λ o. Some o) (sym (first_option number_option 1 parts)) in
    let script = first_name 1 1 parts in
    let file_a = first_name 2 1 parts in
    let file_b = first_name 3 1 parts in
    let read_by_b = first_name 4 1 parts in
    let read_by_a = first_name 5 1 parts in
    let names : names_in (names_of parts) ≡ names_by value = names_found (names_of parts) (placed_fits 1 [] parts found e)
    ∙ (λ i. names_by_five (given_name (sym script i)) (given_name (sym file_a i)) (given_name (sym file_b i)) (given_name (sym read_by_b i)) (given_name (sym read_by_a i))) in
    subst (λ rows. line_of_parts parts ≡ line_by (λ id. first_of id rows)) (sym same)
    (rw (mode, rounds, order, number)
    (ap (λ o. o >>= λ n. first_of (codes "mode") (rows_for 1 parts) >>= λ word. work_in word (value (codes "rounds")) (value (codes "order")) (value (codes "number")) >>= λ w. one_line n w) names
    ∙ in_order (value (codes "mode")) (λ word. work_in word (value (codes "rounds")) (value (codes "order")) (value (codes "number"))) (names_by value)))

-- ---- words that break the form

nothing_is_fresh : Fresh 1 []
nothing_is_fresh q le = refl

names_fit : (names : List Word) (n : Names) → names_in names ≡ Some n → Fits 1 names
names_fit [] n e = absurd (some≢none n e)
names_fit (s ∷ []) n e = absurd (some≢none n e)
names_fit (s ∷ x ∷ []) n e = absurd (some≢none n e)
names_fit (s ∷ x ∷ y ∷ []) n e = absurd (some≢none n e)
names_fit (s ∷ x ∷ y ∷ z ∷ []) n e = absurd (some≢none n e)
names_fit (s ∷ x ∷ y ∷ z ∷ t ∷ []) n e = ((_, refl), ((_, refl), ((_, refl), ((_, refl), ((_, refl), tt)))))
names_fit (s ∷ x ∷ y ∷ z ∷ t ∷ u ∷ rest) n e = absurd (some≢none n e)

-- a step of a chain that comes to something
then_found : {A B : Type 0} (o : Option A) (f : A → Option B) (b : B) → (o >>= f) ≡ Some b → (a : A) × ((o ≡ Some a) × (f a ≡ Some b))
then_found None f b e = absurd (some≢none b e)
then_found (Some a) f b e = (a, (refl, e))

once_each : (parts : List Part) (m r o n : Option Word) → at_most_once (values_of mode_option parts) ≡ Some m → at_most_once (values_of rounds_option parts) ≡ Some r
    → at_most_once (values_of order_option parts) ≡ Some o → at_most_once (values_of number_option parts) ≡ Some n → Once parts
once_each parts m r o n em er eo en mode_option = (m, em)
once_each parts m r o n em er eo en rounds_option = (r, er)
once_each parts m r o n em er eo en order_option = (o, eo)
once_each parts m r o n em er eo en number_option = (n, en)

line_places : (parts : List Part) (line : Line) → line_of_parts parts ≡ Some line → (found : List Row) × (place 1 [] parts ≡ Some found)
unfolding line_of_parts
line_places parts line e =
    let mode = then_found (at_most_once (values_of mode_option parts)) _ line e in
    let rounds = then_found (at_most_once (values_of rounds_option parts)) _ line mode.1.1 in
    let order = then_found (at_most_once (values_of order_option parts)) _ line rounds.1.1 in
    let number = then_found (at_most_once (values_of number_option parts)) _ line order.1.1 in
    let names = then_found (names_in (names_of parts)) _ line number.1.1 in
    let once : Once parts = once_each parts mode.0 rounds.0 order.0 number.0 mode.1.0 rounds.1.0 order.1.0 number.1.0 in
    places 1 [] parts (λ choice h. absurd (true≢false (sym h))) once (names_fit (names_of parts) names.0 names.1.0) nothing_is_fresh

-- where the parts have no place, the line has no form
line_lost : (parts : List Part) → place 1 [] parts ≡ None → line_of_parts parts ≡ None
line_lost parts e = (elim (line_of_parts parts) as (λ o. line_of_parts parts ≡ o → o ≡ None)
    [ None ↦ λ h. refl | Some line ↦ λ h. let p = line_places parts line h in absurd (some≢none p.0 (sym e ∙ p.1)) ]) refl

-- ---- what `clap` answers

pub words_taken : (words : List Text) (rows : List Row) → found_in words ≡ Some rows → line_of words ≡ line_by (λ id. first_of id rows)
unfolding line_of
words_taken words rows e = (elim (parts_of None words) as (λ o. (o >>= place 1 []) ≡ Some rows → (o >>= line_of_parts) ≡ line_by (λ id. first_of id rows))
    [ None ↦ λ h. absurd (some≢none rows h) | Some parts ↦ λ h. line_found parts rows h ]) e

pub words_refused : (words : List Text) → found_in words ≡ None → line_of words ≡ None
unfolding line_of
words_refused words e = (elim (parts_of None words) as (λ o. (o >>= place 1 []) ≡ None → (o >>= line_of_parts) ≡ None)
    [ None ↦ λ h. refl | Some parts ↦ λ h. line_lost parts h ]) e

abbrev any_kind : Kinds → Bool
any_kind [] = false
any_kind (k ∷ ks) = true

agreed_rows : (kinds : Kinds) (rows : List Row) (o : Option (List Row)) → Agrees kinds rows o → kinds ≡ [] → o ≡ Some rows
agreed_rows [] rows None agrees e = absurd agrees
agreed_rows [] rows (Some found) agrees e = ap (λ r. Some r) (sym agrees)
agreed_rows (k ∷ ks) rows o agrees e = absurd (true≢false (ap any_kind e))

agreed_none : (kinds : Kinds) (rows : List Row) (o : Option (List Row)) → Agrees kinds rows o → (kinds ≡ [] → ⊥) → o ≡ None
agreed_none [] rows o agrees e = absurd (e refl)
agreed_none (k ∷ ks) rows None agrees e = refl
agreed_none (k ∷ ks) rows (Some found) agrees e = absurd agrees

-- no fault: the values that are found make the line
pub line_taken : (words : List Text) (found : Found) → AreTexts words → fault_of line_form words ≡ [] → rows_of found ≡ matches_of line_form words → line_of words ≡ line_by (first_value found)
line_taken words found texts none same =
    let each : first_value found ≡ (λ id. first_of id (rows_of found)) = λ i id. first_value-rows found id i in
    words_taken words (matches_of line_form words) (agreed_rows (fault_of line_form words) (matches_of line_form words) (found_in words) (walk_agrees words texts) none)
    ∙ ap (λ rows. line_by (λ id. first_of id rows)) (sym same) ∙ ap line_by (sym each)

-- a fault: the words break the form
pub line_refused : (words : List Text) → AreTexts words → (fault_of line_form words ≡ [] → ⊥) → line_of words ≡ None
line_refused words texts some = words_refused words (agreed_none (fault_of line_form words) (matches_of line_form words) (found_in words) (walk_agrees words texts) some)

-- ---- the answer to a fault

abbrev is_usage : WordsFault → Bool
is_usage Usage = true
is_usage Memory = false

abbrev fault_in : {A : Type 0} → Result A WordsFault → WordsFault
fault_in (Ok x) = Memory
fault_in (Err fault) = fault

abbrev refusal : {A : Type 0} → WordsFault → Result A WordsFault
refusal fault = Err fault

-- `Usage` is answered only where there is a fault in the words
pub usage_is_a_fault : {A : Type 0} (kinds : Kinds) (kind : ErrorKind) (fault : WordsFault) → fault ≡ fault_by kind → refusal {A = A} fault ≡ refusal Usage → (kind ≡ OutOfMemory) ⊎ IsAmong kind kinds
    → kinds ≡ [] → ⊥
usage_is_a_fault {A = A} kinds kind fault is usage (inl memory) none =
    true≢false (ap is_usage (sym (ap (fault_in {A = A}) usage) ∙ is ∙ ap fault_by memory))
usage_is_a_fault kinds kind fault is usage (inr among) none = subst (IsAmong kind) none among
