-- What one use of an option or a name adds to what was found, and what is pending.
use Rattle.std.proofs.Common.{◌≡◌, ◌∙◌, ℕ, suc, Bool, true, false, cond, ◌&&◌, ◌||◌, refl, ap, subst, List, [], ◌∷◌, ◌++◌, Option, Some, None, true≢false}
use Rattle.std.specs.Str.{bytes_eq}
use Rattle.clap.specs.Words.{Row, Text}
use Rattle.clap.specs.Kinds.{Kinds, or_else}
use Rattle.clap.specs.Walk.{Held, arg_by_id, has_row, settled_rows, used, without, with_values}
use Rattle.clap.specs.Faults.{settle_fault, use_fault}
use Rattle.clap.specs.declared.builder.value_parser.ValueParser.{ValueParser}
use Rattle.clap.specs.declared.builder.value_parser.Reading.{Reading}
use Rattle.clap.specs.declared.parser.matches.ValueSource.TheVariants.{CommandLine}
use Rattle.clap.specs.Values.{reading_of}
use Rattle.run_words.specs.Parts.{Choice, label, Part, option, name}
use Rattle.run_words.specs.Lines.{◌>>=◌}
use Rattle.run_words.proofs.Rules.{by_choice, form_rules, name_id, plain}

-- ---- one use of an option or a name

abbrev pub row : Text → Text → Row
row id v = record { id = id; values = v ∷ []; count = None; source = Some CommandLine; reading = reading_of ValueParser.String }

-- the rows with one more, where the id has none yet
abbrev pub new : Text → Text → List Row → Option (List Row)
new id v rows = cond (has_row id rows) None (Some (rows ++ row id v ∷ []))

abbrev pub place_name : Option Text → Text → List Row → (List Row → Option (List Row)) → Option (List Row)
place_name None v rows next = None
place_name (Some id) v rows next = new id v rows >>= next

-- the rows after the parts, of which the next name stands at this position
unfoldable pub place : ℕ → List Row → List Part → Option (List Row)
place position rows [] = Some rows
place position rows (option choice v ∷ parts) = new (label choice) v rows >>= λ r. place position r parts
place position rows (name v ∷ parts) = place_name (name_id position) v rows (λ r. place (suc position) r parts)

-- kinds of fault beside what was found: both or neither
abbrev pub Agrees : Kinds → List Row → Option (List Row) → Type 0
Agrees [] rows (Some found) = rows ≡ found
Agrees [] rows None = ⊥
Agrees (k ∷ ks) rows (Some found) = ⊥
Agrees (k ∷ ks) rows None = Unit

pub agrees_then : (k₁ k₂ : Kinds) (r₁ r₂ : List Row) (o : Option (List Row)) (f : List Row → Option (List Row)) → Agrees k₁ r₁ o → Agrees k₂ r₂ (f r₁) → Agrees (or_else k₁ k₂) r₂ (o >>= f)
agrees_then [] k₂ r₁ r₂ None f a b = absurd a
agrees_then [] k₂ r₁ r₂ (Some r) f a b = subst (λ x. Agrees k₂ r₂ (f x)) a b
agrees_then (k ∷ ks) k₂ r₁ r₂ None f a b = tt
agrees_then (k ∷ ks) k₂ r₁ r₂ (Some r) f a b = absurd a

abbrev pub nothing : {A B : Type 0} → A → Option B
nothing x = None

pub then_none : {A B : Type 0} (o : Option A) → (o >>= nothing {A = A} {B = B}) ≡ nothing o
then_none None = refl
then_none (Some x) = refl

pub then_some : {A : Type 0} (o : Option A) → (o >>= (λ x. Some x)) ≡ o
then_some None = refl
then_some (Some x) = refl

pub or_else_assoc : (a b d : Kinds) → or_else (or_else a b) d ≡ or_else a (or_else b d)
or_else_assoc = elim [ [] ↦ λ b d. refl | k ∷ ks ↦ λ b d. refl ]

pub or_else_nil : (a : Kinds) → or_else a [] ≡ a
or_else_nil = elim [ [] ↦ refl | k ∷ ks ↦ refl ]

pub or_nothing : (b : Bool) → (b || false) ≡ b
or_nothing = elim [ true ↦ refl | false ↦ refl ]

pub no_several : (b : Bool) → (b && false) ≡ false
no_several = elim [ true ↦ refl | false ↦ refl ]

pub or_false : (a b : Bool) → (a || b) ≡ false → (a ≡ false) × (b ≡ false)
or_false = elim [ true ↦ λ b e. absurd (true≢false e) | false ↦ λ b e. (refl, e) ]

pub without_none : (id : Text) (rows : List Row) → has_row id rows ≡ false → without id rows ≡ rows
without_none id [] e = refl
without_none id (r ∷ rs) e =
    let parts = or_false (bytes_eq r.id id) (has_row id rs) e in
    let here : bytes_eq r.id id ≡ false = parts.0 in
    rw here (ap (λ x. r ∷ x) (without_none id rs parts.1))

pub with_none : (id : Text) (how : Reading) (vs : List Text) (rows : List Row) → has_row id rows ≡ false
    → with_values id how CommandLine vs rows ≡ rows ++ record { id = id; values = vs; count = None; source = Some CommandLine; reading = how } ∷ []
with_none id how vs [] e = refl
with_none id how vs (r ∷ rs) e =
    let parts = or_false (bytes_eq r.id id) (has_row id rs) e in
    let here : bytes_eq r.id id ≡ false = parts.0 in
    rw here (ap (λ x. r ∷ x) (with_none id how vs rs parts.1))

-- a use of a rule with one value
pub use_agrees : (id : Text) (l : Option Text) (i : Option ℕ) (v : Text) (rows : List Row) → Agrees (use_fault false (plain id l i) (v ∷ []) rows) (used (plain id l i) (v ∷ []) rows) (new id v rows)
use_agrees id l i v rows = (elim (has_row id rows) as (λ b. has_row id rows ≡ b → Agrees (use_fault false (plain id l i) (v ∷ []) rows) (used (plain id l i) (v ∷ []) rows) (new id v rows)) [
  | true ↦ λ e. rw e tt
  | false ↦ λ e. rw e (ap (λ x. with_values id (reading_of ValueParser.String) CommandLine (v ∷ []) x) (without_none id rows e) ∙ with_none id (reading_of ValueParser.String) (v ∷ []) rows e)
]) refl

-- ---- what is pending

abbrev pub held : List Row → Option (Text × List Text) → Held
held rows pending = record { rows = rows; pending = pending; skip = 0 }

-- what is pending comes to `reading`
abbrev pub Settles : Option (Text × List Text) → (List Row → Option (List Row)) → Type 0
Settles pending reading = (rows : List Row) → Agrees (settle_fault form_rules false (held rows pending)) (settled_rows form_rules pending rows) (reading rows)

pub settles_nothing : Settles None (λ rows. Some rows)
settles_nothing rows = refl

pub settles_value : (id : Text) (l : Option Text) (i : Option ℕ) (v : Text) → arg_by_id form_rules id ≡ Some (plain id l i) → Settles (Some (id, v ∷ [])) (new id v)
settles_value id l i v known rows = rw known (use_agrees id l i v rows)

pub settles_lack : (choice : Choice) → Settles (Some (label choice, [])) (λ rows. None)
settles_lack choice rows = rw (by_choice choice) tt
