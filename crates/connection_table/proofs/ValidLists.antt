-- A valid list runs to its end, unless the outside fails or memory runs out.
use Rattle.std.proofs.Common.{◌≡◌, refl, sym, ◌∙◌, ap, ap₂, subst, ℕ, zero, suc, ◌<◌, ◌≤◌, ◌⊎◌, inl, inr, Option, Some, None, Ok, Err, List, [], ◌∷◌, ◌++◌, length, get_or, map, arith}
use Rattle.std.specs.Prelude.{IfSome, ◌≢◌, ◌==◌}
use Rattle.std.specs.List.{slice_get}
use Rattle.std.proofs.lemmas.Bool.{eqb-true}
use Rattle.std.proofs.lemmas.List.{length-map}
use Rattle.std.proofs.lemmas.Option.{same_Some}
use Rattle.std.proofs.lemmas.List.Quantifiers.{position-Some}
use Rattle.link_script.specs.declared.fault.ScriptFault.TheVariants.{Line}
use Rattle.link_script.specs.declared.fault.ScriptKind.{ScriptKind}
use Rattle.outside_kit.specs.Outside.{Told, HasRisen}
use Rattle.outside_kit.specs.declared.port.Port.TheVariants.{Log}
use Rattle.run_outside.specs.declared.input.Input.{Input}
use Rattle.connection_table.specs.Lists.{Names, list_reading}
use Rattle.connection_table.specs.ListWords.{NamedList}
use Rattle.connection_table.specs.declared.many.Many.{Many}
use Rattle.connection_table.specs.declared.many.Many.TheVariants.{Done, Usage, Load, TooLong, List as Listing, Script, SameToken, Put, Memory}
use Rattle.connection_table.specs.Inputs.{Contents, IsInput, IsLong}
use Rattle.connection_table.specs.Scripts.{listed_reading}
use Rattle.connection_table.specs.ManyEnds.{AreApart, AreInputs, AreValidInputs, AtFault, IsEnd, IsListedFault, IsOfListed, IsValid, IsValidInput, Says}
use Rattle.connection_table.specs.Tables.{Entry, holder_of, key_token, opened_entry}

abbrev token_in : Input → ℕ
token_in input = key_token input.script

-- ---- a connection of a valid list

module _ (content : Contents) where
  if_told : (name told : List ℕ) (P : List ℕ → Type 0) → content name ≡ Some told → IfSome (content name) P → P told
  if_told name told P is h = subst (λ o. IfSome o P) is h

  same_input : (x y : Input) → y.script ≡ x.script → y.file_a ≡ x.file_a → y.file_b ≡ x.file_b → y ≡ x
  same_input x y s a b =
      ap (λ script. let i : Input = record { script = script; file_a = y.file_a; file_b = y.file_b } in i) s
      ∙ ap (λ file. let i : Input = record { script = x.script; file_a = file; file_b = y.file_b } in i) a
      ∙ ap (λ file. let i : Input = record { script = x.script; file_a = x.file_a; file_b = file } in i) b

  -- the names tell the one input that there is
  input_is : (names : Names) (x y : Input) → IsValidInput content names x → IsInput content names y → y ≡ x
  input_is names x y valid is =
      let reads : listed_reading valid.text ≡ Ok y.script = if_told names.script valid.text _ valid.script_told is.script in
      let script : y.script ≡ x.script = (let both : Ok y.script ≡ Ok x.script = sym reads ∙ valid.script in cc) in
      same_input x y script (if_told names.file_a x.file_a (λ told. y.file_a ≡ told) valid.file_a is.file_a) (if_told names.file_b x.file_b (λ told. y.file_b ≡ told) valid.file_b is.file_b)

  inputs_are : (names : List Names) (xs ys : List Input) → AreValidInputs content names xs → AreInputs content names ys → ys ≡ xs
  inputs_are [] [] [] valid are = refl
  inputs_are [] [] (y ∷ ys) valid are = absurd are
  inputs_are [] (x ∷ xs) ys valid are = absurd valid
  inputs_are (n ∷ names) [] ys valid are = absurd valid
  inputs_are (n ∷ names) (x ∷ xs) [] valid are = absurd are
  inputs_are (n ∷ names) (x ∷ xs) (y ∷ ys) valid are = ap₂ (λ a b. a ∷ b) (input_is n x y valid.0 are.0) (inputs_are names xs ys valid.1 are.1)

  -- those before it, and it
  record Parted (before : List Names) (at : Names) (inputs : List Input) : Type 0 where
    front : List Input
    input : Input
    rest : List Input
    inputs_is : inputs ≡ front ++ input ∷ rest
    before_valid : AreValidInputs content before front
    at_valid : IsValidInput content at input

  parted : (before behind : List Names) (at : Names) (inputs : List Input) → AreValidInputs content (before ++ at ∷ behind) inputs → Parted before at inputs
  parted [] behind at [] valid = absurd valid
  parted [] behind at (x ∷ inputs) valid = record { front = []; input = x; rest = inputs; inputs_is = refl; before_valid = tt; at_valid = valid.0 }
  parted (n ∷ before) behind at [] valid = absurd valid
  parted (n ∷ before) behind at (x ∷ inputs) valid =
      let p = parted before behind at inputs valid.1 in
      record {
        front = x ∷ p.front;
        input = p.input;
        rest = p.rest;
        inputs_is = ap (λ is. x ∷ is) p.inputs_is;
        before_valid = (valid.0, p.before_valid);
        at_valid = p.at_valid;
      }

  -- none of its contents is too long
  not_long : (names : Names) (x : Input) → IsValidInput content names x → IsLong content names → ⊥
  not_long names x valid long = by long.among
    where
      told_long : (told : List ℕ) → content long.name ≡ Some told → length told ≤ 65536 → ⊥
      told_long told is short = let past : 65536 < length told = if_told long.name told (λ t. 65536 < length t) is long.long in absurd (omega (arith, past, short))

      by : (long.name ≡ names.script) ⊎ ((long.name ≡ names.file_a) ⊎ (long.name ≡ names.file_b)) → ⊥
      by (inl e) = told_long valid.text (ap content e ∙ valid.script_told) valid.script_short
      by (inr (inl e)) = told_long x.file_a (ap content e ∙ valid.file_a) valid.short.file_a
      by (inr (inr e)) = told_long x.file_b (ap content e ∙ valid.file_b) valid.short.file_b

  -- and its script isn't refused
  not_refused : (names : Names) (x : Input) (line : ℕ) (kind : ScriptKind) → IsValidInput content names x
      → IfSome (content names.script) (λ told. listed_reading told ≡ Err (Line line kind)) → ⊥
  not_refused names x line kind valid refused =
      let reads : listed_reading valid.text ≡ Err (Line line kind) = if_told names.script valid.text _ valid.script_told refused in
      let both : Ok x.script ≡ Err (Line line kind) = sym valid.script ∙ reads in
      cc

-- ---- tokens that differ

at_middle : (front rest : List Input) (x : Input) → slice_get (map token_in (front ++ x ∷ rest)) (length front) ≡ Some (token_in x)
at_middle [] rest x = refl
at_middle (f ∷ front) rest x = at_middle front rest x

differs : (front rest : List Input) (x : Input) (i : ℕ) (d : Entry) → i < length front → AreApart (map token_in (front ++ x ∷ rest))
    → token_in (get_or (map opened_entry front) i d).input ≢ token_in x
differs [] rest x i d within apart e = absurd (omega (arith, within))
differs (f ∷ front) rest x zero d within apart e = apart.0.each (length front) (token_in x) (at_middle front rest x) e
differs (f ∷ front) rest x (suc i) d within apart e = differs front rest x i d (omega (arith, within)) apart.1 e

no_holder : (front rest : List Input) (x : Input) (holder : ℕ) → AreApart (map token_in (front ++ x ∷ rest)) → holder_of (token_in x) (map opened_entry front) ≡ Some holder → ⊥
no_holder front rest x holder apart is =
    let found = position-Some (λ (e : Entry). key_token e.input.script == token_in x) (map opened_entry front) holder (opened_entry x) is in
    let within : holder < length front = omega (arith, found.0, length-map front opened_entry) in
    differs front rest x holder (opened_entry x) within apart (eqb-true _ _ found.1)

-- ---- a valid list

module _ (content : Contents) (words : NamedList) (valid : IsValid content words) (old new : ℕ) where
  told : (P : List ℕ → Type 0) → IfSome (content words.list) P → P valid.list
  told P h = subst (λ o. IfSome o P) valid.told h

  -- none of its connections is refused so
  abbrev IsSound : Many → Type 0
  IsSound many = (before behind : List Names) (at : Names) (p : Parted content before at valid.inputs) → AtFault content p.front at old new many → ⊥

  of_valid : (many : Many) → many ≢ Memory → IsSound many → IsOfListed content words old new many → ⊥
  of_valid many not sound of = by fault.cause
    where
      read : (names : List Names) × (Says valid.list names × IsListedFault content names old new many)
      read = told _ of

      fault : IsListedFault content read.0 old new many
      fault = read.1.1

      names_is : read.0 ≡ valid.names
      names_is = let both : Ok read.0 ≡ Ok valid.names = sym read.1.0.1 ∙ valid.read in cc

      at_one : (at : Names) (behind : List Names) → read.0 ≡ fault.before ++ at ∷ behind → AtFault content fault.inputs at old new many → ⊥
      at_one at behind is cause =
          let p = parted content fault.before behind at valid.inputs (subst (λ ns. AreValidInputs content ns valid.inputs) (sym names_is ∙ is) valid.valid) in
          let same : fault.inputs ≡ p.front = inputs_are content fault.before p.front fault.inputs p.before_valid fault.admitted in
          sound fault.before behind at p (subst (λ is. AtFault content is at old new many) same cause)

      by : (many ≡ Memory) ⊎ ((at : Names) × ((behind : List Names) × ((read.0 ≡ fault.before ++ at ∷ behind) × AtFault content fault.inputs at old new many))) → ⊥
      by (inl memory) = not memory
      by (inr h) = at_one h.0 h.1.0 h.1.1.0 h.1.1.1

  not_too_long : (line : ℕ) → ((line ≡ 0) × IfSome (content words.list) (λ t. 65536 < length t)) ⊎ IsOfListed content words old new (TooLong line) → ⊥
  not_too_long line (inl h) = let past : 65536 < length valid.list = told _ h.1 in absurd (omega (arith, past, valid.short))
  not_too_long line (inr of) =
      of_valid (TooLong line) (λ e. cc) (λ before behind at p fault. not_long content at p.input p.at_valid fault.1) of

  not_listing : (line : ℕ) → IfSome (content words.list) (λ list. (length list ≤ 65536) × (list_reading list ≡ Err line)) → ⊥
  not_listing line h =
      let reads : list_reading valid.list ≡ Err line = (told _ h).1 in
      let both : Ok valid.names ≡ Err line = sym valid.read ∙ reads in
      cc

  not_script : (entry line : ℕ) (kind : ScriptKind) → IsOfListed content words old new (Script entry line kind) → ⊥
  not_script entry line kind of =
      of_valid (Script entry line kind) (λ e. cc) (λ before behind at p fault. not_refused content at p.input line kind p.at_valid fault.1.1) of

  not_same : (line holder : ℕ) → IsOfListed content words old new (SameToken line holder) → ⊥
  not_same line holder of = of_valid (SameToken line holder) (λ e. cc) (λ before behind at p fault. one before at p fault.1.0 fault.1.1.0 fault.1.1.1) of
    where
      one : (before : List Names) (at : Names) (p : Parted content before at valid.inputs) (input : Input) → IsInput content at input
          → holder_of (token_in input) (map opened_entry p.front) ≡ Some holder → ⊥
      one before at p input is held =
          let same : input ≡ p.input = input_is content at p.input input p.at_valid is in
          no_holder p.front p.rest p.input holder (subst (λ is. AreApart (map token_in is)) p.inputs_is valid.apart)
          (subst (λ i. holder_of (token_in i) (map opened_entry p.front) ≡ Some holder) same held)

pub valid_ends : (words : NamedList) (before after : Told) (many : Many) → IsEnd words before after many → IsValid before.content words
    → (many ≡ Done) ⊎ ((many ≡ Memory) ⊎ (HasRisen before.load_faults after.load_faults ⊎ HasRisen (before.port_faults Log) (after.port_faults Log)))
valid_ends words before after Done h valid = inl refl
valid_ends words before after Memory h valid = inr (inl refl)
valid_ends words before after Put h valid = inr (inr (inr h.0))
valid_ends words before after (Load line) h valid = inr (inr (inl h.0.0))
valid_ends words before after Usage h valid = absurd h
valid_ends words before after (TooLong line) h valid = absurd (not_too_long before.content words valid before.load_faults after.load_faults line h.0)
valid_ends words before after (Listing line) h valid = absurd (not_listing before.content words valid before.load_faults after.load_faults line h.0)
valid_ends words before after (Script entry line kind) h valid = absurd (not_script before.content words valid before.load_faults after.load_faults entry line kind h.0)
valid_ends words before after (SameToken line holder) h valid = absurd (not_same before.content words valid before.load_faults after.load_faults line holder h.0)

-- where the words name a list
pub valid_listed : (o : Option NamedList) (words : NamedList) (before after : Told) (many : Many) → Some words ≡ o → IsEnd words before after many
    → IfSome o (λ named. IsValid before.content named
    → (many ≡ Done) ⊎ ((many ≡ Memory) ⊎ (HasRisen before.load_faults after.load_faults ⊎ HasRisen (before.port_faults Log) (after.port_faults Log))))
valid_listed None words before after many is end = tt
valid_listed (Some named) words before after many is end = λ valid.
    valid_ends named before after many (subst (λ w. IsEnd w before after many) (same_Some words named is) end) valid
