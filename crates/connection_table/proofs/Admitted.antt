-- The connections of a list, loaded and admitted one after the other.
use Rattle.std.proofs.Common.{◌≡◌, refl, sym, ◌∙◌, ap, subst, ℕ, zero, suc, ◌+◌, ◌<◌, ◌≤◌, ◌⊎◌, inl, inr, List, [], ◌∷◌, ◌++◌, length, get_or, map, take, drop, None, arith}
use Rattle.std.specs.Prelude.{IfSome}
use Rattle.std.proofs.lemmas.List.{length-append, length-map, map-append, take_more}
use Rattle.run_outside.specs.declared.input.Input.{Input}
use Rattle.run_outside.proofs.PortsLemmas.{risen_later}
use Rattle.connection_table.specs.Lists.{Names, as_names}
use Rattle.connection_table.specs.declared.list.Listed.{Listed}
use Rattle.connection_table.specs.declared.many.Many.{Many}
use Rattle.connection_table.specs.declared.many.Many.TheVariants.{Done, Usage, Load, TooLong, List as Listing, Script, SameToken, Put, Memory}
use Rattle.connection_table.specs.Causes.{IsInputFault}
use Rattle.connection_table.specs.Inputs.{AreWithin, Contents, IsInput, IsLong}
use Rattle.connection_table.specs.ManyEnds.{AreAdmitted, AreInputs, AtFault, IsAdmitFault, IsListedFault}
use Rattle.connection_table.specs.Tables.{Entry, holder_of, key_token, opened_entry}
use Rattle.connection_table.proofs.OwnTokens.{apart_more}

-- ---- a connection more

module _ (content : Contents) where
  inputs_more : (names : List Names) (inputs : List Input) (at : Names) (input : Input) → AreInputs content names inputs → IsInput content at input
      → AreInputs content (names ++ at ∷ []) (inputs ++ input ∷ [])
  inputs_more [] [] at input are is = (is, tt)
  inputs_more [] (x ∷ inputs) at input are is = absurd are
  inputs_more (n ∷ names) [] at input are is = absurd are
  inputs_more (n ∷ names) (x ∷ inputs) at input are is = (are.0, inputs_more names inputs at input are.1 is)

  pub admitted_none : AreAdmitted content [] []
  admitted_none = record { inputs = []; are = tt; apart = tt; table_is = refl }

  pub admitted_more : (names : List Names) (table : List Entry) (at : Names) (input : Input) → AreAdmitted content names table → IsInput content at input
      → holder_of (key_token input.script) table ≡ None → AreAdmitted content (names ++ at ∷ []) (table ++ opened_entry input ∷ [])
  admitted_more names table at input are is new = record {
    inputs = are.inputs ++ input ∷ [];
    are = inputs_more names are.inputs at input are.are is;
    apart = apart_more are.inputs input are.apart (ap (holder_of (key_token input.script)) (sym are.table_is) ∙ new);
    table_is = ap (λ es. es ++ opened_entry input ∷ []) are.table_is ∙ sym (map-append opened_entry are.inputs (input ∷ []));
  }

-- ---- the same contents

module _ (c d : Contents) (same : (name : List ℕ) → c name ≡ d name) where
  if_told : (name : List ℕ) (P : List ℕ → Type 0) → IfSome (c name) P → IfSome (d name) P
  if_told name P h = subst (λ o. IfSome o P) (same name) h

  pub input_of_same : (names : Names) (input : Input) → IsInput c names input → IsInput d names input
  input_of_same names input is = record {
    script = if_told names.script _ is.script;
    within = if_told names.script _ is.within;
    file_a = if_told names.file_a _ is.file_a;
    file_b = if_told names.file_b _ is.file_b;
    short = is.short;
    leaves = is.leaves;
  }

  inputs_of_same : (names : List Names) (inputs : List Input) → AreInputs c names inputs → AreInputs d names inputs
  inputs_of_same [] [] are = tt
  inputs_of_same [] (x ∷ inputs) are = absurd are
  inputs_of_same (n ∷ names) [] are = absurd are
  inputs_of_same (n ∷ names) (x ∷ inputs) are = (input_of_same n x are.0, inputs_of_same names inputs are.1)

  pub admitted_of_same : (names : List Names) (table : List Entry) → AreAdmitted c names table → AreAdmitted d names table
  admitted_of_same names table are = record { inputs = are.inputs; are = inputs_of_same names are.inputs are.are; apart = are.apart; table_is = are.table_is }

  long_of_same : (names : Names) → IsLong c names → IsLong d names
  long_of_same names long = record { name = long.name; among = long.among; long = if_told long.name _ long.long }

  within_of_same : (names : Names) → AreWithin c names → AreWithin d names
  within_of_same names are = record {
    script = if_told names.script _ are.script;
    file_a = if_told names.file_a _ are.file_a;
    file_b = if_told names.file_b _ are.file_b;
  }

  module _ (old middle new : ℕ) (few : old ≤ middle) where
    fault_of_same : (entry : ℕ) (names : Names) (many : Many) → IsInputFault entry c names middle new many → IsInputFault entry d names old new many
    fault_of_same entry names (Load line) fault = (fault.0, risen_later old middle new few fault.1)
    fault_of_same entry names (TooLong line) fault = (fault.0, long_of_same names fault.1)
    fault_of_same entry names (Script named line kind) fault = (fault.0, (within_of_same names fault.1.0, if_told names.script _ fault.1.1))
    fault_of_same entry names Memory fault = tt
    fault_of_same entry names Done fault = absurd fault
    fault_of_same entry names Usage fault = absurd fault
    fault_of_same entry names (Listing line) fault = absurd fault
    fault_of_same entry names (SameToken line holder) fault = absurd fault
    fault_of_same entry names Put fault = absurd fault

    at_of_same : (inputs : List Input) (names : Names) (many : Many) → AtFault c inputs names middle new many → AtFault d inputs names old new many
    at_of_same inputs names (SameToken line holder) fault = (fault.0, (fault.1.0, (input_of_same names fault.1.0 fault.1.1.0, fault.1.1.1)))
    at_of_same inputs names (Load line) fault = fault_of_same (length inputs) names (Load line) fault
    at_of_same inputs names (TooLong line) fault = fault_of_same (length inputs) names (TooLong line) fault
    at_of_same inputs names (Script named line kind) fault = fault_of_same (length inputs) names (Script named line kind) fault
    at_of_same inputs names Memory fault = tt
    at_of_same inputs names Done fault = absurd fault
    at_of_same inputs names Usage fault = absurd fault
    at_of_same inputs names (Listing line) fault = absurd fault
    at_of_same inputs names Put fault = absurd fault

    pub listed_of_same : (names : List Names) (many : Many) → IsListedFault c names middle new many → IsListedFault d names old new many
    listed_of_same names many fault = record {
      before = fault.before;
      inputs = fault.inputs;
      admitted = inputs_of_same fault.before fault.inputs fault.admitted;
      apart = fault.apart;
      cause = by fault.cause;
    }
      where
        by : (many ≡ Memory) ⊎ ((at : Names) × ((behind : List Names) × ((names ≡ fault.before ++ at ∷ behind) × AtFault c fault.inputs at middle new many)))
            → (many ≡ Memory) ⊎ ((at : Names) × ((behind : List Names) × ((names ≡ fault.before ++ at ∷ behind) × AtFault d fault.inputs at old new many)))
        by (inl memory) = inl memory
        by (inr h) = inr (h.0, (h.1.0, (h.1.1.0, at_of_same fault.inputs h.0 many h.1.1.1)))

-- ---- one that can't be admitted

module _ (content : Contents) (before behind : List Names) (at : Names) (table : List Entry) (are : AreAdmitted content before table) where
  count_is : length are.inputs ≡ length table
  count_is = sym (length-map are.inputs opened_entry) ∙ ap length (sym are.table_is)

  module _ (old new : ℕ) where
    pub listed_fault : (many : Many) → AtFault content are.inputs at old new many → IsListedFault content (before ++ at ∷ behind) old new many
    listed_fault many fault = record { before = before; inputs = are.inputs; admitted = are.are; apart = are.apart; cause = inr (at, (behind, (refl, fault))) }

    at_input : (entry : ℕ) (many : Many) → entry ≡ length are.inputs → IsInputFault entry content at old new many → AtFault content are.inputs at old new many
    at_input entry (Load line) is fault = subst (λ n. IsInputFault n content at old new (Load line)) is fault
    at_input entry (TooLong line) is fault = subst (λ n. IsInputFault n content at old new (TooLong line)) is fault
    at_input entry (Script named line kind) is fault = subst (λ n. IsInputFault n content at old new (Script named line kind)) is fault
    at_input entry Memory is fault = tt
    at_input entry Done is fault = absurd fault
    at_input entry Usage is fault = absurd fault
    at_input entry (Listing line) is fault = absurd fault
    at_input entry (SameToken line holder) is fault = absurd fault
    at_input entry Put is fault = absurd fault

    -- its loads or its script
    pub unloaded : (many : Many) → IsInputFault (length table) content at old new many → IsListedFault content (before ++ at ∷ behind) old new many
    unloaded many fault = listed_fault many (at_input (length table) many (sym count_is) fault)

    -- its token
    at_token : (input : Input) (many : Many) → IsInput content at input → IsAdmitFault (length table) (holder_of (key_token input.script) table) many
        → AtFault content are.inputs at old new many
    at_token input (SameToken line holder) is fault = (
      fault.0 ∙ ap (λ n. n + 1) (sym count_is),
      (input, (is, ap (holder_of (key_token input.script)) (sym are.table_is) ∙ fault.1)),
    )
    at_token input Memory is fault = tt
    at_token input Done is fault = absurd fault
    at_token input Usage is fault = absurd fault
    at_token input (Load line) is fault = absurd fault
    at_token input (TooLong line) is fault = absurd fault
    at_token input (Listing line) is fault = absurd fault
    at_token input (Script named line kind) is fault = absurd fault
    at_token input Put is fault = absurd fault

    pub refused : (input : Input) (many : Many) → IsInput content at input → IsAdmitFault (length table) (holder_of (key_token input.script) table) many
        → IsListedFault content (before ++ at ∷ behind) old new many
    refused input many is fault = listed_fault many (at_token input many is fault)

-- ---- the list

list_at : {X Y : Type 0} (f : X → Y) (xs : List X) (i : ℕ) (d : X) → i < length xs → map f xs ≡ map f (take i xs) ++ f (get_or xs i d) ∷ map f (drop (suc i) xs)
list_at f [] i d within = absurd (omega (arith, within))
list_at f (x ∷ xs) zero d within = refl
list_at f (x ∷ xs) (suc i) d within = ap (λ ys. f x ∷ ys) (list_at f xs i d (omega (arith, within)))

-- contents as they are now, and as they were at first; the connections before this one
module _ (c d : Contents) (same : (name : List ℕ) → c name ≡ d name) (listed : List Listed) (i : ℕ) (e : Listed) (within : i < length listed) (table : List Entry)
    (are : AreAdmitted d (map as_names (take i listed)) table) where
  abbrev at_i : Names
  at_i = as_names (get_or listed i e)

  are_now : AreAdmitted c (map as_names (take i listed)) table
  are_now = admitted_of_same d c (λ name. sym (same name)) (map as_names (take i listed)) table are

  module _ (old middle new : ℕ) (few : old ≤ middle) (entry : ℕ) (entry_is : entry ≡ length table) (many : Many) where
    whole_list : IsListedFault c (map as_names (take i listed) ++ at_i ∷ map as_names (drop (suc i) listed)) middle new many → IsListedFault d (map as_names listed) old new many
    whole_list fault =
        listed_of_same c d same old middle new few (map as_names listed) many
        (subst (λ ns. IsListedFault c ns middle new many) (sym (list_at as_names listed i e within)) fault)

    pub entry_unloaded : IsInputFault entry c at_i middle new many → IsListedFault d (map as_names listed) old new many
    entry_unloaded fault =
        whole_list (unloaded c (map as_names (take i listed)) (map as_names (drop (suc i) listed)) at_i table are_now middle new many
        (subst (λ n. IsInputFault n c at_i middle new many) entry_is fault))

    pub entry_refused : (input : Input) → IsInput c at_i input → IsAdmitFault entry (holder_of (key_token input.script) table) many → IsListedFault d (map as_names listed) old new many
    entry_refused input is fault =
        whole_list (refused c (map as_names (take i listed)) (map as_names (drop (suc i) listed)) at_i table are_now middle new input many is
        (subst (λ n. IsAdmitFault n (holder_of (key_token input.script) table) many) entry_is fault))

  pub entry_admitted : (input : Input) (new : List Entry) → IsInput c at_i input → holder_of (key_token input.script) table ≡ None
      → new ≡ table ++ opened_entry input ∷ [] → AreAdmitted d (map as_names (take (i + 1) listed)) new
  entry_admitted input new is apart new_is =
      let names_are : map as_names (take (i + 1) listed) ≡ map as_names (take i listed) ++ at_i ∷ [] =
      ap (map as_names) (take_more listed i e within) ∙ map-append as_names (take i listed) (get_or listed i e ∷ []) in
      subst (λ ns. AreAdmitted d ns new) (sym names_are)
      (subst (λ t. AreAdmitted d (map as_names (take i listed) ++ at_i ∷ []) t) (sym new_is)
      (admitted_more d (map as_names (take i listed)) table at_i input are (input_of_same c d same at_i input is) apart))

pub count_more : (table new : List Entry) (e : Entry) (i : ℕ) → length table ≡ i → new ≡ table ++ e ∷ [] → length new ≡ i + 1
count_more table new e i count is =
    let more : length new ≡ length (table ++ e ∷ []) = ap length is in
    omega (arith, count, more, length-append table (e ∷ []))
