-- The loads of a list, line by line.
use Rattle.std.proofs.Common.{◌≡◌, refl, sym, ◌∙◌, ap, subst, inl, inr, ℕ, zero, suc, ◌+◌, ◌<◌, Option, Some, None, Result, Ok, Err, List, [], ◌∷◌, ◌++◌, length, get_or, map, take, append_assoc, arith}
use Rattle.std.specs.Prelude.{IfOk, IfSome}
use Rattle.std.specs.List.{slice_get}
use Rattle.std.proofs.lemmas.Grind.{flat_map-append}
use Rattle.std.proofs.lemmas.List.{append-nil, map-append, take-map, take_more}
use Rattle.outside_kit.specs.Calls.{Call}
use Rattle.outside_kit.specs.Calls as call
use Rattle.run_outside.specs.Plan.{failed, Adds, AddsAll}
use Rattle.run_outside.proofs.Calls.{ToldCalls, all_then}
use Rattle.connection_table.specs.Lists.{Names, as_names, list_reading}
use Rattle.connection_table.specs.ListWords.{NamedList}
use Rattle.connection_table.specs.declared.list.Listed.{Listed}
use Rattle.connection_table.specs.declared.many.Many.{Many}
use Rattle.connection_table.specs.declared.many.Many.TheVariants.{Done, Usage, Load, TooLong, List as Listing, Script, SameToken, Put, Memory}
use Rattle.connection_table.specs.Causes.{IsInputFault, IsListFault, IsLoadFault}
use Rattle.connection_table.specs.Inputs.{Contents}
use Rattle.connection_table.specs.Loads.{AddsCut, AddsLoadsThrough, AddsLoadsTo, AddsToFailed, InputAdds, LinesAdd, ListAdds, joined, loads_by_line, loads_of}
use Rattle.connection_table.proofs.Adding.{all_cut}
use Rattle.connection_table.specs.ManyEnds.{IsAdmitFault}
use Rattle.connection_table.proofs.CallsMade.{cut_behind, cut_within, failed_then}

-- ---- the connections

abbrev lines_of_listed : List Listed → List (List Call)
lines_of_listed listed = map loads_of (map as_names listed)

there_is : (listed : List Listed) (i : ℕ) (e : Listed) → i < length listed → slice_get (lines_of_listed listed) i ≡ Some (loads_of (as_names (get_or listed i e)))
there_is [] i e within = absurd (omega (arith, within))
there_is (x ∷ listed) zero e within = refl
there_is (x ∷ listed) (suc i) e within = there_is listed i e (omega (arith, within))

-- the first lines of all of them
first_lines : (listed : List Listed) (n : ℕ) → take n (lines_of_listed listed) ≡ lines_of_listed (take n listed)
first_lines listed n = take-map loads_of n (map as_names listed) ∙ ap (map loads_of) (take-map as_names n listed)

-- those behind a line
behind_entry : (listed : List Listed) (i : ℕ) (e : Listed) → i < length listed → (more : List Call)
    × (joined ([] ∷ lines_of_listed listed) ≡ joined (lines_of_listed (take i listed)) ++ (loads_of (as_names (get_or listed i e)) ++ more))
behind_entry [] i e within = absurd (omega (arith, within))
behind_entry (x ∷ listed) zero e within = (joined (lines_of_listed listed), refl)
behind_entry (x ∷ listed) (suc i) e within =
    let rest = behind_entry listed i e (omega (arith, within)) in
    let own : List Call = loads_of (as_names x) in
    let next : List Call = loads_of (as_names (get_or listed i e)) in
    (rest.0, ap (λ calls. own ++ calls) rest.1 ∙ sym (append_assoc own (joined (lines_of_listed (take i listed))) (next ++ rest.0)))

module _ (listed : List Listed) (i : ℕ) (e : Listed) (within : i < length listed) (a b c : ToldCalls) (before : AddsAll (joined (lines_of_listed (take i listed))) a b) where
  abbrev at_i : Names
  at_i = as_names (get_or listed i e)

  -- the loads of one more were made
  pub entry_calls : AddsAll (loads_of at_i) b c → AddsAll (joined (lines_of_listed (take (i + 1) listed))) a c
  entry_calls own = subst (λ plan. AddsAll plan a c) (sym more) (all_then (joined (lines_of_listed (take i listed))) (loads_of at_i) a b c before own)
    where
      more : joined (lines_of_listed (take (i + 1) listed)) ≡ joined (lines_of_listed (take i listed)) ++ loads_of at_i
      more =
          ap (λ first. joined (lines_of_listed first)) (take_more listed i e within)
          ∙ ap joined (ap (map loads_of) (map-append as_names (take i listed) (get_or listed i e ∷ [])) ∙ map-append loads_of (map as_names (take i listed)) (at_i ∷ []))
          ∙ flat_map-append (λ (loads : List Call). loads) (lines_of_listed (take i listed)) (loads_of at_i ∷ [])
          ∙ ap (λ last. joined (lines_of_listed (take i listed)) ++ last) (append-nil (loads_of at_i))

  module _ (entry : ℕ) (entry_is : entry ≡ i) where
    abbrev Lines : List (List Call)
    Lines = [] ∷ lines_of_listed listed

    to_line : (line : ℕ) → line ≡ entry + 1 → AddsToFailed [] (loads_of at_i) b c → AddsLoadsTo Lines line a c
    to_line line is cut = subst (λ n. AddsLoadsTo Lines n a c) at (record {
      own = loads_of at_i;
      there = there_is listed i e within;
      cut = subst (λ first. AddsToFailed first (loads_of at_i) a c) (append-nil (joined (lines_of_listed (take i listed))) ∙ ap joined (sym (first_lines listed i)))
          (failed_then (joined (lines_of_listed (take i listed))) [] (loads_of at_i) a b c before cut);
    })
      where
        at : suc i ≡ line
        at = omega (arith, is, entry_is)

    through_line : (line : ℕ) → line ≡ entry + 1 → AddsAll (loads_of at_i) b c → AddsLoadsThrough Lines line a c
    through_line line is own = subst (λ n. AddsAll (joined (take n Lines)) a c) at (subst (λ plan. AddsAll plan a c) (ap joined (sym (first_lines listed (i + 1)))) (entry_calls own))
      where
        at : suc (i + 1) ≡ line + 1
        at = omega (arith, is, entry_is)

    -- some of its loads were made
    of_lines : AddsCut (loads_of at_i) b c → AddsCut (joined Lines) a c
    of_lines cut =
        let rest = behind_entry listed i e within in
        subst (λ plan. AddsCut plan a c) (sym rest.1) (cut_within (joined (lines_of_listed (take i listed))) (loads_of at_i) rest.0 a b c before cut)

    -- one of its loads failed, or its script is refused
    pub entry_cut : (content : Contents) (old new : ℕ) (many : Many) → IsInputFault entry content at_i old new many → InputAdds (loads_of at_i) b c many → LinesAdd Lines a c many
    entry_cut content old new (Load line) fault adds = to_line line fault.0 adds
    entry_cut content old new (TooLong line) fault adds = to_line line fault.0 adds
    entry_cut content old new (Script named line kind) fault adds = through_line (named + 1) (ap (λ n. n + 1) fault.0) adds
    entry_cut content old new Memory fault adds = of_lines adds
    entry_cut content old new Done fault adds = tt
    entry_cut content old new Usage fault adds = tt
    entry_cut content old new (Listing line) fault adds = absurd fault
    entry_cut content old new (SameToken line holder) fault adds = absurd fault
    entry_cut content old new Put fault adds = tt

    -- its token is another's
    pub entry_made : (holder : Option ℕ) (many : Many) → IsAdmitFault entry holder many → AddsAll (loads_of at_i) b c → LinesAdd Lines a c many
    entry_made holder (SameToken line named) fault own = through_line line fault.0 own
    entry_made holder Memory fault own = of_lines (all_cut (loads_of at_i) b c own)
    entry_made holder Done fault own = tt
    entry_made holder Usage fault own = tt
    entry_made holder Put fault own = tt
    entry_made holder (Load line) fault own = absurd fault
    entry_made holder (TooLong line) fault own = absurd fault
    entry_made holder (Listing line) fault own = absurd fault
    entry_made holder (Script entry line kind) fault own = absurd fault

-- ---- the list

abbrev names_in_form : Result (List Names) ℕ → List Names
names_in_form (Ok names) = names
names_in_form (Err line) = []

abbrev names_told : Option (List ℕ) → List Names
names_told None = []
names_told (Some list) = names_in_form (list_reading list)

in_form : (read : Result (List Names) ℕ) → IfOk read (λ names. names_in_form read ≡ names)
in_form (Ok names) = refl
in_form (Err line) = tt

said_told : (told : Option (List ℕ)) → IfSome told (λ list. IfOk (list_reading list) (λ read. names_told told ≡ read))
said_told None = tt
said_told (Some list) = in_form (list_reading list)

said_read : (told : Option (List ℕ)) (bytes : List ℕ) (names : List Names) → IfSome told (λ list. bytes ≡ list) → list_reading bytes ≡ Ok names
    → IfSome told (λ list. IfOk (list_reading list) (λ read. names ≡ read))
said_read None bytes names whole read = tt
said_read (Some list) bytes names whole read = subst (λ r. IfOk r (λ x. names ≡ x)) (sym read ∙ ap list_reading whole) refl

module _ (content : Contents) (words : NamedList) where
  abbrev LinesTold : List (List Call)
  LinesTold = loads_by_line words.list (names_told (content words.list))

  -- what the lines are is no matter
  told_adds : (a b : ToldCalls) (many : Many) → LinesAdd LinesTold a b many → ListAdds content words a b many
  told_adds a b many adds = record { names = names_told (content words.list); said = said_told (content words.list); adds = adds }

  -- the load of the list failed
  pub list_unloaded : (a b : ToldCalls) (told : Option (List ℕ)) (old new : ℕ) (many : Many) → IsLoadFault 0 told old new many → Adds (failed (call.Load words.list) ∷ []) a b
      → ListAdds content words a b many
  list_unloaded a b told old new many fault one = told_adds a b many (by many fault)
    where
      to_list : (line : ℕ) → line ≡ 0 → AddsLoadsTo LinesTold line a b
      to_list line is = subst (λ n. AddsLoadsTo LinesTold n a b) (sym is) (record {
        own = call.Load words.list ∷ [];
        there = refl;
        cut = record { made = []; failing = call.Load words.list; behind = []; plan_is = refl; adds = one };
      })

      by : (many : Many) → IsLoadFault 0 told old new many → LinesAdd LinesTold a b many
      by (Load line) fault = to_list line fault.0
      by (TooLong line) fault = to_list line fault.0
      by Memory fault = inr (record {
        made = [];
        failing = call.Load words.list;
        behind = joined (map loads_of (names_told (content words.list)));
        plan_is = refl;
        adds = one;
      })
      by Done fault = tt
      by Usage fault = tt
      by Put fault = tt
      by (Listing line) fault = absurd fault
      by (Script entry line kind) fault = absurd fault
      by (SameToken line holder) fault = absurd fault

  -- the list is out of form
  pub list_refused : (a b : ToldCalls) (list : List ℕ) (many : Many) → IsListFault list many → AddsAll (call.Load words.list ∷ []) a b → ListAdds content words a b many
  list_refused a b list many fault one = told_adds a b many (by many fault)
    where
      by : (many : Many) → IsListFault list many → LinesAdd LinesTold a b many
      by (Listing line) fault = one
      by Memory fault = inl (record {
        made = call.Load words.list ∷ [];
        behind = joined (map loads_of (names_told (content words.list)));
        plan_is = refl;
        adds = one;
      })
      by Done fault = tt
      by Usage fault = tt
      by Put fault = tt
      by (Load line) fault = absurd fault
      by (TooLong line) fault = absurd fault
      by (Script entry line kind) fault = absurd fault
      by (SameToken line holder) fault = absurd fault

  -- a connection of it ended the run
  pub listed_ends : (a b c : ToldCalls) (bytes : List ℕ) (names : List Names) (many : Many) → IfSome (content words.list) (λ told. bytes ≡ told) → list_reading bytes ≡ Ok names
      → AddsAll (call.Load words.list ∷ []) a b → LinesAdd ([] ∷ map loads_of names) b c many → ListAdds content words a c many
  listed_ends a b c bytes names many whole read one adds =
      record { names = names; said = said_read (content words.list) bytes names whole read; adds = behind_list many adds }
    where
      behind_to : (line : ℕ) → AddsLoadsTo ([] ∷ map loads_of names) line b c → AddsLoadsTo (loads_by_line words.list names) line a c
      behind_to zero to = absurd (none to.cut.made to.cut.failing to.cut.behind to.own to.there to.cut.plan_is)
        where
          none : (made : List Call) (failing : Call) (behind own : List Call) → Some [] ≡ Some own → own ≡ made ++ failing ∷ behind → ⊥
          none [] failing behind own there is = cc
          none (x ∷ made) failing behind own there is = cc
      behind_to (suc line) to = record {
        own = to.own;
        there = to.there;
        cut = failed_then (call.Load words.list ∷ []) (joined (take line (map loads_of names))) to.own a b c one to.cut;
      }

      behind_through : (line : ℕ) → AddsLoadsThrough ([] ∷ map loads_of names) line b c → AddsLoadsThrough (loads_by_line words.list names) line a c
      behind_through line through = by (line + 1) (let some : 0 < line + 1 = omega arith in some) through
        where
          by : (n : ℕ) → 0 < n → AddsAll (joined (take n ([] ∷ map loads_of names))) b c → AddsAll (joined (take n (loads_by_line words.list names))) a c
          by zero some all = absurd (omega (arith, some))
          by (suc n) some all = all_then (call.Load words.list ∷ []) (joined (take n (map loads_of names))) a b c one all

      behind_list : (many : Many) → LinesAdd ([] ∷ map loads_of names) b c many → LinesAdd (loads_by_line words.list names) a c many
      behind_list (Load line) adds = behind_to line adds
      behind_list (TooLong line) adds = behind_to line adds
      behind_list (Script entry line kind) adds = behind_through (entry + 1) adds
      behind_list (SameToken line holder) adds = behind_through line adds
      behind_list (Listing line) adds = behind_through 0 adds
      behind_list Memory adds = cut_behind (call.Load words.list ∷ []) (joined (map loads_of names)) a b c one adds
      behind_list Done adds = tt
      behind_list Usage adds = tt
      behind_list Put adds = tt
