-- A table in which one connection was changed in place.
use Rattle.std.proofs.Common.{◌≡◌, ◌≢◌, sym, ◌∙◌, ap, refl, ℕ, ◌<◌, Some, List, length, get_or}
use Rattle.std.specs.Prelude.{IsSomeAnd}
use Rattle.std.specs.List.{slice_get, slice_set}
use Rattle.stream_lanes.proofs.Lists.{set_other}
use Rattle.connection_table.specs.Tables.{Entry, IsTable, entry_at, with_entry}
use Rattle.connection_table.proofs.Holders.{table_stays}
use Rattle.connection_table.proofs.Placed.{at_place, same_inputs, set_back, set_there, some_and}

-- `items` is the table, and `place` the number
module _ (table items : List Entry) (items_is : items ≡ table) (number place : ℕ) (place_is : place ≡ number) (within : place < length items)
    (old new : Entry) (old_is : old ≡ get_or items place old) where
  here : slice_get items place ≡ Some old
  here = at_place items place old within old_is

  there : entry_at number table ≡ Some old
  there = ap (λ (k : ℕ). entry_at k table) (sym place_is) ∙ (ap (entry_at place) (sym items_is) ∙ here)

  -- of what it was
  pub of_old : (P : Entry → Type 0) → P old → IsSomeAnd (entry_at number table) P
  of_old P h = some_and (entry_at number table) old P there h

  -- of what it is
  pub of_new : (P : Entry → Type 0) → P new → IsSomeAnd (entry_at number (slice_set items place new)) P
  of_new P h =
      some_and (entry_at number (slice_set items place new)) new P
      (ap (λ (k : ℕ). entry_at k (slice_set items place new)) (sym place_is) ∙ set_there items place old new here) h

  -- the next entry, put at its place
  pub put_next : (next : Entry) → new ≡ next → slice_set items place new ≡ with_entry number next table
  put_next next is =
      ap (slice_set items place) is ∙ (ap (λ (k : ℕ). slice_set items k next) place_is ∙ ap (λ (es : List Entry). slice_set es number next) items_is)

  -- nothing changed
  pub put_same : new ≡ old → slice_set items place new ≡ table
  put_same is = put_next old is ∙ set_back table number old there

  pub others : (other : ℕ) → other ≢ number → entry_at other (slice_set items place new) ≡ entry_at other table
  others other apart = ap (entry_at other) (put_next new refl) ∙ set_other table number new other apart

  pub changed_table : IsTable items → new.input ≡ old.input → IsTable (slice_set items place new)
  changed_table is same = table_stays items (slice_set items place new) (same_inputs items place old new here same) is
