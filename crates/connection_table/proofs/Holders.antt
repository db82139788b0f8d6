-- The connection that a token names: as connections come, and as they change.
use Rattle.std.proofs.Common.{◌≡◌, refl, sym, ◌∙◌, ap, subst, ℕ, zero, suc, ◌+◌, ◌-◌, ◌<◌, ◌≤◌, Bool, true, false, cond, not, Some, None, List, [], ◌∷◌, ◌++◌, ⊎_elim, length, get_or, map, arith}
use Rattle.std.specs.Prelude.{◌==◌, ◌↔◌, nat_lt, position, Result, Err}
use Rattle.std.specs.List.{position_or_len, slice_get}
use Rattle.std.proofs.lemmas.Bool.{eq-eqb, ltb-false, lt-ltb}
use Rattle.std.proofs.lemmas.List.{get_or-append_right, get_or_append_left, length-append, length-map}
use Rattle.std.proofs.lemmas.List.Quantifiers.{position-Some}
use Rattle.std.proofs.lemmas.List.Sums.{fails_before_first, position_or_len_is}
use Rattle.stream_lanes.proofs.Lists.{in_append, in_map, in_one}
use Rattle.run_outside.specs.declared.input.Input.{Input}
use Rattle.connection_table.specs.declared.admitting.AdmitFault.{AdmitFault}
use Rattle.connection_table.specs.declared.admitting.AdmitFault.TheVariants.{Memory, SameToken}
use Rattle.connection_table.specs.Tables.{Entry, IsTable, entry_at, holder_of, input_of, key_token}

-- ---- the first place that passes

module _ {X : Type 0} (test : X → Bool) where
  place_is : (xs : List X) (i : ℕ) (d : X) → i < length xs → test (get_or xs i d) ≡ true → ((k : ℕ) → k < i → test (get_or xs k d) ≡ false) → position test xs ≡ Some i
  place_is xs i d within passes before =
      let first : position_or_len test xs ≡ i = position_or_len_is test xs i d (omega arith) before (λ _. passes) in
      let inside : nat_lt (position_or_len test xs) (length xs) ≡ true = lt-ltb (position_or_len test xs) (length xs) (omega (arith, first)) in
      ap (λ b. cond b (Some (position_or_len test xs)) None) inside ∙ ap (λ n. Some n) first

  pub no_place : (xs : List X) → position test xs ≡ None → length xs ≤ position_or_len test xs
  no_place xs none = by (nat_lt (position_or_len test xs) (length xs)) refl none
    where
      by : (b : Bool) → nat_lt (position_or_len test xs) (length xs) ≡ b → cond b (Some (position_or_len test xs)) None ≡ None → length xs ≤ position_or_len test xs
      by true within is = cc
      by false past is = ltb-false (position_or_len test xs) (length xs) past

  -- one more behind changes nothing of a place
  place_kept : (xs : List X) (y : X) (i : ℕ) → position test xs ≡ Some i → position test (xs ++ y ∷ []) ≡ Some i
  place_kept xs y i is =
      let found = position-Some test xs i y is in
      let within : i < length xs = found.0 in
      place_is (xs ++ y ∷ []) i y (omega (arith, length-append xs (y ∷ [])))
      (ap test (get_or_append_left xs (y ∷ []) y i within) ∙ found.1)
      (λ k below. ap test (get_or_append_left xs (y ∷ []) y k (omega (arith, below, within))) ∙ found.2 k below)

  -- and is the place where none passes before it
  place_new : (xs : List X) (y : X) → position test xs ≡ None → test y ≡ true → position test (xs ++ y ∷ []) ≡ Some (length xs)
  place_new xs y none passes =
      let past = no_place xs none in
      place_is (xs ++ y ∷ []) (length xs) y (omega (arith, length-append xs (y ∷ [])))
      (ap test (get_or-append_right xs (y ∷ []) (length xs) (length xs) y refl (omega arith) ∙ ap (λ n. get_or (y ∷ []) n y) (let e : length xs - length xs ≡ 0 = omega arith in e)) ∙ passes)
      (λ k below. ap test (get_or_append_left xs (y ∷ []) y k below) ∙ fails_before_first test xs k y (omega (arith, below, past)))

-- ---- a connection more

-- want of memory is no other refusal
pub wants_memory : (r : Result ℕ AdmitFault) (token holder : ℕ) (table : List Entry) → r ≡ Err Memory → holder_of token table ≡ None
    → (r ≡ Err (SameToken holder)) ↔ ((length table < 64) × (holder_of token table ≡ Some holder))
wants_memory r token holder table memory none = (λ same. cc, λ held. let there = held.1 in cc)

abbrev has_token : ℕ → Entry → Bool
has_token token e = key_token e.input.script == token

own_token : (e : Entry) → has_token (key_token e.input.script) e ≡ true
own_token e = eq-eqb (key_token e.input.script) (key_token e.input.script) refl

pub table_admits : (table : List Entry) (e : Entry) → IsTable table → length table < 64 → holder_of (key_token e.input.script) table ≡ None → IsTable (table ++ e ∷ [])
table_admits table e is few none = record {
  few = omega (arith, length-append table (e ∷ []), few);
  named = λ number x there. ⊎_elim (λ old. kept number x old) (λ new. added number x new) (in_append table (e ∷ []) number x there);
}
  where
    kept : (number : ℕ) (x : Entry) → entry_at number table ≡ Some x → holder_of (key_token x.input.script) (table ++ e ∷ []) ≡ Some number
    kept number x there = place_kept (has_token (key_token x.input.script)) table e number (is.named number x there)

    added : (number : ℕ) (x : Entry) → (length table ≤ number) × (slice_get (e ∷ []) (number - length table) ≡ Some x)
        → holder_of (key_token x.input.script) (table ++ e ∷ []) ≡ Some number
    added number x there =
        let one = in_one e x (number - length table) there.1 in
        let past = there.0 in
        let at : length table ≡ number = let zero_is = one.0 in omega (arith, zero_is, past) in
        subst (λ (y : Entry). holder_of (key_token y.input.script) (table ++ e ∷ []) ≡ Some number) one.1
        (place_new (has_token (key_token e.input.script)) table e none (own_token e) ∙ ap (λ n. Some n) at)

-- ---- connections that began with the same

-- the place is that among what they began with
module _ (test : Input → Bool) where
  first_among : (table : List Entry) → position_or_len (λ (e : Entry). test e.input) table ≡ position_or_len test (map input_of table)
  first_among [] = refl
  first_among (e ∷ table) = ap (λ n. cond (not (test e.input)) (1 + n) 0) (first_among table)

  place_among : (table : List Entry) → position (λ (e : Entry). test e.input) table ≡ position test (map input_of table)
  place_among table =
      ap (λ n. cond (nat_lt n (length table)) (Some n) None) (first_among table)
      ∙ ap (λ m. cond (nat_lt (position_or_len test (map input_of table)) m) (Some (position_or_len test (map input_of table))) None) (sym (length-map table input_of))

pub same_holder : (token : ℕ) (old new : List Entry) → map input_of new ≡ map input_of old → holder_of token new ≡ holder_of token old
same_holder token old new same =
    let test : Input → Bool = λ input. key_token input.script == token in
    place_among test new ∙ (ap (position test) same ∙ sym (place_among test old))

same_length : (old new : List Entry) → map input_of new ≡ map input_of old → length new ≡ length old
same_length old new same = sym (length-map new input_of) ∙ (ap length same ∙ length-map old input_of)

there_mapped : (table : List Entry) (number : ℕ) (e : Entry) → slice_get table number ≡ Some e → slice_get (map input_of table) number ≡ Some e.input
there_mapped [] number e there = cc
there_mapped (x ∷ table) zero e there = cc
there_mapped (x ∷ table) (suc number) e there = there_mapped table number e there

there_before : (old new : List Entry) (number : ℕ) (x : Entry) → map input_of new ≡ map input_of old → entry_at number new ≡ Some x
    → (y : Entry) × (entry_at number old ≡ Some y) × (y.input ≡ x.input)
there_before old new number x same there =
    in_map input_of old number x.input (ap (λ inputs. slice_get inputs number) (sym same) ∙ there_mapped new number x there)

pub table_stays : (old new : List Entry) → map input_of new ≡ map input_of old → IsTable old → IsTable new
table_stays old new same is = record {
  few = let long = same_length old new same in let most = is.few in omega (arith, long, most);
  named = λ number x there.
      let was = there_before old new number x same there in
      same_holder (key_token x.input.script) old new same
      ∙ subst (λ (input : Input). holder_of (key_token input.script) old ≡ Some number) was.2 (is.named number was.0 was.1);
}
