-- Connections of which each has a token of its own.
use Rattle.std.proofs.Common.{◌≡◌, refl, sym, ◌∙◌, subst, ℕ, zero, suc, ◌<◌, false, Option, Some, None, Result, Ok, Err, List, [], ◌∷◌, ◌++◌, length, get_or, map, arith}
use Rattle.std.specs.Prelude.{◌≢◌, ◌==◌, ◌↔◌}
use Rattle.std.specs.List.{slice_get}
use Rattle.std.proofs.lemmas.Bool.{eq-eqb}
use Rattle.std.proofs.lemmas.List.{map-append}
use Rattle.std.proofs.lemmas.List.Sums.{fails_before_first}
use Rattle.std.proofs.lemmas.Option.{slice_get_within}
use Rattle.stream_lanes.specs.Words.{Every}
use Rattle.stream_lanes.proofs.Lists.{Every-nil, Every-push, in_map}
use Rattle.run_outside.specs.declared.input.Input.{Input}
use Rattle.connection_table.specs.declared.admitting.AdmitFault.{AdmitFault}
use Rattle.connection_table.specs.declared.admitting.AdmitFault.TheVariants.{SameToken}
use Rattle.connection_table.specs.ManyEnds.{AreApart, HaveOwnTokens}
use Rattle.connection_table.specs.Tables.{Entry, holder_of, key_token, opened_entry}
use Rattle.connection_table.proofs.Holders.{no_place}

abbrev token_in : Input → ℕ
token_in input = key_token input.script

-- ---- a token that no connection has

at_place : {X : Type 0} (xs : List X) (i : ℕ) (x d : X) → slice_get xs i ≡ Some x → get_or xs i d ≡ x
at_place [] i x d there = cc
at_place (y ∷ xs) zero x d there = cc
at_place (y ∷ xs) (suc i) x d there = at_place xs i x d there

map_there : {X Y : Type 0} (f : X → Y) (xs : List X) (i : ℕ) (x : X) → slice_get xs i ≡ Some x → slice_get (map f xs) i ≡ Some (f x)
map_there f [] i x there = cc
map_there f (y ∷ xs) zero x there = cc
map_there f (y ∷ xs) (suc i) x there = map_there f xs i x there

no_holder_at : (token : ℕ) (table : List Entry) → holder_of token table ≡ None → (i : ℕ) (e : Entry) → slice_get table i ≡ Some e → key_token e.input.script ≡ token → ⊥
no_holder_at token table none i e there same =
    let past = no_place (λ (x : Entry). key_token x.input.script == token) table none in
    let within = slice_get_within table i e there in
    let fails = fails_before_first (λ (x : Entry). key_token x.input.script == token) table i e (omega (arith, past, within)) in
    let here : (key_token e.input.script == token) ≡ false = subst (λ (x : Entry). (key_token x.input.script == token) ≡ false) (at_place table i e e there) fails in
    let passes = eq-eqb (key_token e.input.script) token same in
    cc

-- a token that no entry has differs from that of each input
none_has : (token : ℕ) (inputs : List Input) → holder_of token (map opened_entry inputs) ≡ None → Every (λ other. other ≢ token) (map token_in inputs)
none_has token inputs none = record {
  each = λ i x there same.
      let found = in_map token_in inputs i x there in
      no_holder_at token (map opened_entry inputs) none i (opened_entry found.0) (map_there opened_entry inputs i found.0 found.1) (found.2 ∙ same);
}

-- none has it where a connection was admitted
pub none_held : (r : Result ℕ AdmitFault) (number token : ℕ) (table : List Entry) → length table < 64
    → ((holder : ℕ) → (r ≡ Err (SameToken holder)) ↔ ((length table < 64) × (holder_of token table ≡ Some holder))) → r ≡ Ok number → holder_of token table ≡ None
none_held r number token table few same is = by (holder_of token table) (λ holder held. (same holder).1 (few, held))
  where
    by : (o : Option ℕ) → ((holder : ℕ) → o ≡ Some holder → r ≡ Err (SameToken holder)) → o ≡ None
    by None refused = refl
    by (Some holder) refused = let other : r ≡ Err (SameToken holder) = refused holder refl in absurd (ok_err other)
      where
        ok_err : r ≡ Err (SameToken holder) → ⊥
        ok_err other = cc

-- ---- a connection more

apart_push : (tokens : List ℕ) (token : ℕ) → AreApart tokens → Every (λ other. other ≢ token) tokens → AreApart (tokens ++ token ∷ [])
apart_push [] token apart new = (Every-nil _, tt)
apart_push (t ∷ tokens) token apart new =
    (Every-push token apart.0 (new.each 0 t refl), apart_push tokens token apart.1 (record { each = λ i x there. new.each (suc i) x there }))

pub apart_more : (inputs : List Input) (input : Input) → HaveOwnTokens inputs → holder_of (token_in input) (map opened_entry inputs) ≡ None → HaveOwnTokens (inputs ++ input ∷ [])
apart_more inputs input apart none =
    subst AreApart (sym (map-append token_in inputs (input ∷ []))) (apart_push (map token_in inputs) (token_in input) apart (none_has (token_in input) inputs none))
