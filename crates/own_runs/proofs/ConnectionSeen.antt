-- Whatever a script does, the judge sees one connection in the capture of its run, and no join that belongs to none.
use Rattle.std.proofs.Common.{◌≡◌, refl, sym, ap, ◌∙◌, subst, ℕ, zero, suc, ◌<◌, ◌≤◌, ◌⊎◌, inl, inr, ⊎_elim, Bool, true, false, ◌||◌, if◌then◌else◌, Option, Some, List, [], ◌∷◌, length, arith}
use Rattle.std.proofs.lemmas.Bool.{cases_lt}
use Rattle.std.specs.List.{list_any, slice_get}
use Rattle.capture_verdict.specs.Ending.{broke_rule, has_none, was_refused}
use Rattle.capture_verdict.specs.declared.ending.Ending.{Ending}
use Rattle.rule_book.specs.State.{JudgedValue}
use Rattle.seen_connections.specs.declared.connections.Keys.{Keys}
use Rattle.seen_connections.specs.declared.flow.Flow.{Flow}
use Rattle.sides.specs.declared.side.Side.TheVariants.{A, B}
use Rattle.sides.specs.declared.side.Side.{Side}
use Rattle.world_laws.specs.Openings.{Start}
use Rattle.world_laws.specs.Promises.{HasRoom, NumbersFit}
use Rattle.world_laws.specs.Worlds.{Turn}
use Rattle.own_runs.specs.Fitting.{RunFits}
use Rattle.own_runs.specs.Connections.{EachRunIsOneConnection, RunsOn, SeesTheConnection, end_on}
use Rattle.own_runs.proofs.AllKept.{all_false, named_kept, none_told}
use Rattle.own_runs.proofs.Own.{Drawn, same_place}
use Rattle.own_runs.proofs.OwnFlows.{Each, FlowIs}
use Rattle.own_runs.proofs.Values.{drawn}
use Rattle.own_runs.proofs.OtherPaths.{run_read, run_settled, run_verdict}

few_books : (xs : List Keys) → ((i : ℕ) (keys : Keys) → slice_get xs i ≡ Some keys → i ≡ 0) → length xs ≤ 1
few_books [] few = omega arith
few_books (x ∷ []) few = omega arith
few_books (x ∷ y ∷ xs) few = (let never : 1 ≡ 0 = few 1 y refl in omega (arith, never))

-- ---- no more numbers below a bound than it says, where no two are the same

abbrev NotIn : ℕ → List ℕ → Type 0
NotIn n [] = Unit {0}
NotIn n (x ∷ xs) = (n ≡ x → ⊥) × NotIn n xs

abbrev AreApart : List ℕ → Type 0
AreApart [] = Unit {0}
AreApart (x ∷ xs) = NotIn x xs × AreApart xs

abbrev AreBelow : ℕ → List ℕ → Type 0
AreBelow bound [] = Unit {0}
AreBelow bound (x ∷ xs) = (x < bound) × AreBelow bound xs

-- the highest may be one of them
others_below : (bound : ℕ) (xs : List ℕ) → AreBelow (suc bound) xs → NotIn bound xs → AreBelow bound xs
others_below bound [] below none = tt
others_below bound (x ∷ xs) below none =
    ((let low = below.0 in ⊎_elim (λ less. less) (λ same. absurd (none.0 (sym same))) (less_or_same x low)), others_below bound xs below.1 none.1)
  where
    less_or_same : (x : ℕ) → x < suc bound → (x < bound) ⊎ (x ≡ bound)
    less_or_same x low = ⊎_elim (λ less. inl less) (λ more. inr (omega (arith, low, more))) (cases_lt x bound)

same_number : (i j : ℕ) → (i ≡ j) ⊎ (i ≡ j → ⊥)
same_number zero zero = inl refl
same_number zero (suc j) = inr (λ same. cc)
same_number (suc i) zero = inr (λ same. cc)
same_number (suc i) (suc j) = ⊎_elim (λ same. inl (ap suc same)) (λ other. inr (λ same. other (omega (arith, same)))) (same_number i j)

record IsWithout (bound : ℕ) (xs : List ℕ) : Type 0 where
  rest : List ℕ
  below : AreBelow bound rest
  apart : AreApart rest
  one : length xs ≤ suc (length rest)
  among : (n : ℕ) → NotIn n xs → NotIn n rest

without : (bound : ℕ) (xs : List ℕ) → AreBelow (suc bound) xs → AreApart xs → IsWithout bound xs
without bound [] below apart = record { rest = []; below = tt; apart = tt; one = omega arith; among = λ n none. tt }
without bound (x ∷ xs) below apart = by (without bound xs below.1 apart.1) (same_number x bound)
  where
    by : IsWithout bound xs → (x ≡ bound) ⊎ (x ≡ bound → ⊥) → IsWithout bound (x ∷ xs)
    by more (inl same) = record {
      rest = xs;
      below = others_below bound xs below.1 (subst (λ (n : ℕ). NotIn n xs) same apart.0);
      apart = apart.1;
      one = omega arith;
      among = λ n none. none.1;
    }
    by more (inr other) =
        record {
          rest = x ∷ more.rest;
          below = ((let low = below.0 in ⊎_elim (λ less. less) (λ over. absurd (other (omega (arith, low, over)))) (cases_lt x bound)), more.below);
          apart = (more.among x apart.0, more.apart);
          one = (let fewer = more.one in omega (arith, fewer));
          among = λ n none. (none.0, more.among n none.1);
        }

few_numbers : (bound : ℕ) (xs : List ℕ) → AreBelow bound xs → AreApart xs → length xs ≤ bound
few_numbers bound [] below apart = omega arith
few_numbers zero (x ∷ xs) below apart = absurd (let low = below.0 in omega (arith, low))
few_numbers (suc bound) (x ∷ xs) below apart =
    let it = without bound (x ∷ xs) below apart in
    let most = few_numbers bound it.rest it.below it.apart in let one = it.one in omega (arith, most, one)

-- the paths of flows
module _ (d : Drawn) where
  abbrev paths_in : (flows : List Flow) → Each (FlowIs d) flows → List ℕ
  paths_in [] each = []
  paths_in (flow ∷ flows) each = (each 0 flow refl).0 ∷ paths_in flows (λ i x at. each (suc i) x at)

  paths_count : (flows : List Flow) (each : Each (FlowIs d) flows) → length (paths_in flows each) ≡ length flows
  paths_count [] each = refl
  paths_count (flow ∷ flows) each = ap suc (paths_count flows (λ i x at. each (suc i) x at))

  paths_below : (flows : List Flow) (each : Each (FlowIs d) flows) → AreBelow d.paths (paths_in flows each)
  paths_below [] each = tt
  paths_below (flow ∷ flows) each = ((each 0 flow refl).1.within, paths_below flows (λ i x at. each (suc i) x at))

  no_other : (path : ℕ) (flows : List Flow) (each : Each (FlowIs d) flows) → ((i : ℕ) (f : Flow) → slice_get flows i ≡ Some f → f.opener ≡ end_on path A → ⊥) → NotIn path (paths_in flows each)
  no_other path [] each none = tt
  no_other path (flow ∷ flows) each none = (
    (λ same. none 0 flow refl ((each 0 flow refl).1.opener ∙ ap (λ (k : ℕ). end_on k A) (sym same))),
    no_other path flows (λ i x at. each (suc i) x at) (λ i f at. none (suc i) f at),
  )

  paths_apart : (flows : List Flow) (each : Each (FlowIs d) flows) → ((i j : ℕ) (f g : Flow) → slice_get flows i ≡ Some f → slice_get flows j ≡ Some g → f.opener ≡ g.opener → i ≡ j)
      → AreApart (paths_in flows each)
  paths_apart [] each alone = tt
  paths_apart (flow ∷ flows) each alone = (
    no_other (each 0 flow refl).0 flows (λ i x at. each (suc i) x at)
        (λ i f at same. let never = alone 0 (suc i) flow f refl at ((each 0 flow refl).1.opener ∙ sym same) in absurd (omega (arith, never))),
    paths_apart flows (λ i x at. each (suc i) x at) (λ i j f g at there same. let next = alone (suc i) (suc j) f g at there same in omega (arith, next)),
  )

  few_flows : (flows : List Flow) (each : Each (FlowIs d) flows) → ((i j : ℕ) (f g : Flow) → slice_get flows i ≡ Some f → slice_get flows j ≡ Some g → f.opener ≡ g.opener → i ≡ j)
      → length flows ≤ d.paths
  few_flows flows each alone =
      let most = few_numbers d.paths (paths_in flows each) (paths_below flows each) (paths_apart flows each alone) in
      let same = paths_count flows each in omega (arith, most, same)

-- ---- a run

either : (b c : Bool) → c ≡ false → b || c ≡ b
either true c is = refl
either false c is = is

module _ (start : Start) (turns : List Turn) (size : HasRoom start) (fit : NumbersFit start) (run : RunFits start turns) (side : Side) (at : Option Side) where
  abbrev verdict : JudgedValue
  verdict = run_verdict start size fit turns run side at

  refused : list_any was_refused verdict.seen.flows ≡ false
  refused = all_false was_refused verdict.seen.flows (λ i flow at_i. named_kept flow ((run_settled start size fit turns run side at).named i flow at_i))

  opens_it : (i : ℕ) (keys : Keys) → slice_get verdict.seen.connections i ≡ Some keys → (flow : Flow) × (slice_get verdict.seen.flows keys.flow ≡ Some flow) × RunsOn 0 flow
  opens_it i keys there =
      let it = run_settled start size fit turns run side at in
      let began = it.one.first i keys there in
      let is = it.own.flows keys.flow began.flow began.there in
      let path : is.0 ≡ 0 = (same_place is.0 0 A A (sym is.1.opener ∙ began.opener)).0 in
      (began.flow, began.there, record { opener = began.opener; other = is.1.other ∙ ap (λ (k : ℕ). end_on k B) path; syn = is.1.octets; cut = is.1.cut; wrong_sums = is.1.wrong })

  sees : SeesTheConnection start verdict
  sees =
      let it = run_settled start size fit turns run side at in record {
        one = (let same = it.counts.books in let few = few_books verdict.seen.connections it.one.few in omega (arith, same, few));
        keys = λ i keys there. let is = it.own.connections i keys there in record { a = is.a; b = is.b; checksums = is.checksums };
        subflows = λ i flow there. let is = it.own.flows i flow there in (is.0, is.1.within, record { opener = is.1.opener; other = is.1.other; syn = is.1.octets; cut = is.1.cut; wrong_sums = is.1.wrong });
        first = λ i keys there. opens_it i keys there;
        apart = it.one.alone;
        few = few_flows (drawn start) verdict.seen.flows it.own.flows it.one.alone;
        joins = none_told verdict.seen.flows it.named;
        ending = ap (λ (broken : Bool). if has_none verdict.books then Ending.NoConnection else (if broken then Ending.Broken else Ending.Kept))
            (either (list_any broke_rule verdict.books) (list_any was_refused verdict.seen.flows) refused);
      }

pub is_one_connection : EachRunIsOneConnection
is_one_connection start turns size fit run side at =
    (run_verdict start size fit turns run side at, run_read start size fit turns run side at, sees start turns size fit run side at)
