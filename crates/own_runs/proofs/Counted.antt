-- Once a run is delivered the table counts each octet of both files as sent for the first time just once.
use Rattle.std.proofs.Common.{◌≡◌, refl, sym, ◌∙◌, ap, subst, ℕ, zero, suc, ◌^◌, ◌<◌, ◌⊎◌, inl, inr, Some, List, [], ◌∷◌, length, map, arith}
use Rattle.std.specs.List.{Contains, slice_get}
use Rattle.std.specs.List.Sorted.{IsPermutation}
use Rattle.std.proofs.lemmas.List.Sorted.{Contains-permutation, IsPermutation-sym}
use Rattle.std.proofs.lemmas.Option.{get_or_from_slice_get, same_Some, slice_get-get_or, slice_get_within}
use Rattle.sides.specs.declared.side.Side.{Side}
use Rattle.sides.specs.declared.side.Side.TheVariants.{A, B}
use Rattle.stream_lanes.specs.Words.{Every}
use Rattle.actor_desk.specs.Words.{pick}
use Rattle.link_trace.specs.declared.sent.Sent.{Sent}
use Rattle.link_trace.specs.declared.carried.Carried.{Carried}
use Rattle.link_trace.specs.Carrying.{all_carried, carried_behind, carried_of}
use Rattle.link_trace.specs.FirstOctets.{EachEndsBy, EndsBy, OneHasOctet}
use Rattle.link_trace.specs.Rows.{capped, first_octets_from, rows_of}
use Rattle.link_trace.proofs.FirstOctets.{first_octets}
use Rattle.run_trace.specs.Initials.{initials_of}
use Rattle.run_trace.specs.Trace.{trace_of}
use Rattle.world_laws.specs.Openings.{Start, opened_world}
use Rattle.world_laws.specs.Promises.{NumbersFit}
use Rattle.own_runs.specs.Counting.{DeliveredFilesWereCounted, base_from}
use Rattle.own_runs.specs.Sending.{ended}
use Rattle.own_runs.proofs.Going.{CarriesTold, delivered_were_told}
use Rattle.own_runs.proofs.MomentFacts.{GoodSent, carried_from, moment_facts, trace_good}

-- what each segment carries, without a segment before it
abbrev alone : Start → List Sent → List Carried
alone start trace = map (carried_of (base_from start) (initials_of start.paths) []) trace

-- each segment is read alone, since none tells an infinite mapping that says anything new
each_alone : (start : Start) (trace : List Sent) → Every (GoodSent start) trace → all_carried (base_from start) (initials_of start.paths) trace ≡ alone start trace
each_alone start [] good = refl
each_alone start (x ∷ trace) good =
    let g = good.each 0 x refl in
    ap (λ shifts. carried_of (base_from start) (initials_of start.paths) shifts x ∷ carried_behind (base_from start) (initials_of start.paths) shifts trace) g.steady
    ∙ ap (λ (cs : List Carried). carried_of (base_from start) (initials_of start.paths) [] x ∷ cs) (each_alone start trace (record { each = λ i y at. good.each (suc i) y at }))

-- each payload of a side ends within its file
each_ends : (start : Start) (s : Side) (paths : ℕ) (trace : List Sent) → paths ≡ length start.paths → Every (GoodSent start) trace
    → EachEndsBy paths (length (pick s start.file_a start.file_b)) s (alone start trace)
each_ends start s paths [] same good = tt
each_ends start s paths (x ∷ trace) same good = (
  λ from.
      let g = good.each 0 x refl in let path = g.path in
      let of_side : x.from ≡ s = sym (carried_from (base_from start) (initials_of start.paths) x) ∙ from in (
        omega (arith, path, same),
        subst (λ (t : Side). ((carried_of (base_from start) (initials_of start.paths) [] x).len ≡ 0) ⊎ EndsBy (length (pick t start.file_a start.file_b)) (carried_of (base_from start) (initials_of start.paths) [] x)) of_side g.ends,
      ),
  each_ends start s paths trace same (record { each = λ i y at. good.each (suc i) y at }),
)

-- a segment that has an octet
one_has : (start : Start) (s : Side) (place i : ℕ) (x : Sent) (trace : List Sent) → slice_get trace i ≡ Some x → CarriesTold start s place x
    → OneHasOctet s place (alone start trace)
one_has start s place i x [] there carries = cc
one_has start s place zero x (y ∷ trace) there carries = inl (subst (CarriesTold start s place) (sym (same_Some y x there)) carries).told
one_has start s place (suc i) x (y ∷ trace) there carries = inr (one_has start s place i x trace there carries)

file_short : (start : Start) → NumbersFit start → (s : Side) → length (pick s start.file_a start.file_b) < 2 ^ 63
file_short start fit A = let short = fit.short_a in omega (arith, short)
file_short start fit B = let short = fit.short_b in omega (arith, short)

-- ---- in another order

contains_at : {X : Type 0} (xs : List X) (i : ℕ) (x : X) → slice_get xs i ≡ Some x → Contains xs x
contains_at xs i x at = (i, slice_get_within xs i x at, get_or_from_slice_get xs i x x at)

-- what is at a place of one list is somewhere in the other one
moved_at : {X : Type 0} (xs ys : List X) → IsPermutation xs ys → (i : ℕ) (x : X) → slice_get xs i ≡ Some x → (j : ℕ) × (slice_get ys j ≡ Some x)
moved_at xs ys same i x at =
    let there = Contains-permutation xs ys x same (contains_at xs i x at) in (there.0, slice_get-get_or ys there.0 x there.1 ∙ ap Some there.2)

every_moved : {X : Type 0} {P : X → Type 0} (xs ys : List X) → IsPermutation xs ys → Every P xs → Every P ys
every_moved xs ys same h = record {
  each = λ i x at. let there = moved_at ys xs (IsPermutation-sym xs ys same) i x at in h.each there.0 x there.1;
}

pub delivered_were_counted : DeliveredFilesWereCounted
delivered_were_counted start turns plain fit lawful delivered told same s rates many =
    let trace = trace_of (ended turns) (opened_world start) in let small = file_short start fit s in
    let good = every_moved trace told same (trace_good start (ended turns) (opened_world start) (λ more. moment_facts start more plain fit)) in
    let counted = first_octets rates (alone start told) s (length (pick s start.file_a start.file_b)) (omega (arith, small))
    (each_ends start s (length rates) told many good)
    (λ at below.
    let has = delivered_were_told start turns plain fit lawful delivered s at below in
    let there = moved_at trace told same has.at has.item has.there in
    one_has start s at there.0 has.item told there.1 has.holds) in
    ap (λ (cs : List Carried). capped (first_octets_from s (rows_of rates cs))) (each_alone start told good) ∙ ap capped counted ∙ omega (arith, small)
