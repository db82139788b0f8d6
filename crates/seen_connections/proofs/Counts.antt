-- Counts of packets, as flows begin and change.
use Rattle.std.proofs.Common.{◌≡◌, refl, sym, ap, subst, ℕ, Bool, true, false, ◌+◌, ◌≤◌, ◌<◌, Some, List, [], ◌∷◌, ◌++◌, length, get_or, arith}
use Rattle.std.proofs.Math.ListN.{set}
use Rattle.std.specs.List.{slice_get, sum_by}
use Rattle.std.proofs.lemmas.Option.{slice_get_within, get_or_from_slice_get}
use Rattle.std.proofs.lemmas.List.Elements.{All-set, All-push}
use Rattle.std.proofs.lemmas.List.Sums.{sum_by-set, sum_by-append, get_or-le-sum_by}
use Rattle.seen_connections.specs.declared.flow.Flow.{Flow}
use Rattle.seen_connections.specs.Connections.{HasCounts, IsCounted, IsNext}
use Rattle.seen_connections.specs.Flows.{counted}

-- a flow's packets are at most as many as the number of the last one
pub packets-le : (flows : List Flow) (last i : ℕ) (was : Flow) → IsCounted flows last → slice_get flows i ≡ Some was → was.packets ≤ last
packets-le flows last i was counts at =
    let within : i < length flows = slice_get_within flows i was at in
    let there : get_or flows i was ≡ was = get_or_from_slice_get flows i was was at in
    let part : (get_or flows i was).packets ≤ sum_by (λ (f : Flow). f.packets) flows = get_or-le-sum_by (λ (f : Flow). f.packets) flows i was within in
    let same : (get_or flows i was).packets ≡ was.packets = ap (λ (f : Flow). f.packets) there in
    omega (arith, counts.total)

-- those of a flow that is there
pub counts-at : (flows : List Flow) (last i : ℕ) (was : Flow) → IsCounted flows last → slice_get flows i ≡ Some was → HasCounts was
counts-at flows last i was counts at =
    subst HasCounts (get_or_from_slice_get flows i was was at) (counts.each i was (slice_get_within flows i was at))

-- one packet more
pub counted-next : (is_cut is_good : Bool) (flow : Flow) → HasCounts flow → IsNext flow (counted is_cut is_good flow)
counted-next true true flow has = let low = has.cut in let wrong = has.wrong in record { ends = refl; packets = omega arith; counts = record { cut = omega arith; wrong = omega arith } }
counted-next true false flow has = let low = has.cut in let wrong = has.wrong in record { ends = refl; packets = omega arith; counts = record { cut = omega arith; wrong = omega arith } }
counted-next false true flow has = let low = has.cut in let wrong = has.wrong in record { ends = refl; packets = omega arith; counts = record { cut = omega arith; wrong = omega arith } }
counted-next false false flow has = let low = has.cut in let wrong = has.wrong in record { ends = refl; packets = omega arith; counts = record { cut = omega arith; wrong = omega arith } }

-- a flow in the place of one that is there
pub counted-set : (flows after : List Flow) (last packet i : ℕ) (was flow : Flow) → IsCounted flows last → last < packet → slice_get flows i ≡ Some was
    → IsNext was flow → after ≡ set flows i flow → IsCounted after packet
counted-set flows after last packet i was flow counts order at next is =
    let within : i < length flows = slice_get_within flows i was at in
    let same : (get_or flows i was).packets ≡ was.packets = ap (λ (f : Flow). f.packets) (get_or_from_slice_get flows i was was at) in
    let sums : sum_by (λ (f : Flow). f.packets) (set flows i flow) + (get_or flows i was).packets ≡ sum_by (λ (f : Flow). f.packets) flows + flow.packets =
    sum_by-set (λ (f : Flow). f.packets) flows i flow was within in
    subst (λ (xs : List Flow). IsCounted xs packet) (sym is)
    (record { total = omega (arith, counts.total, next.packets); each = All-set HasCounts flows i flow next.counts counts.each })

-- a new flow, with one packet
pub counted-push : (flows after : List Flow) (last packet : ℕ) (flow : Flow) → IsCounted flows last → last < packet → flow.packets ≡ 1 → HasCounts flow
    → after ≡ flows ++ flow ∷ [] → IsCounted after packet
counted-push flows after last packet flow counts order one has more =
    let sums : sum_by (λ (f : Flow). f.packets) (flows ++ flow ∷ []) ≡ sum_by (λ (f : Flow). f.packets) flows + sum_by (λ (f : Flow). f.packets) (flow ∷ []) =
    sum_by-append (λ (f : Flow). f.packets) flows (flow ∷ []) in
    subst (λ (xs : List Flow). IsCounted xs packet) (sym more)
    (record { total = omega (arith, counts.total); each = All-push HasCounts flows flow counts.each has })

-- with no packet more the number of the last one rises
pub counted-rises : (flows : List Flow) (last packet : ℕ) → IsCounted flows last → last < packet → IsCounted flows packet
counted-rises flows last packet counts order = record { total = omega (arith, counts.total); each = counts.each }
