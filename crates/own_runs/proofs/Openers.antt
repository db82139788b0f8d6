-- A flow that began stays in its place, with the end that opened it.
use Rattle.std.proofs.Common.{◌≡◌, refl, sym, ap, ◌∙◌, ℕ, ◌⊎◌, inl, inr, Bool, true, false, if◌then◌else◌, Option, Some, None, List, [], ◌∷◌}
use Rattle.std.specs.List.{slice_get}
use Rattle.std.proofs.Math.ListN.{set}
use Rattle.segment_wire.specs.Options.{option_octets}
use Rattle.capture_reader.specs.Seen.{Seen}
use Rattle.seen_connections.specs.declared.flow.Flow.{Flow}
use Rattle.seen_connections.specs.declared.flow.Opening.{Opening}
use Rattle.seen_connections.specs.declared.flow_list.Found.{Found}
use Rattle.seen_connections.specs.Asked.{first_asked}
use Rattle.seen_connections.specs.Connections.{IsThere, SeenFlows, answer_of, answered, begins, begun_with, ended, flow_after, gone_on, taken}
use Rattle.seen_connections.specs.Flows.{begun, counted, flow_between, going_on, is_between, last_that, unless_over}
use Rattle.seen_connections.specs.Keys.{belongs_by}
use Rattle.seen_connections.specs.SameEnds.{ends_in}
use Rattle.judge_laws.proofs.Books.{before_end, set_either}
use Rattle.judge_laws.proofs.Standing.{some_same}

abbrev pub OpenersStay : List Flow → List Flow → Type 0
OpenersStay old new = (i : ℕ) (flow : Flow) → slice_get old i ≡ Some flow → (later : Flow) × (slice_get new i ≡ Some later) × (later.opener ≡ flow.opener)

same_stay : (flows : List Flow) → OpenersStay flows flows
same_stay flows i flow h = (flow, h, refl)

set_stay : (flows : List Flow) (i : ℕ) (was new : Flow) → slice_get flows i ≡ Some was → new.opener ≡ was.opener → OpenersStay flows (set flows i new)
set_stay flows i was new there kept j flow h = by (set_either flows i j new flow h)
  where
    by : ((i ≡ j) × (slice_get (set flows i new) j ≡ Some new)) ⊎ (slice_get (set flows i new) j ≡ Some flow)
        → (later : Flow) × (slice_get (set flows i new) j ≡ Some later) × (later.opener ≡ flow.opener)
    by (inl both) =
        let same : was ≡ flow = some_same was flow (sym there ∙ ap (slice_get flows) both.0 ∙ h) in
        (new, both.1, kept ∙ ap (λ (f : Flow). f.opener) same)
    by (inr other) = (flow, other, refl)

there_over : (flows : List Flow) (i : ℕ) (flow : Option Flow) → slice_get flows i ≡ flow → IsThere flows (unless_over i flow)
there_over flows i None e = tt
there_over flows i (Some flow) e = by flow.is_over
  where
    by : (b : Bool) → IsThere flows (if b then None else Some (record { index = i; flow = flow }))
    by true = tt
    by false = e

there_on : (flows : List Flow) (i : Option ℕ) → IsThere flows (going_on flows i)
there_on flows None = tt
there_on flows (Some i) = there_over flows i (slice_get flows i) refl

gone_stay : (state : SeenFlows) (packet : ℕ) (seen : Seen) (is_good : Bool) (found : Option Found) → IsThere state.flows found
    → OpenersStay state.flows (gone_on state packet seen is_good found).now.flows
gone_stay state packet seen is_good None there = same_stay state.flows
gone_stay state packet seen true (Some found) there =
    let flow = counted seen.is_cut true found.flow in
    set_stay state.flows found.index found.flow (flow_after seen (answered state seen flow (answer_of seen flow)) flow) there refl
gone_stay state packet seen false (Some found) there = set_stay state.flows found.index found.flow (counted seen.is_cut false found.flow) there refl

ended_stay : (flows : List Flow) (found : Option Found) → IsThere flows found → OpenersStay flows (ended found flows)
ended_stay flows None there = same_stay flows
ended_stay flows (Some found) there = set_stay flows found.index found.flow (record found.flow { is_over = true }) there refl

begun_stay : (state : SeenFlows) (packet : ℕ) (seen : Seen) (found : Option Found) (opening : Option Opening) → IsThere state.flows found
    → OpenersStay state.flows (begun_with state packet seen found opening).now.flows
begun_stay state packet seen found None there = ended_stay state.flows found there
begun_stay state packet seen found (Some opening) there = λ i flow h.
    (flow, before_end state.flows (begun packet seen opening (belongs_by opening state.known) ∷ []) i flow h, refl)

pub openers_stay : (state : SeenFlows) (packet : ℕ) (seen : Seen) → OpenersStay state.flows (taken state packet seen true).now.flows
openers_stay state packet seen = by (begins seen found)
  where
    found : Option Found
    found = flow_between (ends_in seen) state.flows

    asked : Option Opening
    asked = first_asked (option_octets seen.segment.options)

    there : IsThere state.flows found
    there = there_on state.flows (last_that (is_between (ends_in seen)) 0 state.flows)

    by : (b : Bool) → OpenersStay state.flows (if b then begun_with state packet seen found asked else gone_on state packet seen true found).now.flows
    by true = begun_stay state packet seen found asked there
    by false = gone_stay state packet seen true found there
