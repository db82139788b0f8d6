-- What the flows of each connection come to.
use Rattle.std.specs.Prelude.{ℕ, ◌+◌, ◌-◌, min, is_some, Option, Some, None, List, [], ◌∷◌, length, replicate}
use Rattle.std.proofs.Math.ListN.{set}
use Rattle.std.specs.Int.{from_bool}
use Rattle.std.specs.List.{slice_get}
use Rattle.sides.specs.declared.side.Side.{Side}
use Rattle.sides.specs.declared.side.Side.TheVariants.{A, B}
use Rattle.seen_connections.specs.declared.flow.Belongs.{Belongs}
use Rattle.seen_connections.specs.declared.flow.Flow.{Flow}
use Rattle.seen_streams.specs.Ends.{unmapped}
use Rattle.seen_streams.specs.State.{LaneValue}
use Rattle.rule_book.specs.State.{LanesValue, JudgedValue}
use Rattle.capture_verdict.specs.declared.totals.Totals.{Totals}
use Rattle.capture_verdict.specs.declared.totals.Unread.{Unread}

-- a number with more, up to the most that 64 bits hold
abbrev pub sum_of : ℕ → ℕ → ℕ
sum_of count more = min (count + more) 18446744073709551615

abbrev pub nothing_unread : Unread
nothing_unread = record { unseen = 0; unmapped = 0 }

abbrev pub no_totals : Totals
no_totals = record { subflows = 0; packets = 0; cut = 0; wrong_sums = 0; a = nothing_unread; b = nothing_unread }

-- what a side sent on one flow more: positions of payload count from 1 to the end of what was seen
abbrev pub with_lane : LaneValue → Unread → Unread
with_lane lane unread = record {
  unseen = sum_of unread.unseen (length lane.waiting);
  unmapped = sum_of unread.unmapped (unmapped lane 1 (lane.top - 1));
}

-- by the side that opened the flow
abbrev pub with_lanes : Side → LanesValue → Totals → Totals
with_lanes A lanes totals = record totals { a = with_lane lanes.opener totals.a; b = with_lane lanes.other totals.b }
with_lanes B lanes totals = record totals { a = with_lane lanes.other totals.a; b = with_lane lanes.opener totals.b }

abbrev pub with_flow : Flow → Side → LanesValue → Totals → Totals
with_flow flow opener lanes totals = with_lanes opener lanes (record totals {
  subflows = sum_of totals.subflows (from_bool (is_some flow.opened));
  packets = sum_of totals.packets flow.packets;
  cut = sum_of totals.cut flow.cut;
  wrong_sums = sum_of totals.wrong_sums flow.wrong_sums;
})

abbrev pub added_at : Option Totals → Flow → Belongs → LanesValue → List Totals → List Totals
added_at None flow belongs lanes all = all
added_at (Some totals) flow belongs lanes all = set all belongs.connection (with_flow flow belongs.opener lanes totals)

-- A flow adds to its connection.
abbrev pub added_to : Flow → Option Belongs → LanesValue → List Totals → List Totals
added_to flow None lanes all = all
added_to flow (Some belongs) lanes all = added_at (slice_get all belongs.connection) flow belongs lanes all

abbrev pub added : Option Flow → LanesValue → List Totals → List Totals
added None lanes all = all
added (Some flow) lanes all = added_to flow flow.belongs lanes all

-- each flow from this number on, with its lanes
abbrev pub added_all : List Flow → ℕ → List LanesValue → List Totals → List Totals
added_all flows index [] all = all
added_all flows index (lanes ∷ more) all = added_all flows (index + 1) more (added (slice_get flows index) lanes all)

abbrev pub all_totals : JudgedValue → List Totals
all_totals judged = added_all judged.seen.flows 0 judged.lanes (replicate (length judged.books) no_totals)
