-- The packet that was taken last.
use Rattle.std.proofs.Common.{◌≡◌, refl, ap, ◌∙◌, ℕ, ◌≤◌, Bool, not, ◌||◌, Option, Some, None, arith}
use Rattle.std.specs.List.{slice_get}
use Rattle.sides.specs.declared.side.Side.{Side}
use Rattle.capture_reader.specs.Seen.{Seen}
use Rattle.seen_connections.specs.declared.flow.Belongs.{Belongs}
use Rattle.seen_connections.specs.declared.flow.Flow.{Flow}
use Rattle.seen_connections.specs.declared.connections.Keys.{Keys}
use Rattle.seen_connections.specs.declared.connections.Place.{Place}
use Rattle.seen_connections.specs.declared.connections.WrongToken.{WrongToken}
use Rattle.seen_connections.specs.Connections.{SeenFlows, learnt_by, taken}
use Rattle.seen_connections.proofs.Last.{last_taken}
use Rattle.rule_book.specs.State.{BookValue, JudgedValue, LanesValue}
use Rattle.rule_book.specs.Judged.{grown, judged, judged_belonging, judged_flow, judged_in_flow, judged_known, judged_place, with_key, with_wrong_token}

abbrev last_of : JudgedValue → ℕ
last_of judged = judged.seen.last

key_last : (connection : ℕ) (before after : Option ℕ) (seen : SeenFlows) → (with_key connection before after seen).last ≡ seen.last
key_last connection (Some before) after seen = refl
key_last connection None None seen = refl
key_last connection None (Some a) seen = by (slice_get seen.connections connection)
  where
    by : (keys : Option Keys) → (learnt_by seen connection a keys).last ≡ seen.last
    by None = refl
    by (Some keys) = refl

known_last : (at : Option Side) (packet : ℕ) (seen : Seen) (index : ℕ) (flow : Flow) (belongs : Belongs) (keys : Option Keys)
    (book : Option BookValue) (lanes : Option LanesValue) (state : JudgedValue)
    → last_of (judged_known at packet seen index flow belongs keys book lanes state) ≡ last_of state
known_last at packet seen index flow belongs (Some keys) (Some book) (Some lanes) state =
    key_last belongs.connection keys.a (judged_flow at packet seen index flow belongs keys (record { book = book; lanes = lanes })).keys.a state.seen
known_last at packet seen index flow belongs None book lanes state = refl
known_last at packet seen index flow belongs (Some keys) None lanes state = refl
known_last at packet seen index flow belongs (Some keys) (Some book) None state = refl

in_flow_last : (at : Option Side) (packet : ℕ) (seen : Seen) (index : ℕ) (flow : Option Flow) (state : JudgedValue)
    → last_of (judged_in_flow at packet seen index flow state) ≡ last_of state
in_flow_last at packet seen index None state = refl
in_flow_last at packet seen index (Some flow) state = by flow.belongs
  where
    by : (belongs : Option Belongs) → last_of (judged_belonging at packet seen index flow belongs state) ≡ last_of state
    by None = refl
    by (Some belongs) =
        known_last at packet seen index flow belongs (slice_get state.seen.connections belongs.connection)
        (slice_get state.books belongs.connection) (slice_get state.lanes index) state

token_last : (wrong : Option WrongToken) (state : JudgedValue) → last_of (with_wrong_token wrong state) ≡ last_of state
token_last None state = refl
token_last (Some wrong) state = refl

place_last : (at : Option Side) (packet : ℕ) (seen : Seen) (place : Option Place) (state : JudgedValue)
    → last_of (judged_place at packet seen place state) ≡ last_of state
place_last at packet seen None state = refl
place_last at packet seen (Some place) state =
    in_flow_last at packet seen place.flow (slice_get (with_wrong_token place.wrong_token state).seen.flows place.flow) (with_wrong_token place.wrong_token state)
    ∙ token_last place.wrong_token state

-- no later packet was judged
pub last_at_most : (at : Option Side) (check_sums : Bool) (state now : JudgedValue) (packet : ℕ) (seen : Seen)
    → now ≡ judged at check_sums state packet seen → last_of now ≤ packet
last_at_most at check_sums state now packet seen is =
    let made = taken state.seen packet seen (seen.has_good_sum || not check_sums) in
    let last : last_of now ≡ packet =
    ap last_of is ∙ place_last at packet seen made.place (grown made.now state)
    ∙ last_taken state.seen packet seen (seen.has_good_sum || not check_sums) in
    omega (arith, last)
