-- The packet that was taken last.
use Rattle.std.proofs.Common.{◌≡◌, refl, ap, ◌∙◌, ℕ, ◌≤◌, Bool, true, false, ◌&&◌, if◌then◌else◌, Option, Some, None, arith}
use Rattle.segment_wire.specs.Options.{option_octets}
use Rattle.capture_reader.specs.Seen.{Seen}
use Rattle.seen_connections.specs.declared.flow.Opening.{Opening}
use Rattle.seen_connections.specs.declared.flow_list.Found.{Found}
use Rattle.seen_connections.specs.declared.connections.Place.{Place}
use Rattle.seen_connections.specs.Asked.{first_asked}
use Rattle.seen_connections.specs.Connections.{SeenFlows, Taken, begins, begun_with, gone_on, started, taken, taken_in}
use Rattle.seen_connections.specs.Flows.{flow_between}
use Rattle.seen_connections.specs.SameEnds.{ends_in}

abbrev pub last_of : Taken → ℕ
last_of taken = taken.now.last

last_begun : (state : SeenFlows) (packet : ℕ) (seen : Seen) (found : Option Found) (asks : Option Opening)
    → last_of (begun_with state packet seen found asks) ≡ packet
last_begun state packet seen found None = refl
last_begun state packet seen found (Some opening) = refl

last_gone_on : (state : SeenFlows) (packet : ℕ) (seen : Seen) (is_good : Bool) (found : Option Found)
    → last_of (gone_on state packet seen is_good found) ≡ packet
last_gone_on state packet seen is_good None = refl
last_gone_on state packet seen true (Some found) = refl
last_gone_on state packet seen false (Some found) = refl

last_in : (state : SeenFlows) (packet : ℕ) (seen : Seen) (is_good : Bool) (found : Option Found)
    → last_of (taken_in state packet seen is_good found) ≡ packet
last_in state packet seen is_good found = by (is_good && begins seen found)
  where
    by : (b : Bool) → last_of (if b then started state packet seen found else gone_on state packet seen is_good found) ≡ packet
    by true = last_begun state packet seen found (first_asked (option_octets seen.segment.options))
    by false = last_gone_on state packet seen is_good found

pub last_taken : (state : SeenFlows) (packet : ℕ) (seen : Seen) (is_good : Bool) → last_of (taken state packet seen is_good) ≡ packet
last_taken state packet seen is_good = last_in state packet seen is_good (flow_between (ends_in seen) state.flows)

-- no later packet was taken
pub last_at_most : (state now : SeenFlows) (place : Option Place) (packet : ℕ) (seen : Seen) (is_good : Bool)
    → record { now = now; place = place } ≡ taken state packet seen is_good → now.last ≤ packet
last_at_most state now place packet seen is_good is =
    let last : now.last ≡ packet = ap last_of is ∙ last_taken state packet seen is_good in
    omega (arith, last)
