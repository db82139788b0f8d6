-- What passes the interfaces of one side: what it sends, as it sends it, and the copies that arrive there.
use Rattle.std.specs.Prelude.{ℕ, ◌+◌, nat_lt, if◌then◌else◌, Option, Some, None, option_map, List, [], ◌∷◌, slice_get}
use Rattle.std.specs.List.{flat_map}
use Rattle.sides.specs.declared.side.Side.{Side}
use Rattle.segment_wire.specs.Changes.{text_altered, text_stripped}
use Rattle.segment_wire.specs.Paths.{addresses_from}
use Rattle.link_script.specs.declared.script.PathLine.{PathLine}
use Rattle.link_script.specs.Places.{same_side}
use Rattle.link_model.specs.Steps.{arrivals, changed}
use Rattle.link_trace.specs.declared.sent.Sent.{Sent}

-- without its options of Multipath TCP where they are stripped, with a bit turned where it is altered
abbrev pub arrived_octets : Sent → List ℕ
arrived_octets s =
    let addresses = addresses_from s.path s.from in
    changed (text_stripped addresses) (text_altered addresses) s.fate.stripped s.fate.altered s.octets

-- a copy at this tick, where it comes before the run ends
abbrev pub copy_at : ℕ → Sent → ℕ → List Sent
copy_at end s tick = if nat_lt tick end then record s { tick = tick; octets = arrived_octets s } ∷ [] else []

-- for how many ticks a segment is on its way over the path of this number
abbrev pub delay_on : ℕ → List PathLine → Option ℕ
delay_on path paths = option_map (λ (line : PathLine). line.delay) (slice_get paths path)

-- the copies of a segment that arrive after so many ticks and those that it waited: none of a lost one, two of one that is repeated
abbrev pub copies_over : Option ℕ → ℕ → Sent → List Sent
copies_over (Some delay) end s = flat_map (copy_at end s) (arrivals s.fate.arrival (s.tick + delay + s.fate.waited))
copies_over None end s = []

-- of a segment at this side
abbrev pub seen_of : Side → List PathLine → ℕ → Sent → List Sent
seen_of side paths end s = if same_side s.from side then s ∷ [] else copies_over (delay_on s.path paths) end s

-- of a trace at this side, over paths of these lines, where the run ends at this tick
abbrev pub seen_at : Side → List PathLine → ℕ → List Sent → List Sent
seen_at side paths end trace = flat_map (seen_of side paths end) trace
