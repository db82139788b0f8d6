-- Positions of segments.
use Rattle.std.specs.Prelude.{ℕ, ◌+◌, ◌^◌, nat_le, if◌then◌else◌, Option, Some, None, option_and_then}
use Rattle.std.specs.Option.{option_or}
use Rattle.seq_units.specs.Number.{position_near}
use Rattle.seen_streams.specs.State.{LaneValue}

-- the nearest position with a number, where position 0 has `base`, if the one behind so many octets is at most 2^61
abbrev pub position_of : ℕ → LaneValue → ℕ → ℕ → Option ℕ
position_of base lane number len =
    option_and_then (λ position. if nat_le (position + len) (2 ^ 61) then Some position else None) (position_near (2 ^ 32) base lane.top number)

-- the first FIN stays
abbrev pub with_fin : ℕ → LaneValue → LaneValue
with_fin position lane = record lane { fin = option_or lane.fin (Some position) }
