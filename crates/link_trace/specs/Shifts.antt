-- Directions that send without mappings of pieces: how far each place stands behind its position, modulo 2^32 (RFC 8684, section 3.7).
use Rattle.std.specs.Prelude.{ℕ, ◌-◌, ◌^◌, ◌==◌, ◌&&◌, Bool, false, if◌then◌else◌, Option, Some, None, List, [], ◌∷◌, ◌++◌}
use Rattle.sides.specs.declared.side.Side.{Side}
use Rattle.link_script.specs.Places.{same_side}
use Rattle.link_trace.specs.declared.shifts.Shift.{Shift}

-- by the first infinite mapping of this direction; on path 0 the place of a position is one less without one, as with the first
-- payload and in plain TCP
abbrev pub shift_in : List Shift → ℕ → Side → Option ℕ
shift_in [] path from = if path == 0 then Some (2 ^ 32 - 1) else None
shift_in (shift ∷ shifts) path from = if shift.path == path && same_side shift.from from then Some shift.by else shift_in shifts path from

abbrev pub is_in_force : Option ℕ → ℕ → Bool
is_in_force None by = false
is_in_force (Some other) by = other == by

-- the shifts, and one more where an infinite mapping came that says something new
abbrev pub with_shift : Option ℕ → ℕ → Side → List Shift → List Shift
with_shift None path from shifts = shifts
with_shift (Some by) path from shifts =
    if is_in_force (shift_in shifts path from) by then shifts else shifts ++ record { path = path; from = from; by = by } ∷ []
