-- The places of a stream that its segments carried: a mark for each place, true where one carried it.
use Rattle.std.specs.Prelude.{ℕ, ◌+◌, ◌-◌, ◌^◌, ◌==◌, min, Bool, true, false, if◌then◌else◌, Option, Some, None, List, [], ◌∷◌, count_by, take}
use Rattle.range_marks.specs.declared.run.Run.{Run}
use Rattle.range_marks.specs.Marks.{Marks, after_extend, after_mark, marks_len}

-- at least so many places
abbrev pub grown : ℕ → Marks Bool → Marks Bool
grown to places = after_extend (to - marks_len places) false places

-- the carried places after a payload of so many octets from this place on
abbrev pub with_payload : ℕ → ℕ → Marks Bool → Marks Bool
with_payload place len places = if len == 0 then places else after_mark place (place + len) true (grown (place + len) places)

-- where the place is told
abbrev pub with_carried : Option ℕ → ℕ → Marks Bool → Marks Bool
with_carried None len places = places
with_carried (Some place) len places = with_payload place len places

-- how many of the places below this one are carried
abbrev pub carried_below : ℕ → Marks Bool → ℕ
carried_below edge places = count_by (λ carried. carried) (take (edge - places.forgotten) places.marks)

-- how many octets of a payload stand at places that are carried
abbrev pub repeated : Option ℕ → ℕ → Marks Bool → ℕ
repeated None len places = 0
repeated (Some place) len places = carried_below (place + len) places - carried_below place places

-- how many of the places below this one the runs mark as carried, besides so many others
abbrev pub carried_in : ℕ → ℕ → List (Run Bool) → ℕ
carried_in edge others [] = others
carried_in edge others (run ∷ runs) =
    if run.mark then carried_in edge (min (others + (min run.to edge - min run.from edge)) (2 ^ 64 - 1)) runs
    else carried_in edge others runs
