-- The table by path and direction: counts and sums over what the segments carry.
use Rattle.std.specs.Prelude.{ℕ, ◌+◌, ◌-◌, ◌*◌, ◌/◌, ◌^◌, ◌==◌, ◌&&◌, min, max, Bool, if◌then◌else◌, Option, Some, None, option_map, List, [], ◌∷◌, count_by, filter, length, slice_get}
use Rattle.sides.specs.declared.side.Side.{Side}
use Rattle.sides.specs.declared.side.Side.TheVariants.{A, B}
use Rattle.link_script.specs.Places.{same_side}
use Rattle.link_trace.specs.declared.carried.Carried.{Carried}
use Rattle.link_trace.specs.declared.rows.Count.{Count}
use Rattle.link_trace.specs.declared.rows.Count.TheVariants.{Segments, Octets, New, Again, Moved, Lost, Full}
use Rattle.link_trace.specs.declared.rows.Rate.{Rate}
use Rattle.link_trace.specs.declared.rows.Rates.{Rates}
use Rattle.link_trace.specs.declared.rows.Row.{Row}
use Rattle.link_trace.specs.declared.rows.Shares.{Shares}
use Rattle.link_trace.specs.Places.{repeated, with_carried}
use Rattle.range_marks.specs.Marks.{Marks, no_marks}

-- a sum as a number of 64 bits, which stands still at its end
abbrev pub capped : ℕ → ℕ
capped sum = min sum (2 ^ 64 - 1)

abbrev pub is_from : Side → Carried → Bool
is_from side c = same_side c.from side

abbrev pub is_on : ℕ → Side → Carried → Bool
is_on path side c = c.path == path && same_side c.from side

-- the octets of the payloads
abbrev pub octets_of : List Carried → ℕ
octets_of [] = 0
octets_of (c ∷ cs) = c.len + octets_of cs

-- how many of so many octets from here on lie below an edge
abbrev pub below : ℕ → ℕ → ℕ → ℕ
below from len edge = min (edge - from) len

-- the position behind a segment's payload
abbrev pub end_of : Carried → ℕ
end_of c = c.position + c.len

-- ---- octets of a path by whether they were sent before

-- Of the octets of a segment at places that the direction carried before, so many, those at positions below the path's edge are
-- sent again, and the others moved.
abbrev pub again_by : ℕ → ℕ → ℕ → Carried → ℕ
again_by path edge repeated c = if c.path == path then min (below c.position c.len edge) repeated else 0

abbrev pub moved_by : ℕ → ℕ → ℕ → Carried → ℕ
moved_by path edge repeated c = if c.path == path then repeated - below c.position c.len edge else 0

-- at places that no segment of the direction carried before
abbrev pub fresh_by : ℕ → ℕ → Carried → ℕ
fresh_by path repeated c = if c.path == path then c.len - repeated else 0

-- the edge after this segment: the greatest position behind one of the path
abbrev pub edge_behind : ℕ → ℕ → Carried → ℕ
edge_behind path edge c = if c.path == path then max edge (end_of c) else edge

-- of a direction, where these places were carried, and those below the edge were sent on the path
abbrev pub again_behind : ℕ → ℕ → Marks Bool → List Carried → ℕ
again_behind path edge places [] = 0
again_behind path edge places (c ∷ cs) =
    again_by path edge (repeated c.place c.len places) c
    + again_behind path (edge_behind path edge c) (with_carried c.place c.len places) cs

abbrev pub moved_behind : ℕ → ℕ → Marks Bool → List Carried → ℕ
moved_behind path edge places [] = 0
moved_behind path edge places (c ∷ cs) =
    moved_by path edge (repeated c.place c.len places) c
    + moved_behind path (edge_behind path edge c) (with_carried c.place c.len places) cs

abbrev pub fresh_behind : ℕ → Marks Bool → List Carried → ℕ
fresh_behind path places [] = 0
fresh_behind path places (c ∷ cs) =
    fresh_by path (repeated c.place c.len places) c + fresh_behind path (with_carried c.place c.len places) cs

-- of a path's octets those sent again, those moved and those sent for the first time, by all segments of the direction
abbrev pub shares_of : ℕ → List Carried → Shares
shares_of path direction = record {
  again = capped (again_behind path 0 no_marks direction);
  moved = capped (moved_behind path 0 no_marks direction);
  fresh = capped (fresh_behind path no_marks direction);
}

-- how many segments are lost, by a line of the script or since a queue is full
abbrev pub lost_of : List Carried → ℕ
lost_of cs = count_by (λ c. c.lost) cs

-- how many are lost since a queue is full
abbrev pub full_of : List Carried → ℕ
full_of cs = count_by (λ c. c.full) cs

-- the most octets that waited as one was sent
abbrev pub most_queued : List Carried → ℕ
most_queued [] = 0
most_queued (c ∷ cs) = max c.queued (most_queued cs)

-- the tick of the segment with this number in the list
abbrev pub tick_at : ℕ → List Carried → Option ℕ
tick_at place cs = option_map (λ (c : Carried). c.tick) (slice_get cs place)

abbrev pub row_of : ℕ → Side → Rate → List Carried → Row
row_of path side rate cs =
    let row = filter (is_on path side) cs in let shares = shares_of path (filter (is_from side) cs) in record {
      path = path;
      from = side;
      first = tick_at 0 row;
      last = tick_at (length row - 1) row;
      segments = length row;
      octets = capped (octets_of row);
      again = shares.again;
      moved = shares.moved;
      fresh = shares.fresh;
      lost = lost_of row;
      full = full_of row;
      queue = most_queued row;
      rate = rate;
    }

-- two rows for each path, the first of which has this number
abbrev pub rows_behind : ℕ → List Rates → List Carried → List Row
rows_behind path [] cs = []
rows_behind path (r ∷ rates) cs = row_of path A r.a cs ∷ row_of path B r.b cs ∷ rows_behind (path + 1) rates cs

abbrev pub rows_of : List Rates → List Carried → List Row
rows_of rates cs = rows_behind 0 rates cs

-- ---- totals

-- of the rows of a direction
abbrev pub if_from : Side → Row → ℕ → ℕ
if_from side row octets = if same_side row.from side then octets else 0

abbrev pub count_in : Count → Row → ℕ
count_in Segments row = row.segments
count_in Octets row = row.octets
count_in New row = row.fresh
count_in Again row = row.again
count_in Moved row = row.moved
count_in Lost row = row.lost
count_in Full row = row.full

-- all of them together
abbrev pub total_from : Side → Count → List Row → ℕ
total_from side count [] = 0
total_from side count (row ∷ rows) = if_from side row (count_in count row) + total_from side count rows

-- the octets at places that were carried for the first time
abbrev pub first_octets_from : Side → List Row → ℕ
first_octets_from side rows = total_from side New rows

-- the greatest tick
abbrev pub last_tick : List Carried → ℕ
last_tick [] = 0
last_tick (c ∷ cs) = max c.tick (last_tick cs)

-- thousands of bits in a second, of so many octets in so many ticks
abbrev pub goodput : ℕ → ℕ → ℕ
goodput octets ticks = if ticks == 0 then 0 else capped (octets * 8) / ticks
