-- What was sent in each 100 ticks, by path and direction.
use Rattle.std.specs.Prelude.{ℕ, zero, suc, ◌+◌, ◌-◌, ◌*◌, ◌/◌, ◌==◌, nat_lt, min, max, Bool, if◌then◌else◌, Option, Some, None, option_map, List, [], ◌∷◌, ◌++◌, codes, filter, slice_get}
use Rattle.std.specs.Fmt.{decimal}
use Rattle.sides.specs.declared.side.Side.{Side}
use Rattle.sides.specs.declared.side.Side.TheVariants.{A, B}
use Rattle.sides.specs.Side.{peer}
use Rattle.range_marks.specs.Marks.{Marks, no_marks}
use Rattle.link_trace.specs.declared.carried.Carried.{Carried}
use Rattle.link_trace.specs.declared.intervals.Share.{Share}
use Rattle.link_trace.specs.declared.intervals.Part.{Part}
use Rattle.link_trace.specs.declared.rows.Rate.{Rate}
use Rattle.link_trace.specs.declared.rows.Rates.{Rates}
use Rattle.link_trace.specs.declared.intervals.Part.TheVariants.{Octets, New, Again, Moved, Lost}
use Rattle.link_trace.specs.Places.{repeated, with_carried}
use Rattle.link_trace.specs.Rows.{below, capped, edge_behind, is_from}

-- of a segment's octets, of which so many stand at places that the direction had carried before, where positions below this edge were
-- sent on the path before: those sent for the first time, those sent again, those that moved, and those that are lost
abbrev pub share_of : ℕ → ℕ → Carried → Share
share_of edge repeated c = record {
  tick = c.tick;
  octets = c.len;
  fresh = c.len - repeated;
  again = min (below c.position c.len edge) repeated;
  moved = repeated - below c.position c.len edge;
  lost = if c.lost then c.len else 0;
}

-- where the segment is of this path
abbrev pub share_on : ℕ → ℕ → ℕ → Carried → List Share
share_on path edge repeated c = if c.path == path then share_of edge repeated c ∷ [] else []

-- of the segments of a path among those of a direction, where these places were carried before, and those below the edge were sent on
-- the path
abbrev pub shares_behind : ℕ → ℕ → Marks Bool → List Carried → List Share
shares_behind path edge places [] = []
shares_behind path edge places (c ∷ cs) =
    share_on path edge (repeated c.place c.len places) c
    ++ shares_behind path (edge_behind path edge c) (with_carried c.place c.len places) cs

abbrev pub all_shares : ℕ → List Carried → List Share
all_shares path direction = shares_behind path 0 no_marks direction

-- ---- a row of 100 ticks

abbrev pub is_in : ℕ → Share → Bool
is_in row s = s.tick / 100 == row

abbrev pub part_in : Part → Share → ℕ
part_in Octets s = s.octets
part_in New s = s.fresh
part_in Again s = s.again
part_in Moved s = s.moved
part_in Lost s = s.lost

-- what the segments of a row add up to
abbrev pub sum_in : ℕ → Part → List Share → ℕ
sum_in row part [] = 0
sum_in row part (s ∷ shares) = (if is_in row s then part_in part s else 0) + sum_in row part shares

-- how much a Data ACK acknowledges, where it is sent before the row's end
abbrev pub acknowledged_at : ℕ → ℕ → Option ℕ → ℕ
acknowledged_at row tick None = 0
acknowledged_at row tick (Some octets) = if nat_lt row (tick / 100) then 0 else octets

-- the most that those of these segments acknowledge
abbrev pub acknowledged_in : ℕ → List Carried → ℕ
acknowledged_in row [] = 0
acknowledged_in row (c ∷ cs) = max (acknowledged_at row c.tick c.acknowledged) (acknowledged_in row cs)

-- ---- in words

abbrev pub way_code : Side → List ℕ
way_code A = codes "ab"
way_code B = codes "ba"

abbrev pub rates_head : List ℕ
rates_head = codes "tick,path,direction,octets,new,again,moved,lost,acknowledged,window,ssthresh,rtt,timeout,waiting"

-- the row's first tick, the path, the direction
abbrev pub row_place : ℕ → ℕ → Side → List ℕ
row_place row path side = decimal (100 * row) ++ (codes "," ++ (decimal path ++ (codes "," ++ way_code side)))

-- a comma, and what the segments of the row add up to
abbrev pub part_words : ℕ → Part → List Share → List ℕ
part_words row part shares = codes "," ++ decimal (capped (sum_in row part shares))

-- octets: all, those sent for the first time, those sent again, those that moved, those that are lost
abbrev pub octets_words : ℕ → List Share → List ℕ
octets_words row shares =
    part_words row Octets shares ++ (part_words row New shares ++ (part_words row Again shares ++ (part_words row Moved shares
    ++ part_words row Lost shares)))

-- ---- what the ends measure

abbrev pub rate_of : Side → Rates → Rate
rate_of A rates = rates.a
rate_of B rates = rates.b

-- of these, one row after the other, and in each so many paths
abbrev pub rate_at : List Rates → ℕ → ℕ → ℕ → Side → Option Rate
rate_at measured paths row path side = option_map (rate_of side) (slice_get measured (row * paths + path))

-- a comma, and a number, if there is one
abbrev pub field : Option ℕ → List ℕ
field None = codes ","
field (Some n) = codes "," ++ decimal n

-- the congestion window, the slow start threshold, the smoothed round-trip time, the retransmission timeout and the octets that wait
abbrev pub rate_words : Option Rate → List ℕ
rate_words None = field None ++ (field None ++ (field None ++ (field None ++ field None)))
rate_words (Some r) = field (Some r.window) ++ (field (Some r.threshold) ++ (field r.rtt ++ (field (Some r.timeout) ++ field (Some r.waiting))))

-- ---- lines

-- where it stands; octets; how many of the stream the other side has acknowledged so far; what the end measures as the row ends; the line
-- ends with LF
abbrev pub row_line : ℕ → ℕ → Side → List Share → List Carried → Option Rate → List ℕ
row_line row path side shares answers rate =
    row_place row path side ++ (octets_words row shares ++ (field (Some (acknowledged_in row answers)) ++ (rate_words rate ++ 10 ∷ [])))

-- what the ends of so many paths measure, as each row ends
module _ (measured : List Rates) (paths : ℕ) where
  -- a count of rows of a direction of a path, the first of which has this number
  abbrev pub rows_from : ℕ → ℕ → ℕ → Side → List Share → List Carried → List ℕ
  rows_from row zero path side shares answers = []
  rows_from row (suc more) path side shares answers =
      row_line row path side shares answers (rate_at measured paths row path side) ++ rows_from (row + 1) more path side shares answers

  abbrev pub way_lines : ℕ → ℕ → Side → List Carried → List ℕ
  way_lines rows path side cs = rows_from 0 rows path side (all_shares path (filter (is_from side) cs)) (filter (is_from (peer side)) cs)

  -- those of so many paths, the first of which has this number
  abbrev pub paths_from : ℕ → ℕ → ℕ → List Carried → List ℕ
  paths_from rows path zero cs = []
  paths_from rows path (suc more) cs = way_lines rows path A cs ++ (way_lines rows path B cs ++ paths_from rows (path + 1) more cs)

  -- of all paths in so many rows of 100 ticks
  abbrev pub rates_text : ℕ → List Carried → List ℕ
  rates_text rows cs = (rates_head ++ 10 ∷ []) ++ paths_from rows 0 paths cs
