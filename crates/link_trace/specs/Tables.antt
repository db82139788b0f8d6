-- The table in words: a row for each path and direction, and one for all paths of each direction.
use Rattle.std.specs.Prelude.{ℕ, ◌-◌, ◌/◌, ◌%◌, ◌^◌, false, Option, Some, None, List, [], ◌∷◌, ◌++◌, filter, length, codes}
use Rattle.std.specs.Fmt.{decimal, format_spec, padded_integral}
use Rattle.std.specs.List.{flat_map}
use Rattle.sides.specs.declared.side.Side.{Side}
use Rattle.sides.specs.declared.side.Side.TheVariants.{A, B}
use Rattle.link_trace.specs.declared.carried.Carried.{Carried}
use Rattle.link_trace.specs.declared.rows.Count.TheVariants.{Segments, Octets, New, Again, Moved, Lost, Full}
use Rattle.link_trace.specs.declared.rows.Rate.{Rate}
use Rattle.link_trace.specs.declared.rows.Rates.{Rates}
use Rattle.link_trace.specs.declared.rows.Row.{Row}
use Rattle.link_trace.specs.declared.table.Counts.{Counts}
use Rattle.link_trace.specs.Rows.{capped, goodput, is_from, last_tick, rows_of, tick_at, total_from}

-- a number, right-aligned in so many columns
abbrev pub aligned : ℕ → ℕ → List ℕ
aligned width n = padded_integral (format_spec 32 3 0 width (2 ^ 64 - 1)) false [] (decimal n)

-- a space, and a number in nine columns at least
abbrev pub column : ℕ → List ℕ
column n = 32 ∷ aligned 9 n

abbrev pub no_column : List ℕ
no_column = codes "         -"

abbrev pub optional_column : Option ℕ → List ℕ
optional_column (Some n) = column n
optional_column None = no_column

abbrev pub rate_columns : Rate → List ℕ
rate_columns rate = optional_column rate.rtt ++ column rate.window

abbrev pub way_column : Side → List ℕ
way_column A = codes "   ab"
way_column B = codes "   ba"

-- the path, the direction, and the ticks of the first segment and of the last one
abbrev pub place_columns : Row → List ℕ
place_columns row = aligned 4 row.path ++ (way_column row.from ++ (optional_column row.first ++ optional_column row.last))

-- thousands of bits in a second, as millions with three digits behind the point
abbrev pub goodput_column : ℕ → List ℕ
goodput_column kilobits =
    32 ∷ (aligned 5 (kilobits / 1000) ++ (codes "." ++ (decimal (kilobits / 100 % 10)
    ++ (decimal (kilobits / 10 % 10) ++ decimal (kilobits % 10)))))

-- the segments; of their octets all, those sent for the first time, those sent again and those moved; the lost segments
abbrev pub first_columns : Counts → List ℕ
first_columns c = column c.segments ++ (column c.octets ++ column c.fresh)

-- all that were lost, and those of them that found a full queue
abbrev pub lost_columns : Counts → List ℕ
lost_columns c = column c.lost ++ column c.full

abbrev pub counts_columns : Counts → List ℕ
counts_columns c = first_columns c ++ (column c.again ++ (column c.moved ++ lost_columns c))

abbrev pub counts_of : Row → Counts
counts_of row = record {
  segments = row.segments;
  octets = row.octets;
  fresh = row.fresh;
  again = row.again;
  moved = row.moved;
  lost = row.lost;
  full = row.full;
}

-- the greatest queue, and what the end measures
abbrev pub measures_columns : Row → List ℕ
measures_columns row = column row.queue ++ rate_columns row.rate

-- where it stands, what it counts, its measures, and how many bits in a second are new over so many ticks; the row ends with LF
abbrev pub row_words : ℕ → Row → List ℕ
row_words ticks row =
    place_columns row ++ (counts_columns (counts_of row) ++ (measures_columns row ++ (goodput_column (goodput row.fresh ticks) ++ 10 ∷ [])))

-- ---- the totals

abbrev pub totals_of : Side → List Row → Counts
totals_of side rows = record {
  segments = capped (total_from side Segments rows);
  octets = capped (total_from side Octets rows);
  fresh = capped (total_from side New rows);
  again = capped (total_from side Again rows);
  moved = capped (total_from side Moved rows);
  lost = capped (total_from side Lost rows);
  full = capped (total_from side Full rows);
}

-- the ticks of the first segment of a direction, and of its last one
abbrev pub all_place : Side → List Carried → List ℕ
all_place side direction =
    codes " all" ++ (way_column side ++ (optional_column (tick_at 0 direction) ++ optional_column (tick_at (length direction - 1) direction)))

-- no queue, no end's measures, and how many bits in a second are new; the row ends with LF
abbrev pub all_measures : ℕ → ℕ → List ℕ
all_measures ticks fresh = (no_column ++ (no_column ++ no_column)) ++ (goodput_column (goodput fresh ticks) ++ 10 ∷ [])

-- all rows of a direction together, which count so much
abbrev pub all_words_of : Side → ℕ → List Carried → Counts → List ℕ
all_words_of side ticks direction totals =
    all_place side direction ++ (counts_columns totals ++ all_measures ticks totals.fresh)

-- all rows of a direction together
abbrev pub all_words : Side → ℕ → List Carried → List Row → List ℕ
all_words side ticks direction rows = all_words_of side ticks direction (totals_of side rows)

abbrev pub total_words : ℕ → List Carried → List Row → List ℕ
total_words ticks cs rows =
    all_words A ticks (filter (is_from A) cs) rows ++ all_words B ticks (filter (is_from B) cs) rows

-- ---- the whole

abbrev pub head_words : List ℕ
head_words = codes "path  dir  first/ms   last/ms  segments    octets       new     again     moved      lost      full   queue/B    rtt/ms  window/B    Mbit/s"

abbrev pub table_words : ℕ → List Carried → List Row → List ℕ
table_words ticks cs rows = (head_words ++ 10 ∷ []) ++ (flat_map (row_words ticks) rows ++ total_words ticks cs rows)

abbrev pub summary_of : List Rates → List Carried → List ℕ
summary_of rates cs = table_words (last_tick cs) cs (rows_of rates cs)
