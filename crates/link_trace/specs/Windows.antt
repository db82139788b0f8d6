-- The congestion windows of a side in a picture (RFC 5681): a title, two axes, and a line for each path, by what its end measures as each 100
-- ticks end.
use Rattle.std.specs.Prelude.{ℕ, ◌+◌, ◌*◌, ◌/◌, ◌%◌, ◌==◌, ◌&&◌, nat_le, nat_lt, max, Bool, if◌then◌else◌, List, [], ◌∷◌, ◌++◌, length, codes}
use Rattle.std.specs.Fmt.{decimal}
use Rattle.std.specs.List.{flat_map, range_with_len}
use Rattle.sides.specs.declared.side.Side.{Side}
use Rattle.sides.specs.declared.side.Side.TheVariants.{A, B}
use Rattle.link_trace.specs.declared.marks.Scale.{Scale}
use Rattle.link_trace.specs.declared.rows.Rates.{Rates}
use Rattle.link_trace.specs.declared.windows.Window.{Window}
use Rattle.link_trace.specs.Elements.{heading_at, line_head}
use Rattle.link_trace.specs.Intervals.{rate_of}
use Rattle.link_trace.specs.Marks.{colour_of, dashes_of, x_of, y_of}
use Rattle.link_trace.specs.Panels.{axes_of}
use Rattle.link_trace.specs.Rows.{capped}

-- ---- what is shown of a side, where so many paths stand in each row of what was measured

-- the row of this index
abbrev pub row_of : ℕ → ℕ → ℕ
row_of paths index = index / max paths 1

-- the tick at which it ends
abbrev pub row_end : ℕ → ℕ
row_end row = capped (capped (row + 1) * 100)

abbrev pub window_at : Side → ℕ → ℕ → Rates → Window
window_at side paths index r = record { path = index % max paths 1; tick = row_end (row_of paths index); octets = (rate_of side r).window }

-- one row of so many, of those that end by the last tick
abbrev pub is_shown : ℕ → ℕ → ℕ → Bool
is_shown every ticks row = row % max every 1 == 0 && nat_le (row_end row) ticks

abbrev pub window_if : Side → ℕ → ℕ → ℕ → ℕ → Rates → List Window
window_if side paths every ticks index r = if is_shown every ticks (row_of paths index) then window_at side paths index r ∷ [] else []

-- of what was measured the first of which has this index
abbrev pub windows_from : Side → ℕ → ℕ → ℕ → ℕ → List Rates → List Window
windows_from side paths every ticks index [] = []
windows_from side paths every ticks index (r ∷ rates) =
    window_if side paths every ticks index r ++ windows_from side paths every ticks (index + 1) rates

abbrev pub windows_by : Side → ℕ → ℕ → ℕ → List Rates → List Window
windows_by side paths every ticks rates = windows_from side paths every ticks 0 rates

-- the least number of which 1,000 are more than the rows
abbrev pub every_row : ℕ → List Rates → ℕ
every_row paths rates = row_of paths (length rates) / 1000 + 1

-- at most 1,000 rows; none of a run in which no two end
abbrev pub windows_of : Side → ℕ → ℕ → List Rates → List Window
windows_of side paths ticks rates = if nat_lt ticks 200 then [] else windows_by side paths (every_row paths rates) ticks rates

-- ---- in words

abbrev pub windows_name : Side → List ℕ
windows_name A = codes "congestion windows of A"
windows_name B = codes "congestion windows of B"

unfoldable pub windows_title : Side → ℕ → List ℕ
windows_title side top = heading_at (top + 200) (windows_name side) ++ codes "</text>\n"

-- where a line goes on
abbrev pub point_of : Scale → Window → List ℕ
point_of scale w = codes " " ++ (decimal (x_of scale w.tick) ++ (codes " " ++ decimal (y_of scale w.octets)))

abbrev pub point_on : Scale → ℕ → Window → List ℕ
point_on scale path w = if w.path == path then point_of scale w else []

-- the line of a path, in its colour
unfoldable pub window_line : Scale → List Window → ℕ → List ℕ
window_line scale windows path = line_head (colour_of path) (dashes_of path) ++ (flat_map (point_on scale path) windows ++ codes "\"/>\n")

abbrev pub window_lines : Scale → ℕ → List Window → List ℕ
window_lines scale paths windows = flat_map (window_line scale windows) (range_with_len 0 paths)

-- ---- all of it

-- the greatest one
abbrev pub top_window : List Window → ℕ
top_window [] = 0
top_window (w ∷ windows) = max w.octets (top_window windows)

abbrev pub windows_scale : ℕ → ℕ → List Window → Scale
windows_scale top ticks windows = record { ticks = ticks; places = top_window windows; floor = top + 3910 }

-- how high it is
abbrev pub windows_height : List Window → ℕ
windows_height windows = if length windows == 0 then 0 else 4510

unfoldable pub windows_drawn : Side → ℕ → ℕ → Scale → List Window → List ℕ
windows_drawn side paths top scale windows = windows_title side top ++ (axes_of scale ++ window_lines scale paths windows)

-- a panel of so many paths over so many ticks, or nothing where nothing was measured
unfoldable pub windows_panel : Side → ℕ → ℕ → ℕ → List Window → List ℕ
windows_panel side paths top ticks windows =
    if length windows == 0 then [] else windows_drawn side paths top (windows_scale top ticks windows) windows
