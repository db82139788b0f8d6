-- Where the marks of a panel stand: ticks go across 8,800 units from 900 on, places up 3,400 units from the panel's floor.
use Rattle.std.specs.Prelude.{ℕ, ◌+◌, ◌-◌, ◌*◌, ◌/◌, ◌%◌, ◌==◌, ◌&&◌, not, nat_lt, min, max, if◌then◌else◌, List, [], ◌∷◌, ◌++◌, codes}
use Rattle.std.specs.Fmt.{decimal}
use Rattle.std.specs.List.{flat_map}
use Rattle.link_trace.specs.declared.marks.Scale.{Scale}
use Rattle.link_trace.specs.declared.strokes.Dot.{Dot}
use Rattle.link_trace.specs.declared.strokes.Stroke.{Stroke}
use Rattle.link_trace.specs.Elements.{bars_head, boxes_head, crosses_head, stairs_head}
use Rattle.link_trace.specs.Rows.{capped}

-- a length in the proportion of a part to its whole, rounded down
abbrev pub part_of : ℕ → ℕ → ℕ → ℕ
part_of len part whole = capped (len * min part whole) / max whole 1

abbrev pub x_of : Scale → ℕ → ℕ
x_of scale tick = capped (part_of 8800 tick scale.ticks + 900)

abbrev pub y_of : Scale → ℕ → ℕ
y_of scale place = scale.floor - part_of 3400 place scale.places

-- ---- colours

-- the eight of Okabe and Ito
abbrev pub colour_at : ℕ → List ℕ
colour_at n =
    if n == 0 then codes "#0072b2" else (if n == 1 then codes "#e69f00" else (if n == 2 then codes "#009e73" else (if n == 3 then codes "#cc79a7"
    else (if n == 4 then codes "#56b4e9" else (if n == 5 then codes "#d55e00" else (if n == 6 then codes "#f0e442" else codes "#000000"))))))

unfoldable pub colour_of : ℕ → List ℕ
colour_of path = colour_at (path % 8)

-- from path 8 on lines are dashed
unfoldable pub dashes_of : ℕ → List ℕ
dashes_of path = if nat_lt path 8 then [] else codes " stroke-dasharray=\"24 24\""

-- ---- marks

-- a bar from the first place of a payload to its last one
abbrev pub bar_of : Scale → Stroke → List ℕ
bar_of scale s =
    codes "M" ++ (decimal (x_of scale s.tick) ++ (codes " " ++ (decimal (y_of scale s.from) ++ (codes "V" ++ decimal (y_of scale s.to)))))

-- a hollow one
abbrev pub box_of : Scale → Stroke → List ℕ
box_of scale s =
    codes "M" ++ (decimal (x_of scale s.tick - 20) ++ (codes " " ++ (decimal (y_of scale s.from) ++ (codes "h40V" ++ (decimal (y_of scale s.to) ++ codes "h-40z")))))

-- a bar where a payload of this path was sent for the first time, a hollow one where octets of it were sent before
abbrev pub bar_on : Scale → ℕ → Stroke → List ℕ
bar_on scale path s = if s.path == path && not s.again then bar_of scale s else []

abbrev pub box_on : Scale → ℕ → Stroke → List ℕ
box_on scale path s = if s.path == path && s.again then box_of scale s else []

-- all bars of a path, in its colour
unfoldable pub bars_of : Scale → List Stroke → ℕ → List ℕ
bars_of scale strokes path = bars_head (colour_of path) (dashes_of path) ++ (flat_map (bar_on scale path) strokes ++ codes "\"/>\n")

-- and the hollow ones
unfoldable pub boxes_of : Scale → List Stroke → ℕ → List ℕ
boxes_of scale strokes path = boxes_head (colour_of path) ++ (flat_map (box_on scale path) strokes ++ codes "\"/>\n")

-- a cross at the tick and the first place of a payload that is lost
abbrev pub cross_of : Scale → Stroke → List ℕ
cross_of scale s =
    if s.lost then codes "M" ++ (decimal (x_of scale s.tick) ++ (codes " " ++ (decimal (y_of scale s.from) ++ codes "m-40 -40l80 80m0 -80l-80 80")))
    else []

-- red
unfoldable pub crosses_of : Scale → List Stroke → List ℕ
crosses_of scale strokes = crosses_head ++ (flat_map (cross_of scale) strokes ++ codes "\"/>\n")

-- ---- Data ACKs

-- a stair up where more is acknowledged than so much
abbrev pub stair_of : Scale → ℕ → Dot → List ℕ
stair_of scale top d =
    if nat_lt top d.place then codes "H" ++ (decimal (x_of scale d.tick) ++ (codes "V" ++ decimal (y_of scale d.place))) else []

abbrev pub stairs_from : Scale → ℕ → List Dot → List ℕ
stairs_from scale top [] = []
stairs_from scale top (d ∷ dots) = stair_of scale top d ++ stairs_from scale (max top d.place) dots

-- one grey line from the floor up
unfoldable pub stairs_of : Scale → List Dot → List ℕ
stairs_of scale dots = stairs_head scale.floor ++ (stairs_from scale 0 dots ++ codes "\"/>\n")
