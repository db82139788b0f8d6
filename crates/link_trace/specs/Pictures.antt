-- A picture of both streams, and of the congestion windows of their senders, in SVG: ticks go across, octets up.
use Rattle.std.specs.Prelude.{ℕ, ◌+◌, ◌/◌, ◌%◌, ◌^◌, ◌==◌, ◌||◌, nat_le, max, Bool, if◌then◌else◌, List, [], ◌∷◌, ◌++◌, length, codes}
use Rattle.std.specs.Fmt.{decimal}
use Rattle.sides.specs.declared.side.Side.{Side}
use Rattle.sides.specs.declared.side.Side.TheVariants.{A, B}
use Rattle.link_trace.specs.declared.carried.Carried.{Carried}
use Rattle.link_trace.specs.declared.drawing.Stream.{Stream}
use Rattle.link_trace.specs.declared.panels.Block.{Block}
use Rattle.link_trace.specs.declared.panels.Death.{Death}
use Rattle.link_trace.specs.declared.rows.Rates.{Rates}
use Rattle.link_trace.specs.declared.strokes.Dot.{Dot}
use Rattle.link_trace.specs.declared.strokes.Stroke.{Stroke}
use Rattle.link_trace.specs.declared.windows.Window.{Window}
use Rattle.link_trace.specs.Elements.{acknowledged_entry, again_entry, lost_entry, payload_entry}
use Rattle.link_trace.specs.Panels.{block_of, height_of}
use Rattle.link_trace.specs.Rows.{last_tick}
use Rattle.link_trace.specs.Strokes.{dots_of, strokes_of}
use Rattle.link_trace.specs.Windows.{windows_height, windows_of, windows_panel}

-- ---- what is shown of a stream

pub record Shown : Type 0 where
  pub strokes : List Stroke
  pub dots : List Dot
  pub windows : List Window

abbrev pub as_shown : Stream → Shown
as_shown stream = record { strokes = stream.strokes.items; dots = stream.dots.items; windows = stream.windows.items }

-- the windows of the side that sends it, by what the ends of so many paths measure up to this tick; none of a stream without payload
abbrev pub windows_behind : List Stroke → Side → ℕ → ℕ → List Rates → List Window
windows_behind strokes side paths ticks measured = if length strokes == 0 then [] else windows_of side paths ticks measured

abbrev pub shown_of : Side → ℕ → ℕ → List Rates → List Carried → Shown
shown_of side paths ticks measured cs = record {
  strokes = strokes_of side cs;
  dots = dots_of side cs;
  windows = windows_behind (strokes_of side cs) side paths ticks measured;
}

-- ---- the words

unfoldable pub head_words : ℕ → List ℕ
head_words height =
    codes "<svg xmlns=\"http://www.w3.org/2000/svg\" viewBox=\"0 0 10000 " ++ (decimal height ++ (codes "\" width=\"1000\" height=\""
    ++ (decimal (height / 10) ++ (codes "\" font-family=\"sans-serif\" font-size=\"150\">\n<rect width=\"10000\" height=\""
    ++ (decimal height ++ codes "\" fill=\"#ffffff\"/>\n")))))

-- what the marks mean
unfoldable pub legend_words : List ℕ
legend_words = payload_entry ++ (again_entry ++ (lost_entry ++ acknowledged_entry))

unfoldable pub too_many : List ℕ
too_many =
    codes "<svg xmlns=\"http://www.w3.org/2000/svg\" viewBox=\"0 0 10000 400\" width=\"1000\" height=\"40\" font-family=\"sans-serif\" font-size=\"200\">\n<text x=\"900\" y=\"200\">too many segments are lost for a picture</text>\n</svg>\n"

-- ---- some of a stream, where all of it has no room

-- one of so many
unfoldable pub is_drawn : ℕ → ℕ → Bool
is_drawn every index = index % max every 1 == 0

-- a payload that is lost, and one of so many by their index; of payloads the first of which has this index
abbrev pub stroke_if : ℕ → ℕ → Stroke → List Stroke
stroke_if every index s = if s.lost || is_drawn every index then s ∷ [] else []

abbrev pub strokes_from : ℕ → ℕ → List Stroke → List Stroke
strokes_from every index [] = []
strokes_from every index (s ∷ strokes) = stroke_if every index s ++ strokes_from every (index + 1) strokes

-- one Data ACK of so many
abbrev pub dot_if : ℕ → ℕ → Dot → List Dot
dot_if every index d = if is_drawn every index then d ∷ [] else []

abbrev pub dots_from : ℕ → ℕ → List Dot → List Dot
dots_from every index [] = []
dots_from every index (d ∷ dots) = dot_if every index d ++ dots_from every (index + 1) dots

abbrev pub some_strokes : ℕ → List Stroke → List Stroke
some_strokes every strokes = strokes_from every 0 strokes

abbrev pub some_dots : ℕ → List Dot → List Dot
some_dots every dots = dots_from every 0 dots

abbrev pub thinned : ℕ → Shown → Shown
thinned every s = record { strokes = some_strokes every s.strokes; dots = some_dots every s.dots; windows = s.windows }

-- how many strokes, or dots where these are more
abbrev pub most_of : Shown → ℕ
most_of s = max (length s.strokes) (length s.dots)

-- the least number of which 10,000 are more than that, of either stream
abbrev pub every_of : Shown → Shown → ℕ
every_of a b = max (most_of a) (most_of b) / 10000 + 1

-- ---- the picture

-- the greatest tick of a death
abbrev pub last_death : List Death → ℕ
last_death [] = 0
last_death (d ∷ deaths) = max d.tick (last_death deaths)

-- A's stream above, B's below
abbrev pub upper : ℕ → ℕ → Block
upper paths every = record { side = A; top = 400; paths = paths; every = every }

abbrev pub lower : ℕ → ℕ → Shown → Block
lower paths every a = record { side = B; top = 400 + height_of paths a.strokes; paths = paths; every = every }

-- both streams
unfoldable pub blocks_of : ℕ → List Death → ℕ → ℕ → Shown → Shown → List ℕ
blocks_of paths deaths ticks every a b =
    block_of (upper paths every) ticks deaths a.strokes a.dots ++ block_of (lower paths every a) ticks deaths b.strokes b.dots

-- below the streams the windows of A, then those of B
unfoldable pub windows_below : ℕ → ℕ → ℕ → Shown → Shown → List ℕ
windows_below paths ticks top a b =
    windows_panel A paths top ticks a.windows ++ windows_panel B paths (top + windows_height a.windows) ticks b.windows

abbrev pub bottom_of : ℕ → Shown → Shown → ℕ
bottom_of paths a b = 400 + height_of paths a.strokes + height_of paths b.strokes

-- of so many paths, of which these died, and so many ticks, where one segment of so many is drawn
unfoldable pub drawn : ℕ → List Death → ℕ → ℕ → Shown → Shown → List ℕ
drawn paths deaths ticks every a b =
    head_words (bottom_of paths a b + windows_height a.windows + windows_height b.windows)
    ++ (legend_words ++ (blocks_of paths deaths ticks every a b ++ (windows_below paths ticks (bottom_of paths a b) a b ++ codes "</svg>\n")))

-- of some of the segments
abbrev pub drawn_in_part : ℕ → List Death → ℕ → Shown → Shown → List ℕ
drawn_in_part paths deaths ticks a b = let every = every_of a b in drawn paths deaths ticks every (thinned every a) (thinned every b)

-- this text where it has 2 MiB at most, or else the other one
abbrev pub if_room : List ℕ → List ℕ → List ℕ
if_room text other = if nat_le (length text) (2 ^ 21) then text else other

-- the whole picture, or that of some of the segments, or else a sentence
abbrev pub fitted : ℕ → List Death → ℕ → Shown → Shown → List ℕ
fitted paths deaths ticks a b = if_room (drawn paths deaths ticks 1 a b) (if_room (drawn_in_part paths deaths ticks a b) too_many)

-- of what a trace carries over so many paths, of which these died, and whose ends measured this: up to the last segment or death
unfoldable pub picture_of : ℕ → List Death → List Rates → List Carried → List ℕ
picture_of paths deaths measured cs =
    let ticks = max (last_tick cs) (last_death deaths) in
    fitted paths deaths ticks (shown_of A paths ticks measured cs) (shown_of B paths ticks measured cs)
