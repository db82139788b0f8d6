-- One stream in a picture: a title, what each path carries of it, two axes, and its marks. A stream without payload is a sentence.
use Rattle.std.specs.Prelude.{ℕ, ◌+◌, ◌-◌, ◌*◌, ◌/◌, ◌%◌, ◌==◌, nat_lt, min, max, if◌then◌else◌, List, [], ◌∷◌, ◌++◌, length, codes}
use Rattle.std.specs.Fmt.{decimal}
use Rattle.std.specs.List.{flat_map, range_with_len}
use Rattle.sides.specs.declared.side.Side.{Side}
use Rattle.sides.specs.declared.side.Side.TheVariants.{A, B}
use Rattle.link_trace.specs.declared.marks.Scale.{Scale}
use Rattle.link_trace.specs.declared.panels.Block.{Block}
use Rattle.link_trace.specs.declared.panels.Death.{Death}
use Rattle.link_trace.specs.declared.strokes.Dot.{Dot}
use Rattle.link_trace.specs.declared.strokes.Stroke.{Stroke}
use Rattle.link_trace.specs.Elements.{death_line, death_words_at, heading_at, key_line, notch, rectangle, words_at, words_by}
use Rattle.link_trace.specs.Marks.{bars_of, boxes_of, colour_of, crosses_of, dashes_of, stairs_of, x_of, y_of}
use Rattle.link_trace.specs.Numbers.{grouped, step_of}
use Rattle.link_trace.specs.Rows.{capped}

-- ---- the title

abbrev pub way_name : Side → List ℕ
way_name A = codes "A to B"
way_name B = codes "B to A"

abbrev pub heading : Block → List ℕ
heading block = heading_at (block.top + 200) (way_name block.side)

-- how many octets
abbrev pub octets_words : ℕ → List ℕ
octets_words octets = codes ": " ++ (grouped octets ++ codes " octets")

-- how many of them in how many ticks
unfoldable pub amount_words : Scale → List ℕ
amount_words scale = octets_words scale.places ++ (codes " in " ++ (grouped scale.ticks ++ codes " ms"))

-- where one segment of several is drawn
unfoldable pub part_words : ℕ → List ℕ
part_words every = if nat_lt 1 every then codes ", 1 of " ++ (decimal every ++ codes " segments") else []

unfoldable pub title_of : Block → Scale → List ℕ
title_of block scale = heading block ++ (amount_words scale ++ (part_words block.every ++ codes "</text>\n"))

-- that of a stream without payload
unfoldable pub sentence_of : Block → List ℕ
sentence_of block = heading block ++ codes ": no payload</text>\n"

-- ---- what each path carries

-- the octets of a path's payloads
abbrev pub octets_at : ℕ → Stroke → ℕ
octets_at path s = if s.path == path then s.to - s.from else 0

abbrev pub octets_on : ℕ → List Stroke → ℕ
octets_on path [] = 0
octets_on path (s ∷ strokes) = octets_at path s + octets_on path strokes

-- four stand in a row
abbrev pub key_x : ℕ → ℕ
key_x path = 900 + 2200 * (path % 4)

abbrev pub key_y : ℕ → ℕ → ℕ
key_y top path = top + (400 + 200 * (path % 16 / 4))

unfoldable pub key_words : List Stroke → ℕ → List ℕ
key_words strokes path = codes "path " ++ (decimal path ++ (octets_words (capped (octets_on path strokes)) ++ codes "</text>\n"))

-- a line in the colour of the path, and behind it how many octets it carries
unfoldable pub key_of : Block → List Stroke → ℕ → List ℕ
key_of block strokes path =
    key_line (colour_of path) (dashes_of path) (key_x path) (key_y block.top path)
    ++ (words_at (key_x path + 260) (key_y block.top path + 50) ++ key_words strokes path)

abbrev pub keys_of : Block → List Stroke → List ℕ
keys_of block strokes = flat_map (key_of block strokes) (range_with_len 0 block.paths)

-- ---- axes

-- what the sides of the frame measure
unfoldable pub ticks_name : Scale → List ℕ
ticks_name scale = words_by 5300 (scale.floor + 440) (codes "middle") ++ codes "ticks (ms)</text>\n"

unfoldable pub octets_name : Scale → List ℕ
octets_name scale = words_at 900 (scale.floor - 3460) ++ codes "octets</text>\n"

unfoldable pub frame_of : Scale → List ℕ
frame_of scale = rectangle (scale.floor - 3400) ++ (ticks_name scale ++ octets_name scale)

-- a number below the frame, and one to its left
unfoldable pub tick_of : Scale → ℕ → List ℕ
tick_of scale tick =
    notch (x_of scale tick) scale.floor (codes "v60")
    ++ (words_by (x_of scale tick) (scale.floor + 220) (codes "middle") ++ (grouped tick ++ codes "</text>\n"))

unfoldable pub place_of : Scale → ℕ → List ℕ
place_of scale place =
    notch 900 (y_of scale place) (codes "h-60") ++ (words_by 820 (y_of scale place + 50) (codes "end") ++ (grouped place ++ codes "</text>\n"))

-- how many numbers so far apart there are, from 0 on
abbrev pub count_of : ℕ → ℕ → ℕ
count_of range step = capped (range / max step 1 + 1)

-- what is said at so many numbers, so far apart
abbrev pub at_each : (ℕ → List ℕ) → ℕ → ℕ → List ℕ
at_each words step count = flat_map (λ n. words (capped (step * n))) (range_with_len 0 count)

-- at all numbers of an axis of this range
abbrev pub along : (ℕ → List ℕ) → ℕ → List ℕ
along words range = at_each words (step_of range) (count_of range (step_of range))

unfoldable pub axes_of : Scale → List ℕ
axes_of scale = frame_of scale ++ (along (tick_of scale) scale.ticks ++ along (place_of scale) scale.places)

-- ---- marks

abbrev pub path_marks : Scale → List Stroke → ℕ → List ℕ
path_marks scale strokes path = bars_of scale strokes path ++ boxes_of scale strokes path

-- those of each path, then what is acknowledged, and above all of it what is lost
unfoldable pub marks_of : Scale → ℕ → List Stroke → List Dot → List ℕ
marks_of scale paths strokes dots =
    flat_map (path_marks scale strokes) (range_with_len 0 paths) ++ (stairs_of scale dots ++ crosses_of scale strokes)

-- ---- deaths

-- at the side of a line where more room is
unfoldable pub beside : ℕ → List ℕ
beside x =
    if nat_lt x 5000 then decimal (x + 40) ++ codes "\" text-anchor=\"start"
    else decimal (x - 40) ++ codes "\" text-anchor=\"end"

unfoldable pub death_words : Scale → Death → List ℕ
death_words scale d =
    death_words_at (scale.floor - 3200) ++ (beside (x_of scale d.tick) ++ (codes "\">path " ++ (decimal d.path ++ codes " dies</text>\n")))

-- a line in the colour of the path, and words beside it
unfoldable pub death_of : Scale → Death → List ℕ
death_of scale d = death_line (colour_of d.path) (x_of scale d.tick) (scale.floor - 3400) ++ death_words scale d

-- ---- all of it

-- the place behind all payloads
abbrev pub top_of : List Stroke → ℕ
top_of [] = 0
top_of (s ∷ strokes) = max s.to (top_of strokes)

-- rows of paths: a script has 16 at most
abbrev pub key_rows : ℕ → ℕ
key_rows paths = (min paths 16 + 3) / 4

abbrev pub scale_of : Block → ℕ → List Stroke → Scale
scale_of block ticks strokes =
    record { ticks = ticks; places = top_of strokes; floor = block.top + 4010 + 200 * key_rows block.paths }

-- how high it is
abbrev pub height_of : ℕ → List Stroke → ℕ
height_of paths strokes = if length strokes == 0 then 400 else 4610 + 200 * key_rows paths

unfoldable pub panel_of : Block → Scale → List Death → List Stroke → List Dot → List ℕ
panel_of block scale deaths strokes dots =
    title_of block scale ++ (keys_of block strokes ++ (axes_of scale ++ (marks_of scale block.paths strokes dots ++ flat_map (death_of scale) deaths)))

-- a panel over so many ticks, or where there is no payload a sentence
unfoldable pub block_of : Block → ℕ → List Death → List Stroke → List Dot → List ℕ
block_of block ticks deaths strokes dots =
    if length strokes == 0 then sentence_of block else panel_of block (scale_of block ticks strokes) deaths strokes dots
