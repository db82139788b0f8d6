-- What a picture shows of a stream: a stroke for each payload whose place is told, a dot for each Data ACK.
use Rattle.std.specs.Prelude.{ℕ, ◌+◌, ◌==◌, nat_lt, Bool, if◌then◌else◌, Option, Some, None, option_map, List, [], ◌∷◌, ◌++◌, filter}
use Rattle.std.specs.List.{filter_map}
use Rattle.std.specs.Option.{option_to_list}
use Rattle.sides.specs.declared.side.Side.{Side}
use Rattle.sides.specs.Side.{peer}
use Rattle.link_trace.specs.declared.carried.Carried.{Carried}
use Rattle.link_trace.specs.declared.strokes.Dot.{Dot}
use Rattle.link_trace.specs.declared.strokes.Stroke.{Stroke}
use Rattle.range_marks.specs.Marks.{Marks, no_marks}
use Rattle.link_trace.specs.Places.{repeated, with_carried}
use Rattle.link_trace.specs.Rows.{is_from}

-- a payload some of whose octets, so many, stand at places that were carried before counts as sent again
abbrev pub stroke_at : ℕ → Carried → ℕ → Stroke
stroke_at repeated c place = record {
  path = c.path;
  again = nat_lt 0 repeated;
  lost = c.lost;
  tick = c.tick;
  from = place;
  to = place + c.len;
}

-- none without a payload, or where its place isn't told
abbrev pub stroke_of : ℕ → Carried → Option ℕ → Option Stroke
stroke_of repeated c None = None
stroke_of repeated c (Some place) = if c.len == 0 then None else Some (stroke_at repeated c place)

-- of these segments, where earlier ones carried these places
abbrev pub strokes_behind : Marks Bool → List Carried → List Stroke
strokes_behind places [] = []
strokes_behind places (c ∷ cs) =
    option_to_list (stroke_of (repeated c.place c.len places) c c.place) ++ strokes_behind (with_carried c.place c.len places) cs

-- the payloads of a side's stream
abbrev pub strokes_of : Side → List Carried → List Stroke
strokes_of side cs = strokes_behind no_marks (filter (is_from side) cs)

abbrev pub dot_of : Carried → Option ℕ → Option Dot
dot_of c acknowledged = option_map (λ place. record { tick = c.tick; place = place }) acknowledged

-- what the other side acknowledges of it
abbrev pub dots_of : Side → List Carried → List Dot
dots_of side cs = filter_map (λ c. dot_of c c.acknowledged) (filter (is_from (peer side)) cs)
