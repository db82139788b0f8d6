-- What a direction of a link does to every segment that it takes: random loss, a queue that empties at a rate, jitter.
-- Octets are those of a segment with an IPv4 header of 20 before it.
use Rattle.std.specs.Prelude.{ℕ, ◌+◌, ◌-◌, ◌*◌, ◌/◌, ◌^◌, Bool, false, nat_lt, if◌then◌else◌, List, fold, Option, Some, None}
use Rattle.std.specs.Int.{div_ceil}
use Rattle.sides.specs.declared.side.Side.{Side}
use Rattle.sides.specs.declared.side.Side.TheVariants.{A, B}
use Rattle.link_script.specs.declared.script.Impairment.{Impairment}
use Rattle.link_script.specs.declared.script.Impairment.TheVariants as script
use Rattle.link_script.specs.declared.script.ScriptLine.{ScriptLine}
use Rattle.link_script.specs.declared.script.ScriptLine.TheVariants.{OnDirection}
use Rattle.link_script.specs.Places.{same_side}
use Rattle.link_model.specs.declared.passage.Rate.{Rate}
use Rattle.link_model.specs.declared.passage.Shape.{Shape}
use Rattle.link_model.specs.declared.passage.Waiting.{Waiting}

-- ---- by lines of the script

-- no rate, no loss and no jitter
abbrev pub plain_shape : Shape
plain_shape = record { rate = None; loss = 0; jitter = 0 }

abbrev pub with_impairment : Impairment → Shape → Shape
with_impairment (script.Rate octets queue) shape = record shape { rate = Some (record { octets = octets; queue = queue }) }
with_impairment (script.Loss parts) shape = record shape { loss = parts }
with_impairment (script.Jitter ticks) shape = record shape { jitter = ticks }

-- a line more
abbrev pub shaped_by : Side → Shape → ScriptLine → Shape
shaped_by from shape (OnDirection direction impairment) = if same_side direction.from from then with_impairment impairment shape else shape
shaped_by from shape line = shape

-- what these lines make of the direction from a side
abbrev pub shape_of : Side → List ScriptLine → Shape
shape_of from lines = fold (shaped_by from) plain_shape lines

-- ---- words drawn

abbrev pub index_of : Side → ℕ
index_of A = 0
index_of B = 1

-- the streams of a direction: one for its losses, one for its jitter
abbrev pub loss_stream : ℕ → Side → ℕ
loss_stream path from = 2000 + 4 * path + 2 * index_of from

abbrev pub jitter_stream : ℕ → Side → ℕ
jitter_stream path from = 2001 + 4 * path + 2 * index_of from

-- the word of the segment of this number, the first being 1, of this part of a million: it is lost
abbrev pub is_drawn : ℕ → ℕ → Bool
is_drawn parts word = nat_lt (word * 1000000) (parts * 2 ^ 32)

-- 0 to so many ticks, each as likely
abbrev pub ticks_drawn : ℕ → ℕ → ℕ
ticks_drawn ticks word = (word * (ticks + 1)) / 2 ^ 32

-- ---- a queue

-- nothing waits
abbrev pub empty_queue : Waiting
empty_queue = record { left = 0; at = 0 }

-- the octets that still wait at this tick
abbrev pub left_at : Rate → ℕ → Waiting → ℕ
left_at rate now w = w.left - rate.octets * (now - w.at)

-- those before a direction that may have no rate
abbrev pub octets_left : Option Rate → ℕ → Waiting → ℕ
octets_left None now w = 0
octets_left (Some rate) now w = left_at rate now w

-- there is no room for so many octets more
abbrev pub is_full : Option Rate → ℕ → ℕ → Waiting → Bool
is_full None now octets w = false
is_full (Some rate) now octets w = nat_lt rate.queue (left_at rate now w + octets)

-- more octets wait behind the others
abbrev pub queued : Option Rate → ℕ → ℕ → Waiting → Waiting
queued None now octets w = w
queued (Some rate) now octets w = record { left = left_at rate now w + octets; at = now }

-- the ticks after which all that waits was handed on
abbrev pub ticks_queued : Option Rate → Waiting → ℕ
ticks_queued None w = 0
ticks_queued (Some rate) w = div_ceil w.left rate.octets
