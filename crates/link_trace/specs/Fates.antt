-- What becomes of a segment, in words.
use Rattle.std.specs.Prelude.{ℕ, ◌+◌, ◌==◌, Bool, true, false, not, ◌&&◌, if◌then◌else◌, List, ◌++◌, codes}
use Rattle.std.specs.Fmt.{decimal}
use Rattle.link_model.specs.declared.fate.Fate.{Fate}
use Rattle.link_model.specs.declared.fate.Fate.TheVariants.{OnTime, Lost, Full, Late, Twice}
use Rattle.link_model.specs.declared.fate.SegmentFate.{SegmentFate}
use Rattle.link_trace.specs.Multipath.{word_if}

abbrev pub has_no_line : Fate → Bool
has_no_line OnTime = true
has_no_line _ = false

-- a segment arrives once, a delay after it was sent
abbrev pub is_on_time : SegmentFate → Bool
is_on_time f = has_no_line f.arrival && f.waited == 0

abbrev pub is_lost : Fate → Bool
is_lost Lost = true
is_lost Full = true
is_lost _ = false

-- a queue has no room for it
abbrev pub is_full : Fate → Bool
is_full Full = true
is_full _ = false

-- the segment arrives once, on time and as it was sent
abbrev pub is_plain : SegmentFate → Bool
is_plain f = is_on_time f && (not f.stripped && not f.altered)

-- when it arrives that waited so many ticks
abbrev pub late_words : ℕ → List ℕ
late_words waited = if waited == 0 then codes "on time" else codes "late by " ++ decimal waited

-- when both copies arrive
abbrev pub again_words : ℕ → ℕ → List ℕ
again_words waited ticks =
    if waited == 0 then codes "repeated after " ++ decimal ticks
    else codes "late by " ++ (decimal waited ++ (codes ", repeated after " ++ decimal ticks))

abbrev pub arrival_words : ℕ → Fate → List ℕ
arrival_words waited OnTime = late_words waited
arrival_words waited Lost = codes "lost"
arrival_words waited Full = codes "queue full"
arrival_words waited (Late ticks) = codes "late by " ++ decimal (waited + ticks)
arrival_words waited (Twice ticks) = again_words waited ticks

abbrev pub fate_words : SegmentFate → List ℕ
fate_words f = arrival_words f.waited f.arrival ++ (word_if f.stripped (codes ", stripped") ++ word_if f.altered (codes ", altered"))
