-- A line that is written is read again.
use Rattle.std.proofs.Common.{◌≡◌, ℕ, ◌^◌, ◌<◌, Bool, true, false, cond, eqb, List, [], ◌∷◌, ◌++◌, Ok, refl, arith}
use Rattle.std.specs.Prelude.{codes}
use Rattle.std.specs.Fmt.{decimal}
use Rattle.std.proofs.lemmas.Bool.{eqb-true, eq-eqb, true≢false, false≢true}
use Rattle.sides.specs.declared.side.Side.{Side}
use Rattle.sides.specs.declared.side.Side.TheVariants.{A, B}
use Rattle.sides.specs.Side.{side_word}
use Rattle.link_script.specs.declared.limits.Limits.{Limits}
use Rattle.link_script.specs.Ranges.{seeds, buffers, path_numbers, segment_sizes, delays, segment_numbers, latenesses, rates, queues, loss_parts, jitters, run_ticks, address_ids}
use Rattle.link_script.specs.declared.line.Line.{Line}
use Rattle.link_script.specs.declared.line.Line.TheVariants.{Header, Seed, Checksum, Short, Buffer, Path, Event, End}
use Rattle.link_script.specs.declared.script.PathLine.{PathLine}
use Rattle.link_script.specs.declared.script.Direction.{Direction}
use Rattle.link_script.specs.declared.script.Happens.{Happens}
use Rattle.link_script.specs.declared.script.Happens.TheVariants.{Lost, Late, Again, Stripped, Altered}
use Rattle.link_script.specs.declared.script.Impairment.{Impairment}
use Rattle.link_script.specs.declared.script.Impairment.TheVariants.{Rate, Loss, Jitter}
use Rattle.link_script.specs.declared.script.Segment.{Segment}
use Rattle.link_script.specs.declared.version.Version.{Version}
use Rattle.link_script.specs.declared.version.Version.TheVariants.{First, Second}
use Rattle.link_script.specs.declared.script.ScriptLine.{ScriptLine}
use Rattle.link_script.specs.declared.script.ScriptLine.TheVariants.{OnSegment, OnDirection, StripAll, Die, Prio, Add, Remove, FastClose}
use Rattle.link_script.specs.Lines.{seed_line, checksum_line, short_line, buffer_line, path_options, may_have, path_of, path_line, segment, ticks_word, on_segment_line, direction_of, rate_line, loss_line, jitter_line, strip_all_line, die_line, prio_line, add_line, remove_line, fast_close_line, end_line, line_of}
use Rattle.link_script.specs.Numbers.{within}
use Rattle.link_script.specs.Scripts.{IsInRange, IsPath, IsHappening, IsEvent}
use Rattle.link_script.specs.Versions.{has_rates, is_second}
use Rattle.link_script.specs.Words.{fixed, keyword, direction, direction_word, side, switch, switch_word}
use Rattle.link_script.specs.Writing.{backup_words, segment_words, happens_words, event_words, line_words}
use Rattle.link_script.proofs.LineRanges.{most_paths, IsLine}
use Rattle.link_script.proofs.WrittenWords.{IsPlain, ArePlain, plain_number, number_again, later_path}

-- ---- words

direction_again : (from : Side) → direction (direction_word from) ≡ Ok from
unfolding direction
direction_again A = refl
direction_again B = refl

side_again : (which : Side) → side (side_word which) ≡ Ok which
unfolding side
side_again A = refl
side_again B = refl

switch_again : (on : Bool) → switch (switch_word on) ≡ Ok on
unfolding switch
switch_again true = refl
switch_again false = refl

plain_direction : (from : Side) → IsPlain (direction_word from)
plain_direction A = refl
plain_direction B = refl

plain_side : (which : Side) → IsPlain (side_word which)
plain_side A = refl
plain_side B = refl

plain_switch : (on : Bool) → IsPlain (switch_word on)
plain_switch true = refl
plain_switch false = refl

-- ---- numbers

path_again : (n : ℕ) → n < most_paths → within path_numbers (decimal n) ≡ Ok n
path_again n h = number_again path_numbers n (record { least = omega arith; most = omega arith }) (omega arith)

again : (limits : Limits) (n : ℕ) → limits.most < 2 ^ 64 → IsInRange limits n → within limits (decimal n) ≡ Ok n
again limits n small h = number_again limits n h (omega (arith, h.most))

plain_within : (limits : Limits) (n : ℕ) → limits.most < 2 ^ 64 → IsInRange limits n → IsPlain (decimal n)
plain_within limits n small h = plain_number n (omega (arith, h.most))

plain_path : (n : ℕ) → n < most_paths → IsPlain (decimal n)
plain_path n h = plain_number n (omega arith)

no_ticks : within latenesses (codes "0") ≡ Ok 0
unfolding within
no_ticks = refl

-- ---- the lines of segments and ticks

segment_again : (s : Segment) → s.path < most_paths → IsInRange segment_numbers s.number → segment (decimal s.path) s.from (decimal s.number) ≡ Ok s
unfolding segment
segment_again s h n = rw (path_again s.path h, again segment_numbers s.number (omega arith) n) refl

happening_again : (version : Version) (s : Segment) (happens : Happens) → IsEvent most_paths (OnSegment s happens) → line_of version (event_words (OnSegment s happens)) ≡ Ok (Event (OnSegment s happens))
unfolding line_of keyword on_segment_line ticks_word
happening_again version s Lost h = rw (direction_again s.from, segment_again s h.0 h.1, no_ticks) refl
happening_again version s (Late ticks) h = rw (direction_again s.from, segment_again s h.0 h.1, again latenesses ticks (omega arith) h.2) refl
happening_again version s (Again ticks) h = rw (direction_again s.from, segment_again s h.0 h.1, again latenesses ticks (omega arith) h.2) refl
happening_again version s Stripped h = rw (direction_again s.from, segment_again s h.0 h.1, no_ticks) refl
happening_again version s Altered h = rw (direction_again s.from, segment_again s h.0 h.1, no_ticks) refl

direction_told : (d : Direction) → d.path < most_paths → direction_of (decimal d.path) (direction_word d.from) ≡ Ok d
unfolding direction_of
direction_told d h = rw (direction_again d.from, path_again d.path h) refl

impairment_again : (version : Version) (d : Direction) (impairment : Impairment) → IsEvent most_paths (OnDirection d impairment) → has_rates version ≡ true
    → line_of version (event_words (OnDirection d impairment)) ≡ Ok (Event (OnDirection d impairment))
unfolding line_of keyword rate_line loss_line jitter_line
impairment_again version d (Rate octets queue) h known = rw (known, direction_told d h.0, again rates octets (omega arith) h.1.0, again queues queue (omega arith) h.1.1) refl
impairment_again version d (Loss parts) h known = rw (known, direction_told d h.0, again loss_parts parts (omega arith) h.1) refl
impairment_again version d (Jitter ticks) h known = rw (known, direction_told d h.0, again jitters ticks (omega arith) h.1) refl

event_again : (version : Version) (event : ScriptLine) → IsEvent most_paths event → (is_second event ≡ true → has_rates version ≡ true) → line_of version (event_words event) ≡ Ok (Event event)
unfolding line_of keyword strip_all_line die_line prio_line add_line fixed remove_line fast_close_line
event_again version (OnSegment s happens) h known = happening_again version s happens h
event_again version (OnDirection d impairment) h known = impairment_again version d impairment h (known refl)
event_again version (StripAll path from tick) h known = rw (direction_again from, path_again path h.0, again run_ticks tick (omega arith) h.1) refl
event_again version (Die path tick) h known = rw (path_again path h.0, again run_ticks tick (omega arith) h.1) refl
event_again version (Prio path which tick on) h known = rw (side_again which, switch_again on, path_again path h.0, again run_ticks tick (omega arith) h.1) refl
event_again version (Add id tick) h known = rw (again address_ids id (omega arith) h.0, again run_ticks tick (omega arith) h.1) refl
event_again version (Remove which id tick) h known = rw (side_again which, again address_ids id (omega arith) h.0, again run_ticks tick (omega arith) h.1) refl
event_again version (FastClose which tick) h known = rw (side_again which, again run_ticks tick (omega arith) h) refl

plain_happening : (s : Segment) (happens : Happens) → IsEvent most_paths (OnSegment s happens) → ArePlain (event_words (OnSegment s happens))
plain_happening s happens h = (elim happens as (λ happens. IsHappening happens → ArePlain (happens_words happens (segment_words s))) [
  | Lost ↦ λ _. (refl, (path, (plain_direction s.from, (number, tt))))
  | Late ticks ↦ λ late. (refl, (path, (plain_direction s.from, (number, (plain_within latenesses ticks (omega arith) late, tt)))))
  | Again ticks ↦ λ late. (refl, (path, (plain_direction s.from, (number, (plain_within latenesses ticks (omega arith) late, tt)))))
  | Stripped ↦ λ _. (refl, (path, (plain_direction s.from, (number, tt))))
  | Altered ↦ λ _. (refl, (path, (plain_direction s.from, (number, tt))))
]) h.2
  where
    path : IsPlain (decimal s.path)
    path = plain_path s.path h.0

    number : IsPlain (decimal s.number)
    number = plain_within segment_numbers s.number (omega arith) h.1

plain_impairment : (d : Direction) (impairment : Impairment) → IsEvent most_paths (OnDirection d impairment) → ArePlain (event_words (OnDirection d impairment))
plain_impairment d (Rate octets queue) h = (refl, (plain_path d.path h.0, (plain_direction d.from, (plain_within rates octets (omega arith) h.1.0, (plain_within queues queue (omega arith) h.1.1, tt)))))
plain_impairment d (Loss parts) h = (refl, (plain_path d.path h.0, (plain_direction d.from, (plain_within loss_parts parts (omega arith) h.1, tt))))
plain_impairment d (Jitter ticks) h = (refl, (plain_path d.path h.0, (plain_direction d.from, (plain_within jitters ticks (omega arith) h.1, tt))))

plain_event : (event : ScriptLine) → IsEvent most_paths event → ArePlain (event_words event)
plain_event (OnSegment s happens) h = plain_happening s happens h
plain_event (OnDirection d impairment) h = plain_impairment d impairment h
plain_event (StripAll path from tick) h = (refl, (plain_path path h.0, (plain_direction from, (plain_within run_ticks tick (omega arith) h.1, tt))))
plain_event (Die path tick) h = (refl, (plain_path path h.0, (plain_within run_ticks tick (omega arith) h.1, tt)))
plain_event (Prio path which tick on) h = (refl, (plain_path path h.0, (plain_side which, (plain_within run_ticks tick (omega arith) h.1, (plain_switch on, tt)))))
plain_event (Add id tick) h = (refl, (refl, (plain_within address_ids id (omega arith) h.0, (plain_within run_ticks tick (omega arith) h.1, tt))))
plain_event (Remove which id tick) h = (refl, (plain_side which, (plain_within address_ids id (omega arith) h.0, (plain_within run_ticks tick (omega arith) h.1, tt))))
plain_event (FastClose which tick) h = (refl, (plain_side which, (plain_within run_ticks tick (omega arith) h, tt)))

-- ---- the lines of paths

-- the options of a path, by whether it joins later and whether it is a backup
abbrev option_words : Bool → Bool → ℕ → List (List ℕ)
option_words now backup tick = cond now [] (codes "join" ∷ decimal tick ∷ []) ++ backup_words backup

abbrev option_tick : Bool → ℕ → List ℕ
option_tick now tick = cond now (codes "0") (decimal tick)

options_again : (now backup : Bool) (tick : ℕ) → path_options (option_words now backup tick) ≡ Ok (option_tick now tick, backup)
unfolding path_options fixed
options_again true true tick = refl
options_again true false tick = refl
options_again false true tick = refl
options_again false false tick = refl

positive : (n : ℕ) → (n ≡ 0 → ⊥) → 0 < n
positive n h = omega (arith, h)

options_allowed : (now backup : Bool) (index tick : ℕ) → index < most_paths → (index ≡ 0 → (now ≡ true) × (backup ≡ false)) → may_have (decimal index) (option_words now backup tick) ≡ true
options_allowed true true index tick lt h = later_path index (positive index (λ z. true≢false (h z).1)) (omega arith)
options_allowed true false index tick lt h = refl
options_allowed false true index tick lt h = later_path index (positive index (λ z. false≢true (h z).0)) (omega arith)
options_allowed false false index tick lt h = later_path index (positive index (λ z. false≢true (h z).0)) (omega arith)

path_of_again : (index : ℕ) (path : PathLine) (join : List ℕ) → index < most_paths → IsPath path → within run_ticks join ≡ Ok path.join
    → path_of (decimal index) (decimal path.mss) (decimal path.delay) join path.backup ≡ Ok (Path index path)
unfolding path_of
path_of_again index path join lt h j = rw (path_again index lt, again segment_sizes path.mss (omega arith) h.mss, again delays path.delay (omega arith) h.delay, j) refl

tick_again : (now : Bool) (tick : ℕ) → eqb tick 0 ≡ now → IsInRange run_ticks tick → within run_ticks (option_tick now tick) ≡ Ok tick
unfolding within
tick_again true tick e h = rw (eqb-true tick 0 e) refl
tick_again false tick e h = again run_ticks tick (omega arith) h

path_line_again : (version : Version) (index : ℕ) (path : PathLine) → IsLine (Path index path) → line_of version (line_words (Path index path)) ≡ Ok (Path index path)
unfolding line_of keyword path_line fixed
path_line_again version index path h =
    let now = eqb path.join 0 in
    let allowed = options_allowed now path.backup index path.join h.0 (λ z. (eq-eqb path.join 0 (h.2 z).0, (h.2 z).1)) in
    let last = path_of_again index path (option_tick now path.join) h.0 h.1 (tick_again now path.join refl h.1.join) in
    rw (options_again now path.backup path.join, allowed) last

plain_options : (now backup : Bool) (tick : ℕ) → tick < 2 ^ 64 → ArePlain (option_words now backup tick)
plain_options true true tick h = (refl, tt)
plain_options true false tick h = tt
plain_options false true tick h = (refl, (plain_number tick h, (refl, tt)))
plain_options false false tick h = (refl, (plain_number tick h, tt))

plain_path_words : (index : ℕ) (path : PathLine) → IsLine (Path index path) → ArePlain (line_words (Path index path))
plain_path_words index path h =
    (refl, (plain_path index h.0, (refl, (plain_within segment_sizes path.mss (omega arith) h.1.mss, (refl, (plain_within delays path.delay (omega arith) h.1.delay, plain_options (eqb path.join 0) path.backup path.join (omega (arith, h.1.join.most))))))))

-- ---- any line

-- a line behind the first of a script of this version
abbrev pub IsIn : Version → Line → Type 0
IsIn version (Header told) = ⊥
IsIn version (Event event) = is_second event ≡ true → has_rates version ≡ true
IsIn version line = Unit {0}

pub line_again : (version : Version) (line : Line) → IsLine line → IsIn version line → line_of version (line_words line) ≡ Ok line
unfolding line_of keyword seed_line checksum_line short_line buffer_line end_line
line_again version (Header told) h later = absurd later
line_again version (Seed n) h later = rw (again seeds n (omega arith) h) refl
line_again version (Checksum on) h later = rw (switch_again on) refl
line_again version (Short on) h later = rw (switch_again on) refl
line_again version (Buffer octets) h later = rw (again buffers octets (omega arith) h) refl
line_again version (Path index path) h later = path_line_again version index path h
line_again version (Event event) h later = event_again version event h later
line_again version End h later = refl

pub plain_line : (line : Line) → IsLine line → ArePlain (line_words line)
plain_line (Header First) h = (refl, (refl, tt))
plain_line (Header Second) h = (refl, (refl, tt))
plain_line (Seed n) h = (refl, (plain_within seeds n (omega arith) h, tt))
plain_line (Checksum on) h = (refl, (plain_switch on, tt))
plain_line (Short on) h = (refl, (plain_switch on, tt))
plain_line (Buffer octets) h = (refl, (plain_within buffers octets (omega arith) h, tt))
plain_line (Path index path) h = plain_path_words index path h
plain_line (Event event) h = plain_event event h
plain_line End h = (refl, tt)
