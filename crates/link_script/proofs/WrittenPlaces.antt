-- The lines of a script stand where they may.
use Rattle.std.proofs.Common.{◌≡◌, ℕ, suc, ◌+◌, ◌<◌, Bool, true, false, not, cond, eqb, List, [], ◌∷◌, ◌++◌, length, Ok, Option, Some, None, refl, sym, ap, subst, ◌∙◌, append_assoc, arith}
use Rattle.std.specs.Prelude.{count_by}
use Rattle.std.specs.List.{list_any, AllByRecursion, AllPairs}
use Rattle.std.proofs.lemmas.Bool.{or_from, eq-eqb, ne_eqb, lt-leb, not_from_true}
use Rattle.std.proofs.lemmas.List.{append-nil}
use Rattle.std.proofs.lemmas.List.Elements.{recursion_from_All}
use Rattle.std.proofs.lemmas.List.Folds.{list_any-append}
use Rattle.std.proofs.lemmas.List.Sums.{sum_by-append}
use Rattle.link_script.specs.declared.line.Line.{Line}
use Rattle.link_script.specs.declared.line.Line.TheVariants.{Header, Seed, Checksum, Short, Buffer, Path, Event, End}
use Rattle.link_script.specs.declared.place.Subject.{Subject}
use Rattle.link_script.specs.declared.script.PathLine.{PathLine}
use Rattle.link_script.specs.declared.script.Script.{Script}
use Rattle.link_script.specs.declared.script.Happens.TheVariants.{Lost, Late, Again, Stripped, Altered}
use Rattle.link_script.specs.declared.script.Impairment.TheVariants.{Rate, Loss, Jitter}
use Rattle.link_script.specs.declared.script.ScriptLine.{ScriptLine}
use Rattle.link_script.specs.declared.version.Version.{Version}
use Rattle.link_script.specs.declared.script.ScriptLine.TheVariants.{OnSegment, OnDirection, StripAll, Die, Prio}
use Rattle.link_script.specs.Places.{is_path, is_end, path_named, lacks, is_out_of_order, settled_by, are_same, settle_one, is_repeated}
use Rattle.link_script.specs.Reading.{in_place}
use Rattle.link_script.specs.Scripts.{IsEvent, SettleApart, HasRanges}
use Rattle.link_script.specs.Writing.{seed_lines, checksum_lines, short_lines, buffer_lines, path_lines, event_lines}

-- each line may stand after these and those before it
abbrev pub Placed : List Line → List Line → Type 0
Placed seen [] = Unit {0}
Placed seen (line ∷ lines) = (in_place seen line ≡ Ok line) × Placed (seen ++ line ∷ []) lines

pub placed_append : (seen xs ys : List Line) → Placed seen xs → Placed (seen ++ xs) ys → Placed seen (xs ++ ys)
placed_append seen [] ys p q = subst (λ (lines : List Line). Placed lines ys) (append-nil seen) q
placed_append seen (x ∷ xs) ys p q =
    (p.0, placed_append (seen ++ x ∷ []) xs ys p.1 (subst (λ (lines : List Line). Placed lines ys) (sym (append_assoc seen (x ∷ []) xs)) q))

placed : (seen : List Line) (line : Line) → is_out_of_order seen line ≡ false → is_repeated seen line ≡ false → in_place seen line ≡ Ok line
placed seen line o r = rw (o, r) refl

-- ---- what stands before

-- a line that settles nothing that a event may settle
abbrev IsApart : Line → Type 0
IsApart line = (event : ScriptLine) → settle_one line (Event event) ≡ false

-- no end yet, so many paths, and no event
pub record Before (seen : List Line) (paths : ℕ) : Type 0 where
  pub goes : list_any is_end seen ≡ false
  pub count : count_by is_path seen ≡ paths
  pub apart : (event : ScriptLine) → is_repeated seen (Event event) ≡ false

pub before_append : (xs ys : List Line) (a b n : ℕ) → Before xs a → Before ys b → a + b ≡ n → Before (xs ++ ys) n
before_append xs ys a b n p q e = record {
  goes = list_any-append is_end xs ys ∙ or_from _ _ p.goes q.goes;
  count = omega (arith, sum_by-append (λ l. cond (is_path l) 1 0) xs ys, p.count, q.count);
  apart = λ event. list_any-append (λ l. settle_one l (Event event)) xs ys ∙ or_from _ _ (p.apart event) (q.apart event);
}

none_before : Before [] 0
none_before = record { goes = refl; count = refl; apart = λ event. refl }

one_before : (line : Line) (paths : ℕ) → is_end line ≡ false → count_by is_path (line ∷ []) ≡ paths → IsApart line → Before (line ∷ []) paths
one_before line paths goes count apart = record {
  goes = or_from _ _ goes refl;
  count = count;
  apart = λ event. or_from _ _ (apart event) refl;
}

-- ---- settings

seed_apart : (n : ℕ) → IsApart (Seed n)
seed_apart n (OnSegment segment Lost) = refl
seed_apart n (OnSegment segment (Late ticks)) = refl
seed_apart n (OnSegment segment (Again ticks)) = refl
seed_apart n (OnSegment segment Stripped) = refl
seed_apart n (OnSegment segment Altered) = refl
seed_apart n (OnDirection d (Rate most queue)) = refl
seed_apart n (OnDirection d (Loss parts)) = refl
seed_apart n (OnDirection d (Jitter ticks)) = refl
seed_apart n event = refl

checksum_apart : (on : Bool) → IsApart (Checksum on)
checksum_apart on (OnSegment segment Lost) = refl
checksum_apart on (OnSegment segment (Late ticks)) = refl
checksum_apart on (OnSegment segment (Again ticks)) = refl
checksum_apart on (OnSegment segment Stripped) = refl
checksum_apart on (OnSegment segment Altered) = refl
checksum_apart on (OnDirection d (Rate most queue)) = refl
checksum_apart on (OnDirection d (Loss parts)) = refl
checksum_apart on (OnDirection d (Jitter ticks)) = refl
checksum_apart on event = refl

short_apart : (on : Bool) → IsApart (Short on)
short_apart on (OnSegment segment Lost) = refl
short_apart on (OnSegment segment (Late ticks)) = refl
short_apart on (OnSegment segment (Again ticks)) = refl
short_apart on (OnSegment segment Stripped) = refl
short_apart on (OnSegment segment Altered) = refl
short_apart on (OnDirection d (Rate most queue)) = refl
short_apart on (OnDirection d (Loss parts)) = refl
short_apart on (OnDirection d (Jitter ticks)) = refl
short_apart on event = refl

buffer_apart : (octets : ℕ) → IsApart (Buffer octets)
buffer_apart octets (OnSegment segment Lost) = refl
buffer_apart octets (OnSegment segment (Late ticks)) = refl
buffer_apart octets (OnSegment segment (Again ticks)) = refl
buffer_apart octets (OnSegment segment Stripped) = refl
buffer_apart octets (OnSegment segment Altered) = refl
buffer_apart octets (OnDirection d (Rate most queue)) = refl
buffer_apart octets (OnDirection d (Loss parts)) = refl
buffer_apart octets (OnDirection d (Jitter ticks)) = refl
buffer_apart octets event = refl

either_before : (b : Bool) (line : Line) → Before (line ∷ []) 0 → Before (cond b [] (line ∷ [])) 0
either_before true line h = none_before
either_before false line h = h

pub before_header : (version : Version) → Before (Header version ∷ []) 0
before_header version = one_before (Header version) 0 refl refl (λ event. refl)

pub before_seed : (n : ℕ) → Before (seed_lines n) 0
before_seed n = either_before (eqb n 1) (Seed n) (one_before (Seed n) 0 refl refl (seed_apart n))

pub before_checksum : (on : Bool) → Before (checksum_lines on) 0
before_checksum true = one_before (Checksum true) 0 refl refl (checksum_apart true)
before_checksum false = none_before

pub before_short : (on : Bool) → Before (short_lines on) 0
before_short true = one_before (Short true) 0 refl refl (short_apart true)
before_short false = none_before

pub before_buffer : (octets : ℕ) → Before (buffer_lines octets) 0
before_buffer octets = either_before (eqb octets 65536) (Buffer octets) (one_before (Buffer octets) 0 refl refl (buffer_apart octets))

-- the settings behind the first line
abbrev settings : Bool → Bool → Bool → Bool → ℕ → ℕ → List Line
settings a b c d n octets = cond a [] (Seed n ∷ []) ++ (cond b (Checksum true ∷ []) [] ++ (cond c (Short true ∷ []) [] ++ cond d [] (Buffer octets ∷ [])))

settings_placed : (version : Version) (a b c d : Bool) (n octets : ℕ) → Placed (Header version ∷ []) (settings a b c d n octets)
settings_placed version true true true true n octets = (refl, (refl, tt))
settings_placed version true true true false n octets = (refl, (refl, (refl, tt)))
settings_placed version true true false true n octets = (refl, tt)
settings_placed version true true false false n octets = (refl, (refl, tt))
settings_placed version true false true true n octets = (refl, tt)
settings_placed version true false true false n octets = (refl, (refl, tt))
settings_placed version true false false true n octets = tt
settings_placed version true false false false n octets = (refl, tt)
settings_placed version false true true true n octets = (refl, (refl, (refl, tt)))
settings_placed version false true true false n octets = (refl, (refl, (refl, (refl, tt))))
settings_placed version false true false true n octets = (refl, (refl, tt))
settings_placed version false true false false n octets = (refl, (refl, (refl, tt)))
settings_placed version false false true true n octets = (refl, (refl, tt))
settings_placed version false false true false n octets = (refl, (refl, (refl, tt)))
settings_placed version false false false true n octets = (refl, tt)
settings_placed version false false false false n octets = (refl, (refl, tt))

pub all_settings : Script → List Line
all_settings script = seed_lines script.seed ++ (checksum_lines script.checksum ++ (short_lines script.short ++ buffer_lines script.buffer))

pub placed_settings : (version : Version) (script : Script) → Placed (Header version ∷ []) (all_settings script)
unfolding all_settings
placed_settings version script = settings_placed version (eqb script.seed 1) script.checksum script.short (eqb script.buffer 65536) script.seed script.buffer

-- ---- paths

-- a line that settles nothing was not settled before
not_same : (subject : Option Subject) → are_same subject None ≡ false
not_same (Some s) = refl
not_same None = refl

not_repeated : (seen : List Line) (line : Line) → settled_by line ≡ None → is_repeated seen line ≡ false
not_repeated [] line h = refl
not_repeated (first ∷ seen) line h =
    or_from _ _ (ap (are_same (settled_by first)) h ∙ not_same (settled_by first)) (not_repeated seen line h)

pub before_paths : (index : ℕ) (paths : List PathLine) → Before (path_lines index paths) (length paths)
before_paths index [] = none_before
before_paths index (path ∷ paths) =
    before_append (Path index path ∷ []) (path_lines (suc index) paths) 1 (length paths) (suc (length paths)) (one_before (Path index path) 1 refl refl (λ event. refl)) (before_paths (suc index) paths) (omega arith)

pub placed_paths : (index : ℕ) (paths : List PathLine) (seen : List Line) → Before seen index → Placed seen (path_lines index paths)
placed_paths index [] seen h = tt
placed_paths index (path ∷ paths) seen h =
    let next : not (eqb index (count_by is_path seen)) ≡ false = not_from_true _ (eq-eqb index (count_by is_path seen) (sym h.count)) in
    let more = before_append seen (Path index path ∷ []) index 1 (suc index) h (one_before (Path index path) 1 refl refl (λ event. refl)) (omega arith) in
    (placed seen (Path index path) (or_from _ _ h.goes next) (not_repeated seen (Path index path) refl), placed_paths (suc index) paths (seen ++ Path index path ∷ []) more)

-- ---- events

there : (paths : ℕ) (event : ScriptLine) → 0 < paths → IsEvent paths event → lacks paths (path_named event) ≡ false
there paths (OnSegment segment happens) some h = lt-leb paths segment.path h.0
there paths (OnDirection d impairment) some h = lt-leb paths d.path h.0
there paths (StripAll path from tick) some h = lt-leb paths path h.0
there paths (Die path tick) some h = lt-leb paths path h.0
there paths (Prio path side tick on) some h = lt-leb paths path h.0
there paths _ some h = ne_eqb paths 0 (λ z. omega arith)

-- what stands before an event
record Ready (seen : List Line) (paths : ℕ) (events : List ScriptLine) : Type 0 where
  goes : list_any is_end seen ≡ false
  count : count_by is_path seen ≡ paths
  new : AllByRecursion (λ event. is_repeated seen (Event event) ≡ false) events

-- each event is apart from those behind it
abbrev AreApart : List ScriptLine → Type 0
AreApart [] = Unit {0}
AreApart (event ∷ events) = AllByRecursion (SettleApart event) events × AreApart events

still_new : (seen : List Line) (event : ScriptLine) (events : List ScriptLine) → AllByRecursion (λ r. is_repeated seen (Event r) ≡ false) events → AllByRecursion (SettleApart event) events
    → AllByRecursion (λ r. is_repeated (seen ++ Event event ∷ []) (Event r) ≡ false) events
still_new seen event [] h apart = tt
still_new seen event (r ∷ events) h apart =
    (list_any-append (λ l. settle_one l (Event r)) seen (Event event ∷ []) ∙ or_from _ _ h.0 (or_from _ _ apart.0 refl), still_new seen event events h.1 apart.1)

placed_events : (paths : ℕ) (events : List ScriptLine) (seen : List Line) → 0 < paths → AllByRecursion (IsEvent paths) events → AreApart events → Ready seen paths events → Placed seen (event_lines events)
placed_events paths [] seen some fit apart h = tt
placed_events paths (event ∷ events) seen some fit apart h =
    let here : lacks (count_by is_path seen) (path_named event) ≡ false = ap (λ (n : ℕ). lacks n (path_named event)) h.count ∙ there paths event some fit.0 in
    let more : Ready (seen ++ Event event ∷ []) paths events = record {
      goes = list_any-append is_end seen (Event event ∷ []) ∙ or_from _ _ h.goes refl;
      count = omega (arith, sum_by-append (λ l. cond (is_path l) 1 0) seen (Event event ∷ []), h.count);
      new = still_new seen event events h.new.1 apart.0;
    } in
    (placed seen (Event event) (or_from _ _ h.goes here) h.new.0, placed_events paths events (seen ++ Event event ∷ []) some fit.1 apart.1 more)

all_new : (seen : List Line) (events : List ScriptLine) → ((event : ScriptLine) → is_repeated seen (Event event) ≡ false) → AllByRecursion (λ event. is_repeated seen (Event event) ≡ false) events
all_new seen [] h = tt
all_new seen (event ∷ events) h = (h event, all_new seen events h)

all_apart : (events : List ScriptLine) → AllPairs SettleApart events → AreApart events
all_apart [] h = tt
all_apart (event ∷ events) h =
    (recursion_from_All (SettleApart event) events (λ k d lt. h 0 (suc k) d (omega arith) (omega arith)), all_apart events (λ i j d lt l. h (suc i) (suc j) d (omega arith) (omega arith)))

events_go : (events : List ScriptLine) → list_any is_end (event_lines events) ≡ false
events_go [] = refl
events_go (event ∷ events) = or_from _ _ refl (events_go events)

events_count : (events : List ScriptLine) → count_by is_path (event_lines events) ≡ 0
events_count [] = refl
events_count (event ∷ events) = omega (arith, sum_by-append (λ l. cond (is_path l) 1 0) (Event event ∷ []) (event_lines events), events_count events)

-- ---- all

-- the lines behind the first
abbrev pub later_lines : Script → List Line
later_lines script = seed_lines script.seed ++ (checksum_lines script.checksum ++ (short_lines script.short ++ (buffer_lines script.buffer ++ (path_lines 0 script.paths ++ (event_lines script.lines ++ End ∷ [])))))

settings_first : (script : Script) (lines : List Line) → seed_lines script.seed ++ (checksum_lines script.checksum ++ (short_lines script.short ++ (buffer_lines script.buffer ++ lines))) ≡ all_settings script ++ lines
unfolding all_settings
settings_first script lines = sym (simp append_assoc)

before_settings : (version : Version) (script : Script) → Before ((Header version ∷ []) ++ all_settings script) 0
unfolding all_settings
before_settings version script =
    before_append (Header version ∷ []) (all_settings script) 0 0 0 (before_header version)
    (before_append (seed_lines script.seed) (checksum_lines script.checksum ++ (short_lines script.short ++ buffer_lines script.buffer)) 0 0 0 (before_seed script.seed)
    (before_append (checksum_lines script.checksum) (short_lines script.short ++ buffer_lines script.buffer) 0 0 0 (before_checksum script.checksum)
    (before_append (short_lines script.short) (buffer_lines script.buffer) 0 0 0 (before_short script.short) (before_buffer script.buffer) refl) refl) refl) refl

end_placed : (seen : List Line) (paths : ℕ) (events : List ScriptLine) → 0 < paths → list_any is_end seen ≡ false → count_by is_path seen ≡ paths → Placed (seen ++ event_lines events) (End ∷ [])
end_placed seen paths events some goes count =
    let all = seen ++ event_lines events in
    let none : count_by is_path all ≡ paths = omega (arith, sum_by-append (λ l. cond (is_path l) 1 0) seen (event_lines events), count, events_count events) in
    let open_still : list_any is_end all ≡ false = list_any-append is_end seen (event_lines events) ∙ or_from _ _ goes (events_go events) in
    let here : eqb (count_by is_path all) 0 ≡ false = ne_eqb (count_by is_path all) 0 (λ z. omega arith) in
    (placed all End (or_from _ _ open_still here) (not_repeated all End refl), tt)

pub placed_all : (version : Version) (script : Script) → HasRanges script → Placed (Header version ∷ []) (later_lines script)
placed_all version script h =
    let s = all_settings script in
    let p = path_lines 0 script.paths in
    let r = event_lines script.lines in
    let n = length script.paths in
    let first = before_settings version script in
    let second = before_append ((Header version ∷ []) ++ s) p 0 n n first (before_paths 0 script.paths) (omega arith) in
    let seen : List Line = ((Header version ∷ []) ++ s) ++ p in
    let ready : Ready seen n script.lines = record { goes = second.goes; count = second.count; new = all_new seen script.lines second.apart } in
    let events = placed_events n script.lines seen h.some_path (recursion_from_All (IsEvent n) script.lines h.lines) (all_apart script.lines h.apart) ready in
    let end = end_placed seen n script.lines h.some_path second.goes second.count in
    subst (Placed (Header version ∷ [])) (sym (settings_first script (p ++ (r ++ End ∷ []))))
    (placed_append (Header version ∷ []) s (p ++ (r ++ End ∷ [])) (placed_settings version script)
    (placed_append ((Header version ∷ []) ++ s) p (r ++ End ∷ []) (placed_paths 0 script.paths ((Header version ∷ []) ++ s) first)
    (placed_append seen r (End ∷ []) events end)))
