-- The text of a script says that script.
use Rattle.std.proofs.Common.{◌≡◌, ℕ, suc, ◌+◌, ◌<◌, ◌≤◌, Bool, true, false, not, cond, eqb, List, [], ◌∷◌, ◌++◌, length, map, Result, Ok, refl, sym, ap, ◌∙◌, append_assoc, arith}
use Rattle.std.specs.Prelude.{nat_lt, fold, ◌==◌, ◌||◌}
use Rattle.std.specs.List.{list_any, flat_map, AllByRecursion}
use Rattle.std.proofs.lemmas.Bool.{le-ltb, eqb-true, not-true, or_right, false≢true}
use Rattle.std.proofs.lemmas.List.{append-nil}
use Rattle.std.proofs.lemmas.List.Elements.{recursion_from_All}
use Rattle.std.proofs.lemmas.List.Folds.{list_any-append}
use Rattle.std.proofs.lemmas.List.Sums.{fold-append}
use Rattle.octet_text.specs.Lines.{text_lines}
use Rattle.link_script.specs.declared.fault.ScriptFault.{ScriptFault}
use Rattle.link_script.specs.Ranges.{most_lines}
use Rattle.link_script.specs.declared.line.Line.{Line}
use Rattle.link_script.specs.declared.line.Line.TheVariants.{Header, Seed, Buffer, Event, End}
use Rattle.link_script.specs.declared.script.PathLine.{PathLine}
use Rattle.link_script.specs.declared.script.Script.{Script}
use Rattle.link_script.specs.declared.script.Impairment.TheVariants.{Rate, Loss, Jitter}
use Rattle.link_script.specs.declared.script.ScriptLine.{ScriptLine}
use Rattle.link_script.specs.declared.script.Happens.TheVariants.{Lost, Late, Again, Stripped, Altered}
use Rattle.link_script.specs.declared.script.ScriptLine.TheVariants.{OnSegment, OnDirection}
use Rattle.link_script.specs.declared.version.Version.{Version}
use Rattle.link_script.specs.declared.version.Version.TheVariants.{First, Second}
use Rattle.link_script.specs.Places.{is_end}
use Rattle.link_script.specs.Reading.{in_place, later_line, seen_after, read_on, blank, with_line, script_of, reading}
use Rattle.link_script.specs.Scripts.{IsPath, IsEvent, OpensPlainly, HasRanges}
use Rattle.link_script.specs.Versions.{has_rates, is_second, version_of}
use Rattle.link_script.specs.Words.{words_of, is_passed_over}
use Rattle.link_script.specs.Writing.{spaced, line_words, line_text, event_words, ended, seed_lines, checksum_lines, short_lines, buffer_lines, path_lines, event_lines, lines_of, text_of}
use Rattle.link_script.proofs.WrittenLines.{IsIn, line_again, plain_line}
use Rattle.link_script.proofs.ScriptRanges.{wider}
use Rattle.link_script.proofs.WrittenPlaces.{Placed, later_lines, placed_all}
use Rattle.link_script.proofs.LineRanges.{most_paths, IsLine}
use Rattle.link_script.proofs.WrittenWords.{ArePlain, lines_again, words_again}

-- ---- a written line among the lines of a text

-- words that begin with an octet other than '#'
abbrev begins : List (List ℕ) → Bool
begins [] = false
begins ([] ∷ words) = false
begins ((octet ∷ word) ∷ words) = not (octet == 35)

begins_event : (event : ScriptLine) → begins (event_words event) ≡ true
begins_event (OnSegment segment Lost) = refl
begins_event (OnSegment segment (Late ticks)) = refl
begins_event (OnSegment segment (Again ticks)) = refl
begins_event (OnSegment segment Stripped) = refl
begins_event (OnSegment segment Altered) = refl
begins_event (OnDirection d (Rate octets queue)) = refl
begins_event (OnDirection d (Loss parts)) = refl
begins_event (OnDirection d (Jitter ticks)) = refl
begins_event event = refl

begins_line : (line : Line) → begins (line_words line) ≡ true
begins_line (Header version) = refl
begins_line (Event event) = begins_event event
begins_line line = refl

not_passed_over : (words : List (List ℕ)) → begins words ≡ true → is_passed_over (spaced words) ≡ false
not_passed_over [] h = absurd cc
not_passed_over ([] ∷ words) h = absurd cc
not_passed_over ((octet ∷ word) ∷ []) h = not-true _ h
not_passed_over ((octet ∷ word) ∷ next ∷ words) h = not-true _ h

cut_words : (words : List (List ℕ)) → begins words ≡ true → ArePlain words → words_of (spaced words) ≡ words
cut_words [] h plain = absurd cc
cut_words (word ∷ words) h plain = words_again word words plain

-- a line that may be written behind the first
abbrev IsLater : Version → Line → Type 0
IsLater version line = IsLine line × IsIn version line

line_taken : (number : ℕ) (version : Version) (seen : List Line) (line : Line) → number ≤ most_lines → IsLater version line → in_place (Header version ∷ seen) line ≡ Ok line
    → seen_after number (Header version ∷ seen) (line_text line) ≡ Ok ((Header version ∷ seen) ++ line ∷ [])
unfolding seen_after later_line
line_taken number version seen line few h place =
    let counted : nat_lt most_lines number ≡ false = le-ltb most_lines number few in
    let shown = not_passed_over (line_words line) (begins_line line) in
    let cut = cut_words (line_words line) (begins_line line) (plain_line line h.0) in
    rw (counted, shown, cut, line_again version line h.0 h.1, place) refl

-- ---- all written lines

abbrev ok_lines : List Line → Result (List Line) ScriptFault
ok_lines lines = Ok lines

read_lines : (lines : List Line) (number : ℕ) (version : Version) (seen : List Line) → AllByRecursion (IsLater version) lines → Placed (Header version ∷ seen) lines → number + length lines ≤ most_lines + 1
    → list_any is_end (Header version ∷ (seen ++ lines)) ≡ true → read_on number (Header version ∷ seen) (map line_text lines) ≡ Ok (Header version ∷ (seen ++ lines))
unfolding read_on
read_lines [] number version seen h placed few ended =
    let same : Header version ∷ seen ≡ Header version ∷ (seen ++ []) = ap (λ (lines : List Line). Header version ∷ lines) (sym (append-nil seen)) in
    let last : list_any is_end (Header version ∷ seen) ≡ true = ap (list_any is_end) same ∙ ended in
    rw last (ap ok_lines same)
read_lines (line ∷ lines) number version seen h placed few ended =
    let taken = line_taken number version seen line (omega arith) h.0 placed.0 in
    let grouped : Header version ∷ ((seen ++ line ∷ []) ++ lines) ≡ Header version ∷ (seen ++ line ∷ lines) = ap (λ (lines : List Line). Header version ∷ lines) (append_assoc seen (line ∷ []) lines) in
    let more = read_lines lines (suc number) version (seen ++ line ∷ []) h.1 placed.1 (omega arith) (ap (list_any is_end) grouped ∙ ended) in
    rw taken (more ∙ ap ok_lines grouped)

-- ---- the written lines have their ranges

each_append : (P : Line → Type 0) (xs ys : List Line) → AllByRecursion P xs → AllByRecursion P ys → AllByRecursion P (xs ++ ys)
each_append P [] ys p q = q
each_append P (x ∷ xs) ys p q = (p.0, each_append P xs ys p.1 q)

either_line : (version : Version) (b : Bool) (line : Line) → IsLater version line → AllByRecursion (IsLater version) (cond b [] (line ∷ []))
either_line version true line h = tt
either_line version false line h = (h, tt)

short_later : (version : Version) (on : Bool) → AllByRecursion (IsLater version) (short_lines on)
short_later version true = ((tt, tt), tt)
short_later version false = tt

checksum_later : (version : Version) (on : Bool) → AllByRecursion (IsLater version) (checksum_lines on)
checksum_later version true = ((tt, tt), tt)
checksum_later version false = tt

-- paths behind path 0
paths_later : (version : Version) (index : ℕ) (paths : List PathLine) → 0 < index → index + length paths ≤ most_paths → AllByRecursion IsPath paths → AllByRecursion (IsLater version) (path_lines index paths)
paths_later version index [] some few h = tt
paths_later version index (path ∷ paths) some few h =
    (((omega arith, h.0, λ z. absurd (omega arith)), tt), paths_later version (suc index) paths (omega arith) (omega arith) h.1)

all_paths_later : (version : Version) (paths : List PathLine) → length paths ≤ most_paths → AllByRecursion IsPath paths → OpensPlainly paths → AllByRecursion (IsLater version) (path_lines 0 paths)
all_paths_later version [] few h plain = tt
all_paths_later version (path ∷ paths) few h plain =
    (((omega arith, h.0, λ z. plain), tt), paths_later version 1 paths (omega arith) (omega arith) h.1)

events_later : (version : Version) (paths : ℕ) (events : List ScriptLine) → paths ≤ most_paths → AllByRecursion (IsEvent paths) events
    → (list_any is_second events ≡ true → has_rates version ≡ true) → AllByRecursion (IsLater version) (event_lines events)
events_later version paths [] le h known = tt
events_later version paths (event ∷ events) le h known = (
  (wider paths most_paths event le h.0, λ second. known (ap (λ (b : Bool). b || list_any is_second events) second)),
  events_later version paths events le h.1 (λ more. known (or_right (is_second event) (list_any is_second events) more)),
)

-- the version of a script has all its lines
has_all : (b : Bool) → b ≡ true → has_rates (cond b Second First) ≡ true
has_all true e = refl
has_all false e = absurd (false≢true e)

all_later : (script : Script) → HasRanges script → AllByRecursion (IsLater (version_of script.lines)) (later_lines script)
all_later script h =
    let v = version_of script.lines in
    each_append (IsLater v) (seed_lines script.seed) _ (either_line v (eqb script.seed 1) (Seed script.seed) (h.seed, tt))
    (each_append (IsLater v) (checksum_lines script.checksum) _ (checksum_later v script.checksum)
    (each_append (IsLater v) (short_lines script.short) _ (short_later v script.short)
    (each_append (IsLater v) (buffer_lines script.buffer) _ (either_line v (eqb script.buffer 65536) (Buffer script.buffer) (h.buffer, tt))
    (each_append (IsLater v) (path_lines 0 script.paths) _ (all_paths_later v script.paths h.few_paths (recursion_from_All IsPath script.paths h.paths) h.first_path)
    (each_append (IsLater v) (event_lines script.lines) _ (events_later v (length script.paths) script.lines h.few_paths (recursion_from_All (IsEvent (length script.paths)) script.lines h.lines) (has_all (list_any is_second script.lines)))
    ((tt, tt), tt))))))

-- ---- what the lines say together

abbrev made : ℕ → Bool → Bool → ℕ → List PathLine → List ScriptLine → Script
made seed checksum short buffer paths lines = record { seed = seed; checksum = checksum; short = short; buffer = buffer; paths = paths; lines = lines }

seed_said : (n : ℕ) → fold with_line blank (seed_lines n) ≡ made n false false 65536 [] []
seed_said n = (elim (eqb n 1) as (λ b. eqb n 1 ≡ b → fold with_line blank (cond b [] (Seed n ∷ [])) ≡ made n false false 65536 [] [])
    [ true ↦ λ e. ap (λ (k : ℕ). made k false false 65536 [] []) (sym (eqb-true n 1 e)) | false ↦ λ e. refl ]) refl

checksum_said : (n : ℕ) (on : Bool) → fold with_line (made n false false 65536 [] []) (checksum_lines on) ≡ made n on false 65536 [] []
checksum_said n true = refl
checksum_said n false = refl

short_said : (n : ℕ) (on low : Bool) → fold with_line (made n on false 65536 [] []) (short_lines low) ≡ made n on low 65536 [] []
short_said n on true = refl
short_said n on false = refl

buffer_said : (n : ℕ) (on low : Bool) (octets : ℕ) → fold with_line (made n on low 65536 [] []) (buffer_lines octets) ≡ made n on low octets [] []
buffer_said n on low octets = (elim (eqb octets 65536) as (λ b. eqb octets 65536 ≡ b → fold with_line (made n on low 65536 [] []) (cond b [] (Buffer octets ∷ [])) ≡ made n on low octets [] [])
    [ true ↦ λ e. ap (λ (k : ℕ). made n on low k [] []) (sym (eqb-true octets 65536 e)) | false ↦ λ e. refl ]) refl

paths_said : (n : ℕ) (on low : Bool) (octets index : ℕ) (before paths : List PathLine) → fold with_line (made n on low octets before []) (path_lines index paths) ≡ made n on low octets (before ++ paths) []
paths_said n on low octets index before [] = ap (λ (paths : List PathLine). made n on low octets paths []) (sym (append-nil before))
paths_said n on low octets index before (path ∷ paths) =
    paths_said n on low octets (suc index) (before ++ path ∷ []) paths ∙ ap (λ (paths : List PathLine). made n on low octets paths []) (append_assoc before (path ∷ []) paths)

events_said : (n : ℕ) (on low : Bool) (octets : ℕ) (paths : List PathLine) (before events : List ScriptLine) → fold with_line (made n on low octets paths before) (event_lines events) ≡ made n on low octets paths (before ++ events)
events_said n on low octets paths before [] = ap (made n on low octets paths) (sym (append-nil before))
events_said n on low octets paths before (event ∷ events) =
    events_said n on low octets paths (before ++ event ∷ []) events ∙ ap (made n on low octets paths) (append_assoc before (event ∷ []) events)

said_again : (script : Script) → script_of (lines_of script) ≡ script
said_again script =
    let s = script in
    rw (fold-append with_line blank (seed_lines s.seed), seed_said s.seed, fold-append with_line _ (checksum_lines s.checksum), checksum_said s.seed s.checksum, fold-append with_line _ (short_lines s.short), short_said s.seed s.checksum s.short, fold-append with_line _ (buffer_lines s.buffer), buffer_said s.seed s.checksum s.short s.buffer, fold-append with_line _ (path_lines 0 s.paths), paths_said s.seed s.checksum s.short s.buffer 0 [] s.paths, fold-append with_line _ (event_lines s.lines), events_said s.seed s.checksum s.short s.buffer s.paths [] s.lines) refl

-- ---- the text

ends_last : (lines : List Line) → list_any is_end (lines ++ End ∷ []) ≡ true
ends_last lines = list_any-append is_end lines (End ∷ []) ∙ or_right (list_any is_end lines) true refl

script_ends : (script : Script) → list_any is_end (lines_of script) ≡ true
script_ends script =
    let front = Header (version_of script.lines) ∷ (seed_lines script.seed ++ (checksum_lines script.checksum ++ (short_lines script.short ++ (buffer_lines script.buffer ++ (path_lines 0 script.paths ++ event_lines script.lines))))) in
    let grouped : front ++ End ∷ [] ≡ lines_of script = simp append_assoc in
    ap (list_any is_end) (sym grouped) ∙ ends_last front

plain_lines : (version : Version) (lines : List Line) → AllByRecursion (IsLater version) lines → AllByRecursion (λ line. ArePlain (line_words line)) lines
plain_lines version [] h = tt
plain_lines version (line ∷ lines) h = (plain_line line h.0.0, plain_lines version lines h.1)

first_taken : (version : Version) (lines : List (List ℕ)) → read_on 1 [] (line_text (Header version) ∷ lines) ≡ read_on 2 (Header version ∷ []) lines
unfolding read_on seen_after
first_taken First lines = refl
first_taken Second lines = refl

pub text_again : (script : Script) → HasRanges script → reading (text_of script) ≡ Ok script
unfolding reading text_of
text_again script h =
    let v = version_of script.lines in
    let later = all_later script h in
    let cut : text_lines (flat_map ended (lines_of script)) ≡ line_text (Header v) ∷ map line_text (later_lines script) = lines_again (lines_of script) (plain_line (Header v) tt, plain_lines v (later_lines script) later) in
    let few : 2 + length (later_lines script) ≤ most_lines + 1 = omega (arith, h.few_lines) in
    let read = read_lines (later_lines script) 2 v [] later (placed_all v script h) few (script_ends script) in
    rw (cut, first_taken v (map line_text (later_lines script)), read) (ap (λ (s : Script). Ok s) (said_again script))
