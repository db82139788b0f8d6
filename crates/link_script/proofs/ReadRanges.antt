-- A text that is read has a script with its ranges.
use Rattle.std.proofs.Common.{◌≡◌, ℕ, suc, ◌+◌, ◌-◌, ◌<◌, ◌≤◌, Bool, true, false, ◌||◌, ◌⊎◌, cond, eqb, List, [], ◌∷◌, ◌++◌, length, Result, Ok, Err, refl, sym, ap, subst, ◌∙◌, arith, inl, inr}
use Rattle.std.specs.Prelude.{count_by, nat_lt, codes, IfOk}
use Rattle.std.specs.List.{list_any}
use Rattle.std.specs.Str.{bytes_eq}
use Rattle.std.proofs.lemmas.Bool.{or_parts, or_from, or_cases, both_ways, ltb-false, eqb-false, false≢true}
use Rattle.std.proofs.lemmas.List.{length-append, length-map, length_push}
use Rattle.std.proofs.lemmas.List.Folds.{list_any-append}
use Rattle.std.proofs.lemmas.List.Sums.{fold-append, sum_by-append}
use Rattle.octet_text.specs.Lines.{text_lines}
use Rattle.link_script.specs.declared.fault.ScriptFault.{ScriptFault}
use Rattle.link_script.specs.declared.fault.ScriptKind.{ScriptKind}
use Rattle.link_script.specs.Ranges.{most_lines}
use Rattle.link_script.specs.declared.line.Line.{Line}
use Rattle.link_script.specs.declared.line.Line.TheVariants.{Header, Seed, Checksum, Short, Buffer, Path, Event, End}
use Rattle.link_script.specs.declared.script.PathLine.{PathLine}
use Rattle.link_script.specs.declared.script.Script.{Script}
use Rattle.link_script.specs.declared.version.Version.{Version}
use Rattle.link_script.specs.declared.version.Version.TheVariants.{First, Second}
use Rattle.link_script.specs.Lines.{line_of}
use Rattle.link_script.specs.Places.{is_path, is_end, is_misplaced, is_out_of_order, settle_one, is_repeated}
use Rattle.link_script.specs.Reading.{Gives, first_line, in_place, version_told, later_line, next_line, at_line, seen_after, read_on, blank, with_line, script_of, reading}
use Rattle.link_script.specs.Scripts.{HasRanges}
use Rattle.link_script.specs.Steps.{◌>>=◌}
use Rattle.link_script.specs.Words.{words_of, is_passed_over}
use Rattle.link_script.specs.Writing.{seed_lines, checksum_lines, short_lines, buffer_lines, path_lines, event_lines, lines_of}
use Rattle.link_script.proofs.LineRanges.{IsLine, line_is}
use Rattle.link_script.proofs.ScriptRanges.{Kept, kept_blank, IsNew, kept_more}

-- ---- how many lines a script takes

pub length-path_lines : (index : ℕ) (paths : List PathLine) → length (path_lines index paths) ≡ length paths
length-path_lines index [] = refl
length-path_lines index (path ∷ paths) = ap suc (length-path_lines (suc index) paths)

-- the lines between the first and the last
abbrev pub size : Script → ℕ
size script = length (seed_lines script.seed) + length (checksum_lines script.checksum) + length (short_lines script.short) + length (buffer_lines script.buffer) + length script.paths + length script.lines

pub length-lines_of : (script : Script) → length (lines_of script) ≡ size script + 2
length-lines_of script =
    let s = seed_lines script.seed in
    let c = checksum_lines script.checksum in
    let t = short_lines script.short in
    let b = buffer_lines script.buffer in
    let p = path_lines 0 script.paths in
    let r = event_lines script.lines in
    let last : List Line = End ∷ [] in
    omega (arith, length-append s (c ++ (t ++ (b ++ (p ++ (r ++ last))))), length-append c (t ++ (b ++ (p ++ (r ++ last)))), length-append t (b ++ (p ++ (r ++ last))), length-append b (p ++ (r ++ last)), length-append p (r ++ last), length-append r last, length-path_lines 0 script.paths, length-map script.lines (λ event. Event event))

at_most_one : (b : Bool) (line : Line) → length (cond b [] (line ∷ [])) ≤ 1
at_most_one true line = omega arith
at_most_one false line = omega arith

at_most_one' : (b : Bool) (line : Line) → length (cond b (line ∷ []) []) ≤ 1
at_most_one' true line = omega arith
at_most_one' false line = omega arith

size-with_line : (script : Script) (line : Line) → size (with_line script line) ≤ size script + 1
size-with_line script (Header version) = omega arith
size-with_line script (Seed n) = omega (arith, at_most_one (eqb n 1) (Seed n))
size-with_line script (Checksum on) = omega (arith, at_most_one' on (Checksum true))
size-with_line script (Short on) = omega (arith, at_most_one' on (Short true))
size-with_line script (Buffer octets) = omega (arith, at_most_one (eqb octets 65536) (Buffer octets))
size-with_line script (Path index path) = omega (arith, length_push script.paths path)
size-with_line script (Event event) = omega (arith, length_push script.lines event)
size-with_line script End = omega arith

-- ---- what holds of the lines read so far, and of the script that they make

pub record Sound (number : ℕ) (seen : List Line) (script : Script) : Type 0 where
  pub kept : Kept script
  pub low : number ≤ most_lines + 1
  pub few : length seen < number
  pub count : count_by is_path seen ≡ length script.paths
  pub told : (line : Line) → is_repeated seen line ≡ false → IsNew script line
  pub room : size script ≤ length seen - 1
  pub closed : list_any is_end seen ≡ true → (0 < length script.paths) × (size script + 1 ≤ length seen - 1)

count_push : (seen : List Line) (line : Line) → count_by is_path (seen ++ line ∷ []) ≡ count_by is_path seen + cond (is_path line) 1 0
count_push seen line = omega (arith, sum_by-append (λ l. cond (is_path l) 1 0) seen (line ∷ []))

count_line : (script : Script) (line : Line) → length script.paths + cond (is_path line) 1 0 ≡ length (with_line script line).paths
count_line script (Path index path) = omega (arith, length_push script.paths path)
count_line script _ = omega arith

new_line : (script : Script) (line next : Line) → IsNew script next → settle_one line next ≡ false → IsNew (with_line script line) next
new_line script (Header version) next new apart = new
new_line script (Seed n) next new apart = new
new_line script (Checksum on) next new apart = new
new_line script (Short on) next new apart = new
new_line script (Buffer octets) next new apart = new
new_line script (Path index path) next new apart = new
new_line script (Event event) next new apart =
    list_any-append (λ r. settle_one (Event r) next) script.lines (event ∷ []) ∙ or_from _ _ new (or_from _ _ apart refl)
new_line script End next new apart = new

-- only `end` closes a script
closing : (script : Script) (line : Line) (n : ℕ) → is_misplaced (length script.paths) line ≡ false → is_end line ≡ true → size script + 1 ≤ n → (0 < length (with_line script line).paths) × (size (with_line script line) + 1 ≤ n)
closing script End n m e room = let some = eqb-false _ _ m in (omega arith, room)
closing script _ n m e room = absurd (false≢true e)

last_of : (seen : List Line) (line : Line) → list_any is_end seen ≡ false → list_any is_end (seen ++ line ∷ []) ≡ true → is_end line ≡ true
last_of seen line none e =
    let parts = or_cases (list_any is_end seen) (is_end line || false) (sym (list_any-append is_end seen (line ∷ [])) ∙ e) in
    elim parts [
      | inl before ↦ absurd (both_ways _ none before)
      | inr at ↦ elim (or_cases (is_end line) false at) [ inl it ↦ it | inr never ↦ absurd (false≢true never) ]
    ]

sound_more : (number : ℕ) (first : Line) (seen : List Line) (script : Script) (line : Line) → Sound number (first ∷ seen) script → number ≤ most_lines → IsLine line
    → is_out_of_order (first ∷ seen) line ≡ false → is_repeated (first ∷ seen) line ≡ false → Sound (suc number) ((first ∷ seen) ++ line ∷ []) (with_line script line)
sound_more number first seen script line h low fits order repeated =
    let all : List Line = first ∷ seen in
    let free = or_parts (list_any is_end all) (is_misplaced (count_by is_path all) line) order in
    let placed : is_misplaced (length script.paths) line ≡ false = ap (λ (n : ℕ). is_misplaced n line) (sym h.count) ∙ free.1 in
    let longer : length (all ++ line ∷ []) ≡ length all + 1 = length_push all line in
    record {
      kept = kept_more script line h.kept fits placed (h.told line repeated);
      low = omega arith;
      few = omega (arith, h.few);
      count = count_push all line ∙ ap (λ (n : ℕ). n + cond (is_path line) 1 0) h.count ∙ count_line script line;
      told = λ next new.
          let parts = or_parts _ _ (sym (list_any-append (λ l. settle_one l next) all (line ∷ [])) ∙ new) in
          new_line script line next (h.told next parts.0) (or_parts _ _ parts.1).0;
      room = omega (arith, size-with_line script line, h.room);
      closed = λ e. closing script line _ placed (last_of all line free.0 e) (omega (arith, h.room));
    }

-- ---- from line to line

-- the value of a step that didn't fail
bind_ok : {A B E : Type 0} (r : Result A E) (f : A → Result B E) (y : B) → (r >>= f) ≡ Ok y → (x : A) × (r ≡ Ok x) × (f x ≡ Ok y)
bind_ok (Ok x) f y e = (x, refl, e)
bind_ok (Err d) f y e = absurd cc

-- a test that didn't refuse
not_refused : {A E : Type 0} (b : Bool) (d : E) (r : Result A E) (y : A) → cond b (Err d) r ≡ Ok y → (b ≡ false) × (r ≡ Ok y)
not_refused true d r y e = absurd cc
not_refused false d r y e = (refl, e)

at_ok : {A : Type 0} (number : ℕ) (r : Result A ScriptKind) (x : A) → at_line number r ≡ Ok x → r ≡ Ok x
at_ok number (Ok y) x e = cc
at_ok number (Err k) x e = absurd cc

abbrev ok_line : Line → Result Line ScriptKind
ok_line line = Ok line

placed_ok : (seen : List Line) (line next : Line) → in_place seen line ≡ Ok next → (is_out_of_order seen line ≡ false) × (is_repeated seen line ≡ false) × (line ≡ next)
placed_ok seen line next e =
    let order = not_refused (is_out_of_order seen line) ScriptKind.Order (cond (is_repeated seen line) (Err ScriptKind.Repeated) (Ok line)) next e in
    let repeated = not_refused (is_repeated seen line) ScriptKind.Repeated (ok_line line) next order.1 in
    let same : ok_line line ≡ ok_line next = repeated.1 in
    (order.0, repeated.0, cc)

first_ok : (text : List ℕ) (line : Line) → first_line text ≡ Ok line → (version : Version) × (Header version ≡ line)
first_ok text line e = is_header (bytes_eq text (codes "mptcp-script 1")) (bytes_eq text (codes "mptcp-script 2")) e
  where
    is_header : (b c : Bool) → cond b (ok_line (Header First)) (cond c (ok_line (Header Second)) (Err ScriptKind.Header)) ≡ Ok line → (version : Version) × (Header version ≡ line)
    is_header true c h = (First, cc)
    is_header false true h = (Second, cc)
    is_header false false h = absurd cc

script_push : (seen : List Line) (line : Line) → script_of (seen ++ line ∷ []) ≡ with_line (script_of seen) line
script_push seen line = fold-append with_line blank seen (line ∷ [])

-- a line that is passed over
sound_over : (number : ℕ) (seen : List Line) (script : Script) → Sound number seen script → number ≤ most_lines → Sound (suc number) seen script
sound_over number seen script h low = record {
  kept = h.kept;
  low = omega arith;
  few = omega (arith, h.few);
  count = h.count;
  told = h.told;
  room = h.room;
  closed = h.closed;
}

sound_header : (number : ℕ) (version : Version) → Sound number [] blank → number ≤ most_lines → Sound (suc number) (Header version ∷ []) blank
sound_header number version h low = record {
  kept = kept_blank;
  low = omega arith;
  few = omega (arith, h.few);
  count = refl;
  told = λ line new. refl;
  room = omega arith;
  closed = λ e. absurd (false≢true e);
}

sound_next : (number : ℕ) (seen : List Line) (text : List ℕ) (line : Line) → Sound number seen (script_of seen) → number ≤ most_lines → next_line seen text ≡ Ok line → Sound (suc number) (seen ++ line ∷ []) (script_of (seen ++ line ∷ []))
unfolding later_line
sound_next number [] text line h low e =
    let first = first_ok text line e in
    subst (λ (l : Line). Sound (suc number) (l ∷ []) (script_of (l ∷ []))) first.1 (sound_header number first.0 h low)
sound_next number (first ∷ seen) text line h low e =
    let all : List Line = first ∷ seen in
    let read = bind_ok (line_of (version_told all) (words_of text)) (λ l. in_place all l) line e in
    let placed = placed_ok all read.0 line read.2 in
    let more = sound_more number first seen (script_of all) read.0 h low (line_is (version_told all) (words_of text) read.0 read.1) placed.0 placed.1 in
    subst (λ (l : Line). Sound (suc number) (all ++ l ∷ []) (script_of (all ++ l ∷ []))) placed.2 (rw script_push more)

abbrev ok_lines : List Line → Result (List Line) ScriptFault
ok_lines lines = Ok lines

over_or_read : (b : Bool) (seen now : List Line) (r : Result (List Line) ScriptFault) → cond b (Ok seen) r ≡ Ok now → (seen ≡ now) ⊎ (r ≡ Ok now)
over_or_read true seen now r e = let same : ok_lines seen ≡ ok_lines now = e in inl cc
over_or_read false seen now r e = inr e

sound_step : (number : ℕ) (seen : List Line) (text : List ℕ) (now : List Line) → Sound number seen (script_of seen) → seen_after number seen text ≡ Ok now → Sound (suc number) now (script_of now)
unfolding seen_after
sound_step number seen text now h e =
    let few = not_refused (nat_lt most_lines number) (ScriptFault.Line number ScriptKind.TooMany) _ now e in
    let low = ltb-false most_lines number few.0 in
    let P : List Line → Type 0 = λ lines. Sound (suc number) lines (script_of lines) in
    elim (over_or_read (is_passed_over text) seen now _ few.1) [
      | inl same ↦ subst P same (sound_over number seen (script_of seen) h low)
      | inr read ↦
          let one = bind_ok (at_line number (next_line seen text)) (λ line. ok_lines (seen ++ line ∷ [])) now read in
          let same : ok_lines (seen ++ one.0 ∷ []) ≡ ok_lines now = one.2 in
          subst P (cc) (sound_next number seen text one.0 h low (at_ok number (next_line seen text) one.0 one.1))
    ]

sound_end : (number : ℕ) (seen all : List Line) → Sound number seen (script_of seen) → read_on number seen [] ≡ Ok all → (m : ℕ) × Sound m all (script_of all) × (list_any is_end all ≡ true)
unfolding read_on
sound_end number seen all h e = whole (list_any is_end seen) refl e
  where
    whole : (b : Bool) → list_any is_end seen ≡ b → cond b (ok_lines seen) (Err (ScriptFault.Line number ScriptKind.Missing)) ≡ Ok all → (m : ℕ) × Sound m all (script_of all) × (list_any is_end all ≡ true)
    whole true at same = let one : ok_lines seen ≡ ok_lines all = same in subst (λ (lines : List Line). (m : ℕ) × Sound m lines (script_of lines) × (list_any is_end lines ≡ true)) (cc) (number, h, at)
    whole false at same = absurd cc

sound_all : (texts : List (List ℕ)) (number : ℕ) (seen all : List Line) → Sound number seen (script_of seen) → read_on number seen texts ≡ Ok all → (m : ℕ) × Sound m all (script_of all) × (list_any is_end all ≡ true)
unfolding read_on
sound_all [] number seen all h e = sound_end number seen all h e
sound_all (text ∷ texts) number seen all h e =
    let one = bind_ok (seen_after number seen text) (λ now. read_on (suc number) now texts) all e in
    sound_all texts (suc number) one.0 all (sound_step number seen text one.0 h one.1) one.2

sound_none : Sound 1 [] blank
sound_none = record {
  kept = kept_blank;
  low = omega arith;
  few = omega arith;
  count = refl;
  told = λ line new. refl;
  room = omega arith;
  closed = λ e. absurd (false≢true e);
}

ranges_of : (number : ℕ) (all : List Line) (script : Script) → Sound number all script → list_any is_end all ≡ true → HasRanges script
ranges_of number all script h ended =
    let end = h.closed ended in
    record {
      seed = h.kept.seed;
      buffer = h.kept.buffer;
      some_path = end.0;
      few_paths = h.kept.paths.few;
      paths = h.kept.paths.ranges;
      first_path = h.kept.paths.first;
      lines = h.kept.events.ranges;
      apart = h.kept.events.apart;
      few_lines = omega (arith, length-lines_of script, end.1, h.few, h.low);
    }

abbrev ok_script : Script → Result Script ScriptFault
ok_script script = Ok script

-- what a text says has its ranges
pub read_has_ranges : (text : List ℕ) (script : Script) → reading text ≡ Ok script → HasRanges script
unfolding reading
read_has_ranges text script e =
    let one = bind_ok (read_on 1 [] (text_lines text)) (λ lines. ok_script (script_of lines)) script e in
    let all = sound_all (text_lines text) 1 [] one.0 sound_none one.1 in
    let same : ok_script (script_of one.0) ≡ ok_script script = one.2 in
    subst HasRanges (cc) (ranges_of all.0 one.0 (script_of one.0) all.1 all.2)

pub is_read : (text : List ℕ) (r : Result Script ScriptFault) → Gives (λ script. script) r (reading text) → IfOk r HasRanges
is_read text (Ok script) h = read_has_ranges text script h
is_read text (Err fault) h = tt
