-- A script of which no line begins with `alter` alters no payload.
use Rattle.std.proofs.Common.{◌≡◌, refl, sym, ◌∙◌, subst, ℕ, suc, ◌+◌, Bool, true, false, ◌||◌, cond, List, [], ◌∷◌, ◌++◌, Option, Some, None, Result, Ok, Err}
use Rattle.std.specs.Prelude.{IfOk, codes, nat_lt, if◌then◌else◌}
use Rattle.std.specs.List.{find, list_any, position_from}
use Rattle.std.specs.Option.{ok_or}
use Rattle.std.specs.Str.{bytes_eq}
use Rattle.std.proofs.lemmas.Bool.{both_ways, or_from, or_parts}
use Rattle.std.proofs.lemmas.List.Folds.{list_any-append}
use Rattle.std.proofs.lemmas.List.Sums.{fold-append}
use Rattle.std.proofs.lemmas.Result.{IfOk-at_ok}
use Rattle.std.proofs.lemmas.Slice.Eq.{bytes_eq-Decides}
use Rattle.octet_text.specs.Lines.{text_lines}
use Rattle.link_script.specs.declared.fault.ScriptFault.{ScriptFault}
use Rattle.link_script.specs.declared.fault.ScriptFault.TheVariants as fault
use Rattle.link_script.specs.declared.fault.ScriptKind.{ScriptKind}
use Rattle.link_script.specs.declared.fault.ScriptKind.TheVariants as kind
use Rattle.link_script.specs.declared.line.Line.{Line}
use Rattle.link_script.specs.declared.line.Line.TheVariants as line
use Rattle.link_script.specs.declared.script.Happens.{Happens}
use Rattle.link_script.specs.declared.script.Happens.TheVariants.{Lost, Late, Again, Stripped}
use Rattle.link_script.specs.declared.script.Script.{Script}
use Rattle.link_script.specs.declared.script.ScriptLine.TheVariants.{OnSegment}
use Rattle.link_script.specs.declared.script.Segment.{Segment}
use Rattle.link_script.specs.declared.version.Version.{Version}
use Rattle.link_script.specs.declared.version.Version.TheVariants as version
use Rattle.link_script.specs.declared.word.Keyword.{Keyword}
use Rattle.link_script.specs.declared.word.Keyword.TheVariants as first
use Rattle.link_script.specs.Lines.{seed_line, checksum_line, short_line, buffer_line, path_options, may_have, path_of, path_line, segment, ticks_word, with_ticks, on_segment_line, direction_of, rate_line, loss_line, jitter_line, strip_all_line, die_line, prio_line, add_line, remove_line, fast_close_line, end_line, line_after, line_of}
use Rattle.link_script.specs.Numbers.{within}
use Rattle.link_script.specs.Places.{is_end, is_out_of_order, is_repeated}
use Rattle.link_script.specs.Ranges.{most_lines, seeds, buffers, path_numbers, segment_sizes, delays, latenesses, rates, queues, loss_parts, jitters, run_ticks, address_ids}
use Rattle.link_script.specs.Reading.{in_place, version_told, later_line, next_line, at_line, seen_after, read_on, blank, with_line, script_of, reading}
use Rattle.link_script.specs.Steps.{◌>>=◌}
use Rattle.link_script.specs.Versions.{is_known}
use Rattle.link_script.specs.Words.{fixed, keyword, keyword_word, keywords, direction, side, switch, words_of, is_passed_over}
use Rattle.link_script.proofs.ReadRanges.{read_has_ranges}
use Rattle.connection_table.specs.Scripts.{LeavesPayload, first_alter, is_alter, is_alter_first, is_alter_line}

-- ---- a line by its words

-- a line by which no payload is altered
abbrev IsCalm : Line → Type 0
IsCalm (line.Event event) = is_alter event ≡ false
IsCalm _ = Unit {0}

-- what holds after a step
after : {A B : Type 0} (r : Result A ScriptKind) (f : A → Result B ScriptKind) (P : B → Type 0) → ((x : A) → IfOk (f x) P) → IfOk (r >>= f) P
after (Ok x) f P h = h x
after (Err e) f P h = tt

passed : {A : Type 0} (b : Bool) (r : Result A ScriptKind) (e : ScriptKind) (P : A → Type 0) → IfOk r P → IfOk (cond b r (Err e)) P
passed true r e P h = h
passed false r e P h = tt

seed_calm : (words : List (List ℕ)) → IfOk (seed_line words) IsCalm
unfolding seed_line
seed_calm [] = tt
seed_calm (a ∷ []) = after (within seeds a) _ IsCalm (λ x. tt)
seed_calm (a ∷ b ∷ words) = tt

checksum_calm : (words : List (List ℕ)) → IfOk (checksum_line words) IsCalm
unfolding checksum_line
checksum_calm [] = tt
checksum_calm (a ∷ []) = after (switch a) _ IsCalm (λ x. tt)
checksum_calm (a ∷ b ∷ words) = tt

short_calm : (words : List (List ℕ)) → IfOk (short_line words) IsCalm
unfolding short_line
short_calm [] = tt
short_calm (a ∷ []) = after (switch a) _ IsCalm (λ x. tt)
short_calm (a ∷ b ∷ words) = tt

buffer_calm : (words : List (List ℕ)) → IfOk (buffer_line words) IsCalm
unfolding buffer_line
buffer_calm [] = tt
buffer_calm (a ∷ []) = after (within buffers a) _ IsCalm (λ x. tt)
buffer_calm (a ∷ b ∷ words) = tt

on_segment_calm : (happens : Happens) → ((s : Segment) (t : ℕ) → is_alter (OnSegment s (with_ticks t happens)) ≡ false) → (words : List (List ℕ)) → IfOk (on_segment_line happens words) IsCalm
unfolding on_segment_line
on_segment_calm happens calm [] = tt
on_segment_calm happens calm (a ∷ []) = tt
on_segment_calm happens calm (a ∷ b ∷ []) = tt
on_segment_calm happens calm (a ∷ b ∷ c ∷ more) =
    after (direction b) _ IsCalm (λ d. after (ticks_word happens more) _ IsCalm (λ w. after (segment a d c) _ IsCalm (λ s. after (within latenesses w) _ IsCalm (λ t. calm s t))))

rate_calm : (words : List (List ℕ)) → IfOk (rate_line words) IsCalm
unfolding rate_line
rate_calm [] = tt
rate_calm (a ∷ []) = tt
rate_calm (a ∷ b ∷ []) = tt
rate_calm (a ∷ b ∷ c ∷ []) = tt
rate_calm (a ∷ b ∷ c ∷ d ∷ []) = after (direction_of a b) _ IsCalm (λ x. after (within rates c) _ IsCalm (λ x. after (within queues d) _ IsCalm (λ x. refl)))
rate_calm (a ∷ b ∷ c ∷ d ∷ e ∷ words) = tt

loss_calm : (words : List (List ℕ)) → IfOk (loss_line words) IsCalm
unfolding loss_line
loss_calm [] = tt
loss_calm (a ∷ []) = tt
loss_calm (a ∷ b ∷ []) = tt
loss_calm (a ∷ b ∷ c ∷ []) = after (direction_of a b) _ IsCalm (λ x. after (within loss_parts c) _ IsCalm (λ x. refl))
loss_calm (a ∷ b ∷ c ∷ d ∷ words) = tt

jitter_calm : (words : List (List ℕ)) → IfOk (jitter_line words) IsCalm
unfolding jitter_line
jitter_calm [] = tt
jitter_calm (a ∷ []) = tt
jitter_calm (a ∷ b ∷ []) = tt
jitter_calm (a ∷ b ∷ c ∷ []) = after (direction_of a b) _ IsCalm (λ x. after (within jitters c) _ IsCalm (λ x. refl))
jitter_calm (a ∷ b ∷ c ∷ d ∷ words) = tt

strip_all_calm : (words : List (List ℕ)) → IfOk (strip_all_line words) IsCalm
unfolding strip_all_line
strip_all_calm [] = tt
strip_all_calm (a ∷ []) = tt
strip_all_calm (a ∷ b ∷ []) = tt
strip_all_calm (a ∷ b ∷ c ∷ []) = after (direction b) _ IsCalm (λ x. after (within path_numbers a) _ IsCalm (λ x. after (within run_ticks c) _ IsCalm (λ x. refl)))
strip_all_calm (a ∷ b ∷ c ∷ d ∷ words) = tt

die_calm : (words : List (List ℕ)) → IfOk (die_line words) IsCalm
unfolding die_line
die_calm [] = tt
die_calm (a ∷ []) = tt
die_calm (a ∷ b ∷ []) = after (within path_numbers a) _ IsCalm (λ x. after (within run_ticks b) _ IsCalm (λ x. refl))
die_calm (a ∷ b ∷ c ∷ words) = tt

prio_calm : (words : List (List ℕ)) → IfOk (prio_line words) IsCalm
unfolding prio_line
prio_calm [] = tt
prio_calm (a ∷ []) = tt
prio_calm (a ∷ b ∷ []) = tt
prio_calm (a ∷ b ∷ c ∷ []) = tt
prio_calm (a ∷ b ∷ c ∷ d ∷ []) = after (side b) _ IsCalm (λ x. after (switch d) _ IsCalm (λ x. after (within path_numbers a) _ IsCalm (λ x. after (within run_ticks c) _ IsCalm (λ x. refl))))
prio_calm (a ∷ b ∷ c ∷ d ∷ e ∷ words) = tt

add_calm : (words : List (List ℕ)) → IfOk (add_line words) IsCalm
unfolding add_line
add_calm [] = tt
add_calm (a ∷ []) = tt
add_calm (a ∷ b ∷ []) = tt
add_calm (a ∷ b ∷ c ∷ []) = after (fixed (codes "b") a) _ IsCalm (λ x. after (within address_ids b) _ IsCalm (λ x. after (within run_ticks c) _ IsCalm (λ x. refl)))
add_calm (a ∷ b ∷ c ∷ d ∷ words) = tt

remove_calm : (words : List (List ℕ)) → IfOk (remove_line words) IsCalm
unfolding remove_line
remove_calm [] = tt
remove_calm (a ∷ []) = tt
remove_calm (a ∷ b ∷ []) = tt
remove_calm (a ∷ b ∷ c ∷ []) = after (side a) _ IsCalm (λ x. after (within address_ids b) _ IsCalm (λ x. after (within run_ticks c) _ IsCalm (λ x. refl)))
remove_calm (a ∷ b ∷ c ∷ d ∷ words) = tt

fast_close_calm : (words : List (List ℕ)) → IfOk (fast_close_line words) IsCalm
unfolding fast_close_line
fast_close_calm [] = tt
fast_close_calm (a ∷ []) = tt
fast_close_calm (a ∷ b ∷ []) = after (side a) _ IsCalm (λ x. after (within run_ticks b) _ IsCalm (λ x. refl))
fast_close_calm (a ∷ b ∷ c ∷ words) = tt

end_calm : (words : List (List ℕ)) → IfOk (end_line words) IsCalm
unfolding end_line
end_calm [] = tt
end_calm (a ∷ words) = tt

path_of_calm : (path mss delay join : List ℕ) (backup : Bool) → IfOk (path_of path mss delay join backup) IsCalm
unfolding path_of
path_of_calm path mss delay join backup =
    after (within path_numbers path) _ IsCalm (λ x. after (within segment_sizes mss) _ IsCalm (λ y. after (within delays delay) _ IsCalm (λ z.
    after (within run_ticks join) _ IsCalm (λ t. tt))))

path_calm : (words : List (List ℕ)) → IfOk (path_line words) IsCalm
unfolding path_line
path_calm [] = tt
path_calm (a ∷ []) = tt
path_calm (a ∷ b ∷ []) = tt
path_calm (a ∷ b ∷ c ∷ []) = tt
path_calm (a ∷ b ∷ c ∷ d ∷ []) = tt
path_calm (path ∷ b ∷ mss ∷ d ∷ delay ∷ options) =
    after (fixed (codes "mss") b) _ IsCalm (λ x. after (fixed (codes "delay") d) _ IsCalm (λ y. after (path_options options) _ IsCalm (λ option.
    passed (may_have path options) (path_of path mss delay option.0 option.1) kind.Word IsCalm (path_of_calm path mss delay option.0 option.1))))

abbrev is_alter_word : Keyword → Bool
is_alter_word first.Alter = true
is_alter_word _ = false

after_keyword : (which : Keyword) (words : List (List ℕ)) → is_alter_word which ≡ false → IfOk (line_after which words) IsCalm
after_keyword first.Alter words other = cc
after_keyword first.Seed words other = seed_calm words
after_keyword first.Checksum words other = checksum_calm words
after_keyword first.Short words other = short_calm words
after_keyword first.Buffer words other = buffer_calm words
after_keyword first.Path words other = path_calm words
after_keyword first.Drop words other = on_segment_calm Lost (λ s t. refl) words
after_keyword first.Strip words other = on_segment_calm Stripped (λ s t. refl) words
after_keyword first.Dup words other = on_segment_calm (Again 0) (λ s t. refl) words
after_keyword first.Late words other = on_segment_calm (Late 0) (λ s t. refl) words
after_keyword first.StripAll words other = strip_all_calm words
after_keyword first.Die words other = die_calm words
after_keyword first.Prio words other = prio_calm words
after_keyword first.Add words other = add_calm words
after_keyword first.Remove words other = remove_calm words
after_keyword first.FastClose words other = fast_close_calm words
after_keyword first.Rate words other = rate_calm words
after_keyword first.Loss words other = loss_calm words
after_keyword first.Jitter words other = jitter_calm words
after_keyword first.End words other = end_calm words

found : {X : Type 0} (test : X → Bool) (xs : List X) (x : X) → find test xs ≡ Some x → test x ≡ true
found test [] x is = cc
found {X} test (y ∷ xs) x is = by (test y) refl is (found test xs x)
  where
    by : (b : Bool) → test y ≡ b → cond b (Some y) (find test xs) ≡ Some x → (find test xs ≡ Some x → test x ≡ true) → test x ≡ true
    by true passes is next = let same : y ≡ x = cc in subst (λ z. test z ≡ true) same passes
    by false passes is next = next is

read_word : {X : Type 0} (o : Option X) (x : X) → ok_or o kind.Word ≡ Ok x → o ≡ Some x
read_word (Some y) x is = cc
read_word None x is = cc

-- the word `alter` alone is that keyword
other_word : (word : List ℕ) (which : Keyword) → bytes_eq word (codes "alter") ≡ false → keyword word ≡ Ok which → is_alter_word which ≡ false
unfolding keyword
other_word word first.Alter other is =
    let spelled = found (λ (choice : Keyword). bytes_eq (keyword_word choice) word) keywords first.Alter (read_word _ first.Alter is) in
    let same = (bytes_eq-Decides word (codes "alter")).1 (sym ((bytes_eq-Decides (codes "alter") word).0 spelled)) in
    absurd (both_ways (bytes_eq word (codes "alter")) other same)
other_word word first.Seed other is = refl
other_word word _ other is = refl

line_calm : (version : Version) (words : List (List ℕ)) → is_alter_first words ≡ false → IfOk (line_of version words) IsCalm
unfolding line_of
line_calm version [] other = tt
line_calm version (word ∷ words) other = by (keyword word) refl
  where
    by : (r : Result Keyword ScriptKind) → keyword word ≡ r → IfOk (r >>= λ which. if is_known version which then line_after which words else Err kind.Word) IsCalm
    by (Ok which) is = passed (is_known version which) (line_after which words) kind.Word IsCalm (after_keyword which words (other_word word which other is))
    by (Err e) is = tt

-- ---- line after line

abbrev IsCalmScript : Script → Type 0
IsCalmScript script = list_any is_alter script.lines ≡ false

calm_more : (script : Script) (l : Line) → IsCalmScript script → IsCalm l → IsCalmScript (with_line script l)
calm_more script (line.Header version) calm is = calm
calm_more script (line.Seed n) calm is = calm
calm_more script (line.Checksum on) calm is = calm
calm_more script (line.Short on) calm is = calm
calm_more script (line.Buffer octets) calm is = calm
calm_more script (line.Path index path) calm is = calm
calm_more script (line.Event event) calm is = list_any-append is_alter script.lines (event ∷ []) ∙ or_from _ _ calm (or_from _ _ is refl)
calm_more script line.End calm is = calm

abbrev AllCalm : List Line → Type 0
AllCalm lines = IsCalmScript (script_of lines)

calm_push : (seen : List Line) (l : Line) → AllCalm seen → IsCalm l → AllCalm (seen ++ l ∷ [])
calm_push seen l calm is = subst IsCalmScript (sym (fold-append with_line blank seen (l ∷ []))) (calm_more (script_of seen) l calm is)

placed_calm : (seen : List Line) (l : Line) → IsCalm l → IfOk (in_place seen l) IsCalm
placed_calm seen l is = by (is_out_of_order seen l) (is_repeated seen l)
  where
    by : (b c : Bool) → IfOk (cond b (Err kind.Order) (cond c (Err kind.Repeated) (Ok l))) IsCalm
    by true c = tt
    by false true = tt
    by false false = is

next_calm : (seen : List Line) (text : List ℕ) → is_alter_line text ≡ false → IfOk (next_line seen text) IsCalm
unfolding later_line
next_calm [] text other = by (bytes_eq text (codes "mptcp-script 1")) (bytes_eq text (codes "mptcp-script 2"))
  where
    by : (b c : Bool) → IfOk (cond b (Ok (line.Header version.First)) (cond c (Ok (line.Header version.Second)) (Err kind.Header))) IsCalm
    by true c = tt
    by false true = tt
    by false false = tt
next_calm (l ∷ seen) text other = by (line_of (version_told (l ∷ seen)) (words_of text)) (line_calm (version_told (l ∷ seen)) (words_of text) other)
  where
    by : (r : Result Line ScriptKind) → IfOk r IsCalm → IfOk (r >>= λ x. in_place (l ∷ seen) x) IsCalm
    by (Ok x) is = placed_calm (l ∷ seen) x is
    by (Err e) is = tt

step_calm : (number : ℕ) (seen : List Line) (text : List ℕ) → is_alter_line text ≡ false → AllCalm seen → IfOk (seen_after number seen text) AllCalm
unfolding seen_after
step_calm number seen text other calm = by (nat_lt most_lines number) (is_passed_over text) (next_line seen text) (next_calm seen text other)
  where
    by : (b c : Bool) (r : Result Line ScriptKind) → IfOk r IsCalm
        → IfOk (cond b (Err (fault.Line number kind.TooMany)) (cond c (Ok seen) (at_line number r >>= λ l. Ok (seen ++ l ∷ [])))) AllCalm
    by true c r is = tt
    by false true r is = calm
    by false false (Ok l) is = calm_push seen l calm is
    by false false (Err e) is = tt

all_calm : (texts : List (List ℕ)) (number : ℕ) (seen : List Line) → list_any is_alter_line texts ≡ false → AllCalm seen → IfOk (read_on number seen texts) AllCalm
unfolding read_on
all_calm [] number seen none calm = by (list_any is_end seen)
  where
    by : (b : Bool) → IfOk (cond b (Ok seen) (Err (fault.Line number kind.Missing))) AllCalm
    by true = calm
    by false = tt
all_calm (text ∷ texts) number seen none calm =
    let parts = or_parts (is_alter_line text) (list_any is_alter_line texts) none in
    by (seen_after number seen text) (step_calm number seen text parts.0 calm) (λ now is. all_calm texts (suc number) now parts.1 is)
  where
    by : (r : Result (List Line) ScriptFault) → IfOk r AllCalm → ((now : List Line) → AllCalm now → IfOk (read_on (suc number) now texts) AllCalm)
        → IfOk (r >>= λ now. read_on (suc number) now texts) AllCalm
    by (Ok now) is next = next now is
    by (Err e) is next = tt

-- ---- the whole text

none_passes : {X : Type 0} (test : X → Bool) (number : ℕ) (xs : List X) → position_from test number xs ≡ None → list_any test xs ≡ false
none_passes test number [] is = refl
none_passes {X} test number (x ∷ xs) is = by (test x) is (none_passes test (number + 1) xs)
  where
    by : (b : Bool) → cond b (Some number) (position_from test (number + 1) xs) ≡ None → (position_from test (number + 1) xs ≡ None → list_any test xs ≡ false)
        → (b || list_any test xs) ≡ false
    by true is next = cc
    by false is next = next is

text_calm : (text : List ℕ) → first_alter text ≡ None → IfOk (reading text) IsCalmScript
unfolding reading
text_calm text none = by (read_on 1 [] (text_lines text)) (all_calm (text_lines text) 1 [] (none_passes is_alter_line 1 (text_lines text) none) refl)
  where
    by : (r : Result (List Line) ScriptFault) → IfOk r AllCalm → IfOk (r >>= λ lines. Ok (script_of lines)) IsCalmScript
    by (Ok lines) is = is
    by (Err e) is = tt

-- what is read leaves payload as it is
pub none_leaves : (text : List ℕ) (script : Script) → first_alter text ≡ None → reading text ≡ Ok script → LeavesPayload script
none_leaves text script none is =
    record { ranges = read_has_ranges text script is; unaltered = IfOk-at_ok IsCalmScript is (text_calm text none) }
