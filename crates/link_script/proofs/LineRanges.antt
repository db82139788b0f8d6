-- What a line says has its ranges.
use Rattle.std.proofs.Common.{◌≡◌, ℕ, ◌+◌, ◌<◌, Bool, true, false, ◌&&◌, cond, List, [], ◌∷◌, Result, Ok, Err, refl, sym, ap, ◌∙◌, arith}
use Rattle.std.specs.Prelude.{IfOk, nat_le, is_ok, codes}
use Rattle.std.specs.Str.Parse.{digits_value}
use Rattle.std.proofs.lemmas.Bool.{and_parts, leb-true, not-true, both_ways}
use Rattle.std.proofs.lemmas.Result.{IfOk-at_ok}
use Rattle.sides.specs.declared.side.Side.{Side}
use Rattle.link_script.specs.declared.fault.ScriptKind.{ScriptKind}
use Rattle.link_script.specs.declared.fault.ScriptKind.TheVariants.{Word, Number}
use Rattle.link_script.specs.declared.limits.Limits.{Limits}
use Rattle.link_script.specs.Ranges.{seeds, buffers, path_numbers, first_path_number, segment_sizes, delays, segment_numbers, latenesses, rates, queues, loss_parts, jitters, run_ticks, address_ids}
use Rattle.link_script.specs.declared.line.Line.{Line}
use Rattle.link_script.specs.declared.script.Direction.{Direction}
use Rattle.link_script.specs.declared.script.Happens.{Happens}
use Rattle.link_script.specs.declared.script.Happens.TheVariants.{Lost, Late, Again, Stripped, Altered}
use Rattle.link_script.specs.declared.script.Segment.{Segment}
use Rattle.link_script.specs.declared.version.Version.{Version}
use Rattle.link_script.specs.declared.word.Keyword.{Keyword}
use Rattle.link_script.specs.Lines.{seed_line, checksum_line, short_line, buffer_line, path_options, may_have, path_of, path_line, segment, ticks_word, with_ticks, on_segment_line, direction_of, rate_line, loss_line, jitter_line, strip_all_line, die_line, prio_line, add_line, remove_line, fast_close_line, end_line, line_after, line_of}
use Rattle.link_script.specs.Numbers.{is_numeral, is_within, within}
use Rattle.link_script.specs.Scripts.{IsInRange, IsPath, IsHappening, IsEvent}
use Rattle.link_script.specs.Steps.{◌>>=◌}
use Rattle.link_script.specs.Versions.{is_known}
use Rattle.link_script.specs.Words.{fixed, keyword, direction, side, switch}

-- how many paths a script has at most
abbrev pub most_paths : ℕ
most_paths = path_numbers.most + 1

-- a line by itself
abbrev pub IsLine : Line → Type 0
IsLine (Line.Header version) = Unit {0}
IsLine (Line.Seed n) = IsInRange seeds n
IsLine (Line.Checksum on) = Unit {0}
IsLine (Line.Short on) = Unit {0}
IsLine (Line.Buffer octets) = IsInRange buffers octets
IsLine (Line.Path index path) = (index < most_paths) × IsPath path × (index ≡ 0 → (path.join ≡ 0) × (path.backup ≡ false))
IsLine (Line.Event event) = IsEvent most_paths event
IsLine Line.End = Unit {0}

abbrev Holds : {A : Type 0} → Result A ScriptKind → (A → Type 0) → Type 0
Holds r P = IfOk r P

-- what holds after a step
after : {A B : Type 0} (r : Result A ScriptKind) (f : A → Result B ScriptKind) (P : B → Type 0) → ((x : A) → r ≡ Ok x → Holds (f x) P) → Holds (r >>= f) P
after (Ok x) f P h = h x refl
after (Err e) f P h = tt

-- what holds after a test
passed : {A : Type 0} (b : Bool) (r : Result A ScriptKind) (e : ScriptKind) (P : A → Type 0) → (b ≡ true → Holds r P) → Holds (cond b r (Err e)) P
passed true r e P h = h refl
passed false r e P h = tt

-- ---- numbers

value_within : (limits : Limits) (word : List ℕ) → Holds (within limits word) (λ n. (is_numeral word ≡ true) × (digits_value 10 word ≡ n) × IsInRange limits n)
unfolding within
value_within limits word =
    let n = digits_value 10 word in
    passed (is_numeral word && is_within limits n) (Ok n) Number _ (λ e.
    let whole = and_parts (is_numeral word) (is_within limits n) e in
    let ends = and_parts (nat_le limits.least n) (nat_le n limits.most) whole.1 in
    (whole.0, refl, record { least = leb-true limits.least n ends.0; most = leb-true n limits.most ends.1 }))

in_limits : (limits : Limits) (word : List ℕ) (n : ℕ) → within limits word ≡ Ok n → IsInRange limits n
in_limits limits word n e = (IfOk-at_ok (λ n. (is_numeral word ≡ true) × (digits_value 10 word ≡ n) × IsInRange limits n) e (value_within limits word)).2

path_below : (word : List ℕ) (n : ℕ) → within path_numbers word ≡ Ok n → n < most_paths
path_below word n e = let w = in_limits path_numbers word n e in omega (arith, w.most)

-- ---- settings

seed_holds : (words : List (List ℕ)) → Holds (seed_line words) IsLine
unfolding seed_line
seed_holds [] = tt
seed_holds (n ∷ []) = after (within seeds n) _ _ (λ x e. in_limits seeds n x e)
seed_holds (n ∷ m ∷ words) = tt

checksum_holds : (words : List (List ℕ)) → Holds (checksum_line words) IsLine
unfolding checksum_line
checksum_holds [] = tt
checksum_holds (on ∷ []) = after (switch on) _ _ (λ x e. tt)
checksum_holds (on ∷ m ∷ words) = tt

short_holds : (words : List (List ℕ)) → Holds (short_line words) IsLine
unfolding short_line
short_holds [] = tt
short_holds (on ∷ []) = after (switch on) _ _ (λ x e. tt)
short_holds (on ∷ m ∷ words) = tt

buffer_holds : (words : List (List ℕ)) → Holds (buffer_line words) IsLine
unfolding buffer_line
buffer_holds [] = tt
buffer_holds (n ∷ []) = after (within buffers n) _ _ (λ x e. in_limits buffers n x e)
buffer_holds (n ∷ m ∷ words) = tt

end_holds : (words : List (List ℕ)) → Holds (end_line words) IsLine
unfolding end_line
end_holds [] = tt
end_holds (m ∷ words) = tt

-- ---- paths

-- a path that is path 0 where it may be
first_again : (word : List ℕ) → within path_numbers word ≡ Ok 0 → is_ok (within first_path_number word) ≡ true
unfolding within
first_again word e =
    let known = IfOk-at_ok (λ n. (is_numeral word ≡ true) × (digits_value 10 word ≡ n) × IsInRange path_numbers n) e (value_within path_numbers word) in
    rw (known.0, known.1) refl

abbrev done : ℕ → Result ℕ ScriptKind
done n = Ok n

-- path 0 has no options, so it joins nothing
no_options : (path : List ℕ) (options : List (List ℕ)) (option : List ℕ × Bool) (index tick : ℕ) → path_options options ≡ Ok option → may_have path options ≡ true
    → within path_numbers path ≡ Ok index → within run_ticks option.0 ≡ Ok tick → index ≡ 0 → (tick ≡ 0) × (option.1 ≡ false)
unfolding path_options within
no_options path [] option index tick o m i t z =
    let same : (codes "0", false) ≡ option = cc in
    let zero : done 0 ≡ done tick = ap (λ (p : List ℕ × Bool). within run_ticks p.0) same ∙ t in
    (cc, sym (ap (λ (p : List ℕ × Bool). p.1) same))
no_options path (x ∷ options) option index tick o m i t z =
    absurd (both_ways _ (not-true _ m) (first_again path (i ∙ ap done z)))

path_of_holds : (path mss delay join : List ℕ) (backup : Bool) → ((index tick : ℕ) → within path_numbers path ≡ Ok index → within run_ticks join ≡ Ok tick → index ≡ 0 → (tick ≡ 0) × (backup ≡ false))
    → Holds (path_of path mss delay join backup) IsLine
unfolding path_of
path_of_holds path mss delay join backup plain =
    after (within path_numbers path) _ _ (λ index i.
    after (within segment_sizes mss) _ _ (λ octets o.
    after (within delays delay) _ _ (λ ticks d.
    after (within run_ticks join) _ _ (λ tick j.
    (path_below path index i, record { mss = in_limits segment_sizes mss octets o; delay = in_limits delays delay ticks d; join = in_limits run_ticks join tick j }, plain index tick i j)))))

path_holds : (words : List (List ℕ)) → Holds (path_line words) IsLine
unfolding path_line
path_holds [] = tt
path_holds (path ∷ []) = tt
path_holds (path ∷ a ∷ []) = tt
path_holds (path ∷ a ∷ mss ∷ []) = tt
path_holds (path ∷ a ∷ mss ∷ b ∷ []) = tt
path_holds (path ∷ a ∷ mss ∷ b ∷ delay ∷ options) =
    after (fixed (codes "mss") a) _ _ (λ x e.
    after (fixed (codes "delay") b) _ _ (λ y f.
    after (path_options options) _ _ (λ option o.
    passed (may_have path options) (path_of path mss delay option.0 option.1) Word IsLine (λ m.
    path_of_holds path mss delay option.0 option.1 (λ index tick. no_options path options option index tick o m)))))

-- ---- segments

abbrev IsSegment : Segment → Type 0
IsSegment s = (s.path < most_paths) × IsInRange segment_numbers s.number

segment_holds : (path : List ℕ) (from : Side) (number : List ℕ) → Holds (segment path from number) IsSegment
unfolding segment
segment_holds path from number =
    after (within path_numbers path) _ _ (λ index i.
    after (within segment_numbers number) _ _ (λ n k.
    (path_below path index i, in_limits segment_numbers number n k)))

ticks_hold : (happens : Happens) (ticks : ℕ) → IsInRange latenesses ticks → IsHappening (with_ticks ticks happens)
ticks_hold Lost ticks h = tt
ticks_hold (Late _) ticks h = h
ticks_hold (Again _) ticks h = h
ticks_hold Stripped ticks h = tt
ticks_hold Altered ticks h = tt

on_segment_holds : (happens : Happens) (words : List (List ℕ)) → Holds (on_segment_line happens words) IsLine
unfolding on_segment_line
on_segment_holds happens [] = tt
on_segment_holds happens (path ∷ []) = tt
on_segment_holds happens (path ∷ from ∷ []) = tt
on_segment_holds happens (path ∷ from ∷ number ∷ more) =
    after (direction from) _ _ (λ side f.
    after (ticks_word happens more) _ _ (λ ticks w.
    after (segment path side number) _ _ (λ s e. let at = IfOk-at_ok IsSegment e (segment_holds path side number) in
    after (within latenesses ticks) _ _ (λ t l. (at.0, at.1, ticks_hold happens t (in_limits latenesses ticks t l))))))

-- ---- directions

direction_holds : (path from : List ℕ) → Holds (direction_of path from) (λ d. d.path < most_paths)
unfolding direction_of
direction_holds path from =
    after (direction from) _ _ (λ side f.
    after (within path_numbers path) _ _ (λ index i. path_below path index i))

direction_is : (path from : List ℕ) (d : Direction) → direction_of path from ≡ Ok d → d.path < most_paths
direction_is path from d e = IfOk-at_ok (λ (d : Direction). d.path < most_paths) e (direction_holds path from)

rate_holds : (words : List (List ℕ)) → Holds (rate_line words) IsLine
unfolding rate_line
rate_holds [] = tt
rate_holds (path ∷ []) = tt
rate_holds (path ∷ from ∷ []) = tt
rate_holds (path ∷ from ∷ octets ∷ []) = tt
rate_holds (path ∷ from ∷ octets ∷ queue ∷ []) =
    after (direction_of path from) _ _ (λ d e.
    after (within rates octets) _ _ (λ n i.
    after (within queues queue) _ _ (λ q k. (direction_is path from d e, (in_limits rates octets n i, in_limits queues queue q k)))))
rate_holds (path ∷ from ∷ octets ∷ queue ∷ m ∷ words) = tt

loss_holds : (words : List (List ℕ)) → Holds (loss_line words) IsLine
unfolding loss_line
loss_holds [] = tt
loss_holds (path ∷ []) = tt
loss_holds (path ∷ from ∷ []) = tt
loss_holds (path ∷ from ∷ parts ∷ []) =
    after (direction_of path from) _ _ (λ d e.
    after (within loss_parts parts) _ _ (λ n i. (direction_is path from d e, in_limits loss_parts parts n i)))
loss_holds (path ∷ from ∷ parts ∷ m ∷ words) = tt

jitter_holds : (words : List (List ℕ)) → Holds (jitter_line words) IsLine
unfolding jitter_line
jitter_holds [] = tt
jitter_holds (path ∷ []) = tt
jitter_holds (path ∷ from ∷ []) = tt
jitter_holds (path ∷ from ∷ ticks ∷ []) =
    after (direction_of path from) _ _ (λ d e.
    after (within jitters ticks) _ _ (λ t k. (direction_is path from d e, in_limits jitters ticks t k)))
jitter_holds (path ∷ from ∷ ticks ∷ m ∷ words) = tt

-- ---- ticks

strip_all_holds : (words : List (List ℕ)) → Holds (strip_all_line words) IsLine
unfolding strip_all_line
strip_all_holds [] = tt
strip_all_holds (path ∷ []) = tt
strip_all_holds (path ∷ from ∷ []) = tt
strip_all_holds (path ∷ from ∷ tick ∷ []) =
    after (direction from) _ _ (λ side f.
    after (within path_numbers path) _ _ (λ index i.
    after (within run_ticks tick) _ _ (λ t k.
    (path_below path index i, in_limits run_ticks tick t k))))
strip_all_holds (path ∷ from ∷ tick ∷ m ∷ words) = tt

die_holds : (words : List (List ℕ)) → Holds (die_line words) IsLine
unfolding die_line
die_holds [] = tt
die_holds (path ∷ []) = tt
die_holds (path ∷ tick ∷ []) =
    after (within path_numbers path) _ _ (λ index i.
    after (within run_ticks tick) _ _ (λ t k.
    (path_below path index i, in_limits run_ticks tick t k)))
die_holds (path ∷ tick ∷ m ∷ words) = tt

prio_holds : (words : List (List ℕ)) → Holds (prio_line words) IsLine
unfolding prio_line
prio_holds [] = tt
prio_holds (path ∷ []) = tt
prio_holds (path ∷ which ∷ []) = tt
prio_holds (path ∷ which ∷ tick ∷ []) = tt
prio_holds (path ∷ which ∷ tick ∷ on ∷ []) =
    after (side which) _ _ (λ s f.
    after (switch on) _ _ (λ b g.
    after (within path_numbers path) _ _ (λ index i.
    after (within run_ticks tick) _ _ (λ t k.
    (path_below path index i, in_limits run_ticks tick t k)))))
prio_holds (path ∷ which ∷ tick ∷ on ∷ m ∷ words) = tt

add_holds : (words : List (List ℕ)) → Holds (add_line words) IsLine
unfolding add_line
add_holds [] = tt
add_holds (which ∷ []) = tt
add_holds (which ∷ id ∷ []) = tt
add_holds (which ∷ id ∷ tick ∷ []) =
    after (fixed (codes "b") which) _ _ (λ x f.
    after (within address_ids id) _ _ (λ n i.
    after (within run_ticks tick) _ _ (λ t k.
    (in_limits address_ids id n i, in_limits run_ticks tick t k))))
add_holds (which ∷ id ∷ tick ∷ m ∷ words) = tt

remove_holds : (words : List (List ℕ)) → Holds (remove_line words) IsLine
unfolding remove_line
remove_holds [] = tt
remove_holds (which ∷ []) = tt
remove_holds (which ∷ id ∷ []) = tt
remove_holds (which ∷ id ∷ tick ∷ []) =
    after (side which) _ _ (λ s f.
    after (within address_ids id) _ _ (λ n i.
    after (within run_ticks tick) _ _ (λ t k.
    (in_limits address_ids id n i, in_limits run_ticks tick t k))))
remove_holds (which ∷ id ∷ tick ∷ m ∷ words) = tt

fast_close_holds : (words : List (List ℕ)) → Holds (fast_close_line words) IsLine
unfolding fast_close_line
fast_close_holds [] = tt
fast_close_holds (which ∷ []) = tt
fast_close_holds (which ∷ tick ∷ []) =
    after (side which) _ _ (λ s f.
    after (within run_ticks tick) _ _ (λ t k.
    in_limits run_ticks tick t k))
fast_close_holds (which ∷ tick ∷ m ∷ words) = tt

-- ---- any line

after_keyword : (which : Keyword) (words : List (List ℕ)) → Holds (line_after which words) IsLine
after_keyword Keyword.Seed words = seed_holds words
after_keyword Keyword.Checksum words = checksum_holds words
after_keyword Keyword.Short words = short_holds words
after_keyword Keyword.Buffer words = buffer_holds words
after_keyword Keyword.Path words = path_holds words
after_keyword Keyword.Drop words = on_segment_holds Lost words
after_keyword Keyword.Strip words = on_segment_holds Stripped words
after_keyword Keyword.Alter words = on_segment_holds Altered words
after_keyword Keyword.Dup words = on_segment_holds (Again 0) words
after_keyword Keyword.Late words = on_segment_holds (Late 0) words
after_keyword Keyword.StripAll words = strip_all_holds words
after_keyword Keyword.Die words = die_holds words
after_keyword Keyword.Prio words = prio_holds words
after_keyword Keyword.Add words = add_holds words
after_keyword Keyword.Remove words = remove_holds words
after_keyword Keyword.FastClose words = fast_close_holds words
after_keyword Keyword.Rate words = rate_holds words
after_keyword Keyword.Loss words = loss_holds words
after_keyword Keyword.Jitter words = jitter_holds words
after_keyword Keyword.End words = end_holds words

line_holds : (version : Version) (words : List (List ℕ)) → Holds (line_of version words) IsLine
unfolding line_of
line_holds version [] = tt
line_holds version (word ∷ words) = after (keyword word) _ _ (λ which e. passed (is_known version which) (line_after which words) Word IsLine (λ k. after_keyword which words))

pub line_is : (version : Version) (words : List (List ℕ)) (line : Line) → line_of version words ≡ Ok line → IsLine line
line_is version words line e = IfOk-at_ok IsLine e (line_holds version words)
