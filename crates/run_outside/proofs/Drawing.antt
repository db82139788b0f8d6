-- The made input of each number is in the ranges of a script, and its octets are those that are drawn.
use Rattle.std.proofs.Common.{◌≡◌, refl, ◌∙◌, ap, ℕ, zero, suc, ◌+◌, ◌*◌, ◌^◌, ◌<◌, ◌≤◌, List, [], ◌∷◌, ◌++◌, length, take, ◌/◌, arith}
use Rattle.std.specs.Prelude.{◌%◌, ◌==◌, if◌then◌else◌, Bool, true, false, All}
use Rattle.std.specs.List.{AllPairs}
use Rattle.std.specs.Int.{w32, to_le_bytes}
use Rattle.std.proofs.lemmas.List.{length-append, take_all}
use Rattle.std.proofs.lemmas.List.Elements.{All-nil, All-cons}
use Rattle.key_material.specs.Drawing.{cipher_key, drawn_word}
use Rattle.rand_core.specs.Steps.{word_bytes, fill_via_u32}
use Rattle.rand_chacha.specs.ChaCha.{ChaCha, key_of, word_at, next_word}
use Rattle.link_script.specs.declared.limits.Limits.{Limits}
use Rattle.link_script.specs.declared.line.Line.{Line as ScriptText}
use Rattle.link_script.specs.declared.line.Line.TheVariants.{Header, Seed, End}
use Rattle.link_script.specs.declared.version.Version.TheVariants.{First}
use Rattle.link_script.specs.declared.script.Happens.TheVariants.{Lost}
use Rattle.link_script.specs.declared.script.ScriptLine.{ScriptLine}
use Rattle.link_script.specs.declared.script.ScriptLine.TheVariants.{OnSegment, Die}
use Rattle.link_script.specs.Ranges.{seeds, buffers, segment_sizes, delays, segment_numbers, run_ticks}
use Rattle.link_script.specs.Scripts.{IsInRange, IsPath, IsEvent, SettleApart, HasRanges}
use Rattle.link_script.specs.Writing.{seed_lines, checksum_lines, short_lines, buffer_lines, path_lines, event_lines, lines_of}
use Rattle.sides.specs.declared.side.Side.TheVariants.{A, B}
use Rattle.run_outside.specs.MadeInput.{words_at, path_line, segment, made_paths, made_lines, drawn_octets, made_script}

-- ---- drawing

-- a word more
pub word_drawn : (seed stream drawn word : ℕ) (old new : ChaCha) → drawn < 2 ^ 64 → old ≡ words_at seed stream drawn → (word, new) ≡ next_word 10 old
    → (word ≡ drawn_word seed stream drawn) × (new ≡ words_at seed stream (drawn + 1))
unfolding drawn_word
word_drawn seed stream drawn word old new low is given =
    let both : (word, new) ≡ (word_at 10 (key_of (cipher_key seed)) stream drawn, record { key = key_of (cipher_key seed); stream = stream; word_pos = (drawn + 1) % 2 ^ 68 }) =
    given ∙ ap (next_word 10) is in
    let small : (drawn + 1) % 2 ^ 68 ≡ drawn + 1 = omega (arith, low) in
    (ap (λ pair. pair.0) both, ap (λ pair. pair.1) both ∙ ap (λ n. record { key = key_of (cipher_key seed); stream = stream; word_pos = n }) small)

-- four octets a word
pub octets_many : (seed stream words : ℕ) → length (drawn_octets seed stream words) ≡ 4 * words
unfolding drawn_octets
octets_many seed stream zero = refl
octets_many seed stream (suc words) =
    length-append (drawn_octets seed stream words) (to_le_bytes w32 (drawn_word seed stream words))
    ∙ ap (λ n. n + 4) (octets_many seed stream words) ∙ omega arith

-- words of a stream, written one after the other
words_drawn : (seed stream words : ℕ) → words ≤ 2 ^ 32
    → word_bytes (to_le_bytes w32) (next_word 10) words (words_at seed stream 0) ≡ (drawn_octets seed stream words, words_at seed stream words)
unfolding word_bytes drawn_octets
words_drawn seed stream zero few = refl
words_drawn seed stream (suc words) few =
    let at = words_at seed stream words in
    let drawn = word_drawn seed stream words (next_word 10 at).0 at (next_word 10 at).1 (omega (arith, few)) refl refl in
    let next : words + 1 ≡ suc words = omega arith in
    ap (λ before. (before.0 ++ to_le_bytes w32 (next_word 10 before.1).0, (next_word 10 before.1).1)) (words_drawn seed stream words (omega (arith, few)))
    ∙ ap (λ word. (drawn_octets seed stream words ++ to_le_bytes w32 word, (next_word 10 at).1)) drawn.0
    ∙ ap (λ after. (drawn_octets seed stream (suc words), after)) (drawn.1 ∙ ap (words_at seed stream) next)

octets_filled : (seed stream words n : ℕ) (octets : List ℕ) (new : ChaCha) → words ≤ 2 ^ 32 → n ≡ 4 * words
    → (octets, new) ≡ fill_via_u32 (next_word 10) n (words_at seed stream 0) → octets ≡ drawn_octets seed stream words
octets_filled seed stream words n octets new few size filled =
    let whole : (n + 3) / 4 ≡ words = omega (arith, size) in
    ap (λ pair. pair.0) filled
    ∙ ap (λ k. take n (word_bytes (to_le_bytes w32) (next_word 10) k (words_at seed stream 0)).0) whole
    ∙ ap (λ pair. take n pair.0) (words_drawn seed stream words few)
    ∙ take_all n (drawn_octets seed stream words) (omega (arith, size, octets_many seed stream words))

take_front : (n : ℕ) (xs ys : List ℕ) → length xs ≡ n → take n (xs ++ ys) ≡ xs
take_front zero [] ys size = refl
take_front (suc n) [] ys size = absurd (omega (arith, size))
take_front zero (x ∷ xs) ys size = absurd (omega (arith, size))
take_front (suc n) (x ∷ xs) ys size = ap (λ rest. x ∷ rest) (take_front n xs ys (omega (arith, size)))

-- octets that are filled to their end
pub octets_drawn : (seed stream words n len : ℕ) (octets rest : List ℕ) (old new : ChaCha) → words ≤ 2 ^ 32 → n ≡ 4 * words → len ≡ 4 * words → old ≡ words_at seed stream 0
    → (octets, new) ≡ fill_via_u32 (next_word 10) n old → take len (octets ++ rest) ≡ drawn_octets seed stream words
octets_drawn seed stream words n len octets rest old new few size whole start filled =
    ap (λ xs. take len (xs ++ rest)) (octets_filled seed stream words n octets new few size (filled ∙ ap (fill_via_u32 (next_word 10) n) start))
    ∙ take_front len (drawn_octets seed stream words) rest (omega (arith, whole, octets_many seed stream words))

pairs_nil : {X : Type 0} (R : X → X → Type 0) → AllPairs R []
pairs_nil R i j d less within = absurd (omega (arith, within))

pairs_cons : {X : Type 0} (R : X → X → Type 0) (x : X) (xs : List X) → All (R x) xs → AllPairs R xs → AllPairs R (x ∷ xs)
pairs_cons R x xs one rest zero (suc j) d less within = one j d (omega (arith, within))
pairs_cons R x xs one rest (suc i) (suc j) d less within = rest i j d (omega (arith, less)) (omega (arith, within))
pairs_cons R x xs one rest i zero d less within = absurd (omega (arith, less))

in_range : (limits : Limits) (n : ℕ) → limits.least ≤ n → n ≤ limits.most → IsInRange limits n
in_range limits n least most = record { least = least; most = most }

-- a path of the made input
path_fits : (mss delay join : ℕ) → 200 ≤ mss → mss ≤ 1460 → 1 ≤ delay → delay ≤ 200 → join ≤ 6553599 → IsPath (path_line mss delay join)
path_fits mss delay join a b c d e = record {
  mss = in_range segment_sizes mss a b;
  delay = in_range delays delay c d;
  join = in_range run_ticks join (omega arith) e;
}

paths_fit : All IsPath made_paths
paths_fit =
    All-cons IsPath (path_line 1400 10 0) (path_line 1200 20 100 ∷ path_line 1000 30 200 ∷ path_line 800 40 300 ∷ []) (path_fits 1400 10 0 (omega arith) (omega arith) (omega arith) (omega arith) (omega arith))
    (All-cons IsPath (path_line 1200 20 100) (path_line 1000 30 200 ∷ path_line 800 40 300 ∷ []) (path_fits 1200 20 100 (omega arith) (omega arith) (omega arith) (omega arith) (omega arith))
    (All-cons IsPath (path_line 1000 30 200) (path_line 800 40 300 ∷ []) (path_fits 1000 30 200 (omega arith) (omega arith) (omega arith) (omega arith) (omega arith))
    (All-cons IsPath (path_line 800 40 300) [] (path_fits 800 40 300 (omega arith) (omega arith) (omega arith) (omega arith) (omega arith)) (All-nil IsPath))))

abbrev lost_at_a : ScriptLine
lost_at_a = OnSegment (segment 0 A 50) Lost

abbrev lost_at_b : ScriptLine
lost_at_b = OnSegment (segment 1 B 20) Lost

lines_fit : All (IsEvent 4) made_lines
lines_fit =
    All-cons (IsEvent 4) lost_at_a (lost_at_b ∷ Die 3 2000 ∷ []) (omega arith, in_range segment_numbers 50 (omega arith) (omega arith), tt)
    (All-cons (IsEvent 4) lost_at_b (Die 3 2000 ∷ []) (omega arith, in_range segment_numbers 20 (omega arith) (omega arith), tt)
    (All-cons (IsEvent 4) (Die 3 2000) [] (omega arith, in_range run_ticks 2000 (omega arith) (omega arith)) (All-nil (IsEvent 4))))

lines_apart : AllPairs SettleApart made_lines
lines_apart =
    pairs_cons SettleApart lost_at_a (lost_at_b ∷ Die 3 2000 ∷ []) (All-cons (SettleApart lost_at_a) lost_at_b (Die 3 2000 ∷ []) refl (All-cons (SettleApart lost_at_a) (Die 3 2000) [] refl (All-nil (SettleApart lost_at_a))))
    (pairs_cons SettleApart lost_at_b (Die 3 2000 ∷ []) (All-cons (SettleApart lost_at_b) (Die 3 2000) [] refl (All-nil (SettleApart lost_at_b)))
    (pairs_cons SettleApart (Die 3 2000) [] (All-nil (SettleApart (Die 3 2000))) (pairs_nil SettleApart)))

one_line : (b : Bool) (number : ℕ) → length {A = ScriptText} (if b then [] else Seed number ∷ []) ≤ 1
one_line true number = omega arith
one_line false number = omega arith

few_lines : (number : ℕ) → length (lines_of (made_script number)) ≤ 4096
few_lines number = by (seed_lines number) (one_line (number == 1) number)
  where
    by : (xs : List ScriptText) → length xs ≤ 1 → length (Header First ∷ (xs ++ (checksum_lines true ++ (short_lines false ++ (buffer_lines 262144 ++ (path_lines 0 made_paths ++ (event_lines made_lines ++ End ∷ []))))))) ≤ 4096
    by [] h = omega arith
    by (x ∷ []) h = omega arith
    by (x ∷ y ∷ xs) h = absurd (omega (arith, h))

pub script_in_range : (number : ℕ) → number < 2 ^ 64 → HasRanges (made_script number)
script_in_range number low = record {
  seed = in_range seeds number (omega arith) (omega (arith, low));
  buffer = in_range buffers 262144 (omega arith) (omega arith);
  some_path = omega arith;
  few_paths = omega arith;
  paths = paths_fit;
  first_path = (refl, refl);
  lines = lines_fit;
  apart = lines_apart;
  few_lines = few_lines number;
}
