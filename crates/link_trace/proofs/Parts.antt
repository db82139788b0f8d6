-- A capture of blocks in two parts, and put block by block.
use Rattle.std.proofs.Common.{◌≡◌, ℕ, suc, ◌+◌, ◌-◌, ◌<◌, refl, sym, ◌∙◌, List, [], ◌∷◌, ◌++◌, drop, length, get_or, subst, arith, ap, map, codes}
use mathlib.Core.List.{append_assoc}
use Rattle.std.proofs.lemmas.List.{at_drop_more}
use Rattle.std.specs.Fmt.{decimal}
use Rattle.std.specs.List.{flat_map, range_with_len}
use Rattle.sides.specs.declared.side.Side.{Side}
use Rattle.sides.specs.declared.side.Side.TheVariants.{A, B}
use Rattle.link_trace.specs.declared.carried.Carried.{Carried}
use Rattle.link_trace.specs.declared.intervals.Share.{Share}
use Rattle.link_trace.specs.declared.rows.Rates.{Rates}
use Rattle.link_trace.specs.declared.sent.Sent.{Sent}
use Rattle.link_trace.specs.Captures.{interfaces, packet_of}
use Rattle.link_trace.specs.Intervals.{paths_from, rate_at, row_line, rows_from, way_lines}
use Rattle.pcap_text.specs.Blocks.{Block, Interface, block_text, capture_text}

pub captured_then : (xs ys : List Block) → capture_text (xs ++ ys) ≡ capture_text xs ++ capture_text ys
captured_then [] ys = refl
captured_then (b ∷ xs) ys = rw (captured_then xs ys) (sym (append_assoc (block_text b) (capture_text xs) (capture_text ys)))

pub captured_each : (side : Side) (xs : List Sent) → capture_text (map (packet_of side) xs) ≡ flat_map (λ s. block_text (packet_of side s)) xs
captured_each side [] = refl
captured_each side (s ∷ xs) = ap (λ rest. block_text (packet_of side s) ++ rest) (captured_each side xs)

-- what is put part by part: the old text, the next part, all that is left
parts_more : (old part rest left whole new : List ℕ) → left ≡ part ++ rest → old ++ left ≡ whole → new ≡ old ++ part → new ++ rest ≡ whole
parts_more old part rest left whole new splits before put =
    subst (λ (t : List ℕ). t ++ rest ≡ whole) (sym put) (append_assoc old part rest ∙ ap (λ (t : List ℕ). old ++ t) (sym splits) ∙ before)

-- a segment more
pub segment_more : (f : Sent → List ℕ) (trace : List Sent) (i : ℕ) (s d : Sent) (old new whole : List ℕ) → i < length trace → s ≡ get_or trace i d
    → old ++ flat_map f (drop i trace) ≡ whole → new ≡ old ++ f s → new ++ flat_map f (drop (i + 1) trace) ≡ whole
segment_more f trace i s d old new whole within is before put =
    parts_more old (f s) (flat_map f (drop (i + 1) trace)) (flat_map f (drop i trace)) whole new
    (at_drop_more (flat_map f) trace i d within ∙ ap (λ (t : Sent). f t ++ flat_map f (drop (i + 1) trace)) (sym is)) before put

-- a number more
pub number_more : (f : ℕ → List ℕ) (count n : ℕ) (old new whole : List ℕ) → n < count
    → old ++ flat_map f (range_with_len n (count - n)) ≡ whole → new ≡ old ++ f n → new ++ flat_map f (range_with_len (n + 1) (count - (n + 1))) ≡ whole
number_more f count n old new whole within before put =
    let e : count - n ≡ suc (count - (n + 1)) = omega (arith, within) in
    parts_more old (f n) (flat_map f (range_with_len (n + 1) (count - (n + 1)))) (flat_map f (range_with_len n (count - n))) whole new
    (ap (λ (left : ℕ). flat_map f (range_with_len n left)) e) before put

-- a path more
pub interface_more : (paths path left : ℕ) (old new whole : List ℕ) → path < paths → left ≡ paths - (path + 1)
    → old ++ capture_text (interfaces (paths - path) path) ≡ whole
    → new ≡ old ++ block_text (Interface (codes "path " ++ decimal path))
    → new ++ capture_text (interfaces left (path + 1)) ≡ whole
interface_more paths path left old new whole within is before put =
    let e : paths - path ≡ suc left = omega (arith, within, is) in
    parts_more old (block_text (Interface (codes "path " ++ decimal path))) (capture_text (interfaces left (path + 1)))
    (capture_text (interfaces (paths - path) path)) whole new (ap (λ (n : ℕ). capture_text (interfaces n path)) e) before put

module _ (measured : List Rates) (paths : ℕ) where
  -- a row of 100 ticks more
  pub rows_more : (path : ℕ) (side : Side) (shares : List Share) (answers : List Carried) (rows row left : ℕ) (old new whole : List ℕ) → row < rows → left ≡ rows - (row + 1)
      → old ++ rows_from measured paths row (rows - row) path side shares answers ≡ whole
      → new ≡ old ++ row_line row path side shares answers (rate_at measured paths row path side)
      → new ++ rows_from measured paths (row + 1) left path side shares answers ≡ whole
  rows_more path side shares answers rows row left old new whole within is before put =
      let e : rows - row ≡ suc left = omega (arith, within, is) in
      parts_more old (row_line row path side shares answers (rate_at measured paths row path side)) (rows_from measured paths (row + 1) left path side shares answers)
      (rows_from measured paths row (rows - row) path side shares answers) whole new
      (ap (λ (n : ℕ). rows_from measured paths row n path side shares answers) e) before put

  -- both directions of a path more
  pub paths_more : (rows : ℕ) (cs : List Carried) (path left : ℕ) (old middle new whole : List ℕ) → path < paths → left ≡ paths - (path + 1)
      → old ++ paths_from measured paths rows path (paths - path) cs ≡ whole → middle ≡ old ++ way_lines measured paths rows path A cs
      → new ≡ middle ++ way_lines measured paths rows path B cs → new ++ paths_from measured paths rows (path + 1) left cs ≡ whole
  paths_more rows cs path left old middle new whole within is before first second =
      let e : paths - path ≡ suc left = omega (arith, within, is) in
      let rest = way_lines measured paths rows path B cs ++ paths_from measured paths rows (path + 1) left cs in
      parts_more middle (way_lines measured paths rows path B cs) (paths_from measured paths rows (path + 1) left cs) rest whole new refl
      (parts_more old (way_lines measured paths rows path A cs) rest (paths_from measured paths rows path (paths - path) cs) whole middle
      (ap (λ (n : ℕ). paths_from measured paths rows path n cs) e) before first) second
