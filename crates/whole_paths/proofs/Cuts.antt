-- Where the marks of a stream change: a place whose byte a path may still be granted, and behind which the next byte has another mark, is a cut for the
-- path. What isn't written yet counts as free. A grant that isn't limited ends at a cut, which is none afterwards; one that is makes one at most; no other
-- call of a send book makes one.
use Rattle.std.proofs.Common.{◌≡◌, refl, sym, subst, ap, ◌∙◌, ◌⊎◌, inl, inr, ⊎_elim, ℕ, zero, suc, ◌+◌, ◌-◌, ◌<◌, ◌≤◌, min, arith, Bool, true, false, true≢false, not, ◌&&◌, Option, Some, None, List, [], ◌∷◌, ◌++◌, length, drop, map, replicate, take}
use Rattle.std.specs.List.{slice_get}
use Rattle.std.specs.Cmp.Lexicographic.{pointwise_decides}
use Rattle.std.specs.Option.{option_map}
use Rattle.std.proofs.Math.Bool.{beq}
use Rattle.std.proofs.lemmas.Bool.{and_from, and_parts, cases_eq, cases_lt, eq-eqb}
use Rattle.std.proofs.lemmas.List.{length-append, length-drop, length-replicate}
use Rattle.std.proofs.lemmas.Option.{same_Some, slice_get-map, slice_get_past, slice_get_within}
use Rattle.send_book.specs.declared.mark.ByteMark.{ByteMark}
use Rattle.send_book.specs.declared.mark.ByteMark.TheVariants.{Acked, Held, Free}
use Rattle.send_book.specs.contracts.mark.ByteMarkPartialEq.TheImpl.{eq-value}
use Rattle.send_book.specs.MarkEquality.{mark_exact}
use Rattle.send_book.specs.Marks.{given, is_free_for, returned}
use Rattle.send_book.specs.Tried.{contains, no_paths}
use Rattle.send_book.proofs.Lists.{slice_get-append_left, slice_get-append_right, slice_get-changed_above, slice_get-changed_below, slice_get-changed_inside, slice_get-drop, slice_get-replicate}
use Rattle.send_book.proofs.PathSets.{contains-insert, contains-insert_more}
use Rattle.stream_lanes.specs.Marks.{spent}
use Rattle.whole_paths.specs.News.{one_if}
use Rattle.whole_paths.proofs.BookNews.{spent_returned}
use Rattle.whole_paths.proofs.MarkSteps.{some_at}

-- ---- equal marks

bit_decides : (a b : Bool) → (beq a b ≡ true → a ≡ b) × (a ≡ b → beq a b ≡ true)
bit_decides true true = (λ _. refl, λ _. refl)
bit_decides true false = (λ e. cc, λ e. cc)
bit_decides false true = (λ e. cc, λ e. cc)
bit_decides false false = (λ _. refl, λ _. refl)

same_itself : (m : ByteMark) → eq-value.it m m ≡ true
same_itself Acked = refl
same_itself (Held path tried) = and_from _ _ (eq-eqb path path refl) ((pointwise_decides bit_decides tried tried).1 refl)
same_itself (Free tried) = (pointwise_decides bit_decides tried tried).1 refl

-- ---- cuts

-- what isn't written yet is free
abbrev pub next_of : Option ByteMark → ByteMark
next_of None = Free no_paths
next_of (Some m) = m

module _ (n : ℕ) where
  abbrev pub is_cut : ByteMark → ByteMark → Bool
  is_cut m next = not (spent n (Some m)) && not (eq-value.it m next)

  abbrev pub cuts : List ByteMark → ℕ
  cuts [] = 0
  cuts (m ∷ ms) = one_if (is_cut m (next_of (slice_get ms 0))) + cuts ms

  abbrev pub cut_at : List ByteMark → ℕ → Bool
  cut_at [] place = false
  cut_at (m ∷ ms) zero = is_cut m (next_of (slice_get ms 0))
  cut_at (m ∷ ms) (suc place) = cut_at ms place

  pub record IsCut (ms : List ByteMark) (place : ℕ) : Type 0 where
    pub mark : ByteMark
    pub there : slice_get ms place ≡ Some mark
    pub unspent : spent n (Some mark) ≡ false
    pub other : mark ≡ next_of (slice_get ms (suc place)) → ⊥

  not_true : (b : Bool) → not b ≡ true → b ≡ false
  not_true true is = absurd (true≢false (sym is))
  not_true false is = refl

  from_cut : (ms : List ByteMark) (place : ℕ) → cut_at ms place ≡ true → IsCut ms place
  from_cut [] place is = absurd (true≢false (sym is))
  from_cut (m ∷ ms) zero is =
      let both = and_parts (not (spent n (Some m))) (not (eq-value.it m (next_of (slice_get ms 0)))) is in record {
        mark = m;
        there = refl;
        unspent = not_true (spent n (Some m)) both.0;
        other = λ same. true≢false (sym (same_itself m) ∙ ap (λ (x : ByteMark). eq-value.it m x) same ∙ not_true (eq-value.it m (next_of (slice_get ms 0))) both.1);
      }
  from_cut (m ∷ ms) (suc place) is =
      let rest = from_cut ms place is in record { mark = rest.mark; there = rest.there; unspent = rest.unspent; other = rest.other }

  apart : (m x : ByteMark) → (m ≡ x → ⊥) → not (eq-value.it m x) ≡ true
  apart m x other = by (eq-value.it m x) refl
    where
      by : (b : Bool) → eq-value.it m x ≡ b → not (eq-value.it m x) ≡ true
      by true is = absurd (other (mark_exact m x is))
      by false is = ap not is

  to_cut : (ms : List ByteMark) (place : ℕ) → IsCut ms place → cut_at ms place ≡ true
  to_cut [] place c = (let never = c.there in cc)
  to_cut (m ∷ ms) zero c =
      let same : m ≡ c.mark = same_Some m c.mark c.there in
      and_from (not (spent n (Some m))) _ (ap (λ (x : ByteMark). not (spent n (Some x))) same ∙ ap not c.unspent) (apart m (next_of (slice_get ms 0)) (λ is. c.other (sym same ∙ is)))
  to_cut (m ∷ ms) (suc place) c = to_cut ms place (record { mark = c.mark; there = c.there; unspent = c.unspent; other = c.other })

  -- ---- how many

  abbrev Keeps : List ByteMark → List ByteMark → Type 0
  Keeps xs ys = (place : ℕ) → cut_at ys place ≡ true → cut_at xs place ≡ true

  at_most_one : (b : Bool) → one_if b ≤ 1
  at_most_one true = omega arith
  at_most_one false = omega arith

  first_kept : (b c : Bool) → (c ≡ true → b ≡ true) → one_if c ≤ one_if b
  first_kept true c keeps = at_most_one c
  first_kept false false keeps = omega arith
  first_kept false true keeps = absurd (true≢false (sym (keeps refl)))

  pub fewer : (xs ys : List ByteMark) → Keeps xs ys → cuts ys ≤ cuts xs
  fewer xs [] keeps = omega arith
  fewer [] (y ∷ ys) keeps =
      let rest = fewer [] ys (λ place. keeps (suc place)) in let first = first_kept false (is_cut y (next_of (slice_get ys 0))) (keeps 0) in omega (arith, rest, first)
  fewer (x ∷ xs) (y ∷ ys) keeps =
      let rest = fewer xs ys (λ place. keeps (suc place)) in
      let first = first_kept (is_cut x (next_of (slice_get xs 0))) (is_cut y (next_of (slice_get ys 0))) (keeps 0) in omega (arith, rest, first)

  pub one_more : (at : ℕ) (xs ys : List ByteMark) → ((place : ℕ) → (place ≡ at → ⊥) → cut_at ys place ≡ true → cut_at xs place ≡ true) → cuts ys ≤ suc (cuts xs)
  one_more at xs [] keeps = omega arith
  one_more zero [] (y ∷ ys) keeps =
      let rest = fewer [] ys (λ place. keeps (suc place) (λ is. absurd (omega (arith, is)))) in let first = at_most_one (is_cut y (next_of (slice_get ys 0))) in omega (arith, rest, first)
  one_more zero (x ∷ xs) (y ∷ ys) keeps =
      let rest = fewer xs ys (λ place. keeps (suc place) (λ is. absurd (omega (arith, is)))) in let first = at_most_one (is_cut y (next_of (slice_get ys 0))) in omega (arith, rest, first)
  one_more (suc at) [] (y ∷ ys) keeps =
      let rest = one_more at [] ys (λ place other. keeps (suc place) (λ is. other (omega (arith, is)))) in
      let first = first_kept false (is_cut y (next_of (slice_get ys 0))) (keeps 0 (λ is. absurd (omega (arith, is)))) in omega (arith, rest, first)
  one_more (suc at) (x ∷ xs) (y ∷ ys) keeps =
      let rest = one_more at xs ys (λ place other. keeps (suc place) (λ is. other (omega (arith, is)))) in
      let first = first_kept (is_cut x (next_of (slice_get xs 0))) (is_cut y (next_of (slice_get ys 0))) (keeps 0 (λ is. absurd (omega (arith, is)))) in omega (arith, rest, first)

  pub one_fewer : (at : ℕ) (xs ys : List ByteMark) → Keeps xs ys → cut_at xs at ≡ true → cut_at ys at ≡ false → cuts ys < cuts xs
  one_fewer at [] ys keeps was is = absurd (true≢false (sym was))
  one_fewer zero (x ∷ xs) [] keeps was is = let first : one_if (is_cut x (next_of (slice_get xs 0))) ≡ 1 = ap one_if was in omega (arith, first)
  one_fewer zero (x ∷ xs) (y ∷ ys) keeps was is =
      let rest = fewer xs ys (λ place. keeps (suc place)) in
      let first : one_if (is_cut x (next_of (slice_get xs 0))) ≡ 1 = ap one_if was in let now : one_if (is_cut y (next_of (slice_get ys 0))) ≡ 0 = ap one_if is in omega (arith, rest, first, now)
  one_fewer (suc at) (x ∷ xs) [] keeps was is = let rest = one_fewer at xs [] (λ place. keeps (suc place)) was refl in omega (arith, rest)
  one_fewer (suc at) (x ∷ xs) (y ∷ ys) keeps was is =
      let rest = one_fewer at xs ys (λ place. keeps (suc place)) was is in
      let first = first_kept (is_cut x (next_of (slice_get xs 0))) (is_cut y (next_of (slice_get ys 0))) (keeps 0) in omega (arith, rest, first)

  -- ---- by calls that grant nothing

  -- what is unspent after a change was before
  unspent_before : (f : ByteMark → ByteMark) → ((m : ByteMark) → spent n (Some m) ≡ true → spent n (Some (f m)) ≡ true) → (m : ByteMark) → spent n (Some (f m)) ≡ false → spent n (Some m) ≡ false
  unspent_before f keeps m is = by (spent n (Some m)) refl
    where
      by : (b : Bool) → spent n (Some m) ≡ b → spent n (Some m) ≡ false
      by true was = absurd (true≢false (sym (keeps m was) ∙ is))
      by false was = was

  pub cuts_returned : (asker : ℕ) (ms : List ByteMark) → cuts (map (returned asker) ms) ≤ cuts ms
  cuts_returned asker ms = fewer ms (map (returned asker) ms) (λ place is. to_cut ms place (by place (from_cut (map (returned asker) ms) place is)))
    where
      next : (o : Option ByteMark) → next_of (option_map (returned asker) o) ≡ returned asker (next_of o)
      next None = refl
      next (Some m) = refl

      by : (place : ℕ) → IsCut (map (returned asker) ms) place → IsCut ms place
      by place c = found (slice_get ms place) refl (sym (slice_get-map (returned asker) ms place) ∙ c.there)
        where
          found : (o : Option ByteMark) → slice_get ms place ≡ o → option_map (returned asker) o ≡ Some c.mark → IsCut ms place
          found None at is = cc
          found (Some m) at is =
              let mark : returned asker m ≡ c.mark = same_Some (returned asker m) c.mark is in record {
                mark = m;
                there = at;
                unspent = unspent_before (returned asker) (λ x h. spent_returned n asker x h) m (ap (λ (x : ByteMark). spent n (Some x)) mark ∙ c.unspent);
                other = λ same. c.other (sym mark ∙ ap (returned asker) same ∙ sym (next (slice_get ms (suc place))) ∙ ap next_of (sym (slice_get-map (returned asker) ms (suc place))));
              }

  pub cuts_written : (count : ℕ) (ms : List ByteMark) → cuts (ms ++ replicate count (Free no_paths)) ≤ cuts ms
  cuts_written count ms = fewer ms written (λ place is. to_cut ms place (by place (from_cut written place is)))
    where
      written : List ByteMark
      written = ms ++ replicate count (Free no_paths)

      past : (place : ℕ) → length ms ≤ place → next_of (slice_get written place) ≡ Free no_paths
      past place high = ⊎_elim
          (λ inside. ap next_of (slice_get-append_right ms (replicate count (Free no_paths)) (place - length ms) place (omega (arith, high)) ∙ slice_get-replicate count (place - length ms) (Free no_paths) inside))
          (λ over. ap next_of (slice_get_past written place
          (let sum = length-append ms (replicate count (Free no_paths)) in let size = length-replicate count (Free no_paths) in omega (arith, high, over, sum, size))))
          (cases_lt (place - length ms) count)

      same : (place : ℕ) → next_of (slice_get written place) ≡ next_of (slice_get ms place)
      same place = ⊎_elim (λ below. ap next_of (slice_get-append_left ms (replicate count (Free no_paths)) place below)) (λ high. past place high ∙ ap next_of (sym (slice_get_past ms place high)))
          (cases_lt place (length ms))

      by : (place : ℕ) → IsCut written place → IsCut ms place
      by place c = ⊎_elim
          (λ below. record {
            mark = c.mark;
            there = sym (slice_get-append_left ms (replicate count (Free no_paths)) place below) ∙ c.there;
            unspent = c.unspent;
            other = λ is. c.other (is ∙ sym (same (suc place)));
          })
          (λ high. absurd (c.other (sym (ap next_of c.there) ∙ past place high ∙ sym (past (suc place) (omega (arith, high))))))
          (cases_lt place (length ms))

  pub cuts_acked : (next : ℕ) (ms : List ByteMark) → cuts (replicate (min next (length ms)) Acked ++ drop next ms) ≤ cuts ms
  cuts_acked next ms = fewer ms acked (λ place is. to_cut ms place (by place (from_cut acked place is)))
    where
      acked : List ByteMark
      acked = replicate (min next (length ms)) Acked ++ drop next ms

      size : length (replicate (min next (length ms)) Acked) ≡ min next (length ms)
      size = length-replicate (min next (length ms)) Acked

      above : (place : ℕ) → next ≤ place → slice_get acked place ≡ slice_get ms place
      above place high = ⊎_elim
          (λ there. slice_get-append_right (replicate (min next (length ms)) Acked) (drop next ms) (place - next) place (omega (arith, there, high, size)) ∙ slice_get-drop next ms (place - next) place (omega (arith, high)))
          (λ past. slice_get_past acked place (let sum = length-append (replicate (min next (length ms)) Acked) (drop next ms) in let rest = length-drop next ms in omega (arith, past, sum, size, rest, high))
          ∙ sym (slice_get_past ms place past))
          (cases_lt place (length ms))

      low : (place : ℕ) → place < next → (c : IsCut acked place) → place < length ms
      low place below c = (let within = slice_get_within acked place c.mark c.there in
          let sum = length-append (replicate (min next (length ms)) Acked) (drop next ms) in let rest = length-drop next ms in omega (arith, below, within, sum, size, rest))

      by : (place : ℕ) → IsCut acked place → IsCut ms place
      by place c = ⊎_elim
          (λ below.
          let there : place < length ms = low place below c in
          let is : slice_get acked place ≡ Some Acked = slice_get-append_left (replicate (min next (length ms)) Acked) (drop next ms) place (omega (arith, there, below, size))
          ∙ slice_get-replicate (min next (length ms)) place Acked (omega (arith, there, below)) in
          absurd (true≢false (ap (λ (x : ByteMark). spent n (Some x)) (same_Some Acked c.mark (sym is ∙ c.there)) ∙ c.unspent)))
          (λ high. record {
            mark = c.mark;
            there = sym (above place high) ∙ c.there;
            unspent = c.unspent;
            other = λ is. c.other (is ∙ ap next_of (sym (above (suc place) (omega (arith, high)))));
          })
          (cases_lt place next)

  -- ---- by a grant

  -- A path is granted a part of the marks, all free for it. The byte before isn't free for it, if there is one; the part is limited, or there is a byte
  -- behind it that isn't free for the path.
  pub record Gives (asker from count to : ℕ) (ms : List ByteMark) : Type 0 where
    pub whole : to ≡ from + count
    pub some : 1 ≤ count
    pub within : to ≤ length ms
    pub free : (place : ℕ) (mark : ByteMark) → from ≤ place → place < to → slice_get ms place ≡ Some mark → is_free_for asker mark ≡ true
    pub first : (place : ℕ) (mark : ByteMark) → suc place ≡ from → slice_get ms place ≡ Some mark → is_free_for asker mark ≡ false

  module _ (asker from count to : ℕ) (ms : List ByteMark) (g : Gives asker from count to ms) where
    abbrev after : List ByteMark
    after = take from ms ++ (map (given asker) (take count (drop from ms)) ++ drop to ms)

    below : (place : ℕ) → place < from → slice_get after place ≡ slice_get ms place
    below place low = slice_get-changed_below (given asker) from count to ms g.whole g.within place low

    above : (place : ℕ) → to ≤ place → slice_get after place ≡ slice_get ms place
    above place high = slice_get-changed_above (given asker) from count to ms g.whole g.within place high

    inside : (place : ℕ) (m : ByteMark) → from ≤ place → place < to → slice_get ms place ≡ Some m → slice_get after place ≡ Some (given asker m)
    inside place m low high at = slice_get-changed_inside (given asker) from count to ms g.whole g.within place low high ∙ ap (option_map (given asker)) at

    some_there : (place : ℕ) → place < to → (m : ByteMark) × (slice_get ms place ≡ Some m)
    some_there place high = some_at place ms (let within = g.within in omega (arith, high, within))

    spent_given : (m : ByteMark) → spent n (Some m) ≡ true → spent n (Some (given asker m)) ≡ true
    spent_given Acked h = h
    spent_given (Held holder among) h = h
    spent_given (Free among) h = contains-insert_more asker n among h

    -- what is free for a path isn't what isn't
    unlike : (m x : ByteMark) → is_free_for asker m ≡ true → is_free_for asker x ≡ false → m ≡ x → ⊥
    unlike m x free taken same = true≢false (sym free ∙ ap (is_free_for asker) same ∙ taken)

    -- inside the part, or at the place before
    inner : (place : ℕ) → from ≤ place → suc place < to → IsCut after place → IsCut ms place
    inner place low high c =
        let here = some_there place (omega (arith, high)) in
        let next = some_there (suc place) high in
        let mark : given asker here.0 ≡ c.mark = same_Some _ _ (sym (inside place here.0 low (omega (arith, high)) here.1) ∙ c.there) in record {
          mark = here.0;
          there = here.1;
          unspent = unspent_before (given asker) spent_given here.0 (ap (λ (x : ByteMark). spent n (Some x)) mark ∙ c.unspent);
          other = λ same. c.other (sym mark ∙ ap (given asker) (same ∙ ap next_of next.1) ∙ sym (ap next_of (inside (suc place) next.0 (omega (arith, low)) high next.1)));
        }

    edge_before : (place : ℕ) → suc place ≡ from → IsCut after place → IsCut ms place
    edge_before place is c =
        let some = g.some in let whole = g.whole in
        let first = some_there from (omega (arith, some, whole)) in
        let there : slice_get ms place ≡ Some c.mark = sym (below place (omega (arith, is))) ∙ c.there in record {
          mark = c.mark;
          there = there;
          unspent = c.unspent;
          other = λ same. unlike first.0 c.mark (g.free from first.0 (omega arith) (omega (arith, some, whole)) first.1) (g.first place c.mark is there) (sym (same ∙ ap (λ i. next_of (slice_get ms i)) is ∙ ap next_of first.1));
        }

    same_there : (place : ℕ) → (suc place < from) ⊎ (to ≤ place) → IsCut after place → IsCut ms place
    same_there place (inl low) c = record {
      mark = c.mark;
      there = sym (below place (omega (arith, low))) ∙ c.there;
      unspent = c.unspent;
      other = λ is. c.other (is ∙ ap next_of (sym (below (suc place) low)));
    }
    same_there place (inr high) c = record {
      mark = c.mark;
      there = sym (above place high) ∙ c.there;
      unspent = c.unspent;
      other = λ is. c.other (is ∙ ap next_of (sym (above (suc place) (omega (arith, high)))));
    }

    -- but for the last place of the part
    but_last : (place : ℕ) → (suc place ≡ to → ⊥) → IsCut after place → IsCut ms place
    but_last place other c = ⊎_elim
        (λ low. ⊎_elim (λ under. same_there place (inl under) c) (λ at. edge_before place (omega (arith, low, at)) c) (cases_lt (suc place) from))
        (λ high. ⊎_elim (λ inner_one. inner place high inner_one c) (λ past. same_there place (inr (⊎_elim (λ less. absurd (other (omega (arith, less, past)))) (λ over. over) (cases_lt place to))) c) (cases_lt (suc place) to))
        (cases_lt place from)

    abbrev last : ℕ
    last = to - 1

    last_is : suc last ≡ to
    last_is = let some = g.some in let whole = g.whole in omega (arith, some, whole)

    last_there : (m : ByteMark) × (slice_get ms last ≡ Some m)
    last_there = some_there last (omega (arith, last_is))

    last_free : is_free_for asker last_there.0 ≡ true
    last_free = let some = g.some in let whole = g.whole in g.free last last_there.0 (omega (arith, some, whole, last_is)) (omega (arith, last_is)) last_there.1

    last_after : slice_get after last ≡ Some (given asker last_there.0)
    last_after = let some = g.some in let whole = g.whole in inside last last_there.0 (omega (arith, some, whole, last_is)) (omega (arith, last_is)) last_there.1

    pub one_more_given : cuts after ≤ suc (cuts ms)
    one_more_given = one_more last ms after (λ place other is. to_cut ms place (but_last place (λ same. other (let at = last_is in omega (arith, same, at))) (from_cut after place is)))

    free_unspent : (m : ByteMark) → is_free_for asker m ≡ true → spent asker (Some m) ≡ false
    free_unspent Acked free = absurd (true≢false (sym free))
    free_unspent (Held holder among) free = absurd (true≢false (sym free))
    free_unspent (Free among) free = not_true (contains asker among) free

    given_spent : (m : ByteMark) → is_free_for asker m ≡ true → spent asker (Some (given asker m)) ≡ true
    given_spent Acked free = absurd (true≢false (sym free))
    given_spent (Held holder among) free = absurd (true≢false (sym free))
    given_spent (Free among) free = contains-insert asker among

    -- behind what the path itself was granted there is no cut
    never_last : n ≡ asker → IsCut after last → ⊥
    never_last own c = true≢false (sym (subst (λ i. spent i (Some (given asker last_there.0)) ≡ true) (sym own) (given_spent last_there.0 last_free))
        ∙ ap (λ (x : ByteMark). spent n (Some x)) (same_Some _ _ (sym last_after ∙ c.there)) ∙ c.unspent)

    pub own_given : n ≡ asker → cuts after ≤ cuts ms
    own_given own = fewer ms after (λ place is. to_cut ms place (⊎_elim
        (λ at. absurd (never_last own (subst (λ i. IsCut after i) (let end = last_is in omega (arith, at, end)) (from_cut after place is))))
        (λ other. but_last place other (from_cut after place is))
        (cases_eq (suc place) to)))

    -- ---- where the part isn't limited

    module _ (past : ByteMark) (behind : slice_get ms to ≡ Some past) (taken : is_free_for asker past ≡ false) where
      was_apart : last_there.0 ≡ next_of (slice_get ms (suc last)) → ⊥
      was_apart same = unlike last_there.0 past last_free taken (same ∙ ap (λ i. next_of (slice_get ms i)) last_is ∙ ap next_of behind)

      kept_last : IsCut after last → IsCut ms last
      kept_last c = record {
        mark = last_there.0;
        there = last_there.1;
        unspent = unspent_before (given asker) spent_given last_there.0 (ap (λ (x : ByteMark). spent n (Some x)) (same_Some _ _ (sym last_after ∙ c.there)) ∙ c.unspent);
        other = was_apart;
      }

      kept : Keeps ms after
      kept place is = ⊎_elim
          (λ at. subst (λ i. cut_at ms i ≡ true) (let end = last_is in omega (arith, at, end)) (to_cut ms last (kept_last (subst (λ i. IsCut after i) (let end = last_is in omega (arith, at, end)) (from_cut after place is)))))
          (λ other. to_cut ms place (but_last place other (from_cut after place is)))
          (cases_eq (suc place) to)

      pub no_more_given : cuts after ≤ cuts ms
      no_more_given = fewer ms after kept

      was_cut : is_free_for asker last_there.0 ≡ true → n ≡ asker → IsCut ms last
      was_cut free own = record {
        mark = last_there.0;
        there = last_there.1;
        unspent = subst (λ i. spent i (Some last_there.0) ≡ false) (sym own) (free_unspent last_there.0 free);
        other = was_apart;
      }

      -- to the path itself
      pub one_fewer_given : n ≡ asker → cuts after < cuts ms
      one_fewer_given own = one_fewer last ms after kept (to_cut ms last (was_cut last_free own)) (by (cut_at after last) refl)
        where
          by : (c : Bool) → cut_at after last ≡ c → cut_at after last ≡ false
          by true is = absurd (never_last own (from_cut after last is))
          by false is = is
