-- What the books answer to a path, beside the moves of its lanes.
use Rattle.clean_finish.proofs.Words.{◌≡◌, sym, subst, ap, ◌∙◌, ℕ, ◌+◌, ◌-◌, ◌≤◌, min, max, Bool, true, false, cond, if◌then◌else◌, ⊎_elim, Option, List, []}
use Rattle.clean_finish.proofs.Words.{◌∷◌, ◌++◌, length, arith, suc, le_refl, zero, drop, replicate, fold, drop_of_length-le, cases_lt, eq-eqb, ne_eqb}
use Rattle.clean_finish.proofs.Words.{cases_eq, received, next_wanted, window, is_end, fin_after, acked_len, Acked, ByteMark, is_acked, data_ack, WriterIs}
use Rattle.clean_finish.proofs.Words.{end_known, AckOutAsksAsLanes, AckInHearsAsLanes}
use Rattle.send_book.specs.State.{Sending}

-- one more where the end is known there
one_at_end : (came total n : ℕ) → came ≤ 1 → n ≤ total
    → (if is_end (end_known came total) n then 1 else 0) ≡ min came ((n + 1) - total)
one_at_end zero total n few within = omega arith
one_at_end (suc c) total n few within = ⊎_elim
    (λ same. subst (λ (b : Bool). (if b then 1 else 0) ≡ min (suc c) ((n + 1) - total))
    (sym (eq-eqb total n same)) (omega (arith, same, few)))
    (λ apart. subst (λ (b : Bool). (if b then 1 else 0) ≡ min (suc c) ((n + 1) - total))
    (sym (ne_eqb total n apart)) (below apart))
    (cases_eq total n)
  where
    below : (total ≡ n → ⊥) → 0 ≡ min (suc c) ((n + 1) - total)
    below apart = omega (arith, apart, within)

pub asks_as_lanes : AckOutAsksAsLanes
asks_as_lanes k w b h is = record { next = next; edge = record { least = omega (arith, next, is, h); most = omega (arith, next, is, h) } }
  where
    one : (if is_end b.known_end (received b) then 1 else 0) ≡ min w.data_fin_came ((w.received + 1) - k.total)
    one = subst (λ (n : ℕ). (if is_end b.known_end n then 1 else 0) ≡ min w.data_fin_came ((w.received + 1) - k.total))
        is.received
        (subst (λ (o : Option ℕ). (if is_end o w.received then 1 else 0) ≡ min w.data_fin_came ((w.received + 1) - k.total))
        (sym is.known)
        (one_at_end w.data_fin_came k.total w.received (omega (arith, h)) (omega (arith, h))))

    next : next_wanted b ≡ data_ack k w
    next = omega (arith, one, is.received)

abbrev count : ℕ → List ByteMark → ℕ
count n marks = fold (λ m x. m + cond (is_acked x) 1 0) n marks

count_up : (n m : ℕ) (marks : List ByteMark) → m ≤ n → (count m marks ≤ count n marks) × (n ≤ count n marks)
count_up n m [] less = (less, le_refl n)
count_up n m (x ∷ marks) less =
    let rest = count_up (n + cond (is_acked x) 1 0) (m + cond (is_acked x) 1 0) marks (omega (arith, less)) in
    (rest.0, omega (arith, rest.1))

-- acknowledging a front counts all of it, and no fewer than before
front_counts : (j n m : ℕ) (marks : List ByteMark) → m ≤ n → j ≤ length marks
    → (count m marks ≤ count n (replicate j Acked ++ drop j marks)) × (n + j ≤ count n (replicate j Acked ++ drop j marks))
front_counts zero n m marks less within = let up = count_up n m marks less in (up.0, omega (arith, up.1))
front_counts (suc j) n m [] less within = absurd (omega (arith, within))
front_counts (suc j) n m (x ∷ marks) less within =
    let rest = front_counts j (n + 1) (m + cond (is_acked x) 1 0) marks (one x) (omega (arith, within)) in
    (rest.0, omega (arith, rest.1))
  where
    one : (y : ByteMark) → m + cond (is_acked y) 1 0 ≤ n + 1
    one y = by (is_acked y)
      where
        by : (acked : Bool) → m + cond acked 1 0 ≤ n + 1
        by true = omega (arith, less)
        by false = omega (arith, less)

-- no more marks are dropped than there are
drop_most : (n : ℕ) (marks : List ByteMark) → drop (min n (length marks)) marks ≡ drop n marks
drop_most n marks = ⊎_elim
    (λ over.
    let most : min n (length marks) ≡ length marks = omega (arith, over) in
    let all : length marks ≤ n = omega (arith, over) in
    ap (λ (j : ℕ). drop j marks) most
    ∙ (drop_of_length-le marks (le_refl (length marks)) ∙ sym (drop_of_length-le marks all)))
    (λ within. ap (λ (j : ℕ). drop j marks) (least within))
    (cases_lt (length marks) n)
  where
    least : n ≤ length marks → min n (length marks) ≡ n
    least within = omega (arith, within)

pub hears_as_lanes : AckInHearsAsLanes
hears_as_lanes k written closed acked next window a b now whole is =
    subst (λ (f : Bool). WriterIs k written closed (max acked next) a (if f then b else heard_by)) (sym now) (record {
      file = is.file;
      bytes = is.bytes;
      shut = is.shut;
      told = is.told;
      whole = is.whole;
      heard = omega (arith, counts, whole, is.heard);
      offers = is.offers;
      buffer = is.buffer;
      unaborted = is.unaborted;
      stays = is.stays;
    })
  where
    heard_by : Sending
    heard_by = record b {
      marks = replicate (min next (length b.marks)) Acked ++ drop next b.marks;
      edge = max b.edge (next + window);
      fin = fin_after next b;
    }

    counts : (acked_len b.marks ≤ acked_len heard_by.marks) × (0 + min next (length b.marks) ≤ acked_len heard_by.marks)
    counts = subst (λ (ms : List ByteMark). (acked_len b.marks ≤ acked_len (replicate (min next (length b.marks)) Acked ++ ms))
        × (0 + min next (length b.marks) ≤ acked_len (replicate (min next (length b.marks)) Acked ++ ms)))
        (drop_most next b.marks) (front_counts (min next (length b.marks)) 0 0 b.marks (le_refl 0) (omega arith))
