-- The marks of all bytes, from those that are kept.
use Rattle.std.proofs.Common.{◌≡◌, refl, sym, ◌∙◌, ap, subst, ℕ, zero, suc, ◌+◌, ◌-◌, ◌^◌, ◌<◌, ◌≤◌, min, max, Bool, true, false, not, ◌==◌, if◌then◌else◌, ◌⊎◌, ⊎_elim, List, [], ◌∷◌, ◌++◌, length, take, drop, map, replicate, count_by, position, Option, Some, None, Result, Ok, Err, IfSome, OnOk, OnErr, arith, append_assoc}
use Rattle.std.proofs.lemmas.Grind.{common_steps}
use Rattle.std.proofs.lemmas.Bool.{cases_lt, and_parts}
use Rattle.std.proofs.lemmas.List.{append-nil}
use Rattle.std.proofs.lemmas.Iterator.Adapters.{position_from-zero}
use Rattle.std.specs.List.{list_all, prefix_len, position_from}
use Rattle.range_marks.specs.declared.run.Run.{Run}
use Rattle.range_marks.specs.Marks.{Marks, marks_len, followed_by, part, after_extend, after_drop_front, no_marks}
use Rattle.range_marks.specs.Runs.{LieSideBySide, AreRunsOf}
use Rattle.range_marks.proofs.Cutting.{drop_run, drop_in_run, take_run}
use Rattle.send_book.specs.declared.call.Span.{Span}
use Rattle.send_book.specs.declared.mark.ByteMark.{ByteMark}
use Rattle.send_book.specs.declared.mark.ByteMark.TheVariants.{Acked, Held, Free}
use Rattle.send_book.specs.declared.runs.Move.{Move}
use Rattle.send_book.specs.declared.runs.Move.TheVariants.{Keep, Give, TakeBack}
use Rattle.send_book.specs.Tried.{no_paths}
use Rattle.send_book.specs.Marks.{is_acked, is_held_rightly, is_free_for, is_held_by, given, returned}
use Rattle.send_book.specs.State.{Sending, acked_len, Tile}
use Rattle.send_book.specs.Steps.{is_for, tried_first, change_part, decision, is_future, fin_after, after_ack, after_grant, after_return}
use Rattle.send_book.specs.Kept.{all_marks, IsKept, first_in, free_up_to, held_in, gathered_in, moved_in, moved, after_move, LiesWithin}
use Rattle.send_book.proofs.PathSets.{contains-insert}
use Rattle.send_book.proofs.RunMarks.{position_from-no, count_by-same, count_by-none, list_all-yes, first_in-position, free_up_to-prefix, held_in-count, gathered_in-first, moved_in-part, map-same}

drop-replicate_all : (n : ℕ) (ms : List ByteMark) → drop n (replicate n Acked ++ ms) ≡ ms
drop-replicate_all zero ms = refl
drop-replicate_all (suc n) ms = drop-replicate_all n ms

replicate-add : (a b n : ℕ) → n ≡ a + b → replicate n Acked ≡ replicate a Acked ++ replicate b Acked
replicate-add zero b n e = ap (λ k. replicate k Acked) (omega (arith, e))
replicate-add (suc a) b zero e = absurd (omega (arith, e))
replicate-add (suc a) b (suc n) e = ap (λ ms. Acked ∷ ms) (replicate-add a b n (omega (arith, e)))

drop-past : {X : Type 0} (n : ℕ) (xs : List X) → length xs ≤ n → drop n xs ≡ []
drop-past zero [] past = refl
drop-past (suc n) [] past = refl
drop-past zero (x ∷ xs) past = absurd (omega (arith, past))
drop-past (suc n) (x ∷ xs) past = drop-past n xs (omega (arith, past))

pub take-past : {X : Type 0} (n : ℕ) (xs : List X) → length xs ≤ n → take n xs ≡ xs
take-past zero [] past = refl
take-past (suc n) [] past = refl
take-past zero (x ∷ xs) past = absurd (omega (arith, past))
take-past (suc n) (x ∷ xs) past = ap (λ rest. x ∷ rest) (take-past n xs (omega (arith, past)))

list_all-drop : {X : Type 0} (p : X → Bool) (n : ℕ) (xs : List X) → list_all p xs ≡ true → list_all p (drop n xs) ≡ true
list_all-drop p zero xs all = all
list_all-drop p (suc n) [] all = refl
list_all-drop p (suc n) (x ∷ xs) all = list_all-drop p n xs (and_parts (p x) _ all).1

list_all-append : {X : Type 0} (p : X → Bool) (xs ys : List X) → list_all p xs ≡ true → list_all p ys ≡ true → list_all p (xs ++ ys) ≡ true
list_all-append p [] ys all others = others
list_all-append p (x ∷ xs) ys all others =
    let both = and_parts (p x) _ all in rw (both.0, list_all-append p xs ys both.1 others) refl

list_all-take : {X : Type 0} (p : X → Bool) (n : ℕ) (xs : List X) → list_all p xs ≡ true → list_all p (take n xs) ≡ true
list_all-take p zero xs all = refl
list_all-take p (suc n) [] all = refl
list_all-take p (suc n) (x ∷ xs) all =
    let both = and_parts (p x) _ all in rw (both.0, list_all-take p n xs both.1) refl

list_all-moved : (p : ByteMark → Bool) (move : Move) → ((m : ByteMark) → p m ≡ true → p (moved move m) ≡ true)
    → (ms : List ByteMark) → list_all p ms ≡ true → list_all p (map (moved move) ms) ≡ true
list_all-moved p move keeps [] all = refl
list_all-moved p move keeps (m ∷ ms) all =
    let both = and_parts (p m) _ all in rw (keeps m both.0, list_all-moved p move keeps ms both.1) refl

unacked-if : (b : Bool) (one other : ByteMark) → not (is_acked one) ≡ true → not (is_acked other) ≡ true → not (is_acked (if b then one else other)) ≡ true
unacked-if true one other h k = h
unacked-if false one other h k = k

held-if : (b : Bool) (one other : ByteMark) → is_held_rightly one ≡ true → is_held_rightly other ≡ true → is_held_rightly (if b then one else other) ≡ true
held-if true one other h k = h
held-if false one other h k = k

moved-unacked : (move : Move) (m : ByteMark) → not (is_acked m) ≡ true → not (is_acked (moved move m)) ≡ true
moved-unacked Keep m h = h
moved-unacked (Give path) Acked h = h
moved-unacked (Give path) (Held holder tried) h = refl
moved-unacked (Give path) (Free tried) h = refl
moved-unacked (TakeBack path) Acked h = h
moved-unacked (TakeBack path) (Held holder tried) h = unacked-if (holder == path) (Free tried) (Held holder tried) refl refl
moved-unacked (TakeBack path) (Free tried) h = refl

moved-held : (move : Move) (m : ByteMark) → is_held_rightly m ≡ true → is_held_rightly (moved move m) ≡ true
moved-held Keep m h = h
moved-held (Give path) Acked h = refl
moved-held (Give path) (Held holder tried) h = h
moved-held (Give path) (Free tried) h = contains-insert path tried
moved-held (TakeBack path) Acked h = refl
moved-held (TakeBack path) (Held holder tried) h = held-if (holder == path) (Free tried) (Held holder tried) refl h
moved-held (TakeBack path) (Free tried) h = refl

-- what is known of the acknowledged bytes
pub acked_len-all : (kept : Marks ByteMark) → list_all (λ m. not (is_acked m)) kept.marks ≡ true → acked_len (all_marks kept) ≡ kept.forgotten
acked_len-all kept unacked =
    count_by-same is_acked kept.forgotten Acked kept.marks ∙ rw (count_by-none is_acked kept.marks unacked) (omega arith)

pub drop-all : (kept : Marks ByteMark) → drop kept.forgotten (all_marks kept) ≡ kept.marks
drop-all kept = drop-replicate_all kept.forgotten kept.marks

pub length-all : (kept : Marks ByteMark) → length (all_marks kept) ≡ marks_len kept
length-all kept = grind (arith, common_steps)

-- the first byte that a path may take
pub first_free-runs : (path : ℕ) (kept : Marks ByteMark) (runs : List (Run ByteMark)) → AreRunsOf kept runs
    → first_in path runs ≡ position (is_free_for path) (all_marks kept)
first_free-runs path kept runs are =
    first_in-position path runs kept.forgotten _ are.places
    ∙ ap (position_from (is_free_for path) kept.forgotten) are.marks
    ∙ sym (position_from-no (is_free_for path) kept.forgotten Acked kept.marks 0 kept.forgotten refl (omega arith))
    ∙ sym (position_from-zero (is_free_for path) (all_marks kept))

first_in-after : (path : ℕ) (runs : List (Run ByteMark)) (from to : ℕ) → LieSideBySide from to runs → IfSome (first_in path runs) (λ place. from ≤ place)
first_in-after path [] from to lie = tt
first_in-after path (run ∷ runs) from to lie =
    (elim (is_free_for path run.mark) as (λ b. IfSome (first_in path runs) (λ place. run.to ≤ place) → IfSome (if b then Some run.from else first_in path runs) (λ place. from ≤ place))
    [ true ↦ λ rest. omega (arith, lie.0) | false ↦ λ rest. later (first_in path runs) rest ]) (first_in-after path runs run.to to lie.2)
  where
    later : (o : Option ℕ) → IfSome o (λ place. run.to ≤ place) → IfSome o (λ place. from ≤ place)
    later None h = tt
    later (Some place) h = omega (arith, h, lie.1)

pub first_free-after : (path : ℕ) (kept : Marks ByteMark) (runs : List (Run ByteMark)) → AreRunsOf kept runs
    → list_all (λ m. not (is_acked m)) kept.marks ≡ true
    → (o : Option ℕ) → o ≡ first_in path runs → IfSome o (λ place. acked_len (all_marks kept) ≤ place)
first_free-after path kept runs are unacked o e =
    rw (acked_len-all kept unacked, e) (first_in-after path runs kept.forgotten _ are.places)

-- how many bytes a path may take from a place on
pub free-runs : (path from : ℕ) (kept : Marks ByteMark) (runs : List (Run ByteMark)) → AreRunsOf kept runs → kept.forgotten ≤ from
    → free_up_to path from runs ≡ from + prefix_len (is_free_for path) (drop from (all_marks kept))
free-runs path from kept runs are after =
    free_up_to-prefix path runs kept.forgotten _ from are.places after
    ∙ rw (are.marks, drop_run kept.forgotten from (from - kept.forgotten) Acked kept.marks after refl) refl

-- how many bytes a path holds
pub held-runs : (path : ℕ) (kept : Marks ByteMark) (runs : List (Run ByteMark)) → AreRunsOf kept runs → marks_len kept < 2 ^ 63
    → held_in path 0 runs ≡ count_by (is_held_by path) (all_marks kept)
held-runs path kept runs are bound =
    held_in-count path runs kept.forgotten _ 0 are.places (omega arith) bound
    ∙ rw (are.marks, count_by-same (is_held_by path) kept.forgotten Acked kept.marks) (omega arith)

pub gathered-runs : (path : ℕ) (kept : Marks ByteMark) (runs : List (Run ByteMark)) → AreRunsOf kept runs
    → list_all (λ m. not (is_acked m)) kept.marks ≡ true
    → gathered_in path false runs ≡ tried_first path (drop (acked_len (all_marks kept)) (all_marks kept))
gathered-runs path kept runs are unacked =
    gathered_in-first path runs kept.forgotten _ are.places
    ∙ rw (are.marks, acked_len-all kept unacked, drop-all kept) refl

-- an acknowledgement
pub ack-marks : (next : ℕ) (kept : Marks ByteMark)
    → all_marks (after_drop_front (min next (marks_len kept)) kept)
    ≡ replicate (min next (length (all_marks kept))) Acked ++ drop next (all_marks kept)
ack-marks next kept = rw (length-all kept) (⊎_elim within past (cases_lt next kept.forgotten))
  where
    f : ℕ
    f = kept.forgotten

    within : next < kept.forgotten → all_marks (after_drop_front (min next (marks_len kept)) kept)
        ≡ replicate (min next (marks_len kept)) Acked ++ drop next (all_marks kept)
    within below =
        let least : min next (marks_len kept) ≡ next = omega (arith, below) in
        let most : max kept.forgotten next ≡ kept.forgotten = omega (arith, below) in
        let none : next - kept.forgotten ≡ 0 = omega (arith, below) in
        rw (least, most, none, drop_in_run kept.forgotten next (kept.forgotten - next) Acked kept.marks (omega (arith, below)) refl)
        (ap (λ ms. ms ++ kept.marks) (replicate-add next (kept.forgotten - next) kept.forgotten (omega (arith, below)))
        ∙ append_assoc (replicate next Acked) (replicate (kept.forgotten - next) Acked) kept.marks)

    past : kept.forgotten ≤ next → all_marks (after_drop_front (min next (marks_len kept)) kept)
        ≡ replicate (min next (marks_len kept)) Acked ++ drop next (all_marks kept)
    past above =
        let most : max kept.forgotten (min next (marks_len kept)) ≡ min next (marks_len kept) = omega (arith, above) in
        rw (most, drop_run kept.forgotten next (next - kept.forgotten) Acked kept.marks above refl)
        (ap (λ ms. replicate (min next (marks_len kept)) Acked ++ ms) (same (cases_lt next (marks_len kept))))
      where
        same : (next < marks_len kept) ⊎ (marks_len kept ≤ next)
            → drop (min next (marks_len kept) - kept.forgotten) kept.marks ≡ drop (next - kept.forgotten) kept.marks
        same = ⊎_elim (λ under. ap (λ n. drop n kept.marks) (omega (arith, under)))
            (λ over. drop-past _ kept.marks (omega (arith, over, above)) ∙ sym (drop-past _ kept.marks (omega (arith, over, above))))

pub ack-kept : (next : ℕ) (written : List ℕ) (kept : Marks ByteMark) → IsKept written kept
    → IsKept written (after_drop_front (min next (marks_len kept)) kept)
ack-kept next written kept is = record {
  whole = grind (arith, common_steps, is.whole);
  unacked = list_all-drop _ _ kept.marks is.unacked;
  held = list_all-drop _ _ kept.marks is.held;
}

-- more bytes
list_all-replicate : (p : ByteMark → Bool) (n : ℕ) (m : ByteMark) → p m ≡ true → list_all p (replicate n m) ≡ true
list_all-replicate p zero m h = refl
list_all-replicate p (suc n) m h = rw (h, list_all-replicate p n m h) refl

pub write-kept : (written bytes : List ℕ) (kept : Marks ByteMark) → IsKept written kept
    → IsKept (written ++ bytes) (after_extend (length bytes) (Free no_paths) kept)
write-kept written bytes kept is = record {
  whole = grind (arith, common_steps, is.whole);
  unacked = list_all-append _ kept.marks _ is.unacked (list_all-replicate _ (length bytes) (Free no_paths) refl);
  held = list_all-append _ kept.marks _ is.held (list_all-replicate _ (length bytes) (Free no_paths) refl);
}

-- a moved span
list_all-changed : (p : ByteMark → Bool) (move : Move) → ((m : ByteMark) → p m ≡ true → p (moved move m) ≡ true)
    → (a n b : ℕ) (ms : List ByteMark) → list_all p ms ≡ true
    → list_all p (take a ms ++ (map (moved move) (take n (drop a ms)) ++ drop b ms)) ≡ true
list_all-changed p move keeps a n b ms all =
    let first : list_all p (take a ms) ≡ true = list_all-take p a ms all in
    let part : list_all p (take n (drop a ms)) ≡ true = list_all-take p n (drop a ms) (list_all-drop p a ms all) in
    list_all-append p (take a ms) (map (moved move) (take n (drop a ms)) ++ drop b ms) first
    (list_all-append p (map (moved move) (take n (drop a ms))) (drop b ms) (list_all-moved p move keeps (take n (drop a ms)) part)
    (list_all-drop p b ms all))

pub move-kept : (move : Move) (span : Span) (written : List ℕ) (kept : Marks ByteMark) → IsKept written kept
    → kept.forgotten ≤ span.from → span.from ≤ span.to → span.to ≤ marks_len kept → IsKept written (after_move move span kept)
move-kept move span written kept is after order within =
    let from : ℕ = span.from - kept.forgotten in
    let to : ℕ = span.to - kept.forgotten in
    record {
      whole = is.whole ∙ grind (arith, common_steps);
      unacked = list_all-changed (λ m. not (is_acked m)) move (moved-unacked move) from (to - from) to kept.marks is.unacked;
      held = list_all-changed is_held_rightly move (moved-held move) from (to - from) to kept.marks is.held;
    }

take-all : (n : ℕ) (ms : List ByteMark) (m : ℕ) → m ≤ n → take n (replicate m Acked ++ ms) ≡ replicate m Acked ++ take (n - m) ms
take-all n ms m after = take_run m n (n - m) Acked ms after refl

pub move-marks : (move : Move) (span : Span) (kept : Marks ByteMark) → kept.forgotten ≤ span.from → span.from ≤ span.to
    → all_marks (after_move move span kept) ≡ change_part (moved move) span (all_marks kept)
move-marks move span kept after order =
    let f : ℕ = kept.forgotten in
    let count : (span.to - kept.forgotten) - (span.from - kept.forgotten) ≡ span.to - span.from = omega (arith, after, order) in
    rw (
      take-all span.from kept.marks kept.forgotten after,
      drop_run kept.forgotten span.from (span.from - kept.forgotten) Acked kept.marks after refl,
      drop_run kept.forgotten span.to (span.to - kept.forgotten) Acked kept.marks (omega (arith, after, order)) refl,
      count,
    )
    (sym (append_assoc (replicate kept.forgotten Acked) (take (span.from - kept.forgotten) kept.marks) _))

-- the marks from one place on and below another, moved
pub part-runs : (move : Move) (at to : ℕ) (kept : Marks ByteMark) (runs : List (Run ByteMark)) → AreRunsOf kept runs
    → kept.forgotten ≤ at → at ≤ to → moved_in move at to runs ≡ map (moved move) (part at to kept)
part-runs move at to kept runs are after order =
    moved_in-part move runs kept.forgotten _ at to are.places after order ∙ rw are.marks refl

pub part-len : (move : Move) (at to : ℕ) (kept new : Marks ByteMark) → kept.forgotten ≤ at → at ≤ to → to ≤ marks_len kept
    → marks_len new ≡ at → marks_len (followed_by (map (moved move) (part at to kept)) new) ≡ to
part-len move at to kept new after order within len = grind (arith, common_steps)

map-Keep : (ms : List ByteMark) → map (moved Keep) ms ≡ ms
map-Keep [] = refl
map-Keep (m ∷ ms) = ap (λ rest. m ∷ rest) (map-Keep ms)

-- three parts, of which the middle one is moved
pub moved-parts : (move : Move) (span : Span) (kept m0 m1 m2 m3 m4 : Marks ByteMark) (len : ℕ)
    → kept.forgotten ≤ span.from → span.from ≤ span.to → span.to ≤ marks_len kept → len ≡ marks_len kept
    → m0 ≡ after_extend kept.forgotten Acked no_marks
    → m1 ≡ followed_by (map (moved Keep) (part kept.forgotten span.from kept)) m0
    → m2 ≡ followed_by (map (moved move) (part span.from span.to kept)) m1
    → m3 ≡ followed_by (map (moved Keep) (part span.to len kept)) m2
    → m4 ≡ after_drop_front kept.forgotten m3 → m4 ≡ after_move move span kept
moved-parts move span kept m0 m1 m2 m3 m4 len after order within all e0 e1 e2 e3 e4 =
    let none : kept.forgotten - kept.forgotten ≡ 0 = omega arith in
    let whole : kept.forgotten - 0 ≡ kept.forgotten = omega arith in
    let most : max 0 kept.forgotten ≡ kept.forgotten = omega arith in
    let count : (span.to - kept.forgotten) - (span.from - kept.forgotten) ≡ span.to - span.from = omega (arith, after, order) in
    let last : take (len - span.to) (drop (span.to - kept.forgotten) kept.marks) ≡ drop (span.to - kept.forgotten) kept.marks =
    take-past _ _ (grind (arith, common_steps)) in
    rw (e4, e3, e2, e1, e0, map-Keep (part kept.forgotten span.from kept), map-Keep (part span.to len kept), last, none, whole, most, count)
    (ap (λ ms. record { forgotten = kept.forgotten; marks = ms })
    (ap (drop kept.forgotten) (append_assoc _ _ (drop (span.to - kept.forgotten) kept.marks)
    ∙ append_assoc _ (take (span.from - kept.forgotten) kept.marks) _)
    ∙ drop-replicate_all kept.forgotten _))

-- the book's marks after a call

pub first_free-value : (path : ℕ) (kept : Marks ByteMark) (owner : Option ℕ) (runs : List (Run ByteMark)) (first : Option ℕ)
    → AreRunsOf kept runs → is_for path owner ≡ true → first ≡ first_in path runs
    → first ≡ (if is_for path owner then position (is_free_for path) (all_marks kept) else None)
first_free-value path kept owner runs first are for e = rw for (e ∙ first_free-runs path kept runs are)

pub run_len-value : (path from up_to : ℕ) (kept : Marks ByteMark) (runs : List (Run ByteMark)) → AreRunsOf kept runs
    → list_all (λ m. not (is_acked m)) kept.marks ≡ true → acked_len (all_marks kept) ≤ from → up_to ≡ free_up_to path from runs
    → up_to ≡ from + prefix_len (is_free_for path) (drop from (all_marks kept))
run_len-value path from up_to kept runs are unacked after e =
    e ∙ free-runs path from kept runs are (subst (λ k. k ≤ from) (acked_len-all kept unacked) after)

-- the span lies among the kept marks
pub within-kept : (span : Span) (written : List ℕ) (kept : Marks ByteMark) (now : Sending) → IsKept written kept
    → all_marks kept ≡ now.marks → written ≡ now.written → LiesWithin span (acked_len now.marks) (length now.written)
    → LiesWithin span kept.forgotten (marks_len kept)
within-kept span written kept now is e f within =
    let acked : acked_len now.marks ≡ kept.forgotten = ap acked_len (sym e) ∙ acked_len-all kept is.unacked in
    let all : length now.written ≡ marks_len kept = ap length (sym f) ∙ is.whole in
    record {
      after = subst (λ k. k ≤ span.from) acked within.after;
      order = within.order;
      before = subst (λ k. span.to ≤ k) all within.before;
    }

pub moved-chain : (move : Move) (span : Span) (kept m0 m1 m2 m3 m4 : Marks ByteMark) (f len : ℕ)
    → kept.forgotten ≤ span.from → span.from ≤ span.to → span.to ≤ marks_len kept → f ≡ kept.forgotten → len ≡ marks_len kept
    → m0 ≡ after_extend f Acked no_marks
    → m1 ≡ followed_by (map (moved Keep) (part (marks_len m0) span.from kept)) m0
    → marks_len m1 ≡ span.from
    → m2 ≡ followed_by (map (moved move) (part (marks_len m1) span.to kept)) m1
    → marks_len m2 ≡ span.to
    → m3 ≡ followed_by (map (moved Keep) (part (marks_len m2) len kept)) m2
    → m4 ≡ after_drop_front f m3 → m4 ≡ after_move move span kept
moved-chain move span kept m0 m1 m2 m3 m4 f len after order within first all e0 e1 l1 e2 l2 e3 e4 =
    let l0 : marks_len m0 ≡ kept.forgotten = rw (e0, first) (grind (arith, common_steps)) in
    moved-parts move span kept m0 m1 m2 m3 m4 len after order within all (e0 ∙ rw first refl)
    (e1 ∙ rw l0 refl) (e2 ∙ rw l1 refl) (e3 ∙ rw l2 refl) (e4 ∙ rw first refl)

-- what the book is after a call
pub ack-book : (next window edge : ℕ) (fin : Bool) (old now : Sending) (kept new : Marks ByteMark) → old ≡ now → old.marks ≡ all_marks kept
    → is_future next now ≡ false → new ≡ after_drop_front (min next (marks_len kept)) kept → edge ≡ max old.edge (next + window)
    → fin ≡ fin_after next now → record old { marks = all_marks new; edge = edge; fin = fin } ≡ after_ack next window now
ack-book next window edge fin old now kept new same marks due grown e f =
    subst (λ n. is_future next n ≡ false → fin ≡ fin_after next n
    → record old { marks = all_marks new; edge = edge; fin = fin } ≡ after_ack next window n) same
    (λ due f. rw (due, e, f, marks, grown, ack-marks next kept) refl) due f

pub grant-book : (path max : ℕ) (standby : Bool) (span : Span) (old now : Sending) (kept new : Marks ByteMark) → old ≡ now
    → old.marks ≡ all_marks kept → Ok span ≡ decision path max standby now → new ≡ after_move (Give path) span kept
    → kept.forgotten ≤ span.from → span.from ≤ span.to → record old { marks = all_marks new } ≡ after_grant path max standby now
grant-book path max standby span old now kept new same marks decided given after order =
    subst (λ n. Ok span ≡ decision path max standby n → record old { marks = all_marks new } ≡ after_grant path max standby n) same
    (λ decided. rw (← decided, given, move-marks (Give path) span kept after order, marks) refl) decided

return-marks : (path : ℕ) (span : Span) (kept : Marks ByteMark) → span.from ≡ kept.forgotten → span.to ≡ marks_len kept
    → all_marks (after_move (TakeBack path) span kept) ≡ map (returned path) (all_marks kept)
return-marks path span kept first last =
    let none : span.from - kept.forgotten ≡ 0 = omega (arith, first) in
    let all : span.to - kept.forgotten ≡ length kept.marks = omega (arith, last) in
    let whole : length kept.marks - 0 ≡ length kept.marks = omega arith in
    rw (
      none,
      all,
      whole,
      take-past (length kept.marks) kept.marks (omega arith),
      drop-past (length kept.marks) kept.marks (omega arith),
      append-nil (map (returned path) kept.marks),
    )
    (sym (map-same (returned path) kept.forgotten Acked kept.marks))

pub return-book : (path : ℕ) (span : Span) (old now : Sending) (kept new : Marks ByteMark) → old ≡ now → old.marks ≡ all_marks kept
    → span.from ≡ kept.forgotten → span.to ≡ marks_len kept → new ≡ after_move (TakeBack path) span kept
    → record old { marks = all_marks new } ≡ after_return path now
return-book path span old now kept new same marks first last taken =
    subst (λ n. record old { marks = all_marks new } ≡ after_return path n) same
    (rw (taken, return-marks path span kept first last, marks) refl)

pub part-appended : (move : Move) (to : ℕ) (kept old new : Marks ByteMark) (runs : List (Run ByteMark)) → AreRunsOf kept runs
    → kept.forgotten ≤ marks_len old → marks_len old ≤ to → new ≡ followed_by (moved_in move (marks_len old) to runs) old
    → new ≡ followed_by (map (moved move) (part (marks_len old) to kept)) old
part-appended move to kept old new runs are after order e =
    e ∙ ap (λ ms. followed_by ms old) (part-runs move (marks_len old) to kept runs are after order)

-- bytes and marks that were appended, or not
pub write-either : {T E : Type 0} (r : Result T E) (written bytes new_written : List ℕ) (kept new : Marks ByteMark) → IsKept written kept
    → OnOk r (new_written ≡ written ++ bytes) → OnOk r (new ≡ after_extend (length bytes) (Free no_paths) kept)
    → OnErr r (new_written ≡ written) → OnErr r (new ≡ kept) → IsKept new_written new
write-either (Ok x) written bytes new_written kept new is e f g h = rw (e, f) (write-kept written bytes kept is)
write-either (Err x) written bytes new_written kept new is e f g h = rw (g, h) is

pub tile : (b now : Sending) (written : List ℕ) (kept : Marks ByteMark) → IsKept written kept → b ≡ now → b.written ≡ written
    → b.marks ≡ all_marks kept → Tile now
tile b now written kept is same bytes marks =
    let none : kept.forgotten - kept.forgotten ≡ 0 = omega arith in
    let first : take (acked_len (all_marks kept)) (all_marks kept) ≡ replicate (acked_len (all_marks kept)) Acked =
    rw (acked_len-all kept is.unacked, take-all kept.forgotten kept.marks kept.forgotten (omega arith), none) (append-nil _) in
    subst Tile same (record {
      whole = ap length marks ∙ length-all kept ∙ sym is.whole ∙ ap length (sym bytes);
      acked_first = rw marks first;
      held = rw marks (list_all-yes is_held_rightly kept.forgotten Acked kept.marks refl ∙ is.held);
    })
