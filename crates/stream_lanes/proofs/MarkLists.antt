-- Lists of marks: which bytes are spent, which are acknowledged, which are new, under what the calls of a send book do.
use Rattle.stream_lanes.proofs.Words.{◌≡◌, refl, sym, ◌∙◌, ap, subst, ℕ, zero, suc, ◌+◌, ◌-◌, ◌<◌, ◌≤◌, min, max, Bool, true, false, not, cond, nat_lt, ◌==◌}
use Rattle.stream_lanes.proofs.Words.{⊎_elim, List, [], ◌∷◌, ◌++◌, length, get_or, take, drop, map, replicate, Option, Some, None, Result, Ok, Err, position}
use Rattle.stream_lanes.proofs.Words.{if◌then◌else◌, arith, ◌⊎◌, both_ways, eqb-true, cases_lt, ltb-true, slice_get, position_or_len, length-take, length-drop}
use Rattle.stream_lanes.proofs.Words.{map-append, take-append-drop, drop-drop, length-replicate, option_map, slice_get_within, get_or_from_slice_get}
use Rattle.stream_lanes.proofs.Words.{slice_get-map, Span, Why, Sending, acked_len, decision, change_part, first_free, is_for, span_at, run_len}
use Rattle.stream_lanes.proofs.Words.{slice_get-changed_above, slice_get-changed_inside, slice_get-append_left, slice_get-append_right, slice_get-changed_below}
use Rattle.stream_lanes.proofs.Words.{ByteMark, Acked, Held, Free, is_acked, is_free_for, returned, has_tried, is_untouched, is_held_rightly, MayTake}
use Rattle.stream_lanes.proofs.Words.{spent-given, spent-not_free, no_paths, contains, has_none, insert, Every, spent, spent_count, AreAcked, AreNew, tried}
use Rattle.stream_lanes.proofs.Words.{IsHeldRightly}
use Rattle.std.proofs.lemmas.List.Sums.{sum_by-append, sum_by-cons, fails_before_first, passes_at_first}
use Rattle.send_book.specs.declared.call.Why.TheVariants.{Ended, Backup, WindowShut}
use Rattle.send_book.specs.Marks.{given}
use Rattle.stream_lanes.proofs.Lists.{in_append, in_drop, in_take, in_map, in_replicate, item_at, Every-append}
use Rattle.send_book.proofs.PathSets.{contains-insert}
use Rattle.std.specs.Prelude.{slice_index_or}

-- a byte as it was written: no path has tried it, each may take it, and it isn't acknowledged
none_contains : (path : ℕ) (paths : List Bool) → has_none paths ≡ true → contains path paths ≡ false
none_contains path [] e = refl
none_contains path (true ∷ paths) e = cc
none_contains zero (false ∷ paths) e = refl
none_contains (suc path) (false ∷ paths) e = none_contains path paths e

pub untouched_unspent : (path : ℕ) (m : ByteMark) → is_untouched m ≡ true → spent path (Some m) ≡ false
untouched_unspent path Acked e = cc
untouched_unspent path (Held holder tried) e = cc
untouched_unspent path (Free tried) e = none_contains path tried e

untouched_free : (path : ℕ) (m : ByteMark) → is_untouched m ≡ true → is_free_for path m ≡ true
untouched_free path Acked e = cc
untouched_free path (Held holder tried) e = cc
untouched_free path (Free tried) e = ap not (none_contains path tried e)

returned_untouched : (path : ℕ) (m : ByteMark) → is_untouched m ≡ true → is_untouched (returned path m) ≡ true
returned_untouched path Acked e = cc
returned_untouched path (Held holder tried) e = cc
returned_untouched path (Free tried) e = e

acked_touched : (m : ByteMark) → is_acked m ≡ true → is_untouched m ≡ true → ⊥
acked_touched = elim [ Acked ↦ λ e new. cc | Held holder tried ↦ λ e new. cc | Free tried ↦ λ e new. cc ]

-- where each spent byte stays spent, as many are spent at least
pub count_grows : (path : ℕ) (ms ns : List ByteMark)
    → ((place : ℕ) → spent path (slice_get ms place) ≡ true → spent path (slice_get ns place) ≡ true) → spent_count path ms ≤ spent_count path ns
count_grows path [] ns h = omega arith
count_grows path (m ∷ ms) [] h =
    let none : spent path (Some m) ≡ false = (elim (spent path (Some m)) as (λ b. spent path (Some m) ≡ b → b ≡ false)
    [ true ↦ λ e. absurd (both_ways false refl (h 0 e)) | false ↦ λ e. refl ]) refl in
    let rest = count_grows path ms [] (λ place e. h (suc place) e) in
    omega (arith, sum_by-cons (λ (x : ByteMark). cond (spent path (Some x)) 1 0) m ms, ap (λ b. cond {A = ℕ} b 1 0) none, rest)
count_grows path (m ∷ ms) (n ∷ ns) h =
    let rest = count_grows path ms ns (λ place e. h (suc place) e) in
    let head : cond {A = ℕ} (spent path (Some m)) 1 0 ≤ cond {A = ℕ} (spent path (Some n)) 1 0 = at (spent path (Some m)) (spent path (Some n)) (h 0) in
    omega (arith, sum_by-cons (λ (x : ByteMark). cond (spent path (Some x)) 1 0) m ms, sum_by-cons (λ (x : ByteMark). cond (spent path (Some x)) 1 0) n ns, head, rest)
  where
    at : (b c : Bool) → (b ≡ true → c ≡ true) → cond {A = ℕ} b 1 0 ≤ cond {A = ℕ} c 1 0
    at true true k = omega arith
    at true false k = absurd (both_ways false refl (k refl))
    at false c k = omega arith

pub count_within : (path : ℕ) (ms : List ByteMark) → spent_count path ms ≤ length ms
count_within path [] = omega arith
count_within path (m ∷ ms) =
    let rest = count_within path ms in
    omega (arith, sum_by-cons (λ (x : ByteMark). cond (spent path (Some x)) 1 0) m ms, at (spent path (Some m)), rest)
  where
    at : (b : Bool) → cond {A = ℕ} b 1 0 ≤ 1
    at = elim [ true ↦ omega arith | false ↦ omega arith ]

-- a list is its first part, a part from there on, and the rest
pub three_parts : {X : Type 0} (from n to : ℕ) (xs : List X) → to ≡ from + n → take from xs ++ (take n (drop from xs) ++ drop to xs) ≡ xs
three_parts from n to xs whole =
    let rest : drop n (drop from xs) ≡ drop to xs = drop-drop n from xs ∙ ap (λ k. drop k xs) (sym whole) in
    ap (λ ys. take from xs ++ (take n (drop from xs) ++ ys)) (sym rest)
    ∙ ap (λ ys. take from xs ++ ys) (take-append-drop n (drop from xs))
    ∙ take-append-drop from xs

-- the bytes of a run that a path may take: none is spent, and each one is once it is given
one_counts : (path : ℕ) (m : ByteMark) → is_free_for path m ≡ true → (spent path (Some m) ≡ false) × (spent path (Some (given path m)) ≡ true)
one_counts path m free = (at (spent path (Some m)) refl, spent-given path m free)
  where
    at : (b : Bool) → spent path (Some m) ≡ b → b ≡ false
    at true e = absurd (both_ways _ (spent-not_free path m e) free)
    at false e = refl

run_counts : (path : ℕ) (ms : List ByteMark) → ((i : ℕ) (m : ByteMark) → slice_get ms i ≡ Some m → is_free_for path m ≡ true)
    → (spent_count path ms ≡ 0) × (spent_count path (map (given path) ms) ≡ length ms)
run_counts path [] free = (refl, refl)
run_counts path (m ∷ ms) free =
    let rest = run_counts path ms (λ i x e. free (suc i) x e) in
    let first = one_counts path m (free 0 m refl) in (
      omega (arith, sum_by-cons (λ (x : ByteMark). cond (spent path (Some x)) 1 0) m ms, ap (λ b. cond {A = ℕ} b 1 0) first.0, rest.0),
      omega (
        arith,
        sum_by-cons (λ (x : ByteMark). cond (spent path (Some x)) 1 0) (given path m) (map (given path) ms),
        ap (λ b. cond {A = ℕ} b 1 0) first.1,
        rest.1,
      ),
    )

-- a grant spends as many bytes as it has
pub grant_counts : (path max : ℕ) (b : Sending) (span : Span) → MayTake path max b span
    → spent_count path (change_part (given path) span b.marks) ≡ spent_count path b.marks + (span.to - span.from)
grant_counts path max b span m =
    let f = λ (x : ByteMark). cond {A = ℕ} (spent path (Some x)) 1 0 in
    let n : ℕ = span.to - span.from in
    let part : List ByteMark = take n (drop span.from b.marks) in
    let whole : span.to ≡ span.from + n = omega (arith, m.whole) in
    let run = run_counts path part (λ i x e.
    let inside = in_take n (drop span.from b.marks) i x e in
    let below : i < n = inside.1 in
    m.free (span.from + i) x (omega arith) (omega (arith, below, m.whole)) (in_drop span.from b.marks i (span.from + i) x refl inside.0)) in
    let size : length part ≡ n = omega (arith, length-take n (drop span.from b.marks), length-drop span.from b.marks, m.within, m.whole) in
    let old : spent_count path b.marks ≡ spent_count path (take span.from b.marks ++ (part ++ drop span.to b.marks)) =
    ap (spent_count path) (sym (three_parts span.from n span.to b.marks whole)) in
    omega (
      arith,
      run.0,
      run.1,
      size,
      old,
      sum_by-append f (take span.from b.marks) (part ++ drop span.to b.marks),
      sum_by-append f part (drop span.to b.marks),
      sum_by-append f (take span.from b.marks) (map (given path) part ++ drop span.to b.marks),
      sum_by-append f (map (given path) part) (drop span.to b.marks),
    )

-- the acknowledged bytes, counted
pub AreAcked-count : (n : ℕ) (ms : List ByteMark) → AreAcked n ms → acked_len ms ≡ n
AreAcked-count n [] h = sym h
AreAcked-count zero (m ∷ ms) h =
    omega (arith, sum_by-cons (λ (x : ByteMark). cond (is_acked x) 1 0) m ms, ap (λ b. cond {A = ℕ} b 1 0) h.0, AreAcked-count zero ms h.1)
AreAcked-count (suc n) (m ∷ ms) h =
    omega (arith, sum_by-cons (λ (x : ByteMark). cond (is_acked x) 1 0) m ms, ap (λ b. cond {A = ℕ} b 1 0) h.0, AreAcked-count n ms h.1)

pub AreAcked-within : (n : ℕ) (ms : List ByteMark) → AreAcked n ms → n ≤ length ms
AreAcked-within n [] h = omega (arith, h)
AreAcked-within zero (m ∷ ms) h = omega arith
AreAcked-within (suc n) (m ∷ ms) h = omega (arith, AreAcked-within n ms h.1)

-- lists with the same bytes acknowledged
pub AreAcked-same : (n : ℕ) (ms ns : List ByteMark) → map is_acked ms ≡ map is_acked ns → AreAcked n ms → AreAcked n ns
AreAcked-same n [] [] e h = h
AreAcked-same n [] (x ∷ ns) e h = cc
AreAcked-same n (m ∷ ms) [] e h = cc
AreAcked-same zero (m ∷ ms) (x ∷ ns) e h =
    let first : is_acked m ≡ is_acked x = cc in
    let rest : map is_acked ms ≡ map is_acked ns = cc in
    (sym first ∙ h.0, AreAcked-same zero ms ns rest h.1)
AreAcked-same (suc n) (m ∷ ms) (x ∷ ns) e h =
    let first : is_acked m ≡ is_acked x = cc in
    let rest : map is_acked ms ≡ map is_acked ns = cc in
    (sym first ∙ h.0, AreAcked-same n ms ns rest h.1)

same_image : {X Y : Type 0} (f : X → Y) (change : X → X) → ((x : X) → f (change x) ≡ f x) → (xs : List X) → map f (map change xs) ≡ map f xs
same_image f change same [] = refl
same_image f change same (x ∷ xs) = let first = same x in let rest = same_image f change same xs in rw (first, rest) refl

-- a part of the marks, changed to marks that are acknowledged where they were
pub changed_image : (change : ByteMark → ByteMark) (from n to : ℕ) (ms : List ByteMark) → to ≡ from + n → ((m : ByteMark) → is_acked (change m) ≡ is_acked m)
    → map is_acked ms ≡ map is_acked (take from ms ++ (map change (take n (drop from ms)) ++ drop to ms))
changed_image change from n to ms whole same =
    let part : List ByteMark = take n (drop from ms) in
    ap (map is_acked) (sym (three_parts from n to ms whole))
    ∙ map-append is_acked (take from ms) (part ++ drop to ms)
    ∙ ap (λ ys. map is_acked (take from ms) ++ ys) (map-append is_acked part (drop to ms)
    ∙ ap (λ ys. ys ++ map is_acked (drop to ms)) (sym (same_image is_acked change same part))
    ∙ sym (map-append is_acked (map change part) (drop to ms)))
    ∙ sym (map-append is_acked (take from ms) (map change part ++ drop to ms))

given_acked : (path : ℕ) (m : ByteMark) → is_acked (given path m) ≡ is_acked m
given_acked path Acked = refl
given_acked path (Held holder tried) = refl
given_acked path (Free tried) = refl

returned_acked : (path : ℕ) (m : ByteMark) → is_acked (returned path m) ≡ is_acked m
returned_acked path Acked = refl
returned_acked path (Held holder tried) = elim (holder == path) as (λ b. is_acked (if b then Free tried else Held holder tried) ≡ false) [ true ↦ refl | false ↦ refl ]
returned_acked path (Free tried) = refl

pub AreAcked-given : (path n : ℕ) (span : Span) (ms : List ByteMark) → span.from ≤ span.to → AreAcked n ms → AreAcked n (change_part (given path) span ms)
AreAcked-given path n span ms order h =
    AreAcked-same n ms _ (changed_image (given path) span.from (span.to - span.from) span.to ms (omega (arith, order)) (given_acked path)) h

pub AreAcked-returned : (path n : ℕ) (ms : List ByteMark) → AreAcked n ms → AreAcked n (map (returned path) ms)
AreAcked-returned path n ms h = AreAcked-same n ms _ (sym (same_image is_acked (returned path) (returned_acked path) ms)) h

pub AreAcked-written : (n count : ℕ) (ms : List ByteMark) → AreAcked n ms → AreAcked n (ms ++ replicate count (Free no_paths))
AreAcked-written n count [] h = rw h (none count)
  where
    none : (count : ℕ) → AreAcked 0 (replicate count (Free no_paths))
    none zero = refl
    none (suc count) = (refl, none count)
AreAcked-written zero count (m ∷ ms) h = (h.0, AreAcked-written zero count ms h.1)
AreAcked-written (suc n) count (m ∷ ms) h = (h.0, AreAcked-written n count ms h.1)

-- the bytes below `next` are acknowledged
pub AreAcked-acked : (n next c k : ℕ) (ms : List ByteMark) → c ≡ min next (length ms) → k ≡ max n c → AreAcked n ms → AreAcked k (replicate c Acked ++ drop next ms)
AreAcked-acked n zero zero k [] c_is k_is h = omega (arith, h, k_is)
AreAcked-acked n (suc next) zero k [] c_is k_is h = omega (arith, h, k_is)
AreAcked-acked n next (suc c) k [] c_is k_is h = absurd (omega (arith, c_is))
AreAcked-acked n zero zero k (m ∷ ms) c_is k_is h = let same : k ≡ n = omega (arith, k_is) in rw same h
AreAcked-acked n zero (suc c) k (m ∷ ms) c_is k_is h = absurd (omega (arith, c_is))
AreAcked-acked n (suc next) zero k (m ∷ ms) c_is k_is h = absurd (omega (arith, c_is))
AreAcked-acked n (suc next) (suc c) zero (m ∷ ms) c_is k_is h = absurd (omega (arith, k_is))
AreAcked-acked zero (suc next) (suc c) (suc k) (m ∷ ms) c_is k_is h =
    (refl, AreAcked-acked zero next c k ms (omega (arith, c_is)) (omega (arith, k_is)) h.1)
AreAcked-acked (suc n) (suc next) (suc c) (suc k) (m ∷ ms) c_is k_is h =
    (refl, AreAcked-acked n next c k ms (omega (arith, c_is)) (omega (arith, k_is)) h.1)

-- bytes that no path has tried stay so, under a write, a return, an acknowledgement of the bytes before them, and a grant of those
pub AreNew-written : (n count : ℕ) (ms : List ByteMark) → AreNew n ms → AreNew n (ms ++ replicate count (Free no_paths))
AreNew-written n count ms h place mark above e = ⊎_elim
    (λ left. h place mark above left)
    (λ right. ap is_untouched (sym (in_replicate count (Free no_paths) (place - length ms) mark right.1)))
    (in_append ms (replicate count (Free no_paths)) place mark e)

pub AreNew-returned : (path n : ℕ) (ms : List ByteMark) → AreNew n ms → AreNew n (map (returned path) ms)
AreNew-returned path n ms h place mark above e =
    let old = in_map (returned path) ms place mark e in
    ap is_untouched (sym old.2) ∙ returned_untouched path old.0 (h place old.0 above old.1)

pub AreNew-acked : (n next c : ℕ) (ms : List ByteMark) → c ≡ min next (length ms) → ((place : ℕ) → n ≤ place → place < length ms → next ≤ place)
    → AreNew n ms → AreNew n (replicate c Acked ++ drop next ms)
AreNew-acked n next c ms c_is later h place mark above e = ⊎_elim
    (λ left.
    let below : place < c = subst (λ m. place < m) (length-replicate c Acked) (slice_get_within (replicate c Acked) place mark left) in
    absurd (omega (arith, below, c_is, later place above (omega (arith, below, c_is)))))
    (λ right.
    let past : c ≤ place = subst (λ m. m ≤ place) (length-replicate c Acked) right.0 in
    let size : length (replicate c Acked) ≡ c = length-replicate c Acked in
    let there : slice_get ms (next + (place - length (replicate c Acked))) ≡ Some mark =
    in_drop next ms (place - length (replicate c Acked)) (next + (place - length (replicate c Acked))) mark refl right.1 in
    let inside : next + (place - length (replicate c Acked)) < length ms = slice_get_within ms _ mark there in
    h (next + (place - length (replicate c Acked))) mark (omega (arith, above, past, size, c_is, inside)) there)
    (in_append (replicate c Acked) (drop next ms) place mark e)

pub AreNew-given : (path n : ℕ) (span : Span) (ms : List ByteMark) → n ≤ span.to → span.from ≤ span.to → span.to ≤ length ms
    → AreNew n ms → AreNew span.to (change_part (given path) span ms)
AreNew-given path n span ms order whole within h place mark above e =
    h place mark (omega (arith, order, above))
    (sym (slice_get-changed_above (given path) span.from (span.to - span.from) span.to ms (omega (arith, whole)) within place above) ∙ e)

-- a grant begins at the first byte that the path may take
passed : {X : Type 0} (b : Bool) (w : Why) (r : Result X Why) (x : X) → (if b then Err w else r) ≡ Ok x → r ≡ Ok x
passed true w r x e = cc
passed false w r x e = e

pub grant_first : (path max : ℕ) (standby : Bool) (b : Sending) (span : Span) → decision path max standby b ≡ Ok span
    → position (is_free_for path) b.marks ≡ Some span.from
grant_first path max standby b span e =
    at (first_free path b) refl (passed standby Backup _ span (passed _ Ended _ span e))
  where
    owned : (o : Bool) (from : ℕ) → (if o then position (is_free_for path) b.marks else None) ≡ Some from → position (is_free_for path) b.marks ≡ Some from
    owned = elim [ true ↦ λ from h. h | false ↦ λ from h. cc ]

    begins : (from : ℕ) (c : Bool) → (if c then Err WindowShut else Ok (record { from = from; to = from + run_len path max b from })) ≡ Ok span → from ≡ span.from
    begins from true h = cc
    begins from false h = let same : record { from = from; to = from + run_len path max b from } ≡ span = cc in ap (λ (s : Span). s.from) same

    at : (o : Option ℕ) → first_free path b ≡ o → span_at path max b o ≡ Ok span → position (is_free_for path) b.marks ≡ Some span.from
    at None is h = cc
    at (Some from) is h =
        let first : position (is_free_for path) b.marks ≡ Some from = owned (is_for path b.owner) from is in
        first ∙ ap Some (begins from _ h)

-- a book that was given to a path alone grants to it alone
pub grant_owner : (path k max : ℕ) (standby : Bool) (b : Sending) (span : Span) → decision path max standby b ≡ Ok span → b.owner ≡ Some k → k ≡ path
grant_owner path k max standby b span e owned =
    (elim (first_free path b) as (λ o. first_free path b ≡ o → span_at path max b o ≡ Ok span → k ≡ path)
    [ None ↦ λ is h. cc | Some from ↦ λ is h. mine (is_for path b.owner) refl from is ]) refl (passed standby Backup _ span (passed _ Ended _ span e))
  where
    mine : (o : Bool) → is_for path b.owner ≡ o → (from : ℕ) → (if o then position (is_free_for path) b.marks else None) ≡ Some from → k ≡ path
    mine true is from h = eqb-true k path (sym (ap (is_for path) owned) ∙ is)
    mine false is from h = cc

-- a place that passes is one of the list
pub position_within : {X : Type 0} (test : X → Bool) (xs : List X) (from : ℕ) → position test xs ≡ Some from → from < length xs
position_within test xs from e =
    (elim (nat_lt (position_or_len test xs) (length xs)) as (λ b. nat_lt (position_or_len test xs) (length xs) ≡ b → cond b (Some (position_or_len test xs)) None ≡ Some from → from < length xs)
    [ true ↦ λ is h. let same : position_or_len test xs ≡ from = cc in omega (arith, same, ltb-true _ _ is) | false ↦ λ is h. cc ]) refl e

-- where the bytes below n are spent and the others new, that is byte n
pub grant_is_next : (path n from : ℕ) (ms : List ByteMark) → position (is_free_for path) ms ≡ Some from
    → ((place : ℕ) → place < n → spent path (slice_get ms place) ≡ true) → AreNew n ms → from < length ms → from ≡ n
grant_is_next path n from ms e below new within = ⊎_elim early (λ not_early. ⊎_elim late (λ not_late. omega (arith, not_early, not_late)) (cases_lt n from)) (cases_lt from n)
  where
    found : (b : Bool) → nat_lt (position_or_len (is_free_for path) ms) (length ms) ≡ b
        → cond b (Some (position_or_len (is_free_for path) ms)) None ≡ Some from
        → (position_or_len (is_free_for path) ms ≡ from) × (position_or_len (is_free_for path) ms < length ms)
    found = elim [ true ↦ λ is h. (cc, ltb-true _ _ is) | false ↦ λ is h. cc ]

    first : (position_or_len (is_free_for path) ms ≡ from) × (position_or_len (is_free_for path) ms < length ms)
    first = found _ refl e

    early : from < n → from ≡ n
    early less =
        let there = item_at ms from within in
        let is_spent : spent path (Some there.0) ≡ true = ap (spent path) (sym there.1) ∙ below from less in
        let passes : is_free_for path (get_or ms (position_or_len (is_free_for path) ms) there.0) ≡ true = passes_at_first (is_free_for path) ms there.0 first.1 in
        let same : get_or ms from there.0 ≡ there.0 = get_or_from_slice_get ms from there.0 there.0 there.1 in
        absurd (both_ways _ (spent-not_free path there.0 is_spent)
        (sym (ap (is_free_for path) (ap (λ k. get_or ms k there.0) first.0 ∙ same)) ∙ passes))

    late : n < from → from ≡ n
    late more =
        let there = item_at ms n (omega (arith, more, within)) in
        let fails : is_free_for path (get_or ms n there.0) ≡ false = fails_before_first (is_free_for path) ms n there.0 (omega (arith, more, first.0)) in
        let same : get_or ms n there.0 ≡ there.0 = get_or_from_slice_get ms n there.0 there.0 there.1 in
        let free : is_free_for path there.0 ≡ true = untouched_free path there.0 (new n there.0 (omega arith) there.1) in
        absurd (both_ways _ (sym (ap (is_free_for path) same) ∙ fails) free)

-- what is acknowledged is spent for every path
pub acked_spent : (path n : ℕ) (ms : List ByteMark) → AreAcked n ms → n ≤ spent_count path ms
acked_spent path n [] h = omega (arith, h)
acked_spent path zero (m ∷ ms) h = omega arith
acked_spent path (suc n) (m ∷ ms) h =
    omega (arith, sum_by-cons (λ (x : ByteMark). cond (spent path (Some x)) 1 0) m ms, ap (λ b. cond {A = ℕ} b 1 0) (is_spent m h.0), acked_spent path n ms h.1)
  where
    is_spent : (m : ByteMark) → is_acked m ≡ true → spent path (Some m) ≡ true
    is_spent = elim [ Acked ↦ λ e. refl | Held holder tried ↦ λ e. cc | Free tried ↦ λ e. cc ]

-- a byte among the acknowledged ones is not new
pub acked_is_spent : (n place : ℕ) (ms : List ByteMark) (m : ByteMark) → AreAcked n ms → place < n → slice_get ms place ≡ Some m → is_untouched m ≡ true → ⊥
acked_is_spent n place [] m h below e new = cc
acked_is_spent zero place (x ∷ ms) m h below e new = absurd (omega (arith, below))
acked_is_spent (suc n) zero (x ∷ ms) m h below e new =
    let same : m ≡ x = cc in acked_touched x h.0 (ap is_untouched (sym same) ∙ new)
acked_is_spent (suc n) (suc place) (x ∷ ms) m h below e new = acked_is_spent n place ms m h.1 (omega (arith, below)) e new

-- no more are spent than stand before the new ones, and all that stand before a place are, where each of them is
pub new_count : (path n : ℕ) (ms : List ByteMark) → AreNew n ms → spent_count path ms ≤ n
new_count path n [] new = omega arith
new_count path zero (m ∷ ms) new =
    omega (
      arith,
      sum_by-cons (λ (x : ByteMark). cond (spent path (Some x)) 1 0) m ms,
      ap (λ b. cond {A = ℕ} b 1 0) (untouched_unspent path m (new 0 m (omega arith) refl)),
      new_count path 0 ms (λ place mark above e. new (suc place) mark (omega arith) e),
    )
new_count path (suc n) (m ∷ ms) new =
    omega (
      arith,
      sum_by-cons (λ (x : ByteMark). cond (spent path (Some x)) 1 0) m ms,
      (elim (spent path (Some m)) as (λ b. cond {A = ℕ} b 1 0 ≤ 1) [ true ↦ omega arith | false ↦ omega arith ]),
      new_count path n ms (λ place mark above e. new (suc place) mark (omega (arith, above)) e),
    )

pub spent_upto : (path n : ℕ) (ms : List ByteMark) → ((place : ℕ) → place < n → spent path (slice_get ms place) ≡ true) → n ≤ spent_count path ms
spent_upto path zero ms each = omega arith
spent_upto path (suc n) [] each = absurd (both_ways false refl (each 0 (omega arith)))
spent_upto path (suc n) (m ∷ ms) each =
    omega (
      arith,
      sum_by-cons (λ (x : ByteMark). cond (spent path (Some x)) 1 0) m ms,
      ap (λ b. cond {A = ℕ} b 1 0) (each 0 (omega arith)),
      spent_upto path n ms (λ place below. each (suc place) (omega (arith, below))),
    )

-- a spent byte stands before the new ones
pub spent_below : (path n place : ℕ) (ms : List ByteMark) → AreNew n ms → spent path (slice_get ms place) ≡ true → place < n
spent_below path n place ms new e = ⊎_elim (λ below. below) (λ above. absurd (at (slice_get ms place) refl above e)) (cases_lt place n)
  where
    at : (o : Option ByteMark) → slice_get ms place ≡ o → n ≤ place → spent path o ≡ true → ⊥
    at None there above e = cc
    at (Some mark) there above e = both_ways _ (untouched_unspent path mark (new place mark above there)) e

-- which bytes a path has tried, under what the calls do
none_in : (n path : ℕ) → slice_index_or (replicate n false) path false ≡ false
none_in zero path = refl
none_in (suc n) zero = refl
none_in (suc n) (suc path) = none_in n path

pub new_untried : (path : ℕ) → tried path (Some (Free no_paths)) ≡ false
new_untried path = none_in 16 path

pub tried-written : (path place count : ℕ) (ms : List ByteMark) → tried path (slice_get (ms ++ replicate count (Free no_paths)) place) ≡ true
    → tried path (slice_get ms place) ≡ true
tried-written path place count ms is = ⊎_elim
    (λ below. ap (tried path) (sym (slice_get-append_left ms _ place below)) ∙ is)
    (λ above. absurd (at (slice_get (replicate count (Free no_paths)) (place - length ms)) refl
    (ap (tried path) (sym (slice_get-append_right ms _ (place - length ms) place (omega (arith, above)))) ∙ is)))
    (cases_lt place (length ms))
  where
    at : (o : Option ByteMark) → slice_get (replicate count (Free no_paths)) (place - length ms) ≡ o → tried path o ≡ true → ⊥
    at None there e = cc
    at (Some mark) there e =
        both_ways _ (ap (λ m. tried path (Some m)) (sym (in_replicate count (Free no_paths) _ mark there)) ∙ new_untried path) e

returned_tried : (path k : ℕ) (m : ByteMark) → has_tried k (returned path m) ≡ has_tried k m
returned_tried path k Acked = refl
returned_tried path k (Held holder paths) = elim (holder == path) as (λ b. has_tried k (if b then Free paths else Held holder paths) ≡ contains k paths)
    [ true ↦ refl | false ↦ refl ]
returned_tried path k (Free paths) = refl

pub tried-returned : (path k place : ℕ) (ms : List ByteMark) → tried k (slice_get (map (returned path) ms) place) ≡ true → tried k (slice_get ms place) ≡ true
tried-returned path k place ms is = (elim (slice_get ms place) as (λ o. tried k (option_map (returned path) o) ≡ true → tried k o ≡ true)
    [ None ↦ λ e. e | Some m ↦ λ e. sym (returned_tried path k m) ∙ e ]) (ap (tried k) (sym (slice_get-map (returned path) ms place)) ∙ is)

pub tried-acked : (path place next c : ℕ) (ms : List ByteMark) → c ≡ min next (length ms) → tried path (slice_get (replicate c Acked ++ drop next ms) place) ≡ true
    → tried path (slice_get ms place) ≡ true
tried-acked path place next c ms c_is is = at (slice_get (replicate c Acked ++ drop next ms) place) refl is
  where
    at : (o : Option ByteMark) → slice_get (replicate c Acked ++ drop next ms) place ≡ o → tried path o ≡ true → tried path (slice_get ms place) ≡ true
    at None there e = cc
    at (Some m) there e = ⊎_elim
        (λ left.
        let acked : Acked ≡ m = in_replicate c Acked place m left in
        absurd (both_ways _ (ap (has_tried path) (sym acked)) e))
        (λ right.
        let size : length (replicate c Acked) ≡ c = length-replicate c Acked in
        let past : c ≤ place = subst (λ k. k ≤ place) size right.0 in
        let inside = slice_get_within (drop next ms) _ m right.1 in
        let here : next + (place - length (replicate c Acked)) ≡ place = omega (arith, past, size, c_is, inside, length-drop next ms) in
        let old : slice_get ms place ≡ Some m = in_drop next ms (place - length (replicate c Acked)) place m (sym here) right.1 in
        ap (tried path) old ∙ e)
        (in_append (replicate c Acked) (drop next ms) place m there)

contains-insert_other : (path k : ℕ) (paths : List Bool) → (k ≡ path → ⊥) → contains k (insert path paths) ≡ contains k paths
contains-insert_other zero zero paths apart = absurd (apart refl)
contains-insert_other zero (suc k) [] apart = refl
contains-insert_other zero (suc k) (first ∷ paths) apart = refl
contains-insert_other (suc path) zero [] apart = refl
contains-insert_other (suc path) zero (first ∷ paths) apart = refl
contains-insert_other (suc path) (suc k) [] apart = contains-insert_other path k [] (λ same. apart (omega (arith, same)))
contains-insert_other (suc path) (suc k) (first ∷ paths) apart = contains-insert_other path k paths (λ same. apart (omega (arith, same)))

given_tried : (path k : ℕ) (m : ByteMark) → (k ≡ path → ⊥) → has_tried k (given path m) ≡ has_tried k m
given_tried path k Acked apart = refl
given_tried path k (Held holder paths) apart = refl
given_tried path k (Free paths) apart = contains-insert_other path k paths apart

pub tried-given : (path k place : ℕ) (span : Span) (ms : List ByteMark) → span.from ≤ span.to → span.to ≤ length ms → (k ≡ path → ⊥)
    → tried k (slice_get (change_part (given path) span ms) place) ≡ true → tried k (slice_get ms place) ≡ true
tried-given path k place span ms order within apart is =
    let whole : span.to ≡ span.from + (span.to - span.from) = omega (arith, order) in
    ⊎_elim
    (λ below. ap (tried k) (sym (slice_get-changed_below (given path) span.from _ span.to ms whole within place below)) ∙ is)
    (λ above. ⊎_elim
    (λ under. at (slice_get ms place) (ap (tried k) (sym (slice_get-changed_inside (given path) span.from _ span.to ms whole within place above under)) ∙ is))
    (λ over. ap (tried k) (sym (slice_get-changed_above (given path) span.from _ span.to ms whole within place over)) ∙ is)
    (cases_lt place span.to))
    (cases_lt place span.from)
  where
    at : (o : Option ByteMark) → tried k (option_map (given path) o) ≡ true → tried k o ≡ true
    at = elim [ None ↦ λ e. e | Some m ↦ λ e. sym (given_tried path k m apart) ∙ e ]

-- outside the span a grant changes nothing
pub given_outside : (path place : ℕ) (span : Span) (ms : List ByteMark) → span.from ≤ span.to → span.to ≤ length ms → (place < span.from) ⊎ (span.to ≤ place)
    → slice_get (change_part (given path) span ms) place ≡ slice_get ms place
given_outside path place span ms order within side =
    let whole : span.to ≡ span.from + (span.to - span.from) = omega (arith, order) in
    ⊎_elim (λ below. slice_get-changed_below (given path) span.from _ span.to ms whole within place below)
    (λ over. slice_get-changed_above (given path) span.from _ span.to ms whole within place over) side

-- holders
pub held-written : (count : ℕ) (ms : List ByteMark) → Every IsHeldRightly ms → Every IsHeldRightly (ms ++ replicate count (Free no_paths))
held-written count ms h = Every-append h (record { each = λ i m e. ap is_held_rightly (sym (in_replicate count (Free no_paths) i m e)) })

returned_held : (path : ℕ) (m : ByteMark) → is_held_rightly m ≡ true → is_held_rightly (returned path m) ≡ true
returned_held path Acked h = refl
returned_held path (Held holder paths) h = elim (holder == path) as (λ b. is_held_rightly (if b then Free paths else Held holder paths) ≡ true)
    [ true ↦ refl | false ↦ h ]
returned_held path (Free paths) h = refl

given_held : (path : ℕ) (m : ByteMark) → is_held_rightly m ≡ true → is_held_rightly (given path m) ≡ true
given_held path Acked h = refl
given_held path (Held holder paths) h = h
given_held path (Free paths) h = contains-insert path paths

pub held-mapped : (change : ByteMark → ByteMark) (ms : List ByteMark) → ((m : ByteMark) → is_held_rightly m ≡ true → is_held_rightly (change m) ≡ true)
    → Every IsHeldRightly ms → Every IsHeldRightly (map change ms)
held-mapped change ms keeps h = record {
  each = λ i m e.
      let old = in_map change ms i m e in
      subst IsHeldRightly old.2 (keeps old.0 (h.each i old.0 old.1));
}

pub held-returned : (path : ℕ) (ms : List ByteMark) → Every IsHeldRightly ms → Every IsHeldRightly (map (returned path) ms)
held-returned path ms h = held-mapped (returned path) ms (returned_held path) h

part-held : (n m : ℕ) (ms : List ByteMark) → Every IsHeldRightly ms → Every IsHeldRightly (take n (drop m ms))
part-held n m ms h = record { each = λ i x e. h.each (m + i) x (in_drop m ms i (m + i) x refl (in_take n (drop m ms) i x e).0) }

pub held-given : (path : ℕ) (span : Span) (ms : List ByteMark) → Every IsHeldRightly ms → Every IsHeldRightly (change_part (given path) span ms)
held-given path span ms h = Every-append (record { each = λ i x e. h.each i x (in_take span.from ms i x e).0 })
    (Every-append (held-mapped (given path) (take (span.to - span.from) (drop span.from ms)) (given_held path) (part-held (span.to - span.from) span.from ms h))
    (record { each = λ i x e. h.each (span.to + i) x (in_drop span.to ms i (span.to + i) x refl e) }))

pub held-acked : (next c : ℕ) (ms : List ByteMark) → Every IsHeldRightly ms → Every IsHeldRightly (replicate c Acked ++ drop next ms)
held-acked next c ms h = Every-append (record { each = λ i m e. ap is_held_rightly (sym (in_replicate c Acked i m e)) })
    (record { each = λ i x e. h.each (next + i) x (in_drop next ms i (next + i) x refl e) })
