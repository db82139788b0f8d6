-- What a refused grant says of a send book in numbers, and what the calls of applications and paths make of it.
use Rattle.world_laws.proofs.Words.{◌≡◌, refl, sym, ◌∙◌, ap, subst, ℕ, zero, suc, ◌+◌, ◌-◌, ◌≤◌, ◌&&◌, ◌||◌, ◌==◌, not, min, max, nat_lt, nat_le, inl, inr, ◌⊎◌}
use Rattle.world_laws.proofs.Words.{⊎_elim, Bool, true, false, cond, if◌then◌else◌, Option, Some, None, Result, Ok, Err, List, [], ◌∷◌, ◌++◌, length, take}
use Rattle.world_laws.proofs.Words.{drop, map, replicate, arith, is_none, eqb-true, or_cases, and_parts, false≢true, ltb-false, leb-true, drop-drop, drop_min}
use Rattle.world_laws.proofs.Words.{length-append, length-take, length-drop, length-map, length-replicate, count_by, list_any, count_by-le-length, sum_by-cons}
use Rattle.world_laws.proofs.Words.{Side, Span, Why, SendCall, Sending, acked_len, bytes_taken, is_for, span_at, decision, reply_by, run_len, given_by}
use Rattle.world_laws.proofs.Words.{is_future, fin_after, is_gathered, tried_first, AckIn, Abort, Acked, Held, Free, is_free_for, is_held_by, given, returned}
use Rattle.world_laws.proofs.Words.{contains, no_paths, MayTake, decision-MayTake, Note, Reply, grant_in, in_take, in_drop, in_map, Every-append, in_replicate}
use Rattle.world_laws.proofs.Words.{Every, if_so, asks_grant, last_asked, AskedForAll, is_standby, taken_len, last_on_standby}
use Rattle.std.specs.List.{position}
use Rattle.send_book.specs.declared.call.Why.TheVariants.{Ended, Backup, WindowShut}
use Rattle.send_book.specs.declared.call.SendCall.TheVariants.{Write, Close, Grant, Return, GoIdentity, GoInfinite}
use Rattle.send_book.specs.declared.mark.ByteMark.{ByteMark}
use Rattle.send_book.specs.Marks.{is_acked}
use Rattle.send_book.specs.Steps.{after_call}
use Rattle.send_book.proofs.PathSets.{contains-insert}
use Rattle.world_laws.specs.RoundNumbers.{standby_after}
use Rattle.world_laws.specs.RoundNumbers.AskedForAll.{Taken, Standby, Barred, Stopped}

-- ---- marks

-- a byte that the path holds was tried by it
abbrev pub IsTried : ℕ → ByteMark → Type 0
IsTried path Acked = Unit {0}
IsTried path (Held holder tried) = holder ≡ path → contains path tried ≡ true
IsTried path (Free tried) = Unit {0}

every_taken : {X : Type 0} {P : X → Type 0} (n : ℕ) (xs : List X) → Every P xs → Every P (take n xs)
every_taken n xs h = record { each = λ i x at. h.each i x (in_take n xs i x at).0 }

every_dropped : {X : Type 0} {P : X → Type 0} (n : ℕ) (xs : List X) → Every P xs → Every P (drop n xs)
every_dropped n xs h = record { each = λ i x at. h.each (n + i) x (in_drop n xs i (n + i) x refl at) }

every_mapped : {X : Type 0} {P : X → Type 0} (f : X → X) → ((x : X) → P x → P (f x)) → (xs : List X) → Every P xs → Every P (map f xs)
every_mapped {X} {P} f keeps xs h = record {
  each = λ i y at. let found = in_map f xs i y at in subst P found.2 (keeps found.0 (h.each i found.0 found.1));
}

every_same : {X : Type 0} {P : X → Type 0} (n : ℕ) (x : X) → P x → Every P (replicate n x)
every_same {X} {P} n x h = record { each = λ i y at. subst P (in_replicate n x i y at) h }

given_tried : (path : ℕ) (m : ByteMark) → IsTried path m → IsTried path (given path m)
given_tried path Acked h = tt
given_tried path (Held holder tried) h = h
given_tried path (Free tried) h = λ own. contains-insert path tried

given_other : (path asker : ℕ) (m : ByteMark) → (asker ≡ path → ⊥) → IsTried path m → IsTried path (given asker m)
given_other path asker Acked apart h = tt
given_other path asker (Held holder tried) apart h = h
given_other path asker (Free tried) apart h = λ own. absurd (apart own)

-- what a path may not take it may not take when it is given to another
given_taken : (path asker : ℕ) (m : ByteMark) → is_free_for path m ≡ false → is_free_for path (given asker m) ≡ false
given_taken path asker Acked none = refl
given_taken path asker (Held holder tried) none = refl
given_taken path asker (Free tried) none = refl

returned_tried : (path asker : ℕ) (m : ByteMark) → IsTried path m → IsTried path (returned asker m)
returned_tried path asker Acked h = tt
returned_tried path asker (Free tried) h = tt
returned_tried path asker (Held holder tried) h = if_so (IsTried path) (holder == asker) (Free tried) (Held holder tried) tt h

-- a byte that the path may not take it may not take when it gave it back
returned_taken : (path : ℕ) (m : ByteMark) → IsTried path m → is_free_for path m ≡ false → is_free_for path (returned path m) ≡ false
returned_taken path Acked h none = refl
returned_taken path (Free tried) h none = none
returned_taken path (Held holder tried) h none = (elim (holder == path) as (λ b. (holder == path) ≡ b → is_free_for path (if b then Free tried else Held holder tried) ≡ false)
    [ true ↦ λ is. ap not (h (eqb-true holder path is)) | false ↦ λ is. refl ]) refl

-- ---- how many are taken

taken_written : (path count : ℕ) (ms : List ByteMark) → taken_len path ms ≤ taken_len path (ms ++ replicate count (Free no_paths))
taken_written path count [] = omega arith
taken_written path count (m ∷ ms) = by (is_free_for path m) (taken_written path count ms)
  where
    by : (b : Bool) → taken_len path ms ≤ taken_len path (ms ++ replicate count (Free no_paths))
        → cond (not b) (1 + taken_len path ms) 0 ≤ cond (not b) (1 + taken_len path (ms ++ replicate count (Free no_paths))) 0
    by = elim [ true ↦ λ rest. omega arith | false ↦ λ rest. omega (arith, rest) ]

-- bytes that change, but none to one that the path may take
module _ (path : ℕ) (change : ByteMark → ByteMark) where
  abbrev Takes : ByteMark → Type 0
  Takes m = is_free_for path m ≡ false → is_free_for path (change m) ≡ false

  -- one byte more in front
  taken_first : (m n : ByteMark) (ms ns : List ByteMark) → (is_free_for path m ≡ false → is_free_for path n ≡ false) → taken_len path ms ≤ taken_len path ns → taken_len path (m ∷ ms) ≤ taken_len path (n ∷ ns)
  taken_first m n ms ns takes rest = (elim (is_free_for path m) as (λ b. is_free_for path m ≡ b → cond (not b) (1 + taken_len path ms) 0 ≤ cond (not (is_free_for path n)) (1 + taken_len path ns) 0) [
    | true ↦ λ is. omega arith
    | false ↦ λ is. let same : is_free_for path n ≡ false = takes is in subst (λ (c : Bool). 1 + taken_len path ms ≤ cond (not c) (1 + taken_len path ns) 0) (sym same) (omega (arith, rest))
  ]) refl

  taken_changed : (ms : List ByteMark) → Every Takes ms → taken_len path ms ≤ taken_len path (map change ms)
  taken_changed [] h = omega arith
  taken_changed (m ∷ ms) h = taken_first m (change m) ms (map change ms) (h.each 0 m refl) (taken_changed ms (record { each = λ i x at. h.each (suc i) x at }))

  -- a number of first marks change
  taken_some : (n : ℕ) (ms : List ByteMark) → ((m : ByteMark) → Takes m) → taken_len path ms ≤ taken_len path (map change (take n ms) ++ drop n ms)
  taken_some zero ms takes = omega arith
  taken_some (suc n) [] takes = omega arith
  taken_some (suc n) (m ∷ ms) takes = taken_first m (change m) ms (map change (take n ms) ++ drop n ms) (takes m) (taken_some n ms takes)

  -- those from a place on
  taken_within : (from n : ℕ) (ms : List ByteMark) → ((m : ByteMark) → Takes m) → taken_len path ms ≤ taken_len path (take from ms ++ (map change (take n (drop from ms)) ++ drop n (drop from ms)))
  taken_within zero n ms takes = taken_some n ms takes
  taken_within (suc from) n [] takes = taken_some n [] takes
  taken_within (suc from) n (m ∷ ms) takes = taken_first m m ms (take from ms ++ (map change (take n (drop from ms)) ++ drop n (drop from ms))) (λ is. is) (taken_within from n ms takes)

taken_returned : (path : ℕ) (ms : List ByteMark) → Every (IsTried path) ms → taken_len path ms ≤ taken_len path (map (returned path) ms)
taken_returned path ms h = taken_changed path (returned path) ms (record { each = λ i m at. returned_taken path m (h.each i m at) })

-- where some are acknowledged
covered : (path n : ℕ) (ms : List ByteMark) → taken_len path ms ≤ taken_len path (replicate n Acked ++ drop n ms)
covered path zero ms = omega arith
covered path (suc n) [] = omega arith
covered path (suc n) (m ∷ ms) = taken_first path (λ x. x) m Acked ms (replicate n Acked ++ drop n ms) (λ is. refl) (covered path n ms)

taken_covered : (path n : ℕ) (ms : List ByteMark) → taken_len path ms ≤ taken_len path (replicate (min n (length ms)) Acked ++ drop n ms)
taken_covered path n ms =
    subst (λ xs. taken_len path ms ≤ taken_len path (replicate (min n (length ms)) Acked ++ xs)) (drop_min n ms) (covered path (min n (length ms)) ms)

-- where a path holds none it gives back none
none_returned : (who : ℕ) (ms : List ByteMark) → count_by (is_held_by who) ms ≡ 0 → map (returned who) ms ≡ ms
none_returned who [] none = refl
none_returned who (Acked ∷ ms) none =
    let count : count_by (is_held_by who) (Acked ∷ ms) ≡ 0 + count_by (is_held_by who) ms = sum_by-cons (λ (x : ByteMark). cond (is_held_by who x) 1 0) Acked ms in
    ap (λ xs. Acked ∷ xs) (none_returned who ms (omega (arith, none, count)))
none_returned who (Free tried ∷ ms) none =
    let count : count_by (is_held_by who) (Free tried ∷ ms) ≡ 0 + count_by (is_held_by who) ms = sum_by-cons (λ (x : ByteMark). cond (is_held_by who x) 1 0) (Free tried) ms in
    ap (λ xs. Free tried ∷ xs) (none_returned who ms (omega (arith, none, count)))
none_returned who (Held holder tried ∷ ms) none =
    by (holder == who) (sum_by-cons (λ (x : ByteMark). cond (is_held_by who x) 1 0) (Held holder tried) ms) (λ rest. none_returned who ms rest)
  where
    by : (c : Bool) → count_by (is_held_by who) (Held holder tried ∷ ms) ≡ cond c 1 0 + count_by (is_held_by who) ms
        → (count_by (is_held_by who) ms ≡ 0 → map (returned who) ms ≡ ms)
        → (if c then Free tried else Held holder tried) ∷ map (returned who) ms ≡ Held holder tried ∷ ms
    by true count rest = absurd (omega (arith, none, count))
    by false count rest = ap (λ xs. Held holder tried ∷ xs) (rest (omega (arith, none, count)))

-- where all are acknowledged all are taken
all_acked : (path : ℕ) (ms : List ByteMark) → length ms ≤ count_by is_acked ms → length ms ≤ taken_len path ms
all_acked path [] h = omega arith
all_acked path (Acked ∷ ms) h =
    let count : count_by is_acked (Acked ∷ ms) ≡ 1 + count_by is_acked ms = sum_by-cons (λ (x : ByteMark). cond (is_acked x) 1 0) Acked ms in
    let rest = all_acked path ms (omega (arith, h, count)) in omega (arith, rest)
all_acked path (Held holder tried ∷ ms) h =
    let count : count_by is_acked (Held holder tried ∷ ms) ≡ 0 + count_by is_acked ms = sum_by-cons (λ (x : ByteMark). cond (is_acked x) 1 0) (Held holder tried) ms in
    let most = count_by-le-length is_acked ms in absurd (omega (arith, h, count, most))
all_acked path (Free tried ∷ ms) h =
    let count : count_by is_acked (Free tried ∷ ms) ≡ 0 + count_by is_acked ms = sum_by-cons (λ (x : ByteMark). cond (is_acked x) 1 0) (Free tried) ms in
    let most = count_by-le-length is_acked ms in absurd (omega (arith, h, count, most))

-- ---- steps

pub any_last : (test : Note → Bool) (steps : List Note) (n : Note) → test n ≡ true → list_any test (steps ++ n ∷ []) ≡ true
any_last test [] n is = ap (λ b. b || false) is
any_last test (m ∷ steps) n is = (elim (test m) as (λ b. list_any test (steps ++ n ∷ []) ≡ true → (b || list_any test (steps ++ n ∷ [])) ≡ true)
    [ true ↦ λ rest. refl | false ↦ λ rest. rest ]) (any_last test steps n is)

pub any_more : (test : Note → Bool) (steps more : List Note) → list_any test steps ≡ true → list_any test (steps ++ more) ≡ true
any_more test [] more is = absurd (false≢true is)
any_more test (m ∷ steps) more is =
    (elim (test m) as (λ b. (b || list_any test steps) ≡ true → (list_any test steps ≡ true → list_any test (steps ++ more) ≡ true) → (b || list_any test (steps ++ more)) ≡ true)
    [ true ↦ λ is rest. refl | false ↦ λ is rest. rest is ]) is (any_more test steps more)

pub last_more : (s : Side) (before : Bool) (steps : List Note) (n : Note) → last_on_standby s before (steps ++ n ∷ []) ≡ standby_after s n (last_on_standby s before steps)
last_more s before [] n = refl
last_more s before (m ∷ steps) n = last_more s (standby_after s m before) steps n

pub asked_last : (s : Side) (stamp : ℕ) (steps : List Note) (n : Note)
    → last_asked s stamp (steps ++ n ∷ []) ≡ (if asks_grant s n.ask then n.stamp else last_asked s stamp steps)
asked_last s stamp [] n = refl
asked_last s stamp (m ∷ steps) n = asked_last s (if asks_grant s m.ask then m.stamp else stamp) steps n

-- ---- a book and a path, of which so much was written as the round began

pub record IsOnes (path written : ℕ) (b : Sending) : Type 0 where
  pub tried : Every (IsTried path) b.marks
  pub whole : length b.marks ≡ length b.written
  pub grown : written ≤ length b.written

-- a call of an application, or of a path, and no grant to another path
abbrev pub IsOrdinary : ℕ → SendCall → Type 0
IsOrdinary path (Grant asker max standby) = asker ≡ path
IsOrdinary path _ = Unit {0}

-- neither a grant nor an acknowledgement, and no return of another path
abbrev pub IsQuiet : ℕ → SendCall → Type 0
IsQuiet path (Write bytes) = Unit {0}
IsQuiet path Close = Unit {0}
IsQuiet path (Return asker) = asker ≡ path
IsQuiet path GoIdentity = Unit {0}
IsQuiet path Abort = Unit {0}
IsQuiet path _ = ⊥

-- a fallback comes only where the book wasn't given to another path than path 0
abbrev pub FallsSo : Sending → SendCall → Type 0
FallsSo b GoIdentity = is_for 0 b.owner ≡ true
FallsSo b _ = Unit {0}

module _ (path written : ℕ) (b : Sending) (h : IsOnes path written b) where
  ones_written : (bytes : List ℕ) (shut : Bool) → IsOnes path written (if shut then b else record b {
    written = b.written ++ take (bytes_taken bytes b) bytes;
    marks = b.marks ++ replicate (bytes_taken bytes b) (Free no_paths);
  })
  ones_written bytes true = h
  ones_written bytes false = record {
    tried = Every-append h.tried (every_same (bytes_taken bytes b) (Free no_paths) tt);
    whole = (
        let one = length-append b.marks (replicate (bytes_taken bytes b) (Free no_paths)) in let two = length-replicate (bytes_taken bytes b) (Free no_paths) in
        let three = length-append b.written (take (bytes_taken bytes b) bytes) in let four = length-take (bytes_taken bytes b) bytes in
        omega (arith, one, two, three, four, h.whole));
    grown = (let three = length-append b.written (take (bytes_taken bytes b) bytes) in omega (arith, three, h.grown));
  }

  ones_closed : (aborted : Bool) → IsOnes path written (if aborted then b else record b { closed = true })
  ones_closed true = h
  ones_closed false = record { tried = h.tried; whole = h.whole; grown = h.grown }

  ones_granted : (asker max : ℕ) (standby : Bool) (o : Result Span Why) → ((m : ByteMark) → IsTried path m → IsTried path (given asker m)) → decision asker max standby b ≡ o → IsOnes path written (given_by asker o b)
  ones_granted asker max standby (Err why) given_so is = h
  ones_granted asker max standby (Ok span) given_so is =
      let m : MayTake asker max b span = decision-MayTake asker max standby b span is in
      let part : List ByteMark = take (span.to - span.from) (drop span.from b.marks) in
      record {
        tried = Every-append (every_taken span.from b.marks h.tried)
            (Every-append (every_mapped (given asker) given_so part (every_taken (span.to - span.from) (drop span.from b.marks) (every_dropped span.from b.marks h.tried)))
            (every_dropped span.to b.marks h.tried));
        whole = (
            let one = length-append (take span.from b.marks) (map (given asker) part ++ drop span.to b.marks) in
            let two = length-append (map (given asker) part) (drop span.to b.marks) in
            let three = length-map part (given asker) in
            let four = length-take (span.to - span.from) (drop span.from b.marks) in
            let five = length-drop span.from b.marks in let six = length-drop span.to b.marks in let seven = length-take span.from b.marks in
            omega (arith, one, two, three, four, five, six, seven, m.whole, m.within, h.whole));
        grown = h.grown;
      }

  ones_acked : (next window : ℕ) (future : Bool) → IsOnes path written (if future then b else record b {
    marks = replicate (min next (length b.marks)) Acked ++ drop next b.marks;
    edge = max b.edge (next + window);
    fin = fin_after next b;
  })
  ones_acked next window true = h
  ones_acked next window false = record {
    tried = Every-append (every_same (min next (length b.marks)) Acked tt) (every_dropped next b.marks h.tried);
    whole = (
        let one = length-append (replicate (min next (length b.marks)) Acked) (drop next b.marks) in
        let two = length-replicate (min next (length b.marks)) Acked in let three = length-drop next b.marks in
        omega (arith, one, two, three, h.whole));
    grown = h.grown;
  }

  pub ones_after : (call : SendCall) → IsOrdinary path call → IsOnes path written (after_call b call)
  ones_after (Write bytes) is = ones_written bytes (b.closed || b.aborted)
  ones_after Close is = ones_closed b.aborted
  ones_after (Grant asker max standby) is =
      subst (λ n. IsOnes path written (given_by n (decision n max standby b) b)) (sym is) (ones_granted path max standby (decision path max standby b) (given_tried path) refl)
  ones_after (AckIn next window) is = ones_acked next window (is_future next b)
  ones_after (Return asker) is = record {
    tried = every_mapped (returned asker) (returned_tried path asker) b.marks h.tried;
    whole = length-map b.marks (returned asker) ∙ h.whole;
    grown = h.grown;
  }
  ones_after GoIdentity is = record { tried = h.tried; whole = h.whole; grown = h.grown }
  ones_after (GoInfinite asker) is =
      if_so (IsOnes path written) (is_gathered asker b) (record b { owner = Some asker }) b
      (record { tried = h.tried; whole = h.whole; grown = h.grown }) h
  ones_after Abort is = record { tried = h.tried; whole = h.whole; grown = h.grown }

  -- ---- all is taken as long as nothing is granted or acknowledged

  abbrev AllTaken : Sending → Type 0
  AllTaken c = min written c.edge ≤ taken_len path c.marks

  taken_after : (call : SendCall) → IsQuiet path call → AllTaken b → AllTaken (after_call b call)
  taken_after (Write bytes) is all = by (b.closed || b.aborted)
    where
      by : (shut : Bool) → AllTaken (if shut then b else record b {
        written = b.written ++ take (bytes_taken bytes b) bytes;
        marks = b.marks ++ replicate (bytes_taken bytes b) (Free no_paths);
      })
      by true = all
      by false = let more = taken_written path (bytes_taken bytes b) b.marks in omega (arith, all, more)
  taken_after Close is all = if_so AllTaken b.aborted b (record b { closed = true }) all all
  taken_after (Return asker) is all =
      let more = taken_returned path b.marks h.tried in
      subst (λ n. AllTaken (record b { marks = map (returned n) b.marks })) (sym is) (omega (arith, all, more))
  taken_after GoIdentity is all = all
  taken_after Abort is all = all
  taken_after _ is all = absurd is

  -- where another path alone is given bytes, it is for ever
  barred_fell : (owner : Option ℕ) → is_for path owner ≡ false → is_for 0 owner ≡ true → is_for path (Some 0) ≡ false
  barred_fell None barred own = absurd (false≢true (sym barred))
  barred_fell (Some other) barred own = let same : other ≡ 0 = eqb-true other 0 own in subst (λ n. is_for path (Some n) ≡ false) same barred

  barred_after : (call : SendCall) → IsQuiet path call → FallsSo b call → is_for path b.owner ≡ false → is_for path (after_call b call).owner ≡ false
  barred_after (Write bytes) is falls barred = by (b.closed || b.aborted)
    where
      by : (shut : Bool) → is_for path (if shut then b else record b {
        written = b.written ++ take (bytes_taken bytes b) bytes;
        marks = b.marks ++ replicate (bytes_taken bytes b) (Free no_paths);
      }).owner ≡ false
      by true = barred
      by false = barred
  barred_after Close is falls barred = elim b.aborted as (λ aborted. is_for path (if aborted then b else record b { closed = true }).owner ≡ false)
      [ true ↦ barred | false ↦ barred ]
  barred_after (Return asker) is falls barred = barred
  barred_after GoIdentity is falls barred = barred_fell b.owner barred falls
  barred_after Abort is falls barred = barred
  barred_after _ is falls barred = absurd is

  -- a stopped book stays so
  stopped_after : (call : SendCall) → IsQuiet path call → b.aborted ≡ true → (after_call b call).aborted ≡ true
  stopped_after (Write bytes) is stopped = by (b.closed || b.aborted)
    where
      by : (shut : Bool) → (if shut then b else record b {
        written = b.written ++ take (bytes_taken bytes b) bytes;
        marks = b.marks ++ replicate (bytes_taken bytes b) (Free no_paths);
      }).aborted ≡ true
      by true = stopped
      by false = stopped
  stopped_after Close is stopped = elim b.aborted as (λ aborted. (if aborted then b else record b { closed = true }).aborted ≡ true) [ true ↦ stopped | false ↦ stopped ]
  stopped_after (Return asker) is stopped = stopped
  stopped_after GoIdentity is stopped = stopped
  stopped_after Abort is stopped = refl
  stopped_after _ is stopped = absurd is

  -- an acknowledgement by which the window reaches no further
  pub all_acknowledged : (s : Side) (steps : List Note) (next window : ℕ) → next + window ≤ b.edge → AskedForAll path s steps written b
      → AskedForAll path s steps written (after_call b (AckIn next window))
  all_acknowledged s steps next window below asked = by (is_future next b) asked
    where
      by : (future : Bool) → AskedForAll path s steps written b → AskedForAll path s steps written (if future then b else record b {
        marks = replicate (min next (length b.marks)) Acked ++ drop next b.marks;
        edge = max b.edge (next + window);
        fin = fin_after next b;
      })
      by true asked = asked
      by false (Taken all) = let more = taken_covered path next b.marks in Taken (omega (arith, all, more, below))
      by false (Standby told) = Standby told
      by false (Barred barred) = Barred barred
      by false (Stopped stopped) = Stopped stopped

  -- a return of nothing
  pub all_returned : (s : Side) (steps : List Note) (who : ℕ) → count_by (is_held_by who) b.marks ≡ 0 → AskedForAll path s steps written b
      → AskedForAll path s steps written (after_call b (Return who))
  all_returned s steps who none asked = subst (λ marks. AskedForAll path s steps written (record b { marks = marks })) (sym (none_returned who b.marks none)) asked

  pub all_after : (s : Side) (steps : List Note) (call : SendCall) → IsQuiet path call → FallsSo b call → AskedForAll path s steps written b
      → AskedForAll path s steps written (after_call b call)
  all_after s steps call is falls (Taken all) = Taken (taken_after call is all)
  all_after s steps call is falls (Standby told) = Standby told
  all_after s steps call is falls (Barred barred) = Barred (barred_after call is falls barred)
  all_after s steps call is falls (Stopped stopped) = Stopped (stopped_after call is stopped)

  -- the book may be given to a path alone, where it wasn't given to one before
  pub all_gone : (s : Side) (steps : List Note) (asker : ℕ) → AskedForAll path s steps written b → AskedForAll path s steps written (after_call b (GoInfinite asker))
  all_gone s steps asker = by b.owner refl (tried_first asker (drop (acked_len b.marks) b.marks))
    where
      by : (owner : Option ℕ) → b.owner ≡ owner → (first : Bool) → AskedForAll path s steps written b
          → AskedForAll path s steps written (if is_none owner && first then record b { owner = Some asker } else b)
      by None is true (Taken all) = Taken all
      by None is true (Standby told) = Standby told
      by None is true (Barred barred) = absurd (false≢true (sym barred ∙ ap (is_for path) is))
      by None is true (Stopped stopped) = Stopped stopped
      by None is false asked = asked
      by (Some other) is first asked = asked

  -- ---- a grant to another path

  module _ (asker max : ℕ) (standby : Bool) (apart : asker ≡ path → ⊥) where
    pub ones_other : IsOnes path written (after_call b (Grant asker max standby))
    ones_other = ones_granted asker max standby (decision asker max standby b) (λ m tried. given_other path asker m apart tried) refl

    taken_other : AllTaken b → AllTaken (after_call b (Grant asker max standby))
    taken_other all = by (decision asker max standby b) refl
      where
        by : (o : Result Span Why) → decision asker max standby b ≡ o → AllTaken (given_by asker o b)
        by (Err why) is = all
        by (Ok span) is =
            let m : MayTake asker max b span = decision-MayTake asker max standby b span is in
            let more = taken_within path (given asker) span.from (span.to - span.from) b.marks (given_taken path asker) in
            let rest : drop (span.to - span.from) (drop span.from b.marks) ≡ drop span.to b.marks =
            drop-drop (span.to - span.from) span.from b.marks ∙ (let end : span.from + (span.to - span.from) ≡ span.to = omega (arith, m.whole) in ap (λ n. drop n b.marks) end) in
            let same = ap (λ xs. taken_len path (take span.from b.marks ++ (map (given asker) (take (span.to - span.from) (drop span.from b.marks)) ++ xs))) rest in
            omega (arith, all, more, same)

    pub all_other : (s : Side) (steps : List Note) → AskedForAll path s steps written b → AskedForAll path s steps written (after_call b (Grant asker max standby))
    all_other s steps (Taken all) = Taken (taken_other all)
    all_other s steps (Standby told) = Standby told
    all_other s steps (Barred barred) = Barred (by (decision asker max standby b))
      where
        by : (o : Result Span Why) → is_for path (given_by asker o b).owner ≡ false
        by = elim [ Err why ↦ barred | Ok span ↦ barred ]
    all_other s steps (Stopped stopped) = Stopped (by (decision asker max standby b))
      where
        by : (o : Result Span Why) → (given_by asker o b).aborted ≡ true
        by = elim [ Err why ↦ stopped | Ok span ↦ stopped ]

  -- ---- a refusal

  -- nothing is left, or it is past the edge
  none_found : position (is_free_for path) b.marks ≡ None → AllTaken b
  none_found is =
      (elim (nat_lt (taken_len path b.marks) (length b.marks)) as (λ c. nat_lt (taken_len path b.marks) (length b.marks) ≡ c → cond c (Some (taken_len path b.marks)) None ≡ None → AllTaken b)
      [ true ↦ λ below is. cc | false ↦ λ above is. let most = ltb-false (taken_len path b.marks) (length b.marks) above in omega (arith, most, h.whole, h.grown) ]) refl is

  shut_at : (from : ℕ) → position (is_free_for path) b.marks ≡ Some from → b.edge ≤ from → AllTaken b
  shut_at from is edge = (elim (nat_lt (taken_len path b.marks) (length b.marks)) as (λ c. cond c (Some (taken_len path b.marks)) None ≡ Some from → AllTaken b)
      [ true ↦ λ is. let same : taken_len path b.marks ≡ from = cc in omega (arith, same, edge) | false ↦ λ is. cc ]) is

  at_place : (most : ℕ) (o : Option ℕ) → position (is_free_for path) b.marks ≡ o → grant_in (Reply.Send (reply_by (span_at path most b o) b)) ≡ None → AllTaken b
  at_place most None is none = none_found is
  at_place most (Some from) is none =
      (elim (nat_le b.edge from) as (λ c. nat_le b.edge from ≡ c → grant_in (Reply.Send (reply_by (if c then Err WindowShut else Ok (record { from = from; to = from + run_len path most b from })) b)) ≡ None → AllTaken b) [
        | true ↦ λ edge none. shut_at from is (leb-true b.edge from edge)
        | false ↦ λ edge none. cc
      ]) refl none

  -- all is taken, or the path is on standby, or another one alone is given bytes, or none
  abbrev pub Refused : Bool → Type 0
  Refused standby = AllTaken b ⊎ ((standby ≡ true) ⊎ ((is_for path b.owner ≡ false) ⊎ (b.aborted ≡ true)))

  refused_by : (max : ℕ) (standby done own : Bool) → is_for path b.owner ≡ own → (done ≡ true → AllTaken b ⊎ (b.aborted ≡ true))
      → grant_in (Reply.Send (reply_by (if done then Err Ended else (if standby then Err Backup else span_at path max b (if own then position (is_free_for path) b.marks else None))) b)) ≡ None
      → Refused standby
  refused_by max standby true own is all none = ⊎_elim (λ taken. inl taken) (λ stopped. inr (inr (inr stopped))) (all refl)
  refused_by max true false own is all none = inr (inl refl)
  refused_by max false false false is all none = inr (inr (inl is))
  refused_by max false false true is all none = inl (at_place max (position (is_free_for path) b.marks) refl none)

  refused_all : (max : ℕ) (standby : Bool) → grant_in (Reply.Send (reply_by (decision path max standby b) b)) ≡ None → Refused standby
  refused_all max standby none = refused_by max standby (b.aborted || (b.closed && (acked_len b.marks == length b.written))) (is_for path b.owner) refl all none
    where
      whole : (b.closed && (acked_len b.marks == length b.written)) ≡ true → AllTaken b
      whole closed =
          let count : acked_len b.marks ≡ length b.written = eqb-true (acked_len b.marks) (length b.written) (and_parts b.closed (acked_len b.marks == length b.written) closed).1 in
          let most = all_acked path b.marks (omega (arith, count, h.whole)) in omega (arith, most, h.whole, h.grown)

      all : (b.aborted || (b.closed && (acked_len b.marks == length b.written))) ≡ true → AllTaken b ⊎ (b.aborted ≡ true)
      all done = ⊎_elim (λ stopped. inr stopped) (λ closed. inl (whole closed)) (or_cases b.aborted (b.closed && (acked_len b.marks == length b.written)) done)

  -- after a refusal the book is the same
  same_given : (o : Result Span Why) → grant_in (Reply.Send (reply_by o b)) ≡ None → given_by path o b ≡ b
  same_given = elim [ Ok span ↦ λ none. cc | Err why ↦ λ none. refl ]

  pub grant_refused : (s : Side) (steps : List Note) (n : Note) (max : ℕ) (standby : Bool) → ((before : Bool) → standby_after s n before ≡ standby)
      → grant_in (Reply.Send (reply_by (decision path max standby b) b)) ≡ None → AskedForAll path s (steps ++ n ∷ []) written (after_call b (Grant path max standby))
  grant_refused s steps n max standby told none =
      subst (AskedForAll path s (steps ++ n ∷ []) written) (sym (same_given (decision path max standby b) none))
      (⊎_elim (λ all. Taken all) (λ other. ⊎_elim (λ is. Standby (last_more s false steps n ∙ told (last_on_standby s false steps) ∙ is))
      (λ last. ⊎_elim (λ barred. Barred barred) (λ stopped. Stopped stopped) last) other) (refused_all max standby none))

-- with a step more that asks for no bytes
pub asked_more : (path : ℕ) (s : Side) (steps : List Note) (n : Note) (written : ℕ) (b : Sending) → asks_grant s n.ask ≡ false → AskedForAll path s steps written b
    → AskedForAll path s (steps ++ n ∷ []) written b
asked_more path s steps n written b isn't (Taken all) = Taken all
asked_more path s steps n written b isn't (Standby told) =
    Standby (last_more s false steps n ∙ ap (λ (c : Bool). if c then is_standby n.ask else last_on_standby s false steps) isn't ∙ told)
asked_more path s steps n written b isn't (Barred barred) = Barred barred
asked_more path s steps n written b isn't (Stopped stopped) = Stopped stopped
