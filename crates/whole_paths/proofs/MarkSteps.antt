-- What a call of a send book makes of the mark at a place.
use Rattle.std.proofs.Common.{◌≡◌, refl, sym, subst, ap, ◌∙◌, ⊎_elim, inl, inr, ◌⊎◌, ℕ, zero, suc, ◌+◌, ◌-◌, ◌==◌, ◌<◌, min, arith, Bool, true, false, true≢false, not, if◌then◌else◌, Option, Some, None, Result, Ok, Err, List, [], ◌∷◌, ◌++◌, length, drop, replicate}
use Rattle.std.specs.List.{slice_get}
use Rattle.std.specs.Option.{option_map}
use Rattle.std.proofs.lemmas.Bool.{and_from, and_parts, cases_lt, eqb-true}
use Rattle.std.proofs.lemmas.List.{length-append, length-drop, length-replicate}
use Rattle.std.proofs.lemmas.Option.{slice_get-map, slice_get_past}
use Rattle.send_book.specs.declared.call.SendCall.{SendCall}
use Rattle.send_book.specs.declared.call.SendCall.TheVariants.{Write, Close, Grant, AckIn, Return, GoIdentity, GoInfinite, Abort}
use Rattle.send_book.specs.declared.call.Span.{Span}
use Rattle.send_book.specs.declared.call.Why.{Why}
use Rattle.send_book.specs.declared.mark.ByteMark.{ByteMark}
use Rattle.send_book.specs.declared.mark.ByteMark.TheVariants.{Acked, Held, Free}
use Rattle.send_book.specs.Marks.{given, is_free_for, returned}
use Rattle.send_book.specs.State.{Sending}
use Rattle.send_book.specs.Steps.{after_call, decision, given_by, is_future, is_gathered}
use Rattle.send_book.specs.Tried.{contains, insert, no_paths}
use Rattle.send_book.proofs.Decisions.{MayTake, decision-MayTake}
use Rattle.send_book.proofs.Lists.{slice_get-append_left, slice_get-append_right, slice_get-changed_above, slice_get-changed_below, slice_get-changed_inside, slice_get-drop, slice_get-replicate}
use Rattle.send_book.proofs.PathSets.{contains-insert_more}
use Rattle.whole_paths.specs.Holders.{holds, let_go}

-- By a call the mark at a place stays, is there for the first time, is given to a path that asks and didn't try the byte, is acknowledged, or is given
-- back by a path.
pub data MarkStep (call : SendCall) (o q : Option ByteMark) : Type 0 where
  same : q ≡ o → MarkStep call o q
  is_written : o ≡ None → q ≡ Some (Free no_paths) → MarkStep call o q
  gives : (asker max : ℕ) (standby : Bool) (among : List Bool) → call ≡ Grant asker max standby → o ≡ Some (Free among) → contains asker among ≡ false
      → q ≡ Some (Held asker (insert asker among)) → MarkStep call o q
  acked : (m : ByteMark) → o ≡ Some m → q ≡ Some Acked → MarkStep call o q
  returns : (asker : ℕ) (m : ByteMark) → call ≡ Return asker → o ≡ Some m → q ≡ Some (returned asker m) → MarkStep call o q

-- there is a mark at each place
pub some_at : (place : ℕ) (ms : List ByteMark) → place < length ms → (m : ByteMark) × (slice_get ms place ≡ Some m)
some_at place [] less = absurd (omega (arith, less))
some_at zero (m ∷ ms) less = (m, refl)
some_at (suc place) (m ∷ ms) less = some_at place ms (omega (arith, less))

module _ (place : ℕ) where
  written_row : (call : SendCall) (shut : Bool) (bytes : List ℕ) (count : ℕ) (b : Sending)
      → MarkStep call (slice_get b.marks place) (slice_get (if shut then b else record b { written = bytes; marks = b.marks ++ replicate count (Free no_paths) }).marks place)
  written_row call true bytes count b = same refl
  written_row call false bytes count b = ⊎_elim
      (λ below. same (slice_get-append_left b.marks (replicate count (Free no_paths)) place below))
      (λ past. ⊎_elim
      (λ inside. is_written (slice_get_past b.marks place past)
      (slice_get-append_right b.marks (replicate count (Free no_paths)) (place - length b.marks) place (omega (arith, past)) ∙ slice_get-replicate count (place - length b.marks) (Free no_paths) inside))
      (λ over. same (slice_get_past (b.marks ++ replicate count (Free no_paths)) place
      (let sum = length-append b.marks (replicate count (Free no_paths)) in let size = length-replicate count (Free no_paths) in omega (arith, past, over, sum, size))
      ∙ sym (slice_get_past b.marks place past)))
      (cases_lt (place - length b.marks) count))
      (cases_lt place (length b.marks))

  not_true : (c : Bool) → not c ≡ true → c ≡ false
  not_true true is = absurd (true≢false (sym is))
  not_true false is = refl

  given_row : (asker max : ℕ) (standby : Bool) (o q : Option ByteMark) (m : ByteMark) → is_free_for asker m ≡ true → o ≡ Some m → q ≡ Some (given asker m) → MarkStep (Grant asker max standby) o q
  given_row asker max standby o q Acked free there is = absurd (true≢false (sym free))
  given_row asker max standby o q (Held holder among) free there is = absurd (true≢false (sym free))
  given_row asker max standby o q (Free among) free there is = gives asker max standby among refl there (not_true (contains asker among) free) is

  grant_row : (asker max : ℕ) (standby : Bool) (b : Sending) (r : Result Span Why) → ((span : Span) → r ≡ Ok span → MayTake asker max b span)
      → MarkStep (Grant asker max standby) (slice_get b.marks place) (slice_get (given_by asker r b).marks place)
  grant_row asker max standby b (Err why) may = same refl
  grant_row asker max standby b (Ok span) may =
      let m : MayTake asker max b span = may span refl in
      let whole : span.to ≡ span.from + (span.to - span.from) = omega (arith, m.whole) in
      ⊎_elim (λ below. same (slice_get-changed_below (given asker) span.from (span.to - span.from) span.to b.marks whole m.within place below))
      (λ above. ⊎_elim
      (λ under. let there = some_at place b.marks (let within = m.within in omega (arith, under, within)) in
      given_row asker max standby _ _ there.0 (m.free place there.0 above under there.1) there.1
      (slice_get-changed_inside (given asker) span.from (span.to - span.from) span.to b.marks whole m.within place above under ∙ ap (option_map (given asker)) there.1))
      (λ over. same (slice_get-changed_above (given asker) span.from (span.to - span.from) span.to b.marks whole m.within place over))
      (cases_lt place span.to))
      (cases_lt place span.from)

  acked_row : (call : SendCall) (next edge : ℕ) (b : Sending) (future fin : Bool)
      → MarkStep call (slice_get b.marks place) (slice_get (if future then b else record b { marks = replicate (min next (length b.marks)) Acked ++ drop next b.marks; edge = edge; fin = fin }).marks place)
  acked_row call next edge b true fin = same refl
  acked_row call next edge b false fin = ⊎_elim
      (λ there. ⊎_elim
      (λ below. let old = some_at place b.marks there in
      acked old.0 old.1 (slice_get-append_left (replicate (min next (length b.marks)) Acked) (drop next b.marks) place (omega (arith, there, below, size))
      ∙ slice_get-replicate (min next (length b.marks)) place Acked (omega (arith, there, below))))
      (λ above. same (slice_get-append_right (replicate (min next (length b.marks)) Acked) (drop next b.marks) (place - next) place (omega (arith, there, above, size))
      ∙ slice_get-drop next b.marks (place - next) place (omega (arith, above))))
      (cases_lt place next))
      (λ past. same (slice_get_past (replicate (min next (length b.marks)) Acked ++ drop next b.marks) place
      (let sum = length-append (replicate (min next (length b.marks)) Acked) (drop next b.marks) in let rest = length-drop next b.marks in omega (arith, past, sum, size, rest))
      ∙ sym (slice_get_past b.marks place past)))
      (cases_lt place (length b.marks))
    where
      size : length (replicate (min next (length b.marks)) Acked) ≡ min next (length b.marks)
      size = length-replicate (min next (length b.marks)) Acked

  returned_row : (asker : ℕ) (o q : Option ByteMark) → q ≡ option_map (returned asker) o → MarkStep (Return asker) o q
  returned_row asker None q is = same is
  returned_row asker (Some m) q is = returns asker m refl refl is

  pub mark_step : (call : SendCall) (b : Sending) → MarkStep call (slice_get b.marks place) (slice_get (after_call b call).marks place)
  mark_step (Write bytes) b = written_row (Write bytes) _ _ _ b
  mark_step Close b = elim b.aborted as (λ c. MarkStep Close (slice_get b.marks place) (slice_get (if c then b else record b { closed = true }).marks place)) [ true ↦ same refl | false ↦ same refl ]
  mark_step (Grant asker max standby) b = grant_row asker max standby b (decision asker max standby b) (decision-MayTake asker max standby b)
  mark_step (AckIn next window) b = acked_row (AckIn next window) next _ b (is_future next b) _
  mark_step (Return asker) b = returned_row asker (slice_get b.marks place) _ (slice_get-map (returned asker) b.marks place)
  mark_step GoIdentity b = same refl
  mark_step (GoInfinite asker) b = elim (is_gathered asker b) as (λ c. MarkStep (GoInfinite asker) (slice_get b.marks place) (slice_get (if c then record b { owner = Some asker } else b).marks place)) [ true ↦ same refl | false ↦ same refl ]
  mark_step Abort b = same refl

-- ---- who holds a byte

held_if : (n holder : ℕ) (among : List Bool) (c : Bool) → holds n (Some (if c then Free among else Held holder among)) ≡ true → (holder == n) ≡ true
held_if n holder among true is = absurd (true≢false (sym is))
held_if n holder among false is = is

held_first : (n asker : ℕ) (m : ByteMark) → holds n (Some (returned asker m)) ≡ true → holds n (Some m) ≡ true
held_first n asker Acked is = is
held_first n asker (Held holder among) is = held_if n holder among (holder == asker) is
held_first n asker (Free among) is = is

-- the path asked for bytes
pub record AsksFor (n : ℕ) (call : SendCall) : Type 0 where
  pub max : ℕ
  pub standby : Bool
  pub is : call ≡ Grant n max standby

-- a path that holds a byte held it before, or asked for bytes
pub held_before : (n : ℕ) (call : SendCall) (o q : Option ByteMark) → MarkStep call o q → holds n q ≡ true → (holds n o ≡ true) ⊎ AsksFor n call
held_before n call o q (same is) held = inl (sym (ap (holds n) is) ∙ held)
held_before n call o q (is_written none is) held = absurd (true≢false (sym held ∙ ap (holds n) is))
held_before n call o q (gives asker max standby among asks there untried is) held =
    inr (record { max = max; standby = standby; is = subst (λ (x : ℕ). call ≡ Grant x max standby) (eqb-true asker n (sym (ap (holds n) is) ∙ held)) asks })
held_before n call o q (acked m there is) held = absurd (true≢false (sym held ∙ ap (holds n) is))
held_before n call o q (returns asker m asks there is) held = inl (ap (holds n) there ∙ held_first n asker m (sym (ap (holds n) is) ∙ held))

returned_holds : (n : ℕ) (o : Option ByteMark) → holds n (option_map (returned n) o) ≡ false
returned_holds n None = refl
returned_holds n (Some Acked) = refl
returned_holds n (Some (Free among)) = refl
returned_holds n (Some (Held holder among)) = by (holder == n) refl
  where
    by : (c : Bool) → (holder == n) ≡ c → holds n (Some (if c then Free among else Held holder among)) ≡ false
    by true is = refl
    by false is = is

-- none of the bytes is held that a path gives back
pub none_held : (n place : ℕ) (b : Sending) → holds n (slice_get (after_call b (Return n)).marks place) ≡ false
none_held n place b = ap (holds n) (slice_get-map (returned n) b.marks place) ∙ returned_holds n (slice_get b.marks place)

-- ---- what a path lets go

let_go_returned : (n asker : ℕ) (m : ByteMark) → let_go n (Some m) ≡ true → let_go n (Some (returned asker m)) ≡ true
let_go_returned n asker Acked is = is
let_go_returned n asker (Free among) is = is
let_go_returned n asker (Held holder among) is = by (holder == asker)
  where
    by : (c : Bool) → let_go n (Some (if c then Free among else Held holder among)) ≡ true
    by true = (and_parts (contains n among) (not (holder == n)) is).0
    by false = is

-- what it let go it never holds again
pub let_go_stays : (n : ℕ) (call : SendCall) (o q : Option ByteMark) → MarkStep call o q → let_go n o ≡ true → let_go n q ≡ true
let_go_stays n call o q (same is) gone = ap (let_go n) is ∙ gone
let_go_stays n call o q (is_written none is) gone = absurd (true≢false (sym gone ∙ ap (let_go n) none))
let_go_stays n call o q (gives asker max standby among asks there untried is) gone = ap (let_go n) is ∙ and_from _ _ (contains-insert_more asker n among was) (apart (asker == n) refl)
  where
    was : contains n among ≡ true
    was = sym (ap (let_go n) there) ∙ gone

    apart : (c : Bool) → (asker == n) ≡ c → not (asker == n) ≡ true
    apart true is = absurd (true≢false (sym was ∙ subst (λ (x : ℕ). contains x among ≡ false) (eqb-true asker n is) untried))
    apart false is = ap not is
let_go_stays n call o q (acked m there is) gone = ap (let_go n) is
let_go_stays n call o q (returns asker m asks there is) gone = ap (let_go n) is ∙ let_go_returned n asker m (sym (ap (let_go n) there) ∙ gone)
