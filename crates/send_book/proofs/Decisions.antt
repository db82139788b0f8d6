-- What is granted: a part of the marks, all of whose bytes the path may take.
use Rattle.std.proofs.Common.{◌≡◌, refl, ◌∙◌, subst, ℕ, ◌+◌, ◌-◌, ◌<◌, ◌≤◌, Bool, true, false, cond, nat_lt, nat_le, if◌then◌else◌, List, length, drop, Some, None, Result, Ok, Err, position, arith}
use Rattle.std.proofs.lemmas.Bool.{ltb-true, leb-false}
use Rattle.std.specs.List.{slice_get, prefix_len, position_or_len}
use Rattle.std.proofs.lemmas.List.{length-drop}
use Rattle.send_book.specs.declared.call.Span.{Span}
use Rattle.send_book.specs.declared.call.Why.{Why}
use Rattle.send_book.specs.declared.call.Why.TheVariants.{Ended, Backup, WindowShut}
use Rattle.send_book.specs.declared.mark.ByteMark.{ByteMark}
use Rattle.send_book.specs.Marks.{is_free_for}
use Rattle.send_book.specs.State.{Sending}
use Rattle.send_book.specs.Steps.{is_for, first_free, run_len, span_from, span_at, decision}
use Rattle.send_book.proofs.Lists.{slice_get-drop, slice_get-prefix, prefix_len-le, prefix_len-position}

-- a span that this path may be given
pub record MayTake (path max : ℕ) (b : Sending) (span : Span) : Type 0 where
  pub count : ℕ
  pub whole : span.to ≡ span.from + count
  pub within : span.to ≤ length b.marks
  pub below : span.to ≤ b.edge
  pub free : (place : ℕ) (mark : ByteMark) → span.from ≤ place → place < span.to
      → slice_get b.marks place ≡ Some mark → is_free_for path mark ≡ true
  pub some : 1 ≤ max → 1 ≤ count
  pub most : count ≤ max

passed_over : (b : Bool) (w : Why) (r : Result Span Why) (span : Span) → (if b then Err w else r) ≡ Ok span → r ≡ Ok span
passed_over true w r span e = cc
passed_over false w r span e = e

-- a byte is found where an element passes
found : (xs : List ByteMark) (p : ByteMark → Bool) (from : ℕ) → position p xs ≡ Some from
    → (position_or_len p xs ≡ from) × (position_or_len p xs < length xs)
found xs p from e = at (nat_lt (position_or_len p xs) (length xs)) refl e
  where
    at : (b : Bool) → nat_lt (position_or_len p xs) (length xs) ≡ b → cond b (Some (position_or_len p xs)) None ≡ Some from
        → (position_or_len p xs ≡ from) × (position_or_len p xs < length xs)
    at true is e = (cc, ltb-true _ _ is)
    at false is e = cc

span_from-MayTake : (path max : ℕ) (b : Sending) (from : ℕ) (span : Span) → first_free path b ≡ Some from
    → span_from path max b from ≡ Ok span → MayTake path max b span
span_from-MayTake path max b from span first e = owned (is_for path b.owner) first (nat_le b.edge from) refl e
  where
    p : ByteMark → Bool
    p = is_free_for path

    taking : position p b.marks ≡ Some from → from < b.edge → MayTake path max b (record { from = from; to = from + run_len path max b from })
    taking at below =
        let where_is = found b.marks p from at in
        let some : 1 ≤ prefix_len p (drop from b.marks) = rw (← where_is.0) (prefix_len-position p b.marks where_is.1) in
        let most : prefix_len p (drop from b.marks) ≤ length b.marks - from =
        omega (arith, prefix_len-le p (drop from b.marks), length-drop from b.marks) in
        record {
          count = run_len path max b from;
          whole = refl;
          within = omega (arith, most, where_is);
          below = omega (arith, below);
          free = λ place mark above under is.
              slice_get-prefix p (drop from b.marks) (place - from) mark (omega (arith, above, under))
              (slice_get-drop from b.marks (place - from) place (omega (arith, above)) ∙ is);
          some = λ positive. omega (arith, positive, some, below);
          most = omega arith;
        }

    shut : (c : Bool) → nat_le b.edge from ≡ c → position p b.marks ≡ Some from
        → (if c then Err WindowShut else Ok (record { from = from; to = from + run_len path max b from })) ≡ Ok span → MayTake path max b span
    shut true is at e = cc
    shut false is at e =
        let same : record { from = from; to = from + run_len path max b from } ≡ span = cc in
        subst (MayTake path max b) same (taking at (leb-false _ _ is))

    owned : (o : Bool) → (if o then position p b.marks else None) ≡ Some from → (c : Bool) → nat_le b.edge from ≡ c
        → (if c then Err WindowShut else Ok (record { from = from; to = from + run_len path max b from })) ≡ Ok span → MayTake path max b span
    owned true at c is e = shut c is at e
    owned false at c is e = cc

-- what is decided to be granted may be taken
pub decision-MayTake : (path max : ℕ) (standby : Bool) (b : Sending) (span : Span)
    → decision path max standby b ≡ Ok span → MayTake path max b span
decision-MayTake path max standby b span e =
    (elim (first_free path b) as (λ o. first_free path b ≡ o → span_at path max b o ≡ Ok span → MayTake path max b span)
    [ None ↦ λ is e. cc | Some from ↦ λ is e. span_from-MayTake path max b from span is e ]) refl (passed_over standby Backup _ span (passed_over _ Ended _ span e))

-- a byte that is found is one of the written ones
pub first_free-within : (path : ℕ) (b : Sending) (from : ℕ) → first_free path b ≡ Some from → from < length b.marks
first_free-within path b from e = (elim (is_for path b.owner) as (λ o. (if o then position (is_free_for path) b.marks else None) ≡ Some from → from < length b.marks)
    [ true ↦ λ at. let where_is = found b.marks (is_free_for path) from at in omega (arith, where_is) | false ↦ λ at. cc ]) e

pub run_len-within : (path max : ℕ) (b : Sending) (from : ℕ) → first_free path b ≡ Some from → from + run_len path max b from ≤ length b.marks
run_len-within path max b from e =
    let within : from < length b.marks = first_free-within path b from e in
    let most : prefix_len (is_free_for path) (drop from b.marks) ≤ length b.marks - from =
    omega (arith, prefix_len-le (is_free_for path) (drop from b.marks), length-drop from b.marks) in
    omega (arith, within, most)
