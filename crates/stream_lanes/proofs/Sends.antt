-- What each call of a send book makes of it and of its view.
--
-- One record a call of a book (`SendStep`, `ReceiveStep`): its view went on, and what holds of the books holds again.
use Rattle.stream_lanes.proofs.Words.{◌≡◌, refl, sym, ◌∙◌, ap, subst, ℕ, ◌+◌, ◌-◌, ◌<◌, ◌≤◌, min, max, Bool, true, false, nat_lt, ⊎_elim, List, [], ◌++◌}
use Rattle.stream_lanes.proofs.Words.{length, take, drop, map, replicate, Option, Some, None, Result, Ok, Err, if◌then◌else◌, arith, ◌||◌, is_none, or_cases}
use Rattle.stream_lanes.proofs.Words.{and_parts, both_ways, ltb-true, ltb-false, or_parts, slice_get, length-take, length-drop, length-replicate, append-nil}
use Rattle.stream_lanes.proofs.Words.{length-map, length-append, same_Some, Arriving, received, Span, Why, Grant, AckIn, Sending, acked_len, bytes_taken}
use Rattle.stream_lanes.proofs.Words.{is_future, fin_after, is_gathered, decision, given_by, change_part, ByteMark, Acked, Free, returned, MayTake}
use Rattle.stream_lanes.proofs.Words.{decision-MayTake, stays-after_call, spent-stays, no_paths, Flags, view_of, all_in, IsEnd, IsAll, IsAck, SendHolds}
use Rattle.stream_lanes.proofs.Words.{IsOwnedBy, spent, AreAcked}
use Rattle.send_book.specs.declared.call.SendCall.TheVariants.{Write, Close, Return}
use Rattle.send_book.specs.Marks.{given}
use Rattle.send_book.specs.Steps.{after_call}
use Rattle.stream_lanes.proofs.Later.{Later, Anyone, But}
use Rattle.stream_lanes.proofs.MarkLists.{AreAcked-count, AreAcked-within, AreAcked-written, AreAcked-returned, AreAcked-given, AreAcked-acked, AreNew-written, AreNew-returned, AreNew-acked, grant_owner, tried-written, tried-returned, tried-acked, tried-given, held-written, held-returned, held-given, held-acked}
use Rattle.stream_lanes.proofs.Views.{AllIn, all_in_is, all_in_one, end_is}
use Rattle.stream_lanes.proofs.Views.AllIn.{missing, complete}

-- a call of the send book: its view went on, and it holds
pub record SendStep (Q : ℕ → Type 0) (f : Flags) (s t : Sending) (b : Arriving) : Type 0 where
  pub later : Later Q (view_of f s b) (view_of f t b)
  pub holds : SendHolds t (view_of f t b)
  pub owned : IsOwnedBy (view_of f s b) → IsOwnedBy (view_of f t b)

module _ (f : Flags) (s : Sending) (b : Arriving) (h : SendHolds s (view_of f s b)) where
  -- the book has an owner, or is aborted: neither is seen
  pub unseen : {Q : ℕ → Type 0} (aborted : Bool) (owner : Option ℕ) → ((path : ℕ) → s.owner ≡ Some path → owner ≡ Some path)
      → (IsOwnedBy (view_of f s b) → IsOwnedBy (view_of f (record s { aborted = aborted; owner = owner }) b)) → SendStep Q f s (record s { aborted = aborted; owner = owner }) b
  unseen aborted owner keeps owned = record {
    later = record {
      more = [];
      written = sym (append-nil s.written);
      spent = λ path place is. is;
      untried = λ path q place is. is;
      news = λ path q kept n reach new. new;
      end = λ e is. is;
      acked = omega arith;
      confirmed = omega arith;
      room = omega arith;
      received = omega arith;
      next = omega arith;
      edge = omega arith;
      alone = λ is. is;
      fallen = λ is. is;
      stays_alone = λ fallen alone. alone;
      owner = keeps;
      placed = λ place is. is;
      alters = refl;
      checked = refl;
      exact = λ is. is;
    };
    holds = record { whole = h.whole; first = h.first; held = h.held; acked = h.acked; edge = h.edge; fin = h.fin };
    owned = owned;
  }

  -- the book as it is
  pub same_book : {Q : ℕ → Type 0} → SendStep Q f s s b
  same_book = unseen s.aborted s.owner (λ path is. is) (λ h. h)

  step_if : {Q : ℕ → Type 0} (c : Bool) (t u : Sending) → (c ≡ true → SendStep Q f s t b) → (c ≡ false → SendStep Q f s u b)
      → SendStep Q f s (if c then t else u) b
  step_if true t u at_true at_false = at_true refl
  step_if false t u at_true at_false = at_false refl

  -- the marks of a call that acknowledges nothing
  same_acked : (marks : List ByteMark) → AreAcked (acked_len s.marks) marks → (acked_len marks ≡ acked_len s.marks) × AreAcked (acked_len marks) marks
  same_acked marks are =
      let count : acked_len marks ≡ acked_len s.marks = AreAcked-count (acked_len s.marks) marks are in
      (count, subst (λ n. AreAcked n marks) (sym count) are)

  pub write_step : (bytes : List ℕ) → SendStep Anyone f s (after_call s (Write bytes)) b
  write_step bytes = step_if (s.closed || s.aborted) s _ (λ shut. same_book) writes
    where
      n : ℕ
      n = bytes_taken bytes s

      t : Sending
      t = record s { written = s.written ++ take n bytes; marks = s.marks ++ replicate n (Free no_paths) }

      counted : (acked_len t.marks ≡ acked_len s.marks) × AreAcked (acked_len t.marks) t.marks
      counted = same_acked t.marks (AreAcked-written (acked_len s.marks) n s.marks h.first)

      none_in : (c : Bool) (written : List ℕ) (count : ℕ) → c ≡ false → all_in c written count ≡ 0
      none_in = elim [ true ↦ λ written count e. cc | false ↦ λ written count e. refl ]

      not_closed : (c : Bool) (len other e : ℕ) → c ≡ false → IsEnd (if c then Some len else None) e → IsEnd (if c then Some other else None) e
      not_closed = elim [ true ↦ λ len other e is end. cc | false ↦ λ len other e is end. end ]

      writes : (s.closed || s.aborted) ≡ false → SendStep Anyone f s t b
      writes may = record {
        later = record {
          more = take n bytes;
          written = refl;
          spent = λ path place is. grown path place is;
          untried = λ path q place is. tried-written path place n s.marks is;
          news = λ path q kept k reach new. AreNew-written k n s.marks new;
          end = λ e is. not_closed s.closed (length s.written) (length t.written) e (or_parts s.closed s.aborted may).0 is;
          acked = omega (arith, counted.0);
          confirmed = omega (arith, counted.0, none_in s.closed s.written (acked_len s.marks) (or_parts s.closed s.aborted may).0);
          room = omega arith;
          received = omega arith;
          next = omega (arith, none_in s.closed s.written (received b) (or_parts s.closed s.aborted may).0);
          edge = omega (arith, none_in s.closed s.written (received b) (or_parts s.closed s.aborted may).0);
          alone = λ is. is;
          fallen = λ is. is;
          stays_alone = λ fallen alone. alone;
          owner = λ path is. is;
          placed = λ place is. is;
          alters = refl;
          checked = refl;
          exact = λ is. is;
        };
        holds = record {
          whole = omega (arith, length-append s.marks (replicate n (Free no_paths)), length-replicate n (Free no_paths), length-append s.written (take n bytes), length-take n bytes, h.whole);
          first = counted.1;
          held = held-written n s.marks h.held;
          acked = omega (arith, counted.0, h.acked);
          edge = λ none. let old = h.edge none in omega (arith, old, none_in s.closed s.written (received b) (or_parts s.closed s.aborted may).0);
          fin = λ is. let all = h.fin is in
              (all.0, not_closed s.closed (length s.written) (length t.written) all.0 (or_parts s.closed s.aborted may).0 all.1, omega (arith, all.2, counted.0));
        };
        owned = λ h. h;
      }
        where
          grown : (path place : ℕ) → spent path (slice_get s.marks place) ≡ true → spent path (slice_get t.marks place) ≡ true
          grown path place is =
              subst (λ c. spent path (slice_get (if c then s else t).marks place) ≡ true) may (stays-after_call (spent path) (spent-stays path) place (Write bytes) s is)

  pub close_step : SendStep Anyone f s (after_call s Close) b
  close_step = step_if s.aborted s (record s { closed = true }) (λ shut. same_book) (λ may. closes)
    where
      ends : (c : Bool) (e : ℕ) → IsEnd (if c then Some (length s.written) else None) e → IsEnd (Some (length s.written)) e
      ends = elim [ true ↦ λ e is. is | false ↦ λ e is. cc ]

      grows : (c : Bool) (count : ℕ) → all_in c s.written count ≤ all_in true s.written count
      grows = elim [ true ↦ λ count. omega arith | false ↦ λ count. omega arith ]

      closes : SendStep Anyone f s (record s { closed = true }) b
      closes = record {
        later = record {
          more = [];
          written = sym (append-nil s.written);
          spent = λ path place is. is;
          untried = λ path q place is. is;
          news = λ path q kept n reach new. new;
          end = ends s.closed;
          acked = omega arith;
          confirmed = omega (arith, grows s.closed (acked_len s.marks));
          room = omega arith;
          received = omega arith;
          next = omega (arith, grows s.closed (received b));
          edge = omega (arith, grows s.closed (received b));
          alone = λ is. is;
          fallen = λ is. is;
          stays_alone = λ fallen alone. alone;
          owner = λ path is. is;
          placed = λ place is. is;
          alters = refl;
          checked = refl;
          exact = λ is. is;
        };
        holds = record {
          whole = h.whole;
          first = h.first;
          held = h.held;
          acked = h.acked;
          edge = λ none. let old = h.edge none in omega (arith, old, grows s.closed (received b));
          fin = λ is. let all = h.fin is in (all.0, ends s.closed all.0 all.1, all.2);
        };
        owned = λ h. h;
      }

  pub return_step : (path : ℕ) → SendStep Anyone f s (after_call s (Return path)) b
  return_step path = record {
    later = record {
      more = [];
      written = sym (append-nil s.written);
      spent = λ k place is. stays-after_call (spent k) (spent-stays k) place (Return path) s is;
      untried = λ k q place is. tried-returned path k place s.marks is;
      news = λ k q kept n reach new. AreNew-returned path n s.marks new;
      end = λ e is. is;
      acked = omega (arith, counted.0);
      confirmed = omega (arith, same_confirmed, counted.0);
      room = omega arith;
      received = omega arith;
      next = omega arith;
      edge = omega arith;
      alone = λ is. is;
      fallen = λ is. is;
      stays_alone = λ fallen alone. alone;
      owner = λ path is. is;
      placed = λ place is. is;
      alters = refl;
      checked = refl;
      exact = λ is. is;
    };
    holds = record {
      whole = length-map s.marks (returned path) ∙ h.whole;
      first = counted.1;
      held = held-returned path s.marks h.held;
      acked = omega (arith, counted.0, h.acked);
      edge = h.edge;
      fin = λ is. let all = h.fin is in (all.0, all.1, omega (arith, all.2, counted.0));
    };
    owned = λ h. h;
  }
    where
      counted : (acked_len (map (returned path) s.marks) ≡ acked_len s.marks) × AreAcked (acked_len (map (returned path) s.marks)) (map (returned path) s.marks)
      counted = same_acked (map (returned path) s.marks) (AreAcked-returned path (acked_len s.marks) s.marks h.first)

      same_confirmed : all_in s.closed s.written (acked_len (map (returned path) s.marks)) ≡ all_in s.closed s.written (acked_len s.marks)
      same_confirmed = ap (all_in s.closed s.written) counted.0

  -- a book that was given to no path gives itself to one; as long as no join was answered, to path 0
  pub go_infinite_step : (path : ℕ) → is_gathered path s ≡ true → ((view_of f s b).alone ≡ true → path ≡ 0) → SendStep Anyone f s (record s { owner = Some path }) b
  go_infinite_step path gathered joined = unseen s.aborted (Some path)
      (λ k owned. absurd (both_ways _ (ap is_none owned) (and_parts (is_none s.owner) _ gathered).0))
      (λ h k is alone. sym (same_Some path k is) ∙ joined alone)

  pub go_identity_step : IsOwnedBy (view_of f s b) → (view_of f s b).alone ≡ true → SendStep Anyone f s (record s { owner = Some 0 }) b
  go_identity_step owner alone = unseen s.aborted (Some 0) (λ k owned. ap Some (sym (owner k owned alone))) (λ h k is alone. sym (same_Some 0 k is))

  -- an acknowledgement that covers received bytes alone, and the end where it was reached
  pub ack_step : (next window : ℕ) → received b ≤ length s.written → IsAck (view_of f s b) next window → SendStep Anyone f s (after_call s (AckIn next window)) b
  ack_step next window within ack = step_if (is_future next s) s _ (λ future. same_book) (λ past. acknowledges past)
    where
      c : ℕ
      c = min next (length s.marks)

      marks : List ByteMark
      marks = replicate (min next (length s.marks)) Acked ++ drop next s.marks

      are : AreAcked (max (acked_len s.marks) c) marks
      are = AreAcked-acked (acked_len s.marks) next c (max (acked_len s.marks) c) s.marks refl refl h.first

      count : acked_len marks ≡ max (acked_len s.marks) c
      count = AreAcked-count (max (acked_len s.marks) c) marks are

      size : length marks ≡ length s.marks
      size = omega (arith, length-append (replicate c Acked) (drop next s.marks), length-replicate c Acked, length-drop next s.marks)

      below : acked_len marks ≤ length s.written
      below = omega (arith, count, AreAcked-within (acked_len s.marks) s.marks h.first, h.whole)

      -- what is covered is received
      covered : AllIn s.closed s.written (received b) → c ≤ received b
      covered (missing is) = omega (arith, is, ack.covers)
      covered (complete closed whole is) = omega (arith, whole, h.whole)

      kept : (place n : ℕ) → received b ≤ n → n ≤ place → place < length s.marks → AllIn s.closed s.written (received b) → next ≤ place
      kept place n reach above inside (missing is) = omega (arith, is, ack.covers, reach, above)
      kept place n reach above inside (complete closed whole is) = absurd (omega (arith, whole, reach, above, inside, h.whole))

      confirms : AllIn s.closed s.written (acked_len s.marks) → acked_len s.marks + all_in s.closed s.written (acked_len s.marks) ≤ acked_len marks + all_in s.closed s.written (acked_len marks)
      confirms (missing is) = omega (arith, is, count)
      confirms (complete closed whole is) =
          let one : all_in s.closed s.written (acked_len marks) ≡ 1 = all_in_one s.closed s.written (acked_len marks) closed (omega (arith, whole, count, below)) in
          omega (arith, is, one, count)

      acknowledges : is_future next s ≡ false → SendStep Anyone f s (record s { marks = marks; edge = max s.edge (next + window); fin = fin_after next s }) b
      acknowledges past = record {
        later = record {
          more = [];
          written = sym (append-nil s.written);
          spent = grown;
          untried = λ k q place is. tried-acked k place next c s.marks refl is;
          news = λ k q ways n reach new. AreNew-acked n next c s.marks refl (λ place above inside. kept place n reach above inside (all_in_is s.closed s.written (received b))) new;
          end = λ e is. is;
          acked = omega (arith, count);
          confirmed = confirms (all_in_is s.closed s.written (acked_len s.marks));
          room = omega arith;
          received = omega arith;
          next = omega arith;
          edge = omega arith;
          alone = λ is. is;
          fallen = λ is. is;
          stays_alone = λ fallen alone. alone;
          owner = λ path is. is;
          placed = λ place is. is;
          alters = refl;
          checked = refl;
          exact = λ is. is;
        };
        holds = record {
          whole = size ∙ h.whole;
          first = subst (λ n. AreAcked n marks) (sym count) are;
          held = held-acked next c s.marks h.held;
          acked = omega (arith, count, h.acked, covered (all_in_is s.closed s.written (received b)));
          edge = λ none. let old = h.edge none in let reach = ack.reaches none in omega (arith, old, reach);
          fin = λ is. ⊎_elim
              (λ old. let all = h.fin old in (all.0, all.1, omega (arith, all.2, count)))
              (λ new. closed_end (ltb-true (length s.written) next new))
              (or_cases s.fin (nat_lt (length s.written) next) is);
        };
        owned = λ h. h;
      }
        where
          grown : (path place : ℕ) → spent path (slice_get s.marks place) ≡ true → spent path (slice_get marks place) ≡ true
          grown path place is =
              subst (λ c. spent path (slice_get (if c then s else record s { marks = marks; edge = max s.edge (next + window); fin = fin_after next s }).marks place) ≡ true)
              past (stays-after_call (spent path) (spent-stays path) place (AckIn next window) s is)

          is_closed : (d : Bool) → s.closed ≡ d → length s.written < next → next ≤ length s.written + (if d then 1 else 0) → s.closed ≡ true
          is_closed = elim [ true ↦ λ is more less. is | false ↦ λ is more less. absurd (omega (arith, more, less)) ]

          closed_end : length s.written < next → IsAll (view_of f (record s { marks = marks; edge = max s.edge (next + window); fin = fin_after next s }) b)
          closed_end more =
              let closed : s.closed ≡ true = is_closed s.closed refl more (ltb-false _ _ past) in
              (length s.written, end_is s closed, omega (arith, count, more, h.whole))

  -- a grant to a path that may ask
  pub grant_step : (path max : ℕ) (standby : Bool) → ((view_of f s b).alone ≡ true → path ≡ 0) → SendStep (But path) f s (after_call s (Grant path max standby)) b
  grant_step path max standby joined = by_decision (decision path max standby s) refl
    where
      grants : (span : Span) → decision path max standby s ≡ Ok span → MayTake path max s span → SendStep (But path) f s (record s { marks = change_part (given path) span s.marks }) b
      grants span decided m = record {
        later = record {
          more = [];
          written = sym (append-nil s.written);
          spent = grown;
          untried = λ k q place is. tried-given path k place span s.marks (omega (arith, m.whole)) m.within q is;
          news = λ k q kept n reach new.
              absurd (⊎_elim (λ alone. q (alone.0 ∙ sym (joined alone.1))) (λ owned. q (grant_owner path k max standby s span decided owned)) kept);
          end = λ e is. is;
          acked = omega (arith, counted.0);
          confirmed = omega (arith, ap (all_in s.closed s.written) counted.0, counted.0);
          room = omega arith;
          received = omega arith;
          next = omega arith;
          edge = omega arith;
          alone = λ is. is;
          fallen = λ is. is;
          stays_alone = λ fallen alone. alone;
          owner = λ path is. is;
          placed = λ place is. is;
          alters = refl;
          checked = refl;
          exact = λ is. is;
        };
        holds = record {
          whole = same_size ∙ h.whole;
          first = counted.1;
          held = held-given path span s.marks h.held;
          acked = omega (arith, counted.0, h.acked);
          edge = h.edge;
          fin = λ is. let all = h.fin is in (all.0, all.1, omega (arith, all.2, counted.0));
        };
        owned = λ h. h;
      }
        where
          marks : List ByteMark
          marks = change_part (given path) span s.marks

          part : List ByteMark
          part = take (span.to - span.from) (drop span.from s.marks)

          counted : (acked_len marks ≡ acked_len s.marks) × AreAcked (acked_len marks) marks
          counted = same_acked marks (AreAcked-given path (acked_len s.marks) span s.marks (omega (arith, m.whole)) h.first)

          same_size : length marks ≡ length s.marks
          same_size = omega (
            arith,
            length-append (take span.from s.marks) (map (given path) part ++ drop span.to s.marks),
            length-append (map (given path) part) (drop span.to s.marks),
            length-map part (given path),
            length-take (span.to - span.from) (drop span.from s.marks),
            length-take span.from s.marks,
            length-drop span.from s.marks,
            length-drop span.to s.marks,
            m.within,
            m.whole,
          )

          grown : (k place : ℕ) → spent k (slice_get s.marks place) ≡ true → spent k (slice_get marks place) ≡ true
          grown k place is =
              subst (λ r. spent k (slice_get (given_by path r s).marks place) ≡ true) decided
              (stays-after_call (spent k) (spent-stays k) place (Grant path max standby) s is)

      by_decision : (r : Result Span Why) → decision path max standby s ≡ r → SendStep (But path) f s (given_by path r s) b
      by_decision (Err why) is = same_book
      by_decision (Ok span) is = grants span is (decision-MayTake path max standby s span is)
