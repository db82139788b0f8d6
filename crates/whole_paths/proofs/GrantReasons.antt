-- A path that may take a byte is refused only on standby, or as the window is shut.
use Rattle.std.proofs.Common.{◌≡◌, refl, sym, subst, ap, ◌∙◌, ◌⊎◌, inl, inr, ⊎_elim, ℕ, ◌+◌, ◌≤◌, ◌==◌, ◌&&◌, ◌||◌, nat_le, nat_lt, arith, Bool, true, false, true≢false, cond, if◌then◌else◌, Ok, Err, Option, Some, None, length}
use Rattle.std.specs.List.{position, position_or_len, slice_get}
use Rattle.std.proofs.lemmas.Bool.{both_ways, cases_lt, eqb-true, leb-true, ltb-false, or_cases, and_parts}
use Rattle.std.proofs.lemmas.Option.{same_Some}
use Rattle.sides.specs.declared.side.Side.{Side}
use Rattle.sides.specs.declared.side.Side.TheVariants.{A, B}
use Rattle.send_book.specs.declared.call.SendCall.{SendCall}
use Rattle.send_book.specs.declared.call.SendCall.TheVariants as calls
use Rattle.send_book.specs.declared.call.Span.{Span}
use Rattle.send_book.specs.declared.call.Why.{Why}
use Rattle.send_book.specs.declared.call.Why.TheVariants.{Backup, Ended, WindowShut}
use Rattle.send_book.specs.declared.mark.ByteMark.{ByteMark}
use Rattle.send_book.specs.declared.mark.ByteMark.TheVariants.{Acked, Held, Free}
use Rattle.send_book.specs.Marks.{is_acked, is_free_for, is_held_rightly}
use Rattle.send_book.specs.State.{Sending, acked_len}
use Rattle.send_book.specs.Steps.{after_call, decision, first_free, given_by, is_for, is_future, is_gathered, run_len, span_at}
use Rattle.send_book.specs.Tried.{contains}
use Rattle.actor_desk.specs.Desk.{SixBooks, after_ask, send_of}
use Rattle.actor_desk.specs.declared.ask.Ask.{Ask}
use Rattle.actor_desk.specs.declared.ask.Ask.TheVariants as asks
use Rattle.path_core.specs.DataFin.{is_shut}
use Rattle.world_laws.proofs.Asks.SendBooks.{IsOrdinary, IsTried, ones_after}
use Rattle.whole_paths.specs.BookNews.{is_free}
use Rattle.whole_paths.proofs.GivenBack.{rightly}
use Rattle.whole_paths.proofs.OnlyBooks.{all_pass, before_first, none_free}

-- ---- a book

-- nothing is stopped before what isn't stopped, and no stream given to one path before one that isn't
pub call_open : (b : Sending) (call : SendCall) → (after_call b call).aborted ≡ false → (after_call b call).owner ≡ None → (b.aborted ≡ false) × (b.owner ≡ None)
call_open b (calls.Write bytes) = (elim (b.closed || b.aborted) as (λ c. (d : Sending) → d.aborted ≡ b.aborted → d.owner ≡ b.owner → (if c then b else d).aborted ≡ false → (if c then b else d).owner ≡ None → (b.aborted ≡ false) × (b.owner ≡ None))
    [ true ↦ λ d x y a o. (a, o) | false ↦ λ d x y a o. (sym x ∙ a, sym y ∙ o) ]) _ refl refl
call_open b calls.Close = (elim b.aborted as (λ c. (d : Sending) → d.aborted ≡ b.aborted → d.owner ≡ b.owner → (if c then b else d).aborted ≡ false → (if c then b else d).owner ≡ None → (b.aborted ≡ false) × (b.owner ≡ None))
    [ true ↦ λ d x y a o. (a, o) | false ↦ λ d x y a o. (sym x ∙ a, sym y ∙ o) ]) _ refl refl
call_open b (calls.Grant path max standby) =
    elim (decision path max standby b) as (λ r. (given_by path r b).aborted ≡ false → (given_by path r b).owner ≡ None → (b.aborted ≡ false) × (b.owner ≡ None)) [ Err why ↦ λ a o. (a, o) | Ok span ↦ λ a o. (a, o) ]
call_open b (calls.AckIn next window) = (elim (is_future next b) as (λ c. (d : Sending) → d.aborted ≡ b.aborted → d.owner ≡ b.owner → (if c then b else d).aborted ≡ false → (if c then b else d).owner ≡ None → (b.aborted ≡ false) × (b.owner ≡ None))
    [ true ↦ λ d x y a o. (a, o) | false ↦ λ d x y a o. (sym x ∙ a, sym y ∙ o) ]) _ refl refl
call_open b (calls.Return path) = λ a o. (a, o)
call_open b calls.GoIdentity = λ a o. cc
call_open b (calls.GoInfinite path) = elim (is_gathered path b) as (λ c. let d = if c then record b { owner = Some path } else b in d.aborted ≡ false → d.owner ≡ None → (b.aborted ≡ false) × (b.owner ≡ None))
    [ true ↦ λ a o. cc | false ↦ λ a o. (a, o) ]
call_open b calls.Abort = λ a o. absurd (true≢false a)

pub ask_open : (s : Side) (x : Ask) (six : SixBooks) → (send_of s (after_ask x six)).aborted ≡ false → (send_of s (after_ask x six)).owner ≡ None → ((send_of s six).aborted ≡ false) × ((send_of s six).owner ≡ None)
ask_open A (asks.Send A call) six a o = call_open six.send_a call a o
ask_open B (asks.Send B call) six a o = call_open six.send_b call a o
ask_open A (asks.Send B call) six a o = (a, o)
ask_open B (asks.Send A call) six a o = (a, o)
ask_open A (asks.Reassembly A call) six a o = (a, o)
ask_open A (asks.Reassembly B call) six a o = (a, o)
ask_open B (asks.Reassembly A call) six a o = (a, o)
ask_open B (asks.Reassembly B call) six a o = (a, o)
ask_open A (asks.Control A call) six a o = (a, o)
ask_open A (asks.Control B call) six a o = (a, o)
ask_open B (asks.Control A call) six a o = (a, o)
ask_open B (asks.Control B call) six a o = (a, o)
ask_open A (asks.Local step) six a o = (a, o)
ask_open B (asks.Local step) six a o = (a, o)

-- there are as many marks as bytes
abbrev pub IsWhole : Sending → Type 0
IsWhole b = length b.marks ≡ length b.written

abbrev pub AreRight : Sending → Type 0
AreRight b = (place : ℕ) → rightly (slice_get b.marks place) ≡ true

call_whole : (b : Sending) (call : SendCall) → AreRight b → IsWhole b → IsWhole (after_call b call)
call_whole b call right whole = (ones_after (asker_of call) 0 b (record { tried = record { each = λ i m there. by (asker_of call) m (sym (ap rightly there) ∙ right i) }; whole = whole; grown = omega arith }) call (own call)).whole
  where
    asker_of : SendCall → ℕ
    asker_of (calls.Grant path max standby) = path
    asker_of _ = 0

    own : (call : SendCall) → IsOrdinary (asker_of call) call
    own (calls.Grant path max standby) = refl
    own _ = tt

    by : (path : ℕ) (m : ByteMark) → is_held_rightly m ≡ true → IsTried path m
    by path Acked right = tt
    by path (Held holder among) right = λ same. subst (λ (x : ℕ). contains x among ≡ true) same right
    by path (Free among) right = tt

pub ask_whole : (s : Side) (x : Ask) (six : SixBooks) → AreRight (send_of s six) → IsWhole (send_of s six) → IsWhole (send_of s (after_ask x six))
ask_whole A (asks.Send A call) six right whole = call_whole six.send_a call right whole
ask_whole B (asks.Send B call) six right whole = call_whole six.send_b call right whole
ask_whole A (asks.Send B call) six right whole = whole
ask_whole B (asks.Send A call) six right whole = whole
ask_whole A (asks.Reassembly A call) six right whole = whole
ask_whole A (asks.Reassembly B call) six right whole = whole
ask_whole B (asks.Reassembly A call) six right whole = whole
ask_whole B (asks.Reassembly B call) six right whole = whole
ask_whole A (asks.Control A call) six right whole = whole
ask_whole A (asks.Control B call) six right whole = whole
ask_whole B (asks.Control A call) six right whole = whole
ask_whole B (asks.Control B call) six right whole = whole
ask_whole A (asks.Local step) six right whole = whole
ask_whole B (asks.Local step) six right whole = whole

-- ---- why a grant is refused

free_mark : (path : ℕ) (o : Option ByteMark) → is_free path o ≡ true → (m : ByteMark) × (o ≡ Some m) × (is_free_for path m ≡ true)
free_mark path None free = absurd (true≢false (sym free))
free_mark path (Some m) free = (m, refl, free)

unacked : (path : ℕ) (m : ByteMark) → is_free_for path m ≡ true → is_acked m ≡ false
unacked path Acked free = absurd (true≢false (sym free))
unacked path (Held holder among) free = refl
unacked path (Free among) free = refl

module _ (path max place : ℕ) (stands : Bool) (b : Sending) (whole : IsWhole b) (goes : b.aborted ≡ false) (owner : b.owner ≡ None) (free : is_free path (slice_get b.marks place) ≡ true) where
  mark : (m : ByteMark) × (slice_get b.marks place ≡ Some m) × (is_free_for path m ≡ true)
  mark = free_mark path (slice_get b.marks place) free

  abbrev Refused : Why → Type 0
  Refused why = (stands ≡ true) ⊎ ((is_shut why ≡ true) × (b.edge ≤ place))

  first_at : (c : Bool) (from : ℕ) → nat_lt (position_or_len (is_free_for path) b.marks) (length b.marks) ≡ c → cond c (Some (position_or_len (is_free_for path) b.marks)) None ≡ Some from → from ≤ place
  first_at true from is found = ⊎_elim
      (λ low. absurd (both_ways (is_free_for path mark.0) (before_first (is_free_for path) b.marks place mark.0 low mark.1) mark.2))
      (λ high. let same = same_Some _ from found in omega (arith, same, high))
      (cases_lt place (position_or_len (is_free_for path) b.marks))
  first_at false from is found = cc

  found_none : (c : Bool) → nat_lt (position_or_len (is_free_for path) b.marks) (length b.marks) ≡ c → cond c (Some (position_or_len (is_free_for path) b.marks)) None ≡ None → ⊥
  found_none true is none = cc
  found_none false is none =
      both_ways (is_free_for path mark.0) (none_free (is_free_for path) b.marks (ltb-false (position_or_len (is_free_for path) b.marks) (length b.marks) is) place mark.0 mark.1) mark.2

  first_is : first_free path b ≡ position (is_free_for path) b.marks
  first_is = ap (λ (o : Option ℕ). if is_for path o then position (is_free_for path) b.marks else None) owner

  shut_at : (from : ℕ) (span : Span) (why : Why) (c : Bool) → from ≤ place → nat_le b.edge from ≡ c → (if c then Err WindowShut else Ok span) ≡ Err why → Refused why
  shut_at from span why true low past is = inr ((let same : WindowShut ≡ why = cc in subst (λ (x : Why). is_shut x ≡ true) same refl), (let edge = leb-true b.edge from past in omega (arith, edge, low)))
  shut_at from span why false low past is = cc

  at : (why : Why) (o : Option ℕ) → first_free path b ≡ o → span_at path max b o ≡ Err why → Refused why
  at why None none is = absurd (found_none _ refl (sym first_is ∙ none))
  at why (Some from) found is = shut_at from (record { from = from; to = from + run_len path max b from }) why (nat_le b.edge from) (first_at _ from refl (sym first_is ∙ found)) refl is

  by_standby : (why : Why) (c : Bool) → stands ≡ c → (if c then Err Backup else span_at path max b (first_free path b)) ≡ Err why → Refused why
  by_standby why true stood is = inl stood
  by_standby why false stood is = at why (first_free path b) refl is

  by_end : (why : Why) (c : Bool) → (b.aborted || (b.closed && (acked_len b.marks == length b.written))) ≡ c → (if c then Err Ended else (if stands then Err Backup else span_at path max b (first_free path b))) ≡ Err why → Refused why
  by_end why true ends is = absurd (⊎_elim
      (λ aborted. both_ways b.aborted goes aborted)
      (λ all. let same = eqb-true (acked_len b.marks) (length b.written) (and_parts b.closed (acked_len b.marks == length b.written) all).1 in
      both_ways (is_acked mark.0) (unacked path mark.0 mark.2) (all_pass is_acked b.marks (omega (arith, same, whole)) place mark.0 mark.1))
      (or_cases b.aborted (b.closed && (acked_len b.marks == length b.written)) ends))
  by_end why false goes_on is = by_standby why stands refl is

  pub why_refused : (why : Why) → decision path max stands b ≡ Err why → Refused why
  why_refused why is = by_end why (b.aborted || (b.closed && (acked_len b.marks == length b.written))) refl is
