-- The send book of a connection over one path: what calls make of it, and why it refuses a grant.
use Rattle.std.proofs.Common.{◌≡◌, refl, sym, subst, ap, ◌∙◌, ⊎_elim, ℕ, zero, suc, ◌+◌, ◌<◌, ◌≤◌, ◌==◌, ◌&&◌, ◌||◌, max, min, nat_le, nat_lt, arith, Bool, true, false, true≢false, not, cond, if◌then◌else◌, Ok, Err, Result, Option, Some, None, List, [], ◌∷◌, ◌++◌, count_by, drop, length, length-append, map, le_refl, replicate, take}
use Rattle.std.specs.List.{position, position_or_len, slice_get}
use Rattle.std.proofs.lemmas.Bool.{and_parts, cases_eq, eqb-true, leb-true, ltb-false, ltb-true, or_cases}
use Rattle.std.proofs.lemmas.Option.{same_Some}
use Rattle.std.proofs.lemmas.List.Sums.{count_by-le-length, sum_by-cons}
use Rattle.sides.specs.declared.side.Side.{Side}
use Rattle.sides.specs.declared.side.Side.TheVariants.{A, B}
use Rattle.send_book.specs.declared.call.SendCall.{SendCall}
use Rattle.send_book.specs.declared.call.SendCall.TheVariants as calls
use Rattle.send_book.specs.declared.call.Span.{Span}
use Rattle.send_book.specs.declared.call.Why.{Why}
use Rattle.send_book.specs.declared.call.Why.TheVariants.{Backup, Ended, WindowShut}
use Rattle.send_book.specs.declared.mark.ByteMark.{ByteMark}
use Rattle.send_book.specs.declared.mark.ByteMark.TheVariants.{Acked, Free, Held}
use Rattle.send_book.specs.Marks.{is_acked, is_free_for, returned}
use Rattle.send_book.specs.State.{Sending, acked_len}
use Rattle.send_book.specs.Steps.{after_call, bytes_taken, decision, first_free, fin_after, given_by, is_for, is_future, is_gathered, run_len, span_at}
use Rattle.send_book.specs.Tried.{contains, no_paths}
use Rattle.send_book.proofs.Decisions.{MayTake, decision-MayTake}
use Rattle.send_book.proofs.Grants.{spent, spent-stays, stays-after_call}
use Rattle.stream_lanes.specs.Marks.{AreAcked, IsHeldRightly, tried}
use Rattle.stream_lanes.specs.Words.{Every}
use Rattle.stream_lanes.proofs.MarkLists.{AreAcked-acked, AreAcked-count, AreAcked-given, AreAcked-returned, AreAcked-written, held-acked, held-given, held-returned, held-written, tried-acked, tried-given, tried-returned, tried-written}
use Rattle.actor_desk.specs.declared.ask.Ask.{Ask}
use Rattle.actor_desk.specs.declared.ask.Ask.TheVariants as asks
use Rattle.actor_desk.specs.Desk.{SixBooks, after_ask, send_of}
use Rattle.stream_apps.specs.declared.duty.AppDuty.{AppDuty}
use Rattle.stream_apps.specs.Apps.{AppState}
use Rattle.stream_apps.specs.AppSteps.{app_ask}
use Rattle.path_core.specs.DataFin.{is_shut}
use Rattle.path_core.specs.State.{PathState, path_of}
use Rattle.world_laws.specs.Asking.{IsOwn}
use Rattle.world_laws.proofs.Asks.SendBooks as send_books
use Rattle.world_laws.proofs.Asks.SendBooks.{IsOnes, last_more}
use Rattle.whole_paths.proofs.Books.{send_up}

-- ---- a book

-- the first bytes are acknowledged and no others, and none past the edge
pub record IsAckedInTurn (b : Sending) : Type 0 where
  pub first : AreAcked (acked_len b.marks) b.marks
  pub fits : acked_len b.marks ≤ b.edge

same_in_turn : (b d : Sending) → d.edge ≡ b.edge → AreAcked (acked_len b.marks) d.marks → IsAckedInTurn b → IsAckedInTurn d
same_in_turn b d edge are h =
    let count : acked_len d.marks ≡ acked_len b.marks = AreAcked-count (acked_len b.marks) d.marks are in
    let fits = h.fits in
    record { first = subst (λ n. AreAcked n d.marks) (sym count) are; fits = omega (arith, count, fits, edge) }

either_in_turn : (c : Bool) (b d : Sending) → IsAckedInTurn b → IsAckedInTurn d → IsAckedInTurn (if c then b else d)
either_in_turn true b d x y = x
either_in_turn false b d x y = y

in_turn_after : (b : Sending) (call : SendCall) → IsAckedInTurn b → IsAckedInTurn (after_call b call)
in_turn_after b (calls.Write bytes) h =
    either_in_turn (b.closed || b.aborted) b _ h (same_in_turn b (record b { written = b.written ++ take (bytes_taken bytes b) bytes; marks = b.marks ++ replicate (bytes_taken bytes b) (Free no_paths) }) refl
    (AreAcked-written (acked_len b.marks) (bytes_taken bytes b) b.marks h.first) h)
in_turn_after b calls.Close h = either_in_turn b.aborted b _ h (record { first = h.first; fits = h.fits })
in_turn_after b (calls.Grant asker max standby) h = by (decision asker max standby b) refl
  where
    by : (r : Result Span Why) → decision asker max standby b ≡ r → IsAckedInTurn (given_by asker r b)
    by (Err why) is = h
    by (Ok span) is =
        let m : MayTake asker max b span = decision-MayTake asker max standby b span is in
        same_in_turn b (given_by asker (Ok span) b) refl (AreAcked-given asker (acked_len b.marks) span b.marks (let whole = m.whole in omega (arith, whole)) h.first) h
in_turn_after b (calls.AckIn next window) h = either_in_turn (is_future next b) b _ h acked
  where
    c : ℕ
    c = min next (length b.marks)

    are : AreAcked (max (acked_len b.marks) c) (replicate c Acked ++ drop next b.marks)
    are = AreAcked-acked (acked_len b.marks) next c (max (acked_len b.marks) c) b.marks refl refl h.first

    acked : IsAckedInTurn (record b { marks = replicate (min next (length b.marks)) Acked ++ drop next b.marks; edge = max b.edge (next + window); fin = fin_after next b })
    acked =
        let count : acked_len (replicate c Acked ++ drop next b.marks) ≡ max (acked_len b.marks) c = AreAcked-count (max (acked_len b.marks) c) (replicate c Acked ++ drop next b.marks) are in
        let fits = h.fits in
        record { first = subst (λ n. AreAcked n (replicate c Acked ++ drop next b.marks)) (sym count) are; fits = omega (arith, count, fits) }
in_turn_after b (calls.Return asker) h = same_in_turn b (record b { marks = map (returned asker) b.marks }) refl (AreAcked-returned asker (acked_len b.marks) b.marks h.first) h
in_turn_after b calls.GoIdentity h = record { first = h.first; fits = h.fits }
in_turn_after b (calls.GoInfinite asker) h = either_in_turn (is_gathered asker b) _ b (record { first = h.first; fits = h.fits }) h
in_turn_after b calls.Abort h = record { first = h.first; fits = h.fits }

-- no path but path 0 tried a byte, each holder tried its byte, and the book is for path 0; so much was written before as in another one, and
-- the edge was there
pub record IsOf (n b : Sending) : Type 0 where
  pub tried : (other place : ℕ) → tried other (slice_get b.marks place) ≡ true → other ≡ 0
  pub held : Every IsHeldRightly b.marks
  pub ones : IsOnes 0 (length n.written) b
  pub opened : n.edge ≤ b.edge
  pub owner : is_for 0 b.owner ≡ true
  pub in_turn : IsAckedInTurn b

-- a call that asks for bytes of path 0 or of none
abbrev IsCallOf : SendCall → Type 0
IsCallOf (calls.Grant asker max standby) = asker ≡ 0
IsCallOf (calls.GoInfinite asker) = asker ≡ 0
IsCallOf _ = Unit {0}

either_held : (c : Bool) (b d : Sending) → Every IsHeldRightly b.marks → Every IsHeldRightly d.marks → Every IsHeldRightly (if c then b else d).marks
either_held true b d x y = x
either_held false b d x y = y

-- each byte that another path tried, it tried before
abbrev IsLess : Sending → Sending → Type 0
IsLess b c = (other place : ℕ) → (other ≡ 0 → ⊥) → tried other (slice_get c.marks place) ≡ true → tried other (slice_get b.marks place) ≡ true

either_less : (c : Bool) (b d e : Sending) → IsLess b d → IsLess b e → IsLess b (if c then d else e)
either_less true b d e x y = x
either_less false b d e x y = y

module _ (n b : Sending) (h : IsOf n b) where
  same_less : IsLess b b
  same_less other place apart is = is

  less : (call : SendCall) → IsCallOf call → IsLess b (after_call b call)
  less (calls.Write bytes) own = either_less (b.closed || b.aborted) b b _ same_less (λ other place apart is. tried-written other place (bytes_taken bytes b) b.marks is)
  less calls.Close own = either_less b.aborted b b _ same_less (λ other place apart is. is)
  less (calls.Grant asker max standby) own = by (decision asker max standby b) refl
    where
      by : (r : Result Span Why) → decision asker max standby b ≡ r → IsLess b (given_by asker r b)
      by (Err why) is = same_less
      by (Ok span) is =
          let m : MayTake asker max b span = decision-MayTake asker max standby b span is in
          λ other place apart at. tried-given asker other place span b.marks (let whole = m.whole in omega (arith, whole)) m.within (λ same. apart (same ∙ own)) at
  less (calls.AckIn next window) own = either_less (is_future next b) b b _ same_less (λ other place apart is. tried-acked other place next (min next (length b.marks)) b.marks refl is)
  less (calls.Return asker) own = λ other place apart is. tried-returned asker other place b.marks is
  less calls.GoIdentity own = same_less
  less (calls.GoInfinite asker) own = either_less (is_gathered asker b) b _ b same_less same_less
  less calls.Abort own = same_less

  held_after : (call : SendCall) → Every IsHeldRightly (after_call b call).marks
  held_after (calls.Write bytes) = either_held (b.closed || b.aborted) b _ h.held (held-written (bytes_taken bytes b) b.marks h.held)
  held_after calls.Close = either_held b.aborted b _ h.held h.held
  held_after (calls.Grant asker max standby) = elim (decision asker max standby b) as (λ r. Every IsHeldRightly (given_by asker r b).marks)
      [ Err why ↦ h.held | Ok span ↦ held-given asker span b.marks h.held ]
  held_after (calls.AckIn next window) = either_held (is_future next b) b _ h.held (held-acked next (min next (length b.marks)) b.marks h.held)
  held_after (calls.Return asker) = held-returned asker b.marks h.held
  held_after calls.GoIdentity = h.held
  held_after (calls.GoInfinite asker) = either_held (is_gathered asker b) _ b h.held h.held
  held_after calls.Abort = h.held

  owner_if : (c : Bool) (x y : Sending) → is_for 0 x.owner ≡ true → is_for 0 y.owner ≡ true → is_for 0 (if c then x else y).owner ≡ true
  owner_if true x y first second = first
  owner_if false x y first second = second

  owner_after : (call : SendCall) → IsCallOf call → is_for 0 (after_call b call).owner ≡ true
  owner_after (calls.Write bytes) own = owner_if (b.closed || b.aborted) b _ h.owner h.owner
  owner_after calls.Close own = owner_if b.aborted b _ h.owner h.owner
  owner_after (calls.Grant asker max standby) own = elim (decision asker max standby b) as (λ r. is_for 0 (given_by asker r b).owner ≡ true) [ Err why ↦ h.owner | Ok span ↦ h.owner ]
  owner_after (calls.AckIn next window) own = owner_if (is_future next b) b _ h.owner h.owner
  owner_after (calls.Return asker) own = h.owner
  owner_after calls.GoIdentity own = refl
  owner_after (calls.GoInfinite asker) own = owner_if (is_gathered asker b) (record b { owner = Some asker }) b (subst (λ n. (n == 0) ≡ true) (sym own) refl) h.owner
  owner_after calls.Abort own = h.owner

  ordinary : (call : SendCall) → IsCallOf call → send_books.IsOrdinary 0 call
  ordinary (calls.Grant asker max standby) own = own
  ordinary _ own = tt

  call_of : (call : SendCall) → IsCallOf call → IsOf n (after_call b call)
  call_of call own = record {
    tried = λ other place is. ⊎_elim (λ same. same) (λ apart. h.tried other place (less call own other place apart is)) (cases_eq other 0);
    held = held_after call;
    ones = send_books.ones_after 0 (length n.written) b h.ones call (ordinary call own);
    opened = (let low = h.opened in let up = (send_up b call).edge in omega (arith, low, up));
    owner = owner_after call own;
    in_turn = in_turn_after b call h.in_turn;
  }

-- ---- what is asked

abbrev pub AskIsOf : ℕ → Ask → Type 0
AskIsOf path (asks.Send s (calls.Grant asker max standby)) = asker ≡ path
AskIsOf path (asks.Send s (calls.GoInfinite asker)) = asker ≡ path
AskIsOf path _ = Unit {0}

call_asked : (s : Side) (call : SendCall) → AskIsOf 0 (asks.Send s call) → IsCallOf call
call_asked s (calls.Grant asker max standby) own = own
call_asked s (calls.GoInfinite asker) own = own
call_asked s _ own = tt

-- a book stays as it is, or a call of path 0 or of none is made at it
pub data BookStep (b : Sending) : Sending → Type 0 where
  unchanged : BookStep b b
  called : (x : SendCall) → IsCallOf x → BookStep b (after_call b x)

pub book_step : (x : Ask) (six : SixBooks) → AskIsOf 0 x → (s : Side) → BookStep (send_of s six) (send_of s (after_ask x six))
book_step (asks.Send A x) six own A = called x (call_asked A x own)
book_step (asks.Send A x) six own B = unchanged
book_step (asks.Send B x) six own A = unchanged
book_step (asks.Send B x) six own B = called x (call_asked B x own)
book_step (asks.Reassembly A x) six own s = elim s as (λ s. BookStep (send_of s six) (send_of s (after_ask (asks.Reassembly A x) six))) [ A ↦ unchanged | B ↦ unchanged ]
book_step (asks.Reassembly B x) six own s = elim s as (λ s. BookStep (send_of s six) (send_of s (after_ask (asks.Reassembly B x) six))) [ A ↦ unchanged | B ↦ unchanged ]
book_step (asks.Control A x) six own s = elim s as (λ s. BookStep (send_of s six) (send_of s (after_ask (asks.Control A x) six))) [ A ↦ unchanged | B ↦ unchanged ]
book_step (asks.Control B x) six own s = elim s as (λ s. BookStep (send_of s six) (send_of s (after_ask (asks.Control B x) six))) [ A ↦ unchanged | B ↦ unchanged ]
book_step (asks.Local step) six own s = unchanged

step_of : (n b c : Sending) → BookStep b c → IsOf n b → IsOf n c
step_of n b c unchanged h = h
step_of n b c (called x own) h = call_of n b h x own

abbrev pub BooksAreOf : (Side → Sending) → SixBooks → Type 0
BooksAreOf sizes six = (s : Side) → IsOf (sizes s) (send_of s six)

pub ask_of : (sizes : Side → Sending) (x : Ask) (six : SixBooks) → AskIsOf 0 x → BooksAreOf sizes six → BooksAreOf sizes (after_ask x six)
ask_of sizes x six own h s = step_of (sizes s) (send_of s six) (send_of s (after_ask x six)) (book_step x six own s) (h s)

pub path_asks_own : {C : Type 0} (p : PathState C) (x : Ask) → IsOwn p x → AskIsOf (path_of p) x
path_asks_own p (asks.Send t (calls.Grant asker max standby)) own = own.0
path_asks_own p (asks.Send t (calls.GoInfinite asker)) own = own
path_asks_own p _ own = tt

pub app_asks_own : (d : AppDuty) (a : AppState) → AskIsOf 0 (app_ask d a)
app_asks_own AppDuty.Write a = tt
app_asks_own _ a = tt

-- ---- bytes that are spent

-- each of the first bytes is acknowledged, or path 0 tried it
abbrev pub AreSpent : ℕ → Sending → Type 0
AreSpent n b = (place : ℕ) → place < n → spent 0 (slice_get b.marks place) ≡ true

pub spent_step : (n : ℕ) (b c : Sending) → BookStep b c → AreSpent n b → AreSpent n c
spent_step n b c unchanged h = h
spent_step n b c (called x own) h = λ place low. stays-after_call (spent 0) (spent-stays 0) place x b (h place low)

pub written_step : (b c : Sending) → BookStep b c → length b.written ≤ length c.written
written_step b c unchanged = le_refl (length b.written)
written_step b c (called x own) = (let more = (send_up b x).written in let whole = ap (λ (xs : List ℕ). length xs) more.whole_is in let sum = length-append b.written more.rest in omega (arith, whole, sum))

aborted_if : (c : Bool) (x y : Sending) → x.aborted ≡ true → y.aborted ≡ true → (if c then x else y).aborted ≡ true
aborted_if true x y first second = first
aborted_if false x y first second = second

pub aborted_step : (b c : Sending) → BookStep b c → b.aborted ≡ true → c.aborted ≡ true
aborted_step b c unchanged is = is
aborted_step b c (called (calls.Write bytes) own) is = aborted_if (b.closed || b.aborted) b _ is is
aborted_step b c (called calls.Close own) is = aborted_if b.aborted b _ is is
aborted_step b c (called (calls.Grant asker max standby) own) is = elim (decision asker max standby b) as (λ r. (given_by asker r b).aborted ≡ true) [ Err why ↦ is | Ok span ↦ is ]
aborted_step b c (called (calls.AckIn next window) own) is = aborted_if (is_future next b) b _ is is
aborted_step b c (called (calls.Return asker) own) is = is
aborted_step b c (called calls.GoIdentity own) is = is
aborted_step b c (called (calls.GoInfinite asker) own) is = aborted_if (is_gathered asker b) _ b is is
aborted_step b c (called calls.Abort own) is = refl

-- one that isn't free for path 0 is spent
not_free_spent : (n b : Sending) → IsOf n b → (place : ℕ) (m : ByteMark) → slice_get b.marks place ≡ Some m → is_free_for 0 m ≡ false → spent 0 (Some m) ≡ true
not_free_spent n b h place Acked there not_free = refl
not_free_spent n b h place (Held holder among) there not_free =
    let held : contains holder among ≡ true = h.held.each place (Held holder among) there in
    let zero_is : holder ≡ 0 = h.tried holder place (ap (tried holder) there ∙ held) in
    subst (λ n. contains n among ≡ true) zero_is held
not_free_spent n b h place (Free among) there not_free = by (contains 0 among) not_free
  where
    by : (c : Bool) → not c ≡ false → c ≡ true
    by true is = refl
    by false is = absurd (true≢false is)

free_first : (f : ByteMark → Bool) (x : ByteMark) (ms : List ByteMark) → suc (length ms) ≤ position_or_len f (x ∷ ms) → (f x ≡ false) × (length ms ≤ position_or_len f ms)
free_first f x ms long = by (f x) refl
  where
    by : (c : Bool) → f x ≡ c → (f x ≡ false) × (length ms ≤ position_or_len f ms)
    by true is = let short : suc (length ms) ≤ 0 = subst (λ c. suc (length ms) ≤ cond (not c) (1 + position_or_len f ms) 0) is long in absurd (omega (arith, short))
    by false is = let more : suc (length ms) ≤ 1 + position_or_len f ms = subst (λ c. suc (length ms) ≤ cond (not c) (1 + position_or_len f ms) 0) is long in (is, omega (arith, more))

pub none_free : (f : ByteMark → Bool) (ms : List ByteMark) → length ms ≤ position_or_len f ms → (place : ℕ) (m : ByteMark) → slice_get ms place ≡ Some m → f m ≡ false
none_free f [] long place m there = cc
none_free f (x ∷ ms) long zero m there = subst (λ (y : ByteMark). f y ≡ false) (same_Some x m there) (free_first f x ms long).0
none_free f (x ∷ ms) long (suc place) m there = none_free f ms (free_first f x ms long).1 place m there

pass_first : (f : ByteMark → Bool) (x : ByteMark) (ms : List ByteMark) → suc (length ms) ≤ count_by f (x ∷ ms) → (f x ≡ true) × (length ms ≤ count_by f ms)
pass_first f x ms long = by (f x) refl
  where
    by : (c : Bool) → f x ≡ c → (f x ≡ true) × (length ms ≤ count_by f ms)
    by false is =
        let first : cond {A = ℕ} (f x) 1 0 ≡ 0 = ap (λ c. cond {A = ℕ} c 1 0) is in let most = count_by-le-length f ms in
        absurd (omega (arith, long, sum_by-cons (λ (y : ByteMark). cond (f y) 1 0) x ms, first, most))
    by true is = let first : cond {A = ℕ} (f x) 1 0 ≡ 1 = ap (λ c. cond {A = ℕ} c 1 0) is in (is, omega (arith, long, sum_by-cons (λ (y : ByteMark). cond (f y) 1 0) x ms, first))

pub all_pass : (f : ByteMark → Bool) (ms : List ByteMark) → length ms ≤ count_by f ms → (place : ℕ) (m : ByteMark) → slice_get ms place ≡ Some m → f m ≡ true
all_pass f [] long place m there = cc
all_pass f (x ∷ ms) long zero m there = subst (λ (y : ByteMark). f y ≡ true) (same_Some x m there) (pass_first f x ms long).0
all_pass f (x ∷ ms) long (suc place) m there = all_pass f ms (pass_first f x ms long).1 place m there

-- there is a mark at each place
some_at : (place : ℕ) (ms : List ByteMark) → place < length ms → (m : ByteMark) × (slice_get ms place ≡ Some m)
some_at place [] less = absurd (omega (arith, less))
some_at zero (m ∷ ms) less = (m, refl)
some_at (suc place) (m ∷ ms) less = some_at place ms (omega (arith, less))

-- what each mark says of the first bytes
spent_below : (n : ℕ) (b : Sending) → n ≤ length b.marks → ((place : ℕ) (m : ByteMark) → place < n → slice_get b.marks place ≡ Some m → spent 0 (Some m) ≡ true) → AreSpent n b
spent_below n b few each place low = let found = some_at place b.marks (omega (arith, low, few)) in ap (spent 0) found.1 ∙ each place found.0 low found.1

spent_by : (n b : Sending) → IsOf n b → ((place : ℕ) (m : ByteMark) → slice_get b.marks place ≡ Some m → spent 0 (Some m) ≡ true) → AreSpent (length n.written) b
spent_by n b h each = spent_below (length n.written) b (let whole = h.ones.whole in let few = h.ones.grown in omega (arith, few, whole)) (λ place m low there. each place m there)

-- none before the first that is free
pub before_first : (f : ByteMark → Bool) (ms : List ByteMark) (place : ℕ) (m : ByteMark) → place < position_or_len f ms → slice_get ms place ≡ Some m → f m ≡ false
before_first f [] place m low there = cc
before_first f (x ∷ ms) zero m low there = subst (λ (y : ByteMark). f y ≡ false) (same_Some x m there) (by (f x) refl)
  where
    by : (c : Bool) → f x ≡ c → f x ≡ false
    by true is = let short : 0 < 0 = subst (λ c. 0 < cond (not c) (1 + position_or_len f ms) 0) is low in absurd (omega (arith, short))
    by false is = is
before_first f (x ∷ ms) (suc place) m low there = by (λ less. before_first f ms place m less there) (f x) refl
  where
    by : (place < position_or_len f ms → f m ≡ false) → (c : Bool) → f x ≡ c → f m ≡ false
    by rest true is = let short : suc place < 0 = subst (λ c. suc place < cond (not c) (1 + position_or_len f ms) 0) is low in absurd (omega (arith, short))
    by rest false is = let more : suc place < 1 + position_or_len f ms = subst (λ c. suc place < cond (not c) (1 + position_or_len f ms) 0) is low in rest (omega (arith, more))

-- ---- why a grant is refused

pub data Refusal (n b : Sending) (stands : Bool) (why : Why) : Type 0 where
  by_window : why ≡ WindowShut → AreSpent n.edge b → n.edge < length b.written → Refusal n b stands why
  by_standby : stands ≡ true → Refusal n b stands why
  by_stop : b.aborted ≡ true → Refusal n b stands why
  by_spent : is_shut why ≡ false → AreSpent (length n.written) b → Refusal n b stands why

pub refusal : (n b : Sending) → IsOf n b → (max : ℕ) (stands : Bool) (why : Why) → decision 0 max stands b ≡ Err why → Refusal n b stands why
refusal n b h max stands why is = by (b.aborted || (b.closed && (acked_len b.marks == length b.written))) refl is
  where
    shut_of : Result Span Why → Bool
    shut_of (Ok span) = false
    shut_of (Err why) = is_shut why

    none_before : (c : Bool) → nat_lt (position_or_len (is_free_for 0) b.marks) (length b.marks) ≡ c → cond c (Some (position_or_len (is_free_for 0) b.marks)) None ≡ None
        → length b.marks ≤ position_or_len (is_free_for 0) b.marks
    none_before true is none = cc
    none_before false is none = ltb-false (position_or_len (is_free_for 0) b.marks) (length b.marks) is

    long : first_free 0 b ≡ None → length b.marks ≤ position_or_len (is_free_for 0) b.marks
    long none = none_before _ refl (subst (λ c. (if c then position (is_free_for 0) b.marks else None) ≡ None) h.owner none)

    acked_spent : (m : ByteMark) → is_acked m ≡ true → spent 0 (Some m) ≡ true
    acked_spent Acked is = refl
    acked_spent (Held holder among) is = absurd (true≢false (sym is))
    acked_spent (Free among) is = absurd (true≢false (sym is))

    -- the first free byte is at the edge, or past it
    first_at : (c : Bool) (from : ℕ) → nat_lt (position_or_len (is_free_for 0) b.marks) (length b.marks) ≡ c → cond c (Some (position_or_len (is_free_for 0) b.marks)) None ≡ Some from
        → (from ≡ position_or_len (is_free_for 0) b.marks) × (position_or_len (is_free_for 0) b.marks < length b.marks)
    first_at true from is found = (sym (same_Some _ from found), ltb-true (position_or_len (is_free_for 0) b.marks) (length b.marks) is)
    first_at false from is found = cc

    spent_to : (from : ℕ) → first_free 0 b ≡ Some from → nat_le b.edge from ≡ true → AreSpent n.edge b × (n.edge < length b.written)
    spent_to from found high =
        let first = first_at _ from refl (subst (λ c. (if c then position (is_free_for 0) b.marks else None) ≡ Some from) h.owner found) in
        let same = first.0 in
        let short = first.1 in
        let low = h.opened in
        let up = leb-true b.edge from high in
        let whole = h.ones.whole in (
          spent_below n.edge b (omega (arith, same, short, low, up)) (λ place m under there.
              not_free_spent n b h place m there (before_first (is_free_for 0) b.marks place m (omega (arith, same, low, up, under)) there)),
          omega (arith, same, short, low, up, whole),
        )

    shut : (from : ℕ) (span : Span) (c : Bool) → first_free 0 b ≡ Some from → nat_le b.edge from ≡ c → (if c then Err WindowShut else Ok span) ≡ Err why → Refusal n b stands why
    shut from span true found high is = (let past = spent_to from found high in by_window (cc) past.0 past.1)
    shut from span false found high is = cc

    at : (o : Option ℕ) → first_free 0 b ≡ o → span_at 0 max b o ≡ Err why → Refusal n b stands why
    at None none is = by_spent (sym (ap shut_of is)) (spent_by n b h (λ place m there. not_free_spent n b h place m there (none_free (is_free_for 0) b.marks (long none) place m there)))
    at (Some from) found is = let span : Span = record { from = from; to = from + run_len 0 max b from } in shut from span (nat_le b.edge from) found refl is

    on : (c : Bool) → stands ≡ c → (if c then Err Backup else span_at 0 max b (first_free 0 b)) ≡ Err why → Refusal n b stands why
    on true stood is = by_standby stood
    on false stood is = at (first_free 0 b) refl is

    by : (c : Bool) → (b.aborted || (b.closed && (acked_len b.marks == length b.written))) ≡ c
        → (if c then Err Ended else (if stands then Err Backup else span_at 0 max b (first_free 0 b))) ≡ Err why → Refusal n b stands why
    by true ends is = ⊎_elim
        (λ aborted. by_stop aborted)
        (λ all. (let same = eqb-true (acked_len b.marks) (length b.written) (and_parts b.closed (acked_len b.marks == length b.written) all).1 in
        let whole = h.ones.whole in
        by_spent (sym (ap shut_of is)) (spent_by n b h (λ place m there. acked_spent m (all_pass is_acked b.marks (omega (arith, same, whole)) place m there)))))
        (or_cases b.aborted (b.closed && (acked_len b.marks == length b.written)) ends)
    by false goes is = on stands refl is
