-- The edges of send books, and the stamps of their journals, as asks are entered.
use Rattle.world_laws.proofs.Words.{◌≡◌, refl, ◌∙◌, ap, ℕ, ◌≤◌, ◌&&◌, ◌||◌, nat_lt, Bool, true, false, if◌then◌else◌, Ok, Err, [], ◌∷◌, arith, ◌<◌, false≢true}
use Rattle.world_laws.proofs.Words.{ltb-false, Pass, entry_of, after_entering, next_stamp, last_stamp, last_stamp-append, Side, A, B, SendCall, Sending}
use Rattle.world_laws.proofs.Words.{decision, given_by, is_future, is_gathered, AckIn, Ask, Reply, StampedBooks, stamp_of, after_entry, SendJournal, SixBooks}
use Rattle.world_laws.proofs.Words.{send_of, after_ask, pick, asks_grant, frees_bytes}
use Rattle.send_book.specs.declared.call.SendCall.TheVariants.{Write, Close, Grant, GoInfinite}
use Rattle.send_book.specs.Steps.{reply_to, after_call}

-- ---- edges

either_edge : (c : Bool) (least : ℕ) (x y : Sending) → least ≤ x.edge → least ≤ y.edge → least ≤ (if c then x else y).edge
either_edge = elim [ true ↦ λ least x y h g. h | false ↦ λ least x y h g. g ]

call_edge : (b : Sending) (call : SendCall) → b.edge ≤ (after_call b call).edge
call_edge b (Write bytes) = either_edge (b.closed || b.aborted) b.edge b _ (omega arith) (omega arith)
call_edge b Close = either_edge b.aborted b.edge b _ (omega arith) (omega arith)
call_edge b (Grant path most standby) = elim (decision path most standby b) as (λ o. b.edge ≤ (given_by path o b).edge) [ Ok span ↦ omega arith | Err why ↦ omega arith ]
call_edge b (AckIn next window) = either_edge (is_future next b) b.edge b _ (omega arith) (omega arith)
call_edge b (GoInfinite path) = either_edge (is_gathered path b) b.edge _ b (omega arith) (omega arith)
call_edge b _ = omega arith

-- the edge of a side's window is never taken back
pub edge_grows : (s : Side) (x : Ask) (six : SixBooks) → (send_of s six).edge ≤ (send_of s (after_ask x six)).edge
edge_grows A (Ask.Send A call) six = call_edge six.send_a call
edge_grows A (Ask.Send B call) six = omega arith
edge_grows B (Ask.Send A call) six = omega arith
edge_grows B (Ask.Send B call) six = call_edge six.send_b call
edge_grows A (Ask.Reassembly t call) six = omega arith
edge_grows B (Ask.Reassembly t call) six = omega arith
edge_grows A (Ask.Control t call) six = omega arith
edge_grows B (Ask.Control t call) six = omega arith
edge_grows s (Ask.Local step) six = omega arith

-- ---- stamps

-- a book has the stamp of the call that is entered
entered_last : (book : SendJournal) (pass : Pass) (call : SendCall) → last_stamp 0 (after_entering reply_to after_call book pass call).journal ≡ next_stamp book pass
entered_last book pass call = last_stamp-append 0 book.journal (entry_of reply_to after_call book pass call ∷ [])

pub stamp_grows : (s : Side) (x : Ask) (pass : Pass) (books : StampedBooks)
    → last_stamp 0 (pick s books.send_a books.send_b).journal ≤ last_stamp 0 (pick s (after_entry x pass books).send_a (after_entry x pass books).send_b).journal
stamp_grows A (Ask.Send A call) pass books = let last = entered_last books.send_a pass call in omega (arith, last)
stamp_grows A (Ask.Send B call) pass books = omega arith
stamp_grows B (Ask.Send A call) pass books = omega arith
stamp_grows B (Ask.Send B call) pass books = let last = entered_last books.send_b pass call in omega (arith, last)
stamp_grows A (Ask.Reassembly t call) pass books = omega arith
stamp_grows B (Ask.Reassembly t call) pass books = omega arith
stamp_grows A (Ask.Control t call) pass books = omega arith
stamp_grows B (Ask.Control t call) pass books = omega arith
stamp_grows s (Ask.Local step) pass books = omega arith

-- an ask for bytes is the last entry of its book then
pub grant_entered : (s : Side) (x : Ask) (pass : Pass) (books : StampedBooks) → asks_grant s x ≡ true
    → stamp_of x books pass ≤ last_stamp 0 (pick s (after_entry x pass books).send_a (after_entry x pass books).send_b).journal
grant_entered A (Ask.Send A call) pass books is = let last = entered_last books.send_a pass call in omega (arith, last)
grant_entered A (Ask.Send B call) pass books is = absurd (false≢true is)
grant_entered B (Ask.Send A call) pass books is = absurd (false≢true is)
grant_entered B (Ask.Send B call) pass books is = let last = entered_last books.send_b pass call in omega (arith, last)
grant_entered A (Ask.Reassembly t call) pass books is = absurd (false≢true is)
grant_entered B (Ask.Reassembly t call) pass books is = absurd (false≢true is)
grant_entered A (Ask.Control t call) pass books is = absurd (false≢true is)
grant_entered B (Ask.Control t call) pass books is = absurd (false≢true is)
grant_entered A (Ask.Local step) pass books is = absurd (false≢true is)
grant_entered B (Ask.Local step) pass books is = absurd (false≢true is)

-- what frees bytes has a later stamp than all before at its book
pub freeing_entered : (s : Side) (edge : ℕ) (x : Ask) (reply : Reply) (pass : Pass) (books : StampedBooks) → frees_bytes s edge x reply ≡ true
    → last_stamp 0 (pick s books.send_a books.send_b).journal < stamp_of x books pass
freeing_entered A edge (Ask.Send A call) reply pass books is = omega arith
freeing_entered A edge (Ask.Send B call) reply pass books is = absurd (false≢true is)
freeing_entered B edge (Ask.Send A call) reply pass books is = absurd (false≢true is)
freeing_entered B edge (Ask.Send B call) reply pass books is = omega arith
freeing_entered A edge (Ask.Reassembly t call) reply pass books is = absurd (false≢true is)
freeing_entered B edge (Ask.Reassembly t call) reply pass books is = absurd (false≢true is)
freeing_entered A edge (Ask.Control t call) reply pass books is = absurd (false≢true is)
freeing_entered B edge (Ask.Control t call) reply pass books is = absurd (false≢true is)
freeing_entered A edge (Ask.Local step) reply pass books is = absurd (false≢true is)
freeing_entered B edge (Ask.Local step) reply pass books is = absurd (false≢true is)

-- ---- tests

pub lt_true : (a b : ℕ) → a < b → nat_lt a b ≡ true
lt_true a b below = (elim (nat_lt a b) as (λ c. nat_lt a b ≡ c → c ≡ true)
    [ true ↦ λ is. refl | false ↦ λ is. let most = ltb-false a b is in absurd (omega (arith, below, most)) ]) refl

pub both_true : {a b : Bool} → a ≡ true → b ≡ true → (a && b) ≡ true
both_true {a} {b} first second = ap (λ c. c && b) first ∙ second
