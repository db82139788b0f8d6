-- A send book never has more than 2^62 - 3 bytes, whatever it is asked.
use Rattle.world_laws.proofs.Words.{sym, subst, ◌-◌, ◌≤◌, ◌||◌, Bool, true, false, if◌then◌else◌, Ok, Err, List, length, take, arith, ◌^◌, length-append}
use Rattle.world_laws.proofs.Words.{length-take, Side, A, B, SendCall, Sending, bytes_taken, decision, given_by, is_future, is_gathered, AckIn, Ask, books_in}
use Rattle.world_laws.proofs.Words.{SixBooks, send_of, after_ask, Codec, Start, opened_world, WorldState, Turn, world_run}
use Rattle.world_laws.proofs.Worlds.Turns.{run_so}
use Rattle.send_book.specs.declared.call.SendCall.TheVariants.{Write, Close, Grant, GoInfinite}
use Rattle.send_book.specs.Steps.{after_call}
use Rattle.world_laws.proofs.Weaving.Journals.{books_after}

abbrev IsBounded : Sending → Type 0
IsBounded b = length b.written ≤ 2 ^ 62 - 3

either_way : (c : Bool) (x y : Sending) → IsBounded x → IsBounded y → IsBounded (if c then x else y)
either_way = elim [ true ↦ λ x y h g. h | false ↦ λ x y h g. g ]

call_bounded : (b : Sending) (call : SendCall) → IsBounded b → IsBounded (after_call b call)
call_bounded b (Write bytes) h = either_way (b.closed || b.aborted) b _ h (
    let one = length-append b.written (take (bytes_taken bytes b) bytes) in let two = length-take (bytes_taken bytes b) bytes in
    let room : bytes_taken bytes b ≤ 2 ^ 62 - 3 - length b.written = omega arith in
    omega (arith, h, one, two, room))
call_bounded b Close h = either_way b.aborted b _ h h
call_bounded b (Grant path max standby) h = elim (decision path max standby b) as (λ o. IsBounded (given_by path o b)) [ Ok span ↦ h | Err why ↦ h ]
call_bounded b (AckIn next window) h = either_way (is_future next b) b _ h h
call_bounded b (GoInfinite path) h = either_way (is_gathered path b) _ b h h
call_bounded b _ h = h

-- both books
abbrev AreBounded : SixBooks → Type 0
AreBounded six = (s : Side) → IsBounded (send_of s six)

ask_bounded : (x : Ask) (six : SixBooks) → AreBounded six → AreBounded (after_ask x six)
ask_bounded (Ask.Send A call) six h A = call_bounded six.send_a call (h A)
ask_bounded (Ask.Send A call) six h B = h B
ask_bounded (Ask.Send B call) six h A = h A
ask_bounded (Ask.Send B call) six h B = call_bounded six.send_b call (h B)
ask_bounded (Ask.Reassembly t call) six h A = h A
ask_bounded (Ask.Reassembly t call) six h B = h B
ask_bounded (Ask.Control t call) six h A = h A
ask_bounded (Ask.Control t call) six h B = h B
ask_bounded (Ask.Local step) six h s = h s

module _ {C : Type 0} (k : Codec C) where
  abbrev WorldIsBounded : WorldState C → Type 0
  WorldIsBounded w = AreBounded (books_in w.books)

  run_bounded : (turns : List Turn) (w : WorldState C) → WorldIsBounded w → WorldIsBounded (world_run k turns w)
  run_bounded =
      run_so k WorldIsBounded (λ w h actor c x there is. subst AreBounded (sym (books_after x c.pass w.books)) (ask_bounded x (books_in w.books) h)) (λ w h over. h)

  pub always_bounded : (start : Start) (turns : List Turn) (s : Side) → length (send_of s (books_in (world_run k turns (opened_world start)).books)).written ≤ 2 ^ 62 - 3
  always_bounded start turns = run_bounded turns (opened_world start) none
    where
      none : WorldIsBounded (opened_world start)
      none = elim [ A ↦ omega arith | B ↦ omega arith ]
