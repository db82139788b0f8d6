-- Journals that grow at their end, and the stamps in them.
use Rattle.std.proofs.Common.{◌≡◌, refl, sym, ◌∙◌, ap, ℕ, zero, suc, ◌+◌, ◌-◌, ◌^◌, ◌<◌, max, List, [], ◌∷◌, ◌++◌, length, arith, Some}
use Rattle.std.specs.List.{slice_get}
use Rattle.std.proofs.lemmas.Option.{slice_get_within}
use Rattle.stamped_book.specs.declared.stamped.Entry.{Entry}
use Rattle.stamped_book.specs.Journal.{replay, IsJournal, IsReplay, last_stamp, Rise}

module _ {C R : Type 0} where
  pub last_stamp-append : (before : ℕ) (entries more : List (Entry C R))
      → last_stamp before (entries ++ more) ≡ last_stamp (last_stamp before entries) more
  last_stamp-append before [] more = refl
  last_stamp-append before (entry ∷ entries) more = last_stamp-append entry.stamp entries more

  last_stamp-at : (before : ℕ) (entries : List (Entry C R)) (place : ℕ) (entry : Entry C R) → length entries ≡ suc place
      → slice_get entries place ≡ Some entry → last_stamp before entries ≡ entry.stamp
  last_stamp-at before [] place entry l e = cc
  last_stamp-at before (first ∷ []) zero entry l e = let same : first ≡ entry = cc in ap (λ x. x.stamp) same
  last_stamp-at before (first ∷ []) (suc place) entry l e = cc
  last_stamp-at before (first ∷ second ∷ entries) zero entry l e = absurd (omega (arith, l))
  last_stamp-at before (first ∷ second ∷ entries) (suc place) entry l e =
      last_stamp-at first.stamp (second ∷ entries) place entry (omega (arith, l)) e

  -- the stamp of the last entry
  pub last_stamp-last : (before : ℕ) (entries : List (Entry C R)) (entry : Entry C R)
      → slice_get entries (length entries - 1) ≡ Some entry → last_stamp before entries ≡ entry.stamp
  last_stamp-last before entries entry e =
      let within = slice_get_within entries (length entries - 1) entry e in
      last_stamp-at before entries (length entries - 1) entry (omega (arith, within)) e

  -- a list whose stamps rise goes on rising
  pub Rise-append : (before : ℕ) (entries more : List (Entry C R))
      → Rise before entries → Rise (last_stamp before entries) more → Rise before (entries ++ more)
  Rise-append before [] more rise next = next
  Rise-append before (entry ∷ entries) more rise next = (rise.0, Rise-append entry.stamp entries more rise.1 next)

module _ {O C R : Type 0} (reply_to : O → C → R) (after : O → C → O) where
  pub replay-append : (book : O) (entries more : List (Entry C R))
      → replay reply_to after book (entries ++ more) ≡ replay reply_to after (replay reply_to after book entries) more
  replay-append book [] more = refl
  replay-append book (entry ∷ entries) more = replay-append (after book entry.call) entries more

  -- a journal that goes on from where another one ends
  pub IsJournal-append : (book : O) (last : ℕ) (entries more : List (Entry C R))
      → IsJournal reply_to after book last entries
      → IsJournal reply_to after (replay reply_to after book entries) (last_stamp last entries) more
      → IsJournal reply_to after book last (entries ++ more)
  IsJournal-append book last [] more first then = then
  IsJournal-append book last (entry ∷ entries) more first then =
      (first.0, first.1, first.2, IsJournal-append (after book entry.call) entry.stamp entries more first.3 then)

  -- the stamps of a journal rise
  pub IsJournal-rise : (book : O) (last : ℕ) (entries : List (Entry C R))
      → IsJournal reply_to after book last entries → Rise last entries
  IsJournal-rise book last [] journal = tt
  IsJournal-rise book last (entry ∷ entries) journal =
      (omega (arith, journal.1), IsJournal-rise (after book entry.call) entry.stamp entries journal.3)

  -- no stamp of a journal is 2^62 or more
  pub IsJournal-last_stamp : (book : O) (last : ℕ) (entries : List (Entry C R)) → last < 2 ^ 62
      → IsJournal reply_to after book last entries → last_stamp last entries < 2 ^ 62
  IsJournal-last_stamp book last [] small journal = small
  IsJournal-last_stamp book last (entry ∷ entries) small journal =
      IsJournal-last_stamp (after book entry.call) entry.stamp entries journal.2 journal.3

  -- a book is opened with the same value after each call
  pub replay-opening : (opening : O → O) → ((book : O) (call : C) → opening (after book call) ≡ opening book)
      → (book : O) (entries : List (Entry C R)) → opening (replay reply_to after book entries) ≡ opening book
  replay-opening opening stays book [] = refl
  replay-opening opening stays book (entry ∷ entries) =
      replay-opening opening stays (after book entry.call) entries ∙ stays book entry.call

  -- one more entry
  pub IsReplay-push : (opening opened book next : O) (entries kept items : List (Entry C R)) (entry : Entry C R) (call : C)
      → IsReplay reply_to after opening entries book → opened ≡ opening → items ≡ kept ++ entry ∷ [] → kept ≡ entries
      → entry.call ≡ call → entry.reply ≡ reply_to book call → entry.stamp ≡ max (last_stamp 0 entries) entry.seen + 1
      → entry.stamp < 2 ^ 62 → next ≡ after book call → IsReplay reply_to after opened items next
  IsReplay-push opening opened book next entries kept items entry call is same grown room asked reply stamp small then = rw (same, grown, room) record {
    is_journal = IsJournal-append opening 0 entries (entry ∷ []) is.is_journal
        (rw (asked, ← is.book_is) reply, stamp, small, tt);
    book_is = then ∙ ap (after book) (sym asked) ∙ ap (λ x. after x entry.call) is.book_is ∙ sym (replay-append opening entries (entry ∷ []));
  }
