-- A side that was in plain TCP once is so at every later moment.
use Rattle.world_laws.proofs.Words.{◌≡◌, refl, sym, subst, ◌⊎◌, ⊎_elim, true, List, is_identity, Pass, Side, A, B}
use Rattle.world_laws.proofs.Words.{Ask, StampedBooks, books_in, after_entry, SixBooks, control_of, after_ask, Carried, values, Start}
use Rattle.world_laws.proofs.Words.{opened_world, WorldState, Turn, world_run}
use Rattle.world_laws.proofs.Worlds.Turns.{run_so}
use Rattle.world_laws.specs.FallsRight.{has_fallen}
use Rattle.world_laws.proofs.Falls.ByTheJournal.{Was, was_more}
use Rattle.world_laws.proofs.Falls.WhereASideStands.{IsUnjoined, fell_plain, unjoined_stays}
use Rattle.world_laws.proofs.Weaving.Journals.{books_after}
use Rattle.world_laws.proofs.Keys.ToldAreOwn.{FellBack, fell_stays}

-- ---- journals

-- the side was in plain TCP, by its control book's journal
abbrev pub Fell : StampedBooks → Side → Type 0
Fell books s = Was is_identity books s

-- now it is in plain TCP
abbrev pub IsFallen : SixBooks → Side → Type 0
IsFallen six s = is_identity (control_of s six).fall.mode ≡ true

fell_more : (x : Ask) (pass : Pass) (books : StampedBooks) (s : Side) → Fell (after_entry x pass books) s → Fell books s ⊎ IsFallen (books_in (after_entry x pass books)) s
fell_more x pass books s is = was_more is_identity x pass books s is

-- ---- calls

pub ask_right : (six : SixBooks) (x : Ask) (s : Side) → IsUnjoined (control_of s six).fall → IsUnjoined (control_of s (after_ask x six)).fall
ask_right six (Ask.Control A call) A h = unjoined_stays six.control_a call h
ask_right six (Ask.Control A call) B h = h
ask_right six (Ask.Control B call) A h = h
ask_right six (Ask.Control B call) B h = unjoined_stays six.control_b call h
ask_right six (Ask.Send A call) A h = h
ask_right six (Ask.Send A call) B h = h
ask_right six (Ask.Send B call) A h = h
ask_right six (Ask.Send B call) B h = h
ask_right six (Ask.Reassembly A call) A h = h
ask_right six (Ask.Reassembly A call) B h = h
ask_right six (Ask.Reassembly B call) A h = h
ask_right six (Ask.Reassembly B call) B h = h
ask_right six (Ask.Local step) s h = h

fell_so : (six : SixBooks) (s : Side) → IsUnjoined (control_of s six).fall → IsFallen six s → FellBack six s
fell_so six A h is = fell_plain six.control_a.fall h is
fell_so six B h is = fell_plain six.control_b.fall h is

-- ---- turns

record StaysFallen (w : WorldState Carried) : Type 0 where
  fell : (s : Side) → Fell w.books s → FellBack (books_in w.books) s
  right : (s : Side) → IsUnjoined (control_of s (books_in w.books)).fall

step_ever : (x : Ask) (pass : Pass) (books : StampedBooks) → ((s : Side) → Fell books s → FellBack (books_in books) s) → ((s : Side) → IsUnjoined (control_of s (books_in books)).fall)
    → ((s : Side) → Fell (after_entry x pass books) s → FellBack (books_in (after_entry x pass books)) s) × ((s : Side) → IsUnjoined (control_of s (books_in (after_entry x pass books))).fall)
step_ever x pass books fell right = (
  λ s is. ⊎_elim
      (λ before. subst (λ (y : SixBooks). FellBack y s) (sym (books_after x pass books)) (fell_stays (books_in books) x s (fell s before)))
      (λ now. fell_so (books_in (after_entry x pass books)) s (later s) now)
      (fell_more x pass books s is),
  later,
)
  where
    later : (s : Side) → IsUnjoined (control_of s (books_in (after_entry x pass books))).fall
    later s = subst (λ (y : SixBooks). IsUnjoined (control_of s y).fall) (sym (books_after x pass books)) (ask_right (books_in books) x s (right s))

run_ever : (turns : List Turn) (w : WorldState Carried) → StaysFallen w → StaysFallen (world_run values turns w)
run_ever = run_so values StaysFallen
    (λ w h actor c x there is. let now = step_ever x c.pass w.books h.fell h.right in record { fell = now.0; right = now.1 })
    (λ w h over. record { fell = h.fell; right = h.right })

pub ever_fallen : (start : Start) (turns : List Turn) (s : Side) → has_fallen s (world_run values turns (opened_world start)) ≡ true
    → FellBack (books_in (world_run values turns (opened_world start)).books) s
ever_fallen start turns s fell = (run_ever turns (opened_world start) unfallen).fell s fell
  where
    unfallen : StaysFallen (opened_world start)
    unfallen = record { fell = never; right = free }
      where
        never : (s : Side) → Fell (opened_world {C = Carried} start).books s → FellBack (books_in (opened_world {C = Carried} start).books) s
        never = elim [ A ↦ λ fell. fell | B ↦ λ fell. fell ]

        free : (s : Side) → IsUnjoined (control_of s (books_in (opened_world {C = Carried} start).books)).fall
        free = elim [ A ↦ λ is. refl | B ↦ λ is. refl ]
