-- A byte is granted to a path once at most: what the actors noted of grants stands in the journals of the send books.
use Rattle.world_laws.proofs.Words.{◌≡◌, refl, sym, ◌∙◌, ap, ℕ, zero, suc, ◌+◌, ◌&&◌, Bool, if◌then◌else◌, Option, Some, None, List, [], ◌∷◌, ◌++◌, map, arith}
use Rattle.world_laws.proofs.Words.{set, get_or, map-append, same_Some, slice_get_within, count_by, slice_get, sum_by-set, sum_by_push, Entry, Pass, entry_of}
use Rattle.world_laws.proofs.Words.{after_entering, book_of, replay, Side, A, B, SendCall, Sending, SendReply, Ask, Note, StampedBooks, after_entry}
use Rattle.world_laws.proofs.Words.{SendJournal, pick, Codec, ActorCrew, Always, PathPlan, Start, paths_from, opened_world, WorldState, Turn}
use Rattle.world_laws.proofs.Words.{crew_after, asked, greatest, begins, world_run, note_of}
use Rattle.world_laws.proofs.Worlds.Turns.{run_so}
use Rattle.std.proofs.Common.{fold}
use Rattle.send_book.specs.Steps.{reply_to, after_call}
use Rattle.send_book.specs.Laws.{after_calls, is_asked_by, covers, times_granted as times_called}
use Rattle.send_book.proofs.Grants.{granted_at_most_once}
use Rattle.world_laws.specs.Granted.{grants_byte, times_granted, GrantedOnce}

abbrev bit : Bool → ℕ
bit b = if b then 1 else 0

module _ (path place : ℕ) where
  -- ---- a journal

  -- the call grants the byte to the path, of this book
  abbrev gives_now : Sending → SendCall → Bool
  gives_now b call = is_asked_by path call && covers place (reply_to b call)

  abbrev in_journal : SendJournal → ℕ
  in_journal j = times_called path place (map (λ e. e.call) j.journal) j.opening

  times_more : (calls : List SendCall) (call : SendCall) (b : Sending)
      → times_called path place (calls ++ call ∷ []) b ≡ times_called path place calls b + bit (gives_now (after_calls calls b) call)
  times_more [] call b = omega arith
  times_more (c ∷ calls) call b = let rest = times_more calls call (after_call b c) in omega (arith, rest)

  same_book : (entries : List (Entry SendCall SendReply)) (b : Sending) → after_calls (map (λ e. e.call) entries) b ≡ replay reply_to after_call b entries
  same_book [] b = refl
  same_book (entry ∷ entries) b = same_book entries (after_call b entry.call)

  -- one entry more
  journal_more : (j : SendJournal) (pass : Pass) (call : SendCall)
      → in_journal (after_entering reply_to after_call j pass call) ≡ in_journal j + bit (gives_now (book_of reply_to after_call j) call)
  journal_more j pass call =
      ap (λ calls. times_called path place calls j.opening) (map-append (λ e. e.call) j.journal (entry_of reply_to after_call j pass call ∷ []))
      ∙ times_more (map (λ e. e.call) j.journal) call j.opening
      ∙ ap (λ b. in_journal j + bit (gives_now b call)) (same_book j.journal j.opening)

  -- ---- the journals of both send books

  abbrev journal_at : Side → StampedBooks → SendJournal
  journal_at s books = pick s books.send_a books.send_b

  nothing_more : (n : ℕ) → n ≡ n + 0
  nothing_more n = omega arith

  entered : (s : Side) (pass : Pass) (ask : Ask) (books : StampedBooks)
      → in_journal (journal_at s (after_entry ask pass books)) ≡ in_journal (journal_at s books) + bit (grants_byte s path place (note_of books pass ask))
  entered A pass (Ask.Send A call) books = journal_more books.send_a pass call
  entered A pass (Ask.Send B call) books = nothing_more _
  entered A pass (Ask.Reassembly A call) books = nothing_more _
  entered A pass (Ask.Reassembly B call) books = nothing_more _
  entered A pass (Ask.Control A call) books = nothing_more _
  entered A pass (Ask.Control B call) books = nothing_more _
  entered A pass (Ask.Local step) books = nothing_more _
  entered B pass (Ask.Send B call) books = journal_more books.send_b pass call
  entered B pass (Ask.Send A call) books = nothing_more _
  entered B pass (Ask.Reassembly A call) books = nothing_more _
  entered B pass (Ask.Reassembly B call) books = nothing_more _
  entered B pass (Ask.Control A call) books = nothing_more _
  entered B pass (Ask.Control B call) books = nothing_more _
  entered B pass (Ask.Local step) books = nothing_more _

  -- ---- the lists of all actors

  module _ (s : Side) {C : Type 0} (k : Codec C) where
    abbrev in_list : ActorCrew C → ℕ
    in_list c = count_by (grants_byte s path place) c.list

    got : (crew : List (ActorCrew C)) (i : ℕ) (c d : ActorCrew C) → slice_get crew i ≡ Some c → get_or crew i d ≡ c
    got [] i c d there = cc
    got (x ∷ crew) zero c d there = same_Some x c there
    got (x ∷ crew) (suc i) c d there = got crew i c d there

    lists_more : (crew : List (ActorCrew C)) (i : ℕ) (c d : ActorCrew C) (more : ℕ) → slice_get crew i ≡ Some c → in_list d ≡ in_list c + more
        → times_granted s path place (set crew i d) ≡ times_granted s path place crew + more
    lists_more crew i c d more there is =
        let sum = sum_by-set in_list crew i d c (slice_get_within crew i c there) in
        let old : in_list (get_or crew i c) ≡ in_list c = ap in_list (got crew i c c there) in
        omega (arith, sum, old, is)

    -- what the lists have of grants, the journal has
    pub record Counted (w : WorldState C) : Type 0 where
      pub same : times_granted s path place w.crew ≡ in_journal (journal_at s w.books)

    asked_counted : (actor : ℕ) (x : Option Ask) (c : ActorCrew C) (w : WorldState C) → slice_get w.crew actor ≡ Some c → Counted w → Counted (asked k actor x c w)
    asked_counted actor None c w there h = h
    asked_counted actor (Some x) c w there h =
        let n : Note = note_of w.books c.pass x in
        let lists = lists_more w.crew actor c (crew_after k x w.books c) (bit (grants_byte s path place n)) there
        (sum_by_push (λ note. bit (grants_byte s path place note)) c.list n) in
        let journal = entered s c.pass x w.books in
        record { same = lists ∙ ap (λ m. m + bit (grants_byte s path place n)) h.same ∙ sym journal }

    same_sum : (stamp : ℕ) (crew : List (ActorCrew C)) → times_granted s path place (map (begins stamp) crew) ≡ times_granted s path place crew
    same_sum stamp crew = same_from 0 crew
      where
        same_from : (m : ℕ) (crew : List (ActorCrew C)) → fold (λ n c. n + in_list c) m (map (begins stamp) crew) ≡ fold (λ n c. n + in_list c) m crew
        same_from m [] = refl
        same_from m (c ∷ crew) = same_from (m + in_list c) crew

    run_counted : (turns : List Turn) (w : WorldState C) → Counted w → Counted (world_run k turns w)
    run_counted = run_so k Counted (λ w h actor c x there is. asked_counted actor (Some x) c w there h)
        (λ w h over. record { same = same_sum (greatest 0 w.crew) w.crew ∙ h.same })

-- no path has noted anything
none_noted : (C : Type 0) (s : Side) (path place : ℕ) (start : Start) (first : ℕ) (plans : List PathPlan) → times_granted s path place (paths_from {C = C} start first plans) ≡ 0
none_noted C s path place start first [] = refl
none_noted C s path place start first (plan ∷ plans) = none_noted C s path place start (suc first) plans

opened_counted : (s : Side) (path place : ℕ) {C : Type 0} (k : Codec C) (start : Start) → Counted path place s k (opened_world start)
opened_counted A path place {C} k start = record { same = none_noted C A path place start 0 start.paths }
opened_counted B path place {C} k start = record { same = none_noted C B path place start 0 start.paths }

pub granted_once : {C : Type 0} (k : Codec C) → Always k (λ start w. GrantedOnce w)
granted_once k start turns s path place =
    let w = world_run k turns (opened_world start) in
    let counted = run_counted path place s k turns (opened_world start) (opened_counted s path place k start) in
    let j : SendJournal = pick s w.books.send_a w.books.send_b in
    let once = granted_at_most_once (map (λ e. e.call) j.journal) j.opening path place in
    omega (arith, once, counted.same)
