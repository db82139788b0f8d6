-- Where a side hasn't fallen back after a run, by its control book's journal, no turn of the run made it fall: it may be firm.
--
-- A constant for what doesn't come: whether a side fell back can't be read off its book once that was stopped, only off
-- the journal. So the lanes of a run take it from outside: a side that hasn't fallen back by the run's end is `firm`
-- (`Links`), no turn before makes it fall (`proofs/Falls/FirmRuns`), and at the end it is firm no more, by moves
-- (`softens` in `proofs/Falls/CallsAndModes`).
use Rattle.world_laws.proofs.Words.{◌≡◌, refl, sym, ◌∙◌, ap, subst, ℕ, zero, suc, Bool, true, false, Some, List, [], ◌∷◌, ◌++◌, both_ways, false≢true}
use Rattle.world_laws.proofs.Words.{slice_get, Mode, is_identity, Side, Duty, StepDuty, AskDuty, Ask, StampedBooks, books_in, SixBooks, control_of, after_ask}
use Rattle.world_laws.proofs.Words.{PathState, end_at, asks_first, Carried, values, item_ask, item_of, in_map, App, Path, Actor, ActorCrew, member_asks, Always}
use Rattle.world_laws.proofs.Words.{Start, opened_world, WorldState, Turn, asked, stepped, after_turn, world_run, fell_back, is_fallback}
use Rattle.world_laws.proofs.Falls.ByTheJournal.{Was, was_wider, was_now, turn_was, run_was}
use Rattle.world_laws.proofs.Keys.ByJournals.{Knows, run_causes}
use Rattle.world_laws.proofs.Keys.WhatWakes.{Voice, first_speaks, itself, speaks}
use Rattle.world_laws.proofs.Lanes.OfAWorld.{Links, is_firm, DutyIsFirm, MemberIsFirm, TurnIsFirm, RunIsFirm}
use Rattle.world_laws.proofs.Weaving.Journals.{books_after}
use Rattle.world_laws.proofs.Weaving.WholeRounds.{run_append}
use Rattle.world_laws.proofs.Worlds.Casts.{Cast, walking}

-- ---- ends that learn of a fall

-- a path is to tell an end of plain TCP only where its side fell back to it
abbrev MemberFell : StampedBooks → Actor Carried → Type 0
MemberFell books (App a) = Unit {0}
MemberFell books (Path p) = (s : Side) (ds : List Duty) → p.agenda ≡ Duty.Ask (AskDuty.GoIdentity s) ∷ ds → Was is_identity books s

record FellBefore (w : WorldState Carried) : Type 0 where
  each : (number : ℕ) (c : ActorCrew Carried) → slice_get w.crew (suc (suc number)) ≡ Some c → MemberFell w.books c.member

knows_fall : (start : Start) (t : Cast Carried) (p : PathState Carried) → Knows start t p → MemberFell t.books (Path p)
knows_fall start t p h = λ s ds is.
    (h.is.known (Voice.Falls s) (subst (λ xs. speaks (Voice.Falls s) xs ≡ true) (sym is) (first_speaks (Voice.Falls s) (Duty.Ask (AskDuty.GoIdentity s)) ds (itself s)))).1.1

always_fell : Always values (λ start w. FellBefore w)
always_fell start turns =
    let now = run_causes start turns in
    subst FellBefore (sym now.is) (record {
      each = λ number c there. let found = in_map walking now.cast.paths number c there in
          subst (λ (y : ActorCrew Carried). MemberFell now.cast.books y.member) found.2 (knows_fall start now.cast found.0.path (now.holds.paths.each number found.0 found.1));
    })

-- plain TCP is a fallback
identity_falls : (m : Mode) → is_identity m ≡ true → is_fallback m ≡ true
identity_falls = elim [ Mode.Identity ↦ λ is. refl | _ ↦ λ is. absurd (false≢true is) ]

-- ---- a turn

-- the books after a step
stepped_books : (actor : ℕ) (w : WorldState Carried) (c : ActorCrew Carried) (x : Ask) → slice_get w.crew actor ≡ Some c → member_asks values c.member ≡ Some x
    → books_in (after_turn values (Turn.Step actor) w).books ≡ after_ask x (books_in w.books)
stepped_books actor w c x there asks =
    ap (λ o. books_in (stepped values actor o w).books) there ∙ ap (λ o. books_in (asked values actor o c w).books) asks ∙ books_after x c.pass w.books

module _ (links : Links) where
  -- no firm side has fallen back
  abbrev pub Unfallen : WorldState Carried → Type 0
  Unfallen w = (s : Side) → is_firm links s ≡ true → fell_back s w ≡ false

  module _ (number : ℕ) (w : WorldState Carried) (none : Unfallen (after_turn values (Turn.Step (suc (suc number))) w)) (c : ActorCrew Carried)
      (there : slice_get w.crew (suc (suc number)) ≡ Some c) (p : PathState Carried) (is : c.member ≡ Path p) (fell : MemberFell w.books (Path p)) where
    abbrev v : WorldState Carried
    v = after_turn values (Turn.Step (suc (suc number))) w

    learns_none : (s : Side) (ds : List Duty) → p.agenda ≡ Duty.Ask (AskDuty.GoIdentity s) ∷ ds → (b : Bool) → is_firm links s ≡ b → b ≡ false
    learns_none s ds first false so = refl
    learns_none s ds first true so =
        absurd (both_ways _ (none s so) (turn_was is_fallback values s (Turn.Step (suc (suc number))) w (was_wider is_identity is_fallback identity_falls w.books s (fell s ds first))))

    asked_none : (s : Side) (x : Ask) → member_asks values c.member ≡ Some x → is_firm links s ≡ true → (b : Bool) → is_fallback (control_of s (after_ask x (books_in w.books))).fall.mode ≡ b → b ≡ false
    asked_none s x asks firm false falls = refl
    asked_none s x asks firm true falls =
        absurd (both_ways _ (none s firm)
        (was_now is_fallback v.books s (subst (λ (y : SixBooks). is_fallback (control_of s y).fall.mode ≡ true) (sym (stepped_books (suc (suc number)) w c x there asks)) falls)))

    firm_duty : (d : Duty) (ds : List Duty) → p.agenda ≡ d ∷ ds → DutyIsFirm links (books_in w.books) p d
    firm_duty (Duty.Ask (AskDuty.GoIdentity s)) ds first = learns_none s ds first (is_firm links s) refl
    firm_duty (Duty.Step (StepDuty.Heard s index)) ds first = λ firm.
        asked_none s (item_ask values s (item_of index (end_at s p)) p) (ap (λ m. member_asks values m) is ∙ ap (λ xs. asks_first values xs p) first) firm
        (is_fallback (control_of s (after_ask (item_ask values s (item_of index (end_at s p)) p) (books_in w.books))).fall.mode) refl
    firm_duty _ ds first = tt

  firm_turn : (turn : Turn) (w : WorldState Carried) → FellBefore w → Unfallen (after_turn values turn w) → TurnIsFirm links turn w
  firm_turn (Turn.Step zero) w fell none = tt
  firm_turn (Turn.Step (suc zero)) w fell none = tt
  firm_turn (Turn.Step (suc (suc number))) w fell none = λ c there. by c there c.member refl (fell.each number c there)
    where
      by : (c : ActorCrew Carried) → slice_get w.crew (suc (suc number)) ≡ Some c → (m : Actor Carried) → c.member ≡ m → MemberFell w.books m → MemberIsFirm links (books_in w.books) m
      by c there (App a) is fell = tt
      by c there (Path p) is fell = λ d ds first. firm_duty number w none c there p is fell d ds first
  firm_turn Turn.Round w fell none = tt

  -- ---- a run

  -- what hasn't fallen by a later moment hasn't before
  unfallen_before : (turns : List Turn) (w : WorldState Carried) → Unfallen (world_run values turns w) → Unfallen w
  unfallen_before turns w none s firm = (elim (fell_back s w) as (λ b. fell_back s w ≡ b → b ≡ false)
      [ false ↦ λ fell. refl | true ↦ λ fell. absurd (both_ways _ (none s firm) (run_was is_fallback values s turns w fell)) ]) refl

  firm_on : (start : Start) (done turns : List Turn) → let w = world_run values done (opened_world start) in Unfallen (world_run values turns w) → RunIsFirm links turns w
  firm_on start done [] none = tt
  firm_on start done (turn ∷ turns) none =
      let w = world_run values done (opened_world start) in
      let next : world_run values (done ++ turn ∷ []) (opened_world start) ≡ after_turn values turn w = run_append values done (turn ∷ []) (opened_world start) in (
        firm_turn turn w (always_fell start done) (unfallen_before turns (after_turn values turn w) none),
        subst (RunIsFirm links turns) next (firm_on start (done ++ turn ∷ []) turns (subst (λ x. Unfallen (world_run values turns x)) (sym next) none)),
      )

  pub firm_run : (start : Start) (turns : List Turn) → Unfallen (world_run values turns (opened_world start)) → RunIsFirm links turns (opened_world start)
  firm_run start turns none = firm_on start [] turns none
