-- What holds between each actor and what its step, or the beginning of a round, makes of it, holds between each actor and what a turn
-- makes of it, with the books before the turn and after it.
use Rattle.std.proofs.Common.{◌≡◌, refl, sym, subst, ap, ◌∙◌, ℕ, zero, suc, Bool, true, false, ◌||◌, if◌then◌else◌, Option, Some, None, List, [], ◌∷◌, ◌++◌, map, set, ⊎_elim}
use Rattle.std.proofs.Math.Bool.{or-true}
use Rattle.std.proofs.lemmas.Bool.{cases_eq}
use Rattle.std.proofs.lemmas.List.Folds.{list_any-append}
use Rattle.std.proofs.lemmas.Option.{same_Some}
use Rattle.std.specs.List.{list_any, slice_get}
use Rattle.stamped_book.specs.declared.stamped.Pass.{Pass}
use Rattle.stream_lanes.proofs.Lists.{set_same, set_other}
use Rattle.actor_desk.specs.declared.ask.Ask.{Ask}
use Rattle.actor_desk.specs.declared.ask.LocalStep.{LocalStep}
use Rattle.actor_desk.specs.declared.ask.Note.{Note}
use Rattle.actor_desk.specs.declared.ask.Reply.{Reply}
use Rattle.actor_desk.specs.Books.{StampedBooks, after_entry, books_in}
use Rattle.actor_desk.specs.Desk.{SixBooks, after_ask, reply_of}
use Rattle.actor_desk.specs.Words.{is_nil}
use Rattle.path_core.specs.Codec.{Codec}
use Rattle.path_core.specs.State.{PathState}
use Rattle.path_core.specs.Steps.{asks_of, next_round, takes}
use Rattle.world_laws.specs.declared.member.Member.TheVariants.{App, Path}
use Rattle.world_laws.specs.Actors.{Actor, ActorCrew, member_asks, member_takes, member_next, is_over}
use Rattle.world_laws.specs.Outcomes.{was_told, note_tells}
use Rattle.world_laws.specs.Promises.{tells_refusal}
use Rattle.world_laws.specs.StampedBooks.{answer_to}
use Rattle.whole_paths.specs.Between.{EachPathBetween, PathsBetween}
use Rattle.world_laws.proofs.Rounds.Lifting.{all_over_each}
use Rattle.world_laws.proofs.Weaving.Journals.{books_after}
use Rattle.world_laws.specs.Worlds.{WorldState, Turn, crew_after, asked, stepped, all_over, greatest, begins, after_turn, note_of, world_run}

-- as the actor takes what the books answer to what it asks, and as they answer another one
module _ {C : Type 0} (k : Codec C) (R : StampedBooks → StampedBooks → ActorCrew C → ActorCrew C → Type 0)
    (stays : (books : StampedBooks) (c : ActorCrew C) → R books books c c)
    (others : (books : StampedBooks) (ask : Ask) (pass : Pass) (c : ActorCrew C) → R books (after_entry ask pass books) c c)
    (steps : (books : StampedBooks) (ask : Ask) (c : ActorCrew C) → member_asks k c.member ≡ Some ask → R books (after_entry ask c.pass books) c (crew_after k ask books c))
    (begun : (books : StampedBooks) (stamp : ℕ) (c : ActorCrew C) → is_over c.member ≡ true → R books books c (begins stamp c)) where
  abbrev pub EachBetween : WorldState C → WorldState C → Type 0
  EachBetween w v = (actor : ℕ) (c : ActorCrew C) → slice_get w.crew actor ≡ Some c → (d : ActorCrew C) × (slice_get v.crew actor ≡ Some d) × R w.books v.books c d

  asked_each : (actor : ℕ) (ask : Ask) (c : ActorCrew C) (w : WorldState C) → slice_get w.crew actor ≡ Some c → member_asks k c.member ≡ Some ask → EachBetween w (asked k actor (Some ask) c w)
  asked_each actor ask c w there asks i e at = ⊎_elim here (λ apart. (e, set_other w.crew actor new i apart ∙ at, others w.books ask c.pass e)) (cases_eq i actor)
    where
      new : ActorCrew C
      new = crew_after k ask w.books c

      here : i ≡ actor → (d : ActorCrew C) × (slice_get (set w.crew actor new) i ≡ Some d) × R w.books (after_entry ask c.pass w.books) e d
      here is =
          let same : c ≡ e = same_Some c e (sym there ∙ ap (slice_get w.crew) (sym is) ∙ at) in
          (new, ap (slice_get (set w.crew actor new)) is ∙ set_same w.crew actor new c there, subst (λ x. R w.books (after_entry ask c.pass w.books) x new) same (steps w.books ask c asks))

  stepped_each : (actor : ℕ) (w : WorldState C) (o : Option (ActorCrew C)) → slice_get w.crew actor ≡ o → EachBetween w (stepped k actor o w)
  stepped_each actor w None there = λ i e at. (e, at, stays w.books e)
  stepped_each actor w (Some c) there = by (member_asks k c.member) refl
    where
      by : (o : Option Ask) → member_asks k c.member ≡ o → EachBetween w (asked k actor o c w)
      by None asks = λ i e at. (e, at, stays w.books e)
      by (Some ask) asks = asked_each actor ask c w there asks

  begun_at : (stamp : ℕ) (crew : List (ActorCrew C)) (i : ℕ) (c : ActorCrew C) → slice_get crew i ≡ Some c → slice_get (map (begins stamp) crew) i ≡ Some (begins stamp c)
  begun_at stamp [] i c at = cc
  begun_at stamp (d ∷ crew) zero c at = ap (λ x. Some (begins stamp x)) (same_Some d c at)
  begun_at stamp (d ∷ crew) (suc i) c at = begun_at stamp crew i c at

  round_each : (w : WorldState C) (b : Bool) → all_over w.crew ≡ b → EachBetween w (if b then record w { crew = map (begins (greatest 0 w.crew)) w.crew } else w)
  round_each w false is = λ i e at. (e, at, stays w.books e)
  round_each w true is =
      λ i e at. (begins (greatest 0 w.crew) e, begun_at (greatest 0 w.crew) w.crew i e at, begun w.books (greatest 0 w.crew) e (all_over_each w.crew i e is at))

  pub turn_between : (turn : Turn) (w : WorldState C) → EachBetween w (after_turn k turn w)
  turn_between (Turn.Step actor) w = stepped_each actor w (slice_get w.crew actor) refl
  turn_between Turn.Round w = round_each w (all_over w.crew) refl

-- with the books before the turn alone
module _ {C : Type 0} (k : Codec C) (R : StampedBooks → ActorCrew C → ActorCrew C → Type 0)
    (stays : (books : StampedBooks) (c : ActorCrew C) → R books c c)
    (steps : (books : StampedBooks) (ask : Ask) (c : ActorCrew C) → member_asks k c.member ≡ Some ask → R books c (crew_after k ask books c))
    (begun : (books : StampedBooks) (stamp : ℕ) (c : ActorCrew C) → is_over c.member ≡ true → R books c (begins stamp c)) where
  abbrev pub EachBy : WorldState C → WorldState C → Type 0
  EachBy w v = (actor : ℕ) (c : ActorCrew C) → slice_get w.crew actor ≡ Some c → (d : ActorCrew C) × (slice_get v.crew actor ≡ Some d) × R w.books c d

  pub turn_by : (turn : Turn) (w : WorldState C) → EachBy w (after_turn k turn w)
  turn_by = turn_between k (λ books after c d. R books c d) stays (λ books ask pass c. stays books c) steps begun

-- the step is told, also where it is a refusal
abbrev pub TellsSteps : Reply → List Note → Type 0
TellsSteps r steps = tells_refusal r ≡ true → was_told tells_refusal steps ≡ true

told_so : (notes : List Note) (n : Note) → TellsSteps n.reply (notes ++ n ∷ [])
told_so notes n is =
    list_any-append (note_tells tells_refusal) notes (n ∷ []) ∙ ap (λ b. list_any (note_tells tells_refusal) notes || (b || false)) is ∙ or-true (list_any (note_tells tells_refusal) notes)

-- of paths alone, with the six books
module _ {C : Type 0} (k : Codec C) (R : SixBooks → SixBooks → List Note → PathState C → PathState C → Type 0) where
  module _ (others : (six : SixBooks) (ask : Ask) (steps : List Note) (p : PathState C) → R six (after_ask ask six) steps p p)
      (asks : (six : SixBooks) (ask : Ask) (steps : List Note) (p : PathState C) → asks_of k p ≡ Some ask → TellsSteps (reply_of six ask) steps → R six (after_ask ask six) steps p (takes k (reply_of six ask) p))
      (begun : (six : SixBooks) (steps : List Note) (p : PathState C) → is_nil p.agenda ≡ true → R six six steps p (next_round p)) where
    member_others : (books : StampedBooks) (ask : Ask) (pass : Pass) (steps : List Note) (m : Actor C) → PathsBetween R books (after_entry ask pass books) steps m m
    member_others books ask pass steps (App a) = tt
    member_others books ask pass steps (Path p) = subst (λ six. R (books_in books) six steps p p) (sym (books_after ask pass books)) (others (books_in books) ask steps p)

    -- a step that asks no book changes none
    member_stays : (books : StampedBooks) (steps : List Note) (m : Actor C) → PathsBetween R books books steps m m
    member_stays books steps (App a) = tt
    member_stays books steps (Path p) = others (books_in books) (Ask.Local LocalStep.End) steps p

    member_asked : (books : StampedBooks) (ask : Ask) (pass : Pass) (steps : List Note) (m : Actor C) → member_asks k m ≡ Some ask → TellsSteps (answer_to books ask) steps
        → PathsBetween R books (after_entry ask pass books) steps m (member_takes k (answer_to books ask) m)
    member_asked books ask pass steps (App a) is told = tt
    member_asked books ask pass steps (Path p) is told =
        subst (λ six. R (books_in books) six steps p (takes k (answer_to books ask) p)) (sym (books_after ask pass books)) (asks (books_in books) ask steps p is told)

    member_begun : (books : StampedBooks) (steps : List Note) (m : Actor C) → is_over m ≡ true → PathsBetween R books books steps m (member_next m)
    member_begun books steps (App a) over = tt
    member_begun books steps (Path p) over = begun (books_in books) steps p over

    pub paths_between : EachPathBetween k R
    paths_between w turn = turn_between k (λ books after c d. PathsBetween R books after d.list c.member d.member) (λ books c. member_stays books c.list c.member)
        (λ books ask pass c. member_others books ask pass c.list c.member)
        (λ books ask c is. member_asked books ask c.pass (crew_after k ask books c).list c.member is (told_so c.list (note_of books c.pass ask)))
        (λ books stamp c over. member_begun books c.list c.member over) turn w

-- whatever is asked, and whatever the books are
module _ {C : Type 0} (k : Codec C) (R : ActorCrew C → ActorCrew C → Type 0)
    (stays : (c : ActorCrew C) → R c c)
    (steps : (ask : Ask) (books : StampedBooks) (c : ActorCrew C) → R c (crew_after k ask books c))
    (begun : (stamp : ℕ) (c : ActorCrew C) → is_over c.member ≡ true → R c (begins stamp c)) where
  abbrev pub Each : WorldState C → WorldState C → Type 0
  Each w v = (actor : ℕ) (c : ActorCrew C) → slice_get w.crew actor ≡ Some c → (d : ActorCrew C) × (slice_get v.crew actor ≡ Some d) × R c d

  pub turn_each : (turn : Turn) (w : WorldState C) → Each w (after_turn k turn w)
  turn_each = turn_by k (λ books c d. R c d) (λ books c. stays c) (λ books ask c asks. steps ask books c) (λ books stamp c over. begun stamp c over)

  -- and by many turns, where it goes on from one to the next
  pub turns_each : ((c d e : ActorCrew C) → R c d → R d e → R c e) → (turns : List Turn) (w : WorldState C) → Each w (world_run k turns w)
  turns_each chains [] w = λ i c at. (c, at, stays c)
  turns_each chains (turn ∷ turns) w = λ i c at.
      let first = turn_each turn w i c at in
      let second = turns_each chains turns (after_turn k turn w) i first.0 first.1 in
      (second.0, second.1, chains c first.0 second.0 first.2 second.2)

-- ---- the books

-- what each call keeps of the books, turns keep
module _ {C : Type 0} (k : Codec C) (P : SixBooks → Type 0) (asks : (ask : Ask) (six : SixBooks) → P six → P (after_ask ask six)) where
  books_stepped : (actor : ℕ) (w : WorldState C) (o : Option (ActorCrew C)) → P (books_in w.books) → P (books_in (stepped k actor o w).books)
  books_stepped actor w None h = h
  books_stepped actor w (Some c) h = by (member_asks k c.member)
    where
      by : (o : Option Ask) → P (books_in (asked k actor o c w).books)
      by None = h
      by (Some ask) = subst P (sym (books_after ask c.pass w.books)) (asks ask (books_in w.books) h)

  books_turned : (turn : Turn) (w : WorldState C) → P (books_in w.books) → P (books_in (after_turn k turn w).books)
  books_turned (Turn.Step actor) w h = books_stepped actor w (slice_get w.crew actor) h
  books_turned Turn.Round w h = elim (all_over w.crew) as (λ b. P (books_in (if b then record w { crew = map (begins (greatest 0 w.crew)) w.crew } else w).books)) [ true ↦ h | false ↦ h ]

  pub books_by_turns : (turns : List Turn) (w : WorldState C) → P (books_in w.books) → P (books_in (world_run k turns w).books)
  books_by_turns [] w h = h
  books_by_turns (turn ∷ turns) w h = books_by_turns turns (after_turn k turn w) (books_turned turn w h)
