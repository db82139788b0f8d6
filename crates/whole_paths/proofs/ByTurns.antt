-- What each turn of a connection keeps holds at every moment, where all that is known of the moment before may be used.
use Rattle.std.proofs.Common.{◌≡◌, refl, sym, subst, ap, ◌∙◌, ⊎_elim, ℕ, true, Option, Some, None, List, [], ◌∷◌, ◌++◌, map}
use Rattle.std.specs.List.{slice_get}
use Rattle.std.proofs.lemmas.List.{append-nil, append_assoc}
use Rattle.std.proofs.lemmas.Option.{same_Some}
use Rattle.stream_lanes.proofs.Lists.{in_map, in_set}
use Rattle.actor_desk.specs.declared.ask.Ask.{Ask}
use Rattle.actor_desk.specs.declared.ask.Note.{Note}
use Rattle.actor_desk.specs.declared.ask.Reply.{Reply}
use Rattle.actor_desk.specs.Books.{books_in}
use Rattle.actor_desk.specs.Desk.{SixBooks}
use Rattle.path_core.specs.Codec.{Codec}
use Rattle.path_core.specs.State.{PathState}
use Rattle.path_core.specs.Steps.{next_round, takes}
use Rattle.world_laws.specs.declared.member.Member.TheVariants.{App, Path}
use Rattle.world_laws.specs.Actors.{Actor, ActorCrew, member_asks, member_next, member_takes}
use Rattle.world_laws.specs.Members.{HoldsOfKind}
use Rattle.world_laws.specs.Openings.{Start, opened_world}
use Rattle.world_laws.specs.RoundDone.{reached}
use Rattle.world_laws.specs.StampedBooks.{answer_to}
use Rattle.world_laws.specs.Worlds.{Turn, WorldState, after_turn, all_over, asked, begins, crew_after, greatest, world_run}
use Rattle.world_laws.proofs.Weaving.WholeRounds.{run_append}
use Rattle.world_laws.proofs.Worlds.Turns.{turn_so}
use Rattle.whole_paths.specs.Between.{EachPathBetween, PathsBetween}
use Rattle.whole_paths.specs.Finish.{IsPathAt}
use Rattle.whole_paths.proofs.Harmed.{none_stays}
use Rattle.whole_paths.proofs.Turns.{turn_by}

-- ---- a connection

module _ {C : Type 0} (k : Codec C) (start : Start) (P : WorldState C → Type 0)
    (opened : P (opened_world start))
    (asks : (turns : List Turn) (actor : ℕ) (c : ActorCrew C) (x : Ask) → slice_get (reached k start turns).crew actor ≡ Some c → member_asks k c.member ≡ Some x → P (reached k start turns)
    → P (asked k actor (Some x) c (reached k start turns)))
    (begun : (turns : List Turn) → all_over (reached k start turns).crew ≡ true → P (reached k start turns)
    → P (record (reached k start turns) { crew = map (begins (greatest 0 (reached k start turns).crew)) (reached k start turns).crew })) where
  run_on : (before more : List Turn) → P (reached k start before) → P (world_run k more (reached k start before))
  run_on before [] h = h
  run_on before (turn ∷ more) h =
      let same : reached k start (before ++ turn ∷ []) ≡ after_turn k turn (reached k start before) = run_append k before (turn ∷ []) (opened_world start) in
      subst (λ (w : WorldState C). P (world_run k more w)) same (run_on (before ++ turn ∷ []) more (subst P (sym same) (turn_so k P turn (reached k start before) h (λ actor c x there asking. asks before actor c x there asking h) (λ over. begun before over h))))

  pub each_moment : (turns : List Turn) → P (reached k start turns)
  each_moment turns = run_on [] turns opened

-- ---- path 0

module _ {C : Type 0} where
  abbrev pub Of : (PathState C → Type 0) → Actor C → Type 0
  Of = HoldsOfKind (λ app. Unit {0})

  pub record OfFirst (P : PathState C → Type 0) (w : WorldState C) : Type 0 where
    pub each : (c : ActorCrew C) → slice_get w.crew 2 ≡ Some c → Of P c.member

module _ {C : Type 0} (k : Codec C) (start : Start) (Facts P : PathState C → Type 0)
    (known : (turns : List Turn) → OfFirst Facts (reached k start turns))
    (opened : OfFirst P (opened_world start))
    (answers : (r : Reply) (p : PathState C) → Facts p → P p → P (takes k r p))
    (goes_on : (p : PathState C) → Facts p → P p → P (next_round p)) where
  member_takes_on : (r : Reply) (m : Actor C) → Of Facts m → Of P m → Of P (member_takes k r m)
  member_takes_on r (App a) facts h = tt
  member_takes_on r (Path p) facts h = answers r p facts h

  member_next_on : (m : Actor C) → Of Facts m → Of P m → Of P (member_next m)
  member_next_on (App a) facts h = tt
  member_next_on (Path p) facts h = goes_on p facts h

  pub each_first_moment : (turns : List Turn) → OfFirst P (reached k start turns)
  each_first_moment = each_moment k start (OfFirst P) opened
      (λ turns actor c x there is h. let w : WorldState C = reached k start turns in record {
        each = λ d at. ⊎_elim
            (λ here. subst (λ (y : ActorCrew C). Of P y.member) here.1
            (let two : slice_get w.crew 2 ≡ Some c = ap (λ i. slice_get w.crew i) here.0 ∙ there in member_takes_on (answer_to w.books x) c.member ((known turns).each c two) (h.each c two)))
            (λ other. h.each d other.1)
            (in_set w.crew actor (crew_after k x w.books c) 2 d at);
      })
      (λ turns over h. let w : WorldState C = reached k start turns in record {
        each = λ d at.
            let found = in_map (begins (greatest 0 w.crew)) w.crew 2 d at in
            subst (λ (y : ActorCrew C). Of P y.member) found.2 (member_next_on found.0.member ((known turns).each found.0 found.1) (h.each found.0 found.1));
      })

-- ---- path 0, where what is known of the moment after a turn may be used, too

module _ {C : Type 0} (k : Codec C) where
  -- what a turn makes of a path
  pub data Becomes (p : PathState C) : PathState C → Type 0 where
    stays : Becomes p p
    takes_a_reply : (r : Reply) → Becomes p (takes k r p)
    begins_anew : Becomes p (next_round p)

  abbrev ActorBecomes : Actor C → Actor C → Type 0
  ActorBecomes (Path p) (Path q) = Becomes p q
  ActorBecomes (App a) (App b) = Unit {0}
  ActorBecomes _ _ = ⊥

  actor_stays : (m : Actor C) → ActorBecomes m m
  actor_stays (App a) = tt
  actor_stays (Path p) = Becomes.stays

  actor_takes : (r : Reply) (m : Actor C) → ActorBecomes m (member_takes k r m)
  actor_takes r (App a) = tt
  actor_takes r (Path p) = Becomes.takes_a_reply r

  actor_next : (m : Actor C) → ActorBecomes m (member_next m)
  actor_next (App a) = tt
  actor_next (Path p) = Becomes.begins_anew

  -- path 0 after one turn more
  pub record Then (start : Start) (turns : List Turn) (turn : Turn) (p : PathState C) : Type 0 where
    pub path : PathState C
    pub here : IsPathAt 0 (reached k start (turns ++ turn ∷ [])) path
    pub becomes : Becomes p path

  module _ (start : Start) (turns : List Turn) (turn : Turn) where
    abbrev w : WorldState C
    w = reached k start turns

    same_world : reached k start (turns ++ turn ∷ []) ≡ after_turn k turn w
    same_world = run_append k turns (turn ∷ []) (opened_world start)

    pub then_path : (p : PathState C) → IsPathAt 0 w p → Then start turns turn p
    then_path p here =
        let found = turn_by k (λ books c d. ActorBecomes c.member d.member) (λ books c. actor_stays c.member) (λ books ask c asks. actor_takes (answer_to books ask) c.member) (λ books stamp c over. actor_next c.member) turn w 2 here.crew here.there in
        by found.0 found.1 found.0.member refl (subst (λ m. ActorBecomes m found.0.member) here.is found.2)
      where
        by : (d : ActorCrew C) → slice_get (after_turn k turn w).crew 2 ≡ Some d → (m : Actor C) → d.member ≡ m → ActorBecomes (Path p) d.member → Then start turns turn p
        by d at (Path q) is far = record {
          path = q;
          here = record { crew = d; there = subst (λ (v : WorldState C). slice_get v.crew 2 ≡ Some d) (sym same_world) at; is = is };
          becomes = subst (λ m. ActorBecomes (Path p) m) is far;
        }
        by d at (App a) is far = absurd (subst (λ m. ActorBecomes (Path p) m) is far)

    -- and before it
    pub path_before : (d : ActorCrew C) (q : PathState C) → slice_get (reached k start (turns ++ turn ∷ [])).crew 2 ≡ Some d → d.member ≡ Path q → (p : PathState C) × IsPathAt 0 w p
    path_before d q there is = by (slice_get w.crew 2) refl
      where
        at : slice_get (after_turn k turn w).crew 2 ≡ Some d
        at = subst (λ (v : WorldState C). slice_get v.crew 2 ≡ Some d) same_world there

        of_crew : (c : ActorCrew C) → slice_get w.crew 2 ≡ Some c → (m : Actor C) → c.member ≡ m → (p : PathState C) × IsPathAt 0 w p
        of_crew c was (Path p) is_path = (p, record { crew = c; there = was; is = is_path })
        of_crew c was (App a) is_app =
            let found = turn_by k (λ books c d. ActorBecomes c.member d.member) (λ books c. actor_stays c.member) (λ books ask c asks. actor_takes (answer_to books ask) c.member) (λ books stamp c over. actor_next c.member) turn w 2 c was in
            let same : found.0 ≡ d = same_Some found.0 d (sym found.1 ∙ at) in
            absurd (subst (λ m. ActorBecomes (App a) m) is (subst (λ (e : ActorCrew C). ActorBecomes (App a) e.member) same (subst (λ m. ActorBecomes m found.0.member) is_app found.2)))

        by : (o : Option (ActorCrew C)) → slice_get w.crew 2 ≡ o → (p : PathState C) × IsPathAt 0 w p
        by None was = absurd (let none : None ≡ Some d = sym (none_stays k turn w 2 was) ∙ at in cc)
        by (Some c) was = of_crew c was c.member refl

  module _ (start : Start) (P : PathState C → Type 0) (opened : OfFirst P (opened_world start))
      (step : (turns : List Turn) (turn : Turn) (p q : PathState C) → IsPathAt 0 (reached k start turns) p → IsPathAt 0 (reached k start (turns ++ turn ∷ [])) q → Becomes p q → P p → P q) where
    step_on : (turns : List Turn) (turn : Turn) → OfFirst P (reached k start turns) → OfFirst P (reached k start (turns ++ turn ∷ []))
    step_on turns turn h = record { each = λ d there. by d there d.member refl }
      where
        by : (d : ActorCrew C) → slice_get (reached k start (turns ++ turn ∷ [])).crew 2 ≡ Some d → (m : Actor C) → d.member ≡ m → Of P m
        by d there (App a) is = tt
        by d there (Path q) is =
            let was = path_before start turns turn d q there is in let next = then_path start turns turn was.0 was.1 in
            let found = step turns turn was.0 next.path was.1 next.here next.becomes (subst (Of P) was.1.is (h.each was.1.crew was.1.there)) in
            subst (Of P) (sym next.here.is ∙ ap (λ (c : ActorCrew C). c.member) (same_Some next.here.crew d (sym next.here.there ∙ there)) ∙ is) found

    steps_on : (before more : List Turn) → OfFirst P (reached k start before) → OfFirst P (reached k start (before ++ more))
    steps_on before [] h = subst (λ ts. OfFirst P (reached k start ts)) (sym (append-nil before)) h
    steps_on before (turn ∷ more) h = subst (λ ts. OfFirst P (reached k start ts)) (append_assoc before (turn ∷ []) more) (steps_on (before ++ turn ∷ []) more (step_on before turn h))

    pub each_step : (turns : List Turn) → OfFirst P (reached k start turns)
    each_step turns = steps_on [] turns opened

-- ---- path 0 with the books

module _ {C : Type 0} (k : Codec C) (start : Start) (R : SixBooks → SixBooks → List Note → PathState C → PathState C → Type 0) (between : EachPathBetween k R) (P : SixBooks → PathState C → Type 0) where
  -- with the books of this world
  abbrev pub OfBooked : WorldState C → Type 0
  OfBooked w = OfFirst (P (books_in w.books)) w

  module _ (opened : OfBooked (opened_world start))
      (step : (turns : List Turn) (turn : Turn) (steps : List Note) (p q : PathState C) → IsPathAt 0 (reached k start turns) p → IsPathAt 0 (reached k start (turns ++ turn ∷ [])) q
      → R (books_in (reached k start turns).books) (books_in (reached k start (turns ++ turn ∷ [])).books) steps p q → P (books_in (reached k start turns).books) p
      → P (books_in (reached k start (turns ++ turn ∷ [])).books) q) where
    module _ (turns : List Turn) (turn : Turn) (h : OfBooked (reached k start turns)) where
      abbrev old : WorldState C
      old = reached k start turns

      abbrev new : WorldState C
      new = reached k start (turns ++ turn ∷ [])

      booked_at : (d : ActorCrew C) → slice_get new.crew 2 ≡ Some d → (m : Actor C) → d.member ≡ m → Of (P (books_in new.books)) m
      booked_at d there (App a) is = tt
      booked_at d there (Path q) is =
          let was = path_before k start turns turn d q there is in let same = same_world k start turns turn in
          let found = between old turn 2 was.1.crew was.1.there in
          let same_crew : found.0 ≡ d = same_Some found.0 d (sym found.1 ∙ subst (λ (u : WorldState C). slice_get u.crew 2 ≡ Some d) same there) in
          let now : PathsBetween R old.books (after_turn k turn old).books d.list was.1.crew.member d.member
          = subst (λ (e : ActorCrew C). PathsBetween R old.books (after_turn k turn old).books e.list was.1.crew.member e.member) same_crew found.2 in
          let far : R (books_in old.books) (books_in (after_turn k turn old).books) d.list was.0 q
          = subst (λ m. PathsBetween R old.books (after_turn k turn old).books d.list (Path was.0) m) is (subst (λ m. PathsBetween R old.books (after_turn k turn old).books d.list m d.member) was.1.is now) in
          step turns turn d.list was.0 q was.1 (record { crew = d; there = there; is = is })
          (subst (λ (u : WorldState C). R (books_in old.books) (books_in u.books) d.list was.0 q) (sym same) far) (subst (Of (P (books_in old.books))) was.1.is (h.each was.1.crew was.1.there))

    booked_on : (turns : List Turn) (turn : Turn) → OfBooked (reached k start turns) → OfBooked (reached k start (turns ++ turn ∷ []))
    booked_on turns turn h = record { each = λ d there. booked_at turns turn h d there d.member refl }

    booked_steps : (before more : List Turn) → OfBooked (reached k start before) → OfBooked (reached k start (before ++ more))
    booked_steps before [] h = subst (λ ts. OfBooked (reached k start ts)) (sym (append-nil before)) h
    booked_steps before (turn ∷ more) h = subst (λ ts. OfBooked (reached k start ts)) (append_assoc before (turn ∷ []) more) (booked_steps (before ++ turn ∷ []) more (booked_on before turn h))

    pub each_booked : (turns : List Turn) → OfBooked (reached k start turns)
    each_booked turns = booked_steps [] turns opened
