-- What is done at the end of each round, and at which tick it is.
use Rattle.world_laws.proofs.Words.{◌≡◌, refl, sym, ◌∙◌, ap, subst, ℕ, ◌+◌, ⊎_elim, Bool, true, false, if◌then◌else◌, Option, Some, None, List, [], ◌∷◌, ◌++◌}
use Rattle.world_laws.proofs.Words.{map, arith, ◌*◌, slice_get, Ask, Reply, Codec, waiting_path, in_map, in_set, Every, App, Path, Actor, ActorCrew}
use Rattle.world_laws.proofs.Words.{member_asks, member_takes, member_next, Start, path_begins, opened_world, WorldState, Turn, crew_after, asked, stepped}
use Rattle.world_laws.proofs.Words.{world_step, all_over, greatest, begins, end_round, after_turn, world_run, AreLawful, answer_to, BeginsRound, PathsAskForAll}
use Rattle.world_laws.proofs.Words.{GrantsAreDone, ReadersCaughtUp, IsFine}
use Rattle.world_laws.specs.RoundDone.{RoundState, first_round, next_round, round_by, round_after, round_of, EndsAt, RoundsEndOnTime, RoundsAreDone, LawfulRoundsAreDone, StaysFine}
use Rattle.world_laws.specs.RoundNumbers.{after_steps}
use Rattle.world_laws.proofs.Rounds.AskedForAll.{paths_ask}
use Rattle.world_laws.proofs.Worlds.CastLifting.{nothing_due_is_left}
use Rattle.world_laws.proofs.Worlds.Opened.{opened_actors}
use Rattle.world_laws.proofs.Weaving.Paired.{step_fine, round_fine, turn_fine, opened_fine}
use Rattle.world_laws.proofs.Rounds.AskingForNothing as asking
use Rattle.world_laws.proofs.Rounds.ReadAll.{readers_caught_up}
use Rattle.world_laws.proofs.Rounds.Frame.{takes_keeps, first_keeps}
use Rattle.world_laws.proofs.Rounds.ReadersEnd as reads
use Rattle.world_laws.proofs.Weaving.WholeRounds.{run_append}

module _ {C : Type 0} (k : Codec C) where
  -- ---- the tick

  takes_on : (tick : ℕ) (r : Reply) (m : Actor C) → EndsAt tick m → EndsAt tick (member_takes k r m)
  takes_on tick r (App a) h = tt
  takes_on tick r (Path p) h = (takes_keeps k r p).0 ∙ h

  next_on : (tick : ℕ) (m : Actor C) → EndsAt tick m → EndsAt (tick + 100) (member_next m)
  next_on tick (App a) h = tt
  next_on tick (Path p) h = (first_keeps (record p { clock = p.until; until = p.until + 100 })).0 ∙ ap (λ n. n + 100) h

  step_on : (tick actor : ℕ) (w : WorldState C) → Every (λ c. EndsAt tick c.member) w.crew → Every (λ c. EndsAt tick c.member) (world_step k actor w).crew
  step_on tick actor w h = by (slice_get w.crew actor) refl
    where
      asks : (c : ActorCrew C) → slice_get w.crew actor ≡ Some c → (o : Option Ask) → Every (λ c. EndsAt tick c.member) (asked k actor o c w).crew
      asks c there None = h
      asks c there (Some x) = record {
        each = λ i d at. ⊎_elim
            (λ here. subst (λ (y : ActorCrew C). EndsAt tick y.member) here.1 (takes_on tick (answer_to w.books x) c.member (h.each actor c there)))
            (λ other. h.each i d other.1)
            (in_set w.crew actor (crew_after k x w.books c) i d at);
      }

      by : (o : Option (ActorCrew C)) → slice_get w.crew actor ≡ o → Every (λ c. EndsAt tick c.member) (stepped k actor o w).crew
      by = elim [ None ↦ λ there. h | Some c ↦ λ there. asks c there (member_asks k c.member) ]

  next_all_on : (tick stamp : ℕ) (crew : List (ActorCrew C)) → Every (λ c. EndsAt tick c.member) crew → Every (λ c. EndsAt (tick + 100) c.member) (map (begins stamp) crew)
  next_all_on tick stamp crew h = record {
    each = λ i c at. let found = in_map (begins stamp) crew i c at in
        subst (λ (y : ActorCrew C). EndsAt (tick + 100) y.member) found.2 (next_on tick found.0.member (h.each i found.0 found.1));
  }

  -- ---- steps

  steps_more : (order : List ℕ) (actor : ℕ) (w : WorldState C) → after_steps k (order ++ actor ∷ []) w ≡ world_step k actor (after_steps k order w)
  steps_more [] actor w = refl
  steps_more (first ∷ order) actor w = steps_more order actor (world_step k first w)

  -- ---- turns

  module _ (start : Start) where
    -- the world in which a run is, in this round
    record Going (r : RoundState C) (w : WorldState C) : Type 0 where
      before : List Turn
      reached : w ≡ world_run k before (opened_world start)
      order : List ℕ
      is : w ≡ after_steps k order r.begun
      begun : BeginsRound k start r.begun
      on_time : Every (λ c. EndsAt (100 * (r.number + 1)) c.member) w.crew
      fine : IsFine r.top w

    reached_more : (before : List Turn) (turn : Turn) (w : WorldState C) → w ≡ world_run k before (opened_world start)
        → after_turn k turn w ≡ world_run k (before ++ turn ∷ []) (opened_world start)
    reached_more before turn w is = ap (after_turn k turn) is ∙ sym (run_append k before (turn ∷ []) (opened_world start))

    round_going : (r : RoundState C) (w : WorldState C) → Going r w → Going (next_round w r) (end_round w)
    round_going r w h = by (all_over w.crew) refl
      where
        begun_crew : List (ActorCrew C)
        begun_crew = map (begins (greatest 0 w.crew)) w.crew

        ended : (b : Bool) → all_over w.crew ≡ b → end_round w ≡ (if b then record w { crew = begun_crew } else w)
        ended b is = ap (λ (x : Bool). if x then record w { crew = begun_crew } else w) is

        by : (b : Bool) → all_over w.crew ≡ b → Going (if b then record { number = r.number + 1; top = greatest 0 w.crew; begun = end_round w } else r) (end_round w)
        by true over = record {
          before = h.before ++ Turn.Round ∷ [];
          reached = reached_more h.before Turn.Round w h.reached;
          order = [];
          is = refl;
          begun = BeginsRound.Next h.before (subst (λ v. all_over v.crew ≡ true) h.reached over) (ap end_round h.reached);
          on_time = let next : 100 * (r.number + 1) + 100 ≡ 100 * (r.number + 1 + 1) = omega arith in
              subst (λ v. Every (λ c. EndsAt (100 * (r.number + 1 + 1)) c.member) v.crew) (sym (ended true over))
              (subst (λ n. Every (λ c. EndsAt n c.member) begun_crew) next (next_all_on (100 * (r.number + 1)) (greatest 0 w.crew) w.crew h.on_time));
          fine = subst (λ (b : Bool). IsFine (if b then greatest 0 w.crew else r.top) (end_round w)) over (round_fine r.top w h.fine);
        }
        by false over = subst (Going r) (sym (ended false over)) h

    turn_going : (turn : Turn) (r : RoundState C) (w : WorldState C) → Going r w → Going (round_by turn w r) (after_turn k turn w)
    turn_going (Turn.Step actor) r w h = record {
      before = h.before ++ Turn.Step actor ∷ [];
      reached = reached_more h.before (Turn.Step actor) w h.reached;
      order = h.order ++ actor ∷ [];
      is = ap (world_step k actor) h.is ∙ sym (steps_more h.order actor r.begun);
      begun = h.begun;
      on_time = step_on (100 * (r.number + 1)) actor w h.on_time;
      fine = step_fine k actor r.top w h.fine;
    }
    turn_going Turn.Round r w h = round_going r w h

    run_going : (turns : List Turn) (r : RoundState C) (w : WorldState C) → Going r w → Going (round_after k turns w r) (world_run k turns w)
    run_going [] r w h = h
    run_going (turn ∷ turns) r w h = run_going turns (round_by turn w r) (after_turn k turn w) (turn_going turn r w h)

    opened_going : Going (first_round start) (opened_world start)
    opened_going = record {
      before = [];
      reached = refl;
      order = [];
      is = refl;
      begun = BeginsRound.First refl;
      on_time = record {
        each = opened_actors (λ actor c. EndsAt 100 c.member) start tt tt
            (λ number plan there. (first_keeps (waiting_path {C = C} (path_begins start number plan) start.lines)).0);
      };
      fine = opened_fine start;
    }

    always_going : (turns : List Turn) → Going (round_of k start turns) (world_run k turns (opened_world start))
    always_going turns = run_going turns (first_round start) (opened_world start) opened_going

  -- ---- laws

  pub rounds_end_on_time : RoundsEndOnTime k
  rounds_end_on_time start turns = record { each = (always_going start turns).on_time.each }

  pub stays_fine : StaysFine k
  stays_fine = record { always = λ start turns. (always_going start turns).fine; turns = turn_fine k }

  pub rounds_are_done : RoundsAreDone k
  rounds_are_done start turns over =
      let now = always_going start turns in
      let r : RoundState C = round_of k start turns in
      record {
        over = over;
        tick = rounds_end_on_time start turns;
        due = nothing_due_is_left k start turns;
        grants = subst (GrantsAreDone r.begun) (sym now.is) (asking.grants_are_done k start r.begun now.order now.begun);
        asked = subst (PathsAskForAll r.begun) (sym now.is) (paths_ask k start r.begun now.order now.begun);
        readers = reads.readers_are_done k start turns;
        caught_up = subst (ReadersCaughtUp r.begun) (sym now.is) (readers_caught_up k start r.begun now.order now.begun);
      }

  lawful_later : (before later : List Turn) (w : WorldState C) → AreLawful k (before ++ later) w → AreLawful k later (world_run k before w)
  lawful_later [] later w h = h
  lawful_later (turn ∷ before) later w h = lawful_later before later (after_turn k turn w) h.1

  pub lawful_rounds_are_done : LawfulRoundsAreDone k
  lawful_rounds_are_done start before later lawful = rounds_are_done start before (lawful_later before (Turn.Round ∷ later) (opened_world start) lawful).0
