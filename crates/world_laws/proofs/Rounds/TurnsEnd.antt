-- Each turn of an actor ends, whatever the books answer. So from each world that comes about there is a list of serial turns.
use Rattle.world_laws.proofs.Words.{◌≡◌, refl, sym, ◌∙◌, ap, subst, ℕ, zero, suc, ◌+◌, ◌≤◌, not, inl, inr, ◌⊎◌, ⊎_elim, Bool, true, false, if◌then◌else◌}
use Rattle.world_laws.proofs.Words.{Option, Some, None, List, [], ◌∷◌, length, map, ◌<◌, same_Some, slice_get, start_of_turn, Duty, Ask, Reply, books_in}
use Rattle.world_laws.proofs.Words.{is_nil, IsOfKind, AppDuty, AppState, fresh_turn, start_of_app, app_ask, app_asks_first, app_answers, app_takes}
use Rattle.world_laws.proofs.Words.{app_next_round, AppEnds, IsAppSettled, Codec, stands, ask_for, PathState, with_agenda, settled, answers, asks_first, takes}
use Rattle.world_laws.proofs.Words.{begins_turn, Ends, TakesTime, FirstStands, IsSettled, payload_size, in_map, in_set, set_same, Every, App, Path, Actor}
use Rattle.world_laws.proofs.Words.{ActorCrew, member_asks, member_takes, member_next, is_over, WorldState, Turn, crew_after, asked, stepped, world_step}
use Rattle.world_laws.proofs.Words.{all_over, greatest, begins, end_round, after_turn, world_run, answer_to, outcome_of, OneOf, IsTurn, AreTurns, after_turns}
use Rattle.world_laws.proofs.Words.{after_round, AreRounds}
use Rattle.stream_apps.proofs.AppEnds.{app_turn_ends}
use Rattle.path_core.proofs.Lowering.{answered_lowers}
use Rattle.path_core.proofs.Passed.{settled_lower}
use Rattle.path_core.proofs.TurnEnds.{turn_ends}
use Rattle.world_laws.proofs.Worlds.Settled.{settled_settled}
use Rattle.world_laws.specs.Serial.{goes_on, after_steps}
use Rattle.world_laws.specs.Worlds.{goes}
use Rattle.world_laws.proofs.Lanes.Applying.{settled_app}
use Rattle.world_laws.proofs.Weaving.Journals.{books_after}
use Rattle.world_laws.proofs.Rounds.Asks.{app_asks_some, asks_some}
use Rattle.world_laws.proofs.Rounds.Frame.{takes_keeps, first_keeps}
use Rattle.world_laws.proofs.Rounds.ReplyKinds.{AreMarked, ask_marked, AsksSome, answers_in_kind}

-- ---- an application

takes_settled : (r : Reply) (a : AppState) → IsAppSettled (app_takes r a)
takes_settled r a = (settled_app (app_answers a.agenda r a).agenda (app_answers a.agenda r a)).settled

begun_settled : (a : AppState) → IsAppSettled (app_next_round a)
begun_settled a = (settled_app start_of_app (fresh_turn a)).settled

app_asks : (ds : List AppDuty) (a : AppState) (x : Ask) → app_asks_first ds a ≡ Some x → AsksSome x
app_asks [] a x is = cc
app_asks (d ∷ ds) a x is = subst AsksSome (same_Some (app_ask d a) x is) (app_asks_some d a)

some_app : (ds : List AppDuty) (a : AppState) (x : Ask) → app_asks_first ds a ≡ Some x → is_nil ds ≡ false
some_app = elim [ [] ↦ λ a x is. cc | d ∷ ds ↦ λ a x is. refl ]

-- ---- a path

-- what is kept of a path: it takes time, what it does first comes to something, and a full segment has a payload
pub record IsSteadyPath {C : Type 0} (p : PathState C) : Type 0 where
  pub time : TakesTime p
  pub first : IsSettled p
  pub payload : 1 ≤ payload_size p.profile

abbrev no_rounds : List (List ℕ)
no_rounds = []

module _ {C : Type 0} where
  settled_time : (ds : List Duty) (q : PathState C) → TakesTime q → TakesTime (settled ds q)
  settled_time ds q t = elim (settled_lower ds q t)
      [ inl less ↦ less.1.time | inr same ↦ subst TakesTime (sym same) (record { delay = t.delay; timer_a = t.timer_a; timer_b = t.timer_b }) ]

  takes_steady : (k : Codec C) (p : PathState C) (r : Reply) (x : Ask) (ds : List Duty) → p.agenda ≡ ds → asks_first k ds p ≡ Some x → IsOfKind x r
      → IsSteadyPath p → IsSteadyPath (takes k r p)
  takes_steady k p r x [] agenda is kind h = cc
  takes_steady k p r x (d ∷ ds) agenda is kind h =
      let asked_is = same_Some (ask_for k d p) x is in
      let own : IsOfKind (ask_for k d p) r = subst (λ y. IsOfKind y r) (sym asked_is) kind in
      let standing : stands d p ≡ true = subst (λ xs. FirstStands xs p) agenda h.first in
      let lower = answered_lowers k d ds r p h.time agenda standing own in
      let q : PathState C = answers k p.agenda r p in
      let time : TakesTime q = subst (λ xs. TakesTime (answers k xs r p)) (sym agenda) lower.time in
      let kept = takes_keeps k r p in
      record { time = settled_time q.agenda q time; first = settled_settled q.agenda q; payload = subst (λ c. 1 ≤ payload_size c) (sym kept.1) h.payload }

  pub begun_steady : (p : PathState C) → TakesTime p → 1 ≤ payload_size p.profile → IsSteadyPath (begins_turn p)
  begun_steady p t some =
      let q : PathState C = with_agenda start_of_turn p in
      let kept = first_keeps p in
      record {
        time = settled_time start_of_turn q (record { delay = t.delay; timer_a = t.timer_a; timer_b = t.timer_b });
        first = settled_settled start_of_turn q;
        payload = subst (λ c. 1 ≤ payload_size c) (sym kept.1) some;
      }

  path_asks : (k : Codec C) (p : PathState C) → 1 ≤ payload_size p.profile → (ds : List Duty) (x : Ask) → asks_first k ds p ≡ Some x → AsksSome x
  path_asks k p some [] x is = cc
  path_asks k p some (d ∷ ds) x is = subst AsksSome (same_Some (ask_for k d p) x is) (asks_some k p some d)

  -- ---- an actor

  abbrev pub IsSteady : Actor C → Type 0
  IsSteady (App a) = IsAppSettled a
  IsSteady (Path p) = IsSteadyPath p

  -- its turn is over, or it asks, and ends after whatever reply of the asked kind
  pub data EndsTurn (k : Codec C) : Actor C → Type 0 where
    Over : (m : Actor C) → is_over m ≡ true → EndsTurn k m
    Asks : (m : Actor C) (x : Ask) → member_asks k m ≡ Some x → is_over m ≡ false → ((r : Reply) → IsOfKind x r → EndsTurn k (member_takes k r m)) → EndsTurn k m

  some_path : (k : Codec C) (ds : List Duty) (p : PathState C) (x : Ask) → asks_first k ds p ≡ Some x → is_nil ds ≡ false
  some_path k [] p x is = cc
  some_path k (d ∷ ds) p x is = refl

  app_ends : (k : Codec C) (a : AppState) → AppEnds a → EndsTurn k (App a)
  app_ends k a (AppEnds.Over _ is) = EndsTurn.Over (App a) (ap is_nil is)
  app_ends k a (AppEnds.Asks _ x is next) = EndsTurn.Asks (App a) x is (some_app a.agenda a x is) (λ r kind. app_ends k (app_takes r a) (next r kind))

  path_ends : (k : Codec C) (p : PathState C) → Ends k p → EndsTurn k (Path p)
  path_ends k p (Ends.Over _ is) = EndsTurn.Over (Path p) (ap is_nil is)
  path_ends k p (Ends.Asks _ x is next) = EndsTurn.Asks (Path p) x is (some_path k p.agenda p x is) (λ r kind. path_ends k (takes k r p) (next r kind))

  ends_turn : (k : Codec C) (m : Actor C) → IsSteady m → EndsTurn k m
  ends_turn k (App a) h = app_ends k a (app_turn_ends a h)
  ends_turn k (Path p) h = path_ends k p (turn_ends k p h.time h.first)

  asks_steadily : (k : Codec C) (m : Actor C) (x : Ask) → member_asks k m ≡ Some x → IsSteady m → AsksSome x
  asks_steadily k (App a) x is h = app_asks a.agenda a x is
  asks_steadily k (Path p) x is h = path_asks k p h.payload p.agenda x is

  takes_steadily : (k : Codec C) (m : Actor C) (r : Reply) (x : Ask) → member_asks k m ≡ Some x → IsOfKind x r → IsSteady m → IsSteady (member_takes k r m)
  takes_steadily k (App a) r x is kind h = takes_settled r a
  takes_steadily k (Path p) r x is kind h = takes_steady k p r x p.agenda refl is kind h

  begins_steadily : (m : Actor C) → IsSteady m → IsSteady (member_next m)
  begins_steadily (App a) h = begun_settled a
  begins_steadily (Path p) h =
      begun_steady (record p { clock = p.until; until = p.until + 100 }) (record { delay = h.time.delay; timer_a = h.time.timer_a; timer_b = h.time.timer_b }) h.payload

  -- ---- a world

  pub record IsSteadyWorld (w : WorldState C) : Type 0 where
    pub crew : Every (λ c. IsSteady c.member) w.crew
    pub books : AreMarked (books_in w.books)

  kind_of : (k : Codec C) (w : WorldState C) (c : ActorCrew C) (x : Ask) → member_asks k c.member ≡ Some x → IsSteady c.member → IsSteadyWorld w
      → IsOfKind x (answer_to w.books x)
  kind_of k w c x is own h = answers_in_kind (books_in w.books) x h.books (asks_steadily k c.member x is own)

  asked_steady : (k : Codec C) (actor : ℕ) (w : WorldState C) (c : ActorCrew C) (x : Ask) → slice_get w.crew actor ≡ Some c → member_asks k c.member ≡ Some x
      → IsSteadyWorld w → IsSteadyWorld (asked k actor (Some x) c w)
  asked_steady k actor w c x there is h =
      let own = h.crew.each actor c there in
      let next : IsSteady (member_takes k (answer_to w.books x) c.member) = takes_steadily k c.member (answer_to w.books x) x is (kind_of k w c x is own h) own in
      record {
        crew = record {
          each = λ i d at. ⊎_elim
              (λ same. subst (λ y. IsSteady y.member) same.1 next)
              (λ other. h.crew.each i d other.1)
              (in_set w.crew actor (crew_after k x w.books c) i d at);
        };
        books = subst AreMarked (sym (books_after x c.pass w.books)) (ask_marked (books_in w.books) x h.books);
      }

  pub step_steady : (k : Codec C) (actor : ℕ) (w : WorldState C) → IsSteadyWorld w → IsSteadyWorld (world_step k actor w)
  step_steady k actor w h = (elim (slice_get w.crew actor) as (λ o. slice_get w.crew actor ≡ o → IsSteadyWorld (stepped k actor o w))
      [ None ↦ λ there. h | Some c ↦ λ there. asks c there (member_asks k c.member) refl ]) refl
    where
      asks : (c : ActorCrew C) → slice_get w.crew actor ≡ Some c → (o : Option Ask) → member_asks k c.member ≡ o → IsSteadyWorld (asked k actor o c w)
      asks c there None is = h
      asks c there (Some x) is = asked_steady k actor w c x there is h

  pub round_steady : (w : WorldState C) → IsSteadyWorld w → IsSteadyWorld (end_round w)
  round_steady w h = by (all_over w.crew)
    where
      by : (b : Bool) → IsSteadyWorld (if b then record w { crew = map (begins (greatest 0 w.crew)) w.crew } else w)
      by true = record {
        crew = record {
          each = λ i d at.
              let found = in_map (begins (greatest 0 w.crew)) w.crew i d at in
              subst (λ y. IsSteady y.member) found.2 (begins_steadily found.0.member (h.crew.each i found.0 found.1));
        };
        books = h.books;
      }
      by false = h

  turn_steady : (k : Codec C) (turn : Turn) (w : WorldState C) → IsSteadyWorld w → IsSteadyWorld (after_turn k turn w)
  turn_steady k (Turn.Step actor) w h = step_steady k actor w h
  turn_steady k Turn.Round w h = round_steady w h

  pub run_steady : (k : Codec C) (turns : List Turn) (w : WorldState C) → IsSteadyWorld w → IsSteadyWorld (world_run k turns w)
  run_steady k [] w h = h
  run_steady k (turn ∷ turns) w h = run_steady k turns (after_turn k turn w) (turn_steady k turn w h)

  -- ---- turns

  pub steps_steady : (k : Codec C) (actor n : ℕ) (w : WorldState C) → IsSteadyWorld w → IsSteadyWorld (after_steps k actor n w)
  steps_steady k actor zero w h = h
  steps_steady k actor (suc n) w h = steps_steady k actor n (world_step k actor w) (step_steady k actor w h)

  turns_steady : (k : Codec C) (actor : ℕ) (counts : List ℕ) (w : WorldState C) → IsSteadyWorld w → IsSteadyWorld (after_turns k actor counts w)
  turns_steady k actor [] w h = h
  turns_steady k actor (n ∷ counts) w h = turns_steady k (suc actor) counts (after_steps k actor n w) (steps_steady k actor n w h)

  is_step : (k : Codec C) (actor : ℕ) (w : WorldState C) (c : ActorCrew C) (x : Ask) → slice_get w.crew actor ≡ Some c → member_asks k c.member ≡ Some x
      → world_step k actor w ≡ asked k actor (Some x) c w
  is_step k actor w c x there is = ap (λ o. stepped k actor o w) there ∙ ap (λ o. asked k actor o c w) is

  turn_from : (k : Codec C) (actor : ℕ) (w : WorldState C) (c : ActorCrew C) (m : Actor C) → slice_get w.crew actor ≡ Some c → c.member ≡ m → IsSteadyWorld w
      → EndsTurn k m → (n : ℕ) × IsTurn k actor n w
  turn_from k actor w c m there same h (EndsTurn.Over _ over) = (0, ap goes there ∙ ap (λ x. not (is_over x)) same ∙ ap not over)
  turn_from k actor w c m there same h (EndsTurn.Asks _ x is going next) =
      let asks : member_asks k c.member ≡ Some x = ap (member_asks k) same ∙ is in
      let r = answer_to w.books x in
      let rest = turn_from k actor (asked k actor (Some x) c w) (crew_after k x w.books c) (member_takes k r m)
      (set_same w.crew actor (crew_after k x w.books c) c there) (ap (member_takes k r) same) (asked_steady k actor w c x there asks h)
      (next r (kind_of k w c x asks (h.crew.each actor c there) h)) in
      (suc rest.0, (ap goes there ∙ ap (λ y. not (is_over y)) same ∙ ap not going, subst (IsTurn k actor rest.0) (sym (is_step k actor w c x there asks)) rest.1))

  turn_at : (k : Codec C) (actor : ℕ) (w : WorldState C) → IsSteadyWorld w → (n : ℕ) × IsTurn k actor n w
  turn_at k actor w h = (elim (slice_get w.crew actor) as (λ o. slice_get w.crew actor ≡ o → (n : ℕ) × IsTurn k actor n w)
      [ None ↦ λ there. (0, ap goes there) | Some c ↦ λ there. turn_from k actor w c c.member there refl h (ends_turn k c.member (h.crew.each actor c there)) ]) refl

  turns_at : (k : Codec C) (more actor : ℕ) (w : WorldState C) → IsSteadyWorld w → (counts : List ℕ) × AreTurns k more actor counts w
  turns_at k zero actor w h = ([], refl)
  turns_at k (suc more) actor w h =
      let first = turn_at k actor w h in
      let rest = turns_at k more (suc actor) (after_steps k actor first.0 w) (steps_steady k actor first.0 w h) in
      (first.0 ∷ rest.0, (first.1, rest.1))

  pub rounds_at : (k : Codec C) (most : ℕ) (w : WorldState C) → IsSteadyWorld w → (rounds : List (List ℕ)) × AreRounds k most rounds w
  rounds_at k zero w h = ([], refl)
  rounds_at k (suc most) w h =
      let turns = turns_at k (length w.crew) 0 w h in
      let v : WorldState C = after_round k turns.0 w in
      by turns (goes_on (outcome_of v.crew)) refl (rounds_at k most v (round_steady (after_turns k 0 turns.0 w) (turns_steady k 0 turns.0 w h)))
    where
      by : (turns : (counts : List ℕ) × AreTurns k (length w.crew) 0 counts w) (b : Bool) → goes_on (outcome_of (after_round k turns.0 w).crew) ≡ b
          → ((rounds : List (List ℕ)) × AreRounds k most rounds (after_round k turns.0 w)) → (rounds : List (List ℕ)) × AreRounds k (suc most) rounds w
      by turns true is rest = (
        turns.0 ∷ rest.0,
        (turns.1, subst (λ b. OneOf b (AreRounds k most rest.0 (after_round k turns.0 w)) (rest.0 ≡ [])) (sym is) rest.1),
      )
      by turns false is rest = (
        turns.0 ∷ [],
        (turns.1, subst (λ b. OneOf b (AreRounds k most [] (after_round k turns.0 w)) (no_rounds ≡ [])) (sym is) refl),
      )
