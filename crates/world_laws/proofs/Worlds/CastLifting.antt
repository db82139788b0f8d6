-- What the actors keep together with the books, at each of their steps, the world keeps.
use Rattle.world_laws.proofs.Words.{◌≡◌, refl, sym, ◌∙◌, ap, subst, ℕ, zero, suc, Bool, true, false, if◌then◌else◌, Option, Some, None, List, [], ◌∷◌, map}
use Rattle.world_laws.proofs.Words.{same_Some, slice_get, Duty, AppDuty, app_ask, app_asks_first, Codec, ask_for, asks_first, in_map, App, ActorCrew, Always}
use Rattle.world_laws.proofs.Words.{IsDone, NothingDueIsLeft, WritesTheFiles, Start, opened_world, WorldState, Turn, asked, world_step, all_over, greatest}
use Rattle.world_laws.proofs.Words.{begins, end_round, after_turn, world_run}
use Rattle.std.specs.Option.{option_map}
use Rattle.world_laws.specs.RoundNumbers.{after_steps}
use Rattle.world_laws.proofs.Worlds.Casts.{Walker, Cast, Fare, map_there, world_of, walking, seated, after_a, after_b, after_path, path_asked, path_stepped, path_step_is, next_cast, next_is, fare_after_a, fare_after_b, fare_after_path, next_fare, first_cast, first_fare, opened_is, written_from}
use Rattle.world_laws.proofs.Rounds.NothingDueIsLeft.{nothing_due}

-- a world of such actors of which this holds
pub record Has {C : Type 0} (start : Start) (Q : Cast C → Type 0) (w : WorldState C) : Type 0 where
  pub cast : Cast C
  pub is : w ≡ world_of cast
  pub fare : Fare start cast
  pub holds : Q cast

-- a relation is kept by a step of each application and of each path
pub record Stepwise {C : Type 0} (k : Codec C) (start : Start) (Q : Cast C → Type 0) : Type 0 where
  pub a : (t : Cast C) → Fare start t → (d : AppDuty) (ds : List AppDuty) → t.a.agenda ≡ d ∷ ds → Q t → Q (after_a (app_ask d t.a) t)
  pub b : (t : Cast C) → Fare start t → (d : AppDuty) (ds : List AppDuty) → t.b.agenda ≡ d ∷ ds → Q t → Q (after_b (app_ask d t.b) t)
  pub path : (t : Cast C) → Fare start t → (number : ℕ) (x : Walker C) → slice_get t.paths number ≡ Some x → (d : Duty) (ds : List Duty) → x.path.agenda ≡ d ∷ ds → Q t
      → Q (after_path k number x (ask_for k d x.path) t)

module _ {C : Type 0} (k : Codec C) (start : Start) (Q : Cast C → Type 0) (kept : Stepwise k start Q) where
  stays : (t : Cast C) → Fare start t → Q t → Has start Q (world_of t)
  stays t f h = record { cast = t; is = refl; fare = f; holds = h }

  by_a : (t : Cast C) → Fare start t → Q t → (ds : List AppDuty) → t.a.agenda ≡ ds → Has start Q (asked k 0 (app_asks_first ds t.a) (seated t.at_a (App t.a)) (world_of t))
  by_a t f h [] is = stays t f h
  by_a t f h (d ∷ ds) is = record { cast = after_a (app_ask d t.a) t; is = refl; fare = fare_after_a start t f d ds is; holds = kept.a t f d ds is h }

  by_b : (t : Cast C) → Fare start t → Q t → (ds : List AppDuty) → t.b.agenda ≡ ds → Has start Q (asked k 1 (app_asks_first ds t.b) (seated t.at_b (App t.b)) (world_of t))
  by_b t f h [] is = stays t f h
  by_b t f h (d ∷ ds) is = record { cast = after_b (app_ask d t.b) t; is = refl; fare = fare_after_b start t f d ds is; holds = kept.b t f d ds is h }

  by_duty : (t : Cast C) → Fare start t → Q t → (number : ℕ) (x : Walker C) → slice_get t.paths number ≡ Some x → (ds : List Duty) → x.path.agenda ≡ ds
      → Has start Q (path_asked k number x (asks_first k ds x.path) t)
  by_duty t f h number x there [] is = stays t f h
  by_duty t f h number x there (d ∷ ds) is = record {
    cast = after_path k number x (ask_for k d x.path) t;
    is = refl;
    fare = fare_after_path k start t f number x there d;
    holds = kept.path t f number x there d ds is h;
  }

  by_path : (t : Cast C) → Fare start t → Q t → (number : ℕ) (o : Option (Walker C)) → slice_get t.paths number ≡ o → Has start Q (path_stepped k number o t)
  by_path t f h number None there = stays t f h
  by_path t f h number (Some x) there = by_duty t f h number x there x.path.agenda refl

  by_actor : (actor : ℕ) (t : Cast C) → Fare start t → Q t → Has start Q (world_step k actor (world_of t))
  by_actor zero t f h = by_a t f h t.a.agenda refl
  by_actor (suc zero) t f h = by_b t f h t.b.agenda refl
  by_actor (suc (suc number)) t f h = subst (Has start Q) (sym (path_step_is k number t)) (by_path t f h number (slice_get t.paths number) refl)

  step_has : (actor : ℕ) (w : WorldState C) → Has start Q w → Has start Q (world_step k actor w)
  step_has actor w h = subst (λ v. Has start Q (world_step k actor v)) (sym h.is) (by_actor actor h.cast h.fare h.holds)

  pub steps_have : (order : List ℕ) (w : WorldState C) → Has start Q w → Has start Q (after_steps k order w)
  steps_have [] w h = h
  steps_have (actor ∷ order) w h = steps_have order (world_step k actor w) (step_has actor w h)

  -- and by the end of a round
  module _ (next : (t : Cast C) → Fare start t → Q t → Q (next_cast t)) where
    round_has : (w : WorldState C) → Has start Q w → Has start Q (end_round w)
    round_has w h = subst (λ v. Has start Q (end_round v)) (sym h.is) (by (all_over (world_of h.cast).crew))
      where
        by : (over : Bool) → Has start Q (if over then record (world_of h.cast) { crew = map (begins (greatest 0 (world_of h.cast).crew)) (world_of h.cast).crew } else world_of h.cast)
        by true = record { cast = next_cast h.cast; is = next_is h.cast; fare = next_fare start h.cast h.fare; holds = next h.cast h.fare h.holds }
        by false = record { cast = h.cast; is = refl; fare = h.fare; holds = h.holds }

    turn_has : (turn : Turn) (w : WorldState C) → Has start Q w → Has start Q (after_turn k turn w)
    turn_has = elim [ Turn.Step actor ↦ λ w h. step_has actor w h | Turn.Round ↦ λ w h. round_has w h ]

    pub turns_have : (turns : List Turn) (w : WorldState C) → Has start Q w → Has start Q (world_run k turns w)
    turns_have [] w h = h
    turns_have (turn ∷ turns) w h = turns_have turns (after_turn k turn w) (turn_has turn w h)

-- where each turn was over, the world after the round's end
pub ended_has : {C : Type 0} (start : Start) (P Q : Cast C → Type 0) → ((t : Cast C) → Fare start t → P t → Q (next_cast t)) → (w : WorldState C) → all_over w.crew ≡ true
    → Has start P w → Has start Q (end_round w)
ended_has start P Q next w over h = subst (λ v. all_over v.crew ≡ true → Has start Q (end_round v)) (sym h.is) at over
  where
    at : all_over (world_of h.cast).crew ≡ true → Has start Q (end_round (world_of h.cast))
    at is = subst (λ (b : Bool). Has start Q (if b then record (world_of h.cast) { crew = map (begins (greatest 0 (world_of h.cast).crew)) (world_of h.cast).crew } else world_of h.cast)) (sym is)
        (record { cast = next_cast h.cast; is = next_is h.cast; fare = next_fare start h.cast h.fare; holds = next h.cast h.fare h.holds })

-- ---- from the opening on

module _ {C : Type 0} (k : Codec C) (start : Start) where
  abbrev Nothing : Cast C → Type 0
  Nothing t = Unit {0}

  pub opened_cast : Has {C = C} start Nothing (opened_world start)
  opened_cast = record { cast = first_cast start; is = opened_is start; fare = first_fare start; holds = tt }

  pub always_cast : (turns : List Turn) → Has start Nothing (world_run k turns (opened_world start))
  always_cast turns =
      turns_have k start Nothing (record { a = λ t f d ds is h. tt; b = λ t f d ds is h. tt; path = λ t f number x there d ds is h. tt }) (λ t f h. tt) turns (opened_world start) opened_cast

pub writes_the_files : {C : Type 0} (k : Codec C) → Always k WritesTheFiles
writes_the_files k start turns =
    let t = always_cast k start turns in
    subst (WritesTheFiles start) (sym t.is) (record {
      a = written_from start.file_a t.cast.a.rest _ t.fare.a.writes;
      b = written_from start.file_b t.cast.b.rest _ t.fare.b.writes;
    })

-- what holds of both applications and of each path, holds of each actor
pub each_actor : {C : Type 0} (P : ℕ → ActorCrew C → Type 0) (t : Cast C) → P 0 (seated t.at_a (App t.a)) → P 1 (seated t.at_b (App t.b))
    → ((number : ℕ) (x : Walker C) → slice_get t.paths number ≡ Some x → P (suc (suc number)) (walking x))
    → (actor : ℕ) (c : ActorCrew C) → slice_get (world_of t).crew actor ≡ Some c → P actor c
each_actor P t a b paths zero c there = subst (P 0) (same_Some _ c there) a
each_actor P t a b paths (suc zero) c there = subst (P 1) (same_Some _ c there) b
each_actor P t a b paths (suc (suc number)) c there = let found = in_map walking t.paths number c there in subst (P (suc (suc number))) found.2 (paths number found.0 found.1)

-- a path is the actor two further on
pub path_actor : {C : Type 0} (t : Cast C) (number : ℕ) (x : Walker C) → slice_get t.paths number ≡ Some x → slice_get (world_of t).crew (suc (suc number)) ≡ Some (walking x)
path_actor t number x there = map_there walking t.paths number ∙ ap (option_map walking) there

pub nothing_due_is_left : {C : Type 0} (k : Codec C) → Always k (λ start w. NothingDueIsLeft w)
nothing_due_is_left k start turns =
    let t = always_cast k start turns in
    subst NothingDueIsLeft (sym t.is) (record {
      each = each_actor (λ actor c. IsDone c.member) t.cast tt tt (λ number x there over. nothing_due x.path (t.fare.paths.each number x there) over);
    })
