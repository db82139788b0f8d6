-- From the opening on, in whatever order the steps of a round come, both lanes are a course of rounds.
--
-- Rounds know nothing of duties: they take the two tables as one record (`DutiesGoOn`), so that they were written
-- beside them.
use Rattle.clean_finish.proofs.Words.{◌≡◌, refl, sym, subst, ap, ℕ, ◌+◌, ◌≤◌, true, ◌&&◌, None, List, [], ◌∷◌, map, arith, Some, suc, le_refl, zero, and_parts}
use Rattle.clean_finish.proofs.Words.{slice_get, Side, A, B, Duty, start_of_turn, is_nil, reassembly_of, books_in, AppDuty, AppState, app_ask, start_of_app}
use Rattle.clean_finish.proofs.Words.{Carried, values, PathState, with_agenda, ask_for, answers, Setting, Lane, all_left, Going, opens_round, first_lane, Round}
use Rattle.clean_finish.proofs.Words.{Linked, Course, all_moves_going, PathPlan, Start, path_begins, opened_world, answer_to, Walker, Cast, Fare, Every-put}
use Rattle.clean_finish.proofs.Words.{world_of, walking, after_a, after_b, after_path, walked, walks_on, next_cast, first_cast, first_fare, walker_there}
use Rattle.clean_finish.proofs.Words.{WorldState, Turn, note_of, all_over, greatest, world_step, end_round, world_run, AreLawful, Running, rounds_in}
use Rattle.stream_lanes.specs.Words.{Every}
use Rattle.stream_lanes.proofs.Lists.{in_map}
use Rattle.stream_apps.specs.Starts.{fast_close_of, untouched, first_app_turn}
use Rattle.path_core.specs.Start.{waiting_path}
use Rattle.path_core.specs.Turns.{IsSettled}
use Rattle.world_laws.proofs.Lanes.Applying.{settled_app}
use Rattle.world_laws.proofs.Worlds.Casts.{opened_is}
use Rattle.world_laws.proofs.Worlds.CastLifting.{Has, Stepwise, steps_have, ended_has}
use Rattle.world_laws.proofs.Worlds.Settled.{settled_settled}
use Rattle.pace.specs.Ends.{Calm, calm_tick}
use Rattle.pace.specs.Laws.{HasRanges}
use Rattle.pace.proofs.Beginning.{first_going}
use Rattle.pace.proofs.Calming.{calm_begins, first_rounds, later_rounds}
use Rattle.clean_finish.proofs.Applied.{act_a, act_b}
use Rattle.clean_finish.proofs.NextRound.{linked, syn_sent, next_running}
use Rattle.clean_finish.proofs.Onward.{DutiesGoOn}
use Rattle.clean_finish.proofs.Outcomes.{told_by}
use Rattle.clean_finish.proofs.ReadersTold.{TellsAs, step_tells, next_tells}
use Rattle.clean_finish.proofs.RoundsOver.{round_there, round_back}
use Rattle.clean_finish.proofs.Stepping.{path_steps}

nil_is : {X : Type 0} (xs : List X) → is_nil xs ≡ true → xs ≡ []
nil_is [] is = refl
nil_is (x ∷ xs) is = cc

module _ (start : Start) (plan : PathPlan) (k j : Setting) (a b : ℕ) (wide : k.payload + k.payload ≤ a) (wide_back : j.payload + j.payload ≤ b)
    (ranges : HasRanges k) (others : HasRanges j) (small : k.total ≤ 16777216) (small_back : j.total ≤ 16777216)
    (go_on : DutiesGoOn start plan k j)
  where
    -- what ended before the round: nothing, or the first round and so many more
    abbrev pub Past : ℕ → Lane → Lane → Type 0
    Past zero s v = Unit {0}
    Past (suc n) s v = (u : Lane) × (x : Lane) × Course k j a b n u x × (u.told_end ≤ s.told_end) × (x.told_end ≤ v.told_end)

    -- The round that goes on began with these lanes, and as it ends a course is one round longer.
    pub record InRound (n : ℕ) (t : Cast Carried) : Type 0 where
      pub s : Lane
      pub v : Lane
      pub tick : ℕ
      pub tick_back : ℕ
      pub going : Going k s tick all_left s
      pub going_back : Going j v tick_back all_left v
      pub past : Past n s v
      pub ends : (u x : Lane) → Round k s u → Round j v x → Linked u x → 1 ≤ u.control_sent → Course k j a b n u x × Calm k u × Calm j x
      pub runs : Running start plan k j s v t

    -- this number of rounds has ended
    pub record Stands (n : ℕ) (t : Cast Carried) : Type 0 where
      pub settled : Every (λ (y : Walker Carried). IsSettled y.path) t.paths
      pub told_a : TellsAs t.a t.at_a.list
      pub told_b : TellsAs t.b t.at_b.list
      pub round : InRound n t

    -- ---- a step

    module _ (n : ℕ) where
      with_runs : (t u : Cast Carried) (h : InRound n t) → Running start plan k j h.s h.v u → InRound n u
      with_runs t u h runs = record {
        s = h.s;
        v = h.v;
        tick = h.tick;
        tick_back = h.tick_back;
        going = h.going;
        going_back = h.going_back;
        past = h.past;
        ends = h.ends;
        runs = runs;
      }

      by_a : (t : Cast Carried) → Fare start t → (d : AppDuty) (ds : List AppDuty) → t.a.agenda ≡ d ∷ ds → Stands n t → Stands n (after_a (app_ask d t.a) t)
      by_a t f d ds at h = record {
        settled = h.settled;
        told_a = step_tells (books_in t.books) t.a t.at_a.list (note_of t.books t.at_a.pass (app_ask d t.a))
            (subst (λ (q : Side). (reassembly_of q (books_in t.books)).aborted ≡ None) (sym f.a.side_is) h.round.runs.apps_back.reads.numbers.unaborted)
            h.told_a d ds at refl;
        told_b = h.told_b;
        round = with_runs t (after_a (app_ask d t.a) t) h.round
            (act_a start plan k j h.round.s h.round.v h.round.tick h.round.tick_back h.round.going h.round.going_back small small_back t f d ds at h.round.runs);
      }

      by_b : (t : Cast Carried) → Fare start t → (d : AppDuty) (ds : List AppDuty) → t.b.agenda ≡ d ∷ ds → Stands n t → Stands n (after_b (app_ask d t.b) t)
      by_b t f d ds at h = record {
        settled = h.settled;
        told_a = h.told_a;
        told_b = step_tells (books_in t.books) t.b t.at_b.list (note_of t.books t.at_b.pass (app_ask d t.b))
            (subst (λ (q : Side). (reassembly_of q (books_in t.books)).aborted ≡ None) (sym f.b.side_is) h.round.runs.apps.reads.numbers.unaborted)
            h.told_b d ds at refl;
        round = with_runs t (after_b (app_ask d t.b) t) h.round
            (act_b start plan k j h.round.s h.round.v h.round.tick h.round.tick_back h.round.going h.round.going_back small small_back t f d ds at h.round.runs);
      }

      by_path : (t : Cast Carried) → Fare start t → (number : ℕ) (x : Walker Carried) → slice_get t.paths number ≡ Some x → (d : Duty) (ds : List Duty) → x.path.agenda ≡ d ∷ ds
          → Stands n t → Stands n (after_path values number x (ask_for values d x.path) t)
      by_path t f number x there d ds at h =
          let ask = ask_for values d x.path in
          let m : PathState Carried = answers values x.path.agenda (answer_to t.books ask) x.path in
          record {
            settled = Every-put number (walked values ask t.books x) (settled_settled m.agenda m) h.settled;
            told_a = h.told_a;
            told_b = h.told_b;
            round = with_runs t (after_path values number x ask t) h.round
                (path_steps start plan k j h.round.s h.round.v
                (go_on.passes h.round.s h.round.v h.round.tick h.round.tick_back h.round.going h.round.going_back)
                (go_on.answering h.round.s h.round.v h.round.tick h.round.tick_back h.round.going h.round.going_back)
                t number x there d ds at (h.settled.each number x there) h.round.runs);
          }

      pub stands_on : Stepwise values start (Stands n)
      stands_on = record { a = by_a; b = by_b; path = by_path }

    -- ---- the end of a round

    module _ (n : ℕ) (t : Cast Carried) (stood : Stands n t) (over : all_over (world_of t).crew ≡ true) where
      abbrev h : InRound n t
      h = stood.round

      abbrev r : Running start plan k j h.s h.v t
      r = h.runs

      parts : (is_nil t.a.agenda ≡ true) × ((is_nil t.b.agenda && all_over (map walking t.paths)) ≡ true)
      parts = and_parts (is_nil t.a.agenda) (is_nil t.b.agenda && all_over (map walking t.paths)) over

      others_over : (is_nil t.b.agenda ≡ true) × (all_over (map walking t.paths) ≡ true)
      others_over = and_parts (is_nil t.b.agenda) (all_over (map walking t.paths)) parts.1

      path_over : r.walker.path.agenda ≡ []
      path_over = nil_is r.walker.path.agenda (and_parts (is_nil r.walker.path.agenda) true
          (subst (λ (paths : List (Walker Carried)). all_over (map walking paths) ≡ true) r.alone others_over.1)).0

      -- a course is one round longer
      record Longer : Type 0 where
        course : Course k j a b n r.out r.back
        calm : Calm k r.out
        calm_back : Calm j r.back

      longer : Longer
      longer =
          let over_a = nil_is t.a.agenda parts.0 in
          let over_b = nil_is t.b.agenda others_over.0 in
          let c = h.ends r.out r.back (round_there start plan k j h.s h.v t r path_over over_a over_b)
          (round_back start plan k j h.s h.v t r path_over over_a over_b)
          (linked start plan k j h.s h.v t.a t.b (books_in t.books) r.walker.path r.runs path_over)
          (syn_sent start plan k j h.s h.v t.a t.b (books_in t.books) r.walker.path r.runs path_over) in
          record { course = c.0; calm = c.1; calm_back = c.2 }

      early : {c u clock until : ℕ} → c ≡ clock → u ≡ until → suc c ≤ u → clock ≤ until
      early one two less = omega (arith, one, two, less)

      next_in : InRound (suc n) (next_cast t)
      next_in =
          let c = longer in
          let going = calm_begins k ranges r.out c.calm in
          let going_back = calm_begins j others r.back c.calm_back in
          record {
            s = opens_round r.out;
            v = opens_round r.back;
            tick = calm_tick k r.out c.calm;
            tick_back = calm_tick j r.back c.calm_back;
            going = going;
            going_back = going_back;
            past = (r.out, r.back, c.course, le_refl r.out.told_end, le_refl r.back.told_end);
            ends = λ u x there back link syn. (
              (r.out, r.back, c.course, there, back, link),
              (later_rounds k ranges r.out u c.calm there).1,
              (later_rounds j others r.back x c.calm_back back).1,
            );
            runs = next_running start plan k j h.s h.v t r path_over (calm_tick k r.out c.calm) (calm_tick j r.back c.calm_back) going going_back
                (early r.now.0 r.now.1 c.calm.ended.going.round.early)
                (go_on.passes (opens_round r.out) (opens_round r.back) (calm_tick k r.out c.calm) (calm_tick j r.back c.calm_back) going going_back);
          }

      pub stands_next : Stands (suc n) (next_cast t)
      stands_next = record {
        settled = record {
          each = λ i y there. let found = in_map (walks_on (greatest 0 (world_of t).crew)) t.paths i y there in
              subst (λ (z : Walker Carried). IsSettled z.path) found.2
              (settled_settled start_of_turn (with_agenda start_of_turn (record found.0.path { clock = found.0.path.until; until = found.0.path.until + 100 })));
        };
        told_a = next_tells t.a t.at_a.list stood.told_a;
        told_b = next_tells t.b t.at_b.list stood.told_b;
        round = next_in;
      }

    -- ---- the opening

    first_tells : (s : Side) (file : List ℕ) → TellsAs (first_app_turn s start.buffer file (fast_close_of s start.lines)) []
    first_tells s file = record {
      told = ap (λ (y : AppState). y.told) (settled_app start_of_app (untouched s start.buffer file (fast_close_of s start.lines))).is;
      unaborted = refl;
    }

    first_stands : Running start plan k j (first_lane a) (first_lane b) (first_cast start) → Stands 0 (first_cast start)
    first_stands runs = record {
      settled = record {
        each = λ i y there. let found = walker_there start 0 i i start.paths y (omega arith) there in
            subst (λ (z : Walker Carried). IsSettled z.path) (sym found.2)
            (settled_settled start_of_turn (with_agenda start_of_turn (waiting_path (path_begins start i found.0) start.lines)));
      };
      told_a = first_tells A start.file_a;
      told_b = first_tells B start.file_b;
      round = record {
        s = first_lane a;
        v = first_lane b;
        tick = k.rto;
        tick_back = j.rto;
        going = first_going k ranges a wide;
        going_back = first_going j others b wide_back;
        past = tt;
        ends = λ u x there back link syn. ((there, back, link, syn), first_rounds k ranges a u wide there, first_rounds j others b x wide_back back);
        runs = runs;
      };
    }

    -- ---- turns

    -- this number of rounds has ended in the world after some turns
    pub record After (n : ℕ) (w : WorldState Carried) : Type 0 where
      pub count : ℕ
      pub is : count ≡ n
      pub has : Has start (Stands count) w

    with_over : (n : ℕ) (w : WorldState Carried) → all_over w.crew ≡ true → Has start (Stands n) w
        → Has start (λ t. Stands n t × (all_over (world_of t).crew ≡ true)) w
    with_over n w over h = record {
      cast = h.cast;
      is = h.is;
      fare = h.fare;
      holds = (h.holds, subst (λ (u : WorldState Carried). all_over u.crew ≡ true) h.is over);
    }

    ends_round : (n : ℕ) (w : WorldState Carried) → all_over w.crew ≡ true → Has start (Stands n) w → Has start (Stands (suc n)) (end_round w)
    ends_round n w over h =
        ended_has start (λ t. Stands n t × (all_over (world_of t).crew ≡ true)) (Stands (suc n)) (λ t f p. stands_next n t p.0 p.1) w over
        (with_over n w over h)

    onward : (turns : List Turn) (n : ℕ) (w : WorldState Carried) → AreLawful values turns w → Has start (Stands n) w
        → After (n + rounds_in turns) (world_run values turns w)
    onward [] n w lawful h = record { count = n; is = omega arith; has = h }
    onward (Turn.Step actor ∷ turns) n w lawful h =
        onward turns n (world_step values actor w) lawful.1 (steps_have values start (Stands n) (stands_on n) (actor ∷ []) w h)
    onward (Turn.Round ∷ turns) n w lawful h =
        let more = onward turns (suc n) (end_round w) lawful.1 (ends_round n w lawful.0 h) in
        record { count = more.count; is = omega (arith, more.is); has = more.has }

    pub all_turns : Running start plan k j (first_lane a) (first_lane b) (first_cast start) → (turns : List Turn)
        → AreLawful values turns (opened_world start) → After (rounds_in turns) (world_run values turns (opened_world start))
    all_turns first turns lawful =
        let came = onward turns 0 (opened_world start) lawful
        (record { cast = first_cast start; is = opened_is start; fare = first_fare start; holds = first_stands first }) in
        record { count = came.count; is = omega (arith, came.is); has = came.has }

    -- ---- both readers are told

    -- where the lanes of the rounds that ended were told both ends
    pub record BothTold (t : Cast Carried) : Type 0 where
      pub told_a : t.a.told ≡ true
      pub told_b : t.b.told ≡ true

    pub both_told : (n : ℕ) (t : Cast Carried) → Stands (suc n) t
        → ((u x : Lane) → Course k j a b n u x → (1 ≤ u.told_end) × (1 ≤ x.told_end)) → BothTold t
    both_told n t h told =
        let r = h.round.runs in
        let past = h.round.past in
        let ends = told past.0 past.1 past.2 in
        let now = all_moves_going k h.round.s h.round.tick r.going.count all_left h.round.s r.stage r.out r.going.moves h.round.going in
        let now_back = all_moves_going j h.round.v h.round.tick_back r.going_back.count all_left h.round.v r.stage_back r.back r.going_back.moves h.round.going_back in
        record {
          told_a = told_by r.back.told_end t.a.told r.apps_back.reads.numbers.end (up ends.1 past.4 now_back.since.told_end);
          told_b = told_by r.out.told_end t.b.told r.apps.reads.numbers.end (up ends.0 past.3 now.since.told_end);
        }
      where
        up : {x y z : ℕ} → 1 ≤ x → x ≤ y → y ≤ z → 1 ≤ z
        up some one two = omega (arith, some, one, two)
