-- Where exchanges go on, it is over once there were rounds enough for all news and for each segment that is harmed.
use Rattle.std.proofs.Common.{◌≡◌, refl, sym, subst, ap, ℕ, suc, ◌+◌, ◌*◌, ◌<◌, ◌≤◌, arith, true, Some, IfSome, List, [], ◌∷◌, ◌++◌}
use Rattle.std.specs.List.{slice_get}
use Rattle.std.proofs.lemmas.List.{append-nil, append_assoc}
use Rattle.sides.specs.declared.side.Side.{Side}
use Rattle.sides.specs.declared.side.Side.TheVariants.{A, B}
use Rattle.path_core.specs.Codec.{Codec}
use Rattle.path_core.specs.State.{PathState, end_at}
use Rattle.world_laws.specs.declared.member.Member.TheVariants.{Path}
use Rattle.world_laws.specs.Actors.{ActorCrew, is_over}
use Rattle.world_laws.specs.Members.{HoldsOfKind}
use Rattle.world_laws.specs.Openings.{Start, opened_world}
use Rattle.world_laws.specs.RoundDone.{EndsAt, RoundState, first_round, next_round, reached, round_after, round_by, round_of}
use Rattle.world_laws.specs.Worlds.{WorldState, Turn, all_over, after_turn, world_run, AreLawful}
use Rattle.world_laws.proofs.Rounds.DoneByTheEnd.{rounds_end_on_time}
use Rattle.world_laws.proofs.Rounds.Lifting.{all_over_each}
use Rattle.world_laws.proofs.Weaving.WholeRounds.{run_append}
use Rattle.whole_paths.specs.Courses.{harmed_so_far, counted, round_end, TakesAStep, BeginsARound, course_of, Exchanges, ExchangesEnd}
use Rattle.whole_paths.specs.Finish.{harmed, rounds_in}
use Rattle.whole_paths.specs.InTime.{ComesFrom}
use Rattle.whole_paths.specs.News.{news, most_news}
use Rattle.whole_paths.specs.PaidCourses.{PaidExchanges, PaidExchangesEnd}
use Rattle.whole_paths.specs.PaidRounds.{PaysItsWay}
use Rattle.whole_paths.specs.Rounds.{Course, Drives, System, ticks_for}
use Rattle.whole_paths.specs.Rounds.Course.{stays, steps, opens}
use Rattle.whole_paths.proofs.InTime.{nil_so, nothing_is_overdue}
use Rattle.whole_paths.proofs.News.{news_never_falls}
use Rattle.whole_paths.proofs.PaidRounds.{what_is_paid_comes}
use Rattle.whole_paths.proofs.Rounds.{what_is_awaited_comes}

module _ {C : Type 0} (k : Codec C) where
  round_append : (ts us : List Turn) (w : WorldState C) (r : RoundState C) → round_after k (ts ++ us) w r ≡ round_after k us (world_run k ts w) (round_after k ts w r)
  round_append [] us w r = refl
  round_append (t ∷ ts) us w r = round_append ts us (after_turn k t w) (round_by t w r)

  pub harmed_append : (number : ℕ) (ts us : List Turn) (w : WorldState C) → harmed k number ts w ≤ harmed k number (ts ++ us) w
  harmed_append number [] us w = omega arith
  harmed_append number (t ∷ ts) us w = let rest = harmed_append number ts us (after_turn k t w) in omega (arith, rest)

  module _ (start : Start) where
    abbrev at : List Turn → WorldState C
    at turns = reached k start turns

    -- one more turn
    pub round_step : (turns : List Turn) (actor : ℕ) → round_end k start (turns ++ Turn.Step actor ∷ []) ≡ round_end k start turns
    round_step turns actor = ap (λ (r : RoundState C). 100 * (r.number + 1)) (round_append turns (Turn.Step actor ∷ []) (opened_world start) (first_round start))

    pub round_next : (turns : List Turn) → all_over (at turns).crew ≡ true → round_end k start (turns ++ Turn.Round ∷ []) ≡ round_end k start turns + 100
    round_next turns over =
        let is = ap (λ (r : RoundState C). r.number) (round_append turns (Turn.Round ∷ []) (opened_world start) (first_round start)) in
        let next = one_more (at turns) (round_of k start turns) over in omega (arith, is, next)
      where
        one_more : (w : WorldState C) (r : RoundState C) → all_over w.crew ≡ true → (next_round w r).number ≡ r.number + 1
        one_more w r over = rw over refl

    pub counted_up : (turns more : List Turn) → counted k start turns ≤ counted k start (turns ++ more)
    counted_up turns more =
        let up : news start (at turns) ≤ news start (at (turns ++ more)) = subst (λ (w : WorldState C). news start (at turns) ≤ news start w) (sym (run_append k turns more (opened_world start))) (news_never_falls k start turns more) in
        let harms = harmed_append 0 turns more (opened_world start) in omega (arith, up, harms)

    module _ (Holds : List Turn → Type 0) (most : ℕ) (Over : List Turn → Type 0) (Waits : ℕ → ℕ → List Turn → Type 0) where
      abbrev system : System
      system = course_of k start Holds most Over Waits

      abbrev HoldAlong : List Turn → List Turn → Type 0
      HoldAlong before more = (ts us : List Turn) → ts ++ us ≡ more → Holds (before ++ ts)

      holds_now : (before more : List Turn) → HoldAlong before more → Holds before
      holds_now before more hold = subst Holds (append-nil before) (hold [] more refl)

      hold_next : (before more : List Turn) (turn : Turn) → HoldAlong before (turn ∷ more) → HoldAlong (before ++ turn ∷ []) more
      hold_next before more turn hold ts us is = subst Holds (sym (append_assoc before (turn ∷ []) ts)) (hold (turn ∷ ts) us (ap (λ (xs : List Turn). turn ∷ xs) is))

      -- lawful turns are a course
      course_on : (first before more : List Turn) (n : ℕ) → Course system first n before → AreLawful k more (at before) → HoldAlong before more → harmed_so_far k start (before ++ more) ≤ most
          → Course system first (n + rounds_in more) (before ++ more)
      course_on first before [] n course lawful hold low =
          subst (λ ts. Course system first (n + 0) ts) (sym (append-nil before)) (subst (λ m. Course system first m before) (omega arith) course)
      course_on first before (Turn.Step actor ∷ more) n course lawful hold low =
          let now : List Turn = before ++ Turn.Step actor ∷ [] in
          let whole : now ++ more ≡ before ++ Turn.Step actor ∷ more = append_assoc before (Turn.Step actor ∷ []) more in
          let low_now : harmed_so_far k start (now ++ more) ≤ most = subst (λ ts. harmed_so_far k start ts ≤ most) (sym whole) low in
          let fewer = harmed_append 0 now more (opened_world start) in
          let then_hold = hold_next before more (Turn.Step actor) hold in
          let step : TakesAStep k start Holds most before now =
          record { actor = actor; is = refl; few = omega (arith, fewer, low_now); before = holds_now before (Turn.Step actor ∷ more) hold; after = holds_now now more then_hold } in
          subst (λ ts. Course system first (n + rounds_in more) ts) whole
          (course_on first now more n (steps n before now course step) (subst (AreLawful k more) (sym (run_append k before (Turn.Step actor ∷ []) (opened_world start))) lawful.1) then_hold low_now)
      course_on first before (Turn.Round ∷ more) n course lawful hold low =
          let now : List Turn = before ++ Turn.Round ∷ [] in
          let whole : now ++ more ≡ before ++ Turn.Round ∷ more = append_assoc before (Turn.Round ∷ []) more in
          let low_now : harmed_so_far k start (now ++ more) ≤ most = subst (λ ts. harmed_so_far k start ts ≤ most) (sym whole) low in
          let fewer = harmed_append 0 now more (opened_world start) in
          let then_hold = hold_next before more Turn.Round hold in
          let step : BeginsARound k start Holds most before now =
          record { over = lawful.0; is = refl; few = omega (arith, fewer, low_now); before = holds_now before (Turn.Round ∷ more) hold; after = holds_now now more then_hold } in
          subst (λ ts. Course system first (n + suc (rounds_in more)) ts) whole
          (subst (λ m. Course system first m (now ++ more)) (omega arith)
          (course_on first now more (suc n) (opens n before now course step) (subst (AreLawful k more) (sym (run_append k before (Turn.Round ∷ []) (opened_world start))) lawful.1) then_hold low_now))

      -- ---- where news pay

      module _ (within : ℕ) (x : Exchanges k start Holds most within Over Waits) (few : (turns : List Turn) → news start (at turns) ≤ most_news start) where
        drives : Drives system (most_news start + most) within
        drives = record {
          sound_on = λ v u sound step. step.few;
          sound_next = λ v u sound step. step.few;
          until_on = λ v u sound step. subst (λ t. round_end k start t ≡ round_end k start v) (sym step.is) (round_step v step.actor);
          until_next = λ v u sound step. subst (λ t. round_end k start t ≡ round_end k start v + 100) (sym step.is) (round_next v step.over);
          news_on = λ v u sound step. subst (λ t. counted k start v ≤ counted k start t) (sym step.is) (counted_up v (Turn.Step step.actor ∷ []));
          news_next = λ v u sound step. subst (λ t. counted k start v ≤ counted k start t) (sym step.is) (counted_up v (Turn.Round ∷ []));
          over_on = λ v u sound step. x.over_on v u step;
          over_next = λ v u sound step. x.over_next v u step;
          few = λ v sound. (let low = few v in omega (arith, low, sound));
          waits_on = λ n t v u sound step. x.waits_on n t v u step;
          waits_next = λ n t v u sound step. x.waits_next n t v u step;
          due = λ n t v u sound step. x.due n t v u step;
          begins = λ v u sound step. x.begins v u step;
        }

        ends_so : (before more : List Turn) → AreLawful k more (at before) → HoldAlong before more → harmed_so_far k start (before ++ more) ≤ most
            → ticks_for within (suc (most_news start + most)) < 100 * rounds_in more → Over (before ++ more)
        ends_so before more lawful hold low enough =
            let course : Course system before (0 + rounds_in more) (before ++ more) = course_on before before more 0 stays lawful hold low in
            let fewer = harmed_append 0 before more (opened_world start) in
            what_is_awaited_comes system (most_news start + most) within (100 * (round_of k start before).number) drives before (omega (arith, fewer, low)) (omega arith) (rounds_in more) (before ++ more)
            (subst (λ m. Course system before m (before ++ more)) (omega arith) course) enough

      -- ---- where waits are paid

      module _ (most_paid : ℕ) (Pays : ℕ → List Turn → Type 0) (x : PaidExchanges k start Holds most most_paid Over Pays Waits) where
        pays_its_way : PaysItsWay system Pays most_paid
        pays_its_way = record {
          sound_on = λ v u sound step. step.few;
          sound_next = λ v u sound step. step.few;
          until_on = λ v u sound step. subst (λ t. round_end k start t ≡ round_end k start v) (sym step.is) (round_step v step.actor);
          until_next = λ v u sound step. subst (λ t. round_end k start t ≡ round_end k start v + 100) (sym step.is) (round_next v step.over);
          pays_on = λ n v u sound step. x.pays_on n v u step;
          pays_next = λ n v u sound step. x.pays_next n v u step;
          over_on = λ v u sound step. x.over_on v u step;
          over_next = λ v u sound step. x.over_next v u step;
          few = λ n v sound paid. x.few n v sound paid;
          waits_on = λ n t v u sound step. x.waits_on n t v u step;
          waits_next = λ n t v u sound step. x.waits_next n t v u step;
          due = λ n t v u sound step. x.due n t v u step;
          begins = λ n v u sound step. x.begins n v u step;
        }

        paid_so : (before more : List Turn) → Pays 0 before → AreLawful k more (at before) → HoldAlong before more → harmed_so_far k start (before ++ more) ≤ most
            → most_paid < 100 * rounds_in more → Over (before ++ more)
        paid_so before more none lawful hold low enough =
            let course : Course system before (0 + rounds_in more) (before ++ more) = course_on before before more 0 stays lawful hold low in
            let fewer = harmed_append 0 before more (opened_world start) in
            what_is_paid_comes system Pays most_paid pays_its_way before (omega (arith, fewer, low)) none (rounds_in more) (before ++ more)
            (subst (λ m. Course system before m (before ++ more)) (omega arith) course) enough

    -- after rounds enough it is over
    pub exchanges_end : ExchangesEnd k start
    exchanges_end Holds most within Over Waits x few before more = ends_so Holds most Over Waits within x few before more

    pub paid_exchanges_end : (Holds : List Turn → Type 0) (most : ℕ) → PaidExchangesEnd k start Holds most
    paid_exchanges_end Holds most most_paid Over Pays Waits x before more = paid_so Holds most Over Waits most_paid Pays x before more

-- ---- where a round ends

-- all that waits on a path does so until its round's end or later
pub all_comes_later : {C : Type 0} (k : Codec C) (start : Start) (turns : List Turn) (actor : ℕ) (c : ActorCrew C) (p : PathState C) → all_over (reached k start turns).crew ≡ true
    → slice_get (reached k start turns).crew actor ≡ Some c → c.member ≡ Path p → ComesFrom (round_end k start turns) p
all_comes_later {C} k start turns actor c p over there is =
    let crew = (reached k start turns).crew in
    let later : p.agenda ≡ [] → ComesFrom p.until p = subst (HoldsOfKind (λ app. Unit {0}) (λ (p : PathState C). p.agenda ≡ [] → ComesFrom p.until p)) is ((nothing_is_overdue k start turns).over actor c there) in
    let ended : is_over (Path p) ≡ true = subst (λ m. is_over m ≡ true) is (all_over_each crew actor c over there) in
    let until : p.until ≡ round_end k start turns = subst (EndsAt (round_end k start turns)) is ((rounds_end_on_time k start turns).each actor c there) in
    subst (λ n. ComesFrom n p) until (later (nil_so p.agenda ended))

-- a timer that runs as a round is over runs to the round's end or later
pub no_timer_is_late : {C : Type 0} (k : Codec C) (start : Start) (turns : List Turn) (actor : ℕ) (c : ActorCrew C) (p : PathState C) (s : Side) (tick : ℕ)
    → all_over (reached k start turns).crew ≡ true → slice_get (reached k start turns).crew actor ≡ Some c → c.member ≡ Path p
    → (end_at s p).tcp.timing.timer ≡ Some tick → round_end k start turns ≤ tick
no_timer_is_late k start turns actor c p s tick over there is runs = subst (λ o. IfSome o (λ t. round_end k start turns ≤ t)) runs (of_side s)
  where
    all : ComesFrom (round_end k start turns) p
    all = all_comes_later k start turns actor c p over there is

    of_side : (s : Side) → IfSome (end_at s p).tcp.timing.timer (λ t. round_end k start turns ≤ t)
    of_side = elim [ A ↦ all.timer_a | B ↦ all.timer_b ]
