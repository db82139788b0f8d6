-- Lawful turns are a course, whatever is counted.
use Rattle.std.proofs.Common.{◌≡◌, refl, sym, subst, ap, ℕ, suc, ◌+◌, ◌*◌, ◌<◌, ◌≤◌, arith, List, [], ◌∷◌, ◌++◌}
use Rattle.std.proofs.lemmas.List.{append-nil, append_assoc}
use Rattle.path_core.specs.Codec.{Codec}
use Rattle.path_core.specs.Values.{Carried, values}
use Rattle.world_laws.specs.Openings.{Start, opened_world}
use Rattle.world_laws.specs.RoundDone.{reached, round_of}
use Rattle.world_laws.specs.Worlds.{Turn, WorldState, AreLawful}
use Rattle.world_laws.proofs.Weaving.WholeRounds.{run_append}
use Rattle.whole_paths.specs.Courses.{round_end}
use Rattle.whole_paths.specs.CountedCourses.{CountedCoursesEnd, NeverFalls, PathsAreCounted, RoundsOn, StepsOn, WaitsByCount, counted_course, harms_at}
use Rattle.whole_paths.specs.Finish.{rounds_in}
use Rattle.whole_paths.specs.ReturnWaits.{all_news}
use Rattle.whole_paths.specs.Rounds.{Course, Drives, System, ticks_for}
use Rattle.whole_paths.specs.Rounds.Course.{opens, stays, steps}
use Rattle.whole_paths.proofs.Courses.{harmed_append, round_next, round_step}
use Rattle.whole_paths.proofs.ReturnWaits.{all_news_is_bounded, all_news_never_falls}
use Rattle.whole_paths.proofs.Rounds.{what_is_awaited_comes}

module _ {C : Type 0} (k : Codec C) (start : Start) (harms count : List Turn → ℕ) (Holds : List Turn → Type 0) (most : ℕ) (Over : List Turn → Type 0) (Waits : ℕ → ℕ → List Turn → Type 0)
    (harms_up : NeverFalls harms) where
  abbrev pub system : System
  system = counted_course k start harms count Holds most Over Waits

  abbrev pub HoldAlong : List Turn → List Turn → Type 0
  HoldAlong before more = (ts us : List Turn) → ts ++ us ≡ more → Holds (before ++ ts)

  holds_now : (before more : List Turn) → HoldAlong before more → Holds before
  holds_now before more hold = subst Holds (append-nil before) (hold [] more refl)

  hold_next : (before more : List Turn) (turn : Turn) → HoldAlong before (turn ∷ more) → HoldAlong (before ++ turn ∷ []) more
  hold_next before more turn hold ts us is = subst Holds (sym (append_assoc before (turn ∷ []) ts)) (hold (turn ∷ ts) us (ap (λ (xs : List Turn). turn ∷ xs) is))

  few_now : (before more : List Turn) (turn : Turn) → harms (before ++ turn ∷ more) ≤ most → harms ((before ++ turn ∷ []) ++ more) ≤ most
  few_now before more turn low = subst (λ ts. harms ts ≤ most) (sym (append_assoc before (turn ∷ []) more)) low

  pub course_on : (first before more : List Turn) (n : ℕ) → Course system first n before → AreLawful k more (reached k start before) → HoldAlong before more → harms (before ++ more) ≤ most
      → Course system first (n + rounds_in more) (before ++ more)
  course_on first before [] n course lawful hold low = subst (λ ts. Course system first (n + 0) ts) (sym (append-nil before)) (subst (λ m. Course system first m before) (omega arith) course)
  course_on first before (Turn.Step actor ∷ more) n course lawful hold low =
      let now : List Turn = before ++ Turn.Step actor ∷ [] in
      let low_now = few_now before more (Turn.Step actor) low in let fewer = harms_up now more in
      let then_hold = hold_next before more (Turn.Step actor) hold in
      let step : StepsOn k start harms count Holds most before now =
      record { actor = actor; is = refl; few = omega (arith, fewer, low_now); before = holds_now before (Turn.Step actor ∷ more) hold; after = holds_now now more then_hold } in
      subst (λ ts. Course system first (n + rounds_in more) ts) (append_assoc before (Turn.Step actor ∷ []) more)
      (course_on first now more (n) (steps n before now course step) (subst (AreLawful k more) (sym (run_append k before (Turn.Step actor ∷ []) (opened_world start))) lawful.1) then_hold low_now)
  course_on first before (Turn.Round ∷ more) n course lawful hold low =
      let now : List Turn = before ++ Turn.Round ∷ [] in
      let low_now = few_now before more Turn.Round low in let fewer = harms_up now more in
      let then_hold = hold_next before more Turn.Round hold in
      let step : RoundsOn k start harms count Holds most before now =
      record { over = lawful.0; is = refl; few = omega (arith, fewer, low_now); before = holds_now before (Turn.Round ∷ more) hold; after = holds_now now more then_hold } in
      subst (λ ts. Course system first (n + suc (rounds_in more)) ts) (append_assoc before (Turn.Round ∷ []) more)
      (subst (λ m. Course system first m (now ++ more)) (omega arith)
      (course_on first now more (suc n) (opens n before now course step) (subst (AreLawful k more) (sym (run_append k before (Turn.Round ∷ []) (opened_world start))) lawful.1) then_hold low_now))

module _ {C : Type 0} (k : Codec C) (start : Start) (harms count : List Turn → ℕ) (Holds : List Turn → Type 0) (most within bound : ℕ) (Over : List Turn → Type 0) (Waits : ℕ → ℕ → List Turn → Type 0)
    (x : WaitsByCount k start harms count Holds most within Over Waits) (harms_up : NeverFalls harms) (count_up : NeverFalls count) (few : (turns : List Turn) → harms turns ≤ most → count turns ≤ bound) where
  abbrev counted : System
  counted = system k start harms count Holds most Over Waits harms_up

  drives : Drives counted bound within
  drives = record {
    sound_on = λ v u sound step. step.few;
    sound_next = λ v u sound step. step.few;
    until_on = λ v u sound step. subst (λ t. round_end k start t ≡ round_end k start v) (sym step.is) (round_step k start v step.actor);
    until_next = λ v u sound step. subst (λ t. round_end k start t ≡ round_end k start v + 100) (sym step.is) (round_next k start v step.over);
    news_on = λ v u sound step. subst (λ t. count v ≤ count t) (sym step.is) (count_up v (Turn.Step step.actor ∷ []));
    news_next = λ v u sound step. subst (λ t. count v ≤ count t) (sym step.is) (count_up v (Turn.Round ∷ []));
    over_on = λ v u sound step. x.over_on v u step;
    over_next = λ v u sound step. x.over_next v u step;
    few = λ v sound. few v sound;
    waits_on = λ n t v u sound step. x.waits_on n t v u step;
    waits_next = λ n t v u sound step. x.waits_next n t v u step;
    due = λ n t v u sound step. x.due n t v u step;
    begins = λ v u sound step. x.begins v u step;
  }

  ends_so : (before more : List Turn) → AreLawful k more (reached k start before) → HoldAlong k start harms count Holds most Over Waits harms_up before more → harms (before ++ more) ≤ most → ticks_for within (suc bound) < 100 * rounds_in more → Over (before ++ more)
  ends_so before more lawful hold low enough =
      let course : Course counted before (0 + rounds_in more) (before ++ more) = course_on k start harms count Holds most Over Waits harms_up before before more 0 stays lawful hold low in
      let fewer = harms_up before more in
      what_is_awaited_comes counted bound within (100 * (round_of k start before).number) drives before (omega (arith, fewer, low)) (omega arith) (rounds_in more) (before ++ more)
      (subst (λ m. Course counted before m (before ++ more)) (omega arith) course) enough

pub counted_courses_end : {C : Type 0} (k : Codec C) → CountedCoursesEnd k
counted_courses_end k start harms count Holds most within bound Over Waits x harms_up count_up few before more = ends_so k start harms count Holds most within bound Over Waits x harms_up count_up few before more

-- ---- over any number of paths

harms_never_fall : (start : Start) (number : ℕ) → NeverFalls (harms_at start number)
harms_never_fall start number turns more = harmed_append values number turns more (opened_world start)

pub paths_are_counted : PathsAreCounted
paths_are_counted start number plain fit = record {
  harms = harms_never_fall start number;
  counts = λ turns more.
      let up : all_news start (reached values start turns) ≤ all_news start (reached values start (turns ++ more))
      = subst (λ (u : WorldState Carried). all_news start (reached values start turns) ≤ all_news start u) (sym (run_append values turns more (opened_world start))) (all_news_never_falls start turns more) in
      let harms = harms_never_fall start number turns more in omega (arith, up, harms);
  few = λ most turns low. let all = all_news_is_bounded.bounded start turns plain fit in omega (arith, all, low);
}
