-- Clean scripts finish.
use Rattle.clean_finish.proofs.Words.{◌≡◌, refl, sym, subst, ap, ◌∙◌, ℕ, ◌+◌, ◌-◌, ◌≤◌, Bool, true, false, ◌&&◌, if◌then◌else◌, ◌⊎◌, inl, inr, List, [], ◌∷◌}
use Rattle.clean_finish.proofs.Words.{length, arith, Some, suc, zero, PathLine, Carried, values, Setting, first_lane, PathPlan, Start, path_begins}
use Rattle.clean_finish.proofs.Words.{opened_world, start_of, Cast, world_of, first_cast, outcome_of, WorldState, Turn, world_run, AreLawful, IsSetting}
use Rattle.clean_finish.proofs.Words.{Running, enough, rounds_in, OfCleanRuns, CleanScriptsFinish, CleanScriptsGoOn, setting_of}
use Rattle.link_script.specs.declared.script.Script.{Script}
use Rattle.link_script.specs.Scripts.{HasRanges}
use Rattle.path_core.specs.Octets.{octets}
use Rattle.world_laws.specs.declared.outcome.Outcome.{Outcome}
use Rattle.world_laws.specs.declared.outcome.Outcome.TheVariants.{Going, Delivered}
use Rattle.world_laws.specs.Fresh.{shown_world}
use Rattle.world_laws.proofs.Promises.OfScripts.{scripts_are_shown_of_values}
use Rattle.pace.proofs.Beginning.{first_going}
use Rattle.clean_finish.proofs.CourseGoes.{Stands, After, all_turns, both_told}
use Rattle.clean_finish.proofs.First.{first_running}
use Rattle.clean_finish.proofs.LanesFinish.{lanes_finish}
use Rattle.clean_finish.proofs.LawfulShown.{lawful_values, outcome_shown}
use Rattle.clean_finish.proofs.Onward.{DutiesGoOn}
use Rattle.clean_finish.proofs.Outcomes.{outcome}
use Rattle.clean_finish.proofs.Ranges.{bound_is}
use Rattle.clean_finish.proofs.ScriptStarts.{clean_is, clean_same, clean_script, clean_start, clean_plan, first_room, room, window_most, wide, two, setting_is, is_short}

going_or : (told : Bool) → ((if told then Delivered else Going) ≡ Going) ⊎ ((if told then Delivered else Going) ≡ Delivered)
going_or true = inr refl
going_or false = inl refl

-- the duties of a path keep the relation, with the numbers of every clean script
abbrev pub AllDutiesGoOn : Type 0
AllDutiesGoOn = (begun : Start) (opening : PathPlan) (k j : Setting)
    → IsSetting (path_begins begun 0 opening).profile opening.delay k → IsSetting (path_begins begun 0 opening).profile opening.delay j
    → DutiesGoOn begun opening k j

module _ (duties_go_on : AllDutiesGoOn) where
  module _ (script : Script) (path : PathLine) (file_a file_b : List ℕ) (rounds : ℕ) (turns : List Turn)
      (ranges : HasRanges (clean_script script path)) (told : enough (clean_script script path) (length file_a) (length file_b) ≡ Some rounds)
      (small_a : length file_a ≤ 16777216) (small_b : length file_b ≤ 16777216)
      (lawful : AreLawful octets turns (opened_world (clean_start script path file_a file_b)))
    where
      abbrev begun : Start
      begun = clean_start script path file_a file_b

      abbrev opening : PathPlan
      opening = clean_plan script path

      abbrev k : Setting
      k = setting_of path script.buffer (length file_a)

      abbrev j : Setting
      j = setting_of path script.buffer (length file_b)

      abbrev a : ℕ
      a = first_room path.mss

      here : IsSetting (path_begins begun 0 opening).profile opening.delay k
      here = setting_is script path ranges file_a file_b (length file_a) small_a

      there : IsSetting (path_begins begun 0 opening).profile opening.delay j
      there = setting_is script path ranges file_a file_b (length file_b) small_b

      is_wide : (path.mss - 28) + (path.mss - 28) ≤ a
      is_wide = wide script path ranges

      first : Running begun opening k j (first_lane a) (first_lane a) (first_cast begun)
      first = first_running begun opening k j a a k.rto j.rto refl refl refl refl (room script path ranges)
          (room script path ranges) (window_most script path ranges) refl refl
          (first_going k here.ranges a is_wide) (first_going j there.ranges a is_wide)

      shown : (some : List Turn) → world_run octets some (opened_world begun) ≡ shown_world (world_run values some (opened_world begun))
      shown some = (scripts_are_shown_of_values (clean_script script path) file_a file_b some
          (is_short script path ranges file_a file_b small_a small_b)).shown

      abbrev Stood : ℕ → Cast Carried → Type 0
      Stood n t = Stands begun opening k j a a is_wide is_wide here.ranges there.ranges small_a small_b (duties_go_on begun opening k j here there) n t

      after : After begun opening k j a a is_wide is_wide here.ranges there.ranges small_a small_b (duties_go_on begun opening k j here there)
          (rounds_in turns) (world_run values turns (opened_world begun))
      after = all_turns begun opening k j a a is_wide is_wide here.ranges there.ranges small_a small_b (duties_go_on begun opening k j here there)
          first turns (lawful_values begun shown turns lawful)

      outcome_by_cast : (t : Cast Carried) → Stood after.count t → outcome_of (world_of t).crew ≡ (if t.a.told && t.b.told then Delivered else Going)
      outcome_by_cast t h = outcome begun opening k j h.round.s h.round.v t h.round.runs h.told_a h.told_b

      outcome_now : outcome_of (world_run octets turns (opened_world begun)).crew
          ≡ (if after.has.cast.a.told && after.has.cast.b.told then Delivered else Going)
      outcome_now = ap (λ (w : WorldState (List ℕ)). outcome_of w.crew) (shown turns)
          ∙ outcome_shown (world_run values turns (opened_world begun))
          ∙ ap (λ (w : WorldState Carried). outcome_of w.crew) after.has.is
          ∙ outcome_by_cast after.has.cast after.has.holds

      pub goes_on : (outcome_of (world_run octets turns (opened_world begun)).crew ≡ Going)
          ⊎ (outcome_of (world_run octets turns (opened_world begun)).crew ≡ Delivered)
      goes_on = subst (λ (o : Outcome). (o ≡ Going) ⊎ (o ≡ Delivered)) (sym outcome_now)
          (going_or (after.has.cast.a.told && after.has.cast.b.told))

      is_told : (n : ℕ) (t : Cast Carried) → n ≡ rounds_in turns → rounds ≤ rounds_in turns → Stood n t → (t.a.told && t.b.told) ≡ true
      is_told zero t is long h =
          let bound = bound_is (path ∷ []) [] path (length file_a) (length file_b) rounds refl told in absurd (omega (arith, bound, is, long))
      is_told (suc n) t is long h =
          let both = both_told begun opening k j a a is_wide is_wide here.ranges there.ranges small_a small_b (duties_go_on begun opening k j here there) n t h
          (λ u x course. lanes_finish (clean_script script path) path (length file_a) (length file_b) rounds ranges refl told a a
          (two script path ranges) (two script path ranges) n
          (omega (arith, is, long)) u x course) in
          rw (both.told_a, both.told_b) refl

      pub finishes : rounds ≤ rounds_in turns → outcome_of (world_run octets turns (opened_world begun)).crew ≡ Delivered
      finishes long =
          outcome_now ∙ ap (λ (b : Bool). if b then Delivered else Going) (is_told after.count after.has.cast after.is long after.has.holds)

  -- a script for which a bound is told is one of one path and no line
  of_clean : (P : (rounds : ℕ) (turns : List Turn) (o : Outcome) → Type 0)
      → ((script : Script) (path : PathLine) (file_a file_b : List ℕ) (rounds : ℕ) (turns : List Turn) (ranges : HasRanges (clean_script script path))
      → enough (clean_script script path) (length file_a) (length file_b) ≡ Some rounds → length file_a ≤ 16777216 → length file_b ≤ 16777216
      → AreLawful octets turns (opened_world (start_of (clean_script script path) file_a file_b))
      → P rounds turns (outcome_of (world_run octets turns (opened_world (start_of (clean_script script path) file_a file_b))).crew))
      → OfCleanRuns P
  of_clean P cleanly script file_a file_b rounds turns ranges told small_a small_b lawful =
      let clean = clean_is script.paths script.lines (length file_a) (length file_b) rounds told in
      let same = clean_same script clean.path clean.one clean.none in
      subst (λ (s : Script). P rounds turns (outcome_of (world_run octets turns (opened_world (start_of s file_a file_b))).crew)) (sym same)
      (cleanly script clean.path file_a file_b rounds turns (subst HasRanges same ranges)
      (subst (λ (s : Script). enough s (length file_a) (length file_b) ≡ Some rounds) same told) small_a small_b
      (subst (λ (s : Script). AreLawful octets turns (opened_world (start_of s file_a file_b))) same lawful))

  pub clean_scripts_finish : CleanScriptsFinish
  clean_scripts_finish = of_clean (λ rounds turns o. rounds ≤ rounds_in turns → o ≡ Delivered)
      (λ script path file_a file_b rounds turns ranges told small_a small_b lawful.
      finishes script path file_a file_b rounds turns ranges told small_a small_b lawful)

  pub clean_scripts_go_on : CleanScriptsGoOn
  clean_scripts_go_on = of_clean (λ rounds turns o. (o ≡ Going) ⊎ (o ≡ Delivered))
      (λ script path file_a file_b rounds turns ranges told small_a small_b lawful.
      goes_on script path file_a file_b rounds turns ranges told small_a small_b lawful)
