-- A kind of duty that no other one tells, and by which no end breaks, leaves or is stopped, is laid out by events alone.
use Rattle.std.proofs.Common.{◌≡◌, refl, ℕ, Bool, true, false, List, ◌∷◌}
use Rattle.std.specs.List.{list_any}
use Rattle.std.proofs.lemmas.Bool.{or_from, or_parts}
use Rattle.sides.specs.declared.side.Side.{Side}
use Rattle.path_agenda.specs.Agenda.{breaks, leaves, resets, stops}
use Rattle.path_agenda.specs.declared.duty.Duty.{Duty}
use Rattle.path_agenda.specs.declared.duty.Duty.TheVariants as duties
use Rattle.path_agenda.specs.declared.duty.AskDuty.TheVariants as ask_duties
use Rattle.whole_paths.specs.AgendaSteps.{Follows, is_told}
use Rattle.whole_paths.specs.AgendaSteps.{Follows as follows}

module _ (test : Duty → Bool) (told : (e : Duty) → is_told e ≡ true → test e ≡ false) (leaving : (s : Side) → test (duties.Ask (ask_duties.Leave s)) ≡ false) (dying : (s : Side) → test (duties.Ask (ask_duties.Dead s)) ≡ false)
    (breaking : (s : Side) (reason : ℕ) → list_any test (breaks s reason) ≡ false) (resetting : (s : Side) (reason : ℕ) → list_any test (resets s reason) ≡ false) (left : (s : Side) → list_any test (leaves s) ≡ false)
    (stopping : (s : Side) → list_any test (stops s) ≡ false) where
  pub follow_none : (s : Side) (gone : Bool) (d : Duty) (ds es : List Duty) → Follows s gone d ds es → list_any test (d ∷ ds) ≡ false → list_any test es ≡ false
  follow_none s gone d ds es follows.goes_on none = (or_parts (test d) (list_any test ds) none).1
  follow_none s gone d ds es follows.again none = none
  follow_none s gone d ds es (follows.told treats e own other named silent) none = or_from (test e) (list_any test ds) (told e named) (or_parts (test d) (list_any test ds) none).1
  follow_none s gone d ds es (follows.left dead) none = or_from (test (duties.Ask (ask_duties.Leave s))) (list_any test ds) (leaving s) (or_parts (test d) (list_any test ds) none).1
  follow_none s gone d ds es follows.noted none = or_from (test (duties.Ask (ask_duties.Dead s))) (list_any test ds) (dying s) (or_parts (test d) (list_any test ds) none).1
  follow_none s gone d ds es (follows.broken may reason) none = breaking s reason
  follow_none s gone d ds es (follows.is_reset may reason) none = resetting s reason
  follow_none s gone d ds es (follows.dead may dead) none = left s
  follow_none s gone d ds es (follows.stopped may) none = stopping s
  follow_none s gone d ds es (follows.over both) none = refl
