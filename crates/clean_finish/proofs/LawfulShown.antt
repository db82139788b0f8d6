-- Over octets the same turns are lawful as over segments as values, and the outcome is the same.
use Rattle.clean_finish.proofs.Words.{◌≡◌, refl, sym, subst, ap, ◌∙◌, ℕ, Bool, not, ◌&&◌, List, [], ◌∷◌, ◌++◌, map, suc, zero, slice_get, A, B, Carried, values}
use Rattle.clean_finish.proofs.Words.{Start, opened_world, are_all_dead, is_no_live_path, notes_of, outcome_by, outcome_of, tells_abort, tells_end, was_told}
use Rattle.clean_finish.proofs.Words.{WorldState, Turn, all_over, world_run, AreLawful, IsLawfulTurn}
use Rattle.actor_desk.specs.declared.ask.Note.{Note}
use Rattle.path_core.specs.Octets.{octets}
use Rattle.world_laws.specs.declared.member.Member.TheVariants.{App, Path}
use Rattle.world_laws.specs.Actors.{Actor, ActorCrew, is_over}
use Rattle.world_laws.specs.Fresh.{shown_member, shown_crew, shown_world}
use Rattle.world_laws.specs.Worlds.{goes}
use Rattle.world_laws.proofs.Promises.OverOctets.{same_notes_of}
use Rattle.world_laws.proofs.Weaving.WholeRounds.{run_append}

over_shown : (m : Actor Carried) → is_over (shown_member m) ≡ is_over m
over_shown (App a) = refl
over_shown (Path p) = refl

all_shown : (crew : List (ActorCrew Carried)) → all_over (map shown_crew crew) ≡ all_over crew
all_shown [] = refl
all_shown (c ∷ crew) =
    ap (λ (b : Bool). b && all_over (map shown_crew crew)) (over_shown c.member) ∙ ap (λ (b : Bool). is_over c.member && b) (all_shown crew)

going_shown : (actor : ℕ) (crew : List (ActorCrew Carried)) → goes (slice_get (map shown_crew crew) actor) ≡ goes (slice_get crew actor)
going_shown actor [] = refl
going_shown zero (c ∷ crew) = ap not (over_shown c.member)
going_shown (suc actor) (c ∷ crew) = going_shown actor crew

turn_lawful : (turn : Turn) (w : WorldState Carried) → IsLawfulTurn turn (shown_world w) → IsLawfulTurn turn w
turn_lawful (Turn.Step actor) w is = sym (going_shown actor w.crew) ∙ is
turn_lawful Turn.Round w is = sym (all_shown w.crew) ∙ is

-- ---- the outcome

dead_shown : (m : Actor Carried) → is_no_live_path (shown_member m) ≡ is_no_live_path m
dead_shown (App a) = refl
dead_shown (Path p) = refl

all_dead_shown : (crew : List (ActorCrew Carried)) → are_all_dead (map shown_crew crew) ≡ are_all_dead crew
all_dead_shown [] = refl
all_dead_shown (c ∷ crew) =
    ap (λ (b : Bool). b && are_all_dead (map shown_crew crew)) (dead_shown c.member)
    ∙ ap (λ (b : Bool). is_no_live_path c.member && b) (all_dead_shown crew)

pub outcome_shown : (w : WorldState Carried) → outcome_of (shown_world w).crew ≡ outcome_of w.crew
outcome_shown w =
    ap (λ (notes : List Note). outcome_by (was_told tells_abort notes) (was_told tells_abort (notes_of B (shown_world w).crew))
    (was_told tells_end notes && was_told tells_end (notes_of B (shown_world w).crew)) (are_all_dead (shown_world w).crew)) (same_notes_of A w)
    ∙ ap (λ (notes : List Note). outcome_by (was_told tells_abort (notes_of A w.crew)) (was_told tells_abort notes)
    (was_told tells_end (notes_of A w.crew) && was_told tells_end notes) (are_all_dead (shown_world w).crew)) (same_notes_of B w)
    ∙ ap (λ (dead : Bool). outcome_by (was_told tells_abort (notes_of A w.crew)) (was_told tells_abort (notes_of B w.crew))
    (was_told tells_end (notes_of A w.crew) && was_told tells_end (notes_of B w.crew)) dead) (all_dead_shown w.crew)

-- ---- turns

module _ (start : Start) (same : (turns : List Turn) → world_run octets turns (opened_world start) ≡ shown_world (world_run values turns (opened_world start))) where
  lawful_from : (before turns : List Turn) → AreLawful octets turns (world_run octets before (opened_world start))
      → AreLawful values turns (world_run values before (opened_world start))
  lawful_from before [] lawful = tt
  lawful_from before (turn ∷ turns) lawful = (
    turn_lawful turn (world_run values before (opened_world start))
        (subst (λ (w : WorldState (List ℕ)). IsLawfulTurn turn w) (same before) lawful.0),
    subst (λ (w : WorldState Carried). AreLawful values turns w) (run_append values before (turn ∷ []) (opened_world start))
        (lawful_from (before ++ turn ∷ []) turns
        (subst (λ (w : WorldState (List ℕ)). AreLawful octets turns w) (sym (run_append octets before (turn ∷ []) (opened_world start))) lawful.1)),
  )

  pub lawful_values : (turns : List Turn) → AreLawful octets turns (opened_world start) → AreLawful values turns (opened_world start)
  lawful_values turns lawful = lawful_from [] turns lawful
