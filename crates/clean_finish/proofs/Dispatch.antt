-- All duties of a path over a clean link go on.
--
-- What is in hand is a recursion on the duty that stands first (`Treats`): no case is left to be shown impossible. Each
-- duty is a lemma from `Facing` to `Facing`, and one from `Runs` to `Runs` that adds the path, the link and what is in
-- hand.
use Rattle.clean_finish.proofs.Words.{sym, subst, Profile, Setting, PathPlan, Start, path_begins, IsSetting}
use Rattle.clean_finish.proofs.AnswersDuties.{duty_answered}
use Rattle.clean_finish.proofs.Onward.{DutiesGoOn}
use Rattle.clean_finish.proofs.PassesDuties.{duty_passes}

pub duties_go_on : (start : Start) (plan : PathPlan) (k j : Setting) → IsSetting (path_begins start 0 plan).profile plan.delay k
    → IsSetting (path_begins start 0 plan).profile plan.delay j → DutiesGoOn start plan k j
duties_go_on start plan k j k_is j_is = record {
  passes = λ s v t u going going_back a b books p d ds off h. duty_passes start plan k j s v t u going going_back a b books p
      (subst (λ (c : Profile). IsSetting c plan.delay k) (sym h.path.profile) k_is)
      (subst (λ (c : Profile). IsSetting c plan.delay j) (sym h.path.profile) j_is) d ds off h;
  answering = λ s v t u going going_back a b books p d ds on h. duty_answered start plan k j s v t u going going_back a b books p
      (subst (λ (c : Profile). IsSetting c plan.delay k) (sym h.path.profile) k_is)
      (subst (λ (c : Profile). IsSetting c plan.delay j) (sym h.path.profile) j_is) d ds on h;
}
