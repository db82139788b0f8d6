-- The next event of a turn is answered: the copy that is first on its way arrives.
use Rattle.clean_finish.proofs.Words.{◌≡◌, refl, sym, subst, ap, ◌∙◌, ℕ, ◌<◌, Bool, true, false, Option, None, List, [], ◌∷◌, Some, is_some, both_ways, Side, A}
use Rattle.clean_finish.proofs.Words.{B, Flight, due_of, Duty, StepDuty, rest_of_turn, SixBooks, reply_of, after_ask, AppState, Carried, values, copy_taken}
use Rattle.clean_finish.proofs.Words.{PathState, with_agenda, path_of, next_event, step_for, happens_if, Setting, Lane, all_left, Going, PathPlan, Start, Sent}
use Rattle.clean_finish.proofs.Words.{Keys, Brings, OpensSubflow, IsSetting, Runs, keys_in}
use Rattle.path_core.specs.declared.events.Event.{Event}
use Rattle.clean_finish.specs.Segments.{is_opening}
use Rattle.clean_finish.proofs.AnswerComes.{answer_comes}
use Rattle.clean_finish.proofs.ArrivesAtA.{first as first_a}
use Rattle.clean_finish.proofs.ArrivesAtB.{first as first_b}
use Rattle.clean_finish.proofs.CopyComesToA.{copy_comes as copy_comes_a}
use Rattle.clean_finish.proofs.CopyComesToB.{copy_comes as copy_comes_b}
use Rattle.clean_finish.proofs.NextCopy.{next_is_copy}
use Rattle.clean_finish.proofs.SynComes.{syn_comes}
use Rattle.clean_finish.proofs.TimersLate.{timer_late}
use Rattle.clean_finish.proofs.Turned.{from_a}

opening_is : (b : Brings) → is_opening b ≡ true → b ≡ OpensSubflow
opening_is OpensSubflow e = refl
opening_is _ e = absurd (both_ways _ refl e)

abbrev to_a : Flight Carried → Flight Carried
to_a f = record f { to = A }

abbrev to_b : Flight Carried → Flight Carried
to_b f = record f { to = B }

to_a_is : (f : Flight Carried) → f.to ≡ A → f ≡ to_a f
to_a_is f is = ap (λ (q : Side). record f { to = q }) is

to_b_is : (f : Flight Carried) → f.to ≡ B → f ≡ to_b f
to_b_is f is = ap (λ (q : Side). record f { to = q }) is

module _ (start : Start) (plan : PathPlan) (k j : Setting) (s v : Lane) (t0 u0 : ℕ)
    (going : Going k s t0 all_left s) (going_back : Going j v u0 all_left v)
  where
    abbrev keys : Keys
    keys = keys_in start

    module _ (a b : AppState) (books : SixBooks) (p : PathState Carried)
        (k_is : IsSetting p.profile plan.delay k) (j_is : IsSetting p.profile plan.delay j)
      where
        abbrev Relation : PathState Carried → Type 0
        Relation q = Runs start plan k j s v a b books q

        abbrev at_link : List (Flight Carried) → PathState Carried
        at_link fs = record p { link = record p.link { under_way = fs }; agenda = rest_of_turn }

        module _ (f : Flight Carried) (others : List (Flight Carried)) where
          -- at A
          goes_to_a : p.link.under_way ≡ to_a f ∷ others → f.tick < p.until → Relation (with_agenda rest_of_turn p)
              → Relation (copy_taken values (due_of (to_a f)) (with_agenda rest_of_turn p))
          goes_to_a under early h =
              subst (λ (fs : List (Flight Carried)). Relation (copy_taken values (due_of (to_a f)) (at_link fs))) (sym under) taken
            where
              stands : Relation (at_link (to_a f ∷ others))
              stands = subst (λ (fs : List (Flight Carried)). Relation (at_link fs)) under h

              x : Sent
              x = (first_a start plan k j s v t0 u0 going going_back a b books p f others k_is j_is stands early).x

              by : (opens : Bool) → is_opening x.brings ≡ opens → Relation (copy_taken values (due_of (to_a f)) (at_link (to_a f ∷ others)))
              by true is = answer_comes start plan k j s v t0 u0 going going_back a b books p f others k_is j_is stands early (opening_is x.brings is)
              by false is = copy_comes_a start plan k j s v t0 u0 going going_back a b books p f others k_is j_is stands early is

              taken : Relation (copy_taken values (due_of (to_a f)) (at_link (to_a f ∷ others)))
              taken = by (is_opening x.brings) refl

          -- at B
          goes_to_b : p.link.under_way ≡ to_b f ∷ others → f.tick < p.until → Relation (with_agenda rest_of_turn p)
              → Relation (copy_taken values (due_of (to_b f)) (with_agenda rest_of_turn p))
          goes_to_b under early h =
              subst (λ (fs : List (Flight Carried)). Relation (copy_taken values (due_of (to_b f)) (at_link fs))) (sym under) taken
            where
              stands : Relation (at_link (to_b f ∷ others))
              stands = subst (λ (fs : List (Flight Carried)). Relation (at_link fs)) under h

              x : Sent
              x = (first_b start plan k j s v t0 u0 going going_back a b books p f others k_is j_is stands early).x

              by : (opens : Bool) → is_opening x.brings ≡ opens → Relation (copy_taken values (due_of (to_b f)) (at_link (to_b f ∷ others)))
              by true is = syn_comes start plan k j s v t0 u0 going going_back a b books p f others k_is j_is stands early (opening_is x.brings is)
              by false is = copy_comes_b start plan k j s v t0 u0 going going_back a b books p f others k_is j_is stands early is

              taken : Relation (copy_taken values (due_of (to_b f)) (at_link (to_b f ∷ others)))
              taken = by (is_opening x.brings) refl

          arrives : (to : Side) → f.to ≡ to → p.link.under_way ≡ f ∷ others → f.tick < p.until → Relation (with_agenda rest_of_turn p)
              → Relation (copy_taken values (due_of f) (with_agenda rest_of_turn p))
          arrives A is under early h =
              subst (λ (g : Flight Carried). Relation (copy_taken values (due_of g) (with_agenda rest_of_turn p))) (sym (to_a_is f is))
              (goes_to_a (under ∙ ap (λ (g : Flight Carried). g ∷ others) (to_a_is f is)) early h)
          arrives B is under early h =
              subst (λ (g : Flight Carried). Relation (copy_taken values (due_of g) (with_agenda rest_of_turn p))) (sym (to_b_is f is))
              (goes_to_b (under ∙ ap (λ (g : Flight Carried). g ∷ others) (to_b_is f is)) early h)

        abbrev Answered : List Duty → Option Event → Type 0
        Answered ds o =
            let ask = step_for (path_of p) o in
            Runs start plan k j s v a b (after_ask ask books) (happens_if values o (reply_of books ask) (with_agenda ((Duty.Step StepDuty.Events) ∷ ds) p))

        happens : Relation (with_agenda rest_of_turn p) → (o : Option Event) → next_event p ≡ o → is_some o ≡ true → Answered (Duty.End ∷ []) o
        happens h None is some = absurd (both_ways _ refl some)
        happens h (Some event) is some =
            let copy = next_is_copy p event h.path.joined h.path.lines
            (timer_late plan.delay t0 u0 k_is j_is going going_back h.faces)
            (timer_late plan.delay u0 t0 j_is k_is going_back going (from_a keys k j s v a b books (with_agenda rest_of_turn p) h.faces)) is in
            subst (λ (e : Event). Answered (Duty.End ∷ []) (Some e)) (sym copy.is)
            (arrives copy.first copy.others copy.first.to refl copy.under_way copy.early h)

        pub answers_events : (ds : List Duty) → is_some (next_event p) ≡ true → Relation (with_agenda ((Duty.Step StepDuty.Events) ∷ ds) p) → Answered ds (next_event p)
        answers_events ds some h =
            subst (λ (es : List Duty). Answered es (next_event p)) (sym h.treats.4)
            (happens (subst (λ (es : List Duty). Relation (with_agenda ((Duty.Step StepDuty.Events) ∷ es) p)) h.treats.4 h) (next_event p) refl some)
