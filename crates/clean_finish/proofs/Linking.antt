-- A segment that is handed to a link on which nothing happens: it comes last on its way, and the other way stays.
use Rattle.clean_finish.proofs.Words.{◌≡◌, refl, sym, subst, ap, ◌∙◌, ℕ, ◌+◌, false, List, [], ◌∷◌, ◌++◌, le_refl, AllByRecursion, Side, A, B, ScriptLine}
use Rattle.clean_finish.proofs.Words.{Flight, going_to, plain_flight, WereSentBefore, after_send, next_number, changed, LinkState, in_order_sent, Carried}
use Rattle.clean_finish.proofs.Words.{LinkIs}
use Rattle.link_model.specs.Fate.{is_stripped, is_altered}
use Rattle.link_model.specs.Laws.{moves}
use Rattle.link_model.proofs.Plain.{sent_last, sent_before_next}
use Rattle.clean_finish.specs.Machine.{copy_of}
use Rattle.clean_finish.proofs.Links.{going_with, sends_plainly}

module _ (strip alter : Side → Carried → Carried) (carried : Carried) (size now : ℕ) (link : LinkState Carried) (none : link.lines ≡ [])
    (is : LinkIs now link)
  where
    unmoved : (from : Side) → AllByRecursion (λ (line : ScriptLine). moves from line ≡ false) link.lines
    unmoved from = subst (λ (lines : List ScriptLine). AllByRecursion (λ (line : ScriptLine). moves from line ≡ false) lines) (sym none) tt

    -- as it is
    pub carried_is : (from : Side) → (plain_flight strip alter from carried now link).carried ≡ carried
    carried_is from = by link.lines none
      where
        by : (lines : List ScriptLine) → lines ≡ [] → changed (strip from) (alter from)
            (is_stripped from (next_number from link) now lines) (is_altered from (next_number from link) lines) carried ≡ carried
        by lines e = rw e refl

    pub last_from_a : going_to B (after_send strip alter A carried size now link).under_way
        ≡ going_to B link.under_way ++ plain_flight strip alter A carried now link ∷ []
    last_from_a = sent_last strip alter A carried size now link (unmoved A) is.order is.from_a

    pub last_from_b : going_to A (after_send strip alter B carried size now link).under_way
        ≡ going_to A link.under_way ++ plain_flight strip alter B carried now link ∷ []
    last_from_b = sent_last strip alter B carried size now link (unmoved B) is.order is.from_b

    pub others_of_a : going_to A (after_send strip alter A carried size now link).under_way ≡ going_to A link.under_way
    others_of_a = ap (λ (fs : List (Flight Carried)). going_to A fs) (sends_plainly strip alter A carried size now link none)
        ∙ going_with A (copy_of A carried now link) link.under_way refl

    pub others_of_b : going_to B (after_send strip alter B carried size now link).under_way ≡ going_to B link.under_way
    others_of_b = ap (λ (fs : List (Flight Carried)). going_to B fs) (sends_plainly strip alter B carried size now link none)
        ∙ going_with B (copy_of B carried now link) link.under_way refl

    pub link_after_a : LinkIs now (after_send strip alter A carried size now link)
    link_after_a = record {
      order = in_order_sent strip alter A carried size now link is.order;
      from_a = sent_before_next strip alter A carried size now now link (unmoved A) is.order (le_refl now) is.from_a;
      from_b = subst (λ (fs : List (Flight Carried)). WereSentBefore (next_number B link) (now + link.delay) fs) (sym others_of_a) is.from_b;
    }

    pub link_after_b : LinkIs now (after_send strip alter B carried size now link)
    link_after_b = record {
      order = in_order_sent strip alter B carried size now link is.order;
      from_a = subst (λ (fs : List (Flight Carried)). WereSentBefore (next_number A link) (now + link.delay) fs) (sym others_of_b) is.from_a;
      from_b = sent_before_next strip alter B carried size now now link (unmoved B) is.order (le_refl now) is.from_b;
    }
