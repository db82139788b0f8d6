-- A copy is taken on a path of which no line speaks: the segment is heard as it was meant, by the end that it goes to.
use Rattle.clean_finish.proofs.Words.{◌≡◌, sym, subst, ap, ◌∙◌, ℕ, max, Bool, false, if◌then◌else◌, Option, List, [], ◌∷◌, length, Some, Side, A, B, Meaning}
use Rattle.clean_finish.proofs.Words.{meaning_of, Flight, due_of, arriving, LinkState, meant, HeardSegment, PlainSegment, Carried, carried_by, values}
use Rattle.clean_finish.proofs.Words.{as_arrived, held_of, copy_of, copy_judged, reset_for, template_by, template_of, heard_in, copy_heard, copy_taken, told_at}
use Rattle.clean_finish.proofs.Words.{at_tick, PathState, end_at, goes_on, items_of, options_heard, is_joined, HeadArrives}
use Rattle.path_core.specs.Judged.{judged_of, taken_as}
use Rattle.clean_finish.proofs.Links.{head_arrives}

-- the path at the tick of the arrival, without the copy
abbrev pub arrived : ℕ → List (Flight Carried) → PathState Carried → PathState Carried
arrived tick others p = record p { clock = max p.clock tick; link = record p.link { under_way = others } }

-- what the end makes of it that takes it as this
abbrev pub heard_as : Side → HeardSegment → Meaning → PathState Carried → PathState Carried
heard_as r heard meaning p =
    goes_on r (copy_judged false (held_of p.profile r heard) (reset_for p.profile r heard) r p.clock heard meaning (end_at r p))
    (template_by false r (length (items_of false r heard)) meaning) p

-- on path 0 a copy is what it means to the subflow
pub told_is : (r : Side) (heard : HeardSegment) (meaning : Meaning) (p : PathState Carried) → is_joined p.profile ≡ false
    → meaning_of (copy_of heard) (end_at r p).tcp ≡ meaning → told_at p.clock r heard p ≡ heard_as r heard meaning p
told_is r heard meaning p opens is =
    ap (λ (joined : Bool). by joined (meaning_of (copy_of heard) (end_at r p).tcp)) opens
    ∙ ap (λ (x : Meaning). by false x) is
  where
    by : Bool → Meaning → PathState Carried
    by joined x =
        goes_on r (copy_judged joined (held_of p.profile r heard) (reset_for p.profile r heard) r p.clock heard
        (taken_as (judged_of joined heard.rst (items_of joined r heard) x (end_at r p))) (end_at r p))
        (template_of joined r (items_of joined r heard) (judged_of joined heard.rst (items_of joined r heard) x (end_at r p))) p

-- no line speaks, so the copy that stands first arrives as it was sent
module _ (r from : Side) (segment : PlainSegment) (p : PathState Carried) (f : Flight Carried) (others : List (Flight Carried))
    (first : p.link.under_way ≡ f ∷ others) (carried : f.carried ≡ carried_by p.profile.spelling from segment) (to : f.to ≡ r)
    (mptcp : (end_at r p).modes.identity ≡ false)
  where
    abbrev now : PathState Carried
    now = arrived f.tick others p

    abbrev by_link : LinkState Carried → LinkState Carried → PathState Carried
    by_link x y = copy_heard f.to (heard_in values f.to (arriving (due_of f) x) p) (record (at_tick f.tick p) { link = y })

    head : HeadArrives f others p.link
    head = subst (λ (fs : List (Flight Carried)). HeadArrives f others (record p.link { under_way = fs })) (sym first)
        (head_arrives f others p.link)

    found : copy_taken values (due_of f) p ≡ copy_heard f.to (heard_in values f.to (Some f) p) now
    found = ap (λ (y : LinkState Carried). copy_heard f.to (heard_in values f.to (arriving (due_of f) p.link) p) (record (at_tick f.tick p) { link = y })) head.gone
        ∙ ap (λ (x : Option (Flight Carried)). copy_heard f.to (heard_in values f.to x p) now) head.found

    meant_is : copy_heard f.to (heard_in values f.to (Some f) p) now ≡ copy_heard f.to (Some (meant segment)) now
    meant_is = ap (λ (x : Carried). copy_heard f.to (Some (meant (as_arrived x))) now) carried

    here : copy_heard f.to (Some (meant segment)) now ≡ told_at now.clock r (options_heard (end_at r now) (meant segment)) now
    here = ap (λ (s : Side). copy_heard s (Some (meant segment)) now) to

    same_end : (s : Side) → (end_at s p).modes.identity ≡ false → (end_at s now).modes.identity ≡ false
    same_end A is = is
    same_end B is = is

    heard : told_at now.clock r (options_heard (end_at r now) (meant segment)) now ≡ told_at now.clock r (meant segment) now
    heard = ap (λ (b : Bool). told_at now.clock r (record (meant segment) { options = (if b then [] else (meant segment).options) }) now)
        (same_end r mptcp)

    pub taken_is : copy_taken values (due_of f) p ≡ told_at now.clock r (meant segment) now
    taken_is = found ∙ (meant_is ∙ (here ∙ heard))
