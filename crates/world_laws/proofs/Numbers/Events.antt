-- What happens on a path by itself leaves the numbers that its ends and its copies tell small.
--
-- Copies without options: what an invariant says of a copy is said of the segment that was made, so that whether its
-- options were taken away is no matter until it arrives. There two Bools, stripped and fallen, choose between `meant
-- sg` and `meant (record sg { options = [] })`, and the rule for what arrives is applied to either (`heard_tells` in
-- `proofs/Numbers/Events`).
use Rattle.world_laws.proofs.Words.{◌≡◌, refl, ℕ, zero, suc, ◌+◌, Bool, true, false, if◌then◌else◌, Option, Some, None, List, [], ◌∷◌, ◌++◌, length, find}
use Rattle.world_laws.proofs.Words.{position, false≢true, IfSome, Side, A, B, peer, same_side, is_dead, Meaning, is_sixth, is_due, arriving, after_delivery}
use Rattle.world_laws.proofs.Words.{Due, PlainSegment, meant, LineAction, rest_of_turn, emission, heard_and, payload_came, leaves, announces, withdraws, Duty}
use Rattle.world_laws.proofs.Words.{AskDuty, Reply, tail_of, PathEnd, died, at_tick, PathState, end_at, goes_on, Carried, as_arrived, values, items_of}
use Rattle.world_laws.proofs.Words.{after_judged, judged_in, template_by, template_judged, template_of, heard_in, copy_heard, told_at, copy_taken, Judged}
use Rattle.world_laws.proofs.Words.{after_line, happens, happens_if, join_begun, never_joined, is_never, keys_begun, opened_by, is_joined, template_fired}
use Rattle.world_laws.proofs.Words.{after_firing, timer_fired, with_priority, Profile, Every-nil, if_so}
use Rattle.path_core.specs.declared.events.Event.{Event}
use Rattle.world_laws.proofs.Lanes.Happening.{without_kept, found_due, side_is}
use Rattle.world_laws.proofs.Lanes.Records.{every_find}
use Rattle.world_laws.proofs.Numbers.TellSmall.{SegmentTells, bare_tells}
use Rattle.world_laws.proofs.Numbers.Arrivals.{arrived_tells}
use Rattle.world_laws.proofs.Numbers.EndRules.{AreKeys, opened_tells, died_tells, join_refused_tells, died_unless_tells, fired_tells, priority_tells}
use Rattle.world_laws.proofs.Numbers.PathSteps.{CopyTells, AreFair, PathTells, tells_at, tells_on, tells_agenda}

-- ---- templates

heard_fair : (s : Side) (from count : ℕ) (ds : List Duty) → AreFair ds → AreFair (heard_and s from count ds)
heard_fair s from zero ds h = h
heard_fair s from (suc count) ds h = heard_fair s (from + 1) count ds h

template_fair : (joined : Bool) (s : Side) (count : ℕ) (m : Meaning) → AreFair (template_by joined s count m)
template_fair true s count (Meaning.Accepts acknowledged) = refl
template_fair false s count (Meaning.Accepts acknowledged) = refl
template_fair joined s count (Meaning.Taken position acknowledged) = heard_fair s 0 count (payload_came s) refl
template_fair joined s count _ = refl

judged_fair : (joined : Bool) (s : Side) (count : ℕ) (verdict : Judged) → AreFair (template_judged joined s count verdict)
judged_fair joined s count (Judged.As meaning) = template_fair joined s count meaning
judged_fair joined s count _ = refl

fired_fair : (sixth : Bool) (s : Side) → AreFair (template_fired sixth s)
fired_fair = elim [ true ↦ λ s. refl | false ↦ λ s. refl ]

died_fair : (a b : Bool) → AreFair ((if a then [] else Duty.Ask (AskDuty.Leave A) ∷ []) ++ ((if b then [] else Duty.Ask (AskDuty.Leave B) ∷ []) ++ rest_of_turn))
died_fair true true = refl
died_fair true false = refl
died_fair false true = refl
died_fair false false = refl

-- a copy to this side
pub told_to : (c : Profile) (s to : Side) (carried : Carried) → same_side to s ≡ true → CopyTells c to carried → CopyTells c s carried
told_to c A A carried same h = h
told_to c B B carried same h = h
told_to c A B carried same h = absurd (false≢true same)
told_to c B A carried same h = absurd (false≢true same)

-- the copy that is due
pub due_tells : (c : Profile) (p : PathState Carried) → PathTells c p → (due : Due) → IfSome (arriving due p.link) (λ f. CopyTells c due.to f.carried)
due_tells c p h due =
    (elim (find (is_due due) p.link.under_way) as (λ o. find (is_due due) p.link.under_way ≡ o → IfSome o (λ f. CopyTells c f.to f.carried) → IfSome o (λ f. CopyTells c due.to f.carried)) [
      | None ↦ λ found tells. tt
      | Some f ↦ λ found tells. told_to c due.to f.to f.carried (side_is due f (found_due due p.link.under_way f found)) tells
    ]) refl (every_find (is_due due) p.link.under_way h.copies)

module _ (p : PathState Carried) (h : PathTells p.profile p) where
  abbrev Tells : PathState Carried → Type 0
  Tells q = PathTells p.profile q

  -- ---- lines

  line_tells : (action : LineAction) (q : PathState Carried) → Tells q → Tells (after_line action q)
  line_tells LineAction.Die q x = record {
    a = died_unless_tells p.profile A q.a x.a;
    b = died_unless_tells p.profile B q.b x.b;
    copies = Every-nil _;
    agenda = died_fair (is_dead q.a.tcp.state) (is_dead q.b.tcp.state);
  }
  line_tells (LineAction.Prio s backup) q x =
      tells_on p.profile q x s (with_priority backup (end_at s q)) (emission s)
      (priority_tells p.profile s (end_at s q) (tells_at p.profile q x s) backup) refl
  line_tells (LineAction.Announce s id) q x = tells_agenda p.profile q x (announces s id) refl
  line_tells (LineAction.Withdraw s id) q x = tells_agenda p.profile q x (withdraws s id) refl

  -- ---- copies

  abbrev after : Due → PathState Carried
  after due = record (at_tick due.tick p) { link = after_delivery due p.link }

  delivered : (due : Due) → Tells (after due)
  delivered due = record { a = h.a; b = h.b; copies = without_kept (position (is_due due) p.link.under_way) p.link.under_way h.copies; agenda = h.agenda }

  -- what it says
  told_tells : (due : Due) (sg : PlainSegment) → SegmentTells p.profile (peer due.to) sg → Tells (told_at (after due).clock due.to (meant sg) (after due))
  told_tells due sg tells =
      let s = due.to in
      let e : PathEnd = end_at s (after due) in
      let joined = is_joined p.profile in
      let items = items_of joined s (meant sg) in
      let verdict : Judged = judged_in joined s (meant sg) e in
      tells_on p.profile (after due) (delivered due) s (after_judged p.profile s (after due).clock (meant sg) verdict e) (template_of joined s items verdict)
      (arrived_tells p.profile s (after due).clock sg e tells (tells_at p.profile (after due) (delivered due) s))
      (judged_fair joined s (length items) verdict)

  -- or without options after a fallback
  heard_tells : (due : Due) (identity : Bool) (sg : PlainSegment) → SegmentTells p.profile (peer due.to) sg
      → Tells (told_at (after due).clock due.to (record (meant sg) { options = (if identity then [] else (meant sg).options) }) (after due))
  heard_tells due true sg tells = told_tells due (record sg { options = [] }) (bare_tells p.profile (peer due.to) sg tells)
  heard_tells due false sg tells = told_tells due sg tells

  -- or where they were taken away
  arrived : (due : Due) (carried : Carried) → SegmentTells p.profile (peer due.to) carried.segment → SegmentTells p.profile (peer due.to) (as_arrived carried)
  arrived due carried tells =
      if_so (λ z. SegmentTells p.profile (peer due.to) (record carried.segment { options = z })) carried.stripped [] carried.segment.options
      (bare_tells p.profile (peer due.to) carried.segment tells) tells

  copy_tells : (due : Due) → Tells (copy_taken values due p)
  copy_tells due = (elim (arriving due p.link) as (λ o. IfSome o (λ f. CopyTells p.profile due.to f.carried) → Tells (copy_heard due.to (heard_in values due.to o p) (after due))) [
    | None ↦ λ tells. tells_agenda p.profile (after due) (delivered due) (emission due.to) refl
    | Some f ↦ λ tells. heard_tells due (end_at due.to (after due)).modes.identity (as_arrived f.carried) (arrived due f.carried tells.segment)
  ]) (due_tells p.profile p h due)

  -- ---- timers

  fire_tells : (s : Side) (q : PathState Carried) → Tells q → Tells (timer_fired s q)
  fire_tells s q x = tells_on p.profile q x s (after_firing q.clock (end_at s q)) (template_fired (is_sixth (end_at s q).tcp) s)
      (fired_tells p.profile s (end_at s q) (tells_at p.profile q x s) q.clock) (fired_fair (is_sixth (end_at s q).tcp) s)

  -- ---- a join

  -- a join is begun or not, with these duties to be done
  pub join_tells : (r : Reply) (dead living : List Duty) (q : PathState Carried) → IfSome (keys_begun r) AreKeys → AreFair dead → AreFair living → Tells q → Tells (join_begun r dead living q)
  join_tells r dead living q keys dead_fair living_fair x = elim (is_never r) as (λ b. Tells (if b then goes_on A (never_joined r q.a) dead q else goes_on A (opened_by (keys_begun r) q.a) living q)) [
    | true ↦ tells_on p.profile q x A (never_joined r q.a) dead (join_refused_tells p.profile A (died q.a) (died_tells p.profile A q.a x.a) r) dead_fair
    | false ↦ tells_on p.profile q x A (opened_by (keys_begun r) q.a) living (opened_tells p.profile A q.a x.a (keys_begun r) keys) living_fair
  ]

  -- ---- the earliest

  event_tells : (event : Event) (r : Reply) → IfSome (keys_begun r) AreKeys → Tells (happens values event r p)
  event_tells (Event.Joins tick) r keys =
      join_tells r (leaves A) (emission A) (record (at_tick tick p) { joined_at = None }) keys refl refl (record { a = h.a; b = h.b; copies = h.copies; agenda = h.agenda })
  event_tells (Event.Takes line) r keys = line_tells line.action (record (at_tick line.tick p) { lines = tail_of p.lines }) (record { a = h.a; b = h.b; copies = h.copies; agenda = h.agenda })
  event_tells (Event.Arrives due) r keys = copy_tells due
  event_tells (Event.Fires s tick) r keys = fire_tells s (at_tick tick p) (record { a = h.a; b = h.b; copies = h.copies; agenda = h.agenda })

  pub events_tell : (o : Option Event) (r : Reply) → IfSome (keys_begun r) AreKeys → Tells (happens_if values o r p)
  events_tell None r keys = tells_agenda p.profile p h rest_of_turn refl
  events_tell (Some event) r keys = event_tells event r keys
