-- What each turn makes of the edge that an end told last, and of what it could tell.
use Rattle.std.proofs.Common.{◌≡◌, refl, sym, subst, ap, ◌∙◌, ◌⊎◌, inl, inr, ⊎_elim, ℕ, ◌+◌, ◌-◌, ◌*◌, ◌/◌, ◌≤◌, arith, nat_le, min, Bool, true, false, true≢false, ◌&&◌, if◌then◌else◌, max, Option, Some, None, List, [], ◌∷◌}
use Rattle.std.proofs.lemmas.Option.{same_Some}
use Rattle.sides.specs.declared.side.Side.{Side}
use Rattle.sides.specs.declared.side.Side.TheVariants.{A, B}
use Rattle.sides.specs.Side.{peer}
use Rattle.fallback_state.specs.declared.fall.Event.TheVariants as events
use Rattle.path_segments.specs.Laws.{window_told}
use Rattle.path_segments.specs.Spelled.{PlainSegment}
use Rattle.subflow_send.specs.Records.{Record}
use Rattle.reassembly_book.specs.declared.call.ReassemblyReply.{ReassemblyReply}
use Rattle.actor_desk.specs.declared.ask.Reply.{Reply}
use Rattle.actor_desk.specs.Words.{is_nil, pick}
use Rattle.path_agenda.specs.Agenda.{leaves, resets}
use Rattle.path_agenda.specs.declared.duty.Duty.{Duty}
use Rattle.path_agenda.specs.declared.duty.Duty.TheVariants as duties
use Rattle.path_agenda.specs.declared.duty.AskDuty.TheVariants as ask_duties
use Rattle.path_agenda.specs.declared.duty.SendDuty.TheVariants as send_duties
use Rattle.path_agenda.specs.declared.duty.SilentDuty.TheVariants as silent_duties
use Rattle.path_agenda.specs.declared.duty.StepDuty.TheVariants as step_duties
use Rattle.path_agenda.specs.declared.heard.Heard.{Heard}
use Rattle.path_agenda.specs.declared.heard.Heard.TheVariants as says
use Rattle.path_core.specs.Addresses.{having_noted, note_of}
use Rattle.path_core.specs.Breaking.{answered_break, reset_on}
use Rattle.path_core.specs.DataFin.{after_pass_fin, data_fin_segment, fin_segment_of, having_sent_data_fin, having_sent_fin}
use Rattle.path_core.specs.Deliver.{after_check, after_keep, after_pieces, mapping_here}
use Rattle.path_core.specs.DssIn.{counts, is_clash, with_data_fin, with_learned, with_skipped}
use Rattle.path_core.specs.Duties.{answered, passed}
use Rattle.path_core.specs.Emission.{answer_occasion, answer_of, answered_data, answered_grant, first_segment, first_unsent, grant_in, having_sent_unsent, resend_occasion, resend_of, unsent_segment}
use Rattle.path_core.specs.End.{PathEnd, died}
use Rattle.path_core.specs.Fallback.{after_fell, after_infinite, breaks_by_ack, fell_duties, with_plain_ack}
use Rattle.path_core.specs.FastClose.{fast_close_of, having_fast_closed}
use Rattle.path_core.specs.Handover.{edge_told, having_sent, with_edge_told}
use Rattle.path_core.specs.MpCapable.{syn_ack_of}
use Rattle.path_core.specs.Profile.{Profile}
use Rattle.path_core.specs.Standing.{ack_segment, after_ack_out, answered_ack_out, has_grown, is_connected, is_update_due, tellable_edge}
use Rattle.path_core.specs.State.{PathState, end_at, goes_on, with_agenda}
use Rattle.path_core.specs.Steps.{next_round, settled, takes}
use Rattle.path_core.specs.Timer.{with_timer_settled}
use Rattle.path_core.specs.Treating.{answered_item, answered_heard, item_of, item_passed}
use Rattle.path_core.specs.Values.{Carried, values}
use Rattle.path_store.specs.Receiving.{Receiving}
use Rattle.subflow_tcp.specs.declared.segments.Occasion.TheVariants as to_send
use Rattle.world_laws.specs.declared.member.Member.TheVariants.{App, Path}
use Rattle.world_laws.specs.Actors.{Actor, ActorCrew, is_over, member_next, member_takes}
use Rattle.world_laws.specs.RoundDone.{reached}
use Rattle.world_laws.specs.StampedBooks.{answer_to}
use Rattle.world_laws.specs.Worlds.{WorldState}
use Rattle.world_laws.specs.Writes.{EndView, PathView, side_of, writes}
use Rattle.world_laws.proofs.Falls.FailedChecks.{fail_answered_so, forgets_so, infinite_came_so}
use Rattle.world_laws.proofs.Writes.Paths.{passes_no_more, writes_no_more}
use Rattle.world_laws.proofs.Writes.Steps.{Lasts, begins_lasts, settled_lasts, unwritten}
use Rattle.whole_paths.specs.AgendaSteps.{is_gone}
use Rattle.whole_paths.specs.Brought.{IsToReset}
use Rattle.whole_paths.specs.Brought.{IsToReset as resetting}
use Rattle.whole_paths.specs.ToldEdges.{TellsEdge, ToldOn, UpdatesIfGrown, UpdatesTellAll, WhatIsToldGoesOn, offer, told}
use Rattle.whole_paths.specs.ToldEdges.{ToldOn as told_on}
use Rattle.whole_paths.proofs.Agendas.{gone_end, own_end}
use Rattle.whole_paths.proofs.KnownWindows.{duty_told}
use Rattle.whole_paths.proofs.Paying.{settled_far}
use Rattle.whole_paths.proofs.Pieces.{is_event, own_only}
use Rattle.whole_paths.proofs.Settling.{sides}
use Rattle.whole_paths.proofs.Turns.{turn_each}
use Rattle.whole_paths.proofs.Waiting.{gone_stays}

-- ---- an end

-- what it was told, and told, stays
pub record SameTold (e f : PathEnd) : Type 0 where
  pub next : f.receiving.next ≡ e.receiving.next
  pub window : f.receiving.window ≡ e.receiving.window
  pub told : f.receiving.told_edge ≡ e.receiving.told_edge

calm : (e f : PathEnd) → f.receiving.next ≡ e.receiving.next → f.receiving.window ≡ e.receiving.window → f.receiving.told_edge ≡ e.receiving.told_edge → SameTold e f
calm e f next window told = record { next = next; window = window; told = told }

-- what is to be acknowledged is asked
abbrev asks_book : Duty → Bool
asks_book (duties.Ask (ask_duties.Window s)) = true
asks_book (duties.Ask (ask_duties.AckOut s)) = true
asks_book (duties.Ask (ask_duties.BreakAck s reason)) = true
asks_book _ = false

-- what a duty of the end's side makes of that, and these stand next
data TellsBy (d : Duty) (s : Side) (e f : PathEnd) (es : List Duty) : Type 0 where
  keeps : f.receiving.next ≡ e.receiving.next → f.receiving.window ≡ e.receiving.window → TellsEdge e f → TellsBy d s e f es
  asks : asks_book d ≡ true → told f ≡ told e → TellsBy d s e f es
  dies_now : is_gone f ≡ true → TellsBy d s e f es
  breaks_now : IsToReset s es → TellsBy d s e f es

same_tells : (d : Duty) (s : Side) (e f : PathEnd) (es : List Duty) → SameTold e f → TellsBy d s e f es
same_tells d s e f es x = keeps x.next x.window (inl x.told)

here : (d : Duty) (s : Side) (e f a b : PathEnd) (es : List Duty) → TellsBy d s e f es → TellsBy d s e (pick s (pick s f a) (pick s b f)) es
here d s e f a b es x = subst (λ g. TellsBy d s e g es) (sym (own_end s f a b)) x

rests : (d : Duty) (s : Side) (e f a b : PathEnd) (es : List Duty) → f.receiving.next ≡ e.receiving.next → f.receiving.window ≡ e.receiving.window → f.receiving.told_edge ≡ e.receiving.told_edge
    → TellsBy d s e (pick s (pick s f a) (pick s b f)) es
rests d s e f a b es next window told = here d s e f a b es (same_tells d s e f es (calm e f next window told))

-- a segment tells what the end was told; a reset tells nothing
told_so : (x : PlainSegment) (e f : PathEnd) → x.window ≡ e.receiving.window → told f ≡ edge_told x e → TellsEdge e f
told_so x e f window is = by x.rst is
  where
    by : (rst : Bool) → told f ≡ (if rst then e.receiving.told_edge else e.receiving.next + window_told x.syn x.window) → TellsEdge e f
    by true is = inl is
    by false is = inr (x.syn, is ∙ ap (λ n. e.receiving.next + window_told x.syn n) window)

-- so it is no more than that
pub told_low : (e f : PathEnd) → TellsEdge e f → told f ≤ max (told e) (offer e)
told_low e f (inl same) = omega (arith, same)
told_low e f (inr (true, is)) = omega (arith, is)
told_low e f (inr (false, is)) = (let down : 32 * (e.receiving.window / 32) ≤ e.receiving.window = omega arith in omega (arith, is, down))

-- it stays as nothing more is told
edge_on : (e f g : PathEnd) → SameTold f g → TellsEdge e f → TellsEdge e g
edge_on e f g x (inl same) = inl (x.told ∙ same)
edge_on e f g x (inr now) = inr (now.0, x.told ∙ now.1)

next_on : (e f g : PathEnd) → SameTold f g → f.receiving.next ≡ e.receiving.next → g.receiving.next ≡ e.receiving.next
next_on e f g x same = x.next ∙ same

window_on : (e f g : PathEnd) → SameTold f g → f.receiving.window ≡ e.receiving.window → g.receiving.window ≡ e.receiving.window
window_on e f g x same = x.window ∙ same

sends : (d : Duty) (s : Side) (x : PlainSegment) (e f a b : PathEnd) (es : List Duty) → x.window ≡ e.receiving.window → f.receiving ≡ (with_edge_told x e).receiving
    → TellsBy d s e (pick s (pick s f a) (pick s b f)) es
sends d s x e f a b es window is = here d s e f a b es (keeps
    (ap (λ (v : Receiving). v.next) is)
    (ap (λ (v : Receiving). v.window) is)
    (told_so x e f window (ap (λ (v : Receiving). v.told_edge) is)))

-- the answer tells nothing of what the end told
ack_out_told : (r : Reply) (e : PathEnd) → told (after_ack_out r e) ≡ told e
ack_out_told (Reply.Reassembly (ReassemblyReply.Ack next window)) e = refl
ack_out_told _ e = refl

-- ---- a duty that is answered

module _ (d : Duty) (r : Reply) (p : PathState Carried) where
  abbrev q : PathState Carried
  q = answered values d r p

  unwritten_tells : (writes d).own.next ≡ false → (writes d).own.window ≡ false → (writes d).own.told_edge ≡ false → TellsBy d (side_of d) (end_at (side_of d) p) (end_at (side_of d) q) q.agenda
  unwritten_tells next window told =
      let x = own_only (side_of d) (writes d) p q (writes_no_more values d r p) in
      same_tells d (side_of d) (end_at (side_of d) p) (end_at (side_of d) q) q.agenda (calm (end_at (side_of d) p) (end_at (side_of d) q)
      (unwritten (writes d).own.next (end_at (side_of d) p).receiving.next (end_at (side_of d) q).receiving.next next (ap (λ (v : EndView). v.next) x.same))
      (unwritten (writes d).own.window (end_at (side_of d) p).receiving.window (end_at (side_of d) q).receiving.window window (ap (λ (v : EndView). v.window) x.same))
      (unwritten (writes d).own.told_edge (end_at (side_of d) p).receiving.told_edge (end_at (side_of d) q).receiving.told_edge told (ap (λ (v : EndView). v.told_edge) x.same)))

module _ (d : Duty) (r : Reply) (p : PathState Carried) where
  abbrev At : Side → PathState Carried → Type 0
  At s z = TellsBy d s (end_at s p) (end_at s z) z.agenda

  break_tells : (s : Side) (reason : ℕ) → At s (answered_break values s reason r p)
  break_tells s reason = elim (end_at s p).treated.asked as
      (λ b. At s (if b then answered_ack_out s r (resets s reason) p else reset_on values s (Some reason) (leaves s) p))
      [ true ↦ breaks_now (resetting.is_reset reason refl) | false ↦ dies_now (gone_end s (died (end_at s p)) p.a p.b refl) ]

  thing_tells : (s : Side) (item : Heard) → At s (answered_heard values s item r p)
  thing_tells s (says.DataAck next window) = rests d s (end_at s p) _ p.a p.b _ refl refl refl
  thing_tells s (says.Mapping fin) = elim (is_clash (end_at s p)) as
      (λ b. At s (if b then answered_break values s 1 r p else goes_on s (with_learned (after_fell events.MappingHeard r (end_at s p))) (fell_duties s r p) p))
      [ true ↦ break_tells s 1 | false ↦ rests d s (end_at s p) (with_learned (after_fell events.MappingHeard r (end_at s p))) p.a p.b _ refl refl refl ]
  thing_tells s (says.DataFin place) = rests d s (end_at s p) _ p.a p.b _ refl refl refl
  thing_tells s (says.InfiniteMapping place position) =
      let e = end_at s p in
      here d s e (after_infinite place position r e) p.a p.b _
      (infinite_came_so (λ f. TellsBy d s e f (answered_heard values s (says.InfiniteMapping place position) r p).agenda) place position r e (λ other. same_tells d s e _ _ (calm e _ refl refl refl)))
  thing_tells s (says.Keys own other) = rests d s (end_at s p) _ p.a p.b _ refl refl refl
  thing_tells s (says.Notice notice) = rests d s (end_at s p) _ p.a p.b _ refl refl refl
  thing_tells s says.Fail = fail_answered_so (At s) s r p (rests d s (end_at s p) _ p.a p.b _ refl refl refl) (rests d s (end_at s p) _ p.a p.b _ refl refl refl)
  thing_tells s _ = same_tells d s (end_at s p) (end_at s p) _ (calm (end_at s p) (end_at s p) refl refl refl)

  things_tell : (s : Side) (o : Option Heard) → At s (answered_item values s o r p)
  things_tell s None = same_tells d s (end_at s p) (end_at s p) _ (calm (end_at s p) (end_at s p) refl refl refl)
  things_tell s (Some item) = thing_tells s item

  data_tells : (s : Side) (o : Option Record) → first_unsent (end_at s p) ≡ o → (unsent_segment s p).window ≡ (end_at s p).receiving.window → At s (answered_data values s o r p)
  data_tells s (Some unsent) is window = sends d s (unsent_segment s p) (end_at s p) (having_sent_unsent s p) p.a p.b _ window refl
  data_tells s None is window = elim (grant_in r) as (λ o. At s (answered_grant s o r p))
      [ Some grant ↦ rests d s (end_at s p) _ p.a p.b _ refl refl refl | None ↦ rests d s (end_at s p) _ p.a p.b _ refl refl refl ]

own_tells : (d : Duty) (r : Reply) (p : PathState Carried) → is_event d ≡ false → let q = answered values d r p in TellsBy d (side_of d) (end_at (side_of d) p) (end_at (side_of d) q) q.agenda
own_tells (duties.Step step_duties.Events) r p other = absurd (true≢false other)
own_tells (duties.Ask (ask_duties.Window s)) r p other = here (duties.Ask (ask_duties.Window s)) s (end_at s p) (after_ack_out r (end_at s p)) p.a p.b _ (asks refl (ack_out_told r (end_at s p)))
own_tells (duties.Ask (ask_duties.AckOut s)) r p other = here (duties.Ask (ask_duties.AckOut s)) s (end_at s p) (after_ack_out r (end_at s p)) p.a p.b _ (asks refl (ack_out_told r (end_at s p)))
own_tells (duties.Ask (ask_duties.BreakAck s reason)) r p other = here (duties.Ask (ask_duties.BreakAck s reason)) s (end_at s p) (after_ack_out r (end_at s p)) p.a p.b _ (asks refl (ack_out_told r (end_at s p)))
own_tells (duties.Step (step_duties.Heard s index)) r p other = things_tell (duties.Step (step_duties.Heard s index)) r p s (item_of index (end_at s p))
own_tells (duties.Step (step_duties.PlainAck s)) r p other =
    let d : Duty = duties.Step (step_duties.PlainAck s) in
    elim (breaks_by_ack p.profile (end_at s p)) as
    (λ b. let z = if b then answered_break values s 6 r p else goes_on s (with_plain_ack (after_fell events.PlainAck r (end_at s p))) (fell_duties s r p) p in TellsBy d s (end_at s p) (end_at s z) z.agenda)
    [ true ↦ break_tells d r p s 6 | false ↦ rests d s (end_at s p) (with_plain_ack (after_fell events.PlainAck r (end_at s p))) p.a p.b _ refl refl refl ]
own_tells (duties.Step (step_duties.Unmapped s)) r p other = break_tells (duties.Step (step_duties.Unmapped s)) r p s 6
own_tells (duties.Step (step_duties.Data s)) r p other = data_tells (duties.Step (step_duties.Data s)) r p s (first_unsent (end_at s p)) refl (duty_told p (duties.Send (send_duties.Syn s)))
own_tells (duties.Step (step_duties.Look s)) r p other = unwritten_tells (duties.Step (step_duties.Look s)) r p refl refl refl
own_tells (duties.Send (send_duties.Update s)) r p other =
    let d : Duty = duties.Send (send_duties.Update s) in sends d s (ack_segment s p) (end_at s p) (having_sent to_send.Ack p.clock (ack_segment s p) (end_at s p)) p.a p.b _ (duty_told p d) refl
own_tells (duties.Send (send_duties.Acknowledge s)) r p other =
    let d : Duty = duties.Send (send_duties.Acknowledge s) in sends d s (ack_segment s p) (end_at s p) (having_sent to_send.Ack p.clock (ack_segment s p) (end_at s p)) p.a p.b _ (duty_told p d) refl
own_tells (duties.Send (send_duties.Syn s)) r p other =
    let d : Duty = duties.Send (send_duties.Syn s) in sends d s (unsent_segment s p) (end_at s p) (having_sent_unsent s p) p.a p.b _ (duty_told p d) refl
own_tells (duties.Send (send_duties.FastClose s)) r p other =
    let d : Duty = duties.Send (send_duties.FastClose s) in sends d s (fast_close_of s p) (end_at s p) (having_fast_closed s p) p.a p.b _ (duty_told p d) refl
own_tells (duties.Send (send_duties.Notice s)) r p other =
    let d : Duty = duties.Send (send_duties.Notice s) in sends d s (note_of s p) (end_at s p) (having_noted s p) p.a p.b _ (duty_told p d) refl
own_tells (duties.Send (send_duties.DataFin s)) r p other =
    let d : Duty = duties.Send (send_duties.DataFin s) in sends d s (data_fin_segment s p) (end_at s p) (having_sent_data_fin s p) p.a p.b _ (duty_told p d) refl
own_tells (duties.Send (send_duties.Fin s)) r p other =
    let d : Duty = duties.Send (send_duties.Fin s) in sends d s (fin_segment_of s p) (end_at s p) (having_sent_fin s p) p.a p.b _ (duty_told p d) refl
own_tells (duties.Send (send_duties.SynAck s)) r p other =
    let d : Duty = duties.Send (send_duties.SynAck s) in sends d s (syn_ack_of s p) (end_at s p) (having_sent to_send.SynAck p.clock (syn_ack_of s p) (end_at s p)) p.a p.b _ (duty_told p d) refl
own_tells (duties.Send (send_duties.Refuse s)) r p other = rests (duties.Send (send_duties.Refuse s)) s (end_at s p) (end_at s p) p.a p.b _ refl refl refl
own_tells (duties.Send (send_duties.Again s)) r p other =
    let d : Duty = duties.Send (send_duties.Again s) in sends d s (first_segment s p) (end_at s p) (having_sent to_send.First p.clock (first_segment s p) (end_at s p)) p.a p.b _ (duty_told p d) refl
own_tells (duties.Send (send_duties.Answer s)) r p other =
    let d : Duty = duties.Send (send_duties.Answer s) in sends d s (answer_of s p) (end_at s p) (having_sent (answer_occasion (end_at s p)) p.clock (answer_of s p) (end_at s p)) p.a p.b _ (duty_told p d) refl
own_tells (duties.Send (send_duties.ResetAnswer s)) r p other = rests (duties.Send (send_duties.ResetAnswer s)) s (end_at s p) (end_at s p) p.a p.b _ refl refl refl
own_tells (duties.Send (send_duties.Resend s)) r p other =
    let d : Duty = duties.Send (send_duties.Resend s) in sends d s (resend_of s p) (end_at s p) (having_sent (resend_occasion (end_at s p)) p.clock (resend_of s p) (end_at s p)) p.a p.b _ (duty_told p d) refl
own_tells (duties.Send (send_duties.BreakReset s reason)) r p other = here (duties.Send (send_duties.BreakReset s reason)) s (end_at s p) (died (end_at s p)) p.a p.b _ (dies_now refl)
own_tells (duties.Send (send_duties.Reset s)) r p other = here (duties.Send (send_duties.Reset s)) s (end_at s p) (died (end_at s p)) p.a p.b _ (dies_now refl)
own_tells (duties.Send (send_duties.ResetNoted s)) r p other = here (duties.Send (send_duties.ResetNoted s)) s (end_at s p) (died (end_at s p)) p.a p.b _ (dies_now refl)
own_tells (duties.Silent d) r p other = same_tells (duties.Silent d) (side_of (duties.Silent d)) (end_at (side_of (duties.Silent d)) p) (end_at (side_of (duties.Silent d)) p) _ (calm _ _ refl refl refl)
own_tells duties.End r p other = unwritten_tells duties.End r p refl refl refl
own_tells d r p other = unwritten_tells d r p refl refl refl

-- the other end
other_same : (d : Duty) (r : Reply) (p : PathState Carried) → is_event d ≡ false → SameTold (end_at (peer (side_of d)) p) (end_at (peer (side_of d)) (answered values d r p))
other_same (duties.Step step_duties.Events) r p other = absurd (true≢false other)
other_same d r p other = let t = peer (side_of d) in let q : PathState Carried = answered values d r p in calm (end_at t p) (end_at t q)
    (unwritten false (end_at t p).receiving.next (end_at t q).receiving.next refl (ap (λ (v : PathView Carried). v.other.next) (writes_no_more values d r p).same))
    (unwritten false (end_at t p).receiving.window (end_at t q).receiving.window refl (ap (λ (v : PathView Carried). v.other.window) (writes_no_more values d r p).same))
    (unwritten false (end_at t p).receiving.told_edge (end_at t q).receiving.told_edge refl (ap (λ (v : PathView Carried). v.other.told_edge) (writes_no_more values d r p).same))

-- an event changes nothing of it, at either end
event_same : (r : Reply) (p : PathState Carried) (t : Side) → let d : Duty = duties.Step step_duties.Events in SameTold (end_at t p) (end_at t (answered values d r p))
event_same r p t = by (sides t (side_of d))
  where
    d : Duty
    d = duties.Step step_duties.Events

    q : PathState Carried
    q = answered values d r p

    own : SameTold (end_at (side_of d) p) (end_at (side_of d) q)
    own = calm (end_at (side_of d) p) (end_at (side_of d) q)
        (unwritten false (end_at (side_of d) p).receiving.next (end_at (side_of d) q).receiving.next refl (ap (λ (v : PathView Carried). v.own.next) (writes_no_more values d r p).same))
        (unwritten false (end_at (side_of d) p).receiving.window (end_at (side_of d) q).receiving.window refl (ap (λ (v : PathView Carried). v.own.window) (writes_no_more values d r p).same))
        (unwritten false (end_at (side_of d) p).receiving.told_edge (end_at (side_of d) q).receiving.told_edge refl (ap (λ (v : PathView Carried). v.own.told_edge) (writes_no_more values d r p).same))

    away : SameTold (end_at (peer (side_of d)) p) (end_at (peer (side_of d)) q)
    away = calm (end_at (peer (side_of d)) p) (end_at (peer (side_of d)) q)
        (unwritten false (end_at (peer (side_of d)) p).receiving.next (end_at (peer (side_of d)) q).receiving.next refl (ap (λ (v : PathView Carried). v.other.next) (writes_no_more values d r p).same))
        (unwritten false (end_at (peer (side_of d)) p).receiving.window (end_at (peer (side_of d)) q).receiving.window refl (ap (λ (v : PathView Carried). v.other.window) (writes_no_more values d r p).same))
        (unwritten false (end_at (peer (side_of d)) p).receiving.told_edge (end_at (peer (side_of d)) q).receiving.told_edge refl (ap (λ (v : PathView Carried). v.other.told_edge) (writes_no_more values d r p).same))

    by : (side_of d ≡ t) ⊎ (peer (side_of d) ≡ t) → SameTold (end_at t p) (end_at t q)
    by (inl is) = subst (λ u. SameTold (end_at u p) (end_at u q)) is own
    by (inr is) = subst (λ u. SameTold (end_at u p) (end_at u q)) is away

-- ---- a duty that is passed

here_same : (s : Side) (e f a b : PathEnd) → SameTold e f → SameTold e (pick s (pick s f a) (pick s b f))
here_same s e f a b x = subst (λ g. SameTold e g) (sym (own_end s f a b)) x

item_same : (s : Side) (o : Option Heard) (e : PathEnd) → SameTold e (item_passed s o e)
item_same s None e = calm e e refl refl refl
item_same s (Some (says.Mapping fin)) e = elim (counts e) as (λ b. SameTold e (if b then with_learned e else with_skipped e)) [ true ↦ calm e (with_learned e) refl refl refl | false ↦ calm e (with_skipped e) refl refl refl ]
item_same s (Some (says.DataFin place)) e = elim (counts e) as (λ b. SameTold e (if b then with_data_fin place e else e)) [ true ↦ calm e (with_data_fin place e) refl refl refl | false ↦ calm e e refl refl refl ]
item_same s (Some _) e = calm e _ refl refl refl

passed_own : (d : Duty) (p : PathState Carried) → SameTold (end_at (side_of d) p) (end_at (side_of d) (passed d p))
passed_own (duties.Ask (ask_duties.CheckFailed s)) p =
    let e = end_at s p in
    here_same s e (after_check p.profile e) p.a p.b (forgets_so (λ f. SameTold e f) p.profile.spelling.checksums (mapping_here e) e (λ recv forgotten. calm e (record e { tcp = record e.tcp { recv = recv } }) refl refl refl))
passed_own (duties.Step (step_duties.Heard s index)) p = let e = end_at s p in here_same s e (item_passed s (item_of index e) e) p.a p.b (item_same s (item_of index e) e)
passed_own (duties.Step (step_duties.PlainAck s)) p = let e = end_at s p in here_same s e (with_plain_ack e) p.a p.b (calm e (with_plain_ack e) refl refl refl)
passed_own (duties.Step (step_duties.Unmapped s)) p = let e = end_at s p in here_same s e (after_pieces e) p.a p.b (calm e (after_pieces e) refl refl refl)
passed_own (duties.Silent (silent_duties.Timer s)) p = let e = end_at s p in here_same s e (with_timer_settled p.clock e) p.a p.b (calm e (with_timer_settled p.clock e) refl refl refl)
passed_own (duties.Silent (silent_duties.Keep s)) p = let e = end_at s p in here_same s e (after_keep s e) p.a p.b (calm e (after_keep s e) refl refl refl)
passed_own (duties.Silent (silent_duties.PassFin s)) p = let e = end_at s p in here_same s e (after_pass_fin e) p.a p.b (calm e (after_pass_fin e) refl refl refl)
passed_own d p = calm (end_at (side_of d) p) (end_at (side_of d) p) refl refl refl

passed_other : (d : Duty) (p : PathState Carried) → SameTold (end_at (peer (side_of d)) p) (end_at (peer (side_of d)) (passed d p))
passed_other (duties.Step step_duties.Events) p = calm p.b p.b refl refl refl
passed_other d p = let t = peer (side_of d) in let q : PathState Carried = passed d p in calm (end_at t p) (end_at t q)
    (unwritten false (end_at t p).receiving.next (end_at t q).receiving.next refl (ap (λ (v : PathView Carried). v.other.next) (passes_no_more d p).same))
    (unwritten false (end_at t p).receiving.window (end_at t q).receiving.window refl (ap (λ (v : PathView Carried). v.other.window) (passes_no_more d p).same))
    (unwritten false (end_at t p).receiving.told_edge (end_at t q).receiving.told_edge refl (ap (λ (v : PathView Carried). v.other.told_edge) (passes_no_more d p).same))

abbrev pub AllSame : PathState Carried → PathState Carried → Type 0
AllSame p q = (s : Side) → SameTold (end_at s p) (end_at s q)

pub same_lasts : Lasts AllSame
same_lasts = record {
  agenda = λ ds p s. by s ds p;
  chains = λ p q r x y s. calm (end_at s p) (end_at s r) ((y s).next ∙ (x s).next) ((y s).window ∙ (x s).window) ((y s).told ∙ (x s).told);
  passes = λ d p s. ⊎_elim
      (λ own. subst (λ t. SameTold (end_at t p) (end_at t (passed d p))) own (passed_own d p))
      (λ away. subst (λ t. SameTold (end_at t p) (end_at t (passed d p))) away (passed_other d p))
      (sides s (side_of d));
}
  where
    by : (s : Side) (ds : List Duty) (p : PathState Carried) → SameTold (end_at s p) (end_at s (with_agenda ds p))
    by A ds p = calm p.a p.a refl refl refl
    by B ds p = calm p.b p.b refl refl refl

-- what resets the end stands
settled_resets : (t : Side) (ds : List Duty) (p : PathState Carried) → IsToReset t ds → IsToReset t (settled ds p).agenda
settled_resets t ds p (resetting.broken reason is) = subst (λ es. IsToReset t (settled es p).agenda) (sym is) (resetting.broken reason refl)
settled_resets t ds p (resetting.is_reset reason is) = subst (λ es. IsToReset t (settled es p).agenda) (sym is) (resetting.is_reset reason refl)
settled_resets t ds p (resetting.stopped is) = subst (λ es. IsToReset t (settled es p).agenda) (sym is) (resetting.stopped refl)

-- ---- a turn

module _ (d : Duty) (ds : List Duty) (r : Reply) (p : PathState Carried) where
  abbrev x : PathState Carried
  x = with_agenda (d ∷ ds) p

  abbrev y : PathState Carried
  y = answered values d r x

  abbrev z : PathState Carried
  z = takes values r x

  same_then : (t : Side) → SameTold (end_at t y) (end_at t z)
  same_then t = settled_lasts AllSame same_lasts y.agenda y t

  kept_on : (t : Side) → (end_at t y).receiving.next ≡ (end_at t x).receiving.next → (end_at t y).receiving.window ≡ (end_at t x).receiving.window → TellsEdge (end_at t x) (end_at t y) → ToldOn t x z
  kept_on t next window tells =
      let then_so = same_then t in
      told_on.keeps (next_on (end_at t x) (end_at t y) (end_at t z) then_so next) (window_on (end_at t x) (end_at t y) (end_at t z) then_so window) (edge_on (end_at t x) (end_at t y) (end_at t z) then_so tells)

  same_on : (t : Side) → SameTold (end_at t x) (end_at t y) → ToldOn t x z
  same_on t s = kept_on t s.next s.window (inl s.told)

  asked_on : (t : Side) (e : Duty) → d ≡ e → asks_book e ≡ true → side_of e ≡ t → told (end_at t y) ≡ told (end_at t x) → ToldOn t x z
  asked_on t (duties.Ask (ask_duties.Window s)) is book own same =
      told_on.begins ds (ap (λ e. e ∷ ds) (is ∙ ap (λ u. duties.Ask (ask_duties.Window u)) own)) ((same_then t).told ∙ same)
  asked_on t (duties.Ask (ask_duties.AckOut s)) is book own same = told_on.asks ds (ap (λ e. e ∷ ds) (is ∙ ap (λ u. duties.Ask (ask_duties.AckOut u)) own)) ((same_then t).told ∙ same)
  asked_on t (duties.Ask (ask_duties.BreakAck s reason)) is book own same = told_on.breaks (inr (settled_resets t y.agenda y (resetting.is_reset reason
      (subst (λ (e : Duty). (answered values e r (with_agenda (e ∷ ds) p)).agenda ≡ resets t reason) (sym (is ∙ ap (λ u. duties.Ask (ask_duties.BreakAck u reason)) own)) refl))))
  asked_on t e is book own same = absurd (true≢false (sym book))

  own_on : (t : Side) → side_of d ≡ t → TellsBy d t (end_at t x) (end_at t y) y.agenda → ToldOn t x z
  own_on t own (keeps next window tells) = kept_on t next window tells
  own_on t own (asks book same) = asked_on t d refl book own same
  own_on t own (dies_now gone) = told_on.dies (gone_stays (end_at t y) (end_at t z) (settled_far values d ds r p t) gone)
  own_on t own (breaks_now is) = told_on.breaks (inr (settled_resets t y.agenda y is))

  duty_on : (t : Side) → is_event d ≡ false → ToldOn t x z
  duty_on t other = ⊎_elim
      (λ own. own_on t own (subst (λ u. TellsBy d u (end_at u x) (end_at u y) y.agenda) own (own_tells d r x other)))
      (λ away. same_on t (subst (λ u. SameTold (end_at u x) (end_at u y)) away (other_same d r x other)))
      (sides t (side_of d))

first_told_on : (d : Duty) (ds : List Duty) (r : Reply) (p : PathState Carried) (t : Side) → let v : PathState Carried = with_agenda (d ∷ ds) p in ToldOn t v (takes values r v)
first_told_on (duties.Step step_duties.Events) ds r p t = same_on (duties.Step step_duties.Events) ds r p t (event_same r (with_agenda (duties.Step step_duties.Events ∷ ds) p) t)
first_told_on d ds r p t = duty_on d ds r p t refl

takes_told : (r : Reply) (p : PathState Carried) (t : Side) → ToldOn t p (takes values r p)
takes_told r p t = by p.agenda
  where
    by : (ds : List Duty) → let v : PathState Carried = with_agenda ds p in ToldOn t v (takes values r v)
    by [] = told_on.keeps refl refl (inl refl)
    by (d ∷ ds) = first_told_on d ds r p t

next_told : (p : PathState Carried) (t : Side) → ToldOn t p (next_round p)
next_told p t =
    let moved : PathState Carried = record p { clock = p.until; until = p.until + 100 } in
    let s = begins_lasts AllSame same_lasts moved t in
    by t s.next s.window s.told
  where
    by : (t : Side) → (end_at t (next_round p)).receiving.next ≡ (end_at t (record p { clock = p.until; until = p.until + 100 })).receiving.next
        → (end_at t (next_round p)).receiving.window ≡ (end_at t (record p { clock = p.until; until = p.until + 100 })).receiving.window
        → told (end_at t (next_round p)) ≡ told (end_at t (record p { clock = p.until; until = p.until + 100 })) → ToldOn t p (next_round p)
    by A next window same = told_on.keeps next window (inl same)
    by B next window same = told_on.keeps next window (inl same)

-- ---- the window's growth

same_grown : (c d : Profile) (e f : PathEnd) → d ≡ c → SameTold e f → has_grown d f ≡ has_grown c e
same_grown c d e f profile x =
    ap (λ (y : Profile). has_grown y f) profile
    ∙ ap (λ n. nat_le (min c.buffer (4 * c.mss)) (2 * ((n + window_told false f.receiving.window) - f.receiving.told_edge))) x.next
    ∙ ap (λ n. nat_le (min c.buffer (4 * c.mss)) (2 * ((e.receiving.next + window_told false n) - f.receiving.told_edge))) x.window
    ∙ ap (λ n. nat_le (min c.buffer (4 * c.mss)) (2 * ((e.receiving.next + window_told false e.receiving.window) - n))) x.told

abbrev SameProfile : PathState Carried → PathState Carried → Type 0
SameProfile p q = q.profile ≡ p.profile

profile_lasts : Lasts SameProfile
profile_lasts = record { agenda = λ ds p. refl; chains = λ p q r x y. y ∙ x; passes = λ d p. ap (λ (v : PathView Carried). v.profile) (passes_no_more d p).same }

settled_updates : (t : Side) (others : List Duty) (y : PathState Carried) → is_connected (end_at t y).tcp.state ≡ true → let z : PathState Carried = settled (duties.Send (send_duties.Update t) ∷ others) y in
    (z.agenda ≡ duties.Send (send_duties.Update t) ∷ others) ⊎ (has_grown z.profile (end_at t z) ≡ false)
settled_updates t others y connected = (elim (is_update_due y.profile (end_at t y)) as
    (λ b. is_update_due y.profile (end_at t y) ≡ b → let z : PathState Carried = if b then with_agenda (duties.Send (send_duties.Update t) ∷ others) y else settled others y in
    (z.agenda ≡ duties.Send (send_duties.Update t) ∷ others) ⊎ (has_grown z.profile (end_at t z) ≡ false)) [
      | true ↦ λ is. inl refl
      | false ↦ λ quiet. inr (same_grown y.profile (settled others y).profile (end_at t y) (end_at t (settled others y)) (settled_lasts SameProfile profile_lasts others y) (settled_lasts AllSame same_lasts others y t)
          ∙ ap (λ b. b && has_grown y.profile (end_at t y)) (sym connected) ∙ quiet)
    ]) refl

takes_updates : (r : Reply) (p : PathState Carried) (t : Side) → UpdatesIfGrown t p (takes values r p)
takes_updates r p t others is connected = inr (subst (λ ds. let v : PathState Carried = takes values r (with_agenda ds p) in (v.agenda ≡ duties.Send (send_duties.Update t) ∷ others) ⊎ (has_grown v.profile (end_at t v) ≡ false)) (sym is)
    (settled_updates t others y (ap (λ (f : PathEnd). is_connected f.tcp.state) (own_end t (after_ack_out r (end_at t p)) p.a p.b) ∙ connected)))
  where
    d : Duty
    d = duties.Ask (ask_duties.Window t)

    y : PathState Carried
    y = answered values d r (with_agenda (d ∷ duties.Send (send_duties.Update t) ∷ others) p)

next_updates : (p : PathState Carried) (t : Side) → is_nil p.agenda ≡ true → UpdatesIfGrown t p (next_round p)
next_updates p t over others is connected = absurd (true≢false (sym over ∙ ap is_nil is))

-- ---- what an Update tells

all_told : (e f : PathEnd) → SameTold e f → told e ≡ tellable_edge e → told f ≡ tellable_edge f
all_told e f x is = x.told ∙ is ∙ sym (ap (λ n. n + window_told false f.receiving.window) x.next ∙ ap (λ n. e.receiving.next + window_told false n) x.window)

takes_all : (r : Reply) (p : PathState Carried) (t : Side) → UpdatesTellAll t p (takes values r p)
takes_all r p t others is = inr (⊎_elim (λ update. at (duties.Send (send_duties.Update t)) (own refl) update) (λ ack. at (duties.Send (send_duties.Acknowledge t)) (own refl) ack) is)
  where
    own : {f : PathEnd} → f ≡ having_sent to_send.Ack p.clock (ack_segment t p) (end_at t p) → told (pick t (pick t f p.a) (pick t p.b f)) ≡ tellable_edge (pick t (pick t f p.a) (pick t p.b f))
    own {f} so = subst (λ (g : PathEnd). told g ≡ tellable_edge g) (sym (own_end t f p.a p.b)) (subst (λ (g : PathEnd). told g ≡ tellable_edge g) (sym so) refl)

    at : (d : Duty) → (let y : PathState Carried = answered values d r (with_agenda (d ∷ others) p) in told (end_at t y) ≡ tellable_edge (end_at t y)) → p.agenda ≡ d ∷ others
        → let z : PathState Carried = takes values r p in told (end_at t z) ≡ tellable_edge (end_at t z)
    at d now first = subst (λ ds. let z : PathState Carried = takes values r (with_agenda ds p) in told (end_at t z) ≡ tellable_edge (end_at t z)) (sym first)
        (all_told (end_at t (answered values d r (with_agenda (d ∷ others) p))) (end_at t (takes values r (with_agenda (d ∷ others) p))) (same_then d others r p t) now)

next_all : (p : PathState Carried) (t : Side) → is_nil p.agenda ≡ true → UpdatesTellAll t p (next_round p)
next_all p t over others is = absurd (true≢false (sym over ∙ ⊎_elim (λ first. ap is_nil first) (λ first. ap is_nil first) is))

-- ---- the world

abbrev ToldTo : Actor Carried → Actor Carried → Type 0
ToldTo (Path p) (Path q) = (t : Side) → ToldOn t p q × UpdatesIfGrown t p q × UpdatesTellAll t p q
ToldTo (App a) (App b) = Unit {0}
ToldTo _ _ = ⊥

same_to : (m : Actor Carried) → ToldTo m m
same_to (App a) = tt
same_to (Path p) = λ t. (told_on.keeps refl refl (inl refl), λ others is connected. inl refl, λ others is. inl refl)

member_to : (r : Reply) (m : Actor Carried) → ToldTo m (member_takes values r m)
member_to r (App a) = tt
member_to r (Path p) = λ t. (takes_told r p t, takes_updates r p t, takes_all r p t)

member_begins : (m : Actor Carried) → is_over m ≡ true → ToldTo m (member_next m)
member_begins (App a) over = tt
member_begins (Path p) over = λ t. (next_told p t, next_updates p t over, next_all p t over)

pub what_is_told_goes_on : WhatIsToldGoesOn
what_is_told_goes_on start turns turn p q here there t =
    let w : WorldState Carried = reached values start turns in
    let found = turn_each values (λ c d. ToldTo c.member d.member) (λ c. same_to c.member) (λ ask books c. member_to (answer_to books ask) c.member) (λ stamp c over. member_begins c.member over) turn w 2 here.crew here.there in
    let to : ToldTo here.crew.member there.crew.member = subst (λ (y : ActorCrew Carried). ToldTo here.crew.member y.member) (same_Some found.0 there.crew (sym found.1 ∙ there.there)) found.2 in
    let path : ToldTo (Path p) (Path q) = subst (λ m. ToldTo m (Path q)) here.is (subst (λ m. ToldTo here.crew.member m) there.is to) in path t
