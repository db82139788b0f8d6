-- RCV.NXT of an end rises over octets alone while the end owes an acknowledgement: what holds of its agenda, by each duty.
use Rattle.std.proofs.Common.{◌≡◌, refl, sym, subst, ap, ◌∙◌, ◌⊎◌, inl, inr, ⊎_elim, ℕ, zero, suc, ◌+◌, ◌≤◌, arith, Bool, true, false, true≢false, if◌then◌else◌, Option, Some, None, List, [], ◌∷◌, drop, length}
use Rattle.std.specs.Prelude.{IsSome}
use Rattle.sides.specs.declared.side.Side.{Side}
use Rattle.std.proofs.lemmas.Bool.{cases_lt}
use Rattle.path_segments.specs.Heard.{HeardSegment}
use Rattle.sides.specs.declared.side.Side.TheVariants.{A, B}
use Rattle.sides.specs.Side.{peer}
use Rattle.link_model.specs.declared.flight.Due.{Due as Arriving}
use Rattle.link_model.specs.Steps.{after_delivery, arriving}
use Rattle.subflow_recv.specs.Receiving.{Receiving}
use Rattle.subflow_tcp.specs.declared.dues.Due.{Due}
use Rattle.subflow_tcp.specs.declared.verdicts.Meaning.{Meaning}
use Rattle.subflow_tcp.specs.declared.verdicts.Meaning.TheVariants as means
use Rattle.subflow_tcp.specs.Expiring.{after_expiry, is_sixth}
use Rattle.subflow_tcp.specs.Segments.{occupied}
use Rattle.subflow_tcp.specs.State.{EndState}
use Rattle.subflow_tcp.specs.Taking.{after_death, after_established, after_heard_ack, after_hearing, after_payload}
use Rattle.actor_desk.specs.declared.ask.Reply.{Reply}
use Rattle.actor_desk.specs.Words.{pick, tail_of}
use Rattle.path_agenda.specs.Agenda.{copy_came, emission, heard_and, join_answered, leaves, payload_came, syn_ack_came}
use Rattle.path_agenda.specs.declared.duty.Duty.{Duty}
use Rattle.path_agenda.specs.declared.duty.Duty.TheVariants as duties
use Rattle.path_agenda.specs.declared.duty.AskDuty.TheVariants as ask_duties
use Rattle.path_agenda.specs.declared.duty.SendDuty.TheVariants as send_duties
use Rattle.path_agenda.specs.declared.duty.SilentDuty.TheVariants as silent_duties
use Rattle.path_agenda.specs.declared.duty.StepDuty.TheVariants as step_duties
use Rattle.path_store.specs.Passing.{Piece}
use Rattle.path_store.specs.declared.lines.LineAction.{LineAction}
use Rattle.path_store.specs.declared.lines.LineAction.TheVariants as actions
use Rattle.path_core.specs.Addresses.{with_priority}
use Rattle.path_core.specs.Arrival.{after_judged, copy_heard, copy_judged, copy_of, heard_in, judged_in, reset_for, template_by, template_judged, with_payload}
use Rattle.path_core.specs.Codec.{Codec}
use Rattle.path_core.specs.Deliver.{after_keep, answered_piece, is_placed, next_piece}
use Rattle.path_core.specs.DssIn.{held_of}
use Rattle.path_core.specs.Duties.{answered, passed, stands}
use Rattle.path_core.specs.End.{PathEnd}
use Rattle.path_core.specs.Events.{after_line, happens_if, next_event}
use Rattle.path_core.specs.Judged.{taken_as}
use Rattle.path_core.specs.Looking.{duty_sends}
use Rattle.path_core.specs.MpJoin.{is_joined, is_never, joins_at_tick, keys_begun, never_joined, opened_by}
use Rattle.path_core.specs.OptionsIn.{hint_of, items_of, options_heard, owes_by}
use Rattle.path_core.specs.Profile.{Profile}
use Rattle.path_core.specs.State.{PathState, at_tick, end_at, goes_on, with_agenda}
use Rattle.path_core.specs.Steps.{settled}
use Rattle.path_core.specs.Timer.{after_firing, template_fired, timer_fired}
use Rattle.path_core.specs.declared.events.Event.{Event}
use Rattle.path_core.specs.declared.events.Event.TheVariants as happenings
use Rattle.path_core.specs.declared.judged.Judged.{Judged}
use Rattle.path_core.specs.declared.judged.Judged.TheVariants as judged
use Rattle.world_laws.specs.Writes.{EndView, Only, OnlyAt, PathView, Writes, nothing, side_of, writes}
use Rattle.world_laws.proofs.Writes.Paths.{passes_no_more}
use Rattle.world_laws.proofs.Writes.Steps.{unwritten}
use Rattle.whole_paths.specs.AgendaSteps.{Follows, hears_join, is_gone, is_of_both, is_silent}
use Rattle.whole_paths.specs.AgendaSteps.{Follows as follow}
use Rattle.whole_paths.specs.Brought.{IsToReset, KeepsNext, comes_before_keeping}
use Rattle.whole_paths.specs.Brought.{IsToReset as resetting}
use Rattle.whole_paths.specs.Mild.{is_harsh}
use Rattle.whole_paths.specs.News.{one_if}
use Rattle.whole_paths.proofs.Acking.{owing_due}
use Rattle.whole_paths.proofs.Agendas.{own_end}
use Rattle.whole_paths.proofs.Bringing.{first_so}
use Rattle.whole_paths.proofs.Duties.{answered_steps, passed_steps}
use Rattle.whole_paths.proofs.Moving.{answered_other_recv, passed_other_recv, taken_recv}
use Rattle.whole_paths.proofs.Passing.{Leads, Quiet, Ready, died_now, heard_modes, heard_recv, is_other}
use Rattle.whole_paths.proofs.Passing.{Ready as ready}
use Rattle.whole_paths.proofs.Paying.{Pays, answered_pays, passed_due, sends_on}
use Rattle.whole_paths.proofs.Paying.{Owed as owes_on}
use Rattle.whole_paths.proofs.Paying.{Pays as pay}
use Rattle.whole_paths.proofs.Pieces.{is_event}
use Rattle.whole_paths.proofs.Settling.{sides}
use Rattle.whole_paths.proofs.Staying.{Soon, copy_soon, then_soon}
use Rattle.whole_paths.proofs.Treating.{Before, before_answers}
use Rattle.whole_paths.proofs.Treating.{Before as before}
use Rattle.whole_paths.proofs.Treating.{Leads as Following}
use Rattle.whole_paths.proofs.Treating.Leads.{as_they_are, one_more}
use Rattle.whole_paths.proofs.Unpassed.{Calm, EdgeNext, EdgeSoon, Empty, Idle, NoEdge, StaysCalm, StaysIdle, calm_by, here_idle, is_edge, kept_idle, no_edge_follows, no_edge_let, no_edge_rest, opened_idle, own_calm, own_idle, passed_calm, passed_idle, passed_infinite}
use Rattle.whole_paths.proofs.Unpassed.{Calm as calms}
use Rattle.whole_paths.proofs.Waiting.{gone_stays, path_far}

-- ---- what holds of an end, by what is still to be done

pub data Treats (t : Side) (c : Profile) (ds : List Duty) (e : PathEnd) : Type 0 where
  -- the end is dead
  over : is_gone e ≡ true → Treats t c ds e
  -- nothing is to be passed
  rests : Idle e → NoEdge t ds → Treats t c ds e
  -- an acknowledgement is due, and a payload is held but before it is kept
  owes : e.tcp.due.ack ≡ true → Idle e ⊎ Soon t ds → Treats t c ds e
  -- nothing comes of the copy
  bare : Empty c e → EdgeSoon t ds → Treats t c ds e
  -- an infinite mapping, or a reset, as in no mild connection
  infinite : IsSome e.modes.peer_infinite → Treats t c ds e
  broken : IsToReset t ds → Treats t c ds e

-- a duty that sends is neither silent, nor does it stand before the payload is kept
pub never_silent : (d : Duty) → sends_on d ≡ true → is_silent d ≡ true → ⊥
never_silent (duties.Ask d) on silent = true≢false (sym on)
never_silent (duties.Silent d) on silent = true≢false (sym on)
never_silent (duties.Step (step_duties.Data s)) on silent = true≢false (sym silent)
never_silent (duties.Step (step_duties.Heard s index)) on silent = true≢false (sym on)
never_silent (duties.Step d) on silent = true≢false (sym on)
never_silent (duties.Send d) on silent = true≢false (sym silent)
never_silent duties.End on silent = true≢false (sym on)

never_before : (d : Duty) → sends_on d ≡ true → comes_before_keeping d ≡ true → ⊥
never_before (duties.Send d) on first = true≢false (sym first)
never_before (duties.Step (step_duties.Data s)) on first = true≢false (sym first)
never_before (duties.Step (step_duties.Heard s index)) on first = true≢false (sym on)
never_before (duties.Step d) on first = true≢false (sym on)
never_before (duties.Ask d) on first = true≢false (sym on)
never_before _ on first = true≢false (sym on)

never_leads : (t : Side) (d : Duty) (ds : List Duty) → sends_on d ≡ true → Leads t d ds → ⊥
never_leads t (duties.Ask (ask_duties.Edge u)) ds on lead = true≢false (sym on)
never_leads t (duties.Ask (ask_duties.BreakAck u reason)) ds on lead = true≢false (sym on)
never_leads t (duties.Send (send_duties.BreakReset u reason)) ds on lead = true≢false (sym on)
never_leads t (duties.Send (send_duties.Reset u)) ds on lead = true≢false (sym on)
never_leads t _ ds on lead = lead

pub never_both : (d : Duty) → is_silent d ≡ true → is_of_both d ≡ true → ⊥
never_both (duties.Step step_duties.Events) silent both = true≢false (sym silent)
never_both duties.End silent both = true≢false (sym silent)
never_both d silent both = true≢false (sym both)

pub never_joins : (d : Duty) → is_silent d ≡ true → hears_join d ≡ true → ⊥
never_joins (duties.Ask (ask_duties.JoinHeard s)) silent joins = true≢false (sym silent)
never_joins d silent joins = true≢false (sym joins)

-- what no mild connection has
pub record IsMildAt (t : Side) (d : Duty) (ds : List Duty) (e : PathEnd) : Type 0 where
  pub harsh : is_harsh d ≡ false
  pub finite : IsSome e.modes.peer_infinite → ⊥
  pub whole : IsToReset t (d ∷ ds) → ⊥

edge_side : (t : Side) (d : Duty) (ds : List Duty) → EdgeNext t d ds → (is_edge d ≡ true) × (side_of d ≡ t)
edge_side t (duties.Ask (ask_duties.Edge u)) ds next = (refl, next.0)
edge_side t _ ds next = absurd next

module _ {C : Type 0} where
  -- ---- a duty that is passed

  idle_passes : (t : Side) (d : Duty) (p : PathState C) → Idle (end_at t p) → Idle (end_at t (passed d p))
  idle_passes t d p h = ⊎_elim
      (λ own. subst (λ u. Idle (end_at u p) → Idle (end_at u (passed d p))) own (passed_idle d p) h)
      (λ away. subst (λ u. Idle (end_at u p) → Idle (end_at u (passed d p))) away (λ h. ap (λ (v : Receiving). v.incoming) (passed_other_recv d p) ∙ h) h)
      (sides t (side_of d))

  keep_passes : (t : Side) (d : Duty) (ds : List Duty) (p : PathState C) → KeepsNext t (d ∷ ds) → Idle (end_at t (passed d p))
  keep_passes t (duties.Silent (silent_duties.Keep u)) ds p own =
      subst (λ s. Idle (end_at s (passed (duties.Silent (silent_duties.Keep u)) p))) own (here_idle u (after_keep u (end_at u p)) p.a p.b (kept_idle u (end_at u p)))
  keep_passes t _ ds p own = absurd own

  edge_passes : (t : Side) (c : Profile) (d : Duty) (ds : List Duty) (p : PathState C) → Idle (end_at t (passed d p)) → EdgeNext t d ds → Treats t c ds (end_at t (passed d p))
  edge_passes t c (duties.Ask (ask_duties.Edge u)) ds p idle next = rests idle next.1
  edge_passes t c _ ds p idle next = absurd next

  other_same : (s : Side) (w : Writes) (p q : PathState C) → w.other ≡ nothing → OnlyAt s w p q → (end_at (peer s) q).modes.peer_infinite ≡ (end_at (peer s) p).modes.peer_infinite
  other_same s w p q none x =
      let only : Only nothing (end_at (peer s) p) (end_at (peer s) q) = subst (λ v. Only v (end_at (peer s) p) (end_at (peer s) q)) none (record { same = ap (λ (v : PathView C). v.other) x.same }) in
      unwritten false (end_at (peer s) p).modes.peer_infinite (end_at (peer s) q).modes.peer_infinite refl (ap (λ (v : EndView). v.peer_infinite) only.same)

  -- a reset is never passed
  reset_stands : (t : Side) (d : Duty) (ds : List Duty) (p : PathState C) → stands d p ≡ false → IsToReset t (d ∷ ds) → ⊥
  reset_stands t d ds p quiet (resetting.broken reason is) = true≢false (subst (λ (x : Duty). stands x p ≡ false) (first_so d (duties.Ask (ask_duties.BreakAck t reason)) ds _ is) quiet)
  reset_stands t d ds p quiet (resetting.is_reset reason is) = true≢false (subst (λ (x : Duty). stands x p ≡ false) (first_so d (duties.Send (send_duties.BreakReset t reason)) ds _ is) quiet)
  reset_stands t d ds p quiet (resetting.stopped is) = true≢false (subst (λ (x : Duty). stands x p ≡ false) (first_so d (duties.Ask (ask_duties.AbortSend t)) ds _ is) quiet)

  pub other_infinite : (d : Duty) (p : PathState C) → (end_at (peer (side_of d)) (passed d p)).modes.peer_infinite ≡ (end_at (peer (side_of d)) p).modes.peer_infinite
  other_infinite (duties.Step step_duties.Events) p = refl
  other_infinite d p = other_same (side_of d) (writes d) p _ refl (passes_no_more d p)

  passed_treats : (t : Side) (d : Duty) (ds : List Duty) (p : PathState C) → stands d p ≡ false → Treats t p.profile (d ∷ ds) (end_at t p) → Treats t p.profile ds (end_at t (passed d p))
  passed_treats t d ds p quiet h = by h
    where
      c : Profile
      c = p.profile

      q : PathState C
      q = passed d p

      calm_then : EdgeSoon t ds → Calm c (end_at t q) → Treats t c ds (end_at t q)
      calm_then soon (calms.empty x) = bare x soon
      calm_then soon (calms.by_infinite some) = infinite some
      calm_then soon (calms.gone dead) = over dead

      infinite_stays : (end_at t q).modes.peer_infinite ≡ (end_at t p).modes.peer_infinite
      infinite_stays = ⊎_elim
          (λ own. subst (λ u. (end_at u q).modes.peer_infinite ≡ (end_at u p).modes.peer_infinite) own (passed_infinite d p))
          (λ away. subst (λ u. (end_at u q).modes.peer_infinite ≡ (end_at u p).modes.peer_infinite) away (other_infinite d p))
          (sides t (side_of d))

      by : Treats t c (d ∷ ds) (end_at t p) → Treats t c ds (end_at t q)
      by (over dead) = over (gone_stays (end_at t p) (end_at t q) (path_far p q (passed_steps d p) t) dead)
      by (rests idle none) = rests (idle_passes t d p idle) (no_edge_rest t d ds none)
      by (owes due (inl idle)) = owes (ap (λ (x : Due). x.ack) (passed_due t d p) ∙ due) (inl (idle_passes t d p idle))
      by (owes due (inr (inl next))) = owes (ap (λ (x : Due). x.ack) (passed_due t d p) ∙ due) (inl (keep_passes t d ds p next))
      by (owes due (inr (inr soon))) = owes (ap (λ (x : Due). x.ack) (passed_due t d p) ∙ due) (inr soon.1.1)
      by (bare x (inl next)) = edge_passes t c d ds p (idle_passes t d p x.idle) next
      by (bare x (inr soon)) = calm_then soon.1.1 ((subst (λ u. StaysCalm c (end_at u p) (end_at u q)) soon.0 (record { stays = passed_calm d p })).stays x)
      by (infinite some) = infinite (subst IsSome (sym infinite_stays) some)
      by (broken is) = absurd (reset_stands t d ds p quiet is)

  -- what stands first isn't passed
  pub record Settled (t : Side) (p : PathState C) : Type 0 where
    pub treats : Treats t p.profile p.agenda (end_at t p)
    pub first : KeepsNext t p.agenda → ⊥

  keep_stands : (t : Side) (d : Duty) (ds : List Duty) (p : PathState C) → stands d p ≡ true → KeepsNext t (d ∷ ds) → ⊥
  keep_stands t (duties.Silent (silent_duties.Keep u)) ds p is next = true≢false (sym is)
  keep_stands t _ ds p is next = next

  pub settled_treats : (t : Side) (ds : List Duty) (p : PathState C) → Treats t p.profile ds (end_at t p) → Settled t (settled ds p)
  settled_treats t [] p h = record { treats = h; first = λ next. next }
  settled_treats t (d ∷ ds) p h = by (stands d p) refl (λ quiet. settled_treats t ds (passed d p)
      (subst (λ c. Treats t c ds (end_at t (passed d p))) (sym (ap (λ (v : PathView C). v.profile) (passes_no_more d p).same)) (passed_treats t d ds p quiet h)))
    where
      by : (b : Bool) → stands d p ≡ b → (stands d p ≡ false → Settled t (settled ds (passed d p))) → Settled t (if b then with_agenda (d ∷ ds) p else settled ds (passed d p))
      by true is rest = record { treats = h; first = keep_stands t d ds p is }
      by false is rest = rest is

  -- ---- a duty that is answered

  edge_refused : (k : Codec C) (t u : Side) (ds : List Duty) (r : Reply) (p : PathState C) → u ≡ t → next_piece p.profile (end_at t p) ≡ None
      → let q : PathState C = answered k (duties.Ask (ask_duties.Edge u)) r (with_agenda (duties.Ask (ask_duties.Edge u) ∷ ds) p) in Treats t p.profile q.agenda (end_at t q)
  edge_refused k t u ds r p own none =
      subst (λ s. next_piece p.profile (end_at s p) ≡ None → let q : PathState C = answered k (duties.Ask (ask_duties.Edge u)) r (with_agenda (duties.Ask (ask_duties.Edge u) ∷ ds) p) in Treats s p.profile q.agenda (end_at s q)) own
      (λ none. subst (λ (o : Option Piece). let q : PathState C = answered_piece u o (is_placed r) (with_agenda (duties.Ask (ask_duties.Edge u) ∷ ds) p) in Treats u p.profile q.agenda (end_at u q)) (sym none) (broken (resetting.broken 1 refl))) none

  -- nothing is to be passed where the edge is asked for
  edge_treats : (k : Codec C) (t : Side) (d : Duty) (ds : List Duty) (r : Reply) (p : PathState C) → is_edge d ≡ true → side_of d ≡ t → next_piece p.profile (end_at t p) ≡ None
      → let q : PathState C = answered k d r (with_agenda (d ∷ ds) p) in Treats t p.profile q.agenda (end_at t q)
  edge_treats k t (duties.Ask (ask_duties.Edge u)) ds r p edge own none = edge_refused k t u ds r p own none
  edge_treats k t _ ds r p edge own none = absurd (true≢false (sym edge))

  idle_answers : (k : Codec C) (t : Side) (d : Duty) (r : Reply) (p : PathState C) → is_event d ≡ false → StaysIdle (end_at t p) (end_at t (answered k d r p))
  idle_answers k t d r p other =
      let q : PathState C = answered k d r p in
      ⊎_elim
      (λ own. subst (λ u. StaysIdle (end_at u p) (end_at u q)) own (record { stays = own_idle k d r p other }))
      (λ away. subst (λ u. StaysIdle (end_at u p) (end_at u q)) away (record { stays = λ h. ap (λ (v : Receiving). v.incoming) (answered_other_recv k d r p other) ∙ h }))
      (sides t (side_of d))

  module _ (k : Codec C) (t : Side) (d : Duty) (ds : List Duty) (r : Reply) (p : PathState C) where
    abbrev x : PathState C
    x = with_agenda (d ∷ ds) p

    abbrev q : PathState C
    q = answered k d r x

    c : Profile
    c = p.profile

    stays_gone : is_gone (end_at t x) ≡ true → is_gone (end_at t q) ≡ true
    stays_gone dead = gone_stays (end_at t x) (end_at t q) (path_far x q (answered_steps k d r x) t) dead

    abbrev Next : Type 0
    Next = Treats t p.profile q.agenda (end_at t q)

    -- an acknowledgement goes, or something else, which has nothing to be passed behind it
    sent_treats : is_event d ≡ false → sends_on d ≡ true → Follows (side_of d) (is_gone (end_at (side_of d) q)) d ds q.agenda → Ready t (d ∷ ds) p.profile (end_at t p) → Idle (end_at t x) → Next
    sent_treats other on follows (ready.is_dead_now dead) idle = over (stays_gone dead)
    sent_treats other on follows (ready.is_quiet h lets) idle = rests ((idle_answers k t d r x other).stays idle) (no_edge_follows t (side_of d) (is_gone (end_at (side_of d) q)) d ds q.agenda follows (no_edge_let t _ (d ∷ ds) lets))
    sent_treats other on follows (ready.passes low ahead) idle = absurd (⊎_elim (never_leads t d ds on) (λ rest. never_silent d on rest.1.0) ahead)

    -- the payload is held until it is kept
    soon_treats : side_of d ≡ t → comes_before_keeping d ≡ true → Soon t ds → (end_at t q).tcp.due.ack ≡ true → Next
    soon_treats own first soon due = by (subst (λ u. Before u ds (end_at u p) (end_at u q) q.agenda) own (before_answers k d ds r p first))
      where
        by : Before t ds (end_at t p) (end_at t q) q.agenda → Next
        by (before.on leaves leads) = on_then q.agenda leads
          where
            on_then : (next : List Duty) → Following t ds next → Treats t p.profile next (end_at t q)
            on_then next as_they_are = owes due (inr soon)
            on_then next (one_more e own first heard) = owes due (inr (then_soon t e ds own first soon))
        by (before.resets_then is) = broken is
        by (before.dies dead) = over dead

    -- nothing comes of the copy still
    bare_treats : Follows (side_of d) (is_gone (end_at (side_of d) q)) d ds q.agenda → side_of d ≡ t → is_silent d ≡ true → is_harsh d ≡ false → EdgeSoon t ds → Empty p.profile (end_at t q) → Next
    bare_treats follows own silent mild soon h = by q.agenda (subst (λ u. Follows u (is_gone (end_at u q)) d ds q.agenda) own follows)
      where
        by : (next : List Duty) → Follows t (is_gone (end_at t q)) d ds next → Treats t p.profile next (end_at t q)
        by next follow.goes_on = bare h soon
        by next follow.again = bare h (inr (own, (silent, soon)))
        by next (follow.told treats e side alone named other) = bare h (inr (side, (⊎_elim (λ is. is) (λ joins. absurd (never_joins d silent joins)) other, soon)))
        by next (follow.left dead) = over dead
        by next follow.noted = bare h (inr (refl, (refl, soon)))
        by next (follow.broken may reason) = broken (resetting.broken reason refl)
        by next (follow.is_reset may reason) = broken (resetting.is_reset reason refl)
        by next (follow.dead may dead) = over dead
        by next (follow.stopped may) = broken (resetting.stopped refl)
        by next (follow.over both) = absurd (never_both d silent both)

    calm_treats : Follows (side_of d) (is_gone (end_at (side_of d) q)) d ds q.agenda → side_of d ≡ t → is_silent d ≡ true → is_harsh d ≡ false → EdgeSoon t ds → Calm p.profile (end_at t q) → Next
    calm_treats follows own silent mild soon (calms.empty h) = bare_treats follows own silent mild soon h
    calm_treats follows own silent mild soon (calms.by_infinite some) = infinite some
    calm_treats follows own silent mild soon (calms.gone dead) = over dead

    silent_treats : Follows (side_of d) (is_gone (end_at (side_of d) q)) d ds q.agenda → side_of d ≡ t → is_silent d ≡ true → is_harsh d ≡ false → EdgeSoon t ds → Empty p.profile (end_at t p) → Next
    silent_treats follows own silent mild soon h = by (is_edge d) refl
      where
        by : (b : Bool) → is_edge d ≡ b → Next
        by true edge = edge_treats k t d ds r p edge own h.none
        by false other = calm_treats follows own silent mild soon ((subst (λ u. StaysCalm p.profile (end_at u x) (end_at u q)) own (record { stays = own_calm k d r x silent mild other })).stays h)

    still_treats : is_event d ≡ false → IsMildAt t d ds (end_at t p) → (KeepsNext t (d ∷ ds) → ⊥) → Idle (end_at t p) ⊎ Soon t (d ∷ ds) → (end_at t q).tcp.due.ack ≡ true → Next
    still_treats other mild first (inl idle) due = owes due (inl ((idle_answers k t d r x other).stays idle))
    still_treats other mild first (inr (inl next)) due = absurd (first next)
    still_treats other mild first (inr (inr soon)) due = soon_treats soon.0 soon.1.0 soon.1.1 due

    pub answered_treats : is_event d ≡ false → Follows (side_of d) (is_gone (end_at (side_of d) q)) d ds q.agenda → Ready t (d ∷ ds) p.profile (end_at t p) → IsMildAt t d ds (end_at t p) → (KeepsNext t (d ∷ ds) → ⊥)
        → Treats t p.profile (d ∷ ds) (end_at t p) → Next
    answered_treats other follows ready mild first h = by h
      where
        pays : Idle (end_at t p) ⊎ Soon t (d ∷ ds) → (end_at t p).tcp.due.ack ≡ true → Pays d (duty_sends d x) t (end_at t x) (end_at t q) → Next
        pays soon due (pay.owed (owes_on.still still)) = still_treats other mild first soon (still due)
        pays soon due (pay.owed (owes_on.dies_now dead)) = over dead
        pays soon due (pay.paid y sends own on side) =
            sent_treats other on follows ready (⊎_elim (λ idle. idle) (λ soon. absurd (⊎_elim first (λ keep. never_before d on keep.1.0) soon)) soon)

        by : Treats t p.profile (d ∷ ds) (end_at t p) → Next
        by (over dead) = over (stays_gone dead)
        by (rests idle none) = rests ((idle_answers k t d r x other).stays idle) (no_edge_follows t (side_of d) (is_gone (end_at (side_of d) q)) d ds q.agenda follows none)
        by (owes due soon) = pays soon due (answered_pays k t d r x other)
        by (bare h (inl next)) = let at = edge_side t d ds next in edge_treats k t d ds r p at.0 at.1 h.none
        by (bare h (inr soon)) = silent_treats follows soon.0 soon.1.0 mild.harsh soon.1.1 h
        by (infinite some) = absurd (mild.finite some)
        by (broken is) = absurd (mild.whole is)

-- ---- a copy

pub edge_copy : (s : Side) (count : ℕ) → EdgeSoon s (copy_came s count)
edge_copy s count =
    let edge : EdgeSoon s (drop 4 (payload_came s)) = inl (refl, tt) in
    let third : EdgeSoon s (drop 3 (payload_came s)) = inr (refl, (refl, edge)) in
    let second : EdgeSoon s (drop 2 (payload_came s)) = inr (refl, (refl, third)) in
    let first : EdgeSoon s (drop 1 (payload_came s)) = inr (refl, (refl, second)) in
    let payload : EdgeSoon s (payload_came s) = inr (refl, (refl, first)) in
    inr (refl, (refl, inr (refl, (refl, heard_soon 0 count payload))))
  where
    heard_soon : (from count : ℕ) → EdgeSoon s (payload_came s) → EdgeSoon s (heard_and s from count (payload_came s))
    heard_soon from zero soon = soon
    heard_soon from (suc count) soon = inr (refl, (refl, heard_soon (from + 1) count soon))

module _ (s t : Side) (away : s ≡ t → ⊥) where
  heard_away : (from count : ℕ) → NoEdge t (heard_and s from count (payload_came s))
  heard_away from zero = (away, tt)
  heard_away from (suc count) = heard_away (from + 1) count

  template_away : (joined : Bool) (count : ℕ) (m : Meaning) → NoEdge t (template_by joined s count m)
  template_away true count (means.Accepts pos) = tt
  template_away false count (means.Accepts pos) = tt
  template_away joined count (means.Taken pos acknowledged) = heard_away 0 count
  template_away joined count m = tt

  judged_away : (joined : Bool) (count : ℕ) (verdict : Judged) → NoEdge t (template_judged joined s count verdict)
  judged_away joined count (judged.As m) = template_away joined count m
  judged_away joined count verdict = tt

accepted_none : (s : Side) (joined : Bool) → NoEdge s (if joined then join_answered s else syn_ack_came s)
accepted_none s true = tt
accepted_none s false = tt

module _ (c : Profile) (s : Side) (now : ℕ) (x : HeardSegment) (count : ℕ) (e : PathEnd) (h : Quiet c e) (idle : Idle e) (bare_says : x.payload ≡ [] → held_of c s x ≡ []) where
  abbrev heard_as : Meaning → PathEnd
  heard_as m = copy_judged (is_joined c) (held_of c s x) (reset_for c s x) s now x m e

  abbrev Hears : Meaning → Type 0
  Hears m = Treats s c (template_by (is_joined c) s count m) (heard_as m)

  nil_payload : (octets : List ℕ) (n : ℕ) → length octets + n ≤ 0 → octets ≡ []
  nil_payload [] n few = refl
  nil_payload (octet ∷ octets) n few = absurd (omega (arith, few))

  -- without octets
  bare_hears : (pos a : ℕ) → x.payload ≡ [] → Hears (means.Taken pos a)
  bare_hears pos a none = by (calm_by c e f (record { recv = recv; mapped = λ pos. refl; plain = modes.0; infinite = modes.1 }) h.none (ap (λ (v : Receiving). v.incoming) recv ∙ idle) (bare_says none))
    where
      f : PathEnd
      f = heard_as (means.Taken pos a)

      recv : f.tcp.recv ≡ e.tcp.recv
      recv = taken_recv c s now x e pos a ∙ ap (λ octets. (with_payload (means.Taken pos a) octets e.tcp).recv) none

      modes : (f.modes.identity ≡ e.modes.identity) × (f.modes.peer_infinite ≡ e.modes.peer_infinite)
      modes = let m = means.Taken pos a in heard_modes (is_joined c) (items_of (is_joined c) s x) m x.options (with_payload m x.payload e.tcp).state e.modes

      by : Calm c f → Treats s c (copy_came s count) f
      by (calms.empty h) = bare h (edge_copy s count)
      by (calms.by_infinite some) = infinite some
      by (calms.gone dead) = over dead

  taken_hears : (pos a : ℕ) → Hears (means.Taken pos a)
  taken_hears pos a = ⊎_elim
      (λ some. owes (owing_due (owes_by (means.Taken pos a) (items_of (is_joined c) s x)) heard (copy_of x) some) (inr (copy_soon s count)))
      (λ few. bare_hears pos a (nil_payload x.payload (one_if x.syn + one_if x.fin) few))
      (cases_lt 0 (occupied (copy_of x)))
    where
      heard : EndState
      heard = after_heard_ack a (hint_of (items_of (is_joined c) s x)) now (copy_of x)
          (after_established (after_hearing (after_payload pos (hint_of (items_of (is_joined c) s x)) (copy_of x) (with_payload (means.Taken pos a) x.payload e.tcp))))

  other_idle : (m : Meaning) → is_other m ≡ true → Idle (heard_as m)
  other_idle m other = ap (λ (v : Receiving). v.incoming) (heard_recv c s now x count e h m other) ∙ idle

  meant : (m : Meaning) → Hears m
  meant (means.Taken pos a) = taken_hears pos a
  meant means.Kills = over refl
  meant (means.Accepts a) = rests (other_idle (means.Accepts a) refl) (accepted_none s (is_joined c))
  meant m = rests (other_idle m refl) tt

  judged_treats : (verdict : Judged) → Treats s c (template_judged (is_joined c) s count verdict) (heard_as (taken_as verdict))
  judged_treats (judged.As m) = meant m
  judged_treats verdict = rests (other_idle means.Ignored refl) tt

-- ---- an event

-- a copy without octets that comes next tells no mapping
abbrev pub BareSaysNothing : {C : Type 0} → Codec C → PathState C → Type 0
BareSaysNothing k p = (due : Arriving) → next_event p ≡ Some (happenings.Arrives due) → (x : HeardSegment) → heard_in k due.to (arriving due p.link) p ≡ Some x → x.payload ≡ []
    → held_of p.profile due.to (options_heard (end_at due.to p) x) ≡ []

pub apart : (s : Side) → s ≡ peer s → ⊥
apart A same = cc
apart B same = cc

fired_idle : (now : ℕ) (e : PathEnd) → Idle e → Idle (after_firing now e)
fired_idle now e h = elim (is_sixth e.tcp) as (λ b. (if b then after_death true e.tcp else after_expiry now e.tcp).recv.incoming ≡ None) [ true ↦ refl | false ↦ h ]

module _ {C : Type 0} where
  side_idle : (s t : Side) (f : PathEnd) (p q : PathState C) → q.a ≡ pick s f p.a → q.b ≡ pick s p.b f → (Idle (end_at s p) → Idle f) → Idle (end_at t p) → Idle (end_at t q)
  side_idle A A f p q a b x h = subst Idle (sym a) (x h)
  side_idle A B f p q a b x h = subst Idle (sym b) h
  side_idle B A f p q a b x h = subst Idle (sym a) h
  side_idle B B f p q a b x h = subst Idle (sym b) (x h)

  away_idle : (s : Side) (f : PathEnd) (p q : PathState C) → q.a ≡ pick s f p.a → q.b ≡ pick s p.b f → Idle (end_at (peer s) p) → Idle (end_at (peer s) q)
  away_idle A f p q a b h = subst Idle (sym b) h
  away_idle B f p q a b h = subst Idle (sym a) h

  module _ (k : Codec C) (r : Reply) (p : PathState C) where
    abbrev Then : Side → PathState C → Type 0
    Then t v = Treats t p.profile v.agenda (end_at t v)

    line_treats : (t : Side) (action : LineAction) (tick : ℕ) → Idle (end_at t p) → Then t (after_line action (record (at_tick tick p) { lines = tail_of p.lines }))
    line_treats A actions.Die tick idle = over (died_now p.a)
    line_treats B actions.Die tick idle = over (died_now p.b)
    line_treats t (actions.Prio s backup) tick idle =
        let x : PathState C = record (at_tick tick p) { lines = tail_of p.lines } in rests (side_idle s t (with_priority backup (end_at s p)) p (after_line (actions.Prio s backup) x) refl refl (λ h. h) idle) tt
    line_treats t (actions.Announce s id) tick idle = rests idle tt
    line_treats t (actions.Withdraw s id) tick idle = rests idle tt

    joins_treats : (t : Side) (tick : ℕ) → Idle (end_at t p) → Then t (joins_at_tick r (at_tick tick p))
    joins_treats t tick idle = by (is_never r)
      where
        x : PathState C
        x = record (at_tick tick p) { joined_at = None }

        by : (b : Bool) → Then t (if b then goes_on A (never_joined r x.a) (leaves A) x else goes_on A (opened_by (keys_begun r) x.a) (emission A) x)
        by true = rests (side_idle A t (never_joined r p.a) p (goes_on A (never_joined r x.a) (leaves A) x) refl refl (λ h. refl) idle) tt
        by false = rests (side_idle A t (opened_by (keys_begun r) p.a) p (goes_on A (opened_by (keys_begun r) x.a) (emission A) x) refl refl (opened_idle (keys_begun r) p.a) idle) tt

    fires_treats : (s t : Side) (tick : ℕ) → Idle (end_at t p) → Then t (timer_fired s (at_tick tick p))
    fires_treats s t tick idle =
        let x : PathState C = at_tick tick p in
        rests (side_idle s t (after_firing x.clock (end_at s x)) x (timer_fired s x) refl refl (fired_idle x.clock (end_at s x)) idle)
        (elim (is_sixth (end_at s x).tcp) as (λ sixth. NoEdge t (template_fired sixth s)) [ true ↦ tt | false ↦ tt ])

    abbrev came : Arriving → PathState C
    came due = record (at_tick due.tick p) { link = after_delivery due p.link }

    own_treats : (due : Arriving) (segment : HeardSegment) → Quiet p.profile (end_at due.to p) → (segment.payload ≡ [] → held_of p.profile due.to (options_heard (end_at due.to p) segment) ≡ []) → Idle (end_at due.to p)
        → Then due.to (copy_heard due.to (Some segment) (came due))
    own_treats due segment quiet says idle =
        let e : PathEnd = end_at due.to p in let x : HeardSegment = options_heard e segment in
        let verdict : Judged = judged_in (is_joined p.profile) due.to x e in let count : ℕ = length (items_of (is_joined p.profile) due.to x) in let now : ℕ = (came due).clock in
        subst (λ (g : PathEnd). Treats due.to p.profile (template_judged (is_joined p.profile) due.to count verdict) g)
        (sym (own_end due.to (after_judged p.profile due.to now x verdict e) p.a p.b))
        (judged_treats p.profile due.to now x count e quiet idle says verdict)

    away_treats : (due : Arriving) (segment : HeardSegment) → Idle (end_at (peer due.to) p) → Then (peer due.to) (copy_heard due.to (Some segment) (came due))
    away_treats due segment idle =
        let e : PathEnd = end_at due.to p in let x : HeardSegment = options_heard e segment in
        let verdict : Judged = judged_in (is_joined p.profile) due.to x e in
        rests (away_idle due.to (after_judged p.profile due.to (came due).clock x verdict e) (came due) (copy_heard due.to (Some segment) (came due)) refl refl idle)
        (judged_away due.to (peer due.to) (λ same. apart due.to same) (is_joined p.profile) (length (items_of (is_joined p.profile) due.to x)) verdict)

    copy_treats : (t : Side) (due : Arriving) → BareSaysNothing k p → next_event p ≡ Some (happenings.Arrives due) → Quiet p.profile (end_at t p) → Idle (end_at t p)
        → Then t (copy_heard due.to (heard_in k due.to (arriving due p.link) p) (came due))
    copy_treats t due says next quiet idle = by (heard_in k due.to (arriving due p.link) p) refl
      where
        by : (o : Option HeardSegment) → heard_in k due.to (arriving due p.link) p ≡ o → Then t (copy_heard due.to o (came due))
        by None is = rests idle tt
        by (Some segment) is = ⊎_elim
            (λ own. subst (λ u. Quiet p.profile (end_at u p) → Idle (end_at u p) → Then u (copy_heard due.to (Some segment) (came due))) own (λ quiet idle. own_treats due segment quiet (λ none. says due next segment is none) idle) quiet idle)
            (λ away. subst (λ u. Idle (end_at u p) → Then u (copy_heard due.to (Some segment) (came due))) away (λ idle. away_treats due segment idle) idle)
            (sides t due.to)

    pub event_treats : (t : Side) (o : Option Event) → next_event p ≡ o → BareSaysNothing k p → Quiet p.profile (end_at t p) → Idle (end_at t p) → Then t (happens_if k o r p)
    event_treats t None is says quiet idle = rests idle tt
    event_treats t (Some (happenings.Joins tick)) is says quiet idle = joins_treats t tick idle
    event_treats t (Some (happenings.Takes line)) is says quiet idle = line_treats t line.action line.tick idle
    event_treats t (Some (happenings.Arrives due)) is says quiet idle = copy_treats t due says is quiet idle
    event_treats t (Some (happenings.Fires s tick)) is says quiet idle = fires_treats s t tick idle
