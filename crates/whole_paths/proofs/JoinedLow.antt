-- As long as an end of a path that joins may send no DSS, it learned no mapping, sent nothing behind its SYN, and RCV.NXT is just behind its peer's SYN,
-- or behind a FIN that stands there (RFC 8684, section 3.2).
use Rattle.std.proofs.Common.{◌≡◌, refl, sym, subst, ap, ◌∙◌, ◌⊎◌, inl, inr, ⊎_elim, ℕ, zero, suc, ◌+◌, ◌-◌, ◌≤◌, ◌&&◌, ◌||◌, ◌^◌, arith, nat_le, nat_lt, Bool, not, true, false, true≢false, if◌then◌else◌, Option, Some, None, is_some, List, [], ◌∷◌, ◌++◌, length}
use Rattle.std.specs.List.{list_any}
use Rattle.std.proofs.lemmas.Bool.{and_parts, both_ways, cases_lt, eqb-true, or_from, or_parts, or_right}
use Rattle.std.proofs.lemmas.Option.{same_Some}
use Rattle.path_segments.specs.Heard.{HeardSegment}
use Rattle.sides.specs.declared.side.Side.{Side}
use Rattle.sides.specs.declared.side.Side.TheVariants.{A, B}
use Rattle.sides.specs.Side.{peer}
use Rattle.join_handshake.specs.declared.hearing.JoinSyn.{JoinSyn}
use Rattle.link_script.specs.Places.{same_side}
use Rattle.link_model.specs.Steps.{after_delivery, arriving}
use Rattle.dss_mapping.specs.Mappings.{Mappings}
use Rattle.dss_mapping.specs.declared.kept.KeptMapping.{KeptMapping}
use Rattle.subflow_send.specs.Records.{Record}
use Rattle.subflow_tcp.specs.Closing.{after_passing_fin, is_fin_next}
use Rattle.subflow_tcp.specs.Expiring.{is_sixth, after_expiry}
use Rattle.subflow_tcp.specs.Judging.{is_at, meaning_of}
use Rattle.subflow_tcp.specs.Sizes.{room}
use Rattle.subflow_tcp.specs.States.{after_fin_passed, is_dead, is_half_open, may_finish}
use Rattle.subflow_tcp.specs.Taking.{after_death, after_dropping_held, after_keeping_held, after_syn, unkept}
use Rattle.subflow_tcp.specs.declared.handshake.State.{State}
use Rattle.subflow_tcp.specs.declared.handshake.State.TheVariants as phase
use Rattle.subflow_tcp.specs.declared.verdicts.Meaning.{Meaning}
use Rattle.subflow_tcp.specs.declared.verdicts.Meaning.TheVariants as means
use Rattle.subflow_tcp.specs.declared.segments.Outgoing.{Outgoing}
use Rattle.actor_desk.specs.declared.ask.Reply.{Reply}
use Rattle.actor_desk.specs.Words.{pick, tail_of}
use Rattle.path_agenda.specs.Agenda.{emission, heard_and, leaves, payload_came, resets, rest_of_turn, start_of_turn}
use Rattle.path_agenda.specs.Words.{replaced}
use Rattle.path_agenda.specs.declared.duty.Duty.{Duty}
use Rattle.path_agenda.specs.declared.duty.Duty.TheVariants as duties
use Rattle.path_agenda.specs.declared.duty.AskDuty.TheVariants as ask_duties
use Rattle.path_agenda.specs.declared.duty.SendDuty.TheVariants as send_duties
use Rattle.path_agenda.specs.declared.duty.SilentDuty.TheVariants as silent_duties
use Rattle.path_agenda.specs.declared.duty.StepDuty.TheVariants as step_duties
use Rattle.path_agenda.specs.declared.heard.Heard.{Heard}
use Rattle.path_agenda.specs.declared.heard.Heard.TheVariants as says
use Rattle.path_agenda.specs.declared.keys.KeyPair.{KeyPair}
use Rattle.path_store.specs.declared.lines.LineAction.{LineAction}
use Rattle.path_store.specs.declared.lines.LineAction.TheVariants as actions
use Rattle.fallback_state.specs.declared.fall.Event.TheVariants as events
use Rattle.path_core.specs.Addresses.{with_priority}
use Rattle.path_core.specs.Arrival.{copy_heard, copy_judged, copy_of, heard_in, judged_in, reset_for, template_by, template_judged, with_payload}
use Rattle.path_core.specs.Breaking.{answered_break, died_unless_dead, reset_on}
use Rattle.path_core.specs.Choices.{is_side_a, item_at}
use Rattle.path_core.specs.DataFin.{is_all_granted}
use Rattle.path_core.specs.Deliver.{after_keep, is_dropped, piece_of}
use Rattle.path_core.specs.DssIn.{counts, held_of, with_data_fin}
use Rattle.path_core.specs.Duties.{answered, passed, stands}
use Rattle.path_core.specs.Emission.{answered_data, answered_grant, data_stands, first_unsent, grant_in, may_ask, may_send_data, payload_size}
use Rattle.path_core.specs.End.{PathEnd, died}
use Rattle.path_core.specs.Events.{after_line, happens_if, next_event}
use Rattle.path_core.specs.Fallback.{after_fell, breaks_by_ack, fell_duties, with_infinite, with_plain_ack}
use Rattle.path_core.specs.Judged.{is_forged, is_passed_over, join_judged, taken_as}
use Rattle.path_core.specs.Modes.{acknowledged_under, bytes_acknowledged}
use Rattle.path_core.specs.MpCapable.{after_keys}
use Rattle.path_core.specs.MpJoin.{asked_at, is_joined, is_listening, is_never, join_asked, join_taken, joined_by, keys_begun, never_joined, opened_by, syn_of_window, with_mode_refused}
use Rattle.path_core.specs.OptionsIn.{items_of, options_heard}
use Rattle.path_core.specs.Profile.{Profile}
use Rattle.path_core.specs.Standing.{after_ack_out, answered_ack_out}
use Rattle.path_core.specs.Start.{waiting_path}
use Rattle.path_core.specs.State.{PathState, at_tick, end_at, goes_on, with_agenda}
use Rattle.path_core.specs.Steps.{begins_turn, next_round, settled, takes}
use Rattle.path_core.specs.Timer.{after_firing, template_fired}
use Rattle.path_core.specs.Treating.{answered_heard, answered_item, item_of, item_passed}
use Rattle.path_core.specs.Turns.{FirstStands}
use Rattle.path_core.specs.Values.{Carried, values}
use Rattle.path_core.specs.declared.events.Event.{Event}
use Rattle.path_core.specs.declared.events.Event.TheVariants as happenings
use Rattle.path_core.specs.declared.judged.Judged.{Judged}
use Rattle.path_core.specs.declared.judged.Judged.TheVariants as judged
use Rattle.path_core.specs.declared.modes.Modes.{Modes}
use Rattle.world_laws.specs.Openings.{PathPlan, Start, path_begins}
use Rattle.world_laws.specs.Writes.{EndView, EndWrites, Only, OnlyAt, PathView, nothing, side_of, writes}
use Rattle.world_laws.proofs.Falls.ClearStays.{Clears, answered_clear, passed_clear, unclear_before}
use Rattle.world_laws.proofs.Falls.FailedChecks.{fail_answered_so}
use Rattle.world_laws.proofs.Keys.DssIsTheSign.{IsUnclear, Leads, answers_lead, passed_leads, started_leads, unheard, unled}
use Rattle.world_laws.proofs.Keys.AreDrawn.{is_past}
use Rattle.world_laws.proofs.Whole.Ends.{MeansIs, means_so}
use Rattle.world_laws.proofs.Writes.Ends.{copy_so, fell_so, keyed_so}
use Rattle.world_laws.proofs.Writes.Paths.{passes_no_more, writes_no_more}
use Rattle.world_laws.proofs.Writes.Steps.{unwritten}
use Rattle.whole_paths.specs.AgendaSteps.{Follows, is_told}
use Rattle.whole_paths.specs.EndSteps.{PathStep, SubflowSteps}
use Rattle.whole_paths.specs.Mild.{EndsGoByMappings}
use Rattle.whole_paths.proofs.Agendas.{answered_follows, own_end}
use Rattle.whole_paths.proofs.ClearFirst.{Quiet, quiet_on}
use Rattle.whole_paths.proofs.Clearing.{none_other}
use Rattle.whole_paths.proofs.Duties.{answered_steps, passed_steps}
use Rattle.whole_paths.proofs.EdgesStay.{away_passed, event_edges, keep_edge, no_piece, other_edge, same_at}
use Rattle.whole_paths.proofs.FinPlaces.{step_stay}
use Rattle.whole_paths.proofs.GoingOn.{plain_none}
use Rattle.whole_paths.proofs.InTime.{is_event}
use Rattle.whole_paths.proofs.Mapping.{window_maps}
use Rattle.whole_paths.proofs.OnlyEvents.{follow_none}
use Rattle.whole_paths.proofs.Opening.{held_state}
use Rattle.whole_paths.proofs.Pieces.{own_only}
use Rattle.whole_paths.proofs.Pushing.{NextStays, answered_next, event_next, passed_next, unsent_next}
use Rattle.whole_paths.proofs.Settling.{sides}
use Rattle.whole_paths.proofs.Unpassed.{is_edge, own_holds, passed_holds}

-- ---- an end

-- RCV.NXT is just behind the SYN, or behind a FIN that stands there
abbrev pub EdgeLow : PathEnd → Type 0
EdgeLow e = (e.tcp.recv.edge ≤ 1) ⊎ ((e.tcp.fin_at ≡ Some 1) × (e.tcp.recv.edge ≤ 2))

-- B's end as long as it isn't established, or once it is dead
abbrev pub is_early : State → Bool
is_early phase.Listen = true
is_early phase.SynReceived = true
is_early phase.Dead = true
is_early _ = false

pub record IsLow (s : Side) (e : PathEnd) : Type 0 where
  pub live : e.receiving.mappings.live ≡ []
  pub infinite : e.modes.peer_infinite ≡ None
  pub unacked : e.sending.close.own_acked ≡ false
  pub early : s ≡ B → is_early e.tcp.state ≡ true
  pub edge : EdgeLow e
  pub quiet : Quiet e

-- what stays of it, but for RCV.NXT and what was sent
record Still (s : Side) (e f : PathEnd) : Type 0 where
  live : f.receiving.mappings.live ≡ e.receiving.mappings.live
  infinite : f.modes.peer_infinite ≡ e.modes.peer_infinite
  unacked : f.sending.close.own_acked ≡ e.sending.close.own_acked
  early : s ≡ B → is_early e.tcp.state ≡ true → is_early f.tcp.state ≡ true

-- where its state stays, or it is dead
alike : (s : Side) (e f : PathEnd) → f.receiving.mappings.live ≡ e.receiving.mappings.live → f.modes.peer_infinite ≡ e.modes.peer_infinite → f.sending.close.own_acked ≡ e.sending.close.own_acked → f.tcp.state ≡ e.tcp.state → Still s e f
alike s e f live infinite unacked state = record { live = live; infinite = infinite; unacked = unacked; early = λ same was. ap is_early state ∙ was }

same_still : (s : Side) (e : PathEnd) → Still s e e
same_still s e = alike s e e refl refl refl refl

died_still : (s : Side) (e f : PathEnd) → f.receiving.mappings.live ≡ e.receiving.mappings.live → f.modes.peer_infinite ≡ e.modes.peer_infinite → f.sending.close.own_acked ≡ e.sending.close.own_acked → f.tcp.state ≡ phase.Dead → Still s e f
died_still s e f live infinite unacked state = record { live = live; infinite = infinite; unacked = unacked; early = λ same was. ap is_early state }

here : (s : Side) (e f a b : PathEnd) → Still s e f → Still s e (pick s (pick s f a) (pick s b f))
here s e f a b x = subst (λ g. Still s e g) (sym (own_end s f a b)) x

only_still : (s : Side) (w : EndWrites) (e f : PathEnd) → (w.mappings || (w.peer_infinite || (w.own_acked || w.phase))) ≡ false → Only w e f → Still s e f
only_still s w e f none x =
    let one = or_parts w.mappings (w.peer_infinite || (w.own_acked || w.phase)) none in
    let two = or_parts w.peer_infinite (w.own_acked || w.phase) one.1 in
    let three = or_parts w.own_acked w.phase two.1 in
    alike s e f
    (ap (λ (m : Mappings). m.live) (unwritten w.mappings e.receiving.mappings f.receiving.mappings one.0 (ap (λ (v : EndView). v.mappings) x.same)))
    (unwritten w.peer_infinite e.modes.peer_infinite f.modes.peer_infinite two.0 (ap (λ (v : EndView). v.peer_infinite) x.same))
    (unwritten w.own_acked e.sending.close.own_acked f.sending.close.own_acked three.0 (ap (λ (v : EndView). v.own_acked) x.same))
    (unwritten w.phase e.tcp.state f.tcp.state three.1 (ap (λ (v : EndView). v.phase) x.same))

-- ---- what is heard

-- a Data ACK, a mapping of bytes, or an infinite one
abbrev pub is_sign : Option Heard → Bool
is_sign (Some (says.DataAck next window)) = true
is_sign (Some (says.Mapping fin)) = true
is_sign (Some (says.InfiniteMapping place position)) = true
is_sign _ = false

abbrev pub hears_sign : Duty → PathState Carried → Bool
hears_sign (duties.Step (step_duties.Heard s index)) p = is_sign (item_of index (end_at s p))
hears_sign _ p = false

break_still : (s : Side) (reason : ℕ) (r : Reply) (p : PathState Carried) → Still s (end_at s p) (end_at s (answered_break values s reason r p))
break_still s reason r p = elim (end_at s p).treated.asked as
    (λ b. Still s (end_at s p) (end_at s (if b then answered_ack_out s r (resets s reason) p else reset_on values s (Some reason) (leaves s) p))) [
      | true ↦ here s (end_at s p) (after_ack_out r (end_at s p)) p.a p.b
          (alike s (end_at s p) (after_ack_out r (end_at s p)) (ap (λ (m : Mappings). m.live) (window_maps r (end_at s p).receiving)) refl refl refl)
      | false ↦ here s (end_at s p) (died (end_at s p)) p.a p.b (died_still s (end_at s p) (died (end_at s p)) refl refl refl refl)
    ]

thing_still : (s : Side) (item : Heard) (r : Reply) (p : PathState Carried) → is_sign (Some item) ≡ false → Still s (end_at s p) (end_at s (answered_heard values s item r p))
thing_still s (says.DataAck next window) r p none = absurd (true≢false none)
thing_still s (says.Mapping fin) r p none = absurd (true≢false none)
thing_still s (says.InfiniteMapping place position) r p none = absurd (true≢false none)
thing_still s (says.DataFin place) r p none =
    let e = end_at s p in here s e (with_data_fin place (after_fell events.MappingHeard r e)) p.a p.b
    (fell_so (λ (n : Modes). Still s e (with_data_fin place (record e { modes = n }))) events.MappingHeard r e.modes (λ mode owes. alike s e _ refl refl refl refl))
thing_still s (says.Keys own other) r p none =
    let e = end_at s p in let keys : Option KeyPair = Some (record { own = own; peer = other }) in here s e (after_keys r keys e) p.a p.b
    (keyed_so (λ (n : Modes). Still s e (record e { modes = n; treated = record e.treated { keys_told = true } })) r keys e.modes (λ key clear. alike s e _ refl refl refl refl))
thing_still s (says.Notice notice) r p none = here s (end_at s p) _ p.a p.b (alike s (end_at s p) _ refl refl refl refl)
thing_still s says.Fail r p none =
    let e = end_at s p in
    fail_answered_so (λ q. Still s e (end_at s q)) s r p (here s e (with_infinite r e) p.a p.b (alike s e (with_infinite r e) refl refl refl refl))
    (here s e (after_fell (events.FailHeard false) r e) p.a p.b (fell_so (λ (n : Modes). Still s e (record e { modes = n })) (events.FailHeard false) r e.modes (λ mode owes. alike s e _ refl refl refl refl)))
thing_still s (says.FastClose key) r p none = same_still s (end_at s p)
thing_still s _ r p none = same_still s (end_at s p)

things_still : (s : Side) (o : Option Heard) (r : Reply) (p : PathState Carried) → is_sign o ≡ false → Still s (end_at s p) (end_at s (answered_item values s o r p))
things_still s None r p none = same_still s (end_at s p)
things_still s (Some item) r p none = thing_still s item r p none

-- ---- joins

opened_still : (keys : Option KeyPair) (e : PathEnd) → Still A e (opened_by keys e)
opened_still None e = same_still A e
opened_still (Some keys) e = record { live = refl; infinite = refl; unacked = refl; early = λ same was. cc }

begun_still : (b : Bool) (r : Reply) (p : PathState Carried) (ds es : List Duty) → Still A p.a (if b then goes_on A (never_joined r p.a) ds p else goes_on A (opened_by (keys_begun r) p.a) es p).a
begun_still true r p ds es = died_still A p.a (never_joined r p.a) refl refl refl refl
begun_still false r p ds es = opened_still (keys_begun r) p.a

joined_still : (s : Side) (keys : KeyPair) (asked : JoinSyn) (e : PathEnd) → Still s e (joined_by keys asked e)
joined_still s keys asked e = record { live = refl; infinite = refl; unacked = refl; early = λ same was. by was }
  where
    by : is_early e.tcp.state ≡ true → is_early (if is_listening e.tcp.state then after_syn (unkept None) (syn_of_window e.treated.window) e.tcp else e.tcp).state ≡ true
    by was = elim (is_listening e.tcp.state) as (λ b. is_early (if b then after_syn (unkept None) (syn_of_window e.treated.window) e.tcp else e.tcp).state ≡ true) [ true ↦ refl | false ↦ was ]

taken_still : (s : Side) (keys : Option KeyPair) (asked : Option JoinSyn) (r : Reply) (p : PathState Carried) → Still s (end_at s p) (end_at s (join_taken s keys asked r p))
taken_still s (Some keys) (Some asked) r p = here s (end_at s p) (joined_by keys asked (end_at s p)) p.a p.b (joined_still s keys asked (end_at s p))
taken_still s None (Some asked) r p = here s (end_at s p) (with_mode_refused r (end_at s p)) p.a p.b (alike s (end_at s p) _ refl refl refl refl)
taken_still s (Some keys) None r p = same_still s (end_at s p)
taken_still s None None r p = same_still s (end_at s p)

-- ---- duties

early_passed : (state : State) → is_early state ≡ true → is_early (after_fin_passed state) ≡ true
early_passed phase.Listen was = refl
early_passed phase.SynReceived was = refl
early_passed phase.Dead was = refl
early_passed phase.Established was = absurd (true≢false (sym was))
early_passed phase.FinWait1 was = absurd (true≢false (sym was))
early_passed phase.FinWait2 was = absurd (true≢false (sym was))
early_passed _ was = absurd (true≢false (sym was))

-- bytes are passed, or an acknowledgement of the subflow stands for a Data ACK
abbrev is_apart : Duty → Bool
is_apart (duties.Step step_duties.Events) = true
is_apart (duties.Ask (ask_duties.Edge s)) = true
is_apart (duties.Ask (ask_duties.SubflowAck s)) = true
is_apart (duties.Send (send_duties.Fin s)) = true
is_apart _ = false

own_still : (d : Duty) (r : Reply) (p : PathState Carried) → is_apart d ≡ false → hears_sign d p ≡ false → Still (side_of d) (end_at (side_of d) p) (end_at (side_of d) (answered values d r p))
own_still (duties.Step step_duties.Events) r p apart none = absurd (true≢false apart)
own_still (duties.Ask (ask_duties.Edge s)) r p apart none = absurd (true≢false apart)
own_still (duties.Ask (ask_duties.SubflowAck s)) r p apart none = absurd (true≢false apart)
own_still (duties.Send (send_duties.Fin s)) r p apart none = absurd (true≢false apart)
own_still (duties.Ask ask_duties.JoinAgain) r p apart none = begun_still (is_never r) r p (replaced (duties.Ask (ask_duties.Leave A)) p.agenda) (tail_of p.agenda)
own_still (duties.Ask (ask_duties.JoinHeard s)) r p apart none = taken_still s (keys_begun r) (asked_at s p) r p
own_still (duties.Ask (ask_duties.LeaveNoted s)) r p apart none = here s (end_at s p) (died (end_at s p)) p.a p.b (died_still s (end_at s p) (died (end_at s p)) refl refl refl refl)
own_still (duties.Step (step_duties.Heard s index)) r p apart none = things_still s (item_of index (end_at s p)) r p none
own_still (duties.Step (step_duties.PlainAck s)) r p apart none = elim (breaks_by_ack p.profile (end_at s p)) as
    (λ b. Still s (end_at s p) (end_at s (if b then answered_break values s 6 r p else goes_on s (with_plain_ack (after_fell events.PlainAck r (end_at s p))) (fell_duties s r p) p))) [
      | true ↦ break_still s 6 r p
      | false ↦ (let e = end_at s p in here s e (with_plain_ack (after_fell events.PlainAck r e)) p.a p.b
          (fell_so (λ (n : Modes). Still s e (with_plain_ack (record e { modes = n }))) events.PlainAck r e.modes (λ mode owes. alike s e _ refl refl refl refl)))
    ]
own_still (duties.Step (step_duties.Unmapped s)) r p apart none = break_still s 6 r p
own_still (duties.Send (send_duties.BreakReset s reason)) r p apart none = here s (end_at s p) (died (end_at s p)) p.a p.b (died_still s (end_at s p) (died (end_at s p)) refl refl refl refl)
own_still (duties.Send (send_duties.Reset s)) r p apart none = here s (end_at s p) (died (end_at s p)) p.a p.b (died_still s (end_at s p) (died (end_at s p)) refl refl refl refl)
own_still (duties.Send (send_duties.ResetNoted s)) r p apart none = here s (end_at s p) (died (end_at s p)) p.a p.b (died_still s (end_at s p) (died (end_at s p)) refl refl refl refl)
own_still (duties.Silent d) r p apart none = same_still (side_of (duties.Silent d)) (end_at (side_of (duties.Silent d)) p)
own_still d r p apart none = only_still (side_of d) (writes d).own _ _ refl (own_only (side_of d) (writes d) p _ (writes_no_more values d r p))

item_still : (s : Side) (o : Option Heard) (e : PathEnd) → is_sign o ≡ false → Still s e (item_passed s o e)
item_still s None e none = same_still s e
item_still s (Some (says.DataAck next window)) e none = absurd (true≢false none)
item_still s (Some (says.Mapping fin)) e none = absurd (true≢false none)
item_still s (Some (says.DataFin place)) e none = elim (counts e) as (λ b. Still s e (if b then with_data_fin place e else e)) [ true ↦ alike s e _ refl refl refl refl | false ↦ same_still s e ]
item_still s (Some _) e none = alike s e _ refl refl refl refl

keep_still : (s : Side) (e : PathEnd) → Still s e (after_keep s e)
keep_still s e = alike s e (after_keep s e) refl refl refl (elim (is_dropped s e) as (λ b. (if b then after_dropping_held e.tcp else after_keeping_held e.tcp).state ≡ e.tcp.state) [ true ↦ refl | false ↦ refl ])

pass_fin_still : (s : Side) (e : PathEnd) → Still s e (record e { tcp = (if is_fin_next e.tcp then after_passing_fin e.tcp else e.tcp) })
pass_fin_still s e = record { live = refl; infinite = refl; unacked = refl; early = λ same was. by was }
  where
    by : is_early e.tcp.state ≡ true → is_early (if is_fin_next e.tcp then after_passing_fin e.tcp else e.tcp).state ≡ true
    by was = elim (is_fin_next e.tcp) as (λ b. is_early (if b then after_passing_fin e.tcp else e.tcp).state ≡ true) [ true ↦ early_passed e.tcp.state was | false ↦ was ]

passed_still : (d : Duty) (p : PathState Carried) → hears_sign d p ≡ false → Still (side_of d) (end_at (side_of d) p) (end_at (side_of d) (passed d p))
passed_still (duties.Ask (ask_duties.CheckFailed s)) p none =
    let d : Duty = duties.Ask (ask_duties.CheckFailed s) in only_still s (writes d).own _ _ refl (own_only s (writes d) p _ (passes_no_more d p))
passed_still (duties.Step (step_duties.Heard s index)) p none = here s (end_at s p) (item_passed s (item_of index (end_at s p)) (end_at s p)) p.a p.b (item_still s (item_of index (end_at s p)) (end_at s p) none)
passed_still (duties.Step (step_duties.PlainAck s)) p none = here s (end_at s p) (with_plain_ack (end_at s p)) p.a p.b (alike s (end_at s p) _ refl refl refl refl)
passed_still (duties.Step (step_duties.Unmapped s)) p none = here s (end_at s p) _ p.a p.b (alike s (end_at s p) _ refl refl refl refl)
passed_still (duties.Silent (silent_duties.Timer s)) p none = here s (end_at s p) _ p.a p.b (alike s (end_at s p) _ refl refl refl refl)
passed_still (duties.Silent (silent_duties.Keep s)) p none = here s (end_at s p) (after_keep s (end_at s p)) p.a p.b (keep_still s (end_at s p))
passed_still (duties.Silent (silent_duties.PassFin s)) p none = here s (end_at s p) _ p.a p.b (pass_fin_still s (end_at s p))
passed_still d p none = same_still (side_of d) (end_at (side_of d) p)

-- the other end of a duty
other_still : (t : Side) (d : Duty) (p q : PathState Carried) → is_event d ≡ false → OnlyAt (side_of d) (writes d) p q → peer (side_of d) ≡ t → Still t (end_at t p) (end_at t q)
other_still t d p q other x away = subst (λ u. Still u (end_at u p) (end_at u q)) away
    (only_still (peer (side_of d)) nothing _ _ refl (subst (λ v. Only v (end_at (peer (side_of d)) p) (end_at (peer (side_of d)) q)) (none_other d other) (record { same = ap (λ (v : PathView Carried). v.other) x.same })))

-- ---- RCV.NXT

edge_low : (e f : PathEnd) → ((pos : ℕ) → e.tcp.fin_at ≡ Some pos → f.tcp.fin_at ≡ Some pos) → f.tcp.recv.edge ≡ e.tcp.recv.edge → EdgeLow e → EdgeLow f
edge_low e f fin same (inl low) = inl (omega (arith, same, low))
edge_low e f fin same (inr x) = inr (fin 1 x.0, (let low = x.1 in omega (arith, same, low)))

-- behind a FIN that stands at 1 at most
pass_low : (e : PathEnd) → EdgeLow e → EdgeLow (record e { tcp = (if is_fin_next e.tcp then after_passing_fin e.tcp else e.tcp) })
pass_low e low = (elim (is_fin_next e.tcp) as (λ b. is_fin_next e.tcp ≡ b → EdgeLow (record e { tcp = (if b then after_passing_fin e.tcp else e.tcp) })) [
  | true ↦ λ is. by e.tcp.fin_at refl (and_parts (is_at e.tcp.recv.edge e.tcp.fin_at) (nat_lt e.tcp.recv.edge (2 ^ 62)) is).0
  | false ↦ λ is. low
]) refl
  where
    at_most : (n : ℕ) → e.tcp.fin_at ≡ Some n → EdgeLow e → n ≡ e.tcp.recv.edge → n ≤ 1
    at_most n fin (inl few) same = omega (arith, few, same)
    at_most n fin (inr x) same = let one : n ≡ 1 = same_Some n 1 (sym fin ∙ x.0) in omega (arith, one)

    by : (o : Option ℕ) → e.tcp.fin_at ≡ o → is_at e.tcp.recv.edge o ≡ true → EdgeLow (record e { tcp = after_passing_fin e.tcp })
    by None fin at = absurd (true≢false (sym at))
    by (Some n) fin at =
        let same : n ≡ e.tcp.recv.edge = eqb-true n e.tcp.recv.edge at in let few = at_most n fin low same in
        ⊎_elim (λ none. inl (omega (arith, none, same))) (λ some. let one : n ≡ 1 = omega (arith, some, few) in inr (fin ∙ ap (λ k. Some k) one, omega (arith, same, few))) (cases_lt n 1)

edge_answered : (t : Side) (d : Duty) (r : Reply) (p : PathState Carried) → is_event d ≡ false → (side_of d ≡ t → is_edge d ≡ true → ⊥) → (end_at t (answered values d r p)).tcp.recv.edge ≡ (end_at t p).tcp.recv.edge
edge_answered t d r p other never = ⊎_elim
    (λ own. subst (λ u. (end_at u q).tcp.recv.edge ≡ (end_at u p).tcp.recv.edge) own
    (let n : ℕ = (end_at (side_of d) p).tcp.recv.edge in own_holds (λ v. v.edge ≡ n) (λ m v h. h) ⊥ (λ no to v h. absurd no) values d r p other (λ is. never own is) refl))
    (λ away. subst (λ u. (end_at u q).tcp.recv.edge ≡ (end_at u p).tcp.recv.edge) away (other_edge d p q other (writes_no_more values d r p)))
    (sides t (side_of d))
  where
    q : PathState Carried
    q = answered values d r p

pass_end : (s : Side) (e f a b : PathEnd) → EdgeLow f → EdgeLow (pick s (pick s f a) (pick s b f))
pass_end s e f a b low = subst (λ g. EdgeLow g) (sym (own_end s f a b)) low

passed_edge : (d : Duty) (p : PathState Carried) → EdgeLow (end_at (side_of d) p) → EdgeLow (end_at (side_of d) (passed d p))
passed_edge (duties.Silent (silent_duties.Keep s)) p low =
    let e = end_at s p in let f = after_keep s e in let g = end_at s (passed (duties.Silent (silent_duties.Keep s)) p) in
    edge_low e g (λ pos is. step_stay p (passed (duties.Silent (silent_duties.Keep s)) p) (passed_steps (duties.Silent (silent_duties.Keep s)) p) s pos is)
    (ap (λ (h : PathEnd). h.tcp.recv.edge) (own_end s f p.a p.b) ∙ keep_edge s e) low
passed_edge (duties.Silent (silent_duties.PassFin s)) p low = pass_end s (end_at s p) _ p.a p.b (pass_low (end_at s p) low)
passed_edge d p low =
    let n : ℕ = (end_at (side_of d) p).tcp.recv.edge in
    edge_low (end_at (side_of d) p) (end_at (side_of d) (passed d p)) (λ pos is. step_stay p (passed d p) (passed_steps d p) (side_of d) pos is)
    (passed_holds (λ v. v.edge ≡ n) (λ m v h. h) ⊥ (λ no to v h. absurd no) d p refl refl) low

-- ---- SND.NXT

next_at : (t : Side) (p q : PathState Carried) → NextStays p.a q.a → NextStays p.b q.b → NextStays (end_at t p) (end_at t q)
next_at A p q a b = a
next_at B p q a b = b

never_asks : (s : Side) (c : Profile) (e : PathEnd) → is_joined c ≡ true → e.modes.clear ≡ false → e.modes.identity ≡ false → may_ask c s e ≡ true → ⊥
never_asks s c e joins unclear mapped may =
    let within = (and_parts (may_finish e.tcp.state) _ may).1 in
    let sends = (and_parts (nat_le (payload_size c) (room e.tcp)) _ within).1 in
    both_ways (may_send_data c s e) (or_from e.modes.clear _ unclear (or_from e.modes.identity _ mapped (by s))) (and_parts _ (may_send_data c s e) sends).1
  where
    by : (s : Side) → (is_side_a s && not (is_joined c)) ≡ false
    by A = ap not joins
    by B = refl

data_next : (s : Side) (o : Option Record) (r : Reply) (p : PathState Carried) → is_joined p.profile ≡ true → (end_at s p).modes.clear ≡ false → (end_at s p).modes.identity ≡ false → data_stands p.profile s (end_at s p) o ≡ true
    → NextStays (end_at s p) (end_at s (answered_data values s o r p))
data_next s (Some u) r p joins unclear mapped due = let x = unsent_next values s u r p in next_at s p (answered_data values s (Some u) r p) x.a x.b
data_next s None r p joins unclear mapped due = absurd (never_asks s p.profile (end_at s p) joins unclear mapped due)

away_next : (s : Side) (o : Option Record) (r : Reply) (p : PathState Carried) → NextStays (end_at (peer s) p) (end_at (peer s) (answered_data values s o r p))
away_next A (Some u) r p = refl
away_next B (Some u) r p = refl
away_next A None r p = elim (grant_in r) as (λ o. NextStays p.b (answered_grant A o r p).b) [ None ↦ refl | Some grant ↦ refl ]
away_next B None r p = elim (grant_in r) as (λ o. NextStays p.a (answered_grant B o r p).a) [ None ↦ refl | Some grant ↦ refl ]

fin_away : (s : Side) (r : Reply) (p : PathState Carried) → NextStays (end_at (peer s) p) (end_at (peer s) (answered values (duties.Send (send_duties.Fin s)) r p))
fin_away A r p = refl
fin_away B r p = refl

next_answered : (t : Side) (d : Duty) (r : Reply) (p : PathState Carried) → is_event d ≡ false → (side_of d ≡ t → d ≡ duties.Send (send_duties.Fin t) → ⊥) → is_joined p.profile ≡ true → (end_at t p).modes.clear ≡ false
    → (end_at t p).modes.identity ≡ false → stands d p ≡ true → NextStays (end_at t p) (end_at t (answered values d r p))
next_answered t (duties.Step (step_duties.Data s)) r p other fin joins unclear mapped due = ⊎_elim
    (λ own. subst (λ u. (end_at u p).modes.clear ≡ false → (end_at u p).modes.identity ≡ false → NextStays (end_at u p) (end_at u (answered_data values s (first_unsent (end_at s p)) r p))) own
    (λ unclear mapped. data_next s (first_unsent (end_at s p)) r p joins unclear mapped due) unclear mapped)
    (λ away. subst (λ u. NextStays (end_at u p) (end_at u (answered_data values s (first_unsent (end_at s p)) r p))) away (away_next s (first_unsent (end_at s p)) r p))
    (sides t s)
next_answered t (duties.Send (send_duties.Fin s)) r p other fin joins unclear mapped due = ⊎_elim
    (λ own. absurd (fin own (ap (λ u. duties.Send (send_duties.Fin u)) own)))
    (λ away. subst (λ u. NextStays (end_at u p) (end_at u (answered values (duties.Send (send_duties.Fin s)) r p))) away (fin_away s r p))
    (sides t s)
next_answered t (duties.Step step_duties.Events) r p other fin joins unclear mapped due = absurd (true≢false other)
next_answered t d r p other fin joins unclear mapped due = let x = answered_next values d r p refl refl in next_at t p (answered values d r p) x.a x.b

-- ---- what is heard at an end that may send no DSS

abbrev pub hears_b : Duty → Bool
hears_b (duties.Step (step_duties.Heard B index)) = true
hears_b _ = false

abbrev SilentB : List Duty → PathState Carried → Type 0
SilentB ds p = p.b.modes.clear ≡ false → list_any hears_b ds ≡ false

signs_clear : (d : Duty) (ds : List Duty) (p : PathState Carried) → Leads (d ∷ ds) p → SilentB (d ∷ ds) p → hears_sign d p ≡ true → (end_at (side_of d) p).modes.clear ≡ true
signs_clear (duties.Step (step_duties.Heard A index)) ds p leads silent is = ⊎_elim (λ clear. clear)
    (λ (u : IsUnclear (duties.Step (step_duties.Heard A index) ∷ ds) p). absurd (by u p.a.modes.identity refl is)) leads.clear
  where
    by : IsUnclear (duties.Step (step_duties.Heard A index) ∷ ds) p → (b : Bool) → p.a.modes.identity ≡ b → is_sign (if b then None else item_at index p.a.treated.items) ≡ true → ⊥
    by u true plain is = true≢false (sym is)
    by u false above is = go (item_at index p.a.treated.items) refl is
      where
        go : (o : Option Heard) → item_at index p.a.treated.items ≡ o → is_sign o ≡ true → ⊥
        go (Some (says.DataAck next window)) at is = true≢false (sym (unled u.n p.a.treated.items (says.DataAck next window) leads.led (unheard p u.n above u.none) (subst (λ n. item_at n p.a.treated.items ≡ Some (says.DataAck next window)) u.follows.0 at)))
        go (Some (says.Mapping fin)) at is = true≢false (sym (unled u.n p.a.treated.items (says.Mapping fin) leads.led (unheard p u.n above u.none) (subst (λ n. item_at n p.a.treated.items ≡ Some (says.Mapping fin)) u.follows.0 at)))
        go (Some (says.InfiniteMapping place position)) at is =
            true≢false (sym (unled u.n p.a.treated.items (says.InfiniteMapping place position) leads.led (unheard p u.n above u.none) (subst (λ n. item_at n p.a.treated.items ≡ Some (says.InfiniteMapping place position)) u.follows.0 at)))
        go (Some _) at is = true≢false (sym is)
        go None at is = true≢false (sym is)
signs_clear (duties.Step (step_duties.Heard B index)) ds p leads silent is = by p.b.modes.clear refl
  where
    by : (b : Bool) → p.b.modes.clear ≡ b → b ≡ true
    by true clear = refl
    by false unclear = absurd (true≢false (silent unclear))
signs_clear _ ds p leads silent is = absurd (true≢false (sym is))

told_silent : (e : Duty) → is_told e ≡ true → hears_b e ≡ false
told_silent (duties.Ask (ask_duties.GoIdentity s)) told = refl
told_silent (duties.Ask (ask_duties.AckHeard s)) told = refl
told_silent (duties.Ask (ask_duties.FailHeard s)) told = refl
told_silent (duties.Send (send_duties.SynAck s)) told = refl
told_silent (duties.Send (send_duties.Refuse s)) told = refl
told_silent _ told = absurd (true≢false (sym told))

follow_silent : (s : Side) (gone : Bool) (d : Duty) (ds es : List Duty) → Follows s gone d ds es → list_any hears_b (d ∷ ds) ≡ false → list_any hears_b es ≡ false
follow_silent = follow_none hears_b told_silent (λ s. refl) (λ s. refl) (λ s reason. refl) (λ s reason. refl) (λ s. refl) (λ s. refl)

-- ---- a path that joins

pub record LowAt (ds : List Duty) (p : PathState Carried) : Type 0 where
  pub leads : Leads ds p
  pub low : (s : Side) → (end_at s p).modes.clear ≡ false → IsLow s (end_at s p)
  pub silent : SilentB ds p

unclear_at : (p q : PathState Carried) → Clears p q → (t : Side) → (end_at t q).modes.clear ≡ false → (end_at t p).modes.clear ≡ false
unclear_at p q on A unclear = unclear_before p.a.modes.clear q.a.modes.clear on.a.0 unclear
unclear_at p q on B unclear = unclear_before p.b.modes.clear q.b.modes.clear on.b.0 unclear

none_sign : (d : Duty) (ds : List Duty) (p : PathState Carried) → LowAt (d ∷ ds) p → (end_at (side_of d) p).modes.clear ≡ false → hears_sign d p ≡ false
none_sign d ds p h unclear = by (hears_sign d p) refl
  where
    by : (b : Bool) → hears_sign d p ≡ b → b ≡ false
    by true is = absurd (both_ways (end_at (side_of d) p).modes.clear unclear (signs_clear d ds p h.leads h.silent is))
    by false is = refl

low_by : (s : Side) (e f : PathEnd) → Still s e f → EdgeLow f → Quiet f → IsLow s e → IsLow s f
low_by s e f x edge quiet h = record {
  live = x.live ∙ h.live;
  infinite = x.infinite ∙ h.infinite;
  unacked = x.unacked ∙ h.unacked;
  early = λ same. x.early same (h.early same);
  edge = edge;
  quiet = quiet;
}

none_next : (m : Modes) (n : ℕ) → m.identity ≡ false → m.own_infinite ≡ None → is_some (bytes_acknowledged m n) ≡ false
none_next m n identity own = ap (λ b. is_some (if b then Some (n - 1) else acknowledged_under m.own_infinite n)) identity ∙ ap (λ o. is_some (acknowledged_under o n)) own

-- a duty that is answered, but an event
module _ (d : Duty) (ds : List Duty) (r : Reply) (p : PathState Carried) (other : is_event d ≡ false) (maps : EndsGoByMappings p) (joins : is_joined p.profile ≡ true) (due : stands d p ≡ true) (h : LowAt (d ∷ ds) p) where
  abbrev q : PathState Carried
  q = answered values d r p

  passes_none : (t : Side) (d : Duty) → side_of d ≡ t → is_edge d ≡ true → stands d p ≡ true → IsLow t (end_at t p) → ⊥
  passes_none t (duties.Ask (ask_duties.Edge s)) own is due low =
      true≢false (sym (subst (λ u. is_some (piece_of u p) ≡ true) own due) ∙ ap is_some (no_piece p.profile (end_at t p) (maps t).identity low.infinite low.live))
  passes_none t _ own is due low = true≢false (sym is)

  sends_none : (t : Side) → stands (duties.Send (send_duties.Fin t)) p ≡ true → IsLow t (end_at t p) → ⊥
  sends_none t due low =
      let e : PathEnd = end_at t p in
      let goes = (and_parts (may_finish e.tcp.state) _ due).1 in
      let acked = (and_parts e.sending.close.own_acked e.sending.close.peer_came
      (subst (λ b. (if b then is_all_granted e.sending.known_end e.sending else (e.sending.close.own_acked && e.sending.close.peer_came)) ≡ true) (plain_none e (maps t).identity (maps t).own) goes)).0 in
      both_ways e.sending.close.own_acked low.unacked acked

  own_row : (t : Side) (d : Duty) (r : Reply) → is_event d ≡ false → side_of d ≡ t → stands d p ≡ true → hears_sign d p ≡ false → IsLow t (end_at t p) → Still t (end_at t p) (end_at t (answered values d r p))
  own_row t (duties.Step step_duties.Events) r other own due none low = absurd (true≢false other)
  own_row t (duties.Ask (ask_duties.Edge s)) r other own due none low = absurd (passes_none t (duties.Ask (ask_duties.Edge s)) own refl due low)
  own_row t (duties.Ask (ask_duties.SubflowAck s)) r other own due none low =
      let e : PathEnd = end_at s p in absurd (both_ways _ (none_next e.modes e.treated.acknowledged (maps s).identity (maps s).own) (and_parts (is_some (bytes_acknowledged e.modes e.treated.acknowledged)) _ due).0)
  own_row t (duties.Send (send_duties.Fin s)) r other own due none low = absurd (sends_none t (subst (λ u. stands (duties.Send (send_duties.Fin u)) p ≡ true) own due) low)
  own_row t d r other own due none low = subst (λ u. Still u (end_at u p) (end_at u (answered values d r p))) own (own_still d r p refl none)

  low_answered : (t : Side) → (end_at t p).modes.clear ≡ false → IsLow t (end_at t p) → IsLow t (end_at t q)
  low_answered t unclear low = low_by t (end_at t p) (end_at t q) still
      (edge_low (end_at t p) (end_at t q) (λ pos is. step_stay p q (answered_steps values d r p) t pos is) (edge_answered t d r p other (λ own is. passes_none t d own is due low)) low.edge)
      (quiet_on q.clock (end_at t p) (end_at t q) (steps t)
      (next_answered t d r p other (λ own is. sends_none t (subst (λ e. stands e p ≡ true) is due) low) joins unclear (maps t).identity due) low.quiet)
      low
    where
      steps : (t : Side) → SubflowSteps q.clock (end_at t p).tcp (end_at t q).tcp
      steps A = (answered_steps values d r p).a.subflow
      steps B = (answered_steps values d r p).b.subflow

      still : Still t (end_at t p) (end_at t q)
      still = ⊎_elim
          (λ own. own_row t d r other own due (none_sign d ds p h (subst (λ u. (end_at u p).modes.clear ≡ false) (sym own) unclear)) low)
          (λ away. other_still t d p q other (writes_no_more values d r p) away)
          (sides t (side_of d))

-- ---- an event

side_still : (s t : Side) (f : PathEnd) (p q : PathState Carried) → q.a ≡ pick s f p.a → q.b ≡ pick s p.b f → Still s (end_at s p) f → Still t (end_at t p) (end_at t q)
side_still A A f p q a b x = subst (λ g. Still A p.a g) (sym a) x
side_still A B f p q a b x = subst (λ g. Still B p.b g) (sym b) (same_still B p.b)
side_still B A f p q a b x = subst (λ g. Still A p.a g) (sym a) (same_still A p.a)
side_still B B f p q a b x = subst (λ g. Still B p.b g) (sym b) x

unless_still : (s : Side) (e : PathEnd) → Still s e (died_unless_dead e)
unless_still s e = elim (is_dead e.tcp.state) as (λ b. Still s e (if b then e else died e)) [ true ↦ same_still s e | false ↦ died_still s e (died e) refl refl refl refl ]

line_still : (t : Side) (action : LineAction) (p : PathState Carried) → Still t (end_at t p) (end_at t (after_line action p))
line_still A actions.Die p = unless_still A p.a
line_still B actions.Die p = unless_still B p.b
line_still t (actions.Prio s backup) p = side_still s t (with_priority backup (end_at s p)) p (after_line (actions.Prio s backup) p) refl refl (alike s (end_at s p) _ refl refl refl refl)
line_still t (actions.Announce s id) p = same_still t (end_at t p)
line_still t (actions.Withdraw s id) p = same_still t (end_at t p)

fired_still : (s : Side) (now : ℕ) (e : PathEnd) → Still s e (after_firing now e)
fired_still s now e = elim (is_sixth e.tcp) as (λ b. Still s e (record e { tcp = (if b then after_death true e.tcp else after_expiry now e.tcp) }))
    [ true ↦ died_still s e _ refl refl refl refl | false ↦ alike s e _ refl refl refl refl ]

-- an end that hears of the peer's SYN and isn't established has sent the SYN/ACK
half_early : (state : State) → is_past state ≡ true → is_early state ≡ true → is_half_open state ≡ true
half_early phase.SynReceived past early = refl
half_early phase.Dead past early = absurd (true≢false (sym past))
half_early phase.Listen past early = absurd (true≢false (sym past))
half_early _ past early = absurd (true≢false (sym early))

none_b : (s : Side) → same_side s B ≡ false → (from count : ℕ) (ds : List Duty) → list_any hears_b ds ≡ false → list_any hears_b (heard_and s from count ds) ≡ false
none_b A is from zero ds none = none
none_b A is from (suc count) ds none = none_b A is (from + 1) count ds none
none_b B is from count ds none = absurd (true≢false is)

-- what a copy makes of an end
module _ (s : Side) (told : List KeptMapping) (answer : Outgoing) (now : ℕ) (h : HeardSegment) (e : PathEnd) where
  abbrev items : List Heard
  items = items_of true s h

  abbrev judged_end : Meaning → PathEnd
  judged_end m = copy_judged true told answer s now h m e

  -- as long as it isn't established and may send no DSS
  abbrev Stays : Judged → Type 0
  Stays v = (judged_end (taken_as v)).modes.clear ≡ false → (is_early (judged_end (taken_as v)).tcp.state ≡ true) × (list_any hears_b (template_judged true s (length items) v) ≡ false)

  judged_early : (m : Meaning) → MeansIs (copy_of h) e.tcp m → is_early e.tcp.state ≡ true → Stays (join_judged h.rst items m e)
  judged_early means.Opens fits was = elim (is_some (join_asked items)) as (λ b. Stays (if b then judged.Asks else judged.Lacks)) [ true ↦ λ unclear. (was, refl) | false ↦ λ unclear. (was, refl) ]
  judged_early (means.Accepts n) fits was = absurd (true≢false (sym was ∙ ap is_early fits.0))
  judged_early means.RepeatedSyn fits was = λ unclear. (was, refl)
  judged_early means.Kills fits was = elim (is_passed_over h.rst items e) as (λ b. Stays (if b then judged.As means.Ignored else judged.As means.Kills)) [ true ↦ λ unclear. (was, refl) | false ↦ λ unclear. (refl, refl) ]
  judged_early (means.Taken pos n) fits was = by (is_passed_over h.rst items e) (is_forged items e)
    where
      clears : (judged_end (means.Taken pos n)).modes.clear ≡ true
      clears = or_right e.modes.clear (is_half_open (with_payload (means.Taken pos n) h.payload e.tcp).state)
          (ap is_half_open (held_state (means.Taken pos n) h.payload e.tcp) ∙ half_early e.tcp.state fits.0 was)

      by : (over forged : Bool) → Stays (if over then judged.As means.Ignored else (if forged then judged.Forged else judged.As (means.Taken pos n)))
      by true forged unclear = (was, refl)
      by false true unclear = (was, refl)
      by false false unclear = absurd (both_ways (judged_end (means.Taken pos n)).modes.clear unclear clears)
  judged_early m fits was = elim (is_passed_over h.rst items e) as (λ b. Stays (if b then judged.As means.Ignored else judged.As m)) [ true ↦ λ unclear. (was, refl) | false ↦ λ unclear. (was, refl) ]

  judged_still : (m : Meaning) → (s ≡ B → is_early e.tcp.state ≡ true → is_early (judged_end m).tcp.state ≡ true) → Still s e (judged_end m)
  judged_still m early = record {
    live = refl;
    infinite = copy_so (λ (n : Modes). n.peer_infinite ≡ e.modes.peer_infinite) true m items (with_payload m h.payload e.tcp).state h.options e.modes (λ nonce backup owes clear asked. refl);
    unacked = refl;
    early = early;
  }

-- a copy that comes to this end of a path that joins
heard_still : (s t : Side) (o : Option HeardSegment) (p : PathState Carried) → is_joined p.profile ≡ true → (end_at t (copy_heard s o p)).modes.clear ≡ false
    → Still t (end_at t p) (end_at t (copy_heard s o p))
heard_still s t None p joins unclear = same_still t (end_at t p)
heard_still s t (Some segment) p joins unclear = by s t (is_joined p.profile) joins unclear
  where
    by : (s t : Side) (joined : Bool) → joined ≡ true
        → let e = end_at s p in let x = options_heard e segment in let v = judged_in joined s x e in
        let q = goes_on s (copy_judged joined (held_of p.profile s x) (reset_for p.profile s x) s p.clock x (taken_as v) e) (template_judged joined s (length (items_of joined s x)) v) p in
        (end_at t q).modes.clear ≡ false → Still t (end_at t p) (end_at t q)
    by s t false joins unclear = absurd (true≢false (sym joins))
    by A B true joins unclear = same_still B p.b
    by B A true joins unclear = same_still A p.a
    by A A true joins unclear =
        let x = options_heard p.a segment in
        judged_still A (held_of p.profile A x) (reset_for p.profile A x) p.clock x p.a (taken_as (judged_in true A x p.a)) (λ same was. cc)
    by B B true joins unclear =
        let x = options_heard p.b segment in let told = held_of p.profile B x in let answer = reset_for p.profile B x in
        judged_still B told answer p.clock x p.b (taken_as (judged_in true B x p.b))
        (λ same was. (judged_early B told answer p.clock x p.b (meaning_of (copy_of x) p.b.tcp) (means_so (copy_of x) p.b.tcp) was unclear).0)

-- what is to be done then
heard_silent : (s : Side) (o : Option HeardSegment) (p : PathState Carried) → is_joined p.profile ≡ true → is_early p.b.tcp.state ≡ true → (copy_heard s o p).b.modes.clear ≡ false → list_any hears_b (copy_heard s o p).agenda ≡ false
heard_silent s None p joins was unclear = refl
heard_silent s (Some segment) p joins was unclear = by s (is_joined p.profile) joins unclear
  where
    a_silent : (count : ℕ) (m : Meaning) → list_any hears_b (template_by true A count m) ≡ false
    a_silent count (means.Taken pos n) = none_b A refl 0 count (payload_came A) refl
    a_silent count _ = refl

    a_none : (count : ℕ) (v : Judged) → list_any hears_b (template_judged true A count v) ≡ false
    a_none count (judged.As m) = a_silent count m
    a_none count judged.Asks = refl
    a_none count judged.Lacks = refl
    a_none count judged.Forged = refl

    by : (s : Side) (joined : Bool) → joined ≡ true
        → let e = end_at s p in let x = options_heard e segment in let v = judged_in joined s x e in
        let q = goes_on s (copy_judged joined (held_of p.profile s x) (reset_for p.profile s x) s p.clock x (taken_as v) e) (template_judged joined s (length (items_of joined s x)) v) p in
        q.b.modes.clear ≡ false → list_any hears_b q.agenda ≡ false
    by s false joins unclear = absurd (true≢false (sym joins))
    by A true joins unclear = let x = options_heard p.a segment in a_none (length (items_of true A x)) (judged_in true A x p.a)
    by B true joins unclear =
        let x = options_heard p.b segment in
        (judged_early B (held_of p.profile B x) (reset_for p.profile B x) p.clock x p.b (meaning_of (copy_of x) p.b.tcp) (means_so (copy_of x) p.b.tcp) was unclear).1

died_silent : (a b : Bool) → list_any hears_b ((if a then [] else duties.Ask (ask_duties.Leave A) ∷ []) ++ ((if b then [] else duties.Ask (ask_duties.Leave B) ∷ []) ++ rest_of_turn)) ≡ false
died_silent true true = refl
died_silent true false = refl
died_silent false true = refl
died_silent false false = refl

line_silent : (action : LineAction) (p : PathState Carried) → list_any hears_b (after_line action p).agenda ≡ false
line_silent actions.Die p = died_silent (is_dead p.a.tcp.state) (is_dead p.b.tcp.state)
line_silent (actions.Prio s backup) p = refl
line_silent (actions.Announce s id) p = refl
line_silent (actions.Withdraw s id) p = refl

event_silent : (o : Option Event) (r : Reply) (p : PathState Carried) → is_joined p.profile ≡ true → is_early p.b.tcp.state ≡ true → (happens_if values o r p).b.modes.clear ≡ false → list_any hears_b (happens_if values o r p).agenda ≡ false
event_silent None r p joins was unclear = refl
event_silent (Some (happenings.Joins tick)) r p joins was unclear =
    let x : PathState Carried = record (at_tick tick p) { joined_at = None } in
    elim (is_never r) as (λ b. list_any hears_b (if b then goes_on A (never_joined r x.a) (leaves A) x else goes_on A (opened_by (keys_begun r) x.a) (emission A) x).agenda ≡ false) [ true ↦ refl | false ↦ refl ]
event_silent (Some (happenings.Takes line)) r p joins was unclear = line_silent line.action (record (at_tick line.tick p) { lines = tail_of p.lines })
event_silent (Some (happenings.Arrives due)) r p joins was unclear =
    heard_silent due.to (heard_in values due.to (arriving due p.link) p) (record (at_tick due.tick p) { link = after_delivery due p.link }) joins was unclear
event_silent (Some (happenings.Fires s tick)) r p joins was unclear = elim (is_sixth (end_at s p).tcp) as (λ b. list_any hears_b (template_fired b s) ≡ false) [ true ↦ refl | false ↦ refl ]

event_still : (t : Side) (o : Option Event) (r : Reply) (p : PathState Carried) → is_joined p.profile ≡ true → (end_at t (happens_if values o r p)).modes.clear ≡ false → Still t (end_at t p) (end_at t (happens_if values o r p))
event_still t None r p joins unclear = same_still t (end_at t p)
event_still t (Some (happenings.Joins tick)) r p joins unclear =
    let x : PathState Carried = record (at_tick tick p) { joined_at = None } in
    elim (is_never r) as (λ b. Still t (end_at t p) (end_at t (if b then goes_on A (never_joined r x.a) (leaves A) x else goes_on A (opened_by (keys_begun r) x.a) (emission A) x))) [
      | true ↦ side_still A t (never_joined r x.a) p (goes_on A (never_joined r x.a) (leaves A) x) refl refl (died_still A p.a (never_joined r x.a) refl refl refl refl)
      | false ↦ side_still A t (opened_by (keys_begun r) x.a) p (goes_on A (opened_by (keys_begun r) x.a) (emission A) x) refl refl (opened_still (keys_begun r) p.a)
    ]
event_still t (Some (happenings.Takes line)) r p joins unclear = line_still t line.action (record (at_tick line.tick p) { lines = tail_of p.lines })
event_still t (Some (happenings.Arrives due)) r p joins unclear =
    heard_still due.to t (heard_in values due.to (arriving due p.link) p) (record (at_tick due.tick p) { link = after_delivery due p.link }) joins unclear
event_still t (Some (happenings.Fires s tick)) r p joins unclear = side_still s t (after_firing (at_tick tick p).clock (end_at s p)) p (happens_if values (Some (happenings.Fires s tick)) r p) refl refl (fired_still s (at_tick tick p).clock (end_at s p))

-- ---- a step

steps_at : (t : Side) (p q : PathState Carried) → PathStep p q → SubflowSteps q.clock (end_at t p).tcp (end_at t q).tcp
steps_at A p q x = x.a.subflow
steps_at B p q x = x.b.subflow

event_low : (ds : List Duty) (r : Reply) (p : PathState Carried) → let d = duties.Step step_duties.Events in let x = with_agenda (d ∷ ds) p in let q = answered values d r x in
    is_joined p.profile ≡ true → stands d x ≡ true → LowAt (d ∷ ds) x → LowAt q.agenda q
event_low ds r p joins due h = record {
  leads = answers_lead values r x due h.leads;
  low = λ t unclear.
      let low = h.low t (unclear_at x q (answered_clear values d r x) t unclear) in
      let next = event_next values (next_event x) r x in
      low_by t (end_at t x) (end_at t q) (event_still t (next_event x) r x joins unclear)
      (edge_low (end_at t x) (end_at t q) (λ pos is. step_stay x q (answered_steps values d r x) t pos is) (same_at t x q (event_edges (next_event x) r x)) low.edge)
      (quiet_on q.clock (end_at t x) (end_at t q) (steps_at t x q (answered_steps values d r x)) (next_at t x q next.a next.b) low.quiet)
      low;
  silent = λ unclear. event_silent (next_event x) r x joins ((h.low B (unclear_at x q (answered_clear values d r x) B unclear)).early refl) unclear;
}
  where
    d : Duty
    d = duties.Step step_duties.Events

    x : PathState Carried
    x = with_agenda (d ∷ ds) p

    q : PathState Carried
    q = answered values d r x

answered_low : (d : Duty) (ds : List Duty) (r : Reply) (p : PathState Carried) → let x = with_agenda (d ∷ ds) p in let q = answered values d r x in
    EndsGoByMappings x → is_joined p.profile ≡ true → stands d x ≡ true → LowAt (d ∷ ds) x → LowAt q.agenda q
answered_low (duties.Step step_duties.Events) ds r p maps joins due h = event_low ds r p joins due h
answered_low d ds r p maps joins due h = record {
  leads = answers_lead values r x due h.leads;
  low = λ t unclear. let was = unclear_at x (answered values d r x) (answered_clear values d r x) t unclear in low_answered d ds r x refl maps joins due h t was (h.low t was);
  silent = λ unclear. follow_silent (side_of d) _ d ds (answered values d r x).agenda (answered_follows values d ds r p) (h.silent (unclear_at x (answered values d r x) (answered_clear values d r x) B unclear));
}
  where
    x : PathState Carried
    x = with_agenda (d ∷ ds) p

passes_low : (d : Duty) (ds : List Duty) (p : PathState Carried) → stands d p ≡ false → LowAt (d ∷ ds) p → LowAt ds (passed d p)
passes_low d ds p none h = record {
  leads = passed_leads d ds p h.leads none;
  low = λ t unclear.
      let was = unclear_at p (passed d p) (passed_clear d p) t unclear in let low = h.low t was in let next = passed_next d p in
      low_by t (end_at t p) (end_at t (passed d p)) (still t was) (edge t low.edge)
      (quiet_on (passed d p).clock (end_at t p) (end_at t (passed d p)) (steps_at t p (passed d p) (passed_steps d p)) (next_at t p (passed d p) next.a next.b) low.quiet) low;
  silent = λ unclear. (or_parts (hears_b d) (list_any hears_b ds) (h.silent (unclear_at p (passed d p) (passed_clear d p) B unclear))).1;
}
  where
    away_still : (t : Side) (d : Duty) → peer (side_of d) ≡ t → Still t (end_at t p) (end_at t (passed d p))
    away_still t (duties.Step step_duties.Events) away = same_still t (end_at t p)
    away_still t d away = other_still t d p (passed d p) refl (passes_no_more d p) away

    still : (t : Side) → (end_at t p).modes.clear ≡ false → Still t (end_at t p) (end_at t (passed d p))
    still t unclear = ⊎_elim
        (λ own. subst (λ u. (end_at u p).modes.clear ≡ false → Still u (end_at u p) (end_at u (passed d p))) own (λ unclear. passed_still d p (none_sign d ds p h unclear)) unclear)
        (λ away. away_still t d away)
        (sides t (side_of d))

    edge : (t : Side) → EdgeLow (end_at t p) → EdgeLow (end_at t (passed d p))
    edge t low = ⊎_elim
        (λ own. subst (λ u. EdgeLow (end_at u p) → EdgeLow (end_at u (passed d p))) own (passed_edge d p) low)
        (λ away. edge_low (end_at t p) (end_at t (passed d p)) (λ pos is. step_stay p (passed d p) (passed_steps d p) t pos is)
        (subst (λ u. (end_at u (passed d p)).tcp.recv.edge ≡ (end_at u p).tcp.recv.edge) away (away_passed d p)) low)
        (sides t (side_of d))

low_with : (ds es : List Duty) (p : PathState Carried) → LowAt ds p → LowAt ds (with_agenda es p)
low_with ds es p h = record {
  leads = record { led = h.leads.led; clear = ⊎_elim (λ is. inl is) (λ (u : IsUnclear ds p). inr (record { n = u.n; none = u.none; follows = u.follows })) h.leads.clear };
  low = λ t unclear. by t unclear;
  silent = h.silent;
}
  where
    by : (t : Side) → (end_at t (with_agenda es p)).modes.clear ≡ false → IsLow t (end_at t (with_agenda es p))
    by A unclear = h.low A unclear
    by B unclear = h.low B unclear

settled_low : (ds : List Duty) (p : PathState Carried) → LowAt ds p → LowAt (settled ds p).agenda (settled ds p)
settled_low [] p h = low_with [] [] p h
settled_low (d ∷ ds) p h = by (stands d p) refl (λ none. settled_low ds (passed d p) (passes_low d ds p none h))
  where
    by : (b : Bool) → stands d p ≡ b → (stands d p ≡ false → let q = settled ds (passed d p) in LowAt q.agenda q) → let q = (if b then with_agenda (d ∷ ds) p else settled ds (passed d p)) in LowAt q.agenda q
    by true is rest = low_with (d ∷ ds) (d ∷ ds) p h
    by false is rest = rest is

pub takes_low : (r : Reply) (p : PathState Carried) → FirstStands p.agenda p → EndsGoByMappings p → is_joined p.profile ≡ true → LowAt p.agenda p → LowAt (takes values r p).agenda (takes values r p)
takes_low r p due maps joins h = by p.agenda due (λ s. maps s) h
  where
    by : (ds : List Duty) → let x = with_agenda ds p in FirstStands ds x → EndsGoByMappings x → LowAt ds x → LowAt (takes values r x).agenda (takes values r x)
    by [] due maps h = h
    by (d ∷ ds) due maps h = let q : PathState Carried = answered values d r (with_agenda (d ∷ ds) p) in settled_low q.agenda q (answered_low d ds r p maps joins due h)

started_low : (p : PathState Carried) → LowAt p.agenda p → LowAt (begins_turn p).agenda (begins_turn p)
started_low p h = settled_low start_of_turn (with_agenda start_of_turn p) (record { leads = started_leads p h.leads.led; low = λ t unclear. (low_with p.agenda start_of_turn p h).low t unclear; silent = λ unclear. refl })

pub next_low : (p : PathState Carried) → LowAt p.agenda p → LowAt (next_round p).agenda (next_round p)
next_low p h = started_low n (record { leads = record { led = h.leads.led; clear = ⊎_elim (λ is. inl is) (λ (u : IsUnclear p.agenda p). inr (record { n = u.n; none = u.none; follows = u.follows })) h.leads.clear }; low = by; silent = h.silent })
  where
    n : PathState Carried
    n = record p { clock = p.until; until = p.until + 100 }

    by : (t : Side) → (end_at t n).modes.clear ≡ false → IsLow t (end_at t n)
    by A unclear = h.low A unclear
    by B unclear = h.low B unclear

pub opened_low : (start : Start) (number : ℕ) (plan : PathPlan) → let p = begins_turn (waiting_path (path_begins start number plan) start.lines) in LowAt p.agenda p
opened_low start number plan = started_low p (record {
  leads = record { led = tt; clear = inr (record { n = 0; none = inr tt; follows = tt }) };
  low = λ t unclear. low t;
  silent = λ unclear. refl;
})
  where
    p : PathState Carried
    p = waiting_path (path_begins start number plan) start.lines

    low : (t : Side) → IsLow t (end_at t p)
    low A = record { live = refl; infinite = refl; unacked = refl; early = λ same. cc; edge = inl (omega arith); quiet = (omega arith, refl) }
    low B = record { live = refl; infinite = refl; unacked = refl; early = λ same. refl; edge = inl (omega arith); quiet = (omega arith, refl) }
