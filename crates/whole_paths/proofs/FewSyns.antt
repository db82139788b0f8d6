-- While A's end opens it sends its SYN alone: once, and once more for each expiry. So its segments are few.
use Rattle.std.proofs.Common.{◌≡◌, refl, sym, subst, ap, ◌∙◌, ◌⊎◌, inl, inr, ⊎_elim, ℕ, zero, suc, ◌+◌, ◌≤◌, le_refl, arith, ◌||◌, Bool, true, false, true≢false, if◌then◌else◌, Option, Some, None, is_some, List, [], ◌∷◌, length}
use Rattle.std.specs.Prelude.{find, not}
use Rattle.std.specs.List.{list_any}
use Rattle.std.proofs.lemmas.Bool.{and_parts, both_ways, leb-true, or_left}
use Rattle.std.proofs.lemmas.Option.{same_Some}
use Rattle.path_segments.specs.Heard.{HeardSegment}
use Rattle.sides.specs.declared.side.Side.{Side}
use Rattle.sides.specs.declared.side.Side.TheVariants.{A, B}
use Rattle.sides.specs.Side.{peer}
use Rattle.link_script.specs.Places.{same_side}
use Rattle.link_model.specs.Steps.{after_delivery, after_send, arriving, segments_sent}
use Rattle.loss_recovery.specs.declared.timers.Timing.{Timing}
use Rattle.subflow_send.specs.Records.{Record, SendState}
use Rattle.subflow_send.specs.Rules.{expired_records, first_sent, first_unsent_sent, is_unsent}
use Rattle.subflow_send.specs.Sendings.{sent_again}
use Rattle.subflow_tcp.specs.declared.handshake.State.{State as EndPhase}
use Rattle.subflow_tcp.specs.declared.handshake.State.TheVariants as phase
use Rattle.subflow_tcp.specs.declared.segments.Occasion.{Occasion}
use Rattle.subflow_tcp.specs.declared.segments.Occasion.TheVariants as to_send
use Rattle.subflow_tcp.specs.declared.segments.Outgoing.{Outgoing}
use Rattle.dss_mapping.specs.declared.kept.KeptMapping.{KeptMapping}
use Rattle.fallback_state.specs.declared.fall.Event.TheVariants as events
use Rattle.subflow_tcp.specs.declared.verdicts.Meaning.{Meaning}
use Rattle.subflow_tcp.specs.declared.verdicts.Meaning.TheVariants as means
use Rattle.subflow_tcp.specs.Emitting.{after_sending}
use Rattle.subflow_tcp.specs.Expiring.{after_expiry, is_sixth}
use Rattle.subflow_tcp.specs.Judging.{meaning_of}
use Rattle.subflow_tcp.specs.Opening.{after_begin}
use Rattle.subflow_tcp.specs.State.{EndState, has_records}
use Rattle.subflow_tcp.specs.States.{is_closed_to_segments, is_dead, is_opening, is_waiting, may_finish}
use Rattle.subflow_tcp.specs.Taking.{after_death, after_hearing, after_payload}
use Rattle.actor_desk.specs.declared.ask.Reply.{Reply}
use Rattle.actor_desk.specs.Words.{tail_of}
use Rattle.path_agenda.specs.Agenda.{emission, expired, expired_for_ever, heard_and, leaves, payload_came, resets, start_of_turn}
use Rattle.path_agenda.specs.declared.duty.Duty.{Duty}
use Rattle.path_agenda.specs.declared.duty.Duty.TheVariants as duties
use Rattle.path_agenda.specs.declared.duty.AskDuty.TheVariants as ask_duties
use Rattle.path_agenda.specs.declared.duty.SendDuty.{SendDuty}
use Rattle.path_agenda.specs.declared.duty.SendDuty.TheVariants as send_duties
use Rattle.path_agenda.specs.declared.duty.StepDuty.TheVariants as step_duties
use Rattle.path_agenda.specs.declared.heard.Heard.{Heard}
use Rattle.path_agenda.specs.declared.heard.Heard.TheVariants as says
use Rattle.path_agenda.specs.declared.keys.KeyPair.{KeyPair}
use Rattle.path_store.specs.declared.lines.LineAction.{LineAction}
use Rattle.path_store.specs.declared.lines.LineAction.TheVariants as actions
use Rattle.path_core.specs.Arrival.{copy_heard, copy_judged, copy_of, heard_in, judged_in, owing_if, reset_for, template_by, template_of, told_at}
use Rattle.path_core.specs.Breaking.{answered_break, reset_on}
use Rattle.path_core.specs.DataFin.{is_data_fin_owed}
use Rattle.path_core.specs.DssIn.{held_of, is_clash, with_learned}
use Rattle.path_core.specs.Duties.{answered, passed, sent_for, stands}
use Rattle.path_core.specs.Emission.{answered_data, answered_grant, data_stands, first_unsent, fits, grant_in, resend_occasion}
use Rattle.path_core.specs.End.{PathEnd, died}
use Rattle.path_core.specs.Events.{after_line, happens_if, next_event}
use Rattle.path_core.specs.Fallback.{after_fell, breaks_by_ack, fell_duties, with_plain_ack}
use Rattle.path_core.specs.Judged.{taken_as}
use Rattle.path_core.specs.Looking.{duty_sends, unsent_sends}
use Rattle.path_core.specs.MpJoin.{is_joined, is_never, join_begun, keys_begun, never_joined, opened_by, with_keys}
use Rattle.path_core.specs.OptionsIn.{hint_of, items_of, options_heard, owes_by}
use Rattle.path_core.specs.Standing.{answered_ack_out, is_connected}
use Rattle.path_core.specs.Start.{waiting_path}
use Rattle.path_core.specs.State.{PathState, at_tick, end_at, goes_on, with_agenda}
use Rattle.path_core.specs.Steps.{begins_turn, next_round, settled, takes}
use Rattle.path_core.specs.Treating.{answered_heard, answered_item, item_of}
use Rattle.path_core.specs.Values.{Carried, values}
use Rattle.path_core.specs.declared.events.Event.{Event}
use Rattle.path_core.specs.declared.events.Event.TheVariants as happenings
use Rattle.world_laws.specs.Actors.{ActorCrew}
use Rattle.world_laws.specs.Openings.{PathPlan, Start, opened_world, path_begins}
use Rattle.world_laws.specs.RoundDone.{reached}
use Rattle.world_laws.specs.Worlds.{Turn}
use Rattle.world_laws.specs.Writes.{EndView, EndWrites, Only, OnlyAt, PathView, Writes, nothing, side_of, writes}
use Rattle.world_laws.proofs.Falls.FailedChecks.{fail_answered_so, infinite_came_so}
use Rattle.world_laws.proofs.Keys.AreDrawn.{is_past}
use Rattle.world_laws.proofs.Whole.Ends.{MeansIs, means_so}
use Rattle.world_laws.proofs.Writes.Paths.{writes_no_more}
use Rattle.world_laws.proofs.Writes.Steps.{begins_lasts, both_ends, settled_lasts, unwritten}
use Rattle.whole_paths.specs.AgendaSteps.{Follows, is_told}
use Rattle.whole_paths.specs.AgendaSteps.{Follows as follow}
use Rattle.whole_paths.specs.AsFar.{stage}
use Rattle.whole_paths.specs.ExpiriesInARow.{RowGoesOn, in_a_row}
use Rattle.whole_paths.specs.ExpiriesInARow.{RowGoesOn as row}
use Rattle.whole_paths.specs.Finish.{IsPathAt}
use Rattle.whole_paths.specs.Mild.{is_harsh}
use Rattle.whole_paths.specs.News.{one_if}
use Rattle.whole_paths.specs.OnePathScripts.{BeginsWithOnePath}
use Rattle.whole_paths.specs.OpeningStates.{IsOfA}
use Rattle.whole_paths.specs.OpeningStates.{IsOfA as of_a}
use Rattle.whole_paths.specs.FewSyns.{SynsAreFew}
use Rattle.whole_paths.proofs.AckedData.{opened_here}
use Rattle.whole_paths.proofs.Agendas.{answered_follows, died_gone}
use Rattle.whole_paths.proofs.ByTurns.{Becomes, Of, OfFirst, each_step}
use Rattle.whole_paths.proofs.Came.{quiet_link}
use Rattle.whole_paths.proofs.Clearing.{none_other, past_met, refused_at}
use Rattle.whole_paths.proofs.Copies.{DeadStays, LinkStays, dead_last, links_last}
use Rattle.whole_paths.proofs.Early.{late_at}
use Rattle.whole_paths.proofs.EarlySegments.{Moment, connected_far, finish_far}
use Rattle.whole_paths.proofs.ExpiriesInARow.{BothSame, takes_row}
use Rattle.whole_paths.proofs.ExpiriesInARow.{same_lasts as row_lasts}
use Rattle.whole_paths.proofs.Handshaking.{Given, PathMet, each_met, given, living_before, moment, next_far, takes_far}
use Rattle.whole_paths.proofs.Paying.{sends_own, settled_far}
use Rattle.whole_paths.proofs.Pieces.{is_event}
use Rattle.whole_paths.proofs.RecordsGo.{SameRecords, same_lasts}
use Rattle.whole_paths.proofs.Subflows.{ack_up}
use Rattle.whole_paths.proofs.Waiting.{Far}

-- ---- what is counted

-- a record is to be sent
abbrev unsent : PathEnd → ℕ
unsent e = one_if (is_some (first_unsent e))

-- how often A's first record is to go again
abbrev resends : List Duty → ℕ
resends [] = 0
resends (duties.Send (send_duties.Resend A) ∷ ds) = suc (resends ds)
resends (d ∷ ds) = resends ds

tail_fewer : (d : Duty) (ds : List Duty) → resends ds ≤ resends (d ∷ ds)
tail_fewer (duties.Send (send_duties.Resend A)) ds = omega arith
tail_fewer (duties.Send (send_duties.Resend B)) ds = le_refl (resends ds)
tail_fewer d ds = le_refl (resends ds)

told_same : (e : Duty) (ds : List Duty) → is_told e ≡ true → resends (e ∷ ds) ≤ resends ds
told_same (duties.Send (send_duties.Resend s)) ds is = absurd (true≢false (sym is))
told_same e ds is = le_refl (resends ds)

follow_fewer : (s : Side) (gone : Bool) (d : Duty) (ds next : List Duty) → Follows s gone d ds next → resends next ≤ resends (d ∷ ds)
follow_fewer s gone d ds next follow.goes_on = tail_fewer d ds
follow_fewer s gone d ds next follow.again = le_refl (resends (d ∷ ds))
follow_fewer s gone d ds next (follow.told treats e own both one quiet) = (let less = told_same e ds one in let tail = tail_fewer d ds in omega (arith, less, tail))
follow_fewer s gone d ds next (follow.left is) = tail_fewer d ds
follow_fewer s gone d ds next follow.noted = tail_fewer d ds
follow_fewer s gone d ds next (follow.broken is reason) = omega arith
follow_fewer s gone d ds next (follow.is_reset is reason) = omega arith
follow_fewer s gone d ds next (follow.dead is died) = omega arith
follow_fewer s gone d ds next (follow.stopped is) = omega arith
follow_fewer s gone d ds next (follow.over is) = omega arith

settled_fewer : (ds : List Duty) (p : PathState Carried) → resends (settled ds p).agenda ≤ resends ds
settled_fewer [] p = omega arith
settled_fewer (d ∷ ds) p = (elim (stands d p) as (λ b. resends (if b then with_agenda (d ∷ ds) p else settled ds (passed d p)).agenda ≤ resends (d ∷ ds))
    [ true ↦ le_refl (resends (d ∷ ds)) | false ↦ (let rest = settled_fewer ds (passed d p) in let tail = tail_fewer d ds in omega (arith, rest, tail)) ])

-- ---- records, of which there is one

one_is_sent : (now : ℕ) (rs : List Record) → length rs ≤ 1 → one_if (is_some (find is_unsent (first_unsent_sent now rs))) ≡ 0
one_is_sent now [] few = refl
one_is_sent now (r ∷ []) few = by (is_unsent r) refl
  where
    by : (b : Bool) → is_unsent r ≡ b → one_if (is_some (find is_unsent (if b then record r { sending = sent_again now r.sending } ∷ [] else r ∷ []))) ≡ 0
    by true is = refl
    by false is = ap (λ c. one_if (is_some (if c then Some r else None))) is
one_is_sent now (r ∷ s ∷ rs) few = absurd (omega (arith, few))

sent_long : (now : ℕ) (rs : List Record) → length (first_unsent_sent now rs) ≡ length rs
sent_long now [] = refl
sent_long now (r ∷ rs) = by (is_unsent r) (sent_long now rs)
  where
    by : (b : Bool) → length (first_unsent_sent now rs) ≡ length rs → length (if b then record r { sending = sent_again now r.sending } ∷ rs else r ∷ first_unsent_sent now rs) ≡ suc (length rs)
    by true rest = refl
    by false rest = ap suc rest

first_is_sent : (now : ℕ) (rs : List Record) → length rs ≤ 1 → one_if (is_some (find is_unsent (first_sent now rs))) ≡ 0
first_is_sent now [] few = refl
first_is_sent now (r ∷ []) few = refl
first_is_sent now (r ∷ s ∷ rs) few = absurd (omega (arith, few))

first_long : (now : ℕ) (rs : List Record) → length (first_sent now rs) ≡ length rs
first_long now [] = refl
first_long now (r ∷ rs) = refl

expired_same : (rs : List Record) → length rs ≤ 1 → (one_if (is_some (find is_unsent (expired_records rs))) ≡ one_if (is_some (find is_unsent rs))) × (length (expired_records rs) ≡ length rs)
expired_same [] few = (refl, refl)
expired_same (r ∷ []) few = (by (is_unsent r), refl)
  where
    by : (b : Bool) → one_if (is_some (if b then Some (record r { sending = record r.sending { first_at_expiry = true } }) else None)) ≡ one_if (is_some (if b then Some r else None))
    by true = refl
    by false = refl
expired_same (r ∷ s ∷ rs) few = absurd (omega (arith, few))

-- ---- A's end

record Same (e f : PathEnd) : Type 0 where
  records : f.tcp.send.records ≡ e.tcp.send.records
  expiries : in_a_row f ≡ in_a_row e

-- its records stay, or it is dead, or past the SYNs
data Kept (e f : PathEnd) : Type 0 where
  stays : Same e f → Kept e f
  dies : is_dead f.tcp.state ≡ true → Kept e f
  goes_past : 2 ≤ stage f.tcp.state → Kept e f

rests : (e : PathEnd) → Kept e e
rests e = stays (record { records = refl; expiries = refl })

same : (e f : PathEnd) → f.tcp.send.records ≡ e.tcp.send.records → in_a_row f ≡ in_a_row e → Kept e f
same e f records expiries = stays (record { records = records; expiries = expiries })

-- on a path
record OnA (p q : PathState Carried) : Type 0 where
  kept : Kept p.a q.a

either : (b : Bool) (q r p : PathState Carried) → OnA p q → OnA p r → OnA p (if b then q else r)
either true q r p x y = x
either false q r p x y = y

side : (s : Side) (e : PathEnd) (p q : PathState Carried) → Kept (end_at s p) e → q.a ≡ (goes_on s e [] p).a → OnA p q
side A e p q x is = record { kept = subst (Kept p.a) (sym is) x }
side B e p q x is = record { kept = subst (Kept p.a) (sym is) (rests p.a) }

both_rest : (p q : PathState Carried) → q.a ≡ p.a → OnA p q
both_rest p q is = record { kept = subst (Kept p.a) (sym is) (rests p.a) }

only_same : (w : EndWrites) (e f : PathEnd) → w.send ≡ false → w.timing ≡ false → Only w e f → Same e f
only_same w e f send timing x = record {
  records = ap (λ (v : SendState). v.records) (unwritten w.send e.tcp.send f.tcp.send send (ap (λ (v : EndView). v.send) x.same));
  expiries = ap (λ (t : Timing). t.expiries) (unwritten w.timing e.tcp.timing f.tcp.timing timing (ap (λ (v : EndView). v.timing) x.same));
}

plain : (s : Side) (w : Writes) (p q : PathState Carried) → w.own.send ≡ false → w.own.timing ≡ false → w.other ≡ nothing → OnlyAt s w p q → OnA p q
plain s w p q send timing none x = record { kept = stays (both_ends (λ e f. Same e f) s w p q (λ e f only. only_same w.own e f send timing only) (λ e f only. only_same nothing e f refl refl (subst (λ v. Only v e f) none only)) x).0 }

-- by a duty of B's end
other_kept : (d : Duty) (r : Reply) (p : PathState Carried) → is_event d ≡ false → side_of d ≡ B → OnA p (answered values d r p)
other_kept d r p other own = record {
  kept = stays (subst (λ s. Same (end_at (peer s) p) (end_at (peer s) (answered values d r p))) own
      (only_same nothing (end_at (peer (side_of d)) p) (end_at (peer (side_of d)) (answered values d r p)) refl refl
      (subst (λ v. Only v (end_at (peer (side_of d)) p) (end_at (peer (side_of d)) (answered values d r p))) (none_other d other) (record { same = ap (λ (v : PathView Carried). v.other) (writes_no_more values d r p).same }))));
}

break_kept : (s : Side) (reason : ℕ) (r : Reply) (p : PathState Carried) → OnA p (answered_break values s reason r p)
break_kept s reason r p = either (end_at s p).treated.asked _ _ p (side s _ p _ (same _ _ refl refl) refl) (side s (died (end_at s p)) p _ (dies refl) refl)

thing_kept : (s : Side) (item : Heard) (r : Reply) (p : PathState Carried) → OnA p (answered_heard values s item r p)
thing_kept s (says.DataAck next window) r p = side s _ p _ (same _ _ refl refl) refl
thing_kept s (says.Mapping fin) r p = either (is_clash (end_at s p)) _ _ p (break_kept s 1 r p) (side s _ p _ (same _ _ refl refl) refl)
thing_kept s (says.DataFin place) r p = side s _ p _ (same _ _ refl refl) refl
thing_kept s (says.InfiniteMapping place position) r p =
    let e = end_at s p in side s _ p _ (infinite_came_so (λ f. Kept e f) place position r e (λ other. same e _ refl refl)) refl
thing_kept s (says.Keys own peer) r p = side s _ p _ (same _ _ refl refl) refl
thing_kept s (says.Notice notice) r p = side s _ p _ (same _ _ refl refl) refl
thing_kept s says.Fail r p = fail_answered_so (OnA p) s r p (side s _ p _ (same _ _ refl refl) refl) (side s _ p _ (same _ _ refl refl) refl)
thing_kept s _ r p = both_rest p _ refl

things_kept : (s : Side) (item : Option Heard) (r : Reply) (p : PathState Carried) → OnA p (answered_item values s item r p)
things_kept s None r p = both_rest p _ refl
things_kept s (Some item) r p = thing_kept s item r p

begun_kept : (r : Reply) (dead living : List Duty) (p : PathState Carried) → OnA p (join_begun r dead living p)
begun_kept r dead living p = either (is_never r) (goes_on A (never_joined r p.a) dead p) (goes_on A (opened_by (keys_begun r) p.a) living p) p (record { kept = dies refl }) (record { kept = opens_kept (keys_begun r) })
  where
    opens_kept : (keys : Option KeyPair) → Kept p.a (opened_by keys p.a)
    opens_kept None = rests p.a
    opens_kept (Some keys) = elim (is_waiting p.a.tcp.state) as (λ b. Kept p.a (record p.a { tcp = if b then after_begin p.a.tcp else p.a.tcp; modes = with_keys keys p.a.modes }))
        [ true ↦ same p.a _ refl refl | false ↦ same p.a _ refl refl ]

data_kept : (s : Side) (o : Option Record) (r : Reply) (p : PathState Carried) → data_stands p.profile s (end_at s p) o ≡ true → unsent_sends s o ≡ None → OnA p (answered_data values s o r p)
data_kept s (Some u) r p stood none = cc
data_kept A None r p stood none = elim (grant_in r) as (λ o. OnA p (answered_grant A o r p)) [ Some grant ↦ record { kept = goes_past far } | None ↦ record { kept = goes_past far } ]
  where
    far : 2 ≤ stage p.a.tcp.state
    far = finish_far p.a.tcp.state (and_parts (may_finish p.a.tcp.state) _ stood).0
data_kept B None r p stood none = elim (grant_in r) as (λ o. OnA p (answered_grant B o r p)) [ Some grant ↦ both_rest p (answered_grant B (Some grant) r p) refl | None ↦ both_rest p (answered_grant B None r p) refl ]

-- by a duty of A's end that sends nothing
own_kept : (d : Duty) (r : Reply) (p : PathState Carried) → is_event d ≡ false → stands d p ≡ true → duty_sends d p ≡ None → OnA p (answered values d r p)
own_kept (duties.Step step_duties.Events) r p other stood none = absurd (true≢false other)
own_kept (duties.Ask ask_duties.JoinAgain) r p other stood none = begun_kept r _ _ p
own_kept (duties.Ask (ask_duties.LeaveNoted s)) r p other stood none = side s (died (end_at s p)) p _ (dies refl) refl
own_kept (duties.Step (step_duties.Data s)) r p other stood none = data_kept s (first_unsent (end_at s p)) r p stood none
own_kept (duties.Step (step_duties.Heard s index)) r p other stood none = things_kept s (item_of index (end_at s p)) r p
own_kept (duties.Step (step_duties.PlainAck s)) r p other stood none = either (breaks_by_ack p.profile (end_at s p)) _ _ p (break_kept s 6 r p) (side s _ p _ (same _ _ refl refl) refl)
own_kept (duties.Step (step_duties.Unmapped s)) r p other stood none = break_kept s 6 r p
own_kept (duties.Send d) r p other stood none = absurd (let x = sends_own d in no_some (sym x.1.0 ∙ none))
  where
    no_some : {X : Type 0} {x : X} → Some x ≡ None → ⊥
    no_some is = cc
own_kept (duties.Silent d) r p other stood none = both_rest p _ refl
own_kept d r p other stood none = plain (side_of d) (writes d) p _ refl refl refl (writes_no_more values d r p)

-- ---- an event

-- A's end sends no more, by a turn that isn't its expiry
record Calm (p q : PathState Carried) : Type 0 where
  kept : OnA p q
  link : segments_sent A q.link ≡ segments_sent A p.link
  agenda : resends q.agenda ≡ 0

-- its timer ran out, or for ever
data Fires (p q : PathState Carried) : Type 0 where
  once_more : in_a_row q.a ≡ suc (in_a_row p.a) → q.a.tcp.send.records ≡ expired_records p.a.tcp.send.records → segments_sent A q.link ≡ segments_sent A p.link → resends q.agenda ≡ 1 → Fires p q
  for_ever : is_dead q.a.tcp.state ≡ true → Fires p q

none_heard : (s : Side) (from count : ℕ) → resends (heard_and s from count (payload_came s)) ≡ 0
none_heard s from zero = refl
none_heard s from (suc count) = none_heard s (from + 1) count

none_came : (s : Side) (count : ℕ) (m : Meaning) → resends (template_by false s count m) ≡ 0
none_came s count (means.Taken position acknowledged) = none_heard s 0 count
none_came s count (means.Accepts acknowledged) = refl
none_came s count means.Ignored = refl
none_came s count means.Unwanted = refl
none_came s count means.Opens = refl
none_came s count means.RepeatedSyn = refl
none_came s count means.Outside = refl
none_came s count means.Kills = refl
none_came s count means.Challenged = refl
none_came s count means.Unacknowledging = refl
none_came s count means.Ahead = refl

-- an end that sent its SYN
sent_syn : (x : EndPhase) → IsOfA x → 1 ≤ stage x → stage x ≤ 1 → x ≡ phase.SynSent
sent_syn x (of_a.waiting is) up low = absurd (let none = ap stage is in omega (arith, none, up))
sent_syn x (of_a.sent is) up low = is
sent_syn x (of_a.past high) up low = absurd (omega (arith, high, low))

module _ (told : List KeptMapping) (answer : Outgoing) (now : ℕ) (h : HeardSegment) (e : PathEnd) (sent : e.tcp.state ≡ phase.SynSent) where
  abbrev heard : Meaning → PathEnd
  heard m = copy_judged false told answer A now h m e

  owing : (b : Bool) (s : EndState) → (owing_if b s).send.records ≡ s.send.records × ((owing_if b s).timing.expiries ≡ s.timing.expiries)
  owing true s = (refl, refl)
  owing false s = (refl, refl)

  never_past : {X : Type 0} → is_past e.tcp.state ≡ true → X
  never_past is = absurd (let two = past_met e.tcp.state is in let one = ap stage sent in omega (arith, two, one))

  judged_kept : (m : Meaning) → MeansIs (copy_of h) e.tcp m → Kept e (heard m)
  judged_kept means.Ignored fits = let x = owing (owes_by means.Ignored (items_of false A h)) e.tcp in same e (heard means.Ignored) x.0 x.1
  judged_kept means.Unwanted fits = let x = owing (owes_by means.Unwanted (items_of false A h)) e.tcp in same e (heard means.Unwanted) x.0 x.1
  judged_kept means.Kills fits = dies refl
  judged_kept (means.Accepts n) fits =
      goes_past (let up = (ack_up n now (record (after_hearing (after_payload 1 (hint_of (items_of false A h)) (copy_of h) e.tcp)) { state = phase.Established })).state in omega (arith, up))
  judged_kept means.Opens fits = absurd (let other : phase.Listen ≡ phase.SynSent = sym fits.0 ∙ sent in cc)
  judged_kept (means.Taken pos n) fits = never_past fits.0
  judged_kept means.RepeatedSyn fits = never_past fits
  judged_kept means.Outside fits = never_past fits
  judged_kept means.Challenged fits = never_past fits
  judged_kept means.Unacknowledging fits = never_past fits
  judged_kept means.Ahead fits = never_past fits

module _ (r : Reply) where
  told_calm : (now : ℕ) (s : Side) (h : HeardSegment) (p : PathState Carried) → is_joined p.profile ≡ false → p.a.tcp.state ≡ phase.SynSent → Calm p (told_at now s h p)
  told_calm now s h p first sent = by (is_joined p.profile) first
    where
      by : (joined : Bool) → joined ≡ false
          → Calm p (goes_on s (copy_judged joined (held_of p.profile s h) (reset_for p.profile s h) s now h (taken_as (judged_in joined s h (end_at s p))) (end_at s p))
          (template_of joined s (items_of joined s h) (judged_in joined s h (end_at s p))) p)
      by true is = absurd (true≢false is)
      by false is = record { kept = record { kept = at s }; link = refl; agenda = none_came s (length (items_of false s h)) (meaning_of (copy_of h) (end_at s p).tcp) }
        where
          at : (s : Side) → Kept p.a (goes_on s (copy_judged false (held_of p.profile s h) (reset_for p.profile s h) s now h (meaning_of (copy_of h) (end_at s p).tcp) (end_at s p)) [] p).a
          at A = judged_kept (held_of p.profile A h) (reset_for p.profile A h) now h p.a sent (meaning_of (copy_of h) p.a.tcp) (means_so (copy_of h) p.a.tcp)
          at B = rests p.a

  copy_calm : (s : Side) (o : Option HeardSegment) (p : PathState Carried) → is_joined p.profile ≡ false → p.a.tcp.state ≡ phase.SynSent → Calm p (copy_heard s o p)
  copy_calm s None p first sent = record { kept = both_rest p (copy_heard s None p) refl; link = refl; agenda = refl }
  copy_calm s (Some x) p first sent = told_calm p.clock s (options_heard (end_at s p) x) p first sent

  line_calm : (action : LineAction) (p : PathState Carried) → (is_dead (after_line action p).a.tcp.state ≡ true) ⊎ Calm p (after_line action p)
  line_calm actions.Die p = inl (died_gone p.a)
  line_calm (actions.Prio s backup) p = inr (record { kept = side s _ p (after_line (actions.Prio s backup) p) (same _ _ refl refl) refl; link = refl; agenda = refl })
  line_calm (actions.Announce s id) p = inr (record { kept = both_rest p (after_line (actions.Announce s id) p) refl; link = refl; agenda = refl })
  line_calm (actions.Withdraw s id) p = inr (record { kept = both_rest p (after_line (actions.Withdraw s id) p) refl; link = refl; agenda = refl })

  -- from the same end, segments and agenda
  from_there : (p x q : PathState Carried) → x.a ≡ p.a → segments_sent A x.link ≡ segments_sent A p.link → Calm x q → Calm p q
  from_there p x q a link h = record { kept = record { kept = subst (λ e. Kept e q.a) a h.kept.kept }; link = h.link ∙ link; agenda = h.agenda }

  event_row : (o : Option Event) (p : PathState Carried) → is_joined p.profile ≡ false → p.a.tcp.state ≡ phase.SynSent → next_event p ≡ o
      → let q = happens_if values o r p in (is_dead q.a.tcp.state ≡ true) ⊎ (Calm p q ⊎ Fires p q)
  event_row None p first sent next = inr (inl (record { kept = record { kept = rests p.a }; link = refl; agenda = refl }))
  event_row (Some (happenings.Joins tick)) p first sent next = by (is_never r)
    where
      x : PathState Carried
      x = record (at_tick tick p) { joined_at = None }

      by : (b : Bool) → let q = (if b then goes_on A (never_joined r x.a) (leaves A) x else goes_on A (opened_by (keys_begun r) x.a) (emission A) x) in (is_dead q.a.tcp.state ≡ true) ⊎ (Calm p q ⊎ Fires p q)
      by true = inl refl
      by false = inr (inl (record { kept = record { kept = opens (keys_begun r) }; link = refl; agenda = refl }))
        where
          opens : (keys : Option KeyPair) → Kept p.a (opened_by keys x.a)
          opens None = same p.a x.a refl refl
          opens (Some keys) = elim (is_waiting x.a.tcp.state) as (λ b. Kept p.a (record x.a { tcp = if b then after_begin x.a.tcp else x.a.tcp; modes = with_keys keys x.a.modes }))
              [ true ↦ same p.a _ refl refl | false ↦ same p.a _ refl refl ]
  event_row (Some (happenings.Takes line)) p first sent next =
      let x : PathState Carried = record (at_tick line.tick p) { lines = tail_of p.lines } in
      ⊎_elim (λ dead. inl dead) (λ calm. inr (inl (from_there p x (after_line line.action x) refl refl calm))) (line_calm line.action x)
  event_row (Some (happenings.Arrives due)) p first sent next =
      let x : PathState Carried = record (at_tick due.tick p) { link = after_delivery due p.link } in
      inr (inl (from_there p x (copy_heard due.to (heard_in values due.to (arriving due p.link) p) x) refl refl (copy_calm due.to (heard_in values due.to (arriving due p.link) p) x first sent)))
  event_row (Some (happenings.Fires A tick)) p first sent next = by (is_sixth p.a.tcp)
    where
      x : PathState Carried
      x = at_tick tick p

      by : (b : Bool) → let q = goes_on A (record p.a { tcp = if b then after_death true p.a.tcp else after_expiry x.clock p.a.tcp }) (if b then expired_for_ever A else expired A) x in
          (is_dead q.a.tcp.state ≡ true) ⊎ (Calm p q ⊎ Fires p q)
      by true = inl refl
      by false = inr (inr (once_more (omega arith) refl refl refl))
  event_row (Some (happenings.Fires B tick)) p first sent next = by (is_sixth p.b.tcp)
    where
      x : PathState Carried
      x = at_tick tick p

      by : (b : Bool) → let q = goes_on B (record p.b { tcp = if b then after_death true p.b.tcp else after_expiry x.clock p.b.tcp }) (if b then expired_for_ever B else expired B) x in
          (is_dead q.a.tcp.state ≡ true) ⊎ (Calm p q ⊎ Fires p q)
      by true = inr (inl (record { kept = record { kept = rests p.a }; link = refl; agenda = refl }))
      by false = inr (inl (record { kept = record { kept = rests p.a }; link = refl; agenda = refl }))

-- ---- a duty

same_itself : (s : Side) → same_side s s ≡ true
same_itself A = refl
same_itself B = refl

-- the link takes a segment of this side's
data TakesFrom (s : Side) (p q : PathState Carried) : Type 0 where
  takes_one : (carried : Carried) (size : ℕ) → q.link ≡ after_send (values.strips p.profile.spelling) (values.alters p.profile.spelling) s carried size p.clock p.link → TakesFrom s p q

of_b : (s : Side) (p q : PathState Carried) → TakesFrom s p q → s ≡ B → segments_sent A q.link ≡ segments_sent A p.link
of_b A p q t own = cc
of_b B p q (takes_one carried size is) own = ap (λ l. segments_sent A l) is

one_more : (s : Side) (p q : PathState Carried) → TakesFrom s p q → segments_sent A q.link ≤ suc (segments_sent A p.link)
one_more A p q (takes_one carried size is) = (let same = ap (λ l. segments_sent A l) is in omega (arith, same))
one_more B p q (takes_one carried size is) = (let same = ap (λ l. segments_sent A l) is in omega (arith, same))

sent_takes : (d : SendDuty) (p : PathState Carried) → TakesFrom (side_of (duties.Send d)) p (sent_for values d p)
sent_takes (send_duties.Update s) p = takes_one _ _ refl
sent_takes d p = takes_one _ _ refl

b_break : (s : Side) (reason : ℕ) (r : Reply) (p : PathState Carried) → s ≡ B → segments_sent A (answered_break values s reason r p).link ≡ segments_sent A p.link
b_break s reason r p own = elim (end_at s p).treated.asked as
    (λ b. segments_sent A (if b then answered_ack_out s r (resets s reason) p else reset_on values s (Some reason) (leaves s) p).link ≡ segments_sent A p.link)
    [ true ↦ refl | false ↦ of_b s p (reset_on values s (Some reason) (leaves s) p) (takes_one _ _ refl) own ]

b_item : (s : Side) (o : Option Heard) (r : Reply) (p : PathState Carried) → s ≡ B → segments_sent A (answered_item values s o r p).link ≡ segments_sent A p.link
b_item s (Some (says.Mapping fin)) r p own = elim (is_clash (end_at s p)) as
    (λ b. segments_sent A (if b then answered_break values s 1 r p else goes_on s (with_learned (after_fell events.MappingHeard r (end_at s p))) (fell_duties s r p) p).link ≡ segments_sent A p.link)
    [ true ↦ b_break s 1 r p own | false ↦ refl ]
b_item s (Some says.Fail) r p own = fail_answered_so (λ q. segments_sent A q.link ≡ segments_sent A p.link) s r p refl refl
b_item s None r p own = refl
b_item s (Some _) r p own = refl

b_data : (s : Side) (o : Option Record) (r : Reply) (p : PathState Carried) → s ≡ B → segments_sent A (answered_data values s o r p).link ≡ segments_sent A p.link
b_data s (Some u) r p own = of_b s p (answered_data values s (Some u) r p) (takes_one _ _ refl) own
b_data s None r p own = elim (grant_in r) as (λ o. segments_sent A (answered_grant s o r p).link ≡ segments_sent A p.link) [ Some grant ↦ refl | None ↦ refl ]

b_link : (d : Duty) (r : Reply) (p : PathState Carried) → is_event d ≡ false → side_of d ≡ B → segments_sent A (answered values d r p).link ≡ segments_sent A p.link
b_link (duties.Step step_duties.Events) r p other own = absurd (true≢false other)
b_link (duties.Send d) r p other own = of_b (side_of (duties.Send d)) p (sent_for values d p) (sent_takes d p) own
b_link (duties.Step (step_duties.Data s)) r p other own = b_data s (first_unsent (end_at s p)) r p own
b_link (duties.Step (step_duties.Heard s index)) r p other own = b_item s (item_of index (end_at s p)) r p own
b_link (duties.Step (step_duties.PlainAck s)) r p other own = elim (breaks_by_ack p.profile (end_at s p)) as
    (λ b. segments_sent A (if b then answered_break values s 6 r p else goes_on s (with_plain_ack (after_fell events.PlainAck r (end_at s p))) (fell_duties s r p) p).link ≡ segments_sent A p.link)
    [ true ↦ b_break s 6 r p own | false ↦ refl ]
b_link (duties.Step (step_duties.Unmapped s)) r p other own = b_break s 6 r p own
b_link d r p other own = ap (λ l. segments_sent A l) (quiet_link values d r p refl refl)

-- A's end is dead, or its link stays
abbrev Quiet : PathState Carried → PathState Carried → Type 0
Quiet p q = (is_dead q.a.tcp.state ≡ true) ⊎ (segments_sent A q.link ≡ segments_sent A p.link)

a_break : (s : Side) (reason : ℕ) (r : Reply) (p : PathState Carried) → s ≡ A → Quiet p (answered_break values s reason r p)
a_break s reason r p own = subst (λ s. Quiet p (answered_break values s reason r p)) (sym own)
    (elim p.a.treated.asked as (λ b. Quiet p (if b then answered_ack_out A r (resets A reason) p else reset_on values A (Some reason) (leaves A) p)) [ true ↦ inr refl | false ↦ inl refl ])

a_item : (s : Side) (o : Option Heard) (r : Reply) (p : PathState Carried) → s ≡ A → Quiet p (answered_item values s o r p)
a_item s (Some (says.Mapping fin)) r p own = elim (is_clash (end_at s p)) as
    (λ b. Quiet p (if b then answered_break values s 1 r p else goes_on s (with_learned (after_fell events.MappingHeard r (end_at s p))) (fell_duties s r p) p))
    [ true ↦ a_break s 1 r p own | false ↦ inr refl ]
a_item s (Some says.Fail) r p own = fail_answered_so (λ q. Quiet p q) s r p (inr refl) (inr refl)
a_item s None r p own = inr refl
a_item s (Some _) r p own = inr refl

-- a duty of A's end that opens: its SYN goes, for the first time or again; or nothing does
data Kind (d : Duty) (r : Reply) (p : PathState Carried) : Type 0 where
  is_syn : d ≡ duties.Send (send_duties.Syn A) → Kind d r p
  is_again : d ≡ duties.Send (send_duties.Resend A) → Kind d r p
  is_quiet : Quiet p (answered values d r p) → OnA p (answered values d r p) → Kind d r p

module _ (start : Start) (p : PathState Carried) (m : Moment start p) (r : Reply) where
  impossible : {X : Type 0} (s : Side) → 2 ≤ stage (end_at s p).tcp.state → stage (end_at s p).tcp.state ≤ 1 → X
  impossible s two low = absurd (omega (arith, two, low))

  late : {X : Type 0} (d : Duty) (ds : List Duty) → p.agenda ≡ d ∷ ds → (s : Side) → late_at s d ≡ true → stage (end_at s p).tcp.state ≤ 1 → X
  late d ds is s marked low = impossible s (m.early.late s (ap (list_any (late_at s)) is ∙ or_left (late_at s d) (list_any (late_at s) ds) marked)) low

  dead_end : (d : Duty) (s : Side) → s ≡ A → is_dead (answered values d r p).a.tcp.state ≡ true → Kind d r p
  dead_end d s own is = is_quiet (inl is) (record { kept = dies is })

  kind : (d : Duty) (ds : List Duty) → p.agenda ≡ d ∷ ds → stands d p ≡ true → is_event d ≡ false → side_of d ≡ A → stage (end_at (side_of d) p).tcp.state ≤ 1 → Kind d r p
  kind (duties.Step step_duties.Events) ds is stood other own low = absurd (true≢false other)
  kind (duties.Step (step_duties.Heard s index)) ds is stood other own low = is_quiet (a_item s (item_of index (end_at s p)) r p own) (things_kept s (item_of index (end_at s p)) r p)
  kind (duties.Step (step_duties.PlainAck s)) ds is stood other own low = is_quiet
      (elim (breaks_by_ack p.profile (end_at s p)) as
      (λ b. Quiet p (if b then answered_break values s 6 r p else goes_on s (with_plain_ack (after_fell events.PlainAck r (end_at s p))) (fell_duties s r p) p))
      [ true ↦ a_break s 6 r p own | false ↦ inr refl ])
      (either (breaks_by_ack p.profile (end_at s p)) _ _ p (break_kept s 6 r p) (side s _ p _ (same _ _ refl refl) refl))
  kind (duties.Step (step_duties.Unmapped s)) ds is stood other own low = is_quiet (a_break s 6 r p own) (break_kept s 6 r p)
  kind (duties.Step (step_duties.Data s)) ds is stood other own low = by (first_unsent (end_at s p)) stood
    where
      by : (o : Option Record) → data_stands p.profile s (end_at s p) o ≡ true → Kind (duties.Step (step_duties.Data s)) r p
      by None stood = impossible s (finish_far (end_at s p).tcp.state (and_parts (may_finish (end_at s p).tcp.state) _ stood).0) low
      by (Some u) stood = absurd
          (let fit = (and_parts (not (is_closed_to_segments (end_at s p).tcp.state)) (fits (end_at s p).tcp u) stood).1 in
          let one = leb-true 1 (end_at s p).tcp.send.una (and_parts _ _ fit).0 in
          let zero_una = (m.reached s).opening (omega (arith, low)) in omega (arith, one, zero_una))
  kind (duties.Send (send_duties.Syn s)) ds is stood other own low = is_syn (ap (λ u. duties.Send (send_duties.Syn u)) own)
  kind (duties.Send (send_duties.Resend s)) ds is stood other own low = is_again (ap (λ u. duties.Send (send_duties.Resend u)) own)
  kind (duties.Send (send_duties.Again s)) ds is stood other own low = late _ ds is s (same_itself s) low
  kind (duties.Send (send_duties.SynAck s)) ds is stood other own low = late _ ds is s (same_itself s) low
  kind (duties.Send (send_duties.Answer s)) ds is stood other own low = late _ ds is s (same_itself s) low
  kind (duties.Send (send_duties.Acknowledge s)) ds is stood other own low = late _ ds is s (same_itself s) low
  kind (duties.Send (send_duties.Update s)) ds is stood other own low = impossible s (connected_far (end_at s p).tcp.state (and_parts (is_connected (end_at s p).tcp.state) _ stood).0) low
  kind (duties.Send (send_duties.FastClose s)) ds is stood other own low = impossible s (connected_far (end_at s p).tcp.state (and_parts (is_connected (end_at s p).tcp.state) _ stood).0) low
  kind (duties.Send (send_duties.Notice s)) ds is stood other own low =
      impossible s (connected_far (end_at s p).tcp.state (and_parts (is_connected (end_at s p).tcp.state) _ (and_parts _ _ stood).0).0) low
  kind (duties.Send (send_duties.DataFin s)) ds is stood other own low = impossible s (finish_far (end_at s p).tcp.state (and_parts (may_finish (end_at s p).tcp.state) _ stood).0) low
  kind (duties.Send (send_duties.Fin s)) ds is stood other own low = impossible s (finish_far (end_at s p).tcp.state (and_parts (may_finish (end_at s p).tcp.state) _ stood).0) low
  kind (duties.Send (send_duties.Refuse s)) ds is stood other own low = absurd (both_ways (list_any is_harsh p.agenda) m.unbroken.duties (ap (list_any is_harsh) is))
  kind (duties.Send (send_duties.ResetAnswer s)) ds is stood other own low =
      impossible s (let dead = (m.clears s).dead (ap (list_any (refused_at s)) is ∙ or_left (same_side s s) (list_any (refused_at s) ds) (same_itself s)) in omega (arith, dead)) low
  kind (duties.Send (send_duties.BreakReset s reason)) ds is stood other own low = dead_end _ s own (subst (λ u. is_dead (answered values (duties.Send (send_duties.BreakReset u reason)) r p).a.tcp.state ≡ true) (sym own) refl)
  kind (duties.Send (send_duties.Reset s)) ds is stood other own low = dead_end _ s own (subst (λ u. is_dead (answered values (duties.Send (send_duties.Reset u)) r p).a.tcp.state ≡ true) (sym own) refl)
  kind (duties.Send (send_duties.ResetNoted s)) ds is stood other own low = dead_end _ s own (subst (λ u. is_dead (answered values (duties.Send (send_duties.ResetNoted u)) r p).a.tcp.state ≡ true) (sym own) refl)
  kind d ds is stood other own low = is_quiet (inr (ap (λ l. segments_sent A l) (quiet_link values d r p other refl))) (own_kept d r p other stood refl)

-- ---- a turn

record Count (p : PathState Carried) : Type 0 where
  sum : segments_sent A p.link + unsent p.a + resends p.agenda ≤ suc (in_a_row p.a)
  one : length p.a.tcp.send.records ≤ 1

-- the end is dead, or past the SYNs, or they are counted
data Counts (p : PathState Carried) : Type 0 where
  dead_now : is_dead p.a.tcp.state ≡ true → Counts p
  past_now : 2 ≤ stage p.a.tcp.state → Counts p
  are_few : Count p → Counts p

calm_counts : (p q : PathState Carried) → Kept p.a q.a → segments_sent A q.link ≡ segments_sent A p.link → resends q.agenda ≤ resends p.agenda → Count p → Counts q
calm_counts p q (stays x) link agenda h = are_few (record {
  sum = (let same_unsent = ap (λ rs. one_if (is_some (find is_unsent rs))) x.records in let same_row = x.expiries in let low = h.sum in omega (arith, link, agenda, same_unsent, same_row, low));
  one = (let long = ap (λ (rs : List Record). length rs) x.records in let short = h.one in omega (arith, long, short));
})
calm_counts p q (dies is) link agenda h = dead_now is
calm_counts p q (goes_past is) link agenda h = past_now is

syn_counts : (ds : List Duty) (r : Reply) (p : PathState Carried) → let x : PathState Carried = with_agenda (duties.Send (send_duties.Syn A) ∷ ds) p in stands (duties.Send (send_duties.Syn A)) x ≡ true → Count x
    → Count (answered values (duties.Send (send_duties.Syn A)) r x)
syn_counts ds r p stood h = record {
  sum = (let now_sent = one_is_sent p.clock p.a.tcp.send.records h.one in let more = one_more A (with_agenda (duties.Send (send_duties.Syn A) ∷ ds) p) (answered values (duties.Send (send_duties.Syn A)) r (with_agenda (duties.Send (send_duties.Syn A) ∷ ds) p)) (takes_one _ _ refl) in let was = ap one_if (and_parts (is_opening p.a.tcp.state) (is_some (first_unsent p.a)) stood).1 in let low = h.sum in
      omega (arith, now_sent, more, was, low));
  one = (let long = sent_long p.clock p.a.tcp.send.records in let short = h.one in omega (arith, long, short));
}

-- what it makes of the records that the first one goes again, or a probe
abbrev SendsAgain : ℕ → EndState → Occasion → Type 0
SendsAgain now v o = (one_if (is_some (find is_unsent (after_sending o now v).send.records)) ≤ one_if (is_some (find is_unsent v.send.records)))
    × ((length (after_sending o now v).send.records ≡ length v.send.records) × ((after_sending o now v).timing.expiries ≡ v.timing.expiries))

sends_again : (now : ℕ) (e : PathEnd) → length e.tcp.send.records ≤ 1 → SendsAgain now e.tcp (resend_occasion e)
sends_again now e short = elim (has_records e.tcp) as
    (λ b. SendsAgain now e.tcp (if b then to_send.First else (if e.modes.owes_third || (e.notices.fast_closed || is_data_fin_owed e) then to_send.Ack else to_send.Probe))) [
      | true ↦ ((let none = first_is_sent now e.tcp.send.records short in omega (arith, none)), (first_long now e.tcp.send.records, refl))
      | false ↦ elim (e.modes.owes_third || (e.notices.fast_closed || is_data_fin_owed e)) as (λ b. SendsAgain now e.tcp (if b then to_send.Ack else to_send.Probe))
          [ true ↦ (le_refl (one_if (is_some (find is_unsent e.tcp.send.records))), (refl, refl)) | false ↦ (le_refl (one_if (is_some (find is_unsent e.tcp.send.records))), (refl, refl)) ]
    ]

again_counts : (ds : List Duty) (r : Reply) (p : PathState Carried) → let x : PathState Carried = with_agenda (duties.Send (send_duties.Resend A) ∷ ds) p in Count x → Count (answered values (duties.Send (send_duties.Resend A)) r x)
again_counts ds r p h = record {
  sum = (let x = sends_again p.clock p.a h.one in let less = x.0 in let times = x.1.1 in let more = one_more A (with_agenda (duties.Send (send_duties.Resend A) ∷ ds) p) (answered values (duties.Send (send_duties.Resend A)) r (with_agenda (duties.Send (send_duties.Resend A) ∷ ds) p)) (takes_one _ _ refl) in let low = h.sum in omega (arith, less, more, low, times));
  one = (let long = (sends_again p.clock p.a h.one).1.0 in let short = h.one in omega (arith, long, short));
}

module _ (start : Start) (r : Reply) (d : Duty) (ds : List Duty) (p : PathState Carried) where
  abbrev x : PathState Carried
  x = with_agenda (d ∷ ds) p

  abbrev y : PathState Carried
  y = answered values d r x

  module _ (g : Given start x) (met : PathMet x) (low : stage p.a.tcp.state ≤ 1) (h : Count x) where
    m : Moment start x
    m = moment start x g met

    stood : stands d x ≡ true
    stood = g.upright.passes.settled

    opens : p.a.tcp.state ≡ phase.SynSent
    opens = sent_syn p.a.tcp.state g.states.a met.awake low

    event_counts : d ≡ duties.Step step_duties.Events → Counts y
    event_counts is = subst (λ d. let x : PathState Carried = with_agenda (d ∷ ds) p in Count x → Counts (answered values d r x)) (sym is) by h
      where
        v : PathState Carried
        v = with_agenda (duties.Step step_duties.Events ∷ ds) p

        by : Count v → Counts (answered values (duties.Step step_duties.Events) r v)
        by h = ⊎_elim (λ is. dead_now is)
            (λ rest. ⊎_elim (λ calm. calm_counts v (answered values (duties.Step step_duties.Events) r v) calm.kept.kept calm.link (let none = calm.agenda in omega (arith, none)) h)
            (λ fires. fires_then (answered values (duties.Step step_duties.Events) r v) fires) rest)
            (event_row r (next_event v) v m.first.first opens refl)
          where
            fires_then : (q : PathState Carried) → Fires v q → Counts q
            fires_then q (once_more one_more records link agenda) = are_few (record {
              sum = (let same_unsent = ap (λ rs. one_if (is_some (find is_unsent rs))) records ∙ (expired_same p.a.tcp.send.records h.one).0 in let low = h.sum in omega (arith, one_more, same_unsent, link, agenda, low));
              one = (let long = ap (λ (rs : List Record). length rs) records ∙ (expired_same p.a.tcp.send.records h.one).1 in let short = h.one in omega (arith, long, short));
            })
            fires_then q (for_ever is) = dead_now is

    -- what is no event
    agenda_less : is_event d ≡ false → resends y.agenda ≤ resends (d ∷ ds)
    agenda_less other = by d other
      where
        by : (d : Duty) → is_event d ≡ false → let x : PathState Carried = with_agenda (d ∷ ds) p in resends (answered values d r x).agenda ≤ resends (d ∷ ds)
        by (duties.Step step_duties.Events) other = absurd (true≢false other)
        by d other = follow_fewer (side_of d) _ d ds _ (answered_follows values d ds r p)

    own_counts : is_event d ≡ false → side_of d ≡ A → Counts y
    own_counts other own = by (kind start x m r d ds refl stood other own (subst (λ s. stage (end_at s x).tcp.state ≤ 1) (sym own) low))
      where
        by : Kind d r x → Counts y
        by (is_syn is) = are_few (subst (λ d. let x : PathState Carried = with_agenda (d ∷ ds) p in stands d x ≡ true → Count x → Count (answered values d r x)) (sym is) (syn_counts ds r p) stood h)
        by (is_again is) = are_few (subst (λ d. let x : PathState Carried = with_agenda (d ∷ ds) p in Count x → Count (answered values d r x)) (sym is) (again_counts ds r p) h)
        by (is_quiet (inl is) kept) = dead_now is
        by (is_quiet (inr link) kept) = calm_counts x y kept.kept link (agenda_less other) h

    other_counts : is_event d ≡ false → side_of d ≡ B → Counts y
    other_counts other own = calm_counts x y (other_kept d r x other own).kept (b_link d r x other own) (agenda_less other) h

    duty_counts : Counts y
    duty_counts = by (is_event d) refl
      where
        is_events : (d : Duty) → is_event d ≡ true → d ≡ duties.Step step_duties.Events
        is_events (duties.Step step_duties.Events) is = refl
        is_events d is = absurd (true≢false (sym is))

        a_or_b : (s : Side) → (s ≡ A) ⊎ (s ≡ B)
        a_or_b A = inl refl
        a_or_b B = inr refl

        by : (b : Bool) → is_event d ≡ b → Counts y
        by true is = event_counts (is_events d is)
        by false other = ⊎_elim (λ own. own_counts other own) (λ away. other_counts other away) (a_or_b (side_of d))

    -- and then duties are passed
    takes_counts : is_dead (takes values r x).a.tcp.state ≡ false → stage (takes values r x).a.tcp.state ≤ 1 → Count (takes values r x)
    takes_counts living under = by duty_counts
      where
        q : PathState Carried
        q = takes values r x

        by : Counts y → Count q
        by (dead_now is) = absurd (both_ways (is_dead q.a.tcp.state) living (settled_lasts DeadStays dead_last y.agenda y A is))
        by (past_now is) = absurd (let up = (settled_far values d ds r p A).subflow.state in omega (arith, is, up, under))
        by (are_few h) = record {
          sum = (let link = ap (λ l. segments_sent A l) (settled_lasts LinkStays links_last y.agenda y) in let records = ap (λ rs. one_if (is_some (find is_unsent rs))) (settled_lasts SameRecords same_lasts y.agenda y A) in
              let times = settled_lasts BothSame row_lasts y.agenda y A in let less = settled_fewer y.agenda y in let low = h.sum in omega (arith, link, records, times, less, low));
          one = (let long = ap (λ (rs : List Record). length rs) (settled_lasts SameRecords same_lasts y.agenda y A) in let short = h.one in omega (arith, long, short));
        }

-- ---- at every moment

record FewSyns (p : PathState Carried) : Type 0 where
  counted : is_dead p.a.tcp.state ≡ false → stage p.a.tcp.state ≤ 1 → Count p
  row_low : in_a_row p.a ≤ 5

module _ (start : Start) (plan : PathPlan) (one : BeginsWithOnePath start plan) where
  first_few : FewSyns (begins_turn (waiting_path {C = Carried} (path_begins start 0 plan) start.lines))
  first_few = record {
    counted = λ living low. record {
      sum = (let link = ap (λ l. segments_sent A l) (begins_lasts LinkStays links_last p) in let records = ap (λ rs. one_if (is_some (find is_unsent rs))) (begins_lasts SameRecords same_lasts p A) in
          let times = begins_lasts BothSame row_lasts p A in let less = settled_fewer start_of_turn (with_agenda start_of_turn p) in omega (arith, link, records, times, less));
      one = (let long = ap (λ (rs : List Record). length rs) (begins_lasts SameRecords same_lasts p A) in omega (arith, long));
    };
    row_low = (let times = begins_lasts BothSame row_lasts p A in omega (arith, times));
  }
    where
      p : PathState Carried
      p = waiting_path {C = Carried} (path_begins start 0 plan) start.lines

  first_opened : OfFirst FewSyns (opened_world start)
  first_opened = record {
    each = λ c there. subst (λ (d : ActorCrew Carried). Of FewSyns d.member) (same_Some (opened_here start plan one).crew c (sym (opened_here start plan one).there ∙ there))
        (subst (Of FewSyns) (sym (opened_here start plan one).is) first_few);
  }

  few_on : (turns : List Turn) (p q : PathState Carried) → IsPathAt 0 (reached values start turns) p → Becomes values p q → FewSyns p → FewSyns q
  few_on turns p q here Becomes.stays h = h
  few_on turns p q here (Becomes.takes_a_reply r) h = record { counted = by p.agenda (subst (Of (Given start)) here.is ((given start one.mild turns).each here.crew here.there)) (subst (Of PathMet) here.is ((each_met start one.mild turns).each here.crew here.there)) h.counted; row_low = row_then (takes_row values r p A) }
    where
      row_then : RowGoesOn A p (takes values r p) → in_a_row (takes values r p).a ≤ 5
      row_then (row.no_more less) = (let low = h.row_low in omega (arith, less, low))
      row_then (row.one_more tick out under is) = omega (arith, under, is)

      by : (ds : List Duty) → let x : PathState Carried = with_agenda ds p in Given start x → PathMet x → (is_dead x.a.tcp.state ≡ false → stage x.a.tcp.state ≤ 1 → Count x)
          → is_dead (takes values r x).a.tcp.state ≡ false → stage (takes values r x).a.tcp.state ≤ 1 → Count (takes values r x)
      by [] g met counted living under = counted living under
      by (d ∷ ds) g met counted living under =
          let low : stage p.a.tcp.state ≤ 1 = (let up = (far_takes d ds).subflow.state in omega (arith, up, under)) in
          takes_counts start r d ds p g met low (counted (living_before p.a (takes values r (with_agenda (d ∷ ds) p)).a (far_takes d ds) living) low) living under
        where
          far_takes : (d : Duty) (ds : List Duty) → Far p.a (takes values r (with_agenda (d ∷ ds) p)).a
          far_takes d ds = (takes_far r (with_agenda (d ∷ ds) p)).at A
  few_on turns p q here Becomes.begins_anew h = record {
    counted = λ living low.
        let x : PathState Carried = record p { clock = p.until; until = p.until + 100 } in
        let far = (next_far p).at A in
        let was = h.counted (living_before p.a (next_round p).a far living) (let up = far.subflow.state in omega (arith, up, low)) in record {
          sum = (let link = ap (λ l. segments_sent A l) (begins_lasts LinkStays links_last x) in let records = ap (λ rs. one_if (is_some (find is_unsent rs))) (begins_lasts SameRecords same_lasts x A) in
              let same_row = begins_lasts BothSame row_lasts x A in let less = settled_fewer start_of_turn (with_agenda start_of_turn x) in let sum = was.sum in omega (arith, link, records, same_row, less, sum));
          one = (let long = ap (λ (rs : List Record). length rs) (begins_lasts SameRecords same_lasts x A) in let short = was.one in omega (arith, long, short));
        };
    row_low = (let same_row = begins_lasts BothSame row_lasts (record p { clock = p.until; until = p.until + 100 }) A in let low = h.row_low in omega (arith, same_row, low));
  }

  few_at : (turns : List Turn) (p : PathState Carried) → IsPathAt 0 (reached values start turns) p → FewSyns p
  few_at turns p here = subst (Of FewSyns) here.is ((each_step values start FewSyns first_opened (λ turns turn p q here there becomes h. few_on turns p q here becomes h) turns).each here.crew here.there)

pub syns_are_few : SynsAreFew
syns_are_few start plan turns one p here alive low =
    let h = few_at start plan one turns p here in let counted = (h.counted (alive.living A) low).sum in let few = h.row_low in omega (arith, counted, few)
