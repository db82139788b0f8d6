-- A's end of a path that joins owes its third MP_JOIN from the SYN/ACK on, as long as it may send no DSS.
use Rattle.std.proofs.Common.{◌≡◌, refl, sym, subst, ap, ◌∙◌, ℕ, ◌+◌, ◌≤◌, arith, Bool, true, false, true≢false, if◌then◌else◌, ◌||◌, Option, Some, None, is_some, List, [], ◌∷◌, length}
use Rattle.std.proofs.lemmas.Bool.{both_ways, or_parts}
use Rattle.path_segments.specs.Heard.{HeardSegment}
use Rattle.sides.specs.declared.side.Side.{Side}
use Rattle.sides.specs.declared.side.Side.TheVariants.{A, B}
use Rattle.control_book.specs.declared.call.ControlReply.TheVariants as control_replies
use Rattle.fallback_state.specs.declared.fall.Event.{Event as Fall}
use Rattle.fallback_state.specs.declared.fall.Event.TheVariants as falls
use Rattle.join_handshake.specs.declared.hearing.JoinAnswer.{JoinAnswer}
use Rattle.join_handshake.specs.declared.hearing.JoinSyn.{JoinSyn}
use Rattle.link_model.specs.Steps.{after_delivery, arriving}
use Rattle.subflow_tcp.specs.Closing.{after_passing_fin, is_fin_next}
use Rattle.subflow_tcp.specs.Expiring.{after_expiry, is_sixth}
use Rattle.subflow_tcp.specs.Judging.{meaning_of}
use Rattle.subflow_tcp.specs.Opening.{after_begin}
use Rattle.subflow_tcp.specs.States.{after_fin_passed, after_finish, is_dead, is_half_open, is_waiting}
use Rattle.subflow_tcp.specs.Taking.{after_death, after_dropping_held, after_keeping_held, after_syn, unkept}
use Rattle.subflow_tcp.specs.declared.handshake.State.{State}
use Rattle.subflow_tcp.specs.declared.handshake.State.TheVariants as phase
use Rattle.subflow_tcp.specs.declared.verdicts.Meaning.{Meaning}
use Rattle.subflow_tcp.specs.declared.verdicts.Meaning.TheVariants as means
use Rattle.actor_desk.specs.Words.{tail_of}
use Rattle.actor_desk.specs.declared.ask.Reply.{Reply}
use Rattle.actor_desk.specs.declared.ask.Reply.TheVariants as replies
use Rattle.path_agenda.specs.Agenda.{emission, leaves, resets}
use Rattle.path_agenda.specs.Items.{keys_heard}
use Rattle.path_agenda.specs.Words.{replaced}
use Rattle.path_agenda.specs.declared.duty.Duty.{Duty}
use Rattle.path_agenda.specs.declared.duty.Duty.TheVariants as duties
use Rattle.path_agenda.specs.declared.duty.AskDuty.TheVariants as ask_duties
use Rattle.path_agenda.specs.declared.duty.SendDuty.TheVariants as send_duties
use Rattle.path_agenda.specs.declared.duty.SilentDuty.TheVariants as silent_duties
use Rattle.path_agenda.specs.declared.duty.StepDuty.TheVariants as step_duties
use Rattle.path_agenda.specs.declared.heard.Heard.{Heard}
use Rattle.path_agenda.specs.declared.heard.Heard.TheVariants as says
use Rattle.path_agenda.specs.declared.keys.KeyPair.{KeyPair}
use Rattle.path_store.specs.declared.lines.LineAction.{LineAction}
use Rattle.path_store.specs.declared.lines.LineAction.TheVariants as actions
use Rattle.path_core.specs.Addresses.{with_priority}
use Rattle.path_core.specs.Arrival.{copy_heard, copy_judged, copy_of, heard_in, judged_in, reset_for, template_judged, with_payload}
use Rattle.path_core.specs.Breaking.{answered_break, reset_on}
use Rattle.path_core.specs.Codec.{Codec}
use Rattle.path_core.specs.Deliver.{after_keep, is_dropped}
use Rattle.path_core.specs.DssIn.{after_dss, held_of, is_clash}
use Rattle.path_core.specs.Duties.{answered, passed}
use Rattle.path_core.specs.End.{PathEnd, died}
use Rattle.path_core.specs.Events.{after_line, happens_if, next_event}
use Rattle.path_core.specs.Fallback.{after_fell, answered_fell, book_answered, breaks_by_ack, fell_duties, mode_in, with_infinite, with_plain_ack}
use Rattle.path_core.specs.Judged.{join_judged, is_forged, is_passed_over, taken_as, with_answer}
use Rattle.path_core.specs.MpCapable.{after_keys, answered_opened}
use Rattle.path_core.specs.MpJoin.{asked_at, is_joined, is_listening, is_never, join_answer, join_asked, join_begun, join_taken, joined_by, keys_begun, never_joined, opened_by, syn_of_window, with_mode_refused}
use Rattle.path_core.specs.OptionsIn.{items_of, options_heard}
use Rattle.path_core.specs.Standing.{after_ack_out, answered_ack_out}
use Rattle.path_core.specs.Start.{waiting_path}
use Rattle.path_core.specs.State.{PathState, at_tick, end_at, goes_on, left}
use Rattle.path_core.specs.Steps.{begins_turn, takes}
use Rattle.path_core.specs.Timer.{after_firing}
use Rattle.path_core.specs.Treating.{answered_heard, answered_item, item_of, item_passed}
use Rattle.path_core.specs.declared.events.Event.{Event}
use Rattle.path_core.specs.declared.events.Event.TheVariants as happenings
use Rattle.path_core.specs.declared.judged.Judged.{Judged}
use Rattle.path_core.specs.declared.judged.Judged.TheVariants as judged
use Rattle.path_core.specs.declared.modes.Modes.{Modes}
use Rattle.world_laws.specs.Writes.{EndView, EndWrites, Only, OnlyAt, Writes, nothing, side_of, writes}
use Rattle.world_laws.proofs.Falls.FailedChecks.{fail_answered_so, infinite_came_so}
use Rattle.world_laws.proofs.Keys.AreDrawn.{is_past}
use Rattle.world_laws.proofs.Whole.Ends.{MeansIs, means_so}
use Rattle.world_laws.proofs.Writes.Ends.{fell_so, mode_so}
use Rattle.world_laws.proofs.Writes.Paths.{passes_no_more, writes_no_more}
use Rattle.world_laws.proofs.Writes.Steps.{Lasts, begins_lasts, both_ends, settled_lasts, unwritten}
use Rattle.whole_paths.specs.AsFar.{stage}
use Rattle.stream_lanes.proofs.Lists.{in_map}
use Rattle.subflow_tcp.specs.States.{is_closed_to_segments}
use Rattle.path_core.specs.DssIn.{counts, with_data_fin, with_learned, with_skipped}
use Rattle.path_core.specs.Start.{first_state}
use Rattle.path_core.specs.Steps.{answers}
use Rattle.path_core.specs.Octets.{octets}
use Rattle.path_core.specs.Values.{Carried, values}
use Rattle.world_laws.specs.declared.member.Member.TheVariants.{App, Path}
use Rattle.world_laws.specs.Actors.{Actor, ActorCrew}
use Rattle.world_laws.specs.Members.{HoldsOfKind}
use Rattle.world_laws.specs.Openings.{PathPlan, Start, opened_world, path_begins}
use Rattle.world_laws.specs.RoundDone.{reached}
use Rattle.world_laws.specs.Worlds.{Turn, WorldState, world_run}
use Rattle.whole_paths.specs.Mild.{IsPromisedMildly}
use Rattle.whole_paths.specs.Reasons.{IsTimedWhereItWaits}
use Rattle.whole_paths.specs.Reasons.{IsOutstanding as outstanding}
use Rattle.whole_paths.specs.UnclearJoins.{UnclearJoinsWait, WaitsForTheFourth, WaitsWhereUnclear}
use Rattle.whole_paths.proofs.ByPaths.{OfEach, each_path}
use Rattle.whole_paths.proofs.ByTurns.{Of}
use Rattle.whole_paths.proofs.JoinedLow.{LowAt, is_early}
use Rattle.whole_paths.proofs.JoinedPaths.{IfJoined, each_low, joined_before, joined_round}
use Rattle.whole_paths.proofs.Reasons.{who_waits_has_a_timer}
use Rattle.world_laws.specs.Fresh.{shown_crew, shown_member, shown_world}
use Rattle.path_core.specs.Shown.{shown_path}
use Rattle.world_laws.proofs.Promises.Made.{run_fresh}
use Rattle.whole_paths.proofs.Opening.{held_state}

-- ---- an end

abbrev pub Owes : PathEnd → Type 0
Owes e = e.modes.clear ≡ false → 3 ≤ stage e.tcp.state → is_dead e.tcp.state ≡ false → e.modes.owes_third ≡ true

pub record OwesOn (e f : PathEnd) : Type 0 where
  pub on : Owes e → Owes f

same_on : (e f : PathEnd) → f.modes.clear ≡ e.modes.clear → f.modes.owes_third ≡ e.modes.owes_third → f.tcp.state ≡ e.tcp.state → OwesOn e f
same_on e f clear owes state = record { on = λ h unclear past alive. owes ∙ h (sym clear ∙ unclear) (subst (λ (x : State). 3 ≤ stage x) state past) (ap is_dead (sym state) ∙ alive) }

rests : (e : PathEnd) → OwesOn e e
rests e = record { on = λ h. h }

dead_on : (e f : PathEnd) → is_dead f.tcp.state ≡ true → OwesOn e f
dead_on e f gone = record { on = λ h unclear past alive. absurd (both_ways _ alive gone) }

low_on : (e f : PathEnd) → stage f.tcp.state ≤ 2 → OwesOn e f
low_on e f few = record { on = λ h unclear past alive. absurd (omega (arith, few, past)) }

clear_on : (e f : PathEnd) → f.modes.clear ≡ true → OwesOn e f
clear_on e f is = record { on = λ h unclear past alive. absurd (both_ways _ unclear is) }

owing_on : (e f : PathEnd) → f.modes.owes_third ≡ true → OwesOn e f
owing_on e f is = record { on = λ h unclear past alive. is }

-- a state from which it goes further within the connection
state_on : (e f : PathEnd) → f.modes.clear ≡ e.modes.clear → f.modes.owes_third ≡ e.modes.owes_third → (3 ≤ stage f.tcp.state → 3 ≤ stage e.tcp.state) → (is_dead f.tcp.state ≡ false → is_dead e.tcp.state ≡ false) → OwesOn e f
state_on e f clear owes past living = record { on = λ h unclear far alive. owes ∙ h (sym clear ∙ unclear) (past far) (living alive) }

only_on : (w : EndWrites) (e f : PathEnd) → (w.clear || (w.owes_third || w.phase)) ≡ false → Only w e f → OwesOn e f
only_on w e f none x =
    let one = or_parts w.clear (w.owes_third || w.phase) none in
    let two = or_parts w.owes_third w.phase one.1 in
    same_on e f
    (unwritten w.clear e.modes.clear f.modes.clear one.0 (ap (λ (v : EndView). v.clear) x.same))
    (unwritten w.owes_third e.modes.owes_third f.modes.owes_third two.0 (ap (λ (v : EndView). v.owes_third) x.same))
    (unwritten w.phase e.tcp.state f.tcp.state two.1 (ap (λ (v : EndView). v.phase) x.same))

finish_past : (state : State) → 3 ≤ stage (after_finish state) → 3 ≤ stage state
finish_past phase.Established past = omega arith
finish_past phase.CloseWait past = omega arith
finish_past _ past = past

finish_dead : (state : State) → is_dead (after_finish state) ≡ false → is_dead state ≡ false
finish_dead phase.Dead alive = alive
finish_dead _ alive = refl

passed_past : (state : State) → 3 ≤ stage (after_fin_passed state) → 3 ≤ stage state
passed_past phase.Established past = omega arith
passed_past phase.FinWait1 past = omega arith
passed_past phase.FinWait2 past = omega arith
passed_past _ past = past

passed_dead : (state : State) → is_dead (after_fin_passed state) ≡ false → is_dead state ≡ false
passed_dead phase.Dead alive = alive
passed_dead _ alive = refl

keyed_on : (r : Reply) (keys : Option KeyPair) (e : PathEnd) → OwesOn e (after_keys r keys e)
keyed_on (replies.Control control_replies.Noted) (Some keys) e = clear_on e _ refl
keyed_on _ keys e = same_on e _ refl refl refl

mode_clear : (r : Reply) (m : Modes) → (mode_in r m).clear ≡ m.clear
mode_clear r m = mode_so (λ n. n.clear ≡ m.clear) r m (λ mode. refl)

mode_owes : (r : Reply) (m : Modes) → (mode_in r m).owes_third ≡ m.owes_third
mode_owes r m = mode_so (λ n. n.owes_third ≡ m.owes_third) r m (λ mode. refl)

fell_on : (event : Fall) (r : Reply) (e : PathEnd) → OwesOn e (after_fell event r e)
fell_on event r e = fell_so (λ (n : Modes). OwesOn e (record e { modes = n })) event r e.modes (λ mode owes. same_on e _ refl refl refl)

-- ---- a copy that comes

or_true : (b : Bool) → (b || true) ≡ true
or_true true = refl
or_true false = refl

past_half : (state : State) → is_past state ≡ true → is_half_open state ≡ false → (3 ≤ stage state) × (is_dead state ≡ false)
past_half phase.Waiting is half = absurd (true≢false (sym is))
past_half phase.Listen is half = absurd (true≢false (sym is))
past_half phase.SynSent is half = absurd (true≢false (sym is))
past_half phase.Dead is half = absurd (true≢false (sym is))
past_half phase.SynReceived is half = absurd (true≢false half)
past_half _ is half = (omega arith, refl)

module _ {C : Type 0} (s : Side) (h : HeardSegment) (p : PathState C) where
  abbrev e : PathEnd
  e = end_at s p

  abbrev items : List Heard
  items = items_of true s h

  abbrev heard : Meaning → PathEnd
  heard m = copy_judged true (held_of p.profile s h) (reset_for p.profile s h) s p.clock h m (end_at s p)

  taken_on : (pos n : ℕ) → MeansIs (copy_of h) (end_at s p).tcp (means.Taken pos n) → OwesOn (end_at s p) (heard (means.Taken pos n))
  taken_on pos n fits = by (is_half_open (end_at s p).tcp.state) refl
    where
      halves : is_half_open (with_payload (means.Taken pos n) h.payload (end_at s p).tcp).state ≡ is_half_open (end_at s p).tcp.state
      halves = ap is_half_open (held_state (means.Taken pos n) h.payload (end_at s p).tcp)

      by : (half : Bool) → is_half_open (end_at s p).tcp.state ≡ half → OwesOn (end_at s p) (heard (means.Taken pos n))
      by true half = clear_on _ _ (ap (λ b. (end_at s p).modes.clear || b) (halves ∙ half) ∙ or_true (end_at s p).modes.clear)
      by false half = record {
        on = λ was unclear past alive. (let open_end = past_half (end_at s p).tcp.state fits.0 half in
            was (or_parts (end_at s p).modes.clear (is_half_open (with_payload (means.Taken pos n) h.payload (end_at s p).tcp).state) unclear).0 open_end.0 open_end.1);
      }

  answer_on : (o : Option JoinAnswer) → is_some o ≡ true → (m : Modes) → (with_answer o m).owes_third ≡ true
  answer_on None is m = absurd (true≢false (sym is))
  answer_on (Some answer) is m = refl

  meant_on : (m : Meaning) → MeansIs (copy_of h) (end_at s p).tcp m → ((n : ℕ) → m ≡ means.Accepts n → is_some (join_answer items (end_at s p).modes) ≡ true) → OwesOn (end_at s p) (heard m)
  meant_on (means.Accepts n) fits some = owing_on _ _ (answer_on (join_answer items (end_at s p).modes) (some n refl) (end_at s p).modes)
  meant_on (means.Taken pos n) fits some = taken_on pos n fits
  meant_on means.Opens fits some = low_on _ _ (omega arith)
  meant_on means.Kills fits some = dead_on _ _ refl
  meant_on m fits some = same_on _ _ refl refl refl

  ignored_on : OwesOn (end_at s p) (heard means.Ignored)
  ignored_on = same_on _ _ refl refl refl

  judged_on : (m : Meaning) → MeansIs (copy_of h) (end_at s p).tcp m → OwesOn (end_at s p) (heard (taken_as (join_judged h.rst items m (end_at s p))))
  judged_on means.Opens fits = elim (is_some (join_asked items)) as (λ b. OwesOn (end_at s p) (heard (taken_as (if b then judged.Asks else judged.Lacks)))) [ true ↦ ignored_on | false ↦ ignored_on ]
  judged_on (means.Accepts n) fits = (elim (is_some (join_answer items (end_at s p).modes)) as
      (λ b. is_some (join_answer items (end_at s p).modes) ≡ b → OwesOn (end_at s p) (heard (taken_as (if b then judged.As (means.Accepts n) else judged.Forged)))) [
        | true ↦ λ is. meant_on (means.Accepts n) fits (λ k same. is)
        | false ↦ λ is. ignored_on
      ]) refl
  judged_on means.RepeatedSyn fits = same_on _ _ refl refl refl
  judged_on (means.Taken pos n) fits = by (is_passed_over h.rst items (end_at s p)) (is_forged items (end_at s p))
    where
      by : (over forged : Bool) → OwesOn (end_at s p) (heard (taken_as (if over then judged.As means.Ignored else (if forged then judged.Forged else judged.As (means.Taken pos n)))))
      by true forged = ignored_on
      by false true = ignored_on
      by false false = taken_on pos n fits
  judged_on means.Kills fits = elim (is_passed_over h.rst items (end_at s p)) as (λ b. OwesOn (end_at s p) (heard (taken_as (if b then judged.As means.Ignored else judged.As means.Kills)))) [ true ↦ ignored_on | false ↦ dead_on _ _ refl ]
  judged_on m fits = elim (is_passed_over h.rst items (end_at s p)) as (λ b. OwesOn (end_at s p) (heard (taken_as (if b then judged.As means.Ignored else judged.As m)))) [ true ↦ ignored_on | false ↦ same_on _ _ refl refl refl ]

-- ---- joins, and expiries

opened_on : (keys : Option KeyPair) (e : PathEnd) → OwesOn e (opened_by keys e)
opened_on None e = rests e
opened_on (Some keys) e = (elim (is_waiting e.tcp.state) as (λ b. is_waiting e.tcp.state ≡ b → OwesOn e (record (opened_by (Some keys) e) { tcp = if b then after_begin e.tcp else e.tcp }))
    [ true ↦ λ is. low_on e _ (omega arith) | false ↦ λ is. same_on e _ refl refl refl ]) refl

joined_on : (keys : KeyPair) (asked : JoinSyn) (e : PathEnd) → OwesOn e (joined_by keys asked e)
joined_on keys asked e = (elim (is_listening e.tcp.state) as
    (λ b. is_listening e.tcp.state ≡ b → OwesOn e (record (joined_by keys asked e) { tcp = if b then after_syn (unkept None) (syn_of_window e.treated.window) e.tcp else e.tcp }))
    [ true ↦ λ is. low_on e _ (omega arith) | false ↦ λ is. same_on e _ refl refl refl ]) refl

fired_on : (now : ℕ) (e : PathEnd) → OwesOn e (after_firing now e)
fired_on now e = elim (is_sixth e.tcp) as (λ b. OwesOn e (record e { tcp = if b then after_death true e.tcp else after_expiry now e.tcp })) [ true ↦ dead_on e _ refl | false ↦ same_on e _ refl refl refl ]

-- ---- A's end of a path

module _ {C : Type 0} where
  abbrev pub AOn : PathState C → PathState C → Type 0
  AOn p q = OwesOn p.a q.a

  -- the end of this side becomes that one
  side : (s : Side) (f : PathEnd) (p q : PathState C) → OwesOn (end_at s p) f → q.a ≡ (goes_on s f [] p).a → AOn p q
  side A f p q x a = subst (OwesOn p.a) (sym a) x
  side B f p q x a = subst (OwesOn p.a) (sym a) (rests p.a)

  stay : (p q : PathState C) → q.a ≡ p.a → AOn p q
  stay p q a = subst (OwesOn p.a) (sym a) (rests p.a)

  calm : (s : Side) (f : PathEnd) (p q : PathState C) → f.modes.clear ≡ (end_at s p).modes.clear → f.modes.owes_third ≡ (end_at s p).modes.owes_third → f.tcp.state ≡ (end_at s p).tcp.state → q.a ≡ (goes_on s f [] p).a → AOn p q
  calm s f p q clear owes state a = side s f p q (same_on (end_at s p) f clear owes state) a

  either : (b : Bool) (q r p : PathState C) → AOn p q → AOn p r → AOn p (if b then q else r)
  either true q r p x y = x
  either false q r p x y = y

  plain : (s : Side) (w : Writes) (p q : PathState C) → (w.own.clear || (w.own.owes_third || w.own.phase)) ≡ false → w.other ≡ nothing → OnlyAt s w p q → AOn p q
  plain s w p q own none x =
      (both_ends (λ e f. OwesOn e f) s w p q (λ e f only. only_on w.own e f own only) (λ e f only. only_on nothing e f refl (subst (λ v. Only v e f) none only)) x).0

  -- ---- joins

  begun_on : (r : Reply) (dead living : List Duty) (p : PathState C) → AOn p (join_begun r dead living p)
  begun_on r dead living p = either (is_never r) (goes_on A (never_joined r (end_at A p)) dead p) (goes_on A (opened_by (keys_begun r) (end_at A p)) living p) p
      (dead_on p.a (never_joined r p.a) refl) (opened_on (keys_begun r) p.a)

  taken_on_path : (s : Side) (keys : Option KeyPair) (asked : Option JoinSyn) (r : Reply) (p : PathState C) → AOn p (join_taken s keys asked r p)
  taken_on_path s (Some keys) (Some asked) r p = side s (joined_by keys asked (end_at s p)) p (join_taken s (Some keys) (Some asked) r p) (joined_on keys asked (end_at s p)) refl
  taken_on_path s None (Some asked) r p = calm s (with_mode_refused r (end_at s p)) p (join_taken s None (Some asked) r p) refl refl refl refl
  taken_on_path s (Some keys) None r p = stay p (join_taken s (Some keys) None r p) refl
  taken_on_path s None None r p = stay p (join_taken s None None r p) refl

  -- ---- events

  line_on : (action : LineAction) (p : PathState C) → AOn p (after_line action p)
  line_on actions.Die p = (elim (is_dead p.a.tcp.state) as (λ b. is_dead p.a.tcp.state ≡ b → OwesOn p.a (if b then p.a else died p.a)) [ true ↦ λ is. rests p.a | false ↦ λ is. dead_on p.a (died p.a) refl ]) refl
  line_on (actions.Prio s backup) p = calm s (with_priority backup (end_at s p)) p (after_line (actions.Prio s backup) p) refl refl refl refl
  line_on (actions.Announce s id) p = rests p.a
  line_on (actions.Withdraw s id) p = rests p.a

  copy_on : (s : Side) (o : Option HeardSegment) (p : PathState C) → is_joined p.profile ≡ true → AOn p (copy_heard s o p)
  copy_on s None p joins = stay p (copy_heard s None p) refl
  copy_on s (Some segment) p joins = by (is_joined p.profile) joins
    where
      h : HeardSegment
      h = options_heard (end_at s p) segment

      by : (joined : Bool) → joined ≡ true → let v = judged_in joined s h (end_at s p) in
          AOn p (goes_on s (copy_judged joined (held_of p.profile s h) (reset_for p.profile s h) s p.clock h (taken_as v) (end_at s p)) (template_judged joined s (length (items_of joined s h)) v) p)
      by false joins = absurd (true≢false (sym joins))
      by true joins =
          let v : Judged = judged_in true s h (end_at s p) in
          let f : PathEnd = copy_judged true (held_of p.profile s h) (reset_for p.profile s h) s p.clock h (taken_as v) (end_at s p) in
          side s f p (goes_on s f (template_judged true s (length (items_of true s h)) v) p) (judged_on s h p (meaning_of (copy_of h) (end_at s p).tcp) (means_so (copy_of h) (end_at s p).tcp)) refl

module _ {C : Type 0} (k : Codec C) where
  event_on : (o : Option Event) (r : Reply) (p : PathState C) → is_joined p.profile ≡ true → AOn p (happens_if k o r p)
  event_on None r p joins = stay p (happens_if k None r p) refl
  event_on (Some (happenings.Joins tick)) r p joins = let x : PathState C = record (at_tick tick p) { joined_at = None } in begun_on r (leaves A) (emission A) x
  event_on (Some (happenings.Takes line)) r p joins = line_on line.action (record (at_tick line.tick p) { lines = tail_of p.lines })
  event_on (Some (happenings.Arrives due)) r p joins = copy_on due.to (heard_in k due.to (arriving due p.link) p) (record (at_tick due.tick p) { link = after_delivery due p.link }) joins
  event_on (Some (happenings.Fires s tick)) r p joins = side s (after_firing (at_tick tick p).clock (end_at s p)) p (happens_if k (Some (happenings.Fires s tick)) r p) (fired_on (at_tick tick p).clock (end_at s p)) refl

  -- ---- replies

  break_on : (s : Side) (reason : ℕ) (r : Reply) (p : PathState C) → AOn p (answered_break k s reason r p)
  break_on s reason r p = either (end_at s p).treated.asked (answered_ack_out s r (resets s reason) p) (reset_on k s (Some reason) (leaves s) p) p
      (calm s (after_ack_out r (end_at s p)) p (answered_ack_out s r (resets s reason) p) refl refl refl refl)
      (side s (died (end_at s p)) p (reset_on k s (Some reason) (leaves s) p) (dead_on (end_at s p) (died (end_at s p)) refl) refl)

  thing_on : (s : Side) (item : Heard) (r : Reply) (p : PathState C) → AOn p (answered_heard k s item r p)
  thing_on s (says.DataAck next window) r p = calm s _ p (answered_heard k s (says.DataAck next window) r p) refl refl refl refl
  thing_on s (says.Mapping fin) r p =
      let e = end_at s p in let f : PathEnd = with_learned (after_fell falls.MappingHeard r e) in let q : PathState C = goes_on s f (fell_duties s r p) p in
      either (is_clash e) (answered_break k s 1 r p) q p (break_on s 1 r p)
      (side s f p q (fell_so (λ (n : Modes). OwesOn e (with_learned (record e { modes = n }))) falls.MappingHeard r e.modes (λ mode owes. same_on e _ refl refl refl)) refl)
  thing_on s (says.DataFin place) r p =
      let e = end_at s p in
      side s (with_data_fin place (after_fell falls.MappingHeard r e)) p (answered_heard k s (says.DataFin place) r p)
      (fell_so (λ (n : Modes). OwesOn e (with_data_fin place (record e { modes = n }))) falls.MappingHeard r e.modes (λ mode owes. same_on e _ refl refl refl)) refl
  thing_on s (says.InfiniteMapping place position) r p =
      let e = end_at s p in side s _ p (answered_heard k s (says.InfiniteMapping place position) r p) (infinite_came_so (λ f. OwesOn e f) place position r e (λ other. same_on e _ (mode_clear r e.modes) (mode_owes r e.modes) refl)) refl
  thing_on s (says.Keys own other) r p = side s _ p (answered_heard k s (says.Keys own other) r p) (keyed_on r (Some (record { own = own; peer = other })) (end_at s p)) refl
  thing_on s (says.Notice notice) r p = calm s _ p (answered_heard k s (says.Notice notice) r p) refl refl refl refl
  thing_on s says.Fail r p =
      let e = end_at s p in
      fail_answered_so (AOn p) s r p (calm s (with_infinite r e) p (book_answered s r p) refl refl refl refl) (side s (after_fell (falls.FailHeard false) r e) p (answered_fell s (falls.FailHeard false) r p) (fell_on (falls.FailHeard false) r e) refl)
  thing_on s (says.FastClose key) r p = stay p (answered_heard k s (says.FastClose key) r p) refl
  thing_on s item r p = stay p (answered_heard k s item r p) refl

  things_on : (s : Side) (o : Option Heard) (r : Reply) (p : PathState C) → AOn p (answered_item k s o r p)
  things_on s None r p = stay p (answered_item k s None r p) refl
  things_on s (Some item) r p = thing_on s item r p

  keys_on : (s : Side) (o : Option KeyPair) (r : Reply) (p : PathState C) → AOn p (answered_opened s o r p)
  keys_on s None r p = side s _ p (answered_opened s None r p) (fell_on falls.PlainHandshake r (end_at s p)) refl
  keys_on s (Some keys) r p = side s _ p (answered_opened s (Some keys) r p) (keyed_on r (Some keys) (end_at s p)) refl

  -- ---- any duty

  answered_on : (d : Duty) (r : Reply) (p : PathState C) → is_joined p.profile ≡ true → AOn p (answered k d r p)
  answered_on (duties.Step step_duties.Events) r p joins = event_on (next_event p) r p joins
  answered_on (duties.Ask ask_duties.JoinAgain) r p joins = begun_on r (replaced (duties.Ask (ask_duties.Leave A)) p.agenda) (left p) p
  answered_on (duties.Ask (ask_duties.JoinHeard s)) r p joins = taken_on_path s (keys_begun r) (asked_at s p) r p
  answered_on (duties.Ask (ask_duties.Opened s)) r p joins = keys_on s (keys_heard (end_at s p).treated.items) r p
  answered_on (duties.Ask (ask_duties.LeaveNoted s)) r p joins = side s (died (end_at s p)) p (answered k (duties.Ask (ask_duties.LeaveNoted s)) r p) (dead_on (end_at s p) (died (end_at s p)) refl) refl
  answered_on (duties.Step (step_duties.Heard s index)) r p joins = things_on s (item_of index (end_at s p)) r p
  answered_on (duties.Step (step_duties.PlainAck s)) r p joins =
      let e = end_at s p in let f : PathEnd = with_plain_ack (after_fell falls.PlainAck r e) in let q : PathState C = goes_on s f (fell_duties s r p) p in
      either (breaks_by_ack p.profile e) (answered_break k s 6 r p) q p (break_on s 6 r p)
      (side s f p q (fell_so (λ (n : Modes). OwesOn e (with_plain_ack (record e { modes = n }))) falls.PlainAck r e.modes (λ mode owes. same_on e _ refl refl refl)) refl)
  answered_on (duties.Step (step_duties.Unmapped s)) r p joins = break_on s 6 r p
  answered_on (duties.Send (send_duties.Fin s)) r p joins = side s _ p (answered k (duties.Send (send_duties.Fin s)) r p)
      (state_on (end_at s p) _ refl refl (finish_past (end_at s p).tcp.state) (finish_dead (end_at s p).tcp.state)) refl
  answered_on (duties.Send (send_duties.BreakReset s reason)) r p joins = side s (died (end_at s p)) p (answered k (duties.Send (send_duties.BreakReset s reason)) r p) (dead_on (end_at s p) (died (end_at s p)) refl) refl
  answered_on (duties.Send (send_duties.Reset s)) r p joins = side s (died (end_at s p)) p (answered k (duties.Send (send_duties.Reset s)) r p) (dead_on (end_at s p) (died (end_at s p)) refl) refl
  answered_on (duties.Send (send_duties.ResetNoted s)) r p joins = side s (died (end_at s p)) p (answered k (duties.Send (send_duties.ResetNoted s)) r p) (dead_on (end_at s p) (died (end_at s p)) refl) refl
  answered_on (duties.Silent d) r p joins = stay p (answered k (duties.Silent d) r p) refl
  answered_on d r p joins = plain (side_of d) (writes d) p (answered k d r p) refl refl (writes_no_more k d r p)

-- ---- what is passed in silence

dss_on : {C : Type 0} (s : Side) (p q : PathState C) → q.a ≡ (goes_on s (after_dss s (end_at s p)) [] p).a → AOn p q
dss_on A p q a = subst (OwesOn p.a) (sym a) (clear_on p.a (after_dss A p.a) (or_true p.a.modes.clear))
dss_on B p q a = subst (OwesOn p.a) (sym a) (rests p.a)

item_on : {C : Type 0} (s : Side) (o : Option Heard) (p q : PathState C) → q.a ≡ (goes_on s (item_passed s o (end_at s p)) [] p).a → AOn p q
item_on s (Some says.Dss) p q a = dss_on s p q a
item_on s None p q a = side s (end_at s p) p q (rests (end_at s p)) a
item_on s (Some (says.Mapping fin)) p q a = side s (item_passed s (Some (says.Mapping fin)) (end_at s p)) p q
    (elim (counts (end_at s p)) as (λ b. OwesOn (end_at s p) (if b then with_learned (end_at s p) else with_skipped (end_at s p))) [ true ↦ same_on _ _ refl refl refl | false ↦ same_on _ _ refl refl refl ]) a
item_on s (Some (says.DataFin place)) p q a = side s (item_passed s (Some (says.DataFin place)) (end_at s p)) p q
    (elim (counts (end_at s p)) as (λ b. OwesOn (end_at s p) (if b then with_data_fin place (end_at s p) else end_at s p)) [ true ↦ same_on _ _ refl refl refl | false ↦ rests (end_at s p) ]) a
item_on s (Some item) p q a = side s (item_passed s (Some item) (end_at s p)) p q (same_on _ _ refl refl refl) a

keep_on : (s : Side) (e : PathEnd) → OwesOn e (after_keep s e)
keep_on s e = same_on e (after_keep s e) refl refl (elim (is_dropped s e) as (λ b. (if b then after_dropping_held e.tcp else after_keeping_held e.tcp).state ≡ e.tcp.state) [ true ↦ refl | false ↦ refl ])

pass_fin_on : (e : PathEnd) → OwesOn e (record e { tcp = (if is_fin_next e.tcp then after_passing_fin e.tcp else e.tcp) })
pass_fin_on e = elim (is_fin_next e.tcp) as (λ b. OwesOn e (record e { tcp = (if b then after_passing_fin e.tcp else e.tcp) }))
    [ true ↦ state_on e _ refl refl (passed_past e.tcp.state) (passed_dead e.tcp.state) | false ↦ rests e ]

passed_on : {C : Type 0} (d : Duty) (p : PathState C) → AOn p (passed d p)
passed_on (duties.Step (step_duties.Heard s index)) p = item_on s (item_of index (end_at s p)) p (passed (duties.Step (step_duties.Heard s index)) p) refl
passed_on (duties.Silent (silent_duties.Keep s)) p = side s (after_keep s (end_at s p)) p (passed (duties.Silent (silent_duties.Keep s)) p) (keep_on s (end_at s p)) refl
passed_on (duties.Silent (silent_duties.PassFin s)) p = side s _ p (passed (duties.Silent (silent_duties.PassFin s)) p) (pass_fin_on (end_at s p)) refl
passed_on (duties.Silent (silent_duties.Timer s)) p = calm s _ p (passed (duties.Silent (silent_duties.Timer s)) p) refl refl refl refl
passed_on (duties.Ask (ask_duties.CheckFailed s)) p =
    let d : Duty = duties.Ask (ask_duties.CheckFailed s) in plain s (writes d) p (passed d p) refl refl (passes_no_more d p)
passed_on (duties.Step (step_duties.PlainAck s)) p = calm s (with_plain_ack (end_at s p)) p (passed (duties.Step (step_duties.PlainAck s)) p) refl refl refl refl
passed_on (duties.Step (step_duties.Unmapped s)) p = calm s _ p (passed (duties.Step (step_duties.Unmapped s)) p) refl refl refl refl
passed_on d p = stay p (passed d p) refl

on_lasts : {C : Type 0} → Lasts {C = C} AOn
on_lasts = record { agenda = λ ds p. rests p.a; chains = λ p q r x y. record { on = λ h. y.on (x.on h) }; passes = λ d p. passed_on d p }

-- ---- every path, at every moment

module _ {C : Type 0} (k : Codec C) where
  takes_on : (r : Reply) (p : PathState C) → is_joined p.profile ≡ true → AOn p (takes k r p)
  takes_on r p joins =
      let q : PathState C = answers k p.agenda r p in
      on_lasts.chains p q (takes k r p) (by p.agenda) (settled_lasts AOn on_lasts q.agenda q)
    where
      by : (ds : List Duty) → AOn p (answers k ds r p)
      by [] = rests p.a
      by (d ∷ ds) = answered_on k d r p joins

first_low : (o : Option ℕ) → stage (first_state o) ≤ 1
first_low None = omega arith
first_low (Some tick) = omega arith

abbrev IfOwes : PathState Carried → Type 0
IfOwes p = is_joined p.profile ≡ true → Owes p.a

opened_owes : (start : Start) (number : ℕ) (plan : PathPlan) → IfOwes (begins_turn (waiting_path (path_begins start number plan) start.lines))
opened_owes start number plan joins = (begins_lasts AOn on_lasts p).on (λ unclear past alive. absurd (let low = first_low p.joined_at in omega (arith, low, past)))
  where
    p : PathState Carried
    p = waiting_path (path_begins start number plan) start.lines

each_owes : (start : Start) (turns : List Turn) → OfEach IfOwes (reached values start turns)
each_owes start = each_path values start (λ p. Unit {0}) IfOwes (λ turns. record { each = λ actor c there. of_kind_unit c.member }) (opened_owes start)
    (λ r p facts h joins. let was = joined_before r p joins in (takes_on values r p was).on (h was))
    (λ p facts h joins. (begins_lasts AOn on_lasts (record p { clock = p.until; until = p.until + 100 })).on (h (joined_round p joins)))
  where
    of_kind_unit : (m : Actor Carried) → Of (λ p. Unit {0}) m
    of_kind_unit (App a) = tt
    of_kind_unit (Path p) = tt

-- ---- the law

open_so : (state : State) → 3 ≤ stage state → is_dead state ≡ false → is_closed_to_segments state ≡ false
open_so phase.Waiting past alive = absurd (omega (arith, past))
open_so phase.Listen past alive = absurd (omega (arith, past))
open_so phase.Dead past alive = absurd (true≢false alive)
open_so _ past alive = refl

never_early : (state : State) → is_early state ≡ true → 3 ≤ stage state → is_dead state ≡ false → ⊥
never_early phase.Listen is past alive = omega (arith, past)
never_early phase.SynReceived is past alive = omega (arith, past)
never_early phase.Dead is past alive = true≢false alive
never_early _ is past alive = true≢false (sym is)

waits : (p : PathState Carried) → IfJoined (λ p. LowAt p.agenda p) p → IfOwes p → IsTimedWhereItWaits p → WaitsWhereUnclear p
waits p low owes timed joins A past alive unclear =
    let third : p.a.modes.owes_third ≡ true = owes joins unclear past alive in
    record { at_a = refl; third = third; timed = λ over. timed over A (open_so p.a.tcp.state past alive) (outstanding.third third) }
waits p low owes timed joins B past alive unclear = absurd (never_early p.b.tcp.state (((low joins).low B unclear).early refl) past alive)

pub unclear_joins_wait : IsPromisedMildly values (λ start w. UnclearJoinsWait w)
unclear_joins_wait start turns mild = record {
  each = λ actor c there. by c.member ((each_low start mild turns).each actor c there) ((each_owes start turns).each actor c there) ((who_waits_has_a_timer values start turns).each actor c there);
}
  where
    by : (m : Actor Carried) → Of (IfJoined (λ p. LowAt p.agenda p)) m → Of IfOwes m → HoldsOfKind (λ app. Unit {0}) IsTimedWhereItWaits m → HoldsOfKind (λ app. Unit {0}) WaitsWhereUnclear m
    by (App a) low owes timed = tt
    by (Path p) low owes timed = waits p low owes timed

-- ---- over octets

shown_waits : (m : Actor Carried) → HoldsOfKind (λ app. Unit {0}) WaitsWhereUnclear m → HoldsOfKind (λ app. Unit {0}) WaitsWhereUnclear (shown_member m)
shown_waits (App a) h = tt
shown_waits (Path p) h = λ joins s past alive unclear. by s past alive unclear (h joins s)
  where
    by : (s : Side) → 3 ≤ stage (end_at s (shown_path p)).tcp.state → is_dead (end_at s (shown_path p)).tcp.state ≡ false → (end_at s (shown_path p)).modes.clear ≡ false
        → (3 ≤ stage (end_at s p).tcp.state → is_dead (end_at s p).tcp.state ≡ false → (end_at s p).modes.clear ≡ false → WaitsForTheFourth s p) → WaitsForTheFourth s (shown_path p)
    by A past alive unclear g = let x = g past alive unclear in record { at_a = x.at_a; third = x.third; timed = x.timed }
    by B past alive unclear g = let x = g past alive unclear in record { at_a = x.at_a; third = x.third; timed = x.timed }

world_waits : (w : WorldState Carried) → UnclearJoinsWait w → UnclearJoinsWait (shown_world w)
world_waits w h = record {
  each = λ i c there.
      let found = in_map shown_crew w.crew i c there in
      subst (λ (y : ActorCrew (List ℕ)). HoldsOfKind (λ app. Unit {0}) WaitsWhereUnclear y.member) found.2 (shown_waits found.0.member (h.each i found.0 found.1));
}

pub unclear_joins_wait_in_octets : IsPromisedMildly octets (λ start w. UnclearJoinsWait w)
unclear_joins_wait_in_octets start turns mild =
    subst UnclearJoinsWait (sym (run_fresh start turns mild.plain.size mild.fit)) (world_waits (world_run values turns (opened_world start)) (unclear_joins_wait start turns mild))
