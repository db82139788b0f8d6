-- While the SYN/ACK is treated at an end, the end may not send a DSS yet: it may from the first copy on that it takes.
use Rattle.std.proofs.Common.{◌≡◌, refl, sym, subst, ap, ◌∙◌, ⊎_elim, ℕ, zero, suc, ◌+◌, ◌≤◌, arith, Bool, true, false, true≢false, if◌then◌else◌, ◌||◌, ◌&&◌, ◌==◌, nat_lt, nat_le, Option, Some, None, List, [], ◌∷◌, ◌++◌, length}
use Rattle.std.specs.List.{list_any}
use Rattle.std.proofs.lemmas.Bool.{both_ways, leb-false, leb-true, or_cases, or_from, or_left, or_parts, or_right}
use Rattle.path_segments.specs.Heard.{HeardSegment}
use Rattle.sides.specs.declared.side.Side.{Side}
use Rattle.sides.specs.declared.side.Side.TheVariants.{A, B}
use Rattle.sides.specs.Side.{peer}
use Rattle.link_model.specs.Steps.{after_delivery, arriving}
use Rattle.link_script.specs.Places.{same_side}
use Rattle.dss_mapping.specs.declared.kept.KeptMapping.{KeptMapping}
use Rattle.subflow_tcp.specs.Judging.{is_acceptable, is_repeated_syn, is_syn_alone, meaning_acknowledging, meaning_answer, meaning_answering, meaning_at, meaning_connected, meaning_of, meaning_opening, meaning_outside, meaning_placed, meaning_within}
use Rattle.subflow_tcp.specs.State.{EndState, is_at_limit}
use Rattle.subflow_tcp.specs.Segments.{Copy}
use Rattle.subflow_tcp.specs.States.{is_dead, is_half_open}
use Rattle.subflow_tcp.specs.Expiring.{is_sixth}
use Rattle.subflow_tcp.specs.declared.handshake.State.{State}
use Rattle.subflow_tcp.specs.declared.handshake.State.TheVariants as phase
use Rattle.subflow_tcp.specs.declared.segments.Outgoing.{Outgoing}
use Rattle.subflow_tcp.specs.declared.verdicts.Meaning.{Meaning}
use Rattle.subflow_tcp.specs.declared.verdicts.Meaning.TheVariants as means
use Rattle.actor_desk.specs.Words.{tail_of}
use Rattle.actor_desk.specs.declared.ask.Reply.{Reply}
use Rattle.path_agenda.specs.Agenda.{breaks, copy_came, emission, heard_and, join_came, leaves, payload_came, refuses, resets, rest_of_turn, start_of_turn, stops}
use Rattle.path_agenda.specs.declared.duty.Duty.{Duty}
use Rattle.path_agenda.specs.declared.duty.Duty.TheVariants as duties
use Rattle.path_agenda.specs.declared.duty.AskDuty.TheVariants as ask_duties
use Rattle.path_agenda.specs.declared.duty.SendDuty.TheVariants as send_duties
use Rattle.path_agenda.specs.declared.duty.SilentDuty.TheVariants as silent_duties
use Rattle.path_agenda.specs.declared.duty.StepDuty.TheVariants as step_duties
use Rattle.path_agenda.specs.declared.keys.KeyPair.{KeyPair}
use Rattle.path_store.specs.declared.lines.LineAction.{LineAction}
use Rattle.path_store.specs.declared.lines.LineAction.TheVariants as actions
use Rattle.path_core.specs.Addresses.{with_priority}
use Rattle.path_core.specs.Arrival.{copy_heard, copy_judged, copy_of, heard_in, judged_in, reset_for, template_by, template_of, told_at}
use Rattle.path_core.specs.Codec.{Codec}
use Rattle.path_core.specs.DssIn.{held_of}
use Rattle.path_core.specs.Duties.{answered, passed, stands}
use Rattle.path_core.specs.End.{PathEnd, died}
use Rattle.path_core.specs.Events.{after_line, happens_if, next_event}
use Rattle.path_core.specs.Judged.{is_taken, taken_as, with_answer}
use Rattle.path_core.specs.declared.judged.Judged.{Judged}
use Rattle.path_core.specs.declared.judged.Judged.TheVariants as judged
use Rattle.path_core.specs.declared.modes.Modes.{Modes}
use Rattle.join_handshake.specs.declared.hearing.JoinAnswer.{JoinAnswer}
use Rattle.path_agenda.specs.declared.heard.Heard.{Heard}
use Rattle.path_core.proofs.Judgements.{judged_taken}
use Rattle.path_core.specs.MpJoin.{is_joined, is_never, join_answer, join_begun, keys_begun, never_joined, opened_by}
use Rattle.path_core.specs.OptionsIn.{items_of, options_heard}
use Rattle.path_core.specs.Start.{waiting_path}
use Rattle.path_core.specs.State.{PathState, at_tick, end_at, goes_on, with_agenda}
use Rattle.path_core.specs.Steps.{next_round, settled, takes}
use Rattle.path_core.specs.Timer.{after_firing, template_fired}
use Rattle.path_core.specs.declared.events.Event.{Event}
use Rattle.path_core.specs.declared.events.Event.TheVariants as happenings
use Rattle.world_laws.specs.declared.member.Member.TheVariants.{App, Path}
use Rattle.world_laws.specs.Actors.{Actor, ActorCrew, member_next, member_takes}
use Rattle.world_laws.specs.Members.{HoldsOfKind}
use Rattle.world_laws.specs.Openings.{PathPlan, Start, opened_world, path_begins}
use Rattle.world_laws.specs.StampedBooks.{answer_to}
use Rattle.world_laws.specs.Worlds.{Turn, world_run}
use Rattle.world_laws.specs.Writes.{EndView, Only, OnlyAt, PathView, Writes, nothing, side_of, writes}
use Rattle.stream_lanes.specs.Words.{Every}
use Rattle.world_laws.proofs.Keys.AreDrawn.{is_past}
use Rattle.world_laws.proofs.Keys.WhatWakes.{itself}
use Rattle.world_laws.proofs.Rounds.Lifting.{opened_lifted, run_lifted}
use Rattle.world_laws.proofs.Whole.Ends.{MeansIs, means_so}
use Rattle.world_laws.proofs.Writes.Paths.{passes_no_more, writes_no_more}
use Rattle.world_laws.proofs.Writes.Steps.{unwritten}
use Rattle.whole_paths.specs.AgendaSteps.{Follows, is_told}
use Rattle.whole_paths.specs.AgendaSteps.{Follows as follows}
use Rattle.whole_paths.specs.AsFar.{stage}
use Rattle.whole_paths.specs.Clear.{ClearEndsArePast, IsPastIfClear}
use Rattle.whole_paths.specs.Mild.{treats_answer}
use Rattle.whole_paths.specs.Opening.{opens_to}
use Rattle.whole_paths.proofs.Agendas.{answered_follows}
use Rattle.whole_paths.proofs.Duties.{answered_steps, passed_steps}
use Rattle.whole_paths.proofs.InTime.{is_event}
use Rattle.whole_paths.proofs.Opening.{HasSyn, meaning_has, means_up}
use Rattle.whole_paths.proofs.Pieces.{own_only}
use Rattle.whole_paths.proofs.Settling.{sides}
use Rattle.whole_paths.proofs.Waiting.{path_far}

-- ---- duties

-- this side's end may send a DSS by the duty, from then on
abbrev pub clears_at : Side → Duty → Bool
clears_at t (duties.Ask (ask_duties.Opened s)) = same_side s t
clears_at t (duties.Step (step_duties.Heard s index)) = same_side s t
clears_at t _ = false

-- the SYN/ACK is treated at this side's end
abbrev pub answered_at : Side → Duty → Bool
answered_at t (duties.Ask (ask_duties.SynAnswered s)) = same_side s t
answered_at t (duties.Ask (ask_duties.PeerKey s)) = same_side s t
answered_at t _ = false

-- this side's end answers a copy by a reset
abbrev pub refused_at : Side → Duty → Bool
refused_at t (duties.Send (send_duties.ResetAnswer s)) = same_side s t
refused_at t _ = false

-- any of them, at any end
abbrev pub is_sign : Duty → Bool
is_sign (duties.Send (send_duties.ResetAnswer s)) = true
is_sign (duties.Ask (ask_duties.Opened s)) = true
is_sign (duties.Ask (ask_duties.SynAnswered s)) = true
is_sign (duties.Ask (ask_duties.PeerKey s)) = true
is_sign (duties.Step (step_duties.Heard s index)) = true
is_sign _ = false

abbrev pub IsSign : (Duty → Bool) → Type 0
IsSign test = (d : Duty) → test d ≡ true → is_sign d ≡ true

pub clears_sign : (t : Side) → IsSign (clears_at t)
clears_sign t (duties.Ask (ask_duties.Opened s)) is = refl
clears_sign t (duties.Step (step_duties.Heard s index)) is = refl
clears_sign t _ is = absurd (true≢false (sym is))

pub answered_sign : (t : Side) → IsSign (answered_at t)
answered_sign t (duties.Ask (ask_duties.SynAnswered s)) is = refl
answered_sign t (duties.Ask (ask_duties.PeerKey s)) is = refl
answered_sign t _ is = absurd (true≢false (sym is))

refused_sign : (t : Side) → IsSign (refused_at t)
refused_sign t (duties.Send (send_duties.ResetAnswer s)) is = refl
refused_sign t _ is = absurd (true≢false (sym is))

told_unsigned : (e : Duty) → is_told e ≡ true → is_sign e ≡ true → ⊥
told_unsigned (duties.Ask (ask_duties.GoIdentity s)) told is = true≢false (sym is)
told_unsigned (duties.Ask (ask_duties.AckHeard s)) told is = true≢false (sym is)
told_unsigned (duties.Ask (ask_duties.FailHeard s)) told is = true≢false (sym is)
told_unsigned (duties.Send (send_duties.SynAck s)) told is = true≢false (sym is)
told_unsigned (duties.Send (send_duties.Refuse s)) told is = true≢false (sym is)
told_unsigned _ told is = true≢false (sym told)

module _ (test : Duty → Bool) (sign : IsSign test) where
  any_sign : (ds : List Duty) → list_any test ds ≡ true → list_any is_sign ds ≡ true
  any_sign [] is = is
  any_sign (d ∷ ds) is = ⊎_elim (λ here. or_left (is_sign d) (list_any is_sign ds) (sign d here)) (λ there. or_right (is_sign d) (list_any is_sign ds) (any_sign ds there)) (or_cases (test d) (list_any test ds) is)

  pub no_sign : (ds : List Duty) → list_any is_sign ds ≡ false → list_any test ds ≡ true → ⊥
  no_sign ds none is = both_ways (list_any is_sign ds) none (any_sign ds is)

  one_more : (e d : Duty) (ds : List Duty) → (is_sign e ≡ true → ⊥) → list_any test (e ∷ ds) ≡ true → list_any test (d ∷ ds) ≡ true
  one_more e d ds never is = ⊎_elim (λ here. absurd (never (sign e here))) (λ there. or_right (test d) (list_any test ds) there) (or_cases (test e) (list_any test ds) is)

  -- what is to be done was so before
  pub back : (s : Side) (gone : Bool) (d : Duty) (ds es : List Duty) → Follows s gone d ds es → list_any test es ≡ true → list_any test (d ∷ ds) ≡ true
  back s gone d ds es follows.goes_on is = or_right (test d) (list_any test ds) is
  back s gone d ds es follows.again is = is
  back s gone d ds es (follows.told treats e own other named silent) is = one_more e d ds (told_unsigned e named) is
  back s gone d ds es (follows.left dead) is = one_more (duties.Ask (ask_duties.Leave s)) d ds (λ x. true≢false (sym x)) is
  back s gone d ds es follows.noted is = one_more (duties.Ask (ask_duties.Dead s)) d ds (λ x. true≢false (sym x)) is
  back s gone d ds es (follows.broken may reason) is = absurd (no_sign (breaks s reason) refl is)
  back s gone d ds es (follows.is_reset may reason) is = absurd (no_sign (resets s reason) refl is)
  back s gone d ds es (follows.dead may dead) is = absurd (no_sign (leaves s) refl is)
  back s gone d ds es (follows.stopped may) is = absurd (no_sign (stops s) refl is)
  back s gone d ds es (follows.over both) is = absurd (no_sign [] refl is)

-- ---- an end

-- An end is past the handshake before what a copy says is heard, and until then it may send no DSS, nor while the SYN/ACK is treated. None but a
-- dead end answers a copy by a reset.
pub record Clears (t : Side) (ds : List Duty) (e : PathEnd) : Type 0 where
  pub met : list_any (clears_at t) ds ≡ true → 3 ≤ stage e.tcp.state
  pub early : stage e.tcp.state ≤ 2 → e.modes.clear ≡ false
  pub unclear : list_any (answered_at t) ds ≡ true → e.modes.clear ≡ false
  pub alone : list_any (answered_at t) ds ≡ true → list_any (clears_at t) ds ≡ false
  pub dead : list_any (refused_at t) ds ≡ true → 7 ≤ stage e.tcp.state

none_of : (b : Bool) → (b ≡ true → ⊥) → b ≡ false
none_of true never = absurd (never refl)
none_of false never = refl

abbrev IsFar : PathEnd → PathEnd → Type 0
IsFar e f = stage e.tcp.state ≤ stage f.tcp.state

module _ (t : Side) (e f : PathEnd) (far : IsFar e f) where
  kept : (ds es : List Duty) → (list_any (clears_at t) es ≡ true → list_any (clears_at t) ds ≡ true) → (list_any (answered_at t) es ≡ true → list_any (answered_at t) ds ≡ true)
      → (list_any (refused_at t) es ≡ true → list_any (refused_at t) ds ≡ true) → (list_any (clears_at t) ds ≡ false → f.modes.clear ≡ e.modes.clear) → Clears t ds e → Clears t es f
  kept ds es clearing answering refusing same h = record {
    met = λ is. let low = h.met (clearing is) in omega (arith, low, far);
    early = λ low. same (none_of (list_any (clears_at t) ds) (λ is. let high = h.met is in omega (arith, low, high, far))) ∙ h.early (omega (arith, low, far));
    unclear = λ is. same (h.alone (answering is)) ∙ h.unclear (answering is);
    alone = λ is. none_of (list_any (clears_at t) es) (λ x. both_ways (list_any (clears_at t) ds) (h.alone (answering is)) (clearing x));
    dead = λ is. let high = h.dead (refusing is) in omega (arith, high, far);
  }

  fresh : (ds es : List Duty) → list_any is_sign es ≡ false → f.modes.clear ≡ e.modes.clear → Clears t ds e → Clears t es f
  fresh ds es none same h = record {
    met = λ is. absurd (no_sign (clears_at t) (clears_sign t) es none is);
    early = λ low. same ∙ h.early (omega (arith, low, far));
    unclear = λ is. absurd (no_sign (answered_at t) (answered_sign t) es none is);
    alone = λ is. absurd (no_sign (answered_at t) (answered_sign t) es none is);
    dead = λ is. absurd (no_sign (refused_at t) (refused_sign t) es none is);
  }

-- ---- what a copy means

pub past_met : (state : State) → is_past state ≡ true → 2 ≤ stage state
past_met phase.Waiting is = absurd (true≢false (sym is))
past_met phase.Listen is = absurd (true≢false (sym is))
past_met phase.SynSent is = absurd (true≢false (sym is))
past_met phase.Dead is = absurd (true≢false (sym is))
past_met _ is = omega arith

-- none but a dead end wants no copy
abbrev is_unwanted : Meaning → Bool
is_unwanted means.Unwanted = true
is_unwanted _ = false

neither : (b : Bool) (x y : Meaning) → is_unwanted x ≡ false → is_unwanted y ≡ false → is_unwanted (if b then x else y) ≡ false
neither true x y one other = one
neither false x y one other = other

outside_wanted : (c : Copy) → is_unwanted (meaning_outside c) ≡ false
outside_wanted c = neither c.rst means.Ignored means.Outside refl refl

acknowledging_wanted : (o : Option ℕ) (pos : ℕ) (e : EndState) → is_unwanted (meaning_acknowledging o pos e) ≡ false
acknowledging_wanted None pos e = refl
acknowledging_wanted (Some acknowledged) pos e =
    neither (nat_lt e.send.nxt acknowledged) means.Ahead (if is_half_open e.state && acknowledged == 0 then means.Unacknowledging else means.Taken pos acknowledged) refl
    (neither (is_half_open e.state && acknowledged == 0) means.Unacknowledging (means.Taken pos acknowledged) refl refl)

within_wanted : (pos : ℕ) (c : Copy) (e : EndState) → is_unwanted (meaning_within pos c e) ≡ false
within_wanted pos c e =
    neither c.rst (if pos == e.recv.edge then means.Kills else means.Challenged) (if c.syn then means.Challenged else meaning_acknowledging c.acknowledged pos e)
    (neither (pos == e.recv.edge) means.Kills means.Challenged refl refl)
    (neither c.syn means.Challenged (meaning_acknowledging c.acknowledged pos e) refl (acknowledging_wanted c.acknowledged pos e))

placed_wanted : (o : Option ℕ) (c : Copy) (e : EndState) → is_unwanted (meaning_placed o c e) ≡ false
placed_wanted None c e = outside_wanted c
placed_wanted (Some pos) c e = neither (is_acceptable e.recv.edge pos c) (meaning_within pos c e) (meaning_outside c) (within_wanted pos c e) (outside_wanted c)

connected_wanted : (c : Copy) (e : EndState) → is_unwanted (meaning_connected c e) ≡ false
connected_wanted c e =
    neither (is_at_limit e) means.Ignored (if is_repeated_syn c e then means.RepeatedSyn else meaning_placed c.position c e) refl
    (neither (is_repeated_syn c e) means.RepeatedSyn (meaning_placed c.position c e) refl (placed_wanted c.position c e))

answering_wanted : (o : Option ℕ) (c : Copy) (e : EndState) → is_unwanted (meaning_answering o c e) ≡ false
answering_wanted None c e = refl
answering_wanted (Some acknowledged) c e =
    neither (nat_lt 0 acknowledged && nat_le acknowledged e.send.nxt) (meaning_answer c acknowledged) means.Ignored
    (neither c.rst means.Kills (if c.syn then means.Accepts acknowledged else means.Ignored) refl (neither c.syn (means.Accepts acknowledged) means.Ignored refl refl)) refl

unwanted_dead : (c : Copy) (e : EndState) → is_unwanted (meaning_of c e) ≡ true → 7 ≤ stage e.state
unwanted_dead c e = by e.state
  where
    by : (state : State) → is_unwanted (meaning_at state c e) ≡ true → 7 ≤ stage state
    by phase.Dead is = omega arith
    by phase.Waiting is = absurd (true≢false (sym is))
    by phase.Listen is = absurd (both_ways (is_unwanted (if is_syn_alone c then means.Opens else means.Ignored)) (neither (is_syn_alone c) means.Opens means.Ignored refl refl) is)
    by phase.SynSent is = absurd (both_ways (is_unwanted (meaning_opening c e)) (neither (is_at_limit e) means.Ignored (meaning_answering c.acknowledged c e) refl (answering_wanted c.acknowledged c e)) is)
    by _ is = absurd (both_ways (is_unwanted (meaning_connected c e)) (connected_wanted c e) is)

pub answers_heard : (t s : Side) (from count : ℕ) (ds : List Duty) → list_any (answered_at t) ds ≡ false → list_any (answered_at t) (heard_and s from count ds) ≡ false
answers_heard t s from zero ds none = none
answers_heard t s from (suc count) ds none = answers_heard t s (from + 1) count ds none

refuses_heard : (t s : Side) (from count : ℕ) (ds : List Duty) → list_any (refused_at t) ds ≡ false → list_any (refused_at t) (heard_and s from count ds) ≡ false
refuses_heard t s from zero ds none = none
refuses_heard t s from (suc count) ds none = refuses_heard t s (from + 1) count ds none

others_heard : (t s : Side) → same_side s t ≡ false → (from count : ℕ) (ds : List Duty) → list_any (clears_at t) ds ≡ false → list_any (clears_at t) (heard_and s from count ds) ≡ false
others_heard t s apart from zero ds none = none
others_heard t s apart from (suc count) ds none = or_from (same_side s t) (list_any (clears_at t) (heard_and s (from + 1) count ds)) apart (others_heard t s apart (from + 1) count ds none)

pub judged_clear : (told : List KeptMapping) (answer : Outgoing) (s : Side) (now : ℕ) (h : HeardSegment) (m : Meaning) (e : PathEnd) → (copy_judged false told answer s now h m e).modes.clear ≡ e.modes.clear
judged_clear told answer s now h means.Opens e = refl
judged_clear told answer s now h _ e = refl

answer_clear : (o : Option JoinAnswer) (m : Modes) → (with_answer o m).clear ≡ m.clear
answer_clear None m = refl
answer_clear (Some answer) m = refl

-- nor by any copy but one that B takes, on a path that joins
pub joined_clear : (joined : Bool) (told : List KeptMapping) (answer : Outgoing) (s : Side) (now : ℕ) (h : HeardSegment) (m : Meaning) (e : PathEnd) → is_taken m ≡ false
    → (copy_judged joined told answer s now h m e).modes.clear ≡ e.modes.clear
joined_clear false told answer s now h m e other = judged_clear told answer s now h m e
joined_clear true told answer s now h means.Opens e other = refl
joined_clear true told answer s now h (means.Accepts acknowledged) e other = answer_clear (join_answer (items_of true s h) e.modes) e.modes
joined_clear true told answer s now h (means.Taken position acknowledged) e other = absurd (true≢false other)
joined_clear true told answer s now h _ e other = refl

-- the end that it comes to, and the other one
own_clears : (joined : Bool) (s : Side) (ds : List Duty) (e f : PathEnd) (c : Copy) (count : ℕ) (m : Meaning) → MeansIs c e.tcp m → (is_unwanted m ≡ true → 7 ≤ stage e.tcp.state) → IsFar e f → opens_to m ≤ stage f.tcp.state
    → (is_taken m ≡ false → f.modes.clear ≡ e.modes.clear) → Clears s ds e → Clears s (template_by joined s count m) f
own_clears joined s ds e f c count (means.Taken position acknowledged) fits over far up same h =
    let none : list_any (answered_at s) (copy_came s count) ≡ false = answers_heard s s 0 count (payload_came s) refl in record {
      met = λ is. up;
      early = λ low. absurd (omega (arith, low, up));
      unclear = λ is. absurd (both_ways (list_any (answered_at s) (copy_came s count)) none is);
      alone = λ is. absurd (both_ways (list_any (answered_at s) (copy_came s count)) none is);
      dead = λ is. absurd (both_ways (list_any (refused_at s) (copy_came s count)) (refuses_heard s s 0 count (payload_came s) refl) is);
    }
own_clears false s ds e f c count (means.Accepts acknowledged) fits over far up same h = record {
  met = λ is. absurd (true≢false (sym is));
  early = λ low. same refl ∙ h.early (omega (arith, low, far));
  unclear = λ is. same refl ∙ h.early (subst (λ state. stage state ≤ 2) (sym fits.0) (omega arith));
  alone = λ is. refl;
  dead = λ is. absurd (true≢false (sym is));
}
own_clears true s ds e f c count (means.Accepts acknowledged) fits over far up same h = fresh s e f far ds _ refl (same refl) h
own_clears joined s ds e f c count means.Unwanted fits over far up same h = record {
  met = λ is. absurd (true≢false (sym is));
  early = λ low. same refl ∙ h.early (omega (arith, low, far));
  unclear = λ is. absurd (true≢false (sym is));
  alone = λ is. refl;
  dead = λ is. let high = over refl in omega (arith, high, far);
}
own_clears joined s ds e f c count means.Ignored fits over far up same h = fresh s e f far ds _ refl (same refl) h
own_clears joined s ds e f c count _ fits over far up same h = fresh s e f far ds _ refl (same refl) h

other_clears : (joined : Bool) (t s : Side) → same_side s t ≡ false → (ds : List Duty) (e : PathEnd) (count : ℕ) (m : Meaning) → Clears t ds e → Clears t (template_by joined s count m) e
other_clears joined t s apart ds e count (means.Taken position acknowledged) h =
    let answering : list_any (answered_at t) (copy_came s count) ≡ false = answers_heard t s 0 count (payload_came s) refl in
    let clearing : list_any (clears_at t) (copy_came s count) ≡ false = or_from (same_side s t) _ apart (others_heard t s apart 0 count (payload_came s) refl) in record {
      met = λ is. absurd (both_ways (list_any (clears_at t) (copy_came s count)) clearing is);
      early = h.early;
      unclear = λ is. absurd (both_ways (list_any (answered_at t) (copy_came s count)) answering is);
      alone = λ is. clearing;
      dead = λ is. absurd (both_ways (list_any (refused_at t) (copy_came s count)) (refuses_heard t s 0 count (payload_came s) refl) is);
    }
other_clears false t s apart ds e count (means.Accepts acknowledged) h = record {
  met = λ is. absurd (true≢false (sym is));
  early = h.early;
  unclear = λ is. absurd (both_ways (same_side s t || (same_side s t || false)) (or_from (same_side s t) (same_side s t || false) apart (or_from (same_side s t) false apart refl)) is);
  alone = λ is. refl;
  dead = λ is. absurd (true≢false (sym is));
}
other_clears true t s apart ds e count (means.Accepts acknowledged) h = fresh t e e (omega arith) ds _ refl refl h
other_clears joined t s apart ds e count means.Unwanted h = record {
  met = λ is. absurd (true≢false (sym is));
  early = h.early;
  unclear = λ is. absurd (true≢false (sym is));
  alone = λ is. refl;
  dead = λ is. absurd (both_ways (same_side s t || false) (or_from (same_side s t) false apart refl) is);
}
other_clears joined t s apart ds e count means.Ignored h = fresh t e e (omega arith) ds _ refl refl h
other_clears joined t s apart ds e count _ h = fresh t e e (omega arith) ds _ refl refl h

-- ---- a path

pub opened_clear : (keys : Option KeyPair) (e : PathEnd) → (opened_by keys e).modes.clear ≡ e.modes.clear
opened_clear None e = refl
opened_clear (Some keys) e = refl

pub died_clear : (b : Bool) (e : PathEnd) → (if b then e else died e).modes.clear ≡ e.modes.clear
died_clear true e = refl
died_clear false e = refl

pub fired_unsigned : (b : Bool) (s : Side) → list_any is_sign (template_fired b s) ≡ false
fired_unsigned true s = refl
fired_unsigned false s = refl

own_unwritten : (d : Duty) → is_event d ≡ false → clears_at (side_of d) d ≡ false → (writes d).own.clear ≡ false
own_unwritten (duties.Step step_duties.Events) other none = absurd (true≢false other)
own_unwritten (duties.Step (step_duties.Heard s index)) other none = absurd (both_ways (same_side s s) none (itself s))
own_unwritten (duties.Ask (ask_duties.Opened s)) other none = absurd (both_ways (same_side s s) none (itself s))
own_unwritten (duties.Send (send_duties.Update s)) other none = refl
own_unwritten (duties.Silent (silent_duties.Timer s)) other none = refl
own_unwritten _ other none = refl

living_low : (state : State) → is_dead state ≡ false → 7 ≤ stage state → ⊥
living_low phase.Dead living high = true≢false living
living_low phase.Waiting living high = omega (arith, high)
living_low _ living high = omega (arith, high)

pub none_other : (d : Duty) → is_event d ≡ false → (writes d).other ≡ nothing
none_other (duties.Step step_duties.Events) other = absurd (true≢false other)
none_other d other = refl

first_clears : (C : Type 0) (number : ℕ) (start : Start) (plan : PathPlan) (t : Side) → let p : PathState C = waiting_path (path_begins start number plan) start.lines in Clears t [] (end_at t p)
first_clears C number start plan A = record { met = λ is. absurd (true≢false (sym is)); early = λ low. refl; unclear = λ is. refl; alone = λ is. refl; dead = λ is. absurd (true≢false (sym is)) }
first_clears C number start plan B = record { met = λ is. absurd (true≢false (sym is)); early = λ low. refl; unclear = λ is. refl; alone = λ is. refl; dead = λ is. absurd (true≢false (sym is)) }

module _ {C : Type 0} where
  abbrev pub AllClear : List Duty → PathState C → Type 0
  AllClear ds p = (t : Side) → Clears t ds (end_at t p)

  abbrev AllFar : PathState C → PathState C → Type 0
  AllFar p q = (t : Side) → IsFar (end_at t p) (end_at t q)

  -- ---- duties

  own_same : (d : Duty) (p q : PathState C) → is_event d ≡ false → OnlyAt (side_of d) (writes d) p q → clears_at (side_of d) d ≡ false
      → (end_at (side_of d) q).modes.clear ≡ (end_at (side_of d) p).modes.clear
  own_same d p q other x none =
      unwritten (writes d).own.clear (end_at (side_of d) p).modes.clear (end_at (side_of d) q).modes.clear (own_unwritten d other none) (ap (λ (v : EndView). v.clear) (own_only (side_of d) (writes d) p q x).same)

  other_same : (s : Side) (w : Writes) (p q : PathState C) → w.other ≡ nothing → OnlyAt s w p q → (end_at (peer s) q).modes.clear ≡ (end_at (peer s) p).modes.clear
  other_same s w p q none x =
      let only : Only nothing (end_at (peer s) p) (end_at (peer s) q) = subst (λ v. Only v (end_at (peer s) p) (end_at (peer s) q)) none (record { same = ap (λ (v : PathView C). v.other) x.same }) in
      unwritten false (end_at (peer s) p).modes.clear (end_at (peer s) q).modes.clear refl (ap (λ (v : EndView). v.clear) only.same)

  pub same_clear : (t : Side) (d : Duty) (p q : PathState C) → is_event d ≡ false → OnlyAt (side_of d) (writes d) p q → clears_at t d ≡ false → (end_at t q).modes.clear ≡ (end_at t p).modes.clear
  same_clear t d p q other x = ⊎_elim
      (λ own. subst (λ u. clears_at u d ≡ false → (end_at u q).modes.clear ≡ (end_at u p).modes.clear) own (own_same d p q other x))
      (λ away. subst (λ u. clears_at u d ≡ false → (end_at u q).modes.clear ≡ (end_at u p).modes.clear) away (λ none. other_same (side_of d) (writes d) p q (none_other d other) x))
      (sides t (side_of d))

  pub passed_same : (t : Side) (d : Duty) (p : PathState C) → clears_at t d ≡ false → (end_at t (passed d p)).modes.clear ≡ (end_at t p).modes.clear
  passed_same t (duties.Step step_duties.Events) p none = refl
  passed_same t d p none = same_clear t d p (passed d p) refl (passes_no_more d p) none

  passed_clears : (d : Duty) (ds : List Duty) (p : PathState C) → AllClear (d ∷ ds) p → AllClear ds (passed d p)
  passed_clears d ds p h t = kept t (end_at t p) (end_at t (passed d p)) (path_far p (passed d p) (passed_steps d p) t).subflow.state (d ∷ ds) ds
      (λ is. or_right (clears_at t d) (list_any (clears_at t) ds) is) (λ is. or_right (answered_at t d) (list_any (answered_at t) ds) is) (λ is. or_right (refused_at t d) (list_any (refused_at t) ds) is)
      (λ none. passed_same t d p (or_parts (clears_at t d) (list_any (clears_at t) ds) none).0) (h t)

  settled_clears : (ds : List Duty) (p : PathState C) → AllClear ds p → AllClear (settled ds p).agenda (settled ds p)
  settled_clears [] p h = h
  settled_clears (d ∷ ds) p h = elim (stands d p) as (λ b. let q = (if b then with_agenda (d ∷ ds) p else settled ds (passed d p)) in AllClear q.agenda q)
      [ true ↦ h | false ↦ settled_clears ds (passed d p) (passed_clears d ds p h) ]

  -- ---- events

  pub goes_clear : (s t : Side) (f : PathEnd) (ds : List Duty) (p : PathState C) → f.modes.clear ≡ (end_at s p).modes.clear → (end_at t (goes_on s f ds p)).modes.clear ≡ (end_at t p).modes.clear
  goes_clear A A f ds p is = is
  goes_clear A B f ds p is = refl
  goes_clear B A f ds p is = refl
  goes_clear B B f ds p is = is

  -- nothing of the kind is to be done
  all_fresh : (ds es : List Duty) (p q : PathState C) → AllFar p q → list_any is_sign es ≡ false → ((t : Side) → (end_at t q).modes.clear ≡ (end_at t p).modes.clear) → AllClear ds p → AllClear es q
  all_fresh ds es p q far none same h t = fresh t (end_at t p) (end_at t q) (far t) ds es none (same t) (h t)

  line_clears : (action : LineAction) (ds : List Duty) (p : PathState C) → AllFar p (after_line action p) → AllClear ds p → AllClear (after_line action p).agenda (after_line action p)
  line_clears actions.Die ds p far h = all_fresh ds _ p (after_line actions.Die p) far (unsigned (is_dead p.a.tcp.state) (is_dead p.b.tcp.state)) same h
    where
      unsigned : (a b : Bool) → list_any is_sign ((if a then [] else duties.Ask (ask_duties.Leave A) ∷ []) ++ ((if b then [] else duties.Ask (ask_duties.Leave B) ∷ []) ++ rest_of_turn)) ≡ false
      unsigned true true = refl
      unsigned true false = refl
      unsigned false true = refl
      unsigned false false = refl

      same : (t : Side) → (end_at t (after_line actions.Die p)).modes.clear ≡ (end_at t p).modes.clear
      same A = died_clear (is_dead p.a.tcp.state) p.a
      same B = died_clear (is_dead p.b.tcp.state) p.b
  line_clears (actions.Prio s backup) ds p far h = all_fresh ds _ p (after_line (actions.Prio s backup) p) far refl (λ t. goes_clear s t (with_priority backup (end_at s p)) (emission s) p refl) h
  line_clears (actions.Announce s id) ds p far h = all_fresh ds _ p (after_line (actions.Announce s id) p) far refl (λ t. refl) h
  line_clears (actions.Withdraw s id) ds p far h = all_fresh ds _ p (after_line (actions.Withdraw s id) p) far refl (λ t. refl) h

  begun_clears : (r : Reply) (ds : List Duty) (p : PathState C) → AllFar p (join_begun r (leaves A) (emission A) p) → AllClear ds p
      → AllClear (join_begun r (leaves A) (emission A) p).agenda (join_begun r (leaves A) (emission A) p)
  begun_clears r ds p = by (is_never r)
    where
      by : (b : Bool) → let q = (if b then goes_on A (never_joined r p.a) (leaves A) p else goes_on A (opened_by (keys_begun r) p.a) (emission A) p) in AllFar p q → AllClear ds p → AllClear q.agenda q
      by true far h = all_fresh ds (leaves A) p (goes_on A (never_joined r p.a) (leaves A) p) far refl (λ t. goes_clear A t (never_joined r p.a) (leaves A) p refl) h
      by false far h = all_fresh ds (emission A) p (goes_on A (opened_by (keys_begun r) p.a) (emission A) p) far refl (λ t. goes_clear A t (opened_by (keys_begun r) p.a) (emission A) p (opened_clear (keys_begun r) p.a)) h

  -- what a copy makes of both ends
  both_clear : (joined : Bool) (s : Side) (ds : List Duty) (f : PathEnd) (c : Copy) (count : ℕ) (m : Meaning) (p : PathState C) → MeansIs c (end_at s p).tcp m → (is_unwanted m ≡ true → 7 ≤ stage (end_at s p).tcp.state)
      → opens_to m ≤ stage f.tcp.state → (is_taken m ≡ false → f.modes.clear ≡ (end_at s p).modes.clear) → AllFar p (goes_on s f (template_by joined s count m) p) → AllClear ds p
      → AllClear (template_by joined s count m) (goes_on s f (template_by joined s count m) p)
  both_clear joined A ds f c count m p fits over up same far h A = own_clears joined A ds p.a f c count m fits over (far A) up same (h A)
  both_clear joined A ds f c count m p fits over up same far h B = other_clears joined B A refl ds p.b count m (h B)
  both_clear joined B ds f c count m p fits over up same far h A = other_clears joined A B refl ds p.a count m (h A)
  both_clear joined B ds f c count m p fits over up same far h B = own_clears joined B ds p.b f c count m fits over (far B) up same (h B)

  told_clears : (now : ℕ) (s : Side) (h : HeardSegment) (ds : List Duty) (p : PathState C) → AllFar p (told_at now s h p) → AllClear ds p → AllClear (told_at now s h p).agenda (told_at now s h p)
  told_clears now s h ds p = by (judged_in joined s h e)
      (judged_taken h.rst items e (λ m. MeansIs (copy_of h) e.tcp m) tt joined meaning (means_so (copy_of h) e.tcp))
      (judged_taken h.rst items e (λ m. is_unwanted m ≡ true → 7 ≤ stage e.tcp.state) (λ is. absurd (true≢false (sym is))) joined meaning (unwanted_dead (copy_of h) e.tcp))
      (judged_taken h.rst items e (λ m. HasSyn e.tcp.state m) tt joined meaning (meaning_has e.tcp.state (copy_of h) e.tcp))
    where
      e : PathEnd
      e = end_at s p

      joined : Bool
      joined = is_joined p.profile

      items : List Heard
      items = items_of joined s h

      meaning : Meaning
      meaning = meaning_of (copy_of h) e.tcp

      made : Meaning → PathEnd
      made m = copy_judged joined (held_of p.profile s h) (reset_for p.profile s h) s now h m e

      stays : (m : Meaning) → is_taken m ≡ false → (made m).modes.clear ≡ e.modes.clear
      stays m other = joined_clear joined (held_of p.profile s h) (reset_for p.profile s h) s now h m e other

      passed_over : (es : List Duty) → list_any is_sign es ≡ false → let q = goes_on s (made means.Ignored) es p in AllFar p q → AllClear ds p → AllClear es q
      passed_over es none far h = all_fresh ds es p (goes_on s (made means.Ignored) es p) far none (λ t. goes_clear s t (made means.Ignored) es p (stays means.Ignored refl)) h

      by : (v : Judged) → MeansIs (copy_of h) e.tcp (taken_as v) → (is_unwanted (taken_as v) ≡ true → 7 ≤ stage e.tcp.state) → HasSyn e.tcp.state (taken_as v)
          → let q = goes_on s (made (taken_as v)) (template_of joined s items v) p in AllFar p q → AllClear ds p → AllClear (template_of joined s items v) q
      by (judged.As m) fits over has = both_clear joined s ds (made m) (copy_of h) (length items) m p fits over (means_up p.profile s now h e m has) (stays m)
      by judged.Asks fits over has = passed_over (join_came s) refl
      by judged.Lacks fits over has = passed_over (refuses s) refl
      by judged.Forged fits over has = passed_over (resets s 1) refl

  copy_clears : (s : Side) (o : Option HeardSegment) (ds : List Duty) (p : PathState C) → AllFar p (copy_heard s o p) → AllClear ds p → AllClear (copy_heard s o p).agenda (copy_heard s o p)
  copy_clears s None ds p far h = all_fresh ds (emission s) p (copy_heard s None p) far refl (λ t. refl) h
  copy_clears s (Some x) ds p far h = told_clears p.clock s (options_heard (end_at s p) x) ds p far h

  event_clears : (k : Codec C) (o : Option Event) (r : Reply) (ds : List Duty) (p : PathState C) → AllFar p (happens_if k o r p) → AllClear ds p
      → AllClear (happens_if k o r p).agenda (happens_if k o r p)
  event_clears k None r ds p far h = all_fresh ds rest_of_turn p (happens_if k None r p) far refl (λ t. refl) h
  event_clears k (Some (happenings.Joins tick)) r ds p far h = begun_clears r ds (record (at_tick tick p) { joined_at = None }) far h
  event_clears k (Some (happenings.Takes line)) r ds p far h = line_clears line.action ds (record (at_tick line.tick p) { lines = tail_of p.lines }) far h
  event_clears k (Some (happenings.Arrives due)) r ds p far h =
      copy_clears due.to (heard_in k due.to (arriving due p.link) p) ds (record (at_tick due.tick p) { link = after_delivery due p.link }) far h
  event_clears k (Some (happenings.Fires s tick)) r ds p far h =
      all_fresh ds _ p (happens_if k (Some (happenings.Fires s tick)) r p) far (fired_unsigned (is_sixth (end_at s p).tcp) s) (λ t. let q : PathState C = at_tick tick p in goes_clear s t (after_firing q.clock (end_at s q)) (template_fired (is_sixth (end_at s q).tcp) s) q refl) h

  -- ---- a step

  answered_clears : (k : Codec C) (d : Duty) (ds : List Duty) (r : Reply) (p : PathState C) → let x : PathState C = with_agenda (d ∷ ds) p in let q : PathState C = answered k d r x in
      AllFar x q → AllClear (d ∷ ds) x → AllClear q.agenda q
  answered_clears k (duties.Step step_duties.Events) ds r p far h t = let x : PathState C = with_agenda (duties.Step step_duties.Events ∷ ds) p in event_clears k (next_event x) r (duties.Step step_duties.Events ∷ ds) x far h t
  answered_clears k d ds r p far h t =
      let x : PathState C = with_agenda (d ∷ ds) p in let q : PathState C = answered k d r x in
      kept t (end_at t x) (end_at t q) (far t) (d ∷ ds) q.agenda
      (λ is. back (clears_at t) (clears_sign t) (side_of d) _ d ds q.agenda (answered_follows k d ds r p) is)
      (λ is. back (answered_at t) (answered_sign t) (side_of d) _ d ds q.agenda (answered_follows k d ds r p) is)
      (λ is. back (refused_at t) (refused_sign t) (side_of d) _ d ds q.agenda (answered_follows k d ds r p) is)
      (λ none. same_clear t d x q refl (writes_no_more k d r x) (or_parts (clears_at t d) (list_any (clears_at t) ds) none).0) (h t)

  takes_clears : (k : Codec C) (r : Reply) (p : PathState C) → AllClear p.agenda p → AllClear (takes k r p).agenda (takes k r p)
  takes_clears k r p = by p.agenda
    where
      by : (ds : List Duty) → AllClear ds (with_agenda ds p) → AllClear (takes k r (with_agenda ds p)).agenda (takes k r (with_agenda ds p))
      by [] h = h
      by (d ∷ ds) h =
          let x : PathState C = with_agenda (d ∷ ds) p in let q : PathState C = answered k d r x in
          settled_clears q.agenda q (answered_clears k d ds r p (λ t. (path_far x q (answered_steps k d r x) t).subflow.state) h)

  start_clears : (ds : List Duty) (p : PathState C) → AllClear ds p → AllClear start_of_turn p
  start_clears ds p h = all_fresh ds start_of_turn p p (λ t. omega arith) refl (λ t. refl) h

  -- ---- each path

  abbrev pub Clearing : Actor C → Type 0
  Clearing = HoldsOfKind (λ app. Unit {0}) (λ p. AllClear p.agenda p)

  member_takes_clears : (k : Codec C) (r : Reply) (m : Actor C) → Clearing m → Clearing (member_takes k r m)
  member_takes_clears k r (App a) h = tt
  member_takes_clears k r (Path p) h = takes_clears k r p h

  begins_clears : (p : PathState C) → AllClear p.agenda p → AllClear (next_round p).agenda (next_round p)
  begins_clears p h = let q : PathState C = record p { clock = p.until; until = p.until + 100 } in settled_clears start_of_turn (with_agenda start_of_turn q) (start_clears p.agenda q h)

  member_begins_clears : (m : Actor C) → Clearing m → Clearing (member_next m)
  member_begins_clears (App a) h = tt
  member_begins_clears (Path p) h = begins_clears p h

  -- no end that may send a DSS treats the SYN/ACK
  pub never_treats : (p : PathState C) → AllClear p.agenda p → ((t : Side) → (end_at t p).modes.clear ≡ true) → treats_answer p.agenda ≡ true → ⊥
  never_treats p = by p.agenda
    where
      by : (ds : List Duty) → AllClear ds p → ((t : Side) → (end_at t p).modes.clear ≡ true) → treats_answer ds ≡ true → ⊥
      by (duties.Ask (ask_duties.SynAnswered s) ∷ ds) h clear is = both_ways _ ((h s).unclear (or_left (same_side s s) (list_any (answered_at s) ds) (itself s))) (clear s)
      by (duties.Ask (ask_duties.PeerKey s) ∷ ds) h clear is = both_ways _ ((h s).unclear (or_left (same_side s s) (list_any (answered_at s) ds) (itself s))) (clear s)
      by _ h clear is = true≢false (sym is)

  -- none but a dead end answers a copy by a reset
  pub never_refuses : (p : PathState C) (t : Side) → AllClear p.agenda p → is_dead (end_at t p).tcp.state ≡ false → (others : List Duty)
      → p.agenda ≡ duties.Send (send_duties.ResetAnswer t) ∷ others → ⊥
  never_refuses p t h living others is =
      living_low (end_at t p).tcp.state living ((h t).dead (ap (λ ds. list_any (refused_at t) ds) is ∙ or_left (same_side t t) (list_any (refused_at t) others) (itself t)))

  pub always_clears : (k : Codec C) (start : Start) (turns : List Turn) → Every (λ (c : ActorCrew C). Clearing c.member) (world_run k turns (opened_world start)).crew
  always_clears k start turns = run_lifted k (λ c. Clearing c.member) (λ books c x asks h. member_takes_clears k (answer_to books x) c.member h) (λ stamp c over h. member_begins_clears c.member h) turns (opened_world start)
      (opened_lifted (λ c. Clearing c.member) start tt tt (λ number plan there.
      let p : PathState C = waiting_path (path_begins start number plan) start.lines in settled_clears start_of_turn (with_agenda start_of_turn p) (start_clears [] p (first_clears C number start plan))))

  -- of path 0
  abbrev pub PathClears : PathState C → Type 0
  PathClears p = is_joined p.profile ≡ false → AllClear p.agenda p

  abbrev pub MemberClears : Actor C → Type 0
  MemberClears = HoldsOfKind (λ app. Unit {0}) PathClears

  pub each_clears : (k : Codec C) (start : Start) (turns : List Turn) → Every (λ (c : ActorCrew C). MemberClears c.member) (world_run k turns (opened_world start)).crew
  each_clears k start turns = record { each = λ i c there. by c.member ((always_clears k start turns).each i c there) }
    where
      by : (m : Actor C) → Clearing m → MemberClears m
      by (App a) h = tt
      by (Path p) h = λ first. h

-- ---- the law

past_clear : {C : Type 0} (m : Actor C) → MemberClears m → HoldsOfKind (λ app. Unit {0}) IsPastIfClear m
past_clear (App a) h = tt
past_clear (Path p) h = λ first s clear. by s (nat_le 3 (stage (end_at s p).tcp.state)) refl (h first s) clear
  where
    by : (s : Side) (b : Bool) → nat_le 3 (stage (end_at s p).tcp.state) ≡ b → Clears s p.agenda (end_at s p) → (end_at s p).modes.clear ≡ true → 3 ≤ stage (end_at s p).tcp.state
    by s true is h clear = leb-true 3 (stage (end_at s p).tcp.state) is
    by s false is h clear = absurd (both_ways (end_at s p).modes.clear (h.early (let low = leb-false 3 (stage (end_at s p).tcp.state) is in omega (arith, low))) clear)

pub clear_ends_are_past : {C : Type 0} (k : Codec C) → ClearEndsArePast k
clear_ends_are_past k start turns actor c there = past_clear c.member ((each_clears k start turns).each actor c there)
