-- What an end says, whatever it does next: options that show what was drawn, with numbers that fit their fields; and on a SYN those of a SYN.
use Rattle.std.proofs.Common.{◌≡◌, refl, sym, ◌∙◌, ℕ, ◌-◌, ◌≤◌, ◌<◌, ◌^◌, Bool, true, false, if◌then◌else◌, Option, Some, None, List, [], ◌∷◌, arith}
use Rattle.std.specs.Option.{IfSome}
use Rattle.std.proofs.lemmas.Bool.{and_parts, false≢true, ltb-true}
use Rattle.std.specs.List.{list_all}
use Rattle.std.proofs.Common.{not}
use Rattle.path_agenda.specs.Words.{first_of}
use Rattle.path_agenda.specs.declared.duty.Duty.{Duty}
use Rattle.path_agenda.specs.declared.duty.SendDuty.{SendDuty}
use Rattle.path_agenda.specs.declared.duty.StepDuty.{StepDuty}
use Rattle.path_agenda.specs.declared.heard.Heard.{Heard}
use Rattle.path_agenda.specs.declared.notice.OwnNotice.{OwnNotice}
use Rattle.path_core.specs.DataFin.{is_data_fin_owed}
use Rattle.path_core.specs.DssIn.{is_clash}
use Rattle.path_core.specs.Duties.{stands}
use Rattle.path_core.specs.Emission.{ack_resent, resend_said, answer_said}
use Rattle.path_core.specs.Emission.{outgoing_or, first_unsent, first_record, fits, data_stands}
use Rattle.path_core.specs.End.{PathEnd}
use Rattle.path_core.specs.Fallback.{breaks_by_ack}
use Rattle.path_core.specs.Looking.{duty_sends, send_of}
use Rattle.path_core.specs.Looking.{first_sends, segment_sent, broken_by, heard_sends, unsent_sends}
use Rattle.path_core.specs.MpJoin.{is_joined}
use Rattle.path_core.specs.OptionsOut.{record_or_ack, ack_said, carried_said, noted_said, syn_ack_said, fin_said, reset_said, segment_of, reset_options, syn_options, record_options}
use Rattle.path_core.specs.Profile.{Profile}
use Rattle.path_core.specs.Standing.{is_connected, may_note}
use Rattle.path_core.specs.State.{end_at, PathState}
use Rattle.path_core.specs.Treating.{item_of}
use Rattle.path_core.specs.Turns.{IsSettled, FirstStands}
use Rattle.path_core.specs.Values.{Carried}
use Rattle.path_segments.specs.Spelled.{PlainSegment}
use Rattle.sides.specs.declared.side.Side.TheVariants.{A, B}
use Rattle.sides.specs.declared.side.Side.{Side}
use Rattle.stream_lanes.specs.Words.{Every}
use Rattle.subflow_send.specs.Records.{Record}
use Rattle.subflow_send.specs.Rules.{is_unsent}
use Rattle.subflow_send.specs.declared.record.RecordKind.TheVariants.{Syn, Data, Fin}
use Rattle.subflow_send.specs.declared.record.RecordKind.{RecordKind}
use Rattle.subflow_tcp.specs.declared.handshake.State.{State as EndPhase}
use Rattle.subflow_tcp.specs.Emitting.{reset_segment, is_syn, fin_position}
use Rattle.subflow_tcp.specs.State.{has_records}
use Rattle.subflow_tcp.specs.States.{is_closed_to_segments, is_opening, may_finish}
use Rattle.subflow_tcp.specs.declared.segments.Outgoing.{Outgoing}
use Rattle.world_laws.proofs.Announcements.Queued.{first_queued}
use Rattle.world_laws.proofs.Keys.AreDrawn.{Secrets, Deed, SegmentIs, EndIs, NoteIs, Knows, OfB, ack_is, carried_is, noted_is, syn_ack_is, record_or_ack_is, fin_options_are, reset_is, reset_options_are, dss_known, is_past, of_b}
use Rattle.world_laws.proofs.Keys.Held.{AreKnown, PathIs, VoiceIs, end_is, opening_open, finish_open, not_closed}
use Rattle.world_laws.proofs.Keys.WhatWakes.{Voice, is_said_by, first_speaks, is_up, open_is_up, itself}
use Rattle.world_laws.proofs.Lanes.Records.{every_at, every_find, every_first}
use Rattle.world_laws.proofs.Numbers.PathSteps.{PathTells, AreFair, is_fair, tells_at}
use Rattle.world_laws.proofs.Numbers.TellSmall.{EndTells, NoteTells, PairTells, RecordTells, AnswerTells, SegmentTells, IsShort, ack_said_tells, carried_tells, dead_answer_tells, fin_said_tells, noted_tells, record_said_tells, refusal_tells, reset_tells, syn_ack_tells}

-- a segment that is to be sent: its type is its crate's own
abbrev ValueIn : {X : Type 0} → Option X → Type 0
ValueIn {X} o = X

abbrev pub ToSend : Type 0
ToSend = ValueIn (send_of (SendDuty.Reset A))

-- a connected end heard the peer's SYN
connected_past : (state : EndPhase) → is_connected state ≡ true → is_past state ≡ true
connected_past EndPhase.Waiting is = absurd (false≢true is)
connected_past EndPhase.Listen is = absurd (false≢true is)
connected_past EndPhase.SynSent is = absurd (false≢true is)
connected_past EndPhase.SynReceived is = absurd (false≢true is)
connected_past EndPhase.Dead is = absurd (false≢true is)
connected_past _ is = refl

module _ (k : Secrets) (w : Side → Type 0) (did : Deed → Side → Type 0) where
  -- a segment of a side
  pub record Says (c : Profile) (s : Side) (e : PathEnd) (sg : PlainSegment) : Type 0 where
    pub is : SegmentIs k true w did c s sg
    pub tells : SegmentTells c s sg
    pub syn : sg.syn ≡ true → sg.options ≡ syn_options c s e

  module _ (p : PathState Carried) (h : PathIs k true w did p) (t : PathTells p.profile p) (path : p.profile.spelling.path ≤ 15) (mss : p.profile.mss < 2 ^ 16)
      (pair : (s : Side) → IfSome (end_at s p).modes.own_infinite PairTells) where
    abbrev c : Profile
    c = p.profile

    module _ (s : Side) where
      abbrev e : PathEnd
      e = end_at s p

      own : EndIs k true w did (is_joined c) s e
      own = end_is k true w did s p h

      tells : EndTells c s e
      tells = tells_at c p t s

      ack_says : (position : ℕ) (fin : Option ℕ) → IsShort position → IfSome fin IsShort → Says c s e (ack_said c s position fin e)
      ack_says position fin at n = record {
        is = ack_is k true w did c s e own position fin;
        tells = ack_said_tells c s path mss e tells position fin at n;
        syn = λ syn. absurd (false≢true syn);
      }

      plain_says : Says c s e (ack_said c s e.tcp.send.nxt None e)
      plain_says = ack_says e.tcp.send.nxt None tells.sender.next tt

      carried_says : (is_joined c ≡ true → OfB s (w B)) → Says c s e (carried_said c s e.notices.carrier e)
      carried_says knows = record {
        is = carried_is k true w did c s e own knows e.notices.carrier own.carries;
        tells = carried_tells c s path mss e tells e.notices.carrier tells.notices.carrier;
        syn = none e.notices.carrier;
      }
        where
          none : (o : Option ℕ) → (carried_said c s o e).syn ≡ true → (carried_said c s o e).options ≡ syn_options c s e
          none None syn = absurd (false≢true syn)
          none (Some key) syn = absurd (false≢true syn)

      reset_says : (reason : Option ℕ) → IfSome reason (λ n. n < 256) → Says c s e (reset_said c reason e)
      reset_says reason low = record {
        is = reset_is k true w did c s e own reason;
        tells = reset_tells c s path mss e tells reason low;
        syn = λ syn. absurd (false≢true syn);
      }

      -- where it knows what it has to
      module _ (knows : is_joined c ≡ true → Knows k true w did s e.modes) where
        record_says : (o : Option Record) → IfSome o (RecordTells c s) → Says c s e (record_or_ack c s o e)
        record_says o told = record {
          is = record_or_ack_is k true w did c s e own knows o;
          tells = record_said_tells c s path mss e tells (pair s) o told;
          syn = by o;
        }
          where
            kinds : (kind : RecordKind) (r : Record) → is_syn kind ≡ true → record_options kind c s r e ≡ syn_options c s e
            kinds Syn r syn = refl
            kinds Data r syn = absurd (false≢true syn)
            kinds Fin r syn = absurd (false≢true syn)

            by : (o : Option Record) → (record_or_ack c s o e).syn ≡ true → (record_or_ack c s o e).options ≡ syn_options c s e
            by None syn = absurd (false≢true syn)
            by (Some r) syn = kinds r.kind r syn

        unsent_says : Says c s e (record_or_ack c s (first_unsent e) e)
        unsent_says = record_says (first_unsent e) (every_find is_unsent e.tcp.send.records tells.sender.records)

        first_says : Says c s e (record_or_ack c s (first_record e) e)
        first_says = record_says (first_record e) (every_at 0 e.tcp.send.records tells.sender.records)

        syn_ack_says : Says c s e (syn_ack_said c s e)
        syn_ack_says = record { is = syn_ack_is k true w did c s e own knows; tells = syn_ack_tells c s path mss e tells; syn = λ syn. refl }

        fin_says : Says c s e (fin_said c e)
        fin_says = record {
          is = fin_options_are k true w did c s e own knows (fin_position e.tcp.send);
          tells = fin_said_tells c s path mss e tells (pair s) (at e.tcp.send.finished);
          syn = λ syn. absurd (false≢true syn);
        }
          where
            at : (finished : Bool) → IsShort (if finished then e.tcp.send.nxt - 1 else e.tcp.send.nxt)
            at true = let next = tells.sender.next in omega (arith, next)
            at false = tells.sender.next

        answer_says : Says c s e (answer_said c s e)
        answer_says = by e.tcp.due.syn_ack
          where
            by : (b : Bool) → Says c s e (if b then syn_ack_said c s e else ack_said c s e.tcp.send.nxt None e)
            by true = syn_ack_says
            by false = plain_says

        resent_says : Says c s e (ack_resent c s e)
        resent_says = by e.modes.owes_third e.notices.fast_closed (is_data_fin_owed e)
          where
            by : (third closed owes : Bool) → Says c s e (if third then ack_said c s e.tcp.send.nxt None e else (if closed then carried_said c s e.notices.carrier e
                else (if owes then ack_said c s e.tcp.send.nxt e.sending.known_end e else ack_said c s (e.tcp.send.una - 1) None e)))
            by true closed owes = plain_says
            by false true owes = carried_says (dss_known k true w did c s e own knows)
            by false false true = ack_says e.tcp.send.nxt e.sending.known_end tells.sender.next tells.stream.known_end
            by false false false =
                ack_says (e.tcp.send.una - 1) None (let una = tells.sender.unacknowledged in let next = tells.sender.next in omega (arith, una, next)) tt

        resend_says : Says c s e (resend_said c s e)
        resend_says = by (has_records e.tcp)
          where
            by : (b : Bool) → Says c s e (if b then record_or_ack c s (first_record e) e else ack_resent c s e)
            by true = first_says
            by false = resent_says

      -- a connected end knows that its side joined
      connected_knows : is_connected e.tcp.state ≡ true → is_joined c ≡ true → OfB s (w B)
      connected_knows is joins = of_b s (w B) (own.past joins (connected_past e.tcp.state is))

      noted_says : may_note e ≡ true → Says c s e (noted_said c s (first_of e.notices.queue) e)
      noted_says may =
          let notes = and_parts (is_connected e.tcp.state) _ may in
          record {
            is = noted_is k true w did c s e own (connected_knows notes.0) (and_parts e.modes.clear _ notes.1).0 (first_of e.notices.queue)
                (first_queued (NoteIs k true w did s) (λ id. tt) (λ id address port. tt) (λ backup. tt) e.notices.queue own.queued);
            tells = noted_tells c s path mss e tells (first_of e.notices.queue) (first_note e.notices.queue tells.notices.queue);
            syn = none (first_of e.notices.queue);
          }
        where
          first_note : (queue : List OwnNotice) → Every NoteTells queue → IfSome (first_of queue) NoteTells
          first_note [] each = tt
          first_note (notice ∷ queue) each = every_first notice queue each

          none : (o : Option OwnNotice) → (noted_said c s o e).syn ≡ true → (noted_said c s o e).options ≡ syn_options c s e
          none None syn = absurd (false≢true syn)
          none (Some notice) syn = absurd (false≢true syn)

      no_syn : (o : Option Outgoing) → IfSome o AnswerTells → (outgoing_or o (reset_segment e.tcp)).syn ≡ false
      no_syn None a = refl
      no_syn (Some o) a = a.syn

      dead_says : Says c s e (segment_of c (outgoing_or e.treated.answer (reset_segment e.tcp)) [] [] e)
      dead_says = record {
        is = reset_options_are k true w did c s e own None;
        tells = dead_answer_tells c s path mss e tells;
        syn = λ syn. absurd (false≢true (sym (no_syn e.treated.answer tells.treated.answer) ∙ syn));
      }

      refusal_says : Says c s e (segment_of c (outgoing_or e.treated.answer (reset_segment e.tcp)) (reset_options (Some 1)) [] e)
      refusal_says = record {
        is = reset_options_are k true w did c s e own (Some 1);
        tells = refusal_tells c s path mss e tells;
        syn = λ syn. absurd (false≢true (sym (no_syn e.treated.answer tells.treated.answer) ∙ syn));
      }

    -- ---- by what is to be done

    -- the segment of each duty that sends one
    abbrev pub Sends : ToSend → Type 0
    Sends x = Says c x.from (end_at x.from p) (segment_sent p x)

    up_knows : (s : Side) → is_up (end_at s p).tcp ≡ true → is_joined c ≡ true → Knows k true w did s (end_at s p).modes
    up_knows s up joins = (own s).woken joins up

    unless_so : (b : Bool) (o : Option ToSend) → IfSome o Sends → IfSome (if b then None else o) Sends
    unless_so true o is = tt
    unless_so false o is = is

    only_so : (b : Bool) (o : Option ToSend) → IfSome o Sends → IfSome (if b then o else None) Sends
    only_so true o is = is
    only_so false o is = tt

    broken_so : (s : Side) (reason : ℕ) → reason < 256 → IfSome (broken_by s reason p) Sends
    broken_so s reason low = unless_so (end_at s p).treated.asked _ (reset_says s (Some reason) low)

    heard_so : (s : Side) (o : Option Heard) → IfSome (heard_sends s o p) Sends
    heard_so s (Some (Heard.Mapping fin)) = only_so (is_clash (end_at s p)) _ (broken_so s 1 (omega arith))
    heard_so s _ = tt

    data_so : (s : Side) (o : Option Record) → first_unsent (end_at s p) ≡ o → data_stands c s (end_at s p) o ≡ true → IfSome (unsent_sends s o) Sends
    data_so s None first stood = tt
    data_so s (Some unsent) first stood =
        let e = end_at s p in
        unsent_says s (up_knows s (open_is_up e.tcp (not_closed (is_closed_to_segments e.tcp.state) (and_parts (not (is_closed_to_segments e.tcp.state)) (fits e.tcp unsent) stood).0)))

    duty_so : (d : Duty) → stands d p ≡ true → ((x : Voice) → is_said_by x d ≡ true → VoiceIs k true w did p x) → is_fair d ≡ true → IfSome (duty_sends d p) Sends
    duty_so (Duty.Send (SendDuty.Update s)) stood said fair = plain_says s
    duty_so (Duty.Send (SendDuty.Acknowledge s)) stood said fair = plain_says s
    duty_so (Duty.Send (SendDuty.Syn s)) stood said fair =
        unsent_says s (up_knows s (open_is_up (end_at s p).tcp (opening_open (end_at s p).tcp.state (and_parts (is_opening (end_at s p).tcp.state) _ stood).0)))
    duty_so (Duty.Send (SendDuty.FastClose s)) stood said fair = carried_says s (connected_knows s (and_parts (is_connected (end_at s p).tcp.state) _ stood).0)
    duty_so (Duty.Send (SendDuty.Notice s)) stood said fair = noted_says s (and_parts (may_note (end_at s p)) _ stood).0
    duty_so (Duty.Send (SendDuty.DataFin s)) stood said fair =
        ack_says s (end_at s p).tcp.send.nxt (end_at s p).sending.known_end (tells s).sender.next (tells s).stream.known_end
    duty_so (Duty.Send (SendDuty.Fin s)) stood said fair =
        fin_says s (up_knows s (open_is_up (end_at s p).tcp (finish_open (end_at s p).tcp.state (and_parts (may_finish (end_at s p).tcp.state) _ stood).0)))
    duty_so (Duty.Send (SendDuty.SynAck s)) stood said fair = syn_ack_says s (said (Voice.Says s) (itself s))
    duty_so (Duty.Send (SendDuty.Refuse s)) stood said fair = refusal_says s
    duty_so (Duty.Send (SendDuty.Again s)) stood said fair = first_says s (said (Voice.Says s) (itself s))
    duty_so (Duty.Send (SendDuty.Answer s)) stood said fair = answer_says s (said (Voice.Says s) (itself s))
    duty_so (Duty.Send (SendDuty.ResetAnswer s)) stood said fair = dead_says s
    duty_so (Duty.Send (SendDuty.Resend s)) stood said fair = resend_says s (said (Voice.Says s) (itself s))
    duty_so (Duty.Send (SendDuty.BreakReset s reason)) stood said fair = reset_says s (Some reason) (ltb-true reason 256 fair)
    duty_so (Duty.Send (SendDuty.Reset s)) stood said fair = reset_says s None tt
    duty_so (Duty.Send (SendDuty.ResetNoted s)) stood said fair = reset_says s None tt
    duty_so (Duty.Step (StepDuty.Data s)) stood said fair = data_so s (first_unsent (end_at s p)) refl stood
    duty_so (Duty.Step (StepDuty.Heard s index)) stood said fair = heard_so s (item_of index (end_at s p))
    duty_so (Duty.Step (StepDuty.PlainAck s)) stood said fair = only_so (breaks_by_ack c (end_at s p)) _ (broken_so s 6 (omega arith))
    duty_so (Duty.Step (StepDuty.Unmapped s)) stood said fair = broken_so s 6 (omega arith)
    duty_so d stood said fair = tt

    -- what is sent next
    pub first_so : IsSettled p → IfSome (first_sends p.agenda p) Sends
    first_so settled = by p.agenda settled t.agenda h.known
      where
        by : (ds : List Duty) → FirstStands ds p → AreFair ds → AreKnown k true w did p ds → IfSome (first_sends ds p) Sends
        by [] stood fair known = tt
        by (d ∷ ds) stood fair known =
            duty_so d stood (λ x said. known x (first_speaks x d ds said)) (and_parts (is_fair d) (list_all is_fair ds) fair).0
