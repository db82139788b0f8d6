-- Each segment that an end sends acknowledges what came to it.
use Rattle.std.proofs.Common.{◌≡◌, refl, sym, ap, ◌⊎◌, inl, inr, ℕ, Bool, true, false, true≢false, if◌then◌else◌, Option, Some, None, List, [], ◌∷◌, ◌-◌}
use Rattle.std.specs.Prelude.{IfSome}
use Rattle.sides.specs.declared.side.Side.{Side}
use Rattle.sides.specs.declared.side.Side.TheVariants.{A}
use Rattle.path_segments.specs.Options.{PlainOption}
use Rattle.path_segments.specs.Spelled.{PlainSegment}
use Rattle.subflow_send.specs.Records.{Record}
use Rattle.subflow_tcp.specs.declared.segments.Outgoing.{Outgoing}
use Rattle.subflow_tcp.specs.Emitting.{reset_segment}
use Rattle.subflow_tcp.specs.State.{has_records}
use Rattle.subflow_tcp.specs.States.{is_opening}
use Rattle.actor_desk.specs.declared.ask.Reply.{Reply}
use Rattle.actor_desk.specs.Words.{is_nil}
use Rattle.path_agenda.specs.declared.duty.Duty.{Duty}
use Rattle.path_agenda.specs.declared.duty.Duty.TheVariants as duties
use Rattle.path_agenda.specs.declared.duty.SendDuty.TheVariants as send_duties
use Rattle.path_agenda.specs.declared.duty.StepDuty.TheVariants as step_duties
use Rattle.path_agenda.specs.declared.heard.Heard.{Heard}
use Rattle.path_agenda.specs.declared.heard.Heard.TheVariants as says
use Rattle.path_agenda.specs.declared.notice.OwnNotice.{OwnNotice}
use Rattle.path_agenda.specs.Words.{first_of}
use Rattle.path_core.specs.Codec.{Codec}
use Rattle.path_core.specs.DataFin.{is_data_fin_owed}
use Rattle.path_core.specs.DssIn.{is_clash}
use Rattle.path_core.specs.Emission.{first_unsent, first_record, outgoing_or}
use Rattle.path_core.specs.End.{PathEnd}
use Rattle.path_core.specs.Fallback.{breaks_by_ack}
use Rattle.path_core.specs.Handover.{handed}
use Rattle.path_core.specs.Looking.{first_sends, duty_sends, segment_sent, unsent_sends, heard_sends, broken_by, send_of, Hands, HandsOrTellsNone}
use Rattle.path_core.specs.OptionsOut.{segment_of, reset_options, ack_said, syn_ack_said, record_said, record_or_ack, noted_said, carried_said}
use Rattle.path_core.specs.Profile.{Profile}
use Rattle.path_core.specs.State.{PathState, end_at}
use Rattle.path_core.specs.Steps.{takes, next_round}
use Rattle.path_core.specs.Treating.{item_of}
use Rattle.path_core.proofs.SegmentsTold.{each_segment_is_told}
use Rattle.world_laws.specs.declared.member.Member.TheVariants.{App, Path}
use Rattle.world_laws.specs.Actors.{Actor, member_takes, member_next, is_over}
use Rattle.world_laws.specs.StampedBooks.{answer_to}
use Rattle.whole_paths.specs.Saying.{SaysWhatCame, HandsOver, PathsHandOver, EachSegmentSaysWhatCame}
use Rattle.whole_paths.specs.Saying.SaysWhatCame.{acknowledges, opens, resets, refuses}
use Rattle.whole_paths.proofs.Turns.{turn_each}

-- ---- a segment

-- the segment says so, and is no reset
pub data Speaks (e : PathEnd) (x : PlainSegment) : Type 0 where
  acks : x.acknowledged ≡ Some e.tcp.recv.edge → x.rst ≡ false → Speaks e x
  syns : is_opening e.tcp.state ≡ true → x.acknowledged ≡ None → Speaks e x

speaks_says : (e : PathEnd) (x : PlainSegment) → Speaks e x → SaysWhatCame e x
speaks_says e x (acks is rst) = acknowledges is rst
speaks_says e x (syns state none) = opens state none

-- a record, or an acknowledgement in its place
record_so : (c : Profile) (s : Side) (o : Option Record) (e : PathEnd) → Speaks e (record_or_ack c s o e)
record_so c s None e = acks refl refl
record_so c s (Some r) e = by (is_opening e.tcp.state) refl
  where
    by : (b : Bool) → is_opening e.tcp.state ≡ b → Speaks e (record_said c s r e)
    by true is = syns is (ap (λ b. if b then None else Some e.tcp.recv.edge) is)
    by false is = acks (ap (λ b. if b then None else Some e.tcp.recv.edge) is) refl

noted_so : (c : Profile) (s : Side) (o : Option OwnNotice) (e : PathEnd) → Speaks e (noted_said c s o e)
noted_so c s None e = acks refl refl
noted_so c s (Some notice) e = acks refl refl

carried_so : (c : Profile) (s : Side) (o : Option ℕ) (e : PathEnd) → Speaks e (carried_said c s o e)
carried_so c s None e = acks refl refl
carried_so c s (Some key) e = acks refl refl

answer_so : (c : Profile) (s : Side) (e : PathEnd) (b : Bool) → Speaks e (if b then syn_ack_said c s e else ack_said c s e.tcp.send.nxt None e)
answer_so c s e true = acks refl refl
answer_so c s e false = acks refl refl

resent_so : (c : Profile) (s : Side) (e : PathEnd) (records third close fin : Bool)
    → Speaks e (if records then record_or_ack c s (first_record e) e
    else (if third then ack_said c s e.tcp.send.nxt None e
    else (if close then carried_said c s e.notices.carrier e
    else (if fin then ack_said c s e.tcp.send.nxt e.sending.known_end e
    else ack_said c s (e.tcp.send.una - 1) None e))))
resent_so c s e true third close fin = record_so c s (first_record e) e
resent_so c s e false true close fin = acks refl refl
resent_so c s e false false true fin = carried_so c s e.notices.carrier e
resent_so c s e false false false true = acks refl refl
resent_so c s e false false false false = acks refl refl

-- the reset that a copy was answered by
refusal_so : (c : Profile) (options : List PlainOption) (e : PathEnd) → SaysWhatCame e (segment_of c (outgoing_or e.treated.answer (reset_segment e.tcp)) options [] e)
refusal_so c options e = by e.treated.answer refl
  where
    by : (o : Option Outgoing) → e.treated.answer ≡ o → SaysWhatCame e (segment_of c (outgoing_or e.treated.answer (reset_segment e.tcp)) options [] e)
    by None is = resets (ap (λ (o : Option Outgoing). (outgoing_or o (reset_segment e.tcp)).rst) is)
    by (Some answer) is = refuses answer is (ap (λ (o : Option Outgoing). (outgoing_or o (reset_segment e.tcp)).rst) is)

-- ---- a duty

abbrev ValueIn : {T : Type 0} → Option T → Type 0
ValueIn {T} o = T

-- what a path is to send
abbrev pub ToSend : Type 0
ToSend = ValueIn (send_of (send_duties.Reset A))

always : {T : Type 0} (P : T → Type 0) (o : Option T) → ((t : T) → P t) → IfSome o P
always P None each = tt
always P (Some t) each = each t

-- a reset may go by the duty
abbrev pub resets_by : Duty → Bool
resets_by (duties.Step (step_duties.Heard s index)) = true
resets_by (duties.Step (step_duties.PlainAck s)) = true
resets_by (duties.Step (step_duties.Unmapped s)) = true
resets_by (duties.Send (send_duties.Refuse s)) = true
resets_by (duties.Send (send_duties.ResetAnswer s)) = true
resets_by (duties.Send (send_duties.BreakReset s reason)) = true
resets_by (duties.Send (send_duties.Reset s)) = true
resets_by (duties.Send (send_duties.ResetNoted s)) = true
resets_by _ = false

module _ {C : Type 0} where
  abbrev pub AllSpeak : Option ToSend → PathState C → Type 0
  AllSpeak o p = IfSome o (λ (t : ToSend). Speaks (end_at t.from p) (segment_sent p t))

  abbrev pub AllSay : Option ToSend → PathState C → Type 0
  AllSay o p = IfSome o (λ (t : ToSend). SaysWhatCame (end_at t.from p) (segment_sent p t))

  broken_so : (s : Side) (reason : ℕ) (p : PathState C) → AllSay (broken_by s reason p) p
  broken_so s reason p = elim (end_at s p).treated.asked as (λ b. AllSay (if b then None else send_of (send_duties.BreakReset s reason)) p) [ true ↦ tt | false ↦ resets refl ]

  all_say : (o : Option ToSend) (p : PathState C) → AllSpeak o p → AllSay o p
  all_say None p speaks = tt
  all_say (Some t) p speaks = speaks_says (end_at t.from p) (segment_sent p t) speaks

  unsent_so : (s : Side) (o : Option Record) (p : PathState C) → AllSpeak (unsent_sends s o) p
  unsent_so s None p = tt
  unsent_so s (Some r) p = record_so p.profile s (first_unsent (end_at s p)) (end_at s p)

  heard_so : (s : Side) (o : Option Heard) (p : PathState C) → AllSay (heard_sends s o p) p
  heard_so s (Some (says.Mapping fin)) p = elim (is_clash (end_at s p)) as (λ b. AllSay (if b then broken_by s 1 p else None) p) [ true ↦ broken_so s 1 p | false ↦ tt ]
  heard_so s _ p = tt

  pub duty_speaks : (d : Duty) (p : PathState C) → resets_by d ≡ false → AllSpeak (duty_sends d p) p
  duty_speaks (duties.Step (step_duties.Heard s index)) p none = absurd (true≢false none)
  duty_speaks (duties.Step (step_duties.PlainAck s)) p none = absurd (true≢false none)
  duty_speaks (duties.Step (step_duties.Unmapped s)) p none = absurd (true≢false none)
  duty_speaks (duties.Send (send_duties.Refuse s)) p none = absurd (true≢false none)
  duty_speaks (duties.Send (send_duties.ResetAnswer s)) p none = absurd (true≢false none)
  duty_speaks (duties.Send (send_duties.BreakReset s reason)) p none = absurd (true≢false none)
  duty_speaks (duties.Send (send_duties.Reset s)) p none = absurd (true≢false none)
  duty_speaks (duties.Send (send_duties.ResetNoted s)) p none = absurd (true≢false none)
  duty_speaks (duties.Step (step_duties.Data s)) p none = unsent_so s (first_unsent (end_at s p)) p
  duty_speaks (duties.Send (send_duties.Syn s)) p none = record_so p.profile s (first_unsent (end_at s p)) (end_at s p)
  duty_speaks (duties.Send (send_duties.Again s)) p none = record_so p.profile s (first_record (end_at s p)) (end_at s p)
  duty_speaks (duties.Send (send_duties.FastClose s)) p none = carried_so p.profile s (end_at s p).notices.carrier (end_at s p)
  duty_speaks (duties.Send (send_duties.Notice s)) p none = noted_so p.profile s (first_of (end_at s p).notices.queue) (end_at s p)
  duty_speaks (duties.Send (send_duties.Answer s)) p none = answer_so p.profile s (end_at s p) (end_at s p).tcp.due.syn_ack
  duty_speaks (duties.Send (send_duties.Resend s)) p none =
      let e : PathEnd = end_at s p in resent_so p.profile s e (has_records e.tcp) e.modes.owes_third e.notices.fast_closed (is_data_fin_owed e)
  duty_speaks (duties.Send (send_duties.Update s)) p none = acks refl refl
  duty_speaks (duties.Send (send_duties.Acknowledge s)) p none = acks refl refl
  duty_speaks (duties.Send (send_duties.DataFin s)) p none = acks refl refl
  duty_speaks (duties.Send (send_duties.Fin s)) p none = acks refl refl
  duty_speaks (duties.Send (send_duties.SynAck s)) p none = acks refl refl
  duty_speaks _ p none = tt

  pub duty_so : (d : Duty) (p : PathState C) → AllSay (duty_sends d p) p
  duty_so (duties.Step (step_duties.Heard s index)) p = heard_so s (item_of index (end_at s p)) p
  duty_so (duties.Step (step_duties.PlainAck s)) p = elim (breaks_by_ack p.profile (end_at s p)) as (λ b. AllSay (if b then broken_by s 6 p else None) p) [ true ↦ broken_so s 6 p | false ↦ tt ]
  duty_so (duties.Step (step_duties.Unmapped s)) p = broken_so s 6 p
  duty_so (duties.Send (send_duties.Refuse s)) p = refusal_so p.profile (reset_options (Some 1)) (end_at s p)
  duty_so (duties.Send (send_duties.ResetAnswer s)) p = refusal_so p.profile [] (end_at s p)
  duty_so (duties.Send (send_duties.BreakReset s reason)) p = resets refl
  duty_so (duties.Send (send_duties.Reset s)) p = resets refl
  duty_so (duties.Send (send_duties.ResetNoted s)) p = resets refl
  duty_so d p = all_say (duty_sends d p) p (duty_speaks d p refl)

  first_so : (ds : List Duty) (p : PathState C) → AllSay (first_sends ds p) p
  first_so [] p = tt
  first_so (d ∷ ds) p = duty_so d p

  -- ---- a turn

  abbrev Says : Codec C → PathState C → PathState C → ToSend → Type 0
  Says k p q t = (q ≡ p) ⊎ ((q.link ≡ handed k t.from (segment_sent p t) p) × SaysWhatCame (end_at t.from p) (segment_sent p t))

  takes_hands : (k : Codec C) (r : Reply) (p : PathState C) → HandsOver k p (takes k r p)
  takes_hands k r p = record { sends = by (first_sends p.agenda p) (each_segment_is_told k p) (first_so p.agenda p) }
    where
      by : (o : Option ToSend) → HandsOrTellsNone k p o → AllSay o p → IfSome o (Says k p (takes k r p))
      by None told said = tt
      by (Some t) told said = (let hands : Hands k p t = told in inr (hands.taken r, said))

  next_hands : (k : Codec C) (p : PathState C) → is_nil p.agenda ≡ true → HandsOver k p (next_round p)
  next_hands k p over = record { sends = by p.agenda over }
    where
      by : (ds : List Duty) → is_nil ds ≡ true → IfSome (first_sends ds p) (Says k p (next_round p))
      by [] over = tt
      by (d ∷ ds) over = absurd (true≢false (sym over))

  member_hands : (k : Codec C) (r : Reply) (m : Actor C) → PathsHandOver k m (member_takes k r m)
  member_hands k r (App a) = tt
  member_hands k r (Path p) = takes_hands k r p

  member_begins : (k : Codec C) (m : Actor C) → is_over m ≡ true → PathsHandOver k m (member_next m)
  member_begins k (App a) over = tt
  member_begins k (Path p) over = next_hands k p over

  member_stays : (k : Codec C) (m : Actor C) → PathsHandOver k m m
  member_stays k (App a) = tt
  member_stays k (Path p) = record { sends = always (Says k p p) (first_sends p.agenda p) (λ t. inl refl) }

  pub each_segment_says_what_came : (k : Codec C) → EachSegmentSaysWhatCame k
  each_segment_says_what_came k = λ w turn. turn_each k (λ c d. PathsHandOver k c.member d.member) (λ c. member_stays k c.member) (λ ask books c. member_hands k (answer_to books ask) c.member)
      (λ stamp c over. member_begins k c.member over) turn w
