-- Each copy under way on a path that joins has a DSS with a Data ACK, is a SYN or a reset, or has no payload and acknowledges no more than its sender
-- had as long as it might send no DSS: MP_JOIN's third and fourth segments are such (RFC 8684, section 3.2).
use Rattle.std.proofs.Common.{◌≡◌, refl, sym, subst, ap, ◌∙◌, ◌⊎◌, inl, inr, ℕ, ◌+◌, ◌-◌, ◌≤◌, Bool, true, false, if◌then◌else◌, Option, Some, None, IfSome, List, [], ◌∷◌, map}
use Rattle.std.specs.List.{list_any}
use Rattle.std.proofs.lemmas.Bool.{both_ways}
use Rattle.path_segments.specs.Laws.{meant_option}
use Rattle.path_segments.specs.Spelled.{PlainSegment}
use Rattle.path_segments.specs.declared.segment.PathOption.TheVariants.{Dss}
use Rattle.sides.specs.declared.side.Side.{Side}
use Rattle.sides.specs.declared.side.Side.TheVariants.{A, B}
use Rattle.sides.specs.Side.{peer}
use Rattle.link_model.specs.declared.flight.Flight.{Flight}
use Rattle.stream_lanes.specs.Words.{Every}
use Rattle.subflow_send.specs.Records.{Record}
use Rattle.subflow_send.specs.Rules.{is_unsent}
use Rattle.subflow_tcp.specs.Emitting.{fin_position, is_syn}
use Rattle.subflow_tcp.specs.State.{has_records}
use Rattle.subflow_tcp.specs.declared.segments.Outgoing.{Outgoing}
use Rattle.path_agenda.specs.Words.{first_of}
use Rattle.path_agenda.specs.declared.duty.Duty.{Duty}
use Rattle.path_agenda.specs.declared.duty.Duty.TheVariants as duties
use Rattle.path_agenda.specs.declared.duty.SendDuty.TheVariants as send_duties
use Rattle.path_agenda.specs.declared.duty.StepDuty.TheVariants as step_duties
use Rattle.path_agenda.specs.declared.heard.Heard.{Heard}
use Rattle.path_agenda.specs.declared.heard.Heard.TheVariants as says
use Rattle.path_agenda.specs.declared.notice.OwnNotice.{OwnNotice}
use Rattle.actor_desk.specs.declared.ask.Reply.{Reply}
use Rattle.path_core.specs.DataFin.{is_data_fin_owed}
use Rattle.path_core.specs.DssIn.{is_clash}
use Rattle.path_core.specs.DssOut.{fin_options, infinite_or, plain_options}
use Rattle.path_core.specs.Duties.{answered}
use Rattle.path_core.specs.Emission.{first_record, first_unsent, outgoing_or}
use Rattle.path_core.specs.End.{PathEnd}
use Rattle.path_core.specs.Fallback.{breaks_by_ack}
use Rattle.path_core.specs.Looking.{broken_by, duty_sends, first_sends, heard_sends, segment_sent, send_of, unsent_sends}
use Rattle.path_core.specs.MpJoin.{is_joined}
use Rattle.path_core.specs.OptionsIn.{has_data_ack}
use Rattle.path_core.specs.OptionsOut.{ack_said, carried_said, noted_said, record_or_ack, record_said, syn_ack_said}
use Rattle.path_core.specs.Profile.{Profile}
use Rattle.path_core.specs.Shown.{AltersNothing}
use Rattle.path_core.specs.Start.{waiting_path}
use Rattle.path_core.specs.State.{PathState, end_at}
use Rattle.path_core.specs.Steps.{begins_turn, next_round, takes}
use Rattle.path_core.specs.Treating.{item_of}
use Rattle.path_core.specs.Values.{Carried, as_arrived, values}
use Rattle.world_laws.specs.NeverFalls.{StripsNothing}
use Rattle.world_laws.specs.Openings.{PathPlan, Start, path_begins}
use Rattle.world_laws.proofs.Lanes.Records.{every_at, every_find}
use Rattle.world_laws.proofs.Writes.Steps.{begins_lasts, takes_lasts}
use Rattle.whole_paths.specs.DataAcks.{TellsWhatCame}
use Rattle.whole_paths.specs.DataAcks.{TellsWhatCame as tells_what}
use Rattle.whole_paths.specs.Mild.{EndsGoByMappings}
use Rattle.whole_paths.proofs.Came.{AnswersReset}
use Rattle.whole_paths.proofs.ClearFirst.{Quiet}
use Rattle.whole_paths.proofs.DataAcks.{each_segment_has_a_data_ack}
use Rattle.whole_paths.proofs.Duties.{answered_steps}
use Rattle.whole_paths.proofs.FinPlaces.{FinsStay, stay_last, step_stay}
use Rattle.whole_paths.proofs.JoinedLow.{EdgeLow, IsLow, LowAt}
use Rattle.whole_paths.proofs.Saying.{ToSend}
use Rattle.whole_paths.proofs.Signless.{IsSyn}
use Rattle.whole_paths.proofs.UnderWay.{OfSent, next_all, none_begins, takes_all}

-- ---- what a segment of such a path says

-- RCV.NXT is there, or was before, at an end that may send no DSS
abbrev pub IsLowAt : PathEnd → ℕ → Type 0
IsLowAt e n = (n ≤ 1) ⊎ ((e.tcp.fin_at ≡ Some 1) × (n ≤ 2))

pub data SaysEnough (e : PathEnd) (y : PlainSegment) : Type 0 where
  resets : y.rst ≡ true → SaysEnough e y
  opens : y.syn ≡ true → SaysEnough e y
  tells : list_any has_data_ack (map meant_option y.options) ≡ true → SaysEnough e y
  bare : y.payload ≡ [] → IfSome y.acknowledged (IsLowAt e) → SaysEnough e y

says_later : (e f : PathEnd) (y : PlainSegment) → ((pos : ℕ) → e.tcp.fin_at ≡ Some pos → f.tcp.fin_at ≡ Some pos) → SaysEnough e y → SaysEnough f y
says_later e f y fin (resets is) = resets is
says_later e f y fin (opens is) = opens is
says_later e f y fin (tells is) = tells is
says_later e f y fin (bare empty low) = bare empty (by y.acknowledged low)
  where
    by : (o : Option ℕ) → IfSome o (IsLowAt e) → IfSome o (IsLowAt f)
    by None h = tt
    by (Some n) (inl few) = inl few
    by (Some n) (inr x) = inr (fin 1 x.0, x.1)

-- ---- an end that may send no DSS

module _ (c : Profile) (s : Side) (e : PathEnd) (low : EdgeLow e) where
  acks : (position : ℕ) (fin : Option ℕ) → SaysEnough e (ack_said c s position fin e)
  acks position fin = bare refl low

  syn_says : (r : Record) → IsSyn r → SaysEnough e (record_said c s r e)
  syn_says r is = opens (ap (λ kind. is_syn kind) is)

  or_ack : (o : Option Record) → IfSome o IsSyn → SaysEnough e (record_or_ack c s o e)
  or_ack None syn = acks e.tcp.send.nxt None
  or_ack (Some r) syn = syn_says r syn

  carried : (o : Option ℕ) → SaysEnough e (carried_said c s o e)
  carried None = acks e.tcp.send.nxt None
  carried (Some key) = tells refl

  noted : (o : Option OwnNotice) → SaysEnough e (noted_said c s o e)
  noted None = acks e.tcp.send.nxt None
  noted (Some notice) = tells refl

  answers : (b : Bool) → SaysEnough e (if b then syn_ack_said c s e else ack_said c s e.tcp.send.nxt None e)
  answers true = opens refl
  answers false = acks e.tcp.send.nxt None

  resent : IfSome (first_record e) IsSyn → (records third close fin : Bool)
      → SaysEnough e (if records then record_or_ack c s (first_record e) e
      else (if third then ack_said c s e.tcp.send.nxt None e
      else (if close then carried_said c s e.notices.carrier e
      else (if fin then ack_said c s e.tcp.send.nxt e.sending.known_end e
      else ack_said c s (e.tcp.send.una - 1) None e))))
  resent syn true third close fin = or_ack (first_record e) syn
  resent syn false true close fin = acks e.tcp.send.nxt None
  resent syn false false true fin = carried e.notices.carrier
  resent syn false false false true = acks e.tcp.send.nxt e.sending.known_end
  resent syn false false false false = acks (e.tcp.send.una - 1) None

-- of the segment that is sent next
abbrev SentSays : Option ToSend → PathState Carried → Type 0
SentSays o p = IfSome o (λ (t : ToSend). SaysEnough (end_at t.from p) (segment_sent p t))

-- what is known of a path that joins
pub record SaysWell (p : PathState Carried) : Type 0 where
  pub joins : is_joined p.profile ≡ true
  pub maps : EndsGoByMappings p
  pub resets : AnswersReset p
  pub syns : (s : Side) → Quiet (end_at s p) → Every IsSyn (end_at s p).tcp.send.records
  pub low : LowAt p.agenda p

module _ (p : PathState Carried) (h : SaysWell p) where
  answer_resets : (s : Side) (other : Outgoing) → other.rst ≡ true → (outgoing_or (end_at s p).treated.answer other).rst ≡ true
  answer_resets s other is = by (end_at s p).treated.answer (h.resets s)
    where
      by : (o : Option Outgoing) → IfSome o (λ (x : Outgoing). x.rst ≡ true) → (outgoing_or o other).rst ≡ true
      by None x = is
      by (Some answer) x = x

  fin_tells : (s : Side) → list_any has_data_ack (map meant_option (fin_options (fin_position (end_at s p).tcp.send) (end_at s p))) ≡ true
  fin_tells s =
      let e : PathEnd = end_at s p in let position = fin_position e.tcp.send in
      ap (λ b. list_any has_data_ack (map meant_option (if b then plain_options position e else infinite_or e.modes.own_infinite (Dss (Some e.receiving.next) None ∷ []) e))) (h.maps s).identity
      ∙ ap (λ o. list_any has_data_ack (map meant_option (infinite_or o (Dss (Some e.receiving.next) None ∷ []) e))) (h.maps s).own

  -- where the end of this side may send none
  module _ (u : Side) (unclear : (end_at u p).modes.clear ≡ false) where
    is_low : IsLow u (end_at u p)
    is_low = h.low.low u unclear

    edge : (s : Side) → s ≡ u → EdgeLow (end_at s p)
    edge s own = subst (λ t. EdgeLow (end_at t p)) (sym own) is_low.edge

    syns : (s : Side) → s ≡ u → Every IsSyn (end_at s p).tcp.send.records
    syns s own = subst (λ t. Every IsSyn (end_at t p).tcp.send.records) (sym own) (h.syns u is_low.quiet)

    -- of the segment that is sent, where it is this side's
    abbrev Own : Option ToSend → Type 0
    Own o = IfSome o (λ (t : ToSend). t.from ≡ u → SaysEnough (end_at t.from p) (segment_sent p t))

    unsent : (s : Side) → s ≡ u → SaysEnough (end_at s p) (record_or_ack p.profile s (first_unsent (end_at s p)) (end_at s p))
    unsent s own = or_ack p.profile s (end_at s p) (edge s own) (first_unsent (end_at s p)) (every_find is_unsent (end_at s p).tcp.send.records (syns s own))

    first : (s : Side) → s ≡ u → IfSome (first_record (end_at s p)) IsSyn
    first s own = every_at 0 (end_at s p).tcp.send.records (syns s own)

    broken : (s : Side) (reason : ℕ) → Own (broken_by s reason p)
    broken s reason = elim (end_at s p).treated.asked as (λ b. Own (if b then None else send_of (send_duties.BreakReset s reason))) [ true ↦ tt | false ↦ λ own. resets refl ]

    heard : (s : Side) (o : Option Heard) → Own (heard_sends s o p)
    heard s (Some (says.Mapping fin)) = elim (is_clash (end_at s p)) as (λ b. Own (if b then broken_by s 1 p else None)) [ true ↦ broken s 1 | false ↦ tt ]
    heard s _ = tt

    data_says : (s : Side) (o : Option Record) → Own (unsent_sends s o)
    data_says s None = tt
    data_says s (Some r) = λ own. unsent s own

    duty_own : (d : Duty) → Own (duty_sends d p)
    duty_own (duties.Step (step_duties.Data s)) = data_says s (first_unsent (end_at s p))
    duty_own (duties.Step (step_duties.Heard s index)) = heard s (item_of index (end_at s p))
    duty_own (duties.Step (step_duties.PlainAck s)) = elim (breaks_by_ack p.profile (end_at s p)) as (λ b. Own (if b then broken_by s 6 p else None)) [ true ↦ broken s 6 | false ↦ tt ]
    duty_own (duties.Step (step_duties.Unmapped s)) = broken s 6
    duty_own (duties.Send (send_duties.Syn s)) = λ own. unsent s own
    duty_own (duties.Send (send_duties.Again s)) = λ own. or_ack p.profile s (end_at s p) (edge s own) (first_record (end_at s p)) (first s own)
    duty_own (duties.Send (send_duties.FastClose s)) = λ own. carried p.profile s (end_at s p) (edge s own) (end_at s p).notices.carrier
    duty_own (duties.Send (send_duties.Notice s)) = λ own. noted p.profile s (end_at s p) (edge s own) (first_of (end_at s p).notices.queue)
    duty_own (duties.Send (send_duties.Answer s)) = λ own. answers p.profile s (end_at s p) (edge s own) (end_at s p).tcp.due.syn_ack
    duty_own (duties.Send (send_duties.Resend s)) = λ own.
        (let e : PathEnd = end_at s p in resent p.profile s e (edge s own) (first s own) (has_records e.tcp) e.modes.owes_third e.notices.fast_closed (is_data_fin_owed e))
    duty_own (duties.Send (send_duties.Update s)) = λ own. acks p.profile s (end_at s p) (edge s own) (end_at s p).tcp.send.nxt None
    duty_own (duties.Send (send_duties.Acknowledge s)) = λ own. acks p.profile s (end_at s p) (edge s own) (end_at s p).tcp.send.nxt None
    duty_own (duties.Send (send_duties.DataFin s)) = λ own. acks p.profile s (end_at s p) (edge s own) (end_at s p).tcp.send.nxt (end_at s p).sending.known_end
    duty_own (duties.Send (send_duties.Fin s)) = λ own. tells (fin_tells s)
    duty_own (duties.Send (send_duties.SynAck s)) = λ own. opens refl
    duty_own (duties.Send (send_duties.Refuse s)) = λ own. resets (answer_resets s _ refl)
    duty_own (duties.Send (send_duties.ResetAnswer s)) = λ own. resets (answer_resets s _ refl)
    duty_own (duties.Send (send_duties.BreakReset s reason)) = λ own. resets refl
    duty_own (duties.Send (send_duties.Reset s)) = λ own. resets refl
    duty_own (duties.Send (send_duties.ResetNoted s)) = λ own. resets refl
    duty_own _ = tt

    first_own : (ds : List Duty) → Own (first_sends ds p)
    first_own [] = tt
    first_own (d ∷ ds) = duty_own d

  -- where the end may send one
  clear_says : (t : ToSend) → (end_at t.from p).modes.clear ≡ true → TellsWhatCame (end_at t.from p) (segment_sent p t) → SaysEnough (end_at t.from p) (segment_sent p t)
  clear_says t clear (tells_what.acknowledges mapping others is alone) = tells (ap (λ os. list_any has_data_ack (map meant_option os)) is)
  clear_says t clear (tells_what.silent unclear none) = absurd (both_ways (end_at t.from p).modes.clear unclear clear)
  clear_says t clear (tells_what.opens is) = opens is
  clear_says t clear (tells_what.resets is) = resets is
  clear_says t clear (tells_what.refuses answer is same) = resets (same ∙ subst (λ (o : Option Outgoing). IfSome o (λ (x : Outgoing). x.rst ≡ true)) is (h.resets t.from))

  sent_says : SentSays (first_sends p.agenda p) p
  sent_says = by (first_sends p.agenda p) (each_segment_has_a_data_ack p) (λ u unclear. first_own u unclear p.agenda)
    where
      by : (o : Option ToSend) → IfSome o (λ t. (end_at t.from p).modes.identity ≡ false → TellsWhatCame (end_at t.from p) (segment_sent p t))
          → ((u : Side) → (end_at u p).modes.clear ≡ false → IfSome o (λ (t : ToSend). t.from ≡ u → SaysEnough (end_at t.from p) (segment_sent p t))) → SentSays o p
      by None told own = tt
      by (Some t) told own = at (end_at t.from p).modes.clear refl
        where
          at : (b : Bool) → (end_at t.from p).modes.clear ≡ b → SaysEnough (end_at t.from p) (segment_sent p t)
          at true clear = clear_says t clear (told (h.maps t.from).identity)
          at false unclear = own t.from unclear refl

-- ---- copies under way

abbrev pub CopySays : PathState Carried → Flight Carried → Type 0
CopySays p f = SaysEnough (end_at (peer f.to) p) (as_arrived f.carried)

all_later : (p q : PathState Carried) → FinsStay p q → (fs : List (Flight Carried)) → Every (CopySays p) fs → Every (CopySays q) fs
all_later p q stay fs h = record { each = λ i f there. says_later (end_at (peer f.to) p) (end_at (peer f.to) q) (as_arrived f.carried) (λ pos is. stay (peer f.to) pos is) (h.each i f there) }

twice : (s : Side) → peer (peer s) ≡ s
twice A = refl
twice B = refl

of_sent : (p q : PathState Carried) → FinsStay p q → (o : Option ToSend) → SentSays o p → OfSent (CopySays q) o p
of_sent p q stay None h = tt
of_sent p q stay (Some t) h = λ f to carried.
    let from : peer f.to ≡ t.from = ap peer to ∙ twice t.from in
    subst (λ (c : Carried). SaysEnough (end_at (peer f.to) q) (as_arrived c)) (sym carried)
    (subst (λ u. SaysEnough (end_at u q) (segment_sent p t)) (sym from) (says_later (end_at t.from p) (end_at t.from q) (segment_sent p t) (λ pos is. stay t.from pos is) h))

pub takes_says : (r : Reply) (p : PathState Carried) → SaysWell p → StripsNothing p.link.lines → AltersNothing p.link.lines → Every (CopySays p) p.link.under_way → Every (CopySays (takes values r p)) (takes values r p).link.under_way
takes_says r p well strips alters h =
    let q : PathState Carried = takes values r p in
    let stay : FinsStay p q = takes_lasts FinsStay stay_last values r p (λ d. step_stay p (answered values d r p) (answered_steps values d r p)) in
    takes_all (CopySays q) r p strips alters (of_sent p q stay (first_sends p.agenda p) (sent_says p well)) (all_later p q stay p.link.under_way h)

pub next_says : (p : PathState Carried) → Every (CopySays p) p.link.under_way → Every (CopySays (next_round p)) (next_round p).link.under_way
next_says p h =
    let q : PathState Carried = next_round p in
    let stay : FinsStay p q = begins_lasts FinsStay stay_last (record p { clock = p.until; until = p.until + 100 }) in next_all (CopySays q) p (all_later p q stay p.link.under_way h)

pub opened_says : (start : Start) (number : ℕ) (plan : PathPlan) → let p = begins_turn (waiting_path (path_begins start number plan) start.lines) in Every (CopySays p) p.link.under_way
opened_says start number plan = none_begins (CopySays (begins_turn (waiting_path (path_begins start number plan) start.lines))) start number plan
