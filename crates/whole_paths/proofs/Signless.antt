-- What an end sends has no DSS as long as it may send none and has no record but its SYN (RFC 8684, section 3.1).
use Rattle.std.proofs.Common.{◌≡◌, refl, sym, subst, ap, ◌∙◌, ◌-◌, ◌&&◌, ℕ, Bool, true, false, true≢false, not, if◌then◌else◌, Option, Some, None, IfSome, List, [], ◌∷◌}
use Rattle.std.specs.List.{list_any}
use Rattle.std.proofs.lemmas.Bool.{and_parts, both_ways, or_from}
use Rattle.path_segments.specs.Options.{PlainOption}
use Rattle.path_segments.specs.declared.segment.PathOption.TheVariants.{Dss}
use Rattle.sides.specs.declared.side.Side.{Side}
use Rattle.sides.specs.declared.side.Side.TheVariants.{A, B}
use Rattle.stream_lanes.specs.Words.{Every}
use Rattle.subflow_send.specs.Records.{Record}
use Rattle.subflow_send.specs.declared.record.RecordKind.TheVariants.{Syn}
use Rattle.subflow_tcp.specs.State.{has_records}
use Rattle.path_agenda.specs.declared.duty.Duty.{Duty}
use Rattle.path_agenda.specs.declared.duty.Duty.TheVariants as duties
use Rattle.path_agenda.specs.declared.duty.SendDuty.TheVariants as send_duties
use Rattle.path_agenda.specs.declared.duty.StepDuty.TheVariants as step_duties
use Rattle.path_agenda.specs.declared.heard.Heard.{Heard}
use Rattle.path_agenda.specs.declared.heard.Heard.TheVariants as says
use Rattle.path_core.specs.DataFin.{is_data_fin_owed, is_fin_due}
use Rattle.path_core.specs.DssIn.{is_clash}
use Rattle.path_core.specs.DssOut.{data_fin_mapping, fail_beside}
use Rattle.path_core.specs.Duties.{stands}
use Rattle.path_core.specs.Emission.{first_record, first_unsent}
use Rattle.path_core.specs.End.{PathEnd}
use Rattle.path_core.specs.Fallback.{breaks_by_ack}
use Rattle.path_core.specs.Looking.{broken_by, duty_sends, first_sends, heard_sends, segment_sent, send_of, unsent_sends}
use Rattle.path_core.specs.MpJoin.{is_joined, join_options, third_options}
use Rattle.path_core.specs.OptionsOut.{ack_options, ack_said, broken_options, capable_options, carried_said, key_options, opening_options, record_options, record_or_ack, syn_ack_said, syn_options}
use Rattle.path_core.specs.Notices.{is_carried}
use Rattle.path_core.specs.Profile.{Profile}
use Rattle.path_core.specs.Standing.{is_connected, may_note}
use Rattle.path_core.specs.State.{PathState, end_at}
use Rattle.path_core.specs.Treating.{item_of}
use Rattle.path_core.specs.Turns.{FirstStands}
use Rattle.path_core.specs.Values.{Carried}
use Rattle.world_laws.proofs.Lanes.Records.{every_at, every_find}
use Rattle.whole_paths.specs.Mild.{EndsGoByMappings}
use Rattle.whole_paths.proofs.Saying.{ToSend}
use Rattle.subflow_send.specs.Rules.{is_unsent}

-- the option is a DSS
abbrev pub is_dss_option : PlainOption → Bool
is_dss_option (Dss next mapping) = true
is_dss_option _ = false

abbrev pub SaysNone : List PlainOption → Type 0
SaysNone options = list_any is_dss_option options ≡ false

abbrev pub IsSyn : Record → Type 0
IsSyn r = r.kind ≡ Syn

-- ---- options

either : (xs ys : List PlainOption) (b : Bool) → SaysNone xs → SaysNone ys → SaysNone (if b then xs else ys)
either xs ys true x y = x
either xs ys false x y = y

module _ (c : Profile) (s : Side) (e : PathEnd) where
  joins_none : (t : Side) → SaysNone (join_options c t e.modes)
  joins_none A = refl
  joins_none B = refl

  capable_none : (t : Side) → SaysNone (capable_options c t e)
  capable_none A = refl
  capable_none B = either _ _ (e.modes.capable_asked && not e.modes.identity) refl refl

  syn_none : SaysNone (syn_options c s e)
  syn_none = elim (is_joined c) as (λ b. SaysNone (if b then join_options c s e.modes else capable_options c s e)) [ true ↦ joins_none s | false ↦ capable_none s ]

  keys_none : (t : Side) (key : Option ℕ) → SaysNone (key_options c t key e)
  keys_none A (Some key) = refl
  keys_none A None = refl
  keys_none B key = refl

  opening_none : SaysNone (opening_options c s e)
  opening_none = elim e.modes.owes_third as (λ b. SaysNone (if b then third_options e.modes else key_options c s e.modes.peer_key e)) [ true ↦ refl | false ↦ keys_none s e.modes.peer_key ]

  broken_none : (reason : Option ℕ) → SaysNone (if e.modes.identity then [] else broken_options e.treated.failed_mapping reason)
  broken_none reason = by e.modes.identity e.treated.failed_mapping reason
    where
      by : (plain : Bool) (failed reason : Option ℕ) → SaysNone (if plain then [] else broken_options failed reason)
      by true failed reason = refl
      by false None None = refl
      by false (Some place) None = refl
      by false None (Some reason) = refl
      by false (Some place) (Some reason) = refl

-- ---- segments of an end that may send none

module _ (c : Profile) (s : Side) (e : PathEnd) (unclear : e.modes.clear ≡ false) (mapped : e.modes.identity ≡ false) where
  ack_none : (fin : Option ℕ) → SaysNone (ack_options c s fin e)
  ack_none fin =
      ap (λ b. list_any is_dss_option (if b then [] else (if e.modes.clear then Dss (Some e.receiving.next) (data_fin_mapping c s fin) ∷ fail_beside fin e.modes else opening_options c s e))) mapped
      ∙ ap (λ b. list_any is_dss_option (if b then Dss (Some e.receiving.next) (data_fin_mapping c s fin) ∷ fail_beside fin e.modes else opening_options c s e)) unclear
      ∙ opening_none c s e

  record_none : (r : Record) → IsSyn r → SaysNone (record_options r.kind c s r e)
  record_none r syn = ap (λ kind. list_any is_dss_option (record_options kind c s r e)) syn ∙ syn_none c s e

  or_ack : (o : Option Record) → IfSome o IsSyn → SaysNone (record_or_ack c s o e).options
  or_ack None syn = ack_none None
  or_ack (Some r) syn = record_none r syn

  answer_none : (b : Bool) → SaysNone (if b then syn_ack_said c s e else ack_said c s e.tcp.send.nxt None e).options
  answer_none true = syn_none c s e
  answer_none false = ack_none None

  resent_none : IfSome (first_record e) IsSyn → (records third close fin : Bool) → close ≡ false
      → SaysNone (if records then record_or_ack c s (first_record e) e
      else (if third then ack_said c s e.tcp.send.nxt None e
      else (if close then carried_said c s e.notices.carrier e
      else (if fin then ack_said c s e.tcp.send.nxt e.sending.known_end e
      else ack_said c s (e.tcp.send.una - 1) None e)))).options
  resent_none syn true third close fin none = or_ack (first_record e) syn
  resent_none syn false true close fin none = ack_none None
  resent_none syn false false true fin none = absurd (true≢false none)
  resent_none syn false false false true none = ack_none e.sending.known_end
  resent_none syn false false false false none = ack_none None

-- ---- what it sends next

-- It may send none, carries no fast close, has no record but its SYN, and sends no FIN.
pub record IsMute (u : Side) (p : PathState Carried) : Type 0 where
  pub maps : EndsGoByMappings p
  pub close : (end_at u p).notices.fast_closed ≡ false
  pub unclear : (end_at u p).modes.clear ≡ false
  pub syns : Every IsSyn (end_at u p).tcp.send.records
  pub open_still : is_fin_due (end_at u p) ≡ true → ⊥

-- of the segment that is sent, where it is this side's
abbrev pub AllMute : Side → Option ToSend → PathState Carried → Type 0
AllMute u o p = IfSome o (λ (t : ToSend). t.from ≡ u → SaysNone (segment_sent p t).options)

module _ (u : Side) (p : PathState Carried) (h : IsMute u p) where
  unclear_at : (s : Side) → s ≡ u → (end_at s p).modes.clear ≡ false
  unclear_at s own = subst (λ t. (end_at t p).modes.clear ≡ false) (sym own) h.unclear

  syns_at : (s : Side) → s ≡ u → Every IsSyn (end_at s p).tcp.send.records
  syns_at s own = subst (λ t. Every IsSyn (end_at t p).tcp.send.records) (sym own) h.syns

  acks : (s : Side) (fin : Option ℕ) → s ≡ u → SaysNone (ack_options p.profile s fin (end_at s p))
  acks s fin own = ack_none p.profile s (end_at s p) (unclear_at s own) (h.maps s).identity fin

  unsent : (s : Side) → s ≡ u → SaysNone (record_or_ack p.profile s (first_unsent (end_at s p)) (end_at s p)).options
  unsent s own = or_ack p.profile s (end_at s p) (unclear_at s own) (h.maps s).identity (first_unsent (end_at s p)) (every_find is_unsent (end_at s p).tcp.send.records (syns_at s own))

  first : (s : Side) → s ≡ u → IfSome (first_record (end_at s p)) IsSyn
  first s own = every_at 0 (end_at s p).tcp.send.records (syns_at s own)

  broken_mute : (s : Side) (reason : ℕ) → AllMute u (broken_by s reason p) p
  broken_mute s reason = elim (end_at s p).treated.asked as (λ b. AllMute u (if b then None else send_of (send_duties.BreakReset s reason)) p)
      [ true ↦ tt | false ↦ λ own. broken_none p.profile s (end_at s p) (Some reason) ]

  unsent_mute : (s : Side) (o : Option Record) → AllMute u (unsent_sends s o) p
  unsent_mute s None = tt
  unsent_mute s (Some r) = λ own. unsent s own

  heard_mute : (s : Side) (o : Option Heard) → AllMute u (heard_sends s o p) p
  heard_mute s (Some (says.Mapping fin)) = elim (is_clash (end_at s p)) as (λ b. AllMute u (if b then broken_by s 1 p else None) p) [ true ↦ broken_mute s 1 | false ↦ tt ]
  heard_mute s _ = tt

  duty_mute : (d : Duty) → stands d p ≡ true → AllMute u (duty_sends d p) p
  duty_mute (duties.Step (step_duties.Data s)) due = unsent_mute s (first_unsent (end_at s p))
  duty_mute (duties.Step (step_duties.Heard s index)) due = heard_mute s (item_of index (end_at s p))
  duty_mute (duties.Step (step_duties.PlainAck s)) due = elim (breaks_by_ack p.profile (end_at s p)) as (λ b. AllMute u (if b then broken_by s 6 p else None) p) [ true ↦ broken_mute s 6 | false ↦ tt ]
  duty_mute (duties.Step (step_duties.Unmapped s)) due = broken_mute s 6
  duty_mute (duties.Send (send_duties.Syn s)) due = λ own. unsent s own
  duty_mute (duties.Send (send_duties.Again s)) due = λ own. or_ack p.profile s (end_at s p) (unclear_at s own) (h.maps s).identity (first_record (end_at s p)) (first s own)
  duty_mute (duties.Send (send_duties.FastClose s)) due = λ own. absurd (both_ways _
      (or_from (end_at s p).modes.clear (end_at s p).modes.identity (unclear_at s own) (h.maps s).identity)
      (and_parts (is_carried (end_at s p).notices) _ (and_parts (is_connected (end_at s p).tcp.state) _ due).1).1)
  duty_mute (duties.Send (send_duties.Notice s)) due = λ own. absurd (both_ways (end_at s p).modes.clear (unclear_at s own)
      (and_parts (end_at s p).modes.clear _ (and_parts (is_connected (end_at s p).tcp.state) _ (and_parts (may_note (end_at s p)) _ due).0).1).0)
  duty_mute (duties.Send (send_duties.Refuse s)) due = λ own. refl
  duty_mute (duties.Send (send_duties.ResetAnswer s)) due = λ own. refl
  duty_mute (duties.Send (send_duties.Answer s)) due = λ own. answer_none p.profile s (end_at s p) (unclear_at s own) (h.maps s).identity (end_at s p).tcp.due.syn_ack
  duty_mute (duties.Send (send_duties.Resend s)) due = λ own.
      (let e : PathEnd = end_at s p in resent_none p.profile s e (unclear_at s own) (h.maps s).identity (first s own) (has_records e.tcp) e.modes.owes_third e.notices.fast_closed (is_data_fin_owed e)
      (subst (λ t. (end_at t p).notices.fast_closed ≡ false) (sym own) h.close))
  duty_mute (duties.Send (send_duties.BreakReset s reason)) due = λ own. broken_none p.profile s (end_at s p) (Some reason)
  duty_mute (duties.Send (send_duties.Reset s)) due = λ own. broken_none p.profile s (end_at s p) None
  duty_mute (duties.Send (send_duties.ResetNoted s)) due = λ own. broken_none p.profile s (end_at s p) None
  duty_mute (duties.Send (send_duties.Update s)) due = acks s None
  duty_mute (duties.Send (send_duties.Acknowledge s)) due = acks s None
  duty_mute (duties.Send (send_duties.DataFin s)) due = acks s (end_at s p).sending.known_end
  duty_mute (duties.Send (send_duties.Fin s)) due = λ own. absurd (h.open_still (subst (λ t. is_fin_due (end_at t p) ≡ true) own due))
  duty_mute (duties.Send (send_duties.SynAck s)) due = λ own. syn_none p.profile s (end_at s p)
  duty_mute _ due = tt

  pub first_mute : FirstStands p.agenda p → AllMute u (first_sends p.agenda p) p
  first_mute = by p.agenda
    where
      by : (ds : List Duty) → FirstStands ds p → AllMute u (first_sends ds p) p
      by [] due = tt
      by (d ∷ ds) due = duty_mute d due
