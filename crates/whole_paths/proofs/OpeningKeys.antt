-- Until A may send a DSS its segments show both keys.
use Rattle.std.proofs.Common.{◌≡◌, refl, ap, ◌∙◌, ℕ, Bool, true, false, if◌then◌else◌, Option, Some, None, List, [], ◌∷◌, ◌-◌}
use Rattle.std.specs.Prelude.{IfSome}
use Rattle.sides.specs.declared.side.Side.{Side}
use Rattle.sides.specs.declared.side.Side.TheVariants.{A}
use Rattle.path_segments.specs.Options.{PlainOption}
use Rattle.path_segments.specs.declared.segment.PathOption.TheVariants.{Dss}
use Rattle.path_store.specs.declared.infinite_mapping.InfiniteMapping.{InfiniteMapping}
use Rattle.subflow_send.specs.Records.{Record}
use Rattle.subflow_send.specs.declared.record.RecordKind.{RecordKind}
use Rattle.subflow_send.specs.declared.record.RecordKind.TheVariants as kinds
use Rattle.subflow_tcp.specs.declared.segments.Outgoing.{Outgoing}
use Rattle.subflow_tcp.specs.Emitting.{is_syn, reset_segment}
use Rattle.subflow_tcp.specs.State.{has_records}
use Rattle.path_agenda.specs.declared.duty.Duty.{Duty}
use Rattle.path_agenda.specs.declared.duty.Duty.TheVariants as duties
use Rattle.path_agenda.specs.declared.duty.SendDuty.TheVariants as send_duties
use Rattle.path_agenda.specs.declared.duty.StepDuty.TheVariants as step_duties
use Rattle.path_agenda.specs.declared.heard.Heard.{Heard}
use Rattle.path_agenda.specs.declared.heard.Heard.TheVariants as says
use Rattle.path_agenda.specs.declared.notice.OwnNotice.{OwnNotice}
use Rattle.path_agenda.specs.Words.{first_of}
use Rattle.path_core.specs.DataFin.{is_data_fin_owed}
use Rattle.path_core.specs.DssIn.{is_clash}
use Rattle.path_core.specs.DssOut.{data_fin_mapping, fail_beside, infinite_or, first_piece_options, piece_mapping, mapped_options, plain_options, is_first_piece}
use Rattle.path_core.specs.Emission.{first_unsent, first_record, outgoing_or}
use Rattle.path_core.specs.End.{PathEnd}
use Rattle.path_core.specs.Fallback.{breaks_by_ack}
use Rattle.path_core.specs.Looking.{first_sends, duty_sends, segment_sent, unsent_sends, heard_sends, broken_by, send_of}
use Rattle.path_core.specs.MpJoin.{third_options}
use Rattle.path_core.specs.OptionsOut.{segment_of, reset_options, ack_options, opening_options, key_options, ack_said, syn_ack_said, record_options, record_said, record_or_ack, noted_said, carried_said, fin_said}
use Rattle.path_core.specs.Profile.{Profile}
use Rattle.path_core.specs.State.{PathState, end_at}
use Rattle.path_core.specs.Treating.{item_of}
use Rattle.whole_paths.specs.OpeningKeys.{ShowsKeys, EachSegmentShowsKeys}
use Rattle.whole_paths.specs.OpeningKeys.ShowsKeys.{bare, with_data, dss, opens, resets, refuses}
use Rattle.whole_paths.proofs.Saying.{ToSend}

-- ---- A's end, which may send no DSS yet

module _ (c : Profile) (s : Side) (e : PathEnd) (key : ℕ) (own : s ≡ A) (known : e.modes.peer_key ≡ Some key) (unclear : e.modes.clear ≡ false) (mapped : e.modes.identity ≡ false)
    (answered : e.modes.owes_third ≡ false) where
  pub ack_options_are : (fin : Option ℕ) → ack_options c s fin e ≡ key_options c A (Some key) e
  ack_options_are fin =
      ap (λ b. if b then [] else (if e.modes.clear then Dss (Some e.receiving.next) (data_fin_mapping c s fin) ∷ fail_beside fin e.modes else opening_options c s e)) mapped
      ∙ ap (λ b. if b then Dss (Some e.receiving.next) (data_fin_mapping c s fin) ∷ fail_beside fin e.modes else opening_options c s e) unclear
      ∙ ap (λ b. if b then third_options e.modes else key_options c s e.modes.peer_key e) answered
      ∙ ap (λ (o : Option ℕ). key_options c s o e) known
      ∙ ap (λ t. key_options c t (Some key) e) own

  ack_shows : (pos : ℕ) (fin : Option ℕ) → ShowsKeys key e (ack_said c s pos fin e)
  ack_shows pos fin = bare _ _ _ (ack_options_are fin)

  -- on the first piece or behind it
  piece_shows : (r : Record) → r.kind ≡ kinds.Data → ShowsKeys key e (record_said c s r e)
  piece_shows r is = by (is_first_piece s r e) refl e.modes.own_infinite refl
    where
      options_are : record_options r.kind c s r e ≡ infinite_or e.modes.own_infinite (mapped_options c s r e) e
      options_are = ap (λ kind. record_options kind c s r e) is ∙ ap (λ b. if b then plain_options r.pos e else infinite_or e.modes.own_infinite (mapped_options c s r e) e) mapped

      by : (b : Bool) → is_first_piece s r e ≡ b → (o : Option InfiniteMapping) → e.modes.own_infinite ≡ o → ShowsKeys key e (record_said c s r e)
      by b first (Some mapping) infinite = dss _ _ _ (options_are ∙ ap (λ o. infinite_or o (mapped_options c s r e) e) infinite)
      by true first None infinite = with_data _ _ _ _ _ (options_are ∙ ap (λ o. infinite_or o (mapped_options c s r e) e) infinite
          ∙ ap (λ b. if b then first_piece_options c e.modes.peer_key r e else Dss (Some e.receiving.next) (Some (piece_mapping c s r)) ∷ []) first ∙ ap (λ (o : Option ℕ). first_piece_options c o r e) known)
      by false first None infinite = dss _ _ _ (options_are ∙ ap (λ o. infinite_or o (mapped_options c s r e) e) infinite
          ∙ ap (λ b. if b then first_piece_options c e.modes.peer_key r e else Dss (Some e.receiving.next) (Some (piece_mapping c s r)) ∷ []) first)

  fin_options_are : (options : List PlainOption) → (if e.modes.identity then options else infinite_or e.modes.own_infinite (Dss (Some e.receiving.next) None ∷ []) e) ≡ infinite_or e.modes.own_infinite (Dss (Some e.receiving.next) None ∷ []) e
  fin_options_are options = ap (λ b. if b then options else infinite_or e.modes.own_infinite (Dss (Some e.receiving.next) None ∷ []) e) mapped

  record_shows : (r : Record) → ShowsKeys key e (record_said c s r e)
  record_shows r = by r.kind refl
    where
      by : (kind : RecordKind) → r.kind ≡ kind → ShowsKeys key e (record_said c s r e)
      by kinds.Syn is = opens (ap is_syn is)
      by kinds.Data is = piece_shows r is
      by kinds.Fin is = ends e.modes.own_infinite refl
        where
          ends : (o : Option InfiniteMapping) → e.modes.own_infinite ≡ o → ShowsKeys key e (record_said c s r e)
          ends None infinite = dss _ _ _ (ap (λ kind. record_options kind c s r e) is ∙ fin_options_are _ ∙ ap (λ o. infinite_or o (Dss (Some e.receiving.next) None ∷ []) e) infinite)
          ends (Some mapping) infinite = dss _ _ _ (ap (λ kind. record_options kind c s r e) is ∙ fin_options_are _ ∙ ap (λ o. infinite_or o (Dss (Some e.receiving.next) None ∷ []) e) infinite)

  or_ack : (o : Option Record) → ShowsKeys key e (record_or_ack c s o e)
  or_ack None = ack_shows e.tcp.send.nxt None
  or_ack (Some r) = record_shows r

  fin_shows : ShowsKeys key e (fin_said c e)
  fin_shows = ends e.modes.own_infinite refl
    where
      ends : (o : Option InfiniteMapping) → e.modes.own_infinite ≡ o → ShowsKeys key e (fin_said c e)
      ends None infinite = dss _ _ _ (fin_options_are _ ∙ ap (λ o. infinite_or o (Dss (Some e.receiving.next) None ∷ []) e) infinite)
      ends (Some mapping) infinite = dss _ _ _ (fin_options_are _ ∙ ap (λ o. infinite_or o (Dss (Some e.receiving.next) None ∷ []) e) infinite)

  noted_shows : (o : Option OwnNotice) → ShowsKeys key e (noted_said c s o e)
  noted_shows None = ack_shows e.tcp.send.nxt None
  noted_shows (Some notice) = dss _ _ _ refl

  carried_shows : (o : Option ℕ) → ShowsKeys key e (carried_said c s o e)
  carried_shows None = ack_shows e.tcp.send.nxt None
  carried_shows (Some other) = dss _ _ _ refl

  answer_shows : (b : Bool) → ShowsKeys key e (if b then syn_ack_said c s e else ack_said c s e.tcp.send.nxt None e)
  answer_shows true = opens refl
  answer_shows false = ack_shows e.tcp.send.nxt None

  resent_shows : (records third close fin : Bool) → ShowsKeys key e (if records then record_or_ack c s (first_record e) e
      else (if third then ack_said c s e.tcp.send.nxt None e
      else (if close then carried_said c s e.notices.carrier e
      else (if fin then ack_said c s e.tcp.send.nxt e.sending.known_end e
      else ack_said c s (e.tcp.send.una - 1) None e))))
  resent_shows true third close fin = or_ack (first_record e)
  resent_shows false true close fin = ack_shows e.tcp.send.nxt None
  resent_shows false false true fin = carried_shows e.notices.carrier
  resent_shows false false false true = ack_shows e.tcp.send.nxt e.sending.known_end
  resent_shows false false false false = ack_shows (e.tcp.send.una - 1) None

  -- the reset that a copy was answered by
  refusal_shows : (options : List PlainOption) → ShowsKeys key e (segment_of c (outgoing_or e.treated.answer (reset_segment e.tcp)) options [] e)
  refusal_shows options = by e.treated.answer refl
    where
      by : (o : Option Outgoing) → e.treated.answer ≡ o → ShowsKeys key e (segment_of c (outgoing_or e.treated.answer (reset_segment e.tcp)) options [] e)
      by None is = resets (ap (λ (o : Option Outgoing). (outgoing_or o (reset_segment e.tcp)).rst) is)
      by (Some answer) is = refuses answer is (ap (λ (o : Option Outgoing). (outgoing_or o (reset_segment e.tcp)).rst) is)

module _ {C : Type 0} where
  -- ---- a duty

  abbrev Shown : PathState C → ToSend → Type 0
  Shown p t = t.from ≡ A → (key : ℕ) → (end_at t.from p).modes.peer_key ≡ Some key → (end_at t.from p).modes.clear ≡ false → (end_at t.from p).modes.identity ≡ false
      → (end_at t.from p).modes.owes_third ≡ false → ShowsKeys key (end_at t.from p) (segment_sent p t)

  abbrev AllShow : Option ToSend → PathState C → Type 0
  AllShow o p = IfSome o (Shown p)

  broken_shows : (s : Side) (reason : ℕ) (p : PathState C) → AllShow (broken_by s reason p) p
  broken_shows s reason p = elim (end_at s p).treated.asked as (λ b. AllShow (if b then None else send_of (send_duties.BreakReset s reason)) p)
      [ true ↦ tt | false ↦ λ own key known unclear mapped answered. resets refl ]

  unsent_shows : (s : Side) (o : Option Record) (p : PathState C) → AllShow (unsent_sends s o) p
  unsent_shows s None p = tt
  unsent_shows s (Some r) p = λ own key known unclear mapped answered. or_ack p.profile s (end_at s p) key own known unclear mapped answered (first_unsent (end_at s p))

  heard_shows : (s : Side) (o : Option Heard) (p : PathState C) → AllShow (heard_sends s o p) p
  heard_shows s (Some (says.Mapping fin)) p = elim (is_clash (end_at s p)) as (λ b. AllShow (if b then broken_by s 1 p else None) p) [ true ↦ broken_shows s 1 p | false ↦ tt ]
  heard_shows s _ p = tt

  duty_shows : (d : Duty) (p : PathState C) → AllShow (duty_sends d p) p
  duty_shows (duties.Step (step_duties.Data s)) p = unsent_shows s (first_unsent (end_at s p)) p
  duty_shows (duties.Step (step_duties.Heard s index)) p = heard_shows s (item_of index (end_at s p)) p
  duty_shows (duties.Step (step_duties.PlainAck s)) p =
      elim (breaks_by_ack p.profile (end_at s p)) as (λ b. AllShow (if b then broken_by s 6 p else None) p) [ true ↦ broken_shows s 6 p | false ↦ tt ]
  duty_shows (duties.Step (step_duties.Unmapped s)) p = broken_shows s 6 p
  duty_shows (duties.Send (send_duties.Syn s)) p = λ own key known unclear mapped answered. or_ack p.profile s (end_at s p) key own known unclear mapped answered (first_unsent (end_at s p))
  duty_shows (duties.Send (send_duties.Again s)) p = λ own key known unclear mapped answered. or_ack p.profile s (end_at s p) key own known unclear mapped answered (first_record (end_at s p))
  duty_shows (duties.Send (send_duties.FastClose s)) p = λ own key known unclear mapped answered. carried_shows p.profile s (end_at s p) key own known unclear mapped answered (end_at s p).notices.carrier
  duty_shows (duties.Send (send_duties.Notice s)) p = λ own key known unclear mapped answered. noted_shows p.profile s (end_at s p) key own known unclear mapped answered (first_of (end_at s p).notices.queue)
  duty_shows (duties.Send (send_duties.Refuse s)) p = λ own key known unclear mapped answered. refusal_shows p.profile s (end_at s p) key own known unclear mapped answered (reset_options (Some 1))
  duty_shows (duties.Send (send_duties.ResetAnswer s)) p = λ own key known unclear mapped answered. refusal_shows p.profile s (end_at s p) key own known unclear mapped answered []
  duty_shows (duties.Send (send_duties.Answer s)) p = λ own key known unclear mapped answered. answer_shows p.profile s (end_at s p) key own known unclear mapped answered (end_at s p).tcp.due.syn_ack
  duty_shows (duties.Send (send_duties.Resend s)) p = λ own key known unclear mapped answered.
      (let e : PathEnd = end_at s p in resent_shows p.profile s e key own known unclear mapped answered (has_records e.tcp) e.modes.owes_third e.notices.fast_closed (is_data_fin_owed e))
  duty_shows (duties.Send (send_duties.BreakReset s reason)) p = λ own key known unclear mapped answered. resets refl
  duty_shows (duties.Send (send_duties.Reset s)) p = λ own key known unclear mapped answered. resets refl
  duty_shows (duties.Send (send_duties.ResetNoted s)) p = λ own key known unclear mapped answered. resets refl
  duty_shows (duties.Send (send_duties.Update s)) p = λ own key known unclear mapped answered. ack_shows p.profile s (end_at s p) key own known unclear mapped answered (end_at s p).tcp.send.nxt None
  duty_shows (duties.Send (send_duties.Acknowledge s)) p = λ own key known unclear mapped answered. ack_shows p.profile s (end_at s p) key own known unclear mapped answered (end_at s p).tcp.send.nxt None
  duty_shows (duties.Send (send_duties.DataFin s)) p = λ own key known unclear mapped answered.
      ack_shows p.profile s (end_at s p) key own known unclear mapped answered (end_at s p).tcp.send.nxt (end_at s p).sending.known_end
  duty_shows (duties.Send (send_duties.Fin s)) p = λ own key known unclear mapped answered. fin_shows p.profile s (end_at s p) key own known unclear mapped answered
  duty_shows (duties.Send (send_duties.SynAck s)) p = λ own key known unclear mapped answered. opens refl
  duty_shows _ p = tt

  pub each_segment_shows_keys : EachSegmentShowsKeys C
  each_segment_shows_keys p = by p.agenda
    where
      by : (ds : List Duty) → AllShow (first_sends ds p) p
      by [] = tt
      by (d ∷ ds) = duty_shows d p
