-- Each segment of an end that may send a DSS has a Data ACK; one that may send none yet has such a DSS first, or no Data ACK.
use Rattle.std.proofs.Common.{◌≡◌, refl, sym, subst, ap, ◌∙◌, ◌⊎◌, inl, inr, ℕ, Bool, true, false, true≢false, ◌&&◌, not, ◌==◌, if◌then◌else◌, Option, Some, None, List, [], ◌∷◌, ◌-◌, map}
use Rattle.std.specs.List.{list_any}
use Rattle.path_segments.specs.Laws.{meant_option}
use Rattle.path_segments.specs.Spelled.{PlainSegment}
use Rattle.std.specs.Prelude.{IfSome}
use Rattle.sides.specs.declared.side.Side.{Side}
use Rattle.sides.specs.declared.side.Side.TheVariants.{A, B}
use Rattle.path_segments.specs.Options.{PlainOption}
use Rattle.path_segments.specs.declared.segment.PathMapping.{PathMapping}
use Rattle.path_segments.specs.declared.segment.PathOption.TheVariants.{Dss}
use Rattle.path_store.specs.declared.infinite_mapping.InfiniteMapping.{InfiniteMapping}
use Rattle.subflow_send.specs.Records.{Record}
use Rattle.subflow_send.specs.declared.record.RecordKind.{RecordKind}
use Rattle.subflow_send.specs.declared.record.RecordKind.TheVariants as kinds
use Rattle.subflow_tcp.specs.declared.segments.Outgoing.{Outgoing}
use Rattle.subflow_tcp.specs.Emitting.{is_syn, reset_segment}
use Rattle.subflow_tcp.specs.State.{has_records}
use Rattle.path_agenda.specs.declared.duty.Duty.{Duty}
use Rattle.path_agenda.specs.declared.duty.Duty.TheVariants as duties
use Rattle.path_agenda.specs.declared.duty.SendDuty.TheVariants as send_duties
use Rattle.path_agenda.specs.declared.duty.StepDuty.TheVariants as step_duties
use Rattle.path_agenda.specs.declared.heard.Heard.{Heard}
use Rattle.path_agenda.specs.declared.heard.Heard.TheVariants as says
use Rattle.path_agenda.specs.declared.notice.OwnNotice.{OwnNotice}
use Rattle.path_agenda.specs.declared.notice.OwnNotice.TheVariants as notes
use Rattle.path_agenda.specs.Words.{first_of}
use Rattle.path_core.specs.Choices.{is_side_a}
use Rattle.path_core.specs.DataFin.{is_data_fin_owed}
use Rattle.path_core.specs.DssIn.{is_clash}
use Rattle.path_core.specs.DssOut.{data_fin_mapping, fail_beside, fail_options, infinite_or, first_piece_options, piece_mapping, mapped_options}
use Rattle.path_core.specs.Emission.{first_unsent, first_record, outgoing_or}
use Rattle.path_core.specs.End.{PathEnd}
use Rattle.path_core.specs.Fallback.{breaks_by_ack}
use Rattle.path_core.specs.Looking.{first_sends, duty_sends, segment_sent, unsent_sends, heard_sends, broken_by, send_of}
use Rattle.path_core.specs.MpJoin.{third_options}
use Rattle.path_core.specs.OptionsIn.{has_data_ack}
use Rattle.path_core.specs.declared.modes.Modes.{Modes}
use Rattle.path_core.specs.Modes.{receives_infinite}
use Rattle.path_core.specs.OptionsOut.{key_options, notice_option, segment_of, reset_options, ack_options, opening_options, ack_said, syn_ack_said, record_options, record_said, record_or_ack, noted_said, carried_said, fin_said}
use Rattle.path_core.specs.Profile.{Profile}
use Rattle.path_core.specs.State.{PathState, end_at}
use Rattle.path_core.specs.Treating.{item_of}
use Rattle.whole_paths.specs.DataAcks.{TellsWhatCame, EachSegmentHasADataAck}
use Rattle.whole_paths.specs.DataAcks.TellsWhatCame.{acknowledges, opens, resets, refuses, silent}
use Rattle.whole_paths.proofs.Saying.{ToSend}

-- ---- an end in no fallback

-- no option has a Data ACK
abbrev pub SaysNone : List PlainOption → Type 0
SaysNone options = list_any has_data_ack (map meant_option options) ≡ false

-- the first option alone is a DSS with that of what the side received
pub record HasDataAck (next : ℕ) (options : List PlainOption) : Type 0 where
  pub mapping : Option (PathMapping ℕ)
  pub others : List PlainOption
  pub is : options ≡ Dss (Some next) mapping ∷ others
  pub alone : SaysNone others

has : (next : ℕ) (mapping : Option (PathMapping ℕ)) (others : List PlainOption) → SaysNone others → HasDataAck next (Dss (Some next) mapping ∷ others)
has next mapping others alone = record { mapping = mapping; others = others; is = refl; alone = alone }

failed_none : (o : Option ℕ) → SaysNone (fail_options o)
failed_none None = refl
failed_none (Some place) = refl

beside_none : (fin : Option ℕ) (m : Modes) → SaysNone (fail_beside fin m)
beside_none (Some fin) m = refl
beside_none None m = failed_none (if receives_infinite m.mode then None else m.failed_mapping)

notice_none : (notice : OwnNotice) (m : Modes) → SaysNone (notice_option notice m ∷ [])
notice_none (notes.AddAddr id) m = refl
notice_none (notes.AddEcho id address port) m = refl
notice_none (notes.Removes id) m = refl
notice_none (notes.Prio backup) m = refl

module _ (c : Profile) (s : Side) (e : PathEnd) (mapped : e.modes.identity ≡ false) where
  -- or none has, from an end that may send no DSS
  abbrev Has : List PlainOption → Type 0
  Has options = HasDataAck e.receiving.next options ⊎ ((e.modes.clear ≡ false) × SaysNone options)

  tells_so : (x : PlainSegment) → Has x.options → TellsWhatCame e x
  tells_so x (inl h) = acknowledges h.mapping h.others h.is h.alone
  tells_so x (inr none) = silent none.0 none.1

  -- neither in plain TCP
  mapped_has : (plain options : List PlainOption) → Has options → Has (if e.modes.identity then plain else options)
  mapped_has plain options h = subst_if e.modes.identity mapped
    where
      subst_if : (b : Bool) → b ≡ false → Has (if b then plain else options)
      subst_if true is = absurd (true≢false is)
      subst_if false is = h

  infinite_has : (o : Option InfiniteMapping) (options : List PlainOption) → Has options → Has (infinite_or o options e)
  infinite_has None options h = h
  infinite_has (Some mapping) options h = inl (has _ _ [] refl)

  keys_none : (t : Side) (key : Option ℕ) → SaysNone (key_options c t key e)
  keys_none A (Some key) = refl
  keys_none A None = refl
  keys_none B key = refl

  opening_none : SaysNone (opening_options c s e)
  opening_none = elim e.modes.owes_third as (λ b. SaysNone (if b then third_options e.modes else key_options c s e.modes.peer_key e)) [ true ↦ refl | false ↦ keys_none s e.modes.peer_key ]

  any_has : (fin : Option ℕ) → Has (ack_options c s fin e)
  any_has fin = mapped_has [] _ (by e.modes.clear refl)
    where
      by : (b : Bool) → e.modes.clear ≡ b → Has (if b then Dss (Some e.receiving.next) (data_fin_mapping c s fin) ∷ fail_beside fin e.modes else opening_options c s e)
      by true is = inl (has _ _ _ (beside_none fin e.modes))
      by false is = inr (is, opening_none)

  ack_tells : (pos : ℕ) (fin : Option ℕ) → TellsWhatCame e (ack_said c s pos fin e)
  ack_tells pos fin = tells_so (ack_said c s pos fin e) (any_has fin)

  first_none : (r : Record) (key : Option ℕ) → SaysNone (first_piece_options c key r e)
  first_none r (Some key) = refl
  first_none r None = refl

  piece_has : (r : Record) → Has (mapped_options c s r e)
  piece_has r = by s e.modes.clear (r.pos == 1) refl
    where
      by : (s : Side) (b first : Bool) → e.modes.clear ≡ b → Has (if is_side_a s && (not b && first) then first_piece_options c e.modes.peer_key r e
          else Dss (Some e.receiving.next) (Some (piece_mapping c s r)) ∷ [])
      by A true first is = inl (has _ _ [] refl)
      by A false true is = inr (is, first_none r e.modes.peer_key)
      by A false false is = inl (has _ _ [] refl)
      by B b first is = inl (has _ _ [] refl)

  record_tells : (r : Record) → TellsWhatCame e (record_said c s r e)
  record_tells r = by r.kind refl
    where
      of : Has (record_options r.kind c s r e) → TellsWhatCame e (record_said c s r e)
      of h = tells_so (record_said c s r e) h

      by : (kind : RecordKind) → r.kind ≡ kind → TellsWhatCame e (record_said c s r e)
      by kinds.Syn is = opens (ap is_syn is)
      by kinds.Data is = of (subst (λ kind. Has (record_options kind c s r e)) (sym is) (mapped_has _ _ (infinite_has e.modes.own_infinite _ (piece_has r))))
      by kinds.Fin is = of (subst (λ kind. Has (record_options kind c s r e)) (sym is) (mapped_has _ _ (infinite_has e.modes.own_infinite _ (inl (has _ _ [] refl)))))

  or_ack : (o : Option Record) → TellsWhatCame e (record_or_ack c s o e)
  or_ack None = ack_tells e.tcp.send.nxt None
  or_ack (Some r) = record_tells r

  fin_tells : TellsWhatCame e (fin_said c e)
  fin_tells = tells_so (fin_said c e) (mapped_has _ _ (infinite_has e.modes.own_infinite _ (inl (has e.receiving.next None [] refl))))

  noted_tells : (o : Option OwnNotice) → TellsWhatCame e (noted_said c s o e)
  noted_tells None = ack_tells e.tcp.send.nxt None
  noted_tells (Some notice) = acknowledges _ _ refl (notice_none notice e.modes)

  carried_tells : (o : Option ℕ) → TellsWhatCame e (carried_said c s o e)
  carried_tells None = ack_tells e.tcp.send.nxt None
  carried_tells (Some key) = acknowledges _ _ refl refl

  answer_tells : (b : Bool) → TellsWhatCame e (if b then syn_ack_said c s e else ack_said c s e.tcp.send.nxt None e)
  answer_tells true = opens refl
  answer_tells false = ack_tells e.tcp.send.nxt None

  resent_tells : (records third close fin : Bool) → TellsWhatCame e (if records then record_or_ack c s (first_record e) e
      else (if third then ack_said c s e.tcp.send.nxt None e
      else (if close then carried_said c s e.notices.carrier e
      else (if fin then ack_said c s e.tcp.send.nxt e.sending.known_end e
      else ack_said c s (e.tcp.send.una - 1) None e))))
  resent_tells true third close fin = or_ack (first_record e)
  resent_tells false true close fin = ack_tells e.tcp.send.nxt None
  resent_tells false false true fin = carried_tells e.notices.carrier
  resent_tells false false false true = ack_tells e.tcp.send.nxt e.sending.known_end
  resent_tells false false false false = ack_tells (e.tcp.send.una - 1) None

-- an acknowledgement of an end that may send a DSS has one
pub ack_has : (c : Profile) (s : Side) (e : PathEnd) → e.modes.clear ≡ true → e.modes.identity ≡ false → (fin : Option ℕ) → HasDataAck e.receiving.next (ack_options c s fin e)
ack_has c s e clear mapped fin = by (any_has c s e mapped fin)
  where
    by : HasDataAck e.receiving.next (ack_options c s fin e) ⊎ ((e.modes.clear ≡ false) × SaysNone (ack_options c s fin e)) → HasDataAck e.receiving.next (ack_options c s fin e)
    by (inl h) = h
    by (inr none) = absurd (true≢false (sym clear ∙ none.0))

-- the reset that a copy was answered by
refusal_tells : (c : Profile) (options : List PlainOption) (e : PathEnd) → TellsWhatCame e (segment_of c (outgoing_or e.treated.answer (reset_segment e.tcp)) options [] e)
refusal_tells c options e = by e.treated.answer refl
  where
    by : (o : Option Outgoing) → e.treated.answer ≡ o → TellsWhatCame e (segment_of c (outgoing_or e.treated.answer (reset_segment e.tcp)) options [] e)
    by None is = resets (ap (λ (o : Option Outgoing). (outgoing_or o (reset_segment e.tcp)).rst) is)
    by (Some answer) is = refuses answer is (ap (λ (o : Option Outgoing). (outgoing_or o (reset_segment e.tcp)).rst) is)

module _ {C : Type 0} where
  -- ---- a duty

  abbrev Tells : PathState C → ToSend → Type 0
  Tells p t = (end_at t.from p).modes.identity ≡ false → TellsWhatCame (end_at t.from p) (segment_sent p t)

  abbrev AllTell : Option ToSend → PathState C → Type 0
  AllTell o p = IfSome o (Tells p)

  broken_tells : (s : Side) (reason : ℕ) (p : PathState C) → AllTell (broken_by s reason p) p
  broken_tells s reason p = elim (end_at s p).treated.asked as (λ b. AllTell (if b then None else send_of (send_duties.BreakReset s reason)) p) [ true ↦ tt | false ↦ λ mapped. resets refl ]

  unsent_tells : (s : Side) (o : Option Record) (p : PathState C) → AllTell (unsent_sends s o) p
  unsent_tells s None p = tt
  unsent_tells s (Some r) p = λ mapped. or_ack p.profile s (end_at s p) mapped (first_unsent (end_at s p))

  heard_tells : (s : Side) (o : Option Heard) (p : PathState C) → AllTell (heard_sends s o p) p
  heard_tells s (Some (says.Mapping fin)) p = elim (is_clash (end_at s p)) as (λ b. AllTell (if b then broken_by s 1 p else None) p) [ true ↦ broken_tells s 1 p | false ↦ tt ]
  heard_tells s _ p = tt

  duty_tells : (d : Duty) (p : PathState C) → AllTell (duty_sends d p) p
  duty_tells (duties.Step (step_duties.Data s)) p = unsent_tells s (first_unsent (end_at s p)) p
  duty_tells (duties.Step (step_duties.Heard s index)) p = heard_tells s (item_of index (end_at s p)) p
  duty_tells (duties.Step (step_duties.PlainAck s)) p =
      elim (breaks_by_ack p.profile (end_at s p)) as (λ b. AllTell (if b then broken_by s 6 p else None) p) [ true ↦ broken_tells s 6 p | false ↦ tt ]
  duty_tells (duties.Step (step_duties.Unmapped s)) p = broken_tells s 6 p
  duty_tells (duties.Send (send_duties.Syn s)) p = λ mapped. or_ack p.profile s (end_at s p) mapped (first_unsent (end_at s p))
  duty_tells (duties.Send (send_duties.Again s)) p = λ mapped. or_ack p.profile s (end_at s p) mapped (first_record (end_at s p))
  duty_tells (duties.Send (send_duties.FastClose s)) p = λ mapped. carried_tells p.profile s (end_at s p) mapped (end_at s p).notices.carrier
  duty_tells (duties.Send (send_duties.Notice s)) p = λ mapped. noted_tells p.profile s (end_at s p) mapped (first_of (end_at s p).notices.queue)
  duty_tells (duties.Send (send_duties.Refuse s)) p = λ mapped. refusal_tells p.profile (reset_options (Some 1)) (end_at s p)
  duty_tells (duties.Send (send_duties.ResetAnswer s)) p = λ mapped. refusal_tells p.profile [] (end_at s p)
  duty_tells (duties.Send (send_duties.Answer s)) p = λ mapped. answer_tells p.profile s (end_at s p) mapped (end_at s p).tcp.due.syn_ack
  duty_tells (duties.Send (send_duties.Resend s)) p = λ mapped.
      (let e : PathEnd = end_at s p in resent_tells p.profile s e mapped (has_records e.tcp) e.modes.owes_third e.notices.fast_closed (is_data_fin_owed e))
  duty_tells (duties.Send (send_duties.BreakReset s reason)) p = λ mapped. resets refl
  duty_tells (duties.Send (send_duties.Reset s)) p = λ mapped. resets refl
  duty_tells (duties.Send (send_duties.ResetNoted s)) p = λ mapped. resets refl
  duty_tells (duties.Send (send_duties.Update s)) p = λ mapped. ack_tells p.profile s (end_at s p) mapped (end_at s p).tcp.send.nxt None
  duty_tells (duties.Send (send_duties.Acknowledge s)) p = λ mapped. ack_tells p.profile s (end_at s p) mapped (end_at s p).tcp.send.nxt None
  duty_tells (duties.Send (send_duties.DataFin s)) p = λ mapped. ack_tells p.profile s (end_at s p) mapped (end_at s p).tcp.send.nxt (end_at s p).sending.known_end
  duty_tells (duties.Send (send_duties.Fin s)) p = λ mapped. fin_tells p.profile s (end_at s p) mapped
  duty_tells (duties.Send (send_duties.SynAck s)) p = λ mapped. opens refl
  duty_tells _ p = tt

  pub each_segment_has_a_data_ack : EachSegmentHasADataAck C
  each_segment_has_a_data_ack p = by p.agenda
    where
      by : (ds : List Duty) → AllTell (first_sends ds p) p
      by [] = tt
      by (d ∷ ds) = duty_tells d p
