-- Which segments show keys: both keys A's alone, no SYN and no reset; and data is beside them on the path that opens the connection alone.
use Rattle.std.proofs.Common.{◌≡◌, refl, sym, ap, ◌∙◌, ◌⊎◌, inl, inr, ⊎_elim, ◌-◌, ◌&&◌, ◌==◌, not, Bool, true, false, if◌then◌else◌, ℕ, Option, Some, None, List, [], ◌∷◌}
use Rattle.std.specs.List.{list_any}
use Rattle.std.specs.Option.{IfSome}
use Rattle.std.proofs.lemmas.Bool.{and_parts, false≢true}
use Rattle.path_agenda.specs.Words.{first_of}
use Rattle.path_agenda.specs.declared.duty.Duty.{Duty}
use Rattle.path_agenda.specs.declared.duty.SendDuty.{SendDuty}
use Rattle.path_agenda.specs.declared.duty.StepDuty.{StepDuty}
use Rattle.path_agenda.specs.declared.heard.Heard.{Heard}
use Rattle.path_agenda.specs.declared.notice.OwnNotice.{OwnNotice}
use Rattle.path_core.specs.Choices.{is_side_a}
use Rattle.path_core.specs.DataFin.{is_data_fin_owed}
use Rattle.path_core.specs.DssIn.{is_clash}
use Rattle.path_core.specs.DssOut.{data_fin_mapping, fail_beside, fail_options, fin_options, first_piece_options, infinite_or, is_first_piece, mapped_options, owes_mapping, piece_mapping, piece_options, plain_options}
use Rattle.path_core.specs.Emission.{ack_resent, answer_said, first_record, first_unsent, resend_said}
use Rattle.path_core.specs.End.{PathEnd}
use Rattle.path_core.specs.Fallback.{breaks_by_ack}
use Rattle.path_core.specs.Looking.{broken_by, duty_sends, first_sends, heard_sends, segment_sent, unsent_sends}
use Rattle.path_core.specs.MpJoin.{is_joined, join_options, third_options}
use Rattle.path_core.specs.OptionsOut.{ack_options, ack_said, broken_options, capable_options, carried_said, key_options, noted_said, record_options, record_or_ack, record_said, reset_said, syn_ack_said, syn_options}
use Rattle.path_core.specs.Profile.{Profile}
use Rattle.path_core.specs.State.{PathState, end_at}
use Rattle.path_core.specs.Treating.{item_of}
use Rattle.path_core.specs.Values.{Carried}
use Rattle.path_segments.specs.Options.{PlainOption}
use Rattle.path_segments.specs.Spelled.{PlainSegment}
use Rattle.path_segments.specs.declared.segment.PathOption.TheVariants.{Dss}
use Rattle.sides.specs.declared.side.Side.TheVariants.{A, B}
use Rattle.sides.specs.declared.side.Side.{Side}
use Rattle.stream_lanes.specs.Words.{Every}
use Rattle.subflow_send.specs.Records.{Record}
use Rattle.subflow_send.specs.Rules.{is_unsent}
use Rattle.subflow_send.specs.declared.record.RecordKind.TheVariants.{Data, Fin, Syn}
use Rattle.subflow_send.specs.declared.record.RecordKind.{RecordKind}
use Rattle.subflow_tcp.specs.Emitting.{is_syn}
use Rattle.subflow_tcp.specs.State.{has_records}
use Rattle.world_laws.proofs.Lanes.Records.{every_at, every_find}
use Rattle.own_runs.specs.KeysShown.{maps_key, shows_keys}
use Rattle.own_runs.proofs.KeyedPieces.{KindNeeds, Needs}
use Rattle.own_runs.proofs.Speaking.{ToSend}

is_a : (s : Side) → is_side_a s ≡ true → s ≡ A
is_a A is = refl
is_a B is = absurd (false≢true is)

-- of a side on a path
pub record ShowsSo (c : Profile) (s : Side) (options : List PlainOption) : Type 0 where
  pub side : s ≡ A
  pub first : list_any maps_key options ≡ true → is_joined c ≡ false

abbrev pub Shows : Profile → Side → PlainSegment → Type 0
Shows c s sg = (list_any shows_keys sg.options ≡ false) ⊎ ((sg.syn ≡ false) × (sg.rst ≡ false) × ShowsSo c s sg.options)

-- where A may send a DSS on a path that joins
abbrev pub IsClear : Profile → Side → PathEnd → Type 0
IsClear c s e = is_side_a s ≡ true → is_joined c ≡ true → e.modes.clear ≡ true

module _ (c : Profile) (s : Side) (e : PathEnd) where
  abbrev None_in : List PlainOption → Type 0
  None_in options = list_any shows_keys options ≡ false

  abbrev Either : List PlainOption → Type 0
  Either options = None_in options ⊎ ShowsSo c s options

  pick_none : (b : Bool) (options : List PlainOption) → None_in options → None_in (if b then options else [])
  pick_none true options none = none
  pick_none false options none = refl

  keys_shown : (t : Side) → s ≡ t → (o : Option ℕ) → Either (key_options c t o e)
  keys_shown A of_a (Some peer) = inr (record { side = of_a; first = λ is. absurd (false≢true is) })
  keys_shown A of_a None = inl refl
  keys_shown B of_b o = inl refl

  failed_none : (o : Option ℕ) → None_in (fail_options o)
  failed_none None = refl
  failed_none (Some place) = refl

  beside_none : (fin : Option ℕ) → None_in (fail_beside fin e.modes)
  beside_none (Some fin) = refl
  beside_none None = failed_none _

  ack_shown : (fin : Option ℕ) → Either (ack_options c s fin e)
  ack_shown fin = by e.modes.identity e.modes.clear e.modes.owes_third
    where
      by : (plain clear third : Bool) → Either (if plain then [] else (if clear then Dss (Some e.receiving.next) (data_fin_mapping c s fin) ∷ fail_beside fin e.modes
          else (if third then third_options e.modes else key_options c s e.modes.peer_key e)))
      by true clear third = inl refl
      by false true third = inl (beside_none fin)
      by false false true = inl refl
      by false false false = keys_shown s refl e.modes.peer_key

  syn_none : None_in (syn_options c s e)
  syn_none = by (is_joined c) s
    where
      by : (b : Bool) (t : Side) → None_in (if b then join_options c t e.modes else capable_options c t e)
      by true A = refl
      by true B = refl
      by false A = refl
      by false B = pick_none (e.modes.capable_asked && not e.modes.identity) _ refl

  plain_none : (position : ℕ) → None_in (plain_options position e)
  plain_none position = pick_none (owes_mapping e) _ refl

  fin_none : (position : ℕ) → None_in (fin_options position e)
  fin_none position = by e.modes.identity e.modes.own_infinite
    where
      by : (b : Bool) (o : _) → None_in (if b then plain_options position e else infinite_or o (Dss (Some e.receiving.next) None ∷ []) e)
      by true o = plain_none position
      by false None = refl
      by false (Some mapping) = refl

  piece_shown : (r : Record) → IsClear c s e → Either (piece_options c s r e)
  piece_shown r clear = by e.modes.identity e.modes.own_infinite
    where
      unjoined : (b : Bool) → is_joined c ≡ b → is_first_piece s r e ≡ true → is_joined c ≡ false
      unjoined false none first = none
      unjoined true joins first =
          let own = and_parts (is_side_a s) (not e.modes.clear && (r.pos == 1)) first in
          absurd (false≢true (sym (ap not (clear own.0 joins)) ∙ (and_parts (not e.modes.clear) (r.pos == 1) own.1).0))

      first_shown : (o : Option ℕ) → is_first_piece s r e ≡ true → Either (first_piece_options c o r e)
      first_shown None first = inl refl
      first_shown (Some peer) first = inr (record { side = is_a s (and_parts (is_side_a s) (not e.modes.clear && (r.pos == 1)) first).0; first = λ is. unjoined (is_joined c) refl first })

      mapped : (b : Bool) → is_first_piece s r e ≡ b → Either (if b then first_piece_options c e.modes.peer_key r e else Dss (Some e.receiving.next) (Some (piece_mapping c s r)) ∷ [])
      mapped true first = first_shown e.modes.peer_key first
      mapped false first = inl refl

      by : (b : Bool) (o : _) → Either (if b then plain_options r.pos e else infinite_or o (mapped_options c s r e) e)
      by true o = inl (plain_none r.pos)
      by false None = mapped (is_first_piece s r e) refl
      by false (Some mapping) = inl refl

  -- ---- segments

  record_shows : (r : Record) → Needs (IsClear c s e) r → Shows c s (record_said c s r e)
  record_shows r need = by r.kind need
    where
      by : (kind : RecordKind) → KindNeeds (IsClear c s e) kind → None_in (record_options kind c s r e) ⊎ ((is_syn kind ≡ false) × (false ≡ false) × ShowsSo c s (record_options kind c s r e))
      by Syn need = inl syn_none
      by Data need = ⊎_elim (λ none. inl none) (λ so. inr (refl, refl, so)) (piece_shown r need)
      by Fin need = inl (fin_none r.pos)

  ack_shows : (position : ℕ) (fin : Option ℕ) → Shows c s (ack_said c s position fin e)
  ack_shows position fin = ⊎_elim (λ none. inl none) (λ so. inr (refl, refl, so)) (ack_shown fin)

  reset_shows : (reason : Option ℕ) → Shows c s (reset_said c reason e)
  reset_shows reason = by e.modes.identity reason e.treated.failed_mapping
    where
      by : (b : Bool) (reason failed : Option ℕ) → None_in (if b then [] else broken_options failed reason) ⊎ ((false ≡ false) × (true ≡ false) × ShowsSo c s (if b then [] else broken_options failed reason))
      by true reason failed = inl refl
      by false None failed = inl refl
      by false (Some reason) None = inl refl
      by false (Some reason) (Some place) = inl refl

  noted_shows : (o : Option OwnNotice) → Shows c s (noted_said c s o e)
  noted_shows None = ack_shows e.tcp.send.nxt None
  noted_shows (Some (OwnNotice.AddAddr id)) = inl refl
  noted_shows (Some (OwnNotice.AddEcho id address port)) = inl refl
  noted_shows (Some (OwnNotice.Removes id)) = inl refl
  noted_shows (Some (OwnNotice.Prio backup)) = inl refl

  closing_shows : (o : Option ℕ) → Shows c s (carried_said c s o e)
  closing_shows None = ack_shows e.tcp.send.nxt None
  closing_shows (Some key) = inl refl

  module _ (h : Every (Needs (IsClear c s e)) e.tcp.send.records) where
    either_shows : (o : Option Record) → IfSome o (Needs (IsClear c s e)) → Shows c s (record_or_ack c s o e)
    either_shows None is = ack_shows e.tcp.send.nxt None
    either_shows (Some r) is = record_shows r is

    unsent_shows : Shows c s (record_or_ack c s (first_unsent e) e)
    unsent_shows = either_shows (first_unsent e) (every_find is_unsent e.tcp.send.records h)

    again_shows : Shows c s (record_or_ack c s (first_record e) e)
    again_shows = either_shows (first_record e) (every_at 0 e.tcp.send.records h)

    answer_shows : Shows c s (answer_said c s e)
    answer_shows = by e.tcp.due.syn_ack
      where
        by : (b : Bool) → Shows c s (if b then syn_ack_said c s e else ack_said c s e.tcp.send.nxt None e)
        by true = inl syn_none
        by false = ack_shows e.tcp.send.nxt None

    resent_shows : Shows c s (ack_resent c s e)
    resent_shows = by e.modes.owes_third e.notices.fast_closed (is_data_fin_owed e)
      where
        by : (third closed owes : Bool) → Shows c s (if third then ack_said c s e.tcp.send.nxt None e else (if closed then carried_said c s e.notices.carrier e
            else (if owes then ack_said c s e.tcp.send.nxt e.sending.known_end e else ack_said c s (e.tcp.send.una - 1) None e)))
        by true closed owes = ack_shows e.tcp.send.nxt None
        by false true owes = closing_shows e.notices.carrier
        by false false true = ack_shows e.tcp.send.nxt e.sending.known_end
        by false false false = ack_shows (e.tcp.send.una - 1) None

    resend_shows : Shows c s (resend_said c s e)
    resend_shows = by (has_records e.tcp)
      where
        by : (b : Bool) → Shows c s (if b then record_or_ack c s (first_record e) e else ack_resent c s e)
        by true = again_shows
        by false = resent_shows

-- ---- by what is to be done

module _ (p : PathState Carried) (h : (s : Side) → Every (Needs (IsClear p.profile s (end_at s p))) (end_at s p).tcp.send.records) where
  abbrev pub SendShows : ToSend → Type 0
  SendShows t = Shows p.profile t.from (segment_sent p t)

  unless_shows : (b : Bool) (o : Option ToSend) → IfSome o SendShows → IfSome (if b then None else o) SendShows
  unless_shows true o is = tt
  unless_shows false o is = is

  only_shows : (b : Bool) (o : Option ToSend) → IfSome o SendShows → IfSome (if b then o else None) SendShows
  only_shows true o is = is
  only_shows false o is = tt

  break_shows : (s : Side) (reason : ℕ) → IfSome (broken_by s reason p) SendShows
  break_shows s reason = unless_shows (end_at s p).treated.asked _ (reset_shows p.profile s (end_at s p) (Some reason))

  heard_shows : (s : Side) (o : Option Heard) → IfSome (heard_sends s o p) SendShows
  heard_shows s (Some (Heard.Mapping fin)) = only_shows (is_clash (end_at s p)) _ (break_shows s 1)
  heard_shows s _ = tt

  data_shows : (s : Side) (o : Option Record) → IfSome (unsent_sends s o) SendShows
  data_shows s None = tt
  data_shows s (Some unsent) = unsent_shows p.profile s (end_at s p) (h s)

  send_shows : (d : SendDuty) → IfSome (duty_sends (Duty.Send d) p) SendShows
  send_shows (SendDuty.Update s) = ack_shows p.profile s (end_at s p) (end_at s p).tcp.send.nxt None
  send_shows (SendDuty.Syn s) = unsent_shows p.profile s (end_at s p) (h s)
  send_shows (SendDuty.FastClose s) = closing_shows p.profile s (end_at s p) (end_at s p).notices.carrier
  send_shows (SendDuty.Notice s) = noted_shows p.profile s (end_at s p) (first_of (end_at s p).notices.queue)
  send_shows (SendDuty.DataFin s) = ack_shows p.profile s (end_at s p) (end_at s p).tcp.send.nxt (end_at s p).sending.known_end
  send_shows (SendDuty.Fin s) = inl (fin_none p.profile s (end_at s p) _)
  send_shows (SendDuty.SynAck s) = inl (syn_none p.profile s (end_at s p))
  send_shows (SendDuty.Refuse s) = inl refl
  send_shows (SendDuty.Acknowledge s) = ack_shows p.profile s (end_at s p) (end_at s p).tcp.send.nxt None
  send_shows (SendDuty.Again s) = again_shows p.profile s (end_at s p) (h s)
  send_shows (SendDuty.Answer s) = answer_shows p.profile s (end_at s p) (h s)
  send_shows (SendDuty.ResetAnswer s) = inl refl
  send_shows (SendDuty.Resend s) = resend_shows p.profile s (end_at s p) (h s)
  send_shows (SendDuty.BreakReset s reason) = reset_shows p.profile s (end_at s p) (Some reason)
  send_shows (SendDuty.Reset s) = reset_shows p.profile s (end_at s p) None
  send_shows (SendDuty.ResetNoted s) = reset_shows p.profile s (end_at s p) None

  step_shows : (d : StepDuty) → IfSome (duty_sends (Duty.Step d) p) SendShows
  step_shows (StepDuty.Data s) = data_shows s (first_unsent (end_at s p))
  step_shows (StepDuty.Heard s index) = heard_shows s (item_of index (end_at s p))
  step_shows (StepDuty.PlainAck s) = only_shows (breaks_by_ack p.profile (end_at s p)) _ (break_shows s 6)
  step_shows (StepDuty.Unmapped s) = break_shows s 6
  step_shows _ = tt

  duty_shows : (d : Duty) → IfSome (duty_sends d p) SendShows
  duty_shows (Duty.Send d) = send_shows d
  duty_shows (Duty.Step d) = step_shows d
  duty_shows _ = tt

  pub first_shows : (ds : List Duty) → IfSome (first_sends ds p) SendShows
  first_shows [] = tt
  first_shows (d ∷ ds) = duty_shows d
