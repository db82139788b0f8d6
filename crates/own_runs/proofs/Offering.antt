-- What the mappings of a side map: octets of its file, and with the DATA_FIN at its end. Where it never falls back it tells no infinite mapping, and of
-- no failure.
use Rattle.std.proofs.Common.{◌≡◌, refl, ℕ, ◌+◌, ◌-◌, ◌≤◌, ◌&&◌, ◌==◌, not, Bool, true, false, if◌then◌else◌, Option, Some, None, List, [], ◌∷◌, arith}
use Rattle.std.specs.Option.{IfSome}
use Rattle.std.proofs.lemmas.Bool.{and_parts, eqb-true, not-true}
use Rattle.mptcp_options.specs.declared.capable.CapableKeys.TheVariants.{Sender, WithData}
use Rattle.path_agenda.specs.Words.{first_of}
use Rattle.path_agenda.specs.declared.duty.Duty.{Duty}
use Rattle.path_agenda.specs.declared.duty.SendDuty.{SendDuty}
use Rattle.path_agenda.specs.declared.duty.StepDuty.{StepDuty}
use Rattle.path_agenda.specs.declared.heard.Heard.{Heard}
use Rattle.path_agenda.specs.declared.notice.OwnNotice.{OwnNotice}
use Rattle.path_core.specs.Choices.{is_side_a}
use Rattle.path_core.specs.DataFin.{is_data_fin_owed}
use Rattle.path_core.specs.DssIn.{is_clash}
use Rattle.path_core.specs.DssOut.{bare_mapping, checksum_in, checksum_told, fail_options, fail_beside, data_fin_mapping, piece_mapping, is_first_piece, first_piece_options, piece_options, mapped_options, fin_options, infinite_options, infinite_or, owes_mapping, plain_options, place_numbered}
use Rattle.path_core.specs.Emission.{ack_resent, resend_said, answer_said}
use Rattle.path_core.specs.Emission.{first_unsent, first_record}
use Rattle.path_core.specs.End.{PathEnd}
use Rattle.path_core.specs.Fallback.{breaks_by_ack}
use Rattle.path_core.specs.Looking.{duty_sends}
use Rattle.path_core.specs.Looking.{first_sends, broken_by, heard_sends, unsent_sends, segment_sent}
use Rattle.path_core.specs.Modes.{receives_infinite}
use Rattle.path_core.specs.MpJoin.{is_joined, third_options, join_options}
use Rattle.path_core.specs.OptionsOut.{record_or_ack, ack_said, carried_said, noted_said, syn_ack_said, reset_said, reset_options, syn_options, record_options, key_options, opening_options, capable_options, broken_options, notice_option}
use Rattle.path_core.specs.Profile.{Profile}
use Rattle.path_core.specs.State.{end_at, PathState}
use Rattle.path_core.specs.Treating.{item_of}
use Rattle.path_core.specs.Values.{Carried}
use Rattle.path_segments.specs.Options.{PlainOption}
use Rattle.path_segments.specs.declared.segment.PathMapping.TheVariants.{Bytes, Infinite}
use Rattle.path_segments.specs.declared.segment.PathMapping.TheVariants.{End}
use Rattle.path_segments.specs.declared.segment.PathMapping.{PathMapping}
use Rattle.path_segments.specs.declared.segment.PathOption.TheVariants.{Capable, Dss, Fail, Reset}
use Rattle.path_store.specs.declared.infinite_mapping.InfiniteMapping.{InfiniteMapping}
use Rattle.sides.specs.declared.side.Side.TheVariants.{A, B}
use Rattle.sides.specs.declared.side.Side.{Side}
use Rattle.stream_lanes.proofs.Lists.{Every-nil, Every-push, Every-append}
use Rattle.stream_lanes.specs.Words.{Every}
use Rattle.subflow_send.specs.Records.{Record}
use Rattle.subflow_send.specs.Rules.{is_unsent}
use Rattle.subflow_send.specs.declared.record.RecordKind.TheVariants.{Syn, Data, Fin}
use Rattle.subflow_send.specs.declared.record.RecordKind.{RecordKind}
use Rattle.subflow_tcp.specs.Emitting.{fin_position, is_syn}
use Rattle.subflow_tcp.specs.State.{has_records}
use Rattle.world_laws.proofs.Lanes.Records.{every_at, every_find}
use Rattle.own_runs.proofs.Speaking.{ToSend}

pub every_one : {X : Type 0} {P : X → Type 0} (x : X) → P x → Every P (x ∷ [])
every_one {X} {P} x h = Every-push {xs = []} x (Every-nil P) h

pub every_two : {X : Type 0} {P : X → Type 0} (x y : X) → P x → P y → Every P (x ∷ y ∷ [])
every_two {X} {P} x y h g = Every-push {xs = x ∷ []} y (every_one x h) g

-- no infinite mapping is told
abbrev pub NoLines : Side → ℕ → ℕ → Type 0
NoLines s place position = ⊥

-- and each mapping has what is asked of it, an infinite one too; MP_FAIL is told only where so much holds
module _ (limit : Side → ℕ) (Maps : Side → PathMapping ℕ → Type 0) (Lines : Side → ℕ → ℕ → Type 0) (Fails : Type 0) where
  -- of a side whose file has so many octets
  abbrev pub MappingFine : Side → PathMapping ℕ → Type 0
  MappingFine s (Bytes place position len fin checksum) = (1 ≤ len) × (fin ≡ false) × (place + len ≤ limit s) × Maps s (Bytes place position len fin checksum)
  MappingFine s (End place checksum) = (place ≡ limit s) × Maps s (End place checksum)
  MappingFine s (Infinite place position) = Lines s place position

  abbrev pub OptionFine : Side → PlainOption → Type 0
  OptionFine s (Dss next mapping) = IfSome mapping (MappingFine s)
  OptionFine s (Capable flag_a flag_c (WithData sender receiver len checksum)) = (1 ≤ len) × (len ≤ limit s) × Maps s (Bytes 0 1 len false checksum)
  OptionFine s (Fail place) = Fails
  OptionFine s _ = Unit {0}

  abbrev pub AllFine : Side → List PlainOption → Type 0
  AllFine s options = Every (OptionFine s) options

  -- a record of octets maps octets of the file, and as long as A may send no DSS the first ones from place 0 on
  abbrev pub FirstFine : Profile → Side → Bool → Record → Type 0
  FirstFine c s clear r = is_side_a s ≡ true → clear ≡ false → r.pos ≡ 1 → Maps s (Bytes 0 1 r.mapping.length false (checksum_told c r.mapping.checksum))

  abbrev pub RecordFine : Profile → Side → Bool → RecordKind → Record → Type 0
  RecordFine c s clear Syn r = Unit {0}
  RecordFine c s clear Data r =
      (1 ≤ r.mapping.length) × (place_numbered c s r.mapping.number + r.mapping.length ≤ limit s) × Maps s (piece_mapping c s r) × FirstFine c s clear r
  RecordFine c s clear Fin r = Unit {0}

  -- in plain TCP the infinite mapping of its position may be told beside it
  abbrev pub PlainFine : Side → Bool → RecordKind → Record → Type 0
  PlainFine s identity kind r = identity ≡ true → is_syn kind ≡ false → Lines s (r.pos - 1) r.pos

  pub record EndFine (c : Profile) (s : Side) (e : PathEnd) : Type 0 where
    pub fins : e.modes.identity ≡ true → Lines s (fin_position e.tcp.send - 1) (fin_position e.tcp.send)
    pub infinite : IfSome e.modes.own_infinite (λ m. Lines s m.place m.position)
    pub told : IfSome e.modes.failed_mapping (λ _. Fails)
    pub telling : IfSome e.treated.failed_mapping (λ _. Fails)
    pub known : IfSome e.sending.known_end (λ n. n ≡ limit s)
    pub ends : (place : ℕ) → place ≡ limit s → Maps s (End place (checksum_told c (checksum_in c (bare_mapping c s place 0 1) [])))
    pub records : Every (λ r. RecordFine c s e.modes.clear r.kind r × PlainFine s e.modes.identity r.kind r) e.tcp.send.records

  none_fine : (s : Side) → AllFine s []
  none_fine s = Every-nil (OptionFine s)

  reset_fine : (s : Side) (o : Option ℕ) → AllFine s (reset_options o)
  reset_fine s None = none_fine s
  reset_fine s (Some reason) = every_one (Reset false reason) tt

  fail_fine : (s : Side) (failed : Option ℕ) → IfSome failed (λ _. Fails) → AllFine s (fail_options failed)
  fail_fine s None lax = none_fine s
  fail_fine s (Some place) lax = every_one (Fail place) lax

  broken_fine : (s : Side) (failed : Option ℕ) → IfSome failed (λ _. Fails) → (reason : Option ℕ) → AllFine s (broken_options failed reason)
  broken_fine s failed lax None = none_fine s
  broken_fine s failed lax (Some reason) = Every-append {xs = fail_options failed} (fail_fine s failed lax) (reset_fine s (Some reason))

  -- the infinite mapping of an end that fell back
  plain_tells : (s : Side) (position : ℕ) (e : PathEnd) → Lines s (position - 1) position → AllFine s (plain_options position e)
  plain_tells s position e lax = by (owes_mapping e)
    where
      by : (b : Bool) → AllFine s (if b then Dss None (Some (Infinite (position - 1) position)) ∷ [] else [])
      by true = every_one _ lax
      by false = none_fine s

  infinite_tells : (s : Side) (mapping : InfiniteMapping) (e : PathEnd) → Lines s mapping.place mapping.position → AllFine s (infinite_options mapping e)
  infinite_tells s mapping e lax = by (owes_mapping e)
    where
      by : (b : Bool) → AllFine s (Dss (Some e.receiving.next) (if b then Some (Infinite mapping.place mapping.position) else None) ∷ [])
      by true = every_one _ lax
      by false = every_one _ tt

  -- by how it sends
  either_tells : (s : Side) (position : ℕ) (options : List PlainOption) (e : PathEnd) → (e.modes.identity ≡ true → Lines s (position - 1) position)
      → IfSome e.modes.own_infinite (λ m. Lines s m.place m.position) → AllFine s options
      → AllFine s (if e.modes.identity then plain_options position e else infinite_or e.modes.own_infinite options e)
  either_tells s position options e plain endless fine = by e.modes.identity refl e.modes.own_infinite endless
    where
      by : (b : Bool) → e.modes.identity ≡ b → (o : Option InfiniteMapping) → IfSome o (λ m. Lines s m.place m.position)
          → AllFine s (if b then plain_options position e else infinite_or o options e)
      by true is o lax = plain_tells s position e (plain is)
      by false is None lax = fine
      by false is (Some mapping) lax = infinite_tells s mapping e lax

  note_fine : (s : Side) (notice : OwnNotice) (e : PathEnd) → OptionFine s (notice_option notice e.modes)
  note_fine s (OwnNotice.AddAddr id) e = tt
  note_fine s _ e = tt

  module _ (c : Profile) (s : Side) (e : PathEnd) (h : EndFine c s e) where
    end_fine : (fin : Option ℕ) → IfSome fin (λ n. n ≡ limit s) → IfSome (data_fin_mapping c s fin) (MappingFine s)
    end_fine None is = tt
    end_fine (Some place) is = (is, h.ends place is)

    beside_fine : (fin : Option ℕ) → AllFine s (fail_beside fin e.modes)
    beside_fine (Some fin) = none_fine s
    beside_fine None = by (receives_infinite e.modes.mode)
      where
        by : (b : Bool) → AllFine s (fail_options (if b then None else e.modes.failed_mapping))
        by true = none_fine s
        by false = fail_fine s e.modes.failed_mapping h.told

    key_fine : (t : Side) (o : Option ℕ) → AllFine s (key_options c t o e)
    key_fine A (Some key) = every_one _ tt
    key_fine A None = none_fine s
    key_fine B o = none_fine s

    opening_fine : AllFine s (opening_options c s e)
    opening_fine = by e.modes.owes_third
      where
        by : (b : Bool) → AllFine s (if b then third_options e.modes else key_options c s e.modes.peer_key e)
        by true = every_one _ tt
        by false = key_fine s e.modes.peer_key

    ack_fine : (position : ℕ) (fin : Option ℕ) → IfSome fin (λ n. n ≡ limit s) → AllFine s (ack_said c s position fin e).options
    ack_fine position fin is = by e.modes.identity e.modes.clear
      where
        by : (fell clear : Bool) → AllFine s (if fell then [] else (if clear then Dss (Some e.receiving.next) (data_fin_mapping c s fin) ∷ fail_beside fin e.modes else opening_options c s e))
        by true clear = none_fine s
        by false true = Every-append {xs = Dss (Some e.receiving.next) (data_fin_mapping c s fin) ∷ []} (every_one _ (end_fine fin is)) (beside_fine fin)
        by false false = opening_fine

    plain_fine : AllFine s (ack_said c s e.tcp.send.nxt None e).options
    plain_fine = ack_fine e.tcp.send.nxt None tt

    syn_fine : AllFine s (syn_options c s e)
    syn_fine = by s (is_joined c)
      where
        by : (t : Side) (joined : Bool) → AllFine s (if joined then join_options c t e.modes else capable_options c t e)
        by A true = every_one _ tt
        by A false = every_one _ tt
        by B true = every_one _ tt
        by B false = answered (e.modes.capable_asked && not e.modes.identity)
          where
            answered : (b : Bool) → AllFine s (if b then Capable c.spelling.checksums false (Sender e.modes.own_key) ∷ [] else [])
            answered true = every_one _ tt
            answered false = none_fine s

    first_fine : (o : Option ℕ) (r : Record) → RecordFine c s e.modes.clear Data r → is_first_piece s r e ≡ true → AllFine s (first_piece_options c o r e)
    first_fine (Some key) r is first =
        let of_a = and_parts (is_side_a s) (not e.modes.clear && r.pos == 1) first in
        let unclear = and_parts (not e.modes.clear) (r.pos == 1) of_a.1 in
        every_one _ (is.0, let within = is.1 in omega (arith, within), is.3 of_a.0 (not-true e.modes.clear unclear.0) (eqb-true r.pos 1 unclear.1))
    first_fine None r is first = none_fine s

    piece_fine : (r : Record) → RecordFine c s e.modes.clear Data r → PlainFine s e.modes.identity Data r → AllFine s (piece_options c s r e)
    piece_fine r is plain = either_tells s r.pos (mapped_options c s r e) e (λ identity. plain identity refl) h.infinite (by (is_first_piece s r e) refl)
      where
        by : (b : Bool) → is_first_piece s r e ≡ b → AllFine s (if b then first_piece_options c e.modes.peer_key r e else Dss (Some e.receiving.next) (Some (piece_mapping c s r)) ∷ [])
        by true first = first_fine e.modes.peer_key r is first
        by false first = every_one _ (is.0, refl, is.1, is.2)

    fin_fine : (position : ℕ) → (e.modes.identity ≡ true → Lines s (position - 1) position) → AllFine s (fin_options position e)
    fin_fine position plain = either_tells s position (Dss (Some e.receiving.next) None ∷ []) e plain h.infinite (every_one _ tt)

    kind_fine : (kind : RecordKind) (r : Record) → RecordFine c s e.modes.clear kind r → PlainFine s e.modes.identity kind r → AllFine s (record_options kind c s r e)
    kind_fine Syn r is plain = syn_fine
    kind_fine Data r is plain = piece_fine r is plain
    kind_fine Fin r is plain = fin_fine r.pos (λ identity. plain identity refl)

    record_fine : (o : Option Record) → IfSome o (λ r. RecordFine c s e.modes.clear r.kind r × PlainFine s e.modes.identity r.kind r) → AllFine s (record_or_ack c s o e).options
    record_fine None is = plain_fine
    record_fine (Some r) is = kind_fine r.kind r is.0 is.1

    unsent_fine : AllFine s (record_or_ack c s (first_unsent e) e).options
    unsent_fine = record_fine (first_unsent e) (every_find is_unsent e.tcp.send.records h.records)

    first_record_fine : AllFine s (record_or_ack c s (first_record e) e).options
    first_record_fine = record_fine (first_record e) (every_at 0 e.tcp.send.records h.records)

    carried_fine : (o : Option ℕ) → AllFine s (carried_said c s o e).options
    carried_fine None = plain_fine
    carried_fine (Some key) = every_two _ _ tt tt

    noted_fine : (o : Option OwnNotice) → AllFine s (noted_said c s o e).options
    noted_fine None = plain_fine
    noted_fine (Some notice) = every_two _ _ tt (note_fine s notice e)

    own_reset_fine : (reason : Option ℕ) → AllFine s (reset_said c reason e).options
    own_reset_fine reason = by e.modes.identity
      where
        by : (b : Bool) → AllFine s (if b then [] else broken_options e.treated.failed_mapping reason)
        by true = none_fine s
        by false = broken_fine s e.treated.failed_mapping h.telling reason

    answer_fine : AllFine s (answer_said c s e).options
    answer_fine = by e.tcp.due.syn_ack
      where
        by : (b : Bool) → AllFine s (if b then syn_ack_said c s e else ack_said c s e.tcp.send.nxt None e).options
        by true = syn_fine
        by false = plain_fine

    resent_fine : AllFine s (ack_resent c s e).options
    resent_fine = by e.modes.owes_third e.notices.fast_closed (is_data_fin_owed e)
      where
        by : (third closed owes : Bool) → AllFine s (if third then ack_said c s e.tcp.send.nxt None e else (if closed then carried_said c s e.notices.carrier e
            else (if owes then ack_said c s e.tcp.send.nxt e.sending.known_end e else ack_said c s (e.tcp.send.una - 1) None e))).options
        by true closed owes = plain_fine
        by false true owes = carried_fine e.notices.carrier
        by false false true = ack_fine e.tcp.send.nxt e.sending.known_end h.known
        by false false false = ack_fine (e.tcp.send.una - 1) None tt

    resend_fine : AllFine s (resend_said c s e).options
    resend_fine = by (has_records e.tcp)
      where
        by : (b : Bool) → AllFine s (if b then record_or_ack c s (first_record e) e else ack_resent c s e).options
        by true = first_record_fine
        by false = resent_fine

  -- ---- by what is to be done

  module _ (p : PathState Carried) (h : (s : Side) → EndFine p.profile s (end_at s p)) where
    abbrev pub SendsFine : ToSend → Type 0
    SendsFine t = AllFine t.from (segment_sent p t).options

    unless_fine : (b : Bool) (o : Option ToSend) → IfSome o SendsFine → IfSome (if b then None else o) SendsFine
    unless_fine true o is = tt
    unless_fine false o is = is

    only_fine : (b : Bool) (o : Option ToSend) → IfSome o SendsFine → IfSome (if b then o else None) SendsFine
    only_fine true o is = is
    only_fine false o is = tt

    break_fine : (s : Side) (reason : ℕ) → IfSome (broken_by s reason p) SendsFine
    break_fine s reason = unless_fine (end_at s p).treated.asked _ (own_reset_fine p.profile s (end_at s p) (h s) (Some reason))

    heard_fine : (s : Side) (o : Option Heard) → IfSome (heard_sends s o p) SendsFine
    heard_fine s (Some (Heard.Mapping fin)) = only_fine (is_clash (end_at s p)) _ (break_fine s 1)
    heard_fine s _ = tt

    data_fine : (s : Side) (o : Option Record) → IfSome (unsent_sends s o) SendsFine
    data_fine s None = tt
    data_fine s (Some unsent) = unsent_fine p.profile s (end_at s p) (h s)

    pub duty_fine : (d : Duty) → IfSome (duty_sends d p) SendsFine
    duty_fine (Duty.Send (SendDuty.Update s)) = plain_fine p.profile s (end_at s p) (h s)
    duty_fine (Duty.Send (SendDuty.Acknowledge s)) = plain_fine p.profile s (end_at s p) (h s)
    duty_fine (Duty.Send (SendDuty.Syn s)) = unsent_fine p.profile s (end_at s p) (h s)
    duty_fine (Duty.Send (SendDuty.FastClose s)) = carried_fine p.profile s (end_at s p) (h s) (end_at s p).notices.carrier
    duty_fine (Duty.Send (SendDuty.Notice s)) = noted_fine p.profile s (end_at s p) (h s) (first_of (end_at s p).notices.queue)
    duty_fine (Duty.Send (SendDuty.DataFin s)) = ack_fine p.profile s (end_at s p) (h s) (end_at s p).tcp.send.nxt (end_at s p).sending.known_end (h s).known
    duty_fine (Duty.Send (SendDuty.Fin s)) = fin_fine p.profile s (end_at s p) (h s) (fin_position (end_at s p).tcp.send) (h s).fins
    duty_fine (Duty.Send (SendDuty.SynAck s)) = syn_fine p.profile s (end_at s p) (h s)
    duty_fine (Duty.Send (SendDuty.Refuse s)) = reset_fine s (Some 1)
    duty_fine (Duty.Send (SendDuty.Again s)) = first_record_fine p.profile s (end_at s p) (h s)
    duty_fine (Duty.Send (SendDuty.Answer s)) = answer_fine p.profile s (end_at s p) (h s)
    duty_fine (Duty.Send (SendDuty.ResetAnswer s)) = none_fine s
    duty_fine (Duty.Send (SendDuty.Resend s)) = resend_fine p.profile s (end_at s p) (h s)
    duty_fine (Duty.Send (SendDuty.BreakReset s reason)) = own_reset_fine p.profile s (end_at s p) (h s) (Some reason)
    duty_fine (Duty.Send (SendDuty.Reset s)) = own_reset_fine p.profile s (end_at s p) (h s) None
    duty_fine (Duty.Send (SendDuty.ResetNoted s)) = own_reset_fine p.profile s (end_at s p) (h s) None
    duty_fine (Duty.Step (StepDuty.Data s)) = data_fine s (first_unsent (end_at s p))
    duty_fine (Duty.Step (StepDuty.Heard s index)) = heard_fine s (item_of index (end_at s p))
    duty_fine (Duty.Step (StepDuty.PlainAck s)) = only_fine (breaks_by_ack p.profile (end_at s p)) _ (break_fine s 6)
    duty_fine (Duty.Step (StepDuty.Unmapped s)) = break_fine s 6
    duty_fine d = tt

    pub first_fine_sent : (ds : List Duty) → IfSome (first_sends ds p) SendsFine
    first_fine_sent [] = tt
    first_fine_sent (d ∷ ds) = duty_fine d
