-- A segment with payload or with the DATA_FIN is no SYN and no reset. Nor is one with another mapping a reset.
use Rattle.std.proofs.Common.{◌≡◌, refl, sym, ap, ◌∙◌, subst, ℕ, ◌⊎◌, inl, inr, ⊎_elim, ◌-◌, ◌&&◌, ◌||◌, not, Bool, true, false, if◌then◌else◌, Option, Some, None, List, [], ◌∷◌}
use Rattle.std.specs.List.{list_any}
use Rattle.std.specs.Option.{IfSome}
use Rattle.std.proofs.lemmas.Bool.{both_ways, false≢true, or_cases, or_left, or_right}
use Rattle.path_agenda.specs.Words.{first_of}
use Rattle.path_agenda.specs.declared.duty.Duty.{Duty}
use Rattle.path_agenda.specs.declared.duty.SendDuty.{SendDuty}
use Rattle.path_agenda.specs.declared.duty.StepDuty.{StepDuty}
use Rattle.path_agenda.specs.declared.heard.Heard.{Heard}
use Rattle.path_agenda.specs.declared.notice.OwnNotice.{OwnNotice}
use Rattle.path_core.specs.DataFin.{is_data_fin_owed}
use Rattle.path_core.specs.DssIn.{is_clash}
use Rattle.path_core.specs.Emission.{ack_resent, answer_said, first_record, first_unsent, resend_said}
use Rattle.path_core.specs.End.{PathEnd}
use Rattle.path_core.specs.Fallback.{breaks_by_ack}
use Rattle.path_core.specs.Looking.{broken_by, duty_sends, first_sends, heard_sends, segment_sent, unsent_sends}
use Rattle.path_core.specs.OptionsOut.{ack_said, broken_options, capable_options, carried_said, noted_said, own_reset, record_or_ack, reset_said, segment_of, syn_ack_said, syn_options}
use Rattle.path_core.specs.MpJoin.{is_joined, join_options}
use Rattle.path_core.specs.Profile.{Profile}
use Rattle.path_core.specs.State.{PathState, end_at, path_of}
use Rattle.path_core.specs.Octets.{octets}
use Rattle.path_core.specs.Treating.{item_of}
use Rattle.path_core.specs.Values.{Carried}
use Rattle.path_segments.specs.Options.{PlainOption}
use Rattle.path_segments.specs.Spelled.{PlainSegment}
use Rattle.path_segments.specs.declared.segment.PathOption.TheVariants.{Capable, Dss}
use Rattle.mptcp_options.specs.declared.capable.CapableKeys.TheVariants.{WithData}
use Rattle.sides.specs.declared.side.Side.TheVariants.{A, B}
use Rattle.sides.specs.declared.side.Side.{Side}
use Rattle.subflow_send.specs.Records.{Record}
use Rattle.subflow_tcp.specs.State.{has_records}
use Rattle.world_laws.specs.Actors.{Actor}
use Rattle.world_laws.specs.Openings.{Start, opened_world}
use Rattle.world_laws.specs.Promises.{HasRoom, NumbersFit}
use Rattle.world_laws.specs.Worlds.{Turn, WorldState, world_run}
use Rattle.world_laws.specs.declared.member.Member.TheVariants.{App, Path}
use Rattle.own_runs.proofs.ComesTimes.{also_shown}
use Rattle.own_runs.proofs.InTime.{has_octets, is_bearing, tells_end}
use Rattle.own_runs.proofs.Moments.{MemberAlso, MemberSpeaks, PathAlso, PathSpeaks, Spoken, WorldAlso, valued}
use Rattle.own_runs.proofs.Speaking.{ToSend}
use Rattle.world_laws.proofs.Promises.Made.{run_fresh}
use Rattle.path_core.specs.Values.{values}

-- an option with a mapping, or with a Data ACK
abbrev pub is_mapping : PlainOption → Bool
is_mapping (Dss next mapping) = true
is_mapping (Capable flag_a flag_c (WithData sender receiver len checksum)) = true
is_mapping _ = false

-- payload, or such an option
abbrev pub says_more : PlainSegment → Bool
says_more sg = has_octets sg.payload || list_any is_mapping sg.options

-- it is no reset, or has neither
abbrev IsBare : PlainSegment → Type 0
IsBare sg = (sg.rst ≡ false) ⊎ (says_more sg ≡ false)

module _ (c : Profile) (s : Side) (e : PathEnd) where
  record_bare : (o : Option Record) → IsBare (record_or_ack c s o e)
  record_bare None = inl refl
  record_bare (Some r) = inl refl

  unsent_bare : IsBare (record_or_ack c s (first_unsent e) e)
  unsent_bare = record_bare (first_unsent e)

  again_bare : IsBare (record_or_ack c s (first_record e) e)
  again_bare = record_bare (first_record e)

  reset_bare : (reason : Option ℕ) → IsBare (reset_said c reason e)
  reset_bare reason = by e.modes.identity e.treated.failed_mapping reason
    where
      by : (identity : Bool) (failed reason : Option ℕ) → IsBare (segment_of c (own_reset e) (if identity then [] else broken_options failed reason) [] e)
      by true failed reason = inr refl
      by false failed None = inr refl
      by false None (Some reason) = inr refl
      by false (Some place) (Some reason) = inr refl

  closing_bare : (o : Option ℕ) → IsBare (carried_said c s o e)
  closing_bare None = inl refl
  closing_bare (Some key) = inl refl

  noted_bare : (o : Option OwnNotice) → IsBare (noted_said c s o e)
  noted_bare None = inl refl
  noted_bare (Some notice) = inl refl

  answer_bare : IsBare (answer_said c s e)
  answer_bare = by e.tcp.due.syn_ack
    where
      by : (b : Bool) → IsBare (if b then syn_ack_said c s e else ack_said c s e.tcp.send.nxt None e)
      by true = inl refl
      by false = inl refl

  resent_bare : IsBare (ack_resent c s e)
  resent_bare = by e.modes.owes_third e.notices.fast_closed (is_data_fin_owed e)
    where
      by : (third closed owes : Bool) → IsBare (if third then ack_said c s e.tcp.send.nxt None e else (if closed then carried_said c s e.notices.carrier e
          else (if owes then ack_said c s e.tcp.send.nxt e.sending.known_end e else ack_said c s (e.tcp.send.una - 1) None e)))
      by true closed owes = inl refl
      by false true owes = closing_bare e.notices.carrier
      by false false true = inl refl
      by false false false = inl refl

  resend_bare : IsBare (resend_said c s e)
  resend_bare = by (has_records e.tcp)
    where
      by : (b : Bool) → IsBare (if b then record_or_ack c s (first_record e) e else ack_resent c s e)
      by true = again_bare
      by false = resent_bare

-- ---- by what is to be done

module _ (p : PathState Carried) where
  abbrev pub SendsBare : ToSend → Type 0
  SendsBare t = IsBare (segment_sent p t)

  unless_bare : (b : Bool) (o : Option ToSend) → IfSome o SendsBare → IfSome (if b then None else o) SendsBare
  unless_bare true o is = tt
  unless_bare false o is = is

  only_bare : (b : Bool) (o : Option ToSend) → IfSome o SendsBare → IfSome (if b then o else None) SendsBare
  only_bare true o is = is
  only_bare false o is = tt

  break_bare : (s : Side) (reason : ℕ) → IfSome (broken_by s reason p) SendsBare
  break_bare s reason = unless_bare (end_at s p).treated.asked _ (reset_bare p.profile s (end_at s p) (Some reason))

  heard_bare : (s : Side) (o : Option Heard) → IfSome (heard_sends s o p) SendsBare
  heard_bare s (Some (Heard.Mapping fin)) = only_bare (is_clash (end_at s p)) _ (break_bare s 1)
  heard_bare s _ = tt

  data_bare : (s : Side) (o : Option Record) → IfSome (unsent_sends s o) SendsBare
  data_bare s None = tt
  data_bare s (Some unsent) = unsent_bare p.profile s (end_at s p)

  send_bare : (d : SendDuty) → IfSome (duty_sends (Duty.Send d) p) SendsBare
  send_bare (SendDuty.Syn s) = unsent_bare p.profile s (end_at s p)
  send_bare (SendDuty.Again s) = again_bare p.profile s (end_at s p)
  send_bare (SendDuty.Answer s) = answer_bare p.profile s (end_at s p)
  send_bare (SendDuty.Resend s) = resend_bare p.profile s (end_at s p)
  send_bare (SendDuty.FastClose s) = closing_bare p.profile s (end_at s p) (end_at s p).notices.carrier
  send_bare (SendDuty.Notice s) = noted_bare p.profile s (end_at s p) (first_of (end_at s p).notices.queue)
  send_bare (SendDuty.Refuse s) = inr refl
  send_bare (SendDuty.ResetAnswer s) = inr refl
  send_bare (SendDuty.BreakReset s reason) = reset_bare p.profile s (end_at s p) (Some reason)
  send_bare (SendDuty.Reset s) = reset_bare p.profile s (end_at s p) None
  send_bare (SendDuty.ResetNoted s) = reset_bare p.profile s (end_at s p) None
  send_bare _ = inl refl

  step_bare : (d : StepDuty) → IfSome (duty_sends (Duty.Step d) p) SendsBare
  step_bare (StepDuty.Data s) = data_bare s (first_unsent (end_at s p))
  step_bare (StepDuty.Heard s index) = heard_bare s (item_of index (end_at s p))
  step_bare (StepDuty.PlainAck s) = only_bare (breaks_by_ack p.profile (end_at s p)) _ (break_bare s 6)
  step_bare (StepDuty.Unmapped s) = break_bare s 6
  step_bare _ = tt

  duty_bare : (d : Duty) → IfSome (duty_sends d p) SendsBare
  duty_bare (Duty.Send d) = send_bare d
  duty_bare (Duty.Step d) = step_bare d
  duty_bare _ = tt

  pub first_bare : (ds : List Duty) → IfSome (first_sends ds p) SendsBare
  first_bare [] = tt
  first_bare (d ∷ ds) = duty_bare d

-- ---- a SYN

syn_bears : (c : Profile) (s : Side) (e : PathEnd) → list_any tells_end (syn_options c s e) ≡ false
syn_bears c A e = by (is_joined c)
  where
    by : (b : Bool) → list_any tells_end (if b then join_options c A e.modes else capable_options c A e) ≡ false
    by true = refl
    by false = refl
syn_bears c B e = by (is_joined c)
  where
    shown : (b : Bool) (options : List PlainOption) → list_any tells_end options ≡ false → list_any tells_end (if b then options else []) ≡ false
    shown true options none = none
    shown false options none = refl

    by : (b : Bool) → list_any tells_end (if b then join_options c B e.modes else capable_options c B e) ≡ false
    by true = refl
    by false = shown (e.modes.capable_asked && not e.modes.identity) _ refl

syn_bare : (start : Start) (number : ℕ) (c : Profile) (s : Side) (e : PathEnd) (sg : PlainSegment) → Spoken start number c s e sg → sg.syn ≡ true → is_bearing sg ≡ false
syn_bare start number c s e sg said syn =
    ap (λ (octets : List ℕ). has_octets octets || list_any tells_end sg.options) (said.placed.syn syn).1 ∙ ap (list_any tells_end) (said.syn syn) ∙ syn_bears c s e

pub record BearsPlain (path : ℕ) (s : Side) (sg : PlainSegment) : Type 0 where
  pub bears : is_bearing sg ≡ true → (sg.syn ≡ false) × (sg.rst ≡ false)
  pub says : says_more sg ≡ true → sg.rst ≡ false

-- the DATA_FIN is in a mapping
end_maps : (o : PlainOption) → tells_end o ≡ true → is_mapping o ≡ true
end_maps (Dss next mapping) is = refl
end_maps _ is = absurd (false≢true is)

any_maps : (options : List PlainOption) → list_any tells_end options ≡ true → list_any is_mapping options ≡ true
any_maps [] is = is
any_maps (o ∷ options) is =
    ⊎_elim (λ here. or_left (is_mapping o) (list_any is_mapping options) (end_maps o here)) (λ later. or_right (is_mapping o) (list_any is_mapping options) (any_maps options later))
    (or_cases (tells_end o) (list_any tells_end options) is)

bearing_says : (sg : PlainSegment) → is_bearing sg ≡ true → says_more sg ≡ true
bearing_says sg is =
    ⊎_elim (or_left (has_octets sg.payload) (list_any is_mapping sg.options))
    (λ ends. or_right (has_octets sg.payload) (list_any is_mapping sg.options) (any_maps sg.options ends)) (or_cases (has_octets sg.payload) (list_any tells_end sg.options) is)

plain_so : (path : ℕ) (s : Side) (sg : PlainSegment) → (sg.syn ≡ true → is_bearing sg ≡ false) → IsBare sg → BearsPlain path s sg
plain_so path s sg syn bare = record { bears = λ is. (no_syn sg.syn refl is, more_plain (bearing_says sg is)); says = more_plain }
  where
    more_plain : says_more sg ≡ true → sg.rst ≡ false
    more_plain is = ⊎_elim (λ none. none) (λ nothing. absurd (both_ways (says_more sg) nothing is)) bare

    no_syn : (b : Bool) → sg.syn ≡ b → is_bearing sg ≡ true → sg.syn ≡ false
    no_syn false none is = none
    no_syn true has is = absurd (both_ways (is_bearing sg) (syn has) is)

-- ---- at each moment

module _ (start : Start) (size : HasRoom start) (fit : NumbersFit start) (turns : List Turn) where
  path_plain : (p : PathState Carried) → PathSpeaks start p → PathAlso BearsPlain p
  path_plain p s = by (first_sends p.agenda p) s.5 (first_bare p p.agenda)
    where
      by : (o : Option ToSend) → IfSome o (λ t. Spoken start s.0 p.profile t.from (end_at t.from p) (segment_sent p t)) → IfSome o (λ t. IsBare (segment_sent p t))
          → IfSome o (λ t. BearsPlain (path_of p) t.from (segment_sent p t))
      by None said bare = tt
      by (Some t) said bare =
          plain_so (path_of p) t.from (segment_sent p t) (syn_bare start s.0 p.profile t.from (end_at t.from p) (segment_sent p t) said) bare

  member_plain : (m : Actor Carried) → MemberSpeaks start m → MemberAlso BearsPlain m
  member_plain (App a) s = tt
  member_plain (Path p) s = path_plain p s

  pub bears_at : WorldAlso BearsPlain (world_run octets turns (opened_world start))
  bears_at =
      subst (λ (w : WorldState (List ℕ)). WorldAlso BearsPlain w) (sym (run_fresh start turns size fit))
      (also_shown BearsPlain (world_run values turns (opened_world start)) (λ i c at. member_plain c.member (valued start turns size fit i c at)))
