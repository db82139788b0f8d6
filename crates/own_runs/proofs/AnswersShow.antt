-- On path 0 of a run that never falls back each SYN of B shows B's key.
use Rattle.std.proofs.Common.{◌≡◌, refl, sym, ap, ◌∙◌, subst, ℕ, ⊎_elim, not, ◌&&◌, ◌||◌, Bool, true, false, if◌then◌else◌, Option, Some, None, is_some, List, [], ◌∷◌}
use Rattle.std.specs.List.{list_any}
use Rattle.std.specs.Option.{IfSome}
use Rattle.std.proofs.lemmas.Bool.{and_parts, both_ways, false≢true, not-true}
use Rattle.mptcp_options.specs.declared.capable.CapableKeys.TheVariants.{Sender}
use Rattle.path_agenda.specs.Words.{first_of}
use Rattle.path_agenda.specs.declared.duty.Duty.{Duty}
use Rattle.path_agenda.specs.declared.duty.SendDuty.{SendDuty}
use Rattle.path_agenda.specs.declared.duty.StepDuty.{StepDuty}
use Rattle.path_agenda.specs.declared.heard.Heard.{Heard}
use Rattle.path_agenda.specs.declared.notice.OwnNotice.{OwnNotice}
use Rattle.path_core.specs.DssIn.{is_clash}
use Rattle.path_core.specs.Emission.{data_stands, first_unsent, fits, outgoing_or}
use Rattle.path_core.specs.End.{PathEnd}
use Rattle.path_core.specs.Fallback.{breaks_by_ack}
use Rattle.path_core.specs.Looking.{broken_by, duty_sends, first_sends, heard_sends, segment_sent, unsent_sends}
use Rattle.path_core.specs.MpJoin.{is_joined, join_options}
use Rattle.path_core.specs.OptionsOut.{carried_said, noted_said, syn_options}
use Rattle.path_core.specs.Profile.{Profile}
use Rattle.path_core.specs.State.{PathState, end_at}
use Rattle.path_core.specs.Treating.{item_of}
use Rattle.path_core.specs.Turns.{FirstStands}
use Rattle.path_core.specs.Values.{Carried}
use Rattle.path_segments.specs.declared.segment.PathOption.TheVariants.{Capable}
use Rattle.sides.specs.declared.side.Side.TheVariants.{A, B}
use Rattle.sides.specs.declared.side.Side.{Side}
use Rattle.subflow_send.specs.Records.{Record}
use Rattle.subflow_tcp.specs.Emitting.{reset_segment}
use Rattle.subflow_tcp.specs.States.{is_closed_to_segments, is_opening}
use Rattle.subflow_tcp.specs.declared.handshake.State.{State as EndPhase}
use Rattle.subflow_tcp.specs.declared.segments.Outgoing.{Outgoing}
use Rattle.world_laws.proofs.Keys.AnswerHeardFirst.{is_apart}
use Rattle.world_laws.proofs.Whole.Ends.{Unmet, parts_of}
use Rattle.world_laws.proofs.Whole.Happening.{Holds, is_between}
use Rattle.world_laws.proofs.Whole.Paths.{Mark, PathIs, first_marked, is_marked, marks}
use Rattle.own_runs.specs.KeysShown.{shows_key}
use Rattle.own_runs.proofs.AnswersAsked.{Again, IsAsked, none_again, now_is}
use Rattle.own_runs.proofs.Speaking.{ToSend}

module _ (p : PathState Carried) (holds : Holds p) (again : Again p) (answers : (s : Side) → IfSome (end_at s p).treated.answer (λ o. o.syn ≡ false)) (stand : FirstStands p.agenda p) where
  abbrev SendAsked : Option ToSend → Type 0
  SendAsked o = IfSome o (λ t. t.from ≡ B → (segment_sent p t).syn ≡ true → IsAsked p)

  abbrev Here : Duty → List Duty → Type 0
  Here d ds = p.agenda ≡ d ∷ ds

  -- B's end knows, or is closed
  open_asked : PathIs p.agenda p → is_closed_to_segments p.b.tcp.state ≡ false → IsAsked p
  open_asked h live =
      ⊎_elim (λ asked. asked)
      (λ (unmet : Unmet (parts_of p.b)). ⊎_elim (λ closed. absurd (woken (is_closed_to_segments p.b.tcp.state) live closed)) (λ opens. absurd (never p.b.tcp.state opens.state h.b.base.apart)) unmet.still) h.b.says
    where
      woken : (b : Bool) → b ≡ false → not b || is_some p.b.tcp.timing.timer ≡ false → ⊥
      woken true none closed = false≢true (sym none)
      woken false none closed = false≢true (sym closed)

      never : (state : EndPhase) → is_opening state ≡ true → is_apart B state ≡ false → ⊥
      never EndPhase.SynSent opens apart = false≢true (sym apart)
      never EndPhase.Waiting opens apart = false≢true opens
      never _ opens apart = false≢true opens

  said_asked : (d : Duty) (ds : List Duty) → Here d ds → is_between d ≡ false → is_marked (Mark.SaidBy B) d ≡ true → IsAsked p
  said_asked d ds same other marked =
      (now_is d ds p other holds same).marked (Mark.SaidBy B) (subst (λ (todo : List Duty). marks (Mark.SaidBy B) todo ≡ true) (sym same) (first_marked (Mark.SaidBy B) d ds marked))

  resend_asked : (ds : List Duty) → Here (Duty.Send (SendDuty.Resend B)) ds → IsAsked p
  resend_asked ds same = ⊎_elim (λ free. absurd (false≢true (subst (λ (todo : List Duty). none_again todo) same free))) (λ asked. asked.0) again

  outgoing_none : (o : Option Outgoing) (other : Outgoing) → other.syn ≡ false → IfSome o (λ o. o.syn ≡ false) → (outgoing_or o other).syn ≡ true → ⊥
  outgoing_none None other off none syn = both_ways _ off syn
  outgoing_none (Some o) other off none syn = both_ways _ none syn

  noted_asked : (s : Side) (o : Option OwnNotice) → (noted_said p.profile s o (end_at s p)).syn ≡ true → IsAsked p
  noted_asked s None syn = absurd (false≢true syn)
  noted_asked s (Some notice) syn = absurd (false≢true syn)

  carried_asked : (s : Side) (o : Option ℕ) → (carried_said p.profile s o (end_at s p)).syn ≡ true → IsAsked p
  carried_asked s None syn = absurd (false≢true syn)
  carried_asked s (Some key) syn = absurd (false≢true syn)

  unless_asked : (b : Bool) (o : Option ToSend) → SendAsked o → SendAsked (if b then None else o)
  unless_asked true o is = tt
  unless_asked false o is = is

  only_asked : (b : Bool) (o : Option ToSend) → SendAsked o → SendAsked (if b then o else None)
  only_asked true o is = is
  only_asked false o is = tt

  break_asked : (s : Side) (reason : ℕ) → SendAsked (broken_by s reason p)
  break_asked s reason = unless_asked (end_at s p).treated.asked _ (λ of_b syn. absurd (false≢true syn))

  heard_asked : (s : Side) (o : Option Heard) → SendAsked (heard_sends s o p)
  heard_asked s (Some (Heard.Mapping fin)) = only_asked (is_clash (end_at s p)) _ (break_asked s 1)
  heard_asked s _ = tt

  data_asked : (s : Side) (o : Option Record) → ((r : Record) → o ≡ Some r → s ≡ B → IsAsked p) → SendAsked (unsent_sends s o)
  data_asked s None asked = tt
  data_asked s (Some r) asked = λ of_b syn. asked r refl of_b

  live_data : (o : Option Record) (r : Record) → o ≡ Some r → data_stands p.profile B p.b o ≡ true → is_closed_to_segments p.b.tcp.state ≡ false
  live_data (Some r) q is stood = not-true (is_closed_to_segments p.b.tcp.state) (and_parts (not (is_closed_to_segments p.b.tcp.state)) (fits p.b.tcp r) stood).0
  live_data None q is stood = cc

  opening_live : (state : EndPhase) → is_opening state ≡ true → is_closed_to_segments state ≡ false
  opening_live EndPhase.SynSent is = refl
  opening_live EndPhase.Waiting is = absurd (false≢true is)
  opening_live _ is = absurd (false≢true is)

  stands_here : (d : Duty) (ds : List Duty) → Here d ds → FirstStands (d ∷ ds) p
  stands_here d ds same = subst (λ (todo : List Duty). FirstStands todo p) same stand

  duty_asked : (d : Duty) (ds : List Duty) → Here d ds → SendAsked (duty_sends d p)
  duty_asked (Duty.Send (SendDuty.Update s)) ds same = λ of_b syn. absurd (false≢true syn)
  duty_asked (Duty.Send (SendDuty.Acknowledge s)) ds same = λ of_b syn. absurd (false≢true syn)
  duty_asked (Duty.Send (SendDuty.Syn A)) ds same = λ of_b. cc
  duty_asked (Duty.Send (SendDuty.Syn B)) ds same = λ of_b syn.
      open_asked (now_is (Duty.Send (SendDuty.Syn B)) ds p refl holds same) (opening_live p.b.tcp.state (and_parts (is_opening p.b.tcp.state) _ (stands_here (Duty.Send (SendDuty.Syn B)) ds same)).0)
  duty_asked (Duty.Send (SendDuty.FastClose s)) ds same = λ of_b. carried_asked s (end_at s p).notices.carrier
  duty_asked (Duty.Send (SendDuty.Notice s)) ds same = λ of_b. noted_asked s (first_of (end_at s p).notices.queue)
  duty_asked (Duty.Send (SendDuty.DataFin s)) ds same = λ of_b syn. absurd (false≢true syn)
  duty_asked (Duty.Send (SendDuty.Fin s)) ds same = λ of_b syn. absurd (false≢true syn)
  duty_asked (Duty.Send (SendDuty.SynAck A)) ds same = λ of_b. cc
  duty_asked (Duty.Send (SendDuty.SynAck B)) ds same = λ of_b syn. said_asked (Duty.Send (SendDuty.SynAck B)) ds same refl refl
  duty_asked (Duty.Send (SendDuty.Refuse s)) ds same = λ of_b syn. absurd (outgoing_none (end_at s p).treated.answer (reset_segment (end_at s p).tcp) refl (answers s) syn)
  duty_asked (Duty.Send (SendDuty.Again A)) ds same = λ of_b. cc
  duty_asked (Duty.Send (SendDuty.Again B)) ds same = λ of_b syn. said_asked (Duty.Send (SendDuty.Again B)) ds same refl refl
  duty_asked (Duty.Send (SendDuty.Answer A)) ds same = λ of_b. cc
  duty_asked (Duty.Send (SendDuty.Answer B)) ds same = λ of_b syn. said_asked (Duty.Send (SendDuty.Answer B)) ds same refl refl
  duty_asked (Duty.Send (SendDuty.ResetAnswer s)) ds same = λ of_b syn. absurd (outgoing_none (end_at s p).treated.answer (reset_segment (end_at s p).tcp) refl (answers s) syn)
  duty_asked (Duty.Send (SendDuty.Resend A)) ds same = λ of_b. cc
  duty_asked (Duty.Send (SendDuty.Resend B)) ds same = λ of_b syn. resend_asked ds same
  duty_asked (Duty.Send (SendDuty.BreakReset s reason)) ds same = λ of_b syn. absurd (false≢true syn)
  duty_asked (Duty.Send (SendDuty.Reset s)) ds same = λ of_b syn. absurd (false≢true syn)
  duty_asked (Duty.Send (SendDuty.ResetNoted s)) ds same = λ of_b syn. absurd (false≢true syn)
  duty_asked (Duty.Step (StepDuty.Data A)) ds same = data_asked A (first_unsent p.a) (λ r is of_b. cc)
  duty_asked (Duty.Step (StepDuty.Data B)) ds same = data_asked B (first_unsent p.b)
      (λ r is of_b. open_asked (now_is (Duty.Step (StepDuty.Data B)) ds p refl holds same) (live_data (first_unsent p.b) r is (stands_here (Duty.Step (StepDuty.Data B)) ds same)))
  duty_asked (Duty.Step (StepDuty.Heard s index)) ds same = heard_asked s (item_of index (end_at s p))
  duty_asked (Duty.Step (StepDuty.PlainAck s)) ds same = only_asked (breaks_by_ack p.profile (end_at s p)) _ (break_asked s 6)
  duty_asked (Duty.Step (StepDuty.Unmapped s)) ds same = break_asked s 6
  duty_asked d ds same = tt

  pub first_asked : SendAsked (first_sends p.agenda p)
  first_asked = by p.agenda refl
    where
      by : (ds : List Duty) → p.agenda ≡ ds → SendAsked (first_sends ds p)
      by [] same = tt
      by (d ∷ ds) same = duty_asked d ds same

-- so it shows the key
pub syn_shows : (c : Profile) (e : PathEnd) → is_joined c ≡ false → e.modes.capable_asked ≡ true → e.modes.identity ≡ false → list_any shows_key (syn_options c B e) ≡ true
syn_shows c e first asked upright = by (is_joined c) first (e.modes.capable_asked && not e.modes.identity) (ap (λ (b : Bool). b && not e.modes.identity) asked ∙ ap not upright)
  where
    by : (b : Bool) → b ≡ false → (a : Bool) → a ≡ true → list_any shows_key (if b then join_options c B e.modes else (if a then Capable c.spelling.checksums false (Sender e.modes.own_key) ∷ [] else [])) ≡ true
    by true first a asked = absurd (false≢true (sym first))
    by false first true asked = refl
    by false first false asked = absurd (false≢true asked)
