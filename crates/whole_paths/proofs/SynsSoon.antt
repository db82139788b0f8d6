-- A SYN that the link takes is one of the end's, at position 0; where it isn't harmed a copy comes within 400 ticks, which is awaited.
use Rattle.std.proofs.Common.{◌≡◌, refl, sym, subst, ap, ◌∙◌, ◌⊎◌, inl, inr, ⊎_elim, ℕ, ◌+◌, ◌-◌, ◌^◌, ◌<◌, ◌≤◌, arith, Bool, true, false, true≢false, if◌then◌else◌, Option, Some, None, IfSome, List, [], ◌∷◌, ◌++◌}
use Rattle.std.proofs.lemmas.Bool.{both_ways}
use Rattle.path_segments.specs.Spelled.{PlainSegment}
use Rattle.sides.specs.declared.side.Side.{Side}
use Rattle.sides.specs.declared.side.Side.TheVariants.{A, B}
use Rattle.link_script.specs.declared.script.ScriptLine.{ScriptLine}
use Rattle.link_model.specs.State.{LinkState}
use Rattle.link_model.specs.Steps.{changed, segments_sent}
use Rattle.stream_lanes.specs.Words.{Every}
use Rattle.subflow_send.specs.Records.{Record}
use Rattle.subflow_send.specs.Rules.{is_unsent, syn_record}
use Rattle.subflow_send.specs.Sendings.{never_sent}
use Rattle.subflow_send.specs.declared.record.RecordKind.{RecordKind}
use Rattle.subflow_send.specs.declared.record.RecordKind.TheVariants.{Data, Fin, Syn}
use Rattle.subflow_tcp.specs.Emitting.{acknowledged_in, is_syn, reset_segment}
use Rattle.subflow_tcp.specs.States.{is_opening}
use Rattle.subflow_tcp.specs.State.{has_records}
use Rattle.subflow_tcp.specs.declared.segments.Outgoing.{Outgoing}
use Rattle.actor_desk.specs.declared.ask.Reply.{Reply}
use Rattle.path_agenda.specs.Words.{first_of}
use Rattle.path_agenda.specs.declared.duty.Duty.{Duty}
use Rattle.path_agenda.specs.declared.duty.Duty.TheVariants as duties
use Rattle.path_agenda.specs.declared.duty.SendDuty.TheVariants as send_duties
use Rattle.path_agenda.specs.declared.duty.StepDuty.TheVariants as step_duties
use Rattle.path_agenda.specs.declared.heard.Heard.{Heard}
use Rattle.path_agenda.specs.declared.heard.Heard.TheVariants as says
use Rattle.path_agenda.specs.declared.notice.OwnNotice.{OwnNotice}
use Rattle.path_core.specs.DataFin.{is_data_fin_owed}
use Rattle.path_core.specs.DssIn.{is_clash}
use Rattle.path_core.specs.Emission.{first_record, first_unsent, outgoing_or}
use Rattle.path_core.specs.End.{PathEnd}
use Rattle.path_core.specs.Fallback.{breaks_by_ack}
use Rattle.path_core.specs.Handover.{handed}
use Rattle.path_core.specs.Looking.{Hands, HandsOrTellsNone, broken_by, duty_sends, first_sends, heard_sends, segment_sent, send_of, unsent_sends}
use Rattle.path_core.specs.OptionsOut.{ack_said, carried_said, noted_said, record_options, record_or_ack, syn_ack_said}
use Rattle.path_core.specs.Profile.{Profile}
use Rattle.path_core.specs.Shown.{AltersNothing}
use Rattle.path_core.specs.State.{PathState, end_at}
use Rattle.path_core.specs.Steps.{takes}
use Rattle.path_core.specs.Treating.{item_of}
use Rattle.path_core.specs.Values.{Carried, values}
use Rattle.path_core.proofs.SegmentsTold.{each_segment_is_told}
use Rattle.world_laws.specs.NeverFalls.{StripsNothing}
use Rattle.world_laws.specs.Openings.{Start}
use Rattle.world_laws.specs.RoundDone.{reached}
use Rattle.world_laws.specs.Worlds.{Turn}
use Rattle.world_laws.proofs.Lanes.Records.{every_at, every_find}
use Rattle.world_laws.proofs.Writes.Steps.{begins_lasts}
use Rattle.whole_paths.specs.AsFar.{stage}
use Rattle.whole_paths.specs.Expiries.{IsSegmentOf}
use Rattle.whole_paths.specs.Finish.{IsPathAt, is_harmed}
use Rattle.whole_paths.specs.Flights.{IsOnItsWay}
use Rattle.whole_paths.specs.Copies.{CopiesAreNumbered}
use Rattle.whole_paths.specs.Mending.{IsSentSoon}
use Rattle.whole_paths.specs.Mild.{IsMildStart, LinkIsMild}
use Rattle.whole_paths.specs.RecordsGo.{IsOneSo}
use Rattle.whole_paths.specs.Syns.{IsSynAwaited, IsToOpen}
use Rattle.whole_paths.specs.SynsSoon.{EachSynComesSoon, SynsComeSoon}
use Rattle.whole_paths.proofs.ByTurns.{Becomes, Of, then_path}
use Rattle.whole_paths.proofs.Came.{AnswersReset, answers_reset}
use Rattle.whole_paths.proofs.Copies.{LinkStays, links_last}
use Rattle.whole_paths.proofs.DataLeft.{EndsAreBegun, each_is_begun}
use Rattle.whole_paths.proofs.EarlySegments.{AllEarly, next_early}
use Rattle.whole_paths.proofs.Exchanges.{Shown, each_shown}
use Rattle.whole_paths.proofs.Handshaking.{Given, PathMet, each_met, given, moment}
use Rattle.whole_paths.proofs.Mild.{links_are_mild}
use Rattle.whole_paths.proofs.OpenCourses.{IsFirstPath, each_first}
use Rattle.whole_paths.proofs.RecordWaits.{path_is}
use Rattle.whole_paths.proofs.Saying.{ToSend}
use Rattle.whole_paths.proofs.Syns.{apart}
use Rattle.whole_paths.proofs.SentSoon.{segments_come_soon, what_is_sent_comes_soon}
use Rattle.whole_paths.proofs.Flying.{Frames, takes_frames}

-- ---- segments

-- a record of the end's is the SYN, at position 0
record IsAlone (r : Record) : Type 0 where
  first : r.kind ≡ Syn → r.pos ≡ 0
  empty : r.kind ≡ Syn → r.piece ≡ []

-- the segment is that of a SYN
record IsOfSyn (c : Profile) (s : Side) (e : PathEnd) (x : PlainSegment) : Type 0 where
  syn : Record
  kind : syn.kind ≡ Syn
  first : syn.pos ≡ 0
  empty : syn.piece ≡ []
  of_it : IsSegmentOf syn x
  options : x.options ≡ record_options syn.kind c s syn e
  acknowledges : (x.acknowledged ≡ acknowledged_in e.tcp) ⊎ (x.acknowledged ≡ Some e.tcp.recv.edge)

syn_so : (k : RecordKind) → is_syn k ≡ true → k ≡ Syn
syn_so Syn is = refl
syn_so Data is = absurd (true≢false (sym is))
syn_so Fin is = absurd (true≢false (sym is))

module _ (c : Profile) (s : Side) (e : PathEnd) where
  -- a SYN, and no reset
  abbrev Finds : PlainSegment → Type 0
  Finds x = x.syn ≡ true → x.rst ≡ false → IsOfSyn c s e x

  or_ack : (o : Option Record) → IfSome o IsAlone → Finds (record_or_ack c s o e)
  or_ack None alone = λ is rst. absurd (true≢false (sym is))
  or_ack (Some r) alone = λ is rst. (let kind = syn_so r.kind is in record {
    syn = r;
    kind = kind;
    first = alone.first kind;
    empty = alone.empty kind;
    of_it = record { position = refl; syn = refl; fin = refl; rst = refl; payload = refl };
    options = refl;
    acknowledges = inl refl;
  })

  syn_ack : Finds (syn_ack_said c s e)
  syn_ack = λ is rst. record {
    syn = syn_record never_sent;
    kind = refl;
    first = refl;
    empty = refl;
    of_it = record { position = refl; syn = refl; fin = refl; rst = refl; payload = refl };
    options = refl;
    acknowledges = inr refl;
  }

  answer : (b : Bool) → Finds (if b then syn_ack_said c s e else ack_said c s e.tcp.send.nxt None e)
  answer true = syn_ack
  answer false = λ is rst. absurd (true≢false (sym is))

  noted : (o : Option OwnNotice) → Finds (noted_said c s o e)
  noted None = λ is rst. absurd (true≢false (sym is))
  noted (Some notice) = λ is rst. absurd (true≢false (sym is))

  carried : (o : Option ℕ) → Finds (carried_said c s o e)
  carried None = λ is rst. absurd (true≢false (sym is))
  carried (Some key) = λ is rst. absurd (true≢false (sym is))

  resent : IfSome (first_record e) IsAlone → (records third close fin : Bool) → Finds (if records then record_or_ack c s (first_record e) e
      else (if third then ack_said c s e.tcp.send.nxt None e
      else (if close then carried_said c s e.notices.carrier e
      else (if fin then ack_said c s e.tcp.send.nxt e.sending.known_end e
      else ack_said c s (e.tcp.send.una - 1) None e))))
  resent alone true third close fin = or_ack (first_record e) alone
  resent alone false true close fin = λ is rst. absurd (true≢false (sym is))
  resent alone false false true fin = carried e.notices.carrier
  resent alone false false false true = λ is rst. absurd (true≢false (sym is))
  resent alone false false false false = λ is rst. absurd (true≢false (sym is))

module _ (p : PathState Carried) (alone : (s : Side) → Every IsAlone (end_at s p).tcp.send.records) (answers : AnswersReset p) where
  abbrev FindsAll : Option ToSend → Type 0
  FindsAll o = IfSome o (λ (t : ToSend). Finds p.profile t.from (end_at t.from p) (segment_sent p t))

  -- an answer that was kept is a reset
  answer_rst : (s : Side) (o : Option Outgoing) → (end_at s p).treated.answer ≡ o → (outgoing_or o (reset_segment (end_at s p).tcp)).rst ≡ true
  answer_rst s None is = refl
  answer_rst s (Some a) is = subst (λ (o : Option Outgoing). IfSome o (λ (b : Outgoing). b.rst ≡ true)) is (answers s)

  never_kept : (s : Side) → (outgoing_or (end_at s p).treated.answer (reset_segment (end_at s p).tcp)).rst ≡ false → ⊥
  never_kept s rst = both_ways (outgoing_or (end_at s p).treated.answer (reset_segment (end_at s p).tcp)).rst rst (answer_rst s (end_at s p).treated.answer refl)

  broken : (s : Side) (reason : ℕ) → FindsAll (broken_by s reason p)
  broken s reason = elim (end_at s p).treated.asked as (λ b. FindsAll (if b then None else send_of (send_duties.BreakReset s reason))) [ true ↦ tt | false ↦ λ is rst. absurd (true≢false (sym is)) ]

  unsent : (s : Side) (o : Option Record) → FindsAll (unsent_sends s o)
  unsent s None = tt
  unsent s (Some r) = or_ack p.profile s (end_at s p) (first_unsent (end_at s p)) (every_find is_unsent (end_at s p).tcp.send.records (alone s))

  heard : (s : Side) (o : Option Heard) → FindsAll (heard_sends s o p)
  heard s (Some (says.Mapping fin)) = elim (is_clash (end_at s p)) as (λ b. FindsAll (if b then broken_by s 1 p else None)) [ true ↦ broken s 1 | false ↦ tt ]
  heard s _ = tt

  duty_finds : (d : Duty) → FindsAll (duty_sends d p)
  duty_finds (duties.Step (step_duties.Data s)) = unsent s (first_unsent (end_at s p))
  duty_finds (duties.Step (step_duties.Heard s index)) = heard s (item_of index (end_at s p))
  duty_finds (duties.Step (step_duties.PlainAck s)) = elim (breaks_by_ack p.profile (end_at s p)) as (λ b. FindsAll (if b then broken_by s 6 p else None)) [ true ↦ broken s 6 | false ↦ tt ]
  duty_finds (duties.Step (step_duties.Unmapped s)) = broken s 6
  duty_finds (duties.Send (send_duties.Syn s)) = or_ack p.profile s (end_at s p) (first_unsent (end_at s p)) (every_find is_unsent (end_at s p).tcp.send.records (alone s))
  duty_finds (duties.Send (send_duties.Again s)) = or_ack p.profile s (end_at s p) (first_record (end_at s p)) (every_at 0 (end_at s p).tcp.send.records (alone s))
  duty_finds (duties.Send (send_duties.FastClose s)) = carried p.profile s (end_at s p) (end_at s p).notices.carrier
  duty_finds (duties.Send (send_duties.Notice s)) = noted p.profile s (end_at s p) (first_of (end_at s p).notices.queue)
  duty_finds (duties.Send (send_duties.Refuse s)) = λ syn rst. absurd (never_kept s rst)
  duty_finds (duties.Send (send_duties.ResetAnswer s)) = λ syn rst. absurd (never_kept s rst)
  duty_finds (duties.Send (send_duties.Answer s)) = answer p.profile s (end_at s p) (end_at s p).tcp.due.syn_ack
  duty_finds (duties.Send (send_duties.Resend s)) =
      let e : PathEnd = end_at s p in resent p.profile s e (every_at 0 e.tcp.send.records (alone s)) (has_records e.tcp) e.modes.owes_third e.notices.fast_closed (is_data_fin_owed e)
  duty_finds (duties.Send (send_duties.BreakReset s reason)) = λ is rst. absurd (true≢false (sym is))
  duty_finds (duties.Send (send_duties.Reset s)) = λ is rst. absurd (true≢false (sym is))
  duty_finds (duties.Send (send_duties.ResetNoted s)) = λ is rst. absurd (true≢false (sym is))
  duty_finds (duties.Send (send_duties.Update s)) = λ is rst. absurd (true≢false (sym is))
  duty_finds (duties.Send (send_duties.Acknowledge s)) = λ is rst. absurd (true≢false (sym is))
  duty_finds (duties.Send (send_duties.DataFin s)) = λ is rst. absurd (true≢false (sym is))
  duty_finds (duties.Send (send_duties.Fin s)) = λ is rst. absurd (true≢false (sym is))
  duty_finds (duties.Send (send_duties.SynAck s)) = syn_ack p.profile s (end_at s p)
  duty_finds _ = tt

  first_finds : FindsAll (first_sends p.agenda p)
  first_finds = by p.agenda
    where
      by : (ds : List Duty) → FindsAll (first_sends ds p)
      by [] = tt
      by (d ∷ ds) = duty_finds d

-- ---- a turn

-- what is known of the path before it
record Known (p : PathState Carried) : Type 0 where
  alone : (s : Side) → Every IsAlone (end_at s p).tcp.send.records
  answers : AnswersReset p
  early : AllEarly (first_sends p.agenda p) p
  numbered : CopiesAreNumbered p
  link : (lines : List ScriptLine) × LinkIsMild lines p
  edge : (s : Side) → 0 < (end_at s p).tcp.recv.edge

module _ (p q : PathState Carried) (k : Known p) (frames : Frames p q) where
  -- as the end sends it
  acknowledges : (u : Side) → IsToOpen u p → (u ≡ A → acknowledged_in (end_at u p).tcp ≡ None) × (u ≡ B → acknowledged_in (end_at u p).tcp ≡ Some (end_at u p).tcp.recv.edge)
  acknowledges u (IsToOpen.asks own a b) = (
    λ is. ap (λ t. acknowledged_in (end_at t p).tcp) is ∙ ap (λ state. if is_opening state then None else Some p.a.tcp.recv.edge) a,
    λ is. apart (sym own ∙ is),
  )
  acknowledges u (IsToOpen.answers own a b) = (
    λ is. apart (sym is ∙ own),
    λ is. ap (λ t. acknowledged_in (end_at t p).tcp) is ∙ ap (λ state. if is_opening state then None else Some p.b.tcp.recv.edge) b ∙ ap (λ t. Some (end_at t p).tcp.recv.edge) (sym is),
  )

  -- A's end has no SYN of B's yet
  opens_low : (u : Side) → IsToOpen u p → u ≡ A → stage (end_at u p).tcp.state ≤ 1
  opens_low u (IsToOpen.asks own a b) is = subst (λ t. stage (end_at t p).tcp.state ≤ 1) (sym is) (subst (λ state. stage state ≤ 1) (sym a) (omega arith))
  opens_low u (IsToOpen.answers own a b) is = apart (sym is ∙ own)

  module _ (t : ToSend) (opens : IsToOpen t.from p) (still : IsToOpen t.from q) (syn : (segment_sent p t).syn ≡ true) (rst : (segment_sent p t).rst ≡ false) (found : IsOfSyn p.profile t.from (end_at t.from p) (segment_sent p t))
      (early : stage (end_at t.from p).tcp.state ≤ 1 → ((segment_sent p t).rst ≡ true) ⊎ ((t.from ≡ A) × ((segment_sent p t).acknowledged ≡ None))) where
    abbrev u : Side
    u = t.from

    abbrev x : PlainSegment
    x = segment_sent p t

    acked : x.acknowledged ≡ acknowledged_in (end_at u p).tcp
    acked = ⊎_elim (λ is. is) (λ some. by u refl some) found.acknowledges
      where
        by : (v : Side) → u ≡ v → x.acknowledged ≡ Some (end_at u p).tcp.recv.edge → x.acknowledged ≡ acknowledged_in (end_at u p).tcp
        by A is some = ⊎_elim (λ reset. absurd (both_ways x.rst rst reset)) (λ none. absurd (let wrong : None ≡ Some (end_at u p).tcp.recv.edge = sym none.1 ∙ some in cc)) (early (opens_low u opens is))
        by B is some = some ∙ sym ((acknowledges u opens).1 is)

    comes : IsSentSoon values u x p q → IsSynAwaited u (p.clock + 400) q
    comes h = record {
      opens = still;
      syn = found.syn;
      kind = found.kind;
      first = found.first;
      empty = found.empty;
      way = IsOnItsWay.flies h.copy h.soon h.there (record {
        to = h.to;
        segment = x;
        of_it = found.of_it;
        sender = end_at u p;
        says = record { options = found.options ∙ ap (λ c. record_options found.syn.kind c u found.syn (end_at u p)) (sym frames.profile); acknowledged = acked };
        stripped = h.stripped;
        altered = h.altered;
        whole = λ strips. h.whole (subst StripsNothing frames.lines strips);
        plain = λ alters. h.plain (subst AltersNothing frames.lines alters);
        carried = subst (λ (c : Profile). h.copy.carried ≡ changed (values.strips c.spelling u) (values.alters c.spelling u) h.stripped h.altered (values.makes c.spelling u x)) (sym frames.profile) h.carried;
      });
      sent = record {
        asks = (acknowledges u opens).0;
        answers = (acknowledges u opens).1;
        edge = k.edge u;
        unstripped = h.whole k.link.1.strips;
        unaltered = h.plain k.link.1.alters;
      };
    }

    soon : segments_sent u p.link < 2 ^ 64 - 1 → q.link ≡ handed values u x p → (is_harmed u p q ≡ true) ⊎ IsSynAwaited u (p.clock + 400) q
    soon few taken = ⊎_elim (λ harmed. inl harmed) (λ h. inr (comes h)) (segments_come_soon values p q k.numbered u x few taken)

module _ (p : PathState Carried) (r : Reply) (k : Known p) where
  abbrev q : PathState Carried
  q = takes values r p

  takes_soon : SynsComeSoon p q
  takes_soon s opens still goes less few = by (first_sends p.agenda p) refl goes
    where
      by : (o : Option ToSend) → first_sends p.agenda p ≡ o → IsOneSo o (λ (t : ToSend). (t.from ≡ s) × ((segment_sent p t).syn ≡ true) × ((segment_sent p t).rst ≡ false)) → (is_harmed s p q ≡ true) ⊎ IsSynAwaited s (p.clock + 400) q
      by None is goes = absurd goes
      by (Some t) is goes =
          let hands : Hands values p t = subst (HandsOrTellsNone values p) is (each_segment_is_told values p) in
          let found = subst (λ (o : Option ToSend). FindsAll p k.alone k.answers o) is (first_finds p k.alone k.answers) in
          let early = subst (λ (o : Option ToSend). AllEarly o p) is k.early in
          subst (λ v. (is_harmed v p q ≡ true) ⊎ IsSynAwaited v (p.clock + 400) q) goes.0
          (soon p q k (takes_frames values r p) t (subst (λ v. IsToOpen v p) (sym goes.0) opens) (subst (λ v. IsToOpen v q) (sym goes.0) still) goes.1 goes.2 (found goes.1 goes.2) early
          (subst (λ v. segments_sent v p.link < 2 ^ 64 - 1) (sym goes.0) few) (hands.taken r))

-- ---- the world

module _ (start : Start) (turns : List Turn) (mild : IsMildStart start) (p : PathState Carried) (here : IsPathAt 0 (reached values start turns) p) where
  first : IsFirstPath start p
  first = subst (Of (IsFirstPath start)) here.is (each_first start turns mild.plain.size here.crew here.there)

  known : Known p
  known = record {
    alone = λ s. record {
      each = λ i r there. record {
        first = ((subst (Of EndsAreBegun) here.is ((each_is_begun values start turns).each 2 here.crew here.there)) s).syns.each i r there;
        empty = (first.syns s).each i r there;
      };
    };
    answers = subst (Of AnswersReset) here.is (answers_reset start turns 2 here.crew here.there);
    early = next_early start p (moment start p (subst (Of (Given start)) here.is ((given start mild turns).each here.crew here.there)) (subst (Of PathMet) here.is ((each_met start mild turns).each here.crew here.there)));
    numbered = subst (Of CopiesAreNumbered) here.is (((what_is_sent_comes_soon values).numbered start turns).each 2 here.crew here.there);
    link = (start.lines, subst (Of (LinkIsMild start.lines)) here.is ((links_are_mild values start turns mild).each 2 here.crew here.there));
    edge = λ s. (let some = (subst (Of Shown) here.is (each_shown start turns mild.plain.size mild.fit 2 here.crew here.there)).edge s in omega (arith, some));
  }

  becomes_soon : (q : PathState Carried) → Becomes values p q → SynsComeSoon p q
  becomes_soon q Becomes.stays = λ s opens still goes less few. absurd (omega (arith, less))
  becomes_soon q (Becomes.takes_a_reply r) = takes_soon p r known
  becomes_soon q Becomes.begins_anew = λ s opens still goes less few. absurd
      (let same = ap (λ (l : LinkState Carried). segments_sent s l) (begins_lasts LinkStays links_last (record p { clock = p.until; until = p.until + 100 })) in omega (arith, same, less))

pub each_syn_comes_soon : EachSynComesSoon
each_syn_comes_soon start turns turn mild p q here there =
    let next = then_path values start turns turn p here in
    subst (λ (x : PathState Carried). SynsComeSoon p x) (path_is (reached values start (turns ++ turn ∷ [])) next.path q next.here there) (becomes_soon start turns mild p here next.path next.becomes)
