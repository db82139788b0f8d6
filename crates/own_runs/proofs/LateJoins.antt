-- In the trace of a run each SYN of a join comes behind the SYN/ACK of path 0 that shows B's key, and that behind A's SYN.
use Rattle.std.proofs.Common.{◌≡◌, refl, sym, ap, ◌∙◌, subst, ℕ, zero, suc, ◌<◌, inl, inr, ◌⊎◌, ⊎_elim, Bool, true, false, if◌then◌else◌, Option, Some, None, is_some, option_map, List, [], ◌∷◌, ◌++◌, map, nat_lt, not, ◌&&◌, arith}
use Rattle.std.specs.List.{list_any, slice_get}
use Rattle.std.specs.Option.{IfSome, option_and_then, option_to_list}
use Rattle.std.proofs.lemmas.Bool.{and_parts, both_ways, false≢true, lt-ltb, ltb-false}
use Rattle.actor_desk.specs.Books.{books_in}
use Rattle.actor_desk.specs.Desk.{SixBooks}
use Rattle.link_trace.specs.declared.sent.Sent.{Sent}
use Rattle.path_agenda.specs.Words.{first_of}
use Rattle.path_agenda.specs.declared.duty.Duty.{Duty}
use Rattle.path_agenda.specs.declared.duty.SendDuty.{SendDuty}
use Rattle.path_agenda.specs.declared.duty.StepDuty.{StepDuty}
use Rattle.path_agenda.specs.declared.heard.Heard.{Heard}
use Rattle.path_agenda.specs.declared.notice.OwnNotice.{OwnNotice}
use Rattle.path_core.specs.DataFin.{is_data_fin_owed}
use Rattle.path_core.specs.DssIn.{is_clash}
use Rattle.path_core.specs.Fallback.{breaks_by_ack}
use Rattle.path_core.specs.Treating.{item_of}
use Rattle.path_core.specs.Emission.{ack_resent, answer_said, first_record, first_unsent, outgoing_or, resend_said}
use Rattle.path_core.specs.End.{PathEnd}
use Rattle.path_core.specs.Looking.{broken_by, departing_as, duty_sends, first_sends, heard_sends, segment_sent, unsent_sends}
use Rattle.path_core.specs.MpJoin.{is_joined, join_options}
use Rattle.path_core.specs.Octets.{octets}
use Rattle.path_core.specs.OptionsOut.{capable_options, carried_said, noted_said, record_or_ack, reset_options, segment_of, syn_options}
use Rattle.path_core.specs.Profile.{Profile}
use Rattle.path_core.specs.Said.{said_by}
use Rattle.path_core.specs.Shown.{shown_path}
use Rattle.path_core.specs.State.{PathState, end_at, path_of}
use Rattle.path_core.specs.Values.{Carried, values}
use Rattle.path_segments.specs.Options.{PlainOption}
use Rattle.path_segments.specs.Spelled.{PlainSegment}
use Rattle.mptcp_options.specs.declared.capable.CapableKeys.TheVariants.{Sender}
use Rattle.path_segments.specs.declared.segment.PathOption.TheVariants.{Capable}
use Rattle.run_trace.specs.Trace.{sent_as, sent_at, sent_by, trace_of}
use Rattle.sides.specs.declared.side.Side.TheVariants.{A, B}
use Rattle.sides.specs.declared.side.Side.{Side}
use Rattle.stream_lanes.specs.Words.{Every}
use Rattle.subflow_send.specs.Records.{Record}
use Rattle.subflow_tcp.specs.Emitting.{reset_segment}
use Rattle.subflow_tcp.specs.State.{has_records}
use Rattle.subflow_tcp.specs.States.{is_opening}
use Rattle.subflow_tcp.specs.declared.handshake.State.{State as EndPhase}
use Rattle.subflow_tcp.specs.declared.segments.Outgoing.{Outgoing}
use Rattle.world_core.specs.Looking.{crew_path, member_path}
use Rattle.world_laws.proofs.Promises.Made.{run_fresh}
use Rattle.world_laws.specs.Actors.{Actor, ActorCrew}
use Rattle.world_laws.specs.Fresh.{shown_crew, shown_member, shown_world}
use Rattle.world_laws.specs.Openings.{Start, opened_world}
use Rattle.world_laws.specs.Promises.{HasRoom, NumbersFit}
use Rattle.world_laws.specs.Worlds.{Turn, WorldState, after_turn, world_run}
use Rattle.world_laws.specs.declared.member.Member.TheVariants.{App, Path}
use Rattle.own_runs.proofs.KeyRuns.{ActorSays, HearsAsk, MemberLearns, MemberSays, SaysNext, TurnSays, WorldLearns, more_member, opened_learns, turn_learns}
use Rattle.own_runs.proofs.Learning.{IsAlone, IsAnswer, is_unborn, shows_key}
use Rattle.own_runs.proofs.Moments.{CrewKnown, IsSpoken, JoinsBy, MemberKnown, MemberSpeaks, PathAlso, PathKnown, PathSpeaks, Spoken, crew_known, end_shown, first_same, path_sends, path_shown, valued}
use Rattle.own_runs.proofs.Speaking.{ToSend}

-- ---- a SYN of B's acknowledges

module _ (c : Profile) (s : Side) (e : PathEnd) (answer : IfSome e.treated.answer (λ o. o.syn ≡ false)) (born : is_unborn e.tcp.state ≡ false) where
  abbrev Acks : PlainSegment → Type 0
  Acks sg = sg.syn ≡ true → is_some sg.acknowledged ≡ true

  not_opening : (state : EndPhase) → is_unborn state ≡ false → is_opening state ≡ false
  not_opening EndPhase.SynSent none = absurd (false≢true (sym none))
  not_opening EndPhase.Waiting none = refl
  not_opening _ none = refl

  record_acks : (o : Option Record) → Acks (record_or_ack c s o e)
  record_acks None syn = refl
  record_acks (Some r) syn = ap (λ (b : Bool). is_some (if b then None else Some e.tcp.recv.edge)) (not_opening e.tcp.state born)

  noted_acks : (o : Option OwnNotice) → Acks (noted_said c s o e)
  noted_acks None syn = refl
  noted_acks (Some notice) syn = refl

  carried_acks : (o : Option ℕ) → Acks (carried_said c s o e)
  carried_acks None syn = refl
  carried_acks (Some key) syn = refl

  either_acks : (b : Bool) (x y : PlainSegment) → Acks x → Acks y → Acks (if b then x else y)
  either_acks true x y h g = h
  either_acks false x y h g = g

  outgoing_acks : (o : Option Outgoing) → IfSome o (λ o. o.syn ≡ false) → (outgoing_or o (reset_segment e.tcp)).syn ≡ true → is_some (outgoing_or o (reset_segment e.tcp)).acknowledged ≡ true
  outgoing_acks None none syn = absurd (false≢true syn)
  outgoing_acks (Some o) none syn = absurd (both_ways o.syn none syn)

  answer_acks : Acks (answer_said c s e)
  answer_acks = either_acks e.tcp.due.syn_ack _ _ (λ syn. refl) (λ syn. refl)

  resent_acks : Acks (ack_resent c s e)
  resent_acks = either_acks e.modes.owes_third _ _ (λ syn. refl) (either_acks e.notices.fast_closed _ _ (carried_acks e.notices.carrier) (either_acks (is_data_fin_owed e) _ _ (λ syn. refl) (λ syn. refl)))

  resend_acks : Acks (resend_said c s e)
  resend_acks = either_acks (has_records e.tcp) _ _ (record_acks (first_record e)) resent_acks

  dead_acks : (reason : Option ℕ) → Acks (segment_of c (outgoing_or e.treated.answer (reset_segment e.tcp)) (reset_options reason) [] e)
  dead_acks reason syn = outgoing_acks e.treated.answer answer syn

module _ (p : PathState Carried) (answers : (s : Side) → IfSome (end_at s p).treated.answer (λ o. o.syn ≡ false)) (born : is_unborn p.b.tcp.state ≡ false) where
  abbrev SendAcks : Option ToSend → Type 0
  SendAcks o = IfSome o (λ t. t.from ≡ B → (segment_sent p t).syn ≡ true → is_some (segment_sent p t).acknowledged ≡ true)

  born_at : (s : Side) → s ≡ B → is_unborn (end_at s p).tcp.state ≡ false
  born_at A of_b = cc
  born_at B of_b = born

  unless_acks : (b : Bool) (o : Option ToSend) → SendAcks o → SendAcks (if b then None else o)
  unless_acks true o is = tt
  unless_acks false o is = is

  only_acks : (b : Bool) (o : Option ToSend) → SendAcks o → SendAcks (if b then o else None)
  only_acks true o is = is
  only_acks false o is = tt

  break_acks : (s : Side) (reason : ℕ) → SendAcks (broken_by s reason p)
  break_acks s reason = unless_acks (end_at s p).treated.asked _ (λ of_b syn. absurd (false≢true syn))

  heard_acks : (s : Side) (o : Option Heard) → SendAcks (heard_sends s o p)
  heard_acks s (Some (Heard.Mapping fin)) = only_acks (is_clash (end_at s p)) _ (break_acks s 1)
  heard_acks s _ = tt

  data_acks : (s : Side) (o : Option Record) → SendAcks (unsent_sends s o)
  data_acks s None = tt
  data_acks s (Some unsent) = λ of_b. record_acks p.profile s (end_at s p) (answers s) (born_at s of_b) (first_unsent (end_at s p))

  duty_acks : (d : Duty) → SendAcks (duty_sends d p)
  duty_acks (Duty.Send (SendDuty.Update s)) = λ of_b syn. refl
  duty_acks (Duty.Send (SendDuty.Acknowledge s)) = λ of_b syn. refl
  duty_acks (Duty.Send (SendDuty.Syn s)) = λ of_b. record_acks p.profile s (end_at s p) (answers s) (born_at s of_b) (first_unsent (end_at s p))
  duty_acks (Duty.Send (SendDuty.FastClose s)) = λ of_b. carried_acks p.profile s (end_at s p) (answers s) (born_at s of_b) (end_at s p).notices.carrier
  duty_acks (Duty.Send (SendDuty.Notice s)) = λ of_b. noted_acks p.profile s (end_at s p) (answers s) (born_at s of_b) (first_of (end_at s p).notices.queue)
  duty_acks (Duty.Send (SendDuty.DataFin s)) = λ of_b syn. refl
  duty_acks (Duty.Send (SendDuty.Fin s)) = λ of_b syn. refl
  duty_acks (Duty.Send (SendDuty.SynAck s)) = λ of_b syn. refl
  duty_acks (Duty.Send (SendDuty.Refuse s)) = λ of_b. dead_acks p.profile s (end_at s p) (answers s) (born_at s of_b) (Some 1)
  duty_acks (Duty.Send (SendDuty.Again s)) = λ of_b. record_acks p.profile s (end_at s p) (answers s) (born_at s of_b) (first_record (end_at s p))
  duty_acks (Duty.Send (SendDuty.Answer s)) = λ of_b. answer_acks p.profile s (end_at s p) (answers s) (born_at s of_b)
  duty_acks (Duty.Send (SendDuty.ResetAnswer s)) = λ of_b. dead_acks p.profile s (end_at s p) (answers s) (born_at s of_b) None
  duty_acks (Duty.Send (SendDuty.Resend s)) = λ of_b. resend_acks p.profile s (end_at s p) (answers s) (born_at s of_b)
  duty_acks (Duty.Send (SendDuty.BreakReset s reason)) = λ of_b syn. absurd (false≢true syn)
  duty_acks (Duty.Send (SendDuty.Reset s)) = λ of_b syn. absurd (false≢true syn)
  duty_acks (Duty.Send (SendDuty.ResetNoted s)) = λ of_b syn. absurd (false≢true syn)
  duty_acks (Duty.Step (StepDuty.Data s)) = data_acks s (first_unsent (end_at s p))
  duty_acks (Duty.Step (StepDuty.Heard s index)) = heard_acks s (item_of index (end_at s p))
  duty_acks (Duty.Step (StepDuty.PlainAck s)) = only_acks (breaks_by_ack p.profile (end_at s p)) _ (break_acks s 6)
  duty_acks (Duty.Step (StepDuty.Unmapped s)) = break_acks s 6
  duty_acks d = tt

  first_acks : (ds : List Duty) → SendAcks (first_sends ds p)
  first_acks [] = tt
  first_acks (d ∷ ds) = duty_acks d

-- ---- the segments of a trace

-- what is known of a segment of a side on a path, where so much was sent before it
pub record ComesBehind (U T : Type 0) (path : ℕ) (s : Side) (sg : PlainSegment) : Type 0 where
  pub acks : s ≡ B → sg.syn ≡ true → is_some sg.acknowledged ≡ true
  pub joins : s ≡ A → sg.syn ≡ true → 0 < path → T
  pub answers : path ≡ 0 → s ≡ B → IsAnswer sg → U

module _ (start : Start) where
  abbrev pub Says : Side → (PlainSegment → Type 0) → Sent → PlainSegment → Type 0
  Says s P x sg = (x.path ≡ 0) × (x.from ≡ s) × P sg

  -- each segment comes behind what it needs, where A's SYN is one that was sent before, and an answer to it
  abbrev pub AllBehind : Type 0 → Type 0 → List Sent → Type 0
  AllBehind U T [] = Unit {0}
  AllBehind U T (x ∷ trace) = (s : IsSpoken (ComesBehind U T) start x) × AllBehind (U ⊎ Says A IsAlone x s.segment) (T ⊎ Says B IsAnswer x s.segment) trace

  -- ---- one step

  -- a SYN of the path that opens the connection, and one of a path that joins it
  module _ (U T : Type 0) (six : SixBooks) (book : is_some six.control_a.keys.peer ≡ true → T) (joined : six.control_a.fall.joined ≡ true → is_some six.control_a.keys.peer ≡ true)
      (p : PathState Carried) (known : PathKnown six p) (hears : HearsAsk U T p) (born : is_unborn p.b.tcp.state ≡ false) where
    -- A's SYN on such a path asks to join
    first_option : (c : Profile) (e : PathEnd) (options : List PlainOption) → is_joined c ≡ true → options ≡ syn_options c A e → Every (JoinsBy six A) options → six.control_a.fall.joined ≡ true
    first_option c e options joins are each = by (is_joined c) joins are
      where
        first : (x : PlainOption) → options ≡ x ∷ [] → JoinsBy six A x
        first x is = each.each 0 x (ap (λ (xs : List PlainOption). slice_get xs 0) is)

        by : (b : Bool) → b ≡ true → options ≡ (if b then join_options c A e.modes else capable_options c A e) → six.control_a.fall.joined ≡ true
        by true joins are = first _ are
        by false joins are = absurd (false≢true joins)

    -- B's shows a key where B heard that A asks
    asked_by : (c : Profile) (e : PathEnd) (options : List PlainOption) → is_joined c ≡ false → options ≡ syn_options c B e → list_any shows_key options ≡ true → e.modes.capable_asked ≡ true
    asked_by c e options first are shows = by (is_joined c) first are (e.modes.capable_asked && not e.modes.identity) refl
      where
        asks : e.modes.capable_asked && not e.modes.identity ≡ true → e.modes.capable_asked ≡ true
        asks is = (and_parts e.modes.capable_asked (not e.modes.identity) is).0

        by : (b : Bool) → b ≡ false → options ≡ (if b then join_options c B e.modes else capable_options c B e) → (a : Bool) → e.modes.capable_asked && not e.modes.identity ≡ a → e.modes.capable_asked ≡ true
        by true first are a is = absurd (false≢true (sym first))
        by false first are true is = asks is
        by false first are false is =
            absurd (false≢true (sym (ap (λ (b : Bool). list_any shows_key (if b then Capable c.spelling.checksums false (Sender e.modes.own_key) ∷ [] else [])) is) ∙ ap (list_any shows_key) (sym are) ∙ shows))

    -- so a segment that is sent comes behind what it needs
    comes : (number : ℕ) (t : ToSend) → (t.from ≡ B → (segment_sent p t).syn ≡ true → is_some (segment_sent p t).acknowledged ≡ true) → is_joined p.profile ≡ nat_lt 0 number → Spoken start number p.profile t.from (end_at t.from p) (segment_sent p t)
        → Every (JoinsBy six t.from) (segment_sent p t).options → ComesBehind U T number t.from (segment_sent p t)
    comes number t acks numbered said each = record {
      acks = acks;
      joins = λ of_a syn more. book (joined (a_joins t.from of_a (numbered ∙ lt-ltb 0 number more) (said.syn syn) each));
      answers = λ at of_b answer. let first : is_joined p.profile ≡ false = numbered ∙ ap (nat_lt 0) at in hears first (b_asked t.from of_b first (said.syn answer.syn) answer.key);
    }
      where
        a_joins : (s : Side) → s ≡ A → is_joined p.profile ≡ true → (said_by t.kind p.profile s (end_at s p)).options ≡ syn_options p.profile s (end_at s p)
            → Every (JoinsBy six s) (said_by t.kind p.profile s (end_at s p)).options → six.control_a.fall.joined ≡ true
        a_joins A of_a joins are each = first_option p.profile p.a (said_by t.kind p.profile A p.a).options joins are each
        a_joins B of_a joins are each = cc

        b_asked : (s : Side) → s ≡ B → is_joined p.profile ≡ false → (said_by t.kind p.profile s (end_at s p)).options ≡ syn_options p.profile s (end_at s p)
            → list_any shows_key (said_by t.kind p.profile s (end_at s p)).options ≡ true → p.b.modes.capable_asked ≡ true
        b_asked A of_b first are shows = cc
        b_asked B of_b first are shows = asked_by p.profile p.b (said_by t.kind p.profile B p.b).options first are shows

  -- ---- turns

  abbrev pub Learns : Type 0 → Type 0 → WorldState Carried → Type 0
  Learns U T w = WorldLearns start.key_a start.key_b U T w

  pub more_learns : (U T V W : Type 0) (w : WorldState Carried) → (U → V) → (T → W) → Learns U T w → Learns V W w
  more_learns U T V W w u t h = record {
    met = h.met;
    crew = λ actor c at. more_member U T V W u t c.member (h.crew actor c at);
    book = λ is. t (h.book is);
  }

  unless : (U V : Type 0) → (V → U) → U ⊎ V → U
  unless U V other (inl was) = was
  unless U V other (inr is) = other is

  -- the segment of a path
  module _ (U T : Type 0) (p : PathState Carried) (t : ToSend) (rest : List Sent) where
    abbrev x : Sent
    x = sent_as (shown_path p) (departing_as (shown_path p) t)

    abbrev Also : ℕ → Side → PlainSegment → Type 0
    Also number s sg = ComesBehind U T number s sg × (sg ≡ segment_sent p t)

    pub shown_same : segment_sent (shown_path p) t ≡ segment_sent p t
    shown_same = ap (said_by t.kind p.profile t.from) (sym (end_shown t.from p))

    also_so : first_sends p.agenda p ≡ Some t → ComesBehind U T (path_of p) t.from (segment_sent p t) → PathAlso Also (shown_path p)
    also_so next comes =
        subst (λ (o : Option ToSend). IfSome o (λ u. Also (path_of p) u.from (segment_sent (shown_path p) u))) (sym (first_same p.agenda p ∙ next))
        (subst (ComesBehind U T (path_of p) t.from) (sym shown_same) comes, shown_same)

    sent_is : first_sends p.agenda p ≡ Some t → sent_by (shown_path p) ≡ Some x
    sent_is next = ap (λ (o : Option ToSend). option_map (sent_as (shown_path p)) (option_map (departing_as (shown_path p)) o)) (first_same p.agenda p ∙ next)

    spoken : first_sends p.agenda p ≡ Some t → PathSpeaks start p → ComesBehind U T (path_of p) t.from (segment_sent p t) → IsSpoken Also start x
    spoken next speaks comes =
        subst (λ (o : Option Sent). IfSome o (IsSpoken Also start)) (sent_is next) (path_sends Also start (shown_path p) (path_shown start p speaks) (also_so next comes))

    only_behind : IsSpoken Also start x → IsSpoken (ComesBehind U T) start x
    only_behind s = record { plan = s.plan; there = s.there; segment = s.segment; end = s.end; octets = s.octets; spoken = s.spoken; also = s.also.0 }

    abbrev Then : IsSpoken Also start x → Type 0
    Then s = AllBehind (U ⊎ Says A IsAlone x s.segment) (T ⊎ Says B IsAnswer x s.segment) rest

    both : (s : IsSpoken Also start x) → Then s → AllBehind U T (x ∷ rest)
    unfolding only_behind
    both s more = (only_behind s, more)

  -- what a member says next, as its segment is in the trace
  says_next : (P : PlainSegment → Type 0) (side : Side) (p : PathState Carried) (t : ToSend) (sg : PlainSegment) → first_sends p.agenda p ≡ Some t → sg ≡ segment_sent p t
      → (is_joined p.profile ≡ false → path_of p ≡ 0) → MemberSays side P (Path p) → (path_of p ≡ 0) × (t.from ≡ side) × P sg
  says_next P side p t sg next same numbered said =
      let it = subst (SaysNext side P p) next said.1 in (numbered said.0, it.0, subst P (sym same) it.1)

  none_next : (P : PlainSegment → Type 0) (side : Side) (p : PathState Carried) → first_sends p.agenda p ≡ None → MemberSays side P (Path p) → ⊥
  none_next P side p next said = subst (SaysNext side P p) next said.1

  module _ (U T : Type 0) (w : WorldState Carried) (h : Learns U T w) (speaks : (i : ℕ) (c : ActorCrew Carried) → slice_get w.crew i ≡ Some c → MemberSpeaks start c.member)
      (known : CrewKnown (books_in w.books) w) (rest : List Sent) where
    -- after a turn by which nothing is sent
    abbrev After : Turn → Type 0
    After turn = Learns U T (after_turn values turn w)

    quiet : (turn : Turn) → (TurnSays A IsAlone turn w → ⊥) → (TurnSays B IsAnswer turn w → ⊥) → After turn
    quiet turn a b =
        more_learns _ _ U T (after_turn values turn w) (unless U (TurnSays A IsAlone turn w) (λ said. absurd (a said))) (unless T (TurnSays B IsAnswer turn w) (λ said. absurd (b said)))
        (turn_learns start.key_a start.key_b U T w h turn)

    joined_key : (books_in w.books).control_a.fall.joined ≡ true → is_some (books_in w.books).control_a.keys.peer ≡ true
    joined_key is = h.met.fine.joined is

    numbered : (p : PathState Carried) (s : PathSpeaks start p) → is_joined p.profile ≡ nat_lt 0 (path_of p)
    numbered p s = ap is_joined s.4 ∙ ap (nat_lt 0) (sym s.3)

    pub zero_so : (p : PathState Carried) → PathSpeaks start p → is_joined p.profile ≡ false → path_of p ≡ 0
    zero_so p s first = by (path_of p) (sym (numbered p s) ∙ first)
      where
        by : (n : ℕ) → nat_lt 0 n ≡ false → n ≡ 0
        by n none = let low = ltb-false 0 n none in omega (arith, low)

    -- what it sends comes behind what it needs
    pub segment_so : (p : PathState Carried) → PathSpeaks start p → PathKnown (books_in w.books) p → MemberLearns U T (Path p) → (t : ToSend) → first_sends p.agenda p ≡ Some t → ComesBehind U T (path_of p) t.from (segment_sent p t)
    segment_so p said tells learns t next =
        let spoken_t = subst (λ (o : Option ToSend). IfSome o (λ u. Spoken start said.0 p.profile u.from (end_at u.from p) (segment_sent p u))) next said.5 in
        comes U T (books_in w.books) h.book joined_key p tells learns.1 learns.0.born (path_of p) t
        (subst (λ (o : Option ToSend). SendAcks p tells.answers learns.0.born o) next (first_acks p tells.answers learns.0.born p.agenda)) (numbered p said)
        (subst (λ (n : ℕ). Spoken start n p.profile t.from (end_at t.from p) (segment_sent p t)) (sym said.3) spoken_t)
        (subst (λ (o : Option ToSend). IfSome o (λ u. Every (JoinsBy (books_in w.books) u.from) (segment_sent p u).options)) next tells.joins)

    -- a path's step
    path_step : (i : ℕ) (c : ActorCrew Carried) (p : PathState Carried) → slice_get w.crew i ≡ Some c → c.member ≡ Path p → PathSpeaks start p → PathKnown (books_in w.books) p
        → MemberLearns U T (Path p) → ((V W : Type 0) → Learns V W (after_turn values (Turn.Step i) w) → AllBehind V W rest) → AllBehind U T (option_to_list (sent_by (shown_path p)) ++ rest)
    path_step i c p there is said tells learns go = by (first_sends p.agenda p) refl
      where
        turn_says : (P : PlainSegment → Type 0) (side : Side) → TurnSays side P (Turn.Step i) w → MemberSays side P (Path p)
        turn_says P side s = subst (λ (m : Actor Carried). MemberSays side P m) is (subst (ActorSays side P) there s)

        by : (o : Option ToSend) → first_sends p.agenda p ≡ o → AllBehind U T (option_to_list (sent_by (shown_path p)) ++ rest)
        by None next =
            subst (λ (o : Option Sent). AllBehind U T (option_to_list o ++ rest))
            (sym (ap (λ (o : Option ToSend). option_map (sent_as (shown_path p)) (option_map (departing_as (shown_path p)) o)) (first_same p.agenda p ∙ next)))
            (go U T (quiet (Turn.Step i) (λ s. none_next IsAlone A p next (turn_says IsAlone A s)) (λ s. none_next IsAnswer B p next (turn_says IsAnswer B s))))
        by (Some t) next =
            let s = spoken U T p t rest next said (segment_so p said tells learns t next) in
            subst (λ (o : Option Sent). AllBehind U T (option_to_list o ++ rest)) (sym (sent_is U T p t rest next))
            (both U T p t rest s
            (go _ _ (more_learns _ _ _ _ (after_turn values (Turn.Step i) w)
            (λ was. ⊎_elim (λ u. inl u) (λ k. inr (says_next IsAlone A p t s.segment next s.also.1 (zero_so p said) (turn_says IsAlone A k))) was)
            (λ was. ⊎_elim (λ u. inl u) (λ k. inr (says_next IsAnswer B p t s.segment next s.also.1 (zero_so p said) (turn_says IsAnswer B k))) was)
            (turn_learns start.key_a start.key_b U T w h (Turn.Step i)))))

    pub map_at : {X Y : Type 0} → (f : X → Y) (xs : List X) (i : ℕ) → slice_get (map f xs) i ≡ option_map f (slice_get xs i)
    map_at f [] i = refl
    map_at f (y ∷ xs) zero = refl
    map_at f (y ∷ xs) (suc i) = map_at f xs i

    turn_behind : (turn : Turn) → ((V W : Type 0) → Learns V W (after_turn values turn w) → AllBehind V W rest) → AllBehind U T (sent_at turn (shown_world w) ++ rest)
    turn_behind Turn.Round go = go U T (quiet Turn.Round (λ said. said) (λ said. said))
    turn_behind (Turn.Step i) go =
        subst (λ (o : Option (ActorCrew (List ℕ))). AllBehind U T (option_to_list (option_and_then sent_by (crew_path o)) ++ rest)) (sym (map_at shown_crew w.crew i)) (by (slice_get w.crew i) refl)
      where
        none_at : (P : PlainSegment → Type 0) (side : Side) → slice_get w.crew i ≡ None → TurnSays side P (Turn.Step i) w → ⊥
        none_at P side there said = subst (ActorSays side P) there said

        none_app : (P : PlainSegment → Type 0) (side : Side) (c : ActorCrew Carried) (a : _) → slice_get w.crew i ≡ Some c → c.member ≡ App a → TurnSays side P (Turn.Step i) w → ⊥
        none_app P side c a there is said = subst (λ (m : Actor Carried). MemberSays side P m) is (subst (ActorSays side P) there said)

        member : (c : ActorCrew Carried) (m : Actor Carried) → slice_get w.crew i ≡ Some c → c.member ≡ m → MemberSpeaks start m → MemberKnown (books_in w.books) m → MemberLearns U T m
            → AllBehind U T (option_to_list (option_and_then sent_by (member_path (shown_member m))) ++ rest)
        member c (App a) there is said tells learns = go U T (quiet (Turn.Step i) (none_app IsAlone A c a there is) (none_app IsAnswer B c a there is))
        member c (Path p) there is said tells learns = path_step i c p there is said tells learns go

        by : (o : Option (ActorCrew Carried)) → slice_get w.crew i ≡ o → AllBehind U T (option_to_list (option_and_then sent_by (crew_path (option_map shown_crew o))) ++ rest)
        by None there = go U T (quiet (Turn.Step i) (none_at IsAlone A there) (none_at IsAnswer B there))
        by (Some c) there = member c c.member there refl (speaks i c there) (known i c there) (h.crew i c there)

  -- the trace of turns
  run_behind : (turns : List Turn) (v : WorldState Carried) (w : WorldState (List ℕ)) → ((more : List Turn) → world_run octets more w ≡ shown_world (world_run values more v))
      → ((more : List Turn) (i : ℕ) (c : ActorCrew Carried) → slice_get (world_run values more v).crew i ≡ Some c → MemberSpeaks start c.member)
      → ((more : List Turn) → CrewKnown (books_in (world_run values more v).books) (world_run values more v)) → (U T : Type 0) → Learns U T v → AllBehind U T (trace_of turns w)
  run_behind [] v w same speaks known U T h = tt
  run_behind (turn ∷ turns) v w same speaks known U T h =
      subst (λ (x : WorldState (List ℕ)). AllBehind U T (sent_at turn x ++ trace_of turns (after_turn octets turn w))) (sym (same []))
      (turn_behind U T v h (speaks []) (known []) (trace_of turns (after_turn octets turn w)) turn
      (run_behind turns (after_turn values turn v) (after_turn octets turn w) (λ more. same (turn ∷ more)) (λ more. speaks (turn ∷ more)) (λ more. known (turn ∷ more))))

  pub trace_behind : (turns : List Turn) → HasRoom start → NumbersFit start → AllBehind ⊥ ⊥ (trace_of turns (opened_world start))
  trace_behind turns size fit =
      run_behind turns (opened_world start) (opened_world start) (λ more. run_fresh start more size fit) (λ more. valued start more size fit) (λ more. crew_known start more size fit)
      ⊥ ⊥ (opened_learns start)
