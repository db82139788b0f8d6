-- The first record that isn't acknowledged comes to the peer, whatever is lost.
use Rattle.std.proofs.Common.{◌≡◌, refl, sym, subst, ap, ◌∙◌, ◌⊎◌, inl, inr, ⊎_elim, ℕ, ◌+◌, ◌-◌, ◌^◌, ◌<◌, ◌≤◌, max, Bool, true, false, true≢false, if◌then◌else◌, Option, Some, None, IfSome, List, [], ◌∷◌, arith}
use Rattle.std.specs.Prelude.{IsSome}
use Rattle.std.specs.List.{slice_get}
use Rattle.std.proofs.lemmas.Bool.{cases_lt}
use Rattle.std.proofs.lemmas.Option.{same_Some}
use Rattle.sides.specs.declared.side.Side.{Side}
use Rattle.sides.specs.declared.side.Side.TheVariants.{A, B}
use Rattle.link_model.specs.declared.flight.Flight.{Flight}
use Rattle.link_model.specs.State.{LinkState}
use Rattle.link_model.specs.Steps.{next_number, segments_sent, changed, after_send}
use Rattle.link_model.specs.Fate.{is_stripped, is_altered}
use Rattle.path_segments.specs.Options.{PlainOption}
use Rattle.path_segments.specs.Spelled.{PlainSegment}
use Rattle.path_segments.specs.declared.segment.PathOption.TheVariants.{Dss}
use Rattle.subflow_send.specs.Records.{Record, end_of}
use Rattle.subflow_send.specs.declared.record.RecordKind.{RecordKind}
use Rattle.subflow_send.specs.declared.record.RecordKind.TheVariants as kinds
use Rattle.subflow_send.specs.declared.record.Sending.{Sending}
use Rattle.subflow_send.specs.Rules.{is_fin}
use Rattle.subflow_tcp.specs.Emitting.{is_syn}
use Rattle.subflow_tcp.specs.States.{is_closed_to_segments, is_dead}
use Rattle.subflow_tcp.specs.declared.handshake.State.{State}
use Rattle.subflow_tcp.specs.declared.handshake.State.TheVariants as phase
use Rattle.actor_desk.specs.declared.ask.Reply.{Reply}
use Rattle.actor_desk.specs.Words.{is_nil}
use Rattle.path_agenda.specs.Agenda.{emission}
use Rattle.path_agenda.specs.declared.duty.Duty.{Duty}
use Rattle.path_agenda.specs.declared.duty.Duty.TheVariants as duties
use Rattle.path_agenda.specs.declared.duty.AskDuty.TheVariants as ask_duties
use Rattle.path_agenda.specs.declared.duty.SendDuty.TheVariants as send_duties
use Rattle.path_agenda.specs.declared.duty.StepDuty.TheVariants as step_duties
use Rattle.path_core.specs.Codec.{Codec}
use Rattle.path_core.specs.DssOut.{first_piece_options, infinite_or, is_first_piece, piece_mapping, plain_options}
use Rattle.path_core.specs.End.{PathEnd}
use Rattle.path_core.specs.OptionsOut.{record_options}
use Rattle.path_core.specs.Profile.{Profile}
use Rattle.path_core.specs.Shown.{AltersNothing}
use Rattle.path_core.specs.State.{PathState, end_at, with_agenda}
use Rattle.path_core.specs.Steps.{takes, next_round, begins_turn}
use Rattle.path_core.specs.Duties.{answered}
use Rattle.path_core.specs.Events.{tick_of, next_event, happens_if}
use Rattle.path_core.specs.declared.events.Event.{Event}
use Rattle.path_core.specs.declared.events.Event.TheVariants as happenings
use Rattle.world_laws.specs.declared.member.Member.TheVariants.{App, Path}
use Rattle.world_laws.specs.Actors.{Actor, ActorCrew, member_takes, member_next, is_over}
use Rattle.world_laws.specs.Members.{HoldsOfKind}
use Rattle.world_laws.specs.Openings.{Start, opened_world}
use Rattle.world_laws.specs.NeverFalls.{StripsNothing}
use Rattle.world_laws.specs.StampedBooks.{answer_to}
use Rattle.world_laws.specs.Worlds.{WorldState, Turn, after_turn, world_run}
use Rattle.world_laws.specs.Writes.{PathView}
use Rattle.world_laws.proofs.Writes.Paths.{writes_no_more, passes_no_more}
use Rattle.world_laws.proofs.Writes.Steps.{Lasts, settled_lasts, takes_lasts, begins_lasts}
use Rattle.whole_paths.specs.Copies.{IsUnderWay, GoesOnItsWay, CopiesGoOn, CopiesAreNumbered, LinksAreNumbered}
use Rattle.whole_paths.specs.Copies.{GoesOnItsWay as copy}
use Rattle.whole_paths.specs.Expiries.{IsSegmentOf, IsSaidAt, IsToSendAgain, PathsGoAgain, SendsAgain, GoesAgain, Expires}
use Rattle.whole_paths.specs.Flights.{IsFirst, IsCopyOf, IsOnItsWay, IsSentSo, ComesSo, GoesOnTo, RecordsGoOn, IsOnItsWayAtTheEnd, WhatWaitsComes}
use Rattle.whole_paths.specs.Flights.IsOnItsWay.{waits, resends, flies}
use Rattle.whole_paths.specs.Flights.{GoesOnTo as goes}
use Rattle.whole_paths.specs.Harms.{longest_way}
use Rattle.whole_paths.specs.InTime.{ComesFrom, NothingIsOverdue}
use Rattle.whole_paths.specs.Mending.{IsSentSoon}
use Rattle.whole_paths.specs.Kept.{AreKept, IsSameRecord, KeepsWhatWaits, EndsKeepWhatWaits}
use Rattle.whole_paths.specs.Reasons.{IsOutstanding, IsTimedWhereItWaits}
use Rattle.whole_paths.specs.Timers.{TimersAreNear}
use Rattle.whole_paths.specs.Waits.{RunsTo, IsNews, WaitsOn, TimersWaitOn, IsSettledAtTheEnd}
use Rattle.whole_paths.specs.Waits.{WaitsOn as wait}
use Rattle.whole_paths.proofs.Copies.{LinkStep, LinkStays, links_last, link_step, copies_leave}
use Rattle.whole_paths.proofs.Copies.LinkStep.{stays, hands, delivers, is_cut}
use Rattle.whole_paths.proofs.InTime.{is_event, answered_same, passed_same, timer_behind}
use Rattle.whole_paths.proofs.Keeping.{what_waits_is_kept}
use Rattle.whole_paths.proofs.Reasons.{who_waits_has_a_timer}
use Rattle.whole_paths.proofs.Resending.{what_runs_out_goes_again}
use Rattle.whole_paths.proofs.SentSoon.{segments_come_soon}
use Rattle.whole_paths.proofs.Timing.{happens_clock, timers_run_out}
use Rattle.whole_paths.proofs.Turns.{turn_each}
use Rattle.whole_paths.proofs.Waiting.{no_timer_is_put_off}

-- ---- the first record

pub same_record : (r : Record) → IsSameRecord r r
same_record r = record { pos = refl; kind = refl; piece = refl; mapping = refl }

-- the first one stays first, or SND.UNA rises
pub first_stays : (r : Record) (e f : PathEnd) → KeepsWhatWaits e f → IsFirst r e → IsFirst r f ⊎ IsNews e f
first_stays r e f kept h =
    by f.tcp.send.records refl
    (subst (λ rs. AreKept (λ (x : Record). (e.tcp.send.una < f.tcp.send.una) × (end_of x ≤ f.tcp.send.una)) IsSameRecord rs f.tcp.send.records) h.records kept.records)
  where
    by : (rs : List Record) → f.tcp.send.records ≡ rs → AreKept (λ (x : Record). (e.tcp.send.una < f.tcp.send.una) × (end_of x ≤ f.tcp.send.una)) IsSameRecord (h.first ∷ h.others) rs
        → IsFirst r f ⊎ IsNews e f
    by [] is k = inr (IsNews.on_subflow k.0.0)
    by (x ∷ rs) is k = ⊎_elim
        (λ gone. inr (IsNews.on_subflow gone.0.0))
        (λ there. inl (record {
          first = x;
          others = rs;
          records = is;
          same = record { pos = there.0.pos ∙ h.same.pos; kind = there.0.kind ∙ h.same.kind; piece = there.0.piece ∙ h.same.piece; mapping = there.0.mapping ∙ h.same.mapping };
        }))
        k

pub same_segment : (r x : Record) (segment : PlainSegment) → IsSameRecord r x → IsSegmentOf x segment → IsSegmentOf r segment
same_segment r x segment same h = record {
  position = h.position ∙ same.pos;
  syn = subst (λ kind. segment.syn ≡ is_syn kind) same.kind h.syn;
  fin = subst (λ kind. segment.fin ≡ is_fin kind) same.kind h.fin;
  rst = h.rst;
  payload = h.payload ∙ same.piece;
}

-- the options say neither the kind again nor how often the record was sent
same_options : (c : Profile) (s : Side) (e : PathEnd) (r : Record) (kind : RecordKind) (sending : Sending) (k : RecordKind) → record_options k c s (record r { kind = kind; sending = sending }) e ≡ record_options k c s r e
same_options c s e r kind sending kinds.Syn = refl
same_options c s e r kind sending kinds.Data =
    ap (λ (os : List PlainOption). if e.modes.identity then plain_options r.pos e
    else infinite_or e.modes.own_infinite (if is_first_piece s r e then os else Dss (Some e.receiving.next) (Some (piece_mapping c s r)) ∷ []) e) (by e.modes.peer_key)
  where
    by : (o : Option ℕ) → first_piece_options c o (record r { kind = kind; sending = sending }) e ≡ first_piece_options c o r e
    by None = refl
    by (Some peer) = refl
same_options c s e r kind sending kinds.Fin = refl

pub same_said : (c : Profile) (s : Side) (e : PathEnd) (r x : Record) (segment : PlainSegment) → IsSameRecord r x → IsSaidAt c s x e segment → IsSaidAt c s r e segment
same_said c s e r x segment same h = record {
  options = h.options
      ∙ ap (λ kind. record_options kind c s x e) same.kind
      ∙ ap (λ pos. record_options r.kind c s (record x { pos = pos }) e) same.pos
      ∙ ap (λ piece. record_options r.kind c s (record x { pos = r.pos; piece = piece }) e) same.piece
      ∙ ap (λ mapping. record_options r.kind c s (record x { pos = r.pos; piece = r.piece; mapping = mapping }) e) same.mapping
      ∙ same_options c s e r x.kind x.sending r.kind;
  acknowledged = h.acknowledged;
}

module _ {C : Type 0} where
  -- ---- how a path is spelled, how long a segment is under way on it, and its clock

  abbrev pub SameProfile : PathState C → PathState C → Type 0
  SameProfile p q = q.profile ≡ p.profile

  pub profile_lasts : Lasts SameProfile
  profile_lasts = record { agenda = λ ds p. refl; chains = λ p q r x y. y ∙ x; passes = λ d p. ap (λ (v : PathView C). v.profile) (passes_no_more d p).same }

  abbrev pub SameClock : PathState C → PathState C → Type 0
  SameClock p q = q.clock ≡ p.clock

  pub clock_lasts : Lasts SameClock
  clock_lasts = record { agenda = λ ds p. refl; chains = λ p q r x y. y ∙ x; passes = λ d p. (passed_same d p).clock }

  abbrev pub SameLines : PathState C → PathState C → Type 0
  SameLines p q = q.link.lines ≡ p.link.lines

  -- an event alone moves the clock, to its tick
  pub record Frames (p q : PathState C) : Type 0 where
    pub profile : SameProfile p q
    pub lines : SameLines p q
    pub way : (s : Side) → longest_way s q.link ≡ longest_way s p.link
    pub stands : (d : Duty) (others : List Duty) → p.agenda ≡ d ∷ others → is_event d ≡ false → SameClock p q
    pub moves : (event : Event) (others : List Duty) → p.agenda ≡ duties.Step step_duties.Events ∷ others → next_event p ≡ Some event → (q ≡ p) ⊎ (q.clock ≡ max p.clock (tick_of event))

  sent_way : (strip alter : Side → C → C) (from s : Side) (carried : C) (size now : ℕ) (link : LinkState C) → longest_way s (after_send strip alter from carried size now link) ≡ longest_way s link
  sent_way strip alter A s carried size now link = refl
  sent_way strip alter B s carried size now link = refl

  link_way : {d : Duty} (k : Codec C) (s : Side) (p q : PathState C) → LinkStep d k p q → longest_way s q.link ≡ longest_way s p.link
  link_way k s p q (stays is) = ap (λ (l : LinkState C). longest_way s l) is
  link_way k s p q (hands from carried size still is) = ap (λ (l : LinkState C). longest_way s l) is ∙ sent_way (k.strips p.profile.spelling) (k.alters p.profile.spelling) from s carried size p.clock p.link
  link_way k s p q (delivers event due next is) = ap (λ (l : LinkState C). longest_way s l) is
  link_way k s p q (is_cut line next action is dead) = ap (λ (l : LinkState C). longest_way s l) is

  sent_lines : (strip alter : Side → C → C) (from : Side) (carried : C) (size now : ℕ) (link : LinkState C) → (after_send strip alter from carried size now link).lines ≡ link.lines
  sent_lines strip alter A carried size now link = refl
  sent_lines strip alter B carried size now link = refl

  link_lines : {d : Duty} (k : Codec C) (p q : PathState C) → LinkStep d k p q → SameLines p q
  link_lines k p q (stays is) = ap (λ (l : LinkState C). l.lines) is
  link_lines k p q (hands from carried size still is) = ap (λ (l : LinkState C). l.lines) is ∙ sent_lines (k.strips p.profile.spelling) (k.alters p.profile.spelling) from carried size p.clock p.link
  link_lines k p q (delivers event due next is) = ap (λ (l : LinkState C). l.lines) is
  link_lines k p q (is_cut line next action is dead) = ap (λ (l : LinkState C). l.lines) is

  pub takes_lines : (k : Codec C) (r : Reply) (p : PathState C) → SameLines p (takes k r p)
  takes_lines k r p = by p.agenda
    where
      by : (ds : List Duty) → (takes k r (with_agenda ds p)).link.lines ≡ p.link.lines
      by [] = refl
      by (d ∷ ds) =
          let x : PathState C = with_agenda (d ∷ ds) p in let y : PathState C = answered k d r x in
          ap (λ (l : LinkState C). l.lines) (settled_lasts LinkStays links_last y.agenda y) ∙ link_lines k x y (link_step k d r x)

  pub begins_lines : (p : PathState C) → SameLines p (begins_turn p)
  begins_lines p = ap (λ (l : LinkState C). l.lines) (begins_lasts LinkStays links_last p)

  pub takes_frames : (k : Codec C) (r : Reply) (p : PathState C) → Frames p (takes k r p)
  takes_frames k r p = record {
    profile = takes_lasts SameProfile profile_lasts k r p (λ d. ap (λ (v : PathView C). v.profile) (writes_no_more k d r p).same);
    lines = takes_lines k r p;
    way = λ s. way s p.agenda;
    stands = λ d others is other. subst (λ ds. (takes k r (with_agenda ds p)).clock ≡ p.clock) (sym is) (stand d others other);
    moves = λ event others is next. inr (subst (λ ds. (takes k r (with_agenda ds p)).clock ≡ max p.clock (tick_of event)) (sym is) (move event others next));
  }
    where
      way : (s : Side) (ds : List Duty) → longest_way s (takes k r (with_agenda ds p)).link ≡ longest_way s p.link
      way s [] = refl
      way s (d ∷ ds) =
          let x : PathState C = with_agenda (d ∷ ds) p in let y : PathState C = answered k d r x in
          ap (λ (l : LinkState C). longest_way s l) (settled_lasts LinkStays links_last y.agenda y) ∙ link_way k s x y (link_step k d r x)

      stand : (d : Duty) (others : List Duty) → is_event d ≡ false → (takes k r (with_agenda (d ∷ others) p)).clock ≡ p.clock
      stand d others other =
          let x : PathState C = with_agenda (d ∷ others) p in let y : PathState C = answered k d r x in
          settled_lasts SameClock clock_lasts y.agenda y ∙ (answered_same k d r x other).clock

      move : (event : Event) (others : List Duty) → next_event p ≡ Some event → (takes k r (with_agenda (duties.Step step_duties.Events ∷ others) p)).clock ≡ max p.clock (tick_of event)
      move event others next =
          let x : PathState C = with_agenda (duties.Step step_duties.Events ∷ others) p in let y : PathState C = answered k (duties.Step step_duties.Events) r x in
          settled_lasts SameClock clock_lasts y.agenda y ∙ subst (λ o. (happens_if k o r x).clock ≡ max p.clock (tick_of event)) (sym next) (happens_clock k event r x)

  pub next_frames : (p : PathState C) → is_nil p.agenda ≡ true → Frames p (next_round p)
  next_frames p over =
      let q : PathState C = record p { clock = p.until; until = p.until + 100 } in
      record {
        profile = begins_lasts SameProfile profile_lasts q;
        lines = begins_lines q;
        way = λ s. ap (λ (l : LinkState C). longest_way s l) (begins_lasts LinkStays links_last q);
        stands = λ d others is other. none d others is;
        moves = λ event others is next. none (duties.Step step_duties.Events) others is;
      }
    where
      none : {X : Type 0} (d : Duty) (others : List Duty) → p.agenda ≡ d ∷ others → X
      none d others is = absurd (true≢false (sym over ∙ ap is_nil is))

  abbrev pub FramesStay : Actor C → Actor C → Type 0
  FramesStay (Path p) (Path q) = Frames p q
  FramesStay (App a) (App b) = Unit {0}
  FramesStay _ _ = ⊥

  member_frames : (k : Codec C) (r : Reply) (m : Actor C) → FramesStay m (member_takes k r m)
  member_frames k r (App a) = tt
  member_frames k r (Path p) = takes_frames k r p

  member_begins : (m : Actor C) → is_over m ≡ true → FramesStay m (member_next m)
  member_begins (App a) over = tt
  member_begins (Path p) over = next_frames p over

  member_stays : (m : Actor C) → FramesStay m m
  member_stays (App a) = tt
  member_stays (Path p) = record { profile = refl; lines = refl; way = λ s. refl; stands = λ d others is other. refl; moves = λ event others is next. inl refl }

  pub timer_from : (s : Side) (tick : ℕ) (p : PathState C) → ComesFrom p.clock p → (end_at s p).tcp.timing.timer ≡ Some tick → p.clock ≤ tick
  timer_from A tick p h runs = subst (λ o. IfSome o (λ t. p.clock ≤ t)) runs h.timer_a
  timer_from B tick p h runs = subst (λ o. IfSome o (λ t. p.clock ≤ t)) runs h.timer_b

  timer_near : (s : Side) (tick : ℕ) (p : PathState C) → TimersAreNear p → (end_at s p).tcp.timing.timer ≡ Some tick → tick ≤ p.clock + 60000
  timer_near A tick p h runs = subst (λ o. IfSome o (λ t. t ≤ p.clock + 60000)) runs h.a.timer
  timer_near B tick p h runs = subst (λ o. IfSome o (λ t. t ≤ p.clock + 60000)) runs h.b.timer

  -- ---- one turn of a path

  module _ (k : Codec C) (s : Side) (r : Record) (by_then : ℕ) (p q : PathState C) (kept : KeepsWhatWaits (end_at s p) (end_at s q)) (frames : Frames p q)
      (Was : PathEnd → Bool → Bool → Type 0) (was : IsFirst r (end_at s p) → Was (end_at s p) (is_stripped s (next_number s p.link) p.clock p.link.lines) (is_altered s (next_number s p.link) p.link.lines)) where
    abbrev Next : Type 0
    Next = (go : GoesOnTo k s r by_then p q) × ComesSo Was go

    -- the first record is still first, or there is news
    with_first : IsFirst r (end_at s p) → (IsFirst r (end_at s q) → Next) → Next
    with_first h then_so = ⊎_elim then_so (λ news. (goes.news news, tt)) (first_stays r (end_at s p) (end_at s q) kept h)

    same_on : q ≡ p → (way : IsOnItsWay k s r by_then p) → IsSentSo Was way → Next
    same_on same way so = let there = subst (λ v. (w : IsOnItsWay k s r by_then v) × IsSentSo Was w) (sym same) (way, so) in (goes.on there.0, there.1)

    waits_goes : GoesAgain k p q → ComesFrom p.clock p → (tick : ℕ) → tick + 400 ≤ by_then → RunsTo tick (end_at s p) → IsFirst r (end_at s p) → WaitsOn s tick p q → Next
    waits_goes again past tick low h first (wait.runs on) = with_first first (λ still. (goes.on (waits tick (omega (arith, low)) on still), tt))
    waits_goes again past tick low h first (wait.news news) = (goes.news news, tt)
    waits_goes again past tick low h first (wait.gone gone) = (goes.gone gone, tt)
    waits_goes again past tick low h first (wait.runs_out at out) = ⊎_elim
        (λ same. same_on same (waits tick low h first) tt)
        (λ expired. ⊎_elim (λ same. same_on same (waits tick low h first) tt) (λ clock. ran_out expired clock) (frames.moves (happenings.Fires s at) out.others out.first out.next))
        (again.fires s at out)
      where
        ran_out : Expires s p q → q.clock ≡ max p.clock at → Next
        ran_out expired clock = ⊎_elim
            (λ few. with_first first (λ still. (goes.on (resends (in_time clock) (expired.again few).next still), tt)))
            (λ many. (goes.gone (expired.sixth many), tt))
            (cases_lt (end_at s p).tcp.timing.expiries 5)
          where
            in_time : q.clock ≡ max p.clock at → q.clock + 400 ≤ by_then
            in_time clock =
                let early = timer_behind s (happenings.Fires s at) tick p out.next h.timer in
                let from = timer_from s tick p past h.timer in
                omega (arith, clock, early, from, low)

    flown : CopiesAreNumbered p → SendsAgain k s p q → IsFirst r (end_at s p) → p.clock + 400 ≤ by_then → segments_sent s p.link < 2 ^ 64 - 1 → Next
    flown numbered sent h low few = ⊎_elim (λ harmed. (goes.harmed harmed, tt)) by (segments_come_soon k p q numbered s sent.segment few sent.taken)
      where
        of_it : IsSegmentOf r sent.segment
        of_it = same_segment r h.first sent.segment h.same (sent.first h.first h.others h.records).0

        by : IsSentSoon k s sent.segment p q → Next
        by c = (
          goes.on (flies c.copy (let soon = c.soon in omega (arith, soon, low)) c.there (record {
            to = c.to;
            segment = sent.segment;
            of_it = of_it;
            sender = end_at s p;
            says = subst (λ c. IsSaidAt c s r (end_at s p) sent.segment) (sym frames.profile) (same_said p.profile s (end_at s p) r h.first sent.segment h.same (sent.first h.first h.others h.records).1);
            stripped = c.stripped;
            altered = c.altered;
            whole = λ strips. c.whole (subst StripsNothing frames.lines strips);
            plain = λ alters. c.plain (subst AltersNothing frames.lines alters);
            carried = subst (λ (y : Profile). c.copy.carried ≡ changed (k.strips y.spelling s) (k.alters y.spelling s) c.stripped c.altered (k.makes y.spelling s sent.segment)) (sym frames.profile) c.carried;
          })),
          subst (λ b. Was (end_at s p) b c.altered) (sym c.strips_it) (subst (λ b. Was (end_at s p) (is_stripped s (next_number s p.link) p.clock p.link.lines) b) (sym c.alters_it) (was h)),
        )

    resends_goes : CopiesAreNumbered p → GoesAgain k p q → p.clock + 400 ≤ by_then → segments_sent s p.link < 2 ^ 64 - 1 → IsToSendAgain s p → IsFirst r (end_at s p) → Next
    resends_goes numbered again low few (inl is) h = ⊎_elim
        (λ same. same_on same (resends low (inl is) h) tt)
        (λ given. (goes.on (resends still (inr given.0) (subst (IsFirst r) (sym given.1) h)), tt))
        (again.gives_back s is)
      where
        still : q.clock + 400 ≤ by_then
        still = let clock = frames.stands (duties.Ask (ask_duties.Return s)) (duties.Send (send_duties.Resend s) ∷ emission s) is refl in omega (arith, clock, low)
    resends_goes numbered again low few (inr is) h = ⊎_elim
        (λ same. same_on same (resends low (inr is) h) tt)
        (λ sent. flown numbered sent h low few)
        (again.sends s is)

    flies_goes : (f : Flight C) → f.tick ≤ by_then → IsUnderWay f p → (h : IsCopyOf k s r p f) → Was h.sender h.stripped h.altered → GoesOnItsWay f p q → Next
    flies_goes f low before h so (copy.on there) = (
      goes.on (flies f low there (record {
        to = h.to;
        segment = h.segment;
        of_it = h.of_it;
        sender = h.sender;
        says = subst (λ c. IsSaidAt c s r h.sender h.segment) (sym frames.profile) h.says;
        stripped = h.stripped;
        altered = h.altered;
        whole = λ strips. h.whole (subst StripsNothing frames.lines strips);
        plain = λ alters. h.plain (subst AltersNothing frames.lines alters);
        carried = subst (λ (c : Profile). f.carried ≡ changed (k.strips c.spelling s) (k.alters c.spelling s) h.stripped h.altered (k.makes c.spelling s h.segment)) (sym frames.profile) h.carried;
      })),
      so,
    )
    flies_goes f low before h so (copy.arrives others first next) = (goes.arrives f low before h others first next, so)
    flies_goes f low before h so (copy.dies line next is dead) = (goes.dies line next is dead, tt)

    goes_by : CopiesAreNumbered p → TimersWaitOn (Path p) (Path q) → GoesAgain k p q → CopiesGoOn (Path p) (Path q) → ComesFrom p.clock p → segments_sent s p.link < 2 ^ 64 - 1 → (way : IsOnItsWay k s r by_then p) → IsSentSo Was way → Next
    goes_by numbered timers again copies past few (waits tick low h first) so = waits_goes again past tick low h first (timers s tick h)
    goes_by numbered timers again copies past few (resends low is first) so = resends_goes numbered again low few is first
    goes_by numbered timers again copies past few (flies f low there h) so = flies_goes f low there h so (copies f there)

  -- ---- the world

  abbrev AreNumbered : Actor C → Type 0
  AreNumbered = HoldsOfKind (λ app. Unit {0}) (λ (p : PathState C). CopiesAreNumbered p)

  abbrev ComesInTime : Actor C → Type 0
  ComesInTime = HoldsOfKind (λ app. Unit {0}) (λ (p : PathState C). ComesFrom p.clock p)

  -- what becomes of a record on its way, with what held of each sender, which was so where the record was the first
  abbrev pub SentGoOn : (PathEnd → Bool → Bool → Type 0) → Codec C → Actor C → Actor C → Type 0
  SentGoOn Was k (Path p) (Path q) = (s : Side) (r : Record) (by_then : ℕ) → segments_sent s p.link < 2 ^ 64 - 1
      → (IsFirst r (end_at s p) → Was (end_at s p) (is_stripped s (next_number s p.link) p.clock p.link.lines) (is_altered s (next_number s p.link) p.link.lines))
      → (way : IsOnItsWay k s r by_then p) → IsSentSo Was way → (go : GoesOnTo k s r by_then p q) × ComesSo Was go
  SentGoOn Was k (App a) (App b) = Unit {0}
  SentGoOn Was k _ _ = ⊥

  records_go_on : (Was : PathEnd → Bool → Bool → Type 0) (k : Codec C) (m n : Actor C) → EndsKeepWhatWaits m n → TimersWaitOn m n → PathsGoAgain k m n → CopiesGoOn m n → FramesStay m n → ComesInTime m
      → AreNumbered m → SentGoOn Was k m n
  records_go_on Was k (App a) (App b) kept timers again copies frames past numbered = tt
  records_go_on Was k (Path p) (Path q) kept timers again copies frames past numbered = λ s r by_then few was way so. goes_by k s r by_then p q (kept s) frames Was was numbered timers again copies past few way so
  records_go_on Was k (App a) (Path q) kept timers again copies frames past numbered = absurd kept
  records_go_on Was k (Path p) (App b) kept timers again copies frames past numbered = absurd kept

  -- whatever its sender
  any_sender : {s : Side} {r : Record} {n : ℕ} {p : PathState C} (k : Codec C) (way : IsOnItsWay k s r n p) → IsSentSo (λ e strips alters. Unit {0}) way
  any_sender k (waits tick low h first) = tt
  any_sender k (resends low is first) = tt
  any_sender k (flies f low there h) = tt

  whoever_sent : (k : Codec C) (m n : Actor C) → SentGoOn (λ e strips alters. Unit {0}) k m n → RecordsGoOn k m n
  whoever_sent k (App a) (App b) h = tt
  whoever_sent k (Path p) (Path q) h = λ s r by_then few way. (h s r by_then few (λ first. tt) way (any_sender k way)).0
  whoever_sent k (App a) (Path q) h = absurd h
  whoever_sent k (Path p) (App b) h = absurd h

  pub frames_stay : (k : Codec C) (w : WorldState C) (turn : Turn) (actor : ℕ) (c : ActorCrew C) → slice_get w.crew actor ≡ Some c
      → (d : ActorCrew C) × (slice_get (after_turn k turn w).crew actor ≡ Some d) × FramesStay c.member d.member
  frames_stay k w turn = turn_each k (λ x y. FramesStay x.member y.member) (λ x. member_stays x.member) (λ ask books x. member_frames k (answer_to books ask) x.member)
      (λ stamp x over. member_begins x.member over) turn w

  pub sent_go_on : (Was : PathEnd → Bool → Bool → Type 0) (k : Codec C) (w : WorldState C) → NothingIsOverdue w → LinksAreNumbered w → (turn : Turn) (actor : ℕ) (c : ActorCrew C) → slice_get w.crew actor ≡ Some c
      → (d : ActorCrew C) × (slice_get (after_turn k turn w).crew actor ≡ Some d) × SentGoOn Was k c.member d.member
  sent_go_on Was k w past numbered turn actor c there =
      let kept = what_waits_is_kept k w (turn ∷ []) actor c there in
      let d : ActorCrew C = kept.0 in
      let timers = (no_timer_is_put_off k).waits w turn actor c there in
      let again = what_runs_out_goes_again k w turn actor c there in
      let copies = copies_leave k w turn actor c there in
      let frames = frames_stay k w turn actor c there in (
        d,
        kept.1,
        records_go_on Was k c.member d.member kept.2
            (subst (λ (x : ActorCrew C). TimersWaitOn c.member x.member) (same_Some timers.0 d (sym timers.1 ∙ kept.1)) timers.2)
            (subst (λ (x : ActorCrew C). PathsGoAgain k c.member x.member) (same_Some again.0 d (sym again.1 ∙ kept.1)) again.2)
            (subst (λ (x : ActorCrew C). CopiesGoOn c.member x.member) (same_Some copies.0 d (sym copies.1 ∙ kept.1)) copies.2)
            (subst (λ (x : ActorCrew C). FramesStay c.member x.member) (same_Some frames.0 d (sym frames.1 ∙ kept.1)) frames.2)
            (past.each actor c there)
            (numbered.each actor c there),
      )

  goes_on_so : (k : Codec C) (w : WorldState C) → NothingIsOverdue w → LinksAreNumbered w → (turn : Turn) (actor : ℕ) (c : ActorCrew C) → slice_get w.crew actor ≡ Some c
      → (d : ActorCrew C) × (slice_get (after_turn k turn w).crew actor ≡ Some d) × RecordsGoOn k c.member d.member
  goes_on_so k w past numbered turn actor c there = let go = sent_go_on (λ e strips alters. Unit {0}) k w past numbered turn actor c there in (go.0, go.1, whoever_sent k c.member go.0.member go.2)

  -- at the end of a turn
  abbrev pub SentAtTheEnd : (PathEnd → Bool → Bool → Type 0) → Codec C → PathState C → Type 0
  SentAtTheEnd Was k p = p.agenda ≡ [] → (s : Side) → is_closed_to_segments (end_at s p).tcp.state ≡ false → (r : Record) (others : List Record) → (end_at s p).tcp.send.records ≡ r ∷ others
      → (way : IsOnItsWay k s r (p.clock + 60000 + 400) p) × IsSentSo Was way

  begins_so : (Was : PathEnd → Bool → Bool → Type 0) (k : Codec C) (p : PathState C) → IsTimedWhereItWaits p → IsSettledAtTheEnd p → TimersAreNear p → SentAtTheEnd Was k p
  begins_so Was k p timed settled near over s living r others is = by (end_at s p).tcp.timing.timer refl (timed over s living (IsOutstanding.on_subflow r others is))
    where
      alive : (state : State) → is_closed_to_segments state ≡ false → is_dead state ≡ false
      alive phase.Dead living = absurd (true≢false living)
      alive _ living = refl

      by : (o : Option ℕ) → (end_at s p).tcp.timing.timer ≡ o → IsSome o → (way : IsOnItsWay k s r (p.clock + 60000 + 400) p) × IsSentSo Was way
      by None none some = absurd (true≢false (sym some))
      by (Some tick) runs some = (
        waits tick
            (let low = timer_near s tick p near runs in omega (arith, low))
            (record { timer = runs; settled = settled over s (alive (end_at s p).tcp.state living); first = r; others = others; records = is; living = living })
            (record { first = r; others = others; records = is; same = same_record r }),
        tt,
      )

  abbrev pub OfPaths : (PathState C → Type 0) → Actor C → Type 0
  OfPaths P = HoldsOfKind (λ app. Unit {0}) P

  member_so : (Was : PathEnd → Bool → Bool → Type 0) (k : Codec C) (m : Actor C) → OfPaths IsTimedWhereItWaits m → OfPaths IsSettledAtTheEnd m → OfPaths TimersAreNear m → OfPaths (SentAtTheEnd Was k) m
  member_so Was k (App a) timed settled near = tt
  member_so Was k (Path p) timed settled near = begins_so Was k p timed settled near

  pub sent_at_the_end : (Was : PathEnd → Bool → Bool → Type 0) (k : Codec C) (start : Start) (turns : List Turn) (actor : ℕ) (c : ActorCrew C) → slice_get (world_run k turns (opened_world start)).crew actor ≡ Some c
      → OfPaths (SentAtTheEnd Was k) c.member
  sent_at_the_end Was k start turns actor c there = member_so Was k c.member ((who_waits_has_a_timer k start turns).each actor c there) (((no_timer_is_put_off k).settled start turns).each actor c there)
      ((timers_run_out k start turns).each actor c there)

  ways_at_the_end : (k : Codec C) (m : Actor C) → OfPaths (SentAtTheEnd (λ e strips alters. Unit {0}) k) m → OfPaths (IsOnItsWayAtTheEnd k) m
  ways_at_the_end k (App a) h = tt
  ways_at_the_end k (Path p) h = λ over s living r others is. (h over s living r others is).0

  pub what_waits_comes : (k : Codec C) → WhatWaitsComes k
  what_waits_comes k = record {
    begins = λ start turns. record { each = λ actor c there. ways_at_the_end k c.member (sent_at_the_end (λ e strips alters. Unit {0}) k start turns actor c there) };
    goes_on = goes_on_so k;
  }
