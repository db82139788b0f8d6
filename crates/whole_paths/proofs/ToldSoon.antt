-- An answer that is owed goes, and comes unless it is harmed, by each turn between open ends; one that is overtaken came by what overtook it.
use Rattle.std.proofs.Common.{◌≡◌, refl, sym, subst, ap, ◌∙◌, ◌⊎◌, inl, inr, ⊎_elim, ℕ, suc, ◌+◌, ◌<◌, ◌≤◌, arith, nat_lt, ◌==◌, ◌&&◌, ◌||◌, Bool, true, false, true≢false, Option, Some, None, IfSome, List, ◌∷◌, length, le_refl}
use Rattle.std.specs.Prelude.{option_map}
use Rattle.std.specs.List.{list_any}
use Rattle.std.proofs.lemmas.Bool.{and_from, and_parts, both_ways, cases_lt, eq-eqb, le-leb, lt-ltb}
use Rattle.std.proofs.lemmas.Option.{same_Some}
use Rattle.path_segments.specs.Heard.{HeardSegment}
use Rattle.path_segments.specs.Laws.{meant}
use Rattle.path_segments.specs.Spelled.{PlainSegment}
use Rattle.path_segments.specs.declared.position.HeardPosition.TheVariants.{At}
use Rattle.sides.specs.declared.side.Side.{Side}
use Rattle.sides.specs.declared.side.Side.TheVariants.{A, B}
use Rattle.sides.specs.Side.{peer}
use Rattle.link_script.specs.Places.{same_side}
use Rattle.link_model.specs.declared.flight.Flight.{Flight}
use Rattle.link_model.specs.Fate.{is_altered, is_stripped}
use Rattle.link_model.specs.Steps.{arriving, due_of, is_due, next_number}
use Rattle.stream_lanes.specs.Words.{Every}
use Rattle.subflow_tcp.specs.Judging.{ends_in_window, is_acceptable, is_at_right_edge, is_in_window, meaning_of}
use Rattle.subflow_tcp.specs.Segments.{occupied}
use Rattle.subflow_tcp.specs.States.{is_dead, is_opening}
use Rattle.subflow_tcp.specs.declared.handshake.State.{State as EndPhase}
use Rattle.subflow_tcp.specs.declared.handshake.State.TheVariants as phase
use Rattle.subflow_tcp.specs.declared.segments.Outgoing.{Outgoing}
use Rattle.subflow_tcp.specs.declared.verdicts.Meaning.TheVariants as means
use Rattle.path_agenda.specs.declared.duty.Duty.{Duty}
use Rattle.path_agenda.specs.declared.duty.Duty.TheVariants as duties
use Rattle.path_agenda.specs.declared.duty.StepDuty.TheVariants as step_duties
use Rattle.path_core.specs.Arrival.{acknowledged_in, copy_of, heard_in}
use Rattle.path_core.specs.End.{PathEnd}
use Rattle.path_core.specs.Events.{next_event}
use Rattle.path_core.specs.Handover.{handed}
use Rattle.path_core.specs.Judged.{judged_of, taken_as}
use Rattle.path_core.specs.Looking.{first_sends, segment_sent}
use Rattle.path_core.specs.OptionsIn.{items_of, options_heard}
use Rattle.path_core.specs.State.{PathState, end_at}
use Rattle.path_core.specs.Values.{Carried, as_arrived, values}
use Rattle.path_core.specs.declared.events.Event.TheVariants as happenings
use Rattle.path_core.specs.declared.judged.Judged.TheVariants as judged
use Rattle.world_laws.specs.Openings.{Start}
use Rattle.world_laws.specs.Worlds.{WorldState, Turn, after_turn}
use Rattle.world_laws.specs.Writes.{side_of}
use Rattle.world_laws.proofs.Whole.Ends.{MeansIs, means_so}
use Rattle.world_laws.proofs.Worlds.Finding.{find_every, one_side}
use Rattle.world_laws.specs.RoundDone.{reached}
use Rattle.world_laws.proofs.Numbers.TellSmall.{AnswerTells}
use Rattle.whole_paths.specs.Answered.{AcksGoFirst, HasAnswered, IsBareAck}
use Rattle.whole_paths.specs.Answered.{IsBareAck as bare}
use Rattle.whole_paths.specs.AsFar.{stage}
use Rattle.whole_paths.specs.Brought.{Comes}
use Rattle.whole_paths.specs.Came.{AcksUpTo, AcksWhatCame}
use Rattle.whole_paths.specs.Copies.{GoesOnItsWay, IsUnderWay}
use Rattle.whole_paths.specs.Copies.{GoesOnItsWay as copy}
use Rattle.whole_paths.specs.Finish.{is_harmed}
use Rattle.whole_paths.specs.Hearing.{Counts, PathsCount}
use Rattle.whole_paths.specs.LastFin.{FinIsLast}
use Rattle.whole_paths.specs.Mending.{AnswersStay, EachAnswerComesSoon, IsAnswerFor, IsBegunTurn, IsSentSoon, IsToldBy, LeavesRoomFor}
use Rattle.whole_paths.specs.Mending.IsToldBy.{heard, comes}
use Rattle.whole_paths.specs.Mild.{IsMildStart, is_harsh}
use Rattle.whole_paths.specs.News.{one_if}
use Rattle.whole_paths.specs.OpenCourses.{IsNow}
use Rattle.whole_paths.specs.Owed.{IsToRefuse}
use Rattle.whole_paths.specs.Owed.{IsToRefuse as refuse}
use Rattle.whole_paths.specs.Saying.{HandsOver, PathsHandOver, SaysWhatCame}
use Rattle.whole_paths.specs.Saying.{SaysWhatCame as said_so}
use Rattle.whole_paths.proofs.Arrivals.{sender_of, taken_so}
use Rattle.whole_paths.proofs.Clearing.{Clears, MemberClears, each_clears, never_refuses}
use Rattle.whole_paths.proofs.Copied.{CopiesWere, WasThere, each_copy_was_there}
use Rattle.whole_paths.proofs.Copied.{WasThere as was}
use Rattle.whole_paths.proofs.Exchanges.{Known, SameHeader, below_limit, changed_said, under_way}
use Rattle.whole_paths.proofs.Hearing.{each_acknowledgement_counts}
use Rattle.whole_paths.proofs.LastFin.{fins_are_last}
use Rattle.whole_paths.proofs.Owing.{copies_are_answered}
use Rattle.whole_paths.proofs.Paying.{StillOwed, Turned, TurnedTo, refusing, sends_on, turned_to}
use Rattle.whole_paths.proofs.Paying.{StillOwed as owing}
use Rattle.whole_paths.proofs.Reaching.{BelowTo, IsBelow, Overtakes, ends_stay_below}
use Rattle.whole_paths.proofs.RecordWaits.{edge_up, last, nxt_up, una_up}
use Rattle.whole_paths.proofs.RecordsWell.{by_turn, copies, holds_p, known, numbered, unbroken_p}
use Rattle.whole_paths.proofs.Saying.{AllSpeak, Speaks, ToSend, duty_speaks, each_segment_says_what_came, resets_by}
use Rattle.whole_paths.proofs.Saying.{Speaks as spoken}
use Rattle.whole_paths.proofs.SentSoon.{numbered_so, segments_come_soon}
use Rattle.whole_paths.proofs.SentWithin.{EndsWithin, SentWithin, all_sent_within}
use Rattle.whole_paths.specs.Straying.{IsOpenFrom}

pub not_opening : (state : EndPhase) → 3 ≤ stage state → is_opening state ≡ true → ⊥
not_opening phase.SynSent high is = absurd (omega (arith, high))
not_opening _ high is = true≢false (sym is)

or_right : (b c : Bool) → c ≡ true → (b || c) ≡ true
or_right true c is = refl
or_right false c is = is

-- what is acknowledged, as it is heard
heard_ack : (o : Option ℕ) (n : ℕ) → acknowledged_in (option_map (λ n. At n) o) ≡ Some n → o ≡ Some n
heard_ack None n is = cc
heard_ack (Some m) n is = is

-- a path sends nothing where an event is next
never_event : (ds others : List Duty) (p : PathState Carried) (x : ToSend) → ds ≡ duties.Step step_duties.Events ∷ others → first_sends ds p ≡ Some x → ⊥
never_event ds others p x is sends = (let none : first_sends ds p ≡ None = ap (λ (xs : List Duty). first_sends xs p) is in let both : None ≡ Some x = sym none ∙ sends in cc)

-- What an end says as it sends: unless it is a reset a segment acknowledges all that came; and where an acknowledgement is due it is harmed, or heard within 400
-- ticks.
pub record SaysSoon (s : Side) (p q : PathState Carried) : Type 0 where
  pub acks : (x : ToSend) → first_sends p.agenda p ≡ Some x → x.from ≡ peer s → (q ≡ p) ⊎ ((segment_sent p x).rst ≡ false → (segment_sent p x).acknowledged ≡ Some (end_at (peer s) p).tcp.recv.edge)
  pub owed : LeavesRoomFor s p → (end_at (peer s) p).tcp.due.ack ≡ true → (x : ToSend) → first_sends p.agenda p ≡ Some x → x.from ≡ peer s → (segment_sent p x).rst ≡ false
      → (q ≡ p) ⊎ ((is_harmed (peer s) p q ≡ true) ⊎ IsToldBy s (end_at (peer s) p).tcp.recv.edge (p.clock + 400) q)

module _ (start : Start) (mild : IsMildStart start) (turns : List Turn) (turn : Turn) {Holds : PathState Carried → Type 0} (before : IsNow Holds (reached values start turns)) (after : IsNow Holds (after_turn values turn (reached values start turns)))
    (open_p : IsOpenFrom B before.path) (open_q : IsOpenFrom B after.path) (s : Side) where
  abbrev w : WorldState Carried
  w = reached values start turns

  abbrev p : PathState Carried
  p = before.path

  abbrev q : PathState Carried
  q = after.path

  abbrev t : Side
  t = peer s

  abbrev facts : Known p
  facts = known start mild turns turn before after

  turned : Turned p q
  turned = by_turn start mild turns turn before after TurnedTo (turned_to values w turn 2 before.here.crew before.here.there)

  counts : Counts values p q
  counts = by_turn start mild turns turn before after (PathsCount values) (each_acknowledgement_counts values w turn 2 before.here.crew before.here.there)

  were : Every (WasThere values p) q.link.under_way
  were = by_turn start mild turns turn before after (CopiesWere values) (each_copy_was_there values w turn 2 before.here.crew before.here.there)

  hands : HandsOver values p q
  hands = by_turn start mild turns turn before after (PathsHandOver values) (each_segment_says_what_came values w turn 2 before.here.crew before.here.there)

  sent_within : SentWithin p
  sent_within = holds_p start mild turns turn before after SentWithin (all_sent_within start turns mild.plain.size).each

  fins : FinIsLast p
  fins = holds_p start mild turns turn before after FinIsLast (fins_are_last start turns mild.plain.size).each

  acks_first : AcksGoFirst p
  acks_first = holds_p start mild turns turn before after AcksGoFirst (copies_are_answered values start turns).first

  clears : (u : Side) → Clears u p.agenda (end_at u p)
  clears = (subst MemberClears before.here.is ((each_clears values start turns).each 2 before.here.crew before.here.there)) open_p.first

  edge_later : (end_at s p).tcp.recv.edge ≤ (end_at s q).tcp.recv.edge
  edge_later = edge_up start mild turns turn before after s

  -- ---- what a copy acknowledges came to its sender, and was sent

  acked_sent : (f : Flight Carried) (n : ℕ) → IsUnderWay f p → f.to ≡ s → f.carried.segment.rst ≡ false → f.carried.segment.acknowledged ≡ Some n → (n ≤ (end_at t p).tcp.recv.edge) × (n ≤ (end_at s p).tcp.send.nxt)
  acked_sent f n here to rst acks =
      let came : AcksUpTo (end_at (peer f.to) p).tcp.recv.edge f.carried.segment = under_way (AcksWhatCame p) f p here facts.came.copies in
      let low : n ≤ (end_at (peer f.to) p).tcp.recv.edge = ⊎_elim (λ is. absurd (true≢false (sym is ∙ rst))) (λ some. subst (λ (o : Option ℕ). IfSome o (λ m. m ≤ (end_at (peer f.to) p).tcp.recv.edge)) acks some) came in
      let same : (end_at (peer f.to) p).tcp.recv.edge ≡ (end_at t p).tcp.recv.edge = ap (λ u. (end_at (peer u) p).tcp.recv.edge) to in
      let sent : (end_at t p).tcp.recv.edge ≤ (end_at s p).tcp.send.nxt = subst (λ u. (end_at t p).tcp.recv.edge ≤ (end_at u p).tcp.send.nxt) (sender_of s) (facts.was_sent t) in
      (omega (arith, low, same), omega (arith, low, same, sent))

  -- the segment that goes to this side acknowledges all that came to the peer, unless it is a reset
  segment_acks : (x : ToSend) → first_sends p.agenda p ≡ Some x → x.from ≡ t → (q ≡ p) ⊎ ((segment_sent p x).rst ≡ false → (segment_sent p x).acknowledged ≡ Some (end_at t p).tcp.recv.edge)
  segment_acks x is from = ⊎_elim (λ same. inl same) (λ taken. inr (λ rst. says rst taken.1))
      (subst (λ (o : Option ToSend). IfSome o (λ y. (q ≡ p) ⊎ ((q.link ≡ handed values y.from (segment_sent p y) p) × SaysWhatCame (end_at y.from p) (segment_sent p y)))) is hands.sends)
    where
      says : (segment_sent p x).rst ≡ false → SaysWhatCame (end_at x.from p) (segment_sent p x) → (segment_sent p x).acknowledged ≡ Some (end_at t p).tcp.recv.edge
      says rst (said_so.acknowledges acks none) = acks ∙ ap (λ u. Some (end_at u p).tcp.recv.edge) from
      says rst (said_so.opens state none) = absurd (not_opening (end_at t p).tcp.state (open_p.past t) (subst (λ u. is_opening (end_at u p).tcp.state ≡ true) from state))
      says rst (said_so.resets is) = absurd (true≢false (sym is ∙ rst))
      says rst (said_so.refuses answer some is) =
          let tells : AnswerTells answer = subst (λ (o : Option Outgoing). IfSome o AnswerTells) some (facts.tells x.from).treated.answer in absurd (true≢false (sym tells.rst ∙ sym is ∙ rst))

  -- ---- an answer under way

  module _ (position tick : ℕ) (f : Flight Carried) (here : IsUnderWay f p) (h : IsAnswerFor s position p f) (soon : f.tick ≤ tick) where
    abbrev at : ℕ
    at = f.carried.segment.position

    abbrev Told : Type 0
    Told = IsToldBy s position tick q

    unchanged : q ≡ p → Told
    unchanged same = subst (IsToldBy s position tick) (sym same) (comes f here h soon)

    -- where a copy is taken that acknowledges as much
    heard_by : (n : ℕ) → position ≤ n → (y : Side) → y ≡ s → (q ≡ p) ⊎ (n ≤ (end_at y q).tcp.send.una) → Told
    heard_by n enough y same = ⊎_elim unchanged (λ up. heard (let una = ap (λ u. (end_at u q).tcp.send.una) same in omega (arith, enough, up, una)))

    -- ---- it arrives

    module _ (others : List Duty) (first : p.agenda ≡ duties.Step step_duties.Events ∷ others) (next : next_event p ≡ Some (happenings.Arrives (due_of f))) where
      abbrev listener : Side
      listener = f.to

      abbrev hearer : PathEnd
      hearer = end_at listener p

      abbrev said : HeardSegment
      said = options_heard hearer (meant (as_arrived f.carried))

      abbrev is_heard : Comes values p
      is_heard = record {
        others = others;
        first = first;
        due = due_of f;
        next = next;
        segment = meant (as_arrived f.carried);
        heard = (let arrives = facts.alike f here (numbered start mild turns turn before after f here) in
            ap (λ (o : Option (Flight Carried)). heard_in values listener o p) arrives.there ∙ ap (λ (c : Carried). Some (meant (as_arrived c))) arrives.same);
      }

      taken : 0 < h.up_to → is_acceptable hearer.tcp.recv.edge at (copy_of said) ≡ true → Told
      taken some accepted = heard_by h.up_to h.enough listener h.to (counts.counts (record {
        copy = is_heard;
        acknowledged = h.up_to;
        taken = inl (
          at,
          ap (λ j. judged_of j said.rst (items_of j listener said) (meaning_of (copy_of said) hearer.tcp) hearer) open_p.first
              ∙ ap (λ m. judged.As m) (taken_so (copy_of said) hearer.tcp at h.up_to
              (subst (λ u. 2 ≤ stage (end_at u p).tcp.state) (sym h.to) (let past = open_p.past s in omega (arith, past))) (subst (λ u. is_dead (end_at u p).tcp.state ≡ false) (sym h.to) (open_p.living s))
              (below_limit p facts listener) h.syn h.rst refl (ap (λ (o : Option ℕ). acknowledged_in (option_map (λ n. At n) o)) h.acknowledged) accepted some
              (subst (λ u. h.up_to ≤ (end_at u p).tcp.send.nxt) (sym h.to) (acked_sent f h.up_to here h.to h.rst h.acknowledged).1)),
        );
      }))

      from_here : hearer.tcp.recv.edge ≤ at
      from_here = subst (λ u. (end_at u p).tcp.recv.edge ≤ at) (sym h.to) h.from

      room_here : at ≤ hearer.tcp.recv.edge + 1048576
      room_here = subst (λ u. at ≤ (end_at u p).tcp.recv.edge + 1048576) (sym h.to) h.room

      -- in the window, or at its edge
      accepted : is_acceptable hearer.tcp.recv.edge at (copy_of said) ≡ true
      accepted = ⊎_elim
          (λ below. ap (λ b. b || (ends_in_window hearer.tcp.recv.edge at (occupied (copy_of said)) || is_at_right_edge hearer.tcp.recv.edge at (length (copy_of said).payload)))
          (ap (λ b. b && nat_lt at (hearer.tcp.recv.edge + 1048576)) (le-leb hearer.tcp.recv.edge at from_here) ∙ lt-ltb at (hearer.tcp.recv.edge + 1048576) below))
          (λ above. or_right (is_in_window hearer.tcp.recv.edge at) (ends_in_window hearer.tcp.recv.edge at (occupied (copy_of said)) || is_at_right_edge hearer.tcp.recv.edge at (length (copy_of said).payload))
          (or_right (ends_in_window hearer.tcp.recv.edge at (occupied (copy_of said))) (is_at_right_edge hearer.tcp.recv.edge at (length (copy_of said).payload))
          (and_from (length (copy_of said).payload == 0) (at == hearer.tcp.recv.edge + 1048576) (ap (λ (o : List ℕ). length o == 0) h.payload) (eq-eqb at (hearer.tcp.recv.edge + 1048576) (let most = room_here in omega (arith, above, most))))))
          (cases_lt at (hearer.tcp.recv.edge + 1048576))

      arrives : Told
      arrives = ⊎_elim (λ some. taken (let enough = h.enough in omega (arith, enough, some)) accepted) (λ none. heard (omega (arith, none))) (cases_lt 0 position)

    -- ---- it is overtaken

    module _ (over : Overtakes values at s p) where
      abbrev due_to : Side
      due_to = over.brings.copy.due.to

      abbrev taker : PathEnd
      taker = end_at due_to p

      abbrev words : HeardSegment
      words = options_heard taker over.brings.copy.segment

      is_meant : meaning_of (copy_of words) taker.tcp ≡ means.Taken over.brings.position over.brings.acknowledged
      is_meant = ap taken_as (sym (ap (λ j. judged_of j words.rst (items_of j due_to words) (meaning_of (copy_of words) taker.tcp) taker) open_p.first) ∙ over.brings.taken)

      means_it : MeansIs (copy_of words) taker.tcp (means.Taken over.brings.position over.brings.acknowledged)
      means_it = subst (MeansIs (copy_of words) taker.tcp) is_meant (means_so (copy_of words) taker.tcp)

      all_there : Every (λ (g : Flight Carried). IsUnderWay g p) p.link.under_way
      all_there = record { each = λ i g here. record { at = i; item = g; there = here; holds = refl } }

      -- the copy that it is
      by_flight : (o : Option (Flight Carried)) → arriving over.brings.copy.due p.link ≡ o → heard_in values due_to o p ≡ Some over.brings.copy.segment → Told
      by_flight None is none = cc
      by_flight (Some g) is some = by_segment (same_Some (meant (as_arrived g.carried)) over.brings.copy.segment some)
        where
          found : IsUnderWay g p × (is_due over.brings.copy.due g ≡ true)
          found = find_every (λ (y : Flight Carried). IsUnderWay y p) (is_due over.brings.copy.due) p.link.under_way g all_there is

          to_s : g.to ≡ s
          to_s =
              let parts = and_parts (g.tick == over.brings.copy.due.tick) (same_side g.to due_to && g.number == over.brings.copy.due.copy) found.1 in
              one_side g.to due_to (and_parts (same_side g.to due_to) (g.number == over.brings.copy.due.copy) parts.1).0 ∙ over.to

          by_segment : meant (as_arrived g.carried) ≡ over.brings.copy.segment → Told
          by_segment same =
              let m = means_it in
              let at_is : Some g.carried.segment.position ≡ Some over.brings.position = ap (λ (y : HeardSegment). (copy_of (options_heard taker y)).position) same ∙ m.1.1.1.0 in
              let position_is = same_Some g.carried.segment.position over.brings.position at_is in
              let payload_is = ap (λ (y : HeardSegment). length y.payload) same in
              let fin_is = ap (λ (y : HeardSegment). one_if y.fin) same in
              let rst_is : g.carried.segment.rst ≡ false = ap (λ (y : HeardSegment). y.rst) same ∙ m.1.1.0 in
              let acks = heard_ack g.carried.segment.acknowledged over.brings.acknowledged (ap (λ (y : HeardSegment). (copy_of (options_heard taker y)).acknowledged) same ∙ m.1.1.1.1) in
              let some = over.over.0 in let past = over.over.1 in
              let as_much = h.overtaken g found.0 to_s rst_is (omega (arith, some, payload_is, fin_is)) (omega (arith, past, position_is, payload_is, fin_is)) in
              let n_is = same_Some as_much.0 over.brings.acknowledged (sym as_much.1 ∙ acks) in let enough = as_much.2 in
              heard_by over.brings.acknowledged (omega (arith, enough, n_is)) due_to over.to (counts.counts (record { copy = over.brings.copy; acknowledged = over.brings.acknowledged; taken = inl (over.brings.position, over.brings.taken) }))

      overtaken : Told
      overtaken = by_flight (arriving over.brings.copy.due p.link) refl over.brings.copy.heard

    -- ---- it is under way still

    -- each segment that goes past it acknowledges as much
    still_as_much : (g : Flight Carried) → IsUnderWay g q → g.to ≡ s → g.carried.segment.rst ≡ false → 0 < length g.carried.segment.payload + one_if g.carried.segment.fin
        → at < g.carried.segment.position + length g.carried.segment.payload + one_if g.carried.segment.fin → (n : ℕ) × (g.carried.segment.acknowledged ≡ Some n) × (position ≤ n)
    still_as_much g on to rst some past = by (subst (WasThere values p) on.holds (were.each on.at on.item on.there))
      where
        by : WasThere values p g → (n : ℕ) × (g.carried.segment.acknowledged ≡ Some n) × (position ≤ n)
        by (was.before old) = h.overtaken g old to rst some past
        by (was.sent x is to_x carried) =
            let from : x.from ≡ t = sym (sender_of x.from) ∙ ap peer (sym to_x ∙ to) in
            let header = changed_said p.profile.spelling x.from (segment_sent p x) (is_stripped x.from (next_number x.from p.link) p.clock p.link.lines) (is_altered x.from (next_number x.from p.link) p.link.lines) g.carried carried in
            ⊎_elim
            (λ same. h.overtaken g (subst (IsUnderWay g) same on) to rst some past)
            (λ acks. (let low = (acked_sent f h.up_to here h.to h.rst h.acknowledged).0 in let enough = h.enough in ((end_at t p).tcp.recv.edge, header.acknowledged ∙ acks (sym header.rst ∙ rst), omega (arith, low, enough))))
            (segment_acks x is from)

    still : IsBelow at (end_at s q).tcp → IsUnderWay f q → Told
    still low on = comes f on (record {
      to = h.to;
      up_to = h.up_to;
      acknowledged = h.acknowledged;
      enough = h.enough;
      rst = h.rst;
      syn = h.syn;
      fin = h.fin;
      payload = h.payload;
      from = low.recv.edge;
      up_to_next = (let most = h.up_to_next in let up = nxt_up start mild turns turn before after t in omega (arith, most, up));
      room = (let most = h.room in let up = edge_later in omega (arith, most, up));
      kept = low.recv.kept;
      held = low.held;
      heard = low.fin;
      overtaken = still_as_much;
    }) soon

    goes_on : GoesOnItsWay f p q → Told
    goes_on (copy.on on) = ⊎_elim (λ low. still low on) (λ over. overtaken over)
        (by_turn start mild turns turn before after (BelowTo values at) (ends_stay_below values at w turn 2 before.here.crew before.here.there) s
        (record { recv = record { edge = h.from; kept = h.kept }; held = h.held; fin = h.heard }) (open_p.past s))
    goes_on (copy.arrives others first next) = arrives others first next
    goes_on (copy.dies line next is dead) = absurd (both_ways (is_dead q.a.tcp.state) (open_q.living A) dead)

  told_on : (position tick : ℕ) → IsToldBy s position tick p → IsToldBy s position tick q
  told_on position tick (heard low) = heard (let up = una_up start mild turns turn before after s in omega (arith, low, up))
  told_on position tick (comes f here h soon) = goes_on position tick f here h soon (copies start mild turns turn before after f here)

  -- ---- what is owed goes

  module _ (room : LeavesRoomFor s p) (due : (end_at t p).tcp.due.ack ≡ true) where
    abbrev Goes : Type 0
    Goes = ((end_at t q).tcp.due.ack ≡ true) ⊎ ((is_harmed t p q ≡ true) ⊎ IsToldBy s (end_at t p).tcp.recv.edge (p.clock + 400) q)

    module _ (x : ToSend) (sends : first_sends p.agenda p ≡ Some x) (own : x.from ≡ t) where
      abbrev Heard : Type 0
      Heard = (is_harmed t p q ≡ true) ⊎ IsToldBy s (end_at t p).tcp.recv.edge (p.clock + 400) q

      abbrev next : ℕ
      next = (end_at t p).tcp.send.nxt

      abbrev sent : PlainSegment
      sent = segment_sent p x

      -- all that this side has was sent before
      below : IsBelow next (end_at s p).tcp
      below = record { recv = record { edge = subst (λ u. (end_at s p).tcp.recv.edge ≤ (end_at u p).tcp.send.nxt) refl (facts.was_sent s); kept = sent_within.kept s }; held = sent_within.held s; fin = λ pos is. fin (end_at s p).tcp.fin_at pos is refl }
        where
          fin : (o : Option ℕ) (pos : ℕ) → o ≡ Some pos → (end_at s p).tcp.fin_at ≡ o → pos < (end_at t p).tcp.send.nxt
          fin o pos is same =
              let last_one : suc pos ≡ (end_at t p).tcp.send.nxt = subst (λ (o : Option ℕ). IfSome o (λ y. suc y ≡ (end_at t p).tcp.send.nxt)) (same ∙ is) (subst (λ u. IfSome (end_at u p).tcp.fin_at (λ y. suc y ≡ (end_at t p).tcp.send.nxt)) (sender_of s) (fins.heard t)) in omega (arith, last_one)

      -- and so was each segment under way to it, but this one
      none_past : sent.acknowledged ≡ Some (end_at t p).tcp.recv.edge → (g : Flight Carried) → IsUnderWay g q → g.to ≡ s → g.carried.segment.rst ≡ false → 0 < length g.carried.segment.payload + one_if g.carried.segment.fin
          → next < g.carried.segment.position + length g.carried.segment.payload + one_if g.carried.segment.fin → (n : ℕ) × (g.carried.segment.acknowledged ≡ Some n) × ((end_at t p).tcp.recv.edge ≤ n)
      none_past acks g here to rst some past = by (subst (WasThere values p) here.holds (were.each here.at here.item here.there))
        where
          by : WasThere values p g → (n : ℕ) × (g.carried.segment.acknowledged ≡ Some n) × ((end_at t p).tcp.recv.edge ≤ n)
          by (was.before old) =
              let within : EndsWithin (end_at (peer g.to) p).tcp.send.nxt g.carried.segment = under_way (λ (f : Flight Carried). EndsWithin (end_at (peer f.to) p).tcp.send.nxt f.carried.segment) g p old sent_within.copies in
              let low = within some in let same = ap (λ u. (end_at (peer u) p).tcp.send.nxt) to in absurd (omega (arith, low, same, past))
          by (was.sent y is to_y carried) =
              let same = same_Some x y (sym sends ∙ is) in
              let header = changed_said p.profile.spelling y.from (segment_sent p y) (is_stripped y.from (next_number y.from p.link) p.clock p.link.lines) (is_altered y.from (next_number y.from p.link) p.link.lines) g.carried carried in
              ((end_at t p).tcp.recv.edge, header.acknowledged ∙ ap (λ (z : ToSend). (segment_sent p z).acknowledged) (sym same) ∙ acks, le_refl (end_at t p).tcp.recv.edge)

      -- it acknowledges and nothing more
      flies : sent.acknowledged ≡ Some (end_at t p).tcp.recv.edge → sent.rst ≡ false → IsBareAck p.profile t (end_at t p) sent → IsBelow next (end_at s q).tcp → IsSentSoon values t sent p q → Heard
      flies acks rst (bare.resets is) low h = absurd (true≢false (sym is ∙ rst))
      flies acks rst (bare.acks is) low h =
          let header : SameHeader sent h.copy.carried.segment = changed_said p.profile.spelling t sent h.stripped h.altered h.copy.carried h.carried in
          let at : h.copy.carried.segment.position ≡ next = header.position ∙ ap (λ (y : PlainSegment). y.position) is in
          inr (comes h.copy h.there (record {
            to = h.to ∙ sender_of s;
            up_to = (end_at t p).tcp.recv.edge;
            acknowledged = header.acknowledged ∙ acks;
            enough = le_refl (end_at t p).tcp.recv.edge;
            rst = header.rst ∙ rst;
            syn = header.syn ∙ ap (λ (y : PlainSegment). y.syn) is;
            fin = header.fin ∙ ap (λ (y : PlainSegment). y.fin) is;
            payload = header.payload (ap (λ (y : PlainSegment). y.payload) is);
            from = (let edge = low.recv.edge in omega (arith, edge, at));
            up_to_next = (let up = nxt_up start mild turns turn before after t in omega (arith, at, up));
            room = (let up = edge_later in omega (arith, at, room, up));
            kept = λ pos octet has. (let few = low.recv.kept pos octet has in omega (arith, few, at));
            held = λ pos octet has. ⊎_elim (λ few. inl (omega (arith, few, at))) (λ over. inr over) (low.held pos octet has);
            heard = λ pos has. (let few = low.fin pos has in omega (arith, few, at));
            overtaken = λ g here to reset some past. none_past acks g here to reset some (omega (arith, past, at));
          }) h.soon)

      -- no copy is taken in the turn
      not_over : Overtakes values next s p → ⊥
      not_over over = never_event p.agenda over.brings.copy.others p x over.brings.copy.first sends

      is_taken : sent.acknowledged ≡ Some (end_at t p).tcp.recv.edge → sent.rst ≡ false → q.link ≡ handed values t sent p → Heard
      is_taken acks rst link = ⊎_elim
          (λ low. ⊎_elim (λ harmed. inl harmed) (λ h. flies acks rst is_bare low h) (segments_come_soon values p q (numbered_so p facts.link) t sent (before.few t) link))
          (λ over. absurd (not_over over))
          (by_turn start mild turns turn before after (BelowTo values next) (ends_stay_below values next w turn 2 before.here.crew before.here.there) s below (open_p.past s))
        where
          is_bare : IsBareAck p.profile t (end_at t p) (segment_sent p x)
          is_bare = subst (λ (o : Option ToSend). IfSome o (λ y. y.from ≡ t → IsBareAck p.profile t (end_at t p) (segment_sent p y))) sends (acks_first t (open_p.living t) due) own

      goes_soon : sent.rst ≡ false → (q ≡ p) ⊎ Heard
      goes_soon rst = ⊎_elim
          (λ same. inl same)
          (λ acks. ⊎_elim (λ same. inl same) (λ taken. inr (is_taken (acks rst) rst (subst (λ u. q.link ≡ handed values u (segment_sent p x) p) own taken.0)))
          (subst (λ (o : Option ToSend). IfSome o (λ y. (q ≡ p) ⊎ ((q.link ≡ handed values y.from (segment_sent p y) p) × SaysWhatCame (end_at y.from p) (segment_sent p y)))) sends hands.sends))
          (segment_acks x sends own)

      speaks_so : Speaks (end_at t p) sent → q.link ≡ handed values t sent p → Goes
      speaks_so (spoken.acks acks rst) link = inr (is_taken acks rst link)
      speaks_so (spoken.syns state none) link = absurd (not_opening (end_at t p).tcp.state (open_p.past t) state)

      refused : IsToRefuse t p.agenda → Goes
      refused (refuse.refuses rest is) = absurd (true≢false (sym (ap (λ ds. list_any is_harsh ds) is) ∙ (unbroken_p start mild turns turn before after open_p.first).duties))
      refused (refuse.answers rest is) = absurd (never_refuses p t clears (open_p.living t) rest is)

      is_sent : (d : Duty) (others : List Duty) → p.agenda ≡ d ∷ others → sends_on d ≡ true → side_of d ≡ t → Goes
      is_sent d others first on side = ⊎_elim (λ same. inl (subst (λ (y : PathState Carried). (end_at t y).tcp.due.ack ≡ true) (sym same) due)) (λ taken. by (resets_by d) refl (subst (λ u. q.link ≡ handed values u (segment_sent p x) p) own taken.0))
          (subst (λ (o : Option ToSend). IfSome o (λ y. (q ≡ p) ⊎ ((q.link ≡ handed values y.from (segment_sent p y) p) × SaysWhatCame (end_at y.from p) (segment_sent p y)))) sends hands.sends)
        where
          by : (b : Bool) → resets_by d ≡ b → q.link ≡ handed values t (segment_sent p x) p → Goes
          by true may link = refused (refusing d t others p.agenda on may side first)
          by false none link = speaks_so (subst (λ u. Speaks (end_at u p) (segment_sent p x)) own (subst (λ (o : Option ToSend). AllSpeak o p) (sym (ap (λ ds. first_sends ds p) first) ∙ sends) (duty_speaks d p none))) link

    owed_goes : StillOwed t p q → Goes
    owed_goes (owing.keeps d others first other h) = inl (h due)
    owed_goes (owing.has_died gone) = absurd (both_ways (is_dead (end_at t q).tcp.state) (open_q.living t) gone)
    owed_goes (owing.is_sent d others first on side x sends own) = is_sent x sends own d others first on side
    owed_goes (owing.is_done is) = absurd (both_ways (end_at t p).tcp.due.ack ((holds_p start mild turns turn before after HasAnswered (copies_are_answered values start turns).each is t (open_p.living t)).ack) due)
    owed_goes (owing.rests same) = inl (subst (λ (y : PathState Carried). (end_at t y).tcp.due.ack ≡ true) (sym same) due)

  pub says_soon : SaysSoon s p q
  says_soon = record { acks = segment_acks; owed = λ room due x sends own rst. goes_soon room due x sends own rst }

  answers_stay : AnswersStay s p q
  answers_stay = record { comes = told_on; owed = λ room due. owed_goes room due (turned.owing t) }

pub each_answer_comes_soon : EachAnswerComesSoon
each_answer_comes_soon start turns turn h s =
    subst (λ (u : WorldState Carried). (a : IsNow (IsOpenFrom B) u) → AnswersStay s h.before.path a.path) (sym (last start h.mild turns turn)) (λ a. answers_stay start h.mild turns turn h.before a h.before.is_open a.is_open s) h.after

pub each_end_says_soon : (start : Start) (turns : List Turn) (turn : Turn) (h : IsBegunTurn start turns turn) (s : Side) → SaysSoon s h.before.path h.after.path
each_end_says_soon start turns turn h s =
    subst (λ (u : WorldState Carried). (a : IsNow (IsOpenFrom B) u) → SaysSoon s h.before.path a.path) (sym (last start h.mild turns turn)) (λ a. says_soon start h.mild turns turn h.before a h.before.is_open a.is_open s) h.after
