-- A bare segment that is under way between open ends is taken as it arrives, or overtaken by a copy that goes past it; and one that is sent is harmed, or
-- goes so.
use Rattle.std.proofs.Common.{◌≡◌, refl, sym, subst, ap, ◌∙◌, ◌⊎◌, inl, inr, ⊎_elim, ℕ, suc, ◌+◌, ◌<◌, ◌≤◌, arith, nat_lt, ◌==◌, ◌&&◌, ◌||◌, Bool, true, false, true≢false, Option, Some, None, IfSome, List, ◌∷◌, length}
use Rattle.std.specs.Prelude.{option_map}
use Rattle.std.proofs.lemmas.Bool.{and_from, and_parts, both_ways, cases_lt, eq-eqb, le-leb, lt-ltb}
use Rattle.std.proofs.lemmas.Option.{same_Some}
use Rattle.path_segments.specs.Heard.{HeardSegment}
use Rattle.path_segments.specs.Laws.{meant}
use Rattle.path_segments.specs.Spelled.{PlainSegment}
use Rattle.path_segments.specs.declared.position.HeardPosition.TheVariants.{At}
use Rattle.sides.specs.declared.side.Side.{Side}
use Rattle.sides.specs.declared.side.Side.TheVariants.{A, B}
use Rattle.sides.specs.Side.{peer}
use Rattle.link_script.specs.Places.{same_side}
use Rattle.link_model.specs.declared.flight.Flight.{Flight}
use Rattle.link_model.specs.Steps.{arriving, due_of, is_due}
use Rattle.stream_lanes.specs.Words.{Every}
use Rattle.subflow_tcp.specs.Judging.{ends_in_window, is_acceptable, is_at_right_edge, is_in_window, meaning_of}
use Rattle.subflow_tcp.specs.Segments.{occupied}
use Rattle.subflow_tcp.specs.States.{is_dead}
use Rattle.subflow_tcp.specs.declared.verdicts.Meaning.TheVariants as means
use Rattle.path_agenda.specs.declared.duty.Duty.{Duty}
use Rattle.path_agenda.specs.declared.duty.Duty.TheVariants as duties
use Rattle.path_agenda.specs.declared.duty.StepDuty.TheVariants as step_duties
use Rattle.path_core.specs.Arrival.{acknowledged_in, copy_of, heard_in}
use Rattle.path_core.specs.End.{PathEnd}
use Rattle.path_core.specs.Events.{next_event}
use Rattle.path_core.specs.Handover.{handed}
use Rattle.path_core.specs.Judged.{judged_of, taken_as}
use Rattle.path_core.specs.Looking.{first_sends, segment_sent}
use Rattle.path_core.specs.OptionsIn.{items_of, options_heard}
use Rattle.path_core.specs.State.{PathState, end_at}
use Rattle.path_core.specs.Values.{Carried, as_arrived, values}
use Rattle.path_core.specs.declared.events.Event.TheVariants as happenings
use Rattle.path_core.specs.declared.judged.Judged.TheVariants as judged
use Rattle.world_laws.specs.Openings.{Start}
use Rattle.world_laws.specs.Worlds.{WorldState, Turn, after_turn}
use Rattle.world_laws.proofs.Whole.Ends.{MeansIs, means_so}
use Rattle.world_laws.proofs.Worlds.Finding.{find_every, one_side}
use Rattle.world_laws.specs.RoundDone.{reached}
use Rattle.whole_paths.specs.AsFar.{stage}
use Rattle.whole_paths.specs.Brought.{Brings, Comes}
use Rattle.whole_paths.specs.Came.{AcksUpTo, AcksWhatCame}
use Rattle.whole_paths.specs.Copies.{GoesOnItsWay, IsUnderWay}
use Rattle.whole_paths.specs.Copies.{GoesOnItsWay as copy}
use Rattle.whole_paths.specs.Finish.{is_harmed}
use Rattle.whole_paths.specs.LastFin.{FinIsLast}
use Rattle.whole_paths.specs.Mending.{IsSentSoon, LeavesRoomFor}
use Rattle.whole_paths.specs.Mild.{IsMildStart}
use Rattle.whole_paths.specs.News.{one_if}
use Rattle.whole_paths.specs.OpenCourses.{IsNow}
use Rattle.whole_paths.specs.Straying.{IsOpenFrom}
use Rattle.whole_paths.specs.Saying.{HandsOver, PathsHandOver, SaysWhatCame}
use Rattle.whole_paths.proofs.Arrivals.{sender_of, taken_so}
use Rattle.whole_paths.proofs.Exchanges.{Known, SameHeader, below_limit, changed_said, under_way}
use Rattle.whole_paths.proofs.LastFin.{fins_are_last}
use Rattle.whole_paths.proofs.Reaching.{BelowTo, IsBelow, ends_stay_below}
use Rattle.whole_paths.proofs.RecordWaits.{edge_up, last, nxt_up}
use Rattle.whole_paths.proofs.RecordsWell.{by_turn, copies, holds_p, known, numbered}
use Rattle.whole_paths.proofs.Saying.{ToSend, each_segment_says_what_came}
use Rattle.whole_paths.proofs.SentSoon.{numbered_so, segments_come_soon}
use Rattle.whole_paths.proofs.SentWithin.{EndsWithin, SentWithin, all_sent_within}
use Rattle.whole_paths.specs.BareSegments.{BareGoesOn, BareIsSent, BareSegmentsAreTaken, BareSegmentsGoOn, IsBareFrom, IsBareTo, IsOvertaken}
use Rattle.whole_paths.specs.BareSegments.{BareGoesOn as bare}
use Rattle.whole_paths.proofs.ToldSoon.{SaysSoon, says_soon}

or_right : (b c : Bool) → c ≡ true → (b || c) ≡ true
or_right true c is = refl
or_right false c is = is

-- a path sends nothing where an event is next
never_event : (ds others : List Duty) (p : PathState Carried) (x : ToSend) → ds ≡ duties.Step step_duties.Events ∷ others → first_sends ds p ≡ Some x → ⊥
never_event ds others p x is sends = (let none : first_sends ds p ≡ None = ap (λ (xs : List Duty). first_sends xs p) is in let both : None ≡ Some x = sym none ∙ sends in cc)

-- ---- a turn between open ends

module _ (start : Start) (mild : IsMildStart start) (turns : List Turn) (turn : Turn) (before : IsNow (IsOpenFrom B) (reached values start turns)) (after : IsNow (IsOpenFrom B) (after_turn values turn (reached values start turns)))
    (s : Side) where
  abbrev w : WorldState Carried
  w = reached values start turns

  abbrev p : PathState Carried
  p = before.path

  abbrev q : PathState Carried
  q = after.path

  abbrev t : Side
  t = peer s

  abbrev facts : Known p
  facts = known start mild turns turn before after

  hands : HandsOver values p q
  hands = by_turn start mild turns turn before after (PathsHandOver values) (each_segment_says_what_came values w turn 2 before.here.crew before.here.there)

  sent_within : SentWithin p
  sent_within = holds_p start mild turns turn before after SentWithin (all_sent_within start turns mild.plain.size).each

  fins : FinIsLast p
  fins = holds_p start mild turns turn before after FinIsLast (fins_are_last start turns mild.plain.size).each

  edge_later : (end_at s p).tcp.recv.edge ≤ (end_at s q).tcp.recv.edge
  edge_later = edge_up start mild turns turn before after s

  says : SaysSoon s p q
  says = says_soon start mild turns turn before after before.is_open after.is_open s

  -- what a copy acknowledges was sent
  acked_sent : (f : Flight Carried) (n : ℕ) → IsUnderWay f p → f.to ≡ s → f.carried.segment.rst ≡ false → f.carried.segment.acknowledged ≡ Some n → n ≤ (end_at s p).tcp.send.nxt
  acked_sent f n here to rst acks =
      let came : AcksUpTo (end_at (peer f.to) p).tcp.recv.edge f.carried.segment = under_way (AcksWhatCame p) f p here facts.came.copies in
      let low : n ≤ (end_at (peer f.to) p).tcp.recv.edge = ⊎_elim (λ is. absurd (true≢false (sym is ∙ rst))) (λ some. subst (λ (o : Option ℕ). IfSome o (λ m. m ≤ (end_at (peer f.to) p).tcp.recv.edge)) acks some) came in
      let same : (end_at (peer f.to) p).tcp.recv.edge ≡ (end_at t p).tcp.recv.edge = ap (λ u. (end_at (peer u) p).tcp.recv.edge) to in
      let sent : (end_at t p).tcp.recv.edge ≤ (end_at s p).tcp.send.nxt = subst (λ u. (end_at t p).tcp.recv.edge ≤ (end_at u p).tcp.send.nxt) (sender_of s) (facts.was_sent t) in
      omega (arith, low, same, sent)

  -- ---- one under way

  module _ (f : Flight Carried) (here : IsUnderWay f p) (h : IsBareTo s p f) where
    abbrev at : ℕ
    at = f.carried.segment.position

    -- ---- it arrives

    module _ (others : List Duty) (first : p.agenda ≡ duties.Step step_duties.Events ∷ others) (next : next_event p ≡ Some (happenings.Arrives (due_of f))) where
      abbrev listener : Side
      listener = f.to

      abbrev hearer : PathEnd
      hearer = end_at listener p

      abbrev said : HeardSegment
      said = options_heard hearer (meant (as_arrived f.carried))

      abbrev is_heard : Comes values p
      is_heard = record {
        others = others;
        first = first;
        due = due_of f;
        next = next;
        segment = meant (as_arrived f.carried);
        heard = (let arrives = facts.alike f here (numbered start mild turns turn before after f here) in
            ap (λ (o : Option (Flight Carried)). heard_in values listener o p) arrives.there ∙ ap (λ (c : Carried). Some (meant (as_arrived c))) arrives.same);
      }

      from_here : hearer.tcp.recv.edge ≤ at
      from_here = subst (λ u. (end_at u p).tcp.recv.edge ≤ at) (sym h.to) h.from

      room_here : at ≤ hearer.tcp.recv.edge + 1048576
      room_here = subst (λ u. at ≤ (end_at u p).tcp.recv.edge + 1048576) (sym h.to) h.room

      -- in the window, or at its edge
      accepted : is_acceptable hearer.tcp.recv.edge at (copy_of said) ≡ true
      accepted = ⊎_elim
          (λ below. ap (λ b. b || (ends_in_window hearer.tcp.recv.edge at (occupied (copy_of said)) || is_at_right_edge hearer.tcp.recv.edge at (length (copy_of said).payload)))
          (ap (λ b. b && nat_lt at (hearer.tcp.recv.edge + 1048576)) (le-leb hearer.tcp.recv.edge at from_here) ∙ lt-ltb at (hearer.tcp.recv.edge + 1048576) below))
          (λ above. or_right (is_in_window hearer.tcp.recv.edge at) (ends_in_window hearer.tcp.recv.edge at (occupied (copy_of said)) || is_at_right_edge hearer.tcp.recv.edge at (length (copy_of said).payload))
          (or_right (ends_in_window hearer.tcp.recv.edge at (occupied (copy_of said))) (is_at_right_edge hearer.tcp.recv.edge at (length (copy_of said).payload))
          (and_from (length (copy_of said).payload == 0) (at == hearer.tcp.recv.edge + 1048576) (ap (λ (o : List ℕ). length o == 0) h.payload) (eq-eqb at (hearer.tcp.recv.edge + 1048576) (let most = room_here in omega (arith, above, most))))))
          (cases_lt at (hearer.tcp.recv.edge + 1048576))

      abbrev taken : Brings values p
      taken = record {
        copy = is_heard;
        position = at;
        acknowledged = h.up_to;
        taken = ap (λ j. judged_of j said.rst (items_of j listener said) (meaning_of (copy_of said) hearer.tcp) hearer) before.is_open.first
            ∙ ap (λ m. judged.As m) (taken_so (copy_of said) hearer.tcp at h.up_to
            (subst (λ u. 2 ≤ stage (end_at u p).tcp.state) (sym h.to) (let past = before.is_open.past s in omega (arith, past))) (subst (λ u. is_dead (end_at u p).tcp.state ≡ false) (sym h.to) (before.is_open.living s))
            (below_limit p facts listener) h.syn h.rst refl (ap (λ (o : Option ℕ). acknowledged_in (option_map (λ n. At n) o)) h.acknowledged) accepted h.some
            (subst (λ u. h.up_to ≤ (end_at u p).tcp.send.nxt) (sym h.to) (acked_sent f h.up_to here h.to h.rst h.acknowledged)));
      }

    -- ---- it is under way still, or overtaken

    still : IsBelow at (end_at s q).tcp → IsUnderWay f q → BareGoesOn s f p q
    still low on = bare.on on (record {
      to = h.to;
      up_to = h.up_to;
      acknowledged = h.acknowledged;
      some = h.some;
      rst = h.rst;
      syn = h.syn;
      fin = h.fin;
      payload = h.payload;
      from = low.recv.edge;
      up_to_next = (let most = h.up_to_next in let up = nxt_up start mild turns turn before after t in omega (arith, most, up));
      room = (let most = h.room in let up = edge_later in omega (arith, most, up));
      kept = low.recv.kept;
      held = low.held;
      heard = low.fin;
    })

    goes_on : GoesOnItsWay f p q → BareGoesOn s f p q
    goes_on (copy.on on) = ⊎_elim (λ low. still low on) (λ over. bare.overtaken (record { brings = over.brings; to = over.to; some = over.over.0; past = over.over.1 }))
        (by_turn start mild turns turn before after (BelowTo values at) (ends_stay_below values at w turn 2 before.here.crew before.here.there) s
        (record { recv = record { edge = h.from; kept = h.kept }; held = h.held; fin = h.heard }) (before.is_open.past s))
    goes_on (copy.arrives others first next) = bare.is_taken (taken others first next) refl refl
    goes_on (copy.dies line next is dead) = absurd (both_ways (is_dead q.a.tcp.state) (after.is_open.living A) dead)

  -- ---- what goes past it was sent behind it

  module _ (n : ℕ) (over : IsOvertaken s n p) where
    abbrev due_to : Side
    due_to = over.brings.copy.due.to

    abbrev taker : PathEnd
    taker = end_at due_to p

    abbrev words : HeardSegment
    words = options_heard taker over.brings.copy.segment

    is_meant : meaning_of (copy_of words) taker.tcp ≡ means.Taken over.brings.position over.brings.acknowledged
    is_meant = ap taken_as (sym (ap (λ j. judged_of j words.rst (items_of j due_to words) (meaning_of (copy_of words) taker.tcp) taker) before.is_open.first) ∙ over.brings.taken)

    means_it : MeansIs (copy_of words) taker.tcp (means.Taken over.brings.position over.brings.acknowledged)
    means_it = subst (MeansIs (copy_of words) taker.tcp) is_meant (means_so (copy_of words) taker.tcp)

    all_there : Every (λ (g : Flight Carried). IsUnderWay g p) p.link.under_way
    all_there = record { each = λ i g here. record { at = i; item = g; there = here; holds = refl } }

    -- the copy that it is
    by_flight : (o : Option (Flight Carried)) → arriving over.brings.copy.due p.link ≡ o → heard_in values due_to o p ≡ Some over.brings.copy.segment → n < (end_at t p).tcp.send.nxt
    by_flight None is none = cc
    by_flight (Some g) is some = by_segment (same_Some (meant (as_arrived g.carried)) over.brings.copy.segment some)
      where
        found : IsUnderWay g p × (is_due over.brings.copy.due g ≡ true)
        found = find_every (λ (y : Flight Carried). IsUnderWay y p) (is_due over.brings.copy.due) p.link.under_way g all_there is

        to_s : g.to ≡ s
        to_s =
            let parts = and_parts (g.tick == over.brings.copy.due.tick) (same_side g.to due_to && g.number == over.brings.copy.due.copy) found.1 in
            one_side g.to due_to (and_parts (same_side g.to due_to) (g.number == over.brings.copy.due.copy) parts.1).0 ∙ over.to

        by_segment : meant (as_arrived g.carried) ≡ over.brings.copy.segment → n < (end_at t p).tcp.send.nxt
        by_segment same =
            let m = means_it in
            let at_is : Some g.carried.segment.position ≡ Some over.brings.position = ap (λ (y : HeardSegment). (copy_of (options_heard taker y)).position) same ∙ m.1.1.1.0 in
            let position_is = same_Some g.carried.segment.position over.brings.position at_is in
            let payload_is = ap (λ (y : HeardSegment). length y.payload) same in
            let fin_is = ap (λ (y : HeardSegment). one_if y.fin) same in
            let within : EndsWithin (end_at (peer g.to) p).tcp.send.nxt g.carried.segment = under_way (λ (f : Flight Carried). EndsWithin (end_at (peer f.to) p).tcp.send.nxt f.carried.segment) g p found.0 sent_within.copies in
            let some = over.some in let past = over.past in
            let low = within (omega (arith, some, payload_is, fin_is)) in let nxt = ap (λ u. (end_at (peer u) p).tcp.send.nxt) to_s in
            omega (arith, low, nxt, past, position_is, payload_is, fin_is)

    behind : n < (end_at t p).tcp.send.nxt
    behind = by_flight (arriving over.brings.copy.due p.link) refl over.brings.copy.heard

  -- ---- one that is sent

  module _ (room : LeavesRoomFor s p) (x : ToSend) (sends : first_sends p.agenda p ≡ Some x) (own : x.from ≡ t) (h : IsBareFrom t p (segment_sent p x)) where
    abbrev next : ℕ
    next = (end_at t p).tcp.send.nxt

    abbrev sent : PlainSegment
    sent = segment_sent p x

    -- all that this side has was sent before
    below : IsBelow next (end_at s p).tcp
    below = record { recv = record { edge = facts.was_sent s; kept = sent_within.kept s }; held = sent_within.held s; fin = λ pos is. fin (end_at s p).tcp.fin_at pos is refl }
      where
        fin : (o : Option ℕ) (pos : ℕ) → o ≡ Some pos → (end_at s p).tcp.fin_at ≡ o → pos < (end_at t p).tcp.send.nxt
        fin o pos is same =
            let last_one : suc pos ≡ (end_at t p).tcp.send.nxt = subst (λ (o : Option ℕ). IfSome o (λ y. suc y ≡ (end_at t p).tcp.send.nxt)) (same ∙ is) (subst (λ u. IfSome (end_at u p).tcp.fin_at (λ y. suc y ≡ (end_at t p).tcp.send.nxt)) (sender_of s) (fins.heard t)) in omega (arith, last_one)

    flies : sent.acknowledged ≡ Some (end_at t p).tcp.recv.edge → IsBelow next (end_at s q).tcp → IsSentSoon values t sent p q → BareIsSent s sent p q
    flies acks low c =
        let header : SameHeader sent c.copy.carried.segment = changed_said p.profile.spelling t sent c.stripped c.altered c.copy.carried c.carried in
        let at : c.copy.carried.segment.position ≡ next = header.position ∙ h.position in
        record {
          sent = c;
          bare = record {
            to = c.to ∙ sender_of s;
            up_to = (end_at t p).tcp.recv.edge;
            acknowledged = header.acknowledged ∙ acks;
            some = facts.edge t;
            rst = header.rst ∙ h.rst;
            syn = header.syn ∙ h.syn;
            fin = header.fin ∙ h.fin;
            payload = header.payload h.payload;
            from = (let edge = low.recv.edge in omega (arith, edge, at));
            up_to_next = (let up = nxt_up start mild turns turn before after t in omega (arith, at, up));
            room = (let up = edge_later in omega (arith, at, room, up));
            kept = λ pos octet has. (let few = low.recv.kept pos octet has in omega (arith, few, at));
            held = λ pos octet has. ⊎_elim (λ few. inl (omega (arith, few, at))) (λ over. inr over) (low.held pos octet has);
            heard = λ pos has. (let few = low.fin pos has in omega (arith, few, at));
          };
        }

    is_sent : sent.acknowledged ≡ Some (end_at t p).tcp.recv.edge → q.link ≡ handed values t sent p → (is_harmed t p q ≡ true) ⊎ BareIsSent s sent p q
    is_sent acks link = ⊎_elim
        (λ low. ⊎_elim (λ harmed. inl harmed) (λ c. inr (flies acks low c)) (segments_come_soon values p q (numbered_so p facts.link) t sent (before.few t) link))
        (λ over. absurd (never_event p.agenda over.brings.copy.others p x over.brings.copy.first sends))
        (by_turn start mild turns turn before after (BelowTo values next) (ends_stay_below values next w turn 2 before.here.crew before.here.there) s below (before.is_open.past s))

    goes_soon : (q ≡ p) ⊎ ((is_harmed t p q ≡ true) ⊎ BareIsSent s sent p q)
    goes_soon = ⊎_elim
        (λ same. inl same)
        (λ acks. ⊎_elim (λ same. inl same) (λ taken. inr (is_sent (acks h.rst) (subst (λ u. q.link ≡ handed values u (segment_sent p x) p) own taken.0)))
        (subst (λ (o : Option ToSend). IfSome o (λ y. (q ≡ p) ⊎ ((q.link ≡ handed values y.from (segment_sent p y) p) × SaysWhatCame (end_at y.from p) (segment_sent p y)))) sends hands.sends))
        (says.acks x sends own)

  pub bare_go_on : BareSegmentsGoOn s p q
  bare_go_on = record {
    goes = λ f here h. goes_on f here h (copies start mild turns turn before after f here);
    behind = λ n over. behind n over;
    sent = λ room. by room (first_sends p.agenda p) refl;
  }
    where
      by : LeavesRoomFor s p → (o : Option ToSend) → first_sends p.agenda p ≡ o → IfSome o (λ x. x.from ≡ t → IsBareFrom t p (segment_sent p x) → (q ≡ p) ⊎ ((is_harmed t p q ≡ true) ⊎ BareIsSent s (segment_sent p x) p q))
      by room None is = tt
      by room (Some x) is = λ own h. goes_soon room x is own h

pub bare_segments_are_taken : BareSegmentsAreTaken
bare_segments_are_taken start turns turn h s =
    subst (λ (u : WorldState Carried). (a : IsNow (IsOpenFrom B) u) → BareSegmentsGoOn s h.before.path a.path) (sym (last start h.mild turns turn)) (λ a. bare_go_on start h.mild turns turn h.before a s) h.after
