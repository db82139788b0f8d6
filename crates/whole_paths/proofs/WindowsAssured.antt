-- A window that a bare segment tells comes, though more be sent behind it: what overtakes it tells as much.
use Rattle.std.proofs.Common.{◌≡◌, refl, sym, subst, ap, ◌∙◌, ◌⊎◌, inl, inr, ⊎_elim, ℕ, ◌+◌, ◌≤◌, arith, ◌==◌, ◌&&◌, true, false, Option, Some, None, IfSome, List, length}
use Rattle.std.specs.List.{slice_get}
use Rattle.std.proofs.lemmas.Bool.{and_parts, both_ways}
use Rattle.std.proofs.lemmas.Option.{same_Some}
use Rattle.actor_desk.specs.Books.{books_in}
use Rattle.actor_desk.specs.Desk.{SixBooks}
use Rattle.path_segments.specs.Heard.{HeardSegment}
use Rattle.path_segments.specs.Laws.{meant, window_told}
use Rattle.path_segments.specs.Spelled.{PlainSegment}
use Rattle.sides.specs.declared.side.Side.{Side}
use Rattle.sides.specs.declared.side.Side.TheVariants.{B}
use Rattle.sides.specs.Side.{peer}
use Rattle.link_script.specs.Places.{same_side}
use Rattle.link_model.specs.declared.flight.Flight.{Flight}
use Rattle.link_model.specs.declared.flight.Due.{Due}
use Rattle.link_model.specs.Fate.{is_altered, is_stripped}
use Rattle.link_model.specs.Steps.{arriving, changed, is_due, next_number}
use Rattle.stream_lanes.specs.Words.{Every}
use Rattle.subflow_tcp.specs.declared.verdicts.Meaning.TheVariants as means
use Rattle.path_agenda.specs.declared.heard.Heard.TheVariants as says_so
use Rattle.path_core.specs.Arrival.{copy_of, heard_in}
use Rattle.subflow_tcp.specs.Judging.{meaning_of}
use Rattle.path_core.specs.Choices.{item_at}
use Rattle.path_core.specs.End.{PathEnd}
use Rattle.path_core.specs.Judged.{judged_of, taken_as}
use Rattle.path_core.specs.Looking.{first_sends, segment_sent}
use Rattle.path_core.specs.MpJoin.{is_joined}
use Rattle.path_core.specs.OptionsIn.{items_of, options_heard}
use Rattle.path_core.specs.State.{PathState, end_at}
use Rattle.path_core.specs.Values.{Carried, as_arrived, values}
use Rattle.world_laws.specs.Actors.{Actor, ActorCrew}
use Rattle.world_laws.specs.Openings.{PathPlan, Start}
use Rattle.world_laws.specs.Promises.{written_by}
use Rattle.world_laws.specs.RoundDone.{reached}
use Rattle.world_laws.specs.Worlds.{WorldState, Turn, after_turn}
use Rattle.world_laws.proofs.Whole.Ends.{MeansIs, means_so}
use Rattle.world_laws.proofs.Worlds.Finding.{find_every, one_side}
use Rattle.whole_paths.specs.BareSegments.{BareGoesOn, BareIsSent, IsBareFrom, IsOvertaken}
use Rattle.whole_paths.specs.BareSegments.{BareGoesOn as bare}
use Rattle.whole_paths.specs.Between.{PathsBetween}
use Rattle.whole_paths.specs.Copies.{IsUnderWay}
use Rattle.whole_paths.specs.DataAcks.{TellsWhatCame}
use Rattle.whole_paths.specs.DataAcks.{TellsWhatCame as tells}
use Rattle.whole_paths.specs.Finish.{IsPathAt, is_harmed}
use Rattle.whole_paths.specs.Mending.{LeavesRoomFor}
use Rattle.whole_paths.specs.News.{one_if}
use Rattle.whole_paths.specs.Offered.{Offers, OffersOn, OffersUpTo}
use Rattle.whole_paths.specs.OnePathScripts.{BeginsWithOnePath}
use Rattle.whole_paths.specs.OpenCourses.{IsNow}
use Rattle.whole_paths.specs.SegmentRounds.{Rounds}
use Rattle.whole_paths.specs.Straying.{IsOpenFrom}
use Rattle.whole_paths.specs.WindowsAssured.{FourRoundsAssure, IsAssured, OvertakersSay, SaysWindow, WindowFlies, WindowsAreAssured, WindowsStayAssured}
use Rattle.whole_paths.specs.WindowsAssured.IsAssured.{heard, flies}
use Rattle.whole_paths.specs.WindowsComing.{WindowComesBy}
use Rattle.whole_paths.specs.WindowsHeard.{StaysOpenTo}
use Rattle.whole_paths.proofs.AckedData as acked
use Rattle.whole_paths.proofs.Arrivals.{sender_of}
use Rattle.whole_paths.proofs.Copied.{CopiesWere, WasThere, each_copy_was_there}
use Rattle.whole_paths.proofs.Copied.{WasThere as was}
use Rattle.whole_paths.proofs.DataAcksHeard.{each_data_ack_is_said}
use Rattle.whole_paths.proofs.Exchanges.{changed_said, under_way}
use Rattle.whole_paths.proofs.KnownWindows.{first_told}
use Rattle.whole_paths.proofs.Offered.{what_is_taken_is_offered}
use Rattle.whole_paths.proofs.OpenTurns.{begun}
use Rattle.whole_paths.proofs.Probes.{in_steps, open_over}
use Rattle.whole_paths.proofs.RecordWaits.{here, last}
use Rattle.whole_paths.proofs.RecordsWell.{by_turn, holds_p, mapped_p}
use Rattle.whole_paths.proofs.RoundSteps.{Between, between, early, none_comes, over_after, path_there, rounds_later, silent}
use Rattle.whole_paths.proofs.Saying.{ToSend}
use Rattle.whole_paths.proofs.SentWithin.{EndsWithin, SentWithin, all_sent_within}
use Rattle.whole_paths.proofs.WindowRounds.{carried_with}
use Rattle.whole_paths.proofs.WindowsComing as coming

module _ (start : Start) (plan : PathPlan) (x : BeginsWithOnePath start plan) (turns : List Turn) (turn : Turn) (before : IsNow (IsOpenFrom B) (reached values start turns))
    (after : IsNow (IsOpenFrom B) (after_turn values turn (reached values start turns))) (s : Side) (clear : (end_at (peer s) before.path).modes.clear ≡ true) where
  abbrev w : WorldState Carried
  w = reached values start turns

  abbrev v : WorldState Carried
  v = after_turn values turn w

  abbrev p : PathState Carried
  p = before.path

  abbrev q : PathState Carried
  q = after.path

  abbrev t : Side
  t = peer s

  abbrev six : SixBooks
  six = books_in w.books

  abbrev later : SixBooks
  later = books_in v.books

  were : Every (WasThere values p) q.link.under_way
  were = by_turn start x.mild turns turn before after (CopiesWere values) (each_copy_was_there values w turn 2 before.here.crew before.here.there)

  sent_within : SentWithin p
  sent_within = holds_p start x.mild turns turn before after SentWithin (all_sent_within start turns x.mild.plain.size).each

  pub offers_on : OffersOn six later after.here.crew.list p q
  offers_on = here start x.mild turns turn before after (λ (m : Actor Carried) (n : Actor Carried). PathsBetween OffersOn w.books v.books after.here.crew.list m n)
      (by ((what_is_taken_is_offered values).goes_on w turn 2 before.here.crew before.here.there))
    where
      by : (d : ActorCrew Carried) × (slice_get v.crew 2 ≡ Some d) × PathsBetween OffersOn w.books v.books d.list before.here.crew.member d.member
          → PathsBetween OffersOn w.books v.books after.here.crew.list before.here.crew.member after.here.crew.member
      by found = subst (λ (d : ActorCrew Carried). PathsBetween OffersOn w.books v.books d.list before.here.crew.member d.member) (same_Some found.0 after.here.crew (sym found.1 ∙ after.here.there)) found.2

  -- ---- what a segment of the peer's says as it is sent

  module _ (y : ToSend) (sends : first_sends p.agenda p ≡ Some y) (own : y.from ≡ t) (edge : ℕ) (offered : OffersUpTo six t (edge + 31) p) where
    abbrev sent : PlainSegment
    sent = segment_sent p y

    abbrev e : PathEnd
    e = end_at y.from p

    offers : Offers (edge + 31) e
    offers = subst (λ u. Offers (edge + 31) (end_at u p)) (sym own)
        (subst (λ (o : Option ToSend). IfSome o (λ z. z.from ≡ t → Offers (edge + 31) (end_at t p))) sends ((what_is_taken_is_offered values).sends six t (edge + 31) p offered) own)

    told : sent.window ≡ e.receiving.window
    told = subst (λ (o : Option ToSend). IfSome o (λ (z : ToSend). (segment_sent p z).window ≡ (end_at z.from p).receiving.window)) sends (first_told p)

    says : sent.rst ≡ false → sent.syn ≡ false → SaysWindow edge sent
    says rst syn = by (acked.tells_next start plan x turns p before.here y sends)
      where
        by : TellsWhatCame e sent → SaysWindow edge sent
        by (tells.acknowledges mapping others is alone) = record {
          next = e.receiving.next;
          mapping = mapping;
          others = others;
          says = is;
          low = (let low = ((acked.shown start plan x turns p before.here).tells y.from).window.next in omega (arith, low));
          wide = subst (λ b. edge ≤ e.receiving.next + window_told b sent.window) (sym syn)
              (in_steps edge e.receiving.next sent.window (let room = offers in let same = told in omega (arith, room, same)));
        }
        by (tells.silent unclear none) = absurd (both_ways e.modes.clear unclear (subst (λ u. (end_at u p).modes.clear ≡ true) (sym own) clear))
        by (tells.opens is) = absurd (both_ways sent.syn syn is)
        by (tells.resets is) = absurd (both_ways sent.rst rst is)
        by (tells.refuses answer is reset) = absurd (both_ways sent.rst rst (reset ∙ acked.answers_reset start plan x turns p before.here y sends answer is))

    -- and so does each copy of it
    copied : (g : Flight Carried) → g.carried ≡ values.makes p.profile.spelling y.from sent → SaysWindow edge sent → SaysWindow edge (as_arrived g.carried)
    copied g is h = record {
      next = h.next;
      mapping = h.mapping;
      others = h.others;
      says = ap (λ (c : Carried). (as_arrived c).options) is ∙ h.says;
      low = h.low;
      wide = subst (λ (c : Carried). edge ≤ h.next + (meant (as_arrived c)).window) (sym is) h.wide;
    }

    whole : (g : Flight Carried) → g.carried ≡ changed (values.strips p.profile.spelling y.from) (values.alters p.profile.spelling y.from) (is_stripped y.from (next_number y.from p.link) p.clock p.link.lines)
        (is_altered y.from (next_number y.from p.link) p.link.lines) (values.makes p.profile.spelling y.from sent) → g.carried ≡ values.makes p.profile.spelling y.from sent
    whole g carried =
        carried
        ∙ ap (λ b. changed (values.strips p.profile.spelling y.from) (values.alters p.profile.spelling y.from) b (is_altered y.from (next_number y.from p.link) p.link.lines) (values.makes p.profile.spelling y.from sent))
        (before.faithful.whole.strips y.from (next_number y.from p.link) p.clock)
        ∙ ap (λ b. changed (values.strips p.profile.spelling y.from) (values.alters p.profile.spelling y.from) false b (values.makes p.profile.spelling y.from sent))
        (before.faithful.plain.alters y.from (next_number y.from p.link))

  -- of a copy of what is sent now
  sent_says : (edge : ℕ) → OffersUpTo six t (edge + 31) p → (g : Flight Carried) → g.to ≡ s → g.carried.segment.rst ≡ false → g.carried.segment.syn ≡ false
      → (y : ToSend) → first_sends p.agenda p ≡ Some y → g.to ≡ peer y.from
      → g.carried ≡ changed (values.strips p.profile.spelling y.from) (values.alters p.profile.spelling y.from) (is_stripped y.from (next_number y.from p.link) p.clock p.link.lines)
      (is_altered y.from (next_number y.from p.link) p.link.lines) (values.makes p.profile.spelling y.from (segment_sent p y))
      → SaysWindow edge (as_arrived g.carried)
  sent_says edge offered g to rst syn y is to_y carried =
      let from : y.from ≡ t = sym (sender_of y.from) ∙ ap peer (sym to_y ∙ to) in
      let header = changed_said p.profile.spelling y.from (segment_sent p y) (is_stripped y.from (next_number y.from p.link) p.clock p.link.lines) (is_altered y.from (next_number y.from p.link) p.link.lines) g.carried carried in
      copied y is from edge offered g (whole y is from edge offered g carried) (says y is from edge offered (sym header.rst ∙ rst) (sym header.syn ∙ syn))

  -- ---- one under way

  overtakers_on : (position edge : ℕ) → OffersUpTo six t (edge + 31) p → OvertakersSay s position edge p → OvertakersSay s position edge q
  overtakers_on position edge offered h g on to rst syn some past = by (subst (WasThere values p) on.holds (were.each on.at on.item on.there))
    where
      by : WasThere values p g → SaysWindow edge (as_arrived g.carried)
      by (was.before old) = h g old to rst syn some past
      by (was.sent y is to_y carried) = sent_says edge offered g to rst syn y is to_y carried

  -- what overtakes it is heard
  module _ (edge by_then : ℕ) (h : WindowFlies six s edge by_then p) (over : IsOvertaken s h.comes.copy.carried.segment.position p) where
    abbrev due_to : Side
    due_to = over.brings.copy.due.to

    abbrev taker : PathEnd
    taker = end_at due_to p

    abbrev words : HeardSegment
    words = options_heard taker over.brings.copy.segment

    is_meant : meaning_of (copy_of words) taker.tcp ≡ means.Taken over.brings.position over.brings.acknowledged
    is_meant = ap taken_as (sym (ap (λ j. judged_of j words.rst (items_of j due_to words) (meaning_of (copy_of words) taker.tcp) taker) before.is_open.first) ∙ over.brings.taken)

    means_it : MeansIs (copy_of words) taker.tcp (means.Taken over.brings.position over.brings.acknowledged)
    means_it = subst (MeansIs (copy_of words) taker.tcp) is_meant (means_so (copy_of words) taker.tcp)

    all_there : Every (λ (g : Flight Carried). IsUnderWay g p) p.link.under_way
    all_there = record { each = λ i g at. record { at = i; item = g; there = at; holds = refl } }

    stays_flying : q ≡ p → IsAssured later s edge by_then q
    stays_flying same = flies (record {
      position = h.position;
      comes = subst (WindowComesBy s h.position edge by_then) (sym same) h.comes;
      overtakers = overtakers_on h.position edge h.offered h.overtakers;
      offered = offers_on t (edge + 31) h.offered;
    })

    by_flight : (o : Option (Flight Carried)) → arriving over.brings.copy.due p.link ≡ o → heard_in values due_to o p ≡ Some over.brings.copy.segment → IsAssured later s edge by_then q
    by_flight None is none = cc
    by_flight (Some g) is some = by_segment (same_Some (meant (as_arrived g.carried)) over.brings.copy.segment some)
      where
        found : IsUnderWay g p × (is_due over.brings.copy.due g ≡ true)
        found = find_every (λ (y : Flight Carried). IsUnderWay y p) (is_due over.brings.copy.due) p.link.under_way g all_there is

        to_s : g.to ≡ s
        to_s =
            let parts = and_parts (g.tick == over.brings.copy.due.tick) (same_side g.to due_to && g.number == over.brings.copy.due.copy) found.1 in
            one_side g.to due_to (and_parts (same_side g.to due_to) (g.number == over.brings.copy.due.copy) parts.1).0 ∙ over.to

        by_words : SaysWindow edge (as_arrived g.carried) → meant (as_arrived g.carried) ≡ over.brings.copy.segment → IsAssured later s edge by_then q
        by_words said same = ⊎_elim
            stays_flying
            (λ go. heard (coming.open_on start x.mild turns turn before after s edge (subst (λ u. StaysOpenTo later u edge after.here.crew.list q) over.to go)))
            ((coming.opens start x.mild turns turn before after s).tells over.brings 1 said.next (meant (as_arrived g.carried)).window edge said.wide
            (subst (λ (y : HeardSegment). item_at 1 (items_of (is_joined p.profile) due_to (options_heard taker y)) ≡ Some (says_so.DataAck said.next (meant (as_arrived g.carried)).window)) same
            (each_data_ack_is_said (as_arrived g.carried) taker (is_joined p.profile) due_to said.next said.mapping said.others said.says said.low
            (subst (λ u. (end_at u p).modes.identity ≡ false) (sym over.to) ((mapped_p start x.mild turns turn before after) s).identity))))

        by_segment : meant (as_arrived g.carried) ≡ over.brings.copy.segment → IsAssured later s edge by_then q
        by_segment same =
            let m = means_it in
            let at_is : Some g.carried.segment.position ≡ Some over.brings.position = ap (λ (y : HeardSegment). (copy_of (options_heard taker y)).position) same ∙ m.1.1.1.0 in
            let position_is = same_Some g.carried.segment.position over.brings.position at_is in
            let payload_is = ap (λ (y : HeardSegment). length y.payload) same in
            let fin_is = ap (λ (y : HeardSegment). one_if y.fin) same in
            let some_octets = over.some in let past = over.past in let at = h.comes.at in
            let said = h.overtakers g found.0 to_s (ap (λ (y : HeardSegment). y.rst) same ∙ m.1.1.0) (ap (λ (y : HeardSegment). y.syn) same ∙ m.1.0)
            (omega (arith, some_octets, payload_is, fin_is)) (omega (arith, past, at, position_is, payload_is, fin_is)) in
            by_words said same

    overtaken : IsAssured later s edge by_then q
    overtaken = by_flight (arriving over.brings.copy.due p.link) refl over.brings.copy.heard

  flies_on : (edge by_then : ℕ) → WindowFlies six s edge by_then p → IsAssured later s edge by_then q
  flies_on edge by_then h = of_bare ((coming.bares start x.mild turns turn before after s).goes c.copy c.there c.bare)
    where
      c : WindowComesBy s h.position edge by_then p
      c = h.comes

      still_flies : WindowComesBy s h.position edge by_then q → IsAssured later s edge by_then q
      still_flies on = flies (record {
        position = h.position;
        comes = on;
        overtakers = overtakers_on h.position edge h.offered h.overtakers;
        offered = offers_on t (edge + 31) h.offered;
      })

      of_bare : BareGoesOn s h.comes.copy p q → IsAssured later s edge by_then q
      of_bare (bare.on there still) = still_flies (record {
        copy = h.comes.copy;
        there = there;
        at = h.comes.at;
        bare = still;
        next = h.comes.next;
        mapping = h.comes.mapping;
        others = h.comes.others;
        says = h.comes.says;
        low = h.comes.low;
        wide = h.comes.wide;
        soon = h.comes.soon;
      })
      of_bare (bare.is_taken b due segment) = ⊎_elim
          (λ same. still_flies (subst (WindowComesBy s h.position edge by_then) (sym same) h.comes))
          (λ go. heard (coming.open_on start x.mild turns turn before after s edge (subst (λ u. StaysOpenTo later u edge after.here.crew.list q) to go)))
          ((coming.opens start x.mild turns turn before after s).tells b 1 h.comes.next (meant (as_arrived h.comes.copy.carried)).window edge h.comes.wide said)
        where
          to : b.copy.due.to ≡ s
          to = ap (λ (d : Due). d.to) due ∙ h.comes.bare.to

          said : item_at 1 (items_of (is_joined p.profile) b.copy.due.to (options_heard (end_at b.copy.due.to p) b.copy.segment)) ≡ Some (says_so.DataAck h.comes.next (meant (as_arrived h.comes.copy.carried)).window)
          said = subst (λ (g : HeardSegment). item_at 1 (items_of (is_joined p.profile) b.copy.due.to (options_heard (end_at b.copy.due.to p) g)) ≡ Some (says_so.DataAck h.comes.next (meant (as_arrived h.comes.copy.carried)).window)) (sym segment)
              (each_data_ack_is_said (as_arrived h.comes.copy.carried) (end_at b.copy.due.to p) (is_joined p.profile) b.copy.due.to h.comes.next h.comes.mapping h.comes.others h.comes.says h.comes.low
              (subst (λ u. (end_at u p).modes.identity ≡ false) (sym to) ((mapped_p start x.mild turns turn before after) s).identity))
      of_bare (bare.overtaken over) = overtaken edge by_then h over

  pub assured_on : (edge by_then : ℕ) → IsAssured six s edge by_then p → IsAssured later s edge by_then q
  assured_on edge by_then (heard is) = heard (coming.open_on start x.mild turns turn before after s edge ((coming.opens start x.mild turns turn before after s).stays s edge is))
  assured_on edge by_then (flies h) = flies_on edge by_then h

  -- ---- one that is sent

  pub sent_so : LeavesRoomFor s p → (y : ToSend) → first_sends p.agenda p ≡ Some y → (own : y.from ≡ t) → IsBareFrom t p (segment_sent p y) → (edge : ℕ) → OffersUpTo six t (edge + 31) p
      → (q ≡ p) ⊎ ((is_harmed t p q ≡ true) ⊎ IsAssured later s edge (p.clock + 400) q)
  sent_so room y sends own from edge offered = ⊎_elim (λ same. inl same) (λ goes. inr (⊎_elim (λ harmed. inl harmed) (λ c. inr (on_its_way c)) goes))
      (subst (λ (o : Option ToSend). IfSome o (λ z. z.from ≡ t → IsBareFrom t p (segment_sent p z) → (q ≡ p) ⊎ ((is_harmed t p q ≡ true) ⊎ BareIsSent s (segment_sent p z) p q))) sends
      ((coming.bares start x.mild turns turn before after s).sent room) own from)
    where
      said : SaysWindow edge (segment_sent p y)
      said = says y sends own edge offered from.rst from.syn

      none_past : OvertakersSay s (end_at t p).tcp.send.nxt edge q
      none_past g on to rst syn some past = by (subst (WasThere values p) on.holds (were.each on.at on.item on.there))
        where
          by : WasThere values p g → SaysWindow edge (as_arrived g.carried)
          by (was.before old) =
              let within : EndsWithin (end_at (peer g.to) p).tcp.send.nxt g.carried.segment = under_way (λ (f : Flight Carried). EndsWithin (end_at (peer f.to) p).tcp.send.nxt f.carried.segment) g p old sent_within.copies in
              let low = within some in let same = ap (λ u. (end_at (peer u) p).tcp.send.nxt) to in absurd (omega (arith, low, same, past))
          by (was.sent z is to_z carried) = sent_says edge offered g to rst syn z is to_z carried

      on_its_way : BareIsSent s (segment_sent p y) p q → IsAssured later s edge (p.clock + 400) q
      on_its_way c = flies (record {
        position = (end_at t p).tcp.send.nxt;
        comes = coming.on_its_way start x.mild turns turn before after s (segment_sent p y) from said.next said.mapping said.others said.says said.low edge said.wide c;
        overtakers = none_past;
        offered = offers_on t (edge + 31) offered;
      })

  pub windows_stay_assured : WindowsStayAssured s six later p q
  windows_stay_assured = record { comes = assured_on; sent = λ room. by room (first_sends p.agenda p) refl }
    where
      by : LeavesRoomFor s p → (o : Option ToSend) → first_sends p.agenda p ≡ o → IfSome o (λ y. y.from ≡ t → IsBareFrom t p (segment_sent p y) → (edge : ℕ) → OffersUpTo six t (edge + 31) p
          → (q ≡ p) ⊎ ((is_harmed t p q ≡ true) ⊎ IsAssured later s edge (p.clock + 400) q))
      by room None is = tt
      by room (Some y) is = λ own from edge offered. sent_so room y is own from edge offered

pub windows_are_assured : WindowsAreAssured
windows_are_assured start plan turns turn x h s clear =
    subst (λ (u : WorldState Carried). (a : IsNow (IsOpenFrom B) u) → WindowsStayAssured s (books_in (reached values start turns).books) (books_in u.books) h.before.path a.path) (sym (last start x.mild turns turn))
    (λ a. windows_stay_assured start plan x turns turn h.before a s clear) h.after

-- ---- four rounds

module _ (start : Start) (plan : PathPlan) (x : BeginsWithOnePath start plan) (v u : List Turn) (rounds : Rounds start 4 v u) (s : Side) (p : PathState Carried) (here_v : IsPathAt 0 (reached values start v) p) (edge : ℕ) where
  on_the_way : Between start v u
  on_the_way = between start 3 v u rounds

  abbrev Assured : List Turn → PathState Carried → Type 0
  Assured turns y = IsAssured (books_in (reached values start turns).books) s edge (p.clock + 400) y

  assured_then : (q : PathState Carried) → IsPathAt 0 (reached values start u) q → Assured v p → Assured u q
  assured_then q there h = subst (λ t. Assured t q) (sym on_the_way.is)
      (carried_with start Assured (λ turns turn before after. (windows_are_assured start plan turns turn x (begun start turns turn (record { mild = x.mild; before = before; after = after })) s (before.is_open.clear (peer s))).comes edge (p.clock + 400))
      v on_the_way.more on_the_way.stays_open p q here_v (subst (λ t. IsPathAt 0 (reached values start t) q) on_the_way.is there) h)

  is_open_to : (q : PathState Carried) → IsPathAt 0 (reached values start u) q → Assured u q → edge ≤ (written_by s (reached values start u)).edge
  is_open_to q there (heard is) = open_over (books_in (reached values start u).books) s edge q (silent start u q (over_after start 3 v u rounds) there) is
  is_open_to q there (flies h) =
      let c = h.comes in
      let tick = c.soon in
      let clock = early start v p here_v in
      let flying = c.there in
      let first_tick = none_comes start u q (over_after start 3 v u rounds) there flying.at flying.item flying.there in
      let same = ap (λ (f : Flight Carried). f.tick) flying.holds in
      let all = rounds_later start 4 v u rounds in absurd (omega (arith, tick, clock, first_tick, same, all))

pub four_rounds_assure : FourRoundsAssure
four_rounds_assure start plan v u x rounds s p here_v edge h =
    let there = path_there start v u (between start 3 v u rounds) in
    is_open_to start plan x v u rounds s p here_v edge there.path there.here (assured_then start plan x v u rounds s p here_v edge there.path there.here h)
