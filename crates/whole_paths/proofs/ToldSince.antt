-- Since an end owed an answer and none of its segments was harmed its window is told: with the answer, and with an Update once its reader has read
-- enough.
use Rattle.std.proofs.Common.{◌≡◌, refl, sym, subst, ap, ◌∙◌, ◌⊎◌, inl, inr, ⊎_elim, ℕ, suc, ◌+◌, ◌-◌, ◌*◌, ◌<◌, ◌≤◌, arith, min, true, false, if◌then◌else◌, Option, Some, None, IfSome, List, [], ◌∷◌, ◌++◌}
use Rattle.std.proofs.lemmas.Bool.{both_ways, cases_lt, le-leb}
use Rattle.sides.specs.declared.side.Side.{Side}
use Rattle.sides.specs.declared.side.Side.TheVariants.{A, B}
use Rattle.sides.specs.Side.{peer}
use Rattle.path_segments.specs.Spelled.{PlainSegment}
use Rattle.reassembly_book.specs.State.{Arriving, received}
use Rattle.reassembly_book.specs.Steps as arriving
use Rattle.reassembly_book.specs.Steps.{is_end, next_wanted}
use Rattle.subflow_tcp.specs.States.{is_dead}
use Rattle.actor_desk.specs.Books.{books_in}
use Rattle.actor_desk.specs.Desk.{SixBooks, reassembly_of}
use Rattle.path_agenda.specs.Agenda.{start_of_turn}
use Rattle.path_agenda.specs.declared.duty.Duty.{Duty}
use Rattle.path_agenda.specs.declared.duty.Duty.TheVariants as duties
use Rattle.path_agenda.specs.declared.duty.AskDuty.TheVariants as ask_duties
use Rattle.path_agenda.specs.declared.duty.SendDuty.TheVariants as send_duties
use Rattle.path_core.specs.End.{PathEnd}
use Rattle.path_core.specs.Looking.{first_sends, segment_sent}
use Rattle.path_core.specs.Profile.{Profile}
use Rattle.path_core.specs.Standing.{has_grown, tellable_edge}
use Rattle.path_core.specs.Start.{waiting_path}
use Rattle.path_core.specs.State.{PathState, end_at, with_agenda}
use Rattle.path_core.specs.Values.{Carried, values}
use Rattle.world_laws.specs.Actors.{ActorCrew}
use Rattle.world_laws.specs.Openings.{PathPlan, Start, opened_world, path_begins}
use Rattle.world_laws.specs.Promises.{arrived_at}
use Rattle.world_laws.specs.RoundDone.{reached}
use Rattle.world_laws.specs.Worlds.{Turn, WorldState, after_turn}
use Rattle.world_laws.specs.Writes.{side_of}
use Rattle.world_laws.proofs.Rounds.Lifting.{opened_lifted}
use Rattle.whole_paths.specs.Answered.{HasAnswered, IsDone}
use Rattle.whole_paths.specs.BareSegments.{IsBareFrom}
use Rattle.whole_paths.specs.CalmWindows.{OwedSince, WhatIsOwedIsTold}
use Rattle.whole_paths.specs.CalmWindows.{OwedSince as owed}
use Rattle.whole_paths.specs.DataAcksNow.{KnowsWhatCame, KnowsWindow, WindowSince}
use Rattle.whole_paths.specs.Delivery.{IsAllThere}
use Rattle.whole_paths.specs.Finish.{IsPathAt, is_harmed}
use Rattle.whole_paths.specs.Mending.{IsBegunTurn, IsOpenTurn}
use Rattle.whole_paths.specs.Offered.{Offers, OffersOn, OffersUpTo}
use Rattle.whole_paths.specs.OfferedTaken.{TellsWhatIsTaken}
use Rattle.whole_paths.specs.OnePathScripts.{BeginsWithOnePath}
use Rattle.whole_paths.specs.OpenCourses.{IsNow, IsOpenAfter}
use Rattle.whole_paths.specs.SegmentRounds.{IsRound, read_after}
use Rattle.whole_paths.specs.Straying.{IsOpen, IsOpenFrom}
use Rattle.whole_paths.specs.ToldEdges.{ToldOn, UpdatesIfGrown, offer, told}
use Rattle.whole_paths.specs.ToldEdges.{ToldOn as told_on}
use Rattle.whole_paths.specs.ToldStays.{ToldStays}
use Rattle.whole_paths.specs.TurnsBegin.{AsksNow, HasBegun, TurnBeginsOn, TurnsBeginOn}
use Rattle.whole_paths.specs.WindowsAssured.{IsAssured, SaysWindow}
use Rattle.whole_paths.specs.WindowsAssured.IsAssured.{heard, flies}
use Rattle.whole_paths.specs.WindowsHeard.{IsOpenTo}
use Rattle.whole_paths.specs.WindowsHeard.{IsOpenTo as open_to}
use Rattle.whole_paths.proofs.AnswersAssure.{assured_later, each_answer_assures, no_reset}
use Rattle.whole_paths.proofs.AsksOwed.{who_asks_owes}
use Rattle.whole_paths.proofs.BooksRead.{ReadsOn, books_are_read}
use Rattle.whole_paths.proofs.ByTurns.{Of, OfBooked, each_booked}
use Rattle.whole_paths.proofs.DataAcksNow.{each_data_ack_is_up_to_date}
use Rattle.whole_paths.proofs.Delivery.{what_is_there_stays}
use Rattle.whole_paths.proofs.Directions.{clock, edge_up, past_is_there}
use Rattle.whole_paths.proofs.Offered.{settled_offers, sizes_stay, start_asks, what_is_taken_is_offered}
use Rattle.whole_paths.proofs.OfferedTaken.{never_reset, what_is_told_is_taken}
use Rattle.whole_paths.proofs.OpeningCourses.{connected_past}
use Rattle.whole_paths.proofs.OpenTurns.{begun, with_both}
use Rattle.whole_paths.proofs.Owing.{copies_are_answered}
use Rattle.whole_paths.proofs.Paying.{StillOwed, Turned, TurnedTo, sends_on, turned_to}
use Rattle.whole_paths.proofs.Paying.{StillOwed as owing}
use Rattle.whole_paths.proofs.PathTurns.{at_turn}
use Rattle.whole_paths.proofs.PositionCounts.{only_profile}
use Rattle.whole_paths.proofs.RecordWaits.{last, path_is}
use Rattle.whole_paths.proofs.RoundSteps.{each_round_reads, open_last, silent}
use Rattle.whole_paths.proofs.Saying.{ToSend}
use Rattle.whole_paths.proofs.SegmentRounds.{counts, if_may, of_path, unfinished}
use Rattle.whole_paths.proofs.ToldEdges.{told_low, what_is_told_goes_on}
use Rattle.whole_paths.proofs.ToldRounds.{each_round_asks}
use Rattle.whole_paths.proofs.ToldStays.{who_is_told_stays_told}
use Rattle.whole_paths.proofs.TurnsBegin.{each_is_at_turn, each_turn_begins, none_is_its_peer}
use Rattle.whole_paths.proofs.WindowRoom.{each_window_has_room, one_path_is_roomy}
use Rattle.whole_paths.proofs.WindowsAssured.{windows_are_assured}

-- ---- what is assured to a place is so to each place before it

assured_before : (six : SixBooks) (s : Side) (less edge by_then : ℕ) (p : PathState Carried) → less ≤ edge → IsAssured six s edge by_then p → IsAssured six s less by_then p
assured_before six s less edge by_then p low (heard is) = heard (by is)
  where
    by : IsOpenTo six s edge p → IsOpenTo six s less p
    by (open_to.counts is) = open_to.counts (omega (arith, is, low))
    by (open_to.told next window is h) = open_to.told next window (omega (arith, is, low)) h
assured_before six s less edge by_then p low (flies h) = flies (record {
  position = h.position;
  comes = record {
    copy = h.comes.copy;
    there = h.comes.there;
    at = h.comes.at;
    bare = h.comes.bare;
    next = h.comes.next;
    mapping = h.comes.mapping;
    others = h.comes.others;
    says = h.comes.says;
    low = h.comes.low;
    wide = (let wide = h.comes.wide in omega (arith, wide, low));
    soon = h.comes.soon;
  };
  overtakers = λ g on to rst syn some past. less_said _ (h.overtakers g on to rst syn some past);
  offered = record {
    taken = (let taken = h.offered.taken in omega (arith, taken, low));
    offered = ⊎_elim (λ offers. inl (omega (arith, offers, low))) (λ asks. inr asks) h.offered.offered;
  };
})
  where
    less_said : (x : PlainSegment) → SaysWindow edge x → SaysWindow less x
    less_said x h = record { next = h.next; mapping = h.mapping; others = h.others; says = h.says; low = h.low; wide = (let wide = h.wide in omega (arith, wide, low)) }

-- ---- numbers

wanted_low : (b : Arriving) → received b ≤ next_wanted b
wanted_low b = elim (is_end b.known_end (received b)) as (λ c. received b ≤ received b + (if c then 1 else 0)) [ true ↦ omega arith | false ↦ omega arith ]

wanted_high : (b : Arriving) → next_wanted b ≤ suc (received b)
wanted_high b = elim (is_end b.known_end (received b)) as (λ c. received b + (if c then 1 else 0) ≤ suc (received b)) [ true ↦ omega arith | false ↦ omega arith ]

-- a window that hasn't grown
not_grown : (c : Profile) (e : PathEnd) → has_grown c e ≡ false → 2 * (tellable_edge e - told e) < min c.buffer (4 * c.mss)
not_grown c e is = ⊎_elim (λ less. less) (λ more. absurd (both_ways (has_grown c e) is (le-leb (min c.buffer (4 * c.mss)) (2 * (tellable_edge e - told e)) more)))
    (cases_lt (2 * (tellable_edge e - told e)) (min c.buffer (4 * c.mss)))

tellable_low : (e : PathEnd) → offer e ≤ tellable_edge e + 31
tellable_low e = omega arith

-- ---- a side's peer

module _ (start : Start) (plan : PathPlan) (one : BeginsWithOnePath start plan) (s : Side) where
  abbrev far : Side
  far = peer s

  abbrev at : List Turn → WorldState Carried
  at turns = reached values start turns

  abbrev six : List Turn → SixBooks
  six turns = books_in (at turns).books

  abbrev book : List Turn → Arriving
  book turns = reassembly_of far (six turns)

  abbrev Assured : ℕ → List Turn → PathState Carried → Type 0
  Assured g turns y = IsAssured (six turns) s g (y.clock + 400) y

  -- the bound is that of what the book took, as the end asked it last, and nothing was read since; or all that came is read; or far more is
  data IsRead (turns : List Turn) (bound : ℕ) (y : PathState Carried) : Type 0 where
    known : (book turns).read + start.buffer < bound → bound ≤ (book turns).read + start.buffer + 2 → IsRead turns bound y
    all_read : (end_at far y).tcp.recv.edge ≤ suc (book turns).read → IsRead turns bound y
    far_read : bound + 65500 ≤ (book turns).read + start.buffer → IsRead turns bound y

  -- what the end told is assured to the side, but for 33 bytes
  record Tells (g : ℕ) (turns : List Turn) (y : PathState Carried) : Type 0 where
    assured : Assured g turns y
    told_low : told (end_at far y) ≤ g + 33
    offer_low : offer (end_at far y) ≤ g + 33
    is_read : IsRead turns (g + 33) y

  -- The end owes an answer, or an Update goes next; or what it told is assured, or enough; or all is there.
  data Told (turns : List Turn) (y : PathState Carried) : Type 0 where
    owes : (end_at far y).tcp.due.ack ≡ true → Told turns y
    updates : (others : List Duty) → y.agenda ≡ duties.Send (send_duties.Update far) ∷ others → Told turns y
    tells : (g : ℕ) → Tells g turns y → Told turns y
    enough : (g : ℕ) → Assured g turns y → (end_at far y).tcp.recv.edge + (plan.mss - 28) ≤ g + 1 → Told turns y
    all_came : IsAllThere s (at turns) → Told turns y

  -- ---- at a moment

  size : (turns : List Turn) → (book turns).capacity ≡ start.buffer
  size turns = sizes_stay values start turns far

  exact : (turns : List Turn) (p : PathState Carried) → IsPathAt 0 (at turns) p → IsOpen p → IsAllThere s (at turns) ⊎ ((end_at far p).tcp.recv.edge ≡ suc (received (book turns)))
  exact turns p here is_open = if_may start one.mild (IsAllThere s (at turns) ⊎ ((end_at far p).tcp.recv.edge ≡ suc (received (book turns)))) turns p here is_open s (λ all. inl all)
      (λ may. inr ((counts start plan one turns p here s).exact (unfinished start one.mild turns p here s may)))

  profile : (turns : List Turn) (p : PathState Carried) → IsPathAt 0 (at turns) p → p.profile ≡ (path_begins start 0 plan).profile
  profile turns p here = of_path start one.mild turns p (λ z. z.profile ≡ (path_begins start 0 plan).profile) here (only_profile start plan turns one.one one.mild 2 here.crew here.there)

  -- the end knows that a buffer is taken, or asks before it sends
  abbrev OffersFirst : SixBooks → PathState Carried → Type 0
  OffersFirst six p = OffersUpTo six far start.buffer p

  opened_offers : OfBooked values start OffersOn (what_is_taken_is_offered values).goes_on OffersFirst (opened_world start)
  opened_offers = record {
    each = λ c there. (opened_lifted (λ (c : ActorCrew Carried). Of (OffersFirst (books_in (opened_world {C = Carried} start).books)) c.member) start tt tt
        (λ number plan at_place. record {
          taken = taken far;
          offered = settled_offers far start.buffer start_of_turn (with_agenda start_of_turn (waiting_path {C = Carried} (path_begins start number plan) start.lines)) (inr (start_asks far));
        })).each 2 c there;
  }
    where
      taken : (u : Side) → start.buffer ≤ arriving.edge (reassembly_of u (books_in (opened_world {C = Carried} start).books))
      taken u = elim u as (λ u. start.buffer ≤ arriving.edge (reassembly_of u (books_in (opened_world {C = Carried} start).books))) [ A ↦ omega arith | B ↦ omega arith ]

  offers_first : (turns : List Turn) (p : PathState Carried) → IsPathAt 0 (at turns) p → OffersFirst (six turns) p
  offers_first turns p here = subst (Of (OffersFirst (six turns))) here.is
      ((each_booked values start OffersOn (what_is_taken_is_offered values).goes_on OffersFirst opened_offers (λ turns turn steps p q here there on h. on far start.buffer h) turns).each here.crew here.there)

  -- ---- what is sent

  -- The window is as the book took then, and the place is up to date.
  record SendsWindow (turns : List Turn) (p : PathState Carried) : Type 0 where
    since : WindowSince (book turns) (end_at far p).receiving.window
    next : (end_at far p).receiving.next ≡ next_wanted (book turns)
    big : start.buffer ≤ offer (end_at far p)

  module _ (turns : List Turn) (p : PathState Carried) (here : IsPathAt 0 (at turns) p) (is_open : IsOpen p) where
    knows : KnowsWhatCame (six turns) p
    knows = of_path start one.mild turns p (KnowsWhatCame (six turns)) here ((each_data_ack_is_up_to_date values start turns plan one.one).each 2 here.crew here.there)

    sends_window : (x : ToSend) → first_sends p.agenda p ≡ Some x → x.from ≡ far → (segment_sent p x).rst ≡ false → SendsWindow turns p
    sends_window x sends own rst = record {
      since = subst (λ u. KnowsWindow (reassembly_of u (six turns)) (end_at u p)) own
          (subst (λ (o : Option ToSend). IfSome o (λ t. is_dead (end_at t.from p).tcp.state ≡ false → (segment_sent p t).rst ≡ false → KnowsWindow (reassembly_of t.from (six turns)) (end_at t.from p))) sends knows.windows living rst)
          (let some = offers in let room = one.buffer in omega (arith, some, room));
      next = subst (λ u. (end_at u p).receiving.next ≡ next_wanted (reassembly_of u (six turns))) own
          (subst (λ (o : Option ToSend). IfSome o (λ t. is_dead (end_at t.from p).tcp.state ≡ false → (segment_sent p t).rst ≡ false → (end_at t.from p).receiving.next ≡ next_wanted (reassembly_of t.from (six turns)))) sends knows.sends living rst);
      big = offers;
    }
      where
        living : is_dead (end_at x.from p).tcp.state ≡ false
        living = is_open.living x.from

        offers : Offers start.buffer (end_at far p)
        offers = subst (λ (o : Option ToSend). IfSome o (λ t. t.from ≡ far → Offers start.buffer (end_at far p))) sends ((what_is_taken_is_offered values).sends (six turns) far start.buffer p (offers_first turns p here)) own

    sends_if : (o : Option ToSend) → first_sends p.agenda p ≡ o → IfSome o (λ x. x.from ≡ far → (segment_sent p x).rst ≡ false → SendsWindow turns p)
    sends_if None sends = tt
    sends_if (Some x) sends = sends_window x sends

    taken : TellsWhatIsTaken (six turns) far p
    taken = what_is_told_is_taken start turns one.mild p here far

    -- a place 32 bytes before the end's window
    offers_less : SendsWindow turns p → OffersUpTo (six turns) far (offer (end_at far p) - 32 + 31) p
    offers_less x = record {
      taken = (let offered = taken.offered in let big = x.big in let room = one.buffer in omega (arith, offered, big, room));
      offered = inl (let big = x.big in let room = one.buffer in omega (arith, big, room));
    }

    sent_read : SendsWindow turns p → (end_at far p).tcp.recv.edge ≡ suc (received (book turns)) → IsRead turns (offer (end_at far p) - 32 + 33) p
    sent_read x exact_now = by x.since.since
      where
        w : WindowSince (book turns) (end_at far p).receiving.window
        w = x.since

        low : w.read + start.buffer ≤ offer (end_at far p)
        low = (let is = w.is in let next = x.next in let wanted = wanted_low (book turns) in let full = size turns in let room = w.low in omega (arith, is, next, wanted, full, room))

        high : offer (end_at far p) ≤ suc (w.read + start.buffer)
        high = (let is = w.is in let next = x.next in let wanted = wanted_high (book turns) in let full = size turns in let room = w.low in omega (arith, is, next, wanted, full, room))

        by : ((book turns).read ≡ w.read) ⊎ ((received (book turns) ≤ (book turns).read) ⊎ (w.read + 65536 ≤ (book turns).read)) → IsRead turns (offer (end_at far p) - 32 + 33) p
        by (inl is) = known (let below = low in let big = x.big in let room = one.buffer in omega (arith, is, below, big, room)) (let above = high in let big = x.big in let room = one.buffer in omega (arith, is, above, big, room))
        by (inr (inl all)) = all_read (omega (arith, all, exact_now))
        by (inr (inr more)) = far_read (let above = high in let big = x.big in let room = one.buffer in omega (arith, more, above, big, room))

  -- ---- a turn

  module _ (turns : List Turn) (turn : Turn) (open_turn : IsOpenTurn start turns turn) (none : is_harmed far open_turn.before.path open_turn.after.path ≡ false) where
    abbrev later : List Turn
    later = turns ++ turn ∷ []

    abbrev p : PathState Carried
    p = open_turn.before.path

    abbrev q : PathState Carried
    q = open_turn.after.path

    abbrev here_p : IsPathAt 0 (at turns) p
    here_p = open_turn.before.here

    abbrev here_q : IsPathAt 0 (at later) q
    here_q = open_turn.after.here

    abbrev e : PathEnd
    e = end_at far p

    abbrev f : PathEnd
    f = end_at far q

    abbrev h : IsBegunTurn start turns turn
    h = begun start turns turn open_turn

    living_q : is_dead f.tcp.state ≡ false
    living_q = open_turn.after.is_open.living far

    there_q : IsPathAt 0 (after_turn values turn (at turns)) q
    there_q = subst (λ (w : WorldState Carried). IsPathAt 0 w q) (last start one.mild turns turn) here_q

    told_stays : ToldStays s p q
    told_stays = who_is_told_stays_told start turns turn (one_path_is_roomy start plan one) h s

    turns_begin : TurnBeginsOn (six later) far p q
    turns_begin = at_turn start turns turn p q here_p here_q TurnsBeginOn (each_turn_begins values) far

    turned : Turned p q
    turned = with_both start turns turn h TurnedTo (turned_to values (at turns) turn 2 here_p.crew here_p.there)

    told_so : ToldOn far p q
    told_so = (what_is_told_goes_on start turns turn p q here_p there_q far).0

    updates_so : UpdatesIfGrown far p q
    updates_so = (what_is_told_goes_on start turns turn p q here_p there_q far).1

    assured_on : (g : ℕ) → IsAssured (six later) s g (p.clock + 400) q → Assured g later q
    assured_on g is = assured_later (six later) s g (p.clock + 400) (q.clock + 400) q (let up = clock start (one_path_is_roomy start plan one) turns turn h s in omega (arith, up)) is

    goes_on : (g : ℕ) → Assured g turns p → Assured g later q
    goes_on g is = assured_on g ((windows_are_assured start plan turns turn one h s (open_turn.before.is_open.clear far)).comes g (p.clock + 400) is)

    all_on : IsAllThere s (at turns) → Told later q
    all_on all = all_came (what_is_there_stays start turns (turn ∷ []) one.mild s all)

    -- RCV.NXT of the end stays, or it owes an answer, or all is there
    rises : (f.tcp.recv.edge ≡ e.tcp.recv.edge → Told later q) → Told later q
    rises on = ⊎_elim
        (λ more. ⊎_elim (λ due. owes due) (λ past. all_came (past_is_there start one.mild later q here_q s open_turn.after.is_open past)) (told_stays.more more))
        (λ few. on (let up = edge_up start (one_path_is_roomy start plan one) turns turn h s far in omega (arith, few, up)))
        (cases_lt e.tcp.recv.edge f.tcp.recv.edge)

    read_on : (bound : ℕ) → f.tcp.recv.edge ≡ e.tcp.recv.edge → IsRead turns bound p → (IsRead later bound q → Told later q) → Told later q
    read_on bound same is goes = ⊎_elim (λ all. all_came all) (λ now. goes (by now is (books_are_read start turns turn far))) (exact later q here_q open_turn.after.is_open)
      where
        by : f.tcp.recv.edge ≡ suc (received (book later)) → IsRead turns bound p → ReadsOn (book turns) (book later) → IsRead later bound q
        by now is (inr (inl all)) = all_read (omega (arith, now, all))
        by now (known low high) (inl stays) = known (omega (arith, low, stays)) (omega (arith, high, stays))
        by now (known low high) (inr (inr more)) = far_read (omega (arith, high, more))
        by now (all_read low) (inl stays) = all_read (omega (arith, low, same, stays))
        by now (all_read low) (inr (inr more)) = all_read (omega (arith, low, same, more))
        by now (far_read low) (inl stays) = far_read (omega (arith, low, stays))
        by now (far_read low) (inr (inr more)) = far_read (omega (arith, low, more))

    tells_on : (g : ℕ) → Assured g later q → IsRead turns (g + 33) p → f.tcp.recv.edge ≡ e.tcp.recv.edge → told f ≤ g + 33 → offer f ≤ g + 33 → Told later q
    tells_on g is read same told_now offer_now = read_on (g + 33) same read (λ read. tells g (record { assured = is; told_low = told_now; offer_low = offer_now; is_read = read }))

    -- ---- an answer, or an Update

    -- as it is sent
    window_goes : (d : Duty) (others : List Duty) → p.agenda ≡ d ∷ others → sends_on d ≡ true → SendsWindow turns p → Assured (offer e - 32) later q → Told later q
    window_goes d others first on x is = ⊎_elim (λ all. all_on all) (λ exact_now. rises (λ same. by exact_now same told_so)) (exact turns p here_p open_turn.before.is_open)
      where
        asks_none : (d : Duty) (t : Side) (rest : List Duty) → d ∷ others ≡ duties.Ask (ask_duties.Window t) ∷ rest → sends_on d ≡ true → ⊥
        asks_none (duties.Ask x) t rest same on = cc
        asks_none (duties.Step x) t rest same on = cc
        asks_none (duties.Send x) t rest same on = cc
        asks_none (duties.Silent x) t rest same on = cc
        asks_none duties.End t rest same on = cc

        acks_none : (d : Duty) (t : Side) (rest : List Duty) → d ∷ others ≡ duties.Ask (ask_duties.AckOut t) ∷ rest → sends_on d ≡ true → ⊥
        acks_none (duties.Ask x) t rest same on = cc
        acks_none (duties.Step x) t rest same on = cc
        acks_none (duties.Send x) t rest same on = cc
        acks_none (duties.Silent x) t rest same on = cc
        acks_none duties.End t rest same on = cc

        by : e.tcp.recv.edge ≡ suc (received (book turns)) → f.tcp.recv.edge ≡ e.tcp.recv.edge → ToldOn far p q → Told later q
        by exact_now same (told_on.keeps next window edge) = tells_on (offer e - 32) is (sent_read turns p here_p open_turn.before.is_open x exact_now) same
            (let low = told_low e f edge in let big = x.big in let room = one.buffer in let before = (taken turns p here_p open_turn.before.is_open).known (open_turn.before.is_open.living far) in omega (arith, low, big, room, before))
            (let big = x.big in let room = one.buffer in omega (arith, next, window, big, room))
        by exact_now same (told_on.begins rest is told_same) = absurd (asks_none d far rest (sym first ∙ is) on)
        by exact_now same (told_on.asks rest is told_same) = absurd (acks_none d far rest (sym first ∙ is) on)
        by exact_now same (told_on.dies dead) = absurd (both_ways (is_dead f.tcp.state) living_q dead)
        by exact_now same (told_on.breaks is) = absurd (⊎_elim (never_reset start one.mild turns p here_p far) (never_reset start one.mild later q here_q far) is)

    after_begun : IsNow (IsOpenFrom B) (after_turn values turn (at turns))
    after_begun = subst (λ (w : WorldState Carried). IsNow (IsOpenFrom B) w) (last start one.mild turns turn) h.after

    answer_goes : e.tcp.due.ack ≡ true → (d : Duty) (others : List Duty) → p.agenda ≡ d ∷ others → sends_on d ≡ true → side_of d ≡ far → (x : ToSend) → first_sends p.agenda p ≡ Some x → x.from ≡ far → Told later q
    answer_goes due d others first on side x sends own =
        let goes : SendsWindow turns p = sends_window turns p here_p open_turn.before.is_open x sends own
        (no_reset start plan one turns turn h.before after_begun s (open_turn.before.is_open.clear far) x sends own d others first on side) in
        ⊎_elim
        (λ still. owes still)
        (λ rest. ⊎_elim (λ harmed. absurd (both_ways (is_harmed far p q) none harmed)) (λ is. window_goes d others first on goes (assured_on (offer e - 32) is)) rest)
        (each_answer_assures start plan turns turn one h s (open_turn.before.is_open.clear far) due (offer e - 32) (offers_less turns p here_p open_turn.before.is_open goes))

    owes_next : e.tcp.due.ack ≡ true → Told later q
    owes_next due = by (turned.owing far)
      where
        by : StillOwed far p q → Told later q
        by (owing.keeps d others first other still) = owes (still due)
        by (owing.has_died gone) = absurd (both_ways (is_dead f.tcp.state) living_q gone)
        by (owing.is_sent d others first on side x sends own) = answer_goes due d others first on side x sends own
        by (owing.is_done is) = absurd (both_ways e.tcp.due.ack
            ((of_path start one.mild turns p HasAnswered here_p ((copies_are_answered values start turns).each 2 here_p.crew here_p.there)) is far (open_turn.before.is_open.living far)).ack due)
        by (owing.rests same) = owes (subst (λ (y : PathState Carried). (end_at far y).tcp.due.ack ≡ true) (sym same) due)

    updates_next : (others : List Duty) → p.agenda ≡ duties.Send (send_duties.Update far) ∷ others → Told later q
    updates_next others is =
        let d : Duty = duties.Send (send_duties.Update far) in
        let sends : first_sends p.agenda p ≡ first_sends (d ∷ others) p = ap (λ ds. first_sends ds p) is in
        let goes : SendsWindow turns p = sends_if turns p here_p open_turn.before.is_open (first_sends (d ∷ others) p) sends refl refl in
        ⊎_elim
        (λ same. updates others (subst (λ (y : PathState Carried). y.agenda ≡ d ∷ others) (sym same) is))
        (λ rest. ⊎_elim (λ harmed. absurd (both_ways (is_harmed far p q) none harmed)) (λ assured. window_goes d others is refl goes (assured_on (offer e - 32) assured)) rest)
        (subst (λ (o : Option ToSend). IfSome o (λ x. x.from ≡ far → IsBareFrom far p (segment_sent p x) → (edge : ℕ) → OffersUpTo (six turns) far (edge + 31) p
        → (q ≡ p) ⊎ ((is_harmed far p q ≡ true) ⊎ IsAssured (six later) s edge (p.clock + 400) q))) sends
        ((windows_are_assured start plan turns turn one h s (open_turn.before.is_open.clear far)).sent (each_window_has_room start plan turns one p here_p h.before.is_open s))
        refl (record { position = refl; rst = refl; syn = refl; fin = refl; payload = refl }) (offer e - 32) (offers_less turns p here_p open_turn.before.is_open goes))

    -- ---- the book is asked

    module _ (g : ℕ) (x : Tells g turns p) (same : f.tcp.recv.edge ≡ e.tcp.recv.edge) (told_same : told f ≡ told e) where
      -- the path stays as it is
      rests : q ≡ p → Told later q
      rests is = tells_on g (goes_on g x.assured) x.is_read same (let low = x.told_low in omega (arith, low, told_same)) (let low = x.offer_low in let stays = ap (λ (y : PathState Carried). offer (end_at far y)) is in omega (arith, low, stays))

      module _ (now : AsksNow (six later) far p q) where
        knows_edge : (book later).read + start.buffer ≤ offer f
        knows_edge = (let edge = now.knows in let full = size later in omega (arith, edge, full))

        -- the window hasn't grown enough
        quiet : 2 * (tellable_edge f - told f) < min q.profile.buffer (4 * q.profile.mss) → IsRead later (g + 33) q → Told later q
        quiet few (known low high) = tells g (record {
          assured = goes_on g x.assured;
          told_low = (let below = x.told_low in omega (arith, below, told_same));
          offer_low = (let offered = (taken later q here_q open_turn.after.is_open).offered in let full = size later in omega (arith, offered, full, low));
          is_read = known low high;
        })
        quiet few (all_read low) = enough g (goes_on g x.assured)
            (let edge = knows_edge in let up = tellable_low f in let below = x.told_low in let buffer = ap (λ (c : Profile). c.buffer) (profile later q here_q) in let segment = one.size in let room = one.buffer in
            omega (arith, low, edge, up, below, told_same, few, buffer, segment, room))
        quiet few (far_read low) = absurd
            (let edge = knows_edge in let up = tellable_low f in let below = x.told_low in let mss = ap (λ (c : Profile). c.mss) (profile later q here_q) in let segment = one.size in
            omega (arith, low, edge, up, below, told_same, few, mss, segment))

        asked : Told later q
        asked = read_on (g + 33) same x.is_read (λ read. by read (updates_so now.others now.first (connected_past e.tcp.state (open_turn.before.is_open.past far) (open_turn.before.is_open.living far))))
          where
            by : IsRead later (g + 33) q → (q ≡ p) ⊎ ((q.agenda ≡ duties.Send (send_duties.Update far) ∷ now.others) ⊎ (has_grown q.profile f ≡ false)) → Told later q
            by read (inl is) = rests is
            by read (inr (inl next)) = updates now.others next
            by read (inr (inr few)) = quiet (not_grown q.profile f few) read

      begins : (others : List Duty) → p.agenda ≡ duties.Ask (ask_duties.Window far) ∷ others → Told later q
      begins others is = ⊎_elim
          (λ has. absurd (none_is_its_peer far (subst (HasBegun far) is has).0))
          (λ soon. ⊎_elim (λ stays. rests stays) (λ now. asked now) (turns_begin.first others is soon))
          (each_is_at_turn start turns p here_p far)

    tells_next : (g : ℕ) → Tells g turns p → Told later q
    tells_next g x = rises (λ same. by same told_so)
      where
        by : f.tcp.recv.edge ≡ e.tcp.recv.edge → ToldOn far p q → Told later q
        by same (told_on.keeps next window edge) = tells_on g (goes_on g x.assured) x.is_read same
            (let low = told_low e f edge in let below = x.told_low in let knows = x.offer_low in omega (arith, low, below, knows)) (let knows = x.offer_low in omega (arith, next, window, knows))
        by same (told_on.begins others is told_same) = begins g x same told_same others is
        by same (told_on.asks others is told_same) = owes_next (who_asks_owes start turns one.mild p here_p far (open_turn.before.is_open.living far) others is)
        by same (told_on.dies dead) = absurd (both_ways (is_dead f.tcp.state) living_q dead)
        by same (told_on.breaks is) = absurd (⊎_elim (never_reset start one.mild turns p here_p far) (never_reset start one.mild later q here_q far) is)

    goes_next : Told turns p → Told later q
    goes_next (owes due) = owes_next due
    goes_next (updates others is) = updates_next others is
    goes_next (tells g x) = tells_next g x
    goes_next (enough g is low) = rises (λ same. enough g (goes_on g is) (omega (arith, low, same)))
    goes_next (all_came all) = all_on all

  -- ---- since it was owed

  told_since : (turns : List Turn) → OwedSince start s turns → (y : PathState Carried) → IsPathAt 0 (at turns) y → Told turns y
  told_since turns (owed.now _ now due) y here = owes (subst (λ (z : PathState Carried). (end_at far z).tcp.due.ack ≡ true) (path_is (at turns) now.path y now.here here) due)
  told_since turns (owed.later _ before turn is o open_turn none) y here =
      subst (λ ts. IsPathAt 0 (at ts) y → Told ts y) (sym is)
      (λ there. subst (Told (before ++ turn ∷ [])) (path_is (at (before ++ turn ∷ [])) open_turn.after.path y open_turn.after.here there)
      (goes_next before turn open_turn (none far) (told_since before o open_turn.before.path open_turn.before.here))) here

  module _ (v w : List Turn) (round : IsRound start v w) (p : PathState Carried) (here : IsPathAt 0 (at w) p) where
    abbrev Goal : Type 0
    Goal = IsAllThere s (at w) ⊎ IsAssured (six w) s (read_after start s v + (plan.mss - 28)) (p.clock + 400) p

    is_open : IsOpen p
    is_open =
        let now : IsOpenAfter start w = subst (IsOpenAfter start) (sym round.is) (open_last start v _ round.stays_open) in
        subst IsOpen (path_is (at w) now.path p now.here here) now.is_open

    over : p.agenda ≡ []
    over = silent start w p round.over here

    less : (g : ℕ) → read_after start s v + (plan.mss - 28) ≤ g → Assured g w p → Goal
    less g low is = inr (assured_before (six w) s (read_after start s v + (plan.mss - 28)) g (p.clock + 400) p low is)

    told_at : Told w p → Goal
    told_at (owes due) = absurd (both_ways (end_at far p).tcp.due.ack
        ((of_path start one.mild w p HasAnswered here ((copies_are_answered values start w).each 2 here.crew here.there)) (IsDone.over over) far (is_open.living far)).ack due)
    told_at (updates others is) = absurd (let none : [] ≡ duties.Send (send_duties.Update far) ∷ others = sym over ∙ is in cc)
    told_at (tells g x) = less g (let asks = each_round_asks start plan s v w one round p here in let low = x.offer_low in let segment = one.size in let room = one.buffer in omega (arith, asks, low, segment, room)) x.assured
    told_at (enough g is low) = less g
        (let reads = each_round_reads start v w one.mild round s in let came = (counts start plan one w p here s).came in let past : (book w).read ≤ received (book w) = omega arith in
        let before : read_after start s v ≤ received (arrived_at far (at v)) = omega arith in omega (arith, reads, came, past, before, low)) is
    told_at (all_came all) = inl all

pub what_is_owed_is_told : WhatIsOwedIsTold (λ start plan. Unit {0})
what_is_owed_is_told start plan s v w one also round o p here = told_at start plan one s v w round p here (told_since start plan one s w o p here)
