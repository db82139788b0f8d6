-- Until B's end may send a DSS each record of A's that was sent is under way, or was harmed, or a copy of it came to B's end.
use Rattle.std.proofs.Common.{◌≡◌, refl, sym, subst, ap, ◌∙◌, ◌⊎◌, inl, inr, ⊎_elim, ℕ, zero, suc, ◌+◌, ◌<◌, ◌≤◌, arith, nat_lt, Bool, true, false, true≢false, ◌&&◌, if◌then◌else◌, Option, Some, None, List, [], ◌∷◌, ◌++◌, length}
use Rattle.std.specs.List.{slice_get}
use Rattle.std.specs.Option.{option_map_or}
use Rattle.std.specs.Prelude.{min, option_map}
use Rattle.std.proofs.lemmas.Bool.{both_ways, cases_lt, lt-ltb, ltb-true}
use Rattle.std.proofs.lemmas.List.{append-nil, append_assoc}
use Rattle.link_model.specs.Steps.{arriving}
use Rattle.link_model.specs.declared.flight.Flight.{Flight}
use Rattle.link_script.specs.Places.{same_side}
use Rattle.path_segments.specs.Spelled.{PlainSegment}
use Rattle.sides.specs.declared.side.Side.TheVariants.{A, B}
use Rattle.stream_lanes.specs.Words.{Has}
use Rattle.subflow_send.specs.Records.{Record}
use Rattle.subflow_send.specs.declared.record.RecordKind.TheVariants as kinds
use Rattle.subflow_tcp.specs.States.{is_dead}
use Rattle.path_agenda.specs.declared.duty.AskDuty.TheVariants as ask_duties
use Rattle.path_agenda.specs.declared.duty.Duty.{Duty}
use Rattle.path_agenda.specs.declared.duty.Duty.TheVariants as duties
use Rattle.path_agenda.specs.declared.duty.StepDuty.TheVariants as step_duties
use Rattle.path_core.specs.Arrival.{heard_in}
use Rattle.path_core.specs.Events.{next_event}
use Rattle.path_core.specs.Looking.{first_sends, segment_sent}
use Rattle.path_core.specs.Start.{waiting_path}
use Rattle.path_core.specs.State.{PathState, end_at}
use Rattle.path_core.specs.Steps.{begins_turn}
use Rattle.path_core.specs.Values.{Carried, values}
use Rattle.path_core.specs.declared.events.Event.{Event}
use Rattle.path_core.specs.declared.events.Event.TheVariants as happenings
use Rattle.world_laws.specs.Actors.{ActorCrew}
use Rattle.world_laws.specs.Members.{HoldsOfKind, of_kind}
use Rattle.world_laws.specs.Openings.{PathPlan, Start, opened_world, path_begins}
use Rattle.world_laws.specs.RoundDone.{reached}
use Rattle.world_laws.specs.Worlds.{Turn, WorldState, after_turn, world_run}
use Rattle.world_laws.specs.declared.member.Member.TheVariants.{Path}
use Rattle.world_laws.proofs.Weaving.WholeRounds.{run_append}
use Rattle.whole_paths.specs.AgendaSteps.{event_side}
use Rattle.whole_paths.specs.Arrivals.{Arrival}
use Rattle.whole_paths.specs.AsFar.{stage}
use Rattle.whole_paths.specs.Copies.{GoesOnItsWay}
use Rattle.whole_paths.specs.Copies.{GoesOnItsWay as copy}
use Rattle.whole_paths.specs.Courses.{harmed_so_far}
use Rattle.whole_paths.specs.EarlyCopies.{LosesFew, OpensLosingFew, brings_octets, came_early, came_from, comes_early, counted_by, early_at, expiries_at, has_octets, may_send_at, octets_next}
use Rattle.whole_paths.specs.Expiries.{IsSaidAt, IsSegmentOf}
use Rattle.whole_paths.specs.ExpiriesInARow.{RowGoesOn, RowsGoOn, in_a_row}
use Rattle.whole_paths.specs.ExpiriesInARow.{RowGoesOn as row}
use Rattle.whole_paths.specs.Finish.{IsPathAt, harms_between, harms_of, is_harmed}
use Rattle.whole_paths.specs.Mending.{ComesBy, IsRecordOf, IsWell, WasSent}
use Rattle.whole_paths.specs.Mending.{IsThereBy as by_then}
use Rattle.whole_paths.specs.Mending.{IsWell as well}
use Rattle.whole_paths.specs.Mild.{HasKeys, IsMildStart, LinkIsMild, treats_answer}
use Rattle.whole_paths.specs.News.{one_if}
use Rattle.whole_paths.specs.OnePathScripts.{BeginsWithOnePath, NeverFalls}
use Rattle.whole_paths.specs.OpenCourses.{IsNow}
use Rattle.whole_paths.specs.OpenFirst.{OpensByClearing}
use Rattle.whole_paths.specs.OpeningWaits.{IsAlive}
use Rattle.whole_paths.specs.RecordsGo.{GoesNext, IsOneSo, PathsGoAlone, RecordsGoAlone}
use Rattle.whole_paths.specs.SentAgain.{OthersAreUnsent, PathsSendAllAgain, SendsAllAgain}
use Rattle.whole_paths.specs.Straying.{IsOpenFrom}
use Rattle.whole_paths.specs.Unmended.{AreWellBut}
use Rattle.whole_paths.proofs.AckedData.{opened_here}
use Rattle.whole_paths.proofs.Arrivals.{each_copy_arrives}
use Rattle.whole_paths.proofs.ByTurns.{Becomes, path_before, then_path}
use Rattle.whole_paths.proofs.Counted.{harmed_snoc}
use Rattle.whole_paths.proofs.DataLeft.{EndsAreBegun, each_is_begun}
use Rattle.whole_paths.proofs.DataPast.{opened_without, past_before}
use Rattle.whole_paths.proofs.EdgesStay.{alive_before}
use Rattle.whole_paths.proofs.Exchanges.{Shown, each_shown}
use Rattle.whole_paths.proofs.ExpiriesInARow.{expiries_alone_count}
use Rattle.whole_paths.proofs.GoingOn.{path_at}
use Rattle.whole_paths.proofs.Keyed.{keys_are_known}
use Rattle.whole_paths.proofs.Losing.{comes_so, data_filled, few_lost, living_low, lost_here, lost_then, still_lost}
use Rattle.whole_paths.proofs.Mild.{links_are_mild}
use Rattle.whole_paths.proofs.OpenClears.{becomes_far, becomes_fewer, paths_open_by_clearing}
use Rattle.whole_paths.proofs.OpenCourses.{IsFirstPath, each_first}
use Rattle.whole_paths.proofs.OpeningEnds.{LaterPath, later_path}
use Rattle.whole_paths.proofs.RecordsGo.{each_record_goes_alone}
use Rattle.whole_paths.proofs.RecordsWell.{by_turn, clock, copies, copy_stays, goes_so, holds_p, is_data_or, known, numbered}
use Rattle.whole_paths.proofs.RecordWaits.{last, path_is}
use Rattle.whole_paths.proofs.SentAgain.{each_expiry_sends_all_again}

-- ---- the count

came_up : (n : ℕ) (ts us : List Turn) (w : WorldState Carried) → came_from n ts w ≤ came_from n (ts ++ us) w
came_up n [] [] w = omega arith
came_up n [] (u ∷ us) w = elim (may_send_at (slice_get w.crew 2)) as (λ m. (if m then n else 0) ≤ (if m then n else came_from (counted_by n w (after_turn values u w)) us (after_turn values u w)))
    [ true ↦ omega arith | false ↦ omega arith ]
came_up n (t ∷ ts) us w =
    let next : ℕ = counted_by n w (after_turn values t w) in let rest = came_up next ts us (after_turn values t w) in
    elim (may_send_at (slice_get w.crew 2)) as (λ m. (if m then n else came_from next ts (after_turn values t w)) ≤ (if m then n else came_from next (ts ++ us) (after_turn values t w)))
    [ true ↦ omega arith | false ↦ rest ]

pub came_never_falls : NeverFalls came_early
came_never_falls start turns more = came_up 0 turns more (opened_world start)

-- whether B's end may send a DSS or not
abbrev so_far : ℕ → List Turn → WorldState Carried → ℕ
so_far n [] w = n
so_far n (turn ∷ turns) w = so_far (counted_by n w (after_turn values turn w)) turns (after_turn values turn w)

so_far_next : (n : ℕ) (ts : List Turn) (t : Turn) (w : WorldState Carried)
    → let v : WorldState Carried = world_run values ts w in so_far n (ts ++ t ∷ []) w ≡ counted_by (so_far n ts w) v (after_turn values t v)
so_far_next n [] t w = refl
so_far_next n (first ∷ ts) t w = so_far_next (counted_by n w (after_turn values first w)) ts t (after_turn values first w)

-- by the turn by which it may first
came_first : (n : ℕ) (bs : List Turn) (t : Turn) (w : WorldState Carried) → ((cs ds : List Turn) → cs ++ ds ≡ bs → may_send_at (slice_get (world_run values cs w).crew 2) ≡ false)
    → may_send_at (slice_get (world_run values (bs ++ t ∷ []) w).crew 2) ≡ true → came_from n (bs ++ t ∷ []) w ≡ so_far n (bs ++ t ∷ []) w
came_first n [] t w none last_is = ap (λ m. if m then n else came_from (counted_by n w (after_turn values t w)) [] (after_turn values t w)) (none [] [] refl)
    ∙ ap (λ m. if m then counted_by n w (after_turn values t w) else 0) last_is
came_first n (b ∷ bs) t w none last_is = ap (λ m. if m then n else came_from (counted_by n w (after_turn values b w)) (bs ++ t ∷ []) (after_turn values b w)) (none [] (b ∷ bs) refl)
    ∙ came_first (counted_by n w (after_turn values b w)) bs t (after_turn values b w) (λ cs ds is. none (b ∷ cs) ds (ap (λ xs. b ∷ xs) is)) last_is

-- ---- the copy that comes next

abbrev position_at : Option Event → PathState Carried → Option ℕ
position_at (Some (happenings.Arrives due)) p = option_map (λ (f : Flight Carried). f.carried.segment.position) (arriving due p.link)
position_at _ p = None

abbrev position_next : List Duty → PathState Carried → Option ℕ
position_next (duties.Step step_duties.Events ∷ others) p = position_at (next_event p) p
position_next _ p = None

-- the next copy comes to B's end early, with octets, and stands at this position
record ComesAt (position : ℕ) (p : PathState Carried) : Type 0 where
  early : comes_early p ≡ true
  here : position_next p.agenda p ≡ Some position

module _ (p : PathState Carried) (x : PlainSegment) (some : 0 < length x.payload) (a : Arrival x p) (to : a.due.to ≡ B) where
  octets_come : octets_next p.agenda p ≡ true
  octets_come = ap (λ ds. octets_next ds p) a.first ∙ ap (λ o. brings_octets o p) a.next
      ∙ ap (λ s. same_side s B && has_octets (heard_in values a.due.to (arriving a.due p.link) p)) to
      ∙ ap (λ o. has_octets (heard_in values a.due.to o p)) a.there
      ∙ lt-ltb 0 (length a.flight.carried.segment.payload + one_if a.flight.carried.segment.fin) full
    where
      full : 0 < length a.flight.carried.segment.payload + one_if a.flight.carried.segment.fin
      full = let same : length a.flight.carried.segment.payload ≡ length x.payload = ap (λ (c : Carried). length c.segment.payload) a.carried in omega (arith, same, some)

  comes_at : ComesAt x.position p
  comes_at = record {
    early = octets_come;
    here = ap (λ ds. position_next ds p) a.first ∙ ap (λ o. position_at o p) a.next
        ∙ ap (λ o. option_map (λ (f : Flight Carried). f.carried.segment.position) o) a.there ∙ ap (λ (c : Carried). Some c.segment.position) a.carried;
  }

-- ---- what was sent is under way

abbrev AreOnTheWayBut : List ℕ → PathState Carried → Type 0
AreOnTheWayBut lost p = (r : Record) → IsRecordOf p.a r → r.kind ≡ kinds.Data → r.sending.unsent ≡ false → ComesBy A r (p.clock + 400) p ⊎ Has (λ n. n ≡ r.pos) lost

well_so : (lost : List ℕ) (p : PathState Carried) → AreOnTheWayBut lost p → AreWellBut A lost p
well_so lost p h r has = is_data_or r (λ kind. by r.sending.unsent refl kind) (λ apart. inl (well.other apart))
  where
    by : (m : Bool) → r.sending.unsent ≡ m → r.kind ≡ kinds.Data → IsWell A p r ⊎ Has (λ n. n ≡ r.pos) lost
    by true is kind = inl (well.unsent is)
    by false is kind = ⊎_elim (λ comes. inl (well.sent (by_then.comes comes))) (λ among. inr among) (h r has kind is)

-- where the SYN/ACK is treated, or the key that it shows, nothing is sent
treats_none : (ds : List Duty) (p : PathState Carried) (r : Record) → treats_answer ds ≡ true → IsOneSo (first_sends ds p) (λ t. let x = segment_sent p t in (t.from ≡ A) × IsSegmentOf r x × IsSaidAt p.profile A r (end_at A p) x) → ⊥
treats_none (duties.Ask (ask_duties.SynAnswered s) ∷ ds) p r is goes = goes
treats_none (duties.Ask (ask_duties.PeerKey s) ∷ ds) p r is goes = goes
treats_none _ p r is goes = true≢false (sym is)

-- with so many that came
record IsLosing (start : Start) (turns : List Turn) (n : ℕ) (p : PathState Carried) : Type 0 where
  lost : List ℕ
  on_way : AreOnTheWayBut lost p
  few : length lost ≤ n + harmed_so_far values start turns

-- ---- a turn

module _ (start : Start) (plan : PathPlan) (one : BeginsWithOnePath start plan) (turns : List Turn) (turn : Turn) (b : IsNow IsAlive (reached values start turns)) (a : IsNow IsAlive (after_turn values turn (reached values start turns))) where
  abbrev mild : IsMildStart start
  mild = one.mild

  abbrev p : PathState Carried
  p = b.path

  abbrev q : PathState Carried
  q = a.path

  here_q : IsPathAt 0 (reached values start (turns ++ turn ∷ [])) q
  here_q = subst (λ w. IsPathAt 0 w q) (sym (last start mild turns turn)) a.here

  becomes : Becomes values p q
  becomes = let moved = then_path values start turns turn p b.here in
      subst (λ z. Becomes values b.path z) (path_is (reached values start (turns ++ turn ∷ [])) moved.path q moved.here here_q) moved.becomes

  of_p : (P : PathState Carried → Type 0) → ((actor : ℕ) (c : ActorCrew Carried) → slice_get (reached values start turns).crew actor ≡ Some c → HoldsOfKind (λ app. Unit {0}) P c.member) → P p
  of_p P each = holds_p start mild turns turn b a P each

  first : IsFirstPath start p
  first = subst (HoldsOfKind (λ app. Unit {0}) (IsFirstPath start)) b.here.is (each_first start turns mild.plain.size b.here.crew b.here.there)

  alone : RecordsGoAlone p q
  alone = by_turn start mild turns turn b a PathsGoAlone (each_record_goes_alone values (reached values start turns) turn 2 b.here.crew b.here.there)

  up : p.clock ≤ q.clock
  up = clock start mild turns turn b a

  -- a copy of a record stays under way, or it comes
  comes_on : (r : Record) → IsRecordOf (end_at A p) r → r.kind ≡ kinds.Data → ComesBy A r (p.clock + 400) p → ComesBy A r (p.clock + 400) q ⊎ ComesAt r.pos p
  comes_on r has kind h = by (copies start mild turns turn b a h.copy h.there)
    where
      arrived : (x : Arrival h.of_it.segment p) → x.due.to ≡ B → ComesAt r.pos p
      arrived x to = subst (λ n. ComesAt n p) h.of_it.of_it.position (comes_at p h.of_it.segment
          (let full = data_filled A p (of_p Shown (each_shown start turns mild.plain.size mild.fit)) r has kind in
          let long : length h.of_it.segment.payload ≡ length r.piece = ap (λ (os : List ℕ). length os) h.of_it.of_it.payload in omega (arith, full, long)) x to)

      by : GoesOnItsWay h.copy p q → ComesBy A r (p.clock + 400) q ⊎ ComesAt r.pos p
      by (copy.on on) = inl (copy_stays start mild turns turn b a A r h.copy h.of_it h.whole (p.clock + 400) h.soon on)
      by (copy.arrives others first_is next) =
          let x : Arrival h.of_it.segment p = each_copy_arrives A r p h.copy h.of_it h.whole.unstripped h.whole.unaltered h.there (numbered start mild turns turn b a h.copy h.there)
          (known start mild turns turn b a).alike others first_is next in inr (arrived x (sym (ap event_side x.next) ∙ ap event_side next ∙ h.of_it.to))
      by (copy.dies line next is dead) = absurd (both_ways (is_dead q.a.tcp.state) (a.is_open.living A) dead)

  -- once A's end is past the handshake
  module _ (past : 3 ≤ stage p.a.tcp.state) where
    some : 0 < p.a.tcp.send.una
    some = let begun = of_p EndsAreBegun (each_is_begun values start turns).each in let least = (begun A).past past (living_low p.a.tcp.state (b.is_open.living A)) in omega (arith, least)

    sent_so : (t : Record) → IsRecordOf (end_at A q) t → t.kind ≡ kinds.Data → t.sending.unsent ≡ false → WasSent (end_at A p) t ⊎ ((is_harmed A p q ≡ true) ⊎ ComesBy A t (p.clock + 400) q)
    sent_so t has kind sent = ⊎_elim
        (λ keyed. goes_so start mild turns turn b a A past (b.is_open.living A) keyed t has kind sent)
        (λ treats. ⊎_elim (λ was. inl was) (λ goes. absurd (treats_none p.agenda p t treats goes)) (alone A some t has kind sent))
        (((of_p HasKeys (keys_are_known start turns mild).each) first.first).a (omega (arith, past)) (b.is_open.living A))

    -- the record's position stands there whose copy comes early, or whose segment is harmed
    abbrev with_came : List ℕ → List ℕ
    with_came lost = lost_then (λ n. n) (comes_early p) (position_next p.agenda p) lost

    abbrev with_both : Bool → List ℕ → List ℕ
    with_both m lost = lost_then (λ x. (segment_sent p x).position) m (first_sends p.agenda p) (with_came lost)

    is_came : (r : Record) (lost : List ℕ) → ComesAt r.pos p → Has (λ n. n ≡ r.pos) (with_came lost)
    is_came r lost h = subst (λ m. Has (λ n. n ≡ r.pos) (lost_then (λ n. n) m (position_next p.agenda p) lost)) (sym h.early)
        (lost_here (λ n. n) (position_next p.agenda p) lost r.pos (λ n. n ≡ r.pos) (λ n is. is) (subst (λ o. IsOneSo o (λ n. n ≡ r.pos)) (sym h.here) refl))

    module _ (lost : List ℕ) (h : AreOnTheWayBut lost p) where
      abbrev after : List ℕ
      after = with_both (is_harmed A p q) lost

      abbrev Goal : Record → Type 0
      Goal t = ComesBy A t (q.clock + 400) q ⊎ Has (λ n. n ≡ t.pos) after

      still : (n : ℕ) → Has (λ m. m ≡ n) (with_came lost) → Has (λ m. m ≡ n) after
      still n among = still_lost (λ x. (segment_sent p x).position) (is_harmed A p q) (first_sends p.agenda p) (with_came lost) n among

      old : (t : Record) → t.kind ≡ kinds.Data → WasSent (end_at A p) t → Goal t
      old t kind was = ⊎_elim
          (λ comes. ⊎_elim
          (λ on. inl (comes_so A was.record_before t was.same q (p.clock + 400) (q.clock + 400) (let more = up in omega (arith, more)) on))
          (λ came. inr (subst (λ n. Has (λ m. m ≡ n) after) (sym was.same.pos) (still was.record_before.pos (is_came was.record_before lost came))))
          (comes_on was.record_before was.there (sym was.same.kind ∙ kind) comes))
          (λ among. inr (subst (λ n. Has (λ m. m ≡ n) after) (sym was.same.pos) (still was.record_before.pos (still_lost (λ n. n) (comes_early p) (position_next p.agenda p) lost was.record_before.pos among))))
          (h was.record_before was.there (sym was.same.kind ∙ kind) was.sent)

      new : (t : Record) → IsRecordOf (end_at A q) t → t.kind ≡ kinds.Data → t.sending.unsent ≡ false → GoesNext A t p → Goal t
      new t has kind sent goes = ⊎_elim
          (λ was. old t kind was)
          (λ now. ⊎_elim
          (λ harmed. inr (subst (λ m. Has (λ n. n ≡ t.pos) (with_both m lost)) (sym harmed)
          (lost_here (λ x. (segment_sent p x).position) (first_sends p.agenda p) (with_came lost) t.pos _ (λ x is. is.1.position) goes)))
          (λ on. inl (comes_so A t t (record { pos = refl; kind = refl; piece = refl; mapping = refl }) q (p.clock + 400) (q.clock + 400) (let more = up in omega (arith, more)) on))
          now)
          (sent_so t has kind sent)

      on_way_later : AreOnTheWayBut after q
      on_way_later t has kind sent = ⊎_elim (λ was. old t kind was) (λ goes. new t has kind sent goes) (alone A some t has kind sent)

      few_later : length after ≤ length lost + one_if (comes_early p) + one_if (is_harmed A p q)
      few_later =
          let came = few_lost (λ n. n) (comes_early p) (position_next p.agenda p) lost in
          let harmed = few_lost (λ x. (segment_sent p x).position) (is_harmed A p q) (first_sends p.agenda p) (with_came lost) in omega (arith, came, harmed)

  harms_are : harmed_so_far values start (turns ++ turn ∷ []) ≡ harmed_so_far values start turns + (one_if (is_harmed A p q) + one_if (is_harmed B p q))
  harms_are = let is = harmed_snoc turns turn (opened_world start) in omega (arith, is, between)
    where
      between : harms_of (slice_get (reached values start turns).crew 2) (slice_get (after_turn values turn (reached values start turns)).crew 2) ≡ one_if (is_harmed A p q) + one_if (is_harmed B p q)
      between = ap (λ o. harms_of o (slice_get (after_turn values turn (reached values start turns)).crew 2)) b.here.there ∙ ap (λ o. harms_of (Some b.here.crew) o) a.here.there
          ∙ ap (λ m. harms_between m a.here.crew.member) b.here.is ∙ ap (λ m. harms_between (Path p) m) a.here.is

  -- where A's timer runs out all but the first record are to be sent again
  abbrev first_position : List Record → List ℕ
  first_position [] = []
  first_position (r ∷ rs) = r.pos ∷ []

  abbrev rises : Bool
  rises = nat_lt (in_a_row p.a) (in_a_row q.a)

  unsent_then : rises ≡ true → OthersAreUnsent q.a
  unsent_then more = by (by_turn start mild turns turn b a RowsGoOn (expiries_alone_count values (reached values start turns) turn 2 b.here.crew b.here.there) A)
    where
      up_by : in_a_row p.a < in_a_row q.a
      up_by = ltb-true (in_a_row p.a) (in_a_row q.a) more

      all : SendsAllAgain p q
      all = by_turn start mild turns turn b a PathsSendAllAgain (each_expiry_sends_all_again values (reached values start turns) turn 2 b.here.crew b.here.there)

      by : RowGoesOn A p q → OthersAreUnsent q.a
      by (row.no_more low) = absurd (omega (arith, low, up_by))
      by (row.one_more tick out low is) = ⊎_elim (λ same. absurd (let as_many = ap (λ (z : PathState Carried). in_a_row z.a) same in omega (arith, as_many, up_by))) (λ unsent. unsent) (all.fires A tick out low)

  all_but_first : rises ≡ true → AreOnTheWayBut (first_position q.a.tcp.send.records) q
  all_but_first more t has kind sent = by has.at (subst (λ y. slice_get q.a.tcp.send.records has.at ≡ Some y) has.holds has.there)
    where
      at_first : (rs : List Record) → slice_get rs 0 ≡ Some t → Has (λ n. n ≡ t.pos) (first_position rs)
      at_first [] is = cc
      at_first (r ∷ rs) is = record { at = 0; item = r.pos; there = refl; holds = ap (λ (o : Option Record). option_map_or (λ (x : Record). x.pos) o 0) is }

      by : (i : ℕ) → slice_get q.a.tcp.send.records i ≡ Some t → ComesBy A t (q.clock + 400) q ⊎ Has (λ n. n ≡ t.pos) (first_position q.a.tcp.send.records)
      by zero there = inr (at_first q.a.tcp.send.records there)
      by (suc i) there = absurd (both_ways t.sending.unsent sent ((unsent_then more).each i t there))

  one_at_most : (rs : List Record) → length (first_position rs) ≤ 1
  one_at_most [] = omega arith
  one_at_most (r ∷ rs) = omega arith

  -- how many count then
  abbrev counted : ℕ → ℕ
  counted n = if rises then min (n + one_if (comes_early p)) 1 else n + one_if (comes_early p)

  counted_is : (n : ℕ) → counted_by n (reached values start turns) (after_turn values turn (reached values start turns)) ≡ counted n
  counted_is n = rw (at_p, before, after) refl
    where
      at_p : early_at (slice_get (reached values start turns).crew 2) ≡ comes_early p
      at_p = ap (λ o. early_at o) b.here.there ∙ ap (λ m. of_kind (λ app. false) comes_early m) b.here.is

      before : expiries_at (slice_get (reached values start turns).crew 2) ≡ in_a_row p.a
      before = ap (λ o. expiries_at o) b.here.there ∙ ap (λ m. of_kind (λ app. 0) (λ (z : PathState Carried). in_a_row z.a) m) b.here.is

      after : expiries_at (slice_get (after_turn values turn (reached values start turns)).crew 2) ≡ in_a_row q.a
      after = ap (λ o. expiries_at o) a.here.there ∙ ap (λ m. of_kind (λ app. 0) (λ (z : PathState Carried). in_a_row z.a) m) a.here.is

  losing_on : (n : ℕ) → IsLosing start turns n p → IsLosing start (turns ++ turn ∷ []) (counted n) q
  losing_on n h = ⊎_elim (λ before. record { lost = []; on_way = none_sent before; few = omega arith }) losing_past (cases_lt (stage p.a.tcp.state) 3)
    where
      none_sent : stage p.a.tcp.state < 3 → AreOnTheWayBut [] q
      none_sent before r has kind sent = absurd (let past = past_before start mild turns turn p q b.here here_q becomes A r has kind in omega (arith, before, past))

      losing_past : 3 ≤ stage p.a.tcp.state → IsLosing start (turns ++ turn ∷ []) (counted n) q
      losing_past past = by rises refl
        where
          on : (m : ℕ) → n + one_if (comes_early p) ≤ m → IsLosing start (turns ++ turn ∷ []) m q
          on m low = record {
            lost = with_both past (is_harmed A p q) h.lost;
            on_way = on_way_later past h.lost h.on_way;
            few = (let few = h.few in let harms = harms_are in let long = few_later past h.lost h.on_way in omega (arith, few, harms, low, long));
          }

          by : (m : Bool) → rises ≡ m → IsLosing start (turns ++ turn ∷ []) (if m then min (n + one_if (comes_early p)) 1 else n + one_if (comes_early p)) q
          by false is = on (n + one_if (comes_early p)) (omega arith)
          by true is = ⊎_elim
              (λ none. on (min (n + one_if (comes_early p)) 1) (omega (arith, none)))
              (λ some. record {
                lost = first_position q.a.tcp.send.records;
                on_way = all_but_first is;
                few = (let low = one_at_most q.a.tcp.send.records in omega (arith, some, low));
              })
              (cases_lt (n + one_if (comes_early p)) 1)

-- ---- a connection

module _ (start : Start) (plan : PathPlan) (one : BeginsWithOnePath start plan) where
  now_before : (turns : List Turn) (turn : Turn) → IsNow IsAlive (reached values start (turns ++ turn ∷ [])) → IsNow IsAlive (reached values start turns)
  now_before turns turn now =
      let was = path_before values start turns turn now.here.crew now.path now.here.there now.here.is in
      let moved = then_path values start turns turn was.0 was.1 in
      let becomes = subst (λ z. Becomes values was.0 z) (path_is (reached values start (turns ++ turn ∷ [])) moved.path now.path moved.here now.here) moved.becomes in
      let link : LinkIsMild start.lines was.0 = subst (HoldsOfKind (λ app. Unit {0}) (LinkIsMild start.lines)) was.1.is ((links_are_mild values start turns one.mild).each 2 was.1.crew was.1.there) in
      let first : IsFirstPath start was.0 = subst (HoldsOfKind (λ app. Unit {0}) (IsFirstPath start)) was.1.is (each_first start turns one.mild.plain.size was.1.crew was.1.there) in
      record {
        path = was.0;
        here = was.1;
        is_open = alive_before was.0 now.path (becomes_far was.0 now.path becomes) now.is_open;
        faithful = record { joined = first.first; whole = link.strips; plain = link.alters };
        few = λ s. becomes_fewer was.0 now.path becomes s (now.few s);
      }

  abbrev Known : List Turn → Type 0
  Known turns = (now : IsNow IsAlive (reached values start turns)) → IsLosing start turns (so_far 0 turns (opened_world start)) now.path

  known_first : Known []
  known_first now = subst (IsLosing start [] 0) (path_is (reached values start []) (begins_turn (waiting_path (path_begins start 0 plan) start.lines)) now.path (opened_here start plan one) now.here)
      (record { lost = []; on_way = none_sent; few = omega arith })
    where
      none_sent : AreOnTheWayBut [] (begins_turn (waiting_path (path_begins start 0 plan) start.lines))
      none_sent r has kind sent = absurd (opened_without start 0 plan A r has kind)

  known_next : (turns : List Turn) (turn : Turn) → Known turns → Known (turns ++ turn ∷ [])
  known_next turns turn h now =
      let was = now_before turns turn now in
      subst (λ w. (a : IsNow IsAlive w) → IsLosing start (turns ++ turn ∷ []) (so_far 0 (turns ++ turn ∷ []) (opened_world start)) a.path) (sym (last start one.mild turns turn))
      (λ a. subst (λ n. IsLosing start (turns ++ turn ∷ []) n a.path) (sym (so_far_next 0 turns turn (opened_world start) ∙ counted_is start plan one turns turn was a (so_far 0 turns (opened_world start))))
      (losing_on start plan one turns turn was a (so_far 0 turns (opened_world start)) (h was))) now

  known_on : (done more : List Turn) → Known done → Known (done ++ more)
  known_on done [] h = subst Known (sym (append-nil done)) h
  known_on done (turn ∷ more) h = subst Known (append_assoc done (turn ∷ []) more) (known_on (done ++ turn ∷ []) more (known_next done turn h))

  -- until then B's end may send no DSS
  unclear_then : (before : List Turn) (p : PathState Carried) → IsPathAt 0 (reached values start before) p → p.b.modes.clear ≡ false → (cs ds : List Turn) → cs ++ ds ≡ before
      → may_send_at (slice_get (reached values start cs).crew 2) ≡ false
  unclear_then before p here unclear cs ds is = by found.2.b.modes.clear refl
    where
      found : (c : ActorCrew Carried) × (slice_get (reached values start cs).crew 2 ≡ Some c) × (q : PathState Carried) × (c.member ≡ Path q)
      found = let x = path_at start plan one.one cs in (x.0, x.1, x.2, x.3)

      by : (m : Bool) → found.2.b.modes.clear ≡ m → may_send_at (slice_get (reached values start cs).crew 2) ≡ false
      by false is_false = ap (λ o. may_send_at o) found.1 ∙ ap (λ m. of_kind (λ app. false) (λ (z : PathState Carried). z.b.modes.clear) m) found.3 ∙ is_false
      by true is_true =
          let later : LaterPath (reached values start cs) (world_run values ds (reached values start cs)) found.2 = later_path (reached values start cs) ds found.2 (record { crew = found.0; there = found.1; is = found.3 }) in
          let then_is : world_run values ds (reached values start cs) ≡ reached values start before = sym (run_append values cs ds (opened_world start)) ∙ ap (reached values start) is in
          let same : later.path ≡ p = path_is (reached values start before) later.path p (subst (λ (w : WorldState Carried). IsPathAt 0 w later.path) then_is later.here) here in
          absurd (both_ways p.b.modes.clear unclear (subst (λ (z : PathState Carried). z.b.modes.clear ≡ true) same (later.far.b.clear is_true)))

  loses_then : (before : List Turn) (turn : Turn) (p : PathState Carried) → IsPathAt 0 (reached values start before) p → p.b.modes.clear ≡ false
      → (now : IsNow (IsOpenFrom B) (reached values start (before ++ turn ∷ []))) → LosesFew start (before ++ turn ∷ []) now.path
  loses_then before turn p here unclear now =
      let h = known_on [] (before ++ turn ∷ []) known_first (record { path = now.path; here = now.here; is_open = record { living = now.is_open.living }; faithful = now.faithful; few = now.few }) in
      let clear : may_send_at (slice_get (reached values start (before ++ turn ∷ [])).crew 2) ≡ true =
      ap (λ o. may_send_at o) now.here.there ∙ ap (λ m. of_kind (λ app. false) (λ (z : PathState Carried). z.b.modes.clear) m) now.here.is ∙ now.is_open.clear in
      let is = came_first 0 before turn (opened_world start) (unclear_then before p here unclear) clear in
      record { lost = h.lost; well = well_so h.lost now.path h.on_way; few = (let few = h.few in omega (arith, few, is)) }

pub opens_losing_few : OpensLosingFew
opens_losing_few start plan turns one h = by (paths_open_by_clearing start plan turns one h)
  where
    by : OpensByClearing start turns → LosesFew start turns h.now.path
    by c = subst (λ ts. (now : IsNow (IsOpenFrom B) (reached values start ts)) → LosesFew start ts now.path) (sym c.is) (λ now. loses_then start plan one c.before c.turn c.path c.here c.unclear now) h.now
