-- The exchange of a record goes on by each turn, stage by stage, or something comes between.
use Rattle.std.proofs.Common.{◌≡◌, refl, sym, subst, ap, ◌∙◌, ◌⊎◌, inl, inr, ⊎_elim, ℕ, zero, suc, ◌+◌, ◌-◌, ◌^◌, ◌<◌, ◌≤◌, arith, max, nat_le, nat_lt, ◌&&◌, ◌||◌, ◌==◌, Bool, true, false, true≢false, if◌then◌else◌, Option, Some, None, IfSome, List, [], ◌∷◌, length, le_refl}
use Rattle.std.specs.Prelude.{IsSome, option_map}
use Rattle.std.specs.List.{AllByRecursion, slice_get}
use Rattle.std.proofs.lemmas.Bool.{and_from, cases_lt, eq-eqb, le-leb, lt-leb, lt-ltb}
use Rattle.std.proofs.lemmas.Option.{same_Some}
use Rattle.path_segments.specs.Heard.{HeardSegment}
use Rattle.path_segments.specs.Laws.{meant}
use Rattle.path_segments.specs.Spelled.{PlainSegment}
use Rattle.path_segments.specs.declared.position.HeardPosition.TheVariants.{At}
use Rattle.path_segments.specs.declared.spelling.Spelling.{Spelling}
use Rattle.sides.specs.declared.side.Side.{Side}
use Rattle.sides.specs.declared.side.Side.TheVariants.{A, B}
use Rattle.sides.specs.Side.{peer}
use Rattle.link_model.specs.declared.flight.Flight.{Flight}
use Rattle.link_model.specs.Fate.{is_stripped, is_altered}
use Rattle.link_model.specs.Steps.{changed, due_of, next_number, segments_sent}
use Rattle.stream_lanes.specs.Duo.{Duo, after_events}
use Rattle.seq_units.specs.declared.mapping.Mapping.{Mapping}
use Rattle.stream_lanes.specs.Lane.{Lane}
use Rattle.stream_lanes.specs.Words.{Every}
use Rattle.subflow_recv.specs.Receiving.{Receiving}
use Rattle.subflow_send.specs.Records.{Record, end_of, occupied}
use Rattle.subflow_send.specs.declared.record.RecordKind.TheVariants.{Data}
use Rattle.subflow_tcp.specs.Judging.{ends_in_window, is_acceptable, is_at_right_edge, is_in_window}
use Rattle.subflow_tcp.specs.Segments.{occupied as occupied_by}
use Rattle.subflow_tcp.specs.State.{is_at_limit}
use Rattle.subflow_tcp.specs.States.{is_dead, is_opening}
use Rattle.subflow_tcp.specs.declared.handshake.State.{State as EndPhase}
use Rattle.subflow_tcp.specs.declared.handshake.State.TheVariants as phase
use Rattle.path_agenda.specs.declared.duty.Duty.{Duty}
use Rattle.path_agenda.specs.declared.duty.Duty.TheVariants as duties
use Rattle.path_agenda.specs.declared.duty.StepDuty.TheVariants as step_duties
use Rattle.path_store.specs.declared.infinite_mapping.InfiniteMapping.{InfiniteMapping}
use Rattle.path_core.specs.Arrival.{copy_of, heard_in, acknowledged_in as heard_position}
use Rattle.path_core.specs.DssOut.{is_first_piece, place_numbered}
use Rattle.path_core.specs.End.{PathEnd}
use Rattle.path_core.specs.Events.{next_event}
use Rattle.path_core.specs.Judged.{judged_of}
use Rattle.path_core.specs.Looking.{segment_sent}
use Rattle.path_core.specs.OptionsIn.{items_of, options_heard}
use Rattle.path_core.specs.Profile.{Profile}
use Rattle.path_core.specs.State.{PathState, end_at}
use Rattle.path_core.specs.Values.{Carried, as_arrived, carried_by, values, stripped, altered}
use Rattle.path_core.specs.declared.events.Event.TheVariants as happenings
use Rattle.world_laws.specs.declared.member.Member.TheVariants.{App, Path}
use Rattle.world_laws.specs.Actors.{Actor, ActorCrew}
use Rattle.world_laws.specs.Members.{HoldsOfKind}
use Rattle.world_laws.specs.Openings.{Start, opened_world, path_begins}
use Rattle.world_laws.specs.Promises.{HasRoom, NumbersFit}
use Rattle.world_laws.specs.Worlds.{WorldState, Turn, after_turn, world_run}
use Rattle.world_laws.proofs.Lanes.Beginning.{each_run_shows}
use Rattle.world_laws.proofs.Lanes.OfAWorld.{Links, WorldShows, anyhow, anyhow_free, first_duo, free_run}
use Rattle.world_laws.proofs.Lanes.Showing.{IsAtEdge, IsPastFin, KindShows, PathShows, RecordShows}
use Rattle.world_laws.proofs.Numbers.EveryTurn.{WorldTells, always_tells}
use Rattle.world_laws.proofs.Numbers.PathSteps.{PathTells}
use Rattle.world_laws.proofs.Numbers.TellSmall.{EndTells, RecordKindTells, RecordTells}
use Rattle.world_laws.proofs.Worlds.CastLifting.{each_actor, path_actor}
use Rattle.world_laws.proofs.Worlds.Casts.{walking}
use Rattle.whole_paths.specs.AgendaSteps.{event_side}
use Rattle.whole_paths.specs.Arrivals.{Arrival, CameBefore, ComesAgain, ComesInOrder, HasItsMapping, IsMappedPiece, Takes}
use Rattle.whole_paths.specs.Answered.{AcksGoFirst, IsBareAck}
use Rattle.whole_paths.specs.Answered.{IsBareAck as bare}
use Rattle.whole_paths.specs.AsFar.{stage}
use Rattle.whole_paths.specs.Brought.{Comes}
use Rattle.whole_paths.specs.Came.{AcksWhatCame, HasCome}
use Rattle.whole_paths.specs.Copies.{IsUnderWay}
use Rattle.whole_paths.specs.Due.{CopiesArriveSo}
use Rattle.whole_paths.specs.Exchanges.{IsFaithful, LetsThrough, IsSentWhole, IsBareWithin, IsExchanged, IsHeldUp, ExchangeGoesOn, ExchangesGoOn, ExchangesBegin, ExchangesEnd, EachRecordIsAcknowledged}
use Rattle.whole_paths.specs.Exchanges.IsExchanged.{comes, in_hand, answered, acknowledged}
use Rattle.whole_paths.specs.Exchanges.{IsHeldUp as held}
use Rattle.whole_paths.specs.Exchanges.{IsAstray as stray}
use Rattle.whole_paths.specs.Exchanges.{ExchangeGoesOn as goes}
use Rattle.whole_paths.specs.Flights.{IsCopyOf, IsFirst, IsOnItsWay, IsSentSo, ComesSo, GoesOnTo}
use Rattle.whole_paths.specs.Flights.{GoesOnTo as way}
use Rattle.whole_paths.specs.Flights.{IsOnItsWay as ways}
use Rattle.whole_paths.specs.Hearing.{Counts, PathsCount}
use Rattle.whole_paths.specs.InHand.{HandGoesOn, HandComesSo, IsInHand, IsPartial}
use Rattle.whole_paths.specs.InHand.{HandGoesOn as hand}
use Rattle.whole_paths.specs.InTime.{ComesFrom}
use Rattle.whole_paths.specs.Kept.{AreKept, IsSameRecord, KeepsWhatWaits, EndsKeepWhatWaits}
use Rattle.whole_paths.specs.Owed.{AnswerGoesOn, AnswerComesSo, IsAnswer, IsAnswered, IsAnsweredSo}
use Rattle.whole_paths.specs.Owed.{AnswerGoesOn as answer}
use Rattle.whole_paths.specs.Owed.IsAnswered.{owes, flies}
use Rattle.whole_paths.specs.Sent.{WasSent}
use Rattle.whole_paths.proofs.Acking.{HandsComeSo, hands_come_so, same_actor}
use Rattle.whole_paths.proofs.Arrivals.{each_copy_arrives, each_mapped_record_is_a_piece, each_piece_comes_in_order, sender_of, taken_so, first_joins, judged_taken}
use Rattle.whole_paths.proofs.Came.{what_is_acknowledged_came}
use Rattle.whole_paths.proofs.Due.{LinkIs, LinkMember, copies_arrive_as_sent, each_link}
use Rattle.whole_paths.proofs.Flying.{Frames, FramesStay, SentAtTheEnd, SentGoOn, frames_stay, same_record, sent_at_the_end, sent_go_on, timer_from}
use Rattle.whole_paths.proofs.Hearing.{each_acknowledgement_counts}
use Rattle.whole_paths.proofs.InTime.{nothing_is_overdue}
use Rattle.whole_paths.proofs.Keeping.{what_waits_is_kept}
use Rattle.whole_paths.proofs.Knowing.{what_is_told_is_known}
use Rattle.whole_paths.proofs.Owing.{copies_are_answered}
use Rattle.whole_paths.proofs.Passing.{what_is_in_order_is_passed}
use Rattle.whole_paths.proofs.Paying.{AnswersComeSo, GoesSo, TurnedTo, answers_come_so, turned_to}
use Rattle.whole_paths.proofs.Reached.{EndsAreReached, each_is_reached, first_reached, past_opening}
use Rattle.whole_paths.proofs.Saying.{ToSend}
use Rattle.whole_paths.proofs.Sent.{what_came_was_sent}
use Rattle.whole_paths.proofs.SentSoon.{what_is_sent_comes_soon}
use Rattle.path_core.specs.MpJoin.{is_joined}

-- ---- what is known of a path at every moment

pub record Known (p : PathState Carried) : Type 0 where
  pub tells : (s : Side) → EndTells p.profile s (end_at s p)
  pub behind : (s : Side) (r : Record) (others : List Record) → (end_at s p).tcp.send.records ≡ r ∷ others → r.kind ≡ Data → 0 < r.pos
  pub edge : (s : Side) → 0 < (end_at s p).tcp.recv.edge
  pub reached : EndsAreReached p
  pub came : HasCome p
  pub was_sent : WasSent p
  pub link : LinkIs p.link
  pub alike : CopiesArriveSo p
  pub past : ComesFrom p.clock p

or_right : (b c : Bool) → c ≡ true → (b || c) ≡ true
or_right true c is = refl
or_right false c is = is

unopening : (state : EndPhase) → 2 ≤ stage state → is_opening state ≡ false
unopening phase.SynSent high = absurd (omega (arith, high))
unopening _ high = refl

module _ (p : PathState Carried) (known : Known p) (s : Side) where
  abbrev at_side : PathEnd
  at_side = end_at s p

  pub below_limit : is_at_limit at_side.tcp ≡ false
  below_limit =
      let nxt : at_side.tcp.send.nxt < 2 ^ 31 = (known.tells s).sender.next in let edge : at_side.tcp.recv.edge < 2 ^ 31 = (known.tells s).edge in
      ap (λ b. b || nat_le (2 ^ 61) at_side.tcp.recv.edge) (lt-leb (2 ^ 61) at_side.tcp.send.nxt (omega (arith, nxt))) ∙ lt-leb (2 ^ 61) at_side.tcp.recv.edge (omega (arith, edge))

  module _ (r : Record) (h : IsFirst r at_side) (kind : r.kind ≡ Data) where
    told : RecordTells p.profile s h.first
    told = (known.tells s).sender.records.each 0 h.first (ap (λ (rs : List Record). slice_get rs 0) h.records)

    mapped : RecordKindTells p.profile s Data h.first
    mapped = subst (λ k. RecordKindTells p.profile s k h.first) (h.same.kind ∙ kind) told.mapped

    behind_syn : 0 < r.pos
    behind_syn = subst (λ n. 0 < n) h.same.pos (known.behind s h.first h.others h.records (h.same.kind ∙ kind))

    first_low : r.pos ≤ at_side.tcp.send.una
    first_low = subst (λ n. n ≤ at_side.tcp.send.una) h.same.pos (first_reached at_side.tcp h.first h.others (known.reached s) h.records)

    few_octets : length r.piece ≤ 65475
    few_octets = subst (λ (o : List ℕ). length o ≤ 65475) h.same.piece told.octets

    both_syns : 2 ≤ stage at_side.tcp.state
    both_syns = past_opening at_side.tcp h.first h.others (known.reached s) h.records (subst (λ n. 0 < n) (sym h.same.pos) behind_syn)

    pub first_mapped : at_side.modes.identity ≡ false → at_side.modes.own_infinite ≡ None → is_first_piece s r at_side ≡ false → HasItsMapping p.profile s r at_side
    first_mapped identity finite told_before =
        let some : 1 ≤ h.first.mapping.length = mapped.0 in
        let place : place_numbered p.profile s h.first.mapping.number < 2 ^ 31 = mapped.3 in
        let whole : h.first.mapping.length ≡ length h.first.piece = mapped.4 in
        let reaches : h.first.pos + length h.first.piece + 1 < 2 ^ 31 = told.reaches in
        let octets : length h.first.piece ≡ length r.piece = ap (λ (o : List ℕ). length o) h.same.piece in
        let len : h.first.mapping.length ≡ r.mapping.length = ap (λ (m : Mapping). m.length) h.same.mapping in
        let number : place_numbered p.profile s h.first.mapping.number ≡ place_numbered p.profile s r.mapping.number = ap (λ (m : Mapping). place_numbered p.profile s m.number) h.same.mapping in
        let at = h.same.pos in
        record {
          kind = kind;
          some = omega (arith, some, whole, octets);
          behind_syn = behind_syn;
          short = omega (arith, reaches, octets, at);
          whole = omega (arith, whole, octets, len);
          low = omega (arith, place, few_octets, number);
          mapped = identity;
          finite = finite;
          few = few_octets;
          told = inl told_before;
        }

    sent_whole : LetsThrough p → at_side.modes.identity ≡ false → at_side.modes.own_infinite ≡ None → is_first_piece s r at_side ≡ false
        → IsSentWhole p.profile s r at_side (is_stripped s (next_number s p.link) p.clock p.link.lines) (is_altered s (next_number s p.link) p.link.lines)
    sent_whole faithful identity finite told_before = record {
      mapped = first_mapped identity finite told_before;
      acknowledges = ap (λ b. if b then None else Some at_side.tcp.recv.edge) (unopening at_side.tcp.state both_syns);
      edge = known.edge s;
      unstripped = faithful.whole.strips s (next_number s p.link) p.clock;
      unaltered = faithful.plain.alters s (next_number s p.link);
    }

-- ---- later, or less

pub hand_later : (s : Side) (position before later : ℕ) (q : PathState Carried) → before ≤ later → IsInHand s position before q → IsInHand s position later q
hand_later s position before later q low h = record {
  in_time = let in_time = h.in_time in omega (arith, in_time, low);
  opened = h.opened;
  due = h.due;
  octets = h.octets;
  mapped = h.mapped;
}

abbrev less_covered : (s : Side) (position less : ℕ) (p : PathState Carried) (f : Flight Carried) → less ≤ position → IsAnswer values s position p f → IsAnswer values s less p f
less_covered s position less p f low h = record {
  to = h.to;
  segment = h.segment;
  covers = record { up_to = h.covers.up_to; acknowledged = h.covers.acknowledged; enough = (let enough = h.covers.enough in omega (arith, enough, low)); rst = h.covers.rst };
  stripped = h.stripped;
  altered = h.altered;
  whole = h.whole;
  plain = h.plain;
  carried = h.carried;
}

-- with what holds of its segment
pub answer_later : (Was : PlainSegment → Type 0) (s : Side) (position less before later : ℕ) (q : PathState Carried) → less ≤ position → before ≤ later → (h : IsAnswered values s position before q) → IsAnsweredSo Was h
    → (g : IsAnswered values s less later q) × IsAnsweredSo Was g
answer_later Was s position less before later q few low (owes in_time opened came due) so = (owes (omega (arith, in_time, low)) opened (omega (arith, came, few)) due, tt)
answer_later Was s position less before later q few low (flies f in_time there h) so = (flies f (omega (arith, in_time, low)) there (less_covered s position less q f few h), so)

pub bare_later : (s : Side) (position n edge next more : ℕ) (q : PathState Carried) → next ≤ more → (h : IsAnswered values s position n q) → IsAnsweredSo (IsBareWithin edge next) h → IsAnsweredSo (IsBareWithin edge more) h
bare_later s position n edge next more q up (owes in_time opened came due) so = tt
bare_later s position n edge next more q up (flies f in_time there h) so =
    record { from = so.from; up_to = (let low = so.up_to in omega (arith, low, up)); syn = so.syn; fin = so.fin; payload = so.payload }

-- ---- the first record stays so, or is acknowledged

first_or_acked : (r : Record) (e f : PathEnd) → KeepsWhatWaits e f → IsFirst r e → IsFirst r f ⊎ (end_of r ≤ f.tcp.send.una)
first_or_acked r e f kept h =
    by f.tcp.send.records refl
    (subst (λ rs. AreKept (λ (x : Record). (e.tcp.send.una < f.tcp.send.una) × (end_of x ≤ f.tcp.send.una)) IsSameRecord rs f.tcp.send.records) h.records kept.records)
  where
    reached : end_of h.first ≤ f.tcp.send.una → end_of r ≤ f.tcp.send.una
    reached low = rw (sym h.same.pos, sym h.same.kind, sym h.same.piece) low

    by : (rs : List Record) → f.tcp.send.records ≡ rs → AreKept (λ (x : Record). (e.tcp.send.una < f.tcp.send.una) × (end_of x ≤ f.tcp.send.una)) IsSameRecord (h.first ∷ h.others) rs
        → IsFirst r f ⊎ (end_of r ≤ f.tcp.send.una)
    by [] is k = inr (reached k.0.1)
    by (x ∷ rs) is k = ⊎_elim
        (λ gone. inr (reached gone.0.1))
        (λ there. inl (record {
          first = x;
          others = rs;
          records = is;
          same = record { pos = there.0.pos ∙ h.same.pos; kind = there.0.kind ∙ h.same.kind; piece = there.0.piece ∙ h.same.piece; mapping = there.0.mapping ∙ h.same.mapping };
        }))
        k

-- ---- a copy

-- each copy comes at its tick
pub all_at : {X : Type 0} (P : X → Type 0) (xs : List X) (i : ℕ) (x : X) → slice_get xs i ≡ Some x → AllByRecursion P xs → P x
all_at P [] i x there h = cc
all_at P (y ∷ ys) zero x there h = subst P (same_Some y x there) h.0
all_at P (y ∷ ys) (suc i) x there h = all_at P ys i x there h.1

pub under_way : (P : Flight Carried → Type 0) (f : Flight Carried) (p : PathState Carried) → IsUnderWay f p → Every P p.link.under_way → P f
under_way P f p there h = subst P there.holds (h.each there.at there.item there.there)

-- what the link does to it leaves the header
pub record SameHeader (x y : PlainSegment) : Type 0 where
  pub acknowledged : y.acknowledged ≡ x.acknowledged
  pub rst : y.rst ≡ x.rst
  pub syn : y.syn ≡ x.syn
  pub position : y.position ≡ x.position
  pub fin : y.fin ≡ x.fin
  pub payload : x.payload ≡ [] → y.payload ≡ []

no_bit : (carried : Carried) → carried.segment.payload ≡ [] → (altered carried).segment.payload ≡ []
no_bit carried none = ap (λ (o : List ℕ). (altered (record carried { segment = record carried.segment { payload = o } })).segment.payload) none

changed_header : (strips alters : Bool) (carried : Carried) → SameHeader carried.segment (changed stripped altered strips alters carried).segment
changed_header true true carried = record { acknowledged = refl; rst = refl; syn = refl; position = refl; fin = refl; payload = no_bit carried }
changed_header true false carried = record { acknowledged = refl; rst = refl; syn = refl; position = refl; fin = refl; payload = λ none. none }
changed_header false true carried = record { acknowledged = refl; rst = refl; syn = refl; position = refl; fin = refl; payload = no_bit carried }
changed_header false false carried = record { acknowledged = refl; rst = refl; syn = refl; position = refl; fin = refl; payload = λ none. none }

pub changed_said : (spelling : Spelling) (s : Side) (x : PlainSegment) (strips alters : Bool) (carried : Carried)
    → carried ≡ changed (values.strips spelling s) (values.alters spelling s) strips alters (values.makes spelling s x) → SameHeader x carried.segment
changed_said spelling s x strips alters carried is = subst (λ (c : Carried). SameHeader x c.segment) (sym is) (changed_header strips alters (carried_by spelling s x))

-- ---- one turn of a path

-- what the laws of one turn say of it, side by side
pub record IsTurn (p q : PathState Carried) : Type 0 where
  pub kept : (s : Side) → KeepsWhatWaits (end_at s p) (end_at s q)
  pub frames : Frames p q
  pub far : (s : Side) → (end_at s p).tcp.recv.edge ≤ (end_at s q).tcp.recv.edge
  pub pushed : (s : Side) → (end_at s p).tcp.send.nxt ≤ (end_at s q).tcp.send.nxt
  pub later : (s : Side) → stage (end_at s p).tcp.state ≤ stage (end_at s q).tcp.state
  pub counts : Counts values p q

-- so does the path that opens the connection
pub lets_through : (p : PathState Carried) → IsFaithful p → LetsThrough p
lets_through p h = record { joined = λ s. first_joins s p h.joined; whole = h.whole; plain = h.plain }

module _ (p q : PathState Carried) (known : Known p) (faithful : LetsThrough p) (few : (t : Side) → segments_sent t p.link < 2 ^ 64 - 1) (turn : IsTurn p q)
    (s : Side) (acks_first : AcksGoFirst p) (hands : HandsComeSo (IsBareWithin (end_at s p).tcp.recv.edge (end_at (peer s) p).tcp.send.nxt) values (Path p) (Path q))
    (answers : AnswersComeSo (IsBareWithin (end_at s p).tcp.recv.edge (end_at (peer s) p).tcp.send.nxt) values (Path p) (Path q)) where
  abbrev Bare : PlainSegment → Type 0
  Bare = IsBareWithin (end_at s p).tcp.recv.edge (end_at (peer s) p).tcp.send.nxt

  pub numbered : (f : Flight Carried) → IsUnderWay f p → f.number < 2 ^ 64 - 1
  numbered f there = let low = under_way (λ g. g.number ≤ segments_sent (peer g.to) p.link) f p there known.link.low in let most = few (peer f.to) in omega (arith, low, most)

  pub tick_from : (f : Flight Carried) → IsUnderWay f p → p.clock ≤ f.tick
  tick_from f there = subst (λ (g : Flight Carried). p.clock ≤ g.tick) there.holds (all_at (λ (g : Flight Carried). p.clock ≤ g.tick) p.link.under_way there.at there.item there.there known.past.copies)

  -- what a copy acknowledges that is no reset came to its sender
  acked_low : (f : Flight Carried) (n : ℕ) → IsUnderWay f p → f.carried.segment.rst ≡ false → f.carried.segment.acknowledged ≡ Some n → n ≤ (end_at (peer f.to) p).tcp.recv.edge
  acked_low f n there rst acks = ⊎_elim
      (λ is. absurd (true≢false (sym is ∙ rst)))
      (λ low. subst (λ o. IfSome o (λ n. n ≤ (end_at (peer f.to) p).tcp.recv.edge)) acks low)
      (under_way (AcksWhatCame p) f p there known.came.copies)

  -- and so it was sent
  pub acked_sent : (f : Flight Carried) (n : ℕ) → IsUnderWay f p → f.carried.segment.rst ≡ false → f.carried.segment.acknowledged ≡ Some n → n ≤ (end_at f.to p).tcp.send.nxt
  acked_sent f n there rst acks =
      let low = acked_low f n there rst acks in
      let sent = subst (λ t. (end_at (peer f.to) p).tcp.recv.edge ≤ (end_at t p).tcp.send.nxt) (sender_of f.to) (known.was_sent (peer f.to)) in
      omega (arith, low, sent)

  -- ---- an answer comes

  module _ (position : ℕ) (f : Flight Carried) (there : IsUnderWay f p) (h : IsAnswer values (peer s) position p f) (is_bare : Bare h.segment) (opened : 2 ≤ stage (end_at s p).tcp.state)
      (others : List Duty) (first : p.agenda ≡ duties.Step step_duties.Events ∷ others) (next : next_event p ≡ Some (happenings.Arrives (due_of f))) where
    abbrev listener : Side
    listener = f.to

    abbrev hearer : PathEnd
    hearer = end_at listener p

    abbrev said : HeardSegment
    said = options_heard hearer (meant (as_arrived f.carried))

    header : SameHeader h.segment f.carried.segment
    header = changed_said p.profile.spelling (peer s) h.segment h.stripped h.altered f.carried h.carried

    unreset : f.carried.segment.rst ≡ false
    unreset = header.rst ∙ h.covers.rst

    acks_up_to : f.carried.segment.acknowledged ≡ Some h.covers.up_to
    acks_up_to = header.acknowledged ∙ h.covers.acknowledged

    abbrev is_heard : Comes values p
    is_heard = record {
      others = others;
      first = first;
      due = due_of f;
      next = next;
      segment = meant (as_arrived f.carried);
      heard = (let arrives = known.alike f there (numbered f there) in
          ap (λ (o : Option (Flight Carried)). heard_in values listener o p) arrives.there ∙ ap (λ (c : Carried). Some (meant (as_arrived c))) arrives.same);
    }

    -- the answer comes to the end that sent the record
    to_sender : listener ≡ s
    to_sender = h.to ∙ sender_of s

    abbrev Heard : Type 0
    Heard = (q ≡ p) ⊎ ((position ≤ (end_at s q).tcp.send.una) ⊎ (IsHeldUp s p q ⊎ ((end_at s p).tcp.recv.edge + 1048576 < (end_at (peer s) p).tcp.send.nxt)))

    is_taken : 2 ≤ stage hearer.tcp.state → is_dead hearer.tcp.state ≡ false → f.carried.segment.syn ≡ false → is_acceptable hearer.tcp.recv.edge f.carried.segment.position (copy_of said) ≡ true
        → 0 < h.covers.up_to → Heard
    is_taken opened living syn accepted some = ⊎_elim (λ same. inl same)
        (λ counts. inr (inl (subst (λ t. position ≤ (end_at t q).tcp.send.una) to_sender (let enough = h.covers.enough in omega (arith, enough, counts)))))
        (turn.counts.counts (record {
          copy = is_heard;
          acknowledged = h.covers.up_to;
          taken = inl (
            f.carried.segment.position,
            ap (λ m. judged_of (is_joined p.profile) said.rst (items_of (is_joined p.profile) listener said) m hearer) (taken_so (copy_of said) hearer.tcp f.carried.segment.position h.covers.up_to opened living (below_limit p known listener) syn unreset refl
                (ap (λ (o : Option ℕ). heard_position (option_map (λ n. At n) o)) acks_up_to) accepted some (acked_sent f h.covers.up_to there unreset acks_up_to))
                ∙ judged_taken (is_joined p.profile) said.rst (items_of (is_joined p.profile) listener said) f.carried.segment.position h.covers.up_to hearer (faithful.joined listener),
          );
        }))

    syn_is : f.carried.segment.syn ≡ false
    syn_is = header.syn ∙ is_bare.syn

    -- RCV.NXT isn't past its position
    not_before : hearer.tcp.recv.edge ≤ f.carried.segment.position
    not_before = (let at = header.position in subst (λ t. (end_at t p).tcp.recv.edge ≤ f.carried.segment.position) (sym to_sender) (let low = is_bare.from in omega (arith, at, low)))

    -- without payload it may stand at the window's edge
    at_edge : f.carried.segment.position ≡ hearer.tcp.recv.edge + 1048576 → is_acceptable hearer.tcp.recv.edge f.carried.segment.position (copy_of said) ≡ true
    at_edge is =
        or_right (is_in_window hearer.tcp.recv.edge f.carried.segment.position)
        (ends_in_window hearer.tcp.recv.edge f.carried.segment.position (occupied_by (copy_of said)) || is_at_right_edge hearer.tcp.recv.edge f.carried.segment.position (length (copy_of said).payload))
        (or_right (ends_in_window hearer.tcp.recv.edge f.carried.segment.position (occupied_by (copy_of said))) (is_at_right_edge hearer.tcp.recv.edge f.carried.segment.position (length (copy_of said).payload))
        (and_from (length (copy_of said).payload == 0) (f.carried.segment.position == hearer.tcp.recv.edge + 1048576)
        (ap (λ (o : List ℕ). length o == 0) (header.payload is_bare.payload)) (eq-eqb f.carried.segment.position (hearer.tcp.recv.edge + 1048576) is)))

    pub answer_comes : 0 < position → Heard
    answer_comes some = by_life (subst (λ t. 2 ≤ stage (end_at t p).tcp.state) (sym to_sender) opened) (is_dead hearer.tcp.state) refl
      where
        by_window : 2 ≤ stage hearer.tcp.state → is_dead hearer.tcp.state ≡ false → Heard
        by_window opened living = ⊎_elim
            (λ below. is_taken opened living syn_is
            (ap (λ b. b || (ends_in_window hearer.tcp.recv.edge f.carried.segment.position (occupied_by (copy_of said)) || is_at_right_edge hearer.tcp.recv.edge f.carried.segment.position (length (copy_of said).payload)))
            (ap (λ b. b && nat_lt f.carried.segment.position (hearer.tcp.recv.edge + 1048576)) (le-leb hearer.tcp.recv.edge f.carried.segment.position not_before) ∙ lt-ltb f.carried.segment.position (hearer.tcp.recv.edge + 1048576) below))
            (let enough = h.covers.enough in omega (arith, enough, some)))
            (λ above. ⊎_elim
            (λ past. inr (inr (inr (let edge = ap (λ t. (end_at t p).tcp.recv.edge) to_sender in let at = header.position in let most = is_bare.up_to in omega (arith, past, edge, at, most)))))
            (λ few. is_taken opened living syn_is (at_edge (omega (arith, above, few))) (let enough = h.covers.enough in omega (arith, enough, some)))
            (cases_lt (hearer.tcp.recv.edge + 1048576) f.carried.segment.position))
            (cases_lt f.carried.segment.position (hearer.tcp.recv.edge + 1048576))

        by_life : 2 ≤ stage hearer.tcp.state → (b : Bool) → is_dead hearer.tcp.state ≡ b → Heard
        by_life opened true is = inr (inr (inl (held.gone listener (inl is))))
        by_life opened false is = by_window opened is

  -- what goes from the peer while it owes an acknowledgement
  pub acks_bare : is_dead (end_at (peer s) p).tcp.state ≡ false → GoesSo Bare (peer s) p
  acks_bare living t sends own due unreset =
      by (subst (λ (o : Option ToSend). IfSome o (λ t. t.from ≡ peer s → IsBareAck p.profile (peer s) (end_at (peer s) p) (segment_sent p t))) sends (acks_first (peer s) living due) own)
    where
      by : IsBareAck p.profile (peer s) (end_at (peer s) p) (segment_sent p t) → Bare (segment_sent p t)
      by (bare.acks is) = record {
        from = (let low = known.was_sent s in let at = ap (λ (x : PlainSegment). x.position) is in omega (arith, at, low));
        up_to = (let at = ap (λ (x : PlainSegment). x.position) is in omega (arith, at));
        syn = ap (λ (x : PlainSegment). x.syn) is;
        fin = ap (λ (x : PlainSegment). x.fin) is;
        payload = ap (λ (x : PlainSegment). x.payload) is;
      }
      by (bare.resets is) = absurd (true≢false (sym is ∙ unreset))

  -- ---- what becomes of it

  module _ (r : Record) (until : ℕ) (kind : r.kind ≡ Data) (opened : 2 ≤ stage (end_at s p).tcp.state) where
    abbrev Goes : Type 0
    Goes = ExchangeGoesOn s r until p q

    end_is : end_of r ≡ r.pos + length r.piece
    end_is = ap (λ k. r.pos + occupied k r.piece) kind

    same_goes : q ≡ p → IsExchanged s r until p → Goes
    same_goes same h = goes.on (subst (IsExchanged s r until) (sym same) h)

    still_opened : 2 ≤ stage (end_at s q).tcp.state
    still_opened = let later = turn.later s in omega (arith, opened, later)

    -- RCV.NXT of the end stays, or more came
    if_still : ((end_at s q).tcp.recv.edge ≡ (end_at s p).tcp.recv.edge → Goes) → Goes
    if_still stays = ⊎_elim (λ more. goes.held_up (held.more_came more)) (λ low. stays (let up = turn.far s in omega (arith, low, up))) (cases_lt (end_at s p).tcp.recv.edge (end_at s q).tcp.recv.edge)

    is_answered : (position before : ℕ) → end_of r ≤ position → before ≤ until → (h : IsAnswered values (peer s) position before q) → IsAnsweredSo Bare h → Goes
    is_answered position before enough low h so = if_still (λ same. let later = answer_later Bare (peer s) position (end_of r) before until q enough low h so in
        goes.on (answered still_opened later.0 (subst (λ n. IsAnsweredSo (IsBareWithin n (end_at (peer s) q).tcp.send.nxt) later.0) (sym same)
        (bare_later (peer s) (end_of r) until (end_at s p).tcp.recv.edge (end_at (peer s) p).tcp.send.nxt (end_at (peer s) q).tcp.send.nxt q (turn.pushed (peer s)) later.0 later.1))))

    -- the answer goes on
    answer_goes : (position before : ℕ) → end_of r ≤ position → before ≤ until → 0 < end_of r → (go : AnswerGoesOn values (peer s) position before p q) → AnswerComesSo Bare go → Goes
    answer_goes position before enough low some (answer.on h) so = is_answered position before enough low h so
    answer_goes position before enough low some (answer.arrives f in_time there h others first next) so = ⊎_elim
        (λ same. (let later = answer_later Bare (peer s) position (end_of r) before until p enough low (flies f in_time there h) so in same_goes same (answered opened later.0 later.1)))
        (λ x. ⊎_elim
        (λ reached. goes.on (acknowledged (omega (arith, enough, reached))))
        (λ hindered. ⊎_elim (λ y. goes.held_up y) (λ y. goes.astray (stray.past_window y)) hindered)
        x)
        (answer_comes position f there h so opened others first next (omega (arith, enough, some)))
    answer_goes position before enough low some (answer.harmed is) so = goes.held_up (held.harmed (peer s) is)
    answer_goes position before enough low some (answer.resets is) so = goes.astray (stray.resets is)
    answer_goes position before enough low some (answer.gone dead) so = goes.held_up (held.gone (peer s) (inr dead))
    answer_goes position before enough low some (answer.dies line next is dead) so = goes.held_up (held.dies line next is dead)

    -- and so does what is in hand
    hand_goes : (position before : ℕ) → position ≡ end_of r → before ≤ until → 0 < end_of r → (go : HandGoesOn values (peer s) position before p q) → HandComesSo Bare go → Goes
    hand_goes position before same low some (hand.on h) so = goes.on (in_hand still_opened (hand_later (peer s) (end_of r) before until q low (subst (λ n. IsInHand (peer s) n before q) same h)))
    hand_goes position before same low some (hand.answered h) so = answer_goes position before (omega (arith, same)) low some h so
    hand_goes position before same low some (hand.reset h) so = goes.astray (stray.reset h)
    hand_goes position before same low some (hand.behind_fin h) so = goes.astray (stray.behind_fin h)
    hand_goes position before same low some (hand.dropped h) so = goes.astray (stray.unsure h)
    hand_goes position before same low some (hand.plain h) so = goes.astray (stray.plain (peer s) (inr h))
    hand_goes position before same low some (hand.unkeyed h) so = goes.astray (stray.unkeyed h)
    hand_goes position before same low some (hand.infinite h) so = goes.astray (stray.infinite (inr h))
    hand_goes position before same low some (hand.fails h) so = goes.astray (stray.fails h)
    hand_goes position before same low some (hand.untold sums reads mapped) so = goes.astray (stray.untold sums reads mapped)
    hand_goes position before same low some (hand.partial h) so = goes.astray (stray.partial (subst (λ n. IsPartial (peer s) n p) same h))

    -- ---- a copy of it comes

    module _ (arrival : ℕ) (soon : arrival + 400 ≤ until) (is_first : IsFirst r (end_at s p)) (still : IsExchanged s r until p)
        (f : Flight Carried) (in_time : f.tick ≤ arrival) (there : IsUnderWay f p) (copy : IsCopyOf values s r p f) (sent : IsSentWhole p.profile s r copy.sender copy.stripped copy.altered)
        (others : List Duty) (first : p.agenda ≡ duties.Step step_duties.Events ∷ others) (next : next_event p ≡ Some (happenings.Arrives (due_of f))) where
      abbrev copied : PlainSegment
      copied = copy.segment

      abbrev taker : PathEnd
      taker = end_at (peer s) p

      comes_now : Arrival copied p
      comes_now = each_copy_arrives s r p f copy sent.unstripped sent.unaltered there (numbered f there) known.alike others first next

      piece : IsMappedPiece p.profile (peer comes_now.due.to) copied
      piece = subst (λ y. IsMappedPiece p.profile y copied) (sym (ap peer (sym (ap event_side comes_now.next) ∙ ap event_side next ∙ copy.to) ∙ sender_of s))
          (each_mapped_record_is_a_piece p.profile s r copy.sender copied sent.mapped copy.of_it copy.says)

      some_end : 0 < end_of r
      some_end = (let low = behind_syn p known s r is_first kind in omega (arith, end_is, low))

      at_pos : copied.position ≡ r.pos
      at_pos = copy.of_it.position

      len : length copied.payload ≡ length r.piece
      len = ap (λ (o : List ℕ). length o) copy.of_it.payload

      -- each copy that comes now is the peer's
      side_is : (c : Comes values p) → c.due.to ≡ peer s
      side_is c = sym (ap event_side c.next) ∙ ap event_side next ∙ copy.to

      clock_is : q.clock ≡ max p.clock f.tick → q.clock + 400 ≤ until
      clock_is is = (let from = tick_from f there in omega (arith, is, from, in_time, soon))

      by_clock : (q.clock + 400 ≤ until → Goes) → Goes
      by_clock then_so = ⊎_elim (λ same. same_goes same still) (λ is. then_so (clock_is is)) (turn.frames.moves (happenings.Arrives (due_of f)) others first next)

      sender_acks : copied.acknowledged ≡ Some copy.sender.tcp.recv.edge
      sender_acks = copy.says.acknowledged ∙ sent.acknowledges

      carried_header : SameHeader copied f.carried.segment
      carried_header = changed_said p.profile.spelling s copied copy.stripped copy.altered f.carried copy.carried

      answer_low : copy.sender.tcp.recv.edge ≤ taker.tcp.send.nxt
      answer_low =
          subst (λ t. copy.sender.tcp.recv.edge ≤ (end_at t p).tcp.send.nxt) copy.to
          (acked_sent f copy.sender.tcp.recv.edge there (carried_header.rst ∙ copy.of_it.rst) (carried_header.acknowledged ∙ sender_acks))

      -- RCV.NXT isn't past the record's first position
      starts : is_dead (end_at s p).tcp.state ≡ false → r.pos ≤ taker.tcp.recv.edge
      starts living = (let low = first_low p known s r is_first kind in let una = known.came.una s living in omega (arith, low, una))

      in_order : ComesInOrder copied p → Goes
      in_order c =
          let to : c.brings.copy.due.to ≡ peer s = side_is c.brings.copy in
          ⊎_elim (λ same. same_goes same still)
          (λ h. by_clock (λ low. (let here = subst (λ t. (go : HandGoesOn values t (c.brings.position + length c.brings.copy.segment.payload) (q.clock + 400) p q) × HandComesSo Bare go) to h in
          hand_goes (c.brings.position + length c.brings.copy.segment.payload) (q.clock + 400)
          (let pos = c.position in let octets : length c.brings.copy.segment.payload ≡ length copied.payload = ap (λ (o : List ℕ). length o) c.payload in omega (arith, pos, octets, at_pos, len, end_is))
          low some_end here.0 here.1)))
          (hands.0 c.brings c.in_order)

      again : end_of r ≤ taker.tcp.recv.edge → 3 ≤ stage taker.tcp.state → ComesAgain p → Goes
      again passed opened c =
          let to : c.copy.due.to ≡ peer s = side_is c.copy in
          ⊎_elim (λ same. same_goes same still)
          (λ h. by_clock (λ low. (let here = subst (λ t. (go : AnswerGoesOn values t (end_at t p).tcp.recv.edge (q.clock + 400) p q) × AnswerComesSo Bare go) to h in
          answer_goes taker.tcp.recv.edge (q.clock + 400) passed low some_end here.0 here.1)))
          (hands.1.0 c.copy c.outside (subst (λ t. 3 ≤ stage (end_at t p).tcp.state) (sym to) opened))

      arrives_in : Takes copied taker → Goes
      arrives_in takes = in_order ((each_piece_comes_in_order copied p comes_now (faithful.joined comes_now.due.to) piece).0 (subst (λ t. Takes copied (end_at t p)) (sym due_to) takes))
        where
          due_to : comes_now.due.to ≡ peer s
          due_to = sym (ap event_side comes_now.next) ∙ ap event_side next ∙ copy.to

      arrives_again : end_of r ≤ taker.tcp.recv.edge → 3 ≤ stage taker.tcp.state → CameBefore copied taker → Goes
      arrives_again passed opened before = again passed opened ((each_piece_comes_in_order copied p comes_now (faithful.joined comes_now.due.to) piece).1 (subst (λ t. CameBefore copied (end_at t p)) (sym due_to) before))
        where
          due_to : comes_now.due.to ≡ peer s
          due_to = sym (ap event_side comes_now.next) ∙ ap event_side next ∙ copy.to

      record_comes : Goes
      record_comes = by_sender (is_dead (end_at s p).tcp.state) refl
        where
          takes_so : is_dead (end_at s p).tcp.state ≡ false → is_dead taker.tcp.state ≡ false → 2 ≤ stage taker.tcp.state → taker.tcp.recv.edge < end_of r
              → taker.modes.identity ≡ false → Takes copied taker
          takes_so living there_living opened new unplain =
              let low = starts living in let window = (known.reached (peer s)).window in let octets = few_octets p known s r is_first kind in
              record {
                opened = opened;
                living = there_living;
                below_limit = below_limit p known (peer s);
                starts = omega (arith, at_pos, low);
                new = omega (arith, new, at_pos, len, end_is);
                within = omega (arith, at_pos, len, low, window, octets);
                in_window = omega (arith, at_pos, len, low, octets);
                acknowledged = copy.sender.tcp.recv.edge;
                acknowledges = sender_acks;
                answered = sent.edge;
                sent = answer_low;
                mapped = unplain;
              }

          by_plain : is_dead (end_at s p).tcp.state ≡ false → is_dead taker.tcp.state ≡ false → 2 ≤ stage taker.tcp.state → taker.tcp.recv.edge < end_of r
              → (b : Bool) → taker.modes.identity ≡ b → Goes
          by_plain living there_living opened new true is = goes.astray (stray.plain (peer s) (inl is))
          by_plain living there_living opened new false is = arrives_in (takes_so living there_living opened new is)

          by_stage : is_dead (end_at s p).tcp.state ≡ false → is_dead taker.tcp.state ≡ false → taker.tcp.recv.edge < end_of r → Goes
          by_stage living there_living new = ⊎_elim
              (λ low. goes.astray (stray.unopened (omega (arith, low))))
              (λ opened. by_plain living there_living opened new taker.modes.identity refl)
              (cases_lt (stage taker.tcp.state) 2)

          by_opened : is_dead taker.tcp.state ≡ false → end_of r ≤ taker.tcp.recv.edge → Goes
          by_opened there_living passed = ⊎_elim
              (λ low. goes.astray (stray.half_open (omega (arith, low)) passed))
              (λ opened. arrives_again passed opened (record { opened = omega (arith, opened); living = there_living; below_limit = below_limit p known (peer s); passed = omega (arith, passed, at_pos, len, end_is) }))
              (cases_lt (stage taker.tcp.state) 3)

          by_edge : is_dead (end_at s p).tcp.state ≡ false → is_dead taker.tcp.state ≡ false → Goes
          by_edge living there_living = ⊎_elim (λ new. by_stage living there_living new) (λ passed. by_opened there_living passed) (cases_lt taker.tcp.recv.edge (end_of r))

          by_taker : is_dead (end_at s p).tcp.state ≡ false → (b : Bool) → is_dead taker.tcp.state ≡ b → Goes
          by_taker living true is = goes.held_up (held.gone (peer s) (inl is))
          by_taker living false is = by_edge living is

          by_sender : (b : Bool) → is_dead (end_at s p).tcp.state ≡ b → Goes
          by_sender true is = goes.held_up (held.gone s (inl is))
          by_sender false is = by_taker is (is_dead taker.tcp.state) refl

    -- ---- each stage

    -- a copy of the record is on its way
    on_way : (arrival : ℕ) → arrival + 400 ≤ until → IsFirst r (end_at s p) → IsExchanged s r until p
        → (go : GoesOnTo values s r arrival p q) → ComesSo (IsSentWhole p.profile s r) go → Goes
    on_way arrival soon first still (way.on next) so = ⊎_elim
        (λ kept. goes.on (comes arrival (omega (arith, soon)) kept next (subst (λ c. IsSentSo (IsSentWhole c s r) next) (sym turn.frames.profile) so)))
        (λ acked. goes.on (acknowledged acked))
        (first_or_acked r (end_at s p) (end_at s q) (turn.kept s) first)
    on_way arrival soon first still (way.arrives f in_time there copy others begins next) so = record_comes arrival soon first still f in_time there copy so others begins next
    on_way arrival soon first still (way.news news) so = goes.held_up (held.news news)
    on_way arrival soon first still (way.harmed is) so = goes.held_up (held.harmed s is)
    on_way arrival soon first still (way.gone dead) so = goes.held_up (held.gone s (inr dead))
    on_way arrival soon first still (way.dies line next is dead) so = goes.held_up (held.dies line next is dead)

    -- where its end sends it with its own mapping
    sends_so : SentGoOn (IsSentWhole p.profile s r) values (Path p) (Path q) → (arrival : ℕ) → arrival + 400 ≤ until → IsFirst r (end_at s p) → IsExchanged s r until p
        → (next : IsOnItsWay values s r arrival p) → IsSentSo (IsSentWhole p.profile s r) next → Goes
    sends_so goes_on arrival soon first still next so = by_plain (end_at s p).modes.identity refl
      where
        with_mapping : (end_at s p).modes.identity ≡ false → (end_at s p).modes.own_infinite ≡ None → is_first_piece s r (end_at s p) ≡ false → Goes
        with_mapping unplain finite told =
            let go = goes_on s r arrival (few s) (λ h. sent_whole p known s r h kind faithful unplain finite told) next so in on_way arrival soon first still go.0 go.1

        by_told : (end_at s p).modes.identity ≡ false → (end_at s p).modes.own_infinite ≡ None → (b : Bool) → is_first_piece s r (end_at s p) ≡ b → Goes
        by_told unplain finite true is = goes.astray (stray.first_piece is)
        by_told unplain finite false is = with_mapping unplain finite is

        by_infinite : (end_at s p).modes.identity ≡ false → (o : Option InfiniteMapping) → (end_at s p).modes.own_infinite ≡ o → Goes
        by_infinite unplain None is = by_told unplain is (is_first_piece s r (end_at s p)) refl
        by_infinite unplain (Some mapping) is = goes.astray (stray.infinite (inl (subst (λ o. IsSome o) (sym is) refl)))

        by_plain : (b : Bool) → (end_at s p).modes.identity ≡ b → Goes
        by_plain true is = goes.astray (stray.plain s (inl is))
        by_plain false is = by_infinite is (end_at s p).modes.own_infinite refl

    -- unless the peer is dead
    if_bare : (GoesSo Bare (peer s) p → Goes) → Goes
    if_bare then_so = by_life (is_dead (end_at (peer s) p).tcp.state) refl
      where
        by_life : (b : Bool) → is_dead (end_at (peer s) p).tcp.state ≡ b → Goes
        by_life true is = goes.held_up (held.gone (peer s) (inl is))
        by_life false is = then_so (acks_bare is)

    hand_on : GoesSo Bare (peer s) p → IsInHand (peer s) (end_of r) until p → 0 < end_of r → Goes
    hand_on was h some = let go = hands.1.1 (peer s) (end_of r) until (few (peer s)) was h in hand_goes (end_of r) until refl (le_refl until) some go.0 go.1

    answer_on : GoesSo Bare (peer s) p → (h : IsAnswered values (peer s) (end_of r) until p) → IsAnsweredSo Bare h → 0 < end_of r → Goes
    answer_on was h so some = let go = answers (peer s) (end_of r) until (few (peer s)) was h so in answer_goes (end_of r) until (le_refl (end_of r)) (le_refl until) some go.0 go.1

  exchange_goes : (r : Record) (until : ℕ) → r.kind ≡ Data → SentGoOn (IsSentWhole p.profile s r) values (Path p) (Path q) → IsExchanged s r until p → ExchangeGoesOn s r until p q
  exchange_goes r until kind goes_on (comes arrival soon first next so) =
      sends_so r until kind (both_syns p known s r first kind) goes_on arrival soon first (comes arrival soon first next so) next so
  exchange_goes r until kind goes_on (in_hand opened h) =
      ⊎_elim (λ some. if_bare r until kind opened (λ was. hand_on r until kind opened was h some)) (λ none. goes.on (acknowledged (omega (arith, none)))) (cases_lt 0 (end_of r))
  exchange_goes r until kind goes_on (answered opened h so) =
      ⊎_elim (λ some. if_bare r until kind opened (λ was. answer_on r until kind opened was h so some)) (λ none. goes.on (acknowledged (omega (arith, none)))) (cases_lt 0 (end_of r))
  exchange_goes r until kind goes_on (acknowledged h) = goes.on (acknowledged (let up = (turn.kept s).una in omega (arith, h, up)))

-- ---- in time

module _ (p : PathState Carried) (past : ComesFrom p.clock p) where
  flight_from : (f : Flight Carried) → IsUnderWay f p → p.clock ≤ f.tick
  flight_from f there = subst (λ (g : Flight Carried). p.clock ≤ g.tick) there.holds (all_at (λ (g : Flight Carried). p.clock ≤ g.tick) p.link.under_way there.at there.item there.there past.copies)

  pub way_from : (s : Side) (r : Record) (n : ℕ) → IsOnItsWay values s r n p → p.clock ≤ n
  way_from s r n (ways.waits tick low runs first) = let from = timer_from s tick p past runs.timer in omega (arith, from, low)
  way_from s r n (ways.resends low is first) = omega (arith, low)
  way_from s r n (ways.flies f low there copy) = let from = flight_from f there in omega (arith, from, low)

  pub answer_from : (s : Side) (position n : ℕ) → IsAnswered values s position n p → p.clock ≤ n
  answer_from s position n (owes low opened came due) = omega (arith, low)
  answer_from s position n (flies f low there h) = let from = flight_from f there in omega (arith, from, low)

  exchange_ends : ExchangesEnd p
  exchange_ends s r n (comes arrival soon first next so) late = absurd (let from = way_from s r arrival next in omega (arith, from, soon, late))
  exchange_ends s r n (in_hand opened h) late = absurd (let low = h.in_time in omega (arith, low, late))
  exchange_ends s r n (answered opened h so) late = absurd (let from = answer_from (peer s) (end_of r) n h in omega (arith, from, late))
  exchange_ends s r n (acknowledged h) late = h

-- ---- the world

pub record Shown (p : PathState Carried) : Type 0 where
  pub tells : (s : Side) → EndTells p.profile s (end_at s p)
  pub behind : (s : Side) (r : Record) (others : List Record) → (end_at s p).tcp.send.records ≡ r ∷ others → r.kind ≡ Data → 0 < r.pos
  pub edge : (s : Side) → 0 < (end_at s p).tcp.recv.edge

abbrev pub OfPaths : (PathState Carried → Type 0) → Actor Carried → Type 0
OfPaths P = HoldsOfKind (λ app. Unit {0}) P

-- a lane's positions begin behind the SYN
edge_past : (fin_at : Option ℕ) (recv : Receiving) (back : Lane) → IsAtEdge recv back ⊎ IsPastFin fin_at recv back → 0 < recv.edge
edge_past fin_at recv back (inl at) = let is = at.edge_is in omega (arith, is)
edge_past fin_at recv back (inr past) = let is = past.edge_is in omega (arith, is)

path_shown : (c : Profile) (p : PathState Carried) (ab ba : Lane) → PathTells c p → PathShows c p ab ba → Shown p
path_shown c p ab ba told shows = record { tells = tells; behind = behind; edge = edge }
  where
    tells : (s : Side) → EndTells p.profile s (end_at s p)
    tells A = subst (λ c. EndTells c A p.a) (sym shows.profile) told.a
    tells B = subst (λ c. EndTells c B p.b) (sym shows.profile) told.b

    edge : (s : Side) → 0 < (end_at s p).tcp.recv.edge
    edge A = edge_past p.a.tcp.fin_at p.a.tcp.recv ba shows.a.receiver.edge
    edge B = edge_past p.b.tcp.fin_at p.b.tcp.recv ab shows.b.receiver.edge

    record_behind : (s : Side) (out : Lane) (r : Record) (rs others : List Record) → Every (RecordShows c s out.alters out.sent out.datas out.fins) rs → rs ≡ r ∷ others → r.kind ≡ Data → 0 < r.pos
    record_behind s out r rs others h is kind =
        let piece = subst (λ k. KindShows c s out.alters out.sent out.datas out.fins k r) kind (h.each 0 r (ap (λ (xs : List Record). slice_get xs 0) is)) in
        let at = piece.octets.holds.position_is in omega (arith, at)

    behind : (s : Side) (r : Record) (others : List Record) → (end_at s p).tcp.send.records ≡ r ∷ others → r.kind ≡ Data → 0 < r.pos
    behind A r others is kind = record_behind A ab r p.a.tcp.send.records others shows.a.sender.pieces is kind
    behind B r others is kind = record_behind B ba r p.b.tcp.send.records others shows.b.sender.pieces is kind

pub each_shown : (start : Start) (turns : List Turn) → HasRoom start → NumbersFit start → (actor : ℕ) (c : ActorCrew Carried) → slice_get (world_run values turns (opened_world start)).crew actor ≡ Some c → OfPaths Shown c.member
each_shown start turns size fit =
    let can = anyhow start size in
    let r = each_run_shows start can turns (free_run can.links (anyhow_free start size) turns (opened_world start)) in
    shown_so can.links (after_events r.events (first_duo can.links start)) r.shows
  where
    shown_so : (links : Links) (d : Duo) → WorldShows links start d (world_run values turns (opened_world start))
        → (actor : ℕ) (c : ActorCrew Carried) → slice_get (world_run values turns (opened_world start)).crew actor ≡ Some c → OfPaths Shown c.member
    shown_so links d h = subst (λ (w : WorldState Carried). (actor : ℕ) (c : ActorCrew Carried) → slice_get w.crew actor ≡ Some c → OfPaths Shown c.member) (sym h.is)
        (each_actor (λ actor c. OfPaths Shown c.member) h.cast tt tt (λ number x there.
        (let path = h.paths.each number number x (omega arith) there in
        path_shown (path_begins start number path.plan).profile x.path path.ab path.ba
        ((subst (WorldTells start) h.is (always_tells start turns size fit)).members (suc (suc number)) (walking x) (path_actor h.cast number x there) path.plan path.plan_there) path.shows)))

exchanges_go : (m n : Actor Carried) → EndsKeepWhatWaits m n → FramesStay m n → TurnedTo m n → ((Was : PathEnd → Bool → Bool → Type 0) → SentGoOn Was values m n) → ((Was : PlainSegment → Type 0) → HandsComeSo Was values m n)
    → ((Was : PlainSegment → Type 0) → AnswersComeSo Was values m n) → PathsCount values m n
    → OfPaths Shown m → OfPaths EndsAreReached m → OfPaths HasCome m → OfPaths WasSent m → LinkMember m → OfPaths CopiesArriveSo m → OfPaths (λ p. ComesFrom p.clock p) m → OfPaths AcksGoFirst m → ExchangesGoOn m n
exchanges_go (App a) (App b) kept frames turned sent hands answers counts shown reached came was_sent link alike past acks_first = tt
exchanges_go (Path p) (Path q) kept frames turned sent hands answers counts shown reached came was_sent link alike past acks_first = λ faithful s r until kind few h.
    exchange_goes p q
    (record { tells = shown.tells; behind = shown.behind; edge = shown.edge; reached = reached; came = came; was_sent = was_sent; link = link; alike = alike; past = past })
    faithful few (record { kept = kept; frames = frames; far = λ s. (turned.far s).subflow.received; pushed = λ s. (turned.far s).subflow.pushed; later = λ s. (turned.far s).subflow.state; counts = counts }) s acks_first (hands (IsBareWithin (end_at s p).tcp.recv.edge (end_at (peer s) p).tcp.send.nxt))
    (answers (IsBareWithin (end_at s p).tcp.recv.edge (end_at (peer s) p).tcp.send.nxt)) r until kind (sent (IsSentWhole p.profile s r)) h
exchanges_go (App a) (Path q) kept frames turned sent hands answers counts shown reached came was_sent link alike past acks_first = absurd kept
exchanges_go (Path p) (App b) kept frames turned sent hands answers counts shown reached came was_sent link alike past acks_first = absurd kept

exchanges_by_turns : (start : Start) (turns : List Turn) → HasRoom start → NumbersFit start → let w = world_run values turns (opened_world start) in (turn : Turn) (actor : ℕ) (c : ActorCrew Carried) → slice_get w.crew actor ≡ Some c
    → (d : ActorCrew Carried) × (slice_get (after_turn values turn w).crew actor ≡ Some d) × ExchangesGoOn c.member d.member
exchanges_by_turns start turns size fit turn actor c at =
    let w = world_run values turns (opened_world start) in
    let v = after_turn values turn w in
    let all_answered = copies_are_answered values start turns in
    let kept = what_waits_is_kept values w (turn ∷ []) actor c at in
    let d : ActorCrew Carried = kept.0 in (
      d,
      kept.1,
      exchanges_go c.member d.member kept.2
          (same_actor (λ x. FramesStay c.member x.member) v actor d kept.1 (frames_stay values w turn actor c at))
          (same_actor (λ x. TurnedTo c.member x.member) v actor d kept.1 (turned_to values w turn actor c at))
          (λ Was. same_actor (λ x. SentGoOn Was values c.member x.member) v actor d kept.1 (sent_go_on Was values w (nothing_is_overdue values start turns) ((what_is_sent_comes_soon values).numbered start turns) turn actor c at))
          (λ Was. same_actor (λ x. HandsComeSo Was values c.member x.member) v actor d kept.1
          (hands_come_so Was values w all_answered ((what_is_sent_comes_soon values).numbered start turns) (what_is_in_order_is_passed values start turns) ((what_is_told_is_known values).live start turns) turn actor c at))
          (λ Was. same_actor (λ x. AnswersComeSo Was values c.member x.member) v actor d kept.1 (answers_come_so Was values w all_answered ((what_is_sent_comes_soon values).numbered start turns) turn actor c at))
          (same_actor (λ x. PathsCount values c.member x.member) v actor d kept.1 (each_acknowledgement_counts values w turn actor c at))
          (each_shown start turns size fit actor c at) ((each_is_reached values start turns).each actor c at) ((what_is_acknowledged_came start turns).each actor c at) ((what_came_was_sent start turns size).each actor c at)
          ((each_link values start turns).each actor c at) ((copies_arrive_as_sent values start turns).each actor c at) ((nothing_is_overdue values start turns).each actor c at) (all_answered.first actor c at),
    )

-- ---- how they begin and end

exchanges_begin : (m : Actor Carried) → ((Was : PathEnd → Bool → Bool → Type 0) → OfPaths (SentAtTheEnd Was values) m) → OfPaths ExchangesBegin m
exchanges_begin (App a) sent = tt
exchanges_begin (Path p) sent = λ over s living r others is.
    let way = sent (IsSentWhole p.profile s r) over s living r others is in
    comes (p.clock + 60000 + 400) (le_refl (p.clock + 60000 + 400 + 400)) (record { first = r; others = others; records = is; same = same_record r }) way.0 way.1

exchanges_end : (m : Actor Carried) → OfPaths (λ p. ComesFrom p.clock p) m → OfPaths ExchangesEnd m
exchanges_end (App a) past = tt
exchanges_end (Path p) past = exchange_ends p past

pub each_record_is_acknowledged : EachRecordIsAcknowledged
each_record_is_acknowledged = record {
  in_time = λ start turns. record {
    begin = λ actor c at. exchanges_begin c.member (λ Was. sent_at_the_end Was values start turns actor c at);
    end = λ actor c at. exchanges_end c.member ((nothing_is_overdue values start turns).each actor c at);
  };
  goes_on = exchanges_by_turns;
}
