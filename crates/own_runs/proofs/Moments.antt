-- What each segment of a trace says, whatever its script does.
use Rattle.std.proofs.Common.{◌≡◌, refl, sym, ap, ◌∙◌, subst, ℕ, suc, ◌+◌, ◌≤◌, ◌<◌, ◌^◌, true, false, Option, Some, None, option_map, List, [], ◌∷◌, ◌++◌, length, length-append, arith}
use Rattle.std.specs.Option.{IfSome}
use Rattle.std.specs.List.{slice_get}
use Rattle.std.proofs.lemmas.Option.{slice_get_within}
use Rattle.std.proofs.Common.{⊎_elim}
use Rattle.std.specs.Prelude.{unwrap_or}
use Rattle.std.specs.Option.{option_and_then, option_to_list}
use Rattle.actor_desk.specs.Books.{books_in}
use Rattle.actor_desk.specs.Desk.{SixBooks}
use Rattle.link_trace.specs.declared.sent.Sent.{Sent}
use Rattle.octet_text.specs.Prefix.{IsPrefix}
use Rattle.path_agenda.specs.declared.duty.Duty.{Duty}
use Rattle.path_agenda.specs.declared.duty.StepDuty.{StepDuty}
use Rattle.path_agenda.specs.declared.heard.Heard.{Heard}
use Rattle.path_core.specs.End.{PathEnd}
use Rattle.path_core.specs.Looking.{duty_sends, departing_as}
use Rattle.path_core.specs.Looking.{first_sends, segment_sent, heard_sends}
use Rattle.path_core.specs.MpJoin.{is_joined}
use Rattle.path_core.specs.Octets.{made}
use Rattle.path_core.specs.Octets.{octets}
use Rattle.path_core.specs.OptionsOut.{syn_options}
use Rattle.path_core.specs.Profile.{Profile}
use Rattle.path_core.specs.Said.{said_by}
use Rattle.path_core.specs.Shown.{shown_path}
use Rattle.path_core.specs.State.{end_at, PathState, path_of}
use Rattle.path_core.specs.Treating.{item_of}
use Rattle.path_core.specs.Values.{Carried, values}
use Rattle.path_segments.specs.Options.{PlainOption, said_option}
use Rattle.path_segments.specs.declared.segment.PathOption.TheVariants.{FastClose, Join}
use Rattle.sides.specs.Side.{peer}
use Rattle.path_segments.specs.Spelled.{PlainSegment}
use Rattle.path_store.specs.declared.infinite_mapping.InfiniteMapping.{InfiniteMapping}
use Rattle.run_trace.specs.Trace.{sent_as, sent_at, sent_by, sent_next, trace_of}
use Rattle.sides.specs.declared.side.Side.TheVariants.{A, B}
use Rattle.sides.specs.declared.side.Side.{Side}
use Rattle.stream_lanes.proofs.Duos.{any_held}
use Rattle.stream_lanes.proofs.Lists.{Every-nil, Every-append, in_map}
use Rattle.stream_lanes.proofs.Promises.{paths_short}
use Rattle.stream_lanes.specs.Duo.{Duo, after_events}
use Rattle.stream_lanes.specs.Holding.{Holds, LaneHolds}
use Rattle.stream_lanes.specs.Holding.{IsEndless}
use Rattle.stream_lanes.specs.Lane.{Lane}
use Rattle.stream_lanes.specs.Laws.{LaneIsShort}
use Rattle.stream_lanes.specs.View.{View}
use Rattle.stream_lanes.specs.Words.{Every}
use Rattle.world_core.specs.Looking.{crew_path, member_path}
use Rattle.world_laws.proofs.Joins.TokensAgree.{WorldMet, opened_met, run_met}
use Rattle.world_laws.proofs.Keys.AreDrawn.{Deed, OptionIs, SegmentIs}
use Rattle.world_laws.proofs.Keys.Held.{PathIs}
use Rattle.world_laws.proofs.Keys.ToldAreOwn.{Joined, NoMore, Past, PathKnows, with_nonces}
use Rattle.world_laws.proofs.Lanes.Beginning.{each_run_shows}
use Rattle.world_laws.proofs.Lanes.OfAWorld.{PathThere, WorldShows, anyhow, anyhow_free, duo_of, first_duo, free_run}
use Rattle.world_laws.proofs.Lanes.Saying.{every_one}
use Rattle.world_laws.proofs.Lanes.Showing.{EndShows, OwnIs}
use Rattle.world_laws.proofs.Numbers.EveryTurn.{always_tells}
use Rattle.world_laws.proofs.Numbers.PathSteps.{PathTells, tells_at}
use Rattle.world_laws.proofs.Numbers.TellSmall.{AnswerTells, PairTells, SegmentTells}
use Rattle.world_laws.proofs.Promises.Made.{run_fresh}
use Rattle.world_laws.proofs.Worlds.CastLifting.{each_actor, path_actor, writes_the_files}
use Rattle.world_laws.proofs.Worlds.Casts.{Walker, walking}
use Rattle.world_laws.specs.Actors.{Actor, ActorCrew}
use Rattle.world_laws.specs.Fresh.{shown_crew, shown_member}
use Rattle.world_laws.specs.Openings.{Start, PathPlan, path_begins, opened_world}
use Rattle.world_laws.specs.Promises.{HasRoom, NumbersFit}
use Rattle.world_laws.specs.Worlds.{WorldState, Turn, world_run, after_turn}
use Rattle.world_laws.specs.declared.member.Member.TheVariants.{App, Path}
use Rattle.subflow_tcp.specs.declared.segments.Outgoing.{Outgoing}
use Rattle.own_runs.proofs.Nonces.{always_has}
use Rattle.own_runs.proofs.Carrying.{PathCarries, always_carry}
use Rattle.own_runs.proofs.Placing.{EndStands, IsPlaced, Placed, PlacedIn, first_placed_sent}
use Rattle.own_runs.proofs.Syns.{always_stand}
use Rattle.own_runs.proofs.Speaking.{Says, Sends, ToSend, first_so}
use Rattle.own_runs.proofs.Own.{ValueIs, own_key}
use Rattle.own_runs.proofs.Values.{TellsKey, drawn, values_so}

-- ---- the infinite mapping of an end

own_tells : (v : View) (path : ℕ) (out : Lane) → LaneHolds v path out → LaneIsShort (length v.written) out → length v.written + 3 ≤ 2 ^ 31
    → (mapping : InfiniteMapping) → OwnIs out.pair out.pairs out.fins out.alters mapping → PairTells mapping
own_tells v path out holds lane short mapping is =
    let endless = (subst (λ o. IfSome o (λ m. IsEndless path v out.sent m × (m.place ≤ v.acked) × (v.owner ≡ Some path))) is.there holds.pairs.own).0 in
    let within = endless.within in let upto = endless.upto in let sent = lane.sent in
    record {
      place = let same = is.place_is in omega (arith, same, upto, short);
      position = ⊎_elim (λ at. omega (arith, at, within, sent, short))
          (λ has. let below = lane.fins.each has.at has.item has.there in let position = has.holds in omega (arith, below, position, short)) is.position_is;
    }

-- ---- a path at a moment

-- a segment of a side on a path: its options show what was drawn, its numbers fit their fields, and on a SYN it has the options of a SYN
pub record Spoken (start : Start) (path : ℕ) (c : Profile) (s : Side) (e : PathEnd) (sg : PlainSegment) : Type 0 where
  pub values : Every (λ o. ValueIs (drawn start) path s (said_option c.spelling s o)) sg.options
  pub tells : SegmentTells c s sg
  pub syn : sg.syn ≡ true → sg.options ≡ syn_options c s e
  pub placed : Placed (own_key (drawn start) (peer s)) sg

-- of MP_FASTCLOSE
tells_key : (key at n : ℕ) (o : PlainOption) → PlacedIn key at n o → TellsKey key o
tells_key key at n (FastClose told) is = is
tells_key key at n _ is = tt

says_so : (start : Start) (number : ℕ) (plan : PathPlan) → slice_get start.paths number ≡ Some plan → (w : Side → Type 0) (did : Deed → Side → Type 0)
    (c : Profile) (s : Side) (e : PathEnd) (sg : PlainSegment)
    → Says (with_nonces start.key_a start.key_b true plan.nonce_a plan.nonce_b) w did c s e sg → Placed (own_key (drawn start) (peer s)) sg → Spoken start number c s e sg
says_so start number plan there w did c s e sg says placed = record {
  values = values_so start number w did (is_joined c) s c.spelling sg.options
      (subst (λ (n : ℕ). SegmentIs (with_nonces start.key_a start.key_b true ((drawn start).nonce_a number) n) true w did c s sg)
      (sym (ap (λ (o : Option PathPlan). unwrap_or (option_map (λ plan. plan.nonce_b) o) 0) there))
      (subst (λ (n : ℕ). SegmentIs (with_nonces start.key_a start.key_b true n plan.nonce_b) true w did c s sg)
      (sym (ap (λ (o : Option PathPlan). unwrap_or (option_map (λ plan. plan.nonce_a) o) 0) there)) says.is))
      (record { each = λ i o at. tells_key (own_key (drawn start) (peer s)) sg.position (length sg.payload) o (placed.options.each i o at) });
  tells = says.tells;
  syn = says.syn;
  placed = placed;
}

-- what answers for a dead end is no SYN
unsynced : (o : Option Outgoing) → IfSome o AnswerTells → IfSome o (λ o. o.syn ≡ false)
unsynced None tells = tt
unsynced (Some o) tells = tells.syn

-- a join is told by a side that joined
abbrev pub JoinsBy : SixBooks → Side → PlainOption → Type 0
JoinsBy six s (Join form) = Joined six s
JoinsBy six s _ = Unit {0}

-- what its ends say next tells a join so, and what answers for a dead end is no SYN
pub record PathKnown (six : SixBooks) (p : PathState Carried) : Type 0 where
  pub joins : IfSome (first_sends p.agenda p) (λ t. Every (JoinsBy six t.from) (segment_sent p t).options)
  pub answers : (s : Side) → IfSome (end_at s p).treated.answer (λ o. o.syn ≡ false)

abbrev pub MemberKnown : SixBooks → Actor Carried → Type 0
MemberKnown six (App a) = Unit {0}
MemberKnown six (Path p) = PathKnown six p

abbrev pub CrewKnown : SixBooks → WorldState Carried → Type 0
CrewKnown six w = (i : ℕ) (c : ActorCrew Carried) → slice_get w.crew i ≡ Some c → MemberKnown six c.member

-- what it hands to its link next
abbrev pub PathSpeaks : {C : Type 0} → Start → PathState C → Type 0
PathSpeaks start p =
    (number : ℕ) × (plan : PathPlan) × (slice_get start.paths number ≡ Some plan) × (path_of p ≡ number) × (p.profile ≡ (path_begins start number plan).profile)
    × IfSome (first_sends p.agenda p) (λ t. Spoken start number p.profile t.from (end_at t.from p) (segment_sent p t))

abbrev pub MemberSpeaks : {C : Type 0} → Start → Actor C → Type 0
MemberSpeaks start (App a) = Unit {0}
MemberSpeaks start (Path p) = PathSpeaks start p

abbrev pub WorldSpeaks : {C : Type 0} → Start → WorldState C → Type 0
WorldSpeaks {C} start w = (i : ℕ) (c : ActorCrew C) → slice_get w.crew i ≡ Some c → MemberSpeaks start c.member

module _ (start : Start) (turns : List Turn) (size : HasRoom start) (fit : NumbersFit start) where
  abbrev v : WorldState Carried
  v = world_run values turns (opened_world start)

  shows : (d : Duo) × (WorldShows (anyhow start size).links start d v × Holds d)
  shows =
      let can = anyhow start size in let r = each_run_shows start can turns (free_run can.links (anyhow_free start size) turns (opened_world start)) in
      (after_events r.events (first_duo can.links start), (r.shows, any_held can.links.alters can.links.checked (length start.paths) start.buffer start.buffer r.events))

  abbrev h : WorldShows (anyhow start size).links start shows.0 v
  h = shows.1.0

  abbrev six : SixBooks
  six = books_in h.cast.books

  abbrev duo : Duo
  duo = duo_of (anyhow start size).links six h.lanes_ab h.lanes_ba h.reader_a h.reader_b

  holds : Holds duo
  holds = subst Holds h.duo_is shows.1.1

  file_length : (file written : List ℕ) → IsPrefix written file → length written ≤ length file
  file_length file written begins_so = let same = ap length begins_so.whole_is in omega (arith, same, length-append written begins_so.rest)

  written_a : length six.send_a.written ≤ length start.file_a
  written_a = subst (λ (w : WorldState Carried). length (books_in w.books).send_a.written ≤ length start.file_a) h.is (file_length start.file_a _ (writes_the_files values start turns).a.prefix)

  written_b : length six.send_b.written ≤ length start.file_b
  written_b = subst (λ (w : WorldState Carried). length (books_in w.books).send_b.written ≤ length start.file_b) h.is (file_length start.file_b _ (writes_the_files values start turns).b.prefix)

  met : WorldMet start.key_a start.key_b v
  met = run_met start.key_a start.key_b turns (opened_world start) (opened_met start)

  module _ (n : ℕ) (x : Walker Carried) (at : slice_get h.cast.paths n ≡ Some x) where
    abbrev p : PathState Carried
    p = x.path

    abbrev there : PathThere start h.lanes_ab h.lanes_ba n p
    there = h.paths.each n n x (omega arith) at

    abbrev plan : PathPlan
    plan = there.plan

    abbrev c : Profile
    c = (path_begins start n plan).profile

    here : slice_get v.crew (suc (suc n)) ≡ Some (walking x)
    here = subst (λ (w : WorldState Carried). slice_get w.crew (suc (suc n)) ≡ Some (walking x)) (sym h.is) (path_actor h.cast n x at)

    told : PathTells p.profile p
    told = subst (λ (d : Profile). PathTells d p) (sym there.shows.profile) ((always_tells start turns size fit).members (suc (suc n)) (walking x) here plan there.plan_there)

    nonces : (p.a.modes.own_nonce ≡ plan.nonce_a) × (p.b.modes.own_nonce ≡ plan.nonce_b)
    nonces = always_has start turns (suc (suc n)) (walking x) here plan there.plan_there

    knows : PathKnows start.key_a start.key_b true NoMore (books_in v.books) p
    knows = met.keys.crew.each (suc (suc n)) (walking x) here

    is : PathIs (with_nonces start.key_a start.key_b true plan.nonce_a plan.nonce_b) true (Joined (books_in v.books)) (Past (books_in v.books) NoMore) p
    is =
        let of_a : knows.nonce_a ≡ plan.nonce_a = sym knows.is.a.modes.nonce ∙ nonces.0 in
        let of_b : knows.nonce_b ≡ plan.nonce_b = sym knows.is.b.modes.nonce ∙ nonces.1 in
        subst (λ (m : ℕ). PathIs (with_nonces start.key_a start.key_b true plan.nonce_a m) true (Joined (books_in v.books)) (Past (books_in v.books) NoMore) p) of_b
        (subst (λ (m : ℕ). PathIs (with_nonces start.key_a start.key_b true m knows.nonce_b) true (Joined (books_in v.books)) (Past (books_in v.books) NoMore) p) of_a knows.is)

    pair_of : (s : Side) (out back : Lane) (view : View) → EndShows c s (end_at s p) out back → LaneHolds view n out → LaneIsShort (length view.written) out
        → length view.written + 3 ≤ 2 ^ 31 → IfSome (end_at s p).modes.own_infinite PairTells
    pair_of s out back view shown hold low short = (elim (end_at s p).modes.own_infinite as (λ o. IfSome o (OwnIs out.pair out.pairs out.fins out.alters) → IfSome o PairTells)
        [ None ↦ λ own. tt | Some mapping ↦ λ own. own_tells view n out hold low short mapping own ]) shown.pairs.0

    pair : (s : Side) → IfSome (end_at s p).modes.own_infinite PairTells
    pair A =
        pair_of A there.ab there.ba _ there.shows.a (holds.ab.lanes.each n n there.ab (omega arith) there.ab_there) ((paths_short _ duo.ab holds.ab).each n there.ab there.ab_there)
        (let short = fit.short_a in let most = written_a in omega (arith, short, most))
    pair B =
        pair_of B there.ba there.ab _ there.shows.b (holds.ba.lanes.each n n there.ba (omega arith) there.ba_there) ((paths_short _ duo.ba holds.ba).each n there.ba there.ba_there)
        (let short = fit.short_b in let most = written_b in omega (arith, short, most))

    few : p.profile.spelling.path ≤ 15
    few =
        let below = slice_get_within start.paths n plan there.plan_there in let most = fit.paths in
        subst (λ (d : Profile). d.spelling.path ≤ 15) (sym there.shows.profile) (omega (arith, below, most))

    wide : p.profile.mss < 2 ^ 16
    wide =
        subst (λ (d : Profile). d.mss < 2 ^ 16) (sym there.shows.profile)
        (let most = fit.size.each n plan there.plan_there in omega (arith, most))

    carry : PathCarries start.key_a start.key_b p
    carry = (always_carry start turns).crew (suc (suc n)) (walking x) here

    abbrev key : Side → ℕ
    key s = own_key (drawn start) (peer s)

    stand : (s : Side) → EndStands (key s) (end_at s p)
    stand A = ((always_stand start turns (suc (suc n)) (walking x) here).0, unsynced p.a.treated.answer (tells_at p.profile p told A).treated.answer, carry.0)
    stand B = ((always_stand start turns (suc (suc n)) (walking x) here).1, unsynced p.b.treated.answer (tells_at p.profile p told B).treated.answer, carry.1)

    next_says : IfSome (first_sends p.agenda p) (Sends (with_nonces start.key_a start.key_b true plan.nonce_a plan.nonce_b) (Joined (books_in v.books)) (Past (books_in v.books) NoMore) p is told few wide pair)
    next_says = first_so (with_nonces start.key_a start.key_b true plan.nonce_a plan.nonce_b) (Joined (books_in v.books)) (Past (books_in v.books) NoMore) p is told few wide pair knows.settled

    known_next : PathKnown (books_in v.books) p
    known_next = record { joins = by (first_sends p.agenda p) next_says; answers = λ s. (stand s).1 }
      where
        option : (s : Side) (o : PlainOption) → OptionIs (with_nonces start.key_a start.key_b true plan.nonce_a plan.nonce_b) true (Joined (books_in v.books)) (Past (books_in v.books) NoMore) (is_joined p.profile) s o
            → JoinsBy (books_in v.books) s o
        option s (Join form) own = own.1.0
        option s _ own = tt

        by : (o : Option ToSend) → IfSome o (Sends (with_nonces start.key_a start.key_b true plan.nonce_a plan.nonce_b) (Joined (books_in v.books)) (Past (books_in v.books) NoMore) p is told few wide pair)
            → IfSome o (λ t. Every (JoinsBy (books_in v.books) t.from) (segment_sent p t).options)
        by None s = tt
        by (Some t) s = record { each = λ i o at. option t.from o (s.is.each i o at) }

    speaks : PathSpeaks start p
    speaks = (n, plan, there.plan_there, there.numbered, there.shows.profile, by (first_sends p.agenda p) next_says (first_placed_sent key p stand p.agenda))
      where
        by : (o : Option ToSend) → IfSome o (Sends (with_nonces start.key_a start.key_b true plan.nonce_a plan.nonce_b) (Joined (books_in v.books)) (Past (books_in v.books) NoMore) p is told few wide pair)
            → IfSome o (IsPlaced key p stand) → IfSome o (λ t. Spoken start n p.profile t.from (end_at t.from p) (segment_sent p t))
        by None s placed = tt
        by (Some t) s placed =
            says_so start n plan there.plan_there (Joined (books_in v.books)) (Past (books_in v.books) NoMore) p.profile t.from (end_at t.from p) (segment_sent p t) s placed

  pub valued : WorldSpeaks start v
  valued =
      subst (WorldSpeaks start) (sym h.is)
      (each_actor (λ i c. MemberSpeaks start c.member) h.cast tt tt (λ n x at. speaks n x at))

  pub crew_known : CrewKnown (books_in v.books) v
  crew_known =
      subst (CrewKnown (books_in v.books)) (sym h.is)
      (each_actor (λ i c. MemberKnown (books_in v.books) c.member) h.cast tt tt (λ n x at. known_next n x at))

-- ---- over octets

heard_same : (s : Side) (o : Option Heard) (p : PathState Carried) → heard_sends s o (shown_path p) ≡ heard_sends s o p
heard_same A (Some (Heard.Mapping fin)) p = refl
heard_same B (Some (Heard.Mapping fin)) p = refl
heard_same s o p = refl

duty_same : (d : Duty) (p : PathState Carried) → duty_sends d (shown_path p) ≡ duty_sends d p
duty_same (Duty.Step (StepDuty.Data A)) p = refl
duty_same (Duty.Step (StepDuty.Data B)) p = refl
duty_same (Duty.Step (StepDuty.Heard A index)) p = heard_same A (item_of index p.a) p
duty_same (Duty.Step (StepDuty.Heard B index)) p = heard_same B (item_of index p.b) p
duty_same (Duty.Step (StepDuty.PlainAck A)) p = refl
duty_same (Duty.Step (StepDuty.PlainAck B)) p = refl
duty_same (Duty.Step (StepDuty.Unmapped A)) p = refl
duty_same (Duty.Step (StepDuty.Unmapped B)) p = refl
duty_same d p = refl

pub first_same : (ds : List Duty) (p : PathState Carried) → first_sends ds (shown_path p) ≡ first_sends ds p
first_same [] p = refl
first_same (d ∷ ds) p = duty_same d p

pub end_shown : (s : Side) (p : PathState Carried) → end_at s p ≡ end_at s (shown_path p)
end_shown A p = refl
end_shown B p = refl

pub path_shown : (start : Start) (p : PathState Carried) → PathSpeaks start p → PathSpeaks start (shown_path p)
path_shown start p s = (s.0, s.1, s.2, s.3, s.4, subst (λ (o : Option ToSend). IfSome o Shown) (sym (first_same p.agenda p)) (by (first_sends p.agenda p) s.5))
  where
    Shown : ToSend → Type 0
    Shown = λ t. Spoken start s.0 p.profile t.from (end_at t.from (shown_path p)) (segment_sent (shown_path p) t)

    by : (o : Option ToSend) → IfSome o (λ t. Spoken start s.0 p.profile t.from (end_at t.from p) (segment_sent p t)) → IfSome o Shown
    by None said = tt
    by (Some t) said = subst (λ (e : PathEnd). Spoken start s.0 p.profile t.from e (said_by t.kind p.profile t.from e)) (end_shown t.from p) said

member_shown : (start : Start) (m : Actor Carried) → MemberSpeaks start m → MemberSpeaks start (shown_member m)
member_shown start (App a) s = tt
member_shown start (Path p) s = path_shown start p s

pub world_speaks : (start : Start) (turns : List Turn) → HasRoom start → NumbersFit start → WorldSpeaks start (world_run octets turns (opened_world start))
world_speaks start turns size fit =
    subst (WorldSpeaks start) (sym (run_fresh start turns size fit))
    (λ i c at.
    let found = in_map shown_crew (world_run values turns (opened_world start)).crew i c at in
    subst (λ (y : ActorCrew (List ℕ)). MemberSpeaks start y.member) found.2 (member_shown start found.0.member (valued start turns size fit i found.0 found.1)))

-- ---- the segments of a trace

module _ (Q : ℕ → Side → PlainSegment → Type 0) where
  -- what else holds of what is sent next
  abbrev pub PathAlso : {C : Type 0} → PathState C → Type 0
  PathAlso p = IfSome (first_sends p.agenda p) (λ t. Q (path_of p) t.from (segment_sent p t))

  abbrev pub MemberAlso : {C : Type 0} → Actor C → Type 0
  MemberAlso (App a) = Unit {0}
  MemberAlso (Path p) = PathAlso p

  abbrev pub WorldAlso : {C : Type 0} → WorldState C → Type 0
  WorldAlso {C} w = (i : ℕ) (c : ActorCrew C) → slice_get w.crew i ≡ Some c → MemberAlso c.member

  -- Its path is one of the connection's, and its octets are those of a segment that shows what was drawn for it.
  pub record IsSpoken (start : Start) (x : Sent) : Type 0 where
    pub plan : PathPlan
    pub there : slice_get start.paths x.path ≡ Some plan
    pub segment : PlainSegment
    pub end : PathEnd
    pub octets : x.octets ≡ made (path_begins start x.path plan).profile.spelling x.from segment
    pub spoken : Spoken start x.path (path_begins start x.path plan).profile x.from end segment
    pub also : Q x.path x.from segment

  module _ (start : Start) where
    pub path_sends : (p : PathState (List ℕ)) → PathSpeaks start p → PathAlso p → IfSome (sent_by p) (IsSpoken start)
    path_sends p s also = by (first_sends p.agenda p) s.5 also
      where
        there : slice_get start.paths (path_of p) ≡ Some s.1
        there = ap (slice_get start.paths) s.3 ∙ s.2

        is : p.profile ≡ (path_begins start (path_of p) s.1).profile
        is = s.4 ∙ ap (λ (n : ℕ). (path_begins start n s.1).profile) (sym s.3)

        one : (t : ToSend) → Spoken start s.0 p.profile t.from (end_at t.from p) (segment_sent p t) → Q (path_of p) t.from (segment_sent p t)
            → IsSpoken start (sent_as p (departing_as p t))
        one t said more = record {
          plan = s.1;
          there = there;
          segment = segment_sent p t;
          end = end_at t.from p;
          octets = ap (λ (d : Profile). made d.spelling t.from (segment_sent p t)) is;
          spoken = subst (λ (d : Profile). Spoken start (path_of p) d t.from (end_at t.from p) (segment_sent p t)) is
              (subst (λ (n : ℕ). Spoken start n p.profile t.from (end_at t.from p) (segment_sent p t)) (sym s.3) said);
          also = more;
        }

        by : (o : Option ToSend) → IfSome o (λ t. Spoken start s.0 p.profile t.from (end_at t.from p) (segment_sent p t)) → IfSome o (λ t. Q (path_of p) t.from (segment_sent p t))
            → IfSome (option_map (sent_as p) (option_map (departing_as p) o)) (IsSpoken start)
        by None said more = tt
        by (Some t) said more = one t said more

    next_spoken : (i : ℕ) (w : WorldState (List ℕ)) → WorldSpeaks start w → WorldAlso w → IfSome (sent_next i w) (IsSpoken start)
    next_spoken i w s also = by (slice_get w.crew i) refl
      where
        member : (m : Actor (List ℕ)) → MemberSpeaks start m → MemberAlso m → IfSome (option_and_then sent_by (member_path m)) (IsSpoken start)
        member (App a) said more = tt
        member (Path p) said more = path_sends p said more

        by : (o : Option (ActorCrew (List ℕ))) → slice_get w.crew i ≡ o → IfSome (option_and_then sent_by (crew_path o)) (IsSpoken start)
        by None at = tt
        by (Some c) at = member c.member (s i c at) (also i c at)

    some_spoken : (o : Option Sent) → IfSome o (IsSpoken start) → Every (IsSpoken start) (option_to_list o)
    some_spoken None said = Every-nil (IsSpoken start)
    some_spoken (Some x) said = every_one x said

    pub turn_spoken : (turn : Turn) (w : WorldState (List ℕ)) → WorldSpeaks start w → WorldAlso w → Every (IsSpoken start) (sent_at turn w)
    turn_spoken (Turn.Step i) w s also = some_spoken (sent_next i w) (next_spoken i w s also)
    turn_spoken Turn.Round w s also = Every-nil (IsSpoken start)

    run_spoken : (turns : List Turn) (w : WorldState (List ℕ)) → ((more : List Turn) → WorldSpeaks start (world_run octets more w))
        → ((more later : List Turn) → more ++ later ≡ turns → WorldAlso (world_run octets more w)) → Every (IsSpoken start) (trace_of turns w)
    run_spoken [] w s also = Every-nil (IsSpoken start)
    run_spoken (turn ∷ turns) w s also =
        Every-append (turn_spoken turn w (s []) (also [] (turn ∷ turns) refl))
        (run_spoken turns (after_turn octets turn w) (λ more. s (turn ∷ more)) (λ more later is. also (turn ∷ more) later (ap (λ (ts : List Turn). turn ∷ ts) is)))

    pub trace_spoken : (turns : List Turn) → HasRoom start → NumbersFit start
        → ((more later : List Turn) → more ++ later ≡ turns → WorldAlso (world_run octets more (opened_world start))) → Every (IsSpoken start) (trace_of turns (opened_world start))
    trace_spoken turns size fit also = run_spoken turns (opened_world start) (λ more. world_speaks start more size fit) also

-- nothing else
abbrev pub Nothing : ℕ → Side → PlainSegment → Type 0
Nothing path s sg = Unit {0}

pub also_nothing : (w : WorldState (List ℕ)) → WorldAlso Nothing w
also_nothing w i c at = by c.member
  where
    sends : (o : Option ToSend) → IfSome o (λ t. Unit {0})
    sends None = tt
    sends (Some t) = tt

    by : (m : Actor (List ℕ)) → MemberAlso Nothing m
    by (App a) = tt
    by (Path p) = sends (first_sends p.agenda p)
