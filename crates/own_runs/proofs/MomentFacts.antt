-- What each path is at every moment, over links that alter no payload, for who reads what it sends.
use Rattle.std.proofs.Common.{◌≡◌, refl, sym, ◌∙◌, ap, subst, ℕ, zero, suc, ◌%◌, ◌==◌, ◌&&◌, ◌||◌, ◌^◌, ◌<◌, ◌≤◌, ◌⊎◌, inl, inr, ⊎_elim, Bool, true, false, not, Ok, Err, Option, Some, None, option_map, option_and_then, List, [], ◌∷◌, length, length-append, arith}
use Rattle.std.specs.List.{slice_get}
use Rattle.std.specs.Option.{IfSome, option_to_list}
use Rattle.std.proofs.lemmas.Bool.{and_parts, both_ways, false≢true}
use Rattle.std.proofs.lemmas.Option.{same_Some, slice_get_within}
use Rattle.sides.specs.declared.side.Side.{Side}
use Rattle.sides.specs.declared.side.Side.TheVariants.{A, B}
use Rattle.octet_text.specs.Prefix.{IsPrefix}
use Rattle.key_material.specs.KeyDigest.{idsn_of}
use Rattle.path_segments.specs.Spelling.{numbers_of}
use Rattle.subflow_send.specs.declared.record.RecordKind.{RecordKind}
use Rattle.subflow_send.specs.declared.record.RecordKind.TheVariants.{Syn, Data, Fin}
use Rattle.subflow_send.specs.Records.{Record}
use Rattle.subflow_send.specs.Rules.{is_unsent}
use Rattle.stream_lanes.specs.Duo.{Duo, after_events, flags_ab, flags_ba}
use Rattle.stream_lanes.specs.Holding.{Holds, LaneHolds}
use Rattle.stream_lanes.specs.Lane.{Lane}
use Rattle.stream_lanes.specs.View.{View, view_of}
use Rattle.stream_lanes.specs.Words.{Every}
use Rattle.stream_lanes.proofs.Duos.{any_held, fallen_ab}
use Rattle.stream_lanes.proofs.Lists.{Every-append, Every-nil, in_map}
use Rattle.actor_desk.specs.Books.{books_in}
use Rattle.actor_desk.specs.Desk.{SixBooks}
use Rattle.actor_desk.specs.Words.{pick}
use Rattle.link_trace.specs.declared.carried.Base.{Base}
use Rattle.link_trace.specs.declared.carried.PathInitials.{PathInitials}
use Rattle.link_trace.specs.declared.sent.Sent.{Sent}
use Rattle.link_trace.specs.Carrying.{carried_in, carried_of, initial_at, initial_in, shifts_after}
use Rattle.link_trace.specs.FirstOctets.{EndsBy}
use Rattle.link_trace.specs.Meanings.{meaning_in}
use Rattle.path_core.specs.declared.looking.Departing.{Departing}
use Rattle.path_agenda.specs.declared.duty.Duty.{Duty}
use Rattle.path_core.specs.Emission.{first_unsent}
use Rattle.path_core.specs.End.{PathEnd}
use Rattle.path_core.specs.Looking.{departing, departing_as, first_sends}
use Rattle.path_core.specs.Octets.{made, octets}
use Rattle.path_core.specs.DssOut.{place_numbered}
use Rattle.path_core.specs.OptionsOut.{record_or_ack, record_said}
use Rattle.path_core.specs.Shown.{shown_path}
use Rattle.path_core.specs.State.{PathState, end_at, path_of}
use Rattle.path_core.specs.Profile.{Profile}
use Rattle.path_core.specs.Values.{Carried, values}
use Rattle.path_core.specs.Choices.{is_side_a}
use Rattle.run_trace.specs.Initials.{initials_of, plan_initials}
use Rattle.run_trace.specs.Trace.{sent_as, sent_at, sent_by, sent_next, trace_of}
use Rattle.world_core.specs.Looking.{crew_path, member_path}
use Rattle.world_laws.specs.declared.member.Member.TheVariants.{App, Path}
use Rattle.world_laws.specs.Actors.{Actor, ActorCrew}
use Rattle.world_laws.specs.Fresh.{shown_crew, shown_member}
use Rattle.world_laws.specs.Openings.{PathPlan, Start, opened_world, path_begins}
use Rattle.world_laws.specs.Promises.{IsPlain, NumbersFit}
use Rattle.world_laws.specs.Worlds.{Turn, WorldState, after_turn, world_run}
use Rattle.world_laws.proofs.Lanes.Beginning.{each_run_shows}
use Rattle.world_laws.proofs.Worlds.CastLifting.{each_actor, path_actor, writes_the_files}
use Rattle.world_laws.proofs.Worlds.Casts.{Walker, walking}
use Rattle.world_laws.proofs.Lanes.Doing.{place_is}
use Rattle.world_laws.proofs.Lanes.OfAWorld.{IsSteady, PathIsSteady, PathThere, StandsSo, WorldShows, duo_of, first_duo, free_run, plainly, plainly_free}
use Rattle.world_laws.proofs.Promises.Made.{run_fresh}
use Rattle.world_laws.proofs.Lanes.Records.{every_find}
use Rattle.world_laws.proofs.Lanes.Saying.{every_one}
use Rattle.world_laws.proofs.Lanes.Showing.{EndShows, KindShows, OwnIs}
use Rattle.world_laws.proofs.Worlds.Steady.{always_steady}
use Rattle.world_laws.proofs.Numbers.TellSmall.{EndTells, RecordKindTells, RecordTells}
use Rattle.world_laws.proofs.Numbers.PathSteps.{PathTells}
use Rattle.world_laws.proofs.Numbers.EveryTurn.{WorldTells, always_tells}
use Rattle.own_runs.specs.Counting.{base_from}
use Rattle.own_runs.proofs.Handing.{SendsNext}
use Rattle.own_runs.proofs.PayloadsPlaced.{DataFacts, EndFacts, RecordFacts, Sends, alone_at, by_duty, payload_placed, sent_ends, some_sent, written_within}
use Rattle.own_runs.proofs.ReadingBack.{Placed}

-- ---- an end, by what it shows on its lanes

module _ (start : Start) (c : Profile) (n : ℕ) (s : Side) (e : PathEnd) (out back : Lane) (v : View) (shows : EndShows c s e out back) (holds : LaneHolds v n out) (tells : EndTells c s e)
    (written : length v.written ≤ length (pick s start.file_a start.file_b)) (unaltered : out.alters ≡ false) (plain : e.modes.identity ≡ true → (n ≡ 0) × (v.alone ≡ true))
    (unclear : is_side_a s ≡ true → e.modes.clear ≡ false → (out.sent ≡ []) ⊎ ((n ≡ 0) × (v.alone ≡ true))) where
  -- no check of the peer's fails, so that it goes by no infinite mapping
  own_none : e.modes.own_infinite ≡ None
  own_none = (elim e.modes.own_infinite as (λ o. IfSome o (OwnIs out.pair out.pairs out.fins out.alters) → o ≡ None)
      [ None ↦ λ own. refl | Some mapping ↦ λ own. absurd (both_ways out.alters unaltered own.may) ]) shows.pairs.0

  record_facts : (r : Record) (kind : RecordKind) → r.kind ≡ kind → KindShows c s out.alters out.sent out.datas out.fins kind r → RecordTells c s r → RecordKindTells c s kind r → RecordFacts start c n s e r
  record_facts r Syn is shown told kept = inl shown
  record_facts r Fin is shown told kept = inl shown.0
  record_facts r Data is shown told kept =
      let place = place_numbered c s r.mapping.number in
      let at : v.alone ≡ true → suc place ≡ r.pos = alone_at v n place r.pos r.mapping.length out holds shown.mapping in
      inr (record {
        kind = is;
        tells = told;
        some = kept.0;
        same = kept.4;
        small = kept.3;
        within = let ends = written_within v n place r.pos r.mapping.length out holds shown.mapping kept.0 in let same = kept.4 in omega (arith, ends, same, written);
        plain = λ identity. let stands = plain identity in (stands.0, at stands.1);
        first = λ first.
            let parts = and_parts (is_side_a s) (not e.modes.clear && (r.pos == 1)) first in let more = and_parts (not e.modes.clear) (r.pos == 1) parts.1 in
            ⊎_elim (λ none. absurd (some_sent v n place r.pos r.mapping.length out holds shown.mapping none)) (λ stands. (stands.0, at stands.1)) (unclear parts.0 (not_true e.modes.clear more.0));
      })
    where
      not_true : (b : Bool) → not b ≡ true → b ≡ false
      not_true = elim [ true ↦ λ is. cc | false ↦ λ is. refl ]

  each_record : Every (RecordFacts start c n s e) e.tcp.send.records
  each_record = record { each = λ i r at. let told = tells.sender.records.each i r at in record_facts r r.kind refl (shows.sender.pieces.each i r at) told told.mapped }

or_swap : (a b : Bool) → (b || a) ≡ true → (a || b) ≡ true
or_swap true b is = refl
or_swap false true is = refl
or_swap false false is = is

-- ---- the numbers of a plan

initials_there : (plans : List PathPlan) (n : ℕ) (plan : PathPlan) → slice_get plans n ≡ Some plan → slice_get (initials_of plans) n ≡ Some (plan_initials plan)
initials_there [] n plan there = cc
initials_there (first ∷ plans) zero plan there = ap (λ (p : PathPlan). Some (plan_initials p)) (same_Some first plan there)
initials_there (first ∷ plans) (suc n) plan there = initials_there plans n plan there

module _ (start : Start) (n : ℕ) (plan : PathPlan) (there : slice_get start.paths n ≡ Some plan) (fit : NumbersFit start) where
  abbrev planned : Profile
  planned = (path_begins start n plan).profile

  keyed_at : (s : Side) → (numbers_of planned.spelling s).idsn.0 ≡ idsn_of (pick s start.key_a start.key_b)
  keyed_at = elim [ A ↦ refl | B ↦ refl ]

  initial_is : (s : Side) → initial_in (initials_of start.paths) n s ≡ (numbers_of planned.spelling s).initial.0 % 2 ^ 32
  initial_is A = ap (λ (o : Option PathInitials). initial_at o A) (initials_there start.paths n plan there)
  initial_is B = ap (λ (o : Option PathInitials). initial_at o B) (initials_there start.paths n plan there)

  end_facts : (s : Side) (e : PathEnd) → Every (RecordFacts start planned n s e) e.tcp.send.records → e.modes.own_infinite ≡ None → EndTells planned s e → EndFacts start planned n s e
  end_facts s e records none tells = record {
    records = records;
    infinite = none;
    tells = tells;
    path = refl;
    within = slice_get_within start.paths n plan there;
    few = let below = slice_get_within start.paths n plan there in let most = fit.paths in omega (arith, below, most);
    mss = let most = fit.size.each n plan there in omega (arith, most);
    checksums = refl;
    keyed = keyed_at s;
    initial = initial_is s;
  }

-- ---- a path at a moment

pub record PathFacts {C : Type 0} (start : Start) (p : PathState C) : Type 0 where
  pub number : ℕ
  pub numbered : path_of p ≡ number
  pub ends : (s : Side) → EndFacts start p.profile number s (end_at s p)

abbrev pub MemberFacts : {C : Type 0} → Start → Actor C → Type 0
MemberFacts start (App a) = Unit {0}
MemberFacts start (Path p) = PathFacts start p

abbrev pub MomentFacts : {C : Type 0} → Start → WorldState C → Type 0
MomentFacts {C} start w = (i : ℕ) (c : ActorCrew C) → slice_get w.crew i ≡ Some c → MemberFacts start c.member

module _ (start : Start) (turns : List Turn) (plain : IsPlain start) (fit : NumbersFit start) where
  abbrev v : WorldState Carried
  v = world_run values turns (opened_world start)

  shows : (d : Duo) × (WorldShows (plainly start plain).links start d v × Holds d)
  shows =
      let can = plainly start plain in let r = each_run_shows start can turns (free_run can.links (plainly_free start plain) turns (opened_world start)) in
      (after_events r.events (first_duo can.links start), (r.shows, any_held can.links.alters can.links.checked (length start.paths) start.buffer start.buffer r.events))

  abbrev h : WorldShows (plainly start plain).links start shows.0 v
  h = shows.1.0

  abbrev six : SixBooks
  six = books_in h.cast.books

  abbrev duo : Duo
  duo = duo_of (plainly start plain).links six h.lanes_ab h.lanes_ba h.reader_a h.reader_b

  holds : Holds duo
  holds = subst Holds h.duo_is shows.1.1

  file_length : (file written : List ℕ) → IsPrefix written file → length written ≤ length file
  file_length file written begins_so = let same = ap length begins_so.whole_is in omega (arith, same, length-append written begins_so.rest)

  written_a : length six.send_a.written ≤ length start.file_a
  written_a = subst (λ (w : WorldState Carried). length (books_in w.books).send_a.written ≤ length start.file_a) h.is (file_length start.file_a _ (writes_the_files values start turns).a.prefix)

  written_b : length six.send_b.written ≤ length start.file_b
  written_b = subst (λ (w : WorldState Carried). length (books_in w.books).send_b.written ≤ length start.file_b) h.is (file_length start.file_b _ (writes_the_files values start turns).b.prefix)

  module _ (n : ℕ) (x : Walker Carried) (at : slice_get h.cast.paths n ≡ Some x) where
    abbrev p : PathState Carried
    p = x.path

    abbrev there : PathThere start h.lanes_ab h.lanes_ba n p
    there = h.paths.each n n x (omega arith) at

    abbrev c : Profile
    c = (path_begins start n there.plan).profile

    told : PathTells c p
    told = (subst (WorldTells start) h.is (always_tells start turns plain.size fit)).members (suc (suc n)) (walking x) (path_actor h.cast n x at) there.plan there.plan_there

    steady : PathIsSteady six n p
    steady = (subst IsSteady h.is (always_steady start turns)).each n (walking x) (path_actor h.cast n x at)

    -- an end in plain TCP is one of path 0
    first_path : (s : Side) → (end_at s p).modes.identity ≡ true → n ≡ 0
    first_path s identity = (elim n as (λ k. n ≡ k → n ≡ 0)
        [ zero ↦ λ is. is | suc k ↦ λ is. absurd (both_ways (end_at s p).modes.identity (steady.mode k is s) identity) ]) refl

    holds_ab : LaneHolds (view_of (flags_ab duo.modes) duo.ab.send duo.ab.arrived) n there.ab
    holds_ab = holds.ab.lanes.each n n there.ab (omega arith) there.ab_there

    holds_ba : LaneHolds (view_of (flags_ba duo.modes) duo.ba.send duo.ba.arrived) n there.ba
    holds_ba = holds.ba.lanes.each n n there.ba (omega arith) there.ba_there

    -- as long as A may send no DSS, a path that joins was granted nothing, and no join was answered
    unclear_a : p.a.modes.clear ≡ false → (there.ab.sent ≡ []) ⊎ ((n ≡ 0) × (not six.control_b.fall.joined ≡ true))
    unclear_a unclear = (elim n as (λ k. n ≡ k → StandsSo k p there.ab there.ba → (there.ab.sent ≡ []) ⊎ ((n ≡ 0) × (not six.control_b.fall.joined ≡ true)))
        [ zero ↦ λ is stands. inr (is, alone six.control_b.fall.joined refl is) | suc k ↦ λ is stands. inl (stands unclear) ]) refl there.stands
      where
        alone : (b : Bool) → six.control_b.fall.joined ≡ b → n ≡ 0 → not b ≡ true
        alone true is first = absurd (both_ways p.a.modes.clear unclear (steady.clear first is))
        alone false is first = refl

    facts_a : EndFacts start c n A p.a
    facts_a =
        let alters = holds_ab.link.alters_is in
        let plainly_so : p.a.modes.identity ≡ true → (n ≡ 0) × (not six.control_b.fall.joined ≡ true) =
        λ identity. (first_path A identity, fallen_ab _ holds.modes (holds_ab.modes.sender (there.shows.a.sender.plain ∙ identity))) in
        end_facts start n there.plan there.plan_there fit A p.a
        (each_record start c n A p.a there.ab there.ba _ there.shows.a holds_ab told.a written_a alters plainly_so (λ own unclear. unclear_a unclear))
        (own_none start c n A p.a there.ab there.ba _ there.shows.a holds_ab told.a written_a alters plainly_so (λ own unclear. unclear_a unclear))
        told.a

    facts_b : EndFacts start c n B p.b
    facts_b =
        let alters = holds_ba.link.alters_is in
        let plainly_so : p.b.modes.identity ≡ true → (n ≡ 0) × (not six.control_b.fall.joined ≡ true) =
        λ identity. (first_path B identity, fallen_ab _ holds.modes (or_swap duo.modes.plain_a duo.modes.plain_b (holds_ba.modes.sender (there.shows.b.sender.plain ∙ identity)))) in
        end_facts start n there.plan there.plan_there fit B p.b
        (each_record start c n B p.b there.ba there.ab _ there.shows.b holds_ba told.b written_b alters plainly_so (λ own unclear. absurd (false≢true own)))
        (own_none start c n B p.b there.ba there.ab _ there.shows.b holds_ba told.b written_b alters plainly_so (λ own unclear. absurd (false≢true own)))
        told.b

    facts_at : (s : Side) → EndFacts start c n s (end_at s p)
    facts_at = elim [ A ↦ facts_a | B ↦ facts_b ]

    path_facts : PathFacts start p
    path_facts = record { number = n; numbered = there.numbered; ends = λ s. subst (λ (d : Profile). EndFacts start d n s (end_at s p)) (sym there.shows.profile) (facts_at s) }

  valued_facts : MomentFacts start v
  valued_facts =
      subst (MomentFacts start) (sym h.is)
      (each_actor (λ i c. MemberFacts start c.member) h.cast tt tt (λ n x at. path_facts n x at))

-- ---- over octets

end_shown : (s : Side) (p : PathState Carried) → end_at s p ≡ end_at s (shown_path p)
end_shown = elim [ A ↦ λ p. refl | B ↦ λ p. refl ]

member_shown : (start : Start) (m : Actor Carried) → MemberFacts start m → MemberFacts start (shown_member m)
member_shown start (App a) facts = tt
member_shown start (Path p) facts = record {
  number = facts.number;
  numbered = facts.numbered;
  ends = λ s. subst (EndFacts start p.profile facts.number s) (end_shown s p) (facts.ends s);
}

pub moment_facts : (start : Start) (turns : List Turn) → IsPlain start → NumbersFit start → MomentFacts start (world_run octets turns (opened_world start))
moment_facts start turns plain fit =
    subst (MomentFacts start) (sym (run_fresh start turns plain.size fit))
    (λ i c at.
    let found = in_map shown_crew (world_run values turns (opened_world start)).crew i c at in
    subst (λ (y : ActorCrew (List ℕ)). MemberFacts start y.member) found.2 (member_shown start found.0.member (valued_facts start turns plain fit i found.0 found.1)))

-- ---- what a path sends

-- whose side it is, and which path
pub carried_from : (base : Base) (initials : List PathInitials) (x : Sent) → (carried_of base initials [] x).from ≡ x.from
carried_from base initials x = elim (meaning_in x) as (λ o. (carried_in base x (initial_in initials x.path x.from) [] o).from ≡ x.from)
    [ Err fault ↦ refl | Ok segment ↦ refl ]

-- a segment is on one of the paths, its payload ends within its side's file, and it tells no infinite mapping that says anything new
pub record GoodSent (start : Start) (x : Sent) : Type 0 where
  pub path : (carried_of (base_from start) (initials_of start.paths) [] x).path < length start.paths
  pub ends : ((carried_of (base_from start) (initials_of start.paths) [] x).len ≡ 0)
      ⊎ EndsBy (length (pick x.from start.file_a start.file_b)) (carried_of (base_from start) (initials_of start.paths) [] x)
  pub steady : shifts_after (base_from start) x [] ≡ []

path_sends : (start : Start) (p : PathState (List ℕ)) → PathFacts start p → IfSome (sent_by p) (GoodSent start)
path_sends start p facts = by (departing p) (first_sent p.agenda)
  where
    first_sent : (todo : List Duty) → IfSome (option_map (departing_as p) (first_sends todo p)) (Sends start p facts.number facts.ends facts.numbered)
    first_sent [] = tt
    first_sent (d ∷ ds) = by_duty start p facts.number facts.ends facts.numbered d

    by : (o : Option Departing) → IfSome o (Sends start p facts.number facts.ends facts.numbered) → IfSome (option_map (sent_as p) o) (GoodSent start)
    by None sends = tt
    by (Some d) sends =
        let ends = sent_ends start p facts.number facts.ends facts.numbered (sent_as p d) refl sends.0 sends.1.0 sends.1.1 in record { path = ends.0; ends = ends.1; steady = ends.2 }

next_good : (start : Start) (i : ℕ) (w : WorldState (List ℕ)) → MomentFacts start w → IfSome (sent_next i w) (GoodSent start)
next_good start i w facts = (elim (slice_get w.crew i) as (λ o. slice_get w.crew i ≡ o → IfSome (option_and_then sent_by (crew_path o)) (GoodSent start))
    [ None ↦ λ at. tt | Some c ↦ λ at. member c.member (facts i c at) ]) refl
  where
    member : (m : Actor (List ℕ)) → MemberFacts start m → IfSome (option_and_then sent_by (member_path m)) (GoodSent start)
    member = elim [ App a ↦ λ facts. tt | Path p ↦ λ facts. path_sends start p facts ]

some_good : (start : Start) (o : Option Sent) → IfSome o (GoodSent start) → Every (GoodSent start) (option_to_list o)
some_good start None good = Every-nil (GoodSent start)
some_good start (Some x) good = every_one x good

turn_good : (start : Start) (turn : Turn) (w : WorldState (List ℕ)) → MomentFacts start w → Every (GoodSent start) (sent_at turn w)
turn_good start (Turn.Step i) w facts = some_good start (sent_next i w) (next_good start i w facts)
turn_good start Turn.Round w facts = Every-nil (GoodSent start)

pub trace_good : (start : Start) (turns : List Turn) (w : WorldState (List ℕ)) → ((more : List Turn) → MomentFacts start (world_run octets more w)) → Every (GoodSent start) (trace_of turns w)
trace_good start [] w facts = Every-nil (GoodSent start)
trace_good start (turn ∷ turns) w facts =
    Every-append (turn_good start turn w (facts [])) (trace_good start turns (after_turn octets turn w) (λ more. facts (turn ∷ more)))

-- ---- what was granted last

-- the first unsent record, where it is sent next, tells its place
pub unsent_placed : (start : Start) (s : Side) (from : ℕ) (piece : List ℕ) (p : PathState (List ℕ)) → (n : SendsNext s from piece p) → PathFacts start p → from < 2 ^ 64 → 1 ≤ length piece
    → Placed (base_from start) (initials_of start.paths) n.sent from (length piece)
unsent_placed start s from piece p n facts small some =
    ⊎_elim (λ none. absurd (let same = ap length none in let is = ap length n.piece_is in omega (arith, same, is, some))) placed
    (subst (λ (o : Option Record). IfSome o (RecordFacts start p.profile facts.number s (end_at s p))) n.unsent (every_find is_unsent (end_at s p).tcp.send.records (facts.ends s).records))
  where
    goes : (x : Sent) × ((sent_by p ≡ Some x) × ((x.from ≡ s) × ((x.path ≡ path_of p) × (x.octets ≡ made p.profile.spelling s (record_or_ack p.profile s (first_unsent (end_at s p)) (end_at s p))))))
    goes = (_, (ap (λ o. option_map (sent_as p) (option_map (departing_as p) o)) n.sends, (refl, (refl, refl))))

    same : goes.0 ≡ n.sent
    same = same_Some goes.0 n.sent (sym goes.1.0 ∙ n.is)

    from_is : n.sent.from ≡ s
    from_is = n.from

    path_is : n.sent.path ≡ path_of p
    path_is = subst (λ (x : Sent). x.path ≡ path_of p) same goes.1.1.1.0

    octets_are : n.sent.octets ≡ made p.profile.spelling s (record_or_ack p.profile s (first_unsent (end_at s p)) (end_at s p))
    octets_are = subst (λ (x : Sent). x.octets ≡ made p.profile.spelling s (record_or_ack p.profile s (first_unsent (end_at s p)) (end_at s p))) same goes.1.1.1.1

    place : place_numbered p.profile s n.source.mapping.number ≡ from
    place = ap (place_numbered p.profile s) n.number ∙ place_is p.profile s from 0 0 small

    is : record_or_ack p.profile s (first_unsent (end_at s p)) (end_at s p) ≡ record_said p.profile s n.source (end_at s p)
    is = ap (λ (o : Option Record). record_or_ack p.profile s o (end_at s p)) n.unsent

    at_side : (r : Side) → n.sent.from ≡ r → n.sent.octets ≡ made p.profile.spelling r (record_said p.profile r n.source (end_at r p)) → DataFacts start p.profile facts.number r (end_at r p) n.source
        → Placed (base_from start) (initials_of start.paths) n.sent (place_numbered p.profile r n.source.mapping.number) (length n.source.piece)
    at_side r from_r octets f =
        subst (λ (q : Side). n.sent.octets ≡ made p.profile.spelling q (record_said p.profile q n.source (end_at q p)) → DataFacts start p.profile facts.number q (end_at q p) n.source
        → Placed (base_from start) (initials_of start.paths) n.sent (place_numbered p.profile q n.source.mapping.number) (length n.source.piece)) from_r
        (λ o g. payload_placed start p facts.number n.sent (facts.ends n.sent.from) facts.numbered path_is n.source g o) octets f

    placed : DataFacts start p.profile facts.number s (end_at s p) n.source → Placed (base_from start) (initials_of start.paths) n.sent from (length piece)
    placed f =
        let read = at_side s from_is (octets_are ∙ ap (made p.profile.spelling s) is) f in
        subst (λ (k : ℕ). Placed (base_from start) (initials_of start.paths) n.sent k (length piece)) place
        (subst (λ (k : ℕ). Placed (base_from start) (initials_of start.paths) n.sent (place_numbered p.profile s n.source.mapping.number) k) (ap length n.piece_is) read)
