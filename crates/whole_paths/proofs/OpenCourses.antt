-- Between two moments at which path 0 is whole its ends are open, by each turn between them.
use Rattle.std.proofs.Common.{◌≡◌, refl, sym, subst, ap, ◌∙◌, ℕ, ◌+◌, ◌-◌, ◌^◌, ◌<◌, ◌≤◌, arith, nat_lt, true, false, true≢false, Option, Some, None, List, [], ◌∷◌, ◌++◌}
use Rattle.std.specs.Prelude.{IfSome}
use Rattle.std.specs.List.{slice_get}
use Rattle.std.proofs.lemmas.Option.{same_Some}
use Rattle.sides.specs.declared.side.Side.{Side}
use Rattle.sides.specs.declared.side.Side.TheVariants.{A, B}
use Rattle.sides.specs.Side.{peer}
use Rattle.link_model.specs.State.{LinkState}
use Rattle.link_model.specs.Steps.{after_send, segments_sent}
use Rattle.stream_lanes.specs.Duo.{Duo, after_events}
use Rattle.stream_lanes.specs.Lane.{Lane}
use Rattle.stream_lanes.specs.Words.{Every}
use Rattle.subflow_send.specs.Records.{Record}
use Rattle.subflow_send.specs.declared.record.RecordKind.TheVariants.{Fin, Syn}
use Rattle.subflow_tcp.specs.declared.handshake.State.{State as EndPhase}
use Rattle.subflow_tcp.specs.declared.handshake.State.TheVariants as phase
use Rattle.subflow_tcp.specs.States.{may_finish}
use Rattle.actor_desk.specs.declared.ask.Reply.{Reply}
use Rattle.path_agenda.specs.declared.duty.Duty.{Duty}
use Rattle.path_core.specs.Duties.{answered}
use Rattle.path_core.specs.MpJoin.{is_joined}
use Rattle.path_core.specs.Profile.{Profile}
use Rattle.path_core.specs.State.{PathState, end_at}
use Rattle.path_core.specs.Steps.{answers, next_round, settles_down, takes}
use Rattle.path_core.specs.Values.{Carried, values}
use Rattle.world_laws.specs.declared.member.Member.TheVariants.{App, Path}
use Rattle.world_laws.specs.Actors.{Actor, ActorCrew, member_next, member_takes}
use Rattle.world_laws.specs.Members.{HoldsOfKind}
use Rattle.world_laws.specs.Openings.{Start, opened_world, path_begins}
use Rattle.world_laws.specs.Promises.{HasRoom}
use Rattle.world_laws.specs.RoundDone.{reached}
use Rattle.world_laws.specs.StampedBooks.{answer_to}
use Rattle.world_laws.specs.Worlds.{WorldState, Turn, AreLawful, after_turn, world_run}
use Rattle.world_laws.proofs.Lanes.Beginning.{each_run_shows}
use Rattle.world_laws.proofs.Lanes.OfAWorld.{Links, WorldShows, anyhow, anyhow_free, first_duo, free_run}
use Rattle.world_laws.proofs.Lanes.Showing.{HasFin, KindShows, PathShows, RecordShows, is_unfinished}
use Rattle.world_laws.proofs.Weaving.WholeRounds.{run_append}
use Rattle.world_laws.proofs.Worlds.CastLifting.{each_actor}
use Rattle.world_laws.proofs.Writes.Steps.{begins_lasts, settled_lasts}
use Rattle.whole_paths.specs.Exchanges.{IsFaithful}
use Rattle.whole_paths.specs.Finish.{IsPathAt, IsWhole}
use Rattle.whole_paths.specs.Mild.{IsMildStart, LinkIsMild}
use Rattle.whole_paths.specs.OpenCourses.{IsOpenAfter, IsOpenNow, OpenExchangesEnd}
use Rattle.whole_paths.specs.Straying.{IsOpen, IsOpenBetween}
use Rattle.whole_paths.proofs.Copies.{LinkStays, LinkStep, link_step, links_last}
use Rattle.whole_paths.proofs.Copies.LinkStep.{stays, hands, delivers, is_cut}
use Rattle.whole_paths.proofs.Courses.{exchanges_end}
use Rattle.whole_paths.proofs.GoesOn.{goes_on_so}
use Rattle.whole_paths.proofs.Mild.{links_are_mild}
use Rattle.whole_paths.proofs.NewsBounds.{news_is_bounded}
use Rattle.whole_paths.proofs.Straying.{whole_paths_are_open}
use Rattle.whole_paths.proofs.Turns.{turns_each}

-- ---- numbers of segments

abbrev pub few_links : LinkState Carried → LinkState Carried → Type 0
few_links l m = (s : Side) → segments_sent s m < 2 ^ 64 - 1 → segments_sent s l < 2 ^ 64 - 1

fewer_before : {d : Duty} (p q : PathState Carried) → LinkStep d values p q → few_links p.link q.link
fewer_before p q (stays is) s few = subst (λ (l : LinkState Carried). segments_sent s l < 2 ^ 64 - 1) is few
fewer_before p q (hands from carried size still is) s few = by from s (subst (λ (l : LinkState Carried). segments_sent s l < 2 ^ 64 - 1) is few)
  where
    by : (from s : Side) → segments_sent s (after_send (values.strips p.profile.spelling) (values.alters p.profile.spelling) from carried size p.clock p.link) < 2 ^ 64 - 1 → segments_sent s p.link < 2 ^ 64 - 1
    by A A few = omega (arith, few)
    by A B few = few
    by B A few = few
    by B B few = omega (arith, few)
fewer_before p q (delivers event due next is) A few = subst (λ (l : LinkState Carried). l.from_a < 2 ^ 64 - 1) is few
fewer_before p q (delivers event due next is) B few = subst (λ (l : LinkState Carried). l.from_b < 2 ^ 64 - 1) is few
fewer_before p q (is_cut line next action is gone) A few = subst (λ (l : LinkState Carried). l.from_a < 2 ^ 64 - 1) is few
fewer_before p q (is_cut line next action is gone) B few = subst (λ (l : LinkState Carried). l.from_b < 2 ^ 64 - 1) is few

-- ---- a path later

-- fewer segments were sent before
pub record Later (p q : PathState Carried) : Type 0 where
  pub fewer : few_links p.link q.link

pub takes_later : (r : Reply) (p : PathState Carried) → Later p (takes values r p)
takes_later r p = record { fewer = by p.agenda }
  where
    by : (ds : List Duty) → few_links p.link (settles_down (answers values ds r p)).link
    by [] = subst (λ (l : LinkState Carried). few_links p.link l) (sym (settled_lasts LinkStays links_last p.agenda p)) (λ s few. few)
    by (d ∷ ds) =
        let q : PathState Carried = answered values d r p in
        subst (λ (l : LinkState Carried). few_links p.link l) (sym (settled_lasts LinkStays links_last q.agenda q)) (fewer_before p q (link_step values d r p))

pub next_later : (p : PathState Carried) → Later p (next_round p)
next_later p = record {
  fewer = subst (λ (l : LinkState Carried). few_links p.link l) (sym (begins_lasts LinkStays links_last (record p { clock = p.until; until = p.until + 100 }))) (λ s few. few);
}

abbrev pub ActorLater : Actor Carried → Actor Carried → Type 0
ActorLater (Path p) (Path q) = Later p q
ActorLater (App a) (App b) = Unit {0}
ActorLater _ _ = ⊥

stays_later : (m : Actor Carried) → ActorLater m m
stays_later (App a) = tt
stays_later (Path p) = record { fewer = λ s few. few }

member_takes_later : (r : Reply) (m : Actor Carried) → ActorLater m (member_takes values r m)
member_takes_later r (App a) = tt
member_takes_later r (Path p) = takes_later r p

member_next_later : (m : Actor Carried) → ActorLater m (member_next m)
member_next_later (App a) = tt
member_next_later (Path p) = next_later p

then_later : (m n o : Actor Carried) → ActorLater m n → ActorLater n o → ActorLater m o
then_later (App a) (App b) (App c) x y = tt
then_later (Path p) (Path q) (Path r) x y = record { fewer = λ s few. x.fewer s (y.fewer s few) }
then_later (App a) (Path q) o x y = absurd x
then_later (Path p) (App b) o x y = absurd x
then_later (App a) (App b) (Path r) x y = absurd y
then_later (Path p) (Path q) (App c) x y = absurd y

pub each_later : (turns : List Turn) (w : WorldState Carried) (actor : ℕ) (c : ActorCrew Carried) → slice_get w.crew actor ≡ Some c
    → (d : ActorCrew Carried) × (slice_get (world_run values turns w).crew actor ≡ Some d) × ActorLater c.member d.member
each_later turns w actor c there = turns_each values (λ c d. ActorLater c.member d.member) (λ c. stays_later c.member) (λ ask books c. member_takes_later (answer_to books ask) c.member)
    (λ stamp c over. member_next_later c.member) (λ c d e x y. then_later c.member d.member e.member x y) turns w actor c there

-- ---- path 0 by its lanes

-- the path checks sums as the connection does; and an end that sent no FIN has none to be acknowledged, nor did the peer hear of one
pub record IsOfLanes (start : Start) (p : PathState Carried) : Type 0 where
  pub checksums : p.profile.spelling.checksums ≡ start.checksums
  pub fins : (s : Side) → (end_at s p).tcp.send.finished ≡ false → (end_at (peer s) p).tcp.fin_at ≡ None
  pub may : (s : Side) → may_finish (end_at s p).tcp.state ≡ true → (end_at s p).tcp.send.finished ≡ false
  pub kinds : (s : Side) → (end_at s p).tcp.send.finished ≡ false → Every (λ (r : Record). r.kind ≡ Fin → ⊥) (end_at s p).tcp.send.records
  -- an end that isn't past the opening is one, and its SYN has a position
  pub unfinished : (s : Side) → is_unfinished (end_at s p).tcp.state ≡ true → (end_at s p).tcp.send.finished ≡ false
  pub begun : (s : Side) → is_unfinished (end_at s p).tcp.state ≡ true → 1 ≤ (end_at s p).tcp.send.nxt
  pub syns : (s : Side) → Every (λ (r : Record). r.kind ≡ Syn → r.piece ≡ []) (end_at s p).tcp.send.records

-- and it opened the connection
pub record IsFirstPath (start : Start) (p : PathState Carried) : Type 0 where
  pub first : is_joined p.profile ≡ false
  pub checksums : p.profile.spelling.checksums ≡ start.checksums
  pub fins : (s : Side) → (end_at s p).tcp.send.finished ≡ false → (end_at (peer s) p).tcp.fin_at ≡ None
  pub may : (s : Side) → may_finish (end_at s p).tcp.state ≡ true → (end_at s p).tcp.send.finished ≡ false
  pub kinds : (s : Side) → (end_at s p).tcp.send.finished ≡ false → Every (λ (r : Record). r.kind ≡ Fin → ⊥) (end_at s p).tcp.send.records
  pub unfinished : (s : Side) → is_unfinished (end_at s p).tcp.state ≡ true → (end_at s p).tcp.send.finished ≡ false
  pub begun : (s : Side) → is_unfinished (end_at s p).tcp.state ≡ true → 1 ≤ (end_at s p).tcp.send.nxt
  pub syns : (s : Side) → Every (λ (r : Record). r.kind ≡ Syn → r.piece ≡ []) (end_at s p).tcp.send.records

none_came : (fins : List ℕ) (at : Option ℕ) → fins ≡ [] → IfSome at (HasFin fins) → at ≡ None
none_came fins None none h = refl
none_came fins (Some position) none h = let there = h.there in cc

none_finishes : (c : Profile) (s : Side) (out : Lane) (rs : List Record) → out.fins ≡ [] → Every (RecordShows c s out.alters out.sent out.datas out.fins) rs → Every (λ (r : Record). r.kind ≡ Fin → ⊥) rs
none_finishes c s out rs none h = record { each = λ i r there is. no_fin (subst (λ k. KindShows c s out.alters out.sent out.datas out.fins k r) is (h.each i r there)).1 }
  where
    no_fin : {position : ℕ} → HasFin out.fins position → ⊥
    no_fin has = let there = has.there in cc

may_so : (state : EndPhase) → may_finish state ≡ true → is_unfinished state ≡ true
may_so phase.Established may = refl
may_so phase.CloseWait may = refl
may_so _ may = absurd (true≢false (sym may))

empty_syns : (c : Profile) (s : Side) (out : Lane) (rs : List Record) → Every (RecordShows c s out.alters out.sent out.datas out.fins) rs → Every (λ (r : Record). r.kind ≡ Syn → r.piece ≡ []) rs
empty_syns c s out rs h = record { each = λ i r there is. subst (λ k. KindShows c s out.alters out.sent out.datas out.fins k r) is (h.each i r there) }

shown_lanes : (start : Start) (c : Profile) (p : PathState Carried) (ab ba : Lane) → PathShows c p ab ba → c.spelling.checksums ≡ start.checksums → IsOfLanes start p
shown_lanes start c p ab ba shows sums = record {
  checksums = ap (λ (x : Profile). x.spelling.checksums) shows.profile ∙ sums;
  fins = fins;
  may = elim [ A ↦ λ is. shows.a.sender.unfinished (may_so p.a.tcp.state is) | B ↦ λ is. shows.b.sender.unfinished (may_so p.b.tcp.state is) ];
  kinds = kinds;
  unfinished = elim [ A ↦ shows.a.sender.unfinished | B ↦ shows.b.sender.unfinished ];
  begun = begun;
  syns = syns;
}
  where
    fins : (s : Side) → (end_at s p).tcp.send.finished ≡ false → (end_at (peer s) p).tcp.fin_at ≡ None
    fins A unfinished = none_came ab.fins p.b.tcp.fin_at (shows.a.sender.sent.none unfinished) shows.b.receiver.fin
    fins B unfinished = none_came ba.fins p.a.tcp.fin_at (shows.b.sender.sent.none unfinished) shows.a.receiver.fin

    begun : (s : Side) → is_unfinished (end_at s p).tcp.state ≡ true → 1 ≤ (end_at s p).tcp.send.nxt
    begun A is = let next = shows.a.sender.next is in omega (arith, next)
    begun B is = let next = shows.b.sender.next is in omega (arith, next)

    syns : (s : Side) → Every (λ (r : Record). r.kind ≡ Syn → r.piece ≡ []) (end_at s p).tcp.send.records
    syns A = empty_syns c A ab p.a.tcp.send.records shows.a.sender.pieces
    syns B = empty_syns c B ba p.b.tcp.send.records shows.b.sender.pieces

    kinds : (s : Side) → (end_at s p).tcp.send.finished ≡ false → Every (λ (r : Record). r.kind ≡ Fin → ⊥) (end_at s p).tcp.send.records
    kinds A unfinished = none_finishes c A ab p.a.tcp.send.records (shows.a.sender.sent.none unfinished) shows.a.sender.pieces
    kinds B unfinished = none_finishes c B ba p.b.tcp.send.records (shows.b.sender.sent.none unfinished) shows.b.sender.pieces

-- of each actor; the actor 2 is the path that opened the connection
abbrev LanesAt : Start → ℕ → Actor Carried → Type 0
LanesAt start actor = HoldsOfKind (λ app. Unit {0}) (λ (p : PathState Carried). (actor ≡ 2 → is_joined p.profile ≡ false) × IsOfLanes start p)

lanes_at : (start : Start) (turns : List Turn) → HasRoom start → (actor : ℕ) (c : ActorCrew Carried) → slice_get (reached values start turns).crew actor ≡ Some c → LanesAt start actor c.member
lanes_at start turns size actor c there =
    let can = anyhow start size in
    let r = each_run_shows start can turns (free_run can.links (anyhow_free start size) turns (opened_world start)) in
    shown_so can.links (after_events r.events (first_duo can.links start)) r.shows actor c there
  where
    first_of : (x : Profile) (number : ℕ) (p : PathState Carried) → p.profile ≡ x → x.spelling.path ≡ number → number ≡ 0 → is_joined p.profile ≡ false
    first_of x number p same named zeroth = ap (λ (y : Profile). nat_lt 0 y.spelling.path) same ∙ ap (λ n. nat_lt 0 n) (named ∙ zeroth)

    shown_so : (links : Links) (d : Duo) → WorldShows links start d (reached values start turns)
        → (actor : ℕ) (c : ActorCrew Carried) → slice_get (reached values start turns).crew actor ≡ Some c → LanesAt start actor c.member
    shown_so links d h = subst (λ (w : WorldState Carried). (actor : ℕ) (c : ActorCrew Carried) → slice_get w.crew actor ≡ Some c → LanesAt start actor c.member) (sym h.is)
        (each_actor (λ actor c. LanesAt start actor c.member) h.cast tt tt (λ number x there.
        (let path = h.paths.each number number x (omega arith) there in
        let profile = (path_begins start number path.plan).profile in
        (λ is. first_of profile number x.path path.shows.profile refl (omega (arith, is)), shown_lanes start profile x.path path.ab path.ba path.shows refl))))

pub each_of_lanes : (start : Start) (turns : List Turn) → HasRoom start → (actor : ℕ) (c : ActorCrew Carried) → slice_get (reached values start turns).crew actor ≡ Some c
    → HoldsOfKind (λ app. Unit {0}) (IsOfLanes start) c.member
each_of_lanes start turns size actor c there = by c.member (lanes_at start turns size actor c there)
  where
    by : (m : Actor Carried) → LanesAt start actor m → HoldsOfKind (λ app. Unit {0}) (IsOfLanes start) m
    by (App a) h = tt
    by (Path p) h = h.1

pub each_first : (start : Start) (turns : List Turn) → HasRoom start → (c : ActorCrew Carried) → slice_get (reached values start turns).crew 2 ≡ Some c
    → HoldsOfKind (λ app. Unit {0}) (IsFirstPath start) c.member
each_first start turns size c there = by c.member (lanes_at start turns size 2 c there)
  where
    by : (m : Actor Carried) → LanesAt start 2 m → HoldsOfKind (λ app. Unit {0}) (IsFirstPath start) m
    by (App a) h = tt
    by (Path p) h = let x = h.1 in record {
      first = h.0 refl;
      checksums = x.checksums;
      fins = x.fins;
      may = x.may;
      kinds = x.kinds;
      unfinished = x.unfinished;
      begun = x.begun;
      syns = x.syns;
    }

first_so : (start : Start) (before ts : List Turn) → HasRoom start → (p : PathState Carried) → IsPathAt 0 (world_run values ts (reached values start before)) p → IsFirstPath start p
first_so start before ts size p here = subst (HoldsOfKind (λ app. Unit {0}) (IsFirstPath start)) here.is
    (each_first start (before ++ ts) size here.crew (subst (λ (v : WorldState Carried). slice_get v.crew 2 ≡ Some here.crew) (sym (run_append values before ts (opened_world start))) here.there))

later_between : (more : List Turn) (v : WorldState Carried) (p q : PathState Carried) → IsPathAt 0 v p → IsPathAt 0 (world_run values more v) q → Later p q
later_between more v p q was now =
    let found = each_later more v 2 was.crew was.there in
    subst (λ m. ActorLater m (Path q)) was.is
    (subst (λ m. ActorLater was.crew.member m) (ap (λ (c : ActorCrew Carried). c.member) (same_Some found.0 now.crew (sym found.1 ∙ now.there)) ∙ now.is) found.2)

-- ---- from where the path is whole to where it still is

module _ (start : Start) (mild : IsMildStart start) (before : List Turn) (whole : IsWhole 0 (reached values start before)) where
  abbrev w : WorldState Carried
  w = reached values start before

  record OpenPath (v : WorldState Carried) : Type 0 where
    path : PathState Carried
    here : IsPathAt 0 v path
    open_if : is_joined path.profile ≡ false → IsOpen path

  opened : (v : WorldState Carried) (c : ActorCrew Carried) (m : Actor Carried) → slice_get v.crew 2 ≡ Some c → c.member ≡ m → IsOpenBetween m → OpenPath v
  opened v c (Path p) there is between = record { path = p; here = record { crew = c; there = there; is = is }; open_if = between }
  opened v c (App a) there is between = absurd between

  open_at : (ts later : List Turn) → IsWhole 0 (world_run values (ts ++ later) w) → OpenPath (world_run values ts w)
  open_at ts later last =
      let found = (goes_on_so values w ts).crew 2 whole.here.crew whole.here.there in
      opened (world_run values ts w) found.0 found.0.member found.1 refl (whole_paths_are_open w ts later whole last found.0 found.1)

  -- a moment from which the path goes on
  module _ (ts rest : List Turn) (h : OpenPath (world_run values ts w)) (l : PathState Carried) (there : IsPathAt 0 (world_run values rest (world_run values ts w)) l) (few : (s : Side) → segments_sent s l.link < 2 ^ 64 - 1) where
    mild_link : LinkIsMild start.lines h.path
    mild_link = subst (HoldsOfKind (λ app. Unit {0}) (LinkIsMild start.lines)) h.here.is ((links_are_mild values start (before ++ ts) mild).each 2 h.here.crew
        (subst (λ (v : WorldState Carried). slice_get v.crew 2 ≡ Some h.here.crew) (sym (run_append values before ts (opened_world start))) h.here.there))

    first_now : IsFirstPath start h.path
    first_now = first_so start before ts mild.plain.size h.path h.here

    faithful : IsFaithful h.path
    faithful = record { joined = first_now.first; whole = mild_link.strips; plain = mild_link.alters }

    holds_now : IsOpenNow (world_run values ts w)
    holds_now = record {
      path = h.path;
      here = h.here;
      is_open = h.open_if first_now.first;
      faithful = faithful;
      few = λ s. (later_between rest (world_run values ts w) h.path l h.here there).fewer s (few s);
    }

-- ---- the turns between

module _ (start : Start) (mild : IsMildStart start) (before more : List Turn) (whole : IsWhole 0 (reached values start before))
    (last : IsWhole 0 (reached values start (before ++ more))) (few : (s : Side) → segments_sent s last.path.link < 2 ^ 64 - 1) where
  pub holds_along : (ts us : List Turn) → ts ++ us ≡ more → IsOpenAfter start (before ++ ts)
  holds_along ts us is =
      subst IsOpenNow (sym (run_append values before ts (opened_world start)))
      (holds_now start mild before whole ts us
      (open_at start mild before whole ts us (subst (λ (v : WorldState Carried). IsWhole 0 v) last_is last))
      last.path (subst (λ (v : WorldState Carried). IsPathAt 0 v last.path) (last_is ∙ run_append values ts us (reached values start before)) last.here) few)
    where
      last_is : reached values start (before ++ more) ≡ world_run values (ts ++ us) (reached values start before)
      last_is = run_append values before more (opened_world start) ∙ ap (λ (xs : List Turn). world_run values xs (reached values start before)) (sym is)

pub open_exchanges_end : OpenExchangesEnd
open_exchanges_end start most within Over Waits mild x before more lawful whole last few low enough =
    exchanges_end values start (IsOpenAfter start) most within Over Waits x (λ turns. news_is_bounded start turns mild.plain mild.fit) before more lawful (holds_along start mild before more whole last few) low enough

pub lawful_parts : (ts us : List Turn) (w : WorldState Carried) → AreLawful values (ts ++ us) w → AreLawful values ts w × AreLawful values us (world_run values ts w)
lawful_parts [] us w lawful = (tt, lawful)
lawful_parts (t ∷ ts) us w lawful = let rest = lawful_parts ts us (after_turn values t w) lawful.1 in ((lawful.0, rest.0), rest.1)
