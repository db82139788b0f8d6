-- A side that fell back to plain TCP did so rightly.
--
-- A fact of a past step by a fact of now: that no path but path 0 ever asked for bytes, where a side fell, is said the
-- other way round: who asked for bytes there did it after B joined (`asked_after` in `proofs/Falls/AreRight`), which a
-- step keeps.
use Rattle.world_laws.proofs.Words.{◌≡◌, refl, sym, ◌∙◌, ap, subst, ℕ, suc, ◌+◌, ◌||◌, not, ⊎_elim, Bool, true, false, Option, Some, None, List}
use Rattle.world_laws.proofs.Words.{[], ◌∷◌, ◌++◌, length, arith, or_cases, and_parts, both_ways, false≢true, or_from, same_Some, list_any, slice_get}
use Rattle.world_laws.proofs.Words.{IfSome, is_identity, Side, A, B, is_aborted, SendCall, KeptMapping, Record, RecordKind, Syn, Data, Fin, may_finish, Duty}
use Rattle.world_laws.proofs.Words.{SendDuty, StepDuty, AskDuty, SilentDuty, Ask, books_in, SixBooks, control_of, after_ask, AppDuty, AppState, app_ask}
use Rattle.world_laws.proofs.Words.{app_asks_first, stands, ask_for, PathState, end_at, asks_first, FirstStands, Carried, values, data_stands, first_unsent}
use Rattle.world_laws.proofs.Words.{data_ask, Profile, octets, shown_path, Every-map, in_map, in_set, Duo, after_events, Holds, IsHonest, IsRight, LaneHolds}
use Rattle.world_laws.proofs.Words.{Cell, Mapping, Lane, View, any_held, App, Path, Actor, ActorCrew, member_asks, Always, Start, opened_world, WorldState}
use Rattle.world_laws.proofs.Words.{Turn, crew_after, asked, greatest, begins, after_turn, world_run, note_of, HasRoom, HoldsAnywayOfOctets}
use Rattle.world_laws.proofs.Words.{HoldsAnyway, asks_grant, shown_crew, shown_member, shown_world}
use Rattle.world_laws.proofs.Worlds.Turns.{turn_so, run_so}
use Rattle.world_laws.specs.FallsRight.{asks_bytes, has_fallen, is_fallen, is_stopped, IsAtPlace, EndIsPlain, FallsAreRight, FallsLast, PathIsPlain, PositionsArePlaces, PositionsWerePlaces}
use Rattle.world_laws.proofs.Lanes.Applying.{any_more}
use Rattle.world_laws.proofs.Lanes.Beginning.{each_run_shows}
use Rattle.world_laws.proofs.Worlds.Casts.{Walker, walking, world_of}
use Rattle.world_laws.proofs.Falls.WhereASideStands.{fell_or_stopped, fell_unjoined}
use Rattle.world_laws.proofs.Falls.ForEver.{ever_fallen}
use Rattle.world_laws.proofs.Joins.AnsweredAfterBegun.{always_joined}
use Rattle.world_laws.proofs.Weaving.Journals.{books_after}
use Rattle.world_laws.proofs.Keys.ToldAreOwn.{Joined, FellBack, MemberIs, WorldIs, fell_stays, joined_stays, turn_keys, opened_keys}
use Rattle.world_laws.proofs.Lanes.OfAWorld.{anyhow_free, free_run, Links, anyhow, duo_of, first_duo, MemberIsSteady, IsSteady, WorldShows}
use Rattle.world_laws.proofs.Worlds.Opened.{opened_actors}
use Rattle.world_laws.proofs.Promises.Made.{run_fresh}
use Rattle.world_laws.proofs.Rounds.GrantAtOneDuty.{MayNotAsk, ask_isn't, asks_none}
use Rattle.world_laws.proofs.Lanes.Showing.{HasMapping, KeptShows, KindShows, EndShows, PathShows}
use Rattle.world_laws.proofs.Worlds.Steady.{always_steady}
use Rattle.world_laws.proofs.Weaving.WholeRounds.{run_append}

-- ---- what asks for bytes

abbrev asks_some : Ask → Bool
asks_some x = asks_grant A x || asks_grant B x

written_none : (s : Side) (bytes : List ℕ) → asks_some (Ask.Send s (SendCall.Write bytes)) ≡ false
written_none = elim [ A ↦ λ bytes. refl | B ↦ λ bytes. refl ]

closed_none : (s : Side) → asks_some (Ask.Send s SendCall.Close) ≡ false
closed_none = elim [ A ↦ refl | B ↦ refl ]

aborted_none : (s : Side) → asks_some (Ask.Send s SendCall.Abort) ≡ false
aborted_none = elim [ A ↦ refl | B ↦ refl ]

app_asks_none : (d : AppDuty) (a : AppState) → asks_some (app_ask d a) ≡ false
app_asks_none AppDuty.AbortSend a = aborted_none a.side
app_asks_none AppDuty.Write a = written_none a.side _
app_asks_none AppDuty.Close a = closed_none a.side
app_asks_none _ a = refl

module _ (p : PathState Carried) where
  nothing_asked : {X : Type 0} (d : Duty) → MayNotAsk d → asks_some (ask_for values d p) ≡ true → X
  nothing_asked d other is =
      let none = asks_none values p d other in
      absurd (both_ways (asks_some (ask_for values d p)) (or_from (asks_grant A (ask_for values d p)) (asks_grant B (ask_for values d p)) (ask_isn't A (ask_for values d p) none) (ask_isn't B (ask_for values d p) none)) is)

  data_finishes : (s : Side) (o : Option Record) → data_stands p.profile s (end_at s p) o ≡ true → asks_some (data_ask values s o p) ≡ true → (t : Side) × (may_finish (end_at t p).tcp.state ≡ true)
  data_finishes s (Some r) is asks = absurd (false≢true asks)
  data_finishes s None is asks = (s, (and_parts (may_finish (end_at s p).tcp.state) _ is).0)

  -- an end asks for bytes only where it may finish
  asking_finishes : (d : Duty) → stands d p ≡ true → asks_some (ask_for values d p) ≡ true → (t : Side) × (may_finish (end_at t p).tcp.state ≡ true)
  asking_finishes (Duty.Step (StepDuty.Data s)) is asks = data_finishes s (first_unsent (end_at s p)) is asks
  asking_finishes (Duty.Ask AskDuty.JoinAgain) is asks = nothing_asked (Duty.Ask AskDuty.JoinAgain) tt asks
  asking_finishes (Duty.Send (SendDuty.Update s)) is asks = nothing_asked (Duty.Send (SendDuty.Update s)) tt asks
  asking_finishes (Duty.Silent (SilentDuty.Timer s)) is asks = nothing_asked (Duty.Silent (SilentDuty.Timer s)) tt asks
  asking_finishes d is asks = nothing_asked d tt asks

module _ (key_a key_b : ℕ) where
  -- on a path that joins bytes are asked for once B answered
  member_joined : (number : ℕ) (six : SixBooks) (m : Actor Carried) (x : Ask) → member_asks values m ≡ Some x → MemberIs key_a key_b false six m → MemberIsSteady six (suc number) m → asks_some x ≡ true → Joined six B
  member_joined number six (App a) x is h steady asks = (elim a.agenda as (λ ds. app_asks_first ds a ≡ Some x → Joined six B)
      [ [] ↦ λ is. cc | d ∷ ds ↦ λ is. absurd (both_ways (asks_some x) (ap asks_some (sym (same_Some (app_ask d a) x is)) ∙ app_asks_none d a) asks) ]) is
  member_joined number six (Path p) x is h steady asks = (elim p.agenda as (λ ds. asks_first values ds p ≡ Some x → FirstStands ds p → Joined six B) [
    | [] ↦ λ is first. cc
    | d ∷ ds ↦ λ is first. let found = asking_finishes p d first (ap asks_some (same_Some (ask_for values d p) x is) ∙ asks) in steady.joined number refl found.0 found.1
  ]) is h.settled

-- ---- worlds

record Rightly (start : Start) (w : WorldState Carried) : Type 0 where
  known : WorldIs start.key_a start.key_b false w
  asked_after : (number : ℕ) (c : ActorCrew Carried) → slice_get w.crew (suc (suc (suc number))) ≡ Some c → list_any asks_bytes c.list ≡ true → Joined (books_in w.books) B

turn_right : (start : Start) (turn : Turn) (w : WorldState Carried) → IsSteady w → Rightly start w → Rightly start (after_turn values turn w)
turn_right start turn w steady h =
    turn_so values (λ v. WorldIs start.key_a start.key_b false v → Rightly start v) turn w (λ known. h)
    (λ actor c x there is known.
    let six = books_in w.books in
    let now : books_in (asked values actor (Some x) c w).books ≡ after_ask x six = books_after x c.pass w.books in
    record {
      known = known;
      asked_after = λ i d at some. subst (λ (y : SixBooks). Joined y B) (sym now) (joined_stays start.key_a start.key_b false six x B (⊎_elim
          (λ here. own actor c x there is i (subst (λ n. slice_get w.crew n ≡ Some c) (sym here.0) there) (subst (λ (y : ActorCrew Carried). list_any asks_bytes y.list ≡ true) (sym here.1) some))
          (λ other. h.asked_after i d other.1 some)
          (in_set w.crew actor (crew_after values x w.books c) (suc (suc (suc i))) d at)));
    })
    (λ over known. record {
      known = known;
      asked_after = λ i d at some. let found = in_map (begins (greatest 0 w.crew)) w.crew (suc (suc (suc i))) d at in
          h.asked_after i found.0 found.1 (subst (λ (y : ActorCrew Carried). list_any asks_bytes y.list ≡ true) (sym found.2) some);
    })
    (turn_keys start.key_a start.key_b false turn w (λ right. absurd (false≢true right)) h.known)
  where
    own : (actor : ℕ) (c : ActorCrew Carried) (x : Ask) → slice_get w.crew actor ≡ Some c → member_asks values c.member ≡ Some x → (i : ℕ) → slice_get w.crew (suc (suc (suc i))) ≡ Some c
        → list_any asks_bytes (c.list ++ note_of w.books c.pass x ∷ []) ≡ true → Joined (books_in w.books) B
    own actor c x there is i at some = ⊎_elim
        (λ before. h.asked_after i c at before)
        (λ asks. member_joined start.key_a start.key_b i (books_in w.books) c.member x is (h.known.crew.each actor c there) (steady.each (suc i) c at) asks)
        (or_cases (list_any asks_bytes c.list) (asks_some x) (sym (any_more asks_bytes c.list (note_of w.books c.pass x)) ∙ some))

run_right : (start : Start) (turns : List Turn) (w : WorldState Carried) → ((more : List Turn) → IsSteady (world_run values more w)) → Rightly start w → Rightly start (world_run values turns w)
run_right start [] w steady h = h
run_right start (turn ∷ turns) w steady h = run_right start turns (after_turn values turn w) (λ more. steady (turn ∷ more)) (turn_right start turn w (steady []) h)

opened_right : (start : Start) → Rightly start (opened_world start)
opened_right start = record {
  known = opened_keys false start;
  asked_after = λ i c at. opened_actors (λ actor c. list_any asks_bytes c.list ≡ true → Joined (books_in (opened_world {C = Carried} start).books) B) start (λ some. absurd (false≢true some)) (λ some. absurd (false≢true some))
      (λ number plan there some. absurd (false≢true some)) (suc (suc (suc i))) c at;
}

fell_unjoined_at : (six : SixBooks) (s : Side) → FellBack six s → (control_of s six).fall.joined ≡ false
fell_unjoined_at six A is = fell_unjoined six.control_a.fall is
fell_unjoined_at six B is = fell_unjoined six.control_b.fall is

-- ---- falls are right

pub falls_are_right : Always values (λ start w. FallsAreRight w)
falls_are_right start turns = record {
  joins = λ s fell. fell_unjoined_at (books_in (world_run values turns (opened_world start)).books) s (ever_fallen start turns s fell);
  answered = λ s fell. unanswered s (ever_fallen start turns s fell);
  only = λ s fell. record { each = λ number c there. none number c there (unanswered s (ever_fallen start turns s fell)) (list_any asks_bytes c.list) refl };
}
  where
    h : Rightly start (world_run values turns (opened_world start))
    h = run_right start turns (opened_world start) (always_steady start) (opened_right start)

    unanswered : (s : Side) → FellBack (books_in (world_run values turns (opened_world start)).books) s
        → (books_in (world_run values turns (opened_world start)).books).control_b.fall.joined ≡ false
    unanswered B fell = fell_unjoined_at (books_in (world_run values turns (opened_world start)).books) B fell
    unanswered A fell =
        (elim (books_in (world_run values turns (opened_world start)).books).control_b.fall.joined as (λ b. (books_in (world_run values turns (opened_world start)).books).control_b.fall.joined ≡ b → b ≡ false) [
          | false ↦ λ is. refl
          | true ↦ λ is. absurd (both_ways _ (fell_unjoined_at (books_in (world_run values turns (opened_world start)).books) A fell) ((always_joined start turns).order is))
        ]) refl

    none : (number : ℕ) (c : ActorCrew Carried) → slice_get (world_run values turns (opened_world start)).crew (suc (suc (suc number))) ≡ Some c
        → (books_in (world_run values turns (opened_world start)).books).control_b.fall.joined ≡ false → (b : Bool) → list_any asks_bytes c.list ≡ b → b ≡ false
    none number c there unjoined false is = refl
    none number c there unjoined true is = absurd (both_ways _ unjoined (h.asked_after number c there is))

-- ---- and last

run_fell : (turns : List Turn) (w : WorldState Carried) (s : Side) → FellBack (books_in w.books) s → FellBack (books_in (world_run values turns w).books) s
run_fell turns w s = run_so values (λ w. FellBack (books_in w.books) s)
    (λ w fell actor c x there is. subst (λ (y : SixBooks). FellBack y s) (sym (books_after x c.pass w.books)) (fell_stays (books_in w.books) x s fell)) (λ w fell over. fell) turns w

lasting_at : (six : SixBooks) (s : Side) → FellBack six s → (is_identity (control_of s six).fall.mode || is_aborted (control_of s six).fall.mode) ≡ true
lasting_at six A is = fell_or_stopped six.control_a.fall is
lasting_at six B is = fell_or_stopped six.control_b.fall is

pub falls_last : Always values (λ start w. FallsLast values w)
falls_last start turns s more fell =
    let w = world_run values turns (opened_world start) in
    lasting_at (books_in (world_run values more w).books) s (run_fell more w s (ever_fallen start turns s fell))

-- ---- positions are places

module _ (v : View) (p : Lane) (alone : v.alone ≡ true) (h : LaneHolds v 0 p) where
  right_place : (m : Mapping) → IsRight p.sent m → m.place ≡ m.pos
  right_place m right =
      let some = right.some in
      let cell = in_map (λ (c : Cell). c.place) p.sent (m.pos + 0) (m.place + 0) (right.places 0 (omega (arith, some))) in
      let at = (h.alone alone).identity.each (m.pos + 0) (m.pos + 0) cell.0 (omega arith) cell.1 in
      let place_is = cell.2 in
      omega (arith, at, place_is)

  mapped_place : (place position len : ℕ) → HasMapping p.datas place position len → suc place ≡ position
  mapped_place place position len has =
      let honest : IsHonest p.alters p.pieces p.sent has.item = h.bytes.honest.each has.at has.item has.there in
      let right : IsRight p.sent has.holds.mapping = subst (λ o. IfSome o (IsRight p.sent)) has.holds.there honest.mapping in
      let same = right_place has.holds.mapping right in
      let place_is = has.holds.is.place_is in let position_is = has.holds.is.position_is in
      omega (arith, same, place_is, position_is)

  kept_place : (kept : KeptMapping) → KeptShows p.maps kept → suc kept.place ≡ kept.pos
  kept_place kept has =
      let same = right_place has.item (h.bytes.right.each has.at has.item has.there) in
      let place_is = has.holds.place_is in let position_is = has.holds.position_is in
      omega (arith, same, place_is, position_is)

  record_place : (c : Profile) (s : Side) (fins : List ℕ) (kind : RecordKind) (r : Record) → KindShows c s p.alters p.sent p.datas fins kind r → IsAtPlace kind c s r
  record_place c s fins Syn r shows = tt
  record_place c s fins Data r shows = mapped_place _ _ _ shows.mapping
  record_place c s fins Fin r shows = tt

plain_end : (v u : View) (out back : Lane) → v.alone ≡ true → u.alone ≡ true → LaneHolds v 0 out → LaneHolds u 0 back → (c : Profile) (s : Side) (e : _) → EndShows c s e out back → EndIsPlain c s e
plain_end v u out back out_alone back_alone out_holds back_holds c s e h = record {
  records = Every-map (λ r shows. record_place v out out_alone out_holds c s out.fins r.kind r shows) h.sender.pieces;
  learned = Every-map (λ kept shows. kept_place u back back_alone back_holds kept shows) h.receiver.mapped;
}

-- as long as B answered no join
unanswered_plain : (links : Links) (start : Start) (d : Duo) (w : WorldState Carried) → Holds d → WorldShows links start d w
    → (books_in w.books).control_b.fall.joined ≡ false → (c : ActorCrew Carried) → slice_get w.crew 2 ≡ Some c → PathIsPlain c.member
unanswered_plain links start d w held h none c there = path (subst (λ (v : WorldState Carried). slice_get v.crew 2 ≡ Some c) h.is there)
  where
    holds : Holds (duo_of links (books_in h.cast.books) h.lanes_ab h.lanes_ba h.reader_a h.reader_b)
    holds = subst Holds h.duo_is held

    path : slice_get (world_of h.cast).crew 2 ≡ Some c → PathIsPlain c.member
    path at =
        let found = in_map walking h.cast.paths 0 c at in
        let x : Walker Carried = found.0 in
        let there = h.paths.each 0 0 x refl found.1 in
        let unanswered : (books_in h.cast.books).control_b.fall.joined ≡ false = subst (λ (v : WorldState Carried). (books_in v.books).control_b.fall.joined ≡ false) h.is none in
        let alone = ap not unanswered in
        let ab = holds.ab.lanes.each 0 0 there.ab refl there.ab_there in
        let ba = holds.ba.lanes.each 0 0 there.ba refl there.ba_there in
        let shows : PathShows x.path.profile x.path there.ab there.ba = subst (λ e. PathShows e x.path there.ab there.ba) (sym there.shows.profile) there.shows in
        subst (λ (y : ActorCrew Carried). PathIsPlain y.member) found.2 (sides x.path there.ab there.ba _ _ alone alone ab ba shows)
      where
        sides : (p : PathState Carried) (ab ba : Lane) (v u : View) → v.alone ≡ true → u.alone ≡ true → LaneHolds v 0 ab → LaneHolds u 0 ba → PathShows p.profile p ab ba → (s : Side) → EndIsPlain p.profile s (end_at s p)
        sides p ab ba v u x y ab_holds ba_holds shows A = plain_end v u ab ba x y ab_holds ba_holds p.profile A p.a shows.a
        sides p ab ba v u x y ab_holds ba_holds shows B = plain_end u v ba ab y x ba_holds ab_holds p.profile B p.b shows.b

-- at every moment path 0 is plain, as long as B answered no join
always_plain : (start : Start) (turns : List Turn) → HasRoom start → (books_in (world_run values turns (opened_world start)).books).control_b.fall.joined ≡ false
    → (c : ActorCrew Carried) → slice_get (world_run values turns (opened_world start)).crew 2 ≡ Some c → PathIsPlain c.member
always_plain start turns size none =
    let can = anyhow start size in
    let r = each_run_shows start can turns (free_run can.links (anyhow_free start size) turns (opened_world start)) in
    unanswered_plain can.links start (after_events r.events (first_duo can.links start)) (world_run values turns (opened_world start))
    (any_held can.links.alters can.links.checked (length start.paths) start.buffer start.buffer r.events) r.shows none

pub positions_are_places : HoldsAnyway PositionsArePlaces
positions_are_places start turns size = record { each = λ s fell. always_plain start turns size ((falls_are_right start turns).answered s fell) }

-- ---- and were before

-- B answered a join, and so it did at any later moment
run_joined : (start : Start) (turns : List Turn) (w : WorldState Carried) → Joined (books_in w.books) B → Joined (books_in (world_run values turns w).books) B
run_joined start = run_so values (λ w. Joined (books_in w.books) B)
    (λ w joined actor c x there is. subst (λ (y : SixBooks). Joined y B) (sym (books_after x c.pass w.books)) (joined_stays start.key_a start.key_b false (books_in w.books) x B joined))
    (λ w joined over. joined)

-- B answered no join before either
unanswered_before : (start : Start) (turns : List Turn) (w : WorldState Carried) → (books_in (world_run values turns w).books).control_b.fall.joined ≡ false
    → (books_in w.books).control_b.fall.joined ≡ false
unanswered_before start turns w none = (elim (books_in w.books).control_b.fall.joined as (λ b. (books_in w.books).control_b.fall.joined ≡ b → b ≡ false)
    [ false ↦ λ is. refl | true ↦ λ is. absurd (both_ways _ none (run_joined start turns w is)) ]) refl

pub positions_were_places : HoldsAnyway (PositionsWerePlaces values)
positions_were_places start turns size s more fell =
    let w = world_run values turns (opened_world start) in
    let joins = run_append values turns more (opened_world start) in
    let fell_then : has_fallen s (world_run values (turns ++ more) (opened_world start)) ≡ true = ap (has_fallen s) joins ∙ fell in
    let none = (falls_are_right start (turns ++ more)).answered s fell_then in
    always_plain start turns size
    (unanswered_before start more w (subst (λ (v : WorldState Carried). (books_in v.books).control_b.fall.joined ≡ false) joins none))

-- ---- over octets

falls_shown : (w : WorldState Carried) → FallsAreRight w → FallsAreRight (shown_world w)
falls_shown w h = record {
  joins = h.joins;
  answered = h.answered;
  only = λ s fell. record {
    each = λ number c at. let found = in_map shown_crew w.crew (suc (suc (suc number))) c at in
        subst (λ (y : ActorCrew (List ℕ)). list_any asks_bytes y.list ≡ false) found.2 ((h.only s fell).each number found.0 found.1);
  };
}

member_plain : (m : Actor Carried) → PathIsPlain m → PathIsPlain (shown_member m)
member_plain (App a) h = tt
member_plain (Path p) h = λ s. by s
  where
    by : (s : Side) → EndIsPlain p.profile s (end_at s (shown_path p))
    by = elim [ A ↦ h A | B ↦ h B ]

places_shown : (w : WorldState Carried) → PositionsArePlaces w → PositionsArePlaces (shown_world w)
places_shown w h = record {
  each = λ s fell c at. let found = in_map shown_crew w.crew 2 c at in
      subst (λ (y : ActorCrew (List ℕ)). PathIsPlain y.member) found.2 (member_plain found.0.member (h.each s fell found.0 found.1));
}

pub falls_in_octets : HoldsAnywayOfOctets FallsAreRight
falls_in_octets start turns size fit = subst FallsAreRight (sym (run_fresh start turns size fit)) (falls_shown (world_run values turns (opened_world start)) (falls_are_right start turns))

same_fallen : (s : Side) (w : WorldState Carried) → (is_fallen s (shown_world w) || is_stopped s (shown_world w)) ≡ (is_fallen s w || is_stopped s w)
same_fallen = elim [ A ↦ λ w. refl | B ↦ λ w. refl ]

same_has_fallen : (s : Side) (w : WorldState Carried) → has_fallen s (shown_world w) ≡ has_fallen s w
same_has_fallen = elim [ A ↦ λ w. refl | B ↦ λ w. refl ]

pub falls_last_in_octets : HoldsAnywayOfOctets (FallsLast octets)
falls_last_in_octets start turns size fit s more fell =
    let w : WorldState Carried = world_run values turns (opened_world start) in
    let shown = run_fresh start turns size fit in
    let later = run_fresh start (turns ++ more) size fit in
    ap (λ (v : WorldState (List ℕ)). is_fallen s v || is_stopped s v) (sym (run_append octets turns more (opened_world start)) ∙ later ∙ ap shown_world (run_append values turns more (opened_world start))) ∙ same_fallen s (world_run values more w)
    ∙ falls_last start turns s more (sym (same_has_fallen s w) ∙ ap (has_fallen s) (sym shown) ∙ fell)

pub places_in_octets : HoldsAnywayOfOctets PositionsArePlaces
places_in_octets start turns size fit = subst PositionsArePlaces (sym (run_fresh start turns size fit)) (places_shown (world_run values turns (opened_world start)) (positions_are_places start turns size))

pub places_were_in_octets : HoldsAnywayOfOctets (PositionsWerePlaces octets)
places_were_in_octets start turns size fit s more fell c at =
    let w : WorldState Carried = world_run values turns (opened_world start) in
    let shown = run_fresh start turns size fit in
    let later = run_fresh start (turns ++ more) size fit in
    let fell_then : has_fallen s (world_run values more w) ≡ true =
    sym (same_has_fallen s (world_run values more w))
    ∙ ap (λ (v : WorldState (List ℕ)). has_fallen s v) (sym (sym (run_append octets turns more (opened_world start)) ∙ later ∙ ap shown_world (run_append values turns more (opened_world start)))) ∙ fell in
    let found = in_map shown_crew w.crew 2 c (subst (λ (v : WorldState (List ℕ)). slice_get v.crew 2 ≡ Some c) shown at) in
    subst (λ (y : ActorCrew (List ℕ)). PathIsPlain y.member) found.2 (member_plain found.0.member (positions_were_places start turns size s more fell_then found.0 found.1))
