-- In a connection where no option is taken away, no payload altered, and no side closes at once, the agenda of path 0 stays calm by each turn.
use Rattle.std.proofs.Common.{◌≡◌, refl, sym, subst, ap, ◌∙◌, ⊎_elim, ℕ, ◌+◌, Bool, true, false, true≢false, if◌then◌else◌, Option, Some, None, is_some, List, length, [], ◌∷◌, ◌++◌}
use Rattle.std.specs.List.{list_any, slice_get}
use Rattle.std.specs.Option.{option_map}
use Rattle.std.proofs.lemmas.Bool.{both_ways, or_from, or_parts}
use Rattle.std.proofs.lemmas.Option.{same_Some}
use Rattle.sides.specs.declared.side.Side.{Side}
use Rattle.sides.specs.declared.side.Side.TheVariants.{A, B}
use Rattle.sides.specs.Side.{peer}
use Rattle.control_book.specs.declared.call.ControlCall.TheVariants as control_calls
use Rattle.dss_mapping.specs.Learning.{clashes_if, first_of}
use Rattle.dss_mapping.specs.Mappings.{Mappings}
use Rattle.dss_mapping.specs.declared.kept.KeptMapping.{KeptMapping}
use Rattle.subflow_recv.specs.Receiving.{filled}
use Rattle.path_store.specs.Passing.{has_its_sum, is_there}
use Rattle.subflow_tcp.specs.State.{EndState}
use Rattle.stream_apps.specs.AppSteps.{a_round_less, app_answered, app_answers, app_ask, app_asks_first, app_settled, app_stands, app_takes, is_due, start_of_app}
use Rattle.stream_apps.specs.Starts.{fast_close_of, first_app_turn, rounds_before, untouched}
use Rattle.stream_apps.specs.declared.duty.AppDuty.{AppDuty}
use Rattle.stream_apps.specs.declared.duty.AppDuty.TheVariants as apps
use Rattle.stream_apps.specs.Apps.{AppState}
use Rattle.stream_lanes.specs.Words.{Every}
use Rattle.stream_lanes.proofs.Lists.{in_map, in_set, set_same}
use Rattle.actor_desk.specs.Books.{books_in}
use Rattle.actor_desk.specs.Desk.{reply_of}
use Rattle.actor_desk.specs.Words.{pick}
use Rattle.actor_desk.specs.declared.ask.Ask.{Ask}
use Rattle.actor_desk.specs.declared.ask.Ask.TheVariants as asks
use Rattle.actor_desk.specs.declared.ask.Reply.{Reply}
use Rattle.path_agenda.specs.Agenda.{stops}
use Rattle.path_agenda.specs.declared.duty.Duty.{Duty}
use Rattle.path_agenda.specs.declared.duty.Duty.TheVariants as duties
use Rattle.path_agenda.specs.declared.duty.StepDuty.TheVariants as step_duties
use Rattle.path_core.specs.Deliver.{failing_by, failing_mapping, mapping_here}
use Rattle.path_core.specs.Duties.{ask_for}
use Rattle.path_core.specs.MpJoin.{is_joined}
use Rattle.path_core.specs.Octets.{octets}
use Rattle.path_core.specs.Shown.{shown_path}
use Rattle.path_core.specs.Start.{waiting_path}
use Rattle.path_core.specs.State.{PathState, end_at}
use Rattle.path_core.specs.Steps.{asks_first}
use Rattle.path_core.specs.Turns.{FirstStands}
use Rattle.path_core.specs.Values.{Carried, values}
use Rattle.world_laws.specs.declared.member.Member.TheVariants.{App, Path}
use Rattle.world_laws.specs.AbortCause.{asks_fast_close, note_asks_fast_close}
use Rattle.world_laws.specs.Actors.{Actor, ActorCrew, member_asks, member_next, member_takes}
use Rattle.world_laws.specs.Asking.{May, asking, may}
use Rattle.world_laws.specs.Agreement.{EndsAgree, MappingsAgree, NothingClashes}
use Rattle.world_laws.specs.Fresh.{shown_crew, shown_member, shown_world}
use Rattle.world_laws.specs.Members.{HoldsOfKind}
use Rattle.world_laws.specs.Openings.{Start, opened_world, path_begins}
use Rattle.world_laws.specs.Outcomes.{note_tells, notes_of, notes_or}
use Rattle.world_laws.specs.Promises.{NothingWasRefused, tells_refusal}
use Rattle.actor_desk.specs.Books.{StampedBooks}
use Rattle.world_laws.specs.StampedBooks.{answer_to}
use Rattle.world_laws.specs.Worlds.{WorldState, Turn, after_turn, asked, begins, crew_after, greatest, note_of, world_run}
use Rattle.world_laws.proofs.Keys.WhatWakes.{Voice, speaks}
use Rattle.world_laws.proofs.Places.Agree.{mappings_agree}
use Rattle.world_laws.proofs.Promises.AbortsHaveACause.{StopsAreAsked, stops_are_asked}
use Rattle.world_laws.proofs.Promises.Made.{nothing_refused, run_fresh}
use Rattle.world_laws.proofs.Rounds.Lifting.{opened_lifted, run_lifted}
use Rattle.world_laws.proofs.Whole.Answering.{asks_calmly}
use Rattle.world_laws.proofs.Whole.Falls.{MemberUpright, PathUpright, EachUpright, each_upright}
use Rattle.world_laws.proofs.Whole.Happening.{Holds, Now, Next, is_between}
use Rattle.world_laws.proofs.Worlds.Turns.{turn_so}
use Rattle.world_laws.proofs.Writes.Asks.{asks_no_more}
use Rattle.whole_paths.specs.Brought.{FailsItsCheck}
use Rattle.whole_paths.specs.Mapped.{EndsAreLive, MappingsAreLive}
use Rattle.whole_paths.specs.Mild.{IsUnbroken, EndsHaveKeys, HasKeys, IsNeverBroken, IsMildStart, IsPromisedMildly, NeverBreaks, KeysAreKnown}
use Rattle.whole_paths.proofs.Flying.{takes_frames}
use Rattle.whole_paths.proofs.Keyed.{keys_are_known}
use Rattle.whole_paths.proofs.Knowing.{what_is_told_is_known}
use Rattle.whole_paths.proofs.MappedCopies.{EachMaps, PathMaps, each_maps}
use Rattle.whole_paths.proofs.NeverUnmapped.{AllAt, begins_at, knows_so, never_at, takes_at}
use Rattle.whole_paths.proofs.Unbroken.{Calm, FirstFine, FirstKnown, FirstReply, Known, begins_calm, takes_calm}
use Rattle.whole_paths.proofs.Unmapped.{AtIf}

-- ---- a path

-- an acknowledgement of data has a Data ACK
acked_so : (p : PathState Carried) (d : Duty) (ds : List Duty) → p.agenda ≡ d ∷ ds → Holds p → is_between d ≡ false → (s : Side) → (end_at s p).treated.plain_ack ≡ false
acked_so p d ds is (Now q h) between A = h.a.base.treated.plain
acked_so p d ds is (Now q h) between B = h.b.base.treated.plain
acked_so p d ds is (Next e es q next now calm does passes) between s =
    let same : e ≡ d = first_same e d es ds (sym now ∙ is) in absurd (both_ways (is_between d) between (subst (λ x. is_between x ≡ true) same next.duty))
  where
    first_same : (e d : Duty) (es ds : List Duty) → e ∷ es ≡ d ∷ ds → e ≡ d
    first_same e d es ds same = cc

pub no_clash : (v : Mappings) → NothingClashes v → clashes_if (first_of v.held) v ≡ false
no_clash v h = (elim v.held as (λ ks. v.held ≡ ks → clashes_if (first_of ks) v ≡ false) [ [] ↦ λ is. refl | kept ∷ others ↦ λ is. h.each 0 kept (ap (λ ks. slice_get ks 0) is) ]) refl

first_known : (p : PathState Carried) → PathUpright p → EndsAgree (Path p) → EndsHaveKeys p → AllAt p → is_joined p.profile ≡ false → FirstKnown p.agenda p
first_known p upright agree keys at first = (elim p.agenda as (λ ds. p.agenda ≡ ds → FirstKnown ds p) [ [] ↦ λ is. tt | d ∷ ds ↦ λ is. by d ds is ]) refl
  where
    by : (d : Duty) (ds : List Duty) → p.agenda ≡ d ∷ ds → Known d p
    by d ds is = record {
      first = λ event. first;
      stood = subst (λ xs. FirstStands xs p) is upright.passes.settled;
      asks = asks_calmly p upright.passes.settled (upright.holds first) (ask_for values d p) (ap (λ xs. asks_first values xs p) is);
      agrees = λ s. no_clash (end_at s p).receiving.mappings (agree s);
      sound = upright.passes.sound;
      heard = upright.passes.heard_none;
      acked = λ between s. acked_so p d ds is (upright.holds first) between s;
      mapped = λ s same.
          let now : p.agenda ≡ duties.Step (step_duties.Unmapped s) ∷ ds = is ∙ ap (λ e. e ∷ ds) same in
          never_at s ds (end_at s p) (knows_so p s ds now upright.identity (upright.holds first) keys) (subst (λ xs. AtIf s xs (end_at s p)) now (at s)) (subst (λ xs. FirstStands xs p) now upright.passes.settled);
    }

abbrev FirstIs : List Duty → PathState Carried → Ask → Type 0
FirstIs ds p x = asks_first values ds p ≡ Some x

reply_is : (books : StampedBooks) (p : PathState Carried) (x : Ask) (ds : List Duty) → FirstIs ds p x → tells_refusal (answer_to books x) ≡ false
    → FirstReply (books_in books) ds p (answer_to books x) × FirstFine (books_in books) ds p
reply_is books p x [] is fine = (tt, tt)
reply_is books p x (d ∷ ds) is fine =
    let same : ask_for values d p ≡ x = same_Some _ x is in
    (ap (reply_of (books_in books)) (sym same), subst (λ y. tells_refusal (reply_of (books_in books) y) ≡ false) (sym same) fine)

-- ---- actors

abbrev OfPaths : (PathState Carried → Type 0) → Actor Carried → Type 0
OfPaths P = HoldsOfKind (λ app. Unit {0}) P

abbrev MemberCalm : Actor Carried → Type 0
MemberCalm = HoldsOfKind (λ app. Unit {0}) (λ p. is_joined p.profile ≡ false → Calm p.agenda × AllAt p)

member_takes_calm : (books : StampedBooks) (m : Actor Carried) (x : Ask) → member_asks values m ≡ Some x → tells_refusal (answer_to books x) ≡ false → MemberUpright m → EndsAgree m → OfPaths HasKeys m → OfPaths EndsAreLive m → OfPaths PathMaps m → MemberCalm m
    → MemberCalm (member_takes values (answer_to books x) m)
member_takes_calm books (App a) x is fine upright agree keys live maps h = tt
member_takes_calm books (Path p) x is fine upright agree keys live maps h = λ then_first.
    let first : is_joined p.profile ≡ false = ap is_joined (sym (takes_frames values (answer_to books x) p).profile) ∙ then_first in
    let reply = reply_is books p x p.agenda is fine in
    let was = h first in let known = first_known p upright agree (keys first) was.1 first in
    (takes_calm (books_in books) (answer_to books x) p known reply.0 reply.1 was.0, takes_at (answer_to books x) p known upright.identity live maps (upright.holds first) was.1)

member_begins_calm : (m : Actor Carried) → MemberCalm (member_next m)
member_begins_calm (App a) = tt
member_begins_calm (Path p) = λ first. let q : PathState Carried = record p { clock = p.until; until = p.until + 100 } in (begins_calm q, begins_at q)

-- ---- a turn

last_none : {X : Type 0} (test : X → Bool) (xs : List X) (y : X) → list_any test (xs ++ y ∷ []) ≡ false → test y ≡ false
last_none test [] y none = (or_parts (test y) false none).0
last_none test (x ∷ xs) y none = last_none test xs y (or_parts (test x) (list_any test (xs ++ y ∷ [])) none).1

record EachCalm (w : WorldState Carried) : Type 0 where
  each : (actor : ℕ) (c : ActorCrew Carried) → slice_get w.crew actor ≡ Some c → MemberCalm c.member

record Facts (w : WorldState Carried) : Type 0 where
  upright : EachUpright w
  agree : MappingsAgree w
  fine : NothingWasRefused w
  keys : KeysAreKnown w
  live : MappingsAreLive w
  maps : EachMaps w

-- the reply to the step that was made last tells no refusal
pub step_fine : (w : WorldState Carried) (actor : ℕ) (c : ActorCrew Carried) (x : Ask) → slice_get w.crew actor ≡ Some c → NothingWasRefused (asked values actor (Some x) c w) → tells_refusal (answer_to w.books x) ≡ false
step_fine w actor c x there fine =
    last_none (note_tells tells_refusal) c.list (note_of w.books c.pass x)
    (sym (ap (λ o. list_any (note_tells tells_refusal) (notes_or o)) (set_same w.crew actor (crew_after values x w.books c) c there)) ∙ fine actor)

turn_calm : (turn : Turn) (w : WorldState Carried) → Facts w → NothingWasRefused (after_turn values turn w) → EachCalm w → EachCalm (after_turn values turn w)
turn_calm turn w facts fine h =
    turn_so values (λ v. NothingWasRefused v → EachCalm v) turn w (λ fine. h)
    (λ actor c x there is fine. record {
      each = λ i d at. ⊎_elim
          (λ here. subst (λ (y : ActorCrew Carried). MemberCalm y.member) here.1
          (member_takes_calm w.books c.member x is (step_fine w actor c x there fine) (facts.upright.each actor c there) (facts.agree.each actor c there) (facts.keys.each actor c there) (facts.live.each actor c there)
          (facts.maps.each actor c there) (h.each actor c there)))
          (λ other. h.each i d other.1)
          (in_set w.crew actor (crew_after values x w.books c) i d at);
    })
    (λ over fine. record {
      each = λ i d at.
          let found = in_map (begins (greatest 0 w.crew)) w.crew i d at in
          subst (λ (y : ActorCrew Carried). MemberCalm y.member) found.2 (member_begins_calm found.0.member);
    })
    fine

run_calm : (turns : List Turn) (w : WorldState Carried) → ((more : List Turn) → Facts (world_run values more w)) → EachCalm w → EachCalm (world_run values turns w)
run_calm [] w ever h = h
run_calm (turn ∷ turns) w ever h = run_calm turns (after_turn values turn w) (λ more. ever (turn ∷ more)) (turn_calm turn w (ever []) (ever (turn ∷ [])).fine h)

opened_calm : (start : Start) → EachCalm (opened_world start)
opened_calm start = record {
  each = (opened_lifted (λ c. MemberCalm c.member) start tt tt (λ number plan there. λ first. let p : PathState Carried = waiting_path (path_begins start number plan) start.lines in (begins_calm p, begins_at p))).each;
}

-- ---- who closes at once

-- an application that never does, by its first duty
abbrev closes : List AppDuty → Bool
closes (apps.FastClose ∷ ds) = true
closes _ = false

abbrev IsOpen : AppState → Type 0
IsOpen a = (a.stops_in ≡ None) × (closes a.agenda ≡ false)

settled_open : (ds : List AppDuty) (a : AppState) → a.stops_in ≡ None → IsOpen (app_settled ds a)
settled_open [] a none = (none, refl)
settled_open (apps.FastClose ∷ ds) a none =
    subst (λ b. IsOpen (if b then record a { agenda = apps.FastClose ∷ ds } else app_settled ds a)) (sym (ap (λ o. is_due o) none)) (settled_open ds a none)
settled_open (d ∷ ds) a none = elim (app_stands d a) as (λ b. IsOpen (if b then record a { agenda = d ∷ ds } else app_settled ds a)) [ true ↦ (none, refl) | false ↦ settled_open ds a none ]

answered_stops : (d : AppDuty) (r : Reply) (a : AppState) → (app_answered d r a).stops_in ≡ a.stops_in
answered_stops apps.FastClose r a = refl
answered_stops _ r a = refl

takes_open : (r : Reply) (a : AppState) → IsOpen a → IsOpen (app_takes r a)
takes_open r a h = settled_open (app_answers a.agenda r a).agenda (app_answers a.agenda r a) (by a.agenda ∙ h.0)
  where
    by : (ds : List AppDuty) → (app_answers ds r a).stops_in ≡ a.stops_in
    by [] = refl
    by (d ∷ ds) = answered_stops d r a

ask_open : (s : Side) (d : AppDuty) (ds : List AppDuty) (a : AppState) → closes (d ∷ ds) ≡ false → asks_fast_close s (app_ask d a) ≡ false
ask_open A d ds a is = by d is
  where
    by : (d : AppDuty) → closes (d ∷ ds) ≡ false → asks_fast_close A (app_ask d a) ≡ false
    by apps.FastClose is = absurd (true≢false is)
    by _ is = refl
ask_open B d ds a is = by d is
  where
    by : (d : AppDuty) → closes (d ∷ ds) ≡ false → asks_fast_close B (app_ask d a) ≡ false
    by apps.FastClose is = absurd (true≢false is)
    by _ is = refl

-- a path never does
path_open : (s : Side) (m : May) (x : Ask) → may m x ≡ true → asks_fast_close s x ≡ false
path_open A m (asks.Control A control_calls.FastClose) is = absurd (true≢false (sym is))
path_open B m (asks.Control B control_calls.FastClose) is = absurd (true≢false (sym is))
path_open _ m _ is = refl

abbrev OpenMember : Actor Carried → Type 0
OpenMember = HoldsOfKind IsOpen (λ p. Unit {0})

abbrev OpenCrew : ActorCrew Carried → Type 0
OpenCrew c = OpenMember c.member × ((s : Side) → list_any (note_asks_fast_close s) c.list ≡ false)

more_none : {X : Type 0} (test : X → Bool) (xs : List X) (y : X) → list_any test xs ≡ false → test y ≡ false → list_any test (xs ++ y ∷ []) ≡ false
more_none test [] y none last = or_from (test y) false last refl
more_none test (x ∷ xs) y none last = let parts = or_parts (test x) (list_any test xs) none in or_from (test x) (list_any test (xs ++ y ∷ [])) parts.0 (more_none test xs y parts.1 last)

pub asks_open : (s : Side) (m : Actor Carried) (x : Ask) → member_asks values m ≡ Some x → OpenMember m → asks_fast_close s x ≡ false
asks_open s (App a) x is h = (elim a.agenda as (λ ds. app_asks_first ds a ≡ Some x → closes ds ≡ false → asks_fast_close s x ≡ false)
    [ [] ↦ λ is none. cc | d ∷ ds ↦ λ is none. subst (λ y. asks_fast_close s y ≡ false) (same_Some _ x is) (ask_open s d ds a none) ]) is h.1
asks_open s (Path p) x is h = (elim p.agenda as (λ ds. asks_first values ds p ≡ Some x → asks_fast_close s x ≡ false)
    [ [] ↦ λ is. cc | d ∷ ds ↦ λ is. subst (λ y. asks_fast_close s y ≡ false) (same_Some _ x is) (path_open s (asking d) (ask_for values d p) (asks_no_more values p d).kind) ]) is

member_takes_open : (r : Reply) (m : Actor Carried) → OpenMember m → OpenMember (member_takes values r m)
member_takes_open r (App a) h = takes_open r a h
member_takes_open r (Path p) h = tt

member_next_open : (m : Actor Carried) → OpenMember m → OpenMember (member_next m)
member_next_open (App a) h = settled_open start_of_app (record a { count = 0; stops_in = a_round_less a.stops_in; agenda = start_of_app }) (ap a_round_less h.0)
member_next_open (Path p) h = tt

pub each_open : (start : Start) (turns : List Turn) → IsMildStart start → Every OpenCrew (world_run values turns (opened_world start)).crew
each_open start turns mild = run_lifted values OpenCrew
    (λ books c x is h. (member_takes_open (answer_to books x) c.member h.0, λ s. more_none (note_asks_fast_close s) c.list (note_of books c.pass x) (h.1 s) (asks_open s c.member x is h.0)))
    (λ stamp c over h. (member_next_open c.member h.0, h.1)) turns (opened_world start)
    (opened_lifted OpenCrew start (first A start.file_a, λ s. refl) (first B start.file_b, λ s. refl) (λ number plan there. (tt, λ s. refl)))
  where
    first : (s : Side) (file : List ℕ) → IsOpen (first_app_turn s start.buffer file (fast_close_of s start.lines))
    first s file = settled_open start_of_app (untouched s start.buffer file (fast_close_of s start.lines)) (ap (λ o. option_map rounds_before o) (mild.stays_open s))

-- no application of such a connection asked for it
pub none_noted : (start : Start) (turns : List Turn) → IsMildStart start → (s : Side) → list_any (note_asks_fast_close s) (notes_of s (world_run values turns (opened_world start)).crew) ≡ false
none_noted start turns mild s = by (slice_get crew (pick s 0 1)) refl
  where
    crew : List (ActorCrew Carried)
    crew = (world_run values turns (opened_world start)).crew

    by : (o : Option (ActorCrew Carried)) → slice_get crew (pick s 0 1) ≡ o → list_any (note_asks_fast_close s) (notes_or o) ≡ false
    by None there = refl
    by (Some c) there = ((each_open start turns mild).each (pick s 0 1) c there).1 s

-- ---- the law

pub stops_speak : (s : Side) → speaks (Voice.Aborts s) (stops s) ≡ true
stops_speak A = refl
stops_speak B = refl

-- a check that fails at RCV.NXT is one of a mapping there
fails_so : (checksums : Bool) (o : Option KeptMapping) (kept : KeptMapping) (tcp : EndState) → checksums ≡ true → o ≡ Some kept → is_there kept tcp.recv.edge (length (filled tcp.recv.places)) ≡ true
    → has_its_sum kept (filled tcp.recv.places) ≡ false → is_some (failing_by checksums o tcp) ≡ true
fails_so false o kept tcp sums here there wrong = absurd (true≢false (sym sums))
fails_so true None kept tcp sums here there wrong = cc
fails_so true (Some k) kept tcp sums here there wrong = let same : k ≡ kept = cc in rw (same, there, wrong) refl

never_fails : (s : Side) (p : PathState Carried) → failing_mapping p.profile (end_at s p) ≡ None → FailsItsCheck s p → ⊥
never_fails s p sound h =
    both_ways _ (ap is_some sound) (fails_so p.profile.spelling.checksums (mapping_here (end_at s p)) h.mapping (end_at s p).tcp h.checksums h.here h.there h.wrong)

pub path_breaks : (p : PathState Carried) → ((s : Side) → failing_mapping p.profile (end_at s p) ≡ None) → ((s : Side) → speaks (Voice.Aborts s) p.agenda ≡ true → ⊥) → Calm p.agenda → IsUnbroken p
path_breaks p sound silent calm = record {
  duties = calm;
  broken = λ s reason is. true≢false (subst Calm is calm);
  is_reset = λ s reason is. true≢false (subst Calm is calm);
  stopped = λ s is. silent s (ap (speaks (Voice.Aborts s)) is ∙ stops_speak s);
  fails = λ s. never_fails s p (sound s);
}

facts : (start : Start) → IsMildStart start → (turns : List Turn) → Facts (world_run values turns (opened_world start))
facts start mild turns = record {
  upright = each_upright start turns mild.plain mild.strips;
  agree = mappings_agree start turns mild.plain.size;
  fine = nothing_refused start turns mild.plain;
  keys = keys_are_known start turns mild;
  live = (what_is_told_is_known values).live start turns;
  maps = each_maps start turns mild;
}

-- the duty that comes first on path 0 is known
pub each_first_known : (start : Start) (turns : List Turn) → IsMildStart start → (actor : ℕ) (c : ActorCrew Carried) → slice_get (world_run values turns (opened_world start)).crew actor ≡ Some c
    → OfPaths (λ p. is_joined p.profile ≡ false → FirstKnown p.agenda p) c.member
each_first_known start turns mild actor c there =
    let all = facts start mild turns in
    by c.member (all.upright.each actor c there) (all.agree.each actor c there) (all.keys.each actor c there) ((run_calm turns (opened_world start) (facts start mild) (opened_calm start)).each actor c there)
  where
    by : (m : Actor Carried) → MemberUpright m → EndsAgree m → OfPaths HasKeys m → MemberCalm m → OfPaths (λ p. is_joined p.profile ≡ false → FirstKnown p.agenda p) m
    by (App a) upright agree keys calm = tt
    by (Path p) upright agree keys calm = λ first. first_known p upright agree (keys first) (calm first).1 first

abbrev NeverBroken : Actor Carried → Type 0
NeverBroken = HoldsOfKind (λ app. Unit {0}) IsNeverBroken

pub never_breaks : IsPromisedMildly values (λ start w. NeverBreaks w)
never_breaks start turns mild = record {
  each = λ actor c there. by c.member ((run_calm turns (opened_world start) (facts start mild) (opened_calm start)).each actor c there) ((each_upright start turns mild.plain mild.strips).each actor c there)
      (stops_are_asked start turns actor c there);
}
  where
    w : WorldState Carried
    w = world_run values turns (opened_world start)

    by : (m : Actor Carried) → MemberCalm m → MemberUpright m → StopsAreAsked w m → NeverBroken m
    by (App a) calm upright asked = tt
    by (Path p) calm upright asked = λ first. path_breaks p upright.passes.sound
        (λ s spoken. both_ways _ (none_noted start turns mild (peer s)) (asked s spoken)) (calm first).0

-- ---- over octets

pub shown_unbroken : (p : PathState Carried) → IsUnbroken p → IsUnbroken (shown_path p)
shown_unbroken p h = record {
  duties = h.duties;
  broken = h.broken;
  is_reset = h.is_reset;
  stopped = h.stopped;
  fails = λ s x. h.fails s (record { others = x.others; first = x.first; checksums = x.checksums; mapping = x.mapping; here = x.here; there = x.there; wrong = x.wrong });
}

shown_breaks : (m : Actor Carried) → NeverBroken m → HoldsOfKind (λ app. Unit {0}) IsNeverBroken (shown_member m)
shown_breaks (App a) h = tt
shown_breaks (Path p) h = λ first. shown_unbroken p (h first)

world_breaks : (w : WorldState Carried) → NeverBreaks w → NeverBreaks (shown_world w)
world_breaks w h = record {
  each = λ i c there.
      let found = in_map shown_crew w.crew i c there in
      subst (λ (y : ActorCrew (List ℕ)). HoldsOfKind (λ app. Unit {0}) IsNeverBroken y.member) found.2 (shown_breaks found.0.member (h.each i found.0 found.1));
}

pub never_breaks_in_octets : IsPromisedMildly octets (λ start w. NeverBreaks w)
never_breaks_in_octets start turns mild =
    subst NeverBreaks (sym (run_fresh start turns mild.plain.size mild.fit)) (world_breaks (world_run values turns (opened_world start)) (never_breaks start turns mild))
