-- Where no options are taken away and no payload is altered, no side falls back: no path asks anything by which its side can.
use Rattle.world_laws.proofs.Words.{◌≡◌, refl, sym, ◌∙◌, ap, subst, ℕ, zero, suc, ◌+◌, ◌&&◌, ◌||◌, ◌==◌, not, nat_lt, inl, inr, ◌⊎◌, ⊎_elim, Bool, true, false}
use Rattle.world_laws.proofs.Words.{if◌then◌else◌, Some, None, List, [], ◌∷◌, arith, is_none, lt-ltb, or_cases, and_parts, both_ways, false≢true}
use Rattle.world_laws.proofs.Words.{same_Some, slice_get, Verdict, Mode, FallEvent, is_identity, is_infinite, is_starting, reads_mappings, with_infinite_receive, with_infinite_send}
use Rattle.world_laws.proofs.Words.{writes_mappings, Fall, is_failed_path, goes, fall_step, Stay, SendFail, Side, A, B, ScriptLine, ControlCall, sole, Control}
use Rattle.world_laws.proofs.Words.{opening, is_waiting, is_stripped_by, start_of_turn, Duty, SendDuty, StepDuty, AskDuty, Ask, Reply, StampedBooks, books_in}
use Rattle.world_laws.proofs.Words.{SixBooks, control_of, after_ask, is_nil, AppDuty, AppState, app_ask, app_asks_first, ask_for, waiting_path, PathState}
use Rattle.world_laws.proofs.Words.{end_at, with_agenda, asks_first, takes, begins_turn, next_round, Carried, values, is_joined, nothing_treated, in_map}
use Rattle.world_laws.proofs.Words.{Every-nil, in_set, Every, App, Path, Actor, ActorCrew, member_asks, member_takes, member_next, is_over, PathPlan, Start}
use Rattle.world_laws.proofs.Words.{path_begins, opened_world, start_of, WorldState, Turn, crew_after, asked, greatest, begins, after_turn}
use Rattle.world_laws.proofs.Words.{world_run, IsPlain, PathView, side_of, answer_to, may, asking, IsAt}
use Rattle.world_laws.proofs.Worlds.Turns.{turn_so}
use Rattle.control_book.specs.Steps as controlling
use Rattle.fallback_state.specs.Table.{breaks, stays}
use Rattle.link_script.specs.declared.script.Happens.TheVariants.{Stripped}
use Rattle.link_script.specs.declared.script.ScriptLine.TheVariants.{OnSegment, StripAll}
use Rattle.world_laws.specs.ModesSoFar.{was_ever}
use Rattle.world_laws.specs.NeverFalls.{IsPromisedWhole, IsPromisedWholeOfOctets, IsWhole, NeverFalls, WholeScriptsNeverFall, is_fallen_back, strips_options}
use Rattle.world_laws.proofs.Falls.ByTheJournal.{Was, was_more, was_now, was_wider}
use Rattle.world_laws.proofs.Falls.ChecksPass.{MemberPasses, PathPasses, checks_pass, each_passes}
use Rattle.world_laws.proofs.Keys.ByJournals.{Causes, Knows, run_causes}
use Rattle.world_laws.proofs.Keys.DssIsTheSign.{LeadsWell, begins_lead, next_leads, takes_leads}
use Rattle.world_laws.proofs.Lanes.Saying.{every_one}
use Rattle.world_laws.proofs.Keys.SureMaySend.{call_mode}
use Rattle.world_laws.proofs.Keys.ToldAreOwn.{Joined}
use Rattle.world_laws.proofs.Keys.WhatWakes.{Voice, first_speaks, is_said_by, itself, speaks}
use Rattle.world_laws.proofs.Promises.Made.{run_fresh}
use Rattle.world_laws.proofs.Promises.OfScripts.{none_passes, plain_scripts_start_plainly}
use Rattle.world_laws.proofs.Rounds.Lifting.{all_over_each, opened_lifted}
use Rattle.world_laws.proofs.Weaving.Journals.{books_after}
use Rattle.world_laws.proofs.Whole.Answering.{asks_calmly, next_holds, starts_holds, takes_holds}
use Rattle.world_laws.proofs.Whole.Bytes.{EndsWell, NoneBelow}
use Rattle.world_laws.proofs.Whole.Doing.{PathPlain}
use Rattle.world_laws.proofs.Whole.Ends.{TreatedIs}
use Rattle.world_laws.proofs.Whole.Happening.{CalmEvent, Holds, IsCalm}
use Rattle.world_laws.proofs.Whole.Paths.{PathIs}
use Rattle.world_laws.proofs.Worlds.Casts.{Cast, world_of}
use Rattle.world_laws.proofs.Worlds.CastLifting.{each_actor}
use Rattle.world_laws.proofs.Writes.Asks.{asks_no_more}
use Rattle.world_laws.proofs.Writes.Paths.{passes_no_more, writes_no_more}
use Rattle.world_laws.proofs.Writes.Steps.{Lasts, begins_lasts, takes_lasts}

-- ---- control books

-- a side in plain TCP was so before
abbrev WasPlain : Fall → Fall → Type 0
WasPlain f g = is_identity g.mode ≡ true → is_identity f.mode ≡ true

row_plain : (b : Bool) (f : Fall) (x y : Fall × Verdict) → (b ≡ true → WasPlain f x.0) → (b ≡ false → WasPlain f y.0) → WasPlain f (if b then x else y).0
row_plain = elim [ true ↦ λ f x y one other. one refl | false ↦ λ f x y one other. other refl ]

receiving_plain : (m : Mode) → is_identity (with_infinite_receive m) ≡ true → ⊥
receiving_plain Mode.Starting is = false≢true is
receiving_plain Mode.InfiniteSend is = false≢true is
receiving_plain _ is = false≢true is

sending_plain : (m : Mode) → is_identity (with_infinite_send m) ≡ true → ⊥
sending_plain Mode.Starting is = false≢true is
sending_plain Mode.InfiniteReceive is = false≢true is
sending_plain _ is = false≢true is

plain_joined : (f : Fall) → f.joined ≡ true → WasPlain f (if is_starting f.mode && not f.joined then goes Mode.Identity f else stays f).0
plain_joined f joined =
    row_plain (is_starting f.mode && not f.joined) f (goes Mode.Identity f) (stays f) (λ is now. absurd (false≢true (ap not (sym joined) ∙ (and_parts (is_starting f.mode) (not f.joined) is).1))) (λ is now. now)

-- no event makes a side fall that joined, nor does one that a path on which nothing is stripped tells
abbrev MayTell : FallEvent → Fall → Type 0
MayTell event f = CalmEvent event ⊎ (f.joined ≡ true)

surely : (event : FallEvent) (f : Fall) → (CalmEvent event → ⊥) → MayTell event f → f.joined ≡ true
surely event f never (inl calm) = absurd (never calm)
surely event f never (inr joined) = joined

event_plain : (f : Fall) (path : ℕ) (only : Bool) (event : FallEvent) → MayTell event f → WasPlain f (fall_step f path only event).0
event_plain f path only FallEvent.PlainHandshake may = plain_joined f (surely FallEvent.PlainHandshake f (λ never. never) may)
event_plain f path only FallEvent.PlainData may = plain_joined f (surely FallEvent.PlainData f (λ never. never) may)
event_plain f path only FallEvent.PlainAck may = plain_joined f (surely FallEvent.PlainAck f (λ never. never) may)
event_plain f path only FallEvent.KeysHeard may = row_plain (is_identity f.mode) f (stays f) (record f { confirmed = true }, Stay) (λ is now. now) (λ is now. now)
event_plain f path only FallEvent.MappingHeard may = row_plain (is_starting f.mode) f (goes Mode.Sure f) (stays f) (λ is now. absurd (false≢true now)) (λ is now. now)
event_plain f path only FallEvent.AckHeard may = row_plain (is_starting f.mode) f (goes Mode.Sure f) (stays f) (λ is now. absurd (false≢true now)) (λ is now. now)
event_plain f path only FallEvent.InfiniteHeard may =
    let joined = surely FallEvent.InfiniteHeard f (λ never. never) may in
    row_plain (not (reads_mappings f.mode)) f (stays f) _ (λ is now. now)
    (λ reads. row_plain (only && is_failed_path f.failed path) f (goes (with_infinite_receive f.mode) f) _ (λ is now. absurd (receiving_plain f.mode now))
    (λ other. row_plain (writes_mappings f.mode && not f.joined && is_none f.failed) f (goes Mode.Identity f) (breaks 1 f)
    (λ is now. absurd (false≢true (ap not (sym joined) ∙ (and_parts (writes_mappings f.mode) (not f.joined) (and_parts (writes_mappings f.mode && not f.joined) (is_none f.failed) is).0).1))) (λ is now. now)))
event_plain f path only FallEvent.CheckFailed may =
    row_plain (not (reads_mappings f.mode)) f (stays f) _ (λ is now. now) (λ reads. row_plain only f (record f { failed = Some path }, SendFail) (breaks 6 f) (λ is now. now) (λ is now. now))
event_plain f path only (FallEvent.FailHeard contiguous) may =
    row_plain (not (writes_mappings f.mode)) f (stays f) _ (λ is now. now) (λ writes. row_plain (only && contiguous) f (goes (with_infinite_send f.mode) f) (breaks 1 f) (λ is now. absurd (sending_plain f.mode now)) (λ is now. now))
event_plain f path only FallEvent.Stop may = λ now. absurd (false≢true now)

abbrev MayCall : ControlCall → Fall → Type 0
MayCall (ControlCall.Fell path event) f = MayTell event f
MayCall _ f = Unit {0}

call_plain : (c : Control) (call : ControlCall) → MayCall call c.fall → WasPlain c.fall (controlling.after c call).fall
call_plain c (ControlCall.Fell path event) may = event_plain c.fall path (sole c.paths path) event may
call_plain c ControlCall.FastClose may = λ now. absurd (false≢true now)
call_plain c (ControlCall.FastHeard key) may = elim (key == c.keys.own) as (λ b. WasPlain c.fall (if b then controlling.after_event 0 false FallEvent.Stop c else c).fall)
    [ true ↦ λ now. absurd (false≢true now) | false ↦ λ now. now ]
call_plain c call may = λ now. ap is_identity (sym (call_mode c call tt tt)) ∙ now

-- what may be asked of these books
abbrev MayAsk : SixBooks → Ask → Type 0
MayAsk six (Ask.Control s call) = MayCall call (control_of s six).fall
MayAsk six _ = Unit {0}

ask_plain : (six : SixBooks) (x : Ask) → MayAsk six x → (s : Side) → WasPlain (control_of s six).fall (control_of s (after_ask x six)).fall
ask_plain six (Ask.Control A call) may A = call_plain six.control_a call may
ask_plain six (Ask.Control B call) may B = call_plain six.control_b call may
ask_plain six (Ask.Send A call) may A = λ now. now
ask_plain six (Ask.Reassembly A call) may A = λ now. now
ask_plain six _ may _ = λ now. now

calm_may : (six : SixBooks) (x : Ask) → IsCalm x → MayAsk six x
calm_may six (Ask.Control s (ControlCall.Fell path event)) calm = inl calm
calm_may six (Ask.Control s (ControlCall.Look path)) calm = tt
calm_may six (Ask.Control s _) calm = tt
calm_may six (Ask.Send s call) calm = tt
calm_may six _ calm = tt

app_may : (six : SixBooks) (d : AppDuty) (a : AppState) → MayAsk six (app_ask d a)
app_may six AppDuty.FastClose a = tt
app_may six _ a = tt

-- ---- a path that joins

-- a duty that tells of Multipath TCP is said by its side
fell_said : (d : Duty) → (asking d).fell ≡ true → is_said_by (Voice.Says (side_of d)) d ≡ true
fell_said (Duty.Ask (AskDuty.PlainHandshake s)) is = itself s
fell_said (Duty.Ask (AskDuty.PeerKey s)) is = itself s
fell_said (Duty.Ask (AskDuty.Opened s)) is = itself s
fell_said (Duty.Ask (AskDuty.AckHeard s)) is = itself s
fell_said (Duty.Ask (AskDuty.FailHeard s)) is = itself s
fell_said (Duty.Ask (AskDuty.PlainData s)) is = itself s
fell_said (Duty.Ask (AskDuty.CheckFailed s)) is = itself s
fell_said (Duty.Step (StepDuty.Heard s index)) is = itself s
fell_said (Duty.Step (StepDuty.PlainAck s)) is = itself s
fell_said (Duty.Step (StepDuty.Look s)) is = absurd (false≢true is)
fell_said (Duty.Send (SendDuty.Update s)) is = absurd (false≢true is)
fell_said _ is = absurd (false≢true is)

fall_joined : (six : SixBooks) (s : Side) → Joined six s → (control_of s six).fall.joined ≡ true
fall_joined six A is = is
fall_joined six B is = is

joined_may : (six : SixBooks) (p : PathState Carried) (d : Duty) (ds : List Duty) → ((s : Side) → speaks (Voice.Says s) (d ∷ ds) ≡ true → Joined six s) → MayAsk six (ask_for values d p)
joined_may six p d ds said = by (ask_for values d p) (asks_no_more values p d).kind (asks_no_more values p d).side
  where
    by : (x : Ask) → may (asking d) x ≡ true → IsAt (side_of d) x → MayAsk six x
    by (Ask.Control s (ControlCall.Fell path event)) kind at = inr (subst (λ t. (control_of t six).fall.joined ≡ true) (sym at) (fall_joined six (side_of d) (said (side_of d) (first_speaks (Voice.Says (side_of d)) d ds (fell_said d kind)))))
    by (Ask.Control s (ControlCall.Look path)) kind at = tt
    by (Ask.Control s _) kind at = tt
    by (Ask.Send s call) kind at = tt
    by _ kind at = tt

-- ---- the profile of a path never changes

profile_lasts : Lasts {C = Carried} (λ p q. q.profile ≡ p.profile)
profile_lasts = record {
  agenda = λ ds p. refl;
  chains = λ p q r one other. other ∙ one;
  passes = λ d p. ap (λ (v : PathView Carried). v.profile) (passes_no_more d p).same;
}

takes_profile : (r : Reply) (p : PathState Carried) → (takes values r p).profile ≡ p.profile
takes_profile r p = takes_lasts (λ p q. q.profile ≡ p.profile) profile_lasts values r p (λ d. ap (λ (v : PathView Carried). v.profile) (writes_no_more values d r p).same)

begins_profile : (p : PathState Carried) → (begins_turn p).profile ≡ p.profile
begins_profile p = begins_lasts (λ p q. q.profile ≡ p.profile) profile_lasts p

next_profile : (p : PathState Carried) → (next_round p).profile ≡ p.profile
next_profile p = begins_profile (record p { clock = p.until; until = p.until + 100 })

-- ---- the world

-- what is known of a path at a moment
record PathKnown (books : StampedBooks) (p : PathState Carried) : Type 0 where
  passes : PathPasses p
  fell : (s : Side) → (end_at s p).modes.identity ≡ true → Was is_identity books s
  waits : is_waiting p.a.tcp.state ≡ true → is_joined p.profile ≡ true
  said : is_joined p.profile ≡ true → (s : Side) → speaks (Voice.Says s) p.agenda ≡ true → Joined (books_in books) s

abbrev MemberKnown : StampedBooks → Actor Carried → Type 0
MemberKnown books (App a) = Unit {0}
MemberKnown books (Path p) = PathKnown books p

record EachKnown (w : WorldState Carried) : Type 0 where
  each : (actor : ℕ) (c : ActorCrew Carried) → slice_get w.crew actor ≡ Some c → MemberKnown w.books c.member

abbrev CausesKnown : StampedBooks → Actor Carried → Type 0
CausesKnown books (App a) = Unit {0}
CausesKnown books (Path p) =
    ((s : Side) → (end_at s p).modes.identity ≡ true → Was is_identity books s) × ((is_waiting p.a.tcp.state ≡ true → is_joined p.profile ≡ true)
    × (is_joined p.profile ≡ true → (s : Side) → speaks (Voice.Says s) p.agenda ≡ true → Joined (books_in books) s))

each_known : (start : Start) (turns : List Turn) → IsPlain start → EachKnown (world_run values turns (opened_world start))
each_known start turns plain = record { each = λ actor c there. by actor c there (all actor c there) }
  where
    w : WorldState Carried
    w = world_run values turns (opened_world start)

    of_cast : (t : Cast Carried) → Causes start t → (actor : ℕ) (c : ActorCrew Carried) → slice_get (world_of t).crew actor ≡ Some c → CausesKnown t.books c.member
    of_cast t h = each_actor (λ actor c. CausesKnown t.books c.member) t tt tt (λ number x there. one x.path (h.paths.each number x there))
      where
        one : (p : PathState Carried) → Knows start t p → CausesKnown t.books (Path p)
        one p k = (fell, (k.is.waits, λ joins s spoken. (k.is.known (Voice.Says s) spoken joins).0))
          where
            fell : (s : Side) → (end_at s p).modes.identity ≡ true → Was is_identity t.books s
            fell = elim [ A ↦ λ is. (k.is.a.modes.fell is).1.1 | B ↦ λ is. (k.is.b.modes.fell is).1.1 ]

    all : (actor : ℕ) (c : ActorCrew Carried) → slice_get w.crew actor ≡ Some c → CausesKnown w.books c.member
    all = let run = run_causes start turns in
        subst (λ (v : WorldState Carried). (actor : ℕ) (c : ActorCrew Carried) → slice_get v.crew actor ≡ Some c → CausesKnown v.books c.member) (sym run.is) (of_cast run.cast run.holds)

    by : (actor : ℕ) (c : ActorCrew Carried) → slice_get w.crew actor ≡ Some c → CausesKnown w.books c.member → MemberKnown w.books c.member
    by actor c there known = (elim c.member as (λ m. MemberPasses m → CausesKnown w.books m → MemberKnown w.books m) [
      | App a ↦ λ passes known. tt
      | Path p ↦ λ passes known. record { passes = passes; fell = known.0; waits = known.1.0; said = known.1.1 }
    ]) ((each_passes start turns plain).each actor c there) known

-- what path 0 keeps from one moment to the next
abbrev PathStands : PathState Carried → Type 0
PathStands p = is_joined p.profile ≡ false → LeadsWell p × Holds p

abbrev MemberStands : Actor Carried → Type 0
MemberStands (App a) = Unit {0}
MemberStands (Path p) = PathStands p

abbrev CrewStands : ActorCrew Carried → Type 0
CrewStands c = MemberStands c.member

abbrev Never : StampedBooks → Type 0
Never books = (s : Side) → Was is_fallen_back books s → ⊥

record Upright (w : WorldState Carried) : Type 0 where
  never : Never w.books
  crew : Every CrewStands w.crew

identity_falls : (m : Mode) → is_identity m ≡ true → is_fallen_back m ≡ true
identity_falls m is = ap (λ b. b || is_infinite m) is

not_now : (books : StampedBooks) (s : Side) → Never books → is_identity (control_of s (books_in books)).fall.mode ≡ true → ⊥
not_now books s never now = never s (was_now is_fallen_back books s (identity_falls (control_of s (books_in books)).fall.mode now))

no_identity : (books : StampedBooks) (p : PathState Carried) → Never books → PathKnown books p → (s : Side) → (end_at s p).modes.identity ≡ false
no_identity books p never known s = (elim (end_at s p).modes.identity as (λ b. (end_at s p).modes.identity ≡ b → b ≡ false)
    [ false ↦ λ is. refl | true ↦ λ is. absurd (never s (was_wider is_identity is_fallen_back identity_falls books s (known.fell s is))) ]) refl

path_plain : (books : StampedBooks) (p : PathState Carried) → Never books → PathKnown books p → is_joined p.profile ≡ false → PathPlain p
path_plain books p never known first = record {
  a = record { identity = no_identity books p never known A; own = known.passes.mapped A; unfinished = known.passes.unfinished A };
  b = record { identity = no_identity books p never known B; own = known.passes.mapped B; unfinished = known.passes.unfinished B };
  waits = by (is_waiting p.a.tcp.state) refl;
}
  where
    by : (b : Bool) → is_waiting p.a.tcp.state ≡ b → b ≡ false
    by false is = refl
    by true is = absurd (both_ways (is_joined p.profile) first (known.waits is))

-- ---- a step

member_may : (books : StampedBooks) (m : Actor Carried) (x : Ask) → member_asks values m ≡ Some x → MemberKnown books m → MemberStands m → MayAsk (books_in books) x
member_may books (App a) x is known h = (elim a.agenda as (λ ds. app_asks_first ds a ≡ Some x → MayAsk (books_in books) x)
    [ [] ↦ λ is. cc | d ∷ ds ↦ λ is. subst (MayAsk (books_in books)) (same_Some _ x is) (app_may (books_in books) d a) ]) is
member_may books (Path p) x is known h = (elim (is_joined p.profile) as (λ b. is_joined p.profile ≡ b → MayAsk (books_in books) x)
    [ true ↦ λ joins. joined p.agenda refl is joins | false ↦ λ first. calm_may (books_in books) x (asks_calmly p known.passes.settled (h first).1 x is) ]) refl
  where
    joined : (ds : List Duty) → p.agenda ≡ ds → asks_first values ds p ≡ Some x → is_joined p.profile ≡ true → MayAsk (books_in books) x
    joined [] same is joins = cc
    joined (d ∷ ds) same is joins =
        subst (MayAsk (books_in books)) (same_Some _ x is) (joined_may (books_in books) p d ds (λ s spoken. known.said joins s (subst (λ xs. speaks (Voice.Says s) xs ≡ true) (sym same) spoken)))

member_takes_stands : (books : StampedBooks) (m : Actor Carried) (r : Reply) → Never books → MemberKnown books m → MemberStands m → MemberStands (member_takes values r m)
member_takes_stands books (App a) r never known h = tt
member_takes_stands books (Path p) r never known h = λ first.
    let was : is_joined p.profile ≡ false = ap is_joined (sym (takes_profile r p)) ∙ first in
    let both = h was in
    (takes_leads values r p known.passes.settled both.0, takes_holds r p known.passes.settled both.0 (path_plain books p never known was) both.1)

member_begins_stands : (m : Actor Carried) → is_over m ≡ true → MemberStands m → MemberStands (member_next m)
member_begins_stands (App a) over h = tt
member_begins_stands (Path p) over h = λ first.
    let both = h (ap is_joined (sym (next_profile p)) ∙ first) in (next_leads p both.0, next_holds p (over_nil p.agenda over) both.0 both.1)
  where
    over_nil : (ds : List Duty) → is_nil ds ≡ true → ds ≡ []
    over_nil = elim [ [] ↦ λ is. refl | d ∷ ds ↦ λ is. absurd (false≢true is) ]

abbrev Finite : WorldState Carried → Type 0
Finite w = (s : Side) → is_infinite (control_of s (books_in w.books)).fall.mode ≡ false

turn_upright : (turn : Turn) (w : WorldState Carried) → EachKnown w → Finite (after_turn values turn w) → Upright w → Upright (after_turn values turn w)
turn_upright turn w known finite h =
    turn_so values (λ v. Finite v → Upright v) turn w (λ finite. h)
    (λ actor c x there is finite. record {
      never = λ s was. ⊎_elim (λ before. h.never s before) (λ now. ⊎_elim
          (λ plain. not_now w.books s h.never (ask_plain (books_in w.books) x (member_may w.books c.member x is (known.each actor c there) (h.crew.each actor c there)) s
          (subst (λ (six : SixBooks). is_identity (control_of s six).fall.mode ≡ true) (books_after x c.pass w.books) plain)))
          (λ infinite. both_ways _ (finite s) infinite)
          (or_cases (is_identity (control_of s (books_in (asked values actor (Some x) c w).books)).fall.mode) (is_infinite (control_of s (books_in (asked values actor (Some x) c w).books)).fall.mode) now))
          (was_more is_fallen_back x c.pass w.books s was);
      crew = record {
        each = λ i d at. ⊎_elim
            (λ here. subst CrewStands here.1 (member_takes_stands w.books c.member (answer_to w.books x) h.never (known.each actor c there) (h.crew.each actor c there)))
            (λ other. h.crew.each i d other.1)
            (in_set w.crew actor (crew_after values x w.books c) i d at);
      };
    })
    (λ over finite. record {
      never = h.never;
      crew = record {
        each = λ i d at.
            let found = in_map (begins (greatest 0 w.crew)) w.crew i d at in
            subst CrewStands found.2 (member_begins_stands found.0.member (all_over_each w.crew i found.0 over found.1) (h.crew.each i found.0 found.1));
      };
    })
    finite

run_upright : (turns : List Turn) (w : WorldState Carried) → ((more : List Turn) → EachKnown (world_run values more w)) → ((more : List Turn) → Finite (world_run values more w)) → Upright w → Upright (world_run values turns w)
run_upright [] w ever finite h = h
run_upright (turn ∷ turns) w ever finite h =
    run_upright turns (after_turn values turn w) (λ more. ever (turn ∷ more)) (λ more. finite (turn ∷ more)) (turn_upright turn w (ever []) (finite (turn ∷ [])) h)

-- ---- the opening

first_is : (start : Start) (plan : PathPlan) → IsPlain start → IsWhole start → PathIs start_of_turn (with_agenda start_of_turn (waiting_path {C = Carried} (path_begins start 0 plan) start.lines))
first_is start plan plain whole = record {
  first = refl;
  joins = refl;
  strips = whole 0;
  alters = plain.unaltered 0;
  a = record {
    base = record { sends = opening_well; low = inr (opening_low, refl); fin_at = tt; finite = refl; apart = refl; keyed = λ same has. absurd (false≢true has); treated = nothing_is };
    says = inr (record { past = refl; still = inr (record { state = refl; syns = every_one _ refl; some = refl }) });
  };
  b = record {
    base = record { sends = opening_well; low = inr (opening_low, refl); fin_at = tt; finite = refl; apart = refl; keyed = λ same has. absurd (false≢true has); treated = nothing_is };
    says = inr (record { past = refl; still = inl refl });
  };
  copies = Every-nil _;
  marked = λ x is. absurd (false≢true is);
}
  where
    opening_well : EndsWell opening
    opening_well = record { within = every_one _ (omega arith); fins = every_one _ (λ is. absurd (false≢true is)) }

    opening_low : NoneBelow 1 opening
    opening_low = record { reached = omega arith; above = every_one _ (inl refl) }

    nothing_is : TreatedIs nothing_treated None
    nothing_is = record { plain = refl; opens = λ is. absurd (false≢true is); holds = tt; finite = refl; answer = tt }

opened_upright : (start : Start) → IsPlain start → IsWhole start → Upright (opened_world start)
opened_upright start plain whole = record { never = never; crew = opened_lifted CrewStands start tt tt (λ number plan there. first_turn_is number plan) }
  where
    never : Never (opened_world {C = Carried} start).books
    never = elim [ A ↦ λ was. false≢true was | B ↦ λ was. false≢true was ]

    leads : (number : ℕ) (plan : PathPlan) → LeadsWell (waiting_path {C = Carried} (path_begins start number plan) start.lines)
    leads number plan = record { led = tt; clear = inr (record { n = 0; none = inr tt; follows = tt }) }

    first_turn_is : (number : ℕ) (plan : PathPlan) → PathStands (begins_turn (waiting_path (path_begins start number plan) start.lines))
    first_turn_is zero plan first = (begins_lead _ (leads 0 plan), starts_holds _ (leads 0 plan) (first_is start plan plain whole))
    first_turn_is (suc number) plan first =
        absurd (both_ways (nat_lt 0 (suc number)) (ap is_joined (sym (begins_profile (waiting_path (path_begins start (suc number) plan) start.lines))) ∙ first) (lt-ltb 0 (suc number) (omega arith)))

-- ---- the law

never_false : (books : StampedBooks) (s : Side) → Never books → (b : Bool) → (b ≡ true → Was is_fallen_back books s) → b ≡ false
never_false books s never true was = absurd (never s (was refl))
never_false books s never false was = refl

run_upright_so : (start : Start) (turns : List Turn) → IsPlain start → IsWhole start → Upright (world_run values turns (opened_world start))
run_upright_so start turns plain whole = run_upright turns (opened_world start) (λ more. each_known start more plain) (λ more. (checks_pass start more plain).finite) (opened_upright start plain whole)

pub sides_never_fall : IsPromisedWhole NeverFalls
sides_never_fall start turns plain whole s =
    let w : WorldState Carried = world_run values turns (opened_world start) in
    let h : Upright w = run_upright_so start turns plain whole in
    never_false w.books s h.never (was_ever is_fallen_back s w) (λ is. is)

-- ---- what is known of each path

-- no end is in plain TCP; what path 0 keeps besides
pub record PathUpright (p : PathState Carried) : Type 0 where
  pub passes : PathPasses p
  pub identity : (s : Side) → (end_at s p).modes.identity ≡ false
  pub holds : is_joined p.profile ≡ false → Holds p

abbrev pub MemberUpright : Actor Carried → Type 0
MemberUpright (App a) = Unit {0}
MemberUpright (Path p) = PathUpright p

pub record EachUpright (w : WorldState Carried) : Type 0 where
  pub each : (actor : ℕ) (c : ActorCrew Carried) → slice_get w.crew actor ≡ Some c → MemberUpright c.member

pub each_upright : IsPromisedWhole EachUpright
each_upright start turns plain whole = record { each = λ actor c there. by c.member ((each_known start turns plain).each actor c there) (h.crew.each actor c there) }
  where
    w : WorldState Carried
    w = world_run values turns (opened_world start)

    h : Upright w
    h = run_upright_so start turns plain whole

    by : (m : Actor Carried) → MemberKnown w.books m → MemberStands m → MemberUpright m
    by (App a) known stands = tt
    by (Path p) known stands = record { passes = known.passes; identity = no_identity w.books p h.never known; holds = λ first. (stands first).1 }

-- ---- over octets, and by scripts

pub never_in_octets : IsPromisedWholeOfOctets NeverFalls
never_in_octets start turns plain whole fit =
    let w : WorldState Carried = world_run values turns (opened_world start) in
    let h : NeverFalls w = sides_never_fall start turns plain whole in
    subst NeverFalls (sym (run_fresh start turns plain.size fit)) (λ s. h s)

pub never_strips : (from : Side) (number now : ℕ) (line : ScriptLine) → strips_options line ≡ false → is_stripped_by from number now line ≡ false
never_strips from number now (OnSegment segment Stripped) is = absurd (false≢true (sym is))
never_strips from number now (StripAll path side tick) is = absurd (false≢true (sym is))
never_strips from number now line is = refl

pub scripts_never_fall : WholeScriptsNeverFall
scripts_never_fall script file_a file_b turns h strips =
    let starts = plain_scripts_start_plainly script file_a file_b h in
    never_in_octets (start_of script file_a file_b) turns starts.0
    (λ path. record { strips = λ from number now. none_passes strips_options (is_stripped_by from number now) (never_strips from number now) path script.lines strips }) starts.1
