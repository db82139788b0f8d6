-- No side of a mild connection is stopped: no application asks for a fast close, so that none is heard.
use Rattle.std.proofs.Common.{◌≡◌, refl, sym, subst, ap, ◌∙◌, ⊎_elim, ℕ, ◌&&◌, not, Bool, true, false, true≢false, if◌then◌else◌, is_none, Option, Some, None, List, [], ◌∷◌}
use Rattle.std.specs.List.{list_any, slice_get}
use Rattle.std.proofs.lemmas.Bool.{both_ways}
use Rattle.std.proofs.lemmas.Option.{same_Some}
use Rattle.sides.specs.declared.side.Side.{Side}
use Rattle.sides.specs.declared.side.Side.TheVariants.{A, B}
use Rattle.sides.specs.Side.{peer}
use Rattle.fallback_state.specs.declared.fall.Fall.{Fall}
use Rattle.fallback_state.specs.declared.fall.Event.{Event as FallEvent}
use Rattle.fallback_state.specs.declared.fall.Event.TheVariants as events
use Rattle.fallback_state.specs.declared.fall.Mode.{Mode}
use Rattle.fallback_state.specs.declared.fall.Mode.TheVariants as modes
use Rattle.fallback_state.specs.declared.fall.Verdict.{Verdict}
use Rattle.fallback_state.specs.Modes.{is_identity, is_starting, reads_mappings, with_infinite_receive, with_infinite_send, writes_mappings}
use Rattle.fallback_state.specs.Table.{breaks, fall_step, goes, is_failed_path, stays}
use Rattle.control_book.specs.declared.call.ControlCall.{ControlCall}
use Rattle.control_book.specs.declared.call.ControlCall.TheVariants as control_calls
use Rattle.control_book.specs.Control.{Control}
use Rattle.control_book.specs.Registry.{sole}
use Rattle.control_book.specs.Replies.{is_aborted}
use Rattle.control_book.specs.Steps as controlling
use Rattle.send_book.specs.declared.call.SendCall.TheVariants as send_calls
use Rattle.reassembly_book.specs.declared.call.ReassemblyCall.{ReassemblyCall}
use Rattle.actor_desk.specs.declared.ask.LocalStep.{LocalStep}
use Rattle.actor_desk.specs.Books.{StampedBooks, books_in}
use Rattle.actor_desk.specs.Desk.{SixBooks, after_ask, control_of}
use Rattle.actor_desk.specs.declared.ask.Ask.{Ask}
use Rattle.actor_desk.specs.declared.ask.Ask.TheVariants as asks
use Rattle.stream_apps.specs.declared.duty.AppDuty.{AppDuty}
use Rattle.stream_apps.specs.declared.duty.AppDuty.TheVariants as app_duties
use Rattle.stream_apps.specs.Apps.{AppState}
use Rattle.stream_apps.specs.AppSteps.{app_ask, app_asks_first}
use Rattle.path_agenda.specs.declared.duty.Duty.{Duty}
use Rattle.path_agenda.specs.declared.duty.Duty.TheVariants as duties
use Rattle.path_agenda.specs.declared.duty.AskDuty.{AskDuty}
use Rattle.path_agenda.specs.declared.duty.AskDuty.TheVariants as ask_duties
use Rattle.path_agenda.specs.declared.duty.StepDuty.TheVariants as step_duties
use Rattle.path_agenda.specs.declared.heard.Heard.{Heard}
use Rattle.path_agenda.specs.declared.heard.Heard.TheVariants as says
use Rattle.path_core.specs.DssIn.{is_clash}
use Rattle.path_core.specs.Duties.{ask_for}
use Rattle.path_core.specs.Fallback.{may_go_infinite}
use Rattle.path_core.specs.State.{PathState, end_at}
use Rattle.path_core.specs.Steps.{asks_first}
use Rattle.path_core.specs.Treating.{item_ask, item_of}
use Rattle.path_core.specs.Addresses.{notice_ask}
use Rattle.path_agenda.specs.declared.notice.PeerNotice.{PeerNotice}
use Rattle.path_agenda.specs.declared.notice.PeerNotice.TheVariants as notes
use Rattle.path_core.specs.Values.{Carried, values}
use Rattle.world_laws.specs.declared.member.Member.TheVariants.{App, Path}
use Rattle.world_laws.specs.AbortCause.{asks_fast_close, note_asks_fast_close}
use Rattle.world_laws.specs.Actors.{Actor, ActorCrew, member_asks}
use Rattle.world_laws.specs.Asking.{May, asking, may}
use Rattle.world_laws.specs.ModesSoFar.{was_ever}
use Rattle.world_laws.specs.Openings.{Start, opened_world}
use Rattle.world_laws.specs.Outcomes.{notes_of}
use Rattle.world_laws.specs.Worlds.{WorldState, Turn, after_turn, world_run}
use Rattle.world_laws.proofs.Falls.ByTheJournal.{Was, was_more, was_now}
use Rattle.world_laws.proofs.Keys.ByJournals.{Causes, Facts, Knows, run_causes, seat_of}
use Rattle.world_laws.proofs.Keys.Held.{end_is}
use Rattle.world_laws.proofs.Keys.SureMaySend.{call_mode}
use Rattle.world_laws.proofs.Keys.ToldAreOwn.{AsksFor, path_asks}
use Rattle.world_laws.proofs.Weaving.Journals.{books_after}
use Rattle.world_laws.proofs.Worlds.CastLifting.{each_actor}
use Rattle.world_laws.proofs.Worlds.Casts.{Cast, world_of}
use Rattle.world_laws.proofs.Worlds.Turns.{turn_so}
use Rattle.world_laws.proofs.Writes.Asks.{asks_no_more}
use Rattle.whole_paths.specs.Mild.{IsMildStart}
use Rattle.whole_paths.specs.NeverAborted.{NoSideIsStopped}
use Rattle.whole_paths.proofs.Breaking.{asks_open, each_open, none_noted}
use Rattle.whole_paths.proofs.OpenAsks.{cast_notes}

-- ---- a control book

abbrev WasAborted : Fall → Fall → Type 0
WasAborted f g = is_aborted g.mode ≡ true → is_aborted f.mode ≡ true

row : (b : Bool) (f : Fall) (x y : Fall × Verdict) → WasAborted f x.0 → WasAborted f y.0 → WasAborted f (if b then x else y).0
row true f x y one other = one
row false f x y one other = other

receives : (m : Mode) → is_aborted (with_infinite_receive m) ≡ true → ⊥
receives modes.Starting is = true≢false (sym is)
receives modes.InfiniteSend is = true≢false (sym is)
receives _ is = true≢false (sym is)

sends : (m : Mode) → is_aborted (with_infinite_send m) ≡ true → ⊥
sends modes.Starting is = true≢false (sym is)
sends modes.InfiniteReceive is = true≢false (sym is)
sends _ is = true≢false (sym is)

-- a call by which no side is stopped
abbrev IsQuiet : ControlCall → Type 0
IsQuiet (control_calls.Fell path events.Stop) = ⊥
IsQuiet control_calls.FastClose = ⊥
IsQuiet (control_calls.FastHeard key) = ⊥
IsQuiet _ = Unit {0}

plain_row : (f : Fall) → WasAborted f (if is_starting f.mode && not f.joined then goes modes.Identity f else stays f).0
plain_row f = row (is_starting f.mode && not f.joined) f (goes modes.Identity f) (stays f) (λ is. absurd (true≢false (sym is))) (λ is. is)

sure_row : (f : Fall) → WasAborted f (if is_starting f.mode then goes modes.Sure f else stays f).0
sure_row f = row (is_starting f.mode) f (goes modes.Sure f) (stays f) (λ is. absurd (true≢false (sym is))) (λ is. is)

event_quiet : (f : Fall) (path : ℕ) (only : Bool) (event : FallEvent) → IsQuiet (control_calls.Fell path event) → WasAborted f (fall_step f path only event).0
event_quiet f path only events.PlainHandshake quiet = plain_row f
event_quiet f path only events.PlainData quiet = plain_row f
event_quiet f path only events.PlainAck quiet = plain_row f
event_quiet f path only events.KeysHeard quiet = row (is_identity f.mode) f (stays f) _ (λ is. is) (λ is. is)
event_quiet f path only events.MappingHeard quiet = sure_row f
event_quiet f path only events.AckHeard quiet = sure_row f
event_quiet f path only events.InfiniteHeard quiet =
    row (not (reads_mappings f.mode)) f (stays f) _ (λ is. is)
    (row (only && is_failed_path f.failed path) f (goes (with_infinite_receive f.mode) f) _ (λ is. absurd (receives f.mode is))
    (row (writes_mappings f.mode && not f.joined && is_none f.failed) f (goes modes.Identity f) (breaks 1 f) (λ is. absurd (true≢false (sym is))) (λ is. is)))
event_quiet f path only events.CheckFailed quiet = row (not (reads_mappings f.mode)) f (stays f) _ (λ is. is) (row only f _ (breaks 6 f) (λ is. is) (λ is. is))
event_quiet f path only (events.FailHeard contiguous) quiet =
    row (not (writes_mappings f.mode)) f (stays f) _ (λ is. is) (row (only && contiguous) f (goes (with_infinite_send f.mode) f) (breaks 1 f) (λ is. absurd (sends f.mode is)) (λ is. is))
event_quiet f path only events.Stop quiet = absurd quiet

call_quiet : (c : Control) (call : ControlCall) → IsQuiet call → WasAborted c.fall (controlling.after c call).fall
call_quiet c (control_calls.Fell path event) quiet = event_quiet c.fall path (sole c.paths path) event quiet
call_quiet c control_calls.FastClose quiet = absurd quiet
call_quiet c (control_calls.FastHeard key) quiet = absurd quiet
call_quiet c call quiet = λ is. ap is_aborted (sym (call_mode c call tt tt)) ∙ is

abbrev AsksQuietly : Ask → Type 0
AsksQuietly (asks.Control s call) = IsQuiet call
AsksQuietly _ = Unit {0}

ask_quiet : (six : SixBooks) (x : Ask) → AsksQuietly x → (s : Side) → is_aborted (control_of s (after_ask x six)).fall.mode ≡ true → is_aborted (control_of s six).fall.mode ≡ true
ask_quiet six (asks.Control A call) quiet A = call_quiet six.control_a call quiet
ask_quiet six (asks.Control B call) quiet B = call_quiet six.control_b call quiet
ask_quiet six (asks.Control A call) quiet B = λ is. is
ask_quiet six (asks.Control B call) quiet A = λ is. is
ask_quiet six (asks.Send A call) quiet A = λ is. is
ask_quiet six (asks.Send B call) quiet A = λ is. is
ask_quiet six (asks.Reassembly A call) quiet A = λ is. is
ask_quiet six (asks.Reassembly B call) quiet A = λ is. is
ask_quiet six (asks.Send A call) quiet B = λ is. is
ask_quiet six (asks.Send B call) quiet B = λ is. is
ask_quiet six (asks.Reassembly A call) quiet B = λ is. is
ask_quiet six (asks.Reassembly B call) quiet B = λ is. is
ask_quiet six (asks.Local step) quiet s = λ is. is

-- ---- what is asked

-- a fast close is told of by what a copy says alone
told_none : (m : May) (x : Ask) (s : Side) (key : ℕ) → m.notes ≡ false → may m x ≡ true → x ≡ asks.Control s (control_calls.FastHeard key) → ⊥
told_none m x s key none is same = true≢false (sym (subst (λ y. may m y ≡ true) same is) ∙ none)

books_quiet : (x : AskDuty) → (asking (duties.Ask x)).notes ≡ false
books_quiet = elim [ ask_duties.Window t ↦ refl | _ ↦ refl ]

module _ (p : PathState Carried) (none : (t : Side) (index key : ℕ) → item_of index (end_at t p) ≡ Some (says.FastClose key) → ⊥) where
  hears_none : (d : Duty) (s : Side) (key : ℕ) → ask_for values d p ≡ asks.Control s (control_calls.FastHeard key) → ⊥
  hears_none (duties.Step (step_duties.Heard t index)) s key = by (item_of index (end_at t p)) refl
    where
      unlike : (c d : Bool) (u v : Side) (call : ReassemblyCall) (step : LocalStep) (path : ℕ) (event : FallEvent)
          → (if c then (if d then asks.Reassembly u call else asks.Local step) else asks.Control v (control_calls.Fell path event)) ≡ asks.Control s (control_calls.FastHeard key) → ⊥
      unlike true true u v call step path event is = cc
      unlike true false u v call step path event is = cc
      unlike false d u v call step path event is = cc

      unsent : (c : Bool) (n path : ℕ) (event : FallEvent) → (if c then asks.Send t (send_calls.GoInfinite n) else asks.Control t (control_calls.Fell path event)) ≡ asks.Control s (control_calls.FastHeard key) → ⊥
      unsent true n path event is = cc
      unsent false n path event is = cc

      unnoted : (notice : PeerNotice) → notice_ask t notice p ≡ asks.Control s (control_calls.FastHeard key) → ⊥
      unnoted (notes.AddAddr id address port hmac) is = cc
      unnoted (notes.AddEcho id) is = cc
      unnoted (notes.Removed id) is = cc
      unnoted (notes.Prio backup) is = cc

      by : (o : Option Heard) → item_of index (end_at t p) ≡ o → item_ask values t o p ≡ asks.Control s (control_calls.FastHeard key) → ⊥
      by None there is = cc
      by (Some (says.FastClose heard)) there is = none t index heard there
      by (Some (says.Mapping fin)) there is = unlike (is_clash (end_at t p)) (end_at t p).treated.asked t t _ _ _ _ is
      by (Some says.Fail) there is = unsent (may_go_infinite (end_at t p)) _ _ _ is
      by (Some (says.Notice notice)) there is = unnoted notice is
      by (Some _) there is = cc
  hears_none (duties.Ask x) s key = λ is. told_none (asking (duties.Ask x)) (ask_for values (duties.Ask x) p) s key (books_quiet x) (asks_no_more values p (duties.Ask x)).kind is
  hears_none d s key = λ is. told_none (asking d) (ask_for values d p) s key refl (asks_no_more values p d).kind is

-- an application asks for none of them but its own fast close
app_quiet : (d : AppDuty) (a : AppState) → ((s : Side) → asks_fast_close s (app_ask d a) ≡ false) → AsksQuietly (app_ask d a)
app_quiet app_duties.FastClose a open_one = by a.side (open_one a.side)
  where
    by : (s : Side) → asks_fast_close s (asks.Control s control_calls.FastClose) ≡ false → ⊥
    by A is = true≢false is
    by B is = true≢false is
app_quiet app_duties.AbortSend a open_one = tt
app_quiet app_duties.AbortReceive a open_one = tt
app_quiet app_duties.Write a open_one = tt
app_quiet app_duties.Close a open_one = tt
app_quiet app_duties.Read a open_one = tt
app_quiet app_duties.End a open_one = tt

-- nor a path
path_quiet : (x : Ask) → ((s : Side) → asks_fast_close s x ≡ false) → ((s : Side) (key : ℕ) → x ≡ asks.Control s (control_calls.FastHeard key) → ⊥) → ((s : Side) (path : ℕ) → x ≡ asks.Control s (control_calls.Fell path events.Stop) → ⊥) → AsksQuietly x
path_quiet (asks.Control s (control_calls.Fell path events.Stop)) open_one unheard unstopped = unstopped s path refl
path_quiet (asks.Control s (control_calls.FastHeard key)) open_one unheard unstopped = unheard s key refl
path_quiet (asks.Control A control_calls.FastClose) open_one unheard unstopped = true≢false (open_one A)
path_quiet (asks.Control B control_calls.FastClose) open_one unheard unstopped = true≢false (open_one B)
path_quiet _ open_one unheard unstopped = tt

-- ---- a moment

abbrev MemberQuiet : Actor Carried → Type 0
MemberQuiet m = (x : Ask) → member_asks values m ≡ Some x → AsksQuietly x

app_member : (a : AppState) → ((x : Ask) → member_asks values (App a) ≡ Some x → (s : Side) → asks_fast_close s x ≡ false) → MemberQuiet (App a)
app_member a open_one x is = by a.agenda is (open_one x is)
  where
    by : (ds : List AppDuty) → app_asks_first ds a ≡ Some x → ((s : Side) → asks_fast_close s x ≡ false) → AsksQuietly x
    by [] is none = cc
    by (d ∷ ds) is none = let same = same_Some (app_ask d a) x is in subst AsksQuietly same (app_quiet d a (subst (λ y. (s : Side) → asks_fast_close s y ≡ false) (sym same) none))

module _ (start : Start) (t : Cast Carried) (none : (s : Side) → list_any (note_asks_fast_close s) (notes_of s (world_of t).crew) ≡ false) where
  unheard : (p : PathState Carried) → Knows start t p → (u : Side) (index key : ℕ) → item_of index (end_at u p) ≡ Some (says.FastClose key) → ⊥
  unheard p k u index key there =
      both_ways (list_any (note_asks_fast_close (peer u)) (seat_of (peer u) t).list) (ap (list_any (note_asks_fast_close (peer u))) (sym (cast_notes (peer u) t)) ∙ none (peer u))
      ((end_is _ false _ _ u p k.is).items.each index (says.FastClose key) (heard (end_at u p).modes.identity there))
    where
      heard : (b : Bool) → (if b then None else slice_get (end_at u p).treated.items index) ≡ Some (says.FastClose key) → slice_get (end_at u p).treated.items index ≡ Some (says.FastClose key)
      heard true is = cc
      heard false is = is

  path_member : (p : PathState Carried) → Knows start t p → ((x : Ask) → member_asks values (Path p) ≡ Some x → (s : Side) → asks_fast_close s x ≡ false) → MemberQuiet (Path p)
  path_member p k open_one x is = by p.agenda refl is
    where
      by : (ds : List Duty) → p.agenda ≡ ds → asks_first values ds p ≡ Some x → AsksQuietly x
      by [] same asked = cc
      by (d ∷ ds) same asked =
          let at = same_Some (ask_for values d p) x asked in
          path_quiet x (open_one x is) (λ s key heard. hears_none p (unheard p k) d s key (at ∙ heard))
          (λ s path stops. subst (λ y. AsksFor start.key_a start.key_b false (Facts t) (books_in t.books) y) (at ∙ stops) (path_asks start.key_a start.key_b false (Facts t) (books_in t.books) d ds p same k))

abbrev OpenAsk : Actor Carried → Type 0
OpenAsk m = (x : Ask) → member_asks values m ≡ Some x → (s : Side) → asks_fast_close s x ≡ false

all_quiet : (start : Start) (turns : List Turn) → IsMildStart start → let w = world_run values turns (opened_world start) in (actor : ℕ) (c : ActorCrew Carried) → slice_get w.crew actor ≡ Some c → MemberQuiet c.member
all_quiet start turns mild actor c there = each actor c there (λ x is s. asks_open s c.member x is ((each_open start turns mild).each actor c there).0)
  where
    w : WorldState Carried
    w = world_run values turns (opened_world start)

    of_cast : (t : Cast Carried) → Causes start t → ((s : Side) → list_any (note_asks_fast_close s) (notes_of s (world_of t).crew) ≡ false)
        → (actor : ℕ) (c : ActorCrew Carried) → slice_get (world_of t).crew actor ≡ Some c → OpenAsk c.member → MemberQuiet c.member
    of_cast t h none = each_actor (λ actor c. OpenAsk c.member → MemberQuiet c.member) t (λ open_one. app_member t.a open_one) (λ open_one. app_member t.b open_one)
        (λ number x there open_one. path_member start t none x.path (h.paths.each number x there) open_one)

    each : (actor : ℕ) (c : ActorCrew Carried) → slice_get w.crew actor ≡ Some c → OpenAsk c.member → MemberQuiet c.member
    each = let run = run_causes start turns in
        subst (λ (v : WorldState Carried). ((s : Side) → list_any (note_asks_fast_close s) (notes_of s v.crew) ≡ false) → (actor : ℕ) (c : ActorCrew Carried) → slice_get v.crew actor ≡ Some c → OpenAsk c.member → MemberQuiet c.member)
        (sym run.is) (of_cast run.cast run.holds) (none_noted start turns mild)

-- ---- by turns

abbrev NeverStopped : StampedBooks → Type 0
NeverStopped books = (s : Side) → Was is_aborted books s → ⊥

abbrev AllQuiet : WorldState Carried → Type 0
AllQuiet w = (actor : ℕ) (c : ActorCrew Carried) → slice_get w.crew actor ≡ Some c → MemberQuiet c.member

turn_never : (turn : Turn) (w : WorldState Carried) → AllQuiet w → NeverStopped w.books → NeverStopped (after_turn values turn w).books
turn_never turn w quiet h = turn_so values (λ v. NeverStopped v.books) turn w h
    (λ actor c x there is s was. ⊎_elim (h s)
    (λ now. h s (was_now is_aborted w.books s (ask_quiet (books_in w.books) x (quiet actor c there x is) s (subst (λ (six : SixBooks). is_aborted (control_of s six).fall.mode ≡ true) (books_after x c.pass w.books) now))))
    (was_more is_aborted x c.pass w.books s was))
    (λ over. h)

run_never : (turns : List Turn) (w : WorldState Carried) → ((more : List Turn) → AllQuiet (world_run values more w)) → NeverStopped w.books → NeverStopped (world_run values turns w).books
run_never [] w quiet h = h
run_never (turn ∷ turns) w quiet h = run_never turns (after_turn values turn w) (λ more. quiet (turn ∷ more)) (turn_never turn w (quiet []) h)

pub no_side_is_stopped : NoSideIsStopped
no_side_is_stopped start turns mild s = by (was_ever is_aborted s w) (λ is. never s is)
  where
    w : WorldState Carried
    w = world_run values turns (opened_world start)

    first : NeverStopped (opened_world {C = Carried} start).books
    first A was = true≢false (sym was)
    first B was = true≢false (sym was)

    never : NeverStopped w.books
    never = run_never turns (opened_world start) (λ more. all_quiet start more mild) first

    by : (b : Bool) → (b ≡ true → ⊥) → b ≡ false
    by true none = absurd (none refl)
    by false none = refl
