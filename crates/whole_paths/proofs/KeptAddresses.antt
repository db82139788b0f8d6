-- Where no line of the script takes the address of path 0 back, no side counts that address as removed: over values, by each turn.
use Rattle.whole_paths.proofs.HarmlessLines.{SparedMember, Spares, each_spared, next_spared, no_harm_comes, takes_spared}
use Rattle.whole_paths.proofs.KeptBooks.{Keeps, call_keeps, look_spares, opening_keeps}
use Rattle.whole_paths.proofs.NoRemovals.{SparesAsk, TakeNone, duty_asks, duty_none, event_none, settled_none, is_taking}
use Rattle.std.proofs.Common.{◌≡◌, refl, sym, subst, ap, ⊎_elim, ℕ, ◌+◌, Bool, true, false, true≢false, Some, List, ◌∷◌, []}
use Rattle.std.specs.List.{list_all, list_any, slice_get}
use Rattle.std.proofs.lemmas.Bool.{both_ways, false≢true, or_parts}
use Rattle.std.proofs.lemmas.Option.{same_Some}
use Rattle.sides.specs.declared.side.Side.{Side}
use Rattle.sides.specs.declared.side.Side.TheVariants.{A, B}
use Rattle.stream_lanes.proofs.Lists.{in_map, in_set}
use Rattle.actor_desk.specs.Books.{books_in}
use Rattle.actor_desk.specs.Desk.{SixBooks, after_ask, control_of, reply_of}
use Rattle.actor_desk.specs.declared.ask.Ask.{Ask}
use Rattle.actor_desk.specs.declared.ask.Ask.TheVariants as asks
use Rattle.actor_desk.specs.declared.ask.Reply.{Reply}
use Rattle.path_agenda.specs.Agenda.{start_of_turn}
use Rattle.path_agenda.specs.declared.duty.Duty.{Duty}
use Rattle.path_agenda.specs.declared.duty.Duty.TheVariants as duties
use Rattle.path_agenda.specs.declared.duty.StepDuty.TheVariants as step_duties
use Rattle.path_core.specs.Duties.{answered, ask_for}
use Rattle.path_core.specs.Events.{next_event}
use Rattle.path_core.specs.Start.{waiting_path}
use Rattle.path_core.specs.State.{PathState, path_of, with_agenda}
use Rattle.path_core.specs.Steps.{asks_first, next_round, settled, takes}
use Rattle.path_core.specs.Values.{Carried, values}
use Rattle.whole_paths.proofs.Pieces.{is_event}
use Rattle.whole_paths.proofs.QueuedWords as queues
use Rattle.whole_paths.proofs.NoticeWords.{Word}
use Rattle.world_laws.proofs.Standby.OneDutyLooks.{MayNotLook}
use Rattle.whole_paths.proofs.UnsaidWords.{HearNone, NotesNone, not_so, Unsaid, begins_unsaid, duty_unsaid, next_unsaid, notes_then, settled_unsaid}
use Rattle.whole_paths.proofs.Unbroken.{FirstReply}
use Rattle.stream_apps.specs.AppSteps.{app_ask, app_asks_first}
use Rattle.stream_apps.specs.Apps.{AppState}
use Rattle.stream_apps.specs.declared.duty.AppDuty.{AppDuty}
use Rattle.stream_apps.specs.declared.duty.AppDuty.TheVariants as app_duties
use Rattle.world_laws.specs.declared.member.Member.TheVariants.{App, Path}
use Rattle.world_laws.specs.Actors.{Actor, ActorCrew, member_asks, member_next, member_takes}
use Rattle.world_laws.specs.Members.{HoldsOfKind}
use Rattle.world_laws.specs.Openings.{Start, opened_world, path_begins}
use Rattle.world_laws.specs.RoundDone.{reached}
use Rattle.world_laws.specs.Worlds.{WorldState, Turn, begins, crew_after, greatest, world_run}
use Rattle.world_laws.proofs.Rounds.Lifting.{opened_lifted}
use Rattle.world_laws.proofs.Weaving.Journals.{books_after}
use Rattle.world_laws.proofs.Worlds.Turns.{run_so}
use Rattle.whole_paths.specs.KeptAddresses.{spares_first}
use Rattle.whole_paths.specs.MildDeaths.{IsTakenBack}

-- the address of id 0 is taken back
abbrev removed : Word
removed = Word.removal 0

-- of id 0 nothing says that it is taken back
record Clean (p : PathState Carried) : Type 0 where
  agenda : TakeNone p.agenda
  unsaid : Unsaid removed p

-- ---- a duty

shed_notes : (six : SixBooks) (d : Duty) (x : PathState Carried) → MayNotLook d → NotesNone removed x → NotesNone removed (answered values d (reply_of six (ask_for values d x)) x)
shed_notes six d x looks none = notes_then removed x _ (queues.answered_sheds removed values d (λ is. looks) (reply_of six (ask_for values d x)) x (λ is. absurd (false≢true is))) none

duty_notes : (six : SixBooks) (d : Duty) (x : PathState Carried) → ((s : Side) → Keeps 0 (control_of s six)) → NotesNone removed x → NotesNone removed (answered values d (reply_of six (ask_for values d x)) x)
duty_notes six (duties.Step (step_duties.Look s)) x keeps none = λ t. not_so removed _ (λ is. ⊎_elim (λ was. both_ways _ (none t) was) (look_spares 0 (control_of s six) (path_of x) (keeps s)) (queues.look_noted s t six x 0 is))
duty_notes six (duties.Step step_duties.Events) x keeps none = shed_notes six (duties.Step step_duties.Events) x tt none
duty_notes six (duties.Step (step_duties.Data s)) x keeps none = shed_notes six (duties.Step (step_duties.Data s)) x tt none
duty_notes six (duties.Step (step_duties.Heard s index)) x keeps none = shed_notes six (duties.Step (step_duties.Heard s index)) x tt none
duty_notes six (duties.Step (step_duties.PlainAck s)) x keeps none = shed_notes six (duties.Step (step_duties.PlainAck s)) x tt none
duty_notes six (duties.Step (step_duties.Unmapped s)) x keeps none = shed_notes six (duties.Step (step_duties.Unmapped s)) x tt none
duty_notes six d x keeps none = shed_notes six d x tt none

-- ---- a step

duty_clean : (six : SixBooks) (d : Duty) (ds : List Duty) (p : PathState Carried) → let x = with_agenda (d ∷ ds) p in ((s : Side) → Keeps 0 (control_of s six)) → Spares p.lines → Clean x
    → Clean (answered values d (reply_of six (ask_for values d x)) x)
duty_clean six d ds p keeps spares h = record { agenda = by (is_event d) refl; unsaid = duty_unsaid removed d ds r p (λ is joined. absurd (true≢false (sym is))) (duty_notes six d x keeps h.unsaid.notes) h.unsaid }
  where
    x : PathState Carried
    x = with_agenda (d ∷ ds) p

    r : Reply
    r = reply_of six (ask_for values d x)

    event : (e : Duty) → is_event e ≡ true → (e ≡ duties.Step step_duties.Events)
    event (duties.Step step_duties.Events) is = refl
    event _ is = absurd (true≢false (sym is))

    by : (e : Bool) → is_event d ≡ e → TakeNone (answered values d r x).agenda
    by true is = subst (λ e. TakeNone (answered values e r x).agenda) (sym (event d is)) (event_none (next_event x) r x (λ line next. no_harm_comes x spares line next))
    by false other = duty_none d ds r p other h.agenda

settled_clean : (q : PathState Carried) → Clean q → Clean (settled q.agenda q)
settled_clean q h = record { agenda = settled_none q.agenda q h.agenda; unsaid = settled_unsaid removed q h.unsaid }

takes_clean : (six : SixBooks) (r : Reply) (p : PathState Carried) → ((s : Side) → Keeps 0 (control_of s six)) → FirstReply six p.agenda p r → Spares p.lines → Clean p → Clean (takes values r p)
takes_clean six r p keeps is spares h = by p.agenda is h
  where
    by : (ds : List Duty) → let x = with_agenda ds p in FirstReply six ds x r → Clean x → Clean (takes values r x)
    by [] is h = h
    by (d ∷ ds) is h =
        let x : PathState Carried = with_agenda (d ∷ ds) p in
        subst (λ (r : Reply). Clean (takes values r x)) (sym is)
        (let q : PathState Carried = answered values d (reply_of six (ask_for values d x)) x in settled_clean q (duty_clean six d ds p keeps spares h))

next_clean : (p : PathState Carried) → Clean p → Clean (next_round p)
next_clean p h = record { agenda = settled_none start_of_turn (with_agenda start_of_turn (record p { clock = p.until; until = p.until + 100 })) refl; unsaid = next_unsaid removed p h.unsaid }

-- ---- the world

abbrev KeepBoth : SixBooks → Type 0
KeepBoth six = (s : Side) → Keeps 0 (control_of s six)

ask_keeps : (x : Ask) (six : SixBooks) → SparesAsk x → KeepBoth six → KeepBoth (after_ask x six)
ask_keeps (asks.Control A call) six spares h A = call_keeps 0 six.control_a call spares (h A)
ask_keeps (asks.Control B call) six spares h B = call_keeps 0 six.control_b call spares (h B)
ask_keeps (asks.Control A call) six spares h B = h B
ask_keeps (asks.Control B call) six spares h A = h A
ask_keeps (asks.Send A call) six spares h A = h A
ask_keeps (asks.Send B call) six spares h A = h A
ask_keeps (asks.Reassembly A call) six spares h A = h A
ask_keeps (asks.Reassembly B call) six spares h A = h A
ask_keeps (asks.Send A call) six spares h B = h B
ask_keeps (asks.Send B call) six spares h B = h B
ask_keeps (asks.Reassembly A call) six spares h B = h B
ask_keeps (asks.Reassembly B call) six spares h B = h B
ask_keeps (asks.Local step) six spares h s = h s

app_asks : (ds : List AppDuty) (a : AppState) (x : Ask) → app_asks_first ds a ≡ Some x → SparesAsk x
app_asks [] a x is = cc
app_asks (d ∷ ds) a x is = subst SparesAsk (same_Some (app_ask d a) x is) (duty d)
  where
    duty : (d : AppDuty) → SparesAsk (app_ask d a)
    duty app_duties.FastClose = tt
    duty _ = tt

path_asks : (ds : List Duty) (p : PathState Carried) (x : Ask) → TakeNone ds → HearNone removed p → asks_first values ds p ≡ Some x → SparesAsk x
path_asks [] p x none items is = cc
path_asks (d ∷ ds) p x none items is = subst SparesAsk (same_Some (ask_for values d p) x is) (duty_asks d p (or_parts (is_taking d) (list_any is_taking ds) none).0 items)

reply_first : (six : SixBooks) (x : Ask) (p : PathState Carried) (ds : List Duty) → asks_first values ds p ≡ Some x → FirstReply six ds p (reply_of six x)
reply_first six x p [] is = tt
reply_first six x p (d ∷ ds) is = ap (reply_of six) (sym (same_Some (ask_for values d p) x is))

abbrev CleanMember : Actor Carried → Type 0
CleanMember = HoldsOfKind (λ app. Unit {0}) Clean

member_asks_so : (m : Actor Carried) (x : Ask) → member_asks values m ≡ Some x → CleanMember m → SparesAsk x
member_asks_so (App a) x is h = app_asks a.agenda a x is
member_asks_so (Path p) x is h = path_asks p.agenda p x h.agenda h.unsaid.items is

member_clean : (six : SixBooks) (x : Ask) (m : Actor Carried) → member_asks values m ≡ Some x → KeepBoth six → SparedMember m → CleanMember m → CleanMember (member_takes values (reply_of six x) m)
member_clean six x (App a) is keeps spares h = tt
member_clean six x (Path p) is keeps spares h = takes_clean six (reply_of six x) p keeps (reply_first six x p p.agenda is) spares h

next_member : (m : Actor Carried) → CleanMember m → CleanMember (member_next m)
next_member (App a) h = tt
next_member (Path p) h = next_clean p h

record AllClean (w : WorldState Carried) : Type 0 where
  crew : (actor : ℕ) (c : ActorCrew Carried) → slice_get w.crew actor ≡ Some c → SparedMember c.member × CleanMember c.member
  books : KeepBoth (books_in w.books)

run_clean : (turns : List Turn) (w : WorldState Carried) → AllClean w → AllClean (world_run values turns w)
run_clean = run_so values AllClean
    (λ w h actor c x there is. record {
      crew = λ i d at. ⊎_elim
          (λ here. subst (λ (y : ActorCrew Carried). SparedMember y.member × CleanMember y.member) here.1
          (takes_spared values (reply_of (books_in w.books) x) c.member (h.crew actor c there).0, member_clean (books_in w.books) x c.member is h.books (h.crew actor c there).0 (h.crew actor c there).1))
          (λ other. h.crew i d other.1)
          (in_set w.crew actor (crew_after values x w.books c) i d at);
      books = subst KeepBoth (sym (books_after x c.pass w.books)) (ask_keeps x (books_in w.books) (member_asks_so c.member x is (h.crew actor c there).1) h.books);
    })
    (λ w h over. record {
      crew = λ i d at.
          let found = in_map (begins (greatest 0 w.crew)) w.crew i d at in
          subst (λ (y : ActorCrew Carried). SparedMember y.member × CleanMember y.member) found.2
          (next_spared found.0.member (h.crew i found.0 found.1).0, next_member found.0.member (h.crew i found.0 found.1).1);
      books = h.books;
    })

opened_clean : (start : Start) → list_all spares_first start.lines ≡ true → AllClean (opened_world start)
opened_clean start harmless = record {
  crew = λ actor c there. (
    (each_spared values start [] harmless).each actor c there,
    (opened_lifted (λ c. CleanMember c.member) start tt tt
        (λ number plan at. record { agenda = settled_none start_of_turn (with_agenda start_of_turn (waiting_path (path_begins start number plan) start.lines)) refl; unsaid = begins_unsaid removed (path_begins start number plan) start.lines })).each actor c there,
  );
  books = elim [ A ↦ opening_keeps A start.key_a | B ↦ opening_keeps B start.key_b ];
}

-- no side counts it as removed
pub first_address_is_kept : (start : Start) (turns : List Turn) → list_all spares_first start.lines ≡ true → (s : Side) → IsTakenBack 0 s (reached values start turns).books → ⊥
first_address_is_kept start turns harmless s is = both_ways _ ((run_clean turns (opened_world start) (opened_clean start harmless)).books s).own is
