-- A side that sends by an infinite mapping, or did so once, never falls back to plain TCP, and one that fell back never sends by one (RFC 8684, section
-- 3.7).
use Rattle.std.proofs.Common.{◌≡◌, refl, sym, ap, ◌∙◌, subst, ℕ, ⊎_elim, ◌&&◌, ◌==◌, not, Bool, true, false, if◌then◌else◌, Some, is_none, List, [], ◌∷◌}
use Rattle.std.proofs.lemmas.Bool.{and_parts, false≢true}
use Rattle.actor_desk.specs.Books.{StampedBooks, after_entry, books_in}
use Rattle.actor_desk.specs.Desk.{SixBooks, after_ask, control_of}
use Rattle.actor_desk.specs.declared.ask.Ask.{Ask}
use Rattle.control_book.specs.Control.{Control}
use Rattle.control_book.specs.Registry.{sole}
use Rattle.control_book.specs.Steps as controlling
use Rattle.control_book.specs.declared.call.ControlCall.{ControlCall}
use Rattle.fallback_state.specs.Modes.{is_identity, is_starting, reads_mappings, with_infinite_receive, with_infinite_send, writes_mappings}
use Rattle.fallback_state.specs.Table.{breaks, fall_step, goes, is_failed_path, stays}
use Rattle.fallback_state.specs.declared.fall.Event.{Event as FallEvent}
use Rattle.fallback_state.specs.declared.fall.Fall.{Fall}
use Rattle.fallback_state.specs.declared.fall.Mode.{Mode}
use Rattle.fallback_state.specs.declared.fall.Verdict.{Verdict}
use Rattle.path_core.specs.Modes.{sends_infinite}
use Rattle.path_core.specs.Values.{Carried, values}
use Rattle.sides.specs.declared.side.Side.TheVariants.{A, B}
use Rattle.sides.specs.declared.side.Side.{Side}
use Rattle.stamped_book.specs.declared.stamped.Pass.{Pass}
use Rattle.world_laws.proofs.Falls.ByTheJournal.{Was, was_more}
use Rattle.world_laws.proofs.Falls.ForEver.{ever_fallen}
use Rattle.world_laws.proofs.Falls.WhereASideStands.{plain_of}
use Rattle.world_laws.proofs.Keys.SureMaySend.{call_mode}
use Rattle.world_laws.proofs.Keys.ToldAreOwn.{FellBack}
use Rattle.world_laws.proofs.Weaving.Journals.{books_after}
use Rattle.world_laws.proofs.Worlds.Turns.{turn_so}
use Rattle.world_laws.specs.Openings.{Start, opened_world}
use Rattle.world_laws.specs.Worlds.{Turn, WorldState, after_turn, world_run}

-- it sends by an infinite mapping, or was stopped
abbrev pub sends_still : Mode → Bool
sends_still Mode.InfiniteSend = true
sends_still Mode.InfiniteBoth = true
sends_still Mode.Aborted = true
sends_still _ = false

-- ---- one event

abbrev pub Sends : Fall → Type 0
Sends f = sends_still f.mode ≡ true

abbrev GoesOn : Fall → Fall → Type 0
GoesOn f g = Sends f → Sends g

on_if : (b : Bool) (f : Fall) (x y : Fall × Verdict) → (b ≡ true → GoesOn f x.0) → (b ≡ false → GoesOn f y.0) → GoesOn f (if b then x else y).0
on_if true f x y is isnt = is refl
on_if false f x y is isnt = isnt refl

not_starting : (m : Mode) → is_starting m ≡ true → sends_still m ≡ true → ⊥
not_starting Mode.Starting is h = false≢true h
not_starting _ is h = false≢true is

-- its own mappings of pieces count no more
pub not_writing : (m : Mode) → writes_mappings m ≡ true → sends_still m ≡ true → ⊥
not_writing Mode.Starting is h = false≢true h
not_writing Mode.Sure is h = false≢true h
not_writing Mode.InfiniteReceive is h = false≢true h
not_writing _ is h = false≢true is

receiving_on : (m : Mode) → reads_mappings m ≡ true → sends_still m ≡ true → sends_still (with_infinite_receive m) ≡ true
receiving_on Mode.InfiniteSend is h = refl
receiving_on Mode.InfiniteBoth is h = refl
receiving_on Mode.Aborted is h = absurd (false≢true is)
receiving_on _ is h = absurd (false≢true h)

not_twice : (b : Bool) → not b ≡ false → b ≡ true
not_twice true is = refl
not_twice false is = absurd (false≢true (sym is))

plain_on : (f : Fall) → GoesOn f (if is_starting f.mode && not f.joined then goes Mode.Identity f else stays f).0
plain_on f =
    on_if (is_starting f.mode && not f.joined) f (goes Mode.Identity f) (stays f)
    (λ is h. absurd (not_starting f.mode (and_parts (is_starting f.mode) (not f.joined) is).0 h)) (λ isnt h. h)

sign_on : (f : Fall) → GoesOn f (if is_starting f.mode then goes Mode.Sure f else stays f).0
sign_on f = on_if (is_starting f.mode) f (goes Mode.Sure f) (stays f) (λ is h. absurd (not_starting f.mode is h)) (λ isnt h. h)

event_on : (path : ℕ) (sole : Bool) (event : FallEvent) (f : Fall) → GoesOn f (fall_step f path sole event).0
event_on path sole FallEvent.PlainHandshake f = plain_on f
event_on path sole FallEvent.PlainData f = plain_on f
event_on path sole FallEvent.PlainAck f = plain_on f
event_on path sole FallEvent.MappingHeard f = sign_on f
event_on path sole FallEvent.AckHeard f = sign_on f
event_on path sole FallEvent.KeysHeard f = on_if (is_identity f.mode) f (stays f) (record f { confirmed = true }, Verdict.Stay) (λ is h. h) (λ isnt h. h)
event_on path sole FallEvent.InfiniteHeard f =
    let falls : Bool = writes_mappings f.mode && not f.joined && is_none f.failed in
    let last : Fall × Verdict = if falls then goes Mode.Identity f else breaks 1 f in
    let rest : Fall × Verdict = if sole && is_failed_path f.failed path then goes (with_infinite_receive f.mode) f else last in
    on_if (not (reads_mappings f.mode)) f (stays f) rest (λ is h. h)
    (λ reads. on_if (sole && is_failed_path f.failed path) f (goes (with_infinite_receive f.mode) f) last (λ is h. receiving_on f.mode (not_twice (reads_mappings f.mode) reads) h)
    (λ isnt. on_if falls f (goes Mode.Identity f) (breaks 1 f)
    (λ is h. absurd (not_writing f.mode (and_parts (writes_mappings f.mode) (not f.joined) (and_parts (writes_mappings f.mode && not f.joined) (is_none f.failed) is).0).0 h)) (λ other h. h)))
event_on path sole FallEvent.CheckFailed f =
    let noted : Fall × Verdict = (record f { failed = Some path }, Verdict.SendFail) in
    let rest : Fall × Verdict = if sole then noted else breaks 6 f in
    on_if (not (reads_mappings f.mode)) f (stays f) rest (λ is h. h) (λ reads. on_if sole f noted (breaks 6 f) (λ is h. h) (λ isnt h. h))
event_on path sole (FallEvent.FailHeard contiguous) f =
    let rest : Fall × Verdict = if sole && contiguous then goes (with_infinite_send f.mode) f else breaks 1 f in
    on_if (not (writes_mappings f.mode)) f (stays f) rest (λ is h. h)
    (λ writes h. absurd (not_writing f.mode (not_twice (writes_mappings f.mode) writes) h))
event_on path sole FallEvent.Stop f = λ h. refl

-- ---- one call

call_on : (c : Control) (call : ControlCall) → GoesOn c.fall (controlling.after c call).fall
call_on c (ControlCall.Fell path event) = event_on path (sole c.paths path) event c.fall
call_on c ControlCall.FastClose = λ h. refl
call_on c (ControlCall.FastHeard key) = by (key == c.keys.own)
  where
    by : (b : Bool) → GoesOn c.fall (if b then controlling.after_event 0 false FallEvent.Stop c else c).fall
    by true = λ h. refl
    by false = λ h. h
call_on c call = λ h. ap sends_still (call_mode c call tt tt) ∙ h

ask_on : (six : SixBooks) (x : Ask) (s : Side) → Sends (control_of s six).fall → Sends (control_of s (after_ask x six)).fall
ask_on six (Ask.Control A call) A h = call_on six.control_a call h
ask_on six (Ask.Control A call) B h = h
ask_on six (Ask.Control B call) A h = h
ask_on six (Ask.Control B call) B h = call_on six.control_b call h
ask_on six (Ask.Send A call) A h = h
ask_on six (Ask.Send A call) B h = h
ask_on six (Ask.Send B call) A h = h
ask_on six (Ask.Send B call) B h = h
ask_on six (Ask.Reassembly A call) A h = h
ask_on six (Ask.Reassembly A call) B h = h
ask_on six (Ask.Reassembly B call) A h = h
ask_on six (Ask.Reassembly B call) B h = h
ask_on six (Ask.Local step) s h = h

-- ---- by the journals

sending_on : (m : Mode) → sends_infinite m ≡ true → sends_still m ≡ true
sending_on Mode.InfiniteSend is = refl
sending_on Mode.InfiniteBoth is = refl
sending_on _ is = absurd (false≢true is)

-- neither in plain TCP
on_apart : (m : Mode) → sends_still m ≡ true → is_identity m ≡ true → ⊥
on_apart Mode.Identity h is = false≢true h
on_apart _ h is = false≢true is

-- nor where the side fell back to it
plain_apart : (m : Mode) (joined : Bool) → sends_infinite m ≡ true → plain_of m joined ≡ true → ⊥
plain_apart Mode.InfiniteSend joined is plain = false≢true plain
plain_apart Mode.InfiniteBoth joined is plain = false≢true plain
plain_apart _ joined is plain = false≢true is

fell_apart : (six : SixBooks) (s : Side) → sends_infinite (control_of s six).fall.mode ≡ true → FellBack six s → ⊥
fell_apart six A is fell = plain_apart six.control_a.fall.mode six.control_a.fall.joined is fell
fell_apart six B is fell = plain_apart six.control_b.fall.mode six.control_b.fall.joined is fell

-- a side that sent by an infinite mapping does so still, or was stopped, and was never in plain TCP
pub record SendsSo (books : StampedBooks) : Type 0 where
  pub still : (s : Side) → Was sends_infinite books s → Sends (control_of s (books_in books)).fall
  pub never : (s : Side) → Was sends_infinite books s → Was is_identity books s → ⊥

entry_so : (x : Ask) (pass : Pass) (books : StampedBooks) → ((s : Side) → Was is_identity (after_entry x pass books) s → FellBack (books_in (after_entry x pass books)) s) → SendsSo books
    → SendsSo (after_entry x pass books)
entry_so x pass books fell h = record { still = still; never = never }
  where
    after : StampedBooks
    after = after_entry x pass books

    on : (s : Side) → Was sends_infinite books s → Sends (control_of s (books_in after)).fall
    on s was = subst (λ (six : SixBooks). Sends (control_of s six).fall) (sym (books_after x pass books)) (ask_on (books_in books) x s (h.still s was))

    still : (s : Side) → Was sends_infinite after s → Sends (control_of s (books_in after)).fall
    still s was = ⊎_elim (on s) (λ now. sending_on (control_of s (books_in after)).fall.mode now) (was_more sends_infinite x pass books s was)

    never : (s : Side) → Was sends_infinite after s → Was is_identity after s → ⊥
    never s was plain = ⊎_elim
        (λ before. ⊎_elim (λ plain_before. h.never s before plain_before) (λ now. on_apart (control_of s (books_in after)).fall.mode (on s before) now) (was_more is_identity x pass books s plain))
        (λ now. fell_apart (books_in after) s now (fell s plain))
        (was_more sends_infinite x pass books s was)

-- ---- turns

abbrev Falls : WorldState Carried → Type 0
Falls w = (s : Side) → Was is_identity w.books s → FellBack (books_in w.books) s

turn_sends : (turn : Turn) (w : WorldState Carried) → Falls (after_turn values turn w) → SendsSo w.books → SendsSo (after_turn values turn w).books
turn_sends turn w fell h =
    turn_so values (λ v. Falls v → SendsSo v.books) turn w (λ fell. h) (λ actor c x there asks fell. entry_so x c.pass w.books fell h) (λ over fell. h) fell

run_sends : (turns : List Turn) (w : WorldState Carried) → ((more : List Turn) → Falls (world_run values more w)) → SendsSo w.books → SendsSo (world_run values turns w).books
run_sends [] w fell h = h
run_sends (turn ∷ turns) w fell h = run_sends turns (after_turn values turn w) (λ more. fell (turn ∷ more)) (turn_sends turn w (fell (turn ∷ [])) h)

pub always_sends : (start : Start) (turns : List Turn) → SendsSo (world_run values turns (opened_world start)).books
always_sends start turns = run_sends turns (opened_world start) (λ more s was. ever_fallen start more s was) opened
  where
    opened : SendsSo (opened_world {C = Carried} start).books
    opened = record { still = still; never = never }
      where
        none : (s : Side) → Was sends_infinite (opened_world {C = Carried} start).books s → ⊥
        none A was = false≢true was
        none B was = false≢true was

        still : (s : Side) → Was sends_infinite (opened_world {C = Carried} start).books s → Sends (control_of s (books_in (opened_world {C = Carried} start).books)).fall
        still s was = absurd (none s was)

        never : (s : Side) → Was sends_infinite (opened_world {C = Carried} start).books s → Was is_identity (opened_world {C = Carried} start).books s → ⊥
        never s was plain = none s was
