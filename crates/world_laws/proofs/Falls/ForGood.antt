-- A side that fell back never goes by the peer's mappings again.
use Rattle.world_laws.proofs.Words.{◌≡◌, refl, sym, subst, ℕ, ◌&&◌, ◌==◌, not, ⊎_elim, Bool, true, false, if◌then◌else◌, Some, List}
use Rattle.world_laws.proofs.Words.{is_none, false≢true, Verdict, Mode, FallEvent, is_identity, is_starting, reads_mappings, with_infinite_receive, with_infinite_send}
use Rattle.world_laws.proofs.Words.{writes_mappings, Fall, is_failed_path, goes, fall_step, Pass, Side, A, B, ControlCall, Notice, sole_path, Control, Ask}
use Rattle.world_laws.proofs.Words.{StampedBooks, books_in, after_entry, SixBooks, control_of, after_ask, Codec, Always, Start}
use Rattle.world_laws.proofs.Words.{opened_world, WorldState, Turn, world_run, is_fallback}
use Rattle.world_laws.proofs.Words.{FallsForGood}
use Rattle.world_laws.proofs.Worlds.Turns.{run_so}
use Rattle.fallback_state.specs.Table.{stays, breaks}
use Rattle.control_book.specs.Replies as control
use Rattle.control_book.specs.Steps as controlling
use Rattle.world_laws.proofs.Falls.ByTheJournal.{Was, was_more, run_was}
use Rattle.world_laws.proofs.Weaving.Journals.{books_after}

-- ---- one event

-- the peer's mappings count no more
abbrev Unread : Mode → Type 0
Unread m = reads_mappings m ≡ false

-- they count after an event only where they did before
abbrev GoesUnread : Fall → Fall → Type 0
GoesUnread f g = Unread f.mode → Unread g.mode

unread_if : (b : Bool) (f : Fall) (x y : Fall × Verdict) → (b ≡ true → GoesUnread f x.0) → (b ≡ false → GoesUnread f y.0) → GoesUnread f (if b then x else y).0
unread_if = elim [ true ↦ λ f x y is isnt. is refl | false ↦ λ f x y is isnt. isnt refl ]

starting_reads : (m : Mode) → is_starting m ≡ true → Unread m → ⊥
starting_reads = elim [ Mode.Starting ↦ λ is unread. false≢true (sym unread) | _ ↦ λ is unread. false≢true is ]

sending_unread : (m : Mode) → writes_mappings m ≡ true → Unread m → Unread (with_infinite_send m)
sending_unread Mode.Identity writes unread = absurd (false≢true writes)
sending_unread Mode.InfiniteReceive writes unread = refl
sending_unread Mode.InfiniteBoth writes unread = absurd (false≢true writes)
sending_unread Mode.Aborted writes unread = absurd (false≢true writes)
sending_unread _ writes unread = absurd (false≢true (sym unread))

receiving_unread : (m : Mode) → Unread (with_infinite_receive m)
receiving_unread = elim [ Mode.Starting ↦ refl | _ ↦ refl ]

not_twice : (b : Bool) → not b ≡ false → b ≡ true
not_twice = elim [ true ↦ λ is. refl | false ↦ λ is. absurd (false≢true (sym is)) ]

plain_unread : (f : Fall) → GoesUnread f (if is_starting f.mode && not f.joined then goes Mode.Identity f else stays f).0
plain_unread f = unread_if (is_starting f.mode && not f.joined) f (goes Mode.Identity f) (stays f) (λ is unread. refl) (λ isnt unread. unread)

sign_unread : (f : Fall) → GoesUnread f (if is_starting f.mode then goes Mode.Sure f else stays f).0
sign_unread f = unread_if (is_starting f.mode) f (goes Mode.Sure f) (stays f) (λ is unread. absurd (starting_reads f.mode is unread)) (λ isnt unread. unread)

event_unread : (path : ℕ) (sole : Bool) (event : FallEvent) (f : Fall) → GoesUnread f (fall_step f path sole event).0
event_unread path sole FallEvent.PlainHandshake f = plain_unread f
event_unread path sole FallEvent.PlainData f = plain_unread f
event_unread path sole FallEvent.PlainAck f = plain_unread f
event_unread path sole FallEvent.MappingHeard f = sign_unread f
event_unread path sole FallEvent.AckHeard f = sign_unread f
event_unread path sole FallEvent.KeysHeard f =
    unread_if (is_identity f.mode) f (stays f) (record f { confirmed = true }, Verdict.Stay) (λ is unread. unread) (λ isnt unread. unread)
event_unread path sole FallEvent.InfiniteHeard f =
    let falls : Bool = writes_mappings f.mode && not f.joined && is_none f.failed in
    let last : Fall × Verdict = if falls then goes Mode.Identity f else breaks 1 f in
    let rest : Fall × Verdict = if sole && is_failed_path f.failed path then goes (with_infinite_receive f.mode) f else last in
    unread_if (not (reads_mappings f.mode)) f (stays f) rest (λ is unread. unread)
    (λ reads. unread_if (sole && is_failed_path f.failed path) f (goes (with_infinite_receive f.mode) f) last (λ is unread. receiving_unread f.mode)
    (λ isnt. unread_if falls f (goes Mode.Identity f) (breaks 1 f) (λ is unread. refl) (λ other unread. unread)))
event_unread path sole FallEvent.CheckFailed f =
    let noted : Fall × Verdict = (record f { failed = Some path }, Verdict.SendFail) in
    let rest : Fall × Verdict = if sole then noted else breaks 6 f in
    unread_if (not (reads_mappings f.mode)) f (stays f) rest (λ is unread. unread)
    (λ reads. unread_if sole f noted (breaks 6 f) (λ is unread. unread) (λ isnt unread. unread))
event_unread path sole (FallEvent.FailHeard contiguous) f =
    let rest : Fall × Verdict = if sole && contiguous then goes (with_infinite_send f.mode) f else breaks 1 f in
    unread_if (not (writes_mappings f.mode)) f (stays f) rest (λ is unread. unread)
    (λ writes. unread_if (sole && contiguous) f (goes (with_infinite_send f.mode) f) (breaks 1 f) (λ is unread. sending_unread f.mode (not_twice (writes_mappings f.mode) writes) unread)
    (λ isnt unread. unread))
event_unread path sole FallEvent.Stop f = λ unread. refl

-- ---- one call

if_unread : (b : Bool) (f : Fall) (c d : Control) → GoesUnread f c.fall → GoesUnread f d.fall → GoesUnread f (if b then c else d).fall
if_unread = elim [ true ↦ λ f c d x y. x | false ↦ λ f c d x y. y ]

notice_unread : (n : Notice) (path : ℕ) (c : Control) → GoesUnread c.fall (controlling.after_notice n path c).fall
notice_unread = elim [ Notice.Withdraw id ↦ λ path c. λ unread. unread | _ ↦ λ path c. λ unread. unread ]

call_unread : (c : Control) (call : ControlCall) → GoesUnread c.fall (controlling.after c call).fall
call_unread c (ControlCall.Look path) = notice_unread (control.notice_on c path) path c
call_unread c (ControlCall.PeerKey key) = λ unread. unread
call_unread c (ControlCall.Keys own other) =
    if_unread (own == c.keys.own) c.fall (controlling.after_event 0 false FallEvent.KeysHeard (controlling.after_peer_key other c)) c (event_unread 0 false FallEvent.KeysHeard c.fall) (λ unread. unread)
call_unread c (ControlCall.Fell path event) = event_unread path (sole_path c.paths path) event c.fall
call_unread c (ControlCall.JoinBegin path) = if_unread (control.may_join c) c.fall _ c (λ unread. unread) (λ unread. unread)
call_unread c (ControlCall.JoinHeard path token) = if_unread _ c.fall (controlling.after_join c) c (λ unread. unread) (λ unread. unread)
call_unread c (ControlCall.Withdraw id) = if_unread _ c.fall _ c (λ unread. unread) (λ unread. unread)
call_unread c (ControlCall.Echoed id) = if_unread _ c.fall _ c (λ unread. unread) (λ unread. unread)
call_unread c (ControlCall.Removed id) = if_unread _ c.fall _ c (λ unread. unread) (λ unread. unread)
call_unread c ControlCall.FastClose = λ unread. refl
call_unread c (ControlCall.FastHeard key) = if_unread (key == c.keys.own) c.fall (controlling.after_event 0 false FallEvent.Stop c) c (λ unread. refl) (λ unread. unread)
call_unread c _ = λ unread. unread

-- ---- one ask

abbrev UnreadAt : SixBooks → Side → Type 0
UnreadAt six s = Unread (control_of s six).fall.mode

ask_unread : (six : SixBooks) (x : Ask) (s : Side) → UnreadAt six s → UnreadAt (after_ask x six) s
ask_unread six (Ask.Control A call) A unread = call_unread six.control_a call unread
ask_unread six (Ask.Control A call) B unread = unread
ask_unread six (Ask.Control B call) A unread = unread
ask_unread six (Ask.Control B call) B unread = call_unread six.control_b call unread
ask_unread six (Ask.Send A call) A unread = unread
ask_unread six (Ask.Send A call) B unread = unread
ask_unread six (Ask.Send B call) A unread = unread
ask_unread six (Ask.Send B call) B unread = unread
ask_unread six (Ask.Reassembly A call) A unread = unread
ask_unread six (Ask.Reassembly A call) B unread = unread
ask_unread six (Ask.Reassembly B call) A unread = unread
ask_unread six (Ask.Reassembly B call) B unread = unread
ask_unread six (Ask.Local step) s unread = unread

-- where a side fell back, they count no more
fallback_unread : (m : Mode) → is_fallback m ≡ true → Unread m
fallback_unread Mode.Identity is = refl
fallback_unread Mode.InfiniteReceive is = refl
fallback_unread Mode.InfiniteBoth is = refl
fallback_unread _ is = absurd (false≢true is)

abbrev IsUnread : StampedBooks → Side → Type 0
IsUnread books s = Was is_fallback books s → UnreadAt (books_in books) s

entry_unread : (x : Ask) (pass : Pass) (books : StampedBooks) (s : Side) → IsUnread books s → IsUnread (after_entry x pass books) s
entry_unread x pass books s h is = ⊎_elim
    (λ before. subst (λ (six : SixBooks). UnreadAt six s) (sym (books_after x pass books)) (ask_unread (books_in books) x s (h before)))
    (λ now. fallback_unread (control_of s (books_in (after_entry x pass books))).fall.mode now)
    (was_more is_fallback x pass books s is)

-- ---- turns

module _ {C : Type 0} (k : Codec C) (s : Side) where
  run_unread : (turns : List Turn) (w : WorldState C) → IsUnread w.books s → IsUnread (world_run k turns w).books s
  run_unread = run_so k (λ w. IsUnread w.books s) (λ w h actor c x there is. entry_unread x c.pass w.books s h) (λ w h over. h)

-- ---- the law

opened_unread : (C : Type 0) (start : Start) (s : Side) → IsUnread (opened_world {C = C} start).books s
opened_unread C start A is = absurd (false≢true is)
opened_unread C start B is = absurd (false≢true is)

pub falls_for_good : {C : Type 0} (k : Codec C) → Always k (λ start w. FallsForGood k w)
falls_for_good {C} k start turns s more fell =
    let w = world_run k turns (opened_world start) in
    let later = run_was is_fallback k s more w fell in
    (later, run_unread k s more w (run_unread k s turns (opened_world start) (opened_unread C start s)) later)
