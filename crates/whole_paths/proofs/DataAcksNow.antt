-- On the only path of a connection an end knows what its side received.
use Rattle.std.proofs.Common.{◌≡◌, refl, sym, subst, ap, ◌∙◌, ◌⊎◌, inl, inr, ⊎_elim, ℕ, zero, suc, ◌+◌, ◌-◌, ◌≤◌, arith, min, Bool, true, false, true≢false, ◌&&◌, ◌||◌, if◌then◌else◌, Option, Some, None, is_some, List, [], ◌∷◌, length, map, set}
use Rattle.std.specs.Prelude.{IfSome}
use Rattle.std.specs.List.{slice_get}
use Rattle.std.proofs.lemmas.Bool.{and_parts, cases_lt}
use Rattle.std.proofs.lemmas.Option.{same_Some}
use Rattle.sides.specs.declared.side.Side.{Side}
use Rattle.sides.specs.declared.side.Side.TheVariants.{A, B}
use Rattle.sides.specs.Side.{peer}
use Rattle.link_script.specs.Places.{same_side}
use Rattle.fallback_state.specs.declared.fall.Event.TheVariants as events
use Rattle.reassembly_book.specs.State.{Arriving, filled, received}
use Rattle.reassembly_book.specs.Steps.{is_end, next_wanted, after_reading, after_call}
use Rattle.reassembly_book.specs.declared.call.ReassemblyCall.{ReassemblyCall}
use Rattle.reassembly_book.specs.declared.call.ReassemblyCall.TheVariants as reassembly_calls
use Rattle.stamped_book.specs.declared.stamped.Pass.{Pass}
use Rattle.stream_apps.specs.Apps.{AppState}
use Rattle.stream_apps.specs.declared.duty.AppDuty.{AppDuty}
use Rattle.stream_apps.specs.declared.duty.AppDuty.TheVariants as app_duties
use Rattle.stream_apps.specs.AppSteps.{app_ask}
use Rattle.stream_lanes.proofs.Arrivals.{filled_left}
use Rattle.actor_desk.specs.declared.ask.Ask.{Ask}
use Rattle.actor_desk.specs.declared.ask.Ask.TheVariants as asks
use Rattle.actor_desk.specs.declared.ask.Reply.{Reply}
use Rattle.actor_desk.specs.Books.{StampedBooks, after_entry, books_in}
use Rattle.actor_desk.specs.Desk.{SixBooks, reassembly_of, reply_of, after_ask}
use Rattle.actor_desk.specs.Words.{is_nil, pick}
use Rattle.path_agenda.specs.Agenda.{start_of_turn, leaves, resets}
use Rattle.path_agenda.specs.declared.duty.Duty.{Duty}
use Rattle.path_agenda.specs.declared.duty.Duty.TheVariants as duties
use Rattle.path_agenda.specs.declared.duty.AskDuty.TheVariants as ask_duties
use Rattle.path_agenda.specs.declared.duty.SendDuty.TheVariants as send_duties
use Rattle.path_agenda.specs.declared.duty.SilentDuty.TheVariants as silent_duties
use Rattle.path_agenda.specs.declared.duty.StepDuty.TheVariants as step_duties
use Rattle.path_agenda.specs.declared.heard.Heard.{Heard}
use Rattle.path_agenda.specs.declared.heard.Heard.TheVariants as says
use Rattle.path_store.specs.Passing.{Piece}
use Rattle.path_core.specs.Breaking.{answered_break, reset_of, reset_on}
use Rattle.path_core.specs.Codec.{Codec}
use Rattle.path_core.specs.DataFin.{is_fin_set, answered_fin_heard, answered_plain_fin, with_peer_data_fin, with_fin_told, after_pass_fin}
use Rattle.path_core.specs.Deliver.{piece_of, is_placed, answered_piece, after_piece, having_asked, mapping_here, after_check, after_keep, after_pieces}
use Rattle.path_core.specs.DssIn.{counts, is_clash, with_learned, with_skipped, with_data_fin}
use Rattle.path_core.specs.Duties.{stands, ask_for, passed, answered}
use Rattle.path_core.specs.End.{PathEnd, died}
use Rattle.path_core.specs.Fallback.{breaks_by_ack, after_fell, fell_duties, with_plain_ack, after_infinite}
use Rattle.path_core.specs.Handover.{sends}
use Rattle.path_core.specs.Looking.{first_sends, duty_sends, segment_sent}
use Rattle.path_core.specs.Start.{waiting_path}
use Rattle.path_core.specs.Standing.{ack_out_ask, answered_ack_out, after_ack_out}
use Rattle.path_core.specs.State.{PathState, end_at, goes_on, with_agenda}
use Rattle.path_core.specs.Steps.{settled, takes}
use Rattle.path_core.specs.Timer.{with_timer_settled}
use Rattle.path_core.specs.Treating.{item_of, item_passed, answered_item}
use Rattle.world_laws.specs.Actors.{ActorCrew}
use Rattle.world_laws.specs.Asking.{May, may, IsAt, asking}
use Rattle.world_laws.specs.Members.{HoldsOfKind}
use Rattle.world_laws.specs.Openings.{PathPlan, Start, path_begins, opened_world}
use Rattle.world_laws.specs.StampedBooks.{answer_to}
use Rattle.world_laws.specs.Worlds.{WorldState, Turn, all_over, greatest, begins, after_turn, world_run}
use Rattle.world_laws.specs.Writes.{EndView, Only, PathView, nothing, writes, side_of}
use Rattle.world_laws.proofs.Asks.AckOutBeforeSending.{Shielded, shielded_calm, takes_shielded, next_shielded, first_shielded}
use Rattle.world_laws.proofs.Asks.AckOutDuties.{is_asking, is_telling, is_shield, guarded}
use Rattle.world_laws.proofs.Falls.FailedChecks.{forgets_so, infinite_came_so, fail_answered_so}
use Rattle.world_laws.proofs.Weaving.Journals.{books_after}
use Rattle.world_laws.proofs.Worlds.CastLifting.{Has, Stepwise, steps_have, ended_has, each_actor}
use Rattle.world_laws.proofs.Worlds.Casts.{Walker, Cast, Fare, world_of, walking, walked, walks_on, after_path, next_cast, first_cast, first_fare, new_walker, walkers_from, opened_is}
use Rattle.world_laws.proofs.Writes.Asks.{asks_no_more}
use Rattle.world_laws.proofs.Writes.Paths.{writes_no_more, passes_no_more}
use Rattle.world_laws.proofs.Writes.Steps.{unwritten}
use Rattle.whole_paths.specs.AgendaSteps.{is_silent, is_gone}
use Rattle.whole_paths.specs.Answered.{IsDone}
use Rattle.whole_paths.specs.Answered.{IsDone as done_by}
use Rattle.whole_paths.specs.EndSteps.{PathStep}
use Rattle.whole_paths.specs.DataAcksNow.{EachDataAckIsUpToDate, IsUpToDate, KnowsWhatCame, KnowsWindow, WindowSince}
use Rattle.whole_paths.proofs.Agendas.{own_end, gone_end}
use Rattle.whole_paths.proofs.Duties.{answered_steps, passed_steps}
use Rattle.whole_paths.proofs.Passing.{Resets, silent_resets}
use Rattle.whole_paths.proofs.Pieces.{own_only}
use Rattle.whole_paths.proofs.Saying.{ToSend}
use Rattle.whole_paths.proofs.SoundBooks.{BooksAreSound, BooksHold, sound_asked, sound_first, sound_holds}
use Rattle.whole_paths.proofs.Settling.{sides}
use Rattle.whole_paths.proofs.Waiting.{gone_stays, path_far}

-- ---- a reassembly book

-- the book is given neither bytes nor an end, and 65,536 bytes are read or more, where there are so many
abbrev LeavesBook : ReassemblyCall → Type 0
LeavesBook (reassembly_calls.Place at bytes) = ⊥
LeavesBook (reassembly_calls.Fin at) = ⊥
LeavesBook (reassembly_calls.Read max) = 65536 ≤ max
LeavesBook _ = Unit {0}

abbrev LeavesBooks : Ask → Type 0
LeavesBooks (asks.Reassembly s call) = LeavesBook call
LeavesBooks _ = Unit {0}

read_on : (count : ℕ) (b : Arriving) → received (after_reading count b) ≡ received b
read_on count b = (let n : ℕ = min count (length (filled b.places)) in let left = filled_left n b.places (omega arith) in omega (arith, left))

-- what is read was received before
call_wanted : (b : Arriving) (call : ReassemblyCall) → LeavesBook call → next_wanted (after_call b call) ≡ next_wanted b
call_wanted b (reassembly_calls.Place at bytes) leaves = absurd leaves
call_wanted b (reassembly_calls.Fin at) leaves = absurd leaves
call_wanted b (reassembly_calls.Read max) leaves = elim (is_some b.aborted) as (λ x. next_wanted (if x then b else after_reading max b) ≡ next_wanted b)
    [ true ↦ refl | false ↦ ap (λ n. n + (if is_end b.known_end n then 1 else 0)) (read_on max b) ]
call_wanted b reassembly_calls.AckOut leaves = refl
call_wanted b (reassembly_calls.Abort by_peer) leaves = refl

-- an application reads all that is received, or so many bytes
read_window : (count : ℕ) (b : Arriving) (window : ℕ) → 65536 ≤ count → WindowSince b window → WindowSince (after_reading count b) window
read_window count b window enough h = record {
  read = h.read;
  is = h.is ∙ ap (λ n. h.read + b.capacity - n) (sym (read_on count b));
  low = (let same = read_on count b in let low = h.low in omega (arith, same, low));
  since = by h.since;
}
  where
    by : (b.read ≡ h.read) ⊎ ((received b ≤ b.read) ⊎ (h.read + 65536 ≤ b.read))
        → ((after_reading count b).read ≡ h.read) ⊎ ((received (after_reading count b) ≤ (after_reading count b).read) ⊎ (h.read + 65536 ≤ (after_reading count b).read))
    by (inl is) = ⊎_elim
        (λ many. inr (inr (omega (arith, is, many, enough))))
        (λ few. inr (inl (let same = read_on count b in omega (arith, same, few))))
        (cases_lt count (length (filled b.places)))
    by (inr (inl all)) = inr (inl (let same = read_on count b in omega (arith, same, all)))
    by (inr (inr far)) = inr (inr (omega (arith, far)))

call_window : (b : Arriving) (call : ReassemblyCall) (window : ℕ) → LeavesBook call → WindowSince b window → WindowSince (after_call b call) window
call_window b (reassembly_calls.Place at bytes) window leaves h = absurd leaves
call_window b (reassembly_calls.Fin at) window leaves h = absurd leaves
call_window b (reassembly_calls.Read max) window leaves h = elim (is_some b.aborted) as (λ x. WindowSince (if x then b else after_reading max b) window) [ true ↦ h | false ↦ read_window max b window leaves h ]
call_window b reassembly_calls.AckOut window leaves h = h
call_window b (reassembly_calls.Abort by_peer) window leaves h = record { read = h.read; is = h.is; low = h.low; since = h.since }

abbrev wanted : SixBooks → Side → ℕ
wanted six s = next_wanted (reassembly_of s six)

ask_wanted : (x : Ask) (six : SixBooks) → LeavesBooks x → (s : Side) → wanted (after_ask x six) s ≡ wanted six s
ask_wanted (asks.Reassembly A call) six leaves A = call_wanted six.reassembly_a call leaves
ask_wanted (asks.Reassembly B call) six leaves B = call_wanted six.reassembly_b call leaves
ask_wanted (asks.Reassembly A call) six leaves B = refl
ask_wanted (asks.Reassembly B call) six leaves A = refl
ask_wanted (asks.Send A call) six leaves s = refl
ask_wanted (asks.Send B call) six leaves s = refl
ask_wanted (asks.Control A call) six leaves s = refl
ask_wanted (asks.Control B call) six leaves s = refl
ask_wanted (asks.Local step) six leaves s = refl

ask_window : (x : Ask) (six : SixBooks) → LeavesBooks x → (s : Side) (window : ℕ) → WindowSince (reassembly_of s six) window → WindowSince (reassembly_of s (after_ask x six)) window
ask_window (asks.Reassembly A call) six leaves A window h = call_window six.reassembly_a call window leaves h
ask_window (asks.Reassembly B call) six leaves B window h = call_window six.reassembly_b call window leaves h
ask_window (asks.Reassembly A call) six leaves B window h = h
ask_window (asks.Reassembly B call) six leaves A window h = h
ask_window (asks.Send A call) six leaves s window h = h
ask_window (asks.Send B call) six leaves s window h = h
ask_window (asks.Control A call) six leaves s window h = h
ask_window (asks.Control B call) six leaves s window h = h
ask_window (asks.Local step) six leaves s window h = h

-- the peer's book is asked nothing
peer_book : (s : Side) (x : Ask) (six : SixBooks) → IsAt s x → reassembly_of (peer s) (after_ask x six) ≡ reassembly_of (peer s) six
peer_book A (asks.Reassembly A call) six at = refl
peer_book B (asks.Reassembly B call) six at = refl
peer_book A (asks.Reassembly B call) six at = cc
peer_book B (asks.Reassembly A call) six at = cc
peer_book A (asks.Send A call) six at = refl
peer_book A (asks.Send B call) six at = refl
peer_book B (asks.Send A call) six at = refl
peer_book B (asks.Send B call) six at = refl
peer_book A (asks.Control A call) six at = refl
peer_book A (asks.Control B call) six at = refl
peer_book B (asks.Control A call) six at = refl
peer_book B (asks.Control B call) six at = refl
peer_book s (asks.Local step) six at = refl

-- an application reads at most
app_leaves : (d : AppDuty) (a : AppState) → LeavesBooks (app_ask d a)
app_leaves app_duties.AbortReceive a = tt
app_leaves app_duties.Read a = omega arith
app_leaves d a = tt

-- ---- what a duty asks

abbrev tells_book : Duty → Bool
tells_book (duties.Ask (ask_duties.Edge s)) = true
tells_book (duties.Ask (ask_duties.HeardFin s index)) = true
tells_book (duties.Ask (ask_duties.SubflowFin s)) = true
tells_book _ = false

may_leave : (m : May) (x : Ask) → m.place ≡ false → m.fin ≡ false → may m x ≡ true → LeavesBooks x
may_leave m (asks.Reassembly s (reassembly_calls.Place at bytes)) place fin is = true≢false (sym is ∙ place)
may_leave m (asks.Reassembly s (reassembly_calls.Fin at)) place fin is = true≢false (sym is ∙ fin)
may_leave m (asks.Reassembly s reassembly_calls.AckOut) place fin is = tt
may_leave m (asks.Reassembly s (reassembly_calls.Abort by_peer)) place fin is = tt
may_leave m (asks.Reassembly s (reassembly_calls.Read max)) place fin is = absurd (true≢false (sym is))
may_leave m (asks.Send s call) place fin is = tt
may_leave m (asks.Control s call) place fin is = tt
may_leave m (asks.Local step) place fin is = tt

no_place : (d : Duty) → tells_book d ≡ false → (asking d).place ≡ false
no_place (duties.Ask (ask_duties.Edge s)) is = absurd (true≢false is)
no_place (duties.Step step_duties.Events) is = refl
no_place (duties.Send d) is = refl
no_place (duties.Silent d) is = refl
no_place d is = refl

no_fin : (d : Duty) → tells_book d ≡ false → (asking d).fin ≡ false
no_fin (duties.Ask (ask_duties.HeardFin s index)) is = absurd (true≢false is)
no_fin (duties.Ask (ask_duties.SubflowFin s)) is = absurd (true≢false is)
no_fin (duties.Step step_duties.Events) is = refl
no_fin (duties.Send d) is = refl
no_fin (duties.Silent d) is = refl
no_fin d is = refl

-- ---- an end

-- an end knows the place that its side wants next, and the window, unless the book was told more since it was asked
record Known (six : SixBooks) (s : Side) (e : PathEnd) : Type 0 where
  now : e.treated.asked ≡ false → is_gone e ≡ false → e.receiving.next ≡ wanted six s
  window : e.treated.asked ≡ false → is_gone e ≡ false → KnowsWindow (reassembly_of s six) e

-- what it knows stays, and whether more was told
record Same (e f : PathEnd) : Type 0 where
  next : f.receiving.next ≡ e.receiving.next
  window : f.receiving.window ≡ e.receiving.window
  asked : f.treated.asked ≡ e.treated.asked

same_so : (e f : PathEnd) → f.receiving.next ≡ e.receiving.next → f.receiving.window ≡ e.receiving.window → f.treated.asked ≡ e.treated.asked → Same e f
same_so e f next window asked = record { next = next; window = window; asked = asked }

-- what it knows stays
record SameNow (e f : PathEnd) : Type 0 where
  next : f.receiving.next ≡ e.receiving.next
  window : f.receiving.window ≡ e.receiving.window

now_so : (e f : PathEnd) → f.receiving.next ≡ e.receiving.next → f.receiving.window ≡ e.receiving.window → SameNow e f
now_so e f next window = record { next = next; window = window }

window_so : (b : Arriving) (e f : PathEnd) → SameNow e f → KnowsWindow b e → KnowsWindow b f
window_so b e f x h some = subst (WindowSince b) (sym x.window) (h (let next = x.next in let window = x.window in omega (arith, some, next, window)))

-- or the end is dead
abbrev SameNext : PathEnd → PathEnd → Type 0
SameNext e f = (is_gone f ≡ true) ⊎ SameNow e f

next_of : (e f : PathEnd) → SameNext e f → is_gone f ≡ false → SameNow e f
next_of e f (inl gone) alive = absurd (true≢false (sym gone ∙ alive))
next_of e f (inr same) alive = same

here : (s : Side) (e f a b : PathEnd) → Same e f → Same e (pick s (pick s f a) (pick s b f))
here s e f a b x = subst (λ g. Same e g) (sym (own_end s f a b)) x

here_next : (s : Side) (e f a b : PathEnd) → f.receiving.next ≡ e.receiving.next → f.receiving.window ≡ e.receiving.window → SameNext e (pick s (pick s f a) (pick s b f))
here_next s e f a b next window = inr (subst (λ g. SameNow e g) (sym (own_end s f a b)) (now_so e f next window))

here_asked : (six : SixBooks) (s : Side) (f a b : PathEnd) → f.treated.asked ≡ true → Known six s (pick s (pick s f a) (pick s b f))
here_asked six s f a b told = subst (λ g. Known six s g) (sym (own_end s f a b)) (record { now = λ asked living. absurd (true≢false (sym told ∙ asked)); window = λ asked living. absurd (true≢false (sym told ∙ asked)) })

item_same : (s : Side) (o : Option Heard) (e : PathEnd) → Same e (item_passed s o e)
item_same s None e = same_so e e refl refl refl
item_same s (Some (says.Mapping fin)) e = elim (counts e) as (λ b. Same e (if b then with_learned e else with_skipped e)) [ true ↦ same_so e (with_learned e) refl refl refl | false ↦ same_so e (with_skipped e) refl refl refl ]
item_same s (Some (says.DataFin place)) e = elim (counts e) as (λ b. Same e (if b then with_data_fin place e else e)) [ true ↦ same_so e (with_data_fin place e) refl refl refl | false ↦ same_so e e refl refl refl ]
item_same s (Some _) e = same_so e _ refl refl refl

-- no duty by which the book is told or asked sends a segment but a reset
shield_silent : (s : Side) (d : Duty) → is_shield s d ≡ true → is_silent d ≡ true
shield_silent s (duties.Ask (ask_duties.AckOut t)) is = refl
shield_silent s (duties.Ask (ask_duties.BreakAck t reason)) is = refl
shield_silent s (duties.Ask (ask_duties.Edge t)) is = refl
shield_silent s (duties.Ask (ask_duties.CheckFailed t)) is = refl
shield_silent s (duties.Ask (ask_duties.GoIdentity t)) is = refl
shield_silent s (duties.Ask (ask_duties.HeardFin t index)) is = refl
shield_silent s (duties.Ask (ask_duties.SubflowFin t)) is = refl
shield_silent s (duties.Ask d) is = absurd (true≢false (sym is))
shield_silent s (duties.Step (step_duties.Unmapped t)) is = refl
shield_silent s (duties.Step d) is = absurd (true≢false (sym is))
shield_silent s (duties.Silent d) is = refl
shield_silent s (duties.Send d) is = absurd (true≢false (sym is))
shield_silent s duties.End is = absurd (true≢false (sym is))

guard_shield : (s : Side) (d : Duty) (ds : List Duty) → guarded s (d ∷ ds) ≡ true → is_shield s d ≡ true
guard_shield s d ds is = by (is_asking s d) (is_telling s d) is
  where
    by : (asks tells : Bool) → (asks || (tells && guarded s ds)) ≡ true → (asks || tells) ≡ true
    by true tells is = refl
    by false true is = refl
    by false false is = is

-- what is to be acknowledged is asked
abbrev acks : Duty → Bool
acks (duties.Ask (ask_duties.Window s)) = true
acks (duties.Ask (ask_duties.AckOut s)) = true
acks (duties.Ask (ask_duties.BreakAck s reason)) = true
acks _ = false

unlike : (s : Side) → same_side (peer s) s ≡ false
unlike A = refl
unlike B = refl

-- the peer's end told its book nothing since it asked
peer_calm : (d : Duty) → is_shield (peer (side_of d)) d ≡ false
peer_calm (duties.Ask (ask_duties.AckOut s)) = ap (λ b. b || false) (unlike s)
peer_calm (duties.Ask (ask_duties.BreakAck s reason)) = ap (λ b. b || false) (unlike s)
peer_calm (duties.Ask (ask_duties.Edge s)) = unlike s
peer_calm (duties.Ask (ask_duties.CheckFailed s)) = unlike s
peer_calm (duties.Ask (ask_duties.GoIdentity s)) = unlike s
peer_calm (duties.Ask (ask_duties.HeardFin s index)) = unlike s
peer_calm (duties.Ask (ask_duties.SubflowFin s)) = unlike s
peer_calm (duties.Step (step_duties.Unmapped s)) = unlike s
peer_calm (duties.Silent (silent_duties.PassFin s)) = unlike s
peer_calm _ = refl

module _ {C : Type 0} where
  -- ---- a duty that is passed

  passed_own : (d : Duty) (p : PathState C) → Same (end_at (side_of d) p) (end_at (side_of d) (passed d p))
  passed_own (duties.Ask (ask_duties.CheckFailed s)) p =
      let e = end_at s p in
      here s e (after_check p.profile e) p.a p.b (forgets_so (λ f. Same e f) p.profile.spelling.checksums (mapping_here e) e (λ recv forgotten. same_so e (record e { tcp = record e.tcp { recv = recv } }) refl refl refl))
  passed_own (duties.Step (step_duties.Heard s index)) p = let e = end_at s p in here s e (item_passed s (item_of index e) e) p.a p.b (item_same s (item_of index e) e)
  passed_own (duties.Step (step_duties.PlainAck s)) p = let e = end_at s p in here s e (with_plain_ack e) p.a p.b (same_so e (with_plain_ack e) refl refl refl)
  passed_own (duties.Step (step_duties.Unmapped s)) p = let e = end_at s p in here s e (after_pieces e) p.a p.b (same_so e (after_pieces e) refl refl refl)
  passed_own (duties.Silent (silent_duties.Timer s)) p = let e = end_at s p in here s e (with_timer_settled p.clock e) p.a p.b (same_so e (with_timer_settled p.clock e) refl refl refl)
  passed_own (duties.Silent (silent_duties.Keep s)) p = let e = end_at s p in here s e (after_keep s e) p.a p.b (same_so e (after_keep s e) refl refl refl)
  passed_own (duties.Silent (silent_duties.PassFin s)) p = let e = end_at s p in here s e (after_pass_fin e) p.a p.b (same_so e (after_pass_fin e) refl refl refl)
  passed_own d p = same_so (end_at (side_of d) p) (end_at (side_of d) p) refl refl refl

  only_same : (s : Side) (p q : PathState C) → Only nothing (end_at s p) (end_at s q) → Same (end_at s p) (end_at s q)
  only_same s p q x = record {
    next = unwritten false (end_at s p).receiving.next (end_at s q).receiving.next refl (ap (λ (v : EndView). v.next) x.same);
    window = unwritten false (end_at s p).receiving.window (end_at s q).receiving.window refl (ap (λ (v : EndView). v.window) x.same);
    asked = unwritten false (end_at s p).treated.asked (end_at s q).treated.asked refl (ap (λ (v : EndView). v.asked) x.same);
  }

  -- a duty that writes neither
  only_kept : (k : Codec C) (d : Duty) (r : Reply) (p : PathState C) → (writes d).own.next ≡ false → (writes d).own.window ≡ false → (writes d).own.asked ≡ false → Same (end_at (side_of d) p) (end_at (side_of d) (answered k d r p))
  only_kept k d r p next window asked =
      let x = own_only (side_of d) (writes d) p (answered k d r p) (writes_no_more k d r p) in
      record {
        next = unwritten (writes d).own.next (end_at (side_of d) p).receiving.next (end_at (side_of d) (answered k d r p)).receiving.next next (ap (λ (v : EndView). v.next) x.same);
        window = unwritten (writes d).own.window (end_at (side_of d) p).receiving.window (end_at (side_of d) (answered k d r p)).receiving.window window (ap (λ (v : EndView). v.window) x.same);
        asked = unwritten (writes d).own.asked (end_at (side_of d) p).treated.asked (end_at (side_of d) (answered k d r p)).treated.asked asked (ap (λ (v : EndView). v.asked) x.same);
      }

  passed_other : (d : Duty) (p : PathState C) → Same (end_at (peer (side_of d)) p) (end_at (peer (side_of d)) (passed d p))
  passed_other (duties.Step step_duties.Events) p = same_so p.b p.b refl refl refl
  passed_other d p = only_same (peer (side_of d)) p (passed d p) (record { same = ap (λ (v : PathView C). v.other) (passes_no_more d p).same })

  passed_same : (s : Side) (d : Duty) (p : PathState C) → Same (end_at s p) (end_at s (passed d p))
  passed_same s d p = ⊎_elim
      (λ own. subst (λ t. Same (end_at t p) (end_at t (passed d p))) own (passed_own d p))
      (λ away. subst (λ t. Same (end_at t p) (end_at t (passed d p))) away (passed_other d p))
      (sides s (side_of d))

  far_gone : (s : Side) (p q : PathState C) → PathStep p q → is_gone (end_at s p) ≡ true → is_gone (end_at s q) ≡ true
  far_gone s p q x = gone_stays (end_at s p) (end_at s q) (path_far p q x s)

  living_before : (s : Side) (p q : PathState C) → (is_gone (end_at s p) ≡ true → is_gone (end_at s q) ≡ true) → is_gone (end_at s q) ≡ false → is_gone (end_at s p) ≡ false
  living_before s p q stays living = (elim (is_gone (end_at s p)) as (λ b. is_gone (end_at s p) ≡ b → b ≡ false) [ true ↦ λ gone. absurd (true≢false (sym (stays gone) ∙ living)) | false ↦ λ is. refl ]) refl

  settled_known : (six : SixBooks) (s : Side) (ds : List Duty) (p : PathState C) → Known six s (end_at s p) → Known six s (end_at s (settled ds p))
  settled_known six s [] p h = h
  settled_known six s (d ∷ ds) p h = elim (stands d p) as (λ b. Known six s (end_at s (if b then with_agenda (d ∷ ds) p else settled ds (passed d p)))) [
    | true ↦ h
    | false ↦ settled_known six s ds (passed d p) (let x = passed_same s d p in record {
      now = λ asked alive. x.next ∙ h.now (sym x.asked ∙ asked) (living_before s p (passed d p) (far_gone s p (passed d p) (passed_steps d p)) alive);
      window = λ asked alive. window_so (reassembly_of s six) (end_at s p) (end_at s (passed d p)) (now_so (end_at s p) (end_at s (passed d p)) x.next x.window)
          (h.window (sym x.asked ∙ asked) (living_before s p (passed d p) (far_gone s p (passed d p) (passed_steps d p)) alive));
    })
  ]

  -- ---- a duty that is answered

  break_next : (k : Codec C) (s : Side) (reason : ℕ) (r : Reply) (p : PathState C) → (end_at s p).treated.asked ≡ false → SameNext (end_at s p) (end_at s (answered_break k s reason r p))
  break_next k s reason r p calm = (elim (end_at s p).treated.asked as
      (λ b. (end_at s p).treated.asked ≡ b → SameNext (end_at s p) (end_at s (if b then answered_ack_out s r (resets s reason) p else reset_on k s (Some reason) (leaves s) p)))
      [ true ↦ λ asked. absurd (true≢false (sym asked ∙ calm)) | false ↦ λ is. inl (gone_end s (died (end_at s p)) p.a p.b refl) ]) refl

  thing_next : (k : Codec C) (s : Side) (o : Option Heard) (r : Reply) (p : PathState C) → (end_at s p).treated.asked ≡ false → SameNext (end_at s p) (end_at s (answered_item k s o r p))
  thing_next k s None r p calm = inr (now_so (end_at s p) (end_at s p) refl refl)
  thing_next k s (Some (says.DataAck next window)) r p calm = here_next s (end_at s p) _ p.a p.b refl refl
  thing_next k s (Some (says.Mapping fin)) r p calm = elim (is_clash (end_at s p)) as
      (λ b. SameNext (end_at s p) (end_at s (if b then answered_break k s 1 r p else goes_on s (with_learned (after_fell events.MappingHeard r (end_at s p))) (fell_duties s r p) p)))
      [ true ↦ break_next k s 1 r p calm | false ↦ here_next s (end_at s p) (with_learned (after_fell events.MappingHeard r (end_at s p))) p.a p.b refl refl ]
  thing_next k s (Some (says.DataFin place)) r p calm = here_next s (end_at s p) _ p.a p.b refl refl
  thing_next k s (Some (says.InfiniteMapping place position)) r p calm =
      let e = end_at s p in here_next s e (after_infinite place position r e) p.a p.b (infinite_came_so (λ f. f.receiving.next ≡ e.receiving.next) place position r e (λ other. refl))
      (infinite_came_so (λ f. f.receiving.window ≡ e.receiving.window) place position r e (λ other. refl))
  thing_next k s (Some (says.Keys own other)) r p calm = here_next s (end_at s p) _ p.a p.b refl refl
  thing_next k s (Some (says.Notice notice)) r p calm = here_next s (end_at s p) _ p.a p.b refl refl
  thing_next k s (Some says.Fail) r p calm =
      fail_answered_so (λ q. SameNext (end_at s p) (end_at s q)) s r p (here_next s (end_at s p) _ p.a p.b refl refl) (here_next s (end_at s p) _ p.a p.b refl refl)
  thing_next k s (Some _) r p calm = inr (now_so (end_at s p) (end_at s p) refl refl)

  own_unwritten : (k : Codec C) (d : Duty) (r : Reply) (p : PathState C) → (writes d).own.next ≡ false → (writes d).own.window ≡ false → SameNow (end_at (side_of d) p) (end_at (side_of d) (answered k d r p))
  own_unwritten k d r p next window =
      let x = own_only (side_of d) (writes d) p (answered k d r p) (writes_no_more k d r p) in
      let e = end_at (side_of d) p in let f = end_at (side_of d) (answered k d r p) in
      now_so e f (unwritten (writes d).own.next e.receiving.next f.receiving.next next (ap (λ (v : EndView). v.next) x.same))
      (unwritten (writes d).own.window e.receiving.window f.receiving.window window (ap (λ (v : EndView). v.window) x.same))

  own_next : (k : Codec C) (d : Duty) (r : Reply) (p : PathState C) → acks d ≡ false → (end_at (side_of d) p).treated.asked ≡ false
      → SameNext (end_at (side_of d) p) (end_at (side_of d) (answered k d r p))
  own_next k (duties.Ask (ask_duties.Window s)) r p none calm = absurd (true≢false none)
  own_next k (duties.Ask (ask_duties.AckOut s)) r p none calm = absurd (true≢false none)
  own_next k (duties.Ask (ask_duties.BreakAck s reason)) r p none calm = absurd (true≢false none)
  own_next k (duties.Step (step_duties.Heard s index)) r p none calm = thing_next k s (item_of index (end_at s p)) r p calm
  own_next k (duties.Step (step_duties.PlainAck s)) r p none calm = elim (breaks_by_ack p.profile (end_at s p)) as
      (λ b. SameNext (end_at s p) (end_at s (if b then answered_break k s 6 r p else goes_on s (with_plain_ack (after_fell events.PlainAck r (end_at s p))) (fell_duties s r p) p)))
      [ true ↦ break_next k s 6 r p calm | false ↦ here_next s (end_at s p) (with_plain_ack (after_fell events.PlainAck r (end_at s p))) p.a p.b refl refl ]
  own_next k (duties.Step (step_duties.Unmapped s)) r p none calm = break_next k s 6 r p calm
  own_next k (duties.Silent d) r p none calm = inr (now_so _ _ refl refl)
  own_next k (duties.Send (send_duties.Update s)) r p none calm = inr (own_unwritten k (duties.Send (send_duties.Update s)) r p refl refl)
  own_next k d r p none calm = inr (own_unwritten k d r p refl refl)

  peer_now : (k : Codec C) (d : Duty) (r : Reply) (p : PathState C) → (writes d).other.next ≡ false → (writes d).other.window ≡ false
      → SameNow (end_at (peer (side_of d)) p) (end_at (peer (side_of d)) (answered k d r p))
  peer_now k d r p next window =
      let x = writes_no_more k d r p in
      let e = end_at (peer (side_of d)) p in let f = end_at (peer (side_of d)) (answered k d r p) in
      now_so e f (unwritten (writes d).other.next e.receiving.next f.receiving.next next (ap (λ (v : PathView C). v.other.next) x.same))
      (unwritten (writes d).other.window e.receiving.window f.receiving.window window (ap (λ (v : PathView C). v.other.window) x.same))

  peer_next : (k : Codec C) (d : Duty) (r : Reply) (p : PathState C) → SameNow (end_at (peer (side_of d)) p) (end_at (peer (side_of d)) (answered k d r p))
  peer_next k (duties.Step step_duties.Events) r p = peer_now k (duties.Step step_duties.Events) r p refl refl
  peer_next k d r p = peer_now k d r p refl refl

  module _ (k : Codec C) (six : SixBooks) (ds : List Duty) (p : PathState C) where
    abbrev from : Duty → PathState C
    from d = with_agenda (d ∷ ds) p

    abbrev to : Duty → PathState C
    to d = answered k d (reply_of six (ask_for k d (from d))) (from d)

    abbrev books : Duty → SixBooks
    books d = after_ask (ask_for k d (from d)) six

    living : (s : Side) (d : Duty) → is_gone (end_at s (to d)) ≡ false → is_gone (end_at s p) ≡ false
    living s d = living_before s (from d) (to d) (far_gone s (from d) (to d) (answered_steps k d (reply_of six (ask_for k d (from d))) (from d)))

    leaves_books : (d : Duty) → tells_book d ≡ false → LeavesBooks (ask_for k d (from d))
    leaves_books d none = may_leave (asking d) (ask_for k d (from d)) (no_place d none) (no_fin d none) (asks_no_more k (from d) d).kind

    leaves_book : (d : Duty) → tells_book d ≡ false → wanted (books d) (side_of d) ≡ wanted six (side_of d)
    leaves_book d none = ask_wanted (ask_for k d (from d)) six (leaves_books d none) (side_of d)

    -- the window that was known is so still
    window_stays : (d : Duty) → tells_book d ≡ false → SameNow (end_at (side_of d) p) (end_at (side_of d) (to d)) → KnowsWindow (reassembly_of (side_of d) six) (end_at (side_of d) p)
        → KnowsWindow (reassembly_of (side_of d) (books d)) (end_at (side_of d) (to d))
    window_stays d none x h = window_so (reassembly_of (side_of d) (books d)) (end_at (side_of d) p) (end_at (side_of d) (to d)) x
        (λ some. ask_window (ask_for k d (from d)) six (leaves_books d none) (side_of d) (end_at (side_of d) p).receiving.window (h some))

    -- nothing more was told since the book was asked
    calm_known : (d : Duty) → acks d ≡ false → tells_book d ≡ false → (end_at (side_of d) p).treated.asked ≡ false → Known six (side_of d) (end_at (side_of d) p) → Known (books d) (side_of d) (end_at (side_of d) (to d))
    calm_known d none quiet calm h = record {
      now = λ asked alive. (same alive).next ∙ h.now calm (living (side_of d) d alive) ∙ sym (leaves_book d quiet);
      window = λ asked alive. window_stays d quiet (same alive) (h.window calm (living (side_of d) d alive));
    }
      where
        same : is_gone (end_at (side_of d) (to d)) ≡ false → SameNow (end_at (side_of d) p) (end_at (side_of d) (to d))
        same alive = next_of (end_at (side_of d) p) (end_at (side_of d) (to d)) (own_next k d (reply_of six (ask_for k d (from d))) (from d) none calm) alive

    -- whether more was told stays
    same_known : (d : Duty) → tells_book d ≡ false → Same (end_at (side_of d) p) (end_at (side_of d) (to d)) → Known six (side_of d) (end_at (side_of d) p) → Known (books d) (side_of d) (end_at (side_of d) (to d))
    same_known d quiet x h = record {
      now = λ asked alive. x.next ∙ h.now (sym x.asked ∙ asked) (living (side_of d) d alive) ∙ sym (leaves_book d quiet);
      window = λ asked alive. window_stays d quiet (now_so (end_at (side_of d) p) (end_at (side_of d) (to d)) x.next x.window) (h.window (sym x.asked ∙ asked) (living (side_of d) d alive));
    }

    ack_known : BooksHold six → (s : Side) (d : Duty) (es : List Duty) → Known (after_ask (ack_out_ask s) six) s (end_at s (answered_ack_out s (reply_of six (ack_out_ask s)) es (from d)))
    ack_known hold s d es = record {
      now = λ asked alive. ap (λ (f : PathEnd). f.receiving.next) (own_end s (after_ack_out (reply_of six (ack_out_ask s)) (end_at s p)) p.a p.b) ∙ sym (ask_wanted (ack_out_ask s) six tt s);
      window = λ asked alive some. ask_window (ack_out_ask s) six tt s (end_at s (answered_ack_out s (reply_of six (ack_out_ask s)) es (from d))).receiving.window (record {
        read = (reassembly_of s six).read;
        is = ap (λ (f : PathEnd). f.receiving.window) (own_end s (after_ack_out (reply_of six (ack_out_ask s)) (end_at s p)) p.a p.b);
        low = hold s;
        since = inl refl;
      });
    }

    piece_known : (s : Side) (d : Duty) (v : SixBooks) (o : Option Piece) (taken : Bool) → Known v s (end_at s (answered_piece s o taken (from d)))
    piece_known s d v (Some piece) true = here_asked v s (having_asked (after_piece piece (end_at s p))) p.a p.b refl
    piece_known s d v (Some piece) false = here_asked v s (having_asked (end_at s p)) p.a p.b refl
    piece_known s d v None taken = here_asked v s (having_asked (end_at s p)) p.a p.b refl

    fin_known : (s : Side) (d : Duty) (v : SixBooks) (taken : Bool) → Known v s (end_at s (answered_fin_heard s taken (from d)))
    fin_known s d v true = here_asked v s (having_asked (with_peer_data_fin (end_at s p))) p.a p.b refl
    fin_known s d v false = here_asked v s (having_asked (end_at s p)) p.a p.b refl

    plain_fin_known : (s : Side) (d : Duty) (v : SixBooks) (taken : Bool) → Known v s (end_at s (answered_plain_fin s taken (from d)))
    plain_fin_known s d v true = here_asked v s (having_asked (with_peer_data_fin (with_fin_told (end_at s p)))) p.a p.b refl
    plain_fin_known s d v false = here_asked v s (having_asked (end_at s p)) p.a p.b refl

    break_known : BooksHold six → (s : Side) → let d : Duty = duties.Step (step_duties.Unmapped s) in Known (books d) s (end_at s (to d))
    break_known hold s = elim (end_at s p).treated.asked as
        (λ b. let ask : Ask = if b then ack_out_ask s else sends k s (reset_of s (Some 6) (from d)) (from d) in
        Known (after_ask ask six) s (end_at s (if b then answered_ack_out s (reply_of six ask) (resets s 6) (from d) else reset_on k s (Some 6) (leaves s) (from d))))
        [ true ↦ ack_known hold s d (resets s 6) | false ↦ record { now = λ asked alive. absurd (dead alive); window = λ asked alive. absurd (dead alive) } ]
      where
        d : Duty
        d = duties.Step (step_duties.Unmapped s)

        dead : is_gone (end_at s (reset_on k s (Some 6) (leaves s) (from d))) ≡ false → ⊥
        dead alive = true≢false (sym (gone_end s (died (end_at s p)) p.a p.b refl) ∙ alive)

    kept_by : (d : Duty) → (writes d).own.next ≡ false → (writes d).own.window ≡ false → (writes d).own.asked ≡ false → Same (end_at (side_of d) p) (end_at (side_of d) (to d))
    kept_by d next window asked = only_kept k d (reply_of six (ask_for k d (from d))) (from d) next window asked

    own_known : BooksHold six → (d : Duty) → Shielded (from d) → Known six (side_of d) (end_at (side_of d) p) → Known (books d) (side_of d) (end_at (side_of d) (to d))
    own_known hold (duties.Ask (ask_duties.Edge s)) shield h =
        let d : Duty = duties.Ask (ask_duties.Edge s) in piece_known s d (books d) (piece_of s (from d)) (is_placed (reply_of six (ask_for k d (from d))))
    own_known hold (duties.Ask (ask_duties.HeardFin s index)) shield h =
        let d : Duty = duties.Ask (ask_duties.HeardFin s index) in fin_known s d (books d) (is_fin_set (reply_of six (ask_for k d (from d))))
    own_known hold (duties.Ask (ask_duties.SubflowFin s)) shield h =
        let d : Duty = duties.Ask (ask_duties.SubflowFin s) in plain_fin_known s d (books d) (is_fin_set (reply_of six (ask_for k d (from d))))
    own_known hold (duties.Ask (ask_duties.Window s)) shield h = ack_known hold s (duties.Ask (ask_duties.Window s)) ds
    own_known hold (duties.Ask (ask_duties.AckOut s)) shield h = ack_known hold s (duties.Ask (ask_duties.AckOut s)) ds
    own_known hold (duties.Ask (ask_duties.BreakAck s reason)) shield h = ack_known hold s (duties.Ask (ask_duties.BreakAck s reason)) (resets s reason)
    own_known hold (duties.Step (step_duties.Unmapped s)) shield h = break_known hold s
    own_known hold (duties.Ask (ask_duties.CheckFailed s)) shield h = same_known (duties.Ask (ask_duties.CheckFailed s)) refl (kept_by (duties.Ask (ask_duties.CheckFailed s)) refl refl refl) h
    own_known hold (duties.Ask (ask_duties.GoIdentity s)) shield h = same_known (duties.Ask (ask_duties.GoIdentity s)) refl (kept_by (duties.Ask (ask_duties.GoIdentity s)) refl refl refl) h
    own_known hold (duties.Silent d) shield h = same_known (duties.Silent d) refl (same_so (end_at (side_of (duties.Silent d)) p) (end_at (side_of (duties.Silent d)) p) refl refl refl) h
    own_known hold d shield h = calm_known d refl refl (shielded_calm (from d) shield d ds refl (side_of d) refl) h

    answer_known : BooksHold six → (d : Duty) → Shielded (from d) → (s : Side) → Known six s (end_at s p) → Known (books d) s (end_at s (to d))
    answer_known hold d shield s h = by (sides s (side_of d))
      where
        other : Known six (peer (side_of d)) (end_at (peer (side_of d)) p) → Known (books d) (peer (side_of d)) (end_at (peer (side_of d)) (to d))
        other h = record {
          now = λ asked alive.
              same.next ∙ h.now (shielded_calm (from d) shield d ds refl (peer (side_of d)) (peer_calm d)) (living (peer (side_of d)) d alive) ∙ ap next_wanted (sym book);
          window = λ asked alive. subst (λ b. KnowsWindow b (end_at (peer (side_of d)) (to d))) (sym book) (window_so (reassembly_of (peer (side_of d)) six) (end_at (peer (side_of d)) p) (end_at (peer (side_of d)) (to d)) same
              (h.window (shielded_calm (from d) shield d ds refl (peer (side_of d)) (peer_calm d)) (living (peer (side_of d)) d alive)));
        }
          where
            same : SameNow (end_at (peer (side_of d)) p) (end_at (peer (side_of d)) (to d))
            same = peer_next k d (reply_of six (ask_for k d (from d))) (from d)

            book : reassembly_of (peer (side_of d)) (books d) ≡ reassembly_of (peer (side_of d)) six
            book = peer_book (side_of d) (ask_for k d (from d)) six (asks_no_more k (from d) d).side

        by : (side_of d ≡ s) ⊎ (peer (side_of d) ≡ s) → Known (books d) s (end_at s (to d))
        by (inl own) = subst (λ t. Known six t (end_at t p) → Known (books d) t (end_at t (to d))) own (own_known hold d shield) h
        by (inr away) = subst (λ t. Known six t (end_at t p) → Known (books d) t (end_at t (to d))) away other h

  -- ---- a path

  takes_known : (k : Codec C) (six : SixBooks) → BooksHold six → (d : Duty) (ds : List Duty) (p : PathState C) → p.agenda ≡ d ∷ ds → Shielded p → (s : Side) → Known six s (end_at s p)
      → Known (after_ask (ask_for k d p) six) s (end_at s (takes k (reply_of six (ask_for k d p)) p))
  takes_known k six hold d ds p is = by p.agenda is
    where
      by : (es : List Duty) → es ≡ d ∷ ds → let x : PathState C = with_agenda es p in Shielded x → (s : Side) → Known six s (end_at s x)
          → Known (after_ask (ask_for k d x) six) s (end_at s (takes k (reply_of six (ask_for k d x)) x))
      by es is = subst (λ es. let x : PathState C = with_agenda es p in Shielded x → (s : Side) → Known six s (end_at s x)
          → Known (after_ask (ask_for k d x) six) s (end_at s (takes k (reply_of six (ask_for k d x)) x))) (sym is)
          (λ shield s h. let q : PathState C = to k six ds p d in settled_known (books k six ds p d) s q.agenda q (answer_known k six ds p hold d shield s h))

  module _ (p : PathState C) (shield : Shielded p) (Knows : Side → Type 0) (so : (s : Side) → (end_at s p).treated.asked ≡ false → is_gone (end_at s p) ≡ false → Knows s) where
    each_sent : (o : Option ToSend) → ((s : Side) → (end_at s p).treated.asked ≡ true → IfSome o (Resets p)) → IfSome o (λ t. is_gone (end_at t.from p) ≡ false → (segment_sent p t).rst ≡ false → Knows t.from)
    each_sent None resets = tt
    each_sent (Some t) resets = λ alive speaks. so t.from
        ((elim (end_at t.from p).treated.asked as (λ b. (end_at t.from p).treated.asked ≡ b → b ≡ false) [ true ↦ λ told. absurd (true≢false (sym (resets t.from told) ∙ speaks)) | false ↦ λ is. refl ]) refl) alive

    sends_so : (ds : List Duty) → ((s : Side) → (end_at s p).treated.asked ≡ true → guarded s ds ≡ true) → IfSome (first_sends ds p) (λ t. is_gone (end_at t.from p) ≡ false → (segment_sent p t).rst ≡ false → Knows t.from)
    sends_so [] asked = tt
    sends_so (d ∷ ds) asked = each_sent (duty_sends d p) (λ s told. silent_resets d p (shield_silent s d (guard_shield s d ds (asked s told))))

  no_second : (n : ℕ) (x : Walker C) → slice_get [] n ≡ Some x → ⊥
  no_second n x is = cc

  takes_so : (k : Codec C) (six : SixBooks) → BooksHold six → (d : Duty) (ds : List Duty) (p : PathState C) → p.agenda ≡ d ∷ ds → Shielded p → (s : Side) → Known six s (end_at s p) → (r : Reply)
      → reply_of six (ask_for k d p) ≡ r → (later : SixBooks) → after_ask (ask_for k d p) six ≡ later → Known later s (end_at s (takes k r p))
  takes_so k six hold d ds p is shield s h r same later after = subst (λ six. Known six s (end_at s (takes k r p))) after
      (subst (λ r. Known (after_ask (ask_for k d p) six) s (end_at s (takes k r p))) same (takes_known k six hold d ds p is shield s h))

  -- what is to be done first tells or asks the book, where more was told
  now_known : (six : SixBooks) (p : PathState C) → Shielded p → ((s : Side) → Known six s (end_at s p)) → KnowsWhatCame six p
  now_known six p shield known = record {
    done = λ is s alive. (known s).now (calm s is) alive;
    sends = sends_so p shield (λ t. IsUpToDate six t p) (λ t. (known t).now) p.agenda shield.asked;
    windows = sends_so p shield (λ t. KnowsWindow (reassembly_of t six) (end_at t p)) (λ t. (known t).window) p.agenda shield.asked;
  }
    where
      calm : (s : Side) → IsDone p → (end_at s p).treated.asked ≡ false
      calm s is = (elim (end_at s p).treated.asked as (λ b. (end_at s p).treated.asked ≡ b → b ≡ false) [ true ↦ λ asked. absurd (never is (shield.asked s asked)) | false ↦ λ is. refl ]) refl
        where
          never : IsDone p → guarded s p.agenda ≡ true → ⊥
          never (done_by.over is) guard = true≢false (sym guard ∙ ap (guarded s) is)
          never (done_by.next others is) guard = true≢false (sym guard ∙ ap (guarded s) is)

-- ---- a connection of one path

module _ {C : Type 0} (k : Codec C) (start : Start) where
  record OnlyPath (t : Cast C) : Type 0 where
    walker : Walker C
    is : t.paths ≡ walker ∷ []
    shielded : Shielded walker.path
    known : (s : Side) → Known (books_in t.books) s (end_at s walker.path)
    sound : BooksAreSound (books_in t.books)

  -- and its turn is over
  record OverPath (t : Cast C) : Type 0 where
    only : OnlyPath t
    over : is_nil only.walker.path.agenda ≡ true

  -- a step of an application
  left_known : (t : Cast C) (h : OnlyPath t) (x : Ask) (six : SixBooks) → six ≡ after_ask x (books_in t.books) → LeavesBooks x → (s : Side) → Known six s (end_at s h.walker.path)
  left_known t h x six is leaves s = record {
    now = λ asked alive. (h.known s).now asked alive ∙ sym (ap (λ six. wanted six s) is ∙ ask_wanted x (books_in t.books) leaves s);
    window = λ asked alive some. let window : ℕ = (end_at s h.walker.path).receiving.window in
        subst (λ six. WindowSince (reassembly_of s six) window) (sym is) (ask_window x (books_in t.books) leaves s window ((h.known s).window asked alive some));
  }

  left_sound : (books : StampedBooks) (x : Ask) (pass : Pass) → BooksAreSound (books_in books) → BooksAreSound (books_in (after_entry x pass books))
  left_sound books x pass sound = subst BooksAreSound (sym (books_after x pass books)) (sound_asked x (books_in books) sound)

  path_known : (t : Cast C) (number : ℕ) (x : Walker C) → slice_get t.paths number ≡ Some x → (d : Duty) (ds : List Duty) → x.path.agenda ≡ d ∷ ds → OnlyPath t → OnlyPath (after_path k number x (ask_for k d x.path) t)
  path_known t number x there d ds is h = by number (ap (λ xs. slice_get xs number) (sym h.is) ∙ there) (ap (λ xs. set xs number y) h.is)
    where
      ask : Ask
      ask = ask_for k d x.path

      y : Walker C
      y = walked k ask t.books x

      hold : BooksHold (books_in t.books)
      hold = sound_holds (books_in t.books) h.sound

      was_known : h.walker ≡ x → (s : Side) → Known (books_in t.books) s (end_at s x.path)
      was_known same s = subst (λ (z : Walker C). Known (books_in t.books) s (end_at s z.path)) same (h.known s)

      was_shielded : h.walker ≡ x → Shielded x.path
      was_shielded same = subst (λ (z : Walker C). Shielded z.path) same h.shielded

      now_known : h.walker ≡ x → (s : Side) → Known (books_in (after_entry ask x.at.pass t.books)) s (end_at s y.path)
      now_known same s = takes_so k (books_in t.books) hold d ds x.path is (was_shielded same) s (was_known same s) (answer_to t.books ask) refl (books_in (after_entry ask x.at.pass t.books)) (sym (books_after ask x.at.pass t.books))

      now_sound : BooksAreSound (books_in (after_entry ask x.at.pass t.books))
      now_sound = left_sound t.books ask x.at.pass h.sound

      moved : h.walker ≡ x → set t.paths number y ≡ y ∷ [] → OnlyPath (after_path k number x ask t)
      moved same put = record { walker = y; is = put; shielded = takes_shielded k (answer_to t.books ask) x.path (was_shielded same); known = now_known same; sound = now_sound }

      by : (n : ℕ) → slice_get (h.walker ∷ []) n ≡ Some x → set t.paths number y ≡ set (h.walker ∷ []) n y → OnlyPath (after_path k number x ask t)
      by zero there put = moved (same_Some h.walker x there) put
      by (suc n) there put = absurd (no_second n x there)

  kept : Stepwise k start OnlyPath
  kept = record {
    a = λ t f d ds is h. record { walker = h.walker; is = h.is; shielded = h.shielded; known = left_known t h (app_ask d t.a) _ (books_after (app_ask d t.a) t.at_a.pass t.books) (app_leaves d t.a); sound = left_sound t.books (app_ask d t.a) t.at_a.pass h.sound };
    b = λ t f d ds is h. record { walker = h.walker; is = h.is; shielded = h.shielded; known = left_known t h (app_ask d t.b) _ (books_after (app_ask d t.b) t.at_b.pass t.books) (app_leaves d t.b); sound = left_sound t.books (app_ask d t.b) t.at_b.pass h.sound };
    path = λ t f number x there d ds is h. path_known t number x there d ds is h;
  }

  begun_known : (t : Cast C) → Fare start t → OverPath t → OnlyPath (next_cast t)
  begun_known t f h =
      let p = h.only.walker.path in
      record {
        walker = walks_on (greatest 0 (world_of t).crew) h.only.walker;
        is = ap (map (walks_on (greatest 0 (world_of t).crew))) h.only.is;
        shielded = next_shielded p h.over h.only.shielded;
        known = λ s. settled_known (books_in t.books) s start_of_turn (with_agenda start_of_turn (record p { clock = p.until; until = p.until + 100 })) (h.only.known s);
        sound = h.only.sound;
      }

  over_has : (w : WorldState C) → all_over w.crew ≡ true → Has start OnlyPath w → Has start OverPath w
  over_has w over h = record { cast = h.cast; is = h.is; fare = h.fare; holds = record { only = h.holds; over = last (ap (λ (v : WorldState C). all_over v.crew) (sym h.is) ∙ over) } }
    where
      last : all_over (world_of h.cast).crew ≡ true → is_nil h.holds.walker.path.agenda ≡ true
      last all =
          let rest = (and_parts (is_nil h.cast.a.agenda) (is_nil h.cast.b.agenda && all_over (map walking h.cast.paths)) all).1 in
          let paths = (and_parts (is_nil h.cast.b.agenda) (all_over (map walking h.cast.paths)) rest).1 in
          (and_parts (is_nil h.holds.walker.path.agenda) true (subst (λ xs. all_over (map walking xs) ≡ true) h.holds.is paths)).0

  turn_known : (turn : Turn) (w : WorldState C) → Has start OnlyPath w → Has start OnlyPath (after_turn k turn w)
  turn_known (Turn.Step actor) w h = steps_have k start OnlyPath kept (actor ∷ []) w h
  turn_known Turn.Round w h = (elim (all_over w.crew) as
      (λ b. all_over w.crew ≡ b → Has start OnlyPath (if b then record w { crew = map (begins (greatest 0 w.crew)) w.crew } else w)) [
        | true ↦ λ over. subst (λ (b : Bool). Has start OnlyPath (if b then record w { crew = map (begins (greatest 0 w.crew)) w.crew } else w)) over
            (ended_has start OverPath OnlyPath begun_known w over (over_has w over h))
        | false ↦ λ is. h
      ]) refl

  turns_known : (turns : List Turn) (w : WorldState C) → Has start OnlyPath w → Has start OnlyPath (world_run k turns w)
  turns_known [] w h = h
  turns_known (turn ∷ turns) w h = turns_known turns (after_turn k turn w) (turn_known turn w h)

  opened_known : (plan : PathPlan) → start.paths ≡ plan ∷ [] → Has start OnlyPath (opened_world start)
  opened_known plan one = record {
    cast = first_cast start;
    is = opened_is start;
    fare = first_fare start;
    holds = record {
      walker = new_walker start 0 plan;
      is = ap (walkers_from start 0) one;
      shielded = first_shielded (path_begins start 0 plan) start.lines;
      known = λ s. settled_known {C = C} (books_in (first_cast {C = C} start).books) s start_of_turn (with_agenda start_of_turn (waiting_path {C = C} (path_begins start 0 plan) start.lines)) (first s);
      sound = sound_first start;
    };
  }
    where
      first : (s : Side) → Known (books_in (first_cast {C = C} start).books) s (end_at s (waiting_path {C = C} (path_begins start 0 plan) start.lines))
      first A = record { now = λ asked alive. refl; window = λ asked alive some. absurd (omega (arith, some)) }
      first B = record { now = λ asked alive. refl; window = λ asked alive some. absurd (omega (arith, some)) }

  pub each_data_ack_is_up_to_date : (turns : List Turn) (plan : PathPlan) → start.paths ≡ plan ∷ [] → EachDataAckIsUpToDate (world_run k turns (opened_world start))
  each_data_ack_is_up_to_date turns plan one = record { each = subst (λ w. (actor : ℕ) (c : ActorCrew C) → slice_get w.crew actor ≡ Some c → HoldsOfKind (λ app. Unit {0}) (KnowsWhatCame (books_in w.books)) c.member) (sym h.is) there }
    where
      h : Has start OnlyPath (world_run k turns (opened_world start))
      h = turns_known turns (opened_world start) (opened_known plan one)

      here : (number : ℕ) (x : Walker C) → slice_get (h.holds.walker ∷ []) number ≡ Some x → KnowsWhatCame (books_in h.cast.books) x.path
      here zero x at = subst (λ (y : Walker C). KnowsWhatCame (books_in h.cast.books) y.path) (same_Some h.holds.walker x at) (now_known (books_in h.cast.books) h.holds.walker.path h.holds.shielded h.holds.known)
      here (suc n) x at = cc

      there : (actor : ℕ) (c : ActorCrew C) → slice_get (world_of h.cast).crew actor ≡ Some c → HoldsOfKind (λ app. Unit {0}) (KnowsWhatCame (books_in h.cast.books)) c.member
      there = each_actor (λ actor c. HoldsOfKind (λ app. Unit {0}) (KnowsWhatCame (books_in h.cast.books)) c.member) h.cast tt tt
          (λ number x at. here number x (ap (λ xs. slice_get xs number) (sym h.holds.is) ∙ at))
