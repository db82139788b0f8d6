-- Where no line of the script takes the address of path 0 back, no side counts it as removed: over values.
use Rattle.std.proofs.Common.{◌≡◌, refl, sym, ap, ℕ, zero, suc, ◌+◌, ◌==◌, Bool, true, false, true≢false, if◌then◌else◌, Option, Some, None, List, ◌∷◌, ◌++◌, length, []}
use Rattle.std.specs.List.{list_any, position}
use Rattle.std.proofs.lemmas.Bool.{both_ways, or_from, or_parts}
use Rattle.path_segments.specs.Heard.{HeardSegment}
use Rattle.sides.specs.declared.side.Side.{Side}
use Rattle.sides.specs.declared.side.Side.TheVariants.{A, B}
use Rattle.link_model.specs.Steps.{after_delivery, arriving}
use Rattle.subflow_send.specs.Records.{Record}
use Rattle.subflow_tcp.specs.Expiring.{is_sixth}
use Rattle.subflow_tcp.specs.States.{is_dead}
use Rattle.subflow_tcp.specs.declared.verdicts.Meaning.{Meaning}
use Rattle.subflow_tcp.specs.declared.verdicts.Meaning.TheVariants as means
use Rattle.actor_desk.specs.Words.{tail_of}
use Rattle.actor_desk.specs.declared.ask.Ask.{Ask}
use Rattle.actor_desk.specs.declared.ask.Ask.TheVariants as asks
use Rattle.actor_desk.specs.declared.ask.Reply.{Reply}
use Rattle.path_agenda.specs.Agenda.{emission, heard_and, leaves, payload_came, rest_of_turn}
use Rattle.path_agenda.specs.declared.duty.Duty.{Duty}
use Rattle.path_agenda.specs.declared.duty.Duty.TheVariants as duties
use Rattle.path_agenda.specs.declared.duty.AskDuty.TheVariants as ask_duties
use Rattle.path_agenda.specs.declared.duty.SendDuty.{SendDuty}
use Rattle.path_agenda.specs.declared.duty.SendDuty.TheVariants as send_duties
use Rattle.path_agenda.specs.declared.duty.StepDuty.TheVariants as step_duties
use Rattle.path_agenda.specs.declared.heard.Heard.{Heard}
use Rattle.path_agenda.specs.declared.heard.Heard.TheVariants as says
use Rattle.path_agenda.specs.declared.notice.PeerNotice.{PeerNotice}
use Rattle.path_agenda.specs.declared.notice.PeerNotice.TheVariants as notes
use Rattle.path_store.specs.declared.lines.LineAction.{LineAction}
use Rattle.path_store.specs.declared.lines.LineAction.TheVariants as actions
use Rattle.path_store.specs.declared.lines.LineLeft.{LineLeft}
use Rattle.path_core.specs.Addresses.{notice_ask}
use Rattle.path_core.specs.declared.judged.Judged.{Judged}
use Rattle.path_core.specs.declared.judged.Judged.TheVariants as judged
use Rattle.path_core.specs.Arrival.{copy_heard, heard_in, judged_in, template_by, template_judged}
use Rattle.path_core.specs.Breaking.{break_ask, reset_of}
use Rattle.path_core.specs.Choices.{item_at}
use Rattle.path_core.specs.DssIn.{is_clash}
use Rattle.path_core.specs.DataFin.{data_fin_of, fin_ask, place_of_fin}
use Rattle.path_core.specs.Deliver.{piece_ask, piece_of}
use Rattle.path_core.specs.Duties.{answered, ask_for, passed, stands}
use Rattle.path_core.specs.Emission.{data_ask, first_unsent}
use Rattle.path_core.specs.End.{PathEnd}
use Rattle.path_core.specs.Events.{after_line, happens_if, next_event, step_for}
use Rattle.path_core.specs.Fallback.{breaks_by_ack, fail_ask, fell_ask, may_go_infinite, plain_ack_in, plain_next}
use Rattle.path_core.specs.MpCapable.{opened_ask, peer_key_ask}
use Rattle.path_core.specs.Rate.{rate_ask}
use Rattle.path_core.specs.Standing.{ack_out_ask}
use Rattle.path_agenda.specs.Items.{key_heard, keys_heard}
use Rattle.fallback_state.specs.declared.fall.Event.TheVariants as falls
use Rattle.send_book.specs.declared.call.SendCall.TheVariants as send_calls
use Rattle.path_core.specs.Handover.{sends}
use Rattle.path_core.specs.MpJoin.{asked_at, is_joined, join_heard_ask, is_never, keys_begun, never_joined, opened_by}
use Rattle.path_core.specs.OptionsIn.{items_of, options_heard}
use Rattle.path_core.specs.State.{PathState, at_tick, end_at, goes_on, path_of, with_agenda}
use Rattle.path_core.specs.Steps.{settled}
use Rattle.path_core.specs.Timer.{template_fired}
use Rattle.path_core.specs.Treating.{item_ask, item_of}
use Rattle.path_core.specs.Values.{Carried, values}
use Rattle.path_core.specs.declared.events.Event.{Event}
use Rattle.path_core.specs.declared.events.Event.TheVariants as happenings
use Rattle.world_laws.specs.Writes.{side_of}
use Rattle.whole_paths.specs.AgendaSteps.{Follows, is_told, Follows as follows}
use Rattle.whole_paths.proofs.Agendas.{answered_follows}
use Rattle.whole_paths.proofs.HarmlessLines.{is_withdrawal}
use Rattle.whole_paths.proofs.NoticeWords.{AreUnheard, Word, is_heard}
use Rattle.whole_paths.proofs.KeptBooks.{Spares as SparesCall}
use Rattle.whole_paths.proofs.Pieces.{is_event}

-- ---- asks

-- the ask takes back no address of path 0
abbrev pub SparesAsk : Ask → Type 0
SparesAsk (asks.Control s call) = SparesCall 0 call
SparesAsk _ = Unit {0}

either_asks : (b : Bool) (x y : Ask) → SparesAsk x → SparesAsk y → SparesAsk (if b then x else y)
either_asks true x y g h = g
either_asks false x y g h = h

break_asks : (s : Side) (reason : ℕ) (p : PathState Carried) → SparesAsk (break_ask values s reason p)
break_asks s reason p = elim (end_at s p).treated.asked as (λ b. SparesAsk (if b then ack_out_ask s else sends values s (reset_of s (Some reason) p) p)) [ true ↦ tt | false ↦ tt ]

mapping_asks : (s : Side) (p : PathState Carried) → SparesAsk (if is_clash (end_at s p) then break_ask values s 1 p else fell_ask s falls.MappingHeard p)
mapping_asks s p = either_asks (is_clash (end_at s p)) (break_ask values s 1 p) (fell_ask s falls.MappingHeard p) (break_asks s 1 p) tt

acks_asks : (s : Side) (p : PathState Carried) → SparesAsk (if breaks_by_ack p.profile (end_at s p) then break_ask values s 6 p else fell_ask s falls.PlainAck p)
acks_asks s p = either_asks (breaks_by_ack p.profile (end_at s p)) (break_ask values s 6 p) (fell_ask s falls.PlainAck p) (break_asks s 6 p) tt

fail_asks : (s : Side) (p : PathState Carried) → SparesAsk (fail_ask s p)
fail_asks s p = elim (may_go_infinite (end_at s p)) as (λ b. SparesAsk (if b then asks.Send s (send_calls.GoInfinite (path_of p)) else fell_ask s (falls.FailHeard false) p)) [ true ↦ tt | false ↦ tt ]

notice_asks : (s : Side) (notice : PeerNotice) (p : PathState Carried) → is_heard (Word.removal 0) (says.Notice notice) ≡ false → SparesAsk (notice_ask s notice p)
notice_asks s (notes.Removed id) p none = λ is. both_ways (id == 0) none (ap (λ n. n == 0) is)
notice_asks s (notes.AddAddr id address port hmac) p none = tt
notice_asks s (notes.AddEcho id) p none = tt
notice_asks s (notes.Prio backup) p none = tt

-- the thing isn't that the peer takes id 0 back
abbrev SaysNone : Option Heard → Type 0
SaysNone None = Unit {0}
SaysNone (Some item) = is_heard (Word.removal 0) item ≡ false

item_asks : (s : Side) (o : Option Heard) (p : PathState Carried) → SaysNone o → SparesAsk (item_ask values s o p)
item_asks s None p h = tt
item_asks s (Some (says.Mapping fin)) p h = mapping_asks s p
item_asks s (Some (says.Notice notice)) p h = notice_asks s notice p h
item_asks s (Some says.Fail) p h = fail_asks s p
item_asks s (Some _) p h = tt

at_none : (index : ℕ) (items : List Heard) → AreUnheard (Word.removal 0) items → SaysNone (item_at index items)
at_none index [] h = tt
at_none zero (item ∷ items) h = (or_parts (is_heard (Word.removal 0) item) (list_any (is_heard (Word.removal 0)) items) h).0
at_none (suc index) (item ∷ items) h = at_none index items (or_parts (is_heard (Word.removal 0) item) (list_any (is_heard (Word.removal 0)) items) h).1

item_none : (index : ℕ) (e : PathEnd) → AreUnheard (Word.removal 0) e.treated.items → SaysNone (item_of index e)
item_none index e h = elim e.modes.identity as (λ b. SaysNone (if b then None else item_at index e.treated.items)) [ true ↦ tt | false ↦ at_none index e.treated.items h ]

event_asks : (path : ℕ) (o : Option Event) → SparesAsk (step_for path o)
event_asks path None = tt
event_asks path (Some (happenings.Joins tick)) = tt
event_asks path (Some (happenings.Takes line)) = tt
event_asks path (Some (happenings.Arrives due)) = tt
event_asks path (Some (happenings.Fires s tick)) = tt

data_asks : (s : Side) (o : Option Record) (p : PathState Carried) → SparesAsk (data_ask values s o p)
data_asks s None p = tt
data_asks s (Some r) p = tt

optional : {X : Type 0} (o : Option X) (f : Option X → Ask) → SparesAsk (f None) → ((x : X) → SparesAsk (f (Some x))) → SparesAsk (f o)
optional None f none some = none
optional (Some x) f none some = some x

send_asks : (d : SendDuty) (p : PathState Carried) → SparesAsk (ask_for values (duties.Send d) p)
send_asks (send_duties.Update s) p = tt
send_asks _ p = tt

-- the duty is to take it back
abbrev pub is_taking : Duty → Bool
is_taking (duties.Ask (ask_duties.Withdraw s id)) = id == 0
is_taking _ = false

abbrev pub TakeNone : List Duty → Type 0
TakeNone ds = list_any is_taking ds ≡ false

pub duty_asks : (d : Duty) (p : PathState Carried) → is_taking d ≡ false → ((s : Side) → AreUnheard (Word.removal 0) (end_at s p).treated.items) → SparesAsk (ask_for values d p)
duty_asks (duties.Ask (ask_duties.Withdraw s id)) p none said = λ is. both_ways (id == 0) none (ap (λ n. n == 0) is)
duty_asks (duties.Ask (ask_duties.PeerKey s)) p none said = optional (key_heard (end_at s p).treated.items) (λ o. peer_key_ask s o p) tt (λ key. tt)
duty_asks (duties.Ask (ask_duties.JoinHeard s)) p none said = optional (asked_at s p) (λ o. join_heard_ask s o p) tt (λ asked. tt)
duty_asks (duties.Ask (ask_duties.Opened s)) p none said = optional (keys_heard (end_at s p).treated.items) (λ o. opened_ask s o p) tt (λ keys. tt)
duty_asks (duties.Ask (ask_duties.SubflowAck s)) p none said = optional (plain_next (end_at s p)) (λ o. plain_ack_in s o (end_at s p).treated.window) tt (λ next. tt)
duty_asks (duties.Ask (ask_duties.Edge s)) p none said = optional (piece_of s p) (λ o. piece_ask s o) tt (λ piece. tt)
duty_asks (duties.Ask (ask_duties.HeardFin s index)) p none said = optional (data_fin_of index (end_at s p)) (λ o. fin_ask s o) tt (λ place. tt)
duty_asks (duties.Ask (ask_duties.SubflowFin s)) p none said = optional (place_of_fin (end_at s p)) (λ o. fin_ask s o) tt (λ place. tt)
duty_asks (duties.Ask (ask_duties.Rate s)) p none said = optional (end_at s p).tcp.congestion.pending (λ o. rate_ask s o p) tt (λ pending. tt)
duty_asks (duties.Step step_duties.Events) p none said = event_asks (path_of p) (next_event p)
duty_asks (duties.Step (step_duties.Data s)) p none said = data_asks s (first_unsent (end_at s p)) p
duty_asks (duties.Step (step_duties.Heard s index)) p none said = item_asks s (item_of index (end_at s p)) p (item_none index (end_at s p) (said s))
duty_asks (duties.Step (step_duties.PlainAck s)) p none said = acks_asks s p
duty_asks (duties.Step (step_duties.Unmapped s)) p none said = break_asks s 6 p
duty_asks (duties.Send d) p none said = send_asks d p
duty_asks _ p none said = tt

-- ---- the agenda

told_none : (e : Duty) → is_told e ≡ true → is_taking e ≡ false
told_none (duties.Ask (ask_duties.Withdraw s id)) is = absurd (true≢false (sym is))
told_none _ is = refl

follow_none : (s : Side) (gone : Bool) (d : Duty) (ds es : List Duty) → TakeNone (d ∷ ds) → Follows s gone d ds es → TakeNone es
follow_none s gone d ds es h follows.goes_on = (or_parts (is_taking d) (list_any is_taking ds) h).1
follow_none s gone d ds es h follows.again = h
follow_none s gone d ds es h (follows.told is e own other named silent) = or_from (is_taking e) (list_any is_taking ds) (told_none e named) (or_parts (is_taking d) (list_any is_taking ds) h).1
follow_none s gone d ds es h (follows.left dead) = (or_parts (is_taking d) (list_any is_taking ds) h).1
follow_none s gone d ds es h follows.noted = (or_parts (is_taking d) (list_any is_taking ds) h).1
follow_none s gone d ds es h (follows.broken is reason) = refl
follow_none s gone d ds es h (follows.is_reset is reason) = refl
follow_none s gone d ds es h (follows.dead is dead) = refl
follow_none s gone d ds es h (follows.stopped is) = refl
follow_none s gone d ds es h (follows.over both) = refl

pub duty_none : (d : Duty) (ds : List Duty) (r : Reply) (p : PathState Carried) → is_event d ≡ false → TakeNone (d ∷ ds) → TakeNone (answered values d r (with_agenda (d ∷ ds) p)).agenda
duty_none (duties.Step step_duties.Events) ds r p other h = absurd (true≢false other)
duty_none (duties.Step (step_duties.Look s)) ds r p other h = let d = duties.Step (step_duties.Look s) in follow_none s _ d ds _ h (answered_follows values d ds r p)
duty_none (duties.Ask a) ds r p other h = let d = duties.Ask a in follow_none (side_of d) _ d ds _ h (answered_follows values d ds r p)
duty_none (duties.Send a) ds r p other h = let d = duties.Send a in follow_none (side_of d) _ d ds _ h (answered_follows values d ds r p)
duty_none (duties.Silent a) ds r p other h = let d = duties.Silent a in follow_none (side_of d) _ d ds _ h (answered_follows values d ds r p)
duty_none d ds r p other h = follow_none (side_of d) _ d ds _ h (answered_follows values d ds r p)

pub settled_none : (ds : List Duty) (p : PathState Carried) → TakeNone ds → TakeNone (settled ds p).agenda
settled_none [] p h = refl
settled_none (d ∷ ds) p h = elim (stands d p) as (λ b. TakeNone (if b then with_agenda (d ∷ ds) p else settled ds (passed d p)).agenda)
    [ true ↦ h | false ↦ settled_none ds (passed d p) (or_parts (is_taking d) (list_any is_taking ds) h).1 ]

-- ---- an event

heard_none : (s : Side) (from count : ℕ) (ds : List Duty) → TakeNone ds → TakeNone (heard_and s from count ds)
heard_none s from zero ds h = h
heard_none s from (suc count) ds h = heard_none s (from + 1) count ds h

template_none : (joined : Bool) (s : Side) (count : ℕ) (m : Meaning) → TakeNone (template_by joined s count m)
template_none true s count (means.Accepts acknowledged) = refl
template_none false s count (means.Accepts acknowledged) = refl
template_none joined s count (means.Taken position acknowledged) = heard_none s 0 count (payload_came s) refl
template_none joined s count _ = refl

judged_none : (joined : Bool) (s : Side) (count : ℕ) (verdict : Judged) → TakeNone (template_judged joined s count verdict)
judged_none joined s count (judged.As meaning) = template_none joined s count meaning
judged_none joined s count _ = refl

copy_none : (s : Side) (o : Option HeardSegment) (p : PathState Carried) → TakeNone (copy_heard s o p).agenda
copy_none s None p = refl
copy_none s (Some segment) p = let h = options_heard (end_at s p) segment in let joined = is_joined p.profile in judged_none joined s (length (items_of joined s h)) (judged_in joined s h (end_at s p))

died_none : (dead_a dead_b : Bool) → TakeNone ((if dead_a then [] else duties.Ask (ask_duties.Leave A) ∷ []) ++ ((if dead_b then [] else duties.Ask (ask_duties.Leave B) ∷ []) ++ rest_of_turn))
died_none true true = refl
died_none true false = refl
died_none false true = refl
died_none false false = refl

line_none : (action : LineAction) (p : PathState Carried) → is_withdrawal action ≡ false → TakeNone (after_line action p).agenda
line_none actions.Die p spares = died_none (is_dead p.a.tcp.state) (is_dead p.b.tcp.state)
line_none (actions.Prio s backup) p spares = refl
line_none (actions.Announce s id) p spares = refl
line_none (actions.Withdraw s id) p spares = or_from (id == 0) _ spares refl

pub event_none : (o : Option Event) (r : Reply) (p : PathState Carried) → ((line : LineLeft) → o ≡ Some (happenings.Takes line) → is_withdrawal line.action ≡ false) → TakeNone (happens_if values o r p).agenda
event_none None r p spares = refl
event_none (Some (happenings.Joins tick)) r p spares =
    let x : PathState Carried = record (at_tick tick p) { joined_at = None } in
    elim (is_never r) as (λ b. TakeNone (if b then goes_on A (never_joined r x.a) (leaves A) x else goes_on A (opened_by (keys_begun r) x.a) (emission A) x).agenda) [ true ↦ refl | false ↦ refl ]
event_none (Some (happenings.Takes line)) r p spares = line_none line.action (record (at_tick line.tick p) { lines = tail_of p.lines }) (spares line refl)
event_none (Some (happenings.Arrives due)) r p spares = copy_none due.to (heard_in values due.to (arriving due p.link) p) (record (at_tick due.tick p) { link = after_delivery due p.link })
event_none (Some (happenings.Fires s tick)) r p spares = elim (is_sixth (end_at s p).tcp) as (λ b. TakeNone (template_fired b s)) [ true ↦ refl | false ↦ refl ]
