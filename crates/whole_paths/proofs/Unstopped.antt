-- Where no side closes at once, nothing stops a connection: no path and no application asks a book to abort, or to give itself to one path.
use Rattle.std.proofs.Common.{◌≡◌, refl, sym, subst, ap, ◌∙◌, inl, inr, ◌⊎◌, ⊎_elim, ℕ, zero, suc, ◌+◌, ◌||◌, nat_lt, Bool, true, false, true≢false, if◌then◌else◌, is_some, Ok, Err, Option, Some, None, List, [], ◌∷◌, ◌++◌, take}
use Rattle.std.specs.List.{list_any, slice_get}
use Rattle.std.specs.Option.{option_map}
use Rattle.std.proofs.lemmas.Bool.{or_from, or_parts, both_ways, or_left}
use Rattle.std.proofs.lemmas.Option.{same_Some}
use Rattle.sides.specs.declared.side.Side.{Side}
use Rattle.sides.specs.declared.side.Side.TheVariants.{A, B}
use Rattle.send_book.specs.declared.call.SendCall.{SendCall}
use Rattle.send_book.specs.declared.call.SendCall.TheVariants as send_calls
use Rattle.send_book.specs.State.{Sending}
use Rattle.send_book.specs.Steps.{after_call, decision, given_by, is_future}
use Rattle.reassembly_book.specs.declared.call.ReassemblyCall.{ReassemblyCall}
use Rattle.reassembly_book.specs.declared.call.ReassemblyCall.TheVariants as reassembly_calls
use Rattle.reassembly_book.specs.declared.call.ReassemblyReply.TheVariants as reassembly_replies
use Rattle.reassembly_book.specs.State.{Arriving, filled}
use Rattle.reassembly_book.specs.Steps as arriving
use Rattle.stream_lanes.specs.Words.{Every}
use Rattle.stream_lanes.proofs.Lists.{in_map, in_set, set_same}
use Rattle.actor_desk.specs.declared.ask.Ask.{Ask}
use Rattle.actor_desk.specs.declared.ask.Ask.TheVariants as asks
use Rattle.actor_desk.specs.declared.ask.Reply.{Reply}
use Rattle.actor_desk.specs.declared.ask.Reply.TheVariants as replies
use Rattle.actor_desk.specs.Books.{books_in}
use Rattle.actor_desk.specs.Desk.{SixBooks, after_ask, reply_of}
use Rattle.actor_desk.specs.Words.{pick}
use Rattle.stream_apps.specs.declared.duty.AppDuty.{AppDuty}
use Rattle.stream_apps.specs.declared.duty.AppDuty.TheVariants as apps
use Rattle.stream_apps.specs.Apps.{AppState}
use Rattle.stream_apps.specs.AppSteps.{a_round_less, app_answered, app_answers, app_ask, app_asks_first, app_settled, app_stands, app_takes, fresh_turn, is_due, start_of_app}
use Rattle.stream_apps.specs.Starts.{fast_close_of, first_app_turn, rounds_before, untouched}
use Rattle.subflow_tcp.specs.States.{is_dead}
use Rattle.path_agenda.specs.Agenda.{heard_and, payload_came, rest_of_turn, start_of_turn, stops}
use Rattle.path_agenda.specs.declared.duty.Duty.{Duty}
use Rattle.path_agenda.specs.declared.duty.Duty.TheVariants as duties
use Rattle.path_agenda.specs.declared.duty.AskDuty.TheVariants as ask_duties
use Rattle.path_agenda.specs.declared.duty.StepDuty.TheVariants as step_duties
use Rattle.path_agenda.specs.declared.heard.Heard.{Heard}
use Rattle.path_agenda.specs.declared.heard.Heard.TheVariants as says
use Rattle.path_agenda.specs.declared.notice.PeerNotice.{PeerNotice}
use Rattle.path_agenda.specs.declared.notice.PeerNotice.TheVariants as notices
use Rattle.path_core.specs.Addresses.{notice_ask}
use Rattle.path_core.specs.Breaking.{break_ask}
use Rattle.path_core.specs.Choices.{item_at}
use Rattle.path_core.specs.DssIn.{is_clash}
use Rattle.path_core.specs.Duties.{answered, ask_for, passed, stands}
use Rattle.path_core.specs.End.{PathEnd}
use Rattle.path_core.specs.MpJoin.{is_joined}
use Rattle.path_core.specs.Start.{first_turn, waiting_path}
use Rattle.path_core.specs.State.{PathState, end_at, with_agenda}
use Rattle.path_core.specs.Steps.{asks_first, begins_turn, settled, takes}
use Rattle.path_core.specs.Treating.{item_ask, item_of}
use Rattle.path_core.specs.Values.{Carried, values}
use Rattle.world_laws.specs.declared.member.Member.TheVariants.{App, Path}
use Rattle.world_laws.specs.Actors.{Actor, ActorCrew, member_asks, member_next, member_takes}
use Rattle.world_laws.specs.Asking.{May, asking, may}
use Rattle.world_laws.specs.Members.{HoldsOfKind}
use Rattle.world_laws.specs.Openings.{PathPlan, Start, opened_world, path_begins}
use Rattle.world_laws.specs.Outcomes.{note_tells, notes_or, tells_stop, was_told}
use Rattle.world_laws.specs.StampedBooks.{answer_to}
use Rattle.world_laws.specs.Worlds.{WorldState, Turn, after_turn, begins, crew_after, greatest, note_of, world_run}
use Rattle.world_laws.proofs.Falls.ChecksPass.{is_failure}
use Rattle.world_laws.proofs.Rounds.Frame.{first_keeps, takes_keeps}
use Rattle.world_laws.proofs.Rounds.Lifting.{opened_lifted, run_lifted}
use Rattle.world_laws.proofs.Weaving.Journals.{books_after}
use Rattle.world_laws.proofs.Whole.Falls.{MemberUpright, each_upright, sides_never_fall}
use Rattle.world_laws.proofs.Worlds.Turns.{turn_so}
use Rattle.world_laws.proofs.Writes.Asks.{asks_no_more}
use Rattle.whole_paths.specs.AgendaSteps.{Follows, Happened, is_told}
use Rattle.whole_paths.specs.AgendaSteps.{Follows as follows}
use Rattle.whole_paths.specs.AgendaSteps.{Happened as happened}
use Rattle.whole_paths.specs.Mild.{IsMildStart}
use Rattle.whole_paths.specs.Unstopped.{MildPathsAreNeverStopped, NothingIsStopped}
use Rattle.whole_paths.proofs.Agendas.{answered_follows}
use Rattle.whole_paths.proofs.Breaking.{none_noted, stops_speak}
use Rattle.whole_paths.proofs.Unbroken.{none_heard}
use Rattle.sides.specs.Side.{peer}
use Rattle.link_script.specs.Places.{same_side}
use Rattle.fallback_state.specs.Modes.{is_identity, is_infinite}
use Rattle.world_laws.specs.NeverFalls.{NeverFalls, is_fallen_back}
use Rattle.world_laws.proofs.Falls.ByTheJournal.{was_wider}
use Rattle.world_laws.proofs.Keys.ByJournals.{Causes, Knows, run_causes}
use Rattle.world_laws.proofs.Keys.WhatWakes.{Voice, first_speaks, speaks}
use Rattle.world_laws.proofs.Promises.AbortsHaveACause.{StopsAreAsked, stops_are_asked}
use Rattle.world_laws.proofs.Worlds.CastLifting.{each_actor}
use Rattle.world_laws.proofs.Worlds.Casts.{Cast, world_of}

-- ---- what is asked

-- no book is to abort, and no send book to be given to one path alone
abbrev IsQuiet : Ask → Type 0
IsQuiet (asks.Send s send_calls.Abort) = ⊥
IsQuiet (asks.Send s send_calls.GoIdentity) = ⊥
IsQuiet (asks.Send s (send_calls.GoInfinite path)) = ⊥
IsQuiet (asks.Reassembly s (reassembly_calls.Abort by_peer)) = ⊥
IsQuiet _ = Unit {0}

either_quiet : (c : Bool) (x y : Ask) → IsQuiet x → IsQuiet y → IsQuiet (if c then x else y)
either_quiet true x y one other = one
either_quiet false x y one other = other

quiet_by : (m : May) (x : Ask) → m.stops ≡ false → m.falls ≡ false → m.alone ≡ false → may m x ≡ true → IsQuiet x
quiet_by m (asks.Send s send_calls.Abort) stop fall alone is = true≢false (sym is ∙ stop)
quiet_by m (asks.Send s send_calls.GoIdentity) stop fall alone is = true≢false (sym is ∙ fall)
quiet_by m (asks.Send s (send_calls.GoInfinite path)) stop fall alone is = true≢false (sym is ∙ alone)
quiet_by m (asks.Reassembly s (reassembly_calls.Abort by_peer)) stop fall alone is = true≢false (sym is ∙ stop)
quiet_by m _ stop fall alone is = tt

-- ---- the books

record IsFree (b : Sending) : Type 0 where
  goes : b.aborted ≡ false
  owner : b.owner ≡ None

either_free : (c : Bool) (b d : Sending) → IsFree b → IsFree d → IsFree (if c then b else d)
either_free true b d x y = x
either_free false b d x y = y

call_free : (b : Sending) (call : SendCall) → IsQuiet (asks.Send A call) → IsFree b → IsFree (after_call b call)
call_free b (send_calls.Write bytes) quiet h = either_free (b.closed || b.aborted) b _ h (record { goes = h.goes; owner = h.owner })
call_free b send_calls.Close quiet h = either_free b.aborted b _ h (record { goes = h.goes; owner = h.owner })
call_free b (send_calls.Grant path max standby) quiet h = elim (decision path max standby b) as (λ r. IsFree (given_by path r b)) [ Err why ↦ h | Ok span ↦ record { goes = h.goes; owner = h.owner } ]
call_free b (send_calls.AckIn next window) quiet h = either_free (is_future next b) b _ h (record { goes = h.goes; owner = h.owner })
call_free b (send_calls.Return path) quiet h = record { goes = h.goes; owner = h.owner }
call_free b send_calls.GoIdentity quiet h = absurd quiet
call_free b (send_calls.GoInfinite path) quiet h = absurd quiet
call_free b send_calls.Abort quiet h = absurd quiet

either_taken : (c : Bool) (b d : Arriving) → b.aborted ≡ None → d.aborted ≡ None → (if c then b else d).aborted ≡ None
either_taken true b d x y = x
either_taken false b d x y = y

call_taken : (b : Arriving) (call : ReassemblyCall) → IsQuiet (asks.Reassembly A call) → b.aborted ≡ None → (arriving.after_call b call).aborted ≡ None
call_taken b (reassembly_calls.Place at bytes) quiet h = either_taken (arriving.is_taken at bytes b) _ b h h
call_taken b (reassembly_calls.Fin at) quiet h = either_taken (is_some (arriving.fin_clash b.known_end at b)) b _ h h
call_taken b (reassembly_calls.Read max) quiet h = either_taken (is_some b.aborted) b _ h h
call_taken b reassembly_calls.AckOut quiet h = h
call_taken b (reassembly_calls.Abort by_peer) quiet h = absurd quiet

record AreFree (six : SixBooks) : Type 0 where
  send_a : IsFree six.send_a
  send_b : IsFree six.send_b
  arrived_a : six.reassembly_a.aborted ≡ None
  arrived_b : six.reassembly_b.aborted ≡ None

same_side_send : (s : Side) (call : SendCall) → IsQuiet (asks.Send s call) → IsQuiet (asks.Send A call)
same_side_send s send_calls.Abort quiet = quiet
same_side_send s send_calls.GoIdentity quiet = quiet
same_side_send s (send_calls.GoInfinite path) quiet = quiet
same_side_send s _ quiet = tt

same_side_take : (s : Side) (call : ReassemblyCall) → IsQuiet (asks.Reassembly s call) → IsQuiet (asks.Reassembly A call)
same_side_take s (reassembly_calls.Abort by_peer) quiet = quiet
same_side_take s _ quiet = tt

ask_free : (x : Ask) (six : SixBooks) → IsQuiet x → AreFree six → AreFree (after_ask x six)
ask_free (asks.Send A call) six quiet h = record { send_a = call_free six.send_a call quiet h.send_a; send_b = h.send_b; arrived_a = h.arrived_a; arrived_b = h.arrived_b }
ask_free (asks.Send B call) six quiet h = record { send_a = h.send_a; send_b = call_free six.send_b call (same_side_send B call quiet) h.send_b; arrived_a = h.arrived_a; arrived_b = h.arrived_b }
ask_free (asks.Reassembly A call) six quiet h = record { send_a = h.send_a; send_b = h.send_b; arrived_a = call_taken six.reassembly_a call quiet h.arrived_a; arrived_b = h.arrived_b }
ask_free (asks.Reassembly B call) six quiet h = record { send_a = h.send_a; send_b = h.send_b; arrived_a = h.arrived_a; arrived_b = call_taken six.reassembly_b call (same_side_take B call quiet) h.arrived_b }
ask_free (asks.Control A call) six quiet h = record { send_a = h.send_a; send_b = h.send_b; arrived_a = h.arrived_a; arrived_b = h.arrived_b }
ask_free (asks.Control B call) six quiet h = record { send_a = h.send_a; send_b = h.send_b; arrived_a = h.arrived_a; arrived_b = h.arrived_b }
ask_free (asks.Local step) six quiet h = h

-- nobody is told of an abort
read_goes : (max : ℕ) (b : Arriving) → b.aborted ≡ None → tells_stop (replies.Reassembly (arriving.read_reply max b)) ≡ false
read_goes max b none = subst (λ (o : Option Bool). tells_stop (replies.Reassembly (arriving.reading o max b)) ≡ false) (sym none) (by (take max (filled b.places)))
  where
    ends : (c : Bool) → tells_stop (replies.Reassembly (if c then reassembly_replies.End else reassembly_replies.NoneYet)) ≡ false
    ends true = refl
    ends false = refl

    by : (bytes : List ℕ) → tells_stop (replies.Reassembly (arriving.bytes_reply bytes b)) ≡ false
    by [] = ends (arriving.is_end b.known_end b.read)
    by (x ∷ bytes) = refl

call_goes : (b : Arriving) (call : ReassemblyCall) → b.aborted ≡ None → tells_stop (replies.Reassembly (arriving.reply_to b call)) ≡ false
call_goes b (reassembly_calls.Place at bytes) none = by (arriving.reaches_past (arriving.edge b) at bytes)
  where
    placed : (o : Option ℕ) → tells_stop (replies.Reassembly (arriving.placed_reply o at bytes b)) ≡ false
    placed None = refl
    placed (Some e) = refl

    by : (c : Bool) → tells_stop (replies.Reassembly (if c then reassembly_replies.Beyond (arriving.edge b) else arriving.placed_reply (arriving.clash b.known_end at bytes) at bytes b)) ≡ false
    by true = refl
    by false = placed (arriving.clash b.known_end at bytes)
call_goes b (reassembly_calls.Fin at) none = elim (arriving.fin_clash b.known_end at b) as (λ o. tells_stop (replies.Reassembly (arriving.fin_reply_by o at)) ≡ false) [ None ↦ refl | Some e ↦ refl ]
call_goes b (reassembly_calls.Read max) none = read_goes max b none
call_goes b reassembly_calls.AckOut none = refl
call_goes b (reassembly_calls.Abort by_peer) none = refl

reply_goes : (x : Ask) (six : SixBooks) → AreFree six → tells_stop (reply_of six x) ≡ false
reply_goes (asks.Reassembly A call) six h = call_goes six.reassembly_a call h.arrived_a
reply_goes (asks.Reassembly B call) six h = call_goes six.reassembly_b call h.arrived_b
reply_goes (asks.Send A call) six h = refl
reply_goes (asks.Send B call) six h = refl
reply_goes (asks.Control A call) six h = refl
reply_goes (asks.Control B call) six h = refl
reply_goes (asks.Local step) six h = refl

-- ---- an application that never stops

abbrev halts : List AppDuty → Bool
halts (apps.FastClose ∷ ds) = true
halts (apps.AbortSend ∷ ds) = true
halts (apps.AbortReceive ∷ ds) = true
halts _ = false

abbrev GoesOn : AppState → Type 0
GoesOn a = (a.stops_in ≡ None) × (halts a.agenda ≡ false)

settled_on : (ds : List AppDuty) (a : AppState) → a.stops_in ≡ None → GoesOn (app_settled ds a)
settled_on [] a none = (none, refl)
settled_on (apps.FastClose ∷ ds) a none =
    subst (λ b. GoesOn (if b then record a { agenda = apps.FastClose ∷ ds } else app_settled ds a)) (sym (ap (λ o. is_due o) none)) (settled_on ds a none)
settled_on (apps.AbortSend ∷ ds) a none =
    subst (λ b. GoesOn (if b then record a { agenda = apps.AbortSend ∷ ds } else app_settled ds a)) (sym (ap (λ o. is_due o) none)) (settled_on ds a none)
settled_on (apps.AbortReceive ∷ ds) a none =
    subst (λ b. GoesOn (if b then record a { agenda = apps.AbortReceive ∷ ds } else app_settled ds a)) (sym (ap (λ o. is_due o) none)) (settled_on ds a none)
settled_on (d ∷ ds) a none = elim (app_stands d a) as (λ b. GoesOn (if b then record a { agenda = d ∷ ds } else app_settled ds a)) [ true ↦ (none, refl) | false ↦ settled_on ds a none ]

answered_stops : (d : AppDuty) (r : Reply) (a : AppState) → (app_answered d r a).stops_in ≡ a.stops_in
answered_stops apps.FastClose r a = refl
answered_stops _ r a = refl

takes_on : (r : Reply) (a : AppState) → GoesOn a → GoesOn (app_takes r a)
takes_on r a h = settled_on (app_answers a.agenda r a).agenda (app_answers a.agenda r a) (by a.agenda ∙ h.0)
  where
    by : (ds : List AppDuty) → (app_answers ds r a).stops_in ≡ a.stops_in
    by [] = refl
    by (d ∷ ds) = answered_stops d r a

app_quiet : (d : AppDuty) (ds : List AppDuty) (a : AppState) → halts (d ∷ ds) ≡ false → IsQuiet (app_ask d a)
app_quiet apps.FastClose ds a is = tt
app_quiet apps.AbortSend ds a is = true≢false is
app_quiet apps.AbortReceive ds a is = true≢false is
app_quiet apps.Write ds a is = tt
app_quiet apps.Close ds a is = tt
app_quiet apps.Read ds a is = tt
app_quiet apps.End ds a is = tt

-- ---- agendas of paths

abbrev is_stop : Duty → Bool
is_stop (duties.Ask (ask_duties.AbortSend s)) = true
is_stop (duties.Ask (ask_duties.AbortReceive s)) = true
is_stop _ = false

abbrev Unstopped : List Duty → Type 0
Unstopped ds = list_any is_stop ds ≡ false

behind_unstopped : (d : Duty) (ds : List Duty) → Unstopped (d ∷ ds) → Unstopped ds
behind_unstopped d ds h = (or_parts (is_stop d) (list_any is_stop ds) h).1

abbrev OrStops : List Duty → Type 0
OrStops es = Unstopped es ⊎ ((s : Side) × (es ≡ stops s))

heard_unstopped : (s : Side) (from count : ℕ) (ds : List Duty) → Unstopped ds → Unstopped (heard_and s from count ds)
heard_unstopped s from zero ds h = h
heard_unstopped s from (suc count) ds h = heard_unstopped s (from + 1) count ds h

died_unstopped : (a b : Bool) → Unstopped ((if a then [] else duties.Ask (ask_duties.Leave A) ∷ []) ++ ((if b then [] else duties.Ask (ask_duties.Leave B) ∷ []) ++ rest_of_turn))
died_unstopped true true = refl
died_unstopped true false = refl
died_unstopped false true = refl
died_unstopped false false = refl

happened_unstopped : (t : Side) (e f : PathEnd) (ds : List Duty) → Happened t e f ds → Unstopped ds
happened_unstopped t e f ds (happened.nothing still) = refl
happened_unstopped t e f ds (happened.copy count) = heard_unstopped t 0 count (payload_came t) refl
happened_unstopped t e f ds (happened.both_dead gone a b) = died_unstopped (is_dead a.tcp.state) (is_dead b.tcp.state)
happened_unstopped t e f ds happened.sent = refl
happened_unstopped t e f ds happened.syn = refl
happened_unstopped t e f ds happened.syn_ack = refl
happened_unstopped t e f ds happened.join = refl
happened_unstopped t e f ds happened.no_join = refl
happened_unstopped t e f ds happened.join_answer = refl
happened_unstopped t e f ds happened.syn_once_more = refl
happened_unstopped t e f ds happened.answered = refl
happened_unstopped t e f ds (happened.answered_dead still) = refl
happened_unstopped t e f ds happened.timed_out = refl
happened_unstopped t e f ds happened.timed_out_for_ever = refl
happened_unstopped t e f ds (happened.announced id) = refl
happened_unstopped t e f ds (happened.withdrawn id) = refl
happened_unstopped t e f ds (happened.dead gone) = refl
happened_unstopped t e f ds (happened.is_reset reason) = refl

told_unstopped : (e : Duty) (ds : List Duty) → is_told e ≡ true → Unstopped ds → Unstopped (e ∷ ds)
told_unstopped e ds is h = or_from (is_stop e) (list_any is_stop ds) (by e is) h
  where
    by : (e : Duty) → is_told e ≡ true → is_stop e ≡ false
    by (duties.Ask (ask_duties.AbortSend s)) is = absurd (true≢false (sym is))
    by (duties.Ask (ask_duties.AbortReceive s)) is = absurd (true≢false (sym is))
    by _ is = refl

follow_unstopped : (s : Side) (gone : Bool) (d : Duty) (ds es : List Duty) → Unstopped (d ∷ ds) → Follows s gone d ds es → OrStops es
follow_unstopped s gone d ds es h follows.goes_on = inl (behind_unstopped d ds h)
follow_unstopped s gone d ds es h follows.again = inl h
follow_unstopped s gone d ds es h (follows.told is e own other named silent) = inl (told_unstopped e ds named (behind_unstopped d ds h))
follow_unstopped s gone d ds es h (follows.left dead) = inl (behind_unstopped d ds h)
follow_unstopped s gone d ds es h follows.noted = inl (behind_unstopped d ds h)
follow_unstopped s gone d ds es h (follows.broken is reason) = inl refl
follow_unstopped s gone d ds es h (follows.is_reset is reason) = inl refl
follow_unstopped s gone d ds es h (follows.dead is dead) = inl refl
follow_unstopped s gone d ds es h (follows.stopped is) = inr (s, refl)
follow_unstopped s gone d ds es h (follows.over both) = inl refl

duty_unstopped : (d : Duty) (ds : List Duty) (r : Reply) (p : PathState Carried) → Unstopped (d ∷ ds) → OrStops (answered values d r (with_agenda (d ∷ ds) p)).agenda
duty_unstopped (duties.Step step_duties.Events) ds r p h = inl (happened_unstopped _ _ _ _ (answered_follows values (duties.Step step_duties.Events) ds r p).0)
duty_unstopped d ds r p h = follow_unstopped _ _ d ds _ h (answered_follows values d ds r p)

settled_unstopped : (ds : List Duty) (p : PathState Carried) → Unstopped ds → Unstopped (settled ds p).agenda
settled_unstopped [] p h = refl
settled_unstopped (d ∷ ds) p h = elim (stands d p) as (λ b. Unstopped (if b then with_agenda (d ∷ ds) p else settled ds (passed d p)).agenda) [ true ↦ h | false ↦ settled_unstopped ds (passed d p) (behind_unstopped d ds h) ]

settled_or : (ds : List Duty) (p : PathState Carried) → OrStops ds → OrStops (settled ds p).agenda
settled_or ds p (inl h) = inl (settled_unstopped ds p h)
settled_or ds p (inr at) = inr (at.0, ap (λ xs. (settled xs p).agenda) at.1)

takes_unstopped : (r : Reply) (p : PathState Carried) → Unstopped p.agenda → OrStops (takes values r p).agenda
takes_unstopped r p = by p.agenda
  where
    by : (ds : List Duty) → Unstopped ds → OrStops (takes values r (with_agenda ds p)).agenda
    by [] h = inl refl
    by (d ∷ ds) h = let q : PathState Carried = answered values d r (with_agenda (d ∷ ds) p) in settled_or q.agenda q (duty_unstopped d ds r p h)

begins_unstopped : (p : PathState Carried) → Unstopped (begins_turn p).agenda
begins_unstopped p = settled_unstopped start_of_turn (with_agenda start_of_turn p) refl

-- ---- what a path asks

module _ (p : PathState Carried) where
  broken_quiet : (s : Side) (reason : ℕ) → IsQuiet (break_ask values s reason p)
  broken_quiet s reason = either_quiet (end_at s p).treated.asked _ _ tt tt

  notice_quiet : (s : Side) (notice : PeerNotice) → IsQuiet (notice_ask s notice p)
  notice_quiet s (notices.Prio backup) = tt
  notice_quiet s _ = tt

  item_quiet : (s : Side) (index : ℕ) (o : Option Heard) → item_of index (end_at s p) ≡ o → list_any is_failure (end_at s p).treated.items ≡ false → IsQuiet (item_ask values s o p)
  item_quiet s index None is heard = tt
  item_quiet s index (Some (says.Mapping fin)) is heard = either_quiet (is_clash (end_at s p)) _ _ (broken_quiet s 1) tt
  item_quiet s index (Some (says.Notice notice)) is heard = notice_quiet s notice
  item_quiet s index (Some says.Fail) is heard = absurd (by (end_at s p).modes.identity is)
    where
      by : (b : Bool) → (if b then None else item_at index (end_at s p).treated.items) ≡ Some says.Fail → ⊥
      by true is = cc
      by false is = none_heard (end_at s p).treated.items index heard is
  item_quiet s index (Some (says.DataAck next window)) is heard = tt
  item_quiet s index (Some (says.DataFin place)) is heard = tt
  item_quiet s index (Some (says.InfiniteMapping place position)) is heard = tt
  item_quiet s index (Some (says.Keys own other)) is heard = tt
  item_quiet s index (Some (says.FastClose key)) is heard = tt
  item_quiet s index (Some _) is heard = tt

  duty_quiet : ((s : Side) → list_any is_failure (end_at s p).treated.items ≡ false) → (d : Duty) → is_stop d ≡ false → ((s : Side) → d ≡ duties.Ask (ask_duties.GoIdentity s) → ⊥) → IsQuiet (ask_for values d p)
  duty_quiet heard (duties.Ask (ask_duties.AbortSend s)) on falls = absurd (true≢false on)
  duty_quiet heard (duties.Ask (ask_duties.AbortReceive s)) on falls = absurd (true≢false on)
  duty_quiet heard (duties.Ask (ask_duties.GoIdentity s)) on falls = absurd (falls s refl)
  duty_quiet heard (duties.Step (step_duties.Heard s index)) on falls = item_quiet s index (item_of index (end_at s p)) refl (heard s)
  duty_quiet heard d on falls = quiet_by (asking d) (ask_for values d p) refl refl refl (asks_no_more values p d).kind

-- ---- the world

abbrev MemberGoes : Actor Carried → Type 0
MemberGoes = HoldsOfKind GoesOn (λ p. Unstopped p.agenda)

record GoesQuietly (w : WorldState Carried) : Type 0 where
  books : AreFree (books_in w.books)
  each : (actor : ℕ) (c : ActorCrew Carried) → slice_get w.crew actor ≡ Some c → MemberGoes c.member
  told : (actor : ℕ) (c : ActorCrew Carried) → slice_get w.crew actor ≡ Some c → was_told tells_stop c.list ≡ false

-- a path whose ends treat no MP_FAIL, whose side is neither to fall back to plain TCP next nor to be stopped
record IsUnhalted (p : PathState Carried) : Type 0 where
  heard : (s : Side) → list_any is_failure (end_at s p).treated.items ≡ false
  falls : (s : Side) (ds : List Duty) → p.agenda ≡ duties.Ask (ask_duties.GoIdentity s) ∷ ds → ⊥
  stopped : (s : Side) → p.agenda ≡ stops s → ⊥

abbrev MemberFact : Actor Carried → Type 0
MemberFact = HoldsOfKind (λ app. Unit {0}) IsUnhalted

record Facts (w : WorldState Carried) : Type 0 where
  each : (actor : ℕ) (c : ActorCrew Carried) → slice_get w.crew actor ≡ Some c → MemberFact c.member

member_quiet : (m : Actor Carried) (x : Ask) → member_asks values m ≡ Some x → MemberFact m → MemberGoes m → IsQuiet x
member_quiet (App a) x is fact h = (elim a.agenda as (λ ds. app_asks_first ds a ≡ Some x → halts ds ≡ false → IsQuiet x)
    [ [] ↦ λ is none. cc | d ∷ ds ↦ λ is none. subst IsQuiet (same_Some _ x is) (app_quiet d ds a none) ]) is h.1
member_quiet (Path p) x is fact h = (elim p.agenda as (λ ds. asks_first values ds p ≡ Some x → list_any is_stop ds ≡ false → ((s : Side) (es : List Duty) → ds ≡ duties.Ask (ask_duties.GoIdentity s) ∷ es → ⊥) → IsQuiet x) [
  | [] ↦ λ is on falls. cc
  | d ∷ ds ↦ λ is on falls. subst IsQuiet (same_Some _ x is) (duty_quiet p fact.heard d (or_parts (is_stop d) (list_any is_stop ds) on).0 (λ s same. falls s ds (ap (λ e. e ∷ ds) same)))
]) is h fact.falls

member_takes_goes : (r : Reply) (m : Actor Carried) → MemberFact (member_takes values r m) → MemberGoes m → MemberGoes (member_takes values r m)
member_takes_goes r (App a) fact h = takes_on r a h
member_takes_goes r (Path p) fact h = ⊎_elim (λ is. is) (λ at. absurd (fact.stopped at.0 at.1)) (takes_unstopped r p h)

member_next_goes : (m : Actor Carried) → MemberGoes m → MemberGoes (member_next m)
member_next_goes (App a) h = settled_on start_of_app (fresh_turn a) (ap a_round_less h.0)
member_next_goes (Path p) h = begins_unstopped (record p { clock = p.until; until = p.until + 100 })

more_none : {X : Type 0} (test : X → Bool) (xs : List X) (y : X) → list_any test xs ≡ false → test y ≡ false → list_any test (xs ++ y ∷ []) ≡ false
more_none test [] y none last = or_from (test y) false last refl
more_none test (x ∷ xs) y none last = let parts = or_parts (test x) (list_any test xs) none in or_from (test x) (list_any test (xs ++ y ∷ [])) parts.0 (more_none test xs y parts.1 last)

turn_quiet : (turn : Turn) (w : WorldState Carried) → Facts w → Facts (after_turn values turn w) → GoesQuietly w → GoesQuietly (after_turn values turn w)
turn_quiet turn w facts later h =
    turn_so values (λ v. Facts v → GoesQuietly v) turn w (λ same. h)
    (λ actor c x there is next.
    (let quiet : IsQuiet x = member_quiet c.member x is (facts.each actor c there) (h.each actor c there) in
    let fact : MemberFact (member_takes values (answer_to w.books x) c.member) = next.each actor (crew_after values x w.books c) (set_same w.crew actor (crew_after values x w.books c) c there) in
    record {
      books = subst AreFree (sym (books_after x c.pass w.books)) (ask_free x (books_in w.books) quiet h.books);
      each = λ i d at. ⊎_elim
          (λ here. subst (λ (y : ActorCrew Carried). MemberGoes y.member) here.1 (member_takes_goes (answer_to w.books x) c.member fact (h.each actor c there)))
          (λ other. h.each i d other.1)
          (in_set w.crew actor (crew_after values x w.books c) i d at);
      told = λ i d at. ⊎_elim
          (λ here. subst (λ (y : ActorCrew Carried). was_told tells_stop y.list ≡ false) here.1 (more_none (note_tells tells_stop) c.list (note_of w.books c.pass x) (h.told actor c there) (reply_goes x (books_in w.books) h.books)))
          (λ other. h.told i d other.1)
          (in_set w.crew actor (crew_after values x w.books c) i d at);
    }))
    (λ over next. record {
      books = h.books;
      each = λ i d at.
          let found = in_map (begins (greatest 0 w.crew)) w.crew i d at in
          subst (λ (y : ActorCrew Carried). MemberGoes y.member) found.2 (member_next_goes found.0.member (h.each i found.0 found.1));
      told = λ i d at.
          let found = in_map (begins (greatest 0 w.crew)) w.crew i d at in
          subst (λ (y : ActorCrew Carried). was_told tells_stop y.list ≡ false) found.2 (h.told i found.0 found.1);
    })
    later

run_quiet : (turns : List Turn) (w : WorldState Carried) → ((more : List Turn) → Facts (world_run values more w)) → GoesQuietly w → GoesQuietly (world_run values turns w)
run_quiet [] w ever h = h
run_quiet (turn ∷ turns) w ever h = run_quiet turns (after_turn values turn w) (λ more. ever (turn ∷ more)) (turn_quiet turn w (ever []) (ever (turn ∷ [])) h)

-- ---- the only path opens the connection

abbrev FirstMember : Actor Carried → Type 0
FirstMember = HoldsOfKind (λ app. Unit {0}) (λ p. is_joined p.profile ≡ false)

member_takes_first : (r : Reply) (m : Actor Carried) → FirstMember m → FirstMember (member_takes values r m)
member_takes_first r (App a) h = tt
member_takes_first r (Path p) h = ap is_joined (takes_keeps values r p).1 ∙ h

member_next_first : (m : Actor Carried) → FirstMember m → FirstMember (member_next m)
member_next_first (App a) h = tt
member_next_first (Path p) h = ap is_joined (first_keeps (record p { clock = p.until; until = p.until + 100 })).1 ∙ h

pub only_path_opens : (start : Start) (plan : PathPlan) (turns : List Turn) → start.paths ≡ plan ∷ [] → Every (λ (c : ActorCrew Carried). FirstMember c.member) (world_run values turns (opened_world start)).crew
only_path_opens start plan turns one = run_lifted values (λ c. FirstMember c.member)
    (λ books c x is h. member_takes_first (answer_to books x) c.member h) (λ stamp c over h. member_next_first c.member h) turns (opened_world start)
    (opened_lifted (λ c. FirstMember c.member) start tt tt (λ number other there. begun number (at number other (subst (λ (plans : List PathPlan). slice_get plans number ≡ Some other) one there)) other))
  where
    at : (number : ℕ) (other : PathPlan) → slice_get (plan ∷ []) number ≡ Some other → number ≡ 0
    at zero other is = refl
    at (suc number) other is = cc

    begun : (number : ℕ) → number ≡ 0 → (other : PathPlan) → FirstMember (Path (first_turn (path_begins start number other) start.lines))
    begun number is other =
        let p : PathState Carried = waiting_path (path_begins start number other) start.lines in
        ap is_joined (first_keeps p).1 ∙ ap (nat_lt 0) is

opened_quiet : (start : Start) → IsMildStart start → GoesQuietly (opened_world start)
opened_quiet start mild = record {
  books = record { send_a = record { goes = refl; owner = refl }; send_b = record { goes = refl; owner = refl }; arrived_a = refl; arrived_b = refl };
  each = (opened_lifted (λ (c : ActorCrew Carried). MemberGoes c.member) start (first A start.file_a) (first B start.file_b)
      (λ number plan there. begins_unstopped (waiting_path (path_begins start number plan) start.lines))).each;
  told = (opened_lifted (λ (c : ActorCrew Carried). was_told tells_stop c.list ≡ false) start refl refl (λ number plan there. refl)).each;
}
  where
    first : (s : Side) (file : List ℕ) → GoesOn (first_app_turn s start.buffer file (fast_close_of s start.lines))
    first s file = settled_on start_of_app (untouched s start.buffer file (fast_close_of s start.lines)) (ap (λ o. option_map rounds_before o) (mild.stays_open s))

-- ---- a side that never fell back

abbrev NeverNext : PathState Carried → Type 0
NeverNext p = (s : Side) (ds : List Duty) → p.agenda ≡ duties.Ask (ask_duties.GoIdentity s) ∷ ds → ⊥

-- no end is to learn of a fall
never_falls_next : (start : Start) (turns : List Turn) → IsMildStart start → (actor : ℕ) (c : ActorCrew Carried) → slice_get (world_run values turns (opened_world start)).crew actor ≡ Some c
    → HoldsOfKind (λ app. Unit {0}) NeverNext c.member
never_falls_next start turns mild =
    let run = run_causes start turns in
    subst (λ (v : WorldState Carried). NeverFalls v → (actor : ℕ) (c : ActorCrew Carried) → slice_get v.crew actor ≡ Some c → HoldsOfKind (λ app. Unit {0}) NeverNext c.member)
    (sym run.is) (of_cast run.cast run.holds) (sides_never_fall start turns mild.plain mild.strips)
  where
    itself : (s : Side) → same_side s s ≡ true
    itself A = refl
    itself B = refl

    one : (t : Cast Carried) → NeverFalls (world_of t) → (p : PathState Carried) → Knows start t p → NeverNext p
    one t never p k s ds is = both_ways _ (never s) (was_wider is_identity is_fallen_back (λ m is. or_left (is_identity m) (is_infinite m) is) t.books s
        (k.is.known (Voice.Falls s) (subst (λ xs. speaks (Voice.Falls s) xs ≡ true) (sym is) (first_speaks (Voice.Falls s) (duties.Ask (ask_duties.GoIdentity s)) ds (itself s)))).1.1)

    of_cast : (t : Cast Carried) → Causes start t → NeverFalls (world_of t) → (actor : ℕ) (c : ActorCrew Carried) → slice_get (world_of t).crew actor ≡ Some c → HoldsOfKind (λ app. Unit {0}) NeverNext c.member
    of_cast t h never = each_actor (λ actor c. HoldsOfKind (λ app. Unit {0}) NeverNext c.member) t tt tt (λ number x there. one t never x.path (h.paths.each number x there))

pub sides_are_never_stopped : MildPathsAreNeverStopped
sides_are_never_stopped start turns mild = record {
  send = elim [ A ↦ h.books.send_a.goes | B ↦ h.books.send_b.goes ];
  owner = elim [ A ↦ h.books.send_a.owner | B ↦ h.books.send_b.owner ];
  arrived = elim [ A ↦ h.books.arrived_a | B ↦ h.books.arrived_b ];
  told = λ s. at (pick s 0 1) (slice_get w.crew (pick s 0 1)) refl;
}
  where
    w : WorldState Carried
    w = world_run values turns (opened_world start)

    by : (more : List Turn) (m : Actor Carried) → MemberUpright m → HoldsOfKind (λ app. Unit {0}) NeverNext m → StopsAreAsked (world_run values more (opened_world start)) m → MemberFact m
    by more (App a) upright falls asked = tt
    by more (Path p) upright falls asked = record {
      heard = upright.passes.heard_none;
      falls = falls;
      stopped = λ s is. both_ways _ (none_noted start more mild (peer s)) (asked s (ap (speaks (Voice.Aborts s)) is ∙ stops_speak s));
    }

    facts : (more : List Turn) → Facts (world_run values more (opened_world start))
    facts more = record {
      each = λ actor c there. by more c.member ((each_upright start more mild.plain mild.strips).each actor c there) (never_falls_next start more mild actor c there) (stops_are_asked start more actor c there);
    }

    h : GoesQuietly w
    h = run_quiet turns (opened_world start) facts (opened_quiet start mild)

    at : (actor : ℕ) (o : Option (ActorCrew Carried)) → slice_get w.crew actor ≡ o → was_told tells_stop (notes_or o) ≡ false
    at actor None there = refl
    at actor (Some c) there = h.told actor c there

-- over one path
pub mild_paths_are_never_stopped : (start : Start) (plan : PathPlan) (turns : List Turn) → start.paths ≡ plan ∷ [] → IsMildStart start → NothingIsStopped (world_run values turns (opened_world start))
mild_paths_are_never_stopped start plan turns one mild = sides_are_never_stopped start turns mild
