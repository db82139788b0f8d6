-- An end knows a mode by a reply of its side's control book alone.
use Rattle.std.proofs.Common.{◌≡◌, refl, sym, subst, ap, ◌∙◌, ⊎_elim, ℕ, ◌+◌, ◌==◌, ◌&&◌, ◌||◌, not, Bool, true, false, true≢false, if◌then◌else◌, is_none, is_some, Option, Some, None, List, [], ◌∷◌}
use Rattle.std.specs.List.{slice_get}
use Rattle.std.proofs.lemmas.Option.{same_Some}
use Rattle.sides.specs.declared.side.Side.{Side}
use Rattle.sides.specs.declared.side.Side.TheVariants.{A, B}
use Rattle.sides.specs.Side.{peer}
use Rattle.fallback_state.specs.declared.fall.Fall.{Fall}
use Rattle.fallback_state.specs.declared.fall.Event.{Event as FallEvent}
use Rattle.fallback_state.specs.declared.fall.Event.TheVariants as events
use Rattle.fallback_state.specs.declared.fall.Mode.{Mode}
use Rattle.fallback_state.specs.declared.fall.Mode.TheVariants.{Starting}
use Rattle.fallback_state.specs.declared.fall.Verdict.{Verdict}
use Rattle.fallback_state.specs.declared.fall.Verdict.TheVariants as verdicts
use Rattle.fallback_state.specs.Modes.{is_identity, is_starting, reads_mappings, writes_mappings}
use Rattle.fallback_state.specs.Table.{breaks, fall_step, goes, is_failed_path, stays}
use Rattle.control_book.specs.declared.call.ControlCall.{ControlCall}
use Rattle.control_book.specs.declared.call.ControlCall.TheVariants as control_calls
use Rattle.control_book.specs.declared.call.ControlReply.TheVariants as control_replies
use Rattle.control_book.specs.declared.call.Notice.{Notice}
use Rattle.control_book.specs.declared.call.Notice.TheVariants as notices
use Rattle.control_book.specs.declared.registry.Phase.TheVariants.{Opening}
use Rattle.control_book.specs.Control.{Control}
use Rattle.control_book.specs.Registry.{sole, with_phase}
use Rattle.control_book.specs.Replies as replying
use Rattle.control_book.specs.Replies.{is_sure}
use Rattle.control_book.specs.Steps as controlling
use Rattle.key_material.specs.KeyDigest.{token_of}
use Rattle.actor_desk.specs.declared.ask.Ask.{Ask}
use Rattle.actor_desk.specs.declared.ask.Ask.TheVariants as asks
use Rattle.actor_desk.specs.declared.ask.Reply.{Reply}
use Rattle.actor_desk.specs.declared.ask.Reply.TheVariants as replies
use Rattle.path_agenda.specs.declared.keys.KeyPair.{KeyPair}
use Rattle.send_book.specs.declared.call.SendCall.TheVariants as send_calls
use Rattle.subflow_tcp.specs.declared.handshake.State.{State}
use Rattle.subflow_tcp.specs.declared.verdicts.Meaning.{Meaning}
use Rattle.subflow_tcp.specs.declared.verdicts.Meaning.TheVariants as means
use Rattle.subflow_tcp.specs.States.{is_dead}
use Rattle.path_agenda.specs.Agenda.{emission, leaves, resets}
use Rattle.path_agenda.specs.declared.duty.Duty.{Duty}
use Rattle.path_agenda.specs.declared.duty.Duty.TheVariants as duties
use Rattle.path_agenda.specs.declared.duty.AskDuty.TheVariants as ask_duties
use Rattle.path_agenda.specs.declared.duty.SendDuty.TheVariants as send_duties
use Rattle.path_agenda.specs.declared.duty.SilentDuty.TheVariants as silent_duties
use Rattle.path_agenda.specs.declared.duty.StepDuty.TheVariants as step_duties
use Rattle.path_agenda.specs.declared.heard.Heard.{Heard}
use Rattle.path_agenda.specs.declared.heard.Heard.TheVariants as says
use Rattle.path_core.specs.declared.modes.Modes.{Modes}
use Rattle.path_core.specs.End.{PathEnd, died}
use Rattle.path_core.specs.Fallback.{after_fell, answered_fell, book_answered, breaks_by_ack, fail_heard_ask, fell_ask, fell_duties, fell_in, may_go_infinite, mode_in, with_plain_ack}
use Rattle.path_core.specs.declared.events.Event.{Event}
use Rattle.path_core.specs.declared.events.Event.TheVariants as happenings
use Rattle.path_store.specs.declared.lines.LineAction.{LineAction}
use Rattle.path_store.specs.declared.lines.LineAction.TheVariants as lines
use Rattle.join_handshake.specs.declared.hearing.JoinAnswer.{JoinAnswer}
use Rattle.join_handshake.specs.declared.hearing.JoinSyn.{JoinSyn}
use Rattle.path_segments.specs.Heard.{HeardSegment}
use Rattle.path_core.specs.Addresses.{with_priority}
use Rattle.path_core.specs.Arrival.{after_judged, asked_in, copy_heard, heard_in, judged_in, with_payload}
use Rattle.path_core.specs.Breaking.{answered_break, break_ask, reset_on}
use Rattle.path_core.specs.Codec.{Codec}
use Rattle.path_core.specs.DssIn.{HeardOption, is_clash, with_learned}
use Rattle.path_agenda.specs.Items.{key_heard, keys_heard}
use Rattle.path_core.specs.Duties.{answered, ask_for}
use Rattle.path_core.specs.Events.{after_line, happens_if, next_event, step_for}
use Rattle.path_core.specs.Judged.{answered_in, cleared_in, taken_as, with_answer}
use Rattle.path_core.specs.MpCapable.{after_keys, answered_opened, answered_peer_key, keys_in, opened_ask, peer_key_ask, with_peer_key}
use Rattle.path_core.specs.MpJoin.{asked_at, is_joined, is_never, join_answer, join_begin_ask, join_begun, join_heard_ask, join_taken, joined_by, keys_begun, mode_refused, never_joined, opened_by, with_mode_refused}
use Rattle.path_core.specs.OptionsIn.{items_of, options_heard}
use Rattle.path_core.specs.Standing.{after_look, answered_ack_out, modes_told}
use Rattle.path_core.specs.State.{PathState, at_tick, end_at, goes_on, path_of}
use Rattle.path_core.specs.Values.{Carried, values}
use Rattle.path_core.specs.Treating.{answered_item, item_ask, item_of}
use Rattle.link_model.specs.Steps.{after_delivery, arriving}
use Rattle.actor_desk.specs.Words.{tail_of}
use Rattle.world_laws.specs.Writes.{EndView, EndWrites, Only, PathView, side_of, writes}
use Rattle.world_laws.proofs.Falls.FailedChecks.{check_failed_so, fail_heard_so, infinite_came_so}
use Rattle.world_laws.proofs.Writes.Paths.{writes_no_more}
use Rattle.world_laws.proofs.Writes.Steps.{unwritten}
use Rattle.whole_paths.proofs.Agendas.{own_end}
use Rattle.whole_paths.proofs.Settling.{sides}
use Rattle.stamped_book.specs.declared.stamped.Pass.{Pass}
use Rattle.actor_desk.specs.Books.{StampedBooks, books_in}
use Rattle.actor_desk.specs.Desk.{SixBooks, after_ask, control_of, reply_of}
use Rattle.path_agenda.specs.Agenda.{start_of_turn}
use Rattle.path_core.specs.Duties.{passed, stands}
use Rattle.path_core.specs.Start.{PathStart, first_turn, waiting_path}
use Rattle.path_core.specs.State.{with_agenda}
use Rattle.path_core.specs.Steps.{answers, asks_first, settled, settles_down}
use Rattle.stream_lanes.proofs.Lists.{in_map, in_set}
use Rattle.world_laws.specs.declared.member.Member.TheVariants.{App, Path}
use Rattle.world_laws.specs.Actors.{Actor, ActorCrew, member_asks, member_next, member_takes}
use Rattle.world_laws.specs.Members.{HoldsOfKind}
use Rattle.world_laws.specs.ModesSoFar.{was_ever}
use Rattle.world_laws.specs.NeverFalls.{is_fallen_back}
use Rattle.world_laws.specs.Openings.{Start, opened_world, path_begins}
use Rattle.world_laws.specs.StampedBooks.{answer_to}
use Rattle.actor_desk.specs.Books.{after_entry}
use Rattle.world_laws.specs.Worlds.{Turn, WorldState, begins, crew_after, greatest, world_run}
use Rattle.world_laws.proofs.Falls.ByTheJournal.{Was, was_now, was_stays}
use Rattle.world_laws.proofs.Rounds.Lifting.{opened_lifted}
use Rattle.world_laws.proofs.Weaving.Journals.{books_after}
use Rattle.world_laws.proofs.Whole.Falls.{sides_never_fall}
use Rattle.world_laws.proofs.Worlds.Turns.{run_so}
use Rattle.whole_paths.specs.KnownModes.{EndsKnowWhatWas, NoEndKnowsOfAFallback}
use Rattle.whole_paths.proofs.Staying.{passed_rests}
use Rattle.world_laws.proofs.Keys.LearnedByA.{mode_told}

-- ---- verdicts

-- the verdict tells the mode that the row goes to
abbrev TellsIts : Fall × Verdict → Type 0
TellsIts row = (m : Mode) → mode_told (replies.Control (control_replies.Verdict row.1)) ≡ Some m → row.0.mode ≡ m

either_tells : (c : Bool) (x y : Fall × Verdict) → TellsIts x → TellsIts y → TellsIts (if c then x else y)
either_tells true x y a b = a
either_tells false x y a b = b

goes_tells : (mode : Mode) (f : Fall) → TellsIts (goes mode f)
goes_tells mode f m is = same_Some mode m is

stays_tells : (f : Fall) → TellsIts (stays f)
stays_tells f m is = cc

breaks_tells : (reason : ℕ) (f : Fall) → TellsIts (breaks reason f)
breaks_tells reason f m is = cc

pub row_tells : (f : Fall) (path : ℕ) (only : Bool) (event : FallEvent) → TellsIts (fall_step f path only event)
row_tells f path only events.PlainHandshake = either_tells (is_starting f.mode && not f.joined) _ _ (goes_tells _ f) (stays_tells f)
row_tells f path only events.PlainData = either_tells (is_starting f.mode && not f.joined) _ _ (goes_tells _ f) (stays_tells f)
row_tells f path only events.PlainAck = either_tells (is_starting f.mode && not f.joined) _ _ (goes_tells _ f) (stays_tells f)
row_tells f path only events.KeysHeard = either_tells (is_identity f.mode) _ _ (stays_tells f) (λ m is. cc)
row_tells f path only events.MappingHeard = either_tells (is_starting f.mode) _ _ (goes_tells _ f) (stays_tells f)
row_tells f path only events.AckHeard = either_tells (is_starting f.mode) _ _ (goes_tells _ f) (stays_tells f)
row_tells f path only events.InfiniteHeard =
    either_tells (not (reads_mappings f.mode)) _ _ (stays_tells f) (either_tells (only && is_failed_path f.failed path) _ _ (goes_tells _ f)
    (either_tells (writes_mappings f.mode && not f.joined && is_none f.failed) _ _ (goes_tells _ f) (breaks_tells 1 f)))
row_tells f path only events.CheckFailed = either_tells (not (reads_mappings f.mode)) _ _ (stays_tells f) (either_tells only _ _ (λ m is. cc) (breaks_tells 6 f))
row_tells f path only (events.FailHeard contiguous) =
    either_tells (not (writes_mappings f.mode)) _ _ (stays_tells f) (either_tells (only && contiguous) _ _ (goes_tells _ f) (breaks_tells 1 f))
row_tells f path only events.Stop = goes_tells _ f

-- ---- a control book

noted_mode : (n : Notice) (path : ℕ) (c : Control) → (controlling.after_notice n path c).fall.mode ≡ c.fall.mode
noted_mode (notices.Withdraw id) path c = refl
noted_mode notices.Nothing path c = refl
noted_mode (notices.Announce id) path c = refl
noted_mode (notices.Carrier key) path c = refl
noted_mode notices.Reset path c = refl

-- the mode that a reply tells is that of the book after the call
abbrev Tells : Control → ControlCall → Type 0
Tells c call = (m : Mode) → mode_told (replies.Control (replying.reply_to c call)) ≡ Some m → (controlling.after c call).fall.mode ≡ m

either_mode : (b : Bool) (x y : Control) (m : Mode) → x.fall.mode ≡ m → y.fall.mode ≡ m → (if b then x else y).fall.mode ≡ m
either_mode true x y m a b = a
either_mode false x y m a b = b

-- an address that the peer announces tells none
abbrev pub IsToTell : ControlCall → Type 0
IsToTell (control_calls.Heard id address port hmac) = ⊥
IsToTell _ = Unit {0}

pub call_tells : (c : Control) (call : ControlCall) → IsToTell call → Tells c call
call_tells c (control_calls.Look path) able = λ m is. noted_mode (replying.notice_on c path) path c ∙ same_Some c.fall.mode m is
call_tells c (control_calls.Keys own other) able = λ m is. absurd (by (own == c.keys.own) is)
  where
    by : (b : Bool) {m : Mode} → mode_told (replies.Control (if b then control_replies.Noted else control_replies.KeysDiffer c.keys.own)) ≡ Some m → ⊥
    by true is = cc
    by false is = cc
call_tells c (control_calls.Fell path event) able = row_tells c.fall path (sole c.paths path) event
call_tells c (control_calls.JoinBegin path) able = λ m is. by (replying.may_join c) (replying.join_waits c) m is
  where
    by : (may waits : Bool) (m : Mode) → mode_told (replies.Control (if may then replying.begin c else (if waits then control_replies.NotYet else control_replies.Never c.fall.mode))) ≡ Some m
        → (if may then controlling.after_join (record c { paths = with_phase path Opening c.paths }) else c).fall.mode ≡ m
    by true waits m is = cc
    by false true m is = cc
    by false false m is = same_Some c.fall.mode m is
call_tells c (control_calls.JoinHeard path token) able = λ m is.
    (let same = by (token == token_of c.keys.own) c.fall.confirmed (is_starting c.fall.mode || is_sure c.fall.mode) is in
    either_mode (token == token_of c.keys.own && c.fall.confirmed && (is_starting c.fall.mode || is_sure c.fall.mode)) (controlling.after_join c) c m same same)
  where
    by : (knows confirmed fits : Bool) {m : Mode} → mode_told (replies.Control (if not knows then control_replies.UnknownToken (token_of c.keys.own)
        else (if not confirmed then control_replies.NotConfirmed else (if fits then replying.begin c else control_replies.Fallen c.fall.mode)))) ≡ Some m → c.fall.mode ≡ m
    by false confirmed fits is = cc
    by true false fits is = cc
    by true true true is = cc
    by true true false is = same_Some c.fall.mode _ is
call_tells c (control_calls.Heard id address port hmac) able = absurd able
call_tells c (control_calls.FastHeard key) able = λ m is. absurd (by (key == c.keys.own) is)
  where
    by : (b : Bool) {m : Mode} → mode_told (replies.Control (if b then control_replies.Stopped else control_replies.OtherKey c.keys.own)) ≡ Some m → ⊥
    by true is = cc
    by false is = cc
call_tells c (control_calls.PeerKey key) able = λ m is. cc
call_tells c (control_calls.Live path backup) able = λ m is. cc
call_tells c (control_calls.Dead path) able = λ m is. cc
call_tells c (control_calls.Backup path on) able = λ m is. cc
call_tells c (control_calls.Rate path window rtt) able = λ m is. cc
call_tells c (control_calls.Announce id) able = λ m is. cc
call_tells c (control_calls.Withdraw id) able = λ m is. cc
call_tells c (control_calls.Echoed id) able = λ m is. cc
call_tells c (control_calls.Removed id) able = λ m is. cc
call_tells c control_calls.FastClose able = λ m is. cc

-- ---- an end

-- it knows the mode that it knew, or the one that a reply of its side's control book tells
pub data Knows (s : Side) (x : Ask) (r : Reply) (e f : PathEnd) : Type 0 where
  same : f.modes.mode ≡ e.modes.mode → Knows s x r e f
  told : (call : ControlCall) → x ≡ asks.Control s call → IsToTell call → mode_told r ≡ Some f.modes.mode → Knows s x r e f

module _ (s : Side) (x : Ask) (e f : PathEnd) (call : ControlCall) (asked : x ≡ asks.Control s call) (able : IsToTell call) where
  by_verdict : (r : Reply) → f.modes.mode ≡ (mode_in r e.modes).mode → Knows s x r e f
  by_verdict (replies.Control (control_replies.Verdict v)) = by v
    where
      by : (v : Verdict) → f.modes.mode ≡ (mode_in (replies.Control (control_replies.Verdict v)) e.modes).mode → Knows s x (replies.Control (control_replies.Verdict v)) e f
      by (verdicts.Went mode) is = told call asked able (ap (λ (m : Mode). Some m) (sym is))
      by _ is = same is
  by_verdict (replies.Control control_replies.Noted) = λ is. same is
  by_verdict _ = λ is. same is

  by_event : (event : FallEvent) (r : Reply) → f.modes.mode ≡ (fell_in event r e.modes).mode → Knows s x r e f
  by_event event r is = by_verdict r (is ∙ fell_mode event)
    where
      fell_mode : (event : FallEvent) → (fell_in event r e.modes).mode ≡ (mode_in r e.modes).mode
      fell_mode events.PlainData = refl
      fell_mode events.PlainAck = refl
      fell_mode events.PlainHandshake = refl
      fell_mode _ = refl

  by_look : (r : Reply) → f.modes.mode ≡ (modes_told r e.modes).mode → Knows s x r e f
  by_look (replies.Control (control_replies.Standing mode standby sole notice)) = λ is. told call asked able (ap (λ (m : Mode). Some m) (sym is))
  by_look (replies.Control control_replies.Noted) = λ is. same is
  by_look _ = λ is. same is

  by_refusal : (r : Reply) → f.modes.mode ≡ mode_refused r e.modes.mode → Knows s x r e f
  by_refusal (replies.Control (control_replies.Never mode)) = λ is. told call asked able (ap (λ (m : Mode). Some m) (sym is))
  by_refusal (replies.Control (control_replies.Fallen mode)) = λ is. told call asked able (ap (λ (m : Mode). Some m) (sym is))
  by_refusal (replies.Control control_replies.Noted) = λ is. same is
  by_refusal _ = λ is. same is

keys_mode : (r : Reply) (o : Option KeyPair) (m : Modes) → (keys_in r o m).mode ≡ m.mode
keys_mode (replies.Control control_replies.Noted) (Some keys) m = refl
keys_mode (replies.Control control_replies.Noted) None m = refl
keys_mode _ o m = refl

-- a copy tells no mode
copy_mode : (m : Meaning) (joined : Bool) (options : List HeardOption) (items : List Heard) (state : State) (modes : Modes)
    → (asked_in m options (if joined then cleared_in m state (answered_in m items modes) else modes)).mode ≡ modes.mode
copy_mode m joined options items state modes = asked m _ ∙ by joined
  where
    asked : (m : Meaning) (n : Modes) → (asked_in m options n).mode ≡ n.mode
    asked means.Opens n = refl
    asked _ n = refl

    cleared : (m : Meaning) (n : Modes) → (cleared_in m state n).mode ≡ n.mode
    cleared (means.Taken position acknowledged) n = refl
    cleared _ n = refl

    with_one : (o : Option JoinAnswer) → (with_answer o modes).mode ≡ modes.mode
    with_one None = refl
    with_one (Some answer) = refl

    answer_mode : (m : Meaning) → (answered_in m items modes).mode ≡ modes.mode
    answer_mode (means.Accepts acknowledged) = with_one (join_answer items modes)
    answer_mode _ = refl

    by : (b : Bool) → (if b then cleared_in m state (answered_in m items modes) else modes).mode ≡ modes.mode
    by true = cleared m _ ∙ answer_mode m
    by false = refl

-- ---- a path

module _ {C : Type 0} (k : Codec C) (r : Reply) (p : PathState C) where
  own_goes : (s : Side) (x : Ask) (f : PathEnd) → Knows s x r (end_at s p) f → Knows s x r (end_at s p) (end_at s (goes_on s f [] p))
  own_goes s x f h = subst (λ (g : PathEnd). Knows s x r (end_at s p) g) (sym (own_end s f p.a p.b)) h

  fell_goes : (s : Side) (event : FallEvent) (f : PathEnd) → f.modes.mode ≡ (fell_in event r (end_at s p).modes).mode
      → Knows s (fell_ask s event p) r (end_at s p) (end_at s (goes_on s f [] p))
  fell_goes s event f is = own_goes s (fell_ask s event p) f (by_event s (fell_ask s event p) (end_at s p) f _ refl tt event r is)

  break_goes : (s : Side) (reason : ℕ) (x : Ask) → Knows s x r (end_at s p) (end_at s (answered_break k s reason r p))
  break_goes s reason x = elim (end_at s p).treated.asked as (λ b. Knows s x r (end_at s p) (end_at s (if b then answered_ack_out s r (resets s reason) p else reset_on k s (Some reason) (leaves s) p)))
      [ true ↦ own_goes s x _ (same refl) | false ↦ own_goes s x _ (same refl) ]

  item_goes : (s : Side) (o : Option Heard) → Knows s (item_ask k s o p) r (end_at s p) (end_at s (answered_item k s o r p))
  item_goes s None = same refl
  item_goes s (Some (says.DataAck next window)) = own_goes s _ _ (same refl)
  item_goes s (Some (says.Mapping fin)) = elim (is_clash (end_at s p)) as (λ b. Knows s (if b then break_ask k s 1 p else fell_ask s events.MappingHeard p) r (end_at s p)
      (end_at s (if b then answered_break k s 1 r p else goes_on s (with_learned (after_fell events.MappingHeard r (end_at s p))) (fell_duties s r p) p)))
      [ true ↦ break_goes s 1 _ | false ↦ fell_goes s events.MappingHeard _ refl ]
  item_goes s (Some (says.DataFin place)) = fell_goes s events.MappingHeard _ refl
  item_goes s (Some (says.InfiniteMapping place position)) =
      infinite_came_so (λ f. Knows s (fell_ask s events.InfiniteHeard p) r (end_at s p) (end_at s (goes_on s f (fell_duties s r p) p))) place position r (end_at s p) (λ other. fell_goes s events.InfiniteHeard _ refl)
  item_goes s (Some (says.Keys own other)) = own_goes s _ _ (same (keys_mode r (Some (record { own = own; peer = other })) (end_at s p).modes))
  item_goes s (Some (says.Notice notice)) = own_goes s _ _ (same refl)
  item_goes s (Some says.Fail) = elim (may_go_infinite (end_at s p)) as (λ b. Knows s (if b then asks.Send s (send_calls.GoInfinite (path_of p)) else fell_ask s (events.FailHeard false) p) r (end_at s p)
      (end_at s (if b then book_answered s r p else answered_fell s (events.FailHeard false) r p)))
      [ true ↦ own_goes s _ _ (same refl) | false ↦ fell_goes s (events.FailHeard false) _ refl ]
  item_goes s (Some (says.FastClose key)) = same refl
  item_goes s (Some _) = same refl

  begun_goes : (joining : PathState C) → joining.a ≡ p.a → (dead living : List Duty) → Knows A (join_begin_ask (path_of p)) r p.a (join_begun r dead living joining).a
  begun_goes joining is dead living = subst (λ (e : PathEnd). Knows A (join_begin_ask (path_of p)) r e (join_begun r dead living joining).a) is (by (is_never r))
    where
      opens : (o : Option KeyPair) → (opened_by o joining.a).modes.mode ≡ joining.a.modes.mode
      opens None = refl
      opens (Some keys) = refl

      by : (b : Bool) → Knows A (join_begin_ask (path_of p)) r joining.a (if b then goes_on A (never_joined r joining.a) dead joining else goes_on A (opened_by (keys_begun r) joining.a) living joining).a
      by true = by_refusal A (join_begin_ask (path_of p)) joining.a (never_joined r joining.a) _ refl tt r refl
      by false = same (opens (keys_begun r))

  join_goes : (s : Side) (o : Option JoinSyn) → Knows s (join_heard_ask s o p) r (end_at s p) (end_at s (join_taken s (keys_begun r) o r p))
  join_goes s (Some asked) = by (keys_begun r)
    where
      by : (keys : Option KeyPair) → Knows s (join_heard_ask s (Some asked) p) r (end_at s p) (end_at s (join_taken s keys (Some asked) r p))
      by (Some keys) = own_goes s (join_heard_ask s (Some asked) p) (joined_by keys asked (end_at s p)) (same refl)
      by None = own_goes s (join_heard_ask s (Some asked) p) (with_mode_refused r (end_at s p))
          (by_refusal s (join_heard_ask s (Some asked) p) (end_at s p) (with_mode_refused r (end_at s p)) (control_calls.JoinHeard (path_of p) asked.token) refl tt r refl)
  join_goes s None = by (keys_begun r)
    where
      by : (keys : Option KeyPair) → Knows s (join_heard_ask s None p) r (end_at s p) (end_at s (join_taken s keys None r p))
      by (Some keys) = same refl
      by None = same refl

  -- the other end of what goes on
  end_stays : (s t : Side) (f : PathEnd) (q : PathState C) → f.modes.mode ≡ (end_at s q).modes.mode → (end_at t (goes_on s f [] q)).modes.mode ≡ (end_at t q).modes.mode
  end_stays A A f q is = is
  end_stays A B f q is = refl
  end_stays B A f q is = refl
  end_stays B B f q is = is

  line_stays : (t : Side) (action : LineAction) (q : PathState C) → (end_at t (after_line action q)).modes.mode ≡ (end_at t q).modes.mode
  line_stays t (lines.Prio s backup) q = end_stays s t (with_priority backup (end_at s q)) q refl
  line_stays t (lines.Announce s id) q = refl
  line_stays t (lines.Withdraw s id) q = refl
  line_stays A lines.Die q = elim (is_dead q.a.tcp.state) as (λ b. (if b then q.a else died q.a).modes.mode ≡ q.a.modes.mode) [ true ↦ refl | false ↦ refl ]
  line_stays B lines.Die q = elim (is_dead q.b.tcp.state) as (λ b. (if b then q.b else died q.b).modes.mode ≡ q.b.modes.mode) [ true ↦ refl | false ↦ refl ]

  copy_stays : (t s : Side) (o : Option HeardSegment) (q : PathState C) → (end_at t (copy_heard s o q)).modes.mode ≡ (end_at t q).modes.mode
  copy_stays t s None q = refl
  copy_stays t s (Some h) q =
      let e : PathEnd = end_at s q in
      let heard : HeardSegment = options_heard e h in
      let m : Meaning = taken_as (judged_in (is_joined q.profile) s heard e) in
      end_stays s t (after_judged q.profile s q.clock heard (judged_in (is_joined q.profile) s heard e) e) q
      (copy_mode m (is_joined q.profile) heard.options (items_of (is_joined q.profile) s heard) (with_payload m heard.payload e.tcp).state e.modes)

  event_goes : (o : Option Event) → Knows A (step_for (path_of p) o) r p.a (happens_if k o r p).a
  event_goes None = same refl
  event_goes (Some (happenings.Joins tick)) = begun_goes (record (at_tick tick p) { joined_at = None }) refl (leaves A) (emission A)
  event_goes (Some (happenings.Takes line)) = same (line_stays A line.action (record (at_tick line.tick p) { lines = tail_of p.lines }))
  event_goes (Some (happenings.Arrives due)) = same (copy_stays A due.to (heard_in k due.to (arriving due p.link) p) (record (at_tick due.tick p) { link = after_delivery due p.link }))
  event_goes (Some (happenings.Fires s tick)) = same (end_stays s A _ (at_tick tick p) refl)

  event_stays : (o : Option Event) → (happens_if k o r p).b.modes.mode ≡ p.b.modes.mode
  event_stays None = refl
  event_stays (Some (happenings.Joins tick)) = elim (is_never r) as (λ b. (if b then goes_on A (never_joined r p.a) (leaves A) (record (at_tick tick p) { joined_at = None })
      else goes_on A (opened_by (keys_begun r) p.a) (emission A) (record (at_tick tick p) { joined_at = None })).b.modes.mode ≡ p.b.modes.mode) [ true ↦ refl | false ↦ refl ]
  event_stays (Some (happenings.Takes line)) = line_stays B line.action (record (at_tick line.tick p) { lines = tail_of p.lines })
  event_stays (Some (happenings.Arrives due)) = copy_stays B due.to (heard_in k due.to (arriving due p.link) p) (record (at_tick due.tick p) { link = after_delivery due p.link })
  event_stays (Some (happenings.Fires s tick)) = end_stays s B _ (at_tick tick p) refl

  -- ---- a duty

  unwritten_goes : (s : Side) (w : EndWrites) (x : Ask) (e f : PathEnd) → w.mode ≡ false → Only w e f → Knows s x r e f
  unwritten_goes s w x e f none only = same (unwritten w.mode e.modes.mode f.modes.mode none (ap (λ (v : EndView). v.mode) only.same))

  quiet_goes : (d : Duty) → (writes d).own.mode ≡ false → Knows (side_of d) (ask_for k d p) r (end_at (side_of d) p) (end_at (side_of d) (answered k d r p))
  quiet_goes d none = unwritten_goes (side_of d) (writes d).own (ask_for k d p) (end_at (side_of d) p) (end_at (side_of d) (answered k d r p)) none (record { same = ap (λ (v : PathView C). v.own) (writes_no_more k d r p).same })

  away_goes : (d : Duty) → (writes d).other.mode ≡ false → Knows (peer (side_of d)) (ask_for k d p) r (end_at (peer (side_of d)) p) (end_at (peer (side_of d)) (answered k d r p))
  away_goes d none =
      unwritten_goes (peer (side_of d)) (writes d).other (ask_for k d p) (end_at (peer (side_of d)) p) (end_at (peer (side_of d)) (answered k d r p)) none (record { same = ap (λ (v : PathView C). v.other) (writes_no_more k d r p).same })

  own_knows : (d : Duty) → Knows (side_of d) (ask_for k d p) r (end_at (side_of d) p) (end_at (side_of d) (answered k d r p))
  own_knows (duties.Step step_duties.Events) = event_goes (next_event p)
  own_knows (duties.Step (step_duties.Look s)) = own_goes s _ _ (by_look s _ (end_at s p) (after_look r (end_at s p)) _ refl tt r refl)
  own_knows (duties.Step (step_duties.Heard s index)) = item_goes s (item_of index (end_at s p))
  own_knows (duties.Step (step_duties.PlainAck s)) = elim (breaks_by_ack p.profile (end_at s p)) as (λ b. Knows s (if b then break_ask k s 6 p else fell_ask s events.PlainAck p) r (end_at s p)
      (end_at s (if b then answered_break k s 6 r p else goes_on s (with_plain_ack (after_fell events.PlainAck r (end_at s p))) (fell_duties s r p) p)))
      [ true ↦ break_goes s 6 _ | false ↦ fell_goes s events.PlainAck _ refl ]
  own_knows (duties.Ask ask_duties.JoinAgain) = begun_goes p refl _ _
  own_knows (duties.Ask (ask_duties.PlainHandshake s)) = fell_goes s events.PlainHandshake _ refl
  own_knows (duties.Ask (ask_duties.PeerKey s)) = by (key_heard (end_at s p).treated.items)
    where
      by : (o : Option ℕ) → Knows s (peer_key_ask s o p) r (end_at s p) (end_at s (answered_peer_key s o r p))
      by None = fell_goes s events.PlainHandshake (after_fell events.PlainHandshake r (end_at s p)) refl
      by (Some key) = own_goes s (peer_key_ask s (Some key) p) (with_peer_key (Some key) (end_at s p)) (same refl)
  own_knows (duties.Ask (ask_duties.JoinHeard s)) = join_goes s (asked_at s p)
  own_knows (duties.Ask (ask_duties.Opened s)) = by (keys_heard (end_at s p).treated.items)
    where
      by : (o : Option KeyPair) → Knows s (opened_ask s o p) r (end_at s p) (end_at s (answered_opened s o r p))
      by None = fell_goes s events.PlainHandshake (after_fell events.PlainHandshake r (end_at s p)) refl
      by (Some keys) = own_goes s (opened_ask s (Some keys) p) (after_keys r (Some keys) (end_at s p)) (same (keys_mode r (Some keys) (end_at s p).modes))
  own_knows (duties.Ask (ask_duties.AckHeard s)) = fell_goes s events.AckHeard _ refl
  own_knows (duties.Ask (ask_duties.PlainData s)) = fell_goes s events.PlainData _ refl
  own_knows (duties.Ask (ask_duties.FailHeard s)) =
      fail_heard_so (λ f. Knows s (fail_heard_ask s p) r (end_at s p) (end_at s (goes_on s f (fell_duties s r p) p))) r (end_at s p) (λ own owes. fell_goes s (events.FailHeard (is_some (end_at s p).treated.infinite_mapping)) _ refl)
  own_knows (duties.Ask (ask_duties.CheckFailed s)) =
      check_failed_so (λ f. Knows s (fell_ask s events.CheckFailed p) r (end_at s p) (end_at s (goes_on s f (fell_duties s r p) p))) p.profile.spelling.checksums r (end_at s p)
      (λ told broken recv forgets. fell_goes s events.CheckFailed _ refl)
  own_knows (duties.Send (send_duties.Update s)) = quiet_goes (duties.Send (send_duties.Update s)) refl
  own_knows (duties.Silent (silent_duties.Timer s)) = quiet_goes (duties.Silent (silent_duties.Timer s)) refl
  own_knows d = quiet_goes d refl

  other_knows : (d : Duty) → Knows (peer (side_of d)) (ask_for k d p) r (end_at (peer (side_of d)) p) (end_at (peer (side_of d)) (answered k d r p))
  other_knows (duties.Step step_duties.Events) = same (event_stays (next_event p))
  other_knows (duties.Step (step_duties.Data s)) = away_goes (duties.Step (step_duties.Data s)) refl
  other_knows (duties.Ask ask_duties.JoinAgain) = away_goes (duties.Ask ask_duties.JoinAgain) refl
  other_knows (duties.Send (send_duties.Update s)) = away_goes (duties.Send (send_duties.Update s)) refl
  other_knows (duties.Silent (silent_duties.Timer s)) = away_goes (duties.Silent (silent_duties.Timer s)) refl
  other_knows d = away_goes d refl

  pub answered_knows : (d : Duty) (t : Side) → Knows t (ask_for k d p) r (end_at t p) (end_at t (answered k d r p))
  answered_knows d t = ⊎_elim
      (λ own. subst (λ u. Knows u (ask_for k d p) r (end_at u p) (end_at u (answered k d r p))) own (own_knows d))
      (λ away. subst (λ u. Knows u (ask_for k d p) r (end_at u p) (end_at u (answered k d r p))) away (other_knows d))
      (sides t (side_of d))

-- ---- the world

-- what is passed tells no mode
settled_mode : {C : Type 0} (ds : List Duty) (p : PathState C) (s : Side) → (end_at s (settled ds p)).modes.mode ≡ (end_at s p).modes.mode
settled_mode [] p s = refl
settled_mode (d ∷ ds) p s = by (stands d p) (settled_mode ds (passed d p) s ∙ (passed_rests s d p).mode)
  where
    by : (b : Bool) → (end_at s (settled ds (passed d p))).modes.mode ≡ (end_at s p).modes.mode
        → (end_at s (if b then with_agenda (d ∷ ds) p else settled ds (passed d p))).modes.mode ≡ (end_at s p).modes.mode
    by true rest = refl
    by false rest = rest

control_after : (s : Side) (call : ControlCall) (six : SixBooks) → control_of s (after_ask (asks.Control s call) six) ≡ controlling.after (control_of s six) call
control_after A call six = refl
control_after B call six = refl

module _ {C : Type 0} (k : Codec C) (such : Mode → Bool) (first : such Starting ≡ false) where
  -- a mode that an end knows was that of its side
  abbrev PathKnew : StampedBooks → PathState C → Type 0
  PathKnew books p = (s : Side) → such (end_at s p).modes.mode ≡ true → Was such books s

  abbrev MemberKnew : StampedBooks → Actor C → Type 0
  MemberKnew books = HoldsOfKind (λ app. Unit {0}) (PathKnew books)

  record AllKnew (w : WorldState C) : Type 0 where
    each : (actor : ℕ) (c : ActorCrew C) → slice_get w.crew actor ≡ Some c → MemberKnew w.books c.member

  -- after an ask of another one
  stays_known : (x : Ask) (pass : Pass) (books : StampedBooks) (m : Actor C) → MemberKnew books m → MemberKnew (after_entry x pass books) m
  stays_known x pass books (App a) h = tt
  stays_known x pass books (Path p) h = λ s is. was_stays such x pass books s (h s is)

  -- after its own
  takes_known : (x : Ask) (pass : Pass) (books : StampedBooks) (m : Actor C) → member_asks k m ≡ Some x → MemberKnew books m → MemberKnew (after_entry x pass books) (member_takes k (answer_to books x) m)
  takes_known x pass books (App a) = λ asked h. tt
  takes_known x pass books (Path p) = by p.agenda
    where
      by : (ds : List Duty) → asks_first k ds p ≡ Some x → PathKnew books p → PathKnew (after_entry x pass books) (settles_down (answers k ds (answer_to books x) p))
      by [] is h s such_is = cc
      by (d ∷ ds) is h s such_is = by_ask (subst (λ y. Knows s y r (end_at s p) (end_at s q)) (same_Some (ask_for k d p) x is) (answered_knows k r p d s))
        where
          r : Reply
          r = answer_to books x

          q : PathState C
          q = answered k d r p

          mode : such (end_at s q).modes.mode ≡ true
          mode = ap such (sym (settled_mode q.agenda q s)) ∙ such_is

          by_ask : Knows s x r (end_at s p) (end_at s q) → Was such (after_entry x pass books) s
          by_ask (same is) = was_stays such x pass books s (h s (ap such (sym is) ∙ mode))
          by_ask (told call asked able is) =
              let six : SixBooks = books_in books in
              let now : (controlling.after (control_of s six) call).fall.mode ≡ (end_at s q).modes.mode =
              call_tells (control_of s six) call able (end_at s q).modes.mode (subst (λ y. mode_told (reply_of six y) ≡ Some (end_at s q).modes.mode) asked is) in
              let after : control_of s (books_in (after_entry x pass books)) ≡ controlling.after (control_of s six) call =
              ap (λ (b : SixBooks). control_of s b) (books_after x pass books) ∙ ap (λ y. control_of s (after_ask y six)) asked ∙ control_after s call six in
              was_now such (after_entry x pass books) s (ap (λ (c : Control). such c.fall.mode) after ∙ ap such now ∙ mode)

  next_known : (books : StampedBooks) (m : Actor C) → MemberKnew books m → MemberKnew books (member_next m)
  next_known books (App a) h = tt
  next_known books (Path p) h = λ s is. h s (ap such (sym (settled_mode start_of_turn (with_agenda start_of_turn (record p { clock = p.until; until = p.until + 100 })) s)) ∙ is)

  run_known : (turns : List Turn) (w : WorldState C) → AllKnew w → AllKnew (world_run k turns w)
  run_known = run_so k AllKnew
      (λ w h actor c x there is. record {
        each = λ i d at. ⊎_elim
            (λ here. subst (λ (y : ActorCrew C). MemberKnew (after_entry x c.pass w.books) y.member) here.1 (takes_known x c.pass w.books c.member is (h.each actor c there)))
            (λ other. stays_known x c.pass w.books d.member (h.each i d other.1))
            (in_set w.crew actor (crew_after k x w.books c) i d at);
      })
      (λ w h over. record {
        each = λ i d at. (let found = in_map (begins (greatest 0 w.crew)) w.crew i d at in subst (λ (y : ActorCrew C). MemberKnew w.books y.member) found.2 (next_known w.books found.0.member (h.each i found.0 found.1)));
      })

  opened_known : (start : Start) → AllKnew (opened_world start)
  opened_known start = record { each = (opened_lifted (λ (c : ActorCrew C). MemberKnew (opened_world {C = C} start).books c.member) start tt tt (λ number plan there. begun (path_begins start number plan))).each }
    where
      begun : (begin : PathStart) → PathKnew (opened_world {C = C} start).books (first_turn {C = C} begin start.lines)
      begun begin s is =
          let p : PathState C = waiting_path begin start.lines in
          absurd (true≢false (sym (ap such (sym (settled_mode start_of_turn (with_agenda start_of_turn p) s ∙ mode s)) ∙ is) ∙ first))
        where
          mode : (s : Side) → (end_at s (waiting_path {C = C} begin start.lines)).modes.mode ≡ Starting
          mode A = refl
          mode B = refl

pub ends_know_what_was : {C : Type 0} (k : Codec C) → EndsKnowWhatWas k
ends_know_what_was k such first start turns actor c there = (run_known k such first turns (opened_world start) (opened_known k such first start)).each actor c there

-- no side of a mild connection falls back
pub no_end_knows_of_a_fallback : NoEndKnowsOfAFallback
no_end_knows_of_a_fallback start turns mild actor c there = by c.member (ends_know_what_was values is_fallen_back refl start turns actor c there)
  where
    w : WorldState Carried
    w = world_run values turns (opened_world start)

    by : (m : Actor Carried) → HoldsOfKind (λ app. Unit {0}) (λ (p : PathState Carried). (s : Side) → is_fallen_back (end_at s p).modes.mode ≡ true → was_ever is_fallen_back s w ≡ true) m
        → HoldsOfKind (λ app. Unit {0}) (λ (p : PathState Carried). (s : Side) → is_fallen_back (end_at s p).modes.mode ≡ false) m
    by (App a) knew = tt
    by (Path p) knew = λ s. never (is_fallen_back (end_at s p).modes.mode) (λ is. absurd (true≢false (sym (knew s is) ∙ sides_never_fall start turns mild.plain mild.strips s)))
      where
        never : (b : Bool) → (b ≡ true → ⊥) → b ≡ false
        never true not_so = absurd (not_so refl)
        never false not_so = refl
