-- The rows that a note tells are in range, in every connection: a path tells its window and its round-trip time within their ranges.
use Rattle.std.proofs.Common.{◌≡◌, refl, sym, subst, ℕ, ◌+◌, ◌<◌, ⊎_elim, Bool, true, false, if◌then◌else◌, Option, Some, None, List, [], ◌∷◌, map, arith, length, ◌≤◌}
use Rattle.std.proofs.lemmas.Option.{same_Some, slice_get_within}
use Rattle.std.specs.List.{slice_get}
use Rattle.sides.specs.declared.side.Side.{Side}
use Rattle.sides.specs.declared.side.Side.TheVariants.{A, B}
use Rattle.subflow_send.specs.Records.{Record}
use Rattle.loss_recovery.specs.declared.windows.Pending.{Pending}
use Rattle.reassembly_book.specs.declared.call.ReassemblyCall.TheVariants as reassembly_calls
use Rattle.fallback_state.specs.declared.fall.Event.TheVariants as events
use Rattle.control_book.specs.declared.call.ControlCall.{ControlCall}
use Rattle.control_book.specs.declared.call.ControlCall.TheVariants as control_calls
use Rattle.control_book.specs.declared.call.ControlReply.{ControlReply}
use Rattle.control_book.specs.declared.call.ControlReply.TheVariants as control_replies
use Rattle.control_book.specs.Calls.{can_ask}
use Rattle.control_book.specs.Laws.{RowsAreRight}
use Rattle.control_book.proofs.RowsRight.{right_once, rows_stay_right}
use Rattle.stream_lanes.specs.Words.{Every}
use Rattle.stream_lanes.proofs.Lists.{in_set, in_map}
use Rattle.actor_desk.specs.declared.ask.Ask.{Ask}
use Rattle.actor_desk.specs.declared.ask.Ask.TheVariants as asks
use Rattle.actor_desk.specs.declared.ask.Note.{Note}
use Rattle.actor_desk.specs.declared.ask.Reply.{Reply}
use Rattle.actor_desk.specs.declared.ask.Reply.TheVariants as replies
use Rattle.actor_desk.specs.Books.{books_in}
use Rattle.actor_desk.specs.Bounds.{IsSmallControl}
use Rattle.actor_desk.specs.Desk.{SixBooks, reply_of, after_ask}
use Rattle.actor_desk.specs.Kinds.{IsControlKind}
use Rattle.actor_desk.proofs.Small.{control_small}
use Rattle.stream_apps.specs.declared.duty.AppDuty.{AppDuty}
use Rattle.stream_apps.specs.declared.duty.AppDuty.TheVariants as app_duties
use Rattle.stream_apps.specs.Apps.{AppState}
use Rattle.stream_apps.specs.AppSteps.{app_ask, app_asks_first}
use Rattle.path_agenda.specs.declared.duty.Duty.{Duty}
use Rattle.path_agenda.specs.declared.duty.Duty.TheVariants as duties
use Rattle.path_agenda.specs.declared.duty.AskDuty.TheVariants as ask_duties
use Rattle.path_agenda.specs.declared.duty.SendDuty.TheVariants as send_duties
use Rattle.path_agenda.specs.declared.duty.SilentDuty.TheVariants as silent_duties
use Rattle.path_agenda.specs.declared.duty.StepDuty.TheVariants as step_duties
use Rattle.path_core.specs.declared.events.Event.{Event}
use Rattle.path_core.specs.declared.events.Event.TheVariants as happening
use Rattle.path_agenda.specs.declared.heard.Heard.{Heard}
use Rattle.path_agenda.specs.declared.heard.Heard.TheVariants as says
use Rattle.path_agenda.specs.declared.keys.KeyPair.{KeyPair}
use Rattle.path_agenda.specs.declared.notice.PeerNotice.{PeerNotice}
use Rattle.path_agenda.specs.declared.notice.PeerNotice.TheVariants as notes
use Rattle.path_core.specs.Addresses.{notice_ask}
use Rattle.path_core.specs.Breaking.{break_ask, reset_of}
use Rattle.path_core.specs.Codec.{Codec}
use Rattle.path_core.specs.Duties.{ask_for}
use Rattle.path_core.specs.Emission.{first_unsent, data_ask}
use Rattle.path_core.specs.Events.{next_event, step_for}
use Rattle.path_core.specs.MpJoin.{join_heard_ask, asked_at}
use Rattle.join_handshake.specs.declared.hearing.JoinSyn.{JoinSyn}
use Rattle.path_agenda.specs.Items.{key_heard, keys_heard}
use Rattle.path_core.specs.MpCapable.{peer_key_ask, opened_ask}
use Rattle.path_core.specs.Deliver.{piece_of, piece_ask}
use Rattle.path_core.specs.DataFin.{data_fin_of, fin_ask, place_of_fin}
use Rattle.path_core.specs.Rate.{rate_ask}
use Rattle.path_store.specs.Passing.{Piece}
use Rattle.path_core.specs.Handover.{sends}
use Rattle.path_core.specs.Start.{waiting_path}
use Rattle.path_core.specs.State.{PathState, end_at, path_of}
use Rattle.path_core.specs.Steps.{asks_first, begins_turn}
use Rattle.path_core.specs.DssIn.{is_clash, mapping_ask}
use Rattle.path_core.specs.Fallback.{fell_ask, breaks_by_ack, plain_ack_ask}
use Rattle.path_core.specs.Treating.{item_ask, item_of}
use Rattle.run_log.specs.Laws.{HasRowsInRange}
use Rattle.world_laws.specs.declared.member.Member.TheVariants.{App, Path}
use Rattle.world_laws.specs.Actors.{Actor, ActorCrew, member_asks, member_takes, member_next}
use Rattle.world_laws.specs.Openings.{Start, path_begins, opened_world}
use Rattle.world_laws.specs.StampedBooks.{answer_to}
use Rattle.world_laws.specs.Worlds.{WorldState, Turn, note_of, crew_after, asked, stepped, world_step, all_over, greatest, begins, end_round, after_turn, world_run}
use Rattle.world_laws.proofs.Weaving.Journals.{books_after}
use Rattle.world_laws.proofs.Weaving.Occurring.{In, in_grown}
use Rattle.world_laws.proofs.Rounds.Frame.{takes_keeps, first_keeps}
use Rattle.world_laws.proofs.Rounds.Lifting.{opened_lifted}
use Rattle.world_laws.proofs.Rounds.ReplyKinds.{control_kind}
use Rattle.world_laws.proofs.Falls.FailedChecks.{fail_asks_so, subflow_acks_so}

-- ---- what is asked

-- a call of a control book meets its conditions
abbrev IsFair : Ask → Type 0
IsFair (asks.Control s call) = can_ask call
IsFair _ = Unit {0}

app_asks_fair : (d : AppDuty) (a : AppState) → IsFair (app_ask d a)
app_asks_fair app_duties.FastClose a = tt
app_asks_fair app_duties.AbortSend a = tt
app_asks_fair app_duties.AbortReceive a = tt
app_asks_fair app_duties.Write a = tt
app_asks_fair app_duties.Close a = tt
app_asks_fair app_duties.Read a = tt
app_asks_fair app_duties.End a = tt

module _ {C : Type 0} (k : Codec C) (p : PathState C) (low : path_of p < 16) where
  data_fair : (s : Side) (o : Option Record) → IsFair (data_ask k s o p)
  data_fair s None = tt
  data_fair s (Some r) = tt

  event_fair : (o : Option Event) → IsFair (step_for (path_of p) o)
  event_fair None = tt
  event_fair (Some (happening.Takes line)) = tt
  event_fair (Some (happening.Arrives due)) = tt
  event_fair (Some (happening.Fires s tick)) = tt
  event_fair (Some (happening.Joins tick)) = low

  join_heard_fair : (s : Side) (o : Option JoinSyn) → IsFair (join_heard_ask s o p)
  join_heard_fair s None = tt
  join_heard_fair s (Some asked) = low

  key_fair : (s : Side) (o : Option ℕ) → IsFair (peer_key_ask s o p)
  key_fair s None = low
  key_fair s (Some key) = tt

  opens_fair : (s : Side) (o : Option KeyPair) → IsFair (opened_ask s o p)
  opens_fair s None = low
  opens_fair s (Some keys) = tt

  break_fair : (s : Side) (reason : ℕ) → IsFair (break_ask k s reason p)
  break_fair s reason = by (end_at s p).treated.asked
    where
      by : (b : Bool) → IsFair (if b then asks.Reassembly s reassembly_calls.AckOut else sends k s (reset_of s (Some reason) p) p)
      by true = tt
      by false = tt

  mapping_fair : (s : Side) → IsFair (mapping_ask k s p)
  mapping_fair s = by (is_clash (end_at s p))
    where
      by : (b : Bool) → IsFair (if b then break_ask k s 1 p else fell_ask s events.MappingHeard p)
      by true = break_fair s 1
      by false = low

  plain_ack_fair : (s : Side) → IsFair (plain_ack_ask k s p)
  plain_ack_fair s = by (breaks_by_ack p.profile (end_at s p))
    where
      by : (b : Bool) → IsFair (if b then break_ask k s 6 p else fell_ask s events.PlainAck p)
      by true = break_fair s 6
      by false = low

  note_fair : (s : Side) (notice : PeerNotice) → IsFair (notice_ask s notice p)
  note_fair s (notes.AddAddr id address port hmac) = tt
  note_fair s (notes.AddEcho id) = tt
  note_fair s (notes.Removed id) = tt
  note_fair s (notes.Prio backup) = low

  item_fair : (s : Side) (o : Option Heard) → IsFair (item_ask k s o p)
  item_fair s None = tt
  item_fair s (Some says.Dss) = tt
  item_fair s (Some (says.DataAck next window)) = tt
  item_fair s (Some (says.Mapping fin)) = mapping_fair s
  item_fair s (Some (says.DataFin place)) = low
  item_fair s (Some (says.InfiniteMapping place position)) = low
  item_fair s (Some (says.PeerKey key)) = tt
  item_fair s (Some (says.Keys own peer)) = tt
  item_fair s (Some (says.Join form)) = tt
  item_fair s (Some (says.Notice notice)) = note_fair s notice
  item_fair s (Some says.Fail) = fail_asks_so IsFair s p tt low
  item_fair s (Some (says.FastClose key)) = tt

  piece_fair : (s : Side) (o : Option Piece) → IsFair (piece_ask s o)
  piece_fair s None = tt
  piece_fair s (Some piece) = tt

  fin_fair : (s : Side) (o : Option ℕ) → IsFair (fin_ask s o)
  fin_fair s None = tt
  fin_fair s (Some place) = tt

  rate_fair : (s : Side) (o : Option Pending) → IsFair (rate_ask s o p)
  rate_fair s None = tt
  rate_fair s (Some pending) = (low, omega arith, omega arith, omega arith, omega arith)

  path_asks_fair : (d : Duty) → IsFair (ask_for k d p)
  path_asks_fair (duties.Ask ask_duties.JoinAgain) = low
  path_asks_fair (duties.Ask (ask_duties.JoinHeard s)) = join_heard_fair s (asked_at s p)
  path_asks_fair (duties.Send (send_duties.Refuse s)) = tt
  path_asks_fair (duties.Step (step_duties.PlainAck s)) = plain_ack_fair s
  path_asks_fair (duties.Step (step_duties.Look s)) = low
  path_asks_fair (duties.Step (step_duties.Data s)) = data_fair s (first_unsent (end_at s p))
  path_asks_fair (duties.Silent (silent_duties.Timer s)) = tt
  path_asks_fair (duties.Step step_duties.Events) = event_fair (next_event p)
  path_asks_fair (duties.Ask (ask_duties.PlainHandshake s)) = low
  path_asks_fair (duties.Ask (ask_duties.PeerKey s)) = key_fair s (key_heard (end_at s p).treated.items)
  path_asks_fair (duties.Ask (ask_duties.Opened s)) = opens_fair s (keys_heard (end_at s p).treated.items)
  path_asks_fair (duties.Ask (ask_duties.Live s)) = low
  path_asks_fair (duties.Step (step_duties.Heard s index)) = item_fair s (item_of index (end_at s p))
  path_asks_fair (duties.Ask (ask_duties.AckHeard s)) = low
  path_asks_fair (duties.Ask (ask_duties.FailHeard s)) = low
  path_asks_fair (duties.Ask (ask_duties.SubflowAck s)) = subflow_acks_so IsFair s (end_at s p) tt (λ next. tt)
  path_asks_fair (duties.Ask (ask_duties.PlainData s)) = low
  path_asks_fair (duties.Ask (ask_duties.Edge s)) = piece_fair s (piece_of s p)
  path_asks_fair (duties.Ask (ask_duties.CheckFailed s)) = low
  path_asks_fair (duties.Step (step_duties.Unmapped s)) = break_fair s 6
  path_asks_fair (duties.Ask (ask_duties.HeardFin s index)) = fin_fair s (data_fin_of index (end_at s p))
  path_asks_fair (duties.Ask (ask_duties.SubflowFin s)) = fin_fair s (place_of_fin (end_at s p))
  path_asks_fair (duties.Ask (ask_duties.Rate s)) = rate_fair s (end_at s p).tcp.congestion.pending
  path_asks_fair (duties.Ask (ask_duties.Dead s)) = low
  path_asks_fair _ = tt

-- ---- what is answered

-- rows are told to `Rate` alone, and are in range then
rows_of_reply : (call : ControlCall) (reply : ControlReply) → IsControlKind call reply → IsSmallControl call reply → HasRowsInRange (replies.Control reply)
rows_of_reply (control_calls.Look path) (control_replies.Rows rows) kind small = absurd kind
rows_of_reply (control_calls.PeerKey key) (control_replies.Rows rows) kind small = absurd kind
rows_of_reply (control_calls.Keys own peer) (control_replies.Rows rows) kind small = absurd kind
rows_of_reply (control_calls.Fell path event) (control_replies.Rows rows) kind small = absurd kind
rows_of_reply (control_calls.JoinBegin path) (control_replies.Rows rows) kind small = absurd kind
rows_of_reply (control_calls.JoinHeard path token) (control_replies.Rows rows) kind small = absurd kind
rows_of_reply (control_calls.Live path backup) (control_replies.Rows rows) kind small = absurd kind
rows_of_reply (control_calls.Dead path) (control_replies.Rows rows) kind small = absurd kind
rows_of_reply (control_calls.Backup path on) (control_replies.Rows rows) kind small = absurd kind
rows_of_reply (control_calls.Announce id) (control_replies.Rows rows) kind small = absurd kind
rows_of_reply (control_calls.Withdraw id) (control_replies.Rows rows) kind small = absurd kind
rows_of_reply (control_calls.Heard id address port hmac) (control_replies.Rows rows) kind small = absurd kind
rows_of_reply (control_calls.Echoed id) (control_replies.Rows rows) kind small = absurd kind
rows_of_reply (control_calls.Removed id) (control_replies.Rows rows) kind small = absurd kind
rows_of_reply control_calls.FastClose (control_replies.Rows rows) kind small = absurd kind
rows_of_reply (control_calls.FastHeard key) (control_replies.Rows rows) kind small = absurd kind
rows_of_reply (control_calls.Rate path window rtt) (control_replies.Rows rows) kind small = small.in_range
rows_of_reply call _ kind small = tt

-- both control books keep rows that are right
record AreRight (six : SixBooks) : Type 0 where
  a : RowsAreRight six.control_a.paths
  b : RowsAreRight six.control_b.paths

reply_in_range : (six : SixBooks) (x : Ask) → IsFair x → AreRight six → HasRowsInRange (reply_of six x)
reply_in_range six (asks.Send s call) fair h = tt
reply_in_range six (asks.Reassembly s call) fair h = tt
reply_in_range six (asks.Control A call) fair h = rows_of_reply call _ (control_kind six.control_a call) (control_small six.control_a call h.a fair)
reply_in_range six (asks.Control B call) fair h = rows_of_reply call _ (control_kind six.control_b call) (control_small six.control_b call h.b fair)
reply_in_range six (asks.Local step) fair h = tt

ask_right : (six : SixBooks) (x : Ask) → IsFair x → AreRight six → AreRight (after_ask x six)
ask_right six (asks.Send s call) fair h = record { a = h.a; b = h.b }
ask_right six (asks.Reassembly s call) fair h = record { a = h.a; b = h.b }
ask_right six (asks.Control A call) fair h = record { a = right_once six.control_a call fair h.a; b = h.b }
ask_right six (asks.Control B call) fair h = record { a = h.a; b = right_once six.control_b call fair h.b }
ask_right six (asks.Local step) fair h = h

-- ---- a world

apps_ask : (ds : List AppDuty) (a : AppState) (x : Ask) → app_asks_first ds a ≡ Some x → IsFair x
apps_ask [] a x is = cc
apps_ask (d ∷ ds) a x is = subst IsFair (same_Some (app_ask d a) x is) (app_asks_fair d a)

no_notes : (n : Note) → In n [] → HasRowsInRange n.reply
no_notes n none = absurd none

module _ {C : Type 0} where
  -- a path has one of sixteen numbers
  abbrev IsFairMember : Actor C → Type 0
  IsFairMember (App a) = Unit {0}
  IsFairMember (Path p) = path_of p < 16

  record IsFairCrew (c : ActorCrew C) : Type 0 where
    member : IsFairMember c.member
    notes : (n : Note) → In n c.list → HasRowsInRange n.reply

  record IsFairWorld (w : WorldState C) : Type 0 where
    crew : Every IsFairCrew w.crew
    books : AreRight (books_in w.books)

  paths_ask : (k : Codec C) (p : PathState C) → path_of p < 16 → (ds : List Duty) (x : Ask) → asks_first k ds p ≡ Some x → IsFair x
  paths_ask k p low [] x is = cc
  paths_ask k p low (d ∷ ds) x is = subst IsFair (same_Some (ask_for k d p) x is) (path_asks_fair k p low d)

  asks_fair : (k : Codec C) (m : Actor C) (x : Ask) → member_asks k m ≡ Some x → IsFairMember m → IsFair x
  asks_fair k (App a) x is h = apps_ask a.agenda a x is
  asks_fair k (Path p) x is h = paths_ask k p h p.agenda x is

  takes_fair : (k : Codec C) (r : Reply) (m : Actor C) → IsFairMember m → IsFairMember (member_takes k r m)
  takes_fair k r (App a) h = tt
  takes_fair k r (Path p) h = let kept = takes_keeps k r p in subst (λ n. n < 16) (sym kept.2) h

  begun_fair : (p : PathState C) → path_of p < 16 → path_of (begins_turn p) < 16
  begun_fair p h = let kept = first_keeps p in subst (λ n. n < 16) (sym kept.2) h

  next_fair : (m : Actor C) → IsFairMember m → IsFairMember (member_next m)
  next_fair (App a) h = tt
  next_fair (Path p) h = begun_fair (record p { clock = p.until; until = p.until + 100 }) h

  asked_fair : (k : Codec C) (actor : ℕ) (w : WorldState C) (c : ActorCrew C) (x : Ask) → slice_get w.crew actor ≡ Some c → member_asks k c.member ≡ Some x
      → IsFairWorld w → IsFairWorld (asked k actor (Some x) c w)
  asked_fair k actor w c x there is h =
      let own = h.crew.each actor c there in
      let fair : IsFair x = asks_fair k c.member x is own.member in
      let told : HasRowsInRange (answer_to w.books x) = reply_in_range (books_in w.books) x fair h.books in
      let next : IsFairCrew (crew_after k x w.books c) = record {
        member = takes_fair k (answer_to w.books x) c.member own.member;
        notes = λ n at. ⊎_elim (λ old. own.notes n old) (λ new. subst (λ m. HasRowsInRange m.reply) new told) (in_grown c.list (note_of w.books c.pass x) n at);
      } in
      record {
        crew = record {
          each = λ i d at. ⊎_elim
              (λ same. subst IsFairCrew same.1 next)
              (λ other. h.crew.each i d other.1)
              (in_set w.crew actor (crew_after k x w.books c) i d at);
        };
        books = subst AreRight (sym (books_after x c.pass w.books)) (ask_right (books_in w.books) x fair h.books);
      }

  step_fair : (k : Codec C) (actor : ℕ) (w : WorldState C) → IsFairWorld w → IsFairWorld (world_step k actor w)
  step_fair k actor w h = by (slice_get w.crew actor) refl
    where
      asks : (c : ActorCrew C) → slice_get w.crew actor ≡ Some c → (o : Option Ask) → member_asks k c.member ≡ o → IsFairWorld (asked k actor o c w)
      asks c there None is = h
      asks c there (Some x) is = asked_fair k actor w c x there is h

      by : (o : Option (ActorCrew C)) → slice_get w.crew actor ≡ o → IsFairWorld (stepped k actor o w)
      by None there = h
      by (Some c) there = asks c there (member_asks k c.member) refl

  round_fair : (w : WorldState C) → IsFairWorld w → IsFairWorld (end_round w)
  round_fair w h = by (all_over w.crew)
    where
      by : (b : Bool) → IsFairWorld (if b then record w { crew = map (begins (greatest 0 w.crew)) w.crew } else w)
      by true = record {
        crew = record {
          each = λ i d at.
              let found = in_map (begins (greatest 0 w.crew)) w.crew i d at in
              let was = h.crew.each i found.0 found.1 in
              subst IsFairCrew found.2 (record { member = next_fair found.0.member was.member; notes = was.notes });
        };
        books = h.books;
      }
      by false = h

  turn_fair : (k : Codec C) (turn : Turn) (w : WorldState C) → IsFairWorld w → IsFairWorld (after_turn k turn w)
  turn_fair k (Turn.Step actor) w h = step_fair k actor w h
  turn_fair k Turn.Round w h = round_fair w h

  run_fair : (k : Codec C) (turns : List Turn) (w : WorldState C) → IsFairWorld w → IsFairWorld (world_run k turns w)
  run_fair k [] w h = h
  run_fair k (turn ∷ turns) w h = run_fair k turns (after_turn k turn w) (turn_fair k turn w h)

  opened_fair : (start : Start) → length start.paths ≤ 16 → IsFairWorld (opened_world {C = C} start)
  opened_fair start few = record {
    crew = opened_lifted IsFairCrew start (record { member = tt; notes = no_notes }) (record { member = tt; notes = no_notes })
        (λ number plan there. record {
          member = begun_fair (waiting_path (path_begins start number plan) start.lines)
              (let within = slice_get_within start.paths number plan there in omega (arith, within, few));
          notes = no_notes;
        });
    books = record { a = rows_stay_right [] A start.key_a tt; b = rows_stay_right [] B start.key_b tt };
  }

  -- in each connection
  pub rows_in_range : (k : Codec C) (start : Start) (few : length start.paths ≤ 16) (turns : List Turn) (actor : ℕ) (c : ActorCrew C) → slice_get (world_run k turns (opened_world start)).crew actor ≡ Some c
      → (n : Note) → In n c.list → HasRowsInRange n.reply
  rows_in_range k start few turns actor c there = ((run_fair k turns (opened_world start) (opened_fair start few)).crew.each actor c there).notes
