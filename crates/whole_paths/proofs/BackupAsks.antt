-- A step tells that the path is a backup only where an end heard so.
use Rattle.std.proofs.Common.{◌≡◌, refl, subst, ℕ, zero, suc, Bool, true, false, if◌then◌else◌, Option, Some, None, List, [], ◌∷◌}
use Rattle.std.specs.List.{list_any}
use Rattle.std.proofs.lemmas.Bool.{or_parts}
use Rattle.sides.specs.declared.side.Side.{Side}
use Rattle.subflow_send.specs.Records.{Record}
use Rattle.actor_desk.specs.declared.ask.Ask.{Ask}
use Rattle.actor_desk.specs.declared.ask.Ask.TheVariants as asks
use Rattle.path_agenda.specs.declared.duty.Duty.{Duty}
use Rattle.path_agenda.specs.declared.duty.Duty.TheVariants as duties
use Rattle.path_agenda.specs.declared.duty.AskDuty.TheVariants as ask_duties
use Rattle.path_agenda.specs.declared.duty.SendDuty.{SendDuty}
use Rattle.path_agenda.specs.declared.duty.SendDuty.TheVariants as send_duties
use Rattle.path_agenda.specs.declared.duty.StepDuty.TheVariants as step_duties
use Rattle.path_agenda.specs.declared.heard.Heard.{Heard}
use Rattle.path_agenda.specs.declared.heard.Heard.TheVariants as says
use Rattle.path_agenda.specs.declared.notice.PeerNotice.{PeerNotice}
use Rattle.path_agenda.specs.declared.notice.PeerNotice.TheVariants as notes
use Rattle.path_core.specs.Addresses.{notice_ask}
use Rattle.path_core.specs.Breaking.{break_ask, reset_of}
use Rattle.path_core.specs.Choices.{item_at}
use Rattle.path_core.specs.DssIn.{is_clash}
use Rattle.path_core.specs.DataFin.{data_fin_of, fin_ask, place_of_fin}
use Rattle.path_core.specs.Deliver.{piece_ask, piece_of}
use Rattle.path_core.specs.Duties.{ask_for}
use Rattle.path_core.specs.Emission.{data_ask, first_unsent}
use Rattle.path_core.specs.End.{PathEnd}
use Rattle.path_core.specs.Events.{next_event, step_for}
use Rattle.path_core.specs.Fallback.{breaks_by_ack, fail_ask, fell_ask, may_go_infinite, plain_ack_in, plain_next}
use Rattle.path_core.specs.MpCapable.{opened_ask, peer_key_ask}
use Rattle.path_core.specs.Rate.{rate_ask}
use Rattle.path_core.specs.Standing.{ack_out_ask}
use Rattle.path_agenda.specs.Items.{key_heard, keys_heard}
use Rattle.fallback_state.specs.declared.fall.Event.TheVariants as falls
use Rattle.send_book.specs.declared.call.SendCall.TheVariants as send_calls
use Rattle.path_core.specs.Handover.{sends}
use Rattle.path_core.specs.MpJoin.{asked_at, join_heard_ask}
use Rattle.path_core.specs.State.{PathState, end_at, path_of}
use Rattle.path_core.specs.Treating.{item_ask, item_of}
use Rattle.path_core.specs.declared.events.Event.{Event}
use Rattle.path_core.specs.declared.events.Event.TheVariants as happenings
use Rattle.path_core.specs.Codec.{Codec}
use Rattle.path_core.specs.Steps.{asks_first}
use Rattle.std.proofs.lemmas.Option.{same_Some}
use Rattle.whole_paths.specs.Backups.{tells_backup}
use Rattle.whole_paths.specs.BackupAsks.{HeardOfNone, WhoHeardOfNoneTellsNone, notes_backup}

module _ {C : Type 0} (k : Codec C) where
  -- the ask doesn't tell it
  abbrev SparesAsk : Ask → Type 0
  SparesAsk x = tells_backup x ≡ false

  either_asks : (b : Bool) (x y : Ask) → SparesAsk x → SparesAsk y → SparesAsk (if b then x else y)
  either_asks true x y g h = g
  either_asks false x y g h = h

  break_asks : (s : Side) (reason : ℕ) (p : PathState C) → SparesAsk (break_ask k s reason p)
  break_asks s reason p = elim (end_at s p).treated.asked as (λ b. SparesAsk (if b then ack_out_ask s else sends k s (reset_of s (Some reason) p) p)) [ true ↦ refl | false ↦ refl ]

  mapping_asks : (s : Side) (p : PathState C) → SparesAsk (if is_clash (end_at s p) then break_ask k s 1 p else fell_ask s falls.MappingHeard p)
  mapping_asks s p = either_asks (is_clash (end_at s p)) (break_ask k s 1 p) (fell_ask s falls.MappingHeard p) (break_asks s 1 p) refl

  acks_asks : (s : Side) (p : PathState C) → SparesAsk (if breaks_by_ack p.profile (end_at s p) then break_ask k s 6 p else fell_ask s falls.PlainAck p)
  acks_asks s p = either_asks (breaks_by_ack p.profile (end_at s p)) (break_ask k s 6 p) (fell_ask s falls.PlainAck p) (break_asks s 6 p) refl

  fail_asks : (s : Side) (p : PathState C) → SparesAsk (fail_ask s p)
  fail_asks s p = elim (may_go_infinite (end_at s p)) as (λ b. SparesAsk (if b then asks.Send s (send_calls.GoInfinite (path_of p)) else fell_ask s (falls.FailHeard false) p)) [ true ↦ refl | false ↦ refl ]

  notice_asks : (s : Side) (notice : PeerNotice) (p : PathState C) → notes_backup (says.Notice notice) ≡ false → SparesAsk (notice_ask s notice p)
  notice_asks s (notes.Removed id) p none = refl
  notice_asks s (notes.AddAddr id address port hmac) p none = refl
  notice_asks s (notes.AddEcho id) p none = refl
  notice_asks s (notes.Prio backup) p none = none

  -- the thing isn't that the peer notes it
  abbrev SaysNone : Option Heard → Type 0
  SaysNone None = Unit {0}
  SaysNone (Some item) = notes_backup item ≡ false

  item_asks : (s : Side) (o : Option Heard) (p : PathState C) → SaysNone o → SparesAsk (item_ask k s o p)
  item_asks s None p h = refl
  item_asks s (Some (says.Mapping fin)) p h = mapping_asks s p
  item_asks s (Some (says.Notice notice)) p h = notice_asks s notice p h
  item_asks s (Some says.Fail) p h = fail_asks s p
  item_asks s (Some _) p h = refl

  at_none : (index : ℕ) (items : List Heard) → (list_any notes_backup items ≡ false) → SaysNone (item_at index items)
  at_none index [] h = tt
  at_none zero (item ∷ items) h = (or_parts (notes_backup item) (list_any notes_backup items) h).0
  at_none (suc index) (item ∷ items) h = at_none index items (or_parts (notes_backup item) (list_any notes_backup items) h).1

  item_none : (index : ℕ) (e : PathEnd) → (list_any notes_backup e.treated.items ≡ false) → SaysNone (item_of index e)
  item_none index e h = elim e.modes.identity as (λ b. SaysNone (if b then None else item_at index e.treated.items)) [ true ↦ tt | false ↦ at_none index e.treated.items h ]

  event_asks : (path : ℕ) (o : Option Event) → SparesAsk (step_for path o)
  event_asks path None = refl
  event_asks path (Some (happenings.Joins tick)) = refl
  event_asks path (Some (happenings.Takes line)) = refl
  event_asks path (Some (happenings.Arrives due)) = refl
  event_asks path (Some (happenings.Fires s tick)) = refl

  data_asks : (s : Side) (o : Option Record) (p : PathState C) → SparesAsk (data_ask k s o p)
  data_asks s None p = refl
  data_asks s (Some r) p = refl

  optional : {X : Type 0} (o : Option X) (f : Option X → Ask) → SparesAsk (f None) → ((x : X) → SparesAsk (f (Some x))) → SparesAsk (f o)
  optional None f none some = none
  optional (Some x) f none some = some x

  send_asks : (d : SendDuty) (p : PathState C) → SparesAsk (ask_for k (duties.Send d) p)
  send_asks (send_duties.Update s) p = refl
  send_asks _ p = refl

  pub duty_asks : (d : Duty) (p : PathState C) → ((s : Side) → HeardOfNone (end_at s p)) → SparesAsk (ask_for k d p)
  duty_asks (duties.Ask (ask_duties.Live s)) p said = (said s).joined
  duty_asks (duties.Ask (ask_duties.PeerKey s)) p said = optional (key_heard (end_at s p).treated.items) (λ o. peer_key_ask s o p) refl (λ key. refl)
  duty_asks (duties.Ask (ask_duties.JoinHeard s)) p said = optional (asked_at s p) (λ o. join_heard_ask s o p) refl (λ asked. refl)
  duty_asks (duties.Ask (ask_duties.Opened s)) p said = optional (keys_heard (end_at s p).treated.items) (λ o. opened_ask s o p) refl (λ keys. refl)
  duty_asks (duties.Ask (ask_duties.SubflowAck s)) p said = optional (plain_next (end_at s p)) (λ o. plain_ack_in s o (end_at s p).treated.window) refl (λ next. refl)
  duty_asks (duties.Ask (ask_duties.Edge s)) p said = optional (piece_of s p) (λ o. piece_ask s o) refl (λ piece. refl)
  duty_asks (duties.Ask (ask_duties.HeardFin s index)) p said = optional (data_fin_of index (end_at s p)) (λ o. fin_ask s o) refl (λ place. refl)
  duty_asks (duties.Ask (ask_duties.SubflowFin s)) p said = optional (place_of_fin (end_at s p)) (λ o. fin_ask s o) refl (λ place. refl)
  duty_asks (duties.Ask (ask_duties.Rate s)) p said = optional (end_at s p).tcp.congestion.pending (λ o. rate_ask s o p) refl (λ pending. refl)
  duty_asks (duties.Step step_duties.Events) p said = event_asks (path_of p) (next_event p)
  duty_asks (duties.Step (step_duties.Data s)) p said = data_asks s (first_unsent (end_at s p)) p
  duty_asks (duties.Step (step_duties.Heard s index)) p said = item_asks s (item_of index (end_at s p)) p (item_none index (end_at s p) (said s).noted)
  duty_asks (duties.Step (step_duties.PlainAck s)) p said = acks_asks s p
  duty_asks (duties.Step (step_duties.Unmapped s)) p said = break_asks s 6 p
  duty_asks (duties.Send d) p said = send_asks d p
  duty_asks _ p said = refl

  first_asks : (ds : List Duty) (p : PathState C) (x : Ask) → asks_first k ds p ≡ Some x → ((s : Side) → HeardOfNone (end_at s p)) → tells_backup x ≡ false
  first_asks [] p x is said = cc
  first_asks (d ∷ ds) p x is said = subst (λ y. tells_backup y ≡ false) (same_Some (ask_for k d p) x is) (duty_asks d p said)

pub who_heard_of_none_tells_none : {C : Type 0} (k : Codec C) → WhoHeardOfNoneTellsNone k
who_heard_of_none_tells_none k p x is said = first_asks k p.agenda p x is said
