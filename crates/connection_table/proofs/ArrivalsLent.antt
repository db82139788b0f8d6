-- The copy that arrives next is lent exactly where the path's next ask takes one from the link.
use Rattle.std.proofs.Common.{◌≡◌, refl, sym, ◌∙◌, ap, subst, ℕ, ◌<◌, nat_lt, Bool, true, false, if◌then◌else◌, is_some, Option, Some, None, option_and_then, option_map, List, [], ◌∷◌}
use Rattle.std.proofs.lemmas.Bool.{ltb-true}
use Rattle.sides.specs.declared.side.Side.{Side}
use Rattle.link_model.specs.declared.flight.Due.{Due}
use Rattle.link_model.specs.declared.flight.Flight.{Flight}
use Rattle.link_model.specs.Steps.{arriving}
use Rattle.send_book.specs.declared.call.SendCall.TheVariants as send_calls
use Rattle.subflow_send.specs.Records.{Record}
use Rattle.loss_recovery.specs.declared.windows.Pending.{Pending}
use Rattle.join_handshake.specs.declared.hearing.JoinSyn.{JoinSyn}
use Rattle.actor_desk.specs.declared.ask.Ask.{Ask}
use Rattle.actor_desk.specs.declared.ask.Ask.TheVariants as asks
use Rattle.path_agenda.specs.declared.duty.Duty.{Duty}
use Rattle.path_agenda.specs.declared.duty.Duty.TheVariants as duties
use Rattle.path_agenda.specs.declared.duty.AskDuty.TheVariants as ask_duties
use Rattle.path_agenda.specs.declared.duty.SendDuty.TheVariants as send_duties
use Rattle.path_agenda.specs.declared.duty.StepDuty.TheVariants as step_duties
use Rattle.path_agenda.specs.declared.heard.Heard.{Heard}
use Rattle.path_agenda.specs.declared.heard.Heard.TheVariants as says
use Rattle.path_agenda.specs.declared.keys.KeyPair.{KeyPair}
use Rattle.path_agenda.specs.Items.{key_heard, keys_heard}
use Rattle.fallback_state.specs.declared.fall.Event.TheVariants as events
use Rattle.path_core.specs.declared.events.Event.{Event}
use Rattle.path_core.specs.declared.events.Event.TheVariants as happenings
use Rattle.path_core.specs.Breaking.{reset_of, break_ask}
use Rattle.path_store.specs.Passing.{Piece}
use Rattle.path_core.specs.Duties.{ask_for}
use Rattle.path_core.specs.Emission.{first_unsent, data_ask}
use Rattle.path_core.specs.Events.{before, earliest, next_event, step_for, tick_of}
use Rattle.path_core.specs.Fallback.{fell_ask, may_go_infinite, breaks_by_ack, plain_next, plain_ack_in}
use Rattle.path_core.specs.Handover.{sends}
use Rattle.path_core.specs.MpJoin.{join_heard_ask, asked_at}
use Rattle.path_core.specs.Looking.{Arrived, arrived, arrived_as, copy_arriving, first_arrival, next_arrival}
use Rattle.path_core.specs.Octets.{octets}
use Rattle.path_core.specs.MpCapable.{peer_key_ask, opened_ask}
use Rattle.path_core.specs.Deliver.{piece_of, piece_ask}
use Rattle.path_core.specs.DataFin.{data_fin_of, fin_ask, place_of_fin}
use Rattle.path_core.specs.Rate.{rate_ask}
use Rattle.path_core.specs.Standing.{ack_out_ask}
use Rattle.path_core.specs.State.{PathState, end_at, path_of}
use Rattle.path_core.specs.Steps.{asks_first, asks_of}
use Rattle.path_core.specs.DssIn.{is_clash}
use Rattle.path_core.specs.Treating.{item_of, item_ask}
use Rattle.path_core.proofs.Happening.{can_happen}
use Rattle.connection_table.specs.Arrivals.{EachArrivalIsLent, takes_a_copy}

-- ---- asks that take no copy

abbrev Quiet : Ask → Type 0
Quiet ask = takes_a_copy (Some ask) ≡ false

quiet_piece : (s : Side) (piece : Option Piece) → Quiet (piece_ask s piece)
quiet_piece s None = refl
quiet_piece s (Some piece) = refl

quiet_fin : (s : Side) (place : Option ℕ) → Quiet (fin_ask s place)
quiet_fin s None = refl
quiet_fin s (Some place) = refl

quiet_ack : (s : Side) (next : Option ℕ) (window : ℕ) → Quiet (plain_ack_in s next window)
quiet_ack s None window = refl
quiet_ack s (Some next) window = refl

abbrev OctetPath : Type 0
OctetPath = PathState (List ℕ)

quiet_peer_key : (s : Side) (key : Option ℕ) (p : OctetPath) → Quiet (peer_key_ask s key p)
quiet_peer_key s None p = refl
quiet_peer_key s (Some key) p = refl

quiet_join : (s : Side) (asked : Option JoinSyn) (p : OctetPath) → Quiet (join_heard_ask s asked p)
quiet_join s None p = refl
quiet_join s (Some asked) p = refl

quiet_opened : (s : Side) (keys : Option KeyPair) (p : OctetPath) → Quiet (opened_ask s keys p)
quiet_opened s None p = refl
quiet_opened s (Some keys) p = refl

quiet_fail : (s : Side) (may : Bool) (p : OctetPath) → Quiet (if may then asks.Send s (send_calls.GoInfinite (path_of p)) else fell_ask s (events.FailHeard false) p)
quiet_fail s true p = refl
quiet_fail s false p = refl

quiet_rate : (s : Side) (pending : Option Pending) (p : OctetPath) → Quiet (rate_ask s pending p)
quiet_rate s None p = refl
quiet_rate s (Some pending) p = refl

quiet_data : (s : Side) (unsent : Option Record) (p : OctetPath) → Quiet (data_ask octets s unsent p)
quiet_data s None p = refl
quiet_data s (Some record_) p = refl

quiet_break : (s : Side) (reason : ℕ) (asked : Bool) (p : OctetPath) → Quiet (if asked then ack_out_ask s else sends octets s (reset_of s (Some reason) p) p)
quiet_break s reason true p = refl
quiet_break s reason false p = refl

quiet_mapping : (s : Side) (clash : Bool) (p : OctetPath) → Quiet (if clash then break_ask octets s 1 p else fell_ask s events.MappingHeard p)
quiet_mapping s true p = quiet_break s 1 (end_at s p).treated.asked p
quiet_mapping s false p = refl

quiet_plain_ack : (s : Side) (breaks : Bool) (p : OctetPath) → Quiet (if breaks then break_ask octets s 6 p else fell_ask s events.PlainAck p)
quiet_plain_ack s true p = quiet_break s 6 (end_at s p).treated.asked p
quiet_plain_ack s false p = refl

quiet_item : (s : Side) (item : Option Heard) (p : OctetPath) → Quiet (item_ask octets s item p)
quiet_item s (Some (says.Mapping fin)) p = quiet_mapping s (is_clash (end_at s p)) p
quiet_item s (Some says.Fail) p = quiet_fail s (may_go_infinite (end_at s p)) p
quiet_item s _ p = refl

-- ---- the first duty

soon : (until : ℕ) (x : Option Event) (event : Event) → option_and_then (before until) x ≡ Some event → (x ≡ Some event) × (tick_of event < until)
soon until None event e = cc
soon until (Some x) event e = by (nat_lt (tick_of x) until) refl e
  where
    by : (b : Bool) → nat_lt (tick_of x) until ≡ b → (if b then Some x else None) ≡ Some event → (Some x ≡ Some event) × (tick_of event < until)
    by true is e =
        let same : x ≡ event = cc in
        (e, subst (λ y. tick_of y < until) same (ltb-true _ _ is))
    by false is e = cc

abbrev Agrees : OctetPath → List Duty → Type 0
Agrees p ds = is_some (first_arrival ds p) ≡ takes_a_copy (asks_first octets ds p)

some_map : {X Y : Type 0} (f : X → Y) (o : Option X) → is_some (option_map f o) ≡ is_some o
some_map f None = refl
some_map f (Some x) = refl

-- the copy of an event is under way
events_agree : (p : OctetPath) (o : Option Event) → next_event p ≡ o → is_some (copy_arriving o p) ≡ takes_a_copy (Some (step_for (path_of p) o))
events_agree p None is = refl
events_agree p (Some (happenings.Joins tick)) is = refl
events_agree p (Some (happenings.Takes line)) is = refl
events_agree p (Some (happenings.Fires s tick)) is = refl
events_agree p (Some (happenings.Arrives due)) is =
    let found = soon p.until (earliest p) (happenings.Arrives due) is in
    some_map (arrived_as (path_of p) due.to) (arriving due p.link) ∙ (can_happen p (happenings.Arrives due) found.0 found.1).1

duty_agrees : (d : Duty) (ds : List Duty) (p : OctetPath) → Agrees p (d ∷ ds)
duty_agrees (duties.Ask (ask_duties.PeerKey s)) ds p = sym (quiet_peer_key s (key_heard (end_at s p).treated.items) p)
duty_agrees (duties.Ask (ask_duties.JoinHeard s)) ds p = sym (quiet_join s (asked_at s p) p)
duty_agrees (duties.Ask (ask_duties.Opened s)) ds p = sym (quiet_opened s (keys_heard (end_at s p).treated.items) p)
duty_agrees (duties.Ask (ask_duties.SubflowAck s)) ds p = sym (quiet_ack s (plain_next (end_at s p)) (end_at s p).treated.window)
duty_agrees (duties.Ask (ask_duties.Edge s)) ds p = sym (quiet_piece s (piece_of s p))
duty_agrees (duties.Ask (ask_duties.HeardFin s index)) ds p = sym (quiet_fin s (data_fin_of index (end_at s p)))
duty_agrees (duties.Ask (ask_duties.SubflowFin s)) ds p = sym (quiet_fin s (place_of_fin (end_at s p)))
duty_agrees (duties.Ask (ask_duties.Rate s)) ds p = sym (quiet_rate s (end_at s p).tcp.congestion.pending p)
duty_agrees (duties.Step (step_duties.Data s)) ds p = sym (quiet_data s (first_unsent (end_at s p)) p)
duty_agrees (duties.Step step_duties.Events) ds p = events_agree p (next_event p) refl
duty_agrees (duties.Step (step_duties.Heard s index)) ds p = sym (quiet_item s (item_of index (end_at s p)) p)
duty_agrees (duties.Step (step_duties.PlainAck s)) ds p = sym (quiet_plain_ack s (breaks_by_ack p.profile (end_at s p)) p)
duty_agrees (duties.Step (step_duties.Unmapped s)) ds p = sym (quiet_break s 6 (end_at s p).treated.asked p)
duty_agrees (duties.Send (send_duties.Update s)) ds p = refl
duty_agrees _ ds p = refl

agenda_agrees : (ds : List Duty) (p : OctetPath) → Agrees p ds
agenda_agrees [] p = refl
agenda_agrees (d ∷ ds) p = duty_agrees d ds p

pub each_arrival_is_lent : EachArrivalIsLent
each_arrival_is_lent p = agenda_agrees p.agenda p
