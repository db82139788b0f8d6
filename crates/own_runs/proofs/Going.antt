-- Once a run is delivered each octet of both files was in a segment that was handed to a link.
use Rattle.own_runs.proofs.Words.{◌≡◌, refl, sym, ◌∙◌, ap, subst, ℕ, zero, suc, ◌+◌, ◌-◌, ◌^◌, ◌<◌, ◌≤◌, ◌⊎◌, inl, inr, ⊎_elim, Bool, true, false}
use Rattle.own_runs.proofs.Words.{if◌then◌else◌, nat_le, nat_lt, Result, Ok, Err, Option, Some, None, option_map, option_and_then, List, [], ◌∷◌, ◌++◌}
use Rattle.own_runs.proofs.Words.{length, length-append, length-take, length-drop, take, drop, map, fold, append_assoc, arith, and_parts, false≢true}
use Rattle.own_runs.proofs.Words.{leb-true, ltb-true, cases_lt, eqb-true, count_by, slice_get, same_Some, slice_get_within, Side, A, B, SendCall, covers}
use Rattle.own_runs.proofs.Words.{is_asked_by, decision, part_of, reply_by, send_reply, Record, may_finish, Sent, carried_of, HasOctet, Duty, StepDuty, Reply}
use Rattle.own_runs.proofs.Words.{is_nil, pick, Ask, books_in, send_of, stands, ask_for, first_unsent, data_stands, may_ask, payload_size, data_ask}
use Rattle.own_runs.proofs.Words.{PathState, end_at, with_agenda, path_of, answers, takes, asks_first, asks_of, item_of, departing_as, first_sends, octets}
use Rattle.own_runs.proofs.Words.{values, Has, Has-more, in_append, in_map, in_one, in_set, PathPlan, Start, new_path, opened_world, path_begins, paths_from}
use Rattle.own_runs.proofs.Words.{IsPlain, NumbersFit, Actor, ActorCrew, is_over, member_asks, member_next, member_takes, AreLawful, WorldState, Turn}
use Rattle.own_runs.proofs.Words.{after_turn, all_over, asked, begins, crew_after, end_round, greatest, note_of, stepped, world_run, writes_the_files}
use Rattle.own_runs.proofs.Words.{plainly, plainly_free, run_fresh, initials_of, sent_as, sent_at, sent_by, sent_next, trace_of, base_from, CarriesPlace}
use Rattle.own_runs.proofs.Words.{DeliveredFilesWereSent, ended}
use Rattle.std.proofs.Common.{option_to_list}
use Rattle.std.proofs.lemmas.List.{drop-append-le, take-append-le}
use Rattle.octet_text.specs.Prefix.{IsPrefix}
use Rattle.send_book.specs.declared.call.Span.{Span}
use Rattle.send_book.specs.declared.call.Why.{Why}
use Rattle.send_book.specs.State.{Sending, Tile}
use Rattle.send_book.proofs.Decisions.{decision-MayTake}
use Rattle.stream_lanes.proofs.Promises.{records_fit}
use Rattle.actor_desk.specs.declared.ask.Note.{Note}
use Rattle.stream_apps.specs.declared.duty.AppDuty.{AppDuty}
use Rattle.stream_apps.specs.Apps.{AppState}
use Rattle.stream_apps.specs.AppSteps.{app_ask, app_asks_first}
use Rattle.path_agenda.specs.Agenda.{start_of_turn}
use Rattle.path_agenda.specs.declared.duty.AskDuty.{AskDuty}
use Rattle.path_core.specs.Start.{PathStart, first_state, first_turn, waiting_path}
use Rattle.path_core.specs.Turns.{FirstStands, IsSettled}
use Rattle.path_core.specs.Values.{Carried}
use Rattle.link_script.specs.declared.script.ScriptLine.{ScriptLine}
use Rattle.world_core.specs.Looking.{crew_path, member_path}
use Rattle.world_laws.specs.declared.member.Member.TheVariants.{App, Path}
use Rattle.world_laws.specs.Granted.{asks_for, gives, grants_byte}
use Rattle.world_laws.specs.declared.outcome.Outcome.TheVariants.{Delivered}
use Rattle.world_laws.specs.Outcomes.{outcome_of}
use Rattle.world_laws.specs.StampedBooks.{answer_to}
use Rattle.world_laws.proofs.Lanes.Doing.{has_last}
use Rattle.world_laws.proofs.Falls.FailedChecks.{subflow_acks_so}
use Rattle.world_laws.proofs.Asks.OfPaths.{IsHeardAsk, IsQuietAsk, IsQuietDuty, heard_asks, quiet_asks}
use Rattle.world_laws.proofs.Lanes.Roads.{put_there}
use Rattle.world_laws.proofs.Worlds.Settled.{settled_settled}
use Rattle.world_laws.proofs.Weaving.WholeRounds.{run_append}
use Rattle.own_runs.specs.Granting.{WasGranted}
use Rattle.own_runs.proofs.Acknowledged.{BothAck, ack_at, begins_acks, takes_acks}
use Rattle.own_runs.proofs.Grants.{all_noted, delivered_were_granted, same_books, same_from}
use Rattle.own_runs.proofs.Handing.{SendsNext, grants, granted_goes}
use Rattle.own_runs.proofs.MomentFacts.{MemberFacts, MomentFacts, PathFacts, carried_from, moment_facts, unsent_placed}
use Rattle.own_runs.proofs.ReadingBack.{Placed}

-- ---- a note that grants

-- the note asks for bytes of this side's stream for this path
record AsksBytes (s : Side) (path : ℕ) (ask : Ask) : Type 0 where
  pub most : ℕ
  pub standby : Bool
  pub is : ask ≡ Ask.Send s (SendCall.Grant path most standby)

call_asks : (s : Side) (path : ℕ) (c : SendCall) → is_asked_by path c ≡ true → AsksBytes s path (Ask.Send s c)
call_asks s path (SendCall.Grant asker most standby) is =
    record { most = most; standby = standby; is = ap (λ (n : ℕ). Ask.Send s (SendCall.Grant n most standby)) (eqb-true asker path is) }
call_asks s path (SendCall.Write bytes) is = absurd (false≢true is)
call_asks s path _ is = absurd (false≢true is)

ask_asks : (s : Side) (path : ℕ) (ask : Ask) → asks_for s path ask ≡ true → AsksBytes s path ask
ask_asks A path (Ask.Send A c) is = call_asks A path c is
ask_asks B path (Ask.Send B c) is = call_asks B path c is
ask_asks A path (Ask.Send B c) is = absurd (false≢true is)
ask_asks B path (Ask.Send A c) is = absurd (false≢true is)
ask_asks A path (Ask.Reassembly r c) is = absurd (false≢true is)
ask_asks B path (Ask.Reassembly r c) is = absurd (false≢true is)
ask_asks A path (Ask.Control r c) is = absurd (false≢true is)
ask_asks B path (Ask.Control r c) is = absurd (false≢true is)
ask_asks A path (Ask.Local step) is = absurd (false≢true is)
ask_asks B path (Ask.Local step) is = absurd (false≢true is)

-- no application asks for bytes
app_asks_none : (d : AppDuty) (a : AppState) (s : Side) (path most : ℕ) (standby : Bool) → app_ask d a ≡ Ask.Send s (SendCall.Grant path most standby) → ⊥
app_asks_none = elim [ AppDuty.FastClose ↦ λ a s path most standby is. cc | _ ↦ λ a s path most standby is. cc ]

-- ---- a path asks for bytes by one duty alone

record AsksByData (s : Side) (most : ℕ) (d : Duty) (p : PathState (List ℕ)) : Type 0 where
  pub duty : d ≡ Duty.Step (StepDuty.Data s)
  pub none : first_unsent (end_at s p) ≡ None
  pub most_is : most ≡ payload_size p.profile

module _ (p : PathState (List ℕ)) (s : Side) (path most : ℕ) (standby : Bool) where
  abbrev Grant : Ask
  Grant = Ask.Send s (SendCall.Grant path most standby)

  data_asks : (t : Side) (o : Option Record) → first_unsent (end_at t p) ≡ o → data_ask octets t o p ≡ Grant → AsksByData s most (Duty.Step (StepDuty.Data t)) p
  data_asks t (Some r) first is = cc
  data_asks t None first is =
      let same : t ≡ s = cc in let size : payload_size p.profile ≡ most = cc in
      record { duty = ap (λ (r : Side). Duty.Step (StepDuty.Data r)) same; none = subst (λ (r : Side). first_unsent (end_at r p) ≡ None) same first; most_is = sym size }

  quiet_never : (d : Duty) → IsQuietDuty d → ask_for octets d p ≡ Grant → ⊥
  quiet_never d quiet is = subst (IsQuietAsk (path_of p)) is (quiet_asks octets p d quiet)

  duty_asks : (d : Duty) → ask_for octets d p ≡ Grant → AsksByData s most d p
  duty_asks (Duty.Step (StepDuty.Data t)) is = data_asks t (first_unsent (end_at t p)) refl is
  duty_asks (Duty.Step (StepDuty.Heard t index)) is = absurd (subst (IsHeardAsk (path_of p) t) is (heard_asks octets p t (item_of index (end_at t p))))
  duty_asks (Duty.Ask (AskDuty.SubflowAck t)) is = absurd (subflow_acks_so (λ x. x ≡ Grant → ⊥) t (end_at t p) (λ none. cc) (λ next none. cc) is)
  duty_asks (Duty.Step StepDuty.Events) is = absurd (quiet_never (Duty.Step StepDuty.Events) tt is)
  duty_asks (Duty.Step (StepDuty.Look t)) is = absurd (quiet_never (Duty.Step (StepDuty.Look t)) tt is)
  duty_asks (Duty.Step (StepDuty.PlainAck t)) is = absurd (quiet_never (Duty.Step (StepDuty.PlainAck t)) tt is)
  duty_asks (Duty.Step (StepDuty.Unmapped t)) is = absurd (quiet_never (Duty.Step (StepDuty.Unmapped t)) tt is)
  duty_asks (Duty.Ask AskDuty.JoinAgain) is = absurd (quiet_never (Duty.Ask AskDuty.JoinAgain) tt is)
  duty_asks (Duty.Ask (AskDuty.Window t)) is = absurd (quiet_never (Duty.Ask (AskDuty.Window t)) tt is)
  duty_asks (Duty.Ask (AskDuty.PlainHandshake t)) is = absurd (quiet_never (Duty.Ask (AskDuty.PlainHandshake t)) tt is)
  duty_asks (Duty.Ask (AskDuty.PeerKey t)) is = absurd (quiet_never (Duty.Ask (AskDuty.PeerKey t)) tt is)
  duty_asks (Duty.Ask (AskDuty.JoinHeard t)) is = absurd (quiet_never (Duty.Ask (AskDuty.JoinHeard t)) tt is)
  duty_asks (Duty.Ask (AskDuty.Opened t)) is = absurd (quiet_never (Duty.Ask (AskDuty.Opened t)) tt is)
  duty_asks (Duty.Ask (AskDuty.Live t)) is = absurd (quiet_never (Duty.Ask (AskDuty.Live t)) tt is)
  duty_asks (Duty.Ask (AskDuty.AckHeard t)) is = absurd (quiet_never (Duty.Ask (AskDuty.AckHeard t)) tt is)
  duty_asks (Duty.Ask (AskDuty.FailHeard t)) is = absurd (quiet_never (Duty.Ask (AskDuty.FailHeard t)) tt is)
  duty_asks (Duty.Ask (AskDuty.PlainData t)) is = absurd (quiet_never (Duty.Ask (AskDuty.PlainData t)) tt is)
  duty_asks (Duty.Ask (AskDuty.Edge t)) is = absurd (quiet_never (Duty.Ask (AskDuty.Edge t)) tt is)
  duty_asks (Duty.Ask (AskDuty.CheckFailed t)) is = absurd (quiet_never (Duty.Ask (AskDuty.CheckFailed t)) tt is)
  duty_asks (Duty.Ask (AskDuty.HeardFin t index)) is = absurd (quiet_never (Duty.Ask (AskDuty.HeardFin t index)) tt is)
  duty_asks (Duty.Ask (AskDuty.SubflowFin t)) is = absurd (quiet_never (Duty.Ask (AskDuty.SubflowFin t)) tt is)
  duty_asks (Duty.Ask (AskDuty.AckOut t)) is = absurd (quiet_never (Duty.Ask (AskDuty.AckOut t)) tt is)
  duty_asks (Duty.Ask (AskDuty.Rate t)) is = absurd (quiet_never (Duty.Ask (AskDuty.Rate t)) tt is)
  duty_asks (Duty.Ask (AskDuty.Return t)) is = absurd (quiet_never (Duty.Ask (AskDuty.Return t)) tt is)
  duty_asks (Duty.Ask (AskDuty.AbortSend t)) is = absurd (quiet_never (Duty.Ask (AskDuty.AbortSend t)) tt is)
  duty_asks (Duty.Ask (AskDuty.AbortReceive t)) is = absurd (quiet_never (Duty.Ask (AskDuty.AbortReceive t)) tt is)
  duty_asks (Duty.Ask (AskDuty.Announce t id)) is = absurd (quiet_never (Duty.Ask (AskDuty.Announce t id)) tt is)
  duty_asks (Duty.Ask (AskDuty.Withdraw t id)) is = absurd (quiet_never (Duty.Ask (AskDuty.Withdraw t id)) tt is)
  duty_asks (Duty.Ask (AskDuty.LeaveNoted t)) is = absurd (quiet_never (Duty.Ask (AskDuty.LeaveNoted t)) tt is)
  duty_asks (Duty.Ask (AskDuty.BreakAck t reason)) is = absurd (quiet_never (Duty.Ask (AskDuty.BreakAck t reason)) tt is)
  duty_asks (Duty.Ask (AskDuty.Leave t)) is = absurd (quiet_never (Duty.Ask (AskDuty.Leave t)) tt is)
  duty_asks (Duty.Ask (AskDuty.Dead t)) is = absurd (quiet_never (Duty.Ask (AskDuty.Dead t)) tt is)
  duty_asks (Duty.Send d) is = absurd (quiet_never (Duty.Send d) tt is)
  duty_asks (Duty.Silent d) is = absurd (quiet_never (Duty.Silent d) tt is)
  duty_asks Duty.End is = absurd (quiet_never Duty.End tt is)
  duty_asks _ is = cc

-- ---- what was granted, and isn't sent yet

-- a segment that carries the octet at this place of the side's file, and tells that place
pub record CarriesTold (start : Start) (s : Side) (place : ℕ) (x : Sent) : Type 0 where
  pub carries : CarriesPlace s (pick s start.file_a start.file_b) place x
  pub told : HasOctet s place (carried_of (base_from start) (initials_of start.paths) [] x)

-- the next step of a path sends it
abbrev Pending : Start → Side → ℕ → Actor (List ℕ) → Type 0
Pending start s place (App a) = ⊥
Pending start s place (Path p) = (x : Sent) × (sent_by p ≡ Some x) × CarriesTold start s place x

-- a segment that is read at a place has that octet
told_at_place : (start : Start) (s : Side) (place from len : ℕ) (x : Sent) → x.from ≡ s → Placed (base_from start) (initials_of start.paths) x from len → from ≤ place → place < from + len
    → HasOctet s place (carried_of (base_from start) (initials_of start.paths) [] x)
told_at_place start s place from len x same_side placed below above = record {
  from = carried_from (base_from start) (initials_of start.paths) x ∙ same_side;
  place = from;
  told = placed.told;
  below = below;
  above = let same = placed.len_is in omega (arith, above, same);
}

sends_pending : (start : Start) (s : Side) (place from : ℕ) (piece : List ℕ) (p : PathState (List ℕ)) → SendsNext s from piece p → PathFacts start p → from < 2 ^ 64 → from ≤ place → place < from + length piece
    → piece ≡ take (length piece) (drop from (pick s start.file_a start.file_b)) → Pending start s place (Path p)
sends_pending start s place from piece p n facts small below above part =
    let same = ap length n.payload in (
      n.sent,
      n.is,
      record {
        carries = record {
          from = n.from;
          first = from;
          below = below;
          above = omega (arith, above, same);
          part = n.payload ∙ part ∙ ap (λ (len : ℕ). take len (drop from (pick s start.file_a start.file_b))) (sym same);
        };
        told = told_at_place start s place from (length piece) n.sent n.from (unsent_placed start s from piece p n facts small (omega (arith, below, above))) below above;
      },
    )

module _ (start : Start) (s : Side) (b : Sending) (tile : Tile b) (begins_so : IsPrefix b.written (pick s start.file_a start.file_b)) (short : length b.written < 2 ^ 64) (path most place : ℕ) (standby : Bool) where
  abbrev file : List ℕ
  file = pick s start.file_a start.file_b

  -- a part of what was written is that part of the file
  part_is : (from n : ℕ) → from + n ≤ length b.written → take n (drop from b.written) ≡ take n (drop from file)
  part_is from n within =
      sym (ap (λ (xs : List ℕ). take n (drop from xs)) begins_so.whole_is
      ∙ ap (take n) (drop-append-le from b.written begins_so.rest (omega (arith, within)))
      ∙ take-append-le n (drop from b.written) begins_so.rest (omega (arith, within, length-drop from b.written)))

  module _ (p : PathState (List ℕ)) (settled_so : IsSettled p) (acked : BothAck p) where
    reply_pending : (ds : List Duty) → p.agenda ≡ Duty.Step (StepDuty.Data s) ∷ ds → first_unsent (end_at s p) ≡ None → most ≡ payload_size p.profile
        → (r : Result Span Why) → decision path most standby b ≡ r → covers place (reply_by r b) ≡ true → PathFacts start (takes octets (Reply.Send (reply_by r b)) p)
        → Pending start s place (Path (takes octets (Reply.Send (reply_by r b)) p))
    reply_pending ds agenda none most_is (Err why) decided gives facts = absurd (false≢true gives)
    reply_pending ds agenda none most_is (Ok span) decided gives facts =
        let m = decision-MayTake path most standby b span decided in
        let bounds = and_parts (nat_le span.from place) (nat_lt place span.to) gives in
        let low = leb-true span.from place bounds.0 in let high = ltb-true place span.to bounds.1 in
        let n = span.to - span.from in
        let len : length (part_of span b.written) ≡ n = omega (arith, length-take n (drop span.from b.written), length-drop span.from b.written, m.within, m.whole, tile.whole) in
        let stood : stands (Duty.Step (StepDuty.Data s)) p ≡ true = subst (λ (todo : List Duty). FirstStands todo p) agenda settled_so in
        let may : may_ask p.profile s (end_at s p) ≡ true = subst (λ (o : Option Record). data_stands p.profile s (end_at s p) o ≡ true) none stood in
        let goes = granted_goes s ds span (part_of span b.written) p agenda none may (ack_at s p acked) (omega (arith, len, m.whole, m.most, most_is)) in
        let part = part_is span.from n (omega (arith, m.within, m.whole, tile.whole)) in
        sends_pending start s place span.from (part_of span b.written) (takes octets (grants span (part_of span b.written)) p) goes facts (omega (arith, m.within, m.whole, tile.whole, short)) low (omega (arith, high, len, m.whole))
        (part ∙ ap (λ (k : ℕ). take k (drop span.from file)) (sym len))

    -- a path that was granted a byte sends it next
    path_pending : asks_of octets p ≡ Some (Ask.Send s (SendCall.Grant path most standby)) → covers place (send_reply b (SendCall.Grant path most standby)) ≡ true
        → PathFacts start (takes octets (Reply.Send (send_reply b (SendCall.Grant path most standby))) p)
        → Pending start s place (Path (takes octets (Reply.Send (send_reply b (SendCall.Grant path most standby))) p))
    path_pending asks gives facts = by p.agenda refl
      where
        first : (d : Duty) (ds : List Duty) → p.agenda ≡ d ∷ ds → AsksByData s most d p → Pending start s place (Path (takes octets (Reply.Send (send_reply b (SendCall.Grant path most standby))) p))
        first d ds agenda by_data =
            reply_pending ds (agenda ∙ ap (λ (x : Duty). x ∷ ds) by_data.duty) by_data.none by_data.most_is (decision path most standby b) refl gives facts

        by : (todo : List Duty) → p.agenda ≡ todo → Pending start s place (Path (takes octets (Reply.Send (send_reply b (SendCall.Grant path most standby))) p))
        by [] agenda = absurd (none_asks (sym (ap (λ (todo : List Duty). asks_first octets todo p) agenda) ∙ asks))
          where
            none_asks : None ≡ Some (Ask.Send s (SendCall.Grant path most standby)) → ⊥
            none_asks is = cc
        by (d ∷ ds) agenda =
            first d ds agenda (duty_asks p s path most standby d (same_Some (ask_for octets d p) _ (sym (ap (λ (todo : List Duty). asks_first octets todo p) agenda) ∙ asks)))

-- ---- the actors

abbrev IsReady : Actor (List ℕ) → Type 0
IsReady (App a) = Unit {0}
IsReady (Path p) = IsSettled p × BothAck p

-- each actor is ready, and what its steps were granted was sent, or is sent next
pub record Stands (start : Start) (trace : List Sent) (w : WorldState (List ℕ)) : Type 0 where
  pub ready : (i : ℕ) (c : ActorCrew (List ℕ)) → slice_get w.crew i ≡ Some c → IsReady c.member
  pub told : (i : ℕ) (c : ActorCrew (List ℕ)) → slice_get w.crew i ≡ Some c → (j : ℕ) (n : Note) → slice_get c.list j ≡ Some n → (s : Side) (path place : ℕ)
      → grants_byte s path place n ≡ true
      → Has (CarriesTold start s place) trace ⊎ Pending start s place c.member

-- what the books of a world are
pub record BooksFit (start : Start) (w : WorldState (List ℕ)) : Type 0 where
  pub tiles : (s : Side) → Tile (send_of s (books_in w.books))
  pub prefixes : (s : Side) → IsPrefix (send_of s (books_in w.books)).written (pick s start.file_a start.file_b)
  pub short : (s : Side) → length (send_of s (books_in w.books)).written < 2 ^ 64
  -- and what its paths are
  pub facts : MomentFacts start w

more_stands : (start : Start) (trace more : List Sent) (w : WorldState (List ℕ)) → Stands start trace w → Stands start (trace ++ more) w
more_stands start trace more w h = record {
  ready = h.ready;
  told = λ i c there j n at s path place is. ⊎_elim (λ has. inl (Has-more more has)) (λ pending. inr pending) (h.told i c there j n at s path place is);
}

-- a pending segment is handed over by the actor's next step
handed_now : (start : Start) (s : Side) (place i : ℕ) (c : ActorCrew (List ℕ)) (w : WorldState (List ℕ)) (trace : List Sent) → slice_get w.crew i ≡ Some c
    → Pending start s place c.member → Has (CarriesTold start s place) (trace ++ option_to_list (sent_next i w))
handed_now start s place i c w trace there pending = by c.member refl pending
  where
    last : (xs : List Sent) (x : Sent) → CarriesTold start s place x → Has (CarriesTold start s place) (xs ++ x ∷ [])
    last xs x carries = has_last xs x carries

    by : (m : Actor (List ℕ)) → c.member ≡ m → Pending start s place m
        → Has (CarriesTold start s place) (trace ++ option_to_list (sent_next i w))
    by (App a) is pending = absurd pending
    by (Path p) is pending =
        let next : sent_next i w ≡ Some pending.0 =
        ap (λ (o : Option (ActorCrew (List ℕ))). option_and_then sent_by (crew_path o)) there ∙ ap (λ (m : Actor (List ℕ)). option_and_then sent_by (member_path m)) is ∙ pending.1 in
        subst (λ (o : Option Sent). Has (CarriesTold start s place) (trace ++ option_to_list o)) (sym next) (last trace pending.0 pending.2)

-- a step that grants a byte leaves it pending
new_pending : (start : Start) (ask : Ask) (c : ActorCrew (List ℕ)) (w : WorldState (List ℕ)) → BooksFit start w → MemberFacts start (member_takes octets (answer_to w.books ask) c.member)
    → IsReady c.member → member_asks octets c.member ≡ Some ask → (s : Side) (path place : ℕ) → grants_byte s path place (note_of w.books c.pass ask) ≡ true
    → Pending start s place (member_takes octets (answer_to w.books ask) c.member)
new_pending start ask c w fit later ready asks s path place is = by c.member later ready asks
  where
    parts : (asks_for s path ask ≡ true) × (gives place (answer_to w.books ask) ≡ true)
    parts = and_parts (asks_for s path ask) (gives place (answer_to w.books ask)) is

    bytes : AsksBytes s path ask
    bytes = ask_asks s path ask parts.0

    answer_is : (s : Side) (most : ℕ) (standby : Bool)
        → answer_to w.books (Ask.Send s (SendCall.Grant path most standby)) ≡ Reply.Send (send_reply (send_of s (books_in w.books)) (SendCall.Grant path most standby))
    answer_is = elim [ A ↦ λ most standby. refl | B ↦ λ most standby. refl ]

    gives_is : gives place (Reply.Send (send_reply (send_of s (books_in w.books)) (SendCall.Grant path bytes.most bytes.standby))) ≡ true
    gives_is = subst (λ (r : Reply). gives place r ≡ true) (ap (answer_to w.books) bytes.is ∙ answer_is s bytes.most bytes.standby) parts.1

    none : (d : AppDuty) (ds : List AppDuty) (a : AppState) → Some (app_ask d a) ≡ Some ask → ⊥
    none d ds a there = app_asks_none d a s path bytes.most bytes.standby (same_Some (app_ask d a) ask there ∙ bytes.is)

    by : (m : Actor (List ℕ)) → MemberFacts start (member_takes octets (answer_to w.books ask) m) → IsReady m → member_asks octets m ≡ Some ask
        → Pending start s place (member_takes octets (answer_to w.books ask) m)
    by (App a) later ready there = (elim a.agenda as (λ todo. app_asks_first todo a ≡ Some ask → Pending start s place (member_takes octets (answer_to w.books ask) (App a)))
        [ [] ↦ λ there. cc | d ∷ ds ↦ λ there. absurd (none d ds a there) ]) there
    by (Path p) later ready there =
        let reply = ap (answer_to w.books) bytes.is ∙ answer_is s bytes.most bytes.standby in
        subst (λ (r : Reply). Pending start s place (Path (takes octets r p))) (sym reply)
        (path_pending start s (send_of s (books_in w.books)) (fit.tiles s) (fit.prefixes s) (fit.short s) path bytes.most place bytes.standby p ready.0 ready.1
        (there ∙ ap Some bytes.is) gives_is (subst (λ (r : Reply). PathFacts start (takes octets r p)) reply later))

ready_next : (m : Actor (List ℕ)) (r : Reply) → IsReady m → IsReady (member_takes octets r m)
ready_next (App a) r ready = tt
ready_next (Path p) r ready = (settled_settled (answers octets p.agenda r p).agenda (answers octets p.agenda r p), takes_acks octets r p ready.1)

ready_begins : (m : Actor (List ℕ)) → IsReady m → IsReady (member_next m)
ready_begins (App a) ready = tt
ready_begins (Path p) ready =
    let q : PathState (List ℕ) = record p { clock = p.until; until = p.until + 100 } in
    (settled_settled start_of_turn (with_agenda start_of_turn q), begins_acks q (record { a = ready.1.a; b = ready.1.b }))

-- ---- a turn

step_stands : (start : Start) (i : ℕ) (ask : Ask) (c : ActorCrew (List ℕ)) (w : WorldState (List ℕ)) (trace : List Sent) → BooksFit start w → MomentFacts start (asked octets i (Some ask) c w)
    → slice_get w.crew i ≡ Some c → member_asks octets c.member ≡ Some ask → Stands start trace w → Stands start (trace ++ option_to_list (sent_next i w)) (asked octets i (Some ask) c w)
step_stands start i ask c w trace fit later there asks h = record {
  ready = λ k x at. ready_at k x (in_set w.crew i after_it k x at);
  told = λ k x at j n at_note s path place is. told_at k x j n at_note s path place is (in_set w.crew i after_it k x at);
}
  where
    after_it : ActorCrew (List ℕ)
    after_it = crew_after octets ask w.books c

    Told : Side → ℕ → ActorCrew (List ℕ) → Type 0
    Told s place x = Has (CarriesTold start s place) (trace ++ option_to_list (sent_next i w)) ⊎ Pending start s place x.member

    ready_at : (k : ℕ) (x : ActorCrew (List ℕ)) → ((k ≡ i) × (after_it ≡ x)) ⊎ ((k ≡ i → ⊥) × (slice_get w.crew k ≡ Some x)) → IsReady x.member
    ready_at k x (inl here) = subst (λ (y : ActorCrew (List ℕ)). IsReady y.member) here.1 (ready_next c.member (answer_to w.books ask) (h.ready i c there))
    ready_at k x (inr other) = h.ready k x other.1

    own : (j : ℕ) (n : Note) (s : Side) (path place : ℕ) → grants_byte s path place n ≡ true
        → (slice_get c.list j ≡ Some n) ⊎ ((length c.list ≤ j) × (slice_get (note_of w.books c.pass ask ∷ []) (j - length c.list) ≡ Some n)) → Told s place after_it
    own j n s path place is (inl old) = ⊎_elim (λ has. inl (Has-more (option_to_list (sent_next i w)) has))
        (λ pending. inl (handed_now start s place i c w trace there pending)) (h.told i c there j n old s path place is)
    own j n s path place is (inr new) =
        let one = in_one (note_of w.books c.pass ask) n (j - length c.list) new.1 in
        inr (new_pending start ask c w fit (later i after_it (put_there w.crew i after_it (slice_get_within w.crew i c there))) (h.ready i c there) asks s path place (subst (λ (m : Note). grants_byte s path place m ≡ true) (sym one.1) is))

    told_at : (k : ℕ) (x : ActorCrew (List ℕ)) (j : ℕ) (n : Note) → slice_get x.list j ≡ Some n → (s : Side) (path place : ℕ) → grants_byte s path place n ≡ true
        → ((k ≡ i) × (after_it ≡ x)) ⊎ ((k ≡ i → ⊥) × (slice_get w.crew k ≡ Some x)) → Told s place x
    told_at k x j n at_note s path place is (inl here) =
        subst (Told s place) here.1
        (own j n s path place is (in_append c.list (note_of w.books c.pass ask ∷ []) j n (subst (λ (y : ActorCrew (List ℕ)). slice_get y.list j ≡ Some n) (sym here.1) at_note)))
    told_at k x j n at_note s path place is (inr other) = ⊎_elim (λ has. inl (Has-more (option_to_list (sent_next i w)) has)) (λ pending. inr pending) (h.told k x other.1 j n at_note s path place is)

-- an actor whose turn ended has nothing pending
over_none : (start : Start) (s : Side) (place : ℕ) (m : Actor (List ℕ)) → is_over m ≡ true → Pending start s place m → ⊥
over_none start s place (App a) over pending = pending
over_none start s place (Path p) over pending = (elim p.agenda as (λ todo. p.agenda ≡ todo → is_nil todo ≡ true → ⊥) [
  | [] ↦ λ agenda over. nothing (sym (ap (λ (todo : List Duty). option_map (sent_as p) (option_map (departing_as p) (first_sends todo p))) agenda) ∙ pending.1)
  | d ∷ ds ↦ λ agenda over. false≢true over
]) refl over
  where
    nothing : None ≡ Some pending.0 → ⊥
    nothing is = cc

over_at : (crew : List (ActorCrew (List ℕ))) (i : ℕ) (c : ActorCrew (List ℕ)) → all_over crew ≡ true → slice_get crew i ≡ Some c → is_over c.member ≡ true
over_at [] i c over there = cc
over_at (x ∷ crew) zero c over there = subst (λ (y : ActorCrew (List ℕ)). is_over y.member ≡ true) (same_Some x c there) (and_parts (is_over x.member) (all_over crew) over).0
over_at (x ∷ crew) (suc i) c over there = over_at crew i c (and_parts (is_over x.member) (all_over crew) over).1 there

round_stands : (start : Start) (w : WorldState (List ℕ)) (trace : List Sent) → Stands start trace w → Stands start trace (end_round w)
round_stands start w trace h = by (all_over w.crew) refl
  where
    next : all_over w.crew ≡ true → Stands start trace (record w { crew = map (begins (greatest 0 w.crew)) w.crew })
    next over = record {
      ready = λ i c at. let found = in_map (begins (greatest 0 w.crew)) w.crew i c at in
          subst (λ (y : ActorCrew (List ℕ)). IsReady y.member) found.2 (ready_begins found.0.member (h.ready i found.0 found.1));
      told = λ i c at j n at_note s path place is. let found = in_map (begins (greatest 0 w.crew)) w.crew i c at in
          ⊎_elim (λ has. inl has) (λ pending. absurd (over_none start s place found.0.member (over_at w.crew i found.0 over found.1) pending))
          (h.told i found.0 found.1 j n (subst (λ (y : ActorCrew (List ℕ)). slice_get y.list j ≡ Some n) (sym found.2) at_note) s path place is);
    }

    by : (b : Bool) → all_over w.crew ≡ b → Stands start trace (if b then record w { crew = map (begins (greatest 0 w.crew)) w.crew } else w)
    by = elim [ true ↦ λ over. next over | false ↦ λ over. h ]

turn_stands : (start : Start) (turn : Turn) (w : WorldState (List ℕ)) (trace : List Sent) → BooksFit start w → MomentFacts start (after_turn octets turn w) → Stands start trace w
    → Stands start (trace ++ sent_at turn w) (after_turn octets turn w)
turn_stands start (Turn.Step i) w trace fit later h =
    (elim (slice_get w.crew i) as (λ o. slice_get w.crew i ≡ o → MomentFacts start (stepped octets i o w) → Stands start (trace ++ option_to_list (sent_next i w)) (stepped octets i o w))
    [ None ↦ λ there later. more_stands start trace (option_to_list (sent_next i w)) w h | Some c ↦ λ there later. at c (member_asks octets c.member) there refl later ]) refl later
  where
    at : (c : ActorCrew (List ℕ)) (o : Option Ask) → slice_get w.crew i ≡ Some c → member_asks octets c.member ≡ o → MomentFacts start (asked octets i o c w)
        → Stands start (trace ++ option_to_list (sent_next i w)) (asked octets i o c w)
    at c None there asks later = more_stands start trace (option_to_list (sent_next i w)) w h
    at c (Some ask) there asks later = step_stands start i ask c w trace fit later there asks h
turn_stands start Turn.Round w trace fit later h = round_stands start w (trace ++ []) (more_stands start trace [] w h)

run_stands : (start : Start) (turns : List Turn) (w : WorldState (List ℕ)) (trace : List Sent) → ((more : List Turn) → BooksFit start (world_run octets more w)) → Stands start trace w
    → Stands start (trace ++ trace_of turns w) (world_run octets turns w)
run_stands start [] w trace fit h = more_stands start trace [] w h
run_stands start (turn ∷ turns) w trace fit h =
    subst (λ (t : List Sent). Stands start t (world_run octets turns (after_turn octets turn w))) (append_assoc trace (sent_at turn w) (trace_of turns (after_turn octets turn w)))
    (run_stands start turns (after_turn octets turn w) (trace ++ sent_at turn w) (λ more. fit (turn ∷ more)) (turn_stands start turn w trace (fit []) (fit (turn ∷ [])).facts h))

-- ---- the opening

path_ready : (start : PathStart) (lines : List ScriptLine) → IsReady (Path (first_turn start lines))
path_ready start lines = (settled_settled start_of_turn (with_agenda start_of_turn q), begins_acks q (record { a = waits start.joined_at; b = λ may. absurd (false≢true may) }))
  where
    q : PathState (List ℕ)
    q = waiting_path start lines

    waits : (o : Option ℕ) → may_finish (first_state o) ≡ true → 1 ≤ 0
    waits = elim [ None ↦ λ may. absurd (false≢true may) | Some tick ↦ λ may. absurd (false≢true may) ]

-- an actor that made no step, and is ready
record IsNew (c : ActorCrew (List ℕ)) : Type 0 where
  pub ready : IsReady c.member
  pub none : c.list ≡ []

paths_new : (start : Start) (first : ℕ) (plans : List PathPlan) (i : ℕ) (c : ActorCrew (List ℕ)) → slice_get (paths_from {C = List ℕ} start first plans) i ≡ Some c → IsNew c
paths_new start first [] i c there = cc
paths_new start first (plan ∷ plans) zero c there =
    subst IsNew (same_Some (new_path {C = List ℕ} start first plan) c there) (record { ready = path_ready (path_begins start first plan) start.lines; none = refl })
paths_new start first (plan ∷ plans) (suc i) c there = paths_new start (suc first) plans i c there

crew_new : (start : Start) (i : ℕ) (c : ActorCrew (List ℕ)) → slice_get (opened_world {C = List ℕ} start).crew i ≡ Some c → IsNew c
crew_new start zero c there = subst IsNew (same_Some _ c there) (record { ready = tt; none = refl })
crew_new start (suc zero) c there = subst IsNew (same_Some _ c there) (record { ready = tt; none = refl })
crew_new start (suc (suc i)) c there = paths_new start 0 start.paths i c there

opened_stands : (start : Start) → Stands start [] (opened_world start)
opened_stands start = record {
  ready = λ i c there. (crew_new start i c there).ready;
  told = λ i c there j n at s path place is. absurd (empty j n (sym (ap (λ (list : List Note). slice_get list j) (crew_new start i c there).none) ∙ at));
}
  where
    empty : (j : ℕ) (n : Note) → slice_get {X = Note} [] j ≡ Some n → ⊥
    empty j n at = cc

-- ---- the end

-- the books at every moment
books_fit : (start : Start) (turns : List Turn) → IsPlain start → NumbersFit start → BooksFit start (world_run octets turns (opened_world start))
books_fit start turns plain fit = record {
  tiles = λ s. subst (λ (w : WorldState (List ℕ)). Tile (send_of s (books_in w.books))) (sym (run_fresh start turns plain.size fit)) (tile s);
  prefixes = prefix;
  short = short;
  facts = moment_facts start turns plain fit;
}
  where
    v : WorldState Carried
    v = world_run values turns (opened_world start)

    tile : (s : Side) → Tile (send_of s (books_in v.books))
    tile A = let can = plainly start plain in let n = all_noted start can (plainly_free start plain) turns in subst Tile (same_books can.links start n.0 v n.1.shows A) (records_fit _ n.0.ab n.1.holds.ab).tile
    tile B = let can = plainly start plain in let n = all_noted start can (plainly_free start plain) turns in subst Tile (same_books can.links start n.0 v n.1.shows B) (records_fit _ n.0.ba n.1.holds.ba).tile

    prefix : (s : Side) → IsPrefix (send_of s (books_in (world_run octets turns (opened_world start)).books)).written (pick s start.file_a start.file_b)
    prefix A = (writes_the_files octets start turns).a.prefix
    prefix B = (writes_the_files octets start turns).b.prefix

    within : (file written : List ℕ) → IsPrefix written file → length file < 2 ^ 31 - 2 → length written < 2 ^ 64
    within file written begins_so small = let same = ap length begins_so.whole_is in omega (arith, same, small, length-append written begins_so.rest)

    short : (s : Side) → length (send_of s (books_in (world_run octets turns (opened_world start)).books)).written < 2 ^ 64
    short A = within start.file_a _ (prefix A) fit.short_a
    short B = within start.file_b _ (prefix B) fit.short_b

-- an item whose number isn't 0
abbrev ItemWith : {X : Type 0} → (X → ℕ) → List X → Type 0
ItemWith {X} f xs = (i : ℕ) × ((x : X) × ((slice_get xs i ≡ Some x) × (1 ≤ f x)))

-- where the sum isn't
item_of_sum : {X : Type 0} (f : X → ℕ) (m : ℕ) (xs : List X) → m < fold (λ n x. n + f x) m xs → ItemWith f xs
item_of_sum f m [] more = absurd (omega (arith, more))
item_of_sum {X} f m (x ∷ xs) more = (elim (cases_lt 0 (f x)) as (λ xx. (m + f x < fold (λ (n : ℕ) (y : X). n + f y) (m + f x) xs → ItemWith f xs) → ItemWith f (x ∷ xs)) [
  | inl some ↦ λ rest. (0, (x, (refl, omega (arith, some))))
  | inr none ↦ λ rest. let found = rest (omega (arith, more, none)) in (suc found.0, (found.1.0, (found.1.1.0, found.1.1.1)))
]) (item_of_sum f (m + f x) xs)

-- the turns of a lawful list end a round where all are over
lawful_over : (turns : List Turn) (w : WorldState (List ℕ)) → AreLawful octets (ended turns) w → all_over (world_run octets turns w).crew ≡ true
lawful_over [] w lawful = lawful.0
lawful_over (turn ∷ turns) w lawful = lawful_over turns (after_turn octets turn w) lawful.1

trace_append : (xs ys : List Turn) (w : WorldState (List ℕ)) → trace_of (xs ++ ys) w ≡ trace_of xs w ++ trace_of ys (world_run octets xs w)
trace_append [] ys w = refl
trace_append (x ∷ xs) ys w =
    ap (λ (t : List Sent). sent_at x w ++ t) (trace_append xs ys (after_turn octets x w))
    ∙ sym (append_assoc (sent_at x w) (trace_of xs (after_turn octets x w)) (trace_of ys (world_run octets xs (after_turn octets x w))))

-- what was granted before a round's end was granted
granted_before : (s : Side) (place : ℕ) (w : WorldState (List ℕ)) → WasGranted s place (end_round w).crew → WasGranted s place w.crew
granted_before s place w h = (elim (all_over w.crew) as (λ b. WasGranted s place (if b then record w { crew = map (begins (greatest 0 w.crew)) w.crew } else w).crew → WasGranted s place w.crew)
    [ true ↦ λ h. let same = same_from s h.path place (greatest 0 w.crew) 0 w.crew in let was = h.granted in record { path = h.path; granted = omega (arith, same, was) } | false ↦ λ h. h ]) h

-- what was granted by the end of a round was sent
granted_sent : (start : Start) (trace : List Sent) (w : WorldState (List ℕ)) → Stands start trace w → all_over w.crew ≡ true → (s : Side) (place : ℕ) → WasGranted s place w.crew
    → Has (CarriesTold start s place) trace
granted_sent start trace w h over s place granted =
    let at = item_of_sum (λ (c : ActorCrew (List ℕ)). count_by (grants_byte s granted.path place) c.list) 0 w.crew granted.granted in
    let note = item_of_sum (λ (n : Note). if grants_byte s granted.path place n then 1 else 0) 0 at.1.0.list at.1.1.1 in
    ⊎_elim (λ has. has) (λ pending. absurd (over_none start s place at.1.0.member (over_at w.crew at.0 at.1.0 over at.1.1.0) pending))
    (h.told at.0 at.1.0 at.1.1.0 note.0 note.1.0 note.1.1.0 s granted.path place (is_so (grants_byte s granted.path place note.1.0) note.1.1.1))
  where
    is_so : (b : Bool) → 1 ≤ (if b then 1 else 0) → b ≡ true
    is_so = elim [ true ↦ λ some. refl | false ↦ λ some. absurd (omega (arith, some)) ]

-- each octet of the files was in a segment that told its place
pub delivered_were_told : (start : Start) (turns : List Turn) → IsPlain start → NumbersFit start → AreLawful octets (ended turns) (opened_world start)
    → outcome_of (world_run octets (ended turns) (opened_world start)).crew ≡ Delivered
    → (s : Side) (place : ℕ) → place < length (pick s start.file_a start.file_b) → Has (CarriesTold start s place) (trace_of (ended turns) (opened_world start))
delivered_were_told start turns plain fit lawful delivered s place below =
    let w = world_run octets turns (opened_world start) in
    let stood : Stands start (trace_of turns (opened_world start)) w =
    run_stands start turns (opened_world start) [] (λ more. books_fit start more plain fit) (opened_stands start) in
    let granted = delivered_were_granted start (ended turns) plain fit delivered s place below in
    let before = granted_before s place w (subst (λ (x : WorldState (List ℕ)). WasGranted s place x.crew) (run_append octets turns (Turn.Round ∷ []) (opened_world start)) granted) in
    subst (Has (CarriesTold start s place)) (sym (trace_append turns (Turn.Round ∷ []) (opened_world start)))
    (Has-more (trace_of (Turn.Round ∷ []) w) (granted_sent start (trace_of turns (opened_world start)) w stood (lawful_over turns (opened_world start) lawful) s place before))

pub delivered_were_sent : DeliveredFilesWereSent
delivered_were_sent start turns plain fit lawful delivered s place below =
    let has = delivered_were_told start turns plain fit lawful delivered s place below in
    record { at = has.at; item = has.item; there = has.there; holds = has.holds.carries }
