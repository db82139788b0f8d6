-- At each moment of a run whose script alters no payload: what was granted to a path is in the trace, or goes out by its next step.
use Rattle.std.proofs.Common.{◌≡◌, refl, sym, ap, ◌∙◌, subst, ℕ, zero, suc, ◌+◌, ◌-◌, ◌≤◌, ◌<◌, ◌⊎◌, inl, inr, ⊎_elim, Bool, true, false, if◌then◌else◌, Option, Some, None, List, [], ◌∷◌, ◌++◌, append_assoc, append-nil, length, length-append, take, drop, map, arith}
use Rattle.std.specs.List.{slice_get}
use Rattle.std.specs.Option.{option_and_then, option_map, option_to_list}
use Rattle.std.proofs.Math.ListN.{set}
use Rattle.std.specs.Prelude.{Result, Ok, Err}
use Rattle.std.proofs.lemmas.Bool.{and_parts, cases_lt, false≢true}
use Rattle.std.proofs.lemmas.List.{drop-append-le, length-drop, length-take, take-append-le}
use Rattle.std.proofs.lemmas.Option.{slice_get_within}
use Rattle.octet_text.specs.Prefix.{IsPrefix}
use Rattle.actor_desk.specs.Books.{books_in}
use Rattle.actor_desk.specs.Desk.{send_of}
use Rattle.actor_desk.specs.Words.{is_nil}
use Rattle.actor_desk.specs.declared.ask.Ask.{Ask}
use Rattle.actor_desk.specs.declared.ask.LocalStep.{LocalStep}
use Rattle.actor_desk.specs.declared.ask.Reply.{Reply}
use Rattle.judge_laws.proofs.Books.{set_either}
use Rattle.judge_laws.proofs.Standing.{some_same}
use Rattle.link_trace.specs.declared.sent.Sent.{Sent}
use Rattle.path_agenda.specs.declared.duty.Duty.{Duty}
use Rattle.path_agenda.specs.declared.duty.StepDuty.{StepDuty}
use Rattle.path_core.specs.Duties.{ask_for, stands}
use Rattle.path_core.specs.Emission.{data_stands, first_unsent, may_ask, payload_size}
use Rattle.path_core.specs.End.{PathEnd}
use Rattle.path_core.specs.Looking.{HandsOrTellsNone, first_sends, unsent_sends}
use Rattle.path_core.specs.Shown.{shown_path}
use Rattle.path_core.specs.State.{PathState, end_at, path_of}
use Rattle.path_core.specs.Steps.{asks_first, asks_of, takes}
use Rattle.path_core.specs.Turns.{FirstStands}
use Rattle.path_core.specs.Values.{Carried, values}
use Rattle.run_trace.specs.Trace.{sent_at, sent_by, sent_next, trace_of}
use Rattle.send_book.proofs.Grants.{granted_pieces_are_whole}
use Rattle.send_book.proofs.Lists.{slice_get-append_left}
use Rattle.send_book.specs.Laws.{IsPieceOf}
use Rattle.send_book.specs.State.{Sending, Tile}
use Rattle.send_book.specs.Steps.{decision, reply_by, reply_to as send_reply}
use Rattle.send_book.specs.declared.call.Span.{Span}
use Rattle.send_book.specs.declared.call.Why.{Why}
use Rattle.send_book.specs.declared.call.SendCall.{SendCall}
use Rattle.send_book.specs.declared.call.SendReply.{SendReply}
use Rattle.sides.specs.Side.{peer}
use Rattle.sides.specs.declared.side.Side.TheVariants.{A, B}
use Rattle.sides.specs.declared.side.Side.{Side}
use Rattle.stream_apps.specs.AppSteps.{app_ask, app_asks_first, app_asks_of}
use Rattle.stream_apps.specs.Apps.{AppState}
use Rattle.stream_apps.specs.declared.duty.AppDuty.{AppDuty}
use Rattle.stream_lanes.proofs.Bytes.{in_cells_from, length-cells_from}
use Rattle.stream_lanes.proofs.Lists.{Has-more, in_append, in_map, in_set}
use Rattle.path_core.specs.Octets.{octets}
use Rattle.stream_lanes.proofs.Duos.{any_held}
use Rattle.stream_lanes.proofs.Promises.{records_fit}
use Rattle.stream_lanes.specs.Duo.{Duo, Event, after_events}
use Rattle.stream_lanes.specs.Holding.{Holds}
use Rattle.stream_lanes.specs.Lane.{Cell, Lane}
use Rattle.stream_lanes.specs.Marks.{spent_count}
use Rattle.stream_lanes.specs.Moves.{cells_from, takes_grant}
use Rattle.stream_lanes.specs.Words.{Has}
use Rattle.subflow_send.specs.Records.{Record}
use Rattle.subflow_tcp.specs.States.{may_finish}
use Rattle.subflow_tcp.specs.declared.handshake.State.{State as EndPhase}
use Rattle.world_core.specs.Looking.{crew_path, member_path}
use Rattle.world_laws.proofs.Lanes.Beginning.{opened_reached}
use Rattle.world_laws.proofs.Lanes.EveryTurn.{each_turn_shows}
use Rattle.world_laws.proofs.Lanes.OfAWorld.{Carries as MayCarry, Reached, Shown, TurnShows, WorldShows, asked_by, asked_in, call_events, events_append, first_duo, free_turn, plainly, plainly_free, turn_events, turn_is}
use Rattle.world_laws.proofs.Lanes.Showing.{is_unfinished}
use Rattle.world_laws.proofs.Rounds.PiecesFit.{MemberFits, PathFits, fits_at}
use Rattle.world_laws.proofs.Promises.Made.{run_fresh}
use Rattle.world_laws.proofs.Weaving.WholeRounds.{run_append}
use Rattle.world_laws.proofs.Worlds.CastLifting.{each_actor, writes_the_files}
use Rattle.world_laws.proofs.Worlds.Casts.{map_there}
use Rattle.world_laws.proofs.Worlds.Steady.{always_steady}
use Rattle.world_laws.specs.Actors.{Actor, ActorCrew, is_over, member_asks, member_next, member_takes}
use Rattle.world_laws.specs.Fresh.{shown_crew, shown_member, shown_world}
use Rattle.world_laws.specs.Openings.{Start, opened_world}
use Rattle.world_laws.specs.Promises.{IsPlain, NumbersFit}
use Rattle.world_laws.specs.StampedBooks.{answer_to}
use Rattle.world_laws.specs.Worlds.{Turn, WorldState, after_turn, all_over, asked, begins, crew_after, end_round, greatest, stepped, world_run, world_step}
use Rattle.world_laws.specs.declared.member.Member.TheVariants.{App, Path}
use Rattle.own_runs.specs.Runs.{file_of}
use Rattle.own_runs.proofs.Begun.{always_begun}
use Rattle.own_runs.proofs.Granted.{GivesTo, Silently, call_so, silent_events, way}
use Rattle.own_runs.proofs.Handed.{Covered, HasPart, IsAt, SideSent, ToldBy, Waits, asks_told, full_sent, handed, is_at, lane_there, stay_sent}
use Rattle.own_runs.proofs.Moments.{MemberSpeaks, valued}
use Rattle.own_runs.proofs.NextSent.{sent_of}
use Rattle.own_runs.proofs.Pending.{SendsNext, duty_asks, gives, granted_next, granted_other}

-- ---- what a turn makes of a lane

-- a record behind a reply to an ask for bytes
abbrev grown : SendReply → List Cell → List Cell
grown (SendReply.Granted span piece) sent = sent ++ cells_from span.from piece
grown _ sent = sent

grant_is : (reply : SendReply) (p : Lane) → ((takes_grant reply p).sent ≡ grown reply p.sent) × ((takes_grant reply p).edge ≡ p.edge)
grant_is (SendReply.Granted span piece) p = (refl, refl)
grant_is _ p = (refl, refl)

-- the path of this number was granted what its book gave
record LaneGiven (s : Side) (ask : Option Ask) (d : Duo) (n : ℕ) (lane later : Lane) : Type 0 where
  most : ℕ
  standby : Bool
  ask_is : ask ≡ Some (Ask.Send s (SendCall.Grant n most standby))
  sent : later.sent ≡ grown (send_reply (way s d).send (SendCall.Grant n most standby)) lane.sent
  edge : later.edge ≡ lane.edge

lane_turn : (ask : Option Ask) (d e : Duo) (t : TurnShows ask d e) (s : Side) (n : ℕ) (lane later : Lane) → slice_get (way s d).lanes n ≡ Some lane → slice_get (way s e).lanes n ≡ Some later
    → (later.sent ≡ lane.sent) ⊎ LaneGiven s ask d n lane later
lane_turn ask d e t s n lane later there later_there =
    let m = before.lanes n lane there in
    ⊎_elim
    (λ same. let k = same n m.0 m.1 in inl (behind k.0 k.1 ∙ k.2 ∙ m.2.0))
    (λ g. by m.0 m.1 m.2.0 m.2.1 g (set_either (way s now).lanes g.path n (takes_grant (send_reply (way s now).send (SendCall.Grant g.path g.most g.standby)) g.lane) m.0 m.1))
    (call_so ask now t.call t.calls s)
  where
    now : Duo
    now = after_events t.before d

    then_ : Duo
    then_ = after_events (call_events t.call) now

    before : Silently s d now
    before = silent_events t.before s d t.before_silent

    after : Silently s then_ (after_events t.after then_)
    after = silent_events t.after s then_ t.after_silent

    -- the last moves leave the record
    end_is : (k : Lane) → slice_get (way s then_).lanes n ≡ Some k → (later.sent ≡ k.sent) × (later.edge ≡ k.edge)
    end_is k at =
        let last = after.lanes n k at in
        let same : last.0 ≡ later = some_same last.0 later (sym last.1 ∙ ap (λ (x : Duo). slice_get (way s x).lanes n) (sym t.to) ∙ later_there) in
        (ap (λ (l : Lane). l.sent) (sym same) ∙ last.2.0, ap (λ (l : Lane). l.edge) (sym same) ∙ last.2.1)

    behind : (k : Lane) → slice_get (way s then_).lanes n ≡ Some k → later.sent ≡ k.sent
    behind k at = (end_is k at).0

    gave : ℕ → ℕ → Bool → SendReply
    gave path most standby = send_reply (way s now).send (SendCall.Grant path most standby)

    by : (l : Lane) → slice_get (way s now).lanes n ≡ Some l → l.sent ≡ lane.sent → l.edge ≡ lane.edge → (g : GivesTo s ask now then_)
        → ((g.path ≡ n) × (slice_get (set (way s now).lanes g.path (takes_grant (gave g.path g.most g.standby) g.lane)) n ≡ Some (takes_grant (gave g.path g.most g.standby) g.lane)))
        ⊎ (slice_get (set (way s now).lanes g.path (takes_grant (gave g.path g.most g.standby) g.lane)) n ≡ Some l)
        → (later.sent ≡ lane.sent) ⊎ LaneGiven s ask d n lane later
    by l at sent edge g (inr other) = inl (behind l (ap (λ (lanes : List Lane). slice_get lanes n) g.lanes ∙ other) ∙ sent)
    by l at sent edge g (inl both) =
        let q : Lane = takes_grant (gave g.path g.most g.standby) g.lane in
        let is : g.lane ≡ l = some_same g.lane l (sym g.there ∙ ap (slice_get (way s now).lanes) both.0 ∙ at) in
        let last = end_is q (ap (λ (lanes : List Lane). slice_get lanes n) g.lanes ∙ both.1) in
        let grant = grant_is (gave g.path g.most g.standby) g.lane in
        inr (record {
          most = g.most;
          standby = g.standby;
          ask_is = g.ask_is ∙ ap (λ (path : ℕ). Some (Ask.Send s (SendCall.Grant path g.most g.standby))) both.0;
          sent = last.0 ∙ grant.0 ∙ ap (grown (gave g.path g.most g.standby)) (ap (λ (x : Lane). x.sent) is ∙ sent)
              ∙ ap (λ (path : ℕ). grown (send_reply (way s now).send (SendCall.Grant path g.most g.standby)) lane.sent) both.0
              ∙ ap (λ (b : Sending). grown (send_reply b (SendCall.Grant n g.most g.standby)) lane.sent) before.send;
          edge = last.1 ∙ grant.1 ∙ ap (λ (x : Lane). x.edge) is ∙ edge;
        })

-- ---- a moment

-- what is known of the actors and lanes of a world
pub record Moment (start : Start) (d : Duo) (w : WorldState Carried) : Type 0 where
  pub at : (n : ℕ) (c : ActorCrew Carried) → slice_get w.crew (suc (suc n)) ≡ Some c → (p : PathState Carried) → c.member ≡ Path p → (s : Side) (lane : Lane)
      → slice_get (way s d).lanes n ≡ Some lane → IsAt n s p lane
  pub lane : (n : ℕ) (c : ActorCrew Carried) → slice_get w.crew (suc (suc n)) ≡ Some c → (s : Side) → (lane : Lane) × (slice_get (way s d).lanes n ≡ Some lane)
  pub number : (i : ℕ) (c : ActorCrew Carried) → slice_get w.crew i ≡ Some c → (p : PathState Carried) → c.member ≡ Path p → i ≡ suc (suc (path_of p))
  pub fits : (i : ℕ) (c : ActorCrew Carried) → slice_get w.crew i ≡ Some c → MemberFits c.member
  pub book : (s : Side) → (way s d).send ≡ send_of s (books_in w.books)
  pub tile : (s : Side) → Tile (way s d).send
  pub prefix : (s : Side) → IsPrefix (way s d).send.written (file_of start s)

-- each side of each path
abbrev pub AllSent : Start → List Sent → Duo → WorldState Carried → Type 0
AllSent start trace d w = (n : ℕ) (c : ActorCrew Carried) → slice_get w.crew (suc (suc n)) ≡ Some c → (p : PathState Carried) → c.member ≡ Path p → (s : Side) (lane : Lane)
    → slice_get (way s d).lanes n ≡ Some lane → SideSent start trace n s p lane

-- an application asks for no bytes
no_grant : (a : AppState) (s : Side) (n most : ℕ) (standby : Bool) → app_asks_of a ≡ Some (Ask.Send s (SendCall.Grant n most standby)) → ⊥
no_grant a s n most standby is = by a.agenda is
  where
    one : (d : AppDuty) → Some (app_ask d a) ≡ Some (Ask.Send s (SendCall.Grant n most standby)) → ⊥
    one AppDuty.FastClose is = cc
    one _ is = cc

    by : (ds : List AppDuty) → app_asks_first ds a ≡ Some (Ask.Send s (SendCall.Grant n most standby)) → ⊥
    by [] is = cc
    by (d ∷ ds) is = one d is

-- ---- what a grant leaves

unfinished : (state : EndPhase) → may_finish state ≡ true → is_unfinished state ≡ true
unfinished EndPhase.Established may = refl
unfinished EndPhase.CloseWait may = refl
unfinished EndPhase.Waiting may = absurd (false≢true may)
unfinished _ may = absurd (false≢true may)

-- the duty that asks for these bytes
data_next : (p : PathState Carried) (s : Side) (n most : ℕ) (standby : Bool) → asks_of values p ≡ Some (Ask.Send s (SendCall.Grant n most standby))
    → (ds : List Duty) × (p.agenda ≡ Duty.Step (StepDuty.Data s) ∷ ds) × (first_unsent (end_at s p) ≡ None) × (path_of p ≡ n) × (most ≡ payload_size p.profile)
data_next p s n most standby is = by p.agenda refl is
  where
    by : (todo : List Duty) → p.agenda ≡ todo → asks_first values todo p ≡ Some (Ask.Send s (SendCall.Grant n most standby))
        → (ds : List Duty) × (p.agenda ≡ Duty.Step (StepDuty.Data s) ∷ ds) × (first_unsent (end_at s p) ≡ None) × (path_of p ≡ n) × (most ≡ payload_size p.profile)
    by [] todo is = cc
    by (d ∷ ds) todo is =
        let by_data = duty_asks p s n most standby d (some_same (ask_for values d p) (Ask.Send s (SendCall.Grant n most standby)) is) in
        (ds, todo ∙ ap (λ (x : Duty). x ∷ ds) by_data.duty, by_data.none, by_data.path_is, by_data.most_is)

module _ (start : Start) (trace more : List Sent) (n : ℕ) (s : Side) (p : PathState Carried) (lane later : Lane) (old : IsAt n s p lane) (fits : PathFits p) (b : Sending) (tile : Tile b) (prefix : IsPrefix b.written (file_of start s))
    (most : ℕ) (standby : Bool) (asks : asks_of values p ≡ Some (Ask.Send s (SendCall.Grant n most standby)))
    (edge : later.edge ≡ lane.edge) (upto : ℕ) (told : (position : ℕ) (cell : Cell) → position < upto → slice_get lane.sent position ≡ Some cell → Has (Covered start n s position cell.place) trace) (full : upto ≡ length lane.sent) where
  abbrev q : Reply → PathState Carried
  q reply = takes values reply p

  given : (reply : SendReply) → send_reply b (SendCall.Grant n most standby) ≡ reply → later.sent ≡ grown reply lane.sent → IsAt n s (q (Reply.Send reply)) later
      → SideSent start (trace ++ more) n s (q (Reply.Send reply)) later
  given (SendReply.Granted span piece) is sent new =
      let next = data_next p s n most standby asks in
      let stood : stands (Duty.Step (StepDuty.Data s)) p ≡ true = subst (λ (todo : List Duty). FirstStands todo p) next.1 old.settled in
      let may : may_ask p.profile s (end_at s p) ≡ true = subst (λ (o : Option Record). data_stands p.profile s (end_at s p) o ≡ true) next.2 stood in
      let begun = (and_parts (may_finish (end_at s p).tcp.state) _ may).0 in
      let size = old.room in
      let whole : IsPieceOf span piece most = granted_pieces_are_whole b n most standby span piece tile (let same : most ≡ p.profile.mss - 28 = next.4 in omega (arith, same, size)) is in
      let short : length piece ≤ payload_size p.profile = (let most_so = whole.most in let same = next.4 in omega (arith, most_so, same)) in
      let acked = (fits_at s p fits).begun in
      let sends = granted_next s next.0 span piece p next.1 next.2 may acked short in
      let other = granted_other s next.0 span piece p next.1 next.2 may acked short in
      let first = old.next (unfinished (end_at s p).tcp.state begun) in
      let long : length later.sent ≡ length lane.sent + length piece =
      ap (λ (cells : List Cell). length cells) sent ∙ length-append lane.sent (cells_from span.from piece) ∙ ap (λ (k : ℕ). length lane.sent + k) (length-cells_from span.from piece) in
      let same_edge : (end_at (peer s) (q (gives span piece))).tcp.recv.edge ≡ (end_at (peer s) p).tcp.recv.edge = ap (λ (e : PathEnd). e.tcp.recv.edge) other in
      record {
        upto = upto;
        told = λ position cell below there. Has-more more (told position cell below (before position cell (omega (arith, below, full)) there));
        edge = let within = old.within in omega (arith, within, full, edge);
        rest = inr (record {
          piece = piece;
          first = span.from;
          part = part whole.some whole.whole is;
          places = λ i cell there. (in_cells_from span.from piece i cell (behind i cell there)).0;
          next = subst (λ (k : ℕ). SendsNext s k piece (q (gives span piece))) (first ∙ ap suc (sym full)) sends;
          all = sym (long ∙ ap (λ (k : ℕ). k + length piece) (sym full));
          bound = bound (length piece) whole.some long same_edge old.recv new.recv;
        });
      }
    where
      before : (position : ℕ) (cell : Cell) → position < length lane.sent → slice_get later.sent position ≡ Some cell → slice_get lane.sent position ≡ Some cell
      before position cell below there =
          sym (slice_get-append_left lane.sent (cells_from span.from piece) position below) ∙ ap (λ (cells : List Cell). slice_get cells position) (sym sent) ∙ there

      behind : (i : ℕ) (cell : Cell) → slice_get later.sent (upto + i) ≡ Some cell → slice_get (cells_from span.from piece) i ≡ Some cell
      behind i cell there = by (in_append lane.sent (cells_from span.from piece) (upto + i) cell (ap (λ (cells : List Cell). slice_get cells (upto + i)) (sym sent) ∙ there))
        where
          by : (slice_get lane.sent (upto + i) ≡ Some cell) ⊎ ((length lane.sent ≤ upto + i) × (slice_get (cells_from span.from piece) ((upto + i) - length lane.sent) ≡ Some cell))
              → slice_get (cells_from span.from piece) i ≡ Some cell
          by (inl old) = absurd (let within = slice_get_within lane.sent (upto + i) cell old in omega (arith, within, full))
          by (inr new) = ap (slice_get (cells_from span.from piece)) (let same : i ≡ (upto + i) - length lane.sent = omega (arith, full) in same) ∙ new.1

      -- what is granted is a part of the file
      is_part : (r : Result Span Why) → reply_by r b ≡ SendReply.Granted span piece → piece ≡ take (span.to - span.from) (drop span.from b.written)
      is_part (Ok given) is = cc
      is_part (Err why) is = cc

      part : 1 ≤ length piece → length piece ≡ span.to - span.from → send_reply b (SendCall.Grant n most standby) ≡ SendReply.Granted span piece
          → piece ≡ take (length piece) (drop span.from (file_of start s))
      part some whole is =
          let count = span.to - span.from in
          let same = is_part (decision n most standby b) is in
          let taken = ap (λ (xs : List ℕ). length xs) same in
          let left = length-take count (drop span.from b.written) in
          let long = length-drop span.from b.written in
          let within : span.from + count ≤ length b.written = omega (arith, some, whole, taken, left, long) in
          same
          ∙ sym (ap (λ (xs : List ℕ). take count (drop span.from xs)) prefix.whole_is
          ∙ ap (take count) (drop-append-le span.from b.written prefix.rest (omega (arith, within)))
          ∙ take-append-le count (drop span.from b.written) prefix.rest (omega (arith, within, long)))
          ∙ ap (λ (k : ℕ). take k (drop span.from (file_of start s))) (sym whole)

      bound : (count : ℕ) → 1 ≤ count → length later.sent ≡ length lane.sent + count → (end_at (peer s) (q (gives span piece))).tcp.recv.edge ≡ (end_at (peer s) p).tcp.recv.edge
          → ((end_at (peer s) p).tcp.recv.edge ≡ suc lane.edge) ⊎ (((end_at (peer s) p).tcp.recv.edge ≡ suc (suc lane.edge)) × (lane.fin_in ≡ true))
          → ((end_at (peer s) (q (gives span piece))).tcp.recv.edge ≡ suc later.edge)
          ⊎ (((end_at (peer s) (q (gives span piece))).tcp.recv.edge ≡ suc (suc later.edge)) × (later.fin_in ≡ true))
          → (end_at (peer s) (q (gives span piece))).tcp.recv.edge ≤ suc upto
      bound count some long same (inl at) after = let within = old.within in omega (arith, at, same, within, full)
      bound count some long same (inr fin) (inl at) = let behind = fin.0 in absurd (omega (arith, behind, at, same, edge))
      bound count some long same (inr fin) (inr end) =
          let passed = new.past end.1 in let within = old.within in absurd (omega (arith, passed, within, long, some, edge))
  given reply is sent new = full_sent start trace more n s lane later sent p (q (Reply.Send reply)) new upto told full

-- ---- a turn

pub over_at : (crew : List (ActorCrew Carried)) (i : ℕ) (c : ActorCrew Carried) → all_over crew ≡ true → slice_get crew i ≡ Some c → is_over c.member ≡ true
over_at [] i c over there = cc
over_at (x ∷ crew) zero c over there = subst (λ (y : ActorCrew Carried). is_over y.member ≡ true) (some_same x c there) (and_parts (is_over x.member) (all_over crew) over).0
over_at (x ∷ crew) (suc i) c over there = over_at crew i c (and_parts (is_over x.member) (all_over crew) over).1 there

pub waits_none : (start : Start) (s : Side) (p : PathState Carried) (lane : Lane) (upto : ℕ) → is_nil p.agenda ≡ true → Waits start s p lane upto → ⊥
waits_none start s p lane upto over waits = by p.agenda over waits.next.sends
  where
    by : (todo : List Duty) → is_nil todo ≡ true → first_sends todo p ≡ unsent_sends s (Some waits.next.record_of) → ⊥
    by [] over is = cc
    by (d ∷ ds) over is = false≢true over

member_same : {x y : PathState Carried} → (let one : Actor Carried = Path x in one) ≡ Path y → x ≡ y
member_same e = cc

-- its paths speak
pub record SpeaksAt (start : Start) (w : WorldState Carried) : Type 0 where
  pub each : (i : ℕ) (c : ActorCrew Carried) → slice_get w.crew i ≡ Some c → (p : PathState Carried) → c.member ≡ Path p → ToldBy start p

module _ (start : Start) (d e : Duo) (w : WorldState Carried) (m : Moment start d w) (trace : List Sent) (h : AllSent start trace d w) where
  -- a path that is as it was, and is granted nothing
  same_path : (turn : Turn) (t : TurnShows (asked_in turn w) d e) (more : List Sent) (n : ℕ) (c : ActorCrew Carried) → slice_get w.crew (suc (suc n)) ≡ Some c → (p : PathState Carried) → c.member ≡ Path p
      → (s : Side) (later : Lane) → slice_get (way s e).lanes n ≡ Some later → ((most : ℕ) (standby : Bool) → asked_in turn w ≡ Some (Ask.Send s (SendCall.Grant n most standby)) → ⊥)
      → IsAt n s p later → SideSent start (trace ++ more) n s p later
  same_path turn t more n c there p member s later later_there none at =
      let lane = m.lane n c there s in
      ⊎_elim
      (λ same. stay_sent start trace more n s lane.0 later same p at (h n c there p member s lane.0 lane.1))
      (λ g. absurd (none g.most g.standby g.ask_is))
      (lane_turn (asked_in turn w) d e t s n lane.0 later lane.1 later_there)

  round_sent : (t : TurnShows (asked_in Turn.Round w) d e) → Moment start e (end_round w) → AllSent start (trace ++ []) e (end_round w)
  round_sent t = by (all_over w.crew) refl
    where
      began : (n : ℕ) (c : ActorCrew Carried) → slice_get w.crew (suc (suc n)) ≡ Some c → is_over c.member ≡ true → (stamp : ℕ) (p : PathState Carried) → (begins stamp c).member ≡ Path p → (s : Side) (later : Lane)
          → slice_get (way s e).lanes n ≡ Some later → IsAt n s p later → SideSent start (trace ++ []) n s p later
      began n c there over stamp p member s later later_there at = of_member c.member refl member over
        where
          none_asked : (most : ℕ) (standby : Bool) → None ≡ Some (Ask.Send s (SendCall.Grant n most standby)) → ⊥
          none_asked most standby is = cc

          of_member : (x : Actor Carried) → c.member ≡ x → member_next x ≡ Path p → is_over x ≡ true → SideSent start (trace ++ []) n s p later
          of_member (App a) is next over = cc
          of_member (Path p0) is next over =
              let lane = m.lane n c there s in
              let old = h n c there p0 is s lane.0 lane.1 in
              ⊎_elim
              (λ same. ⊎_elim (λ full. full_sent start trace [] n s lane.0 later same p0 p at old.upto old.told full) (λ waits. absurd (waits_none start s p0 lane.0 old.upto over waits)) old.rest)
              (λ g. absurd (none_asked g.most g.standby g.ask_is))
              (lane_turn (asked_in Turn.Round w) d e t s n lane.0 later lane.1 later_there)

      by : (b : Bool) → all_over w.crew ≡ b → Moment start e (if b then record w { crew = map (begins (greatest 0 w.crew)) w.crew } else w)
          → AllSent start (trace ++ []) e (if b then record w { crew = map (begins (greatest 0 w.crew)) w.crew } else w)
      by false over new n c there p member s later later_there =
          same_path Turn.Round t [] n c there p member s later later_there (λ most standby is. none_is is) (new.at n c there p member s later later_there)
        where
          none_is : {x : Ask} → None ≡ Some x → ⊥
          none_is is = cc
      by true over new n c there p member s later later_there =
          let found = in_map (begins (greatest 0 w.crew)) w.crew (suc (suc n)) c there in
          began n found.0 found.1 (over_at w.crew (suc (suc n)) found.0 over found.1) (greatest 0 w.crew) p (ap (λ (y : ActorCrew Carried). y.member) found.2 ∙ member) s later later_there
          (new.at n c there p member s later later_there)

  module _ (i : ℕ) (speaks : SpeaksAt start w) (t : TurnShows (asked_in (Turn.Step i) w) d e) where
    abbrev more : List Sent
    more = option_to_list (sent_next i (shown_world w))

    -- the path that makes the step
    own_sent : (n : ℕ) (c : ActorCrew Carried) → slice_get w.crew i ≡ Some c → suc (suc n) ≡ i → (x : Ask) → member_asks values c.member ≡ Some x → (p0 : PathState Carried) → c.member ≡ Path p0
        → (s : Side) (later : Lane) → slice_get (way s e).lanes n ≡ Some later → IsAt n s (takes values (answer_to w.books x) p0) later
        → SideSent start (trace ++ more) n s (takes values (answer_to w.books x) p0) later
    own_sent n c there i_is x asks p0 member s later later_there at =
        ⊎_elim
        (λ same. ⊎_elim (λ full. full_sent start trace more n s lane.0 later same p0 (takes values (answer_to w.books x) p0) at old.upto old.told full) (λ waits. goes waits same) old.rest)
        (λ g. ⊎_elim (λ full. grants g full) (λ waits. absurd (neither waits g)) old.rest)
        (lane_turn (asked_in (Turn.Step i) w) d e t s n lane.0 later lane.1 later_there)
      where
        there_n : slice_get w.crew (suc (suc n)) ≡ Some c
        there_n = ap (slice_get w.crew) i_is ∙ there

        lane : (l : Lane) × (slice_get (way s d).lanes n ≡ Some l)
        lane = m.lane n c there_n s

        old : SideSent start trace n s p0 lane.0
        old = h n c there_n p0 member s lane.0 lane.1

        old_at : IsAt n s p0 lane.0
        old_at = m.at n c there_n p0 member s lane.0 lane.1

        says : ToldBy start p0
        says = speaks.each i c there p0 member

        own_asks : asks_of values p0 ≡ Some x
        own_asks = ap (member_asks values) (sym member) ∙ asks

        asked_is : (most : ℕ) (standby : Bool) → asked_in (Turn.Step i) w ≡ Some (Ask.Send s (SendCall.Grant n most standby)) → x ≡ Ask.Send s (SendCall.Grant n most standby)
        asked_is most standby is = some_same x (Ask.Send s (SendCall.Grant n most standby)) (sym (ap asked_by there ∙ asks) ∙ is)

        -- what waited goes out
        goes : Waits start s p0 lane.0 old.upto → later.sent ≡ lane.0.sent → SideSent start (trace ++ more) n s (takes values (answer_to w.books x) p0) later
        goes waits same = record {
          upto = length later.sent;
          told = λ position cell below there_cell.
              let was = ap (λ (cells : List Cell). slice_get cells position) (sym same) ∙ there_cell in
              ⊎_elim
              (λ before. Has-more more (old.told position cell before was))
              (λ behind. let long = ap (λ (cells : List Cell). length cells) same in let all = waits.all in
              handed start n s p0 old_at.numbered old.upto waits.piece waits.next says trace (sent_next i (shown_world w)) next_is position cell.place behind (omega (arith, below, long, all))
              (has_part position cell behind (omega (arith, below, long, all)) was))
              (cases_lt position old.upto);
          edge = at.within;
          rest = inl refl;
        }
          where
            has_part : (position : ℕ) (cell : Cell) → old.upto ≤ position → position < old.upto + length waits.piece → slice_get lane.0.sent position ≡ Some cell
                → HasPart (file_of start s) cell.place waits.piece
            has_part position cell low high was =
                let place = waits.places (position - old.upto) cell (ap (slice_get lane.0.sent) (let at : old.upto + (position - old.upto) ≡ position = omega (arith, low) in at) ∙ was) in
                record { first = waits.first; below = omega (arith, place); above = omega (arith, place, low, high); part = waits.part }

            next_is : sent_next i (shown_world w) ≡ sent_of (shown_path p0) (first_sends p0.agenda (shown_path p0))
            next_is =
                ap (λ (o : Option (ActorCrew (List ℕ))). option_and_then sent_by (crew_path o)) (map_there shown_crew w.crew i ∙ ap (option_map shown_crew) there)
                ∙ ap (λ (y : Actor Carried). option_and_then sent_by (member_path (shown_member y))) member

        answer_is : (s : Side) (n most : ℕ) (standby : Bool)
            → answer_to w.books (Ask.Send s (SendCall.Grant n most standby)) ≡ Reply.Send (send_reply (send_of s (books_in w.books)) (SendCall.Grant n most standby))
        answer_is A n most standby = refl
        answer_is B n most standby = refl

        grants : LaneGiven s (asked_in (Turn.Step i) w) d n lane.0 later → old.upto ≡ length lane.0.sent → SideSent start (trace ++ more) n s (takes values (answer_to w.books x) p0) later
        grants g full =
            let x_is = asked_is g.most g.standby g.ask_is in
            let reply : answer_to w.books x ≡ Reply.Send (send_reply (way s d).send (SendCall.Grant n g.most g.standby)) =
            ap (answer_to w.books) x_is ∙ answer_is s n g.most g.standby ∙ ap (λ (b : Sending). Reply.Send (send_reply b (SendCall.Grant n g.most g.standby))) (sym (m.book s)) in
            subst (λ (r : Reply). SideSent start (trace ++ more) n s (takes values r p0) later) (sym reply)
            (given start trace more n s p0 lane.0 later old_at (subst MemberFits member (m.fits i c there)) (way s d).send (m.tile s) (m.prefix s) g.most g.standby (own_asks ∙ ap (λ (y : Ask). Some y) x_is) g.edge old.upto old.told full
            (send_reply (way s d).send (SendCall.Grant n g.most g.standby)) refl g.sent (subst (λ (r : Reply). IsAt n s (takes values r p0) later) reply at))

        neither : Waits start s p0 lane.0 old.upto → LaneGiven s (asked_in (Turn.Step i) w) d n lane.0 later → ⊥
        neither waits g =
            let told : HandsOrTellsNone values p0 (unsent_sends s (Some waits.next.record_of)) = asks_told start n s p0 old_at.numbered old.upto waits.piece waits.next in
            none (sym told.told ∙ own_asks ∙ ap (λ (y : Ask). Some y) (asked_is g.most g.standby g.ask_is))
          where
            none : {a : LocalStep} {c : SendCall} → (let one : Option Ask = Some (Ask.Local a) in one) ≡ Some (Ask.Send s c) → ⊥
            none is = cc

    step_sent : Moment start e (world_step values i w) → AllSent start (trace ++ more) e (world_step values i w)
    step_sent = by (slice_get w.crew i) refl
      where
        none_is : {x : Ask} → None ≡ Some x → ⊥
        none_is is = cc

        asking : (c : ActorCrew Carried) → slice_get w.crew i ≡ Some c → (o : Option Ask) → member_asks values c.member ≡ o → Moment start e (asked values i o c w) → AllSent start (trace ++ more) e (asked values i o c w)
        asking c there None asks new n x x_there p member s later later_there =
            same_path (Turn.Step i) t more n x x_there p member s later later_there (λ most standby is. none_is (sym (ap asked_by there ∙ asks) ∙ is)) (new.at n x x_there p member s later later_there)
        asking c there (Some ask) asks new n x x_there p member s later later_there =
            one (new.at n x x_there p member s later later_there) (in_set w.crew i (crew_after values ask w.books c) (suc (suc n)) x x_there)
          where
            others : (suc (suc n) ≡ i → ⊥) → (most : ℕ) (standby : Bool) → asked_in (Turn.Step i) w ≡ Some (Ask.Send s (SendCall.Grant n most standby)) → ⊥
            others other most standby is = of_member c.member refl (sym (ap asked_by there) ∙ is)
              where
                of_member : (y : Actor Carried) → c.member ≡ y → member_asks values y ≡ Some (Ask.Send s (SendCall.Grant n most standby)) → ⊥
                of_member (App a) at asks = no_grant a s n most standby asks
                of_member (Path p0) at asks =
                    let next = data_next p0 s n most standby asks in
                    other (sym (m.number i c there p0 at ∙ ap (λ (k : ℕ). suc (suc k)) next.3))

            one : IsAt n s p later → ((suc (suc n) ≡ i) × (crew_after values ask w.books c ≡ x)) ⊎ ((suc (suc n) ≡ i → ⊥) × (slice_get w.crew (suc (suc n)) ≡ Some x))
                → SideSent start (trace ++ more) n s p later
            one at (inr other) = same_path (Turn.Step i) t more n x other.1 p member s later later_there (others other.0) at
            one at (inl own) = of_member c.member refl (ap (λ (y : ActorCrew Carried). y.member) own.1 ∙ member)
              where
                of_member : (y : Actor Carried) → c.member ≡ y → member_takes values (answer_to w.books ask) y ≡ Path p → SideSent start (trace ++ more) n s p later
                of_member (App a) is takes_so = cc
                of_member (Path p0) is takes_so =
                    let same : takes values (answer_to w.books ask) p0 ≡ p = member_same takes_so in
                    subst (λ (q : PathState Carried). SideSent start (trace ++ more) n s q later) same
                    (own_sent n c there own.0 ask asks p0 is s later later_there (subst (λ (q : PathState Carried). IsAt n s q later) (sym same) at))

        by : (o : Option (ActorCrew Carried)) → slice_get w.crew i ≡ o → Moment start e (stepped values i o w) → AllSent start (trace ++ more) e (stepped values i o w)
        by None none new = λ n x x_there p member s later later_there.
            same_path (Turn.Step i) t more n x x_there p member s later later_there (λ most standby is. none_is (sym (ap asked_by none) ∙ is)) (new.at n x x_there p member s later later_there)
        by (Some c) there new = asking c there (member_asks values c.member) refl new

  pub turn_sent : SpeaksAt start w → (turn : Turn) → TurnShows (asked_in turn w) d e → Moment start e (after_turn values turn w) → AllSent start (trace ++ sent_at turn (shown_world w)) e (after_turn values turn w)
  turn_sent speaks (Turn.Step i) t new = step_sent i speaks t new
  turn_sent speaks Turn.Round t new = round_sent t new

-- ---- a run

pub trace_append : (xs ys : List Turn) (w : WorldState (List ℕ)) → trace_of (xs ++ ys) w ≡ trace_of xs w ++ trace_of ys (world_run octets xs w)
trace_append [] ys w = refl
trace_append (x ∷ xs) ys w =
    ap (λ (t : List Sent). sent_at x w ++ t) (trace_append xs ys (after_turn octets x w))
    ∙ sym (append_assoc (sent_at x w) (trace_of xs (after_turn octets x w)) (trace_of ys (world_run octets xs (after_turn octets x w))))

module _ (start : Start) (plain : IsPlain start) (fit : NumbersFit start) where
  abbrev pub can : MayCarry start
  can = plainly start plain

  -- the world after these turns
  abbrev world : List Turn → WorldState Carried
  world turns = world_run values turns (opened_world start)

  moment : (turns : List Turn) (events : List Event) (h : WorldShows can.links start (after_events events (first_duo can.links start)) (world turns))
      → Moment start (after_events events (first_duo can.links start)) (world turns)
  moment turns events h = record {
    at = λ n c there p member s lane lane_at. is_at can.links start plain.size d (world turns) h holds n c there p member s lane lane_at;
    lane = λ n c there s. lane_there can.links start plain.size d (world turns) h holds n c there s;
    number = numbered;
    fits = λ i c there. (always_begun start turns).each i c there;
    book = book;
    tile = tile;
    prefix = prefix;
  }
    where
      d : Duo
      d = after_events events (first_duo can.links start)

      holds : Holds (after_events events (first_duo can.links start))
      holds = any_held can.links.alters can.links.checked (length start.paths) start.buffer start.buffer events

      numbered : (i : ℕ) (c : ActorCrew Carried) → slice_get (world turns).crew i ≡ Some c → (p : PathState Carried) → c.member ≡ Path p → i ≡ suc (suc (path_of p))
      numbered i c there = each_actor (λ i c. (p : PathState Carried) → c.member ≡ Path p → i ≡ suc (suc (path_of p))) h.cast (λ p is. cc) (λ p is. cc)
          (λ n x at p is. let path = h.paths.each n n x (omega arith) at in
          ap (λ (k : ℕ). suc (suc k)) (sym path.numbered ∙ ap (λ (q : PathState Carried). path_of q) (member_same is)))
          i c (ap (λ (w : WorldState Carried). slice_get w.crew i) (sym h.is) ∙ there)

      book : (s : Side) → (way s d).send ≡ send_of s (books_in (world turns).books)
      book A = ap (λ (e : Duo). e.ab.send) h.duo_is ∙ ap (λ (w : WorldState Carried). (books_in w.books).send_a) (sym h.is)
      book B = ap (λ (e : Duo). e.ba.send) h.duo_is ∙ ap (λ (w : WorldState Carried). (books_in w.books).send_b) (sym h.is)

      prefix : (s : Side) → IsPrefix (way s d).send.written (file_of start s)
      prefix A = subst (λ (b : Sending). IsPrefix b.written start.file_a) (sym (book A)) (writes_the_files values start turns).a.prefix
      prefix B = subst (λ (b : Sending). IsPrefix b.written start.file_b) (sym (book B)) (writes_the_files values start turns).b.prefix

      tile : (s : Side) → Tile (way s d).send
      tile A = (records_fit _ d.ab holds.ab).tile
      tile B = (records_fit _ d.ba holds.ba).tile

  speaks_at : (turns : List Turn) → SpeaksAt start (world turns)
  speaks_at turns = record { each = λ i c there p member. record { speaks = subst (MemberSpeaks start) member (valued start turns plain.size fit i c there) } }

  -- what shows at a moment, with all that was sent
  pub record Known (turns : List Turn) : Type 0 where
    pub events : List Event
    pub shows : WorldShows can.links start (after_events events (first_duo can.links start)) (world turns)
    pub sent : AllSent start (trace_of turns (opened_world start)) (after_events events (first_duo can.links start)) (world turns)

  pub next_known : (before : List Turn) (turn : Turn) (k : Known before)
      → (next : Known (before ++ turn ∷ [])) × (events : List Event) × (after_events next.events (first_duo can.links start) ≡ after_events events (after_events k.events (first_duo can.links start)))
  next_known before turn k =
      let d : Duo = after_events k.events (first_duo can.links start) in
      let w = world before in
      let holds = any_held can.links.alters can.links.checked (length start.paths) start.buffer start.buffer k.events in
      let x : Shown can.links start turn d w = each_turn_shows start can turn d w (free_turn can.links (plainly_free start plain) turn w) (always_steady start before) holds k.shows in
      let appended = events_append k.events (turn_events x.turn_shows) (first_duo can.links start) in
      let later : WorldShows can.links start (after_events (k.events ++ turn_events x.turn_shows) (first_duo can.links start)) (after_turn values turn w) =
      subst (λ (y : Duo). WorldShows can.links start y (after_turn values turn w)) (turn_is x.turn_shows ∙ sym appended) x.world_shows in
      let run : world (before ++ turn ∷ []) ≡ after_turn values turn w = run_append values before (turn ∷ []) (opened_world start) in
      let e : Duo = after_events (k.events ++ turn_events x.turn_shows) (first_duo can.links start) in
      let at_last : WorldShows can.links start e (world (before ++ turn ∷ [])) = subst (λ (v : WorldState Carried). WorldShows can.links start e v) (sym run) later in
      let new : Moment start e (after_turn values turn w) = subst (λ (v : WorldState Carried). Moment start e v) run (moment (before ++ turn ∷ []) (k.events ++ turn_events x.turn_shows) at_last) in
      let shows : TurnShows (asked_in turn w) d e = subst (λ (y : Duo). TurnShows (asked_in turn w) d y) (turn_is x.turn_shows ∙ sym appended) x.turn_shows in
      let sent = turn_sent start d e w (moment before k.events k.shows) (trace_of before (opened_world start)) k.sent (speaks_at before) turn shows new in
      let fresh : sent_at turn (world_run octets before (opened_world start)) ≡ sent_at turn (shown_world w) = ap (λ (v : WorldState (List ℕ)). sent_at turn v) (run_fresh start before plain.size fit) in
      let trace : trace_of (before ++ turn ∷ []) (opened_world start) ≡ trace_of before (opened_world start) ++ sent_at turn (shown_world w) =
      trace_append before (turn ∷ []) (opened_world start)
      ∙ ap (λ (t : List Sent). trace_of before (opened_world start) ++ t) (append-nil (sent_at turn (world_run octets before (opened_world start))) ∙ fresh) in (
        record {
          events = k.events ++ turn_events x.turn_shows;
          shows = at_last;
          sent = subst (λ (t : List Sent). AllSent start t e (world (before ++ turn ∷ []))) (sym trace)
              (subst (λ (v : WorldState Carried). AllSent start (trace_of before (opened_world start) ++ sent_at turn (shown_world w)) e v) (sym run) sent);
        },
        turn_events x.turn_shows,
        appended,
      )

  run_known : (before turns : List Turn) → Known before → Known (before ++ turns)
  run_known before [] k = subst Known (sym (append-nil before)) k
  run_known before (turn ∷ turns) k = subst Known (append_assoc before (turn ∷ []) turns) (run_known (before ++ turn ∷ []) turns (next_known before turn k).0)

  pub opened_known : Known []
  opened_known = by (opened_reached start can)
    where
      by : Reached can.links start (opened_world start) → Known []
      by r =
          let m = moment [] r.events r.shows in
          record { events = r.events; shows = r.shows; sent = λ n c there p member s lane at. nothing (m.at n c there p member s lane at) (none s n lane at (m.book s)) }
        where
          d : Duo
          d = after_events r.events (first_duo can.links start)

          holds : Holds (after_events r.events (first_duo can.links start))
          holds = any_held can.links.alters can.links.checked (length start.paths) start.buffer start.buffer r.events

          -- nothing was granted before the first turn
          none : (s : Side) (n : ℕ) (lane : Lane) → slice_get (way s d).lanes n ≡ Some lane → (way s d).send ≡ send_of s (books_in (opened_world {C = Carried} start).books) → length lane.sent ≡ 0
          none A n lane at book =
              let once : length lane.sent ≤ spent_count n d.ab.send.marks = (holds.ab.lanes.each n n lane (omega arith) at).record_of.once in
              let empty : spent_count n d.ab.send.marks ≡ 0 = ap (λ (b : Sending). spent_count n b.marks) book in
              omega (arith, once, empty)
          none B n lane at book =
              let once : length lane.sent ≤ spent_count n d.ba.send.marks = (holds.ba.lanes.each n n lane (omega arith) at).record_of.once in
              let empty : spent_count n d.ba.send.marks ≡ 0 = ap (λ (b : Sending). spent_count n b.marks) book in
              omega (arith, once, empty)

          nothing : {n : ℕ} {s : Side} {p : PathState Carried} {lane : Lane} → IsAt n s p lane → length lane.sent ≡ 0 → SideSent start [] n s p lane
          nothing at empty =
              let within = at.within in
              record { upto = 0; told = λ position cell below at_cell. absurd (omega (arith, below)); edge = omega (arith, within, empty); rest = inl (sym empty) }

  pub always_known : (turns : List Turn) → Known turns
  always_known turns = run_known [] turns opened_known
