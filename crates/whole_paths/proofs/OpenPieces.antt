-- What an end knows of its stream is what the send book has, and each piece that it waits for ends behind what it heard acknowledged.
use Rattle.std.proofs.Common.{◌≡◌, refl, sym, subst, ⊎_elim, ℕ, zero, suc, ◌+◌, ◌<◌, ◌≤◌, ◌&&◌, ◌||◌, ◌==◌, arith, Bool, true, false, true≢false, if◌then◌else◌, Ok, Err, Result, Option, Some, None, IfSome, List, [], ◌∷◌, length}
use Rattle.std.specs.List.{slice_get}
use Rattle.std.proofs.lemmas.Bool.{and_parts, cases_lt, eqb-true}
use Rattle.std.proofs.lemmas.Option.{same_Some}
use Rattle.sides.specs.declared.side.Side.{Side}
use Rattle.sides.specs.declared.side.Side.TheVariants.{A, B}
use Rattle.send_book.specs.declared.call.SendCall.{SendCall}
use Rattle.send_book.specs.declared.call.SendCall.TheVariants as calls
use Rattle.send_book.specs.declared.call.Span.{Span}
use Rattle.send_book.specs.declared.call.Why.{Why}
use Rattle.send_book.specs.declared.mark.ByteMark.{ByteMark}
use Rattle.send_book.specs.declared.mark.ByteMark.TheVariants.{Acked, Free, Held}
use Rattle.send_book.specs.State.{Sending, acked_len}
use Rattle.send_book.specs.Steps.{after_call, decision, given_by, grant_reply, is_future, is_gathered, reply_by}
use Rattle.send_book.proofs.Decisions.{MayTake, decision-MayTake}
use Rattle.stream_lanes.specs.Duo.{Duo, flags_ab, flags_ba}
use Rattle.stream_lanes.specs.Holding.{Holds, LaneHolds, SendHolds}
use Rattle.stream_lanes.specs.Lane.{Lane}
use Rattle.stream_lanes.specs.Marks.{AreAcked}
use Rattle.stream_lanes.specs.Moves.{Flags}
use Rattle.stream_lanes.specs.View.{IsEnd, all_in, end_of, view_of}
use Rattle.stream_lanes.proofs.Lists.{in_map, in_set}
use Rattle.reassembly_book.specs.State.{Arriving}
use Rattle.subflow_send.specs.Records.{Record}
use Rattle.actor_desk.specs.declared.ask.Ask.{Ask}
use Rattle.actor_desk.specs.declared.ask.Ask.TheVariants as asks
use Rattle.actor_desk.specs.declared.ask.Reply.TheVariants as replies
use Rattle.actor_desk.specs.Books.{StampedBooks, books_in}
use Rattle.actor_desk.specs.Desk.{SixBooks, after_ask, send_of}
use Rattle.path_agenda.specs.declared.duty.Duty.{Duty}
use Rattle.path_agenda.specs.declared.duty.Duty.TheVariants as duties
use Rattle.path_agenda.specs.declared.duty.StepDuty.TheVariants as step_duties
use Rattle.path_core.specs.Duties.{ask_for}
use Rattle.path_core.specs.Emission.{data_ask, first_unsent, grant_in, payload_size}
use Rattle.path_core.specs.Sending.{Sending as OwnStream}
use Rattle.path_core.specs.State.{PathState, end_at, path_of, with_agenda}
use Rattle.path_core.specs.Steps.{asks_first}
use Rattle.path_core.specs.Values.{Carried, values}
use Rattle.world_laws.specs.declared.member.Member.TheVariants.{App, Path}
use Rattle.world_laws.specs.Actors.{Actor, ActorCrew, member_asks, member_next, member_takes}
use Rattle.world_laws.specs.Members.{HoldsOfKind}
use Rattle.world_laws.specs.Openings.{Start, opened_world}
use Rattle.world_laws.specs.Promises.{HasRoom}
use Rattle.world_laws.specs.StampedBooks.{answer_to}
use Rattle.world_laws.specs.Worlds.{WorldState, Turn, after_turn, begins, crew_after, greatest, world_run}
use Rattle.world_laws.proofs.Lanes.OfAWorld.{Links, PathThere, WorldShows, duo_of, modes_by}
use Rattle.world_laws.proofs.Rounds.Lifting.{opened_lifted}
use Rattle.world_laws.proofs.Weaving.Journals.{books_after}
use Rattle.world_laws.proofs.Worlds.CastLifting.{each_actor}
use Rattle.world_laws.proofs.Worlds.Casts.{world_of}
use Rattle.world_laws.proofs.Worlds.Turns.{turn_so}
use Rattle.whole_paths.proofs.Acknowledged.{always_shown}
use Rattle.whole_paths.proofs.Endings.{BothKnowTheirEnd, EndsBehind, FirstGrantsBehind, GrantsBehind, first_knows, next_knows, takes_knows}

-- ---- a book

-- what an end heard acknowledged is, with the DATA_FIN or without, and where it knows the end of its stream the book is closed there
pub record AgreesWith (b : Sending) (v : OwnStream) : Type 0 where
  pub heard : v.heard ≤ acked_len b.marks + all_in b.closed b.written (acked_len b.marks)
  pub acked : AreAcked (acked_len b.marks) b.marks
  pub whole : length b.marks ≡ length b.written
  pub ends : IfSome v.known_end (λ n. (b.closed ≡ true) × (n ≡ length b.written))

acked_mark : (n place : ℕ) (marks : List ByteMark) → AreAcked n marks → place < n → slice_get marks place ≡ Some Acked
acked_mark n place [] all less = absurd (omega (arith, all, less))
acked_mark zero place (m ∷ marks) all less = absurd (omega (arith, less))
acked_mark (suc n) zero (Acked ∷ marks) all less = refl
acked_mark (suc n) zero (Held holder among ∷ marks) all less = absurd (true≢false (sym all.0))
acked_mark (suc n) zero (Free among ∷ marks) all less = absurd (true≢false (sym all.0))
acked_mark (suc n) (suc place) (m ∷ marks) all less = acked_mark n place marks all.1 (omega (arith, less))

-- what a path may take isn't acknowledged
grant_behind : (path most : ℕ) (standby : Bool) (b : Sending) (v : OwnStream) → 1 ≤ most → AgreesWith b v → EndsBehind v.heard (grant_in (replies.Send (grant_reply path most standby b)))
grant_behind path most standby b v some h = by (decision path most standby b) refl
  where
    by : (r : Result Span Why) → decision path most standby b ≡ r → EndsBehind v.heard (grant_in (replies.Send (reply_by r b)))
    by (Err why) is = tt
    by (Ok span) is =
        let m : MayTake path most b span = decision-MayTake path most standby b span is in
        let whole = m.whole in let within = m.within in let count = m.some some in
        ⊎_elim
        (λ low. absurd (true≢false (sym (m.free span.from Acked (omega arith) (omega (arith, whole, count)) (acked_mark (acked_len b.marks) span.from b.marks h.acked low)))))
        (λ high. heard_below high (b.closed && (length b.written == acked_len b.marks)) refl whole within count)
        (cases_lt span.from (acked_len b.marks))
      where
        heard_below : {count : ℕ} → acked_len b.marks ≤ span.from → (c : Bool) → (b.closed && (length b.written == acked_len b.marks)) ≡ c → span.to ≡ span.from + count → span.to ≤ length b.marks → 1 ≤ count → v.heard < span.to
        heard_below high true is whole within count =
            let same = eqb-true (length b.written) (acked_len b.marks) (and_parts b.closed (length b.written == acked_len b.marks) is).1 in let size = h.whole in
            absurd (omega (arith, same, size, within, whole, high, count))
        heard_below high false is whole within count =
            let low : v.heard ≤ acked_len b.marks + 0 = subst (λ (c : Bool). v.heard ≤ acked_len b.marks + (if c then 1 else 0)) is h.heard in omega (arith, low, high, whole, count)

-- a closed book takes nothing
call_written : (b : Sending) (call : SendCall) → b.closed ≡ true → (after_call b call).written ≡ b.written
call_written b (calls.Write bytes) shut = by b.closed shut _
  where
    by : (c : Bool) → c ≡ true → (x : Sending) → (if c || b.aborted then b else x).written ≡ b.written
    by true is x = refl
    by false is x = absurd (true≢false (sym is))
call_written b calls.Close shut = elim b.aborted as (λ c. (if c then b else record b { closed = true }).written ≡ b.written) [ true ↦ refl | false ↦ refl ]
call_written b (calls.Grant path most standby) shut = by (decision path most standby b)
  where
    by : (r : Result Span Why) → (given_by path r b).written ≡ b.written
    by (Ok span) = refl
    by (Err why) = refl
call_written b (calls.AckIn next window) shut = by (is_future next b) _ _ _
  where
    by : (c : Bool) (marks : List ByteMark) (edge : ℕ) (fin : Bool) → (if c then b else record b { marks = marks; edge = edge; fin = fin }).written ≡ b.written
    by true marks edge fin = refl
    by false marks edge fin = refl
call_written b (calls.GoInfinite path) shut = elim (is_gathered path b) as (λ c. (if c then record b { owner = Some path } else b).written ≡ b.written) [ true ↦ refl | false ↦ refl ]
call_written b _ shut = refl

ask_written : (x : Ask) (six : SixBooks) (s : Side) → (send_of s six).closed ≡ true → (send_of s (after_ask x six)).written ≡ (send_of s six).written
ask_written (asks.Send A call) six A shut = call_written six.send_a call shut
ask_written (asks.Send B call) six B shut = call_written six.send_b call shut
ask_written (asks.Send A call) six B shut = refl
ask_written (asks.Send B call) six A shut = refl
ask_written (asks.Reassembly A call) six A shut = refl
ask_written (asks.Reassembly A call) six B shut = refl
ask_written (asks.Reassembly B call) six A shut = refl
ask_written (asks.Reassembly B call) six B shut = refl
ask_written (asks.Control A call) six A shut = refl
ask_written (asks.Control A call) six B shut = refl
ask_written (asks.Control B call) six A shut = refl
ask_written (asks.Control B call) six B shut = refl
ask_written (asks.Local step) six s shut = refl

-- by any turn
pub closed_stays : (turn : Turn) (w : WorldState Carried) (s : Side) → (send_of s (books_in w.books)).closed ≡ true → (send_of s (books_in (after_turn values turn w).books)).written ≡ (send_of s (books_in w.books)).written
closed_stays turn w s shut = turn_so values (λ (v : WorldState Carried). (send_of s (books_in v.books)).written ≡ (send_of s (books_in w.books)).written) turn w refl
    (λ actor c x there is. subst (λ six. (send_of s six).written ≡ (send_of s (books_in w.books)).written) (sym (books_after x c.pass w.books)) (ask_written x (books_in w.books) s shut)) (λ over. refl)

-- ---- at every moment

-- both ends agree with the books of their sides, and a full segment has room for octets
pub record EndsAgreeWith (w : WorldState Carried) (p : PathState Carried) : Type 0 where
  pub ends : (s : Side) → AgreesWith (send_of s (books_in w.books)) (end_at s p).sending
  pub room : 29 ≤ p.profile.mss

abbrev OfPaths : (PathState Carried → Type 0) → Actor Carried → Type 0
OfPaths P = HoldsOfKind (λ app. Unit {0}) P

closed_at : (b : Sending) (n : ℕ) → IsEnd (end_of b) n → (b.closed ≡ true) × (n ≡ length b.written)
closed_at b n = by b.closed refl
  where
    by : (c : Bool) → b.closed ≡ c → (if c then Some (length b.written) else None) ≡ Some n → (b.closed ≡ true) × (n ≡ length b.written)
    by true is at = (is, sym (same_Some (length b.written) n at))
    by false is at = cc

lane_agrees : (f : Flags) (b : Sending) (r : Arriving) (path : ℕ) (p : Lane) (v : OwnStream) → LaneHolds (view_of f b r) path p → SendHolds b (view_of f b r) → p.heard ≡ v.heard → p.known_end ≡ v.known_end → AgreesWith b v
lane_agrees f b r path p v holds send heard known = record {
  heard = subst (λ n. n ≤ acked_len b.marks + all_in b.closed b.written (acked_len b.marks)) heard holds.heard.below;
  acked = send.first;
  whole = send.whole;
  ends = by v.known_end (subst (λ o. IfSome o (IsEnd (end_of b))) known holds.ends.told);
}
  where
    by : (o : Option ℕ) → IfSome o (IsEnd (end_of b)) → IfSome o (λ n. (b.closed ≡ true) × (n ≡ length b.written))
    by None told = tt
    by (Some n) told = closed_at b n told

shows_agree : (links : Links) (start : Start) (size : HasRoom start) (d : Duo) (w : WorldState Carried) → Holds d → WorldShows links start d w → (actor : ℕ) (c : ActorCrew Carried) → slice_get w.crew actor ≡ Some c → OfPaths (EndsAgreeWith w) c.member
shows_agree links start size d w held h = subst (λ (v : WorldState Carried). (actor : ℕ) (c : ActorCrew Carried) → slice_get v.crew actor ≡ Some c → OfPaths (EndsAgreeWith v) c.member) (sym h.is)
    (each_actor (λ actor c. OfPaths (EndsAgreeWith (world_of h.cast)) c.member) h.cast tt tt (λ number x there. path_agrees number x.path (h.paths.each number number x (omega arith) there)))
  where
    holds : Holds (duo_of links (books_in h.cast.books) h.lanes_ab h.lanes_ba h.reader_a h.reader_b)
    holds = subst Holds h.duo_is held

    path_agrees : (number : ℕ) (p : PathState Carried) → PathThere start h.lanes_ab h.lanes_ba number p → EndsAgreeWith (world_of h.cast) p
    path_agrees number p path = record { ends = ends; room = subst (λ c. 29 ≤ c.mss) (sym path.shows.profile) (size.each number path.plan path.plan_there) }
      where
        ends : (s : Side) → AgreesWith (send_of s (books_in h.cast.books)) (end_at s p).sending
        ends A = lane_agrees (flags_ab (modes_by links (books_in h.cast.books))) (books_in h.cast.books).send_a (books_in h.cast.books).reassembly_b number path.ab _
            (holds.ab.lanes.each number number path.ab (omega arith) path.ab_there) holds.ab.send path.shows.a.sender.heard path.shows.a.sender.same_end
        ends B = lane_agrees (flags_ba (modes_by links (books_in h.cast.books))) (books_in h.cast.books).send_b (books_in h.cast.books).reassembly_a number path.ba _
            (holds.ba.lanes.each number number path.ba (omega arith) path.ba_there) holds.ba.send path.shows.b.sender.heard path.shows.b.sender.same_end

pub ends_agree : (start : Start) (turns : List Turn) → HasRoom start → (actor : ℕ) (c : ActorCrew Carried) → let w = world_run values turns (opened_world start) in slice_get w.crew actor ≡ Some c → OfPaths (EndsAgreeWith w) c.member
ends_agree start turns size =
    let shown = always_shown start turns size in shows_agree _ start size shown.0 (world_run values turns (opened_world start)) shown.1.1 shown.1.0

-- ---- what a path is granted

data_behind : (books : StampedBooks) (s : Side) (p : PathState Carried) → 29 ≤ p.profile.mss → AgreesWith (send_of s (books_in books)) (end_at s p).sending
    → (o : Option Record) → o ≡ None → EndsBehind (end_at s p).sending.heard (grant_in (answer_to books (data_ask values s o p)))
data_behind books s p room h (Some r) none = cc
data_behind books s p room h None none = grant_behind (path_of p) (payload_size p.profile) (end_at s p).modes.standby (send_of s (books_in books)) (end_at s p).sending (omega (arith, room)) h

first_behind : (books : StampedBooks) (p : PathState Carried) → 29 ≤ p.profile.mss → ((s : Side) → AgreesWith (send_of s (books_in books)) (end_at s p).sending) → (x : Ask) (ds : List Duty) → asks_first values ds p ≡ Some x
    → FirstGrantsBehind ds (answer_to books x) (with_agenda ds p)
first_behind books p room h x [] is = tt
first_behind books p room h x (d ∷ ds) is = subst (λ y. FirstGrantsBehind (d ∷ ds) (answer_to books y) (with_agenda (d ∷ ds) p)) (same_Some (ask_for values d p) x is) (by d)
  where
    by : (d : Duty) → GrantsBehind d (answer_to books (ask_for values d p)) (with_agenda (d ∷ ds) p)
    by (duties.Step (step_duties.Data s)) = λ none. data_behind books s p room (h s) (first_unsent (end_at s p)) none
    by (duties.Step _) = tt
    by _ = tt

abbrev pub MemberKnows : Actor Carried → Type 0
MemberKnows = OfPaths BothKnowTheirEnd

member_takes_knows : (w : WorldState Carried) (m : Actor Carried) (x : Ask) → member_asks values m ≡ Some x → OfPaths (EndsAgreeWith w) m → MemberKnows m → MemberKnows (member_takes values (answer_to w.books x) m)
member_takes_knows w (App a) x is agree h = tt
member_takes_knows w (Path p) x is agree h = takes_knows values (answer_to w.books x) p (first_behind w.books p agree.room agree.ends x p.agenda is) h

member_next_knows : (m : Actor Carried) → MemberKnows m → MemberKnows (member_next m)
member_next_knows (App a) h = tt
member_next_knows (Path p) h = next_knows p h

record EachKnows (w : WorldState Carried) : Type 0 where
  each : (actor : ℕ) (c : ActorCrew Carried) → slice_get w.crew actor ≡ Some c → MemberKnows c.member

record EachAgrees (w : WorldState Carried) : Type 0 where
  each : (actor : ℕ) (c : ActorCrew Carried) → slice_get w.crew actor ≡ Some c → OfPaths (EndsAgreeWith w) c.member

turn_knows : (turn : Turn) (w : WorldState Carried) → EachAgrees w → EachKnows w → EachKnows (after_turn values turn w)
turn_knows turn w agree h = turn_so values EachKnows turn w h
    (λ actor c x there is. record {
      each = λ i d at. ⊎_elim
          (λ here. subst (λ (y : ActorCrew Carried). MemberKnows y.member) here.1 (member_takes_knows w c.member x is (agree.each actor c there) (h.each actor c there)))
          (λ other. h.each i d other.1)
          (in_set w.crew actor (crew_after values x w.books c) i d at);
    })
    (λ over. record {
      each = λ i d at.
          let found = in_map (begins (greatest 0 w.crew)) w.crew i d at in
          subst (λ (y : ActorCrew Carried). MemberKnows y.member) found.2 (member_next_knows found.0.member (h.each i found.0 found.1));
    })

run_knows : (turns : List Turn) (w : WorldState Carried) → ((more : List Turn) → EachAgrees (world_run values more w)) → EachKnows w → EachKnows (world_run values turns w)
run_knows [] w ever h = h
run_knows (turn ∷ turns) w ever h = run_knows turns (after_turn values turn w) (λ more. ever (turn ∷ more)) (turn_knows turn w (ever []) h)

pub each_knows : (start : Start) (turns : List Turn) → HasRoom start → (actor : ℕ) (c : ActorCrew Carried) → slice_get (world_run values turns (opened_world start)).crew actor ≡ Some c → MemberKnows c.member
each_knows start turns size actor c there =
    (run_knows turns (opened_world start) (λ more. record { each = ends_agree start more size }) (record { each = (opened_lifted (λ c. MemberKnows c.member) start tt tt (λ number plan there. first_knows start number plan)).each })).each actor c there
