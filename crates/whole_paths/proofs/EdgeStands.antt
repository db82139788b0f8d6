-- A side that stands at the edge of its peer's window does so until the edge rises: nothing is granted there, to whatever path asks.
use Rattle.std.proofs.Common.{◌≡◌, refl, sym, subst, ap, ◌∙◌, ◌⊎◌, inl, inr, ⊎_elim, ℕ, zero, suc, ◌+◌, ◌-◌, ◌<◌, ◌≤◌, ◌==◌, ◌&&◌, ◌||◌, arith, cond, min, max, nat_lt, Bool, true, false, true≢false, not, if◌then◌else◌, Some, None, Result, Ok, Err, List, [], ◌∷◌, ◌++◌, length, take, drop, map, replicate}
use Rattle.std.specs.List.{position, position_or_len, slice_get}
use Rattle.std.proofs.lemmas.Bool.{cases_lt, le-leb, lt-ltb, ne_eqb}
use Rattle.std.proofs.lemmas.List.{length-append}
use Rattle.std.proofs.lemmas.Option.{same_Some}
use Rattle.sides.specs.declared.side.Side.{Side}
use Rattle.sides.specs.declared.side.Side.TheVariants.{A, B}
use Rattle.send_book.specs.declared.call.SendCall.{SendCall}
use Rattle.send_book.specs.declared.call.SendCall.TheVariants as calls
use Rattle.send_book.specs.declared.call.Why.{Why}
use Rattle.send_book.specs.declared.call.Why.TheVariants.{Ended, WindowShut}
use Rattle.send_book.specs.declared.mark.ByteMark.{ByteMark}
use Rattle.send_book.specs.declared.mark.ByteMark.TheVariants.{Acked, Free, Held}
use Rattle.send_book.specs.declared.call.Span.{Span}
use Rattle.send_book.specs.Marks.{given, is_acked, is_free_for, is_untouched, returned}
use Rattle.send_book.specs.State.{Sending, acked_len}
use Rattle.send_book.specs.Steps.{after_call, bytes_taken, change_part, decision, fin_after, first_free, given_by, is_for, is_future, is_gathered, reply_by, run_len, span_at}
use Rattle.send_book.specs.Tried.{contains, has_none, no_paths}
use Rattle.send_book.proofs.Decisions.{MayTake, decision-MayTake}
use Rattle.send_book.proofs.Lists.{slice_get-changed_above}
use Rattle.stream_lanes.specs.Marks.{AreAcked, AreNew}
use Rattle.stream_lanes.proofs.MarkLists.{AreAcked-acked, AreAcked-count, AreAcked-given, AreAcked-returned, AreAcked-written, AreNew-acked, AreNew-returned, AreNew-written}
use Rattle.actor_desk.specs.declared.ask.Ask.{Ask}
use Rattle.actor_desk.specs.declared.ask.Ask.TheVariants as asks
use Rattle.actor_desk.specs.declared.ask.Note.{Note}
use Rattle.actor_desk.specs.declared.ask.Reply.{Reply}
use Rattle.actor_desk.specs.declared.ask.Reply.TheVariants as replies
use Rattle.actor_desk.specs.Books.{books_in, StampedBooks}
use Rattle.actor_desk.specs.Desk.{SixBooks, after_ask, reply_of, send_of}
use Rattle.actor_desk.specs.Words.{is_nil}
use Rattle.path_agenda.specs.declared.duty.Duty.{Duty}
use Rattle.path_core.specs.Duties.{answered, ask_for}
use Rattle.path_core.specs.State.{PathState, end_at, path_of, with_agenda}
use Rattle.path_core.specs.Steps.{asks_of, next_round, takes}
use Rattle.path_core.specs.End.{PathEnd}
use Rattle.path_core.specs.Values.{Carried, values}
use Rattle.world_laws.specs.declared.member.Member.TheVariants.{App, Path}
use Rattle.world_laws.specs.Actors.{Actor}
use Rattle.world_laws.specs.Openings.{Start, opened_world}
use Rattle.world_laws.specs.Promises.{HasRoom}
use Rattle.world_laws.specs.RoundDone.{reached}
use Rattle.world_laws.specs.RoundNumbers.{is_standby}
use Rattle.world_laws.specs.Worlds.{Turn, after_turn, WorldState}
use Rattle.whole_paths.specs.Between.{PathsBetween}
use Rattle.whole_paths.specs.EdgeStands.{IsShutOutAt, NothingIsTriedPastTheEdge, ShutEndsStayShut, StandsAtTheEdge, StaysShutOut}
use Rattle.whole_paths.proofs.Refusals.{AtGrant, at_grant, takes_told}
use Rattle.whole_paths.proofs.Refusals.AtGrant.{asks_none_of_it, asks_bytes}
use Rattle.whole_paths.proofs.OnePath.{own_standby, send_replied}
use Rattle.whole_paths.proofs.RoundBegins.{next_rests}
use Rattle.whole_paths.proofs.Standing.{duty_serves}
use Rattle.whole_paths.proofs.Turns.{TellsSteps, books_by_turns, paths_between}
use Rattle.whole_paths.proofs.Unstopped.{sides_are_never_stopped}
use Rattle.stream_lanes.specs.Holding.{Holds}
use Rattle.world_laws.proofs.Lanes.OfAWorld.{anyhow, duo_of}
use Rattle.whole_paths.proofs.Acknowledged.{always_shown}
use Rattle.whole_paths.specs.Mild.{IsMildStart}

-- ---- past the edge no path tried a byte

abbrev Past : Sending → Type 0
Past b = AreNew b.edge b.marks

either_past : (c : Bool) (b d : Sending) → Past b → Past d → Past (if c then b else d)
either_past true b d x y = x
either_past false b d x y = y

past_grant : (path most : ℕ) (b : Sending) (r : Result Span Why) → ((span : Span) → r ≡ Ok span → MayTake path most b span) → Past b → Past (given_by path r b)
past_grant path most b (Err why) may h = h
past_grant path most b (Ok span) may h = λ place mark above e.
    (let m = may span refl in
    let below = m.below in
    let whole : span.to ≡ span.from + (span.to - span.from) = omega (arith, m.whole) in
    h place mark above (sym (slice_get-changed_above (given path) span.from (span.to - span.from) span.to b.marks whole m.within place (omega (arith, below, above))) ∙ e))

past_call : (b : Sending) (call : SendCall) → Past b → Past (after_call b call)
past_call b (calls.Write bytes) h =
    either_past (b.closed || b.aborted) b (record b { written = b.written ++ take (bytes_taken bytes b) bytes; marks = b.marks ++ replicate (bytes_taken bytes b) (Free no_paths) }) h
    (AreNew-written b.edge (bytes_taken bytes b) b.marks h)
past_call b calls.Close h = either_past b.aborted b (record b { closed = true }) h h
past_call b (calls.Grant path most standby) h = past_grant path most b (decision path most standby b) (decision-MayTake path most standby b) h
past_call b (calls.AckIn next window) h =
    let c = min next (length b.marks) in
    either_past (is_future next b) b (record b { marks = replicate c Acked ++ drop next b.marks; edge = max b.edge (next + window); fin = fin_after next b }) h
    (AreNew-acked (max b.edge (next + window)) next c b.marks refl (λ place above within. omega (arith, above)) (λ place mark above e. h place mark (omega (arith, above)) e))
past_call b (calls.Return path) h = AreNew-returned path b.edge b.marks h
past_call b calls.GoIdentity h = h
past_call b (calls.GoInfinite path) h = either_past (is_gathered path b) (record b { owner = Some path }) b h h
past_call b calls.Abort h = h

past_ask : (x : Ask) (six : SixBooks) (s : Side) → Past (send_of s six) → Past (send_of s (after_ask x six))
past_ask (asks.Send A call) six A h = past_call six.send_a call h
past_ask (asks.Send B call) six B h = past_call six.send_b call h
past_ask (asks.Send A call) six B h = h
past_ask (asks.Send B call) six A h = h
past_ask (asks.Reassembly A call) six s h = h
past_ask (asks.Reassembly B call) six s h = h
past_ask (asks.Control A call) six s h = h
past_ask (asks.Control B call) six s h = h
past_ask (asks.Local step) six s h = h

pub nothing_is_tried_past_the_edge : NothingIsTriedPastTheEdge
nothing_is_tried_past_the_edge start turns = books_by_turns values (λ six. (s : Side) → Past (send_of s six)) (λ x six h s. past_ask x six s (h s)) turns (opened_world start)
    (elim [ A ↦ λ place mark above e. cc | B ↦ λ place mark above e. cc ])

-- ---- marks are whole, and the acknowledged ones come first

abbrev Tiled : Sending → Type 0
Tiled b = (length b.marks ≡ length b.written) × AreAcked (acked_len b.marks) b.marks

pub send_is_tiled : (start : Start) (turns : List Turn) → HasRoom start → (s : Side) → Tiled (send_of s (books_in (reached values start turns).books))
send_is_tiled start turns size =
    let shown = always_shown start turns size in
    let h = shown.1.0 in
    let holds : Holds (duo_of (anyhow start size).links (books_in h.cast.books) h.lanes_ab h.lanes_ba h.reader_a h.reader_b) = subst Holds h.duo_is shown.1.1 in
    subst (λ (w : WorldState Carried). (s : Side) → Tiled (send_of s (books_in w.books))) (sym h.is)
    (elim [ A ↦ (holds.ab.send.whole, holds.ab.send.first) | B ↦ (holds.ba.send.whole, holds.ba.send.first) ])

-- ---- what a call leaves at the edge

abbrev StandsOn : Sending → Sending → Type 0
StandsOn b c = StandsAtTheEdge c ⊎ (b.edge < c.edge)

either_stands : (x : Bool) (b c d : Sending) → StandsOn b c → StandsOn b d → StandsOn b (if x then c else d)
either_stands true b c d y z = y
either_stands false b c d y z = z

-- as many are acknowledged, and no fewer written
same_acked : (b d : Sending) → AreAcked (acked_len b.marks) d.marks → d.edge ≡ b.edge → length b.written ≤ length d.written → StandsAtTheEdge b → StandsAtTheEdge d
same_acked b d are edge more h = (let count = AreAcked-count (acked_len b.marks) d.marks are in let acked = h.acked in let left = h.left in
    record { acked = omega (arith, count, acked, edge); left = omega (arith, count, left, more) })

grant_stands : (path most : ℕ) (b : Sending) (r : Result Span Why) → ((span : Span) → r ≡ Ok span → MayTake path most b span) → AreAcked (acked_len b.marks) b.marks → StandsAtTheEdge b → StandsOn b (given_by path r b)
grant_stands path most b (Err why) may are h = inl h
grant_stands path most b (Ok span) may are h =
    inl (same_acked b (record b { marks = change_part (given path) span b.marks }) (AreAcked-given path (acked_len b.marks) span b.marks (let whole = (may span refl).whole in omega (arith, whole)) are) refl (omega arith) h)

ack_stands : (b : Sending) (next window : ℕ) → AreAcked (acked_len b.marks) b.marks → StandsAtTheEdge b
    → StandsOn b (record b { marks = replicate (min next (length b.marks)) Acked ++ drop next b.marks; edge = max b.edge (next + window); fin = fin_after next b })
ack_stands b next window are h = ⊎_elim (λ rises. inr rises) (λ low. inl (by (omega (arith, low)) (omega (arith, low)))) (cases_lt b.edge (max b.edge (next + window)))
  where
    by : max b.edge (next + window) ≡ b.edge → next ≤ b.edge
        → StandsAtTheEdge (record b { marks = replicate (min next (length b.marks)) Acked ++ drop next b.marks; edge = max b.edge (next + window); fin = fin_after next b })
    by same few =
        let acked = h.acked in
        same_acked b (record b { marks = replicate (min next (length b.marks)) Acked ++ drop next b.marks; edge = max b.edge (next + window); fin = fin_after next b })
        (AreAcked-acked (acked_len b.marks) next (min next (length b.marks)) (acked_len b.marks) b.marks refl (omega (arith, few, acked)) are) same (omega arith) h

call_stands : (b : Sending) (call : SendCall) → AreAcked (acked_len b.marks) b.marks → StandsAtTheEdge b → StandsOn b (after_call b call)
call_stands b (calls.Write bytes) are h =
    let d : Sending = record b { written = b.written ++ take (bytes_taken bytes b) bytes; marks = b.marks ++ replicate (bytes_taken bytes b) (Free no_paths) } in
    either_stands (b.closed || b.aborted) b b d (inl h)
    (inl (same_acked b d (AreAcked-written (acked_len b.marks) (bytes_taken bytes b) b.marks are) refl (omega (arith, length-append b.written (take (bytes_taken bytes b) bytes))) h))
call_stands b calls.Close are h = either_stands b.aborted b b (record b { closed = true }) (inl h) (inl (record { acked = h.acked; left = h.left }))
call_stands b (calls.Grant path most standby) are h = grant_stands path most b (decision path most standby b) (decision-MayTake path most standby b) are h
call_stands b (calls.AckIn next window) are h = either_stands (is_future next b) b b _ (inl h) (ack_stands b next window are h)
call_stands b (calls.Return path) are h = inl (same_acked b (record b { marks = map (returned path) b.marks }) (AreAcked-returned path (acked_len b.marks) b.marks are) refl (omega arith) h)
call_stands b calls.GoIdentity are h = inl (record { acked = h.acked; left = h.left })
call_stands b (calls.GoInfinite path) are h = either_stands (is_gathered path b) b (record b { owner = Some path }) b (inl (record { acked = h.acked; left = h.left })) (inl h)
call_stands b calls.Abort are h = inl (record { acked = h.acked; left = h.left })

ask_stands : (x : Ask) (six : SixBooks) (s : Side) → AreAcked (acked_len (send_of s six).marks) (send_of s six).marks → StandsAtTheEdge (send_of s six) → StandsOn (send_of s six) (send_of s (after_ask x six))
ask_stands (asks.Send A call) six A are h = call_stands six.send_a call are h
ask_stands (asks.Send B call) six B are h = call_stands six.send_b call are h
ask_stands (asks.Send A call) six B are h = inl h
ask_stands (asks.Send B call) six A are h = inl h
ask_stands (asks.Reassembly A call) six s are h = inl h
ask_stands (asks.Reassembly B call) six s are h = inl h
ask_stands (asks.Control A call) six s are h = inl h
ask_stands (asks.Control B call) six s are h = inl h
ask_stands (asks.Local step) six s are h = inl h

-- ---- what is answered there

none_contains : (path : ℕ) (paths : List Bool) → has_none paths ≡ true → contains path paths ≡ false
none_contains path [] e = refl
none_contains path (true ∷ paths) e = absurd (true≢false (sym e))
none_contains zero (false ∷ paths) e = refl
none_contains (suc path) (false ∷ paths) e = none_contains path paths e

-- a byte that no path tried each may take
untouched_free : (path : ℕ) (m : ByteMark) → is_untouched m ≡ true → is_free_for path m ≡ true
untouched_free path Acked e = absurd (true≢false (sym e))
untouched_free path (Held holder among) e = absurd (true≢false (sym e))
untouched_free path (Free among) e = ap not (none_contains path among e)

one_more : (k n : ℕ) → k ≡ n → cond true (1 + k) 0 ≡ suc n
one_more k n same = omega (arith, same)

-- the first byte that isn't acknowledged is the first that is free
first_free_at : (path n : ℕ) (ms : List ByteMark) → AreAcked n ms → n < length ms → ((m : ByteMark) → slice_get ms n ≡ Some m → is_free_for path m ≡ true) → position_or_len (is_free_for path) ms ≡ n
first_free_at path n [] are within free = absurd (omega (arith, within))
first_free_at path zero (m ∷ ms) are within free = ap (λ b. cond (not b) (1 + position_or_len (is_free_for path) ms) 0) (free m refl)
first_free_at path (suc n) (m ∷ ms) are within free =
    ap (λ b. cond (not b) (1 + position_or_len (is_free_for path) ms) 0) (by m are.0) ∙ one_more (position_or_len (is_free_for path) ms) n (first_free_at path n ms are.1 (omega (arith, within)) (λ x there. free x there))
  where
    by : (m : ByteMark) → is_acked m ≡ true → is_free_for path m ≡ false
    by Acked is = refl
    by (Held holder among) is = absurd (true≢false (sym is))
    by (Free among) is = absurd (true≢false (sym is))

-- what is known of a book
record IsFair (b : Sending) : Type 0 where
  are : AreAcked (acked_len b.marks) b.marks
  whole : length b.marks ≡ length b.written
  new : AreNew b.edge b.marks
  owner : b.owner ≡ None
  goes : b.aborted ≡ false

refused_there : (path most : ℕ) (b : Sending) → IsFair b → StandsAtTheEdge b → decision path most false b ≡ Err WindowShut
refused_there path most b fair h =
    ap (λ x. if x || (b.closed && (acked_len b.marks == length b.written)) then Err Ended else span_at path most b (first_free path b)) fair.goes
    ∙ ap (λ x. if x then Err Ended else span_at path most b (first_free path b)) (ap (λ x. b.closed && x) (ne_eqb (acked_len b.marks) (length b.written) (λ same. (let left = h.left in omega (arith, same, left)))) ∙ and_false b.closed)
    ∙ ap (span_at path most b) first
    ∙ ap (λ x. if x then Err WindowShut else Ok (record { from = acked_len b.marks; to = acked_len b.marks + run_len path most b (acked_len b.marks) })) (le-leb b.edge (acked_len b.marks) h.acked)
  where
    and_false : (x : Bool) → (x && false) ≡ false
    and_false true = refl
    and_false false = refl

    within : acked_len b.marks < length b.marks
    within = let left = h.left in let whole = fair.whole in omega (arith, left, whole)

    at : position_or_len (is_free_for path) b.marks ≡ acked_len b.marks
    at = first_free_at path (acked_len b.marks) b.marks fair.are within (λ m there. untouched_free path m (fair.new (acked_len b.marks) m h.acked there))

    first : first_free path b ≡ Some (acked_len b.marks)
    first = ap (λ o. if is_for path o then position (is_free_for path) b.marks else None) fair.owner
        ∙ ap (λ n. cond (nat_lt n (length b.marks)) (Some n) None) at
        ∙ ap (λ x. cond x (Some (acked_len b.marks)) None) (lt-ltb (acked_len b.marks) (length b.marks) within)

-- ---- a path

-- by books of which all is known
abbrev StaysOut : SixBooks → SixBooks → List Note → PathState Carried → PathState Carried → Type 0
StaysOut six after steps p q = ((s : Side) → IsFair (send_of s six)) → ((s : Side) → (end_at s p).modes.standby ≡ false) → (s : Side) → IsShutOutAt six s p
    → IsShutOutAt after s q ⊎ ((send_of s six).edge < (send_of s after).edge)

stays_at : (six after : SixBooks) (s : Side) (p q : PathState Carried) → (end_at s q).sending.shut ≡ true → StandsOn (send_of s six) (send_of s after) → IsShutOutAt after s q ⊎ ((send_of s six).edge < (send_of s after).edge)
stays_at six after s p q shut (inl stands) = inl (record { shut = shut; stands = stands })
stays_at six after s p q shut (inr rises) = inr rises

others_stay : (six : SixBooks) (x : Ask) (steps : List Note) (p : PathState Carried) → StaysOut six (after_ask x six) steps p p
others_stay six x steps p fair serves s h = stays_at six (after_ask x six) s p p h.shut (ask_stands x six s (fair s).are h.stands)

module _ (six : SixBooks) (ds : List Duty) (p : PathState Carried) (d : Duty) (fair : (s : Side) → IsFair (send_of s six)) (serves : (s : Side) → (end_at s p).modes.standby ≡ false) (s : Side)
    (h : IsShutOutAt six s (with_agenda (d ∷ ds) p)) where
  abbrev from : PathState Carried
  from = with_agenda (d ∷ ds) p

  abbrev x : Ask
  x = ask_for values d from

  abbrev r : Reply
  r = reply_of six x

  abbrev q : PathState Carried
  q = takes values r from

  shut_then : (end_at s q).sending.shut ≡ true
  shut_then = by (at_grant values from d s)
    where
      by : AtGrant s from x (λ r. answered values d r from) → (end_at s q).sending.shut ≡ true
      by (asks_none_of_it quiet same) = (takes_told values from r d ds refl s).shut ∙ (same r).shut ∙ h.shut
      by (asks_bytes most stands asked tells size gives) =
          (takes_told values from r d ds refl s).shut ∙ ap (λ r. (end_at s (answered values d r from)).sending.shut) replied ∙ (tells WindowShut _).shut
        where
          unstanding : stands ≡ false
          unstanding = sym (own_standby s (path_of from) most stands) ∙ ap is_standby (sym asked) ∙ duty_serves values from serves d

          replied : r ≡ replies.Send (reply_by (Err WindowShut) (send_of s six))
          replied = ap (reply_of six) asked ∙ send_replied s (calls.Grant (path_of from) most stands) six
              ∙ ap (λ b. replies.Send (reply_by (decision (path_of from) most b (send_of s six)) (send_of s six))) unstanding
              ∙ ap (λ e. replies.Send (reply_by e (send_of s six))) (refused_there (path_of from) most (send_of s six) (fair s) h.stands)

  path_stays : IsShutOutAt (after_ask x six) s q ⊎ ((send_of s six).edge < (send_of s (after_ask x six)).edge)
  path_stays = stays_at six (after_ask x six) s from q shut_then (ask_stands x six s (fair s).are h.stands)

takes_stays : (six : SixBooks) (x : Ask) (steps : List Note) (p : PathState Carried) → asks_of values p ≡ Some x → TellsSteps (reply_of six x) steps → StaysOut six (after_ask x six) steps p (takes values (reply_of six x) p)
takes_stays six x steps p is told = by p.agenda is
  where
    by : (ds : List Duty) → let y : PathState Carried = with_agenda ds p in asks_of values y ≡ Some x → StaysOut six (after_ask x six) steps y (takes values (reply_of six x) y)
    by [] is = cc
    by (d ∷ ds) is = subst (λ y. StaysOut six (after_ask y six) steps (with_agenda (d ∷ ds) p) (takes values (reply_of six y) (with_agenda (d ∷ ds) p))) (same_Some (ask_for values d (with_agenda (d ∷ ds) p)) x is)
        (λ fair serves s h. path_stays six ds p d fair serves s h)

next_stays : (six : SixBooks) (steps : List Note) (p : PathState Carried) → is_nil p.agenda ≡ true → StaysOut six six steps p (next_round p)
next_stays six steps p over fair serves s h = inl (record { shut = by s h.shut; stands = h.stands })
  where
    by : (s : Side) → (end_at s p).sending.shut ≡ true → (end_at s (next_round p)).sending.shut ≡ true
    by A shut = ap (λ (e : PathEnd). e.sending.shut) (next_rests p).a ∙ shut
    by B shut = ap (λ (e : PathEnd). e.sending.shut) (next_rests p).b ∙ shut

-- ---- the world

module _ (start : Start) (turns : List Turn) (mild : IsMildStart start) where
  abbrev w : WorldState Carried
  w = reached values start turns

  fair_at : (s : Side) → IsFair (send_of s (books_in w.books))
  fair_at s = record {
    are = (send_is_tiled start turns mild.plain.size s).1;
    whole = (send_is_tiled start turns mild.plain.size s).0;
    new = nothing_is_tried_past_the_edge start turns s;
    owner = (sides_are_never_stopped start turns mild).owner s;
    goes = (sides_are_never_stopped start turns mild).send s;
  }

  member_stays : (books after : StampedBooks) (steps : List Note) (m n : Actor Carried) → ((s : Side) → IsFair (send_of s (books_in books))) → PathsBetween StaysOut books after steps m n
      → StaysShutOut (books_in books) (books_in after) m n
  member_stays books after steps (Path p) (Path q) fair h = h fair
  member_stays books after steps (App a) (App b) fair h = tt
  member_stays books after steps (App a) (Path q) fair h = absurd h
  member_stays books after steps (Path p) (App b) fair h = absurd h

pub shut_ends_stay_shut : ShutEndsStayShut
shut_ends_stay_shut start turns turn mild actor c there =
    let w : WorldState Carried = reached values start turns in
    let found = paths_between values StaysOut others_stay takes_stays next_stays w turn actor c there in
    (found.0, found.1, member_stays start turns mild w.books (after_turn values turn w).books found.0.list c.member found.0.member (fair_at start turns mild) found.2)
