-- After the end, or an abort, a reader's state stays; and nothing is written to a closed stream.
use Rattle.stream_lanes.proofs.Words.{◌≡◌, refl, ◌∙◌, ap, ℕ, Bool, true, false, List, [], ◌∷◌, Option, Some, None, Result, Ok, Err, if◌then◌else◌, ◌||◌, set}
use Rattle.stream_lanes.proofs.Words.{both_ways, slice_get, Span, Why, WriteBytes, CloseBook, Grant, AckIn, ReturnBytes, GoIdentityBook, GoInfiniteBook}
use Rattle.stream_lanes.proofs.Words.{AbortBook, Sending, acked_len, is_future, is_gathered, decision, given_by, Ask, Lane, Nothing, AskGrant, AskAckIn, Flags}
use Rattle.stream_lanes.proofs.Words.{Move, Direction, StreamEvent, after, asks, asks_at, moves, reads, is_done, with_send, goes_infinite, may_go, Write, Close}
use Rattle.stream_lanes.proofs.Words.{Return, GoIdentity, GoInfinite, AbortSend, Read, AbortRead, Moves, Asks, Duo, Event, flags_ab, flags_ba, after_event}
use Rattle.stream_lanes.proofs.Words.{after_events, ToB, ToA}
use Rattle.send_book.specs.declared.call.SendCall.{SendCall}
use Rattle.send_book.specs.Steps.{after_call}

-- what a closed book keeps
record IsShut (s t : Sending) : Type 0 where
  closed : t.closed ≡ true
  written : t.written ≡ s.written

shut_if : (s : Sending) (c : Bool) (t u : Sending) → (c ≡ true → IsShut s t) → (c ≡ false → IsShut s u) → IsShut s (if c then t else u)
shut_if s true t u at_true at_false = at_true refl
shut_if s false t u at_true at_false = at_false refl

given_shut : (path : ℕ) (r : Result Span Why) (s : Sending) → s.closed ≡ true → IsShut s (given_by path r s)
given_shut path (Ok span) s closed = record { closed = closed; written = refl }
given_shut path (Err why) s closed = record { closed = closed; written = refl }

call_shut : (call : SendCall) (s : Sending) → s.closed ≡ true → IsShut s (after_call s call)
call_shut (WriteBytes bytes) s closed = shut_if s (s.closed || s.aborted) s _ (λ shut. record { closed = closed; written = refl })
    (λ may. absurd (both_ways _ may (ap (λ c. c || s.aborted) closed)))
call_shut CloseBook s closed = shut_if s s.aborted s _ (λ _. record { closed = closed; written = refl }) (λ _. record { closed = refl; written = refl })
call_shut (Grant path max standby) s closed = given_shut path (decision path max standby s) s closed
call_shut (AckIn next window) s closed = shut_if s (is_future next s) s _ (λ _. record { closed = closed; written = refl }) (λ _. record { closed = closed; written = refl })
call_shut (GoInfiniteBook path) s closed = shut_if s (is_gathered path s) _ s (λ _. record { closed = closed; written = refl }) (λ _. record { closed = closed; written = refl })
call_shut _ s closed = record { closed = closed; written = refl }

asks_shut : (path : ℕ) (a : Ask) (p : Lane) (d : Direction) → d.send.closed ≡ true → IsShut d.send (asks path a p d).send
asks_shut path (AskGrant max standby) p d closed = call_shut (Grant path max standby) d.send closed
asks_shut path (AskAckIn next window) p d closed = call_shut (AckIn next window) d.send closed
asks_shut path _ p d closed = record { closed = closed; written = refl }

asks_at_shut : (path : ℕ) (o : Option Lane) (d : Direction) → d.send.closed ≡ true → IsShut d.send (asks_at path o d).send
asks_at_shut path None d closed = record { closed = closed; written = refl }
asks_at_shut path (Some p) d closed = asks_shut path p.asking p d closed

moves_shut : (f : Flags) (path : ℕ) (move : Move) (o : Option Lane) (d : Direction) → d.send.closed ≡ true → IsShut d.send (moves f path move o d).send
moves_shut f path move None d closed = record { closed = closed; written = refl }
moves_shut f path move (Some p) d closed = record { closed = closed; written = refl }

reads_shut : (max : ℕ) (done : Bool) (d : Direction) → d.send.closed ≡ true → IsShut d.send (if done then d else reads max d).send
reads_shut max true d closed = record { closed = closed; written = refl }
reads_shut max false d closed = record { closed = closed; written = refl }

identity_shut : (fell : Bool) (d : Direction) → d.send.closed ≡ true → IsShut d.send (if fell then with_send GoIdentityBook d else d).send
identity_shut true d closed = record { closed = closed; written = refl }
identity_shut false d closed = record { closed = closed; written = refl }

infinite_shut : (path pos : ℕ) (o : Option Lane) (d : Direction) → d.send.closed ≡ true → IsShut d.send (goes_infinite path pos o d).send
infinite_shut path pos None d closed = record { closed = closed; written = refl }
infinite_shut path pos (Some p) d closed = by_may (may_go path pos d.send p)
  where
    by_may : (may : Bool) → IsShut d.send (if may then record d {
      send = after_call d.send (GoInfiniteBook path);
      lanes = set d.lanes path (record p { pair = Some (record { pos = pos; place = acked_len d.send.marks }) });
    } else d).send
    by_may true = call_shut (GoInfiniteBook path) d.send closed
    by_may false = record { closed = closed; written = refl }

after_shut : (f : Flags) (event : StreamEvent) (d : Direction) → d.send.closed ≡ true → IsShut d.send (after f event d).send
after_shut f (Write bytes) d closed = call_shut (WriteBytes bytes) d.send closed
after_shut f Close d closed = call_shut CloseBook d.send closed
after_shut f (Return path) d closed = call_shut (ReturnBytes path) d.send closed
after_shut f GoIdentity d closed = identity_shut f.sender d closed
after_shut f (GoInfinite path pos) d closed = infinite_shut path pos (slice_get d.lanes path) d closed
after_shut f AbortSend d closed = call_shut AbortBook d.send closed
after_shut f (Read max) d closed = reads_shut max (is_done d.reader) d closed
after_shut f (AbortRead by_peer) d closed = record { closed = closed; written = refl }
after_shut f (Moves path move) d closed = moves_shut f path move (slice_get d.lanes path) d closed
after_shut f (Asks path) d closed = asks_at_shut path (slice_get d.lanes path) d closed

-- a reader that is done stays as it is
asks_done : (path : ℕ) (a : Ask) (p : Lane) (d : Direction) → (asks path a p d).reader ≡ d.reader
asks_done path Nothing p d = refl
asks_done path _ p d = refl

asks_at_done : (path : ℕ) (o : Option Lane) (d : Direction) → (asks_at path o d).reader ≡ d.reader
asks_at_done path None d = refl
asks_at_done path (Some p) d = asks_done path p.asking p d

moves_done : (f : Flags) (path : ℕ) (move : Move) (o : Option Lane) (d : Direction) → (moves f path move o d).reader ≡ d.reader
moves_done f path move None d = refl
moves_done f path move (Some p) d = refl

identity_done : (fell : Bool) (d : Direction) → (if fell then with_send GoIdentityBook d else d).reader ≡ d.reader
identity_done = elim [ true ↦ λ d. refl | false ↦ λ d. refl ]

infinite_done : (path pos : ℕ) (o : Option Lane) (d : Direction) → (goes_infinite path pos o d).reader ≡ d.reader
infinite_done path pos None d = refl
infinite_done path pos (Some p) d = by_may (may_go path pos d.send p)
  where
    by_may : (may : Bool) → (if may then record d {
      send = after_call d.send (GoInfiniteBook path);
      lanes = set d.lanes path (record p { pair = Some (record { pos = pos; place = acked_len d.send.marks }) });
    } else d).reader ≡ d.reader
    by_may true = refl
    by_may false = refl

after_done : (f : Flags) (event : StreamEvent) (d : Direction) → is_done d.reader ≡ true → (after f event d).reader ≡ d.reader
after_done f GoIdentity d done = identity_done f.sender d
after_done f (GoInfinite path pos) d done = infinite_done path pos (slice_get d.lanes path) d
after_done f (Read max) d done = ap (λ (c : Bool). (if c then d else reads max d).reader) done
after_done f (Moves path move) d done = moves_done f path move (slice_get d.lanes path) d
after_done f (Asks path) d done = asks_at_done path (slice_get d.lanes path) d
after_done f _ d done = refl

-- over every list of events
pub done_ab : (events : List Event) (w : Duo) → is_done w.ab.reader ≡ true → (after_events events w).ab.reader ≡ w.ab.reader
done_ab [] w done = refl
done_ab (event ∷ events) w done =
    let one : (after_event event w).ab.reader ≡ w.ab.reader = (elim event as (λ event. (after_event event w).ab.reader ≡ w.ab.reader)
    [ ToB event ↦ after_done (flags_ab w.modes) event w.ab done | _ ↦ refl ]) in
    done_ab events (after_event event w) (ap is_done one ∙ done) ∙ one

pub done_ba : (events : List Event) (w : Duo) → is_done w.ba.reader ≡ true → (after_events events w).ba.reader ≡ w.ba.reader
done_ba [] w done = refl
done_ba (event ∷ events) w done =
    let one : (after_event event w).ba.reader ≡ w.ba.reader = (elim event as (λ event. (after_event event w).ba.reader ≡ w.ba.reader)
    [ ToA event ↦ after_done (flags_ba w.modes) event w.ba done | _ ↦ refl ]) in
    done_ba events (after_event event w) (ap is_done one ∙ done) ∙ one

pub shut_ab : (events : List Event) (w : Duo) → w.ab.send.closed ≡ true → (after_events events w).ab.send.written ≡ w.ab.send.written
shut_ab [] w closed = refl
shut_ab (event ∷ events) w closed = let one = at event in shut_ab events (after_event event w) one.closed ∙ one.written
  where
    at : (event : Event) → IsShut w.ab.send (after_event event w).ab.send
    at (ToB event) = after_shut (flags_ab w.modes) event w.ab closed
    at _ = record { closed = closed; written = refl }

pub shut_ba : (events : List Event) (w : Duo) → w.ba.send.closed ≡ true → (after_events events w).ba.send.written ≡ w.ba.send.written
shut_ba [] w closed = refl
shut_ba (event ∷ events) w closed = let one = at event in shut_ba events (after_event event w) one.closed ∙ one.written
  where
    at : (event : Event) → IsShut w.ba.send (after_event event w).ba.send
    at (ToA event) = after_shut (flags_ba w.modes) event w.ba closed
    at _ = record { closed = closed; written = refl }
