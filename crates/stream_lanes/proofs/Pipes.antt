-- Each event is on each pipe one step or none.
use Rattle.stream_lanes.proofs.Words.{◌≡◌, refl, sym, ◌∙◌, ap, subst, ℕ, ◌+◌, ◌≤◌, min, max, Bool, true, false, nat_lt, ◌==◌, List, [], ◌∷◌, ◌++◌, length, take}
use Rattle.stream_lanes.proofs.Words.{drop, map, replicate, Option, Some, None, Result, Ok, Err, if◌then◌else◌, arith, ◌&&◌, ◌||◌, set, is_some, eqb-true}
use Rattle.stream_lanes.proofs.Words.{eq-eqb, le-ltb, or_parts, and_from, or_from, slice_get, length-take, IfSome, filled, received, places_after, fin_clash}
use Rattle.stream_lanes.proofs.Words.{is_taken, bytes_reply, reading, after_reading, End, NoneYet, Span, Why, GoIdentityBook, GoInfiniteBook, acked_len}
use Rattle.stream_lanes.proofs.Words.{after_send, bytes_taken, is_future, fin_after, is_gathered, decision, given_by, change_part, ByteMark, Acked, Free}
use Rattle.stream_lanes.proofs.Words.{returned, decision-MayTake, no_paths, Ask, Lane, Nothing, AskGrant, AskAckIn, AskPlace, AskFin, AskAckOut, Flags, Move}
use Rattle.stream_lanes.proofs.Words.{Direction, StreamEvent, after, asks, asks_at, moves, reads, is_done, takes_read, with_send, goes_infinite, may_go, Write}
use Rattle.stream_lanes.proofs.Words.{Close, Return, GoIdentity, GoInfinite, AbortSend, Read, AbortRead, Moves, Asks, view_of, end_of, IsEnd, IsAck, AskHolds}
use Rattle.stream_lanes.proofs.Words.{DirectionHolds, pipe_of, IsOneStepOrNone}
use Rattle.pipe_model.specs.declared.pipe.Pipe.{Pipe}
use Rattle.pipe_model.specs.declared.pipe.PipeStep.TheVariants.{Write as WriteStep, Close as CloseStep, Read as ReadStep, Ack as AckStep, TellEnd}
use Rattle.pipe_model.specs.declared.pipe.PipeFault.TheVariants.{Closed, Told, Past, NotAll}
use Rattle.send_book.specs.Marks.{given}
use Rattle.reassembly_book.specs.Steps.{is_end}
use Rattle.stream_lanes.specs.Laws.StepsOrStays.{stays, steps}
use Rattle.stream_lanes.proofs.MarkLists.{AreAcked-count, AreAcked-written, AreAcked-returned, AreAcked-given, AreAcked-acked}
use Rattle.stream_lanes.proofs.Views.{AllIn, all_in_is, is_end as is_end_of, received_written}
use Rattle.stream_lanes.proofs.Views.AllIn.{missing, complete}

-- the pipe of two books and what the reader was told
abbrev pipe : List ℕ → Bool → ℕ → ℕ → Bool → Pipe
pipe written closed read acked told = record { written = written; closed = closed; read = read; acked = acked; told_end = told }

same_acked : (p : Pipe) (acked : ℕ) → acked ≡ p.acked → record p { acked = acked } ≡ p
same_acked p acked same = ap (λ n. record p { acked = n }) same

same_read : (p : Pipe) (read : ℕ) → read ≡ p.read → record p { read = read } ≡ p
same_read p read same = ap (λ n. record p { read = n }) same

-- when a pipe allows a step
may_write : (p : Pipe) → p.closed ≡ false → (if p.closed then Some Closed else None) ≡ None
may_write p is = ap (λ (c : Bool). if c then Some Closed else None) is

may_read : (p : Pipe) (count : ℕ) → p.told_end ≡ false → p.read + count ≤ length p.written
    → (if p.told_end then Some Told else if nat_lt (length p.written) (p.read + count) then Some Past else None) ≡ None
may_read p count untold within =
    ap (λ (c : Bool). if c then Some Told else if nat_lt (length p.written) (p.read + count) then Some Past else None) untold
    ∙ ap (λ (c : Bool). if c then Some Past else None) (le-ltb (length p.written) (p.read + count) within)

may_ack : (p : Pipe) (to received : ℕ) → p.acked ≤ to → to ≤ received → received ≤ length p.written
    → (if nat_lt to p.acked || nat_lt received to || nat_lt (length p.written) received then Some Past else None) ≡ None
may_ack p to received rises covered written =
    ap (λ (c : Bool). if c then Some Past else None)
    (or_from (nat_lt to p.acked || nat_lt received to) (nat_lt (length p.written) received)
    (or_from (nat_lt to p.acked) (nat_lt received to) (le-ltb to p.acked rises) (le-ltb received to covered)) (le-ltb (length p.written) received written))

may_tell : (p : Pipe) → p.told_end ≡ false → p.closed ≡ true → p.read ≡ length p.written
    → (if p.told_end then Some Told else if p.closed && p.read == length p.written then None else Some NotAll) ≡ None
may_tell p untold closed whole =
    ap (λ (c : Bool). if c then Some Told else if p.closed && p.read == length p.written then None else Some NotAll) untold
    ∙ ap (λ (c : Bool). if c then None else Some NotAll) (and_from p.closed (p.read == length p.written) closed (eq-eqb p.read (length p.written) whole))

module _ (f : Flags) (d : Direction) (h : DirectionHolds f d) where
  within : received d.arrived ≤ length d.send.written
  within = received_written (view_of f d.send d.arrived) d.arrived h.arrived

  write_moves : (bytes : List ℕ) (shut : Bool) → (d.send.closed || d.send.aborted) ≡ shut
      → IsOneStepOrNone d (record d {
        send = if shut then d.send else record d.send {
          written = d.send.written ++ take (bytes_taken bytes d.send) bytes;
          marks = d.send.marks ++ replicate (bytes_taken bytes d.send) (Free no_paths);
        };
      })
  write_moves bytes true is = stays refl
  write_moves bytes false is = steps (record {
    step = WriteStep (take (bytes_taken bytes d.send) bytes);
    allowed = may_write (pipe_of d) (or_parts d.send.closed d.send.aborted is).0;
    becomes = ap (λ n. pipe (d.send.written ++ take (bytes_taken bytes d.send) bytes) d.send.closed d.arrived.read n d.reader.told)
        (AreAcked-count (acked_len d.send.marks) _ (AreAcked-written (acked_len d.send.marks) (bytes_taken bytes d.send) d.send.marks h.send.first));
    tells = tt;
  })

  close_moves : (shut : Bool) → IsOneStepOrNone d (record d { send = if shut then d.send else record d.send { closed = true } })
  close_moves true = stays refl
  close_moves false = steps (record { step = CloseStep; allowed = refl; becomes = refl; tells = tt })

  return_moves : (path : ℕ) → IsOneStepOrNone d (after f (Return path) d)
  return_moves path = stays (same_acked (pipe_of d) (acked_len (map (returned path) d.send.marks))
      (AreAcked-count (acked_len d.send.marks) _ (AreAcked-returned path (acked_len d.send.marks) d.send.marks h.send.first)))

  identity_moves : (fell : Bool) → IsOneStepOrNone d (if fell then with_send GoIdentityBook d else d)
  identity_moves = elim [ true ↦ stays refl | false ↦ stays refl ]

  gives_moves : (path : ℕ) (lanes : List Lane) (gathered : Bool) → IsOneStepOrNone d (record d { send = if gathered then record d.send { owner = Some path } else d.send; lanes = lanes })
  gives_moves path lanes true = stays refl
  gives_moves path lanes false = stays refl

  infinite_moves : (path pos : ℕ) (o : Option Lane) → IsOneStepOrNone d (goes_infinite path pos o d)
  infinite_moves path pos None = stays refl
  infinite_moves path pos (Some p) = elim (may_go path pos d.send p) as (λ may. IsOneStepOrNone d (if may then record d { send = after_send d.send (GoInfiniteBook path); lanes = lanes } else d))
      [ true ↦ gives_moves path lanes (is_gathered path d.send) | false ↦ stays refl ]
    where
      lanes : List Lane
      lanes = set d.lanes path (record p { pair = Some (record { pos = pos; place = acked_len d.send.marks }) })

  grant_moves : (path max : ℕ) (standby : Bool) (lanes : List Lane) (r : Result Span Why) → decision path max standby d.send ≡ r
      → IsOneStepOrNone d (record d { send = given_by path r d.send; lanes = lanes })
  grant_moves path max standby lanes (Err why) is = stays refl
  grant_moves path max standby lanes (Ok span) is =
      let m = decision-MayTake path max standby d.send span is in
      stays (same_acked (pipe_of d) (acked_len (change_part (given path) span d.send.marks))
      (AreAcked-count (acked_len d.send.marks) _ (AreAcked-given path (acked_len d.send.marks) span d.send.marks (omega (arith, m.whole)) h.send.first)))

  ack_moves : (next window : ℕ) (lanes : List Lane) → IsAck (view_of f d.send d.arrived) next window → (future : Bool)
      → IsOneStepOrNone d (record d {
        send = if future then d.send else record d.send {
          marks = replicate (min next (length d.send.marks)) Acked ++ drop next d.send.marks;
          edge = max d.send.edge (next + window);
          fin = fin_after next d.send;
        };
        lanes = lanes;
      })
  ack_moves next window lanes ack true = stays refl
  ack_moves next window lanes ack false = steps (record {
    step = AckStep (acked_len marks) (received d.arrived);
    allowed = may_ack (pipe_of d) (acked_len marks) (received d.arrived) (omega (arith, count))
        (omega (arith, count, h.send.acked, covered (all_in_is d.send.closed d.send.written (received d.arrived)))) within;
    becomes = refl;
    tells = refl;
  })
    where
      marks : List ByteMark
      marks = replicate (min next (length d.send.marks)) Acked ++ drop next d.send.marks

      count : acked_len marks ≡ max (acked_len d.send.marks) (min next (length d.send.marks))
      count = AreAcked-count _ marks (AreAcked-acked (acked_len d.send.marks) next (min next (length d.send.marks)) _ d.send.marks refl refl h.send.first)

      covered : AllIn d.send.closed d.send.written (received d.arrived) → min next (length d.send.marks) ≤ received d.arrived
      covered (missing is) = omega (arith, is, ack.covers)
      covered (complete closed whole is) = omega (arith, whole, h.send.whole)

  place_moves : (taken : Bool) (places : List (Option ℕ)) (lanes : List Lane) → IsOneStepOrNone d (record d { arrived = if taken then record d.arrived { places = places } else d.arrived; lanes = lanes })
  place_moves = elim [ true ↦ λ places lanes. stays refl | false ↦ λ places lanes. stays refl ]

  fin_moves : (clash : Bool) (at : ℕ) (lanes : List Lane) → IsOneStepOrNone d (record d { arrived = if clash then d.arrived else record d.arrived { known_end = Some at }; lanes = lanes })
  fin_moves = elim [ true ↦ λ at lanes. stays refl | false ↦ λ at lanes. stays refl ]

  asks_moves : (path : ℕ) (p : Lane) (a : Ask) → AskHolds (view_of f d.send d.arrived) p.sent p.opened p.edge a → IsOneStepOrNone d (asks path a p d)
  asks_moves path p Nothing ask = stays refl
  asks_moves path p (AskGrant max standby) ask = grant_moves path max standby d.lanes (decision path max standby d.send) refl
  asks_moves path p (AskAckIn next window) ask = ack_moves next window d.lanes ask (is_future next d.send)
  asks_moves path p (AskPlace at bytes) ask = place_moves (is_taken at bytes d.arrived) (places_after at bytes d.arrived) d.lanes
  asks_moves path p (AskFin at) ask = fin_moves (is_some (fin_clash d.arrived.known_end at d.arrived)) at d.lanes
  asks_moves path p AskAckOut ask = stays refl

  asks_at_moves : (path : ℕ) (o : Option Lane) → slice_get d.lanes path ≡ o → IsOneStepOrNone d (asks_at path o d)
  asks_at_moves path None there = stays refl
  asks_at_moves path (Some p) there = asks_moves path p p.asking (h.lanes.each path path p (omega arith) there).ask

  lane_moves : (path : ℕ) (move : Move) (o : Option Lane) → IsOneStepOrNone d (moves f path move o d)
  lane_moves path move None = stays refl
  lane_moves path move (Some p) = stays refl

  -- a read is one step of the pipe, tells the end, or is none
  reads_moves : (max : ℕ) → is_done d.reader ≡ false → IsOneStepOrNone d (reads max d)
  reads_moves max goes =
      elim d.arrived.aborted as (λ o. IsOneStepOrNone d (record d { arrived = if is_some o then d.arrived else after_reading max d.arrived; reader = takes_read (reading o max d.arrived) d.reader }))
      [ None ↦ by_bytes (take max (filled d.arrived.places)) refl | Some by_peer ↦ stays refl ]
    where
      untold : d.reader.told ≡ false
      untold = (or_parts d.reader.told d.reader.stopped goes).0

      none_read : take max (filled d.arrived.places) ≡ [] → d.arrived.read + min max (length (filled d.arrived.places)) ≡ d.arrived.read
      none_read is = omega (arith, length-take max (filled d.arrived.places), ap length is)

      end_at : (o : Option ℕ) → IfSome o (IsEnd (end_of d.send)) → is_end o d.arrived.read ≡ true → IsEnd (end_of d.send) d.arrived.read
      end_at None end is = cc
      end_at (Some e) end is = subst (IsEnd (end_of d.send)) (eqb-true e d.arrived.read is) end

      by_end : (c : Bool) → is_end d.arrived.known_end d.arrived.read ≡ c → take max (filled d.arrived.places) ≡ []
          → IsOneStepOrNone d (record d { arrived = after_reading max d.arrived; reader = takes_read (if c then End else NoneYet) d.reader })
      by_end true is none =
          let end = is_end_of d.send d.arrived.read (end_at d.arrived.known_end h.arrived.end is) in
          steps (record {
            step = TellEnd;
            allowed = may_tell (pipe_of d) untold end.0 (sym end.1);
            becomes = ap (λ n. pipe d.send.written d.send.closed n (acked_len d.send.marks) true) (none_read none);
            tells = tt;
          })
      by_end false is none = stays (same_read (pipe_of d) _ (none_read none))

      by_bytes : (bytes : List ℕ) → take max (filled d.arrived.places) ≡ bytes
          → IsOneStepOrNone d (record d { arrived = after_reading max d.arrived; reader = takes_read (bytes_reply bytes d.arrived) d.reader })
      by_bytes [] is = by_end (is_end d.arrived.known_end d.arrived.read) refl is
      by_bytes (x ∷ bytes) is =
          let count : length (x ∷ bytes) ≡ min max (length (filled d.arrived.places)) = ap length (sym is) ∙ length-take max (filled d.arrived.places) in
          steps (record {
            step = ReadStep (length (x ∷ bytes));
            allowed = may_read (pipe_of d) (length (x ∷ bytes)) untold (omega (arith, count, within));
            becomes = ap (λ n. pipe d.send.written d.send.closed (d.arrived.read + n) (acked_len d.send.marks) d.reader.told) (sym count);
            tells = tt;
          })

  read_at_moves : (max : ℕ) (done : Bool) → is_done d.reader ≡ done → IsOneStepOrNone d (if done then d else reads max d)
  read_at_moves max true is = stays refl
  read_at_moves max false is = reads_moves max is

  pub event_moves : (event : StreamEvent) → IsOneStepOrNone d (after f event d)
  event_moves (Write bytes) = write_moves bytes (d.send.closed || d.send.aborted) refl
  event_moves Close = close_moves d.send.aborted
  event_moves (Return path) = return_moves path
  event_moves GoIdentity = identity_moves f.sender
  event_moves (GoInfinite path pos) = infinite_moves path pos (slice_get d.lanes path)
  event_moves AbortSend = stays refl
  event_moves (Read max) = read_at_moves max (is_done d.reader) refl
  event_moves (AbortRead by_peer) = stays refl
  event_moves (Moves path move) = lane_moves path move (slice_get d.lanes path)
  event_moves (Asks path) = asks_at_moves path (slice_get d.lanes path) refl
