-- The numbers of books stay small, and so do those of their replies.
use Rattle.std.proofs.Common.{◌≡◌, refl, ℕ, ◌+◌, ◌-◌, ◌^◌, ◌≤◌, min, Bool, true, false, if◌then◌else◌, ◌||◌, ◌==◌, nat_lt, List, [], ◌∷◌, length, take, drop, Option, Some, None, is_some, IfSome, Result, Ok, Err, length-append, arith}
use Rattle.std.proofs.lemmas.List.{length-take, length-drop}
use Rattle.std.proofs.lemmas.List.Sums.{count_by-le-length}
use Rattle.sides.specs.declared.side.Side.TheVariants.{A, B}
use Rattle.send_book.specs.declared.call.Span.{Span}
use Rattle.send_book.specs.declared.call.Why.{Why}
use Rattle.send_book.specs.declared.call.SendCall.{SendCall}
use Rattle.send_book.specs.declared.call.SendReply.{SendReply}
use Rattle.send_book.specs.State.{Sending, Tile, acked_len}
use Rattle.send_book.specs.Marks.{is_acked, is_held_by}
use Rattle.send_book.specs.Steps as send
use Rattle.send_book.proofs.Decisions.{decision-MayTake}
use Rattle.reassembly_book.specs.declared.call.ReassemblyCall.{ReassemblyCall}
use Rattle.reassembly_book.specs.declared.call.ReassemblyReply.{ReassemblyReply}
use Rattle.reassembly_book.specs.State.{Arriving, filled, received, top}
use Rattle.reassembly_book.specs.Steps as reassembly
use Rattle.reassembly_book.proofs.Bounds.{length-merged}
use Rattle.reassembly_book.proofs.Merging.{filled-le, by_place-le}
use Rattle.control_book.specs.declared.call.ControlCall.{ControlCall}
use Rattle.control_book.specs.Calls.{can_ask}
use Rattle.control_book.specs.Control.{Control}
use Rattle.control_book.specs.Replies as control
use Rattle.linked_increase.specs.Paths.{row_of}
use Rattle.control_book.specs.Laws.{RowsAreRight}
use Rattle.control_book.proofs.RowsRight.{right_once, rows_stay_right, rows_can_grow}
use Rattle.actor_desk.specs.declared.ask.Ask.{Ask}
use Rattle.actor_desk.specs.Bounds.{IsPlace, IsSmallSend, IsSmallReassembly, IsSmallControl, IsWrittenSmall, IsReceivedSmall, OpenedBooksAreSmall, BooksStaySmall, BooksAnswerWithinBounds}

-- ---- the send book

written_either : (c : Bool) (one other : Sending) → IsWrittenSmall one → IsWrittenSmall other → IsWrittenSmall (if c then one else other)
written_either = elim [ true ↦ λ one other p q. p | false ↦ λ one other p q. q ]

written_given : (path : ℕ) (o : Result Span Why) (b : Sending) → IsWrittenSmall b → IsWrittenSmall (send.given_by path o b)
written_given path (Ok span) b small = record { written = small.written }
written_given path (Err why) b small = small

pub written_small : (b : Sending) (call : SendCall) → IsWrittenSmall b → IsWrittenSmall (send.after_call b call)
written_small b (SendCall.Write bytes) small =
    written_either (b.closed || b.aborted) _ _ small
    (record { written = omega (arith, length-append b.written (take (send.bytes_taken bytes b) bytes), length-take (send.bytes_taken bytes b) bytes, small.written) })
written_small b SendCall.Close small = written_either b.aborted _ _ small (record { written = small.written })
written_small b (SendCall.Grant path max standby) small = written_given path (send.decision path max standby b) b small
written_small b (SendCall.AckIn next window) small = written_either (send.is_future next b) _ _ small (record { written = small.written })
written_small b (SendCall.GoInfinite path) small = written_either (send.is_gathered path b) _ _ (record { written = small.written }) small
written_small b _ small = record { written = small.written }

end_small : (c : Bool) (n : ℕ) → IsPlace n → IfSome (if c then Some n else None) IsPlace
end_small = elim [ true ↦ λ n small. small | false ↦ λ n small. tt ]

granted_small : (path max : ℕ) (standby : Bool) (b : Sending) → Tile b → IsWrittenSmall b → (o : Result Span Why)
    → send.decision path max standby b ≡ o → IsSmallSend (send.reply_by o b)
granted_small path max standby b tile small (Err why) is = end_small _ (length b.written) (omega (arith, small.written))
granted_small path max standby b tile small (Ok span) is =
    let may = decision-MayTake path max standby b span is in (
      omega (arith, may.whole, may.within, tile.whole, small.written),
      omega (arith, may.within, tile.whole, small.written),
    )

pub send_small : (b : Sending) (call : SendCall) → Tile b → IsWrittenSmall b → IsSmallSend (send.reply_to b call)
send_small b (SendCall.Write bytes) tile small = elim (b.closed || b.aborted) as (λ c. IsSmallSend (if c then SendReply.Shut else SendReply.Taken (send.bytes_taken bytes b)))
    [ true ↦ tt | false ↦ omega arith ]
send_small b SendCall.Close tile small = elim b.aborted as (λ c. IsSmallSend (if c then SendReply.Shut else SendReply.Closed)) [ true ↦ tt | false ↦ tt ]
send_small b (SendCall.Grant path max standby) tile small =
    granted_small path max standby b tile small (send.decision path max standby b) refl
send_small b (SendCall.AckIn next window) tile small =
    elim (send.is_future next b) as (λ c. IsSmallSend (if c then SendReply.AckFuture (length b.written) else SendReply.Acked (min next (length b.written) - acked_len b.marks) (send.fin_after next b)))
    [ true ↦ omega (arith, small.written) | false ↦ omega (arith, small.written) ]
send_small b (SendCall.Return path) tile small = omega (arith, count_by-le-length (is_held_by path) b.marks, tile.whole, small.written)
send_small b SendCall.GoIdentity tile small = tt
send_small b (SendCall.GoInfinite path) tile small = elim (send.is_gathered path b) as (λ c. IsSmallSend (if c then SendReply.Infinite (acked_len b.marks) else SendReply.Scattered))
    [ true ↦ omega (arith, count_by-le-length is_acked b.marks, tile.whole, small.written) | false ↦ tt ]
send_small b SendCall.Abort tile small = tt

-- ---- the reassembly book

received_either : (c : Bool) (one other : Arriving) → IsReceivedSmall one → IsReceivedSmall other → IsReceivedSmall (if c then one else other)
received_either = elim [ true ↦ λ one other p q. p | false ↦ λ one other p q. q ]

pub received_small : (b : Arriving) (call : ReassemblyCall) → IsReceivedSmall b → reassembly.CanAsk call → IsReceivedSmall (reassembly.after_call b call)
received_small b (ReassemblyCall.Place at bytes) small can =
    let others : List (Option ℕ) = reassembly.by_place at bytes in
    received_either (reassembly.is_taken at bytes b) _ _
    (record {
      places = omega (arith, length-merged b.places (drop b.read others), length-drop b.read others, by_place-le at bytes, can, small.places);
      ends = small.ends;
      room = small.room;
    })
    small
received_small b (ReassemblyCall.Fin at) small can =
    received_either (is_some (reassembly.fin_clash b.known_end at b)) _ _ small (record { places = small.places; ends = can; room = small.room })
received_small b (ReassemblyCall.Read max) small can =
    let n : ℕ = min max (length (filled b.places)) in
    received_either (is_some b.aborted) _ _ small
    (record { places = omega (arith, length-drop n b.places, filled-le b.places, small.places); ends = small.ends; room = small.room })
received_small b ReassemblyCall.AckOut small can = small
received_small b (ReassemblyCall.Abort by_peer) small can = record { places = small.places; ends = small.ends; room = small.room }

placed_small : (at : ℕ) (bytes : List ℕ) (b : Arriving) → IsReceivedSmall b → at + length bytes ≤ 2 ^ 62
    → IsSmallReassembly (reassembly.placed_reply None at bytes b)
placed_small at bytes b small can =
    let others : List (Option ℕ) = reassembly.by_place at bytes in
    omega (
      arith,
      count_by-le-length is_some (reassembly.places_after at bytes b),
      length-merged b.places (drop b.read others),
      length-drop b.read others,
      by_place-le at bytes,
      can,
      small.places,
    )

clash_small : (o : Option ℕ) (at : ℕ) (bytes : List ℕ) (b : Arriving) → IsReceivedSmall b → at + length bytes ≤ 2 ^ 62 → IfSome o (λ e. e ≤ 2 ^ 62)
    → IsSmallReassembly (reassembly.placed_reply (reassembly.clash o at bytes) at bytes b)
clash_small None at bytes b small can ends = placed_small at bytes b small can
clash_small (Some e) at bytes b small can ends = elim (reassembly.reaches_past e at bytes) as (λ c. IsSmallReassembly (reassembly.placed_reply (if c then Some e else None) at bytes b))
    [ true ↦ (omega (arith, ends), omega (arith, can)) | false ↦ placed_small at bytes b small can ]

fin_small : (o : Option ℕ) (at : ℕ) (b : Arriving) → IsReceivedSmall b → at ≤ 2 ^ 62 → IfSome o (λ e. e ≤ 2 ^ 62)
    → IsSmallReassembly (reassembly.fin_reply_by (reassembly.fin_clash o at b) at)
fin_small None at b small can ends = elim (nat_lt at (top b)) as (λ c. IsSmallReassembly (reassembly.fin_reply_by (if c then Some (top b) else None) at))
    [ true ↦ (omega (arith, small.places), omega (arith, can)) | false ↦ tt ]
fin_small (Some e) at b small can ends = elim (e == at) as (λ c. IsSmallReassembly (reassembly.fin_reply_by (if c then None else Some e) at))
    [ true ↦ tt | false ↦ (omega (arith, ends), omega (arith, can)) ]

read_small : (aborted : Option Bool) (max : ℕ) (b : Arriving) → IsSmallReassembly (reassembly.reading aborted max b)
read_small (Some by_peer) max b = tt
read_small None max b = elim (take max (filled b.places)) as (λ bytes. IsSmallReassembly (reassembly.bytes_reply bytes b))
    [ [] ↦ elim (reassembly.is_end b.known_end b.read) as (λ c. IsSmallReassembly (if c then ReassemblyReply.End else ReassemblyReply.NoneYet)) [ true ↦ tt | false ↦ tt ] | byte ∷ bytes ↦ tt ]

pub reassembly_small : (b : Arriving) (call : ReassemblyCall) → IsReceivedSmall b → reassembly.CanAsk call → IsSmallReassembly (reassembly.reply_to b call)
reassembly_small b (ReassemblyCall.Place at bytes) small can = by (reassembly.reaches_past (reassembly.edge b) at bytes)
  where
    by : (c : Bool) → IsSmallReassembly
        (if c then ReassemblyReply.Beyond (reassembly.edge b) else reassembly.placed_reply (reassembly.clash b.known_end at bytes) at bytes b)
    by true = omega (arith, small.places, small.room)
    by false = clash_small b.known_end at bytes b small can small.ends
reassembly_small b (ReassemblyCall.Fin at) small can = fin_small b.known_end at b small can small.ends
reassembly_small b (ReassemblyCall.Read max) small can = read_small b.aborted max b
reassembly_small b ReassemblyCall.AckOut small can =
    elim (reassembly.is_end b.known_end (received b)) as (λ c. IsSmallReassembly (ReassemblyReply.Ack (received b + (if c then 1 else 0)) (reassembly.window b)))
    [ true ↦ (omega (arith, filled-le b.places, small.places), omega (arith, small.room)) | false ↦ (omega (arith, filled-le b.places, small.places), omega (arith, small.room)) ]
reassembly_small b (ReassemblyCall.Abort by_peer) small can = tt

-- ---- the control book

pub control_small : (c : Control) (call : ControlCall) → RowsAreRight c.paths → can_ask call → IsSmallControl call (control.reply_to c call)
control_small c (ControlCall.Look path) right can = tt
control_small c (ControlCall.PeerKey key) right can = tt
control_small c (ControlCall.Keys own peer) right can = tt
control_small c (ControlCall.Fell path event) right can = tt
control_small c (ControlCall.JoinBegin path) right can = tt
control_small c (ControlCall.JoinHeard path token) right can = tt
control_small c (ControlCall.Live path backup) right can = tt
control_small c (ControlCall.Dead path) right can = tt
control_small c (ControlCall.Backup path on) right can = tt
control_small c (ControlCall.Rate path window rtt) right can =
    let grow = rows_can_grow c.paths (row_of path window rtt) right (record { some_window = can.1; window = can.2; some_rtt = can.3; rtt = can.4 }) can.0 in
    record { among = grow.1; in_range = grow.0 }
control_small c (ControlCall.Announce id) right can = tt
control_small c _ right can = tt

-- ---- the six

pub opened_small : OpenedBooksAreSmall
opened_small buffer key_a key_b most = record {
  send_a = record { written = omega arith };
  send_b = record { written = omega arith };
  reassembly_a = record { places = omega arith; ends = tt; room = most };
  reassembly_b = record { places = omega arith; ends = tt; room = most };
  control_a = rows_stay_right [] A key_a tt;
  control_b = rows_stay_right [] B key_b tt;
}

pub stay_small : BooksStaySmall
stay_small books (Ask.Send A call) small can = record {
  send_a = written_small books.send_a call small.send_a;
  send_b = small.send_b;
  reassembly_a = small.reassembly_a;
  reassembly_b = small.reassembly_b;
  control_a = small.control_a;
  control_b = small.control_b;
}
stay_small books (Ask.Send B call) small can = record {
  send_a = small.send_a;
  send_b = written_small books.send_b call small.send_b;
  reassembly_a = small.reassembly_a;
  reassembly_b = small.reassembly_b;
  control_a = small.control_a;
  control_b = small.control_b;
}
stay_small books (Ask.Reassembly A call) small can = record {
  send_a = small.send_a;
  send_b = small.send_b;
  reassembly_a = received_small books.reassembly_a call small.reassembly_a can;
  reassembly_b = small.reassembly_b;
  control_a = small.control_a;
  control_b = small.control_b;
}
stay_small books (Ask.Reassembly B call) small can = record {
  send_a = small.send_a;
  send_b = small.send_b;
  reassembly_a = small.reassembly_a;
  reassembly_b = received_small books.reassembly_b call small.reassembly_b can;
  control_a = small.control_a;
  control_b = small.control_b;
}
stay_small books (Ask.Control A call) small can = record {
  send_a = small.send_a;
  send_b = small.send_b;
  reassembly_a = small.reassembly_a;
  reassembly_b = small.reassembly_b;
  control_a = right_once books.control_a call can small.control_a;
  control_b = small.control_b;
}
stay_small books (Ask.Control B call) small can = record {
  send_a = small.send_a;
  send_b = small.send_b;
  reassembly_a = small.reassembly_a;
  reassembly_b = small.reassembly_b;
  control_a = small.control_a;
  control_b = right_once books.control_b call can small.control_b;
}
stay_small books (Ask.Local step) small can = small

pub answer_small : BooksAnswerWithinBounds
answer_small books (Ask.Send A call) tiled small can = send_small books.send_a call tiled.a small.send_a
answer_small books (Ask.Send B call) tiled small can = send_small books.send_b call tiled.b small.send_b
answer_small books (Ask.Reassembly A call) tiled small can = reassembly_small books.reassembly_a call small.reassembly_a can
answer_small books (Ask.Reassembly B call) tiled small can = reassembly_small books.reassembly_b call small.reassembly_b can
answer_small books (Ask.Control A call) tiled small can = control_small books.control_a call small.control_a can
answer_small books (Ask.Control B call) tiled small can = control_small books.control_b call small.control_b can
answer_small books (Ask.Local step) tiled small can = tt
