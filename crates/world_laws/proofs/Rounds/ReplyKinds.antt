-- What a book answers is of the asked kind, whatever the numbers in the call.
use Rattle.world_laws.proofs.Words.{◌≡◌, refl, ◌∙◌, ap, ℕ, ◌-◌, ◌≤◌, ◌||◌, not, min, Bool, true, false, if◌then◌else◌, Option, Some, None, Result, Ok, Err}
use Rattle.world_laws.proofs.Words.{List, [], ◌∷◌, ◌++◌, length, take, drop, map, replicate, arith, length-take, length-drop, length-map, length-replicate, A}
use Rattle.world_laws.proofs.Words.{B, ControlCall, ControlReply, Control, ReassemblyCall, Arriving, filled, none, ReassemblyReply, Span, Why, SendCall}
use Rattle.world_laws.proofs.Words.{Sending, Tile, acked_len, new_sending, Acked, Free, given, returned, no_paths, decision-MayTake, SendReply, Ask, SixBooks}
use Rattle.world_laws.proofs.Words.{reply_of, after_ask, IsSendKind, IsReassemblyKind, IsControlKind, IsOfKind, if_so}
use Rattle.std.proofs.Common.{length-append}
use Rattle.send_book.specs.Steps as send
use Rattle.reassembly_book.specs.Steps as reassembly
use Rattle.control_book.specs.Calls.{can_ask}
use Rattle.control_book.specs.Replies as control
use Rattle.actor_desk.proofs.InKind.{books_answer}

-- ---- one mark a byte

pub record IsMarked (b : Sending) : Type 0 where
  pub whole : length b.marks ≡ length b.written

either_marked : (c : Bool) (x y : Sending) → IsMarked x → IsMarked y → IsMarked (if c then x else y)
either_marked = elim [ true ↦ λ x y p q. p | false ↦ λ x y p q. q ]

given_marked : (path max : ℕ) (standby : Bool) (b : Sending) → IsMarked b → (r : Result Span Why) → send.decision path max standby b ≡ r
    → IsMarked (send.given_by path r b)
given_marked path max standby b h (Err why) is = h
given_marked path max standby b h (Ok span) is =
    let may = decision-MayTake path max standby b span is in
    let part = take (span.to - span.from) (drop span.from b.marks) in
    let size : length part ≡ may.count = omega (arith, length-take (span.to - span.from) (drop span.from b.marks), length-drop span.from b.marks, may.whole, may.within) in
    record {
      whole = omega (
        arith,
        h.whole,
        may.whole,
        may.within,
        size,
        length-append (take span.from b.marks) (map (given path) part ++ drop span.to b.marks),
        length-append (map (given path) part) (drop span.to b.marks),
        length-take span.from b.marks,
        length-drop span.to b.marks,
        length-map part (given path),
      );
    }

call_marked : (b : Sending) (call : SendCall) → IsMarked b → IsMarked (send.after_call b call)
call_marked b (SendCall.Write bytes) h =
    either_marked (b.closed || b.aborted) _ _ h
    (record {
      whole = omega (
        arith,
        h.whole,
        length-append b.written (take (send.bytes_taken bytes b) bytes),
        length-take (send.bytes_taken bytes b) bytes,
        length-append b.marks (replicate (send.bytes_taken bytes b) (Free no_paths)),
        length-replicate (send.bytes_taken bytes b) (Free no_paths),
      );
    })
call_marked b SendCall.Close h = either_marked b.aborted _ _ h (record { whole = h.whole })
call_marked b (SendCall.Grant path max standby) h = given_marked path max standby b h (send.decision path max standby b) refl
call_marked b (SendCall.AckIn next window) h =
    either_marked (send.is_future next b) _ _ h
    (record {
      whole = omega (
        arith,
        h.whole,
        length-append (replicate (min next (length b.marks)) Acked) (drop next b.marks),
        length-replicate (min next (length b.marks)) Acked,
        length-drop next b.marks,
      );
    })
call_marked b (SendCall.Return path) h = record { whole = length-map b.marks (returned path) ∙ h.whole }
call_marked b SendCall.GoIdentity h = record { whole = h.whole }
call_marked b (SendCall.GoInfinite path) h = either_marked (send.is_gathered path b) _ _ (record { whole = h.whole }) h
call_marked b SendCall.Abort h = record { whole = h.whole }

-- both send books are so
pub record AreMarked (six : SixBooks) : Type 0 where
  pub a : IsMarked six.send_a
  pub b : IsMarked six.send_b

pub ask_marked : (six : SixBooks) (x : Ask) → AreMarked six → AreMarked (after_ask x six)
ask_marked six (Ask.Send A call) h = record { a = call_marked six.send_a call h.a; b = h.b }
ask_marked six (Ask.Send B call) h = record { a = h.a; b = call_marked six.send_b call h.b }
ask_marked six (Ask.Reassembly s call) h = record { a = h.a; b = h.b }
ask_marked six (Ask.Control s call) h = record { a = h.a; b = h.b }
ask_marked six (Ask.Local step) h = h

-- ---- the send book

-- a grant is asked for some bytes
abbrev pub WantsSome : SendCall → Type 0
WantsSome (SendCall.Grant path max standby) = 1 ≤ max
WantsSome _ = Unit {0}

abbrev pub AsksSome : Ask → Type 0
AsksSome (Ask.Send s call) = WantsSome call
AsksSome _ = Unit {0}

granted_kind : (path max : ℕ) (standby : Bool) (b : Sending) → IsMarked b → 1 ≤ max → (r : Result Span Why) → send.decision path max standby b ≡ r
    → IsSendKind (SendCall.Grant path max standby) (send.reply_by r b)
granted_kind path max standby b h some (Err why) is = tt
granted_kind path max standby b h some (Ok span) is =
    let may = decision-MayTake path max standby b span is in
    let len : length (send.part_of span b.written) ≡ min (span.to - span.from) (length b.written - span.from)
    = rw (length-take (span.to - span.from) (drop span.from b.written), length-drop span.from b.written) refl in
    let least : 1 ≤ may.count = may.some some in (
      record { some = omega (arith, len, least, may.whole, may.within, h.whole); most = omega (arith, len, may.whole, may.most) },
      record { whole = omega (arith, len, may.whole, may.within, h.whole) },
    )

send_kind : (b : Sending) (call : SendCall) → IsMarked b → WantsSome call → IsSendKind call (send.reply_to b call)
send_kind b (SendCall.Write bytes) h some =
    if_so (IsSendKind (SendCall.Write bytes)) (b.closed || b.aborted) SendReply.Shut (SendReply.Taken (send.bytes_taken bytes b))
    tt (omega arith)
send_kind b SendCall.Close h some = if_so (IsSendKind SendCall.Close) b.aborted SendReply.Shut SendReply.Closed tt tt
send_kind b (SendCall.Grant path max standby) h some = granted_kind path max standby b h some (send.decision path max standby b) refl
send_kind b (SendCall.AckIn next window) h some = by (send.is_future next b)
  where
    by : (c : Bool) → IsSendKind (SendCall.AckIn next window) (if c then SendReply.AckFuture (length b.written) else SendReply.Acked (min next (length b.written) - acked_len b.marks) (send.fin_after next b))
    by = elim [ true ↦ tt | false ↦ tt ]
send_kind b (SendCall.Return path) h some = tt
send_kind b SendCall.GoIdentity h some = tt
send_kind b (SendCall.GoInfinite path) h some =
    if_so (IsSendKind (SendCall.GoInfinite path)) (send.is_gathered path b) (SendReply.Infinite (acked_len b.marks)) SendReply.Scattered
    tt tt
send_kind b SendCall.Abort h some = tt

-- ---- the reassembly book

read_kind : (max : ℕ) (b : Arriving) (bytes : List ℕ) → bytes ≡ take max (filled b.places) → IsReassemblyKind (ReassemblyCall.Read max) (reassembly.bytes_reply bytes b)
read_kind max b [] is = if_so (IsReassemblyKind (ReassemblyCall.Read max)) (reassembly.is_end b.known_end b.read) ReassemblyReply.End ReassemblyReply.NoneYet tt tt
read_kind max b (byte ∷ bytes) is =
    let len : length (byte ∷ bytes) ≡ min max (length (filled b.places)) = ap length is ∙ length-take max (filled b.places) in
    record { some = omega arith; most = omega (arith, len) }

reading_kind : (aborted : Option Bool) (max : ℕ) (b : Arriving) → IsReassemblyKind (ReassemblyCall.Read max) (reassembly.reading aborted max b)
reading_kind None max b = read_kind max b (take max (filled b.places)) refl
reading_kind (Some by_peer) max b = tt

pub reassembly_kind : (b : Arriving) (call : ReassemblyCall) → IsReassemblyKind call (reassembly.reply_to b call)
reassembly_kind b (ReassemblyCall.Place at bytes) = by (reassembly.reaches_past (reassembly.edge b) at bytes) (reassembly.clash b.known_end at bytes)
  where
    by : (c : Bool) (o : Option ℕ) → IsReassemblyKind (ReassemblyCall.Place at bytes)
        (if c then ReassemblyReply.Beyond (reassembly.edge b) else reassembly.placed_reply o at bytes b)
    by true o = tt
    by false None = tt
    by false (Some e) = tt
reassembly_kind b (ReassemblyCall.Fin at) = elim (reassembly.fin_clash b.known_end at b) as (λ o. IsReassemblyKind (ReassemblyCall.Fin at) (reassembly.fin_reply_by o at))
    [ None ↦ tt | Some e ↦ tt ]
reassembly_kind b (ReassemblyCall.Read max) = reading_kind b.aborted max b
reassembly_kind b ReassemblyCall.AckOut = tt
reassembly_kind b (ReassemblyCall.Abort by_peer) = tt

-- ---- the control book

either_kind : (call : ControlCall) (c : Bool) (x y : ControlReply) → IsControlKind call x → IsControlKind call y → IsControlKind call (if c then x else y)
either_kind call true x y p q = p
either_kind call false x y p q = q

tiled : Tile (new_sending 0)
tiled = record { whole = refl; acked_first = refl; held = refl }

-- a call that the book takes whatever its numbers
free_kind : (c : Control) (call : ControlCall) → can_ask call → IsControlKind call (control.reply_to c call)
free_kind c call can =
    books_answer
    (record { send_a = new_sending 0; send_b = new_sending 0; reassembly_a = none 0; reassembly_b = none 0; control_a = c; control_b = c })
    (Ask.Control A call) (record { a = tiled; b = tiled }) can

pub control_kind : (c : Control) (call : ControlCall) → IsControlKind call (control.reply_to c call)
control_kind c (ControlCall.Look path) = tt
control_kind c (ControlCall.PeerKey key) = tt
control_kind c (ControlCall.Keys own peer) = free_kind c (ControlCall.Keys own peer) tt
control_kind c (ControlCall.Fell path event) = tt
control_kind c (ControlCall.JoinBegin path) =
    either_kind (ControlCall.JoinBegin path) (control.may_join c) _ _ tt
    (either_kind (ControlCall.JoinBegin path) _ ControlReply.NotYet (ControlReply.Never c.fall.mode) tt tt)
control_kind c (ControlCall.JoinHeard path token) =
    either_kind (ControlCall.JoinHeard path token) _ (ControlReply.UnknownToken _) _ tt
    (either_kind (ControlCall.JoinHeard path token) (not c.fall.confirmed) ControlReply.NotConfirmed _ tt
    (either_kind (ControlCall.JoinHeard path token) _ (control.begin c) (ControlReply.Fallen c.fall.mode) tt tt))
control_kind c (ControlCall.Heard id address port hmac) = free_kind c (ControlCall.Heard id address port hmac) tt
control_kind c (ControlCall.FastHeard key) = free_kind c (ControlCall.FastHeard key) tt
control_kind c _ = tt

-- ---- all six

pub answers_in_kind : (six : SixBooks) (x : Ask) → AreMarked six → AsksSome x → IsOfKind x (reply_of six x)
answers_in_kind six (Ask.Send A call) h some = send_kind six.send_a call h.a some
answers_in_kind six (Ask.Send B call) h some = send_kind six.send_b call h.b some
answers_in_kind six (Ask.Reassembly A call) h some = reassembly_kind six.reassembly_a call
answers_in_kind six (Ask.Reassembly B call) h some = reassembly_kind six.reassembly_b call
answers_in_kind six (Ask.Control A call) h some = control_kind six.control_a call
answers_in_kind six (Ask.Control B call) h some = control_kind six.control_b call
answers_in_kind six (Ask.Local step) h some = tt
