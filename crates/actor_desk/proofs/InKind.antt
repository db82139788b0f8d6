-- Each book's reply is one that the call can have.
use Rattle.std.proofs.Common.{◌≡◌, refl, ap, ◌∙◌, ℕ, ◌-◌, ◌≤◌, min, Bool, true, false, if◌then◌else◌, ◌||◌, not, ◌==◌, List, [], ◌∷◌, length, take, drop, Option, Some, None, Result, Ok, Err, arith}
use Rattle.std.proofs.lemmas.List.{length-take, length-drop}
use Rattle.sides.specs.declared.side.Side.TheVariants.{A, B}
use Rattle.send_book.specs.declared.call.Span.{Span}
use Rattle.send_book.specs.declared.call.Why.{Why}
use Rattle.send_book.specs.declared.call.SendCall.{SendCall}
use Rattle.send_book.specs.declared.call.SendReply.{SendReply}
use Rattle.send_book.specs.State.{Sending, Tile, acked_len}
use Rattle.send_book.specs.Steps as send
use Rattle.send_book.proofs.Decisions.{decision-MayTake}
use Rattle.reassembly_book.specs.declared.call.ReassemblyCall.{ReassemblyCall}
use Rattle.reassembly_book.specs.declared.call.ReassemblyReply.{ReassemblyReply}
use Rattle.reassembly_book.specs.State.{Arriving, filled}
use Rattle.reassembly_book.specs.Steps as reassembly
use Rattle.address_manager.specs.declared.manager.Heard.{Heard}
use Rattle.address_manager.specs.Steps.{heard_reply}
use Rattle.key_material.specs.declared.address.Address.{Address}
use Rattle.control_book.specs.declared.call.ControlCall.{ControlCall}
use Rattle.control_book.specs.declared.call.ControlReply.{ControlReply}
use Rattle.control_book.specs.SameAddress.{is_same}
use Rattle.control_book.specs.Control.{Control}
use Rattle.control_book.specs.Replies as control
use Rattle.actor_desk.specs.declared.ask.Ask.{Ask}
use Rattle.actor_desk.specs.Kinds.{IsSendKind, IsReassemblyKind, IsControlKind, BooksAnswerInKind}

-- ---- the send book

granted_kind : (path max : ℕ) (standby : Bool) (b : Sending) → Tile b → 1 ≤ max → (o : Result Span Why) → send.decision path max standby b ≡ o
    → IsSendKind (SendCall.Grant path max standby) (send.reply_by o b)
granted_kind path max standby b tile positive (Err why) is = tt
granted_kind path max standby b tile positive (Ok span) is =
    let may = decision-MayTake path max standby b span is in
    let len : length (send.part_of span b.written) ≡ min (span.to - span.from) (length b.written - span.from)
    = rw (length-take (span.to - span.from) (drop span.from b.written), length-drop span.from b.written) refl in
    let some : 1 ≤ may.count = may.some positive in (
      record { some = omega (arith, len, some, may.whole, may.within, tile.whole); most = omega (arith, len, may.whole, may.most) },
      record { whole = omega (arith, len, may.whole, may.within, tile.whole) },
    )

pub send_kind : (b : Sending) (call : SendCall) → Tile b → send.CanAsk call → IsSendKind call (send.reply_to b call)
send_kind b (SendCall.Write bytes) tile can = elim (b.closed || b.aborted) as (λ c. IsSendKind (SendCall.Write bytes) (if c then SendReply.Shut else SendReply.Taken (send.bytes_taken bytes b)))
    [ true ↦ tt | false ↦ omega arith ]
send_kind b SendCall.Close tile can = elim b.aborted as (λ c. IsSendKind SendCall.Close (if c then SendReply.Shut else SendReply.Closed)) [ true ↦ tt | false ↦ tt ]
send_kind b (SendCall.Grant path max standby) tile can = granted_kind path max standby b tile can.1 (send.decision path max standby b) refl
send_kind b (SendCall.AckIn next window) tile can = by (send.is_future next b)
  where
    by : (c : Bool) → IsSendKind (SendCall.AckIn next window) (if c then SendReply.AckFuture (length b.written) else SendReply.Acked (min next (length b.written) - acked_len b.marks) (send.fin_after next b))
    by = elim [ true ↦ tt | false ↦ tt ]
send_kind b (SendCall.Return path) tile can = tt
send_kind b SendCall.GoIdentity tile can = tt
send_kind b (SendCall.GoInfinite path) tile can =
    elim (send.is_gathered path b) as (λ c. IsSendKind (SendCall.GoInfinite path) (if c then SendReply.Infinite (acked_len b.marks) else SendReply.Scattered))
    [ true ↦ tt | false ↦ tt ]
send_kind b SendCall.Abort tile can = tt

-- ---- the reassembly book

read_kind : (max : ℕ) (b : Arriving) (bytes : List ℕ) → bytes ≡ take max (filled b.places) → IsReassemblyKind (ReassemblyCall.Read max) (reassembly.bytes_reply bytes b)
read_kind max b [] is = elim (reassembly.is_end b.known_end b.read) as (λ c. IsReassemblyKind (ReassemblyCall.Read max) (if c then ReassemblyReply.End else ReassemblyReply.NoneYet))
    [ true ↦ tt | false ↦ tt ]
read_kind max b (byte ∷ bytes) is =
    let len : length (byte ∷ bytes) ≡ min max (length (filled b.places)) = ap length is ∙ length-take max (filled b.places) in
    record { some = omega arith; most = omega (arith, len) }

reading_kind : (aborted : Option Bool) (max : ℕ) (b : Arriving) → IsReassemblyKind (ReassemblyCall.Read max) (reassembly.reading aborted max b)
reading_kind None max b = read_kind max b (take max (filled b.places)) refl
reading_kind (Some by_peer) max b = tt

pub reassembly_kind : (b : Arriving) (call : ReassemblyCall) → IsReassemblyKind call (reassembly.reply_to b call)
reassembly_kind b (ReassemblyCall.Place at bytes) = by (reassembly.reaches_past (reassembly.edge b) at bytes) (reassembly.clash b.known_end at bytes)
  where
    by : (c : Bool) (o : Option ℕ) → IsReassemblyKind (ReassemblyCall.Place at bytes)
        (if c then ReassemblyReply.Beyond (reassembly.edge b) else reassembly.placed_reply o at bytes b)
    by true o = tt
    by false None = tt
    by false (Some e) = tt
reassembly_kind b (ReassemblyCall.Fin at) = elim (reassembly.fin_clash b.known_end at b) as (λ o. IsReassemblyKind (ReassemblyCall.Fin at) (reassembly.fin_reply_by o at))
    [ None ↦ tt | Some e ↦ tt ]
reassembly_kind b (ReassemblyCall.Read max) = reading_kind b.aborted max b
reassembly_kind b ReassemblyCall.AckOut = tt
reassembly_kind b (ReassemblyCall.Abort by_peer) = tt

-- ---- the control book

either_kind : (call : ControlCall) (c : Bool) (x y : ControlReply) → IsControlKind call x → IsControlKind call y → IsControlKind call (if c then x else y)
either_kind call true x y p q = p
either_kind call false x y p q = q

told_kind : (id : ℕ) (address : Address) (port hmac : ℕ) (h : Heard) → IsControlKind (ControlCall.Heard id address port hmac) (control.told_heard h)
told_kind id address port hmac Heard.Echo = tt
told_kind id address port hmac Heard.BadHmac = tt
told_kind id address port hmac Heard.Known = tt

pub control_kind : (c : Control) (call : ControlCall) → IsControlKind call (control.reply_to c call)
control_kind c (ControlCall.Look path) = tt
control_kind c (ControlCall.PeerKey key) = tt
control_kind c (ControlCall.Keys own peer) = either_kind (ControlCall.Keys own peer) (own == c.keys.own) _ _ tt tt
control_kind c (ControlCall.Fell path event) = tt
control_kind c (ControlCall.JoinBegin path) =
    either_kind (ControlCall.JoinBegin path) (control.may_join c) _ _ tt
    (either_kind (ControlCall.JoinBegin path) _ ControlReply.NotYet (ControlReply.Never c.fall.mode) tt tt)
control_kind c (ControlCall.JoinHeard path token) =
    either_kind (ControlCall.JoinHeard path token) _ (ControlReply.UnknownToken _) _ tt
    (either_kind (ControlCall.JoinHeard path token) (not c.fall.confirmed) ControlReply.NotConfirmed _ tt
    (either_kind (ControlCall.JoinHeard path token) _ (control.begin c) (ControlReply.Fallen c.fall.mode) tt tt))
control_kind c (ControlCall.Live path backup) = tt
control_kind c (ControlCall.Dead path) = tt
control_kind c (ControlCall.Backup path on) = tt
control_kind c (ControlCall.Rate path window rtt) = tt
control_kind c (ControlCall.Announce id) = tt
control_kind c (ControlCall.Withdraw id) = tt
control_kind c (ControlCall.Heard id address port hmac) =
    told_kind id address port hmac (heard_reply is_same id address (control.is_right id address port hmac c) c.addresses)
control_kind c (ControlCall.FastHeard key) = either_kind (ControlCall.FastHeard key) (key == c.keys.own) _ _ tt tt
control_kind c _ = tt

-- ---- the desk

pub books_answer : BooksAnswerInKind
books_answer books (Ask.Send A call) tiled can = send_kind books.send_a call tiled.a can
books_answer books (Ask.Send B call) tiled can = send_kind books.send_b call tiled.b can
books_answer books (Ask.Reassembly A call) tiled can = reassembly_kind books.reassembly_a call
books_answer books (Ask.Reassembly B call) tiled can = reassembly_kind books.reassembly_b call
books_answer books (Ask.Control A call) tiled can = control_kind books.control_a call
books_answer books (Ask.Control B call) tiled can = control_kind books.control_b call
books_answer books (Ask.Local step) tiled can = tt
