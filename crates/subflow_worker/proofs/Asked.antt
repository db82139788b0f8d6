-- What a book under a lock answers.
use Rattle.std.proofs.Common.{◌≡◌, Result, IfOk}
use Rattle.send_book.specs.declared.call.SendCall.{SendCall}
use Rattle.send_book.specs.declared.call.SendReply.{SendReply}
use Rattle.send_book.specs.State.{Sending, Tile}
use Rattle.send_book.specs.Steps as sending
use Rattle.reassembly_book.specs.declared.call.ReassemblyCall.{ReassemblyCall}
use Rattle.reassembly_book.specs.declared.call.ReassemblyReply.{ReassemblyReply}
use Rattle.reassembly_book.specs.State.{Arriving}
use Rattle.reassembly_book.specs.Steps as arriving
use Rattle.control_book.specs.declared.call.ControlCall.{ControlCall}
use Rattle.control_book.specs.declared.call.ControlReply.{ControlReply}
use Rattle.control_book.specs.Calls.{can_ask}
use Rattle.control_book.specs.Control.{Control}
use Rattle.control_book.specs.Replies as controlling
use Rattle.actor_desk.specs.Bounds.{IsSmallSend, IsSmallReassembly, IsSmallControl, IsWrittenSmall, IsReceivedSmall}
use Rattle.actor_desk.specs.Keeping.{HasRightRows}
use Rattle.actor_desk.specs.Kinds.{IsSendKind, IsReassemblyKind, IsControlKind}
use Rattle.actor_desk.proofs.Entered.{if_told}
use Rattle.actor_desk.proofs.InKind.{send_kind, reassembly_kind, control_kind}
use Rattle.actor_desk.proofs.Small.{send_small, reassembly_small, control_small}

module _ {E : Type 0} where
  pub send_in_kind : (r : Result SendReply E) (b : Sending) (call : SendCall) → IfOk r (λ reply. reply ≡ sending.reply_to b call) → Tile b → sending.CanAsk call
      → IfOk r (λ reply. IsSendKind call reply)
  send_in_kind r b call told tile can = if_told r (sending.reply_to b call) (λ reply. IsSendKind call reply) told (send_kind b call tile can)

  pub send_bounded : (r : Result SendReply E) (b : Sending) (call : SendCall) → IfOk r (λ reply. reply ≡ sending.reply_to b call) → Tile b → IsWrittenSmall b
      → IfOk r (λ reply. IsSmallSend reply)
  send_bounded r b call told tile small = if_told r (sending.reply_to b call) IsSmallSend told (send_small b call tile small)

  pub reassembly_in_kind : (r : Result ReassemblyReply E) (b : Arriving) (call : ReassemblyCall) → IfOk r (λ reply. reply ≡ arriving.reply_to b call)
      → IfOk r (λ reply. IsReassemblyKind call reply)
  reassembly_in_kind r b call told = if_told r (arriving.reply_to b call) (λ reply. IsReassemblyKind call reply) told (reassembly_kind b call)

  pub reassembly_bounded : (r : Result ReassemblyReply E) (b : Arriving) (call : ReassemblyCall) → IfOk r (λ reply. reply ≡ arriving.reply_to b call)
      → IsReceivedSmall b → arriving.CanAsk call → IfOk r (λ reply. IsSmallReassembly reply)
  reassembly_bounded r b call told small can = if_told r (arriving.reply_to b call) IsSmallReassembly told (reassembly_small b call small can)

  pub control_in_kind : (r : Result ControlReply E) (c : Control) (call : ControlCall) → IfOk r (λ reply. reply ≡ controlling.reply_to c call)
      → IfOk r (λ reply. IsControlKind call reply)
  control_in_kind r c call told = if_told r (controlling.reply_to c call) (λ reply. IsControlKind call reply) told (control_kind c call)

  pub control_bounded : (r : Result ControlReply E) (c : Control) (call : ControlCall) → IfOk r (λ reply. reply ≡ controlling.reply_to c call)
      → HasRightRows c → can_ask call → IfOk r (λ reply. IsSmallControl call reply)
  control_bounded r c call told right can = if_told r (controlling.reply_to c call) (λ reply. IsSmallControl call reply) told (control_small c call right can)
