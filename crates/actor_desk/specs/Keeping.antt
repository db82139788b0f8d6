-- What keeps the numbers of a book small, and that no call ends it.
use Rattle.send_book.specs.declared.call.SendCall.{SendCall}
use Rattle.send_book.specs.State.{Sending}
use Rattle.send_book.specs.Steps as sending
use Rattle.reassembly_book.specs.declared.call.ReassemblyCall.{ReassemblyCall}
use Rattle.reassembly_book.specs.State.{Arriving}
use Rattle.reassembly_book.specs.Steps as arriving
use Rattle.control_book.specs.declared.call.ControlCall.{ControlCall}
use Rattle.control_book.specs.Calls.{can_ask}
use Rattle.control_book.specs.Control.{Control}
use Rattle.control_book.specs.Laws.{RowsAreRight}
use Rattle.control_book.specs.Steps as control
use Rattle.actor_desk.specs.Bounds.{IsWrittenSmall, IsReceivedSmall}

-- each row of a path that is kept can be linked
abbrev pub HasRightRows : Control → Type 0
HasRightRows c = RowsAreRight c.paths

-- no call that meets its conditions makes a send book too large
abbrev pub SendStaysSmall : Type 0
SendStaysSmall = (book : Sending) (call : SendCall) → sending.CanAsk call → IsWrittenSmall book → IsWrittenSmall (sending.after_call book call)

-- no call that meets its conditions makes a reassembly book too large
abbrev pub ReassemblyStaysSmall : Type 0
ReassemblyStaysSmall =
    (book : Arriving) (call : ReassemblyCall) → arriving.CanAsk call → IsReceivedSmall book → IsReceivedSmall (arriving.after_call book call)

-- a call that can be asked keeps the rows of a control book right
abbrev pub ControlStaysRight : Type 0
ControlStaysRight = (book : Control) (call : ControlCall) → can_ask call → HasRightRows book → HasRightRows (control.after book call)
