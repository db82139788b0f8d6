-- The first turns of the applications of a connection: A's file has the five octets of "hello", and B's has none; and one in which A
-- stops the connection.
use Rattle.std.specs.Prelude.{ℕ, zero, suc, Option, Some, None, false, List, [], ◌∷◌, codes}
use Rattle.sides.specs.declared.side.Side.TheVariants as side
use Rattle.send_book.specs.declared.call.SendCall.TheVariants as send_calls
use Rattle.send_book.specs.declared.call.SendReply.TheVariants as send_replies
use Rattle.reassembly_book.specs.declared.call.ReassemblyCall.TheVariants as reassembly_calls
use Rattle.reassembly_book.specs.declared.call.ReassemblyReply.TheVariants as reassembly_replies
use Rattle.control_book.specs.declared.call.ControlCall.TheVariants as control_calls
use Rattle.control_book.specs.declared.call.ControlReply.TheVariants as control_replies
use Rattle.actor_desk.specs.declared.ask.Ask.{Ask}
use Rattle.actor_desk.specs.declared.ask.Ask.TheVariants as asks
use Rattle.actor_desk.specs.declared.ask.LocalStep.TheVariants as steps
use Rattle.actor_desk.specs.declared.ask.Reply.TheVariants as replies
use Rattle.actor_desk.specs.Desk.{SixBooks, Step, step, step_told, reply_of, after_ask, opened_books}
use Rattle.stream_apps.specs.AppSteps.{app_asks_of, app_takes}
use Rattle.stream_apps.specs.Apps.{AppState}
use Rattle.stream_apps.specs.Starts.{first_app_turn}

-- an application with the books
pub record AppRun : Type 0 where
  pub app : AppState
  pub books : SixBooks

-- after one step: the books are asked, and it takes their reply
abbrev pub app_step : Option Ask → AppRun → AppRun
app_step None w = w
app_step (Some ask) w = record { app = app_takes (reply_of w.books ask) w.app; books = after_ask ask w.books }

-- after so many steps
abbrev pub after_app_steps : ℕ → AppRun → AppRun
after_app_steps zero w = w
after_app_steps (suc n) w = after_app_steps n (app_step (app_asks_of w.app) w)

-- a number of the application's steps, the first one first
abbrev pub app_steps_made : ℕ → AppRun → List Step
app_steps_made zero w = []
app_steps_made (suc n) w = step_told (app_asks_of w.app) w.books (app_steps_made n (app_step (app_asks_of w.app) w))

-- ---- the first turns

abbrev pub hello : List ℕ
hello = codes "hello"

-- with the keys that the seed 1 draws
abbrev pub app_of_a : AppRun
app_of_a = record { app = first_app_turn side.A 65536 hello None; books = opened_books 65536 8938189255999614177 5210603713849882493 }

-- after the turn of A
abbrev pub app_of_b : AppRun
app_of_b = record { app = first_app_turn side.B 65536 [] None; books = (after_app_steps 4 app_of_a).books }

-- the file is taken whole, and nothing has come
abbrev pub turn_of_a : List Step
turn_of_a =
    step (asks.Send side.A (send_calls.Write hello)) (replies.Send (send_replies.Taken 5))
    ∷ step (asks.Send side.A send_calls.Close) (replies.Send send_replies.Closed)
    ∷ step (asks.Reassembly side.A (reassembly_calls.Read 65536)) (replies.Reassembly reassembly_replies.NoneYet)
    ∷ step (asks.Local steps.End) replies.Done
    ∷ []

-- nothing is to be written, and nothing has come
abbrev pub turn_of_b : List Step
turn_of_b =
    step (asks.Send side.B send_calls.Close) (replies.Send send_replies.Closed)
    ∷ step (asks.Reassembly side.B (reassembly_calls.Read 65536)) (replies.Reassembly reassembly_replies.NoneYet)
    ∷ step (asks.Local steps.End) replies.Done
    ∷ []

-- ---- a fast close

-- at tick 99, the last of the first round
abbrev pub app_that_stops : AppRun
app_that_stops = record { app = first_app_turn side.A 65536 hello (Some 99); books = opened_books 65536 8938189255999614177 5210603713849882493 }

-- the application stops the connection first; then its file isn't taken, and a read tells that it aborted
abbrev pub turn_that_stops : List Step
turn_that_stops =
    step (asks.Control side.A control_calls.FastClose) (replies.Control control_replies.Noted)
    ∷ step (asks.Send side.A send_calls.Abort) (replies.Send send_replies.Noted)
    ∷ step (asks.Reassembly side.A (reassembly_calls.Abort false)) (replies.Reassembly reassembly_replies.Noted)
    ∷ step (asks.Send side.A (send_calls.Write hello)) (replies.Send send_replies.Shut)
    ∷ step (asks.Reassembly side.A (reassembly_calls.Read 65536)) (replies.Reassembly (reassembly_replies.Aborted false))
    ∷ step (asks.Local steps.End) replies.Done
    ∷ []
