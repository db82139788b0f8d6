-- What is asked and answered of path 0 in the first round of the example.
use Rattle.std.specs.Prelude.{true, false, Some, List, [], ◌∷◌, ◌++◌}
use Rattle.sides.specs.declared.side.Side.TheVariants as side
use Rattle.send_book.specs.declared.call.SendCall.TheVariants as send_calls
use Rattle.send_book.specs.declared.call.SendReply.TheVariants as send_replies
use Rattle.send_book.specs.declared.call.Why.TheVariants as whys
use Rattle.reassembly_book.specs.declared.call.ReassemblyCall.TheVariants as reassembly_calls
use Rattle.reassembly_book.specs.declared.call.ReassemblyReply.TheVariants as reassembly_replies
use Rattle.control_book.specs.declared.call.ControlCall.TheVariants as control_calls
use Rattle.control_book.specs.declared.call.ControlReply.TheVariants as control_replies
use Rattle.control_book.specs.declared.call.Notice.TheVariants as notices
use Rattle.fallback_state.specs.declared.fall.Event.TheVariants as events
use Rattle.fallback_state.specs.declared.fall.Mode.TheVariants as modes
use Rattle.fallback_state.specs.declared.fall.Verdict.TheVariants as verdicts
use Rattle.actor_desk.specs.declared.ask.Ask.TheVariants as asks
use Rattle.actor_desk.specs.declared.ask.LocalStep.TheVariants as steps
use Rattle.actor_desk.specs.declared.ask.Reply.TheVariants as replies
use Rattle.actor_desk.specs.Desk.{Step, step}
use Rattle.path_core.specs.Example.{hello}

-- the turn begins; both SYNs, both keys, and the first piece
abbrev pub opening_steps : List Step
opening_steps =
    step (asks.Control side.A (control_calls.Look 0)) (replies.Control (control_replies.Standing modes.Starting false true notices.Nothing))
    ∷ step (asks.Control side.B (control_calls.Look 0)) (replies.Control (control_replies.Standing modes.Starting false true notices.Nothing))
    ∷ step (asks.Reassembly side.A reassembly_calls.AckOut) (replies.Reassembly (reassembly_replies.Ack 0 65536))
    ∷ step (asks.Reassembly side.B reassembly_calls.AckOut) (replies.Reassembly (reassembly_replies.Ack 0 65536))
    ∷ step (asks.Local (steps.Sent side.A 1 0 27535)) replies.Done
    ∷ step (asks.Local (steps.Arrive side.B 1)) replies.Done
    ∷ step (asks.Send side.B (send_calls.AckIn 0 65535)) (replies.Send (send_replies.Acked 0 false))
    ∷ step (asks.Local (steps.Sent side.B 1 0 39255)) replies.Done
    ∷ step (asks.Local (steps.Arrive side.A 1)) replies.Done
    ∷ step (asks.Send side.A (send_calls.AckIn 0 65535)) (replies.Send (send_replies.Acked 0 false))
    ∷ step (asks.Control side.A (control_calls.PeerKey 5210603713849882493)) (replies.Control control_replies.Noted)
    ∷ step (asks.Control side.A (control_calls.Live 0 false)) (replies.Control control_replies.Noted)
    ∷ step (asks.Local (steps.Sent side.A 2 0 53516)) replies.Done
    ∷ step (asks.Send side.A (send_calls.Grant 0 1372 false)) (replies.Send (send_replies.Granted (record { from = 0; to = 5 }) hello))
    ∷ step (asks.Local (steps.Sent side.A 3 5 32042)) replies.Done
    ∷ step (asks.Send side.A (send_calls.Grant 0 1372 false)) (replies.Send (send_replies.NoGrant whys.NothingFree (Some 5)))
    ∷ []

-- B hears the keys and the piece, and says that its stream has ended
abbrev pub data_steps : List Step
data_steps =
    step (asks.Local (steps.Arrive side.B 2)) replies.Done
    ∷ step (asks.Control side.B (control_calls.Keys 5210603713849882493 8938189255999614177)) (replies.Control control_replies.Noted)
    ∷ step (asks.Control side.B (control_calls.Live 0 false)) (replies.Control control_replies.Noted)
    ∷ step (asks.Local (steps.Sent side.B 2 0 36439)) replies.Done
    ∷ step (asks.Send side.B (send_calls.Grant 0 1372 false)) (replies.Send (send_replies.NoGrant whys.Ended (Some 0)))
    ∷ step (asks.Local (steps.Sent side.B 3 0 35302)) replies.Done
    ∷ step (asks.Local (steps.Arrive side.B 3)) replies.Done
    ∷ step (asks.Control side.B (control_calls.Keys 5210603713849882493 8938189255999614177)) (replies.Control control_replies.Noted)
    ∷ step (asks.Control side.B (control_calls.Fell 0 events.MappingHeard)) (replies.Control (control_replies.Verdict (verdicts.Went modes.Sure)))
    ∷ step (asks.Reassembly side.B (reassembly_calls.Place 0 hello)) (replies.Reassembly (reassembly_replies.Placed 5))
    ∷ step (asks.Reassembly side.B reassembly_calls.AckOut) (replies.Reassembly (reassembly_replies.Ack 5 65531))
    ∷ step (asks.Local (steps.Sent side.B 4 0 36430)) replies.Done
    ∷ step (asks.Send side.B (send_calls.Grant 0 1372 false)) (replies.Send (send_replies.NoGrant whys.Ended (Some 0)))
    ∷ step (asks.Local (steps.Arrive side.A 2)) replies.Done
    ∷ step (asks.Send side.A (send_calls.AckIn 0 65536)) (replies.Send (send_replies.Acked 0 false))
    ∷ step (asks.Send side.A (send_calls.Grant 0 1372 false)) (replies.Send (send_replies.NoGrant whys.NothingFree (Some 5)))
    ∷ []

-- A hears it, and both say and hear the ends of their streams
abbrev pub ending_steps : List Step
ending_steps =
    step (asks.Local (steps.Sent side.A 4 0 35292)) replies.Done
    ∷ step (asks.Local (steps.Arrive side.A 3)) replies.Done
    ∷ step (asks.Send side.A (send_calls.AckIn 0 65536)) (replies.Send (send_replies.Acked 0 false))
    ∷ step (asks.Control side.A (control_calls.Fell 0 events.MappingHeard)) (replies.Control (control_replies.Verdict (verdicts.Went modes.Sure)))
    ∷ step (asks.Reassembly side.A (reassembly_calls.Fin 0)) (replies.Reassembly reassembly_replies.FinSet)
    ∷ step (asks.Reassembly side.A reassembly_calls.AckOut) (replies.Reassembly (reassembly_replies.Ack 1 65536))
    ∷ step (asks.Local (steps.Sent side.A 5 0 60226)) replies.Done
    ∷ step (asks.Send side.A (send_calls.Grant 0 1372 false)) (replies.Send (send_replies.NoGrant whys.NothingFree (Some 5)))
    ∷ step (asks.Local (steps.Arrive side.A 4)) replies.Done
    ∷ step (asks.Send side.A (send_calls.AckIn 5 65504)) (replies.Send (send_replies.Acked 5 false))
    ∷ step (asks.Send side.A (send_calls.Grant 0 1372 false)) (replies.Send (send_replies.NoGrant whys.Ended (Some 5)))
    ∷ step (asks.Local (steps.Arrive side.B 4)) replies.Done
    ∷ step (asks.Send side.B (send_calls.AckIn 0 65536)) (replies.Send (send_replies.Acked 0 false))
    ∷ step (asks.Reassembly side.B (reassembly_calls.Fin 5)) (replies.Reassembly reassembly_replies.FinSet)
    ∷ step (asks.Reassembly side.B reassembly_calls.AckOut) (replies.Reassembly (reassembly_replies.Ack 6 65531))
    ∷ step (asks.Local (steps.Sent side.B 5 0 36429)) replies.Done
    ∷ step (asks.Send side.B (send_calls.Grant 0 1372 false)) (replies.Send (send_replies.NoGrant whys.Ended (Some 0)))
    ∷ step (asks.Local (steps.Arrive side.B 5)) replies.Done
    ∷ step (asks.Send side.B (send_calls.AckIn 1 65536)) (replies.Send (send_replies.Acked 0 true))
    ∷ step (asks.Send side.B (send_calls.Grant 0 1372 false)) (replies.Send (send_replies.NoGrant whys.Ended (Some 0)))
    ∷ []

-- both FINs, and their acknowledgements
abbrev pub closing_steps : List Step
closing_steps =
    step (asks.Local (steps.Sent side.B 6 0 36428)) replies.Done
    ∷ step (asks.Local (steps.Arrive side.A 5)) replies.Done
    ∷ step (asks.Send side.A (send_calls.AckIn 6 65504)) (replies.Send (send_replies.Acked 0 true))
    ∷ step (asks.Send side.A (send_calls.Grant 0 1372 false)) (replies.Send (send_replies.NoGrant whys.Ended (Some 5)))
    ∷ step (asks.Local (steps.Sent side.A 6 0 60225)) replies.Done
    ∷ step (asks.Local (steps.Arrive side.A 6)) replies.Done
    ∷ step (asks.Send side.A (send_calls.AckIn 6 65504)) (replies.Send (send_replies.Acked 0 true))
    ∷ step (asks.Local (steps.Sent side.A 7 0 60224)) replies.Done
    ∷ step (asks.Local (steps.Arrive side.B 6)) replies.Done
    ∷ step (asks.Send side.B (send_calls.AckIn 1 65536)) (replies.Send (send_replies.Acked 0 true))
    ∷ step (asks.Local (steps.Sent side.B 7 0 36427)) replies.Done
    ∷ step (asks.Local (steps.Arrive side.B 7)) replies.Done
    ∷ step (asks.Send side.B (send_calls.AckIn 1 65536)) (replies.Send (send_replies.Acked 0 true))
    ∷ step (asks.Local (steps.Arrive side.A 7)) replies.Done
    ∷ step (asks.Send side.A (send_calls.AckIn 6 65504)) (replies.Send (send_replies.Acked 0 true))
    ∷ step (asks.Local steps.End) replies.Done
    ∷ []

-- the whole turn of path 0
abbrev pub turn_of_path : List Step
turn_of_path = opening_steps ++ (data_steps ++ (ending_steps ++ closing_steps))
