-- How much is still to be done in a turn, so that what takes the place of a duty is less than it.
use Rattle.std.specs.Prelude.{ℕ, ◌+◌, List, [], ◌∷◌}
use Rattle.path_agenda.specs.declared.duty.Duty.{Duty}
use Rattle.path_agenda.specs.declared.duty.Duty.TheVariants as duties
use Rattle.path_agenda.specs.declared.duty.AskDuty.TheVariants as ask_duties
use Rattle.path_agenda.specs.declared.duty.SendDuty.TheVariants as send_duties
use Rattle.path_agenda.specs.declared.duty.StepDuty.TheVariants as step_duties

-- as much as all that its replies put in its place
abbrev pub weight : Duty → ℕ
weight (duties.Step (step_duties.Heard s index)) = 12
weight (duties.Step (step_duties.PlainAck s)) = 11
weight (duties.Step (step_duties.Unmapped s)) = 11
weight (duties.Step (step_duties.Look s)) = 0
weight (duties.Step (step_duties.Data s)) = 0
weight (duties.Step step_duties.Events) = 0
weight (duties.Ask (ask_duties.AckHeard s)) = 11
weight (duties.Ask (ask_duties.FailHeard s)) = 11
weight (duties.Ask (ask_duties.PlainHandshake s)) = 11
weight (duties.Ask (ask_duties.PeerKey s)) = 11
weight (duties.Ask (ask_duties.Opened s)) = 11
weight (duties.Ask (ask_duties.PlainData s)) = 11
weight (duties.Ask (ask_duties.Edge s)) = 11
weight (duties.Ask (ask_duties.CheckFailed s)) = 11
weight (duties.Ask (ask_duties.HeardFin s index)) = 11
weight (duties.Ask (ask_duties.SubflowFin s)) = 11
weight (duties.Ask (ask_duties.BreakAck s reason)) = 7
weight (duties.Ask ask_duties.JoinAgain) = 2
weight (duties.Ask (ask_duties.JoinHeard s)) = 1
weight (duties.Ask (ask_duties.Leave s)) = 1
weight (duties.Ask (ask_duties.LeaveNoted s)) = 1
weight (duties.Ask (ask_duties.Window s)) = 0
weight (duties.Ask (ask_duties.SynHeard s)) = 0
weight (duties.Ask (ask_duties.SynAnswered s)) = 0
weight (duties.Ask (ask_duties.Live s)) = 0
weight (duties.Ask (ask_duties.SubflowAck s)) = 0
weight (duties.Ask (ask_duties.GoIdentity s)) = 0
weight (duties.Ask (ask_duties.AckOut s)) = 0
weight (duties.Ask (ask_duties.Rate s)) = 0
weight (duties.Ask (ask_duties.Return s)) = 0
weight (duties.Ask (ask_duties.AbortSend s)) = 0
weight (duties.Ask (ask_duties.AbortReceive s)) = 0
weight (duties.Ask (ask_duties.Announce s id)) = 0
weight (duties.Ask (ask_duties.Withdraw s id)) = 0
weight (duties.Ask (ask_duties.Dead s)) = 0
weight (duties.Send (send_duties.BreakReset s reason)) = 4
weight (duties.Send (send_duties.Reset s)) = 4
weight (duties.Send (send_duties.ResetNoted s)) = 4
weight (duties.Send (send_duties.Update s)) = 0
weight (duties.Send (send_duties.Syn s)) = 0
weight (duties.Send (send_duties.FastClose s)) = 0
weight (duties.Send (send_duties.Notice s)) = 0
weight (duties.Send (send_duties.DataFin s)) = 0
weight (duties.Send (send_duties.Fin s)) = 0
weight (duties.Send (send_duties.SynAck s)) = 0
weight (duties.Send (send_duties.Refuse s)) = 0
weight (duties.Send (send_duties.Acknowledge s)) = 0
weight (duties.Send (send_duties.Again s)) = 0
weight (duties.Send (send_duties.Answer s)) = 0
weight (duties.Send (send_duties.ResetAnswer s)) = 0
weight (duties.Send (send_duties.Resend s)) = 0
weight (duties.Silent d) = 0
weight duties.End = 0

-- the weights of a list of duties, with one for each duty itself
abbrev pub weights : List Duty → ℕ
weights [] = 0
weights (d ∷ ds) = 1 + (weight d + weights ds)
