-- The templates: what is to be done in a turn, after each kind of event.
use Rattle.std.specs.Prelude.{ℕ, zero, suc, ◌+◌, List, [], ◌∷◌}
use Rattle.sides.specs.declared.side.Side.{Side}
use Rattle.sides.specs.declared.side.Side.TheVariants.{A, B}
use Rattle.path_agenda.specs.declared.duty.Duty.{Duty}
use Rattle.path_agenda.specs.declared.duty.Duty.TheVariants as duties
use Rattle.path_agenda.specs.declared.duty.AskDuty.TheVariants as ask_duties
use Rattle.path_agenda.specs.declared.duty.SendDuty.TheVariants as send_duties
use Rattle.path_agenda.specs.declared.duty.SilentDuty.TheVariants as silent_duties
use Rattle.path_agenda.specs.declared.duty.StepDuty.TheVariants as step_duties

-- the events of the round, and then the end of the turn
abbrev pub rest_of_turn : List Duty
rest_of_turn = duties.Step step_duties.Events ∷ duties.End ∷ []

-- what an end sends, and then these
abbrev pub emission_and : Side → List Duty → List Duty
emission_and s ds =
    duties.Send (send_duties.Syn s) ∷ duties.Send (send_duties.FastClose s) ∷ duties.Send (send_duties.Notice s)
    ∷ duties.Step (step_duties.Data s) ∷ duties.Send (send_duties.DataFin s) ∷ duties.Send (send_duties.Fin s) ∷ duties.Silent (silent_duties.Timer s) ∷ ds

-- what follows every event at an end
abbrev pub emission : Side → List Duty
emission s = emission_and s rest_of_turn

-- an end is reset as its side told it, and then these
abbrev pub reset_and : Side → List Duty → List Duty
reset_and s ds = duties.Ask (ask_duties.LeaveNoted s) ∷ duties.Send (send_duties.ResetNoted s) ∷ ds

-- a join that had to wait, how both sides stand, what is to be acknowledged, windows that grew; then, A's end first, a reset that its
-- side told and what it sends
abbrev pub start_of_turn : List Duty
start_of_turn =
    duties.Ask ask_duties.JoinAgain ∷ duties.Step (step_duties.Look A) ∷ duties.Step (step_duties.Look B)
    ∷ duties.Ask (ask_duties.Window A) ∷ duties.Send (send_duties.Update A)
    ∷ duties.Ask (ask_duties.Window B) ∷ duties.Send (send_duties.Update B)
    ∷ reset_and A (emission_and A (reset_and B (emission B)))

-- the SYN of the peer; the SYN/ACK
abbrev pub syn_came : Side → List Duty
syn_came s =
    duties.Ask (ask_duties.SynHeard s) ∷ duties.Ask (ask_duties.PlainHandshake s) ∷ duties.Send (send_duties.SynAck s) ∷ emission s

abbrev pub syn_ack_came : Side → List Duty
syn_ack_came s =
    duties.Ask (ask_duties.SynAnswered s) ∷ duties.Ask (ask_duties.PeerKey s) ∷ duties.Ask (ask_duties.Live s)
    ∷ duties.Send (send_duties.Acknowledge s) ∷ emission s

-- the SYN of a path that joins, with an MP_JOIN and without one; the SYN/ACK
abbrev pub join_came : Side → List Duty
join_came s = duties.Ask (ask_duties.JoinHeard s) ∷ emission s

abbrev pub refuses : Side → List Duty
refuses s = duties.Send (send_duties.Refuse s) ∷ emission s

abbrev pub join_answered : Side → List Duty
join_answered s = duties.Ask (ask_duties.Live s) ∷ duties.Send (send_duties.Acknowledge s) ∷ emission s

-- what a copy says, so many things from this number on, and then these
abbrev pub heard_and : Side → ℕ → ℕ → List Duty → List Duty
heard_and s from zero ds = ds
heard_and s from (suc count) ds = duties.Step (step_duties.Heard s from) ∷ heard_and s (from + 1) count ds

-- what a copy's acknowledgement and payload ask for, and what follows from them
abbrev pub payload_came : Side → List Duty
payload_came s =
    duties.Step (step_duties.PlainAck s) ∷ duties.Ask (ask_duties.SubflowAck s) ∷ duties.Ask (ask_duties.PlainData s)
    ∷ duties.Silent (silent_duties.Keep s) ∷ duties.Ask (ask_duties.Edge s) ∷ duties.Ask (ask_duties.CheckFailed s)
    ∷ duties.Step (step_duties.Unmapped s)
    ∷ duties.Ask (ask_duties.HeardFin s 0) ∷ duties.Ask (ask_duties.HeardFin s 1) ∷ duties.Ask (ask_duties.HeardFin s 2)
    ∷ duties.Silent (silent_duties.PassFin s) ∷ duties.Ask (ask_duties.SubflowFin s) ∷ duties.Ask (ask_duties.AckOut s)
    ∷ duties.Ask (ask_duties.Rate s) ∷ duties.Send (send_duties.Acknowledge s) ∷ duties.Send (send_duties.Again s)
    ∷ emission s

-- a copy that is taken, which says so many things
abbrev pub copy_came : Side → ℕ → List Duty
copy_came s count = duties.Ask (ask_duties.Opened s) ∷ duties.Ask (ask_duties.Live s) ∷ heard_and s 0 count (payload_came s)

-- the SYN again; a copy that is answered; a copy at a dead end
abbrev pub syn_again : Side → List Duty
syn_again s = duties.Send (send_duties.SynAck s) ∷ emission s

abbrev pub answers : Side → List Duty
answers s = duties.Send (send_duties.Answer s) ∷ emission s

abbrev pub answers_dead : Side → List Duty
answers_dead s = duties.Send (send_duties.ResetAnswer s) ∷ rest_of_turn

-- an expiry; the sixth in a row
abbrev pub expired : Side → List Duty
expired s = duties.Ask (ask_duties.Return s) ∷ duties.Send (send_duties.Resend s) ∷ emission s

abbrev pub expired_for_ever : Side → List Duty
expired_for_ever s = duties.Send (send_duties.Reset s) ∷ rest_of_turn

-- a line of the script by which the side announces the address of an id, or takes it back
abbrev pub announces : Side → ℕ → List Duty
announces s id = duties.Ask (ask_duties.Announce s id) ∷ emission s

abbrev pub withdraws : Side → ℕ → List Duty
withdraws s id = duties.Ask (ask_duties.Withdraw s id) ∷ emission s

-- the peer closed the connection at once: both books are told, and the end is reset
abbrev pub stops : Side → List Duty
stops s =
    duties.Ask (ask_duties.AbortSend s) ∷ duties.Ask (ask_duties.AbortReceive s) ∷ duties.Send (send_duties.Reset s) ∷ rest_of_turn

-- a death, and a break
abbrev pub leaves : Side → List Duty
leaves s = duties.Ask (ask_duties.Leave s) ∷ rest_of_turn

abbrev pub breaks : Side → ℕ → List Duty
breaks s reason = duties.Ask (ask_duties.BreakAck s reason) ∷ rest_of_turn

abbrev pub resets : Side → ℕ → List Duty
resets s reason = duties.Send (send_duties.BreakReset s reason) ∷ rest_of_turn
