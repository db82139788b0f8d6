-- What holds of every template, and of what takes the place of a duty.
use Rattle.std.specs.Prelude.{◌≡◌, ℕ, ◌<◌, Bool, true, false, List, [], ◌∷◌}
use Rattle.std.specs.List.{list_all}
use Rattle.sides.specs.declared.side.Side.{Side}
use Rattle.path_agenda.specs.declared.duty.Duty.{Duty}
use Rattle.path_agenda.specs.declared.duty.Duty.TheVariants as duties
use Rattle.path_agenda.specs.declared.duty.AskDuty.TheVariants as ask_duties
use Rattle.path_agenda.specs.declared.duty.SendDuty.TheVariants as send_duties
use Rattle.path_agenda.specs.declared.duty.StepDuty.TheVariants as step_duties
use Rattle.path_agenda.specs.Agenda.{rest_of_turn, emission, start_of_turn, syn_came, syn_ack_came, join_came, refuses, join_answered, copy_came, syn_again, answers, answers_dead, expired, expired_for_ever, announces, withdraws, stops, leaves, breaks, resets}
use Rattle.path_agenda.specs.Weights.{weights}

-- ---- the end of a turn

-- the last duty is End, and no other one is
abbrev pub ends_once : List Duty → Bool
ends_once [] = false
ends_once (duties.End ∷ []) = true
ends_once (duties.End ∷ ds) = false
ends_once (d ∷ ds) = ends_once ds

-- all templates, at an end of this side, for a copy that says so many things, a break with this reason and an address of this id
abbrev pub templates : Side → ℕ → ℕ → ℕ → List (List Duty)
templates s count reason id =
    start_of_turn ∷ rest_of_turn ∷ emission s ∷ syn_came s ∷ syn_ack_came s ∷ join_came s ∷ refuses s ∷ join_answered s ∷ copy_came s count ∷ syn_again s ∷ answers s
    ∷ answers_dead s ∷ expired s ∷ expired_for_ever s ∷ announces s id ∷ withdraws s id ∷ stops s ∷ leaves s ∷ breaks s reason ∷ resets s reason ∷ []

-- every template ends once, whatever its side, count, reason and id
abbrev pub EveryTemplateEnds : Type 0
EveryTemplateEnds = (s : Side) (count reason id : ℕ) → list_all ends_once (templates s count reason id) ≡ true

-- ---- what takes the place of a duty

-- what takes the place of a duty is less than the duty was
pub record ChainsEnd (s : Side) (index reason : ℕ) : Type 0 where
  -- a break in the place of what a copy said, or of bytes, or of the end of the stream
  pub heard : weights (breaks s reason) < weights (duties.Step (step_duties.Heard s index) ∷ [])
  pub edge : weights (breaks s reason) < weights (duties.Ask (ask_duties.Edge s) ∷ [])
  pub check_failed : weights (breaks s reason) < weights (duties.Ask (ask_duties.CheckFailed s) ∷ [])
  pub unmapped : weights (breaks s reason) < weights (duties.Step (step_duties.Unmapped s) ∷ [])
  pub heard_fin : weights (breaks s reason) < weights (duties.Ask (ask_duties.HeardFin s index) ∷ [])
  pub subflow_fin : weights (breaks s reason) < weights (duties.Ask (ask_duties.SubflowFin s) ∷ [])
  -- in the place of what told that Multipath TCP is there, or isn't
  pub ack_told : weights (breaks s reason) < weights (duties.Ask (ask_duties.AckHeard s) ∷ [])
  pub fail_told : weights (breaks s reason) < weights (duties.Ask (ask_duties.FailHeard s) ∷ [])
  pub plain_handshake : weights (breaks s reason) < weights (duties.Ask (ask_duties.PlainHandshake s) ∷ [])
  pub peer_key : weights (breaks s reason) < weights (duties.Ask (ask_duties.PeerKey s) ∷ [])
  pub opened : weights (breaks s reason) < weights (duties.Ask (ask_duties.Opened s) ∷ [])
  pub plain_ack : weights (breaks s reason) < weights (duties.Step (step_duties.PlainAck s) ∷ [])
  pub plain_data : weights (breaks s reason) < weights (duties.Ask (ask_duties.PlainData s) ∷ [])
  -- a fall in the same places
  pub heard_falls : weights (duties.Ask (ask_duties.GoIdentity s) ∷ []) < weights (duties.Step (step_duties.Heard s index) ∷ [])
  pub ack_falls : weights (duties.Ask (ask_duties.GoIdentity s) ∷ []) < weights (duties.Ask (ask_duties.AckHeard s) ∷ [])
  pub fail_falls : weights (duties.Ask (ask_duties.GoIdentity s) ∷ []) < weights (duties.Ask (ask_duties.FailHeard s) ∷ [])
  pub handshake_falls : weights (duties.Ask (ask_duties.GoIdentity s) ∷ []) < weights (duties.Ask (ask_duties.PlainHandshake s) ∷ [])
  pub key_falls : weights (duties.Ask (ask_duties.GoIdentity s) ∷ []) < weights (duties.Ask (ask_duties.PeerKey s) ∷ [])
  pub opened_falls : weights (duties.Ask (ask_duties.GoIdentity s) ∷ []) < weights (duties.Ask (ask_duties.Opened s) ∷ [])
  pub plain_ack_falls : weights (duties.Ask (ask_duties.GoIdentity s) ∷ []) < weights (duties.Step (step_duties.PlainAck s) ∷ [])
  pub plain_data_falls : weights (duties.Ask (ask_duties.GoIdentity s) ∷ []) < weights (duties.Ask (ask_duties.PlainData s) ∷ [])
  pub check_falls : weights (duties.Ask (ask_duties.GoIdentity s) ∷ []) < weights (duties.Ask (ask_duties.CheckFailed s) ∷ [])
  -- the answer to a SYN that joins, and the death of an end that may not join any more
  pub join_taken : weights (duties.Send (send_duties.SynAck s) ∷ []) < weights (duties.Ask (ask_duties.JoinHeard s) ∷ [])
  pub join_refused : weights (duties.Send (send_duties.Refuse s) ∷ []) < weights (duties.Ask (ask_duties.JoinHeard s) ∷ [])
  pub join_ended : weights (duties.Ask (ask_duties.Leave s) ∷ []) < weights ((duties.Ask ask_duties.JoinAgain) ∷ [])
  -- a Data ACK that covers something
  pub ack_heard : weights (duties.Ask (ask_duties.AckHeard s) ∷ []) < weights (duties.Step (step_duties.Heard s index) ∷ [])
  -- an MP_FAIL, where the send book is asked first
  pub fail_heard : weights (duties.Ask (ask_duties.FailHeard s) ∷ []) < weights (duties.Step (step_duties.Heard s index) ∷ [])
  -- the peer's fast close, and the reset that the side told
  pub stopped : weights (stops s) < weights (duties.Step (step_duties.Heard s index) ∷ [])
  pub leave_noted : weights (duties.Ask (ask_duties.Dead s) ∷ []) < weights (duties.Ask (ask_duties.LeaveNoted s) ∷ [])
  pub reset_noted : weights (duties.Ask (ask_duties.Leave s) ∷ []) < weights (duties.Send (send_duties.ResetNoted s) ∷ [])
  -- from a break to the reset, and from a reset to the death
  pub break_ack : weights (resets s reason) < weights (duties.Ask (ask_duties.BreakAck s reason) ∷ [])
  pub break_reset : weights (leaves s) < weights (duties.Send (send_duties.BreakReset s reason) ∷ [])
  pub reset : weights (duties.Ask (ask_duties.Leave s) ∷ []) < weights (duties.Send (send_duties.Reset s) ∷ [])
  pub leave : weights (duties.Ask (ask_duties.Dead s) ∷ []) < weights (duties.Ask (ask_duties.Leave s) ∷ [])

-- at both sides, whatever the thing and the reason, what takes the place of a duty is less than the duty was
abbrev pub EveryChainEnds : Type 0
EveryChainEnds = (s : Side) (index reason : ℕ) → ChainsEnd s index reason
