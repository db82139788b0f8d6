-- The four definitions by cases on the duty, part by part: whether it comes to something, to what, what its reply makes of the
-- path, and what a duty that comes to nothing changes in silence.
use Rattle.std.specs.Prelude.{Bool, true, false, not, ◌&&◌, ◌||◌, is_some, Some, None, []}
use Rattle.subflow_tcp.specs.State.{has_records}
use Rattle.fallback_state.specs.declared.fall.Event.TheVariants as events
use Rattle.fallback_state.specs.Modes.{is_starting}
use Rattle.actor_desk.specs.declared.ask.Ask.{Ask}
use Rattle.actor_desk.specs.declared.ask.Ask.TheVariants as asks
use Rattle.actor_desk.specs.declared.ask.LocalStep.TheVariants as steps
use Rattle.actor_desk.specs.declared.ask.Reply.{Reply}
use Rattle.path_agenda.specs.declared.duty.Duty.{Duty}
use Rattle.path_agenda.specs.declared.duty.Duty.TheVariants as duties
use Rattle.path_agenda.specs.declared.duty.SendDuty.{SendDuty}
use Rattle.path_agenda.specs.declared.duty.AskDuty.TheVariants as ask_duties
use Rattle.path_agenda.specs.declared.duty.SendDuty.TheVariants as send_duties
use Rattle.path_agenda.specs.declared.duty.SilentDuty.TheVariants as silent_duties
use Rattle.path_agenda.specs.declared.duty.StepDuty.TheVariants as step_duties
use Rattle.path_agenda.specs.Agenda.{leaves, resets}
use Rattle.path_core.specs.Breaking.{reset_of, reset_on, break_ask, answered_break, return_ask, dead_ask, refusal_of, answered_refusal}
use Rattle.path_core.specs.DataFin.{is_data_fin_due, is_fin_due, data_fin_segment, answered_data_fin_sent, fin_segment_of, answered_fin, is_fin_set, data_fin_of, fin_ask, answered_fin_heard, after_pass_fin, place_of_fin, answered_plain_fin}
use Rattle.path_core.specs.Codec.{Codec}
use Rattle.path_core.specs.Emission.{is_syn_due, data_stands, first_unsent, unsent_segment, data_ask, answered_syn, answered_data, first_segment, answered_again, answer_of, answered_answer, dead_answer, answered_dead, resend_of, answered_resend}
use Rattle.path_core.specs.Timer.{with_timer_settled}
use Rattle.path_core.specs.Events.{next_event, step_for, happens_if}
use Rattle.path_core.specs.MpJoin.{answered_join_again, is_join_pending, join_begin_ask, asked_at, join_heard_ask, answered_join_heard}
use Rattle.path_agenda.specs.Items.{key_heard, keys_heard}
use Rattle.path_core.specs.FastClose.{leaves_silently, resets_noted, answered_leave_noted, is_fast_close_due, fast_close_of, answered_fast_close, abort_send_ask, abort_receive_ask}
use Rattle.path_core.specs.Fallback.{fail_heard_ask, answered_fail_heard, check_failed_stands, check_failed_ask, answered_check_failed, fell_ask, answered_fell, identity_ask, answered_identity, plain_ack_stands, plain_ack_ask, with_plain_ack, answered_plain_ack, subflow_ack_stands, subflow_ack_ask, answered_subflow_ack, plain_data_stands}
use Rattle.path_core.specs.Addresses.{is_note_due, note_of, answered_note, announce_ask, withdraw_ask}
use Rattle.path_core.specs.MpCapable.{syn_window_ask, syn_ack_of, answered_syn_ack, is_plain_syn, peer_key_stands, peer_key_ask, answered_peer_key, is_opened_by_keys, is_opened_plainly, opened_ask, answered_opened, live_ask}
use Rattle.path_core.specs.Deliver.{piece_of, piece_ask, is_placed, answered_piece, after_check, breaks_by_unmapped, after_pieces, after_keep}
use Rattle.path_core.specs.Rate.{rate_ask, answered_rate}
use Rattle.path_core.specs.Handover.{sends}
use Rattle.path_core.specs.Standing.{look_ask, answered_look, ack_out_ask, answered_ack_out, is_update_due, ack_segment, acknowledges}
use Rattle.path_core.specs.State.{PathState, end_at, with_end, left, path_of, with_agenda}
use Rattle.path_core.specs.Treating.{item_of, item_stands, item_ask, answered_item, item_passed}
use Rattle.path_store.specs.Granted.{is_all_acknowledged}
use Rattle.path_agenda.specs.Words.{replaced}

-- ---- whether it comes to something

abbrev pub stands : {C : Type 0} → Duty → PathState C → Bool
stands (duties.Ask ask_duties.JoinAgain) p = is_join_pending p
stands (duties.Ask (ask_duties.Window s)) p = true
stands (duties.Ask (ask_duties.SynHeard s)) p = true
stands (duties.Ask (ask_duties.SynAnswered s)) p = true
stands (duties.Ask (ask_duties.PlainHandshake s)) p = is_plain_syn (end_at s p)
stands (duties.Ask (ask_duties.PeerKey s)) p = peer_key_stands (end_at s p)
stands (duties.Ask (ask_duties.JoinHeard s)) p = is_some (asked_at s p)
stands (duties.Ask (ask_duties.Opened s)) p = is_opened_by_keys (end_at s p) || is_opened_plainly (end_at s p)
stands (duties.Ask (ask_duties.Live s)) p = (end_at s p).treated.opened
stands (duties.Ask (ask_duties.AckHeard s)) p = is_starting (end_at s p).modes.mode
stands (duties.Ask (ask_duties.FailHeard s)) p = true
stands (duties.Ask (ask_duties.SubflowAck s)) p = subflow_ack_stands (end_at s p)
stands (duties.Ask (ask_duties.PlainData s)) p = plain_data_stands (end_at s p)
stands (duties.Ask (ask_duties.GoIdentity s)) p = true
stands (duties.Ask (ask_duties.Edge s)) p = is_some (piece_of s p)
stands (duties.Ask (ask_duties.CheckFailed s)) p = check_failed_stands p.profile (end_at s p)
stands (duties.Ask (ask_duties.HeardFin s index)) p = is_some (data_fin_of index (end_at s p))
stands (duties.Ask (ask_duties.SubflowFin s)) p = is_some (place_of_fin (end_at s p))
stands (duties.Ask (ask_duties.AckOut s)) p = (end_at s p).treated.asked
stands (duties.Ask (ask_duties.Rate s)) p = is_some (end_at s p).tcp.congestion.pending
stands (duties.Ask (ask_duties.Return s)) p = not (is_all_acknowledged (end_at s p).sending.granted)
stands (duties.Ask (ask_duties.AbortSend s)) p = true
stands (duties.Ask (ask_duties.AbortReceive s)) p = true
stands (duties.Ask (ask_duties.Announce s id)) p = true
stands (duties.Ask (ask_duties.Withdraw s id)) p = true
stands (duties.Ask (ask_duties.LeaveNoted s)) p = leaves_silently (end_at s p)
stands (duties.Ask (ask_duties.BreakAck s reason)) p = true
stands (duties.Ask (ask_duties.Leave s)) p = true
stands (duties.Ask (ask_duties.Dead s)) p = true
stands (duties.Step (step_duties.Look s)) p = true
stands (duties.Step (step_duties.Data s)) p = data_stands p.profile s (end_at s p) (first_unsent (end_at s p))
stands (duties.Step step_duties.Events) p = is_some (next_event p)
stands (duties.Step (step_duties.Heard s index)) p = item_stands (item_of index (end_at s p)) (end_at s p)
stands (duties.Step (step_duties.PlainAck s)) p = plain_ack_stands p.profile (end_at s p)
stands (duties.Step (step_duties.Unmapped s)) p = breaks_by_unmapped (end_at s p)
stands (duties.Send (send_duties.Update s)) p = is_update_due p.profile (end_at s p)
stands (duties.Send (send_duties.Syn s)) p = is_syn_due (end_at s p)
stands (duties.Send (send_duties.FastClose s)) p = is_fast_close_due (end_at s p)
stands (duties.Send (send_duties.Notice s)) p = is_note_due (end_at s p)
stands (duties.Send (send_duties.DataFin s)) p = is_data_fin_due (end_at s p)
stands (duties.Send (send_duties.Fin s)) p = is_fin_due (end_at s p)
stands (duties.Send (send_duties.SynAck s)) p = true
stands (duties.Send (send_duties.Refuse s)) p = true
stands (duties.Send (send_duties.Acknowledge s)) p = (end_at s p).tcp.due.ack
stands (duties.Send (send_duties.Again s)) p = (end_at s p).tcp.due.first && has_records (end_at s p).tcp
stands (duties.Send (send_duties.Answer s)) p = true
stands (duties.Send (send_duties.ResetAnswer s)) p = true
stands (duties.Send (send_duties.Resend s)) p = true
stands (duties.Send (send_duties.BreakReset s reason)) p = true
stands (duties.Send (send_duties.Reset s)) p = true
stands (duties.Send (send_duties.ResetNoted s)) p = resets_noted (end_at s p)
stands (duties.Silent d) p = false
stands duties.End p = true

-- ---- to what

abbrev pub ask_for : {C : Type 0} → Codec C → Duty → PathState C → Ask
ask_for k (duties.Ask ask_duties.JoinAgain) p = join_begin_ask (path_of p)
ask_for k (duties.Ask (ask_duties.Window s)) p = ack_out_ask s
ask_for k (duties.Ask (ask_duties.SynHeard s)) p = syn_window_ask s (end_at s p)
ask_for k (duties.Ask (ask_duties.SynAnswered s)) p = syn_window_ask s (end_at s p)
ask_for k (duties.Ask (ask_duties.PlainHandshake s)) p = fell_ask s events.PlainHandshake p
ask_for k (duties.Ask (ask_duties.PeerKey s)) p = peer_key_ask s (key_heard (end_at s p).treated.items) p
ask_for k (duties.Ask (ask_duties.JoinHeard s)) p = join_heard_ask s (asked_at s p) p
ask_for k (duties.Ask (ask_duties.Opened s)) p = opened_ask s (keys_heard (end_at s p).treated.items) p
ask_for k (duties.Ask (ask_duties.Live s)) p = live_ask s p
ask_for k (duties.Ask (ask_duties.AckHeard s)) p = fell_ask s events.AckHeard p
ask_for k (duties.Ask (ask_duties.FailHeard s)) p = fail_heard_ask s p
ask_for k (duties.Ask (ask_duties.SubflowAck s)) p = subflow_ack_ask s (end_at s p)
ask_for k (duties.Ask (ask_duties.PlainData s)) p = fell_ask s events.PlainData p
ask_for k (duties.Ask (ask_duties.GoIdentity s)) p = identity_ask s
ask_for k (duties.Ask (ask_duties.Edge s)) p = piece_ask s (piece_of s p)
ask_for k (duties.Ask (ask_duties.CheckFailed s)) p = check_failed_ask s p
ask_for k (duties.Ask (ask_duties.HeardFin s index)) p = fin_ask s (data_fin_of index (end_at s p))
ask_for k (duties.Ask (ask_duties.SubflowFin s)) p = fin_ask s (place_of_fin (end_at s p))
ask_for k (duties.Ask (ask_duties.AckOut s)) p = ack_out_ask s
ask_for k (duties.Ask (ask_duties.Rate s)) p = rate_ask s (end_at s p).tcp.congestion.pending p
ask_for k (duties.Ask (ask_duties.Return s)) p = return_ask s p
ask_for k (duties.Ask (ask_duties.AbortSend s)) p = abort_send_ask s
ask_for k (duties.Ask (ask_duties.AbortReceive s)) p = abort_receive_ask s
ask_for k (duties.Ask (ask_duties.Announce s id)) p = announce_ask s id
ask_for k (duties.Ask (ask_duties.Withdraw s id)) p = withdraw_ask s id
ask_for k (duties.Ask (ask_duties.LeaveNoted s)) p = return_ask s p
ask_for k (duties.Ask (ask_duties.BreakAck s reason)) p = ack_out_ask s
ask_for k (duties.Ask (ask_duties.Leave s)) p = return_ask s p
ask_for k (duties.Ask (ask_duties.Dead s)) p = dead_ask s p
ask_for k (duties.Step (step_duties.Look s)) p = look_ask s p
ask_for k (duties.Step (step_duties.Data s)) p = data_ask k s (first_unsent (end_at s p)) p
ask_for k (duties.Step step_duties.Events) p = step_for (path_of p) (next_event p)
ask_for k (duties.Step (step_duties.Heard s index)) p = item_ask k s (item_of index (end_at s p)) p
ask_for k (duties.Step (step_duties.PlainAck s)) p = plain_ack_ask k s p
ask_for k (duties.Step (step_duties.Unmapped s)) p = break_ask k s 6 p
ask_for k (duties.Send (send_duties.Update s)) p = sends k s (ack_segment s p) p
ask_for k (duties.Send (send_duties.Syn s)) p = sends k s (unsent_segment s p) p
ask_for k (duties.Send (send_duties.FastClose s)) p = sends k s (fast_close_of s p) p
ask_for k (duties.Send (send_duties.Notice s)) p = sends k s (note_of s p) p
ask_for k (duties.Send (send_duties.DataFin s)) p = sends k s (data_fin_segment s p) p
ask_for k (duties.Send (send_duties.Fin s)) p = sends k s (fin_segment_of s p) p
ask_for k (duties.Send (send_duties.SynAck s)) p = sends k s (syn_ack_of s p) p
ask_for k (duties.Send (send_duties.Refuse s)) p = sends k s (refusal_of s p) p
ask_for k (duties.Send (send_duties.Acknowledge s)) p = sends k s (ack_segment s p) p
ask_for k (duties.Send (send_duties.Again s)) p = sends k s (first_segment s p) p
ask_for k (duties.Send (send_duties.Answer s)) p = sends k s (answer_of s p) p
ask_for k (duties.Send (send_duties.ResetAnswer s)) p = sends k s (dead_answer s p) p
ask_for k (duties.Send (send_duties.Resend s)) p = sends k s (resend_of s p) p
ask_for k (duties.Send (send_duties.BreakReset s reason)) p = sends k s (reset_of s (Some reason) p) p
ask_for k (duties.Send (send_duties.Reset s)) p = sends k s (reset_of s None p) p
ask_for k (duties.Send (send_duties.ResetNoted s)) p = sends k s (reset_of s None p) p
ask_for k (duties.Silent d) p = asks.Local steps.End
ask_for k duties.End p = asks.Local steps.End

-- ---- what it changes where it comes to nothing

abbrev pub passed : {C : Type 0} → Duty → PathState C → PathState C
passed (duties.Ask (ask_duties.CheckFailed s)) p = with_end s (after_check p.profile (end_at s p)) p
passed (duties.Step (step_duties.Heard s index)) p = with_end s (item_passed s (item_of index (end_at s p)) (end_at s p)) p
passed (duties.Step (step_duties.PlainAck s)) p = with_end s (with_plain_ack (end_at s p)) p
passed (duties.Step (step_duties.Unmapped s)) p = with_end s (after_pieces (end_at s p)) p
passed (duties.Silent (silent_duties.Timer s)) p = with_end s (with_timer_settled p.clock (end_at s p)) p
passed (duties.Silent (silent_duties.Keep s)) p = with_end s (after_keep s (end_at s p)) p
passed (duties.Silent (silent_duties.PassFin s)) p = with_end s (after_pass_fin (end_at s p)) p
passed d p = p

-- ---- what its reply makes of the path

-- nothing changes at the path, and the duty is done
abbrev pub done : {C : Type 0} → PathState C → PathState C
done p = with_agenda (left p) p

-- the segment of a duty that sends one, which no reply changes
abbrev pub sent_for : {C : Type 0} → Codec C → SendDuty → PathState C → PathState C
sent_for k (send_duties.Update s) p = acknowledges k s p
sent_for k (send_duties.Syn s) p = answered_syn k s p
sent_for k (send_duties.FastClose s) p = answered_fast_close k s p
sent_for k (send_duties.Notice s) p = answered_note k s p
sent_for k (send_duties.DataFin s) p = answered_data_fin_sent k s p
sent_for k (send_duties.Fin s) p = answered_fin k s p
sent_for k (send_duties.SynAck s) p = answered_syn_ack k s p
sent_for k (send_duties.Refuse s) p = answered_refusal k s p
sent_for k (send_duties.Acknowledge s) p = acknowledges k s p
sent_for k (send_duties.Again s) p = answered_again k s p
sent_for k (send_duties.Answer s) p = answered_answer k s p
sent_for k (send_duties.ResetAnswer s) p = answered_dead k s p
sent_for k (send_duties.Resend s) p = answered_resend k s p
sent_for k (send_duties.BreakReset s reason) p = reset_on k s (Some reason) (leaves s) p
sent_for k (send_duties.Reset s) p = reset_on k s None (replaced (duties.Ask (ask_duties.Leave s)) p.agenda) p
sent_for k (send_duties.ResetNoted s) p = reset_on k s None (replaced (duties.Ask (ask_duties.Leave s)) p.agenda) p

abbrev pub answered : {C : Type 0} → Codec C → Duty → Reply → PathState C → PathState C
answered k (duties.Ask ask_duties.JoinAgain) r p = answered_join_again r p
answered k (duties.Ask (ask_duties.Window s)) r p = answered_ack_out s r (left p) p
answered k (duties.Ask (ask_duties.PlainHandshake s)) r p = answered_fell s events.PlainHandshake r p
answered k (duties.Ask (ask_duties.PeerKey s)) r p = answered_peer_key s (key_heard (end_at s p).treated.items) r p
answered k (duties.Ask (ask_duties.JoinHeard s)) r p = answered_join_heard s r p
answered k (duties.Ask (ask_duties.Opened s)) r p = answered_opened s (keys_heard (end_at s p).treated.items) r p
answered k (duties.Ask (ask_duties.AckHeard s)) r p = answered_fell s events.AckHeard r p
answered k (duties.Ask (ask_duties.FailHeard s)) r p = answered_fail_heard s r p
answered k (duties.Ask (ask_duties.SubflowAck s)) r p = answered_subflow_ack s r p
answered k (duties.Ask (ask_duties.PlainData s)) r p = answered_fell s events.PlainData r p
answered k (duties.Ask (ask_duties.GoIdentity s)) r p = answered_identity s p
answered k (duties.Ask (ask_duties.Edge s)) r p = answered_piece s (piece_of s p) (is_placed r) p
answered k (duties.Ask (ask_duties.CheckFailed s)) r p = answered_check_failed s r p
answered k (duties.Ask (ask_duties.HeardFin s index)) r p = answered_fin_heard s (is_fin_set r) p
answered k (duties.Ask (ask_duties.SubflowFin s)) r p = answered_plain_fin s (is_fin_set r) p
answered k (duties.Ask (ask_duties.AckOut s)) r p = answered_ack_out s r (left p) p
answered k (duties.Ask (ask_duties.Rate s)) r p = answered_rate s r p
answered k (duties.Ask (ask_duties.LeaveNoted s)) r p = answered_leave_noted s p
answered k (duties.Ask (ask_duties.BreakAck s reason)) r p = answered_ack_out s r (resets s reason) p
answered k (duties.Ask (ask_duties.Leave s)) r p = with_agenda (replaced (duties.Ask (ask_duties.Dead s)) p.agenda) p
answered k (duties.Ask (ask_duties.SynHeard s)) r p = done p
answered k (duties.Ask (ask_duties.SynAnswered s)) r p = done p
answered k (duties.Ask (ask_duties.Live s)) r p = done p
answered k (duties.Ask (ask_duties.Return s)) r p = done p
answered k (duties.Ask (ask_duties.AbortSend s)) r p = done p
answered k (duties.Ask (ask_duties.AbortReceive s)) r p = done p
answered k (duties.Ask (ask_duties.Announce s id)) r p = done p
answered k (duties.Ask (ask_duties.Withdraw s id)) r p = done p
answered k (duties.Ask (ask_duties.Dead s)) r p = done p
answered k (duties.Step (step_duties.Look s)) r p = answered_look s r p
answered k (duties.Step (step_duties.Data s)) r p = answered_data k s (first_unsent (end_at s p)) r p
answered k (duties.Step step_duties.Events) r p = happens_if k (next_event p) r p
answered k (duties.Step (step_duties.Heard s index)) r p = answered_item k s (item_of index (end_at s p)) r p
answered k (duties.Step (step_duties.PlainAck s)) r p = answered_plain_ack k s r p
answered k (duties.Step (step_duties.Unmapped s)) r p = answered_break k s 6 r p
answered k (duties.Send d) r p = sent_for k d p
answered k (duties.Silent d) r p = done p
answered k duties.End r p = with_agenda [] p
