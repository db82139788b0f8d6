-- A step of the path: the duty that stands first asks, its reply is taken, and the lanes show the path then.
use Rattle.world_laws.proofs.Words.{◌≡◌, refl, sym, ◌∙◌, ap, subst, ℕ, ◌≤◌, ◌&&◌, ◌||◌, Bool, true, false, if◌then◌else◌, Option, Some, None, List, [], length}
use Rattle.world_laws.proofs.Words.{arith, is_some, ◌<◌, ◌^◌, and_parts, IfSome, Side, A, B, ReturnBytes, Record, InfiniteMapping, leaves, resets, Duty}
use Rattle.world_laws.proofs.Words.{SendDuty, StepDuty, AskDuty, SilentDuty, replaced, key_heard, keys_heard, Ask, Reply, SixBooks, send_of, reply_of, pick}
use Rattle.world_laws.proofs.Words.{stands, ask_for, answered, PathEnd, died, after_look, look_ask, PathState, end_at, with_agenda, left, path_of, Carried}
use Rattle.world_laws.proofs.Words.{values, answered_data, data_stands, first_unsent, data_ask, payload_size, next_event, step_for, asked_at, join_heard_ask}
use Rattle.world_laws.proofs.Words.{join_begin_ask, piece_of, place_of_fin, is_all_granted, answered_leave_noted, Holds, Lane, is_whole}
use Rattle.fallback_state.specs.declared.fall.Event.{Event}
use Rattle.subflow_tcp.specs.States as states
use Rattle.world_laws.proofs.Lanes.Answering as answering
use Rattle.world_laws.proofs.Lanes.Answering.{IsReady, FailOpens, Steps}
use Rattle.world_laws.proofs.Lanes.Doing.{with_fin_sent, sends_the_fin, sends_own_fin}
use Rattle.world_laws.proofs.Lanes.Roads.{Strolls}
use Rattle.world_laws.proofs.Lanes.Ending.{did_nothing}
use Rattle.world_laws.proofs.Lanes.Happening.{join_step, events_step}
use Rattle.world_laws.proofs.Lanes.OfAWorld.{plain_unless, Others, duo_at, MayDo, DutyIsFirm}
use Rattle.world_laws.proofs.Lanes.Replying as replying
use Rattle.world_laws.proofs.Lanes.RulesLeaveAlone.{looked_shows, died_shows}
use Rattle.world_laws.proofs.Lanes.Showing.{OwnIs, EndShows, PathShows}
use Rattle.world_laws.proofs.Lanes.Sides.{return_side, abort_send_side, abort_receive_side, SideDid, side_kept}
use Rattle.world_laws.proofs.Asks.AckOutDuties.{is_shield}
use Rattle.world_laws.proofs.Falls.FinAtTheWhole.{whole, whole_by_pair}

module _ (six : SixBooks) (others : Others) (p : PathState Carried) (ab ba : Lane) (h : PathShows p.profile p ab ba) (holds : Holds (duo_at six ab ba others))
    (ready : IsReady p ab ba) (numbered : path_of p ≡ others.number)
    (size : 29 ≤ p.profile.mss) (short : (s : Side) → length (send_of s six).marks < 2 ^ 63) where
  abbrev Makes : Ask → PathState Carried → Type 0
  Makes ask q = Steps six others p ab ba h ready ask q

  abbrev Answers : Duty → Type 0
  Answers d = Makes (ask_for values d p) (answered values d (reply_of six (ask_for values d p)) p)

  tiles : (s : Side) → length (send_of s six).marks ≡ length (send_of s six).written
  tiles = elim [ A ↦ holds.ab.send.whole | B ↦ holds.ba.send.whole ]

  module _ (s : Side) where
    abbrev e : PathEnd
    e = end_at s p

    abbrev shows : EndShows p.profile s e (pick s ab ba) (pick s ba ab)
    shows = answering.shows_at six others p ab ba h ready s

    -- what the end holds is given back, and then these are to be done
    abbrev ReturnsAt : List Duty → ℕ → Type 0
    ReturnsAt ds path = Makes (Ask.Send s (ReturnBytes path)) (with_agenda ds p)

    returns : (ds : List Duty) → ReturnsAt ds (path_of p)
    returns ds = subst (ReturnsAt ds) (sym numbered) (return_side p.profile six others s p (with_agenda ds p) ab ba h
        (answering.agenda_side six others p ab ba h ready s (pick s ab ba) (pick s ba ab) ds (did_nothing p.profile s (pick s ab ba) (pick s ba ab) e shows)))

    -- only the agenda changes
    done_side : SideDid p.profile s p (with_agenda (left p) p) ab ba (pick s ab ba) (pick s ba ab)
    done_side = answering.agenda_side six others p ab ba h ready s (pick s ab ba) (pick s ba ab) (left p) (did_nothing p.profile s (pick s ab ba) (pick s ba ab) e shows)

    -- what the end holds is given back, and it is dead
    abbrev LeavesAt : ℕ → Type 0
    LeavesAt path = Makes (Ask.Send s (ReturnBytes path)) (answered_leave_noted s p)

    leaves_noted : e.treated.asked ≡ false → LeavesAt (path_of p)
    leaves_noted calm = subst LeavesAt (sym numbered) (return_side p.profile six others s p (answered_leave_noted s p) ab ba h
        (side_kept p.profile p ab ba h s (pick s ab ba) (pick s ba ab) (died e) (replaced (Duty.Ask (AskDuty.Dead s)) p.agenda)
        (did_nothing p.profile s (pick s ab ba) (pick s ba ab) (died e) (died_shows p.profile s (pick s ab ba) (pick s ba ab) e calm shows))))

    data_by : e.treated.asked ≡ false → (o : Option Record) → first_unsent e ≡ o → data_stands p.profile s e o ≡ true
        → Makes (data_ask values s o p) (answered_data values s o (reply_of six (data_ask values s o p)) p)
    data_by calm (Some r) is stands = answering.unsent_step six others p ab ba h ready s calm p.agenda
    data_by calm None is stands =
        replying.granted_step six others p ab ba h holds ready s (payload_size p.profile) e.modes.standby (omega (arith, size)) (short s) (tiles s)
        (and_parts (states.may_finish e.tcp.state) _ stands).0 numbered

    fin_due : e.treated.asked ≡ false → stands (Duty.Send (SendDuty.Fin s)) p ≡ true → Answers (Duty.Send (SendDuty.Fin s))
    fin_due calm is =
        let parts = and_parts (states.may_finish e.tcp.state) _ is in
        answering.fin_step six others p ab ba h ready s calm parts.0 (finishes (ready.opened s parts.0) e.modes.identity refl e.modes.own_infinite refl parts.1)
      where
        out : Lane
        out = pick s ab ba

        finishes : out.opened ≡ true → (b : Bool) → e.modes.identity ≡ b → (o : Option InfiniteMapping) → e.modes.own_infinite ≡ o
            → (if b || is_some o then is_all_granted e.sending.known_end e.sending else (e.sending.close.own_acked && e.sending.close.peer_came)) ≡ true → Strolls out (with_fin_sent out)
        finishes opened true plain o own is = sends_the_fin out opened (
            ap (λ (b : Bool). if b then is_whole out.known_end out else out.fin_acked) (shows.sender.plain ∙ plain)
            ∙ whole six others s ab ba holds e (shows.sender.plain ∙ plain) shows.sender.same_end shows.sender.heard shows.sender.granted is)
        finishes opened false above None own is = sends_the_fin out opened (
            ap (λ (b : Bool). if b then is_whole out.known_end out else out.fin_acked) (shows.sender.plain ∙ above)
            ∙ shows.sender.fin_acked (and_parts e.sending.close.own_acked e.sending.close.peer_came is).0)
        finishes opened false above (Some mapping) own is =
            let goes = subst (λ o. IfSome o (OwnIs out.pair out.pairs out.fins out.alters)) own shows.pairs.0 in
            sends_own_fin out goes.item goes.there opened
            (whole_by_pair six others s ab ba holds e goes.item goes.there shows.sender.same_end shows.sender.heard shows.sender.sent is)

  -- A duty that comes to something, as far as it sends or ends something nothing is to be asked before; B hears only of joins that
  -- were begun.
  pub duty_step : (d : Duty) → stands d p ≡ true → ((s : Side) → is_shield s d ≡ false → (end_at s p).treated.asked ≡ false) → MayDo six d → DutyIsFirm others.links six p d → FailOpens p ab ba d → Answers d
  duty_step (Duty.Ask AskDuty.JoinAgain) is calm may firm opens =
      let r : Reply = reply_of six (join_begin_ask (path_of p)) in
      join_step six others p ab ba h holds (λ s. calm s refl) (join_begin_ask (path_of p)) r (replaced (Duty.Ask (AskDuty.Leave A)) p.agenda) (left p) p tt (λ s. calm s refl) h
  duty_step (Duty.Step (StepDuty.Look s)) is calm may firm opens =
      let r : Reply = reply_of six (look_ask s p) in
      answering.end_step six others p ab ba h ready s (look_ask s p) (after_look r (end_at s p)) (left p) tt (looked_shows p.profile s (pick s ab ba) (pick s ba ab) r (end_at s p) (shows s))
  duty_step (Duty.Ask (AskDuty.Window s)) is calm may firm opens = answering.told_step six others p ab ba h ready s (left p)
  duty_step (Duty.Send (SendDuty.Update s)) is calm may firm opens = answering.acknowledges_step six others p ab ba h ready s (calm s refl) (left p)
  duty_step (Duty.Send (SendDuty.FastClose s)) is calm may firm opens = answering.fast_close_step six others p ab ba h ready s (calm s refl)
  duty_step (Duty.Send (SendDuty.Notice s)) is calm may firm opens = answering.note_step six others p ab ba h ready s (calm s refl)
  duty_step (Duty.Send (SendDuty.Syn s)) is calm may firm opens = answering.unsent_step six others p ab ba h ready s (calm s refl) (left p)
  duty_step (Duty.Step (StepDuty.Data s)) is calm may firm opens = data_by s (calm s refl) (first_unsent (end_at s p)) refl is
  duty_step (Duty.Send (SendDuty.DataFin s)) is calm may firm opens = answering.data_fin_step six others p ab ba h ready s (calm s refl)
  duty_step (Duty.Send (SendDuty.Fin s)) is calm may firm opens = fin_due s (calm s refl) is
  duty_step (Duty.Silent (SilentDuty.Timer s)) is calm may firm opens = answering.agenda_step six others p ab ba h ready _ (left p) tt
  duty_step (Duty.Step StepDuty.Events) is calm may firm opens = events_step six others p ab ba h holds (λ s. calm s refl) (next_event p) (reply_of six (step_for (path_of p) (next_event p)))
  duty_step (Duty.Ask (AskDuty.SynHeard s)) is calm may firm opens = replying.syn_window_step six others p ab ba h holds ready s
  duty_step (Duty.Ask (AskDuty.SynAnswered s)) is calm may firm opens = replying.syn_window_step six others p ab ba h holds ready s
  duty_step (Duty.Ask (AskDuty.PlainHandshake s)) is calm may firm opens = replying.told_fell six others p ab ba h holds ready s Event.PlainHandshake tt
  duty_step (Duty.Ask (AskDuty.PeerKey s)) is calm may firm opens = replying.peer_key_step six others p ab ba h holds ready s (key_heard (end_at s p).treated.items)
  duty_step (Duty.Send (SendDuty.SynAck s)) is calm may firm opens = answering.syn_ack_step six others p ab ba h ready s (left p)
  duty_step (Duty.Ask (AskDuty.JoinHeard s)) is calm may firm opens = answering.join_heard_step six others p ab ba h ready s (reply_of six (join_heard_ask s (asked_at s p) p)) may
  duty_step (Duty.Send (SendDuty.Refuse s)) is calm may firm opens = answering.refuse_step six others p ab ba h ready s
  duty_step (Duty.Ask (AskDuty.Opened s)) is calm may firm opens = replying.opened_step six others p ab ba h holds ready s (keys_heard (end_at s p).treated.items)
  duty_step (Duty.Step (StepDuty.Heard s index)) is calm may firm opens = replying.item_step six others p ab ba h holds ready s index (λ fail. (opens fail, numbered, short s)) firm is
  duty_step (Duty.Ask (AskDuty.AckHeard s)) is calm may firm opens = replying.told_fell six others p ab ba h holds ready s Event.AckHeard tt
  duty_step (Duty.Ask (AskDuty.CheckFailed s)) is calm may firm opens = replying.check_failed_step six others p ab ba h holds ready s
  duty_step (Duty.Ask (AskDuty.FailHeard s)) is calm may firm opens = replying.fail_heard_step six others p ab ba h holds ready s
  duty_step (Duty.Step (StepDuty.PlainAck s)) is calm may firm opens = replying.plain_ack_step six others p ab ba h holds ready s
  duty_step (Duty.Ask (AskDuty.SubflowAck s)) is calm may firm opens = replying.subflow_ack_step six others p ab ba h holds ready s is
  duty_step (Duty.Ask (AskDuty.PlainData s)) is calm may firm opens = replying.told_fell six others p ab ba h holds ready s Event.PlainData tt
  duty_step (Duty.Ask (AskDuty.GoIdentity s)) is calm may firm opens = replying.identity_step six others p ab ba h holds ready s (plain_unless others.links s six firm may)
  duty_step (Duty.Step (StepDuty.Unmapped s)) is calm may firm opens = answering.break_step six others p ab ba h ready s 6
  duty_step (Duty.Ask (AskDuty.SubflowFin s)) is calm may firm opens = replying.plain_fin_step six others p ab ba h holds ready s (place_of_fin (end_at s p)) refl
  duty_step (Duty.Ask (AskDuty.Edge s)) is calm may firm opens = replying.piece_step six others p ab ba h holds ready s (piece_of s p) refl
  duty_step (Duty.Ask (AskDuty.HeardFin s index)) is calm may firm opens = replying.fin_heard_step six others p ab ba h holds ready s index
  duty_step (Duty.Ask (AskDuty.AckOut s)) is calm may firm opens = answering.told_step six others p ab ba h ready s (left p)
  duty_step (Duty.Ask (AskDuty.Rate s)) is calm may firm opens = replying.rate_step six others p ab ba h holds ready s
  duty_step (Duty.Send (SendDuty.Acknowledge s)) is calm may firm opens = answering.acknowledges_step six others p ab ba h ready s (calm s refl) (left p)
  duty_step (Duty.Send (SendDuty.Again s)) is calm may firm opens = answering.again_step six others p ab ba h ready s (calm s refl)
  duty_step (Duty.Send (SendDuty.Answer s)) is calm may firm opens = answering.answer_step six others p ab ba h ready s (calm s refl)
  duty_step (Duty.Send (SendDuty.ResetAnswer s)) is calm may firm opens = answering.dead_step six others p ab ba h ready s
  duty_step (Duty.Ask (AskDuty.Return s)) is calm may firm opens = returns s (left p)
  duty_step (Duty.Ask (AskDuty.AbortSend s)) is calm may firm opens = abort_send_side p.profile six others s p (with_agenda (left p) p) ab ba h (done_side s)
  duty_step (Duty.Ask (AskDuty.AbortReceive s)) is calm may firm opens = abort_receive_side p.profile six others s p (with_agenda (left p) p) ab ba h (done_side s)
  duty_step (Duty.Send (SendDuty.Resend s)) is calm may firm opens = answering.resend_step six others p ab ba h ready s (calm s refl)
  duty_step (Duty.Ask (AskDuty.BreakAck s reason)) is calm may firm opens = answering.told_step six others p ab ba h ready s (resets s reason)
  duty_step (Duty.Send (SendDuty.BreakReset s reason)) is calm may firm opens = answering.reset_step six others p ab ba h ready s (calm s refl) (Some reason) (leaves s)
  duty_step (Duty.Send (SendDuty.Reset s)) is calm may firm opens = answering.reset_step six others p ab ba h ready s (calm s refl) None (replaced (Duty.Ask (AskDuty.Leave s)) p.agenda)
  duty_step (Duty.Send (SendDuty.ResetNoted s)) is calm may firm opens = answering.reset_step six others p ab ba h ready s (calm s refl) None (replaced (Duty.Ask (AskDuty.Leave s)) p.agenda)
  duty_step (Duty.Ask (AskDuty.Leave s)) is calm may firm opens = returns s (replaced (Duty.Ask (AskDuty.Dead s)) p.agenda)
  duty_step (Duty.Ask (AskDuty.LeaveNoted s)) is calm may firm opens = leaves_noted s (calm s refl)
  duty_step Duty.End is calm may firm opens = answering.agenda_step six others p ab ba h ready _ [] tt
  duty_step _ is calm may firm opens = answering.agenda_step six others p ab ba h ready _ (left p) tt
