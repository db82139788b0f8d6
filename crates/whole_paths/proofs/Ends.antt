-- DATA_FIN and FIN, where they are due, are sent right before the timer is settled for the last time in a turn.
use Rattle.std.proofs.Common.{◌≡◌, refl, sym, subst, ap, ◌∙◌, inl, inr, ◌⊎◌, ⊎_elim, ℕ, zero, suc, ◌+◌, ◌&&◌, ◌||◌, not, Bool, true, false, true≢false, if◌then◌else◌, is_some, Option, Some, None, List, [], ◌∷◌, ◌++◌}
use Rattle.std.specs.Prelude.{unwrap_or}
use Rattle.std.specs.List.{list_all}
use Rattle.std.proofs.lemmas.Bool.{and_parts}
use Rattle.std.proofs.lemmas.Option.{same_Some}
use Rattle.sides.specs.declared.side.Side.{Side}
use Rattle.sides.specs.declared.side.Side.TheVariants.{A, B}
use Rattle.link_script.specs.Places.{same_side}
use Rattle.subflow_tcp.specs.declared.handshake.State.{State}
use Rattle.subflow_tcp.specs.declared.handshake.State.TheVariants as phase
use Rattle.subflow_tcp.specs.State.{EndState}
use Rattle.subflow_tcp.specs.States.{after_finish, is_dead, may_finish}
use Rattle.actor_desk.specs.declared.ask.Reply.{Reply}
use Rattle.actor_desk.specs.Words.{tail_of}
use Rattle.path_agenda.specs.Agenda.{emission, heard_and, payload_came, rest_of_turn, start_of_turn}
use Rattle.join_handshake.specs.declared.hearing.JoinSyn.{JoinSyn}
use Rattle.path_agenda.specs.declared.keys.KeyPair.{KeyPair}
use Rattle.path_agenda.specs.declared.duty.Duty.{Duty}
use Rattle.path_agenda.specs.declared.duty.Duty.TheVariants as duties
use Rattle.path_agenda.specs.declared.duty.AskDuty.TheVariants as ask_duties
use Rattle.path_agenda.specs.declared.duty.SendDuty.TheVariants as send_duties
use Rattle.path_agenda.specs.declared.duty.SilentDuty.TheVariants as silent_duties
use Rattle.path_agenda.specs.declared.duty.StepDuty.TheVariants as step_duties
use Rattle.path_core.specs.Codec.{Codec}
use Rattle.path_core.specs.DataFin.{having_sent_data_fin, having_sent_fin, is_all_granted, is_data_fin_due, is_fin_due}
use Rattle.path_core.specs.Duties.{answered, passed, stands}
use Rattle.path_core.specs.End.{PathEnd}
use Rattle.path_core.specs.Events.{next_event}
use Rattle.path_core.specs.Modes.{sends_plainly}
use Rattle.path_core.specs.MpJoin.{asked_at, join_taken, keys_begun}
use Rattle.path_core.specs.Sending.{Sending}
use Rattle.path_core.specs.State.{PathState, end_at, with_agenda}
use Rattle.path_core.specs.Timer.{with_timer_settled}
use Rattle.path_core.specs.declared.modes.Modes.{Modes}
use Rattle.world_laws.specs.Laws.{Always}
use Rattle.world_laws.specs.Writes.{EndView, end_view, nothing, side_of}
use Rattle.whole_paths.specs.AgendaSteps.{Follows, Happened, IsStill, event_side, hears_join, is_gone, is_silent, treats_copy}
use Rattle.whole_paths.specs.AgendaSteps.{Follows as follow}
use Rattle.whole_paths.specs.AgendaSteps.{Happened as happened}
use Rattle.whole_paths.specs.Ends.{EndsAreSent, OwesNoEnd}
use Rattle.whole_paths.proofs.Agendas.{answered_follows, own_end}
use Rattle.whole_paths.proofs.Settling.{IsAhead, IsSettledBy, behind, each_turn_ends, is_calm, is_kept, settles_in}

-- ---- an end

-- an end that may not finish owes none
closed_owes : (e : PathEnd) → may_finish e.tcp.state ≡ false → OwesNoEnd e
closed_owes e is = record { data_fin = shut (may_finish e.tcp.state) _ is; fin = shut (may_finish e.tcp.state) _ is }
  where
    shut : (a b : Bool) → a ≡ false → (a && b) ≡ false
    shut true b is = absurd (true≢false is)
    shut false b is = refl

dead_owes : (e : PathEnd) → is_gone e ≡ true → OwesNoEnd e
dead_owes e gone = closed_owes e (by e.tcp.state gone)
  where
    by : (t : State) → is_dead t ≡ true → may_finish t ≡ false
    by phase.Dead is = refl
    by _ is = absurd (true≢false (sym is))

still_owes : (e f : PathEnd) → IsStill e f → OwesNoEnd e → OwesNoEnd f
still_owes e f still h = by f.tcp f.sending f.modes still.tcp still.sending still.modes
  where
    by : (t : EndState) (v : Sending) (m : Modes) → t ≡ e.tcp → v ≡ e.sending → m ≡ e.modes → OwesNoEnd (record f { tcp = t; sending = v; modes = m })
    by t v m tcp sending modes = record { data_fin = rw (tcp, sending, modes) h.data_fin; fin = rw (tcp, sending, modes) h.fin }

-- as a view shows it that hides nothing
abbrev data_fin_seen : EndView → Bool
data_fin_seen v =
    may_finish (unwrap_or v.phase phase.Dead)
    && (not (unwrap_or v.identity false || is_some (unwrap_or v.own_infinite None)) && (unwrap_or v.clear false
    && (is_some (unwrap_or v.known_end None) && (not (unwrap_or v.fin_sent false) && not (unwrap_or v.own_acked false)))))

abbrev plain_seen : EndView → Bool
plain_seen v = unwrap_or v.identity false || is_some (unwrap_or v.own_infinite None)

all_granted : (o : Option ℕ) (v w : Sending) → v.granted ≡ w.granted → v.heard ≡ w.heard → is_all_granted o v ≡ is_all_granted o w
all_granted None v w granted heard = refl
all_granted (Some end) v w granted heard = rw (granted, heard) refl

seen_owes : (e f : PathEnd) → end_view nothing f ≡ end_view nothing e → OwesNoEnd e → OwesNoEnd f
seen_owes e f same h = record {
  data_fin = ap data_fin_seen same ∙ h.data_fin;
  fin = by f.tcp.state (sends_plainly f.modes) (is_all_granted f.sending.known_end f.sending) f.sending.close.own_acked f.sending.close.peer_came
      (same_Some f.tcp.state e.tcp.state (ap (λ (v : EndView). v.phase) same))
      (ap plain_seen same)
      (all_granted f.sending.known_end f.sending e.sending
      (same_Some f.sending.granted e.sending.granted (ap (λ (v : EndView). v.granted) same))
      (same_Some f.sending.heard e.sending.heard (ap (λ (v : EndView). v.heard) same))
      ∙ ap (λ o. is_all_granted o e.sending) (same_Some f.sending.known_end e.sending.known_end (ap (λ (v : EndView). v.known_end) same)))
      (same_Some f.sending.close.own_acked e.sending.close.own_acked (ap (λ (v : EndView). v.own_acked) same))
      (same_Some f.sending.close.peer_came e.sending.close.peer_came (ap (λ (v : EndView). v.peer_came) same));
}
  where
    by : (t : State) (plain all acked came : Bool) → t ≡ e.tcp.state → plain ≡ sends_plainly e.modes → all ≡ is_all_granted e.sending.known_end e.sending → acked ≡ e.sending.close.own_acked
        → came ≡ e.sending.close.peer_came → (may_finish t && (if plain then all else (acked && came))) ≡ false
    by t plain all acked came one two three four five = rw (one, two, three, four, five) h.fin

timer_owes : (now : ℕ) (e : PathEnd) → OwesNoEnd e → OwesNoEnd (with_timer_settled now e)
timer_owes now e h = record {
  data_fin = h.data_fin;
  fin = subst (λ all. (may_finish e.tcp.state && (if sends_plainly e.modes then all else (e.sending.close.own_acked && e.sending.close.peer_came))) ≡ false)
      (sym (all_granted e.sending.known_end (with_timer_settled now e).sending e.sending refl refl)) h.fin;
}

settles_ends : IsSettledBy OwesNoEnd OwesNoEnd
settles_ends = record { seen = seen_owes; still = still_owes; gone = dead_owes; timer = timer_owes }

-- ---- agendas

-- a DATA_FIN of this side, or the settling of its timer
abbrev is_ending : Side → Duty → Bool
is_ending s (duties.Send (send_duties.DataFin t)) = same_side t s
is_ending s (duties.Silent (silent_duties.Timer t)) = same_side t s
is_ending s _ = false

abbrev sends_end : Side → Duty
sends_end s = duties.Send (send_duties.DataFin s)

abbrev sends_fin : Side → Duty
sends_fin s = duties.Send (send_duties.Fin s)

abbrev settles_timer : Side → Duty
settles_timer s = duties.Silent (silent_duties.Timer s)

-- right before the last settling of this side's timer its DATA_FIN and its FIN stand
data Good (s : Side) : List Duty → Type 0 where
  none : (xs : List Duty) → xs ≡ [] → Good s xs
  ends : (xs ds : List Duty) → xs ≡ sends_end s ∷ sends_fin s ∷ settles_timer s ∷ ds → Good s ds → Good s xs
  late : (xs ds : List Duty) → xs ≡ settles_timer s ∷ ds → settles_in s ds ≡ true → Good s ds → Good s xs
  other : (xs : List Duty) (d : Duty) (ds : List Duty) → xs ≡ d ∷ ds → is_ending s d ≡ false → Good s ds → Good s xs

front_good : (s : Side) (xs ds : List Duty) → list_all (λ d. not (is_ending s d)) xs ≡ true → Good s ds → Good s (xs ++ ds)
front_good s [] ds all h = h
front_good s (x ∷ xs) ds all h =
    let parts = and_parts (not (is_ending s x)) (list_all (λ d. not (is_ending s d)) xs) all in
    other (x ∷ (xs ++ ds)) x (xs ++ ds) refl (isnt (is_ending s x) parts.0) (front_good s xs ds parts.1 h)
  where
    isnt : (b : Bool) → not b ≡ true → b ≡ false
    isnt true is = absurd (true≢false (sym is))
    isnt false is = refl

rest_good : (s : Side) → Good s rest_of_turn
rest_good s = front_good s rest_of_turn [] refl (none [] refl)

abbrev sent_before : Side → List Duty
sent_before t = duties.Send (send_duties.Syn t) ∷ duties.Send (send_duties.FastClose t) ∷ duties.Send (send_duties.Notice t) ∷ duties.Step (step_duties.Data t) ∷ []

-- what an end sends, and then these
sent_good : (s t : Side) (ds : List Duty) → Good s ds → Good s (sent_before t ++ sends_end t ∷ sends_fin t ∷ settles_timer t ∷ ds)
sent_good A A ds h = front_good A (sent_before A) _ refl (ends _ ds refl h)
sent_good B B ds h = front_good B (sent_before B) _ refl (ends _ ds refl h)
sent_good A B ds h = front_good A (sent_before B) _ refl (front_good A (sends_end B ∷ sends_fin B ∷ settles_timer B ∷ []) ds refl h)
sent_good B A ds h = front_good B (sent_before A) _ refl (front_good B (sends_end A ∷ sends_fin A ∷ settles_timer A ∷ []) ds refl h)

emission_good : (s t : Side) → Good s (emission t)
emission_good s t = sent_good s t rest_of_turn (rest_good s)

payload_good : (s t : Side) → Good s (payload_came t)
payload_good s t = front_good s (
    duties.Step (step_duties.PlainAck t) ∷ duties.Ask (ask_duties.SubflowAck t) ∷ duties.Ask (ask_duties.PlainData t)
    ∷ duties.Silent (silent_duties.Keep t) ∷ duties.Ask (ask_duties.Edge t) ∷ duties.Ask (ask_duties.CheckFailed t)
    ∷ duties.Step (step_duties.Unmapped t)
    ∷ duties.Ask (ask_duties.HeardFin t 0) ∷ duties.Ask (ask_duties.HeardFin t 1) ∷ duties.Ask (ask_duties.HeardFin t 2)
    ∷ duties.Silent (silent_duties.PassFin t) ∷ duties.Ask (ask_duties.SubflowFin t) ∷ duties.Ask (ask_duties.AckOut t)
    ∷ duties.Ask (ask_duties.Rate t) ∷ duties.Send (send_duties.Acknowledge t) ∷ duties.Send (send_duties.Again t) ∷ []) (emission t) refl (emission_good s t)

heard_good : (s t : Side) (from count : ℕ) (ds : List Duty) → Good s ds → Good s (heard_and t from count ds)
heard_good s t from zero ds h = h
heard_good s t from (suc count) ds h = front_good s (duties.Step (step_duties.Heard t from) ∷ []) _ refl (heard_good s t (from + 1) count ds h)

begins_good : (s : Side) → Good s start_of_turn
begins_good s = front_good s (
    duties.Ask ask_duties.JoinAgain ∷ duties.Step (step_duties.Look A) ∷ duties.Step (step_duties.Look B)
    ∷ duties.Ask (ask_duties.Window A) ∷ duties.Send (send_duties.Update A)
    ∷ duties.Ask (ask_duties.Window B) ∷ duties.Send (send_duties.Update B) ∷ duties.Ask (ask_duties.LeaveNoted A) ∷ duties.Send (send_duties.ResetNoted A) ∷ []) _ refl
    (sent_good s A _ (front_good s (duties.Ask (ask_duties.LeaveNoted B) ∷ duties.Send (send_duties.ResetNoted B) ∷ []) (emission B) refl (emission_good s B)))

died_good : (s : Side) (a b : Bool) → Good s ((if a then [] else duties.Ask (ask_duties.Leave A) ∷ []) ++ ((if b then [] else duties.Ask (ask_duties.Leave B) ∷ []) ++ rest_of_turn))
died_good s true true = rest_good s
died_good s true false = front_good s (duties.Ask (ask_duties.Leave B) ∷ []) rest_of_turn refl (rest_good s)
died_good s false true = front_good s (duties.Ask (ask_duties.Leave A) ∷ []) rest_of_turn refl (rest_good s)
died_good s false false = front_good s (duties.Ask (ask_duties.Leave A) ∷ duties.Ask (ask_duties.Leave B) ∷ []) rest_of_turn refl (rest_good s)

-- after an event
happened_good : (s t : Side) (e f : PathEnd) (ds : List Duty) → Happened t e f ds → Good s ds
happened_good s t e f ds (happened.nothing still) = rest_good s
happened_good s t e f ds happened.sent = emission_good s t
happened_good s t e f ds happened.syn =
    front_good s (duties.Ask (ask_duties.SynHeard t) ∷ duties.Ask (ask_duties.PlainHandshake t) ∷ duties.Send (send_duties.SynAck t) ∷ []) (emission t) refl (emission_good s t)
happened_good s t e f ds happened.syn_ack =
    front_good s (duties.Ask (ask_duties.SynAnswered t) ∷ duties.Ask (ask_duties.PeerKey t) ∷ duties.Ask (ask_duties.Live t) ∷ duties.Send (send_duties.Acknowledge t) ∷ []) (emission t) refl (emission_good s t)
happened_good s t e f ds happened.join = front_good s (duties.Ask (ask_duties.JoinHeard t) ∷ []) (emission t) refl (emission_good s t)
happened_good s t e f ds happened.no_join = front_good s (duties.Send (send_duties.Refuse t) ∷ []) (emission t) refl (emission_good s t)
happened_good s t e f ds happened.join_answer =
    front_good s (duties.Ask (ask_duties.Live t) ∷ duties.Send (send_duties.Acknowledge t) ∷ []) (emission t) refl (emission_good s t)
happened_good s t e f ds (happened.copy count) =
    front_good s (duties.Ask (ask_duties.Opened t) ∷ duties.Ask (ask_duties.Live t) ∷ []) (heard_and t 0 count (payload_came t)) refl (heard_good s t 0 count (payload_came t) (payload_good s t))
happened_good s t e f ds happened.syn_once_more = front_good s (duties.Send (send_duties.SynAck t) ∷ []) (emission t) refl (emission_good s t)
happened_good s t e f ds happened.answered = front_good s (duties.Send (send_duties.Answer t) ∷ []) (emission t) refl (emission_good s t)
happened_good s t e f ds (happened.answered_dead still) = front_good s (duties.Send (send_duties.ResetAnswer t) ∷ []) rest_of_turn refl (rest_good s)
happened_good s t e f ds happened.timed_out = front_good s (duties.Ask (ask_duties.Return t) ∷ duties.Send (send_duties.Resend t) ∷ []) (emission t) refl (emission_good s t)
happened_good s t e f ds happened.timed_out_for_ever = front_good s (duties.Send (send_duties.Reset t) ∷ []) rest_of_turn refl (rest_good s)
happened_good s t e f ds (happened.announced id) = front_good s (duties.Ask (ask_duties.Announce t id) ∷ []) (emission t) refl (emission_good s t)
happened_good s t e f ds (happened.withdrawn id) = front_good s (duties.Ask (ask_duties.Withdraw t id) ∷ []) (emission t) refl (emission_good s t)
happened_good s t e f ds (happened.dead gone) = front_good s (duties.Ask (ask_duties.Leave t) ∷ []) rest_of_turn refl (rest_good s)
happened_good s t e f ds (happened.both_dead gone a b) = died_good s (is_dead a.tcp.state) (is_dead b.tcp.state)
happened_good s t e f ds (happened.is_reset reason) = front_good s (duties.Send (send_duties.BreakReset t reason) ∷ []) rest_of_turn refl (rest_good s)

same_is : (s t : Side) → same_side t s ≡ true → t ≡ s
same_is A A is = refl
same_is B B is = refl
same_is A B is = absurd (true≢false (sym is))
same_is B A is = absurd (true≢false (sym is))

treats_own : (d : Duty) → treats_copy d ≡ true → is_calm d ≡ false
treats_own (duties.Silent (silent_duties.Timer t)) is = absurd (true≢false (sym is))
treats_own (duties.Ask (ask_duties.BreakAck t reason)) is = absurd (true≢false (sym is))
treats_own (duties.Send (send_duties.BreakReset t reason)) is = absurd (true≢false (sym is))
treats_own (duties.Send (send_duties.Reset t)) is = absurd (true≢false (sym is))
treats_own (duties.Ask (ask_duties.Leave t)) is = absurd (true≢false (sym is))
treats_own (duties.Ask (ask_duties.Dead t)) is = absurd (true≢false (sym is))
treats_own (duties.Send (send_duties.ResetAnswer t)) is = absurd (true≢false (sym is))
treats_own (duties.Step step_duties.Events) is = absurd (true≢false (sym is))
treats_own duties.End is = absurd (true≢false (sym is))
treats_own _ is = refl

-- a duty that is told in the place of one that treats a copy
told_good : (s : Side) (d e : Duty) (ds : List Duty) → treats_copy d ≡ true → side_of e ≡ side_of d → is_silent e ≡ true → is_kept s (d ∷ ds) ≡ true → Good s ds → Good s (e ∷ ds)
told_good s d (duties.Silent (silent_duties.Timer t)) ds treats side silent kept h = by (same_side t s) refl
  where
    by : (b : Bool) → same_side t s ≡ b → Good s (duties.Silent (silent_duties.Timer t) ∷ ds)
    by true is =
        late _ ds (ap (λ x. duties.Silent (silent_duties.Timer x) ∷ ds) (same_is s t is))
        (behind s d ds kept (treats_own d treats) (subst (λ x. same_side x s ≡ true) side is)) h
    by false is = other _ _ ds refl is h
told_good s d (duties.Send (send_duties.DataFin t)) ds treats side silent kept h = absurd (true≢false (sym silent))
told_good s d e ds treats side silent kept h = front_good s (e ∷ []) ds refl h

-- what follows a duty of a side
follows_good : (s t : Side) (gone : Bool) (d : Duty) (ds next : List Duty) → side_of d ≡ t → hears_join d ≡ false → is_ending s d ≡ false → is_kept s (d ∷ ds) ≡ true → Good s ds
    → Follows t gone d ds next → Good s next
follows_good s t gone d ds next own joins plain kept h follow.goes_on = h
follows_good s t gone d ds next own joins plain kept h follow.again = other _ d ds refl plain h
follows_good s t gone d ds next own joins plain kept h (follow.told treats e side one is silent) =
    told_good s d e ds treats (side ∙ sym own) (⊎_elim (λ is. is) (λ hears. absurd (true≢false (sym hears ∙ joins))) silent) kept h
follows_good s t gone d ds next own joins plain kept h (follow.left dead) = front_good s (duties.Ask (ask_duties.Leave t) ∷ []) ds refl h
follows_good s t gone d ds next own joins plain kept h follow.noted = front_good s (duties.Ask (ask_duties.Dead t) ∷ []) ds refl h
follows_good s t gone d ds next own joins plain kept h (follow.broken may reason) = front_good s (duties.Ask (ask_duties.BreakAck t reason) ∷ []) rest_of_turn refl (rest_good s)
follows_good s t gone d ds next own joins plain kept h (follow.is_reset may reason) = front_good s (duties.Send (send_duties.BreakReset t reason) ∷ []) rest_of_turn refl (rest_good s)
follows_good s t gone d ds next own joins plain kept h (follow.dead may dead) = front_good s (duties.Ask (ask_duties.Leave t) ∷ []) rest_of_turn refl (rest_good s)
follows_good s t gone d ds next own joins plain kept h (follow.stopped may) =
    front_good s (duties.Ask (ask_duties.AbortSend t) ∷ duties.Ask (ask_duties.AbortReceive t) ∷ duties.Send (send_duties.Reset t) ∷ []) rest_of_turn refl (rest_good s)
follows_good s t gone d ds next own joins plain kept h (follow.over both) = none [] refl

itself_is : (s : Side) → same_side s s ≡ true
itself_is A = refl
itself_is B = refl

-- the first duty of a list that isn't empty
abbrev first_of : List Duty → Duty
first_of [] = duties.End
first_of (d ∷ ds) = d

finished : (t : State) → may_finish (after_finish t) ≡ false
finished phase.Established = refl
finished phase.CloseWait = refl
finished phase.Waiting = refl
finished phase.Listen = refl
finished phase.SynSent = refl
finished phase.SynReceived = refl
finished phase.FinWait1 = refl
finished phase.FinWait2 = refl
finished phase.Closing = refl
finished phase.LastAck = refl
finished phase.TimeWait = refl
finished phase.Dead = refl

never_again : (a b c d : Bool) → (a && (b && (c && (d && false)))) ≡ false
never_again true true true true = refl
never_again true true true false = refl
never_again true true false d = refl
never_again true false c d = refl
never_again false b c d = refl

abbrev first_ending : Side → List Duty → Bool
first_ending s [] = true
first_ending s (d ∷ ds) = is_ending s d

-- ---- a path

module _ {C : Type 0} where
  -- by what is to be done: neither was looked at in this stretch; the DATA_FIN isn't due; neither is
  data Front (s : Side) (xs : List Duty) (p : PathState C) : Type 0 where
    before : Good s xs → Front s xs p
    at_fin : (ds : List Duty) → xs ≡ sends_fin s ∷ settles_timer s ∷ ds → Good s ds → is_data_fin_due (end_at s p) ≡ false → Front s xs p
    at_timer : (ds : List Duty) → xs ≡ settles_timer s ∷ ds → Good s ds → OwesNoEnd (end_at s p) → Front s xs p

  end_stays : (s : Side) (ds : List Duty) (p : PathState C) → end_at s (with_agenda ds p) ≡ end_at s p
  end_stays A ds p = refl
  end_stays B ds p = refl

  front_stays : (s : Side) (ds : List Duty) (p : PathState C) → Front s ds p → Front s ds (with_agenda ds p)
  front_stays s ds p (before h) = before h
  front_stays s ds p (at_fin es is h due) = at_fin es is h (ap is_data_fin_due (end_stays s ds p) ∙ due)
  front_stays s ds p (at_timer es is h owes) = at_timer es is h (subst OwesNoEnd (sym (end_stays s ds p)) owes)

  timer_front : (s : Side) (ds : List Duty) (p : PathState C) → Front s (settles_timer s ∷ ds) p → (settles_in s ds ≡ true) ⊎ OwesNoEnd (end_at s p)
  timer_front s ds p (at_fin es is h due) = cc
  timer_front s ds p (at_timer es is h owes) = inr owes
  timer_front s ds p (before h) = by (settles_timer s ∷ ds) h refl
    where
      by : (xs : List Duty) → Good s xs → xs ≡ settles_timer s ∷ ds → (settles_in s ds ≡ true) ⊎ OwesNoEnd (end_at s p)
      by xs (none _ is) same = cc
      by xs (ends _ es is g) same = cc
      by xs (late _ es is later g) same = inl (subst (λ (ys : List Duty). settles_in s (tail_of ys) ≡ true) (sym is ∙ same) later)
      by xs (other _ d es is plain g) same =
          absurd (true≢false (sym (itself_is s) ∙ subst (λ (ys : List Duty). first_ending s ys ≡ false) (sym is ∙ same) plain))

  front_passes : (s : Side) (d : Duty) (ds : List Duty) (p : PathState C) → stands d p ≡ false → Front s (d ∷ ds) p → Front s ds (passed d p)
  front_passes s d ds p idle (at_fin es is h due) =
      let d_is : d ≡ sends_fin s = ap first_of is in
      let ds_is : ds ≡ settles_timer s ∷ es = ap tail_of is in
      let fin : is_fin_due (end_at s p) ≡ false = subst (λ e. stands e p ≡ false) d_is idle in
      subst (λ e. Front s ds (passed e p)) (sym d_is) (at_timer es ds_is h (record { data_fin = due; fin = fin }))
  front_passes s d ds p idle (at_timer es is h owes) = let ds_is : ds ≡ es = ap tail_of is in before (subst (Good s) (sym ds_is) h)
  front_passes s d ds p idle (before h) = by (d ∷ ds) h refl
    where
      by : (xs : List Duty) → Good s xs → xs ≡ d ∷ ds → Front s ds (passed d p)
      by xs (none _ is) same = cc
      by xs (ends _ es is g) same =
          let d_is : d ≡ sends_end s = ap first_of (sym same ∙ is) in
          let ds_is : ds ≡ sends_fin s ∷ settles_timer s ∷ es = ap tail_of (sym same ∙ is) in
          subst (λ e. Front s ds (passed e p)) (sym d_is) (at_fin es ds_is g (subst (λ e. stands e p ≡ false) d_is idle))
      by xs (late _ es is later g) same = let ds_is : ds ≡ es = ap tail_of (sym same ∙ is) in before (subst (Good s) (sym ds_is) g)
      by xs (other _ e es is plain g) same = let ds_is : ds ≡ es = ap tail_of (sym same ∙ is) in before (subst (Good s) (sym ds_is) g)

  -- ---- answers

  fin_owes : (s : Side) (p : PathState C) → OwesNoEnd (having_sent_fin s p)
  fin_owes s p = closed_owes (having_sent_fin s p) (finished (end_at s p).tcp.state)

  data_fin_owes : (s : Side) (p : PathState C) → is_data_fin_due (having_sent_data_fin s p) ≡ false
  data_fin_owes s p = let e = having_sent_data_fin s p in never_again (may_finish e.tcp.state) (not (sends_plainly e.modes)) e.modes.clear (is_some e.sending.known_end)

  module _ (k : Codec C) (s : Side) (ds : List Duty) (r : Reply) (p : PathState C) where
    abbrev Next : Duty → Type 0
    Next d = let q = answered k d r (with_agenda (d ∷ ds) p) in Front s q.agenda q

    next_join : (t : Side) (keys : Option KeyPair) (asked : Option JoinSyn) → Good s ds
        → let q = join_taken t keys asked r (with_agenda (duties.Ask (ask_duties.JoinHeard t) ∷ ds) p) in Front s q.agenda q
    next_join t (Some keys) (Some asked) h = before (front_good s (duties.Send (send_duties.SynAck t) ∷ []) ds refl h)
    next_join t None (Some asked) h = before (front_good s (duties.Send (send_duties.Refuse t) ∷ []) ds refl h)
    next_join t (Some keys) None h = before (front_good s (duties.Send (send_duties.Refuse t) ∷ []) ds refl h)
    next_join t None None h = before (front_good s (duties.Send (send_duties.Refuse t) ∷ []) ds refl h)

    next_other : (d : Duty) → is_kept s (d ∷ ds) ≡ true → is_ending s d ≡ false → Good s ds → Next d
    next_other (duties.Step step_duties.Events) kept plain h = before (happened_good s (event_side (next_event p)) _ _ _ (answered_follows k (duties.Step step_duties.Events) ds r p).0)
    next_other (duties.Ask (ask_duties.JoinHeard t)) kept plain h = next_join t (keys_begun r) (asked_at t p) h
    next_other d kept plain h = before (follows_good s (side_of d) _ d ds _ refl refl plain kept h (answered_follows k d ds r p))

    next_fin : (es : List Duty) → ds ≡ settles_timer s ∷ es → Good s es → Next (sends_fin s)
    next_fin es is h =
        let x : PathState C = with_agenda (sends_fin s ∷ ds) p in
        at_timer es is h (subst OwesNoEnd (sym (own_end s (having_sent_fin s x) p.a p.b)) (fin_owes s x))

    next_data_fin : (es : List Duty) → ds ≡ sends_fin s ∷ settles_timer s ∷ es → Good s es → Next (sends_end s)
    next_data_fin es is h =
        let x : PathState C = with_agenda (sends_end s ∷ ds) p in
        at_fin es is h (ap is_data_fin_due (own_end s (having_sent_data_fin s x) p.a p.b) ∙ data_fin_owes s x)

    next_timer : Good s ds → Next (settles_timer s)
    next_timer h = before h

    front_next : (d : Duty) → is_kept s (d ∷ ds) ≡ true → Front s (d ∷ ds) (with_agenda (d ∷ ds) p) → Next d
    front_next d kept (at_fin es is h due) = let d_is : d ≡ sends_fin s = ap first_of is in subst Next (sym d_is) (next_fin es (ap tail_of is) h)
    front_next d kept (at_timer es is h owes) =
        let d_is : d ≡ settles_timer s = ap first_of is in let ds_is : ds ≡ es = ap tail_of is in subst Next (sym d_is) (next_timer (subst (Good s) (sym ds_is) h))
    front_next d kept (before h) = by (d ∷ ds) h refl
      where
        by : (xs : List Duty) → Good s xs → xs ≡ d ∷ ds → Next d
        by xs (none _ is) same = cc
        by xs (ends _ es is g) same = let d_is : d ≡ sends_end s = ap first_of (sym same ∙ is) in subst Next (sym d_is) (next_data_fin es (ap tail_of (sym same ∙ is)) g)
        by xs (late _ es is later g) same =
            let d_is : d ≡ settles_timer s = ap first_of (sym same ∙ is) in let ds_is : ds ≡ es = ap tail_of (sym same ∙ is) in
            subst Next (sym d_is) (next_timer (subst (Good s) (sym ds_is) g))
        by xs (other _ e es is plain g) same =
            let d_is : d ≡ e = ap first_of (sym same ∙ is) in let ds_is : ds ≡ es = ap tail_of (sym same ∙ is) in
            next_other d kept (subst (λ y. is_ending s y ≡ false) (sym d_is) plain) (subst (Good s) (sym ds_is) g)

  ahead_of_timers : IsAhead {C = C} OwesNoEnd (λ s ds p. Front s ds p)
  ahead_of_timers = record {
    timer = timer_front;
    passes = front_passes;
    stays = front_stays;
    answers = λ k s d ds r p kept f. front_next k s ds r p d kept f;
    begins = λ s p. before (begins_good s);
  }

  pub ends_are_sent : (k : Codec C) → Always k (λ start w. EndsAreSent w)
  ends_are_sent k start turns = record {
    each = λ actor c there. each_turn_ends OwesNoEnd OwesNoEnd settles_ends (λ s ds p. Front s ds p) ahead_of_timers k start turns actor c there;
  }
