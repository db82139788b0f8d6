-- What is to be done on a path of duties that an event alone brings: none comes by any other duty.
use Rattle.std.proofs.Common.{◌≡◌, refl, sym, ap, ℕ, not, Bool, true, false, if◌then◌else◌, Option, Some, None, List, [], ◌∷◌}
use Rattle.std.specs.List.{list_all}
use Rattle.std.proofs.lemmas.Bool.{and_from, and_parts, false≢true, not-true}
use Rattle.actor_desk.specs.declared.ask.Reply.{Reply}
use Rattle.join_handshake.specs.declared.hearing.JoinSyn.{JoinSyn}
use Rattle.path_agenda.specs.Agenda.{breaks, leaves, resets, stops}
use Rattle.path_agenda.specs.Items.{key_heard, keys_heard}
use Rattle.path_agenda.specs.Words.{replaced}
use Rattle.actor_desk.specs.Words.{tail_of}
use Rattle.path_agenda.specs.declared.duty.AskDuty.{AskDuty}
use Rattle.path_agenda.specs.declared.duty.Duty.{Duty}
use Rattle.path_agenda.specs.declared.duty.SendDuty.{SendDuty}
use Rattle.path_agenda.specs.declared.duty.StepDuty.{StepDuty}
use Rattle.path_agenda.specs.declared.heard.Heard.{Heard}
use Rattle.path_agenda.specs.declared.keys.KeyPair.{KeyPair}
use Rattle.path_core.specs.Breaking.{answered_break}
use Rattle.path_core.specs.Deliver.{answered_piece, is_placed, piece_of}
use Rattle.path_core.specs.DataFin.{answered_fin_heard, answered_plain_fin, is_fin_set}
use Rattle.path_core.specs.DssIn.{is_clash}
use Rattle.path_core.specs.Duties.{answered, passed, stands}
use Rattle.path_core.specs.Emission.{Grant, answered_data, answered_grant, first_unsent, grant_in}
use Rattle.path_core.specs.Fallback.{breaks_by_ack, fell_duties}
use Rattle.path_core.specs.MpCapable.{answered_opened, answered_peer_key}
use Rattle.path_core.specs.MpJoin.{asked_at, is_never, join_taken, keys_begun}
use Rattle.path_core.specs.State.{PathState, end_at, left, with_agenda}
use Rattle.path_core.specs.Steps.{settled}
use Rattle.path_core.specs.Treating.{answered_heard, answered_item, item_of}
use Rattle.path_core.specs.Values.{Carried, values}
use Rattle.path_store.specs.Passing.{Piece}
use Rattle.sides.specs.declared.side.Side.TheVariants.{A, B}
use Rattle.sides.specs.declared.side.Side.{Side}
use Rattle.subflow_send.specs.Records.{Record}
use Rattle.world_laws.proofs.Falls.FailedChecks.{fail_answered_so}
use Rattle.world_laws.proofs.Falls.Verdicts.{fell_cases}

-- an event is taken
abbrev pub is_events : StepDuty → Bool
is_events StepDuty.Events = true
is_events _ = false

-- these come by an event alone, or by the answer to a SYN that asks to join
abbrev pub is_rare : Duty → Bool
is_rare (Duty.Ask (AskDuty.SynAnswered s)) = true
is_rare (Duty.Ask (AskDuty.PeerKey s)) = true
is_rare (Duty.Ask (AskDuty.Live s)) = true
is_rare (Duty.Ask (AskDuty.Return s)) = true
is_rare (Duty.Ask (AskDuty.JoinHeard s)) = true
is_rare (Duty.Step (StepDuty.Heard s index)) = true
is_rare (Duty.Send (SendDuty.Acknowledge s)) = true
is_rare (Duty.Send (SendDuty.Resend s)) = true
is_rare (Duty.Send (SendDuty.SynAck s)) = true
is_rare (Duty.Send (SendDuty.Refuse s)) = true
is_rare (Duty.Send (SendDuty.Answer s)) = true
is_rare (Duty.Send (SendDuty.ResetAnswer s)) = true
is_rare _ = false

-- whatever isn't an event
abbrev pub IsNoEvent : Duty → Type 0
IsNoEvent (Duty.Step d) = is_events d ≡ false
IsNoEvent _ = Unit {0}

-- without some of them
module _ (m : Duty → Bool) (rare : (x : Duty) → is_rare x ≡ false → m x ≡ false) where
  abbrev pub is_free : List Duty → Bool
  is_free ds = list_all (λ d. not (m d)) ds

  -- and without those of the answer to a join, where that is next
  abbrev pub JoinsNone : Duty → Type 0
  JoinsNone (Duty.Ask (AskDuty.JoinHeard s)) = (m (Duty.Send (SendDuty.SynAck s)) ≡ false) × (m (Duty.Send (SendDuty.Refuse s)) ≡ false)
  JoinsNone _ = Unit {0}

  pub joins_none : ((s : Side) → (m (Duty.Send (SendDuty.SynAck s)) ≡ false) × (m (Duty.Send (SendDuty.Refuse s)) ≡ false)) → (d : Duty) → JoinsNone d
  joins_none none (Duty.Ask (AskDuty.JoinHeard s)) = none s
  joins_none none _ = tt

  pub all_free : (ds : List Duty) → list_all (λ d. not (is_rare d)) ds ≡ true → is_free ds ≡ true
  all_free [] is = refl
  all_free (d ∷ ds) is =
      let both = and_parts (not (is_rare d)) (list_all (λ d. not (is_rare d)) ds) is in
      and_from (not (m d)) (is_free ds) (ap not (rare d (not-true (is_rare d) both.0))) (all_free ds both.1)

  tail_free : (ds : List Duty) → is_free ds ≡ true → is_free (tail_of ds) ≡ true
  tail_free [] h = h
  tail_free (d ∷ ds) h = (and_parts (not (m d)) (is_free ds) h).1

  put_free : (x : Duty) (ds : List Duty) → m x ≡ false → is_free ds ≡ true → is_free (replaced x ds) ≡ true
  put_free x [] none h = h
  put_free x (d ∷ ds) none h = and_from (not (m x)) (is_free ds) (ap not none) (and_parts (not (m d)) (is_free ds) h).1

  module _ (p : PathState Carried) (h : is_free p.agenda ≡ true) where
    pub left_free : is_free (left p) ≡ true
    left_free = tail_free p.agenda h

    pub leaves_free : (s : Side) → is_free (leaves s) ≡ true
    leaves_free A = all_free (leaves A) refl
    leaves_free B = all_free (leaves B) refl

    pub resets_free : (s : Side) (reason : ℕ) → is_free (resets s reason) ≡ true
    resets_free A reason = all_free (resets A reason) refl
    resets_free B reason = all_free (resets B reason) refl

    breaks_free : (s : Side) (reason : ℕ) → is_free (breaks s reason) ≡ true
    breaks_free A reason = all_free (breaks A reason) refl
    breaks_free B reason = all_free (breaks B reason) refl

    stops_free : (s : Side) → is_free (stops s) ≡ true
    stops_free A = all_free (stops A) refl
    stops_free B = all_free (stops B) refl

    identity_free : (s : Side) → is_free (replaced (Duty.Ask (AskDuty.GoIdentity s)) p.agenda) ≡ true
    identity_free A = put_free (Duty.Ask (AskDuty.GoIdentity A)) p.agenda (rare (Duty.Ask (AskDuty.GoIdentity A)) refl) h
    identity_free B = put_free (Duty.Ask (AskDuty.GoIdentity B)) p.agenda (rare (Duty.Ask (AskDuty.GoIdentity B)) refl) h

    pub fell_free : (s : Side) (r : Reply) → is_free (fell_duties s r p) ≡ true
    fell_free s r = fell_cases (λ ds. is_free ds ≡ true) s p r (λ fell. identity_free s) (λ reason. breaks_free s reason) (λ reason. resets_free s reason) left_free

    if_free : (b : Bool) (q r : PathState Carried) → is_free q.agenda ≡ true → is_free r.agenda ≡ true → is_free (if b then q else r).agenda ≡ true
    if_free true q r x y = x
    if_free false q r x y = y

    pub dead_free : (s : Side) → is_free (replaced (Duty.Ask (AskDuty.Dead s)) p.agenda) ≡ true
    dead_free A = put_free (Duty.Ask (AskDuty.Dead A)) p.agenda (rare (Duty.Ask (AskDuty.Dead A)) refl) h
    dead_free B = put_free (Duty.Ask (AskDuty.Dead B)) p.agenda (rare (Duty.Ask (AskDuty.Dead B)) refl) h

    pub leave_free : (s : Side) → is_free (replaced (Duty.Ask (AskDuty.Leave s)) p.agenda) ≡ true
    leave_free A = put_free (Duty.Ask (AskDuty.Leave A)) p.agenda (rare (Duty.Ask (AskDuty.Leave A)) refl) h
    leave_free B = put_free (Duty.Ask (AskDuty.Leave B)) p.agenda (rare (Duty.Ask (AskDuty.Leave B)) refl) h

    pub refuse_free : (s : Side) → m (Duty.Send (SendDuty.Refuse s)) ≡ false → is_free (replaced (Duty.Send (SendDuty.Refuse s)) p.agenda) ≡ true
    refuse_free s none = put_free (Duty.Send (SendDuty.Refuse s)) p.agenda none h

    pub answer_free : (s : Side) → m (Duty.Send (SendDuty.SynAck s)) ≡ false → is_free (replaced (Duty.Send (SendDuty.SynAck s)) p.agenda) ≡ true
    answer_free s none = put_free (Duty.Send (SendDuty.SynAck s)) p.agenda none h

    pub break_free : (s : Side) (reason : ℕ) (r : Reply) → is_free (answered_break values s reason r p).agenda ≡ true
    break_free s reason r = if_free (end_at s p).treated.asked _ _ (resets_free s reason) (leaves_free s)

    grant_free : (s : Side) (o : Option Grant) (r : Reply) → is_free (answered_grant s o r p).agenda ≡ true
    grant_free s None r = left_free
    grant_free s (Some grant) r = h

    pub data_free : (s : Side) (o : Option Record) (r : Reply) → is_free (answered_data values s o r p).agenda ≡ true
    data_free s (Some unsent) r = h
    data_free s None r = grant_free s (grant_in r) r

    pub told_free : (s : Side) (acked : Bool) → is_free (if acked then replaced (Duty.Ask (AskDuty.AckHeard s)) p.agenda else left p) ≡ true
    told_free A true = put_free (Duty.Ask (AskDuty.AckHeard A)) p.agenda (rare (Duty.Ask (AskDuty.AckHeard A)) refl) h
    told_free B true = put_free (Duty.Ask (AskDuty.AckHeard B)) p.agenda (rare (Duty.Ask (AskDuty.AckHeard B)) refl) h
    told_free s false = left_free

    pub failing_free : (s : Side) → is_free (replaced (Duty.Ask (AskDuty.FailHeard s)) p.agenda) ≡ true
    failing_free A = put_free (Duty.Ask (AskDuty.FailHeard A)) p.agenda (rare (Duty.Ask (AskDuty.FailHeard A)) refl) h
    failing_free B = put_free (Duty.Ask (AskDuty.FailHeard B)) p.agenda (rare (Duty.Ask (AskDuty.FailHeard B)) refl) h

    pub stopped_free : (s : Side) (b : Bool) → is_free (if b then stops s else left p) ≡ true
    stopped_free s true = stops_free s
    stopped_free s false = left_free

    thing_free : (s : Side) (item : Heard) (r : Reply) → is_free (answered_heard values s item r p).agenda ≡ true
    thing_free s (Heard.DataAck next window) r = told_free s _
    thing_free s (Heard.Mapping fin) r = if_free (is_clash (end_at s p)) _ _ (break_free s 1 r) (fell_free s r)
    thing_free s (Heard.DataFin place) r = fell_free s r
    thing_free s (Heard.InfiniteMapping place position) r = fell_free s r
    thing_free s Heard.Fail r = fail_answered_so (λ (q : PathState Carried). is_free q.agenda ≡ true) s r p (failing_free s) (fell_free s r)
    thing_free s (Heard.FastClose key) r = stopped_free s _
    thing_free s _ r = left_free

    pub item_free : (s : Side) (o : Option Heard) (r : Reply) → is_free (answered_item values s o r p).agenda ≡ true
    item_free s None r = left_free
    item_free s (Some item) r = thing_free s item r

    key_free : (s : Side) (o : Option ℕ) (r : Reply) → is_free (answered_peer_key s o r p).agenda ≡ true
    key_free s None r = fell_free s r
    key_free s (Some key) r = left_free

    opened_free : (s : Side) (o : Option KeyPair) (r : Reply) → is_free (answered_opened s o r p).agenda ≡ true
    opened_free s None r = fell_free s r
    opened_free s (Some keys) r = left_free

    joined_free : (s : Side) (o : Option KeyPair) (asked : Option JoinSyn) (r : Reply) → JoinsNone (Duty.Ask (AskDuty.JoinHeard s)) → is_free (join_taken s o asked r p).agenda ≡ true
    joined_free s (Some keys) (Some asked) r none = answer_free s none.0
    joined_free s None (Some asked) r none = refuse_free s none.1
    joined_free s (Some keys) None r none = refuse_free s none.1
    joined_free s None None r none = refuse_free s none.1

    piece_free : (s : Side) (o : Option Piece) (taken : Bool) → is_free (answered_piece s o taken p).agenda ≡ true
    piece_free s None taken = breaks_free s 1
    piece_free s (Some piece) true = h
    piece_free s (Some piece) false = breaks_free s 1

    fin_free : (s : Side) (set : Bool) → is_free (answered_fin_heard s set p).agenda ≡ true
    fin_free s true = left_free
    fin_free s false = breaks_free s 1

    plain_fin_free : (s : Side) (set : Bool) → is_free (answered_plain_fin s set p).agenda ≡ true
    plain_fin_free s true = left_free
    plain_fin_free s false = breaks_free s 1

    pub ask_free : (d : AskDuty) (r : Reply) → JoinsNone (Duty.Ask d) → is_free (answered values (Duty.Ask d) r p).agenda ≡ true
    ask_free AskDuty.JoinAgain r none = if_free (is_never r) _ _ (leave_free A) left_free
    ask_free (AskDuty.PlainHandshake s) r none = fell_free s r
    ask_free (AskDuty.PeerKey s) r none = key_free s (key_heard (end_at s p).treated.items) r
    ask_free (AskDuty.JoinHeard s) r none = joined_free s (keys_begun r) (asked_at s p) r none
    ask_free (AskDuty.Opened s) r none = opened_free s (keys_heard (end_at s p).treated.items) r
    ask_free (AskDuty.AckHeard s) r none = fell_free s r
    ask_free (AskDuty.FailHeard s) r none = fell_free s r
    ask_free (AskDuty.PlainData s) r none = fell_free s r
    ask_free (AskDuty.CheckFailed s) r none = fell_free s r
    ask_free (AskDuty.Edge s) r none = piece_free s (piece_of s p) (is_placed r)
    ask_free (AskDuty.HeardFin s index) r none = fin_free s (is_fin_set r)
    ask_free (AskDuty.SubflowFin s) r none = plain_fin_free s (is_fin_set r)
    ask_free (AskDuty.LeaveNoted s) r none = dead_free s
    ask_free (AskDuty.Leave s) r none = dead_free s
    ask_free (AskDuty.BreakAck s reason) r none = resets_free s reason
    ask_free _ r none = left_free

    pub send_free : (d : SendDuty) (r : Reply) → is_free (answered values (Duty.Send d) r p).agenda ≡ true
    send_free (SendDuty.Notice s) r = h
    send_free (SendDuty.BreakReset s reason) r = leaves_free s
    send_free (SendDuty.Reset s) r = leave_free s
    send_free (SendDuty.ResetNoted s) r = leave_free s
    send_free _ r = left_free

    pub step_free : (d : StepDuty) (r : Reply) → is_events d ≡ false → is_free (answered values (Duty.Step d) r p).agenda ≡ true
    step_free (StepDuty.Look s) r none = left_free
    step_free (StepDuty.Data s) r none = data_free s (first_unsent (end_at s p)) r
    step_free StepDuty.Events r none = absurd (false≢true (sym none))
    step_free (StepDuty.Heard s index) r none = item_free s (item_of index (end_at s p)) r
    step_free (StepDuty.PlainAck s) r none = if_free (breaks_by_ack p.profile (end_at s p)) _ _ (break_free s 6 r) (fell_free s r)
    step_free (StepDuty.Unmapped s) r none = break_free s 6 r

    pub duty_free : (d : Duty) (r : Reply) → IsNoEvent d → JoinsNone d → is_free (answered values d r p).agenda ≡ true
    duty_free (Duty.Ask d) r none joins = ask_free d r joins
    duty_free (Duty.Step d) r none joins = step_free d r none
    duty_free (Duty.Send d) r none joins = send_free d r
    duty_free (Duty.Silent d) r none joins = left_free
    duty_free Duty.End r none joins = refl

    -- what stands is the rest of it
    pub settled_free : (ds : List Duty) (q : PathState Carried) → is_free ds ≡ true → is_free (settled ds q).agenda ≡ true
    settled_free [] q h = refl
    settled_free (d ∷ ds) q h = by (stands d q) (settled_free ds (passed d q) (and_parts (not (m d)) (is_free ds) h).1)
      where
        by : (b : Bool) → is_free (settled ds (passed d q)).agenda ≡ true → is_free (if b then with_agenda (d ∷ ds) q else settled ds (passed d q)).agenda ≡ true
        by true rest = h
        by false rest = rest
