-- Which steps wake an end, and which duties say what an end that began says.
--
-- What an end knows is a record of its keys and nonces (`known_in`), with which most rules change nothing by `refl`.
-- What it has to know for its SYN holds of an end that is up, open or with a timer that runs (`is_up`), and of one
-- whose agenda says so (`speaks`); that no rule wakes an end is one record, `NoWaking` (`proofs/Keys/WhatWakes`). Facts
-- that hold where each join began with the right key stand behind a Bool, so that one development serves every script
-- and plain ones (`right` in `proofs/Keys/AreDrawn`).
use Rattle.world_laws.proofs.Words.{◌≡◌, refl, sym, ◌∙◌, ap, subst, ℕ, zero, suc, ◌+◌, ◌&&◌, ◌||◌, not, nat_lt, nat_le, Bool, true, false, if◌then◌else◌}
use Rattle.world_laws.proofs.Words.{Option, Some, None, List, [], ◌∷◌, is_some, false≢true, list_any, IfSome, option_and_then, Side, A, B, same_side, AckKind}
use Rattle.world_laws.proofs.Words.{after_acknowledge, ack_kind, sample_of, is_closed_to_segments, is_waiting, Meaning, after_sending, EndState, EndPhase}
use Rattle.world_laws.proofs.Words.{Occasion, is_fin_acked, after_ack_kind, after_acknowledgement, is_duplicate, after_duplicate, after_interruption, told_by}
use Rattle.world_laws.proofs.Words.{after_payload, after_hearing, after_established, after_taken, after_syn_ack, after_arrival, is_fin_next, after_passing_fin}
use Rattle.world_laws.proofs.Words.{after_finishing, is_syn_alone, meaning_at, meaning_of, Copy, Hint, next_due, Due, LineLeft, heard_and, payload_came}
use Rattle.world_laws.proofs.Words.{copy_came, Duty, SendDuty, StepDuty, AskDuty, Heard, replaced, tail_of, PathEnd, PathState, end_at, owing_if, with_payload}
use Rattle.world_laws.proofs.Words.{Judged, tick_of, next_join, next_line, next_copy, earlier, next_event, earliest, join_answer, join_asked, with_timer_settled}
use Rattle.world_laws.proofs.Words.{next_fire, is_forged, is_passed_over, join_judged, taken_as, judged_of, if_so}
use Rattle.std.proofs.Common.{IsSome}
use Rattle.loss_recovery.specs.Timers.{timer_settled}
use Rattle.subflow_tcp.specs.States as states
use Rattle.path_core.specs.Events.{before}
use Rattle.path_core.specs.declared.events.Event.{Event}
use Rattle.world_laws.proofs.Keys.AreDrawn.{is_past}

-- ---- an end

-- an end is open, or its timer runs
abbrev pub is_up : EndState → Bool
is_up s = not (is_closed_to_segments s.state) || is_some s.timing.timer

-- the second is up only where the first is, and waits only where the first does
pub record Sleeps (s t : EndState) : Type 0 where
  pub up : is_up t ≡ true → is_up s ≡ true
  pub waits : is_waiting t.state ≡ true → is_waiting s.state ≡ true

-- and the peer's SYN came only where it had come to the first
pub record NoWaking (s t : EndState) : Type 0 where
  pub up : is_up t ≡ true → is_up s ≡ true
  pub waits : is_waiting t.state ≡ true → is_waiting s.state ≡ true
  pub past : is_past t.state ≡ true → is_past s.state ≡ true

then_sleeps : (s t u : EndState) → Sleeps s t → Sleeps t u → Sleeps s u
then_sleeps s t u x y = record { up = λ is. x.up (y.up is); waits = λ is. x.waits (y.waits is) }

-- as open as the other, with the same timer
pub record Alike (s t : EndState) : Type 0 where
  pub state : is_closed_to_segments t.state ≡ is_closed_to_segments s.state
  pub waits : is_waiting t.state ≡ is_waiting s.state
  pub past : is_past t.state ≡ is_past s.state
  pub timer : t.timing.timer ≡ s.timing.timer

pub alike_up : (s t : EndState) → Alike s t → NoWaking s t
alike_up s t x = record {
  up = λ up. ap (λ b. not b || is_some s.timing.timer) (sym x.state) ∙ ap (λ o. not (is_closed_to_segments t.state) || is_some o) (sym x.timer) ∙ up;
  waits = λ is. sym x.waits ∙ is;
  past = λ is. sym x.past ∙ is;
}

alike_sleeps : (s t : EndState) → Alike s t → Sleeps s t
alike_sleeps s t x = let up = alike_up s t x in record { up = up.up; waits = up.waits }

pub open_is_up : (s : EndState) → is_closed_to_segments s.state ≡ false → is_up s ≡ true
open_is_up s is_open = ap (λ b. not b || is_some s.timing.timer) is_open

pub timed_is_up : (s : EndState) → IsSome s.timing.timer → is_up s ≡ true
timed_is_up s timed = by (is_closed_to_segments s.state) s.timing.timer timed
  where
    by : (b : Bool) (o : Option ℕ) → IsSome o → not b || is_some o ≡ true
    by false o is = refl
    by true (Some tick) is = refl
    by true None is = absurd (false≢true is)

-- the timer is settled where the end is open
pub timer_up : (now : ℕ) (e : PathEnd) → NoWaking e.tcp (with_timer_settled now e).tcp
timer_up now e = record { up = by (is_closed_to_segments e.tcp.state) _; waits = λ is. is; past = λ is. is }
  where
    by : (b on : Bool) → not b || is_some (timer_settled (not b && on) e.sending.news now e.tcp.timing) ≡ true → not b || is_some e.tcp.timing.timer ≡ true
    by = elim [ false ↦ λ on up. refl | true ↦ λ on up. absurd (false≢true up) ]

pub sending_up : (o : Occasion) (now : ℕ) (s : EndState) → NoWaking s (after_sending o now s)
sending_up Occasion.Reset now s = record { up = λ up. up; waits = λ is. is; past = λ is. is }
sending_up _ now s = record { up = λ up. up; waits = λ is. is; past = λ is. is }

-- ---- states

-- an end is open, waits and is past its SYN as it was
abbrev Same : EndPhase → EndPhase → Type 0
Same t s = (is_closed_to_segments t ≡ is_closed_to_segments s) × (is_waiting t ≡ is_waiting s) × (is_past t ≡ is_past s)

finish_same : (state : EndPhase) → Same (states.after_finish state) state
finish_same EndPhase.Established = (refl, refl, refl)
finish_same EndPhase.CloseWait = (refl, refl, refl)
finish_same EndPhase.Waiting = (refl, refl, refl)
finish_same _ = (refl, refl, refl)

acked_same : (state : EndPhase) → Same (states.after_fin_acked state) state
acked_same EndPhase.FinWait1 = (refl, refl, refl)
acked_same EndPhase.Closing = (refl, refl, refl)
acked_same EndPhase.Waiting = (refl, refl, refl)
acked_same _ = (refl, refl, refl)

passed_same : (state : EndPhase) → Same (states.after_fin_passed state) state
passed_same EndPhase.Established = (refl, refl, refl)
passed_same EndPhase.FinWait1 = (refl, refl, refl)
passed_same EndPhase.FinWait2 = (refl, refl, refl)
passed_same EndPhase.Waiting = (refl, refl, refl)
passed_same _ = (refl, refl, refl)

opened_same : (state : EndPhase) → Same (states.after_handshake state) state
opened_same EndPhase.SynReceived = (refl, refl, refl)
opened_same EndPhase.Waiting = (refl, refl, refl)
opened_same _ = (refl, refl, refl)

pub finishing_up : (s : EndState) → NoWaking s (after_finishing s)
finishing_up s = let same = finish_same s.state in alike_up s (after_finishing s) (record { state = same.0; waits = same.1; past = same.2; timer = refl })

pub passing_up : (s : EndState) → NoWaking s (if is_fin_next s then after_passing_fin s else s)
passing_up s = elim (is_fin_next s) as (λ b. NoWaking s (if b then after_passing_fin s else s)) [
  | true ↦ let same = passed_same s.state in alike_up s (after_passing_fin s) (record { state = same.0; waits = same.1; past = same.2; timer = refl })
  | false ↦ record { up = λ up. up; waits = λ is. is; past = λ is. is }
]

-- ---- a copy

-- an acknowledgement leaves an end as open as it is, with the same timer
then_alike : (s t u : EndState) → Alike s t → Alike t u → Alike s u
then_alike s t u x y = record { state = y.state ∙ x.state; waits = y.waits ∙ x.waits; past = y.past ∙ x.past; timer = y.timer ∙ x.timer }

back_alike : (s t : EndState) → Alike s t → Alike t s
back_alike s t x = record { state = sym x.state; waits = sym x.waits; past = sym x.past; timer = sym x.timer }

kind_alike : (kind : AckKind) (since : Option ℕ) (now : ℕ) (s : EndState) → Alike s (after_ack_kind kind since now s)
kind_alike (AckKind.New octets) since now s = let same = by (is_fin_acked s.send) in record { state = same.0; waits = same.1; past = same.2; timer = refl }
  where
    by : (b : Bool) → Same (if b then states.after_fin_acked s.state else s.state) s.state
    by = elim [ true ↦ acked_same s.state | false ↦ (refl, refl, refl) ]
kind_alike _ since now s = record { state = refl; waits = refl; past = refl; timer = refl }

ack_alike : (pos now : ℕ) (s : EndState) → Alike s (after_acknowledgement pos now s)
ack_alike pos now s =
    let t : EndState = record s { send = after_acknowledge pos s.send } in
    then_alike s t (after_acknowledgement pos now s) (record { state = refl; waits = refl; past = refl; timer = refl }) (kind_alike (ack_kind pos s.send) (sample_of pos s.send) now t)

row_alike : (b : Bool) (s t u : EndState) → Alike s t → Alike s u → Alike s (if b then t else u)
row_alike = elim [ true ↦ λ s t u x y. x | false ↦ λ s t u x y. y ]

owing_alike : (b : Bool) (s : EndState) → Alike s (owing_if b s)
owing_alike true s = record { state = refl; waits = refl; past = refl; timer = refl }
owing_alike false s = record { state = refl; waits = refl; past = refl; timer = refl }

taken_alike : (pos acknowledged : ℕ) (hint : Hint) (now : ℕ) (c : Copy) (s : EndState) → Alike s (after_taken pos acknowledged hint now c s)
taken_alike pos acknowledged hint now c s =
    let heard : EndState = after_established (after_hearing (after_payload pos hint c s)) in
    let acked : EndState = after_acknowledgement acknowledged now heard in
    let same = opened_same s.state in
    let opened : Alike s heard = record { state = same.0; waits = same.1; past = same.2; timer = refl } in
    let answered : Alike s acked = then_alike s heard acked opened (ack_alike acknowledged now heard) in
    let told = row_alike (is_duplicate (ack_kind acknowledged heard.send) (told_by hint c) c acked) s (after_duplicate acked) (after_interruption acked)
    (record { state = answered.state; waits = answered.waits; past = answered.past; timer = answered.timer }) (record { state = answered.state; waits = answered.waits; past = answered.past; timer = answered.timer }) in
    record { state = told.state; waits = told.waits; past = told.past; timer = told.timer }

payload_alike : (m : Meaning) (octets : List ℕ) (s : EndState) → Alike s (with_payload m octets s)
payload_alike (Meaning.Taken pos acknowledged) [] s = record { state = refl; waits = refl; past = refl; timer = refl }
payload_alike (Meaning.Taken pos acknowledged) (octet ∷ octets) s = record { state = refl; waits = refl; past = refl; timer = refl }
payload_alike _ octets s = record { state = refl; waits = refl; past = refl; timer = refl }

-- a copy is answered, taken or accepted: it means so at an open end alone
abbrev pub is_lively : Meaning → Bool
is_lively (Meaning.Accepts acknowledged) = true
is_lively Meaning.RepeatedSyn = true
is_lively Meaning.Outside = true
is_lively Meaning.Challenged = true
is_lively Meaning.Ahead = true
is_lively (Meaning.Taken pos acknowledged) = true
is_lively _ = false

abbrev pub is_opens : Meaning → Bool
is_opens Meaning.Opens = true
is_opens _ = false

-- a copy that is taken as this wakes no end: no SYN, and an answer alone at an end that is up
pub record WakesNone (m : Meaning) (s : EndState) : Type 0 where
  pub no_syn : is_opens m ≡ false
  pub lively : is_lively m ≡ true → is_up s ≡ true

-- an end that accepts doesn't wait
accepted_waits : (acknowledged : ℕ) (hint : Hint) (now : ℕ) (c : Copy) (s : EndState) → is_waiting (after_syn_ack acknowledged hint now c s).state ≡ true → is_waiting s.state ≡ true
accepted_waits acknowledged hint now c s is =
    let opened : EndState = record (after_hearing (after_payload 1 hint c s)) { state = EndPhase.Established } in
    absurd (false≢true (sym (ack_alike acknowledged now opened).waits ∙ is))

arrival_up : (m : Meaning) (hint : Hint) (now : ℕ) (c : Copy) (s : EndState) → WakesNone m s → Sleeps s (after_arrival m hint now c s)
arrival_up Meaning.Opens hint now c s none = absurd (false≢true (sym none.no_syn))
arrival_up (Meaning.Accepts acknowledged) hint now c s none = record { up = λ up. none.lively refl; waits = λ is. accepted_waits acknowledged hint now c s is }
arrival_up Meaning.Kills hint now c s none = record { up = λ up. absurd (false≢true up); waits = λ is. absurd (false≢true is) }
arrival_up (Meaning.Taken pos acknowledged) hint now c s none = alike_sleeps s (after_taken pos acknowledged hint now c s) (taken_alike pos acknowledged hint now c s)
arrival_up _ hint now c s none = record { up = λ up. up; waits = λ is. is }

-- the end that takes a copy, with its payload, sleeps as it did
pub copy_up : (m : Meaning) (owes : Bool) (hint : Hint) (now : ℕ) (c : Copy) (octets : List ℕ) (s : EndState) → WakesNone m s
    → Sleeps s (owing_if owes (after_arrival m hint now c (with_payload m octets s)))
copy_up m owes hint now c octets s none =
    let held : EndState = with_payload m octets s in
    let arrived : EndState = after_arrival m hint now c held in
    let kept = payload_alike m octets s in
    let fits : WakesNone m held = record { no_syn = none.no_syn; lively = λ lively. (alike_up held s (back_alike s held kept)).up (none.lively lively) } in
    then_sleeps s held (owing_if owes arrived) (alike_sleeps s held kept)
    (then_sleeps held arrived (owing_if owes arrived) (arrival_up m hint now c held fits) (alike_sleeps arrived (owing_if owes arrived) (owing_alike owes arrived)))

-- no copy lets an end wait that didn't
arrival_waits : (m : Meaning) (hint : Hint) (now : ℕ) (c : Copy) (s : EndState) → is_waiting (after_arrival m hint now c s).state ≡ true → is_waiting s.state ≡ true
arrival_waits Meaning.Opens hint now c s is = absurd (false≢true is)
arrival_waits (Meaning.Accepts acknowledged) hint now c s is = accepted_waits acknowledged hint now c s is
arrival_waits Meaning.Kills hint now c s is = absurd (false≢true is)
arrival_waits (Meaning.Taken pos acknowledged) hint now c s is = sym (taken_alike pos acknowledged hint now c s).waits ∙ is
arrival_waits _ hint now c s is = is

pub arrived_waits : (m : Meaning) (owes : Bool) (hint : Hint) (now : ℕ) (c : Copy) (octets : List ℕ) (s : EndState)
    → is_waiting (owing_if owes (after_arrival m hint now c (with_payload m octets s))).state ≡ true → is_waiting s.state ≡ true
arrived_waits m owes hint now c octets s is =
    let held : EndState = with_payload m octets s in
    sym (payload_alike m octets s).waits ∙ arrival_waits m hint now c held (sym (owing_alike owes (after_arrival m hint now c held)).waits ∙ is)

-- the peer's SYN comes by no copy but one that is accepted
arrival_past : (m : Meaning) (hint : Hint) (now : ℕ) (c : Copy) (s : EndState) (P : Type 0) → is_opens m ≡ false → ((acknowledged : ℕ) → m ≡ Meaning.Accepts acknowledged → P)
    → (is_past s.state ≡ true → P) → is_past (after_arrival m hint now c s).state ≡ true → P
arrival_past Meaning.Ignored hint now c s P none accepts past is = past is
arrival_past Meaning.Unwanted hint now c s P none accepts past is = past is
arrival_past Meaning.Opens hint now c s P none accepts past is = absurd (false≢true (sym none))
arrival_past (Meaning.Accepts acknowledged) hint now c s P none accepts past is = accepts acknowledged refl
arrival_past Meaning.RepeatedSyn hint now c s P none accepts past is = past is
arrival_past Meaning.Outside hint now c s P none accepts past is = past is
arrival_past Meaning.Kills hint now c s P none accepts past is = absurd (false≢true is)
arrival_past Meaning.Challenged hint now c s P none accepts past is = past is
arrival_past Meaning.Unacknowledging hint now c s P none accepts past is = past is
arrival_past Meaning.Ahead hint now c s P none accepts past is = past is
arrival_past (Meaning.Taken pos acknowledged) hint now c s P none accepts past is = past (sym (taken_alike pos acknowledged hint now c s).past ∙ is)

pub held_past : (m : Meaning) (octets : List ℕ) (s : EndState) → is_past (with_payload m octets s).state ≡ true → is_past s.state ≡ true
held_past m octets s is = sym (payload_alike m octets s).past ∙ is

pub copy_past : (m : Meaning) (owes : Bool) (hint : Hint) (now : ℕ) (c : Copy) (octets : List ℕ) (s : EndState) (P : Type 0) → is_opens m ≡ false
    → ((acknowledged : ℕ) → m ≡ Meaning.Accepts acknowledged → P) → (is_past s.state ≡ true → P)
    → is_past (owing_if owes (after_arrival m hint now c (with_payload m octets s))).state ≡ true → P
copy_past m owes hint now c octets s P none accepts past is =
    let held : EndState = with_payload m octets s in
    arrival_past m hint now c held P none accepts (λ so. past (sym (payload_alike m octets s).past ∙ so)) (sym (owing_alike owes (after_arrival m hint now c held)).past ∙ is)

-- a lively copy comes to an open end
lively_open : (state : EndPhase) (c : Copy) (s : EndState) → is_lively (meaning_at state c s) ≡ true → is_closed_to_segments state ≡ false
lively_open EndPhase.Dead c s is = (elim c.rst as (λ b. is_lively (if b then Meaning.Ignored else Meaning.Unwanted) ≡ true → true ≡ false)
    [ true ↦ λ is. absurd (false≢true is) | false ↦ λ is. absurd (false≢true is) ]) is
lively_open EndPhase.Waiting c s is = absurd (false≢true is)
lively_open EndPhase.Listen c s is = (elim (is_syn_alone c) as (λ b. is_lively (if b then Meaning.Opens else Meaning.Ignored) ≡ true → true ≡ false)
    [ true ↦ λ is. absurd (false≢true is) | false ↦ λ is. absurd (false≢true is) ]) is
lively_open EndPhase.SynSent c s is = refl
lively_open _ c s is = refl

-- on a path that joins no copy wakes an end: B asks its control book first
module _ (rst : Bool) (items : List Heard) (e : PathEnd) where
  nothing_wakes : WakesNone Meaning.Ignored e.tcp
  nothing_wakes = record { no_syn = refl; lively = λ is. absurd (false≢true is) }

  unless_silent : (silent : Bool) (m : Meaning) → WakesNone m e.tcp → WakesNone (taken_as (if silent then Judged.As Meaning.Ignored else Judged.As m)) e.tcp
  unless_silent = elim [ true ↦ λ m none. nothing_wakes | false ↦ λ m none. none ]

  wakes_none : (m : Meaning) → (is_lively m ≡ true → is_up e.tcp ≡ true) → WakesNone (taken_as (join_judged rst items m e)) e.tcp
  wakes_none Meaning.Opens up = if_so (λ z. WakesNone (taken_as z) e.tcp) (is_some (join_asked items)) Judged.Asks Judged.Lacks nothing_wakes nothing_wakes
  wakes_none (Meaning.Accepts acknowledged) up =
      if_so (λ z. WakesNone (taken_as z) e.tcp) (is_some (join_answer items e.modes)) (Judged.As (Meaning.Accepts acknowledged)) Judged.Forged
      (record { no_syn = refl; lively = up }) nothing_wakes
  wakes_none Meaning.RepeatedSyn up = record { no_syn = refl; lively = up }
  wakes_none (Meaning.Taken pos acknowledged) up = by (is_passed_over rst items e) (is_forged items e)
    where
      by : (silent forged : Bool) → WakesNone (taken_as (if silent then Judged.As Meaning.Ignored
          else (if forged then Judged.Forged else Judged.As (Meaning.Taken pos acknowledged)))) e.tcp
      by true forged = nothing_wakes
      by false true = nothing_wakes
      by false false = record { no_syn = refl; lively = up }
  wakes_none Meaning.Ignored up = unless_silent (is_passed_over rst items e) Meaning.Ignored (record { no_syn = refl; lively = up })
  wakes_none m up = unless_silent (is_passed_over rst items e) m (record { no_syn = refl; lively = up })

  pub joined_wakes_none : (c : Copy) → WakesNone (taken_as (judged_of true rst items (meaning_of c e.tcp) e)) e.tcp
  joined_wakes_none c = wakes_none (meaning_of c e.tcp) (λ lively. open_is_up e.tcp (lively_open e.tcp.state c e.tcp lively))

-- ---- duties

-- a side that says what an end says that began, or tells its control book of a fall; a side that falls; one that tells its reassembly
-- book of the peer's fast close
pub data Voice : Type 0 where
  Says : (side : Side) → Voice
  Falls : (side : Side) → Voice
  Aborts : (side : Side) → Voice

-- a voice is of that side, and says something; or it falls; or it aborts
abbrev pub tells : Voice → Side → Bool
tells (Voice.Says s) t = same_side s t
tells (Voice.Falls s) t = false
tells (Voice.Aborts s) t = false

abbrev pub falls : Voice → Side → Bool
falls (Voice.Says s) t = false
falls (Voice.Falls s) t = same_side s t
falls (Voice.Aborts s) t = false

abbrev pub aborts : Voice → Side → Bool
aborts (Voice.Says s) t = false
aborts (Voice.Falls s) t = false
aborts (Voice.Aborts s) t = same_side s t

abbrev pub is_said_by : Voice → Duty → Bool
is_said_by x (Duty.Send (SendDuty.SynAck t)) = tells x t
is_said_by x (Duty.Send (SendDuty.Again t)) = tells x t
is_said_by x (Duty.Send (SendDuty.Answer t)) = tells x t
is_said_by x (Duty.Send (SendDuty.Resend t)) = tells x t
is_said_by x (Duty.Ask (AskDuty.PlainHandshake t)) = tells x t
is_said_by x (Duty.Ask (AskDuty.PeerKey t)) = tells x t
is_said_by x (Duty.Ask (AskDuty.Opened t)) = tells x t
is_said_by x (Duty.Step (StepDuty.Heard t index)) = tells x t
is_said_by x (Duty.Ask (AskDuty.AckHeard t)) = tells x t
is_said_by x (Duty.Ask (AskDuty.FailHeard t)) = tells x t
is_said_by x (Duty.Step (StepDuty.PlainAck t)) = tells x t
is_said_by x (Duty.Ask (AskDuty.PlainData t)) = tells x t
is_said_by x (Duty.Ask (AskDuty.CheckFailed t)) = tells x t
is_said_by x (Duty.Ask (AskDuty.GoIdentity t)) = falls x t
is_said_by x (Duty.Ask (AskDuty.AbortReceive t)) = aborts x t
is_said_by x _ = false

abbrev pub speaks : Voice → List Duty → Bool
speaks x ds = list_any (is_said_by x) ds

pub tail_speaks : (x : Voice) (ds : List Duty) → speaks x (tail_of ds) ≡ true → speaks x ds ≡ true
tail_speaks x [] is = is
tail_speaks x (d ∷ ds) is = elim (is_said_by x d) as (λ b. b || speaks x ds ≡ true) [ true ↦ refl | false ↦ is ]

pub replaced_speaks : (x : Voice) (d : Duty) (ds : List Duty) → is_said_by x d ≡ false → speaks x (replaced d ds) ≡ true → speaks x ds ≡ true
replaced_speaks x d [] calm is = is
replaced_speaks x d (first ∷ ds) calm is = tail_speaks x (first ∷ ds) (sym (ap (λ b. b || speaks x ds) calm) ∙ is)

pub first_speaks : (x : Voice) (d : Duty) (ds : List Duty) → is_said_by x d ≡ true → speaks x (d ∷ ds) ≡ true
first_speaks x d ds is = ap (λ b. b || speaks x ds) is

-- other sides say nothing by such duties, and none falls
heard_calm : (s t : Side) (from count : ℕ) (ds : List Duty) → same_side s t ≡ false → speaks (Voice.Says s) (heard_and t from count ds) ≡ speaks (Voice.Says s) ds
heard_calm s t from zero ds other = refl
heard_calm s t from (suc count) ds other = ap (λ b. b || speaks (Voice.Says s) (heard_and t (from + 1) count ds)) other ∙ heard_calm s t (from + 1) count ds other

heard_falls : (s t : Side) (from count : ℕ) (ds : List Duty) → speaks (Voice.Falls s) (heard_and t from count ds) ≡ speaks (Voice.Falls s) ds
heard_falls s t from zero ds = refl
heard_falls s t from (suc count) ds = heard_falls s t (from + 1) count ds

heard_aborts : (s t : Side) (from count : ℕ) (ds : List Duty) → speaks (Voice.Aborts s) (heard_and t from count ds) ≡ speaks (Voice.Aborts s) ds
heard_aborts s t from zero ds = refl
heard_aborts s t from (suc count) ds = heard_aborts s t (from + 1) count ds

pub tells_same : (x : Voice) (s : Side) → tells x s ≡ true → x ≡ Voice.Says s
tells_same (Voice.Says A) A is = refl
tells_same (Voice.Says B) B is = refl
tells_same (Voice.Says A) B is = absurd (false≢true is)
tells_same (Voice.Says B) A is = absurd (false≢true is)
tells_same (Voice.Falls t) s is = absurd (false≢true is)
tells_same (Voice.Aborts t) s is = absurd (false≢true is)

pub falls_same : (x : Voice) (s : Side) → falls x s ≡ true → x ≡ Voice.Falls s
falls_same (Voice.Falls A) A is = refl
falls_same (Voice.Falls B) B is = refl
falls_same (Voice.Falls A) B is = absurd (false≢true is)
falls_same (Voice.Falls B) A is = absurd (false≢true is)
falls_same (Voice.Says t) s is = absurd (false≢true is)
falls_same (Voice.Aborts t) s is = absurd (false≢true is)

pub came_said : (s t : Side) (count : ℕ) → speaks (Voice.Says s) (copy_came t count) ≡ true → s ≡ t
came_said A A count is = refl
came_said B B count is = refl
came_said A B count is = absurd (false≢true (sym (heard_calm A B 0 count (payload_came B) refl) ∙ is))
came_said B A count is = absurd (false≢true (sym (heard_calm B A 0 count (payload_came A) refl) ∙ is))

pub came_calm : (s t : Side) (count : ℕ) → speaks (Voice.Falls s) (copy_came t count) ≡ false
came_calm s t count = heard_falls s t 0 count (payload_came t)

pub came_goes_on : (s t : Side) (count : ℕ) → speaks (Voice.Aborts s) (copy_came t count) ≡ false
came_goes_on s t count = heard_aborts s t 0 count (payload_came t)

pub same_or_calm : (s t : Side) → same_side s t || false ≡ true → s ≡ t
same_or_calm A A is = refl
same_or_calm B B is = refl
same_or_calm A B is = absurd (false≢true is)
same_or_calm B A is = absurd (false≢true is)

pub itself : (s : Side) → same_side s s ≡ true
itself = elim [ A ↦ refl | B ↦ refl ]

-- ---- what happens next

-- A waits on a path that it joins, and an end whose timer runs out is up
abbrev pub Happens : {C : Type 0} → PathState C → Event → Type 0
Happens p (Event.Joins tick) = is_waiting p.a.tcp.state ≡ true
Happens p (Event.Fires s tick) = is_up (end_at s p).tcp ≡ true
Happens p event = Unit {0}

earlier_has : (P : Event → Type 0) (x y : Option Event) → IfSome x P → IfSome y P → IfSome (earlier x y) P
earlier_has P None y first other = other
earlier_has P (Some x) None first other = first
earlier_has P (Some x) (Some y) first other = if_so (λ z. IfSome z P) (nat_le (tick_of x) (tick_of y)) (Some x) (Some y) first other

join_has : {C : Type 0} (p : PathState C) (state : EndPhase) (o : Option ℕ) → p.a.tcp.state ≡ state → IfSome (next_join state o) (Happens p)
join_has p state None same = tt
join_has p state (Some tick) same = (elim (is_waiting state) as (λ b. is_waiting state ≡ b → IfSome (if b then Some (Event.Joins tick) else None) (Happens p))
    [ true ↦ λ waits. ap is_waiting same ∙ waits | false ↦ λ waits. tt ]) refl

line_has : {C : Type 0} (p : PathState C) (lines : List LineLeft) → IfSome (next_line lines) (Happens p)
line_has p [] = tt
line_has p (line ∷ lines) = tt

copy_has : {C : Type 0} (p : PathState C) (o : Option Due) → IfSome (next_copy o) (Happens p)
copy_has p None = tt
copy_has p (Some due) = tt

fire_has : {C : Type 0} (s : Side) (p : PathState C) (o : Option ℕ) → (end_at s p).tcp.timing.timer ≡ o → IfSome (next_fire s o) (Happens p)
fire_has s p None same = tt
fire_has s p (Some tick) same = timed_is_up (end_at s p).tcp (subst IsSome (sym same) refl)

earliest_has : {C : Type 0} (p : PathState C) → IfSome (earliest p) (Happens p)
earliest_has p =
    earlier_has (Happens p) (next_join p.a.tcp.state p.joined_at) _ (join_has p p.a.tcp.state p.joined_at refl)
    (earlier_has (Happens p) (next_line p.lines) _ (line_has p p.lines)
    (earlier_has (Happens p) (next_copy (next_due p.link.under_way)) _ (copy_has p (next_due p.link.under_way))
    (earlier_has (Happens p) (next_fire A p.a.tcp.timing.timer) _ (fire_has A p p.a.tcp.timing.timer refl) (fire_has B p p.b.tcp.timing.timer refl))))

pub next_happens : {C : Type 0} (p : PathState C) (event : Event) → next_event p ≡ Some event → Happens p event
next_happens p event is = subst (λ o. IfSome o (Happens p)) is (by (earliest p) (earliest_has p))
  where
    soon : (x : Event) (b : Bool) → Happens p x → IfSome (if b then Some x else None) (Happens p)
    soon x true has = has
    soon x false has = tt

    by : (o : Option Event) → IfSome o (Happens p) → IfSome (option_and_then (before p.until) o) (Happens p)
    by = elim [ None ↦ λ has. tt | Some x ↦ λ has. soon x (nat_lt (tick_of x) p.until) has ]
