-- Which changes of an end leave its timer at rest: none that is due is set, and the timeout takes time.
use Rattle.path_core.proofs.Words.{◌≡◌, refl, ap, subst, ◌∙◌, ℕ, ◌+◌, ◌*◌, ◌≤◌, ◌||◌, Bool, true, false, if◌then◌else◌, Option, Some, None, List, [], ◌∷◌}
use Rattle.path_core.proofs.Words.{arith, is_none, min, Verdict, Side, ControlReply, KeptMapping, after_forget_from, Meaning, Copy, EndState, after_arrival}
use Rattle.path_core.proofs.Words.{after_payload, after_hearing, after_established, after_acknowledgement, after_ack_kind, is_duplicate, told_by}
use Rattle.path_core.proofs.Words.{after_duplicate, after_interruption, after_death, after_keeping_held, after_dropping_held, Occasion, InfiniteMapping, Heard}
use Rattle.path_core.proofs.Words.{Reply, with_payload, owing_if, with_learned, with_data_fin, with_skipped, counts, after_fell, after_check_failed}
use Rattle.path_core.proofs.Words.{with_failure, receiving_infinite, sending_infinite, PathEnd, one_if_due, due_timer, mapping_here, after_keep, is_wrong}
use Rattle.path_core.proofs.Words.{forgotten_by, failing_by, is_dropped, item_passed}
use Rattle.rtt_timer.specs.Timer.{Timer}
use Rattle.loss_recovery.specs.declared.timers.Timing.{Timing}
use Rattle.loss_recovery.specs.Timers as timers
use Rattle.subflow_send.specs.declared.record.AckKind.{AckKind}
use Rattle.subflow_send.specs.declared.record.AckKind.TheVariants.{New}
use Rattle.subflow_send.specs.Rules.{ack_kind, sample_of, after_acknowledge}
use Rattle.subflow_tcp.specs.declared.handshake.State.TheVariants.{Established}
use Rattle.subflow_tcp.specs.declared.segments.Hint.{Hint}
use Rattle.subflow_tcp.specs.Closing.{after_passing_fin}
use Rattle.subflow_tcp.specs.Emitting.{after_sending}
use Rattle.subflow_tcp.specs.Expiring.{is_sixth, after_fire, after_expiry}
use Rattle.fallback_state.specs.declared.fall.Event.{Event}
use Rattle.path_core.proofs.Ranking.{Rests, late_isn't}

-- ---- timings

pub record Settles (clock : ℕ) (t u : Timing) : Type 0 where
  pub due : due_timer clock u.timer ≤ due_timer clock t.timer
  pub timeout : 1 ≤ t.rtt.rto → 1 ≤ u.rtt.rto

pub to_rests : (clock : ℕ) (e f : PathEnd) → Settles clock e.tcp.timing f.tcp.timing → Rests clock e f
to_rests clock e f settles = record { due = settles.due; timeout = settles.timeout }

-- ---- sendings

pub sent_same : (occasion : Occasion) (now : ℕ) (s : EndState) → (after_sending occasion now s).timing ≡ s.timing
sent_same = elim [ Occasion.Reset ↦ λ now s. refl | _ ↦ λ now s. refl ]

-- ---- arrivals

sampled_time : (since : Option ℕ) (now : ℕ) (rtt : Timer) → 1 ≤ rtt.rto → 1 ≤ (timers.sampled since now rtt).rto
sampled_time = elim [ None ↦ λ now rtt some. some | Some first ↦ λ now rtt some. omega arith ]

kind_settles : (clock : ℕ) (kind : AckKind) (since : Option ℕ) (now : ℕ) (s : EndState) → Settles clock s.timing (after_ack_kind kind since now s).timing
kind_settles clock (New octets) since now s = record { due = omega arith; timeout = sampled_time since now s.timing.rtt }
kind_settles clock _ since now s = record { due = omega arith; timeout = λ some. some }

row_settles : (clock : ℕ) (b : Bool) (t : Timing) (s : EndState) → Settles clock t s.timing
    → Settles clock t (if b then after_duplicate s else after_interruption s).timing
row_settles clock true t s settles = record { due = settles.due; timeout = settles.timeout }
row_settles clock false t s settles = record { due = settles.due; timeout = settles.timeout }

pub arrival_settles : (clock : ℕ) (meaning : Meaning) (hint : Hint) (now : ℕ) (c : Copy) (s : EndState)
    → Settles clock s.timing (after_arrival meaning hint now c s).timing
arrival_settles clock (Meaning.Accepts acknowledged) hint now c s =
    let opened : EndState = record (after_hearing (after_payload 1 hint c s)) { state = Established } in
    let kind = kind_settles clock (ack_kind acknowledged s.send) (sample_of acknowledged s.send) now (record opened { send = after_acknowledge acknowledged s.send }) in
    record { due = kind.due; timeout = kind.timeout }
arrival_settles clock (Meaning.Taken pos acknowledged) hint now c s =
    let base : EndState = after_established (after_hearing (after_payload pos hint c s)) in
    let kind = kind_settles clock (ack_kind acknowledged s.send) (sample_of acknowledged s.send) now (record base { send = after_acknowledge acknowledged s.send }) in
    let row = row_settles clock (is_duplicate (ack_kind acknowledged s.send) (told_by hint c) c (after_acknowledgement acknowledged now base))
    s.timing (after_acknowledgement acknowledged now base) (record { due = kind.due; timeout = kind.timeout }) in
    record { due = row.due; timeout = row.timeout }
arrival_settles clock _ hint now c s = record { due = omega arith; timeout = λ some. some }

-- a payload that is held changes no timer
pub payload_same : (meaning : Meaning) (octets : List ℕ) (s : EndState) → (with_payload meaning octets s).timing ≡ s.timing
payload_same (Meaning.Taken pos acknowledged) [] s = refl
payload_same (Meaning.Taken pos acknowledged) (octet ∷ octets) s = refl
payload_same _ octets s = refl

pub held_settles : (clock : ℕ) (meaning : Meaning) (octets : List ℕ) (hint : Hint) (now : ℕ) (c : Copy) (s : EndState)
    → Settles clock s.timing (after_arrival meaning hint now c (with_payload meaning octets s)).timing
held_settles clock meaning octets hint now c s =
    subst (λ t. Settles clock t (after_arrival meaning hint now c (with_payload meaning octets s)).timing) (payload_same meaning octets s)
    (arrival_settles clock meaning hint now c (with_payload meaning octets s))

pub owing_settles : (clock : ℕ) (owing : Bool) (t : Timing) (s : EndState) → Settles clock t s.timing → Settles clock t (owing_if owing s).timing
owing_settles clock true t s settles = record { due = settles.due; timeout = settles.timeout }
owing_settles clock false t s settles = record { due = settles.due; timeout = settles.timeout }

-- ---- timers

later_isn't : (now rto : ℕ) → 1 ≤ rto → one_if_due now (now + rto) ≡ 0
later_isn't now rto some = late_isn't now (now + rto) (omega (arith, some))

-- a timer that ran out isn't due any more
pub fired_rests : (now : ℕ) (s : EndState) → 1 ≤ s.timing.rtt.rto
    → (due_timer now (after_fire now s).timing.timer ≡ 0) × (1 ≤ (after_fire now s).timing.rtt.rto)
fired_rests now s some =
    elim (is_sixth s) as (λ b. (due_timer now (if b then after_death true s else after_expiry now s).timing.timer ≡ 0) × (1 ≤ (if b then after_death true s else after_expiry now s).timing.rtt.rto))
    [ true ↦ (refl, some) | false ↦ (later_isn't now (min 60000 (2 * s.timing.rtt.rto)) (omega (arith, some)), omega (arith, some)) ]

pub settled_settles : (now : ℕ) (reason restart : Bool) (t : Timing) → 1 ≤ t.rtt.rto → Settles now t (timers.settled reason restart now t)
settled_settles now reason restart t some = record { due = by reason (is_none t.timer || (t.news || restart)); timeout = λ more. more }
  where
    by : (reason anew : Bool)
        → due_timer now (if reason then (if anew then Some (now + t.rtt.rto) else t.timer) else None) ≤ due_timer now t.timer
    by false anew = omega arith
    by true true = omega (arith, later_isn't now t.rtt.rto some)
    by true false = omega arith

-- ---- what is passed in silence

either_same : (b : Bool) (f e : PathEnd) → f.tcp ≡ e.tcp → (if b then f else e).tcp ≡ e.tcp
either_same = elim [ true ↦ λ f e same. same | false ↦ λ f e same. refl ]

either_timed : (b : Bool) (f e : PathEnd) → f.tcp.timing ≡ e.tcp.timing → (if b then f else e).tcp.timing ≡ e.tcp.timing
either_timed = elim [ true ↦ λ f e same. same | false ↦ λ f e same. refl ]

mapping_same : (b : Bool) (e : PathEnd) → (if b then with_learned e else with_skipped e).tcp ≡ e.tcp
mapping_same = elim [ true ↦ λ e. refl | false ↦ λ e. refl ]

pub item_same : (s : Side) (item : Option Heard) (e : PathEnd) → (item_passed s item e).tcp ≡ e.tcp
item_same s (Some (Heard.Mapping fin)) e = mapping_same (counts e) e
item_same s (Some (Heard.DataFin place)) e = either_same (counts e) (with_data_fin place e) e refl
item_same s _ e = refl

pub keep_same : (s : Side) (e : PathEnd) → (after_keep s e).tcp.timing ≡ e.tcp.timing
keep_same s e = elim (is_dropped s e) as (λ b. (if b then after_dropping_held e.tcp else after_keeping_held e.tcp).timing ≡ e.tcp.timing) [ true ↦ refl | false ↦ refl ]

pub check_same : (checksums : Bool) (kept : Option KeptMapping) (e : PathEnd) → (forgotten_by checksums kept e).tcp.timing ≡ e.tcp.timing
check_same checksums None e = refl
check_same checksums (Some kept) e =
    either_timed (is_wrong checksums kept e.tcp) (record e { tcp = record e.tcp { recv = after_forget_from kept.pos e.tcp.recv } }) e refl

pub pass_fin_same : (b : Bool) (s : EndState) → (if b then after_passing_fin s else s).timing ≡ s.timing
pass_fin_same = elim [ true ↦ λ s. refl | false ↦ λ s. refl ]

-- ---- verdicts that note something

pub failure_same : (failing : Option KeptMapping) (r : Reply) (e : PathEnd) → (with_failure failing r e).tcp ≡ e.tcp
failure_same (Some kept) (Reply.Control (ControlReply.Verdict Verdict.SendFail)) e = refl
failure_same (Some kept) (Reply.Control (ControlReply.Verdict (Verdict.BreakPath reason))) e = refl
failure_same _ r e = refl

pub check_failed_same : (checksums : Bool) (r : Reply) (e : PathEnd) → (after_check_failed checksums r e).tcp.timing ≡ e.tcp.timing
check_failed_same checksums r e =
    let failing = failing_by checksums (mapping_here e) e.tcp in
    check_same checksums (mapping_here e) (with_failure failing r (after_fell Event.CheckFailed r e))
    ∙ ap (λ tcp. tcp.timing) (failure_same failing r (after_fell Event.CheckFailed r e))

pub sending_same : (mapping : Option InfiniteMapping) (infinite : Bool) (e : PathEnd) → (sending_infinite mapping infinite e).tcp ≡ e.tcp
sending_same (Some mapping) true e = refl
sending_same (Some mapping) false e = refl
sending_same None infinite e = refl

pub receiving_same : (place : ℕ) (position : Option ℕ) (infinite : Bool) (e : PathEnd) → (receiving_infinite place position infinite e).tcp ≡ e.tcp
receiving_same place (Some position) true e = refl
receiving_same place (Some position) false e = refl
receiving_same place None infinite e = refl
