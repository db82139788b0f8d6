-- At the end of a turn the timer of an end runs, if something of it is outstanding.
use Rattle.std.proofs.Common.{◌≡◌, refl, sym, subst, ap, ◌∙◌, ℕ, ◌+◌, Bool, true, false, true≢false, not, ◌&&◌, ◌||◌, is_none, if◌then◌else◌, Option, Some, None, []}
use Rattle.std.specs.Prelude.{is_some, IsSome, unwrap_or}
use Rattle.std.proofs.lemmas.Option.{same_Some}
use Rattle.loss_recovery.specs.declared.timers.Timing.{Timing}
use Rattle.loss_recovery.specs.Timers.{timer_settled}
use Rattle.subflow_send.specs.Rules as sending
use Rattle.subflow_tcp.specs.declared.handshake.State.{State}
use Rattle.subflow_tcp.specs.declared.handshake.State.TheVariants as phase
use Rattle.subflow_tcp.specs.State.{EndState, is_some_record}
use Rattle.subflow_tcp.specs.States.{is_closed_to_segments, is_dead}
use Rattle.subflow_tcp.specs.Expiring.{is_timed}
use Rattle.path_store.specs.Granted.{is_all_acknowledged}
use Rattle.path_core.specs.Codec.{Codec}
use Rattle.path_core.specs.End.{PathEnd}
use Rattle.path_core.specs.Modes.{sends_plainly}
use Rattle.path_core.specs.Notices.{Notices}
use Rattle.path_core.specs.Sending.{Sending}
use Rattle.path_core.specs.State.{PathState, end_at}
use Rattle.path_core.specs.Timer.{with_timer_settled}
use Rattle.path_core.specs.declared.modes.Modes.{Modes}
use Rattle.world_laws.specs.declared.member.Member.TheVariants.{App, Path}
use Rattle.world_laws.specs.Actors.{Actor}
use Rattle.world_laws.specs.Laws.{Always}
use Rattle.world_laws.specs.Members.{HoldsOfKind}
use Rattle.world_laws.specs.Writes.{EndView, end_view, nothing}
use Rattle.whole_paths.specs.AgendaSteps.{IsStill, is_gone}
use Rattle.whole_paths.specs.Reasons.{IsOutstanding, IsTimedWhereItWaits, WhoWaitsHasATimer}
use Rattle.whole_paths.specs.Reasons.{IsOutstanding as outstanding}
use Rattle.whole_paths.proofs.Settling.{IsSettled, HoldsAtTheEnd, each_turn_settles}

-- ---- the reasons of an end

-- by its subflow, its stream, its modes and its notices
abbrev pub reason_of : EndState → Sending → Modes → Notices → Bool
reason_of t v m n =
    is_timed (((not (sends_plainly m) && (v.fin_sent && not v.close.own_acked)) || (not (is_all_acknowledged v.granted) || v.shut)) || (m.owes_third || n.fast_closed)) t

abbrev pub has_reason : PathEnd → Bool
has_reason e = reason_of e.tcp e.sending e.modes e.notices

-- the timer runs where there is a reason
abbrev Runs : PathEnd → Type 0
Runs e = has_reason e ≡ true → is_none e.tcp.timing.timer ≡ false

same_runs : (e f : PathEnd) → has_reason f ≡ has_reason e → f.tcp.timing ≡ e.tcp.timing → Runs e → Runs f
same_runs e f reason timing runs has = subst (λ (t : Timing). is_none t.timer ≡ false) (sym timing) (runs (sym reason ∙ has))

still_runs : (e f : PathEnd) → IsStill e f → Runs e → Runs f
still_runs e f still runs = same_runs e f (same f.tcp f.sending f.modes f.notices still.tcp still.sending still.modes still.notices) (ap (λ (t : EndState). t.timing) still.tcp) runs
  where
    same : (t : EndState) (v : Sending) (m : Modes) (n : Notices) → t ≡ e.tcp → v ≡ e.sending → m ≡ e.modes → n ≡ e.notices → reason_of t v m n ≡ has_reason e
    same t v m n tcp sending modes notices = rw (tcp, sending, modes, notices) refl

-- as a view shows it that hides nothing
abbrev pub reason_seen : EndView → Bool
reason_seen v =
    not (is_closed_to_segments (unwrap_or v.phase phase.Dead))
    && ((((not (unwrap_or v.identity false || is_some (unwrap_or v.own_infinite None)) && (unwrap_or v.fin_sent false && not (unwrap_or v.own_acked false)))
    || (not (is_all_acknowledged (unwrap_or v.granted [])) || unwrap_or v.shut false))
    || (unwrap_or v.owes_third false || unwrap_or v.fast_closed false))
    || is_some_record (unwrap_or v.send sending.opening).records)

seen_runs : (e f : PathEnd) → end_view nothing f ≡ end_view nothing e → Runs e → Runs f
seen_runs e f same runs = same_runs e f (ap reason_seen same) (same_Some f.tcp.timing e.tcp.timing (ap (λ (v : EndView). v.timing) same)) runs

-- all of them, where the end isn't closed to segments
abbrev pub reasons : PathEnd → Bool
reasons e =
    ((((not (sends_plainly e.modes) && (e.sending.fin_sent && not e.sending.close.own_acked)) || (not (is_all_acknowledged e.sending.granted) || e.sending.shut))
    || (e.modes.owes_third || e.notices.fast_closed)) || is_some_record e.tcp.send.records)

-- a dead end has none
gone_runs : (e : PathEnd) → is_gone e ≡ true → Runs e
gone_runs e gone has = by (reasons e) e.tcp.state gone has
  where
    by : (rest : Bool) (state : State) → is_dead state ≡ true → (not (is_closed_to_segments state) && rest) ≡ true → is_none e.tcp.timing.timer ≡ false
    by rest phase.Dead gone has = absurd (true≢false (sym has))
    by rest _ gone has = absurd (true≢false (sym gone))

-- and where the timer was settled it runs
timer_runs : (now : ℕ) (e : PathEnd) → Runs (with_timer_settled now e)
timer_runs now e has = subst (λ reason. is_none (timer_settled reason e.sending.news now e.tcp.timing) ≡ false) (sym has) (by e.tcp.timing.timer (e.tcp.timing.news || e.sending.news))
  where
    by : (o : Option ℕ) (b : Bool) → is_none (if is_none o || b then Some (now + e.tcp.timing.rtt.rto) else o) ≡ false
    by None b = refl
    by (Some tick) true = refl
    by (Some tick) false = refl

-- what is outstanding is a reason
pub outstanding_so : (e : PathEnd) → IsOutstanding e → is_closed_to_segments e.tcp.state ≡ false → has_reason e ≡ true
outstanding_so e out opened = subst (λ b. (not b && (((F || (O || W)) || (T || K)) || S)) ≡ true) (sym opened) (by out)
  where
    F : Bool
    F = not (sends_plainly e.modes) && (e.sending.fin_sent && not e.sending.close.own_acked)

    O : Bool
    O = not (is_all_acknowledged e.sending.granted)

    W : Bool
    W = e.sending.shut

    T : Bool
    T = e.modes.owes_third

    K : Bool
    K = e.notices.fast_closed

    S : Bool
    S = is_some_record e.tcp.send.records

    left : (a b : Bool) → a ≡ true → (a || b) ≡ true
    left true b is = refl
    left false b is = absurd (true≢false (sym is))

    right : (a b : Bool) → b ≡ true → (a || b) ≡ true
    right true b is = refl
    right false b is = is

    owed : (identity infinite sent acked : Bool) → identity ≡ false → infinite ≡ false → sent ≡ true → acked ≡ false → (not (identity || infinite) && (sent && not acked)) ≡ true
    owed identity infinite sent acked a b c d = rw (a, b, c, d) refl

    by : IsOutstanding e → (((F || (O || W)) || (T || K)) || S) ≡ true
    by (outstanding.on_subflow first others is) = right ((F || (O || W)) || (T || K)) S (ap is_some_record is)
    by (outstanding.on_stream first others is) =
        left ((F || (O || W)) || (T || K)) S (left (F || (O || W)) (T || K) (right F (O || W) (left O W (ap (λ pieces. not (is_all_acknowledged pieces)) is))))
    by (outstanding.data_fin identity infinite sent acked) =
        left ((F || (O || W)) || (T || K)) S (left (F || (O || W)) (T || K)
        (left F (O || W) (owed e.modes.identity (is_some e.modes.own_infinite) e.sending.fin_sent e.sending.close.own_acked identity (ap is_some infinite) sent acked)))
    by (outstanding.shut is) = left ((F || (O || W)) || (T || K)) S (left (F || (O || W)) (T || K) (right F (O || W) (right O W is)))
    by (outstanding.third is) = left ((F || (O || W)) || (T || K)) S (right (F || (O || W)) (T || K) (left T K is))
    by (outstanding.fast_close is) = left ((F || (O || W)) || (T || K)) S (right (F || (O || W)) (T || K) (right T K is))

-- ---- the end of a turn

runs_settled : IsSettled Runs
runs_settled = record { seen = seen_runs; still = still_runs; gone = gone_runs; timer = timer_runs }

module _ {C : Type 0} where
  timed_so : (p : PathState C) → HoldsAtTheEnd Runs runs_settled p → IsTimedWhereItWaits p
  timed_so p h over s opened out = by (end_at s p).tcp.timing.timer (h over s (outstanding_so (end_at s p) out opened))
    where
      by : (o : Option ℕ) → is_none o ≡ false → IsSome o
      by None some = absurd (true≢false some)
      by (Some tick) some = refl

  member_timed : (m : Actor C) → HoldsOfKind (λ app. Unit {0}) (HoldsAtTheEnd Runs runs_settled) m → HoldsOfKind (λ app. Unit {0}) IsTimedWhereItWaits m
  member_timed (App a) h = tt
  member_timed (Path p) h = timed_so p h

  pub who_waits_has_a_timer : (k : Codec C) → Always k (λ start w. WhoWaitsHasATimer w)
  who_waits_has_a_timer k start turns = record { each = λ actor c there. member_timed c.member (each_turn_settles Runs runs_settled k start turns actor c there) }
