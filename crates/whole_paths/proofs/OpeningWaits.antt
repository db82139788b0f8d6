-- The waits for SYNs and for the answer to the SYN/ACK go on, turn by turn, or what holds them up is counted.
use Rattle.std.proofs.Common.{◌≡◌, refl, sym, subst, ap, ◌⊎◌, ⊎_elim, inl, inr, ℕ, ◌+◌, ◌<◌, ◌≤◌, arith, Bool, true, false, List, [], ◌∷◌, ◌++◌}
use Rattle.sides.specs.declared.side.Side.{Side}
use Rattle.sides.specs.declared.side.Side.TheVariants.{A, B}
use Rattle.subflow_tcp.specs.declared.handshake.State.{State as EndPhase}
use Rattle.subflow_tcp.specs.declared.handshake.State.TheVariants as phase
use Rattle.path_core.specs.State.{PathState, end_at}
use Rattle.path_core.specs.Values.{Carried, values}
use Rattle.world_laws.specs.Actors.{Actor, is_over}
use Rattle.world_laws.specs.Members.{HoldsOfKind}
use Rattle.world_laws.specs.Openings.{Start, opened_world}
use Rattle.world_laws.specs.RoundDone.{EndsAt, reached}
use Rattle.world_laws.proofs.Rounds.DoneByTheEnd.{rounds_end_on_time}
use Rattle.world_laws.proofs.Rounds.Lifting.{all_over_each}
use Rattle.whole_paths.proofs.InTime.{nil_so}
use Rattle.world_laws.specs.Worlds.{Turn, WorldState, after_turn}
use Rattle.world_laws.proofs.Weaving.WholeRounds.{run_append}
use Rattle.whole_paths.specs.Courses.{round_end}
use Rattle.whole_paths.specs.Finish.{IsPathAt}
use Rattle.whole_paths.specs.Mild.{IsMildStart}
use Rattle.whole_paths.specs.Clear.{IsPastIfClear}
use Rattle.whole_paths.specs.OpenCourses.{IsNow}
use Rattle.whole_paths.specs.Opened.{opened_or_harmed}
use Rattle.whole_paths.specs.OpeningWaits.{AHasFinished, AliveOpens, AliveSteps, AwaitsOpening, IsAlive, IsAliveAfter, IsOpening, IsOpeningAwaited, OpeningGoesOn, OpeningsAreAwaited, OpensStill}
use Rattle.whole_paths.specs.OpeningWaits.IsOpeningAwaited.{syn, answer}
use Rattle.whole_paths.specs.OpeningWaits.{EndsOpenOrArePast, IsOpeningOrPast}
use Rattle.whole_paths.specs.OpeningWaits.{IsOpeningOrPast as either_way}
use Rattle.world_laws.specs.declared.member.Member.TheVariants.{App, Path}
use Rattle.whole_paths.specs.OpeningStates.{GoByTheHandshake, IsOfA, IsOfB}
use Rattle.whole_paths.specs.OpeningStates.{IsOfA as of_a}
use Rattle.whole_paths.specs.OpeningStates.{IsOfB as of_b}
use Rattle.whole_paths.proofs.OpeningStates.{ends_go_by_the_handshake}
use Rattle.whole_paths.specs.OpeningWaits.{IsOpening as opens}
use Rattle.whole_paths.specs.SynAcks.{IsToBeAnswered, SynAckGoesOn, SynAcksBegin, SynAcksEnd, SynAcksGoOn}
use Rattle.whole_paths.specs.SynAcks.{SynAckGoesOn as answered}
use Rattle.whole_paths.specs.Syns.{SynGoesOn, SynsBegin, SynsEnd, SynsGoOn}
use Rattle.whole_paths.specs.Syns.{IsToOpen}
use Rattle.whole_paths.specs.Syns.{IsToOpen as to_open}
use Rattle.whole_paths.specs.Syns.{SynGoesOn as heard}
use Rattle.whole_paths.specs.AsFar.{stage}
use Rattle.whole_paths.proofs.Reached.{EndsAreReached, each_is_reached}
use Rattle.whole_paths.specs.Timers.{TimersAreNear}
use Rattle.whole_paths.proofs.ClearFirst.{b_is_clear_first}
use Rattle.whole_paths.proofs.Clearing.{clear_ends_are_past}
use Rattle.whole_paths.proofs.Opened.{further, held_so, no_round_opens}
use Rattle.whole_paths.proofs.RecordWaits.{clock_is, path_is, with_both}
use Rattle.whole_paths.proofs.SynAcks.{each_syn_ack_is_answered}
use Rattle.whole_paths.proofs.Syns.{each_syn_comes}
use Rattle.whole_paths.proofs.Timing.{timers_run_out}

-- ---- states

half_low : {state : EndPhase} → state ≡ phase.SynReceived → stage state ≤ 2
half_low is = let low = ap stage is in omega (arith, low)

pub to_open_low : (s : Side) (p : PathState Carried) → IsToOpen s p → stage p.b.tcp.state ≤ 2
to_open_low s p (to_open.asks own sent listens) = let low = ap stage listens in omega (arith, low)
to_open_low s p (to_open.answers own sent half) = half_low half

a_low : {s : Side} {p : PathState Carried} → IsToOpen s p → stage p.a.tcp.state ≤ 2
a_low (to_open.asks own sent listens) = let low = ap stage sent in omega (arith, low)
a_low (to_open.answers own sent half) = let low = ap stage sent in omega (arith, low)

some_of : {s : Side} {p : PathState Carried} → IsToOpen s p → 1 ≤ stage p.a.tcp.state
some_of (to_open.asks own sent listens) = let low = ap stage sent in omega (arith, low)
some_of (to_open.answers own sent half) = let low = ap stage sent in omega (arith, low)

-- ---- a turn

module _ (start : Start) (mild : IsMildStart start) (turns : List Turn) (turn : Turn) where
  abbrev w : WorldState Carried
  w = reached values start turns

  abbrev v : WorldState Carried
  v = after_turn values turn w

  abbrev Rises : Type 0
  Rises = opened_or_harmed start turns < opened_or_harmed start (turns ++ turn ∷ [])

  module _ (before : IsNow IsAlive w) (after : IsNow IsAlive v) where
    abbrev p : PathState Carried
    p = before.path

    abbrev q : PathState Carried
    q = after.path

    abbrev Next : ℕ → Type 0
    Next x = Rises ⊎ (AHasFinished start turns ⊎ IsOpeningAwaited x q)

    -- until B's end is past the handshake neither may send a DSS
    unclear : stage p.b.tcp.state ≤ 2 → (s : Side) → (end_at s p).modes.clear ≡ false
    unclear low = elim [ A ↦ by_a p.a.modes.clear refl | B ↦ by_b p.b.modes.clear refl ]
      where
        never_b : p.b.modes.clear ≡ true → ⊥
        never_b is = let past = (subst (HoldsOfKind (λ app. Unit {0}) IsPastIfClear) before.here.is (clear_ends_are_past values start turns 2 before.here.crew before.here.there)) before.faithful.joined B is in omega (arith, past, low)

        by_b : (b : Bool) → p.b.modes.clear ≡ b → b ≡ false
        by_b false is = refl
        by_b true is = absurd (never_b is)

        by_a : (b : Bool) → p.a.modes.clear ≡ b → b ≡ false
        by_a false is = refl
        by_a true is = absurd (never_b (b_is_clear_first start turns mild p before.here is))

    syn_by : (s : Side) (x : ℕ) → IsToOpen s p → SynGoesOn s x p q → Next x
    syn_by s x at (heard.on h) = inr (inr (syn s h))
    syn_by s x at (heard.further t more) = inl (further start mild turns turn before after t more (low_of t) (some_of at))
      where
        low_of : (t : Side) → stage (end_at t p).tcp.state ≤ 2
        low_of A = a_low at
        low_of B = to_open_low s p at
    syn_by s x at (heard.held_up h) = inl (held_so start mild turns turn before after (unclear (to_open_low s p at)) (some_of at) s h)

    answer_by : (x : ℕ) → IsToBeAnswered x p → SynAckGoesOn x p q → Next x
    answer_by x at (answered.on h) = inr (inr (answer h))
    answer_by x at (answered.further more) = inl (further start mild turns turn before after B more (half_low at.half_open) (let past = at.past in omega (arith, past)))
    answer_by x at (answered.held_up h) = inl (held_so start mild turns turn before after (unclear (half_low at.half_open)) (let past = at.past in omega (arith, past)) B h)
    answer_by x at (answered.finished h) = inr (inl (record { path = p; here = before.here; finished = h }))

    goes_on : (x : ℕ) → IsOpeningAwaited x p → Next x
    goes_on x (syn s h) = syn_by s x h.opens (with_both start mild turns turn before after SynsGoOn
        (each_syn_comes.goes_on start turns mild.plain.size mild.fit turn 2 before.here.crew before.here.there) before.faithful before.few s x h)
    goes_on x (answer h) = answer_by x h (with_both start mild turns turn before after SynAcksGoOn
        (each_syn_ack_is_answered.goes_on start turns mild turn before.here.crew before.here.there) before.faithful before.few x h)

-- ---- waits

module _ (start : Start) (most : ℕ) (mild : IsMildStart start) where
  turn_on : (x : ℕ) (v : List Turn) (turn : Turn) → IsAliveAfter start most v → IsAliveAfter start most (v ++ turn ∷ []) → AwaitsOpening start x v → OpeningGoesOn start most x v (v ++ turn ∷ [])
  turn_on x v turn before after h =
      let same = run_append values v (turn ∷ []) (opened_world start) in
      let then_now : IsNow IsAlive (after_turn values turn (reached values start v)) = subst (λ (y : WorldState Carried). IsNow IsAlive y) same after in
      let there : IsPathAt 0 (reached values start (v ++ turn ∷ [])) then_now.path = subst (λ (y : WorldState Carried). IsPathAt 0 y then_now.path) (sym same) then_now.here in
      ⊎_elim (λ rises. inl rises)
      (λ rest. inr (⊎_elim (λ done. inl done) (λ waits. inr (record { path = then_now.path; here = there; by = h.by; soon = h.soon; waits = waits })) rest))
      (goes_on start mild v turn before then_now h.by (subst (IsOpeningAwaited h.by) (path_is (reached values start v) h.path before.path h.here before.here) h.waits))

  steps_on : (x : ℕ) (v u : List Turn) → AliveSteps start most v u → AwaitsOpening start x v → OpeningGoesOn start most x v u
  steps_on x v u step h = subst (λ t. OpeningGoesOn start most x v t) (sym step.is) (turn_on x v (Turn.Step step.actor) step.before (subst (IsAliveAfter start most) step.is step.after) h)

  opens_on : (x : ℕ) (v u : List Turn) → AliveOpens start most v u → AwaitsOpening start x v → OpeningGoesOn start most x v u
  opens_on x v u step h = subst (λ t. OpeningGoesOn start most x v t) (sym step.is) (turn_on x v Turn.Round step.before (subst (IsAliveAfter start most) step.is step.after) h)

  -- ---- as a round begins

  module _ (v u : List Turn) (step : AliveOpens start most v u) where
    abbrev ended : WorldState Carried
    ended = reached values start v

    late_so : (x : ℕ) (p : PathState Carried) → IsPathAt 0 (reached values start u) p → x < p.clock → IsOpeningAwaited x p → ⊥
    late_so x p at late (syn s h) =
        let ends : SynsEnd p = subst (HoldsOfKind (λ app. Unit {0}) SynsEnd) at.is (each_syn_comes.end start u 2 at.crew at.there) in
        let low = ends s x h in omega (arith, low, late)
    late_so x p at late (answer h) =
        let ends : SynAcksEnd p = subst (HoldsOfKind (λ app. Unit {0}) SynAcksEnd) at.is (each_syn_ack_is_answered.end start u 2 at.crew at.there) in
        let low = ends x h in omega (arith, low, late)

    none_late : (x : ℕ) → AwaitsOpening start x v → x < round_end values start v → (opened_or_harmed start v < opened_or_harmed start u) ⊎ AHasFinished start v
    none_late x h late = ⊎_elim (λ rises. inl rises)
        (λ rest. ⊎_elim (λ done. inr done)
        (λ waits. absurd (late_so waits.by waits.path waits.here
        (let clock = clock_is 0 start most mild IsAlive (λ s. ⊥) (λ v p here h s no. absurd no) v u step waits.path waits.here in let soon = waits.soon in omega (arith, late, clock, soon)) waits.waits)) rest)
        (opens_on x v u step h)

    module _ (h : OpensStill start v) where
      near : TimersAreNear h.path
      near = subst (HoldsOfKind (λ app. Unit {0}) TimersAreNear) h.here.is ((timers_run_out values start v).each 2 h.here.crew h.here.there)

      until : h.path.until ≡ round_end values start v
      until = subst (EndsAt (round_end values start v)) h.here.is ((rounds_end_on_time values start v).each 2 h.here.crew h.here.there)

      silent : h.path.agenda ≡ []
      silent = nil_so h.path.agenda (subst (λ m. is_over m ≡ true) h.here.is (all_over_each ended.crew 2 h.here.crew step.over h.here.there))

      syns : SynsBegin h.path
      syns = subst (HoldsOfKind (λ app. Unit {0}) SynsBegin) h.here.is (each_syn_comes.begin start v mild.plain.size mild.fit h.here.crew h.here.there)

      syn_acks : SynAcksBegin h.path
      syn_acks = subst (HoldsOfKind (λ app. Unit {0}) SynAcksBegin) h.here.is (each_syn_ack_is_answered.begin start v mild.plain.size mild.fit h.here.crew h.here.there)

      -- before the handshake is done nothing is acknowledged
      unacknowledged : (s : Side) → stage (end_at s h.path).tcp.state ≤ 2 → (end_at s h.path).tcp.send.una ≡ 0
      unacknowledged s low = ((subst (HoldsOfKind (λ app. Unit {0}) EndsAreReached) h.here.is ((each_is_reached values start v).each 2 h.here.crew h.here.there)) s).opening low

      low_of : (s : Side) → IsToOpen s h.path → stage (end_at s h.path).tcp.state ≤ 2
      low_of s (to_open.asks own sent listens) = subst (λ t. stage (end_at t h.path).tcp.state ≤ 2) (sym own) (subst (λ state. stage state ≤ 2) (sym sent) (omega arith))
      low_of s (to_open.answers own sent half) = subst (λ t. stage (end_at t h.path).tcp.state ≤ 2) (sym own) (subst (λ state. stage state ≤ 2) (sym half) (omega arith))

      waiting : IsOpening h.path → AwaitsOpening start (round_end values start v + 60800) v
      waiting (opens.syn s at) = record {
        path = h.path;
        here = h.here;
        by = h.path.clock + 60000 + 400;
        soon = let clock = near.clock in omega (arith, clock, until);
        waits = syn s (syns silent s at (unacknowledged s (low_of s at)));
      }
      waiting (opens.answer past half) = record {
        path = h.path;
        here = h.here;
        by = h.path.clock + 60000 + 400 + 400;
        soon = let clock = near.clock in omega (arith, clock, until);
        waits = answer (syn_acks silent past half (unacknowledged B (subst (λ state. stage state ≤ 2) (sym half) (omega arith))));
      }

      wait_begins : AHasFinished start v ⊎ AwaitsOpening start (round_end values start v + 60800) u
      wait_begins = ⊎_elim
          (λ rises. absurd (no_round_opens start mild most v u step rises))
          (λ rest. rest)
          (opens_on (round_end values start v + 60800) v u step (waiting h.opening))

pub openings_are_awaited : OpeningsAreAwaited
openings_are_awaited start most mild = record {
  begins = λ v u step h. wait_begins start most mild v u step h;
  on = λ x v u step h. steps_on start most mild x v u step h;
  next = λ x v u step h. opens_on start most mild x v u step h;
  due = λ x v u step h late. none_late start most mild v u step x h late;
}

-- ---- which of them it is

which : (p : PathState Carried) → IsOfA p.a.tcp.state → IsOfB p.b.tcp.state → IsOpeningOrPast p
which p (of_a.waiting is) b = either_way.waiting is
which p (of_a.sent is) (of_b.listening at) = either_way.opening (opens.syn A (to_open.asks refl is at))
which p (of_a.sent is) (of_b.half_open at) = either_way.opening (opens.syn B (to_open.answers refl is at))
which p (of_a.sent is) (of_b.past high) = either_way.torn B high (subst (λ state. stage state ≤ 1) (sym is) (omega arith))
which p (of_a.past high) (of_b.listening at) = either_way.torn A high (subst (λ state. stage state ≤ 1) (sym at) (omega arith))
which p (of_a.past high) (of_b.half_open at) = either_way.opening (opens.answer high at)
which p (of_a.past high) (of_b.past higher) = either_way.past (elim [ A ↦ high | B ↦ higher ])

member_which : (m : Actor Carried) → HoldsOfKind (λ app. Unit {0}) (λ (p : PathState Carried). GoByTheHandshake p) m → HoldsOfKind (λ app. Unit {0}) IsOpeningOrPast m
member_which (App a) h = tt
member_which (Path p) h = which p h.a h.b

pub ends_open_or_are_past : EndsOpenOrArePast
ends_open_or_are_past start turns actor c there = member_which c.member ((ends_go_by_the_handshake values start turns).each actor c there)
