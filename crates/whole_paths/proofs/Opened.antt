-- By each turn between living ends path 0 gets no step back on its way to be open; and a step further, or a harm, is counted.
use Rattle.std.proofs.Common.{◌≡◌, refl, sym, subst, ap, ◌∙◌, ◌⊎◌, inl, inr, ⊎_elim, ℕ, zero, suc, ◌+◌, ◌<◌, ◌≤◌, arith, Bool, true, false, true≢false, if◌then◌else◌, Option, Some, List, [], ◌∷◌, ◌++◌}
use Rattle.std.specs.List.{slice_get}
use Rattle.std.proofs.lemmas.Bool.{both_ways, cases_lt}
use Rattle.sides.specs.declared.side.Side.{Side}
use Rattle.sides.specs.declared.side.Side.TheVariants.{A, B}
use Rattle.sides.specs.Side.{peer}
use Rattle.subflow_send.specs.Records.{Record, occupied}
use Rattle.subflow_send.specs.declared.record.RecordKind.{RecordKind}
use Rattle.subflow_send.specs.declared.record.RecordKind.TheVariants.{Data, Fin, Syn}
use Rattle.subflow_tcp.specs.States.{is_dead, may_finish}
use Rattle.subflow_tcp.specs.declared.handshake.State.{State as EndPhase}
use Rattle.subflow_tcp.specs.declared.handshake.State.TheVariants as phase
use Rattle.path_core.specs.State.{PathState, end_at}
use Rattle.path_core.specs.Values.{Carried, values}
use Rattle.world_laws.specs.declared.member.Member.TheVariants.{Path}
use Rattle.world_laws.specs.Actors.{Actor}
use Rattle.world_laws.specs.Members.{HoldsOfKind, of_kind}
use Rattle.world_laws.specs.Openings.{Start, opened_world}
use Rattle.world_laws.specs.RoundDone.{reached}
use Rattle.world_laws.specs.Worlds.{Turn, WorldState, after_turn}
use Rattle.world_laws.proofs.Weaving.WholeRounds.{run_append}
use Rattle.whole_paths.specs.AsFar.{IsActorAsFar, IsPathAsFar, stage}
use Rattle.whole_paths.specs.Came.{HasCome}
use Rattle.whole_paths.specs.Delivery.{HasFinished, FinishedIsThere, IsAllThere}
use Rattle.whole_paths.specs.Exchanges.{IsHeldUp}
use Rattle.whole_paths.specs.Exchanges.{IsHeldUp as held}
use Rattle.whole_paths.specs.Flights.{IsFirst}
use Rattle.whole_paths.specs.Finish.{IsPathAt, harms_between, harms_of, is_harmed}
use Rattle.whole_paths.specs.Courses.{counted}
use Rattle.whole_paths.specs.News.{news, one_if}
use Rattle.whole_paths.specs.News.{Counts as counts}
use Rattle.whole_paths.specs.OpenCourses.{IsNow}
use Rattle.whole_paths.specs.Opened.{OpensOn, opened_or_harmed, steps_in, steps_open}
use Rattle.whole_paths.specs.Opened.{OpensOn as opens}
use Rattle.whole_paths.specs.OpeningStates.{GoByTheHandshake, IsOfA, IsOfB}
use Rattle.whole_paths.specs.OpeningStates.{IsOfA as of_a}
use Rattle.whole_paths.specs.OpeningStates.{IsOfB as of_b}
use Rattle.whole_paths.specs.OpeningWaits.{AliveOpens, IsAlive, IsAliveAfter}
use Rattle.whole_paths.specs.Waits.{IsNews}
use Rattle.whole_paths.specs.Waits.{IsNews as is_news}
use Rattle.whole_paths.proofs.Came.{what_is_acknowledged_came}
use Rattle.whole_paths.proofs.ClearFirst.{b_is_clear_first}
use Rattle.whole_paths.proofs.Counted.{harmed_snoc, one_harmed}
use Rattle.whole_paths.proofs.Courses.{harmed_append}
use Rattle.whole_paths.proofs.DataLeft.{EndsAreBegun, each_is_begun}
use Rattle.whole_paths.proofs.EdgesStay.{nothing_comes_before}
use Rattle.whole_paths.proofs.EndsUntold.{a_is_told_no_end_before}
use Rattle.whole_paths.proofs.Exchanges.{Shown, each_shown}
use Rattle.whole_paths.proofs.FinishedThere.{each_finished_is_there}
use Rattle.whole_paths.proofs.FirstSigns.{asks_for_itself}
use Rattle.whole_paths.proofs.GoesOn.{goes_on_so}
use Rattle.whole_paths.proofs.GoingOn.{open_behind}
use Rattle.whole_paths.proofs.HeardWanted.{heard_is_wanted}
use Rattle.whole_paths.proofs.LoneFirst.{unjoined_so}
use Rattle.whole_paths.proofs.PositionCounts.{first_counts_bytes}
use Rattle.reassembly_book.specs.State.{received}
use Rattle.reassembly_book.specs.Steps.{is_end, next_wanted}
use Rattle.world_laws.specs.Promises.{arrived_at}
use Rattle.whole_paths.specs.Mild.{IsMildStart}
use Rattle.whole_paths.proofs.OpenCourses.{IsFirstPath, each_first}
use Rattle.whole_paths.proofs.OpeningStates.{ends_go_by_the_handshake}
use Rattle.whole_paths.proofs.Reached.{EndsAreReached, each_is_reached, first_left, first_reached}
use Rattle.whole_paths.proofs.News.{news_never_falls}
use Rattle.whole_paths.proofs.RecordWaits.{counts_so, with_both}
use Rattle.whole_paths.proofs.RoundBegins.{no_round_counts}
use Rattle.whole_paths.proofs.SendsEnds.{EndsClear, each_ends}

abbrev Of : (PathState Carried → Type 0) → Actor Carried → Type 0
Of P = HoldsOfKind (λ app. Unit {0}) P

-- ---- steps

one_up : (a b : Bool) → (a ≡ true → b ≡ true) → one_if a ≤ one_if b
one_up false b up = omega arith
one_up true b up = let one = ap one_if (up refl) in omega (arith, one)

-- of a world whose path 0 this is
pub steps_is : (w : WorldState Carried) (p : PathState Carried) → IsPathAt 0 w p → steps_in (slice_get w.crew 2) ≡ steps_open p
steps_is w p here = ap (λ o. steps_in o) here.there ∙ ap (λ m. of_kind (λ app. 0) steps_open m) here.is

pub one_most : (b : Bool) → one_if b ≤ 1
one_most true = omega arith
one_most false = omega arith

pub few_steps : (p : PathState Carried) → steps_open p ≤ 5
few_steps p = let a = one_most p.a.modes.clear in let b = one_most p.b.modes.clear in omega (arith, a, b)

living_low : (x : EndPhase) → is_dead x ≡ false → stage x ≤ 6
living_low phase.Dead living = absurd (true≢false living)
living_low phase.Waiting living = omega arith
living_low phase.Listen living = omega arith
living_low phase.SynSent living = omega arith
living_low phase.SynReceived living = omega arith
living_low phase.Established living = omega arith
living_low phase.FinWait1 living = omega arith
living_low phase.CloseWait living = omega arith
living_low phase.FinWait2 living = omega arith
living_low phase.Closing living = omega arith
living_low phase.LastAck living = omega arith
living_low phase.TimeWait living = omega arith

-- no step of A's but past the handshake, and of B's two
a_past : (x : EndPhase) → IsOfA x → 1 < stage x → 3 ≤ stage x
a_past x (of_a.waiting is) more = absurd (let low = ap stage is in omega (arith, low, more))
a_past x (of_a.sent is) more = absurd (let low = ap stage is in omega (arith, low, more))
a_past x (of_a.past high) more = high

b_met : (x : EndPhase) → IsOfB x → 0 < stage x → 2 ≤ stage x
b_met x (of_b.listening is) more = absurd (let low = ap stage is in omega (arith, low, more))
b_met x (of_b.half_open is) more = let low = ap stage is in omega (arith, low)
b_met x (of_b.past high) more = omega (arith, high)

-- ---- a moment

module _ (start : Start) (mild : IsMildStart start) where
  -- what is known of path 0 after these turns
  module _ (turns : List Turn) (p : PathState Carried) (here : IsPathAt 0 (reached values start turns) p) (alive : IsAlive p) where
    came : HasCome p
    came = subst (Of HasCome) here.is ((what_is_acknowledged_came start turns).each 2 here.crew here.there)

    handshake : GoByTheHandshake p
    handshake = subst (Of GoByTheHandshake) here.is ((ends_go_by_the_handshake values start turns).each 2 here.crew here.there)

    reached_so : EndsAreReached p
    reached_so = subst (Of EndsAreReached) here.is ((each_is_reached values start turns).each 2 here.crew here.there)

    begun : EndsAreBegun p
    begun = subst (Of EndsAreBegun) here.is ((each_is_begun values start turns).each 2 here.crew here.there)

    pub edge_first : (s : Side) → (end_at s p).modes.clear ≡ false → (end_at s p).tcp.recv.edge ≡ 1
    edge_first = nothing_comes_before start turns mild p here alive

    -- of an end whose peer may send no DSS
    module _ (s : Side) (unsure : (end_at (peer s) p).modes.clear ≡ false) where
      una_low : (end_at s p).tcp.send.una ≤ 1
      una_low = let low = came.una s (alive.living s) in let edge = edge_first (peer s) unsure in omega (arith, low, edge)

      -- where its SYN is acknowledged its handshake is done, and the other way round
      past_so : 1 ≤ (end_at s p).tcp.send.una → 3 ≤ stage (end_at s p).tcp.state
      past_so some = ⊎_elim (λ low. absurd (let none = (reached_so s).opening (omega (arith, low)) in omega (arith, none, some))) (λ high. high) (cases_lt (stage (end_at s p).tcp.state) 3)

      met_so : (end_at s p).tcp.send.una ≡ 0 → stage (end_at s p).tcp.state ≤ 2
      met_so none = ⊎_elim (λ low. omega (arith, low)) (λ high. absurd (let some = (begun s).past high (living_low (end_at s p).tcp.state (alive.living s)) in omega (arith, some, none))) (cases_lt (stage (end_at s p).tcp.state) 3)

    -- A's side is told no end of B's stream
    pub b_missing : p.a.modes.clear ≡ false → IsAllThere B (reached values start turns) → ⊥
    b_missing unclear all = let none = a_is_told_no_end_before start turns mild p here unclear in let some = all.known in cc

    -- nothing of its stream is acknowledged
    pub unheard : (s : Side) → (end_at (peer s) p).modes.clear ≡ false → ((end_at s p).sending.heard ≡ 0) × ((end_at s p).sending.close.own_acked ≡ false)
    unheard A unsure = (heard_none, never p.a.sending.close.own_acked refl)
      where
        ends : EndsClear p
        ends = subst (Of EndsClear) here.is ((each_ends start mild turns).each here.crew here.there)

        may_not : p.a.modes.clear ≡ true → ⊥
        may_not clear = both_ways p.b.modes.clear unsure (b_is_clear_first start turns mild p here clear)

        heard_none : p.a.sending.heard ≡ 0
        heard_none = ⊎_elim (λ some. absurd (may_not (ends.heard some))) (λ none. omega (arith, none)) (cases_lt 0 p.a.sending.heard)

        never : (b : Bool) → p.a.sending.close.own_acked ≡ b → b ≡ false
        never false is = refl
        never true is = absurd (may_not (ends.acked is))
    unheard B unclear = (heard_none, never p.b.sending.close.own_acked refl)
      where
        w : WorldState Carried
        w = reached values start turns

        heard_none : p.b.sending.heard ≡ 0
        heard_none =
            let heard = heard_is_wanted start turns mild p here B in
            let none = a_is_told_no_end_before start turns mild p here unclear in
            let came = (first_counts_bytes start turns mild (unjoined_so start turns p here unclear) p here B).came in
            let edge = edge_first A unclear in
            let wants : next_wanted (arrived_at A w) ≡ 0 = ap (λ (o : Option ℕ). received (arrived_at A w) + (if is_end o (received (arrived_at A w)) then 1 else 0)) none ∙ omega (arith, came, edge) in
            omega (arith, heard, wants)

        there : FinishedIsThere (reached values start turns) p
        there = subst (Of (FinishedIsThere (reached values start turns))) here.is (each_finished_is_there start turns mild 2 here.crew here.there)

        never : (b : Bool) → p.b.sending.close.own_acked ≡ b → b ≡ false
        never false is = refl
        never true is = absurd (b_missing unclear (there B (HasFinished.acknowledged is)))

    first : IsFirstPath start p
    first = subst (Of (IsFirstPath start)) here.is (each_first start turns mild.plain.size here.crew here.there)

    -- B's first record is its first piece
    pub first_of_b : p.a.modes.clear ≡ false → 3 ≤ stage p.b.tcp.state → (r : Record) → IsFirst r p.b → (r.kind ≡ Data) × (r.pos ≡ 1)
    first_of_b unclear past r h = by h.first.kind refl
      where
        missing : HasFinished p.b → ⊥
        missing done = b_missing unclear ((subst (Of (FinishedIsThere (reached values start turns))) here.is (each_finished_is_there start turns mild 2 here.crew here.there)) B done)

        unfinished : p.b.tcp.send.finished ≡ false
        unfinished = by (may_finish p.b.tcp.state) refl
          where
            by : (b : Bool) → may_finish p.b.tcp.state ≡ b → p.b.tcp.send.finished ≡ false
            by true may = first.may B may
            by false behind = absurd (missing (HasFinished.sent_fin (open_behind p.b.tcp.state past (alive.living B) behind) (alive.living B)))

        at_first : slice_get p.b.tcp.send.records 0 ≡ Some h.first
        at_first = ap (λ (rs : List Record). slice_get rs 0) h.records

        some : 1 ≤ p.b.tcp.send.una
        some = (begun B).past past (living_low p.b.tcp.state (alive.living B))

        shown : Shown p
        shown = subst (Of Shown) here.is (each_shown start turns mild.plain.size mild.fit 2 here.crew here.there)

        by : (k : RecordKind) → h.first.kind ≡ k → (r.kind ≡ Data) × (r.pos ≡ 1)
        by Data kind = (
          sym h.same.kind ∙ kind,
          (
              let behind = shown.behind B h.first h.others h.records kind in let low = first_reached p.b.tcp h.first h.others (reached_so B) h.records in
              let few = una_low B unclear in let same = h.same.pos in omega (arith, behind, low, few, same)),
        )
        by Fin kind = absurd ((first.kinds B unfinished).each 0 h.first at_first kind)
        by Syn kind = absurd (
            let zero_pos = (begun B).syns.each 0 h.first at_first kind in let size = ap (λ k. occupied k h.first.piece) kind in
            ⊎_elim (λ left. omega (arith, left, zero_pos, size, some)) (λ empty. omega (arith, empty, size)) (first_left p.b.tcp h.first h.others (reached_so B) h.records))

    no_third : (s : Side) → (end_at s p).modes.owes_third ≡ false
    no_third s = (asks_for_itself s start turns mild p here).0 first.first

  -- ---- a turn

  module _ (turns : List Turn) (turn : Turn) (before : IsNow IsAlive (reached values start turns)) (after : IsNow IsAlive (after_turn values turn (reached values start turns))) where
    abbrev p : PathState Carried
    p = before.path

    abbrev q : PathState Carried
    q = after.path

    abbrev later : List Turn
    later = turns ++ turn ∷ []

    abbrev Rises : Type 0
    Rises = opened_or_harmed start turns < opened_or_harmed start later

    same : reached values start later ≡ after_turn values turn (reached values start turns)
    same = run_append values turns (turn ∷ []) (opened_world start)

    pub there : IsPathAt 0 (reached values start later) q
    there = subst (λ (w : WorldState Carried). IsPathAt 0 w q) (sym same) after.here

    pub far : IsPathAsFar p q
    far = with_both start mild turns turn before after IsActorAsFar (let found = (goes_on_so values (reached values start turns) (turn ∷ [])).crew 2 before.here.crew before.here.there in (found.0, found.1, found.2.member))

    steps_up : steps_open p ≤ steps_open q
    steps_up =
        let a = far.a.subflow.state in let b = far.b.subflow.state in
        let c = one_up p.a.modes.clear q.a.modes.clear far.a.clear in let d = one_up p.b.modes.clear q.b.modes.clear far.b.clear in omega (arith, a, b, c, d)

    by_steps : steps_open p < steps_open q → Rises
    by_steps up =
        let was = steps_is (reached values start turns) p before.here in let now = steps_is (reached values start later) q there in
        let harms = harmed_append values 0 turns (turn ∷ []) (opened_world start) in omega (arith, up, was, now, harms)

    by_harm : (t : Side) → is_harmed t p q ≡ true → Rises
    by_harm t is =
        let was = steps_is (reached values start turns) p before.here in let now = steps_is (reached values start later) q there in
        let up = steps_up in let one = one_harmed t p q is in
        let harms = harmed_snoc turns turn (opened_world start) in let between = between_is in omega (arith, up, was, now, one, harms, between)
      where
        between_is : harms_of (slice_get (reached values start turns).crew 2) (slice_get (after_turn values turn (reached values start turns)).crew 2) ≡ harms_between (Path p) (Path q)
        between_is = ap (λ o. harms_of o (slice_get (after_turn values turn (reached values start turns)).crew 2)) before.here.there ∙ ap (λ o. harms_of (Some before.here.crew) o) after.here.there
            ∙ ap (λ m. harms_between m after.here.crew.member) before.here.is ∙ ap (λ n. harms_between (Path p) n) after.here.is

    pub never_falls : opened_or_harmed start turns ≤ opened_or_harmed start later
    never_falls =
        let was = steps_is (reached values start turns) p before.here in let now = steps_is (reached values start later) q there in
        let up = steps_up in let harms = harmed_append values 0 turns (turn ∷ []) (opened_world start) in omega (arith, up, was, now, harms)

    by_clears : (s : Side) → (end_at s p).modes.clear ≡ false → (end_at s q).modes.clear ≡ true → Rises
    by_clears A unclear clear = by_steps (
        let a = far.a.subflow.state in let b = far.b.subflow.state in let d = one_up p.b.modes.clear q.b.modes.clear far.b.clear in
        let none = ap one_if unclear in let one = ap one_if clear in omega (arith, a, b, d, none, one))
    by_clears B unclear clear = by_steps (
        let a = far.a.subflow.state in let b = far.b.subflow.state in let d = one_up p.a.modes.clear q.a.modes.clear far.a.clear in
        let none = ap one_if unclear in let one = ap one_if clear in omega (arith, a, b, d, none, one))

    -- an end goes further that isn't past the handshake
    pub further : (s : Side) → stage (end_at s p).tcp.state < stage (end_at s q).tcp.state → stage (end_at s p).tcp.state ≤ 2 → 1 ≤ stage p.a.tcp.state → Rises
    further A more low some = by_steps (
        let b = far.b.subflow.state in let c = one_up p.a.modes.clear q.a.modes.clear far.a.clear in let d = one_up p.b.modes.clear q.b.modes.clear far.b.clear in
        let high = a_past q.a.tcp.state (handshake later q there after.is_open).a (omega (arith, some, more)) in omega (arith, b, c, d, high, low))
    further B more low some = by_steps (
        let a = far.a.subflow.state in let c = one_up p.a.modes.clear q.a.modes.clear far.a.clear in let d = one_up p.b.modes.clear q.b.modes.clear far.b.clear in
        let high = b_met q.b.tcp.state (handshake later q there after.is_open).b (omega (arith, more)) in
        let was = ⊎_elim (λ none. inl none) (λ met. inr (b_met p.b.tcp.state (handshake turns p before.here before.is_open).b met)) (cases_zero (stage p.b.tcp.state)) in
        ⊎_elim (λ none. omega (arith, a, c, d, high, none)) (λ met. omega (arith, a, c, d, more, met, low)) was)
      where
        cases_zero : (n : ℕ) → (n ≡ 0) ⊎ (0 < n)
        cases_zero zero = inl refl
        cases_zero (suc n) = inr (omega arith)

    -- the end may send a DSS now, or it is as it was
    clears_or : (s : Side) → (end_at s p).modes.clear ≡ false → ((end_at s q).modes.clear ≡ false → Rises) → Rises
    clears_or s unclear still = by (end_at s q).modes.clear refl
      where
        by : (b : Bool) → (end_at s q).modes.clear ≡ b → Rises
        by true is = by_clears s unclear is
        by false is = still is

    comes_so : (s : Side) → (end_at s p).modes.clear ≡ false → (end_at s p).tcp.recv.edge < (end_at s q).tcp.recv.edge → Rises
    comes_so s unclear more = clears_or s unclear (λ still. absurd (
        let was = edge_first turns p before.here before.is_open s unclear in let now = edge_first later q there after.is_open s still in omega (arith, was, now, more)))

    news_so : (s : Side) → (end_at (peer s) p).modes.clear ≡ false → 1 ≤ stage p.a.tcp.state → IsNews (end_at s p) (end_at s q) → Rises
    news_so s unsure some news = clears_or (peer s) unsure (λ still. by still news)
      where
        by : (end_at (peer s) q).modes.clear ≡ false → IsNews (end_at s p) (end_at s q) → Rises
        by still (is_news.on_subflow more) =
            let few = una_low later q there after.is_open s still in
            let low = met_so turns p before.here before.is_open s unsure (omega (arith, few, more)) in
            let high = past_so later q there after.is_open s still (omega (arith, more)) in further s (omega (arith, low, high)) low some
        by still (is_news.on_stream more) = absurd (let none = (unheard later q there after.is_open s still).0 in omega (arith, none, more))
        by still (is_news.data_fin was is) = absurd (both_ways (end_at s q).sending.close.own_acked (unheard later q there after.is_open s still).1 is)
        by still (is_news.opened low high) = further s (omega (arith, low, high)) (omega (arith, low)) some
        by still (is_news.third is was) = absurd (both_ways (end_at s p).modes.owes_third (no_third turns p before.here before.is_open s) is)

    gone_so : (t : Side) → (is_dead (end_at t p).tcp.state ≡ true) ⊎ (is_dead (end_at t q).tcp.state ≡ true) → Rises
    gone_so t (inl dead) = absurd (both_ways (is_dead (end_at t p).tcp.state) (before.is_open.living t) dead)
    gone_so t (inr dead) = absurd (both_ways (is_dead (end_at t q).tcp.state) (after.is_open.living t) dead)

    pub opens_so : 1 ≤ stage p.a.tcp.state → OpensOn p q → Rises
    opens_so some (opens.clears s unclear clear) = by_clears s unclear clear
    opens_so some (opens.comes s unclear more) = comes_so s unclear more
    opens_so some (opens.news s unsure news) = news_so s unsure some news
    opens_so some (opens.harmed t is) = by_harm t is
    opens_so some (opens.gone t dead) = gone_so t dead

    -- where neither end may send a DSS
    pub held_so : ((s : Side) → (end_at s p).modes.clear ≡ false) → 1 ≤ stage p.a.tcp.state → (s : Side) → IsHeldUp s p q → Rises
    held_so unclear some s (held.news news) = news_so s (unclear (peer s)) some news
    held_so unclear some s (held.more_came more) = comes_so s (unclear s) more
    held_so unclear some s (held.harmed t is) = by_harm t is
    held_so unclear some s (held.gone t dead) = gone_so t dead
    held_so unclear some s (held.dies line next is dead) = gone_so A (inr dead)

    -- a step further counts, whatever else is counted
    step_counts : steps_open p < steps_open q → counted values start turns < counted values start later
    step_counts up = ⊎_elim (λ more. by_counts (counts.further A more)) (λ none_a.
        ⊎_elim (λ more. by_counts (counts.further B more)) (λ none_b.
        ⊎_elim (λ is. by_counts (counts.clears A is.0 is.1)) (λ same_a.
        ⊎_elim (λ is. by_counts (counts.clears B is.0 is.1)) (λ same_b. absurd (omega (arith, up, none_a, none_b, same_a, same_b)))
        (clear_or p.b.modes.clear q.b.modes.clear refl refl))
        (clear_or p.a.modes.clear q.a.modes.clear refl refl))
        (cases_lt (stage p.b.tcp.state) (stage q.b.tcp.state)))
        (cases_lt (stage p.a.tcp.state) (stage q.a.tcp.state))
      where
        by_counts : counts p q → counted values start turns < counted values start later
        by_counts = counts_so start mild turns turn before after

        clear_or : (a b : Bool) {x y : Bool} → x ≡ a → y ≡ b → ((x ≡ false) × (y ≡ true)) ⊎ (one_if y ≤ one_if x)
        clear_or false true is_a is_b = inl (is_a, is_b)
        clear_or true b is_a is_b = inr (let one = ap one_if is_a in let most = one_most b in let same_b = ap one_if is_b in omega (arith, one, most, same_b))
        clear_or false false is_a is_b = inr (let none = ap one_if is_b in omega (arith, none))

  -- as a round begins nothing is
  pub no_round_opens : (most : ℕ) (v u : List Turn) → AliveOpens start most v u → opened_or_harmed start v < opened_or_harmed start u → ⊥
  no_round_opens most v u step rises =
      let after = subst (IsAliveAfter start most) step.is step.after in
      let now : IsNow IsAlive (after_turn values Turn.Round (reached values start v)) = subst (λ (w : WorldState Carried). IsNow IsAlive w) (run_append values v (Turn.Round ∷ []) (opened_world start)) after in
      never step.before now (subst (λ ts. opened_or_harmed start v < opened_or_harmed start ts) step.is rises)
    where
      never : (before : IsNow IsAlive (reached values start v)) (now : IsNow IsAlive (after_turn values Turn.Round (reached values start v)))
          → opened_or_harmed start v < opened_or_harmed start (v ++ Turn.Round ∷ []) → ⊥
      never before now more =
          let same = no_round_counts start 0 v step.over in
          let was = steps_is (reached values start v) before.path before.here in let is = steps_is (reached values start (v ++ Turn.Round ∷ [])) now.path (there v Turn.Round before now) in
          let harms = harmed_append values 0 v (Turn.Round ∷ []) (opened_world start) in
          let up : news start (reached values start v) ≤ news start (reached values start (v ++ Turn.Round ∷ [])) = subst (λ (w : WorldState Carried). news start (reached values start v) ≤ news start w)
          (sym (run_append values v (Turn.Round ∷ []) (opened_world start))) (news_never_falls values start v (Turn.Round ∷ [])) in
          ⊎_elim (λ step_up. let counts = step_counts v Turn.Round before now step_up in omega (arith, counts, same))
          (λ none. omega (arith, more, none, was, is, harms, up, same))
          (cases_lt (steps_open before.path) (steps_open now.path))
