-- While no end of path 0 is dead it opens: each wait of the opening ends in time, or the path is a step further, or a segment was harmed.
use Rattle.std.proofs.Common.{◌≡◌, refl, sym, subst, ap, ◌∙◌, ◌⊎◌, ⊎_elim, inl, inr, ℕ, ◌+◌, ◌*◌, ◌<◌, ◌≤◌, arith, Bool, true, false, true≢false, Option, None, Some, is_some, List, [], ◌∷◌, ◌++◌}
use Rattle.std.specs.List.{slice_get}
use Rattle.std.proofs.lemmas.Bool.{both_ways, cases_lt}
use Rattle.std.proofs.lemmas.List.{append-nil}
use Rattle.sides.specs.declared.side.Side.{Side}
use Rattle.sides.specs.declared.side.Side.TheVariants.{A, B}
use Rattle.subflow_send.specs.Records.{Record}
use Rattle.subflow_tcp.specs.States.{is_closed_to_segments, is_dead}
use Rattle.subflow_tcp.specs.declared.handshake.State.{State}
use Rattle.subflow_tcp.specs.declared.handshake.State.TheVariants as phase
use Rattle.path_core.specs.MpJoin.{is_joined}
use Rattle.path_core.specs.Standing.{is_connected}
use Rattle.path_core.specs.State.{PathState, end_at}
use Rattle.path_core.specs.Values.{Carried, values}
use Rattle.world_laws.specs.declared.member.Member.TheVariants.{App, Path}
use Rattle.world_laws.specs.Actors.{Actor, ActorCrew, is_over}
use Rattle.world_laws.specs.Members.{HoldsOfKind, of_kind}
use Rattle.world_laws.specs.Openings.{Start, opened_world}
use Rattle.world_laws.specs.Promises.{written_by}
use Rattle.world_laws.specs.RoundDone.{reached}
use Rattle.world_laws.specs.RoundNumbers.{BeginsRound}
use Rattle.world_laws.specs.Worlds.{Turn, WorldState, after_turn, all_over, world_run}
use Rattle.world_laws.proofs.Rounds.Lifting.{all_over_each}
use Rattle.world_laws.proofs.Weaving.WholeRounds.{run_append}
use Rattle.whole_paths.specs.AsFar.{IsPathAsFar, stage}
use Rattle.whole_paths.specs.Clear.{IsPastIfClear}
use Rattle.whole_paths.specs.Courses.{course_of, harmed_so_far, round_end}
use Rattle.whole_paths.specs.Finish.{IsPathAt, IsWhole}
use Rattle.whole_paths.specs.GoingOn.{steps_of}
use Rattle.whole_paths.specs.Mild.{HasKeys, IsMildStart, treats_answer}
use Rattle.whole_paths.specs.News.{one_if}
use Rattle.whole_paths.specs.OpenCourses.{IsNow}
use Rattle.whole_paths.specs.Opened.{OpensOn, opened_or_harmed, steps_in, steps_open}
use Rattle.whole_paths.specs.OpeningCourses.{AwaitsAStep, HasBegun, IsFromB, IsInRound, IsOpenOrDone, IsOpeningStill}
use Rattle.whole_paths.specs.OpeningCourses.IsOpeningStill.{opening, sign, writes, sends}
use Rattle.whole_paths.specs.OpeningWaits.{AHasFinished, AliveOpens, AliveSteps, AwaitsOpening, IsAlive, IsAliveAfter, IsOpening, IsOpeningAwaited, OpeningIsAwaited}
use Rattle.whole_paths.specs.OpeningWaits.{IsOpening as opens}
use Rattle.whole_paths.specs.PaidCourses.{PaidExchanges}
use Rattle.whole_paths.specs.PaidRounds.{AWaitBegins, AWaitGoesOn}
use Rattle.whole_paths.specs.Reasons.{IsOutstanding}
use Rattle.whole_paths.specs.Serving.{ServesAt}
use Rattle.whole_paths.specs.SignPieces.{WantsASign}
use Rattle.whole_paths.specs.SignWaits.{FirstSignIsAwaited, IsToShow}
use Rattle.whole_paths.specs.SignWaits.{IsToShow as shows}
use Rattle.whole_paths.specs.Straying.{IsOpenFrom}
use Rattle.whole_paths.proofs.ClearFirst.{b_is_clear_first}
use Rattle.whole_paths.proofs.Clearing.{clear_ends_are_past}
use Rattle.whole_paths.proofs.Courses.{harmed_append, round_next, round_step}
use Rattle.whole_paths.proofs.Delivery.{what_is_there_stays}
use Rattle.whole_paths.proofs.FirstSigns.{asks_for_its_end}
use Rattle.whole_paths.proofs.FirstWindows.{b_is_idle_before}
use Rattle.whole_paths.proofs.FirstAsks.{b_has_something}
use Rattle.whole_paths.proofs.Flying.{same_record}
use Rattle.whole_paths.proofs.GoesOn.{goes_on_so}
use Rattle.whole_paths.proofs.GoingOn.{one_more, prefix_up}
use Rattle.whole_paths.proofs.Handshaking.{living_ends_open_or_are_past}
use Rattle.whole_paths.proofs.InTime.{nil_so}
use Rattle.whole_paths.proofs.Keyed.{keys_are_known}
use Rattle.whole_paths.proofs.KeysCome.{the_first_piece_waits}
use Rattle.whole_paths.proofs.ManyGoingOn.{has_written}
use Rattle.whole_paths.proofs.OpenCourses.{IsFirstPath, each_first}
use Rattle.whole_paths.proofs.Opened.{edge_first, far, few_steps, first_of_b, never_falls, no_round_opens, one_most, opens_so, steps_is, there}
use Rattle.whole_paths.proofs.OpeningWaits.{openings_are_awaited, to_open_low}
use Rattle.whole_paths.proofs.RecordWaits.{path_is}
use Rattle.whole_paths.proofs.SendsEnds.{who_is_done_is_clear}
use Rattle.whole_paths.proofs.SignWaits.{first_signs_are_awaited}

-- ---- states

pub connected_past : (x : State) → 3 ≤ stage x → is_dead x ≡ false → is_connected x ≡ true
connected_past phase.Waiting high living = absurd (omega (arith, high))
connected_past phase.Listen high living = absurd (omega (arith, high))
connected_past phase.SynSent high living = absurd (omega (arith, high))
connected_past phase.SynReceived high living = absurd (omega (arith, high))
connected_past phase.Dead high living = absurd (true≢false living)
connected_past _ high living = refl

open_past : (x : State) → 3 ≤ stage x → is_dead x ≡ false → is_closed_to_segments x ≡ false
open_past phase.Waiting high living = absurd (omega (arith, high))
open_past phase.Listen high living = absurd (omega (arith, high))
open_past phase.Dead high living = absurd (true≢false living)
open_past _ high living = refl

both_past : (p q : PathState Carried) → IsPathAsFar p q → ((s : Side) → 3 ≤ stage (end_at s p).tcp.state) → (s : Side) → 3 ≤ stage (end_at s q).tcp.state
both_past p q far past A = let low = past A in let up = far.a.subflow.state in omega (arith, low, up)
both_past p q far past B = let low = past B in let up = far.b.subflow.state in omega (arith, low, up)

module _ (start : Start) (most : ℕ) (mild : IsMildStart start) (some : 1 ≤ start.buffer) (serves : (turns : List Turn) → ServesAt 0 (reached values start turns)) where
  abbrev at : List Turn → WorldState Carried
  at turns = reached values start turns

  abbrev count : List Turn → ℕ
  count turns = opened_or_harmed start turns

  abbrev Over : List Turn → Type 0
  Over turns = IsOpenOrDone (at turns)

  abbrev Awaits : ℕ → List Turn → Type 0
  Awaits x turns = IsOpeningStill start x turns

  openings : OpeningIsAwaited start most
  openings = openings_are_awaited start most mild

  firsts : FirstSignIsAwaited start most
  firsts = first_signs_are_awaited start most mild

  -- ---- a turn

  module _ (v : List Turn) (t : Turn) (before : IsAliveAfter start most v) (after : IsAliveAfter start most (v ++ t ∷ [])) where
    same : at (v ++ t ∷ []) ≡ after_turn values t (at v)
    same = run_append values v (t ∷ []) (opened_world start)

    then_now : IsNow IsAlive (after_turn values t (at v))
    then_now = subst (λ (y : WorldState Carried). IsNow IsAlive y) same after

    then_there : IsPathAt 0 (at (v ++ t ∷ [])) then_now.path
    then_there = there start mild v t before then_now

    far_now : IsPathAsFar before.path then_now.path
    far_now = far start mild v t before then_now

    up_now : count v ≤ count (v ++ t ∷ [])
    up_now = never_falls start mild v t before then_now

    -- a path that is whole stays so
    whole_on : IsWhole 0 (at v) → IsWhole 0 (at (v ++ t ∷ []))
    whole_on whole =
        let p_is = path_is (at v) whole.path before.path whole.here before.here in
        let past : (s : Side) → 3 ≤ stage (end_at s before.path).tcp.state = λ s. subst (λ (p : PathState Carried). 3 ≤ stage (end_at s p).tcp.state) p_is (connected_far (end_at s whole.path).tcp.state (whole.connected s)) in
        let clear : (s : Side) → (end_at s before.path).modes.clear ≡ true = λ s. subst (λ (p : PathState Carried). (end_at s p).modes.clear ≡ true) p_is (whole.clear s) in
        record {
          path = then_now.path;
          here = then_there;
          connected = λ s. connected_past (end_at s then_now.path).tcp.state (both_past before.path then_now.path far_now past s) (then_now.is_open.living s);
          clear = elim [ A ↦ far_now.a.clear (clear A) | B ↦ far_now.b.clear (clear B) ];
        }
      where
        connected_far : (x : State) → is_connected x ≡ true → 3 ≤ stage x
        connected_far phase.Waiting is = absurd (true≢false (sym is))
        connected_far phase.Listen is = absurd (true≢false (sym is))
        connected_far phase.SynSent is = absurd (true≢false (sym is))
        connected_far phase.SynReceived is = absurd (true≢false (sym is))
        connected_far phase.Dead is = absurd (true≢false (sym is))
        connected_far _ is = omega arith

    pub over_on : Over v → Over (v ++ t ∷ [])
    over_on (inl whole) = inl (whole_on whole)
    over_on (inr all) = inr (record { of = λ s. what_is_there_stays start v (t ∷ []) mild s (all.of s) })

    -- and one that is open from B on, or A may send a DSS
    from_on : IsFromB start v → (count v < count (v ++ t ∷ [])) ⊎ IsFromB start (v ++ t ∷ [])
    from_on h = by then_now.path.a.modes.clear refl
      where
        from_before : IsOpenFrom B before.path
        from_before = subst (IsOpenFrom B) (path_is (at v) h.path before.path h.here before.here) h.from

        unclear_before : before.path.a.modes.clear ≡ false
        unclear_before = subst (λ (p : PathState Carried). p.a.modes.clear ≡ false) (path_is (at v) h.path before.path h.here before.here) h.unclear

        by : (b : Bool) → then_now.path.a.modes.clear ≡ b → (count v < count (v ++ t ∷ [])) ⊎ IsFromB start (v ++ t ∷ [])
        by true is = inl (opens_so start mild v t before then_now (let past = from_before.past A in omega (arith, past)) (OpensOn.clears A unclear_before is))
        by false is = inr (record {
          path = then_now.path;
          here = then_there;
          from = record {
            first = then_now.faithful.joined;
            past = both_past before.path then_now.path far_now from_before.past;
            living = then_now.is_open.living;
            clear = far_now.b.clear from_before.clear;
            sure = far_now.b.clear from_before.sure;
            keyed = far_now.a.keyed from_before.keyed;
          };
          unclear = is;
        })

  steps_from : (v u : List Turn) → AliveSteps start most v u → IsFromB start v → (count v < count u) ⊎ IsFromB start u
  steps_from v u step h = subst (λ t. (count v < count t) ⊎ IsFromB start t) (sym step.is) (from_on v (Turn.Step step.actor) step.before (subst (IsAliveAfter start most) step.is step.after) h)

  opens_from : (v u : List Turn) → AliveOpens start most v u → IsFromB start v → (count v < count u) ⊎ IsFromB start u
  opens_from v u step h = subst (λ t. (count v < count t) ⊎ IsFromB start t) (sym step.is) (from_on v Turn.Round step.before (subst (IsAliveAfter start most) step.is step.after) h)

  up_later : (v u : List Turn) (t : Turn) → u ≡ v ++ t ∷ [] → IsAliveAfter start most v → IsAliveAfter start most u → count v ≤ count u
  up_later v u t is before after = subst (λ ts. count v ≤ count ts) (sym is) (up_now v t before (subst (IsAliveAfter start most) is after))

  over_later : (v u : List Turn) (t : Turn) → u ≡ v ++ t ∷ [] → IsAliveAfter start most v → IsAliveAfter start most u → Over v → Over u
  over_later v u t is before after over = subst Over (sym is) (over_on v t before (subst (IsAliveAfter start most) is after) over)

  -- ---- the opening isn't over where A's end has finished

  never_done : (v : List Turn) → IsAliveAfter start most v → AHasFinished start v → (p : PathState Carried) → IsPathAt 0 (at v) p → stage p.b.tcp.state ≤ 2 → ⊥
  never_done v now done p here low =
      let first : is_joined done.path.profile ≡ false = subst (λ (q : PathState Carried). is_joined q.profile ≡ false) (path_is (at v) now.path done.path now.here done.here) now.faithful.joined in
      let past = subst (HoldsOfKind (λ app. Unit {0}) IsPastIfClear) done.here.is (clear_ends_are_past values start v 2 done.here.crew done.here.there) first B
      (b_is_clear_first start v mild done.path done.here (who_is_done_is_clear start v mild done.path done.here done.finished)) in
      let high : 3 ≤ stage p.b.tcp.state = subst (λ (q : PathState Carried). 3 ≤ stage q.b.tcp.state) (path_is (at v) done.path p done.here here) past in
      omega (arith, high, low)

  opening_low : (p : PathState Carried) → IsOpening p → stage p.b.tcp.state ≤ 2
  opening_low p (opens.syn s h) = to_open_low s p h
  opening_low p (opens.answer past half) = subst (λ x. stage x ≤ 2) (sym half) (omega arith)

  awaited_low : (by : ℕ) (p : PathState Carried) → IsOpeningAwaited by p → stage p.b.tcp.state ≤ 2
  awaited_low by p (IsOpeningAwaited.syn s h) = to_open_low s p h.opens
  awaited_low by p (IsOpeningAwaited.answer h) = subst (λ x. stage x ≤ 2) (sym h.half_open) (omega arith)

  not_done : (v : List Turn) (x : ℕ) → IsAliveAfter start most v → AwaitsOpening start x v → AHasFinished start v → ⊥
  not_done v x now h done = never_done v now done h.path h.here (awaited_low h.by h.path h.waits)

  -- ---- as a round is over

  module _ (v u : List Turn) (step : AliveOpens start most v u) where
    abbrev p : PathState Carried
    p = step.before.path

    here : IsPathAt 0 (at v) p
    here = step.before.here

    alive : IsAlive p
    alive = step.before.is_open

    silent : p.agenda ≡ []
    silent = nil_so p.agenda (subst (λ m. is_over m ≡ true) here.is (all_over_each (at v).crew 2 here.crew step.over here.there))

    first : IsFirstPath start p
    first = subst (HoldsOfKind (λ app. Unit {0}) (IsFirstPath start)) here.is (each_first start v mild.plain.size here.crew here.there)

    keyed : 2 ≤ stage p.a.tcp.state → is_some p.a.modes.peer_key ≡ true
    keyed high = ⊎_elim (λ has. has) (λ treats. absurd (true≢false (sym treats ∙ ap treats_answer silent)))
        (((subst (HoldsOfKind (λ app. Unit {0}) HasKeys) here.is ((keys_are_known start v mild).each 2 here.crew here.there)) first.first).a high (alive.living A))

    next_end : round_end values start u ≡ round_end values start v + 100
    next_end = subst (λ t. round_end values start t ≡ round_end values start v + 100) (sym step.is) (round_next values start v step.over)

    next_is : at u ≡ world_run values (Turn.Round ∷ []) (at v)
    next_is = ap at step.is ∙ run_append values v (Turn.Round ∷ []) (opened_world start)

    next_round : IsInRound start u u
    next_round = record { order = []; is = sym (append-nil u); begin = BeginsRound.Next v step.over next_is }

    -- a first sign is waited for
    shows_so : IsToShow p → (x : ℕ) → round_end values start v + 60800 ≤ x → Awaits x u
    shows_so to_show x late = sign (round_end values start v + 60800) late (firsts.begins v u step (record { path = p; here = here; shows = to_show }))

    -- ---- where A may send no DSS, though B may

    module _ (past : (s : Side) → 3 ≤ stage (end_at s p).tcp.state) (unclear : p.a.modes.clear ≡ false) (clear : p.b.modes.clear ≡ true) where
      is_from : IsFromB start v
      is_from = record {
        path = p;
        here = here;
        from = record { first = first.first; past = past; living = alive.living; clear = clear; sure = clear; keyed = keyed (let high = past A in omega (arith, high)) };
        unclear = unclear;
      }

      then_from : IsFromB start u
      then_from = ⊎_elim (λ rises. absurd (no_round_opens start mild most v u step rises)) (λ h. h) (opens_from v u step is_from)

      wants : WantsASign p
      wants = record { unclear = unclear; high = (let high = past A in omega (arith, high)); clear = clear; met = (let high = past B in omega (arith, high)); edge = edge_first start mild v p here alive A unclear }

      -- B's end has something outstanding at the end of the round
      b_shows : (since : List Turn) → IsInRound start since v → HasBegun (at since) → IsToShow p
      b_shows since r had = by p.b.tcp.send.records refl
        where
          asks : p.b.tcp.send.records ≡ [] → (p.b.sending.granted ≡ []) × (p.b.sending.shut ≡ false) → IsOutstanding p.b → IsToShow p
          asks none idle (IsOutstanding.on_subflow r others is) = absurd (let wrong : [] ≡ r ∷ others = sym none ∙ is in cc)
          asks none idle (IsOutstanding.on_stream g others is) = absurd (let wrong : [] ≡ g ∷ others = sym idle.0 ∙ is in cc)
          asks none idle (IsOutstanding.shut is) = absurd (both_ways p.b.sending.shut idle.1 is)
          asks none idle (IsOutstanding.third is) = absurd (both_ways p.b.modes.owes_third ((asks_for_its_end start v mild p here).0 first.first) is)
          asks none idle (IsOutstanding.fast_close is) = absurd (both_ways p.b.notices.fast_closed (asks_for_its_end start v mild p here).1 is)
          asks none idle (IsOutstanding.data_fin identity infinite sent unacknowledged) =
              shows.end (open_past p.b.tcp.state (past B) (alive.living B)) none unclear wants.high (record { clear = clear; sent = sent; unacked = unacknowledged })

          ended : IsPathAt 0 (at (since ++ steps_of r.order)) p
          ended = subst (λ ts. IsPathAt 0 (at ts) p) r.is here

          by : (rs : List Record) → p.b.tcp.send.records ≡ rs → IsToShow p
          by [] none = asks none (b_is_idle_before start v mild some p here alive silent unclear clear none)
              (b_has_something start mild some serves since r.order r.begin (subst (λ ts. all_over (at ts).crew ≡ true) r.is step.over) p ended alive silent (past B) unclear clear none had)
          by (top ∷ others) is =
              let piece = first_of_b start mild v p here alive unclear (past B) top (record { first = top; others = others; records = is; same = same_record top }) in
              shows.sign wants top others is piece.0 piece.1

      -- B's application wrote, or closed its stream
      b_begun : (since : List Turn) → IsInRound start since v → HasBegun (at u)
      b_begun since r =
          let now : HasBegun (at v) = subst (λ ts. HasBegun (at ts)) (sym r.is) (has_written start 0 mild some since r.order r.begin (subst (λ ts. all_over (at ts).crew ≡ true) r.is step.over) B) in
          let far = (goes_on_so values (at v) (Turn.Round ∷ [])).sides B in
          subst HasBegun (sym next_is) (⊎_elim (λ closed. inl (far.send.closed closed))
          (λ one. inr (let more = prefix_up (written_by B (at v)).written (written_by B (world_run values (Turn.Round ∷ []) (at v))).written far.send.written in omega (arith, one, more))) now)

    -- ---- which wait begins

    -- one does, and a step is left to be made
    abbrev Begins : Type 0
    Begins = Over u ⊎ ((steps_open p ≤ 4) × Awaits (round_end values start v + 61000) u)

    low_of : (s : Side) → (end_at s p).modes.clear ≡ false → steps_open p ≤ 4
    low_of A unclear = let a = ap one_if unclear in let b = one_most p.b.modes.clear in omega (arith, a, b)
    low_of B unclear = let a = ap one_if unclear in let b = one_most p.a.modes.clear in omega (arith, a, b)

    if_clear : ((s : Side) → 3 ≤ stage (end_at s p).tcp.state) → Begins
    if_clear past = by p.a.modes.clear refl p.b.modes.clear refl
      where
        by : (a : Bool) → p.a.modes.clear ≡ a → (b : Bool) → p.b.modes.clear ≡ b → Begins
        by true clear b is = inl (over_later v u Turn.Round step.is step.before step.after (inl (record {
          path = p;
          here = here;
          connected = λ s. connected_past (end_at s p).tcp.state (past s) (alive.living s);
          clear = elim [ A ↦ clear | B ↦ b_is_clear_first start v mild p here clear ];
        })))
        by false unclear true clear = inr (low_of A unclear, writes u (then_from past unclear clear) next_round (let next = next_end in omega (arith, next)))
        by false unclear false unsure =
            let h = the_first_piece_waits start v mild p here alive silent past unsure in
            inr (
              low_of A unclear,
              shows_so (shows.piece h.first h.others h.records h.kind h.position (let high = past A in omega (arith, high)) unclear unsure (let high = past B in omega (arith, high)) h.edge)
                  (round_end values start v + 61000) (omega arith),
            )

    begins_so : Begins
    begins_so = ⊎_elim
        (λ still. inr (
          few_so (opening_low p still),
          opening (round_end values start v + 60800) (omega arith) (⊎_elim
              (λ done. absurd (never_done v step.before done p here (opening_low p still)))
              (λ waits. waits)
              (openings.begins v u step (record { path = p; here = here; opening = still }))),
        ))
        (λ past. if_clear past)
        (living_ends_open_or_are_past start v mild p here alive)
      where
        few_so : stage p.b.tcp.state ≤ 2 → steps_open p ≤ 4
        few_so low = let a = one_most p.a.modes.clear in let b = one_most p.b.modes.clear in omega (arith, low, a, b)

    -- ---- as the next round begins

    module _ (h : IsFromB start v) where
      from_here : IsOpenFrom B p
      from_here = subst (IsOpenFrom B) (path_is (at v) h.path p h.here here) h.from

      unclear_here : p.a.modes.clear ≡ false
      unclear_here = subst (λ (q : PathState Carried). q.a.modes.clear ≡ false) (path_is (at v) h.path p h.here here) h.unclear

    next_so : (x : ℕ) → Awaits x v → (count v < count u) ⊎ Awaits x u
    next_so x (opening by soon h) = ⊎_elim (λ rises. inl rises)
        (λ rest. ⊎_elim (λ done. absurd (not_done v by step.before h done)) (λ still. inr (opening by soon still)) rest) (openings.next by v u step h)
    next_so x (sign by soon h) = ⊎_elim (λ rises. inl rises) (λ still. inr (sign by soon still)) (firsts.next by v u step h)
    next_so x (writes since from r soon) =
        let o = from_here from in let un = unclear_here from in
        inr (sends u (then_from o.past un o.clear) next_round (b_begun o.past un o.clear since r) (let next = next_end in omega (arith, next, soon)))
    next_so x (sends since from r had soon) = let o = from_here from in let un = unclear_here from in inr (shows_so (b_shows o.past un o.clear since r had) x soon)

    due_so : (x : ℕ) → Awaits x v → x < round_end values start v → count v < count u
    due_so x (opening by soon h) late = ⊎_elim (λ rises. rises) (λ done. absurd (not_done v by step.before h done)) (openings.due by v u step h (omega (arith, soon, late)))
    due_so x (sign by soon h) late = absurd (firsts.due by v u step h (omega (arith, soon, late)))
    due_so x (writes since from r soon) late = absurd (omega (arith, soon, late))
    due_so x (sends since from r had soon) late = absurd (omega (arith, soon, late))

  -- within a round
  more_steps : (v u : List Turn) (step : AliveSteps start most v u) (since : List Turn) → IsInRound start since v → IsInRound start since u
  more_steps v u step since r = record { order = r.order ++ step.actor ∷ []; is = step.is ∙ one_more start since v r.order step.actor r.is; begin = r.begin }

  same_end : (v u : List Turn) (step : AliveSteps start most v u) → round_end values start u ≡ round_end values start v
  same_end v u step = ap (round_end values start) step.is ∙ round_step values start v step.actor

  on_so : (x : ℕ) (v u : List Turn) → AliveSteps start most v u → Awaits x v → (count v < count u) ⊎ Awaits x u
  on_so x v u step (opening by soon h) = ⊎_elim (λ rises. inl rises)
      (λ rest. ⊎_elim (λ done. absurd (not_done v by step.before h done)) (λ still. inr (opening by soon still)) rest) (openings.on by v u step h)
  on_so x v u step (sign by soon h) = ⊎_elim (λ rises. inl rises) (λ still. inr (sign by soon still)) (firsts.on by v u step h)
  on_so x v u step (writes since from r soon) = ⊎_elim (λ rises. inl rises)
      (λ still. inr (writes since still (more_steps v u step since r) (let same = same_end v u step in omega (arith, same, soon)))) (steps_from v u step from)
  on_so x v u step (sends since from r had soon) = ⊎_elim (λ rises. inl rises)
      (λ still. inr (sends since still (more_steps v u step since r) had (let same = same_end v u step in omega (arith, same, soon)))) (steps_from v u step from)

  -- ---- what is paid

  abbrev most_paid : ℕ
  most_paid = 61100 * (5 + most)

  abbrev Pays : ℕ → List Turn → Type 0
  Pays n turns = n ≤ 61100 * count turns

  abbrev Waits : ℕ → ℕ → List Turn → Type 0
  Waits n x turns = AwaitsAStep start most n x turns

  goes_on : (n x : ℕ) (v u : List Turn) → count v ≤ count u → Waits n x v → (count v < count u) ⊎ Awaits x u → Pays n u ⊎ AWaitGoesOn (course_of values start (IsAliveAfter start most) most Over Waits) most_paid n x u
  goes_on n x v u up h next = ⊎_elim
      (λ rises. inl (let enough = h.enough in omega (arith, enough, rises)))
      (λ still. inr (record {
        put_off = 0;
        payable = let low = h.payable in omega (arith, low);
        waits = subst (λ m. Waits m (x + 0) u) (omega arith) (subst (λ y. Waits n y u) (omega arith) (record { enough = (let enough = h.enough in omega (arith, enough, up)); payable = h.payable; still = still }));
      }))
      next

  few_in : (o : Option (ActorCrew Carried)) → steps_in o ≤ 5
  few_in None = omega arith
  few_in (Some c) = by c.member
    where
      by : (m : Actor Carried) → of_kind (λ app. 0) steps_open m ≤ 5
      by (App a) = omega arith
      by (Path p) = few_steps p

  begins_paid : (n : ℕ) (v u : List Turn) → AliveOpens start most v u → Pays n u → Over u ⊎ AWaitBegins (course_of values start (IsAliveAfter start most) most Over Waits) most_paid n v u
  begins_paid n v u step pays = ⊎_elim (λ over. inl over)
      (λ waits. inr (
      let few : count u ≤ 4 + most = few_now waits.0 in
      record { within = 61000; payable = omega (arith, pays, few); waits = record { enough = omega (arith, pays); payable = omega (arith, pays, few); still = waits.1 } }))
      (begins_so v u step)
    where
      few_now : steps_open step.before.path ≤ 4 → count u ≤ 4 + most
      few_now low =
          let same = steps_is (at v) step.before.path step.before.here in let harms = step.few in
          let fewer : harmed_so_far values start v ≤ harmed_so_far values start u = subst (λ ts. harmed_so_far values start v ≤ harmed_so_far values start ts) (sym step.is) (harmed_append values 0 v (Turn.Round ∷ []) (opened_world start)) in
          ⊎_elim (λ rises. absurd (no_round_opens start mild most v u step rises)) (λ most_so. omega (arith, low, same, harms, fewer, most_so)) (cases_lt (count v) (count u))

  pub exchanges : PaidExchanges values start (IsAliveAfter start most) most most_paid Over Pays Waits
  exchanges = record {
    over_on = λ v u step over. over_later v u (Turn.Step step.actor) step.is step.before step.after over;
    over_next = λ v u step over. over_later v u Turn.Round step.is step.before step.after over;
    pays_on = λ n v u step pays. (let up = up_later v u (Turn.Step step.actor) step.is step.before step.after in omega (arith, pays, up));
    pays_next = λ n v u step pays. (let up = up_later v u Turn.Round step.is step.before step.after in omega (arith, pays, up));
    few = λ n v harms pays. (let steps = few_in (slice_get (at v).crew 2) in omega (arith, pays, harms, steps));
    waits_on = λ n x v u step h. goes_on n x v u (up_later v u (Turn.Step step.actor) step.is step.before step.after) h (on_so x v u step h.still);
    waits_next = λ n x v u step h. goes_on n x v u (up_later v u Turn.Round step.is step.before step.after) h (next_so v u step x h.still);
    due = λ n x v u step h late. (let rises = due_so v u step x h.still late in let enough = h.enough in omega (arith, rises, enough));
    begins = begins_paid;
  }
