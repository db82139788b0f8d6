-- Where exchanges go on, all of both streams comes in time, or an end died early; and then both files are delivered.
use Rattle.std.proofs.Common.{◌≡◌, refl, sym, subst, ap, ◌∙◌, ⊎_elim, inl, inr, ◌⊎◌, ℕ, ◌+◌, ◌-◌, ◌*◌, ◌^◌, ◌<◌, ◌≤◌, arith, true, true≢false, List, [], ◌∷◌, ◌++◌, length, length-append, append_assoc}
use Rattle.std.proofs.lemmas.Bool.{cases_lt}
use Rattle.std.proofs.lemmas.Option.{same_Some}
use Rattle.sides.specs.declared.side.Side.TheVariants.{A, B}
use Rattle.subflow_tcp.specs.declared.handshake.State.{State}
use Rattle.subflow_tcp.specs.States.{is_dead}
use Rattle.path_core.specs.Codec.{Codec}
use Rattle.path_core.specs.State.{end_at}
use Rattle.path_core.specs.Values.{Carried, values}
use Rattle.world_laws.specs.declared.member.Member.TheVariants.{Path}
use Rattle.world_laws.specs.declared.outcome.Outcome.TheVariants.{Delivered}
use Rattle.world_laws.specs.Actors.{ActorCrew}
use Rattle.world_laws.specs.Openings.{PathPlan, Start, opened_world}
use Rattle.world_laws.specs.Outcomes.{outcome_of}
use Rattle.world_laws.specs.RoundDone.{reached}
use Rattle.world_laws.specs.Worlds.{WorldState, Turn, AreLawful, world_run}
use Rattle.world_laws.proofs.Weaving.WholeRounds.{run_append}
use Rattle.whole_paths.specs.AsFar.{IsActorAsFar, stage}
use Rattle.whole_paths.specs.Courses.{Exchanges}
use Rattle.whole_paths.specs.Delivery.{AllIsThere}
use Rattle.whole_paths.specs.Finish.{AnEndDied, IsWhole, Patience, BriefPathsDeliver, opened, rounds_in}
use Rattle.whole_paths.specs.OnePathScripts.{AllIsThereWithin, Allowance, AnEndDiedEarly, BeginsWithOnePath, BriefPathsEnd, Count, WhatIsThereInTimeIsDelivered, WhatIsThereInTimeIsDeliveredBy, for_all_news, harms_alone}
use Rattle.whole_paths.specs.OpenCourses.{IsOpenAfter}
use Rattle.whole_paths.specs.SentByTurns.{SentAtMost}
use Rattle.whole_paths.proofs.Courses.{harmed_append}
use Rattle.whole_paths.proofs.Delivery.{what_is_there_is_delivered}
use Rattle.whole_paths.proofs.GoesOn.{goes_on_so}
use Rattle.whole_paths.proofs.GoingOn.{there_or}
use Rattle.whole_paths.proofs.OpenCourses.{lawful_parts, open_exchanges_end}
use Rattle.whole_paths.proofs.SentByTurns.{each_turn_sends_one_at_most}
use Rattle.whole_paths.proofs.StayingWhole.{whole_paths_stay_whole}
use Rattle.whole_paths.proofs.Straying.{connected_stage, end_far}

-- ---- the last rounds

-- turns with so many rounds, of which these are the last ones
pub record LastRounds (n : ℕ) (turns : List Turn) : Type 0 where
  pub first : List Turn
  pub rest : List Turn
  pub is : turns ≡ first ++ rest
  pub last : rounds_in rest ≡ n
  pub all : rounds_in turns ≡ rounds_in first + n

-- a turn before them
with_turn : (turn : Turn) (n : ℕ) (turns : List Turn) → LastRounds n turns → LastRounds n (turn ∷ turns)
with_turn (Turn.Step actor) n turns h =
    record { first = Turn.Step actor ∷ h.first; rest = h.rest; is = ap (λ (ts : List Turn). Turn.Step actor ∷ ts) h.is; last = h.last; all = h.all }
with_turn Turn.Round n turns h =
    let more = h.all in record { first = Turn.Round ∷ h.first; rest = h.rest; is = ap (λ (ts : List Turn). Turn.Round ∷ ts) h.is; last = h.last; all = omega (arith, more) }

pub last_rounds : (n : ℕ) (turns : List Turn) → n ≤ rounds_in turns → LastRounds n turns
last_rounds n [] few = record { first = []; rest = []; is = refl; last = omega (arith, few); all = omega (arith, few) }
last_rounds n (Turn.Step actor ∷ turns) few = with_turn (Turn.Step actor) n turns (last_rounds n turns few)
last_rounds n (Turn.Round ∷ turns) few = ⊎_elim
    (λ more. record { first = []; rest = Turn.Round ∷ turns; is = refl; last = omega (arith, more, few); all = omega (arith, more, few) })
    (λ enough. with_turn Turn.Round n turns (last_rounds n turns enough))
    (cases_lt (rounds_in turns) n)

-- ---- a path of which an end was dead

pub dead_stage : (state : State) → is_dead state ≡ true → 7 ≤ stage state
dead_stage State.Dead is = omega arith
dead_stage _ is = absurd (true≢false (sym is))

module _ {C : Type 0} (k : Codec C) (w : WorldState C) (more : List Turn) where
  abbrev later : WorldState C
  later = world_run k more w

  -- isn't whole
  pub dead_not_whole : {number : ℕ} → AnEndDied number w → IsWhole number later → ⊥
  dead_not_whole {number} died whole =
      let found = (goes_on_so k w more).crew (2 + number) died.here.crew died.here.there in
      let same : found.0 ≡ whole.here.crew = same_Some found.0 whole.here.crew (sym found.1 ∙ whole.here.there) in
      let far : IsActorAsFar (Path died.path) (Path whole.path) = subst (λ m. IsActorAsFar m (Path whole.path)) died.here.is
      (subst (λ m. IsActorAsFar died.here.crew.member m) (ap (λ (c : ActorCrew C). c.member) same ∙ whole.here.is) found.2.member) in
      let high = dead_stage (end_at died.side died.path).tcp.state died.dead in
      let up = (end_far died.path whole.path far died.side).subflow.state in
      let low = (connected_stage (end_at died.side whole.path).tcp.state (whole.connected died.side)).1 in
      omega (arith, high, up, low)

-- a path that is still whole then has no end that died
pub whole_paths_didnt_die : {C : Type 0} (k : Codec C) (enough : Patience) → BriefPathsEnd k enough → BriefPathsDeliver k enough
whole_paths_didnt_die k enough ends script path file_a file_b before more mild also lawful first last many = ⊎_elim
    (λ delivered. delivered)
    (λ early. absurd (dead_not_whole k (world_run k early.first (opened script file_a file_b)) early.rest early.died
    (subst (IsWhole 0) (ap (λ ts. world_run k ts (opened script file_a file_b)) early.is ∙ run_append k early.first early.rest (opened script file_a file_b)) last)))
    (ends script path file_a file_b before more mild also lawful first many)

-- ---- delivered in time

-- all of both streams is there, or not
pub all_there_or : (w : WorldState Carried) → AllIsThere w ⊎ (AllIsThere w → ⊥)
all_there_or w = ⊎_elim
    (λ a. ⊎_elim (λ b. inl (record { of = elim [ A ↦ a | B ↦ b ] })) (λ none. inr (λ all. none (all.of B))) (there_or B w))
    (λ none. inr (λ all. none (all.of A)))
    (there_or A w)

pub what_is_there_in_time_is_delivered_by : (Also : Start → PathPlan → Type 0) (count : Count) (bound : Allowance) → WhatIsThereInTimeIsDeliveredBy Also count bound
what_is_there_in_time_is_delivered_by Also count bound up comes start plan before more most begins also lawful few whole low many =
    subst Ends (sym parts.is)
    (by parts.first parts.rest (subst (λ ts. AreLawful values ts (reached values start before)) parts.is lawful) (subst (λ ts. length (before ++ ts) < 2 ^ 64 - 1) parts.is few)
    (subst (λ ts. count start (before ++ ts) ≤ most) parts.is low) parts.last (let all = parts.all in omega (arith, many, all)))
  where
    Ends : List Turn → Type 0
    Ends ts = (outcome_of (reached values start (before ++ ts)).crew ≡ Delivered) ⊎ AnEndDiedEarly values start (before ++ ts)

    parts : LastRounds 3 more
    parts = last_rounds 3 more (omega (arith, many))

    by : (first rest : List Turn) → AreLawful values (first ++ rest) (reached values start before) → length (before ++ (first ++ rest)) < 2 ^ 64 - 1
        → count start (before ++ (first ++ rest)) ≤ most → rounds_in rest ≡ 3 → bound start most < 100 * rounds_in first → Ends (first ++ rest)
    by first rest going short fewer three enough = ⊎_elim delivered ended (all_there_or (reached values start (before ++ first)))
      where
        same : (before ++ first) ++ rest ≡ before ++ (first ++ rest)
        same = append_assoc before first rest

        then : reached values start (before ++ first) ≡ world_run values first (reached values start before)
        then = run_append values before first (opened_world start)

        delivered : AllIsThere (reached values start (before ++ first)) → Ends (first ++ rest)
        delivered all = inl (subst (λ ts. outcome_of (reached values start ts).crew ≡ Delivered) same
            (what_is_there_is_delivered start plan (before ++ first) rest begins.one begins.mild all
            (subst (AreLawful values rest) (sym then) (lawful_parts first rest (reached values start before) going).1) (omega (arith, three))))

        all_came : IsWhole 0 (reached values start (before ++ first)) → AllIsThere (reached values start (before ++ first))
        all_came last =
            let sum = length-append (before ++ first) rest in let long = ap length same in
            let rises = up start (before ++ first) rest in let all = ap (λ ts. count start ts) same in
            comes start plan before first most begins also (lawful_parts first rest (reached values start before) going).0 (omega (arith, short, sum, long)) whole last (omega (arith, rises, all, fewer)) enough

        ended : (AllIsThere (reached values start (before ++ first)) → ⊥) → Ends (first ++ rest)
        ended missing = ⊎_elim
            (λ last. absurd (missing (all_came (subst (IsWhole 0) (sym then) last))))
            (λ died. inr (record { first = before ++ first; rest = rest; is = sym same; died = subst (AnEndDied 0) (sym then) died; missing = missing }))
            (whole_paths_stay_whole values (reached values start before) 0 first whole)

pub what_is_there_in_time_is_delivered : WhatIsThereInTimeIsDelivered
what_is_there_in_time_is_delivered bound comes start plan before more most begins =
    what_is_there_in_time_is_delivered_by (λ start plan. Unit {0}) (harms_alone values) bound (λ start turns more. harmed_append values 0 turns more (opened_world start))
    (λ start plan before more most begins also. comes start plan before more most begins) start plan before more most begins tt

-- ---- from exchanges

-- where exchanges go on until all of both streams is there, it is there in time
pub exchanges_bring_all : (within : Start → ℕ) (Waits : Start → ℕ → ℕ → ℕ → List Turn → Type 0)
    → ((start : Start) (plan : PathPlan) (most : ℕ) → BeginsWithOnePath start plan
    → Exchanges values start (IsOpenAfter start) most (within start) (λ turns. AllIsThere (reached values start turns)) (Waits start most))
    → AllIsThereWithin (for_all_news within)
exchanges_bring_all within Waits exchanges start plan before more most begins lawful few whole last low many =
    open_exchanges_end start most (within start) (λ turns. AllIsThere (reached values start turns)) (Waits start most) begins.mild (exchanges start plan most begins)
    before more lawful whole last
    (λ s. let sent = subst (SentAtMost (length (before ++ more))) last.here.is (each_turn_sends_one_at_most values start (before ++ more) 2 last.here.crew last.here.there) s in omega (arith, sent, few))
    low many
