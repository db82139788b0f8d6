-- From its beginning on a connection by a mild script, no line of which tells a priority of path 0, delivers both files in time, or an end of path 0
-- died; with four harmed segments at most none dies.
use Rattle.std.proofs.Common.{◌≡◌, refl, subst, ap, ◌∙◌, ◌⊎◌, ⊎_elim, inl, inr, ℕ, suc, ◌+◌, ◌*◌, ◌<◌, ◌≤◌, arith, le_refl, Some, Bool, true, false, List, [], ◌∷◌, length}
use Rattle.std.specs.List.{slice_get}
use Rattle.std.proofs.lemmas.List.{append-nil, length-append}
use Rattle.link_script.specs.declared.script.PathLine.{PathLine}
use Rattle.link_script.specs.declared.script.Script.{Script}
use Rattle.sides.specs.declared.side.Side.TheVariants.{A, B}
use Rattle.subflow_tcp.specs.States.{is_dead}
use Rattle.path_core.specs.Octets.{octets}
use Rattle.path_core.specs.Start.{first_turn}
use Rattle.path_core.specs.Values.{values}
use Rattle.world_laws.specs.declared.outcome.Outcome.TheVariants.{Delivered, Going}
use Rattle.world_laws.specs.Openings.{PathPlan, Start, opened_world, path_begins, plan_of, plans_from, start_of}
use Rattle.world_laws.specs.Outcomes.{outcome_of}
use Rattle.world_laws.specs.RoundDone.{reached}
use Rattle.world_laws.specs.Worlds.{Turn, AreLawful}
use Rattle.whole_paths.specs.CountedCourses.{harms_at}
use Rattle.whole_paths.specs.Finish.{AnEndDied, IsBrief, harmed, rounds_in}
use Rattle.whole_paths.specs.FirstTexts.{BegunTextsEnd, FewFirstTextsFinish, FewFirstTextsGoOn, FirstTextsFinish, FirstTextsGoOn, HarmsNoFirst, IsFirstText, patience_of_texts}
use Rattle.whole_paths.specs.OpeningCourses.{BeginsServing, opening_allowance}
use Rattle.whole_paths.specs.OverOctets.{IsAsFarAsOverValues}
use Rattle.whole_paths.specs.ReturnWaits.{most_of_all}
use Rattle.whole_paths.specs.Rounds.{ticks_for}
use Rattle.whole_paths.proofs.Courses.{harmed_append}
use Rattle.whole_paths.proofs.EachText.{serves_so}
use Rattle.whole_paths.proofs.FewLossesDeliver.{few_losses_end_no_first}
use Rattle.whole_paths.proofs.FirstHere.{first_here}
use Rattle.whole_paths.proofs.FirstTexts.{as_path}
use Rattle.whole_paths.proofs.GoesOnLiving.{goes_on_living}
use Rattle.whole_paths.proofs.Harmed.{harms_of_a_path_use_lines}
use Rattle.whole_paths.proofs.ManyEnds.{served_paths_end}
use Rattle.whole_paths.proofs.ManyPaths.{rounds_so, starts_mildly}
use Rattle.whole_paths.proofs.OpeningEnds.{LaterPath, delivers_from, first_paths_open_within, later_path}
use Rattle.whole_paths.proofs.OverOctets.{octets_are_as_far_as_values}
use Rattle.whole_paths.proofs.WindowRoom.{short_files_are_roomy}

-- there is a path 0
first_plan : (script : Script) (file_a file_b : List ℕ) → 1 ≤ length script.paths → (plan : PathPlan) × (slice_get (start_of script file_a file_b).paths 0 ≡ Some plan)
first_plan script file_a file_b some = by script.paths some
  where
    by : (ps : List PathLine) → 1 ≤ length ps → (plan : PathPlan) × (slice_get (plans_from script 0 ps) 0 ≡ Some plan)
    by [] none = absurd (omega (arith, none))
    by (path ∷ others) has = (plan_of script 0 path, refl)

module _ (script : Script) (file_a file_b : List ℕ) (turns : List Turn) (text : IsFirstText script file_a file_b) (some : 1 ≤ length script.paths) (brief : IsBrief script turns) where
  abbrev start : Start
  start = start_of script file_a file_b

  plan : (plan : PathPlan) × (slice_get start.paths 0 ≡ Some plan)
  plan = first_plan script file_a file_b some

  begins : BeginsServing start
  begins = record {
    mild = starts_mildly script file_a file_b text.mild;
    plan = plan.0;
    there = plan.1;
    buffer = (let least = text.mild.ranges.buffer.least in omega (arith, least));
    serves = λ turns. serves_so script 0 file_a file_b (as_path script file_a file_b text) turns turns [] (append-nil turns);
  }

  -- with the rounds for so many harms, if no more came
  module _ (most : ℕ) (few : harms_at start 0 turns ≤ most) (many : patience_of_texts script file_a file_b most ≤ rounds_in turns) where
    abbrev rest : ℕ
    rest = ticks_for 61100 (suc (most_of_all start + most))

    enough_so : opening_allowance start most + rest + 400 < 100 * rounds_in turns
    enough_so = let enough = rounds_so (opening_allowance start most + rest + 100) (rounds_in turns) many in omega (arith, enough)

    pub ends_so : AreLawful values turns (opened_world start) → (outcome_of (reached values start turns).crew ≡ Delivered) ⊎ AnEndDied 0 (reached values start turns)
    ends_so lawful = delivers_from start begins.mild turns lawful (opening_allowance start most) rest
        (λ first more is going enough. first_paths_open_within start first most begins going
        (let sum = length-append first more in let all = ap length is in let short = brief.few in omega (arith, short, sum, all))
        (let harms = harmed_append values 0 first more (opened_world start) in let all = ap (harms_at start 0) is in omega (arith, harms, all, few)) enough)
        (λ first more is going whole enough. served_paths_end start begins.mild (let least = text.mild.ranges.buffer.least in omega (arith, least)) first more most going
        (let all = ap length is in let short = brief.few in omega (arith, short, all)) whole (λ ts us same. begins.serves ts)
        (let all = ap (harms_at start 0) is in omega (arith, all, few)) enough)
        enough_so

  -- no end dies
  none_dies : HarmsNoFirst script file_a file_b → harms_at start 0 turns ≤ 4 → AnEndDied 0 (reached values start turns) → ⊥
  none_dies h four died = few_losses_end_no_first start turns (record { mild = begins.mild; plan = plan.0; there = plan.1; harmless = h.harmless })
      (let least = text.mild.ranges.buffer.least in omega (arith, least)) (short_files_are_roomy start begins.mild (elim [ A ↦ h.a | B ↦ h.b ])) brief.few four died

  -- so it goes on until both files are delivered
  goes_on_so : HarmsNoFirst script file_a file_b → harms_at start 0 turns ≤ 4 → (outcome_of (reached values start turns).crew ≡ Going) ⊎ (outcome_of (reached values start turns).crew ≡ Delivered)
  goes_on_so h four = goes_on_living start begins.mild turns last_path.path last_path.here (by (is_dead last_path.path.a.tcp.state) refl)
    where
      last_path : LaterPath (opened_world start) (reached values start turns) (first_turn (path_begins start 0 plan.0) start.lines)
      last_path = later_path (opened_world start) turns (first_turn (path_begins start 0 plan.0) start.lines) (first_here start plan.0 plan.1)

      by : (b : Bool) → is_dead last_path.path.a.tcp.state ≡ b → is_dead last_path.path.a.tcp.state ≡ false
      by false is = is
      by true is = absurd (none_dies h four (record { path = last_path.path; here = last_path.here; side = A; dead = is }))

  -- ---- over octets

  whole : IsAsFarAsOverValues start turns
  whole = octets_are_as_far_as_values start turns begins.mild.plain.size begins.mild.fit

  pub on : (outcome_of (reached values start turns).crew ≡ Delivered) ⊎ AnEndDied 0 (reached values start turns) → (outcome_of (reached octets start turns).crew ≡ Delivered) ⊎ AnEndDied 0 (reached octets start turns)
  on (inl delivered) = inl (whole.outcome ∙ delivered)
  on (inr died) = inr ((whole.died 0).1 died)

  pub going_on : (outcome_of (reached values start turns).crew ≡ Going) ⊎ (outcome_of (reached values start turns).crew ≡ Delivered) → (outcome_of (reached octets start turns).crew ≡ Going) ⊎ (outcome_of (reached octets start turns).crew ≡ Delivered)
  going_on (inl going) = inl (whole.outcome ∙ going)
  going_on (inr delivered) = inr (whole.outcome ∙ delivered)

  pub values_lawful : AreLawful octets turns (opened_world start) → AreLawful values turns (opened_world start)
  values_lawful lawful = whole.lawful.0 lawful

  pub as_many : harmed octets 0 turns (opened_world start) ≡ harms_at start 0 turns
  as_many = whole.harms 0

pub begun_texts_end : BegunTextsEnd values
begun_texts_end script file_a file_b turns text some brief lawful many =
    ends_so script file_a file_b turns text some brief (harms_at (start_of script file_a file_b) 0 turns) (le_refl (harms_at (start_of script file_a file_b) 0 turns)) many lawful

pub begun_texts_end_in_octets : BegunTextsEnd octets
begun_texts_end_in_octets script file_a file_b turns text some brief lawful many =
    let same = as_many script file_a file_b turns text some brief in
    on script file_a file_b turns text some brief
    (begun_texts_end script file_a file_b turns text some brief (values_lawful script file_a file_b turns text some brief lawful)
    (subst (λ n. patience_of_texts script file_a file_b n ≤ rounds_in turns) same many))

-- ---- few harms

-- with the rounds for so many, four at most
finishes_so : (script : Script) (file_a file_b : List ℕ) (turns : List Turn) (h : HarmsNoFirst script file_a file_b) (brief : IsBrief script turns) (most : ℕ) → harms_at (start_of script file_a file_b) 0 turns ≤ most → most ≤ 4
    → AreLawful values turns (opened_world (start_of script file_a file_b)) → patience_of_texts script file_a file_b most ≤ rounds_in turns
    → outcome_of (reached values (start_of script file_a file_b) turns).crew ≡ Delivered
finishes_so script file_a file_b turns h brief most few four lawful many = ⊎_elim
    (λ delivered. delivered)
    (λ died. absurd (none_dies script file_a file_b turns h.text h.some brief h (omega (arith, few, four)) died))
    (ends_so script file_a file_b turns h.text h.some brief most few many lawful)

pub first_texts_finish : FirstTextsFinish values
first_texts_finish script file_a file_b turns h brief lawful four many =
    let harms = harms_at (start_of script file_a file_b) 0 turns in finishes_so script file_a file_b turns h brief harms (le_refl harms) four lawful many

pub first_texts_finish_in_octets : FirstTextsFinish octets
first_texts_finish_in_octets script file_a file_b turns h brief lawful four many =
    let same = as_many script file_a file_b turns h.text h.some brief in
    (whole script file_a file_b turns h.text h.some brief).outcome
    ∙ first_texts_finish script file_a file_b turns h brief (values_lawful script file_a file_b turns h.text h.some brief lawful) (subst (λ n. n ≤ 4) same four)
    (subst (λ n. patience_of_texts script file_a file_b n ≤ rounds_in turns) same many)

pub few_first_texts_finish : FewFirstTextsFinish
few_first_texts_finish script file_a file_b turns h directions four brief lawful many =
    let same = as_many script file_a file_b turns h.text h.some brief in
    let uses = harms_of_a_path_use_lines script file_a file_b 0 turns h.text.mild.ranges directions in
    (whole script file_a file_b turns h.text h.some brief).outcome
    ∙ finishes_so script file_a file_b turns h brief _ (omega (arith, same, uses)) four (values_lawful script file_a file_b turns h.text h.some brief lawful) many

pub first_texts_go_on : FirstTextsGoOn values
first_texts_go_on script file_a file_b turns h brief four = goes_on_so script file_a file_b turns h.text h.some brief h four

pub first_texts_go_on_in_octets : FirstTextsGoOn octets
first_texts_go_on_in_octets script file_a file_b turns h brief four =
    let same = as_many script file_a file_b turns h.text h.some brief in
    going_on script file_a file_b turns h.text h.some brief (first_texts_go_on script file_a file_b turns h brief (subst (λ n. n ≤ 4) same four))

pub few_first_texts_go_on : FewFirstTextsGoOn
few_first_texts_go_on script file_a file_b turns h directions four brief =
    let uses = harms_of_a_path_use_lines script file_a file_b 0 turns h.text.mild.ranges directions in first_texts_go_on_in_octets script file_a file_b turns h brief (omega (arith, uses, four))
