-- Where a script's text tells that few segments are lost, and none of A's, both files are delivered in time; until then the connection goes on.
use Rattle.std.proofs.Common.{◌≡◌, refl, subst, ap, ◌∙◌, ◌⊎◌, inl, inr, ℕ, ◌+◌, ◌≤◌, arith, Bool, true, false, ◌&&◌, List, []}
use Rattle.std.specs.Prelude.{not, if◌then◌else◌, length, All}
use Rattle.std.specs.List.{list_all}
use Rattle.std.proofs.lemmas.List.Elements.{All-head}
use Rattle.sides.specs.declared.side.Side.TheVariants.{A}
use Rattle.link_script.specs.Scripts.{IsPath}
use Rattle.link_script.specs.declared.script.PathLine.{PathLine}
use Rattle.link_script.specs.declared.script.Script.{Script}
use Rattle.subflow_tcp.specs.States.{is_dead}
use Rattle.link_model.specs.Laws.{moves}
use Rattle.path_core.specs.Octets.{octets}
use Rattle.path_core.specs.Start.{waiting_path}
use Rattle.path_core.specs.Steps.{begins_turn}
use Rattle.path_core.specs.Values.{values}
use Rattle.world_laws.specs.declared.outcome.Outcome.TheVariants.{Delivered, Going}
use Rattle.world_laws.specs.Openings.{PathPlan, Start, opened_world, path_begins, plan_of, plans_from, start_of}
use Rattle.world_laws.specs.Outcomes.{outcome_of}
use Rattle.world_laws.specs.RoundDone.{reached}
use Rattle.world_laws.specs.Worlds.{Turn, AreLawful}
use Rattle.whole_paths.specs.FewTexts.{FewTextsFinish, FewTextsGoOn, LosesFew, early_by_text}
use Rattle.whole_paths.specs.FilesFit.{FitsFirstWindow}
use Rattle.whole_paths.specs.Finish.{AnEndDied, IsBrief, harmed, harms_to, opened, patience, rounds_in, segments}
use Rattle.whole_paths.specs.OnePathScripts.{BeginsWithOnePath}
use Rattle.whole_paths.specs.QuietOpenings.{lost_early, segments_on}
use Rattle.whole_paths.proofs.AckedData.{opened_here}
use Rattle.whole_paths.proofs.FewLossesDeliver.{few_losses_end_none}
use Rattle.whole_paths.proofs.GoesOnLiving.{goes_on_living}
use Rattle.whole_paths.proofs.Harmed.{harms_use_lines}
use Rattle.whole_paths.proofs.OnePathScripts.{mild_scripts_begin_with_one_path}
use Rattle.whole_paths.proofs.OpeningEnds.{LaterPath, later_path}
use Rattle.whole_paths.proofs.OverOctets.{as_far}
use Rattle.whole_paths.proofs.PatientPaths.{few_losses_finish_patiently_in_octets}
use Rattle.whole_paths.proofs.QuietOpenings.{lost_early_fits}
use Rattle.whole_paths.specs.QuietTexts.{is_first}
use Rattle.whole_paths.proofs.QuietTexts.{nothing_comes_early_by_text}

module _ (script : Script) (path : PathLine) (file_a file_b : List ℕ) (turns : List Turn) (h : LosesFew script path file_a file_b) (brief : IsBrief script turns) where
  abbrev start : Start
  start = start_of script file_a file_b

  abbrev plan : PathPlan
  plan = plan_of script 0 path

  one : BeginsWithOnePath start plan
  one = mild_scripts_begin_with_one_path script path file_a file_b h.mild

  uses : harmed octets 0 turns (opened script file_a file_b) ≤ harms_to 0 script
  uses = harms_use_lines script file_a file_b 0 turns h.mild.ranges h.directions

  few_values : harmed values 0 turns (opened script file_a file_b) ≤ 4
  few_values = let same = (as_far script path file_a file_b h.mild turns).harms 0 in let low = uses in let most = h.few in omega (arith, same, low, most)

  living : AnEndDied 0 (reached values start turns) → ⊥
  living died = few_losses_end_none script path file_a file_b turns h.mild brief h.harmless few_values died

  short : plan.delay ≤ 400
  short = let most = (All-head IsPath path [] (subst (λ (ps : List PathLine). All IsPath ps) h.mild.one h.mild.ranges.paths)).delay.most in omega (arith, most)

  -- no more count than come early by the text
  few_early : lost_early start turns ≤ early_by_text script path file_a
  few_early = by (list_all (λ line. not (moves A line && is_first 8 line)) script.lines) refl h.early
    where
      one_path : segments_on start.paths file_a ≡ segments path.mss (length file_a)
      one_path = ap (λ lines. segments_on (plans_from script 0 lines) file_a) h.mild.one

      by : (b : Bool) → list_all (λ line. not (moves A line && is_first 8 line)) script.lines ≡ b → (b ≡ true) ⊎ FitsFirstWindow start A
          → lost_early start turns ≤ (if b then 0 else segments path.mss (length file_a))
      by true all early = let none = nothing_comes_early_by_text start plan turns one short all brief.few living in omega (arith, none)
      by false some (inl none) = cc (none)
      by false some (inr fits) = let few = lost_early_fits start turns fits in let same = one_path in omega (arith, few, same)

  finishes : AreLawful octets turns (opened script file_a file_b) → patience script path file_a file_b (harms_to 0 script + early_by_text script path file_a) ≤ rounds_in turns
      → outcome_of (reached octets start turns).crew ≡ Delivered
  finishes lawful many = few_losses_finish_patiently_in_octets script path file_a file_b turns h.mild brief h.harmless (let low = uses in let most = h.few in omega (arith, low, most)) lawful
      (let early = few_early in let low = uses in omega (arith, early, low, many))

  -- ---- until then

  last_path : LaterPath (opened_world start) (reached values start turns) (begins_turn (waiting_path (path_begins start 0 plan) start.lines))
  last_path = later_path (opened_world start) turns (begins_turn (waiting_path (path_begins start 0 plan) start.lines)) (opened_here start plan one)

  a_lives : is_dead last_path.path.a.tcp.state ≡ false
  a_lives = by (is_dead last_path.path.a.tcp.state) refl
    where
      by : (b : Bool) → is_dead last_path.path.a.tcp.state ≡ b → is_dead last_path.path.a.tcp.state ≡ false
      by false is = is
      by true is = absurd (living (record { path = last_path.path; here = last_path.here; side = A; dead = is }))

  goes_on : (outcome_of (reached octets start turns).crew ≡ Going) ⊎ (outcome_of (reached octets start turns).crew ≡ Delivered)
  goes_on = by (goes_on_living start one.mild turns last_path.path last_path.here a_lives)
    where
      by : (outcome_of (reached values start turns).crew ≡ Going) ⊎ (outcome_of (reached values start turns).crew ≡ Delivered) → (outcome_of (reached octets start turns).crew ≡ Going) ⊎ (outcome_of (reached octets start turns).crew ≡ Delivered)
      by (inl going) = inl ((as_far script path file_a file_b h.mild turns).outcome ∙ going)
      by (inr delivered) = inr ((as_far script path file_a file_b h.mild turns).outcome ∙ delivered)

pub few_texts_finish : FewTextsFinish
few_texts_finish script path file_a file_b turns h brief lawful many = finishes script path file_a file_b turns h brief lawful many

pub few_texts_go_on : FewTextsGoOn
few_texts_go_on script path file_a file_b turns h brief lawful = goes_on script path file_a file_b turns h brief
