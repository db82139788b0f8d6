-- The text of a run's log is read as the turns that its notes tell.
use Rattle.std.proofs.Common.{◌≡◌, refl, sym, ◌∙◌, ap, subst, ℕ, suc, ◌+◌, ◌<◌, ◌≤◌, ◌^◌, Option, Some, inl, inr, List, [], ◌∷◌, ◌++◌, map, length, arith}
use Rattle.std.specs.Prelude.{option_map}
use Rattle.std.specs.List.{slice_get, flat_map, AllByRecursion}
use Rattle.std.specs.Result.{result_ok}
use Rattle.std.proofs.lemmas.Grind.{flat_map-append}
use Rattle.std.proofs.lemmas.List.{append-nil, append_assoc}
use Rattle.std.proofs.lemmas.Option.{slice_get_within}
use Rattle.actor_desk.specs.declared.ask.Note.{Note}
use Rattle.actor_desk.specs.Journals.{in_order}
use Rattle.run_log.specs.declared.outcome.Outcome.{Outcome}
use Rattle.run_log.specs.Fitting.{NoteFits}
use Rattle.run_log.specs.Laws.{HasRowsInRange, CanBeLogged, log_behind}
use Rattle.run_log.specs.Lines.{ended, opening_lines, round_lines, rounds_lines, outcome_text}
use Rattle.run_log.proofs.LogReads.{reads_to_its_turns}
use Rattle.path_core.specs.Octets.{octets}
use Rattle.world_laws.specs.Actors.{ActorCrew}
use Rattle.world_laws.specs.Fine.{lists_of}
use Rattle.world_laws.specs.Openings.{Start, opened_world}
use Rattle.world_laws.specs.Worlds.{Turn, world_step, end_round, greatest, after_turn, world_run}
use Rattle.world_laws.proofs.Weaving.Occurring.{In, Occurs}
use Rattle.world_laws.proofs.Rounds.DoneByTheEnd.{stays_fine}
use Rattle.world_laws.proofs.Weaving.TheOrder.{in_order_of}
use Rattle.world_laws.proofs.Weaving.WholeRounds.{run_append}
use Rattle.world_core.specs.RoundEnds.{round_ends, round_steps, steps_by_round}
use Rattle.world_core.specs.Logged.{turn_of}
use Rattle.run_outside.specs.LogText.{log_text, RoundsFit}
use Rattle.link_script.specs.declared.script.Script.{Script}
use Rattle.run_outside.specs.Reading.{actors_of, width_of}
use Rattle.mptcp_run.specs.Task.{Connection, turns_in}
use Rattle.mptcp_run.proofs.AllTurns.{step_length}
use Rattle.mptcp_run.specs.WovenRounds.{turns_told}
use Rattle.mptcp_run.proofs.LogWoven.{turns_read}
use Rattle.mptcp_run.proofs.RowsInRange.{rows_in_range}
use Rattle.mptcp_run.proofs.Turning.{end_length}

-- ---- the text

later_lines : (opening : List ℕ) (number : ℕ) (steps : List (List Note)) → log_text (Some opening) (suc number) steps ≡ flat_map ended (rounds_lines (suc number) steps)
later_lines opening number [] = refl
later_lines opening number (notes ∷ more) =
    ap (λ xs. flat_map ended (round_lines (suc number) notes) ++ xs) (later_lines opening (suc number) more)
    ∙ sym (flat_map-append ended (round_lines (suc number) notes) (rounds_lines (suc (suc number)) more))

grouped : (a b c d : List ℕ) → ((a ++ b) ++ c) ++ d ≡ a ++ ((b ++ c) ++ d)
grouped a b c d = append_assoc (a ++ b) c d ∙ append_assoc a b (c ++ d) ∙ ap (λ xs. a ++ xs) (sym (append_assoc b c d))

-- the opening, the rounds and the outcome, line by line
lines_are : (opening : List (List ℕ)) (first : List Note) (more : List (List Note)) (outcome : Outcome)
    → log_text (Some (flat_map ended opening)) 0 (first ∷ more) ++ ended (outcome_text outcome) ≡ log_behind opening (first ∷ more) outcome
lines_are opening first more outcome =
    let a = flat_map ended opening in
    let b = flat_map ended (round_lines 0 first) in
    let c = flat_map ended (rounds_lines 1 more) in
    let d = ended (outcome_text outcome) in
    ap (λ xs. ((a ++ b) ++ xs) ++ d) (later_lines a 0 more) ∙ grouped a b c d
    ∙ ap (λ xs. a ++ (xs ++ d)) (sym (flat_map-append ended (round_lines 0 first) (rounds_lines 1 more)))
    ∙ ap (λ xs. a ++ (flat_map ended (rounds_lines 0 (first ∷ more)) ++ xs)) (sym (append-nil d))
    ∙ ap (λ xs. a ++ xs) (sym (flat_map-append ended (rounds_lines 0 (first ∷ more)) (outcome_text outcome ∷ [])))
    ∙ sym (flat_map-append ended opening (rounds_lines 0 (first ∷ more) ++ outcome_text outcome ∷ []))

-- the number of each round fits, so there are few
few_rounds : (opening : Option (List ℕ)) (number : ℕ) (steps : List Note) (more : List (List Note)) → RoundsFit opening number (steps ∷ more) → number + length more < 2 ^ 64
few_rounds opening number steps [] fits = let small = fits.0.0 in omega (arith, small)
few_rounds opening number steps (next ∷ more) fits = let rest = few_rounds opening (suc number) next more fits.1 in omega (arith, rest)

-- the log of some rounds of a script's run, whose notes can be logged
pub log_read : (script : Script) (key_a key_b : ℕ) (steps more : List (List Note)) (first : List Note) (outcome : Outcome) → width_of script < 256 → steps ≡ first ∷ more
    → RoundsFit (Some (flat_map ended (opening_lines (width_of script) key_a key_b))) 0 steps → AllByRecursion (AllByRecursion (CanBeLogged (actors_of script))) steps
    → turns_in script (log_text (Some (flat_map ended (opening_lines (width_of script) key_a key_b))) 0 steps ++ ended (outcome_text outcome)) ≡ Some (turns_told steps)
log_read script key_a key_b steps more first outcome byte is fits logged =
    let lines = opening_lines (width_of script) key_a key_b in
    subst (λ ss. turns_in script (log_text (Some (flat_map ended lines)) 0 ss ++ ended (outcome_text outcome)) ≡ Some (turns_told ss)) (sym is)
    (ap (turns_in script) (lines_are lines first more outcome)
    ∙ ap (λ r. option_map (map turn_of) (result_ok r))
    (reads_to_its_turns (actors_of script) (width_of script) key_a key_b first more outcome byte
    (let few : 0 + length more < 2 ^ 64 = few_rounds (Some (flat_map ended lines)) 0 first more (subst (RoundsFit (Some (flat_map ended lines)) 0) is fits) in omega (arith, few))
    (subst (AllByRecursion (AllByRecursion (CanBeLogged (actors_of script)))) is logged)).0
    ∙ ap Some (turns_read (first ∷ more)))

-- ---- each note can be logged

at_place : (notes : List Note) (n : Note) → In n notes → (i : ℕ) × (slice_get notes i ≡ Some n)
at_place [] n none = absurd none
at_place (m ∷ notes) n (inl same) = (0, ap Some same)
at_place (m ∷ notes) n (inr later) = let rest = at_place notes n later in (suc rest.0, rest.1)

-- a note of one of the actors
record IsNoteOf (crew : List (ActorCrew (List ℕ))) (n : Note) : Type 0 where
  number : ℕ
  actor : ActorCrew (List ℕ)
  there : slice_get crew number ≡ Some actor
  noted : In n actor.list

note_of_one : (crew : List (ActorCrew (List ℕ))) (n : Note) → Occurs n (lists_of crew) → IsNoteOf crew n
note_of_one [] n none = absurd none
note_of_one (c ∷ crew) n (inl here) = record { number = 0; actor = c; there = refl; noted = here }
note_of_one (c ∷ crew) n (inr later) =
    let rest = note_of_one crew n later in record { number = suc rest.number; actor = rest.actor; there = rest.there; noted = rest.noted }

turn_length : (turn : Turn) (w : Connection) → length (after_turn octets turn w).crew ≡ length w.crew
turn_length (Turn.Step actor) w = step_length actor w
turn_length Turn.Round w = end_length w

run_length : (turns : List Turn) (w : Connection) → length (world_run octets turns w).crew ≡ length w.crew
run_length [] w = refl
run_length (turn ∷ turns) w = run_length turns (after_turn octets turn w) ∙ turn_length turn w

record IsKnown (actors : ℕ) (n : Note) : Type 0 where
  actor : n.actor < actors
  rows : HasRowsInRange n.reply

module _ (start : Start) (few : length start.paths ≤ 16) (actors : ℕ) (many_is : length (opened_world {C = List ℕ} start).crew ≡ actors) where
  abbrev after : List Turn → Connection
  after turns = world_run octets turns (opened_world start)

  note_known : (turns : List Turn) (top : ℕ) (n : Note) → In n (in_order top (lists_of (after turns).crew)) → IsKnown actors n
  note_known turns top n there =
      let one = note_of_one (after turns).crew n (in_order_of top (lists_of (after turns).crew) n there).0 in
      let fine = (stays_fine octets).always start turns in
      let place = at_place one.actor.list n one.noted in
      let number : n.actor ≡ one.number = (fine.crew.each one.number one.number one.actor (omega arith) one.there).ours.each place.0 n place.1 in
      let within = slice_get_within (after turns).crew one.number one.actor one.there in
      let many : length (after turns).crew ≡ actors = run_length turns (opened_world start) ∙ many_is in
      record { actor = omega (arith, number, within, many); rows = rows_in_range octets start few turns one.number one.actor one.there n one.noted }

  all_logged : (notes : List Note) → AllByRecursion NoteFits notes → ((n : Note) → In n notes → IsKnown actors n) → AllByRecursion (CanBeLogged actors) notes
  all_logged [] fits known = tt
  all_logged (n ∷ notes) fits known =
      let own = known n (inl refl) in
      (record { actor = own.actor; fits = fits.0; rows = own.rows }, all_logged notes fits.1 (λ m there. known m (inr there)))

  pub rounds_logged : (opening : List ℕ) (turns prefix : List Turn) (last w : Connection) (number : ℕ) → w ≡ after prefix → RoundsFit (Some opening) number (steps_by_round last (round_ends turns w))
      → AllByRecursion (AllByRecursion (CanBeLogged actors)) (steps_by_round last (round_ends turns w))
  rounds_logged opening [] prefix last w number is fits = tt
  rounds_logged opening (Turn.Step actor ∷ turns) prefix last w number is fits =
      rounds_logged opening turns (prefix ++ Turn.Step actor ∷ []) last (world_step octets actor w) number
      (ap (world_step octets actor) is ∙ sym (run_append octets prefix (Turn.Step actor ∷ []) (opened_world start))) fits
  rounds_logged opening (Turn.Round ∷ turns) prefix last w number is fits =
      let next : end_round w ≡ after (prefix ++ Turn.Round ∷ []) = ap end_round is ∙ sym (run_append octets prefix (Turn.Round ∷ []) (opened_world start)) in (
        all_logged (round_steps last (end_round w)) fits.0.1
            (subst (λ v. (n : Note) → In n (round_steps last v) → IsKnown actors n) (sym next) (λ n there. note_known (prefix ++ Turn.Round ∷ []) (greatest 0 last.crew) n there)),
        rounds_logged opening turns (prefix ++ Turn.Round ∷ []) (end_round w) (end_round w) (suc number) next fits.1,
      )
