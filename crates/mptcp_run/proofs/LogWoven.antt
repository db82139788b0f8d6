-- The turns that the steps of each round tell, by stamp, then actor: they are lawful, and each round ends as it did.
--
-- What was put reads back: that the numbers of a line are numbers of their types is a clause of the function that
-- writes it, and goes up as a field beside the text (`RoundsFit`), so that the law on the log needs no type. What the
-- world has to give is told by laws of it: that rows are in range (`proofs/RowsInRange`), and that each round by stamp,
-- then actor, ends as it did (`proofs/LogWoven`, over `StepsWeave`).
use Rattle.std.proofs.Common.{◌≡◌, refl, sym, ◌∙◌, ap, subst, ℕ, true, List, [], ◌∷◌, ◌++◌, map}
use Rattle.actor_desk.specs.declared.ask.Note.{Note}
use Rattle.actor_desk.specs.Journals.{order_of}
use Rattle.run_log.specs.declared.turn.Turn as log_turn
use Rattle.run_log.specs.Laws.{turns_of_round, turns_of}
use Rattle.path_core.specs.Octets.{octets}
use Rattle.world_laws.specs.Fine.{IsFine, lists_of}
use Rattle.world_laws.specs.Weaving.{steps_by, woven}
use Rattle.world_laws.specs.Worlds.{Turn, world_step, all_over, end_round, greatest, world_run, AreLawful}
use Rattle.world_laws.proofs.Weaving.Paired.{step_fine}
use Rattle.world_laws.proofs.Rounds.SerialIsLawful.{rounds_lawful}
use Rattle.world_laws.proofs.Weaving.WholeRounds.{run_append, lawful_append, steps_weave}
use Rattle.world_core.specs.RoundEnds.{round_ends, last_end, round_steps, steps_by_round}
use Rattle.world_core.specs.Logged.{turn_of}
use Rattle.world_core.proofs.TimedRounds.{timed_lawful}
use Rattle.mptcp_run.specs.Rounds.{Begins}
use Rattle.mptcp_run.specs.Task.{Connection, Course, rounds, threads, told, AreTurnsOf}
use Rattle.mptcp_run.specs.WovenRounds.{turns_told}
use Rattle.mptcp_run.specs.declared.schedule.Schedule.TheVariants.{Serial, Timed}
use Rattle.mptcp_run.proofs.UnderWay.{lists_at_end, next_begins}

-- ---- the turns that notes tell

round_read : (notes : List Note) (rest : List log_turn.Turn)
    → map turn_of (turns_of_round notes ++ rest) ≡ steps_by (map (λ note. note.actor) notes) ++ Turn.Round ∷ map turn_of rest
round_read [] rest = refl
round_read (note ∷ notes) rest = ap (λ ts. Turn.Step note.actor ∷ ts) (round_read notes rest)

-- they are those that a log of the notes is read as
pub turns_read : (steps : List (List Note)) → map turn_of (turns_of steps) ≡ turns_told steps
turns_read [] = refl
turns_read (notes ∷ more) = round_read notes (turns_of more) ∙ ap (λ ts. steps_by (map (λ note. note.actor) notes) ++ Turn.Round ∷ ts) (turns_read more)

-- ---- steps, one after the other

pub steps_end : (actors : List ℕ) (rest : List Turn) (w : Connection) → round_ends (steps_by actors ++ rest) w ≡ round_ends rest (world_run octets (steps_by actors) w)
steps_end [] rest w = refl
steps_end (actor ∷ actors) rest w = steps_end actors rest (world_step octets actor w)

steps_push : (actors : List ℕ) (actor : ℕ) (w : Connection) → world_run octets (steps_by (actors ++ actor ∷ [])) w ≡ world_step octets actor (world_run octets (steps_by actors) w)
steps_push [] actor w = refl
steps_push (first ∷ actors) actor w = steps_push actors actor (world_step octets first w)

pub steps_fine : (actors : List ℕ) (top : ℕ) (w : Connection) → IsFine top w → IsFine top (world_run octets (steps_by actors) w)
steps_fine [] top w fine = fine
steps_fine (actor ∷ actors) top w fine = steps_fine actors top (world_step octets actor w) (step_fine octets actor top w fine)

-- ---- round by round

-- the turns that the rounds of some turns tell, from the world where the round of the first one began
pub record AreWoven (turns : List Turn) (last w : Connection) : Type 0 where
  pub lawful : AreLawful octets (turns_told (steps_by_round last (round_ends turns w))) last
  pub ends : round_ends (turns_told (steps_by_round last (round_ends turns w))) last ≡ round_ends turns w

fine_steps : (actors : List ℕ) (last w : Connection) → Begins last → w ≡ world_run octets (steps_by actors) last → IsFine (greatest 0 last.crew) w
fine_steps actors last w begins is = subst (IsFine (greatest 0 last.crew)) (sym is) (steps_fine actors (greatest 0 last.crew) last begins.fine)

-- a round, which these actors' steps made, before others
round_woven : (turns : List Turn) (actors : List ℕ) (last w : Connection) → Begins last → w ≡ world_run octets (steps_by actors) last → all_over w.crew ≡ true
    → AreWoven turns (end_round w) (end_round w) → AreWoven (Turn.Round ∷ turns) last w
round_woven turns actors last w begins is over rest = record {
  lawful = subst (λ ts. AreLawful octets ts last) (sym order_is)
      (lawful_append octets (woven top w) (Turn.Round ∷ later) last round.0 (subst (AreLawful octets (Turn.Round ∷ later)) (sym round.1) (over, rest.lawful)));
  ends = ap (λ ts. round_ends ts last) order_is ∙ steps_end (order_of top (lists_of w.crew)) (Turn.Round ∷ later) last
      ∙ ap (round_ends (Turn.Round ∷ later)) round.1 ∙ ap (λ es. end_round w ∷ es) rest.ends;
}
  where
    top : ℕ
    top = greatest 0 last.crew

    round : AreLawful octets (woven top w) last × (world_run octets (woven top w) last ≡ w)
    round = subst (λ x. AreLawful octets (woven top x) last × (world_run octets (woven top x) last ≡ x)) (sym is)
        (steps_weave octets top last (record { fine = begins.fine; known = begins.known }) actors).1

    later : List Turn
    later = turns_told (steps_by_round (end_round w) (round_ends turns (end_round w)))

    order_is : turns_told (round_steps last (end_round w) ∷ steps_by_round (end_round w) (round_ends turns (end_round w))) ≡ woven top w ++ Turn.Round ∷ later
    order_is = ap (λ lists. steps_by (order_of top lists) ++ Turn.Round ∷ later) (lists_at_end w)

-- turns that are lawful once these actors have made the round's steps so far are woven
pub turns_woven : (turns : List Turn) (actors : List ℕ) (last w : Connection) → Begins last → w ≡ world_run octets (steps_by actors) last → AreLawful octets turns w
    → AreWoven turns last w
turns_woven [] actors last w begins is lawful = record { lawful = tt; ends = refl }
turns_woven (Turn.Step actor ∷ turns) actors last w begins is lawful =
    let rest = turns_woven turns (actors ++ actor ∷ []) last (world_step octets actor w) begins (ap (world_step octets actor) is ∙ sym (steps_push actors actor last)) lawful.1 in
    record { lawful = rest.lawful; ends = rest.ends }
turns_woven (Turn.Round ∷ turns) actors last w begins is lawful =
    round_woven turns actors last w begins is lawful.0
    (turns_woven turns [] (end_round w) (end_round w) (next_begins (greatest 0 last.crew) w (fine_steps actors last w begins is) lawful.0) refl lawful.1)

-- turns that notes tell lead to the last round's end
pub told_to_the_end : (steps : List (List Note)) (w : Connection) → last_end w (round_ends (turns_told steps) w) ≡ world_run octets (turns_told steps) w
told_to_the_end [] w = refl
told_to_the_end (notes ∷ more) w =
    let actors : List ℕ = map (λ note. note.actor) notes in
    ap (last_end w) (steps_end actors (Turn.Round ∷ turns_told more) w) ∙ told_to_the_end more (end_round (world_run octets (steps_by actors) w))
    ∙ sym (run_append octets (steps_by actors) (Turn.Round ∷ turns_told more) w)

-- all turns of a course are lawful
pub course_lawful : (course : Course) (turns : List Turn) (w : Connection) → AreTurnsOf course turns w → AreLawful octets turns w
course_lawful (rounds Serial most) turns w (counted, are, is) = subst (λ ts. AreLawful octets ts w) (sym is) (rounds_lawful octets most counted w are)
course_lawful (rounds Timed most) turns w (orders, are, is) = subst (λ ts. AreLawful octets ts w) (sym is) (timed_lawful octets most orders w are)
course_lawful (threads most) turns w are = are.lawful
course_lawful (told order) turns w are = are.1
