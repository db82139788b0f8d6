-- Rounds whose steps stand by stamp, then actor: how one is made of any steps, and what many of them come to.
use Rattle.std.proofs.Common.{◌≡◌, refl, sym, ◌∙◌, ap, subst, ℕ, suc, true, false, List, [], ◌∷◌, ◌++◌, map, length, append_assoc}
use Rattle.std.proofs.lemmas.List.{append-nil}
use Rattle.actor_desk.specs.declared.ask.Note.{Note}
use Rattle.actor_desk.specs.Journals.{order_of}
use Rattle.path_core.specs.Octets.{octets}
use Rattle.world_laws.specs.Fine.{lists_of}
use Rattle.world_laws.specs.Weaving.{steps_by}
use Rattle.world_laws.specs.Worlds.{Turn, world_step, all_over, greatest, world_run, AreLawful}
use Rattle.world_laws.proofs.Weaving.WholeRounds.{run_append, lawful_append}
use Rattle.world_core.specs.RoundEnds.{round_ends, last_end, round_steps, steps_by_round}
use Rattle.world_core.specs.Kept.{Kept}
use Rattle.world_core.specs.Weaving.{AllGrewAbove, IsSince}
use Rattle.mptcp_run.specs.declared.rounds.Run.{Run}
use Rattle.mptcp_run.specs.Replaying.{GoesOn}
use Rattle.mptcp_run.specs.Rounds.{AtRound, Begins}
use Rattle.mptcp_run.specs.Task.{Connection}
use Rattle.mptcp_run.specs.WovenRounds.{WovenTo, after_woven, turns_told, AreAtMost, AreWovenRounds}
use Rattle.mptcp_run.proofs.Courses.{one_true, one_false, one_both}
use Rattle.mptcp_run.proofs.LogWoven.{steps_end, steps_fine, told_to_the_end}
use Rattle.mptcp_run.proofs.RoundsMade.{IsKind}
use Rattle.mptcp_run.proofs.UnderWay.{step_goes, begins_going, lists_at_end, next_begins}

-- ---- one round

-- the next round begins behind steps of it behind which each turn is over
pub steps_begin : (actors : List ℕ) (w v : Connection) → Begins w → all_over (world_run octets (steps_by actors) w).crew ≡ true → v ≡ after_woven actors w → Begins v
steps_begin actors w v begins over is =
    subst Begins (sym is) (next_begins (greatest 0 w.crew) (world_run octets (steps_by actors) w) (steps_fine actors (greatest 0 w.crew) w begins.fine) over)

-- lists grew by them
pub steps_since : (actors made : List ℕ) (w v : Connection) → made ≡ map length (lists_of w.crew) → Begins w → v ≡ after_woven actors w → IsSince w made v
steps_since actors made w v made_is begins is =
    let goes : GoesOn w (world_run octets (steps_by actors) w) = actors_go w w actors (begins_going w begins) in
    record {
      made_is = made_is;
      grew = subst (λ (x : Connection). AllGrewAbove (greatest 0 w.crew) (lists_of w.crew) (lists_of x.crew)) (sym is)
          (subst (λ lists. AllGrewAbove (greatest 0 w.crew) (lists_of w.crew) lists) (sym (lists_at_end (world_run octets (steps_by actors) w))) goes.grew);
    }
  where
    actors_go : (last x : Connection) (actors : List ℕ) → GoesOn last x → GoesOn last (world_run octets (steps_by actors) x)
    actors_go last x [] h = h
    actors_go last x (actor ∷ actors) h = actors_go last (world_step octets actor x) actors (step_goes last x actor h)

-- ---- many of them

module _ (w v : Connection) (r : WovenTo w v) where
  abbrev turns : List Turn
  turns = steps_by r.actors ++ Turn.Round ∷ []

  ran : world_run octets turns w ≡ v
  ran = run_append octets (steps_by r.actors) (Turn.Round ∷ []) w ∙ sym r.world

  ends : (rest : List Turn) → round_ends (turns ++ rest) w ≡ v ∷ round_ends rest v
  ends rest =
      ap (λ ts. round_ends ts w) (append_assoc (steps_by r.actors) (Turn.Round ∷ []) rest) ∙ steps_end r.actors (Turn.Round ∷ rest) w
      ∙ ap (λ x. x ∷ round_ends rest x) (sym r.world)

  -- the steps of the round tell its turns
  told_first : (rest : List Turn) (more : List (List Note)) → rest ≡ turns_told more → turns ++ rest ≡ turns_told (round_steps w v ∷ more)
  told_first rest more is =
      append_assoc (steps_by r.actors) (Turn.Round ∷ []) rest ∙ ap (λ ts. steps_by r.actors ++ Turn.Round ∷ ts) is
      ∙ ap (λ actors. steps_by actors ++ Turn.Round ∷ turns_told more)
      (r.round.in_order ∙ ap (order_of (greatest 0 w.crew)) (sym (lists_at_end (world_run octets (steps_by r.actors) w)))
      ∙ ap (λ (x : Connection). order_of (greatest 0 w.crew) (lists_of x.crew)) (sym r.world))

  lawful : (rest : List Turn) → AreLawful octets rest v → AreLawful octets (turns ++ rest) w
  lawful rest h = subst (λ ts. AreLawful octets ts w) (sym (append_assoc (steps_by r.actors) (Turn.Round ∷ []) rest))
      (lawful_append octets (steps_by r.actors) (Turn.Round ∷ rest) w r.round.lawful (r.round.over, subst (AreLawful octets rest) r.world h))

  -- a round before others
  before : (most : ℕ) (rest : List Turn) → AreLawful octets rest v → rest ≡ turns_told (steps_by_round v (round_ends rest v))
      → AreAtMost most (v ∷ round_ends rest v) → AreWovenRounds most (turns ++ rest) w
  before most rest h is few = record {
    lawful = lawful rest h;
    in_order = told_first rest (steps_by_round v (round_ends rest v)) is ∙ ap (λ es. turns_told (steps_by_round w es)) (sym (ends rest));
    few = subst (AreAtMost most) (sym (ends rest)) few;
  }

  -- alone
  alone : (most : ℕ) → AreAtMost most (v ∷ []) → AreWovenRounds most turns w
  alone most few = subst (λ ts. AreWovenRounds most ts w) (append-nil turns) (before most [] tt refl few)

pub woven_kind : IsKind WovenTo AreWovenRounds
woven_kind = record {
  turns_of = λ w v r. turns w v r;
  ran = λ w v r. ran w v r;
  ends = λ w v r rest. ends w v r rest;
  none = λ w. record { lawful = tt; in_order = refl; few = refl };
  one = λ w v r. alone w v r 1 (one_both _ _ _ refl refl);
  last = λ n w v r over. alone w v r (suc n) (one_false _ _ _ over refl);
  more = λ n w v r rest going h. before w v r (suc n) rest h.lawful h.in_order (one_true _ _ _ going h.few);
}

-- ---- the last round's end

pub woven_to_the_end : (most : ℕ) (turns : List Turn) (w : Connection) → AreWovenRounds most turns w → last_end w (round_ends turns w) ≡ world_run octets turns w
woven_to_the_end most turns w h =
    subst (λ ts. last_end w (round_ends ts w) ≡ world_run octets ts w) (sym h.in_order) (told_to_the_end (steps_by_round w (round_ends turns w)) w)

-- ---- a run

-- its lists grew by the steps of the round
pub woven_since : (run : Run) (v : Connection) → AtRound run → WovenTo run.world.state v → IsSince run.world.state run.made.items v
woven_since run v h r = steps_since r.actors run.made.items run.world.state v h.made_is h.begins r.world

-- the next round of the run begins
pub woven_next : (run new : Run) (k : Kept) → AtRound run → WovenTo run.world.state k.state → k.failed ≡ false → new.world ≡ k
    → new.made.items ≡ map length (lists_of k.state.crew) → AtRound new
woven_next run new k h r stands world made = record {
  stands = ap (λ (x : Kept). x.failed) world ∙ stands;
  begins = subst (λ (x : Kept). Begins x.state) (sym world) (steps_begin r.actors run.world.state k.state h.begins r.round.over r.world);
  made_is = made ∙ ap (λ (x : Kept). map length (lists_of x.state.crew)) (sym world);
}
