-- Where each expiry is answered but for harmed segments, an end has at most one more in a row than segments were harmed.
use Rattle.std.proofs.Common.{◌≡◌, sym, subst, ◌∙◌, ⊎_elim, ℕ, ◌+◌, ◌<◌, ◌≤◌, arith, List, [], ◌∷◌}
use Rattle.std.proofs.lemmas.Option.{same_Some}
use Rattle.sides.specs.declared.side.Side.{Side}
use Rattle.link_script.specs.declared.script.Script.{Script}
use Rattle.path_core.specs.Codec.{Codec}
use Rattle.path_core.specs.State.{PathState, end_at}
use Rattle.world_laws.specs.declared.member.Member.TheVariants.{Path}
use Rattle.world_laws.specs.Actors.{ActorCrew}
use Rattle.world_laws.specs.Worlds.{WorldState, Turn, after_turn, world_run}
use Rattle.whole_paths.specs.Expiries.{RunsOut}
use Rattle.whole_paths.specs.ExpiriesInARow.{in_a_row, ExpiriesAreAnswered, HoldsAlong, IsPaid, RowGoesOn, RowsGoOn}
use Rattle.whole_paths.specs.ExpiriesInARow.IsPaid.{paid, comes}
use Rattle.whole_paths.specs.ExpiriesInARow.{RowGoesOn as row}
use Rattle.whole_paths.specs.Finish.{FewLossesEndNoneWhere, FewLossesFinishWhere, IsPathAt, OnePathEndsWhere, Patience, harmed}
use Rattle.whole_paths.proofs.ExpiriesInARow.{expiries_alone_count}

module _ {C : Type 0} (k : Codec C) (Holds : WorldState C → Type 0) (Comes : Side → WorldState C → Type 0) (answers : ExpiriesAreAnswered k Holds Comes) where
  -- what a turn makes of the row of an end of path 0
  row_goes : (w : WorldState C) (turn : Turn) (s : Side) (p q : PathState C) → IsPathAt 0 w p → IsPathAt 0 (after_turn k turn w) q → RowGoesOn s p q
  row_goes w turn s p q here there =
      let next = expiries_alone_count k w turn 2 here.crew here.there in
      let same : next.0 ≡ there.crew = same_Some next.0 there.crew (sym next.1 ∙ there.there) in
      let goes : RowsGoOn here.crew.member there.crew.member = subst (λ (d : ActorCrew C). RowsGoOn here.crew.member d.member) same next.2 in
      subst (λ m. RowsGoOn (Path p) m) there.is (subst (λ m. RowsGoOn m there.crew.member) here.is goes) s

  turn_paid : (harms : ℕ) (w : WorldState C) (turn : Turn) → Holds w → Holds (after_turn k turn w) → (s : Side) (p q : PathState C) → IsPathAt 0 w p → IsPathAt 0 (after_turn k turn w) q
      → IsPaid Comes harms s w p → IsPaid Comes (harms + harmed k 0 (turn ∷ []) w) s (after_turn k turn w) q
  turn_paid harms w turn now then_so s p q here there = by (row_goes w turn s p q here there)
    where
      more : ℕ
      more = harmed k 0 (turn ∷ []) w

      by : RowGoesOn s p q → IsPaid Comes harms s w p → IsPaid Comes (harms + more) s (after_turn k turn w) q
      by (row.no_more fewer) (paid enough) = paid (omega (arith, fewer, enough))
      by (row.no_more fewer) (comes most on_its_way) = ⊎_elim
          (λ still. comes (omega (arith, fewer, most)) still)
          (⊎_elim (λ one. paid (omega (arith, fewer, most, one))) (λ none. paid (omega (arith, none))))
          (answers.on w turn now then_so s p q here there on_its_way)
      by (row.one_more tick out few one) (paid enough) = comes (omega (arith, one, enough)) (answers.begins w turn now then_so s p q here there tick out one)
      by (row.one_more tick out few one) (comes most on_its_way) = absurd (answers.due w now s p here on_its_way tick out)

  -- all of them do
  pub turns_paid : (here : (w : WorldState C) → Holds w → (p : PathState C) × IsPathAt 0 w p) (turns : List Turn) (harms : ℕ) (w : WorldState C) → HoldsAlong k Holds turns w
      → ((s : Side) (p : PathState C) → IsPathAt 0 w p → IsPaid Comes harms s w p)
      → (s : Side) (q : PathState C) → IsPathAt 0 (world_run k turns w) q → IsPaid Comes (harms + harmed k 0 turns w) s (world_run k turns w) q
  turns_paid here [] harms w along first s q there = subst (λ n. IsPaid Comes n s w q) (omega arith) (first s q there)
  turns_paid here (turn ∷ turns) harms w along first s q there =
      subst (λ n. IsPaid Comes n s (world_run k turns v) q) (omega arith)
      (turns_paid here turns (harms + harmed k 0 (turn ∷ []) w) v along.1 (λ t p at. turn_paid harms w turn along.0 (now turns along.1) t (here w along.0).0 p (here w along.0).1 at (first t (here w along.0).0 (here w along.0).1)) s q there)
    where
      v : WorldState C
      v = after_turn k turn w

      now : (later : List Turn) → HoldsAlong k Holds later v → Holds v
      now [] h = h
      now (x ∷ later) h = h.0

  -- an expiry is the fifth in a row at most, where four segments were harmed at most
  pub never_sixth : (harms : ℕ) (w : WorldState C) → harms ≤ 4 → Holds w → (s : Side) (p : PathState C) → IsPathAt 0 w p → IsPaid Comes harms s w p
      → (tick : ℕ) → RunsOut s tick p → in_a_row (end_at s p) < 5
  never_sixth harms w few now s p here (paid enough) tick out = omega (arith, few, enough)
  never_sixth harms w few now s p here (comes most on_its_way) tick out = absurd (answers.due w now s p here on_its_way tick out)

-- the statement on few losses is that no end dies, and that over one path both files are delivered or an end died
pub few_losses_finish_so : {C : Type 0} (k : Codec C) (Also : Script → List Turn → Type 0) (enough : Patience) → OnePathEndsWhere k Also enough → FewLossesEndNoneWhere k Also
    → FewLossesFinishWhere k Also enough
few_losses_finish_so k Also enough one none script path file_a file_b turns mild also harmless few lawful rounds = ⊎_elim
    (λ delivered. delivered)
    (λ died. absurd (none script path file_a file_b turns mild also harmless few died))
    (one script path file_a file_b turns mild also lawful rounds)
