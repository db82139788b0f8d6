-- A window that comes is heard in four rounds, so that the side may send up to its edge; or more is sent behind it.
use Rattle.std.proofs.Common.{sym, subst, ap, ◌⊎◌, inl, inr, ℕ, ◌+◌, ◌<◌, ◌≤◌, arith, List, [], ◌∷◌, ◌++◌, append-nil, append_assoc}
use Rattle.sides.specs.declared.side.Side.{Side}
use Rattle.sides.specs.Side.{peer}
use Rattle.actor_desk.specs.Books.{books_in}
use Rattle.path_core.specs.State.{PathState, end_at}
use Rattle.path_core.specs.Values.{Carried, values}
use Rattle.world_laws.specs.Openings.{Start}
use Rattle.world_laws.specs.Promises.{written_by}
use Rattle.world_laws.specs.RoundDone.{reached}
use Rattle.world_laws.specs.Worlds.{Turn, WorldState}
use Rattle.whole_paths.specs.Finish.{IsPathAt}
use Rattle.whole_paths.specs.Mild.{IsMildStart}
use Rattle.whole_paths.specs.OpenCourses.{IsOpenAfter}
use Rattle.whole_paths.specs.SegmentRounds.{Rounds, StaysOpen}
use Rattle.whole_paths.specs.WindowsComing.{FourRoundsOpen, WindowIsTold}
use Rattle.whole_paths.specs.WindowsComing.{WindowIsTold as told}
use Rattle.whole_paths.proofs.OpenTurns.{begun}
use Rattle.whole_paths.proofs.Probes.{open_over}
use Rattle.whole_paths.proofs.RecordWaits.{path_is}
use Rattle.whole_paths.proofs.RoundSteps.{Between, between, early, none_comes, open_first, over_after, rounds_later, silent}
use Rattle.whole_paths.proofs.WindowsComing.{windows_come_soon}

module _ (start : Start) where
  abbrev at : List Turn → WorldState Carried
  at turns = reached values start turns

  -- what each turn keeps of path 0 and the world holds after all of them
  pub carried_with : (P : List Turn → PathState Carried → Type 0) → ((turns : List Turn) (turn : Turn) (before : IsOpenAfter start turns) (after : IsOpenAfter start (turns ++ turn ∷ [])) → P turns before.path → P (turns ++ turn ∷ []) after.path)
      → (turns more : List Turn) → StaysOpen start turns more → (p q : PathState Carried) → IsPathAt 0 (at turns) p → IsPathAt 0 (at (turns ++ more)) q → P turns p → P (turns ++ more) q
  carried_with P goes turns [] h p q here there so =
      subst (λ t. P t q) (sym (append-nil turns)) (subst (P turns) (path_is (at turns) p q here (subst (λ t. IsPathAt 0 (at t) q) (append-nil turns) there)) so)
  carried_with P goes turns (turn ∷ more) h p q here there so =
      let next = open_first start (turns ++ turn ∷ []) more h.1 in
      subst (λ t. P t q) (append_assoc turns (turn ∷ []) more)
      (carried_with P goes (turns ++ turn ∷ []) more h.1 next.path q next.here (subst (λ t. IsPathAt 0 (at t) q) (sym (append_assoc turns (turn ∷ []) more)) there)
      (goes turns turn h.0 next (subst (P turns) (path_is (at turns) p h.0.path here h.0.here) so)))

module _ (start : Start) (mild : IsMildStart start) (v u : List Turn) (rounds : Rounds start 4 v u) (s : Side) (p q : PathState Carried)
    (here : IsPathAt 0 (reached values start v) p) (there : IsPathAt 0 (reached values start u) q) (position edge : ℕ) where
  on_the_way : Between start v u
  on_the_way = between start 3 v u rounds

  abbrev Told : List Turn → PathState Carried → Type 0
  Told turns y = WindowIsTold (books_in (reached values start turns).books) s position edge (p.clock + 400) y

  told_then : Told v p → Told u q
  told_then h = subst (λ t. Told t q) (sym on_the_way.is)
      (carried_with start Told (λ turns turn before after. (windows_come_soon start turns turn (begun start turns turn (record { mild = mild; before = before; after = after })) s).comes position edge (p.clock + 400))
      v on_the_way.more on_the_way.stays_open p q here (subst (λ t. IsPathAt 0 (reached values start t) q) on_the_way.is there) h)

  opens : Told u q → (edge ≤ (written_by s (reached values start u)).edge) ⊎ (position < (end_at (peer s) q).tcp.send.nxt)
  opens (told.heard is) = inl (open_over (books_in (reached values start u).books) s edge q (silent start u q (over_after start 3 v u rounds) there) is)
  opens (told.behind past) = inr past
  opens (told.comes c) =
      let tick = c.soon in
      let clock = early start v p here in
      let under_way = c.there in
      let first_tick = none_comes start u q (over_after start 3 v u rounds) there under_way.at under_way.item under_way.there in
      let same = ap (λ f. f.tick) under_way.holds in
      let all = rounds_later start 4 v u rounds in absurd (omega (arith, tick, clock, first_tick, same, all))

pub four_rounds_open : FourRoundsOpen
four_rounds_open start v u mild rounds s p q here there position edge h = opens start mild v u rounds s p q here there position edge (told_then start mild v u rounds s p q here there position edge h)
