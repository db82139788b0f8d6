-- A record of a side from which path 0 is open is awaited as one of a path that is open.
use Rattle.std.proofs.Common.{◌≡◌, sym, subst, ℕ, ◌+◌, ⊎_elim, inl, inr, List}
use Rattle.sides.specs.declared.side.Side.{Side}
use Rattle.path_core.specs.State.{PathState}
use Rattle.path_core.specs.Values.{Carried, values}
use Rattle.world_laws.specs.Openings.{Start}
use Rattle.world_laws.specs.RoundDone.{reached}
use Rattle.world_laws.specs.Worlds.{Turn}
use Rattle.whole_paths.specs.Courses.{round_end}
use Rattle.whole_paths.specs.Finish.{IsPathAt}
use Rattle.whole_paths.specs.Mild.{IsMildStart}
use Rattle.whole_paths.specs.SenderWaits.{AwaitsARecordOf, SenderIsAwaited, SendersAreAwaited}
use Rattle.whole_paths.specs.Straying.{IsOpenFrom, IsSoundFrom}
use Rattle.whole_paths.proofs.RecordWaits.{Awaits, begins_with_room, none_late, opens_on, steps_on}
use Rattle.whole_paths.proofs.Straying.{open_from_sound}

module _ (start : Start) (most : ℕ) (s : Side) (mild : IsMildStart start) where
  abbrev Of : Side → Type 0
  Of t = t ≡ s

  from : (v : List Turn) (p : PathState Carried) → IsPathAt 0 (reached values start v) p → IsOpenFrom s p → (t : Side) → Of t → IsSoundFrom t p
  from v p here h t of = open_from_sound start mild v p here t (subst (λ u. IsOpenFrom u p) (sym of) h)

  abbrev AwaitsOne : ℕ → List Turn → Type 0
  AwaitsOne x turns = Awaits 0 start most mild (IsOpenFrom s) Of from x turns

  plainly : (x : ℕ) (turns : List Turn) → AwaitsOne x turns → AwaitsARecordOf s start x turns
  plainly x turns h = record { awaits = record { path = h.path; here = h.here; waits = h.waits }; of = h.of }

  as_one : (x : ℕ) (turns : List Turn) → AwaitsARecordOf s start x turns → AwaitsOne x turns
  as_one x turns h = record { path = h.awaits.path; here = h.awaits.here; waits = h.awaits.waits; of = h.of }

  awaited : SenderIsAwaited start most s
  awaited = record {
    begins = λ v u step h of room. plainly (round_end values start v + 60800) u (begins_with_room 0 start most mild (IsOpenFrom s) Of from v u step h of room);
    on = λ x v u step h. ⊎_elim (λ rises. inl rises) (λ waits. inr (plainly x u waits)) (steps_on 0 start most mild (IsOpenFrom s) Of from x v u step (as_one x v h));
    next = λ x v u step h. ⊎_elim (λ rises. inl rises) (λ waits. inr (plainly x u waits)) (opens_on 0 start most mild (IsOpenFrom s) Of from x v u step (as_one x v h));
    due = λ x v u step h late. none_late 0 start most mild (IsOpenFrom s) Of from v u step x (as_one x v h) late;
  }

pub senders_are_awaited : SendersAreAwaited
senders_are_awaited start most s mild = awaited start most s mild
