-- A record that comes by a tick comes by that tick, until it is acknowledged.
use Rattle.std.proofs.Common.{◌≡◌, refl, subst, ap, ◌∙◌, ◌⊎◌, inl, inr, ⊎_elim, ℕ, zero, suc, ◌<◌, ◌≤◌, arith, le_refl, Some, List, [], ◌∷◌}
use Rattle.std.specs.List.{slice_get}
use Rattle.std.proofs.lemmas.Option.{same_Some}
use Rattle.sides.specs.declared.side.Side.{Side}
use Rattle.link_model.specs.declared.flight.Flight.{Flight}
use Rattle.subflow_send.specs.Records.{Record, end_of}
use Rattle.subflow_send.specs.declared.record.RecordKind.TheVariants.{Data}
use Rattle.path_core.specs.State.{PathState, end_at}
use Rattle.path_core.specs.Values.{Carried, values}
use Rattle.world_laws.specs.Members.{HoldsOfKind}
use Rattle.world_laws.specs.Openings.{Start}
use Rattle.world_laws.specs.RoundDone.{reached}
use Rattle.world_laws.specs.Worlds.{Turn}
use Rattle.whole_paths.specs.InTime.{ComesFrom}
use Rattle.whole_paths.specs.Kept.{AreKept, EndsKeepWhatWaits, IsSameRecord, KeepsWhatWaits}
use Rattle.whole_paths.specs.Mending.{IsAllThereOf, IsOpenTurn, IsThereBy, RecordsStayWell}
use Rattle.whole_paths.specs.Mending.{IsThereBy as there_by}
use Rattle.whole_paths.specs.OpenCourses.{IsOpenAfter}
use Rattle.whole_paths.specs.RecordsPassed.{ComesInTime, RecordsComeInTime}
use Rattle.whole_paths.specs.RecordsPassed.{ComesInTime as in_time}
use Rattle.whole_paths.proofs.Exchanges.{all_at}
use Rattle.whole_paths.proofs.InTime.{nothing_is_overdue}
use Rattle.whole_paths.proofs.Keeping.{what_waits_is_kept}
use Rattle.whole_paths.proofs.Losing.{all_there, back, same_end, there_so}
use Rattle.whole_paths.proofs.OpenTurns.{with_both, begun}
use Rattle.whole_paths.proofs.RecordsWell.{each_record_stays_well}

-- one of the first ones is let go, or it is one of the others
kept_one : {X : Type 0} (Gone : X → Type 0) (Same : X → X → Type 0) (xs ys : List X) → AreKept Gone Same xs ys → (i : ℕ) (x : X) → slice_get xs i ≡ Some x
    → Gone x ⊎ ((j : ℕ) × (y : X) × (slice_get ys j ≡ Some y) × Same x y)
kept_one Gone Same [] ys kept i x there = cc
kept_one Gone Same (a ∷ xs) [] kept zero x there = inl (subst Gone (same_Some a x there) kept.0)
kept_one Gone Same (a ∷ xs) [] kept (suc i) x there = kept_one Gone Same xs [] kept.1 i x there
kept_one Gone Same (a ∷ xs) (y ∷ ys) kept zero x there = ⊎_elim
    (λ gone. inl (subst Gone (same_Some a x there) gone.0))
    (λ same. inr (0, y, refl, subst (λ z. Same z y) (same_Some a x there) same.0))
    kept
kept_one Gone Same (a ∷ xs) (y ∷ ys) kept (suc i) x there = ⊎_elim
    (λ gone. kept_one Gone Same xs (y ∷ ys) gone.1 i x there)
    (λ same. ⊎_elim (λ gone. inl gone) (λ one. inr (suc one.0, one.1, one.2, one.3)) (kept_one Gone Same xs ys same.1 i x there))
    kept

trans : (r t u : Record) → IsSameRecord r t → IsSameRecord t u → IsSameRecord r u
trans r t u x y = record { pos = y.pos ∙ x.pos; kind = y.kind ∙ x.kind; piece = y.piece ∙ x.piece; mapping = y.mapping ∙ x.mapping }

module _ (s : Side) (r : Record) (by_then : ℕ) (data_is : r.kind ≡ Data) (p q : PathState Carried) (records : RecordsStayWell s p q) (kept : KeepsWhatWaits (end_at s p) (end_at s q)) where
  still_comes : ComesInTime s r by_then p → ComesInTime s r by_then q
  still_comes (in_time.acknowledged low) = in_time.acknowledged (let up = kept.una in omega (arith, low, up))
  still_comes (in_time.comes t is_one same h) =
      let there : slice_get (end_at s p).tcp.send.records is_one.at ≡ Some t = is_one.there ∙ ap Some is_one.holds in
      let still : IsThereBy s t by_then q = records.comes t by_then is_one (same.kind ∙ data_is) h in
      ⊎_elim
      (λ gone. in_time.acknowledged (let low = gone.1 in let ends = same_end r t same in omega (arith, low, ends)))
      (λ one. in_time.comes one.1 (record { at = one.0; item = one.1; there = one.2; holds = refl }) (trans r t one.1 same one.3) (there_so s t one.1 one.3 q by_then by_then (le_refl by_then) still))
      (kept_one _ IsSameRecord (end_at s p).tcp.send.records (end_at s q).tcp.send.records kept.records is_one.at t there)

on_so : (start : Start) (turns : List Turn) (turn : Turn) (h : IsOpenTurn start turns turn) (s : Side) (r : Record) (by_then : ℕ) → r.kind ≡ Data → ComesInTime s r by_then h.before.path → ComesInTime s r by_then h.after.path
on_so start turns turn h s r by_then data_is = still_comes s r by_then data_is h.before.path h.after.path (each_record_stays_well start turns turn (begun start turns turn h) s)
    (with_both start turns turn h EndsKeepWhatWaits (what_waits_is_kept values (reached values start turns) (turn ∷ []) 2 h.before.here.crew h.before.here.there) s)

due_so : (start : Start) (turns : List Turn) (h : IsOpenAfter start turns) → h.path.agenda ≡ [] → (s : Side) (r : Record) (by_then : ℕ) → by_then < h.path.until → ComesInTime s r by_then h.path
    → (end_of r ≤ (end_at s h.path).tcp.send.una) ⊎ IsAllThereOf s r h.path
due_so start turns h over s r by_then early (in_time.acknowledged low) = inl low
due_so start turns h over s r by_then early (in_time.comes t is_one same x) = inr (all_there s t r (back r t same) h.path (is_all x))
  where
    past : ComesFrom h.path.until h.path
    past = subst (HoldsOfKind (λ app. Unit {0}) (λ (p : PathState Carried). p.agenda ≡ [] → ComesFrom p.until p)) h.here.is ((nothing_is_overdue values start turns).over 2 h.here.crew h.here.there) over

    is_all : IsThereBy s t by_then h.path → IsAllThereOf s t h.path
    is_all (there_by.there all) = all
    is_all (there_by.comes c) = absurd (
        let from = all_at (λ (f : Flight Carried). h.path.until ≤ f.tick) h.path.link.under_way c.there.at c.there.item c.there.there past.copies in
        let same_tick = ap (λ (f : Flight Carried). f.tick) c.there.holds in let soon = c.soon in omega (arith, from, same_tick, soon, early))

pub records_come_in_time : RecordsComeInTime
records_come_in_time = record { on = on_so; due = due_so }
