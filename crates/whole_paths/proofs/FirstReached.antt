-- Where SND.UNA has reached a record that may be lost, that is the first one, or acknowledged.
use Rattle.std.proofs.Common.{◌≡◌, refl, sym, subst, ap, inl, inr, ⊎_elim, ℕ, zero, suc, ◌<◌, ◌≤◌, arith, Some, List, [], ◌∷◌, map}
use Rattle.std.specs.List.{slice_get}
use Rattle.std.proofs.lemmas.Bool.{cases_lt}
use Rattle.std.proofs.lemmas.Option.{same_Some}
use Rattle.stream_lanes.specs.Words.{Has}
use Rattle.sides.specs.declared.side.Side.{Side}
use Rattle.subflow_send.specs.Records.{Record, end_of, span_of}
use Rattle.path_core.specs.State.{PathState, end_at}
use Rattle.path_core.specs.Values.{Carried, values}
use Rattle.world_laws.specs.Members.{HoldsOfKind}
use Rattle.whole_paths.specs.ClearRounds.{IsFirstOrFewer, WhatIsReachedIsFirst}
use Rattle.whole_paths.specs.ClearRounds.{IsFirstOrFewer as reached_one}
use Rattle.whole_paths.specs.Mending.{IsRecordOf}
use Rattle.whole_paths.specs.Unmended.{AreWellBut}
use Rattle.whole_paths.proofs.Exchanges.{Shown, each_shown}
use Rattle.whole_paths.proofs.FirstLost.{behind, left, shorter, stays_among, without}
use Rattle.whole_paths.proofs.Reached.{EndsAreReached, Line, each_is_reached}

module _ (s : Side) (p : PathState Carried) (shown : Shown p) (reached : EndsAreReached p) (lost : List ℕ) (but : AreWellBut s lost p) (position : ℕ) (among : Has (λ n. n ≡ position) lost)
    (low : position ≤ (end_at s p).tcp.send.una) where
  -- no record stands there
  less : ((t : Record) → IsRecordOf (end_at s p) t → t.pos ≡ position → ⊥) → IsFirstOrFewer s lost p
  less none = reached_one.fewer (without position lost) (shorter position lost among.at among.item among.there among.holds)
      (λ t is. ⊎_elim (λ well. inl well) (λ has. inr (stays_among position t.pos (none t is) lost has.at has.item has.there has.holds)) (but t is))

  is_first : IsFirstOrFewer s lost p
  is_first = by (end_at s p).tcp.send.records refl
    where
      by : (rs : List Record) → (end_at s p).tcp.send.records ≡ rs → IsFirstOrFewer s lost p
      by [] is = less (λ t has same. (let there = subst (λ (ts : List Record). slice_get ts has.at ≡ Some has.item) is has.there in cc))
      by (r ∷ rs) is = ⊎_elim
          (λ before. less (others_apart (λ same. omega (arith, before, same))))
          (λ from. ⊎_elim
          (λ past. less (others_apart (λ same. omega (arith, past, same))))
          (λ to. (let same : r.pos ≡ position = omega (arith, from, to) in reached_one.first r rs is (subst (λ n. Has (λ m. m ≡ n) lost) (sym same) among)))
          (cases_lt position r.pos))
          (cases_lt r.pos position)
        where
          line : Line (end_at s p).tcp.send.una (end_at s p).tcp.send.nxt (map span_of (r ∷ rs))
          line = subst (λ ts. Line (end_at s p).tcp.send.una (end_at s p).tcp.send.nxt (map span_of ts)) is (reached s).lined.line

          more : (end_at s p).tcp.send.una < end_of r
          more = left s p reached shown r (record { at = 0; item = r; there = ap (λ (ts : List Record). slice_get ts 0) is; holds = refl })

          others_apart : (r.pos ≡ position → ⊥) → (t : Record) → IsRecordOf (end_at s p) t → t.pos ≡ position → ⊥
          others_apart apart t has same = at has.at (subst (λ ts. slice_get ts has.at ≡ Some t) is (subst (λ y. slice_get (end_at s p).tcp.send.records has.at ≡ Some y) has.holds has.there))
            where
              at : (i : ℕ) → slice_get (r ∷ rs) i ≡ Some t → ⊥
              at zero there = apart (let one = ap (λ (y : Record). y.pos) (same_Some r t there) in omega (arith, one, same))
              at (suc i) there = let far = behind (end_at s p).tcp.send.nxt rs (end_of r) line.2 i t there in omega (arith, far, same, more, low)

pub what_is_reached_is_first : WhatIsReachedIsFirst
what_is_reached_is_first start turns mild h s lost but position among low = is_first s h.path (of_path Shown (each_shown start turns mild.plain.size mild.fit 2 h.here.crew h.here.there))
    (of_path EndsAreReached ((each_is_reached values start turns).each 2 h.here.crew h.here.there)) lost but position among low
  where
    of_path : (P : PathState Carried → Type 0) → HoldsOfKind (λ app. Unit {0}) P h.here.crew.member → P h.path
    of_path P held = subst (HoldsOfKind (λ app. Unit {0}) P) h.here.is held
