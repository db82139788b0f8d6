-- In four rounds all comes that is sent before the first record that may be lost.
use Rattle.std.proofs.Common.{◌≡◌, sym, subst, inl, inr, ⊎_elim, ℕ, ◌+◌, ◌<◌, ◌≤◌, arith, List, [], ◌∷◌, ◌++◌}
use Rattle.std.proofs.lemmas.List.{append-nil, append_assoc}
use Rattle.sides.specs.declared.side.Side.{Side}
use Rattle.sides.specs.Side.{peer}
use Rattle.path_core.specs.State.{PathState, end_at}
use Rattle.path_core.specs.Values.{Carried, values}
use Rattle.world_laws.specs.Openings.{Start}
use Rattle.world_laws.specs.RoundDone.{EndsAt, reached}
use Rattle.world_laws.specs.Worlds.{Turn}
use Rattle.world_laws.proofs.Rounds.DoneByTheEnd.{rounds_end_on_time}
use Rattle.whole_paths.specs.ClearRounds.{EightRoundsAcknowledge, EightRoundsClear, FourRoundsClear, IsAckedUpTo, IsClearUpTo, IsFirstOrFewer, IsSoonFirst, LostRecordsAreFirst, LostRecordsStay}
use Rattle.whole_paths.specs.ClearRounds.{IsSoonFirst as soon_first}
use Rattle.whole_paths.specs.ClearRounds.{IsAckedUpTo as acked}
use Rattle.whole_paths.specs.ClearRounds.{IsClearUpTo as clear}
use Rattle.whole_paths.specs.Courses.{round_end}
use Rattle.whole_paths.specs.Finish.{IsPathAt}
use Rattle.whole_paths.specs.OctetsPassed.{ComesUpTo, ComesUpToLost}
use Rattle.whole_paths.specs.OctetsPassed.{ComesUpToLost as up_to_lost}
use Rattle.whole_paths.specs.Mild.{IsMildStart}
use Rattle.whole_paths.specs.OpenCourses.{IsOpenAfter}
use Rattle.whole_paths.specs.SegmentRounds.{Rounds}
use Rattle.whole_paths.specs.Unmended.{AreWellBut}
use Rattle.whole_paths.proofs.FirstReached.{what_is_reached_is_first}
use Rattle.whole_paths.proofs.Losing.{harms_alone_lose_records}
use Rattle.whole_paths.proofs.OctetsPassed.{octets_are_passed}
use Rattle.whole_paths.proofs.RecordWaits.{path_is}
use Rattle.whole_paths.proofs.RoundSteps.{Between, between, carried, early, open_first, open_last, over_after, rounds_later, silent}
use Rattle.whole_paths.proofs.SegmentRounds.{four_rounds_bring, four_rounds_tell, stays_there}
use Rattle.whole_paths.proofs.WellOctets.{all_comes_up_to_lost}
use Rattle.whole_paths.proofs.OpenTurns.{begun}

module _ (start : Start) (mild : IsMildStart start) (v u : List Turn) (rounds : Rounds start 4 v u) (s : Side) (p q : PathState Carried)
    (here : IsPathAt 0 (reached values start v) p) (there : IsPathAt 0 (reached values start u) q) where
  abbrev b : Between start v u
  b = between start 3 v u rounds

  abbrev first : IsOpenAfter start v
  first = open_first start v b.more b.stays_open

  abbrev last : IsOpenAfter start (v ++ b.more)
  last = open_last start v b.more b.stays_open

  same_p : first.path ≡ p
  same_p = path_is (reached values start v) first.path p first.here here

  same_q : last.path ≡ q
  same_q = path_is (reached values start u) last.path q (subst (λ t. IsPathAt 0 (reached values start t) last.path) (sym b.is) last.here) there

  later : (n by_then : ℕ) → ComesUpTo s n by_then p → ComesUpTo s n by_then q
  later n by_then h = carried start (ComesUpTo s n by_then) (λ turns turn before after. octets_are_passed.on start turns turn (record { mild = mild; before = before; after = after }) s n by_then)
      v b.more b.stays_open p q here (subst (λ t. IsPathAt 0 (reached values start t) q) b.is there) h

  until : q.until ≡ round_end values start u
  until = subst (EndsAt (round_end values start u)) there.is ((rounds_end_on_time values start u).each 2 there.crew there.there)

  in_time : p.clock + 400 < q.until
  in_time = let clock = early start v p here in let ends = until in let late = rounds_later start 4 v u rounds in omega (arith, clock, ends, late)

  passes : (n : ℕ) → ComesUpTo s n (p.clock + 400) p → n ≤ (end_at (peer s) q).tcp.recv.edge
  passes n h = subst (λ (z : PathState Carried). n ≤ (end_at (peer s) z).tcp.recv.edge) same_q
      (octets_are_passed.due start (v ++ b.more) mild last (subst (λ (z : PathState Carried). z.agenda ≡ []) (sym same_q) (silent start u q (over_after start 3 v u rounds) there)) s n (p.clock + 400)
      (subst (λ (z : PathState Carried). p.clock + 400 < z.until) (sym same_q) in_time) (subst (ComesUpTo s n (p.clock + 400)) (sym same_q) (later n (p.clock + 400) h)))

  clears : (lost : List ℕ) → AreWellBut s lost p → IsClearUpTo s lost p q
  clears lost but = by (subst (ComesUpToLost s lost) same_p (all_comes_up_to_lost start v mild first s lost (subst (AreWellBut s lost) (sym same_p) but)))
    where
      by : ComesUpToLost s lost p → IsClearUpTo s lost p q
      by (up_to_lost.none well) = clear.none well
      by (up_to_lost.up_to r is_one data_is sent among h) = clear.up_to r.pos among (passes r.pos h)

pub four_rounds_clear : FourRoundsClear
four_rounds_clear start v u mild rounds s p q here there lost but = clears start mild v u rounds s p q here there lost but

pub eight_rounds_clear : EightRoundsClear
eight_rounds_clear start v a u mild first second s p m q here between_here there lost but soon = by (four_rounds_clear start v a mild first s p m here between_here lost but)
  where
    by : IsClearUpTo s lost p m → IsAckedUpTo s lost p q (reached values start u)
    by (clear.none well) = acked.none well
    by (clear.up_to position among comes) = ⊎_elim (λ all. acked.all_there all) (λ told. acked.up_to position among (omega (arith, comes, told))) (four_rounds_tell start a u mild second s m q between_here there soon)

pub eight_rounds_acknowledge : EightRoundsAcknowledge
eight_rounds_acknowledge start v a u mild first second s p m q here between_here there well soon = ⊎_elim
    (λ all. inl (stays_there start mild a u s (between start 3 a u second) all))
    (λ comes. ⊎_elim (λ all. inl all) (λ told. inr (omega (arith, comes, told))) (four_rounds_tell start a u mild second s m q between_here there soon))
    (four_rounds_bring start v a mild first s p m here between_here well)

-- ---- no more are lost meanwhile

pub lost_records_stay : LostRecordsStay
lost_records_stay start turns [] mild stays s none p q here there lost but =
    subst (AreWellBut s lost) (path_is (reached values start turns) p q here (subst (λ t. IsPathAt 0 (reached values start t) q) (append-nil turns) there)) but
lost_records_stay start turns (turn ∷ more) mild stays s none p q here there lost but =
    lost_records_stay start (turns ++ turn ∷ []) more mild stays.1 s none.1 next.path q next.here (subst (λ t. IsPathAt 0 (reached values start t) q) (sym (append_assoc turns (turn ∷ []) more)) there) lost
    ((harms_alone_lose_records start turns turn (begun start turns turn (record { mild = mild; before = stays.0; after = next })) s).unharmed (none.0 stays.0 next) lost (subst (AreWellBut s lost) (path_is (reached values start turns) p stays.0.path here stays.0.here) but))
  where
    next : IsOpenAfter start (turns ++ turn ∷ [])
    next = open_first start (turns ++ turn ∷ []) more stays.1

pub lost_records_are_first : LostRecordsAreFirst
lost_records_are_first start v a u more mild first second is stays s none p m q here between_here there lost but soon = by (eight_rounds_clear start v a u mild first second s p m q here between_here there lost but soon)
  where
    last : IsOpenAfter start (v ++ more)
    last = open_last start v more stays

    same : last.path ≡ q
    same = path_is (reached values start u) last.path q (subst (λ t. IsPathAt 0 (reached values start t) last.path) (sym is) last.here) there

    later : AreWellBut s lost last.path
    later = lost_records_stay start v more mild stays s none p last.path here last.here lost but

    by : IsAckedUpTo s lost p q (reached values start u) → IsSoonFirst s lost p q (reached values start u)
    by (acked.none well) = soon_first.none well
    by (acked.all_there all) = soon_first.all_there all
    by (acked.up_to position among low) = soon_first.reached_one (subst (IsFirstOrFewer s lost) same
        (what_is_reached_is_first start (v ++ more) mild last s lost later position among (subst (λ (z : PathState Carried). position ≤ (end_at s z).tcp.send.una) (sym same) low)))
