-- The duties that come to nothing leave the numbers that a path tells small, and so does a turn of the path.
use Rattle.world_laws.proofs.Words.{◌≡◌, refl, ℕ, ◌+◌, ◌≤◌, Bool, true, false, if◌then◌else◌, Option, Some, None, List, [], ◌∷◌, length, arith, ◌^◌, eqb-true}
use Rattle.world_laws.proofs.Words.{and_parts, false≢true, list_all, IfSome, Side, peer, is_at, Duty, SendDuty, StepDuty, AskDuty, SilentDuty, Heard, SixBooks}
use Rattle.world_laws.proofs.Words.{send_of, pick, stands, passed, PathEnd, PathState, end_at, with_end, with_agenda, settled, Carried, with_timer_settled}
use Rattle.world_laws.proofs.Words.{mapping_here, after_keep, after_pieces, after_check, after_pass_fin, item_of, item_passed, with_plain_ack, Profile, Holds}
use Rattle.world_laws.proofs.Words.{Lane, LaneIsShort}
use Rattle.world_laws.proofs.Writes.Ends.{item_so}
use Rattle.world_laws.proofs.Lanes.OfAWorld.{Others, duo_at}
use Rattle.world_laws.proofs.Lanes.Settling.{passes}
use Rattle.world_laws.proofs.Lanes.Showing.{HasFin, PathShows}
use Rattle.world_laws.proofs.Lanes.Strolling.{Strolled, side_shows, strolls_held}
use Rattle.world_laws.proofs.Numbers.TellSmall.{IsShort, EndTells}
use Rattle.world_laws.proofs.Numbers.EndRules as rules
use Rattle.world_laws.proofs.Numbers.PathSteps.{is_fair, AreFair, PathTells, BooksAreShort, back_short, tells_at, tells_on, tells_agenda}

-- the end of a side becomes this
end_tells : (c : Profile) (p : PathState Carried) → PathTells c p → (s : Side) (e : PathEnd) → EndTells c s e → PathTells c (with_end s e p)
end_tells c p t s e x = tells_on c p t s e p.agenda x t.agenda

-- ---- things that are passed

maybe_told : (c : Profile) (s : Side) (e : PathEnd) → EndTells c s e → (o : Option Heard) → EndTells c s (item_passed s o e)
maybe_told c s e h o =
    item_so (EndTells c s) s o e h (rules.dss_tells c s e h) (λ next. rules.data_ack_tells c s e h next) (rules.learned_tells c s e h) (rules.skipped_tells c s e h)
    (λ place. rules.fin_tells c s e h place)

-- the FIN that is next stands behind the last octet
fin_short : (n edge : ℕ) (back : Lane) (fin : Option ℕ) → LaneIsShort n back → n + 3 ≤ 2 ^ 31 → IfSome fin (HasFin back.fins) → is_at edge fin ≡ true → IsShort (edge + 1)
fin_short n edge back None lane short has is = absurd (false≢true is)
fin_short n edge back (Some at) lane short has is =
    let same : at ≡ edge = eqb-true at edge is in
    let below = lane.fins.each has.at has.item has.there in
    let position = has.holds in
    omega (arith, same, below, position, short)

module _ (six : SixBooks) (others : Others) (c : Profile) (short : BooksAreShort six) where
  passed_tells : (p : PathState Carried) (ab ba : Lane) → PathShows c p ab ba → Holds (duo_at six ab ba others) → PathTells c p → (d : Duty) → PathTells c (passed d p)
  passed_tells p ab ba h holds t (Duty.Silent (SilentDuty.Timer s)) = end_tells c p t s (with_timer_settled p.clock (end_at s p)) (rules.timer_tells c s (end_at s p) (tells_at c p t s) p.clock)
  passed_tells p ab ba h holds t (Duty.Step (StepDuty.Heard s index)) =
      end_tells c p t s (item_passed s (item_of index (end_at s p)) (end_at s p)) (maybe_told c s (end_at s p) (tells_at c p t s) (item_of index (end_at s p)))
  passed_tells p ab ba h holds t (Duty.Silent (SilentDuty.Keep s)) = end_tells c p t s (after_keep s (end_at s p)) (rules.keep_tells c s (end_at s p) (tells_at c p t s))
  passed_tells p ab ba h holds t (Duty.Ask (AskDuty.CheckFailed s)) =
      end_tells c p t s (after_check p.profile (end_at s p))
      (rules.check_tells c s (end_at s p) (tells_at c p t s) p.profile.spelling.checksums (mapping_here (end_at s p)))
  passed_tells p ab ba h holds t (Duty.Step (StepDuty.PlainAck s)) = end_tells c p t s (with_plain_ack (end_at s p)) (rules.plain_ack_tells c s (end_at s p) (tells_at c p t s))
  passed_tells p ab ba h holds t (Duty.Step (StepDuty.Unmapped s)) = end_tells c p t s (after_pieces (end_at s p)) (rules.unmapped_tells c s (end_at s p) (tells_at c p t s))
  passed_tells p ab ba h holds t (Duty.Silent (SilentDuty.PassFin s)) =
      let e : PathEnd = end_at s p in
      end_tells c p t s (after_pass_fin e) (rules.pass_fin_tells c s e (tells_at c p t s)
      (λ is. fin_short (length (send_of (peer s) six).written) e.tcp.recv.edge (pick s ba ab) e.tcp.fin_at (back_short six others ab ba holds short s) (short.written (peer s))
      (side_shows c s p ab ba h).receiver.fin (and_parts (is_at e.tcp.recv.edge e.tcp.fin_at) _ is).0))
  passed_tells p ab ba h holds t (Duty.Send (SendDuty.Update s)) = t
  passed_tells p ab ba h holds t _ = t

  pub settled_tells : (ds : List Duty) (p : PathState Carried) (ab ba : Lane) → PathShows c p ab ba → Holds (duo_at six ab ba others) → PathTells c p → AreFair ds → PathTells c (settled ds p)
  settled_tells [] p ab ba h holds t fair = tells_agenda c p t [] refl
  settled_tells (d ∷ ds) p ab ba h holds t fair =
      let w : Strolled c (passed d p) ab ba = passes six others c p ab ba h holds d in
      by (stands d p)
      (settled_tells ds (passed d p) w.ab_after w.ba_after w.shows (strolls_held six others ab w.ab_after ba w.ba_after w.ab_moves w.ba_moves holds)
      (passed_tells p ab ba h holds t d) (and_parts (is_fair d) (list_all is_fair ds) fair).1)
    where
      by : (b : Bool) → PathTells c (settled ds (passed d p)) → PathTells c (if b then with_agenda (d ∷ ds) p else settled ds (passed d p))
      by = elim [ true ↦ λ rest. tells_agenda c p t (d ∷ ds) fair | false ↦ λ rest. rest ]
