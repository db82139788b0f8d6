-- The duties that come to nothing are passed, and the lanes go on by moves alone.
--
-- Moves, a call, moves (`Answered`): nothing is said of an order among moves, so settling duties after a reply is more
-- moves behind it, and rounds and the opening are the same lemma without a call (`settles` in `proofs/Lanes/Settling`).
use Rattle.world_laws.proofs.Words.{◌≡◌, refl, ℕ, Bool, true, false, if◌then◌else◌, Option, Some, None, List, [], ◌∷◌, IfSome, Side, A, B, Duty, SendDuty}
use Rattle.world_laws.proofs.Words.{StepDuty, AskDuty, SilentDuty, Heard, SixBooks, pick, stands, passed, PathEnd, PathState, end_at, with_end, with_agenda}
use Rattle.world_laws.proofs.Words.{settled, Carried, with_timer_settled, mapping_here, after_keep, after_pieces, after_check, after_pass_fin, with_learned}
use Rattle.world_laws.proofs.Words.{with_data_fin, with_skipped, counts, after_dss, with_data_ack, item_of, item_passed, heard_passed, with_plain_ack, Profile}
use Rattle.world_laws.proofs.Words.{item_at, Holds, Lane, if_so}
use Rattle.world_laws.proofs.Lanes.Ending.{Did, did_nothing}
use Rattle.world_laws.proofs.Lanes.OfAWorld.{Others, duo_at}
use Rattle.world_laws.proofs.Lanes.Placing.{learned_end, skipped_shows, passed_fin}
use Rattle.world_laws.proofs.Lanes.Replying.{fin_shows, every_item}
use Rattle.world_laws.proofs.Lanes.Roads.{stays, then_strolls}
use Rattle.world_laws.proofs.Lanes.RulesLeaveAlone.{dss_shows, timer_shows, check_did, keep_did, plain_ack_shows, unmapped_shows}
use Rattle.world_laws.proofs.Lanes.Showing.{ItemShows, EndShows, PathShows}
use Rattle.world_laws.proofs.Lanes.Sides.{longer_link}
use Rattle.world_laws.proofs.Lanes.Strolling.{Strolled, strolls_held, agrees, back_holds, side_shows, did_on_path}

-- whether a duty comes to something doesn't depend on the agenda
pub stands_anyway : (d : Duty) (es : List Duty) (p : PathState Carried) → stands d (with_agenda es p) ≡ stands d p
stands_anyway (Duty.Ask AskDuty.JoinAgain) es p = refl
stands_anyway (Duty.Step (StepDuty.Look s)) es p = refl
stands_anyway (Duty.Send (SendDuty.Update s)) es p = refl
stands_anyway (Duty.Silent (SilentDuty.Timer s)) es p = refl
stands_anyway _ es p = refl

-- on the same lanes
pub stays_so : (c : Profile) (q : PathState Carried) (ab ba : Lane) → PathShows c q ab ba → Strolled c q ab ba
stays_so c q ab ba h = record { ab_after = ab; ba_after = ba; ab_moves = stays ab; ba_moves = stays ba; shows = h }

-- first this, and then that from there
pub then_strolled : (c : Profile) (p q : PathState Carried) (ab ba : Lane) (w : Strolled c p ab ba) → Strolled c q w.ab_after w.ba_after → Strolled c q ab ba
then_strolled c p q ab ba w x = record {
  ab_after = x.ab_after;
  ba_after = x.ba_after;
  ab_moves = then_strolls ab w.ab_after x.ab_after w.ab_moves x.ab_moves;
  ba_moves = then_strolls ba w.ba_after x.ba_after w.ba_moves x.ba_moves;
  shows = x.shows;
}

module _ (six : SixBooks) (others : Others) (c : Profile) where
  module _ (p : PathState Carried) (ab ba : Lane) (h : PathShows c p ab ba) (holds : Holds (duo_at six ab ba others)) where
    -- the end of a side becomes this
    end_strolled : (s : Side) (e : PathEnd) → Did c s e (pick s ab ba) (pick s ab ba) (pick s ba ab) (pick s ba ab) → Strolled c (with_end s e p) ab ba
    end_strolled A e d = did_on_path c p (with_end A e p) ab ba h refl A ab ba d refl (longer_link c p ab ba h A ab ba e d)
    end_strolled B e d = did_on_path c p (with_end B e p) ab ba h refl B ba ab d refl (longer_link c p ab ba h B ba ab e d)

    same_lanes : (s : Side) (e : PathEnd) → EndShows c s e (pick s ab ba) (pick s ba ab) → Strolled c (with_end s e p) ab ba
    same_lanes s e shows = end_strolled s e (did_nothing c s (pick s ab ba) (pick s ba ab) e shows)

    module _ (s : Side) where
      abbrev out : Lane
      out = pick s ab ba

      abbrev back : Lane
      back = pick s ba ab

      abbrev e : PathEnd
      e = end_at s p

      abbrev shows : EndShows c s e out back
      shows = side_shows c s p ab ba h

      -- a thing that a copy said
      item_did : (item : Heard) → ItemShows out.acks back item → Did c s (heard_passed s item e) out out back back
      item_did Heard.Dss has = did_nothing c s out back (after_dss s e) (dss_shows c s out back e shows)
      item_did (Heard.DataAck next window) has = did_nothing c s out back (with_data_ack next e) shows
      item_did (Heard.Mapping fin) has =
          if_so (λ z. Did c s z out out back back) (counts e) (with_learned e) (with_skipped e)
          (learned_end c s out back e (agrees six others s ab ba holds) shows) (did_nothing c s out back (with_skipped e) (skipped_shows c s out back e shows))
      item_did (Heard.DataFin place) has =
          if_so (λ z. Did c s z out out back back) (counts e) (with_data_fin place e) e
          (did_nothing c s out back (with_data_fin place e) (fin_shows c s place e out back has shows)) (did_nothing c s out back e shows)
      item_did (Heard.InfiniteMapping place position) has = did_nothing c s out back e shows
      item_did _ has = did_nothing c s out back e shows

      maybe_did : (o : Option Heard) → IfSome o (ItemShows out.acks back) → Did c s (item_passed s o e) out out back back
      maybe_did = elim [ None ↦ λ has. did_nothing c s out back e shows | Some item ↦ λ has. item_did item has ]

    item_shows : (s : Side) (index : ℕ) (plain : Bool) → IfSome (if plain then None else item_at index (end_at s p).treated.items) (ItemShows (pick s ab ba).acks (pick s ba ab))
    item_shows s index true = tt
    item_shows s index false = every_item index (end_at s p).treated.items (side_shows c s p ab ba h).treated.items

    pub passes : (d : Duty) → Strolled c (passed d p) ab ba
    passes (Duty.Silent (SilentDuty.Timer s)) = same_lanes s (with_timer_settled p.clock (end_at s p)) (timer_shows c s (pick s ab ba) (pick s ba ab) p.clock (end_at s p) (side_shows c s p ab ba h))
    passes (Duty.Step (StepDuty.Heard s index)) =
        end_strolled s (item_passed s (item_of index (end_at s p)) (end_at s p)) (maybe_did s (item_of index (end_at s p)) (item_shows s index (end_at s p).modes.identity))
    passes (Duty.Silent (SilentDuty.Keep s)) = end_strolled s (after_keep s (end_at s p)) (keep_did c s (pick s ab ba) (pick s ba ab) (end_at s p) (side_shows c s p ab ba h))
    passes (Duty.Ask (AskDuty.CheckFailed s)) = end_strolled s (after_check p.profile (end_at s p))
        (check_did c s (pick s ab ba) (pick s ba ab) p.profile.spelling.checksums (mapping_here (end_at s p)) (end_at s p) (side_shows c s p ab ba h))
    passes (Duty.Silent (SilentDuty.PassFin s)) =
        end_strolled s (after_pass_fin (end_at s p)) (passed_fin c s (pick s ab ba) (pick s ba ab) _ _ (end_at s p) (back_holds six others s ab ba holds) (side_shows c s p ab ba h))
    passes (Duty.Send (SendDuty.Update s)) = stays_so c p ab ba h
    passes (Duty.Step (StepDuty.PlainAck s)) = same_lanes s (with_plain_ack (end_at s p)) (plain_ack_shows c s (pick s ab ba) (pick s ba ab) (end_at s p) (side_shows c s p ab ba h))
    passes (Duty.Step (StepDuty.Unmapped s)) = same_lanes s (after_pieces (end_at s p)) (unmapped_shows c s (pick s ab ba) (pick s ba ab) (end_at s p) (side_shows c s p ab ba h))
    passes _ = stays_so c p ab ba h

  agenda_stays : (ds : List Duty) (p : PathState Carried) (ab ba : Lane) → PathShows c p ab ba → Strolled c (with_agenda ds p) ab ba
  agenda_stays ds p ab ba h = stays_so c (with_agenda ds p) ab ba (record { profile = h.profile; may = h.may; a = h.a; b = h.b; copies = h.copies })

  pub settles : (ds : List Duty) (p : PathState Carried) (ab ba : Lane) → PathShows c p ab ba → Holds (duo_at six ab ba others) → Strolled c (settled ds p) ab ba
  settles [] p ab ba h holds = agenda_stays [] p ab ba h
  settles (d ∷ ds) p ab ba h holds =
      let w : Strolled c (passed d p) ab ba = passes p ab ba h holds d in
      by (stands d p)
      (then_strolled c (passed d p) (settled ds (passed d p)) ab ba w
      (settles ds (passed d p) w.ab_after w.ba_after w.shows (strolls_held six others ab w.ab_after ba w.ba_after w.ab_moves w.ba_moves holds)))
    where
      by : (b : Bool) → Strolled c (settled ds (passed d p)) ab ba → Strolled c (if b then with_agenda (d ∷ ds) p else settled ds (passed d p)) ab ba
      by = elim [ true ↦ λ rest. agenda_stays (d ∷ ds) p ab ba h | false ↦ λ rest. rest ]
