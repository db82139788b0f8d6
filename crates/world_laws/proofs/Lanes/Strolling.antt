-- Moves of the two lanes in the duo of a world, and what a rule of one side's end makes of what the path shows.
use Rattle.world_laws.proofs.Words.{◌≡◌, refl, sym, ◌∙◌, ap, subst, ℕ, inl, inr, ⊎_elim, Bool, true, false, List, [], ◌∷◌, arith, and_parts, slice_get}
use Rattle.world_laws.proofs.Words.{list_all, Side, A, B, peer, with_turned_bit, changed, next_number, is_stripped}
use Rattle.world_laws.proofs.Words.{is_altered, LinkState, PlainSegment, SixBooks, send_of, reassembly_of, pick, PathState, end_at, Carried}
use Rattle.world_laws.proofs.Words.{carried_by, stripped, altered, values, Profile, handed, Every-map, Every, Duo, after_events, after_event, Holds, LaneHolds}
use Rattle.world_laws.proofs.Words.{AckCopy, Lane, view_of, after_event_held, Move, Moves, lane_refused, copy_clashes, move_refused}
use Rattle.stream_lanes.specs.Moves.Move.{Learn}
use Rattle.stream_lanes.specs.Duo.{Event}
use Rattle.stream_lanes.proofs.Refusals.{never_disagrees}
use Rattle.std.specs.Int.Bits.{bit_xor, xor_assoc, xor_self, xor_zero_r}
use Rattle.world_laws.proofs.Lanes.Ending.{Did}
use Rattle.world_laws.proofs.Lanes.Growing.{SenderGoes, ReceiverGoes, sent_longer, heard_longer, segment_longer, peer_shows}
use Rattle.world_laws.proofs.Lanes.OfAWorld.{flags_of, Others, duo_at, LaneMoves, moves_to_b, moves_to_a, move_events, moves_silent, events_append, Moved}
use Rattle.world_laws.proofs.Lanes.Roads.{is_calm, put_there, moved_there, move, moves, Strolls}
use Rattle.world_laws.proofs.Lanes.Saying.{handed_kept}
use Rattle.world_laws.proofs.Lanes.Showing.{EndShows, SegmentShows, FlightShows, PathShows, HasData, MayAlter}

-- ---- moves in the duo

module _ (six : SixBooks) (others : Others) where
  abbrev pub Pair : Lane → Lane → Duo
  Pair ab ba = duo_at six ab ba others

  pub moved_to_b : (ms : List Move) (ab ba : Lane) → list_all is_calm ms ≡ true → after_events (moves_to_b others.number ms) (Pair ab ba) ≡ Pair (moves ms ab) ba
  moved_to_b [] ab ba calm = refl
  moved_to_b (m ∷ ms) ab ba calm =
      let parts = and_parts (is_calm m) (list_all is_calm ms) calm in
      ap (λ d. after_events (moves_to_b others.number ms) (record (Pair ab ba) { ab = d }))
      (moved_there others.lanes_ab others.number six.send_a six.reassembly_b others.reader_b (flags_of others.links A six) others.within_ab m ab parts.0)
      ∙ moved_to_b ms (move m ab) ba parts.1

  pub moved_to_a : (ms : List Move) (ab ba : Lane) → list_all is_calm ms ≡ true → after_events (moves_to_a others.number ms) (Pair ab ba) ≡ Pair ab (moves ms ba)
  moved_to_a [] ab ba calm = refl
  moved_to_a (m ∷ ms) ab ba calm =
      let parts = and_parts (is_calm m) (list_all is_calm ms) calm in
      ap (λ d. after_events (moves_to_a others.number ms) (record (Pair ab ba) { ba = d }))
      (moved_there others.lanes_ba others.number six.send_b six.reassembly_a others.reader_a (flags_of others.links B six) others.within_ba m ba parts.0)
      ∙ moved_to_a ms ab (move m ba) parts.1

  pub moved_both : (ab_moves ba_moves : List Move) (ab ba : Lane) → list_all is_calm ab_moves ≡ true → list_all is_calm ba_moves ≡ true
      → after_events (move_events (record { path = others.number; ab = ab_moves; ba = ba_moves })) (Pair ab ba) ≡ Pair (moves ab_moves ab) (moves ba_moves ba)
  moved_both ab_moves ba_moves ab ba calm_ab calm_ba =
      events_append (moves_to_b others.number ab_moves) (moves_to_a others.number ba_moves) (Pair ab ba)
      ∙ ap (after_events (moves_to_a others.number ba_moves)) (moved_to_b ab_moves ab ba calm_ab)
      ∙ moved_to_a ba_moves (moves ab_moves ab) ba calm_ba

  abbrev pub moves_of : {ab ab_after ba ba_after : Lane} → Strolls ab ab_after → Strolls ba ba_after → LaneMoves
  moves_of x y = record { path = others.number; ab = x.by; ba = y.by }

  pub strolled_both : (ab ab_after ba ba_after : Lane) (x : Strolls ab ab_after) (y : Strolls ba ba_after)
      → after_events (move_events (moves_of x y)) (Pair ab ba) ≡ Pair ab_after ba_after
  strolled_both ab ab_after ba ba_after x y = moved_both x.by y.by ab ba x.calm y.calm ∙ ap (λ p. Pair p (moves y.by ba)) (sym x.to) ∙ ap (Pair ab_after) (sym y.to)

-- moves of the lanes of one path
pub lanes_moved : (six : SixBooks) (others : Others) (ab ab_after ba ba_after : Lane) → Strolls ab ab_after → Strolls ba ba_after
    → Moved (duo_at six ab ba others) (duo_at six ab_after ba_after others)
lanes_moved six others ab ab_after ba ba_after x y = record {
  events = move_events (moves_of six others x y);
  silent = moves_silent (moves_of six others x y);
  to = sym (strolled_both six others ab ab_after ba ba_after x y);
}

pub events_held : (events : List Event) (d : Duo) → Holds d → Holds (after_events events d)
events_held [] d h = h
events_held (event ∷ events) d h = events_held events (after_event event d) (after_event_held event d h)

-- the lanes of a path among the others
ab_holds : (six : SixBooks) (others : Others) (ab ba : Lane) → Holds (duo_at six ab ba others) → LaneHolds (view_of (flags_of others.links A six) six.send_a six.reassembly_b) others.number ab
ab_holds six others ab ba h =
    h.ab.lanes.each others.number others.number ab (omega arith) (put_there others.lanes_ab others.number ab others.within_ab)

ba_holds : (six : SixBooks) (others : Others) (ab ba : Lane) → Holds (duo_at six ab ba others) → LaneHolds (view_of (flags_of others.links B six) six.send_b six.reassembly_a) others.number ba
ba_holds six others ab ba h =
    h.ba.lanes.each others.number others.number ba (omega arith) (put_there others.lanes_ba others.number ba others.within_ba)

module _ (six : SixBooks) (others : Others) where
  pub strolls_held : (ab ab_after ba ba_after : Lane) → Strolls ab ab_after → Strolls ba ba_after → Holds (duo_at six ab ba others)
      → Holds (duo_at six ab_after ba_after others)
  strolls_held ab ab_after ba ba_after x y h =
      subst Holds (strolled_both six others ab ab_after ba ba_after x y)
      (events_held (move_events (moves_of six others x y)) (duo_at six ab ba others) h)

  -- what holds of the lane that a side sends on, and of the one that it hears
  pub out_holds : (s : Side) (ab ba : Lane) → Holds (duo_at six ab ba others)
      → LaneHolds (view_of (flags_of others.links s six) (send_of s six) (reassembly_of (peer s) six)) others.number (pick s ab ba)
  out_holds = elim [ A ↦ λ ab ba h. ab_holds six others ab ba h | B ↦ λ ab ba h. ba_holds six others ab ba h ]

  pub back_holds : (s : Side) (ab ba : Lane) → Holds (duo_at six ab ba others)
      → LaneHolds (view_of (flags_of others.links (peer s) six) (send_of (peer s) six) (reassembly_of s six)) others.number (pick s ba ab)
  back_holds = elim [ A ↦ λ ab ba h. ba_holds six others ab ba h | B ↦ λ ab ba h. ab_holds six others ab ba h ]

  -- a mapping that comes on a lane never clashes
  pub agrees : (s : Side) (ab ba : Lane) → Holds (duo_at six ab ba others) → (copy : ℕ) → copy_clashes (slice_get (pick s ba ab).datas copy) (pick s ba ab) ≡ false
  agrees A ab ba h copy =
      ap (λ o. lane_refused (move_refused (Learn copy)) o) (sym (put_there others.lanes_ba others.number ba others.within_ba))
      ∙ never_disagrees (flags_of others.links B six) (duo_at six ab ba others).ba h.ba (Moves others.number (Learn copy))
  agrees B ab ba h copy =
      ap (λ o. lane_refused (move_refused (Learn copy)) o) (sym (put_there others.lanes_ab others.number ab others.within_ab))
      ∙ never_disagrees (flags_of others.links A six) (duo_at six ab ba others).ab h.ab (Moves others.number (Learn copy))

-- ---- the link

pub record LinkShows (c : Profile) (ab ba : Lane) (link : LinkState Carried) : Type 0 where
  pub may : MayAlter link.lines ab.alters ba.alters
  pub copies : Every (λ f. FlightShows c ab ba f.to f.carried.segment) link.under_way

pub link_shows : (c : Profile) (p : PathState Carried) (ab ba : Lane) → PathShows c p ab ba → LinkShows c ab ba p.link
link_shows c p ab ba h = record { may = h.may; copies = h.copies }

pub link_longer : {c : Profile} (s : Side) (out out_after back back_after : Lane) (link : LinkState Carried) → SenderGoes out out_after → ReceiverGoes back back_after
    → LinkShows c (pick s out back) (pick s back out) link → LinkShows c (pick s out_after back_after) (pick s back_after out_after) link
link_longer {c} A out out_after back back_after link g r h = record {
  may = record { a = λ n is. ap (λ p. p.alters) g.is ∙ h.may.a n is; b = λ n is. ap (λ p. p.alters) r.is ∙ h.may.b n is };
  copies = Every-map (λ f shows. at f.to f.carried.segment shows) h.copies;
}
  where
    at : (to : Side) (sg : PlainSegment) → FlightShows c out back to sg → FlightShows c out_after back_after to sg
    at B sg shows = segment_longer (sent_longer out out_after back back_after g r) sg shows
    at A sg shows = segment_longer (heard_longer out out_after back back_after g r) sg shows
link_longer {c} B out out_after back back_after link g r h = record {
  may = record { a = λ n is. ap (λ p. p.alters) r.is ∙ h.may.a n is; b = λ n is. ap (λ p. p.alters) g.is ∙ h.may.b n is };
  copies = Every-map (λ f shows. at f.to f.carried.segment shows) h.copies;
}
  where
    at : (to : Side) (sg : PlainSegment) → FlightShows c back out to sg → FlightShows c back_after out_after to sg
    at A sg shows = segment_longer (sent_longer out out_after back back_after g r) sg shows
    at B sg shows = segment_longer (heard_longer out out_after back back_after g r) sg shows

-- a bit that is turned twice
turned_back : (octets : List ℕ) → with_turned_bit (with_turned_bit octets) ≡ octets
turned_back [] = refl
turned_back (first ∷ rest) = ap (λ x. x ∷ rest) (xor_assoc first 1 1 ∙ ap (bit_xor first) (xor_self 1) ∙ xor_zero_r first)

no_bit : (octets : List ℕ) → octets ≡ [] → with_turned_bit octets ≡ []
no_bit octets none = ap with_turned_bit none

-- the segment with a bit of its payload turned is on the lane too
altered_shows : (c : Profile) (s : Side) (acks : List AckCopy) (p : Lane) (sg : PlainSegment) → p.alters ≡ true → SegmentShows c s acks p sg → SegmentShows c s acks p (record sg { payload = with_turned_bit sg.payload })
altered_shows c s acks p sg may h = record {
  window = h.window;
  sub = h.sub;
  options = h.options;
  payload = ⊎_elim (λ none. inl (no_bit sg.payload none)) (λ has. inr has) (h.turned may);
  turned = λ _. ⊎_elim (λ none. inl (no_bit sg.payload none)) (λ has. inr (subst (HasData p.datas sg.position) (sym (turned_back sg.payload)) has)) h.payload;
  fin = λ is. let f = h.fin is in (no_bit sg.payload f.0, f.1);
  plain = h.plain;
}

pub handed_shows : {c : Profile} (s : Side) (out back : Lane) (sg : PlainSegment) (p : PathState Carried) → SegmentShows c s back.acks out sg
    → LinkShows c (pick s out back) (pick s back out) p.link → LinkShows c (pick s out back) (pick s back out) (handed values s sg p)
handed_shows {c} s out back sg p shows h = record {
  may = same_lines s h.may;
  copies = handed_kept (λ f. FlightShows c (pick s out back) (pick s back out) f.to f.carried.segment) s sg p
      (λ tick. to_peer s (changed_shows (is_stripped s (next_number s p.link) p.clock p.link.lines) (is_altered s (next_number s p.link) p.link.lines) (own_may s h.may (next_number s p.link)))) h.copies;
}
  where
    same_lines : (s : Side) → {x y : Bool} → MayAlter p.link.lines x y → MayAlter (handed values s sg p).lines x y
    same_lines A may = may
    same_lines B may = may

    carried : Carried
    carried = changed stripped altered (is_stripped s (next_number s p.link) p.clock p.link.lines) (is_altered s (next_number s p.link) p.link.lines) (carried_by p.profile.spelling s sg)

    own_may : (s : Side) → MayAlter p.link.lines (pick s out back).alters (pick s back out).alters → (n : ℕ) → is_altered s n p.link.lines ≡ true → out.alters ≡ true
    own_may = elim [ A ↦ λ may n is. may.a n is | B ↦ λ may n is. may.b n is ]

    changed_shows : (strips alters : Bool) → (alters ≡ true → out.alters ≡ true) → SegmentShows c s back.acks out (changed stripped altered strips alters (carried_by p.profile.spelling s sg)).segment
    changed_shows false false may = shows
    changed_shows true false may = shows
    changed_shows false true may = altered_shows c s back.acks out sg (may refl) shows
    changed_shows true true may = altered_shows c s back.acks out sg (may refl) shows

    to_peer : (s : Side) → SegmentShows c s back.acks out carried.segment → FlightShows c (pick s out back) (pick s back out) (peer s) carried.segment
    to_peer = elim [ A ↦ λ shows. shows | B ↦ λ shows. shows ]

-- ---- a side's end did something

-- a path that shows on lanes reached by moves alone
pub record Strolled (c : Profile) (q : PathState Carried) (ab ba : Lane) : Type 0 where
  pub ab_after : Lane
  pub ba_after : Lane
  pub ab_moves : Strolls ab ab_after
  pub ba_moves : Strolls ba ba_after
  pub shows : PathShows c q ab_after ba_after

-- the end of a side, on its lanes
pub side_shows : (c : Profile) (s : Side) (p : PathState Carried) (ab ba : Lane) → PathShows c p ab ba → EndShows c s (end_at s p) (pick s ab ba) (pick s ba ab)
side_shows c A p ab ba h = h.a
side_shows c B p ab ba h = h.b

pub side_link : (c : Profile) (s : Side) (p : PathState Carried) (ab ba : Lane) → PathShows c p ab ba
    → LinkShows c (pick s (pick s ab ba) (pick s ba ab)) (pick s (pick s ba ab) (pick s ab ba)) p.link
side_link c A p ab ba h = link_shows c p ab ba h
side_link c B p ab ba h = link_shows c p ab ba h

module _ (c : Profile) (p q : PathState Carried) (ab ba : Lane) (h : PathShows c p ab ba) (profile : q.profile ≡ p.profile) where
  pub did_on_path : (s : Side) (out_called back_called : Lane) (d : Did c s (end_at s q) (pick s ab ba) out_called (pick s ba ab) back_called)
      → end_at (peer s) q ≡ end_at (peer s) p → LinkShows c (pick s d.out_after d.back_after) (pick s d.back_after d.out_after) q.link
      → Strolled c q (pick s out_called back_called) (pick s back_called out_called)
  did_on_path A out_called back_called d same link = record {
    ab_after = d.out_after;
    ba_after = d.back_after;
    ab_moves = d.out_moves;
    ba_moves = d.back_moves;
    shows = record {
      profile = profile ∙ h.profile;
      may = link.may;
      a = d.shows;
      b = subst (λ e. EndShows c B e d.back_after d.out_after) (sym same) (peer_shows c B p.b ab d.out_after ba d.back_after d.sender d.receiver h.b);
      copies = link.copies;
    };
  }
  did_on_path B out_called back_called d same link = record {
    ab_after = d.back_after;
    ba_after = d.out_after;
    ab_moves = d.back_moves;
    ba_moves = d.out_moves;
    shows = record {
      profile = profile ∙ h.profile;
      may = link.may;
      a = subst (λ e. EndShows c A e d.back_after d.out_after) (sym same) (peer_shows c A p.a ba d.out_after ab d.back_after d.sender d.receiver h.a);
      b = d.shows;
      copies = link.copies;
    };
  }
