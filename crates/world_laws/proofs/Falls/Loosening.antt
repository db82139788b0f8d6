-- A side receives by the peer's infinite mapping from now on: the lane that it hears goes by that mapping.
use Rattle.world_laws.proofs.Words.{◌≡◌, refl, sym, ◌∙◌, ap, ℕ, ◌-◌, ◌&&◌, not, inl, inr, ◌⊎◌, Bool, true, false, if◌then◌else◌, Option, Some, None, [], ◌∷◌}
use Rattle.world_laws.proofs.Words.{is_none, set, both_ways, false≢true, append-nil, set-set, Verdict, Mode, reads_mappings, with_infinite_receive, writes_mappings, Fall}
use Rattle.world_laws.proofs.Words.{is_failed_path, goes, fall_step, stays_so, Side, A, B, ControlCall, ControlReply, sole_path, Ask, Reply, SixBooks}
use Rattle.world_laws.proofs.Words.{control_of, reply_of, after_ask, pick, PathEnd, PathState, Carried, is_infinite_receive, receiving_infinite, Profile, Pair}
use Rattle.world_laws.proofs.Words.{Lane, ToB, ToA, takes_pair, Moves, LookAtReceiver, TakePair, is_fallback}
use Rattle.fallback_state.specs.declared.fall.Event.{Event}
use Rattle.fallback_state.specs.Table.{breaks}
use Rattle.stream_lanes.specs.Streams.{moves}
use Rattle.world_laws.proofs.Lanes.Ending.{Did}
use Rattle.world_laws.proofs.Falls.WhereASideStands.{is_plain, is_loose}
use Rattle.world_laws.proofs.Falls.CallsAndModes.{control_moves}
use Rattle.world_laws.proofs.Lanes.Growing.{ReceiverGoes, sender_stays, same_edge}
use Rattle.world_laws.proofs.Lanes.OfAWorld.{Links, is_firm, plain_at, loose_at, StaysFirm, flags_of, Others, duo_at, MayCall, Moved, unmoved, then_moved}
use Rattle.world_laws.proofs.Lanes.Roads.{Strolls, stays, one_move, put_there}
use Rattle.world_laws.proofs.Lanes.Showing.{PairTold, PeerIs, HasFin, EndShows, PathShows}
use Rattle.world_laws.proofs.Lanes.Sides.{SideDid, Answered}
use Rattle.world_laws.proofs.Lanes.Strolling.{did_on_path}
use Rattle.world_laws.proofs.Lanes.EndParts.{new_receiver, new_acks, new_treated, new_pairs}

-- ---- the verdict

-- where this row tells so, the side receives by an infinite mapping
abbrev RowLoosens : Fall × Verdict → Type 0
RowLoosens row = is_infinite_receive (Reply.Control (ControlReply.Verdict row.1)) ≡ true → (is_loose row.0 ≡ true) × (is_plain row.0 ≡ false) × (is_fallback row.0.mode ≡ true)

goes_loose : (m : Mode) (f : Fall) → RowLoosens (goes m f)
goes_loose Mode.InfiniteReceive f is = (refl, refl, refl)
goes_loose Mode.InfiniteBoth f is = (refl, refl, refl)
goes_loose _ f is = absurd (false≢true is)

loosens_if : (b : Bool) (x y : Fall × Verdict) → RowLoosens x → RowLoosens y → RowLoosens (if b then x else y)
loosens_if = elim [ true ↦ λ x y h k. h | false ↦ λ x y h k. k ]

row_loosens : (path : ℕ) (sole : Bool) (f : Fall) → RowLoosens (fall_step f path sole Event.InfiniteHeard)
row_loosens path sole f =
    let last : Fall × Verdict = if writes_mappings f.mode && not f.joined && is_none f.failed then goes Mode.Identity f else breaks 1 f in
    let rest : Fall × Verdict = if sole && is_failed_path f.failed path then goes (with_infinite_receive f.mode) f else last in
    loosens_if (not (reads_mappings f.mode)) (stays_so f) rest (λ is. absurd (false≢true is))
    (loosens_if (sole && is_failed_path f.failed path) (goes (with_infinite_receive f.mode) f) last (goes_loose (with_infinite_receive f.mode) f)
    (loosens_if (writes_mappings f.mode && not f.joined && is_none f.failed) (goes Mode.Identity f) (breaks 1 f) (goes_loose Mode.Identity f) (λ is. absurd (false≢true is))))

-- a side that is told infinite receiving is loose in the books after the call, and no firm side is told so
told_loosens : (s : Side) (path : ℕ) (six : SixBooks) → let ask = Ask.Control s (ControlCall.Fell path Event.InfiniteHeard) in is_infinite_receive (reply_of six ask) ≡ true
    → (is_loose (control_of s (after_ask ask six)).fall ≡ true) × (is_plain (control_of s (after_ask ask six)).fall ≡ false) × (is_fallback (control_of s (after_ask ask six)).fall.mode ≡ true)
told_loosens A path six is = row_loosens path (sole_path six.control_a.paths path) six.control_a.fall is
told_loosens B path six is = row_loosens path (sole_path six.control_b.paths path) six.control_b.fall is

pub call_loosens : (links : Links) (s : Side) (path : ℕ) (six : SixBooks) → let ask = Ask.Control s (ControlCall.Fell path Event.InfiniteHeard) in StaysFirm links s six ask
    → is_infinite_receive (reply_of six ask) ≡ true → (loose_at links s (after_ask ask six) ≡ true) × (plain_at links s (after_ask ask six) ≡ false)
call_loosens links s path six firm is =
    (elim (is_firm links s) as (λ b. is_firm links s ≡ b → ((not b && is_loose (control_of s books).fall) ≡ true) × ((not b && is_plain (control_of s books).fall) ≡ false))
    [ true ↦ λ so. absurd (both_ways _ (firm so) (told_loosens s path six is).2) | false ↦ λ so. let told = told_loosens s path six is in (told.0, told.1) ]) refl
  where
    books : SixBooks
    books = after_ask (Ask.Control s (ControlCall.Fell path Event.InfiniteHeard)) six

-- ---- the lane

-- the end knows it then
abbrev pub loosened : Lane → Lane
loosened p = record p { receiver_plain = false; receiver_loose = true }

-- and looks at it
pub loosen_moves : (s : Side) (six : SixBooks) (others : Others) (ab ba : Lane) → loose_at others.links s six ≡ true → plain_at others.links s six ≡ false
    → Moved (duo_at six ab ba others) (duo_at six (pick s ab (loosened ab)) (pick s (loosened ba) ba) others)
loosen_moves A six others ab ba loose plain = record {
  events = ToA (Moves others.number LookAtReceiver) ∷ [];
  silent = refl;
  to = sym (
      ap (λ o. record (duo_at six ab ba others) { ba = moves (flags_of others.links B six) others.number LookAtReceiver o (duo_at six ab ba others).ba }) (put_there others.lanes_ba others.number ba others.within_ba)
      ∙ ap (λ xs. record (duo_at six ab ba others) { ba = record (duo_at six ab ba others).ba { lanes = xs } })
      (set-set others.lanes_ba others.number ba (record ba { receiver_plain = plain_at others.links A six; receiver_loose = loose_at others.links A six }))
      ∙ ap (λ (b : Bool). duo_at six ab (record ba { receiver_plain = b; receiver_loose = loose_at others.links A six }) others) plain
      ∙ ap (λ (b : Bool). duo_at six ab (record ba { receiver_plain = false; receiver_loose = b }) others) loose);
}
loosen_moves B six others ab ba loose plain = record {
  events = ToB (Moves others.number LookAtReceiver) ∷ [];
  silent = refl;
  to = sym (
      ap (λ o. record (duo_at six ab ba others) { ab = moves (flags_of others.links A six) others.number LookAtReceiver o (duo_at six ab ba others).ab }) (put_there others.lanes_ab others.number ab others.within_ab)
      ∙ ap (λ xs. record (duo_at six ab ba others) { ab = record (duo_at six ab ba others).ab { lanes = xs } })
      (set-set others.lanes_ab others.number ab (record ab { receiver_plain = plain_at others.links B six; receiver_loose = loose_at others.links B six }))
      ∙ ap (λ (b : Bool). duo_at six (record ab { receiver_plain = b; receiver_loose = loose_at others.links B six }) ba others) plain
      ∙ ap (λ (b : Bool). duo_at six (record ab { receiver_plain = false; receiver_loose = b }) ba others) loose);
}

-- a step of the path after such a call
pub loosen_side : (c : Profile) (six : SixBooks) (others : Others) (s : Side) (call : ControlCall) (p q : PathState Carried) (ab ba : Lane) → PathShows c p ab ba → MayCall s call six
    → loose_at others.links s (after_ask (Ask.Control s call) six) ≡ true → plain_at others.links s (after_ask (Ask.Control s call) six) ≡ false
    → SideDid c s p q ab ba (pick s ab ba) (loosened (pick s ba ab)) → Answered c six others (Ask.Control s call) q ab ba
loosen_side c six others A call p q ab ba h may loose plain d = record {
  ab_before = ab;
  ba_before = ba;
  before = unmoved (duo_at six ab ba others);
  call = None;
  calls = refl;
  ab_called = ab;
  ba_called = loosened ba;
  called = then_moved (duo_at six ab ba others) (duo_at (after_ask (Ask.Control A call) six) ab ba others) _
      (control_moves others.links A call six may (set others.lanes_ab others.number ab) (set others.lanes_ba others.number ba) others.reader_a others.reader_b)
      (loosen_moves A (after_ask (Ask.Control A call) six) others ab ba loose plain);
  after = did_on_path c p q ab ba h d.profile A ab (loosened ba) d.did d.same d.link;
}
loosen_side c six others B call p q ab ba h may loose plain d = record {
  ab_before = ab;
  ba_before = ba;
  before = unmoved (duo_at six ab ba others);
  call = None;
  calls = refl;
  ab_called = loosened ab;
  ba_called = ba;
  called = then_moved (duo_at six ab ba others) (duo_at (after_ask (Ask.Control B call) six) ab ba others) _
      (control_moves others.links B call six may (set others.lanes_ab others.number ab) (set others.lanes_ba others.number ba) others.reader_a others.reader_b)
      (loosen_moves B (after_ask (Ask.Control B call) six) others ab ba loose plain);
  after = did_on_path c p q ab ba h d.profile B ba (loosened ab) d.did d.same d.link;
}

-- ---- the end

module _ (c : Profile) (s : Side) (out back : Lane) where
  -- the end goes by this mapping
  abbrev pub with_peer_infinite : ℕ → ℕ → PathEnd → PathEnd
  with_peer_infinite place position e = receiving_infinite place (Some position) true e

  module _ (place position : ℕ) (e : PathEnd) (above : e.modes.identity ≡ false) (h : EndShows c s e out back) where
    abbrev taken_lane : Option Pair → Lane
    taken_lane t = record (loosened back) { taken = t }

    -- the lane was in no plain TCP before
    taken_goes : (t : Option Pair) → ReceiverGoes back (taken_lane t)
    taken_goes t = record {
      edge = back.edge;
      kept = back.kept;
      maps = back.maps;
      taken = t;
      loose = true;
      fin_in = back.fin_in;
      due = back.due;
      latest = back.latest;
      asking = back.asking;
      acks = [];
      is = rw (append-nil back.acks) (ap (λ (b : Bool). record back { receiver_plain = b; receiver_loose = true; taken = t }) (sym (h.receiver.same_mode ∙ above)));
    }

    taken_did : (t : Option Pair) → Strolls (loosened back) (taken_lane t) → PeerIs t (record { position = position; place = place }) ⊎ HasFin back.fins (position - 1)
        → Did c s (with_peer_infinite place position e) out out back (loosened back)
    taken_did t strolls peer = record {
      out_after = out;
      back_after = taken_lane t;
      out_moves = stays out;
      back_moves = strolls;
      sender = sender_stays out;
      receiver = taken_goes t;
      shows = new_receiver (record { same_mode = sym above; edge = same_edge refl refl refl (λ position octets has. has) h.receiver.edge; fin = h.receiver.fin; mapped = h.receiver.mapped })
          (new_acks (record { windows = h.acks.windows; latest = h.acks.latest; due = h.acks.due; sub = h.acks.sub })
          (new_treated h.treated
          (new_pairs ((h.pairs.0, peer, λ above some. refl, h.pairs.3, h.pairs.4, h.pairs.5)) h)));
    }

    pub taken_end : PairTold back.pairs back.fins place position → Did c s (with_peer_infinite place position e) out out back (loosened back)
    taken_end (inl has) =
        taken_did (Some has.item) (one_move (TakePair has.at) (loosened back) (taken_lane (Some has.item)) refl (sym (ap (λ o. takes_pair o (loosened back)) has.there)))
        (inl (record { item = has.item; there = refl; is = has.holds }))
    taken_end (inr fin) = taken_did back.taken (stays (loosened back)) (inr fin)
