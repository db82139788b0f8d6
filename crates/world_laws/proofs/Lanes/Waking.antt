-- A join is begun once A's side is sure: the lanes of the path open, and the path shows on them as before.
--
-- A path joins by silent events of the lanes that come before its step: once A's side is sure, a join is begun, sent
-- and answered, and both lanes of the path open (`open_moves` of `proofs/Lanes/Waking`, `Readied` of
-- `proofs/Lanes/EveryTurn`). Whether the path begins by that step, and when B answers, doesn't matter to the lanes. Two
-- facts make it right: A's side is sure, and joins, only where A may send a DSS on path 0 (`SureIsClear`,
-- `proofs/Keys/SureMaySend`), and on a path that joins A asks for nothing before it may send one (`grants_clear` of
-- `proofs/Joins/NoBytesBeforeClear`). An end that may send a DSS always may (`proofs/Falls/ClearStays`), and the record
-- of a lane stays the same unless its path asks for bytes (`proofs/Places/UntouchedTillAsked`, over the events of a
-- turn), so no rule of an end has to speak of either.
use Rattle.world_laws.proofs.Words.{◌≡◌, refl, sym, ◌∙◌, ap, ℕ, ◌||◌, ◌==◌, Bool, true, false, if◌then◌else◌, Some, List, [], ◌∷◌, set, append-nil, set-set}
use Rattle.world_laws.proofs.Words.{slice_get, Side, A, B, Arriving, Sending, PlainSegment, Duty, SixBooks, pick, PathEnd, PathState, end_at, goes_on, Carried}
use Rattle.world_laws.proofs.Words.{in_identity, Profile, Every-map, after_event, AckCopy, Lane, Reader, ToB, ToA, Flags, Moves, Open, LookAtSender}
use Rattle.world_laws.proofs.Words.{LookAtReceiver}
use Rattle.std.proofs.Common.{true≢false}
use Rattle.stream_lanes.specs.Streams.{after, moves}
use Rattle.world_laws.proofs.Lanes.Growing.{Longer, same_edge, treated_longer, segment_longer}
use Rattle.world_laws.proofs.Lanes.OfAWorld.{flags_of, plain_at, loose_at, Others, duo_at, Moved}
use Rattle.world_laws.proofs.Lanes.Roads.{direction, put_there}
use Rattle.world_laws.proofs.Lanes.Showing.{EndShows, FlightShows, PathShows}

-- ---- a lane that opens

abbrev pub opened_lane : Lane → Lane
opened_lane p = record p { opened = true }

-- nothing was sent by that
opens_longer : (acks : List AckCopy) (p : Lane) → Longer acks acks p (opened_lane p)
opens_longer acks p = record {
  alters_is = refl;
  cells = [];
  sent_are = sym (append-nil p.sent);
  more_acks = [];
  acks_are = sym (append-nil acks);
  datas = [];
  datas_are = sym (append-nil p.datas);
  data_fins = [];
  data_fins_are = sym (append-nil p.data_fins);
  fins = [];
  fins_are = sym (append-nil p.fins);
  pairs = [];
  pairs_are = sym (append-nil p.pairs);
}

end_opens : (c : Profile) (s : Side) (e : PathEnd) (out back : Lane) → EndShows c s e out back → EndShows c s e (opened_lane out) (opened_lane back)
end_opens c s e out back h = record {
  sender = record {
    plain = h.sender.plain;
    next = h.sender.next;
    unfinished = h.sender.unfinished;
    pieces = h.sender.pieces;
    known_end = h.sender.known_end;
    same_end = h.sender.same_end;
    heard = h.sender.heard;
    granted = h.sender.granted;
    fin_acked = h.sender.fin_acked;
    sent = h.sender.sent;
  };
  receiver = record {
    same_mode = h.receiver.same_mode;
    edge = same_edge refl refl refl (λ position octets has. has) h.receiver.edge;
    fin = h.receiver.fin;
    mapped = h.receiver.mapped;
  };
  acks = record { windows = h.acks.windows; latest = h.acks.latest; due = h.acks.due; sub = h.acks.sub };
  told = h.told;
  treated = treated_longer (opens_longer out.acks back) e.treated h.treated;
  pairs = h.pairs;
  held = h.held;
}

flight_opens : (c : Profile) (ab ba : Lane) (to : Side) (sg : PlainSegment) → FlightShows c ab ba to sg → FlightShows c (opened_lane ab) (opened_lane ba) to sg
flight_opens c ab ba B sg h = segment_longer (opens_longer ba.acks ab) sg h
flight_opens c ab ba A sg h = segment_longer (opens_longer ab.acks ba) sg h

pub path_opens : (c : Profile) (p : PathState Carried) (ab ba : Lane) → PathShows c p ab ba → PathShows c p (opened_lane ab) (opened_lane ba)
path_opens c p ab ba h = record {
  profile = h.profile;
  may = h.may;
  a = end_opens c A p.a ab ba h.a;
  b = end_opens c B p.b ba ab h.b;
  copies = Every-map (λ f shows. flight_opens c ab ba f.to f.carried.segment shows) h.copies;
}

-- ---- an end that looks at its side, which fell back

abbrev pub looked_out : Lane → Lane
looked_out p = record p { sender_plain = true }

abbrev pub looked_back : Bool → Lane → Lane
looked_back loose p = record p { receiver_plain = true; receiver_loose = loose }

looks_longer : (acks : List AckCopy) (p q : Lane) → q.alters ≡ p.alters → q.sent ≡ p.sent → q.datas ≡ p.datas → q.data_fins ≡ p.data_fins → q.fins ≡ p.fins → q.pairs ≡ p.pairs → Longer acks acks p q
looks_longer acks p q alters sent datas data_fins fins pairs = record {
  alters_is = alters;
  cells = [];
  sent_are = sent ∙ sym (append-nil p.sent);
  more_acks = [];
  acks_are = sym (append-nil acks);
  datas = [];
  datas_are = datas ∙ sym (append-nil p.datas);
  data_fins = [];
  data_fins_are = data_fins ∙ sym (append-nil p.data_fins);
  fins = [];
  fins_are = fins ∙ sym (append-nil p.fins);
  pairs = [];
  pairs_are = pairs ∙ sym (append-nil p.pairs);
}

-- the end knows it then, on both of its lanes
own_looks : (c : Profile) (s : Side) (loose : Bool) (e : PathEnd) (out back : Lane) → EndShows c s e out back → EndShows c s (in_identity e) (looked_out out) (looked_back loose back)
own_looks c s loose e out back h = record {
  sender = record {
    plain = refl;
    next = h.sender.next;
    unfinished = h.sender.unfinished;
    pieces = h.sender.pieces;
    known_end = h.sender.known_end;
    same_end = h.sender.same_end;
    heard = h.sender.heard;
    granted = h.sender.granted;
    fin_acked = h.sender.fin_acked;
    sent = h.sender.sent;
  };
  receiver = record { same_mode = refl; edge = same_edge refl refl refl (λ position octets has. has) h.receiver.edge; fin = h.receiver.fin; mapped = h.receiver.mapped };
  acks = record { windows = h.acks.windows; latest = h.acks.latest; due = h.acks.due; sub = h.acks.sub };
  told = h.told;
  treated = treated_longer (looks_longer out.acks back (looked_back loose back) refl refl refl refl refl refl) e.treated h.treated;
  pairs = (h.pairs.0, h.pairs.1, λ above. absurd (true≢false above), h.pairs.3, h.pairs.4, h.pairs.5);
  held = h.held;
}

-- and the other end stays as it is
peer_looks : (c : Profile) (s : Side) (loose : Bool) (e : PathEnd) (out back : Lane) → EndShows c s e out back → EndShows c s e (looked_back loose out) (looked_out back)
peer_looks c s loose e out back h = record {
  sender = record {
    plain = h.sender.plain;
    next = h.sender.next;
    unfinished = h.sender.unfinished;
    pieces = h.sender.pieces;
    known_end = h.sender.known_end;
    same_end = h.sender.same_end;
    heard = h.sender.heard;
    granted = h.sender.granted;
    fin_acked = h.sender.fin_acked;
    sent = h.sender.sent;
  };
  receiver = record { same_mode = h.receiver.same_mode; edge = same_edge refl refl refl (λ position octets has. has) h.receiver.edge; fin = h.receiver.fin; mapped = h.receiver.mapped };
  acks = record { windows = h.acks.windows; latest = h.acks.latest; due = h.acks.due; sub = h.acks.sub };
  told = h.told;
  treated = treated_longer (looks_longer out.acks back (looked_out back) refl refl refl refl refl refl) e.treated h.treated;
  pairs = h.pairs;
  held = h.held;
}

flight_a : (c : Profile) (loose : Bool) (ab ba : Lane) (to : Side) (sg : PlainSegment) → FlightShows c ab ba to sg → FlightShows c (looked_out ab) (looked_back loose ba) to sg
flight_a c loose ab ba B sg h = segment_longer (looks_longer ba.acks ab (looked_out ab) refl refl refl refl refl refl) sg h
flight_a c loose ab ba A sg h = segment_longer (looks_longer ab.acks ba (looked_back loose ba) refl refl refl refl refl refl) sg h

flight_b : (c : Profile) (loose : Bool) (ab ba : Lane) (to : Side) (sg : PlainSegment) → FlightShows c ab ba to sg → FlightShows c (looked_back loose ab) (looked_out ba) to sg
flight_b c loose ab ba B sg h = segment_longer (looks_longer ba.acks ab (looked_back loose ab) refl refl refl refl refl refl) sg h
flight_b c loose ab ba A sg h = segment_longer (looks_longer ab.acks ba (looked_out ba) refl refl refl refl refl refl) sg h

pub path_looks : (c : Profile) (s : Side) (loose : Bool) (p : PathState Carried) (ab ba : Lane) (ds : List Duty) → PathShows c p ab ba
    → PathShows c (goes_on s (in_identity (end_at s p)) ds p) (pick s (looked_out ab) (looked_back loose ab)) (pick s (looked_back loose ba) (looked_out ba))
path_looks c A loose p ab ba ds h = record {
  profile = h.profile;
  may = h.may;
  a = own_looks c A loose p.a ab ba h.a;
  b = peer_looks c B loose p.b ba ab h.b;
  copies = Every-map (λ f shows. flight_a c loose ab ba f.to f.carried.segment shows) h.copies;
}
path_looks c B loose p ab ba ds h = record {
  profile = h.profile;
  may = h.may;
  a = peer_looks c A loose p.a ab ba h.a;
  b = own_looks c B loose p.b ba ab h.b;
  copies = Every-map (λ f shows. flight_b c loose ab ba f.to f.carried.segment shows) h.copies;
}

-- ---- among the lanes

-- a lane that opens where it may
abbrev pub lane_if : Bool → Lane → Lane
lane_if b p = if b then opened_lane p else p

pub path_opens_if : (b : Bool) (c : Profile) (p : PathState Carried) (ab ba : Lane) → PathShows c p ab ba → PathShows c p (lane_if b ab) (lane_if b ba)
path_opens_if = elim [ true ↦ λ c p ab ba h. path_opens c p ab ba h | false ↦ λ c p ab ba h. h ]

-- a lane of a direction may open once a join was answered, and that of path 0 always
abbrev pub may_open : SixBooks → ℕ → Bool
may_open six number = six.control_b.fall.joined || number == 0

opens_there : (f : Flags) (lanes : List Lane) (send : Sending) (arrived : Arriving) (reader : Reader) (number : ℕ) (p : Lane) → slice_get (set lanes number p) number ≡ Some p
    → after f (Moves number Open) (direction send arrived (set lanes number p) reader) ≡ direction send arrived (set lanes number (lane_if (f.answered || number == 0) p)) reader
opens_there f lanes send arrived reader number p there =
    ap (λ o. moves f number Open o (direction send arrived (set lanes number p) reader)) there
    ∙ ap (λ xs. direction send arrived xs reader) (set-set lanes number p (lane_if (f.answered || number == 0) p))

-- both lanes of the path open where they may
pub open_moves : (six : SixBooks) (others : Others) (ab ba : Lane)
    → Moved (duo_at six ab ba others) (duo_at six (lane_if (may_open six others.number) ab) (lane_if (may_open six others.number) ba) others)
open_moves six others ab ba = record {
  events = ToB (Moves others.number Open) ∷ ToA (Moves others.number Open) ∷ [];
  silent = refl;
  to = sym (
      ap (λ d. after_event (ToA (Moves others.number Open)) (record (duo_at six ab ba others) { ab = d }))
      (opens_there (flags_of others.links A six) others.lanes_ab six.send_a six.reassembly_b others.reader_b others.number ab (put_there others.lanes_ab others.number ab others.within_ab))
      ∙ ap (λ d. record (duo_at six (lane_if (may_open six others.number) ab) ba others) { ba = d })
      (opens_there (flags_of others.links B six) others.lanes_ba six.send_b six.reassembly_a others.reader_a others.number ba (put_there others.lanes_ba others.number ba others.within_ba)));
}

-- the ends of a side that fell back look at it
module _ (f : Flags) (lanes : List Lane) (send : Sending) (arrived : Arriving) (reader : Reader) (number : ℕ) (p : Lane) (there : slice_get (set lanes number p) number ≡ Some p) where
  looks_out : f.sender ≡ true → after f (Moves number LookAtSender) (direction send arrived (set lanes number p) reader) ≡ direction send arrived (set lanes number (looked_out p)) reader
  looks_out plain =
      ap (λ o. moves f number LookAtSender o (direction send arrived (set lanes number p) reader)) there
      ∙ ap (λ xs. direction send arrived xs reader) (set-set lanes number p (record p { sender_plain = f.sender }))
      ∙ ap (λ (b : Bool). direction send arrived (set lanes number (record p { sender_plain = b })) reader) plain

  looks_back : f.receiver ≡ true → after f (Moves number LookAtReceiver) (direction send arrived (set lanes number p) reader) ≡ direction send arrived (set lanes number (looked_back f.loose p)) reader
  looks_back plain =
      ap (λ o. moves f number LookAtReceiver o (direction send arrived (set lanes number p) reader)) there
      ∙ ap (λ xs. direction send arrived xs reader) (set-set lanes number p (record p { receiver_plain = f.receiver; receiver_loose = f.loose }))
      ∙ ap (λ (b : Bool). direction send arrived (set lanes number (record p { receiver_plain = b; receiver_loose = f.loose })) reader) plain

pub look_moves : (s : Side) (six : SixBooks) (others : Others) (ab ba : Lane) → plain_at others.links s six ≡ true
    → Moved (duo_at six ab ba others) (duo_at six (pick s (looked_out ab) (looked_back (loose_at others.links s six) ab)) (pick s (looked_back (loose_at others.links s six) ba) (looked_out ba)) others)
look_moves A six others ab ba plain = record {
  events = ToB (Moves others.number LookAtSender) ∷ ToA (Moves others.number LookAtReceiver) ∷ [];
  silent = refl;
  to = sym (
      ap (λ d. after_event (ToA (Moves others.number LookAtReceiver)) (record (duo_at six ab ba others) { ab = d }))
      (looks_out (flags_of others.links A six) others.lanes_ab six.send_a six.reassembly_b others.reader_b others.number ab (put_there others.lanes_ab others.number ab others.within_ab) plain)
      ∙ ap (λ d. record (duo_at six (looked_out ab) ba others) { ba = d })
      (looks_back (flags_of others.links B six) others.lanes_ba six.send_b six.reassembly_a others.reader_a others.number ba (put_there others.lanes_ba others.number ba others.within_ba) plain));
}
look_moves B six others ab ba plain = record {
  events = ToB (Moves others.number LookAtReceiver) ∷ ToA (Moves others.number LookAtSender) ∷ [];
  silent = refl;
  to = sym (
      ap (λ d. after_event (ToA (Moves others.number LookAtSender)) (record (duo_at six ab ba others) { ab = d }))
      (looks_back (flags_of others.links A six) others.lanes_ab six.send_a six.reassembly_b others.reader_b others.number ab (put_there others.lanes_ab others.number ab others.within_ab) plain)
      ∙ ap (λ d. record (duo_at six (looked_back (loose_at others.links B six) ab) ba others) { ba = d })
      (looks_out (flags_of others.links B six) others.lanes_ba six.send_b six.reassembly_a others.reader_a others.number ba (put_there others.lanes_ba others.number ba others.within_ba) plain));
}
