-- A step of the path that one side's end makes: moves of the lanes, the call of a book, moves again, and what the path shows then.
--
-- Rules by side: a rule of an end speaks of the lane that its side sends on and the one that it hears, with the side a
-- variable (`pick s ab ba`); only the few lemmas that put an end back into the path go by cases on the side
-- (`proofs/Lanes/Sides`). What a rule gives is one record (`Did`), and a duty is one line of the dispatch
-- (`proofs/Lanes/Stepping`).
use Rattle.world_laws.proofs.Words.{◌≡◌, refl, sym, ◌∙◌, ap, ℕ, Bool, true, Option, Some, None, List, [], ◌∷◌, length, set, Side, A, B, peer, ReassemblyCall}
use Rattle.world_laws.proofs.Words.{ReassemblyReply, arrival_reply, Place, AckOut, SendCall, send_reply, AckIn, ReturnBytes, SendReply, PlainSegment, Duty, Ask}
use Rattle.world_laws.proofs.Words.{SixBooks, send_of, reassembly_of, after_ask, pick, PathEnd, PathState, end_at, goes_on, Carried, values, Profile, sent_on}
use Rattle.world_laws.proofs.Words.{Duo, after_events, Lane, LaneAsk, Direction, ToB, ToA, takes_grant, takes_ack, takes_placed, takes_fin, takes_ack_out}
use Rattle.world_laws.proofs.Words.{AskGrant, AskAckIn, AskPlace, AskFin, AskAckOut, Return, AbortRead, Asks}
use Rattle.send_book.specs.declared.call.SendCall.TheVariants.{Grant}
use Rattle.reassembly_book.specs.declared.call.ReassemblyCall.TheVariants.{Fin}
use Rattle.stream_lanes.specs.Streams.StreamEvent.{AbortSend}
use Rattle.stream_lanes.specs.Duo.{Event}
use Rattle.world_laws.proofs.Lanes.Ending.{Did}
use Rattle.world_laws.proofs.Lanes.OfAWorld.{flags_of, Others, duo_at, IsAsking, LaneAsks, MayCall, CallIs, call_events, Moved, unmoved}
use Rattle.world_laws.proofs.Lanes.Roads.{Strolls, put_there, with_asked, asked_there}
use Rattle.world_laws.proofs.Lanes.Showing.{SegmentShows, PathShows}
use Rattle.world_laws.proofs.Lanes.Strolling.{Strolled, LinkShows, lanes_moved, side_link, link_longer, handed_shows, did_on_path}
use Rattle.world_laws.proofs.Falls.CallsAndModes.{control_moves}

-- ---- the path after it

pub record SideDid (c : Profile) (s : Side) (p q : PathState Carried) (ab ba out_called back_called : Lane) : Type 0 where
  pub did : Did c s (end_at s q) (pick s ab ba) out_called (pick s ba ab) back_called
  pub profile : q.profile ≡ p.profile
  pub same : end_at (peer s) q ≡ end_at (peer s) p
  pub link : LinkShows c (pick s did.out_after did.back_after) (pick s did.back_after did.out_after) q.link

module _ (c : Profile) (p : PathState Carried) (ab ba : Lane) (h : PathShows c p ab ba) where
  pub longer_link : (s : Side) (out_called back_called : Lane) (e : PathEnd) (d : Did c s e (pick s ab ba) out_called (pick s ba ab) back_called)
      → LinkShows c (pick s d.out_after d.back_after) (pick s d.back_after d.out_after) p.link
  longer_link s out_called back_called e d =
      link_longer s (pick s ab ba) d.out_after (pick s ba ab) d.back_after p.link d.sender d.receiver (side_link c s p ab ba h)

  -- the end became this, and nothing was sent
  pub side_kept : (s : Side) (out_called back_called : Lane) (e : PathEnd) (ds : List Duty) → Did c s e (pick s ab ba) out_called (pick s ba ab) back_called
      → SideDid c s p (goes_on s e ds p) ab ba out_called back_called
  side_kept A out_called back_called e ds d = record { did = d; profile = refl; same = refl; link = longer_link A out_called back_called e d }
  side_kept B out_called back_called e ds d = record { did = d; profile = refl; same = refl; link = longer_link B out_called back_called e d }

  -- and this segment was sent
  pub side_sent : (s : Side) (out_called back_called : Lane) (e : PathEnd) (ds : List Duty) (sg : PlainSegment) (d : Did c s e (pick s ab ba) out_called (pick s ba ab) back_called)
      → SegmentShows c s d.back_after.acks d.out_after sg → SideDid c s p (sent_on values s sg e ds p) ab ba out_called back_called
  side_sent A out_called back_called e ds sg d said = record {
    did = d;
    profile = refl;
    same = refl;
    link = handed_shows A d.out_after d.back_after sg p said (longer_link A out_called back_called e d);
  }
  side_sent B out_called back_called e ds sg d said = record {
    did = d;
    profile = refl;
    same = refl;
    link = handed_shows B d.out_after d.back_after sg p said (longer_link B out_called back_called e d);
  }

-- ---- the step

-- what a direct step makes is reached by no further move
abbrev pub became : (d e : Duo) → d ≡ e → Moved d e
became d e is = record { events = []; silent = refl; to = sym is }

pub record Answered (c : Profile) (six : SixBooks) (others : Others) (ask : Ask) (q : PathState Carried) (ab ba : Lane) : Type 0 where
  pub ab_before : Lane
  pub ba_before : Lane
  pub before : Moved (duo_at six ab ba others) (duo_at six ab_before ba_before others)
  pub call : Option Event
  pub calls : CallIs (Some ask) (duo_at six ab_before ba_before others) call
  pub ab_called : Lane
  pub ba_called : Lane
  pub called : Moved (after_events (call_events call) (duo_at six ab_before ba_before others)) (duo_at (after_ask ask six) ab_called ba_called others)
  pub after : Strolled c q ab_called ba_called

-- an ask that is no call of a send book or of a reassembly book
abbrev pub IsQuiet : SixBooks → Ask → Type 0
IsQuiet six (Ask.Send s call) = ⊥
IsQuiet six (Ask.Reassembly s call) = ⊥
IsQuiet six (Ask.Control s call) = MayCall s call six
IsQuiet six (Ask.Local step) = Unit {0}

module _ (c : Profile) (six : SixBooks) (others : Others) where
  -- the duo, by the lane that a side sends on and the one that it hears
  abbrev pub Sided : Side → SixBooks → Lane → Lane → Duo
  Sided s books out back = duo_at books (pick s out back) (pick s back out) others

  pub side_answered : (s : Side) (p q : PathState Carried) (ab ba out_before back_before out_called back_called : Lane) (ask : Ask) (call : Option Event) → PathShows c p ab ba
      → Strolls (pick s ab ba) out_before → Strolls (pick s ba ab) back_before
      → CallIs (Some ask) (Sided s six out_before back_before) call
      → after_events (call_events call) (Sided s six out_before back_before) ≡ Sided s (after_ask ask six) out_called back_called
      → SideDid c s p q ab ba out_called back_called → Answered c six others ask q ab ba
  side_answered A p q ab ba out_before back_before out_called back_called ask call h out_moves back_moves calls called d = record {
    ab_before = out_before;
    ba_before = back_before;
    before = lanes_moved six others ab out_before ba back_before out_moves back_moves;
    call = call;
    calls = calls;
    ab_called = out_called;
    ba_called = back_called;
    called = became _ _ called;
    after = did_on_path c p q ab ba h d.profile A out_called back_called d.did d.same d.link;
  }
  side_answered B p q ab ba out_before back_before out_called back_called ask call h out_moves back_moves calls called d = record {
    ab_before = back_before;
    ba_before = out_before;
    before = lanes_moved six others ab back_before ba out_before back_moves out_moves;
    call = call;
    calls = calls;
    ab_called = back_called;
    ba_called = out_called;
    called = became _ _ called;
    after = did_on_path c p q ab ba h d.profile B out_called back_called d.did d.same d.link;
  }

  -- nothing is called
  quiet_calls : (ask : Ask) (d : Duo) → IsQuiet six ask → CallIs (Some ask) d None
  quiet_calls (Ask.Send s call) d quiet = absurd quiet
  quiet_calls (Ask.Reassembly s call) d quiet = absurd quiet
  quiet_calls (Ask.Control s call) d quiet = refl
  quiet_calls (Ask.Local step) d quiet = refl

  quiet_books : (ask : Ask) (ab ba : Lane) → IsQuiet six ask → Moved (duo_at six ab ba others) (duo_at (after_ask ask six) ab ba others)
  quiet_books (Ask.Send s call) ab ba quiet = absurd quiet
  quiet_books (Ask.Reassembly s call) ab ba quiet = absurd quiet
  quiet_books (Ask.Control s call) ab ba quiet =
      control_moves others.links s call six quiet (set others.lanes_ab others.number ab) (set others.lanes_ba others.number ba) others.reader_a others.reader_b
  quiet_books (Ask.Local step) ab ba quiet = unmoved (duo_at six ab ba others)

  pub quiet : (ask : Ask) (q : PathState Carried) (ab ba : Lane) → IsQuiet six ask → Strolled c q ab ba → Answered c six others ask q ab ba
  quiet ask q ab ba is w = record {
    ab_before = ab;
    ba_before = ba;
    before = unmoved (duo_at six ab ba others);
    call = None;
    calls = quiet_calls ask _ is;
    ab_called = ab;
    ba_called = ba;
    called = quiet_books ask ab ba is;
    after = w;
  }

  pub quiet_side : (s : Side) (p q : PathState Carried) (ab ba : Lane) (ask : Ask) → PathShows c p ab ba → IsQuiet six ask → SideDid c s p q ab ba (pick s ab ba) (pick s ba ab)
      → Answered c six others ask q ab ba
  quiet_side A p q ab ba ask h is d = quiet ask q ab ba is (did_on_path c p q ab ba h d.profile A ab ba d.did d.same d.link)
  quiet_side B p q ab ba ask h is d = quiet ask q ab ba is (did_on_path c p q ab ba h d.profile B ba ab d.did d.same d.link)

  -- ---- what a lane asks

  asking_ab : (p ba : Lane) → IsAsking others.number p.asking (duo_at six p ba others).ab
  asking_ab p ba = record { lane = p; there = put_there others.lanes_ab others.number p others.within_ab; asks = refl }

  asking_ba : (ab p : Lane) → IsAsking others.number p.asking (duo_at six ab p others).ba
  asking_ba ab p = record { lane = p; there = put_there others.lanes_ba others.number p others.within_ba; asks = refl }

  asks_so : {x : LaneAsk} (d : Direction) → IsAsking others.number x d → LaneAsks x d (Asks others.number)
  asks_so d asking = record { path = others.number; event_is = refl; asking = asking }

  called_ab : (p ba : Lane) → after_events (ToB (Asks others.number) ∷ []) (duo_at six p ba others)
      ≡ record (duo_at six p ba others) { ab = with_asked others.lanes_ab others.number six.send_a six.reassembly_b others.reader_b p.asking p }
  called_ab p ba = ap (λ d. record (duo_at six p ba others) { ab = d }) (asked_there others.lanes_ab others.number six.send_a six.reassembly_b others.reader_b (flags_of others.links A six) others.within_ab p)

  called_ba : (ab p : Lane) → after_events (ToA (Asks others.number) ∷ []) (duo_at six ab p others)
      ≡ record (duo_at six ab p others) { ba = with_asked others.lanes_ba others.number six.send_b six.reassembly_a others.reader_a p.asking p }
  called_ba ab p = ap (λ d. record (duo_at six ab p others) { ba = d }) (asked_there others.lanes_ba others.number six.send_b six.reassembly_a others.reader_a (flags_of others.links B six) others.within_ba p)

  -- ---- calls of the side's send book

  grant_asking : (r : SendReply) (p : Lane) (x : LaneAsk) → takes_grant r (record p { asking = x }) ≡ takes_grant r p
  grant_asking (SendReply.Granted span piece) p x = refl
  grant_asking (SendReply.NoGrant why told) p x = refl
  grant_asking _ p x = refl

  ack_asking : (next : ℕ) (r : SendReply) (p : Lane) (x : LaneAsk) → takes_ack next r (record p { asking = x }) ≡ takes_ack next r p
  ack_asking next (SendReply.Acked bytes fin) p x = refl
  ack_asking next _ p x = refl

  module _ (most : ℕ) (standby : Bool) where
    abbrev pub grant_reply_at : Side → SendReply
    grant_reply_at s = send_reply (send_of s six) (Grant others.number most standby)

    pub grant_side : (s : Side) (p q : PathState Carried) (ab ba : Lane) → PathShows c p ab ba → Strolls (pick s ab ba) (record (pick s ab ba) { asking = AskGrant most standby })
        → SideDid c s p q ab ba (takes_grant (grant_reply_at s) (pick s ab ba)) (pick s ba ab) → Answered c six others (Ask.Send s (Grant others.number most standby)) q ab ba
    grant_side A p q ab ba h strolls d =
        side_answered A p q ab ba (record ab { asking = AskGrant most standby }) ba _ ba (Ask.Send A (Grant others.number most standby)) (Some (ToB (Asks others.number))) h strolls (record { by = []; calm = refl; to = refl })
        (Asks others.number, refl, (refl, asking_ab (record ab { asking = AskGrant most standby }) ba))
        (called_ab (record ab { asking = AskGrant most standby }) ba ∙ ap (λ x. Sided A (after_ask (Ask.Send A (Grant others.number most standby)) six) x ba) (grant_asking (grant_reply_at A) ab (AskGrant most standby))) d
    grant_side B p q ab ba h strolls d =
        side_answered B p q ab ba (record ba { asking = AskGrant most standby }) ab _ ab (Ask.Send B (Grant others.number most standby)) (Some (ToA (Asks others.number))) h strolls (record { by = []; calm = refl; to = refl })
        (Asks others.number, refl, (refl, asking_ba ab (record ba { asking = AskGrant most standby })))
        (called_ba ab (record ba { asking = AskGrant most standby }) ∙ ap (λ x. Sided B (after_ask (Ask.Send B (Grant others.number most standby)) six) x ab) (grant_asking (grant_reply_at B) ba (AskGrant most standby))) d

  module _ (next window : ℕ) where
    abbrev pub ack_reply_at : Side → SendReply
    ack_reply_at s = send_reply (send_of s six) (AckIn next window)

    pub ack_side : (s : Side) (p q : PathState Carried) (ab ba : Lane) → PathShows c p ab ba → Strolls (pick s ab ba) (record (pick s ab ba) { asking = AskAckIn next window })
        → SideDid c s p q ab ba (takes_ack next (ack_reply_at s) (pick s ab ba)) (pick s ba ab) → Answered c six others (Ask.Send s (AckIn next window)) q ab ba
    ack_side A p q ab ba h strolls d =
        side_answered A p q ab ba (record ab { asking = AskAckIn next window }) ba _ ba (Ask.Send A (AckIn next window)) (Some (ToB (Asks others.number))) h strolls (record { by = []; calm = refl; to = refl })
        (Asks others.number, refl, asks_so _ (asking_ab (record ab { asking = AskAckIn next window }) ba))
        (called_ab (record ab { asking = AskAckIn next window }) ba ∙ ap (λ x. Sided A (after_ask (Ask.Send A (AckIn next window)) six) x ba) (ack_asking next (ack_reply_at A) ab (AskAckIn next window))) d
    ack_side B p q ab ba h strolls d =
        side_answered B p q ab ba (record ba { asking = AskAckIn next window }) ab _ ab (Ask.Send B (AckIn next window)) (Some (ToA (Asks others.number))) h strolls (record { by = []; calm = refl; to = refl })
        (Asks others.number, refl, asks_so _ (asking_ba ab (record ba { asking = AskAckIn next window })))
        (called_ba ab (record ba { asking = AskAckIn next window }) ∙ ap (λ x. Sided B (after_ask (Ask.Send B (AckIn next window)) six) x ab) (ack_asking next (ack_reply_at B) ba (AskAckIn next window))) d

  pub return_side : (s : Side) (p q : PathState Carried) (ab ba : Lane) → PathShows c p ab ba → SideDid c s p q ab ba (pick s ab ba) (pick s ba ab)
      → Answered c six others (Ask.Send s (ReturnBytes others.number)) q ab ba
  return_side A p q ab ba h d =
      side_answered A p q ab ba ab ba ab ba (Ask.Send A (ReturnBytes others.number)) (Some (ToB (Return others.number))) h (record { by = []; calm = refl; to = refl }) (record { by = []; calm = refl; to = refl })
      (Return others.number, refl, refl) refl d
  return_side B p q ab ba h d =
      side_answered B p q ab ba ba ab ba ab (Ask.Send B (ReturnBytes others.number)) (Some (ToA (Return others.number))) h (record { by = []; calm = refl; to = refl }) (record { by = []; calm = refl; to = refl })
      (Return others.number, refl, refl) refl d

  -- the send book is told that the connection stops
  pub abort_send_side : (s : Side) (p q : PathState Carried) (ab ba : Lane) → PathShows c p ab ba → SideDid c s p q ab ba (pick s ab ba) (pick s ba ab)
      → Answered c six others (Ask.Send s SendCall.Abort) q ab ba
  abort_send_side A p q ab ba h d =
      side_answered A p q ab ba ab ba ab ba (Ask.Send A SendCall.Abort) (Some (ToB AbortSend)) h (record { by = []; calm = refl; to = refl }) (record { by = []; calm = refl; to = refl })
      (AbortSend, refl, refl) refl d
  abort_send_side B p q ab ba h d =
      side_answered B p q ab ba ba ab ba ab (Ask.Send B SendCall.Abort) (Some (ToA AbortSend)) h (record { by = []; calm = refl; to = refl }) (record { by = []; calm = refl; to = refl })
      (AbortSend, refl, refl) refl d

  -- ---- calls of its reassembly book

  pub abort_receive_side : (s : Side) (p q : PathState Carried) (ab ba : Lane) → PathShows c p ab ba → SideDid c s p q ab ba (pick s ab ba) (pick s ba ab)
      → Answered c six others (Ask.Reassembly s (ReassemblyCall.Abort true)) q ab ba
  abort_receive_side A p q ab ba h d =
      side_answered A p q ab ba ab ba ab ba (Ask.Reassembly A (ReassemblyCall.Abort true)) (Some (ToA (AbortRead true))) h (record { by = []; calm = refl; to = refl }) (record { by = []; calm = refl; to = refl })
      (AbortRead true, refl, refl) refl d
  abort_receive_side B p q ab ba h d =
      side_answered B p q ab ba ba ab ba ab (Ask.Reassembly B (ReassemblyCall.Abort true)) (Some (ToB (AbortRead true))) h (record { by = []; calm = refl; to = refl }) (record { by = []; calm = refl; to = refl })
      (AbortRead true, refl, refl) refl d

  placed_asking : (count : ℕ) (r : ReassemblyReply) (p : Lane) (x : LaneAsk) → takes_placed count r (record p { asking = x }) ≡ takes_placed count r p
  placed_asking count (ReassemblyReply.Placed new) p x = refl
  placed_asking count _ p x = refl

  fin_asking : (r : ReassemblyReply) (p : Lane) (x : LaneAsk) → takes_fin r (record p { asking = x }) ≡ takes_fin r p
  fin_asking = elim [ ReassemblyReply.FinSet ↦ λ p x. refl | _ ↦ λ p x. refl ]

  told_asking : (r : ReassemblyReply) (p : Lane) (x : LaneAsk) → takes_ack_out r (record p { asking = x }) ≡ takes_ack_out r p
  told_asking = elim [ ReassemblyReply.Ack next window ↦ λ p x. refl | _ ↦ λ p x. refl ]

  module _ (at : ℕ) (bytes : List ℕ) where
    abbrev pub place_reply_at : Side → ReassemblyReply
    place_reply_at s = arrival_reply (reassembly_of s six) (Place at bytes)

    pub place_side : (s : Side) (p q : PathState Carried) (ab ba : Lane) → PathShows c p ab ba → Strolls (pick s ba ab) (record (pick s ba ab) { asking = AskPlace at bytes })
        → SideDid c s p q ab ba (pick s ab ba) (takes_placed (length bytes) (place_reply_at s) (pick s ba ab)) → Answered c six others (Ask.Reassembly s (Place at bytes)) q ab ba
    place_side A p q ab ba h strolls d =
        side_answered A p q ab ba ab (record ba { asking = AskPlace at bytes }) ab _ (Ask.Reassembly A (Place at bytes)) (Some (ToA (Asks others.number))) h (record { by = []; calm = refl; to = refl }) strolls
        (Asks others.number, refl, asks_so _ (asking_ba ab (record ba { asking = AskPlace at bytes })))
        (called_ba ab (record ba { asking = AskPlace at bytes }) ∙ ap (λ x. Sided A (after_ask (Ask.Reassembly A (Place at bytes)) six) ab x) (placed_asking (length bytes) (place_reply_at A) ba (AskPlace at bytes))) d
    place_side B p q ab ba h strolls d =
        side_answered B p q ab ba ba (record ab { asking = AskPlace at bytes }) ba _ (Ask.Reassembly B (Place at bytes)) (Some (ToB (Asks others.number))) h (record { by = []; calm = refl; to = refl }) strolls
        (Asks others.number, refl, asks_so _ (asking_ab (record ab { asking = AskPlace at bytes }) ba))
        (called_ab (record ab { asking = AskPlace at bytes }) ba ∙ ap (λ x. Sided B (after_ask (Ask.Reassembly B (Place at bytes)) six) ba x) (placed_asking (length bytes) (place_reply_at B) ab (AskPlace at bytes))) d

  module _ (at : ℕ) where
    abbrev pub fin_reply_at : Side → ReassemblyReply
    fin_reply_at s = arrival_reply (reassembly_of s six) (Fin at)

    pub fin_side : (s : Side) (p q : PathState Carried) (ab ba : Lane) → PathShows c p ab ba → Strolls (pick s ba ab) (record (pick s ba ab) { asking = AskFin at })
        → SideDid c s p q ab ba (pick s ab ba) (takes_fin (fin_reply_at s) (pick s ba ab)) → Answered c six others (Ask.Reassembly s (Fin at)) q ab ba
    fin_side A p q ab ba h strolls d =
        side_answered A p q ab ba ab (record ba { asking = AskFin at }) ab _ (Ask.Reassembly A (Fin at)) (Some (ToA (Asks others.number))) h (record { by = []; calm = refl; to = refl }) strolls
        (Asks others.number, refl, asks_so _ (asking_ba ab (record ba { asking = AskFin at })))
        (called_ba ab (record ba { asking = AskFin at }) ∙ ap (λ x. Sided A (after_ask (Ask.Reassembly A (Fin at)) six) ab x) (fin_asking (fin_reply_at A) ba (AskFin at))) d
    fin_side B p q ab ba h strolls d =
        side_answered B p q ab ba ba (record ab { asking = AskFin at }) ba _ (Ask.Reassembly B (Fin at)) (Some (ToB (Asks others.number))) h (record { by = []; calm = refl; to = refl }) strolls
        (Asks others.number, refl, asks_so _ (asking_ab (record ab { asking = AskFin at }) ba))
        (called_ab (record ab { asking = AskFin at }) ba ∙ ap (λ x. Sided B (after_ask (Ask.Reassembly B (Fin at)) six) ba x) (fin_asking (fin_reply_at B) ab (AskFin at))) d

  abbrev pub told_reply_at : Side → ReassemblyReply
  told_reply_at s = arrival_reply (reassembly_of s six) AckOut

  pub told_side : (s : Side) (p q : PathState Carried) (ab ba : Lane) → PathShows c p ab ba → Strolls (pick s ba ab) (record (pick s ba ab) { asking = AskAckOut })
      → SideDid c s p q ab ba (pick s ab ba) (takes_ack_out (told_reply_at s) (pick s ba ab)) → Answered c six others (Ask.Reassembly s AckOut) q ab ba
  told_side A p q ab ba h strolls d =
      side_answered A p q ab ba ab (record ba { asking = AskAckOut }) ab _ (Ask.Reassembly A AckOut) (Some (ToA (Asks others.number))) h (record { by = []; calm = refl; to = refl }) strolls
      (Asks others.number, refl, asks_so _ (asking_ba ab (record ba { asking = AskAckOut })))
      (called_ba ab (record ba { asking = AskAckOut }) ∙ ap (λ x. Sided A (after_ask (Ask.Reassembly A AckOut) six) ab x) (told_asking (told_reply_at A) ba AskAckOut)) d
  told_side B p q ab ba h strolls d =
      side_answered B p q ab ba ba (record ab { asking = AskAckOut }) ba _ (Ask.Reassembly B AckOut) (Some (ToB (Asks others.number))) h (record { by = []; calm = refl; to = refl }) strolls
      (Asks others.number, refl, asks_so _ (asking_ab (record ab { asking = AskAckOut }) ba))
      (called_ab (record ab { asking = AskAckOut }) ba ∙ ap (λ x. Sided B (after_ask (Ask.Reassembly B AckOut) six) ba x) (told_asking (told_reply_at B) ab AskAckOut)) d
