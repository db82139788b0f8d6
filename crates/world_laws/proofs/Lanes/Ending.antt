-- What each rule of an end makes of the lanes.
use Rattle.world_laws.proofs.Words.{◌≡◌, refl, sym, ◌∙◌, ap, subst, ℕ, suc, ◌+◌, ◌-◌, ◌≤◌, ◌||◌, max, inl, inr, ◌⊎◌, ⊎_elim, Bool, true, false, if◌then◌else◌}
use Rattle.world_laws.proofs.Words.{Option, Some, None, List, [], ◌∷◌, ◌++◌, length, arith, is_some, ◌<◌, ◌^◌, or_cases, both_ways, false≢true, or_right}
use Rattle.world_laws.proofs.Words.{or_left, append-nil, IfSome, Side, with_turned_bit, ReassemblyReply, Span, Why, SendReply, Receiving, Record, SendState}
use Rattle.world_laws.proofs.Words.{RecordKind, Syn, Data, Fin, EndPhase, after_finishing, InfiniteMapping, is_open, Reply, PathEnd, after_ack_out, granted}
use Rattle.world_laws.proofs.Words.{refused, granted_at, acked_in, Profile, Modes, told_last, Every-map, Every-push, IfSome-map, Has-more, Every, HasPlace}
use Rattle.world_laws.proofs.Words.{Cell, Lane, takes_ack, sub_next, cells_from, known, later_end, Nothing}
use Rattle.std.specs.Prelude.{filter}
use Rattle.loss_recovery.specs.Windows as windows
use Rattle.subflow_tcp.specs.States as states
use Rattle.stream_lanes.specs.Words.{Has}
use Rattle.world_laws.proofs.Lanes.Doing.{copy_granted, altered_granted, turned_granted, place_is, told_lane, ack_moves, told_goes, told_windows, with_piece, granted_lane, sends_the_piece, piece_goes, refused_lane, with_end, sends_the_end, end_goes, with_fin_sent, fin_goes, length-granted, has_last, told_sub, granted_summed}
use Rattle.world_laws.proofs.Lanes.Growing.{SenderGoes, ReceiverGoes, sender_stays, receiver_stays, Longer, sent_longer, data_longer, mapping_longer, fin_longer, same_edge, summed_longer, sender_pairs}
use Rattle.world_laws.proofs.Lanes.Roads.{moves, Strolls, stays}
use Rattle.world_laws.proofs.Lanes.SentRecords.{granted_sent, heard_sent, finished_sent}
use Rattle.world_laws.proofs.Lanes.Showing.{HasNumber, HasFin, KindShows, RecordShows, is_unfinished, TreatedShows, EndShows, HasNone, IsAtEdge, IsGrantedTo, IsPastFin, OwnIs, PeerIs, PairsShow}
use Rattle.world_laws.proofs.Lanes.Records.{every_cons, every_first, every_rest}
use Rattle.world_laws.proofs.Lanes.EndParts.{new_sender, new_receiver, new_acks, new_told, new_treated, new_pairs}

-- an end that may finish hasn't finished
pub unfinished_if : (state : EndPhase) → states.may_finish state ≡ true → is_unfinished state ≡ true
unfinished_if EndPhase.FinWait1 is = absurd (false≢true is)
unfinished_if EndPhase.FinWait2 is = absurd (false≢true is)
unfinished_if EndPhase.Closing is = absurd (false≢true is)
unfinished_if EndPhase.LastAck is = absurd (false≢true is)
unfinished_if EndPhase.TimeWait is = absurd (false≢true is)
unfinished_if EndPhase.Dead is = absurd (false≢true is)
unfinished_if _ is = refl

-- An end that did something: its lanes went on from where they were, after a call from these on by moves alone, and they show it.
pub record Did (c : Profile) (s : Side) (e : PathEnd) (out out_called back back_called : Lane) : Type 0 where
  pub out_after : Lane
  pub back_after : Lane
  pub out_moves : Strolls out_called out_after
  pub back_moves : Strolls back_called back_after
  pub sender : SenderGoes out out_after
  pub receiver : ReceiverGoes back back_after
  pub shows : EndShows c s e out_after back_after

-- modes that are alike as far as the lanes have to do with them
pub record Alike (m n : Modes) : Type 0 where
  pub identity : m.identity ≡ n.identity
  pub own : m.own_infinite ≡ n.own_infinite
  pub peer : m.peer_infinite ≡ n.peer_infinite
  pub failed : m.failed_mapping ≡ n.failed_mapping

pub then_alike : (k m n : Modes) → Alike k m → Alike m n → Alike k n
then_alike k m n x y = record { identity = x.identity ∙ y.identity; own = x.own ∙ y.own; peer = x.peer ∙ y.peer; failed = x.failed ∙ y.failed }

pub alike_pairs : (m n : Modes) (own : Option InfiniteMapping) (failed : Option ℕ) (out back : Lane) → Alike m n → PairsShow n own failed out back → PairsShow m own failed out back
alike_pairs m n own failed out back a h = (
  subst (λ o. IfSome o (OwnIs out.pair out.pairs out.fins out.alters)) (sym a.own) h.0,
  subst (λ o. IfSome o (λ mapping. PeerIs back.taken mapping ⊎ HasFin back.fins (mapping.position - 1))) (sym a.peer) h.1,
  λ above some. h.2 (sym a.identity ∙ above) (sym (ap is_some a.peer) ∙ some),
  h.3,
  subst (λ o. IfSome o (λ _. out.alters ≡ true)) (sym a.failed) h.4,
  h.5,
)

module _ (c : Profile) (s : Side) (out back : Lane) where
  -- the lanes stay
  abbrev pub did_nothing : (e : PathEnd) → EndShows c s e out back → Did c s e out out back back
  did_nothing e h = record {
    out_after = out;
    back_after = back;
    out_moves = stays out;
    back_moves = stays back;
    sender = sender_stays out;
    receiver = receiver_stays back;
    shows = h;
  }

  -- ---- modes

  -- an end falls back by one rule alone
  pub with_modes : (e : PathEnd) (m : Modes) → Alike m e.modes → EndShows c s e out back → EndShows c s (record e { modes = m }) out back
  with_modes e m same h = new_sender (record {
    plain = h.sender.plain ∙ sym same.identity;
    next = h.sender.next;
    unfinished = h.sender.unfinished;
    pieces = h.sender.pieces;
    known_end = h.sender.known_end;
    same_end = h.sender.same_end;
    heard = h.sender.heard;
    granted = h.sender.granted;
    fin_acked = h.sender.fin_acked;
    sent = h.sender.sent;
  })
      (new_receiver (record { same_mode = h.receiver.same_mode ∙ sym same.identity; edge = h.receiver.edge; fin = h.receiver.fin; mapped = h.receiver.mapped })
      (new_pairs (alike_pairs m e.modes e.treated.infinite_mapping e.treated.failed_mapping out back same h.pairs) h))

  -- ---- the reply to AckOut

  -- what the subflow acknowledges is no more than has come on the lane
  covered : (recv : Receiving) (fin_at : Option ℕ) → IsAtEdge recv back ⊎ IsPastFin fin_at recv back → recv.edge - 1 ≤ sub_next back
  covered recv fin_at (inl at) = let edge_is = at.edge_is in omega (arith, edge_is)
  covered recv fin_at (inr past) =
      let edge_is = past.edge_is in
      let more : ◌≡◌ {A = ℕ} (if back.fin_in then 1 else 0) 1 = ap (λ (b : Bool). if b then 1 else 0) past.fin_in in
      omega (arith, edge_is, more)

  pub told_end : (next window : ℕ) (e : PathEnd) → EndShows c s e out back
      → Did c s (after_ack_out (Reply.Reassembly (ReassemblyReply.Ack next window)) e) out out back (told_lane next window (e.tcp.recv.edge - 1) back)
  told_end next window e h =
      let sub = e.tcp.recv.edge - 1 in
      record {
        out_after = out;
        back_after = moves (ack_moves next window sub) (told_lane next window sub back);
        out_moves = stays out;
        back_moves = record { by = ack_moves next window sub; calm = refl; to = refl };
        sender = sender_stays out;
        receiver = told_goes next window sub back;
        shows = new_receiver (record { same_mode = h.receiver.same_mode; edge = same_edge refl refl refl (λ position octets has. has) h.receiver.edge; fin = h.receiver.fin; mapped = h.receiver.mapped })
            (new_acks (record {
              windows = told_windows next window sub back;
              latest = refl;
              due = λ asked. refl;
              sub = λ asked. told_sub next window sub back (covered e.tcp.recv _ h.receiver.edge);
            })
            h);
      }

  -- ---- grants

  same_pieces : (q : Lane) → Longer back.acks back.acks out q → (v : SendState) → Every (RecordShows c s out.alters out.sent out.datas out.fins) v.records → Every (RecordShows c s q.alters q.sent q.datas q.fins) v.records
  same_pieces q l v h = Every-map (λ r shows. at r.kind r shows) h
    where
      at : (kind : RecordKind) (r : Record) → KindShows c s out.alters out.sent out.datas out.fins kind r → KindShows c s q.alters q.sent q.datas q.fins kind r
      at Syn r shows = shows
      at Data r shows = record { octets = data_longer l r.pos r.piece shows.octets; turned = λ may. data_longer l r.pos (with_turned_bit r.piece) (shows.turned (sym l.alters_is ∙ may)); mapping = mapping_longer l _ r.pos r.mapping.length shows.mapping; summed = summed_longer l c s _ r.pos r.mapping.length r.mapping.checksum shows.summed }
      at Fin r shows = (shows.0, fin_longer l r.pos shows.1)

  -- the lanes where only the sender's half went on
  module _ (q : Lane) (g : SenderGoes out q) where
    longer : Longer back.acks back.acks out q
    longer = sent_longer out q back back g (receiver_stays back)

    receiving_same : (e : PathEnd) → EndShows c s e out back → HasNone q.acks e.tcp.congestion.told.window
    receiving_same e h = subst (λ acks. HasNone acks e.tcp.congestion.told.window) (sym (ap (λ p. p.acks) g.is)) h.told

    pairs_same : (e : PathEnd) → q.pair ≡ out.pair → EndShows c s e out back → PairsShow e.modes e.treated.infinite_mapping e.treated.failed_mapping q back
    pairs_same e same h = sender_pairs e.modes e.treated.infinite_mapping e.treated.failed_mapping out q back g same h.pairs

    treated_same : (e : PathEnd) → EndShows c s e out back → TreatedShows e.treated q.acks back
    treated_same e h = subst (λ acks. TreatedShows e.treated acks back) (sym (ap (λ p. p.acks) g.is)) h.treated

  -- the last of these bytes is the lane's
  last_cell : (place : ℕ) (bytes : List ℕ) (last : ℕ) → suc last ≡ place + length bytes → 1 ≤ length bytes → HasPlace (cells_from place bytes) last
  last_cell place [] last is some = absurd (omega (arith, some))
  last_cell place (byte ∷ []) last is some = record { at = 0; item = record { place = place; byte = byte }; there = refl; holds = omega (arith, is) }
  last_cell place (byte ∷ next ∷ bytes) last is some =
      let rest = last_cell (suc place) (next ∷ bytes) last (omega (arith, is)) (omega arith) in
      record { at = suc rest.at; item = rest.item; there = rest.there; holds = rest.holds }

  behind : {X : Type 0} {P : X → Type 0} (xs ys : List X) → Has P ys → Has P (xs ++ ys)
  behind [] ys h = h
  behind (x ∷ xs) ys h = let rest = behind xs ys h in record { at = suc rest.at; item = rest.item; there = rest.there; holds = rest.holds }

  -- a span that has bytes, as many as the piece
  pub record IsFit (span : Span) (piece : List ℕ) : Type 0 where
    pub small : span.from < 2 ^ 64
    pub whole : span.to ≡ span.from + length piece
    pub some : 1 ≤ length piece

  last_of : (sent : List Cell) (position : ℕ) (span : Span) (piece : List ℕ) → IsFit span piece → IsGrantedTo (sent ++ cells_from span.from piece) (granted_at position span)
  last_of sent position span piece fit =
      let whole = fit.whole in let some = fit.some in
      let is : suc (span.from + length piece - 1) ≡ span.from + length piece = omega (arith, some) in
      record {
        last = span.from + length piece - 1;
        last_is = is ∙ sym whole;
        has = behind sent (cells_from span.from piece) (last_cell span.from piece (span.from + length piece - 1) is some);
      }

  pub granted_end : (span : Span) (piece : List ℕ) (e : PathEnd) → states.may_finish e.tcp.state ≡ true → IsFit span piece → EndShows c s e out back
      → Did c s (granted c s span piece e) out (granted_lane span piece out) back back
  granted_end span piece e may fit h =
      let q : Lane = with_piece span piece out in
      let g : SenderGoes out q = piece_goes span piece out in
      let at : e.tcp.send.nxt ≡ suc (length out.sent) = h.sender.next (unfinished_if e.tcp.state may) in
      let l = length-granted out.sent span.from piece in
      record {
        out_after = q;
        back_after = back;
        out_moves = sends_the_piece span piece out;
        back_moves = stays back;
        sender = g;
        receiver = receiver_stays back;
        shows = new_sender (record {
          plain = h.sender.plain;
          next = λ un. omega (arith, at, l);
          unfinished = h.sender.unfinished;
          pieces = Every-push _ (same_pieces q (longer q g) e.tcp.send h.sender.pieces) (record {
            octets = Has-more (altered_granted span piece out) (has_last out.datas (copy_granted span piece out) (record { position_is = sym at; octets_are = refl }));
            turned = λ may. turned_granted span piece out e.tcp.send.nxt (sym at) may;
            mapping = Has-more (altered_granted span piece out) (has_last out.datas (copy_granted span piece out) (record {
              mapping = _;
              there = refl;
              is = record { place_is = sym (place_is c s span.from e.tcp.send.nxt (length piece) fit.small); position_is = sym at; len_is = refl };
            }));
            summed = granted_summed span piece out c s e.tcp.send.nxt (sym at) fit.small;
          });
          known_end = h.sender.known_end;
          same_end = h.sender.same_end;
          heard = h.sender.heard;
          granted = Every-push (granted_at e.tcp.send.nxt span) (Every-map (λ old g. record { last = g.last; last_is = g.last_is; has = Has-more (cells_from span.from piece) g.has }) h.sender.granted) (last_of out.sent e.tcp.send.nxt span piece fit);
          fin_acked = h.sender.fin_acked;
          sent = granted_sent e.tcp.send.nxt e.sending.heard span.from span.to piece e.sending.granted out.sent out.fins out.pair at fit.whole fit.some e.tcp.send.finished h.sender.sent
              (h.sender.unfinished (unfinished_if e.tcp.state may));
        })
            (new_told (receiving_same q g e h)
            (new_treated (treated_same q g e h)
            (new_pairs (pairs_same q g e refl h) h)));
      }

  pub refused_end : (why : Why) (told : Option ℕ) (e : PathEnd) → EndShows c s e out back
      → Did c s (refused (Reply.Send (SendReply.NoGrant why told)) e) out (refused_lane why told out) back back
  refused_end why told e h =
      let q : Lane = with_end why told out in
      let g : SenderGoes out q = end_goes why told out in
      record {
        out_after = q;
        back_after = back;
        out_moves = sends_the_end why told out;
        back_moves = stays back;
        sender = g;
        receiver = receiver_stays back;
        shows = new_sender (record {
          plain = h.sender.plain;
          next = h.sender.next;
          unfinished = h.sender.unfinished;
          pieces = h.sender.pieces;
          known_end = known_at told;
          same_end = elim told as (λ told. later_end told out.known_end ≡ told_last told e.sending.known_end) [ Some place ↦ refl | None ↦ h.sender.same_end ];
          heard = h.sender.heard;
          granted = h.sender.granted;
          fin_acked = h.sender.fin_acked;
          sent = h.sender.sent;
        })
            (new_treated (treated_same q g e h) h);
      }
    where
      known_at : (told : Option ℕ) → IfSome (told_last told e.sending.known_end) (HasNumber (out.data_fins ++ known (later_end told out.known_end)))
      known_at (Some place) = has_last out.data_fins place refl
      known_at None = IfSome-map e.sending.known_end (λ n has. Has-more _ has) h.sender.known_end

  -- ---- acknowledgements

  abbrev idle : Lane
  idle = record out { asking = Nothing }

  idle_goes : SenderGoes out idle
  idle_goes = record {
    cells = [];
    pieces = out.pieces;
    known_end = out.known_end;
    heard = out.heard;
    fin_acked = out.fin_acked;
    asking = Nothing;
    datas = [];
    data_fins = [];
    fins = [];
    pair = out.pair;
    pairs = [];
    is = rw (append-nil out.sent, append-nil out.datas, append-nil out.data_fins, append-nil out.fins, append-nil out.pairs) refl;
  }

  -- the reply changes nothing at the end, and the lane asks no more
  pub idle_end : (e : PathEnd) → EndShows c s e out back → Did c s e out idle back back
  idle_end e h = record {
    out_after = idle;
    back_after = back;
    out_moves = stays idle;
    back_moves = stays back;
    sender = idle_goes;
    receiver = receiver_stays back;
    shows = new_sender (record {
      plain = h.sender.plain;
      next = h.sender.next;
      unfinished = h.sender.unfinished;
      pieces = h.sender.pieces;
      known_end = h.sender.known_end;
      same_end = h.sender.same_end;
      heard = h.sender.heard;
      granted = h.sender.granted;
      fin_acked = h.sender.fin_acked;
      sent = h.sender.sent;
    }) h;
  }

  -- what passes a test
  pub tested : {X : Type 0} {P : X → Type 0} (test : X → Bool) (xs : List X) → Every P xs → Every P (filter test xs)
  tested test [] h = h
  tested {X} {P} test (x ∷ xs) h = (elim (test x) as (λ b. Every P (filter test xs) → Every P (if b then x ∷ filter test xs else filter test xs))
      [ true ↦ λ rest. every_cons x _ (every_first x xs h) rest | false ↦ λ rest. rest ]) (tested test xs (every_rest x xs h))

  -- an acknowledgement changes what the lane's sender knows, and nothing else
  pub heard_end : (next : ℕ) (r : SendReply) (e : PathEnd) → EndShows c s e out back
      → Did c s (record e { sending = acked_in next (Reply.Send r) e.sending }) out (takes_ack next r out) back back
  heard_end next (SendReply.Acked bytes fin) e h = record {
    out_after = takes_ack next (SendReply.Acked bytes fin) out;
    back_after = back;
    out_moves = stays _;
    back_moves = stays back;
    sender = record {
      cells = [];
      pieces = out.pieces;
      known_end = out.known_end;
      heard = max out.heard next;
      fin_acked = out.fin_acked || fin;
      asking = Nothing;
      datas = [];
      data_fins = [];
      fins = [];
      pair = out.pair;
      pairs = [];
      is = rw (append-nil out.sent, append-nil out.datas, append-nil out.data_fins, append-nil out.fins, append-nil out.pairs) refl;
    };
    receiver = receiver_stays back;
    shows = new_sender (record {
      plain = h.sender.plain;
      next = h.sender.next;
      unfinished = h.sender.unfinished;
      pieces = h.sender.pieces;
      known_end = h.sender.known_end;
      same_end = h.sender.same_end;
      heard = ap (λ n. max n next) h.sender.heard;
      granted = tested (is_open (max e.sending.heard next)) e.sending.granted h.sender.granted;
      fin_acked = λ is. ⊎_elim (λ old. or_left out.fin_acked fin (h.sender.fin_acked old)) (λ new. or_right out.fin_acked fin new) (or_cases e.sending.close.own_acked fin is);
      sent = heard_sent e.tcp.send.finished e.tcp.send.nxt e.sending.heard next e.sending.granted out.sent out.fins out.pair h.sender.sent;
    }) h;
  }
  heard_end next (SendReply.Taken count) e h = idle_end e h
  heard_end next _ e h = idle_end e h

  -- one of nothing changes nothing that the end knows
  pub unheard_end : (r : SendReply) (e : PathEnd) → EndShows c s e out back → Did c s e out (takes_ack 0 r out) back back
  unheard_end (SendReply.Acked bytes fin) e h = record {
    out_after = takes_ack 0 (SendReply.Acked bytes fin) out;
    back_after = back;
    out_moves = stays _;
    back_moves = stays back;
    sender = record {
      cells = [];
      pieces = out.pieces;
      known_end = out.known_end;
      heard = max out.heard 0;
      fin_acked = out.fin_acked || fin;
      asking = Nothing;
      datas = [];
      data_fins = [];
      fins = [];
      pair = out.pair;
      pairs = [];
      is = rw (append-nil out.sent, append-nil out.datas, append-nil out.data_fins, append-nil out.fins, append-nil out.pairs) refl;
    };
    receiver = receiver_stays back;
    shows = new_sender (record {
      plain = h.sender.plain;
      next = h.sender.next;
      unfinished = h.sender.unfinished;
      pieces = h.sender.pieces;
      known_end = h.sender.known_end;
      same_end = h.sender.same_end;
      heard = (let same : max out.heard 0 ≡ out.heard = omega arith in same ∙ h.sender.heard);
      granted = h.sender.granted;
      fin_acked = λ is. or_left out.fin_acked fin (h.sender.fin_acked is);
      sent = h.sender.sent;
    }) h;
  }
  unheard_end (SendReply.Taken count) e h = idle_end e h
  unheard_end _ e h = idle_end e h

  -- ---- the FIN

  -- the FIN stands after the bytes that were granted
  pub finished_shows : (e : PathEnd) → states.may_finish e.tcp.state ≡ true → EndShows c s e out back → EndShows c s (record e { tcp = after_finishing e.tcp }) (with_fin_sent out) back
  finished_shows e may h =
      let q : Lane = with_fin_sent out in
      let g : SenderGoes out q = fin_goes out in
      let at : e.tcp.send.nxt ≡ suc (length out.sent) = h.sender.next (unfinished_if e.tcp.state may) in
      (new_sender (record {
        plain = h.sender.plain;
        next = λ un. absurd (both_ways _ (finished_if e.tcp.state may) un);
        unfinished = λ un. absurd (both_ways _ (finished_if e.tcp.state may) un);
        pieces = Every-push _ (same_pieces q (longer q g) e.tcp.send h.sender.pieces) (refl, has_last out.fins _ (sym at));
        known_end = h.sender.known_end;
        same_end = h.sender.same_end;
        heard = h.sender.heard;
        granted = h.sender.granted;
        fin_acked = h.sender.fin_acked;
        sent = finished_sent e.tcp.send.finished e.tcp.send.nxt e.sending.heard e.sending.granted out.sent out.fins (out.fins ++ length out.sent ∷ []) out.pair h.sender.sent
            (has_last out.fins (length out.sent) (sym at));
      })
      (new_told (receiving_same q g e h)
      (new_treated (treated_same q g e h)
      (new_pairs (pairs_same q g e refl h) h))))
    where
      finished_if : (state : EndPhase) → states.may_finish state ≡ true → is_unfinished (states.after_finish state) ≡ false
      finished_if EndPhase.Established is = refl
      finished_if EndPhase.CloseWait is = refl
      finished_if _ is = absurd (false≢true is)

-- ---- what leaves the lanes alone
