-- What was sent on a lane stays, so what the ends and the copies have to do with the lanes stays as these go on.
--
-- How a lane goes on is an equation to a record with new fields (`SenderGoes`, `ReceiverGoes`): after one `subst` all
-- that is said of the other end computes (`proofs/Lanes/Growing`).
--
-- A lemma over a lane that grew (`SenderGoes out q`) takes what stays as an equation on the lane itself (`q.pair ≡
-- out.pair`), which computes, and not on the fields of the record that another lemma gives, which doesn't unfold.
use Rattle.world_laws.proofs.Words.{◌≡◌, refl, sym, ◌∙◌, ap, subst, ℕ, zero, suc, ◌+◌, ◌-◌, ◌≤◌, inl, inr, ◌⊎◌, ⊎_elim, Bool, true, false, Option, Some, None}
use Rattle.world_laws.proofs.Words.{List, [], ◌∷◌, ◌++◌, length, take, drop, arith, lt-ltb, length-append, length-drop, length-map, append-nil, map-append}
use Rattle.world_laws.proofs.Words.{IfSome, Side, dss_checksum, with_turned_bit, CapableKeys, WithData, KeptMapping, Receiving, SendState, is_behind, EndPhase}
use Rattle.world_laws.proofs.Words.{PlainOption, PlainSegment, Capable, Dss, Fail, PathMapping, Bytes, Infinite, InfiniteMapping, Heard, PathEnd, join_asked}
use Rattle.world_laws.proofs.Words.{checksum_heard, bare_mapping, Profile, Modes, Treated, Every-map, IfSome-map, Has-more, Cell, Mapping, Pair, DataCopy}
use Rattle.world_laws.proofs.Words.{AckCopy, Lane, bytes_of}
use Rattle.path_segments.specs.declared.segment.PathMapping.TheVariants.{End}
use Rattle.stream_lanes.specs.Lane.{Told, Ask}
use Rattle.world_laws.proofs.Lanes.Showing.{HasAck, HasSub, HasNone, HasData, HasMapping, HasNumber, HasFin, HasPair, PairTold, OwnIs, PairsShow, Knowledge, identity_of, knowledge_of, SenderShows, Under, IsAtEdge, IsPastFin, AcksShow, ReceiverShows, ItemShows, TreatedShows, EndShows, MappingShows, KeysShow, OptionShows, SegmentShows, IsSummed, KeptSummed}
use Rattle.dss_mapping.specs.Mappings.{octets_of}

-- ---- how a lane goes on

-- by what its sender's end does
pub record SenderGoes (p q : Lane) : Type 0 where
  pub cells : List Cell
  pub pieces : List Mapping
  pub known_end : Option ℕ
  pub heard : ℕ
  pub fin_acked : Bool
  pub asking : Ask
  pub datas : List DataCopy
  pub data_fins : List ℕ
  pub fins : List ℕ
  pub pair : Option Pair
  pub pairs : List Pair
  pub is : q ≡ record p {
    sent = p.sent ++ cells;
    pieces = pieces;
    known_end = known_end;
    heard = heard;
    fin_acked = fin_acked;
    asking = asking;
    datas = p.datas ++ datas;
    data_fins = p.data_fins ++ data_fins;
    fins = p.fins ++ fins;
    pair = pair;
    pairs = p.pairs ++ pairs;
  }

-- by what its receiver's end does
pub record ReceiverGoes (p q : Lane) : Type 0 where
  pub edge : ℕ
  pub kept : List (Option ℕ)
  pub maps : List Mapping
  pub taken : Option Pair
  pub loose : Bool
  pub fin_in : Bool
  pub due : Bool
  pub latest : Told
  pub asking : Ask
  pub acks : List AckCopy
  pub is : q ≡ record p {
    edge = edge;
    kept = kept;
    maps = maps;
    taken = taken;
    receiver_loose = loose;
    fin_in = fin_in;
    due = due;
    latest = latest;
    asking = asking;
    acks = p.acks ++ acks;
  }

pub sender_stays : (p : Lane) → SenderGoes p p
sender_stays p = record {
  cells = [];
  pieces = p.pieces;
  known_end = p.known_end;
  heard = p.heard;
  fin_acked = p.fin_acked;
  asking = p.asking;
  datas = [];
  data_fins = [];
  fins = [];
  pair = p.pair;
  pairs = [];
  is = rw (append-nil p.sent, append-nil p.datas, append-nil p.data_fins, append-nil p.fins, append-nil p.pairs) refl;
}

pub receiver_stays : (p : Lane) → ReceiverGoes p p
receiver_stays p = record {
  edge = p.edge;
  kept = p.kept;
  maps = p.maps;
  taken = p.taken;
  loose = p.receiver_loose;
  fin_in = p.fin_in;
  due = p.due;
  latest = p.latest;
  asking = p.asking;
  acks = [];
  is = rw (append-nil p.acks) refl;
}

-- ---- copies

-- bytes of a record stay as it goes on
drop_more : {X : Type 0} (n : ℕ) (xs ys : List X) → n ≤ length xs → drop n (xs ++ ys) ≡ drop n xs ++ ys
drop_more zero xs ys within = refl
drop_more (suc n) [] ys within = absurd (omega (arith, within))
drop_more (suc n) (x ∷ xs) ys within = drop_more n xs ys (omega (arith, within))

take_more : {X : Type 0} (n : ℕ) (xs ys : List X) → n ≤ length xs → take n (xs ++ ys) ≡ take n xs
take_more zero xs ys within = refl
take_more (suc n) [] ys within = absurd (omega (arith, within))
take_more (suc n) (x ∷ xs) ys within = ap (λ zs. x ∷ zs) (take_more n xs ys (omega (arith, within)))

part_more : (sent cells : List Cell) (position len : ℕ) → (position - 1) + len ≤ length sent
    → take len (drop (position - 1) (bytes_of (sent ++ cells))) ≡ take len (drop (position - 1) (bytes_of sent))
part_more sent cells position len within = by len within
  where
    size : length (bytes_of sent) ≡ length sent
    size = length-map sent (λ (c : Cell). c.byte)

    by : (len : ℕ) → (position - 1) + len ≤ length sent → take len (drop (position - 1) (bytes_of (sent ++ cells))) ≡ take len (drop (position - 1) (bytes_of sent))
    by zero within = refl
    by (suc n) within =
        let left : length (drop (position - 1) (bytes_of sent)) ≡ length (bytes_of sent) - (position - 1) = length-drop (position - 1) (bytes_of sent) in
        ap (λ bytes. take (suc n) (drop (position - 1) bytes)) (map-append (λ (c : Cell). c.byte) sent cells)
        ∙ ap (take (suc n)) (drop_more (position - 1) (bytes_of sent) (bytes_of cells) (omega (arith, within, size)))
        ∙ take_more (suc n) (drop (position - 1) (bytes_of sent)) (bytes_of cells) (omega (arith, within, size, left))

pub summed_more : (c : Profile) (s : Side) (sent cells : List Cell) (place position len checksum : ℕ) → IsSummed c s sent place position len checksum
    → IsSummed c s (sent ++ cells) place position len checksum
summed_more c s sent cells place position len checksum h = record {
  within = let within = h.within in omega (arith, within, length-append sent cells);
  right = λ uses. h.right uses ∙ sym (ap (dss_checksum (bare_mapping c s place position len)) (part_more sent cells position len h.within));
}

pub kept_more : (c : Profile) (sent cells : List Cell) (kept : KeptMapping) → KeptSummed c sent kept → KeptSummed c (sent ++ cells) kept
kept_more c sent cells kept h = record {
  within = let within = h.within in omega (arith, within, length-append sent cells);
  right = λ uses. ap (dss_checksum kept.mapping) (part_more sent cells kept.pos (octets_of kept) h.within) ∙ h.right uses;
}

-- what a segment on a lane has to do with it stays as both lanes go on
pub record Longer (acks acks_after : List AckCopy) (p q : Lane) : Type 0 where
  pub alters_is : q.alters ≡ p.alters
  pub cells : List Cell
  pub sent_are : q.sent ≡ p.sent ++ cells
  pub more_acks : List AckCopy
  pub acks_are : acks_after ≡ acks ++ more_acks
  pub datas : List DataCopy
  pub datas_are : q.datas ≡ p.datas ++ datas
  pub data_fins : List ℕ
  pub data_fins_are : q.data_fins ≡ p.data_fins ++ data_fins
  pub fins : List ℕ
  pub fins_are : q.fins ≡ p.fins ++ fins
  pub pairs : List Pair
  pub pairs_are : q.pairs ≡ p.pairs ++ pairs

module _ {acks acks_after : List AckCopy} {p q : Lane} (l : Longer acks acks_after p q) where
  pub ack_longer : (next window : ℕ) → HasAck acks next window → HasAck acks_after next window
  ack_longer next window h = subst (λ xs. HasAck xs next window) (sym l.acks_are) (Has-more l.more_acks h)

  pub sub_longer : (sub window : ℕ) → HasSub acks sub window → HasSub acks_after sub window
  sub_longer sub window h = subst (λ xs. HasSub xs sub window) (sym l.acks_are) (Has-more l.more_acks h)

  pub none_longer : (window : ℕ) → HasNone acks window → HasNone acks_after window
  none_longer window h = subst (λ xs. HasNone xs window) (sym l.acks_are) (Has-more l.more_acks h)

  pub data_longer : (position : ℕ) (octets : List ℕ) → HasData p.datas position octets → HasData q.datas position octets
  data_longer position octets h = subst (λ xs. HasData xs position octets) (sym l.datas_are) (Has-more l.datas h)

  pub mapping_longer : (place position len : ℕ) → HasMapping p.datas place position len → HasMapping q.datas place position len
  mapping_longer place position len h = subst (λ xs. HasMapping xs place position len) (sym l.datas_are) (Has-more l.datas h)

  pub number_longer : (n : ℕ) → HasNumber p.data_fins n → HasNumber q.data_fins n
  number_longer n h = subst (λ xs. HasNumber xs n) (sym l.data_fins_are) (Has-more l.data_fins h)

  pub fin_longer : (n : ℕ) → HasFin p.fins n → HasFin q.fins n
  fin_longer n h = subst (λ xs. HasFin xs n) (sym l.fins_are) (Has-more l.fins h)

  pub pair_longer : (place position : ℕ) → PairTold p.pairs p.fins place position → PairTold q.pairs q.fins place position
  pair_longer place position (inl h) = inl (subst (λ xs. HasPair xs place position) (sym l.pairs_are) (Has-more l.pairs h))
  pair_longer place position (inr h) = inr (fin_longer (position - 1) h)

  pub summed_longer : (c : Profile) (s : Side) (place position len checksum : ℕ) → IsSummed c s p.sent place position len checksum → IsSummed c s q.sent place position len checksum
  summed_longer c s place position len checksum h =
      subst (λ xs. IsSummed c s xs place position len checksum) (sym l.sent_are) (summed_more c s p.sent l.cells place position len checksum h)

  pub kept_longer : (c : Profile) (kept : KeptMapping) → KeptSummed c p.sent kept → KeptSummed c q.sent kept
  kept_longer c kept h = subst (λ xs. KeptSummed c xs kept) (sym l.sent_are) (kept_more c p.sent l.cells kept h)

  keys_longer : (c : Profile) (s : Side) (keys : CapableKeys) → KeysShow c s keys p → KeysShow c s keys q
  keys_longer c s (WithData sender receiver len checksum) h = (mapping_longer 0 1 len h.0, summed_longer c s 0 1 len (checksum_heard checksum) h.1)
  keys_longer c s _ h = tt

  map_longer : (c : Profile) (s : Side) (o : Option (PathMapping ℕ)) → MappingShows c s o p → MappingShows c s o q
  map_longer c s None h = tt
  map_longer c s (Some (Bytes place position len true checksum)) h = h
  map_longer c s (Some (Bytes place position len false checksum)) h =
      (mapping_longer place position len h.0, summed_longer c s place position len (checksum_heard checksum) h.1)
  map_longer c s (Some (End place checksum)) h = number_longer place h
  map_longer c s (Some (Infinite place position)) h = pair_longer place position h

  option_longer : (c : Profile) (s : Side) (window : ℕ) (o : PlainOption) → OptionShows c s window acks p o → OptionShows c s window acks_after q o
  option_longer c s window (Capable flag_a flag_c keys) h = keys_longer c s keys h
  option_longer c s window (Dss next mapping) h = (IfSome-map next (λ n has. ack_longer n window has) h.0, map_longer c s mapping h.1)
  option_longer c s window (Fail place) h = l.alters_is ∙ h
  option_longer c s window _ h = tt

  pub segment_longer : {c : Profile} {s : Side} (sg : PlainSegment) → SegmentShows c s acks p sg → SegmentShows c s acks_after q sg
  segment_longer {c} {s} sg h = record {
    window = none_longer _ h.window;
    sub = λ syn rst. IfSome-map sg.acknowledged (λ n has. sub_longer (n - 1) _ has) (h.sub syn rst);
    options = Every-map (option_longer c s _) h.options;
    payload = ⊎_elim (λ none. inl none) (λ has. inr (data_longer sg.position sg.payload has)) h.payload;
    turned = λ may. ⊎_elim (λ none. inl none) (λ has. inr (data_longer sg.position (with_turned_bit sg.payload) has)) (h.turned (sym l.alters_is ∙ may));
    fin = λ is. let f = h.fin is in (f.0, fin_longer sg.position f.1);
    plain = h.plain;
  }

  item_longer : (item : Heard) → ItemShows acks p item → ItemShows acks_after q item
  item_longer (Heard.DataAck next window) h = ack_longer next window h
  item_longer (Heard.DataFin place) h = number_longer place h
  item_longer (Heard.InfiniteMapping place position) h = IfSome-map position (λ n has. pair_longer place n has) h
  item_longer Heard.Fail h = l.alters_is ∙ h
  item_longer _ h = tt

  pub treated_longer : (t : Treated) → TreatedShows t acks p → TreatedShows t acks_after q
  treated_longer t h = record {
    items = Every-map item_longer h.items;
    fins = Every-map number_longer h.fins;
    answer = h.answer;
    window = IfSome-map (join_asked t.items) (λ asked has. none_longer t.window has) h.window;
    sub = sub_longer (t.acknowledged - 1) t.window h.sub;
    nothing = none_longer 0 h.nothing;
  }

-- ---- the other end

-- where the edge is, as far as other fields of the lane change
pub same_edge : {recv : Receiving} {fin_at : Option ℕ} {p q : Lane} → q.edge ≡ p.edge → q.kept ≡ p.kept → q.fin_in ≡ p.fin_in → ((position : ℕ) (octets : List ℕ) → HasData p.datas position octets → HasData q.datas position octets)
    → IsAtEdge recv p ⊎ IsPastFin fin_at recv p
    → IsAtEdge recv q ⊎ IsPastFin fin_at recv q
same_edge {recv} {fin_at} {p} {q} edge kept fin more (inl at) = inl (record {
  edge_is = at.edge_is ∙ ap suc (sym edge);
  under = subst (Under recv.places) (sym kept) at.under;
  only = subst (λ bytes. Under bytes recv.places ⊎ (recv.places ≡ [])) (sym kept) at.only;
  held = IfSome-map recv.incoming (λ places h. record { position = h.position; octets = h.octets; count = h.count; has = more h.position h.octets h.has; is = h.is }) at.held;
})
same_edge edge kept fin more (inr past) = inr (record {
  at_is = past.at_is ∙ ap (λ n. Some (suc n)) (sym edge);
  none = past.none;
  edge_is = past.edge_is ∙ ap (λ n. suc (suc n)) (sym edge);
  fin_in = fin ∙ past.fin_in;
})

-- behind its FIN the edge is past it
pub past_behind : (fin_at : Option ℕ) (recv : Receiving) (p : Lane) → IsPastFin fin_at recv p → is_behind fin_at recv.edge ≡ true
past_behind fin_at recv p past = let edge_is = past.edge_is in ap (λ o. is_behind o recv.edge) past.at_is ∙ lt-ltb (suc p.edge) recv.edge (omega (arith, edge_is))

peer_sender : (c : Profile) (s : Side) (state : EndPhase) (v : SendState) (k : Knowledge) (p q : Lane) → ReceiverGoes p q → SenderShows c s state v k p → SenderShows c s state v k q
peer_sender c s state v k p q g h = subst (SenderShows c s state v k) (sym g.is) (record {
  plain = h.plain;
  next = h.next;
  unfinished = h.unfinished;
  pieces = h.pieces;
  known_end = h.known_end;
  same_end = h.same_end;
  heard = h.heard;
  granted = h.granted;
  fin_acked = h.fin_acked;
  sent = h.sent;
})

peer_receiver : (recv : Receiving) (fin_at : Option ℕ) (live : List KeptMapping) (plain : Bool) (p q : Lane) → SenderGoes p q → ReceiverShows recv fin_at live plain p
    → ReceiverShows recv fin_at live plain q
peer_receiver recv fin_at live plain p q g h = subst (ReceiverShows recv fin_at live plain) (sym g.is) (record {
  same_mode = h.same_mode;
  edge = same_edge refl refl refl (λ position octets has. Has-more g.datas has) h.edge;
  fin = IfSome-map fin_at (λ pos has. Has-more g.fins has) h.fin;
  mapped = h.mapped;
})

-- what it acknowledges
peer_acks : (next window : ℕ) (asked : Bool) (edge : ℕ) (p q : Lane) → SenderGoes p q → AcksShow next window asked edge p → AcksShow next window asked edge q
peer_acks next window asked edge p q g h = subst (AcksShow next window asked edge) (sym g.is) (record { windows = h.windows; latest = h.latest; due = h.due; sub = h.sub })

-- what the lanes have grown by where the end of one side does something
pub sent_longer : (out out_after back back_after : Lane) → SenderGoes out out_after → ReceiverGoes back back_after → Longer back.acks back_after.acks out out_after
sent_longer out out_after back back_after g r = record {
  alters_is = ap (λ p. p.alters) g.is;
  cells = g.cells;
  sent_are = ap (λ p. p.sent) g.is;
  more_acks = r.acks;
  acks_are = ap (λ p. p.acks) r.is;
  datas = g.datas;
  datas_are = ap (λ p. p.datas) g.is;
  data_fins = g.data_fins;
  data_fins_are = ap (λ p. p.data_fins) g.is;
  fins = g.fins;
  fins_are = ap (λ p. p.fins) g.is;
  pairs = g.pairs;
  pairs_are = ap (λ p. p.pairs) g.is;
}

-- the other direction of the same
pub heard_longer : (out out_after back back_after : Lane) → SenderGoes out out_after → ReceiverGoes back back_after → Longer out.acks out_after.acks back back_after
heard_longer out out_after back back_after g r = record {
  alters_is = ap (λ p. p.alters) r.is;
  cells = [];
  sent_are = ap (λ p. p.sent) r.is ∙ sym (append-nil back.sent);
  more_acks = [];
  acks_are = ap (λ p. p.acks) g.is ∙ sym (append-nil out.acks);
  datas = [];
  datas_are = ap (λ p. p.datas) r.is ∙ sym (append-nil back.datas);
  data_fins = [];
  data_fins_are = ap (λ p. p.data_fins) r.is ∙ sym (append-nil back.data_fins);
  fins = [];
  fins_are = ap (λ p. p.fins) r.is ∙ sym (append-nil back.fins);
  pairs = [];
  pairs_are = ap (λ p. p.pairs) r.is ∙ sym (append-nil back.pairs);
}

-- the infinite mappings that ends go by stay, as their lanes go on
told_more : (pairs more : List Pair) (fins ends : List ℕ) (place position : ℕ) → PairTold pairs fins place position → PairTold (pairs ++ more) (fins ++ ends) place position
told_more pairs more fins ends place position h = ⊎_elim (λ pair. inl (Has-more more pair)) (λ fin. inr (Has-more ends fin)) h

own_more : (pair : Option Pair) (pairs others : List Pair) (fins more : List ℕ) (alters : Bool) (mapping : InfiniteMapping) → OwnIs pair pairs fins alters mapping
    → OwnIs pair (pairs ++ others) (fins ++ more) alters mapping
own_more pair pairs others fins more alters mapping h = record {
  item = h.item;
  there = h.there;
  place_is = h.place_is;
  position_is = ⊎_elim (λ same. inl same) (λ fin. inr (Has-more more fin)) h.position_is;
  told = told_more pairs others fins more mapping.place mapping.position h.told;
  may = h.may;
}

pub sender_pairs : (m : Modes) (own : Option InfiniteMapping) (failed : Option ℕ) (out q back : Lane) (g : SenderGoes out q) → q.pair ≡ out.pair → PairsShow m own failed out back → PairsShow m own failed q back
sender_pairs m own failed out q back g stays h =
    let same : g.pair ≡ out.pair = sym (ap (λ p. p.pair) g.is) ∙ stays in
    subst (λ p. PairsShow m own failed p back) (sym g.is) (
      subst (λ pair. IfSome m.own_infinite (OwnIs pair (out.pairs ++ g.pairs) (out.fins ++ g.fins) out.alters)) (sym same) (IfSome-map m.own_infinite (λ mapping has. own_more out.pair out.pairs g.pairs out.fins g.fins out.alters mapping has) h.0),
      h.1,
      h.2,
      subst (λ pair. IfSome own (OwnIs pair (out.pairs ++ g.pairs) (out.fins ++ g.fins) out.alters)) (sym same) (IfSome-map own (λ mapping has. own_more out.pair out.pairs g.pairs out.fins g.fins out.alters mapping has) h.3),
      h.4,
      h.5,
    )

peer_pairs : (m : Modes) (own : Option InfiniteMapping) (failed : Option ℕ) (out out_after back back_after : Lane) → SenderGoes out out_after → ReceiverGoes back back_after → PairsShow m own failed back out
    → PairsShow m own failed back_after out_after
peer_pairs m own failed out out_after back back_after g r h =
    subst (λ p. PairsShow m own failed p out_after) (sym r.is) (subst (λ q. PairsShow m own failed back q) (sym g.is) (
      h.0,
      IfSome-map m.peer_infinite (λ mapping peer. ⊎_elim (λ there. inl there) (λ fin. inr (Has-more g.fins fin)) peer) h.1,
      h.2,
      h.3,
      h.4,
      h.5,
    ))

-- the end of the other side, whose lanes are these the other way round
pub peer_shows : (c : Profile) (s : Side) (e : PathEnd) (out out_after back back_after : Lane) → SenderGoes out out_after → ReceiverGoes back back_after
    → EndShows c s e back out → EndShows c s e back_after out_after
peer_shows c s e out out_after back back_after g r h =
    let l = sent_longer out out_after back back_after g r in
    record {
      sender = peer_sender c s e.tcp.state e.tcp.send (knowledge_of e) back back_after r h.sender;
      receiver = peer_receiver e.tcp.recv e.tcp.fin_at e.receiving.mappings.live (identity_of e) out out_after g h.receiver;
      acks = peer_acks e.receiving.next e.receiving.window e.treated.asked e.tcp.recv.edge out out_after g h.acks;
      told = none_longer l e.tcp.congestion.told.window h.told;
      treated = treated_longer l e.treated h.treated;
      pairs = peer_pairs e.modes e.treated.infinite_mapping e.treated.failed_mapping out out_after back back_after g r h.pairs;
      held = record {
        each = Every-map (λ kept has. (mapping_longer l kept.place kept.pos (octets_of kept) has.0, has.1, kept_longer l c kept has.2)) h.held.each;
        summed = Every-map (kept_longer l c) h.held.summed;
        none = h.held.none;
      };
    }
