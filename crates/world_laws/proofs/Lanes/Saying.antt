-- Each segment that an end sends shows what its lanes have, and so does each copy of it.
--
-- What an end has to do with its lanes is a product of statements on single fields, an `abbrev` over both lanes
-- (`PairsShow` of `world_laws`): then it holds, without a word, wherever other fields of the end or of a lane change. A
-- record with the lanes as parameters is built anew each time.
use Rattle.world_laws.proofs.Words.{◌≡◌, refl, sym, ◌∙◌, ap, subst, ℕ, zero, suc, ◌-◌, ◌&&◌, ◌==◌, not, inl, inr, Bool, true, false, cond, if◌then◌else◌}
use Rattle.world_laws.proofs.Words.{Option, Some, None, List, [], ◌∷◌, unwrap_or, eqb-true, and_parts, both_ways, false≢true, not-true, same_Some, slice_get}
use Rattle.world_laws.proofs.Words.{IfSome, Side, A, B, Sender, Record, RecordKind, Syn, Data, Fin, is_fin, is_opening, fin_position, is_syn, record_segment}
use Rattle.world_laws.proofs.Words.{Outgoing, with_flights, comes_before, with_flight, Flight, PlainSegment, Capable, Dss, window_told, Infinite}
use Rattle.world_laws.proofs.Words.{InfiniteMapping, OwnNotice, PathEnd, is_joined, join_options, third_options, checksum_heard, receives_infinite}
use Rattle.world_laws.proofs.Words.{place_numbered, checksum_told, owes_mapping, plain_options, data_fin_mapping, piece_mapping, is_first_piece}
use Rattle.world_laws.proofs.Words.{first_piece_options, piece_options, fin_options, fail_options, fail_beside, infinite_options, infinite_or, capable_options}
use Rattle.world_laws.proofs.Words.{syn_options, key_options, opening_options, ack_options, record_options, reset_options, segment_of, ack_said, carried_said}
use Rattle.world_laws.proofs.Words.{record_said, syn_ack_said, fin_said, reset_said, broken_options, noted_said, notice_option, Profile, is_side_a, Every-push}
use Rattle.world_laws.proofs.Words.{Every-nil, Every-append, Every, AckCopy, Lane, if_so, Carried, carried_by, stripped, altered, values, PathState, handed, next_number, is_stripped, is_altered, changed, peer, arrivals, length}
use Rattle.link_model.specs.Steps.{fate_at, first_arrival}
use Rattle.path_core.specs.Octets.{made}
use Rattle.world_laws.proofs.Lanes.Records.{every_cons}
use Rattle.world_laws.proofs.Lanes.Showing.{PairTold, HasSub, HasNone, HasMapping, HasNumber, HasFin, KindShows, RecordShows, WindowShows, OptionShows, SegmentShows, IsSummed}

window_at : (next window : ℕ) (acks : List AckCopy) → WindowShows next window acks → (syn : Bool) → HasNone acks (window_told syn window)
window_at next window acks h true = h.syn
window_at next window acks h false = h.alone

pub every_one : {X : Type 0} {P : X → Type 0} (x : X) → P x → Every P (x ∷ [])
every_one {X} {P} x h = Every-push {xs = []} x (Every-nil P) h

every_two : {X : Type 0} {P : X → Type 0} (x y : X) → P x → P y → Every P (x ∷ y ∷ [])
every_two {X} {P} x y h g = Every-push {xs = x ∷ []} y (every_one x h) g

-- The infinite mapping by which an end sends was told on its lane, and MP_FAIL is told only where links may alter payload.
pub record TellsFalls (e : PathEnd) (p : Lane) : Type 0 where
  pub own : IfSome e.modes.own_infinite (λ m. PairTold p.pairs p.fins m.place m.position)
  pub failing : IfSome e.modes.failed_mapping (λ _. p.alters ≡ true)
  pub broken : IfSome e.treated.failed_mapping (λ _. p.alters ≡ true)

-- in plain TCP that of a position was
abbrev pub TellsPlain : PathEnd → Lane → ℕ → Type 0
TellsPlain e p position = e.modes.identity ≡ true → PairTold p.pairs p.fins (position - 1) position

-- in plain TCP the pair of a record was told, unless it is the SYN
abbrev pub RecordTold : PathEnd → Lane → Record → Type 0
RecordTold e p r = is_syn r.kind ≡ false → TellsPlain e p r.pos

module _ (c : Profile) (s : Side) (e : PathEnd) (acks : List AckCopy) (p : Lane) (w : WindowShows e.receiving.next e.receiving.window acks) (f : TellsFalls e p) where
  -- ---- options

  keys_say : (window : ℕ) (s : Side) (peer : Option ℕ) → Every (OptionShows c s window acks p) (key_options c s peer e)
  keys_say window A (Some peer) = every_one _ tt
  keys_say window A None = Every-nil _
  keys_say window B peer = Every-nil _

  joins_say : (window : ℕ) (s : Side) → Every (OptionShows c s window acks p) (join_options c s e.modes)
  joins_say window A = every_one _ tt
  joins_say window B = every_one _ tt

  opening_say : (window : ℕ) (owes : Bool) → Every (OptionShows c s window acks p) (if owes then third_options e.modes else key_options c s e.modes.peer_key e)
  opening_say window true = every_one _ tt
  opening_say window false = keys_say window s e.modes.peer_key

  end_says : (fin : Option ℕ) → IfSome fin (HasNumber p.data_fins) → OptionShows c s (window_told false e.receiving.window) acks p (Dss (Some e.receiving.next) (data_fin_mapping c s fin))
  end_says = elim [ None ↦ λ h. (w.ack, tt) | Some place ↦ λ h. (w.ack, h) ]

  -- MP_FAIL
  fails_say : (window : ℕ) (o : Option ℕ) → IfSome o (λ _. p.alters ≡ true) → Every (OptionShows c s window acks p) (fail_options o)
  fails_say window None h = Every-nil _
  fails_say window (Some place) h = every_one _ h

  beside_says : (window : ℕ) (fin : Option ℕ) → Every (OptionShows c s window acks p) (fail_beside fin e.modes)
  beside_says window (Some fin) = Every-nil _
  beside_says window None =
      if_so (λ z. Every (OptionShows c s window acks p) (fail_options z)) (receives_infinite e.modes.mode) None e.modes.failed_mapping
      (Every-nil _) (fails_say window e.modes.failed_mapping f.failing)

  ack_options_say : (fin : Option ℕ) → IfSome fin (HasNumber p.data_fins) → Every (OptionShows c s (window_told false e.receiving.window) acks p) (ack_options c s fin e)
  ack_options_say fin h = by e.modes.identity e.modes.clear
    where
      by : (plain clear : Bool) → Every (OptionShows c s (window_told false e.receiving.window) acks p)
          (if plain then [] else (if clear then Dss (Some e.receiving.next) (data_fin_mapping c s fin) ∷ fail_beside fin e.modes else opening_options c s e))
      by true clear = Every-nil _
      by false true = every_cons _ _ (end_says fin h) (beside_says _ fin)
      by false false = opening_say _ e.modes.owes_third

  -- infinite mappings
  plain_options_say : (window position : ℕ) → PairTold p.pairs p.fins (position - 1) position → Every (OptionShows c s window acks p) (plain_options position e)
  plain_options_say window position told =
      if_so (Every (OptionShows c s window acks p)) (owes_mapping e) (Dss None (Some (Infinite (position - 1) position)) ∷ []) []
      (every_one _ (tt, told)) (Every-nil _)

  own_options_say : (m : InfiniteMapping) → PairTold p.pairs p.fins m.place m.position → Every (OptionShows c s (window_told false e.receiving.window) acks p) (infinite_options m e)
  own_options_say m told =
      if_so (λ z. Every (OptionShows c s (window_told false e.receiving.window) acks p) (Dss (Some e.receiving.next) z ∷ [])) (owes_mapping e) (Some (Infinite m.place m.position)) None
      (every_one _ (w.ack, told)) (every_one _ (w.ack, tt))

  fin_options_say : (position : ℕ) → TellsPlain e p position → Every (OptionShows c s (window_told false e.receiving.window) acks p) (fin_options position e)
  fin_options_say position plain = by e.modes.identity refl e.modes.own_infinite f.own
    where
      by : (b : Bool) → e.modes.identity ≡ b → (o : Option InfiniteMapping) → IfSome o (λ m. PairTold p.pairs p.fins m.place m.position)
          → Every (OptionShows c s (window_told false e.receiving.window) acks p) (if b then plain_options position e else infinite_or o (Dss (Some e.receiving.next) None ∷ []) e)
      by true is o own = plain_options_say _ position (plain is)
      by false is None own = every_one _ (w.ack, tt)
      by false is (Some m) own = own_options_say m own

  capable_say : (window : ℕ) (s : Side) → Every (OptionShows c s window acks p) (capable_options c s e)
  capable_say window A = every_one _ tt
  capable_say window B =
      if_so (Every (OptionShows c B window acks p)) (e.modes.capable_asked && not e.modes.identity) (Capable c.spelling.checksums false (Sender e.modes.own_key) ∷ []) []
      (every_one _ tt) (Every-nil _)

  syn_options_say : (window : ℕ) (s : Side) → Every (OptionShows c s window acks p) (syn_options c s e)
  syn_options_say window s =
      if_so (Every (OptionShows c s window acks p)) (is_joined c) (join_options c s e.modes) (capable_options c s e)
      (joins_say window s) (capable_say window s)

  reset_options_say : (window : ℕ) (reason : Option ℕ) → Every (OptionShows c s window acks p) (reset_options reason)
  reset_options_say window None = Every-nil _
  reset_options_say window (Some reason) = every_one _ tt

  broken_say : (window : ℕ) (reason : Option ℕ) → Every (OptionShows c s window acks p) (broken_options e.treated.failed_mapping reason)
  broken_say window None = Every-nil _
  broken_say window (Some reason) = Every-append (fails_say window e.treated.failed_mapping f.broken) (reset_options_say window (Some reason))

  unless_plain_say : (window : ℕ) (reason : Option ℕ) (plain : Bool) → Every (OptionShows c s window acks p) (if plain then [] else broken_options e.treated.failed_mapping reason)
  unless_plain_say window reason true = Every-nil _
  unless_plain_say window reason false = broken_say window reason

  -- ---- segments without octets

  pub syn_ack_says : SegmentShows c s acks p (syn_ack_said c s e)
  syn_ack_says = record {
    window = w.syn;
    sub = λ syn. absurd (false≢true (sym syn));
    options = syn_options_say _ s;
    payload = inl refl;
    turned = λ may. inl refl;
    fin = λ is. absurd (false≢true is);
    plain = λ syn. refl;
  }

  pub reset_says : (reason : Option ℕ) → SegmentShows c s acks p (reset_said c reason e)
  reset_says reason = record {
    window = w.alone;
    sub = λ syn rst. tt;
    options = unless_plain_say _ reason e.modes.identity;
    payload = inl refl;
    turned = λ may. inl refl;
    fin = λ is. absurd (false≢true is);
    plain = λ syn. refl;
  }

  -- a dead end's answer, and a refusal
  pub outgoing_says : (o : Outgoing) (reason : Option ℕ) → o.fin ≡ false → o.rst ≡ true → SegmentShows c s acks p (segment_of c o (reset_options reason) [] e)
  outgoing_says o reason none resets = record {
    window = window_at _ _ _ w o.syn;
    sub = λ syn rst. absurd (both_ways o.rst rst resets);
    options = reset_options_say _ reason;
    payload = inl refl;
    turned = λ may. inl refl;
    fin = λ is. absurd (both_ways o.fin none is);
    plain = λ syn. none;
  }

  -- where the receive edge is acknowledged
  module _ (now : HasSub acks (e.tcp.recv.edge - 1) (window_told false e.receiving.window)) where
    -- the acknowledgement at any position, perhaps with the DATA_FIN
    pub ack_says : (position : ℕ) (fin : Option ℕ) → IfSome fin (HasNumber p.data_fins) → SegmentShows c s acks p (ack_said c s position fin e)
    ack_says position fin h = record {
      window = w.alone;
      sub = λ syn rst. now;
      options = ack_options_say fin h;
      payload = inl refl;
      turned = λ may. inl refl;
      fin = λ is. absurd (false≢true is);
      plain = λ syn. refl;
    }

    -- a DSS and MP_FASTCLOSE behind it
    pub carried_says : (o : Option ℕ) → SegmentShows c s acks p (carried_said c s o e)
    carried_says None = ack_says e.tcp.send.nxt None tt
    carried_says (Some key) = record {
      window = w.alone;
      sub = λ syn rst. now;
      options = every_two _ _ (w.ack, tt) tt;
      payload = inl refl;
      turned = λ may. inl refl;
      fin = λ is. absurd (false≢true is);
      plain = λ syn. refl;
    }

    -- a DSS and a notice behind it
    pub noted_says : (o : Option OwnNotice) → SegmentShows c s acks p (noted_said c s o e)
    noted_says None = ack_says e.tcp.send.nxt None tt
    noted_says (Some notice) = record {
      window = w.alone;
      sub = λ syn rst. now;
      options = every_two _ _ (w.ack, tt) (shows _ notice);
      payload = inl refl;
      turned = λ may. inl refl;
      fin = λ is. absurd (false≢true is);
      plain = λ syn. refl;
    }
      where
        shows : (window : ℕ) (notice : OwnNotice) → OptionShows c s window acks p (notice_option notice e.modes)
        shows window (OwnNotice.AddAddr id) = tt
        shows window _ = tt

    pub fin_says : TellsPlain e p (fin_position e.tcp.send) → HasFin p.fins (fin_position e.tcp.send) → SegmentShows c s acks p (fin_said c e)
    fin_says plain h = record {
      window = w.alone;
      sub = λ syn rst. now;
      options = fin_options_say (fin_position e.tcp.send) plain;
      payload = inl refl;
      turned = λ may. inl refl;
      fin = λ is. (refl, h);
      plain = λ syn. absurd (false≢true syn);
    }

    -- ---- records

    acknowledges : (opening : Bool) → IfSome (if opening then None else Some e.tcp.recv.edge) (λ n. HasSub acks (n - 1) (window_told false e.receiving.window))
    acknowledges = elim [ true ↦ tt | false ↦ now ]

    -- where A may send no DSS yet, its mapping from the first position begins at the first place
    module _ (first : is_side_a s ≡ true → e.modes.clear ≡ false → (place len : ℕ) → HasMapping p.datas place 1 len → place ≡ 0) where
      abbrev Mapped : Record → Type 0
      Mapped r = HasMapping p.datas (place_numbered c s r.mapping.number) r.pos r.mapping.length

      abbrev Summed : Record → Type 0
      Summed r = IsSummed c s p.sent (place_numbered c s r.mapping.number) r.pos r.mapping.length r.mapping.checksum

      -- the checksum that is told is that of the summed octets
      told_summed : (r : Record) → Summed r → IsSummed c s p.sent (place_numbered c s r.mapping.number) r.pos r.mapping.length (checksum_heard (checksum_told c r.mapping.checksum))
      told_summed r h = record { within = h.within; right = λ uses. ap (λ (b : Bool). unwrap_or (if b then Some r.mapping.checksum else None) 0) uses ∙ h.right uses }

      first_says : (peer : Option ℕ) (r : Record) → is_side_a s ≡ true → e.modes.clear ≡ false → r.pos ≡ 1 → Mapped r → Summed r
          → Every (OptionShows c s (window_told false e.receiving.window) acks p) (first_piece_options c peer r e)
      first_says None r own unclear at h u = Every-nil _
      first_says (Some peer) r own unclear at h u =
          let there : HasMapping p.datas (place_numbered c s r.mapping.number) 1 r.mapping.length =
          subst (λ position. HasMapping p.datas (place_numbered c s r.mapping.number) position r.mapping.length) at h in
          let none : place_numbered c s r.mapping.number ≡ 0 = first own unclear _ r.mapping.length there in
          every_one _ (
            subst (λ place. HasMapping p.datas place 1 r.mapping.length) none there,
            subst (λ place. IsSummed c s p.sent place 1 r.mapping.length (checksum_heard (checksum_told c r.mapping.checksum))) none
                (subst (λ position. IsSummed c s p.sent (place_numbered c s r.mapping.number) position r.mapping.length (checksum_heard (checksum_told c r.mapping.checksum))) at (told_summed r u)),
          )

      piece_options_say : (r : Record) → TellsPlain e p r.pos → Mapped r → Summed r → Every (OptionShows c s (window_told false e.receiving.window) acks p) (piece_options c s r e)
      piece_options_say r plain h u = by e.modes.identity refl e.modes.own_infinite f.own (is_first_piece s r e) refl
        where
          by : (fell : Bool) → e.modes.identity ≡ fell → (o : Option InfiniteMapping) → IfSome o (λ m. PairTold p.pairs p.fins m.place m.position) → (b : Bool) → is_first_piece s r e ≡ b
              → Every (OptionShows c s (window_told false e.receiving.window) acks p)
              (if fell then plain_options r.pos e
              else infinite_or o (if b then first_piece_options c e.modes.peer_key r e else Dss (Some e.receiving.next) (Some (piece_mapping c s r)) ∷ []) e)
          by true fell o own b is = plain_options_say _ r.pos (plain fell)
          by false above (Some m) own b is = own_options_say m own
          by false above None own true is =
              let parts = and_parts (is_side_a s) (not e.modes.clear && r.pos == 1) is in
              let at = and_parts (not e.modes.clear) (r.pos == 1) parts.1 in
              first_says e.modes.peer_key r parts.0 (not-true e.modes.clear at.0) (eqb-true r.pos 1 at.1) h u
          by false above None own false is = every_one _ (w.ack, (h, told_summed r u))

      -- the record's segment, if it were of this kind
      abbrev said_as : RecordKind → Record → PlainSegment
      said_as kind r = segment_of c (record (record_segment e.tcp r) { syn = is_syn kind; fin = is_fin kind }) (record_options kind c s r e) r.piece e

      kind_says : (kind : RecordKind) (r : Record) → (is_syn kind ≡ false → TellsPlain e p r.pos) → KindShows c s p.alters p.sent p.datas p.fins kind r → SegmentShows c s acks p (said_as kind r)
      kind_says Syn r plain h = record {
        window = w.syn;
        sub = λ syn. absurd (false≢true (sym syn));
        options = syn_options_say _ s;
        payload = inl h;
        turned = λ may. inl h;
        fin = λ is. absurd (false≢true is);
        plain = λ syn. refl;
      }
      kind_says Data r plain h = record {
        window = w.alone;
        sub = λ syn rst. acknowledges (is_opening e.tcp.state);
        options = piece_options_say r (plain refl) h.mapping h.summed;
        payload = inr h.octets;
        turned = λ may. inr (h.turned may);
        fin = λ is. absurd (false≢true is);
        plain = λ syn. refl;
      }
      kind_says Fin r plain h = record {
        window = w.alone;
        sub = λ syn rst. acknowledges (is_opening e.tcp.state);
        options = fin_options_say r.pos (plain refl);
        payload = inl h.0;
        turned = λ may. inl h.0;
        fin = λ is. (h.0, h.1);
        plain = λ syn. absurd (false≢true syn);
      }

      pub record_says : (r : Record) → RecordTold e p r → RecordShows c s p.alters p.sent p.datas p.fins r → SegmentShows c s acks p (record_said c s r e)
      record_says r plain h = kind_says r.kind r plain h

-- ---- copies

module _ {C : Type 0} (P : Flight C → Type 0) where
  flight_kept : (f : Flight C) (flights : List (Flight C)) → P f → Every P flights → Every P (with_flight f flights)
  flight_kept f [] here h = every_one f here
  flight_kept f (g ∷ flights) here h = (elim (comes_before f g) as (λ b. Every P (with_flight f flights) → Every P (cond b (f ∷ g ∷ flights) (g ∷ with_flight f flights))) [
    | true ↦ λ more. put f (g ∷ flights) here h
    | false ↦ λ more. put g (with_flight f flights) (h.each 0 g refl) more
  ]) (flight_kept f flights here (record { each = λ i x is. h.each (suc i) x is }))
    where
      put : (x : Flight C) (xs : List (Flight C)) → P x → Every P xs → Every P (x ∷ xs)
      put x xs first rest = record { each = λ i y is. at i y is }
        where
          at : (i : ℕ) (y : Flight C) → slice_get (x ∷ xs) i ≡ Some y → P y
          at = elim [ zero ↦ λ y is. subst P (same_Some x y is) first | suc i ↦ λ y is. rest.each i y is ]

  flights_kept : (to : Side) (number : ℕ) (carried : C) → ((tick : ℕ) → P (record { tick = tick; to = to; number = number; carried = carried })) → (ticks : List ℕ) (flights : List (Flight C))
      → Every P flights → Every P (with_flights to number carried ticks flights)
  flights_kept to number carried new [] flights h = h
  flights_kept to number carried new (tick ∷ ticks) flights h =
      flights_kept to number carried new ticks _ (flight_kept (record { tick = tick; to = to; number = number; carried = carried }) flights (new tick) h)

-- the ticks at which copies of a segment that an end hands over arrive
abbrev ticks_handed : Side → PlainSegment → PathState Carried → List ℕ
ticks_handed s sg p =
    let octets = length (made p.profile.spelling s sg) in
    arrivals (fate_at s (next_number s p.link) octets p.clock p.link) (first_arrival s (next_number s p.link) octets p.clock p.link)

-- what holds of the copies under way and of each that a segment makes, holds after the segment was handed over
pub handed_kept : (P : Flight Carried → Type 0) (s : Side) (sg : PlainSegment) (p : PathState Carried)
    → ((tick : ℕ) → P (record {
      tick = tick;
      to = peer s;
      number = next_number s p.link;
      carried = changed stripped altered (is_stripped s (next_number s p.link) p.clock p.link.lines) (is_altered s (next_number s p.link) p.link.lines) (carried_by p.profile.spelling s sg);
    }))
    → Every P p.link.under_way → Every P (handed values s sg p).under_way
handed_kept P A sg p new h = flights_kept P B (next_number A p.link) _ new (ticks_handed A sg p) p.link.under_way h
handed_kept P B sg p new h = flights_kept P A (next_number B p.link) _ new (ticks_handed B sg p) p.link.under_way h
