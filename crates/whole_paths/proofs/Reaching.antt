-- How far what an end has reaches: only a copy that it takes brings more, and RCV.NXT moves over what came alone.
use Rattle.std.proofs.Common.{◌≡◌, refl, sym, subst, ap, ◌∙◌, ◌⊎◌, inl, inr, ⊎_elim, ℕ, zero, suc, ◌+◌, ◌-◌, ◌^◌, ◌<◌, ◌≤◌, arith, nat_lt, nat_le, ◌&&◌, Bool, true, false, true≢false, if◌then◌else◌, Option, Some, None, List, [], ◌∷◌, length}
use Rattle.std.specs.List.{slice_get}
use Rattle.std.proofs.lemmas.Bool.{and_parts, cases_lt, eqb-true, le-ltb, lt-ltb}
use Rattle.std.proofs.lemmas.Option.{same_Some, slice_get_within}
use Rattle.sides.specs.declared.side.Side.{Side}
use Rattle.subflow_recv.specs.Laws.{first_of, payload_octet}
use Rattle.subflow_recv.specs.Receiving.{Receiving, after_advance, after_forget_from, after_hold, after_keep_held, after_pass, cut, filled, octet_at, place_at, window_end, without_held}
use Rattle.subflow_recv.proofs.ByPosition.{forgotten_octets_are_gone_lem, what_comes_first_is_kept_lem}
use Rattle.subflow_tcp.specs.declared.verdicts.Meaning.TheVariants as means
use Rattle.subflow_tcp.specs.Closing.{after_passing_fin, is_fin_next}
use Rattle.subflow_tcp.specs.Judging.{is_at}
use Rattle.subflow_tcp.specs.State.{EndState, is_behind, is_fin_passed}
use Rattle.subflow_tcp.specs.Taking.{after_death, first_fin}
use Rattle.actor_desk.specs.declared.ask.Reply.{Reply}
use Rattle.path_store.specs.Passing.{Piece, some_piece}
use Rattle.path_store.specs.InfiniteMappings.{covers}
use Rattle.path_core.specs.Arrival.{with_payload}
use Rattle.path_core.specs.Codec.{Codec}
use Rattle.path_core.specs.DataFin.{after_pass_fin}
use Rattle.path_core.specs.Deliver.{after_keep, infinite_piece, is_dropped, mapping_here, next_piece, piece_by, plain_piece}
use Rattle.path_core.specs.End.{PathEnd}
use Rattle.path_core.specs.Profile.{Profile}
use Rattle.path_core.specs.State.{PathState, end_at}
use Rattle.path_core.proofs.Sendings.{infinite_fits, piece_fits}
use Rattle.world_laws.specs.declared.member.Member.TheVariants.{App, Path}
use Rattle.world_laws.specs.Actors.{Actor, ActorCrew, member_next, member_takes}
use Rattle.world_laws.specs.StampedBooks.{answer_to}
use Rattle.world_laws.specs.Worlds.{WorldState, Turn, after_turn}
use Rattle.world_laws.proofs.Falls.FailedChecks.{Forgets, check_failed_so, forgets_so}
use Rattle.whole_paths.specs.AsFar.{stage}
use Rattle.whole_paths.specs.Brought.{Brings}
use Rattle.whole_paths.specs.News.{one_if}
use Rattle.whole_paths.proofs.ByCopies.{IsFit, IsKeptSo, next_goes, takes_goes}
use Rattle.whole_paths.proofs.Staying.{inside, place_drop}
use Rattle.whole_paths.proofs.Turns.{turn_each}

-- ---- octets by position

module _ (n : ℕ) (Ok : ℕ → Type 0) where
  -- RCV.NXT is this position at most, and of the position of each octet that is kept this holds
  pub record IsLowSo (v : Receiving) : Type 0 where
    pub edge : v.edge ≤ n
    pub kept : (pos octet : ℕ) → octet_at pos v ≡ Some octet → Ok pos

  -- so it is of each that is held, unless RCV.NXT is past the peer's FIN, and of that of the FIN
  pub record IsBelowSo (t : EndState) : Type 0 where
    pub recv : IsLowSo t.recv
    pub held : (pos octet : ℕ) → octet_at pos (after_keep_held t.recv) ≡ Some octet → Ok pos ⊎ (is_fin_passed t ≡ true)
    pub fin : (pos : ℕ) → t.fin_at ≡ Some pos → Ok pos

-- an octet of a payload stands in it
pub payload_within : (pos at octet : ℕ) (payload : List ℕ) → payload_octet pos at payload ≡ Some octet → pos < at + length payload
payload_within pos at octet payload is = ⊎_elim
    (λ low. omega (arith, low))
    (λ high. (let within = slice_get_within payload (pos - at) octet (sym (ap (λ b. if b then None else slice_get payload (pos - at)) (le-ltb pos at high)) ∙ is) in omega (arith, high, within)))
    (cases_lt pos at)

pub payload_from : (pos at octet : ℕ) (payload : List ℕ) → payload_octet pos at payload ≡ Some octet → at ≤ pos
payload_from pos at octet payload is = ⊎_elim (λ low. none (nat_lt pos at) (slice_get payload (pos - at)) (lt-ltb pos at low) is) (λ high. high) (cases_lt pos at)
  where
    none : (b : Bool) (o : Option ℕ) → b ≡ true → (if b then None else o) ≡ Some octet → at ≤ pos
    none true o is there = cc
    none false o is there = absurd (true≢false (sym is))

-- the octets in order at RCV.NXT are kept
pub filled_at : (xs : List (Option ℕ)) (i : ℕ) → i < length (filled xs) → (octet : ℕ) × (place_at i xs ≡ Some octet)
filled_at [] i low = absurd (omega (arith, low))
filled_at (None ∷ xs) i low = absurd (omega (arith, low))
filled_at (Some x ∷ xs) zero low = (x, refl)
filled_at (Some x ∷ xs) (suc i) low = filled_at xs i (omega (arith, low))

-- ---- what stays so, where it doesn't hold of the position itself

module _ (n : ℕ) (Ok : ℕ → Type 0) (never : Ok n → ⊥) where
  abbrev AllLow : Receiving → Type 0
  AllLow = IsLowSo n Ok

  abbrev AllBelow : EndState → Type 0
  AllBelow = IsBelowSo n Ok

  forgotten_low : (from : ℕ) (v : Receiving) → AllLow v → AllLow (after_forget_from from v)
  forgotten_low from v h = record { edge = h.edge; kept = kept }
    where
      bound : ℕ
      bound = v.edge + (from - v.edge)

      by : (b : Bool) (pos octet : ℕ) → (if b then octet_at pos v else None) ≡ Some octet → Ok pos
      by true pos octet is = h.kept pos octet is
      by false pos octet is = cc

      kept : (pos octet : ℕ) → octet_at pos (after_forget_from from v) ≡ Some octet → Ok pos
      kept pos octet at = by (nat_lt pos (v.edge + (from - v.edge))) pos octet
          (sym (forgotten_octets_are_gone_lem v (v.edge + (from - v.edge)) pos (omega arith))
          ∙ sym (ap (λ (m : ℕ). octet_at pos (record v { places = cut m v.places; incoming = None })) (let same : from - v.edge ≡ v.edge + (from - v.edge) - v.edge = omega arith in same)) ∙ at)

  advanced_low : (to : ℕ) (v : Receiving) → v.edge ≤ to → to ≤ n → AllLow v → AllLow (after_advance to v)
  advanced_low to v up low h = record { edge = low; kept = kept }
    where
      none_or : (b : Bool) (o : Option ℕ) (octet pos : ℕ) → b ≡ true → (if b then None else o) ≡ Some octet → Ok pos
      none_or true o octet pos is at = cc
      none_or false o octet pos is at = absurd (true≢false (sym is))

      kept : (pos octet : ℕ) → octet_at pos (after_advance to v) ≡ Some octet → Ok pos
      kept pos octet at = ⊎_elim
          (λ below. none_or (nat_lt pos to) (place_at (pos - to) (after_advance to v).places) octet pos (lt-ltb pos to below) at)
          (λ high. h.kept pos octet (inside pos v (omega (arith, up, high)) ∙ sym (place_drop (to - v.edge) (pos - to) (pos - v.edge) v.places (omega (arith, up, high))) ∙ sym (inside pos (after_advance to v) high) ∙ at))
          (cases_lt pos to)

  -- what is held then is kept, or in the payload
  holding_low : (at : ℕ) (payload : List ℕ) (v : Receiving) → ((m : ℕ) → at ≤ m → m < at + length payload → Ok m) → AllLow v → (pos octet : ℕ) → octet_at pos (after_keep_held (after_hold at payload v)) ≡ Some octet → Ok pos
  holding_low at payload v few h pos octet is = by (nat_le v.edge pos && nat_lt pos (window_end v)) pos octet (sym (what_comes_first_is_kept_lem v at payload pos) ∙ is)
    where
      first : (o : Option ℕ) (pos octet : ℕ) → octet_at pos v ≡ o → first_of o (payload_octet pos at payload) ≡ Some octet → Ok pos
      first None pos octet was is = few pos (payload_from pos at octet payload is) (payload_within pos at octet payload is)
      first (Some x) pos octet was is = h.kept pos x was

      by : (b : Bool) (pos octet : ℕ) → (if b then first_of (octet_at pos v) (payload_octet pos at payload) else octet_at pos v) ≡ Some octet → Ok pos
      by true pos octet is = first (octet_at pos v) pos octet refl is
      by false pos octet is = h.kept pos octet is

  passed_low : (v : Receiving) → v.edge < n → AllLow (after_pass v)
  passed_low v low = record { edge = omega (arith, low); kept = none }
    where
      by : (b : Bool) (k octet pos : ℕ) → (if b then None else place_at k []) ≡ Some octet → Ok pos
      by true k octet pos is = cc
      by false k octet pos is = cc

      none : (pos octet : ℕ) → octet_at pos (after_pass v) ≡ Some octet → Ok pos
      none pos octet at = by (nat_lt pos (v.edge + 1)) (pos - (v.edge + 1)) octet pos at

  in_order_low : (m : ℕ) (v : Receiving) → m ≤ length (filled v.places) → AllLow v → v.edge + m ≤ n
  in_order_low zero v few h = let edge = h.edge in omega (arith, edge)
  in_order_low (suc m) v few h =
      let found = filled_at v.places m (omega (arith, few)) in
      let at : v.edge + m - v.edge ≡ m = omega arith in
      let ok = h.kept (v.edge + m) found.0 (inside (v.edge + m) v (omega arith) ∙ ap (λ i. place_at i v.places) at ∙ found.1) in
      let before = in_order_low m v (omega (arith, few)) h in
      ⊎_elim (λ less. omega (arith, less)) (λ most. absurd (never (subst Ok (omega (arith, before, most)) ok))) (cases_lt (v.edge + m) n)

  -- ---- an end

  same_below : (s t : EndState) → t.recv ≡ s.recv → t.fin_at ≡ s.fin_at → AllBelow s → AllBelow t
  same_below s t recv fin h = record {
    recv = subst (AllLow) (sym recv) h.recv;
    held = λ pos octet is. ⊎_elim (λ low. inl low) (λ over. inr (ap (λ o. is_behind o t.recv.edge) fin ∙ ap (λ (v : Receiving). is_behind s.fin_at v.edge) recv ∙ over))
        (h.held pos octet (sym (ap (λ (v : Receiving). octet_at pos (after_keep_held v)) recv) ∙ is));
    fin = λ pos is. h.fin pos (sym fin ∙ is);
  }

  -- where nothing is held
  bare_below : (s : EndState) (v : Receiving) → ((pos : ℕ) → octet_at pos (after_keep_held v) ≡ octet_at pos v) → AllLow v → ((pos : ℕ) → s.fin_at ≡ Some pos → Ok pos) → AllBelow (record s { recv = v })
  bare_below s v none low fin = record { recv = low; held = λ pos octet is. inl (low.kept pos octet (sym (none pos) ∙ is)); fin = fin }

  died_below : (b : Bool) (t : EndState) → AllBelow t → AllBelow (after_death b t)
  died_below b t h =
      let low = forgotten_low t.recv.edge t.recv h.recv in record { recv = low; held = λ pos octet is. inl (low.kept pos octet is); fin = h.fin }

  forgets_below : (t : EndState) (recv : Receiving) → Forgets t.recv recv → AllBelow t → AllBelow (record t { recv = recv })
  forgets_below t recv forgotten h = ⊎_elim
      (λ same. same_below t (record t { recv = recv }) same refl h)
      (λ from. subst (λ v. AllBelow (record t { recv = v })) (sym from.1) (bare_below t (after_forget_from from.0 t.recv) (λ pos. refl) (forgotten_low from.0 t.recv h.recv) h.fin))
      forgotten

  piece_short : (c : Profile) (e : PathEnd) (piece : Piece) → next_piece c e ≡ Some piece → length piece.octets ≤ length (filled e.tcp.recv.places)
  piece_short c e piece is = by e.modes.identity (covers e.modes.peer_infinite e.tcp.recv.edge) is
    where
      plain : (b : Bool) → (if b then Some (plain_piece e.tcp) else None) ≡ Some piece → length piece.octets ≤ length (filled e.tcp.recv.places)
      plain true is = subst (λ (x : Piece). length x.octets ≤ length (filled e.tcp.recv.places)) (same_Some (plain_piece e.tcp) piece is) (omega arith)
      plain false is = cc

      by : (plainly infinite : Bool) → (if plainly then some_piece (plain_piece e.tcp) else (if infinite then infinite_piece e.modes.peer_infinite e.tcp else piece_by c.spelling.checksums (mapping_here e) e.tcp)) ≡ Some piece
          → length piece.octets ≤ length (filled e.tcp.recv.places)
      by true infinite is = plain (nat_lt 0 (length (filled e.tcp.recv.places))) is
      by false true is = (infinite_fits e.modes.peer_infinite e.tcp piece is).within
      by false false is = (piece_fits c.spelling.checksums (mapping_here e) e.tcp piece is).within

  keep_below : (s : Side) (e : PathEnd) → AllBelow e.tcp → AllBelow (after_keep s e).tcp
  keep_below s e h = by (is_dropped s e)
    where
      dropped : AllBelow (record e.tcp { recv = without_held e.tcp.recv })
      dropped = bare_below e.tcp (without_held e.tcp.recv) (λ pos. refl) (record { edge = h.recv.edge; kept = h.recv.kept }) h.fin

      is_kept : is_fin_passed e.tcp ≡ false → AllLow (after_keep_held e.tcp.recv)
      is_kept unpassed = record { edge = h.recv.edge; kept = λ pos octet is. ⊎_elim (λ low. low) (λ over. absurd (true≢false (sym over ∙ unpassed))) (h.held pos octet is) }

      keeping : (over : Bool) → is_fin_passed e.tcp ≡ over → AllBelow (record e.tcp { recv = if over then without_held e.tcp.recv else after_keep_held e.tcp.recv })
      keeping true is = dropped
      keeping false is = bare_below e.tcp (after_keep_held e.tcp.recv) (λ pos. refl) (is_kept is) h.fin

      by : (b : Bool) → AllBelow (if b then record e.tcp { recv = without_held e.tcp.recv } else record e.tcp { recv = if is_fin_passed e.tcp then without_held e.tcp.recv else after_keep_held e.tcp.recv })
      by true = dropped
      by false = keeping (is_fin_passed e.tcp) refl

  fin_below : (e : PathEnd) → AllBelow e.tcp → AllBelow (after_pass_fin e).tcp
  fin_below e h = (elim (is_fin_next e.tcp) as (λ b. is_fin_next e.tcp ≡ b → AllBelow (if b then after_passing_fin e.tcp else e.tcp)) [
    | true ↦ λ is. (let low = passed_low e.tcp.recv (at_next e.tcp.fin_at refl (and_parts (is_at e.tcp.recv.edge e.tcp.fin_at) (nat_lt e.tcp.recv.edge (2 ^ 62)) is).0) in
        record { recv = low; held = λ pos octet at. inl (low.kept pos octet at); fin = h.fin })
    | false ↦ λ is. h
  ]) refl
    where
      at_next : (o : Option ℕ) → e.tcp.fin_at ≡ o → is_at e.tcp.recv.edge o ≡ true → e.tcp.recv.edge < n
      at_next None was is = absurd (true≢false (sym is))
      at_next (Some pos) was is =
          let ok = h.fin pos was in let same = eqb-true pos e.tcp.recv.edge is in let low = h.recv.edge in
          ⊎_elim (λ less. less) (λ most. absurd (never (subst Ok (omega (arith, same, low, most)) ok))) (cases_lt e.tcp.recv.edge n)

  -- ---- a copy

  pub taken_below : (e t : EndState) (pos a : ℕ) (payload : List ℕ) (has_fin : Bool) → t.recv ≡ (with_payload (means.Taken pos a) payload e).recv → t.fin_at ≡ first_fin e.fin_at has_fin (pos + length payload)
      → ((m : ℕ) → pos ≤ m → m < pos + length payload + one_if has_fin → Ok m) → AllBelow e → AllBelow t
  taken_below e t pos a payload has_fin recv_is fin_is few h = record { recv = low; held = held; fin = λ at is. fin e.fin_at refl has_fin few at (sym fin_is ∙ is) }
    where
      low_by : (payload : List ℕ) → AllLow (with_payload (means.Taken pos a) payload e).recv
      low_by [] = h.recv
      low_by (octet ∷ octets) = record { edge = h.recv.edge; kept = h.recv.kept }

      low : AllLow t.recv
      low = subst (AllLow) (sym recv_is) (low_by payload)

      edge_by : (payload : List ℕ) → (with_payload (means.Taken pos a) payload e).recv.edge ≡ e.recv.edge
      edge_by [] = refl
      edge_by (octet ∷ octets) = refl

      -- a FIN that was passed is
      still_over : (o : Option ℕ) (edge : ℕ) → is_behind o edge ≡ true → is_behind (first_fin o has_fin (pos + length payload)) edge ≡ true
      still_over None edge is = absurd (true≢false (sym is))
      still_over (Some p) edge is = is

      over : is_fin_passed e ≡ true → is_fin_passed t ≡ true
      over is = ap (λ o. is_behind o t.recv.edge) fin_is
          ∙ ap (λ (v : Receiving). is_behind (first_fin e.fin_at has_fin (pos + length payload)) v.edge) recv_is
          ∙ ap (λ edge. is_behind (first_fin e.fin_at has_fin (pos + length payload)) edge) (edge_by payload)
          ∙ still_over e.fin_at e.recv.edge is

      held_by : (os : List ℕ) → payload ≡ os → (at octet : ℕ) → octet_at at (after_keep_held (with_payload (means.Taken pos a) os e).recv) ≡ Some octet → (Ok at) ⊎ (is_fin_passed e ≡ true)
      held_by [] is at octet here = h.held at octet here
      held_by (o ∷ os) is at octet here =
          let len = ap (λ (ys : List ℕ). length ys) is in inl (holding_low pos (o ∷ os) e.recv (λ m from below. few m from (omega (arith, below, len))) h.recv at octet here)

      held : (at octet : ℕ) → octet_at at (after_keep_held t.recv) ≡ Some octet → (Ok at) ⊎ (is_fin_passed t ≡ true)
      held at octet here = ⊎_elim (λ before. inl before) (λ is. inr (over is)) (held_by payload refl at octet (sym (ap (λ (v : Receiving). octet_at at (after_keep_held v)) recv_is) ∙ here))

      fin : (o : Option ℕ) → e.fin_at ≡ o → (b : Bool) → ((m : ℕ) → pos ≤ m → m < pos + length payload + one_if b → Ok m) → (at : ℕ) → first_fin o b (pos + length payload) ≡ Some at → Ok at
      fin (Some p) was b few at is = h.fin at (was ∙ is)
      fin None was true few at is = let same = same_Some (pos + length payload) at is in few at (omega (arith, same)) (omega (arith, same))
      fin None was false few at is = cc

  pub piece_below : (c : Profile) (e : PathEnd) (piece : Piece) → next_piece c e ≡ Some piece → AllBelow e.tcp → AllBelow (record e.tcp { recv = after_advance (e.tcp.recv.edge + length piece.octets) e.tcp.recv })
  piece_below c e piece is h =
      let low = advanced_low (e.tcp.recv.edge + length piece.octets) e.tcp.recv (omega arith) (in_order_low (length piece.octets) e.tcp.recv (piece_short c e piece is) h.recv) h.recv in
      record { recv = low; held = λ pos octet at. inl (low.kept pos octet at); fin = h.fin }

  pub all_kept : IsKeptSo AllBelow (λ c. Unit {0})
  all_kept = record {
    same = same_below;
    dies = died_below;
    keeps = keep_below;
    fin = fin_below;
    checks = λ c may e h. forgets_so (λ f. AllBelow f.tcp) c.spelling.checksums (mapping_here e) e (λ recv forgotten. forgets_below e.tcp recv forgotten h);
    fails = λ c may r e h. check_failed_so (λ f. AllBelow f.tcp) c.spelling.checksums r e (λ told broken recv forgotten. forgets_below e.tcp recv forgotten h);
  }

  module _ (Over : ℕ → ℕ → Bool → Type 0) (decide : (at len : ℕ) (fin : Bool) → ((m : ℕ) → at ≤ m → m < at + len + one_if fin → Ok m) ⊎ Over at len fin) {C : Type 0} (k : Codec C) where
    -- the end takes a copy next that does so
    pub record OvertakesSo (s : Side) (p : PathState C) : Type 0 where
      pub brings : Brings k p
      pub to : brings.copy.due.to ≡ s
      pub over : Over brings.position (length brings.copy.segment.payload) brings.copy.segment.fin

    -- an end that is past the handshake
    fits : (s : Side) (p : PathState C) → 3 ≤ stage (end_at s p).tcp.state → IsFit AllBelow (λ c. Unit {0}) k OvertakesSo s p
    fits s p opened = record {
      may = tt;
      passes = λ piece is h. piece_below p.profile (end_at s p) piece is h;
      takes = λ b to t recv fin h. ⊎_elim
          (λ few. inl (taken_below (end_at b.copy.due.to p).tcp t b.position b.acknowledged b.copy.segment.payload b.copy.segment.fin recv fin few h))
          (λ over. inr (record { brings = b; to = to; over = over }))
          (decide b.position (length b.copy.segment.payload) b.copy.segment.fin);
      opens = λ x to a is. absurd (let early = ap stage is.0 in let past = subst (λ u. 3 ≤ stage (end_at u p).tcp.state) (sym to) opened in omega (arith, past, early));
    }

    abbrev pub BelowSo : Actor C → Actor C → Type 0
    BelowSo (Path p) (Path q) = (s : Side) → AllBelow (end_at s p).tcp → 3 ≤ stage (end_at s p).tcp.state → AllBelow (end_at s q).tcp ⊎ OvertakesSo s p
    BelowSo (App a) (App b) = Unit {0}
    BelowSo _ _ = ⊥

    member_below : (r : Reply) (m : Actor C) → BelowSo m (member_takes k r m)
    member_below r (App a) = tt
    member_below r (Path p) = λ s h opened. takes_goes AllBelow (λ c. Unit {0}) k OvertakesSo all_kept r p s (fits s p opened) h

    member_begins : (m : Actor C) → BelowSo m (member_next m)
    member_begins (App a) = tt
    member_begins (Path p) = λ s h opened. inl (next_goes AllBelow (λ c. Unit {0}) k OvertakesSo all_kept p s tt h)

    member_stays : (m : Actor C) → BelowSo m m
    member_stays (App a) = tt
    member_stays (Path p) = λ s h opened. inl h

    pub ends_stay_so : (w : WorldState C) (turn : Turn) (actor : ℕ) (c : ActorCrew C) → slice_get w.crew actor ≡ Some c
        → (d : ActorCrew C) × (slice_get (after_turn k turn w).crew actor ≡ Some d) × BelowSo c.member d.member
    ends_stay_so w turn = turn_each k (λ c d. BelowSo c.member d.member) (λ c. member_stays c.member) (λ ask books c. member_below (answer_to books ask) c.member)
        (λ stamp c over. member_begins c.member) turn w

-- ---- before a position

abbrev pub IsBelow : ℕ → EndState → Type 0
IsBelow n = IsBelowSo n (λ pos. pos < n)

-- a segment goes past it
abbrev pub GoesPast : ℕ → ℕ → ℕ → Bool → Type 0
GoesPast n at len fin = (0 < len + one_if fin) × (n < at + len + one_if fin)

pub not_before : (n : ℕ) → n < n → ⊥
not_before n less = omega (arith, less)

pub goes_past : (n at len : ℕ) (fin : Bool) → ((m : ℕ) → at ≤ m → m < at + len + one_if fin → m < n) ⊎ GoesPast n at len fin
goes_past n at len fin = ⊎_elim
    (λ some. ⊎_elim (λ past. inr (some, past)) (λ few. inl (λ m from below. omega (arith, below, few))) (cases_lt n (at + len + one_if fin)))
    (λ none. inl (λ m from below. absurd (omega (arith, none, from, below))))
    (cases_lt 0 (len + one_if fin))

module _ {C : Type 0} (k : Codec C) (n : ℕ) where
  abbrev pub Overtakes : Side → PathState C → Type 0
  Overtakes = OvertakesSo n (λ pos. pos < n) (not_before n) (GoesPast n) (goes_past n) k

  abbrev pub BelowTo : Actor C → Actor C → Type 0
  BelowTo = BelowSo n (λ pos. pos < n) (not_before n) (GoesPast n) (goes_past n) k

  pub ends_stay_below : (w : WorldState C) (turn : Turn) (actor : ℕ) (c : ActorCrew C) → slice_get w.crew actor ≡ Some c
      → (d : ActorCrew C) × (slice_get (after_turn k turn w).crew actor ≡ Some d) × BelowTo c.member d.member
  ends_stay_below w turn = ends_stay_so n (λ pos. pos < n) (not_before n) (GoesPast n) (goes_past n) k w turn
