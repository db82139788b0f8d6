-- What the receiver's half of an end does, on the lane: it keeps the octets of a copy, learns a mapping, places bytes, and passes
-- the FIN.
use Rattle.world_laws.proofs.Words.{◌≡◌, refl, sym, ◌∙◌, ap, subst, ℕ, zero, suc, ◌+◌, ◌-◌, ◌≤◌, ◌&&◌, nat_le, inl, inr, ◌⊎◌, ⊎_elim, Bool, true, false}
use Rattle.world_laws.proofs.Words.{if◌then◌else◌, Option, Some, None, List, [], ◌∷◌, ◌++◌, length, take, drop, arith, ◌<◌, ◌*◌, unwrap_or, ◌/◌, eq-eqb}
use Rattle.world_laws.proofs.Words.{and_from, le-leb, length-take, append-nil, slice_get, IfSome, filled, after_keep_held, Receiving, InfiniteMapping, in_drop}
use Rattle.world_laws.proofs.Words.{Lane, place_by, places_pair, ends_pair, keeps, learns, learns_mapping, hears_fin, places, passes, lies_in, ack_copy}
use Rattle.world_laws.proofs.Words.{sub_next, AskPlace, AskFin, Hear, HearFin, Forget, WantPlace, WantPlacePlain, WantPlacePair, WantFinPair, SendAck}
use Rattle.world_laws.proofs.Words.{copy_clashes, mapping_clashes}
use Rattle.reassembly_book.specs.Steps.{by_place, merged}
use Rattle.send_book.proofs.Lists.{slice_get-drop}
use Rattle.stream_lanes.specs.Moves.{clashes, in_order}
use Rattle.stream_lanes.specs.Moves.Move.{Learn}
use Rattle.stream_lanes.specs.Words.{Has}
use Rattle.world_laws.proofs.Lanes.Doing.{has_last, least}
use Rattle.world_laws.proofs.Lanes.Growing.{ReceiverGoes, receiver_stays}
use Rattle.world_laws.proofs.Lanes.Roads.{Strolls, one_move, stays, then_strolls}
use Rattle.world_laws.proofs.Lanes.Showing.{HasData, HasMapping, IsMappingOf, IsHeld, IsAtEdge, Under, HasFin, HasSub, PeerIs}

-- ---- bytes by place

in_merged : (xs ys : List (Option ℕ)) (i x : ℕ) → slice_get (merged xs ys) i ≡ Some (Some x)
    → (slice_get xs i ≡ Some (Some x)) ⊎ (slice_get ys i ≡ Some (Some x))
in_merged [] ys i x e = inr e
in_merged (place ∷ xs) [] i x e = inl e
in_merged (Some byte ∷ xs) (other ∷ ys) zero x e = inl e
in_merged (None ∷ xs) (other ∷ ys) zero x e = inr e
in_merged (Some byte ∷ xs) (other ∷ ys) (suc i) x e = in_merged xs ys i x e
in_merged (None ∷ xs) (other ∷ ys) (suc i) x e = in_merged xs ys i x e

merged_left : (xs ys : List (Option ℕ)) (i x : ℕ) → slice_get xs i ≡ Some (Some x) → slice_get (merged xs ys) i ≡ Some (Some x)
merged_left [] ys i x e = cc
merged_left (y ∷ xs) [] i x e = e
merged_left (Some y ∷ xs) (z ∷ ys) zero x e = e
merged_left (None ∷ xs) (z ∷ ys) zero x e = cc
merged_left (Some y ∷ xs) (z ∷ ys) (suc i) x e = merged_left xs ys i x e
merged_left (None ∷ xs) (z ∷ ys) (suc i) x e = merged_left xs ys i x e

merged_right : (xs ys : List (Option ℕ)) (i x : ℕ) → slice_get ys i ≡ Some (Some x) → (y : ℕ) × (slice_get (merged xs ys) i ≡ Some (Some y))
merged_right [] ys i x e = (x, e)
merged_right (y ∷ xs) [] i x e = cc
merged_right (Some y ∷ xs) (z ∷ ys) zero x e = (y, refl)
merged_right (None ∷ xs) (z ∷ ys) zero x e = (x, e)
merged_right (Some y ∷ xs) (z ∷ ys) (suc i) x e = merged_right xs ys i x e
merged_right (None ∷ xs) (z ∷ ys) (suc i) x e = merged_right xs ys i x e

-- what comes where nothing is kept is kept alike
pub under_merged : (xs ys more : List (Option ℕ)) → Under xs ys → Under ys xs → Under (merged xs more) (merged ys more)
under_merged xs ys more u v = record { each = λ i x e. ⊎_elim (λ old. merged_left ys more i x (u.each i x old)) (λ new. at i x e new (merged_right ys more i x new)) (in_merged xs more i x e) }
  where
    at : (i x : ℕ) → slice_get (merged xs more) i ≡ Some (Some x) → slice_get more i ≡ Some (Some x) → (y : ℕ) × (slice_get (merged ys more) i ≡ Some (Some y)) → slice_get (merged ys more) i ≡ Some (Some x)
    at i x e new there = ⊎_elim
        (λ old.
        let both : Some (Some x) ≡ Some (Some there.0) = sym e ∙ merged_left xs more i there.0 (v.each i there.0 old) in
        there.1 ∙ sym both)
        (λ same. there.1 ∙ sym same ∙ new)
        (in_merged ys more i there.0 there.1)

-- positions that count the SYN
one_further : (edge at : ℕ) (bytes : List ℕ) → drop (suc edge) (by_place (suc at) bytes) ≡ drop edge (by_place at bytes)
one_further zero at [] = refl
one_further (suc edge) at [] = refl
one_further edge at (byte ∷ bytes) = refl

pub under_drop : (n : ℕ) (places kept : List (Option ℕ)) → Under places kept → Under (drop n places) (drop n kept)
under_drop n places kept u = record { each = λ i x e. slice_get-drop n kept i (n + i) refl ∙ u.each (n + i) x (in_drop n places i (n + i) (Some x) refl e) }

nothing_left : (n : ℕ) (xs : List (Option ℕ)) → xs ≡ [] → drop n xs ≡ []
nothing_left = elim [ zero ↦ λ xs none. none | suc n ↦ λ xs none. ap (drop (suc n)) none ]

pub only_drop : (n : ℕ) (places kept : List (Option ℕ)) → Under kept places ⊎ (places ≡ []) → Under (drop n kept) (drop n places) ⊎ (drop n places ≡ [])
only_drop n places kept (inl u) = inl (under_drop n kept places u)
only_drop n places kept (inr none) = inr (nothing_left n places none)

-- what is in order is in order on the lane
pub filled_under : (n : ℕ) (places kept : List (Option ℕ)) → Under places kept → n ≤ length (filled places) → take n (filled places) ≡ take n (filled kept)
filled_under zero places kept u most = refl
filled_under (suc n) [] kept u most = absurd (omega (arith, most))
filled_under (suc n) (None ∷ places) kept u most = absurd (omega (arith, most))
filled_under (suc n) (Some x ∷ places) [] u most = let first : None ≡ Some (Some x) = u.each 0 x refl in cc
filled_under (suc n) (Some x ∷ places) (None ∷ kept) u most = let first : Some None ≡ Some (Some x) = u.each 0 x refl in cc
filled_under (suc n) (Some x ∷ places) (Some y ∷ kept) u most =
    let first : Some (Some y) ≡ Some (Some x) = u.each 0 x refl in
    let same : y ≡ x = cc in
    rw same (ap (λ xs. x ∷ xs) (filled_under n places kept (record { each = λ i b e. u.each (suc i) b e }) (omega (arith, most))))

-- ---- the lane forgets

module _ (p : Lane) (from : ℕ) where
  abbrev pub forgets_lane : Lane
  forgets_lane = record p { kept = take (from - p.edge) p.kept }

  pub forgets : Strolls p forgets_lane
  forgets = one_move (Forget from) p forgets_lane refl refl

  pub forgets_goes : ReceiverGoes p forgets_lane
  forgets_goes = record {
    edge = p.edge;
    kept = forgets_lane.kept;
    maps = p.maps;
    taken = p.taken;
    loose = p.receiver_loose;
    fin_in = p.fin_in;
    due = p.due;
    latest = p.latest;
    asking = p.asking;
    acks = [];
    is = rw (append-nil p.acks) refl;
  }

-- ---- a copy is heard

-- the lane keeps what the end does: nothing, or the octets that were held
pub record KeepsHeld (p : Lane) (recv : Receiving) : Type 0 where
  pub after : Lane
  pub moves : Strolls p after
  pub goes : ReceiverGoes p after
  pub kept : List (Option ℕ)
  pub same : after ≡ record p { kept = kept }
  pub at : IsAtEdge (after_keep_held recv) after

module _ (p : Lane) (recv : Receiving) (position : ℕ) (octets : List ℕ) (count : ℕ) (has : HasData p.datas position octets) where
  abbrev heard_by : List (Option ℕ) → Lane
  heard_by kept = record p { kept = merged kept (drop p.edge (by_place has.item.pos (take count has.item.bytes))) }

  hears_from : (kept : List (Option ℕ)) → Strolls (record p { kept = kept }) (heard_by kept)
  hears_from kept = one_move (Hear has.at count) (record p { kept = kept }) (heard_by kept) refl (sym (ap (λ o. keeps count o (record p { kept = kept })) has.there))

  heard_goes : (kept : List (Option ℕ)) → ReceiverGoes p (heard_by kept)
  heard_goes kept = record {
    edge = p.edge;
    kept = (heard_by kept).kept;
    maps = p.maps;
    taken = p.taken;
    loose = p.receiver_loose;
    fin_in = p.fin_in;
    due = p.due;
    latest = p.latest;
    asking = p.asking;
    acks = [];
    is = rw (append-nil p.acks) refl;
  }

  -- the octets of a copy stand at the end by positions that count the SYN
  same_octets : (edge : ℕ) → edge ≡ suc p.edge → drop edge (by_place position (take count octets)) ≡ drop p.edge (by_place has.item.pos (take count has.item.bytes))
  same_octets edge at =
      ap (λ e. drop e (by_place position (take count octets))) at
      ∙ ap (λ q. drop (suc p.edge) (by_place q (take count octets))) (sym has.holds.position_is)
      ∙ ap (λ bs. drop (suc p.edge) (by_place (suc has.item.pos) (take count bs))) (sym has.holds.octets_are)
      ∙ one_further p.edge has.item.pos (take count has.item.bytes)

  abbrev more : List (Option ℕ)
  more = drop p.edge (by_place has.item.pos (take count has.item.bytes))

  -- after octets that are kept alike, or where the end let all go, and so the lane forgets first
  hears_held : recv.edge ≡ suc p.edge → (places : List (Option ℕ)) → recv.incoming ≡ Some places → places ≡ merged recv.places (drop recv.edge (by_place position (take count octets)))
      → Under recv.places p.kept → Under p.kept recv.places ⊎ (recv.places ≡ []) → KeepsHeld p recv
  hears_held edge_is places in_hand is under (inl only) = record {
    after = heard_by p.kept;
    moves = hears_from p.kept;
    goes = heard_goes p.kept;
    kept = (heard_by p.kept).kept;
    same = refl;
    at = record { edge_is = edge_is; under = at_under; only = inl at_only; held = tt };
  }
    where
      now : unwrap_or recv.incoming recv.places ≡ merged recv.places more
      now = ap (λ o. unwrap_or o recv.places) in_hand ∙ is ∙ ap (merged recv.places) (same_octets recv.edge edge_is)

      at_under : Under (unwrap_or recv.incoming recv.places) (heard_by p.kept).kept
      at_under = subst (λ xs. Under xs (heard_by p.kept).kept) (sym now) (under_merged recv.places p.kept more under only)

      at_only : Under (heard_by p.kept).kept (unwrap_or recv.incoming recv.places)
      at_only = subst (λ xs. Under (heard_by p.kept).kept xs) (sym now) (under_merged p.kept recv.places more only under)
  hears_held edge_is places in_hand is under (inr none) = record {
    after = heard_by (take (p.edge - p.edge) p.kept);
    moves = then_strolls p (forgets_lane p p.edge) (heard_by (take (p.edge - p.edge) p.kept)) (forgets p p.edge) (hears_from (take (p.edge - p.edge) p.kept));
    goes = heard_goes (take (p.edge - p.edge) p.kept);
    kept = (heard_by (take (p.edge - p.edge) p.kept)).kept;
    same = refl;
    at = record { edge_is = edge_is; under = at_under; only = inl at_only; held = tt };
  }
    where
      alike : (xs : List (Option ℕ)) → Under xs xs
      alike xs = record { each = λ i b e. e }

      now : unwrap_or recv.incoming recv.places ≡ more
      now = ap (λ o. unwrap_or o recv.places) in_hand ∙ is ∙ ap (λ xs. merged xs (drop recv.edge (by_place position (take count octets)))) none ∙ same_octets recv.edge edge_is

      forgotten : take (p.edge - p.edge) p.kept ≡ []
      forgotten = let none : p.edge - p.edge ≡ 0 = omega arith in ap (λ n. take n p.kept) none

      kept_is : (heard_by (take (p.edge - p.edge) p.kept)).kept ≡ more
      kept_is = ap (λ xs. merged xs more) forgotten

      at_under : Under (unwrap_or recv.incoming recv.places) (heard_by (take (p.edge - p.edge) p.kept)).kept
      at_under = subst (λ ys. Under (unwrap_or recv.incoming recv.places) ys) (sym kept_is) (subst (λ xs. Under xs more) (sym now) (alike more))

      at_only : Under (heard_by (take (p.edge - p.edge) p.kept)).kept (unwrap_or recv.incoming recv.places)
      at_only = subst (λ ys. Under ys (unwrap_or recv.incoming recv.places)) (sym kept_is) (subst (λ xs. Under more xs) (sym now) (alike more))

pub keeps_held : (p : Lane) (recv : Receiving) → IsAtEdge recv p → KeepsHeld p recv
keeps_held p recv at = by recv.incoming refl at.held
  where
    by : (o : Option (List (Option ℕ))) → recv.incoming ≡ o → IfSome o (IsHeld p.datas recv.edge recv.places) → KeepsHeld p recv
    by None none held = record {
      after = p;
      moves = stays p;
      goes = receiver_stays p;
      kept = p.kept;
      same = refl;
      at = record {
        edge_is = at.edge_is;
        under = subst (λ o. Under (unwrap_or o recv.places) p.kept) (sym none) at.under;
        only = subst (λ o. Under p.kept (unwrap_or o recv.places) ⊎ (unwrap_or o recv.places ≡ [])) (sym none) at.only;
        held = tt;
      };
    }
    by (Some places) some held = hears_held p recv held.position held.octets held.count held.has at.edge_is places some held.is at.under at.only

-- ---- a mapping is learned

module _ (p : Lane) (place position len : ℕ) (has : HasMapping p.datas place position len)
    (agrees : copy_clashes (slice_get p.datas has.at) p ≡ false) where
  abbrev pub learned_lane : Lane
  learned_lane = record p { maps = p.maps ++ has.holds.mapping ∷ [] }

  no_clash : clashes has.holds.mapping p.maps ≡ false
  no_clash = sym (ap (λ o. copy_clashes o p) has.there ∙ ap (λ o. mapping_clashes o p) has.holds.there) ∙ agrees

  pub learns_it : Strolls p learned_lane
  learns_it = one_move (Learn has.at) p learned_lane refl (sym (
      ap (λ o. learns o p) has.there ∙ ap (λ o. learns_mapping o p) has.holds.there
      ∙ ap (λ (b : Bool). if b then p else learned_lane) no_clash))

  pub learned_goes : ReceiverGoes p learned_lane
  learned_goes = record {
    edge = p.edge;
    kept = p.kept;
    maps = learned_lane.maps;
    taken = p.taken;
    loose = p.receiver_loose;
    fin_in = p.fin_in;
    due = p.due;
    latest = p.latest;
    asking = p.asking;
    acks = [];
    is = rw (append-nil p.acks) refl;
  }

  pub learned_there : Has (IsMappingOf place position len) learned_lane.maps
  learned_there = has_last p.maps has.holds.mapping has.holds.is

-- ---- bytes are placed

take_taken : (count : ℕ) (xs : List ℕ) → take (length (take count xs)) xs ≡ take count xs
take_taken zero xs = refl
take_taken (suc count) [] = refl
take_taken (suc count) (x ∷ xs) = ap (λ ys. x ∷ ys) (take_taken count xs)

-- what is in order at the end is in order on the lane
pub same_order : (p : Lane) (places_kept : List (Option ℕ)) (count : ℕ) → Under places_kept p.kept
    → in_order (length (take count (filled places_kept))) p ≡ take count (filled places_kept)
same_order p places_kept count u =
    let l = length-take count (filled places_kept) in
    sym (filled_under (length (take count (filled places_kept))) places_kept p.kept u (omega (arith, l))) ∙ take_taken count (filled places_kept)

module _ (p : Lane) (edge : ℕ) (places_kept : List (Option ℕ)) (count : ℕ) (at : edge ≡ suc p.edge) (u : Under places_kept p.kept)
    (place position len : ℕ) (has : Has (IsMappingOf place position len) p.maps) (pass : passes has.item (in_order (length (take count (filled places_kept))) p) p ≡ true)
    (after : position ≤ edge) (before : edge < position + len) (most : length (take count (filled places_kept)) ≤ position + len - edge) where
  abbrev pub octets : List ℕ
  octets = take count (filled places_kept)

  lies : lies_in has.item octets p ≡ true
  lies =
      let q = has.holds.position_is in let l = has.holds.len_is in
      and_from (nat_le has.item.pos p.edge) (nat_le (p.edge + length octets) (has.item.pos + has.item.len))
      (le-leb has.item.pos p.edge (omega (arith, at, q, after)))
      (le-leb (p.edge + length octets) (has.item.pos + has.item.len) (omega (arith, at, q, l, most, before)))

  same_place : has.item.place + (p.edge - has.item.pos) ≡ place + (edge - position)
  same_place = let q = has.holds.position_is in let r = has.holds.place_is in omega (arith, at, q, r, after)

  pub wants_place : Strolls p (record p { asking = AskPlace (place + (edge - position)) octets })
  wants_place = one_move (WantPlace has.at (length octets)) p _ refl (sym (
      ap (λ o. places (length octets) o p) has.there
      ∙ ap (λ (b : Bool). if lies_in has.item (in_order (length octets) p) p && b then record p { asking = AskPlace (has.item.place + (p.edge - has.item.pos)) (in_order (length octets) p) } else p) pass
      ∙ ap (λ bs. if lies_in has.item bs p && true then record p { asking = AskPlace (has.item.place + (p.edge - has.item.pos)) bs } else p) (same_order p places_kept count u)
      ∙ ap (λ (b : Bool). if b && true then record p { asking = AskPlace (has.item.place + (p.edge - has.item.pos)) octets } else p) lies
      ∙ ap (λ q. record p { asking = AskPlace q octets }) same_place))

-- in plain TCP bytes have their positions as places
pub wants_plain : (p : Lane) (edge : ℕ) (places_kept : List (Option ℕ)) (count : ℕ) → edge ≡ suc p.edge → Under places_kept p.kept → p.receiver_plain ≡ true
    → Strolls p (record p { asking = AskPlace (edge - 1) (take count (filled places_kept)) })
wants_plain p edge places_kept count at u plain =
    let octets : List ℕ = take count (filled places_kept) in
    let l = length-take count (filled places_kept) in
    let some_are : length octets ≤ length (filled places_kept) = omega (arith, l) in
    let same_order : in_order (length octets) p ≡ octets = sym (filled_under (length octets) places_kept p.kept u some_are) ∙ take_taken count (filled places_kept) in
    let same_edge : p.edge ≡ edge - 1 = omega (arith, at) in
    one_move (WantPlacePlain (length octets)) p _ refl (sym (
    ap (λ (b : Bool). if b then record p { asking = AskPlace p.edge (in_order (length octets) p) } else p) plain
    ∙ ap (λ bs. record p { asking = AskPlace p.edge bs }) same_order
    ∙ ap (λ n. record p { asking = AskPlace n octets }) same_edge))

-- by an infinite mapping bytes have the places that rise with their positions
pub wants_pair : (p : Lane) (edge : ℕ) (places_kept : List (Option ℕ)) (count : ℕ) (mapping : InfiniteMapping) → edge ≡ suc p.edge → Under places_kept p.kept → p.receiver_loose ≡ true
    → PeerIs p.taken mapping → mapping.position ≤ edge
    → Strolls p (record p { asking = AskPlace (mapping.place + (edge - mapping.position)) (take count (filled places_kept)) })
wants_pair p edge places_kept count mapping at u loose peer from =
    let octets : List ℕ = take count (filled places_kept) in
    let position_is = peer.is.position_is in let place_is = peer.is.place_is in
    let begins : nat_le peer.item.pos p.edge ≡ true = le-leb peer.item.pos p.edge (omega (arith, position_is, at, from)) in
    let same_place : place_by peer.item p.edge ≡ mapping.place + (edge - mapping.position) = omega (arith, position_is, place_is, at, from) in
    one_move (WantPlacePair (length octets)) p _ refl (sym (
    ap (λ o. places_pair (length octets) o p) peer.there
    ∙ ap (λ (b : Bool). if b && nat_le peer.item.pos p.edge then record p { asking = AskPlace (place_by peer.item p.edge) (in_order (length octets) p) } else p) loose
    ∙ ap (λ (b : Bool). if b then record p { asking = AskPlace (place_by peer.item p.edge) (in_order (length octets) p) } else p) begins
    ∙ ap (λ bs. record p { asking = AskPlace (place_by peer.item p.edge) bs }) (same_order p places_kept count u)
    ∙ ap (λ n. record p { asking = AskPlace n octets }) same_place))

-- and the FIN that has come is the end, where it stands
pub wants_pair_fin : (p : Lane) (mapping : InfiniteMapping) (position : ℕ) → position ≡ suc p.edge → p.receiver_loose ≡ true → p.fin_in ≡ true → PeerIs p.taken mapping → mapping.position ≤ position
    → Strolls p (record p { asking = AskFin (mapping.place + (position - mapping.position)) })
wants_pair_fin p mapping position at loose came peer from =
    let position_is = peer.is.position_is in let place_is = peer.is.place_is in
    let begins : nat_le peer.item.pos p.edge ≡ true = le-leb peer.item.pos p.edge (omega (arith, position_is, at, from)) in
    let same_place : place_by peer.item p.edge ≡ mapping.place + (position - mapping.position) = omega (arith, position_is, place_is, at, from) in
    one_move WantFinPair p _ refl (sym (
    ap (λ o. ends_pair o p) peer.there
    ∙ ap (λ (b : Bool). if b && (p.fin_in && nat_le peer.item.pos p.edge) then record p { asking = AskFin (place_by peer.item p.edge) } else p) loose
    ∙ ap (λ (b : Bool). if b && nat_le peer.item.pos p.edge then record p { asking = AskFin (place_by peer.item p.edge) } else p) came
    ∙ ap (λ (b : Bool). if b then record p { asking = AskFin (place_by peer.item p.edge) } else p) begins
    ∙ ap (λ n. record p { asking = AskFin n }) same_place))

-- ---- the FIN is passed

-- the FIN has come in order
module _ (p : Lane) (position : ℕ) (has : HasFin p.fins position) (at : position ≡ suc p.edge) where
  abbrev pub finished_lane : Lane
  finished_lane = record p { fin_in = true }

  pub hears_the_fin : Strolls p finished_lane
  hears_the_fin =
      let there = has.holds in
      one_move (HearFin has.at) p finished_lane refl (sym (
      ap (λ o. hears_fin o p) has.there
      ∙ ap (λ (b : Bool). if b then finished_lane else p) (eq-eqb has.item p.edge (omega (arith, at, there)))))

-- the position behind it is acknowledged, by what was told last
module _ (p : Lane) (next window sub : ℕ) (latest : p.latest ≡ record { next = next; window = window }) (due : p.due ≡ false) (most : sub ≤ sub_next p) where
  abbrev pub acked_lane : Lane
  acked_lane = record p { acks = p.acks ++ ack_copy next (32 * (window / 32)) sub p ∷ [] }

  pub acks_it : Strolls p acked_lane
  acks_it = one_move (SendAck next (32 * (window / 32)) sub) p acked_lane refl (sym (ap (λ (b : Bool). if b then p else acked_lane) due))

  pub acked_sub : HasSub acked_lane.acks sub (32 * (window / 32))
  acked_sub =
      let told : p.latest.window ≡ window = ap (λ t. t.window) latest in
      has_last p.acks _ (record { sub_is = least sub (sub_next p) most; window_is = least (32 * (window / 32)) p.latest.window (omega (arith, told)) })
