-- A path is ready for each of its steps: what A sent first on it begins at the first place, and where an end may ask for bytes its
-- lane is open.
use Rattle.world_laws.proofs.Words.{◌≡◌, refl, sym, ◌∙◌, ap, subst, ℕ, zero, suc, ◌+◌, not, Bool, true, false, List, [], length, arith, both_ways, false≢true}
use Rattle.world_laws.proofs.Words.{IfSome, Side, A, B, peer, SixBooks, pick, PathState, end_at, Carried, Every-map, in_map, Holds, IsHonest, IsRight}
use Rattle.world_laws.proofs.Words.{LaneHolds, Cell, Lane, View}
use Rattle.subflow_tcp.specs.States as states
use Rattle.world_laws.proofs.Lanes.Answering.{BeginsFirst, IsReady}
use Rattle.world_laws.proofs.Lanes.OfAWorld.{Others, duo_at, StandsSo, flags_are}
use Rattle.world_laws.proofs.Lanes.Showing.{HasMapping}
use Rattle.world_laws.proofs.Lanes.Strolling.{out_holds, back_holds}

-- as long as no join was answered, a mapping from the first position begins at the first place
first_mapping : (v : View) (path : ℕ) (p : Lane) → v.alone ≡ true → LaneHolds v path p → (place len : ℕ) → HasMapping p.datas place 1 len → place ≡ 0
first_mapping v path p alone h place len has =
    let honest : IsHonest p.alters p.pieces p.sent has.item = h.bytes.honest.each has.at has.item has.there in
    let right : IsRight p.sent has.holds.mapping = subst (λ o. IfSome o (IsRight p.sent)) has.holds.there honest.mapping in
    let some = right.some in
    let cell = in_map (λ (c : Cell). c.place) p.sent (has.holds.mapping.pos + 0) (has.holds.mapping.place + 0) (right.places 0 (omega (arith, some))) in
    let position_is = has.holds.is.position_is in
    let at = (h.alone alone).identity.each (has.holds.mapping.pos + 0) (has.holds.mapping.pos + 0) cell.0 (omega arith) cell.1 in
    let place_is = cell.2 in
    let same = has.holds.is.place_is in
    omega (arith, place_is, at, position_is, same)

-- nothing is mapped where nothing was granted
nothing_mapped : (v : View) (path : ℕ) (p : Lane) → p.sent ≡ [] → LaneHolds v path p → (place len : ℕ) → HasMapping p.datas place 1 len → ⊥
nothing_mapped v path p none h place len has =
    let honest : IsHonest p.alters p.pieces p.sent has.item = h.bytes.honest.each has.at has.item has.there in
    let right : IsRight p.sent has.holds.mapping = subst (λ o. IfSome o (IsRight p.sent)) has.holds.there honest.mapping in
    let some = right.some in let within = right.within in
    let empty : length p.sent ≡ 0 = ap (λ (xs : List Cell). length xs) none in
    omega (arith, some, within, empty)

-- a lane is open where the end may finish
open_at : (number : ℕ) (p : PathState Carried) (ab ba : Lane) → ((n : ℕ) → number ≡ suc n → (s : Side) → states.may_finish (end_at s p).tcp.state ≡ true → (pick s ab ba).opened ≡ true)
    → StandsSo number p ab ba → (s : Side) → states.may_finish (end_at s p).tcp.state ≡ true → (pick s ab ba).opened ≡ true
open_at zero p ab ba joins stands A may = stands.0
open_at zero p ab ba joins stands B may = stands.1
open_at (suc number) p ab ba joins stands s may = joins number refl s may

-- the lanes of path 0 are open always, those of another path where they are said to be
pub opens_where : (number : ℕ) (p : PathState Carried) (ab ba : Lane) → StandsSo number p ab ba → (s : Side) → ((n : ℕ) → number ≡ suc n → (pick s ab ba).opened ≡ true) → (pick s ab ba).opened ≡ true
opens_where zero p ab ba stands A joins = stands.0
opens_where zero p ab ba stands B joins = stands.1
opens_where (suc number) p ab ba stands s joins = joins number refl

-- and where it is in plain TCP
plain_at : (number : ℕ) (p : PathState Carried) (ab ba : Lane) → ((n : ℕ) → number ≡ suc n → (s : Side) → (end_at s p).modes.identity ≡ false) → StandsSo number p ab ba
    → (s : Side) → (end_at s p).modes.identity ≡ true → (pick s ab ba).opened ≡ true
plain_at zero p ab ba above stands A plain = stands.0
plain_at zero p ab ba above stands B plain = stands.1
plain_at (suc number) p ab ba above stands s plain = absurd (both_ways (end_at s p).modes.identity (above number refl s) plain)

-- what A sent first, while it may send no DSS
first_at : (v : View) (number : ℕ) (joined : Bool) (p : PathState Carried) (ab ba : Lane) → v.alone ≡ not joined → LaneHolds v number ab
    → (number ≡ 0 → joined ≡ true → p.a.modes.clear ≡ true) → StandsSo number p ab ba → p.a.modes.clear ≡ false
    → (place len : ℕ) → HasMapping ab.datas place 1 len → place ≡ 0
first_at v zero true p ab ba alone holds clear stands unclear = absurd (both_ways p.a.modes.clear unclear (clear refl refl))
first_at v zero false p ab ba alone holds clear stands unclear = first_mapping v 0 ab alone holds
first_at v (suc number) joined p ab ba alone holds clear stands unclear = λ place len has. absurd (nothing_mapped v (suc number) ab (stands unclear) holds place len has)

pub ready : (six : SixBooks) (others : Others) (p : PathState Carried) (ab ba : Lane) → (others.number ≡ 0 → six.control_b.fall.joined ≡ true → p.a.modes.clear ≡ true)
    → ((n : ℕ) → others.number ≡ suc n → (s : Side) → states.may_finish (end_at s p).tcp.state ≡ true → (pick s ab ba).opened ≡ true)
    → ((n : ℕ) → others.number ≡ suc n → (s : Side) → (end_at s p).modes.identity ≡ false) → (others.links.checked ≡ true → p.profile.spelling.checksums ≡ true) → Holds (duo_at six ab ba others) → StandsSo others.number p ab ba → IsReady p ab ba
ready six others p ab ba clear joins above uses holds stands = record {
  first = first;
  opened = open_at others.number p ab ba joins stands;
  checks = λ s is. uses (sym (flags_are others.links (peer s) six).1 ∙ sym (back_holds six others s ab ba holds).link.checked_is ∙ is);
  plain = plain_at others.number p ab ba above stands;
  fins = λ s. Every-map (λ n fin. fin.last) (out_holds six others s ab ba holds).fins;
}
  where
    first : (s : Side) → BeginsFirst s (end_at s p) (pick s ab ba)
    first A own unclear = first_at _ others.number six.control_b.fall.joined p ab ba refl (out_holds six others A ab ba holds) clear stands unclear
    first B own unclear = absurd (false≢true own)
