-- What stands at each position, and octets that come from one list.
use Rattle.std.proofs.Common.{◌≡◌, ℕ, zero, suc, ◌+◌, ◌-◌, ◌<◌, ◌≤◌, nat_le, nat_lt, if◌then◌else◌, Option, Some, None, List, [], ◌∷◌, ◌++◌, length, take, drop, map, replicate, refl, sym, ap, ◌∙◌, subst, arith, ⊎_elim}
use Rattle.std.specs.Prelude.{slice_get, ◌&&◌}
use Rattle.std.proofs.lemmas.Bool.{cases_lt}
use Rattle.std.proofs.lemmas.List.{take-map, drop-drop}
use Rattle.byte_pieces.specs.Places.{gap_before}
use Rattle.byte_pieces.proofs.Ordered.{le_true, le_false, lt_true, lt_false}
use Rattle.byte_pieces.proofs.Filling.{drop-by_place}
use Rattle.subflow_recv.specs.Receiving.{Receiving, by_place, merged, filled, cut, window_end, after_accept, after_forget_from, place_at, octet_at}
use Rattle.subflow_recv.specs.Laws.{Event, Comes, Advances, Forgets, after_event, after_events, IsHeldPrefix, after_payloads, payload_octet, first_of}

-- ---- an octet that is kept stays
place_at-merged : (k octet : ℕ) (places others : List (Option ℕ)) → place_at k places ≡ Some octet → place_at k (merged places others) ≡ Some octet
place_at-merged k octet [] others e = cc
place_at-merged k octet (place ∷ places) [] e = e
place_at-merged zero octet (Some b ∷ places) (other ∷ others) e = e
place_at-merged zero octet (None ∷ places) (other ∷ others) e = cc
place_at-merged (suc k) octet (Some b ∷ places) (other ∷ others) e = place_at-merged k octet places others e
place_at-merged (suc k) octet (None ∷ places) (other ∷ others) e = place_at-merged k octet places others e

stays-accept : (at : ℕ) (payload : List ℕ) (v : Receiving) (pos octet : ℕ) → octet_at pos v ≡ Some octet → octet_at pos (after_accept at payload v) ≡ Some octet
stays-accept at payload v pos octet e =
    ⊎_elim
    (λ (low : pos < v.edge). let f = rw (lt_true pos v.edge low) at e in cc)
    (λ (in_place : v.edge ≤ pos). let f = rw (lt_false pos v.edge in_place) at e in
    rw (lt_false pos v.edge in_place) (place_at-merged (pos - v.edge) octet v.places (drop v.edge (by_place at (take (window_end v - at) payload))) f))
    (cases_lt pos v.edge)

pub kept_octets_stay_lem : (payloads : List (ℕ × List ℕ)) (v : Receiving) (pos octet : ℕ) → octet_at pos v ≡ Some octet → octet_at pos (after_payloads payloads v) ≡ Some octet
kept_octets_stay_lem [] v pos octet e = e
kept_octets_stay_lem (p ∷ ps) v pos octet e = kept_octets_stay_lem ps (after_accept p.0 p.1 v) pos octet (stays-accept p.0 p.1 v pos octet e)

-- ---- what comes first is kept
merged-at : (k : ℕ) (places others : List (Option ℕ)) → place_at k (merged places others) ≡ first_of (place_at k places) (place_at k others)
merged-at k [] others = refl
merged-at k (place ∷ places) [] = alone (place_at k (place ∷ places))
  where
    alone : (o : Option ℕ) → o ≡ first_of o None
    alone None = refl
    alone (Some octet) = refl
merged-at zero (Some b ∷ places) (other ∷ others) = refl
merged-at zero (None ∷ places) (other ∷ others) = refl
merged-at (suc k) (Some b ∷ places) (other ∷ others) = merged-at k places others
merged-at (suc k) (None ∷ places) (other ∷ others) = merged-at k places others

drop-at : (n k i : ℕ) (places : List (Option ℕ)) → i ≡ n + k → place_at k (drop n places) ≡ place_at i places
drop-at zero k i places e = ap (λ j. place_at j places) (omega arith)
drop-at (suc n) k i [] e = refl
drop-at (suc n) k zero (place ∷ places) e = absurd (omega arith)
drop-at (suc n) k (suc i) (place ∷ places) e = drop-at n k i places (omega arith)

gap-at : (n k : ℕ) (places : List (Option ℕ)) → k < n → place_at k (replicate n None ++ places) ≡ None
gap-at zero k places lt = absurd (omega arith)
gap-at (suc n) zero places lt = refl
gap-at (suc n) (suc k) places lt = gap-at n k places (omega arith)

past_gap-at : (n k i : ℕ) (places : List (Option ℕ)) → k ≡ n + i → place_at k (replicate n None ++ places) ≡ place_at i places
past_gap-at zero k i places e = ap (λ j. place_at j places) (omega arith)
past_gap-at (suc n) zero i places e = absurd (omega arith)
past_gap-at (suc n) (suc k) i places e = past_gap-at n k i places (omega arith)

octets-at : (k : ℕ) (octets : List ℕ) → place_at k (map Some octets) ≡ slice_get octets k
octets-at k [] = refl
octets-at zero (octet ∷ octets) = refl
octets-at (suc k) (octet ∷ octets) = octets-at k octets

before-at : (pos at : ℕ) (octets : List ℕ) → pos < at → place_at pos (by_place at octets) ≡ None
before-at pos at [] lt = refl
before-at pos at (octet ∷ octets) lt = gap-at at pos (map Some (octet ∷ octets)) lt

by_place-at : (pos at : ℕ) (octets : List ℕ) → at ≤ pos → place_at pos (by_place at octets) ≡ slice_get octets (pos - at)
by_place-at pos at [] le = refl
by_place-at pos at (octet ∷ octets) le =
    past_gap-at at pos (pos - at) (map Some (octet ∷ octets)) (omega arith) ∙ octets-at (pos - at) (octet ∷ octets)

taken-at : (n k : ℕ) (octets : List ℕ) → k < n → slice_get (take n octets) k ≡ slice_get octets k
taken-at zero k octets lt = absurd (omega arith)
taken-at (suc n) k [] lt = refl
taken-at (suc n) zero (octet ∷ octets) lt = refl
taken-at (suc n) (suc k) (octet ∷ octets) lt = taken-at n k octets (omega arith)

not_taken-at : (n k : ℕ) (octets : List ℕ) → n ≤ k → slice_get (take n octets) k ≡ None
not_taken-at zero k octets le = refl
not_taken-at (suc n) k [] le = refl
not_taken-at (suc n) zero (octet ∷ octets) le = absurd (omega arith)
not_taken-at (suc n) (suc k) (octet ∷ octets) le = not_taken-at n k octets (omega arith)

first_of-none : (o : Option ℕ) → first_of o None ≡ o
first_of-none None = refl
first_of-none (Some octet) = refl

-- from the edge on
accepted-at : (v : Receiving) (at : ℕ) (payload : List ℕ) (pos : ℕ) → v.edge ≤ pos
    → place_at (pos - v.edge) (after_accept at payload v).places
    ≡ first_of (place_at (pos - v.edge) v.places) (place_at pos (by_place at (take (window_end v - at) payload)))
accepted-at v at payload pos le =
    merged-at (pos - v.edge) v.places (drop v.edge (by_place at (take (window_end v - at) payload)))
    ∙ ap (first_of (place_at (pos - v.edge) v.places)) (drop-at v.edge (pos - v.edge) pos (by_place at (take (window_end v - at) payload)) (omega arith))

offered-at : (v : Receiving) (at : ℕ) (payload : List ℕ) (pos : ℕ) → pos < window_end v
    → place_at pos (by_place at (take (window_end v - at) payload)) ≡ payload_octet pos at payload
offered-at v at payload pos inside =
    ⊎_elim
    (λ (before : pos < at). rw (lt_true pos at before) (before-at pos at (take (window_end v - at) payload) before))
    (λ (le : at ≤ pos). rw (lt_false pos at le)
    (by_place-at pos at (take (window_end v - at) payload) le ∙ taken-at (window_end v - at) (pos - at) payload (omega arith)))
    (cases_lt pos at)

beyond-at : (v : Receiving) (at : ℕ) (payload : List ℕ) (pos : ℕ) → window_end v ≤ pos
    → place_at pos (by_place at (take (window_end v - at) payload)) ≡ None
beyond-at v at payload pos beyond =
    ⊎_elim
    (λ (before : pos < at). before-at pos at (take (window_end v - at) payload) before)
    (λ (le : at ≤ pos). by_place-at pos at (take (window_end v - at) payload) le ∙ not_taken-at (window_end v - at) (pos - at) payload (omega arith))
    (cases_lt pos at)

pub what_comes_first_is_kept_lem : (v : Receiving) (at : ℕ) (payload : List ℕ) (pos : ℕ)
    → octet_at pos (after_accept at payload v)
    ≡ (if nat_le v.edge pos && nat_lt pos (window_end v) then first_of (octet_at pos v) (payload_octet pos at payload) else octet_at pos v)
what_comes_first_is_kept_lem v at payload pos =
    ⊎_elim
    (λ (low : pos < v.edge). rw (le_false v.edge pos low, lt_true pos v.edge low) refl)
    (λ (le : v.edge ≤ pos). rw (le_true v.edge pos le, lt_false pos v.edge le) (⊎_elim
    (λ (inside : pos < window_end v). rw (lt_true pos (window_end v) inside)
    (accepted-at v at payload pos le ∙ ap (first_of (place_at (pos - v.edge) v.places)) (offered-at v at payload pos inside)))
    (λ (beyond : window_end v ≤ pos). rw (lt_false pos (window_end v) beyond)
    (accepted-at v at payload pos le ∙ ap (first_of (place_at (pos - v.edge) v.places)) (beyond-at v at payload pos beyond) ∙ first_of-none (place_at (pos - v.edge) v.places)))
    (cases_lt pos (window_end v))))
    (cases_lt pos v.edge)

-- ---- what is forgotten
place_at-gap : (k : ℕ) (places : List (Option ℕ)) → place_at (suc k) (gap_before places) ≡ place_at k places
place_at-gap k [] = refl
place_at-gap k (place ∷ places) = refl

first-gap : (places : List (Option ℕ)) → place_at 0 (gap_before places) ≡ None
first-gap [] = refl
first-gap (place ∷ places) = refl

place_at-cut_before : (k n : ℕ) (places : List (Option ℕ)) → k < n → place_at k (cut n places) ≡ place_at k places
place_at-cut_before k zero places lt = absurd (omega arith)
place_at-cut_before k (suc n) [] lt = refl
place_at-cut_before zero (suc n) (Some octet ∷ places) lt = refl
place_at-cut_before (suc k) (suc n) (Some octet ∷ places) lt = place_at-cut_before k n places (omega arith)
place_at-cut_before zero (suc n) (None ∷ places) lt = first-gap (cut n places)
place_at-cut_before (suc k) (suc n) (None ∷ places) lt = place_at-gap k (cut n places) ∙ place_at-cut_before k n places (omega arith)

place_at-cut_past : (k n : ℕ) (places : List (Option ℕ)) → n ≤ k → place_at k (cut n places) ≡ None
place_at-cut_past k zero places le = refl
place_at-cut_past k (suc n) [] le = refl
place_at-cut_past zero (suc n) (place ∷ places) le = absurd (omega arith)
place_at-cut_past (suc k) (suc n) (Some octet ∷ places) le = place_at-cut_past k n places (omega arith)
place_at-cut_past (suc k) (suc n) (None ∷ places) le = place_at-gap k (cut n places) ∙ place_at-cut_past k n places (omega arith)

pub forgotten_octets_are_gone_lem : (v : Receiving) (from pos : ℕ) → v.edge ≤ from
    → octet_at pos (after_forget_from from v) ≡ (if nat_lt pos from then octet_at pos v else None)
forgotten_octets_are_gone_lem v from pos le =
    ⊎_elim
    (λ (low : pos < v.edge). rw (lt_true pos v.edge low, lt_true pos from (omega arith)) refl)
    (λ (in_place : v.edge ≤ pos). rw (lt_false pos v.edge in_place) (⊎_elim
    (λ (before : pos < from). rw (lt_true pos from before) (place_at-cut_before (pos - v.edge) (from - v.edge) v.places (omega arith)))
    (λ (past : from ≤ pos). rw (lt_false pos from past) (place_at-cut_past (pos - v.edge) (from - v.edge) v.places (omega arith)))
    (cases_lt pos from)))
    (cases_lt pos v.edge)

-- ---- each octet that is kept is the one of the list
abbrev Agrees : List (Option ℕ) → List ℕ → Type 0
Agrees [] octets = Unit {0}
Agrees (None ∷ places) [] = Agrees places []
Agrees (None ∷ places) (octet ∷ octets) = Agrees places octets
Agrees (Some b ∷ places) [] = ⊥
Agrees (Some b ∷ places) (octet ∷ octets) = (b ≡ octet) × Agrees places octets

agrees-filled : (places : List (Option ℕ)) (octets : List ℕ) → Agrees places octets → filled places ≡ take (length (filled places)) octets
agrees-filled [] octets h = refl
agrees-filled (None ∷ places) octets h = refl
agrees-filled (Some b ∷ places) [] h = absurd h
agrees-filled (Some b ∷ places) (octet ∷ octets) h = rw h.0 (ap (λ rest. octet ∷ rest) (agrees-filled places octets h.1))

agrees-merged : (places others : List (Option ℕ)) (octets : List ℕ) → Agrees places octets → Agrees others octets → Agrees (merged places others) octets
agrees-merged [] others octets h g = g
agrees-merged (place ∷ places) [] octets h g = h
agrees-merged (Some b ∷ places) (other ∷ others) [] h g = h
agrees-merged (None ∷ places) (Some c ∷ others) [] h g = g
agrees-merged (None ∷ places) (None ∷ others) [] h g = agrees-merged places others [] h g
agrees-merged (Some b ∷ places) (None ∷ others) (octet ∷ octets) h g = (h.0, agrees-merged places others octets h.1 g)
agrees-merged (Some b ∷ places) (Some c ∷ others) (octet ∷ octets) h g = (h.0, agrees-merged places others octets h.1 g.1)
agrees-merged (None ∷ places) (None ∷ others) (octet ∷ octets) h g = agrees-merged places others octets h g
agrees-merged (None ∷ places) (Some c ∷ others) (octet ∷ octets) h g = (g.0, agrees-merged places others octets h g.1)

agrees-drop : (n : ℕ) (places : List (Option ℕ)) (octets : List ℕ) → Agrees places octets → Agrees (drop n places) (drop n octets)
agrees-drop zero places octets h = h
agrees-drop (suc n) [] octets h = tt
agrees-drop (suc n) (None ∷ places) [] h = subst (Agrees (drop n places)) (nothing n) (agrees-drop n places [] h)
  where
    nothing : (n : ℕ) → drop {A = ℕ} n [] ≡ []
    nothing zero = refl
    nothing (suc n) = refl
agrees-drop (suc n) (None ∷ places) (octet ∷ octets) h = agrees-drop n places octets h
agrees-drop (suc n) (Some b ∷ places) [] h = absurd h
agrees-drop (suc n) (Some b ∷ places) (octet ∷ octets) h = agrees-drop n places octets h.1

agrees-gap_before : (places : List (Option ℕ)) (octet : ℕ) (octets : List ℕ) → Agrees places octets → Agrees (gap_before places) (octet ∷ octets)
agrees-gap_before [] octet octets h = tt
agrees-gap_before (place ∷ places) octet octets h = h

agrees-gap_nothing : (places : List (Option ℕ)) → Agrees places [] → Agrees (gap_before places) []
agrees-gap_nothing [] h = tt
agrees-gap_nothing (place ∷ places) h = h

agrees-cut : (n : ℕ) (places : List (Option ℕ)) (octets : List ℕ) → Agrees places octets → Agrees (cut n places) octets
agrees-cut zero places octets h = tt
agrees-cut (suc n) [] octets h = tt
agrees-cut (suc n) (Some b ∷ places) [] h = absurd h
agrees-cut (suc n) (Some b ∷ places) (octet ∷ octets) h = (h.0, agrees-cut n places octets h.1)
agrees-cut (suc n) (None ∷ places) [] h = agrees-gap_nothing (cut n places) (agrees-cut n places [] h)
agrees-cut (suc n) (None ∷ places) (octet ∷ octets) h = agrees-gap_before (cut n places) octet octets (agrees-cut n places octets h)

agrees-whole : (octets : List ℕ) → Agrees (map Some octets) octets
agrees-whole [] = tt
agrees-whole (octet ∷ octets) = (refl, agrees-whole octets)

agrees-take : (n : ℕ) (places : List (Option ℕ)) (octets : List ℕ) → Agrees places octets → Agrees (take n places) octets
agrees-take zero places octets h = tt
agrees-take (suc n) [] octets h = tt
agrees-take (suc n) (None ∷ places) [] h = agrees-take n places [] h
agrees-take (suc n) (None ∷ places) (octet ∷ octets) h = agrees-take n places octets h
agrees-take (suc n) (Some b ∷ places) [] h = absurd h
agrees-take (suc n) (Some b ∷ places) (octet ∷ octets) h = (h.0, agrees-take n places octets h.1)

agrees-later : (k : ℕ) (places : List (Option ℕ)) (octets : List ℕ) → Agrees places (drop k octets) → Agrees (replicate k None ++ places) octets
agrees-later zero places octets h = h
agrees-later (suc k) places [] h = agrees-later k places [] (subst (Agrees places) (sym (nothing k)) h)
  where
    nothing : (n : ℕ) → drop {A = ℕ} n [] ≡ []
    nothing zero = refl
    nothing (suc n) = refl
agrees-later (suc k) places (octet ∷ octets) h = agrees-later k places octets h

-- a part of the list, at its place
agrees-part : (from : ℕ) (part octets : List ℕ) → Agrees (map Some part) (drop from octets) → Agrees (by_place from part) octets
agrees-part from [] octets h = tt
agrees-part from (octet ∷ part) octets h = agrees-later from (map Some (octet ∷ part)) octets h

agrees-prefix : (m count : ℕ) (octets : List ℕ) → Agrees (map Some (take m (take count octets))) octets
agrees-prefix m count octets =
    subst (λ places. Agrees places octets)
    (ap (take m) (take-map Some count octets) ∙ take-map Some m (take count octets))
    (agrees-take m (take count (map Some octets)) octets (agrees-take count (map Some octets) octets (agrees-whole octets)))

from_edge : (start edge from : ℕ) (part octets : List ℕ) → start ≤ edge → Agrees (map Some part) (drop from octets)
    → Agrees (drop edge (by_place (start + from) part)) (drop (edge - start) octets)
from_edge start edge from part octets le h =
    subst (λ places. Agrees places (drop (edge - start) octets))
    (ap (drop (edge - start)) (drop-by_place start (start + from) from 0 part (omega arith) (omega arith))
    ∙ drop-drop (edge - start) start (by_place (start + from) part)
    ∙ ap (λ n. drop n (by_place (start + from) part)) (whole le))
    (agrees-drop (edge - start) (by_place from part) octets (agrees-part from part octets h))
  where
    whole : start ≤ edge → start + (edge - start) ≡ edge
    whole le = omega arith

record Holds (start : ℕ) (octets : List ℕ) (v : Receiving) : Type 0 where
  order : start ≤ v.edge
  agrees : Agrees v.places (drop (v.edge - start) octets)

holds-event : (start : ℕ) (octets : List ℕ) (event : Event) (v : Receiving) → Holds start octets v → Holds start octets (after_event start octets event v)
holds-event start octets (Comes from count) v h = record {
  order = h.order;
  agrees = agrees-merged v.places _ (drop (v.edge - start) octets) h.agrees
      (from_edge start v.edge from (take (window_end v - (start + from)) (take count (drop from octets))) octets h.order
      (agrees-prefix (window_end v - (start + from)) count (drop from octets)));
}
holds-event start octets (Advances count) v h = record {
  order = omega (arith, h.order);
  agrees =
      let far : v.edge + count - start ≡ (v.edge - start) + count = omega (arith, h.order) in
      let over : v.edge + count - v.edge ≡ count = omega arith in
      subst (λ n. Agrees (drop n v.places) (drop (v.edge + count - start) octets)) (sym over)
      (subst (λ rest. Agrees (drop count v.places) rest) (drop-drop count (v.edge - start) octets ∙ ap (λ n. drop n octets) (sym far))
      (agrees-drop count v.places (drop (v.edge - start) octets) h.agrees));
}
holds-event start octets (Forgets pos) v h = record {
  order = h.order;
  agrees = agrees-cut (pos - v.edge) v.places (drop (v.edge - start) octets) h.agrees;
}

holds-events : (start : ℕ) (octets : List ℕ) (events : List Event) (v : Receiving) → Holds start octets v → Holds start octets (after_events start octets events v)
holds-events start octets [] v h = h
holds-events start octets (event ∷ events) v h = holds-events start octets events (after_event start octets event v) (holds-event start octets event v h)

pub held_is_a_prefix_lem : (start : ℕ) (octets : List ℕ) (events : List Event) (v : Receiving) → v.places ≡ [] → start ≤ v.edge → IsHeldPrefix start octets (after_events start octets events v)
held_is_a_prefix_lem start octets events v none le =
    let w = after_events start octets events v in
    agrees-filled w.places (drop (w.edge - start) octets)
    (holds-events start octets events v (record { order = le; agrees = rw none tt })).agrees
