-- In plain TCP the FIN of an end goes out where its lane was granted all bytes, or all were acknowledged.
--
-- A FIN ends a whole stream after a fallback: spans that were granted reach no further than the positions that were
-- sent, whose places are their positions; and under an own infinite mapping a piece that ends where the stream does is
-- the record's last, since places rise from the first open piece up to the mapping, and from the mapping on (`RisesTo`,
-- `proofs/Falls/FinAtTheWhole`).
use Rattle.world_laws.proofs.Words.{◌≡◌, refl, sym, ◌∙◌, ap, subst, ℕ, zero, suc, ◌+◌, ◌-◌, ◌≤◌, ◌||◌, ◌==◌, not, min, max, ⊎_elim, Bool, true, false}
use Rattle.world_laws.proofs.Words.{if◌then◌else◌, Option, Some, None, List, [], ◌∷◌, length, arith, ◌<◌, eqb-true, eq-eqb, or_cases, false≢true, or_right}
use Rattle.world_laws.proofs.Words.{cases_lt, or_left, same_Some, slice_get_within, slice_get, IfSome, Side, A, B, peer, Sending, GrantedPiece, granted_to}
use Rattle.world_laws.proofs.Words.{SixBooks, send_of, reassembly_of, pick, PathEnd, is_all_granted, Every, From, Holds, IsEndless, LaneHolds, Cell, Pair, Lane}
use Rattle.world_laws.proofs.Words.{View, IsEnd, view_of, fallen_ab, is_whole, place_after}
use Rattle.stream_lanes.specs.View.{end_of}
use Rattle.stream_lanes.specs.Words.{Has}
use Rattle.stream_lanes.proofs.Lists.{item_at}
use Rattle.stream_lanes.specs.Duo.{Modes}
use Rattle.world_laws.proofs.Lanes.OfAWorld.{flags_of, Others, duo_at}
use Rattle.world_laws.proofs.Lanes.Records.{every_first, every_rest}
use Rattle.world_laws.proofs.Lanes.SentRecords.{IsPieceOf, RisesTo, SentShows}
use Rattle.world_laws.proofs.Lanes.Showing.{IsGrantedTo}
use Rattle.world_laws.proofs.Lanes.Strolling.{out_holds}

-- bytes whose places are their positions end at the place after the last one
after_all : (first : ℕ) (sent : List Cell) → From (λ pos c. c.place ≡ pos) first sent → place_after first sent ≡ first + length sent
after_all first [] h = omega arith
after_all first (c ∷ sent) h =
    let here : c.place ≡ first = h.each 0 first c (omega arith) refl in
    let rest = after_all (suc first) sent (record { each = λ i n x n_is there. h.each (suc i) n x (omega (arith, n_is)) there }) in
    let one_more : suc first + length sent ≡ first + length (c ∷ sent) = omega arith in
    ap (λ n. place_after (suc n) sent) here ∙ rest ∙ one_more

-- no span that was granted reaches past what was sent
spans_within : (sent : List Cell) → From (λ pos c. c.place ≡ pos) 0 sent → (spans : List GrantedPiece) → Every (IsGrantedTo sent) spans → granted_to spans ≤ length sent
spans_within sent identity [] h = omega arith
spans_within sent identity (span ∷ spans) h =
    let g : IsGrantedTo sent span = every_first span spans h in
    let at : g.has.item.place ≡ g.has.at = identity.each g.has.at g.has.at g.has.item (omega arith) g.has.there in
    let within = slice_get_within sent g.has.at g.has.item g.has.there in
    let rest = spans_within sent identity spans (every_rest span spans h) in
    let last_is = g.last_is in let place_is = g.has.holds in
    omega (arith, at, within, rest, last_is, place_is)

in_range : {X : Type 0} (xs : List X) (n : ℕ) → slice_get xs n ≡ None → n < length xs → ⊥
in_range [] n is within = omega (arith, within)
in_range (x ∷ xs) zero is within = cc
in_range (x ∷ xs) (suc n) is within = in_range xs n is (omega (arith, within))

-- and none past the end of the stream
end_is : (s : Sending) (e : ℕ) → end_of s ≡ Some e → e ≡ length s.written
end_is s e is = (elim s.closed as (λ b. (if b then Some (length s.written) else None) ≡ Some e → e ≡ length s.written)
    [ true ↦ λ is. same_Some e (length s.written) (sym is) | false ↦ λ is. cc ]) is

sent_within : (v : View) (path : ℕ) (p : Lane) → LaneHolds v path p → From (λ pos c. c.place ≡ pos) 0 p.sent → (n : ℕ) → length p.sent ≡ n → n ≤ length v.written
sent_within v path p h identity zero is = omega arith
sent_within v path p h identity (suc n) is = last (slice_get p.sent n) refl
  where
    last : (o : Option Cell) → slice_get p.sent n ≡ o → suc n ≤ length v.written
    last (Some c) there =
        let place : c.place ≡ n = identity.each n n c (omega arith) there in
        let written = (h.record_of.cells.each n c there).byte in
        let within = slice_get_within v.written c.place c.byte written in
        omega (arith, place, within)
    last None there = absurd (in_range p.sent n there (omega (arith, is)))

module _ (six : SixBooks) (others : Others) where
  alone_at : (s : Side) (ab ba : Lane) → Holds (duo_at six ab ba others) → (flags_of others.links s six).sender || (flags_of others.links s six).receiver ≡ true → not (flags_of others.links s six).answered ≡ true
  alone_at A ab ba holds fallen = fallen_ab (duo_at six ab ba others).modes holds.modes fallen
  alone_at B ab ba holds fallen =
      let m : Modes = (duo_at six ab ba others).modes in
      fallen_ab m holds.modes (⊎_elim (λ b. or_right m.plain_a m.plain_b b) (λ a. or_left m.plain_a m.plain_b a) (or_cases m.plain_b m.plain_a fallen))

  pub whole : (s : Side) (ab ba : Lane) → Holds (duo_at six ab ba others) → (e : PathEnd) → (pick s ab ba).sender_plain ≡ true → (pick s ab ba).known_end ≡ e.sending.known_end
      → (pick s ab ba).heard ≡ e.sending.heard → Every (IsGrantedTo (pick s ab ba).sent) e.sending.granted → is_all_granted e.sending.known_end e.sending ≡ true
      → is_whole (pick s ab ba).known_end (pick s ab ba) ≡ true
  whole s ab ba holds e plain same_end same_heard granted is = by e.sending.known_end same_end is
    where
      out : Lane
      out = pick s ab ba

      v : View
      v = view_of (flags_of others.links s six) (send_of s six) (reassembly_of (peer s) six)

      lane : LaneHolds v others.number out
      lane = out_holds six others s ab ba holds

      identity : From (λ pos c. c.place ≡ pos) 0 out.sent
      identity = (lane.alone (alone_at s ab ba holds (lane.modes.sender plain))).identity

      by : (o : Option ℕ) → out.known_end ≡ o → is_all_granted o e.sending ≡ true → is_whole out.known_end out ≡ true
      by None known is = absurd (false≢true is)
      by (Some end) known is =
          let told : end_of (send_of s six) ≡ Some end = subst (λ o. IfSome o (IsEnd v.end)) known lane.ends.told in
          let length_is : end ≡ length (send_of s six).written = end_is (send_of s six) end told in
          let within = sent_within v others.number out lane identity (length out.sent) refl in
          let spans = spans_within out.sent identity e.sending.granted granted in
          let after = after_all 0 out.sent identity in
          let test : max (granted_to e.sending.granted) (min e.sending.heard end) ≡ end = eqb-true _ end is in
          ap (λ o. is_whole o out) known
          ∙ eq-eqb (max (place_after 0 out.sent) (min out.heard end)) end (omega (arith, length_is, within, spans, after, test, same_heard))

-- ---- by the own infinite mapping

-- a piece has the last place of all that are granted
last_granted : (pieces : List GrantedPiece) (end : ℕ) → granted_to pieces ≡ end → 1 ≤ end → Has (λ (piece : GrantedPiece). piece.to ≡ end) pieces
last_granted [] end is some = absurd (omega (arith, is, some))
last_granted (piece ∷ pieces) end is some = ⊎_elim
    (λ less. let rest = last_granted pieces end (omega (arith, is, less)) some in record { at = suc rest.at; item = rest.item; there = rest.there; holds = rest.holds })
    (λ above. record { at = 0; item = piece; there = refl; holds = omega (arith, is, above) })
    (cases_lt piece.to end)

-- the place after the last byte
after_last : (before : ℕ) (sent : List Cell) (n : ℕ) (c : Cell) → slice_get sent n ≡ Some c → suc n ≡ length sent → place_after before sent ≡ suc c.place
after_last before [] n c there last = cc
after_last before (d ∷ []) zero c there last = let same : d ≡ c = cc in ap (λ (x : Cell). suc x.place) same
after_last before (d ∷ next ∷ sent) zero c there last = absurd (omega (arith, last))
after_last before (d ∷ sent) (suc n) c there last = after_last (suc d.place) sent n c there (omega (arith, last))

after_below : (before end : ℕ) (sent : List Cell) → before ≤ end → ((n : ℕ) (c : Cell) → slice_get sent n ≡ Some c → c.place < end) → place_after before sent ≤ end
after_below before end [] low all = low
after_below before end (c ∷ sent) low all = after_below (suc c.place) end sent (all 0 c refl) (λ n d there. all (suc n) d there)

module _ (v : View) (path end : ℕ) (p : Lane) (lane : LaneHolds v path p) (m : Pair) (there : p.pair ≡ Some m) (finished : Bool) (nxt heard : ℕ) (granted : List GrantedPiece)
    (shows : SentShows finished nxt heard granted p.sent p.fins p.pair) (written : length v.written ≡ end) where
  endless : IsEndless path v p.sent m
  endless = (subst (λ o. IfSome o (λ m. IsEndless path v p.sent m × (m.place ≤ v.acked) × (v.owner ≡ Some path))) there lane.pairs.own).0

  rising : RisesTo p.sent granted m
  rising = subst (λ o. IfSome o (RisesTo p.sent granted)) there shows.rising

  below_end : (n : ℕ) (c : Cell) → slice_get p.sent n ≡ Some c → c.place < end
  below_end n c is = let inside = slice_get_within v.written c.place c.byte (lane.record_of.cells.each n c is).byte in omega (arith, inside, written)

  -- the last byte of a piece that ends where the stream does is the last of the record
  no_more : (n : ℕ) (c : Cell) → slice_get p.sent n ≡ Some c → suc c.place ≡ end → rising.first ≤ n → suc n < length p.sent → ⊥
  no_more n c is last from more =
      let next = item_at p.sent (suc n) more in
      let low = below_end (suc n) next.0 next.1 in
      ⊎_elim
      (λ before. ⊎_elim
      (λ still. let one = rising.line n c from before is in let two = rising.line (suc n) next.0 (omega (arith, from)) still next.1 in omega (arith, one, two, last, low))
      (λ at. let one = rising.below n c before is in let two = endless.places (suc n) next.0 at next.1 in omega (arith, one, two, last, low, before))
      (cases_lt (suc n) m.pos))
      (λ after. let one = endless.places n c after is in let two = endless.places (suc n) next.0 (omega (arith, after)) next.1 in omega (arith, one, two, last, low, after))
      (cases_lt n m.pos)

  ends_so : granted_to granted ≡ end → 1 ≤ end → place_after 0 p.sent ≡ end
  ends_so to some =
      let has = last_granted granted end to some in
      let piece : IsPieceOf p.sent has.item = shows.pieces.each has.at has.item has.there in
      let ends = has.holds in let full = piece.some in let stands = piece.stands in
      let last = piece.cell (has.item.to - has.item.from - 1) (omega (arith, full)) in
      let n : ℕ = (has.item.position - 1) + (has.item.to - has.item.from - 1) in
      let place = last.2 in
      let is : suc last.0.place ≡ end = omega (arith, place, ends, full) in
      let first = rising.pieces.each has.at has.item has.there in
      let inside = slice_get_within p.sent n last.0 last.1 in
      ⊎_elim
      (λ more. absurd (no_more n last.0 last.1 is (omega (arith, first, stands)) more))
      (λ over. after_last 0 p.sent n last.0 last.1 (omega (arith, over, inside)) ∙ is)
      (cases_lt (suc n) (length p.sent))

  all_whole : max (granted_to granted) (min heard end) ≡ end → max (place_after 0 p.sent) (min heard end) ≡ end
  all_whole test =
      let low = after_below 0 end p.sent (omega arith) below_end in
      ⊎_elim
      (λ less. let is = ends_so (omega (arith, test, less)) (omega (arith, less)) in omega (arith, is, less))
      (λ over. omega (arith, low, over))
      (cases_lt heard end)

-- the FIN goes out where all bytes were granted to the path, or are acknowledged
pub whole_by_pair : (six : SixBooks) (others : Others) (s : Side) (ab ba : Lane) → Holds (duo_at six ab ba others) → (e : PathEnd) (m : Pair) → (pick s ab ba).pair ≡ Some m
    → (pick s ab ba).known_end ≡ e.sending.known_end → (pick s ab ba).heard ≡ e.sending.heard
    → SentShows e.tcp.send.finished e.tcp.send.nxt e.sending.heard e.sending.granted (pick s ab ba).sent (pick s ab ba).fins (pick s ab ba).pair
    → is_all_granted e.sending.known_end e.sending ≡ true → is_whole (pick s ab ba).known_end (pick s ab ba) ≡ true
whole_by_pair six others s ab ba holds e m there same_end same_heard shows is = by e.sending.known_end same_end is
  where
    out : Lane
    out = pick s ab ba

    v : View
    v = view_of (flags_of others.links s six) (send_of s six) (reassembly_of (peer s) six)

    lane : LaneHolds v others.number out
    lane = out_holds six others s ab ba holds

    by : (o : Option ℕ) → out.known_end ≡ o → is_all_granted o e.sending ≡ true → is_whole out.known_end out ≡ true
    by None known is = absurd (false≢true is)
    by (Some end) known is =
        let told : end_of (send_of s six) ≡ Some end = subst (λ o. IfSome o (IsEnd v.end)) known lane.ends.told in
        let length_is : end ≡ length (send_of s six).written = end_is (send_of s six) end told in
        let test : max (granted_to e.sending.granted) (min e.sending.heard end) ≡ end = eqb-true _ end is in
        ap (λ o. is_whole o out) known
        ∙ ap (λ n. max (place_after 0 out.sent) (min n end) == end) same_heard
        ∙ eq-eqb (max (place_after 0 out.sent) (min e.sending.heard end)) end
        (all_whole v others.number end out lane m there e.tcp.send.finished e.tcp.send.nxt e.sending.heard e.sending.granted shows (sym length_is) test)
