-- A byte that a path was granted and that isn't acknowledged stands in a piece that its end waits for.
use Rattle.std.proofs.Common.{◌≡◌, refl, sym, subst, ⊎_elim, ℕ, zero, suc, ◌+◌, ◌<◌, ◌&&◌, ◌==◌, arith, Bool, true, false, true≢false, if◌then◌else◌, Some, List, [], ◌∷◌, length}
use Rattle.std.specs.List.{slice_get}
use Rattle.std.proofs.lemmas.Bool.{and_parts, cases_lt, eqb-true}
use Rattle.sides.specs.declared.side.Side.TheVariants.{A, B}
use Rattle.send_book.specs.declared.mark.ByteMark.{ByteMark}
use Rattle.send_book.specs.declared.mark.ByteMark.TheVariants.{Acked, Held, Free}
use Rattle.send_book.specs.State.{Sending, acked_len}
use Rattle.reassembly_book.specs.State.{Arriving}
use Rattle.stream_lanes.specs.Duo.{Duo, after_events, flags_ab, flags_ba}
use Rattle.stream_lanes.specs.Holding.{Holds, LaneHolds, SendHolds}
use Rattle.stream_lanes.specs.Lane.{Lane}
use Rattle.stream_lanes.specs.Marks.{AreAcked, tried}
use Rattle.stream_lanes.specs.Moves.{Flags}
use Rattle.stream_lanes.specs.View.{view_of}
use Rattle.stream_lanes.specs.Words.{Has}
use Rattle.stream_lanes.proofs.Duos.{any_held}
use Rattle.stream_lanes.proofs.Lists.{in_map}
use Rattle.actor_desk.specs.Books.{books_in}
use Rattle.path_store.specs.declared.granted_piece.GrantedPiece.{GrantedPiece}
use Rattle.path_core.specs.State.{PathState, end_at, path_of}
use Rattle.path_core.specs.Values.{Carried, values}
use Rattle.world_laws.specs.declared.member.Member.TheVariants.{App, Path}
use Rattle.world_laws.specs.Actors.{Actor, ActorCrew}
use Rattle.world_laws.specs.Fresh.{shown_crew, shown_member, shown_world}
use Rattle.world_laws.specs.Members.{HoldsOfKind}
use Rattle.world_laws.specs.Openings.{Start, opened_world}
use Rattle.world_laws.specs.Promises.{HasRoom, HoldsAnyway, HoldsAnywayOfOctets, written_by}
use Rattle.world_laws.specs.Worlds.{WorldState, Turn, world_run}
use Rattle.world_laws.proofs.Lanes.Beginning.{each_run_shows}
use Rattle.world_laws.proofs.Lanes.OfAWorld.{Links, PathThere, WorldShows, anyhow, anyhow_free, duo_of, first_duo, free_run, modes_by}
use Rattle.world_laws.proofs.Lanes.SentRecords.{Covers, SentShows}
use Rattle.world_laws.proofs.Promises.Made.{run_fresh}
use Rattle.world_laws.proofs.Worlds.CastLifting.{each_actor}
use Rattle.world_laws.proofs.Worlds.Casts.{world_of}
use Rattle.whole_paths.specs.Acknowledged.{AllIsAcknowledged, GrantedIsAcknowledged, WhatWasGrantedIsAcknowledged}

-- ---- a book

pub acked_untried : (path n place : ℕ) (ms : List ByteMark) → AreAcked n ms → place < n → tried path (slice_get ms place) ≡ false
acked_untried path n place [] all less = refl
acked_untried path zero place (m ∷ ms) all less = absurd (omega (arith, less))
acked_untried path (suc n) zero (Acked ∷ ms) all less = refl
acked_untried path (suc n) zero (Held holder among ∷ ms) all less = absurd (true≢false (sym all.0))
acked_untried path (suc n) zero (Free among ∷ ms) all less = absurd (true≢false (sym all.0))
acked_untried path (suc n) (suc place) (m ∷ ms) all less = acked_untried path n place ms all.1 (omega (arith, less))

pub tried_within : (path place : ℕ) (ms : List ByteMark) → tried path (slice_get ms place) ≡ true → place < length ms
tried_within path place [] is = absurd (true≢false (sym is))
tried_within path zero (m ∷ ms) is = omega arith
tried_within path (suc place) (m ∷ ms) is = let rest = tried_within path place ms is in omega (arith, rest)

-- a byte below what is confirmed is acknowledged
pub below_acked : (closed : Bool) (written acked place : ℕ) → place < written → place < acked + (if closed && written == acked then 1 else 0) → place < acked
below_acked closed written acked place within low = by (closed && written == acked) refl
  where
    by : (b : Bool) → (closed && written == acked) ≡ b → place < acked
    by true is = let same = eqb-true written acked (and_parts closed (written == acked) is).1 in omega (arith, within, same)
    by false is = let less : place < acked + 0 = subst (λ (b : Bool). place < acked + (if b then 1 else 0)) is low in omega (arith, less)

-- a lane whose end waits for no Data ACK
all_acked : (f : Flags) (b : Sending) (r : Arriving) (path : ℕ) (p : Lane) (finished : Bool) (nxt heard : ℕ) (granted : List GrantedPiece) → LaneHolds (view_of f b r) path p → SendHolds b (view_of f b r)
    → SentShows finished nxt heard granted p.sent p.fins p.pair → p.heard ≡ heard → granted ≡ [] → AllIsAcknowledged path b
all_acked f b r path p finished nxt heard granted holds send shows same none place = by (tried path (slice_get b.marks place)) refl
  where
    no_piece : (n : ℕ) → Has (Covers n) granted → ⊥
    no_piece n h = empty h.at h.item (subst (λ (gs : List GrantedPiece). slice_get gs h.at ≡ Some h.item) none h.there)
      where
        empty : (i : ℕ) (piece : GrantedPiece) → slice_get [] i ≡ Some piece → ⊥
        empty i piece is = cc

    by : (c : Bool) → tried path (slice_get b.marks place) ≡ c → tried path (slice_get b.marks place) ≡ false
    by false is = is
    by true is =
        let at = holds.record_of.tried place is in
        let within : place < length b.marks = tried_within path place b.marks is in
        ⊎_elim
        (λ low. (let confirmed = holds.heard.below in let whole = send.whole in
        acked_untried path (acked_len b.marks) place b.marks send.first
        (below_acked b.closed (length b.written) (acked_len b.marks) place (omega (arith, within, whole)) (omega (arith, low, same, confirmed)))))
        (λ high. absurd (no_piece at.at (shows.covered at.at at.item at.there (let is = at.holds in omega (arith, high, is)))))
        (cases_lt place heard)

-- ---- the world

shows_acked : (links : Links) (start : Start) (d : Duo) (w : WorldState Carried) → Holds d → WorldShows links start d w → WhatWasGrantedIsAcknowledged w
shows_acked links start d w held h = subst WhatWasGrantedIsAcknowledged (sym h.is) (record {
  each = each_actor (λ actor c. HoldsOfKind (λ app. Unit {0}) (GrantedIsAcknowledged (world_of h.cast)) c.member) h.cast tt tt (λ number x there. path_acked number x.path (h.paths.each number number x (omega arith) there));
})
  where
    holds : Holds (duo_of links (books_in h.cast.books) h.lanes_ab h.lanes_ba h.reader_a h.reader_b)
    holds = subst Holds h.duo_is held

    path_acked : (number : ℕ) (p : PathState Carried) → PathThere start h.lanes_ab h.lanes_ba number p → GrantedIsAcknowledged (world_of h.cast) p
    path_acked number p path A none = subst (λ n. AllIsAcknowledged n (books_in h.cast.books).send_a) (sym path.numbered)
        (all_acked (flags_ab (modes_by links (books_in h.cast.books))) (books_in h.cast.books).send_a (books_in h.cast.books).reassembly_b number path.ab _ _ _ _ (holds.ab.lanes.each number number path.ab (omega arith) path.ab_there) holds.ab.send path.shows.a.sender.sent path.shows.a.sender.heard none)
    path_acked number p path B none = subst (λ n. AllIsAcknowledged n (books_in h.cast.books).send_b) (sym path.numbered)
        (all_acked (flags_ba (modes_by links (books_in h.cast.books))) (books_in h.cast.books).send_b (books_in h.cast.books).reassembly_a number path.ba _ _ _ _ (holds.ba.lanes.each number number path.ba (omega arith) path.ba_there) holds.ba.send path.shows.b.sender.sent path.shows.b.sender.heard none)

-- a connection of lanes that shows at each moment
pub always_shown : (start : Start) (turns : List Turn) (size : HasRoom start) → (d : Duo) × (WorldShows (anyhow start size).links start d (world_run values turns (opened_world start)) × Holds d)
always_shown start turns size =
    let can = anyhow start size in
    let r = each_run_shows start can turns (free_run can.links (anyhow_free start size) turns (opened_world start)) in
    (after_events r.events (first_duo can.links start), (r.shows, any_held can.links.alters can.links.checked (length start.paths) start.buffer start.buffer r.events))

pub what_was_granted_is_acknowledged : HoldsAnyway WhatWasGrantedIsAcknowledged
what_was_granted_is_acknowledged start turns size =
    let shown = always_shown start turns size in
    shows_acked (anyhow start size).links start shown.0 (world_run values turns (opened_world start)) shown.1.1 shown.1.0

-- ---- over octets

member_acked : (w : WorldState Carried) (m : Actor Carried) → HoldsOfKind (λ app. Unit {0}) (GrantedIsAcknowledged w) m → HoldsOfKind (λ app. Unit {0}) (GrantedIsAcknowledged (shown_world w)) (shown_member m)
member_acked w (App a) h = tt
member_acked w (Path p) h = λ s. (elim s as (λ s. (end_at s p).sending.granted ≡ [] → AllIsAcknowledged (path_of p) (written_by s w)) [ A ↦ h A | B ↦ h B ])

world_acked : (w : WorldState Carried) → WhatWasGrantedIsAcknowledged w → WhatWasGrantedIsAcknowledged (shown_world w)
world_acked w h = record {
  each = λ i c there. let found = in_map shown_crew w.crew i c there in
      subst (λ (y : ActorCrew (List ℕ)). HoldsOfKind (λ app. Unit {0}) (GrantedIsAcknowledged (shown_world w)) y.member) found.2 (member_acked w found.0.member (h.each i found.0 found.1));
}

pub what_was_granted_is_acknowledged_in_octets : HoldsAnywayOfOctets WhatWasGrantedIsAcknowledged
what_was_granted_is_acknowledged_in_octets start turns size fit =
    subst WhatWasGrantedIsAcknowledged (sym (run_fresh start turns size fit)) (world_acked (world_run values turns (opened_world start)) (what_was_granted_is_acknowledged start turns size))
