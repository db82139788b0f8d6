-- A byte that a path tried and that isn't acknowledged stands in a piece that its end waits for.
use Rattle.std.proofs.Common.{◌≡◌, sym, subst, ap, ◌∙◌, ⊎_elim, ℕ, suc, ◌+◌, ◌-◌, ◌<◌, ◌≤◌, arith, Bool, true, true≢false, Some, List, length}
use Rattle.std.specs.List.{slice_get}
use Rattle.std.proofs.lemmas.Bool.{and_from, cases_lt, le-leb, lt-ltb}
use Rattle.std.proofs.lemmas.Option.{same_Some}
use Rattle.sides.specs.declared.side.Side.{Side}
use Rattle.sides.specs.declared.side.Side.TheVariants.{A, B}
use Rattle.send_book.specs.State.{Sending, acked_len}
use Rattle.reassembly_book.specs.State.{Arriving}
use Rattle.stream_lanes.specs.Duo.{Duo, flags_ab, flags_ba}
use Rattle.stream_lanes.specs.Holding.{Holds, LaneHolds, SendHolds}
use Rattle.stream_lanes.specs.Lane.{Cell, Lane}
use Rattle.stream_lanes.specs.Marks.{tried}
use Rattle.stream_lanes.specs.Moves.{Flags}
use Rattle.stream_lanes.specs.View.{view_of}
use Rattle.stream_lanes.specs.Words.{Has}
use Rattle.stream_lanes.proofs.Lists.{in_map}
use Rattle.actor_desk.specs.Books.{books_in}
use Rattle.path_store.specs.declared.granted_piece.GrantedPiece.{GrantedPiece}
use Rattle.path_store.specs.Granted.{has_place}
use Rattle.path_core.specs.Sending.{Sending as OwnStream}
use Rattle.path_core.specs.State.{PathState, end_at, path_of}
use Rattle.path_core.specs.Values.{Carried, values}
use Rattle.world_laws.specs.declared.member.Member.TheVariants.{App, Path}
use Rattle.world_laws.specs.Actors.{Actor, ActorCrew}
use Rattle.world_laws.specs.Fresh.{shown_crew, shown_member, shown_world}
use Rattle.world_laws.specs.Members.{HoldsOfKind}
use Rattle.world_laws.specs.Openings.{Start, opened_world}
use Rattle.world_laws.specs.Promises.{HasRoom, HoldsAnyway, HoldsAnywayOfOctets, written_by}
use Rattle.world_laws.specs.Worlds.{Turn, WorldState, world_run}
use Rattle.world_laws.proofs.Lanes.OfAWorld.{Links, PathThere, WorldShows, anyhow, duo_of, modes_by}
use Rattle.world_laws.proofs.Lanes.SentRecords.{Covers, SentShows}
use Rattle.world_laws.proofs.Promises.Made.{run_fresh}
use Rattle.world_laws.proofs.Worlds.CastLifting.{each_actor}
use Rattle.world_laws.proofs.Worlds.Casts.{Cast, world_of}
use Rattle.whole_paths.specs.Holders.{IsAwaitedAt, TriedIsAwaited, WhatIsTriedIsAwaited}
use Rattle.whole_paths.proofs.Acknowledged.{acked_untried, always_shown, below_acked, tried_within}

-- ---- a lane

-- the piece that has the position has the byte
piece_has : (nxt heard : ℕ) (finished : Bool) (granted : List GrantedPiece) (p : Lane) (n : ℕ) (c : Cell) → SentShows finished nxt heard granted p.sent p.fins p.pair → slice_get p.sent n ≡ Some c
    → Has (Covers n) granted → Has (λ piece. has_place c.place piece ≡ true) granted
piece_has nxt heard finished granted p n c shows there found =
    let piece = found.item in
    let above = found.holds.above in let below = found.holds.below in
    let stands = (shows.pieces.each found.at piece found.there).stands in
    let own = (shows.pieces.each found.at piece found.there).cell (suc n - piece.position) (omega (arith, above, below)) in
    let same_at : (piece.position - 1) + (suc n - piece.position) ≡ n = omega (arith, above, stands) in
    let same : own.0 ≡ c = same_Some own.0 c (sym own.1 ∙ ap (slice_get p.sent) same_at ∙ there) in
    let place : c.place ≡ piece.from + (suc n - piece.position) = ap (λ (x : Cell). x.place) (sym same) ∙ own.2 in
    record {
      at = found.at;
      item = piece;
      there = found.there;
      holds = and_from _ _ (le-leb piece.from c.place (omega (arith, place))) (lt-ltb c.place piece.to (omega (arith, place, above, below)));
    }

lane_awaits : (f : Flags) (b : Sending) (r : Arriving) (path : ℕ) (p : Lane) (finished : Bool) (nxt : ℕ) (v : OwnStream) → LaneHolds (view_of f b r) path p → SendHolds b (view_of f b r)
    → SentShows finished nxt v.heard v.granted p.sent p.fins p.pair → p.heard ≡ v.heard → (place : ℕ) → tried path (slice_get b.marks place) ≡ true → IsAwaitedAt place v
lane_awaits f b r path p finished nxt v holds send shows same place is = ⊎_elim low high (cases_lt place v.heard)
  where
    at : Has (λ c. c.place ≡ place) p.sent
    at = holds.record_of.tried place is

    low : place < v.heard → IsAwaitedAt place v
    low less =
        let within : place < length b.marks = tried_within path place b.marks is in
        let confirmed = holds.heard.below in let whole = send.whole in
        absurd (true≢false (sym is ∙ acked_untried path (acked_len b.marks) place b.marks send.first
        (below_acked b.closed (length b.written) (acked_len b.marks) place (omega (arith, within, whole)) (omega (arith, less, same, confirmed)))))

    high : v.heard ≤ place → IsAwaitedAt place v
    high more = record {
      piece = subst (λ x. Has (λ piece. has_place x piece ≡ true) v.granted) at.holds
          (piece_has nxt v.heard finished v.granted p at.at at.item shows at.there (shows.covered at.at at.item at.there (let is = at.holds in omega (arith, more, is))));
      unheard = more;
    }

-- ---- the world

shows_awaited : (links : Links) (start : Start) (d : Duo) (w : WorldState Carried) → Holds d → WorldShows links start d w → WhatIsTriedIsAwaited w
shows_awaited links start d w held h = subst WhatIsTriedIsAwaited (sym h.is) (record {
  each = each_actor (λ actor c. HoldsOfKind (λ app. Unit {0}) (TriedIsAwaited (world_of h.cast)) c.member) h.cast tt tt (λ number x there. path_awaits number x.path (h.paths.each number number x (omega arith) there));
})
  where
    holds : Holds (duo_of links (books_in h.cast.books) h.lanes_ab h.lanes_ba h.reader_a h.reader_b)
    holds = subst Holds h.duo_is held

    path_awaits : (number : ℕ) (p : PathState Carried) → PathThere start h.lanes_ab h.lanes_ba number p → TriedIsAwaited (world_of h.cast) p
    path_awaits number p path A place is =
        lane_awaits (flags_ab (modes_by links (books_in h.cast.books))) (books_in h.cast.books).send_a (books_in h.cast.books).reassembly_b number path.ab _ _ p.a.sending
        (holds.ab.lanes.each number number path.ab (omega arith) path.ab_there) holds.ab.send path.shows.a.sender.sent path.shows.a.sender.heard place
        (subst (λ (n : ℕ). tried n (slice_get (books_in h.cast.books).send_a.marks place) ≡ true) path.numbered is)
    path_awaits number p path B place is =
        lane_awaits (flags_ba (modes_by links (books_in h.cast.books))) (books_in h.cast.books).send_b (books_in h.cast.books).reassembly_a number path.ba _ _ p.b.sending
        (holds.ba.lanes.each number number path.ba (omega arith) path.ba_there) holds.ba.send path.shows.b.sender.sent path.shows.b.sender.heard place
        (subst (λ (n : ℕ). tried n (slice_get (books_in h.cast.books).send_b.marks place) ≡ true) path.numbered is)

pub what_is_tried_is_awaited : HoldsAnyway WhatIsTriedIsAwaited
what_is_tried_is_awaited start turns size =
    let shown = always_shown start turns size in
    shows_awaited (anyhow start size).links start shown.0 (world_run values turns (opened_world start)) shown.1.1 shown.1.0

-- there are as many marks as bytes
pub marks_are_whole : (start : Start) (turns : List Turn) → HasRoom start → (s : Side) → let b = written_by s (world_run values turns (opened_world start)) in length b.marks ≡ length b.written
marks_are_whole start turns size s =
    let shown = always_shown start turns size in
    let h = shown.1.0 in
    let holds : Holds (duo_of (anyhow start size).links (books_in h.cast.books) h.lanes_ab h.lanes_ba h.reader_a h.reader_b) = subst Holds h.duo_is shown.1.1 in
    subst (λ (w : WorldState Carried). length (written_by s w).marks ≡ length (written_by s w).written) (sym h.is) (by h.cast s holds.ab.send.whole holds.ba.send.whole)
  where
    by : (t : Cast Carried) (s : Side) → length (books_in t.books).send_a.marks ≡ length (books_in t.books).send_a.written → length (books_in t.books).send_b.marks ≡ length (books_in t.books).send_b.written
        → length (written_by s (world_of t)).marks ≡ length (written_by s (world_of t)).written
    by t A a b = a
    by t B a b = b

-- ---- over octets

member_awaits : (w : WorldState Carried) (m : Actor Carried) → HoldsOfKind (λ app. Unit {0}) (TriedIsAwaited w) m → HoldsOfKind (λ app. Unit {0}) (TriedIsAwaited (shown_world w)) (shown_member m)
member_awaits w (App a) h = tt
member_awaits w (Path p) h = λ s. (elim s as (λ s. (place : ℕ) → tried (path_of p) (slice_get (written_by s w).marks place) ≡ true → IsAwaitedAt place (end_at s p).sending) [ A ↦ h A | B ↦ h B ])

world_awaits : (w : WorldState Carried) → WhatIsTriedIsAwaited w → WhatIsTriedIsAwaited (shown_world w)
world_awaits w h = record {
  each = λ i c there. let found = in_map shown_crew w.crew i c there in
      subst (λ (y : ActorCrew (List ℕ)). HoldsOfKind (λ app. Unit {0}) (TriedIsAwaited (shown_world w)) y.member) found.2 (member_awaits w found.0.member (h.each i found.0 found.1));
}

pub what_is_tried_is_awaited_in_octets : HoldsAnywayOfOctets WhatIsTriedIsAwaited
what_is_tried_is_awaited_in_octets start turns size fit =
    subst WhatIsTriedIsAwaited (sym (run_fresh start turns size fit)) (world_awaits (world_run values turns (opened_world start)) (what_is_tried_is_awaited start turns size))
