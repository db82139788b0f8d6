-- Positions of the only path count bytes, by the lanes: as nobody joins, each byte of the path's record stands at its own place.
use Rattle.std.proofs.Common.{◌≡◌, refl, sym, subst, ap, ◌∙◌, ◌⊎◌, inl, inr, ℕ, zero, suc, ◌+◌, ◌<◌, ◌≤◌, arith, Bool, true, false, true≢false, not, cond, Option, Some, IfSome, List, [], ◌∷◌, length}
use Rattle.std.specs.List.{slice_get}
use Rattle.std.proofs.lemmas.Option.{same_Some, slice_get_within}
use Rattle.sides.specs.declared.side.Side.{Side}
use Rattle.sides.specs.declared.side.Side.TheVariants.{A, B}
use Rattle.send_book.specs.declared.mark.ByteMark.{ByteMark}
use Rattle.send_book.specs.declared.mark.ByteMark.TheVariants.{Acked, Held, Free}
use Rattle.send_book.specs.Marks.{is_free_for, is_untouched}
use Rattle.reassembly_book.proofs.Merging.{filled-le}
use Rattle.subflow_recv.specs.Receiving.{Receiving}
use Rattle.stream_lanes.specs.Duo.{Duo, after_events}
use Rattle.stream_lanes.specs.Holding.{Holds, LaneHolds}
use Rattle.stream_lanes.specs.Lane.{Lane}
use Rattle.stream_lanes.specs.Marks.{AreNew, spent}
use Rattle.stream_lanes.specs.View.{View}
use Rattle.stream_lanes.proofs.Duos.{any_held}
use Rattle.stream_lanes.proofs.MarkLists.{untouched_unspent}
use Rattle.actor_desk.specs.Books.{books_in}
use Rattle.path_store.specs.declared.granted_piece.GrantedPiece.{GrantedPiece}
use Rattle.path_core.specs.State.{PathState}
use Rattle.path_core.specs.Values.{Carried, values}
use Rattle.world_laws.specs.Members.{HoldsOfKind}
use Rattle.world_laws.specs.Actors.{Actor, ActorCrew}
use Rattle.world_laws.specs.Openings.{PathPlan, Start, opened_world, path_begins}
use Rattle.world_laws.specs.Promises.{written_by}
use Rattle.world_laws.specs.RoundNumbers.{taken_len}
use Rattle.world_laws.specs.Worlds.{Turn, WorldState, world_run}
use Rattle.world_laws.proofs.Lanes.Beginning.{each_run_shows}
use Rattle.world_laws.proofs.Lanes.OfAWorld.{Links, PathThere, WorldShows, anyhow, anyhow_free, duo_of, first_duo, free_run}
use Rattle.world_laws.proofs.Lanes.SentRecords.{SentShows}
use Rattle.world_laws.proofs.Lanes.Showing.{HasFin, IsAtEdge, IsPastFin}
use Rattle.world_laws.proofs.Worlds.CastLifting.{each_actor}
use Rattle.world_laws.proofs.Worlds.Casts.{Walker, world_of}
use Rattle.whole_paths.specs.Mild.{IsMildStart}
use Rattle.whole_paths.specs.PositionCounts.{CountsBytes, PathsTookWhatTheySent, PositionsCountBytes, TookWhatItSent}
use Rattle.whole_paths.specs.Received.{HoldsOfOnlyPaths}
use Rattle.whole_paths.proofs.Acknowledged.{always_shown}
use Rattle.whole_paths.proofs.PassedPlaces.{BothStand, both_stand}
use Rattle.whole_paths.proofs.Received.{nobody_joins, only_plan}
use Rattle.whole_paths.proofs.LoneFirst.{IsUnjoined}
use Rattle.world_laws.specs.RoundDone.{reached}
use Rattle.whole_paths.specs.Finish.{IsPathAt}
use Rattle.whole_paths.proofs.Sent.{next_after}

-- ---- marks

-- a byte that no path tried is free
is_free : (m : ByteMark) → is_untouched m ≡ true → is_free_for 0 m ≡ true
is_free Acked new = cc
is_free (Held holder among) new = cc
is_free (Free among) new = ap not (untouched_unspent 0 (Free among) new)

-- behind the first n bytes each is free: so no more than these are taken
taken_most : (n : ℕ) (marks : List ByteMark) → AreNew n marks → taken_len 0 marks ≤ n
taken_most n [] new = omega arith
taken_most zero (m ∷ marks) new = subst (λ b. cond (not b) (1 + taken_len 0 marks) 0 ≤ 0) (sym (is_free m (new 0 m (omega arith) refl))) (omega arith)
taken_most (suc n) (m ∷ marks) new = by (is_free_for 0 m) (taken_most n marks (λ place mark above there. new (suc place) mark (omega (arith, above)) there))
  where
    by : (free : Bool) → taken_len 0 marks ≤ n → cond (not free) (1 + taken_len 0 marks) 0 ≤ suc n
    by true rest = omega arith
    by false rest = omega (arith, rest)

-- bytes that are spent are taken
pub spent_taken : (n : ℕ) (marks : List ByteMark) → ((place : ℕ) → place < n → spent 0 (slice_get marks place) ≡ true) → n ≤ taken_len 0 marks
spent_taken zero marks all = omega arith
spent_taken (suc n) [] all = absurd (true≢false (sym (all 0 (omega arith))))
spent_taken (suc n) (m ∷ marks) all =
    let rest = spent_taken n marks (λ place low. all (suc place) (omega (arith, low))) in
    subst (λ b. suc n ≤ cond (not b) (1 + taken_len 0 marks) 0) (sym (by m (all 0 (omega arith)))) (omega (arith, rest))
  where
    by : (m : ByteMark) → spent 0 (Some m) ≡ true → is_free_for 0 m ≡ false
    by Acked is = refl
    by (Held holder among) is = refl
    by (Free among) is = ap not is

-- an item before a list's end
item_at : {X : Type 0} (xs : List X) (n : ℕ) → n < length xs → (x : X) × (slice_get xs n ≡ Some x)
item_at [] n low = absurd (omega (arith, low))
item_at (x ∷ xs) zero low = (x, refl)
item_at (x ∷ xs) (suc n) low = item_at xs n (omega (arith, low))

-- ---- a lane

-- what was sent is taken
sent_taken : (v : View) (lane : Lane) → LaneHolds v 0 lane → v.alone ≡ true → length lane.sent ≤ taken_len 0 v.marks
sent_taken v lane holds alone = spent_taken (length lane.sent) v.marks each_spent
  where
    each_spent : (n : ℕ) → n < length lane.sent → spent 0 (slice_get v.marks n) ≡ true
    each_spent n low =
        let found = item_at lane.sent n low in
        subst (λ m. spent 0 (slice_get v.marks m) ≡ true) ((holds.alone alone).identity.each n n found.0 (omega arith) found.1) (holds.record_of.cells.each n found.0 found.1).spent

-- behind all that the lane took no byte was tried
untouched_behind : (v : View) (lane : Lane) → LaneHolds v 0 lane → v.alone ≡ true → (place : ℕ) (mark : ByteMark) → taken_len 0 v.marks ≤ place → slice_get v.marks place ≡ Some mark → is_untouched mark ≡ true
untouched_behind v lane holds alone place mark behind there =
    let taken = sent_taken v lane holds alone in (holds.alone alone).untouched refl place mark (omega (arith, taken, behind)) there

-- so each is free
free_behind : (v : View) (lane : Lane) → LaneHolds v 0 lane → v.alone ≡ true → (place : ℕ) (mark : ByteMark) → taken_len 0 v.marks ≤ place → slice_get v.marks place ≡ Some mark → is_free_for 0 mark ≡ true
free_behind v lane holds alone place mark behind there = is_free mark (untouched_behind v lane holds alone place mark behind there)

module _ (v : View) (lane : Lane) (holds : LaneHolds v 0 lane) (alone : v.alone ≡ true) (finished : Bool) (nxt heard : ℕ) (granted : List GrantedPiece)
    (shows : SentShows finished nxt heard granted lane.sent lane.fins lane.pair) where
  taken_sent : taken_len 0 v.marks < nxt
  taken_sent =
      let few = taken_most (length lane.sent) v.marks ((holds.alone alone).untouched refl) in
      let next = next_after 0 v finished nxt heard granted lane.sent lane.fins lane.pair shows holds.fins in omega (arith, few, next)

  sent_exactly : finished ≡ false → nxt ≤ suc (taken_len 0 v.marks)
  sent_exactly none = let next = shows.next none in let all = sent_taken v lane holds alone in omega (arith, next, all)

  -- all of it stands in the stream
  sent_within : length lane.sent ≤ length v.written
  sent_within = by (length lane.sent) refl
    where
      by : (n : ℕ) → n ≡ length lane.sent → n ≤ length v.written
      by zero is = omega arith
      by (suc n) is =
          let last = item_at lane.sent n (omega (arith, is)) in
          let place = (holds.alone alone).identity.each n n last.0 (omega arith) last.1 in
          let within = slice_get_within v.written last.0.place last.0.byte (holds.record_of.cells.each n last.0 last.1).byte in omega (arith, place, within)

  sent_before_end : finished ≡ false → nxt ≤ suc (length v.written)
  sent_before_end none = let next = shows.next none in let within = sent_within in omega (arith, next, within)

  -- with a FIN behind it
  sent_most : nxt ≤ suc (suc (length v.written))
  sent_most = by finished refl
    where
      by : (b : Bool) → finished ≡ b → nxt ≤ suc (suc (length v.written))
      by false none = let next = sent_before_end none in omega (arith, next)
      by true is = let fin = shows.fin is in let at = fin.holds in let last = (holds.fins.each fin.at fin.item fin.there).last in let within = sent_within in omega (arith, at, last, within)

  module _ (recv : Receiving) (fin_at : Option ℕ) (fin : IfSome fin_at (HasFin lane.fins)) (edge : IsAtEdge recv lane ⊎ IsPastFin fin_at recv lane) (low : v.received ≤ lane.edge) where
    came_before : v.received < recv.edge
    came_before = by edge
      where
        by : IsAtEdge recv lane ⊎ IsPastFin fin_at recv lane → v.received < recv.edge
        by (inl at) = let is = at.edge_is in omega (arith, is, low)
        by (inr past) = let is = past.edge_is in omega (arith, is, low)

    came_exactly : finished ≡ false → recv.edge ≡ suc v.received
    came_exactly none = by edge
      where
        by : IsAtEdge recv lane ⊎ IsPastFin fin_at recv lane → recv.edge ≡ suc v.received
        by (inl at) = let is = at.edge_is in let passed = holds.receiver.passed alone in let high : lane.edge ≡ v.received = omega (arith, low, passed) in omega (arith, is, high)
        by (inr past) =
            let has : HasFin lane.fins (suc lane.edge) = subst (λ o. IfSome o (HasFin lane.fins)) past.at_is fin in
            absurd (unsent has.item has.at (sym (ap (λ (xs : List ℕ). slice_get xs has.at) (shows.none none)) ∙ has.there))
          where
            unsent : (n i : ℕ) → slice_get [] i ≡ Some n → ⊥
            unsent n i is = cc

-- ---- the world

-- no path tried a byte of the side's behind all that path 0 took
abbrev pub IsUntouchedBehind : WorldState Carried → Side → Type 0
IsUntouchedBehind w s = (place : ℕ) (mark : ByteMark) → taken_len 0 (written_by s w).marks ≤ place → slice_get (written_by s w).marks place ≡ Some mark → is_untouched mark ≡ true

module _ (start : Start) (links : Links) (d : Duo) (w : WorldState Carried) (held : Holds d) (stand : BothStand d) (h : WorldShows links start d w)
    (unjoined : (books_in w.books).control_b.fall.joined ≡ false) where
  abbrev shown : Duo
  shown = duo_of links (books_in h.cast.books) h.lanes_ab h.lanes_ba h.reader_a h.reader_b

  holds : Holds shown
  holds = subst Holds h.duo_is held

  stands : BothStand shown
  stands = subst BothStand h.duo_is stand

  none : (books_in h.cast.books).control_b.fall.joined ≡ false
  none = subst (λ (v : WorldState Carried). (books_in v.books).control_b.fall.joined ≡ false) h.is unjoined

  path_counts : (number : ℕ) (p : PathState Carried) → PathThere start h.lanes_ab h.lanes_ba number p → number ≡ 0 → (s : Side) → CountsBytes (world_of h.cast) p s
  path_counts number p path first = subst (λ n. PathThere start h.lanes_ab h.lanes_ba n p → (s : Side) → CountsBytes (world_of h.cast) p s) (sym first) by path
    where
      by : PathThere start h.lanes_ab h.lanes_ba 0 p → (s : Side) → CountsBytes (world_of h.cast) p s
      by x A =
          let lane = holds.ab.lanes.each 0 0 x.ab (omega arith) x.ab_there in
          let low = (stands.ab none) x.ab x.ab_there in
          let sent = x.shows.a.sender.sent in
          let within = filled-le (books_in h.cast.books).reassembly_b.places in
          record {
            taken = taken_sent _ x.ab lane (ap not none) _ _ _ _ sent;
            within = sent_before_end _ x.ab lane (ap not none) _ _ _ _ sent;
            most = sent_most _ x.ab lane (ap not none) _ _ _ _ sent;
            came = came_before _ x.ab lane (ap not none) _ _ _ _ sent p.b.tcp.recv p.b.tcp.fin_at x.shows.b.receiver.fin x.shows.b.receiver.edge (omega (arith, low, within));
            exact = came_exactly _ x.ab lane (ap not none) _ _ _ _ sent p.b.tcp.recv p.b.tcp.fin_at x.shows.b.receiver.fin x.shows.b.receiver.edge (omega (arith, low, within));
            marked = holds.ab.send.whole;
            free = free_behind _ x.ab lane (ap not none);
          }
      by x B =
          let lane = holds.ba.lanes.each 0 0 x.ba (omega arith) x.ba_there in
          let low = (stands.ba none) x.ba x.ba_there in
          let sent = x.shows.b.sender.sent in
          let within = filled-le (books_in h.cast.books).reassembly_a.places in
          record {
            taken = taken_sent _ x.ba lane (ap not none) _ _ _ _ sent;
            within = sent_before_end _ x.ba lane (ap not none) _ _ _ _ sent;
            most = sent_most _ x.ba lane (ap not none) _ _ _ _ sent;
            came = came_before _ x.ba lane (ap not none) _ _ _ _ sent p.a.tcp.recv p.a.tcp.fin_at x.shows.a.receiver.fin x.shows.a.receiver.edge (omega (arith, low, within));
            exact = came_exactly _ x.ba lane (ap not none) _ _ _ _ sent p.a.tcp.recv p.a.tcp.fin_at x.shows.a.receiver.fin x.shows.a.receiver.edge (omega (arith, low, within));
            marked = holds.ba.send.whole;
            free = free_behind _ x.ba lane (ap not none);
          }

  path_took : (number : ℕ) (p : PathState Carried) → PathThere start h.lanes_ab h.lanes_ba number p → number ≡ 0 → (s : Side) → TookWhatItSent (world_of h.cast) p s
  path_took number p path first = subst (λ n. PathThere start h.lanes_ab h.lanes_ba n p → (s : Side) → TookWhatItSent (world_of h.cast) p s) (sym first) by path
    where
      by : PathThere start h.lanes_ab h.lanes_ba 0 p → (s : Side) → TookWhatItSent (world_of h.cast) p s
      by x A = record { all = sent_exactly _ x.ab (holds.ab.lanes.each 0 0 x.ab (omega arith) x.ab_there) (ap not none) _ _ _ _ x.shows.a.sender.sent }
      by x B = record { all = sent_exactly _ x.ba (holds.ba.lanes.each 0 0 x.ba (omega arith) x.ba_there) (ap not none) _ _ _ _ x.shows.b.sender.sent }

  path_untouched : (number : ℕ) (p : PathState Carried) → PathThere start h.lanes_ab h.lanes_ba number p → number ≡ 0 → (s : Side) → IsUntouchedBehind (world_of h.cast) s
  path_untouched number p path first = subst (λ n. PathThere start h.lanes_ab h.lanes_ba n p → (s : Side) → IsUntouchedBehind (world_of h.cast) s) (sym first) by path
    where
      by : PathThere start h.lanes_ab h.lanes_ba 0 p → (s : Side) → IsUntouchedBehind (world_of h.cast) s
      by x A = untouched_behind _ x.ab (holds.ab.lanes.each 0 0 x.ab (omega arith) x.ab_there) (ap not none)
      by x B = untouched_behind _ x.ba (holds.ba.lanes.each 0 0 x.ba (omega arith) x.ba_there) (ap not none)

  -- of path 0 among any number
  abbrev FirstCounts : WorldState Carried → Actor Carried → Type 0
  FirstCounts v = HoldsOfKind (λ app. Unit {0}) (λ (q : PathState Carried). (s : Side) → CountsBytes v q s × IsUntouchedBehind v s)

  first_counts : (c : ActorCrew Carried) → slice_get w.crew 2 ≡ Some c → FirstCounts w c.member
  first_counts = subst (λ (v : WorldState Carried). (c : ActorCrew Carried) → slice_get v.crew 2 ≡ Some c → FirstCounts v c.member) (sym h.is)
      (λ c there. each_actor (λ actor c. actor ≡ 2 → FirstCounts (world_of h.cast) c.member) h.cast (λ is. tt) (λ is. tt)
      (λ number x there is s. (let path = h.paths.each number number x (omega arith) there in (path_counts number x.path path (omega (arith, is)) s, path_untouched number x.path path (omega (arith, is)) s))) 2 c there refl)

  took : (plan : PathPlan) → start.paths ≡ plan ∷ [] → PathsTookWhatTheySent w
  took plan one = subst PathsTookWhatTheySent (sym h.is) (record {
    each = each_actor (λ actor c. HoldsOfKind (λ app. Unit {0}) (λ (p : PathState Carried). (s : Side) → TookWhatItSent (world_of h.cast) p s) c.member) h.cast tt tt (λ number x there.
        (let path = h.paths.each number number x (omega arith) there in path_took number x.path path (only_plan plan number path.plan (ap (λ ps. slice_get ps number) (sym one) ∙ path.plan_there))));
  })

  counts : (plan : PathPlan) → start.paths ≡ plan ∷ [] → PositionsCountBytes w
  counts plan one = subst PositionsCountBytes (sym h.is) (record {
    each = each_actor (λ actor c. HoldsOfKind (λ app. Unit {0}) (λ (p : PathState Carried). (s : Side) → CountsBytes (world_of h.cast) p s) c.member) h.cast tt tt (λ number x there.
        (let path = h.paths.each number number x (omega arith) there in path_counts number x.path path (only_plan plan number path.plan (ap (λ ps. slice_get ps number) (sym one) ∙ path.plan_there))));
  })

-- the only path has the profile that it begins with
abbrev OnlyProfile : Start → PathPlan → PathState Carried → Type 0
OnlyProfile start plan p = p.profile ≡ (path_begins start 0 plan).profile

pub only_profile : (start : Start) (plan : PathPlan) (turns : List Turn) → start.paths ≡ plan ∷ [] → IsMildStart start → (actor : ℕ) (c : ActorCrew Carried)
    → slice_get (world_run values turns (opened_world start)).crew actor ≡ Some c → HoldsOfKind (λ app. Unit {0}) (λ (p : PathState Carried). p.profile ≡ (path_begins start 0 plan).profile) c.member
only_profile start plan turns one mild = subst (λ (w : WorldState Carried). (actor : ℕ) (c : ActorCrew Carried) → slice_get w.crew actor ≡ Some c → HoldsOfKind (λ app. Unit {0}) (OnlyProfile start plan) c.member) (sym h.is)
    (each_actor (λ actor c. HoldsOfKind (λ app. Unit {0}) (OnlyProfile start plan) c.member) h.cast tt tt (λ number x there. by number x (h.paths.each number number x (omega arith) there)))
  where
    h : WorldShows (anyhow start mild.plain.size).links start (always_shown start turns mild.plain.size).0 (world_run values turns (opened_world start))
    h = (always_shown start turns mild.plain.size).1.0

    by : (number : ℕ) (x : Walker Carried) → PathThere start h.lanes_ab h.lanes_ba number x.path → OnlyProfile start plan x.path
    by number x path =
        let there : slice_get (plan ∷ []) number ≡ Some path.plan = ap (λ ps. slice_get ps number) (sym one) ∙ path.plan_there in
        let first : number ≡ 0 = only_plan plan number path.plan there in
        let same : plan ≡ path.plan = same_Some plan path.plan (sym (ap (λ n. slice_get (plan ∷ []) n) first) ∙ there) in
        path.shows.profile ∙ ap (λ n. (path_begins start n path.plan).profile) first ∙ ap (λ y. (path_begins start 0 y).profile) (sym same)

pub positions_count_bytes : HoldsOfOnlyPaths values PositionsCountBytes
positions_count_bytes start turns plan one mild =
    let can = anyhow start mild.plain.size in
    let r = each_run_shows start can turns (free_run can.links (anyhow_free start mild.plain.size) turns (opened_world start)) in
    let ever = any_held can.links.alters can.links.checked (length start.paths) start.buffer start.buffer in
    counts start can.links (after_events r.events (first_duo can.links start)) (world_run values turns (opened_world start)) (ever r.events)
    (both_stand can.links.alters can.links.checked (length start.paths) start.buffer start.buffer r.events ever) r.shows (nobody_joins start plan one mild turns) plan one

-- on path 0 among any number positions count bytes as long as B's side joined none
first_counts_so : (start : Start) (turns : List Turn) → IsMildStart start → IsUnjoined (reached values start turns) → (p : PathState Carried) → IsPathAt 0 (reached values start turns) p
    → (s : Side) → CountsBytes (reached values start turns) p s × IsUntouchedBehind (reached values start turns) s
first_counts_so start turns mild alone p here =
    let can = anyhow start mild.plain.size in
    let r = each_run_shows start can turns (free_run can.links (anyhow_free start mild.plain.size) turns (opened_world start)) in
    let ever = any_held can.links.alters can.links.checked (length start.paths) start.buffer start.buffer in
    subst (HoldsOfKind (λ app. Unit {0}) (λ (q : PathState Carried). (s : Side) → CountsBytes (reached values start turns) q s × IsUntouchedBehind (reached values start turns) s)) here.is
    (first_counts start can.links (after_events r.events (first_duo can.links start)) (reached values start turns) (ever r.events)
    (both_stand can.links.alters can.links.checked (length start.paths) start.buffer start.buffer r.events ever) r.shows alone here.crew here.there)

pub first_counts_bytes : (start : Start) (turns : List Turn) → IsMildStart start → IsUnjoined (reached values start turns) → (p : PathState Carried) → IsPathAt 0 (reached values start turns) p
    → (s : Side) → CountsBytes (reached values start turns) p s
first_counts_bytes start turns mild alone p here s = (first_counts_so start turns mild alone p here s).0

-- and no path tried a byte behind those that it took
pub first_is_untouched : (start : Start) (turns : List Turn) → IsMildStart start → IsUnjoined (reached values start turns) → (p : PathState Carried) → IsPathAt 0 (reached values start turns) p
    → (s : Side) → IsUntouchedBehind (reached values start turns) s
first_is_untouched start turns mild alone p here s = (first_counts_so start turns mild alone p here s).1

pub paths_took_what_they_sent : HoldsOfOnlyPaths values PathsTookWhatTheySent
paths_took_what_they_sent start turns plan one mild =
    let can = anyhow start mild.plain.size in
    let r = each_run_shows start can turns (free_run can.links (anyhow_free start mild.plain.size) turns (opened_world start)) in
    let ever = any_held can.links.alters can.links.checked (length start.paths) start.buffer start.buffer in
    took start can.links (after_events r.events (first_duo can.links start)) (world_run values turns (opened_world start)) (ever r.events)
    (both_stand can.links.alters can.links.checked (length start.paths) start.buffer start.buffer r.events ever) r.shows (nobody_joins start plan one mild turns) plan one
