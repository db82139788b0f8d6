-- How great the number of a connection is at most: its lanes have no more bytes than its files.
use Rattle.std.proofs.Common.{◌≡◌, refl, sym, subst, ap, ◌∙◌, ◌⊎◌, inl, inr, ℕ, suc, ◌+◌, ◌*◌, ◌≤◌, ◌==◌, ◌&&◌, arith, Bool, true, false, not, if◌then◌else◌, is_some, Option, Some, List, [], ◌∷◌, ◌++◌, map, length, length-append, sum_by}
use Rattle.std.specs.List.{slice_get}
use Rattle.std.proofs.lemmas.List.Sums.{count_by-le-length, sum_by-cons}
use Rattle.sides.specs.declared.side.Side.{Side}
use Rattle.sides.specs.declared.side.Side.TheVariants.{A, B}
use Rattle.octet_text.specs.Prefix.{IsPrefix}
use Rattle.send_book.specs.declared.mark.ByteMark.{ByteMark}
use Rattle.send_book.specs.State.{Sending, acked_len}
use Rattle.reassembly_book.specs.declared.call.ReassemblyCall.{ReassemblyCall}
use Rattle.reassembly_book.specs.declared.call.ReassemblyCall.TheVariants as calls
use Rattle.reassembly_book.specs.State.{Arriving, received}
use Rattle.reassembly_book.specs.Steps.{is_taken, fin_clash, places_after, after_reading, after_call}
use Rattle.subflow_recv.specs.Receiving.{Receiving}
use Rattle.stream_lanes.specs.Duo.{Duo, after_events, flags_ab, flags_ba}
use Rattle.stream_lanes.specs.Holding.{Holds, IsFin, LaneHolds, SendHolds}
use Rattle.stream_lanes.specs.Lane.{Cell, Lane, Pair}
use Rattle.stream_lanes.specs.Marks.{spent}
use Rattle.stream_lanes.specs.View.{View, all_in, view_of}
use Rattle.stream_lanes.specs.Words.{Every}
use Rattle.stream_lanes.proofs.Duos.{any_held}
use Rattle.actor_desk.specs.declared.ask.Ask.{Ask}
use Rattle.actor_desk.specs.declared.ask.Ask.TheVariants as asks
use Rattle.actor_desk.specs.Books.{books_in}
use Rattle.actor_desk.specs.Desk.{SixBooks, after_ask}
use Rattle.path_store.specs.declared.granted_piece.GrantedPiece.{GrantedPiece}
use Rattle.path_core.specs.Codec.{Codec}
use Rattle.path_core.specs.End.{PathEnd}
use Rattle.path_core.specs.Octets.{octets}
use Rattle.path_core.specs.Profile.{Profile}
use Rattle.path_core.specs.Values.{Carried, values}
use Rattle.world_laws.specs.declared.member.Member.TheVariants.{App, Path}
use Rattle.world_laws.specs.Actors.{Actor, ActorCrew}
use Rattle.world_laws.specs.Fresh.{shown_crew, shown_member, shown_world}
use Rattle.world_laws.specs.Members.{of_kind}
use Rattle.world_laws.specs.Openings.{PathPlan, Start, path_begins, opened_world}
use Rattle.world_laws.specs.Promises.{BothKeepTheirWord, IsPlain, NumbersFit}
use Rattle.world_laws.specs.Worlds.{WorldState, Turn, world_run}
use Rattle.world_laws.proofs.Lanes.Beginning.{each_run_shows}
use Rattle.world_laws.proofs.Lanes.OfAWorld.{PathThere, WorldShows, duo_of, first_duo, free_run, plainly, plainly_free}
use Rattle.world_laws.proofs.Lanes.SentRecords.{SentShows}
use Rattle.world_laws.proofs.Lanes.Showing.{EndShows, IsAtEdge, IsPastFin}
use Rattle.world_laws.proofs.Numbers.EveryTurn.{WorldTells, always_tells}
use Rattle.world_laws.proofs.Numbers.PathSteps.{PathTells}
use Rattle.world_laws.proofs.Numbers.TellSmall.{EndTells}
use Rattle.world_laws.proofs.Promises.Made.{keep_their_word, run_fresh}
use Rattle.world_laws.proofs.Weaving.Journals.{books_after}
use Rattle.world_laws.proofs.Worlds.CastLifting.{path_actor, writes_the_files}
use Rattle.world_laws.proofs.Worlds.Casts.{Walker, seated, walking, world_of}
use Rattle.world_laws.proofs.Worlds.Turns.{run_so}
use Rattle.whole_paths.specs.News.{NewsIsBounded, arrived_news, end_news, most_news, news, path_news, sent_news, side_news}
use Rattle.whole_paths.proofs.News.{one_most}
use Rattle.whole_paths.proofs.Subflows.{stage_most}

-- ---- lists

module _ {X Y : Type 0} (f : X → ℕ) (most : ℕ) where
  -- at most so much for each of them, where there is one of the others for each
  sum_most : (xs : List X) (ys : List Y) → ((i : ℕ) (x : X) → slice_get xs i ≡ Some x → (f x ≤ most) × ((y : Y) × (slice_get ys i ≡ Some y))) → sum_by f xs ≤ length ys * most
  sum_most [] ys each = omega arith
  sum_most (x ∷ xs) [] each = let first = each 0 x refl in absurd (none first.1.0 first.1.1)
    where
      none : (y : Y) → slice_get [] 0 ≡ Some y → ⊥
      none y is = cc
  sum_most (x ∷ xs) (y ∷ ys) each =
      let first = (each 0 x refl).0 in let rest = sum_most xs ys (λ i z there. each (suc i) z there) in
      omega (arith, first, rest, sum_by-cons f x xs)

prefix_most : (written file : List ℕ) → IsPrefix written file → length written ≤ length file
prefix_most written file h = let is : length file ≡ length (written ++ h.rest) = ap (λ (xs : List ℕ). length xs) h.whole_is in omega (arith, is, length-append written h.rest)

-- ---- what a side buffers

room_stays : (b : Arriving) (call : ReassemblyCall) → (after_call b call).capacity ≡ b.capacity
room_stays b (calls.Place at bytes) = elim (is_taken at bytes b) as (λ c. (if c then record b { places = places_after at bytes b } else b).capacity ≡ b.capacity)
    [ true ↦ refl | false ↦ refl ]
room_stays b (calls.Fin at) = elim (is_some (fin_clash b.known_end at b)) as (λ c. (if c then b else record b { known_end = Some at }).capacity ≡ b.capacity)
    [ true ↦ refl | false ↦ refl ]
room_stays b (calls.Read most) = elim (is_some b.aborted) as (λ c. (if c then b else after_reading most b).capacity ≡ b.capacity) [ true ↦ refl | false ↦ refl ]
room_stays b calls.AckOut = refl
room_stays b (calls.Abort by_peer) = refl

record RoomsAre (n : ℕ) (six : SixBooks) : Type 0 where
  a : six.reassembly_a.capacity ≡ n
  b : six.reassembly_b.capacity ≡ n

ask_rooms : (n : ℕ) (x : Ask) (six : SixBooks) → RoomsAre n six → RoomsAre n (after_ask x six)
ask_rooms n (asks.Reassembly A call) six h = record { a = room_stays six.reassembly_a call ∙ h.a; b = h.b }
ask_rooms n (asks.Reassembly B call) six h = record { a = h.a; b = room_stays six.reassembly_b call ∙ h.b }
ask_rooms n (asks.Send s call) six h = (elim s as (λ s. RoomsAre n (after_ask (asks.Send s call) six)) [ A ↦ record { a = h.a; b = h.b } | B ↦ record { a = h.a; b = h.b } ])
ask_rooms n (asks.Control s call) six h = (elim s as (λ s. RoomsAre n (after_ask (asks.Control s call) six)) [ A ↦ record { a = h.a; b = h.b } | B ↦ record { a = h.a; b = h.b } ])
ask_rooms n (asks.Local step) six h = h

always_rooms : {C : Type 0} (k : Codec C) (start : Start) (turns : List Turn) → RoomsAre start.buffer (books_in (world_run k turns (opened_world start)).books)
always_rooms {C} k start turns = run_so k (λ (w : WorldState C). RoomsAre start.buffer (books_in w.books))
    (λ w h actor c x there is. subst (RoomsAre start.buffer) (sym (books_after x c.pass w.books)) (ask_rooms start.buffer x (books_in w.books) h)) (λ w h over. h)
    turns (opened_world start) (record { a = refl; b = refl })

-- ---- an end

-- SND.NXT is two positions behind the bytes of its lane at most: the SYN and the FIN
next_most : (path : ℕ) (v : View) (finished : Bool) (nxt heard : ℕ) (granted : List GrantedPiece) (sent : List Cell) (fins : List ℕ) (pair : Option Pair) → SentShows finished nxt heard granted sent fins pair
    → Every (IsFin path v sent) fins → nxt ≤ length sent + 2
next_most path v false nxt heard granted sent fins pair h all = let is = h.next refl in omega (arith, is)
next_most path v true nxt heard granted sent fins pair h all =
    let fin = h.fin refl in let at = fin.holds in let last = (all.each fin.at fin.item fin.there).last in omega (arith, at, last)

-- and so is RCV.NXT
edge_most : (path : ℕ) (v : View) (recv : Receiving) (fin_at : Option ℕ) (back : Lane) → LaneHolds v path back → IsAtEdge recv back ⊎ IsPastFin fin_at recv back → recv.edge ≤ length back.sent + 2
edge_most path v recv fin_at back holds (inl at) = let is = at.edge_is in let within = holds.bytes.within in omega (arith, is, within)
edge_most path v recv fin_at back holds (inr past) = let is = past.edge_is in let within = holds.bytes.within in omega (arith, is, within)

all_in_most : (closed : Bool) (written : List ℕ) (count : ℕ) → all_in closed written count ≤ 1
all_in_most closed written count = one_most (closed && (length written == count))

-- a direction whose writer wrote so much at most, and whose reader buffers so much
record IsDirection (v : View) (written : ℕ) : Type 0 where
  few : length v.written ≤ written
  marks : length v.marks ≡ length v.written
  confirmed : v.confirmed ≤ written + 1

lane_most : (path : ℕ) (v : View) (written : ℕ) (p : Lane) → IsDirection v written → LaneHolds v path p → length p.sent ≤ written
lane_most path v written p d h =
    let once = h.record_of.once in let spent = count_by-le-length (λ m. spent path (Some m)) v.marks in
    let marks = d.marks in let few = d.few in omega (arith, once, spent, marks, few)

end_most : (c : Profile) (s : Side) (e : PathEnd) (path own peer : ℕ) (v u : View) (out back : Lane) → EndShows c s e out back → EndTells c s e → IsDirection v own → IsDirection u peer
    → LaneHolds v path out → LaneHolds u path back → end_news e ≤ 3 * own + peer + 19
end_most c s e path own peer v u out back shows tells d r holds_out holds_back =
    let una = tells.sender.unacknowledged in
    let nxt = next_most path v e.tcp.send.finished e.tcp.send.nxt e.sending.heard e.sending.granted out.sent out.fins out.pair shows.sender.sent holds_out.fins in
    let edge = edge_most path u e.tcp.recv e.tcp.fin_at back holds_back shows.receiver.edge in
    let sent = lane_most path v own out d holds_out in let came = lane_most path u peer back r holds_back in
    let heard : out.heard ≡ e.sending.heard = shows.sender.heard in let below = holds_out.heard.below in let confirmed = d.confirmed in
    let state = stage_most e.tcp.state in
    let fin = one_most e.sending.fin_sent in let acked = one_most e.sending.close.own_acked in let peer_came = one_most e.sending.close.peer_came in
    let clear = one_most e.modes.clear in let third = one_most (not e.modes.owes_third) in
    omega (arith, una, nxt, edge, sent, came, heard, below, confirmed, state, fin, acked, peer_came, clear, third)

-- ---- a direction

direction_of : (b : Sending) (v : View) (written : ℕ) → v.written ≡ b.written → v.marks ≡ b.marks → v.confirmed ≡ acked_len b.marks + all_in b.closed b.written (acked_len b.marks) → v.acked ≡ acked_len b.marks
    → length b.written ≤ written → v.received ≤ length b.written → SendHolds b v → IsDirection v written
direction_of b v written is marks confirmed acked few came h = record {
  few = (let same : length v.written ≡ length b.written = ap (λ (xs : List ℕ). length xs) is in omega (arith, same, few));
  marks = ap (λ (ms : List ByteMark). length ms) marks ∙ h.whole ∙ ap (λ (xs : List ℕ). length xs) (sym is);
  confirmed = (let one = all_in_most b.closed b.written (acked_len b.marks) in let least = h.acked in omega (arith, confirmed, acked, one, least, came, few));
}

-- what a side wrote and its edge
sent_most : (b : Sending) (written edge : ℕ) → length b.written ≤ written → b.edge ≤ edge → sent_news b ≤ written + edge + 2
sent_most b written edge few low = let closed = one_most b.closed in let fin = one_most b.fin in omega (arith, few, low, closed, fin)

arrived_most : (b : Arriving) (written : ℕ) → received b ≤ written → arrived_news b ≤ 2 * written + 1
arrived_most b written few = let known = one_most (is_some b.known_end) in omega (arith, few, known)

-- ---- the world

module _ (start : Start) (turns : List Turn) (plain : IsPlain start) (fit : NumbersFit start) where
  abbrev w : WorldState Carried
  w = world_run values turns (opened_world start)

  shows : (d : Duo) × (WorldShows (plainly start plain).links start d w × Holds d)
  shows =
      let can = plainly start plain in let r = each_run_shows start can turns (free_run can.links (plainly_free start plain) turns (opened_world start)) in
      (after_events r.events (first_duo can.links start), (r.shows, any_held can.links.alters can.links.checked (length start.paths) start.buffer start.buffer r.events))

  abbrev h : WorldShows (plainly start plain).links start shows.0 w
  h = shows.1.0

  abbrev six : SixBooks
  six = books_in h.cast.books

  abbrev duo : Duo
  duo = duo_of (plainly start plain).links six h.lanes_ab h.lanes_ba h.reader_a h.reader_b

  holds : Holds duo
  holds = subst Holds h.duo_is shows.1.1

  word : BothKeepTheirWord (world_of h.cast)
  word = subst BothKeepTheirWord h.is (keep_their_word start turns plain)

  rooms : RoomsAre start.buffer six
  rooms = subst (λ (v : WorldState Carried). RoomsAre start.buffer (books_in v.books)) h.is (always_rooms values start turns)

  abbrev a : ℕ
  a = length start.file_a

  abbrev b : ℕ
  b = length start.file_b

  written_a : length six.send_a.written ≤ a
  written_a = subst (λ (v : WorldState Carried). length (books_in v.books).send_a.written ≤ a) h.is (prefix_most _ start.file_a (writes_the_files values start turns).a.prefix)

  written_b : length six.send_b.written ≤ b
  written_b = subst (λ (v : WorldState Carried). length (books_in v.books).send_b.written ≤ b) h.is (prefix_most _ start.file_b (writes_the_files values start turns).b.prefix)

  abbrev view_ab : View
  view_ab = view_of (flags_ab duo.modes) duo.ab.send duo.ab.arrived

  abbrev view_ba : View
  view_ba = view_of (flags_ba duo.modes) duo.ba.send duo.ba.arrived

  to_b : IsDirection view_ab a
  to_b = direction_of six.send_a view_ab a refl refl refl refl written_a word.ab.arrived holds.ab.send

  to_a : IsDirection view_ba b
  to_a = direction_of six.send_b view_ba b refl refl refl refl written_b word.ba.arrived holds.ba.send

  path_most : (n : ℕ) (x : Walker Carried) → slice_get h.cast.paths n ≡ Some x
      → (path_news start x.path ≤ 4 * (a + b) + 38 + length start.lines) × ((plan : PathPlan) × (slice_get start.paths n ≡ Some plan))
  path_most n x at = (omega (arith, end_a, end_b), (there.plan, there.plan_there))
    where
      there : PathThere start h.lanes_ab h.lanes_ba n x.path
      there = h.paths.each n n x (omega arith) at

      told : PathTells (path_begins start n there.plan).profile x.path
      told = (subst (WorldTells start) h.is (always_tells start turns plain.size fit)).members (suc (suc n)) (walking x) (path_actor h.cast n x at) there.plan there.plan_there

      holds_ab : LaneHolds view_ab n there.ab
      holds_ab = holds.ab.lanes.each n n there.ab (omega arith) there.ab_there

      holds_ba : LaneHolds view_ba n there.ba
      holds_ba = holds.ba.lanes.each n n there.ba (omega arith) there.ba_there

      end_a : end_news x.path.a ≤ 3 * a + b + 19
      end_a = end_most _ A x.path.a n a b view_ab view_ba there.ab there.ba there.shows.a told.a to_b to_a holds_ab holds_ba

      end_b : end_news x.path.b ≤ 3 * b + a + 19
      end_b = end_most _ B x.path.b n b a view_ba view_ab there.ba there.ab there.shows.b told.b to_a to_b holds_ba holds_ab

  abbrev member_news : ActorCrew Carried → ℕ
  member_news c = of_kind (λ app. 0) (path_news start) c.member

  walkers_sum : (xs : List (Walker Carried)) → sum_by member_news (map walking xs) ≡ sum_by (λ x. path_news start x.path) xs
  walkers_sum [] = refl
  walkers_sum (x ∷ xs) = sum_by-cons member_news (walking x) (map walking xs) ∙ ap (λ n. path_news start x.path + n) (walkers_sum xs) ∙ sym (sum_by-cons (λ x. path_news start x.path) x xs)

  crew_most : sum_by member_news (world_of h.cast).crew ≤ length start.paths * (4 * (a + b) + 38 + length start.lines)
  crew_most =
      let paths = sum_most (λ (x : Walker Carried). path_news start x.path) (4 * (a + b) + 38 + length start.lines) h.cast.paths start.paths path_most in
      let first : ActorCrew Carried = seated h.cast.at_a (App h.cast.a) in let second : ActorCrew Carried = seated h.cast.at_b (App h.cast.b) in
      omega (arith, paths, walkers_sum h.cast.paths, sum_by-cons member_news second (map walking h.cast.paths), sum_by-cons member_news first (second ∷ map walking h.cast.paths))

  side_a : side_news six A ≤ 2 * a + start.buffer + 4 + 2 * b
  side_a = omega (arith, sent_most six.send_a a (a + start.buffer + 1) written_a edge, arrived_most six.reassembly_a b came)
    where
      came : received six.reassembly_a ≤ b
      came = let few = word.ba.arrived in omega (arith, few, written_b)

      edge : six.send_a.edge ≤ a + start.buffer + 1
      edge =
          let low = holds.ab.send.edge refl in let one = all_in_most six.send_a.closed six.send_a.written (received six.reassembly_b) in
          let few = word.ab.arrived in let room = rooms.b in omega (arith, low, one, few, room, written_a)

  side_b : side_news six B ≤ 2 * b + start.buffer + 4 + 2 * a
  side_b = omega (arith, sent_most six.send_b b (b + start.buffer + 1) written_b edge, arrived_most six.reassembly_b a came)
    where
      came : received six.reassembly_b ≤ a
      came = let few = word.ab.arrived in omega (arith, few, written_a)

      edge : six.send_b.edge ≤ b + start.buffer + 1
      edge =
          let low = holds.ba.send.edge refl in let one = all_in_most six.send_b.closed six.send_b.written (received six.reassembly_a) in
          let few = word.ba.arrived in let room = rooms.a in omega (arith, low, one, few, room, written_b)

  news_most : news start w ≤ most_news start
  news_most = subst (λ (v : WorldState Carried). news start v ≤ most_news start) (sym h.is) (omega (arith, crew_most, side_a, side_b))

pub news_is_bounded : NewsIsBounded values
news_is_bounded start turns plain fit = news_most start turns plain fit

-- ---- over octets

module _ (start : Start) where
  member_shown : (m : Actor Carried) → of_kind (λ app. 0) (path_news start) (shown_member m) ≡ of_kind (λ app. 0) (path_news start) m
  member_shown (App a) = refl
  member_shown (Path p) = refl

  crew_shown : (crew : List (ActorCrew Carried)) → sum_by (λ c. of_kind (λ app. 0) (path_news start) c.member) (map shown_crew crew) ≡ sum_by (λ c. of_kind (λ app. 0) (path_news start) c.member) crew
  crew_shown [] = refl
  crew_shown (c ∷ crew) =
      let rest = crew_shown crew in
      omega (
        arith,
        rest,
        member_shown c.member,
        sum_by-cons (λ (c : ActorCrew (List ℕ)). of_kind (λ app. 0) (path_news start) c.member) (shown_crew c) (map shown_crew crew),
        sum_by-cons (λ (c : ActorCrew Carried). of_kind (λ app. 0) (path_news start) c.member) c crew,
      )

  world_shown : (w : WorldState Carried) → news start (shown_world w) ≡ news start w
  world_shown w = ap (λ (n : ℕ). n + side_news (books_in w.books) A + side_news (books_in w.books) B) (crew_shown w.crew)

pub news_is_bounded_in_octets : NewsIsBounded octets
news_is_bounded_in_octets start turns plain fit =
    let w : WorldState Carried = world_run values turns (opened_world start) in
    subst (λ (v : WorldState (List ℕ)). news start v ≤ most_news start) (sym (run_fresh start turns plain.size fit)) (subst (λ n. n ≤ most_news start) (sym (world_shown start w)) (news_is_bounded start turns plain fit))
