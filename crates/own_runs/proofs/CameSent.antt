-- What came to a book was sent before: its lane passed it, and what a lane passed is in the trace.
use Rattle.std.proofs.Common.{◌≡◌, refl, sym, ap, ◌∙◌, subst, ℕ, suc, ◌+◌, ◌-◌, ◌<◌, ◌%◌, inl, inr, ⊎_elim, Bool, true, false, if◌then◌else◌, Option, Some, None, List, [], ◌∷◌, ◌++◌, length, length-append, take, drop, map, replicate, arith}
use Rattle.std.specs.List.{slice_get}
use Rattle.std.proofs.lemmas.List.{drop-drop, drop_at, length-map, length-replicate, length-set}
use Rattle.std.proofs.lemmas.Option.{slice_get_within}
use Rattle.actor_desk.specs.Books.{books_in}
use Rattle.actor_desk.specs.Desk.{reassembly_of}
use Rattle.link_trace.specs.declared.sent.Sent.{Sent}
use Rattle.path_core.specs.Octets.{made, octets, sum_of}
use Rattle.path_core.specs.State.{PathState}
use Rattle.path_core.specs.Values.{Carried, values}
use Rattle.path_segments.specs.Spelled.{PlainSegment, padded, padding, unpadded_options}
unfoldable use Rattle.path_segments.specs.Spelled.{spelled}
use Rattle.path_segments.specs.declared.spelling.Spelling.{Spelling}
use Rattle.run_trace.specs.Trace.{trace_of}
use Rattle.segment_wire.specs.Reading.{header_len}
use Rattle.segment_wire.specs.Segment.{Segment, octets_with}
unfoldable use Rattle.segment_wire.specs.Segment.{fixed_header, segment_text}
use Rattle.sides.specs.Side.{peer}
use Rattle.sides.specs.declared.side.Side.TheVariants.{A, B}
use Rattle.sides.specs.declared.side.Side.{Side}
use Rattle.stream_lanes.proofs.Lists.{in_map, item_at}
use Rattle.stream_lanes.specs.Duo.{Duo, Event, after_event, after_events, flags_ab, flags_ba}
use Rattle.stream_lanes.specs.Lane.{Ask, Cell, Lane}
use Rattle.stream_lanes.specs.Moves.{Flags, moved}
use Rattle.stream_lanes.specs.Streams.{Direction, StreamEvent, after, asks, asks_at, goes_infinite, moves}
use Rattle.stream_lanes.specs.Words.{Has}
use Rattle.own_runs.specs.Sending.{CarriesPlace, payload_in}
use Rattle.world_laws.proofs.Lanes.OfAWorld.{Links, first_duo}
use Rattle.world_laws.proofs.Promises.Made.{run_fresh}
use Rattle.world_laws.proofs.Rounds.SerialIsLawful.{as_many}
use Rattle.world_laws.proofs.Worlds.Casts.{walking}
use Rattle.world_laws.specs.Actors.{ActorCrew}
use Rattle.world_laws.specs.Openings.{PathPlan, Start, opened_world, path_begins, paths_from}
use Rattle.world_laws.specs.Promises.{IsPlain, NumbersFit}
use Rattle.world_laws.specs.Worlds.{Turn, WorldState, after_turn, all_over, begins, greatest, world_run}
use Rattle.world_laws.specs.declared.member.Member.TheVariants.{Path}
use Rattle.own_runs.specs.Arrivals.{HasCome, WhatCameWasSent}
use Rattle.own_runs.specs.Runs.{file_of}
use Rattle.own_runs.proofs.Granted.{way}
use Rattle.own_runs.proofs.Handed.{Covered, Covers}
use Rattle.own_runs.proofs.Passed.{AllPassed, WasPassed, always_passed}
use Rattle.own_runs.proofs.WasSent.{Known, always_known, can}

-- ---- the payload of a segment that is made

padded_len : (text : List ℕ) → length (padded text) % 4 ≡ 0
padded_len text =
    let zero : ℕ = 0 in
    omega (arith, length-append text (replicate (padding (length text)) zero), length-replicate (padding (length text)) zero)

header_is : (checksum : ℕ) (segment : Segment) → length segment.options % 4 ≡ 0 → header_len (octets_with checksum segment) ≡ 20 + length segment.options
unfolding fixed_header
header_is checksum segment whole = omega arith

rest_is : (checksum : ℕ) (segment : Segment) → drop 20 (octets_with checksum segment) ≡ segment.options ++ segment.payload
unfolding fixed_header
rest_is checksum segment = refl

payload_is : (checksum : ℕ) (segment : Segment) → length segment.options % 4 ≡ 0 → payload_in (octets_with checksum segment) ≡ segment.payload
payload_is checksum segment whole =
    ap (λ (n : ℕ). drop n (octets_with checksum segment)) (header_is checksum segment whole)
    ∙ sym (drop-drop (length segment.options) 20 (octets_with checksum segment)) ∙ ap (drop (length segment.options)) (rest_is checksum segment)
    ∙ drop_at segment.options segment.payload (length segment.options) refl

made_payload : (spelling : Spelling) (s : Side) (segment : PlainSegment) → payload_in (made spelling s segment) ≡ segment.payload
unfolding segment_text spelled
made_payload spelling s segment = payload_is (sum_of spelling s segment) (spelled spelling s segment) (padded_len (unpadded_options spelling s segment))

pub carries : (start : Start) (n : ℕ) (s : Side) (position place : ℕ) (x : Sent) → Covers start n s position place x → CarriesPlace s (file_of start s) place x
carries start n s position place x c =
    let sg : PlainSegment = c.said.segment in
    let same : payload_in x.octets ≡ sg.payload = ap payload_in c.said.octets ∙ made_payload (path_begins start x.path c.said.plan).profile.spelling x.from sg in
    let long : length (payload_in x.octets) ≡ length sg.payload = ap (λ (xs : List ℕ). length xs) same in
    let within = c.has.above in
    record {
      from = c.from;
      first = c.has.first;
      below = c.has.below;
      above = omega (arith, within, long);
      part = same ∙ c.has.part ∙ ap (λ (len : ℕ). take len (drop c.has.first (file_of start s))) (sym long);
    }

-- ---- how many lanes there are

asks_count : (path : ℕ) (ask : Ask) (p : Lane) (d : Direction) → length (asks path ask p d).lanes ≡ length d.lanes
asks_count path Ask.Nothing p d = refl
asks_count path (Ask.AskGrant max standby) p d = length-set d.lanes path _
asks_count path (Ask.AskAckIn next window) p d = length-set d.lanes path _
asks_count path (Ask.AskPlace at bytes) p d = length-set d.lanes path _
asks_count path (Ask.AskFin at) p d = length-set d.lanes path _
asks_count path Ask.AskAckOut p d = length-set d.lanes path _

either_count : (n : ℕ) (b : Bool) (d e : Direction) → length d.lanes ≡ n → length e.lanes ≡ n → length (if b then d else e).lanes ≡ n
either_count n true d e x y = x
either_count n false d e x y = y

event_count : (f : Flags) (event : StreamEvent) (d : Direction) → length (after f event d).lanes ≡ length d.lanes
event_count f (StreamEvent.Write bytes) d = refl
event_count f StreamEvent.Close d = refl
event_count f (StreamEvent.Return path) d = refl
event_count f StreamEvent.GoIdentity d = either_count (length d.lanes) f.sender _ d refl refl
event_count f (StreamEvent.GoInfinite path pos) d = by (slice_get d.lanes path)
  where
    by : (o : Option Lane) → length (goes_infinite path pos o d).lanes ≡ length d.lanes
    by None = refl
    by (Some p) = either_count (length d.lanes) _ _ d (length-set d.lanes path _) refl
event_count f StreamEvent.AbortSend d = refl
event_count f (StreamEvent.Read max) d = either_count (length d.lanes) _ d _ refl refl
event_count f (StreamEvent.AbortRead by_peer) d = refl
event_count f (StreamEvent.Moves path move) d = by (slice_get d.lanes path)
  where
    by : (o : Option Lane) → length (moves f path move o d).lanes ≡ length d.lanes
    by None = refl
    by (Some p) = length-set d.lanes path (moved f path move p)
event_count f (StreamEvent.Asks path) d = by (slice_get d.lanes path)
  where
    by : (o : Option Lane) → length (asks_at path o d).lanes ≡ length d.lanes
    by None = refl
    by (Some p) = asks_count path p.asking p d

duo_count : (s : Side) (event : Event) (d : Duo) → length (way s (after_event event d)).lanes ≡ length (way s d).lanes
duo_count A (Event.ToB event) d = event_count (flags_ab d.modes) event d.ab
duo_count B (Event.ToB event) d = refl
duo_count A (Event.ToA event) d = refl
duo_count B (Event.ToA event) d = event_count (flags_ba d.modes) event d.ba
duo_count A _ d = refl
duo_count B _ d = refl

events_count : (s : Side) (events : List Event) (d : Duo) → length (way s (after_events events d)).lanes ≡ length (way s d).lanes
events_count s [] d = refl
events_count s (event ∷ events) d = events_count s events (after_event event d) ∙ duo_count s event d

-- ---- how many actors there are

crew_count : (turns : List Turn) (w : WorldState Carried) → length (world_run values turns w).crew ≡ length w.crew
crew_count [] w = refl
crew_count (turn ∷ turns) w = crew_count turns (after_turn values turn w) ∙ one turn
  where
    round : (b : Bool) → length (if b then record w { crew = map (begins (greatest 0 w.crew)) w.crew } else w).crew ≡ length w.crew
    round true = length-map w.crew (begins (greatest 0 w.crew))
    round false = refl

    one : (turn : Turn) → length (after_turn values turn w).crew ≡ length w.crew
    one (Turn.Step i) = as_many values i w
    one Turn.Round = round (all_over w.crew)

paths_count : (start : Start) (number : ℕ) (plans : List PathPlan) → length (paths_from {C = Carried} start number plans) ≡ length plans
paths_count start number [] = refl
paths_count start number (plan ∷ plans) = ap suc (paths_count start (suc number) plans)

-- ---- a run

-- a segment with the octet of this place has it at a position of a lane
pub record IsOnLane (start : Start) (e : Duo) (s : Side) (place : ℕ) (x : Sent) : Type 0 where
  pub position : ℕ
  pub lane : Lane
  pub there : slice_get (way s e).lanes x.path ≡ Some lane
  pub cell : Cell
  pub cell_there : slice_get lane.sent position ≡ Some cell
  pub place_is : cell.place ≡ place
  pub covers : Covers start x.path s position place x

module _ (start : Start) (plain : IsPlain start) (fit : NumbersFit start) (turns : List Turn) (k : Known start plain fit turns) where
  abbrev pub links : Links
  links = (can start plain fit).links

  abbrev pub d : Duo
  d = after_events k.events (first_duo links start)

  abbrev pub w : WorldState Carried
  w = world_run values turns (opened_world start)

  pub lanes_many : (s : Side) → length (way s d).lanes ≡ length start.paths
  lanes_many A = events_count A k.events (first_duo links start) ∙ length-replicate (length start.paths) _
  lanes_many B = events_count B k.events (first_duo links start) ∙ length-replicate (length start.paths) _

  -- each path has its actor
  pub path_at : (n : ℕ) → n < length start.paths → (c : ActorCrew Carried) × (slice_get w.crew (suc (suc n)) ≡ Some c) × (p : PathState Carried) × (c.member ≡ Path p)
  path_at n below =
      let many : length w.crew ≡ suc (suc (length start.paths)) = crew_count turns (opened_world start) ∙ ap (λ (n : ℕ). suc (suc n)) (paths_count start 0 start.paths) in
      let whole : length w.crew ≡ suc (suc (length (map walking k.shows.cast.paths))) = ap (λ (v : WorldState Carried). length v.crew) k.shows.is in
      let found = item_at (map walking k.shows.cast.paths) n (omega (arith, below, many, whole)) in
      let x = in_map walking k.shows.cast.paths n found.0 found.1 in
      (found.0, ap (λ (v : WorldState Carried). slice_get v.crew (suc (suc n))) k.shows.is ∙ found.1, x.0.path, ap (λ (c : ActorCrew Carried). c.member) (sym x.2))

  pub passed_of : (s : Side) → AllPassed (way s d).lanes (way s d).arrived
  passed_of A = (always_passed links.alters links.checked (length start.paths) start.buffer start.buffer k.events).ab
  passed_of B = (always_passed links.alters links.checked (length start.paths) start.buffer start.buffer k.events).ba

  -- what came of a stream
  pub came_of : (s : Side) → reassembly_of (peer s) (books_in w.books) ≡ (way s d).arrived
  came_of A = ap (λ (v : WorldState Carried). (books_in v.books).reassembly_b) k.shows.is ∙ sym (ap (λ (e : Duo). e.ab.arrived) k.shows.duo_is)
  came_of B = ap (λ (v : WorldState Carried). (books_in v.books).reassembly_a) k.shows.is ∙ sym (ap (λ (e : Duo). e.ba.arrived) k.shows.duo_is)

  book : (s : Side) → reassembly_of (peer s) (books_in (world_run octets turns (opened_world start)).books) ≡ (way s d).arrived
  book s = ap (λ (v : WorldState (List ℕ)). reassembly_of (peer s) (books_in v.books)) (run_fresh start turns plain.size fit) ∙ came_of s

  was_passed : (s : Side) (place : ℕ) → HasCome place (way s d).arrived → WasPassed (way s d).lanes place
  was_passed s place (inl before) = (passed_of s).before place before
  was_passed s place (inr held) = let low = held.0 in (passed_of s).cells.each (place - (way s d).arrived.read) place held.1.0 (omega (arith, low)) held.1.1

  -- the octet of a cell that is covered
  pub cell_sent : (s : Side) (place path : ℕ) (lane : Lane) → slice_get (way s d).lanes path ≡ Some lane → (position : ℕ) (cell : Cell) → slice_get lane.sent position ≡ Some cell → cell.place ≡ place
      → Has (Covered start path s position cell.place) (trace_of turns (opened_world start)) → Has (IsOnLane start d s place) (trace_of turns (opened_world start))
  cell_sent s place path lane there position cell cell_there place_is has =
      let held : Covers start path s position cell.place has.item = ⊎_elim (λ c. c) absurd has.holds in
      let same = held.path in
      let cover : Covers start path s position place has.item = subst (λ (place : ℕ). Covers start path s position place has.item) place_is held in
      record {
        at = has.at;
        item = has.item;
        there = has.there;
        holds = record {
          position = position;
          lane = lane;
          there = ap (slice_get (way s d).lanes) same ∙ there;
          cell = cell;
          cell_there = cell_there;
          place_is = place_is;
          covers = subst (λ (n : ℕ). Covers start n s position place has.item) (sym same) cover;
        };
      }

  pub was_sent : (s : Side) (place : ℕ) → WasPassed (way s d).lanes place → Has (IsOnLane start d s place) (trace_of turns (opened_world start))
  was_sent s place h =
      let many = lanes_many s in
      let inside = slice_get_within (way s d).lanes h.path h.lane h.there in
      let actor = path_at h.path (omega (arith, many, inside)) in
      let side = k.sent h.path actor.0 actor.1 actor.2 actor.3 s h.lane h.there in
      let edge = side.edge in let below = h.below in
      cell_sent s place h.path h.lane h.there h.position h.cell h.cell_there h.place_is (side.told h.position h.cell (omega (arith, edge, below)) h.cell_there)

pub on_lane_carries : (start : Start) (e : Duo) (s : Side) (place : ℕ) (x : Sent) → IsOnLane start e s place x → CarriesPlace s (file_of start s) place x
on_lane_carries start e s place x h = carries start x.path s h.position place x h.covers

pub has_map : {X : Type 0} {P Q : X → Type 0} (xs : List X) → ((x : X) → P x → Q x) → Has P xs → Has Q xs
has_map xs f h = record { at = h.at; item = h.item; there = h.there; holds = f h.item h.holds }

pub came_was_sent : WhatCameWasSent
came_was_sent start turns plain fit s place came =
    let k : Known start plain fit turns = always_known start plain fit turns in
    has_map (trace_of turns (opened_world start)) (on_lane_carries start (d start plain fit turns k) s place)
    (was_sent start plain fit turns k s place (was_passed start plain fit turns k s place (subst (HasCome place) (book start plain fit turns k s) came)))
