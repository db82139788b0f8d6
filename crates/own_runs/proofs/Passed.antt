-- Each place that a reassembly book has is that of a position which the receiver of some path passed.
use Rattle.std.proofs.Common.{◌≡◌, refl, sym, ap, ◌∙◌, subst, ℕ, ◌+◌, ◌-◌, ◌<◌, ◌≤◌, min, ⊎_elim, Bool, true, false, if◌then◌else◌, Option, Some, None, List, [], ◌∷◌, length, drop, append-nil, arith}
use Rattle.std.specs.Prelude.{is_some}
use Rattle.std.specs.List.{slice_get}
use Rattle.std.proofs.lemmas.Bool.{cases_lt}
use Rattle.std.proofs.lemmas.Option.{slice_get_within}
use Rattle.std.proofs.Math.ListN.{set}
use Rattle.reassembly_book.specs.State.{Arriving, filled, new_arriving}
use Rattle.reassembly_book.specs.Steps.{after_call, after_reading, clash, edge, fin_clash, placed_reply, places_after, reaches_past, reply_to}
use Rattle.reassembly_book.specs.declared.call.ReassemblyCall.TheVariants.{Place}
use Rattle.reassembly_book.specs.declared.call.ReassemblyReply.TheVariants.{Beyond}
use Rattle.send_book.specs.declared.call.SendCall.TheVariants.{GoIdentity as GoIdentityBook}
use Rattle.stream_lanes.proofs.Bytes.{Cells-by_place, Cells-merged, From-filled}
use Rattle.stream_lanes.proofs.Duos.{any_held}
use Rattle.stream_lanes.proofs.Lists.{Cells-drop, Cells-map, in_more, item_at}
use Rattle.stream_lanes.specs.Duo.{Duo, Event, after_event, after_events, flags_ab, flags_ba, opening_over}
use Rattle.stream_lanes.specs.Holding.{AskHolds, DirectionHolds, Holds, PlaceHolds}
use Rattle.stream_lanes.specs.Lane.{Ask, Cell, Lane}
use Rattle.stream_lanes.specs.Moves.{Flags, takes_placed}
use Rattle.stream_lanes.specs.Streams.{Direction, StreamEvent, after, asks, asks_at, goes_infinite, is_done, may_go, moves, reads, with_send}
use Rattle.stream_lanes.specs.View.{View, view_of}
use Rattle.stream_lanes.specs.Words.{Cells, From}
use Rattle.world_laws.proofs.Lanes.Roads.{put_there}
use Rattle.own_runs.proofs.SentGrows.{LanesGrow, Longer, asks_grow, event_lanes, no_more, set_lanes}

-- the position of a path, before its receiver's edge
pub record WasPassed (lanes : List Lane) (place : ℕ) : Type 0 where
  pub path : ℕ
  pub lane : Lane
  pub there : slice_get lanes path ≡ Some lane
  pub position : ℕ
  pub cell : Cell
  pub cell_there : slice_get lane.sent position ≡ Some cell
  pub place_is : cell.place ≡ place
  pub below : position < lane.edge

passed_on : (old new : List Lane) (place : ℕ) → LanesGrow old new → WasPassed old place → WasPassed new place
passed_on old new place grow h =
    let m = grow h.path h.lane h.there in record {
      path = h.path;
      lane = m.0;
      there = m.1;
      position = h.position;
      cell = h.cell;
      cell_there = ap (λ (sent : List Cell). slice_get sent h.position) m.2.is ∙ in_more h.lane.sent m.2.more h.position h.cell h.cell_there;
      place_is = h.place_is;
      below = let on = m.2.edge in let was = h.below in omega (arith, on, was);
    }

-- of what was read and of what stands
pub record AllPassed (lanes : List Lane) (b : Arriving) : Type 0 where
  pub before : (place : ℕ) → place < b.read → WasPassed lanes place
  pub cells : Cells (λ place byte. WasPassed lanes place) b.read b.places

lanes_on : (old new : List Lane) (b : Arriving) → LanesGrow old new → AllPassed old b → AllPassed new b
lanes_on old new b grow h = record {
  before = λ place below. passed_on old new place grow (h.before place below);
  cells = Cells-map (λ place byte was. passed_on old new place grow was) h.cells;
}

-- ---- calls

-- what is read
read_on : (lanes : List Lane) (max : ℕ) (b : Arriving) → AllPassed lanes b → AllPassed lanes (after_reading max b)
read_on lanes max b h = record {
  before = λ place below. ⊎_elim (λ old. h.before place old) (λ new. came place new below) (cases_lt place b.read);
  cells = Cells-drop (min max (length (filled b.places))) h.cells;
}
  where
    came : (place : ℕ) → b.read ≤ place → place < b.read + min max (length (filled b.places)) → WasPassed lanes place
    came place new below =
        let row : From (λ (place byte : ℕ). WasPassed lanes place) b.read (filled b.places) = From-filled h.cells in
        let there = item_at (filled b.places) (place - b.read) (omega (arith, new, below)) in
        row.each (place - b.read) place there.0 (omega (arith, new)) there.1

module _ (v : View) (d : Direction) (path : ℕ) (p : Lane) (there : slice_get d.lanes path ≡ Some p) (at : ℕ) (bytes : List ℕ)
    (rightly : PlaceHolds v p.sent p.edge at bytes) (h : AllPassed d.lanes d.arrived) where
  -- the lane that passed these bytes
  abbrev passing : Lane
  passing = record p { edge = p.edge + length bytes; kept = drop (length bytes) p.kept; due = true; asking = Ask.Nothing }

  grown : LanesGrow d.lanes (set d.lanes path passing)
  grown = set_lanes d.lanes path p passing there (record { more = []; is = sym (append-nil p.sent); edge = omega arith; says = no_more p _ refl refl })

  there_now : slice_get (set d.lanes path passing) path ≡ Some passing
  there_now = put_there d.lanes path passing (slice_get_within d.lanes path p there)

  placed : From (λ (place byte : ℕ). WasPassed (set d.lanes path passing) place) at bytes
  placed = record {
    each = λ i n x n_is e.
        let below = slice_get_within bytes i x e in
        let within = rightly.within in
        let cell = item_at p.sent (p.edge + i) (omega (arith, below, within)) in
        record {
          path = path;
          lane = passing;
          there = there_now;
          position = p.edge + i;
          cell = cell.0;
          cell_there = cell.1;
          place_is = rightly.cells i cell.0 below cell.1 ∙ sym n_is;
          below = omega (arith, below);
        };
  }

  -- where the book takes them
  taken : AllPassed (set d.lanes path passing) (record d.arrived { places = places_after at bytes d.arrived })
  taken =
      let on = lanes_on d.lanes (set d.lanes path passing) d.arrived grown h in
      record { before = on.before; cells = Cells-merged on.cells (Cells-by_place d.arrived.read placed) }

  left : (q : Lane) → Longer p q → AllPassed (set d.lanes path q) d.arrived
  left q longer = lanes_on d.lanes (set d.lanes path q) d.arrived (set_lanes d.lanes path p q there longer) h

  place_on_lanes : AllPassed (set d.lanes path (takes_placed (length bytes) (reply_to d.arrived (Place at bytes)) p)) (after_call d.arrived (Place at bytes))
  place_on_lanes = by (reaches_past (edge d.arrived) at bytes) (clash d.arrived.known_end at bytes)
    where
      by : (far : Bool) (c : Option ℕ) → AllPassed (set d.lanes path (takes_placed (length bytes) (if far then Beyond (edge d.arrived) else placed_reply c at bytes d.arrived) p))
          (if (if far then false else (if is_some c then false else true)) then record d.arrived { places = places_after at bytes d.arrived } else d.arrived)
      by true c = left (record p { asking = Ask.Nothing }) (record { more = []; is = sym (append-nil p.sent); edge = omega arith; says = no_more p _ refl refl })
      by false (Some e) = left (record p { asking = Ask.Nothing }) (record { more = []; is = sym (append-nil p.sent); edge = omega arith; says = no_more p _ refl refl })
      by false None = taken

-- ---- events

module _ (f : Flags) (d : Direction) (holds : DirectionHolds f d) (h : AllPassed d.lanes d.arrived) where
  after_lanes : (event : StreamEvent) → AllPassed (after f event d).lanes d.arrived
  after_lanes event = lanes_on d.lanes (after f event d).lanes d.arrived (event_lanes f event d) h

  asks_passed : (path : ℕ) (ask : Ask) (p : Lane) → slice_get d.lanes path ≡ Some p → p.asking ≡ ask → AllPassed (asks path ask p d).lanes (asks path ask p d).arrived
  asks_passed path (Ask.AskPlace at bytes) p there asking =
      let hold = holds.lanes.each path path p (omega arith) there in
      place_on_lanes _ d path p there at bytes (subst (λ (ask : Ask). AskHolds (view_of f d.send d.arrived) p.sent p.opened p.edge ask) asking hold.ask) h
  asks_passed path Ask.Nothing p there asking = lanes_on d.lanes d.lanes d.arrived (asks_grow path Ask.Nothing p d there) h
  asks_passed path (Ask.AskGrant max standby) p there asking = lanes_on d.lanes _ d.arrived (asks_grow path (Ask.AskGrant max standby) p d there) h
  asks_passed path (Ask.AskAckIn next window) p there asking = lanes_on d.lanes _ d.arrived (asks_grow path (Ask.AskAckIn next window) p d there) h
  asks_passed path (Ask.AskFin at) p there asking =
      let on = lanes_on d.lanes _ d.arrived (asks_grow path (Ask.AskFin at) p d there) h in by (is_some (fin_clash d.arrived.known_end at d.arrived)) on
    where
      by : {lanes : List Lane} (b : Bool) → AllPassed lanes d.arrived → AllPassed lanes (if b then d.arrived else record d.arrived { known_end = Some at })
      by true on = on
      by false on = record { before = on.before; cells = on.cells }
  asks_passed path Ask.AskAckOut p there asking = lanes_on d.lanes _ d.arrived (asks_grow path Ask.AskAckOut p d there) h

  asks_at_passed : (path : ℕ) (o : Option Lane) → slice_get d.lanes path ≡ o → AllPassed (asks_at path o d).lanes (asks_at path o d).arrived
  asks_at_passed path None there = h
  asks_at_passed path (Some p) there = asks_passed path p.asking p there refl

  reads_passed : (max : ℕ) → AllPassed d.lanes (reads max d).arrived
  reads_passed max = by (is_some d.arrived.aborted)
    where
      by : (b : Bool) → AllPassed d.lanes (if b then d.arrived else after_reading max d.arrived)
      by true = h
      by false = read_on d.lanes max d.arrived h

  event_passed : (event : StreamEvent) → AllPassed (after f event d).lanes (after f event d).arrived
  event_passed (StreamEvent.Asks path) = asks_at_passed path (slice_get d.lanes path) refl
  event_passed (StreamEvent.Read max) = by (is_done d.reader)
    where
      by : (b : Bool) → AllPassed (if b then d else reads max d).lanes (if b then d else reads max d).arrived
      by true = h
      by false = reads_passed max
  event_passed (StreamEvent.AbortRead by_peer) = record { before = h.before; cells = h.cells }
  event_passed (StreamEvent.Moves path move) = subst (AllPassed (after f (StreamEvent.Moves path move) d).lanes) (sym (by (slice_get d.lanes path))) (after_lanes (StreamEvent.Moves path move))
    where
      by : (o : Option Lane) → (moves f path move o d).arrived ≡ d.arrived
      by None = refl
      by (Some p) = refl
  event_passed (StreamEvent.GoInfinite path pos) = subst (AllPassed (after f (StreamEvent.GoInfinite path pos) d).lanes) (sym (by (slice_get d.lanes path))) (after_lanes (StreamEvent.GoInfinite path pos))
    where
      either : (b : Bool) (x : Direction) → x.arrived ≡ d.arrived → (if b then x else d).arrived ≡ d.arrived
      either true x same = same
      either false x same = refl

      by : (o : Option Lane) → (goes_infinite path pos o d).arrived ≡ d.arrived
      by None = refl
      by (Some p) = either (may_go path pos d.send p) _ refl
  event_passed StreamEvent.GoIdentity = by f.sender
    where
      by : (b : Bool) → AllPassed (if b then with_send GoIdentityBook d else d).lanes (if b then with_send GoIdentityBook d else d).arrived
      by true = h
      by false = h
  event_passed (StreamEvent.Write bytes) = h
  event_passed StreamEvent.Close = h
  event_passed (StreamEvent.Return path) = h
  event_passed StreamEvent.AbortSend = h

-- ---- a connection

pub record BothPassed (d : Duo) : Type 0 where
  pub ab : AllPassed d.ab.lanes d.ab.arrived
  pub ba : AllPassed d.ba.lanes d.ba.arrived

duo_passed : (event : Event) (d : Duo) → Holds d → BothPassed d → BothPassed (after_event event d)
duo_passed (Event.ToB event) d holds h = record { ab = event_passed (flags_ab d.modes) d.ab holds.ab h.ab event; ba = h.ba }
duo_passed (Event.ToA event) d holds h = record { ab = h.ab; ba = event_passed (flags_ba d.modes) d.ba holds.ba h.ba event }
duo_passed _ d holds h = record { ab = h.ab; ba = h.ba }

events_passed : (events : List Event) (d : Duo) → ((more : List Event) → Holds (after_events more d)) → BothPassed d → BothPassed (after_events events d)
events_passed [] d holds h = h
events_passed (event ∷ events) d holds h = events_passed events (after_event event d) (λ more. holds (event ∷ more)) (duo_passed event d (holds []) h)

-- at each moment
pub always_passed : (alters checked : Bool) (paths buffer_a buffer_b : ℕ) (events : List Event) → BothPassed (after_events events (opening_over alters checked paths buffer_a buffer_b))
always_passed alters checked paths buffer_a buffer_b events =
    events_passed events (opening_over alters checked paths buffer_a buffer_b) (any_held alters checked paths buffer_a buffer_b) (record { ab = nothing; ba = nothing })
  where
    nothing : {lanes : List Lane} {capacity : ℕ} → AllPassed lanes (new_arriving capacity)
    nothing = record { before = λ place below. absurd (omega (arith, below)); cells = record { each = λ i n x n_is e. cc } }
