-- What was granted to a path was handed to its link in a segment of the trace, or goes out by the path's next step. So what a receiver passed was
-- sent before.
use Rattle.std.proofs.Common.{◌≡◌, refl, sym, ap, ◌∙◌, subst, ℕ, suc, ◌+◌, ◌≤◌, ◌<◌, ◌⊎◌, inl, inr, ⊎_elim, false, true, Option, Some, None, List, ◌++◌, length, take, drop, arith}
use Rattle.std.specs.Prelude.{is_some}
use Rattle.std.specs.List.{slice_get}
use Rattle.std.specs.Option.{IfSome, option_to_list}
use Rattle.link_trace.specs.declared.sent.Sent.{Sent}
use Rattle.path_core.proofs.SegmentsTold.{each_segment_is_told}
use Rattle.path_core.specs.Emission.{first_unsent}
use Rattle.path_core.specs.Looking.{HandsOrTellsNone, departing_as, first_sends, segment_sent, unsent_sends}
use Rattle.path_core.specs.OptionsOut.{record_or_ack, record_said}
use Rattle.path_core.specs.Shown.{shown_path}
use Rattle.path_core.specs.State.{PathState, end_at, path_of}
use Rattle.path_core.specs.Turns.{IsSettled}
use Rattle.path_core.specs.Values.{Carried, values}
use Rattle.path_segments.specs.Spelled.{PlainSegment}
use Rattle.run_trace.specs.Trace.{sent_as}
use Rattle.sides.specs.Side.{peer}
use Rattle.sides.specs.declared.side.Side.TheVariants.{A, B}
use Rattle.sides.specs.declared.side.Side.{Side}
use Rattle.stream_lanes.proofs.Lists.{Has-more, in_map}
use Rattle.stream_lanes.specs.Duo.{Duo}
use Rattle.stream_lanes.specs.Holding.{Holds, LaneHolds}
use Rattle.stream_lanes.specs.Lane.{Cell, Lane}
use Rattle.path_core.specs.Profile.{Profile}
use Rattle.stream_lanes.specs.Words.{Every, Has}
use Rattle.subflow_send.specs.Records.{Record}
use Rattle.judge_laws.proofs.Standing.{some_same}
use Rattle.world_laws.proofs.Lanes.Doing.{has_last}
use Rattle.world_laws.proofs.Lanes.OfAWorld.{Links, PathThere, WorldShows}
use Rattle.world_laws.proofs.Lanes.Showing.{is_unfinished}
use Rattle.world_laws.proofs.Worlds.Casts.{Walker, walking}
use Rattle.world_laws.specs.Actors.{Actor, ActorCrew}
use Rattle.world_laws.specs.Openings.{PathPlan, Start}
use Rattle.world_laws.specs.Worlds.{WorldState}
use Rattle.world_laws.specs.declared.member.Member.TheVariants.{Path}
use Rattle.own_runs.specs.Runs.{file_of}
use Rattle.own_runs.proofs.Granted.{way}
use Rattle.own_runs.proofs.Moments.{IsSpoken, Nothing, PathSpeaks, first_same}
use Rattle.own_runs.proofs.NextSent.{Own, only_spoken, sent_of, spoken_next}
use Rattle.own_runs.proofs.Pending.{SendsNext}
use Rattle.own_runs.proofs.Speaking.{ToSend}

-- these octets of a side's file from a place on have this one
pub record HasPart (file : List ℕ) (place : ℕ) (piece : List ℕ) : Type 0 where
  pub first : ℕ
  pub below : first ≤ place
  pub above : place < first + length piece
  pub part : piece ≡ take (length piece) (drop first file)

-- The segment has the octet at a position of a side's subflow, where positions count octets alone, from 0 on, and that octet has this place.
pub record Covers (start : Start) (n : ℕ) (s : Side) (position place : ℕ) (x : Sent) : Type 0 where
  pub path : x.path ≡ n
  pub from : x.from ≡ s
  pub said : IsSpoken Nothing start x
  pub plain : said.segment.rst ≡ false
  pub low : said.segment.position ≤ suc position
  pub high : suc position < said.segment.position + length said.segment.payload
  pub has : HasPart (file_of start s) place said.segment.payload

-- The same as one side of a sum: two of these are compared without being taken apart into all that a segment says.
abbrev pub Covered : Start → ℕ → Side → ℕ → ℕ → Sent → Type 0
Covered start n s position place x = Covers start n s position place x ⊎ ⊥

-- ---- a path, and the lane of one of its sides, at a moment

pub record IsAt (n : ℕ) (s : Side) (p : PathState Carried) (lane : Lane) : Type 0 where
  pub numbered : path_of p ≡ n
  pub settled : IsSettled p
  pub room : 29 ≤ p.profile.mss
  -- the receiver stands at the lane's edge, or behind the FIN
  pub recv : ((end_at (peer s) p).tcp.recv.edge ≡ suc lane.edge) ⊎ (((end_at (peer s) p).tcp.recv.edge ≡ suc (suc lane.edge)) × (lane.fin_in ≡ true))
  pub next : is_unfinished (end_at s p).tcp.state ≡ true → (end_at s p).tcp.send.nxt ≡ suc (length lane.sent)
  pub within : lane.edge ≤ length lane.sent
  pub past : lane.fin_in ≡ true → lane.edge ≡ length lane.sent

path_same : {x y : PathState Carried} → (let one : Actor Carried = Path x in one) ≡ Path y → x ≡ y
path_same e = cc

module _ (links : Links) (start : Start) (size : Every (λ (plan : PathPlan). 29 ≤ plan.mss) start.paths) (d : Duo) (w : WorldState Carried) (h : WorldShows links start d w) (holds : Holds d) where
  pub is_at : (n : ℕ) (c : ActorCrew Carried) → slice_get w.crew (suc (suc n)) ≡ Some c → (p : PathState Carried) → c.member ≡ Path p
      → (s : Side) (lane : Lane) → slice_get (way s d).lanes n ≡ Some lane → IsAt n s p lane
  is_at n c there p member = subst (λ (q : PathState Carried). (s : Side) (lane : Lane) → slice_get (way s d).lanes n ≡ Some lane → IsAt n s q lane) same by
    where
      found : (x : Walker Carried) × (slice_get h.cast.paths n ≡ Some x) × (walking x ≡ c)
      found = in_map walking h.cast.paths n c (ap (λ (v : WorldState Carried). slice_get v.crew (suc (suc n))) (sym h.is) ∙ there)

      x : Walker Carried
      x = found.0

      same : found.0.path ≡ p
      same = path_same (ap (λ (y : ActorCrew Carried). y.member) found.2 ∙ member)

      path : PathThere start h.lanes_ab h.lanes_ba n found.0.path
      path = h.paths.each n n found.0 (omega arith) found.1

      room : 29 ≤ found.0.path.profile.mss
      room = subst (λ (c : Profile). 29 ≤ c.mss) (sym path.shows.profile) (size.each n path.plan path.plan_there)

      by : (s : Side) (lane : Lane) → slice_get (way s d).lanes n ≡ Some lane → IsAt n s found.0.path lane
      by A lane at =
          let is : path.ab ≡ lane = some_same path.ab lane (sym path.ab_there ∙ ap (λ (e : Duo). slice_get e.ab.lanes n) (sym h.duo_is) ∙ at) in
          let hold : LaneHolds _ n lane = holds.ab.lanes.each n n lane (omega arith) at in
          record {
            numbered = path.numbered;
            settled = h.settled.each n found.0 found.1;
            room = room;
            recv = subst (λ (l : Lane). (found.0.path.b.tcp.recv.edge ≡ suc l.edge) ⊎ ((found.0.path.b.tcp.recv.edge ≡ suc (suc l.edge)) × (l.fin_in ≡ true))) is
                (⊎_elim (λ edge. inl edge.edge_is) (λ fin. inr (fin.edge_is, fin.fin_in)) path.shows.b.receiver.edge);
            next = subst (λ (l : Lane). is_unfinished found.0.path.a.tcp.state ≡ true → found.0.path.a.tcp.send.nxt ≡ suc (length l.sent)) is path.shows.a.sender.next;
            within = hold.bytes.within;
            past = λ fin. (hold.passed.fin fin).0;
          }
      by B lane at =
          let is : path.ba ≡ lane = some_same path.ba lane (sym path.ba_there ∙ ap (λ (e : Duo). slice_get e.ba.lanes n) (sym h.duo_is) ∙ at) in
          let hold : LaneHolds _ n lane = holds.ba.lanes.each n n lane (omega arith) at in
          record {
            numbered = path.numbered;
            settled = h.settled.each n found.0 found.1;
            room = room;
            recv = subst (λ (l : Lane). (found.0.path.a.tcp.recv.edge ≡ suc l.edge) ⊎ ((found.0.path.a.tcp.recv.edge ≡ suc (suc l.edge)) × (l.fin_in ≡ true))) is
                (⊎_elim (λ edge. inl edge.edge_is) (λ fin. inr (fin.edge_is, fin.fin_in)) path.shows.a.receiver.edge);
            next = subst (λ (l : Lane). is_unfinished found.0.path.b.tcp.state ≡ true → found.0.path.b.tcp.send.nxt ≡ suc (length l.sent)) is path.shows.b.sender.next;
            within = hold.bytes.within;
            past = λ fin. (hold.passed.fin fin).0;
          }

  -- it has a lane for each side
  pub lane_there : (n : ℕ) (c : ActorCrew Carried) → slice_get w.crew (suc (suc n)) ≡ Some c → (s : Side) → (lane : Lane) × (slice_get (way s d).lanes n ≡ Some lane)
  lane_there n c there = by
    where
      found : (x : Walker Carried) × (slice_get h.cast.paths n ≡ Some x) × (walking x ≡ c)
      found = in_map walking h.cast.paths n c (ap (λ (v : WorldState Carried). slice_get v.crew (suc (suc n))) (sym h.is) ∙ there)

      path : PathThere start h.lanes_ab h.lanes_ba n found.0.path
      path = h.paths.each n n found.0 (omega arith) found.1

      by : (s : Side) → (lane : Lane) × (slice_get (way s d).lanes n ≡ Some lane)
      by A = (path.ab, ap (λ (e : Duo). slice_get e.ab.lanes n) h.duo_is ∙ path.ab_there)
      by B = (path.ba, ap (λ (e : Duo). slice_get e.ba.lanes n) h.duo_is ∙ path.ba_there)

-- ---- what was sent

-- the rest of what was granted goes out by the path's next step, and its receiver didn't pass any of it
pub record Waits (start : Start) (s : Side) (p : PathState Carried) (lane : Lane) (upto : ℕ) : Type 0 where
  pub piece : List ℕ
  pub first : ℕ
  pub part : piece ≡ take (length piece) (drop first (file_of start s))
  pub places : (i : ℕ) (cell : Cell) → slice_get lane.sent (upto + i) ≡ Some cell → cell.place ≡ first + i
  pub next : SendsNext s (suc upto) piece p
  pub all : upto + length piece ≡ length lane.sent
  pub bound : (end_at (peer s) p).tcp.recv.edge ≤ suc upto

-- each octet before a position is in the trace, the receiver passed none behind it, and what is behind it goes out next
pub record SideSent (start : Start) (trace : List Sent) (n : ℕ) (s : Side) (p : PathState Carried) (lane : Lane) : Type 0 where
  pub upto : ℕ
  pub told : (position : ℕ) (cell : Cell) → position < upto → slice_get lane.sent position ≡ Some cell → Has (Covered start n s position cell.place) trace
  pub edge : lane.edge ≤ upto
  pub rest : (upto ≡ length lane.sent) ⊎ Waits start s p lane upto

module _ (start : Start) (trace more : List Sent) (n : ℕ) (s : Side) (lane later : Lane) (same : later.sent ≡ lane.sent) where
  was_there : (position : ℕ) (cell : Cell) → slice_get later.sent position ≡ Some cell → slice_get lane.sent position ≡ Some cell
  was_there position cell there = ap (λ (cells : List Cell). slice_get cells position) (sym same) ∙ there

  lengths : length later.sent ≡ length lane.sent
  lengths = ap (λ (cells : List Cell). length cells) same

  -- a path that makes no step
  pub stay_sent : (p : PathState Carried) → IsAt n s p later → SideSent start trace n s p lane → SideSent start (trace ++ more) n s p later
  stay_sent p at h = record {
    upto = h.upto;
    told = λ position cell below there. Has-more more (h.told position cell below (was_there position cell there));
    edge = edge h.rest;
    rest = ⊎_elim (λ full. inl (full ∙ sym lengths)) (λ waits. inr (record {
      piece = waits.piece;
      first = waits.first;
      part = waits.part;
      places = λ i cell there. waits.places i cell (was_there (h.upto + i) cell there);
      next = waits.next;
      all = waits.all ∙ sym lengths;
      bound = waits.bound;
    })) h.rest;
  }
    where
      edge : (h.upto ≡ length lane.sent) ⊎ Waits start s p lane h.upto → later.edge ≤ h.upto
      edge (inl full) = let within = at.within in let long = lengths in omega (arith, within, long, full)
      edge (inr waits) =
          let bound = waits.bound in
          ⊎_elim (λ edge. omega (arith, edge, bound)) (λ fin. let behind = fin.0 in omega (arith, behind, bound)) at.recv

  -- a path that has nothing to send
  pub full_sent : (p q : PathState Carried) → IsAt n s q later → (upto : ℕ)
      → ((position : ℕ) (cell : Cell) → position < upto → slice_get lane.sent position ≡ Some cell → Has (Covered start n s position cell.place) trace) → upto ≡ length lane.sent
      → SideSent start (trace ++ more) n s q later
  full_sent p q at upto told full = record {
    upto = upto;
    told = λ position cell below there. Has-more more (told position cell below (was_there position cell there));
    edge = let within = at.within in let long = lengths in omega (arith, within, long, full);
    rest = inl (full ∙ sym lengths);
  }

-- ---- a path sends what waits

last_has : (trace : List Sent) (P : Sent → Type 0) (o : Option Sent) → is_some o ≡ true → IfSome o P → Has P (trace ++ option_to_list o)
last_has trace P None some is = cc
last_has trace P (Some x) some is = has_last trace x is

-- what it says is known of
pub record ToldBy (start : Start) (p : PathState Carried) : Type 0 where
  pub speaks : PathSpeaks start p

module _ (start : Start) (n : ℕ) (s : Side) (p : PathState Carried) (numbered : path_of p ≡ n) (upto : ℕ) (piece : List ℕ) (next : SendsNext s (suc upto) piece p) where
  -- it is that of the record
  covers_by : ToldBy start p → (position place : ℕ) → upto ≤ position → position < upto + length piece → HasPart (file_of start s) place piece
      → (t : ToSend) → unsent_sends s (Some next.record_of) ≡ Some t → t.from ≡ s → segment_sent p t ≡ record_or_ack p.profile s (first_unsent (end_at s p)) (end_at s p)
      → Covered start n s position place (sent_as (shown_path p) (departing_as (shown_path p) t))
  covers_by told position place low high has t is from same = inl (record {
    path = numbered;
    from = from;
    said = only_spoken (Own start p t (next.sends ∙ is) told.speaks) start _ said;
    plain = ap (λ (sg : PlainSegment). sg.rst) (sym segment_is);
    low = subst (λ (sg : PlainSegment). sg.position ≤ suc position) segment_is (let at = next.position_is in omega (arith, at, low));
    high = subst (λ (sg : PlainSegment). suc position < sg.position + length sg.payload) segment_is
        (let at = next.position_is in let whole = ap (λ (xs : List ℕ). length xs) next.piece_is in omega (arith, at, high, whole));
    has = subst (λ (sg : PlainSegment). HasPart (file_of start s) place sg.payload) segment_is (subst (HasPart (file_of start s) place) (sym next.piece_is) has);
  })
    where
      said : IsSpoken (Own start p t (next.sends ∙ is) told.speaks) start (sent_as (shown_path p) (departing_as (shown_path p) t))
      said = spoken_next start p t (next.sends ∙ is) told.speaks

      segment_is : record_said p.profile s next.record_of (end_at s p) ≡ said.segment
      segment_is = sym (said.also ∙ same ∙ ap (λ (o : Option Record). record_or_ack p.profile s o (end_at s p)) next.unsent)

  covers : ToldBy start p → (position place : ℕ) → upto ≤ position → position < upto + length piece → HasPart (file_of start s) place piece
      → IfSome (sent_of (shown_path p) (unsent_sends s (Some next.record_of))) (Covered start n s position place)
  covers told position place low high has = covers_by told position place low high has _ refl refl refl

  -- and it is the next one
  is_next : sent_of (shown_path p) (first_sends p.agenda (shown_path p)) ≡ sent_of (shown_path p) (unsent_sends s (Some next.record_of))
  is_next = ap (sent_of (shown_path p)) (first_same p.agenda p ∙ next.sends)

  pub handed : ToldBy start p → (trace : List Sent) (o : Option Sent) → o ≡ sent_of (shown_path p) (first_sends p.agenda (shown_path p)) → (position place : ℕ) → upto ≤ position → position < upto + length piece
      → HasPart (file_of start s) place piece → Has (Covered start n s position place) (trace ++ option_to_list o)
  handed told trace o is position place low high has =
      last_has trace (Covered start n s position place) o (ap is_some (is ∙ is_next))
      (subst (λ (o : Option Sent). IfSome o (Covered start n s position place)) (sym (is ∙ is_next)) (covers told position place low high has))

  -- its step asks for no bytes
  pub asks_told : HandsOrTellsNone values p (unsent_sends s (Some next.record_of))
  asks_told = subst (HandsOrTellsNone values p) next.sends (each_segment_is_told values p)
