-- At each moment of a run, by its last lanes: what the next segments map and bear, and that each octet of a file that their Data ACKs cover was in a
-- segment before them, at a position that has its place on these lanes, and that the DATA_FIN was told before they cover its place.
use Rattle.std.proofs.Common.{◌≡◌, refl, sym, ap, ◌∙◌, subst, ℕ, suc, ◌-◌, ◌<◌, Option, Some, None, is_some, true, List, [], ◌∷◌, ◌++◌, length, append_assoc, append-nil, arith}
use Rattle.std.specs.List.{slice_get}
use Rattle.std.specs.Option.{IfSome}
use Rattle.link_trace.specs.declared.sent.Sent.{Sent}
use Rattle.path_core.specs.Looking.{first_sends, segment_sent}
use Rattle.path_core.specs.Octets.{octets}
use Rattle.path_core.specs.Values.{values}
use Rattle.path_core.specs.State.{PathState, path_of}
use Rattle.path_segments.specs.Spelled.{PlainSegment}
use Rattle.reassembly_book.specs.State.{Arriving}
use Rattle.run_trace.specs.Trace.{trace_of}
use Rattle.sides.specs.Side.{peer}
use Rattle.sides.specs.declared.side.Side.TheVariants.{A, B}
use Rattle.sides.specs.declared.side.Side.{Side}
use Rattle.stream_lanes.proofs.Lists.{in_more}
use Rattle.stream_lanes.proofs.Duos.{any_held}
use Rattle.stream_lanes.specs.Duo.{Duo, after_events}
use Rattle.stream_lanes.specs.Holding.{Holds}
use Rattle.stream_lanes.specs.Lane.{Cell, Lane}
use Rattle.stream_lanes.specs.Words.{Has}
use Rattle.world_laws.proofs.Lanes.OfAWorld.{first_duo, plainly}
use Rattle.world_laws.specs.Actors.{Actor}
use Rattle.world_laws.specs.NeverFalls.{IsWhole}
use Rattle.world_laws.specs.Openings.{Start, opened_world}
use Rattle.world_laws.specs.Outcomes.{outcome_of}
use Rattle.world_laws.specs.Promises.{IsPlain, NumbersFit, was_told_end}
use Rattle.world_laws.specs.declared.outcome.Outcome.TheVariants.{Delivered}
use Rattle.own_runs.specs.Runs.{file_of}
use Rattle.octet_text.specs.Prefix.{IsPrefix}
use Rattle.world_laws.specs.Outcomes.{output_of, read_by}
use Rattle.world_laws.proofs.Promises.Made.{keep_their_word, keep_their_word_in_octets, run_fresh}
use Rattle.world_laws.proofs.Promises.OverOctets.{same_notes_of}
use Rattle.world_laws.proofs.Promises.Shown.{SameAsShown, same_as_shown}
use Rattle.world_laws.proofs.Worlds.CastLifting.{writes_the_files}
use Rattle.world_laws.specs.Worlds.{Turn, WorldState, world_run}
use Rattle.world_laws.specs.declared.member.Member.TheVariants.{App, Path}
use Rattle.own_runs.proofs.CameSent.{IsOnLane, came_of, d, has_map, links, passed_of, w, was_sent}
use Rattle.own_runs.proofs.Grants.{ends_told}
use Rattle.own_runs.proofs.EndRuns.{TellsEnd, end_told}
use Rattle.own_runs.proofs.FineMoments.{Offered, lane_of, offered_at, place_at}
use Rattle.own_runs.proofs.Granted.{way}
use Rattle.own_runs.proofs.Handed.{Covers}
use Rattle.own_runs.proofs.MapPlaces.{place_in}
use Rattle.own_runs.proofs.Moments.{MemberAlso, PathAlso, WorldAlso}
use Rattle.own_runs.proofs.Reached.{AllGo, reaches, steps}
use Rattle.own_runs.proofs.SentGrows.{Grows, LanesGrow, events_grow}
use Rattle.own_runs.proofs.Speaking.{ToSend}
use Rattle.own_runs.proofs.ToldAcks.{AckedBefore, AtEnd, also_acked, known_at_end}
use Rattle.own_runs.proofs.ReadEnds.{BothKnow, always_know}
use Rattle.own_runs.proofs.WasSent.{Known, always_known, next_known, opened_known}

-- a segment has the octet of this place at a position that has it on the last lanes
pub record IsShown (start : Start) (last : Duo) (s : Side) (place : ℕ) (x : Sent) : Type 0 where
  pub position : ℕ
  pub covers : Covers start x.path s position place x
  pub sits : place_at (lane_of last x.path s) (suc position) ≡ place

way_grows : (d last : Duo) → Grows d last → (s : Side) → LanesGrow (way s d).lanes (way s last).lanes
way_grows d last grows A = grows.ab
way_grows d last grows B = grows.ba

lane_is : (last : Duo) (path : ℕ) (s : Side) → slice_get (way s last).lanes path ≡ lane_of last path s
lane_is last path A = refl
lane_is last path B = refl

sits_on : (l : Lane) (p place : ℕ) (cell : Cell) → slice_get l.sent p ≡ Some cell → cell.place ≡ place → place_at (Some l) (suc p) ≡ place
sits_on l p place cell there is =
    ap (λ (n : ℕ). place_in (slice_get l.sent n)) (let same : suc p - 1 ≡ p = omega arith in same) ∙ (ap (λ (o : Option Cell). place_in o) there ∙ is)

shown_last : (start : Start) (d last : Duo) → Grows d last → (s : Side) (place : ℕ) (x : Sent) → IsOnLane start d s place x → IsShown start last s place x
shown_last start d last grows s place x h =
    let m = way_grows d last grows s x.path h.lane h.there in
    let cell : slice_get m.0.sent h.position ≡ Some h.cell = ap (λ (cells : List Cell). slice_get cells h.position) m.2.is ∙ in_more h.lane.sent m.2.more h.position h.cell h.cell_there in
    record {
      position = h.position;
      covers = h.covers;
      sits = ap (λ (o : Option Lane). place_at o (suc h.position)) (sym (lane_is last x.path s) ∙ m.1)
          ∙ sits_on m.0 h.position place h.cell cell h.place_is;
    }

-- behind the last octet of the file, where the DATA_FIN was told
abbrev pub EndTold : Start → List Sent → Side → ℕ → Type 0
EndTold start before s place = AtEnd start s place × Has (TellsEnd start s) before

-- what holds of the segments that are sent next
abbrev pub OfferedAndAcked : Start → Duo → List Sent → ℕ → Side → PlainSegment → Type 0
OfferedAndAcked start last before path s sg = Offered start last path s sg × AckedBefore (IsShown start last) (EndTold start before) before path s sg

both_path : {C : Type 0} (Q R : ℕ → Side → PlainSegment → Type 0) (p : PathState C) → PathAlso Q p → PathAlso R p → PathAlso (λ n s sg. Q n s sg × R n s sg) p
both_path Q R p x y = by (first_sends p.agenda p) x y
  where
    by : (o : Option ToSend) → IfSome o (λ t. Q (path_of p) t.from (segment_sent p t)) → IfSome o (λ t. R (path_of p) t.from (segment_sent p t))
        → IfSome o (λ t. Q (path_of p) t.from (segment_sent p t) × R (path_of p) t.from (segment_sent p t))
    by None x y = tt
    by (Some t) x y = (x, y)

-- what holds of the next segments, told in other words
pub world_map : {C : Type 0} (Q R : ℕ → Side → PlainSegment → Type 0) (w : WorldState C) → ((n : ℕ) (s : Side) (sg : PlainSegment) → Q n s sg → R n s sg) → WorldAlso Q w → WorldAlso R w
world_map {C} Q R w f also i c at = by c.member (also i c at)
  where
    path : (p : PathState C) (o : Option ToSend) → IfSome o (λ t. Q (path_of p) t.from (segment_sent p t)) → IfSome o (λ t. R (path_of p) t.from (segment_sent p t))
    path p None x = tt
    path p (Some t) x = f (path_of p) t.from (segment_sent p t) x

    by : (m : Actor C) → MemberAlso Q m → MemberAlso R m
    by (App a) x = tt
    by (Path p) x = path p (first_sends p.agenda p) x

pub both_worlds : {C : Type 0} (Q R : ℕ → Side → PlainSegment → Type 0) (w : WorldState C) → WorldAlso Q w → WorldAlso R w → WorldAlso (λ n s sg. Q n s sg × R n s sg) w
both_worlds {C} Q R w x y i c at = by c.member (x i c at) (y i c at)
  where
    by : (m : Actor C) → MemberAlso Q m → MemberAlso R m → MemberAlso (λ n s sg. Q n s sg × R n s sg) m
    by (App a) x y = tt
    by (Path p) x y = both_path Q R p x y

module _ (start : Start) (plain : IsPlain start) (fit : NumbersFit start) where
  abbrev more_by : Turn → List Turn → List Turn
  more_by turn before = before ++ turn ∷ []

  abbrev HasKnown : List Turn → Type 0
  HasKnown turns = Known start plain fit turns

  abbrev duo_known : (turns : List Turn) → HasKnown turns → Duo
  duo_known turns k = after_events k.events (first_duo (plainly start plain).links start)

  one_goes : (turn : Turn) (before : List Turn) (k : HasKnown before) → (next : HasKnown (more_by turn before)) × Grows (duo_known before k) (duo_known (more_by turn before) next)
  one_goes turn before k =
      let next = next_known start plain fit before turn k in
      (next.0, subst (λ (d : Duo). Grows (duo_known before k) d) (sym next.2) (events_grow next.1 (duo_known before k)))

  all_go : (turns before : List Turn) → AllGo {X = List Turn} more_by HasKnown duo_known turns before
  all_go [] before = tt
  all_go (turn ∷ turns) before = (one_goes turn before, all_go turns (more_by turn before))

  steps_are : (turns before : List Turn) → steps {X = List Turn} more_by HasKnown duo_known turns before ≡ before ++ turns
  steps_are [] before = sym (append-nil before)
  steps_are (turn ∷ turns) before = steps_are turns (more_by turn before) ∙ append_assoc before (turn ∷ []) turns

  pub known_reaches : (turns : List Turn) → (last : Duo) × ((more later : List Turn) → more ++ later ≡ turns → (k : HasKnown more) × Grows (duo_known more k) last)
  known_reaches turns =
      let all = reaches {X = List Turn} more_by HasKnown duo_known turns [] (opened_known start plain fit) (all_go turns []) in
      (all.0, λ more later is. subst (λ (ts : List Turn). (k : HasKnown ts) × Grows (duo_known ts k) all.0) (steps_are more []) (all.2 more later is))

pub whole_acks : (start : Start) (turns : List Turn) (plain : IsPlain start) → IsWhole start → (fit : NumbersFit start)
    → (last : Duo) × ((more later : List Turn) → more ++ later ≡ turns
    → WorldAlso (OfferedAndAcked start last (trace_of more (opened_world start))) (world_run octets more (opened_world start)))
whole_acks start turns plain whole fit =
    let all = known_reaches start plain fit turns in (all.0, λ more later is. moment all.0 more (all.1 more later is))
  where
    moment : (last : Duo) (more : List Turn) → (k : Known start plain fit more) × Grows (after_events k.events (first_duo (plainly start plain).links start)) last
        → WorldAlso (OfferedAndAcked start last (trace_of more (opened_world start))) (world_run octets more (opened_world start))
    moment last more r =
        both_worlds (Offered start last) (AckedBefore (IsShown start last) (EndTold start (trace_of more (opened_world start))) (trace_of more (opened_world start))) (world_run octets more (opened_world start))
        (offered_at start plain whole fit last more (record { events = r.0.events; shows = r.0.shows }, r.1))
        (also_acked start plain fit more r.0 (IsShown start last) (λ s place x h. shown_last start _ last r.1 s place x h) (EndTold start (trace_of more (opened_world start)))
        (λ s place is. (known_at_end start plain fit more r.0 s place is, told_by more r.0 s place is)))
      where
        told_by : (more : List Turn) (k : Known start plain fit more) (s : Side) (place : ℕ) → (way s (d start plain fit more k)).arrived.known_end ≡ Some place
            → Has (TellsEnd start s) (trace_of more (opened_world start))
        told_by more k A place is = end_told start plain whole fit more B (ap (λ (b : Arriving). is_some b.known_end) (came_of start plain fit more k A) ∙ ap is_some is)
        told_by more k B place is = end_told start plain whole fit more A (ap (λ (b : Arriving). is_some b.known_end) (came_of start plain fit more k B) ∙ ap is_some is)

-- ---- what was read

module _ (start : Start) (plain : IsPlain start) (fit : NumbersFit start) (turns : List Turn) (k : Known start plain fit turns) where
  abbrev now : Duo
  now = d start plain fit turns k

  holds : Holds now
  holds = any_held (links start plain fit turns k).alters (links start plain fit turns k).checked (length start.paths) start.buffer start.buffer k.events

  outputs : SameAsShown now (w start plain fit turns k)
  outputs = same_as_shown (links start plain fit turns k) start now (w start plain fit turns k) k.shows

  told_end : (s : Side) → was_told_end (peer s) (w start plain fit turns k) ≡ true → (way s now).reader.told ≡ true
  told_end A told = sym outputs.told_b ∙ told
  told_end B told = sym outputs.told_a ∙ told

  read_count : (s : Side) → length (output_of (peer s) (w start plain fit turns k)) ≡ (way s now).arrived.read
  read_count A = ap length outputs.out_b ∙ holds.ab.reader.size
  read_count B = ap length outputs.out_a ∙ holds.ba.reader.size

-- a first part of a first part
in_turn : {xs ys zs : List ℕ} → IsPrefix xs ys → IsPrefix ys zs → IsPrefix xs zs
in_turn {xs} p q = record { rest = p.rest ++ q.rest; whole_is = q.whole_is ∙ ap (λ (begin : List ℕ). begin ++ q.rest) p.whole_is ∙ append_assoc xs p.rest q.rest }

module _ (start : Start) (turns : List Turn) (plain : IsPlain start) (fit : NumbersFit start) where
  abbrev run : WorldState (List ℕ)
  run = world_run octets turns (opened_world start)

  output_same : (r : Side) → output_of r run ≡ output_of r (world_run values turns (opened_world start))
  output_same r =
      ap (λ (v : WorldState (List ℕ)). output_of r v) (run_fresh start turns plain.size fit) ∙ ap read_by (same_notes_of r (world_run values turns (opened_world start)))

  -- what is on the lanes was in a segment
  pub shown_by : (whole : IsWhole start) (s : Side) (place : ℕ) → ((k : Known start plain fit turns) → Has (IsOnLane start (d start plain fit turns k) s place) (trace_of turns (opened_world start)))
      → Has (IsShown start (whole_acks start turns plain whole fit).0 s place) (trace_of turns (opened_world start))
  unfolding whole_acks
  shown_by whole s place lanes =
      let all = known_reaches start plain fit turns in
      let r = all.1 turns [] (append-nil turns) in
      has_map (trace_of turns (opened_world start)) (shown_last start (d start plain fit turns r.0) all.0 r.1 s place) (lanes r.0)

  -- each octet of it was in a segment
  pub read_shown : (whole : IsWhole start) (s : Side) (place : ℕ) → place < length (output_of (peer s) run)
      → Has (IsShown start (whole_acks start turns plain whole fit).0 s place) (trace_of turns (opened_world start))
  read_shown whole s place below = shown_by whole s place (λ k.
      let same = ap length (output_same (peer s)) in
      let count = read_count start plain fit turns k s in
      was_sent start plain fit turns k s place ((passed_of start plain fit turns k s).before place (omega (arith, below, same, count))))

  -- it is a first part of the other side's file
  pub read_begins : (s : Side) → IsPrefix (output_of (peer s) run) (file_of start s)
  read_begins A = in_turn (keep_their_word_in_octets start turns plain fit).ab.prefix (writes_the_files octets start turns).a.prefix
  read_begins B = in_turn (keep_their_word_in_octets start turns plain fit).ba.prefix (writes_the_files octets start turns).b.prefix

  -- and all of it once the run is delivered
  pub delivered_read : outcome_of run.crew ≡ Delivered → (s : Side) → output_of (peer s) run ≡ file_of start s
  delivered_read delivered s = output_same (peer s) ∙ by s (ends_told start turns plain fit delivered (peer s))
    where
      by : (s : Side) → was_told_end (peer s) (world_run values turns (opened_world start)) ≡ true → output_of (peer s) (world_run values turns (opened_world start)) ≡ file_of start s
      by A told = let all = (keep_their_word start turns plain).ab.told told in all.1 ∙ (writes_the_files values start turns).a.whole all.0
      by B told = let all = (keep_their_word start turns plain).ba.told told in all.1 ∙ (writes_the_files values start turns).b.whole all.0

-- where the run is delivered the end of each was told
pub delivered_ends : (start : Start) (turns : List Turn) → IsPlain start → IsWhole start → NumbersFit start → outcome_of (world_run octets turns (opened_world start)).crew ≡ Delivered
    → (s : Side) → Has (TellsEnd start s) (trace_of turns (opened_world start))
delivered_ends start turns plain whole fit delivered s = by s (always_known start plain fit turns) (ends_told start turns plain fit delivered (peer s))
  where
    knows : (k : Known start plain fit turns) → BothKnow (d start plain fit turns k)
    knows k = always_know (links start plain fit turns k).alters (links start plain fit turns k).checked (length start.paths) start.buffer start.buffer k.events

    by : (s : Side) (k : Known start plain fit turns) → was_told_end (peer s) (world_run values turns (opened_world start)) ≡ true → Has (TellsEnd start s) (trace_of turns (opened_world start))
    by A k told = end_told start plain whole fit turns B (ap (λ (b : Arriving). is_some b.known_end) (came_of start plain fit turns k A) ∙ (knows k).ab (told_end start plain fit turns k A told))
    by B k told = end_told start plain whole fit turns A (ap (λ (b : Arriving). is_some b.known_end) (came_of start plain fit turns k B) ∙ (knows k).ba (told_end start plain fit turns k B told))
