-- In the capture of a whole run whose segments come in time each position has one place, each place the octet of its side's file, each checksum is
-- right, and no Data ACK is of more than was seen.
use Rattle.std.proofs.Common.{◌≡◌, refl, sym, ap, ◌∙◌, subst, ℕ, zero, suc, ◌⊎◌, ◌+◌, ◌-◌, ◌<◌, ◌≤◌, true, Option, Some, None, option_map, is_some, Ok, Result, inl, inr, ⊎_elim, List, [], ◌∷◌, ◌++◌, length, append-nil, append_assoc, map, drop, arith}
use Rattle.std.specs.Prelude.{All, IfSome, get_or}
use Rattle.std.specs.List.{slice_get}
use Rattle.std.proofs.lemmas.List.{length-drop, length-take}
use Rattle.std.proofs.lemmas.List.Elements.{All-cons, All-head, All-nil, All-tail}
use Rattle.std.proofs.lemmas.Bool.{false≢true}
use Rattle.std.proofs.lemmas.Option.{slice_get-get_or, slice_get_within}
use Rattle.capture_reader.specs.Captured.{Captured}
use Rattle.capture_reader.specs.Seen.{Seen, segment_in_packet}
use Rattle.capture_reader.specs.Steps.{◌>>=◌}
use Rattle.capture_verdict.specs.Judging.{judged_capture, judged_if_seen, judged_packets}
use Rattle.judge_laws.proofs.Standing.{some_same}
use Rattle.judge_laws.specs.GoesOn.{stream_in}
use Rattle.judge_rules.specs.declared.acks.ToldPlace.{ToldPlace}
use Rattle.judge_rules.specs.declared.finding.Rule.{Rule}
use Rattle.link_trace.specs.declared.sent.Sent.{Sent}
use Rattle.octet_text.specs.Prefix.{IsPrefix}
use Rattle.path_core.specs.Octets.{octets}
use Rattle.rule_book.specs.Judged.{judged, nothing_judged}
use Rattle.rule_book.specs.State.{BookValue, JudgedValue, stream_at}
use Rattle.run_trace.specs.Trace.{trace_of}
use Rattle.seen_octets.specs.declared.octet.Octet.{Octet}
use Rattle.seen_streams.specs.State.{StreamValue}
use Rattle.sides.specs.Side.{peer}
use Rattle.sides.specs.declared.side.Side.{Side}
use Rattle.stream_lanes.proofs.Lists.{in_append, in_more}
use Rattle.stream_lanes.specs.Duo.{Duo}
use Rattle.stream_lanes.specs.Words.{Has}
use Rattle.world_laws.specs.NeverFalls.{IsWhole}
use Rattle.world_laws.specs.Openings.{Start, opened_world}
use Rattle.world_laws.specs.Promises.{IsPlain, NumbersFit}
use Rattle.world_laws.specs.Outcomes.{outcome_of, output_of}
use Rattle.world_laws.specs.Worlds.{Turn, all_over, world_run}
use Rattle.actor_desk.specs.Books.{books_in}
use Rattle.actor_desk.specs.Desk.{send_of}
use Rattle.stream_lanes.specs.Marks.{tried}
use Rattle.world_laws.specs.declared.outcome.Outcome.TheVariants.{Delivered}
use Rattle.own_runs.specs.Runs.{DeliveredRunsShowTheFiles, HasRead, NoWholeRunBreaks, ReadersGetWhatIsShown, ShowsTheFile, TriedOctetsAreSeen, WasSeen, capture_of, file_of}
use Rattle.own_runs.specs.Fitting.{RunFits}
use Rattle.own_runs.specs.Traces.{FitsCapture, packet_for}
use Rattle.own_runs.proofs.AckTrace.{IsKnown, StandsAt, narrowed, raised, stands_next}
use Rattle.own_runs.proofs.EndRuns.{TellsEnd}
use Rattle.own_runs.proofs.FineMoments.{Offered, content, file_len}
use Rattle.own_runs.proofs.Fitting.{traces_fit}
use Rattle.own_runs.proofs.Handed.{HasPart}
use Rattle.own_runs.proofs.InTime.{AnswersPath, OpensPath, ResetsPath, SynsPath, TellsKey}
use Rattle.own_runs.proofs.Kept.{same_judged}
use Rattle.own_runs.proofs.MapPositions.{StreamFine, is_mapping}
use Rattle.own_runs.proofs.MapTrace.{few}
use Rattle.own_runs.proofs.Moments.{IsSpoken}
use Rattle.own_runs.proofs.OneConnection.{nothing_one}
use Rattle.own_runs.proofs.OpenFlows.{which_some}
use Rattle.own_runs.proofs.OwnTrace.{found, seen_of}
use Rattle.own_runs.proofs.ShownAcks.{IsShown, delivered_ends, delivered_read, read_begins}
use Rattle.own_runs.proofs.TokenState.{nothing_holds}
use Rattle.own_runs.proofs.Traces.{traces_are}
use Rattle.own_runs.proofs.Values.{drawn}

-- a part of a file lies in it
part_within : (file piece : List ℕ) (place : ℕ) → HasPart file place piece → place < length file
part_within file piece place h =
    let long = ap length h.part ∙ length-take (length piece) (drop h.first file) in
    let rest = length-drop h.first file in
    let below = h.below in let above = h.above in
    omega (arith, long, rest, below, above)

-- in a list, or the last of it
last_or : {Y : Type 0} (P : Y → Type 0) (xs : List Y) (x : Y) → Has P (xs ++ x ∷ []) → Has P xs ⊎ P x
last_or {Y} P xs x h =
    ⊎_elim (λ before. inl (record { at = h.at; item = h.item; there = before; holds = h.holds })) (λ last. inr (only (h.at - length xs) last.1)) (in_append xs (x ∷ []) h.at h.item h.there)
  where
    only : (i : ℕ) → slice_get (x ∷ []) i ≡ Some h.item → P x
    only zero is = subst P (sym (some_same x h.item is)) h.holds
    only (suc i) is = cc

module _ (start : Start) (last : Duo) (fit : NumbersFit start) where
  abbrev pub ShownIn : List Sent → Side → ℕ → Type 0
  ShownIn before t q = Has (IsShown start last t q) before

  abbrev pub EndedIn : List Sent → Side → Type 0
  EndedIn before t = Has (TellsEnd start t) before

  shown_low : (before : List Sent) (t : Side) (q : ℕ) → ShownIn before t q → q < file_len start t
  shown_low before t q h = part_within (file_of start t) h.holds.covers.said.segment.payload q h.holds.covers.has

  -- all that is known of each segment of a trace behind others, where so much is wanted and so much was sent
  abbrev pub AllTimed : (ℕ → Side → ℕ) → List Sent → (ℕ → Type 0) → (ℕ → Type 0) → (ℕ → Type 0) → Type 0 → (ℕ → Side → Type 0) → List Sent → Type 0
  AllTimed most before U T S K X [] = Unit {0}
  AllTimed most before U T S K X (x ∷ trace) =
      (more : ℕ → Side → ℕ) × ((n : ℕ) (t : Side) → most n t ≤ more n t) × (s : IsSpoken (IsKnown start last fit U T K X more (ShownIn before) (EndedIn before)) start x)
      × AllTimed more (before ++ x ∷ []) (λ n. U n ⊎ OpensPath x s.segment n) (λ n. T n ⊎ AnswersPath x s.segment n) (λ n. S n ⊎ SynsPath x s.segment n) (K ⊎ TellsKey x s.segment) (λ n t. X n t ⊎ ((S n ⊎ SynsPath x s.segment n) × ResetsPath x s.segment n t)) trace

  -- what stands behind these
  pub record Stands (before : List Sent) (state : JudgedValue) : Type 1 where
    pub U : ℕ → Type 0
    pub T : ℕ → Type 0
    pub S : ℕ → Type 0
    pub K : Type 0
    pub X : ℕ → Side → Type 0
    pub most : ℕ → Side → ℕ
    pub stands : StandsAt start last fit U T S K X most (ShownIn before) (EndedIn before) state

  module _ (at : Option Side) where
    run_stands : (trace : List Sent) (most : ℕ → Side → ℕ) (before : List Sent) (U T S : ℕ → Type 0) (K : Type 0) (X : ℕ → Side → Type 0) (state : JudgedValue) (n : ℕ)
        → AllTimed most before U T S K X trace → All FitsCapture trace → StandsAt start last fit U T S K X most (ShownIn before) (EndedIn before) state
        → Stands (before ++ trace) (judged_packets at true state n (map packet_for trace))
    run_stands [] most before U T S K X state n timed fits h =
        record { U = U; T = T; S = S; K = K; X = X; most = most; stands = subst (λ (xs : List Sent). StandsAt start last fit U T S K X most (ShownIn xs) (EndedIn xs) state) (sym (append-nil before)) h }
    run_stands (x ∷ trace) most before U T S K X state n timed fits h =
        subst (λ (xs : List Sent). Stands xs (judged_packets at true state n (map packet_for (x ∷ trace)))) (append_assoc before (x ∷ []) trace)
        (run_stands trace timed.0 (before ++ x ∷ []) (λ n. U n ⊎ OpensPath x s.segment n) (λ n. T n ⊎ AnswersPath x s.segment n) (λ n. S n ⊎ SynsPath x s.segment n) (K ⊎ TellsKey x s.segment) (λ n t. X n t ⊎ ((S n ⊎ SynsPath x s.segment n) × ResetsPath x s.segment n t))
        (judged_if_seen at true state n (segment_in_packet (packet_for x))) (n + 1) timed.3 (All-tail FitsCapture x trace fits)
        (subst (λ (o : Option Seen). Now (judged_if_seen at true state n o)) (sym (found (Offered start last) start x offered short)) next))
      where
        s : IsSpoken (IsKnown start last fit U T K X timed.0 (ShownIn before) (EndedIn before)) start x
        s = timed.2

        short : length x.octets ≤ 65515
        short = (All-head FitsCapture x trace fits).octets

        offered : IsSpoken (Offered start last) start x
        offered = record { plan = s.plan; there = s.there; segment = s.segment; end = s.end; octets = s.octets; spoken = s.spoken; also = s.also.offered }

        Now : JudgedValue → Type 0
        Now = StandsAt start last fit (λ n. U n ⊎ OpensPath x s.segment n) (λ n. T n ⊎ AnswersPath x s.segment n) (λ n. S n ⊎ SynsPath x s.segment n) (K ⊎ TellsKey x s.segment) (λ n t. X n t ⊎ ((S n ⊎ SynsPath x s.segment n) × ResetsPath x s.segment n t)) timed.0
            (ShownIn (before ++ x ∷ [])) (EndedIn (before ++ x ∷ []))

        next : Now (judged at true state n (seen_of (Offered start last) start x offered short))
        next =
            narrowed start last fit (λ n. U n ⊎ OpensPath x s.segment n) (λ n. T n ⊎ AnswersPath x s.segment n) (λ n. S n ⊎ SynsPath x s.segment n) (K ⊎ TellsKey x s.segment) (λ n t. X n t ⊎ ((S n ⊎ SynsPath x s.segment n) × ResetsPath x s.segment n t)) timed.0
            (λ t q. ShownIn before t q ⊎ IsShown start last t q x) (ShownIn (before ++ x ∷ [])) (λ t. EndedIn before t ⊎ TellsEnd start t x) (EndedIn (before ++ x ∷ []))
            (judged at true state n (seen_of (Offered start last) start x offered short)) (λ t q. last_or (IsShown start last t q) before x) (λ t. last_or (TellsEnd start t) before x)
            (stands_next start last fit U T S K X timed.0 (ShownIn before) (EndedIn before) (shown_low before) x s short at n state
            (raised start last fit U T S K X most timed.0 (ShownIn before) (EndedIn before) state timed.1 h))

    begins : StandsAt start last fit (λ n. ⊥) (λ n. ⊥) (λ n. ⊥) ⊥ (λ n t. ⊥) (λ n t. 0) (ShownIn []) (EndedIn []) nothing_judged
    begins = record {
      tokens = record { seen = nothing_holds (drawn start); one = nothing_one (drawn start); books = λ i book at. absurd (none i at) };
      counts = record { sizes = record { known = λ no. absurd no; belongs = λ i f at. absurd (none i at) }; books = refl; lanes = refl };
      each = λ i f at. absurd (none i at);
      flows = λ n no. absurd no;
      opens = λ n no. absurd no;
      only = λ i f at. absurd (none i at);
      key = λ no. absurd no;
      shown = λ t q has. absurd (none has.at has.there);
      ended = λ t has. absurd (none has.at has.there);
      hold = record { seen = (nothing_holds (drawn start)).own; books = λ i book at. absurd (none i at); lanes = λ i lanes at. absurd (none i at) };
    }
      where
        none : {Y : Type 0} {y : Y} → (i : ℕ) → slice_get [] i ≡ Some y → ⊥
        none i e = cc

    pub all_stands : (trace : List Sent) → AllTimed (λ n t. 0) [] (λ n. ⊥) (λ n. ⊥) (λ n. ⊥) ⊥ (λ n t. ⊥) trace → All FitsCapture trace → Stands trace (judged_packets at true nothing_judged 1 (map packet_for trace))
    all_stands trace timed fits = run_stands trace (λ n t. 0) [] (λ n. ⊥) (λ n. ⊥) (λ n. ⊥) ⊥ (λ n t. ⊥) nothing_judged 1 timed fits begins

  -- on the paths of the start
  pub paths_are : (trace : List Sent) (most : ℕ → Side → ℕ) (before : List Sent) (U T S : ℕ → Type 0) (K : Type 0) (X : ℕ → Side → Type 0) → AllTimed most before U T S K X trace
      → All (λ s. s.path < length start.paths) trace
  paths_are [] most before U T S K X timed = All-nil (λ s. s.path < length start.paths)
  paths_are (x ∷ trace) most before U T S K X timed =
      All-cons (λ s. s.path < length start.paths) x trace (slice_get_within start.paths x.path timed.2.plan timed.2.there) (paths_are trace _ _ _ _ _ _ _ timed.3)

-- ---- a run

-- a place of a first part
in_begin : (xs ys : List ℕ) → IsPrefix xs ys → (i : ℕ) → i < length xs → slice_get ys i ≡ slice_get xs i
in_begin xs ys begins i below =
    let is = slice_get-get_or xs i 0 below in
    ap (λ (zs : List ℕ). slice_get zs i) begins.whole_is ∙ in_more xs begins.rest i (get_or xs i 0) is ∙ sym is

-- by its last lanes each segment of a whole run comes in time, and what was read was shown
abbrev pub WholeTimed : Type 0
WholeTimed = (start : Start) (turns : List Turn) → IsPlain start → IsWhole start → (fit : NumbersFit start) → RunFits start turns
    → (last : Duo) × AllTimed start last fit (λ n t. 0) [] (λ n. ⊥) (λ n. ⊥) (λ n. ⊥) ⊥ (λ n t. ⊥) (trace_of turns (opened_world start))
    × ((s : Side) (place : ℕ) → place < length (output_of (peer s) (world_run octets turns (opened_world start))) → Has (IsShown start last s place) (trace_of turns (opened_world start)))
    × (all_over (world_run octets turns (opened_world start)).crew ≡ true → (s : Side) (path place : ℕ) → path < length start.paths
    → tried path (slice_get (send_of s (books_in (world_run octets turns (opened_world start)).books)).marks place) ≡ true → Has (IsShown start last s place) (trace_of turns (opened_world start)))

module _ (whole_timed : WholeTimed) where
  module _ (start : Start) (turns : List Turn) (plain : IsPlain start) (whole : IsWhole start) (fit : NumbersFit start)
      (run : RunFits start turns)
      (side : Side) (at : Option Side) where
    abbrev trace : List Sent
    trace = trace_of turns (opened_world start)

    abbrev timed : (last : Duo) × AllTimed start last fit (λ n t. 0) [] (λ n. ⊥) (λ n. ⊥) (λ n. ⊥) ⊥ (λ n t. ⊥) trace
        × ((s : Side) (place : ℕ) → place < length (output_of (peer s) (world_run octets turns (opened_world start))) → Has (IsShown start last s place) trace)
        × (all_over (world_run octets turns (opened_world start)).crew ≡ true → (s : Side) (path place : ℕ) → path < length start.paths
        → tried path (slice_get (send_of s (books_in (world_run octets turns (opened_world start)).books)).marks place) ≡ true → Has (IsShown start last s place) trace)
    timed = whole_timed start turns plain whole fit run

    room : All FitsCapture trace
    room = traces_fit start turns plain.size fit run

    -- what is judged of its capture
    abbrev pub all_judged : JudgedValue
    all_judged = judged_packets at true nothing_judged 1 (map packet_for trace)

    pub all_read : judged_capture at true (capture_of start turns side) ≡ Ok all_judged
    all_read =
        let few = fit.paths in
        ap (λ (m : Result (List Captured) ℕ). m >>= λ packets. Ok (judged_packets at true nothing_judged 1 packets))
        (traces_are side (length start.paths) trace (omega (arith, few)) (paths_are start timed.0 fit trace _ _ _ _ _ _ _ timed.1) room)

    pub all_stood : Stands start timed.0 fit trace all_judged
    all_stood = all_stands start timed.0 fit at trace timed.1 room

    pub stood : (judged : JudgedValue) → judged_capture at true (capture_of start turns side) ≡ Ok judged → Stands start timed.0 fit trace judged
    stood judged read = subst (λ (j : JudgedValue). Stands start timed.0 fit trace j) (same_judged all_judged judged (sym all_read ∙ read)) all_stood

    module _ (connection : ℕ) (s : Side) (stream : StreamValue) (there : stream_in all_judged connection s ≡ Some stream) where
      fine : StreamFine (file_len start s) (few start timed.0 fit s) (content start s) stream
      fine = by (slice_get all_judged.books connection) refl there
        where
          by : (o : Option BookValue) → slice_get all_judged.books connection ≡ o → option_map (stream_at s) o ≡ Some stream → StreamFine (file_len start s) (few start timed.0 fit s) (content start s) stream
          by None e there = cc
          by (Some book) e there = subst (StreamFine (file_len start s) (few start timed.0 fit s) (content start s)) (some_same (stream_at s book) stream there) (all_stood.stands.hold.books connection book e s).fine

      seen_is : (place : ℕ) → stream.seen place ≡ true
          → (place < length (file_of start s)) × (option_map (λ (o : Octet). o.octet) (stream.octet place) ≡ slice_get (file_of start s) place)
      seen_is place seen = by (stream.octet place) (fine.octets place) (fine.there place seen)
        where
          by : (o : Option Octet) → IfSome o (λ o. (place < length (file_of start s)) × (o.octet ≡ get_or (file_of start s) place 0)) → is_some o ≡ true
              → (place < length (file_of start s)) × (option_map (λ (o : Octet). o.octet) o ≡ slice_get (file_of start s) place)
          by None is some = absurd (false≢true some)
          by (Some o) is some = (is.0, ap (λ (x : ℕ). Some x) is.1 ∙ sym (slice_get-get_or (file_of start s) place 0 is.0))

      end_is : (fin : ToldPlace) → stream.fin ≡ Some fin → fin.place ≡ file_len start s
      end_is fin is = subst (λ (o : Option ToldPlace). IfSome o (λ told. told.place ≡ file_len start s)) is fine.fin

    -- of what is judged
    judged_so : (judged : JudgedValue) → judged_capture at true (capture_of start turns side) ≡ Ok judged → (connection : ℕ) (s : Side) (stream : StreamValue)
        → stream_in judged connection s ≡ Some stream → stream_in all_judged connection s ≡ Some stream
    judged_so judged read connection s stream there =
        ap (λ (j : JudgedValue). stream_in j connection s) (same_judged all_judged judged (sym all_read ∙ read)) ∙ there

    -- what was in a segment was seen
    pub shown_seen : (s : Side) (place : ℕ) → Has (IsShown start timed.0 s place) trace → WasSeen all_judged s place
    shown_seen s place shown = by (slice_get all_judged.books 0) refl (all_stood.stands.shown s place shown)
      where
        by : (o : Option BookValue) → slice_get all_judged.books 0 ≡ o → is_some o ≡ true → WasSeen all_judged s place
        by None e some = absurd (false≢true some)
        by (Some book) e some =
            record { stream = stream_at s book; there = ap (option_map (stream_at s)) e; seen = (all_stood.stands.hold.books 0 book e s).seen place shown }

    -- what was read
    module _ (s : Side) (place : ℕ) (below : place < length (output_of (peer s) (world_run octets turns (opened_world start)))) where
      abbrev output : List ℕ
      output = output_of (peer s) (world_run octets turns (opened_world start))

      pub output_shown : HasRead start turns all_judged s place
      output_shown =
          let was = shown_seen s place (timed.2 s place below) in
          record {
            stream = was.stream;
            there = was.there;
            seen = was.seen;
            octet = (seen_is 0 s was.stream was.there place was.seen).1 ∙ in_begin output (file_of start s) (read_begins start turns plain fit s) place below;
          }

    -- once it is delivered
    module _ (delivered : outcome_of (world_run octets turns (opened_world start)).crew ≡ Delivered) (s : Side) where
      told : Has (TellsEnd start s) trace
      told = delivered_ends start turns plain whole fit delivered s

      pub file_shown : ShowsTheFile start s all_judged
      file_shown = by (slice_get all_judged.books 0) refl (all_stood.stands.ended s told)
        where
          by : (o : Option BookValue) → slice_get all_judged.books 0 ≡ o → is_some o ≡ true → ShowsTheFile start s all_judged
          by None e some = absurd (false≢true some)
          by (Some book) e some =
              let there : stream_in all_judged 0 s ≡ Some (stream_at s book) = ap (option_map (stream_at s)) e in
              let good = all_stood.stands.hold.books 0 book e s in
              let fin = which_some (stream_at s book).fin (good.fin told) in
              record {
                stream = stream_at s book;
                there = there;
                whole = record {
                  held = λ i below.
                      ap (λ (k : ℕ). option_map (λ (o : Octet). o.octet) ((stream_at s book).octet k)) (let same : 0 + i ≡ i = omega arith in same)
                      ∙ (seen_is 0 s (stream_at s book) there i (good.seen i (timed.2 s i (was_read i below)))).1 ∙ slice_get-get_or (file_of start s) i 0 below;
                  ends = none ((stream_at s book).octet (length (file_of start s))) ((fine 0 s (stream_at s book) there).octets (length (file_of start s)));
                };
                fin = fin.0;
                ended = fin.1;
                behind = end_is 0 s (stream_at s book) there fin.0 fin.1;
              }
            where
              none : (o : Option Octet) → IfSome o (λ o. (length (file_of start s) < length (file_of start s)) × (o.octet ≡ content start s (length (file_of start s)))) → o ≡ None
              none None is = refl
              none (Some o) is = absurd (let below = is.0 in omega (arith, below))

              was_read : (i : ℕ) → i < length (file_of start s) → i < length (output_of (peer s) (world_run octets turns (opened_world start)))
              was_read i below = let same = ap length (delivered_read start turns plain fit delivered s) in omega (arith, below, same)

  pub no_whole_run_breaks : (r : Rule) → is_mapping r ≡ true → NoWholeRunBreaks r
  no_whole_run_breaks r is start turns plain whole fit run side at judged read connection s stream there =
      (fine start turns plain whole fit run side at connection s stream (judged_so start turns plain whole fit run side at judged read connection s stream there)).untold r is

  pub reads_are : ReadersGetWhatIsShown
  reads_are start turns plain whole fit run side at judged read s place below =
      subst (λ (j : JudgedValue). HasRead start turns j s place) (same_judged (all_judged start turns plain whole fit run side at) judged (sym (all_read start turns plain whole fit run side at) ∙ read))
      (output_shown start turns plain whole fit run side at s place below)

  pub tried_are : TriedOctetsAreSeen
  tried_are start turns plain whole fit run over side at judged read s path place below is =
      subst (λ (j : JudgedValue). WasSeen j s place) (same_judged (all_judged start turns plain whole fit run side at) judged (sym (all_read start turns plain whole fit run side at) ∙ read))
      (shown_seen start turns plain whole fit run side at s place ((whole_timed start turns plain whole fit run).3 over s path place below is))

  pub files_are : DeliveredRunsShowTheFiles
  files_are start turns plain whole fit run delivered side at =
      (all_judged start turns plain whole fit run side at, all_read start turns plain whole fit run side at, file_shown start turns plain whole fit run side at delivered)
