-- In the capture of a run, whatever its script does, no place has two octets, and the DATA_FIN stands at one place.
use Rattle.std.proofs.Common.{◌≡◌, refl, sym, ap, ◌∙◌, subst, ℕ, suc, ◌+◌, ◌<◌, ◌≤◌, ◌⊎◌, inl, inr, ⊎_elim, true, false, Option, Some, None, option_map, Ok, Result, List, [], ◌∷◌, ◌++◌, append_assoc, length, map, arith}
use Rattle.std.specs.Prelude.{All}
use Rattle.std.specs.List.{list_any, slice_get}
use Rattle.std.proofs.lemmas.Bool.{false≢true, or_cases}
use Rattle.std.proofs.lemmas.List.Elements.{All-cons, All-head, All-nil, All-tail}
use Rattle.std.proofs.lemmas.Option.{slice_get_within}
use Rattle.capture_reader.specs.Captured.{Captured}
use Rattle.capture_reader.specs.Seen.{Seen, segment_in_packet}
use Rattle.capture_reader.specs.Steps.{◌>>=◌}
use Rattle.capture_verdict.specs.Judging.{judged_capture, judged_if_seen, judged_packets}
use Rattle.judge_laws.proofs.Standing.{some_same}
use Rattle.judge_laws.specs.GoesOn.{stream_in}
use Rattle.link_trace.specs.declared.sent.Sent.{Sent}
use Rattle.path_core.specs.Octets.{octets}
use Rattle.mptcp_options.specs.declared.capable.CapableKeys.TheVariants.{Both, NoKey, Sender, WithData}
use Rattle.path_segments.specs.Options.{PlainOption}
use Rattle.path_segments.specs.Spelled.{PlainSegment}
use Rattle.path_segments.specs.declared.segment.PathMapping.TheVariants.{Bytes, End, Infinite}
use Rattle.path_segments.specs.declared.segment.PathOption.TheVariants.{Capable, Dss}
use Rattle.rule_book.specs.Judged.{judged, nothing_judged}
use Rattle.rule_book.specs.State.{BookValue, JudgedValue, stream_at}
use Rattle.run_trace.specs.Trace.{sent_at, trace_of}
use Rattle.seen_streams.specs.State.{StreamValue}
use Rattle.sides.specs.declared.side.Side.TheVariants.{A, B}
use Rattle.sides.specs.declared.side.Side.{Side}
use Rattle.stream_lanes.specs.Duo.{Duo}
use Rattle.world_laws.specs.Openings.{Start, opened_world}
use Rattle.world_laws.specs.Promises.{HasRoom, NumbersFit}
use Rattle.world_laws.specs.Worlds.{Turn, WorldState, after_turn, world_run}
use Rattle.own_runs.specs.Fitting.{RunFits}
use Rattle.own_runs.specs.Runs.{capture_of}
use Rattle.own_runs.specs.Traces.{FitsCapture, packet_for}
use Rattle.own_runs.proofs.AckMoments.{Sends, one_turn}
use Rattle.own_runs.proofs.Bearing.{maps_octets}
use Rattle.own_runs.proofs.BearsPlain.{BearsPlain, bears_at}
use Rattle.own_runs.proofs.ComesTimes.{Answered, Opened, comes_keyed}
use Rattle.own_runs.proofs.EndMaps.{IsMapped, LineAt, content, file_len, lane_of, upto_of}
use Rattle.own_runs.proofs.Fitting.{traces_fit}
use Rattle.own_runs.proofs.InTime.{LinesPath, OpensAt, ResetsPath, Sending, SynsAt, SynsPath, TellsLineAt, WasReset, WasSaid, turn_sending, was_last, was_more, was_split}
use Rattle.own_runs.proofs.Kept.{same_judged}
use Rattle.own_runs.proofs.LastLanes.{AtLast}
use Rattle.own_runs.proofs.LateJoins.{ComesBehind, Says}
use Rattle.own_runs.proofs.Learning.{IsAlone, IsAnswer}
use Rattle.own_runs.proofs.Lines.{StreamLined}
use Rattle.own_runs.proofs.LinesTrace.{AgreeOn, EndIn, LineKnown, LinesAt, as_told, begins, lines_next}
use Rattle.own_runs.proofs.MapTrace.{few}
use Rattle.own_runs.proofs.Offering.{AllFine, OptionFine}
use Rattle.own_runs.proofs.OneConnection.{OneHolds}
use Rattle.own_runs.proofs.OpenCounts.{AreCounted}
use Rattle.own_runs.proofs.OwnFlows.{Each, FlowsOwn}
use Rattle.own_runs.proofs.TokenFlows.{IsNamed}
use Rattle.own_runs.proofs.Values.{drawn}
use Rattle.own_runs.proofs.Moments.{IsSpoken, WorldAlso, world_speaks}
use Rattle.own_runs.proofs.NextTrace.{octets_append}
use Rattle.own_runs.proofs.OwnTrace.{found}
use Rattle.own_runs.proofs.ShownAcks.{both_worlds}
use Rattle.own_runs.proofs.TellsPlaces.{RunTells, Tells}
use Rattle.own_runs.proofs.TimeRuns.{OpensSo, opens_so}
use Rattle.own_runs.proofs.Traces.{traces_are}

-- ---- over the segments of a trace

module _ (start : Start) (Told : Duo → ℕ → Side → ℕ → ℕ → Type 0) (Fails : Type 0) (last : Duo) (fit : NumbersFit start) (ended : AtLast start last) where
  -- all that is known of each, where so much was sent before it
  abbrev pub AllKnown : Type 0 → Type 0 → (ℕ → Type 0) → (ℕ → Side → Type 0) → (ℕ → Side → Type 0) → List Sent → Type 0
  AllKnown U T S X G [] = Unit {0}
  AllKnown U T S X G (x ∷ trace) =
      (s : IsSpoken (LineKnown start Told Fails last fit ended U T X G) start x)
      × AllKnown (U ⊎ Says start A IsAlone x s.segment) (T ⊎ Says start B IsAnswer x s.segment) (λ n. S n ⊎ SynsPath x s.segment n)
      (λ n t. X n t ⊎ ((S n ⊎ SynsPath x s.segment n) × ResetsPath x s.segment n t)) (λ n t. G n t ⊎ LinesPath x s.segment n t) trace

  -- what each stream is
  abbrev pub BooksLined : JudgedValue → Type 0
  BooksLined state = (i : ℕ) (book : BookValue) → slice_get state.books i ≡ Some book → (s : Side) → StreamLined (file_len start s) (few start last fit s) (content start s) (stream_at s book)

  -- and what is known of the flows and the connection
  pub record Settled (state : JudgedValue) : Type 0 where
    pub books : BooksLined state
    pub own : FlowsOwn (drawn start) state.seen
    pub named : Each IsNamed state.seen.flows
    pub one : OneHolds (drawn start) state.seen
    pub counts : AreCounted state

  module _ (agree : AgreeOn (Told last)) (at : Option Side) where
    run_lined : (trace : List Sent) (U T : Type 0) (S : ℕ → Type 0) (X G : ℕ → Side → Type 0) (state : JudgedValue) (n : ℕ) → AllKnown U T S X G trace → All FitsCapture trace
        → LinesAt start Told Fails last fit ended U T S X G state → Settled (judged_packets at true state n (map packet_for trace))
    run_lined [] U T S X G state n known fits h =
        record { books = λ i book there s. (h.hold.books i book there s).1; own = h.tokens.seen.own; named = h.tokens.seen.named; one = h.tokens.one; counts = h.counts }
    run_lined (x ∷ trace) U T S X G state n known fits h =
        run_lined trace (U ⊎ Says start A IsAlone x s.segment) (T ⊎ Says start B IsAnswer x s.segment) (λ n. S n ⊎ SynsPath x s.segment n)
        (λ n t. X n t ⊎ ((S n ⊎ SynsPath x s.segment n) × ResetsPath x s.segment n t)) (λ n t. G n t ⊎ LinesPath x s.segment n t) (judged_if_seen at true state n (segment_in_packet (packet_for x))) (n + 1) known.1 (All-tail FitsCapture x trace fits)
        (subst (λ (o : Option Seen). Now (judged_if_seen at true state n o)) (sym (found (Tells start Told Fails last) start x told short)) (lines_next start Told Fails last fit ended U T S X G x s short agree at n state h))
      where
        s : IsSpoken (LineKnown start Told Fails last fit ended U T X G) start x
        s = known.0

        short : length x.octets ≤ 65515
        short = (All-head FitsCapture x trace fits).octets

        told : IsSpoken (Tells start Told Fails last) start x
        told = as_told start Told Fails last fit ended U T S X G x s short

        Now : JudgedValue → Type 0
        Now = LinesAt start Told Fails last fit ended (U ⊎ Says start A IsAlone x s.segment) (T ⊎ Says start B IsAnswer x s.segment) (λ n. S n ⊎ SynsPath x s.segment n)
            (λ n t. X n t ⊎ ((S n ⊎ SynsPath x s.segment n) × ResetsPath x s.segment n t)) (λ n t. G n t ⊎ LinesPath x s.segment n t)

    pub all_lined : (trace : List Sent) → AllKnown ⊥ ⊥ (λ n. ⊥) (λ n t. ⊥) (λ n t. ⊥) trace → All FitsCapture trace → Settled (judged_packets at true nothing_judged 1 (map packet_for trace))
    all_lined trace known fits = run_lined trace ⊥ ⊥ (λ n. ⊥) (λ n t. ⊥) (λ n t. ⊥) nothing_judged 1 known fits (begins start Told Fails last fit ended)

  -- on the paths of the start
  pub paths_are : (trace : List Sent) (U T : Type 0) (S : ℕ → Type 0) (X G : ℕ → Side → Type 0) → AllKnown U T S X G trace → All (λ s. s.path < length start.paths) trace
  paths_are [] U T S X G known = All-nil (λ s. s.path < length start.paths)
  paths_are (x ∷ trace) U T S X G known =
      All-cons (λ s. s.path < length start.paths) x trace (slice_get_within start.paths x.path known.0.plan known.0.there) (paths_are trace _ _ _ _ _ known.1)

-- ---- at each moment of a run

module _ (start : Start) (Told : Duo → ℕ → Side → ℕ → ℕ → Type 0) (Fails : Type 0) (turns : List Turn) (size : HasRoom start) (fit : NumbersFit start)
    (told : RunTells start Told Fails turns) where
  abbrev pub world : List Turn → WorldState (List ℕ)
  world before = world_run octets before (opened_world start)

  -- where the FINs of a trace stand
  abbrev pub FinsStand : Type 0
  FinsStand = (before later : List Turn) (turn : Turn) → before ++ turn ∷ later ≡ turns → (y : Sending) → turn_sending turn (world before) ≡ Some y → y.segment.fin ≡ true
      → (y.segment.rst ≡ false) × EndIn start Told Fails told.0 fit told.2 y.path y.from (y.segment.position + length y.segment.payload)

  -- nothing is mapped behind an infinite mapping that was told on another path
  abbrev pub AreApart : Type 0
  AreApart = (before later : List Turn) (turn : Turn) → before ++ turn ∷ later ≡ turns → (y : Sending) → turn_sending turn (world before) ≡ Some y
      → Tells start Told Fails told.0 y.path y.from y.segment → list_any maps_octets y.segment.options ≡ true
      → (q place position : ℕ) → (q ≡ y.path → ⊥) → Told told.0 q y.from place position → WasSaid start (TellsLineAt q y.from) before → ⊥

  module _ (fins : FinsStand) (agree : AgreeOn (Told told.0)) (apart : AreApart) where
    abbrev Q : List Turn → ℕ → Side → PlainSegment → Type 0
    Q before path s sg =
        (Tells start Told Fails told.0 path s sg × ComesBehind (Opened start size fit before) (Answered start size fit before) path s sg) × (OpensSo start size fit before path s sg × BearsPlain path s sg)

    also : (before later : List Turn) → before ++ later ≡ turns → WorldAlso (Q before) (world before)
    also before later is =
        both_worlds (λ path s sg. Tells start Told Fails told.0 path s sg × ComesBehind (Opened start size fit before) (Answered start size fit before) path s sg)
        (λ path s sg. OpensSo start size fit before path s sg × BearsPlain path s sg) (world before)
        (both_worlds (Tells start Told Fails told.0) (ComesBehind (Opened start size fit before) (Answered start size fit before)) (world before) (told.1 before later is) (comes_keyed start size fit before))
        (both_worlds (OpensSo start size fit before) BearsPlain (world before) (opens_so start size fit before) (bears_at start size fit before))

    -- what is told by the turns is told by the segments
    record ToldBy (before : List Turn) (U T : Type 0) (S : ℕ → Type 0) (X G : ℕ → Side → Type 0) : Type 0 where
      opened : Opened start size fit before → U
      answered : Answered start size fit before → T
      syn : (n : ℕ) → S n → WasSaid start (SynsAt n) before
      reset : (n : ℕ) (t : Side) → X n t → WasReset start n t before
      line : (n : ℕ) (t : Side) → G n t → WasSaid start (TellsLineAt n t) before

    abbrev Keyed : Sending → Type 0
    Keyed y = (y.path ≡ 0) × (y.from ≡ B) × IsAnswer y.segment

    reset_more : (before : List Turn) (turn : Turn) (n : ℕ) (t : Side) → WasReset start n t before → WasReset start n t (before ++ turn ∷ [])
    reset_more before turn n t h = record {
      more = h.more;
      turn = h.turn;
      later = h.later ++ turn ∷ [];
      is = sym (append_assoc h.more (h.turn ∷ h.later) (turn ∷ [])) ∙ ap (λ (ts : List Turn). ts ++ turn ∷ []) h.is;
      said = h.said;
      sends = h.sends;
      holds = h.holds;
      begun = h.begun;
    }

    module _ (before : List Turn) (turn : Turn) (U T : Type 0) (S : ℕ → Type 0) (X G : ℕ → Side → Type 0) (h : ToldBy before U T S X G) where
      none_more : turn_sending turn (world before) ≡ None → ToldBy (before ++ turn ∷ []) U T S X G
      none_more none = record {
        opened = λ is. h.opened (only (OpensAt 0) is);
        answered = λ is. h.answered (only Keyed is);
        syn = λ n s. was_more start (SynsAt n) before turn (h.syn n s);
        reset = λ n t x. reset_more before turn n t (h.reset n t x);
        line = λ n t g. was_more start (TellsLineAt n t) before turn (h.line n t g);
      }
        where
          clash : (o : Option Sending) (y : Sending) → o ≡ None → o ≡ Some y → ⊥
          clash None y none some = cc
          clash (Some z) y none some = cc

          only : (P : Sending → Type 0) → WasSaid start P (before ++ turn ∷ []) → WasSaid start P before
          only P is = ⊎_elim (λ was. was) (λ now. absurd (clash (turn_sending turn (world before)) now.0 none now.1)) (was_split start P before turn is)

      one_more : (x : Sent) (sg : PlainSegment) → turn_sending turn (world before) ≡ Some (record { path = x.path; from = x.from; segment = sg })
          → ToldBy (before ++ turn ∷ []) (U ⊎ Says start A IsAlone x sg) (T ⊎ Says start B IsAnswer x sg) (λ n. S n ⊎ SynsPath x sg n) (λ n t. X n t ⊎ ((S n ⊎ SynsPath x sg n) × ResetsPath x sg n t)) (λ n t. G n t ⊎ LinesPath x sg n t)
      one_more x sg sends = record {
        opened = λ is. ⊎_elim (λ was. inl (h.opened was)) (λ now. inr (now_so (OpensAt 0) now)) (was_split start (OpensAt 0) before turn is);
        answered = λ is. ⊎_elim (λ was. inl (h.answered was)) (λ now. inr (now_so Keyed now)) (was_split start Keyed before turn is);
        syn = syn_so;
        reset = λ n t. ⊎_elim (λ x. reset_more before turn n t (h.reset n t x))
            (λ now. record { more = before; turn = turn; later = []; is = refl; said = y; sends = sends; holds = now.1; begun = syn_so n now.0 });
        line = λ n t. ⊎_elim (λ g. was_more start (TellsLineAt n t) before turn (h.line n t g)) (λ now. was_last start (TellsLineAt n t) before turn y sends now);
      }
        where
          y : Sending
          y = record { path = x.path; from = x.from; segment = sg }

          syn_so : (n : ℕ) → S n ⊎ SynsPath x sg n → WasSaid start (SynsAt n) (before ++ turn ∷ [])
          syn_so n (inl s) = was_more start (SynsAt n) before turn (h.syn n s)
          syn_so n (inr now) = was_last start (SynsAt n) before turn _ sends now

          same : (z : Sending) → turn_sending turn (world before) ≡ Some z → z ≡ y
          same z other = some_same z y (sym other ∙ sends)

          now_so : (P : Sending → Type 0) → (z : Sending) × (turn_sending turn (world before) ≡ Some z) × P z → P (record { path = x.path; from = x.from; segment = sg })
          now_so P it = subst P (same it.0 it.1) it.2

    module _ (before later : List Turn) (turn : Turn) (is : before ++ turn ∷ later ≡ turns) (U T : Type 0) (S : ℕ → Type 0) (X G : ℕ → Side → Type 0) (h : ToldBy before U T S X G) (x : Sent) (o : Option Sending)
        (made : o ≡ turn_sending turn (world before)) (s : IsSpoken (λ path t sg. Q before path t sg × (o ≡ Some (record { path = path; from = t; segment = sg }))) start x) where
      known : IsSpoken (LineKnown start Told Fails told.0 fit told.2 U T X G) start x
      known = record {
        plan = s.plan;
        there = s.there;
        segment = s.segment;
        end = s.end;
        octets = s.octets;
        spoken = s.spoken;
        also = record {
          tells = s.also.0.0.0;
          comes = (let comes = s.also.0.0.1 in record {
            acks = comes.acks;
            joins = λ of_a syn more. h.answered (comes.joins of_a syn more);
            answers = λ first of_b answer. h.opened (comes.answers first of_b answer);
          });
          living = λ rst x. s.also.0.1.0.living rst (h.reset _ _ x);
          says = s.also.0.1.1.says;
          apart = λ maps away. apart before later turn is (record { path = x.path; from = x.from; segment = s.segment }) (sym made ∙ s.also.1) s.also.0.0.0 maps away.0 away.1.place away.3.0.0 away.2
              away.3.0.2 (h.line away.0 x.from away.3.1);
          fin = λ fin. fins before later turn is (record { path = x.path; from = x.from; segment = s.segment }) (sym made ∙ s.also.1) fin;
        };
      }

    next_world : (before : List Turn) (turn : Turn) → world (before ++ turn ∷ []) ≡ after_turn octets turn (world before)
    next_world before turn = octets_append before (turn ∷ []) (opened_world start)

    -- what comes of the turns behind one more
    abbrev Rest : List Turn → Turn → List Turn → Type 1
    Rest before turn rest = (V W : Type 0) (R : ℕ → Type 0) (Y H : ℕ → Side → Type 0) → ToldBy (before ++ turn ∷ []) V W R Y H
        → AllKnown start Told Fails told.0 fit told.2 V W R Y H (trace_of rest (world (before ++ turn ∷ [])))

    known_rest : (rest before : List Turn) → before ++ rest ≡ turns → (U T : Type 0) (S : ℕ → Type 0) (X G : ℕ → Side → Type 0) → ToldBy before U T S X G
        → AllKnown start Told Fails told.0 fit told.2 U T S X G (trace_of rest (world before))
    unfolding known
    known_rest [] before is U T S X G h = tt
    known_rest (turn ∷ rest) before is U T S X G h =
        by (λ V W R Y H told_by. known_rest rest (before ++ turn ∷ []) is_next V W R Y H told_by) (one_turn (Q before) start turn (world before) (world_speaks start before size fit) (also before (turn ∷ rest) is))
      where
        is_next : (before ++ turn ∷ []) ++ rest ≡ turns
        is_next = append_assoc before (turn ∷ []) rest ∙ is

        by : Rest before turn rest → Sends (Q before) start (sent_at turn (world before)) (turn_sending turn (world before))
            → AllKnown start Told Fails told.0 fit told.2 U T S X G (sent_at turn (world before) ++ trace_of rest (after_turn octets turn (world before)))
        by later (inl it) =
            subst (λ (xs : List Sent). AllKnown start Told Fails told.0 fit told.2 U T S X G (xs ++ trace_of rest (after_turn octets turn (world before)))) (sym it.0)
            (subst (λ (w : WorldState (List ℕ)). AllKnown start Told Fails told.0 fit told.2 U T S X G (trace_of rest w)) (next_world before turn) (later U T S X G (none_more before turn U T S X G h it.1)))
        by later (inr it) =
            subst (λ (xs : List Sent). AllKnown start Told Fails told.0 fit told.2 U T S X G (xs ++ trace_of rest (after_turn octets turn (world before)))) (sym it.1) (
              known before rest turn is U T S X G h it.0 (turn_sending turn (world before)) refl it.2,
              subst (λ (w : WorldState (List ℕ)). AllKnown start Told Fails told.0 fit told.2 V W R Y H (trace_of rest w)) (next_world before turn)
                  (later V W R Y H (one_more before turn U T S X G h it.0 it.2.segment it.2.also.1)),
            )
          where
            V : Type 0
            V = U ⊎ Says start A IsAlone it.0 it.2.segment

            W : Type 0
            W = T ⊎ Says start B IsAnswer it.0 it.2.segment

            R : ℕ → Type 0
            R = λ n. S n ⊎ SynsPath it.0 it.2.segment n

            Y : ℕ → Side → Type 0
            Y = λ n t. X n t ⊎ ((S n ⊎ SynsPath it.0 it.2.segment n) × ResetsPath it.0 it.2.segment n t)

            H : ℕ → Side → Type 0
            H = λ n t. G n t ⊎ LinesPath it.0 it.2.segment n t

    none_said : (P : Sending → Type 0) → WasSaid start P [] → ⊥
    none_said P h = none h.more h.is
      where
        none : (more : List Turn) → more ++ h.turn ∷ h.later ≡ [] → ⊥
        none [] e = cc
        none (m ∷ more) e = cc

    pub all_known : AllKnown start Told Fails told.0 fit told.2 ⊥ ⊥ (λ n. ⊥) (λ n t. ⊥) (λ n t. ⊥) (trace_of turns (opened_world start))
    all_known =
        known_rest turns [] refl ⊥ ⊥ (λ n. ⊥) (λ n t. ⊥) (λ n t. ⊥)
        (record { opened = λ is. none_said (OpensAt 0) is; answered = λ is. none_said Keyed is; syn = λ n no. absurd no; reset = λ n t no. absurd no; line = λ n t no. absurd no })

    -- what the judge finds
    module _ (run : RunFits start turns) (side : Side) (at : Option Side) where
      abbrev trace : List Sent
      trace = trace_of turns (opened_world start)

      room : All FitsCapture trace
      room = traces_fit start turns size fit run

      abbrev pub verdict : JudgedValue
      verdict = judged_packets at true nothing_judged 1 (map packet_for trace)

      pub is_read : judged_capture at true (capture_of start turns side) ≡ Ok verdict
      is_read =
          let few_paths = fit.paths in
          ap (λ (m : Result (List Captured) ℕ). m >>= λ packets. Ok (judged_packets at true nothing_judged 1 packets))
          (traces_are side (length start.paths) trace (omega (arith, few_paths)) (paths_are start Told Fails told.0 fit told.2 trace _ _ _ _ _ all_known) room)

      pub settled : Settled start Told Fails told.0 fit told.2 verdict
      settled = all_lined start Told Fails told.0 fit told.2 agree at trace all_known room

      -- of a side
      pub stands_so : (judged : JudgedValue) → judged_capture at true (capture_of start turns side) ≡ Ok judged → (connection : ℕ) (s : Side) (stream : StreamValue)
          → stream_in judged connection s ≡ Some stream → StreamLined (file_len start s) (few start told.0 fit s) (content start s) stream
      stands_so judged read connection s stream there =
          by (slice_get verdict.books connection) refl (ap (λ (j : JudgedValue). stream_in j connection s) (same_judged verdict judged (sym is_read ∙ read)) ∙ there)
        where
          by : (o : Option BookValue) → slice_get verdict.books connection ≡ o → option_map (stream_at s) o ≡ Some stream
              → StreamLined (file_len start s) (few start told.0 fit s) (content start s) stream
          by None e none = cc
          by (Some book) e some =
              subst (StreamLined (file_len start s) (few start told.0 fit s) (content start s)) (some_same (stream_at s book) stream some) (settled.books connection book e s)

-- ---- nothing on a lane

module _ (start : Start) (Told : Duo → ℕ → Side → ℕ → ℕ → Type 0) (Fails : Type 0) (last : Duo) (path : ℕ) (s : Side) (none : upto_of (lane_of last path s) ≡ 0) where
  -- where a lane has nothing nothing is mapped
  maps_none : (o : PlainOption) → OptionFine (file_len start) (IsMapped start last path) (LineAt start Told last path) Fails s o → maps_octets o ≡ true → ⊥
  maps_none (Dss next (Some (Bytes place position len fin checksum))) is maps = let some = is.0 in let low = is.3.2 in let within = is.3.3 in omega (arith, none, some, low, within)
  maps_none (Dss next (Some (End place checksum))) is maps = false≢true maps
  maps_none (Dss next (Some (Infinite place position))) is maps = false≢true maps
  maps_none (Dss next None) is maps = false≢true maps
  maps_none (Capable flag_a flag_c (WithData sender receiver len checksum)) is maps = let some = is.0 in let within = is.2.3 in omega (arith, none, some, within)
  maps_none (Capable flag_a flag_c NoKey) is maps = false≢true maps
  maps_none (Capable flag_a flag_c (Sender sender)) is maps = false≢true maps
  maps_none (Capable flag_a flag_c (Both sender receiver)) is maps = false≢true maps
  maps_none _ is maps = false≢true maps

  pub all_none : (options : List PlainOption) → AllFine (file_len start) (IsMapped start last path) (LineAt start Told last path) Fails s options → list_any maps_octets options ≡ true → ⊥
  all_none [] each maps = false≢true maps
  all_none (o ∷ options) each maps =
      ⊎_elim (λ here. maps_none o (each.each 0 o refl) here) (λ later. all_none options (record { each = λ i y at. each.each (suc i) y at }) later) (or_cases (maps_octets o) (list_any maps_octets options) maps)
