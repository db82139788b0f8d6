-- Where at each moment of a whole run the segments that are sent next come in time, each segment of its trace does, with all else that is known of it.
use Rattle.std.proofs.Common.{◌≡◌, refl, sym, ap, ◌∙◌, subst, ℕ, ◌⊎◌, ◌≤◌, Option, Some, None, option_map, inl, inr, ⊎_elim, List, [], ◌∷◌, ◌++◌, append-nil, append_assoc, arith}
use Rattle.std.specs.List.{slice_get}
use Rattle.std.specs.Option.{IfSome, option_and_then, option_to_list}
use Rattle.link_trace.specs.declared.sent.Sent.{Sent}
use Rattle.path_core.specs.Looking.{departing_as, first_sends, segment_sent}
use Rattle.path_core.specs.Octets.{octets}
use Rattle.path_core.specs.State.{PathState, path_of}
use Rattle.path_segments.specs.Options.{PlainOption}
use Rattle.path_segments.specs.Spelled.{PlainSegment}
use Rattle.path_segments.specs.declared.segment.PathOption.TheVariants.{Dss}
use Rattle.run_trace.specs.Trace.{sent_as, sent_at, sent_by, trace_of}
use Rattle.sides.specs.declared.side.Side.{Side}
use Rattle.stream_lanes.specs.Duo.{Duo}
use Rattle.world_core.specs.Looking.{crew_path, member_path}
use Rattle.world_laws.specs.Actors.{Actor, ActorCrew}
use Rattle.world_laws.specs.NeverFalls.{IsWhole}
use Rattle.world_laws.specs.Openings.{Start, opened_world}
use Rattle.world_laws.specs.Promises.{IsPlain, NumbersFit}
use Rattle.world_laws.specs.Worlds.{Turn, WorldState, after_turn, world_run}
use Rattle.world_laws.specs.declared.member.Member.TheVariants.{App, Path}
use Rattle.own_runs.proofs.AckRuns.{AllTimed, EndedIn, ShownIn, WholeTimed}
use Rattle.own_runs.proofs.AckTrace.{AckSaid, IsKnown}
use Rattle.own_runs.proofs.Acking.{OptionAcks}
use Rattle.own_runs.proofs.ComesTimes.{comes_at}
use Rattle.own_runs.proofs.InTime.{AnswersAt, AnswersPath, ComesAt, InTime, KeyAt, OpensAt, OpensPath, ResetsPath, Sending, SynsAt, SynsPath, TellsKey, TimeAt, WasReset, WasSaid, crew_sending, member_sending, path_sending, sending_as, turn_sending, was_last, was_more, was_split}
use Rattle.own_runs.proofs.LateJoins.{ComesBehind}
use Rattle.own_runs.proofs.Moments.{IsSpoken, MemberAlso, MemberSpeaks, PathAlso, PathSpeaks, WorldAlso, WorldSpeaks, path_sends, world_speaks}
use Rattle.own_runs.proofs.NextTrace.{AcksBy, also_next, octets_append, wants_at, wants_up}
use Rattle.own_runs.proofs.RoundShown.{tried_shown}
use Rattle.own_runs.proofs.ShownAcks.{EndTold, IsShown, OfferedAndAcked, both_worlds, read_shown, whole_acks}
use Rattle.own_runs.proofs.Speaking.{ToSend}
use Rattle.own_runs.proofs.ToldAcks.{AckShows}
use Rattle.own_runs.proofs.WasSent.{trace_append}

-- ---- what a turn sends

module _ (R : ℕ → Side → PlainSegment → Type 0) (start : Start) where
  -- with what is sent
  abbrev With : Option Sending → ℕ → Side → PlainSegment → Type 0
  With o path s sg = R path s sg × (o ≡ Some (record { path = path; from = s; segment = sg }))

  -- of a step that sends one segment, or none
  abbrev pub Sends : List Sent → Option Sending → Type 0
  Sends sent o = ((sent ≡ []) × (o ≡ None)) ⊎ ((x : Sent) × (sent ≡ x ∷ []) × IsSpoken (With o) start x)

  path_one : (p : PathState (List ℕ)) → PathSpeaks start p → PathAlso R p → Sends (option_to_list (sent_by p)) (path_sending p)
  path_one p said more = by (first_sends p.agenda p) refl
    where
      by : (o : Option ToSend) → first_sends p.agenda p ≡ o → Sends (option_to_list (sent_by p)) (path_sending p)
      by None e =
          inl (
            ap (λ (o : Option ToSend). option_to_list (option_map (sent_as p) (option_map (departing_as p) o))) e,
            ap (λ (o : Option ToSend). option_map (sending_as p) o) e,
          )
      by (Some t) e =
          let it : IfSome (sent_by p) (IsSpoken (With (path_sending p)) start) = path_sends (With (path_sending p)) start p said (subst (λ (o : Option ToSend). IfSome o Said) (sym e) both) in
          inr (sent_as p (departing_as p t), sent_so, subst (λ (o : Option Sent). IfSome o (IsSpoken (With (path_sending p)) start)) sent_is it)
        where
          Said : ToSend → Type 0
          Said t = With (path_sending p) (path_of p) t.from (segment_sent p t)

          both : Said t
          both = (
            subst (λ (o : Option ToSend). IfSome o (λ t. R (path_of p) t.from (segment_sent p t))) e more,
            ap (λ (o : Option ToSend). option_map (sending_as p) o) e,
          )

          sent_is : sent_by p ≡ Some (sent_as p (departing_as p t))
          sent_is = ap (λ (o : Option ToSend). option_map (sent_as p) (option_map (departing_as p) o)) e

          sent_so : option_to_list (sent_by p) ≡ sent_as p (departing_as p t) ∷ []
          sent_so = ap option_to_list sent_is

  pub one_turn : (turn : Turn) (w : WorldState (List ℕ)) → WorldSpeaks start w → WorldAlso R w → Sends (sent_at turn w) (turn_sending turn w)
  one_turn Turn.Round w speaks also = inl (refl, refl)
  one_turn (Turn.Step i) w speaks also = by (slice_get w.crew i) refl
    where
      member : (m : Actor (List ℕ)) → MemberSpeaks start m → MemberAlso R m → Sends (option_to_list (option_and_then sent_by (member_path m))) (member_sending m)
      member (App a) said more = inl (refl, refl)
      member (Path p) said more = path_one p said more

      by : (o : Option (ActorCrew (List ℕ))) → slice_get w.crew i ≡ o → Sends (option_to_list (option_and_then sent_by (crew_path o))) (crew_sending o)
      by None at = inl (refl, refl)
      by (Some c) at = member c.member (speaks i c at) (also i c at)

-- ---- what was sent before, told in other words

time_map : (U T V W : ℕ → Type 0) (K L : Type 0) (X Y : ℕ → Side → Type 0) → ((n : ℕ) → U n → V n) → ((n : ℕ) → T n → W n) → (K → L) → ((n : ℕ) (t : Side) → Y n t → X n t)
    → (path : ℕ) (s : Side) (sg : PlainSegment) → InTime U T K X path s sg → InTime V W L Y path s sg
time_map U T V W K L X Y u t k x path s sg h = record {
  answers = λ of_b is. u path (h.answers of_b is);
  bears = λ is. let it = h.bears is in (it.0, it.1, t path it.2, λ y. it.3 (x path s y));
  key = λ is of_a. ⊎_elim (λ was. inl (k was)) (λ now. inr now) (h.key is of_a);
  keys = λ is. let it = h.keys is in (it.0, t path it.1);
  first = h.first;
  shows = h.shows;
}

comes_map : (U T V W : Type 0) → (U → V) → (T → W) → (path : ℕ) (s : Side) (sg : PlainSegment) → ComesBehind U T path s sg → ComesBehind V W path s sg
comes_map U T V W u t path s sg h = record { acks = h.acks; joins = λ of_a syn more. t (h.joins of_a syn more); answers = λ first of_b is. u (h.answers first of_b is) }

-- ---- a run

module _ (start : Start) (turns : List Turn) (plain : IsPlain start) (whole : IsWhole start) (fit : NumbersFit start)
    (time : (more later : List Turn) → more ++ later ≡ turns → WorldAlso (TimeAt start more) (world_run octets more (opened_world start))) where
  abbrev pub acks_of : (last : Duo) × ((more later : List Turn) → more ++ later ≡ turns
      → WorldAlso (OfferedAndAcked start last (trace_of more (opened_world start))) (world_run octets more (opened_world start)))
  acks_of = whole_acks start turns plain whole fit

  abbrev world : List Turn → WorldState (List ℕ)
  world before = world_run octets before (opened_world start)

  abbrev sent : List Turn → List Sent
  sent before = trace_of before (opened_world start)

  abbrev Q : List Turn → ℕ → Side → PlainSegment → Type 0
  Q before path s sg =
      (OfferedAndAcked start acks_of.0 (sent before) path s sg × AcksBy (wants_at start before) path s sg) × (TimeAt start before path s sg × ComesAt start before path s sg)

  also : (before later : List Turn) → before ++ later ≡ turns → WorldAlso (Q before) (world before)
  also before later is =
      both_worlds (λ path s sg. OfferedAndAcked start acks_of.0 (sent before) path s sg × AcksBy (wants_at start before) path s sg)
      (λ path s sg. TimeAt start before path s sg × ComesAt start before path s sg) (world before)
      (both_worlds (OfferedAndAcked start acks_of.0 (sent before)) (AcksBy (wants_at start before)) (world before) (acks_of.1 before later is) (also_next start before plain.size fit))
      (both_worlds (TimeAt start before) (ComesAt start before) (world before) (time before later is) (comes_at start plain.size fit before))

  one_said : (most : ℕ → Side → ℕ) (before : List Sent) (path : ℕ) (s : Side) (o : PlainOption) → AckShows (IsShown start acks_of.0) (EndTold start before) before s o → OptionAcks (most path s) o
      → AckSaid start acks_of.0 fit most (ShownIn start acks_of.0 fit before) (EndedIn start acks_of.0 fit before) path s o
  one_said most before path s (Dss (Some next) mapping) shows is = (is, λ q below. shows q below)
  one_said most before path s (Dss None mapping) shows is = tt
  one_said most before path s _ shows is = tt

  -- what is told by the turns is told by the segments
  record Told (before : List Turn) (U T S : ℕ → Type 0) (K : Type 0) (X : ℕ → Side → Type 0) : Type 0 where
    opened : (n : ℕ) → WasSaid start (OpensAt n) before → U n
    answered : (n : ℕ) → WasSaid start (AnswersAt n) before → T n
    key : WasSaid start KeyAt before → K
    syn : (n : ℕ) → S n → WasSaid start (SynsAt n) before
    reset : (n : ℕ) (t : Side) → X n t → WasReset start n t before

  reset_more : (before : List Turn) (turn : Turn) (n : ℕ) (t : Side) → WasReset start n t before → WasReset start n t (before ++ turn ∷ [])
  reset_more before turn n t h = record {
    more = h.more;
    turn = h.turn;
    later = h.later ++ turn ∷ [];
    is = sym (append_assoc h.more (h.turn ∷ h.later) (turn ∷ [])) ∙ ap (λ (ts : List Turn). ts ++ turn ∷ []) h.is;
    said = h.said;
    sends = h.sends;
    holds = h.holds;
    begun = h.begun;
  }

  module _ (before : List Turn) (turn : Turn) (U T S : ℕ → Type 0) (K : Type 0) (X : ℕ → Side → Type 0) (h : Told before U T S K X) where
    none_more : turn_sending turn (world before) ≡ None → Told (before ++ turn ∷ []) U T S K X
    none_more none = record {
      opened = λ n is. h.opened n (only (OpensAt n) is);
      answered = λ n is. h.answered n (only (AnswersAt n) is);
      key = λ is. h.key (only KeyAt is);
      syn = λ n s. was_more start (SynsAt n) before turn (h.syn n s);
      reset = λ n t x. reset_more before turn n t (h.reset n t x);
    }
      where
        clash : (o : Option Sending) (y : Sending) → o ≡ None → o ≡ Some y → ⊥
        clash None y none some = cc
        clash (Some z) y none some = cc

        only : (P : Sending → Type 0) → WasSaid start P (before ++ turn ∷ []) → WasSaid start P before
        only P is = ⊎_elim (λ was. was) (λ now. absurd (clash (turn_sending turn (world before)) now.0 none now.1)) (was_split start P before turn is)

    one_more : (x : Sent) (sg : PlainSegment) → turn_sending turn (world before) ≡ Some (record { path = x.path; from = x.from; segment = sg })
        → Told (before ++ turn ∷ []) (λ n. U n ⊎ OpensPath x sg n) (λ n. T n ⊎ AnswersPath x sg n) (λ n. S n ⊎ SynsPath x sg n) (K ⊎ TellsKey x sg)
        (λ n t. X n t ⊎ ((S n ⊎ SynsPath x sg n) × ResetsPath x sg n t))
    one_more x sg sends = record {
      opened = λ n is. ⊎_elim (λ was. inl (h.opened n was)) (λ now. inr (now_so (OpensAt n) now)) (was_split start (OpensAt n) before turn is);
      answered = λ n is. ⊎_elim (λ was. inl (h.answered n was)) (λ now. inr (now_so (AnswersAt n) now)) (was_split start (AnswersAt n) before turn is);
      key = λ is. ⊎_elim (λ was. inl (h.key was)) (λ now. inr (now_so KeyAt now)) (was_split start KeyAt before turn is);
      syn = syn_so;
      reset = λ n t. ⊎_elim (λ x. reset_more before turn n t (h.reset n t x))
          (λ now. record { more = before; turn = turn; later = []; is = refl; said = y; sends = sends; holds = now.1; begun = syn_so n now.0 });
    }
      where
        y : Sending
        y = record { path = x.path; from = x.from; segment = sg }

        syn_so : (n : ℕ) → S n ⊎ SynsPath x sg n → WasSaid start (SynsAt n) (before ++ turn ∷ [])
        syn_so n (inl s) = was_more start (SynsAt n) before turn (h.syn n s)
        syn_so n (inr now) = was_last start (SynsAt n) before turn _ sends now

        same : (z : Sending) → turn_sending turn (world before) ≡ Some z → z ≡ y
        same z other = some_is (sym other ∙ sends)
          where
            some_is : {a b : Sending} → (let one : Option Sending = Some a in one) ≡ Some b → a ≡ b
            some_is e = cc

        now_so : (P : Sending → Type 0) → (z : Sending) × (turn_sending turn (world before) ≡ Some z) × P z → P (record { path = x.path; from = x.from; segment = sg })
        now_so P it = subst P (same it.0 it.1) it.2

  module _ (before : List Turn) (U T S : ℕ → Type 0) (K : Type 0) (X : ℕ → Side → Type 0) (h : Told before U T S K X) (x : Sent) (o : Option Sending) (s : IsSpoken (With (Q before) start o) start x) where
    known : IsSpoken (IsKnown start acks_of.0 fit U T K X (wants_at start before) (ShownIn start acks_of.0 fit (sent before)) (EndedIn start acks_of.0 fit (sent before))) start x
    known = record {
      plan = s.plan;
      there = s.there;
      segment = s.segment;
      end = s.end;
      octets = s.octets;
      spoken = s.spoken;
      also = record {
        offered = s.also.0.0.0.0;
        acks = record { each = λ i y at. one_said (wants_at start before) (sent before) x.path x.from y (s.also.0.0.0.1.each i y at) (s.also.0.0.1.each i y at) };
        comes = comes_map (WasSaid start (OpensAt 0) before) (WasSaid start (AnswersAt 0) before) (U 0) (T 0) (h.opened 0) (h.answered 0) x.path x.from s.segment s.also.0.1.1;
        time = time_map (λ n. WasSaid start (OpensAt n) before) (λ n. WasSaid start (AnswersAt n) before) U T (WasSaid start KeyAt before) K (λ n t. WasReset start n t before) X
            h.opened h.answered h.key h.reset x.path x.from s.segment s.also.0.1.0;
      };
    }

  abbrev Timed : (ℕ → Side → ℕ) → List Sent → (ℕ → Type 0) → (ℕ → Type 0) → (ℕ → Type 0) → Type 0 → (ℕ → Side → Type 0) → List Sent → Type 0
  Timed = AllTimed start acks_of.0 fit

  next_world : (before : List Turn) (turn : Turn) → world (before ++ turn ∷ []) ≡ after_turn octets turn (world before)
  next_world before turn = octets_append before (turn ∷ []) (opened_world start)

  next_sent : (before : List Turn) (turn : Turn) → sent (before ++ turn ∷ []) ≡ sent before ++ sent_at turn (world before)
  next_sent before turn = trace_append before (turn ∷ []) (opened_world start) ∙ ap (λ (xs : List Sent). sent before ++ xs) (append-nil (sent_at turn (world before)))

  -- what comes of the turns behind one more
  abbrev Rest : List Turn → Turn → List Turn → Type 1
  Rest before turn rest = (more : ℕ → Side → ℕ) → ((n : ℕ) (t : Side) → more n t ≤ wants_at start (before ++ turn ∷ []) n t) → (V W R : ℕ → Type 0) (L : Type 0) (Y : ℕ → Side → Type 0)
      → Told (before ++ turn ∷ []) V W R L Y → Timed more (sent (before ++ turn ∷ [])) V W R L Y (trace_of rest (world (before ++ turn ∷ [])))

  timed_rest : (rest before : List Turn) → before ++ rest ≡ turns → (most : ℕ → Side → ℕ) → ((n : ℕ) (t : Side) → most n t ≤ wants_at start before n t)
      → (U T S : ℕ → Type 0) (K : Type 0) (X : ℕ → Side → Type 0) → Told before U T S K X → Timed most (sent before) U T S K X (trace_of rest (world before))
  unfolding known
  timed_rest [] before is most low U T S K X h = tt
  timed_rest (turn ∷ rest) before is most low U T S K X h = by (λ more up V W R L Y told. timed_rest rest (before ++ turn ∷ []) is_next more up V W R L Y told) (one_turn (Q before) start turn (world before) (world_speaks start before plain.size fit) (also before (turn ∷ rest) is))
    where
      is_next : (before ++ turn ∷ []) ++ rest ≡ turns
      is_next = append_assoc before (turn ∷ []) rest ∙ is

      by : Rest before turn rest → Sends (Q before) start (sent_at turn (world before)) (turn_sending turn (world before))
          → Timed most (sent before) U T S K X (sent_at turn (world before) ++ trace_of rest (after_turn octets turn (world before)))
      by later (inl it) =
          subst (λ (xs : List Sent). Timed most (sent before) U T S K X (xs ++ trace_of rest (after_turn octets turn (world before)))) (sym it.0)
          (subst (λ (w : WorldState (List ℕ)). Timed most (sent before) U T S K X (trace_of rest w)) (next_world before turn)
          (subst (λ (xs : List Sent). Timed most xs U T S K X (trace_of rest (world (before ++ turn ∷ [])))) sent_is
          (later most (λ n t. let up = wants_up start before (turn ∷ []) n t in let lo = low n t in omega (arith, up, lo)) U T S K X
          (none_more before turn U T S K X h it.1))))
        where
          sent_is : sent (before ++ turn ∷ []) ≡ sent before
          sent_is = next_sent before turn ∙ ap (λ (xs : List Sent). sent before ++ xs) it.0 ∙ append-nil (sent before)
      by later (inr it) =
          subst (λ (xs : List Sent). Timed most (sent before) U T S K X (xs ++ trace_of rest (after_turn octets turn (world before)))) (sym it.1) (
            wants_at start before,
            low,
            known before U T S K X h it.0 (turn_sending turn (world before)) it.2,
            subst (λ (w : WorldState (List ℕ)). Timed (wants_at start before) (sent before ++ it.0 ∷ []) V W R L Y (trace_of rest w)) (next_world before turn)
                (subst (λ (xs : List Sent). Timed (wants_at start before) xs V W R L Y (trace_of rest (world (before ++ turn ∷ [])))) sent_is
                (later (wants_at start before) (λ n t. wants_up start before (turn ∷ []) n t) V W R L Y
                (one_more before turn U T S K X h it.0 it.2.segment it.2.also.1))),
          )
        where
          V : ℕ → Type 0
          V = λ n. U n ⊎ OpensPath it.0 it.2.segment n

          W : ℕ → Type 0
          W = λ n. T n ⊎ AnswersPath it.0 it.2.segment n

          R : ℕ → Type 0
          R = λ n. S n ⊎ SynsPath it.0 it.2.segment n

          L : Type 0
          L = K ⊎ TellsKey it.0 it.2.segment

          Y : ℕ → Side → Type 0
          Y = λ n t. X n t ⊎ ((S n ⊎ SynsPath it.0 it.2.segment n) × ResetsPath it.0 it.2.segment n t)

          sent_is : sent (before ++ turn ∷ []) ≡ sent before ++ it.0 ∷ []
          sent_is = next_sent before turn ∙ ap (λ (xs : List Sent). sent before ++ xs) it.1

  none_said : (P : Sending → Type 0) → WasSaid start P [] → ⊥
  none_said P h = none h.more h.is
    where
      none : (more : List Turn) → more ++ h.turn ∷ h.later ≡ [] → ⊥
      none [] e = cc
      none (m ∷ more) e = cc

  pub all_timed : Timed (λ n t. 0) [] (λ n. ⊥) (λ n. ⊥) (λ n. ⊥) ⊥ (λ n t. ⊥) (trace_of turns (opened_world start))
  all_timed =
      timed_rest turns [] refl (λ n t. 0) (λ n t. omega arith) (λ n. ⊥) (λ n. ⊥) (λ n. ⊥) ⊥ (λ n t. ⊥)
      (record { opened = λ n is. none_said (OpensAt n) is; answered = λ n is. none_said (AnswersAt n) is; key = λ is. none_said KeyAt is; syn = λ n no. absurd no; reset = λ n t no. absurd no })

-- at each moment of a whole run the segments that are sent next come in time
abbrev pub WholeComes : Type 0
WholeComes = (start : Start) (turns : List Turn) → IsPlain start → IsWhole start → NumbersFit start → WorldAlso (TimeAt start turns) (world_run octets turns (opened_world start))

pub whole_timed : WholeComes → WholeTimed
whole_timed comes start turns plain whole fit run =
    ((whole_acks start turns plain whole fit).0, all_timed start turns plain whole fit (λ more later is. comes start more plain whole fit), read_shown start turns plain fit whole, tried_shown start turns plain fit whole)
