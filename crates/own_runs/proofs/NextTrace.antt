-- In the trace of a run the Data ACKs of a side on a path are what its end there wants, which never falls.
use Rattle.std.proofs.Common.{◌≡◌, refl, sym, ap, ◌∙◌, subst, ℕ, suc, ◌-◌, ◌≤◌, ⊎_elim, Option, Some, None, List, [], ◌∷◌, ◌++◌, append_assoc, append-nil, length, arith}
use Rattle.std.specs.List.{slice_get}
use Rattle.std.specs.Option.{IfSome}
use Rattle.std.proofs.lemmas.Option.{slice_get_within}
use Rattle.link_trace.specs.declared.sent.Sent.{Sent}
use Rattle.path_core.specs.Looking.{first_sends, segment_sent}
use Rattle.path_core.specs.Octets.{octets}
use Rattle.path_core.specs.Said.{said_by}
use Rattle.path_core.specs.Shown.{shown_path}
use Rattle.path_core.specs.State.{PathState, end_at, path_of}
use Rattle.path_core.specs.Values.{Carried, values}
use Rattle.path_segments.specs.Options.{PlainOption}
use Rattle.path_segments.specs.Spelled.{PlainSegment}
use Rattle.path_segments.specs.declared.segment.PathOption.TheVariants.{Dss}
use Rattle.run_trace.specs.Trace.{sent_at, trace_of}
use Rattle.sides.specs.declared.side.Side.{Side}
use Rattle.stream_lanes.proofs.Lists.{Every-map, in_append, in_map}
use Rattle.stream_lanes.specs.Words.{Every}
use Rattle.world_laws.proofs.Lanes.Beginning.{each_run_shows}
use Rattle.world_laws.proofs.Lanes.OfAWorld.{PathThere, WorldShows, anyhow, anyhow_free, first_duo, free_run}
use Rattle.world_laws.proofs.Promises.Made.{run_fresh}
use Rattle.world_laws.proofs.Worlds.CastLifting.{each_actor, path_actor}
use Rattle.world_laws.proofs.Worlds.Casts.{Walker, walking}
use Rattle.stream_lanes.specs.Duo.{Duo, after_events}
use Rattle.world_laws.specs.Actors.{Actor, ActorCrew}
use Rattle.world_laws.specs.Fresh.{shown_crew, shown_member}
use Rattle.world_laws.specs.Openings.{Start, opened_world}
use Rattle.world_laws.specs.Promises.{HasRoom, NumbersFit}
use Rattle.world_laws.specs.Worlds.{Turn, WorldState, after_turn, world_run}
use Rattle.world_laws.specs.declared.member.Member.TheVariants.{App, Path}
use Rattle.own_runs.specs.Arrivals.{AckRises, AcksRise, EachAckRises}
use Rattle.own_runs.proofs.Acking.{OptionAcks, SendsAcks, first_sent_acks}
use Rattle.own_runs.proofs.Moments.{IsSpoken, MemberAlso, PathAlso, WorldAlso, end_shown, first_same, turn_spoken, world_speaks}
use Rattle.own_runs.proofs.NextRuns.{MemberUp, never_falls}
use Rattle.own_runs.proofs.Speaking.{ToSend}

-- ---- what an end wants

abbrev pub member_wants : Side → Actor Carried → ℕ
member_wants s (App a) = 0
member_wants s (Path p) = (end_at s p).receiving.next

abbrev actor_wants : Side → Option (ActorCrew Carried) → ℕ
actor_wants s None = 0
actor_wants s (Some c) = member_wants s c.member

-- the end of this side on this path
abbrev pub wants : WorldState Carried → ℕ → Side → ℕ
wants w n s = actor_wants s (slice_get w.crew (suc (suc n)))

-- at a moment of a connection
abbrev pub wants_at : Start → List Turn → ℕ → Side → ℕ
wants_at start turns n s = wants (world_run values turns (opened_world start)) n s

pub run_append : (before later : List Turn) (w : WorldState Carried) → world_run values (before ++ later) w ≡ world_run values later (world_run values before w)
run_append [] later w = refl
run_append (turn ∷ before) later w = run_append before later (after_turn values turn w)

pub wants_up : (start : Start) (before later : List Turn) (n : ℕ) (s : Side) → wants_at start before n s ≤ wants_at start (before ++ later) n s
wants_up start before later n s =
    subst (λ (v : WorldState Carried). wants w n s ≤ wants v n s) (sym (run_append before later (opened_world start))) (by (slice_get w.crew (suc (suc n))) refl)
  where
    w : WorldState Carried
    w = world_run values before (opened_world start)

    up : (m n : Actor Carried) → MemberUp m n → member_wants s m ≤ member_wants s n
    up (App a) n is = omega arith
    up (Path p) n is = subst (λ (m : Actor Carried). (end_at s p).receiving.next ≤ member_wants s m) (sym is.1) (is.2 s)

    by : (o : Option (ActorCrew Carried)) → slice_get w.crew (suc (suc n)) ≡ o → actor_wants s o ≤ wants (world_run values later w) n s
    by None e = omega arith
    by (Some c) e =
        let later_one = never_falls start before later (suc (suc n)) c e in
        let more = up c.member later_one.0.member later_one.2 in
        subst (λ (o : Option (ActorCrew Carried)). member_wants s c.member ≤ actor_wants s o) (sym later_one.1) more

-- ---- what is sent next

-- each Data ACK in it is this
abbrev pub AcksBy : (ℕ → Side → ℕ) → ℕ → Side → PlainSegment → Type 0
AcksBy most path s sg = Every (OptionAcks (most path s)) sg.options

module _ (start : Start) (turns : List Turn) (size : HasRoom start) (fit : NumbersFit start) where
  abbrev v : WorldState Carried
  v = world_run values turns (opened_world start)

  abbrev Q : ℕ → Side → PlainSegment → Type 0
  Q = AcksBy (wants_at start turns)

  all : (d : Duo) × WorldShows (anyhow start size).links start d v
  all =
      let can = anyhow start size in let r = each_run_shows start can turns (free_run can.links (anyhow_free start size) turns (opened_world start)) in
      (after_events r.events (first_duo can.links start), r.shows)

  shows : WorldShows (anyhow start size).links start all.0 v
  shows = all.1

  path_so : (n : ℕ) (x : Walker Carried) → slice_get shows.cast.paths n ≡ Some x → PathAlso Q x.path
  path_so n x at = by (first_sends x.path.agenda x.path) (first_sent_acks x.path x.path.agenda)
    where
      there : PathThere start shows.lanes_ab shows.lanes_ba n x.path
      there = shows.paths.each n n x (omega arith) at

      here : slice_get v.crew (suc (suc n)) ≡ Some (walking x)
      here = subst (λ (w : WorldState Carried). slice_get w.crew (suc (suc n)) ≡ Some (walking x)) (sym shows.is) (path_actor shows.cast n x at)

      same : (s : Side) → (end_at s x.path).receiving.next ≡ wants_at start turns (path_of x.path) s
      same s = sym (ap (λ (k : ℕ). wants_at start turns k s) there.numbered ∙ ap (actor_wants s) here)

      by : (o : Option ToSend) → IfSome o (SendsAcks x.path) → IfSome o (λ t. Q (path_of x.path) t.from (segment_sent x.path t))
      by None acks = tt
      by (Some t) acks = subst (λ (n : ℕ). Every (OptionAcks n) (segment_sent x.path t).options) (same t.from) acks

  valued : WorldAlso Q v
  valued = subst (λ (w : WorldState Carried). WorldAlso Q w) (sym shows.is) (each_actor (λ i c. MemberAlso Q c.member) shows.cast tt tt (λ n x at. path_so n x at))

  path_also : (p : PathState Carried) → PathAlso Q p → PathAlso Q (shown_path p)
  path_also p s = subst (λ (o : Option ToSend). IfSome o Shown) (sym (first_same p.agenda p)) (by (first_sends p.agenda p) s)
    where
      Shown : ToSend → Type 0
      Shown = λ t. Q (path_of (shown_path p)) t.from (segment_sent (shown_path p) t)

      by : (o : Option ToSend) → IfSome o (λ t. Q (path_of p) t.from (segment_sent p t)) → IfSome o Shown
      by None said = tt
      by (Some t) said = subst (λ e. Q (path_of p) t.from (said_by t.kind p.profile t.from e)) (end_shown t.from p) said

  member_also : (m : Actor Carried) → MemberAlso Q m → MemberAlso Q (shown_member m)
  member_also (App a) s = tt
  member_also (Path p) s = path_also p s

  -- each Data ACK of the next segment is what its end wants
  pub also_next : WorldAlso (AcksBy (wants_at start turns)) (world_run octets turns (opened_world start))
  also_next =
      subst (λ (w : WorldState (List ℕ)). WorldAlso Q w) (sym (run_fresh start turns size fit))
      (λ i c at.
      let found = in_map shown_crew v.crew i c at in
      subst (λ (y : ActorCrew (List ℕ)). MemberAlso Q y.member) found.2 (member_also found.0.member (valued i found.0 found.1)))

-- ---- a trace

pub octets_append : (before later : List Turn) (w : WorldState (List ℕ)) → world_run octets (before ++ later) w ≡ world_run octets later (world_run octets before w)
octets_append [] later w = refl
octets_append (turn ∷ before) later w = octets_append before later (after_turn octets turn w)

module _ (start : Start) (size : HasRoom start) (fit : NumbersFit start) where
  abbrev at_moment : List Turn → WorldState (List ℕ)
  at_moment before = world_run octets before (opened_world start)

  -- a segment acknowledges what its end wants at some moment after these turns
  record IsAt (before : List Turn) (x : Sent) : Type 0 where
    more : List Turn
    said : IsSpoken (AcksBy (wants_at start (before ++ more))) start x

  turn_said : (before : List Turn) (turn : Turn) → Every (IsSpoken (AcksBy (wants_at start before)) start) (sent_at turn (at_moment before))
  turn_said before turn = turn_spoken (AcksBy (wants_at start before)) start turn (at_moment before) (world_speaks start before size fit) (also_next start before size fit)

  now_at : (before : List Turn) (x : Sent) → IsSpoken (AcksBy (wants_at start before)) start x → IsAt before x
  now_at before x said = record { more = []; said = subst (λ (ts : List Turn). IsSpoken (AcksBy (wants_at start ts)) start x) (sym (append-nil before)) said }

  later_at : (before : List Turn) (turn : Turn) (x : Sent) → IsAt (before ++ turn ∷ []) x → IsAt before x
  later_at before turn x h =
      record { more = turn ∷ h.more; said = subst (λ (ts : List Turn). IsSpoken (AcksBy (wants_at start ts)) start x) (append_assoc before (turn ∷ []) h.more) h.said }

  next_moment : (before : List Turn) (turn : Turn) → after_turn octets turn (at_moment before) ≡ at_moment (before ++ turn ∷ [])
  next_moment before turn = sym (octets_append before (turn ∷ []) (opened_world start))

  each_at : (before turns : List Turn) (i : ℕ) (x : Sent) → slice_get (trace_of turns (at_moment before)) i ≡ Some x → IsAt before x
  each_at before [] i x is = cc
  each_at before (turn ∷ turns) i x is =
      ⊎_elim
      (λ here. now_at before x ((turn_said before turn).each i x here))
      (λ later. later_at before turn x (each_at (before ++ turn ∷ []) turns (i - length (sent_at turn (at_moment before))) x
      (ap (λ (w : WorldState (List ℕ)). slice_get (trace_of turns w) (i - length (sent_at turn (at_moment before)))) (sym (next_moment before turn)) ∙ later.1)))
      (in_append (sent_at turn (at_moment before)) (trace_of turns (after_turn octets turn (at_moment before))) i x is)

  rises_so : (n m : ℕ) → n ≤ m → (o q : PlainOption) → OptionAcks n o → OptionAcks m q → AckRises o q
  rises_so n m up (Dss (Some one) mapping) (Dss (Some other) more) is too = omega (arith, up, is, too)
  rises_so n m up (Dss (Some one) mapping) (Dss None more) is too = tt
  rises_so n m up (Dss (Some one) mapping) _ is too = tt
  rises_so n m up (Dss None mapping) q is too = tt
  rises_so n m up _ q is too = tt

  -- of two segments, one of a moment and one of the same or a later one
  two_rise : (before : List Turn) (x y : Sent) → IsSpoken (AcksBy (wants_at start before)) start x → IsAt before y → x.path ≡ y.path → x.from ≡ y.from → AcksRise x y
  two_rise before x y said later path from = record {
    spelling = _;
    one = said.segment;
    one_octets = said.octets;
    other_spelling = _;
    other = later.said.segment;
    other_octets = later.said.octets;
    rises = Every-map (λ o is. Every-map (λ q too. rises_so (wants_at start before x.path x.from) (wants_at start (before ++ later.more) y.path y.from) up o q is too) later.said.also) said.also;
  }
    where
      up : wants_at start before x.path x.from ≤ wants_at start (before ++ later.more) y.path y.from
      up = subst (λ (n : ℕ). wants_at start before x.path x.from ≤ wants_at start (before ++ later.more) n y.from) path
          (subst (λ (s : Side). wants_at start before x.path x.from ≤ wants_at start (before ++ later.more) x.path s) from (wants_up start before later.more x.path x.from))

  each_rises : (before turns : List Turn) (i j : ℕ) (x y : Sent) → i ≤ j → slice_get (trace_of turns (at_moment before)) i ≡ Some x → slice_get (trace_of turns (at_moment before)) j ≡ Some y
      → x.path ≡ y.path → x.from ≡ y.from → AcksRise x y
  each_rises before [] i j x y up is too path from = cc
  each_rises before (turn ∷ turns) i j x y up is too path from =
      ⊎_elim (λ here. two_rise before x y ((turn_said before turn).each i x here) (each_at before (turn ∷ turns) j y too) path from)
      (λ later. ⊎_elim
      (λ there. let within = slice_get_within now j y there in let low = later.0 in absurd (omega (arith, within, low, up)))
      (λ further. each_rises (before ++ turn ∷ []) turns (i - length now) (j - length now) x y (omega (arith, up)) (moved i x later.1) (moved j y further.1) path from)
      (in_append now rest j y too))
      (in_append now rest i x is)
    where
      now : List Sent
      now = sent_at turn (at_moment before)

      rest : List Sent
      rest = trace_of turns (after_turn octets turn (at_moment before))

      moved : (k : ℕ) (z : Sent) → slice_get rest (k - length now) ≡ Some z → slice_get (trace_of turns (at_moment (before ++ turn ∷ []))) (k - length now) ≡ Some z
      moved k z at = ap (λ (w : WorldState (List ℕ)). slice_get (trace_of turns w) (k - length now)) (sym (next_moment before turn)) ∙ at

pub acks_rise : EachAckRises
acks_rise start turns size fit i j x y up is too path from = each_rises start size fit [] turns i j x y up is too path from
