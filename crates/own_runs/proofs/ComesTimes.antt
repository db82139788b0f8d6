-- At each moment of a run each SYN of a join that is sent next comes behind the SYN/ACK of path 0, and that behind A's SYN, as its turns sent them.
use Rattle.std.proofs.Common.{◌≡◌, refl, sym, ap, ◌∙◌, subst, ℕ, zero, suc, map, ⊎_elim, false, Option, Some, None, option_map, List, [], ◌∷◌, ◌++◌, append-nil, append_assoc}
use Rattle.std.specs.List.{slice_get}
use Rattle.std.specs.Option.{IfSome}
use Rattle.actor_desk.specs.Books.{books_in}
use Rattle.path_core.specs.Looking.{first_sends, segment_sent}
use Rattle.path_core.specs.MpJoin.{is_joined}
use Rattle.path_core.specs.Octets.{octets}
use Rattle.path_core.specs.Said.{said_by}
use Rattle.path_core.specs.Shown.{shown_path}
use Rattle.path_core.specs.State.{PathState, path_of}
use Rattle.path_core.specs.Values.{Carried, values}
use Rattle.path_segments.specs.Spelled.{PlainSegment}
use Rattle.sides.specs.declared.side.Side.TheVariants.{A, B}
use Rattle.sides.specs.declared.side.Side.{Side}
use Rattle.stream_lanes.proofs.Lists.{in_map}
use Rattle.world_laws.proofs.Promises.Made.{run_fresh}
use Rattle.world_laws.specs.Actors.{Actor, ActorCrew}
use Rattle.world_laws.specs.Fresh.{shown_crew, shown_member, shown_world}
use Rattle.world_laws.specs.Openings.{Start, opened_world}
use Rattle.world_laws.specs.Promises.{HasRoom, NumbersFit}
use Rattle.world_laws.specs.Worlds.{Turn, WorldState, after_turn, world_run}
use Rattle.world_laws.specs.declared.member.Member.TheVariants.{App, Path}
use Rattle.own_runs.proofs.InTime.{AnswersAt, ComesAt, OpensAt, Sending, WasSaid, crew_sending, member_sending, path_sending, sending_as, turn_sending, was_last, was_more}
use Rattle.own_runs.proofs.KeyRuns.{ActorSays, MemberLearns, MemberSays, SaysNext, TurnSays, opened_learns, turn_learns}
use Rattle.own_runs.proofs.LateJoins.{ComesBehind, Learns, map_at, more_learns, segment_so, shown_same, zero_so}
use Rattle.own_runs.proofs.Learning.{IsAlone, IsAnswer}
use Rattle.own_runs.proofs.Moments.{MemberAlso, MemberKnown, MemberSpeaks, PathAlso, PathSpeaks, WorldAlso, crew_known, end_shown, first_same, valued}
use Rattle.own_runs.proofs.NextTrace.{run_append}
use Rattle.own_runs.proofs.Speaking.{ToSend}

-- ---- what is said of segments as values is said of those over octets

module _ (Q : ℕ → Side → PlainSegment → Type 0) where
  path_also : (p : PathState Carried) → PathAlso Q p → PathAlso Q (shown_path p)
  path_also p s = subst (λ (o : Option ToSend). IfSome o Shown) (sym (first_same p.agenda p)) (by (first_sends p.agenda p) s)
    where
      Shown : ToSend → Type 0
      Shown = λ t. Q (path_of (shown_path p)) t.from (segment_sent (shown_path p) t)

      by : (o : Option ToSend) → IfSome o (λ t. Q (path_of p) t.from (segment_sent p t)) → IfSome o Shown
      by None said = tt
      by (Some t) said = subst (λ e. Q (path_of p) t.from (said_by t.kind p.profile t.from e)) (end_shown t.from p) said

  member_also : (m : Actor Carried) → MemberAlso Q m → MemberAlso Q (shown_member m)
  member_also (App a) s = tt
  member_also (Path p) s = path_also p s

  pub also_shown : (w : WorldState Carried) → WorldAlso Q w → WorldAlso Q (shown_world w)
  also_shown w also i c at =
      let found = in_map shown_crew w.crew i c at in
      subst (λ (y : ActorCrew (List ℕ)). MemberAlso Q y.member) found.2 (member_also found.0.member (also i found.0 found.1))

-- what is shown of an actor
pub crew_at : (crew : List (ActorCrew Carried)) (i : ℕ) → slice_get (map shown_crew crew) i ≡ option_map shown_crew (slice_get crew i)
crew_at [] i = refl
crew_at (c ∷ crew) zero = refl
crew_at (c ∷ crew) (suc i) = crew_at crew i

-- ---- at each moment

module _ (start : Start) (size : HasRoom start) (fit : NumbersFit start) where
  abbrev v : List Turn → WorldState Carried
  v before = world_run values before (opened_world start)

  abbrev pub Opened : List Turn → Type 0
  Opened before = WasSaid start (OpensAt 0) before

  abbrev pub Said : Side → (PlainSegment → Type 0) → Sending → Type 0
  Said side P y = (y.path ≡ 0) × (y.from ≡ side) × P y.segment

  -- with B's key
  abbrev pub Answered : List Turn → Type 0
  Answered before = WasSaid start (Said B IsAnswer) before

  module _ (before : List Turn) where
    speaks : (i : ℕ) (c : ActorCrew Carried) → slice_get (v before).crew i ≡ Some c → MemberSpeaks start c.member
    speaks = valued start before size fit

    -- a turn sends over octets what it says as values
    pub says_so : (P : PlainSegment → Type 0) (side : Side) (turn : Turn) (h : Learns start (Opened before) (Answered before) (v before)) → TurnSays side P turn (v before)
        → (y : Sending) × (turn_sending turn (world_run octets before (opened_world start)) ≡ Some y) × Said side P y
    says_so P side Turn.Round h said = absurd said
    says_so P side (Turn.Step i) h said =
        let it = crew (slice_get (v before).crew i) refl said in (
          it.0,
          ap (λ (w : WorldState (List ℕ)). crew_sending (slice_get w.crew i)) (run_fresh start before size fit)
              ∙ ap crew_sending (map_at start (Opened before) (Answered before) (v before) h speaks (crew_known start before size fit) [] shown_crew (v before).crew i) ∙ it.1,
          it.2,
        )
      where
        next : (p : PathState Carried) → PathSpeaks start p → is_joined p.profile ≡ false → (o : Option ToSend) → first_sends p.agenda p ≡ o → SaysNext side P p o
            → (y : Sending) × (path_sending (shown_path p) ≡ Some y) × Said side P y
        next p s first None e said = absurd said
        next p s first (Some t) e said = (
          sending_as (shown_path p) t,
          ap (λ (o : Option ToSend). option_map (sending_as (shown_path p)) o) (first_same p.agenda p ∙ e),
          (
            zero_so start (Opened before) (Answered before) (v before) h speaks (crew_known start before size fit) [] p s first,
            said.0,
            subst P (sym (shown_same start (Opened before) (Answered before) p t [])) said.1,
          ),
        )

        member : (m : Actor Carried) → MemberSpeaks start m → MemberSays side P m → (y : Sending) × (member_sending (shown_member m) ≡ Some y) × Said side P y
        member (App a) s said = absurd said
        member (Path p) s said = next p s said.0 (first_sends p.agenda p) refl said.1

        crew : (o : Option (ActorCrew Carried)) → slice_get (v before).crew i ≡ o → ActorSays side P o → (y : Sending) × (crew_sending (option_map shown_crew o) ≡ Some y) × Said side P y
        crew None at said = absurd said
        crew (Some c) at said = member c.member (speaks i c at) said

    learns_next : (turn : Turn) → Learns start (Opened before) (Answered before) (v before) → Learns start (Opened (before ++ turn ∷ [])) (Answered (before ++ turn ∷ [])) (v (before ++ turn ∷ []))
    learns_next turn h =
        subst (Learns start (Opened (before ++ turn ∷ [])) (Answered (before ++ turn ∷ []))) (sym (run_append before (turn ∷ []) (opened_world start)))
        (more_learns start _ _ (Opened (before ++ turn ∷ [])) (Answered (before ++ turn ∷ [])) (after_turn values turn (v before))
        (⊎_elim (λ was. was_more start (OpensAt 0) before turn was)
        (λ said. let it = says_so IsAlone A turn h said in was_last start (OpensAt 0) before turn it.0 it.1 (it.2.0, it.2.1, it.2.2)))
        (⊎_elim (λ was. was_more start (Said B IsAnswer) before turn was) (λ said. let it = says_so IsAnswer B turn h said in was_last start (Said B IsAnswer) before turn it.0 it.1 it.2))
        (turn_learns start.key_a start.key_b (Opened before) (Answered before) (v before) h turn))

    -- what is sent next
    comes_valued : Learns start (Opened before) (Answered before) (v before) → WorldAlso (ComesBehind (Opened before) (Answered before)) (v before)
    comes_valued h i c at = by c.member (speaks i c at) (crew_known start before size fit i c at) (h.crew i c at)
      where
        by : (m : Actor Carried) → MemberSpeaks start m → MemberKnown (books_in (v before).books) m → MemberLearns (Opened before) (Answered before) m
            → MemberAlso (ComesBehind (Opened before) (Answered before)) m
        by (App a) said tells learns = tt
        by (Path p) said tells learns = one (first_sends p.agenda p) refl
          where
            one : (o : Option ToSend) → first_sends p.agenda p ≡ o → IfSome o (λ t. ComesBehind (Opened before) (Answered before) (path_of p) t.from (segment_sent p t))
            one None e = tt
            one (Some t) e = segment_so start (Opened before) (Answered before) (v before) h speaks (crew_known start before size fit) [] p said tells learns t e

  learns_from : (rest before : List Turn) → Learns start (Opened before) (Answered before) (v before) → Learns start (Opened (before ++ rest)) (Answered (before ++ rest)) (v (before ++ rest))
  learns_from [] before h = subst (λ (ts : List Turn). Learns start (Opened ts) (Answered ts) (v ts)) (sym (append-nil before)) h
  learns_from (turn ∷ rest) before h =
      subst (λ (ts : List Turn). Learns start (Opened ts) (Answered ts) (v ts)) (append_assoc before (turn ∷ []) rest) (learns_from rest (before ++ turn ∷ []) (learns_next before turn h))

  pub learns_at : (turns : List Turn) → Learns start (Opened turns) (Answered turns) (v turns)
  learns_at turns = learns_from turns [] (more_learns start ⊥ ⊥ (Opened []) (Answered []) (opened_world start) (λ no. absurd no) (λ no. absurd no) (opened_learns start))

  pub comes_keyed : (turns : List Turn) → WorldAlso (ComesBehind (Opened turns) (Answered turns)) (world_run octets turns (opened_world start))
  comes_keyed turns =
      subst (λ (w : WorldState (List ℕ)). WorldAlso (ComesBehind (Opened turns) (Answered turns)) w) (sym (run_fresh start turns size fit))
      (also_shown (ComesBehind (Opened turns) (Answered turns)) (v turns) (comes_valued turns (learns_at turns)))

  -- whether it shows the key or not
  pub comes_at : (turns : List Turn) → WorldAlso (ComesAt start turns) (world_run octets turns (opened_world start))
  comes_at turns i c at = by c.member (comes_keyed turns i c at)
    where
      answered : Answered turns → WasSaid start (AnswersAt 0) turns
      answered h = record {
        more = h.more;
        turn = h.turn;
        later = h.later;
        is = h.is;
        said = h.said;
        sends = h.sends;
        holds = (h.holds.0, h.holds.1, record { syn = h.holds.2.syn; acknowledged = h.holds.2.acknowledged });
      }

      one : (p : PathState (List ℕ)) (o : Option ToSend) → IfSome o (λ t. ComesBehind (Opened turns) (Answered turns) (path_of p) t.from (segment_sent p t))
          → IfSome o (λ t. ComesAt start turns (path_of p) t.from (segment_sent p t))
      one p None comes = tt
      one p (Some t) comes = record { acks = comes.acks; joins = λ of_a syn more. answered (comes.joins of_a syn more); answers = comes.answers }

      by : (m : Actor (List ℕ)) → MemberAlso (ComesBehind (Opened turns) (Answered turns)) m → MemberAlso (ComesAt start turns) m
      by (App a) comes = tt
      by (Path p) comes = one p (first_sends p.agenda p) comes
