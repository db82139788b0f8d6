-- In the trace of a run that never falls back each segment of A that maps octets or tells a DATA_FIN comes behind one of A on path 0 that shows both keys.
use Rattle.std.proofs.Common.{◌≡◌, refl, sym, ap, ◌∙◌, subst, ℕ, nat_lt, false, Option, Some, None, List, [], ◌∷◌, ◌++◌, append-nil, arith}
use Rattle.std.specs.List.{list_any, slice_get}
use Rattle.std.specs.Option.{option_to_list}
use Rattle.std.proofs.lemmas.Bool.{ltb-false}
use Rattle.link_trace.specs.declared.sent.Sent.{Sent}
use Rattle.path_core.specs.Looking.{departing_as, first_sends}
use Rattle.path_core.specs.MpJoin.{is_joined}
use Rattle.path_core.specs.Octets.{made, octets}
use Rattle.path_core.specs.Shown.{shown_path}
use Rattle.path_core.specs.State.{PathState, path_of}
use Rattle.path_core.specs.Values.{Carried, values}
use Rattle.path_segments.specs.Spelled.{PlainSegment}
use Rattle.run_trace.specs.Trace.{sent_as, sent_at, sent_next, trace_of}
use Rattle.sides.specs.declared.side.Side.TheVariants.{A}
use Rattle.sides.specs.declared.side.Side.{Side}
use Rattle.stream_lanes.proofs.Lists.{Has-more}
use Rattle.stream_lanes.specs.Words.{Every, Has}
use Rattle.world_laws.proofs.Lanes.Doing.{has_last}
use Rattle.world_laws.proofs.Promises.Made.{run_fresh}
use Rattle.world_laws.specs.Actors.{Actor, ActorCrew}
use Rattle.world_laws.specs.Fresh.{shown_world}
use Rattle.world_laws.specs.NeverFalls.{IsWhole}
use Rattle.world_laws.specs.Openings.{Start, opened_world, path_begins}
use Rattle.world_laws.specs.Promises.{IsPlain, NumbersFit}
use Rattle.world_laws.specs.Worlds.{Turn, WorldState, world_run}
use Rattle.world_laws.specs.declared.member.Member.TheVariants.{App, Path}
use Rattle.own_runs.specs.KeysShown.{EachComesBehindKeys, ShowsBothKeys, shows_keys}
use Rattle.own_runs.proofs.KeyBears.{NeedsKey, key_at}
use Rattle.own_runs.proofs.KeyRuns.{ActorSays, MemberSays, SaysNext, TurnSays}
use Rattle.own_runs.proofs.KeysSent.{ShowsKeys}
use Rattle.own_runs.proofs.Moments.{IsSpoken, MemberSpeaks, PathSpeaks, WorldSpeaks, turn_spoken, valued, world_speaks}
use Rattle.own_runs.proofs.NextSent.{next_is, sent_of, spoken_next}
use Rattle.own_runs.proofs.Speaking.{ToSend}
use Rattle.own_runs.proofs.ToldAcks.{SentIn, sent_in}
use Rattle.own_runs.proofs.WasSent.{trace_append}

-- what a turn says is in the trace then
module _ (start : Start) (trace : List Sent) (w : WorldState Carried) (speaks : WorldSpeaks start w) where
  zero_so : (p : PathState Carried) → PathSpeaks start p → is_joined p.profile ≡ false → path_of p ≡ 0
  zero_so p said first = by (path_of p) (sym (ap is_joined said.4 ∙ ap (nat_lt 0) (sym said.3)) ∙ first)
    where
      by : (n : ℕ) → nat_lt 0 n ≡ false → n ≡ 0
      by n none = let low = ltb-false 0 n none in omega (arith, low)

  path_said : (p : PathState Carried) → PathSpeaks start p → MemberSays A ShowsKeys (Path p) → Has ShowsBothKeys (trace ++ option_to_list (sent_of (shown_path p) (first_sends p.agenda p)))
  path_said p said says = by (first_sends p.agenda p) refl says.1
    where
      by : (o : Option ToSend) → first_sends p.agenda p ≡ o → SaysNext A ShowsKeys p o → Has ShowsBothKeys (trace ++ option_to_list (sent_of (shown_path p) o))
      by None next never = absurd never
      by (Some t) next it =
          let s = spoken_next start p t next said in
          has_last trace (sent_as (shown_path p) (departing_as (shown_path p) t)) (record {
            path = zero_so p said says.0;
            from = it.0;
            spelling = (path_begins start (path_of p) s.plan).profile.spelling;
            segment = s.segment;
            octets = s.octets ∙ ap (λ (u : Side). made (path_begins start (path_of p) s.plan).profile.spelling u s.segment) it.0;
            shows = ap (λ (sg : PlainSegment). list_any shows_keys sg.options) s.also ∙ it.1;
          })

  turn_said : (turn : Turn) → TurnSays A ShowsKeys turn w → Has ShowsBothKeys (trace ++ sent_at turn (shown_world w))
  turn_said Turn.Round never = absurd never
  turn_said (Turn.Step i) says = by (slice_get w.crew i) refl says
    where
      member : (c : ActorCrew Carried) (m : Actor Carried) → slice_get w.crew i ≡ Some c → c.member ≡ m → MemberSpeaks start m → MemberSays A ShowsKeys m
          → Has ShowsBothKeys (trace ++ option_to_list (sent_next i (shown_world w)))
      member c (App a) there is said never = absurd never
      member c (Path p) there is said it = subst (λ (o : Option Sent). Has ShowsBothKeys (trace ++ option_to_list o)) (sym (next_is i w c p there is)) (path_said p said it)

      by : (o : Option (ActorCrew Carried)) → slice_get w.crew i ≡ o → ActorSays A ShowsKeys o → Has ShowsBothKeys (trace ++ option_to_list (sent_next i (shown_world w)))
      by None there never = absurd never
      by (Some c) there it = member c c.member there refl (speaks i c there) it

module _ (start : Start) (plain : IsPlain start) (whole : IsWhole start) (fit : NumbersFit start) where
  abbrev Shown : List Turn → Type 0
  Shown turns = Has ShowsBothKeys (trace_of turns (opened_world start))

  trace_is : (before : List Turn) (turn : Turn) → trace_of (before ++ turn ∷ []) (opened_world start) ≡ trace_of before (opened_world start) ++ sent_at turn (world_run octets before (opened_world start))
  trace_is before turn =
      trace_append before (turn ∷ []) (opened_world start)
      ∙ ap (λ (t : List Sent). trace_of before (opened_world start) ++ t) (append-nil (sent_at turn (world_run octets before (opened_world start))))

  grows : (before : List Turn) (turn : Turn) → Shown before → Shown (before ++ turn ∷ [])
  grows before turn has = subst (λ (t : List Sent). Has ShowsBothKeys t) (sym (trace_is before turn)) (Has-more (sent_at turn (world_run octets before (opened_world start))) has)

  now : (before : List Turn) (turn : Turn) → TurnSays A ShowsKeys turn (world_run values before (opened_world start)) → Shown (before ++ turn ∷ [])
  now before turn says =
      subst (λ (t : List Sent). Has ShowsBothKeys t) (sym (trace_is before turn))
      (subst (λ (v : WorldState (List ℕ)). Has ShowsBothKeys (trace_of before (opened_world start) ++ sent_at turn v)) (sym (run_fresh start before plain.size fit))
      (turn_said start (trace_of before (opened_world start)) (world_run values before (opened_world start)) (valued start before plain.size fit) turn says))

pub each_behind : EachComesBehindKeys
each_behind start turns plain whole fit i x is =
    let m : SentIn turns (opened_world start) i x = sent_in turns (opened_world start) i x is in
    let K : List Turn → Type 0 = Shown start plain whole fit in
    let Q : ℕ → Side → PlainSegment → Type 0 = NeedsKey start plain whole fit K (grows start plain whole fit) (now start plain whole fit) m.before in
    let all : Every (IsSpoken Q start) (sent_at m.turn (world_run octets m.before (opened_world start))) =
    turn_spoken Q start m.turn (world_run octets m.before (opened_world start)) (world_speaks start m.before plain.size fit)
    (key_at start plain whole fit K (grows start plain whole fit) (now start plain whole fit) m.before) in
    let said = all.each 0 x m.sends in
    record {
      spelling = _;
      segment = said.segment;
      octets = said.octets;
      behind = λ of_a bears. subst (λ (front : List Sent). Has ShowsBothKeys front) m.front (said.also of_a bears);
    }
