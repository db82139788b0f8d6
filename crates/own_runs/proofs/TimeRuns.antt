-- At each moment of a whole run the segments that are sent next come in time. Not proved: what is left of the clause `data_ack` is in the hole.
use Rattle.std.proofs.Common.{◌≡◌, refl, sym, ap, ◌∙◌, subst, zero, suc, ◌<◌, arith, ℕ, inl, inr, ◌⊎◌, ⊎_elim, ◌||◌, Bool, true, false, Option, Some, None, List, [], ◌∷◌, ◌++◌, append-nil}
use Rattle.std.specs.List.{list_any, slice_get}
use Rattle.std.specs.Option.{IfSome}
use Rattle.std.proofs.lemmas.Bool.{both_ways, false≢true, or_cases, or_left, or_right}
use Rattle.actor_desk.specs.Books.{books_in}
use Rattle.mptcp_options.specs.declared.capable.CapableKeys.TheVariants.{Both, NoKey, Sender, WithData}
use Rattle.path_core.specs.Looking.{first_sends, segment_sent}
use Rattle.path_core.specs.Octets.{octets}
use Rattle.path_core.specs.Standing.{is_connected}
use Rattle.path_core.specs.State.{PathState, end_at, path_of}
use Rattle.path_core.specs.Turns.{IsSettled}
use Rattle.path_core.specs.Values.{Carried, values}
use Rattle.path_segments.specs.Options.{PlainOption}
use Rattle.path_segments.specs.Spelled.{PlainSegment}
use Rattle.path_segments.specs.declared.segment.PathMapping.TheVariants.{Bytes, End, Infinite}
use Rattle.path_segments.specs.declared.segment.PathOption.TheVariants.{Capable, Dss}
use Rattle.run_trace.specs.Trace.{trace_of}
use Rattle.sides.specs.declared.side.Side.TheVariants.{A, B}
use Rattle.sides.specs.declared.side.Side.{Side}
use Rattle.stream_lanes.specs.Duo.{Duo}
use Rattle.subflow_tcp.specs.States.{is_closed_to_segments, is_dead}
use Rattle.subflow_tcp.specs.declared.handshake.State.{State as EndPhase}
use Rattle.world_laws.proofs.Joins.TokensAgree.{opened_met, run_met}
use Rattle.world_laws.proofs.Keys.ToldAreOwn.{MemberIs}
use Rattle.world_laws.proofs.Promises.Made.{run_fresh}
use Rattle.world_laws.specs.Actors.{Actor, ActorCrew}
use Rattle.world_laws.specs.NeverFalls.{IsWhole}
use Rattle.world_laws.specs.Openings.{Start, opened_world}
use Rattle.world_laws.specs.Promises.{HasRoom, IsPlain, NumbersFit}
use Rattle.world_laws.specs.Worlds.{Turn, WorldState, world_run}
use Rattle.world_laws.specs.declared.member.Member.TheVariants.{App, Path}
use Rattle.own_runs.specs.KeysShown.{KeysShownSo, bears_option, shows_key, shows_keys}
use Rattle.own_runs.proofs.AckMoments.{WholeComes, whole_timed}
use Rattle.own_runs.proofs.AckRuns.{WholeTimed}
use Rattle.own_runs.proofs.Bearing.{maps_octets}
use Rattle.own_runs.proofs.BearsPlain.{BearsPlain, bears_at}
use Rattle.own_runs.proofs.ComesTimes.{also_shown, comes_at, learns_at, says_so}
use Rattle.own_runs.proofs.FineMoments.{Offered}
use Rattle.own_runs.proofs.InTime.{AnswersAt, ComesAt, IsSynAck, KeyAt, OpensAt, SynsAt, TimeAt, WasReset, WasSaid, has_octets, is_bearing, tells_end, was_last, was_more}
use Rattle.own_runs.proofs.KeyBears.{key_at}
use Rattle.own_runs.proofs.KeyRuns.{TurnSays}
use Rattle.own_runs.proofs.KeysSaid.{maps_some, shows_at}
use Rattle.own_runs.proofs.KeysSent.{ShowsKeys}
use Rattle.own_runs.proofs.Learning.{IsAnswer}
use Rattle.own_runs.proofs.Moments.{MemberAlso, PathAlso, WorldAlso}
use Rattle.own_runs.proofs.OpeningEnds.{met_so}
use Rattle.own_runs.proofs.OpeningRuns.{MemberOpens, PathSo, opens_at}
use Rattle.own_runs.proofs.PlainSends.{SendsWell, sends_at}
use Rattle.own_runs.proofs.ShownAcks.{OfferedAndAcked, both_worlds, whole_acks, world_map}
use Rattle.own_runs.proofs.Speaking.{ToSend}

-- what is left: on a join B answers a SYN that was sent; what is no SYN and no reset comes behind the SYN/ACK of its path; what bears payload or a DATA_FIN comes
-- before each reset behind a SYN of B's, and A's behind its key, or with it
pub record LeftAt (start : Start) (before : List Turn) (path : ℕ) (s : Side) (sg : PlainSegment) : Type 0 where
  pub answers : 0 < path → s ≡ B → IsSynAck sg → WasSaid start (OpensAt path) before
  pub plain : sg.syn ≡ false → sg.rst ≡ false → WasSaid start (AnswersAt path) before
  pub bears : is_bearing sg ≡ true → WasReset start path s before → ⊥
  pub key : is_bearing sg ≡ true → s ≡ A → WasSaid start KeyAt before ⊎ ((path ≡ 0) × (list_any shows_keys sg.options ≡ true))

-- ---- what is sent next

module _ (start : Start) (size : HasRoom start) (fit : NumbersFit start) (turns : List Turn) where
  abbrev v : WorldState Carried
  v = world_run values turns (opened_world start)

  -- but for the key
  pub record OpensSo (path : ℕ) (s : Side) (sg : PlainSegment) : Type 0 where
    pub answers : s ≡ B → sg.syn ≡ true → WasSaid start (OpensAt path) turns
    pub living : sg.rst ≡ false → WasReset start path s turns → ⊥
    pub behind : sg.syn ≡ false → sg.rst ≡ false → WasSaid start (AnswersAt path) turns × (WasReset start path s turns → ⊥)

  path_so : (p : PathState Carried) → IsSettled p → PathSo start size fit turns p → PathAlso OpensSo p
  path_so p settles h = by (first_sends p.agenda p) (sends_at (WasSaid start (OpensAt n) turns) (WasSaid start (AnswersAt n) turns) (WasSaid start (SynsAt n) turns) (λ s. WasReset start n s turns) p h.0 p.agenda h.1 settles)
    where
      n : ℕ
      n = path_of p

      met : (s : Side) → is_connected (end_at s p).tcp.state ≡ true → WasSaid start (AnswersAt n) turns
      met A is = h.0.heard is
      met B is = h.0.answered is

      fell : (s : Side) → WasReset start n s turns → is_dead (end_at s p).tcp.state ≡ true
      fell A said = h.0.fell_a said
      fell B said = h.0.fell_b said

      dead_closed : (state : EndPhase) → is_dead state ≡ true → is_closed_to_segments state ≡ false → ⊥
      dead_closed EndPhase.Dead is opened = false≢true (sym opened)
      dead_closed EndPhase.Waiting is opened = false≢true is
      dead_closed _ is opened = false≢true is

      by : (o : Option ToSend) → IfSome o (SendsWell p) → IfSome o (λ t. OpensSo n t.from (segment_sent p t))
      by None well = tt
      by (Some t) well = record {
        answers = λ of_b syn. h.0.asked (subst (λ (s : Side). is_closed_to_segments (end_at s p).tcp.state ≡ false) of_b (well.opened (inr syn)));
        living = λ rst said. dead_closed (end_at t.from p).tcp.state (fell t.from said) (well.opened (inl rst));
        behind = λ syn rst. let is = well.plain syn rst in
            (met t.from is, λ said. both_ways (is_dead (end_at t.from p).tcp.state) (met_so (end_at t.from p).tcp.state is).living (fell t.from said));
      }

  pub opens_so : WorldAlso OpensSo (world_run octets turns (opened_world start))
  opens_so =
      subst (λ (w : WorldState (List ℕ)). WorldAlso OpensSo w) (sym (run_fresh start turns size fit))
      (also_shown OpensSo v (λ i c at. by i c at c.member refl (opens_at start size fit turns i c at)))
    where
      settled_at : (i : ℕ) (c : ActorCrew Carried) → slice_get v.crew i ≡ Some c → (p : PathState Carried) → c.member ≡ Path p → IsSettled p
      settled_at i c there p is_path =
          (subst (MemberIs start.key_a start.key_b true (books_in v.books)) is_path ((run_met start.key_a start.key_b turns (opened_world start) (opened_met start)).keys.crew.each i c there)).settled

      by : (i : ℕ) (c : ActorCrew Carried) → slice_get v.crew i ≡ Some c → (m : Actor Carried) → c.member ≡ m → MemberOpens start size fit turns m → MemberAlso OpensSo m
      by i c at (App a) is h = tt
      by i c at (Path p) is h = path_so p (settled_at i c at p is) h

-- ---- the key

-- payload has an option that maps it, and a DATA_FIN one that tells it
any_more : (f g : PlainOption → Bool) (os : List PlainOption) → ((o : PlainOption) → f o ≡ true → g o ≡ true) → list_any f os ≡ true → list_any g os ≡ true
any_more f g [] more is = is
any_more f g (o ∷ os) more is =
    ⊎_elim (λ here. or_left (g o) (list_any g os) (more o here)) (λ later. or_right (g o) (list_any g os) (any_more f g os more later)) (or_cases (f o) (list_any f os) is)

mapping_bears : (o : PlainOption) → maps_octets o ≡ true → bears_option o ≡ true
mapping_bears (Dss next (Some (Bytes place position len fin checksum))) is = refl
mapping_bears (Dss next (Some (End place checksum))) is = refl
mapping_bears (Dss next (Some (Infinite place position))) is = absurd (false≢true is)
mapping_bears (Dss next None) is = absurd (false≢true is)
mapping_bears (Capable flag_a flag_c (WithData sender receiver len checksum)) is = refl
mapping_bears (Capable flag_a flag_c NoKey) is = absurd (false≢true is)
mapping_bears (Capable flag_a flag_c (Sender key)) is = absurd (false≢true is)
mapping_bears (Capable flag_a flag_c (Both sender receiver)) is = absurd (false≢true is)
mapping_bears _ is = absurd (false≢true is)

ending_bears : (o : PlainOption) → tells_end o ≡ true → bears_option o ≡ true
ending_bears (Dss next (Some (Bytes place position len fin checksum))) is = refl
ending_bears (Dss next (Some (End place checksum))) is = refl
ending_bears (Dss next (Some (Infinite place position))) is = absurd (false≢true is)
ending_bears (Dss next None) is = absurd (false≢true is)
ending_bears _ is = absurd (false≢true is)

bearing_option : (start : Start) (last : Duo) (path : ℕ) (s : Side) (sg : PlainSegment) → Offered start last path s sg → is_bearing sg ≡ true → list_any bears_option sg.options ≡ true
bearing_option start last path s sg offered is = by (has_octets sg.payload) refl is
  where
    by : (b : Bool) → has_octets sg.payload ≡ b → b || list_any tells_end sg.options ≡ true → list_any bears_option sg.options ≡ true
    by true has is = ⊎_elim (λ none. absurd (false≢true (sym (ap has_octets none) ∙ has))) (λ borne. any_more maps_octets bears_option sg.options mapping_bears borne.1) offered.1
    by false has is = any_more tells_end bears_option sg.options ending_bears is

module _ (start : Start) (plain : IsPlain start) (whole : IsWhole start) (fit : NumbersFit start) where
  abbrev Shown : List Turn → Type 0
  Shown before = WasSaid start KeyAt before

  key_now : (before : List Turn) (turn : Turn) → TurnSays A ShowsKeys turn (world_run values before (opened_world start)) → Shown (before ++ turn ∷ [])
  key_now before turn said =
      let it = says_so start plain.size fit before ShowsKeys A turn (learns_at start plain.size fit before) said in was_last start KeyAt before turn it.0 it.1 (it.2.0, it.2.1, it.2.2)

  pub key_shown : (turns : List Turn) → WorldAlso (λ path s sg. s ≡ A → list_any bears_option sg.options ≡ true → Shown turns) (world_run octets turns (opened_world start))
  key_shown turns = key_at start plain whole fit Shown (λ before turn was. was_more start KeyAt before turn was) key_now turns

left_so : (start : Start) (plain : IsPlain start) (whole : IsWhole start) (fit : NumbersFit start) (turns : List Turn) (path : ℕ) (s : Side) (sg : PlainSegment)
    → (is_bearing sg ≡ true → list_any bears_option sg.options ≡ true) → (s ≡ A → list_any bears_option sg.options ≡ true → WasSaid start KeyAt turns)
    → OpensSo start plain.size fit turns path s sg → BearsPlain path s sg → LeftAt start turns path s sg
left_so start plain whole fit turns path s sg option key opens bears = record {
  answers = λ joins of_b is. opens.answers of_b is.syn;
  plain = λ syn rst. (opens.behind syn rst).0;
  bears = λ is. let it = bears.bears is in (opens.behind it.0 it.1).1;
  key = λ is of_a. inl (key of_a (option is));
}

whole_left : (start : Start) (turns : List Turn) → IsPlain start → IsWhole start → NumbersFit start → WorldAlso (LeftAt start turns) (world_run octets turns (opened_world start))
whole_left start turns plain whole fit =
    let w : WorldState (List ℕ) = world_run octets turns (opened_world start) in
    let acks = whole_acks start turns plain whole fit in
    let Keyed : ℕ → Side → PlainSegment → Type 0 = λ path s sg. s ≡ A → list_any bears_option sg.options ≡ true → WasSaid start KeyAt turns in
    world_map (λ path s sg. (OfferedAndAcked start acks.0 (trace_of turns (opened_world start)) path s sg × Keyed path s sg) × (OpensSo start plain.size fit turns path s sg × BearsPlain path s sg))
    (LeftAt start turns) w
    (λ path s sg it. left_so start plain whole fit turns path s sg (λ is. bearing_option start acks.0 path s sg it.0.0.0 is) it.0.1 it.1.0 it.1.1)
    (both_worlds (λ path s sg. OfferedAndAcked start acks.0 (trace_of turns (opened_world start)) path s sg × Keyed path s sg) (λ path s sg. OpensSo start plain.size fit turns path s sg × BearsPlain path s sg) w
    (both_worlds (OfferedAndAcked start acks.0 (trace_of turns (opened_world start))) Keyed w (acks.1 turns [] (append-nil turns)) (key_shown start plain whole fit turns))
    (both_worlds (OpensSo start plain.size fit turns) BearsPlain w (opens_so start plain.size fit turns) (bears_at start plain.size fit turns)))

in_time : (start : Start) (before : List Turn) (path : ℕ) (s : Side) (sg : PlainSegment) → LeftAt start before path s sg → KeysShownSo path s sg → BearsPlain path s sg → ComesAt start before path s sg
    → TimeAt start before path s sg
in_time start before path s sg left shown plain comes = record {
  answers = by path left.answers shown.shows comes.answers;
  bears = λ is. let it = plain.bears is in (it.0, it.1, left.plain it.0 it.1, left.bears is);
  key = left.key;
  keys = λ is. let it = shown.keys is in (it.1, left.plain it.1 it.2);
  first = λ is. (shown.first is, (shown.keys (maps_some sg.options is)).0);
  shows = shown.shows;
}
  where
    by : (n : ℕ) → (0 < n → s ≡ B → IsSynAck sg → WasSaid start (OpensAt n) before) → (s ≡ B → n ≡ 0 → sg.syn ≡ true → list_any shows_key sg.options ≡ true)
        → (n ≡ 0 → s ≡ B → IsAnswer sg → WasSaid start (OpensAt 0) before) → s ≡ B → IsSynAck sg → WasSaid start (OpensAt n) before
    by zero joins shows first of_b is = first refl of_b (record { syn = is.syn; acknowledged = is.acknowledged; key = shows of_b refl is.syn })
    by (suc n) joins shows first of_b is = joins (omega arith) of_b is

whole_comes : WholeComes
whole_comes start turns plain whole fit =
    world_map (λ path s sg. (LeftAt start turns path s sg × ComesAt start turns path s sg) × (KeysShownSo path s sg × BearsPlain path s sg)) (TimeAt start turns)
    (world_run octets turns (opened_world start)) (λ path s sg it. in_time start turns path s sg it.0.0 it.1.0 it.1.1 it.0.1)
    (both_worlds (λ path s sg. LeftAt start turns path s sg × ComesAt start turns path s sg) (λ path s sg. KeysShownSo path s sg × BearsPlain path s sg) (world_run octets turns (opened_world start))
    (both_worlds (LeftAt start turns) (ComesAt start turns) (world_run octets turns (opened_world start)) (whole_left start turns plain whole fit) (comes_at start plain.size fit turns))
    (both_worlds KeysShownSo BearsPlain (world_run octets turns (opened_world start)) (shows_at start plain whole fit turns) (bears_at start plain.size fit turns)))

pub timed : WholeTimed
timed = whole_timed whole_comes
