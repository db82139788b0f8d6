-- At every moment of a run, whatever the script does, each mapping that an end keeps was told by a segment of its peer on the same path, in the trace; so
-- was the one that its MP_FAIL names (RFC 8684, section 3.7).
use Rattle.std.proofs.Common.{Bool, List, None, Option, Some, [], ap, append-nil, append_assoc, arith, false, flat_map, if◌then◌else◌, inl, inr, length, map, nat_lt, refl, subst, suc, sym, true, zero, ℕ, ⊎_elim, ◌++◌, ◌+◌, ◌-◌, ◌∙◌, ◌∷◌, ◌≡◌, ◌⊎◌}
use Rattle.std.specs.List.{slice_get}
use Rattle.std.specs.Option.{IfSome, option_to_list}
use Rattle.actor_desk.specs.declared.ask.Ask.{Ask}
use Rattle.actor_desk.specs.declared.ask.Reply.{Reply}
use Rattle.link_trace.specs.declared.sent.Sent.{Sent}
use Rattle.path_core.specs.Breaking.{reset_of}
use Rattle.path_core.specs.DssIn.{checksum_heard, held_if, held_in, held_of, is_mapping, kept_of, key_held}
use Rattle.path_core.specs.End.{PathEnd}
use Rattle.path_core.specs.Looking.{departing_as, first_sends}
use Rattle.path_core.specs.Octets.{made, octets}
use Rattle.path_core.specs.OptionsOut.{broken_options}
use Rattle.path_core.specs.Profile.{Profile}
use Rattle.path_core.specs.Shown.{shown_path}
use Rattle.path_core.specs.Start.{waiting_path}
use Rattle.path_core.specs.State.{PathState, end_at, path_of}
use Rattle.path_core.specs.Steps.{begins_turn, next_round, takes}
use Rattle.path_core.specs.Values.{Carried, values}
use Rattle.path_segments.specs.Laws.{meant, meant_option}
use Rattle.path_segments.specs.Spelled.{PlainSegment}
use Rattle.dss_mapping.specs.declared.kept.KeptMapping.{KeptMapping}
use Rattle.run_trace.specs.Trace.{sent_as, sent_at, sent_next, trace_of}
use Rattle.sides.specs.Side.{peer}
use Rattle.sides.specs.declared.side.Side.TheVariants.{A, B}
use Rattle.sides.specs.declared.side.Side.{Side}
use Rattle.stream_lanes.proofs.Lists.{Every-nil, Has-more, in_append, in_map, in_set}
use Rattle.stream_lanes.specs.Words.{Has}
use Rattle.world_laws.proofs.Lanes.Doing.{has_last}
use Rattle.own_runs.proofs.KeptTold.{AllTell, CopiesTell, PathKnows, begins_knows, more_known, takes_knows}
use Rattle.own_runs.proofs.Naming.{Begins, Names, PathNames, begins_names, takes_names}
use Rattle.world_laws.proofs.Promises.Made.{run_fresh}
use Rattle.world_laws.proofs.Worlds.Opened.{opened_actors}
use Rattle.world_laws.proofs.Writes.Paths.{passes_no_more, writes_no_more}
use Rattle.world_laws.proofs.Writes.Steps.{Lasts, begins_lasts, takes_lasts}
use Rattle.world_laws.specs.Actors.{Actor, ActorCrew, member_asks, member_next, member_takes}
use Rattle.world_laws.specs.Fresh.{shown_crew, shown_member, shown_world}
use Rattle.world_laws.specs.Openings.{PathPlan, Start, new_path, opened_world, path_begins}
use Rattle.world_laws.specs.Promises.{HasRoom, NumbersFit}
use Rattle.world_laws.specs.StampedBooks.{answer_to}
use Rattle.world_laws.specs.Worlds.{Turn, WorldState, after_turn, all_over, asked, begins, crew_after, greatest, stepped, world_run}
use Rattle.world_laws.specs.Writes.{PathView}
use Rattle.world_laws.specs.declared.member.Member.TheVariants.{App, Path}
use Rattle.own_runs.proofs.ActorNumbers.{actor_is}
use Rattle.own_runs.proofs.Flown.{Flies, SendsSo, begins_fly, takes_fly}
use Rattle.own_runs.proofs.Moments.{IsSpoken, MemberSpeaks, Nothing, PathSpeaks, WorldSpeaks, valued}
use Rattle.own_runs.proofs.NextSent.{Own, next_is, only_spoken, sent_of, spoken_next}
use Rattle.own_runs.proofs.Speaking.{ToSend}
use Rattle.path_core.specs.MpJoin.{is_joined}
use Rattle.mptcp_options.specs.declared.capable.CapableKeys.{CapableKeys}
use Rattle.mptcp_options.specs.declared.capable.CapableKeys.TheVariants.{WithData}
use Rattle.path_segments.specs.Options.{PlainOption}
use Rattle.path_segments.specs.declared.segment.PathMapping.TheVariants.{Bytes, End, Infinite}
use Rattle.path_segments.specs.declared.segment.PathOption.TheVariants.{Capable, Dss}
use Rattle.dss_mapping.specs.Mappings.{octets_in}
use Rattle.own_runs.specs.Handshakes.{IsOn}
use Rattle.judge_laws.proofs.Standing.{some_same}
use Rattle.own_runs.specs.Named.{Begins as BeginsWith, BeginsAt, NamedMappingsWereTold}

-- ---- a path stays that of its profile

profile_lasts : Lasts {C = Carried} (λ p q. q.profile ≡ p.profile)
profile_lasts = record {
  agenda = λ ds p. refl;
  chains = λ p q r one other. other ∙ one;
  passes = λ d p. ap (λ (v : PathView Carried). v.profile) (passes_no_more d p).same;
}

takes_profile : (r : Reply) (p : PathState Carried) → (takes values r p).profile ≡ p.profile
takes_profile r p = takes_lasts (λ p q. q.profile ≡ p.profile) profile_lasts values r p (λ d. ap (λ (v : PathView Carried). v.profile) (writes_no_more values d r p).same)

begins_profile : (p : PathState Carried) → (begins_turn p).profile ≡ p.profile
begins_profile p = begins_lasts (λ p q. q.profile ≡ p.profile) profile_lasts p

-- ---- a path; the end of each side learns only what is so

module _ (R : ℕ → Side → KeptMapping → Type 0) where
  -- each mapping of a segment of a side, as the other end of the path hears it, is so
  pub record Says (actor : ℕ) (c : Profile) (s : Side) (sg : PlainSegment) : Type 0 where
    pub each : (t : Side) → peer t ≡ s → AllTell (R actor t) (held_of c t (meant sg))

  any_payload : (actor : ℕ) (c : Profile) (s : Side) (sg : PlainSegment) (payload : List ℕ) → Says actor c s sg → Says actor c s (record sg { payload = payload })
  any_payload actor c s sg payload h = record { each = h.each }

  -- a reset maps nothing
  each_reset : (actor : ℕ) (c : Profile) (s : Side) (reason : Option ℕ) (p : PathState Carried) → Says actor c s (reset_of s reason p)
  each_reset actor c s reason p = record { each = λ t is. by t (end_at s p).modes.identity (end_at s p).treated.failed_mapping reason }
    where
      by : (t : Side) (b : Bool) (failed reason : Option ℕ) → AllTell (R actor t) (flat_map (held_in c t) (map meant_option (if b then [] else broken_options failed reason)))
      by t true failed reason = Every-nil _
      by t false failed None = Every-nil _
      by t false None (Some reason) = Every-nil _
      by t false (Some place) (Some reason) = Every-nil _

  pub record Learns (actor : ℕ) (p : PathState Carried) : Type 0 where
    pub knows : PathKnows (R actor) p
    pub names : PathNames (R actor) p
    pub flies : Flies (Says actor p.profile) p

  copies_tell : (actor : ℕ) (p : PathState Carried) → Learns actor p → CopiesTell (R actor) p
  copies_tell actor p h = record { each = λ i f at. (h.flies.copies.each i f at).each f.to refl }

  abbrev pub LearnsSo : ℕ → PathState Carried → Type 0
  LearnsSo actor p = SendsSo (Says actor p.profile) p (first_sends p.agenda p)

  at_profile : (actor : ℕ) (p : PathState Carried) (c : Profile) → p.profile ≡ c → PathKnows (R actor) p → PathNames (R actor) p → Flies (Says actor c) p → Learns actor p
  at_profile actor p c same knows names flies = record {
    knows = knows;
    names = names;
    flies = subst (λ (d : Profile). Flies (Says actor d) p) (sym same) flies;
  }

  takes_learn : (actor : ℕ) (r : Reply) (p : PathState Carried) → LearnsSo actor p → Learns actor p → Learns actor (takes values r p)
  takes_learn actor r p says h =
      at_profile actor (takes values r p) p.profile (takes_profile r p) (takes_knows (R actor) r p (copies_tell actor p h) h.knows) (takes_names (R actor) r p h.knows h.names)
      (takes_fly (Says actor p.profile) (any_payload actor p.profile) (each_reset actor p.profile) r p says h.flies)

  begins_learn : (actor : ℕ) (p : PathState Carried) → Learns actor p → Learns actor (begins_turn p)
  begins_learn actor p h =
      at_profile actor (begins_turn p) p.profile (begins_profile p) (begins_knows (R actor) p h.knows) (begins_names (R actor) p h.names)
      (begins_fly (Says actor p.profile) (any_payload actor p.profile) (each_reset actor p.profile) p h.flies)

  next_learn : (actor : ℕ) (p : PathState Carried) → Learns actor p → Learns actor (next_round p)
  next_learn actor p h =
      begins_learn actor (record p { clock = p.until; until = p.until + 100 })
      (record { knows = record { a = h.knows.a; b = h.knows.b }; names = record { a = h.names.a; b = h.names.b }; flies = record { copies = h.flies.copies } })

  -- ---- worlds

  abbrev pub MemberLearns : ℕ → Actor Carried → Type 0
  MemberLearns actor (App a) = Unit {0}
  MemberLearns actor (Path p) = Learns actor p

  abbrev pub WorldLearns : WorldState Carried → Type 0
  WorldLearns w = (actor : ℕ) (c : ActorCrew Carried) → slice_get w.crew actor ≡ Some c → MemberLearns actor c.member

  abbrev MemberSends : ℕ → Actor Carried → Type 0
  MemberSends actor (App a) = Unit {0}
  MemberSends actor (Path p) = LearnsSo actor p

  abbrev TurnSends : Turn → WorldState Carried → Type 0
  TurnSends (Turn.Step i) w = IfSome (slice_get w.crew i) (λ c. MemberSends i c.member)
  TurnSends Turn.Round w = Unit {0}

  takes_so : (actor : ℕ) (r : Reply) (m : Actor Carried) → MemberSends actor m → MemberLearns actor m → MemberLearns actor (member_takes values r m)
  takes_so actor r (App a) sends h = tt
  takes_so actor r (Path p) sends h = takes_learn actor r p sends h

  next_so : (actor : ℕ) (m : Actor Carried) → MemberLearns actor m → MemberLearns actor (member_next m)
  next_so actor (App a) h = tt
  next_so actor (Path p) h = next_learn actor p h

  module _ (w : WorldState Carried) (h : WorldLearns w) where
    step_so : (actor : ℕ) (o : Option (ActorCrew Carried)) → slice_get w.crew actor ≡ o → IfSome o (λ c. MemberSends actor c.member) → WorldLearns (stepped values actor o w)
    step_so actor None there sends = h
    step_so actor (Some c) there sends = by (member_asks values c.member)
      where
        by : (o : Option Ask) → WorldLearns (asked values actor o c w)
        by None = h
        by (Some x) = λ i d at. ⊎_elim
            (λ here. subst (λ (y : ActorCrew Carried). MemberLearns i y.member) here.1 (subst (λ (n : ℕ). MemberLearns n (member_takes values (answer_to w.books x) c.member)) (sym here.0) (takes_so actor (answer_to w.books x) c.member sends (h actor c there))))
            (λ other. h i d other.1)
            (in_set w.crew actor (crew_after values x w.books c) i d at)

    turn_so : (turn : Turn) → TurnSends turn w → WorldLearns (after_turn values turn w)
    turn_so (Turn.Step actor) sends = step_so actor (slice_get w.crew actor) refl sends
    turn_so Turn.Round sends = by (all_over w.crew)
      where
        by : (b : Bool) → WorldLearns (if b then record w { crew = map (begins (greatest 0 w.crew)) w.crew } else w)
        by false = h
        by true = λ i d at.
            let found = in_map (begins (greatest 0 w.crew)) w.crew i d at in
            subst (λ (y : ActorCrew Carried). MemberLearns i y.member) found.2 (next_so i found.0.member (h i found.0 found.1))

-- ---- more follows

more_names : (R S : KeptMapping → Type 0) → ((kept : KeptMapping) → R kept → S kept) → (e : PathEnd) → Names R e → Names S e
more_names R S more e h = record { failed = by e.modes.failed_mapping h.failed; told = by e.treated.failed_mapping h.told }
  where
    by : (o : Option ℕ) → IfSome o (Begins R) → IfSome o (Begins S)
    by None is = tt
    by (Some k) is = (is.0, more is.0 is.1, is.2)

module _ (R S : ℕ → Side → KeptMapping → Type 0) (more : (n : ℕ) (s : Side) (kept : KeptMapping) → R n s kept → S n s kept) where
  more_says : (actor : ℕ) (c : Profile) (s : Side) (sg : PlainSegment) → Says R actor c s sg → Says S actor c s sg
  more_says actor c s sg h = record { each = λ t is. record { each = λ i kept at. more actor t kept ((h.each t is).each i kept at) } }

  more_learns : (actor : ℕ) (p : PathState Carried) → Learns R actor p → Learns S actor p
  more_learns actor p h = record {
    knows = record { a = more_known (R actor A) (S actor A) (more actor A) p.a.receiving.mappings h.knows.a; b = more_known (R actor B) (S actor B) (more actor B) p.b.receiving.mappings h.knows.b };
    names = record { a = more_names (R actor A) (S actor A) (more actor A) p.a h.names.a; b = more_names (R actor B) (S actor B) (more actor B) p.b h.names.b };
    flies = record { copies = record { each = λ i f at. more_says actor p.profile (peer f.to) f.carried.segment (h.flies.copies.each i f at) } };
  }

  more_world : (w : WorldState Carried) → WorldLearns R w → WorldLearns S w
  more_world w h = λ i c at. member i c.member (h i c at)
    where
      member : (i : ℕ) (m : Actor Carried) → MemberLearns R i m → MemberLearns S i m
      member i (App a) h = tt
      member i (Path p) h = more_learns i p h

-- ---- the trace

-- a segment of the other side on the path, with this mapping
pub record TellsKept (start : Start) (actor : ℕ) (s : Side) (kept : KeptMapping) (x : Sent) : Type 0 where
  pub said : IsSpoken Nothing start x
  pub path : actor ≡ suc (suc x.path)
  pub from : x.from ≡ peer s
  pub profile : Profile
  pub index : ℕ
  pub there : slice_get (held_of profile s (meant said.segment)) index ≡ Some kept

module _ (start : Start) where
  abbrev pub Told : List Sent → ℕ → Side → KeptMapping → Type 0
  Told trace actor s kept = Has (TellsKept start actor s kept) trace

  -- the step of a path sends it
  path_sends_so : (trace : List Sent) (actor : ℕ) (p : PathState Carried) → actor ≡ suc (suc (path_of p)) → PathSpeaks start p
      → LearnsSo (Told (trace ++ option_to_list (sent_of (shown_path p) (first_sends p.agenda p)))) actor p
  path_sends_so trace actor p number speaks = by (first_sends p.agenda p) refl
    where
      by : (o : Option ToSend) → first_sends p.agenda p ≡ o
          → SendsSo (Says (Told (trace ++ option_to_list (sent_of (shown_path p) o))) actor p.profile) p o
      by None next = tt
      by (Some t) next = record {
        each = λ u is. record {
          each = λ i kept at.
              let s = spoken_next start p t next speaks in
              has_last trace (sent_as (shown_path p) (departing_as (shown_path p) t)) (record {
                said = only_spoken (Own start p t next speaks) start _ s;
                path = number;
                from = sym is;
                profile = p.profile;
                index = i;
                there = ap (λ (sg : PlainSegment). slice_get (held_of p.profile u (meant sg)) i) s.also ∙ at;
              });
        };
      }

  abbrev Numbered : WorldState Carried → Type 0
  Numbered w = (i : ℕ) (c : ActorCrew Carried) → slice_get w.crew i ≡ Some c → (p : PathState Carried) → c.member ≡ Path p → i ≡ suc (suc (path_of p))

  turn_sends_so : (trace : List Sent) (turn : Turn) (w : WorldState Carried) → Numbered w → WorldSpeaks start w → TurnSends (Told (trace ++ sent_at turn (shown_world w))) turn w
  turn_sends_so trace Turn.Round w numbers speaks = tt
  turn_sends_so trace (Turn.Step i) w numbers speaks = by (slice_get w.crew i) refl
    where
      member : (c : ActorCrew Carried) (m : Actor Carried) → slice_get w.crew i ≡ Some c → c.member ≡ m → MemberSpeaks start m → MemberSends (Told (trace ++ option_to_list (sent_next i (shown_world w)))) i m
      member c (App a) there is speaks = tt
      member c (Path p) there is speaks =
          subst (λ (o : Option Sent). LearnsSo (Told (trace ++ option_to_list o)) i p) (sym (next_is i w c p there is)) (path_sends_so trace i p (numbers i c there p is) speaks)

      by : (o : Option (ActorCrew Carried)) → slice_get w.crew i ≡ o → IfSome o (λ c. MemberSends (Told (trace ++ option_to_list (sent_next i (shown_world w)))) i c.member)
      by None there = tt
      by (Some c) there = member c c.member there refl (speaks i c there)

  turn_told : (trace : List Sent) (turn : Turn) (w : WorldState Carried) → Numbered w → WorldSpeaks start w → WorldLearns (Told trace) w
      → WorldLearns (Told (trace ++ sent_at turn (shown_world w))) (after_turn values turn w)
  turn_told trace turn w numbers speaks h =
      turn_so (Told (trace ++ sent_at turn (shown_world w))) w (more_world (Told trace) (Told (trace ++ sent_at turn (shown_world w))) (λ n s kept has. Has-more (sent_at turn (shown_world w)) has) w h)
      turn (turn_sends_so trace turn w numbers speaks)

  run_told : (turns : List Turn) (trace : List Sent) (v : WorldState Carried) (w : WorldState (List ℕ)) → ((more : List Turn) → world_run octets more w ≡ shown_world (world_run values more v))
      → ((more : List Turn) → Numbered (world_run values more v)) → ((more : List Turn) → WorldSpeaks start (world_run values more v)) → WorldLearns (Told trace) v → WorldLearns (Told (trace ++ trace_of turns w)) (world_run values turns v)
  run_told [] trace v w same numbers speaks h = subst (λ (t : List Sent). WorldLearns (Told t) v) (sym (append-nil trace)) h
  run_told (turn ∷ turns) trace v w same numbers speaks h =
      subst (λ (t : List Sent). WorldLearns (Told t) (world_run values turns (after_turn values turn v))) (append_assoc trace (sent_at turn w) (trace_of turns (after_turn octets turn w)))
      (run_told turns (trace ++ sent_at turn w) (after_turn values turn v) (after_turn octets turn w) (λ more. same (turn ∷ more)) (λ more. numbers (turn ∷ more)) (λ more. speaks (turn ∷ more))
      (subst (λ (x : WorldState (List ℕ)). WorldLearns (Told (trace ++ sent_at turn x)) (after_turn values turn v)) (sym (same [])) (turn_told trace turn v (numbers []) (speaks []) h)))

  opened_told : WorldLearns (Told []) (opened_world start)
  opened_told = opened_actors (λ actor c. MemberLearns (Told []) actor c.member) start tt tt (λ number plan there. path number plan)
    where
      path : (number : ℕ) (plan : PathPlan) → MemberLearns (Told []) (suc (suc number)) (new_path start number plan).member
      path number plan =
          let p : PathState Carried = waiting_path (path_begins start number plan) start.lines in
          begins_learn (Told []) (suc (suc number)) p (record {
            knows = record { a = record { live = Every-nil _; held = Every-nil _ }; b = record { live = Every-nil _; held = Every-nil _ } };
            names = record { a = record { failed = tt; told = tt }; b = record { failed = tt; told = tt } };
            flies = record { copies = Every-nil _ };
          })

  -- at each moment of a run
  pub kept_told : HasRoom start → NumbersFit start → (turns : List Turn) → WorldLearns (Told (trace_of turns (opened_world start))) (world_run values turns (opened_world start))
  kept_told size fit turns =
      run_told turns [] (opened_world start) (opened_world start) (λ more. run_fresh start more size fit) (λ more. actor_is start size more) (λ more. valued start more size fit) opened_told

-- ---- by its option

one_if : (b : Bool) (k kept : KeptMapping) (i : ℕ) → slice_get (if b then k ∷ [] else []) i ≡ Some kept → k ≡ kept
one_if true k kept zero is = some_same k kept is
one_if true k kept (suc i) is = cc
one_if false k kept i is = cc

module _ (c : Profile) (s : Side) (kept : KeptMapping) where
  option_begins : (o : PlainOption) (i : ℕ) → slice_get (held_in c s (meant_option o)) i ≡ Some kept → BeginsWith kept.place o
  option_begins (Dss next (Some (Bytes first position len fin checksum))) i is =
      ap (λ (k : KeptMapping). k.place) (one_if (is_mapping first position (octets_in len fin)) (kept_of c s first position len fin (checksum_heard checksum)) kept i is)
  option_begins (Dss next (Some (End at checksum))) i is = cc
  option_begins (Dss next (Some (Infinite at position))) i is = cc
  option_begins (Dss next None) i is = cc
  option_begins (Capable flag_a flag_c keys) i is = by (is_joined c) is
    where
      first : (t : Side) (len : ℕ) (checksum : Option ℕ) (b : Bool) → slice_get (if b then held_if c t 0 1 len false checksum else []) i ≡ Some kept → 0 ≡ kept.place
      first t len checksum false is = cc
      first t len checksum true is = ap (λ (k : KeptMapping). k.place) (one_if (is_mapping 0 1 len) (kept_of c t 0 1 len false (checksum_heard checksum)) kept i is)

      keyed : (t : Side) (keys : CapableKeys) → slice_get (key_held c t keys) i ≡ Some kept → BeginsWith kept.place (Capable flag_a flag_c keys)
      keyed B (WithData sender receiver len checksum) is = first B len checksum (nat_lt 0 len) is
      keyed A (WithData sender receiver len checksum) is = cc
      keyed t _ is = cc

      by : (b : Bool) → slice_get (if b then [] else key_held c s keys) i ≡ Some kept → BeginsWith kept.place (Capable flag_a flag_c keys)
      by true is = cc
      by false is = keyed s keys is
  option_begins _ i is = cc

  options_begin : (options : List PlainOption) (i : ℕ) → slice_get (flat_map (held_in c s) (map meant_option options)) i ≡ Some kept → Has (BeginsWith kept.place) options
  options_begin [] i is = cc
  options_begin (o ∷ options) i is = ⊎_elim
      (λ here. record { at = 0; item = o; there = refl; holds = option_begins o i here })
      (λ rest. let it = options_begin options (i - length (held_in c s (meant_option o))) rest.1 in record { at = suc it.at; item = it.item; there = it.there; holds = it.holds })
      (in_append (held_in c s (meant_option o)) (flat_map (held_in c s) (map meant_option options)) i kept is)

-- ---- over octets

told_on : (start : Start) (actor path : ℕ) (s : Side) (kept : KeptMapping) (place : ℕ) (x : Sent) → actor ≡ suc (suc path) → kept.place ≡ place → TellsKept start actor s kept x → IsOn path (peer s) (BeginsAt place) x
told_on start actor path s kept place x number same t = record {
  path = (let one = t.path in omega (arith, number, one));
  from = t.from;
  spelling = (path_begins start x.path t.said.plan).profile.spelling;
  segment = t.said.segment;
  octets = t.said.octets ∙ ap (λ (u : Side). made (path_begins start x.path t.said.plan).profile.spelling u t.said.segment) t.from;
  is = subst (λ (k : ℕ). Has (BeginsWith k) t.said.segment.options) same (options_begin t.profile s kept t.said.segment.options t.index t.there);
}

pub named_told : NamedMappingsWereTold
named_told start turns size fit actor c there p is s place named =
    let v : WorldState Carried = world_run values turns (opened_world start) in
    let found = in_map shown_crew v.crew actor c (subst (λ (w : WorldState (List ℕ)). slice_get w.crew actor ≡ Some c) (run_fresh start turns size fit) there) in
    by found.0 found.1 found.0.member refl (ap (λ (x : ActorCrew (List ℕ)). x.member) found.2 ∙ is)
  where
    trace : List Sent
    trace = trace_of turns (opened_world start)

    same : {x y : PathState (List ℕ)} → (let one : Actor (List ℕ) = Path x in one) ≡ Path y → x ≡ y
    same e = cc

    some_so : (R : KeptMapping → Type 0) (o : Option ℕ) → IfSome o (Begins R) → o ≡ Some place → Begins R place
    some_so R o h e = subst (λ (x : Option ℕ). IfSome x (Begins R)) e h

    end_so : (t : Side) (e : PathEnd) → Names (Told start trace actor t) e → (e.modes.failed_mapping ≡ Some place) ⊎ (e.treated.failed_mapping ≡ Some place) → Begins (Told start trace actor t) place
    end_so t e h (inl modes) = some_so (Told start trace actor t) e.modes.failed_mapping h.failed modes
    end_so t e h (inr treated) = some_so (Told start trace actor t) e.treated.failed_mapping h.told treated

    at_side : (q : PathState Carried) (t : Side) → Learns (Told start trace) actor q
        → ((end_at t (shown_path q)).modes.failed_mapping ≡ Some place) ⊎ ((end_at t (shown_path q)).treated.failed_mapping ≡ Some place) → Begins (Told start trace actor t) place
    at_side q A h e = end_so A q.a h.names.a e
    at_side q B h e = end_so B q.b h.names.b e

    by : (d : ActorCrew Carried) → slice_get (world_run values turns (opened_world start)).crew actor ≡ Some d → (m : Actor Carried) → d.member ≡ m → shown_member m ≡ Path p
        → Has (IsOn (path_of p) (peer s) (BeginsAt place)) trace
    by d at (App a) member shown = cc
    by d at (Path q) member shown =
        let h : MemberLearns (Told start trace) actor (Path q) = subst (λ (m : Actor Carried). MemberLearns (Told start trace) actor m) member (kept_told start size fit turns actor d at) in
        let one : shown_path q ≡ p = same shown in
        let begins = at_side q s h
        (subst (λ (x : PathState (List ℕ)). ((end_at s x).modes.failed_mapping ≡ Some place) ⊎ ((end_at s x).treated.failed_mapping ≡ Some place)) (sym one) named) in
        let number : actor ≡ suc (suc (path_of p)) = actor_is start size turns actor d at q member ∙ ap (λ (x : PathState (List ℕ)). suc (suc (path_of x))) one in
        let has = begins.1 in
        record { at = has.at; item = has.item; there = has.there; holds = told_on start actor (path_of p) s begins.0 place has.item number begins.2 has.holds }
