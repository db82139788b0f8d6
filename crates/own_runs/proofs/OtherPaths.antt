-- Behind an infinite mapping that a side told on a path (RFC 8684, section 3.7) nothing is mapped on its other ones, whatever the script does: where it is plain
-- TCP's they have nothing, and where it is the side's own one all their ends are quiet. So no infinite mapping is broken.
use Rattle.std.proofs.Common.{◌≡◌, refl, sym, ap, ◌∙◌, subst, ℕ, suc, ◌≤◌, ◌⊎◌, ◌||◌, inl, inr, ⊎_elim, not, true, false, Option, Some, None, List, [], ◌∷◌, ◌++◌, append-nil, append_assoc, length, arith, ◌+◌, ◌<◌, ◌^◌, Ok}
use Rattle.std.specs.Option.{IfSome, option_map}
use Rattle.std.specs.List.{list_any, slice_get}
use Rattle.std.proofs.lemmas.Bool.{false≢true, or_cases}
use Rattle.fallback_state.specs.Modes.{is_identity}
use Rattle.judge_rules.specs.declared.finding.Rule.{Rule}
use Rattle.mptcp_options.specs.declared.capable.CapableKeys.TheVariants.{Both, NoKey, Sender, WithData}
use Rattle.path_core.specs.Looking.{first_sends, segment_sent}
use Rattle.path_core.specs.Octets.{octets}
use Rattle.path_core.specs.State.{PathState, end_at, path_of}
use Rattle.path_core.specs.Values.{Carried, values}
use Rattle.path_segments.specs.Options.{PlainOption}
use Rattle.path_segments.specs.Spelled.{PlainSegment}
use Rattle.path_segments.specs.declared.segment.PathMapping.TheVariants.{Bytes, End, Infinite}
use Rattle.path_segments.specs.declared.segment.PathMapping.{PathMapping}
use Rattle.path_segments.specs.declared.segment.PathOption.TheVariants.{Capable, Dss}
use Rattle.path_store.specs.declared.infinite_mapping.InfiniteMapping.{InfiniteMapping}
use Rattle.sides.specs.Side.{peer}
use Rattle.sides.specs.declared.side.Side.TheVariants.{A, B}
use Rattle.sides.specs.declared.side.Side.{Side}
use Rattle.stream_lanes.specs.Duo.{Duo}
use Rattle.stream_lanes.specs.Words.{Every}
use Rattle.subflow_tcp.specs.States.{is_dead}
use Rattle.path_core.specs.Standing.{is_connected}
use Rattle.subflow_tcp.specs.declared.handshake.State.{State as EndPhase}
use Rattle.world_laws.proofs.Falls.ByTheJournal.{Was, run_was}
use Rattle.world_laws.proofs.Joins.TokensAgree.{opened_met, run_met}
use Rattle.world_laws.proofs.Lanes.OfAWorld.{Reached, anyhow, anyhow_free}
use Rattle.world_laws.proofs.Weaving.WholeRounds.{run_append}
use Rattle.world_laws.specs.Actors.{Actor, ActorCrew}
use Rattle.world_laws.specs.Openings.{Start, opened_world}
use Rattle.world_laws.specs.Promises.{HasRoom, NumbersFit}
use Rattle.world_laws.specs.Worlds.{Turn, WorldState, world_run}
use Rattle.world_laws.specs.declared.member.Member.TheVariants.{App, Path}
use Rattle.capture_verdict.specs.Judging.{judged_capture}
use Rattle.judge_laws.specs.GoesOn.{stream_in}
use Rattle.rule_book.specs.State.{JudgedValue}
use Rattle.seen_streams.specs.State.{StreamValue}
use Rattle.own_runs.specs.Fitting.{RunFits}
use Rattle.own_runs.specs.Runs.{NoRunBreaks, capture_of}
use Rattle.own_runs.proofs.Bearing.{Carries, RecordsCarry, first_carries, maps_octets}
use Rattle.own_runs.proofs.ActorNumbers.{actor_is}
use Rattle.own_runs.proofs.BearsPlain.{BearsPlain, bears_at}
use Rattle.own_runs.proofs.EndMaps.{FinOn, IsMapped, LineAt, content, file_len, lane_of}
use Rattle.own_runs.proofs.Homes.{fell_at, home_of, homes_agree, IsHome, own_told, plain_told}
use Rattle.own_runs.proofs.InTime.{Sending, TellsLineAt, WasSaid, has_octets, is_bearing, crew_sending, member_sending, sending_as, tells_end, tells_line, turn_sending}
use Rattle.own_runs.proofs.LastLanes.{none_beside}
use Rattle.own_runs.proofs.Lines.{StreamLined, is_line}
use Rattle.own_runs.proofs.LinesTimes.{AreApart, FinsStand, Settled, all_none, is_read, settled, stands_so, verdict}
use Rattle.own_runs.proofs.MapTrace.{few}
use Rattle.own_runs.proofs.FinRuns.{fin_stands}
use Rattle.own_runs.proofs.LinesTrace.{AgreeOn}
use Rattle.own_runs.proofs.Moments.{MemberAlso, MemberSpeaks, Spoken, WorldAlso, world_speaks}
use Rattle.own_runs.proofs.Offering.{AllFine, OptionFine}
use Rattle.own_runs.proofs.Own.{own_key}
use Rattle.own_runs.proofs.Values.{drawn}
use Rattle.own_runs.proofs.OpeningRuns.{Answered, Fell, Here, MemberOpens, Opened, PathSo, Spoke, here_so, opens_at, same_segment, settled_at}
use Rattle.own_runs.proofs.OwnSends.{always_own, own_in, own_stays}
use Rattle.own_runs.proofs.Placing.{PlacedIn}
use Rattle.own_runs.proofs.PlainSends.{SendsWell, sends_at}
use Rattle.own_runs.proofs.QuietBeside.{HasNone, IsQuiet, always_quiet}
use Rattle.own_runs.proofs.SendingModes.{always_sends}
use Rattle.own_runs.proofs.Speaking.{ToSend}
use Rattle.own_runs.proofs.TellsPlaces.{EachLineKnown, RunTells, RunTold, Tells, tells_by, told_by}

-- ---- a segment that is sent

-- what holds of each segment that may be sent next holds of the one that is
also_sent : {C : Type 0} (Q : ℕ → Side → PlainSegment → Type 0) (turn : Turn) (w : WorldState C) → WorldAlso Q w → (y : Sending) → turn_sending turn w ≡ Some y → Q y.path y.from y.segment
also_sent Q Turn.Round w h y sends = cc
also_sent {C} Q (Turn.Step i) w h y sends = by (slice_get w.crew i) refl sends
  where
    path_so : (p : PathState C) (o : Option ToSend) → IfSome o (λ t. Q (path_of p) t.from (segment_sent p t)) → option_map (sending_as p) o ≡ Some y → Q y.path y.from y.segment
    path_so p None h sends = cc
    path_so p (Some t) h sends = subst (λ (z : Sending). Q z.path z.from z.segment) (some_is (sending_as p t) y sends) h
      where
        some_is : (a b : Sending) → Some a ≡ Some b → a ≡ b
        some_is a b e = cc

    member_so : (m : Actor C) → MemberAlso Q m → member_sending m ≡ Some y → Q y.path y.from y.segment
    member_so (App a) h sends = cc
    member_so (Path p) h sends = path_so p (first_sends p.agenda p) h sends

    by : (o : Option (ActorCrew C)) → slice_get w.crew i ≡ o → crew_sending o ≡ Some y → Q y.path y.from y.segment
    by None at sends = cc
    by (Some c) at sends = member_so c.member (h i c at) sends

-- ---- its options

module _ (limit : Side → ℕ) (Maps : Side → PathMapping ℕ → Type 0) (Lines : Side → ℕ → ℕ → Type 0) (Fails : Type 0) (s : Side) where
  -- where one is an infinite mapping, what is known of such
  line_known : (F : Type 0) → ((place position : ℕ) → Lines s place position → F) → (options : List PlainOption) → AllFine limit Maps Lines Fails s options → list_any tells_line options ≡ true → F
  line_known F f [] each tells = absurd (false≢true tells)
  line_known F f (o ∷ options) each tells =
      ⊎_elim (one o (each.each 0 o refl)) (λ later. line_known F f options (record { each = λ i y at. each.each (suc i) y at }) later) (or_cases (tells_line o) (list_any tells_line options) tells)
    where
      one : (o : PlainOption) → OptionFine limit Maps Lines Fails s o → tells_line o ≡ true → F
      one (Dss next (Some (Infinite place position))) is tells = f place position is
      one (Dss next (Some (Bytes place position len fin checksum))) is tells = absurd (false≢true tells)
      one (Dss next (Some (End place checksum))) is tells = absurd (false≢true tells)
      one (Dss next None) is tells = absurd (false≢true tells)
      one _ is tells = absurd (false≢true tells)

  -- where one maps octets there are some
  some_octets : (key at octets : ℕ) (options : List PlainOption) → Every (PlacedIn key at octets) options → AllFine limit Maps Lines Fails s options → list_any maps_octets options ≡ true → 1 ≤ octets
  some_octets key at octets [] placed each maps = absurd (false≢true maps)
  some_octets key at octets (o ∷ options) placed each maps =
      ⊎_elim (one o (placed.each 0 o refl) (each.each 0 o refl))
      (λ later. some_octets key at octets options (record { each = λ i y at_y. placed.each (suc i) y at_y }) (record { each = λ i y at_y. each.each (suc i) y at_y }) later)
      (or_cases (maps_octets o) (list_any maps_octets options) maps)
    where
      one : (o : PlainOption) → PlacedIn key at octets o → OptionFine limit Maps Lines Fails s o → maps_octets o ≡ true → 1 ≤ octets
      one (Dss next (Some (Bytes place position len fin checksum))) placed is maps = let some = is.0 in let same = placed.1 in omega (arith, some, same)
      one (Dss next (Some (End place checksum))) placed is maps = absurd (false≢true maps)
      one (Dss next (Some (Infinite place position))) placed is maps = absurd (false≢true maps)
      one (Dss next None) placed is maps = absurd (false≢true maps)
      one (Capable flag_a flag_c (WithData sender receiver len checksum)) placed is maps = let some = is.0 in let same = placed.1 in omega (arith, some, same)
      one (Capable flag_a flag_c NoKey) placed is maps = absurd (false≢true maps)
      one (Capable flag_a flag_c (Sender sender)) placed is maps = absurd (false≢true maps)
      one (Capable flag_a flag_c (Both sender receiver)) placed is maps = absurd (false≢true maps)
      one _ placed is maps = absurd (false≢true maps)

-- ---- a quiet end maps nothing

other_side : (s : Side) → peer s ≡ s → ⊥
other_side A is = cc
other_side B is = cc

-- one without octets sends none
none_sent : (p : PathState Carried) (s : Side) → HasNone (end_at s p) → (t : ToSend) → first_sends p.agenda p ≡ Some t → t.from ≡ s → (segment_sent p t).payload ≡ []
none_sent p s none t next from = ⊎_elim (λ is. is) (λ other. absurd (other from)) (subst (λ (o : Option ToSend). IfSome o (λ t. Carries P t.from (segment_sent p t))) next (first_carries P p carries p.agenda))
  where
    P : Side → PlainSegment → Type 0
    P = λ u sg. u ≡ s → ⊥

    carries : (u : Side) → RecordsCarry P p.profile u (end_at u p)
    carries u = by (either u s)
      where
        either : (u s : Side) → (u ≡ s) ⊎ (u ≡ s → ⊥)
        either A A = inl refl
        either B B = inl refl
        either A B = inr (λ is. cc)
        either B A = inr (λ is. cc)

        by : (u ≡ s) ⊎ (u ≡ s → ⊥) → RecordsCarry P p.profile u (end_at u p)
        by (inl same) = record { each = λ i r at. inl (none.each i r (ap (λ (x : Side). slice_get (end_at x p).tcp.send.records i) (sym same) ∙ at)) }
        by (inr other) = record { each = λ i r at. inr other }

met_alive : (state : EndPhase) → is_connected state ≡ true → is_dead state ≡ true → ⊥
met_alive EndPhase.Dead met dead = false≢true met
met_alive EndPhase.Waiting met dead = false≢true dead
met_alive _ met dead = false≢true dead

module _ (start : Start) (size : HasRoom start) (fit : NumbersFit start) (before : List Turn) (turn : Turn) (y : Sending) (sends : turn_sending turn (world_run octets before (opened_world start)) ≡ Some y)
    (some : 1 ≤ length y.segment.payload) where
  abbrev v : WorldState Carried
  v = world_run values before (opened_world start)

  bearing : is_bearing y.segment ≡ true
  bearing = by y.segment.payload some
    where
      by : (payload : List ℕ) → 1 ≤ length payload → has_octets payload || list_any tells_end y.segment.options ≡ true
      by [] some = absurd (omega (arith, some))
      by (x ∷ payload) some = refl

  here : Here start size fit before turn y
  here = here_so start size fit before turn y sends

  segment_is : y.segment ≡ segment_sent here.path here.sends
  segment_is = ap (λ (z : Sending). z.segment) here.same ∙ same_segment start size fit before turn here.path here.sends

  from_is : y.from ≡ here.sends.from
  from_is = ap (λ (z : Sending). z.from) here.same

  at_path : slice_get v.crew (suc (suc y.path)) ≡ Some here.crew
  at_path =
      ap (λ (n : ℕ). slice_get v.crew (suc (suc n))) (ap (λ (z : Sending). z.path) here.same)
      ∙ ap (slice_get v.crew) (sym (actor_is start size before here.actor here.crew here.there here.path here.member)) ∙ here.there

  empty : HasNone (end_at y.from here.path) → ⊥
  empty none =
      let gone : y.segment.payload ≡ [] = ap (λ (sg : PlainSegment). sg.payload) segment_is ∙ none_sent here.path y.from none here.sends here.next (sym from_is) in
      let len : length y.segment.payload ≡ 0 = ap (λ (xs : List ℕ). length xs) gone in omega (arith, len, some)

  dead : is_dead (end_at y.from here.path).tcp.state ≡ true → ⊥
  dead died =
      met_alive (end_at here.sends.from here.path).tcp.state (well.plain (ap (λ (sg : PlainSegment). sg.syn) (sym segment_is) ∙ plain.0) (ap (λ (sg : PlainSegment). sg.rst) (sym segment_is) ∙ plain.1))
      (subst (λ (s : Side). is_dead (end_at s here.path).tcp.state ≡ true) from_is died)
    where
      plain : (y.segment.syn ≡ false) × (y.segment.rst ≡ false)
      plain = (also_sent BearsPlain turn (world_run octets before (opened_world start)) (bears_at start size fit before) y sends).bears bearing

      opens : PathSo start size fit before here.path
      opens = subst (MemberOpens start size fit before) here.member (opens_at start size fit before here.actor here.crew here.there)

      well : SendsWell here.path here.sends
      well =
          subst (λ (o : Option ToSend). IfSome o (SendsWell here.path)) here.next
          (sends_at (Opened start size fit before (path_of here.path)) (Answered start size fit before (path_of here.path)) (Spoke start size fit before (path_of here.path)) (Fell start size fit before (path_of here.path))
          here.path opens.0 here.path.agenda opens.1
          (settled_at start size fit before turn (run_met start.key_a start.key_b before (opened_world start) (opened_met start)) (opens_at start size fit before) here.actor here.crew here.there here.path here.member))

  -- its end isn't quiet
  quiet_not : ((c : ActorCrew Carried) (p : PathState Carried) → slice_get v.crew (suc (suc y.path)) ≡ Some c → c.member ≡ Path p → IsQuiet (end_at y.from p)) → ⊥
  quiet_not quiet = ⊎_elim empty dead (quiet here.crew here.path at_path here.member)

-- its options stand at its position, with its payload
abbrev Stands : Start → ℕ → Side → PlainSegment → Type 0
Stands start path s sg = Every (PlacedIn (own_key (drawn start) (peer s)) sg.position (length sg.payload)) sg.options

each_stands : (start : Start) (before : List Turn) → HasRoom start → NumbersFit start → WorldAlso (Stands start) (world_run octets before (opened_world start))
each_stands start before size fit i c at = by c.member (world_speaks start before size fit i c at)
  where
    by : (m : Actor (List ℕ)) → MemberSpeaks start m → MemberAlso (Stands start) m
    by (App a) says = tt
    by (Path p) says = next (first_sends p.agenda p) says.5
      where
        next : (o : Option ToSend) → IfSome o (λ t. Spoken start says.0 p.profile t.from (end_at t.from p) (segment_sent p t)) → IfSome o (λ t. Stands start (path_of p) t.from (segment_sent p t))
        next None is = tt
        next (Some t) is = is.placed.options

-- ---- a run

module _ (start : Start) (size : HasRoom start) (fit : NumbersFit start) where
  -- an own infinite mapping of a side on a path, behind these turns
  abbrev pub OwnIn : List Turn → Side → ℕ → Type 0
  OwnIn turns s n = (m : InfiniteMapping) × (own_in s (slice_get (world_run values turns (opened_world start)).crew (suc (suc n))) ≡ Some m)

  -- one that was told was plain TCP's, or an own one
  abbrev ToldBefore : List Turn → Duo → ℕ → Side → ℕ → ℕ → Type 0
  ToldBefore turns last n s place position = Was is_identity (world_run values turns (opened_world start)).books s ⊎ OwnIn turns s n

  still_fell : (more later turns : List Turn) → more ++ later ≡ turns → (s : Side) → Was is_identity (world_run values more (opened_world start)).books s → Was is_identity (world_run values turns (opened_world start)).books s
  still_fell more later turns is s fell =
      subst (λ (w : WorldState Carried). Was is_identity w.books s)
      (sym (run_append values more later (opened_world start)) ∙ ap (λ (ts : List Turn). world_run values ts (opened_world start)) is)
      (run_was is_identity values s later (world_run values more (opened_world start)) fell)

  before_known : (turns : List Turn) → EachLineKnown start (anyhow start size) (ToldBefore turns) turns
  before_known turns last reaches more later is = record {
    plain = λ n x at s first fell alone position some. inl (still_fell more later turns is s (fell_at start more s n x at fell));
    own = λ n x at may s m own. inr (m, own_stays start more later turns is (suc (suc n)) s m (ap (own_in s) at ∙ own));
  }

  module _ (before : List Turn) (q : ℕ) (s : Side) (said : WasSaid start (TellsLineAt q s) before) where
    told_before : Was is_identity (world_run values said.more (opened_world start)).books s ⊎ OwnIn said.more s q
    told_before =
        subst (λ (u : Side). Was is_identity (world_run values said.more (opened_world start)).books u ⊎ OwnIn said.more u q) said.holds.1
        (subst (λ (n : ℕ). Was is_identity (world_run values said.more (opened_world start)).books said.said.from ⊎ OwnIn said.more said.said.from n) said.holds.0
        (line_known (file_len start) (IsMapped start told.0 said.said.path) (LineAt start (ToldBefore said.more) told.0 said.said.path) (Unit {0}) said.said.from
        (Was is_identity (world_run values said.more (opened_world start)).books said.said.from ⊎ OwnIn said.more said.said.from said.said.path) (λ place position is. is.1) said.said.segment.options tells.0 said.holds.2))
      where
        told : RunTells start (ToldBefore said.more) (Unit {0}) said.more
        told = tells_by start (anyhow start size) (anyhow_free start size) (ToldBefore said.more) (Unit {0}) (λ is. tt) size fit said.more (before_known said.more)

        tells : Tells start (ToldBefore said.more) (Unit {0}) told.0 said.said.path said.said.from said.said.segment
        tells = also_sent (Tells start (ToldBefore said.more) (Unit {0}) told.0) said.turn (world_run octets said.more (opened_world start)) (told.1 said.more [] (append-nil said.more)) said.said said.sends

  module _ (turns : List Turn) where
    -- one that is told has its side's home, and is plain TCP's, or an own one
    abbrev pub EveryLine : Duo → ℕ → Side → ℕ → ℕ → Type 0
    EveryLine last n s place position = IsHome (home_of start turns s) n place position × (((n ≡ 0) × (not last.modes.answered ≡ true)) ⊎ OwnIn turns s n)

    pub every_known : EachLineKnown start (anyhow start size) EveryLine turns
    every_known last reaches more later is = record {
      plain = λ n x at s first fell alone position some. (plain_told start (anyhow start size) more later turns is ended n x at s fell position some, inl (first, alone));
      own = λ n x at may s m own. (
        own_told start (anyhow start size) more later turns is ended n x at s m own,
        inr (m, own_stays start more later turns is (suc (suc n)) s m (ap (own_in s) at ∙ own)),
      );
    }
      where
        ended : Reached (anyhow start size).links start (world_run values turns (opened_world start))
        ended = (reaches turns [] (append-nil turns)).0

    abbrev pub reached : RunTold start (anyhow start size) EveryLine (Unit {0}) turns
    reached = told_by start (anyhow start size) (anyhow_free start size) EveryLine (Unit {0}) (λ is. tt) size fit turns every_known

    abbrev pub told : RunTells start EveryLine (Unit {0}) turns
    told = (reached.0, reached.1, reached.2)

    pub stand : FinsStand start EveryLine (Unit {0}) turns size fit told
    stand before later turn split y sends fin =
        let it = fin_stands start (anyhow start size) size fit turns reached.0 reached.3 before later turn split y sends fin in
        (it.0, subst (FinOn (lane_of reached.0 y.path y.from)) (at_end y.segment.position y.segment.payload it.1) it.2)
      where
        at_end : (position : ℕ) (payload : List ℕ) → payload ≡ [] → position ≡ position + length payload
        at_end position payload none = let empty : length payload ≡ 0 = ap (λ (xs : List ℕ). length xs) none in omega (arith, empty)

    pub all_agree : AgreeOn (EveryLine told.0)
    all_agree p q s a i b j is also = homes_agree (home_of start turns s) p q a i b j is.0 also.0

    module _ (before later : List Turn) (turn : Turn) (split : before ++ turn ∷ later ≡ turns) (y : Sending) (sends : turn_sending turn (world_run octets before (opened_world start)) ≡ Some y)
        (tells : Tells start EveryLine (Unit {0}) told.0 y.path y.from y.segment) (maps : list_any maps_octets y.segment.options ≡ true) (q : ℕ) (other : q ≡ y.path → ⊥)
        (said : WasSaid start (TellsLineAt q y.from) before) where
      some : 1 ≤ length y.segment.payload
      some =
          some_octets (file_len start) (IsMapped start told.0 y.path) (LineAt start EveryLine told.0 y.path) (Unit {0}) y.from (own_key (drawn start) (peer y.from)) y.segment.position (length y.segment.payload)
          y.segment.options (also_sent (Stands start) turn (world_run octets before (opened_world start)) (each_stands start before size fit) y sends) tells.0 maps

      -- behind an own one
      own_apart : OwnIn turns y.from q → ⊥
      own_apart owned = ⊎_elim fell own (told_before before q y.from said)
        where
          fell : Was is_identity (world_run values said.more (opened_world start)).books y.from → ⊥
          fell was =
              (always_sends start turns).never y.from ((always_own start turns).was (suc (suc q)) y.from owned.0 owned.1)
              (still_fell said.more ((said.turn ∷ said.later) ++ turn ∷ later) turns
              (sym (append_assoc said.more (said.turn ∷ said.later) (turn ∷ later)) ∙ ap (λ (ts : List Turn). ts ++ turn ∷ later) said.is ∙ split) y.from was)

          own : OwnIn said.more y.from q → ⊥
          own it =
              quiet_not start size fit before turn y sends some
              (always_quiet start size fit before y.from q y.path it.0 (own_stays start said.more (said.turn ∷ said.later) before said.is (suc (suc q)) y.from it.0 it.1) other)

    pub every_apart : AreApart start EveryLine (Unit {0}) turns size fit told
    every_apart before later turn split y sends tells maps q place position other line said =
        ⊎_elim
        (λ plain. all_none start EveryLine (Unit {0}) told.0 y.path y.from (none_beside told.0 told.2.holds plain.1 y.path y.from (λ first. other (plain.0 ∙ sym first))) y.segment.options tells.0 maps)
        (own_apart before later turn split y sends tells maps q other said) line.1

    -- what the judge finds
    module _ (run : RunFits start turns) (side : Side) (at : Option Side) where
      abbrev pub run_verdict : JudgedValue
      run_verdict = verdict start EveryLine (Unit {0}) turns size fit told stand all_agree every_apart run side at

      pub run_read : judged_capture at true (capture_of start turns side) ≡ Ok run_verdict
      run_read = is_read start EveryLine (Unit {0}) turns size fit told stand all_agree every_apart run side at

      pub run_settled : Settled start EveryLine (Unit {0}) told.0 fit told.2 run_verdict
      run_settled = settled start EveryLine (Unit {0}) turns size fit told stand all_agree every_apart run side at

      pub run_lined_so : (judged : JudgedValue) → judged_capture at true (capture_of start turns side) ≡ Ok judged → (connection : ℕ) (s : Side) (stream : StreamValue)
          → stream_in judged connection s ≡ Some stream → (small : file_len start s < 2 ^ 31) × StreamLined (file_len start s) small (content start s) stream
      run_lined_so judged read connection s stream there =
          (few start told.0 fit s, stands_so start EveryLine (Unit {0}) turns size fit told stand all_agree every_apart run side at judged read connection s stream there)

pub no_run_breaks : (r : Rule) → is_line r ≡ true → NoRunBreaks r
no_run_breaks r is start turns size fit run side at judged read connection s stream there = (run_lined_so start size fit turns run side at judged read connection s stream there).1.untold r is
