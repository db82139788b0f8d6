-- In a mild connection no end of a path that joins breaks, once both are past the handshake: the layers of what such a path keeps, one after the other.
use Rattle.std.proofs.Common.{◌≡◌, sym, subst, ap, ◌∙◌, ⊎_elim, ℕ, ◌+◌, ◌≤◌, true, false, Some, List, [], ◌∷◌, ◌++◌}
use Rattle.std.specs.List.{list_any, slice_get}
use Rattle.std.proofs.lemmas.Bool.{both_ways}
use Rattle.sides.specs.declared.side.Side.{Side}
use Rattle.sides.specs.declared.side.Side.TheVariants.{A, B}
use Rattle.sides.specs.Side.{peer}
use Rattle.stream_lanes.specs.Words.{Every}
use Rattle.stream_lanes.proofs.Lists.{in_map, in_set}
use Rattle.actor_desk.specs.Books.{StampedBooks}
use Rattle.actor_desk.specs.declared.ask.Ask.{Ask}
use Rattle.actor_desk.specs.declared.ask.Reply.{Reply}
use Rattle.path_agenda.specs.Agenda.{resets}
use Rattle.path_core.specs.MpJoin.{is_joined}
use Rattle.path_core.specs.Octets.{octets}
use Rattle.path_core.specs.Shown.{AltersNothing, shown_path}
use Rattle.path_core.specs.Start.{waiting_path}
use Rattle.path_core.specs.State.{PathState, end_at}
use Rattle.path_core.specs.Steps.{next_round, takes}
use Rattle.path_core.specs.Turns.{FirstStands}
use Rattle.path_core.specs.Values.{Carried, values}
use Rattle.world_laws.specs.declared.member.Member.TheVariants.{App, Path}
use Rattle.world_laws.specs.Actors.{Actor, ActorCrew, member_asks, member_next, member_takes}
use Rattle.world_laws.specs.Agreement.{EndsAgree}
use Rattle.world_laws.specs.Fresh.{shown_crew, shown_member, shown_world}
use Rattle.world_laws.specs.Members.{HoldsOfKind}
use Rattle.world_laws.specs.NeverFalls.{StripsNothing}
use Rattle.world_laws.specs.Openings.{Start, opened_world, path_begins}
use Rattle.world_laws.specs.Promises.{NothingWasRefused, tells_refusal}
use Rattle.world_laws.specs.RoundDone.{reached}
use Rattle.world_laws.specs.StampedBooks.{answer_to}
use Rattle.world_laws.specs.Worlds.{WorldState, Turn, after_turn, asked, begins, crew_after, greatest, world_run}
use Rattle.world_laws.proofs.Places.Agree.{mappings_agree}
use Rattle.world_laws.proofs.Promises.AbortsHaveACause.{StopsAreAsked, stops_are_asked}
use Rattle.world_laws.proofs.Promises.Made.{nothing_refused, run_fresh}
use Rattle.world_laws.proofs.Rounds.Lifting.{opened_lifted}
use Rattle.world_laws.proofs.Weaving.WholeRounds.{run_append}
use Rattle.world_laws.proofs.Whole.Ends.{is_infinite_item}
use Rattle.world_laws.proofs.Whole.Falls.{MemberUpright, each_upright}
use Rattle.world_laws.proofs.Worlds.Turns.{turn_so}
use Rattle.whole_paths.specs.AsFar.{stage}
use Rattle.whole_paths.specs.JoinedPaths.{IsJoinUnbroken, JoinedPathsNeverBreak}
use Rattle.whole_paths.specs.LastFin.{FinIsLast}
use Rattle.whole_paths.specs.Mapped.{EndsAreLive}
use Rattle.whole_paths.specs.Mild.{EndsGoByMappings, IsMildStart, IsPromisedMildly, LinkIsMild}
use Rattle.whole_paths.proofs.Breaking.{none_noted, path_breaks, shown_unbroken, step_fine}
use Rattle.whole_paths.proofs.ByTurns.{Of}
use Rattle.whole_paths.proofs.Came.{AnswersReset, answers_reset}
use Rattle.whole_paths.proofs.ClearFirst.{syns_alone}
use Rattle.whole_paths.proofs.ByPaths.{OfEach, each_path}
use Rattle.whole_paths.proofs.Exchanges.{Shown, each_shown}
use Rattle.whole_paths.proofs.Flying.{SameProfile, profile_lasts, takes_frames}
use Rattle.whole_paths.proofs.JoinedCopies.{CopySays, SaysWell, next_says, opened_says, takes_says}
use Rattle.whole_paths.proofs.JoinedKeys.{HasJoinedKeys, joined_ends_have_keys}
use Rattle.whole_paths.proofs.JoinedLow.{LowAt, next_low, opened_low, takes_low}
use Rattle.whole_paths.proofs.JoinedTreated.{AllTreat, TreatsKnown, next_treats, opened_treats, takes_treats}
use Rattle.whole_paths.proofs.JoinedUnbroken.{IsWell, JoinKnown, begins_well, past_calm, takes_well}
use Rattle.whole_paths.proofs.Knowing.{what_is_told_is_known}
use Rattle.whole_paths.proofs.LastFin.{fins_are_last}
use Rattle.whole_paths.proofs.MappedCopies.{EndBehind, PathMaps, each_behind, each_maps}
use Rattle.whole_paths.proofs.Mild.{links_are_mild, mapping_is_kept}
use Rattle.whole_paths.proofs.OpenCourses.{IsOfLanes, each_of_lanes}
use Rattle.whole_paths.proofs.Reached.{EndsAreReached, each_is_reached}
use Rattle.world_laws.proofs.Writes.Steps.{begins_lasts}

-- of a path that joins
abbrev pub IfJoined : (PathState Carried → Type 0) → PathState Carried → Type 0
IfJoined P p = is_joined p.profile ≡ true → P p

-- ---- whether a path joins stays

pub joined_before : (r : Reply) (p : PathState Carried) → is_joined (takes values r p).profile ≡ true → is_joined p.profile ≡ true
joined_before r p joins = ap is_joined (sym (takes_frames values r p).profile) ∙ joins

pub joined_round : (p : PathState Carried) → is_joined (next_round p).profile ≡ true → is_joined p.profile ≡ true
joined_round p joins = ap is_joined (sym (begins_lasts SameProfile profile_lasts (record p { clock = p.until; until = p.until + 100 }))) ∙ joins

module _ (start : Start) (mild : IsMildStart start) where
  -- ---- as long as an end may send no DSS

  record Stands (p : PathState Carried) : Type 0 where
    stood : FirstStands p.agenda p
    maps : EndsGoByMappings p

  stands : (turns : List Turn) → OfEach Stands (reached values start turns)
  stands turns = record { each = λ actor c there. by c.member ((each_upright start turns mild.plain mild.strips).each actor c there) ((mapping_is_kept start turns mild).each actor c there) }
    where
      by : (m : Actor Carried) → MemberUpright m → Of EndsGoByMappings m → Of Stands m
      by (App a) upright maps = tt
      by (Path p) upright maps = record { stood = upright.passes.settled; maps = maps }

  pub each_low : (turns : List Turn) → OfEach (IfJoined (λ p. LowAt p.agenda p)) (reached values start turns)
  each_low = each_path values start Stands (IfJoined (λ p. LowAt p.agenda p)) stands (λ number plan joins. opened_low start number plan)
      (λ r p k h joins. let was = joined_before r p joins in takes_low r p k.stood k.maps was (h was)) (λ p k h joins. next_low p (h (joined_round p joins)))

  -- ---- copies under way

  record Sends (p : PathState Carried) : Type 0 where
    well : IfJoined SaysWell p
    strips : StripsNothing p.link.lines
    alters : AltersNothing p.link.lines

  sends : (turns : List Turn) → OfEach Sends (reached values start turns)
  sends turns = record {
    each = λ actor c there. by c.member ((mapping_is_kept start turns mild).each actor c there) (answers_reset start turns actor c there) (each_shown start turns mild.plain.size mild.fit actor c there)
        (each_behind start turns mild.plain.size actor c there) ((each_is_reached values start turns).each actor c there) (each_of_lanes start turns mild.plain.size actor c there) ((each_low turns).each actor c there)
        ((links_are_mild values start turns mild).each actor c there);
  }
    where
      by : (m : Actor Carried) → Of EndsGoByMappings m → Of AnswersReset m → Of Shown m → Of EndBehind m → Of EndsAreReached m → Of (IsOfLanes start) m → Of (IfJoined (λ p. LowAt p.agenda p)) m → Of (LinkIsMild start.lines) m → Of Sends m
      by (App a) maps resets shown behind reached lanes low link = tt
      by (Path p) maps resets shown behind reached lanes low link = record {
        well = λ joins. record { joins = joins; maps = maps; resets = resets; syns = λ s. syns_alone s p shown behind reached (lanes.kinds s); low = low joins };
        strips = link.strips;
        alters = link.alters;
      }

  abbrev AllSay : PathState Carried → Type 0
  AllSay p = Every (CopySays p) p.link.under_way

  each_says : (turns : List Turn) → OfEach (IfJoined AllSay) (reached values start turns)
  each_says = each_path values start Sends (IfJoined AllSay) sends (λ number plan joins. opened_says start number plan)
      (λ r p k h joins. let was = joined_before r p joins in takes_says r p (k.well was) k.strips k.alters (h was)) (λ p k h joins. next_says p (h (joined_round p joins)))

  -- ---- the copy that is treated

  treats_known : (turns : List Turn) → OfEach (IfJoined TreatsKnown) (reached values start turns)
  treats_known turns = record {
    each = λ actor c there. by c.member ((each_upright start turns mild.plain mild.strips).each actor c there) (each_shown start turns mild.plain.size mild.fit actor c there) (each_behind start turns mild.plain.size actor c there)
        ((fins_are_last start turns mild.plain.size).each actor c there) ((each_maps start turns mild).each actor c there) ((each_says turns).each actor c there) (joined_ends_have_keys start turns actor c there);
  }
    where
      by : (m : Actor Carried) → MemberUpright m → Of Shown m → Of EndBehind m → Of FinIsLast m → Of PathMaps m → Of (IfJoined AllSay) m → Of (IfJoined HasJoinedKeys) m → Of (IfJoined TreatsKnown) m
      by (App a) upright shown behind fins maps says keys = tt
      by (Path p) upright shown behind fins maps says keys = λ joins. record {
        joins = joins;
        mapped = upright.identity;
        shown = shown;
        behind = behind;
        fins = fins;
        maps_all = maps;
        says = says joins;
        keyed = (keys joins).keyed;
      }

  each_treats : (turns : List Turn) → OfEach (IfJoined AllTreat) (reached values start turns)
  each_treats = each_path values start (IfJoined TreatsKnown) (IfJoined AllTreat) treats_known (λ number plan joins. opened_treats start number plan)
      (λ r p k h joins. let was = joined_before r p joins in takes_treats r p (k was) (h was)) (λ p k h joins. next_treats p (h (joined_round p joins)))

  -- ---- the agenda

  each_known : (turns : List Turn) → OfEach (IfJoined JoinKnown) (reached values start turns)
  each_known turns = record {
    each = λ actor c there. by c.member ((each_upright start turns mild.plain mild.strips).each actor c there) ((mappings_agree start turns mild.plain.size).each actor c there) (((what_is_told_is_known values).live start turns).each actor c there)
        ((each_maps start turns mild).each actor c there) ((each_says turns).each actor c there) ((each_treats turns).each actor c there);
  }
    where
      by : (m : Actor Carried) → MemberUpright m → EndsAgree m → Of EndsAreLive m → Of PathMaps m → Of (IfJoined AllSay) m → Of (IfJoined AllTreat) m → Of (IfJoined JoinKnown) m
      by (App a) upright agree live maps says treats = tt
      by (Path p) upright agree live maps says treats = λ joins. record { joins = joins; upright = upright; agree = agree; live = live; maps_all = maps; says = says joins; treats = treats joins }

  member_takes_well : (books : StampedBooks) (m : Actor Carried) (x : Ask) → member_asks values m ≡ Some x → tells_refusal (answer_to books x) ≡ false → Of (IfJoined JoinKnown) m → Of (IfJoined IsWell) m → Of (IfJoined IsWell) (member_takes values (answer_to books x) m)
  member_takes_well books (App a) x is fine k h = tt
  member_takes_well books (Path p) x is fine k h = λ joins. let was = joined_before (answer_to books x) p joins in takes_well books x p is fine (k was) (h was)

  member_next_well : (m : Actor Carried) → Of (IfJoined IsWell) (member_next m)
  member_next_well (App a) = tt
  member_next_well (Path p) = λ joins. begins_well (record p { clock = p.until; until = p.until + 100 })

  abbrev EachWell : WorldState Carried → Type 0
  EachWell w = OfEach (IfJoined IsWell) w

  turn_well : (turns : List Turn) (turn : Turn) → let w = reached values start turns in NothingWasRefused (after_turn values turn w) → EachWell w → EachWell (after_turn values turn w)
  turn_well turns turn fine h =
      turn_so values (λ v. NothingWasRefused v → EachWell v) turn w (λ fine. h)
      (λ actor c x there is fine. record {
        each = λ i d at. ⊎_elim
            (λ here. subst (λ (y : ActorCrew Carried). Of (IfJoined IsWell) y.member) here.1
            (member_takes_well w.books c.member x is (step_fine w actor c x there fine) ((each_known turns).each actor c there) (h.each actor c there)))
            (λ other. h.each i d other.1)
            (in_set w.crew actor (crew_after values x w.books c) i d at);
      })
      (λ over fine. record {
        each = λ i d at.
            let found = in_map (begins (greatest 0 w.crew)) w.crew i d at in
            subst (λ (y : ActorCrew Carried). Of (IfJoined IsWell) y.member) found.2 (member_next_well found.0.member);
      })
      fine
    where
      w : WorldState Carried
      w = reached values start turns

  run_well : (before more : List Turn) → EachWell (reached values start before) → EachWell (world_run values more (reached values start before))
  run_well before [] h = h
  run_well before (turn ∷ more) h =
      let same : reached values start (before ++ turn ∷ []) ≡ after_turn values turn (reached values start before) = run_append values before (turn ∷ []) (opened_world start) in
      subst (λ (w : WorldState Carried). EachWell (world_run values more w)) same (run_well (before ++ turn ∷ []) more (subst EachWell (sym same)
      (turn_well before turn (subst NothingWasRefused same (nothing_refused start (before ++ turn ∷ []) mild.plain)) h)))

  each_well : (turns : List Turn) → EachWell (reached values start turns)
  each_well turns = run_well [] turns (record { each = (opened_lifted (λ c. Of (IfJoined IsWell) c.member) start tt tt (λ number plan there joins. begins_well (waiting_path (path_begins start number plan) start.lines))).each })

-- an end that joins is told no infinite mapping
pub joined_ends_are_told_no_infinite : (start : Start) (turns : List Turn) → IsMildStart start → (actor : ℕ) (c : ActorCrew Carried) → slice_get (world_run values turns (opened_world start)).crew actor ≡ Some c
    → HoldsOfKind (λ app. Unit {0}) (λ (p : PathState Carried). is_joined p.profile ≡ true → (s : Side) → list_any is_infinite_item (end_at s p).treated.items ≡ false) c.member
joined_ends_are_told_no_infinite start turns mild actor c there = by c.member ((each_treats start mild turns).each actor c there)
  where
    by : (m : Actor Carried) → Of (IfJoined AllTreat) m → HoldsOfKind (λ app. Unit {0}) (λ (p : PathState Carried). is_joined p.profile ≡ true → (s : Side) → list_any is_infinite_item (end_at s p).treated.items ≡ false) m
    by (App a) treats = tt
    by (Path p) treats = λ joins s. (treats joins s).finite

-- ---- the law

pub joined_paths_never_break : IsPromisedMildly values (λ start w. JoinedPathsNeverBreak w)
joined_paths_never_break start turns mild = record {
  each = λ actor c there. by c.member ((each_well start mild turns).each actor c there) ((each_upright start turns mild.plain mild.strips).each actor c there) (stops_are_asked start turns actor c there);
}
  where
    w : WorldState Carried
    w = world_run values turns (opened_world start)

    by : (m : Actor Carried) → Of (IfJoined IsWell) m → MemberUpright m → StopsAreAsked w m → HoldsOfKind (λ app. Unit {0}) IsJoinUnbroken m
    by (App a) well upright asked = tt
    by (Path p) well upright asked = λ joins past. path_breaks p upright.passes.sound (λ s spoken. both_ways _ (none_noted start turns mild (peer s)) (asked s spoken)) (past_calm p (well joins) past)

-- ---- over octets

shown_joined : (m : Actor Carried) → HoldsOfKind (λ app. Unit {0}) IsJoinUnbroken m → HoldsOfKind (λ app. Unit {0}) IsJoinUnbroken (shown_member m)
shown_joined (App a) h = tt
shown_joined (Path p) h = λ joins past. shown_unbroken p (h joins (λ s. by s (past s)))
  where
    by : (s : Side) → 3 ≤ stage (end_at s (shown_path p)).tcp.state → 3 ≤ stage (end_at s p).tcp.state
    by A low = low
    by B low = low

world_joined : (w : WorldState Carried) → JoinedPathsNeverBreak w → JoinedPathsNeverBreak (shown_world w)
world_joined w h = record {
  each = λ i c there.
      let found = in_map shown_crew w.crew i c there in
      subst (λ (y : ActorCrew (List ℕ)). HoldsOfKind (λ app. Unit {0}) IsJoinUnbroken y.member) found.2 (shown_joined found.0.member (h.each i found.0 found.1));
}

pub joined_paths_never_break_in_octets : IsPromisedMildly octets (λ start w. JoinedPathsNeverBreak w)
joined_paths_never_break_in_octets start turns mild =
    subst JoinedPathsNeverBreak (sym (run_fresh start turns mild.plain.size mild.fit)) (world_joined (world_run values turns (opened_world start)) (joined_paths_never_break start turns mild))
