-- The copy that B's end takes as a join is found by the token by which it asks.
use Rattle.std.proofs.Common.{◌≡◌, refl, sym, ◌∙◌, ap, subst, ⊎_elim, ℕ, Bool, true, false, ◌&&◌, ◌==◌, if◌then◌else◌, Option, Some, None, option_map, List, [], ◌∷◌, map}
use Rattle.std.proofs.lemmas.Bool.{and_parts, false≢true}
use Rattle.std.proofs.lemmas.List.Elements.{All-head}
use Rattle.std.proofs.lemmas.Option.{same_Some}
use Rattle.std.specs.List.{All, flat_map, slice_get}
use Rattle.std.specs.Option.{IsSome}
use Rattle.sides.specs.declared.side.Side.TheVariants.{A, B}
use Rattle.sides.specs.Side.{peer}
use Rattle.segment_wire.specs.Paths.{addresses_from}
use Rattle.link_script.specs.Places.{same_side}
use Rattle.link_model.specs.declared.flight.Due.{Due}
use Rattle.link_model.specs.declared.flight.Flight.{Flight}
use Rattle.link_model.specs.Laws.{shown_flight}
use Rattle.link_model.specs.Octets.{octets_stripped}
use Rattle.link_model.specs.Steps.{is_due, arriving}
use Rattle.mptcp_options.specs.declared.join.JoinForm.TheVariants.{Syn}
use Rattle.mptcp_options.specs.Text.{Fits}
use Rattle.mptcp_options.specs.Value as wire
use Rattle.join_handshake.specs.declared.hearing.JoinSyn.{JoinSyn}
use Rattle.path_segments.specs.declared.expected.Expected.{Expected}
use Rattle.path_segments.specs.declared.position.HeardPosition.TheVariants.{At}
use Rattle.path_segments.specs.declared.segment.PathOption.TheVariants.{Join}
use Rattle.path_segments.specs.declared.spelling.Spelling.{Spelling}
use Rattle.path_segments.specs.Heard.{HeardSegment}
use Rattle.path_segments.specs.HeardLent.{IsExpected}
use Rattle.path_segments.specs.Laws.{IsFresh, IsHearable, meant, meant_option, window_told}
use Rattle.path_segments.specs.Options.{PlainOption}
use Rattle.path_segments.specs.Spelled.{PlainSegment, CanSay, spelled_text}
use Rattle.path_segments.specs.Spelling.{subflow_number}
use Rattle.actor_desk.specs.Words.{is_nil}
use Rattle.path_agenda.specs.declared.duty.Duty.{Duty}
use Rattle.path_agenda.specs.declared.duty.Duty.TheVariants as duties
use Rattle.path_agenda.specs.declared.duty.StepDuty.TheVariants as steps_of
use Rattle.path_core.specs.declared.events.Event.{Event}
use Rattle.path_core.specs.declared.events.Event.TheVariants as happenings
use Rattle.path_core.specs.Arrival.{expected_by}
use Rattle.path_core.specs.OptionsIn.{items_in, items_of}
use Rattle.path_core.specs.Events.{next_event}
use Rattle.path_core.specs.MpJoin.{is_joined, join_asked}
use Rattle.path_core.specs.Looking.{Arrived, arrived_as, copy_arriving, first_arrival}
use Rattle.path_core.specs.Octets.{made, octets}
use Rattle.path_core.specs.Shown.{octets_of, shown_path, IsFarReset, IsFreshCopy, NextIsFresh}
use Rattle.path_core.specs.State.{PathState, end_at, path_of}
use Rattle.path_core.specs.Values.{Carried, as_arrived, values}
use Rattle.path_core.proofs.CopiesRead.{near_read, far_read}
use Rattle.path_core.proofs.FarResets.{unplaced}
use Rattle.path_core.proofs.Showing.{same_event}
use Rattle.stream_lanes.proofs.Lists.{in_map}
use Rattle.world_laws.specs.declared.member.Member.TheVariants.{App, Path}
use Rattle.world_laws.specs.Actors.{Actor, ActorCrew}
use Rattle.world_laws.specs.Fresh.{IsFreshMember, shown_crew, shown_member, shown_world}
use Rattle.world_laws.specs.Openings.{opened_world}
use Rattle.world_laws.specs.Worlds.{WorldState, world_run}
use Rattle.world_laws.proofs.Joins.Roles.{CopyTells, HasRoles}
use Rattle.world_laws.proofs.Joins.Welcome.{MemberRoles, all_roles}
use Rattle.world_laws.proofs.Keys.AnswerHeardFirst.{TellsKey, asks_first}
use Rattle.world_laws.proofs.Promises.Made.{run_fresh}
use Rattle.world_laws.proofs.Worlds.Finding.{find_every, one_side}
use Rattle.connection_table.specs.Routing.{join_token}
use Rattle.connection_table.proofs.Found.{is_found}
use Rattle.connection_table.specs.FoundJoins.{FindsJoin, FindsJoinNext, FindsJoins, IsHeardAsJoin, JoinsAreFound}
use Rattle.connection_table.proofs.PathsNamed.{HasNumber, paths_have_their_numbers}
use Rattle.connection_table.proofs.TokensShown.{members_fresh, same_arriving}

-- ---- the options of a SYN

-- the first one asks to join so
record AsksSo (options : List PlainOption) : Type 0 where
  pub backup : Bool
  pub id : ℕ
  pub token : ℕ
  pub nonce : ℕ
  pub more : List PlainOption
  pub is : options ≡ Join (Syn backup id token nonce) ∷ more

asks_so : (options : List PlainOption) → asks_first options ≡ true → AsksSo options
asks_so (Join (Syn backup id token nonce) ∷ more) is = record { backup = backup; id = id; token = token; nonce = nonce; more = more; is = refl }
asks_so _ is = cc

-- what these options say to B
abbrev said_to_b : ℕ → List PlainOption → Option JoinSyn
said_to_b window options = join_asked (flat_map (items_in true B window) (map meant_option options))

abbrev asked_by : (options : List PlainOption) → AsksSo options → JoinSyn
asked_by options so = record { backup = so.backup; id = so.id; token = so.token; nonce = so.nonce }

-- B's end takes the first one
asked_so : (window : ℕ) (options : List PlainOption) (asked : JoinSyn) (so : AsksSo options) → said_to_b window options ≡ Some asked → so.token ≡ asked.token
asked_so window options asked so is =
    ap (λ (x : JoinSyn). x.token) (same_Some (asked_by options so) asked (ap (said_to_b window) (sym so.is) ∙ is))

not_acknowledging : (o : Option ℕ) → option_map (λ n. At n) o ≡ None → o ≡ None
not_acknowledging None is = refl
not_acknowledging (Some n) is = cc

-- ---- a copy

module _ (spelling : Spelling) (expected : Expected) (carried : Carried) (asked : JoinSyn) (from : carried.from ≡ A) (can : CanSay spelling A carried.segment)
    (tells : TellsKey true B carried.segment) where
  abbrev sg : PlainSegment
  sg = carried.segment

  abbrev window : ℕ
  window = window_told sg.syn sg.window

  so_found : IsFresh spelling A expected sg → sg.syn ≡ true → sg.acknowledged ≡ None → said_to_b window sg.options ≡ Some asked → (so : AsksSo sg.options)
      → join_token (addresses_from spelling.path A) (spelled_text spelling A sg) ≡ Some asked.token
  so_found near syn alone asks so =
      is_found spelling A sg so.backup so.id so.token so.nonce so.more can syn alone so.is fits
      ∙ ap (λ n. Some n) (asked_so window sg.options asked so asks)
    where
      fits : Fits (wire.Join (Syn so.backup so.id so.token so.nonce))
      fits = (All-head (IsHearable spelling A expected) (Join (Syn so.backup so.id so.token so.nonce)) so.more (subst (All (IsHearable spelling A expected)) so.is near.options)).fits

  whole_found : IsFresh spelling A expected sg → sg.syn ≡ true → sg.acknowledged ≡ None → said_to_b window sg.options ≡ Some asked
      → join_token (addresses_from spelling.path A) (spelled_text spelling A sg) ≡ Some asked.token
  whole_found near syn alone asks = by sg.options refl
    where
      by : (options : List PlainOption) → sg.options ≡ options → join_token (addresses_from spelling.path A) (spelled_text spelling A sg) ≡ Some asked.token
      by [] is = absurd (let never : None ≡ Some asked = ap (said_to_b window) (sym is) ∙ asks in cc)
      by (o ∷ options) is = so_found near syn alone asks (asks_so sg.options (tells (ap is_nil is) syn))

  -- without its options it asks nothing
  near_found : IsFresh spelling A expected sg → sg.syn ≡ true → sg.acknowledged ≡ None → join_asked (items_of true B (meant (as_arrived carried))) ≡ Some asked
      → join_token (addresses_from spelling.path A) (octets_of spelling carried) ≡ Some asked.token
  near_found near syn alone asks = by carried.stripped refl asks
    where
      by : (b : Bool) → carried.stripped ≡ b → said_to_b window (if b then [] else sg.options) ≡ Some asked
          → join_token (addresses_from spelling.path A) (octets_of spelling carried) ≡ Some asked.token
      by true is asks = cc
      by false is asks =
          ap (λ b. join_token (addresses_from spelling.path A) (if b then octets_stripped spelling.path carried.from (made spelling carried.from sg) else made spelling carried.from sg)) is
          ∙ ap (λ s. join_token (addresses_from spelling.path A) (made spelling s sg)) from
          ∙ whole_found near syn alone asks

-- ---- the copy that comes next

module _ (p : PathState Carried) (fresh : NextIsFresh p) (roles : HasRoles p) (numbered : path_of p ≡ p.profile.spelling.path) (copy : Arrived) (asked : JoinSyn)
    (h : IsHeardAsJoin (shown_path p) copy asked) where
  abbrev spelling : Spelling
  spelling = p.profile.spelling

  abbrev expected : Expected
  expected = expected_by (end_at B p)

  module _ (carried : Carried) (is : IsFreshCopy p B carried) (tells : TellsKey true B carried.segment)
      (reads : octets.reads spelling A expected (octets_of spelling carried) ≡ Some h.heard) where
    by_near : IsFresh spelling A expected carried.segment → join_token (addresses_from spelling.path A) (octets_of spelling carried) ≡ Some asked.token
    by_near near =
        let same : meant (as_arrived carried) ≡ h.heard = same_Some (meant (as_arrived carried)) h.heard (sym (near_read spelling A expected carried is.from is.sayable is.expected near) ∙ reads) in
        near_found spelling expected carried asked is.from is.sayable tells near (ap (λ (x : HeardSegment). x.syn) same ∙ h.syn)
        (not_acknowledging carried.segment.acknowledged (ap (λ (x : HeardSegment). x.acknowledged) same ∙ h.alone))
        (ap (λ (x : HeardSegment). join_asked (items_of true B x)) same ∙ h.asks)

    -- a far reset acknowledges
    by_far : IsFarReset spelling A expected carried.segment → join_token (addresses_from spelling.path A) (octets_of spelling carried) ≡ Some asked.token
    by_far far =
        let same : unplaced (subflow_number spelling A carried.segment.position) (meant (as_arrived carried)) ≡ h.heard =
        same_Some (unplaced (subflow_number spelling A carried.segment.position) (meant (as_arrived carried))) h.heard
        (sym (far_read spelling A expected carried is.from is.sayable is.expected far) ∙ reads) in
        absurd (false≢true (subst IsSome (not_acknowledging carried.segment.acknowledged (ap (λ (x : HeardSegment). x.acknowledged) same ∙ h.alone)) far.acknowledging))

    carried_found : join_token (addresses_from spelling.path A) (octets_of spelling carried) ≡ Some asked.token
    carried_found = ⊎_elim (λ near. by_near near) (λ far. by_far far) is.fresh

  module _ (due : Due) (next : next_event p ≡ Some (happenings.Arrives due)) where
    abbrev as_copy : Flight Carried → Arrived
    as_copy f = arrived_as (path_of p) due.to (shown_flight (octets_of spelling) f)

    told : (f : Flight Carried) → arriving due p.link ≡ Some f → due.to ≡ B → TellsKey true B f.carried.segment
    told f there at_b =
        let found = find_every (CopyTells (is_joined p.profile)) (is_due due) p.link.under_way f roles.copies there in
        let parts = and_parts (f.tick == due.tick) (same_side f.to due.to && f.number == due.copy) found.1 in
        let to = one_side f.to due.to (and_parts (same_side f.to due.to) (f.number == due.copy) parts.1).0 in
        subst (λ b. TellsKey b B f.carried.segment) h.joins (subst (λ s. TellsKey (is_joined p.profile) s f.carried.segment) (to ∙ at_b) found.0)

    flight_found : (f : Flight Carried) → arriving due p.link ≡ Some f → as_copy f ≡ copy → join_token copy.addresses copy.octets ≡ Some asked.token
    flight_found f there same =
        let at_b : due.to ≡ B = ap (λ (x : Arrived). x.to) same ∙ h.to in
        subst (λ (x : Arrived). join_token x.addresses x.octets ≡ Some asked.token) same
        (ap (λ s. join_token (addresses_from (path_of p) (peer s)) (octets_of spelling f.carried)) at_b
        ∙ ap (λ n. join_token (addresses_from n A) (octets_of spelling f.carried)) numbered
        ∙ carried_found f.carried (subst (λ s. IsFreshCopy p s f.carried) at_b (fresh due f next there)) (told f there at_b)
        (subst (λ (x : Arrived). octets.reads spelling A expected x.octets ≡ Some h.heard) (sym same) h.reads))

    due_found : (o : Option (Flight Carried)) → arriving due p.link ≡ o → option_map (arrived_as (path_of p) due.to) (option_map (shown_flight (octets_of spelling)) o) ≡ Some copy
        → join_token copy.addresses copy.octets ≡ Some asked.token
    due_found None there is = cc
    due_found (Some f) there is = flight_found f there (same_Some (as_copy f) copy is)

  event_found : (o : Option Event) → next_event p ≡ o → copy_arriving o (shown_path p) ≡ Some copy → join_token copy.addresses copy.octets ≡ Some asked.token
  event_found None next is = cc
  event_found (Some (happenings.Joins tick)) next is = cc
  event_found (Some (happenings.Takes line)) next is = cc
  event_found (Some (happenings.Arrives due)) next is =
      due_found due next (arriving due p.link) refl
      (ap (option_map (arrived_as (path_of p) due.to)) (sym (same_arriving (octets_of spelling) due p.link.under_way)) ∙ is)
  event_found (Some (happenings.Fires s tick)) next is = cc

  next_found : (ds : List Duty) → first_arrival ds (shown_path p) ≡ Some copy → join_token copy.addresses copy.octets ≡ Some asked.token
  next_found (duties.Step steps_of.Events ∷ ds) is = event_found (next_event p) refl (ap (λ o. copy_arriving o (shown_path p)) (sym (same_event p)) ∙ is)
  next_found _ is = cc

-- ---- of a world

member_found : (m : Actor Carried) → IsFreshMember m → MemberRoles m → HasNumber values m → FindsJoinNext (shown_member m)
member_found (App a) fresh roles numbered = tt
member_found (Path p) fresh roles numbered = λ copy asked is h. next_found p fresh.next roles numbered copy asked h p.agenda is

pub joins_are_found : JoinsAreFound
joins_are_found start turns size fit = subst FindsJoins (sym (run_fresh start turns size fit)) (record { each = at })
  where
    w : WorldState Carried
    w = world_run values turns (opened_world start)

    at : (actor : ℕ) (c : ActorCrew (List ℕ)) → slice_get (shown_world w).crew actor ≡ Some c → FindsJoinNext c.member
    at actor c there =
        let found = in_map shown_crew w.crew actor c there in
        subst (λ y. FindsJoinNext y.member) found.2
        (member_found found.0.member (members_fresh start turns size fit actor found.0 found.1) ((all_roles start turns).each actor found.0 found.1)
        ((paths_have_their_numbers values start turns).each actor found.0 found.1))
