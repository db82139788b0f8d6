-- Each copy that comes to B and asks to join shows the token of B's key: over segments as values, and over octets where the turns are
-- fresh.
use Rattle.std.proofs.Common.{◌≡◌, refl, sym, ◌∙◌, ap, subst, ⊎_elim, ℕ, Bool, true, false, cond, Option, Some, None, option_map, List, [], ◌∷◌, ◌++◌, ◌==◌, ◌&&◌, find, map}
use Rattle.std.proofs.lemmas.Bool.{and_parts}
use Rattle.std.proofs.lemmas.Option.{same_Some}
use Rattle.std.specs.List.{slice_get}
use Rattle.sides.specs.declared.side.Side.{Side}
use Rattle.sides.specs.declared.side.Side.TheVariants.{A, B}
use Rattle.sides.specs.Side.{peer}
use Rattle.key_material.specs.KeyDigest.{token_of}
use Rattle.link_script.specs.Places.{same_side}
use Rattle.link_model.specs.declared.flight.Due.{Due}
use Rattle.link_model.specs.declared.flight.Flight.{Flight}
use Rattle.link_model.specs.Laws.{shown_flight}
use Rattle.link_model.specs.Steps.{is_due, arriving}
use Rattle.mptcp_options.specs.declared.join.JoinForm.{JoinForm}
use Rattle.mptcp_options.specs.declared.join.JoinForm.TheVariants.{Syn, Answer, Third}
use Rattle.path_segments.specs.declared.expected.Expected.{Expected}
use Rattle.path_segments.specs.declared.segment.PathOption.{PathOption}
use Rattle.path_segments.specs.declared.segment.PathOption.TheVariants.{Capable, Join, Dss, AddAddr, Remove, Prio, Fail, FastClose, Reset}
use Rattle.path_segments.specs.Laws.{IsFresh, meant, meant_option}
use Rattle.path_segments.specs.Options.{PlainOption}
use Rattle.path_segments.specs.Spelled.{PlainSegment}
use Rattle.path_segments.specs.Spelling.{subflow_number}
use Rattle.path_segments.specs.Heard.{HeardSegment}
use Rattle.stream_lanes.specs.Words.{Every}
use Rattle.stream_lanes.proofs.Lists.{in_map}
use Rattle.actor_desk.specs.Books.{books_in}
use Rattle.path_core.specs.declared.events.Event.TheVariants.{Arrives}
use Rattle.path_core.specs.Arrival.{expected_by, heard_in}
use Rattle.path_core.specs.Events.{next_event}
use Rattle.path_core.specs.MpJoin.{is_joined}
use Rattle.path_core.specs.Octets.{octets}
use Rattle.path_core.specs.Shown.{octets_of, shown_path, IsFarReset, IsFreshCopy, NextIsFresh}
use Rattle.path_core.specs.State.{PathState, end_at}
use Rattle.path_core.specs.Values.{Carried, as_arrived, values}
use Rattle.path_core.proofs.CopiesRead.{near_read, far_read}
use Rattle.path_core.proofs.FarResets.{unplaced}
use Rattle.path_core.proofs.Showing.{same_event}
use Rattle.world_laws.specs.declared.member.Member.TheVariants.{App, Path}
use Rattle.world_laws.specs.Actors.{Actor, ActorCrew}
use Rattle.world_laws.specs.Fresh.{IsFreshCrew, IsFreshMember, IsFreshTurn, AreFresh, shown_crew, shown_member, shown_world}
use Rattle.world_laws.specs.Openings.{Start, opened_world}
use Rattle.world_laws.specs.Promises.{HasRoom, NumbersFit}
use Rattle.world_laws.specs.Worlds.{WorldState, Turn, after_turn, world_run}
use Rattle.world_laws.proofs.Worlds.Finding.{find_every, one_side}
use Rattle.world_laws.proofs.Joins.TokensAgree.{WorldMet, run_met, opened_met}
use Rattle.world_laws.proofs.Keys.ToldAreOwn.{Joined, NoMore, Past, MemberIs, with_nonces}
use Rattle.world_laws.proofs.Keys.Held.{PathIs, FlightIs, arrived_is}
use Rattle.world_laws.proofs.Keys.AreDrawn.{Deed, Secrets, OptionIs, SegmentIs}
use Rattle.world_laws.proofs.Promises.Made.{run_fresh}
use Rattle.world_laws.proofs.Numbers.EveryTurn.{every_list_is_fresh}
use Rattle.connection_table.specs.Tokens.{ShowsToken}
use Rattle.connection_table.specs.JoinTokens.{HeardShowsToken, NextShowsToken, ShowsTokenNext, JoinsShowToken, ValuesShowTheToken, OctetsShowTheToken}

-- ---- over segments as values

module _ (k : Secrets) (w : Side → Type 0) (did : Deed → Side → Type 0) where
  abbrev token_of_b : ℕ
  token_of_b = token_of k.key_b

  form_shows : (form : JoinForm) → OptionIs k true w did true A (Join form) → ShowsToken token_of_b (Join form)
  form_shows (Syn backup id shown nonce) is = (is.1.1 refl).0
  form_shows (Answer backup id hmac nonce) is = tt
  form_shows (Third hmac) is = tt

  -- what A says is heard so
  option_shows : (joined : Bool) (o : PlainOption) → OptionIs k true w did joined A o → ShowsToken token_of_b (meant_option o)
  option_shows joined (Join form) is = form_shows form (subst (λ b. OptionIs k true w did b A (Join form)) is.0 is)
  option_shows joined _ is = tt

  segment_shows : (joined : Bool) (sg : PlainSegment) → Every (OptionIs k true w did joined A) sg.options → HeardShowsToken token_of_b (meant sg)
  segment_shows joined sg said = record { each = by }
    where
      by : (i : ℕ) (x : PathOption (Option ℕ) (List ℕ)) → slice_get (map meant_option sg.options) i ≡ Some x → ShowsToken token_of_b x
      by i x there =
          let found = in_map meant_option sg.options i x there in
          subst (ShowsToken token_of_b) found.2 (option_shows joined found.0 (said.each i found.0 found.1))

  path_shows : (p : PathState Carried) → PathIs k true w did p → NextShowsToken values token_of_b p
  path_shows p h due heard next at_b is = by (arriving due p.link) refl is
    where
      said : (f : Flight Carried) → arriving due p.link ≡ Some f → SegmentIs k true w did p.profile A f.carried.segment
      said f there =
          let found = find_every (FlightIs k true w did p.profile) (is_due due) p.link.under_way f h.copies there in
          let parts = and_parts (f.tick == due.tick) (same_side f.to due.to && f.number == due.copy) found.1 in
          let to = one_side f.to due.to (and_parts (same_side f.to due.to) (f.number == due.copy) parts.1).0 in
          subst (λ s. SegmentIs k true w did p.profile (peer s) f.carried.segment) (to ∙ at_b) found.0

      by : (o : Option (Flight Carried)) → arriving due p.link ≡ o → heard_in values due.to o p ≡ Some heard → HeardShowsToken token_of_b heard
      by None there is = cc
      by (Some f) there is =
          subst (HeardShowsToken token_of_b) (same_Some (meant (as_arrived f.carried)) heard is)
          (segment_shows (is_joined p.profile) (as_arrived f.carried) (arrived_is k true w did p.profile A f.carried (said f there)))

pub values_show_the_token : ValuesShowTheToken
values_show_the_token start turns = record { each = λ actor c there. by c.member (met.keys.crew.each actor c there) }
  where
    met : WorldMet start.key_a start.key_b (world_run values turns (opened_world start))
    met = run_met start.key_a start.key_b turns (opened_world start) (opened_met start)

    by : (m : Actor Carried) → MemberIs start.key_a start.key_b true (books_in (world_run values turns (opened_world start)).books) m → ShowsTokenNext values (token_of start.key_b) m
    by (App a) keys = tt
    by (Path p) keys =
        path_shows (with_nonces start.key_a start.key_b true keys.nonce_a keys.nonce_b) (Joined (books_in (world_run values turns (opened_world start)).books))
        (Past (books_in (world_run values turns (opened_world start)).books) NoMore) p keys.is

-- ---- over octets

pub same_arriving : (show : Carried → List ℕ) (due : Due) (flights : List (Flight Carried)) → find (is_due due) (map (shown_flight show) flights) ≡ option_map (shown_flight show) (find (is_due due) flights)
same_arriving show due [] = refl
same_arriving show due (f ∷ flights) = by (is_due due f) (same_arriving show due flights)
  where
    by : (b : Bool) → find (is_due due) (map (shown_flight show) flights) ≡ option_map (shown_flight show) (find (is_due due) flights)
        → cond b (Some (shown_flight show f)) (find (is_due due) (map (shown_flight show) flights)) ≡ option_map (shown_flight show) (cond b (Some f) (find (is_due due) flights))
    by true rest = refl
    by false rest = rest

same_end_at : (s : Side) (p : PathState Carried) → end_at s (shown_path p) ≡ end_at s p
same_end_at A p = refl
same_end_at B p = refl

-- a fresh copy is heard as it was meant, but for the position of a far reset
module _ (token : ℕ) (p : PathState Carried) (fresh : NextIsFresh p) (shows : NextShowsToken values token p) (due : Due) (heard : HeardSegment)
    (next : next_event p ≡ Some (Arrives due)) (at_b : due.to ≡ B) where
  abbrev side : Side
  side = peer due.to

  abbrev expected : Expected
  expected = expected_by (end_at due.to p)

  near_or_far : (carried : Carried) → heard_in values due.to (arriving due p.link) p ≡ Some (meant (as_arrived carried)) → IsFreshCopy p due.to carried
      → octets.reads p.profile.spelling side expected (octets_of p.profile.spelling carried) ≡ Some heard → HeardShowsToken token heard
  near_or_far carried meant_is copy reads = ⊎_elim (λ near. by_near near) (λ far. by_far far) copy.fresh
    where
      all : HeardShowsToken token (meant (as_arrived carried))
      all = shows due (meant (as_arrived carried)) next at_b meant_is

      by_near : IsFresh p.profile.spelling side expected carried.segment → HeardShowsToken token heard
      by_near near =
          subst (HeardShowsToken token)
          (same_Some (meant (as_arrived carried)) heard (sym (near_read p.profile.spelling side expected carried copy.from copy.sayable copy.expected near) ∙ reads)) all

      by_far : IsFarReset p.profile.spelling side expected carried.segment → HeardShowsToken token heard
      by_far far =
          subst (HeardShowsToken token)
          (same_Some (unplaced (subflow_number p.profile.spelling side carried.segment.position) (meant (as_arrived carried))) heard
          (sym (far_read p.profile.spelling side expected carried copy.from copy.sayable copy.expected far) ∙ reads)) all

  heard_shows : (o : Option (Flight Carried)) → arriving due p.link ≡ o → heard_in octets due.to (option_map (shown_flight (octets_of p.profile.spelling)) o) (shown_path p) ≡ Some heard
      → HeardShowsToken token heard
  heard_shows None there reads = cc
  heard_shows (Some flight) there reads =
      near_or_far flight.carried (ap (λ o. heard_in values due.to o p) there) (fresh due flight next there)
      (subst (λ e. octets.reads p.profile.spelling side (expected_by e) (octets_of p.profile.spelling flight.carried) ≡ Some heard) (same_end_at due.to p) reads)

path_shows_token : (token : ℕ) (p : PathState Carried) → NextIsFresh p → NextShowsToken values token p → NextShowsToken octets token (shown_path p)
path_shows_token token p fresh shows due heard next at_b is =
    heard_shows token p fresh shows due heard (sym (same_event p) ∙ next) at_b (arriving due p.link) refl
    (ap (λ o. heard_in octets due.to o (shown_path p)) (sym (same_arriving (octets_of p.profile.spelling) due p.link.under_way)) ∙ is)

member_shows : (token : ℕ) (m : Actor Carried) → IsFreshMember m → ShowsTokenNext values token m → ShowsTokenNext octets token (shown_member m)
member_shows token (App a) fresh shows = tt
member_shows token (Path p) fresh shows = path_shows_token token p fresh.next shows

-- the last of a list of fresh turns
fresh_last : (turns : List Turn) (turn : Turn) (w : WorldState Carried) → AreFresh (turns ++ turn ∷ []) w → IsFreshTurn turn (world_run values turns w)
fresh_last [] turn w fresh = fresh.0
fresh_last (first ∷ turns) turn w fresh = fresh_last turns turn (after_turn values first w) fresh.1

-- at every moment each path is fresh
pub members_fresh : (start : Start) (turns : List Turn) → HasRoom start → NumbersFit start → (actor : ℕ) (c : ActorCrew Carried)
    → slice_get (world_run values turns (opened_world start)).crew actor ≡ Some c → IsFreshMember c.member
members_fresh start turns size fit actor c there =
    subst IsFreshCrew there (fresh_last turns (Turn.Step actor) (opened_world start) (every_list_is_fresh start (turns ++ Turn.Step actor ∷ []) size fit))

pub octets_show_the_token : OctetsShowTheToken
octets_show_the_token start turns size fit = subst (JoinsShowToken octets (token_of start.key_b)) (sym (run_fresh start turns size fit)) (record { each = at })
  where
    w : WorldState Carried
    w = world_run values turns (opened_world start)

    at : (actor : ℕ) (c : ActorCrew (List ℕ)) → slice_get (shown_world w).crew actor ≡ Some c → ShowsTokenNext octets (token_of start.key_b) c.member
    at actor c there =
        let found = in_map shown_crew w.crew actor c there in
        subst (λ y. ShowsTokenNext octets (token_of start.key_b) y.member) found.2
        (member_shows (token_of start.key_b) found.0.member (members_fresh start turns size fit actor found.0 found.1) ((values_show_the_token start turns).each actor found.0 found.1))
