-- Over octets, too, infinite mappings are right: each copy that arrives next is heard as it was meant, or is a reset that tells the same.
use Rattle.world_laws.proofs.Words.{◌≡◌, refl, sym, ◌∙◌, ap, subst, ℕ, ⊎_elim, Option, Some, None, List, [], ◌∷◌, ◌++◌, map, option_map, and_parts, same_Some}
use Rattle.world_laws.proofs.Words.{slice_get, Side, peer, same_side, is_due, arriving, Due, Flight, HeardSegment, PlainOption, Dss, meant, IsFresh}
use Rattle.world_laws.proofs.Words.{meant_option, meant_mapping, Expected, subflow_number, PathMapping, Infinite, PathEnd, PathState, end_at, Carried}
use Rattle.world_laws.proofs.Words.{as_arrived, values, heard_in, expected_by, next_event, Profile, octets, shown_path, IsFarReset, IsFreshCopy, NextIsFresh}
use Rattle.world_laws.proofs.Words.{same_event, in_map, Every-nil, Every, App, Path, Actor, ActorCrew, opened_world, WorldState, Turn, world_run}
use Rattle.world_laws.proofs.Words.{HoldsAnywayOfOctets, if_so, IsFreshCrew, IsFreshMember, shown_crew, shown_member, shown_world}
use Rattle.link_model.specs.Laws.{shown_flight}
use Rattle.path_core.specs.declared.events.Event.{Event}
use Rattle.path_core.specs.Shown.{octets_of}
use Rattle.path_core.proofs.CopiesRead.{near_read, far_read}
use Rattle.path_core.proofs.FarResets.{unplaced}
use Rattle.world_laws.specs.InfiniteMappings.{MappingIsRight, OptionIsRight, FlightIsRight, PathIsRight, InfiniteMappingsAreRight, HeardMappingIsRight, HeardOptionIsRight, NextIsRight, ActorHearsRight, InfiniteMappingsAreHeardRight}
use Rattle.world_laws.proofs.Joins.OverOctets.{same_arriving, same_end_at, fresh_last}
use Rattle.world_laws.proofs.Numbers.EveryTurn.{every_list_is_fresh}
use Rattle.world_laws.proofs.Promises.InfiniteMappingsAreRight.{infinite_mappings_are_right}
use Rattle.world_laws.proofs.Promises.Made.{run_fresh}
use Rattle.world_laws.proofs.Worlds.Finding.{find_every, one_side}

-- ---- options that are heard as they were meant

module _ (c : Profile) (s : Side) (e : PathEnd) where
  mapping_meant : (o : Option (PathMapping ℕ)) → MappingIsRight c s e o → HeardMappingIsRight c s e (option_map meant_mapping o)
  mapping_meant (Some (Infinite place position)) right = right
  mapping_meant _ right = tt

  option_meant : (o : PlainOption) → OptionIsRight c s e o → HeardOptionIsRight c s e (meant_option o)
  option_meant = elim [ Dss next mapping ↦ λ right. mapping_meant mapping right | _ ↦ λ right. tt ]

  options_meant : (options : List PlainOption) → Every (OptionIsRight c s e) options → Every (HeardOptionIsRight c s e) (map meant_option options)
  options_meant options right = record {
    each = λ i o there. let found = in_map meant_option options i o there in subst (HeardOptionIsRight c s e) found.2 (option_meant found.0 (right.each i found.0 found.1));
  }

  arrived_meant : (carried : Carried) → Every (OptionIsRight c s e) carried.segment.options → Every (HeardOptionIsRight c s e) (meant (as_arrived carried)).options
  arrived_meant carried right =
      if_so (λ z. Every (HeardOptionIsRight c s e) (map meant_option z)) carried.stripped [] carried.segment.options
      (Every-nil (HeardOptionIsRight c s e)) (options_meant carried.segment.options right)

-- ---- a path

module _ (p : PathState Carried) (fresh : NextIsFresh p) (rights : Every (FlightIsRight p) p.link.under_way) (due : Due) (heard : HeardSegment) (next : next_event p ≡ Some (Event.Arrives due)) where
  abbrev side : Side
  side = peer due.to

  abbrev expected : Expected
  expected = expected_by (end_at due.to p)

  abbrev HeardRight : HeardSegment → Type 0
  HeardRight h = Every (HeardOptionIsRight p.profile side (end_at side p)) h.options

  near_or_reset : (carried : Carried) → Every (OptionIsRight p.profile side (end_at side p)) carried.segment.options → IsFreshCopy p due.to carried
      → octets.reads p.profile.spelling side expected (octets_of p.profile.spelling carried) ≡ Some heard → HeardRight heard
  near_or_reset carried right copy reads = ⊎_elim (λ near. by_near near) (λ far. by_far far) copy.fresh
    where
      arrived : HeardRight (meant (as_arrived carried))
      arrived = arrived_meant p.profile side (end_at side p) carried right

      by_near : IsFresh p.profile.spelling side expected carried.segment → HeardRight heard
      by_near near =
          let same = same_Some (meant (as_arrived carried)) heard (sym (near_read p.profile.spelling side expected carried copy.from copy.sayable copy.expected near) ∙ reads) in
          subst HeardRight same arrived

      by_far : IsFarReset p.profile.spelling side expected carried.segment → HeardRight heard
      by_far far =
          let same = same_Some (unplaced (subflow_number p.profile.spelling side carried.segment.position) (meant (as_arrived carried))) heard (sym (far_read p.profile.spelling side expected carried copy.from copy.sayable copy.expected far) ∙ reads) in
          subst HeardRight same arrived

  heard_right : (o : Option (Flight Carried)) → arriving due p.link ≡ o → heard_in octets due.to (option_map (shown_flight (octets_of p.profile.spelling)) o) (shown_path p) ≡ Some heard
      → HeardRight heard
  heard_right None there reads = cc
  heard_right (Some flight) there reads =
      let found = find_every (FlightIsRight p) (is_due due) p.link.under_way flight rights there in
      let to : flight.to ≡ due.to = one_side flight.to due.to (and_parts (same_side flight.to due.to) _ (and_parts _ _ found.1).1).0 in
      near_or_reset flight.carried (subst (λ t. Every (OptionIsRight p.profile (peer t) (end_at (peer t) p)) flight.carried.segment.options) to found.0) (fresh due flight next there)
      (subst (λ e. octets.reads p.profile.spelling side (expected_by e) (octets_of p.profile.spelling flight.carried) ≡ Some heard) (same_end_at due.to p) reads)

path_hears_right : (p : PathState Carried) → NextIsFresh p → Every (FlightIsRight p) p.link.under_way → NextIsRight octets (shown_path p)
path_hears_right p fresh rights due heard next is =
    subst (λ e. Every (HeardOptionIsRight p.profile (peer due.to) e) heard.options) (sym (same_end_at (peer due.to) p))
    (heard_right p fresh rights due heard (sym (same_event p) ∙ next) (arriving due p.link) refl
    (ap (λ o. heard_in octets due.to o (shown_path p)) (sym (same_arriving (octets_of p.profile.spelling) due p.link.under_way)) ∙ is))

-- ---- worlds

member_hears : (m : Actor Carried) → IsFreshMember m → PathIsRight m → ActorHearsRight octets (shown_member m)
member_hears = elim [ App a ↦ λ fresh right. tt | Path p ↦ λ fresh right. path_hears_right p fresh.next right ]

pub infinite_mappings_are_heard_right : HoldsAnywayOfOctets (InfiniteMappingsAreHeardRight octets)
infinite_mappings_are_heard_right start turns size fit = subst (InfiniteMappingsAreHeardRight octets) (sym (run_fresh start turns size fit)) (record { each = at })
  where
    w : WorldState Carried
    w = world_run values turns (opened_world start)

    right : InfiniteMappingsAreRight w
    right = infinite_mappings_are_right start turns size

    member_fresh : (actor : ℕ) (c : ActorCrew Carried) → slice_get w.crew actor ≡ Some c → IsFreshMember c.member
    member_fresh actor c there =
        subst IsFreshCrew there (fresh_last turns (Turn.Step actor) (opened_world start) (every_list_is_fresh start (turns ++ Turn.Step actor ∷ []) size fit))

    at : (actor : ℕ) (c : ActorCrew (List ℕ)) → slice_get (shown_world w).crew actor ≡ Some c → ActorHearsRight octets c.member
    at actor c there =
        let found = in_map shown_crew w.crew actor c there in
        subst (λ y. ActorHearsRight octets y.member) found.2 (member_hears found.0.member (member_fresh actor found.0 found.1) (right.each actor found.0 found.1))
