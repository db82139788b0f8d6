-- Over octets, too, no copy that arrives on a path that joins is refused for what it says.
use Rattle.world_laws.proofs.Words.{◌≡◌, refl, sym, ◌∙◌, ap, subst, ℕ, ⊎_elim, Bool, true, false, cond, Option, Some, None, List, [], ◌∷◌, ◌++◌, map}
use Rattle.world_laws.proofs.Words.{option_map, find, same_Some, slice_get, Side, A, B, peer, is_due, arriving, Due, Flight, HeardSegment, meant, IsFresh}
use Rattle.world_laws.proofs.Words.{Expected, subflow_number, is_nil, PathState, end_at, Carried, as_arrived, values, judged_in, heard_in, expected_by}
use Rattle.world_laws.proofs.Words.{next_event, is_joined, octets, shown_path, IsFarReset, IsFreshCopy, NextIsFresh, same_event, in_map, App, Path, Actor}
use Rattle.world_laws.proofs.Words.{ActorCrew, opened_world, WorldState, Turn, after_turn, world_run, HoldsAnywayOfOctets, IsFreshCrew, IsFreshMember}
use Rattle.world_laws.proofs.Words.{IsFreshTurn, AreFresh, shown_crew, shown_member, shown_world}
use Rattle.link_model.specs.Laws.{shown_flight}
use Rattle.path_core.specs.declared.events.Event.{Event}
use Rattle.path_core.specs.Shown.{octets_of}
use Rattle.path_core.proofs.CopiesRead.{near_read, far_read}
use Rattle.path_core.proofs.FarResets.{unplaced}
use Rattle.world_laws.specs.Welcome.{IsWelcome, NextIsWelcome, WelcomesNext, EachCopyIsWelcome}
use Rattle.world_laws.proofs.Joins.Welcome.{each_copy_is_welcome, reset_welcome}
use Rattle.world_laws.proofs.Promises.Made.{run_fresh}
use Rattle.world_laws.proofs.Numbers.EveryTurn.{every_list_is_fresh}

pub same_arriving : (show : Carried → List ℕ) (due : Due) (flights : List (Flight Carried)) → find (is_due due) (map (shown_flight show) flights) ≡ option_map (shown_flight show) (find (is_due due) flights)
same_arriving show due [] = refl
same_arriving show due (f ∷ flights) = by (is_due due f) (same_arriving show due flights)
  where
    by : (b : Bool) → find (is_due due) (map (shown_flight show) flights) ≡ option_map (shown_flight show) (find (is_due due) flights)
        → cond b (Some (shown_flight show f)) (find (is_due due) (map (shown_flight show) flights)) ≡ option_map (shown_flight show) (cond b (Some f) (find (is_due due) flights))
    by = elim [ true ↦ λ rest. refl | false ↦ λ rest. rest ]

pub same_end_at : (s : Side) (p : PathState Carried) → end_at s (shown_path p) ≡ end_at s p
same_end_at = elim [ A ↦ λ p. refl | B ↦ λ p. refl ]

-- a fresh copy is heard as it was meant, or it is a reset
module _ (p : PathState Carried) (fresh : NextIsFresh p) (welcomes : NextIsWelcome values p) (due : Due) (heard : HeardSegment) (next : next_event p ≡ Some (Event.Arrives due))
    (some : is_nil heard.options ≡ false) where
  abbrev side : Side
  side = peer due.to

  abbrev expected : Expected
  expected = expected_by (end_at due.to p)

  abbrev Welcomed : HeardSegment → Type 0
  Welcomed h = IsWelcome (judged_in (is_joined p.profile) due.to h (end_at due.to p))

  near_or_reset : (carried : Carried) → heard_in values due.to (arriving due p.link) p ≡ Some (meant (as_arrived carried)) → IsFreshCopy p due.to carried
      → octets.reads p.profile.spelling side expected (octets_of p.profile.spelling carried) ≡ Some heard → Welcomed heard
  near_or_reset carried meant_is copy reads = ⊎_elim (λ near. by_near near) (λ far. by_far far) copy.fresh
    where
      by_near : IsFresh p.profile.spelling side expected carried.segment → Welcomed heard
      by_near near =
          let same = same_Some (meant (as_arrived carried)) heard (sym (near_read p.profile.spelling side expected carried copy.from copy.sayable copy.expected near) ∙ reads) in
          subst Welcomed same (welcomes due (meant (as_arrived carried)) next meant_is (ap (λ h. is_nil h.options) same ∙ some))

      by_far : IsFarReset p.profile.spelling side expected carried.segment → Welcomed heard
      by_far far =
          let same = same_Some (unplaced (subflow_number p.profile.spelling side carried.segment.position) (meant (as_arrived carried))) heard (sym (far_read p.profile.spelling side expected carried copy.from copy.sayable copy.expected far) ∙ reads) in
          subst Welcomed same (reset_welcome due.to (end_at due.to p) (unplaced (subflow_number p.profile.spelling side carried.segment.position) (meant (as_arrived carried))) far.reset (is_joined p.profile))

  heard_welcome : (o : Option (Flight Carried)) → arriving due p.link ≡ o → heard_in octets due.to (option_map (shown_flight (octets_of p.profile.spelling)) o) (shown_path p) ≡ Some heard
      → Welcomed heard
  heard_welcome None there reads = cc
  heard_welcome (Some flight) there reads =
      near_or_reset flight.carried (ap (λ o. heard_in values due.to o p) there) (fresh due flight next there)
      (subst (λ e. octets.reads p.profile.spelling side (expected_by e) (octets_of p.profile.spelling flight.carried) ≡ Some heard) (same_end_at due.to p) reads)

path_shows_welcome : (p : PathState Carried) → NextIsFresh p → NextIsWelcome values p → NextIsWelcome octets (shown_path p)
path_shows_welcome p fresh welcomes due heard next is some =
    subst (λ e. IsWelcome (judged_in (is_joined p.profile) due.to heard e)) (sym (same_end_at due.to p))
    (heard_welcome p fresh welcomes due heard (sym (same_event p) ∙ next) some (arriving due p.link) refl
    (ap (λ o. heard_in octets due.to o (shown_path p)) (sym (same_arriving (octets_of p.profile.spelling) due p.link.under_way)) ∙ is))

-- ---- worlds

member_shows : (m : Actor Carried) → IsFreshMember m → WelcomesNext values m → WelcomesNext octets (shown_member m)
member_shows (App a) fresh welcomes = tt
member_shows (Path p) fresh welcomes = path_shows_welcome p fresh.next welcomes

-- the last of a list of fresh turns
pub fresh_last : (turns : List Turn) (turn : Turn) (w : WorldState Carried) → AreFresh (turns ++ turn ∷ []) w → IsFreshTurn turn (world_run values turns w)
fresh_last [] turn w fresh = fresh.0
fresh_last (first ∷ turns) turn w fresh = fresh_last turns turn (after_turn values first w) fresh.1

pub each_copy_is_welcome_in_octets : HoldsAnywayOfOctets (EachCopyIsWelcome octets)
each_copy_is_welcome_in_octets start turns size fit = subst (EachCopyIsWelcome octets) (sym (run_fresh start turns size fit)) (record { each = at })
  where
    w : WorldState Carried
    w = world_run values turns (opened_world start)

    welcomes : EachCopyIsWelcome values w
    welcomes = each_copy_is_welcome start turns

    member_fresh : (actor : ℕ) (c : ActorCrew Carried) → slice_get w.crew actor ≡ Some c → IsFreshMember c.member
    member_fresh actor c there =
        subst IsFreshCrew there (fresh_last turns (Turn.Step actor) (opened_world start) (every_list_is_fresh start (turns ++ Turn.Step actor ∷ []) size fit))

    at : (actor : ℕ) (c : ActorCrew (List ℕ)) → slice_get (shown_world w).crew actor ≡ Some c → WelcomesNext octets c.member
    at actor c there =
        let found = in_map shown_crew w.crew actor c there in
        subst (λ y. WelcomesNext octets y.member) found.2 (member_shows found.0.member (member_fresh actor found.0 found.1) (welcomes.each actor found.0 found.1))
