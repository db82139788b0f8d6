-- What an end is to hear of a copy, the copy said: no Data ACK counts but one that a copy had which the end took (RFC 8684, section 3.3.2).
use Rattle.std.specs.Prelude.{ℕ, ◌==◌, ◌≡◌, ◌⊎◌, max, Bool, true, false, Some, IsSome, slice_get}
use Rattle.std.specs.List.{list_any}
use Rattle.sides.specs.declared.side.Side.{Side}
use Rattle.link_script.specs.Places.{same_side}
use Rattle.path_agenda.specs.declared.duty.Duty.{Duty}
use Rattle.path_agenda.specs.declared.duty.Duty.TheVariants as duties
use Rattle.path_agenda.specs.declared.duty.StepDuty.TheVariants as step_duties
use Rattle.path_agenda.specs.declared.heard.Heard.{Heard}
use Rattle.path_agenda.specs.declared.heard.Heard.TheVariants as says
use Rattle.path_core.specs.Codec.{Codec}
use Rattle.path_core.specs.MpJoin.{is_joined}
use Rattle.path_core.specs.OptionsIn.{items_of, options_heard}
use Rattle.path_core.specs.State.{PathState, end_at}
use Rattle.world_laws.specs.declared.member.Member.TheVariants.{App, Path}
use Rattle.world_laws.specs.Actors.{Actor, ActorCrew}
use Rattle.world_laws.specs.Worlds.{Turn, WorldState, after_turn}
use Rattle.whole_paths.specs.Brought.{Brings}

-- it says that all before this place is acknowledged
abbrev pub is_ack_of : ℕ → Heard → Bool
is_ack_of place (says.DataAck next window) = next == place
is_ack_of place _ = false

-- this side's end hears a thing that a copy says
abbrev pub hears_at : Side → Duty → Bool
hears_at s (duties.Step (step_duties.Heard t index)) = same_side t s
hears_at s _ = false

module _ {C : Type 0} where
  -- the end is to hear something of a copy that says something of this kind
  pub record IsAhead (s : Side) (kind : Heard → Bool) (p : PathState C) : Type 0 where
    pub duties : list_any (hears_at s) p.agenda ≡ true
    pub items : list_any kind (end_at s p).treated.items ≡ true

  -- the end takes a copy next that does
  pub record SaysNext (k : Codec C) (s : Side) (kind : Heard → Bool) (p : PathState C) : Type 0 where
    pub brings : Brings k p
    pub to : brings.copy.due.to ≡ s
    pub says : list_any kind (items_of (is_joined p.profile) brings.copy.due.to (options_heard (end_at brings.copy.due.to p) brings.copy.segment)) ≡ true

  -- how many bytes are acknowledged to the end, as the path becomes another one: as many as were, or as a Data ACK says that it was to hear; or the
  -- subflow's acknowledgements count, since the side fell back to plain TCP, or sends by an infinite mapping
  pub data HearsAsMuch (s : Side) (p q : PathState C) : Type 0 where
    stays : (end_at s q).sending.heard ≡ (end_at s p).sending.heard → HearsAsMuch s p q
    hears : (place : ℕ) → (end_at s q).sending.heard ≡ max (end_at s p).sending.heard place → IsAhead s (is_ack_of place) p → HearsAsMuch s p q
    plain : (end_at s p).modes.identity ≡ true → HearsAsMuch s p q
    infinite : IsSome (end_at s p).modes.own_infinite → HearsAsMuch s p q

  -- ---- of any path, as it becomes another one

  pub record HearsWhatWasSaid (k : Codec C) (p q : PathState C) : Type 0 where
    -- what is to be heard was to be heard before, or the copy that is taken next says so
    pub ahead : (s : Side) (kind : Heard → Bool) → IsAhead s kind q → IsAhead s kind p ⊎ SaysNext k s kind p
    pub heard : (s : Side) → HearsAsMuch s p q

  -- as the path becomes this actor
  abbrev pub PathsHearWhatWasSaid : Codec C → Actor C → Actor C → Type 0
  PathsHearWhatWasSaid k (Path p) (Path q) = HearsWhatWasSaid k p q
  PathsHearWhatWasSaid k (App a) (App b) = Unit {0}
  PathsHearWhatWasSaid k _ _ = ⊥

  -- by any turn
  abbrev pub WhatIsHeardWasSaid : Codec C → Type 0
  WhatIsHeardWasSaid k = (w : WorldState C) (turn : Turn) (actor : ℕ) (c : ActorCrew C) → slice_get w.crew actor ≡ Some c
      → (d : ActorCrew C) × (slice_get (after_turn k turn w).crew actor ≡ Some d) × PathsHearWhatWasSaid k c.member d.member
