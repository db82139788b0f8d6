-- What becomes of a mapping that a copy tells: its end knows it until RCV.NXT is past its positions (RFC 8684, section 3.3.1).
use Rattle.std.specs.Prelude.{ℕ, ◌≡◌, ◌<◌, ◌≤◌, ◌⊎◌, Bool, true, false, Option, Some, None, IsSome, List, [], ◌∷◌, slice_get}
use Rattle.std.specs.List.{All, list_any}
use Rattle.path_segments.specs.Heard.{HeardSegment}
use Rattle.sides.specs.declared.side.Side.{Side}
use Rattle.dss_mapping.specs.Learning.{IsWithin, first_held}
use Rattle.dss_mapping.specs.Mappings.{Mappings, mapping_at, place_at, run_of}
use Rattle.dss_mapping.specs.Runs.{covers}
use Rattle.dss_mapping.specs.declared.kept.KeptMapping.{KeptMapping}
use Rattle.subflow_tcp.specs.States.{is_dead}
use Rattle.path_agenda.specs.declared.duty.Duty.{Duty}
use Rattle.path_agenda.specs.declared.duty.Duty.TheVariants as duties
use Rattle.path_agenda.specs.declared.duty.StepDuty.TheVariants as step_duties
use Rattle.path_agenda.specs.declared.heard.Heard.{Heard}
use Rattle.path_agenda.specs.declared.heard.Heard.TheVariants as says
use Rattle.path_core.specs.Choices.{item_at}
use Rattle.path_core.specs.Codec.{Codec}
use Rattle.path_core.specs.DssIn.{held_of}
use Rattle.path_core.specs.MpJoin.{is_joined}
use Rattle.path_core.specs.OptionsIn.{items_of, options_heard}
use Rattle.path_core.specs.State.{PathState, end_at}
use Rattle.world_laws.specs.declared.member.Member.TheVariants.{App, Path}
use Rattle.world_laws.specs.Actors.{Actor, ActorCrew}
use Rattle.world_laws.specs.Laws.{Always}
use Rattle.world_laws.specs.Members.{HoldsOfKind}
use Rattle.world_laws.specs.Worlds.{WorldState, Turn, after_turn}
use Rattle.world_laws.specs.Writes.{side_of}
use Rattle.whole_paths.specs.Brought.{Brings, IsToReset, comes_before_keeping}

-- ---- mappings

-- Where a position from there on has a place that mappings are kept for, one of them names it; and RCV.NXT is that far. Each names places
-- up to 2^62, and so does each that was told and is still to be learned.
pub record AreLive (v : Mappings) (edge : ℕ) : Type 0 where
  pub low : v.forgotten ≤ edge
  pub live : (pos : ℕ) → v.forgotten ≤ pos → IsSome (place_at v pos) → IsSome (mapping_at v pos)
  pub within : All IsWithin v.live
  pub told : All IsWithin v.held

-- what a copy says is that it has a mapping
abbrev pub says_mapping : Heard → Bool
says_mapping (says.Mapping fin) = true
says_mapping _ = false

abbrev pub is_mapping : Option Heard → Bool
is_mapping None = false
is_mapping (Some item) = says_mapping item

-- this side's end learns the first mapping that a copy has, once all is treated that the copy says before it
abbrev pub IsToLearn : Side → List Heard → List Duty → Type 0
IsToLearn s items [] = ⊥
IsToLearn s items (duties.Step (step_duties.Heard t index) ∷ ds) = (t ≡ s) × ((is_mapping (item_at index items) ≡ true) ⊎ IsToLearn s items ds)
IsToLearn s items (d ∷ ds) = (side_of d ≡ s) × ((comes_before_keeping d ≡ true) × IsToLearn s items ds)

module _ {C : Type 0} where
  -- ---- a position that a mapping names

  -- RCV.NXT is past it; or the end knows a mapping that names it; or the first one of a copy does, which is to be learned
  pub data IsMapped (s : Side) (pos : ℕ) (p : PathState C) : Type 0 where
    passed : pos < (end_at s p).tcp.recv.edge → IsMapped s pos p
    known : IsSome (mapping_at (end_at s p).receiving.mappings pos) → IsMapped s pos p
    told : (mapping : KeptMapping) → first_held (end_at s p).receiving.mappings ≡ Some mapping → covers pos (run_of mapping) ≡ true
        → IsToLearn s (end_at s p).treated.items p.agenda → IsMapped s pos p

  -- what becomes of it, as the path becomes another one
  pub data StaysMapped (s : Side) (pos : ℕ) (p q : PathState C) : Type 0 where
    on : IsMapped s pos q → StaysMapped s pos p q
    -- the end is dead, or reset next, as where a mapping gives a position another place: never on path 0 of a mild connection (Mild)
    gone : is_dead (end_at s q).tcp.state ≡ true → StaysMapped s pos p q
    reset : IsToReset s q.agenda → StaysMapped s pos p q
    -- no mapping counts: the side fell back to plain TCP, or hasn't the peer's key, as no end of a mild connection once it may send a DSS
    plain : (end_at s q).modes.identity ≡ true → StaysMapped s pos p q
    unkeyed : (end_at s q).modes.peer_key ≡ None → StaysMapped s pos p q

  -- ---- of any path, as it becomes another one

  pub record KnowsWhatIsTold (k : Codec C) (p q : PathState C) : Type 0 where
    -- each position of a taken copy's first mapping is mapped, unless the path stays as it is
    pub tells : (b : Brings k p) (mapping : KeptMapping) (others : List KeptMapping) (pos : ℕ) → let s : Side = b.copy.due.to in
        let said : HeardSegment = options_heard (end_at s p) b.copy.segment in
        held_of p.profile s said ≡ mapping ∷ others → list_any says_mapping (items_of (is_joined p.profile) s said) ≡ true → covers pos (run_of mapping) ≡ true
        → (q ≡ p) ⊎ StaysMapped s pos p q
    -- each one that was mapped stays so
    pub stays : (s : Side) (pos : ℕ) → IsMapped s pos p → StaysMapped s pos p q

  -- as the path becomes this actor
  abbrev pub PathsKnowWhatIsTold : Codec C → Actor C → Actor C → Type 0
  PathsKnowWhatIsTold k (Path p) (Path q) = KnowsWhatIsTold k p q
  PathsKnowWhatIsTold k (App a) (App b) = Unit {0}
  PathsKnowWhatIsTold k _ _ = ⊥

  -- at both ends of a path
  abbrev pub EndsAreLive : PathState C → Type 0
  EndsAreLive p = (s : Side) → AreLive (end_at s p).receiving.mappings (end_at s p).tcp.recv.edge

  -- of each path
  pub record MappingsAreLive (w : WorldState C) : Type 0 where
    pub each : (actor : ℕ) (c : ActorCrew C) → slice_get w.crew actor ≡ Some c → HoldsOfKind (λ app. Unit {0}) EndsAreLive c.member

  -- at each moment, and by any turn
  pub record WhatIsToldIsKnown (k : Codec C) : Type 0 where
    pub live : Always k (λ start w. MappingsAreLive w)
    pub goes_on : (w : WorldState C) → MappingsAreLive w → (turn : Turn) (actor : ℕ) (c : ActorCrew C) → slice_get w.crew actor ≡ Some c
        → (d : ActorCrew C) × (slice_get (after_turn k turn w).crew actor ≡ Some d) × PathsKnowWhatIsTold k c.member d.member
