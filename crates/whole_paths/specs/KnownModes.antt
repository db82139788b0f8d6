-- What an end of a path knows of the mode of its side (RFC 8684, section 3.7).
use Rattle.std.specs.Prelude.{ℕ, ◌≡◌, Bool, true, false, Some, List, slice_get}
use Rattle.sides.specs.declared.side.Side.{Side}
use Rattle.fallback_state.specs.declared.fall.Mode.{Mode}
use Rattle.fallback_state.specs.declared.fall.Mode.TheVariants.{Starting}
use Rattle.path_core.specs.Codec.{Codec}
use Rattle.path_core.specs.State.{PathState, end_at}
use Rattle.path_core.specs.Values.{Carried, values}
use Rattle.world_laws.specs.Actors.{ActorCrew}
use Rattle.world_laws.specs.Members.{HoldsOfKind}
use Rattle.world_laws.specs.ModesSoFar.{was_ever}
use Rattle.world_laws.specs.NeverFalls.{is_fallen_back}
use Rattle.world_laws.specs.Openings.{Start}
use Rattle.world_laws.specs.RoundDone.{reached}
use Rattle.world_laws.specs.Worlds.{Turn}
use Rattle.whole_paths.specs.Mild.{IsMildStart}

-- The mode that an end knows, if it isn't the first one, was that of its side at some time: where it is such a mode, the side was in such a one.
abbrev pub EndsKnowWhatWas : {C : Type 0} → Codec C → Type 0
EndsKnowWhatWas {C} k = (such : Mode → Bool) → such Starting ≡ false → (start : Start) (turns : List Turn) → let w = reached k start turns in
    (actor : ℕ) (c : ActorCrew C) → slice_get w.crew actor ≡ Some c
    → HoldsOfKind (λ app. Unit {0}) (λ (p : PathState C). (s : Side) → such (end_at s p).modes.mode ≡ true → was_ever such s w ≡ true) c.member

-- In a mild connection no end knows of a fallback to plain TCP, nor of an infinite mapping.
abbrev pub NoEndKnowsOfAFallback : Type 0
NoEndKnowsOfAFallback = (start : Start) (turns : List Turn) → IsMildStart start → (actor : ℕ) (c : ActorCrew Carried)
    → slice_get (reached values start turns).crew actor ≡ Some c
    → HoldsOfKind (λ app. Unit {0}) (λ (p : PathState Carried). (s : Side) → is_fallen_back (end_at s p).modes.mode ≡ false) c.member
