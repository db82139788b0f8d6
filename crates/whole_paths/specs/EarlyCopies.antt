-- How many copies with octets come to B's end of path 0 before that may send a DSS, since A's timer ran out last: it has no key of A's then, and
-- drops their payload (RFC 8684, section 3.1).
use Rattle.std.specs.Prelude.{ℕ, ◌+◌, ◌≤◌, nat_lt, min, Bool, false, ◌&&◌, if◌then◌else◌, Option, Some, None, List, [], ◌∷◌, length, slice_get}
use Rattle.sides.specs.declared.side.Side.TheVariants.{A, B}
use Rattle.link_script.specs.Places.{same_side}
use Rattle.link_model.specs.Steps.{arriving}
use Rattle.path_agenda.specs.declared.duty.Duty.{Duty}
use Rattle.path_agenda.specs.declared.duty.Duty.TheVariants as duties
use Rattle.path_agenda.specs.declared.duty.StepDuty.TheVariants as step_duties
use Rattle.path_segments.specs.Heard.{HeardSegment}
use Rattle.path_core.specs.Arrival.{heard_in}
use Rattle.path_core.specs.Events.{next_event}
use Rattle.path_core.specs.State.{PathState}
use Rattle.path_core.specs.Values.{Carried, values}
use Rattle.path_core.specs.declared.events.Event.{Event}
use Rattle.path_core.specs.declared.events.Event.TheVariants as happenings
use Rattle.world_laws.specs.Actors.{ActorCrew}
use Rattle.world_laws.specs.Members.{of_kind}
use Rattle.world_laws.specs.Openings.{PathPlan, Start, opened_world}
use Rattle.world_laws.specs.Worlds.{Turn, WorldState, after_turn}
use Rattle.whole_paths.specs.Courses.{harmed_so_far}
use Rattle.whole_paths.specs.ExpiriesInARow.{in_a_row}
use Rattle.whole_paths.specs.News.{one_if}
use Rattle.whole_paths.specs.OnePathScripts.{BeginsWithOnePath, Count}
use Rattle.whole_paths.specs.OpenFirst.{HasJustOpened}
use Rattle.whole_paths.specs.Unmended.{AreWellBut}

-- the segment has octets, or a FIN
abbrev pub has_octets : Option HeardSegment → Bool
has_octets None = false
has_octets (Some segment) = nat_lt 0 (length segment.payload + one_if segment.fin)

-- a copy that does comes to B's end
abbrev pub brings_octets : Option Event → PathState Carried → Bool
brings_octets (Some (happenings.Arrives due)) p = same_side due.to B && has_octets (heard_in values due.to (arriving due p.link) p)
brings_octets _ p = false

-- such a copy comes next
abbrev pub octets_next : List Duty → PathState Carried → Bool
octets_next (duties.Step step_duties.Events ∷ others) p = brings_octets (next_event p) p
octets_next _ p = false

abbrev pub comes_early : PathState Carried → Bool
comes_early p = octets_next p.agenda p

-- on path 0
abbrev pub early_at : Option (ActorCrew Carried) → Bool
early_at (Some c) = of_kind (λ app. false) comes_early c.member
early_at None = false

-- how often A's timer ran out in a row there
abbrev pub expiries_at : Option (ActorCrew Carried) → ℕ
expiries_at (Some c) = of_kind (λ app. 0) (λ p. in_a_row p.a) c.member
expiries_at None = 0

-- whether B's end may send a DSS there
abbrev pub may_send_at : Option (ActorCrew Carried) → Bool
may_send_at (Some c) = of_kind (λ app. false) (λ p. p.b.modes.clear) c.member
may_send_at None = false

-- Of so many that came until a turn, with one more where one comes by it. Where A's timer runs out by the turn each record but the first is sent
-- again: one counts then at most.
abbrev pub counted_by : ℕ → WorldState Carried → WorldState Carried → ℕ
counted_by n w v = let more = n + one_if (early_at (slice_get w.crew 2)) in
    if nat_lt (expiries_at (slice_get w.crew 2)) (expiries_at (slice_get v.crew 2)) then min more 1 else more

-- how many they are at the first of these moments at which B's end may send a DSS, with so many before; none where it never may
abbrev pub came_from : ℕ → List Turn → WorldState Carried → ℕ
came_from n [] w = if may_send_at (slice_get w.crew 2) then n else 0
came_from n (turn ∷ turns) w =
    if may_send_at (slice_get w.crew 2) then n else came_from (counted_by n w (after_turn values turn w)) turns (after_turn values turn w)

-- of a connection
abbrev pub came_early : Count
came_early start turns = came_from 0 turns (opened_world start)

-- As path 0 opens no more of A's records may be lost than copies came so, and segments were harmed.
pub record LosesFew (start : Start) (turns : List Turn) (p : PathState Carried) : Type 0 where
  pub lost : List ℕ
  pub well : AreWellBut A lost p
  pub few : length lost ≤ came_early start turns + harmed_so_far values start turns

abbrev pub OpensLosingFew : Type 0
OpensLosingFew = (start : Start) (plan : PathPlan) (turns : List Turn) → BeginsWithOnePath start plan → (h : HasJustOpened start turns)
    → LosesFew start turns h.now.path
