-- A turn ends, whatever it is answered.
use Rattle.std.specs.Prelude.{◌≡◌, ◌≤◌, true, Some, List, [], ◌∷◌}
use Rattle.actor_desk.specs.declared.ask.Ask.{Ask}
use Rattle.actor_desk.specs.declared.ask.Reply.{Reply}
use Rattle.path_agenda.specs.declared.duty.Duty.{Duty}
use Rattle.path_core.specs.Codec.{Codec}
use Rattle.path_core.specs.Duties.{stands}
use Rattle.actor_desk.specs.Kinds.{IsOfKind}
use Rattle.path_core.specs.State.{PathState}
use Rattle.path_core.specs.Steps.{asks_of, takes, next_round}

-- The turn of a path is over, or it asks, and ends after whatever reply of the asked kind.
pub data Ends {C : Type 0} (k : Codec C) : PathState C → Type 0 where
  Over : (p : PathState C) → p.agenda ≡ [] → Ends k p
  Asks : (p : PathState C) (x : Ask) → asks_of k p ≡ Some x → ((r : Reply) → IsOfKind x r → Ends k (takes k r p)) → Ends k p

-- the duty that stands first comes to something
abbrev pub FirstStands : {C : Type 0} → List Duty → PathState C → Type 0
FirstStands [] p = Unit {0}
FirstStands (d ∷ ds) p = stands d p ≡ true

abbrev pub IsSettled : {C : Type 0} → PathState C → Type 0
IsSettled p = FirstStands p.agenda p

-- what takes time: a segment is on its way for a tick or longer, and a timer runs for a tick or longer
pub record TakesTime {C : Type 0} (p : PathState C) : Type 0 where
  pub delay : 1 ≤ p.link.delay
  pub timer_a : 1 ≤ p.a.tcp.timing.rtt.rto
  pub timer_b : 1 ≤ p.b.tcp.timing.rtt.rto

-- ---- the law, for copies of octets

-- A path whose first duty comes to something ends its turn, whatever replies of the asked kind come.
abbrev pub EveryTurnEnds : {C : Type 0} → Codec C → Type 0
EveryTurnEnds {C} k = (p : PathState C) → TakesTime p → IsSettled p → Ends k p

-- Each turn that a round begins ends, whatever replies of the asked kind come.
abbrev pub EveryRoundEnds : {C : Type 0} → Codec C → Type 0
EveryRoundEnds {C} k = (p : PathState C) → TakesTime p → Ends k (next_round p)
