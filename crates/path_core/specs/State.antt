-- A path by what it means. What its link's copies carry is a type of its own.
use Rattle.std.specs.Prelude.{ℕ, Bool, max, List, Option}
use Rattle.link_model.specs.State.{LinkState}
use Rattle.path_agenda.specs.declared.duty.Duty.{Duty}
use Rattle.path_store.specs.declared.lines.LineLeft.{LineLeft}
use Rattle.sides.specs.declared.side.Side.{Side}
use Rattle.actor_desk.specs.Words.{pick, tail_of, is_nil}
use Rattle.path_core.specs.Profile.{Profile}
use Rattle.path_core.specs.End.{PathEnd}

-- a path whose link's copies carry a C
pub record PathState (C : Type 0) : Type 0 where
  pub profile : Profile
  pub link : LinkState C
  -- the tick, and the first tick after the round
  pub clock : ℕ
  pub until : ℕ
  -- the lines that aren't taken yet, in the order of their ticks
  pub lines : List LineLeft
  -- the tick at which A joins the path to the connection, as long as that is to come
  pub joined_at : Option ℕ
  pub a : PathEnd
  pub b : PathEnd
  -- what is still to be done in the turn
  pub agenda : List Duty

abbrev pub end_at : {C : Type 0} → Side → PathState C → PathEnd
end_at s p = pick s p.a p.b

abbrev pub with_end : {C : Type 0} → Side → PathEnd → PathState C → PathState C
with_end s e p = record p { a = pick s e p.a; b = pick s p.b e }

abbrev pub with_agenda : {C : Type 0} → List Duty → PathState C → PathState C
with_agenda ds p = record p { agenda = ds }

-- the end becomes this, and then these are to be done
abbrev pub goes_on : {C : Type 0} → Side → PathEnd → List Duty → PathState C → PathState C
goes_on s e ds p = with_agenda ds (with_end s e p)

-- without the first duty
abbrev pub left : {C : Type 0} → PathState C → List Duty
left p = tail_of p.agenda

-- nothing is left to be done in the turn
abbrev pub has_ended : {C : Type 0} → PathState C → Bool
has_ended p = is_nil p.agenda

-- the path's number
abbrev pub path_of : {C : Type 0} → PathState C → ℕ
path_of p = p.link.path

-- ---- what each makes of the path

-- the tick is that of the event
abbrev pub at_tick : {C : Type 0} → ℕ → PathState C → PathState C
at_tick tick p = record p { clock = max p.clock tick }
