-- How a turn of a path begins: each end asks its reassembly book once, before it sends or hears anything, and tells a window that has grown (RFC 9293,
-- section 3.8.6).
use Rattle.std.specs.Prelude.{◌≡◌, ◌⊎◌, true, false, List, [], ◌∷◌}
use Rattle.sides.specs.declared.side.Side.{Side}
use Rattle.sides.specs.Side.{peer}
use Rattle.reassembly_book.specs.Steps as arriving
use Rattle.actor_desk.specs.declared.ask.Note.{Note}
use Rattle.actor_desk.specs.Desk.{SixBooks, reassembly_of}
use Rattle.path_agenda.specs.declared.duty.Duty.{Duty}
use Rattle.path_agenda.specs.declared.duty.Duty.TheVariants as duties
use Rattle.path_agenda.specs.declared.duty.AskDuty.TheVariants as ask_duties
use Rattle.path_agenda.specs.declared.duty.SendDuty.TheVariants as send_duties
use Rattle.path_core.specs.Codec.{Codec}
use Rattle.path_core.specs.State.{PathState, end_at}
use Rattle.whole_paths.specs.AgendaSteps.{is_silent, may_break}
use Rattle.whole_paths.specs.Between.{EachPathBetween}
use Rattle.whole_paths.specs.Offered.{Offers}

-- the side's end asks its book no more, as turns begin
abbrev pub HasBegun : Side → List Duty → Type 0
HasBegun t [] = Unit {0}
HasBegun t (duties.Ask (ask_duties.Window u) ∷ ds) = (u ≡ peer t) × HasBegun t ds
HasBegun t (d ∷ ds) = HasBegun t ds

-- a window that has grown is told next, and then the end asks no more
abbrev pub UpdateThen : Side → List Duty → Type 0
UpdateThen t (duties.Send (send_duties.Update u) ∷ ds) = (u ≡ t) × HasBegun t ds
UpdateThen t _ = ⊥

-- The end asks its book, and then tells a window that has grown. By the duties before no segment of its goes and nothing of a copy is treated.
abbrev pub BeginsTurn : Side → List Duty → Type 0
BeginsTurn t [] = ⊥
BeginsTurn t (duties.Ask (ask_duties.Window u) ∷ ds) = ((u ≡ t) × UpdateThen t ds) ⊎ ((u ≡ peer t) × BeginsTurn t ds)
BeginsTurn t (duties.Send (send_duties.Update u) ∷ ds) = (u ≡ peer t) × BeginsTurn t ds
BeginsTurn t (d ∷ ds) = (is_silent d ≡ true) × (may_break d ≡ false) × BeginsTurn t ds

module _ {C : Type 0} where
  -- the end asks now: it knows then what its book takes, and a window that has grown is told next
  pub record AsksNow (six : SixBooks) (t : Side) (p q : PathState C) : Type 0 where
    pub others : List Duty
    pub first : p.agenda ≡ duties.Ask (ask_duties.Window t) ∷ duties.Send (send_duties.Update t) ∷ others
    pub knows : Offers (arriving.edge (reassembly_of t six)) (end_at t q)
    pub begun : HasBegun t q.agenda

  -- as the path becomes another one
  pub record TurnBeginsOn (six : SixBooks) (t : Side) (p q : PathState C) : Type 0 where
    pub soon : BeginsTurn t p.agenda → BeginsTurn t q.agenda ⊎ AsksNow six t p q
    pub later : HasBegun t p.agenda → HasBegun t q.agenda ⊎ ((p.agenda ≡ []) × BeginsTurn t q.agenda)
    -- where it asks first the path stays as it is, or it asks now
    pub first : (ds : List Duty) → p.agenda ≡ duties.Ask (ask_duties.Window t) ∷ ds → BeginsTurn t p.agenda → (q ≡ p) ⊎ AsksNow six t p q

  abbrev pub TurnsBeginOn : SixBooks → SixBooks → List Note → PathState C → PathState C → Type 0
  TurnsBeginOn six after steps p q = (t : Side) → TurnBeginsOn after t p q

  -- by any turn
  abbrev pub EachTurnBegins : Codec C → Type 0
  EachTurnBegins k = EachPathBetween k TurnsBeginOn
