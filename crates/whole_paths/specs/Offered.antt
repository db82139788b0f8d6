-- How far an end may tell its peer to send: as it sends, it knows the bytes that its side's reassembly book takes (RFC 8684, section 3.3.5).
use Rattle.std.specs.Prelude.{ℕ, ◌+◌, ◌≡◌, ◌≤◌, ◌⊎◌, true, false, IfSome, List, [], ◌∷◌}
use Rattle.sides.specs.declared.side.Side.{Side}
use Rattle.sides.specs.Side.{peer}
use Rattle.reassembly_book.specs.Steps as arriving
use Rattle.actor_desk.specs.declared.ask.Note.{Note}
use Rattle.actor_desk.specs.Books.{books_in}
use Rattle.actor_desk.specs.Desk.{SixBooks, reassembly_of}
use Rattle.path_agenda.specs.declared.duty.Duty.{Duty}
use Rattle.path_agenda.specs.declared.duty.Duty.TheVariants as duties
use Rattle.path_agenda.specs.declared.duty.AskDuty.TheVariants as ask_duties
use Rattle.path_agenda.specs.declared.duty.SendDuty.TheVariants as send_duties
use Rattle.path_core.specs.Codec.{Codec}
use Rattle.path_core.specs.End.{PathEnd}
use Rattle.path_core.specs.Looking.{first_sends}
use Rattle.path_core.specs.State.{PathState, end_at}
use Rattle.world_laws.specs.Laws.{Always}
use Rattle.whole_paths.specs.AgendaSteps.{is_silent, may_break}
use Rattle.whole_paths.specs.Between.{EachPathBetween}

-- the end was told by its book that bytes up to this place are taken
abbrev pub Offers : ℕ → PathEnd → Type 0
Offers at e = at ≤ e.receiving.next + e.receiving.window

-- The end asks its book before it sends, as each turn begins. By the duties before no segment of its goes and nothing of a copy is treated.
abbrev pub AsksFirst : Side → List Duty → Type 0
AsksFirst s [] = Unit {0}
AsksFirst s (duties.Ask (ask_duties.Window t) ∷ ds) = (t ≡ s) ⊎ AsksFirst s ds
AsksFirst s (duties.Send (send_duties.Update t) ∷ ds) = (t ≡ peer s) × AsksFirst s ds
AsksFirst s (d ∷ ds) = (is_silent d ≡ true) × (may_break d ≡ false) × AsksFirst s ds

module _ {C : Type 0} where
  -- the side's reassembly book takes bytes up to this place, and its end knows it, or asks before it sends
  pub record OffersUpTo (six : SixBooks) (s : Side) (at : ℕ) (p : PathState C) : Type 0 where
    pub taken : at ≤ arriving.edge (reassembly_of s six)
    pub offered : Offers at (end_at s p) ⊎ AsksFirst s p.agenda

  -- the end knows of the offer as it sends
  abbrev pub OffersWhereItSends : Side → ℕ → PathState C → Type 0
  OffersWhereItSends s at p = IfSome (first_sends p.agenda p) (λ t. t.from ≡ s → Offers at (end_at s p))

  -- and so it is as the path becomes another one
  abbrev pub OffersOn : SixBooks → SixBooks → List Note → PathState C → PathState C → Type 0
  OffersOn six after steps p q = (s : Side) (at : ℕ) → OffersUpTo six s at p → OffersUpTo after s at q

  -- by any turn, and as it sends
  pub record WhatIsTakenIsOffered (k : Codec C) : Type 0 where
    pub goes_on : EachPathBetween k OffersOn
    -- each buffer keeps its size
    pub sizes : Always k (λ start w. (s : Side) → (reassembly_of s (books_in w.books)).capacity ≡ start.buffer)
    pub sends : (six : SixBooks) (s : Side) (at : ℕ) (p : PathState C) → OffersUpTo six s at p → OffersWhereItSends s at p
