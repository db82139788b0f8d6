-- Riders that are sent out to workers, and come back.
use Rattle.std.specs.Prelude.{◌≡◌, List, [], ◌∷◌, Option, Some, None}
use Rattle.std.specs.Arc.{arc_value}
use Rattle.actor_desk.specs.declared.ask.Ask.{Ask}
use Rattle.actor_desk.specs.declared.ask.Reply.{Reply}
use Rattle.ruled_desk.specs.SixSeats.{SixLocked}
use Rattle.ruled_desk.specs.declared.errands.Errand.{Errand}
use Rattle.ruled_desk.specs.declared.rider.Rider.{Rider}
use Rattle.ruled_desk.specs.Riding.{HasPass, Rode}

module _ {A : Type 0} where
  -- the rider is out at this desk, or was kept
  abbrev pub IsSent : SixLocked → Rider A → Option (Rider A) → Option (Errand A) → Type 0
  IsSent desk rider None (Some errand) = (errand.rider ≡ rider) × (arc_value errand.desk ≡ desk)
  IsSent desk rider (Some kept) None = kept ≡ rider
  IsSent desk rider kept out = ⊥

  -- each rider has a pass of its own actor
  abbrev pub AllHave : SixLocked → List (Rider A) → Type 0
  AllHave desk [] = Unit {0}
  AllHave desk (rider ∷ riders) = HasPass desk rider × AllHave desk riders

  -- each rider made its turn
  abbrev pub AllRode : (A → Option Ask) → (Reply → A → A) → SixLocked → List (Rider A) → List (Rider A) → Type 0
  AllRode asks takes desk [] [] = Unit {0}
  AllRode asks takes desk (old ∷ olds) (new ∷ news) = Rode asks takes desk old new × AllRode asks takes desk olds news
  AllRode asks takes desk olds news = ⊥
