-- A seat after a whole call at its table.
use Rattle.std.specs.Prelude.{◌≡◌, List, [], ◌++◌, ◌||◌, Bool, Option}
use Rattle.atomic_table.specs.Table.{Me}
use Rattle.stamped_book.specs.Journal.{Journaled}
use Rattle.stamped_book.specs.declared.stamped.Entry.{Entry}
use Rattle.ruled_desk.specs.declared.rule.View.{View}
use Rattle.ruled_desk.specs.Rule.{view}

module _ {O C R : Type 0} where
  -- the seat is at rest, with some entries more of its own
  abbrev pub IsCalled : List (Entry C R) → Bool → Me (Option (Journaled O C R)) (View (Journaled O C R) (Entry C R))
      → Me (Option (Journaled O C R)) (View (Journaled O C R) (Entry C R)) → Type 0
  IsCalled more full me after = after ≡ (view me.0.parts [] [] (me.0.own ++ more) (full || me.0.full), [])

  -- the seat is at rest, with no entry more
  pub record IsRefused (me after : Me (Option (Journaled O C R)) (View (Journaled O C R) (Entry C R))) : Type 0 where
    pub full : Bool
    pub is : IsCalled [] full me after
