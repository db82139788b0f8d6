-- A turn of an application ends, whatever it is answered.
use Rattle.std.specs.Prelude.{◌≡◌, true, Some, IfSome, List, [], ◌∷◌}
use Rattle.actor_desk.specs.declared.ask.Ask.{Ask}
use Rattle.actor_desk.specs.declared.ask.Reply.{Reply}
use Rattle.actor_desk.specs.Kinds.{CanBeAsked, IsOfKind}
use Rattle.stream_apps.specs.declared.duty.AppDuty.{AppDuty}
use Rattle.stream_apps.specs.Apps.{AppState}
use Rattle.stream_apps.specs.AppSteps.{app_stands, app_asks_of, app_takes}

-- The turn of an application is over, or it asks, and ends after whatever reply of the asked kind.
pub data AppEnds : AppState → Type 0 where
  Over : (a : AppState) → a.agenda ≡ [] → AppEnds a
  Asks : (a : AppState) (x : Ask) → app_asks_of a ≡ Some x → ((r : Reply) → IsOfKind x r → AppEnds (app_takes r a)) → AppEnds a

-- the duty that stands first comes to something
abbrev pub FirstAppStands : List AppDuty → AppState → Type 0
FirstAppStands [] a = Unit {0}
FirstAppStands (d ∷ ds) a = app_stands d a ≡ true

-- the first duty of its agenda, if there is one, comes to something
abbrev pub IsAppSettled : AppState → Type 0
IsAppSettled a = FirstAppStands a.agenda a

-- An application whose first duty comes to something ends its turn, whatever replies of the asked kind come.
abbrev pub EveryAppTurnEnds : Type 0
EveryAppTurnEnds = (a : AppState) → IsAppSettled a → AppEnds a

-- What an application asks meets the conditions of the book that it asks.
abbrev pub EveryAppAskCanBeAsked : Type 0
EveryAppAskCanBeAsked = (a : AppState) → IfSome (app_asks_of a) CanBeAsked
