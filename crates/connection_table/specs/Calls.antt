-- Calls on a table of connections, one after the other, and what each connection makes of its own.
use Rattle.std.specs.Prelude.{ℕ, ◌≡◌, ◌<◌, ◌==◌, if◌then◌else◌, List, [], ◌∷◌, ◌++◌, length, Option, Some, None, IsSomeAnd}
use Rattle.world_core.specs.Logged.{all_turns}
use Rattle.path_core.specs.Octets.{octets}
use Rattle.run_outside.specs.declared.input.Input.{Input}
use Rattle.world_laws.specs.PlainScripts.{IsShortScript}
use Rattle.world_laws.specs.Worlds.{world_run}
use Rattle.connection_table.specs.Routes.{home_of}
use Rattle.connection_table.specs.Steps.{IsStopped, after_end, after_step}
use Rattle.connection_table.specs.Tables.{Entry, IsShortEntry, IsTable, Stands, StandsAlone, entry_at, first_of, holder_of, key_token, opened_entry, with_entry}

-- a call for a connection
pub data Call : Type 0 where
  -- a step of an actor, which was made, or whose turn had ended
  Steps : (actor : ℕ) → Call
  -- a step that wanted memory, and left the connection so
  Fails : (actor : ℕ) (after : Entry) → Call
  -- the end of a round
  Ends : Call

-- a call on the table
pub data Event : Type 0 where
  -- a connection of this input comes
  Admits : (input : Input) → Event
  -- a call for the connection with this number
  Calls : (connection : ℕ) (call : Call) → Event

-- ---- one connection

abbrev pub after_call : Call → Entry → Entry
after_call (Steps actor) e = after_step actor e
after_call (Fails actor after) e = after
after_call Ends e = after_end e

-- the connection after these calls, the first one first
abbrev pub after_calls : List Call → Entry → Entry
after_calls [] e = e
after_calls (call ∷ calls) e = after_calls calls (after_call call e)

-- the call can be answered: a step by a connection that stands, or a failure that stops it and shows as before
abbrev pub CanCall : Call → Entry → Type 0
CanCall (Steps actor) e = Stands e
CanCall (Fails actor after) e = IsStopped e after
CanCall Ends e = Unit {0}

-- none of these calls wanted memory
abbrev pub NoneFailed : List Call → Type 0
NoneFailed [] = Unit {0}
NoneFailed (Fails actor after ∷ calls) = ⊥
NoneFailed (call ∷ calls) = NoneFailed calls

-- ---- the table

-- the connection at which a call for this one is made
abbrev pub called_at : ℕ → Call → List Entry → ℕ
called_at connection (Steps actor) table = home_of connection actor table
called_at connection (Fails actor after) table = home_of connection actor table
called_at connection Ends table = connection

abbrev pub put_call : ℕ → Call → Option Entry → List Entry → List Entry
put_call home call None table = table
put_call home call (Some e) table = with_entry home (after_call call e) table

abbrev pub call_made : ℕ → Call → List Entry → List Entry
call_made home call table = put_call home call (entry_at home table) table

abbrev pub after_event : Event → List Entry → List Entry
after_event (Admits input) table = table ++ opened_entry input ∷ []
after_event (Calls connection call) table = call_made (called_at connection call table) call table

-- the table after these calls
abbrev pub after_events : List Event → List Entry → List Entry
after_events [] table = table
after_events (event ∷ events) table = after_events events (after_event event table)

-- there is room for a connection with short files, whose token is new
pub record CanAdmit (input : Input) (table : List Entry) : Type 0 where
  pub few : length table < 64
  pub new : holder_of (key_token input.script) table ≡ None
  pub short : IsShortScript input.script input.file_a input.file_b

-- the call can come to this table
abbrev pub CanBe : Event → List Entry → Type 0
CanBe (Admits input) table = CanAdmit input table
CanBe (Calls connection call) table = IsSomeAnd (entry_at connection table) (CanCall call)

-- each of the calls can come to the table after those before it
abbrev pub CanAllBe : List Event → List Entry → Type 0
CanAllBe [] table = Unit {0}
CanAllBe (event ∷ events) table = CanBe event table × CanAllBe events (after_event event table)

-- the calls for the connection with this number
abbrev pub own_calls : ℕ → List Event → List Call
own_calls number [] = []
own_calls number (Admits input ∷ events) = own_calls number events
own_calls number (Calls connection call ∷ events) =
    if connection == number then call ∷ own_calls number events else own_calls number events

-- ---- the law: no connection changes another

-- connections with short files, of which each that hasn't failed is what its own input and turns come to
pub record IsShortTable (table : List Entry) : Type 0 where
  pub is : IsTable table
  pub alone : (number : ℕ) (e : Entry) → entry_at number table ≡ Some e → StandsAlone e
  pub short : (number : ℕ) (e : Entry) → entry_at number table ≡ Some e → IsShortEntry e

-- a connection is what its own calls make of it; where none wanted memory, what its own input and turns come to
pub record IsIsolated (calls : List Call) (before : Entry) (now : Option Entry) : Type 0 where
  pub own : now ≡ Some (after_calls calls before)
  pub alone : NoneFailed calls → Stands before
      → (after_calls calls before).world.state ≡ world_run octets (all_turns (after_calls calls before).turns) (first_of before.input)

-- for every list of calls
abbrev pub EachIsIsolated : Type 0
EachIsIsolated =
    (events : List Event) (table : List Entry) (number : ℕ) (e : Entry) → IsShortTable table → CanAllBe events table → entry_at number table ≡ Some e
    → IsIsolated (own_calls number events) e (entry_at number (after_events events table))
