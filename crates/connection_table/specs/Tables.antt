-- The connections of a listener: each with what it began with and the turns that were made on it.
use Rattle.std.specs.Prelude.{ℕ, ◌≡◌, ◌≤◌, ◌==◌, Bool, true, false, List, [], length, position, Option, Some, slice_get, slice_set}
use Rattle.std.specs.List.{list_any}
use Rattle.run_log.specs.declared.turn.Turn as noted
use Rattle.link_script.specs.declared.script.Script.{Script}
use Rattle.key_material.specs.KeyDigest.{token_of}
use Rattle.path_core.specs.Octets.{octets}
use Rattle.path_core.specs.Start.{key_of}
use Rattle.run_outside.specs.declared.input.Input.{Input}
use Rattle.world_core.specs.Kept.{Kept, standing}
use Rattle.world_core.specs.Logged.{all_turns}
use Rattle.world_laws.specs.declared.member.Member.TheVariants.{App, Path}
use Rattle.world_laws.specs.Actors.{Actor, ActorCrew}
use Rattle.world_laws.specs.Openings.{opened_world, start_of}
use Rattle.world_laws.specs.PlainScripts.{IsShortScript}
use Rattle.world_laws.specs.Worlds.{WorldState, AreLawful, all_over, world_run}

-- a connection whose links carry octets
abbrev pub Connection : Type 0
Connection = WorldState (List ℕ)

-- ---- a connection

pub record Entry : Type 0 where
  -- the input that the connection began with
  pub input : Input
  -- each step that was made on it, and each end of a round
  pub turns : List noted.Turn
  -- the state that the connection has come to
  pub world : Kept

-- the input that a connection began with
abbrev pub input_of : Entry → Input
input_of e = e.input

-- a connection of this input before its first step
abbrev pub first_of : Input → Connection
first_of input = opened_world (start_of input.script input.file_a input.file_b)

abbrev pub opened_entry : Input → Entry
opened_entry input = record { input = input; turns = []; world = standing (first_of input) }

-- the connection hasn't failed for want of memory
abbrev pub Stands : Entry → Type 0
Stands e = e.world.failed ≡ false

-- a connection that hasn't failed is what its own input and turns come to, and each turn could be made
pub record StandsAlone (e : Entry) : Type 0 where
  pub is : Stands e → e.world.state ≡ world_run octets (all_turns e.turns) (first_of e.input)
  pub lawful : Stands e → AreLawful octets (all_turns e.turns) (first_of e.input)

-- B's token
abbrev pub key_token : Script → ℕ
key_token script = token_of (key_of script.seed 2)

-- both of its files are shorter than 2^31 - 2 octets
abbrev pub IsShortEntry : Entry → Type 0
IsShortEntry e = IsShortScript e.input.script e.input.file_a e.input.file_b

-- ---- as it is kept

abbrev pub is_path : Actor (List ℕ) → Bool
is_path (App a) = false
is_path (Path p) = true

abbrev pub is_path_crew : ActorCrew (List ℕ) → Bool
is_path_crew c = is_path c.member

abbrev pub has_path : Connection → Bool
has_path w = list_any is_path_crew w.crew

-- with its token, room for so many turns, and whether it failed: there is room for the end of a round that may come
pub record IsHeld (token room : ℕ) (failed : Bool) (e : Entry) : Type 0 where
  pub failed_is : failed ≡ e.world.failed
  pub token_is : token ≡ key_token e.input.script
  pub alone : StandsAlone e
  pub path : Stands e → has_path e.world.state ≡ true
  pub room_for_end : room ≡ 0 → Stands e → all_over e.world.state.crew ≡ false

-- ---- the table

-- the connection with this number, the first being 0
abbrev pub entry_at : ℕ → List Entry → Option Entry
entry_at number table = slice_get table number

-- with another one in its place
abbrev pub with_entry : ℕ → Entry → List Entry → List Entry
with_entry number e table = slice_set table number e

-- the first connection with this token
abbrev pub holder_of : ℕ → List Entry → Option ℕ
holder_of token table = position (λ (e : Entry). key_token e.input.script == token) table

-- at most 64 connections, each of which is the one that its token names
pub record IsTable (table : List Entry) : Type 0 where
  pub few : length table ≤ 64
  pub named : (number : ℕ) (e : Entry) → entry_at number table ≡ Some e → holder_of (key_token e.input.script) table ≡ Some number
