-- An outside in memory by what it holds: its files, the calls that are to fail, and its ports.
use Rattle.std.specs.Prelude.{ℕ, ◌+◌, ◌-◌, ◌^◌, ◌==◌, min, if◌then◌else◌, List, [], ◌∷◌, ◌++◌, string_bytes, Option, Some, None}
use Rattle.std.specs.Str.{bytes_eq}
use Rattle.outside_kit.specs.declared.port.Port.{Port}
use Rattle.outside_kit.specs.declared.port.Port.TheVariants.{ReadByA, ReadByB, Log}
use Rattle.outside_kit.specs.declared.files.FailAt.{FailAt}
use Rattle.outside_kit.specs.declared.files.NamedFile.{NamedFile}
use Rattle.outside_kit.specs.Calls.{Made}

-- a file by its name and its content
pub record StoredFile : Type 0 where
  pub name : List ℕ
  pub content : List ℕ

-- the octets that were put to a port, and how many of its binds and puts have failed
pub record StoredPort : Type 0 where
  pub held : List ℕ
  pub faults : ℕ

pub record Memory : Type 0 where
  pub files : List StoredFile
  pub failing : List FailAt
  -- the calls made so far
  pub calls : ℕ
  pub load_faults : ℕ
  pub read_by_a : StoredPort
  pub read_by_b : StoredPort
  pub log : StoredPort

-- an outside in memory, and the calls that were made on it, where it tells them
pub record Recorded : Type 0 where
  pub memory : Memory
  pub made : Option (List Made)

-- a file of the code by its octets
abbrev pub stored : NamedFile → StoredFile
stored file = record { name = string_bytes file.name; content = file.content.items }

-- the content of the first file of that name
abbrev pub content_named : List StoredFile → List ℕ → Option (List ℕ)
content_named [] name = None
content_named (file ∷ files) name = if bytes_eq file.name name then Some file.content else content_named files name

-- a count of a u64 goes up by one, and stands still at the greatest number
abbrev pub one_more : ℕ → ℕ
one_more count = min (count + 1) (2 ^ 64 - 1)

-- how much of its piece is kept by the call of that number, where it is to fail
abbrev pub kept_at : List FailAt → ℕ → Option ℕ
kept_at [] call = None
kept_at (fail ∷ failing) call = if fail.call == call then Some fail.kept else kept_at failing call

-- how much of its piece is kept by the next call, where it is to fail
abbrev pub kept_next : Memory → Option ℕ
kept_next memory = kept_at memory.failing (one_more memory.calls)

abbrev pub port_of : Port → Memory → StoredPort
port_of ReadByA memory = memory.read_by_a
port_of ReadByB memory = memory.read_by_b
port_of Log memory = memory.log

abbrev pub with_port : Port → StoredPort → Memory → Memory
with_port ReadByA port memory = record memory { read_by_a = port }
with_port ReadByB port memory = record memory { read_by_b = port }
with_port Log port memory = record memory { log = port }

-- one call more was made
abbrev pub after_call : Memory → Memory
after_call memory = record memory { calls = one_more memory.calls }

-- the call was a load, which failed
abbrev pub after_failed_load : Memory → Memory
after_failed_load memory = record memory { calls = one_more memory.calls; load_faults = one_more memory.load_faults }

-- a port that was bound holds nothing
abbrev pub emptied : StoredPort → StoredPort
emptied port = record port { held = [] }

-- a port with this at the end of what it held
abbrev pub grown : List ℕ → StoredPort → StoredPort
grown piece port = record port { held = port.held ++ piece }

-- a port of which one more bind or put has failed
abbrev pub after_fault : StoredPort → StoredPort
after_fault port = record port { faults = one_more port.faults }

-- an outside with these files, and nothing in its ports yet
abbrev pub new_memory : List StoredFile → List FailAt → Memory
new_memory files failing = record {
  files = files;
  failing = failing;
  calls = 0;
  load_faults = 0;
  read_by_a = record { held = []; faults = 0 };
  read_by_b = record { held = []; faults = 0 };
  log = record { held = []; faults = 0 };
}
