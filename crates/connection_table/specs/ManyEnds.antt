-- How a run of many connections ends, and why.
use Rattle.std.specs.Prelude.{ℕ, suc, ◌≡◌, ◌≢◌, ◌⊎◌, ◌+◌, ◌<◌, ◌≤◌, List, [], ◌∷◌, ◌++◌, length, map, Option, Some, Ok, Err, IfSome}
use Rattle.std.specs.List.{All, AllZip}
use Rattle.outside_kit.specs.declared.port.Port.TheVariants.{Log}
use Rattle.sides.specs.declared.side.Side.TheVariants.{A, B}
use Rattle.outside_kit.specs.Calls.{Call, Made}
use Rattle.outside_kit.specs.Calls as call
use Rattle.outside_kit.specs.Outside.{Told, HasRisen, HoldsAfter, HoldsPrefix}
use Rattle.octet_text.specs.Prefix.{IsPrefix}
use Rattle.clean_finish.specs.Bound.{enough}
use Rattle.run_outside.specs.declared.input.Input.{Input}
use Rattle.run_outside.specs.Plan.{AddsAll}
use Rattle.world_laws.specs.declared.outcome.Outcome.TheVariants.{Delivered}
use Rattle.world_laws.specs.Outcomes.{outcome_of, output_of}
use Rattle.stream_lanes.specs.Words.{Every}
use Rattle.connection_table.specs.ListWords.{NamedList}
use Rattle.connection_table.specs.Lists.{Names, list_reading}
use Rattle.connection_table.specs.declared.many.Many.{Many}
use Rattle.connection_table.specs.declared.many.Many.TheVariants as ends
use Rattle.connection_table.specs.Causes.{IsInputFault}
use Rattle.connection_table.specs.Inputs.{Contents, IsInput, IsShort}
use Rattle.connection_table.specs.Loads.{AddsCut, AddsToFailed, ListAdds, joined, loads_by_line}
use Rattle.connection_table.specs.Scripts.{LeavesPayload, listed_reading}
use Rattle.connection_table.specs.ManyLines.{connection_line, lines_from}
use Rattle.connection_table.specs.ManyRounds.{IsSerialEnd}
use Rattle.connection_table.specs.Tables.{Connection, Entry, first_of, holder_of, key_token, opened_entry}

-- ---- tokens

-- no two of these are equal
abbrev pub AreApart : List ℕ → Type 0
AreApart [] = Unit {0}
AreApart (token ∷ tokens) = Every (λ other. token ≢ other) tokens × AreApart tokens

-- each connection of these inputs has a token of its own
abbrev pub HaveOwnTokens : List Input → Type 0
HaveOwnTokens inputs = AreApart (map (λ (input : Input). key_token input.script) inputs)

-- ---- the connections of the list

-- the inputs are those of the names, one for one
abbrev pub AreInputs : Contents → List Names → List Input → Type 0
AreInputs content [] [] = Unit {0}
AreInputs content [] (input ∷ inputs) = ⊥
AreInputs content (names ∷ more) [] = ⊥
AreInputs content (names ∷ more) (input ∷ inputs) = IsInput content names input × AreInputs content more inputs

-- the connections of these names, before their first steps
pub record AreAdmitted (content : Contents) (names : List Names) (table : List Entry) : Type 0 where
  pub inputs : List Input
  pub are : AreInputs content names inputs
  pub apart : HaveOwnTokens inputs
  pub table_is : table ≡ map opened_entry inputs

-- the list is within its limit, and says these names
abbrev pub Says : List ℕ → List Names → Type 0
Says list names = (length list ≤ 65536) × (list_reading list ≡ Ok names)

-- the inputs of a list, of these names: it says these, where it is told; all are within their limits, by no script a payload is
-- altered, and no two have one token
pub record AreListed (content : Contents) (words : NamedList) (names : List Names) (inputs : List Input) : Type 0 where
  pub said : IfSome (content words.list) (λ list. Says list names)
  pub are : AreInputs content names inputs
  pub short : All IsShort inputs
  pub leave : All (λ (input : Input). LeavesPayload input.script) inputs
  pub apart : HaveOwnTokens inputs

-- the loads of a list of these names, in order
abbrev pub loads_of_list : NamedList → List Names → List Call
loads_of_list words names = joined (loads_by_line words.list names)

-- the table of a list, before the first step of any connection, behind the loads of all
pub record IsTableOf (words : NamedList) (old new : Told) (table : List Entry) : Type 0 where
  pub names : List Names
  pub inputs : List Input
  pub listed : AreListed old.content words names inputs
  pub table_is : table ≡ map opened_entry inputs
  pub calls : AddsAll (loads_of_list words names) old.calls new.calls

-- ---- causes

-- a connection isn't admitted: one that is there holds its token, or memory is wanting
abbrev pub IsAdmitFault : ℕ → Option ℕ → Many → Type 0
IsAdmitFault entry holder (ends.SameToken line named) = (line ≡ entry + 1) × (holder ≡ Some named)
IsAdmitFault entry holder ends.Memory = Unit {0}
IsAdmitFault entry holder _ = ⊥

-- the connection of these names, behind those of these inputs: what it begins with, or its token
abbrev pub AtFault : Contents → List Input → Names → ℕ → ℕ → Many → Type 0
AtFault content inputs names old new (ends.SameToken line holder) =
    (line ≡ length inputs + 1) × ((input : Input) × (IsInput content names input × (holder_of (key_token input.script) (map opened_entry inputs) ≡ Some holder)))
AtFault content inputs names old new many = IsInputFault (length inputs) content names old new many

-- the first connection of a list that can't be loaded, read or admitted: those before it can, each within its limits and with its own token
pub record IsListedFault (content : Contents) (names : List Names) (old new : ℕ) (many : Many) : Type 0 where
  pub before : List Names
  pub inputs : List Input
  pub admitted : AreInputs content before inputs
  pub apart : HaveOwnTokens inputs
  pub cause : (many ≡ ends.Memory) ⊎ ((at : Names) × ((behind : List Names) × ((names ≡ before ++ at ∷ behind) × AtFault content inputs at old new many)))

-- ---- the lines

-- the connections stand after at most so many serial rounds of each by itself
abbrev pub AreSerial : ℕ → List Input → List Connection → Type 0
AreSerial most inputs ws = AllZip (λ (input : Input) (w : Connection). IsSerialEnd most (first_of input) w) inputs ws

-- What a line tells: B has read first octets of FILE_A, and A of FILE_B, and where the connection is delivered all of them. It is where
-- its script is clean, and so many rounds are enough.
pub record EndsRight (rounds : ℕ) (input : Input) (w : Connection) : Type 0 where
  pub read_by_b : IsPrefix (output_of B w) input.file_a
  pub read_by_a : IsPrefix (output_of A w) input.file_b
  pub whole : outcome_of w.crew ≡ Delivered → (output_of B w ≡ input.file_a) × (output_of A w ≡ input.file_b)
  pub clean : IfSome (enough input.script (length input.file_a) (length input.file_b)) (λ least. least ≤ rounds → outcome_of w.crew ≡ Delivered)

-- the connections of a list as they end, each by itself
pub record AreOfList (content : Contents) (words : NamedList) (worlds : List Connection) : Type 0 where
  pub names : List Names
  pub inputs : List Input
  pub listed : AreListed content words names inputs
  pub serial : AreSerial words.rounds inputs worlds
  pub right : AllZip (EndsRight words.rounds) inputs worlds

-- ---- what is put

-- the line of each of these connections, in one put
abbrev pub puts_from : ℕ → List Connection → List Call
puts_from number [] = []
puts_from number (w ∷ ws) = call.Put Log (connection_line number w) ∷ puts_from (suc number) ws

-- the line of each connection's own serial run was put, behind the loads of all
pub record AllPut (words : NamedList) (old new : Told) : Type 0 where
  pub worlds : List Connection
  pub of : AreOfList old.content words worlds
  pub lines : HoldsAfter (old.holds Log) (new.holds Log) (λ held. held ++ lines_from 0 worlds)
  pub calls_made : AddsAll (loads_of_list words of.names ++ puts_from 0 worlds) old.calls new.calls

-- a prefix of these lines, by some of these puts: P holds of the calls, of the loads and of the puts
pub record SomePut (P : List Call → List Call → Option (List Made) → Option (List Made) → Type 0) (words : NamedList) (old new : Told) : Type 0 where
  pub worlds : List Connection
  pub of : AreOfList old.content words worlds
  pub lines : HoldsPrefix (old.holds Log) (new.holds Log) (lines_from 0 worlds)
  pub calls_made : P (loads_of_list words of.names) (puts_from 0 worlds) old.calls new.calls

-- loads and puts were made up to a put that failed (`UpToPut`), or up to any call, which may have failed (`UpToAny`)
abbrev pub UpToPut : List Call → List Call → Option (List Made) → Option (List Made) → Type 0
UpToPut loads puts old new = AddsToFailed loads puts old new

abbrev pub UpToAny : List Call → List Call → Option (List Made) → Option (List Made) → Type 0
UpToAny loads puts old new = AddsCut (loads ++ puts) old new

-- ---- how a run of such a list ends

-- where the list is told and read, what comes of its connections
abbrev pub IsOfListed : Contents → NamedList → ℕ → ℕ → Many → Type 0
IsOfListed content words old new many =
    IfSome (content words.list) (λ list. (names : List Names) × (Says list names × IsListedFault content names old new many))

-- the list, or one of its connections, ends a run before any line is put
abbrev pub IsLoadingFault : Contents → NamedList → ℕ → ℕ → Many → Type 0
-- a load failed, and was counted: that of the list, or of what a connection begins with
IsLoadingFault content words old new (ends.Load line) = HasRisen old new × ((line ≡ 0) ⊎ IsOfListed content words old new (ends.Load line))
IsLoadingFault content words old new (ends.TooLong line) =
    ((line ≡ 0) × IfSome (content words.list) (λ told. 65536 < length told)) ⊎ IsOfListed content words old new (ends.TooLong line)
IsLoadingFault content words old new (ends.List line) =
    IfSome (content words.list) (λ list. (length list ≤ 65536) × (list_reading list ≡ Err line))
IsLoadingFault content words old new (ends.Script entry line kind) = IsOfListed content words old new (ends.Script entry line kind)
IsLoadingFault content words old new (ends.SameToken line holder) = IsOfListed content words old new (ends.SameToken line holder)
IsLoadingFault content words old new ends.Memory = Unit {0}
IsLoadingFault content words old new _ = ⊥

-- the calls of a run that a put ends
abbrev pub PutAdds : List Call → Option (List Made) → Option (List Made) → Many → Type 0
PutAdds plan old new ends.Put = AddsToFailed [] plan old new
PutAdds plan old new ends.Memory = AddsCut plan old new
PutAdds plan old new many = Unit {0}

-- a put ends it
abbrev pub IsPutFault : ℕ → ℕ → Many → Type 0
IsPutFault old new ends.Put = HasRisen old new
IsPutFault old new ends.Memory = Unit {0}
IsPutFault old new _ = ⊥

-- nothing was put, and these loads were made
pub record NonePut (words : NamedList) (old new : Told) (many : Many) : Type 0 where
  pub log_is : new.holds Log ≡ old.holds Log
  pub calls_made : ListAdds old.content words old.calls new.calls many

-- each answer has its cause
abbrev pub IsEnd : NamedList → Told → Told → Many → Type 0
IsEnd words old new ends.Done = AllPut words old new
IsEnd words old new ends.Usage = ⊥
IsEnd words old new ends.Put = HasRisen (old.port_faults Log) (new.port_faults Log) × SomePut UpToPut words old new
-- before any line was put, or behind some
IsEnd words old new ends.Memory = NonePut words old new ends.Memory ⊎ SomePut UpToAny words old new
IsEnd words old new many = IsLoadingFault old.content words old.load_faults new.load_faults many × NonePut words old new many

-- ---- a valid list

-- each content of a connection is told and within its limit, and the script is one
pub record IsValidInput (content : Contents) (names : Names) (input : Input) : Type 0 where
  pub text : List ℕ
  pub script_told : content names.script ≡ Some text
  pub script : listed_reading text ≡ Ok input.script
  pub script_short : length text ≤ 65536
  pub file_a : content names.file_a ≡ Some input.file_a
  pub file_b : content names.file_b ≡ Some input.file_b
  pub short : IsShort input

-- each content of these connections is valid, one for one
abbrev pub AreValidInputs : Contents → List Names → List Input → Type 0
AreValidInputs content [] [] = Unit {0}
AreValidInputs content [] (input ∷ inputs) = ⊥
AreValidInputs content (names ∷ more) [] = ⊥
AreValidInputs content (names ∷ more) (input ∷ inputs) = IsValidInput content names input × AreValidInputs content more inputs

-- the list is told, within its limit and in form; so is all that it names, and the tokens differ
pub record IsValid (content : Contents) (words : NamedList) : Type 0 where
  pub list : List ℕ
  pub told : content words.list ≡ Some list
  pub short : length list ≤ 65536
  pub names : List Names
  pub read : list_reading list ≡ Ok names
  pub inputs : List Input
  pub valid : AreValidInputs content names inputs
  pub apart : HaveOwnTokens inputs
