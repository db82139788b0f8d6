-- Connections by scripts, and what is promised of them: anyhow, where mappings are checked, and where nothing is altered.
use Rattle.std.specs.Prelude.{ℕ, ◌≡◌, ◌-◌, ◌^◌, ◌<◌, Bool, true, false, List, length}
use Rattle.std.specs.List.{list_any}
use Rattle.link_script.specs.declared.script.Script.{Script}
use Rattle.link_script.specs.declared.script.ScriptLine.{ScriptLine}
use Rattle.link_script.specs.declared.script.Happens.TheVariants.{Altered}
use Rattle.link_script.specs.declared.script.ScriptLine.TheVariants.{OnSegment}
use Rattle.link_script.specs.Scripts.{HasRanges}
use Rattle.path_core.specs.Octets.{octets}
use Rattle.path_core.specs.Values.{values}
use Rattle.world_laws.specs.AbortCause.{AbortsHaveCause}
use Rattle.world_laws.specs.Altered.{BothKeepCount, FallsForGood, PlacedUntilTheFall, PrefixUntilTheFall}
use Rattle.world_laws.specs.Announcing.{AnnouncementsEnd}
use Rattle.world_laws.specs.Agreement.{MappingsAgree}
use Rattle.world_laws.specs.ChecksPass.{ChecksPass, ChecksumsAreRight}
use Rattle.world_laws.specs.FallsRight.{FallsAreRight, FallsLast, PositionsArePlaces, PositionsWerePlaces}
use Rattle.world_laws.specs.Fresh.{shown_world}
use Rattle.world_laws.specs.Granted.{GrantedOnce}
use Rattle.world_laws.specs.InfiniteMappings.{InfiniteMappingsAreHeardRight, InfiniteMappingsAreRight}
use Rattle.world_laws.specs.JoinsWait.{JoinsWait}
use Rattle.world_laws.specs.Laws.{CanRun}
use Rattle.world_laws.specs.Openings.{Start, opened_world, start_of}
use Rattle.world_laws.specs.Promises.{HasRoom, IsPlain, NumbersFit, BothKeepTheirWord, NothingFollows, EachTurnIsOneStep, NothingWasRefused, KeysNeverDiffer, JoinsAreRight, AddressesAreRight}
use Rattle.world_laws.specs.ShortNumbers.{ShortNumbersGoShort}
use Rattle.world_laws.specs.Standbys.{BackupsGetNothing}
use Rattle.world_laws.specs.Stopping.{AbortIsLast}
use Rattle.world_laws.specs.Welcome.{EachCopyIsWelcome}
use Rattle.world_laws.specs.Worlds.{WorldState, Turn, world_run}

-- by this line the payload of a segment is altered
abbrev pub alters_payload : ScriptLine → Bool
alters_payload (OnSegment segment Altered) = true
alters_payload _ = false

-- no payload is altered by any line
abbrev pub AltersNone : Script → Type 0
AltersNone script = list_any alters_payload script.lines ≡ false

-- a script, and two files shorter than 2^31 - 2 octets
pub record IsShortScript (script : Script) (file_a file_b : List ℕ) : Type 0 where
  pub ranges : HasRanges script
  pub short_a : length file_a < 2 ^ 31 - 2
  pub short_b : length file_b < 2 ^ 31 - 2

-- a script by whose lines no payload is altered, and two such files
pub record IsPlainScript (script : Script) (file_a file_b : List ℕ) : Type 0 where
  pub ranges : HasRanges script
  pub unaltered : AltersNone script
  pub short_a : length file_a < 2 ^ 31 - 2
  pub short_b : length file_b < 2 ^ 31 - 2

-- ---- whatever is altered

-- a connection by a script starts with numbers that fit
abbrev pub ScriptsFit : Type 0
ScriptsFit =
    (script : Script) (file_a file_b : List ℕ) → IsShortScript script file_a file_b → HasRoom (start_of script file_a file_b) × NumbersFit (start_of script file_a file_b)

-- what is promised of a connection over octets whatever its links alter
pub record KeepsAnyway (w : WorldState (List ℕ)) : Type 0 where
  pub count : BothKeepCount w
  pub end : NothingFollows octets w
  pub steps : EachTurnIsOneStep octets w
  pub keys : KeysNeverDiffer w
  pub joins : JoinsAreRight w
  pub addresses : AddressesAreRight w
  pub copies : EachCopyIsWelcome octets w
  pub mappings : MappingsAgree w
  pub falls : FallsAreRight w
  pub lasting : FallsLast octets w
  pub places : PositionsArePlaces w
  pub for_good : FallsForGood octets w
  pub granted : GrantedOnce w
  pub standbys : BackupsGetNothing w
  pub announcements : AnnouncementsEnd w
  pub aborts : AbortsHaveCause w
  pub stopped : AbortIsLast octets w
  pub waiting : JoinsWait w
  pub infinite : InfiniteMappingsAreHeardRight octets w
  pub whole : PositionsWerePlaces octets w

-- by a script with short files all is kept that is promised whatever is altered, in whatever order the steps come
abbrev pub ScriptsKeepAnyway : Type 0
ScriptsKeepAnyway =
    (script : Script) (file_a file_b : List ℕ) (turns : List Turn) → IsShortScript script file_a file_b
    → KeepsAnyway (world_run octets turns (opened_world (start_of script file_a file_b)))

-- where mappings are checked: until its side falls back, a reader has a prefix of what was written, and what was placed
-- is right
pub record KeepsChecked (w : WorldState (List ℕ)) : Type 0 where
  pub prefix : PrefixUntilTheFall w
  pub placed : PlacedUntilTheFall octets w

-- by a script with short files and checksums, what is checked is kept, in whatever order the steps come
abbrev pub CheckedScriptsKeepOctets : Type 0
CheckedScriptsKeepOctets =
    (script : Script) (file_a file_b : List ℕ) (turns : List Turn) → IsShortScript script file_a file_b → script.checksum ≡ true
    → KeepsChecked (world_run octets turns (opened_world (start_of script file_a file_b)))

-- After these turns the connection over octets is the one over segments as values, shown in octets: what it sends is spelled from
-- the segments of that one, and what it receives is read as them. There short numbers go short, and infinite mappings and checksums
-- are right.
pub record IsShownOfValues (start : Start) (turns : List Turn) : Type 0 where
  pub shown : world_run octets turns (opened_world start)
      ≡ shown_world (world_run values turns (opened_world start))
  pub short : ShortNumbersGoShort start (world_run values turns (opened_world start))
  pub infinite : InfiniteMappingsAreRight (world_run values turns (opened_world start))
  pub sums : ChecksumsAreRight (world_run values turns (opened_world start))

-- a connection by a script with short files is one over values, shown in octets, in whatever order the steps come
abbrev pub ScriptsAreShownOfValues : Type 0
ScriptsAreShownOfValues =
    (script : Script) (file_a file_b : List ℕ) (turns : List Turn)
    → IsShortScript script file_a file_b → IsShownOfValues (start_of script file_a file_b) turns

-- ---- where nothing is altered

-- a connection by a plain script starts plainly, with numbers that fit
abbrev pub PlainScriptsStartPlainly : Type 0
PlainScriptsStartPlainly =
    (script : Script) (file_a file_b : List ℕ) → IsPlainScript script file_a file_b → IsPlain (start_of script file_a file_b) × NumbersFit (start_of script file_a file_b)

-- all that is promised of a connection over octets
pub record KeepsAllPromises (w : WorldState (List ℕ)) : Type 0 where
  pub word : BothKeepTheirWord w
  pub refused : NothingWasRefused w
  pub checks : ChecksPass w
  pub anyway : KeepsAnyway w

-- a connection whose script alters no payload keeps all promises, in whatever order the steps come
abbrev pub PlainScriptsKeepAllPromises : Type 0
PlainScriptsKeepAllPromises =
    (script : Script) (file_a file_b : List ℕ) (turns : List Turn) → IsPlainScript script file_a file_b
    → KeepsAllPromises (world_run octets turns (opened_world (start_of script file_a file_b)))

-- a connection by any script can run: so there are serial turns at every moment
abbrev pub ScriptsCanRun : Type 0
ScriptsCanRun =
    (script : Script) (file_a file_b : List ℕ) → HasRanges script → CanRun (start_of script file_a file_b)
