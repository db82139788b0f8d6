-- The two versions of scripts: the second has lines on rates, random loss and jitter.
use Rattle.std.specs.Prelude.{Bool, true, false, if◌then◌else◌, List}
use Rattle.std.specs.List.{list_any}
use Rattle.link_script.specs.declared.script.ScriptLine.{ScriptLine}
use Rattle.link_script.specs.declared.script.ScriptLine.TheVariants.{OnDirection}
use Rattle.link_script.specs.declared.version.Version.{Version}
use Rattle.link_script.specs.declared.version.Version.TheVariants.{First, Second}
use Rattle.link_script.specs.declared.word.Keyword.{Keyword}
use Rattle.link_script.specs.declared.word.Keyword.TheVariants.{Rate, Loss, Jitter}

-- a version has lines on rates, random loss and jitter
abbrev pub has_rates : Version → Bool
has_rates First = false
has_rates Second = true

-- a line of this version may begin so
abbrev pub is_known : Version → Keyword → Bool
is_known version Rate = has_rates version
is_known version Loss = has_rates version
is_known version Jitter = has_rates version
is_known version keyword = true

-- the first version lacks this line
abbrev pub is_second : ScriptLine → Bool
is_second (OnDirection direction impairment) = true
is_second line = false

-- the first version that has all these lines
abbrev pub version_of : List ScriptLine → Version
version_of lines = if list_any is_second lines then Second else First
