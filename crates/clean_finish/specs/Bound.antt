-- How many rounds are enough for a clean script.
use Rattle.std.specs.Prelude.{ℕ, ◌+◌, ◌-◌, ◌*◌, max, List, [], ◌∷◌, Option, Some, None}
use Rattle.std.specs.Int.{div_ceil}
use Rattle.link_script.specs.declared.script.PathLine.{PathLine}
use Rattle.link_script.specs.declared.script.Script.{Script}
use Rattle.link_script.specs.declared.script.ScriptLine.{ScriptLine}

-- Octets of payload of a full segment: 28 less than the segment size, for the longest DSS option. No script's
-- size is below 200; for one below 29 it is 1.
abbrev pub payload_of : ℕ → ℕ
payload_of mss = max (mss - 28) 1

-- in how many full segments so many octets go
abbrev pub segments : ℕ → ℕ → ℕ
segments mss length = div_ceil length (payload_of mss)

-- Lanes need 15 rounds, and 7 for each segment of the longer file; 80 and 16 for each segment of either file are
-- promised.
abbrev pub bound_of : ℕ → ℕ → ℕ → ℕ
bound_of mss length_a length_b = 80 + 16 * (segments mss length_a + segments mss length_b)

-- A script is clean where it has one path, and no line on which something happens.
abbrev pub enough_on : List PathLine → List ScriptLine → ℕ → ℕ → Option ℕ
enough_on (path ∷ []) [] length_a length_b = Some (bound_of path.mss length_a length_b)
enough_on _ _ length_a length_b = None

-- the rounds that are enough for a clean script and files of these lengths
abbrev pub enough : Script → ℕ → ℕ → Option ℕ
enough script length_a length_b = enough_on script.paths script.lines length_a length_b
