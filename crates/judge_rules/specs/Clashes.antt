-- The rule `mapping` on positions that have places already (RFC 8684, section 3.3.1).
use Rattle.std.specs.Prelude.{ℕ, zero, suc, ◌+◌, ◌==◌, if◌then◌else◌, Option, Some, None}
use Rattle.std.specs.Option.{option_or}
use Rattle.first_runs.specs.Runs.{Told}
use Rattle.judge_rules.specs.declared.finding.Finding.{Finding}
use Rattle.judge_rules.specs.declared.finding.Finding.TheVariants.{OtherPlace}

-- a position whose place was told, beside this one
abbrev pub clash_by : Option Told → ℕ → ℕ → Option Finding
clash_by None position place = None
clash_by (Some told) position place = if told.image == place then None else Some (OtherPlace position told.image told.teller place)

-- the lowest of so many positions from one on that has another place
abbrev pub first_clash : (ℕ → Option Told) → ℕ → ℕ → ℕ → Option Finding
first_clash told position place zero = None
first_clash told position place (suc count) =
    option_or (clash_by (told position) position place) (first_clash told (position + 1) (place + 1) count)
