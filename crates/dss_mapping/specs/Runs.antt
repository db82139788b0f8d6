-- Runs: positions side by side whose places lie side by side too (RFC 8684, section 3.3.1).
use Rattle.std.specs.Prelude.{ℕ, ◌+◌, ◌-◌, ◌^◌, ◌<◌, nat_le, nat_lt, ◌&&◌, Bool}
use Rattle.dss_mapping.specs.declared.run.Run.{Run}

-- the position is one of the run
abbrev pub covers : ℕ → Run → Bool
covers p run = nat_le run.pos p && nat_lt p run.to

-- the place of a position of the run
abbrev pub place_in : ℕ → Run → ℕ
place_in p run = run.place + (p - run.pos)

-- every position from pos on, as long as it and its place are below 2 ^ 64 - 1
abbrev pub infinite_run : ℕ → ℕ → Run
infinite_run pos place = record { pos = pos; place = place; to = 2 ^ 64 - 1 - (place - pos) }

-- a run's positions and places are numbers of 64 bits
abbrev pub IsSound : Run → Type 0
IsSound run = (run.place + (run.to - run.pos) < 2 ^ 64) × (run.to < 2 ^ 64)
