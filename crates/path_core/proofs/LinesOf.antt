-- The line of a path is the one at its place.
use Rattle.path_core.proofs.Words.{◌≡◌, refl, ℕ, zero, suc, ◌<◌, List, [], ◌∷◌, length, arith, get_or}
use Rattle.link_script.specs.declared.script.PathLine.{PathLine}
use Rattle.path_core.specs.Start.{line_of}

pub line_at : (path : ℕ) (lines : List PathLine) (d : PathLine) → path < length lines → get_or lines path d ≡ line_of path lines
line_at path [] d within = absurd (omega (arith, within))
line_at zero (line ∷ lines) d within = refl
line_at (suc path) (line ∷ lines) d within = line_at path lines d (omega (arith, within))
