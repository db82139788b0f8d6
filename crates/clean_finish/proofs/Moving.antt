-- Moves of a lane, one list of them after another.
use Rattle.clean_finish.proofs.Words.{subst, ℕ, suc, zero, Setting, Lane, Stage, Moves}

-- the sum of two numbers, which computes by the first one
abbrev pub more_than : ℕ → ℕ → ℕ
more_than zero m = m
more_than (suc n) m = suc (more_than n m)

pub moves_then : (k : Setting) (s : Lane) (m n : ℕ) (p : Stage) (w : Lane) (q : Stage) (v : Lane) (r : Stage) (u : Lane)
    → Moves k s m p w q v → Moves k s n q v r u → Moves k s (more_than n m) p w r u
moves_then k s m zero p w q v r u first more =
    subst (λ (x : Stage). Moves k s m p w x u) more.0 (subst (λ (x : Lane). Moves k s m p w q x) more.1 first)
moves_then k s m (suc n) p w q v r u first more =
    (more.0, more.1, moves_then k s m n p w q v more.0 more.1 first more.2, more.3)
