-- The things that a copy says, one after the other.
use Rattle.std.proofs.Common.{◌≡◌, refl, subst, ap, ℕ, zero, suc, ◌+◌, List, [], ◌∷◌, ◌++◌, length, arith}
use Rattle.sides.specs.declared.side.Side.{Side}
use Rattle.path_agenda.specs.declared.duty.Duty.{Duty}
use Rattle.path_agenda.specs.declared.duty.StepDuty.{StepDuty}
use Rattle.path_agenda.specs.Agenda.{heard_and}

heard_before : (s : Side) (from n : ℕ) (ds : List Duty) → heard_and s from n [] ++ ds ≡ heard_and s from n ds
heard_before s from zero ds = refl
heard_before s from (suc n) ds = ap (λ rest. Duty.Step (StepDuty.Heard s from) ∷ rest) (heard_before s (from + 1) n ds)

-- as many of them as are heard, and then these
pub heard_first : (s : Side) (n : ℕ) (ds : List Duty) → heard_and s 0 n [] ++ ds ≡ heard_and s 0 n ds
heard_first s n ds = heard_before s 0 n ds

-- one more behind them
one_behind : (s : Side) (from n : ℕ) → heard_and s from n [] ++ Duty.Step (StepDuty.Heard s (from + n)) ∷ [] ≡ heard_and s from (suc n) []
one_behind s from zero = let e : from + 0 ≡ from = omega arith in rw e refl
one_behind s from (suc n) =
    let e : from + suc n ≡ from + 1 + n = omega arith in
    rw e (ap (λ rest. Duty.Step (StepDuty.Heard s from) ∷ rest) (one_behind s (from + 1) n))

pub heard_next : (s : Side) (n : ℕ) → heard_and s 0 n [] ++ Duty.Step (StepDuty.Heard s n) ∷ [] ≡ heard_and s 0 (n + 1) []
heard_next s n =
    let first : 0 + n ≡ n = omega arith in let more : n + 1 ≡ suc n = omega arith in
    rw more (subst (λ k. heard_and s 0 n [] ++ Duty.Step (StepDuty.Heard s k) ∷ [] ≡ heard_and s 0 (suc n) []) first (one_behind s 0 n))

pub heard_length : (s : Side) (from n : ℕ) → length (heard_and s from n []) ≡ n
heard_length s from zero = refl
heard_length s from (suc n) = omega (arith, heard_length s (from + 1) n)
