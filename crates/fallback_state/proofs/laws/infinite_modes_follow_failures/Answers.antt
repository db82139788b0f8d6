use Rattle.std.proofs.Common.{refl}
use Rattle.fallback_state.specs.Fall.{opening}
use Rattle.fallback_state.proofs.AfterAll.{unfailed_all}
use Rattle.fallback_state.proofs.laws.infinite_modes_follow_failures.Goals as goal

pub returns : goal.returns
returns c = λ hs none.
    let u = unfailed_all opening hs none (record { finite = refl; unfailed = refl }) in (u.finite, u.unfailed)
