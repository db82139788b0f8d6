-- What loads, and binds and puts, leave behind.
use Rattle.std.specs.Prelude.{◌≡◌, ◌≤◌, List, Result, OnOk, IfErr}
use Rattle.outside_kit.specs.Calls.{Call}
use Rattle.outside_kit.specs.Outside.{Told}
use Rattle.run_outside.specs.declared.status.Status.{Status}
use Rattle.run_outside.specs.Plan.{AddsAll, AddsCut}
use Rattle.run_outside.specs.Ports.{NeverFall, IsPortsFault, IsUntouched}

-- Loads: where none failed, all of this plan were made. Nothing was bound or put, and the count of
-- failed loads didn't fall.
pub record Loads {X : Type 0} (plan : List Call) (old new : Told) (result : Result X Status) : Type 0 where
  pub made : OnOk result (AddsAll plan old.calls new.calls)
  pub counted : old.load_faults ≤ new.load_faults
  pub untouched : IsUntouched old new

-- nothing was loaded, and no port's count of faults fell
pub record OnlyPuts (old new : Told) : Type 0 where
  pub unloaded : new.load_faults ≡ old.load_faults
  pub counted : NeverFall old.port_faults new.port_faults

-- Binds and puts: all of this plan were made; or its first ones, and the last of them failed or
-- memory was wanting.
pub record Puts {X : Type 0} (plan : List Call) (old new : Told) (result : Result X Status) : Type 0 where
  pub made : OnOk result (AddsAll plan old.calls new.calls)
  pub cut : IfErr result (λ status. AddsCut plan status old.calls new.calls)
  pub fault : IfErr result (IsPortsFault old.port_faults new.port_faults)
  pub only : OnlyPuts old new
