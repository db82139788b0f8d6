-- What is said of the ports of an outside over several binds and puts.
use Rattle.std.specs.Prelude.{◌≡◌, ℕ, ◌≤◌, ◌⊎◌, List, ◌++◌, Option, Some, IfSome}
use Rattle.outside_kit.specs.declared.port.Port.{Port}
use Rattle.outside_kit.specs.Outside.{Told, HasRisen}
use Rattle.octet_text.specs.Prefix.{IsPrefix}
use Rattle.run_outside.specs.declared.status.Status.{Status}
use Rattle.run_outside.specs.declared.status.Status.TheVariants.{Put, Memory}

-- what each port holds, where it is told
abbrev pub Ports : Type 0
Ports = Port → Option (List ℕ)

-- no port's count of faults falls
abbrev pub NeverFall : (Port → ℕ) → (Port → ℕ) → Type 0
NeverFall old new = (port : Port) → old port ≤ new port

-- nothing was bound or put
abbrev pub IsUntouched : Told → Told → Type 0
IsUntouched old new = (port : Port) → (new.holds port ≡ old.holds port) × (new.port_faults port ≡ old.port_faults port)

-- the binds and puts end a run with this status: the device failed at this port, and counted it, or there is no memory
abbrev pub IsPortsFault : (Port → ℕ) → (Port → ℕ) → Status → Type 0
IsPortsFault old new (Put port) = HasRisen (old port) (new port)
IsPortsFault old new Memory = Unit {0}
IsPortsFault old new _ = ⊥

-- where a port told what it held, it holds that and more; so much more, behind this text, is one of this kind
abbrev pub HoldsMore : Option (List ℕ) → Option (List ℕ) → List ℕ → (List ℕ → Type 0) → Type 0
HoldsMore old new prefix P = IfSome old (λ held. (more : List ℕ) × ((new ≡ Some (held ++ more)) × P (prefix ++ more)))

-- a text begins with this one, and that one goes on from it
pub record IsBetween (low high text : List ℕ) : Type 0 where
  pub least : IsPrefix low text
  pub most : IsPrefix text high

-- a port that was bound and told what it held holds the low text at least and the high one at most; while nothing has begun it
-- may hold what it held
abbrev pub HoldsWithin : Type 0 → Option (List ℕ) → Option (List ℕ) → List ℕ → List ℕ → Type 0
HoldsWithin unbegun old new low high = IfSome old (λ held. (unbegun × (new ≡ Some held)) ⊎ ((text : List ℕ) × ((new ≡ Some text) × IsBetween low high text)))
