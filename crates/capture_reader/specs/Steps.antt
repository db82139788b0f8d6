-- Steps of a reading, each of which may meet a fault: the octet where the record or block begins that has no form.
use Rattle.std.specs.Prelude.{ℕ, ◌≡◌, Result, Ok, Err, Option, Some, None}
use Rattle.capture_reader.specs.declared.capture.CaptureFault.{CaptureFault}
use Rattle.capture_reader.specs.declared.capture.CaptureFault.TheVariants.{Block, Memory}

infixl 10 ◌>>=◌
-- the next step goes on with what this one gave; a fault is the fault of all
abbrev pub ◌>>=◌ : {A B : Type 0} → Result A ℕ → (A → Result B ℕ) → Result B ℕ
(Ok x) >>= f = f x
(Err e) >>= f = Err e

-- what is there, or the fault at an octet
abbrev pub or_fault : {A : Type 0} → ℕ → Option A → Result A ℕ
or_fault place (Some x) = Ok x
or_fault place None = Err place

-- A fault that a function returned is the one that reading gives; of want of memory nothing is said.
abbrev pub Fails : {Y : Type 0} → CaptureFault → Result Y ℕ → Type 0
Fails Memory reading = Unit {0}
Fails (Block octet) reading = reading ≡ Err octet

-- What a function returned is what reading gives: the value, seen by view, or the fault, unless memory ran out.
abbrev pub Gives : {X Y : Type 0} → (X → Y) → Result X CaptureFault → Result Y ℕ → Type 0
Gives view (Ok x) reading = reading ≡ Ok (view x)
Gives view (Err fault) reading = Fails fault reading
