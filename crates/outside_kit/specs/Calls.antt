-- The calls that are made on an outside.
use Rattle.std.specs.Prelude.{◌≡◌, ℕ, Bool, List, [], ◌∷◌, ◌++◌, string_bytes, Option, IfSome, IsSomeAnd}
use Rattle.outside_kit.specs.declared.port.Port.{Port}
use Rattle.outside_kit.specs.declared.calls.OutsideCall.{OutsideCall}
use Rattle.outside_kit.specs.declared.calls.OutsideCall.TheVariants as kept
use Rattle.outside_kit.specs.declared.calls.RecordedCall.{RecordedCall}

-- a call, with the octets of its name or piece
pub data Call : Type 0 where
  Load : (name : List ℕ) → Call
  Bind : (port : Port) → (name : List ℕ) → Call
  Put : (port : Port) → (piece : List ℕ) → Call

-- a call that was made, and whether it succeeded
pub record Made : Type 0 where
  pub call : Call
  pub ok : Bool

-- where an outside tells the calls that were made on it, it told them before this one, and this one is now the last
abbrev pub AreCallsAfter : Call → Bool → Option (List Made) → Option (List Made) → Type 0
AreCallsAfter call ok old new =
    IfSome new (λ after. IsSomeAnd old (λ before. after ≡ before ++ record { call = call; ok = ok } ∷ []))

-- a call that the code keeps, by its octets
abbrev pub call_of : OutsideCall → Call
call_of (kept.Load name) = Load (string_bytes name)
call_of (kept.Bind port name) = Bind port (string_bytes name)
call_of (kept.Put port piece) = Put port piece.items

-- a recorded call by its octets, and whether it succeeded
abbrev pub made_of : RecordedCall → Made
made_of kept = record { call = call_of kept.call; ok = kept.ok }
