-- What acknowledgements and expiries promise of every list of records.
use Rattle.std.specs.Prelude.{ℕ, ◌≡◌, ◌≤◌, true, List, [], ◌∷◌, ◌++◌, map}
use Rattle.subflow_send.specs.Records.{Record, end_of}
use Rattle.subflow_send.specs.Rules.{uncovered, expired_records, is_unsent}

-- each of these records is covered whole
abbrev pub AllCovered : ℕ → List Record → Type 0
AllCovered pos [] = Unit {0}
AllCovered pos (r ∷ rs) = (end_of r ≤ pos) × AllCovered pos rs

-- what an acknowledgement lets go is a prefix of the records, and each of them is covered whole
abbrev pub AcknowledgedRecordsAreAPrefix : Type 0
AcknowledgedRecordsAreAPrefix = (pos : ℕ) (records : List Record)
    → (gone : List Record) × (records ≡ gone ++ uncovered pos records) × AllCovered pos gone

-- an expiry marks every record but the first unsent, and leaves that mark of the first
abbrev pub ExpiryMarksAllButTheFirst : Type 0
ExpiryMarksAllButTheFirst = (r : Record) (rs : List Record)
    → (map is_unsent (expired_records (r ∷ rs)) ≡ is_unsent r ∷ map (λ o. true) rs)
    × (map (λ o. o.pos) (expired_records (r ∷ rs)) ≡ r.pos ∷ map (λ o. o.pos) rs)
