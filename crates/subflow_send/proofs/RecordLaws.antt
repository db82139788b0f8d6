-- What acknowledgements and expiries promise of every list of records.
use Rattle.std.proofs.Common.{◌≡◌, ℕ, Bool, true, List, [], ◌∷◌, map, refl, ap, ⊎_elim}
use Rattle.std.proofs.lemmas.Bool.{cases_lt}
use Rattle.subflow_send.specs.Records.{Record, end_of}
use Rattle.subflow_send.specs.Rules.{is_unsent, unsent_again}
use Rattle.subflow_send.specs.Laws.{AcknowledgedRecordsAreAPrefix, ExpiryMarksAllButTheFirst}
use Rattle.subflow_send.proofs.PieceLoops.{le_true, le_false}

pub acknowledged_records_are_a_prefix_lem : AcknowledgedRecordsAreAPrefix
acknowledged_records_are_a_prefix_lem pos [] = ([], refl, tt)
acknowledged_records_are_a_prefix_lem pos (r ∷ rs) =
    ⊎_elim
    (λ h. rw (le_false (end_of r) pos h) ([], refl, tt))
    (λ h. rw (le_true (end_of r) pos h) (
    let rest = acknowledged_records_are_a_prefix_lem pos rs in
    (r ∷ rest.0, ap (λ (t : List Record). r ∷ t) rest.1, (h, rest.2))))
    (cases_lt pos (end_of r))

marks : (rs : List Record) → map is_unsent (map unsent_again rs) ≡ map (λ o. true) rs
marks [] = refl
marks (r ∷ rs) = ap (λ (t : List Bool). true ∷ t) (marks rs)

places : (rs : List Record) → map (λ (o : Record). o.pos) (map unsent_again rs) ≡ map (λ (o : Record). o.pos) rs
places [] = refl
places (r ∷ rs) = ap (λ (t : List ℕ). r.pos ∷ t) (places rs)

pub expiry_marks_all_but_the_first_lem : ExpiryMarksAllButTheFirst
expiry_marks_all_but_the_first_lem r rs = (ap (λ (t : List Bool). is_unsent r ∷ t) (marks rs), ap (λ (t : List ℕ). r.pos ∷ t) (places rs))
