-- Where no record is to be sent, sending the first of them changes nothing.
--
-- Where a callee has a condition that a definition hasn't (`sent` wants a record to send), test it in code and show by
-- a lemma that the definition changes nothing else (`proofs/Unsent`).
use Rattle.std.proofs.Common.{◌≡◌, ℕ, Bool, true, false, if◌then◌else◌, Option, Some, None, List, [], ◌∷◌, find, refl, sym, ap}
use Rattle.std.specs.Prelude.{is_some}
use Rattle.std.specs.Option.{option_map}
use Rattle.subflow_send.specs.declared.record.RecordRef.{RecordRef}
use Rattle.subflow_send.specs.Records.{Record, record_of}
use Rattle.subflow_send.specs.Rules.{is_unsent, first_unsent_sent}
use Rattle.subflow_tcp.specs.declared.segments.Occasion.TheVariants.{Unsent}
use Rattle.subflow_tcp.specs.State.{EndState}
use Rattle.subflow_tcp.specs.Emitting.{after_sending}

passed : (b : Bool) (r : Record) (others : Option Record) (sent rest rs : List Record) → (if b then Some r else others) ≡ None → (others ≡ None → rest ≡ rs)
    → (if b then sent else r ∷ rest) ≡ r ∷ rs
passed true r others sent rest rs e f = cc
passed false r others sent rest rs e f = ap (λ (t : List Record). r ∷ t) (f e)

nothing_sent : (now : ℕ) (rs : List Record) → find is_unsent rs ≡ None → first_unsent_sent now rs ≡ rs
nothing_sent now [] e = refl
nothing_sent now (r ∷ rs) e = passed (is_unsent r) r (find is_unsent rs) _ (first_unsent_sent now rs) rs e (nothing_sent now rs)

pub unsent_none : (now : ℕ) (s : EndState) → find is_unsent s.send.records ≡ None → s ≡ after_sending Unsent now s
unsent_none now s e = ap (λ (rs : List Record). record s { send = record s.send { records = rs } }) (sym (nothing_sent now s.send.records e))

pub none_found : (o : Option RecordRef) (f : Option Record) → option_map record_of o ≡ f → is_some o ≡ false → f ≡ None
none_found None f e n = sym e
none_found (Some r) f e n = cc
