-- Of places in order the first one that has another octet than is told now.
use Rattle.std.specs.Prelude.{ℕ, ◌+◌, ◌==◌, if◌then◌else◌, Option, Some, None, List, [], ◌∷◌}
use Rattle.std.specs.Option.{option_or}
use Rattle.seen_octets.specs.declared.octet.Octet.{Octet}
use Rattle.seen_octets.specs.declared.octet.OtherOctet.{OtherOctet}

abbrev pub other_by : Option Octet → ℕ → ℕ → Option OtherOctet
other_by None place octet = None
other_by (Some was) place octet =
    if was.octet == octet then None else Some (record { place = place; was = was.octet; teller = was.teller; is = octet })

-- beside the octets of places from one on
abbrev pub first_other : (ℕ → Option Octet) → ℕ → List ℕ → Option OtherOctet
first_other known place [] = None
first_other known place (octet ∷ octets) = option_or (other_by (known place) place octet) (first_other known (place + 1) octets)
