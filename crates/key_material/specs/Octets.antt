-- Lists of octets.
use Rattle.std.specs.Prelude.{ℕ, ◌<◌, List, All}

-- each element is an octet
abbrev pub AreOctets : List ℕ → Type 0
AreOctets octets = All (λ x. x < 256) octets
