-- Octets of positions that are held, or aren't.
use Rattle.std.specs.Prelude.{ℕ, ◌≡◌, ◌+◌, ◌-◌, ◌<◌, ◌≤◌, Option, List, length}
use Rattle.std.specs.List.{slice_get}

-- positions from one on, below another, whose octets are these, as far as there are any
pub record IsHeldPart (octet : ℕ → Option ℕ) (from to end : ℕ) (octets : List ℕ) : Type 0 where
  pub some : from < end
  pub within : end ≤ to
  pub few : length octets ≤ end - from
  pub held : (i : ℕ) → i < end - from → octet (from + i) ≡ slice_get octets i
