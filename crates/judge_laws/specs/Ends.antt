-- Where a stream ends.
use Rattle.std.specs.Prelude.{ℕ, ◌≡◌, ◌<◌, ◌≤◌, true, Some}
use Rattle.seen_octets.specs.declared.octet.Octet.{Octet}
use Rattle.seen_streams.specs.State.{StreamValue}

-- No mapping reaches beyond the place, no octet was seen at or behind it, and none is known there.
pub record EndsAt (stream : StreamValue) (end : ℕ) : Type 0 where
  pub mapped : stream.top ≤ end
  pub seen : (place : ℕ) → stream.seen place ≡ true → place < end
  pub octets : (place : ℕ) (octet : Octet) → stream.octet place ≡ Some octet → place < end
