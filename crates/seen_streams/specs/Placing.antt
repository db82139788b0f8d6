-- Places of positions that follow one another.
use Rattle.std.specs.Prelude.{ℕ, ◌≡◌, ◌+◌, ◌-◌, ◌^◌, ◌<◌, ◌≤◌, Option, option_map, IfSome}
use Rattle.seen_streams.specs.declared.places.PlacedStretch.{PlacedStretch}

-- positions from one on, below another, as far as their places follow one another or none has one
pub record IsPlaced (place : ℕ → Option ℕ) (from to : ℕ) (stretch : PlacedStretch) : Type 0 where
  pub some : from < stretch.end
  pub within : stretch.end ≤ to
  pub few : IfSome stretch.place (λ q. q + (stretch.end - from) < 2 ^ 64)
  pub alike : (p : ℕ) → from ≤ p → p < stretch.end → place p ≡ option_map (λ q. q + (p - from)) stretch.place
