-- What came in plain TCP.
use Rattle.std.proofs.Common.{◌≡◌, refl, ap, ◌∙◌, sym, ℕ, ◌+◌, ◌-◌, ◌≤◌, ◌<◌, Bool, nat_lt, ◌&&◌, is_none, if◌then◌else◌, Option, Some, None, option_map, arith}
use Rattle.std.proofs.lemmas.Bool.{le-ltb, lt-ltb}
use Rattle.seen_streams.specs.declared.places.PlacedStretch.{PlacedStretch}
use Rattle.seen_streams.specs.Acks.{behind_positions, plain_from}
use Rattle.seen_streams.specs.Placing.{IsPlaced}
use Rattle.seen_streams.specs.State.{LaneValue, place_of}

-- a position of its own
pub unplaced : (place : ℕ → Option ℕ) (p to : ℕ) (stretch : PlacedStretch) → IsPlaced place p to stretch → is_none stretch.place ≡ is_none (place p)
unplaced place p to stretch h = sym (ap is_none (h.alike p (omega arith) h.some) ∙ none_of stretch.place (p - p))
  where
    none_of : (o : Option ℕ) (k : ℕ) → is_none (option_map (λ q. q + k) o) ≡ is_none o
    none_of None k = refl
    none_of (Some q) k = refl

module _ (lane : LaneValue) (missing behind : ℕ) (end : behind ≡ behind_positions lane) where
  -- nothing came there
  pub nothing_there : behind ≤ missing + 1 → 0 ≡ plain_from missing lane
  nothing_there h =
      sym (ap (λ (b : Bool). if b && is_none (place_of lane (missing + 1)) then behind_positions lane - 1 else 0)
      (ap (nat_lt (missing + 1)) (sym end) ∙ le-ltb (missing + 1) behind h))

  pub there : (none : Bool) → missing + 1 < behind → none ≡ is_none (place_of lane (missing + 1)) → (if none then behind - 1 else 0) ≡ plain_from missing lane
  there none h is =
      ap (λ (b : Bool). if b then behind - 1 else 0) is ∙ ap (λ (n : ℕ). if is_none (place_of lane (missing + 1)) then n - 1 else 0) end
      ∙ sym (ap (λ (b : Bool). if b && is_none (place_of lane (missing + 1)) then behind_positions lane - 1 else 0)
      (ap (nat_lt (missing + 1)) (sym end) ∙ lt-ltb (missing + 1) behind h))
