-- Mappings that are one.
use Rattle.std.specs.Prelude.{ℕ, Bool, true, false, ◌&&◌, ◌==◌, Option, Some, None}
use Rattle.std.specs.Bool.{beq}
use Rattle.std.specs.Ordering.{int_eq}
use Rattle.seen_streams.specs.declared.told.ToldMapping.{ToldMapping}

abbrev pub same_sum : Option ℕ → Option ℕ → Bool
same_sum (Some one) (Some other) = one == other
same_sum None None = true
same_sum _ _ = false

abbrev pub same_mapping : ToldMapping → ToldMapping → Bool
same_mapping one other =
    one.place == other.place
    && (int_eq one.position other.position && (one.length == other.length && (same_sum one.checksum other.checksum && beq one.fin other.fin)))
