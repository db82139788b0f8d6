-- A path stands by only for another one that lives and is no backup.
use Rattle.std.proofs.Common.{◌≡◌, refl, sym, ap, ◌∙◌, ⊎_elim, ℕ, Bool, true, false, true≢false, not, ◌&&◌, ◌==◌, List, [], ◌∷◌, eq-eqb}
use Rattle.std.specs.List.{list_any}
use Rattle.std.proofs.lemmas.Bool.{and_parts, not-true, or_cases}
use Rattle.std.specs.Prelude.{slice_index_or}
use Rattle.control_book.specs.Control.{Control}
use Rattle.control_book.specs.Registry.{every_path, lives, serves_beside, standby}
use Rattle.sides.specs.declared.side.Side.{Side}
use Rattle.path_core.specs.Codec.{Codec}
use Rattle.world_laws.specs.Laws.{Always}
use Rattle.world_laws.specs.RoundDone.{reached}
use Rattle.world_laws.specs.Worlds.{WorldState}
use Rattle.whole_paths.specs.LivingPaths.{LivingPathsLive}
use Rattle.whole_paths.specs.StandbyPaths.{IsServedBeside, StandbyIsForAnother, control_in}
use Rattle.whole_paths.proofs.LivingPaths.{living_paths_live}

-- one of the numbers passes the test
record IsFound (test : ℕ → Bool) : Type 0 where
  at : ℕ
  is : test at ≡ true

found_in : (test : ℕ → Bool) (numbers : List ℕ) → list_any test numbers ≡ true → IsFound test
found_in test [] is = absurd (true≢false (sym is))
found_in test (n ∷ numbers) is = ⊎_elim (λ here. record { at = n; is = here }) (λ behind. found_in test numbers behind) (or_cases (test n) (list_any test numbers) is)

-- another path lives by the book, and is no backup there
record Serves (c : Control) (number other : ℕ) : Type 0 where
  apart : (other == number) ≡ false
  lives_so : lives c.paths other ≡ true
  regular : slice_index_or c.addresses.backups other false ≡ false

serves : (c : Control) (number other : ℕ) → serves_beside c.paths c.addresses.backups number other ≡ true → Serves c number other
unfolding serves_beside
serves c number other is =
    let parts = and_parts (not (other == number) && lives c.paths other) (not (slice_index_or c.addresses.backups other false)) is in
    let more = and_parts (not (other == number)) (lives c.paths other) parts.0 in
    record { apart = not-true (other == number) more.0; lives_so = more.1; regular = not-true (slice_index_or c.addresses.backups other false) parts.1 }

same_number : (n : ℕ) → (n == n) ≡ true
same_number n = eq-eqb n n refl

module _ {C : Type 0} (w : WorldState C) (h : LivingPathsLive w) where
  served : (s : Side) (number : ℕ) → standby (control_in s w).paths (control_in s w).addresses.backups number ≡ true → IsServedBeside s number w
  served s number is = by (found_in (serves_beside c.paths c.addresses.backups number) every_path (and_parts (slice_index_or c.addresses.backups number false) _ is).1)
    where
      c : Control
      c = control_in s w

      by : IsFound (serves_beside c.paths c.addresses.backups number) → IsServedBeside s number w
      by found =
          let x = serves c number found.at found.is in
          let lived = h.each s found.at x.lives_so in
          record {
            other = found.at;
            apart = λ same. true≢false (sym (same_number number) ∙ ap (λ n. n == number) (sym same) ∙ x.apart);
            lives_so = x.lives_so;
            regular = x.regular;
            path = lived.0;
            here = lived.1;
            living = lived.2;
          }

  pub standby_served : StandbyIsForAnother w
  standby_served = record { each = served }

pub standby_is_for_another : {C : Type 0} (k : Codec C) → Always k (λ start w. StandbyIsForAnother w)
standby_is_for_another k start turns = standby_served (reached k start turns) (living_paths_live k start turns)
