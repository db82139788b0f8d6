-- What a book shows after a call, from what it keeps.
use Rattle.std.proofs.Common.{◌≡◌, refl, ap, ℕ, ◌+◌, ◌-◌, ◌<◌, ◌≤◌, min, Bool, true, if◌then◌else◌, Option, List, [], ◌∷◌, ◌++◌, length, subst, arith}
use Rattle.std.specs.Prelude.{All}
use Rattle.std.proofs.lemmas.List.Elements.{All-head}
use Rattle.byte_pieces.specs.Places.{PlacedBytes, after_put, after_drop_front}
use Rattle.reassembly_book.specs.declared.call.ReassemblyCall.TheVariants.{Place}
use Rattle.reassembly_book.specs.State.{IsSound, filled}
use Rattle.reassembly_book.specs.Steps.{is_taken, after_reading}
use Rattle.reassembly_book.specs.Kept.{as_arriving}
use Rattle.reassembly_book.proofs.Bounds.{sound-after_call}

pub consumed : (n : ℕ) (kept : PlacedBytes) (capacity : ℕ) (known_end : Option ℕ) (aborted : Option Bool) → n ≤ length (filled kept.places)
    → as_arriving (after_drop_front (kept.from + n) kept) capacity known_end aborted ≡ after_reading n (as_arriving kept capacity known_end aborted)
consumed n kept capacity known_end aborted within =
    let least : min n (length (filled kept.places)) ≡ n = omega (arith, within) in
    let passed : kept.from + n - kept.from ≡ n = omega arith in
    rw (least, passed) refl

pub sound-put : (at : ℕ) (bytes : List ℕ) (kept : PlacedBytes) (capacity : ℕ) (known_end : Option ℕ) (aborted : Option Bool)
    → is_taken at bytes (as_arriving kept capacity known_end aborted) ≡ true → IsSound (as_arriving kept capacity known_end aborted)
    → IsSound (as_arriving (after_put at bytes kept) capacity known_end aborted)
sound-put at bytes kept capacity known_end aborted taken sound =
    subst
    (λ c. IsSound (if c then as_arriving (after_put at bytes kept) capacity known_end aborted else as_arriving kept capacity known_end aborted))
    taken
    (sound-after_call (Place at bytes) (as_arriving kept capacity known_end aborted) sound)

-- ---- the first of some parts
pub none-first : (first rest : List ℕ) → first ++ rest ≡ [] → first ≡ []
none-first [] rest e = refl
none-first (byte ∷ first) rest e = cc

pub some-first : (parts : List (List ℕ)) (first : List ℕ) (rest : List (List ℕ)) {bytes : List ℕ} → All (λ part. 0 < length part) parts → parts ≡ first ∷ rest
    → first ≡ [] → bytes ≡ []
some-first parts first rest some e none =
    let has : 0 < length first = All-head (λ part. 0 < length part) first rest (subst (All (λ (part : List ℕ). 0 < length part)) e some) in
    absurd (omega (arith, has, ap length none))
