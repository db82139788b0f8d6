-- What stands behind a type field, and behind a tag.
use Rattle.std.proofs.Common.{◌≡◌, refl, ap, ℕ, ◌<◌, ◌≤◌, Bool, true, false, ◌||◌, ◌==◌, None, List, [], ◌∷◌, length, drop, arith}
use Rattle.std.proofs.lemmas.Bool.{eqb-true}
use Rattle.std.specs.Int.{w16}
use Rattle.octet_text.specs.Octets.{number_at}
use Rattle.capture_reader.specs.Link.{is_tag, is_internet, behind_tags}

-- a tag is followed by the type of what stands behind it
pub tag_over : (kind next : ℕ) (xs others : List ℕ) → is_tag kind ≡ true → 4 ≤ length xs → next ≡ number_at w16 xs 2 → others ≡ drop 4 xs
    → behind_tags kind xs ≡ behind_tags next others
tag_over kind next (a ∷ b ∷ c ∷ d ∷ rest) others tag long is_next is_others = rw (tag, is_next, is_others) refl
tag_over kind next [] others tag long is_next is_others = absurd (omega arith)
tag_over kind next (a ∷ []) others tag long is_next is_others = absurd (omega arith)
tag_over kind next (a ∷ b ∷ []) others tag long is_next is_others = absurd (omega arith)
tag_over kind next (a ∷ b ∷ c ∷ []) others tag long is_next is_others = absurd (omega arith)

-- the type of a tag is that of no IP packet
no_internet : (kind : ℕ) → is_tag kind ≡ true → is_internet kind ≡ false
no_internet kind tag = by (kind == 0x8100) (kind == 0x88A8) (kind == 0x9100) refl refl refl tag
  where
    by : (p q r : Bool) → (kind == 0x8100) ≡ p → (kind == 0x88A8) ≡ q → (kind == 0x9100) ≡ r → (p || (q || r)) ≡ true → is_internet kind ≡ false
    by true q r e f g t = ap is_internet (eqb-true kind 0x8100 e)
    by false true r e f g t = ap is_internet (eqb-true kind 0x88A8 f)
    by false false true e f g t = ap is_internet (eqb-true kind 0x9100 g)
    by false false false e f g t = absurd cc

-- a tag that is cut off
pub tag_cut : (kind : ℕ) (xs : List ℕ) → is_tag kind ≡ true → length xs < 4 → behind_tags kind xs ≡ None
tag_cut kind [] tag short = rw (no_internet kind tag) refl
tag_cut kind (a ∷ []) tag short = rw (no_internet kind tag) refl
tag_cut kind (a ∷ b ∷ []) tag short = rw (no_internet kind tag) refl
tag_cut kind (a ∷ b ∷ c ∷ []) tag short = rw (no_internet kind tag) refl
tag_cut kind (a ∷ b ∷ c ∷ d ∷ rest) tag short = absurd (omega arith)
