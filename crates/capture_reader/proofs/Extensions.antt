-- What stands behind an extension header, and where there is none.
use Rattle.std.proofs.Common.{◌≡◌, refl, ap, ℕ, zero, suc, ◌+◌, ◌*◌, ◌<◌, ◌≤◌, Bool, true, false, cond, ◌||◌, ◌==◌, Some, None, List, [], ◌∷◌, length, get_or, drop, arith}
use Rattle.std.proofs.lemmas.Bool.{eqb-true, lt-ltb, le-ltb}
use Rattle.capture_reader.specs.Internet.{is_extension, behind_extensions}

skip : (kind n : ℕ) (xs : List ℕ) → n ≤ length xs → behind_extensions kind n xs ≡ behind_extensions kind 0 (drop n xs)
skip kind zero xs within = refl
skip kind (suc n) [] within = absurd (omega arith)
skip kind (suc n) (x ∷ xs) within = skip kind n xs (omega arith)

past : (kind n : ℕ) (xs : List ℕ) → length xs < n → behind_extensions kind n xs ≡ None
past kind zero xs beyond = absurd (omega arith)
past kind (suc n) [] beyond = refl
past kind (suc n) (x ∷ xs) beyond = past kind n xs (omega arith)

-- an extension header isn't TCP
no_tcp : (kind : ℕ) → is_extension kind ≡ true → (kind == 6) ≡ false
no_tcp kind extension = by (kind == 0) (kind == 43) (kind == 60) refl refl refl extension
  where
    by : (p q r : Bool) → (kind == 0) ≡ p → (kind == 43) ≡ q → (kind == 60) ≡ r → (p || (q || r)) ≡ true → (kind == 6) ≡ false
    by true q r e f g t = ap (λ (k : ℕ). k == 6) (eqb-true kind 0 e)
    by false true r e f g t = ap (λ (k : ℕ). k == 6) (eqb-true kind 43 f)
    by false false true e f g t = ap (λ (k : ℕ). k == 6) (eqb-true kind 60 g)
    by false false false e f g t = absurd cc

-- no header of eight octets
pub short : (kind : ℕ) (xs : List ℕ) → is_extension kind ≡ true → length xs < 8 → behind_extensions kind 0 xs ≡ None
short kind [] extension few = rw (no_tcp kind extension) refl
short kind (a ∷ []) extension few = rw (no_tcp kind extension) refl
short kind (a ∷ b ∷ rest) extension few = rw (extension, lt-ltb (length rest) 6 (omega arith)) refl

-- a header that is cut off
pub cut : (kind len : ℕ) (xs : List ℕ) → is_extension kind ≡ true → 8 ≤ length xs → len ≡ 8 + 8 * get_or xs 1 0 → length xs < len → behind_extensions kind 0 xs ≡ None
cut kind len [] extension few is beyond = absurd (omega arith)
cut kind len (a ∷ []) extension few is beyond = absurd (omega arith)
cut kind len (a ∷ b ∷ rest) extension few is beyond =
    rw (extension, le-ltb (length rest) 6 (omega arith)) (past a (6 + 8 * b) rest (omega arith))

pub over : (kind next len : ℕ) (xs others : List ℕ) → is_extension kind ≡ true → 8 ≤ length xs → next ≡ get_or xs 0 0
    → len ≡ 8 + 8 * get_or xs 1 0 → len ≤ length xs → others ≡ drop len xs → behind_extensions kind 0 xs ≡ behind_extensions next 0 others
over kind next len [] others extension few is_next is_len within is_others = absurd (omega arith)
over kind next len (a ∷ []) others extension few is_next is_len within is_others = absurd (omega arith)
over kind next len (a ∷ b ∷ rest) others extension few is_next is_len within is_others =
    let count : len ≡ suc (suc (6 + 8 * b)) = omega arith in
    rw (extension, le-ltb (length rest) 6 (omega arith), is_next, is_others, count) (skip a (6 + 8 * b) rest (omega arith))

-- no extension header
pub ends : (kind : ℕ) (xs : List ℕ) → is_extension kind ≡ false → behind_extensions kind 0 xs ≡ cond (kind == 6) (Some xs) None
ends kind [] extension = refl
ends kind (a ∷ []) extension = refl
ends kind (a ∷ b ∷ rest) extension = rw extension refl
