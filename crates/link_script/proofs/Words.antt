-- The words of a line, each behind a space.
use Rattle.std.proofs.Common.{◌≡◌, ℕ, List, [], ◌∷◌, ◌++◌, map, sym, ap, append_assoc}
use Rattle.std.proofs.lemmas.List.{append-nil}
use Rattle.link_script.specs.declared.writing.Word.{Word}
use Rattle.link_script.specs.Writing.{spaced, shown, behind}

pub spaced_is : (keyword : List ℕ) (words : List Word) → spaced (keyword ∷ map shown words) ≡ keyword ++ behind words
spaced_is keyword [] = sym (append-nil keyword)
spaced_is keyword (word ∷ words) = ap (λ (more : List ℕ). keyword ++ 32 ∷ more) (spaced_is (shown word) words)

-- a line that is put octets after octets
pub spaced_behind : (text keyword : List ℕ) (words : List Word) → ((text ++ keyword) ++ behind words) ++ 10 ∷ [] ≡ text ++ (spaced (keyword ∷ map shown words) ++ 10 ∷ [])
spaced_behind text keyword words = rw (spaced_is keyword words) (simp append_assoc)
