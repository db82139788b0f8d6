-- The key that had a token first, as more keys become known.
use Rattle.std.proofs.Common.{◌≡◌, refl, sym, ◌∙◌, ap, ℕ, Bool, true, false, cond, is_some, ◌==◌, Option, Some, None, List, [], ◌∷◌, ◌++◌, find}
use Rattle.std.specs.Prelude.{if◌then◌else◌}
use Rattle.std.specs.Option.{option_or}
use Rattle.std.proofs.lemmas.Bool.{eqb-true}
use Rattle.std.proofs.lemmas.List.Folds.{find-append}
use Rattle.seen_connections.specs.declared.known_keys.KnownKey.{KnownKey}
use Rattle.seen_connections.specs.Keys.{has_token}

alone : (o : Option KnownKey) → o ≡ option_or o None
alone None = refl
alone (Some key) = refl

pub none-is : (o : Option KnownKey) → is_some o ≡ false → o ≡ None
none-is None e = refl
none-is (Some key) e = cc

-- a token that a key had before keeps it
pub stays : (was : ℕ → Option KnownKey) (key : KnownKey) → is_some (was key.token) ≡ true → (token : ℕ)
    → was token ≡ option_or (was token) (if has_token token key then Some key else None)
stays was key known token = by (key.token == token) refl
  where
    held : (o : Option KnownKey) → is_some o ≡ true → o ≡ option_or o (Some key)
    held None e = cc
    held (Some other) e = refl

    by : (b : Bool) → (key.token == token) ≡ b → was token ≡ option_or (was token) (if b then Some key else None)
    by true e = held (was token) (ap (λ n. is_some (was n)) (sym (eqb-true key.token token e)) ∙ known)
    by false e = alone (was token)

-- a token that no key had gets it
pub gets : (was now : ℕ → Option KnownKey) (key : KnownKey) → was key.token ≡ None
    → ((token : ℕ) → now token ≡ cond (key.token == token) (Some key) (was token)) → (token : ℕ)
    → now token ≡ option_or (was token) (if has_token token key then Some key else None)
gets was now key free is token = is token ∙ by (key.token == token) refl
  where
    by : (b : Bool) → (key.token == token) ≡ b → cond b (Some key) (was token) ≡ option_or (was token) (if b then Some key else None)
    by true e = ap (λ o. option_or o (Some key)) (sym (ap was (sym (eqb-true key.token token e)) ∙ free))
    by false e = alone (was token)

-- the first of all, with one key more
pub told-push : (now was : Option KnownKey) (token : ℕ) (known after : List KnownKey) (key : KnownKey)
    → now ≡ option_or was (if has_token token key then Some key else None) → was ≡ find (has_token token) known → after ≡ known ++ key ∷ []
    → now ≡ find (has_token token) after
told-push now was token known after key is told more =
    is ∙ ap (λ o. option_or o (if has_token token key then Some key else None)) told
    ∙ sym (find-append (has_token token) known (key ∷ [])) ∙ ap (find (has_token token)) (sym more)
