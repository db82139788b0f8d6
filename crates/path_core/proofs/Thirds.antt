-- A third MP_JOIN is taken exactly where its HMAC is that of the handshake.
use Rattle.path_core.proofs.Words.{◌≡◌, refl, sym, ap, subst, ◌∙◌, ℕ, Bool, true, false, Option, Some, None, List, ◌==◌, Ok, ◌↔◌, eq-eqb, eqb-true, false≢true}
use Rattle.path_core.proofs.Words.{is_ok, JoinForm, Heard, join_heard, peer_key_of, is_hmac_right, is_third_right, join_value, third_in}
use Rattle.std.proofs.Common.{Result, Err}
use Rattle.std.proofs.lemmas.Option.{same_Some}
use Rattle.std.specs.Result.{IsOk}
use Rattle.std.specs.Cmp.Lexicographic.{pointwise, pointwise_decides}
use Rattle.key_material.specs.JoinHmac.{join_a160_of}
use Rattle.path_core.specs.declared.modes.Modes.{Modes}
use Rattle.path_agenda.specs.declared.heard.JoinStep.{JoinStep}
use Rattle.join_handshake.specs.Heard.{third_heard}

octets_decide : (a b : List ℕ) → (pointwise ◌==◌ a b ≡ true → a ≡ b) × (a ≡ b → pointwise ◌==◌ a b ≡ true)
octets_decide = pointwise_decides (λ a b. (eqb-true a b, eq-eqb a b))

abbrev hmac_of_a : Modes → List ℕ
hmac_of_a m = join_a160_of (peer_key_of m) m.own_key m.peer_nonce m.own_nonce

pub third_is_taken : (form : Option (List ℕ)) (m : Modes) (taken : Bool) → ((taken ≡ true) ↔ (form ≡ Some (hmac_of_a m))) → taken ≡ is_hmac_right form m
third_is_taken None m true right = absurd (cc (right.0 refl))
third_is_taken None m false right = refl
third_is_taken (Some hmac) m true right = sym ((octets_decide hmac (hmac_of_a m)).1 (same_Some hmac (hmac_of_a m) (right.0 refl)))
third_is_taken (Some hmac) m false right = (elim (pointwise ◌==◌ hmac (hmac_of_a m)) as (λ same. pointwise ◌==◌ hmac (hmac_of_a m) ≡ same → false ≡ pointwise ◌==◌ hmac (hmac_of_a m))
    [ true ↦ λ is. absurd (false≢true (right.1 (ap Some ((octets_decide hmac (hmac_of_a m)).0 is)))) | false ↦ λ is. sym is ]) refl

module _ {E : Type 0} (items : List Heard) (m : Modes) (form : JoinForm) (found : join_heard JoinStep.Third items ≡ Some form) where
  pub third_is_right : (heard : Result (Unit {0}) E) → (IsOk heard ↔ (third_heard (join_value (Some form)) ≡ Some (hmac_of_a m))) → is_ok heard ≡ is_third_right items m
  third_is_right (Ok x) right = third_is_taken (third_in items) m true (λ is. ap (λ o. third_heard (join_value o)) found ∙ right.0 refl, λ same. refl)
  third_is_right (Err e) right =
      third_is_taken (third_in items) m false (λ is. absurd (false≢true is), λ same. absurd (false≢true (right.1 (sym (ap (λ o. third_heard (join_value o)) found) ∙ same))))

  -- B's own step, with the key that it takes for A's
  pub step_is_right : (peer : ℕ) → peer ≡ peer_key_of m → (heard : Result (Unit {0}) E)
      → (IsOk heard ↔ (third_heard (join_value (Some form)) ≡ Some (join_a160_of peer m.own_key m.peer_nonce m.own_nonce))) → is_ok heard ≡ is_third_right items m
  step_is_right peer is heard right =
      third_is_right heard (subst (λ (k : ℕ). IsOk heard ↔ (third_heard (join_value (Some form)) ≡ Some (join_a160_of k m.own_key m.peer_nonce m.own_nonce))) is right)
