-- A link on which nothing happens.
use Rattle.clean_finish.proofs.Words.{◌≡◌, refl, sym, subst, ap, ◌∙◌, ℕ, Bool, true, false, if◌then◌else◌, Option, List, [], ◌∷◌, length, filter, arith, Some, suc}
use Rattle.clean_finish.proofs.Words.{find, position, Side, A, B, same_side, ScriptLine, Flight, going_to, without, is_due, due_of, with_flight, comes_before}
use Rattle.clean_finish.proofs.Words.{after_send, with_flights, arrivals, first_arrival, next_number, LinkState, HeadArrives}
use Rattle.sides.specs.Side.{peer}
use Rattle.link_model.specs.declared.fate.Fate.{Fate}
use Rattle.link_model.specs.Steps.{fate_at}
use Rattle.link_model.proofs.Plain.{plain_fate, plain_arrival}
use Rattle.std.proofs.Common.{eq-eqb, lt-ltb}
use Rattle.clean_finish.specs.Machine.{copy_of}

find_head : {X : Type 0} (p : X → Bool) (x : X) (xs : List X) → p x ≡ true → find p (x ∷ xs) ≡ Some x
find_head p x xs e = rw e refl

position_head : {X : Type 0} (p : X → Bool) (x : X) (xs : List X) → p x ≡ true → position p (x ∷ xs) ≡ Some 0
position_head p x xs e = rw e (rw (lt-ltb 0 (suc (length xs)) (omega arith)) refl)

side_itself : (s : Side) → same_side s s ≡ true
side_itself A = refl
side_itself B = refl

module _ {C : Type 0} where
  due_itself : (f : Flight C) → is_due (due_of f) f ≡ true
  due_itself f = rw (eq-eqb f.tick f.tick refl, side_itself f.to, eq-eqb f.number f.number refl) refl

  pub head_arrives : (f : Flight C) (rest : List (Flight C)) (link : LinkState C)
      → HeadArrives f rest (record link { under_way = f ∷ rest })
  head_arrives f rest link = record {
    found = find_head (is_due (due_of f)) f rest (due_itself f);
    gone = ap (λ (place : Option ℕ). record link { under_way = without place (f ∷ rest) })
        (position_head (is_due (due_of f)) f rest (due_itself f));
  }

  -- a sending leaves the other direction
  pub going_with : (s : Side) (f : Flight C) (fs : List (Flight C)) → same_side f.to s ≡ false
      → going_to s (with_flight f fs) ≡ going_to s fs
  going_with s f [] other = rw other refl
  going_with s f (g ∷ fs) other = by (comes_before f g) (same_side g.to s) (going_with s f fs other)
    where
      by : (first to : Bool) → going_to s (with_flight f fs) ≡ going_to s fs
          → filter (λ h. same_side h.to s) (if first then f ∷ g ∷ fs else g ∷ with_flight f fs) ≡ filter
          (λ h. same_side h.to s) (g ∷ fs)
      by true to rest = rw other refl
      by false to rest = ap (λ (hs : List (Flight C)). if same_side g.to s then g ∷ hs else hs) rest

  -- a sending where no line says anything
  pub sends_plainly : (strip alter : Side → C → C) (from : Side) (carried : C) (size now : ℕ) (link : LinkState C) → link.lines ≡ []
      → (after_send strip alter from carried size now link).under_way ≡ with_flight (copy_of from carried now link) link.under_way
  sends_plainly strip alter from carried size now link none =
      subst (λ (ls : List ScriptLine). (after_send strip alter from carried size now (record link { lines = ls })).under_way ≡ with_flight (copy_of from carried now link) link.under_way)
      (sym none) (plain from)
    where
      silent : LinkState C
      silent = record link { lines = [] }

      one_copy : (s : Side) → with_flights (peer s) (next_number s link) carried (arrivals (fate_at s (next_number s link) size now silent) (first_arrival s (next_number s link) size now silent)) link.under_way
          ≡ with_flight (copy_of s carried now link) link.under_way
      one_copy s =
          let number = next_number s link in
          ap (λ (f : Fate). with_flights (peer s) number carried (arrivals f (first_arrival s number size now silent)) link.under_way) (plain_fate s number size now silent tt)
          ∙ ap (λ (tick : ℕ). with_flight (record { tick = tick; to = peer s; number = number; carried = carried }) link.under_way) (plain_arrival s number size now silent tt)

      plain : (s : Side) → (after_send strip alter s carried size now silent).under_way ≡ with_flight (copy_of s carried now link) link.under_way
      plain A = one_copy A
      plain B = one_copy B
