-- Positions that are marked, as far as all are or none is.
use Rattle.std.proofs.Common.{◌≡◌, refl, ap, ◌∙◌, sym, subst, ℕ, suc, ◌+◌, ◌<◌, min, Bool, true, false, ◌||◌, List, [], ◌∷◌, ◌++◌, length, take, take-suc, get_or, arith}
use Rattle.std.specs.List.{list_any}
use Rattle.seen_octets.specs.declared.places.Stretch.{Stretch}
use Rattle.seen_octets.specs.Places.{IsStretch}
use Rattle.seen_streams.specs.declared.told.ToldMapping.{ToldMapping}
use Rattle.seen_streams.specs.Content.{maps}

pub either_of : (one_marked other_marked : ℕ → Bool) (from to : ℕ) (one other both : Stretch) → IsStretch one_marked from to one
    → IsStretch other_marked from to other → both.end ≡ min one.end other.end → both.marked ≡ (one.marked || other.marked)
    → IsStretch (λ p. one_marked p || other_marked p) from to both
either_of one_marked other_marked from to one other both a b end marked = record {
  some = omega (arith, a.some, b.some, end);
  within = omega (arith, a.within, end);
  alike = λ p lo hi.
      ap (λ x. x || other_marked p) (a.alike p lo (omega (arith, hi, end)))
      ∙ ap (λ x. one.marked || x) (b.alike p lo (omega (arith, hi, end))) ∙ sym marked;
}

abbrev pub maps_by : ToldMapping → ℕ → Bool
maps_by mapping p = maps p mapping

or_false : (b : Bool) → (b || false) ≡ b
or_false true = refl
or_false false = refl

or_assoc : (a b c : Bool) → ((a || b) || c) ≡ (a || (b || c))
or_assoc true b c = refl
or_assoc false b c = refl

any_push : (p : ℕ) (mappings : List ToldMapping) (mapping : ToldMapping)
    → list_any (maps p) (mappings ++ mapping ∷ []) ≡ (list_any (maps p) mappings || maps p mapping)
any_push p [] mapping = or_false (maps p mapping)
any_push p (one ∷ mappings) mapping =
    ap (λ b. maps p one || b) (any_push p mappings mapping)
    ∙ sym (or_assoc (maps p one) (list_any (maps p) mappings) (maps p mapping))

-- two stretches, of the first mappings and of the next one, as one
pub one_more : (from to i : ℕ) (mappings : List ToldMapping) (mapping default : ToldMapping) (one other both : Stretch)
    → i < length mappings → mapping ≡ get_or mappings i default → IsStretch (λ p. list_any (maps p) (take i mappings)) from to one
    → IsStretch (maps_by mapping) from to other
    → ((a b : ℕ → Bool) (begin end : ℕ) → IsStretch a begin end one → IsStretch b begin end other → IsStretch (λ p. a p || b p) begin end both)
    → IsStretch (λ p. list_any (maps p) (take (i + 1) mappings)) from to both
one_more from to i mappings mapping default one other both within here a b join =
    let is = join (λ p. list_any (maps p) (take i mappings)) (maps_by mapping) from to a b in
    let next : suc i ≡ i + 1 = omega arith in
    let all : take i mappings ++ mapping ∷ [] ≡ take (i + 1) mappings =
    ap (λ (m : ToldMapping). take i mappings ++ m ∷ []) here ∙ sym (take-suc mappings i default within) ∙ ap (λ (n : ℕ). take n mappings) next in
    subst (λ (ms : List ToldMapping). IsStretch (λ p. list_any (maps p) ms) from to both) all (record {
      some = is.some;
      within = is.within;
      alike = λ p lo hi. any_push p (take i mappings) mapping ∙ is.alike p lo hi;
    })
