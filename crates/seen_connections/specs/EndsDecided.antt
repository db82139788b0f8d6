-- Ends that are the same are equal, so that a table may have them as its keys.
use Rattle.std.specs.Prelude.{◌≡◌, ℕ, Bool, true, ◌&&◌, ◌==◌, IsTrue, List, [], ◌∷◌}
use Rattle.std.proofs.Common.{ap, ◌∙◌}
use Rattle.std.specs.Bool.{Decides}
use Rattle.std.specs.Cmp.{IsPartialEquivalence, IsEquivalence, partial_equiv_from_equiv, decided}
use Rattle.std.specs.Cmp.Lexicographic.{pointwise_decides}
use Rattle.std.specs.Hash.{le_bytes}
use Rattle.std.proofs.lemmas.Bool.{and_parts}
use Rattle.std.proofs.lemmas.Bool.Decides.{Decides-eqb}
use Rattle.key_material.specs.Address.{octets_of}
use Rattle.key_material.specs.declared.address.Address.{Address}
use Rattle.key_material.specs.declared.address.Address.TheVariants.{V4, V6}
use Rattle.capture_reader.specs.declared.seen.End.{End}
use Rattle.seen_connections.specs.declared.ends.Ends.{Ends}
use Rattle.seen_connections.specs.SameEnds.{same_address, same_end, same_ends}

pub same_address_decides : (a b : Address) → Decides (same_address a b) (a ≡ b)
same_address_decides (V4 x) (V4 y) =
    (λ e. ap V4 ((pointwise_decides Decides-eqb x y).0 e), λ e. let same : x ≡ y = cc in (pointwise_decides Decides-eqb x y).1 same)
same_address_decides (V6 x) (V6 y) =
    (λ e. ap V6 ((pointwise_decides Decides-eqb x y).0 e), λ e. let same : x ≡ y = cc in (pointwise_decides Decides-eqb x y).1 same)
same_address_decides (V4 x) (V6 y) = (λ e. cc, λ e. cc)
same_address_decides (V6 x) (V4 y) = (λ e. cc, λ e. cc)

both_hold : (p q : Bool) → p ≡ true → q ≡ true → (p && q) ≡ true
both_hold p q e f = ap (λ (b : Bool). b && q) e ∙ f

end_of_parts : (a b : End) → a.address ≡ b.address → a.port ≡ b.port → a ≡ b
end_of_parts a b e f =
    ap (λ (x : Address). let made : End = record { address = x; port = a.port } in made) e
    ∙ ap (λ (p : ℕ). let made : End = record { address = b.address; port = p } in made) f

pub same_end_decides : (a b : End) → Decides (same_end a b) (a ≡ b)
same_end_decides a b = (
  λ e. let parts = and_parts (same_address a.address b.address) (a.port == b.port) e in
      end_of_parts a b ((same_address_decides a.address b.address).0 parts.0) ((Decides-eqb a.port b.port).0 parts.1),
  λ e. both_hold (same_address a.address b.address) (a.port == b.port)
      ((same_address_decides a.address b.address).1 (ap (λ (x : End). x.address) e)) ((Decides-eqb a.port b.port).1 (ap (λ (x : End). x.port) e)),
)

ends_of_parts : (a b : Ends) → a.from ≡ b.from → a.to ≡ b.to → a ≡ b
ends_of_parts a b e f =
    ap (λ (x : End). let made : Ends = record { from = x; to = a.to } in made) e
    ∙ ap (λ (x : End). let made : Ends = record { from = b.from; to = x } in made) f

pub same_ends_decides : (a b : Ends) → Decides (same_ends a b) (a ≡ b)
same_ends_decides a b = (
  λ e. let parts = and_parts (same_end a.from b.from) (same_end a.to b.to) e in
      ends_of_parts a b ((same_end_decides a.from b.from).0 parts.0) ((same_end_decides a.to b.to).0 parts.1),
  λ e. both_hold (same_end a.from b.from) (same_end a.to b.to)
      ((same_end_decides a.from b.from).1 (ap (λ (x : Ends). x.from) e)) ((same_end_decides a.to b.to).1 (ap (λ (x : Ends). x.to) e)),
)

pub same_ends-equal : IsEquivalence same_ends
same_ends-equal = decided same_ends same_ends_decides

pub same_ends-partial : IsPartialEquivalence same_ends
same_ends-partial = partial_equiv_from_equiv same_ends-equal

-- what a hash is fed of the ends
abbrev pub ends_fed : Ends → List (List ℕ)
ends_fed ends =
    octets_of ends.from.address ∷ le_bytes 2 ends.from.port ∷ octets_of ends.to.address ∷ le_bytes 2 ends.to.port ∷ []

pub same_ends-fed : (a b : Ends) → IsTrue (same_ends a b) → ends_fed a ≡ ends_fed b
same_ends-fed a b e = ap ends_fed ((same_ends_decides a b).0 e)
