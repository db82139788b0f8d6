-- What the lines of a script have settled, as keys of a table.
use Rattle.std.specs.Prelude.{◌≡◌, ℕ, Bool, true, false, ◌&&◌, ◌==◌, IsTrue, List, [], ◌∷◌, Option, Some, None}
use Rattle.std.proofs.Common.{ap, ◌∙◌}
use Rattle.std.specs.Bool.{Decides}
use Rattle.std.specs.Cmp.{IsPartialEquivalence, IsEquivalence, partial_equiv_from_equiv, decided}
use Rattle.std.specs.Hash.{le_bytes}
use Rattle.std.proofs.lemmas.Bool.{and_parts}
use Rattle.std.proofs.lemmas.Bool.Decides.{Decides-eqb}
use Rattle.sides.specs.declared.side.Side.{Side}
use Rattle.sides.specs.declared.side.Side.TheVariants.{A, B}
use Rattle.link_script.specs.declared.line.Line.{Line}
use Rattle.link_script.specs.declared.place.Subject.{Subject}
use Rattle.link_script.specs.declared.place.Subject.TheVariants as settles
use Rattle.link_script.specs.declared.script.Direction.{Direction}
use Rattle.link_script.specs.declared.script.Segment.{Segment}
use Rattle.link_script.specs.declared.settled.Settled.{Settled}
use Rattle.link_script.specs.Places.{settled_by}

-- ---- one key

abbrev pub same_key : Settled → Settled → Bool
same_key j k = (j.kind == k.kind && j.path == k.path) && (j.side == k.side && j.number == k.number)

abbrev pub side_number : Side → ℕ
side_number A = 0
side_number B = 1

abbrev pub key_of_segment : ℕ → Segment → Settled
key_of_segment kind segment = record { kind = kind; path = segment.path; side = side_number segment.from; number = segment.number }

abbrev pub key_of_direction : ℕ → Direction → Settled
key_of_direction kind direction = record { kind = kind; path = direction.path; side = side_number direction.from; number = 0 }

abbrev pub key_alone : ℕ → Settled
key_alone kind = record { kind = kind; path = 0; side = 0; number = 0 }

-- a subject's key: its kind, and the path, the side and the number of the segment of which it is, where it is of one
abbrev pub key_of : Subject → Settled
key_of settles.Seed = key_alone 0
key_of settles.Checksum = key_alone 1
key_of settles.Short = key_alone 2
key_of settles.Buffer = key_alone 3
key_of (settles.Arrival segment) = key_of_segment 4 segment
key_of (settles.Options segment) = key_of_segment 5 segment
key_of (settles.Payload segment) = key_of_segment 6 segment
key_of (settles.AllOptions path from) = record { kind = 7; path = path; side = side_number from; number = 0 }
key_of (settles.Death path) = record { kind = 8; path = path; side = 0; number = 0 }
key_of (settles.FastClose side) = record { kind = 9; path = 0; side = side_number side; number = 0 }
key_of (settles.Rate direction) = key_of_direction 10 direction
key_of (settles.Loss direction) = key_of_direction 11 direction
key_of (settles.Jitter direction) = key_of_direction 12 direction

-- this subject, where there is one, has this key
abbrev pub has_key : Option Subject → Settled → Bool
has_key (Some subject) key = same_key (key_of subject) key
has_key None key = false

-- a line settles what has this key
abbrev pub settles_key : Settled → Line → Bool
settles_key key line = has_key (settled_by line) key

-- ---- equality, as a table needs it

of_parts : (j k : Settled) → j.kind ≡ k.kind → j.path ≡ k.path → j.side ≡ k.side → j.number ≡ k.number → j ≡ k
of_parts j k e f g h =
    ap (λ (x : ℕ). let made : Settled = record { kind = x; path = j.path; side = j.side; number = j.number } in made) e
    ∙ ap (λ (x : ℕ). let made : Settled = record { kind = k.kind; path = x; side = j.side; number = j.number } in made) f
    ∙ ap (λ (x : ℕ). let made : Settled = record { kind = k.kind; path = k.path; side = x; number = j.number } in made) g
    ∙ ap (λ (x : ℕ). let made : Settled = record { kind = k.kind; path = k.path; side = k.side; number = x } in made) h

both_hold : (p q : Bool) → p ≡ true → q ≡ true → (p && q) ≡ true
both_hold p q e f = ap (λ (b : Bool). b && q) e ∙ f

pub same_key_decides : (j k : Settled) → Decides (same_key j k) (j ≡ k)
same_key_decides j k = (
  λ e. let parts = and_parts (j.kind == k.kind && j.path == k.path) (j.side == k.side && j.number == k.number) e in
      let first = and_parts (j.kind == k.kind) (j.path == k.path) parts.0 in
      let last = and_parts (j.side == k.side) (j.number == k.number) parts.1 in
      of_parts j k ((Decides-eqb j.kind k.kind).0 first.0) ((Decides-eqb j.path k.path).0 first.1)
      ((Decides-eqb j.side k.side).0 last.0) ((Decides-eqb j.number k.number).0 last.1),
  λ e. both_hold (j.kind == k.kind && j.path == k.path) (j.side == k.side && j.number == k.number)
      (both_hold (j.kind == k.kind) (j.path == k.path)
      ((Decides-eqb j.kind k.kind).1 (ap (λ (x : Settled). x.kind) e)) ((Decides-eqb j.path k.path).1 (ap (λ (x : Settled). x.path) e)))
      (both_hold (j.side == k.side) (j.number == k.number)
      ((Decides-eqb j.side k.side).1 (ap (λ (x : Settled). x.side) e)) ((Decides-eqb j.number k.number).1 (ap (λ (x : Settled). x.number) e))),
)

pub same_key-equal : IsEquivalence same_key
same_key-equal = decided same_key same_key_decides

pub same_key-partial : IsPartialEquivalence same_key
same_key-partial = partial_equiv_from_equiv same_key-equal

-- what a hash is fed of a key
abbrev pub key_fed : Settled → List (List ℕ)
key_fed key = (key.kind ∷ []) ∷ (key.path ∷ []) ∷ (key.side ∷ []) ∷ le_bytes 4 key.number ∷ []

pub same_key-fed : (j k : Settled) → IsTrue (same_key j k) → key_fed j ≡ key_fed k
same_key-fed j k e = ap key_fed ((same_key_decides j k).0 e)
