-- Records that are sent and pushed, and octets that the edge passes, by their numbers.
use Rattle.path_core.proofs.Words.{◌≡◌, refl, subst, ℕ, zero, suc, ◌+◌, ◌-◌, ◌≤◌, ◌&&◌, nat_lt, Bool, true, false, if◌then◌else◌, Option, Some, None, List, []}
use Rattle.path_core.proofs.Words.{◌∷◌, ◌++◌, length, take, drop, arith, ◌^◌, cond, find, sum_by, ltb-true, length-take, KeptMapping, filled, Record, EndState}
use Rattle.path_core.proofs.Words.{Piece, some_piece, count_in, InfiniteMapping, outstanding, unsent_count, infinite_piece, piece_by, piece_in, is_whole}
use Rattle.path_core.proofs.Words.{is_right, piece_at}
use Rattle.std.proofs.lemmas.List.Sums.{sum_by-cons}
use Rattle.subflow_send.specs.Rules.{is_unsent, first_unsent_sent, acknowledged_in, octets_under_way}
use Rattle.path_store.specs.InfiniteMappings.{place_under}

pub sent_count : (now : ℕ) (rs : List Record) (r : Record) → find is_unsent rs ≡ Some r → unsent_count (first_unsent_sent now rs) + 1 ≡ unsent_count rs
sent_count now [] r e = cc
sent_count now (x ∷ xs) r e = by (is_unsent x) refl (sent_count now xs r) e
  where
    by : (b : Bool) → is_unsent x ≡ b → (find is_unsent xs ≡ Some r → unsent_count (first_unsent_sent now xs) + 1 ≡ unsent_count xs)
        → cond b (Some x) (find is_unsent xs) ≡ Some r
        → unsent_count (first_unsent_sent now (x ∷ xs)) + 1 ≡ unsent_count (x ∷ xs)
    by = elim [ true ↦ λ is rest e. rw is (omega arith) | false ↦ λ is rest e. rw is (omega (arith, rest e)) ]

pub sent_outstanding : (now una : ℕ) (rs : List Record) → outstanding una (first_unsent_sent now rs) ≡ outstanding una rs
sent_outstanding now una [] = refl
sent_outstanding now una (x ∷ xs) =
    (elim (is_unsent x) as (λ b. is_unsent x ≡ b → outstanding una (first_unsent_sent now xs) ≡ outstanding una xs → outstanding una (first_unsent_sent now (x ∷ xs)) ≡ outstanding una (x ∷ xs))
    [ true ↦ λ is rest. rw is refl | false ↦ λ is rest. rw is (omega (arith, rest)) ]) refl (sent_outstanding now una xs)

-- where nothing is to be sent, all is under way
pub none_unsent : (una : ℕ) (rs : List Record) → find is_unsent rs ≡ None → (unsent_count rs ≡ 0) × (sum_by (octets_under_way una) rs ≡ outstanding una rs)
none_unsent una [] e = (refl, refl)
none_unsent una (x ∷ xs) e = by (is_unsent x) refl (none_unsent una xs) e
  where
    by : (b : Bool) → is_unsent x ≡ b → (find is_unsent xs ≡ None → (unsent_count xs ≡ 0) × (sum_by (octets_under_way una) xs ≡ outstanding una xs))
        → cond b (Some x) (find is_unsent xs) ≡ None
        → (unsent_count (x ∷ xs) ≡ 0) × (sum_by (octets_under_way una) (x ∷ xs) ≡ outstanding una (x ∷ xs))
    by true is rest e = cc
    by false is rest e =
        let more = rest e in
        (rw is (omega (arith, more.0)), rw (sum_by-cons (octets_under_way una) x xs, is) (omega (arith, more.1)))

pub pushed_outstanding : (una : ℕ) (rs : List Record) (r : Record) → outstanding una (rs ++ r ∷ []) ≡ outstanding una rs + (length r.piece - acknowledged_in una r)
pushed_outstanding una [] r = omega arith
pushed_outstanding una (x ∷ xs) r = omega (arith, pushed_outstanding una xs r)

-- of a piece with octets one at least isn't acknowledged
pub some_open : (una pos len : ℕ) → 1 ≤ len → 1 ≤ len - (if nat_lt una (pos + len) then una - pos else 0)
some_open una pos len some = (elim (nat_lt una (pos + len)) as (λ b. nat_lt una (pos + len) ≡ b → 1 ≤ len - (if b then una - pos else 0))
    [ true ↦ λ is. omega (arith, some, ltb-true una (pos + len) is) | false ↦ λ is. omega (arith, some) ]) refl

pub pushed_count : (rs : List Record) (r : Record) → is_unsent r ≡ true → unsent_count (rs ++ r ∷ []) ≡ unsent_count rs + 1
pushed_count [] r is = rw is (omega arith)
pushed_count (x ∷ xs) r is = omega (arith, pushed_count xs r is)

-- ---- octets in order

pub filled_drop : (n : ℕ) (places : List (Option ℕ)) → n ≤ length (filled places) → length (filled (drop n places)) + n ≡ length (filled places)
filled_drop zero places within = omega arith
filled_drop (suc n) [] within = absurd (omega (arith, within))
filled_drop (suc n) (None ∷ places) within = absurd (omega (arith, within))
filled_drop (suc n) (Some byte ∷ places) within = omega (arith, filled_drop n places (omega (arith, within)))

-- what can be placed is some octets, all of them in order
pub record Fits (s : EndState) (piece : Piece) : Type 0 where
  pub some : 1 ≤ length piece.octets
  pub within : length piece.octets ≤ length (filled s.recv.places)

some_fits : (kept : KeptMapping) (s : EndState) (piece : Piece) → some_piece (piece_in kept s) ≡ Some piece → Fits s piece
some_fits kept s piece e = by (nat_lt 0 (length (piece_in kept s).octets)) refl e
  where
    by : (b : Bool) → nat_lt 0 (length (piece_in kept s).octets) ≡ b → (if b then Some (piece_in kept s) else None) ≡ Some piece → Fits s piece
    by true is e =
        let same : piece_in kept s ≡ piece = cc in
        subst (Fits s) same (record { some = omega (arith, ltb-true _ _ is); within = omega (arith, length-take (count_in s.recv.edge kept) (filled s.recv.places)) })
    by false is e = cc

checked_fits : (b c : Bool) (kept : KeptMapping) (s : EndState) (piece : Piece)
    → (if b then (if c then some_piece (piece_in kept s) else None) else some_piece (piece_in kept s)) ≡ Some piece → Fits s piece
checked_fits false c kept s piece e = some_fits kept s piece e
checked_fits true true kept s piece e = some_fits kept s piece e
checked_fits true false kept s piece e = cc

pub piece_fits : (checksums : Bool) (kept : Option KeptMapping) (s : EndState) (piece : Piece) → piece_by checksums kept s ≡ Some piece → Fits s piece
piece_fits checksums None s piece e = cc
piece_fits checksums (Some kept) s piece e = checked_fits checksums (is_whole kept s && is_right kept s) kept s piece e

-- under an infinite mapping some of what is in order is placed
pub placed_fits : (place : Option ℕ) (s : EndState) (piece : Piece) → piece_at place s ≡ Some piece → Fits s piece
placed_fits None s piece e = cc
placed_fits (Some place) s piece e = (elim (nat_lt 0 (length found.octets)) as (λ b. nat_lt 0 (length found.octets) ≡ b → (if b then Some found else None) ≡ Some piece → Fits s piece) [
  | true ↦ λ is e. let same : found ≡ piece = cc in subst (Fits s) same (record { some = omega (arith, ltb-true _ _ is); within = omega (arith, length-take (2 ^ 62 - place) (filled s.recv.places)) })
  | false ↦ λ is e. cc
]) refl e
  where
    found : Piece
    found = record { place = place; octets = take (2 ^ 62 - place) (filled s.recv.places) }

pub infinite_fits : (mapping : Option InfiniteMapping) (s : EndState) (piece : Piece) → infinite_piece mapping s ≡ Some piece → Fits s piece
infinite_fits None s piece e = cc
infinite_fits (Some mapping) s piece e = placed_fits (place_under mapping s.recv.edge) s piece e
