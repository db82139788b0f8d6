-- Lists of octets: parts of them, and lists put together of them.
use Rattle.std.proofs.Common.{ℕ, zero, suc, ◌<◌, List, [], ◌∷◌, ◌++◌, length, get_or, take, drop, inl, inr, arith}
use Rattle.std.specs.Int.{Width, byte_len, byte_at, bytes_high_first, to_be_bytes}
use Rattle.std.proofs.lemmas.Bool.{cases_lt}
use Rattle.std.proofs.lemmas.List.{get_or_past}
use Rattle.std.proofs.lemmas.List.Elements.{All-nil, All-cons, All-append, All-take, All-drop, All-get_or}
use Rattle.key_material.specs.Octets.{AreOctets}

abbrev IsOctet : ℕ → Type 0
IsOctet x = x < 256

-- what stands at a place is an octet; past the end it is 0
pub each_octet : (octets : List ℕ) → AreOctets octets → (place : ℕ) → get_or octets place 0 < 256
each_octet octets are place =
    elim (cases_lt place (length octets)) [
      | inl within ↦ All-get_or IsOctet octets place 0 within are
      | inr past ↦ omega (arith, get_or_past octets place 0 past)
    ]

pub AreOctets-none : AreOctets []
AreOctets-none = All-nil IsOctet

pub AreOctets-cons : (x : ℕ) (xs : List ℕ) → x < 256 → AreOctets xs → AreOctets (x ∷ xs)
AreOctets-cons x xs below are = All-cons IsOctet x xs below are

pub AreOctets-append : (xs ys : List ℕ) → AreOctets xs → AreOctets ys → AreOctets (xs ++ ys)
AreOctets-append xs ys first second = All-append IsOctet xs ys first second

pub AreOctets-take : (n : ℕ) (xs : List ℕ) → AreOctets xs → AreOctets (take n xs)
AreOctets-take n xs are = All-take IsOctet n xs are

pub AreOctets-drop : (n : ℕ) (xs : List ℕ) → AreOctets xs → AreOctets (drop n xs)
AreOctets-drop n xs are = All-drop IsOctet n xs are

byte_at-below : (k n : ℕ) → byte_at k n < 256
byte_at-below zero n = omega arith
byte_at-below (suc k) n = omega arith

bytes_high_first-octets : (k n : ℕ) → AreOctets (bytes_high_first k n)
bytes_high_first-octets zero n = AreOctets-none
bytes_high_first-octets (suc k) n =
    AreOctets-cons (byte_at k n) (bytes_high_first k n) (byte_at-below k n) (bytes_high_first-octets k n)

-- a number's octets, the highest first
pub AreOctets-to_be_bytes : (w : Width) (n : ℕ) → AreOctets (to_be_bytes w n)
AreOctets-to_be_bytes w n = bytes_high_first-octets (byte_len w) n
