-- The sum over pseudo-header and segment, whole or in parts.
use Rattle.std.proofs.Common.{◌≡◌, ℕ, ◌+◌, ◌%◌, ◌≤◌, List, [], ◌∷◌, ◌++◌, length, get_or, refl, sym, ap, ◌∙◌, arith, append_assoc, length-append}
use Rattle.std.specs.Int.{w16, w32, to_be_bytes}
use Rattle.ones_sum.specs.Words.{word_sum, folded}
use Rattle.ones_sum.proofs.Sums.{word_sum-append}
use Rattle.segment_wire.specs.declared.head.Addresses.{Addresses}
use Rattle.segment_wire.specs.Checksum.{pseudo_header, covered_sum}
use Rattle.segment_wire.specs.Between.{covered_sum_between, SumsOfIpv4AreAlike}

-- an array of four octets, octet by octet
pub four_octets : (xs : List ℕ) → length xs ≡ 4 → xs ≡ get_or xs 0 0 ∷ get_or xs 1 0 ∷ get_or xs 2 0 ∷ get_or xs 3 0 ∷ []
four_octets (a ∷ b ∷ c ∷ d ∷ []) four = refl
four_octets [] four = absurd (omega arith)
four_octets (a ∷ []) four = absurd (omega arith)
four_octets (a ∷ b ∷ []) four = absurd (omega arith)
four_octets (a ∷ b ∷ c ∷ []) four = absurd (omega arith)
four_octets (a ∷ b ∷ c ∷ d ∷ e ∷ rest) four = absurd (omega arith)

-- two such arrays, and what follows them
pub eight_octets : (xs ys rest : List ℕ) → length xs ≡ 4 → length ys ≡ 4
    → get_or xs 0 0 ∷ get_or xs 1 0 ∷ get_or xs 2 0 ∷ get_or xs 3 0 ∷ get_or ys 0 0 ∷ get_or ys 1 0 ∷ get_or ys 2 0 ∷ get_or ys 3 0 ∷ rest ≡ xs ++ (ys ++ rest)
eight_octets xs ys rest four_xs four_ys =
    sym (ap (λ (zs : List ℕ). zs ++ (ys ++ rest)) (four_octets xs four_xs) ∙ ap (λ (zs : List ℕ). get_or xs 0 0 ∷ get_or xs 1 0 ∷ get_or xs 2 0 ∷ get_or xs 3 0 ∷ (zs ++ rest)) (four_octets ys four_ys))

-- a segment in three parts behind the pseudo-header
pub in_parts : (pseudo header options payload : List ℕ)
    → ((pseudo ++ header) ++ options) ++ payload ≡ pseudo ++ (header ++ (options ++ payload))
in_parts pseudo header options payload =
    append_assoc (pseudo ++ header) options payload ∙ append_assoc pseudo header (options ++ payload)

-- the fold of the sum over all of it
pub covered_in_parts : (addresses : Addresses) (n : ℕ) (pseudo header options payload : List ℕ) (total : ℕ)
    → pseudo ≡ pseudo_header addresses n → n ≡ length header + length options + length payload
    → total ≡ word_sum (((pseudo ++ header) ++ options) ++ payload)
    → folded total ≡ covered_sum addresses (header ++ (options ++ payload))
unfolding covered_sum
covered_in_parts addresses n pseudo header options payload total is counted sums =
    let segment : List ℕ = header ++ (options ++ payload) in
    let whole : n ≡ length segment = omega (arith, length-append header (options ++ payload), length-append options payload, counted) in
    ap folded (sums ∙ ap word_sum (in_parts pseudo header options payload))
    ∙ ap (λ (before : List ℕ). folded (word_sum (before ++ segment))) (is ∙ ap (pseudo_header addresses) whole)

-- ---- between addresses of either version

-- two addresses and what stands behind them
pub behind_addresses : (source destination rest : List ℕ) → length source % 2 ≡ 0 → length destination % 2 ≡ 0
    → word_sum (source ++ (destination ++ rest)) ≡ word_sum source + (word_sum destination + word_sum rest)
behind_addresses source destination rest even_source even_destination =
    omega (arith, word_sum-append source (destination ++ rest) even_source, word_sum-append destination rest even_destination)

pub even_behind : (source destination rest : List ℕ) → length source % 2 ≡ 0 → length destination % 2 ≡ 0 → length rest % 2 ≡ 0
    → length (source ++ (destination ++ rest)) % 2 ≡ 0
even_behind source destination rest even_source even_destination even_rest =
    omega (arith, length-append source (destination ++ rest), length-append destination rest)

-- a length below 2^16 in four octets and three zeros before the protocol, or a zero, the protocol and the length in two octets
lengths_alike : (n : ℕ) → n ≤ 65535 → word_sum (to_be_bytes w32 n ++ (0 ∷ 0 ∷ 0 ∷ 6 ∷ [])) ≡ word_sum (0 ∷ 6 ∷ to_be_bytes w16 n)
lengths_alike n low = omega arith

pub sums_of_ipv4_are_alike : SumsOfIpv4AreAlike
unfolding covered_sum covered_sum_between
sums_of_ipv4_are_alike addresses segment four_source four_destination short =
    let s : List ℕ = addresses.source in
    let d : List ℕ = addresses.destination in
    let long : List ℕ = to_be_bytes w32 (length segment) ++ (0 ∷ 0 ∷ 0 ∷ 6 ∷ []) in
    let brief : List ℕ = 0 ∷ 6 ∷ to_be_bytes w16 (length segment) in
    let even_s : length s % 2 ≡ 0 = omega arith in
    let even_d : length d % 2 ≡ 0 = omega arith in
    let alike : word_sum long ≡ word_sum brief = lengths_alike (length segment) short in
    ap folded (omega (arith, alike, word_sum-append (s ++ (d ++ long)) segment (even_behind s d long even_s even_d refl), word_sum-append (s ++ (d ++ brief)) segment (even_behind s d brief even_s even_d refl), behind_addresses s d long even_s even_d, behind_addresses s d brief even_s even_d))
