-- Octets that begin with a whole frame are the frame of its message, and what stands behind it.
use Rattle.std.proofs.Common.{◌≡◌, ℕ, zero, suc, ◌+◌, ◌-◌, ◌<◌, ◌≤◌, List, [], ◌∷◌, ◌++◌, length, take, drop, get_or, refl, sym, ◌∙◌, ap, arith, lit<}
use Rattle.std.proofs.lemmas.List.{take-append-drop, length-take-le}
use Rattle.std.proofs.lemmas.Nat.{be_bytes_4}
use Rattle.std.specs.Int.{w32, to_be_bytes}
use Rattle.octet_text.specs.Octets.{number_at}
use Rattle.message_pipe.specs.Frames.{frame_of}

-- four octets, and nothing behind them
small_four : (a b c d : ℕ) → a < 256 → b < 256 → c < 256 → d < 256 → (i : ℕ) → get_or (a ∷ b ∷ c ∷ d ∷ []) i 0 < 256
small_four a b c d p q r s zero = p
small_four a b c d p q r s (suc zero) = q
small_four a b c d p q r s (suc (suc zero)) = r
small_four a b c d p q r s (suc (suc (suc zero))) = s
small_four a b c d p q r s (suc (suc (suc (suc i)))) = lit< tt

pub drop_four : (a b c d n : ℕ) (octets : List ℕ) → drop (4 + n) (a ∷ b ∷ c ∷ d ∷ octets) ≡ drop n octets
drop_four a b c d n octets =
    let e : 4 + n ≡ suc (suc (suc (suc n))) = omega arith in
    ap (λ k. drop k (a ∷ b ∷ c ∷ d ∷ octets)) e

pub framed : (octets message : List ℕ) (n : ℕ) → ((i : ℕ) → get_or octets i 0 < 256) → 4 ≤ length octets → n ≡ number_at w32 octets 0
    → n ≤ length octets - 4 → message ≡ take n (drop 4 octets) → octets ≡ frame_of message ++ drop (4 + length message) octets
framed [] message n small some is fits taken = absurd (omega arith)
framed (a ∷ []) message n small some is fits taken = absurd (omega arith)
framed (a ∷ b ∷ []) message n small some is fits taken = absurd (omega arith)
framed (a ∷ b ∷ c ∷ []) message n small some is fits taken = absurd (omega arith)
framed (a ∷ b ∷ c ∷ d ∷ octets) message n small some is fits taken =
    let head : to_be_bytes w32 n ≡ a ∷ b ∷ c ∷ d ∷ [] = be_bytes_4 (a ∷ b ∷ c ∷ d ∷ []) n refl (small_four a b c d (small 0) (small 1) (small 2) (small 3)) is in
    let long : length message ≡ n = ap length taken ∙ length-take-le n octets (omega arith) in
    let rest : drop (4 + n) (a ∷ b ∷ c ∷ d ∷ octets) ≡ drop n octets = drop_four a b c d n octets in
    let whole : message ++ drop n octets ≡ octets = rw taken (take-append-drop n octets) in
    let all : to_be_bytes w32 n ++ (message ++ drop (4 + n) (a ∷ b ∷ c ∷ d ∷ octets)) ≡ a ∷ b ∷ c ∷ d ∷ octets =
    ap (λ end. to_be_bytes w32 n ++ (message ++ end)) rest ∙ (ap (λ end. to_be_bytes w32 n ++ end) whole ∙ ap (λ front. front ++ octets) head) in
    sym (ap (λ k. to_be_bytes w32 k ++ (message ++ drop (4 + k) (a ∷ b ∷ c ∷ d ∷ octets))) long ∙ all)
