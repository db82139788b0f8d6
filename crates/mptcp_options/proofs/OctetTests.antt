-- What holds of every octet, by trying all 256, and of every choice of flags, by trying them all.
use Rattle.std.proofs.Common.{◌≡◌, ℕ, ◌+◌, ◌*◌, ◌/◌, ◌<◌, true, ◌&&◌, ◌==◌, if◌then◌else◌, refl, bit_and, bit_or}
use Rattle.std.proofs.lemmas.Bool.{eqb-true, agree_below, agree_below_at}
use Rattle.octet_text.specs.Octets.{is_set}
use Rattle.mptcp_options.specs.Octets.{flag_if}
use Rattle.mptcp_options.specs.Dss.{has_ack, has_mapping}
use Rattle.mptcp_options.specs.Ignored.{dss_mask}

same_below_256 : (f g : ℕ → ℕ) → agree_below (λ n. f n == g n) (λ n. true) 256 ≡ true → (n : ℕ) → n < 256 → f n ≡ g n
same_below_256 f g tried n below = eqb-true (f n) (g n) (agree_below_at (λ m. f m == g m) (λ m. true) 256 n tried below)

pub whole_octet : (n : ℕ) → n < 256 → n ≡ bit_and n 0xFF
whole_octet = same_below_256 (λ n. n) (λ n. bit_and n 0xFF) refl

pub subtype_alone : (n : ℕ) → n < 256 → n / 16 * 16 ≡ bit_and n 0xF0
subtype_alone = same_below_256 (λ n. n / 16 * 16) (λ n. bit_and n 0xF0) refl

pub subtype_and_flag : (n : ℕ) → n < 256 → bit_or (n / 16 * 16) (flag_if (is_set n 0x01) 0x01) ≡ bit_and n 0xF1
subtype_and_flag = same_below_256 (λ n. bit_or (n / 16 * 16) (flag_if (is_set n 0x01) 0x01)) (λ n. bit_and n 0xF1) refl

pub nothing_read : (n : ℕ) → n < 256 → 0 ≡ bit_and n 0
nothing_read = same_below_256 (λ n. 0) (λ n. bit_and n 0) refl

-- the two halves of an octet
pub halves : (n : ℕ) → n < 256 → n ≡ n / 16 * 16 + bit_and n 0x0F
halves = same_below_256 (λ n. n) (λ n. n / 16 * 16 + bit_and n 0x0F) refl

-- the flags of an MP_CAPABLE
pub capable_flags : (n : ℕ) → n < 256
    → bit_or (bit_or (flag_if (is_set n 0x80) 0x80) (flag_if (is_set n 0x20) 0x20)) (flag_if (is_set n 0x01) 0x01) ≡ bit_and n 0xA1
capable_flags = same_below_256
    (λ n. bit_or (bit_or (flag_if (is_set n 0x80) 0x80) (flag_if (is_set n 0x20) 0x20)) (flag_if (is_set n 0x01) 0x01))
    (λ n. bit_and n 0xA1) refl

-- the flags of a DSS
abbrev pub dss_flags_again : ℕ → ℕ
dss_flags_again n = bit_or (bit_or (flag_if (has_mapping n && is_set n 0x10) 0x10)
    (if has_mapping n then bit_or (flag_if (is_set n 0x08) 0x08) 0x04 else 0))
    (if has_ack n then bit_or (flag_if (is_set n 0x02) 0x02) 0x01 else 0)

pub dss_flags : (n : ℕ) → n < 256 → dss_flags_again n ≡ bit_and n (dss_mask n)
dss_flags = same_below_256 dss_flags_again (λ n. bit_and n (dss_mask n)) refl
