-- The words that stand for random ones: those of ChaCha20 (RFC 8439, with a stream number of 64 bits as nonce).
use Rattle.std.specs.Prelude.{ℕ, List, ◌++◌, replicate}
use Rattle.std.specs.Int.{w64, to_le_bytes}
use Rattle.rand_chacha.specs.ChaCha.{word_at, key_of}

-- the key of the cipher: the seed's eight octets, least first, and 24 zeros
abbrev pub cipher_key : ℕ → List ℕ
cipher_key seed = to_le_bytes w64 seed ++ replicate 24 0

-- the word of that number in that stream, after 20 rounds
unfoldable pub drawn_word : ℕ → ℕ → ℕ → ℕ
drawn_word seed stream word = word_at 10 (key_of (cipher_key seed)) stream word
