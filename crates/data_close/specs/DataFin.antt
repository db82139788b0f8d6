-- The number of a DATA_FIN (RFC 8684, section 3.3.3).
use Rattle.std.specs.Prelude.{ℕ, ◌+◌, ◌%◌, ◌^◌}

-- the data number of place k of the stream: the first place has that after the initial number
abbrev pub data_number : ℕ → ℕ → ℕ
data_number idsn place = (idsn + (place + 1)) % 2 ^ 64
