-- Segments by positions (RFC 9293, section 3.4).
use Rattle.std.specs.Prelude.{ℕ, ◌+◌, Bool, if◌then◌else◌, Option, List, length}
use Rattle.subflow_tcp.specs.declared.segments.Arriving.{Arriving}

-- a segment that arrives
pub record Copy : Type 0 where
  -- the position of its SYN, or else of its first octet
  pub position : Option ℕ
  -- the position that it acknowledges, where it has the flag ACK
  pub acknowledged : Option ℕ
  pub syn : Bool
  pub fin : Bool
  pub rst : Bool
  -- in octets
  pub window : ℕ
  pub payload : List ℕ

-- a segment as it is lent
abbrev pub copy_of : Arriving → Copy
copy_of a = record {
  position = a.position;
  acknowledged = a.acknowledged;
  syn = a.syn;
  fin = a.fin;
  rst = a.rst;
  window = a.window;
  payload = a.payload.now;
}

abbrev pub one_if : Bool → ℕ
one_if b = if b then 1 else 0

-- how many positions it occupies: one for each octet, one for the SYN, one for the FIN
abbrev pub occupied : Copy → ℕ
occupied c = length c.payload + (one_if c.syn + one_if c.fin)
