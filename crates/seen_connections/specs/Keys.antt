-- Whose key a token names: the one that became known first (RFC 8684, section 3.2).
use Rattle.std.specs.Prelude.{ℕ, Bool, ◌==◌, Option, Some, None, List, find}
use Rattle.sides.specs.Side.{peer}
use Rattle.seen_connections.specs.declared.flow.Belongs.{Belongs}
use Rattle.seen_connections.specs.declared.flow.Opening.{Opening}
use Rattle.seen_connections.specs.declared.flow.Opening.TheVariants as opening
use Rattle.seen_connections.specs.declared.known_keys.KnownKey.{KnownKey}

abbrev pub has_token : ℕ → KnownKey → Bool
has_token token key = key.token == token

-- a join is opened by the side whose key it doesn't name
abbrev pub joined : Option KnownKey → Option Belongs
joined None = None
joined (Some key) = Some (record { connection = key.connection; opener = peer key.side })

-- the connection of a flow whose SYN asks for this
abbrev pub belongs_by : Opening → List KnownKey → Option Belongs
belongs_by (opening.Join token nonce) known = joined (find (has_token token) known)
belongs_by (opening.Capable checksums) known = None
