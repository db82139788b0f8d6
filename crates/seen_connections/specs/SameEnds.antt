-- When two ends of TCP connections are one: their addresses have one family and the same octets, and their ports are the same.
use Rattle.std.specs.Prelude.{Bool, false, ◌&&◌, ◌==◌}
use Rattle.std.specs.Cmp.Lexicographic.{pointwise}
use Rattle.key_material.specs.declared.address.Address.{Address}
use Rattle.key_material.specs.declared.address.Address.TheVariants.{V4, V6}
use Rattle.capture_reader.specs.declared.seen.End.{End}
use Rattle.capture_reader.specs.Seen.{Seen}
use Rattle.seen_connections.specs.declared.ends.Ends.{Ends}

abbrev pub same_address : Address → Address → Bool
same_address (V4 one) (V4 other) = pointwise ◌==◌ one other
same_address (V6 one) (V6 other) = pointwise ◌==◌ one other
same_address (V4 one) (V6 other) = false
same_address (V6 one) (V4 other) = false

abbrev pub same_end : End → End → Bool
same_end one other = same_address one.address other.address && one.port == other.port

-- in the same direction
abbrev pub same_ends : Ends → Ends → Bool
same_ends one other = same_end one.from other.from && same_end one.to other.to

-- those of a segment
abbrev pub ends_in : Seen → Ends
ends_in seen = record { from = seen.source; to = seen.destination }

-- the other direction
abbrev pub turned : Ends → Ends
turned ends = record { from = ends.to; to = ends.from }
