-- What the code finds in a packet, as values.
use Rattle.std.specs.Borrow.{Bor}
use Rattle.std.specs.Prelude.{ℕ, Option, Some, None, List}
use Rattle.capture_reader.specs.declared.internet.Carried.{Carried}
use Rattle.capture_reader.specs.Link.{behind_tags}
use Rattle.capture_reader.specs.Internet.{CarriedValue, behind_extensions}

-- what is carried, wherever it lies
abbrev pub as_carried : Carried → CarriedValue
as_carried carried = record { source = carried.source; destination = carried.destination; size = carried.size; octets = carried.octets.now }

-- what stands behind all extension headers, where these octets follow one of them, behind which this type is told
abbrev pub behind_next : Option (ℕ × Bor (List ℕ)) → Option (List ℕ)
behind_next (Some next) = behind_extensions next.0 0 next.1.now
behind_next None = None

-- the packet behind a tag, where these octets follow its type, and the tag tells this type of what follows
abbrev pub behind_tag : Option (ℕ × Bor (List ℕ)) → Option (List ℕ)
behind_tag (Some next) = behind_tags next.0 next.1.now
behind_tag None = None
