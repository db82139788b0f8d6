-- A packet as it was captured, wherever its octets lie.
use Rattle.std.specs.Prelude.{ℕ, Bool, nat_lt, nat_le, if◌then◌else◌, Option, Some, None, List, length, take}
use Rattle.capture_reader.specs.declared.capture.CapturedPacket.{CapturedPacket}

pub record Captured : Type 0 where
  -- the link type of its interface
  pub link : ℕ
  -- the octets that are held
  pub octets : List ℕ
  -- whether these are all octets that the packet had
  pub whole : Bool

-- the packet that is lent
abbrev pub as_captured : CapturedPacket → Captured
as_captured packet = record { link = packet.link; octets = packet.octets.now; whole = packet.whole }

-- The packet of so many held octets that these octets begin with, if there are as many; it had as many as told.
unfoldable pub captured_of : ℕ → ℕ → ℕ → List ℕ → Option Captured
captured_of link held told octets =
    if nat_lt (length octets) held then None
    else Some (record { link = link; octets = take held octets; whole = nat_le told held })
