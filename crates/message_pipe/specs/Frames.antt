-- Messages on a stream: each stands behind its length, a number of four octets, the highest first.
use Rattle.std.specs.Prelude.{ℕ, ◌+◌, ◌-◌, ◌^◌, ◌<◌, Bool, ◌&&◌, nat_le, if◌then◌else◌, List, [], ◌∷◌, ◌++◌, length, take, drop, Option, Some, None}
use Rattle.std.specs.Int.{w32, to_be_bytes}
use Rattle.octet_text.specs.Octets.{number_at}

-- a message behind its length
abbrev pub frame_of : List ℕ → List ℕ
frame_of message = to_be_bytes w32 (length message) ++ message

-- the frames of messages, in order
abbrev pub frames : List (List ℕ) → List ℕ
frames [] = []
frames (message ∷ messages) = frame_of message ++ frames messages

-- each message has a length that four octets can tell
abbrev pub HaveFrames : List (List ℕ) → Type 0
HaveFrames [] = Unit {0}
HaveFrames (message ∷ messages) = (length message < 2 ^ 32) × HaveFrames messages

-- the length that the first four octets tell
abbrev pub told_length : List ℕ → ℕ
told_length octets = number_at w32 octets 0

-- the octets begin with a whole frame
abbrev pub has_frame : List ℕ → Bool
has_frame octets = nat_le 4 (length octets) && nat_le (told_length octets) (length octets - 4)

-- the message of the first frame, where it is whole
abbrev pub first_message : List ℕ → Option (List ℕ)
first_message octets = if has_frame octets then Some (take (told_length octets) (drop 4 octets)) else None

-- what stands behind it, or all where there is none
abbrev pub behind_first : List ℕ → List ℕ
behind_first octets = if has_frame octets then drop (4 + told_length octets) octets else octets
