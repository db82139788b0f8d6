-- What is done with messages that come in pieces, in any order: pieces are fed, and the next message is asked for.
use Rattle.std.specs.Prelude.{◌≡◌, ℕ, ◌^◌, ◌<◌, ◌⊎◌, List, [], ◌∷◌, ◌++◌, length, Option, Some, None}
use Rattle.message_pipe.specs.Frames.{frame_of, frames, HaveFrames, first_message, behind_first}

pub data Use : Type 0 where
  Feed : List ℕ → Use
  Next : Use

-- the octets that are held after a use
abbrev pub after_use : Use → List ℕ → List ℕ
after_use (Feed piece) held = held ++ piece
after_use Next held = behind_first held

-- the octets that are held after some uses, the first one first
abbrev pub after_uses : List Use → List ℕ → List ℕ
after_uses [] held = held
after_uses (use_ ∷ uses) held = after_uses uses (after_use use_ held)

-- the octets that are fed, in order
abbrev pub fed_by : List Use → List ℕ
fed_by [] = []
fed_by (Feed piece ∷ uses) = piece ++ fed_by uses
fed_by (Next ∷ uses) = fed_by uses

-- a message in front of others, if there is one
abbrev pub with_first : Option (List ℕ) → List (List ℕ) → List (List ℕ)
with_first None messages = messages
with_first (Some message) messages = message ∷ messages

-- the messages that are given, in order
abbrev pub given_by : List Use → List ℕ → List (List ℕ)
given_by [] held = []
given_by (Feed piece ∷ uses) held = given_by uses (held ++ piece)
given_by (Next ∷ uses) held = with_first (first_message held) (given_by uses (behind_first held))

-- some messages are the first ones of others
pub record AreFirst (few all : List (List ℕ)) : Type 0 where
  pub others : List (List ℕ)
  pub are : all ≡ few ++ others

-- ---- laws

-- what was framed is read again, whatever follows it
pub record IsReadAgain (message behind : List ℕ) : Type 0 where
  pub first : first_message (frame_of message ++ behind) ≡ Some message
  pub rest : behind_first (frame_of message ++ behind) ≡ behind

-- every message below 2^32 octets is read again from its frame, whatever follows it
abbrev pub FramesAreReadAgain : Type 0
FramesAreReadAgain = (message behind : List ℕ) → length message < 2 ^ 32 → IsReadAgain message behind

-- of these messages the first ones were given so far, or all; and all where what is held begins with no whole frame
pub record ComeWhole (messages given : List (List ℕ)) (held : List ℕ) : Type 0 where
  pub in_order : AreFirst given messages ⊎ AreFirst messages given
  pub all : first_message held ≡ None → AreFirst messages given

-- however the frames of messages, and any octets behind them, are cut into pieces, and whenever a message is asked for
abbrev pub MessagesComeWhole : Type 0
MessagesComeWhole =
    (messages : List (List ℕ)) (behind : List ℕ) (uses : List Use) → HaveFrames messages → fed_by uses ≡ frames messages ++ behind
    → ComeWhole messages (given_by uses []) (after_uses uses [])
