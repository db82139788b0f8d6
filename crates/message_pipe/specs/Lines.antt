-- Lines as messages.
use Rattle.std.specs.Prelude.{ℕ, List, [], ◌∷◌, ◌++◌}
use Rattle.octet_text.specs.Lines.{text_lines}
use Rattle.message_pipe.specs.Frames.{frames}

-- a message as a line
abbrev pub line_of : List ℕ → List ℕ
line_of message = message ++ 10 ∷ []

-- messages as lines
abbrev pub message_lines : List (List ℕ) → List ℕ
message_lines [] = []
message_lines (message ∷ messages) = line_of message ++ message_lines messages

-- the frames of the lines of a content
abbrev pub framed : List ℕ → List ℕ
framed content = frames (text_lines content)
