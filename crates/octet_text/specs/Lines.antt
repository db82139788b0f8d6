-- The lines of a text.
use Rattle.std.specs.Prelude.{ℕ, ◌==◌, if◌then◌else◌, List, [], ◌∷◌}
use Rattle.std.specs.List.{onto_first}

-- a line ends with LF, and what stands after the last LF is a line where it isn't empty
abbrev pub text_lines : List ℕ → List (List ℕ)
text_lines [] = []
text_lines (octet ∷ octets) = if octet == 10 then [] ∷ text_lines octets else onto_first octet (text_lines octets)
