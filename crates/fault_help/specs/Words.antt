-- Lines of a text, and how a word is shown.
use Rattle.std.specs.Prelude.{ℕ, ◌-◌, List, [], ◌∷◌, map, take, drop, if◌then◌else◌, codes}
use Rattle.std.specs.Char.{is_ascii_graphic}
use Rattle.octet_text.specs.Lines.{text_lines}

-- the first of some lines; empty where there is none
abbrev pub first_of : List (List ℕ) → List ℕ
first_of [] = []
first_of (line ∷ lines) = line

-- the line with this number, the first line having 1
unfoldable pub line_at : ℕ → List ℕ → List ℕ
line_at number text = first_of (drop (number - 1) (text_lines text))

-- a printable octet of ASCII other than the space is shown as it is, and each other as '?'
abbrev pub shown_octet : ℕ → ℕ
shown_octet octet = if is_ascii_graphic octet then octet else 63

-- the first 40 octets of a word
unfoldable pub shown : List ℕ → List ℕ
shown word = map shown_octet (take 40 word)

-- the word that was found, if there is one
abbrev pub found_words : List ℕ → List ℕ
found_words [] = codes "nothing"
found_words (octet ∷ octets) = shown (octet ∷ octets)
