-- The line of a connection: its number, its outcome, what B read and what A read.
use Rattle.std.specs.Prelude.{ℕ, suc, List, [], ◌∷◌, ◌++◌, codes, map, Option, Some, None}
use Rattle.std.specs.Fmt.{decimal}
use Rattle.hex.specs.Hex.{encode_lower}
use Rattle.sides.specs.declared.side.Side.TheVariants.{A, B}
use Rattle.run_log.specs.Lines.{outcome_word}
use Rattle.world_core.specs.Logged.{told_outcome}
use Rattle.world_laws.specs.Outcomes.{outcome_of, output_of}
use Rattle.connection_table.specs.Tables.{Connection, Entry, entry_at}

-- octets in hexadecimal digits, or '-' for none
abbrev pub shown : List ℕ → List ℕ
shown [] = codes "-"
shown (octet ∷ octets) = encode_lower (octet ∷ octets)

unfoldable pub connection_line : ℕ → Connection → List ℕ
connection_line number w =
    codes "connection " ++ (decimal number ++ (codes " " ++ (outcome_word (told_outcome (outcome_of w.crew))
    ++ (codes " " ++ (shown (output_of B w) ++ (codes " " ++ (shown (output_of A w) ++ codes "\n")))))))

-- the lines of connections, numbered from this number on
abbrev pub lines_from : ℕ → List Connection → List ℕ
lines_from number [] = []
lines_from number (w ∷ ws) = connection_line number w ++ lines_from (suc number) ws

-- ---- of a table

abbrev pub state_of : Entry → Connection
state_of e = e.world.state

abbrev pub line_if : ℕ → Option Entry → List ℕ
line_if number None = []
line_if number (Some e) = connection_line number (state_of e)

-- the line of the connection with this number
abbrev pub line_at : ℕ → List Entry → List ℕ
line_at number table = line_if number (entry_at number table)

abbrev pub lines_of : List Entry → List ℕ
lines_of table = lines_from 0 (map state_of table)
