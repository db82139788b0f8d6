-- The fixed words of a script, and how a line is cut into words.
use Rattle.std.specs.Prelude.{ℕ, Bool, true, false, List, [], ◌∷◌, Result, Ok, Err, ◌==◌, if◌then◌else◌, codes}
use Rattle.std.specs.List.{find, slice_split}
use Rattle.std.specs.Option.{ok_or}
use Rattle.std.specs.Str.{bytes_eq}
use Rattle.sides.specs.declared.side.Side.{Side}
use Rattle.sides.specs.declared.side.Side.TheVariants.{A, B}
use Rattle.sides.specs.Side.{side_word}
use Rattle.link_script.specs.declared.fault.ScriptKind.{ScriptKind}
use Rattle.link_script.specs.declared.fault.ScriptKind.TheVariants.{Word}
use Rattle.link_script.specs.declared.word.Keyword.{Keyword}
use Rattle.link_script.specs.declared.word.Keyword.TheVariants.{Seed, Checksum, Short, Buffer, Path, Drop, Strip, Alter, Dup, Late, StripAll, Die, Prio, Add, Remove, FastClose, Rate, Loss, Jitter, End}

-- an empty line, and one that begins with '#'
abbrev pub is_passed_over : List ℕ → Bool
is_passed_over [] = true
is_passed_over (octet ∷ octets) = octet == 35

-- the words of a line are its parts between spaces
abbrev pub words_of : List ℕ → List (List ℕ)
words_of line = slice_split (λ octet. octet == 32) line

-- the choice that is written so, or the fault that none is
abbrev pub chosen : {C : Type 0} → (C → List ℕ) → List C → List ℕ → Result C ScriptKind
chosen spelled choices word = ok_or (find (λ choice. bytes_eq (spelled choice) word) choices) Word

-- a word that can't be another
unfoldable pub fixed : List ℕ → List ℕ → Result (Unit {0}) ScriptKind
fixed expected word = if bytes_eq word expected then Ok tt else Err Word

-- the first word of a line, which says what the line is
abbrev pub keyword_word : Keyword → List ℕ
keyword_word Seed = codes "seed"
keyword_word Checksum = codes "checksum"
keyword_word Short = codes "short"
keyword_word Buffer = codes "buffer"
keyword_word Path = codes "path"
keyword_word Drop = codes "drop"
keyword_word Strip = codes "strip"
keyword_word Alter = codes "alter"
keyword_word Dup = codes "dup"
keyword_word Late = codes "late"
keyword_word StripAll = codes "strip-all"
keyword_word Die = codes "die"
keyword_word Prio = codes "prio"
keyword_word Add = codes "add"
keyword_word Remove = codes "remove"
keyword_word FastClose = codes "fastclose"
keyword_word Rate = codes "rate"
keyword_word Loss = codes "loss"
keyword_word Jitter = codes "jitter"
keyword_word End = codes "end"

abbrev pub keywords : List Keyword
keywords = Seed ∷ Checksum ∷ Short ∷ Buffer ∷ Path ∷ Drop ∷ Strip ∷ Alter ∷ Dup ∷ Late ∷ StripAll ∷ Die ∷ Prio ∷ Add ∷ Remove ∷ FastClose ∷ Rate ∷ Loss ∷ Jitter ∷ End ∷ []

-- the keyword that a word writes
unfoldable pub keyword : List ℕ → Result Keyword ScriptKind
keyword word = chosen keyword_word keywords word

-- the side from which a segment comes
abbrev pub direction_word : Side → List ℕ
direction_word A = codes "ab"
direction_word B = codes "ba"

-- the side that `ab` or `ba` writes
unfoldable pub direction : List ℕ → Result Side ScriptKind
direction word = chosen direction_word (A ∷ B ∷ []) word

-- a side by itself
unfoldable pub side : List ℕ → Result Side ScriptKind
side word = chosen side_word (A ∷ B ∷ []) word

abbrev pub switch_word : Bool → List ℕ
switch_word true = codes "on"
switch_word false = codes "off"

-- what `on` or `off` writes
unfoldable pub switch : List ℕ → Result Bool ScriptKind
switch word = chosen switch_word (true ∷ false ∷ []) word
