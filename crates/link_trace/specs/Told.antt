-- The words of each segment of a trace, as its line has them.
use Rattle.std.specs.Prelude.{ℕ, Bool, Option, List, ◌++◌, map}
use Rattle.link_trace.specs.Lines.{initials_of, note_words, place_words}
use Rattle.link_trace.specs.Meanings.{meaning_in}
use Rattle.link_trace.specs.Segments.{words_of}
use Rattle.link_trace.specs.declared.sent.Sent.{Sent}
use Rattle.link_trace.specs.declared.text.InitialData.{InitialData}

-- its line, without the end
abbrev pub told_of : Bool → Option InitialData → List Sent → Sent → List ℕ
told_of checksums initials trace s = place_words s ++ (words_of (initials_of initials trace s) checksums (meaning_in s) ++ note_words s.fate)

-- those of these segments of a trace
abbrev pub all_told : Bool → Option InitialData → List Sent → List Sent → List (List ℕ)
all_told checksums initials trace told = map (told_of checksums initials trace) told
