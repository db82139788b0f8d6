-- What a port shows of the lines of a content whose frames are put for it.
use Rattle.std.specs.Prelude.{◌≡◌, ℕ, ◌^◌, ◌<◌, List, length, Option, IfSome, IsSomeAnd}
use Rattle.outside_kit.specs.Outside.{HoldsAfter}
use Rattle.octet_text.specs.Lines.{text_lines}
use Rattle.octet_text.specs.Prefix.{IsPrefix}
use Rattle.message_pipe.specs.Lines.{message_lines, framed}
use Rattle.message_pipe.specs.Showing.{Counted, ShowsMessages, ShowsPrefix}
use Rattle.message_pipe.specs.Uses.{AreFirst}

-- of the lines of a content the port shows some first ones, each whole
pub record ShowsFirstLines (content : List ℕ) (first held : Option (List ℕ)) : Type 0 where
  pub messages : List (List ℕ)
  pub are : AreFirst messages (text_lines content)
  pub shown_is : HoldsAfter first held (λ _. message_lines messages)

-- where the frames of all lines of a content below 2^32 octets were put, and whole messages are shown, the port holds all lines
abbrev pub WholePortsShowAllLines : Type 0
WholePortsShowAllLines =
    (port : Counted) (content : List ℕ) (first held : Option (List ℕ)) → length content < 2 ^ 32 → port.octets ≡ framed content
    → ShowsMessages port first held → HoldsAfter first held (λ _. message_lines (text_lines content))

-- where a prefix of these frames was put, some first lines are shown, each whole
abbrev pub PortsShowFirstLines : Type 0
PortsShowFirstLines =
    (port : Counted) (content : List ℕ) (first held : Option (List ℕ)) → length content < 2 ^ 32 → IsPrefix port.octets (framed content)
    → ShowsMessages port first held → ShowsFirstLines content first held

-- where a prefix of these frames was put, and a prefix of its messages is shown, the port holds a prefix of the lines
abbrev pub RefusedPortsShowPrefixes : Type 0
RefusedPortsShowPrefixes =
    (port : Counted) (content : List ℕ) (first held : Option (List ℕ)) → length content < 2 ^ 32 → IsPrefix port.octets (framed content)
    → ShowsPrefix port first held → IfSome first (λ _. IsSomeAnd held (λ text. IsPrefix text (message_lines (text_lines content))))
