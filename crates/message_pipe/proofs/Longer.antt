-- The frames of the lines of a content are no shorter than the content.
use Rattle.std.proofs.Common.{◌≡◌, ℕ, ◌+◌, ◌<◌, ◌≤◌, Bool, true, false, if◌then◌else◌, List, [], ◌∷◌, ◌++◌, length, Option, Some, None, length-append, arith}
use Rattle.std.specs.Prelude.{◌==◌, ◌||◌, IfSome, option_map}
use Rattle.std.specs.List.{onto_first}
use Rattle.std.specs.Str.{bytes_eq}
use Rattle.octet_text.specs.Lines.{text_lines}
use Rattle.message_pipe.specs.Frames.{frames}
use Rattle.message_pipe.specs.Lines.{framed}
use Rattle.message_pipe.specs.Lined.{lined_content}

-- with one octet more in the first line
longer_first : (octet count : ℕ) (parts : List (List ℕ)) → count ≤ length (frames parts) → count + 1 ≤ length (frames (onto_first octet parts))
longer_first octet count [] le = omega arith
longer_first octet count (part ∷ parts) le =
    let was : length (part ++ frames parts) ≡ length part + length (frames parts) = length-append part (frames parts) in
    let now : length ((octet ∷ part) ++ frames parts) ≡ length (octet ∷ part) + length (frames parts) = length-append (octet ∷ part) (frames parts) in
    omega arith

longer_by : (ends : Bool) (octet : ℕ) (octets : List ℕ) → length octets ≤ length (framed octets)
    → length octets + 1 ≤ length (frames (if ends then [] ∷ text_lines octets else onto_first octet (text_lines octets)))
longer_by true octet octets le = omega arith
longer_by false octet octets le = longer_first octet (length octets) (text_lines octets) le

pub framed_is_longer : (content : List ℕ) → length content ≤ length (framed content)
framed_is_longer [] = omega arith
framed_is_longer (octet ∷ octets) = let h = longer_by (octet == 10) octet octets (framed_is_longer octets) in omega arith

too_long_by : (limit : ℕ) (b : Bool) (content : Option (List ℕ)) → IfSome content (λ told. limit < length told)
    → IfSome (if b then option_map framed content else content) (λ told. limit < length told)
too_long_by limit true None long = tt
too_long_by limit true (Some told) long = let h = framed_is_longer told in omega arith
too_long_by limit false content long = long

-- what is too long below is too long in frames
pub lined_too_long : (limit : ℕ) (file_a file_b name : List ℕ) (content : List ℕ → Option (List ℕ)) → IfSome (content name) (λ told. limit < length told)
    → IfSome (lined_content file_a file_b content name) (λ told. limit < length told)
lined_too_long limit file_a file_b name content long = too_long_by limit (bytes_eq name file_a || bytes_eq name file_b) (content name) long
