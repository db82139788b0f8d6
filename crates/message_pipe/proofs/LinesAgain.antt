-- Octets have the frames of one list of messages at their front.
use Rattle.std.proofs.Common.{◌≡◌, ℕ, ◌+◌, ◌<◌, ◌≤◌, ◌^◌, Bool, true, false, if◌then◌else◌, List, [], ◌∷◌, ◌++◌, length, Option, Some, None, refl, sym, ◌∙◌, ap, subst, append_assoc, arith}
use Rattle.std.specs.Prelude.{◌==◌, IfSome, IsSomeAnd}
use Rattle.std.specs.List.{onto_first}
use Rattle.outside_kit.specs.Outside.{HoldsAfter}
use Rattle.octet_text.specs.Lines.{text_lines}
use Rattle.octet_text.specs.Prefix.{IsPrefix}
use Rattle.message_pipe.specs.Frames.{frame_of, frames, HaveFrames, first_message, behind_first}
use Rattle.message_pipe.specs.Lines.{message_lines}
use Rattle.message_pipe.specs.LinesShown.{WholePortsShowAllLines, PortsShowFirstLines, RefusedPortsShowPrefixes}
use Rattle.message_pipe.specs.Uses.{AreFirst}
use Rattle.message_pipe.proofs.ReadAgain.{read_again}
use Rattle.message_pipe.proofs.ShownMore.{shown-append}

-- ---- each line of a content has a frame

abbrev Within : ℕ → List (List ℕ) → Type 0
Within most [] = Unit {0}
Within most (part ∷ parts) = (length part ≤ most) × Within most parts

within_more : (most : ℕ) (parts : List (List ℕ)) → Within most parts → Within (most + 1) parts
within_more most [] within = tt
within_more most (part ∷ parts) within = (let few = within.0 in omega arith, within_more most parts within.1)

within_first : (most octet : ℕ) (parts : List (List ℕ)) → Within most parts → Within (most + 1) (onto_first octet parts)
within_first most octet [] within = (omega arith, tt)
within_first most octet (part ∷ parts) within = (let few = within.0 in omega arith, within_more most parts within.1)

within_by : (ends : Bool) (octet : ℕ) (octets : List ℕ) → Within (length octets) (text_lines octets)
    → Within (length octets + 1) (if ends then [] ∷ text_lines octets else onto_first octet (text_lines octets))
within_by true octet octets within = (omega arith, within_more (length octets) (text_lines octets) within)
within_by false octet octets within = within_first (length octets) octet (text_lines octets) within

lines_within : (content : List ℕ) → Within (length content) (text_lines content)
lines_within [] = tt
lines_within (octet ∷ octets) =
    let P : ℕ → Type 0 = λ most. Within most (text_lines (octet ∷ octets)) in
    subst P (let e : length octets + 1 ≡ length (octet ∷ octets) = omega arith in e) (within_by (octet == 10) octet octets (lines_within octets))

have_within : (most : ℕ) (parts : List (List ℕ)) → most < 2 ^ 32 → Within most parts → HaveFrames parts
have_within most [] small within = tt
have_within most (part ∷ parts) small within = (let few = within.0 in omega arith, have_within most parts small within.1)

pub lines_have : (content : List ℕ) → length content < 2 ^ 32 → HaveFrames (text_lines content)
lines_have content small = have_within (length content) (text_lines content) small (lines_within content)

-- ---- one list of messages

some_is : (m n : List ℕ) → Some m ≡ Some n → m ≡ n
some_is m n e = cc

no_frame : (message rest : List ℕ) → frame_of message ++ rest ≡ [] → ⊥
no_frame message rest e = cc

-- two frames at the front of the same octets are one, and the same stands behind them
same_front : (m n rest others : List ℕ) → length m < 2 ^ 32 → length n < 2 ^ 32 → frame_of m ++ rest ≡ frame_of n ++ others → (m ≡ n) × (rest ≡ others)
same_front m n rest others few small e =
    let a = read_again m rest few in
    let b = read_again n others small in
    (some_is m n (sym a.first ∙ (ap first_message e ∙ b.first)), sym a.rest ∙ (ap behind_first e ∙ b.rest))

-- messages whose frames begin the frames of a list are its first ones
first_ones : (messages list : List (List ℕ)) (behind : List ℕ) → HaveFrames messages → HaveFrames list → frames messages ++ behind ≡ frames list → AreFirst messages list
first_ones [] list behind have all e = record { others = list; are = refl }
first_ones (m ∷ messages) [] behind have all e = absurd (no_frame m (frames messages ++ behind) (sym (append_assoc (frame_of m) (frames messages) behind) ∙ e))
first_ones (m ∷ messages) (n ∷ list) behind have all e =
    let front = same_front m n (frames messages ++ behind) (frames list) have.0 all.0 (sym (append_assoc (frame_of m) (frames messages) behind) ∙ e) in
    let rest = first_ones messages list behind have.1 all.1 front.1 in
    record { others = rest.others; are = ap (λ k. k ∷ list) (sym front.0) ∙ ap (λ l. m ∷ l) rest.are }

-- and all of them where no whole frame stands behind
pub all_ones : (messages list : List (List ℕ)) (behind : List ℕ) → HaveFrames messages → HaveFrames list → frames messages ++ behind ≡ frames list → first_message behind ≡ None
    → messages ≡ list
all_ones [] [] behind have all e none = refl
all_ones [] (n ∷ list) behind have all e none =
    let first : first_message behind ≡ Some n = ap first_message e ∙ (read_again n (frames list) all.0).first in absurd cc
all_ones (m ∷ messages) [] behind have all e none = absurd (no_frame m (frames messages ++ behind) (sym (append_assoc (frame_of m) (frames messages) behind) ∙ e))
all_ones (m ∷ messages) (n ∷ list) behind have all e none =
    let front = same_front m n (frames messages ++ behind) (frames list) have.0 all.0 (sym (append_assoc (frame_of m) (frames messages) behind) ∙ e) in
    ap (λ k. k ∷ messages) front.0 ∙ ap (λ l. n ∷ l) (all_ones messages list behind have.1 all.1 front.1 none)

-- ---- what is shown

pub whole_ports_show_all_lines : WholePortsShowAllLines
whole_ports_show_all_lines port content first held small are shows =
    let same : shows.messages ≡ text_lines content = all_ones shows.messages (text_lines content) port.behind shows.have (lines_have content small) (sym shows.octets_are ∙ are) shows.no_more in
    let P : List (List ℕ) → Type 0 = λ messages. HoldsAfter first held (λ _. message_lines messages) in
    subst P same shows.shown_is

-- a prefix of the frames has the frames of messages at its front
pub front_ones : (octets : List ℕ) (messages list : List (List ℕ)) (behind : List ℕ) → HaveFrames messages → HaveFrames list → octets ≡ frames messages ++ behind → IsPrefix octets (frames list)
    → AreFirst messages list
front_ones octets messages list behind have all is prefix =
    first_ones messages list (behind ++ prefix.rest) have all (sym (append_assoc (frames messages) behind prefix.rest) ∙ (ap (λ o. o ++ prefix.rest) (sym is) ∙ sym prefix.whole_is))

pub ports_show_first_lines : PortsShowFirstLines
ports_show_first_lines port content first held small prefix shows = record {
  messages = shows.messages;
  are = front_ones port.octets shows.messages (text_lines content) port.behind shows.have (lines_have content small) shows.octets_are prefix;
  shown_is = shows.shown_is;
}

longer_prefix : (text : List ℕ) (messages all : List (List ℕ)) → AreFirst messages all → IsPrefix text (message_lines messages) → IsPrefix text (message_lines all)
longer_prefix text messages all few prefix = record {
  rest = prefix.rest ++ message_lines few.others;
  whole_is = ap message_lines few.are ∙ (shown-append messages few.others ∙ (ap (λ s. s ++ message_lines few.others) prefix.whole_is ∙ append_assoc text prefix.rest (message_lines few.others)));
}

still_prefix : (first held : Option (List ℕ)) (messages all : List (List ℕ)) → AreFirst messages all → IfSome first (λ _. IsSomeAnd held (λ text. IsPrefix text (message_lines messages)))
    → IfSome first (λ _. IsSomeAnd held (λ text. IsPrefix text (message_lines all)))
still_prefix None held messages all few shows = tt
still_prefix (Some told) None messages all few shows = shows
still_prefix (Some told) (Some text) messages all few shows = longer_prefix text messages all few shows

pub refused_ports_show_prefixes : RefusedPortsShowPrefixes
refused_ports_show_prefixes port content first held small prefix shows =
    still_prefix first held shows.messages (text_lines content) (front_ones port.octets shows.messages (text_lines content) shows.rest shows.have (lines_have content small) shows.octets_are prefix) shows.shown_is
