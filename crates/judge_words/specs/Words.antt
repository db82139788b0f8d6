-- The words in which a rule that was broken is told: numbers in decimal, keys, tokens, HMACs, data numbers, checksums and octets in
-- hexadecimal, with all their digits.
use Rattle.std.specs.Prelude.{ℕ, ℤ, List, [], ◌∷◌, ◌++◌, codes}
use Rattle.std.specs.Fmt.{decimal, signed_decimal}
use Rattle.std.specs.Int.{w16, w32, w64, to_be_bytes}
use Rattle.hex.specs.Hex.{encode_lower}
use Rattle.judge_rules.specs.declared.finding.Finding.{Finding}
use Rattle.judge_rules.specs.declared.finding.Finding.TheVariants as found
use Rattle.judge_rules.specs.declared.finding.Rule.{Rule}
use Rattle.judge_rules.specs.declared.finding.Rule.TheVariants.{Form, Keys, Token, JoinHmac, AddressHmac, FastCloseKey, Mapping, Within, PlaceContent, DssSum, DataAck, DataFin, Infinite, Fail}
use Rattle.judge_rules.specs.declared.finding.Told.{Told}
use Rattle.judge_rules.specs.declared.finding.Told.TheVariants.{Whole, Low}

abbrev pub rule_word : Rule → List ℕ
rule_word Form = codes "form"
rule_word Keys = codes "keys"
rule_word Token = codes "token"
rule_word JoinHmac = codes "join-hmac"
rule_word AddressHmac = codes "address-hmac"
rule_word FastCloseKey = codes "fast-close-key"
rule_word Mapping = codes "mapping"
rule_word Within = codes "within"
rule_word PlaceContent = codes "place-content"
rule_word DssSum = codes "dss-sum"
rule_word DataAck = codes "data-ack"
rule_word DataFin = codes "data-fin"
rule_word Infinite = codes "infinite"
rule_word Fail = codes "fail"

abbrev pub octet_words : ℕ → List ℕ
octet_words octet = encode_lower (octet ∷ [])

abbrev pub words16 : ℕ → List ℕ
words16 number = encode_lower (to_be_bytes w16 number)

abbrev pub words32 : ℕ → List ℕ
words32 number = encode_lower (to_be_bytes w32 number)

abbrev pub words64 : ℕ → List ℕ
words64 number = encode_lower (to_be_bytes w64 number)

-- octets that read as no option
unfoldable pub no_option_words : List ℕ → List ℕ
no_option_words octets = codes "no option reads " ++ encode_lower octets

unfoldable pub expected_words : List ℕ → List ℕ → List ℕ
expected_words expected was = codes "expected " ++ encode_lower expected ++ codes " was " ++ encode_lower was

abbrev pub number_words : Told → List ℕ
number_words (Whole number) = words64 number
number_words (Low number) = words32 number

unfoldable pub mapping_words : ℕ → ℕ → ℕ → List ℕ
mapping_words place length packet =
    codes "mapping of place " ++ decimal place ++ codes " length " ++ decimal length ++ codes " at packet " ++ decimal packet ++ codes ": "

unfoldable pub no_position_words : ℕ → List ℕ
no_position_words relative = codes "relative number " ++ words32 relative ++ codes " is no position"

unfoldable pub other_place_words : ℕ → ℕ → ℕ → ℕ → List ℕ
other_place_words position was packet is =
    codes "position " ++ decimal position ++ codes " was place " ++ decimal was ++ codes " at packet " ++ decimal packet ++ codes ", is " ++ decimal is

unfoldable pub after_infinite_words : ℤ → ℕ → ℕ → List ℕ
after_infinite_words position place packet =
    codes "position " ++ signed_decimal position ++ codes " is place " ++ decimal place ++ codes " after packet " ++ decimal packet

unfoldable pub beyond_fin_words : ℕ → ℕ → ℕ → List ℕ
beyond_fin_words mapped was packet = codes "mapped up to " ++ decimal mapped ++ codes ", was " ++ decimal was ++ codes " at packet " ++ decimal packet

-- what was found
abbrev pub finding_words : Finding → List ℕ
finding_words (found.Number64 expected was) = expected_words (to_be_bytes w64 expected) (to_be_bytes w64 was)
finding_words (found.Number32 expected was) = expected_words (to_be_bytes w32 expected) (to_be_bytes w32 was)
finding_words (found.Hmac160 expected was) = expected_words expected was
finding_words (found.NoPlace number) = codes "number " ++ number_words number ++ codes " is no place"
finding_words (found.NoPosition relative) = no_position_words relative
finding_words (found.OtherPlace position was packet is) = other_place_words position was packet is
finding_words (found.AfterInfinite position place packet) = after_infinite_words position place packet
finding_words (found.OtherFin place was packet) =
    codes "place " ++ decimal place ++ codes " was " ++ decimal was ++ codes " at packet " ++ decimal packet
finding_words (found.MappedBeyond place mapped) = codes "place " ++ decimal place ++ codes ", mapped up to " ++ decimal mapped
finding_words (found.BeyondFin mapped was packet) = beyond_fin_words mapped was packet
finding_words (found.Outside from last mapped_from mapped_last) =
    codes "positions " ++ decimal from ++ codes " to " ++ decimal last ++ codes " in " ++ decimal mapped_from ++ codes " to " ++ decimal mapped_last
finding_words (found.OtherOctet place was packet is) =
    codes "place " ++ decimal place ++ codes " was " ++ octet_words was ++ codes " at packet " ++ decimal packet ++ codes ", is " ++ octet_words is
finding_words (found.WrongSum place length packet expected was) =
    mapping_words place length packet ++ expected_words (to_be_bytes w16 expected) (to_be_bytes w16 was)
finding_words (found.NotSeen place most) = codes "place " ++ decimal place ++ codes ", at most " ++ decimal most ++ codes " was seen"
finding_words (found.Falls place after) = codes "place " ++ decimal place ++ codes " after " ++ decimal after
finding_words (found.NoMapping number) = codes "number " ++ words64 number ++ codes " is of no mapping"
