-- The lines that are told of connections, of their sides and of joins whose connection wasn't found.
use Rattle.std.specs.Prelude.{ℕ, Bool, true, false, ◌==◌, if◌then◌else◌, Option, Some, None, List, [], ◌++◌, codes}
use Rattle.std.specs.Fmt.{decimal}
use Rattle.std.specs.Net.Text.{ipv4_text, ipv6_text}
use Rattle.std.specs.Net.Addr.{segments_of}
use Rattle.sides.specs.declared.side.Side.{Side}
use Rattle.sides.specs.Side.{side_word}
use Rattle.key_material.specs.declared.address.Address.{Address}
use Rattle.key_material.specs.declared.address.Address.TheVariants.{V4, V6}
use Rattle.capture_reader.specs.declared.seen.End.{End}
use Rattle.judge_rules.specs.declared.finding.Rule.{Rule}
use Rattle.judge_words.specs.declared.lines.ConnectionLine.{ConnectionLine}
use Rattle.judge_words.specs.declared.lines.KeptLine.{KeptLine}
use Rattle.judge_words.specs.declared.lines.StrayLine.{StrayLine}
use Rattle.judge_words.specs.Words.{rule_word, words32}

-- an end: its address (RFC 5952) and its port
abbrev pub address_words : Address → List ℕ
address_words (V4 octets) = ipv4_text octets
address_words (V6 octets) = codes "[" ++ ipv6_text (segments_of octets) ++ codes "]"

unfoldable pub end_words : End → List ℕ
end_words end = address_words end.address ++ codes ":" ++ decimal end.port

-- two ends, with these words between
unfoldable pub pair_words : End → List ℕ → End → List ℕ
pair_words one between other = end_words one ++ between ++ end_words other

-- a count that is told where it isn't 0
abbrev pub count_words : List ℕ → ℕ → List ℕ
count_words word count = if count == 0 then [] else codes " " ++ word ++ codes " " ++ decimal count

abbrev pub switch_word : Bool → List ℕ
switch_word true = codes "on"
switch_word false = codes "off"

-- a connection: its number and its ends; B's token; its subflows and packets, and whether checksums are on; what is told where it isn't 0
unfoldable pub numbered_words : ℕ → List ℕ
numbered_words number = codes "connection " ++ decimal number ++ codes " a "

abbrev pub ends_words : ConnectionLine → List ℕ
ends_words line = numbered_words line.number ++ pair_words line.opener (codes " b ") line.other

unfoldable pub token_words : ℕ → List ℕ
token_words token = codes " token-b " ++ words32 token

unfoldable pub flows_words : ConnectionLine → List ℕ
flows_words line =
    codes " subflows " ++ decimal line.subflows ++ codes " packets " ++ decimal line.packets ++ codes " checksums " ++ switch_word line.checksums

unfoldable pub lack_words : ConnectionLine → List ℕ
lack_words line =
    count_words (codes "gaps") line.gaps ++ count_words (codes "cut") line.cut ++ count_words (codes "tcp-sum") line.wrong_sums ++ codes "\n"

abbrev pub connection_words : ConnectionLine → List ℕ
connection_words line = ends_words line ++ token_words line.token_b ++ flows_words line ++ lack_words line

-- the place of a DATA_FIN, if it was told
abbrev pub fin_words : Option ℕ → List ℕ
fin_words None = codes "-"
fin_words (Some place) = decimal place

-- a side that kept all rules: what was tried, what was seen, what is told where it isn't 0
unfoldable pub tried_words : KeptLine → List ℕ
tried_words line =
    codes "side " ++ side_word line.side ++ codes " kept: keys " ++ decimal line.keys ++ codes " joins " ++ decimal line.joins
    ++ codes " mappings " ++ decimal line.mappings

unfoldable pub seen_words : KeptLine → List ℕ
seen_words line =
    codes " sums " ++ decimal line.sums ++ codes " unseen " ++ decimal line.unseen ++ codes " data-acks " ++ decimal line.data_acks
    ++ codes " data-fin "

unfoldable pub unmapped_words : KeptLine → List ℕ
unmapped_words line = count_words (codes "syn-data") line.syn_data ++ count_words (codes "unmapped") line.unmapped ++ codes "\n"

abbrev pub kept_words : KeptLine → List ℕ
kept_words line = tried_words line ++ seen_words line ++ fin_words line.fin ++ unmapped_words line

-- how a line begins that tells a rule that a side broke
abbrev pub broke_words : Side → Rule → ℕ → List ℕ
broke_words side which packet = codes "side " ++ side_word side ++ codes " broke " ++ rule_word which ++ codes " at packet " ++ decimal packet ++ codes ": "

-- a join whose other end reset it, or whose connection may have begun before the capture
abbrev pub stray_word : Bool → List ℕ
stray_word true = codes "broke"
stray_word false = codes "unseen"

unfoldable pub packet_words : ℕ → List ℕ
packet_words packet = codes "join at packet " ++ decimal packet ++ codes " from "

abbrev pub join_words : StrayLine → List ℕ
join_words line = packet_words line.packet ++ pair_words line.opener (codes " to ") line.other

unfoldable pub fate_words : StrayLine → List ℕ
fate_words line = codes " " ++ stray_word line.was_reset ++ codes " token " ++ words32 line.token ++ codes "\n"

abbrev pub stray_words : StrayLine → List ℕ
stray_words line = join_words line ++ fate_words line
