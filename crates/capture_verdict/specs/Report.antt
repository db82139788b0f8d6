-- The lines that are told of a capture: of each connection one, then those of its sides; then the joins whose connection wasn't found.
use Rattle.std.specs.Prelude.{ℕ, ◌+◌, if◌then◌else◌, Option, Some, None, option_map, List, [], ◌∷◌, ◌++◌, codes}
use Rattle.std.specs.List.{slice_get}
use Rattle.sides.specs.declared.side.Side.{Side}
use Rattle.sides.specs.declared.side.Side.TheVariants.{A, B}
use Rattle.key_material.specs.KeyDigest.{token_of}
use Rattle.seen_connections.specs.declared.connections.Keys.{Keys}
use Rattle.seen_connections.specs.declared.flow.Belongs.{Belongs}
use Rattle.seen_connections.specs.declared.flow.Flow.{Flow}
use Rattle.seen_connections.specs.declared.flow.Opening.{Opening}
use Rattle.seen_connections.specs.declared.flow.Opening.TheVariants as opening
use Rattle.seen_streams.specs.State.{BrokenValue, FaultValue, NoOption, Found, StreamValue}
use Rattle.judge_words.specs.declared.lines.ConnectionLine.{ConnectionLine}
use Rattle.judge_words.specs.declared.lines.KeptLine.{KeptLine}
use Rattle.judge_words.specs.declared.lines.StrayLine.{StrayLine}
use Rattle.judge_words.specs.Lines.{broke_words, connection_words, kept_words, stray_words}
use Rattle.judge_words.specs.Words.{finding_words, no_option_words}
use Rattle.rule_book.specs.State.{BookValue, JudgedValue}
use Rattle.capture_verdict.specs.declared.totals.Totals.{Totals}
use Rattle.capture_verdict.specs.declared.totals.Unread.{Unread}
use Rattle.capture_verdict.specs.Ending.{has_none}
use Rattle.capture_verdict.specs.Order.{in_order}
use Rattle.capture_verdict.specs.Totals.{all_totals}

-- ---- a side that broke rules: a line for each

abbrev pub fault_words : FaultValue → List ℕ
fault_words (NoOption octets) = no_option_words octets
fault_words (Found finding) = finding_words finding

abbrev pub broken_line : Side → BrokenValue → List ℕ
broken_line side broken = broke_words side broken.rule broken.packet ++ fault_words broken.fault ++ codes "\n"

abbrev pub line_words : Side → List BrokenValue → List ℕ
line_words side [] = []
line_words side (broken ∷ others) = broken_line side broken ++ line_words side others

abbrev pub broken_words : Side → List BrokenValue → List ℕ
broken_words side broken = line_words side (in_order broken)

-- ---- a side

abbrev pub kept_line : Side → StreamValue → Unread → ℕ → KeptLine
kept_line side sent unread syn_data = record {
  side = side;
  keys = sent.keys;
  joins = sent.joins;
  mappings = sent.mappings;
  sums = sent.sums;
  unseen = unread.unseen;
  data_acks = sent.data_acks;
  fin = option_map (λ fin. fin.place) sent.fin;
  syn_data = syn_data;
  unmapped = unread.unmapped;
}

abbrev pub side_words : Side → StreamValue → Unread → ℕ → List ℕ
side_words side sent unread syn_data =
    if has_none sent.broken then kept_words (kept_line side sent unread syn_data) else broken_words side sent.broken

-- ---- a connection: its keys, its first flow, and what its flows come to

abbrev pub connection_line : ℕ → ℕ → Keys → Flow → Totals → ConnectionLine
connection_line number gaps keys first totals = record {
  number = number;
  opener = first.opener;
  other = first.other;
  token_b = token_of keys.b;
  subflows = totals.subflows;
  packets = totals.packets;
  checksums = keys.checksums;
  gaps = gaps;
  cut = totals.cut;
  wrong_sums = totals.wrong_sums;
}

abbrev pub connection_text : ℕ → BookValue → Keys → Flow → Totals → List ℕ
connection_text number book keys first totals =
    connection_words (connection_line number book.gaps keys first totals)
    ++ side_words A book.a totals.a first.syn_octets ++ side_words B book.b totals.b 0

abbrev pub text_in : ℕ → BookValue → Keys → Option Flow → Totals → List ℕ
text_in number book keys None totals = []
text_in number book keys (Some first) totals = connection_text number book keys first totals

abbrev pub text_by : List Flow → ℕ → Option BookValue → Option Keys → Totals → List ℕ
text_by flows number (Some book) (Some keys) totals = text_in number book keys (slice_get flows keys.flow) totals
text_by flows number _ _ totals = []

abbrev pub text_at : JudgedValue → ℕ → Totals → List ℕ
text_at judged number totals =
    text_by judged.seen.flows number (slice_get judged.books number) (slice_get judged.seen.connections number) totals

-- those from a number on
abbrev pub all_words : JudgedValue → ℕ → List Totals → List ℕ
all_words judged number [] = []
all_words judged number (totals ∷ more) = text_at judged number totals ++ all_words judged (number + 1) more

-- ---- joins whose connection wasn't found

abbrev pub stray_line : Flow → ℕ → StrayLine
stray_line flow token =
    record { packet = flow.first; opener = flow.opener; other = flow.other; was_reset = flow.was_reset; token = token }

abbrev pub stray_words_by : Flow → Opening → Option Belongs → List ℕ
stray_words_by flow (opening.Join token nonce) None = stray_words (stray_line flow token)
stray_words_by flow _ _ = []

abbrev pub stray_words_of : Flow → List ℕ
stray_words_of flow = stray_words_by flow flow.opening flow.belongs

abbrev pub strays_words : List Flow → List ℕ
strays_words [] = []
strays_words (flow ∷ flows) = stray_words_of flow ++ strays_words flows

-- ---- all

abbrev pub report_words : JudgedValue → List ℕ
report_words judged = all_words judged 0 (all_totals judged) ++ strays_words judged.seen.flows
