-- A run as one object.
use Rattle.std.specs.Prelude.{◌≡◌, ℕ, Some, List, codes, map, string_bytes}
use Rattle.key_material.specs.KeyDigest.{token_of}
use Rattle.link_script.specs.declared.script.Script.{Script}
use Rattle.link_trace.specs.declared.carried.Carried.{Carried}
use Rattle.link_trace.specs.declared.rows.Row.{Row}
use Rattle.link_trace.specs.declared.sent.Sent.{Sent}
use Rattle.serde_json.specs.Data.{Data, Members, number, unsigned, string, array, object, member, no_members, put}
use Rattle.serde_json.specs.Read.{read}
use Rattle.serde_json.specs.View.{items_of}
use Rattle.serde_json.specs.Written.{compact_text}
use Rattle.trace_json.specs.Fields.{hexadecimal}
use Rattle.trace_json.specs.Scripts.{script_data}
use Rattle.trace_json.specs.Segments.{Others, segments_data}
use Rattle.trace_json.specs.Totals.{rows_data}
use Rattle.trace_json.specs.declared.whole.Told.{Told}

-- What is told of a run: its script, both keys, the tick at which it ended, its segments, what each of them carries, the words of each of
-- them, and the sums of both directions of each path.
pub record Run : Type 0 where
  pub script : Script
  pub key_a : ℕ
  pub key_b : ℕ
  pub end : ℕ
  pub trace : List Sent
  pub carried : List Carried
  pub words : List (List ℕ)
  pub rows : List Row

abbrev pub told_of : Told → Run
told_of told = record {
  script = told.script.now;
  key_a = told.key_a;
  key_b = told.key_b;
  end = told.end;
  trace = told.trace.now;
  carried = told.carried.now;
  words = map string_bytes told.words.now;
  rows = told.rows.now;
}

-- of both sides
abbrev pub keys_data : ℕ → ℕ → Data
keys_data a b = object (
    member (codes "a") (string (hexadecimal a)) (
    member (codes "b") (string (hexadecimal b)) no_members))

-- the tokens of both keys (RFC 8684, section 3.2)
abbrev pub tokens_data : ℕ → ℕ → Data
tokens_data a b = keys_data (token_of a) (token_of b)

abbrev pub others_of : Run → Others
others_of run = record { paths = run.script.paths; end = run.end; checksums = run.script.checksum; carried = run.carried; words = run.words }

-- a run's keys, tokens and end, and its lists, put to other members
abbrev pub with_keys : Run → Members → Members
with_keys run ms =
    put (codes "tokens") (tokens_data run.key_a run.key_b) (
    put (codes "keys") (keys_data run.key_a run.key_b) (
    put (codes "end") (number (unsigned run.end)) ms))

abbrev pub with_lists : Run → Members → Members
with_lists run ms =
    put (codes "totals") (array (items_of (rows_data run.rows))) (
    put (codes "segments") (array (items_of (segments_data (others_of run) run.trace))) (
    put (codes "script") (script_data run.script) ms))

abbrev pub run_data : Run → Data
run_data run = object (
    member (codes "end") (number (unsigned run.end)) (
    member (codes "keys") (keys_data run.key_a run.key_b) (
    member (codes "script") (script_data run.script) (
    member (codes "segments") (array (items_of (segments_data (others_of run) run.trace))) (
    member (codes "tokens") (tokens_data run.key_a run.key_b) (
    member (codes "totals") (array (items_of (rows_data run.rows))) no_members))))))

-- the JSON of a run: the text of its object without spaces or line ends, which reads back as that object
abbrev pub IsJsonOf : Run → List ℕ → Type 0
IsJsonOf run text = (text ≡ compact_text (run_data run)) × (read text ≡ Some (run_data run))
