-- What stands at a place of a list, or that nothing does.
use Rattle.std.proofs.Common.{◌≡◌, ℕ, ◌<◌, ◌≤◌, length, get_or, List, String, string_bytes, Some, map, slice_get, option_map, sym, ap, ◌∙◌, rules}
use Rattle.std.proofs.lemmas.Option.{slice_get-get_or, slice_get-map, slice_get_past}
use Rattle.std.specs.declared.alloc.Global.{Global}
use Rattle.serde_json.specs.Data.{null, string}
use Rattle.serde_json.specs.View.{view}
use Rattle.serde_json.specs.declared.value.Value.{Null, the_lemmas}
use Rattle.link_trace.specs.declared.carried.Carried.{Carried}
use Rattle.trace_json.specs.Segments.{carried_data, data_of, text_data}

view-Null : view Null ≡ null
view-Null = search (rules, the_lemmas)

pub no_words : (words : List (String Global)) (place : ℕ) → length words ≤ place → view Null ≡ text_data (slice_get (map string_bytes words) place)
no_words words place past = view-Null ∙ sym (ap text_data (slice_get-map string_bytes words place ∙ ap (option_map string_bytes) (slice_get_past words place past)))

pub some_words : (words : List (String Global)) (place : ℕ) (line : String Global) → place < length words → line ≡ get_or words place line
    → string (string_bytes line) ≡ text_data (slice_get (map string_bytes words) place)
some_words words place line within is =
    sym (ap text_data (slice_get-map string_bytes words place ∙ ap (option_map string_bytes) (slice_get-get_or words place line within ∙ ap Some (sym is))))

pub no_carried : (carried : List Carried) (place : ℕ) → length carried ≤ place → view Null ≡ data_of (slice_get carried place)
no_carried carried place past = view-Null ∙ sym (ap data_of (slice_get_past carried place past))

pub some_carried : (carried : List Carried) (place : ℕ) (c : Carried) → place < length carried → c ≡ get_or carried place c → carried_data c ≡ data_of (slice_get carried place)
some_carried carried place c within is = sym (ap data_of (slice_get-get_or carried place c within ∙ ap Some (sym is)))
