-- A page: a fixed text, the JSON of a run as it may stand in HTML, a fixed text. Both fixed texts stand once, where the page is written.
use Rattle.std.specs.Prelude.{ℕ, ◌==◌, if◌then◌else◌, List, [], ◌∷◌, ◌++◌, codes}
use Rattle.std.specs.List.{flat_map}
use Rattle.trace_json.specs.declared.page_head.TheConstants.{HEAD}
use Rattle.trace_json.specs.declared.page_script.TheConstants.{TAIL}

-- Tags and comments of HTML begin with `<`. In JSON it stands within strings alone, where `\u003c` is the same character (RFC 8259, section 7).
abbrev pub html_octet : ℕ → List ℕ
html_octet octet = if octet == 60 then codes "\\u003c" else octet ∷ []

abbrev pub within_html : List ℕ → List ℕ
within_html json = flat_map html_octet json

abbrev pub page_of : List ℕ → List ℕ
page_of json = HEAD.now ++ (within_html json ++ TAIL.now)
