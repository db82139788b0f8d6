use Rattle.std.proofs.Common.{◌≡◌, ◌++◌, drop}
use Rattle.trace_json.specs.Pages.{within_html}
use Rattle.trace_json.proofs.paging.put_within_html.Given as goal

abbrev pub invariant-loop-octet : goal.invariant-loop-octet
invariant-loop-octet l = l.text.items ++ within_html (drop l.octet-index l.json) ≡ l.fn.text.items ++ within_html l.json
