-- The page of a run is that over its JSON.
use Rattle.std.proofs.Common.{◌≡◌, ℕ, List, Vec, Global, Result, Ok, Err, IfOk, ap, ◌∙◌}
use Rattle.trace_json.specs.Pages.{page_of}
use Rattle.trace_json.specs.Runs.{IsJsonOf, Run}
use Rattle.mptcp_view.specs.Views.{IsPageOf}

pub paged : {E : Type 0} (run : Run) (json given : List ℕ) (answer : Result (Vec ℕ Global) E) → IsJsonOf run json → given ≡ json
    → IfOk answer (λ page. page.items ≡ page_of given) → IfOk answer (λ shown. IsPageOf run shown.items)
paged run json given (Ok page) is same page_is = (json, (is, page_is ∙ ap page_of same))
paged run json given (Err fault) is same page_is = tt
