-- What the judge answers: exactly what the definitions make of the octets of the capture.
use Rattle.std.specs.Prelude.{◌≡◌, ℕ, ◌<◌, List, [], ◌∷◌, length, Option, Some, None, IfSome, Result, Ok, Err}
use Rattle.outside_kit.specs.Calls.{Made, Load}
use Rattle.outside_kit.specs.Outside.{Told, HasRisen}
use Rattle.rule_book.specs.State.{JudgedValue}
use Rattle.capture_verdict.specs.Ending.{ending_of}
use Rattle.capture_verdict.specs.Judging.{judged_capture}
use Rattle.judge_call.specs.declared.status.Status.{Status}
use Rattle.judge_call.specs.declared.status.Status.TheVariants as ends
use Rattle.judge_call.specs.Plan.{Adds, AddsAll, AddsCut, Does, Step, failed, puts_of}
use Rattle.judge_call.specs.Status.{status_of}
use Rattle.judge_call.specs.Words.{Line}

-- the capture is loaded, and what was judged is told
abbrev pub plan_of : Line → JudgedValue → List Step
plan_of line judged = Does (Load line.capture) ∷ puts_of line.streams judged

-- what was judged is told whole, with the status that it has, or up to where writing failed or memory ran out
abbrev pub IsTold : Line → JudgedValue → Option (List Made) → Option (List Made) → Status → Type 0
IsTold line judged old new ends.Put = AddsCut (plan_of line judged) ends.Put old new
IsTold line judged old new ends.Memory = AddsCut (plan_of line judged) ends.Memory old new
IsTold line judged old new status = AddsAll (plan_of line judged) old new × (status ≡ status_of (ending_of judged))

-- Where the block at an octet has no form, the load alone was made. Memory may run out before.
abbrev pub IsFormless : Line → ℕ → Option (List Made) → Option (List Made) → Status → Type 0
IsFormless line octet old new ends.Memory = AddsCut (Does (Load line.capture) ∷ []) ends.Memory old new
IsFormless line octet old new status = AddsAll (Does (Load line.capture) ∷ []) old new × (status ≡ ends.Block octet)

-- by what the octets show: all that they show is judged, or the block at an octet has no form
abbrev pub IsShown : Line → Result JudgedValue ℕ → Option (List Made) → Option (List Made) → Status → Type 0
IsShown line (Ok judged) old new status = IsTold line judged old new status
IsShown line (Err octet) old new status = IsFormless line octet old new status

-- the octets of a capture, where its content is told
abbrev pub IsJudged : Line → List ℕ → Option (List Made) → Option (List Made) → Status → Type 0
IsJudged line octets old new status = IsShown line (judged_capture line.at line.check_sums octets) old new status

-- the load of the capture was made alone, and failed
abbrev pub HasNotLoaded : Line → Told → Told → Type 0
HasNotLoaded line old new = Adds (failed (Load line.capture) ∷ []) old.calls new.calls

-- the line of the words: the capture couldn't be loaded, or is too long, or it was judged
abbrev pub IsAnswered : Line → Told → Told → Status → Type 0
IsAnswered line old new ends.Usage = ⊥
IsAnswered line old new ends.Load = HasRisen old.load_faults new.load_faults × HasNotLoaded line old new
IsAnswered line old new ends.TooLong = IfSome (old.content line.capture) (λ octets. 268435456 < length octets) × HasNotLoaded line old new
IsAnswered line old new status = IfSome (old.content line.capture) (λ octets. IsJudged line octets old.calls new.calls status)

-- the words break the form, and nothing was called; or their line was answered
abbrev pub IsAnswer : Option Line → Told → Told → Status → Type 0
IsAnswer None old new status = (status ≡ ends.Usage) × (new.calls ≡ old.calls)
IsAnswer (Some line) old new status = IsAnswered line old new status
