-- What was called, and the answer.
use Rattle.std.proofs.Common.{◌≡◌, ◌≢◌, refl, sym, ap, ◌∙◌, subst, ℕ, Bool, true, false, ◌⊎◌, inl, inr, Option, Some, None, IfSome, List, [], ◌∷◌, ◌++◌, Result, Ok, Err}
use Rattle.outside_kit.specs.Calls.{AreCallsAfter, Bind, Call, Load, Made, Put}
use Rattle.outside_kit.specs.Outside.{Told}
use Rattle.rule_book.specs.State.{JudgedValue}
use Rattle.capture_verdict.specs.Ending.{ending_of}
use Rattle.capture_verdict.specs.Judging.{judged_capture}
use Rattle.capture_verdict.specs.declared.ending.Ending.{Ending}
use Rattle.capture_verdict.specs.declared.ending.Ending.TheVariants as ending
use Rattle.judge_call.specs.declared.status.Status.{Status}
use Rattle.judge_call.specs.declared.status.Status.TheVariants as ends
use Rattle.judge_call.specs.Answers.{IsAnswered, IsFormless, IsJudged, IsShown, IsTold, plan_of}
use Rattle.judge_call.specs.Plan.{AddsAll, AddsCut, AreCutAt, Does, Ends, IfSucceeded, Step, puts_of}
use Rattle.judge_call.specs.Status.{status_of}
use Rattle.judge_call.specs.Words.{Line}
use Rattle.judge_call.proofs.Planned.{ToldCalls, cut_between, cut_first, cut_then, done_then}

-- ---- a plan is cut off by a call that failed, or for want of memory

ends_by : (call : Call) (status : Status) → Ends call status → (status ≡ ends.Put) ⊎ (status ≡ ends.Memory)
ends_by call ends.Memory h = inr refl
ends_by (Load name) status h = absurd h
ends_by call ends.Put h = inl refl
ends_by call status h = absurd h

cut_by : (plan : List Step) (status : Status) (made : List Made) → AreCutAt plan status made → (status ≡ ends.Put) ⊎ (status ≡ ends.Memory)
cut_by plan status [] h = inr h
cut_by [] status (m ∷ made) h = absurd h
cut_by (step ∷ plan) status (m ∷ made) h = by m.ok (λ k. cut_by plan status made k) h.1
  where
    by : (b : Bool) → (AreCutAt plan status made → (status ≡ ends.Put) ⊎ (status ≡ ends.Memory)) → IfSucceeded b (AreCutAt plan status made) ((made ≡ []) × Ends m.call status)
        → (status ≡ ends.Put) ⊎ (status ≡ ends.Memory)
    by true f k = f k
    by false f k = ends_by m.call status k.1

never : (plan : List Step) (status : Status) (a b : ToldCalls) → status ≢ ends.Put → status ≢ ends.Memory → AddsCut plan status a b → ⊥
never plan status a b no_put no_memory h = elim (cut_by plan status h.0 h.1) [ inl put ↦ no_put put | inr memory ↦ no_memory memory ]

-- ---- what was judged is told

ended : (line : Line) (judged : JudgedValue) (old new : ToldCalls) (e : Ending) → AddsAll (plan_of line judged) old new → ending_of judged ≡ e
    → IsTold line judged old new (status_of e)
ended line judged old new ending.Kept all is = (all, sym (ap status_of is))
ended line judged old new ending.Broken all is = (all, sym (ap status_of is))
ended line judged old new ending.NoConnection all is = (all, sym (ap status_of is))

pub told_all : (line : Line) (judged : JudgedValue) (old loaded new : ToldCalls) → AddsAll (Does (Load line.capture) ∷ []) old loaded
    → AddsAll (puts_of line.streams judged) loaded new → IsTold line judged old new (status_of (ending_of judged))
told_all line judged old loaded new load put =
    ended line judged old new (ending_of judged) (done_then (Does (Load line.capture) ∷ []) (puts_of line.streams judged) old loaded new load put) refl

by_cut : (line : Line) (judged : JudgedValue) (old new : ToldCalls) (status : Status) → AddsCut (plan_of line judged) status old new → IsTold line judged old new status
by_cut line judged old new ends.Put cut = cut
by_cut line judged old new ends.Memory cut = cut
by_cut line judged old new ends.Kept cut = absurd (never (plan_of line judged) ends.Kept old new (λ e. cc) (λ e. cc) cut)
by_cut line judged old new ends.Broken cut = absurd (never (plan_of line judged) ends.Broken old new (λ e. cc) (λ e. cc) cut)
by_cut line judged old new ends.NoConnection cut = absurd (never (plan_of line judged) ends.NoConnection old new (λ e. cc) (λ e. cc) cut)
by_cut line judged old new ends.Usage cut = absurd (never (plan_of line judged) ends.Usage old new (λ e. cc) (λ e. cc) cut)
by_cut line judged old new ends.Load cut = absurd (never (plan_of line judged) ends.Load old new (λ e. cc) (λ e. cc) cut)
by_cut line judged old new ends.TooLong cut = absurd (never (plan_of line judged) ends.TooLong old new (λ e. cc) (λ e. cc) cut)
by_cut line judged old new (ends.Block octet) cut = absurd (never (plan_of line judged) (ends.Block octet) old new (λ e. cc) (λ e. cc) cut)

pub told_cut : (line : Line) (judged : JudgedValue) (old loaded new : ToldCalls) (status : Status) → AddsAll (Does (Load line.capture) ∷ []) old loaded
    → AddsCut (puts_of line.streams judged) status loaded new → IsTold line judged old new status
told_cut line judged old loaded new status load cut =
    by_cut line judged old new status (cut_then (Does (Load line.capture) ∷ []) (puts_of line.streams judged) status old loaded new load cut)

-- ---- by what the octets show

pub shown_told : (line : Line) (judged : JudgedValue) (shown : Result JudgedValue ℕ) (old new : ToldCalls) (status : Status) → shown ≡ Ok judged
    → IsTold line judged old new status → IsShown line shown old new status
shown_told line judged shown old new status is told = rw is told

pub shown_block : (line : Line) (shown : Result JudgedValue ℕ) (old new : ToldCalls) (octet : ℕ) → shown ≡ Err octet
    → AddsAll (Does (Load line.capture) ∷ []) old new → IsShown line shown old new (ends.Block octet)
shown_block line shown old new octet is load = rw is (load, refl)

-- memory ran out behind the load
pub memory_shown : (line : Line) (shown : Result JudgedValue ℕ) (old new : ToldCalls) → AddsAll (Does (Load line.capture) ∷ []) old new
    → IsShown line shown old new ends.Memory
memory_shown line (Ok judged) old new load = cut_between (Does (Load line.capture) ∷ []) (puts_of line.streams judged) old new load
memory_shown line (Err octet) old new load = cut_between (Does (Load line.capture) ∷ []) [] old new load

-- or at it
memory_at_load : (line : Line) (shown : Result JudgedValue ℕ) (old new : ToldCalls) → AreCallsAfter (Load line.capture) false old new
    → IsShown line shown old new ends.Memory
memory_at_load line (Ok judged) old new load = cut_first (Load line.capture) (puts_of line.streams judged) ends.Memory old new tt load
memory_at_load line (Err octet) old new load = cut_first (Load line.capture) [] ends.Memory old new tt load

-- ---- the answer

usage_ends : (e : Ending) → ends.Usage ≡ status_of e → ⊥
usage_ends ending.Kept h = cc
usage_ends ending.Broken h = cc
usage_ends ending.NoConnection h = cc

load_ends : (e : Ending) → ends.Load ≡ status_of e → ⊥
load_ends ending.Kept h = cc
load_ends ending.Broken h = cc
load_ends ending.NoConnection h = cc

too_long_ends : (e : Ending) → ends.TooLong ≡ status_of e → ⊥
too_long_ends ending.Kept h = cc
too_long_ends ending.Broken h = cc
too_long_ends ending.NoConnection h = cc

-- what octets show isn't told so
no_usage : (line : Line) (shown : Result JudgedValue ℕ) (old new : ToldCalls) → IsShown line shown old new ends.Usage → ⊥
no_usage line (Ok judged) old new h = usage_ends (ending_of judged) h.1
no_usage line (Err octet) old new h = let is : ends.Usage ≡ ends.Block octet = h.1 in cc

no_load : (line : Line) (shown : Result JudgedValue ℕ) (old new : ToldCalls) → IsShown line shown old new ends.Load → ⊥
no_load line (Ok judged) old new h = load_ends (ending_of judged) h.1
no_load line (Err octet) old new h = let is : ends.Load ≡ ends.Block octet = h.1 in cc

not_too_long : (line : Line) (shown : Result JudgedValue ℕ) (old new : ToldCalls) → IsShown line shown old new ends.TooLong → ⊥
not_too_long line (Ok judged) old new h = too_long_ends (ending_of judged) h.1
not_too_long line (Err octet) old new h = let is : ends.TooLong ≡ ends.Block octet = h.1 in cc

if_told : (content : Option (List ℕ)) (octets : List ℕ) (P : List ℕ → Type 0) → IfSome content (λ told. octets ≡ told) → P octets → IfSome content P
if_told None octets P same p = tt
if_told (Some told) octets P same p = subst P same p

pub answered : (line : Line) (octets : List ℕ) (old new : Told) (status : Status) → IfSome (old.content line.capture) (λ told. octets ≡ told)
    → IsJudged line octets old.calls new.calls status → IsAnswered line old new status
answered line octets old new ends.Usage same is = no_usage line (judged_capture line.at line.check_sums octets) old.calls new.calls is
answered line octets old new ends.Load same is = absurd (no_load line (judged_capture line.at line.check_sums octets) old.calls new.calls is)
answered line octets old new ends.TooLong same is = absurd (not_too_long line (judged_capture line.at line.check_sums octets) old.calls new.calls is)
answered line octets old new ends.Kept same is = if_told (old.content line.capture) octets (λ o. IsJudged line o old.calls new.calls ends.Kept) same is
answered line octets old new ends.Broken same is = if_told (old.content line.capture) octets (λ o. IsJudged line o old.calls new.calls ends.Broken) same is
answered line octets old new ends.NoConnection same is = if_told (old.content line.capture) octets (λ o. IsJudged line o old.calls new.calls ends.NoConnection) same is
answered line octets old new ends.Put same is = if_told (old.content line.capture) octets (λ o. IsJudged line o old.calls new.calls ends.Put) same is
answered line octets old new ends.Memory same is = if_told (old.content line.capture) octets (λ o. IsJudged line o old.calls new.calls ends.Memory) same is
answered line octets old new (ends.Block octet) same is =
    if_told (old.content line.capture) octets (λ o. IsJudged line o old.calls new.calls (ends.Block octet)) same is

pub out_of_memory : (line : Line) (old new : Told) → AreCallsAfter (Load line.capture) false old.calls new.calls → IsAnswered line old new ends.Memory
out_of_memory line old new load = by (old.content line.capture)
  where
    by : (content : Option (List ℕ)) → IfSome content (λ octets. IsJudged line octets old.calls new.calls ends.Memory)
    by None = tt
    by (Some octets) = memory_at_load line (judged_capture line.at line.check_sums octets) old.calls new.calls load
