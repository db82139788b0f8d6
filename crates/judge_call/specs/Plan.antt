-- What is put, and what it means that it was.
use Rattle.std.specs.Prelude.{◌≡◌, ℕ, ◌+◌, Bool, true, false, List, [], ◌∷◌, ◌++◌, Option, Some, None, IfSome, IsSomeAnd, Result, OnOk, IfErr}
use Rattle.sides.specs.declared.side.Side.TheVariants.{A, B}
use Rattle.outside_kit.specs.Calls.{Call, Made, Load, Bind, Put}
use Rattle.outside_kit.specs.declared.port.Port.{Port}
use Rattle.outside_kit.specs.declared.port.Port.TheVariants as port
use Rattle.seen_octets.specs.declared.octet.Octet.{Octet}
use Rattle.rule_book.specs.State.{BookValue, JudgedValue}
use Rattle.capture_verdict.specs.Report.{report_words}
use Rattle.capture_verdict.specs.Sent.{IsSent}
use Rattle.judge_call.specs.declared.status.Status.{Status}
use Rattle.judge_call.specs.declared.status.Status.TheVariants as ends
use Rattle.judge_call.specs.Streams.{stream_name}

-- ---- steps

-- a call, or a put of the octets that a side sent, as far as they were seen
pub data Step : Type 0 where
  Does : Call → Step
  PutsSent : Port → (ℕ → Option Octet) → Step

-- the call is the one of the step
abbrev pub IsOf : Step → Call → Type 0
IsOf (Does wanted) call = call ≡ wanted
IsOf (PutsSent wanted octet) (Put port octets) = (port ≡ wanted) × IsSent octet octets
IsOf (PutsSent wanted octet) call = ⊥

-- a stream under its name
abbrev pub stream_steps : Port → List ℕ → (ℕ → Option Octet) → List Step
stream_steps port name octet = Does (Bind port name) ∷ PutsSent port octet ∷ []

-- both streams of a connection, A's first
abbrev pub book_steps : List ℕ → ℕ → BookValue → List Step
book_steps prefix number book =
    stream_steps port.ReadByB (stream_name prefix number A) book.a.octet ++ stream_steps port.ReadByA (stream_name prefix number B) book.b.octet

-- those of all connections from a number on
abbrev pub books_steps : List ℕ → ℕ → List BookValue → List Step
books_steps prefix number [] = []
books_steps prefix number (book ∷ books) = book_steps prefix number book ++ books_steps prefix (number + 1) books

-- where it's asked for
abbrev pub steps_if : Option (List ℕ) → List BookValue → List Step
steps_if None books = []
steps_if (Some prefix) books = books_steps prefix 0 books

-- what is put of what was judged: the lines, and the streams where that is asked
abbrev pub puts_of : Option (List ℕ) → JudgedValue → List Step
puts_of prefix judged = Does (Put port.Log (report_words judged)) ∷ steps_if prefix judged.books

-- ---- calls that were made

-- where the calls are told afterwards, they were told before, and these were added
abbrev pub Adds : List Made → Option (List Made) → Option (List Made) → Type 0
Adds made old new = IfSome new (λ after. IsSomeAnd old (λ before. after ≡ before ++ made))

abbrev pub failed : Call → Made
failed call = record { call = call; ok = false }

-- one call for each step, in their order, and all succeeded
abbrev pub AreDone : List Step → List Made → Type 0
AreDone [] [] = Unit {0}
AreDone (step ∷ plan) (made ∷ more) = IsOf step made.call × (made.ok ≡ true) × AreDone plan more
AreDone plan made = ⊥

-- a call that fails ends the judge with this status
abbrev pub Ends : Call → Status → Type 0
Ends call ends.Memory = Unit {0}
Ends (Load name) status = ⊥
Ends call ends.Put = Unit {0}
Ends call status = ⊥

-- the first of two properties where a call succeeded, or else the second
abbrev pub IfSucceeded : Bool → Type 0 → Type 0 → Type 0
IfSucceeded true this that = this
IfSucceeded false this that = that

-- The first steps were done, in their order: up to a call that failed and ended the judge with this status, or to the want of memory
-- between two.
abbrev pub AreCutAt : List Step → Status → List Made → Type 0
AreCutAt plan status [] = status ≡ ends.Memory
AreCutAt [] status (made ∷ more) = ⊥
AreCutAt (step ∷ plan) status (made ∷ more) = IsOf step made.call × IfSucceeded made.ok (AreCutAt plan status more) ((more ≡ []) × Ends made.call status)

abbrev pub AddsAll : List Step → Option (List Made) → Option (List Made) → Type 0
AddsAll plan old new = (made : List Made) × AreDone plan made × Adds made old new

abbrev pub AddsCut : List Step → Status → Option (List Made) → Option (List Made) → Type 0
AddsCut plan status old new = (made : List Made) × AreCutAt plan status made × Adds made old new

-- All steps of a plan were done; or its first ones, and then a call failed or memory was wanting.
pub record Follows {X : Type 0} (plan : List Step) (old new : Option (List Made)) (result : Result X Status) : Type 0 where
  pub done : OnOk result (AddsAll plan old new)
  pub cut : IfErr result (λ status. AddsCut plan status old new)
