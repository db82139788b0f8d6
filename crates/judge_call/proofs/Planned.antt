-- Steps that were done, one part after the other.
use Rattle.std.proofs.Common.{◌≡◌, refl, sym, ◌∙◌, ap, subst, ℕ, ◌+◌, ◌<◌, Bool, true, false, Option, Some, None, IfSome, List, [], ◌∷◌, ◌++◌, drop, get_or, length, map, Result, Ok, Err}
use Rattle.std.proofs.lemmas.List.{append-nil, append_assoc, at_drop_more}
use Rattle.outside_kit.specs.Calls.{AreCallsAfter, Call, Made, Put}
use Rattle.outside_kit.specs.declared.port.Port.{Port}
use Rattle.seen_octets.specs.declared.octet.Octet.{Octet}
use Rattle.rule_book.specs.State.{BookValue, book_of}
use Rattle.rule_book.specs.declared.book.Book.{Book}
use Rattle.capture_verdict.specs.Sent.{IsSent}
use Rattle.judge_call.specs.declared.status.Status.{Status}
use Rattle.judge_call.specs.declared.status.Status.TheVariants as ends
use Rattle.judge_call.specs.Plan.{Adds, AddsAll, AddsCut, AreCutAt, AreDone, Does, Ends, Follows, IfSucceeded, IsOf, PutsSent, Step, book_steps, books_steps, failed}

abbrev pub ToldCalls : Type 0
ToldCalls = Option (List Made)

adds_none : (a : ToldCalls) → Adds [] a a
adds_none None = tt
adds_none (Some before) = sym (append-nil before)

adds_then : (xs ys : List Made) (a b c : ToldCalls) → Adds xs a b → Adds ys b c → Adds (xs ++ ys) a c
adds_then xs ys a b None h k = tt
adds_then xs ys a None (Some after) h k = absurd k
adds_then xs ys None (Some middle) (Some after) h k = absurd h
adds_then xs ys (Some before) (Some middle) (Some after) h k = k ∙ ap (λ zs. zs ++ ys) h ∙ append_assoc before xs ys

-- ---- all of a plan

both_done : (xs ys : List Step) (made more : List Made) → AreDone xs made → AreDone ys more → AreDone (xs ++ ys) (made ++ more)
both_done [] ys [] more h k = k
both_done [] ys (m ∷ made) more h k = absurd h
both_done (x ∷ xs) ys [] more h k = absurd h
both_done (x ∷ xs) ys (m ∷ made) more h k = (h.0, h.1, both_done xs ys made more h.2 k)

pub done_then : (xs ys : List Step) (a b c : ToldCalls) → AddsAll xs a b → AddsAll ys b c → AddsAll (xs ++ ys) a c
done_then xs ys a b c h k = (h.0 ++ k.0, both_done xs ys h.0 k.0 h.1 k.1, adds_then h.0 k.0 a b c h.2 k.2)

pub none_done : (a : ToldCalls) → AddsAll [] a a
none_done a = ([], tt, adds_none a)

-- ---- its first steps

cut_behind : (xs ys : List Step) (status : Status) (made more : List Made) → AreDone xs made → AreCutAt ys status more → AreCutAt (xs ++ ys) status (made ++ more)
cut_behind [] ys status [] more h k = k
cut_behind [] ys status (m ∷ made) more h k = absurd h
cut_behind (x ∷ xs) ys status [] more h k = absurd h
cut_behind (x ∷ xs) ys status (m ∷ made) more h k = (
  h.0,
  subst (λ (b : Bool). IfSucceeded b (AreCutAt (xs ++ ys) status (made ++ more)) ((made ++ more ≡ []) × Ends m.call status)) (sym h.1) (cut_behind xs ys status made more h.2 k),
)

pub cut_then : (xs ys : List Step) (status : Status) (a b c : ToldCalls) → AddsAll xs a b → AddsCut ys status b c → AddsCut (xs ++ ys) status a c
cut_then xs ys status a b c h k = (h.0 ++ k.0, cut_behind xs ys status h.0 k.0 h.1 k.1, adds_then h.0 k.0 a b c h.2 k.2)

longer : (xs more : List Step) (status : Status) (made : List Made) → AreCutAt xs status made → AreCutAt (xs ++ more) status made
longer xs more status [] h = h
longer [] more status (m ∷ made) h = absurd h
longer (x ∷ xs) more status (m ∷ made) h = (h.0, by m.ok (λ k. longer xs more status made k) h.1)
  where
    by : (b : Bool) → (AreCutAt xs status made → AreCutAt (xs ++ more) status made) → IfSucceeded b (AreCutAt xs status made) ((made ≡ []) × Ends m.call status)
        → IfSucceeded b (AreCutAt (xs ++ more) status made) ((made ≡ []) × Ends m.call status)
    by true f k = f k
    by false f k = k

pub cut_longer : (xs more : List Step) (status : Status) (a b : ToldCalls) → AddsCut xs status a b → AddsCut (xs ++ more) status a b
cut_longer xs more status a b h = (h.0, longer xs more status h.0 h.1, h.2)

-- nothing was done, for want of memory
pub cut_none : (plan : List Step) (a : ToldCalls) → AddsCut plan ends.Memory a a
cut_none plan a = ([], refl, adds_none a)

-- nor more than a first part
pub cut_between : (xs ys : List Step) (a b : ToldCalls) → AddsAll xs a b → AddsCut (xs ++ ys) ends.Memory a b
cut_between xs ys a b h = cut_then xs ys ends.Memory a b b h (cut_none ys b)

-- the first call failed
pub cut_first : (call : Call) (plan : List Step) (status : Status) (a b : ToldCalls) → Ends call status → AreCallsAfter call false a b → AddsCut (Does call ∷ plan) status a b
cut_first call plan status a b ends h = (failed call ∷ [], (refl, (refl, ends)), h)

pub one_done : (call : Call) (a b : ToldCalls) → AreCallsAfter call true a b → AddsAll (Does call ∷ []) a b
one_done call a b h = (record { call = call; ok = true } ∷ [], (refl, refl, tt), h)

-- ---- what a part of a function did

pub follows_done : {X : Type 0} → (call : Call) (a b : ToldCalls) (x : X) → AreCallsAfter call true a b → Follows (Does call ∷ []) a b (Ok x)
follows_done call a b x h = record { done = one_done call a b h; cut = tt }

pub follows_failed : {X : Type 0} → (call : Call) (status : Status) (a b : ToldCalls) → Ends call status → AreCallsAfter call false a b
    → Follows {X = X} (Does call ∷ []) a b (Err status)
follows_failed call status a b ends h = record { done = tt; cut = cut_first call [] status a b ends h }

pub follows_none : {X : Type 0} → (plan : List Step) (a : ToldCalls) → Follows {X = X} plan a a (Err ends.Memory)
follows_none plan a = record { done = tt; cut = cut_none plan a }

pub follows_then : {X : Type 0} → (xs ys : List Step) (a b c : ToldCalls) (r : Result X Status) → AddsAll xs a b → Follows ys b c r → Follows (xs ++ ys) a c r
follows_then xs ys a b c (Ok x) h k = record { done = done_then xs ys a b c h k.done; cut = tt }
follows_then xs ys a b c (Err status) h k = record { done = tt; cut = cut_then xs ys status a b c h k.cut }

-- its first part was cut off
pub follows_longer : {X Y : Type 0} → (xs ys : List Step) (a b : ToldCalls) (status : Status) → Follows {X = X} xs a b (Err status) → Follows {X = Y} (xs ++ ys) a b (Err status)
follows_longer xs ys a b status h = record { done = tt; cut = cut_longer xs ys status a b h.cut }

-- memory was wanting behind it
pub follows_between : {X : Type 0} → (xs ys : List Step) (a b : ToldCalls) → AddsAll xs a b → Follows {X = X} (xs ++ ys) a b (Err ends.Memory)
follows_between xs ys a b h = record { done = tt; cut = cut_between xs ys a b h }

-- ---- octets that were sent

sent_done : (port : Port) (octet : ℕ → Option Octet) (octets : List ℕ) (made : List Made) → IsSent octet octets → AreDone (Does (Put port octets) ∷ []) made
    → AreDone (PutsSent port octet ∷ []) made
sent_done port octet octets [] sent h = absurd h
sent_done port octet octets (m ∷ made) sent h = (subst (IsOf (PutsSent port octet)) (sym h.0) (refl, sent), h.1, h.2)

sent_cut : (port : Port) (octet : ℕ → Option Octet) (octets : List ℕ) (status : Status) (made : List Made) → IsSent octet octets → AreCutAt (Does (Put port octets) ∷ []) status made
    → AreCutAt (PutsSent port octet ∷ []) status made
sent_cut port octet octets status [] sent h = h
sent_cut port octet octets status (m ∷ made) sent h = (subst (IsOf (PutsSent port octet)) (sym h.0) (refl, sent), h.1)

pub follows_sent : {X : Type 0} → (port : Port) (octet : ℕ → Option Octet) (octets : List ℕ) (a b : ToldCalls) (r : Result X Status) → IsSent octet octets
    → Follows (Does (Put port octets) ∷ []) a b r → Follows (PutsSent port octet ∷ []) a b r
follows_sent port octet octets a b (Ok x) sent h = record { done = (h.done.0, sent_done port octet octets h.done.0 sent h.done.1, h.done.2); cut = tt }
follows_sent port octet octets a b (Err status) sent h = record { done = tt; cut = (h.cut.0, sent_cut port octet octets status h.cut.0 sent h.cut.1, h.cut.2) }

-- ---- both streams of each connection

-- those of one, and then those of the others
pub book_done : (prefix : List ℕ) (number index : ℕ) (books : List Book) (x d : Book) (a b c : ToldCalls) → index < length books → x ≡ get_or books index d
    → AddsAll (book_steps prefix number (book_of x)) a b → AddsAll (books_steps prefix (number + 1) (map book_of (drop (index + 1) books))) b c
    → AddsAll (books_steps prefix number (map book_of (drop index books))) a c
book_done prefix number index books x d a b c within is h k =
    subst (λ (rest : List BookValue). AddsAll (books_steps prefix number rest) a c) (sym (at_drop_more (map book_of) books index d within))
    (done_then (book_steps prefix number (book_of (get_or books index d))) (books_steps prefix (number + 1) (map book_of (drop (index + 1) books))) a b c
    (subst (λ (y : Book). AddsAll (book_steps prefix number (book_of y)) a b) is h) k)

pub book_then : (prefix : List ℕ) (number index : ℕ) (books : List Book) (x d : Book) (status : Status) (a b c : ToldCalls) → index < length books → x ≡ get_or books index d
    → AddsAll (book_steps prefix number (book_of x)) a b → AddsCut (books_steps prefix (number + 1) (map book_of (drop (index + 1) books))) status b c
    → AddsCut (books_steps prefix number (map book_of (drop index books))) status a c
book_then prefix number index books x d status a b c within is h k =
    subst (λ (rest : List BookValue). AddsCut (books_steps prefix number rest) status a c) (sym (at_drop_more (map book_of) books index d within))
    (cut_then (book_steps prefix number (book_of (get_or books index d))) (books_steps prefix (number + 1) (map book_of (drop (index + 1) books))) status a b c
    (subst (λ (y : Book). AddsAll (book_steps prefix number (book_of y)) a b) is h) k)

-- those of one were cut off
pub book_cut : (prefix : List ℕ) (number index : ℕ) (books : List Book) (x d : Book) (status : Status) (a b : ToldCalls) → index < length books → x ≡ get_or books index d
    → AddsCut (book_steps prefix number (book_of x)) status a b → AddsCut (books_steps prefix number (map book_of (drop index books))) status a b
book_cut prefix number index books x d status a b within is h =
    subst (λ (rest : List BookValue). AddsCut (books_steps prefix number rest) status a b) (sym (at_drop_more (map book_of) books index d within))
    (cut_longer (book_steps prefix number (book_of (get_or books index d))) (books_steps prefix (number + 1) (map book_of (drop (index + 1) books))) status a b
    (subst (λ (y : Book). AddsCut (book_steps prefix number (book_of y)) status a b) is h))

pub follows_end : {X : Type 0} → (plan : List Step) (a b : ToldCalls) (status : Status) → AddsCut plan status a b → Follows {X = X} plan a b (Err status)
follows_end plan a b status h = record { done = tt; cut = h }

pub follows_nothing : {X : Type 0} → (a : ToldCalls) (x : X) → Follows [] a a (Ok x)
follows_nothing a x = record { done = none_done a; cut = tt }
