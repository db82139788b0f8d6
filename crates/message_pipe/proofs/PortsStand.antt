-- A port keeps showing the messages that came whole.
--
-- An `Outside` over another one: helpers over `O: Outside` and one port, each with one record of what stays elsewhere
-- (`StaysElsewhere` of `message_pipe`), and one clause that takes any facts on the port from before to after (`(first :
-- ..) → PortStands .. → PortStands ..`). Then every clause of the trait closes alone, and of each method the invariant
-- alone asks for an answer, one line a port.
--
-- What a type has to remember of a value that contracts alone see, such as what an outside told at first, is the ghost
-- member of a type parameter; the invariant names it (`N.held`). The function over `N` takes the outside and gives it
-- back; its caller picks `N` at `Brand` in `Invariants.antt` (`run_over_frames`, `run_line` of `mptcp_run`).
use Rattle.std.proofs.Common.{◌≡◌, ℕ, ◌≤◌, List, ◌++◌, length, take, drop, Option, Some, None, sym, ◌∙◌, ap, subst, append_assoc, arith}
use Rattle.std.specs.Prelude.{◌≢◌, IfSome, IsSome, IsSomeAnd, Result, Ok, Err, OnOk, OnErr, IfErr}
use Rattle.std.proofs.lemmas.List.{drop-append-le, take-append-drop}
use Rattle.outside_kit.specs.declared.outside.PutFault.{PutFault}
use Rattle.outside_kit.specs.declared.outside.PutFault.TheVariants.{Failed}
use Rattle.outside_kit.specs.declared.port.Port.TheVariants.{ReadByA, ReadByB, Log}
use Rattle.outside_kit.specs.Outside.{HasRisen, HoldsAfter, HoldsPrefix}
use Rattle.octet_text.specs.Prefix.{IsPrefix}
use Rattle.message_pipe.specs.Frames.{frames, first_message}
use Rattle.message_pipe.specs.Lines.{message_lines}
use Rattle.message_pipe.specs.Showing.{ShowsMore, ShowsPart, Counted, ShowsMessages, ShowsPrefix, PortStands}
use Rattle.message_pipe.proofs.ShownMore.{frames-append, shown-append, have-append, risen_from}

-- ---- what is held, by what was told at first

held_all : (first old new : Option (List ℕ)) (messages more : List (List ℕ)) → HoldsAfter first old (λ _. message_lines messages) → HoldsAfter old new (λ held. held ++ message_lines more)
    → HoldsAfter first new (λ _. message_lines (messages ++ more))
held_all None old new messages more before now = tt
held_all (Some text) old new messages more before now =
    let last : new ≡ Some (message_lines messages ++ message_lines more) = let P : Option (List ℕ) → Type 0 = λ o. HoldsAfter o new (λ held. held ++ message_lines more) in subst P before now in
    last ∙ ap (λ t. Some t) (sym (shown-append messages more))

held_front : (first old new : Option (List ℕ)) (messages more : List (List ℕ)) → HoldsAfter first old (λ _. message_lines messages) → HoldsPrefix old new (message_lines more)
    → IfSome first (λ _. IsSomeAnd new (λ text. IsPrefix text (message_lines (messages ++ more))))
held_front None old new messages more before now = tt
held_front (Some text) old new messages more before now =
    let last : HoldsPrefix (Some (message_lines messages)) new (message_lines more) = let P : Option (List ℕ) → Type 0 = λ o. HoldsPrefix o new (message_lines more) in subst P before now in
    let Q : Option (List ℕ) → Type 0 = λ o. IsSomeAnd o (λ text. IsPrefix text (message_lines (messages ++ more))) in
    subst Q (sym last.1)
    (record {
      rest = drop last.0 (message_lines more);
      whole_is = shown-append messages more ∙ (ap (λ end. message_lines messages ++ end) (sym (take-append-drop last.0 (message_lines more))) ∙ sym (append_assoc (message_lines messages) (take last.0 (message_lines more)) (drop last.0 (message_lines more))));
    })

-- ---- refusals

some_is_none : (fault : PutFault) → Some fault ≡ None → ⊥
some_is_none fault e = cc

not_some : (refused : Option PutFault) → refused ≡ None → IsSome refused → ⊥
not_some refused none some = let P : Option PutFault → Type 0 = λ o. IsSome o in let no : IsSome {T = PutFault} None = subst P none some in cc

same_fault : (fault other : PutFault) → Some fault ≡ Some other → fault ≡ other
same_fault fault other e = cc

-- ---- a piece more

-- what stands behind the frames of messages, with a piece more
pub front_and : (octets piece : List ℕ) (end : ℕ) → end ≤ length octets → (messages : List (List ℕ)) → octets ≡ frames messages ++ drop end octets
    → octets ++ piece ≡ frames messages ++ drop end (octets ++ piece)
front_and octets piece end within messages is =
    ap (λ o. o ++ piece) is ∙ (append_assoc (frames messages) (drop end octets) piece ∙ ap (λ rest. frames messages ++ rest) (sym (drop-append-le end octets piece within)))

-- messages are shown behind those that are
pub shows_more : (octets piece : List ℕ) (end to : ℕ) (was refused : Option PutFault) (first old new : Option (List ℕ)) → end ≤ length octets
    → ShowsMessages (record { octets = octets; behind = drop end octets; refused = was }) first old → ShowsMore (octets ++ piece) end to old new
    → first_message (drop to (octets ++ piece)) ≡ None
    → ShowsMessages (record { octets = octets ++ piece; behind = drop to (octets ++ piece); refused = refused }) first new
shows_more octets piece end to was refused first old new within before more none = record {
  messages = before.messages ++ more.messages;
  have = have-append before.messages more.messages before.have more.have;
  octets_are = front_and octets piece end within before.messages before.octets_are
      ∙ (ap (λ rest. frames before.messages ++ rest) more.frames_are
      ∙ (sym (append_assoc (frames before.messages) (frames more.messages) (drop to (octets ++ piece)))
      ∙ ap (λ front. front ++ drop to (octets ++ piece)) (sym (frames-append before.messages more.messages))));
  no_more = none;
  shown_is = held_all first old new before.messages more.messages before.shown_is more.shown_is;
}

pub shows_part : (octets piece : List ℕ) (end to : ℕ) (was refused : Option PutFault) (first old new : Option (List ℕ)) → end ≤ length octets
    → ShowsMessages (record { octets = octets; behind = drop end octets; refused = was }) first old → ShowsPart (octets ++ piece) end old new
    → ShowsPrefix (record { octets = octets ++ piece; behind = drop to (octets ++ piece); refused = refused }) first new
shows_part octets piece end to was refused first old new within before more = record {
  messages = before.messages ++ more.messages;
  have = have-append before.messages more.messages before.have more.have;
  rest = more.behind;
  octets_are = front_and octets piece end within before.messages before.octets_are
      ∙ (ap (λ rest. frames before.messages ++ rest) more.frames_are
      ∙ (sym (append_assoc (frames before.messages) (frames more.messages) more.behind)
      ∙ ap (λ front. front ++ more.behind) (sym (frames-append before.messages more.messages))));
  shown_is = held_front first old new before.messages more.messages before.shown_is more.shown_is;
}

-- after a refusal a piece is counted alone
pub shows_still : (octets piece : List ℕ) (end : ℕ) (refused : Option PutFault) (first held : Option (List ℕ))
    → ShowsPrefix (record { octets = octets; behind = drop end octets; refused = refused }) first held
    → ShowsPrefix (record { octets = octets ++ piece; behind = drop end (octets ++ piece); refused = refused }) first held
shows_still octets piece end refused first held before = record {
  messages = before.messages;
  have = before.have;
  rest = before.rest ++ piece;
  octets_are = ap (λ o. o ++ piece) before.octets_are ∙ append_assoc (frames before.messages) before.rest piece;
  shown_is = before.shown_is;
}

-- ---- a put

-- the messages behind those that are shown were shown, or the first of them that was refused was kept as a refusal
shown_on : (r : Result (Unit {0}) PutFault) (octets piece : List ℕ) (end to : ℕ) (was now : Option PutFault) (first old new : Option (List ℕ)) (f0 f1 f2 : ℕ)
    → end ≤ length octets → was ≡ None → OnOk r (ShowsMore (octets ++ piece) end to old new) → OnOk r (first_message (drop to (octets ++ piece)) ≡ None) → OnOk r (now ≡ was)
    → OnErr r (ShowsPart (octets ++ piece) end old new) → IfErr r (λ fault. now ≡ Some fault) → f1 ≤ f2 → (r ≡ Err Failed → HasRisen f1 f2)
    → PortStands (record { octets = octets; behind = drop end octets; refused = was }) first old f0 f1
    → PortStands (record { octets = octets ++ piece; behind = drop to (octets ++ piece); refused = now }) first new f0 f2
shown_on (Ok u) octets piece end to was now first old new f0 f1 f2 within none ok all kept err refused counted failed before = record {
  shows = λ e. shows_more octets piece end to was now first old new within (before.shows none) ok all;
  part = λ some. absurd (not_some now (kept ∙ none) some);
  counted = let at_first = before.counted in omega arith;
  risen = λ e. absurd (some_is_none Failed (sym e ∙ (kept ∙ none)));
}
shown_on (Err fault) octets piece end to was now first old new f0 f1 f2 within none ok all kept err refused counted failed before = record {
  shows = λ e. absurd (some_is_none fault (sym refused ∙ e));
  part = λ some. shows_part octets piece end to was now first old new within (before.shows none) err;
  counted = let at_first = before.counted in omega arith;
  risen = λ e. risen_from f0 f1 f2 before.counted (failed (ap (λ f. Err f) (same_fault fault Failed (sym refused ∙ e))));
}

pub stands_shown : (r : Result (Unit {0}) PutFault) (octets piece mid last : List ℕ) (end to : ℕ) (was now : Option PutFault) (first old new : Option (List ℕ)) (f0 f1 f2 : ℕ)
    → mid ≡ octets ++ piece → last ≡ mid
    → end ≤ length octets → was ≡ None → OnOk r (ShowsMore mid end to old new) → OnOk r (first_message (drop to mid) ≡ None) → OnOk r (now ≡ was)
    → OnErr r (ShowsPart mid end old new) → IfErr r (λ fault. now ≡ Some fault) → f1 ≤ f2 → (r ≡ Err Failed → HasRisen f1 f2)
    → PortStands (record { octets = octets; behind = drop end octets; refused = was }) first old f0 f1
    → PortStands (record { octets = last; behind = drop to last; refused = now }) first new f0 f2
stands_shown r octets piece mid last end to was now first old new f0 f1 f2 m l within none ok all kept err refused counted failed before =
    let P : List ℕ → Type 0 = λ o. PortStands (record { octets = o; behind = drop to o; refused = now }) first new f0 f2 in
    let A : List ℕ → Type 0 = λ o. OnOk r (ShowsMore o end to old new) in
    let B : List ℕ → Type 0 = λ o. OnOk r (first_message (drop to o) ≡ None) in
    let C : List ℕ → Type 0 = λ o. OnErr r (ShowsPart o end old new) in
    subst P (sym (l ∙ m)) (shown_on r octets piece end to was now first old new f0 f1 f2 within none (subst A m ok) (subst B m all) kept (subst C m err) refused counted failed before)

-- a piece is counted alone, once a line was refused
pub stands_still : (fault : PutFault) (octets piece last : List ℕ) (end : ℕ) (was : Option PutFault) (first held : Option (List ℕ)) (f0 f1 : ℕ)
    → last ≡ octets ++ piece → was ≡ Some fault → PortStands (record { octets = octets; behind = drop end octets; refused = was }) first held f0 f1
    → PortStands (record { octets = last; behind = drop end last; refused = was }) first held f0 f1
stands_still fault octets piece last end was first held f0 f1 l some before =
    let Q : Option PutFault → Type 0 = λ o. IsSome o in
    let P : List ℕ → Type 0 = λ o. PortStands (record { octets = o; behind = drop end o; refused = was }) first held f0 f1 in
    subst P (sym l)
    (record {
      shows = λ e. absurd (some_is_none fault (sym some ∙ e));
      part = λ s. shows_still octets piece end was first held (before.part s);
      counted = before.counted;
      risen = before.risen;
    })

-- ---- other ports

-- nothing changes at a port that holds what it held, with the count that it had
pub stands_same : (port : Counted) (first old new : Option (List ℕ)) (f0 f1 f2 : ℕ) → new ≡ old → f2 ≡ f1 → PortStands port first old f0 f1 → PortStands port first new f0 f2
stands_same port first old new f0 f1 f2 same count before =
    let P : Option (List ℕ) → Type 0 = λ held. PortStands port first held f0 f1 in
    let Q : ℕ → Type 0 = λ faults. PortStands port first new f0 faults in
    subst Q (sym count) (subst P (sym same) before)

pub b_is_not_a : ReadByB ≢ ReadByA
b_is_not_a e = cc

pub a_is_not_b : ReadByA ≢ ReadByB
a_is_not_b e = cc

pub a_is_not_log : ReadByA ≢ Log
a_is_not_log e = cc

pub b_is_not_log : ReadByB ≢ Log
b_is_not_log e = cc
