-- The calls on the outside below, by those that are made above, one more after the other.
use Rattle.std.proofs.Common.{◌≡◌, refl, sym, ◌∙◌, ap, subst, ℕ, ◌+◌, ◌<◌, ◌≤◌, ◌^◌, Bool, true, false, List, [], ◌∷◌, ◌++◌, length, drop, Option, Some, None, inl, inr, append_assoc, append-nil}
use Rattle.std.specs.Prelude.{Result, Ok, Err, OnOk, OnErr, is_ok}
use Rattle.std.proofs.lemmas.List.{drop-append-le, map-append}
use Rattle.outside_kit.specs.declared.port.Port.{Port}
use Rattle.outside_kit.specs.declared.port.Port.TheVariants.{ReadByA, ReadByB, Log}
use Rattle.outside_kit.specs.declared.outside.PutFault.{PutFault}
use Rattle.outside_kit.specs.Calls.{Call, Made, AreCallsAfter, Load, Bind, Put}
use Rattle.message_pipe.specs.Frames.{frame_of, frames, first_message}
use Rattle.message_pipe.specs.Lines.{line_of}
use Rattle.message_pipe.specs.Showing.{Counted}
use Rattle.message_pipe.specs.Below.{made, all_made, puts_of, AreAdded, ByMade, AllMade, AreFirstMade, LoadComes, LineRefused, PutsMore, PutsPart, Passed, passed_of, nothing_passed, PieceComes, Readers, readers_of, no_readers, ComesTo, FailsAt, AreBelow, CallsStand}
use Rattle.message_pipe.proofs.ShownMore.{have-append, frames_more, drop_further}

-- ---- calls that are added

pub none_added : (calls : Option (List Made)) → AreAdded [] calls calls
none_added None = tt
none_added (Some made) = sym (append-nil made)

pub added_then : (first second : List Made) (old mid new : Option (List Made)) → AreAdded first old mid → AreAdded second mid new → AreAdded (first ++ second) old new
added_then first second old mid None a b = tt
added_then first second old None (Some after) a b = absurd b
added_then first second None (Some between) (Some after) a b = absurd a
added_then first second (Some before) (Some between) (Some after) a b =
    b ∙ (ap (λ l. l ++ second) a ∙ append_assoc before first second)

-- ---- the puts of messages

puts_more : (to : Port) (messages : List (List ℕ)) (message : List ℕ) → puts_of to (messages ++ message ∷ []) ≡ puts_of to messages ++ Put to (line_of message) ∷ []
puts_more to messages message = map-append (λ m. Put to (line_of m)) messages (message ∷ [])

all_more : (plan : List Call) (call : Call) → all_made (plan ++ call ∷ []) ≡ all_made plan ++ made true call ∷ []
all_more plan call = map-append (made true) plan (call ∷ [])

first_of_all : (plan more : List Call) → AreFirstMade (plan ++ more) (all_made plan)
first_of_all [] [] = tt
first_of_all [] (call ∷ more) = tt
first_of_all (call ∷ plan) more = (refl, first_of_all plan more)

first_with : (plan : List Call) (call : Call) → AreFirstMade (plan ++ call ∷ []) (all_made plan ++ made false call ∷ [])
first_with [] call = (refl, refl)
first_with (first ∷ plan) call = (refl, first_with plan call)

module _ (to : Port) (octets : List ℕ) (from : ℕ) where
  pub puts_one_more : (end : ℕ) (message : List ℕ) (old mid new : Option (List Made)) → PutsMore to octets from end old mid
      → drop end octets ≡ frame_of message ++ drop (4 + length message) (drop end octets) → length message < 2 ^ 32
      → AreAdded (made true (Put to (line_of message)) ∷ []) mid new → PutsMore to octets from (end + (4 + length message)) old new
  puts_one_more end message old mid new puts is small next =
      let P : List Made → Type 0 = λ calls. AreAdded calls old new in
      record {
        messages = puts.messages ++ message ∷ [];
        have = have-append puts.messages (message ∷ []) puts.have (small, tt);
        frames_are = puts.frames_are ∙ (ap (λ rest. frames puts.messages ++ rest) (is ∙ ap (λ rest. frame_of message ++ rest) (drop_further octets end (4 + length message)))
            ∙ (sym (append_assoc (frames puts.messages) (frame_of message) (drop (end + (4 + length message)) octets))
            ∙ ap (λ front. front ++ drop (end + (4 + length message)) octets) (sym (frames_more puts.messages message))));
        added = subst P (sym (ap all_made (puts_more to puts.messages message) ∙ all_more (puts_of to puts.messages) (Put to (line_of message))))
            (added_then (all_made (puts_of to puts.messages)) (made true (Put to (line_of message)) ∷ []) old mid new puts.added next);
      }

  pub puts_last_part : (end : ℕ) (message : List ℕ) (old mid new : Option (List Made)) → PutsMore to octets from end old mid
      → drop end octets ≡ frame_of message ++ drop (4 + length message) (drop end octets) → length message < 2 ^ 32
      → LineRefused to message mid new → PutsPart to octets from old new
  puts_last_part end message old mid new puts is small refused = by refused
    where
      of_plan : (below : List Made) → AreFirstMade (puts_of to puts.messages ++ Put to (line_of message) ∷ []) below → AreAdded below old new → PutsPart to octets from old new
      of_plan below first added = record {
        messages = puts.messages ++ message ∷ [];
        have = have-append puts.messages (message ∷ []) puts.have (small, tt);
        behind = drop (4 + length message) (drop end octets);
        frames_are = puts.frames_are ∙ (ap (λ rest. frames puts.messages ++ rest) is
            ∙ (sym (append_assoc (frames puts.messages) (frame_of message) (drop (4 + length message) (drop end octets)))
            ∙ ap (λ front. front ++ drop (4 + length message) (drop end octets)) (sym (frames_more puts.messages message))));
        below = below;
        first = subst (λ plan. AreFirstMade plan below) (sym (puts_more to puts.messages message)) first;
        added = added;
      }

      by : LineRefused to message mid new → PutsPart to octets from old new
      by (inl none) =
          of_plan (all_made (puts_of to puts.messages) ++ [])
          (subst (λ below. AreFirstMade (puts_of to puts.messages ++ Put to (line_of message) ∷ []) below) (sym (append-nil (all_made (puts_of to puts.messages))))
          (first_of_all (puts_of to puts.messages) (Put to (line_of message) ∷ [])))
          (added_then (all_made (puts_of to puts.messages)) [] old mid new puts.added none)
      by (inr one) =
          of_plan (all_made (puts_of to puts.messages) ++ made false (Put to (line_of message)) ∷ [])
          (first_with (puts_of to puts.messages) (Put to (line_of message)))
          (added_then (all_made (puts_of to puts.messages)) (made false (Put to (line_of message)) ∷ []) old mid new puts.added one)

-- ---- a piece

-- behind a refusal
pub piece_counted : (to : Port) (fault : PutFault) (refused : Option PutFault) (was now : Passed) (piece : List ℕ) (calls : Option (List Made)) → refused ≡ Some fault
    → PieceComes to refused was piece true now calls calls
piece_counted to fault refused was now piece calls some =
    ([], none_added calls, λ none. absurd (let no : Some fault ≡ None = sym some ∙ none in cc))

pub piece_shown : (r : Result (Unit {0}) PutFault) (to : Port) (refused : Option PutFault) (octets piece mid last : List ℕ) (end until : ℕ) (old new : Option (List Made))
    → mid ≡ octets ++ piece → last ≡ mid → end ≤ length octets
    → OnOk r (PutsMore to mid end until old new) → OnOk r (first_message (drop until mid) ≡ None) → OnErr r (PutsPart to mid end old new)
    → PieceComes to refused (record { octets = octets; behind = drop end octets }) piece (is_ok r) (record { octets = last; behind = drop until last }) old new
piece_shown (Ok u) to refused octets piece mid last end until old new m l within puts all part = (
  all_made (puts_of to puts.messages),
  puts.added,
  λ none. record {
    messages = puts.messages;
    have = puts.have;
    octets_are = l ∙ m;
    frames_are = sym (drop-append-le end octets piece within) ∙ (ap (drop end) (sym m) ∙ (puts.frames_are ∙ ap (λ o. frames puts.messages ++ drop until o) (sym l)));
    no_more = ap (λ o. first_message (drop until o)) l ∙ all;
    puts_are = refl;
  },
)
piece_shown (Err fault) to refused octets piece mid last end until old new m l within puts all part = (
  part.below,
  part.added,
  λ none. record {
    messages = part.messages;
    have = part.have;
    behind = part.behind;
    frames_are = sym (drop-append-le end octets piece within) ∙ (ap (drop end) (sym m) ∙ part.frames_are);
    puts_are = part.first;
  },
)

-- ---- one call more

not_both : (before : List Made) (one : Made) → before ++ one ∷ [] ≡ [] → ⊥
not_both [] one e = cc
not_both (first ∷ before) one e = cc

abbrev NoMore : List Made → Type 0
NoMore more = more ≡ []

one_more : (was now next : Readers) (one : Made) (below : List Made) (ok : Bool) → one.ok ≡ ok → now ≡ was
    → ByMade one.ok (ComesTo one.call now below next) (FailsAt one.call now below)
    → ByMade one.ok ((mid : Readers) × ComesTo one.call was below mid × AreBelow mid [] [] next) (NoMore [] → NoMore [] × FailsAt one.call was below)
one_more was now next one below true is same step =
    let P : Bool → Type 0 = λ b. ByMade b ((mid : Readers) × ComesTo one.call was below mid × AreBelow mid [] [] next) (NoMore [] → NoMore [] × FailsAt one.call was below) in
    let Q : Bool → Type 0 = λ b. ByMade b (ComesTo one.call now below next) (FailsAt one.call now below) in
    subst P (sym is) (next, subst (λ r. ComesTo one.call r below next) same (subst Q is step), (refl, refl))
one_more was now next one below false is same step =
    let P : Bool → Type 0 = λ b. ByMade b ((mid : Readers) × ComesTo one.call was below mid × AreBelow mid [] [] next) (NoMore [] → NoMore [] × FailsAt one.call was below) in
    let Q : Bool → Type 0 = λ b. ByMade b (ComesTo one.call now below next) (FailsAt one.call now below) in
    subst P (sym is) (λ e. (refl, subst (λ r. FailsAt one.call r below) same (subst Q is step)))

pub below_then : (above : List Made) (was now next : Readers) (below more : List Made) (one : Made) → AreBelow was above below now
    → (AllMade above → ByMade one.ok (ComesTo one.call now more next) (FailsAt one.call now more))
    → AreBelow was (above ++ one ∷ []) (below ++ more) next
below_then [] was now next below more one h step =
    (more, [], ap (λ l. l ++ more) h.0 ∙ sym (append-nil more), one_more was now next one more one.ok refl h.1 (step tt))
below_then (first ∷ above) was now next below more one h step =
    by first.ok refl (λ mid rest are step. below_then above mid now next rest more one are step)
  where
    Rest : Bool → List Made → List Made → List Made → Readers → Type 0
    Rest ok calls mine rest last = ByMade ok ((mid : Readers) × ComesTo first.call was mine mid × AreBelow mid calls rest last) (calls ≡ [] → (rest ≡ []) × FailsAt first.call was mine)

    by : (ok : Bool) → first.ok ≡ ok
        → ((mid : Readers) (rest : List Made) → AreBelow mid above rest now → (AllMade above → ByMade one.ok (ComesTo one.call now more next) (FailsAt one.call now more))
        → AreBelow mid (above ++ one ∷ []) (rest ++ more) next)
        → AreBelow was (first ∷ (above ++ one ∷ [])) (below ++ more) next
    by true is go =
        let own = subst (λ b. Rest b above h.0 h.1 now) is h.3 in (
          h.0,
          h.1 ++ more,
          ap (λ l. l ++ more) h.2 ∙ append_assoc h.0 h.1 more,
          subst (λ b. Rest b (above ++ one ∷ []) h.0 (h.1 ++ more) next) (sym is) (own.0, own.1, go own.0 h.1 own.2 (λ all. step (is, all))),
        )
    by false is go = (
      below ++ more,
      [],
      sym (append-nil (below ++ more)),
      subst (λ b. Rest b (above ++ one ∷ []) (below ++ more) [] next) (sym is) (λ e. absurd (not_both above one e)),
    )

all_before : (above : List Made) (one : Made) → AllMade (above ++ one ∷ []) → AllMade above × (one.ok ≡ true)
all_before [] one all = (tt, all.0)
all_before (first ∷ above) one all = let rest = all_before above one all.1 in ((all.0, rest.0), rest.1)

-- ---- the calls stand

module _ (above : List Made) (a b : Counted) (first old new : Option (List Made)) (stand : CallsStand above a b first old) where
  pub stand_then : (next_a next_b : Counted) (one : Made) (more : List Made) → AreAdded more old new
      → (AllMade above → ByMade one.ok (ComesTo one.call (readers_of a b) more (readers_of next_a next_b)) (FailsAt one.call (readers_of a b) more))
      → (AllMade above → one.ok ≡ true → (next_a.refused ≡ None) × (next_b.refused ≡ None))
      → CallsStand (above ++ one ∷ []) next_a next_b first new
  stand_then next_a next_b one more added step unrefused = record {
    below = stand.below ++ more;
    added = added_then stand.below more first old new stand.added added;
    are = below_then above no_readers (readers_of a b) (readers_of next_a next_b) stand.below more one stand.are step;
    unrefused = λ all. let both = all_before above one all in unrefused both.0 both.1;
  }

  pub stand_load : (name : List ℕ) (ok : Bool) → LoadComes name ok old new → CallsStand (above ++ made ok (Load name) ∷ []) a b first new
  stand_load name ok comes =
      stand_then a b (made ok (Load name)) (made comes.0 (Load name) ∷ []) comes.1 (λ all. by ok comes.2) (λ all is. stand.unrefused all)
    where
      by : (ok : Bool) → ByMade ok (comes.0 ≡ true) (Unit {0}) → ByMade ok (ComesTo (Load name) (readers_of a b) (made comes.0 (Load name) ∷ []) (readers_of a b))
          (FailsAt (Load name) (readers_of a b) (made comes.0 (Load name) ∷ []))
      by true is = (ap (λ (k : Bool). made k (Load name) ∷ []) is, refl)
      by false is = (comes.0, refl)

  -- to a port whose calls are those below
  pub stand_log_bind : (name : List ℕ) (ok : Bool) → AreCallsAfter (Bind Log name) ok old new → CallsStand (above ++ made ok (Bind Log name) ∷ []) a b first new
  stand_log_bind name ok added =
      stand_then a b (made ok (Bind Log name)) (made ok (Bind Log name) ∷ []) added (λ all. by ok) (λ all is. stand.unrefused all)
    where
      by : (ok : Bool) → ByMade ok (ComesTo (Bind Log name) (readers_of a b) (made ok (Bind Log name) ∷ []) (readers_of a b))
          (FailsAt (Bind Log name) (readers_of a b) (made ok (Bind Log name) ∷ []))
      by true = (refl, refl)
      by false = refl

  pub stand_log_put : (piece : List ℕ) (ok : Bool) → AreCallsAfter (Put Log piece) ok old new → CallsStand (above ++ made ok (Put Log piece) ∷ []) a b first new
  stand_log_put piece ok added =
      stand_then a b (made ok (Put Log piece)) (made ok (Put Log piece) ∷ []) added (λ all. by ok) (λ all is. stand.unrefused all)
    where
      by : (ok : Bool) → ByMade ok (ComesTo (Put Log piece) (readers_of a b) (made ok (Put Log piece) ∷ []) (readers_of a b))
          (FailsAt (Put Log piece) (readers_of a b) (made ok (Put Log piece) ∷ []))
      by true = (refl, refl)
      by false = refl

  pub stand_bind_a : (r : Result (Unit {0}) PutFault) (next : Counted) (name : List ℕ) → AreCallsAfter (Bind ReadByA name) (is_ok r) old new
      → OnOk r (passed_of next ≡ nothing_passed) → OnOk r (next.refused ≡ None) → CallsStand (above ++ made (is_ok r) (Bind ReadByA name) ∷ []) next b first new
  stand_bind_a (Ok u) next name added fresh none =
      stand_then next b (made true (Bind ReadByA name)) (made true (Bind ReadByA name) ∷ []) added
      (λ all. (refl, ap (λ p. record { read_by_a = p; read_by_b = passed_of b }) fresh)) (λ all is. (none, (stand.unrefused all).1))
  stand_bind_a (Err e) next name added fresh none =
      stand_then next b (made false (Bind ReadByA name)) (made false (Bind ReadByA name) ∷ []) added (λ all. refl) (λ all is. absurd (let no : false ≡ true = is in cc))

  pub stand_bind_b : (r : Result (Unit {0}) PutFault) (next : Counted) (name : List ℕ) → AreCallsAfter (Bind ReadByB name) (is_ok r) old new
      → OnOk r (passed_of next ≡ nothing_passed) → OnOk r (next.refused ≡ None) → CallsStand (above ++ made (is_ok r) (Bind ReadByB name) ∷ []) a next first new
  stand_bind_b (Ok u) next name added fresh none =
      stand_then a next (made true (Bind ReadByB name)) (made true (Bind ReadByB name) ∷ []) added
      (λ all. (refl, ap (λ p. record { read_by_a = passed_of a; read_by_b = p }) fresh)) (λ all is. ((stand.unrefused all).0, none))
  stand_bind_b (Err e) next name added fresh none =
      stand_then a next (made false (Bind ReadByB name)) (made false (Bind ReadByB name) ∷ []) added (λ all. refl) (λ all is. absurd (let no : false ≡ true = is in cc))

  pub stand_put_a : (r : Result (Unit {0}) PutFault) (next : Counted) (piece : List ℕ) → PieceComes ReadByA a.refused (passed_of a) piece (is_ok r) (passed_of next) old new
      → OnOk r (a.refused ≡ None → next.refused ≡ None) → CallsStand (above ++ made (is_ok r) (Put ReadByA piece) ∷ []) next b first new
  stand_put_a (Ok u) next piece comes none =
      stand_then next b (made true (Put ReadByA piece)) comes.0 comes.1 (λ all. (comes.2 (stand.unrefused all).0, refl))
      (λ all is. (none (stand.unrefused all).0, (stand.unrefused all).1))
  stand_put_a (Err e) next piece comes none =
      stand_then next b (made false (Put ReadByA piece)) comes.0 comes.1 (λ all. comes.2 (stand.unrefused all).0) (λ all is. absurd (let no : false ≡ true = is in cc))

  pub stand_put_b : (r : Result (Unit {0}) PutFault) (next : Counted) (piece : List ℕ) → PieceComes ReadByB b.refused (passed_of b) piece (is_ok r) (passed_of next) old new
      → OnOk r (b.refused ≡ None → next.refused ≡ None) → CallsStand (above ++ made (is_ok r) (Put ReadByB piece) ∷ []) a next first new
  stand_put_b (Ok u) next piece comes none =
      stand_then a next (made true (Put ReadByB piece)) comes.0 comes.1 (λ all. (comes.2 (stand.unrefused all).1, refl))
      (λ all is. ((stand.unrefused all).0, none (stand.unrefused all).1))
  stand_put_b (Err e) next piece comes none =
      stand_then a next (made false (Put ReadByB piece)) comes.0 comes.1 (λ all. comes.2 (stand.unrefused all).1) (λ all is. absurd (let no : false ≡ true = is in cc))
