-- Each put below for a reader is one message.
--
-- What was done with a value so far, as the calls that were made on an outside, is a ghost field in a struct of no
-- bytes (`Trace` of `message_pipe`, `also_owns = ftrue`, with a code that says how the logic stores it). The two
-- functions that pick it have walks by hand, two pages each; all others see `result.calls ≡ self.now.calls ++ noted
-- _made.now ∷ []`, and one `rw` of that in the invariant's answer.
use Rattle.std.proofs.Common.{◌≡◌, refl, sym, ◌∙◌, ap, subst, ℕ, Bool, List, [], ◌∷◌, ◌++◌, map, None, append_assoc, append-nil}
use Rattle.std.proofs.lemmas.List.{map-append}
use Rattle.outside_kit.specs.declared.port.Port.TheVariants.{ReadByA, ReadByB, Log}
use Rattle.outside_kit.specs.Calls.{Call, Made, Load, Bind, Put}
use Rattle.message_pipe.specs.Frames.{frames, HaveFrames, first_message}
use Rattle.message_pipe.specs.Lines.{line_of}
use Rattle.message_pipe.specs.Below.{all_made, puts_of, ByMade, AllMade, Passed, nothing_passed, Readers, no_readers, ComesTo, FailsAt, AreBelow}
use Rattle.message_pipe.specs.OnePut.{Pieces, with_call, pieces_after, AreMessages, MessagesArePutOneByOne}
use Rattle.message_pipe.proofs.ShownMore.{frames-append, have-append}

-- what was put so far are messages
pub record Stand (pieces : Pieces) (now : Readers) : Type 0 where
  pub for_a : AreMessages now.read_by_a pieces.for_a
  pub for_b : AreMessages now.read_by_b pieces.for_b

nothing_yet : AreMessages nothing_passed []
nothing_yet = record { messages = []; have = tt; octets_are = refl; no_more = refl; pieces_are = refl }

-- messages more
more_messages : (was now : Passed) (pieces : List (List ℕ)) (piece : List ℕ) (messages : List (List ℕ)) → AreMessages was pieces → HaveFrames messages → now.octets ≡ was.octets ++ piece
    → was.behind ++ piece ≡ frames messages ++ now.behind → first_message now.behind ≡ None → AreMessages now (pieces ++ map line_of messages)
more_messages was now pieces piece messages h have octets frames_are no_more = record {
  messages = h.messages ++ messages;
  have = have-append h.messages messages h.have have;
  octets_are = octets ∙ (ap (λ o. o ++ piece) h.octets_are ∙ (append_assoc (frames h.messages) was.behind piece
      ∙ (ap (λ rest. frames h.messages ++ rest) frames_are ∙ (sym (append_assoc (frames h.messages) (frames messages) now.behind) ∙ ap (λ front. front ++ now.behind) (sym (frames-append h.messages messages))))));
  no_more = no_more;
  pieces_are = ap (λ l. l ++ map line_of messages) h.pieces_are ∙ sym (map-append line_of h.messages messages);
}

-- behind puts for one reader
after_a : (messages : List (List ℕ)) (pieces : Pieces) → pieces_after (all_made (puts_of ReadByA messages)) pieces ≡ record pieces { for_a = pieces.for_a ++ map line_of messages }
after_a [] pieces = ap (λ l. record pieces { for_a = l }) (sym (append-nil pieces.for_a))
after_a (message ∷ messages) pieces =
    after_a messages (record pieces { for_a = pieces.for_a ++ line_of message ∷ [] })
    ∙ ap (λ l. record pieces { for_a = l }) (append_assoc pieces.for_a (line_of message ∷ []) (map line_of messages))

after_b : (messages : List (List ℕ)) (pieces : Pieces) → pieces_after (all_made (puts_of ReadByB messages)) pieces ≡ record pieces { for_b = pieces.for_b ++ map line_of messages }
after_b [] pieces = ap (λ l. record pieces { for_b = l }) (sym (append-nil pieces.for_b))
after_b (message ∷ messages) pieces =
    after_b messages (record pieces { for_b = pieces.for_b ++ line_of message ∷ [] })
    ∙ ap (λ l. record pieces { for_b = l }) (append_assoc pieces.for_b (line_of message ∷ []) (map line_of messages))

all_are_made : (plan : List Call) → AllMade (all_made plan)
all_are_made [] = tt
all_are_made (call ∷ plan) = (refl, all_are_made plan)

after-append : (first rest : List Made) (pieces : Pieces) → pieces_after (first ++ rest) pieces ≡ pieces_after rest (pieces_after first pieces)
after-append [] rest pieces = refl
after-append (one ∷ first) rest pieces = after-append first rest (with_call one.call pieces)

all-append : (first rest : List Made) → AllMade first → AllMade rest → AllMade (first ++ rest)
all-append [] rest a b = b
all-append (one ∷ first) rest a b = (a.0, all-append first rest a.1 b)

-- one call
pub record Comes (below : List Made) (pieces : Pieces) (next : Readers) : Type 0 where
  pub all : AllMade below
  pub stand : Stand (pieces_after below pieces) next

one_comes : (one : Call) (was next : Readers) (below : List Made) (pieces : Pieces) → Stand pieces was → ComesTo one was below next → Comes below pieces next
one_comes (Load name) was next below pieces h c = rw (c.0, c.1) (record { all = (refl, tt); stand = h })
one_comes (Bind ReadByA name) was next below pieces h c = rw (c.0, c.1) (record { all = (refl, tt); stand = record { for_a = nothing_yet; for_b = h.for_b } })
one_comes (Bind ReadByB name) was next below pieces h c = rw (c.0, c.1) (record { all = (refl, tt); stand = record { for_a = h.for_a; for_b = nothing_yet } })
one_comes (Bind Log name) was next below pieces h c = rw (c.0, c.1) (record { all = (refl, tt); stand = h })
one_comes (Put ReadByA piece) was next below pieces h c = record {
  all = subst AllMade (sym c.0.puts_are) (all_are_made (puts_of ReadByA c.0.messages));
  stand = subst (λ (p : Pieces). Stand p next) (sym (ap (λ l. pieces_after l pieces) c.0.puts_are ∙ after_a c.0.messages pieces))
      (record {
        for_a = more_messages was.read_by_a next.read_by_a pieces.for_a piece c.0.messages h.for_a c.0.have c.0.octets_are c.0.frames_are c.0.no_more;
        for_b = subst (λ (p : Passed). AreMessages p pieces.for_b) (sym c.1) h.for_b;
      });
}
one_comes (Put ReadByB piece) was next below pieces h c = record {
  all = subst AllMade (sym c.0.puts_are) (all_are_made (puts_of ReadByB c.0.messages));
  stand = subst (λ (p : Pieces). Stand p next) (sym (ap (λ l. pieces_after l pieces) c.0.puts_are ∙ after_b c.0.messages pieces))
      (record {
        for_a = subst (λ (p : Passed). AreMessages p pieces.for_a) (sym c.1) h.for_a;
        for_b = more_messages was.read_by_b next.read_by_b pieces.for_b piece c.0.messages h.for_b c.0.have c.0.octets_are c.0.frames_are c.0.no_more;
      });
}
one_comes (Put Log piece) was next below pieces h c = rw (c.0, c.1) (record { all = (refl, tt); stand = h })

all_come : (above : List Made) (was now : Readers) (below : List Made) (pieces : Pieces) → Stand pieces was → AreBelow was above below now → AllMade above → Comes below pieces now
all_come [] was now below pieces h b all = rw (b.0, b.1) (record { all = tt; stand = h })
all_come (one ∷ above) was now below pieces h b all =
    let P : Bool → Type 0 = λ ok. ByMade ok ((mid : Readers) × ComesTo one.call was b.0 mid × AreBelow mid above b.1 now) (above ≡ [] → (b.1 ≡ []) × FailsAt one.call was b.0) in
    let step = subst P all.0 b.3 in
    let first = one_comes one.call was step.0 b.0 pieces h step.1 in
    let rest = all_come above step.0 now b.1 (pieces_after b.0 pieces) first.stand step.2 all.1 in
    record {
      all = subst AllMade (sym b.2) (all-append b.0 b.1 first.all rest.all);
      stand = subst (λ (p : Pieces). Stand p now) (sym (ap (λ l. pieces_after l pieces) b.2 ∙ after-append b.0 b.1 pieces)) rest.stand;
    }

pub one_by_one : MessagesArePutOneByOne
one_by_one above below now b all =
    let come = all_come above no_readers now below (record { for_a = []; for_b = [] }) (record { for_a = nothing_yet; for_b = nothing_yet }) b all in
    record { all = come.all; for_a = come.stand.for_a; for_b = come.stand.for_b }
