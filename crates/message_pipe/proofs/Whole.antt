-- However the frames of messages are cut, the messages come whole and in order.
use Rattle.std.proofs.Common.{◌≡◌, ℕ, ◌<◌, ◌^◌, Bool, true, false, cond, ◌⊎◌, inl, inr, List, [], ◌∷◌, ◌++◌, length, Option, Some, None, refl, sym, ◌∙◌, ap, subst, append_assoc, append-nil}
use Rattle.message_pipe.specs.Frames.{frame_of, frames, HaveFrames, has_frame, first_message, behind_first}
use Rattle.message_pipe.specs.Uses.{Use, Feed, Next, after_uses, fed_by, with_first, given_by, AreFirst, ComeWhole, MessagesComeWhole}
use Rattle.message_pipe.proofs.ReadAgain.{read_again, stays_first}

-- where there is no whole frame, all octets stay
stays_by : (b : Bool) (m held behind : List ℕ) → cond b (Some m) None ≡ None → cond b behind held ≡ held
stays_by true m held behind e = absurd cc
stays_by false m held behind e = refl

pub none_stays : (held : List ℕ) → first_message held ≡ None → behind_first held ≡ held
none_stays held none = stays_by (has_frame held) _ held _ none

some_is : (m n : List ℕ) → Some m ≡ Some n → m ≡ n
some_is m n e = cc

one_more : (message : List ℕ) (messages given : List (List ℕ)) → AreFirst messages given → AreFirst (message ∷ messages) (message ∷ given)
one_more message messages given first = record { others = first.others; are = ap (λ all. message ∷ all) first.are }

longer_in_order : (message : List ℕ) (messages given : List (List ℕ)) → AreFirst given messages ⊎ AreFirst messages given
    → AreFirst (message ∷ given) (message ∷ messages) ⊎ AreFirst (message ∷ messages) (message ∷ given)
longer_in_order message messages given (inl first) = inl (one_more message given messages first)
longer_in_order message messages given (inr first) = inr (one_more message messages given first)

longer : (message other : List ℕ) (messages given : List (List ℕ)) (held : List ℕ) → other ≡ message → ComeWhole messages given held
    → ComeWhole (message ∷ messages) (other ∷ given) held
longer message other messages given held same whole =
    subst (λ m. ComeWhole (message ∷ messages) (m ∷ given) held) (sym same)
    (record { in_order = longer_in_order message messages given whole.in_order; all = λ none. one_more message messages given (whole.all none) })

-- nothing was asked for yet
none_given : (message : List ℕ) (messages : List (List ℕ)) (behind held : List ℕ) → length message < 2 ^ 32 → held ≡ frame_of message ++ (frames messages ++ behind)
    → ComeWhole (message ∷ messages) [] held
none_given message messages behind held small is =
    let first : first_message held ≡ Some message = ap first_message is ∙ (read_again message (frames messages ++ behind) small).first in
    record { in_order = inl (record { others = message ∷ messages; are = refl }); all = λ none. absurd cc }

-- the next message is asked for
take_next : (message : List ℕ) (messages : List (List ℕ)) (behind held : List ℕ) (uses : List Use) (found : Option (List ℕ)) → first_message held ≡ found
    → length message < 2 ^ 32 → held ++ fed_by uses ≡ frame_of message ++ (frames messages ++ behind)
    → ComeWhole (message ∷ messages) (given_by uses held) (after_uses uses held)
    → (behind_first held ++ fed_by uses ≡ frames messages ++ behind → ComeWhole messages (given_by uses (behind_first held)) (after_uses uses (behind_first held)))
    → ComeWhole (message ∷ messages) (with_first found (given_by uses (behind_first held))) (after_uses uses (behind_first held))
take_next message messages behind held uses None first small is same later =
    subst (λ octets. ComeWhole (message ∷ messages) (given_by uses octets) (after_uses uses octets)) (sym (none_stays held first)) same
take_next message messages behind held uses (Some other) first small is same later =
    let stays = stays_first held (fed_by uses) other first in
    let again = read_again message (frames messages ++ behind) small in
    longer message other messages _ _ (some_is other message (sym stays.0 ∙ (ap first_message is ∙ again.first))) (later (sym stays.1 ∙ (ap behind_first is ∙ again.rest)))

-- with the octets that were held before
come_whole_from : (messages : List (List ℕ)) (behind held : List ℕ) (uses : List Use) → HaveFrames messages → held ++ fed_by uses ≡ frames messages ++ behind
    → ComeWhole messages (given_by uses held) (after_uses uses held)
come_whole_from [] behind held uses have fed =
    let all : AreFirst [] (given_by uses held) = record { others = given_by uses held; are = refl } in
    record { in_order = inr all; all = λ none. all }
come_whole_from (message ∷ messages) behind held [] have fed =
    none_given message messages behind held have.0 (sym (append-nil held) ∙ (fed ∙ append_assoc (frame_of message) (frames messages) behind))
come_whole_from (message ∷ messages) behind held (Feed piece ∷ uses) have fed =
    come_whole_from (message ∷ messages) behind (held ++ piece) uses have (append_assoc held piece (fed_by uses) ∙ fed)
come_whole_from (message ∷ messages) behind held (Next ∷ uses) have fed =
    take_next message messages behind held uses (first_message held) refl have.0 (fed ∙ append_assoc (frame_of message) (frames messages) behind)
    (come_whole_from (message ∷ messages) behind held uses have fed)
    (λ is. come_whole_from messages behind (behind_first held) uses have.1 is)

pub come_whole : MessagesComeWhole
come_whole messages behind uses have fed = come_whole_from messages behind [] uses have fed
