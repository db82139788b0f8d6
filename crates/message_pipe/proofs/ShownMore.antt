-- Messages that are shown one after the other.
use Rattle.std.proofs.Common.{◌≡◌, ℕ, ◌+◌, ◌-◌, ◌<◌, ◌≤◌, ◌^◌, List, [], ◌∷◌, ◌++◌, length, take, drop, Option, Some, None, refl, sym, ◌∙◌, ap, subst, append_assoc, append-nil, length-append, length-drop, arith, inl, inr}
use Rattle.std.proofs.Math.Seq.{take-append-add}
use Rattle.std.proofs.lemmas.Bool.Decides.{leb_tells}
use Rattle.std.proofs.lemmas.List.{drop-drop}
use Rattle.outside_kit.specs.declared.port.Port.{Port}
use Rattle.outside_kit.specs.Outside.{Told, HasRisen, HoldsAfter, HoldsPrefix}
use Rattle.message_pipe.specs.Frames.{frame_of, frames, HaveFrames}
use Rattle.message_pipe.specs.Lines.{line_of, message_lines}
use Rattle.message_pipe.specs.Showing.{ShowsMore, ShowsPart, StaysElsewhere}

pub frames-append : (messages more : List (List ℕ)) → frames (messages ++ more) ≡ frames messages ++ frames more
frames-append [] more = refl
frames-append (message ∷ messages) more = ap (λ end. frame_of message ++ end) (frames-append messages more) ∙ sym (append_assoc (frame_of message) (frames messages) (frames more))

pub shown-append : (messages more : List (List ℕ)) → message_lines (messages ++ more) ≡ message_lines messages ++ message_lines more
shown-append [] more = refl
shown-append (message ∷ messages) more = ap (λ end. line_of message ++ end) (shown-append messages more) ∙ sym (append_assoc (line_of message) (message_lines messages) (message_lines more))

pub have-append : (messages more : List (List ℕ)) → HaveFrames messages → HaveFrames more → HaveFrames (messages ++ more)
have-append [] more have rest = rest
have-append (message ∷ messages) more have rest = (have.0, have-append messages more have.1 rest)

frames-one : (message : List ℕ) → frames (message ∷ []) ≡ frame_of message
frames-one message = append-nil (frame_of message)

shown-one : (message : List ℕ) → message_lines (message ∷ []) ≡ line_of message
shown-one message = append-nil (line_of message)

-- with one message more
pub frames_more : (messages : List (List ℕ)) (message : List ℕ) → frames (messages ++ message ∷ []) ≡ frames messages ++ frame_of message
frames_more messages message = frames-append messages (message ∷ []) ∙ ap (λ end. frames messages ++ end) (frames-one message)

shown_more : (messages : List (List ℕ)) (message : List ℕ) → message_lines (messages ++ message ∷ []) ≡ message_lines messages ++ line_of message
shown_more messages message = shown-append messages (message ∷ []) ∙ ap (λ end. message_lines messages ++ end) (shown-one message)

held_more : (messages : List (List ℕ)) (message : List ℕ) (old mid new : Option (List ℕ)) → HoldsAfter old mid (λ held. held ++ message_lines messages)
    → HoldsAfter mid new (λ held. held ++ line_of message) → HoldsAfter old new (λ held. held ++ message_lines (messages ++ message ∷ []))
held_more messages message None mid new first next = tt
held_more messages message (Some held) mid new first next =
    let last : new ≡ Some ((held ++ message_lines messages) ++ line_of message) = let P : Option (List ℕ) → Type 0 = λ m. HoldsAfter m new (λ held. held ++ line_of message) in subst P first next in
    last ∙ ap (λ text. Some text) (append_assoc held (message_lines messages) (line_of message) ∙ ap (λ end. held ++ end) (sym (shown_more messages message)))

held_part : (messages : List (List ℕ)) (message : List ℕ) (old mid new : Option (List ℕ)) → HoldsAfter old mid (λ held. held ++ message_lines messages)
    → HoldsPrefix mid new (line_of message) → HoldsPrefix old new (message_lines (messages ++ message ∷ []))
held_part messages message None mid new first next = tt
held_part messages message (Some held) mid new first next =
    let last : HoldsPrefix (Some (held ++ message_lines messages)) new (line_of message) = let P : Option (List ℕ) → Type 0 = λ m. HoldsPrefix m new (line_of message) in subst P first next in (
      length (message_lines messages) + last.0,
      last.1 ∙ ap (λ text. Some text) (append_assoc held (message_lines messages) (take last.0 (line_of message))
          ∙ ap (λ end. held ++ end) (sym (ap (λ text. take (length (message_lines messages) + last.0) text) (shown_more messages message) ∙ take-append-add (message_lines messages) (line_of message) last.0))),
    )

pub drop_further : (octets : List ℕ) (end count : ℕ) → drop count (drop end octets) ≡ drop (end + count) octets
drop_further octets end count = drop-drop count end octets

long : (message : List ℕ) → length (frame_of message) ≡ 4 + length message
long message = omega arith

-- the next message is shown
pub one_more : (octets : List ℕ) (from end : ℕ) (message : List ℕ) (old mid new : Option (List ℕ)) → ShowsMore octets from end old mid
    → drop end octets ≡ frame_of message ++ drop (4 + length message) (drop end octets) → length message < 2 ^ 32
    → HoldsAfter mid new (λ held. held ++ line_of message) → ShowsMore octets from (end + (4 + length message)) old new
one_more octets from end message old mid new shows is small next =
    let whole : length (drop end octets) ≡ length (frame_of message ++ drop (4 + length message) (drop end octets)) = ap length is in
    let sum : length (frame_of message ++ drop (4 + length message) (drop end octets)) ≡ length (frame_of message) + length (drop (4 + length message) (drop end octets)) = length-append (frame_of message) _ in
    let left : length (drop end octets) ≡ length octets - end = length-drop end octets in
    let frame : length (frame_of message) ≡ 4 + length message = long message in
    record {
      messages = shows.messages ++ message ∷ [];
      have = have-append shows.messages (message ∷ []) shows.have (small, tt);
      within = let within = shows.within in omega (arith, whole, sum, left, frame);
      frames_are = shows.frames_are ∙ (ap (λ rest. frames shows.messages ++ rest) (is ∙ ap (λ rest. frame_of message ++ rest) (drop_further octets end (4 + length message)))
          ∙ (sym (append_assoc (frames shows.messages) (frame_of message) (drop (end + (4 + length message)) octets))
          ∙ ap (λ front. front ++ drop (end + (4 + length message)) octets) (sym (frames_more shows.messages message))));
      shown_is = held_more shows.messages message old mid new shows.shown_is next;
    }

-- the next message is refused
pub last_part : (octets : List ℕ) (from end : ℕ) (message : List ℕ) (old mid new : Option (List ℕ)) → ShowsMore octets from end old mid
    → drop end octets ≡ frame_of message ++ drop (4 + length message) (drop end octets) → length message < 2 ^ 32
    → HoldsPrefix mid new (line_of message) → ShowsPart octets from old new
last_part octets from end message old mid new shows is small next = record {
  messages = shows.messages ++ message ∷ [];
  have = have-append shows.messages (message ∷ []) shows.have (small, tt);
  behind = drop (4 + length message) (drop end octets);
  frames_are = shows.frames_are ∙ (ap (λ rest. frames shows.messages ++ rest) is
      ∙ (sym (append_assoc (frames shows.messages) (frame_of message) (drop (4 + length message) (drop end octets)))
      ∙ ap (λ front. front ++ drop (4 + length message) (drop end octets)) (sym (frames_more shows.messages message))));
  shown_is = held_part shows.messages message old mid new shows.shown_is next;
}

-- nothing is shown yet
pub none_more : (octets : List ℕ) (from : ℕ) (held : Option (List ℕ)) → from ≤ length octets → ShowsMore octets from from held held
none_more octets from held within = record { messages = []; have = tt; within = within; frames_are = refl; shown_is = by held }
  where
    by : (held : Option (List ℕ)) → HoldsAfter held held (λ text. text ++ [])
    by None = tt
    by (Some text) = ap (λ t. Some t) (sym (append-nil text))

pub stays_then : (port : Port) (t u v : Told) → StaysElsewhere port t u → StaysElsewhere port u v → StaysElsewhere port t v
stays_then port t u v a b = record {
  told = λ name told. b.told name (a.told name told);
  counted = let x = a.counted in let y = b.counted in omega arith;
  other_ports = λ other apart. b.other_ports other apart ∙ a.other_ports other apart;
  other_counts = λ other apart. b.other_counts other apart ∙ a.other_counts other apart;
  load_counts = b.load_counts ∙ a.load_counts;
}

-- ---- counts

-- a count that is the greatest number has risen
risen_top : (first new : ℕ) → first ≤ 2 ^ 64 - 1 → new ≡ 2 ^ 64 - 1 → HasRisen first new
risen_top first new le top = elim (leb_tells (2 ^ 64 - 1) first) [ inl p ↦ inr (let q = p.1 in omega arith, top) | inr p ↦ inl (let q = p.1 in omega arith) ]

pub risen_from : (first old new : ℕ) → first ≤ old → HasRisen old new → HasRisen first new
risen_from first old new le (inl up) = inl (omega arith)
risen_from first old new le (inr top) = let at = top.0 in risen_top first new (omega arith) top.1

pub risen_later : (first old new : ℕ) → HasRisen first old → old ≤ new → HasRisen first new
risen_later first old new (inl up) le = inl (omega arith)
risen_later first old new (inr top) le =
    let at = top.0 in let was = top.1 in
    elim (leb_tells new (2 ^ 64 - 1)) [ inl p ↦ inr (at, let q = p.1 in omega arith) | inr p ↦ inl (let q = p.1 in omega arith) ]
