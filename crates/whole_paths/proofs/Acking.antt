-- What came to an end in order is acknowledged.
use Rattle.std.proofs.Common.{◌≡◌, refl, sym, subst, ap, ◌∙◌, ◌⊎◌, inl, inr, ⊎_elim, ℕ, zero, suc, ◌+◌, ◌-◌, ◌^◌, ◌<◌, ◌≤◌, arith, le_refl, nat_lt, nat_le, ◌==◌, Bool, true, false, true≢false, not, ◌&&◌, ◌||◌, if◌then◌else◌, Option, Some, None, is_some, List, [], ◌∷◌, length, take}
use Rattle.std.specs.Prelude.{IfSome, IsSome, unwrap_or, get_or, find}
use Rattle.std.specs.List.{All, slice_get}
use Rattle.std.proofs.lemmas.Bool.{and_from, and_parts, cases_lt, le-leb, leb-true, ltb-true, le-ltb, lt-ltb}
use Rattle.std.proofs.lemmas.List.Elements.{All-head, All-tail}
use Rattle.std.proofs.lemmas.Option.{same_Some, slice_get-get_or}
use Rattle.path_segments.specs.Heard.{HeardSegment}
use Rattle.path_segments.specs.Spelled.{PlainSegment}
use Rattle.sides.specs.declared.side.Side.{Side}
use Rattle.dss_mapping.specs.Learning.{IsWithin}
use Rattle.dss_mapping.specs.Mappings.{Mappings, mapping_at, octets_of, run_of}
use Rattle.dss_mapping.specs.Runs.{covers}
use Rattle.dss_mapping.specs.declared.kept.KeptMapping.{KeptMapping}
use Rattle.link_model.specs.Steps.{segments_sent}
use Rattle.subflow_recv.specs.Laws.{payload_octet}
use Rattle.subflow_recv.specs.Receiving.{Receiving, filled, octet_at, place_at}
use Rattle.subflow_tcp.specs.Dues.{owing_ack, owing_answer}
use Rattle.subflow_tcp.specs.Judging.{meaning_of}
use Rattle.subflow_tcp.specs.Segments.{Copy, occupied}
use Rattle.subflow_tcp.specs.State.{EndState}
use Rattle.subflow_tcp.specs.States.{is_dead, is_half_open}
use Rattle.subflow_tcp.specs.Taking.{after_answering, after_occupying, after_heard_ack, after_established, after_hearing, after_payload}
use Rattle.subflow_tcp.specs.declared.dues.Due.{Due}
use Rattle.subflow_tcp.specs.declared.handshake.State.{State}
use Rattle.subflow_tcp.specs.declared.handshake.State.TheVariants as phase
use Rattle.subflow_tcp.specs.declared.verdicts.Meaning.TheVariants as means
use Rattle.actor_desk.specs.declared.ask.Reply.{Reply}
use Rattle.actor_desk.specs.Words.{is_nil, pick}
use Rattle.path_agenda.specs.declared.duty.Duty.{Duty}
use Rattle.path_agenda.specs.declared.duty.Duty.TheVariants as duties
use Rattle.path_agenda.specs.declared.duty.AskDuty.TheVariants as ask_duties
use Rattle.path_agenda.specs.declared.duty.StepDuty.TheVariants as step_duties
use Rattle.path_agenda.specs.declared.heard.Heard.{Heard}
use Rattle.path_store.specs.InfiniteMappings.{covers as covers_from}
use Rattle.path_store.specs.Passing.{Piece, some_piece, count_in, has_its_sum, is_there, named_piece}
use Rattle.path_store.specs.declared.infinite_mapping.InfiniteMapping.{InfiniteMapping}
use Rattle.path_core.specs.Arrival.{judged_in, after_judged, copy_of, owing_if, with_payload}
use Rattle.path_core.specs.Codec.{Codec}
use Rattle.path_core.specs.Deliver.{failing_by, failing_mapping, mapping_here, piece_by, piece_of, infinite_piece, plain_piece}
use Rattle.path_core.specs.Duties.{answered}
use Rattle.path_core.specs.End.{PathEnd}
use Rattle.path_core.specs.Handover.{handed}
use Rattle.path_core.specs.Judged.{taken_as}
use Rattle.path_core.specs.Looking.{first_sends, segment_sent}
use Rattle.path_core.specs.MpJoin.{is_joined}
use Rattle.path_core.specs.OptionsIn.{items_of, options_heard, hint_of, owes_by}
use Rattle.path_core.specs.State.{PathState, end_at, with_agenda}
use Rattle.path_core.specs.Steps.{takes, next_round}
use Rattle.path_core.specs.declared.judged.Judged.{Judged}
use Rattle.path_core.specs.declared.judged.Judged.TheVariants as judged
use Rattle.path_core.proofs.Judgements.{judged_taken}
use Rattle.world_laws.specs.declared.member.Member.TheVariants.{App, Path}
use Rattle.world_laws.specs.Actors.{Actor, ActorCrew, member_takes, member_next, is_over}
use Rattle.world_laws.specs.Members.{HoldsOfKind}
use Rattle.world_laws.specs.StampedBooks.{answer_to}
use Rattle.world_laws.specs.Worlds.{WorldState, Turn, after_turn}
use Rattle.world_laws.proofs.Whole.Ends.{MeansIs, means_so}
use Rattle.world_laws.specs.Writes.{side_of}
use Rattle.whole_paths.specs.Copies.{LinksAreNumbered}
use Rattle.whole_paths.specs.AgendaSteps.{is_silent}
use Rattle.whole_paths.specs.Answered.{CopiesAreAnswered, HasAnswered}
use Rattle.whole_paths.specs.AsFar.{stage}
use Rattle.whole_paths.specs.Brought.{comes_before_keeping, IsToKeep, IsThere, StaysThere, Comes, IsTo, Brings, KeepsWhatComes, PathsKeepWhatComes}
use Rattle.whole_paths.specs.Brought.{IsThere as there}
use Rattle.whole_paths.specs.Brought.{StaysThere as octet_goes}
use Rattle.whole_paths.specs.InHand.{IsInHand, IsInOrder, IsPartial, HandGoesOn, HandComesSo, HandsGoOn, WhatIsInHandIsAcknowledged}
use Rattle.whole_paths.specs.InHand.{HandGoesOn as hand}
use Rattle.whole_paths.specs.Mapped.{IsToLearn, IsMapped, StaysMapped, KnowsWhatIsTold, PathsKnowWhatIsTold, EndsAreLive, AreLive, MappingsAreLive}
use Rattle.whole_paths.specs.Mapped.{IsMapped as named}
use Rattle.whole_paths.specs.Mapped.{StaysMapped as mapping_goes}
use Rattle.whole_paths.specs.Owed.{AnswerGoesOn, AnswerComesSo}
use Rattle.whole_paths.specs.Owed.IsAnswered.{owes}
use Rattle.whole_paths.specs.Owed.{AnswerGoesOn as goes}
use Rattle.whole_paths.specs.Passed.{HasPassed, WhatIsInOrderIsPassed}
use Rattle.whole_paths.specs.Saying.{SaysWhatCame, HandsOver, PathsHandOver}
use Rattle.whole_paths.proofs.Agendas.{own_end}
use Rattle.whole_paths.proofs.Bringing.{coming_by, comes_so, first_so, what_comes_is_kept}
use Rattle.whole_paths.proofs.Flying.{Frames, FramesStay, frames_stay}
use Rattle.whole_paths.proofs.Knowing.{what_is_told_is_known}
use Rattle.whole_paths.proofs.Passing.{Resets, past_stage, silent_resets}
use Rattle.whole_paths.proofs.Paying.{StillOwed, Turned, TurnedTo, takes_turned, turned_to, settled_due, past_opening, AnswersComeSo, GoesSo, answers_come_so, refusing, sends_on}
use Rattle.whole_paths.proofs.Paying.{StillOwed as owing}
use Rattle.whole_paths.proofs.Saying.{AllSpeak, Speaks, ToSend, duty_speaks, each_segment_says_what_came, resets_by}
use Rattle.whole_paths.proofs.Saying.{Speaks as spoken}
use Rattle.whole_paths.proofs.Turns.{turn_each}
use Rattle.whole_paths.proofs.Waiting.{gone_stays}

-- ---- all below a position

-- each is so, or something else is
pub all_or : (A : ℕ → Type 0) (E : Type 0) (n : ℕ) → ((pos : ℕ) → pos < n → A pos ⊎ E) → ((pos : ℕ) → pos < n → A pos) ⊎ E
all_or A E zero each = inl (λ pos low. absurd (omega (arith, low)))
all_or A E (suc n) each = ⊎_elim
    (λ below. ⊎_elim (λ last. inl (λ pos low. ⊎_elim (below pos) (λ over. subst A (let same : n ≡ pos = omega (arith, low, over) in same) last) (cases_lt pos n))) (λ e. inr e) (each n (omega arith)))
    (λ e. inr e)
    (all_or A E n (λ pos low. each pos (omega (arith, low))))

-- ---- an octet at RCV.NXT is to be passed, where its mapping is known

no_none : (x : Piece) → 0 < length x.octets → some_piece x ≡ None → ⊥
no_none x more none = true≢false (sym (ap (λ b. is_some (if b then Some x else None)) (lt-ltb 0 (length x.octets) more)) ∙ ap is_some none)

some_first : (place n octet : ℕ) (xs : List (Option ℕ)) → 0 < n → place_at 0 xs ≡ Some octet → some_piece (record { place = place; octets = take n (filled xs) }) ≡ None → ⊥
some_first place zero octet xs more at none = absurd (omega (arith, more))
some_first place (suc n) octet [] more at none = true≢false (sym (ap is_some at))
some_first place (suc n) octet (None ∷ xs) more at none = true≢false (sym (ap is_some at))
some_first place (suc n) octet (Some x ∷ xs) more at none = no_none (record { place = place; octets = take (suc n) (filled (Some x ∷ xs)) }) (let some : 0 < suc (length (take n (filled xs))) = omega arith in some) none

plain_first : (place octet : ℕ) (xs : List (Option ℕ)) → place_at 0 xs ≡ Some octet → some_piece (record { place = place; octets = filled xs }) ≡ None → ⊥
plain_first place octet [] at none = true≢false (sym (ap is_some at))
plain_first place octet (None ∷ xs) at none = true≢false (sym (ap is_some at))
plain_first place octet (Some x ∷ xs) at none = no_none (record { place = place; octets = filled (Some x ∷ xs) }) (let some : 0 < suc (length (filled xs)) = omega arith in some) none

found_of : (P : KeptMapping → Bool) (xs : List KeptMapping) → All IsWithin xs → IfSome (find P xs) (λ m. (P m ≡ true) × IsWithin m)
found_of P [] all = tt
found_of P (x ∷ xs) all = (elim (P x) as (λ b. P x ≡ b → IfSome (if b then Some x else find P xs) (λ m. (P m ≡ true) × IsWithin m))
    [ true ↦ λ is. (is, All-head IsWithin x xs all) | false ↦ λ is. found_of P xs (All-tail IsWithin x xs all) ]) refl

mapping_of : (v : Mappings) (edge pos : ℕ) → AreLive v edge → IfSome (mapping_at v pos) (λ m. (covers pos (run_of m) ≡ true) × IsWithin m)
mapping_of v edge pos h = elim (nat_lt pos v.forgotten) as
    (λ b. IfSome (if b then None else find (λ kept. covers pos (run_of kept)) v.live) (λ m. (covers pos (run_of m) ≡ true) × IsWithin m))
    [ true ↦ tt | false ↦ found_of (λ kept. covers pos (run_of kept)) v.live h.within ]

edge_at : (v : Receiving) (octet : ℕ) → octet_at v.edge v ≡ Some octet → place_at 0 v.places ≡ Some octet
edge_at v octet at =
    let none : v.edge - v.edge ≡ 0 = omega arith in
    sym (ap (λ n. place_at n v.places) none) ∙ sym (ap (λ b. if b then None else place_at (v.edge - v.edge) v.places) (le-ltb v.edge v.edge (omega arith))) ∙ at

named_some : (m : KeptMapping) (t : EndState) (octet : ℕ) → covers t.recv.edge (run_of m) ≡ true → IsWithin m → octet_at t.recv.edge t.recv ≡ Some octet → piece_by false (Some m) t ≡ None → ⊥
named_some m t octet is within at none =
    let parts = and_parts (nat_le m.pos t.recv.edge) (nat_lt t.recv.edge (run_of m).to) is in
    let low : m.pos ≤ t.recv.edge = leb-true m.pos t.recv.edge parts.0 in
    let high : t.recv.edge < (run_of m).to = ltb-true t.recv.edge (run_of m).to parts.1 in
    some_first (m.place + (t.recv.edge - m.pos)) (count_in t.recv.edge m) octet t.recv.places (omega (arith, low, high, within)) (edge_at t.recv octet at) none

-- octets in order
filled_far : (n : ℕ) (xs : List (Option ℕ)) → ((i : ℕ) → i < n → IsSome (place_at i xs)) → n ≤ length (filled xs)
filled_far zero xs all = omega arith
filled_far (suc n) [] all = absurd (true≢false (sym (all 0 (omega arith))))
filled_far (suc n) (None ∷ xs) all = absurd (true≢false (sym (all 0 (omega arith))))
filled_far (suc n) (Some x ∷ xs) all = let rest = filled_far n xs (λ i low. all (suc i) (omega (arith, low))) in let one : length (filled (Some x ∷ xs)) ≡ suc (length (filled xs)) = refl in omega (arith, rest, one)

place_of_octet : (v : Receiving) (pos : ℕ) → v.edge ≤ pos → octet_at pos v ≡ place_at (pos - v.edge) v.places
place_of_octet v pos low = ap (λ b. if b then None else place_at (pos - v.edge) v.places) (le-ltb pos v.edge low)

octets_far : (v : Receiving) (position : ℕ) → ((pos : ℕ) → v.edge ≤ pos → pos < position → IsSome (octet_at pos v)) → position - v.edge ≤ length (filled v.places)
octets_far v position all = filled_far (position - v.edge) v.places (λ i low.
    (let at : v.edge + i - v.edge ≡ i = omega arith in
    subst (λ j. IsSome (place_at j v.places)) at (subst IsSome (place_of_octet v (v.edge + i) (omega arith)) (all (v.edge + i) (omega arith) (omega (arith, low))))))

-- a mapping that is whole is so with more octets
there_more : (m : KeptMapping) (edge held more : ℕ) → held ≤ more → is_there m edge held ≡ true → is_there m edge more ≡ true
there_more m edge held more low is =
    let a = and_parts (m.pos == edge) _ is in
    let b = and_parts (nat_lt 0 (octets_of m)) _ a.1 in
    let c = and_parts (nat_le (octets_of m) held) (nat_le (m.place + octets_of m) (2 ^ 62)) b.1 in
    let few = leb-true (octets_of m) held c.0 in
    and_from (m.pos == edge) _ a.0 (and_from (nat_lt 0 (octets_of m)) _ b.0 (and_from (nat_le (octets_of m) more) _ (le-leb (octets_of m) more (omega (arith, few, low))) c.1))

-- one that is whole and right lets octets pass
right_some : (m : KeptMapping) (t : EndState) (octet : ℕ) → covers t.recv.edge (run_of m) ≡ true → IsWithin m → octet_at t.recv.edge t.recv ≡ Some octet
    → is_there m t.recv.edge (length (filled t.recv.places)) ≡ true → has_its_sum m (filled t.recv.places) ≡ true → piece_by true (Some m) t ≡ None → ⊥
right_some m t octet is within at whole right none = named_some m t octet is within at
    (sym (ap (λ b. if b then some_piece (named_piece m t.recv.edge (filled t.recv.places)) else None) (and_from (is_there m t.recv.edge (length (filled t.recv.places))) _ whole right)) ∙ none)

mapped_some : (o : Option KeptMapping) (t : EndState) (octet : ℕ) → IsSome o → IfSome o (λ m. (covers t.recv.edge (run_of m) ≡ true) × IsWithin m) → octet_at t.recv.edge t.recv ≡ Some octet → piece_by false o t ≡ None → ⊥
mapped_some None t octet some is at none = true≢false (sym some)
mapped_some (Some m) t octet some is at none = named_some m t octet is.0 is.1 at none

-- before it is kept nothing is sent but a reset
before_silent : (d : Duty) → comes_before_keeping d ≡ true → is_silent d ≡ true
before_silent (duties.Ask (ask_duties.JoinHeard s)) before = absurd (true≢false (sym before))
before_silent (duties.Step step_duties.Events) before = absurd (true≢false (sym before))
before_silent (duties.Step (step_duties.Data s)) before = absurd (true≢false (sym before))
before_silent (duties.Ask d) before = refl
before_silent (duties.Silent d) before = refl
before_silent (duties.Step d) before = refl
before_silent (duties.Send d) before = absurd (true≢false (sym before))
before_silent duties.End before = absurd (true≢false (sym before))

-- what occupies a position is owed an acknowledgement
pub owing_due : (owes : Bool) (x : EndState) (c : Copy) → 0 < occupied c → (owing_if owes (after_occupying c x)).due.ack ≡ true
owing_due true x c more = refl
owing_due false x c more = ap (λ b. (if b then owing_ack x.due else x.due).ack) (lt-ltb 0 (occupied c) more)

-- a copy outside the window is, but at a half-open end
answering_due : (s : EndState) → 3 ≤ stage s.state → (after_answering s).due.ack ≡ true
answering_due s high = ap (λ b. (owing_answer b s.due).ack) (opened s.state high)
  where
    opened : (state : State) → 3 ≤ stage state → is_half_open state ≡ false
    opened phase.SynReceived high = absurd (omega (arith, high))
    opened _ high = refl

-- an octet of the payload
pub octet_of : (payload : List ℕ) (at pos : ℕ) → at ≤ pos → pos < at + length payload → payload_octet pos at payload ≡ Some (get_or payload (pos - at) 0)
octet_of payload at pos low high = ap (λ b. if b then None else slice_get payload (pos - at)) (le-ltb pos at low) ∙ slice_get-get_or payload (pos - at) 0 (omega (arith, low, high))

module _ {C : Type 0} where
  -- with a mapping there is a piece, and in plain TCP without one; with checksums one that is whole, unless it fails its check
  pub piece_some : (s : Side) (octet position : ℕ) (p : PathState C) → (end_at s p).tcp.recv.edge < position → ((pos : ℕ) → (end_at s p).tcp.recv.edge ≤ pos → pos < position → IsSome (octet_at pos (end_at s p).tcp.recv)) → AreLive (end_at s p).receiving.mappings (end_at s p).tcp.recv.edge
      → octet_at (end_at s p).tcp.recv.edge (end_at s p).tcp.recv ≡ Some octet → IsSome (mapping_at (end_at s p).receiving.mappings (end_at s p).tcp.recv.edge)
      → (end_at s p).modes.peer_infinite ≡ None → piece_of s p ≡ None → IsSome (failing_mapping p.profile (end_at s p)) ⊎ IsPartial s position p
  piece_some s octet position p behind octets live at some finite none = by_mode e.modes.identity refl
    where
      e : PathEnd
      e = end_at s p

      t : EndState
      t = e.tcp

      here : Option KeptMapping
      here = mapping_at e.receiving.mappings t.recv.edge

      by : Bool → Option InfiniteMapping → Option Piece
      by plain o = if plain then some_piece (plain_piece t)
          else (if covers_from o t.recv.edge then infinite_piece o t
          else piece_by p.profile.spelling.checksums (if plain || covers_from o t.recv.edge then None else here) t)

      Hinders : Type 0
      Hinders = IsSome (failing_mapping p.profile e) ⊎ IsPartial s position p

      named : IfSome here (λ m. (covers t.recv.edge (run_of m) ≡ true) × IsWithin m)
      named = mapping_of e.receiving.mappings t.recv.edge t.recv.edge live

      -- the mapping counts
      here_is : e.modes.identity ≡ false → mapping_here e ≡ here
      here_is mapped = ap (λ b. if b || covers_from e.modes.peer_infinite t.recv.edge then None else here) mapped ∙ ap (λ o. if covers_from o t.recv.edge then None else here) finite

      with_sums : p.profile.spelling.checksums ≡ true → e.modes.identity ≡ false → (m : KeptMapping) → here ≡ Some m → (covers t.recv.edge (run_of m) ≡ true) × IsWithin m → piece_by true (Some m) t ≡ None → Hinders
      with_sums sums mapped m is fits silent = by_whole (is_there m t.recv.edge (position - t.recv.edge)) refl
        where
          by_sum : is_there m t.recv.edge (length (filled t.recv.places)) ≡ true → (b : Bool) → has_its_sum m (filled t.recv.places) ≡ b → Hinders
          by_sum whole true right = absurd (right_some m t octet fits.0 fits.1 at whole right silent)
          by_sum whole false wrong = inl (ap is_some (ap (λ b. failing_by b (mapping_here e) t) sums ∙ ap (λ o. failing_by true o t) (here_is mapped ∙ is)
              ∙ ap (λ b. if b && not (has_its_sum m (filled t.recv.places)) then Some m else None) whole ∙ ap (λ b. if not b then Some m else None) wrong))

          by_whole : (b : Bool) → is_there m t.recv.edge (position - t.recv.edge) ≡ b → Hinders
          by_whole true whole = by_sum (there_more m t.recv.edge (position - t.recv.edge) (length (filled t.recv.places)) (octets_far t.recv position octets) whole) (has_its_sum m (filled t.recv.places)) refl
          by_whole false short = inr (record { checksums = sums; behind = behind; mapping = m; here = is; short = short })

      by_sums : (b : Bool) → p.profile.spelling.checksums ≡ b → e.modes.identity ≡ false → piece_by b here t ≡ None → Hinders
      by_sums false sums mapped silent = absurd (mapped_some here t octet some named at silent)
      by_sums true sums mapped silent = by_mapping here refl some named silent
        where
          by_mapping : (o : Option KeptMapping) → here ≡ o → IsSome o → IfSome o (λ m. (covers t.recv.edge (run_of m) ≡ true) × IsWithin m) → piece_by true o t ≡ None → Hinders
          by_mapping None is some fits silent = absurd (true≢false (sym some))
          by_mapping (Some m) is some fits silent = with_sums sums mapped m is fits silent

      by_mode : (b : Bool) → e.modes.identity ≡ b → Hinders
      by_mode true plain = absurd (plain_first (t.recv.edge - 1) octet t.recv.places (edge_at t.recv octet at) (sym (ap (λ b. by b e.modes.peer_infinite) plain) ∙ none))
      by_mode false mapped = by_sums p.profile.spelling.checksums refl mapped (sym (ap (by false) finite) ∙ sym (ap (λ b. by b e.modes.peer_infinite) mapped) ∙ none)

  -- ---- before it is kept and known nothing is sent but a reset

  pub keep_resets : (s : Side) (ds : List Duty) (p : PathState C) → IsToKeep s ds → IfSome (first_sends ds p) (Resets p)
  keep_resets s [] p keep = absurd keep
  keep_resets s (d ∷ ds) p keep = silent_resets d p (before_silent d keep.1.0)

  pub learn_resets : (s : Side) (items : List Heard) (ds : List Duty) (p : PathState C) → IsToLearn s items ds → IfSome (first_sends ds p) (Resets p)
  learn_resets s items [] p learn = absurd learn
  learn_resets s items (duties.Step (step_duties.Heard t index) ∷ ds) p learn = silent_resets (duties.Step (step_duties.Heard t index)) p refl
  learn_resets s items (d ∷ ds) p learn = silent_resets d p (before_silent d learn.1.0)

  -- ---- one turn of a path

  module _ (k : Codec C) (s : Side) (position by_then : ℕ) (p q : PathState C) (Was : PlainSegment → Type 0) where
    abbrev Next : Type 0
    Next = (go : HandGoesOn k s position by_then p q) × HandComesSo Was go

    -- each octet is there still, with its mapping, or something else is
    octet_on : (pos octet : ℕ) → StaysThere s pos octet p q → ((octet : ℕ) × IsThere s pos octet q) ⊎ Next
    octet_on pos octet (octet_goes.on is) = inl (octet, is)
    octet_on pos octet (octet_goes.gone dead) = inr (hand.answered (goes.gone dead), tt)
    octet_on pos octet (octet_goes.reset is) = inr (hand.reset is, tt)
    octet_on pos octet (octet_goes.behind_fin is) = inr (hand.behind_fin is, tt)
    octet_on pos octet (octet_goes.fails is) = inr (hand.fails (inl is), tt)
    octet_on pos octet (octet_goes.fails_untold with_sums reads plain) = inr (hand.untold with_sums reads plain, tt)
    octet_on pos octet (octet_goes.dropped is) = inr (hand.dropped is, tt)

    mapping_on : (pos : ℕ) → StaysMapped s pos p q → IsMapped s pos q ⊎ Next
    mapping_on pos (mapping_goes.on is) = inl is
    mapping_on pos (mapping_goes.gone dead) = inr (hand.answered (goes.gone dead), tt)
    mapping_on pos (mapping_goes.reset is) = inr (hand.reset is, tt)
    mapping_on pos (mapping_goes.plain is) = inr (hand.plain is, tt)
    mapping_on pos (mapping_goes.unkeyed is) = inr (hand.unkeyed is, tt)

  module _ (k : Codec C) (s : Side) (position by_then : ℕ) (p q : PathState C) (h : IsInHand s position by_then p) (Was : PlainSegment → Type 0) where
    abbrev Then : Type 0
    Then = (go : HandGoesOn k s position by_then p q) × HandComesSo Was go

    -- the duty before what is sent leaves what is owed
    holds_on : Turned p q → Frames p q → KeepsWhatComes k p q → KnowsWhatIsTold k p q → (d : Duty) (others : List Duty) → p.agenda ≡ d ∷ others → q.clock ≡ p.clock → (end_at s q).tcp.due.ack ≡ true → Then
    holds_on turned frames keeps knows d others first clock due = ⊎_elim
        (λ octets. ⊎_elim
        (λ mapped. (
          hand.on (record {
            in_time = (let low = h.in_time in omega (arith, clock, low));
            opened = (let low = h.opened in let up = (turned.far s).subflow.state in omega (arith, low, up));
            due = due;
            octets = octets;
            mapped = mapped;
          }),
          tt,
        ))
        (λ next. next)
        (all_or (λ pos. IsMapped s pos q) Then position (λ pos low. mapping_on k s position by_then p q Was pos (knows.stays s pos (h.mapped pos low)))))
        (λ next. next)
        (all_or (λ pos. (octet : ℕ) × IsThere s pos octet q) Then position (λ pos low. let at = h.octets pos low in octet_on k s position by_then p q Was pos at.0 (keeps.stays s pos at.0 at.1)))

    -- no segment acknowledges less
    module _ (t : ToSend) (sends : first_sends p.agenda p ≡ Some t) (own : t.from ≡ s) (short : (end_at s p).tcp.recv.edge < position) (live : EndsAreLive p) (none : (segment_sent p t).rst ≡ false → piece_of s p ≡ None) where
      abbrev edge : ℕ
      edge = (end_at s p).tcp.recv.edge

      no_reset : IfSome (first_sends p.agenda p) (Resets p) → (segment_sent p t).rst ≡ false → ⊥
      no_reset all speaks = true≢false (sym (subst (λ (o : Option ToSend). IfSome o (Resets p)) sends all) ∙ speaks)

      kept_at : (segment_sent p t).rst ≡ false → (pos octet : ℕ) → edge ≤ pos → IsThere s pos octet p → octet_at pos (end_at s p).tcp.recv ≡ Some octet
      kept_at speaks pos octet high (there.passed low) = absurd (omega (arith, low, high))
      kept_at speaks pos octet high (there.kept is) = is.now
      kept_at speaks pos octet high (there.held at keep) = absurd (no_reset (keep_resets s p.agenda p keep) speaks)

      known_at : (segment_sent p t).rst ≡ false → IsMapped s edge p → IsSome (mapping_at (end_at s p).receiving.mappings edge)
      known_at speaks (named.passed low) = absurd (omega (arith, low))
      known_at speaks (named.known some) = some
      known_at speaks (named.told m first is learn) = absurd (no_reset (learn_resets s (end_at s p).treated.items p.agenda p learn) speaks)

      not_short : (segment_sent p t).rst ≡ false → (end_at s p).modes.peer_infinite ≡ None → Then
      not_short speaks finite =
          let at = h.octets edge short in
          ⊎_elim (λ failing. (hand.fails (inr failing), tt)) (λ partial. (hand.partial partial, tt))
          (piece_some s at.0 position p short (λ pos high low. let here = h.octets pos low in ap is_some (kept_at speaks pos here.0 high here.1)) (live s) (kept_at speaks edge at.0 (le_refl edge) at.1)
          (known_at speaks (h.mapped edge short)) finite (none speaks))

      abbrev sent : PlainSegment
      sent = segment_sent p t

      says_so : Speaks (end_at s p) sent → Then
      says_so (spoken.acks is speaks) = by (end_at s p).modes.peer_infinite refl
        where
          by : (o : Option InfiniteMapping) → (end_at s p).modes.peer_infinite ≡ o → Then
          by None finite = not_short speaks finite
          by (Some mapping) is = (hand.infinite (ap is_some is), tt)
      says_so (spoken.syns state none) = absurd (past_opening (end_at s p).tcp.state h.opened state)

      -- unless it is a reset
      speaks_so : (d : Duty) (others : List Duty) → p.agenda ≡ d ∷ others → sends_on d ≡ true → side_of d ≡ s → Then
      speaks_so d others first on side = by (resets_by d) refl
        where
          by : (b : Bool) → resets_by d ≡ b → Then
          by true may = (hand.answered (goes.resets (refusing d s others p.agenda on may side first)), tt)
          by false none = says_so (subst (λ u. Speaks (end_at u p) (segment_sent p t)) own (subst (λ (o : Option ToSend). AllSpeak o p) (sym (ap (λ ds. first_sends ds p) first) ∙ sends) (duty_speaks d p none)))

    module _ (turned : Turned p q) (answered : HasAnswered p) where
      -- unless the end is dead, and stays so
      if_living : (is_dead (end_at s p).tcp.state ≡ false → Then) → Then
      if_living living = by (is_dead (end_at s p).tcp.state) refl
        where
          by : (b : Bool) → is_dead (end_at s p).tcp.state ≡ b → Then
          by true dead = (hand.answered (goes.gone (gone_stays (end_at s p) (end_at s q) (turned.far s) dead)), tt)
          by false lives = living lives

      short_goes : Frames p q → KeepsWhatComes k p q → KnowsWhatIsTold k p q → HandsOver k p q → HasPassed p → EndsAreLive p → (end_at s p).tcp.recv.edge < position → StillOwed s p q → Then
      short_goes frames keeps knows hands passed live short (owing.keeps d others first other due) = holds_on turned frames keeps knows d others first (frames.stands d others first other) (due h.due)
      short_goes frames keeps knows hands passed live short (owing.has_died gone) = (hand.answered (goes.gone gone), tt)
      short_goes frames keeps knows hands passed live short (owing.is_sent d others first on side t sends own) = if_living (λ living. ⊎_elim
          (λ same. (hand.on (subst (IsInHand s position by_then) (sym same) h), tt))
          (λ taken. speaks_so t sends own short live
          (subst (λ (o : Option ToSend). IfSome o (λ t. t.from ≡ s → (segment_sent p t).rst ≡ false → piece_of s p ≡ None)) sends (passed s living).sends own)
          d others first on side)
          (subst (λ (o : Option ToSend). IfSome o (λ t. (q ≡ p) ⊎ ((q.link ≡ handed k t.from (segment_sent p t) p) × SaysWhatCame (end_at t.from p) (segment_sent p t)))) sends hands.sends))
      short_goes frames keeps knows hands passed live short (owing.rests same) = (hand.on (subst (IsInHand s position by_then) (sym same) h), tt)
      short_goes frames keeps knows hands passed live short (owing.is_done is) = if_living (λ living. absurd (true≢false (sym h.due ∙ (answered is s living).ack)))

      hand_goes : Frames p q → KeepsWhatComes k p q → KnowsWhatIsTold k p q → HandsOver k p q → HasPassed p → EndsAreLive p → AnswersComeSo Was k (Path p) (Path q) → segments_sent s p.link < 2 ^ 64 - 1 → GoesSo Was s p → Then
      hand_goes frames keeps knows hands passed live answers few was = ⊎_elim
          (λ short. short_goes frames keeps knows hands passed live short (turned.owing s))
          (λ far. (let go = answers s position by_then few was (owes h.in_time h.opened far h.due) tt in (hand.answered go.0, go.1)))
          (cases_lt (end_at s p).tcp.recv.edge position)

  -- ---- a copy comes in order

  -- the peer is owed an acknowledgement
  pub record IsOwed (s : Side) (q : PathState C) : Type 0 where
    due : (end_at s q).tcp.due.ack ≡ true
    opened : 2 ≤ stage (end_at s q).tcp.state

  abbrev OwesForOctets : Codec C → PathState C → PathState C → Type 0
  OwesForOctets k p q = (b : Brings k p) → 0 < length b.copy.segment.payload → (q ≡ p) ⊎ IsOwed b.copy.due.to q

  module _ (k : Codec C) (ds : List Duty) (r : Reply) (p : PathState C) (b : Brings k (with_agenda (duties.Step step_duties.Events ∷ ds) p)) (some : 0 < length b.copy.segment.payload) where
    abbrev to : Side
    to = b.copy.due.to

    abbrev own : PathEnd
    own = end_at to p

    abbrev said : HeardSegment
    said = options_heard own b.copy.segment

    abbrev before : PathState C
    before = with_agenda (duties.Step step_duties.Events ∷ ds) p

    abbrev after : PathState C
    after = answered k (duties.Step step_duties.Events) r before

    taken_due : (end_at to after).tcp.due.ack ≡ true
    taken_due = comes_so (λ q. (end_at to q).tcp.due.ack ≡ true) k ds r p b.copy
        (subst (λ (verdict : Judged). (pick to (pick to (after_judged p.profile to now said verdict own) p.a) (pick to p.b (after_judged p.profile to now said verdict own))).tcp.due.ack ≡ true) (sym b.taken)
        (subst (λ (f : PathEnd). f.tcp.due.ack ≡ true) (sym (own_end to taken p.a p.b))
        (owing_due (owes_by (means.Taken b.position b.acknowledged) items) heard (copy_of said) (omega (arith, some)))))
      where
        now : ℕ
        now = (coming_by ds p b.copy).clock

        items : List Heard
        items = items_of (is_joined p.profile) to said

        taken : PathEnd
        taken = after_judged p.profile to now said (judged.As (means.Taken b.position b.acknowledged)) own

        ready : EndState
        ready = after_established (after_hearing (after_payload b.position (hint_of items) (copy_of said) (with_payload (means.Taken b.position b.acknowledged) b.copy.segment.payload own.tcp)))

        heard : EndState
        heard = after_heard_ack b.acknowledged (hint_of items) now (copy_of said) ready

    taken_opened : 2 ≤ stage own.tcp.state
    taken_opened = past_stage own.tcp.state (subst (λ (verdict : Judged). MeansIs (copy_of said) own.tcp (taken_as verdict)) b.taken fits).0
      where
        fits : MeansIs (copy_of said) own.tcp (taken_as (judged_in (is_joined p.profile) to said own))
        fits = judged_taken said.rst (items_of (is_joined p.profile) to said) own (λ n. MeansIs (copy_of said) own.tcp n) tt (is_joined p.profile) (meaning_of (copy_of said) own.tcp) (means_so (copy_of said) own.tcp)

    copy_owed : Turned before (takes k r before) → IsOwed to (takes k r before)
    copy_owed turned = record {
      due = ap (λ (d : Due). d.ack) (settled_due after.agenda after to) ∙ taken_due;
      opened = (let low = taken_opened in let up = (turned.far to).subflow.state in omega (arith, low, up));
    }

  -- a copy outside the window
  abbrev OwesOutside : Codec C → PathState C → PathState C → Type 0
  OwesOutside k p q = (c : Comes k p) → IsTo k p c (judged.As means.Outside) → 3 ≤ stage (end_at c.due.to p).tcp.state → (q ≡ p) ⊎ ((end_at c.due.to q).tcp.due.ack ≡ true)

  outside_owed : (k : Codec C) (ds : List Duty) (r : Reply) (p : PathState C) → let x : PathState C = with_agenda (duties.Step step_duties.Events ∷ ds) p in (c : Comes k x)
      → IsTo k x c (judged.As means.Outside) → 3 ≤ stage (end_at c.due.to p).tcp.state → (end_at c.due.to (takes k r x)).tcp.due.ack ≡ true
  outside_owed k ds r p c outside high = ap (λ (d : Due). d.ack) (settled_due after.agenda after c.due.to) ∙ comes_so (λ q. (end_at c.due.to q).tcp.due.ack ≡ true) k ds r p c
      (subst (λ (verdict : Judged). (pick c.due.to (pick c.due.to (heard verdict) p.a) (pick c.due.to p.b (heard verdict))).tcp.due.ack ≡ true) (sym outside)
      (subst (λ (f : PathEnd). f.tcp.due.ack ≡ true) (sym (own_end c.due.to (heard (judged.As means.Outside)) p.a p.b)) (answering_due own.tcp high)))
    where
      own : PathEnd
      own = end_at c.due.to p

      after : PathState C
      after = answered k (duties.Step step_duties.Events) r (with_agenda (duties.Step step_duties.Events ∷ ds) p)

      heard : Judged → PathEnd
      heard verdict = after_judged p.profile c.due.to (coming_by ds p c).clock (options_heard own c.segment) verdict own

  abbrev OwesNow : Codec C → Reply → PathState C → List Duty → Type 0
  OwesNow k r p ds = (c : Comes k (with_agenda ds p)) → IsTo k (with_agenda ds p) c (judged.As means.Outside) → 3 ≤ stage (end_at c.due.to p).tcp.state
      → (end_at c.due.to (takes k r (with_agenda ds p))).tcp.due.ack ≡ true

  takes_outside : (k : Codec C) (r : Reply) (p : PathState C) → OwesOutside k p (takes k r p)
  takes_outside k r p = by p.agenda
    where
      by : (ds : List Duty) → let x : PathState C = with_agenda ds p in OwesOutside k x (takes k r x)
      by [] = λ c outside high. inl refl
      by (d ∷ ds) = λ c outside high. inr (subst (λ d. OwesNow k r p (d ∷ ds)) (sym (first_so d (duties.Step step_duties.Events) ds c.others c.first)) (outside_owed k ds r p) c outside high)

  takes_owed : (k : Codec C) (r : Reply) (p : PathState C) → OwesForOctets k p (takes k r p)
  takes_owed k r p = by p.agenda
    where
      first : (d : Duty) (ds : List Duty) → (b : Brings k (with_agenda (d ∷ ds) p)) → 0 < length b.copy.segment.payload → IsOwed b.copy.due.to (takes k r (with_agenda (d ∷ ds) p))
      first d ds b = subst
          (λ d. (b : Brings k (with_agenda (d ∷ ds) p)) → 0 < length b.copy.segment.payload → IsOwed b.copy.due.to (takes k r (with_agenda (d ∷ ds) p)))
          (sym (first_so d (duties.Step step_duties.Events) ds b.copy.others b.copy.first))
          (λ b some. copy_owed k ds r p b some (takes_turned k r (with_agenda (duties.Step step_duties.Events ∷ ds) p))) b

      by : (ds : List Duty) → let x : PathState C = with_agenda ds p in OwesForOctets k x (takes k r x)
      by [] = λ b some. inl refl
      by (d ∷ ds) = λ b some. inr (first d ds b some)

  next_owed : (k : Codec C) (p : PathState C) → is_nil p.agenda ≡ true → OwesForOctets k p (next_round p)
  next_owed k p over b some = absurd (true≢false (sym over ∙ ap is_nil b.copy.first))

  abbrev Owing : Codec C → Actor C → Actor C → Type 0
  Owing k (Path p) (Path q) = OwesForOctets k p q × OwesOutside k p q
  Owing k (App a) (App b) = Unit {0}
  Owing k _ _ = ⊥

  member_owes : (k : Codec C) (r : Reply) (m : Actor C) → Owing k m (member_takes k r m)
  member_owes k r (App a) = tt
  member_owes k r (Path p) = (takes_owed k r p, takes_outside k r p)

  member_begins : (k : Codec C) (m : Actor C) → is_over m ≡ true → Owing k m (member_next m)
  member_begins k (App a) over = tt
  member_begins k (Path p) over = (next_owed k p over, λ c outside high. absurd (true≢false (sym over ∙ ap is_nil c.first)))

  member_stays : (k : Codec C) (m : Actor C) → Owing k m m
  member_stays k (App a) = tt
  member_stays k (Path p) = (λ b some. inl refl, λ c outside high. inl refl)

  owing_turn : (k : Codec C) (w : WorldState C) (turn : Turn) (actor : ℕ) (c : ActorCrew C) → slice_get w.crew actor ≡ Some c
      → (d : ActorCrew C) × (slice_get (after_turn k turn w).crew actor ≡ Some d) × Owing k c.member d.member
  owing_turn k w turn = turn_each k (λ x y. Owing k x.member y.member) (λ x. member_stays k x.member) (λ ask books x. member_owes k (answer_to books ask) x.member)
      (λ stamp x over. member_begins k x.member over) turn w

  module _ (k : Codec C) (p q : PathState C) (b : Brings k p) (o : IsInOrder k p b) (frames : Frames p q) (turned : Turned p q) (Was : PlainSegment → Type 0) where
    abbrev taker : Side
    taker = b.copy.due.to

    abbrev until : ℕ
    until = b.position + length b.copy.segment.payload

    abbrev soon : ℕ
    soon = q.clock + 400

    abbrev Begins : Type 0
    Begins = (go : HandGoesOn k taker until soon p q) × HandComesSo Was go

    abbrev Or : Type 0 → Type 0
    Or A = A ⊎ ((q ≡ p) ⊎ Begins)

    or_else : (A : Type 0) → A ⊎ Begins → Or A
    or_else A x = ⊎_elim (λ a. inl a) (λ e. inr (inr e)) x

    still : (A B : Type 0) → (B → Or A) → (q ≡ p) ⊎ B → Or A
    still A B f x = ⊎_elim (λ same. inr (inl same)) f x

    risen : (pos : ℕ) → pos < (end_at taker p).tcp.recv.edge → pos < (end_at taker q).tcp.recv.edge
    risen pos low = (let up = (turned.far taker).subflow.received in omega (arith, low, up))

    octet_comes : KeepsWhatComes k p q → (pos : ℕ) → pos < until → Or ((octet : ℕ) × IsThere taker pos octet q)
    octet_comes keeps pos below = ⊎_elim
        (λ low. inl (0, there.passed (risen pos low)))
        (λ high. still ((octet : ℕ) × IsThere taker pos octet q) (StaysThere taker pos octet p q)
        (λ stays. or_else ((octet : ℕ) × IsThere taker pos octet q) (octet_on k taker until soon p q Was pos octet stays))
        (keeps.brings b pos byte (octet_of b.copy.segment.payload b.position pos (let from = o.starts in omega (arith, from, high)) below) (let in_window = o.within in omega (arith, below, in_window))))
        (cases_lt pos (end_at taker p).tcp.recv.edge)
      where
        byte : ℕ
        byte = get_or b.copy.segment.payload (pos - b.position) 0

        octet : ℕ
        octet = unwrap_or (octet_at pos (end_at taker p).tcp.recv) byte

    mapping_comes : KnowsWhatIsTold k p q → (pos : ℕ) → pos < until → Or (IsMapped taker pos q)
    mapping_comes knows pos below = ⊎_elim
        (λ low. inl (named.passed (risen pos low)))
        (λ high. still (IsMapped taker pos q) (StaysMapped taker pos p q) (λ stays. or_else (IsMapped taker pos q) (mapping_on k taker until soon p q Was pos stays))
        (knows.tells b o.mapping o.others pos o.held o.says (o.names pos high below)))
        (cases_lt pos (end_at taker p).tcp.recv.edge)

    begins_so : KeepsWhatComes k p q → KnowsWhatIsTold k p q → OwesForOctets k p q → (q ≡ p) ⊎ Begins
    begins_so keeps knows owed = ⊎_elim (λ same. inl same) (λ owes. ⊎_elim
        (λ octets. ⊎_elim
        (λ mapped. inr (
          hand.on (record {
            in_time = le_refl soon;
            opened = owes.opened;
            due = owes.due;
            octets = octets;
            mapped = mapped;
          }),
          tt,
        ))
        (λ e. e)
        (all_or (λ pos. IsMapped taker pos q) ((q ≡ p) ⊎ Begins) until (mapping_comes knows)))
        (λ e. e)
        (all_or (λ pos. (octet : ℕ) × IsThere taker pos octet q) ((q ≡ p) ⊎ Begins) until (octet_comes keeps))) (owed b o.some)

  -- ---- the world

  -- what becomes of what comes and is in hand, with what holds of the segments that go while an acknowledgement is owed
  abbrev pub HandsComeSo : (PlainSegment → Type 0) → Codec C → Actor C → Actor C → Type 0
  HandsComeSo Was k (Path p) (Path q) =
      ((b : Brings k p) → IsInOrder k p b
      → (q ≡ p) ⊎ ((go : HandGoesOn k b.copy.due.to (b.position + length b.copy.segment.payload) (q.clock + 400) p q) × HandComesSo Was go))
      × (((c : Comes k p) → IsTo k p c (judged.As means.Outside) → 3 ≤ stage (end_at c.due.to p).tcp.state
      → (q ≡ p) ⊎ ((go : AnswerGoesOn k c.due.to (end_at c.due.to p).tcp.recv.edge (q.clock + 400) p q) × AnswerComesSo Was go))
      × ((s : Side) (position by_then : ℕ) → segments_sent s p.link < 2 ^ 64 - 1 → GoesSo Was s p → IsInHand s position by_then p → (go : HandGoesOn k s position by_then p q) × HandComesSo Was go))
  HandsComeSo Was k (App a) (App b) = Unit {0}
  HandsComeSo Was k _ _ = ⊥

  hands_come : (Was : PlainSegment → Type 0) (k : Codec C) (m n : Actor C) → TurnedTo m n → FramesStay m n → PathsKeepWhatComes k m n → PathsKnowWhatIsTold k m n → PathsHandOver k m n → AnswersComeSo Was k m n → Owing k m n
      → HoldsOfKind (λ app. Unit {0}) HasAnswered m → HoldsOfKind (λ app. Unit {0}) HasPassed m → HoldsOfKind (λ app. Unit {0}) EndsAreLive m → HandsComeSo Was k m n
  hands_come Was k (App a) (App b) turned frames keeps knows hands answers owed answered passed live = tt
  hands_come Was k (Path p) (Path q) turned frames keeps knows hands answers owed answered passed live = (
    λ b o. begins_so k p q b o frames turned Was keeps knows owed.0,
    (
      λ c outside high. ⊎_elim (λ same. inl same) (λ due. inr (outside_so c high due, tt)) (owed.1 c outside high),
      λ s position by_then few was h. hand_goes k s position by_then p q h Was turned answered frames keeps knows hands passed live answers few was,
    ),
  )
    where
      outside_so : (c : Comes k p) → 3 ≤ stage (end_at c.due.to p).tcp.state → (end_at c.due.to q).tcp.due.ack ≡ true
          → AnswerGoesOn k c.due.to (end_at c.due.to p).tcp.recv.edge (q.clock + 400) p q
      outside_so c high due = (let far = turned.far c.due.to in let state = far.subflow.state in goes.on (owes (le_refl _) (omega (arith, high, state)) far.subflow.received due))
  hands_come Was k (App a) (Path q) turned frames keeps knows hands answers owed answered passed live = absurd turned
  hands_come Was k (Path p) (App b) turned frames keeps knows hands answers owed answered passed live = absurd turned

  -- whatever the segments are
  whatever_comes : (k : Codec C) (m n : Actor C) → HandsComeSo (λ x. Unit {0}) k m n → HandsGoOn k m n
  whatever_comes k (App a) (App b) h = tt
  whatever_comes k (Path p) (Path q) h = (
    λ b o. ⊎_elim (λ same. inl same) (λ go. inr go.0) (h.0 b o),
    (λ c outside high. ⊎_elim (λ same. inl same) (λ go. inr go.0) (h.1.0 c outside high), λ s position by_then few hand. (h.1.1 s position by_then few (λ t sends own due unreset. tt) hand).0),
  )
  whatever_comes k (App a) (Path q) h = absurd h
  whatever_comes k (Path p) (App b) h = absurd h

  pub same_actor : (P : ActorCrew C → Type 0) (v : WorldState C) (actor : ℕ) (d : ActorCrew C) → slice_get v.crew actor ≡ Some d → ((e : ActorCrew C) × (slice_get v.crew actor ≡ Some e) × P e) → P d
  same_actor P v actor d at x = subst P (same_Some x.0 d (sym x.1 ∙ at)) x.2

  pub hands_come_so : (Was : PlainSegment → Type 0) (k : Codec C) (w : WorldState C) → CopiesAreAnswered w → LinksAreNumbered w → WhatIsInOrderIsPassed w → MappingsAreLive w → (turn : Turn) (actor : ℕ) (c : ActorCrew C)
      → slice_get w.crew actor ≡ Some c → (d : ActorCrew C) × (slice_get (after_turn k turn w).crew actor ≡ Some d) × HandsComeSo Was k c.member d.member
  hands_come_so Was k w answered numbered passed live turn actor c at =
      let turned = turned_to k w turn actor c at in
      let d : ActorCrew C = turned.0 in
      let v : WorldState C = after_turn k turn w in (
        d,
        turned.1,
        hands_come Was k c.member d.member turned.2
            (same_actor (λ x. FramesStay c.member x.member) v actor d turned.1 (frames_stay k w turn actor c at))
            (same_actor (λ x. PathsKeepWhatComes k c.member x.member) v actor d turned.1 (what_comes_is_kept k w turn actor c at))
            (same_actor (λ x. PathsKnowWhatIsTold k c.member x.member) v actor d turned.1 ((what_is_told_is_known k).goes_on w live turn actor c at))
            (same_actor (λ x. PathsHandOver k c.member x.member) v actor d turned.1 (each_segment_says_what_came k w turn actor c at))
            (same_actor (λ x. AnswersComeSo Was k c.member x.member) v actor d turned.1 (answers_come_so Was k w answered numbered turn actor c at))
            (same_actor (λ x. Owing k c.member x.member) v actor d turned.1 (owing_turn k w turn actor c at))
            (answered.each actor c at) (passed.each actor c at) (live.each actor c at),
      )

  pub what_is_in_hand_is_acknowledged : (k : Codec C) → WhatIsInHandIsAcknowledged k
  what_is_in_hand_is_acknowledged k w answered numbered passed live turn actor c at =
      let go = hands_come_so (λ x. Unit {0}) k w answered numbered passed live turn actor c at in (go.0, go.1, whatever_comes k c.member go.0.member go.2)
