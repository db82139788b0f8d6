-- In the trace of a run each SYN of B's comes behind A's SYN of its path, and what is no SYN and no reset behind B's SYN/ACK there.
use Rattle.std.proofs.Common.{◌≡◌, sym, ap, ◌∙◌, subst, ℕ, ⊎_elim, Option, Some, None, List, [], ◌∷◌, ◌++◌, append_assoc}
use Rattle.std.specs.Option.{IfSome}
use Rattle.link_trace.specs.declared.sent.Sent.{Sent}
use Rattle.path_core.specs.Looking.{first_sends}
use Rattle.path_core.specs.Octets.{made, octets}
use Rattle.path_segments.specs.Spelled.{PlainSegment}
use Rattle.path_segments.specs.declared.spelling.Spelling.{Spelling}
use Rattle.run_trace.specs.Trace.{sent_at, trace_of}
use Rattle.sides.specs.declared.side.Side.TheVariants.{A, B}
use Rattle.sides.specs.declared.side.Side.{Side}
use Rattle.stream_lanes.proofs.Lists.{Has-more}
use Rattle.stream_lanes.specs.Words.{Every, Has}
use Rattle.world_laws.proofs.Lanes.Doing.{has_last}
use Rattle.world_laws.specs.Actors.{Actor}
use Rattle.world_laws.specs.Openings.{Start, opened_world, path_begins}
use Rattle.world_laws.specs.Promises.{HasRoom, NumbersFit}
use Rattle.world_laws.specs.Worlds.{Turn, WorldState, after_turn, world_run}
use Rattle.world_laws.specs.declared.member.Member.TheVariants.{App, Path}
use Rattle.own_runs.specs.Handshakes.{EachComesInOrder, IsOn, IsSyn, IsSynAck}
use Rattle.own_runs.proofs.AckMoments.{one_turn}
use Rattle.own_runs.proofs.ComesTimes.{comes_at}
use Rattle.own_runs.proofs.InTime.{AnswersAt, ComesAt, OpensAt, Sending, WasSaid}
use Rattle.own_runs.proofs.Moments.{IsSpoken, MemberAlso, WorldAlso, turn_spoken, world_speaks}
use Rattle.own_runs.proofs.ShownAcks.{both_worlds}
use Rattle.own_runs.proofs.Speaking.{ToSend}
use Rattle.own_runs.proofs.TimeRuns.{OpensSo, opens_so}
use Rattle.own_runs.proofs.ToldAcks.{SentIn, sent_in}
use Rattle.own_runs.proofs.WasSent.{trace_append}

-- the last one of some, and more behind it
has_middle : {P : Sent → Type 0} (xs ys : List Sent) (x : Sent) → P x → Has P (xs ++ x ∷ ys)
has_middle {P} xs ys x h = subst (λ (zs : List Sent). Has P zs) (append_assoc xs (x ∷ []) ys) (Has-more ys (has_last xs x h))

module _ (start : Start) (size : HasRoom start) (fit : NumbersFit start) where
  abbrev world : List Turn → WorldState (List ℕ)
  world turns = world_run octets turns (opened_world start)

  abbrev Any : ℕ → Side → PlainSegment → Type 0
  Any path s sg = Unit {0}

  any_also : (turns : List Turn) → WorldAlso Any (world turns)
  any_also turns i c at = by c.member
    where
      some : (o : Option ToSend) → IfSome o (λ t. Unit {0})
      some None = tt
      some (Some t) = tt

      by : (m : Actor (List ℕ)) → MemberAlso Any m
      by (App a) = tt
      by (Path p) = some (first_sends p.agenda p)

  -- what the turns sent is in the trace
  was_has : (P : Sending → Type 0) (Q : Sent → Type 0) (before : List Turn)
      → ((x : Sent) (sg : PlainSegment) (spelling : Spelling) → x.octets ≡ made spelling x.from sg → P (record { path = x.path; from = x.from; segment = sg }) → Q x)
      → WasSaid start P before → Has Q (trace_of before (opened_world start))
  was_has P Q before into h =
      subst (λ (ts : List Turn). Has Q (trace_of ts (opened_world start))) h.is
      (subst (λ (xs : List Sent). Has Q xs) (sym (trace_append h.more (h.turn ∷ h.later) (opened_world start)))
      (⊎_elim (λ none. absurd (never (sym none.1 ∙ h.sends)))
      (λ one. (let said : h.said ≡ record { path = one.0.path; from = one.0.from; segment = one.2.segment } = same_sending (sym h.sends ∙ one.2.also.1) in
      subst (λ (xs : List Sent). Has Q (trace_of h.more (opened_world start) ++ (xs ++ trace_of h.later (after_turn octets h.turn (world h.more))))) (sym one.1)
      (has_middle (trace_of h.more (opened_world start)) (trace_of h.later (after_turn octets h.turn (world h.more))) one.0
      (into one.0 one.2.segment (path_begins start one.0.path one.2.plan).profile.spelling one.2.octets (subst P said h.holds)))))
      (one_turn Any start h.turn (world h.more) (world_speaks start h.more size fit) (any_also h.more))))
    where
      never : (let nothing : Option Sending = None in nothing) ≡ Some h.said → ⊥
      never e = cc

      same_sending : {y : Sending} → Some h.said ≡ Some y → h.said ≡ y
      same_sending e = cc

pub comes_in_order : EachComesInOrder
comes_in_order start turns size fit i x is =
    let m : SentIn turns (opened_world start) i x = sent_in turns (opened_world start) i x is in
    let w : WorldState (List ℕ) = world_run octets m.before (opened_world start) in
    let Q : ℕ → Side → PlainSegment → Type 0 = λ path s sg. OpensSo start size fit m.before path s sg × ComesAt start m.before path s sg in
    let also : WorldAlso Q w = both_worlds (OpensSo start size fit m.before) (ComesAt start m.before) w (opens_so start size fit m.before) (comes_at start size fit m.before) in
    let all : Every (IsSpoken Q start) (sent_at m.turn (world_run octets m.before (opened_world start))) =
    turn_spoken Q start m.turn (world_run octets m.before (opened_world start)) (world_speaks start m.before size fit) also in
    let said = all.each 0 x m.sends in
    record {
      spelling = (path_begins start x.path said.plan).profile.spelling;
      segment = said.segment;
      octets = said.octets;
      answers = λ of_b syn. subst (λ (front : List Sent). Has (IsOn x.path A IsSyn) front) m.front
          (was_has start size fit (OpensAt x.path) (IsOn x.path A IsSyn) m.before
          (λ y sg spelling octets opens. record {
            path = opens.0;
            from = opens.1;
            spelling = spelling;
            segment = sg;
            octets = octets ∙ ap (λ (s : Side). made spelling s sg) opens.1;
            is = (opens.2.syn, opens.2.rst, opens.2.none);
          })
          (said.also.0.answers of_b syn));
      behind = λ syn rst. subst (λ (front : List Sent). Has (IsOn x.path B IsSynAck) front) m.front
          (was_has start size fit (AnswersAt x.path) (IsOn x.path B IsSynAck) m.before
          (λ y sg spelling octets answers. record {
            path = answers.0;
            from = answers.1;
            spelling = spelling;
            segment = sg;
            octets = octets ∙ ap (λ (s : Side). made spelling s sg) answers.1;
            is = (answers.2.syn, answers.2.acknowledged);
          })
          (said.also.0.behind syn rst).0);
      joins = λ of_a syn more. subst (λ (front : List Sent). Has (IsOn 0 B IsSynAck) front) m.front
          (was_has start size fit (AnswersAt 0) (IsOn 0 B IsSynAck) m.before
          (λ y sg spelling octets answers. record {
            path = answers.0;
            from = answers.1;
            spelling = spelling;
            segment = sg;
            octets = octets ∙ ap (λ (s : Side). made spelling s sg) answers.1;
            is = (answers.2.syn, answers.2.acknowledged);
          })
          (said.also.1.joins of_a syn more));
    }
