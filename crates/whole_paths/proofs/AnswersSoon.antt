-- An answer that the link takes comes within 400 ticks, where it isn't harmed.
use Rattle.std.proofs.Common.{◌≡◌, refl, sym, subst, ap, ◌⊎◌, inl, inr, ⊎_elim, ◌+◌, ◌-◌, ◌^◌, ◌<◌, ◌≤◌, arith, true, Option, Some, None, [], ◌∷◌, ◌++◌}
use Rattle.path_segments.specs.Spelled.{PlainSegment}
use Rattle.sides.specs.declared.side.Side.TheVariants.{A}
use Rattle.link_model.specs.State.{LinkState}
use Rattle.link_model.specs.Steps.{changed, segments_sent}
use Rattle.subflow_tcp.specs.declared.handshake.State.TheVariants as phase
use Rattle.actor_desk.specs.declared.ask.Reply.{Reply}
use Rattle.path_core.specs.Handover.{handed}
use Rattle.path_core.specs.Looking.{Hands, HandsOrTellsNone, first_sends, segment_sent}
use Rattle.path_core.specs.Profile.{Profile}
use Rattle.path_core.specs.Shown.{AltersNothing}
use Rattle.path_core.specs.State.{PathState}
use Rattle.path_core.specs.Steps.{takes}
use Rattle.path_core.specs.Values.{Carried, values}
use Rattle.path_core.proofs.SegmentsTold.{each_segment_is_told}
use Rattle.world_laws.specs.NeverFalls.{StripsNothing}
use Rattle.world_laws.specs.RoundDone.{reached}
use Rattle.world_laws.proofs.Writes.Steps.{begins_lasts}
use Rattle.whole_paths.specs.AnswersSoon.{EachSynAckIsAnsweredSoon, SynAckIsAnsweredSoon}
use Rattle.whole_paths.specs.AsFar.{stage}
use Rattle.whole_paths.specs.Exchanges.{IsBareWithin}
use Rattle.whole_paths.specs.Finish.{is_harmed}
use Rattle.whole_paths.specs.Copies.{CopiesAreNumbered}
use Rattle.whole_paths.specs.Mending.{IsSentSoon}
use Rattle.whole_paths.specs.Owed.{Covers, IsAnswered}
use Rattle.whole_paths.specs.RecordsGo.{IsOneSo}
use Rattle.whole_paths.specs.SynAcks.{IsSynAnswered, IsToBeAnswered}
use Rattle.whole_paths.proofs.ByTurns.{Becomes, Of, then_path}
use Rattle.whole_paths.proofs.Copies.{LinkStays, links_last}
use Rattle.whole_paths.proofs.Flying.{Frames, takes_frames}
use Rattle.whole_paths.proofs.RecordWaits.{path_is}
use Rattle.whole_paths.proofs.Saying.{ToSend}
use Rattle.whole_paths.proofs.SentSoon.{segments_come_soon, what_is_sent_comes_soon}

module _ (p q : PathState Carried) (numbered : CopiesAreNumbered p) (frames : Frames p q) (past : 3 ≤ stage q.a.tcp.state) (half : q.b.tcp.state ≡ phase.SynReceived) (unheard : q.b.tcp.send.una ≡ 0)
    (x : PlainSegment) (covers : Covers 1 x) (bare : IsBareWithin q.b.tcp.recv.edge q.a.tcp.send.nxt x) where
  comes : IsSentSoon values A x p q → IsToBeAnswered (p.clock + 400) q
  comes h = record {
    past = past;
    half_open = half;
    unheard = unheard;
    exchange = IsSynAnswered.answered (IsAnswered.flies h.copy h.soon h.there (record {
      to = h.to;
      segment = x;
      covers = covers;
      stripped = h.stripped;
      altered = h.altered;
      whole = λ strips. h.whole (subst StripsNothing frames.lines strips);
      plain = λ alters. h.plain (subst AltersNothing frames.lines alters);
      carried = subst (λ (c : Profile). h.copy.carried ≡ changed (values.strips c.spelling A) (values.alters c.spelling A) h.stripped h.altered (values.makes c.spelling A x)) (sym frames.profile) h.carried;
    })) bare;
  }

  soon : segments_sent A p.link < 2 ^ 64 - 1 → q.link ≡ handed values A x p → (is_harmed A p q ≡ true) ⊎ IsToBeAnswered (p.clock + 400) q
  soon few taken = ⊎_elim (λ harmed. inl harmed) (λ h. inr (comes h)) (segments_come_soon values p q numbered A x few taken)

module _ (p : PathState Carried) (numbered : CopiesAreNumbered p) where
  takes_soon : (reply : Reply) → SynAckIsAnsweredSoon p (takes values reply p)
  takes_soon reply past half unheard goes less few = by (first_sends p.agenda p) refl goes
    where
      by : (o : Option ToSend) → first_sends p.agenda p ≡ o
          → IsOneSo o (λ (t : ToSend). (t.from ≡ A) × Covers 1 (segment_sent p t) × IsBareWithin (takes values reply p).b.tcp.recv.edge (takes values reply p).a.tcp.send.nxt (segment_sent p t))
          → (is_harmed A p (takes values reply p) ≡ true) ⊎ IsToBeAnswered (p.clock + 400) (takes values reply p)
      by None is goes = absurd goes
      by (Some t) is goes =
          let hands : Hands values p t = subst (HandsOrTellsNone values p) is (each_segment_is_told values p) in
          soon p (takes values reply p) numbered (takes_frames values reply p) past half unheard (segment_sent p t) goes.1 goes.2 few
          (subst (λ s. (takes values reply p).link ≡ handed values s (segment_sent p t) p) goes.0 (hands.taken reply))

  becomes_soon : (q : PathState Carried) → Becomes values p q → SynAckIsAnsweredSoon p q
  becomes_soon q Becomes.stays = λ past half unheard goes less few. absurd (omega (arith, less))
  becomes_soon q (Becomes.takes_a_reply reply) = takes_soon reply
  becomes_soon q Becomes.begins_anew = λ past half unheard goes less few. absurd
      (let same = ap (λ (l : LinkState Carried). segments_sent A l) (begins_lasts LinkStays links_last (record p { clock = p.until; until = p.until + 100 })) in omega (arith, same, less))

pub each_syn_ack_is_answered_soon : EachSynAckIsAnsweredSoon
each_syn_ack_is_answered_soon start turns turn mild p q here there =
    let next = then_path values start turns turn p here in
    subst (λ (x : PathState Carried). SynAckIsAnsweredSoon p x) (path_is (reached values start (turns ++ turn ∷ [])) next.path q next.here there) (becomes_soon p numbered next.path next.becomes)
  where
    numbered : CopiesAreNumbered p
    numbered = subst (Of CopiesAreNumbered) here.is (((what_is_sent_comes_soon values).numbered start turns).each 2 here.crew here.there)
