-- A's first piece that the link takes shows both keys; where it isn't harmed a copy comes within 400 ticks, which is awaited.
use Rattle.std.proofs.Common.{◌≡◌, refl, sym, subst, ap, ◌⊎◌, inl, inr, ⊎_elim, ◌+◌, ◌-◌, ◌^◌, ◌<◌, arith, true, Option, Some, None, List, [], ◌∷◌, ◌++◌}
use Rattle.path_segments.specs.Spelled.{PlainSegment}
use Rattle.sides.specs.declared.side.Side.{Side}
use Rattle.sides.specs.declared.side.Side.TheVariants.{A}
use Rattle.link_script.specs.declared.script.ScriptLine.{ScriptLine}
use Rattle.link_model.specs.State.{LinkState}
use Rattle.link_model.specs.Steps.{changed, segments_sent}
use Rattle.subflow_send.specs.Records.{Record}
use Rattle.subflow_send.specs.declared.record.RecordKind.TheVariants.{Data}
use Rattle.actor_desk.specs.declared.ask.Reply.{Reply}
use Rattle.path_core.specs.Handover.{handed}
use Rattle.path_core.specs.Looking.{Hands, HandsOrTellsNone, first_sends, segment_sent}
use Rattle.path_core.specs.Profile.{Profile}
use Rattle.path_core.specs.Shown.{AltersNothing}
use Rattle.path_core.specs.State.{PathState, end_at}
use Rattle.path_core.specs.Steps.{takes}
use Rattle.path_core.specs.Values.{Carried, values}
use Rattle.path_core.proofs.SegmentsTold.{each_segment_is_told}
use Rattle.world_laws.specs.NeverFalls.{StripsNothing}
use Rattle.world_laws.specs.RoundDone.{reached}
use Rattle.world_laws.proofs.Writes.Steps.{begins_lasts}
use Rattle.whole_paths.specs.Expiries.{IsSaidAt, IsSegmentOf}
use Rattle.whole_paths.specs.Finish.{is_harmed}
use Rattle.whole_paths.specs.FirstPieces.{IsFirstPieceAwaited, ShowsBothKeys}
use Rattle.whole_paths.specs.FirstPieces.{IsFirstPieceAwaited as awaited}
use Rattle.whole_paths.specs.FirstPiecesSoon.{AwaitsKeys, EachFirstPieceComesSoon, FirstPieceComesSoon}
use Rattle.whole_paths.specs.Flights.{IsOnItsWay}
use Rattle.whole_paths.specs.Copies.{CopiesAreNumbered}
use Rattle.whole_paths.specs.Mending.{IsSentSoon}
use Rattle.whole_paths.specs.Mild.{EndsGoByMappings, LinkIsMild}
use Rattle.whole_paths.specs.RecordsGo.{IsOneSo}
use Rattle.whole_paths.proofs.ByTurns.{Becomes, Of, then_path}
use Rattle.whole_paths.proofs.Copies.{LinkStays, links_last}
use Rattle.whole_paths.proofs.Exchanges.{Shown, each_shown}
use Rattle.whole_paths.proofs.FirstPieces.{by_key}
use Rattle.whole_paths.proofs.Flying.{Frames, takes_frames}
use Rattle.whole_paths.proofs.Mild.{links_are_mild, mapping_is_kept}
use Rattle.whole_paths.proofs.RecordWaits.{path_is}
use Rattle.whole_paths.proofs.Saying.{ToSend}
use Rattle.whole_paths.proofs.SentSoon.{segments_come_soon, what_is_sent_comes_soon}

-- what is known of the path before a turn
record Known (lines : List ScriptLine) (p : PathState Carried) : Type 0 where
  maps : EndsGoByMappings p
  numbered : CopiesAreNumbered p
  link : LinkIsMild lines p
  edge : (s : Side) → 0 < (end_at s p).tcp.recv.edge

module _ (lines : List ScriptLine) (p q : PathState Carried) (k : Known lines p) (frames : Frames p q) (r : Record) (kind : r.kind ≡ Data) (at : r.pos ≡ 1) (waits : AwaitsKeys p) (still : AwaitsKeys q) (x : PlainSegment)
    (of_it : IsSegmentOf r x) (said : IsSaidAt p.profile A r p.a x) where
  comes : IsSentSoon values A x p q → IsFirstPieceAwaited (p.clock + 400) q
  comes h = awaited.comes r kind at still.high still.unclear still.key still.unsure still.met still.edge
      (IsOnItsWay.flies h.copy h.soon h.there (record {
        to = h.to;
        segment = x;
        of_it = of_it;
        sender = p.a;
        says = subst (λ c. IsSaidAt c A r p.a x) (sym frames.profile) said;
        stripped = h.stripped;
        altered = h.altered;
        whole = λ strips. h.whole (subst StripsNothing frames.lines strips);
        plain = λ alters. h.plain (subst AltersNothing frames.lines alters);
        carried = subst (λ (c : Profile). h.copy.carried ≡ changed (values.strips c.spelling A) (values.alters c.spelling A) h.stripped h.altered (values.makes c.spelling A x)) (sym frames.profile) h.carried;
      }))
      (subst (λ c. ShowsBothKeys c r p.a h.stripped h.altered) (sym frames.profile)
      (by_key p.profile r p.a kind at (k.maps A).identity (k.maps A).own waits.unclear waits.high (k.edge A) h.stripped h.altered (h.whole k.link.strips) (h.plain k.link.alters) p.a.modes.peer_key refl waits.key))

  soon : segments_sent A p.link < 2 ^ 64 - 1 → q.link ≡ handed values A x p → (is_harmed A p q ≡ true) ⊎ IsFirstPieceAwaited (p.clock + 400) q
  soon few taken = ⊎_elim (λ harmed. inl harmed) (λ h. inr (comes h)) (segments_come_soon values p q k.numbered A x few taken)

module _ (lines : List ScriptLine) (p : PathState Carried) (k : Known lines p) where
  takes_soon : (reply : Reply) → FirstPieceComesSoon p (takes values reply p)
  takes_soon reply r kind at waits still goes less few = by (first_sends p.agenda p) refl goes
    where
      by : (o : Option ToSend) → first_sends p.agenda p ≡ o → IsOneSo o (λ (t : ToSend). (t.from ≡ A) × IsSegmentOf r (segment_sent p t) × IsSaidAt p.profile A r p.a (segment_sent p t))
          → (is_harmed A p (takes values reply p) ≡ true) ⊎ IsFirstPieceAwaited (p.clock + 400) (takes values reply p)
      by None is goes = absurd goes
      by (Some t) is goes =
          let hands : Hands values p t = subst (HandsOrTellsNone values p) is (each_segment_is_told values p) in
          soon lines p (takes values reply p) k (takes_frames values reply p) r kind at waits still (segment_sent p t) goes.1 goes.2 few
          (subst (λ s. (takes values reply p).link ≡ handed values s (segment_sent p t) p) goes.0 (hands.taken reply))

  becomes_soon : (q : PathState Carried) → Becomes values p q → FirstPieceComesSoon p q
  becomes_soon q Becomes.stays = λ r kind at waits still goes less few. absurd (omega (arith, less))
  becomes_soon q (Becomes.takes_a_reply reply) = takes_soon reply
  becomes_soon q Becomes.begins_anew = λ r kind at waits still goes less few. absurd
      (let same = ap (λ (l : LinkState Carried). segments_sent A l) (begins_lasts LinkStays links_last (record p { clock = p.until; until = p.until + 100 })) in omega (arith, same, less))

pub each_first_piece_comes_soon : EachFirstPieceComesSoon
each_first_piece_comes_soon start turns turn mild p q here there =
    let next = then_path values start turns turn p here in
    subst (λ (x : PathState Carried). FirstPieceComesSoon p x) (path_is (reached values start (turns ++ turn ∷ [])) next.path q next.here there) (becomes_soon start.lines p known next.path next.becomes)
  where
    known : Known start.lines p
    known = record {
      maps = subst (Of EndsGoByMappings) here.is ((mapping_is_kept start turns mild).each 2 here.crew here.there);
      numbered = subst (Of CopiesAreNumbered) here.is (((what_is_sent_comes_soon values).numbered start turns).each 2 here.crew here.there);
      link = subst (Of (LinkIsMild start.lines)) here.is ((links_are_mild values start turns mild).each 2 here.crew here.there);
      edge = λ s. (let some = (subst (Of Shown) here.is (each_shown start turns mild.plain.size mild.fit 2 here.crew here.there)).edge s in omega (arith, some));
    }
