-- What an end of the only path of a mild connection sends again is wanted by its peer.
use Rattle.std.proofs.Common.{◌≡◌, refl, sym, subst, ap, ◌∙◌, inl, ⊎_elim, ℕ, zero, suc, ◌+◌, ◌-◌, ◌^◌, ◌<◌, ◌≤◌, ◌&&◌, arith, not, Bool, true, false, true≢false, if◌then◌else◌, Option, Some, None, IfSome, is_some, List, [], ◌∷◌, length}
use Rattle.std.specs.List.{AllByRecursion, list_any, slice_get}
use Rattle.std.proofs.lemmas.Bool.{and_parts, both_ways}
use Rattle.sides.specs.declared.side.Side.{Side}
use Rattle.sides.specs.declared.side.Side.TheVariants.{A, B}
use Rattle.sides.specs.Side.{peer}
use Rattle.path_segments.specs.Laws.{meant}
use Rattle.path_segments.specs.Spelled.{PlainSegment}
use Rattle.subflow_send.specs.Records.{Record}
use Rattle.subflow_send.specs.Rules.{is_fin}
use Rattle.subflow_send.specs.declared.record.RecordKind.{RecordKind}
use Rattle.subflow_send.specs.declared.record.RecordKind.TheVariants as kinds
use Rattle.subflow_tcp.specs.Emitting.{acknowledged_in, is_syn}
use Rattle.subflow_tcp.specs.Segments.{occupied, one_if}
use Rattle.subflow_tcp.specs.States.{is_dead, is_opening}
use Rattle.subflow_tcp.specs.declared.handshake.State.{State as EndPhase}
use Rattle.subflow_tcp.specs.declared.handshake.State.TheVariants as phase
use Rattle.path_store.specs.declared.granted_piece.GrantedPiece.{GrantedPiece}
use Rattle.path_core.specs.Arrival.{copy_of}
use Rattle.path_core.specs.DataFin.{is_data_fin_owed}
use Rattle.path_core.specs.Emission.{ack_resent}
use Rattle.path_core.specs.End.{PathEnd}
use Rattle.path_core.specs.Modes.{sends_plainly}
use Rattle.path_core.specs.MpJoin.{is_joined}
use Rattle.path_core.specs.OptionsOut.{ack_said, carried_said}
use Rattle.path_core.specs.Profile.{Profile}
use Rattle.path_core.specs.State.{PathState, end_at}
use Rattle.path_core.specs.Values.{Carried, values}
use Rattle.world_laws.specs.Members.{HoldsOfKind}
use Rattle.world_laws.specs.Openings.{Start}
use Rattle.world_laws.specs.RoundDone.{reached}
use Rattle.world_laws.specs.Worlds.{Turn, WorldState}
use Rattle.world_laws.proofs.Lanes.Showing.{is_unfinished}
use Rattle.world_laws.proofs.Numbers.TellSmall.{RecordKindTells}
use Rattle.whole_paths.specs.AsFar.{stage}
use Rattle.whole_paths.specs.Came.{HasCome}
use Rattle.whole_paths.specs.ClosingAsked.{OwesItsEnd}
use Rattle.whole_paths.specs.Clear.{IsPastIfClear}
use Rattle.whole_paths.specs.DataLeft.{HasDataLeft, IsData}
use Rattle.whole_paths.specs.Expiries.{IsSegmentOf, IsToSend, SendsAgain}
use Rattle.whole_paths.specs.ExpiryMeanings.{BothArePast, IsFirstBehindSyn, IsWanted}
use Rattle.whole_paths.specs.ExpiryMeanings.{IsWanted as wanted}
use Rattle.whole_paths.specs.ExpirySegments.{AcksSomething}
use Rattle.whole_paths.specs.ExpirySegments.{AsksForAnAck as asks}
use Rattle.whole_paths.specs.Finish.{IsPathAt}
use Rattle.whole_paths.specs.Mild.{EndsGoByMappings, IsMildStart}
use Rattle.whole_paths.specs.Opening.{IsSyn}
use Rattle.whole_paths.specs.OpeningWaits.{IsOpening}
use Rattle.whole_paths.specs.OpeningWaits.{IsOpening as opens}
use Rattle.whole_paths.specs.PositionCounts.{CountsBytes}
use Rattle.whole_paths.specs.Reasons.{IsOutstanding}
use Rattle.whole_paths.specs.Reasons.{IsOutstanding as outstanding}
use Rattle.whole_paths.specs.Received.{GrantedIsReceived}
use Rattle.whole_paths.specs.Sent.{WasSent}
use Rattle.whole_paths.specs.Syns.{IsToOpen as to_open}
use Rattle.whole_paths.proofs.ByTurns.{Of}
use Rattle.whole_paths.proofs.Came.{what_is_acknowledged_came}
use Rattle.whole_paths.proofs.Clearing.{clear_ends_are_past}
use Rattle.whole_paths.proofs.ClosingAsked.{asks_so, options_so}
use Rattle.whole_paths.proofs.DataFinsClear.{who_sent_its_end_is_clear}
use Rattle.whole_paths.proofs.DataLeft.{EndsAreBegun, each_is_begun, living_low, what_is_left_is_data}
use Rattle.whole_paths.proofs.Early.{late_at}
use Rattle.whole_paths.proofs.EdgeRises.{edges_wait_for_the_handshake}
use Rattle.whole_paths.proofs.Endings.{BothKnowTheirEnd, KnowsItsEnd}
use Rattle.whole_paths.proofs.Exchanges.{Shown, each_shown}
use Rattle.whole_paths.proofs.Handshaking.{PathMet, each_met, living_ends_open_or_are_past}
use Rattle.whole_paths.proofs.LoneFirst.{IsUnjoined, unjoined_so}
use Rattle.whole_paths.proofs.Mild.{mapping_is_kept}
use Rattle.whole_paths.proofs.OpenAsks.{AsksForItself, EndsAskForThemselves, ends_ask_for_themselves}
use Rattle.whole_paths.proofs.OpenCourses.{IsFirstPath, each_first}
use Rattle.whole_paths.proofs.OpenPieces.{each_knows}
use Rattle.whole_paths.proofs.PositionCounts.{first_counts_bytes}
use Rattle.whole_paths.proofs.Reached.{EndsAreReached, each_is_reached, first_reached, none_left}
use Rattle.whole_paths.proofs.Received.{lone_granted_is_received}
use Rattle.whole_paths.proofs.WindowRoom.{sent_its_fin}
use Rattle.whole_paths.proofs.AnsweredWindows.{none_is_shut_before}
use Rattle.whole_paths.proofs.ClearFirst.{b_is_clear_first}
use Rattle.whole_paths.proofs.SendsEnds.{who_is_done_is_clear}
use Rattle.whole_paths.proofs.Sent.{what_came_was_sent}

pub unopening : (x : EndPhase) → 2 ≤ stage x → is_opening x ≡ false
unopening phase.SynSent high = absurd (omega (arith, high))
unopening _ high = refl

one_less : (n edge : ℕ) → n ≤ edge → 0 < edge → n - 1 < edge
one_less zero edge low some = some
one_less (suc n) edge low some = omega (arith, low)

-- the probe
probe_so : (c : Profile) (s : Side) (e : PathEnd) → e.modes.owes_third ≡ false → e.notices.fast_closed ≡ false → is_data_fin_owed e ≡ false → ack_resent c s e ≡ ack_said c s (e.tcp.send.una - 1) None e
probe_so c s e third close owed =
    ap (λ b. if b then ack_said c s e.tcp.send.nxt None e
    else (if e.notices.fast_closed then carried_said c s e.notices.carrier e
    else (if is_data_fin_owed e then ack_said c s e.tcp.send.nxt e.sending.known_end e
    else ack_said c s (e.tcp.send.una - 1) None e))) third
    ∙ ap (λ b. if b then carried_said c s e.notices.carrier e
    else (if is_data_fin_owed e then ack_said c s e.tcp.send.nxt e.sending.known_end e
    else ack_said c s (e.tcp.send.una - 1) None e)) close
    ∙ ap (λ b. if b then ack_said c s e.tcp.send.nxt e.sending.known_end e else ack_said c s (e.tcp.send.una - 1) None e) owed

-- what acknowledges RCV.NXT acknowledges something
acks_said : (c : Profile) (s : Side) (pos : ℕ) (fin : Option ℕ) (e : PathEnd) → 0 < e.tcp.recv.edge → AcksSomething (ack_said c s pos fin e)
acks_said c s pos fin e some = record { rst = refl; up_to = e.tcp.recv.edge; acknowledged = refl; some = some }

-- ---- a moment

module _ (start : Start) (turns : List Turn) (mild : IsMildStart start) (p : PathState Carried) (here : IsPathAt 0 (reached values start turns) p)
    (lives : (s : Side) → is_dead (end_at s p).tcp.state ≡ false) (room : 2 ≤ start.buffer) where
  abbrev w : WorldState Carried
  w = reached values start turns

  of_path : (P : PathState Carried → Type 0) → HoldsOfKind (λ app. Unit {0}) P here.crew.member → P p
  of_path P h = subst (HoldsOfKind (λ app. Unit {0}) P) here.is h

  first : IsFirstPath start p
  first = of_path (IsFirstPath start) (each_first start turns mild.plain.size here.crew here.there)

  shown : Shown p
  shown = of_path Shown (each_shown start turns mild.plain.size mild.fit 2 here.crew here.there)

  reach : EndsAreReached p
  reach = of_path EndsAreReached ((each_is_reached values start turns).each 2 here.crew here.there)

  begun : EndsAreBegun p
  begun = of_path EndsAreBegun ((each_is_begun values start turns).each 2 here.crew here.there)

  came : HasCome p
  came = of_path HasCome ((what_is_acknowledged_came start turns).each 2 here.crew here.there)

  was_sent : WasSent p
  was_sent = of_path WasSent ((what_came_was_sent start turns mild.plain.size).each 2 here.crew here.there)

  alone : (s : Side) → AsksForItself (is_joined p.profile) (end_at s p).modes.owes_third (end_at s p).notices.carrier
  alone = of_path EndsAskForThemselves (ends_ask_for_themselves start turns mild 2 here.crew here.there)

  knows : (s : Side) → KnowsItsEnd (end_at s p)
  knows = (of_path BothKnowTheirEnd (each_knows start turns mild.plain.size 2 here.crew here.there)).knows

  maps : EndsGoByMappings p
  maps = of_path EndsGoByMappings ((mapping_is_kept start turns mild).each 2 here.crew here.there)

  met : PathMet p
  met = subst (Of PathMet) here.is ((each_met start mild turns).each here.crew here.there)

  clear_past : (s : Side) → (end_at s p).modes.clear ≡ true → 3 ≤ stage (end_at s p).tcp.state
  clear_past = of_path IsPastIfClear (clear_ends_are_past values start turns 2 here.crew here.there) first.first

  no_third : (s : Side) → (end_at s p).modes.owes_third ≡ false
  no_third s = by (end_at s p).modes.owes_third refl
    where
      by : (b : Bool) → (end_at s p).modes.owes_third ≡ b → b ≡ false
      by false is = refl
      by true is = absurd (both_ways (is_joined p.profile) first.first ((alone s).third is))

  no_close : (s : Side) → (end_at s p).notices.fast_closed ≡ false
  no_close s = by (end_at s p).notices.fast_closed refl
    where
      by : (b : Bool) → (end_at s p).notices.fast_closed ≡ b → b ≡ false
      by false is = refl
      by true is = absurd ((alone s).carries ((knows s).closed is))

  abbrev acks_in : (s : Side) (x : PlainSegment) → 2 ≤ stage (end_at s p).tcp.state → x.rst ≡ false → x.acknowledged ≡ acknowledged_in (end_at s p).tcp → AcksSomething x
  acks_in s x high rst is = record {
    rst = rst;
    up_to = (end_at s p).tcp.recv.edge;
    acknowledged = is ∙ ap (λ b. if b then None else Some (end_at s p).tcp.recv.edge) (unopening (end_at s p).tcp.state high);
    some = shown.edge s;
  }

  -- ---- before the handshake is done the SYN goes again

  module _ (u : Side) (low : stage (end_at u p).tcp.state ≤ 2) (opening : is_unfinished (end_at u p).tcp.state ≡ true) where
    una : (end_at u p).tcp.send.una ≡ 0
    una = (reach u).opening low

    none_sent : (end_at u p).tcp.send.records ≡ [] → ⊥
    none_sent none = let all = none_left (end_at u p).tcp (reach u) none in let zeroth = una in let some = first.begun u opening in omega (arith, all, zeroth, some)

    syn_so : (r : Record) (others : List Record) → (end_at u p).tcp.send.records ≡ r ∷ others → (x : PlainSegment) → IsSegmentOf r x → IsSyn x
    syn_so r others is x h = by r.kind refl
      where
        there : slice_get (end_at u p).tcp.send.records 0 ≡ Some r
        there = ap (λ (rs : List Record). slice_get rs 0) is

        by : (kind : RecordKind) → r.kind ≡ kind → IsSyn x
        by kinds.Syn same = record {
          syn = h.syn ∙ ap is_syn same;
          fin = h.fin ∙ ap is_fin same;
          rst = h.rst;
          first = (let reaches = first_reached (end_at u p).tcp r others (reach u) is in let zeroth = una in let at = h.position in omega (arith, reaches, zeroth, at));
          empty = h.payload ∙ (first.syns u).each 0 r there same;
        }
        by kinds.Data same = absurd (let behind = shown.behind u r others is same in let reaches = first_reached (end_at u p).tcp r others (reach u) is in let zeroth = una in omega (arith, behind, reaches, zeroth))
        by kinds.Fin same = absurd ((first.kinds u (first.unfinished u opening)).each 0 r there same)

  -- ---- past it a record occupies positions

  occupies : (u : Side) (r : Record) (others : List Record) → (end_at u p).tcp.send.records ≡ r ∷ others → (x : PlainSegment) → IsSegmentOf r x → 0 < occupied (copy_of (meant x))
  occupies u r others is x h = by r.kind refl
    where
      octets : length x.payload ≡ length r.piece
      octets = ap length h.payload

      syn : one_if x.syn ≡ one_if (is_syn r.kind)
      syn = ap one_if h.syn

      fin : one_if x.fin ≡ one_if (is_fin r.kind)
      fin = ap one_if h.fin

      there : slice_get (end_at u p).tcp.send.records 0 ≡ Some r
      there = ap (λ (rs : List Record). slice_get rs 0) is

      by : (kind : RecordKind) → r.kind ≡ kind → 0 < length x.payload + (one_if x.syn + one_if x.fin)
      by kinds.Data same =
          let tells : RecordKindTells p.profile u kinds.Data r = subst (λ k. RecordKindTells p.profile u k r) same ((shown.tells u).sender.records.each 0 r there).mapped in
          let some = tells.0 in let whole = tells.4 in let all = octets in omega (arith, some, whole, all)
      by kinds.Syn same = let is_one : one_if (is_syn r.kind) ≡ 1 = ap (λ k. one_if (is_syn k)) same in let all = syn in omega (arith, is_one, all)
      by kinds.Fin same = let is_one : one_if (is_fin r.kind) ≡ 1 = ap (λ k. one_if (is_fin k)) same in let all = fin in omega (arith, is_one, all)

  -- ---- A's first segment behind its SYN

  module _ (high : 3 ≤ stage p.a.tcp.state) (half : p.b.tcp.state ≡ phase.SynReceived) where
    b_stage : stage p.b.tcp.state ≡ 2
    b_stage = ap stage half

    b_edge : p.b.tcp.recv.edge ≡ 1
    b_edge = edges_wait_for_the_handshake start turns p here B (let two = b_stage in omega (arith, two))

    unclear : p.a.modes.clear ≡ true → ⊥
    unclear clear = let past = clear_past B (b_is_clear_first start turns mild p here clear) in let two = b_stage in omega (arith, past, two)

    -- so B's side joined no path yet
    lone : IsUnjoined w
    lone = unjoined_so start turns p here (by p.a.modes.clear refl)
      where
        by : (b : Bool) → p.a.modes.clear ≡ b → p.a.modes.clear ≡ false
        by false is = is
        by true is = absurd (unclear is)

    unsent : p.a.tcp.send.finished ≡ false
    unsent = by p.a.tcp.send.finished refl
      where
        by : (b : Bool) → p.a.tcp.send.finished ≡ b → b ≡ false
        by false is = refl
        by true is = absurd (unclear (who_is_done_is_clear start turns mild p here (sent_its_fin start p first A (lives A) is)))

    behind_syn : (r : Record) (others : List Record) → p.a.tcp.send.records ≡ r ∷ others → (x : PlainSegment) → IsSegmentOf r x → x.acknowledged ≡ acknowledged_in p.a.tcp → IsFirstBehindSyn x p
    behind_syn r others is x h acks =
        let left : IsData r p.a = of_path HasDataLeft (what_is_left_is_data start turns mild.plain.size mild.fit here.crew here.there) A high (lives A) (inl unsent) r others is in record {
          acks = acks_in A x (omega (arith, high)) h.rst acks;
          syn = h.syn ∙ ap is_syn left.kind;
          sent = was_sent A;
          position = (let reaches = first_reached p.a.tcp r others (reach A) is in let low = came.una A (lives A) in let edge = b_edge in let behind = shown.behind A r others is left.kind in let at = h.position in
              omega (arith, reaches, low, edge, behind, at));
          occupies = occupies A r others is x h;
        }

    few : p.a.tcp.send.records ≡ [] → p.a.tcp.send.nxt ≤ 1
    few none = let all = none_left p.a.tcp (reach A) none in let high = came.una A (lives A) in let edge = b_edge in omega (arith, all, high, edge)

    -- nothing else is outstanding
    none_outstanding : p.a.tcp.send.records ≡ [] → IsOutstanding p.a → ⊥
    none_outstanding none (outstanding.on_subflow r others is) = let never : [] ≡ r ∷ others = sym none ∙ is in cc
    none_outstanding none (outstanding.on_stream g others is) =
        let received = (of_path (GrantedIsReceived w) ((lone_granted_is_received start turns mild lone).each 2 here.crew here.there) A (lives A) none).each 0 g (ap (λ gs. slice_get gs 0) is) in
        let open_piece = (subst (λ gs. AllByRecursion (λ (piece : GrantedPiece). p.a.sending.heard < piece.to) gs) is (knows A).open_pieces).0 in
        let counts : CountsBytes w p A = first_counts_bytes start turns mild lone p here A in
        let behind = counts.came in let edge = b_edge in omega (arith, received, open_piece, behind, edge)
    none_outstanding none (outstanding.data_fin identity infinite sent unacked) = unclear (who_sent_its_end_is_clear start turns mild p here A sent)
    none_outstanding none (outstanding.shut is) = both_ways p.a.sending.shut (none_is_shut_before start mild room turns lone p here (record { living = lives }) (few none)) is
    none_outstanding none (outstanding.third is) = both_ways p.a.modes.owes_third (no_third A) is
    none_outstanding none (outstanding.fast_close is) = both_ways p.a.notices.fast_closed (no_close A) is

  -- ---- past the handshake

  module _ (past : BothArePast p) (s : Side) where
    abbrev e : PathEnd
    e = end_at s p

    una_behind : e.tcp.send.una - 1 < (end_at (peer s) p).tcp.recv.edge
    una_behind = let low = came.una s (lives s) in let some = (begun s).past (past s) (living_low e.tcp.state (lives s)) in one_less e.tcp.send.una (end_at (peer s) p).tcp.recv.edge low (omega (arith, low, some))

    probes : is_data_fin_owed e ≡ false → (x : PlainSegment) → x ≡ ack_resent p.profile s e → IsWanted s x p
    probes owed x is = subst (λ x. IsWanted s x p) (sym (is ∙ probe_so p.profile s e (no_third s) (no_close s) owed))
        (wanted.past past (acks_said p.profile s (e.tcp.send.una - 1) None e (shown.edge s)) (asks.behind una_behind refl))

    says_end : is_data_fin_owed e ≡ true → e.sending.fin_sent ≡ true → (o : Option ℕ) → e.sending.known_end ≡ o → is_some o ≡ true → (x : PlainSegment) → x ≡ ack_resent p.profile s e → IsWanted s x p
    says_end owed sent None known some x is = absurd (true≢false (sym some))
    says_end owed sent (Some place) known some x is =
        let owes_it : OwesItsEnd place e = record {
          third = no_third s;
          close = no_close s;
          owed = owed;
          clear = who_sent_its_end_is_clear start turns mild p here s sent;
          mapped = (maps s).identity;
          end = known;
          low = (let short = (shown.tells s).window.next in omega (arith, short));
          fair = (let short : place < 2 ^ 31 = subst (λ o. IfSome o (λ n. n < 2 ^ 31)) known (shown.tells s).stream.known_end in omega (arith, short));
        } in
        subst (λ x. IsWanted s x p) (sym (is ∙ asks_so p.profile s e place owes_it))
        (wanted.past past (acks_said p.profile s e.tcp.send.nxt e.sending.known_end e (shown.edge s))
        (asks.ends e.receiving.next place _ (options_so p.profile s e place owes_it) owes_it.low owes_it.fair))

    sent_so : is_data_fin_owed e ≡ true → e.sending.fin_sent ≡ true
    sent_so owed = (and_parts e.sending.fin_sent (not e.sending.close.own_acked) (and_parts (not (sends_plainly e.modes)) (e.sending.fin_sent && not e.sending.close.own_acked) owed).1).0

    past_without : (x : PlainSegment) → x ≡ ack_resent p.profile s e → IsWanted s x p
    past_without x is = by (is_data_fin_owed e) refl
      where
        by : (b : Bool) → is_data_fin_owed e ≡ b → IsWanted s x p
        by false none = probes none x is
        by true owed = says_end owed (sent_so owed) e.sending.known_end refl ((knows s).ended (sent_so owed)) x is

    past_record : (r : Record) (others : List Record) → e.tcp.send.records ≡ r ∷ others → (x : PlainSegment) → IsSegmentOf r x → x.acknowledged ≡ acknowledged_in e.tcp → IsWanted s x p
    past_record r others is x h acks = wanted.past past (acks_in s x (let high = past s in omega (arith, high)) h.rst acks) (asks.occupies (occupies s r others is x h))

  -- ---- what goes again

  module _ (s : Side) (out : IsOutstanding (end_at s p)) (q : PathState Carried) (h : SendsAgain values s p q) where
    -- by the records of the end
    by_records : ((r : Record) (others : List Record) → (end_at s p).tcp.send.records ≡ r ∷ others → IsSegmentOf r h.segment → h.segment.acknowledged ≡ acknowledged_in (end_at s p).tcp → IsWanted s h.segment p)
        → ((end_at s p).tcp.send.records ≡ [] → IsWanted s h.segment p) → IsWanted s h.segment p
    by_records some none = by (end_at s p).tcp.send.records refl
      where
        by : (rs : List Record) → (end_at s p).tcp.send.records ≡ rs → IsWanted s h.segment p
        by [] is = none is
        by (r ∷ rs) is = let said = h.first r rs is in some r rs is said.0 said.1.acknowledged

    past_goes : BothArePast p → IsWanted s h.segment p
    past_goes past = by_records (λ r others is of_it acks. past_record past s r others is h.segment of_it acks) (λ none. past_without past s h.segment (h.without none))

  -- A's end opens
  a_asks : (q : PathState Carried) (h : SendsAgain values A p q) → IsOutstanding p.a → p.a.tcp.state ≡ phase.SynSent → IsWanted A h.segment p
  a_asks q h out was = by_records A out q h
      (λ r others is of_it acks. wanted.asks refl was (syn_so A low opening r others is h.segment of_it) (acks ∙ ap (λ (x : EndPhase). if is_opening x then None else Some p.a.tcp.recv.edge) was))
      (λ none. absurd (none_sent A low opening none))
    where
      low : stage p.a.tcp.state ≤ 2
      low = let is_one = ap stage was in omega (arith, is_one)

      opening : is_unfinished p.a.tcp.state ≡ true
      opening = ap is_unfinished was

  -- B's end is half-open
  b_answers : (q : PathState Carried) (h : SendsAgain values B p q) → IsOutstanding p.b → p.b.tcp.state ≡ phase.SynReceived → IsWanted B h.segment p
  b_answers q h out was = by_records B out q h
      (λ r others is of_it acks. wanted.answers refl was (syn_so B low opening r others is h.segment of_it) (acks_in B h.segment high of_it.rst acks) (was_sent B))
      (λ none. absurd (none_sent B low opening none))
    where
      low : stage p.b.tcp.state ≤ 2
      low = let is_two = ap stage was in omega (arith, is_two)

      high : 2 ≤ stage p.b.tcp.state
      high = let is_two = ap stage was in omega (arith, is_two)

      opening : is_unfinished p.b.tcp.state ≡ true
      opening = ap is_unfinished was

  -- A's is past the handshake, and B's isn't
  a_goes_first : (q : PathState Carried) (h : SendsAgain values A p q) → IsOutstanding p.a → 3 ≤ stage p.a.tcp.state → p.b.tcp.state ≡ phase.SynReceived → IsWanted A h.segment p
  a_goes_first q h out high half = by_records A out q h
      (λ r others is of_it acks. wanted.first refl high half (behind_syn high half r others is h.segment of_it acks))
      (λ none. absurd (none_outstanding high half none out))

  -- a listening end has nothing to send again
  b_listens : IsToSend B p → p.b.tcp.state ≡ phase.Listen → ⊥
  b_listens is was =
      let two = met.early.late B (ap (list_any (late_at B)) is) in let none = ap stage was in omega (arith, two, none)

  pub what_goes_again_is_wanted : (s : Side) → IsToSend s p → IsOutstanding (end_at s p) → (q : PathState Carried) (h : SendsAgain values s p q) → IsWanted s h.segment p
  what_goes_again_is_wanted s is out q h = ⊎_elim (λ opening. by opening s is out h) (λ past. past_goes s out q h past) (living_ends_open_or_are_past start turns mild p here (record { living = lives }))
    where
      by : IsOpening p → (s : Side) → IsToSend s p → IsOutstanding (end_at s p) → (h : SendsAgain values s p q) → IsWanted s h.segment p
      by (opens.syn u (to_open.asks own sent listens)) A is out h = a_asks q h out sent
      by (opens.syn u (to_open.asks own sent listens)) B is out h = absurd (b_listens is listens)
      by (opens.syn u (to_open.answers own sent half)) A is out h = a_asks q h out sent
      by (opens.syn u (to_open.answers own sent half)) B is out h = b_answers q h out half
      by (opens.answer high half) A is out h = a_goes_first q h out high half
      by (opens.answer high half) B is out h = b_answers q h out half
