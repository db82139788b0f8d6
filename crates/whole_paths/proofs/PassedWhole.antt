-- Without checksums, too, an end passes each record of data of its peer's whole: none of its octets came, or all.
use Rattle.std.proofs.Common.{◌≡◌, refl, sym, subst, ap, ◌∙◌, ◌⊎◌, inl, inr, ⊎_elim, ℕ, suc, ◌+◌, ◌<◌, ◌≤◌, ◌&&◌, ◌==◌, arith, Bool, true, false, true≢false, Option, Some, None, IfSome, List, [], ◌∷◌, ◌++◌, length}
use Rattle.std.specs.List.{slice_get}
use Rattle.std.proofs.lemmas.Bool.{and_parts, cases_lt}
use Rattle.std.proofs.lemmas.Option.{same_Some}
use Rattle.path_segments.specs.Heard.{HeardSegment}
use Rattle.path_segments.specs.Laws.{meant}
use Rattle.sides.specs.declared.side.Side.{Side}
use Rattle.sides.specs.Side.{peer}
use Rattle.link_script.specs.Places.{same_side}
use Rattle.link_model.specs.declared.flight.Flight.{Flight}
use Rattle.link_model.specs.Steps.{arriving, is_due}
use Rattle.stream_lanes.specs.Words.{Every, Has}
use Rattle.dss_mapping.specs.Mappings.{octets_of}
use Rattle.dss_mapping.specs.declared.kept.KeptMapping.{KeptMapping}
use Rattle.subflow_recv.specs.Receiving.{after_keep_held, window_end}
use Rattle.subflow_send.specs.Records.{Record, end_of}
use Rattle.subflow_send.specs.declared.record.RecordKind.TheVariants.{Data}
use Rattle.subflow_tcp.specs.Judging.{meaning_of}
use Rattle.subflow_tcp.specs.State.{EndState, is_fin_passed}
use Rattle.subflow_tcp.specs.States.{is_dead}
use Rattle.subflow_tcp.specs.Taking.{first_fin}
use Rattle.subflow_tcp.specs.declared.verdicts.Meaning.TheVariants as means
use Rattle.path_store.specs.InfiniteMappings.{covers}
use Rattle.path_core.specs.Arrival.{copy_of, heard_in, with_payload}
use Rattle.path_core.specs.End.{PathEnd}
use Rattle.path_core.specs.Judged.{judged_of, taken_as}
use Rattle.path_core.specs.OptionsIn.{items_of, options_heard}
use Rattle.path_core.specs.Profile.{Profile}
use Rattle.path_core.specs.Start.{waiting_path}
use Rattle.path_core.specs.State.{PathState, end_at}
use Rattle.path_core.specs.Steps.{begins_turn, next_round, takes}
use Rattle.path_core.specs.Values.{Carried, as_arrived, values}
use Rattle.world_laws.specs.Members.{HoldsOfKind}
use Rattle.world_laws.specs.Openings.{PathPlan, Start, opened_world, path_begins}
use Rattle.world_laws.specs.RoundDone.{reached}
use Rattle.world_laws.specs.Worlds.{Turn}
use Rattle.world_laws.proofs.Rounds.Lifting.{opened_lifted}
use Rattle.world_laws.proofs.Whole.Ends.{MeansIs, means_so}
use Rattle.world_laws.proofs.Worlds.Finding.{find_every, one_side}
use Rattle.whole_paths.specs.Brought.{Brings, Comes}
use Rattle.whole_paths.specs.Came.{HasCome}
use Rattle.whole_paths.specs.Copies.{IsUnderWay}
use Rattle.whole_paths.specs.CutRecords.{UncheckedRecordsArePassedWhole}
use Rattle.whole_paths.specs.Finish.{IsPathAt}
use Rattle.whole_paths.specs.Kept.{IsSameRecord}
use Rattle.whole_paths.specs.LastFin.{FinIsLast}
use Rattle.whole_paths.specs.Mapped.{EndsAreLive}
use Rattle.whole_paths.specs.Mending.{IsRecordOf}
use Rattle.whole_paths.specs.Mild.{EndsGoByMappings, IsMildStart}
use Rattle.whole_paths.specs.News.{one_if}
use Rattle.whole_paths.specs.Overruns.{StaysWithin}
use Rattle.whole_paths.specs.Sent.{WasSent}
use Rattle.whole_paths.proofs.Arrivals.{sender_of}
use Rattle.whole_paths.proofs.ByCopies.{IsFit, next_goes, takes_goes}
use Rattle.whole_paths.proofs.ByTurns.{Becomes, Of, OfFirst, each_step}
use Rattle.whole_paths.proofs.Came.{what_is_acknowledged_came}
use Rattle.whole_paths.proofs.DataPast.{opened_without}
use Rattle.whole_paths.proofs.Exchanges.{under_way}
use Rattle.whole_paths.proofs.Handshaking.{living_before, next_far, takes_far}
use Rattle.whole_paths.proofs.Knowing.{what_is_told_is_known}
use Rattle.whole_paths.proofs.LastFin.{fins_are_last}
use Rattle.whole_paths.proofs.Mild.{mapping_is_kept}
use Rattle.whole_paths.proofs.OldRecords.{BothOld, becomes_old}
use Rattle.whole_paths.proofs.OpenCourses.{IsFirstPath, each_first}
use Rattle.whole_paths.proofs.Overruns.{no_end_overruns}
use Rattle.whole_paths.proofs.Reached.{EndsAreReached, each_is_reached}
use Rattle.whole_paths.proofs.Sent.{what_came_was_sent}
use Rattle.whole_paths.proofs.SentWithin.{EndsWithin, SentWithin, all_sent_within}
use Rattle.whole_paths.proofs.Uncut.{AllOrNone, IsUncut, passes_uncut, taken_uncut, uncut_so}
use Rattle.whole_paths.proofs.WholePieces.{IsWholeOf, Meets, RecordsAreWhole, all_are_whole}

-- ---- one turn, of positions of a side's

-- each copy to the peer has none of these positions or all, and each mapping that the peer knows ends where they do; they have room in the peer's window,
-- or nothing was sent of them
record IsSpan (s : Side) (first last : ℕ) (p : PathState Carried) : Type 0 where
  some : first < last
  copies : (f : Flight Carried) → IsUnderWay f p → f.to ≡ peer s → Meets first last f.carried.segment.position (length f.carried.segment.payload) f.carried.segment.fin
  mapped : (i : ℕ) (m : KeptMapping) → slice_get (end_at (peer s) p).receiving.mappings.live i ≡ Some m → m.pos ≤ first → first < m.pos + octets_of m → m.pos + octets_of m ≡ last
  room : (last ≤ window_end (end_at (peer s) p).tcp.recv) ⊎ ((end_at s p).tcp.send.nxt ≤ first)

-- what is known of path 0 at a moment
record IsKnown (start : Start) (p : PathState Carried) : Type 0 where
  first : IsFirstPath start p
  whole : RecordsAreWhole p
  within : SentWithin p
  was_sent : WasSent p
  fins : FinIsLast p
  mapped : EndsGoByMappings p
  live : EndsAreLive p
  few : StaysWithin p
  came : HasCome p
  lined : EndsAreReached p

known : (start : Start) (turns : List Turn) (p : PathState Carried) → IsMildStart start → IsPathAt 0 (reached values start turns) p → IsKnown start p
known start turns p mild here = record {
  first = at (IsFirstPath start) (each_first start turns mild.plain.size here.crew here.there);
  whole = at RecordsAreWhole ((all_are_whole start turns mild.plain.size).each 2 here.crew here.there);
  within = at SentWithin ((all_sent_within start turns mild.plain.size).each 2 here.crew here.there);
  was_sent = at WasSent ((what_came_was_sent start turns mild.plain.size).each 2 here.crew here.there);
  fins = at FinIsLast ((fins_are_last start turns mild.plain.size).each 2 here.crew here.there);
  mapped = at EndsGoByMappings ((mapping_is_kept start turns mild).each 2 here.crew here.there);
  live = at EndsAreLive (((what_is_told_is_known values).live start turns).each 2 here.crew here.there);
  few = at StaysWithin (no_end_overruns start turns mild here.crew here.there);
  came = at HasCome ((what_is_acknowledged_came start turns).each 2 here.crew here.there);
  lined = at EndsAreReached ((each_is_reached values start turns).each 2 here.crew here.there);
}
  where
    at : (P : PathState Carried → Type 0) → HoldsOfKind (λ app. Unit {0}) P here.crew.member → P p
    at P h = subst (HoldsOfKind (λ app. Unit {0}) P) here.is h

abbrev Unchecked : Profile → Type 0
Unchecked c = c.spelling.checksums ≡ false

abbrev Never : Side → PathState Carried → Type 0
Never s p = ⊥

-- what is under way to the peer was sent
within_sent : (start : Start) (p : PathState Carried) → IsKnown start p → (s : Side) (f : Flight Carried) → IsUnderWay f p → f.to ≡ peer s → 0 < length f.carried.segment.payload + one_if f.carried.segment.fin
    → f.carried.segment.position + length f.carried.segment.payload + one_if f.carried.segment.fin ≤ (end_at s p).tcp.send.nxt
within_sent start p k s f here to some = subst (λ y. f.carried.segment.position + length f.carried.segment.payload + one_if f.carried.segment.fin ≤ (end_at y p).tcp.send.nxt) (ap peer to ∙ sender_of s)
    (under_way (λ (g : Flight Carried). EndsWithin (end_at (peer g.to) p).tcp.send.nxt g.carried.segment) f p here k.within.copies some)

module _ (start : Start) (unchecked : start.checksums ≡ false) (p : PathState Carried) (k : IsKnown start p) (s : Side) (first last : ℕ) (span : IsSpan s first last p) where
  abbrev t : Side
  t = peer s

  abbrev Uncut : EndState → Type 0
  Uncut = IsUncut first last

  all_there : Every (λ (g : Flight Carried). IsUnderWay g p) p.link.under_way
  all_there = record { each = λ i g here. record { at = i; item = g; there = here; holds = refl } }

  -- the copy that comes, as it is under way
  comes_of : (x : Comes values p) → (g : Flight Carried) × (IsUnderWay g p × ((g.to ≡ x.due.to) × (meant (as_arrived g.carried) ≡ x.segment)))
  comes_of x = by (arriving x.due p.link) refl x.heard
    where
      by : (o : Option (Flight Carried)) → arriving x.due p.link ≡ o → heard_in values x.due.to o p ≡ Some x.segment → (g : Flight Carried) × (IsUnderWay g p × ((g.to ≡ x.due.to) × (meant (as_arrived g.carried) ≡ x.segment)))
      by None is heard = cc
      by (Some g) is heard =
          let found = find_every (λ (y : Flight Carried). IsUnderWay y p) (is_due x.due) p.link.under_way g all_there is in
          let parts = and_parts (g.tick == x.due.tick) (same_side g.to x.due.to && g.number == x.due.copy) found.1 in
          (g, (found.0, (one_side g.to x.due.to (and_parts (same_side g.to x.due.to) (g.number == x.due.copy) parts.1).0, same_Some (meant (as_arrived g.carried)) x.segment heard)))

  -- a copy that is taken, as it was under way
  module _ (b : Brings values p) (to : b.copy.due.to ≡ peer s) (g : Flight Carried) (here : IsUnderWay g p) (to_it : g.to ≡ b.copy.due.to) (same : meant (as_arrived g.carried) ≡ b.copy.segment) where
    abbrev taker : PathEnd
    taker = end_at b.copy.due.to p

    is_meant : meaning_of (copy_of (options_heard taker b.copy.segment)) taker.tcp ≡ means.Taken b.position b.acknowledged
    is_meant = let x = options_heard taker b.copy.segment in
        ap taken_as (sym (ap (λ j. judged_of j x.rst (items_of j b.copy.due.to x) (meaning_of (copy_of x) taker.tcp) taker) k.first.first) ∙ b.taken)

    means_it : MeansIs (copy_of (options_heard taker b.copy.segment)) taker.tcp (means.Taken b.position b.acknowledged)
    means_it = let c = copy_of (options_heard taker b.copy.segment) in subst (MeansIs c taker.tcp) is_meant (means_so c taker.tcp)

    position_is : g.carried.segment.position ≡ b.position
    position_is = let m = means_it in same_Some g.carried.segment.position b.position (ap (λ (y : HeardSegment). (copy_of (options_heard taker y)).position) same ∙ m.1.1.1.0)

    payload_is : length g.carried.segment.payload ≡ length b.copy.segment.payload
    payload_is = ap (λ (y : HeardSegment). length y.payload) same

    meets : Meets first last b.position (length b.copy.segment.payload) b.copy.segment.fin
    meets = subst (λ n. Meets first last b.position n b.copy.segment.fin) payload_is (subst (λ n. Meets first last n (length g.carried.segment.payload) b.copy.segment.fin) position_is
        (subst (λ c. Meets first last g.carried.segment.position (length g.carried.segment.payload) c) (ap (λ (y : HeardSegment). y.fin) same) (span.copies g here (to_it ∙ to))))

    -- a copy of them was sent
    window : b.position ≤ first → last ≤ b.position + length b.copy.segment.payload → last ≤ window_end taker.tcp.recv
    window low high = ⊎_elim
        (λ room. subst (λ y. last ≤ window_end (end_at y p).tcp.recv) (sym to) room)
        (λ unsent. absurd (let some = span.some in let len = payload_is in let at = position_is in
        let most = within_sent start p k s g here (to_it ∙ to) (omega (arith, low, high, len, some)) in omega (arith, unsent, some, high, most, len, at)))
        span.room

    takes_copy : (u : EndState) → u.recv ≡ (with_payload (means.Taken b.position b.acknowledged) b.copy.segment.payload taker.tcp).recv → u.fin_at ≡ first_fin taker.tcp.fin_at b.copy.segment.fin (b.position + length b.copy.segment.payload)
        → Uncut taker.tcp → Uncut u
    takes_copy u recv fin h = taken_uncut first last taker.tcp b.position b.acknowledged b.copy.segment.payload b.copy.segment.fin meets window h u recv fin

  opens_without : (x : Comes values p) → x.due.to ≡ t → (a : ℕ) → let e : PathEnd = end_at x.due.to p in MeansIs (copy_of (options_heard e x.segment)) e.tcp (means.Accepts a) → x.segment.fin ≡ false
  opens_without x to a fits =
      let found = comes_of x in let same = found.1.1.1 in
      sym (ap (λ (y : HeardSegment). y.fin) same) ∙ k.whole.syns found.0 found.1.0 (ap (λ (y : HeardSegment). y.syn) same ∙ fits.1.0)

  fits : IsFit Uncut Unchecked values Never t p
  fits = record {
    may = k.first.checksums ∙ unchecked;
    passes = λ piece is h. passes_uncut first last p.profile (end_at t p) (k.first.checksums ∙ unchecked) (k.mapped t).identity (ap (λ o. covers o (end_at t p).tcp.recv.edge) ((k.mapped t).peer k.first.first)) (k.live t) span.mapped piece is h;
    takes = λ b to u recv fin h. (let found = comes_of b.copy in inl (takes_copy b to found.0 found.1.0 found.1.1.0 found.1.1.1 u recv fin h));
    opens = λ x to a is. opens_without x to a is;
  }

  turned_uncut : (q : PathState Carried) → Becomes values p q → Uncut (end_at t p).tcp → Uncut (end_at t q).tcp
  turned_uncut q Becomes.stays h = h
  turned_uncut q (Becomes.takes_a_reply r) h = ⊎_elim (λ held. held) (λ never. absurd never) (takes_goes Uncut Unchecked values Never (uncut_so first last) r p t fits h)
  turned_uncut q Becomes.begins_anew h = next_goes Uncut Unchecked values Never (uncut_so first last) p t (k.first.checksums ∙ unchecked) h

-- ---- the records of a side

abbrev Living : PathState Carried → Type 0
Living p = (s : Side) → is_dead (end_at s p).tcp.state ≡ false

-- where both ends live, each record of data came whole or not at all
abbrev AllUncut : PathState Carried → Type 0
AllUncut p = Living p → (s : Side) (r : Record) → IsRecordOf (end_at s p) r → r.kind ≡ Data → IsUncut r.pos (end_of r) (end_at (peer s) p).tcp

module _ (start : Start) (mild : IsMildStart start) (unchecked : start.checksums ≡ false) where
  module _ (p q : PathState Carried) (kp : IsKnown start p) (kq : IsKnown start q) (becomes : Becomes values p q) (living : Living p) (s : Side) where
    -- a record that the side had
    old_one : (r u : Record) → IsRecordOf (end_at s p) u → u.kind ≡ Data → u.pos ≡ r.pos → end_of u ≡ end_of r → IsUncut u.pos (end_of u) (end_at (peer s) p).tcp → IsUncut r.pos (end_of r) (end_at (peer s) q).tcp
    old_one r u one kind pos end h =
        let whole : IsWholeOf s u p = kp.whole.each s u one kind in
        subst (λ n. IsUncut n (end_of r) (end_at (peer s) q).tcp) pos (subst (λ n. IsUncut u.pos n (end_at (peer s) q).tcp) end (turned_uncut start unchecked p kp s u.pos (end_of u) (record {
          some = whole.some;
          copies = whole.copies;
          mapped = whole.mapped;
          room = inl (let sent = whole.sent in let few = kp.few s in let una = kp.came.una s (living s) in let window = (kp.lined (peer s)).window in omega (arith, sent, few, una, window));
        }) q becomes h))

    -- a new one, of which nothing came
    new_one : (first last : ℕ) → first < last → (end_at s p).tcp.send.nxt ≤ first → IsUncut first last (end_at (peer s) q).tcp
    new_one first last some late = turned_uncut start unchecked p kp s first last (record {
      some = some;
      copies = copies;
      mapped = λ i m at low high. absurd (let most = kp.whole.known s i m at in omega (arith, most, high, late));
      room = inr late;
    }) q becomes (record {
      edge = inl (let low = subst (λ u. (end_at (peer s) p).tcp.recv.edge ≤ (end_at u p).tcp.send.nxt) (sender_of s) (kp.was_sent (peer s)) in omega (arith, low, late));
      kept = AllOrNone.has_none (λ pos octet from below is. (let low = subst (λ u. pos < (end_at u p).tcp.send.nxt) (sender_of s) (kp.within.kept (peer s) pos octet is) in omega (arith, low, late, from)));
      held = held (is_fin_passed (end_at (peer s) p).tcp) refl;
      fin = λ pos is. inl (let last_one = subst (λ (o : Option ℕ). IfSome o (λ position. suc position ≡ (end_at s p).tcp.send.nxt)) is (kp.fins.heard s) in omega (arith, last_one, late));
    })
      where
        copies : (f : Flight Carried) → IsUnderWay f p → f.to ≡ peer s → Meets first last f.carried.segment.position (length f.carried.segment.payload) f.carried.segment.fin
        copies f here to = by f.carried.segment.fin refl
          where
            before : 0 < length f.carried.segment.payload + one_if f.carried.segment.fin → Meets first last f.carried.segment.position (length f.carried.segment.payload) f.carried.segment.fin
            before some = Meets.lies_before (let low = within_sent start p kp s f here to some in omega (arith, low, late))

            by : (b : Bool) → f.carried.segment.fin ≡ b → Meets first last f.carried.segment.position (length f.carried.segment.payload) f.carried.segment.fin
            by true is = before (let one = ap one_if is in omega (arith, one))
            by false is = ⊎_elim (λ some. before (omega (arith, some))) (λ none. Meets.is_empty (omega (arith, none)) is) (cases_lt 0 (length f.carried.segment.payload))

        held : (b : Bool) → is_fin_passed (end_at (peer s) p).tcp ≡ b → AllOrNone first last (after_keep_held (end_at (peer s) p).tcp.recv) ⊎ (is_fin_passed (end_at (peer s) p).tcp ≡ true)
        held true is = inr is
        held false is = inl (AllOrNone.has_none (λ pos octet from below at. ⊎_elim
            (λ before. (let low = subst (λ u. pos < (end_at u p).tcp.send.nxt) (sender_of s) before in omega (arith, low, late, from)))
            (λ over. true≢false (sym over ∙ is))
            (kp.within.held (peer s) pos octet at)))

    same_end : (u r : Record) → IsSameRecord u r → end_of u ≡ end_of r
    same_end u r same = rw (same.pos, same.kind, same.piece) refl

    next_uncut : AllUncut p → BothOld p q → (r : Record) → IsRecordOf (end_at s q) r → r.kind ≡ Data → IsUncut r.pos (end_of r) (end_at (peer s) q).tcp
    next_uncut h old r one kind = by ((old s).each one.at r (one.there ∙ ap Some one.holds))
      where
        by : Has (λ u. IsSameRecord u r) (end_at s p).tcp.send.records ⊎ ((end_at s p).tcp.send.nxt ≤ r.pos) → IsUncut r.pos (end_of r) (end_at (peer s) q).tcp
        by (inl was) =
            let there : IsRecordOf (end_at s p) was.item = record { at = was.at; item = was.item; there = was.there; holds = refl } in
            let data_is : was.item.kind ≡ Data = sym was.holds.kind ∙ kind in
            old_one r was.item there data_is (sym was.holds.pos) (same_end was.item r was.holds) (h living s was.item there data_is)
        by (inr late) = new_one r.pos (end_of r) (kq.whole.each s r one kind).some late

  -- ---- a turn

  earlier : (p q : PathState Carried) → Becomes values p q → Living q → Living p
  earlier p q Becomes.stays living = living
  earlier p q (Becomes.takes_a_reply r) living = λ s. living_before (end_at s p) (end_at s (takes values r p)) ((takes_far r p).at s) (living s)
  earlier p q Becomes.begins_anew living = λ s. living_before (end_at s p) (end_at s (next_round p)) ((next_far p).at s) (living s)

  step_on : (turns : List Turn) (turn : Turn) (p q : PathState Carried) → IsPathAt 0 (reached values start turns) p → IsPathAt 0 (reached values start (turns ++ turn ∷ [])) q → Becomes values p q → AllUncut p → AllUncut q
  step_on turns turn p q here there becomes h living s =
      next_uncut p q (known start turns p mild here) (known start (turns ++ turn ∷ []) q mild there) becomes (earlier p q becomes living) s h (becomes_old values p q becomes)

  -- at first no end has a record of data
  opened_uncut : (number : ℕ) (plan : PathPlan) → AllUncut (begins_turn (waiting_path (path_begins start number plan) start.lines))
  opened_uncut number plan living s r one kind = absurd (opened_without start number plan s r one kind)

  opened_first : OfFirst AllUncut (opened_world start)
  opened_first = record { each = λ c there. (opened_lifted (λ c. Of AllUncut c.member) start tt tt (λ number plan at. opened_uncut number plan)).each 2 c there }

  pub uncut_at : (turns : List Turn) (p : PathState Carried) → IsPathAt 0 (reached values start turns) p → AllUncut p
  uncut_at turns p here = subst (Of AllUncut) here.is ((each_step values start AllUncut opened_first step_on turns).each here.crew here.there)

-- ---- the laws

pub unchecked_records_are_passed_whole : UncheckedRecordsArePassedWhole
unchecked_records_are_passed_whole start turns mild unchecked p here living s r one kind = (uncut_at start mild unchecked turns p here living s r one kind).edge
