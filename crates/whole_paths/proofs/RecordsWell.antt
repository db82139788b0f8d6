-- A record that is well stays well by each turn between open ends, or one is harmed.
use Rattle.std.proofs.Common.{◌≡◌, refl, sym, subst, ap, ◌∙◌, ◌⊎◌, inl, inr, ⊎_elim, ℕ, ◌+◌, ◌-◌, ◌^◌, ◌<◌, ◌≤◌, arith, ◌&&◌, ◌==◌, not, Bool, true, false, true≢false, if◌then◌else◌, Option, Some, None, IfSome, is_some, List, [], ◌∷◌, ◌++◌, length, map}
use Rattle.std.specs.List.{slice_get}
use Rattle.std.proofs.lemmas.Bool.{both_ways, cases_lt}
use Rattle.std.proofs.lemmas.Option.{same_Some}
use Rattle.path_segments.specs.Spelled.{PlainSegment}
use Rattle.sides.specs.declared.side.Side.{Side}
use Rattle.sides.specs.declared.side.Side.TheVariants.{A, B}
use Rattle.sides.specs.Side.{peer}
use Rattle.fallback_state.specs.Modes.{reads_mappings}
use Rattle.link_model.specs.declared.flight.Flight.{Flight}
use Rattle.link_model.specs.Steps.{changed, due_of, segments_sent}
use Rattle.stream_lanes.specs.Words.{Every}
use Rattle.subflow_recv.specs.Receiving.{window_end}
use Rattle.subflow_send.specs.Records.{Record, end_of, occupied, span_of}
use Rattle.subflow_send.specs.declared.record.RecordKind.{RecordKind}
use Rattle.subflow_send.specs.declared.record.RecordKind.TheVariants.{Syn, Data, Fin}
use Rattle.subflow_tcp.specs.States.{is_dead, is_opening}
use Rattle.subflow_tcp.specs.declared.handshake.State.{State as EndPhase}
use Rattle.subflow_tcp.specs.declared.handshake.State.TheVariants as phase
use Rattle.path_agenda.specs.declared.duty.Duty.{Duty}
use Rattle.path_agenda.specs.declared.duty.Duty.TheVariants as duties
use Rattle.path_agenda.specs.declared.duty.StepDuty.TheVariants as step_duties
use Rattle.path_core.specs.Choices.{is_side_a}
use Rattle.path_core.specs.DssOut.{is_first_piece, place_numbered}
use Rattle.path_core.specs.MpJoin.{is_joined}
use Rattle.path_core.specs.Events.{next_event}
use Rattle.path_core.specs.Profile.{Profile}
use Rattle.path_core.specs.Shown.{AltersNothing}
use Rattle.path_core.specs.State.{PathState, end_at}
use Rattle.path_core.specs.Values.{Carried, values}
use Rattle.path_core.specs.declared.events.Event.TheVariants as happenings
use Rattle.world_laws.specs.declared.member.Member.TheVariants.{Path}
use Rattle.world_laws.specs.Actors.{Actor, ActorCrew}
use Rattle.world_laws.specs.Members.{HoldsOfKind}
use Rattle.world_laws.specs.NeverFalls.{StripsNothing}
use Rattle.world_laws.specs.Openings.{Start}
use Rattle.world_laws.specs.RoundDone.{reached}
use Rattle.world_laws.specs.Worlds.{WorldState, Turn, after_turn}
use Rattle.world_laws.proofs.Numbers.TellSmall.{RecordKindTells, RecordTells}
use Rattle.whole_paths.specs.AgendaSteps.{event_side}
use Rattle.whole_paths.specs.Arrivals.{Arrival, HasItsMapping, IsMappedPiece}
use Rattle.whole_paths.specs.AsFar.{stage}
use Rattle.whole_paths.specs.Brought.{IsThere, KeepsWhatComes, PathsKeepWhatComes, StaysThere}
use Rattle.whole_paths.specs.Brought.{IsThere as there}
use Rattle.whole_paths.specs.Brought.{StaysThere as octet}
use Rattle.whole_paths.specs.Came.{AcksWhatCame, AcksUpTo}
use Rattle.whole_paths.specs.Copies.{CopiesGoOn, GoesOnItsWay, IsUnderWay}
use Rattle.whole_paths.specs.Copies.{GoesOnItsWay as copy}
use Rattle.whole_paths.specs.Exchanges.{IsSentWhole}
use Rattle.whole_paths.specs.Expiries.{IsSaidAt, IsSegmentOf}
use Rattle.whole_paths.specs.Finish.{is_harmed}
use Rattle.whole_paths.specs.Flights.{IsCopyOf}
use Rattle.whole_paths.specs.Kept.{IsSameRecord}
use Rattle.whole_paths.specs.LastFin.{FinIsLast}
use Rattle.whole_paths.specs.Mapped.{IsMapped, KnowsWhatIsTold, PathsKnowWhatIsTold, StaysMapped}
use Rattle.whole_paths.specs.Mapped.{IsMapped as named}
use Rattle.whole_paths.specs.Mapped.{StaysMapped as mapping}
use Rattle.whole_paths.specs.Mending.{ComesBy, EachRecordStaysWell, IsAllThereOf, IsRecordOf, IsSentSoon, IsThereBy, IsWell, RecordsStayWell, WasSent}
use Rattle.whole_paths.specs.Mending.{IsThereBy as by_then}
use Rattle.whole_paths.specs.Mending.{IsWell as well}
use Rattle.whole_paths.specs.Mild.{EndsGoByMappings, EndsHaveKeys, HasKeys, IsMildStart, IsNeverBroken, IsUnbroken}
use Rattle.whole_paths.specs.OpenCourses.{IsNow}
use Rattle.whole_paths.specs.Overruns.{StaysWithin}
use Rattle.whole_paths.specs.ReadModes.{ReadsMappings}
use Rattle.whole_paths.specs.Straying.{IsOpenFrom}
use Rattle.whole_paths.specs.Timers.{TimersAreNear}
use Rattle.whole_paths.proofs.Acking.{all_or, octet_of}
use Rattle.whole_paths.proofs.Arrivals.{each_copy_arrives, each_mapped_record_is_a_piece, sender_of, first_joins}
use Rattle.whole_paths.proofs.Breaking.{never_breaks}
use Rattle.whole_paths.proofs.Bringing.{what_comes_is_kept}
use Rattle.whole_paths.proofs.Came.{what_is_acknowledged_came}
use Rattle.whole_paths.proofs.Copies.{copies_leave}
use Rattle.whole_paths.proofs.DataLast.{DataStands, data_always_stands}
use Rattle.whole_paths.proofs.DataLeft.{EndsAreBegun, each_is_begun}
use Rattle.whole_paths.proofs.Due.{copies_arrive_as_sent, each_link}
use Rattle.whole_paths.proofs.Exchanges.{Known, SameHeader, Shown, below_limit, changed_said, each_shown, under_way}
use Rattle.whole_paths.proofs.Flying.{Frames, FramesStay, frames_stay, same_said, same_segment}
use Rattle.whole_paths.proofs.Gaps.{ComesAhead, comes_ahead}
use Rattle.whole_paths.proofs.InTime.{nothing_is_overdue}
use Rattle.whole_paths.proofs.Keyed.{keys_are_known}
use Rattle.whole_paths.proofs.Knowing.{what_is_told_is_known}
use Rattle.whole_paths.proofs.LastFin.{fins_are_last}
use Rattle.whole_paths.proofs.Marking.{EachMarks, Marks, MarksTo, turn_marks}
use Rattle.whole_paths.proofs.Marking.{Marks as marked}
use Rattle.whole_paths.proofs.Mild.{mapping_is_kept}
use Rattle.whole_paths.proofs.Overruns.{no_end_overruns}
use Rattle.whole_paths.proofs.ReadModes.{ends_read_mappings}
use Rattle.whole_paths.proofs.Reached.{Line, each_is_reached}
use Rattle.whole_paths.proofs.RecordWaits.{edge_up, last, nxt_up, passed_all, with_both}
use Rattle.whole_paths.proofs.Sent.{what_came_was_sent}
use Rattle.whole_paths.proofs.SentSoon.{numbered_so, segments_come_soon}
use Rattle.whole_paths.proofs.Straying.{never_resets}
use Rattle.whole_paths.proofs.Timing.{timers_run_out}

unopening : (state : EndPhase) → 3 ≤ stage state → is_opening state ≡ false
unopening phase.SynSent high = absurd (omega (arith, high))
unopening _ high = refl

-- the first record begins at SND.UNA or before
first_low : (rs : List Record) (una nxt : ℕ) (r : Record) → Line una nxt (map span_of rs) → slice_get rs 0 ≡ Some r → r.pos ≤ una
first_low [] una nxt r line at = cc
first_low (x ∷ xs) una nxt r line at = let low : x.pos ≤ una = line.0 in subst (λ (y : Record). y.pos ≤ una) (same_Some x r at) low

pub is_data_or : {X : Type 0} (u : Record) → (u.kind ≡ Data → X) → ((u.kind ≡ Data → ⊥) → X) → X
is_data_or {X} u then_data otherwise = by u.kind refl
  where
    by : (kind : RecordKind) → u.kind ≡ kind → X
    by Data is = then_data is
    by Syn is = otherwise (λ same. (let wrong : Syn ≡ Data = sym is ∙ same in cc))
    by Fin is = otherwise (λ same. (let wrong : Fin ≡ Data = sym is ∙ same in cc))

module _ (start : Start) (mild : IsMildStart start) (turns : List Turn) (turn : Turn) where
  abbrev w : WorldState Carried
  w = reached values start turns

  abbrev v : WorldState Carried
  v = after_turn values turn w

  abbrev later : List Turn
  later = turns ++ turn ∷ []

  -- ---- what is known of path 0 before the turn, and after it

  module _ {Holds : PathState Carried → Type 0} (before : IsNow Holds w) (after : IsNow Holds v) where
    abbrev p : PathState Carried
    p = before.path

    abbrev q : PathState Carried
    q = after.path

    pub holds_p : (P : PathState Carried → Type 0) → ((actor : ℕ) (c : ActorCrew Carried) → slice_get w.crew actor ≡ Some c → HoldsOfKind (λ app. Unit {0}) P c.member) → P p
    holds_p P each = subst (HoldsOfKind (λ app. Unit {0}) P) before.here.is (each 2 before.here.crew before.here.there)

    there_q : slice_get (reached values start later).crew 2 ≡ Some after.here.crew
    there_q = subst (λ (x : WorldState Carried). slice_get x.crew 2 ≡ Some after.here.crew) (sym (last start mild turns turn)) after.here.there

    pub holds_q : (P : PathState Carried → Type 0) → ((actor : ℕ) (c : ActorCrew Carried) → slice_get (reached values start later).crew actor ≡ Some c → HoldsOfKind (λ app. Unit {0}) P c.member) → P q
    holds_q P each = subst (HoldsOfKind (λ app. Unit {0}) P) after.here.is (each 2 after.here.crew there_q)

    pub by_turn : (R : Actor Carried → Actor Carried → Type 0) → ((d : ActorCrew Carried) × (slice_get v.crew 2 ≡ Some d) × R before.here.crew.member d.member) → R (Path p) (Path q)
    by_turn R found = with_both start mild turns turn before after R found

    keeps : KeepsWhatComes values p q
    keeps = by_turn (PathsKeepWhatComes values) (what_comes_is_kept values w turn 2 before.here.crew before.here.there)

    knows : KnowsWhatIsTold values p q
    knows = by_turn (PathsKnowWhatIsTold values) ((what_is_told_is_known values).goes_on w ((what_is_told_is_known values).live start turns) turn 2 before.here.crew before.here.there)

    pub copies : CopiesGoOn (Path p) (Path q)
    copies = by_turn CopiesGoOn (copies_leave values w turn 2 before.here.crew before.here.there)

    pub frames : Frames p q
    frames = by_turn FramesStay (frames_stay values w turn 2 before.here.crew before.here.there)

    marks : EachMarks values p q
    marks = by_turn (MarksTo values) (turn_marks values w turn 2 before.here.crew before.here.there)

    pub known : Known p
    known =
        let shown : Shown p = holds_p Shown (each_shown start turns mild.plain.size mild.fit) in record {
          tells = shown.tells;
          behind = shown.behind;
          edge = shown.edge;
          reached = holds_p _ (each_is_reached values start turns).each;
          came = holds_p _ (what_is_acknowledged_came start turns).each;
          was_sent = holds_p _ (what_came_was_sent start turns mild.plain.size).each;
          link = holds_p _ (each_link values start turns).each;
          alike = holds_p _ (copies_arrive_as_sent values start turns).each;
          past = holds_p _ (nothing_is_overdue values start turns).each;
        }

    stands : DataStands p
    stands = holds_p DataStands (data_always_stands start turns mild.plain.size).each

    pub within : StaysWithin p
    within = subst (HoldsOfKind (λ app. Unit {0}) StaysWithin) before.here.is (no_end_overruns start turns mild before.here.crew before.here.there)

    pub unbroken_p : is_joined p.profile ≡ false → IsUnbroken p
    unbroken_p first = (holds_p IsNeverBroken (never_breaks start turns mild).each) first

    pub unbroken_q : is_joined q.profile ≡ false → IsUnbroken q
    unbroken_q first = (holds_q IsNeverBroken (never_breaks start later mild).each) first

    pub mapped_p : EndsGoByMappings p
    mapped_p = holds_p EndsGoByMappings (mapping_is_kept start turns mild).each

    pub mapped_q : EndsGoByMappings q
    mapped_q = holds_q EndsGoByMappings (mapping_is_kept start later mild).each

    reads_q : ReadsMappings q
    reads_q = holds_q ReadsMappings (ends_read_mappings start later mild)

    fin_q : FinIsLast q
    fin_q = holds_q FinIsLast (fins_are_last start later mild.plain.size).each

    pub keys_q : is_joined q.profile ≡ false → EndsHaveKeys q
    keys_q first = (holds_q HasKeys (keys_are_known start later mild).each) first

    pub clock : p.clock ≤ q.clock
    clock = marks.clock (let near : TimersAreNear p = holds_p TimersAreNear (timers_run_out values start turns).each in let low = near.clock in omega (arith, low))

    pub numbered : (f : Flight Carried) → IsUnderWay f p → f.number < 2 ^ 64 - 1
    numbered f here = let low = under_way (λ (g : Flight Carried). g.number ≤ segments_sent (peer g.to) p.link) f p here known.link.low in let most = before.few (peer f.to) in omega (arith, low, most)

    -- ---- a copy that is under way stays

    pub copy_stays : (s : Side) (r : Record) (f : Flight Carried) (of_it : IsCopyOf values s r p f) → IsSentWhole p.profile s r of_it.sender of_it.stripped of_it.altered → (tick : ℕ) → f.tick ≤ tick → IsUnderWay f q → ComesBy s r tick q
    copy_stays s r f of_it whole tick soon on = record {
      copy = f;
      there = on;
      of_it = record {
        to = of_it.to;
        segment = of_it.segment;
        of_it = of_it.of_it;
        sender = of_it.sender;
        says = subst (λ c. IsSaidAt c s r of_it.sender of_it.segment) (sym frames.profile) of_it.says;
        stripped = of_it.stripped;
        altered = of_it.altered;
        whole = λ strips. of_it.whole (subst StripsNothing frames.lines strips);
        plain = λ alters. of_it.plain (subst AltersNothing frames.lines alters);
        carried = subst (λ (c : Profile). f.carried ≡ changed (values.strips c.spelling s) (values.alters c.spelling s) of_it.stripped of_it.altered (values.makes c.spelling s of_it.segment)) (sym frames.profile) of_it.carried;
      };
      whole = subst (λ c. IsSentWhole c s r of_it.sender of_it.stripped of_it.altered) (sym frames.profile) whole;
      soon = soon;
    }

    -- ---- what a side sends that is past the handshake

    module _ (s : Side) (past : 3 ≤ stage (end_at s p).tcp.state) (living : is_dead (end_at s p).tcp.state ≡ false) (keyed : is_some p.a.modes.peer_key ≡ true) where
      abbrev Goes : Record → Type 0
      Goes u = WasSent (end_at s p) u ⊎ ((is_harmed s p q ≡ true) ⊎ ComesBy s u (p.clock + 400) q)

      begun : EndsAreBegun p
      begun = holds_p EndsAreBegun (each_is_begun values start turns).each

      alive : (state : EndPhase) → is_dead state ≡ false → stage state ≤ 6
      alive phase.Dead living = absurd (true≢false living)
      alive _ living = omega arith

      some : 0 < (end_at s p).tcp.send.una
      some = let one = (begun s).past past (alive (end_at s p).tcp.state living) in omega (arith, one)

      -- what is sent goes with its own mapping
      mapped_now : (u : Record) → IsRecordOf (end_at s q) u → u.kind ≡ Data → HasItsMapping p.profile s u (end_at s p)
      mapped_now u h kind =
          let shown : Shown q = holds_q Shown (each_shown start later mild.plain.size mild.fit) in
          let stand : DataStands q = holds_q DataStands (data_always_stands start later mild.plain.size).each in
          let there : slice_get (end_at s q).tcp.send.records h.at ≡ Some u = h.there ∙ ap Some h.holds in
          let told = (shown.tells s).sender.records.each h.at u there in
          let tells : RecordKindTells p.profile s Data u = subst (λ c. RecordKindTells c s Data u) frames.profile (subst (λ k. RecordKindTells q.profile s k u) kind told.mapped) in
          let one : 1 ≤ u.mapping.length = tells.0 in
          let place : place_numbered p.profile s u.mapping.number < 2 ^ 31 = tells.3 in
          let whole = tells.4 in
          let few : length u.piece ≤ 65475 = told.octets in
          let reaches : u.pos + length u.piece + 1 < 2 ^ 31 = told.reaches in
          let behind = ((stand s).each h.at u there kind).behind in
          let told_by : (y : Side) → (is_first_piece y u (end_at y p) ≡ false) ⊎ ((is_joined p.profile ≡ false) × (is_some (end_at y p).modes.peer_key ≡ true)) = elim [ A ↦ inr (before.faithful.joined, keyed) | B ↦ inl refl ] in
          record {
            kind = kind;
            some = omega (arith, one, whole);
            behind_syn = omega (arith, behind);
            short = omega (arith, reaches);
            whole = whole;
            low = omega (arith, place, few);
            mapped = (mapped_p s).identity;
            finite = (mapped_p s).own;
            few = few;
            told = told_by s;
          }

      sent_now : (u : Record) → IsRecordOf (end_at s q) u → u.kind ≡ Data → (x : PlainSegment) → IsSegmentOf u x → IsSaidAt p.profile s u (end_at s p) x → IsSentSoon values s x p q
          → ComesBy s u (p.clock + 400) q
      sent_now u is_one kind x of_it says h = record {
        copy = h.copy;
        there = h.there;
        of_it = record {
          to = h.to;
          segment = x;
          of_it = of_it;
          sender = end_at s p;
          says = subst (λ c. IsSaidAt c s u (end_at s p) x) (sym frames.profile) says;
          stripped = h.stripped;
          altered = h.altered;
          whole = λ strips. h.whole (subst StripsNothing frames.lines strips);
          plain = λ alters. h.plain (subst AltersNothing frames.lines alters);
          carried = subst (λ (c : Profile). h.copy.carried ≡ changed (values.strips c.spelling s) (values.alters c.spelling s) h.stripped h.altered (values.makes c.spelling s x)) (sym frames.profile) h.carried;
        };
        whole = subst (λ c. IsSentWhole c s u (end_at s p) h.stripped h.altered) (sym frames.profile) (record {
          mapped = mapped_now u is_one kind;
          acknowledges = ap (λ b. if b then None else Some (end_at s p).tcp.recv.edge) (unopening (end_at s p).tcp.state past);
          edge = known.edge s;
          unstripped = h.whole before.faithful.whole;
          unaltered = h.plain before.faithful.plain;
        });
        soon = h.soon;
      }

      by_marks : (u : Record) → IsRecordOf (end_at s q) u → u.kind ≡ Data → Marks values s u p q.link → Goes u
      by_marks u is_one kind (marked.before h) = inl h
      by_marks u is_one kind (marked.now x of_it says taken) = inr (⊎_elim (λ harmed. inl harmed)
          (λ h. inr (sent_now u is_one kind x of_it says h))
          (segments_come_soon values p q (numbered_so p known.link) s x (before.few s) taken))

      pub goes_so : (u : Record) → IsRecordOf (end_at s q) u → u.kind ≡ Data → u.sending.unsent ≡ false → Goes u
      goes_so u h kind sent = by_marks u h kind (marks.marks s some u h kind sent)

    -- ---- what came stays

    module _ (open_p : IsOpenFrom B p) (open_q : IsOpenFrom B q) (s : Side) where
      abbrev t : Side
      t = peer s

      pub keyless : (x : Side) → (end_at x q).modes.peer_key ≡ None → ⊥
      keyless A none = both_ways (is_some q.a.modes.peer_key) (ap is_some none) open_q.keyed
      keyless B none = both_ways (is_some q.b.modes.peer_key) (ap is_some none) ((keys_q open_q.first).b open_q.sure)

      octet_stays : {o : ℕ} (pos : ℕ) → pos < (end_at s p).tcp.send.nxt → StaysThere t pos o p q → (o : ℕ) × IsThere t pos o q
      octet_stays {o} pos low (octet.on is) = (o, is)
      octet_stays {o} pos low (octet.gone dead) = absurd (both_ways (is_dead (end_at t q).tcp.state) (open_q.living t) dead)
      octet_stays {o} pos low (octet.reset is) = absurd (never_resets q (unbroken_q open_q.first) t is)
      octet_stays {o} pos low (octet.behind_fin is) =
          let all = passed_all (end_at t q).tcp.fin_at (end_at t q).tcp.recv.edge (end_at s q).tcp.send.nxt (fin_q.heard s) is in let up = nxt_up start mild turns turn before after s in (o, there.passed (omega (arith, low, all, up)))
      octet_stays {o} pos low (octet.fails is) = absurd ((unbroken_p open_p.first).fails t is)
      octet_stays {o} pos low (octet.fails_untold sums reads plain) = absurd (both_ways (reads_mappings (end_at t q).modes.mode) reads (reads_q t))
      octet_stays {o} pos low (octet.dropped is) = absurd (both_ways q.b.modes.clear (subst (λ x. (end_at x q).modes.clear ≡ false) is.at_b is.clear) open_q.sure)

      -- at this side
      octet_at_side : {o : ℕ} (y : Side) → y ≡ t → (pos : ℕ) → pos < (end_at s p).tcp.send.nxt → StaysThere y pos o p q → (o : ℕ) × IsThere t pos o q
      octet_at_side {o} y same pos low h = octet_stays pos low (subst (λ z. StaysThere z pos o p q) same h)

      mapping_stays : (pos : ℕ) → StaysMapped t pos p q → IsMapped t pos q
      mapping_stays pos (mapping.on is) = is
      mapping_stays pos (mapping.gone dead) = absurd (both_ways (is_dead (end_at t q).tcp.state) (open_q.living t) dead)
      mapping_stays pos (mapping.reset is) = absurd (never_resets q (unbroken_q open_q.first) t is)
      mapping_stays pos (mapping.plain is) = absurd (both_ways (end_at t q).modes.identity (mapped_q t).identity is)
      mapping_stays pos (mapping.unkeyed none) = absurd (keyless t none)

      abbrev Came : ℕ → PathState Carried → Type 0
      Came pos x = ((o : ℕ) × IsThere t pos o x) × IsMapped t pos x

      passed_came : (pos : ℕ) → pos < (end_at t p).tcp.recv.edge → Came pos q
      passed_came pos low = let up = edge_up start mild turns turn before after t in ((0, there.passed (omega (arith, low, up))), named.passed (omega (arith, low, up)))

      came_stays : (pos : ℕ) → pos < (end_at s p).tcp.send.nxt → Came pos p → Came pos q
      came_stays pos low h = (octet_stays pos low (keeps.stays t pos h.0.0 h.0.1), mapping_stays pos (knows.stays t pos h.1))

      -- ---- one record of data

      module _ (r : Record) (is_one : IsRecordOf (end_at s p) r) (kind : r.kind ≡ Data) where
        at_it : slice_get (end_at s p).tcp.send.records is_one.at ≡ Some r
        at_it = is_one.there ∙ ap Some is_one.holds

        told : RecordTells p.profile s r
        told = (known.tells s).sender.records.each is_one.at r at_it

        tells : RecordKindTells p.profile s Data r
        tells = subst (λ k. RecordKindTells p.profile s k r) kind told.mapped

        whole_length : r.mapping.length ≡ length r.piece
        whole_length = tells.4

        end_is : end_of r ≡ r.pos + length r.piece
        end_is = ap (λ k. r.pos + occupied k r.piece) kind

        -- it ends at SND.NXT or before, and in the peer's window
        before_next : end_of r ≤ (end_at s p).tcp.send.nxt
        before_next = let low = (stands s).each is_one.at r at_it kind in let last_one = low.before in let len = whole_length in let end = end_is in omega (arith, last_one, len, end)

        in_window : end_of r ≤ (end_at t p).tcp.recv.edge + 1048576
        in_window =
            let low = (stands s).each is_one.at r at_it kind in let last_one = low.before in let len = whole_length in let end = end_is in
            let most = within s in let una = known.came.una s (open_p.living s) in omega (arith, last_one, len, end, most, una)

        all_there : IsAllThereOf s r p → IsAllThereOf s r q
        all_there h pos from low = came_stays pos (let end = before_next in omega (arith, low, end)) (h pos from low)

        -- ---- a copy of it

        module _ (f : Flight Carried) (here : IsUnderWay f p) (of_it : IsCopyOf values s r p f) (whole : IsSentWhole p.profile s r of_it.sender of_it.stripped of_it.altered) (tick : ℕ) (soon : f.tick ≤ tick) where
          still : IsUnderWay f q → ComesBy s r tick q
          still on = copy_stays s r f of_it whole tick soon on

          module _ (others : List Duty) (first : p.agenda ≡ duties.Step step_duties.Events ∷ others) (next : next_event p ≡ Some (happenings.Arrives (due_of f))) where
            abbrev x : PlainSegment
            x = of_it.segment

            abbrev comes_now : Arrival x p
            comes_now = each_copy_arrives s r p f of_it whole.unstripped whole.unaltered here (numbered f here) known.alike others first next

            due_to : comes_now.due.to ≡ t
            due_to = sym (ap event_side comes_now.next) ∙ ap event_side next ∙ of_it.to

            piece : IsMappedPiece p.profile (peer comes_now.due.to) x
            piece = subst (λ y. IsMappedPiece p.profile y x) (sym (ap peer due_to ∙ sender_of s)) (each_mapped_record_is_a_piece p.profile s r of_it.sender x whole.mapped of_it.of_it of_it.says)

            at_pos : x.position ≡ r.pos
            at_pos = of_it.of_it.position

            len : length x.payload ≡ length r.piece
            len = ap (λ (o : List ℕ). length o) of_it.of_it.payload

            acks : x.acknowledged ≡ Some of_it.sender.tcp.recv.edge
            acks = of_it.says.acknowledged ∙ whole.acknowledges

            header : SameHeader x f.carried.segment
            header = changed_said p.profile.spelling s x of_it.stripped of_it.altered f.carried of_it.carried

            -- what it acknowledges was sent
            acked_sent : of_it.sender.tcp.recv.edge ≤ (end_at t p).tcp.send.nxt
            acked_sent =
                let came : AcksUpTo (end_at (peer f.to) p).tcp.recv.edge f.carried.segment = under_way (AcksWhatCame p) f p here known.came.copies in
                let low : of_it.sender.tcp.recv.edge ≤ (end_at (peer f.to) p).tcp.recv.edge = ⊎_elim
                (λ is. absurd (true≢false (sym is ∙ header.rst ∙ of_it.of_it.rst)))
                (λ some. subst (λ (o : Option ℕ). IfSome o (λ n. n ≤ (end_at (peer f.to) p).tcp.recv.edge)) (header.acknowledged ∙ acks) some) came in
                let to_s : (end_at (peer f.to) p).tcp.recv.edge ≡ (end_at s p).tcp.recv.edge = ap (λ y. (end_at y p).tcp.recv.edge) (ap peer of_it.to ∙ sender_of s) in
                let sent = known.was_sent s in omega (arith, low, to_s, sent)

            new_comes : (end_at t p).tcp.recv.edge < end_of r → IsThereBy s r tick q
            new_comes new = ⊎_elim (λ each. by_then.there (λ pos from low. each pos low from)) (λ same. by_then.comes (still (subst (IsUnderWay f) (sym same) here)))
                (all_or (λ pos. r.pos ≤ pos → Came pos q) (q ≡ p) (end_of r) (λ pos low. ⊎_elim (λ below. inl (λ from. absurd (omega (arith, below, from)))) (λ from. one pos from low) (cases_lt pos r.pos)))
              where
                a : ComesAhead x p comes_now.due.to
                a = comes_ahead x p comes_now (first_joins comes_now.due.to p open_p.first) piece
                    (subst (λ y. 2 ≤ stage (end_at y p).tcp.state) (sym due_to) (let past = open_p.past t in omega (arith, past)))
                    (subst (λ y. is_dead (end_at y p).tcp.state ≡ false) (sym due_to) (open_p.living t))
                    (below_limit p known comes_now.due.to)
                    (subst (λ y. (end_at y p).tcp.recv.edge < x.position + length x.payload) (sym due_to) (let at = at_pos in let l = len in let end = end_is in omega (arith, new, at, l, end)))
                    (subst (λ y. x.position + length x.payload ≤ (end_at y p).tcp.recv.edge + 1048576) (sym due_to) (let at = at_pos in let l = len in let end = end_is in let most = in_window in omega (arith, at, l, end, most)))
                    of_it.sender.tcp.recv.edge acks whole.edge (subst (λ y. of_it.sender.tcp.recv.edge ≤ (end_at y p).tcp.send.nxt) (sym due_to) acked_sent) (subst (λ y. (end_at y p).modes.identity ≡ false) (sym due_to) (mapped_p t).identity)

                to_t : a.brings.copy.due.to ≡ t
                to_t = a.to_is ∙ due_to

                one : (pos : ℕ) → r.pos ≤ pos → pos < end_of r → (r.pos ≤ pos → Came pos q) ⊎ (q ≡ p)
                one pos from low =
                    let at = at_pos in let l = len in let end = end_is in
                    let size : length a.brings.copy.segment.payload ≡ length x.payload = ap (λ (o : List ℕ). length o) a.payload in
                    let is = octet_of a.brings.copy.segment.payload a.brings.position pos (let position = a.position in omega (arith, position, at, from)) (let position = a.position in omega (arith, position, at, l, end, size, low)) in
                    let fits : pos < window_end (end_at a.brings.copy.due.to p).tcp.recv =
                    subst (λ y. pos < window_end (end_at y p).tcp.recv) (sym to_t) (let most = in_window in let window = (known.reached t).window in omega (arith, low, most, window)) in
                    ⊎_elim (λ same. inr same)
                    (λ kept. ⊎_elim (λ same. inr same)
                    (λ learned. inl (λ high. (
                      octet_at_side a.brings.copy.due.to to_t pos (let last_one = before_next in omega (arith, low, last_one)) kept,
                      mapping_stays pos (subst (λ y. StaysMapped y pos p q) to_t learned),
                    )))
                    (knows.tells a.brings a.mapping a.others pos a.held a.says (a.names pos (omega (arith, at, from)) (omega (arith, at, l, end, low)))))
                    (keeps.brings a.brings pos _ is fits)

            arrives : IsThereBy s r tick q
            arrives = ⊎_elim new_comes (λ old. by_then.there (λ pos from low. passed_came pos (omega (arith, old, low)))) (cases_lt (end_at t p).tcp.recv.edge (end_of r))

          goes : GoesOnItsWay f p q → IsThereBy s r tick q
          goes (copy.on on) = by_then.comes (still on)
          goes (copy.arrives others first next) = arrives others first next
          goes (copy.dies line next is dead) = absurd (both_ways (is_dead q.a.tcp.state) (open_q.living A) dead)

        comes_by : (tick : ℕ) → IsThereBy s r tick p → IsThereBy s r tick q
        comes_by tick (by_then.there h) = by_then.there (all_there h)
        comes_by tick (by_then.comes h) = goes h.copy h.there h.of_it h.whole tick h.soon (copies h.copy h.there)

      -- ---- all of them

      abbrev Sent : Record → Type 0
      Sent u = WasSent (end_at s p) u ⊎ ((is_harmed s p q ≡ true) ⊎ IsThereBy s u (p.clock + 400) q)

      sent_so : (u : Record) → IsRecordOf (end_at s q) u → u.kind ≡ Data → u.sending.unsent ≡ false → Sent u
      sent_so u h kind sent = ⊎_elim (λ was. inl was) (λ now. inr (⊎_elim (λ harmed. inl harmed) (λ on. inr (by_then.comes on)) now))
          (goes_so s (open_p.past s) (open_p.living s) open_p.keyed u h kind sent)

      later_there : (u : Record) → IsThereBy s u (p.clock + 400) q → IsThereBy s u (q.clock + 400) q
      later_there u (by_then.there h) = by_then.there h
      later_there u (by_then.comes h) = by_then.comes (record { copy = h.copy; there = h.there; of_it = h.of_it; whole = h.whole; soon = (let soon = h.soon in let up = clock in omega (arith, soon, up)) })

      -- a record that is the same is there too
      same_there : (r u : Record) (n : ℕ) → IsSameRecord r u → IsThereBy s r n q → IsThereBy s u n q
      same_there r u n same (by_then.there h) = by_then.there (λ pos from low. h pos (let at = same.pos in omega (arith, at, from)) (rw (sym same.pos, sym same.kind, sym same.piece) low))
      same_there r u n same (by_then.comes h) =
          let of_it = h.of_it in
          let back : IsSameRecord u r = record { pos = sym same.pos; kind = sym same.kind; piece = sym same.piece; mapping = sym same.mapping } in
          let m = h.whole.mapped in
          let octets : length u.piece ≡ length r.piece = ap (λ (o : List ℕ). length o) same.piece in
          let size : u.mapping.length ≡ r.mapping.length = ap (λ y. y.length) same.mapping in
          let number : place_numbered q.profile s u.mapping.number ≡ place_numbered q.profile s r.mapping.number = ap (λ y. place_numbered q.profile s y.number) same.mapping in
          let at = same.pos in
          by_then.comes (record {
            copy = h.copy;
            there = h.there;
            of_it = record {
              to = of_it.to;
              segment = of_it.segment;
              of_it = same_segment u r of_it.segment back of_it.of_it;
              sender = of_it.sender;
              says = same_said q.profile s of_it.sender u r of_it.segment back of_it.says;
              stripped = of_it.stripped;
              altered = of_it.altered;
              whole = of_it.whole;
              plain = of_it.plain;
              carried = of_it.carried;
            };
            whole = record {
              mapped = record {
                kind = same.kind ∙ m.kind;
                some = (let some = m.some in omega (arith, some, octets));
                behind_syn = (let behind = m.behind_syn in omega (arith, behind, at));
                short = (let short = m.short in omega (arith, short, octets, at));
                whole = (let whole = m.whole in omega (arith, whole, octets, size));
                low = (let low = m.low in omega (arith, low, octets, number));
                mapped = m.mapped;
                finite = m.finite;
                few = (let few = m.few in omega (arith, few, octets));
                told = ⊎_elim (λ later. inl (ap (λ n. is_side_a s && (not of_it.sender.modes.clear && n == 1)) at ∙ later)) (λ keyed. inr keyed) m.told;
              };
              acknowledges = h.whole.acknowledges;
              edge = h.whole.edge;
              unstripped = h.whole.unstripped;
              unaltered = h.whole.unaltered;
            };
            soon = h.soon;
          })

      one_well : (u : Record) → IsRecordOf (end_at s q) u → Every (IsWell s p) (end_at s p).tcp.send.records → (is_harmed s p q ≡ true) ⊎ IsWell s q u
      one_well u is_one h = by_sent u.sending.unsent refl
        where
          Goal : Type 0
          Goal = (is_harmed s p q ≡ true) ⊎ IsWell s q u

          by_before : u.kind ≡ Data → (b : WasSent (end_at s p) u) → IsWell s p b.record_before → Goal
          by_before kind b (well.other apart) = absurd (apart (sym b.same.kind ∙ kind))
          by_before kind b (well.unsent is) = absurd (both_ways b.record_before.sending.unsent b.sent is)
          by_before kind b (well.sent is) =
              let on = comes_by b.record_before b.there (sym b.same.kind ∙ kind) (p.clock + 400) is in inr (well.sent (later_there u (same_there b.record_before u (p.clock + 400) b.same on)))

          sent : u.sending.unsent ≡ false → u.kind ≡ Data → Goal
          sent is kind = ⊎_elim
              (λ b. by_before kind b (subst (IsWell s p) b.there.holds (h.each b.there.at b.there.item b.there.there)))
              (λ now. ⊎_elim (λ harmed. inl harmed) (λ on. inr (well.sent (later_there u on))) now)
              (sent_so u is_one kind is)

          by_kind : u.sending.unsent ≡ false → Goal
          by_kind is = is_data_or u (λ kind. sent is kind) (λ apart. inr (well.other apart))

          by_sent : (b : Bool) → u.sending.unsent ≡ b → Goal
          by_sent true is = inr (well.unsent is)
          by_sent false is = by_kind is

      all_well : Every (IsWell s p) (end_at s p).tcp.send.records → (is_harmed s p q ≡ true) ⊎ Every (IsWell s q) (end_at s q).tcp.send.records
      all_well h = by (is_harmed s p q) refl
        where
          by : (b : Bool) → is_harmed s p q ≡ b → (is_harmed s p q ≡ true) ⊎ Every (IsWell s q) (end_at s q).tcp.send.records
          by true is = inl is
          by false is = inr (record {
            each = λ i u at. ⊎_elim (λ harmed. absurd (both_ways (is_harmed s p q) is harmed)) (λ fine. fine) (one_well u (record { at = i; item = u; there = at; holds = refl }) h);
          })

      stay_well : RecordsStayWell s p q
      stay_well = record { clock = clock; comes = λ r tick is_one kind h. comes_by r is_one kind tick h; sent = sent_so; well = all_well }

pub each_record_stays_well : EachRecordStaysWell
each_record_stays_well start turns turn h s =
    subst (λ (u : WorldState Carried). (a : IsNow (IsOpenFrom B) u) → RecordsStayWell s h.before.path a.path) (sym (last start h.mild turns turn)) (λ a. stay_well start h.mild turns turn h.before a h.before.is_open a.is_open s) h.after
