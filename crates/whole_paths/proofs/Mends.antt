-- An expiry mends what a side sent: as the first record goes again, each other one is to be sent.
use Rattle.std.proofs.Common.{◌≡◌, refl, sym, subst, ap, ◌∙◌, ◌⊎◌, inl, inr, ⊎_elim, ℕ, zero, suc, ◌+◌, ◌-◌, ◌^◌, ◌==◌, ◌<◌, ◌≤◌, arith, Bool, true, false, not, ◌&&◌, if◌then◌else◌, Some, None, List, [], ◌∷◌}
use Rattle.std.specs.List.{slice_get}
use Rattle.std.proofs.lemmas.Option.{same_Some}
use Rattle.sides.specs.declared.side.Side.{Side}
use Rattle.stream_lanes.specs.Words.{Has}
use Rattle.link_model.specs.Steps.{segments_sent}
use Rattle.subflow_send.specs.declared.record.RecordKind.{RecordKind}
use Rattle.subflow_send.specs.declared.record.RecordKind.TheVariants as kinds
use Rattle.subflow_send.specs.Records.{Record}
use Rattle.subflow_tcp.specs.declared.handshake.State.{State as EndPhase}
use Rattle.subflow_tcp.specs.declared.handshake.State.TheVariants as phase
use Rattle.subflow_tcp.specs.States.{is_opening}
use Rattle.path_agenda.specs.Agenda.{emission}
use Rattle.path_agenda.specs.declared.duty.Duty.TheVariants as duties
use Rattle.path_agenda.specs.declared.duty.SendDuty.TheVariants as send_duties
use Rattle.path_core.specs.Choices.{is_side_a}
use Rattle.path_core.specs.DssOut.{is_first_piece}
use Rattle.path_core.specs.End.{PathEnd}
use Rattle.path_core.specs.Profile.{Profile}
use Rattle.path_core.specs.Shown.{AltersNothing}
use Rattle.path_core.specs.State.{PathState, end_at}
use Rattle.path_core.specs.Values.{Carried, values}
use Rattle.link_model.specs.Steps.{changed}
use Rattle.world_laws.specs.Actors.{ActorCrew}
use Rattle.world_laws.specs.Members.{HoldsOfKind}
use Rattle.world_laws.specs.NeverFalls.{StripsNothing}
use Rattle.world_laws.specs.Openings.{Start}
use Rattle.world_laws.specs.RoundDone.{reached}
use Rattle.world_laws.specs.Worlds.{Turn, WorldState}
use Rattle.whole_paths.specs.AsFar.{stage}
use Rattle.whole_paths.specs.Came.{HasCome}
use Rattle.whole_paths.specs.Due.{CopiesArriveSo}
use Rattle.whole_paths.specs.Exchanges.{IsFaithful, IsSentWhole}
use Rattle.whole_paths.specs.Expiries.{GoesAgain, IsSaidAt, IsSegmentOf, IsToSend, IsToSendAgain, PathsGoAgain, RunsOut, SendsAgain}
use Rattle.whole_paths.specs.Finish.{is_harmed}
use Rattle.whole_paths.specs.InTime.{ComesFrom}
use Rattle.whole_paths.specs.Kept.{IsSameRecord}
use Rattle.whole_paths.specs.Copies.{CopiesAreNumbered}
use Rattle.whole_paths.specs.Mending.{ComesBy, IsOpenTurn, IsRecordOf, IsSentSoon, IsWell, WhatIsSentComesSoon}
use Rattle.whole_paths.specs.Mending.{IsThereBy as there_by}
use Rattle.whole_paths.specs.Mending.{IsWell as is_well}
use Rattle.whole_paths.specs.Mends.{MendsByExpiry, MendsSoon, WhatRunsOutIsMended}
use Rattle.whole_paths.specs.Mild.{EndsGoByMappings}
use Rattle.whole_paths.specs.Sent.{WasSent}
use Rattle.whole_paths.specs.SentAgain.{OthersAreUnsent, PathsSendAllAgain, SendsAllAgain}
use Rattle.whole_paths.specs.Straying.{IsOpen}
use Rattle.whole_paths.specs.Unmended.{AreWellBut}
use Rattle.whole_paths.proofs.Came.{what_is_acknowledged_came}
use Rattle.whole_paths.proofs.Due.{LinkIs, copies_arrive_as_sent, each_link}
use Rattle.whole_paths.proofs.Exchanges.{Known, Shown, each_shown, first_mapped}
use Rattle.whole_paths.proofs.Flying.{Frames, FramesStay, frames_stay, same_record, same_said, same_segment}
use Rattle.whole_paths.proofs.InTime.{nothing_is_overdue}
use Rattle.whole_paths.proofs.Mild.{mapping_is_kept}
use Rattle.whole_paths.proofs.OpenTurns.{of_before, with_both}
use Rattle.whole_paths.proofs.Reached.{EndsAreReached, each_is_reached}
use Rattle.whole_paths.proofs.RecordsGo.{none_at}
use Rattle.whole_paths.proofs.Resending.{what_runs_out_goes_again}
use Rattle.whole_paths.proofs.Sent.{what_came_was_sent}
use Rattle.whole_paths.proofs.SentAgain.{each_expiry_sends_all_again}
use Rattle.whole_paths.proofs.SentSoon.{what_is_sent_comes_soon}
use Rattle.whole_paths.proofs.Losing.{back, sent_whole}

-- ---- but for the first record each is well

unopening : (state : EndPhase) → 3 ≤ stage state → is_opening state ≡ false
unopening phase.SynSent high = absurd (omega (arith, high))
unopening _ high = refl

-- the first record, or one behind it
placed : {X : Type 0} (s : Side) (x : PathState Carried) (t : Record) → IsRecordOf (end_at s x) t → (slice_get (end_at s x).tcp.send.records 0 ≡ Some t → X)
    → ((place : ℕ) → slice_get (end_at s x).tcp.send.records (suc place) ≡ Some t → X) → X
placed {X} s x t h first behind = by h.at (subst (λ y. slice_get (end_at s x).tcp.send.records h.at ≡ Some y) h.holds h.there)
  where
    by : (i : ℕ) → slice_get (end_at s x).tcp.send.records i ≡ Some t → X
    by zero there = first there
    by (suc i) there = behind i there

well_first : (s : Side) (x : PathState Carried) (first : Record) (others : List Record) → (end_at s x).tcp.send.records ≡ first ∷ others → OthersAreUnsent (end_at s x) → AreWellBut s (first.pos ∷ []) x
well_first s x first others is unsent t h = placed s x t h
    (λ there. let same : first ≡ t = same_Some first t (sym (ap (λ (rs : List Record). slice_get rs 0) is) ∙ there) in inr (record { at = 0; item = first.pos; there = refl; holds = ap (λ (r : Record). r.pos) same }))
    (λ place there. inl (is_well.unsent (unsent.each place t there)))

-- ---- a turn of a path

module _ (soon : WhatIsSentComesSoon values) (s : Side) (p q : PathState Carried) (frames : Frames p q) (again : GoesAgain values p q) (all : SendsAllAgain p q) (known : Known p) (faithful : IsFaithful p)
    (few : segments_sent s p.link < 2 ^ 64 - 1) (open_p : IsOpen p) (mapped : EndsGoByMappings p) (numbered : CopiesAreNumbered p) where
  own : PathEnd
  own = end_at s p

  -- both keys were told before
  told_before : (r : Record) → is_first_piece s r (end_at s p) ≡ false
  told_before r = ap (λ b. is_side_a s && (not b && r.pos == 1)) (open_p.clear s) ∙ never (is_side_a s)
    where
      never : (b : Bool) → (b && false) ≡ false
      never true = refl
      never false = refl

  -- ---- the first record goes

  module _ (is : IsToSend s p) (r : Record) (others : List Record) (records : (end_at s p).tcp.send.records ≡ r ∷ others) (sent : SendsAgain values s p q) (h : IsSentSoon values s sent.segment p q) where
    said : IsSegmentOf r sent.segment × IsSaidAt p.profile s r (end_at s p) sent.segment
    said = sent.first r others records

    clock : q.clock ≡ p.clock
    clock = frames.stands (duties.Send (send_duties.Resend s)) (emission s) is refl

    whole_of : (t : Record) → IsSameRecord r t → t.kind ≡ kinds.Data → IsSentWhole p.profile s t (end_at s p) h.stripped h.altered
    whole_of t same data_is = sent_whole s r t same p (end_at s p) h.stripped h.altered (record {
      mapped = first_mapped p known s r (record { first = r; others = others; records = records; same = same_record r }) (sym same.kind ∙ data_is) (mapped s).identity (mapped s).own (told_before r);
      acknowledges = ap (λ b. if b then None else Some (end_at s p).tcp.recv.edge) (unopening (end_at s p).tcp.state (open_p.past s));
      edge = known.edge s;
      unstripped = h.whole faithful.whole;
      unaltered = h.plain faithful.plain;
    })

    comes : (t : Record) → IsSameRecord r t → t.kind ≡ kinds.Data → ComesBy s t (q.clock + 400) q
    comes t same data_is = record {
      copy = h.copy;
      there = h.there;
      of_it = record {
        to = h.to;
        segment = sent.segment;
        of_it = same_segment t r sent.segment (back r t same) said.0;
        sender = end_at s p;
        says = subst (λ c. IsSaidAt c s t (end_at s p) sent.segment) (sym frames.profile) (same_said p.profile s (end_at s p) t r sent.segment (back r t same) said.1);
        stripped = h.stripped;
        altered = h.altered;
        whole = λ strips. h.whole (subst StripsNothing frames.lines strips);
        plain = λ alters. h.plain (subst AltersNothing frames.lines alters);
        carried = subst (λ (c : Profile). h.copy.carried ≡ changed (values.strips c.spelling s) (values.alters c.spelling s) h.stripped h.altered (values.makes c.spelling s sent.segment)) (sym frames.profile) h.carried;
      };
      whole = subst (λ c. IsSentWhole c s t (end_at s p) h.stripped h.altered) (sym frames.profile) (whole_of t same data_is);
      soon = (let soon = h.soon in omega (arith, soon, clock));
    }

    well_again : OthersAreUnsent (end_at s q) → AreWellBut s [] q
    well_again unsent t at = placed s q t at first (λ place there. inl (is_well.unsent (unsent.each place t there)))
      where
        first : slice_get (end_at s q).tcp.send.records 0 ≡ Some t → IsWell s q t ⊎ Has (λ n. n ≡ t.pos) []
        first there = by t.kind refl
          where
            stood : (u : Record) × (slice_get (end_at s p).tcp.send.records 0 ≡ Some u) × IsSameRecord u t
            stood = (all.no_other s is).each 0 t there

            same : IsSameRecord r t
            same = subst (λ u. IsSameRecord u t) (same_Some stood.0 r (sym stood.1 ∙ ap (λ (rs : List Record). slice_get rs 0) records)) stood.2

            by : (k : RecordKind) → t.kind ≡ k → IsWell s q t ⊎ Has (λ n. n ≡ t.pos) []
            by kinds.Data kind = inl (is_well.sent (there_by.comes (comes t same kind)))
            by kinds.Syn kind = inl (is_well.other (λ data_is. (let apart : kinds.Syn ≡ kinds.Data = sym kind ∙ data_is in cc)))
            by kinds.Fin kind = inl (is_well.other (λ data_is. (let apart : kinds.Fin ≡ kinds.Data = sym kind ∙ data_is in cc)))

  -- a copy of it comes within 400 ticks, or it is harmed
  pub goes_again : IsToSend s p → (r : Record) (others : List Record) → (end_at s p).tcp.send.records ≡ r ∷ others → r.kind ≡ kinds.Data
      → (q ≡ p) ⊎ ((is_harmed s p q ≡ true) ⊎ ComesBy s r (q.clock + 400) q)
  goes_again is r others records kind = ⊎_elim
      (λ same. inl same)
      (λ sent. inr (⊎_elim (λ harmed. inl harmed) (λ h. inr (comes is r others records sent h r (same_record r) kind)) (soon.comes p q numbered s sent.segment few sent.taken)))
      (again.sends s is)

  -- without a record none is lost
  none_lost : IsToSend s p → (end_at s p).tcp.send.records ≡ [] → AreWellBut s [] q
  none_lost is none t at =
      let stood = (all.no_other s is).each at.at t (subst (λ y. slice_get (end_at s q).tcp.send.records at.at ≡ Some y) at.holds at.there) in none_at (end_at s p).tcp.send.records at.at stood.0 none stood.1

  goes_out : IsToSend s p → OthersAreUnsent (end_at s p) → SendsAgain values s p q → (is_harmed s p q ≡ true) ⊎ AreWellBut s [] q
  goes_out is unsent sent = by (end_at s p).tcp.send.records refl
    where
      by : (rs : List Record) → (end_at s p).tcp.send.records ≡ rs → (is_harmed s p q ≡ true) ⊎ AreWellBut s [] q
      by [] none = inr (none_lost is none)
      by (r ∷ others) records = ⊎_elim
          (λ harmed. inl harmed)
          (λ h. inr (well_again is r others records sent h (all.sends s is unsent)))
          (soon.comes p q numbered s sent.segment few sent.taken)

  pub mends : MendsByExpiry s p q
  mends = record { fires = fires; waits = λ h. waits h h.again }
    where
      ready : IsToSendAgain s q → OthersAreUnsent (end_at s q) → MendsSoon s q
      ready next unsent = record { again = next; others = unsent; well = λ first others is. well_first s q first others is unsent }

      fires : (tick : ℕ) → RunsOut s tick p → (end_at s p).tcp.timing.expiries < 5 → (q ≡ p) ⊎ MendsSoon s q
      fires tick out low = ⊎_elim
          (λ same. inl same)
          (λ expires. ⊎_elim (λ same. inl same) (λ unsent. inr (ready (expires.again low).next unsent)) (all.fires s tick out low))
          (again.fires s tick out)

      waits : MendsSoon s p → IsToSendAgain s p → (q ≡ p) ⊎ (MendsSoon s q ⊎ ((is_harmed s p q ≡ true) ⊎ AreWellBut s [] q))
      waits h (inl is) = ⊎_elim (λ same. inl same) (λ given. inr (inl (ready (inr given.0) (all.gives_back s is h.others)))) (again.gives_back s is)
      waits h (inr is) = ⊎_elim (λ same. inl same) (λ sent. inr (inr (goes_out is h.others sent))) (again.sends s is)

-- ---- a turn of a connection

-- what holds of each turn of a path holds of this one
by_turn : (R : PathState Carried → PathState Carried → Type 0) (start : Start) (turns : List Turn) (turn : Turn) (h : IsOpenTurn start turns turn) (s : Side)
    → ((frames : Frames h.before.path h.after.path) → GoesAgain values h.before.path h.after.path → SendsAllAgain h.before.path h.after.path → Known h.before.path → IsFaithful h.before.path
    → segments_sent s h.before.path.link < 2 ^ 64 - 1 → IsOpen h.before.path → EndsGoByMappings h.before.path → CopiesAreNumbered h.before.path → R h.before.path h.after.path) → R h.before.path h.after.path
by_turn R start turns turn h s holds = holds
    (with_both start turns turn h FramesStay (frames_stay values w turn 2 crew there)) (with_both start turns turn h (PathsGoAgain values) (what_runs_out_goes_again values w turn 2 crew there))
    (with_both start turns turn h PathsSendAllAgain (each_expiry_sends_all_again values w turn 2 crew there)) known h.before.faithful (h.before.few s) h.before.is_open
    (of_path EndsGoByMappings ((mapping_is_kept start turns h.mild).each 2 crew there)) (of_path CopiesAreNumbered (((what_is_sent_comes_soon values).numbered start turns).each 2 crew there))
  where
    p : PathState Carried
    p = h.before.path

    q : PathState Carried
    q = h.after.path

    w : WorldState Carried
    w = reached values start turns

    crew : ActorCrew Carried
    crew = h.before.here.crew

    there : slice_get w.crew 2 ≡ Some crew
    there = h.before.here.there

    of_path : (P : PathState Carried → Type 0) → HoldsOfKind (λ app. Unit {0}) P crew.member → P p
    of_path P held = of_before start turns turn h P held

    shown : Shown p
    shown = of_path Shown (each_shown start turns h.mild.plain.size h.mild.fit 2 crew there)

    known : Known p
    known = record {
      tells = shown.tells;
      behind = shown.behind;
      edge = shown.edge;
      reached = of_path EndsAreReached ((each_is_reached values start turns).each 2 crew there);
      came = of_path HasCome ((what_is_acknowledged_came start turns).each 2 crew there);
      was_sent = of_path WasSent ((what_came_was_sent start turns h.mild.plain.size).each 2 crew there);
      link = of_path (λ x. LinkIs x.link) ((each_link values start turns).each 2 crew there);
      alike = of_path CopiesArriveSo ((copies_arrive_as_sent values start turns).each 2 crew there);
      past = of_path (λ x. ComesFrom x.clock x) ((nothing_is_overdue values start turns).each 2 crew there);
    }

pub what_runs_out_is_mended : WhatRunsOutIsMended
what_runs_out_is_mended start turns turn h s = by_turn (MendsByExpiry s) start turns turn h s
    (λ frames again all known faithful few open_p mapped numbered. mends (what_is_sent_comes_soon values) s h.before.path h.after.path frames again all known faithful few open_p mapped numbered)

-- as the end sends its first record again, one of data: a copy of it comes within 400 ticks, or it is harmed
pub first_goes_again : (start : Start) (turns : List Turn) (turn : Turn) (h : IsOpenTurn start turns turn) (s : Side) → IsToSend s h.before.path
    → (r : Record) (others : List Record) → (end_at s h.before.path).tcp.send.records ≡ r ∷ others → r.kind ≡ kinds.Data
    → (h.after.path ≡ h.before.path) ⊎ ((is_harmed s h.before.path h.after.path ≡ true) ⊎ ComesBy s r (h.after.path.clock + 400) h.after.path)
first_goes_again start turns turn h s is r others records kind = by_turn (λ p q. (q ≡ p) ⊎ ((is_harmed s p q ≡ true) ⊎ ComesBy s r (q.clock + 400) q)) start turns turn h s
    (λ frames again all known faithful few open_p mapped numbered. goes_again (what_is_sent_comes_soon values) s h.before.path h.after.path frames again all known faithful few open_p mapped numbered is r others records kind)
