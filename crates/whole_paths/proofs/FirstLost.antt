-- A side's first record that may be lost is mended: SND.UNA rises past it, or its timer runs out, and it goes again.
use Rattle.std.proofs.Common.{◌≡◌, refl, sym, subst, ap, ◌∙◌, ◌⊎◌, inl, inr, ⊎_elim, ℕ, zero, suc, ◌+◌, ◌==◌, ◌<◌, ◌≤◌, max, arith, Bool, true, false, true≢false, if◌then◌else◌, Some, List, [], ◌∷◌, ◌++◌, length, map}
use Rattle.std.specs.List.{slice_get}
use Rattle.std.proofs.lemmas.Bool.{cases_lt, eq-eqb, eqb-true}
use Rattle.std.proofs.lemmas.Option.{same_Some}
use Rattle.sides.specs.declared.side.Side.{Side}
use Rattle.stream_lanes.specs.Words.{Has}
use Rattle.subflow_send.specs.declared.record.RecordKind.{RecordKind}
use Rattle.subflow_send.specs.declared.record.RecordKind.TheVariants as kinds
use Rattle.subflow_send.specs.Records.{Record, end_of, occupied, span_of}
use Rattle.subflow_tcp.specs.States.{is_dead}
use Rattle.path_agenda.specs.Agenda.{emission}
use Rattle.path_agenda.specs.declared.duty.Duty.TheVariants as duties
use Rattle.path_agenda.specs.declared.duty.AskDuty.TheVariants as ask_duties
use Rattle.path_agenda.specs.declared.duty.SendDuty.TheVariants as send_duties
use Rattle.path_core.specs.State.{PathState, end_at}
use Rattle.path_core.specs.Values.{Carried, values}
use Rattle.path_core.specs.declared.events.Event.TheVariants as happenings
use Rattle.world_laws.specs.declared.member.Member.TheVariants.{Path}
use Rattle.world_laws.specs.Actors.{ActorCrew}
use Rattle.world_laws.specs.RoundDone.{reached}
use Rattle.world_laws.specs.Worlds.{WorldState}
use Rattle.whole_paths.specs.Expiries.{GoesAgain, IsToSendAgain, PathsGoAgain, RunsOut}
use Rattle.whole_paths.specs.Finish.{is_harmed}
use Rattle.whole_paths.specs.FirstLost.{FirstGoes, FirstIsLost, LostRecordsAreMended, MendsFirst, MendsFirstOn}
use Rattle.whole_paths.specs.FirstLost.{MendsFirst as stage}
use Rattle.whole_paths.specs.FirstLost.{MendsFirstOn as mending}
use Rattle.whole_paths.specs.Flights.{IsFirst}
use Rattle.whole_paths.specs.InTime.{ComesFrom}
use Rattle.whole_paths.specs.Kept.{AreKept, EndsKeepWhatWaits, IsSameRecord, KeepsWhatWaits}
use Rattle.whole_paths.specs.Mending.{IsRecordOf, IsWell, RecordsStayWell, WasSent}
use Rattle.whole_paths.specs.Mending.{IsWell as is_well}
use Rattle.whole_paths.specs.Mends.{MendsByExpiry}
use Rattle.whole_paths.specs.Unmended.{AreWellBut, LosesNoMore}
use Rattle.whole_paths.specs.Waits.{RunsTo, TimersWaitOn, WaitsOn}
use Rattle.whole_paths.specs.Waits.{WaitsOn as wait}
use Rattle.whole_paths.proofs.Exchanges.{Shown, each_shown}
use Rattle.whole_paths.proofs.Flying.{Frames, FramesStay, frames_stay, timer_from}
use Rattle.whole_paths.proofs.InTime.{nothing_is_overdue, timer_behind}
use Rattle.whole_paths.proofs.Keeping.{what_waits_is_kept}
use Rattle.whole_paths.proofs.Mends.{what_runs_out_is_mended}
use Rattle.whole_paths.proofs.OpenTurns.{of_after, of_before, with_both, begun}
use Rattle.whole_paths.proofs.Reached.{EndsAreReached, Joined, Line, each_is_reached}
use Rattle.whole_paths.proofs.RecordsGo.{none_at}
use Rattle.whole_paths.proofs.Resending.{what_runs_out_goes_again}
use Rattle.whole_paths.proofs.Losing.{data_filled, harms_alone_lose_records, there_so}
use Rattle.whole_paths.proofs.RecordsWell.{each_record_stays_well}
use Rattle.whole_paths.proofs.Waiting.{no_timer_is_put_off}

-- ---- positions that may be lost

-- without this one
abbrev pub without : ℕ → List ℕ → List ℕ
without pos [] = []
without pos (n ∷ ns) = if n == pos then without pos ns else n ∷ without pos ns

no_longer : (pos : ℕ) (ns : List ℕ) → length (without pos ns) ≤ length ns
no_longer pos [] = omega arith
no_longer pos (n ∷ ns) = by (n == pos) (no_longer pos ns)
  where
    by : (b : Bool) → length (without pos ns) ≤ length ns → length (if b then without pos ns else n ∷ without pos ns) ≤ suc (length ns)
    by true low = omega (arith, low)
    by false low = omega (arith, low)

pub shorter : (pos : ℕ) (ns : List ℕ) (i m : ℕ) → slice_get ns i ≡ Some m → m ≡ pos → length (without pos ns) < length ns
shorter pos [] i m there is = cc
shorter pos (n ∷ ns) zero m there is = by (n == pos) refl
  where
    by : (b : Bool) → (n == pos) ≡ b → length (if b then without pos ns else n ∷ without pos ns) < suc (length ns)
    by true same = let low = no_longer pos ns in omega (arith, low)
    by false apart = absurd (true≢false (sym (eq-eqb n pos (same_Some n m there ∙ is)) ∙ apart))
shorter pos (n ∷ ns) (suc i) m there is = by (n == pos) (shorter pos ns i m there is)
  where
    by : (b : Bool) → length (without pos ns) < length ns → length (if b then without pos ns else n ∷ without pos ns) < suc (length ns)
    by true low = omega (arith, low)
    by false low = omega (arith, low)

-- another one stays
pub stays_among : (pos other : ℕ) → (other ≡ pos → ⊥) → (ns : List ℕ) (i m : ℕ) → slice_get ns i ≡ Some m → m ≡ other → Has (λ n. n ≡ other) (without pos ns)
stays_among pos other apart [] i m there is = cc
stays_among pos other apart (n ∷ ns) zero m there is = by (n == pos) refl
  where
    by : (b : Bool) → (n == pos) ≡ b → Has (λ n. n ≡ other) (if b then without pos ns else n ∷ without pos ns)
    by true same = absurd (apart (sym is ∙ sym (same_Some n m there) ∙ eqb-true n pos same))
    by false away = record { at = 0; item = n; there = refl; holds = same_Some n m there ∙ is }
stays_among pos other apart (n ∷ ns) (suc i) m there is = by (n == pos) (stays_among pos other apart ns i m there is)
  where
    by : (b : Bool) → Has (λ n. n ≡ other) (without pos ns) → Has (λ n. n ≡ other) (if b then without pos ns else n ∷ without pos ns)
    by true h = h
    by false h = record { at = suc h.at; item = h.item; there = h.there; holds = h.holds }

some_among : (pos : ℕ) (ns : List ℕ) → Has (λ n. n ≡ pos) ns → 0 < length ns
some_among pos ns h = let less = shorter pos ns h.at h.item h.there h.holds in omega (arith, less)

-- ---- records stand one behind another

-- each behind this position, where all have positions
pub behind : (nxt : ℕ) (rs : List Record) (from : ℕ) → Joined from nxt (map span_of rs) → (i : ℕ) (t : Record) → slice_get rs i ≡ Some t → from ≤ t.pos
behind nxt [] from h i t there = cc
behind nxt (r ∷ rs) from h zero t there = let is = h.0 in let same = ap (λ (x : Record). x.pos) (same_Some r t there) in omega (arith, is, same)
behind nxt (r ∷ rs) from h (suc i) t there = let is = h.0 in let rest = behind nxt rs (end_of r) h.1 i t there in omega (arith, is, rest)

-- ---- the records of a side

module _ (s : Side) where
  -- each record has positions
  pub has_some : (x : PathState Carried) → Shown x → (t : Record) → IsRecordOf (end_at s x) t → t.pos < end_of t
  has_some x shown t has = by t.kind refl
    where
      by : (k : RecordKind) → t.kind ≡ k → t.pos < end_of t
      by kinds.Data is = let full = data_filled s x shown t has is in let end : end_of t ≡ t.pos + length t.piece = ap (λ k. t.pos + occupied k t.piece) is in omega (arith, full, end)
      by kinds.Syn is = let end : end_of t ≡ t.pos + 1 = ap (λ k. t.pos + occupied k t.piece) is in omega (arith, end)
      by kinds.Fin is = let end : end_of t ≡ t.pos + 1 = ap (λ k. t.pos + occupied k t.piece) is in omega (arith, end)

  -- and isn't acknowledged whole
  pub left : (x : PathState Carried) → EndsAreReached x → Shown x → (t : Record) → IsRecordOf (end_at s x) t → (end_at s x).tcp.send.una < end_of t
  left x reached_x shown t has = by (end_at s x).tcp.send.records refl
    where
      all : Line (end_at s x).tcp.send.una (end_at s x).tcp.send.nxt (map span_of (end_at s x).tcp.send.records)
      all = (reached_x s).lined.line

      there : slice_get (end_at s x).tcp.send.records has.at ≡ Some t
      there = subst (λ y. slice_get (end_at s x).tcp.send.records has.at ≡ Some y) has.holds has.there

      by : (rs : List Record) → (end_at s x).tcp.send.records ≡ rs → (end_at s x).tcp.send.una < end_of t
      by [] is = none_at (end_at s x).tcp.send.records has.at t is there
      by (r ∷ rs) is = at has.at (subst (λ ts. slice_get ts has.at ≡ Some t) is there)
        where
          line : Line (end_at s x).tcp.send.una (end_at s x).tcp.send.nxt (map span_of (r ∷ rs))
          line = subst (λ ts. Line (end_at s x).tcp.send.una (end_at s x).tcp.send.nxt (map span_of ts)) is all

          first_some : r.pos < end_of r
          first_some = has_some x shown r (record { at = 0; item = r; there = ap (λ (ts : List Record). slice_get ts 0) is; holds = refl })

          first_left : (end_at s x).tcp.send.una < end_of r
          first_left = ⊎_elim (λ more. more) (λ none. absurd (omega (arith, none, first_some))) line.1

          at : (i : ℕ) → slice_get (r ∷ rs) i ≡ Some t → (end_at s x).tcp.send.una < end_of t
          at zero there = subst (λ y. (end_at s x).tcp.send.una < end_of y) (same_Some r t there) first_left
          at (suc i) there = let more = behind (end_at s x).tcp.send.nxt rs (end_of r) line.2 i t there in let some = has_some x shown t has in omega (arith, first_left, more, some)

-- ---- a turn of a path

module _ (s : Side) (debts by_then : ℕ) (p q : PathState Carried) (records : RecordsStayWell s p q) (loses : LosesNoMore s p q) (mends : MendsByExpiry s p q) (again : GoesAgain values p q)
    (timers : TimersWaitOn (Path p) (Path q)) (kept : KeepsWhatWaits (end_at s p) (end_at s q)) (frames : Frames p q) (past : ComesFrom p.clock p) (living : is_dead (end_at s q).tcp.state ≡ false)
    (reached_p : EndsAreReached p) (reached_q : EndsAreReached q) (shown_p : Shown p) (shown_q : Shown q) where
  abbrev Goes : Type 0
  Goes = MendsFirstOn s debts by_then p q

  same_path : q ≡ p → MendsFirst s debts by_then p → Goes
  same_path same h = mending.on (subst (MendsFirst s debts by_then) (sym same) h)

  -- ---- the timer runs

  module _ (h : FirstIsLost s debts by_then p) (unharmed : is_harmed s p q ≡ false) where
    first_there : slice_get (end_at s p).tcp.send.records 0 ≡ Some h.is_first.first
    first_there = ap (λ (rs : List Record). slice_get rs 0) h.is_first.records

    -- SND.UNA is at its end, or past it: no other record stands at its position
    is_acked : end_of h.first ≤ (end_at s q).tcp.send.una → Goes
    is_acked reached_end = mending.fewer (without h.first.pos h.lost) (let less = shorter h.first.pos h.lost h.among.at h.among.item h.among.there h.among.holds in let few = h.few in omega (arith, less, few)) well
      where
        still : AreWellBut s h.lost q
        still = loses.unharmed unharmed h.lost h.well

        -- a record of the end's that stood here before stands behind it
        apart : (t : Record) → IsRecordOf (end_at s q) t → WasSent (end_at s p) t → t.pos ≡ h.first.pos → ⊥
        apart t at was same = by was.there.at (subst (λ y. slice_get (end_at s p).tcp.send.records was.there.at ≡ Some y) was.there.holds was.there.there)
          where
            line : Line (end_at s p).tcp.send.una (end_at s p).tcp.send.nxt (map span_of (h.is_first.first ∷ h.is_first.others))
            line = subst (λ ts. Line (end_at s p).tcp.send.una (end_at s p).tcp.send.nxt (map span_of ts)) h.is_first.records (reached_p s).lined.line

            end_same : end_of h.is_first.first ≡ end_of h.first
            end_same = rw (h.is_first.same.pos, h.is_first.same.kind, h.is_first.same.piece) refl

            by : (i : ℕ) → slice_get (end_at s p).tcp.send.records i ≡ Some was.record_before → ⊥
            by zero there =
                let one : h.is_first.first ≡ was.record_before = same_Some h.is_first.first was.record_before (sym first_there ∙ there) in
                let ends : end_of t ≡ end_of was.record_before = rw (was.same.pos, was.same.kind, was.same.piece) refl in
                let same_ends = ap end_of one in
                let more = left s q reached_q shown_q t at in omega (arith, ends, same_ends, end_same, more, reached_end)
            by (suc i) there =
                let low = behind (end_at s p).tcp.send.nxt h.is_first.others (end_of h.is_first.first) line.2 i was.record_before (subst (λ ts. slice_get ts (suc i) ≡ Some was.record_before) h.is_first.records there) in
                let some = has_some s p shown_p h.is_first.first (record { at = 0; item = h.is_first.first; there = first_there; holds = refl }) in
                let at_first = h.is_first.same.pos in let at_t = was.same.pos in omega (arith, low, some, at_first, at_t, same)

        well : AreWellBut s (without h.first.pos h.lost) q
        well t at = ⊎_elim (λ is. inl is) among_so (still t at)
          where
            among_so : Has (λ n. n ≡ t.pos) h.lost → IsWell s q t ⊎ Has (λ n. n ≡ t.pos) (without h.first.pos h.lost)
            among_so has = by_kind t.kind refl
              where
                sent_so : t.kind ≡ kinds.Data → t.sending.unsent ≡ false → IsWell s q t ⊎ Has (λ n. n ≡ t.pos) (without h.first.pos h.lost)
                sent_so data_is sent = ⊎_elim
                    (λ was. inr (stays_among h.first.pos t.pos (apart t at was) h.lost has.at has.item has.there has.holds))
                    (λ x. ⊎_elim (λ harmed. absurd (true≢false (sym harmed ∙ unharmed)))
                    (λ comes. inl (is_well.sent (there_so s t t (record { pos = refl; kind = refl; piece = refl; mapping = refl }) q (p.clock + 400) (q.clock + 400) (let up = records.clock in omega (arith, up)) comes))) x)
                    (records.sent t at data_is sent)

                by_kind : (k : RecordKind) → t.kind ≡ k → IsWell s q t ⊎ Has (λ n. n ≡ t.pos) (without h.first.pos h.lost)
                by_kind kinds.Syn is = inl (is_well.other (λ data_is. (let other : kinds.Syn ≡ kinds.Data = sym is ∙ data_is in cc)))
                by_kind kinds.Fin is = inl (is_well.other (λ data_is. (let other : kinds.Fin ≡ kinds.Data = sym is ∙ data_is in cc)))
                by_kind kinds.Data is = by_mark t.sending.unsent refl
                  where
                    by_mark : (b : Bool) → t.sending.unsent ≡ b → IsWell s q t ⊎ Has (λ n. n ≡ t.pos) (without h.first.pos h.lost)
                    by_mark true unsent = inl (is_well.unsent unsent)
                    by_mark false sent = sent_so is sent

    -- it is still the first one, or it is acknowledged
    first_or_acked : (IsFirst h.first (end_at s q) → Goes) → Goes
    first_or_acked then_so = by (end_at s q).tcp.send.records refl
        (subst (λ rs. AreKept (λ (x : Record). ((end_at s p).tcp.send.una < (end_at s q).tcp.send.una) × (end_of x ≤ (end_at s q).tcp.send.una)) IsSameRecord rs (end_at s q).tcp.send.records) h.is_first.records kept.records)
      where
        ended : end_of h.is_first.first ≤ (end_at s q).tcp.send.una → end_of h.first ≤ (end_at s q).tcp.send.una
        ended low = rw (sym h.is_first.same.pos, sym h.is_first.same.kind, sym h.is_first.same.piece) low

        by : (rs : List Record) → (end_at s q).tcp.send.records ≡ rs
            → AreKept (λ (x : Record). ((end_at s p).tcp.send.una < (end_at s q).tcp.send.una) × (end_of x ≤ (end_at s q).tcp.send.una)) IsSameRecord (h.is_first.first ∷ h.is_first.others) rs → Goes
        by [] is k = is_acked (ended k.0.1)
        by (x ∷ rs) is k = ⊎_elim
            (λ gone. is_acked (ended gone.0.1))
            (λ there. then_so (record {
              first = x;
              others = rs;
              records = is;
              same = record { pos = there.0.pos ∙ h.is_first.same.pos; kind = there.0.kind ∙ h.is_first.same.kind; piece = there.0.piece ∙ h.is_first.same.piece; mapping = there.0.mapping ∙ h.is_first.same.mapping };
            }))
            k

    -- it may be lost still, and its timer runs
    runs_on : RunsTo by_then (end_at s q) → Goes
    runs_on runs = first_or_acked (λ first. mending.on (stage.waits (record {
      first = h.first;
      is_first = first;
      lost = h.lost;
      among = h.among;
      well = loses.unharmed unharmed h.lost h.well;
      few = h.few;
      runs = runs;
    })))

    ran_out : (at : ℕ) → RunsOut s at p → Goes
    ran_out at out = ⊎_elim
        (λ same. same_path same (stage.waits h))
        (λ clock. ⊎_elim (λ low. few_times clock low) (λ many. last many) (cases_lt (end_at s p).tcp.timing.expiries 5))
        (frames.moves (happenings.Fires s at) out.others out.first out.next)
      where
        last : 5 ≤ (end_at s p).tcp.timing.expiries → Goes
        last many = ⊎_elim (λ same. same_path same (stage.waits h)) (λ expires. absurd (true≢false (sym (expires.sixth many) ∙ living))) (again.fires s at out)

        few_times : q.clock ≡ max p.clock at → (end_at s p).tcp.timing.expiries < 5 → Goes
        few_times clock low = ⊎_elim
            (λ same. same_path same (stage.waits h))
            (λ soon. mending.on (stage.goes (record {
              mends = soon;
              in_time = (let early = timer_behind s (happenings.Fires s at) by_then p out.next h.runs.timer in let from = timer_from s by_then p past h.runs.timer in omega (arith, clock, early, from));
              some = (let some = some_among h.first.pos h.lost h.among in let few = h.few in omega (arith, some, few));
            })))
            (mends.fires at out low)

    waits_on : Goes
    waits_on = by (timers s by_then h.runs)
      where
        by : WaitsOn s by_then p q → Goes
        by (wait.runs runs) = runs_on runs
        by (wait.runs_out at out) = ran_out at out
        by (wait.news news) = first_or_acked (λ first. mending.news h.first h.is_first first news)
        by (wait.gone dead) = absurd (true≢false (sym dead ∙ living))

  -- ---- the first record goes again

  module _ (h : FirstGoes s debts by_then p) (unharmed : is_harmed s p q ≡ false) where
    clock : IsToSendAgain s p → q.clock ≡ p.clock
    clock (inl is) = frames.stands (duties.Ask (ask_duties.Return s)) (duties.Send (send_duties.Resend s) ∷ emission s) is refl
    clock (inr is) = frames.stands (duties.Send (send_duties.Resend s)) (emission s) is refl

    goes_on : Goes
    goes_on = ⊎_elim
        (λ same. same_path same (stage.goes h))
        (λ x. ⊎_elim
        (λ soon. mending.on (stage.goes (record {
          mends = soon;
          in_time = (let in_time = h.in_time in let same = clock h.mends.again in omega (arith, in_time, same));
          some = h.some;
        })))
        (λ y. ⊎_elim
        (λ harmed. mending.harmed s harmed)
        (λ well. mending.fewer [] h.some well)
        y)
        x)
        (mends.waits h.mends)

  pub first_mends : MendsFirst s debts by_then p → Goes
  first_mends h = by (is_harmed s p q) refl
    where
      staged : is_harmed s p q ≡ false → MendsFirst s debts by_then p → Goes
      staged unharmed (stage.waits x) = waits_on x unharmed
      staged unharmed (stage.goes x) = goes_on x unharmed

      by : (b : Bool) → is_harmed s p q ≡ b → Goes
      by true is = mending.harmed s is
      by false unharmed = staged unharmed h

-- ---- a turn of a connection

pub lost_records_are_mended : LostRecordsAreMended
lost_records_are_mended start turns turn h s debts by_then stands = first_mends s debts by_then p q (each_record_stays_well start turns turn (begun start turns turn h) s) (harms_alone_lose_records start turns turn (begun start turns turn h) s)
    (what_runs_out_is_mended start turns turn h s) (with_both start turns turn h (PathsGoAgain values) (what_runs_out_goes_again values w turn 2 crew there))
    (with_both start turns turn h TimersWaitOn ((no_timer_is_put_off values).waits w turn 2 crew there)) (with_both start turns turn h EndsKeepWhatWaits (what_waits_is_kept values w (turn ∷ []) 2 crew there) s)
    (with_both start turns turn h FramesStay (frames_stay values w turn 2 crew there)) (of_before start turns turn h (λ x. ComesFrom x.clock x) ((nothing_is_overdue values start turns).each 2 crew there))
    (h.after.is_open.living s) (of_before start turns turn h EndsAreReached ((each_is_reached values start turns).each 2 crew there))
    (of_after start turns turn h EndsAreReached ((each_is_reached values start (turns ++ turn ∷ [])).each 2 h.after.here.crew h.after.here.there))
    (of_before start turns turn h Shown (each_shown start turns h.mild.plain.size h.mild.fit 2 crew there))
    (of_after start turns turn h Shown (each_shown start (turns ++ turn ∷ []) h.mild.plain.size h.mild.fit 2 h.after.here.crew h.after.here.there)) stands
  where
    p : PathState Carried
    p = h.before.path

    q : PathState Carried
    q = h.after.path

    w : WorldState Carried
    w = reached values start turns

    crew : ActorCrew Carried
    crew = h.before.here.crew

    there : slice_get w.crew 2 ≡ Some crew
    there = h.before.here.there
