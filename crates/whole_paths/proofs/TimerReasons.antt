-- A timer that runs as an event comes runs for something outstanding: each turn settles it behind all by which a reason may end.
use Rattle.std.proofs.Common.{◌≡◌, refl, sym, subst, ap, ◌∙◌, ◌⊎◌, inl, inr, ⊎_elim, ℕ, Bool, true, false, true≢false, not, ◌&&◌, ◌||◌, Option, Some, None, is_none, is_some, List, [], ◌∷◌}
use Rattle.std.proofs.lemmas.Bool.{and_parts, or_cases}
use Rattle.std.proofs.lemmas.Option.{same_Some}
use Rattle.sides.specs.declared.side.Side.{Side}
use Rattle.loss_recovery.specs.declared.timers.Timing.{Timing}
use Rattle.loss_recovery.specs.Timers.{timer_settled}
use Rattle.subflow_send.specs.Records.{Record}
use Rattle.subflow_tcp.specs.State.{EndState, is_some_record}
use Rattle.subflow_tcp.specs.States.{is_closed_to_segments, is_dead}
use Rattle.path_agenda.specs.declared.duty.Duty.{Duty}
use Rattle.path_agenda.specs.declared.duty.Duty.TheVariants as duties
use Rattle.path_agenda.specs.declared.duty.StepDuty.TheVariants as step_duties
use Rattle.path_store.specs.Granted.{is_all_acknowledged}
use Rattle.path_store.specs.declared.granted_piece.GrantedPiece.{GrantedPiece}
use Rattle.path_core.specs.End.{PathEnd}
use Rattle.path_core.specs.Modes.{sends_plainly}
use Rattle.path_core.specs.Notices.{Notices}
use Rattle.path_core.specs.Sending.{Sending}
use Rattle.path_core.specs.State.{PathState, end_at}
use Rattle.path_core.specs.Timer.{with_timer_settled}
use Rattle.path_core.specs.Values.{Carried, values}
use Rattle.path_core.specs.declared.modes.Modes.{Modes}
use Rattle.world_laws.specs.Members.{HoldsOfKind}
use Rattle.world_laws.specs.Openings.{Start}
use Rattle.world_laws.specs.RoundDone.{reached}
use Rattle.world_laws.specs.Worlds.{Turn}
use Rattle.world_laws.specs.Writes.{EndView, end_view, nothing}
use Rattle.whole_paths.specs.AgendaSteps.{IsStill, is_gone}
use Rattle.whole_paths.specs.Finish.{IsPathAt}
use Rattle.whole_paths.specs.Reasons.{IsOutstanding}
use Rattle.whole_paths.specs.Reasons.{IsOutstanding as outstanding}
use Rattle.whole_paths.proofs.Reasons.{has_reason, reason_of, reason_seen, reasons}
use Rattle.whole_paths.proofs.Settling.{IsSettled, each_event_settles}

-- the timer rests where there is no reason, or the end is dead
abbrev Rests : PathEnd → Type 0
Rests e = (is_gone e ≡ true) ⊎ (has_reason e ≡ false → is_none e.tcp.timing.timer ≡ true)

same_rests : (e f : PathEnd) → has_reason f ≡ has_reason e → f.tcp.timing ≡ e.tcp.timing → is_gone f ≡ is_gone e → Rests e → Rests f
same_rests e f reason timing gone (inl dead) = inl (gone ∙ dead)
same_rests e f reason timing gone (inr rests) = inr (λ none. subst (λ (t : Timing). is_none t.timer ≡ true) (sym timing) (rests (sym reason ∙ none)))

still_rests : (e f : PathEnd) → IsStill e f → Rests e → Rests f
still_rests e f still rests = same_rests e f (same f.tcp f.sending f.modes f.notices still.tcp still.sending still.modes still.notices) (ap (λ (t : EndState). t.timing) still.tcp) (ap (λ (t : EndState). is_dead t.state) still.tcp) rests
  where
    same : (t : EndState) (v : Sending) (m : Modes) (n : Notices) → t ≡ e.tcp → v ≡ e.sending → m ≡ e.modes → n ≡ e.notices → reason_of t v m n ≡ has_reason e
    same t v m n tcp sending modes notices = rw (tcp, sending, modes, notices) refl

seen_rests : (e f : PathEnd) → end_view nothing f ≡ end_view nothing e → Rests e → Rests f
seen_rests e f same rests = same_rests e f (ap reason_seen same) (same_Some f.tcp.timing e.tcp.timing (ap (λ (v : EndView). v.timing) same))
    (ap is_dead (same_Some f.tcp.state e.tcp.state (ap (λ (v : EndView). v.phase) same))) rests

timer_rests : (now : ℕ) (e : PathEnd) → Rests (with_timer_settled now e)
timer_rests now e = inr (λ none. subst (λ reason. is_none (timer_settled reason e.sending.news now e.tcp.timing) ≡ true) (sym none) refl)

rests_settled : IsSettled Rests
rests_settled = record { seen = seen_rests; still = still_rests; gone = λ e dead. inl dead; timer = timer_rests }

-- ---- a reason is something outstanding

not_false : (b : Bool) → not b ≡ true → b ≡ false
not_false true is = absurd (true≢false (sym is))
not_false false is = refl

none_so : {X : Type 0} (o : Option X) → is_some o ≡ false → o ≡ None
none_so None is = refl
none_so (Some n) is = absurd (true≢false is)

by_records : (e : PathEnd) (rs : List Record) → e.tcp.send.records ≡ rs → is_some_record rs ≡ true → IsOutstanding e
by_records e [] is some = absurd (true≢false (sym some))
by_records e (r ∷ rs) is some = outstanding.on_subflow r rs is

by_granted : (e : PathEnd) (gs : List GrantedPiece) → e.sending.granted ≡ gs → not (is_all_acknowledged gs) ≡ true → IsOutstanding e
by_granted e [] is some = absurd (true≢false (sym some))
by_granted e (g ∷ gs) is some = outstanding.on_stream g gs is

by_end : (e : PathEnd) → (not (sends_plainly e.modes) && (e.sending.fin_sent && not e.sending.close.own_acked)) ≡ true → IsOutstanding e
by_end e is =
    let whole = and_parts (not (sends_plainly e.modes)) (e.sending.fin_sent && not e.sending.close.own_acked) is in
    let sent = and_parts e.sending.fin_sent (not e.sending.close.own_acked) whole.1 in
    let plain = neither e.modes.identity (is_some e.modes.own_infinite) (not_false (sends_plainly e.modes) whole.0) in
    outstanding.data_fin plain.0 (none_so e.modes.own_infinite plain.1) sent.0 (not_false e.sending.close.own_acked sent.1)
  where
    neither : (a b : Bool) → (a || b) ≡ false → (a ≡ false) × (b ≡ false)
    neither true b is = absurd (true≢false is)
    neither false b is = (refl, is)

is_outstanding : (e : PathEnd) → has_reason e ≡ true → IsOutstanding e
is_outstanding e is = ⊎_elim
    (λ on. ⊎_elim
    (λ waiting. ⊎_elim (λ ended. by_end e ended) (λ stream. ⊎_elim (λ granted. by_granted e e.sending.granted refl granted) (λ shut. outstanding.shut shut) (or_cases O W stream)) (or_cases F (O || W) waiting))
    (λ other. ⊎_elim (λ third. outstanding.third third) (λ close. outstanding.fast_close close) (or_cases T K other))
    (or_cases (F || (O || W)) (T || K) on))
    (λ some. by_records e e.tcp.send.records refl some)
    (or_cases ((F || (O || W)) || (T || K)) S (and_parts (not (is_closed_to_segments e.tcp.state)) (reasons e) is).1)
  where
    F : Bool
    F = not (sends_plainly e.modes) && (e.sending.fin_sent && not e.sending.close.own_acked)

    O : Bool
    O = not (is_all_acknowledged e.sending.granted)

    W : Bool
    W = e.sending.shut

    T : Bool
    T = e.modes.owes_third

    K : Bool
    K = e.notices.fast_closed

    S : Bool
    S = is_some_record e.tcp.send.records

-- ---- the law

pub each_timer_has_a_reason : (start : Start) (turns : List Turn) (p : PathState Carried) → IsPathAt 0 (reached values start turns) p → (others : List Duty)
    → p.agenda ≡ duties.Step step_duties.Events ∷ others → (s : Side) → is_dead (end_at s p).tcp.state ≡ false → (tick : ℕ) → (end_at s p).tcp.timing.timer ≡ Some tick → IsOutstanding (end_at s p)
each_timer_has_a_reason start turns p here others first s living tick runs = by (has_reason (end_at s p)) refl
    (subst (HoldsOfKind (λ app. Unit {0}) (λ (p : PathState Carried). (others : List Duty) → p.agenda ≡ duties.Step step_duties.Events ∷ others → (s : Side) → Rests (end_at s p))) here.is
    (each_event_settles Rests rests_settled values start turns 2 here.crew here.there) others first s)
  where
    by : (b : Bool) → has_reason (end_at s p) ≡ b → Rests (end_at s p) → IsOutstanding (end_at s p)
    by true has rests = is_outstanding (end_at s p) has
    by false none (inl dead) = absurd (true≢false (sym dead ∙ living))
    by false none (inr rests) = absurd (true≢false (sym (rests none) ∙ ap is_none runs))
