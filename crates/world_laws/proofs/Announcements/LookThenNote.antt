-- In a turn of a path each look is followed by the duty that notes what the look told to the peer.
use Rattle.world_laws.proofs.Words.{◌≡◌, refl, ℕ, zero, suc, ◌+◌, ◌&&◌, ◌||◌, not, inl, inr, ◌⊎◌, Bool, true, false, if◌then◌else◌, Option, Some, None, List}
use Rattle.world_laws.proofs.Words.{[], ◌∷◌, ◌++◌, length, false≢true, Verdict, Mode, Side, A, B, same_side, JoinSyn, ControlReply, Record, is_dead, Meaning}
use Rattle.world_laws.proofs.Words.{is_sixth, arriving, after_delivery, HeardSegment, LineAction, Piece, rest_of_turn, emission, heard_and, payload_came}
use Rattle.world_laws.proofs.Words.{leaves, resets, stops, start_of_turn, Duty, SendDuty, StepDuty, AskDuty, SilentDuty, Heard, KeyPair, replaced, key_heard}
use Rattle.world_laws.proofs.Words.{keys_heard, Reply, tail_of, Codec, stands, ask_for, answered, answered_ack_out, at_tick, PathState, end_at, goes_on}
use Rattle.world_laws.proofs.Words.{with_agenda, left, items_of, options_heard, judged_in, template_by, template_judged, heard_in, copy_heard, reset_on}
use Rattle.world_laws.proofs.Words.{answered_break, answered_data, answered_grant, first_unsent, grant_in, data_ask, Judged, next_event, after_line, happens_if}
use Rattle.world_laws.proofs.Words.{join_begun, never_joined, asked_at, is_never, join_taken, keys_begun, opened_by, is_joined, template_fired, piece_of}
use Rattle.world_laws.proofs.Words.{is_placed, answered_piece, answered_plain_fin, answered_fin_heard, is_fin_set, is_clash, with_learned, told_next}
use Rattle.world_laws.proofs.Words.{answered_mapping, answered_item, item_of, after_fell, fell_duties, answered_plain_ack, with_plain_ack, breaks_by_ack}
use Rattle.world_laws.proofs.Words.{answered_peer_key, answered_opened, is_stopped_by, ends_turn, if_so}
use Rattle.fallback_state.specs.declared.fall.Event.TheVariants as events
use Rattle.path_core.specs.declared.events.Event.{Event}
use Rattle.path_agenda.specs.Agenda.{breaks}
use Rattle.world_laws.proofs.Announcements.ToBeNoted.{IsMild}
use Rattle.world_laws.proofs.Falls.FailedChecks.{fail_answered_so}
use Rattle.world_laws.proofs.Standby.OneDutyLooks.{MayNotLook}

-- the side notes to its peer what it has to, after duties that leave it able to
abbrev pub comes : Side → List Duty → Bool
comes s [] = false
comes s (Duty.Send (SendDuty.Notice t) ∷ ds) = same_side t s || comes s ds
comes s (Duty.Step (StepDuty.Look t) ∷ ds) = not (same_side t s) && comes s ds
comes s (Duty.Ask (AskDuty.Window t) ∷ ds) = comes s ds
comes s (Duty.Send (SendDuty.Update t) ∷ ds) = comes s ds
comes s (Duty.Ask (AskDuty.LeaveNoted t) ∷ ds) = comes s ds
comes s (Duty.Send (SendDuty.ResetNoted t) ∷ ds) = comes s ds
comes s (Duty.Ask (AskDuty.Leave t) ∷ ds) = comes s ds
comes s (Duty.Ask (AskDuty.Dead t) ∷ ds) = comes s ds
comes s (Duty.Send (SendDuty.Syn t) ∷ ds) = comes s ds
comes s (Duty.Send (SendDuty.FastClose t) ∷ ds) = comes s ds
comes s (Duty.Step (StepDuty.Data t) ∷ ds) = comes s ds
comes s (Duty.Send (SendDuty.DataFin t) ∷ ds) = comes s ds
comes s (Duty.Send (SendDuty.Fin t) ∷ ds) = comes s ds
comes s (Duty.Silent (SilentDuty.Timer t) ∷ ds) = comes s ds
comes s _ = false

-- what `comes` says holds behind each of the side's looks
abbrev pub IsReady : Side → List Duty → Type 0
IsReady s [] = Unit {0}
IsReady s (Duty.Step (StepDuty.Look t) ∷ ds) = (same_side t s ≡ true → comes s ds ≡ true) × IsReady s ds
IsReady s (d ∷ ds) = IsReady s ds

pub start_ready : (s : Side) → IsReady s start_of_turn
start_ready A = (λ is. refl, (λ is. absurd (false≢true is), tt))
start_ready B = (λ is. absurd (false≢true is), (λ is. refl, tt))

pub ready_rest : (s : Side) (d : Duty) (ds : List Duty) → IsReady s (d ∷ ds) → IsReady s ds
ready_rest s (Duty.Step (StepDuty.Look t)) ds h = h.1
ready_rest s _ ds h = h

-- ---- each duty

-- any other one is none of those
abbrev pub IsOther : Duty → Type 0
IsOther d = (s : Side) (ds : List Duty) → comes s (d ∷ ds) ≡ false

pub mild_or : (d : Duty) → MayNotLook d → IsMild d ⊎ IsOther d
mild_or (Duty.Ask (AskDuty.Window s)) other = inl tt
mild_or (Duty.Send (SendDuty.Update s)) other = inl tt
mild_or (Duty.Ask (AskDuty.LeaveNoted s)) other = inl tt
mild_or (Duty.Send (SendDuty.ResetNoted s)) other = inl tt
mild_or (Duty.Ask (AskDuty.Leave s)) other = inl tt
mild_or (Duty.Ask (AskDuty.Dead s)) other = inl tt
mild_or (Duty.Send (SendDuty.Syn s)) other = inl tt
mild_or (Duty.Send (SendDuty.FastClose s)) other = inl tt
mild_or (Duty.Send (SendDuty.Notice s)) other = inl tt
mild_or (Duty.Step (StepDuty.Data s)) other = inl tt
mild_or (Duty.Send (SendDuty.DataFin s)) other = inl tt
mild_or (Duty.Send (SendDuty.Fin s)) other = inl tt
mild_or (Duty.Silent (SilentDuty.Timer s)) other = inl tt
mild_or (Duty.Step (StepDuty.Look s)) other = absurd other
mild_or _ other = inr (λ s ds. refl)

-- a duty that comes to nothing is passed; where it is the one that notes, nothing was to be noted
pub mild_passed : (d : Duty) → IsMild d → (s : Side) (ds : List Duty) → comes s (d ∷ ds) ≡ true → (comes s ds ≡ true) ⊎ (d ≡ Duty.Send (SendDuty.Notice s))
mild_passed (Duty.Send (SendDuty.Notice A)) mild A ds h = inr refl
mild_passed (Duty.Send (SendDuty.Notice B)) mild B ds h = inr refl
mild_passed (Duty.Send (SendDuty.Notice A)) mild B ds h = inl h
mild_passed (Duty.Send (SendDuty.Notice B)) mild A ds h = inl h
mild_passed (Duty.Ask (AskDuty.Window t)) mild s ds h = inl h
mild_passed (Duty.Send (SendDuty.Update t)) mild s ds h = inl h
mild_passed (Duty.Ask (AskDuty.LeaveNoted t)) mild s ds h = inl h
mild_passed (Duty.Send (SendDuty.ResetNoted t)) mild s ds h = inl h
mild_passed (Duty.Ask (AskDuty.Leave t)) mild s ds h = inl h
mild_passed (Duty.Ask (AskDuty.Dead t)) mild s ds h = inl h
mild_passed (Duty.Send (SendDuty.Syn t)) mild s ds h = inl h
mild_passed (Duty.Send (SendDuty.FastClose t)) mild s ds h = inl h
mild_passed (Duty.Step (StepDuty.Data t)) mild s ds h = inl h
mild_passed (Duty.Send (SendDuty.DataFin t)) mild s ds h = inl h
mild_passed (Duty.Send (SendDuty.Fin t)) mild s ds h = inl h
mild_passed (Duty.Silent (SilentDuty.Timer t)) mild s ds h = inl h
mild_passed _ mild s ds h = absurd mild

-- ---- templates have no look

module _ (q : Side) where
  heard_ready : (s : Side) (from count : ℕ) (ds : List Duty) → IsReady q ds → IsReady q (heard_and s from count ds)
  heard_ready s from zero ds h = h
  heard_ready s from (suc count) ds h = heard_ready s (from + 1) count ds h

  template_ready : (joined : Bool) (s : Side) (count : ℕ) (m : Meaning) → IsReady q (template_by joined s count m)
  template_ready true s count (Meaning.Accepts acknowledged) = tt
  template_ready false s count (Meaning.Accepts acknowledged) = tt
  template_ready joined s count (Meaning.Taken position acknowledged) = heard_ready s 0 count (payload_came s) tt
  template_ready joined s count _ = tt

  judged_ready : (joined : Bool) (s : Side) (count : ℕ) (verdict : Judged) → IsReady q (template_judged joined s count verdict)
  judged_ready joined s count (Judged.As meaning) = template_ready joined s count meaning
  judged_ready joined s count _ = tt

  died_ready : (dead_a dead_b : Bool) → IsReady q ((if dead_a then [] else Duty.Ask (AskDuty.Leave A) ∷ []) ++ ((if dead_b then [] else Duty.Ask (AskDuty.Leave B) ∷ []) ++ rest_of_turn))
  died_ready true true = tt
  died_ready true false = tt
  died_ready false true = tt
  died_ready false false = tt

  fired_ready : (sixth : Bool) (s : Side) → IsReady q (template_fired sixth s)
  fired_ready = elim [ true ↦ λ s. tt | false ↦ λ s. tt ]

module _ {C : Type 0} (q : Side) where
  copy_ready : (s : Side) (o : Option HeardSegment) (p : PathState C) → IsReady q (copy_heard s o p).agenda
  copy_ready s None p = tt
  copy_ready s (Some segment) p =
      let h = options_heard (end_at s p) segment in let joined = is_joined p.profile in judged_ready q joined s (length (items_of joined s h)) (judged_in joined s h (end_at s p))

  line_ready : (action : LineAction) (p : PathState C) → IsReady q (after_line action p).agenda
  line_ready LineAction.Die p = died_ready q (is_dead p.a.tcp.state) (is_dead p.b.tcp.state)
  line_ready _ p = tt

  -- a join is begun or not, with these to be done
  begun_ready : (r : Reply) (dead living : List Duty) (p : PathState C) → IsReady q dead → IsReady q living → IsReady q (join_begun r dead living p).agenda
  begun_ready r dead living p x y =
      elim (is_never r) as (λ b. IsReady q (if b then goes_on A (never_joined r (end_at A p)) dead p else goes_on A (opened_by (keys_begun r) (end_at A p)) living p).agenda)
      [ true ↦ x | false ↦ y ]

  event_ready : (k : Codec C) (o : Option Event) (r : Reply) (p : PathState C) → IsReady q (happens_if k o r p).agenda
  event_ready k None r p = tt
  event_ready k (Some (Event.Joins tick)) r p = begun_ready r (leaves A) (emission A) (record (at_tick tick p) { joined_at = None }) tt tt
  event_ready k (Some (Event.Takes line)) r p = line_ready line.action (record (at_tick line.tick p) { lines = tail_of p.lines })
  event_ready k (Some (Event.Arrives due)) r p = copy_ready due.to (heard_in k due.to (arriving due p.link) p) (record (at_tick due.tick p) { link = after_delivery due p.link })
  event_ready k (Some (Event.Fires s tick)) r p = fired_ready q (is_sixth (end_at s (at_tick tick p)).tcp) s

  break_ready : (k : Codec C) (s : Side) (reason : ℕ) (r : Reply) (p : PathState C) → IsReady q (answered_break k s reason r p).agenda
  break_ready k s reason r p = elim (end_at s p).treated.asked as (λ b. IsReady q (if b then answered_ack_out s r (resets s reason) p else reset_on k s (Some reason) (leaves s) p).agenda)
      [ true ↦ tt | false ↦ tt ]

  -- after a fall the send book is told, and a path may be broken
  fell_ready : (s : Side) (r : Reply) (p : PathState C) → IsReady q (left p) → IsReady q (replaced (Duty.Ask (AskDuty.GoIdentity s)) p.agenda) → IsReady q (fell_duties s r p)
  fell_ready s (Reply.Control (ControlReply.Verdict (Verdict.Went Mode.Identity))) p left_ready told = told
  fell_ready s (Reply.Control (ControlReply.Verdict (Verdict.BreakPath reason))) p left_ready told =
      if_so (IsReady q) (end_at s p).treated.asked (breaks s reason) (resets s reason)
      tt tt
  fell_ready s _ p left_ready told = left_ready

  module _ (k : Codec C) (s : Side) (r : Reply) (p : PathState C) (same : IsReady q p.agenda) (left_ready : IsReady q (left p)) (told : IsReady q (replaced (Duty.Ask (AskDuty.GoIdentity s)) p.agenda)) where
    data_ready : (o : Option Record) → IsReady q (answered_data k s o r p).agenda
    data_ready (Some record_unsent) = same
    data_ready None = elim (grant_in r) as (λ o. IsReady q (answered_grant s o r p).agenda) [ Some grant ↦ same | None ↦ left_ready ]

    piece_ready : (o : Option Piece) (taken : Bool) → IsReady q (answered_piece s o taken p).agenda
    piece_ready (Some piece) true = same
    piece_ready (Some piece) false = tt
    piece_ready None taken = tt

    plain_ack_ready : IsReady q (answered_plain_ack k s r p).agenda
    plain_ack_ready =
        elim (breaks_by_ack p.profile (end_at s p)) as (λ b. IsReady q (if b then answered_break k s 6 r p else goes_on s (with_plain_ack (after_fell events.PlainAck r (end_at s p))) (fell_duties s r p) p).agenda) [
          | true ↦ break_ready k s 6 r p
          | false ↦ fell_ready s r p left_ready told
        ]

    key_ready : (o : Option ℕ) → IsReady q (answered_peer_key s o r p).agenda
    key_ready = elim [ None ↦ fell_ready s r p left_ready told | Some key ↦ left_ready ]

    keys_ready : (o : Option KeyPair) → IsReady q (answered_opened s o r p).agenda
    keys_ready = elim [ None ↦ fell_ready s r p left_ready told | Some keys ↦ left_ready ]

    plain_fin_ready : (set : Bool) → IsReady q (answered_plain_fin s set p).agenda
    plain_fin_ready = elim [ true ↦ left_ready | false ↦ tt ]

    fin_ready : (set : Bool) → IsReady q (answered_fin_heard s set p).agenda
    fin_ready = elim [ true ↦ left_ready | false ↦ tt ]

    module _ (index : ℕ) (acked_ready : IsReady q (replaced (Duty.Ask (AskDuty.AckHeard s)) p.agenda)) (failed_ready : IsReady q (replaced (Duty.Ask (AskDuty.FailHeard s)) p.agenda)) where
      told_ready : (b : Bool) → IsReady q (told_next s b p)
      told_ready = elim [ true ↦ acked_ready | false ↦ left_ready ]

      mapping_ready : IsReady q (answered_mapping k s r p).agenda
      mapping_ready = elim (is_clash (end_at s p)) as (λ b. IsReady q (if b then answered_break k s 1 r p else goes_on s (with_learned (after_fell events.MappingHeard r (end_at s p))) (fell_duties s r p) p).agenda) [
        | true ↦ break_ready k s 1 r p
        | false ↦ fell_ready s r p left_ready told
      ]

      stopped_ready : (stopped : Bool) → IsReady q (if stopped then stops s else left p)
      stopped_ready = elim [ true ↦ tt | false ↦ left_ready ]

      item_ready : (o : Option Heard) → IsReady q (answered_item k s o r p).agenda
      item_ready (Some (Heard.DataAck next window)) = told_ready _
      item_ready (Some (Heard.Mapping fin)) = mapping_ready
      item_ready (Some (Heard.DataFin place)) = fell_ready s r p left_ready told
      item_ready (Some (Heard.InfiniteMapping place position)) = fell_ready s r p left_ready told
      item_ready (Some Heard.Fail) = fail_answered_so (λ (x : PathState C). IsReady q x.agenda) s r p failed_ready (fell_ready s r p left_ready told)
      item_ready (Some (Heard.FastClose key)) = stopped_ready (is_stopped_by r)
      item_ready (Some Heard.Dss) = left_ready
      item_ready _ = left_ready

  join_ready : (s : Side) (keys : Option KeyPair) (asked : Option JoinSyn) (r : Reply) (ds : List Duty) (p : PathState C) → IsReady q ds → IsReady q (join_taken s keys asked r (with_agenda (Duty.Ask (AskDuty.JoinHeard s) ∷ ds) p)).agenda
  join_ready s None (Some asked) r ds p a = a
  join_ready s None None r ds p a = a
  join_ready s (Some keys) None r ds p a = a
  join_ready s (Some keys) (Some asked) r ds p a = a

  pub answered_ready : (k : Codec C) (d : Duty) (ds : List Duty) (r : Reply) (p : PathState C) → IsReady q (d ∷ ds) → IsReady q (answered k d r (with_agenda (d ∷ ds) p)).agenda
  answered_ready k (Duty.Step StepDuty.Events) ds r p h = event_ready k (next_event p) r (with_agenda ((Duty.Step StepDuty.Events) ∷ ds) p)
  answered_ready k Duty.End ds r p h = tt
  answered_ready k (Duty.Ask AskDuty.JoinAgain) ds r p h = begun_ready r (Duty.Ask (AskDuty.Leave A) ∷ ds) ds (with_agenda ((Duty.Ask AskDuty.JoinAgain) ∷ ds) p) h h
  answered_ready k (Duty.Step (StepDuty.Look s)) ds r p h = h.1
  answered_ready k (Duty.Step (StepDuty.Data s)) ds r p h = data_ready k s r (with_agenda (Duty.Step (StepDuty.Data s) ∷ ds) p) h h h (first_unsent (end_at s p))
  answered_ready k (Duty.Silent (SilentDuty.Timer s)) ds r p h = h
  answered_ready k (Duty.Ask (AskDuty.PlainHandshake s)) ds r p h = fell_ready s r (with_agenda (Duty.Ask (AskDuty.PlainHandshake s) ∷ ds) p) h h
  answered_ready k (Duty.Ask (AskDuty.PeerKey s)) ds r p h = key_ready k s r (with_agenda (Duty.Ask (AskDuty.PeerKey s) ∷ ds) p) h h h (key_heard (end_at s p).treated.items)
  answered_ready k (Duty.Ask (AskDuty.JoinHeard s)) ds r p h = join_ready s (keys_begun r) (asked_at s p) r ds p h
  answered_ready k (Duty.Ask (AskDuty.Opened s)) ds r p h = keys_ready k s r (with_agenda (Duty.Ask (AskDuty.Opened s) ∷ ds) p) h h h (keys_heard (end_at s p).treated.items)
  answered_ready k (Duty.Step (StepDuty.Heard s index)) ds r p h = item_ready k s r (with_agenda (Duty.Step (StepDuty.Heard s index) ∷ ds) p) h h h index h h (item_of index (end_at s p))
  answered_ready k (Duty.Ask (AskDuty.AckHeard s)) ds r p h = fell_ready s r (with_agenda (Duty.Ask (AskDuty.AckHeard s) ∷ ds) p) h h
  answered_ready k (Duty.Ask (AskDuty.FailHeard s)) ds r p h = fell_ready s r (with_agenda (Duty.Ask (AskDuty.FailHeard s) ∷ ds) p) h h
  answered_ready k (Duty.Step (StepDuty.PlainAck s)) ds r p h = plain_ack_ready k s r (with_agenda (Duty.Step (StepDuty.PlainAck s) ∷ ds) p) h h h
  answered_ready k (Duty.Ask (AskDuty.PlainData s)) ds r p h = fell_ready s r (with_agenda (Duty.Ask (AskDuty.PlainData s) ∷ ds) p) h h
  answered_ready k (Duty.Step (StepDuty.Unmapped s)) ds r p h = break_ready k s 6 r (with_agenda (Duty.Step (StepDuty.Unmapped s) ∷ ds) p)
  answered_ready k (Duty.Ask (AskDuty.SubflowFin s)) ds r p h = plain_fin_ready k s r (with_agenda (Duty.Ask (AskDuty.SubflowFin s) ∷ ds) p) h h h (is_fin_set r)
  answered_ready k (Duty.Ask (AskDuty.Edge s)) ds r p h = piece_ready k s r (with_agenda (Duty.Ask (AskDuty.Edge s) ∷ ds) p) h h h (piece_of s p) (is_placed r)
  answered_ready k (Duty.Ask (AskDuty.CheckFailed s)) ds r p h = fell_ready s r (with_agenda (Duty.Ask (AskDuty.CheckFailed s) ∷ ds) p) h h
  answered_ready k (Duty.Ask (AskDuty.HeardFin s index)) ds r p h = fin_ready k s r (with_agenda (Duty.Ask (AskDuty.HeardFin s index) ∷ ds) p) h h h (is_fin_set r)
  answered_ready k (Duty.Ask (AskDuty.BreakAck s reason)) ds r p h = tt
  answered_ready k (Duty.Send (SendDuty.BreakReset s reason)) ds r p h = tt
  answered_ready k _ ds r p h = h

module _ {C : Type 0} where
  -- ---- the announcement stays ahead until it was made

  data_comes : (k : Codec C) (s t : Side) (first : Option Record) (ds : List Duty) (r : Reply) (p : PathState C) → comes s ds ≡ true
      → comes s (answered_data k t first r (with_agenda (Duty.Step (StepDuty.Data t) ∷ ds) p)).agenda ≡ true
  data_comes k s t (Some record_of) ds r p h = h
  data_comes k s t None ds r p h = elim (grant_in r) as (λ grant. comes s (answered_grant t grant r (with_agenda (Duty.Step (StepDuty.Data t) ∷ ds) p)).agenda ≡ true)
      [ None ↦ h | Some grant ↦ h ]

  pub mild_comes : (k : Codec C) (d : Duty) → IsMild d → (s : Side) (ds : List Duty) (r : Reply) (p : PathState C) → comes s (d ∷ ds) ≡ true
      → comes s (answered k d r (with_agenda (d ∷ ds) p)).agenda ≡ true
  mild_comes k (Duty.Ask (AskDuty.Window t)) mild s ds r p h = h
  mild_comes k (Duty.Send (SendDuty.Update t)) mild s ds r p h = h
  mild_comes k (Duty.Ask (AskDuty.LeaveNoted t)) mild s ds r p h = h
  mild_comes k (Duty.Send (SendDuty.ResetNoted t)) mild s ds r p h = h
  mild_comes k (Duty.Ask (AskDuty.Leave t)) mild s ds r p h = h
  mild_comes k (Duty.Ask (AskDuty.Dead t)) mild s ds r p h = h
  mild_comes k (Duty.Send (SendDuty.Syn t)) mild s ds r p h = h
  mild_comes k (Duty.Send (SendDuty.FastClose t)) mild s ds r p h = h
  mild_comes k (Duty.Send (SendDuty.Notice t)) mild s ds r p h = h
  mild_comes k (Duty.Step (StepDuty.Data t)) mild s ds r p h = data_comes k s t (first_unsent (end_at t p)) ds r p h
  mild_comes k (Duty.Send (SendDuty.DataFin t)) mild s ds r p h = h
  mild_comes k (Duty.Send (SendDuty.Fin t)) mild s ds r p h = h
  mild_comes k (Duty.Silent (SilentDuty.Timer t)) mild s ds r p h = h
  mild_comes k _ mild s ds r p h = absurd mild

  -- none of them is the turn's last step
  pub mild_goes_on : (k : Codec C) (d : Duty) → IsMild d → (p : PathState C) → stands d p ≡ true → ends_turn (ask_for k d p) ≡ false
  mild_goes_on k (Duty.Ask (AskDuty.Window t)) mild p on = refl
  mild_goes_on k (Duty.Ask (AskDuty.LeaveNoted t)) mild p on = refl
  mild_goes_on k (Duty.Ask (AskDuty.Leave t)) mild p on = refl
  mild_goes_on k (Duty.Ask (AskDuty.Dead t)) mild p on = refl
  mild_goes_on k (Duty.Step (StepDuty.Data t)) mild p on = elim (first_unsent (end_at t p)) as (λ o. ends_turn (data_ask k t o p) ≡ false) [ None ↦ refl | Some r ↦ refl ]
  mild_goes_on k (Duty.Send (SendDuty.Update t)) mild p on = refl
  mild_goes_on k (Duty.Send (SendDuty.ResetNoted t)) mild p on = refl
  mild_goes_on k (Duty.Send (SendDuty.Syn t)) mild p on = refl
  mild_goes_on k (Duty.Send (SendDuty.FastClose t)) mild p on = refl
  mild_goes_on k (Duty.Send (SendDuty.Notice t)) mild p on = refl
  mild_goes_on k (Duty.Send (SendDuty.DataFin t)) mild p on = refl
  mild_goes_on k (Duty.Send (SendDuty.Fin t)) mild p on = refl
  mild_goes_on k (Duty.Silent silent) mild p on = absurd (false≢true on)
  mild_goes_on k _ mild p on = absurd mild
