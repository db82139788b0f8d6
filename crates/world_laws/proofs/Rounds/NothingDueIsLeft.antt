-- A turn of a path is over only where nothing is due before the round's end.
--
-- The shape of an agenda: a predicate on the list of duties by cases on the first one, with `Ahead` for what must still
-- come; answers are spoken of at `with_agenda (d ∷ ds) p`, where all computes, and `p` is that by eta
-- (`proofs/Rounds/NothingDueIsLeft`).
use Rattle.world_laws.proofs.Words.{◌≡◌, refl, sym, subst, ℕ, zero, suc, ◌+◌, inl, inr, ◌⊎◌, Bool, true, false, if◌then◌else◌, Option, Some, None, List, []}
use Rattle.world_laws.proofs.Words.{◌∷◌, ◌++◌, length, is_some, true≢false, Verdict, Mode, Side, A, B, JoinSyn, ControlReply, Record, is_dead, Meaning}
use Rattle.world_laws.proofs.Words.{is_sixth, arriving, after_delivery, HeardSegment, LineAction, Piece, rest_of_turn, emission, heard_and, payload_came}
use Rattle.world_laws.proofs.Words.{leaves, resets, stops, start_of_turn, Duty, SendDuty, StepDuty, AskDuty, SilentDuty, Heard, KeyPair, replaced, key_heard}
use Rattle.world_laws.proofs.Words.{keys_heard, Reply, tail_of, Codec, stands, passed, answered, answered_ack_out, at_tick, PathState, end_at, goes_on}
use Rattle.world_laws.proofs.Words.{with_agenda, left, settled, takes, items_of, options_heard, judged_in, template_by, template_judged, heard_in, copy_heard}
use Rattle.world_laws.proofs.Words.{reset_on, answered_break, answered_data, answered_grant, first_unsent, grant_in, Judged, next_event, after_line, happens_if}
use Rattle.world_laws.proofs.Words.{join_begun, never_joined, asked_at, is_never, join_taken, keys_begun, opened_by, is_joined, template_fired, piece_of}
use Rattle.world_laws.proofs.Words.{is_placed, answered_piece, answered_plain_fin, answered_fin_heard, is_fin_set, is_clash, with_learned, told_next}
use Rattle.world_laws.proofs.Words.{answered_mapping, answered_item, item_of, after_fell, fell_duties, answered_plain_ack, with_plain_ack, breaks_by_ack}
use Rattle.world_laws.proofs.Words.{answered_peer_key, answered_opened, is_stopped_by, if_so}
use Rattle.fallback_state.specs.declared.fall.Event.TheVariants as events
use Rattle.path_core.specs.declared.events.Event.{Event}
use Rattle.path_agenda.specs.Agenda.{breaks}
use Rattle.world_laws.proofs.Falls.FailedChecks.{fail_answered_so}

-- the events of the turn, and its end, are ahead
abbrev pub Ahead : List Duty → Type 0
Ahead [] = ⊥
Ahead ((Duty.Step StepDuty.Events) ∷ ds) = ds ≡ Duty.End ∷ []
Ahead (Duty.End ∷ ds) = ⊥
Ahead (d ∷ ds) = Ahead ds

nothing_next : (o : Option Event) → is_some o ≡ false → o ≡ None
nothing_next = elim [ None ↦ λ is. refl | Some event ↦ λ is. absurd (true≢false is) ]

heard_ahead : (s : Side) (from count : ℕ) (ds : List Duty) → Ahead ds → Ahead (heard_and s from count ds)
heard_ahead s from zero ds h = h
heard_ahead s from (suc count) ds h = heard_ahead s (from + 1) count ds h

template_ahead : (joined : Bool) (s : Side) (count : ℕ) (m : Meaning) → Ahead (template_by joined s count m)
template_ahead true s count (Meaning.Accepts acknowledged) = refl
template_ahead false s count (Meaning.Accepts acknowledged) = refl
template_ahead joined s count (Meaning.Taken position acknowledged) = heard_ahead s 0 count (payload_came s) refl
template_ahead joined s count _ = refl

judged_ahead : (joined : Bool) (s : Side) (count : ℕ) (verdict : Judged) → Ahead (template_judged joined s count verdict)
judged_ahead joined s count (Judged.As meaning) = template_ahead joined s count meaning
judged_ahead joined s count _ = refl

died_ahead : (dead_a dead_b : Bool) → Ahead ((if dead_a then [] else Duty.Ask (AskDuty.Leave A) ∷ []) ++ ((if dead_b then [] else Duty.Ask (AskDuty.Leave B) ∷ []) ++ rest_of_turn))
died_ahead true true = refl
died_ahead true false = refl
died_ahead false true = refl
died_ahead false false = refl

fired_ahead : (sixth : Bool) (s : Side) → Ahead (template_fired sixth s)
fired_ahead = elim [ true ↦ λ s. refl | false ↦ λ s. refl ]

with_ahead : {X : Type 0} (ds : List Duty) → Ahead ds ⊎ ⊥ → (Ahead ds → X) → X
with_ahead ds (inl ahead) f = f ahead
with_ahead ds (inr never) f = absurd never

module _ {C : Type 0} where
  -- only its end is, and nothing is due
  abbrev pub IsLast : List Duty → PathState C → Type 0
  IsLast [] p = next_event p ≡ None
  IsLast (Duty.End ∷ ds) p = (ds ≡ []) × (next_event p ≡ None)
  IsLast (d ∷ ds) p = ⊥

  abbrev pub Shaped : List Duty → PathState C → Type 0
  Shaped ds p = Ahead ds ⊎ IsLast ds p

  -- ---- passing

  onward : (ds : List Duty) (q : PathState C) → Ahead ds ⊎ ⊥ → Shaped ds q
  onward ds q (inl ahead) = inl ahead
  onward ds q (inr never) = absurd never

  past_events : (ds : List Duty) (p : PathState C) → next_event p ≡ None → ds ≡ Duty.End ∷ [] → Shaped ds p
  past_events ds p none is = subst (λ xs. Shaped xs p) (sym is) (inr (refl, none))

  next_shaped : (d : Duty) (ds : List Duty) (p : PathState C) → Shaped (d ∷ ds) p → stands d p ≡ false → Shaped ds (passed d p)
  next_shaped (Duty.Step StepDuty.Events) ds p (inl is) no_more = past_events ds p (nothing_next (next_event p) no_more) is
  next_shaped (Duty.Step StepDuty.Events) ds p (inr never) no_more = absurd never
  next_shaped Duty.End ds p h no_more = absurd (true≢false no_more)
  next_shaped (Duty.Ask AskDuty.JoinAgain) ds p h no_more = onward ds _ h
  next_shaped (Duty.Send (SendDuty.Update s)) ds p h no_more = onward ds _ h
  next_shaped (Duty.Silent (SilentDuty.Timer s)) ds p h no_more = onward ds _ h
  next_shaped _ ds p h no_more = onward ds _ h

  same_last : (ds : List Duty) (p : PathState C) → IsLast ds p → IsLast ds (with_agenda ds p)
  same_last [] p h = h
  same_last (Duty.End ∷ ds) p h = h
  same_last (Duty.Step (StepDuty.Look s) ∷ ds) p h = absurd h
  same_last (d ∷ ds) p h = (elim d as (λ d. IsLast (d ∷ ds) p → IsLast (d ∷ ds) (with_agenda (d ∷ ds) p)) [ Duty.End ↦ λ h. h | _ ↦ λ h. absurd h ]) h

  settled_shaped : (ds : List Duty) (p : PathState C) → Shaped ds p → Shaped (settled ds p).agenda (settled ds p)
  settled_shaped [] p h = elim h [ inl never ↦ absurd never | inr none ↦ inr none ]
  settled_shaped (d ∷ ds) p h = by (stands d p) refl (λ no_more. settled_shaped ds (passed d p) (next_shaped d ds p h no_more))
    where
      by : (b : Bool) → stands d p ≡ b → (stands d p ≡ false → Shaped (settled ds (passed d p)).agenda (settled ds (passed d p)))
          → Shaped (if b then with_agenda (d ∷ ds) p else settled ds (passed d p)).agenda (if b then with_agenda (d ∷ ds) p else settled ds (passed d p))
      by true is rest = elim h [ inl ahead ↦ inl ahead | inr last ↦ inr (same_last (d ∷ ds) p last) ]
      by false is rest = rest is

  -- ---- replies

  copy_ahead : (s : Side) (o : Option HeardSegment) (p : PathState C) → Ahead (copy_heard s o p).agenda
  copy_ahead s None p = refl
  copy_ahead s (Some segment) p =
      let h = options_heard (end_at s p) segment in let joined = is_joined p.profile in judged_ahead joined s (length (items_of joined s h)) (judged_in joined s h (end_at s p))

  line_ahead : (action : LineAction) (p : PathState C) → Ahead (after_line action p).agenda
  line_ahead LineAction.Die p = died_ahead (is_dead p.a.tcp.state) (is_dead p.b.tcp.state)
  line_ahead _ p = refl

  -- a join is begun or not, with these to be done
  begun_ahead : (r : Reply) (dead living : List Duty) (p : PathState C) → Ahead dead → Ahead living → Ahead (join_begun r dead living p).agenda
  begun_ahead r dead living p x y = elim (is_never r) as (λ b. Ahead (if b then goes_on A (never_joined r (end_at A p)) dead p else goes_on A (opened_by (keys_begun r) (end_at A p)) living p).agenda)
      [ true ↦ x | false ↦ y ]

  event_ahead : (k : Codec C) (o : Option Event) (r : Reply) (p : PathState C) → Ahead (happens_if k o r p).agenda
  event_ahead k None r p = refl
  event_ahead k (Some (Event.Joins tick)) r p = begun_ahead r (leaves A) (emission A) (record (at_tick tick p) { joined_at = None }) refl refl
  event_ahead k (Some (Event.Takes line)) r p = line_ahead line.action (record (at_tick line.tick p) { lines = tail_of p.lines })
  event_ahead k (Some (Event.Arrives due)) r p = copy_ahead due.to (heard_in k due.to (arriving due p.link) p) (record (at_tick due.tick p) { link = after_delivery due p.link })
  event_ahead k (Some (Event.Fires s tick)) r p = fired_ahead (is_sixth (end_at s (at_tick tick p)).tcp) s

  break_ahead : (k : Codec C) (s : Side) (reason : ℕ) (r : Reply) (p : PathState C) → Ahead (answered_break k s reason r p).agenda
  break_ahead k s reason r p = elim (end_at s p).treated.asked as (λ b. Ahead (if b then answered_ack_out s r (resets s reason) p else reset_on k s (Some reason) (leaves s) p).agenda)
      [ true ↦ refl | false ↦ refl ]

  -- after a fall the send book is told, and a path may be broken
  fell_ahead : (s : Side) (r : Reply) (p : PathState C) → Ahead (left p) → Ahead (replaced (Duty.Ask (AskDuty.GoIdentity s)) p.agenda) → Ahead (fell_duties s r p)
  fell_ahead s (Reply.Control (ControlReply.Verdict (Verdict.Went Mode.Identity))) p left_ahead told = told
  fell_ahead s (Reply.Control (ControlReply.Verdict (Verdict.BreakPath reason))) p left_ahead told =
      if_so Ahead (end_at s p).treated.asked (breaks s reason) (resets s reason)
      refl refl
  fell_ahead s _ p left_ahead told = left_ahead

  module _ (k : Codec C) (s : Side) (r : Reply) (p : PathState C) (same : Ahead p.agenda) (left_ahead : Ahead (left p)) (told : Ahead (replaced (Duty.Ask (AskDuty.GoIdentity s)) p.agenda)) where
    data_ahead : (o : Option Record) → Ahead (answered_data k s o r p).agenda
    data_ahead (Some record_unsent) = same
    data_ahead None = elim (grant_in r) as (λ o. Ahead (answered_grant s o r p).agenda) [ Some grant ↦ same | None ↦ left_ahead ]

    piece_ahead : (o : Option Piece) (taken : Bool) → Ahead (answered_piece s o taken p).agenda
    piece_ahead (Some piece) true = same
    piece_ahead (Some piece) false = refl
    piece_ahead None taken = refl

    plain_ack_ahead : Ahead (answered_plain_ack k s r p).agenda
    plain_ack_ahead =
        elim (breaks_by_ack p.profile (end_at s p)) as (λ b. Ahead (if b then answered_break k s 6 r p else goes_on s (with_plain_ack (after_fell events.PlainAck r (end_at s p))) (fell_duties s r p) p).agenda) [
          | true ↦ break_ahead k s 6 r p
          | false ↦ fell_ahead s r p left_ahead told
        ]

    key_ahead : (o : Option ℕ) → Ahead (answered_peer_key s o r p).agenda
    key_ahead = elim [ None ↦ fell_ahead s r p left_ahead told | Some key ↦ left_ahead ]

    keys_ahead : (o : Option KeyPair) → Ahead (answered_opened s o r p).agenda
    keys_ahead = elim [ None ↦ fell_ahead s r p left_ahead told | Some keys ↦ left_ahead ]

    plain_fin_ahead : (set : Bool) → Ahead (answered_plain_fin s set p).agenda
    plain_fin_ahead = elim [ true ↦ left_ahead | false ↦ refl ]

    fin_ahead : (set : Bool) → Ahead (answered_fin_heard s set p).agenda
    fin_ahead = elim [ true ↦ left_ahead | false ↦ refl ]

    module _ (index : ℕ) (acked_ahead : Ahead (replaced (Duty.Ask (AskDuty.AckHeard s)) p.agenda)) (failed_ahead : Ahead (replaced (Duty.Ask (AskDuty.FailHeard s)) p.agenda)) where
      told_ahead : (b : Bool) → Ahead (told_next s b p)
      told_ahead = elim [ true ↦ acked_ahead | false ↦ left_ahead ]

      mapping_ahead : Ahead (answered_mapping k s r p).agenda
      mapping_ahead =
          elim (is_clash (end_at s p)) as (λ b. Ahead (if b then answered_break k s 1 r p else goes_on s (with_learned (after_fell events.MappingHeard r (end_at s p))) (fell_duties s r p) p).agenda)
          [ true ↦ break_ahead k s 1 r p | false ↦ fell_ahead s r p left_ahead told ]

      stopped_ahead : (stopped : Bool) → Ahead (if stopped then stops s else left p)
      stopped_ahead = elim [ true ↦ refl | false ↦ left_ahead ]

      item_ahead : (o : Option Heard) → Ahead (answered_item k s o r p).agenda
      item_ahead (Some (Heard.DataAck next window)) = told_ahead _
      item_ahead (Some (Heard.Mapping fin)) = mapping_ahead
      item_ahead (Some (Heard.DataFin place)) = fell_ahead s r p left_ahead told
      item_ahead (Some (Heard.InfiniteMapping place position)) = fell_ahead s r p left_ahead told
      item_ahead (Some Heard.Fail) = fail_answered_so (λ (x : PathState C). Ahead x.agenda) s r p failed_ahead (fell_ahead s r p left_ahead told)
      item_ahead (Some (Heard.FastClose key)) = stopped_ahead (is_stopped_by r)
      item_ahead (Some Heard.Dss) = left_ahead
      item_ahead _ = left_ahead

  join_ahead : (s : Side) (keys : Option KeyPair) (asked : Option JoinSyn) (r : Reply) (ds : List Duty) (p : PathState C) → Ahead ds → Ahead (join_taken s keys asked r (with_agenda (Duty.Ask (AskDuty.JoinHeard s) ∷ ds) p)).agenda
  join_ahead s None (Some asked) r ds p a = a
  join_ahead s None None r ds p a = a
  join_ahead s (Some keys) None r ds p a = a
  join_ahead s (Some keys) (Some asked) r ds p a = a

  from_left : (ds : List Duty) (q : PathState C) → Ahead ds ⊎ ⊥ → Shaped ds q
  from_left ds q h = onward ds q h

  answered_shaped : (k : Codec C) (d : Duty) (ds : List Duty) (r : Reply) (p : PathState C) → Shaped (d ∷ ds) (with_agenda (d ∷ ds) p)
      → Shaped (answered k d r (with_agenda (d ∷ ds) p)).agenda (answered k d r (with_agenda (d ∷ ds) p))
  answered_shaped k (Duty.Step StepDuty.Events) ds r p h = inl (event_ahead k (next_event p) r (with_agenda ((Duty.Step StepDuty.Events) ∷ ds) p))
  answered_shaped k Duty.End ds r p (inl never) = absurd never
  answered_shaped k Duty.End ds r p (inr last) = inr last.1
  answered_shaped k (Duty.Ask AskDuty.JoinAgain) ds r p h = with_ahead ds h (λ a. inl (begun_ahead r (Duty.Ask (AskDuty.Leave A) ∷ ds) ds (with_agenda ((Duty.Ask AskDuty.JoinAgain) ∷ ds) p) a a))
  answered_shaped k (Duty.Send (SendDuty.Notice s)) ds r p h = with_ahead ds h (λ a. inl a)
  answered_shaped k (Duty.Step (StepDuty.Data s)) ds r p h = with_ahead ds h (λ a. inl (data_ahead k s r (with_agenda (Duty.Step (StepDuty.Data s) ∷ ds) p) a a a (first_unsent (end_at s p))))
  answered_shaped k (Duty.Silent (SilentDuty.Timer s)) ds r p h = from_left ds _ h
  answered_shaped k (Duty.Ask (AskDuty.PlainHandshake s)) ds r p h = with_ahead ds h (λ a. inl (fell_ahead s r (with_agenda (Duty.Ask (AskDuty.PlainHandshake s) ∷ ds) p) a a))
  answered_shaped k (Duty.Ask (AskDuty.PeerKey s)) ds r p h = with_ahead ds h (λ a. inl (key_ahead k s r (with_agenda (Duty.Ask (AskDuty.PeerKey s) ∷ ds) p) a a a (key_heard (end_at s p).treated.items)))
  answered_shaped k (Duty.Ask (AskDuty.JoinHeard s)) ds r p h = with_ahead ds h (λ a. inl (join_ahead s (keys_begun r) (asked_at s p) r ds p a))
  answered_shaped k (Duty.Ask (AskDuty.Opened s)) ds r p h = with_ahead ds h (λ a. inl (keys_ahead k s r (with_agenda (Duty.Ask (AskDuty.Opened s) ∷ ds) p) a a a (keys_heard (end_at s p).treated.items)))
  answered_shaped k (Duty.Step (StepDuty.Heard s index)) ds r p h = with_ahead ds h (λ a. inl (item_ahead k s r (with_agenda (Duty.Step (StepDuty.Heard s index) ∷ ds) p) a a a index a a (item_of index (end_at s p))))
  answered_shaped k (Duty.Ask (AskDuty.AckHeard s)) ds r p h = with_ahead ds h (λ a. inl (fell_ahead s r (with_agenda (Duty.Ask (AskDuty.AckHeard s) ∷ ds) p) a a))
  answered_shaped k (Duty.Ask (AskDuty.FailHeard s)) ds r p h = with_ahead ds h (λ a. inl (fell_ahead s r (with_agenda (Duty.Ask (AskDuty.FailHeard s) ∷ ds) p) a a))
  answered_shaped k (Duty.Step (StepDuty.PlainAck s)) ds r p h = with_ahead ds h (λ a. inl (plain_ack_ahead k s r (with_agenda (Duty.Step (StepDuty.PlainAck s) ∷ ds) p) a a a))
  answered_shaped k (Duty.Ask (AskDuty.PlainData s)) ds r p h = with_ahead ds h (λ a. inl (fell_ahead s r (with_agenda (Duty.Ask (AskDuty.PlainData s) ∷ ds) p) a a))
  answered_shaped k (Duty.Step (StepDuty.Unmapped s)) ds r p h = inl (break_ahead k s 6 r (with_agenda (Duty.Step (StepDuty.Unmapped s) ∷ ds) p))
  answered_shaped k (Duty.Ask (AskDuty.SubflowFin s)) ds r p h = with_ahead ds h (λ a. inl (plain_fin_ahead k s r (with_agenda (Duty.Ask (AskDuty.SubflowFin s) ∷ ds) p) a a a (is_fin_set r)))
  answered_shaped k (Duty.Ask (AskDuty.Edge s)) ds r p h = with_ahead ds h (λ a. inl (piece_ahead k s r (with_agenda (Duty.Ask (AskDuty.Edge s) ∷ ds) p) a a a (piece_of s p) (is_placed r)))
  answered_shaped k (Duty.Ask (AskDuty.CheckFailed s)) ds r p h = with_ahead ds h (λ a. inl (fell_ahead s r (with_agenda (Duty.Ask (AskDuty.CheckFailed s) ∷ ds) p) a a))
  answered_shaped k (Duty.Ask (AskDuty.HeardFin s index)) ds r p h = with_ahead ds h (λ a. inl (fin_ahead k s r (with_agenda (Duty.Ask (AskDuty.HeardFin s index) ∷ ds) p) a a a (is_fin_set r)))
  answered_shaped k (Duty.Ask (AskDuty.BreakAck s reason)) ds r p h = inl refl
  answered_shaped k (Duty.Send (SendDuty.BreakReset s reason)) ds r p h = inl refl
  answered_shaped k (Duty.Send (SendDuty.Reset s)) ds r p h = with_ahead ds h (λ a. inl a)
  answered_shaped k (Duty.Send (SendDuty.ResetNoted s)) ds r p h = with_ahead ds h (λ a. inl a)
  answered_shaped k (Duty.Ask (AskDuty.Leave s)) ds r p h = with_ahead ds h (λ a. inl a)
  answered_shaped k (Duty.Ask (AskDuty.LeaveNoted s)) ds r p h = with_ahead ds h (λ a. inl a)
  answered_shaped k _ ds r p h = from_left ds _ h

  pub takes_shaped : (k : Codec C) (r : Reply) (p : PathState C) → Shaped p.agenda p → Shaped (takes k r p).agenda (takes k r p)
  takes_shaped k r p h = (elim p.agenda as (λ ds. Shaped ds (with_agenda ds p) → Shaped (takes k r (with_agenda ds p)).agenda (takes k r (with_agenda ds p)))
      [ [] ↦ λ h. settled_shaped [] (with_agenda [] p) h | d ∷ ds ↦ λ h. let q : PathState C = answered k d r (with_agenda (d ∷ ds) p) in settled_shaped q.agenda q (answered_shaped k d ds r p h) ]) h

  pub begun_shaped : (p : PathState C) → Shaped (settled start_of_turn (with_agenda start_of_turn p)).agenda (settled start_of_turn (with_agenda start_of_turn p))
  begun_shaped p = settled_shaped start_of_turn (with_agenda start_of_turn p) (inl refl)

  -- where the turn is over nothing is due
  pub nothing_due : (p : PathState C) → Shaped p.agenda p → p.agenda ≡ [] → next_event p ≡ None
  nothing_due p h over = elim (subst (λ ds. Shaped ds p) over h) [ inl never ↦ absurd never | inr none ↦ none ]
