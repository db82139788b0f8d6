-- An announcement comes into what an end has to note by a look alone, and the end may note it until it goes out.
use Rattle.world_laws.proofs.Words.{◌≡◌, refl, sym, ◌∙◌, ap, subst, ℕ, ◌&&◌, ◌||◌, ◌==◌, not, inl, inr, ◌⊎◌, Bool, true, false, if◌then◌else◌, Option, Some}
use Rattle.world_laws.proofs.Words.{None, List, [], ◌∷◌, ◌++◌, or_cases, both_ways, false≢true, list_any, Side, A, B, KeptMapping, Record, is_dead, EndPhase}
use Rattle.world_laws.proofs.Words.{arriving, after_delivery, HeardSegment, LineAction, emission, leaves, Duty, SendDuty, StepDuty, OwnNotice, AskDuty}
use Rattle.world_laws.proofs.Words.{SilentDuty, Heard, KeyPair, replaced, PeerNotice, Reply, tail_of, Codec, passed, answered, PathEnd, died, is_connected}
use Rattle.world_laws.proofs.Words.{may_note, at_tick, PathState, end_at, goes_on, left, options_heard, after_judged, judged_in, heard_in, copy_heard, told_at}
use Rattle.world_laws.proofs.Words.{answered_break, answered_data, answered_grant, first_unsent, grant_in, next_event, after_line, happens_if, join_begun}
use Rattle.world_laws.proofs.Words.{never_joined, is_never, keys_begun, opened_by, is_joined, is_wrong, mapping_here, forgotten_by, having_sent_fin, is_clash}
use Rattle.world_laws.proofs.Words.{counts, answered_heard, answered_item, item_of, item_passed, heard_passed, breaks_by_ack, with_priority, having_noted}
use Rattle.world_laws.proofs.Words.{after_peer_notice, is_kept, Writes, OnlyAt, EndView, writes, side_of}
use Rattle.std.proofs.Math.Bool.{or-true}
use Rattle.subflow_tcp.specs.States.{after_finish}
use Rattle.path_core.specs.declared.events.Event.{Event}
use Rattle.world_laws.proofs.Falls.FailedChecks.{infinite_came_so, fail_answered_so}
use Rattle.world_laws.proofs.Standby.OneDutyLooks.{MayNotLook}
use Rattle.world_laws.proofs.Writes.Paths.{writes_no_more}
use Rattle.world_laws.proofs.Writes.Steps.{both_ends, unwritten}

-- ---- an end

abbrev pub is_note : ℕ → OwnNotice → Bool
is_note id (OwnNotice.AddAddr other) = other == id
is_note id _ = false

abbrev pub is_queued : ℕ → List OwnNotice → Bool
is_queued id queue = list_any (is_note id) queue

-- the announcement of the id is to be noted
abbrev pub is_noted : ℕ → PathEnd → Bool
is_noted id e = is_queued id e.notices.queue

-- behind all others
pub pushed : (id : ℕ) (queue : List OwnNotice) (notice : OwnNotice) → is_queued id (queue ++ notice ∷ []) ≡ true → (is_queued id queue ≡ true) ⊎ (is_note id notice ≡ true)
pushed id [] notice is = elim (or_cases (is_note id notice) false is) [ inl new ↦ inr new | inr never ↦ absurd (false≢true never) ]
pushed id (first ∷ queue) notice is =
    elim (or_cases (is_note id first) (is_queued id (queue ++ notice ∷ [])) is) [
      | inl here ↦ inl (ap (λ b. b || is_queued id queue) here)
      | inr later ↦ elim (pushed id queue notice later) [ inl old ↦ inl (ap (λ b. is_note id first || b) old ∙ or-true (is_note id first)) | inr new ↦ inr new ]
    ]

-- none is new
abbrev pub EndSheds : PathEnd → PathEnd → Type 0
EndSheds e f = (id : ℕ) → is_noted id f ≡ true → is_noted id e ≡ true

either_end : (b : Bool) (e f g : PathEnd) → EndSheds e f → EndSheds e g → EndSheds e (if b then f else g)
either_end = elim [ true ↦ λ e f g x y. x | false ↦ λ e f g x y. y ]

begun_end : (keys : Option KeyPair) (e : PathEnd) → EndSheds e (opened_by keys e)
begun_end = elim [ None ↦ λ e. λ id h. h | Some keys ↦ λ e. λ id h. h ]

item_end : (s : Side) (item : Heard) (e : PathEnd) → EndSheds e (heard_passed s item e)
item_end s Heard.Dss e = λ id h. h
item_end s (Heard.Mapping fin) e = either_end (counts e) e _ _ (λ id h. h) (λ id h. h)
item_end s (Heard.DataFin place) e = either_end (counts e) e _ _ (λ id h. h) (λ id h. h)
item_end s _ e = λ id h. h

maybe_end : (s : Side) (o : Option Heard) (e : PathEnd) → EndSheds e (item_passed s o e)
maybe_end s None e = λ id h. h
maybe_end s (Some item) e = item_end s item e

checked_end : (checksums : Bool) (o : Option KeptMapping) (e : PathEnd) → EndSheds e (forgotten_by checksums o e)
checked_end checksums None e = λ id h. h
checked_end checksums (Some kept) e = either_end (is_wrong checksums kept e.tcp) e _ _ (λ id h. h) (λ id h. h)

-- a priority and an echo are no announcements
no_new : (id : ℕ) (queue : List OwnNotice) (notice : OwnNotice) → is_note id notice ≡ false → is_queued id (queue ++ notice ∷ []) ≡ true → is_queued id queue ≡ true
no_new id queue notice other is = elim (pushed id queue notice is) [ inl old ↦ old | inr new ↦ absurd (both_ways (is_note id notice) other new) ]

priority_end : (backup : Bool) (e : PathEnd) → EndSheds e (with_priority backup e)
priority_end backup e id = elim (is_dead e.tcp.state) as (λ b. is_queued id (if b then e.notices.queue else e.notices.queue ++ OwnNotice.Prio backup ∷ []) ≡ true → is_noted id e ≡ true)
    [ true ↦ λ h. h | false ↦ λ h. no_new id e.notices.queue (OwnNotice.Prio backup) refl h ]

echo_end : (notice : PeerNotice) (r : Reply) (e : PathEnd) → EndSheds e (after_peer_notice notice r e)
echo_end (PeerNotice.AddAddr other address port hmac) r e id =
    elim (is_kept r) as (λ b. is_queued id (if b then e.notices.queue ++ OwnNotice.AddEcho other address port ∷ [] else e.notices.queue) ≡ true → is_noted id e ≡ true)
    [ true ↦ λ h. no_new id e.notices.queue (OwnNotice.AddEcho other address port) refl h | false ↦ λ h. h ]
echo_end (PeerNotice.AddEcho other) r e id = λ h. h
echo_end (PeerNotice.Removed other) r e id = λ h. h
echo_end (PeerNotice.Prio backup) r e id = λ h. h

-- the first of them goes
noted_end : (queue : List OwnNotice) (id : ℕ) → is_queued id (tail_of queue) ≡ true → is_queued id queue ≡ true
noted_end [] id h = h
noted_end (first ∷ queue) id h = ap (λ b. is_note id first || b) h ∙ or-true (is_note id first)

-- what stands between a look and the announcement in a turn, and leaves the end able to note
abbrev pub IsMild : Duty → Type 0
IsMild (Duty.Ask (AskDuty.Window s)) = Unit {0}
IsMild (Duty.Send (SendDuty.Update s)) = Unit {0}
IsMild (Duty.Ask (AskDuty.LeaveNoted s)) = Unit {0}
IsMild (Duty.Send (SendDuty.ResetNoted s)) = Unit {0}
IsMild (Duty.Ask (AskDuty.Leave s)) = Unit {0}
IsMild (Duty.Ask (AskDuty.Dead s)) = Unit {0}
IsMild (Duty.Send (SendDuty.Syn s)) = Unit {0}
IsMild (Duty.Send (SendDuty.FastClose s)) = Unit {0}
IsMild (Duty.Send (SendDuty.Notice s)) = Unit {0}
IsMild (Duty.Step (StepDuty.Data s)) = Unit {0}
IsMild (Duty.Send (SendDuty.DataFin s)) = Unit {0}
IsMild (Duty.Send (SendDuty.Fin s)) = Unit {0}
IsMild (Duty.Silent (SilentDuty.Timer s)) = Unit {0}
IsMild _ = ⊥

-- as long as an announcement is left, the end may still note it
abbrev pub EndHolds : PathEnd → PathEnd → Type 0
EndHolds e f = (id : ℕ) → is_noted id f ≡ true → may_note e ≡ true → may_note f ≡ true

-- the own FIN leaves it connected
finish_may : (state : EndPhase) (b : Bool) → is_connected state && b ≡ true → is_connected (after_finish state) && b ≡ true
finish_may EndPhase.Established b may = may
finish_may EndPhase.CloseWait b may = may
finish_may EndPhase.FinWait1 b may = may
finish_may EndPhase.FinWait2 b may = may
finish_may EndPhase.Closing b may = may
finish_may EndPhase.LastAck b may = may
finish_may EndPhase.TimeWait b may = may
finish_may _ b may = absurd (false≢true may)

-- ---- a path

module _ {C : Type 0} where
  pub record Sheds (p q : PathState C) : Type 0 where
    pub a : EndSheds p.a q.a
    pub b : EndSheds p.b q.b

  stays_sheds : (p : PathState C) → Sheds p p
  stays_sheds p = record { a = λ id h. h; b = λ id h. h }

  then_sheds : (p q r : PathState C) → Sheds p q → Sheds q r → Sheds p r
  then_sheds p q r x y = record { a = λ id h. x.a id (y.a id h); b = λ id h. x.b id (y.b id h) }

  either_sheds : (c : Bool) (q r p : PathState C) → Sheds p q → Sheds p r → Sheds p (if c then q else r)
  either_sheds = elim [ true ↦ λ q r p x y. x | false ↦ λ q r p x y. y ]

  -- the end of a side becomes this, whatever else is on the path
  side_sheds : (s : Side) (e : PathEnd) (p q : PathState C) → q.a ≡ (goes_on s e [] p).a → q.b ≡ (goes_on s e [] p).b → EndSheds (end_at s p) e → Sheds p q
  side_sheds A e p q same_a same_b x = record { a = λ id h. x id (subst (λ (f : PathEnd). is_noted id f ≡ true) same_a h); b = λ id h. subst (λ (f : PathEnd). is_noted id f ≡ true) same_b h }
  side_sheds B e p q same_a same_b x = record { a = λ id h. subst (λ (f : PathEnd). is_noted id f ≡ true) same_a h; b = λ id h. x id (subst (λ (f : PathEnd). is_noted id f ≡ true) same_b h) }

  pub passed_sheds : (d : Duty) (p : PathState C) → Sheds p (passed d p)
  passed_sheds (Duty.Silent (SilentDuty.Timer s)) p = side_sheds s _ p _ refl refl (λ id h. h)
  passed_sheds (Duty.Step (StepDuty.Heard s index)) p = side_sheds s _ p _ refl refl (maybe_end s (item_of index (end_at s p)) (end_at s p))
  passed_sheds (Duty.Silent (SilentDuty.Keep s)) p = side_sheds s _ p _ refl refl (λ id h. h)
  passed_sheds (Duty.Ask (AskDuty.CheckFailed s)) p = side_sheds s _ p _ refl refl (checked_end p.profile.spelling.checksums (mapping_here (end_at s p)) (end_at s p))
  passed_sheds (Duty.Step (StepDuty.PlainAck s)) p = side_sheds s _ p _ refl refl (λ id h. h)
  passed_sheds (Duty.Step (StepDuty.Unmapped s)) p = side_sheds s _ p _ refl refl (λ id h. h)
  passed_sheds (Duty.Silent (SilentDuty.PassFin s)) p = side_sheds s _ p _ refl refl (λ id h. h)
  passed_sheds _ p = stays_sheds p

  -- ---- what happens by itself

  begun_sheds : (r : Reply) (dead living : List Duty) (p : PathState C) → Sheds p (join_begun r dead living p)
  begun_sheds r dead living p =
      either_sheds (is_never r) (goes_on A (never_joined r (end_at A p)) dead p) (goes_on A (opened_by (keys_begun r) (end_at A p)) living p) p
      (record { a = λ id h. absurd (false≢true h); b = λ id h. h }) (record { a = begun_end (keys_begun r) p.a; b = λ id h. h })

  line_sheds : (action : LineAction) (p : PathState C) → Sheds p (after_line action p)
  line_sheds LineAction.Die p = record {
    a = either_end (is_dead p.a.tcp.state) p.a p.a (died p.a) (λ id h. h) (λ id h. absurd (false≢true h));
    b = either_end (is_dead p.b.tcp.state) p.b p.b (died p.b) (λ id h. h) (λ id h. absurd (false≢true h));
  }
  line_sheds (LineAction.Prio s backup) p = side_sheds s (with_priority backup (end_at s p)) p _ refl refl (priority_end backup (end_at s p))
  line_sheds (LineAction.Announce s id) p = record { a = λ id h. h; b = λ id h. h }
  line_sheds (LineAction.Withdraw s id) p = record { a = λ id h. h; b = λ id h. h }

  told_sheds_at : (now : ℕ) (s : Side) (x : HeardSegment) (p : PathState C) → Sheds p (told_at now s x p)
  told_sheds_at now s x p = side_sheds s (after_judged p.profile s now x (judged_in (is_joined p.profile) s x (end_at s p)) (end_at s p)) p (told_at now s x p) refl refl (λ id h. h)

  copy_sheds : (s : Side) (heard : Option HeardSegment) (p : PathState C) → Sheds p (copy_heard s heard p)
  copy_sheds s None p = record { a = λ id h. h; b = λ id h. h }
  copy_sheds s (Some heard) p = told_sheds_at p.clock s (options_heard (end_at s p) heard) p

  happens_sheds : (k : Codec C) (event : Option Event) (r : Reply) (p : PathState C) → Sheds p (happens_if k event r p)
  happens_sheds k None r p = record { a = λ id h. h; b = λ id h. h }
  happens_sheds k (Some (Event.Joins tick)) r p =
      let q : PathState C = record (at_tick tick p) { joined_at = None } in
      then_sheds p q _ (record { a = λ id h. h; b = λ id h. h }) (begun_sheds r (leaves A) (emission A) q)
  happens_sheds k (Some (Event.Takes line)) r p =
      let q : PathState C = record (at_tick line.tick p) { lines = tail_of p.lines } in
      then_sheds p q _ (record { a = λ id h. h; b = λ id h. h }) (line_sheds line.action q)
  happens_sheds k (Some (Event.Arrives due)) r p =
      let q : PathState C = record (at_tick due.tick p) { link = after_delivery due p.link } in
      then_sheds p q _ (record { a = λ id h. h; b = λ id h. h }) (copy_sheds due.to (heard_in k due.to (arriving due p.link) p) q)
  happens_sheds k (Some (Event.Fires s tick)) r p = side_sheds s _ p _ refl refl (λ id h. h)

  -- ---- replies

  break_sheds : (k : Codec C) (s : Side) (reason : ℕ) (r : Reply) (p : PathState C) → Sheds p (answered_break k s reason r p)
  break_sheds k s reason r p = either_sheds (end_at s p).treated.asked _ _ p (side_sheds s _ p _ refl refl (λ id h. h)) (side_sheds s _ p _ refl refl (λ id h. absurd (false≢true h)))

  heard_item_sheds : (k : Codec C) (s : Side) (item : Heard) (r : Reply) (p : PathState C) → Sheds p (answered_heard k s item r p)
  heard_item_sheds k s (Heard.DataAck next window) r p = side_sheds s _ p _ refl refl (λ id h. h)
  heard_item_sheds k s (Heard.Mapping fin) r p =
      either_sheds (is_clash (end_at s p)) _ _ p (break_sheds k s 1 r p) (side_sheds s _ p _ refl refl (λ id h. h))
  heard_item_sheds k s (Heard.DataFin place) r p = side_sheds s _ p _ refl refl (λ id h. h)
  heard_item_sheds k s (Heard.InfiniteMapping place position) r p =
      side_sheds s _ p _ refl refl (infinite_came_so (EndSheds (end_at s p)) place position r (end_at s p) (λ other id h. h))
  heard_item_sheds k s (Heard.Keys own peer) r p =
      side_sheds s _ p _ refl refl (λ id h. h)
  heard_item_sheds k s (Heard.Notice notice) r p = side_sheds s (after_peer_notice notice r (end_at s p)) p _ refl refl (echo_end notice r (end_at s p))
  heard_item_sheds k s Heard.Fail r p =
      fail_answered_so (Sheds p) s r p (side_sheds s _ p _ refl refl (λ id h. h)) (side_sheds s _ p _ refl refl (λ id h. h))
  heard_item_sheds k s _ r p = record { a = λ id h. h; b = λ id h. h }

  item_sheds : (k : Codec C) (s : Side) (item : Option Heard) (r : Reply) (p : PathState C) → Sheds p (answered_item k s item r p)
  item_sheds k s None r p = record { a = λ id h. h; b = λ id h. h }
  item_sheds k s (Some item) r p = heard_item_sheds k s item r p

  -- where the queue may be written at neither end
  kept_by : (s : Side) (w : Writes) (p q : PathState C) → w.own.queue ≡ false → w.other.queue ≡ false → OnlyAt s w p q → Sheds p q
  kept_by s w p q own other x =
      let both = both_ends EndSheds s w p q
      (λ e f y id h. ap (is_queued id) (sym (unwritten w.own.queue e.notices.queue f.notices.queue own (ap (λ (v : EndView). v.queue) y.same))) ∙ h)
      (λ e f y id h. ap (is_queued id) (sym (unwritten w.other.queue e.notices.queue f.notices.queue other (ap (λ (v : EndView). v.queue) y.same))) ∙ h) x in
      record { a = both.0; b = both.1 }

  -- but for a Look
  pub answered_sheds : (k : Codec C) (d : Duty) → MayNotLook d → (r : Reply) (p : PathState C) → Sheds p (answered k d r p)
  answered_sheds k (Duty.Ask AskDuty.JoinAgain) other r p = begun_sheds r (replaced (Duty.Ask (AskDuty.Leave A)) p.agenda) (left p) p
  answered_sheds k (Duty.Step (StepDuty.Look s)) other r p = absurd other
  answered_sheds k (Duty.Send (SendDuty.Notice s)) other r p = side_sheds s (having_noted s p) p _ refl refl (noted_end (end_at s p).notices.queue)
  answered_sheds k (Duty.Step StepDuty.Events) other r p = happens_sheds k (next_event p) r p
  answered_sheds k (Duty.Step (StepDuty.Heard s index)) other r p = item_sheds k s (item_of index (end_at s p)) r p
  answered_sheds k (Duty.Step (StepDuty.PlainAck s)) other r p =
      either_sheds (breaks_by_ack p.profile (end_at s p)) _ _ p (break_sheds k s 6 r p) (side_sheds s _ p _ refl refl (λ id h. h))
  answered_sheds k (Duty.Step (StepDuty.Unmapped s)) other r p = break_sheds k s 6 r p
  answered_sheds k (Duty.Send (SendDuty.BreakReset s reason)) other r p = side_sheds s _ p _ refl refl (λ id h. absurd (false≢true h))
  answered_sheds k (Duty.Send (SendDuty.Reset s)) other r p = side_sheds s _ p _ refl refl (λ id h. absurd (false≢true h))
  answered_sheds k (Duty.Send (SendDuty.ResetNoted s)) other r p = side_sheds s _ p _ refl refl (λ id h. absurd (false≢true h))
  answered_sheds k (Duty.Ask (AskDuty.LeaveNoted s)) other r p = side_sheds s _ p _ refl refl (λ id h. absurd (false≢true h))
  answered_sheds k (Duty.Silent d) other r p = record { a = λ id h. h; b = λ id h. h }
  answered_sheds k d other r p = kept_by (side_of d) (writes d) p _ refl refl (writes_no_more k d r p)

  -- ---- what comes before the announcement in a turn

  -- an end that may note something still may, as long as an announcement is left
  pub record Holds (p q : PathState C) : Type 0 where
    pub a : EndHolds p.a q.a
    pub b : EndHolds p.b q.b

  side_holds : (s : Side) (e : PathEnd) (p q : PathState C) → q.a ≡ (goes_on s e [] p).a → q.b ≡ (goes_on s e [] p).b → EndHolds (end_at s p) e → Holds p q
  side_holds A e p q same_a same_b x = record { a = subst (EndHolds p.a) (sym same_a) x; b = subst (EndHolds p.b) (sym same_b) (λ id h may. may) }
  side_holds B e p q same_a same_b x = record { a = subst (EndHolds p.a) (sym same_a) (λ id h may. may); b = subst (EndHolds p.b) (sym same_b) x }

  data_holds : (k : Codec C) (s : Side) (first : Option Record) (r : Reply) (p : PathState C) → Holds p (answered_data k s first r p)
  data_holds k s (Some record_of) r p = side_holds s _ p _ refl refl (λ id h may. may)
  data_holds k s None r p = elim (grant_in r) as (λ grant. Holds p (answered_grant s grant r p))
      [ None ↦ side_holds s _ p _ refl refl (λ id h may. may) | Some grant ↦ side_holds s _ p _ refl refl (λ id h may. may) ]

  pub mild_holds : (k : Codec C) (d : Duty) → IsMild d → (r : Reply) (p : PathState C) → Holds p (answered k d r p)
  mild_holds k (Duty.Ask (AskDuty.Window s)) mild r p = side_holds s _ p _ refl refl (λ id h may. may)
  mild_holds k (Duty.Send (SendDuty.Update s)) mild r p = side_holds s _ p _ refl refl (λ id h may. may)
  mild_holds k (Duty.Ask (AskDuty.LeaveNoted s)) mild r p = side_holds s _ p _ refl refl (λ id h may. absurd (false≢true h))
  mild_holds k (Duty.Send (SendDuty.ResetNoted s)) mild r p = side_holds s _ p _ refl refl (λ id h may. absurd (false≢true h))
  mild_holds k (Duty.Ask (AskDuty.Leave s)) mild r p = record { a = λ id h may. may; b = λ id h may. may }
  mild_holds k (Duty.Ask (AskDuty.Dead s)) mild r p = record { a = λ id h may. may; b = λ id h may. may }
  mild_holds k (Duty.Send (SendDuty.Syn s)) mild r p = side_holds s _ p _ refl refl (λ id h may. may)
  mild_holds k (Duty.Send (SendDuty.FastClose s)) mild r p = side_holds s _ p _ refl refl (λ id h may. may)
  mild_holds k (Duty.Send (SendDuty.Notice s)) mild r p = side_holds s _ p _ refl refl (λ id h may. may)
  mild_holds k (Duty.Step (StepDuty.Data s)) mild r p = data_holds k s (first_unsent (end_at s p)) r p
  mild_holds k (Duty.Send (SendDuty.DataFin s)) mild r p = side_holds s _ p _ refl refl (λ id h may. may)
  mild_holds k (Duty.Send (SendDuty.Fin s)) mild r p =
      side_holds s (having_sent_fin s p) p _ refl refl (λ id h may. finish_may (end_at s p).tcp.state ((end_at s p).modes.clear && not (end_at s p).modes.identity) may)
  mild_holds k (Duty.Silent (SilentDuty.Timer s)) mild r p = record { a = λ id h may. may; b = λ id h may. may }
  mild_holds k _ mild r p = absurd mild

  pub passed_holds : (d : Duty) → IsMild d → (p : PathState C) → Holds p (passed d p)
  passed_holds (Duty.Silent (SilentDuty.Timer s)) mild p = side_holds s _ p _ refl refl (λ id h may. may)
  passed_holds (Duty.Ask (AskDuty.Window s)) mild p = record { a = λ id h may. may; b = λ id h may. may }
  passed_holds (Duty.Ask (AskDuty.LeaveNoted s)) mild p = record { a = λ id h may. may; b = λ id h may. may }
  passed_holds (Duty.Ask (AskDuty.Leave s)) mild p = record { a = λ id h may. may; b = λ id h may. may }
  passed_holds (Duty.Ask (AskDuty.Dead s)) mild p = record { a = λ id h may. may; b = λ id h may. may }
  passed_holds (Duty.Step (StepDuty.Data s)) mild p = record { a = λ id h may. may; b = λ id h may. may }
  passed_holds (Duty.Send send) mild p = record { a = λ id h may. may; b = λ id h may. may }
  passed_holds _ mild p = absurd mild

  pub sheds_at : (s : Side) (p q : PathState C) → Sheds p q → EndSheds (end_at s p) (end_at s q)
  sheds_at = elim [ A ↦ λ p q x. x.a | B ↦ λ p q x. x.b ]

  pub holds_at : (s : Side) (p q : PathState C) → Holds p q → EndHolds (end_at s p) (end_at s q)
  holds_at = elim [ A ↦ λ p q x. x.a | B ↦ λ p q x. x.b ]
