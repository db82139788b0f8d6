-- That an address is taken back comes into what an end has to note by a look alone, and a priority by a line of the script.
use Rattle.std.proofs.Common.{⊎_elim, eqb-true, true≢false, ◌≡◌, refl, sym, ◌∙◌, ap, subst, ℕ, ◌||◌, inl, inr, ◌⊎◌, Bool, true, false, if◌then◌else◌, Option, Some, None, List, [], ◌∷◌, ◌++◌}
use Rattle.std.proofs.lemmas.List.Folds.{list_any-append}
use Rattle.std.proofs.lemmas.Option.{same_Some}
use Rattle.actor_desk.specs.Desk.{SixBooks, control_of, reply_of}
use Rattle.control_book.specs.Replies.{notice_on}
use Rattle.control_book.specs.declared.call.ControlReply.{ControlReply}
use Rattle.control_book.specs.declared.call.Notice.{Notice}
use Rattle.path_core.specs.Notices.{after_notice}
use Rattle.path_core.specs.Standing.{after_look, answered_look, look_ask, may_note}
use Rattle.path_core.specs.State.{path_of, at_tick, PathState, end_at, goes_on, left}
use Rattle.world_laws.proofs.Writes.Steps.{Lasts, takes_lasts, both_ends, unwritten}
use Rattle.path_core.specs.Steps.{takes}
use Rattle.whole_paths.specs.Priorities.{PrioritiesComeByLines, SparesEvent, is_priority_line}
use Rattle.whole_paths.proofs.NoticeWords.{Word, either_way, is_note, is_noted, is_queued, rank_alone, ranks, removes, same_queue}
use Rattle.std.proofs.lemmas.Bool.{or_cases, both_ways, false≢true}
use Rattle.sides.specs.declared.side.Side.{Side}
use Rattle.sides.specs.declared.side.Side.TheVariants.{A, B}
use Rattle.dss_mapping.specs.declared.kept.KeptMapping.{KeptMapping}
use Rattle.subflow_tcp.specs.States.{is_dead}
use Rattle.link_model.specs.Steps.{arriving, after_delivery}
use Rattle.path_segments.specs.Heard.{HeardSegment}
use Rattle.path_store.specs.declared.lines.LineAction.{LineAction}
use Rattle.path_agenda.specs.Agenda.{emission, leaves}
use Rattle.path_agenda.specs.declared.duty.Duty.{Duty}
use Rattle.path_agenda.specs.declared.duty.SendDuty.{SendDuty}
use Rattle.path_agenda.specs.declared.duty.StepDuty.{StepDuty}
use Rattle.path_agenda.specs.declared.notice.OwnNotice.{OwnNotice}
use Rattle.path_agenda.specs.declared.duty.AskDuty.{AskDuty}
use Rattle.path_agenda.specs.declared.duty.SilentDuty.{SilentDuty}
use Rattle.path_agenda.specs.declared.heard.Heard.{Heard}
use Rattle.path_agenda.specs.declared.keys.KeyPair.{KeyPair}
use Rattle.path_agenda.specs.Words.{replaced}
use Rattle.path_agenda.specs.declared.notice.PeerNotice.{PeerNotice}
use Rattle.actor_desk.specs.declared.ask.Reply.{Reply}
use Rattle.actor_desk.specs.Words.{tail_of}
use Rattle.path_core.specs.Codec.{Codec}
use Rattle.path_core.specs.Duties.{passed, answered}
use Rattle.path_core.specs.End.{PathEnd, died}
use Rattle.path_core.specs.OptionsIn.{options_heard}
use Rattle.path_core.specs.Arrival.{after_judged, judged_in, heard_in, copy_heard, told_at}
use Rattle.path_core.specs.Breaking.{answered_break}
use Rattle.path_core.specs.Events.{next_event, after_line, happens_if}
use Rattle.path_core.specs.MpJoin.{join_begun, never_joined, is_never, keys_begun, opened_by, is_joined}
use Rattle.path_core.specs.Deliver.{is_wrong, mapping_here, forgotten_by}
use Rattle.path_core.specs.DssIn.{is_clash, counts}
use Rattle.path_core.specs.Treating.{answered_heard, answered_item, item_of, item_passed, heard_passed}
use Rattle.path_core.specs.Fallback.{breaks_by_ack}
use Rattle.path_core.specs.Addresses.{with_priority, having_noted, after_peer_notice, is_kept}
use Rattle.world_laws.specs.Writes.{Writes, OnlyAt, EndView, writes, side_of}
use Rattle.std.proofs.Math.Bool.{or-true}
use Rattle.path_core.specs.declared.events.Event.{Event}
use Rattle.world_laws.proofs.Falls.FailedChecks.{infinite_came_so, fail_answered_so}
use Rattle.world_laws.proofs.Standby.OneDutyLooks.{MayNotLook}
use Rattle.world_laws.proofs.Writes.Paths.{writes_no_more}

-- ---- an end

-- what is told so
abbrev withdrawn_in : Notice → Option ℕ
withdrawn_in (Notice.Withdraw id) = Some id
withdrawn_in _ = None

withdraws_so : (notice : Notice) (id : ℕ) → withdrawn_in notice ≡ Some id → notice ≡ Notice.Withdraw id
withdraws_so (Notice.Withdraw other) id is = ap Notice.Withdraw (same_Some other id is)
withdraws_so _ id is = cc

-- the address that is to be taken back, as a side is told
abbrev withdrawn_told : Reply → Option ℕ
withdrawn_told (Reply.Control (ControlReply.Standing mode standby sole notice)) = withdrawn_in notice
withdrawn_told _ = None

record TakesBack (word : Word) (r : Reply) : Type 0 where
  id : ℕ
  told : withdrawn_told r ≡ Some id
  is : removes word id ≡ true

-- behind all others
pushed : (word : Word) (queue : List OwnNotice) (notice : OwnNotice) → is_queued word (queue ++ notice ∷ []) ≡ true → (is_queued word queue ≡ true) ⊎ (is_note word notice ≡ true)
pushed word queue notice is = ⊎_elim (λ old. inl old) (λ new. inr (either_way (is_note word notice) new))
    (or_cases (is_queued word queue) (is_queued word (notice ∷ [])) (sym (list_any-append (is_note word) queue (notice ∷ [])) ∙ is))

-- none is new
module _ (word : Word) where
  abbrev EndSheds : PathEnd → PathEnd → Type 0
  EndSheds e f = is_noted word f ≡ true → is_noted word e ≡ true

  either_end : (b : Bool) (e f g : PathEnd) → EndSheds e f → EndSheds e g → EndSheds e (if b then f else g)
  either_end = elim [ true ↦ λ e f g x y. x | false ↦ λ e f g x y. y ]

  begun_end : (keys : Option KeyPair) (e : PathEnd) → EndSheds e (opened_by keys e)
  begun_end = elim [ None ↦ λ e. λ h. h | Some keys ↦ λ e. λ h. h ]

  item_end : (s : Side) (item : Heard) (e : PathEnd) → EndSheds e (heard_passed s item e)
  item_end s Heard.Dss e = λ h. h
  item_end s (Heard.Mapping fin) e = either_end (counts e) e _ _ (λ h. h) (λ h. h)
  item_end s (Heard.DataFin place) e = either_end (counts e) e _ _ (λ h. h) (λ h. h)
  item_end s _ e = λ h. h

  maybe_end : (s : Side) (o : Option Heard) (e : PathEnd) → EndSheds e (item_passed s o e)
  maybe_end s None e = λ h. h
  maybe_end s (Some item) e = item_end s item e

  checked_end : (checksums : Bool) (o : Option KeptMapping) (e : PathEnd) → EndSheds e (forgotten_by checksums o e)
  checked_end checksums None e = λ h. h
  checked_end checksums (Some kept) e = either_end (is_wrong checksums kept e.tcp) e _ _ (λ h. h) (λ h. h)

  -- one that says something else
  no_new : (queue : List OwnNotice) (notice : OwnNotice) → is_note word notice ≡ false → is_queued word (queue ++ notice ∷ []) ≡ true → is_queued word queue ≡ true
  no_new queue notice other is = ⊎_elim (λ old. old) (λ new. absurd (both_ways (is_note word notice) other new)) (pushed word queue notice is)

  priority_end : ranks word ≡ false → (backup : Bool) (e : PathEnd) → EndSheds e (with_priority backup e)
  priority_end other backup e = elim (is_dead e.tcp.state) as (λ b. is_queued word (if b then e.notices.queue else e.notices.queue ++ OwnNotice.Prio backup ∷ []) ≡ true → is_noted word e ≡ true)
      [ true ↦ λ h. h | false ↦ λ h. no_new e.notices.queue (OwnNotice.Prio backup) other h ]

  echo_end : (notice : PeerNotice) (r : Reply) (e : PathEnd) → EndSheds e (after_peer_notice notice r e)
  echo_end (PeerNotice.AddAddr id address port hmac) r e =
      elim (is_kept r) as (λ b. is_queued word (if b then e.notices.queue ++ OwnNotice.AddEcho id address port ∷ [] else e.notices.queue) ≡ true → is_noted word e ≡ true)
      [ true ↦ λ h. no_new e.notices.queue (OwnNotice.AddEcho id address port) refl h | false ↦ λ h. h ]
  echo_end (PeerNotice.AddEcho id) r e = λ h. h
  echo_end (PeerNotice.Removed id) r e = λ h. h
  echo_end (PeerNotice.Prio backup) r e = λ h. h

  -- the first of them goes
  noted_end : (queue : List OwnNotice) → is_queued word (tail_of queue) ≡ true → is_queued word queue ≡ true
  noted_end [] h = h
  noted_end (first ∷ queue) h = ap (λ b. is_note word first || b) h ∙ or-true (is_note word first)

  -- a look puts nothing there but what it tells
  look_end : (r : Reply) (e : PathEnd) → is_noted word (after_look r e) ≡ true → (is_noted word e ≡ true) ⊎ TakesBack word r
  look_end (Reply.Control (ControlReply.Standing mode standby sole notice)) e h = by (is_dead e.tcp.state) notice h
    where
      announced : (id : ℕ) (may : Bool) → is_queued word (if may then record e.notices { queue = e.notices.queue ++ OwnNotice.AddAddr id ∷ [] } else e.notices).queue ≡ true → is_noted word e ≡ true
      announced id true h = no_new e.notices.queue (OwnNotice.AddAddr id) refl h
      announced id false h = h

      removed : (id : ℕ) → is_queued word (e.notices.queue ++ OwnNotice.Removes id ∷ []) ≡ true
          → (is_noted word e ≡ true) ⊎ TakesBack word (Reply.Control (ControlReply.Standing mode standby sole (Notice.Withdraw id)))
      removed id h = ⊎_elim (λ old. inl old) (λ is. inr (record { id = id; told = refl; is = is })) (pushed word e.notices.queue (OwnNotice.Removes id) h)

      by : (dead : Bool) (notice : Notice) → is_queued word (if dead then e.notices else after_notice notice (may_note e) e.notices).queue ≡ true
          → (is_noted word e ≡ true) ⊎ TakesBack word (Reply.Control (ControlReply.Standing mode standby sole notice))
      by true notice h = inl h
      by false Notice.Nothing h = inl h
      by false (Notice.Announce id) h = inl (announced id (may_note e) h)
      by false (Notice.Withdraw id) h = removed id h
      by false (Notice.Carrier key) h = inl h
      by false Notice.Reset h = inl h
  look_end _ e h = inl h

  -- no priority
  rank_end : ranks word ≡ true → (r : Reply) (e : PathEnd) → EndSheds e (after_look r e)
  rank_end is r e h = ⊎_elim (λ was. was) (λ (told : TakesBack word r). absurd (both_ways (removes word told.id) (rank_alone word is told.id) told.is)) (look_end r e h)

  ranks_none : (b : Bool) → ranks word ≡ b → (ranks word ≡ true → true ≡ false) → ranks word ≡ false
  ranks_none true is other = absurd (true≢false (other is))
  ranks_none false is other = is

-- ---- a path

module _ (word : Word) {C : Type 0} where
  pub record Sheds (p q : PathState C) : Type 0 where
    pub a : EndSheds word p.a q.a
    pub b : EndSheds word p.b q.b

  stays_sheds : (p : PathState C) → Sheds p p
  stays_sheds p = record { a = λ h. h; b = λ h. h }

  then_sheds : (p q r : PathState C) → Sheds p q → Sheds q r → Sheds p r
  then_sheds p q r x y = record { a = λ h. x.a (y.a h); b = λ h. x.b (y.b h) }

  either_sheds : (c : Bool) (q r p : PathState C) → Sheds p q → Sheds p r → Sheds p (if c then q else r)
  either_sheds = elim [ true ↦ λ q r p x y. x | false ↦ λ q r p x y. y ]

  -- the end of a side becomes this, whatever else is on the path
  side_sheds : (s : Side) (e : PathEnd) (p q : PathState C) → q.a ≡ (goes_on s e [] p).a → q.b ≡ (goes_on s e [] p).b → EndSheds word (end_at s p) e → Sheds p q
  side_sheds A e p q same_a same_b x = record { a = λ h. x (subst (λ (f : PathEnd). is_noted word f ≡ true) same_a h); b = λ h. subst (λ (f : PathEnd). is_noted word f ≡ true) same_b h }
  side_sheds B e p q same_a same_b x = record { a = λ h. subst (λ (f : PathEnd). is_noted word f ≡ true) same_a h; b = λ h. x (subst (λ (f : PathEnd). is_noted word f ≡ true) same_b h) }

  pub passed_sheds : (d : Duty) (p : PathState C) → Sheds p (passed d p)
  passed_sheds (Duty.Silent (SilentDuty.Timer s)) p = side_sheds s _ p _ refl refl (λ h. h)
  passed_sheds (Duty.Step (StepDuty.Heard s index)) p = side_sheds s _ p _ refl refl (maybe_end word s (item_of index (end_at s p)) (end_at s p))
  passed_sheds (Duty.Silent (SilentDuty.Keep s)) p = side_sheds s _ p _ refl refl (λ h. h)
  passed_sheds (Duty.Ask (AskDuty.CheckFailed s)) p = side_sheds s _ p _ refl refl (checked_end word p.profile.spelling.checksums (mapping_here (end_at s p)) (end_at s p))
  passed_sheds (Duty.Step (StepDuty.PlainAck s)) p = side_sheds s _ p _ refl refl (λ h. h)
  passed_sheds (Duty.Step (StepDuty.Unmapped s)) p = side_sheds s _ p _ refl refl (λ h. h)
  passed_sheds (Duty.Silent (SilentDuty.PassFin s)) p = side_sheds s _ p _ refl refl (λ h. h)
  passed_sheds _ p = stays_sheds p

  -- ---- what happens by itself

  begun_sheds : (r : Reply) (dead living : List Duty) (p : PathState C) → Sheds p (join_begun r dead living p)
  begun_sheds r dead living p =
      either_sheds (is_never r) (goes_on A (never_joined r (end_at A p)) dead p) (goes_on A (opened_by (keys_begun r) (end_at A p)) living p) p
      (record { a = λ h. absurd (false≢true h); b = λ h. h }) (record { a = begun_end word (keys_begun r) p.a; b = λ h. h })

  line_sheds : (action : LineAction) (p : PathState C) → (ranks word ≡ true → is_priority_line action ≡ false) → Sheds p (after_line action p)
  line_sheds LineAction.Die p other = record {
    a = either_end word (is_dead p.a.tcp.state) p.a p.a (died p.a) (λ h. h) (λ h. absurd (false≢true h));
    b = either_end word (is_dead p.b.tcp.state) p.b p.b (died p.b) (λ h. h) (λ h. absurd (false≢true h));
  }
  line_sheds (LineAction.Prio s backup) p other =
      side_sheds s (with_priority backup (end_at s p)) p _ refl refl (priority_end word (ranks_none word (ranks word) refl other) backup (end_at s p))
  line_sheds (LineAction.Announce s id) p other = record { a = λ h. h; b = λ h. h }
  line_sheds (LineAction.Withdraw s id) p other = record { a = λ h. h; b = λ h. h }

  told_sheds_at : (now : ℕ) (s : Side) (x : HeardSegment) (p : PathState C) → Sheds p (told_at now s x p)
  told_sheds_at now s x p = side_sheds s (after_judged p.profile s now x (judged_in (is_joined p.profile) s x (end_at s p)) (end_at s p)) p (told_at now s x p) refl refl (λ h. h)

  copy_sheds : (s : Side) (heard : Option HeardSegment) (p : PathState C) → Sheds p (copy_heard s heard p)
  copy_sheds s None p = record { a = λ h. h; b = λ h. h }
  copy_sheds s (Some heard) p = told_sheds_at p.clock s (options_heard (end_at s p) heard) p

  happens_sheds : (k : Codec C) (event : Option Event) (r : Reply) (p : PathState C) → (ranks word ≡ true → SparesEvent event) → Sheds p (happens_if k event r p)
  happens_sheds k None r p other = record { a = λ h. h; b = λ h. h }
  happens_sheds k (Some (Event.Joins tick)) r p other =
      let q : PathState C = record (at_tick tick p) { joined_at = None } in
      then_sheds p q _ (record { a = λ h. h; b = λ h. h }) (begun_sheds r (leaves A) (emission A) q)
  happens_sheds k (Some (Event.Takes line)) r p other =
      let q : PathState C = record (at_tick line.tick p) { lines = tail_of p.lines } in
      then_sheds p q _ (record { a = λ h. h; b = λ h. h }) (line_sheds line.action q (λ is. other is line refl))
  happens_sheds k (Some (Event.Arrives due)) r p other =
      let q : PathState C = record (at_tick due.tick p) { link = after_delivery due p.link } in
      then_sheds p q _ (record { a = λ h. h; b = λ h. h }) (copy_sheds due.to (heard_in k due.to (arriving due p.link) p) q)
  happens_sheds k (Some (Event.Fires s tick)) r p other = side_sheds s _ p _ refl refl (λ h. h)

  -- ---- replies

  break_sheds : (k : Codec C) (s : Side) (reason : ℕ) (r : Reply) (p : PathState C) → Sheds p (answered_break k s reason r p)
  break_sheds k s reason r p = either_sheds (end_at s p).treated.asked _ _ p (side_sheds s _ p _ refl refl (λ h. h)) (side_sheds s _ p _ refl refl (λ h. absurd (false≢true h)))

  heard_item_sheds : (k : Codec C) (s : Side) (item : Heard) (r : Reply) (p : PathState C) → Sheds p (answered_heard k s item r p)
  heard_item_sheds k s (Heard.DataAck next window) r p = side_sheds s _ p _ refl refl (λ h. h)
  heard_item_sheds k s (Heard.Mapping fin) r p =
      either_sheds (is_clash (end_at s p)) _ _ p (break_sheds k s 1 r p) (side_sheds s _ p _ refl refl (λ h. h))
  heard_item_sheds k s (Heard.DataFin place) r p = side_sheds s _ p _ refl refl (λ h. h)
  heard_item_sheds k s (Heard.InfiniteMapping place position) r p =
      side_sheds s _ p _ refl refl (infinite_came_so (EndSheds word (end_at s p)) place position r (end_at s p) (λ other h. h))
  heard_item_sheds k s (Heard.Keys own peer) r p =
      side_sheds s _ p _ refl refl (λ h. h)
  heard_item_sheds k s (Heard.Notice notice) r p = side_sheds s (after_peer_notice notice r (end_at s p)) p _ refl refl (echo_end word notice r (end_at s p))
  heard_item_sheds k s Heard.Fail r p =
      fail_answered_so (Sheds p) s r p (side_sheds s _ p _ refl refl (λ h. h)) (side_sheds s _ p _ refl refl (λ h. h))
  heard_item_sheds k s _ r p = record { a = λ h. h; b = λ h. h }

  item_sheds : (k : Codec C) (s : Side) (item : Option Heard) (r : Reply) (p : PathState C) → Sheds p (answered_item k s item r p)
  item_sheds k s None r p = record { a = λ h. h; b = λ h. h }
  item_sheds k s (Some item) r p = heard_item_sheds k s item r p

  -- where the queue may be written at neither end
  kept_by : (s : Side) (w : Writes) (p q : PathState C) → w.own.queue ≡ false → w.other.queue ≡ false → OnlyAt s w p q → Sheds p q
  kept_by s w p q own other x =
      let both = both_ends (EndSheds word) s w p q
      (λ e f y h. ap (is_queued word) (sym (unwritten w.own.queue e.notices.queue f.notices.queue own (ap (λ (v : EndView). v.queue) y.same))) ∙ h)
      (λ e f y h. ap (is_queued word) (sym (unwritten w.other.queue e.notices.queue f.notices.queue other (ap (λ (v : EndView). v.queue) y.same))) ∙ h) x in
      record { a = both.0; b = both.1 }

  -- but for a look, or but for such a line
  pub answered_sheds : (k : Codec C) (d : Duty) → (ranks word ≡ false → MayNotLook d) → (r : Reply) (p : PathState C) → (ranks word ≡ true → SparesEvent (next_event p)) → Sheds p (answered k d r p)
  answered_sheds k (Duty.Ask AskDuty.JoinAgain) looks r p other = begun_sheds r (replaced (Duty.Ask (AskDuty.Leave A)) p.agenda) (left p) p
  answered_sheds k (Duty.Step (StepDuty.Look s)) looks r p other = by (ranks word) refl
    where
      by : (b : Bool) → ranks word ≡ b → Sheds p (answered_look s r p)
      by true is = side_sheds s (after_look r (end_at s p)) p _ refl refl (rank_end word is r (end_at s p))
      by false is = absurd (looks is)
  answered_sheds k (Duty.Send (SendDuty.Notice s)) looks r p other = side_sheds s (having_noted s p) p _ refl refl (noted_end word (end_at s p).notices.queue)
  answered_sheds k (Duty.Step StepDuty.Events) looks r p other = happens_sheds k (next_event p) r p other
  answered_sheds k (Duty.Step (StepDuty.Heard s index)) looks r p other = item_sheds k s (item_of index (end_at s p)) r p
  answered_sheds k (Duty.Step (StepDuty.PlainAck s)) looks r p other =
      either_sheds (breaks_by_ack p.profile (end_at s p)) _ _ p (break_sheds k s 6 r p) (side_sheds s _ p _ refl refl (λ h. h))
  answered_sheds k (Duty.Step (StepDuty.Unmapped s)) looks r p other = break_sheds k s 6 r p
  answered_sheds k (Duty.Send (SendDuty.BreakReset s reason)) looks r p other = side_sheds s _ p _ refl refl (λ h. absurd (false≢true h))
  answered_sheds k (Duty.Send (SendDuty.Reset s)) looks r p other = side_sheds s _ p _ refl refl (λ h. absurd (false≢true h))
  answered_sheds k (Duty.Send (SendDuty.ResetNoted s)) looks r p other = side_sheds s _ p _ refl refl (λ h. absurd (false≢true h))
  answered_sheds k (Duty.Ask (AskDuty.LeaveNoted s)) looks r p other = side_sheds s _ p _ refl refl (λ h. absurd (false≢true h))
  answered_sheds k (Duty.Silent d) looks r p other = record { a = λ h. h; b = λ h. h }
  answered_sheds k d looks r p other = kept_by (side_of d) (writes d) p _ refl refl (writes_no_more k d r p)

  pub sheds_at : (s : Side) (p q : PathState C) → Sheds p q → EndSheds word (end_at s p) (end_at s q)
  sheds_at = elim [ A ↦ λ p q x. x.a | B ↦ λ p q x. x.b ]

  pub sheds_last : Lasts Sheds
  sheds_last = record { agenda = λ ds p. record { a = λ h. h; b = λ h. h }; chains = λ p q r x y. then_sheds p q r x y; passes = λ d p. passed_sheds d p }

-- by the reply to a look of this side, at either end
pub look_noted : {C : Type 0} (s t : Side) (six : SixBooks) (p : PathState C) (id : ℕ) → is_noted (Word.removal id) (end_at t (answered_look s (reply_of six (look_ask s p)) p)) ≡ true
    → (is_noted (Word.removal id) (end_at t p) ≡ true) ⊎ (notice_on (control_of s six) (path_of p) ≡ Notice.Withdraw id)
look_noted A A six p id h = ⊎_elim (λ was. inl was) (λ (told : TakesBack (Word.removal id) _). inr (withdraws_so _ id (told.told ∙ ap (λ n. Some n) (eqb-true told.id id told.is)))) (look_end (Word.removal id) (reply_of six (look_ask A p)) p.a h)
look_noted A B six p id h = inl h
look_noted B A six p id h = inl h
look_noted B B six p id h = ⊎_elim (λ was. inl was) (λ (told : TakesBack (Word.removal id) _). inr (withdraws_so _ id (told.told ∙ ap (λ n. Some n) (eqb-true told.id id told.is)))) (look_end (Word.removal id) (reply_of six (look_ask B p)) p.b h)

-- by each step that takes no line of a priority
pub priorities_come_by_lines : {C : Type 0} (k : Codec C) → PrioritiesComeByLines k
priorities_come_by_lines k p r s other h =
    let q = takes k r p in
    sym (same_queue (end_at s p).notices.queue)
    ∙ sheds_at Word.priority s p q (takes_lasts (Sheds Word.priority) (sheds_last Word.priority) k r p (λ d. answered_sheds Word.priority k d (λ is. absurd (true≢false is)) r p (λ is. other)))
    (same_queue (end_at s q).notices.queue ∙ h)
