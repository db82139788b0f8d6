-- An end that knows its peer's key knows one always.
use Rattle.std.proofs.Common.{◌≡◌, refl, ◌∙◌, ap, ℕ, ◌+◌, Bool, true, false, if◌then◌else◌, Option, Some, None, List, []}
use Rattle.fallback_state.specs.declared.fall.Event.{Event as FallEvent}
use Rattle.sides.specs.declared.side.Side.{Side}
use Rattle.sides.specs.declared.side.Side.TheVariants.{A, B}
use Rattle.join_handshake.specs.declared.hearing.JoinAnswer.{JoinAnswer}
use Rattle.control_book.specs.declared.call.ControlReply.{ControlReply}
use Rattle.subflow_tcp.specs.States.{is_dead}
use Rattle.subflow_tcp.specs.declared.verdicts.Meaning.{Meaning}
use Rattle.subflow_tcp.specs.declared.handshake.State.{State as EndPhase}
use Rattle.link_model.specs.Steps.{arriving, after_delivery}
use Rattle.path_segments.specs.Heard.{HeardSegment}
use Rattle.path_store.specs.declared.lines.LineAction.{LineAction}
use Rattle.path_agenda.specs.Agenda.{emission, leaves}
use Rattle.path_agenda.specs.declared.duty.Duty.{Duty}
use Rattle.path_agenda.specs.declared.duty.SendDuty.{SendDuty}
use Rattle.path_agenda.specs.declared.duty.StepDuty.{StepDuty}
use Rattle.path_agenda.specs.declared.duty.AskDuty.{AskDuty}
use Rattle.path_agenda.specs.declared.duty.SilentDuty.{SilentDuty}
use Rattle.path_agenda.specs.declared.heard.Heard.{Heard}
use Rattle.path_agenda.specs.declared.keys.KeyPair.{KeyPair}
use Rattle.path_agenda.specs.Items.{keys_heard}
use Rattle.actor_desk.specs.declared.ask.Reply.{Reply}
use Rattle.actor_desk.specs.Words.{tail_of}
use Rattle.path_core.specs.Codec.{Codec}
use Rattle.path_core.specs.Duties.{passed, answered}
use Rattle.path_core.specs.End.{PathEnd, died}
use Rattle.path_core.specs.State.{at_tick, PathState, end_at, goes_on}
use Rattle.path_core.specs.Steps.{takes, begins_turn, next_round}
use Rattle.path_core.specs.OptionsIn.{items_of, options_heard}
use Rattle.path_core.specs.Arrival.{after_judged, asked_in, judged_in, with_held, heard_in, copy_heard, told_at}
use Rattle.path_core.specs.Breaking.{answered_break}
use Rattle.path_core.specs.Events.{next_event, after_line, happens_if}
use Rattle.path_core.specs.MpJoin.{join_begun, never_joined, is_never, keys_begun, opened_by, is_joined, join_answer}
use Rattle.path_core.specs.DssIn.{is_clash, held_of, HeardOption}
use Rattle.path_core.specs.Treating.{answered_heard, answered_item, item_of, item_passed}
use Rattle.path_core.specs.Fallback.{after_fell, fell_in}
use Rattle.path_core.specs.MpCapable.{answered_opened, keys_in}
use Rattle.path_core.specs.Judged.{answered_in, cleared_in, taken_as, with_answer}
use Rattle.path_core.specs.declared.modes.Modes.{Modes}
use Rattle.world_laws.specs.Writes.{EndWrites, Only, Writes, OnlyAt, EndView, writes, side_of}
use Rattle.std.specs.Prelude.{is_some}
use Rattle.join_handshake.specs.declared.hearing.JoinSyn.{JoinSyn}
use Rattle.path_agenda.specs.Words.{replaced}
use Rattle.path_core.specs.Judged.{after_join}
use Rattle.path_core.specs.MpCapable.{answered_peer_key}
use Rattle.path_core.specs.MpJoin.{asked_at, join_taken}
use Rattle.path_core.specs.State.{left}
use Rattle.path_agenda.specs.Items.{key_heard}
use Rattle.path_core.specs.declared.events.Event.{Event}
use Rattle.world_laws.proofs.Falls.FailedChecks.{infinite_came_so, fail_answered_so}
use Rattle.world_laws.proofs.Writes.Ends.{fell_so, item_so}
use Rattle.world_laws.proofs.Writes.Paths.{writes_no_more, passes_no_more}
use Rattle.world_laws.proofs.Writes.Steps.{both_ends, Lasts, unwritten, takes_lasts, begins_lasts}

-- ---- what is known of the modes

-- a key that is known stays known
abbrev Stays : Modes → Modes → Type 0
Stays m n = is_some m.peer_key ≡ true → is_some n.peer_key ≡ true

fell_keyed : (event : FallEvent) (r : Reply) (m : Modes) → Stays m (fell_in event r m)
fell_keyed event r m = fell_so (Stays m) event r m (λ mode owes h. h)

keys_keyed : (r : Reply) (keys : Option KeyPair) (m : Modes) → Stays m (keys_in r keys m)
keys_keyed (Reply.Control ControlReply.Noted) (Some keys) m = λ h. refl
keys_keyed _ keys m = λ h. h

with_answer_keyed : (o : Option JoinAnswer) (m : Modes) → Stays m (with_answer o m)
with_answer_keyed = elim [ None ↦ λ m h. h | Some answer ↦ λ m h. h ]

answered_keyed_in : (meaning : Meaning) (items : List Heard) (m : Modes) → Stays m (answered_in meaning items m)
answered_keyed_in (Meaning.Accepts acknowledged) items m = with_answer_keyed (join_answer items m) m
answered_keyed_in _ items m = λ h. h

cleared_keyed : (meaning : Meaning) (state : EndPhase) (m : Modes) → Stays m (cleared_in meaning state m)
cleared_keyed (Meaning.Taken position acknowledged) state m = λ h. h
cleared_keyed _ state m = λ h. h

asked_keyed : (meaning : Meaning) (options : List HeardOption) (m : Modes) → Stays m (asked_in meaning options m)
asked_keyed = elim [ Meaning.Opens ↦ λ options m h. h | _ ↦ λ options m h. h ]

heard_keyed : (joined : Bool) (meaning : Meaning) (items : List Heard) (state : EndPhase) (m : Modes) → Stays m (if joined then cleared_in meaning state (answered_in meaning items m) else m)
heard_keyed true meaning items state m = λ h. cleared_keyed meaning state (answered_in meaning items m) (answered_keyed_in meaning items m h)
heard_keyed false meaning items state m = λ h. h

-- ---- an end

abbrev EndStays : PathEnd → PathEnd → Type 0
EndStays e f = Stays e.modes f.modes

either_end : (b : Bool) (e f g : PathEnd) → EndStays e f → EndStays e g → EndStays e (if b then f else g)
either_end = elim [ true ↦ λ e f g x y. x | false ↦ λ e f g x y. y ]

begun_end : (keys : Option KeyPair) (e : PathEnd) → EndStays e (opened_by keys e)
begun_end = elim [ None ↦ λ e h. h | Some keys ↦ λ e h. refl ]

maybe_end : (s : Side) (o : Option Heard) (e : PathEnd) → EndStays e (item_passed s o e)
maybe_end s o e = item_so (EndStays e) s o e (λ h. h) (λ h. h) (λ next h. h) (λ h. h) (λ h. h) (λ place h. h)

end_kept : (w : EndWrites) (e f : PathEnd) → w.peer_key ≡ false → Only w e f → EndStays e f
end_kept w e f unwrites x h = ap is_some (unwritten w.peer_key e.modes.peer_key f.modes.peer_key unwrites (ap (λ (v : EndView). v.peer_key) x.same)) ∙ h

-- ---- a path

module _ {C : Type 0} where
  pub record KeysStay (p q : PathState C) : Type 0 where
    pub a : EndStays p.a q.a
    pub b : EndStays p.b q.b

  stays_keyed : (p : PathState C) → KeysStay p p
  stays_keyed p = record { a = (λ h. h); b = (λ h. h) }

  then_keyed : (p q r : PathState C) → KeysStay p q → KeysStay q r → KeysStay p r
  then_keyed p q r x y = record { a = λ h. y.a (x.a h); b = λ h. y.b (x.b h) }

  either_keyed : (c : Bool) (q r p : PathState C) → KeysStay p q → KeysStay p r → KeysStay p (if c then q else r)
  either_keyed = elim [ true ↦ λ q r p x y. x | false ↦ λ q r p x y. y ]

  -- the end of a side becomes this, whatever else is on the path
  side_keyed : (s : Side) (e : PathEnd) (p q : PathState C) → EndStays (end_at s p) e → q.a ≡ (goes_on s e [] p).a → q.b ≡ (goes_on s e [] p).b → KeysStay p q
  side_keyed A e p q x same_a same_b = record { a = λ h. rw same_a (x h); b = λ h. rw same_b h }
  side_keyed B e p q x same_a same_b = record { a = λ h. rw same_a h; b = λ h. rw same_b (x h) }

  -- where it may be written at neither end
  kept_by : (s : Side) (w : Writes) (p q : PathState C) → w.own.peer_key ≡ false → w.other.peer_key ≡ false
      → OnlyAt s w p q → KeysStay p q
  kept_by s w p q own other x =
      let both = both_ends EndStays s w p q (λ e f y. end_kept w.own e f own y) (λ e f y. end_kept w.other e f other y) x in
      record { a = both.0; b = both.1 }

  pub passed_keyed : (d : Duty) (p : PathState C) → KeysStay p (passed d p)
  passed_keyed (Duty.Step (StepDuty.Heard s index)) p = side_keyed s _ p _ (maybe_end s (item_of index (end_at s p)) (end_at s p)) refl refl
  passed_keyed (Duty.Step StepDuty.Events) p = stays_keyed p
  passed_keyed (Duty.Ask (AskDuty.Opened s)) p = stays_keyed p
  passed_keyed (Duty.Ask AskDuty.JoinAgain) p = stays_keyed p
  passed_keyed (Duty.Ask (AskDuty.PeerKey s)) p = stays_keyed p
  passed_keyed (Duty.Ask (AskDuty.JoinHeard s)) p = stays_keyed p
  passed_keyed (Duty.Ask (AskDuty.GoIdentity s)) p = stays_keyed p
  passed_keyed (Duty.Send (SendDuty.Update s)) p = stays_keyed p
  passed_keyed (Duty.Silent (SilentDuty.Timer s)) p =
      kept_by s (writes (Duty.Silent (SilentDuty.Timer s))) p _ refl refl (passes_no_more (Duty.Silent (SilentDuty.Timer s)) p)
  passed_keyed d p = kept_by (side_of d) (writes d) p _ refl refl (passes_no_more d p)

  -- ---- what happens by itself

  begun_keyed : (r : Reply) (dead living : List Duty) (p : PathState C) → KeysStay p (join_begun r dead living p)
  begun_keyed r dead living p =
      either_keyed (is_never r) (goes_on A (never_joined r (end_at A p)) dead p) (goes_on A (opened_by (keys_begun r) (end_at A p)) living p) p
      (record { a = (λ h. h); b = (λ h. h) }) (record { a = begun_end (keys_begun r) p.a; b = (λ h. h) })

  line_keyed : (action : LineAction) (p : PathState C) → KeysStay p (after_line action p)
  line_keyed LineAction.Die p = record {
    a = either_end (is_dead p.a.tcp.state) p.a p.a (died p.a) (λ h. h) (λ h. h);
    b = either_end (is_dead p.b.tcp.state) p.b p.b (died p.b) (λ h. h) (λ h. h);
  }
  line_keyed (LineAction.Prio s backup) p = side_keyed s _ p _ (λ h. h) refl refl
  line_keyed (LineAction.Announce s id) p = record { a = (λ h. h); b = (λ h. h) }
  line_keyed (LineAction.Withdraw s id) p = record { a = (λ h. h); b = (λ h. h) }

  told_clear_at : (now : ℕ) (s : Side) (x : HeardSegment) (p : PathState C) → KeysStay p (told_at now s x p)
  told_clear_at now s x p =
      let joined = is_joined p.profile in let e = end_at s p in let items = items_of joined s x in
      let meaning : Meaning = taken_as (judged_in joined s x e) in
      let held : PathEnd = with_held (held_of p.profile s x) x meaning e in
      let middle : Modes = (after_join joined items meaning held).modes in
      side_keyed s (after_judged p.profile s now x (judged_in joined s x e) e) p (told_at now s x p)
      (λ h. asked_keyed meaning x.options middle (heard_keyed joined meaning items held.tcp.state e.modes h)) refl refl

  copy_keyed : (s : Side) (heard : Option HeardSegment) (p : PathState C) → KeysStay p (copy_heard s heard p)
  copy_keyed s None p = record { a = (λ h. h); b = (λ h. h) }
  copy_keyed s (Some heard) p = told_clear_at p.clock s (options_heard (end_at s p) heard) p

  happens_keyed : (k : Codec C) (event : Option Event) (r : Reply) (p : PathState C) → KeysStay p (happens_if k event r p)
  happens_keyed k None r p = record { a = (λ h. h); b = (λ h. h) }
  happens_keyed k (Some (Event.Joins tick)) r p =
      let q : PathState C = record (at_tick tick p) { joined_at = None } in
      then_keyed p q _ (record { a = (λ h. h); b = (λ h. h) }) (begun_keyed r (leaves A) (emission A) q)
  happens_keyed k (Some (Event.Takes line)) r p =
      let q : PathState C = record (at_tick line.tick p) { lines = tail_of p.lines } in
      then_keyed p q _ (record { a = (λ h. h); b = (λ h. h) }) (line_keyed line.action q)
  happens_keyed k (Some (Event.Arrives due)) r p =
      let q : PathState C = record (at_tick due.tick p) { link = after_delivery due p.link } in
      then_keyed p q _ (record { a = (λ h. h); b = (λ h. h) }) (copy_keyed due.to (heard_in k due.to (arriving due p.link) p) q)
  happens_keyed k (Some (Event.Fires s tick)) r p = side_keyed s _ p _ (λ h. h) refl refl

  -- ---- replies

  break_keyed : (k : Codec C) (s : Side) (reason : ℕ) (r : Reply) (p : PathState C) → KeysStay p (answered_break k s reason r p)
  break_keyed k s reason r p = either_keyed (end_at s p).treated.asked _ _ p (side_keyed s _ p _ (λ h. h) refl refl) (side_keyed s _ p _ (λ h. h) refl refl)

  -- what was told of the mode leaves the key, and so does what is done then
  fell_path : (s : Side) (event : FallEvent) (r : Reply) (e : PathEnd) (q p : PathState C) → EndStays (after_fell event r (end_at s p)) e → q.a ≡ (goes_on s e [] p).a → q.b ≡ (goes_on s e [] p).b → KeysStay p q
  fell_path s event r e q p rest same_a same_b = side_keyed s e p q (λ h. rest (fell_keyed event r (end_at s p).modes h)) same_a same_b

  opened_keyed : (s : Side) (keys : Option KeyPair) (r : Reply) (p : PathState C) → KeysStay p (answered_opened s keys r p)
  opened_keyed s None r p = fell_path s FallEvent.PlainHandshake r _ _ p (λ h. h) refl refl
  opened_keyed s (Some keys) r p = side_keyed s _ p _ (keys_keyed r (Some keys) (end_at s p).modes) refl refl

  heard_item_keyed : (k : Codec C) (s : Side) (item : Heard) (r : Reply) (p : PathState C) → KeysStay p (answered_heard k s item r p)
  heard_item_keyed k s (Heard.DataAck next window) r p = side_keyed s _ p _ (λ h. h) refl refl
  heard_item_keyed k s (Heard.Mapping fin) r p =
      either_keyed (is_clash (end_at s p)) _ _ p (break_keyed k s 1 r p) (fell_path s FallEvent.MappingHeard r _ _ p (λ h. h) refl refl)
  heard_item_keyed k s (Heard.DataFin place) r p = fell_path s FallEvent.MappingHeard r _ _ p (λ h. h) refl refl
  heard_item_keyed k s (Heard.InfiniteMapping place position) r p =
      fell_path s FallEvent.InfiniteHeard r _ _ p
      (infinite_came_so (EndStays (after_fell FallEvent.InfiniteHeard r (end_at s p))) place position r (end_at s p) (λ other h. h)) refl refl
  heard_item_keyed k s (Heard.Keys own peer) r p =
      side_keyed s _ p _ (keys_keyed r (Some (record { own = own; peer = peer })) (end_at s p).modes) refl refl
  heard_item_keyed k s (Heard.Notice notice) r p = side_keyed s _ p _ (λ h. h) refl refl
  heard_item_keyed k s Heard.Fail r p =
      fail_answered_so (KeysStay p) s r p (side_keyed s _ p _ (λ h. h) refl refl) (fell_path s (FallEvent.FailHeard false) r _ _ p (λ h. h) refl refl)
  heard_item_keyed k s _ r p = record { a = (λ h. h); b = (λ h. h) }

  key_keyed : (s : Side) (key : Option ℕ) (r : Reply) (p : PathState C) → KeysStay p (answered_peer_key s key r p)
  key_keyed s None r p = fell_path s FallEvent.PlainHandshake r _ _ p (λ h. h) refl refl
  key_keyed s (Some key) r p = side_keyed s _ p _ (λ h. refl) refl refl

  join_keyed : (s : Side) (keys : Option KeyPair) (asked : Option JoinSyn) (r : Reply) (p : PathState C) → KeysStay p (join_taken s keys asked r p)
  join_keyed s (Some keys) (Some asked) r p = side_keyed s _ p _ (λ h. refl) refl refl
  join_keyed s None (Some asked) r p = side_keyed s _ p _ (λ h. h) refl refl
  join_keyed s keys None r p = record { a = λ h. h; b = λ h. h }

  item_keyed : (k : Codec C) (s : Side) (item : Option Heard) (r : Reply) (p : PathState C) → KeysStay p (answered_item k s item r p)
  item_keyed k s None r p = record { a = (λ h. h); b = (λ h. h) }
  item_keyed k s (Some item) r p = heard_item_keyed k s item r p

  pub answered_keyed : (k : Codec C) (d : Duty) (r : Reply) (p : PathState C) → KeysStay p (answered k d r p)
  answered_keyed k (Duty.Step StepDuty.Events) r p = happens_keyed k (next_event p) r p
  answered_keyed k (Duty.Step (StepDuty.Heard s index)) r p = item_keyed k s (item_of index (end_at s p)) r p
  answered_keyed k (Duty.Ask (AskDuty.Opened s)) r p = opened_keyed s (keys_heard (end_at s p).treated.items) r p
  answered_keyed k (Duty.Ask AskDuty.JoinAgain) r p = begun_keyed r (replaced (Duty.Ask (AskDuty.Leave A)) p.agenda) (left p) p
  answered_keyed k (Duty.Ask (AskDuty.PeerKey s)) r p = key_keyed s (key_heard (end_at s p).treated.items) r p
  answered_keyed k (Duty.Ask (AskDuty.JoinHeard s)) r p = join_keyed s (keys_begun r) (asked_at s p) r p
  answered_keyed k (Duty.Ask (AskDuty.GoIdentity s)) r p = side_keyed s _ p _ (λ h. h) refl refl
  answered_keyed k (Duty.Send (SendDuty.Update s)) r p =
      kept_by s (writes (Duty.Send (SendDuty.Update s))) p _ refl refl (writes_no_more k (Duty.Send (SendDuty.Update s)) r p)
  answered_keyed k (Duty.Silent d) r p = record { a = (λ h. h); b = (λ h. h) }
  answered_keyed k d r p = kept_by (side_of d) (writes d) p _ refl refl (writes_no_more k d r p)

  keys_last : Lasts (λ (p q : PathState C). KeysStay p q)
  keys_last = record {
    agenda = λ ds p. record { a = (λ h. h); b = (λ h. h) };
    chains = λ p q r x y. then_keyed p q r x y;
    passes = λ d p. passed_keyed d p;
  }

  -- whatever is replied
  pub takes_keyed : (k : Codec C) (r : Reply) (p : PathState C) → KeysStay p (takes k r p)
  takes_keyed k r p = takes_lasts (λ p q. KeysStay p q) keys_last k r p (λ d. answered_keyed k d r p)

  pub begins_keyed : (p : PathState C) → KeysStay p (begins_turn p)
  begins_keyed p = begins_lasts (λ p q. KeysStay p q) keys_last p

  pub next_keyed : (p : PathState C) → KeysStay p (next_round p)
  next_keyed p =
      let q : PathState C = record p { clock = p.until; until = p.until + 100 } in
      then_keyed p q (next_round p) (record { a = (λ h. h); b = (λ h. h) }) (begins_keyed q)
