-- An end that may send a DSS may always send one: it stays clear. And one that fell back to plain TCP stays so.
use Rattle.world_laws.proofs.Words.{◌≡◌, refl, ◌∙◌, ap, ℕ, ◌+◌, Bool, true, false, if◌then◌else◌, Option, Some, None, List, [], both_ways, or_left, FallEvent}
use Rattle.world_laws.proofs.Words.{Side, A, B, JoinAnswer, ControlReply, is_dead, is_half_open, Meaning, EndPhase, arriving, after_delivery, HeardSegment}
use Rattle.world_laws.proofs.Words.{LineAction, emission, leaves, Duty, SendDuty, StepDuty, AskDuty, SilentDuty, Heard, KeyPair, keys_heard, Reply, tail_of}
use Rattle.world_laws.proofs.Words.{Codec, passed, answered, PathEnd, died, at_tick, PathState, end_at, goes_on, takes, begins_turn, next_round, items_of}
use Rattle.world_laws.proofs.Words.{options_heard, after_judged, asked_in, judged_in, with_held, heard_in, copy_heard, told_at, answered_break, next_event}
use Rattle.world_laws.proofs.Words.{after_line, happens_if, join_begun, never_joined, is_never, keys_begun, opened_by, is_joined, join_answer, is_clash}
use Rattle.world_laws.proofs.Words.{held_of, HeardOption, answered_heard, answered_item, item_of, item_passed, after_fell, fell_in, answered_opened, keys_in}
use Rattle.world_laws.proofs.Words.{answered_in, cleared_in, taken_as, with_answer, Modes, is_side_a, EndWrites, Only, Writes, OnlyAt, EndView, writes, side_of}
use Rattle.path_core.specs.Judged.{after_join}
use Rattle.path_core.specs.declared.events.Event.{Event}
use Rattle.world_laws.proofs.Falls.FailedChecks.{infinite_came_so, fail_answered_so}
use Rattle.world_laws.proofs.Writes.Ends.{fell_so, item_so}
use Rattle.world_laws.proofs.Writes.Paths.{writes_no_more, passes_no_more}
use Rattle.world_laws.proofs.Writes.Steps.{both_ends, Lasts, unwritten, takes_lasts, begins_lasts}

-- what is clear was clear, or became so
pub unclear_before : (b c : Bool) → (b ≡ true → c ≡ true) → c ≡ false → b ≡ false
unclear_before = elim [ false ↦ λ c on is. refl | true ↦ λ c on is. absurd (both_ways c is (on refl)) ]

-- ---- what is known of the modes

abbrev pub Stays : Modes → Modes → Type 0
Stays m n = (m.clear ≡ true → n.clear ≡ true) × (m.identity ≡ true → n.identity ≡ true)

then_stays : (m n o : Modes) → Stays m n → Stays n o → Stays m o
then_stays m n o x y = (λ h. y.0 (x.0 h), λ h. y.1 (x.1 h))

fell_clear : (event : FallEvent) (r : Reply) (m : Modes) → Stays m (fell_in event r m)
fell_clear event r m = fell_so (Stays m) event r m (λ mode owes. (λ h. h, λ h. h))

keyed_clear : (r : Reply) (keys : Option KeyPair) (m : Modes) → Stays m (keys_in r keys m)
keyed_clear (Reply.Control ControlReply.Noted) (Some keys) m = (λ h. refl, λ h. h)
keyed_clear _ keys m = (λ h. h, λ h. h)

with_answer_clear : (o : Option JoinAnswer) (m : Modes) → Stays m (with_answer o m)
with_answer_clear = elim [ None ↦ λ m. (λ h. h, λ h. h) | Some answer ↦ λ m. (λ h. h, λ h. h) ]

answered_clear_in : (meaning : Meaning) (items : List Heard) (m : Modes) → Stays m (answered_in meaning items m)
answered_clear_in (Meaning.Accepts acknowledged) items m = with_answer_clear (join_answer items m) m
answered_clear_in _ items m = (λ h. h, λ h. h)

cleared_clear : (meaning : Meaning) (state : EndPhase) (m : Modes) → Stays m (cleared_in meaning state m)
cleared_clear (Meaning.Taken position acknowledged) state m = (λ h. or_left m.clear (is_half_open state) h, λ h. h)
cleared_clear _ state m = (λ h. h, λ h. h)

asked_clear : (meaning : Meaning) (options : List HeardOption) (m : Modes) → Stays m (asked_in meaning options m)
asked_clear = elim [ Meaning.Opens ↦ λ options m. (λ h. h, λ h. h) | _ ↦ λ options m. (λ h. h, λ h. h) ]

heard_clear : (joined : Bool) (meaning : Meaning) (items : List Heard) (state : EndPhase) (m : Modes) → Stays m (if joined then cleared_in meaning state (answered_in meaning items m) else m)
heard_clear true meaning items state m =
    then_stays m (answered_in meaning items m) (cleared_in meaning state (answered_in meaning items m)) (answered_clear_in meaning items m) (cleared_clear meaning state (answered_in meaning items m))
heard_clear false meaning items state m = (λ h. h, λ h. h)

-- ---- an end

abbrev EndStays : PathEnd → PathEnd → Type 0
EndStays e f = Stays e.modes f.modes

either_end : (b : Bool) (e f g : PathEnd) → EndStays e f → EndStays e g → EndStays e (if b then f else g)
either_end = elim [ true ↦ λ e f g x y. x | false ↦ λ e f g x y. y ]

begun_end : (keys : Option KeyPair) (e : PathEnd) → EndStays e (opened_by keys e)
begun_end = elim [ None ↦ λ e. (λ h. h, λ h. h) | Some keys ↦ λ e. (λ h. h, λ h. h) ]

pub maybe_end : (s : Side) (o : Option Heard) (e : PathEnd) → EndStays e (item_passed s o e)
maybe_end s o e =
    item_so (EndStays e) s o e (λ h. h, λ h. h) (λ h. or_left e.modes.clear (is_side_a s) h, λ h. h) (λ next. (λ h. h, λ h. h)) (λ h. h, λ h. h) (λ h. h, λ h. h)
    (λ place. (λ h. h, λ h. h))

end_kept : (w : EndWrites) (e f : PathEnd) → w.clear ≡ false → w.identity ≡ false → Only w e f → EndStays e f
end_kept w e f clear identity x = (
  λ h. unwritten w.clear e.modes.clear f.modes.clear clear (ap (λ (v : EndView). v.clear) x.same) ∙ h,
  λ h. unwritten w.identity e.modes.identity f.modes.identity identity (ap (λ (v : EndView). v.identity) x.same) ∙ h,
)

-- ---- a path

module _ {C : Type 0} where
  pub record Clears (p q : PathState C) : Type 0 where
    pub a : EndStays p.a q.a
    pub b : EndStays p.b q.b

  stays_clear : (p : PathState C) → Clears p p
  stays_clear p = record { a = (λ h. h, λ h. h); b = (λ h. h, λ h. h) }

  then_clear : (p q r : PathState C) → Clears p q → Clears q r → Clears p r
  then_clear p q r x y = record { a = then_stays p.a.modes q.a.modes r.a.modes x.a y.a; b = then_stays p.b.modes q.b.modes r.b.modes x.b y.b }

  either_clear : (c : Bool) (q r p : PathState C) → Clears p q → Clears p r → Clears p (if c then q else r)
  either_clear = elim [ true ↦ λ q r p x y. x | false ↦ λ q r p x y. y ]

  -- the end of a side becomes this, whatever else is on the path
  side_clear : (s : Side) (e : PathEnd) (p q : PathState C) → EndStays (end_at s p) e → q.a ≡ (goes_on s e [] p).a → q.b ≡ (goes_on s e [] p).b → Clears p q
  side_clear A e p q x same_a same_b = record { a = (λ h. rw same_a (x.0 h), λ h. rw same_a (x.1 h)); b = (λ h. rw same_b h, λ h. rw same_b h) }
  side_clear B e p q x same_a same_b = record { a = (λ h. rw same_a h, λ h. rw same_a h); b = (λ h. rw same_b (x.0 h), λ h. rw same_b (x.1 h)) }

  -- where both may be written at neither end
  kept_by : (s : Side) (w : Writes) (p q : PathState C) → w.own.clear ≡ false → w.own.identity ≡ false → w.other.clear ≡ false → w.other.identity ≡ false
      → OnlyAt s w p q → Clears p q
  kept_by s w p q own_clear own_identity other_clear other_identity x =
      let both = both_ends EndStays s w p q (λ e f y. end_kept w.own e f own_clear own_identity y) (λ e f y. end_kept w.other e f other_clear other_identity y) x in
      record { a = both.0; b = both.1 }

  pub passed_clear : (d : Duty) (p : PathState C) → Clears p (passed d p)
  passed_clear (Duty.Step (StepDuty.Heard s index)) p = side_clear s _ p _ (maybe_end s (item_of index (end_at s p)) (end_at s p)) refl refl
  passed_clear (Duty.Step StepDuty.Events) p = stays_clear p
  passed_clear (Duty.Ask (AskDuty.Opened s)) p = stays_clear p
  passed_clear (Duty.Ask (AskDuty.GoIdentity s)) p = stays_clear p
  passed_clear (Duty.Send (SendDuty.Update s)) p = stays_clear p
  passed_clear (Duty.Silent (SilentDuty.Timer s)) p =
      kept_by s (writes (Duty.Silent (SilentDuty.Timer s))) p _ refl refl refl refl (passes_no_more (Duty.Silent (SilentDuty.Timer s)) p)
  passed_clear d p = kept_by (side_of d) (writes d) p _ refl refl refl refl (passes_no_more d p)

  -- ---- what happens by itself

  begun_clear : (r : Reply) (dead living : List Duty) (p : PathState C) → Clears p (join_begun r dead living p)
  begun_clear r dead living p =
      either_clear (is_never r) (goes_on A (never_joined r (end_at A p)) dead p) (goes_on A (opened_by (keys_begun r) (end_at A p)) living p) p
      (record { a = (λ h. h, λ h. h); b = (λ h. h, λ h. h) }) (record { a = begun_end (keys_begun r) p.a; b = (λ h. h, λ h. h) })

  line_clear : (action : LineAction) (p : PathState C) → Clears p (after_line action p)
  line_clear LineAction.Die p = record {
    a = either_end (is_dead p.a.tcp.state) p.a p.a (died p.a) (λ h. h, λ h. h) (λ h. h, λ h. h);
    b = either_end (is_dead p.b.tcp.state) p.b p.b (died p.b) (λ h. h, λ h. h) (λ h. h, λ h. h);
  }
  line_clear (LineAction.Prio s backup) p = side_clear s _ p _ (λ h. h, λ h. h) refl refl
  line_clear (LineAction.Announce s id) p = record { a = (λ h. h, λ h. h); b = (λ h. h, λ h. h) }
  line_clear (LineAction.Withdraw s id) p = record { a = (λ h. h, λ h. h); b = (λ h. h, λ h. h) }

  told_clear_at : (now : ℕ) (s : Side) (x : HeardSegment) (p : PathState C) → Clears p (told_at now s x p)
  told_clear_at now s x p =
      let joined = is_joined p.profile in let e = end_at s p in let items = items_of joined s x in
      let meaning : Meaning = taken_as (judged_in joined s x e) in
      let held : PathEnd = with_held (held_of p.profile s x) x meaning e in
      let middle : Modes = (after_join joined items meaning held).modes in
      side_clear s (after_judged p.profile s now x (judged_in joined s x e) e) p (told_at now s x p)
      (then_stays e.modes middle (asked_in meaning x.options middle) (heard_clear joined meaning items held.tcp.state e.modes) (asked_clear meaning x.options middle)) refl refl

  copy_clear : (s : Side) (heard : Option HeardSegment) (p : PathState C) → Clears p (copy_heard s heard p)
  copy_clear s None p = record { a = (λ h. h, λ h. h); b = (λ h. h, λ h. h) }
  copy_clear s (Some heard) p = told_clear_at p.clock s (options_heard (end_at s p) heard) p

  happens_clear : (k : Codec C) (event : Option Event) (r : Reply) (p : PathState C) → Clears p (happens_if k event r p)
  happens_clear k None r p = record { a = (λ h. h, λ h. h); b = (λ h. h, λ h. h) }
  happens_clear k (Some (Event.Joins tick)) r p =
      let q : PathState C = record (at_tick tick p) { joined_at = None } in
      then_clear p q _ (record { a = (λ h. h, λ h. h); b = (λ h. h, λ h. h) }) (begun_clear r (leaves A) (emission A) q)
  happens_clear k (Some (Event.Takes line)) r p =
      let q : PathState C = record (at_tick line.tick p) { lines = tail_of p.lines } in
      then_clear p q _ (record { a = (λ h. h, λ h. h); b = (λ h. h, λ h. h) }) (line_clear line.action q)
  happens_clear k (Some (Event.Arrives due)) r p =
      let q : PathState C = record (at_tick due.tick p) { link = after_delivery due p.link } in
      then_clear p q _ (record { a = (λ h. h, λ h. h); b = (λ h. h, λ h. h) }) (copy_clear due.to (heard_in k due.to (arriving due p.link) p) q)
  happens_clear k (Some (Event.Fires s tick)) r p = side_clear s _ p _ (λ h. h, λ h. h) refl refl

  -- ---- replies

  break_clear : (k : Codec C) (s : Side) (reason : ℕ) (r : Reply) (p : PathState C) → Clears p (answered_break k s reason r p)
  break_clear k s reason r p = either_clear (end_at s p).treated.asked _ _ p (side_clear s _ p _ (λ h. h, λ h. h) refl refl) (side_clear s _ p _ (λ h. h, λ h. h) refl refl)

  -- what was told of the mode leaves the end clear, and so does what is done then
  fell_path : (s : Side) (event : FallEvent) (r : Reply) (e : PathEnd) (q p : PathState C) → EndStays (after_fell event r (end_at s p)) e → q.a ≡ (goes_on s e [] p).a → q.b ≡ (goes_on s e [] p).b → Clears p q
  fell_path s event r e q p rest same_a same_b = side_clear s e p q (then_stays (end_at s p).modes (fell_in event r (end_at s p).modes) e.modes (fell_clear event r (end_at s p).modes) rest) same_a same_b

  opened_clear : (s : Side) (keys : Option KeyPair) (r : Reply) (p : PathState C) → Clears p (answered_opened s keys r p)
  opened_clear s None r p = fell_path s FallEvent.PlainHandshake r _ _ p (λ h. h, λ h. h) refl refl
  opened_clear s (Some keys) r p = side_clear s _ p _ (keyed_clear r (Some keys) (end_at s p).modes) refl refl

  heard_item_clear : (k : Codec C) (s : Side) (item : Heard) (r : Reply) (p : PathState C) → Clears p (answered_heard k s item r p)
  heard_item_clear k s (Heard.DataAck next window) r p = side_clear s _ p _ (λ h. h, λ h. h) refl refl
  heard_item_clear k s (Heard.Mapping fin) r p =
      either_clear (is_clash (end_at s p)) _ _ p (break_clear k s 1 r p) (fell_path s FallEvent.MappingHeard r _ _ p (λ h. h, λ h. h) refl refl)
  heard_item_clear k s (Heard.DataFin place) r p = fell_path s FallEvent.MappingHeard r _ _ p (λ h. h, λ h. h) refl refl
  heard_item_clear k s (Heard.InfiniteMapping place position) r p =
      fell_path s FallEvent.InfiniteHeard r _ _ p
      (infinite_came_so (EndStays (after_fell FallEvent.InfiniteHeard r (end_at s p))) place position r (end_at s p) (λ other. (λ h. h, λ h. h))) refl refl
  heard_item_clear k s (Heard.Keys own peer) r p =
      side_clear s _ p _ (keyed_clear r (Some (record { own = own; peer = peer })) (end_at s p).modes) refl refl
  heard_item_clear k s (Heard.Notice notice) r p = side_clear s _ p _ (λ h. h, λ h. h) refl refl
  heard_item_clear k s Heard.Fail r p =
      fail_answered_so (Clears p) s r p (side_clear s _ p _ (λ h. h, λ h. h) refl refl) (fell_path s (FallEvent.FailHeard false) r _ _ p (λ h. h, λ h. h) refl refl)
  heard_item_clear k s _ r p = record { a = (λ h. h, λ h. h); b = (λ h. h, λ h. h) }

  item_clear : (k : Codec C) (s : Side) (item : Option Heard) (r : Reply) (p : PathState C) → Clears p (answered_item k s item r p)
  item_clear k s None r p = record { a = (λ h. h, λ h. h); b = (λ h. h, λ h. h) }
  item_clear k s (Some item) r p = heard_item_clear k s item r p

  pub answered_clear : (k : Codec C) (d : Duty) (r : Reply) (p : PathState C) → Clears p (answered k d r p)
  answered_clear k (Duty.Step StepDuty.Events) r p = happens_clear k (next_event p) r p
  answered_clear k (Duty.Step (StepDuty.Heard s index)) r p = item_clear k s (item_of index (end_at s p)) r p
  answered_clear k (Duty.Ask (AskDuty.Opened s)) r p = opened_clear s (keys_heard (end_at s p).treated.items) r p
  answered_clear k (Duty.Ask (AskDuty.GoIdentity s)) r p = side_clear s _ p _ (λ h. h, λ h. refl) refl refl
  answered_clear k (Duty.Send (SendDuty.Update s)) r p =
      kept_by s (writes (Duty.Send (SendDuty.Update s))) p _ refl refl refl refl (writes_no_more k (Duty.Send (SendDuty.Update s)) r p)
  answered_clear k (Duty.Silent d) r p = record { a = (λ h. h, λ h. h); b = (λ h. h, λ h. h) }
  answered_clear k d r p = kept_by (side_of d) (writes d) p _ refl refl refl refl (writes_no_more k d r p)

  clears_last : Lasts (λ (p q : PathState C). Clears p q)
  clears_last = record {
    agenda = λ ds p. record { a = (λ h. h, λ h. h); b = (λ h. h, λ h. h) };
    chains = λ p q r x y. then_clear p q r x y;
    passes = λ d p. passed_clear d p;
  }

  -- both ends stay clear, whatever is replied
  pub takes_clear : (k : Codec C) (r : Reply) (p : PathState C) → Clears p (takes k r p)
  takes_clear k r p = takes_lasts (λ p q. Clears p q) clears_last k r p (λ d. answered_clear k d r p)

  pub begins_clear : (p : PathState C) → Clears p (begins_turn p)
  begins_clear p = begins_lasts (λ p q. Clears p q) clears_last p

  pub next_clear : (p : PathState C) → Clears p (next_round p)
  next_clear p =
      let q : PathState C = record p { clock = p.until; until = p.until + 100 } in
      then_clear p q (next_round p) (record { a = (λ h. h, λ h. h); b = (λ h. h, λ h. h) }) (begins_clear q)
