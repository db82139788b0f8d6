-- What an end has to treat of a copy stays what the copy said that came last, or is forgotten.
use Rattle.path_core.specs.Treated.{Treated}
use Rattle.world_laws.specs.Writes.{copy_said, Writes, OnlyAt, EndView, writes, side_of}
use Rattle.world_laws.proofs.Writes.Steps.{Lasts, both_ends, unwritten}
use Rattle.whole_paths.proofs.Pieces.{is_event}
use Rattle.std.proofs.Common.{◌≡◌, refl, sym, ◌∙◌, ap, subst, ℕ, Bool, true, false, if◌then◌else◌, Option, Some, None, List, []}
use Rattle.std.proofs.lemmas.Bool.{false≢true}
use Rattle.std.specs.List.{list_any}
use Rattle.sides.specs.declared.side.Side.{Side}
use Rattle.sides.specs.declared.side.Side.TheVariants.{A, B}
use Rattle.dss_mapping.specs.declared.kept.KeptMapping.{KeptMapping}
use Rattle.subflow_tcp.specs.States.{is_dead}
use Rattle.path_store.specs.declared.lines.LineAction.{LineAction}
use Rattle.path_agenda.specs.Agenda.{emission, leaves}
use Rattle.path_agenda.specs.declared.duty.Duty.{Duty}
use Rattle.path_agenda.specs.declared.duty.SendDuty.{SendDuty}
use Rattle.path_agenda.specs.declared.duty.StepDuty.{StepDuty}
use Rattle.path_agenda.specs.declared.duty.AskDuty.{AskDuty}
use Rattle.path_agenda.specs.declared.duty.SilentDuty.{SilentDuty}
use Rattle.path_agenda.specs.declared.heard.Heard.{Heard}
use Rattle.path_agenda.specs.declared.keys.KeyPair.{KeyPair}
use Rattle.path_agenda.specs.Words.{replaced}
use Rattle.actor_desk.specs.declared.ask.Reply.{Reply}
use Rattle.actor_desk.specs.Words.{tail_of}
use Rattle.path_core.specs.Codec.{Codec}
use Rattle.path_core.specs.Duties.{passed, answered}
use Rattle.path_core.specs.End.{PathEnd, died}
use Rattle.path_core.specs.State.{at_tick, PathState, end_at, goes_on, left}
use Rattle.path_core.specs.Breaking.{answered_break}
use Rattle.path_core.specs.Events.{after_line, happens_if}
use Rattle.path_core.specs.MpJoin.{join_begun, never_joined, is_never, keys_begun, opened_by}
use Rattle.path_core.specs.Deliver.{is_wrong, mapping_here, forgotten_by}
use Rattle.path_core.specs.DssIn.{is_clash, counts}
use Rattle.path_core.specs.Treating.{answered_heard, answered_item, item_of, item_passed, heard_passed}
use Rattle.path_core.specs.Fallback.{breaks_by_ack}
use Rattle.path_core.specs.Addresses.{with_priority, having_noted, after_peer_notice}
use Rattle.path_core.specs.declared.events.Event.{Event}
use Rattle.world_laws.proofs.Falls.FailedChecks.{infinite_came_so, fail_answered_so}
use Rattle.world_laws.proofs.Writes.Paths.{writes_no_more}

-- ---- an end

-- nothing of any kind is new
abbrev pub EndSheds : PathEnd → PathEnd → Type 0
EndSheds e f = (test : Heard → Bool) → list_any test f.treated.items ≡ true → list_any test e.treated.items ≡ true

either_end : (b : Bool) (e f g : PathEnd) → EndSheds e f → EndSheds e g → EndSheds e (if b then f else g)
either_end = elim [ true ↦ λ e f g x y. x | false ↦ λ e f g x y. y ]

begun_end : (keys : Option KeyPair) (e : PathEnd) → EndSheds e (opened_by keys e)
begun_end = elim [ None ↦ λ e. λ test h. h | Some keys ↦ λ e. λ test h. h ]

item_end : (s : Side) (item : Heard) (e : PathEnd) → EndSheds e (heard_passed s item e)
item_end s Heard.Dss e = λ test h. h
item_end s (Heard.Mapping fin) e = either_end (counts e) e _ _ (λ test h. h) (λ test h. h)
item_end s (Heard.DataFin place) e = either_end (counts e) e _ _ (λ test h. h) (λ test h. h)
item_end s _ e = λ test h. h

maybe_end : (s : Side) (o : Option Heard) (e : PathEnd) → EndSheds e (item_passed s o e)
maybe_end s None e = λ test h. h
maybe_end s (Some item) e = item_end s item e

checked_end : (checksums : Bool) (o : Option KeptMapping) (e : PathEnd) → EndSheds e (forgotten_by checksums o e)
checked_end checksums None e = λ test h. h
checked_end checksums (Some kept) e = either_end (is_wrong checksums kept e.tcp) e _ _ (λ test h. h) (λ test h. h)

-- a copy arrives
abbrev pub arrives : Option Event → Bool
arrives (Some (Event.Arrives due)) = true
arrives _ = false

-- ---- a path

module _ {C : Type 0} where
  pub record Sheds (p q : PathState C) : Type 0 where
    pub a : EndSheds p.a q.a
    pub b : EndSheds p.b q.b

  stays_sheds : (p : PathState C) → Sheds p p
  stays_sheds p = record { a = λ test h. h; b = λ test h. h }

  then_sheds : (p q r : PathState C) → Sheds p q → Sheds q r → Sheds p r
  then_sheds p q r x y = record { a = λ test h. x.a test (y.a test h); b = λ test h. x.b test (y.b test h) }

  either_sheds : (c : Bool) (q r p : PathState C) → Sheds p q → Sheds p r → Sheds p (if c then q else r)
  either_sheds = elim [ true ↦ λ q r p x y. x | false ↦ λ q r p x y. y ]

  -- the end of a side becomes this, whatever else is on the path
  side_sheds : (s : Side) (e : PathEnd) (p q : PathState C) → q.a ≡ (goes_on s e [] p).a → q.b ≡ (goes_on s e [] p).b → EndSheds (end_at s p) e → Sheds p q
  side_sheds A e p q same_a same_b x = record { a = λ test h. x test (subst (λ (f : PathEnd). list_any test f.treated.items ≡ true) same_a h); b = λ test h. subst (λ (f : PathEnd). list_any test f.treated.items ≡ true) same_b h }
  side_sheds B e p q same_a same_b x = record { a = λ test h. subst (λ (f : PathEnd). list_any test f.treated.items ≡ true) same_a h; b = λ test h. x test (subst (λ (f : PathEnd). list_any test f.treated.items ≡ true) same_b h) }

  pub passed_sheds : (d : Duty) (p : PathState C) → Sheds p (passed d p)
  passed_sheds (Duty.Silent (SilentDuty.Timer s)) p = side_sheds s _ p _ refl refl (λ test h. h)
  passed_sheds (Duty.Step (StepDuty.Heard s index)) p = side_sheds s _ p _ refl refl (maybe_end s (item_of index (end_at s p)) (end_at s p))
  passed_sheds (Duty.Silent (SilentDuty.Keep s)) p = side_sheds s _ p _ refl refl (λ test h. h)
  passed_sheds (Duty.Ask (AskDuty.CheckFailed s)) p = side_sheds s _ p _ refl refl (checked_end p.profile.spelling.checksums (mapping_here (end_at s p)) (end_at s p))
  passed_sheds (Duty.Step (StepDuty.PlainAck s)) p = side_sheds s _ p _ refl refl (λ test h. h)
  passed_sheds (Duty.Step (StepDuty.Unmapped s)) p = side_sheds s _ p _ refl refl (λ test h. h)
  passed_sheds (Duty.Silent (SilentDuty.PassFin s)) p = side_sheds s _ p _ refl refl (λ test h. h)
  passed_sheds _ p = stays_sheds p

  -- ---- what happens by itself

  begun_sheds : (r : Reply) (dead living : List Duty) (p : PathState C) → Sheds p (join_begun r dead living p)
  begun_sheds r dead living p =
      either_sheds (is_never r) (goes_on A (never_joined r (end_at A p)) dead p) (goes_on A (opened_by (keys_begun r) (end_at A p)) living p) p
      (record { a = λ test h. absurd (false≢true h); b = λ test h. h }) (record { a = begun_end (keys_begun r) p.a; b = λ test h. h })

  line_sheds : (action : LineAction) (p : PathState C) → Sheds p (after_line action p)
  line_sheds LineAction.Die p = record {
    a = either_end (is_dead p.a.tcp.state) p.a p.a (died p.a) (λ test h. h) (λ test h. absurd (false≢true h));
    b = either_end (is_dead p.b.tcp.state) p.b p.b (died p.b) (λ test h. h) (λ test h. absurd (false≢true h));
  }
  line_sheds (LineAction.Prio s backup) p = side_sheds s (with_priority backup (end_at s p)) p _ refl refl (λ test h. h)
  line_sheds (LineAction.Announce s id) p = record { a = λ test h. h; b = λ test h. h }
  line_sheds (LineAction.Withdraw s id) p = record { a = λ test h. h; b = λ test h. h }

  -- but for a copy that arrives
  pub comes_sheds : (k : Codec C) (event : Option Event) (r : Reply) (p : PathState C) → arrives event ≡ false → Sheds p (happens_if k event r p)
  comes_sheds k None r p other = record { a = λ test h. h; b = λ test h. h }
  comes_sheds k (Some (Event.Joins tick)) r p other =
      let q : PathState C = record (at_tick tick p) { joined_at = None } in
      then_sheds p q _ (record { a = λ test h. h; b = λ test h. h }) (begun_sheds r (leaves A) (emission A) q)
  comes_sheds k (Some (Event.Takes line)) r p other =
      let q : PathState C = record (at_tick line.tick p) { lines = tail_of p.lines } in
      then_sheds p q _ (record { a = λ test h. h; b = λ test h. h }) (line_sheds line.action q)
  comes_sheds k (Some (Event.Arrives due)) r p other = absurd (false≢true (sym other))
  comes_sheds k (Some (Event.Fires s tick)) r p other = side_sheds s _ p _ refl refl (λ test h. h)

  -- ---- replies

  break_sheds : (k : Codec C) (s : Side) (reason : ℕ) (r : Reply) (p : PathState C) → Sheds p (answered_break k s reason r p)
  break_sheds k s reason r p = either_sheds (end_at s p).treated.asked _ _ p (side_sheds s _ p _ refl refl (λ test h. h)) (side_sheds s _ p _ refl refl (λ test h. absurd (false≢true h)))

  heard_item_sheds : (k : Codec C) (s : Side) (item : Heard) (r : Reply) (p : PathState C) → Sheds p (answered_heard k s item r p)
  heard_item_sheds k s (Heard.DataAck next window) r p = side_sheds s _ p _ refl refl (λ test h. h)
  heard_item_sheds k s (Heard.Mapping fin) r p =
      either_sheds (is_clash (end_at s p)) _ _ p (break_sheds k s 1 r p) (side_sheds s _ p _ refl refl (λ test h. h))
  heard_item_sheds k s (Heard.DataFin place) r p = side_sheds s _ p _ refl refl (λ test h. h)
  heard_item_sheds k s (Heard.InfiniteMapping place position) r p =
      side_sheds s _ p _ refl refl (infinite_came_so (EndSheds (end_at s p)) place position r (end_at s p) (λ other test h. h))
  heard_item_sheds k s (Heard.Keys own peer) r p =
      side_sheds s _ p _ refl refl (λ test h. h)
  heard_item_sheds k s (Heard.Notice notice) r p = side_sheds s (after_peer_notice notice r (end_at s p)) p _ refl refl (λ test h. h)
  heard_item_sheds k s Heard.Fail r p =
      fail_answered_so (Sheds p) s r p (side_sheds s _ p _ refl refl (λ test h. h)) (side_sheds s _ p _ refl refl (λ test h. h))
  heard_item_sheds k s _ r p = record { a = λ test h. h; b = λ test h. h }

  item_sheds : (k : Codec C) (s : Side) (item : Option Heard) (r : Reply) (p : PathState C) → Sheds p (answered_item k s item r p)
  item_sheds k s None r p = record { a = λ test h. h; b = λ test h. h }
  item_sheds k s (Some item) r p = heard_item_sheds k s item r p

  -- where what a copy said may be written at neither end
  kept_by : (s : Side) (w : Writes) (p q : PathState C) → w.own.copy ≡ false → w.other.copy ≡ false → OnlyAt s w p q → Sheds p q
  kept_by s w p q own other x =
      let both = both_ends EndSheds s w p q
      (λ e f y test h. ap (λ (t : Treated). list_any test t.items) (sym (unwritten w.own.copy (copy_said e.treated) (copy_said f.treated) own (ap (λ (v : EndView). v.copy) y.same))) ∙ h)
      (λ e f y test h. ap (λ (t : Treated). list_any test t.items) (sym (unwritten w.other.copy (copy_said e.treated) (copy_said f.treated) other (ap (λ (v : EndView). v.copy) y.same))) ∙ h) x in
      record { a = both.0; b = both.1 }

  -- but for an event
  pub answered_sheds : (k : Codec C) (d : Duty) → is_event d ≡ false → (r : Reply) (p : PathState C) → Sheds p (answered k d r p)
  answered_sheds k (Duty.Ask AskDuty.JoinAgain) other r p = begun_sheds r (replaced (Duty.Ask (AskDuty.Leave A)) p.agenda) (left p) p
  answered_sheds k (Duty.Send (SendDuty.Notice s)) other r p = side_sheds s (having_noted s p) p _ refl refl (λ test h. h)
  answered_sheds k (Duty.Step StepDuty.Events) other r p = absurd (false≢true (sym other))
  answered_sheds k (Duty.Step (StepDuty.Heard s index)) other r p = item_sheds k s (item_of index (end_at s p)) r p
  answered_sheds k (Duty.Step (StepDuty.PlainAck s)) other r p =
      either_sheds (breaks_by_ack p.profile (end_at s p)) _ _ p (break_sheds k s 6 r p) (side_sheds s _ p _ refl refl (λ test h. h))
  answered_sheds k (Duty.Step (StepDuty.Unmapped s)) other r p = break_sheds k s 6 r p
  answered_sheds k (Duty.Send (SendDuty.BreakReset s reason)) other r p = side_sheds s _ p _ refl refl (λ test h. absurd (false≢true h))
  answered_sheds k (Duty.Send (SendDuty.Reset s)) other r p = side_sheds s _ p _ refl refl (λ test h. absurd (false≢true h))
  answered_sheds k (Duty.Send (SendDuty.ResetNoted s)) other r p = side_sheds s _ p _ refl refl (λ test h. absurd (false≢true h))
  answered_sheds k (Duty.Ask (AskDuty.LeaveNoted s)) other r p = side_sheds s _ p _ refl refl (λ test h. absurd (false≢true h))
  answered_sheds k (Duty.Silent d) other r p = record { a = λ test h. h; b = λ test h. h }
  answered_sheds k d other r p = kept_by (side_of d) (writes d) p _ refl refl (writes_no_more k d r p)

  pub sheds_at : (s : Side) (p q : PathState C) → Sheds p q → EndSheds (end_at s p) (end_at s q)
  sheds_at = elim [ A ↦ λ p q x. x.a | B ↦ λ p q x. x.b ]

  pub sheds_last : Lasts Sheds
  sheds_last = record { agenda = λ ds p. record { a = λ test h. h; b = λ test h. h }; chains = λ p q r x y. then_sheds p q r x y; passes = λ d p. passed_sheds d p }
