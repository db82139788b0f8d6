-- The clock of a path stands within its round, and the round's end within 100 ticks for each turn; and its link goes by the same lines.
use Rattle.std.proofs.Common.{⊎_elim, length, ◌∙◌, zero, suc, ◌≤◌, ◌<◌, ◌*◌, max, cond, arith, ◌≡◌, refl, sym, ap, subst, ℕ, ◌+◌, nat_lt, Bool, true, false, if◌then◌else◌, Option, Some, None, List, [], ◌∷◌}
use Rattle.actor_desk.specs.declared.ask.Reply.{Reply}
use Rattle.path_agenda.specs.declared.duty.AskDuty.{AskDuty}
use Rattle.path_agenda.specs.declared.duty.Duty.{Duty}
use Rattle.path_agenda.specs.declared.duty.SendDuty.{SendDuty}
use Rattle.path_agenda.specs.declared.duty.SilentDuty.{SilentDuty}
use Rattle.path_agenda.specs.declared.duty.StepDuty.{StepDuty}
use Rattle.path_agenda.specs.declared.heard.Heard.{Heard}
use Rattle.path_core.specs.Arrival.{copy_heard}
use Rattle.path_core.specs.Breaking.{answered_break}
use Rattle.path_core.specs.DssIn.{is_clash}
use Rattle.path_core.specs.Duties.{answered, passed}
use Rattle.path_core.specs.Emission.{Grant, answered_data, answered_grant, first_unsent, grant_in}
use Rattle.path_core.specs.End.{PathEnd}
use Rattle.path_core.specs.Events.{after_line, happens_if, next_event}
use Rattle.path_core.specs.Fallback.{breaks_by_ack}
use Rattle.path_core.specs.Handover.{sent_on}
use Rattle.path_core.specs.MpJoin.{join_begun, never_joined, opened_by, keys_begun}
use Rattle.path_core.specs.State.{PathState, end_at, goes_on, at_tick}
use Rattle.path_core.specs.Steps.{takes}
use Rattle.path_core.specs.Treating.{answered_heard, answered_item, item_of}
use Rattle.path_core.specs.Values.{Carried, values}
use Rattle.path_core.specs.declared.events.Event.{Event}
use Rattle.path_segments.specs.Spelled.{PlainSegment}
use Rattle.path_store.specs.declared.lines.LineAction.{LineAction}
use Rattle.sides.specs.declared.side.Side.TheVariants.{A, B}
use Rattle.sides.specs.declared.side.Side.{Side}
use Rattle.stream_lanes.specs.Words.{Every}
use Rattle.subflow_send.specs.Records.{Record}
use Rattle.world_laws.proofs.Writes.Paths.{writes_no_more}
use Rattle.world_laws.proofs.Writes.Steps.{Lasts, unwritten, takes_lasts, begins_lasts}
use Rattle.world_laws.specs.Writes.{writes, side_of, OnlyAt}
use Rattle.path_segments.specs.Heard.{HeardSegment}
use Rattle.std.specs.Option.{IfSome, option_and_then}
use Rattle.std.proofs.lemmas.Bool.{ltb-true}
use Rattle.stream_lanes.specs.Words.{Has}
use Rattle.link_script.specs.declared.script.ScriptLine.{ScriptLine}
use Rattle.link_script.specs.Places.{path_named}
use Rattle.link_model.specs.Steps.{after_delivery, is_path, lines_of}
use Rattle.link_model.specs.State.{LinkState}
use Rattle.actor_desk.specs.Words.{tail_of}
use Rattle.path_core.specs.Events.{before, earliest, tick_of}
use Rattle.world_laws.proofs.Worlds.Turns.{turn_so}
use Rattle.world_laws.proofs.Worlds.Opened.{opened_actors}
use Rattle.world_laws.specs.Actors.{Actor, ActorCrew, member_takes, member_next}
use Rattle.world_laws.specs.Openings.{Start, path_begins, opened_world}
use Rattle.world_laws.specs.StampedBooks.{answer_to}
use Rattle.world_laws.specs.Worlds.{WorldState, Turn, world_run, crew_after, begins, greatest}
use Rattle.world_laws.specs.declared.member.Member.TheVariants.{App, Path}
use Rattle.path_core.specs.Start.{waiting_path}
use Rattle.stream_lanes.specs.Words.{Every}
use Rattle.stream_lanes.proofs.Lists.{Every-nil, in_map, in_set}
use Rattle.std.specs.List.{slice_get}
use Rattle.world_laws.specs.Worlds.{after_turn}
use Rattle.world_laws.specs.Writes.{PathView}

-- ---- one step

-- what a path keeps
pub record Timed (p q : PathState Carried) : Type 0 where
  pub until : q.until ≡ p.until
  pub lines : q.link.lines ≡ p.link.lines
  pub clock : p.clock ≤ p.until → q.clock ≤ p.until

stays : (p : PathState Carried) → Timed p p
stays p = record { until = refl; lines = refl; clock = λ z. z }

on : (s : Side) (e : PathEnd) (ds : List Duty) (p : PathState Carried) → Timed p (goes_on s e ds p)
on s e ds p = record { until = refl; lines = refl; clock = λ z. z }

sent : (s : Side) (segment : PlainSegment) (e : PathEnd) (ds : List Duty) (p : PathState Carried) → Timed p (sent_on values s segment e ds p)
sent A segment e ds p = record { until = refl; lines = refl; clock = λ z. z }
sent B segment e ds p = record { until = refl; lines = refl; clock = λ z. z }

then_timed : (p q r : PathState Carried) → Timed p q → Timed q r → Timed p r
then_timed p q r x y = record {
  until = y.until ∙ x.until;
  lines = y.lines ∙ x.lines;
  clock = λ z. let one = x.until in let most = x.clock z in let more = y.clock (omega (arith, one, most)) in omega (arith, one, more);
}

either : (b : Bool) (p q r : PathState Carried) → Timed p q → Timed p r → Timed p (if b then q else r)
either true p q r x y = x
either false p q r x y = y

-- a duty that writes neither the link nor the clock
only : (d : Duty) (p q : PathState Carried) → (writes d).link ≡ false → (writes d).events ≡ false → OnlyAt (side_of d) (writes d) p q → Timed p q
only d p q link events x =
    let same_link = unwritten (writes d).link p.link q.link link (ap (λ (v : PathView Carried). v.link) x.same) in
    let same_clock = unwritten (writes d).events p.clock q.clock events (ap (λ (v : PathView Carried). v.clock) x.same) in
    record { until = ap (λ (v : PathView Carried). v.until) x.same; lines = ap (λ (l : LinkState Carried). l.lines) same_link; clock = λ z. omega (arith, same_clock, z) }

break_timed : (s : Side) (reason : ℕ) (r : Reply) (p : PathState Carried) → Timed p (answered_break values s reason r p)
break_timed s reason r p = either (end_at s p).treated.asked p _ _ (on s _ _ p) (sent s _ _ _ p)

join_timed : (r : Reply) (dead living : List Duty) (p : PathState Carried) → Timed p (join_begun r dead living p)
join_timed r dead living p = either _ p _ _ (on A (never_joined r p.a) dead p) (on A (opened_by (keys_begun r) p.a) living p)

-- ---- what happens by itself

-- at the tick of an event before the round's end
later_on : (tick : ℕ) (p q : PathState Carried) → tick < p.until → q.until ≡ p.until → q.link.lines ≡ p.link.lines → q.clock ≡ max p.clock tick → Timed p q
later_on tick p q before until lines clock = record { until = until; lines = lines; clock = λ z. omega (arith, before, clock, z) }

line_timed : (action : LineAction) (p : PathState Carried) → Timed p (after_line action p)
line_timed LineAction.Die p = record { until = refl; lines = refl; clock = λ z. z }
line_timed (LineAction.Prio s backup) p = on s _ _ p
line_timed (LineAction.Announce s id) p = record { until = refl; lines = refl; clock = λ z. z }
line_timed (LineAction.Withdraw s id) p = record { until = refl; lines = refl; clock = λ z. z }

copy_timed : (s : Side) (o : Option HeardSegment) (p : PathState Carried) → Timed p (copy_heard s o p)
copy_timed s None p = record { until = refl; lines = refl; clock = λ z. z }
copy_timed s (Some x) p = on s _ _ p

event_timed : (o : Option Event) (r : Reply) (p : PathState Carried) → IfSome o (λ event. tick_of event < p.until) → Timed p (happens_if values o r p)
event_timed None r p before = record { until = refl; lines = refl; clock = λ z. z }
event_timed (Some (Event.Joins tick)) r p before =
    let q : PathState Carried = record (at_tick tick p) { joined_at = None } in
    then_timed p q _ (later_on tick p q before refl refl refl) (join_timed r _ _ q)
event_timed (Some (Event.Takes line)) r p before =
    let q : PathState Carried = record (at_tick line.tick p) { lines = tail_of p.lines } in
    then_timed p q _ (later_on line.tick p q before refl refl refl) (line_timed line.action q)
event_timed (Some (Event.Arrives due)) r p before =
    let q : PathState Carried = record (at_tick due.tick p) { link = after_delivery due p.link } in
    then_timed p q _ (later_on due.tick p q before refl refl refl) (copy_timed due.to _ q)
event_timed (Some (Event.Fires s tick)) r p before =
    let q : PathState Carried = at_tick tick p in
    then_timed p q _ (later_on tick p q before refl refl refl) (on s _ _ q)

next_before : (p : PathState Carried) → IfSome (next_event p) (λ event. tick_of event < p.until)
next_before p = by (earliest p)
  where
    early : (event : Event) (b : Bool) → nat_lt (tick_of event) p.until ≡ b → IfSome (if b then Some event else None) (λ event. tick_of event < p.until)
    early event true is = ltb-true (tick_of event) p.until is
    early event false is = tt

    by : (o : Option Event) → IfSome (option_and_then (before p.until) o) (λ event. tick_of event < p.until)
    by None = tt
    by (Some event) = early event (nat_lt (tick_of event) p.until) refl

-- ---- replies

data_timed : (s : Side) (o : Option Record) (r : Reply) (p : PathState Carried) → Timed p (answered_data values s o r p)
data_timed s (Some next) r p = sent s _ _ _ p
data_timed s None r p = granted (grant_in r)
  where
    granted : (o : Option Grant) → Timed p (answered_grant s o r p)
    granted None = on s _ _ p
    granted (Some grant) = on s _ _ p

thing_timed : (s : Side) (item : Heard) (r : Reply) (p : PathState Carried) → Timed p (answered_heard values s item r p)
thing_timed s (Heard.DataAck next window) r p = on s _ _ p
thing_timed s (Heard.Mapping fin) r p = either (is_clash (end_at s p)) p _ _ (break_timed s 1 r p) (on s _ _ p)
thing_timed s (Heard.DataFin place) r p = on s _ _ p
thing_timed s (Heard.InfiniteMapping place position) r p = on s _ _ p
thing_timed s (Heard.Keys own peer) r p = on s _ _ p
thing_timed s (Heard.Notice notice) r p = on s _ _ p
thing_timed s Heard.Fail r p = either _ p _ _ (on s _ _ p) (on s _ _ p)
thing_timed s (Heard.FastClose key) r p = record { until = refl; lines = refl; clock = λ z. z }
thing_timed s _ r p = record { until = refl; lines = refl; clock = λ z. z }

item_timed : (s : Side) (o : Option Heard) (r : Reply) (p : PathState Carried) → Timed p (answered_item values s o r p)
item_timed s None r p = record { until = refl; lines = refl; clock = λ z. z }
item_timed s (Some item) r p = thing_timed s item r p

step_timed : (d : StepDuty) (r : Reply) (p : PathState Carried) → Timed p (answered values (Duty.Step d) r p)
step_timed (StepDuty.Look s) r p = only (Duty.Step (StepDuty.Look s)) p _ refl refl (writes_no_more values (Duty.Step (StepDuty.Look s)) r p)
step_timed (StepDuty.Data s) r p = data_timed s (first_unsent (end_at s p)) r p
step_timed StepDuty.Events r p = event_timed (next_event p) r p (next_before p)
step_timed (StepDuty.Heard s index) r p = item_timed s (item_of index (end_at s p)) r p
step_timed (StepDuty.PlainAck s) r p = either (breaks_by_ack p.profile (end_at s p)) p _ _ (break_timed s 6 r p) (on s _ _ p)
step_timed (StepDuty.Unmapped s) r p = break_timed s 6 r p

send_timed : (d : SendDuty) (r : Reply) (p : PathState Carried) → Timed p (answered values (Duty.Send d) r p)
send_timed (SendDuty.Update s) r p = sent s _ _ _ p
send_timed (SendDuty.Acknowledge s) r p = sent s _ _ _ p
send_timed (SendDuty.Syn s) r p = sent s _ _ _ p
send_timed (SendDuty.FastClose s) r p = sent s _ _ _ p
send_timed (SendDuty.Notice s) r p = sent s _ _ _ p
send_timed (SendDuty.DataFin s) r p = sent s _ _ _ p
send_timed (SendDuty.Fin s) r p = sent s _ _ _ p
send_timed (SendDuty.SynAck s) r p = sent s _ _ _ p
send_timed (SendDuty.Refuse s) r p = sent s _ _ _ p
send_timed (SendDuty.Again s) r p = sent s _ _ _ p
send_timed (SendDuty.Answer s) r p = sent s _ _ _ p
send_timed (SendDuty.ResetAnswer s) r p = sent s _ _ _ p
send_timed (SendDuty.Resend s) r p = sent s _ _ _ p
send_timed (SendDuty.BreakReset s reason) r p = sent s _ _ _ p
send_timed (SendDuty.Reset s) r p = sent s _ _ _ p
send_timed (SendDuty.ResetNoted s) r p = sent s _ _ _ p

answered_timed : (d : Duty) (r : Reply) (p : PathState Carried) → Timed p (answered values d r p)
answered_timed (Duty.Ask d) r p = only (Duty.Ask d) p _ (no_link d) (no_events d) (writes_no_more values (Duty.Ask d) r p)
  where
    no_link : (d : AskDuty) → (writes (Duty.Ask d)).link ≡ false
    no_link d = refl

    no_events : (d : AskDuty) → (writes (Duty.Ask d)).events ≡ false
    no_events d = refl
answered_timed (Duty.Step d) r p = step_timed d r p
answered_timed (Duty.Send d) r p = send_timed d r p
answered_timed (Duty.Silent d) r p = record { until = refl; lines = refl; clock = λ z. z }
answered_timed Duty.End r p = record { until = refl; lines = refl; clock = λ z. z }

passed_step : (d : StepDuty) (p : PathState Carried) → Timed p (passed (Duty.Step d) p)
passed_step (StepDuty.Heard s index) p = record { until = refl; lines = refl; clock = λ z. z }
passed_step (StepDuty.PlainAck s) p = record { until = refl; lines = refl; clock = λ z. z }
passed_step (StepDuty.Unmapped s) p = record { until = refl; lines = refl; clock = λ z. z }
passed_step _ p = record { until = refl; lines = refl; clock = λ z. z }

passed_ask : (d : AskDuty) (p : PathState Carried) → Timed p (passed (Duty.Ask d) p)
passed_ask (AskDuty.CheckFailed s) p = record { until = refl; lines = refl; clock = λ z. z }
passed_ask _ p = record { until = refl; lines = refl; clock = λ z. z }

passed_silent : (d : SilentDuty) (p : PathState Carried) → Timed p (passed (Duty.Silent d) p)
passed_silent (SilentDuty.Timer s) p = record { until = refl; lines = refl; clock = λ z. z }
passed_silent (SilentDuty.Keep s) p = record { until = refl; lines = refl; clock = λ z. z }
passed_silent (SilentDuty.PassFin s) p = record { until = refl; lines = refl; clock = λ z. z }

passed_timed : (d : Duty) (p : PathState Carried) → Timed p (passed d p)
passed_timed (Duty.Ask d) p = passed_ask d p
passed_timed (Duty.Step d) p = passed_step d p
passed_timed (Duty.Send d) p = record { until = refl; lines = refl; clock = λ z. z }
passed_timed (Duty.Silent d) p = passed_silent d p
passed_timed Duty.End p = record { until = refl; lines = refl; clock = λ z. z }

timed_lasts : Lasts Timed
timed_lasts = record {
  agenda = λ ds p. record { until = refl; lines = refl; clock = λ z. z };
  chains = λ p q r x y. then_timed p q r x y;
  passes = λ d p. passed_timed d p;
}

-- ---- worlds

module _ (start : Start) where
  -- after so many turns: the clock of a path, and the lines of its link
  pub record PathTimed (turns : ℕ) (p : PathState Carried) : Type 0 where
    pub clock : p.clock ≤ p.until
    pub until : p.until ≤ 100 * turns + 100
    pub lines : Every (λ line. Has (λ given. given ≡ line) start.lines) p.link.lines

  abbrev pub MemberTimed : ℕ → Actor Carried → Type 0
  MemberTimed turns (App a) = Unit {0}
  MemberTimed turns (Path p) = PathTimed turns p

  abbrev pub WorldTimed : ℕ → WorldState Carried → Type 0
  WorldTimed turns w = (actor : ℕ) (c : ActorCrew Carried) → slice_get w.crew actor ≡ Some c → MemberTimed turns c.member

  later : (turns : ℕ) (p q : PathState Carried) → Timed p q → PathTimed turns p → PathTimed (turns + 1) q
  later turns p q kept h = record {
    clock = let clock = kept.clock h.clock in let same = kept.until in omega (arith, clock, same);
    until = let same = kept.until in let most = h.until in omega (arith, same, most);
    lines = subst (λ lines. Every (λ line. Has (λ given. given ≡ line) start.lines) lines) (sym kept.lines) h.lines;
  }

  more_member : (turns : ℕ) (m : Actor Carried) → MemberTimed turns m → MemberTimed (turns + 1) m
  more_member turns (App a) h = tt
  more_member turns (Path p) h = later turns p p (stays p) h

  takes_member : (turns : ℕ) (r : Reply) (m : Actor Carried) → MemberTimed turns m → MemberTimed (turns + 1) (member_takes values r m)
  takes_member turns r (App a) h = tt
  takes_member turns r (Path p) h = later turns p (takes values r p) (takes_lasts Timed timed_lasts values r p (λ d. answered_timed d r p)) h

  next_member : (turns : ℕ) (m : Actor Carried) → MemberTimed turns m → MemberTimed (turns + 1) (member_next m)
  next_member turns (App a) h = tt
  next_member turns (Path p) h =
      let begun : PathState Carried = record p { clock = p.until; until = p.until + 100 } in
      let kept = begins_lasts Timed timed_lasts begun in
      record {
        clock = let clock = kept.clock (omega arith) in let same = kept.until in omega (arith, clock, same);
        until = let same = kept.until in let most = h.until in omega (arith, same, most);
        lines = subst (λ lines. Every (λ line. Has (λ given. given ≡ line) start.lines) lines) (sym kept.lines) h.lines;
      }

  turn_timed : (turns : ℕ) (turn : Turn) (w : WorldState Carried) → WorldTimed turns w → WorldTimed (turns + 1) (after_turn values turn w)
  turn_timed turns turn w h =
      turn_so values (WorldTimed (turns + 1)) turn w
      (λ actor c at. more_member turns c.member (h actor c at))
      (λ actor c x there is i d at.
      ⊎_elim
      (λ here. subst (λ (y : ActorCrew Carried). MemberTimed (turns + 1) y.member) here.1 (takes_member turns (answer_to w.books x) c.member (h actor c there)))
      (λ other. more_member turns d.member (h i d other.1))
      (in_set w.crew actor (crew_after values x w.books c) i d at))
      (λ over i d at.
      let found = in_map (begins (greatest 0 w.crew)) w.crew i d at in
      subst (λ (y : ActorCrew Carried). MemberTimed (turns + 1) y.member) found.2 (next_member turns found.0.member (h i found.0 found.1)))

  run_timed : (turns : List Turn) (before : ℕ) (w : WorldState Carried) → WorldTimed before w → WorldTimed (before + length turns) (world_run values turns w)
  run_timed [] before w h = subst (λ (n : ℕ). WorldTimed n w) (let same : before ≡ before + 0 = omega arith in same) h
  run_timed (turn ∷ turns) before w h =
      subst (λ (n : ℕ). WorldTimed n (world_run values turns (after_turn values turn w))) (let same : before + 1 + length turns ≡ before + suc (length turns) = omega arith in same)
      (run_timed turns (before + 1) (after_turn values turn w) (turn_timed before turn w h))

  with_line : (path : ℕ) (line : ScriptLine) (lines : List ScriptLine) → Every (λ other. Has (λ given. given ≡ other) lines) (lines_of path lines)
      → Every (λ other. Has (λ given. given ≡ other) (line ∷ lines)) (lines_of path (line ∷ lines))
  with_line path line lines those = by (is_path path (path_named line))
    where
      behind : (other : ScriptLine) → Has (λ given. given ≡ other) lines → Has (λ given. given ≡ other) (line ∷ lines)
      behind other h = record { at = suc h.at; item = h.item; there = h.there; holds = h.holds }

      rest : Every (λ other. Has (λ given. given ≡ other) (line ∷ lines)) (lines_of path lines)
      rest = record { each = λ i other at. behind other (those.each i other at) }

      first : (i : ℕ) (other : ScriptLine) → slice_get (line ∷ lines_of path lines) i ≡ Some other → Has (λ given. given ≡ other) (line ∷ lines)
      first zero other at = record { at = 0; item = line; there = refl; holds = (let same : line ≡ other = cc in same) }
      first (suc i) other at = rest.each i other at

      by : (b : Bool) → Every (λ other. Has (λ given. given ≡ other) (line ∷ lines)) (cond b (line ∷ lines_of path lines) (lines_of path lines))
      by true = record { each = first }
      by false = rest

  lines_there : (path : ℕ) (lines : List ScriptLine) → Every (λ line. Has (λ given. given ≡ line) lines) (lines_of path lines)
  lines_there path [] = Every-nil (λ line. Has (λ given. given ≡ line) [])
  lines_there path (line ∷ lines) = with_line path line lines (lines_there path lines)

  pub always_timed : (turns : List Turn) → WorldTimed (length turns) (world_run values turns (opened_world start))
  always_timed turns = subst (λ (n : ℕ). WorldTimed n (world_run values turns (opened_world start))) (let same : 0 + length turns ≡ length turns = omega arith in same) (run_timed turns 0 (opened_world start) opened)
    where
      opened : WorldTimed 0 (opened_world start)
      opened = opened_actors (λ actor c. MemberTimed 0 c.member) start tt tt
          (λ number plan there.
          let p = waiting_path (path_begins start number plan) start.lines in
          let kept = begins_lasts Timed timed_lasts p in
          record {
            clock = let clock = kept.clock (omega arith) in let same = kept.until in omega (arith, clock, same);
            until = let same = kept.until in omega (arith, same);
            lines = subst (λ lines. Every (λ line. Has (λ given. given ≡ line) start.lines) lines) (sym kept.lines) (lines_there number start.lines);
          })
