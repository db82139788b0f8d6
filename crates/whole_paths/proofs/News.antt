-- The number of a connection never falls, and rises with all that counts.
use Rattle.std.proofs.Common.{◌≡◌, refl, sym, subst, ap, ◌∙◌, ◌⊎◌, inl, inr, ⊎_elim, ℕ, zero, suc, ◌+◌, ◌<◌, ◌≤◌, arith, Bool, true, false, true≢false, not, ◌&&◌, nat_lt, cond, if◌then◌else◌, is_some, Option, Some, None, List, [], ◌∷◌, ◌++◌, length, length-append, sum_by, le_refl}
use Rattle.std.specs.List.{slice_get}
use Rattle.std.proofs.lemmas.List.Sums.{sum_by-cons}
use Rattle.std.proofs.lemmas.Option.{same_Some}
use Rattle.sides.specs.declared.side.Side.{Side}
use Rattle.sides.specs.declared.side.Side.TheVariants.{A, B}
use Rattle.octet_text.specs.Prefix.{IsPrefix}
use Rattle.link_script.specs.declared.script.ScriptLine.{ScriptLine}
use Rattle.link_script.specs.declared.script.ScriptLine.TheVariants.{OnSegment, OnDirection, StripAll, FastClose}
use Rattle.link_script.specs.declared.script.Happens.TheVariants as happens
use Rattle.link_script.specs.Places.{same_side, path_named}
use Rattle.link_model.specs.Steps.{is_path, lines_of}
use Rattle.subflow_tcp.specs.declared.handshake.State.{State}
use Rattle.subflow_tcp.specs.declared.handshake.State.TheVariants.{Dead}
use Rattle.subflow_tcp.specs.State.{EndState}
use Rattle.subflow_tcp.specs.States.{is_dead}
use Rattle.actor_desk.specs.declared.ask.Reply.{Reply}
use Rattle.actor_desk.specs.Books.{books_in}
use Rattle.actor_desk.specs.Desk.{SixBooks, send_of, reassembly_of}
use Rattle.path_store.specs.declared.lines.LineLeft.{LineLeft}
use Rattle.path_store.specs.Lines.{is_later, with_line, event_in, with_some, events_from}
use Rattle.path_core.specs.Codec.{Codec}
use Rattle.path_core.specs.End.{PathEnd}
use Rattle.path_core.specs.State.{PathState, end_at}
use Rattle.path_core.specs.declared.modes.Modes.{Modes}
use Rattle.path_core.specs.Start.{waiting_path}
use Rattle.path_core.specs.Steps.{takes, begins_turn, next_round}
use Rattle.path_core.specs.Duties.{answered, passed}
use Rattle.path_agenda.specs.declared.duty.Duty.{Duty}
use Rattle.world_laws.specs.declared.member.Member.TheVariants.{App, Path}
use Rattle.world_laws.specs.Actors.{Actor, ActorCrew, member_takes, member_next}
use Rattle.world_laws.specs.Members.{HoldsOfKind, of_kind}
use Rattle.world_laws.specs.Openings.{PathPlan, Start, path_begins, opened_world}
use Rattle.world_laws.specs.RoundDone.{reached}
use Rattle.world_laws.specs.StampedBooks.{answer_to}
use Rattle.world_laws.specs.Worlds.{WorldState, Turn, world_run}
use Rattle.stream_lanes.specs.Words.{Every}
use Rattle.world_laws.proofs.Rounds.Lifting.{run_lifted, opened_lifted}
use Rattle.world_laws.proofs.Writes.Steps.{Lasts, takes_lasts, begins_lasts}
use Rattle.whole_paths.specs.AsFar.{stage, IsEndAsFar, IsPathAsFar, IsSideAsFar}
use Rattle.whole_paths.specs.EndSteps.{PathStep}
use Rattle.whole_paths.specs.Harms.{harms_left, is_unused, unused}
use Rattle.whole_paths.specs.News.{one_if, end_news, side_news, lines_left, path_news, news, NewsNeverFalls, Counts, ActorCounts, EachGainCounts, EachNewsCounts, Gains}
use Rattle.whole_paths.specs.News.Counts.{at_end, in_order, sent_more, further, clears, dies, line, harm}
use Rattle.whole_paths.specs.News.Gains.{writes, opens, closes, receives, reads, learns}
use Rattle.whole_paths.specs.Waits.{IsNews}
use Rattle.whole_paths.specs.Waits.IsNews.{on_subflow, on_stream, data_fin, opened, third}
use Rattle.whole_paths.proofs.Copies.{link_step, passed_link}
use Rattle.whole_paths.proofs.Duties.{passed_steps, answered_steps}
use Rattle.whole_paths.proofs.GoesOn.{begun_lines, goes_on_so, takes_up, next_up, actor_stays, actor_then}
use Rattle.whole_paths.proofs.Subflows.{steps_up}
use Rattle.whole_paths.proofs.Thirds.{Third, Thirds, IsCounted, HarmsFall, answered_third, passed_third, link_harms}
use Rattle.whole_paths.proofs.Turns.{turns_each}

-- ---- numbers

pub one_most : (b : Bool) → one_if b ≤ 1
one_most = elim [ true ↦ omega arith | false ↦ omega arith ]

pub one_up : (a b : Bool) → (a ≡ true → b ≡ true) → one_if a ≤ one_if b
one_up true b on = subst (λ x. 1 ≤ one_if x) (sym (on refl)) (omega arith)
one_up false b on = omega arith

pub known_up : (o p : Option ℕ) → ((place : ℕ) → o ≡ Some place → p ≡ Some place) → one_if (is_some o) ≤ one_if (is_some p)
known_up None p on = omega arith
known_up (Some place) p on = subst (λ x. 1 ≤ one_if (is_some x)) (sym (on place refl)) (omega arith)

module _ {X : Type 0} (f : X → ℕ) where
  abbrev Up : List X → List X → Type 0
  Up xs ys = (i : ℕ) (x : X) → slice_get xs i ≡ Some x → (y : X) × (slice_get ys i ≡ Some y) × (f x ≤ f y)

  sum_up : (xs ys : List X) → Up xs ys → sum_by f xs ≤ sum_by f ys
  sum_up [] ys each = omega arith
  sum_up (x ∷ xs) [] each = let first = each 0 x refl in absurd (none first.0 first.1)
    where
      none : (y : X) → slice_get [] 0 ≡ Some y → ⊥
      none y is = cc
  sum_up (x ∷ xs) (y ∷ ys) each =
      let first = each 0 x refl in
      let same : f y ≡ f first.0 = ap f (same_Some y first.0 first.1) in
      let up = first.2 in
      let rest = sum_up xs ys (λ i z there. each (suc i) z there) in
      omega (arith, up, same, rest, sum_by-cons f x xs, sum_by-cons f y ys)

  sum_more : (xs ys : List X) → Up xs ys → (i : ℕ) (v w : X) → slice_get xs i ≡ Some v → slice_get ys i ≡ Some w → f v < f w → sum_by f xs < sum_by f ys
  sum_more [] ys each i v w at_v at_w more = cc
  sum_more (x ∷ xs) [] each i v w at_v at_w more = cc
  sum_more (x ∷ xs) (y ∷ ys) each zero v w at_v at_w more =
      let same_v : f x ≡ f v = ap f (same_Some x v at_v) in
      let same_w : f y ≡ f w = ap f (same_Some y w at_w) in
      let rest = sum_up xs ys (λ i z there. each (suc i) z there) in
      omega (arith, more, same_v, same_w, rest, sum_by-cons f x xs, sum_by-cons f y ys)
  sum_more (x ∷ xs) (y ∷ ys) each (suc i) v w at_v at_w more =
      let first = each 0 x refl in
      let same : f y ≡ f first.0 = ap f (same_Some y first.0 first.1) in
      let up = first.2 in
      let rest = sum_more xs ys (λ j z there. each (suc j) z there) i v w at_v at_w more in
      omega (arith, up, same, rest, sum_by-cons f x xs, sum_by-cons f y ys)

-- ---- an end

-- how far its state is, and whether its third MP_JOIN is answered; and all else
abbrev state_news : PathEnd → ℕ
state_news e = stage e.tcp.state + one_if (not e.modes.owes_third)

abbrev other_news : PathEnd → ℕ
other_news e = e.tcp.send.una + e.tcp.send.nxt + e.tcp.recv.edge + e.sending.heard + one_if e.sending.fin_sent + one_if e.sending.close.own_acked + one_if e.sending.close.peer_came + one_if e.modes.clear

-- with an MP_JOIN that is owed the state has risen
state_by : (e f : PathEnd) → Third e f → (b : Bool) → f.modes.owes_third ≡ b
    → (one_if (not e.modes.owes_third) ≤ one_if (not b)) ⊎ ((stage e.tcp.state ≤ 1) × (3 ≤ stage f.tcp.state))
state_by e f x false is = inl (one_most (not e.modes.owes_third))
state_by e f x true is = ⊎_elim (λ before. inl (subst (λ b. one_if (not b) ≤ 0) (sym before) (omega arith))) (λ came. inr came) (x.owed is)

state_up : (e f : PathEnd) → stage e.tcp.state ≤ stage f.tcp.state → Third e f → state_news e ≤ state_news f
state_up e f up x = ⊎_elim
    (λ same. omega (arith, up, same))
    (λ came. (let low = came.0 in let high = came.1 in omega (arith, low, high, one_most (not e.modes.owes_third))))
    (state_by e f x f.modes.owes_third refl)

state_more : (e f : PathEnd) → stage e.tcp.state < stage f.tcp.state → Third e f → state_news e < state_news f
state_more e f up x = ⊎_elim
    (λ same. omega (arith, up, same))
    (λ came. (let low = came.0 in let high = came.1 in omega (arith, low, high, one_most (not e.modes.owes_third))))
    (state_by e f x f.modes.owes_third refl)

module _ (e f : PathEnd) (far : IsEndAsFar e f) (x : Third e f) where
  sent_up : one_if e.sending.fin_sent ≤ one_if f.sending.fin_sent
  sent_up = one_up e.sending.fin_sent f.sending.fin_sent far.stream.fin_sent

  acked_up : one_if e.sending.close.own_acked ≤ one_if f.sending.close.own_acked
  acked_up = one_up e.sending.close.own_acked f.sending.close.own_acked far.stream.fin_acknowledged

  came_up : one_if e.sending.close.peer_came ≤ one_if f.sending.close.peer_came
  came_up = one_up e.sending.close.peer_came f.sending.close.peer_came far.stream.fin_came

  clear_up : one_if e.modes.clear ≤ one_if f.modes.clear
  clear_up = one_up e.modes.clear f.modes.clear far.clear

  other_up : other_news e ≤ other_news f
  other_up =
      let una = far.subflow.acknowledged in let nxt = far.subflow.pushed in let edge = far.subflow.received in let heard = far.stream.heard in
      omega (arith, una, nxt, edge, heard, sent_up, acked_up, came_up, clear_up)

  end_up : end_news e ≤ end_news f
  end_up = let state = state_up e f far.subflow.state x in omega (arith, state, other_up)

  by_state : stage e.tcp.state < stage f.tcp.state → end_news e < end_news f
  by_state more = let state = state_more e f more x in omega (arith, state, other_up)

  by_other : other_news e < other_news f → end_news e < end_news f
  by_other more = let state = state_up e f far.subflow.state x in omega (arith, state, more)

  end_more : IsNews e f → end_news e < end_news f
  end_more (on_subflow more) = by_other (
      let nxt = far.subflow.pushed in let edge = far.subflow.received in let heard = far.stream.heard in
      omega (arith, more, nxt, edge, heard, sent_up, acked_up, came_up, clear_up))
  end_more (on_stream more) = by_other (
      let una = far.subflow.acknowledged in let nxt = far.subflow.pushed in let edge = far.subflow.received in
      omega (arith, una, nxt, edge, more, sent_up, acked_up, came_up, clear_up))
  end_more (data_fin none some) = by_other (
      let una = far.subflow.acknowledged in let nxt = far.subflow.pushed in let edge = far.subflow.received in let heard = far.stream.heard in
      let before : one_if e.sending.close.own_acked ≡ 0 = ap one_if none in let now : one_if f.sending.close.own_acked ≡ 1 = ap one_if some in
      omega (arith, una, nxt, edge, heard, sent_up, before, now, came_up, clear_up))
  end_more (opened low high) = by_state (omega (arith, low, high))
  end_more (third owed done) =
      let up = far.subflow.state in
      let before : one_if (not e.modes.owes_third) ≡ 0 = ap (λ b. one_if (not b)) owed in let now : one_if (not f.modes.owes_third) ≡ 1 = ap (λ b. one_if (not b)) done in
      omega (arith, up, before, now, other_up)

  end_moved : e.tcp.recv.edge < f.tcp.recv.edge → end_news e < end_news f
  end_moved more = by_other (
      let una = far.subflow.acknowledged in let nxt = far.subflow.pushed in let heard = far.stream.heard in
      omega (arith, una, nxt, more, heard, sent_up, acked_up, came_up, clear_up))

  end_pushed : e.tcp.send.nxt < f.tcp.send.nxt → end_news e < end_news f
  end_pushed more = by_other (
      let una = far.subflow.acknowledged in let edge = far.subflow.received in let heard = far.stream.heard in
      omega (arith, una, more, edge, heard, sent_up, acked_up, came_up, clear_up))

  end_clears : e.modes.clear ≡ false → f.modes.clear ≡ true → end_news e < end_news f
  end_clears none some = by_other (
      let una = far.subflow.acknowledged in let nxt = far.subflow.pushed in let edge = far.subflow.received in let heard = far.stream.heard in
      let before : one_if e.modes.clear ≡ 0 = ap one_if none in let now : one_if f.modes.clear ≡ 1 = ap one_if some in
      omega (arith, una, nxt, edge, heard, sent_up, acked_up, came_up, before, now))

  end_dies : is_dead e.tcp.state ≡ false → is_dead f.tcp.state ≡ true → end_news e < end_news f
  end_dies living dead = by_state (let low = living_low e.tcp.state living in let high = dead_high f.tcp.state dead in omega (arith, low, high))
    where
      living_low : (s : State) → is_dead s ≡ false → stage s ≤ 6
      living_low Dead living = cc
      living_low _ living = omega arith

      dead_high : (s : State) → is_dead s ≡ true → 7 ≤ stage s
      dead_high Dead dead = omega arith
      dead_high _ dead = cc

-- ---- a side

prefix_up : (xs ys : List ℕ) → IsPrefix xs ys → length xs ≤ length ys
prefix_up xs ys h = let is : length ys ≡ length (xs ++ h.rest) = ap (λ (zs : List ℕ). length zs) h.whole_is in omega (arith, is, length-append xs h.rest)

side_up : (s : Side) (v w : SixBooks) → IsSideAsFar s v w → side_news v s ≤ side_news w s
side_up s v w h =
    let b = send_of s v in let c = send_of s w in
    let written = prefix_up b.written c.written h.send.written in
    let closed = one_up b.closed c.closed h.send.closed in
    let fin = one_up b.fin c.fin h.send.fin in
    let edge = h.send.edge in let read = h.arrival.read in let received = h.arrival.received in
    let known = known_up (reassembly_of s v).known_end (reassembly_of s w).known_end h.arrival.end in
    omega (arith, written, closed, fin, edge, read, received, known)

-- what it gains counts
side_gains : (s : Side) (v w : SixBooks) → IsSideAsFar s v w → Gains s v w → side_news v s < side_news w s
side_gains s v w h gain = by gain
  where
    written : length (send_of s v).written ≤ length (send_of s w).written
    written = prefix_up (send_of s v).written (send_of s w).written h.send.written

    closed : one_if (send_of s v).closed ≤ one_if (send_of s w).closed
    closed = one_up (send_of s v).closed (send_of s w).closed h.send.closed

    fin : one_if (send_of s v).fin ≤ one_if (send_of s w).fin
    fin = one_up (send_of s v).fin (send_of s w).fin h.send.fin

    known : one_if (is_some (reassembly_of s v).known_end) ≤ one_if (is_some (reassembly_of s w).known_end)
    known = known_up (reassembly_of s v).known_end (reassembly_of s w).known_end h.arrival.end

    one : (a b : Bool) → a ≡ false → b ≡ true → one_if a < one_if b
    one false true was is = omega arith
    one true b was is = absurd (true≢false was)
    one false false was is = absurd (true≢false (sym is))

    by : Gains s v w → side_news v s < side_news w s
    by (writes more) = let edge = h.send.edge in let read = h.arrival.read in let arrived = h.arrival.received in omega (arith, more, closed, fin, edge, read, arrived, known)
    by (opens more) = let read = h.arrival.read in let arrived = h.arrival.received in omega (arith, written, closed, fin, more, read, arrived, known)
    by (reads more) = let edge = h.send.edge in let arrived = h.arrival.received in omega (arith, written, closed, fin, edge, more, arrived, known)
    by (closes was is) = let edge = h.send.edge in let read = h.arrival.read in let arrived = h.arrival.received in let more = one _ _ was is in omega (arith, written, more, fin, edge, read, arrived, known)
    by (receives more) = let edge = h.send.edge in let read = h.arrival.read in omega (arith, written, closed, fin, edge, read, more, known)
    by (learns was is) = let edge = h.send.edge in let read = h.arrival.read in let arrived = h.arrival.received in let more = one _ _ was is in omega (arith, written, closed, fin, edge, read, arrived, more)

-- ---- lines

-- a line is an event of a path, or one by which a segment is lost or late, or neither
one_side : (s : Side) (b : Bool) → one_if (same_side s A && b) + one_if (same_side s B && b) ≤ 1
one_side A b = let most = one_most b in omega (arith, most)
one_side B b = let most = one_most b in omega (arith, most)

abbrev one_some : Option LineLeft → ℕ
one_some o = one_if (is_some o)

one_of : (path number : ℕ) (x : ScriptLine) → one_some (event_in path number x) + (one_if (is_unused A 0 x) + one_if (is_unused B 0 x)) ≤ 1
one_of path number (OnSegment segment happens.Lost) = let most = one_side segment.from (nat_lt 0 segment.number) in omega (arith, most)
one_of path number (OnSegment segment (happens.Late ticks)) = let most = one_side segment.from (nat_lt 0 segment.number) in omega (arith, most)
one_of path number (OnSegment segment _) = omega arith
one_of path number (OnDirection direction impairment) = omega arith
one_of path number (StripAll named s tick) = omega arith
one_of path number (FastClose s tick) = omega arith
one_of path number x = let most = one_most (is_some (event_in path number x)) in omega (arith, most)

with_one : (x : LineLeft) (lines : List LineLeft) → length (with_line x lines) ≡ suc (length lines)
with_one x [] = refl
with_one x (first ∷ lines) = elim (is_later x first) as (λ b. length (if b then x ∷ first ∷ lines else first ∷ with_line x lines) ≡ suc (suc (length lines)))
    [ true ↦ refl | false ↦ ap suc (with_one x lines) ]

with_some_one : (o : Option LineLeft) (lines : List LineLeft) → length (with_some o lines) ≡ length lines + one_some o
with_some_one None lines = omega arith
with_some_one (Some x) lines = let one = with_one x lines in omega (arith, one)

unused_in : (path : ℕ) (from : Side) (x : ScriptLine) (lines : List ScriptLine) → unused from 0 (lines_of path (x ∷ lines)) ≤ one_if (is_unused from 0 x) + unused from 0 (lines_of path lines)
unused_in path from x lines = elim (is_path path (path_named x)) as (λ b. unused from 0 (cond b (x ∷ lines_of path lines) (lines_of path lines)) ≤ one_if (is_unused from 0 x) + unused from 0 (lines_of path lines))
    [ true ↦ omega arith | false ↦ omega arith ]

few_lines : (path number : ℕ) (lines : List ScriptLine) (events : List LineLeft)
    → length (events_from path number lines events) + (unused A 0 (lines_of path lines) + unused B 0 (lines_of path lines)) ≤ length events + length lines
few_lines path number [] events = omega arith
few_lines path number (x ∷ lines) events =
    let rest = few_lines path (number + 1) lines (with_some (event_in path number x) events) in
    let more = with_some_one (event_in path number x) events in
    let one = one_of path number x in
    omega (arith, rest, more, one, unused_in path A x lines, unused_in path B x lines)

-- ---- a path

abbrev PathStages : {C : Type 0} → PathState C → PathState C → Type 0
PathStages p q = (s : Side) → stage (end_at s p).tcp.state ≤ stage (end_at s q).tcp.state

stages_of : {C : Type 0} (p q : PathState C) → PathStep p q → PathStages p q
stages_of p q x A = let up = steps_up q.clock p.a.tcp q.a.tcp x.a.subflow in up.state
stages_of p q x B = let up = steps_up q.clock p.b.tcp q.b.tcp x.b.subflow in up.state

third_then : (e f g : PathEnd) → stage e.tcp.state ≤ stage f.tcp.state → stage f.tcp.state ≤ stage g.tcp.state → Third e f → Third f g → Third e g
third_then e f g low high x y = record {
  owed = λ is. ⊎_elim
      (λ before. ⊎_elim (λ was. inl was) (λ came. inr (came.0, (let risen = came.1 in omega (arith, risen, high)))) (x.owed before))
      (λ came. inr ((let few = came.0 in omega (arith, few, low)), came.1))
      (y.owed is);
}

module _ {C : Type 0} where
  record Onward (p q : PathState C) : Type 0 where
    stages : PathStages p q
    thirds : Thirds p q
    harms : IsCounted p.link → HarmsFall p.link q.link

  -- where nothing of it changes
  same_onward : (p q : PathState C) → q.a.tcp ≡ p.a.tcp → q.b.tcp ≡ p.b.tcp → q.a.modes ≡ p.a.modes → q.b.modes ≡ p.b.modes → q.link ≡ p.link → Onward p q
  same_onward p q tcp_a tcp_b modes_a modes_b link = record {
    stages = stages;
    thirds = record {
      a = record { owed = λ is. inl (ap (λ (m : Modes). m.owes_third) (sym modes_a) ∙ is) };
      b = record { owed = λ is. inl (ap (λ (m : Modes). m.owes_third) (sym modes_b) ∙ is) };
    };
    harms = λ h. subst (HarmsFall p.link) (sym link) (record { counted = h; fewer = le_refl (harms_left p.link) });
  }
    where
      stages : PathStages p q
      stages A = subst (λ (t : EndState). stage p.a.tcp.state ≤ stage t.state) (sym tcp_a) (le_refl (stage p.a.tcp.state))
      stages B = subst (λ (t : EndState). stage p.b.tcp.state ≤ stage t.state) (sym tcp_b) (le_refl (stage p.b.tcp.state))

  onward_then : (p q r : PathState C) → Onward p q → Onward q r → Onward p r
  onward_then p q r x y = record {
    stages = λ s. (let low = x.stages s in let high = y.stages s in omega (arith, low, high));
    thirds = record { a = third_then p.a q.a r.a (x.stages A) (y.stages A) x.thirds.a y.thirds.a; b = third_then p.b q.b r.b (x.stages B) (y.stages B) x.thirds.b y.thirds.b };
    harms = λ h. (let first = x.harms h in let second = y.harms first.counted in
        let less = first.fewer in let fewer = second.fewer in record { counted = second.counted; fewer = omega (arith, less, fewer) });
  }

  answered_onward : (k : Codec C) (d : Duty) (r : Reply) (p : PathState C) → Onward p (answered k d r p)
  answered_onward k d r p = record {
    stages = stages_of p (answered k d r p) (answered_steps k d r p);
    thirds = answered_third k d r p;
    harms = link_harms k d p (answered k d r p) (link_step k d r p);
  }

  passed_onward : (d : Duty) (p : PathState C) → Onward p (passed d p)
  passed_onward d p = record {
    stages = stages_of p (passed d p) (passed_steps d p);
    thirds = passed_third d p;
    harms = λ h. subst (HarmsFall p.link) (sym (passed_link d p)) (record { counted = h; fewer = le_refl (harms_left p.link) });
  }

  onward_last : Lasts (λ (p q : PathState C). Onward p q)
  onward_last = record { agenda = λ ds p. same_onward p _ refl refl refl refl refl; chains = λ p q r x y. onward_then p q r x y; passes = λ d p. passed_onward d p }

  -- with all that doesn't go back
  record PathUp (p q : PathState C) : Type 0 where
    far : IsPathAsFar p q
    onward : Onward p q

  takes_on : (k : Codec C) (r : Reply) (p : PathState C) → PathUp p (takes k r p)
  takes_on k r p = record { far = takes_up k r p; onward = takes_lasts (λ p q. Onward p q) onward_last k r p (λ d. answered_onward k d r p) }

  next_on : (p : PathState C) → PathUp p (next_round p)
  next_on p =
      let q : PathState C = record p { clock = p.until; until = p.until + 100 } in
      record { far = next_up p; onward = onward_then p q (next_round p) (same_onward p q refl refl refl refl refl) (begins_lasts (λ p q. Onward p q) onward_last q) }

  -- ---- an actor

  abbrev ActorUp : Actor C → Actor C → Type 0
  ActorUp (App a) (App b) = Unit {0}
  ActorUp (Path p) (Path q) = PathUp p q
  ActorUp _ _ = ⊥

  member_takes_up : (k : Codec C) (r : Reply) (m : Actor C) → ActorUp m (member_takes k r m)
  member_takes_up k r (App a) = tt
  member_takes_up k r (Path p) = takes_on k r p

  member_next_up : (m : Actor C) → ActorUp m (member_next m)
  member_next_up (App a) = tt
  member_next_up (Path p) = next_on p

  member_stays : (m : Actor C) → ActorUp m m
  member_stays (App a) = tt
  member_stays (Path p) = record { far = actor_stays (Path p); onward = same_onward p p refl refl refl refl refl }

  member_then : (m n o : Actor C) → ActorUp m n → ActorUp n o → ActorUp m o
  member_then (App a) (App b) (App c) x y = tt
  member_then (Path p) (Path q) (Path r) x y = record { far = actor_then (Path p) (Path q) (Path r) x.far y.far; onward = onward_then p q r x.onward y.onward }
  member_then (App a) (Path q) o x y = absurd x
  member_then (Path p) (App b) o x y = absurd x
  member_then (App a) (App b) (Path r) x y = absurd y
  member_then (Path p) (Path q) (App c) x y = absurd y

  module _ (start : Start) where
    -- counts that a link can come to, and no more lines than the script has
    pub record IsWithin (p : PathState C) : Type 0 where
      pub counted : IsCounted p.link
      pub lines : lines_left p ≤ length start.lines

    abbrev pub IsWithinMember : Actor C → Type 0
    IsWithinMember = HoldsOfKind (λ app. Unit {0}) IsWithin

    path_within : (p q : PathState C) → PathUp p q → IsWithin p → IsWithin q
    path_within p q x h =
        let y = x.onward in let z = y.harms h.counted in
        record { counted = z.counted; lines = (let less = z.fewer in let fewer = x.far.lines in let most = h.lines in omega (arith, less, fewer, most)) }

    member_within : (m n : Actor C) → ActorUp m n → IsWithinMember m → IsWithinMember n
    member_within (App a) (App b) x h = tt
    member_within (Path p) (Path q) x h = path_within p q x h
    member_within (App a) (Path q) x h = absurd x
    member_within (Path p) (App b) x h = absurd x

    first_within : (number : ℕ) (plan : PathPlan) → IsWithin (waiting_path {C = C} (path_begins start number plan) start.lines)
    first_within number plan = record { counted = record { a = omega arith; b = omega arith }; lines = (let few = few_lines number 0 start.lines [] in omega (arith, few)) }

    begun_within : (p : PathState C) → IsWithin p → IsWithin (begins_turn p)
    begun_within p h =
        let x : Onward p (begins_turn p) = begins_lasts (λ p q. Onward p q) onward_last p in
        let z = x.harms h.counted in
        record { counted = z.counted; lines = (let less = z.fewer in let most = h.lines in let fewer = begun_lines p in omega (arith, less, fewer, most)) }

    pub always_within : (k : Codec C) (turns : List Turn) → Every (λ c. IsWithinMember c.member) (reached k start turns).crew
    always_within k turns = run_lifted k (λ c. IsWithinMember c.member)
        (λ books c x asks h. member_within c.member (member_takes k (answer_to books x) c.member) (member_takes_up k (answer_to books x) c.member) h)
        (λ stamp c over h. member_within c.member (member_next c.member) (member_next_up c.member) h) turns (opened_world start)
        (opened_lifted (λ c. IsWithinMember c.member) start tt tt (λ number plan there. begun_within (waiting_path (path_begins start number plan) start.lines) (first_within number plan)))

    -- ---- the number of a path

    path_up : (p q : PathState C) → PathUp p q → IsWithin p → path_news start p ≤ path_news start q
    path_up p q x h =
        let a = end_up p.a q.a x.far.a x.onward.thirds.a in let b = end_up p.b q.b x.far.b x.onward.thirds.b in
        let z = x.onward.harms h.counted in
        let less = z.fewer in let fewer = x.far.lines in omega (arith, a, b, less, fewer)

    path_more : (p q : PathState C) → PathUp p q → IsWithin p → Counts p q → path_news start p < path_news start q
    path_more p q x h counts = by counts
      where
        a : end_news p.a ≤ end_news q.a
        a = end_up p.a q.a x.far.a x.onward.thirds.a

        b : end_news p.b ≤ end_news q.b
        b = end_up p.b q.b x.far.b x.onward.thirds.b

        less : harms_left q.link ≤ harms_left p.link
        less = (x.onward.harms h.counted).fewer

        fewer : length q.lines ≤ length p.lines
        fewer = x.far.lines

        most : lines_left p ≤ length start.lines
        most = h.lines

        by : Counts p q → path_news start p < path_news start q
        by (at_end A is) = let more = end_more p.a q.a x.far.a x.onward.thirds.a is in omega (arith, more, b, less, fewer)
        by (at_end B is) = let more = end_more p.b q.b x.far.b x.onward.thirds.b is in omega (arith, more, a, less, fewer)
        by (in_order A is) = let more = end_moved p.a q.a x.far.a x.onward.thirds.a is in omega (arith, more, b, less, fewer)
        by (in_order B is) = let more = end_moved p.b q.b x.far.b x.onward.thirds.b is in omega (arith, more, a, less, fewer)
        by (sent_more A is) = let more = end_pushed p.a q.a x.far.a x.onward.thirds.a is in omega (arith, more, b, less, fewer)
        by (sent_more B is) = let more = end_pushed p.b q.b x.far.b x.onward.thirds.b is in omega (arith, more, a, less, fewer)
        by (further A is) = let more = by_state p.a q.a x.far.a x.onward.thirds.a is in omega (arith, more, b, less, fewer)
        by (further B is) = let more = by_state p.b q.b x.far.b x.onward.thirds.b is in omega (arith, more, a, less, fewer)
        by (clears A none some) = let more = end_clears p.a q.a x.far.a x.onward.thirds.a none some in omega (arith, more, b, less, fewer)
        by (clears B none some) = let more = end_clears p.b q.b x.far.b x.onward.thirds.b none some in omega (arith, more, a, less, fewer)
        by (dies A living dead) = let more = end_dies p.a q.a x.far.a x.onward.thirds.a living dead in omega (arith, more, b, less, fewer)
        by (dies B living dead) = let more = end_dies p.b q.b x.far.b x.onward.thirds.b living dead in omega (arith, more, a, less, fewer)
        by (line taken) = omega (arith, taken, a, b, less, most)
        by (harm used) = omega (arith, used, a, b, fewer, most)

    abbrev member_news : ActorCrew C → ℕ
    member_news c = of_kind (λ app. 0) (path_news start) c.member

    member_up : (m n : Actor C) → ActorUp m n → IsWithinMember m → of_kind (λ app. 0) (path_news start) m ≤ of_kind (λ app. 0) (path_news start) n
    member_up (App a) (App b) x h = omega arith
    member_up (Path p) (Path q) x h = path_up p q x h
    member_up (App a) (Path q) x h = absurd x
    member_up (Path p) (App b) x h = absurd x

    member_more : (m n : Actor C) → ActorUp m n → IsWithinMember m → ActorCounts m n → of_kind (λ app. 0) (path_news start) m < of_kind (λ app. 0) (path_news start) n
    member_more (Path p) (Path q) x h counts = path_more p q x h counts
    member_more (App a) n x h counts = absurd counts
    member_more (Path p) (App b) x h counts = absurd counts

    -- ---- the world

    module _ (k : Codec C) (before more : List Turn) where
      abbrev w : WorldState C
      w = reached k start before

      abbrev v : WorldState C
      v = world_run k more w

      each : (actor : ℕ) (c : ActorCrew C) → slice_get w.crew actor ≡ Some c → (d : ActorCrew C) × (slice_get v.crew actor ≡ Some d) × ActorUp c.member d.member
      each = turns_each k (λ c d. ActorUp c.member d.member) (λ c. member_stays c.member) (λ ask books c. member_takes_up k (answer_to books ask) c.member)
          (λ stamp c over. member_next_up c.member) (λ c d e x y. member_then c.member d.member e.member x y) more w

      within : (actor : ℕ) (c : ActorCrew C) → slice_get w.crew actor ≡ Some c → IsWithinMember c.member
      within actor c there = (always_within k before).each actor c there

      crew_up : Up member_news w.crew v.crew
      crew_up actor c there = let found = each actor c there in (found.0, found.1, member_up c.member found.0.member found.2 (within actor c there))

      sides_up : (s : Side) → side_news (books_in w.books) s ≤ side_news (books_in v.books) s
      sides_up s = side_up s (books_in w.books) (books_in v.books) ((goes_on_so k w more).sides s)

      news_up : news start w ≤ news start v
      news_up = let crew = sum_up member_news w.crew v.crew crew_up in let a = sides_up A in let b = sides_up B in omega (arith, crew, a, b)

      news_more : (actor : ℕ) (c d : ActorCrew C) → slice_get w.crew actor ≡ Some c → slice_get v.crew actor ≡ Some d → ActorCounts c.member d.member → news start w < news start v
      news_more actor c d there later counts =
          let found = each actor c there in
          let up : ActorUp c.member d.member = subst (λ (x : ActorCrew C). ActorUp c.member x.member) (same_Some found.0 d (sym found.1 ∙ later)) found.2 in
          let crew = sum_more member_news w.crew v.crew crew_up actor c d there later (member_more c.member d.member up (within actor c there) counts) in
          let a = sides_up A in let b = sides_up B in omega (arith, crew, a, b)

      news_gained : (s : Side) → Gains s (books_in w.books) (books_in v.books) → news start w < news start v
      news_gained s gain = by s (side_gains s (books_in w.books) (books_in v.books) ((goes_on_so k w more).sides s) gain)
        where
          crew : sum_by member_news w.crew ≤ sum_by member_news v.crew
          crew = sum_up member_news w.crew v.crew crew_up

          by : (s : Side) → side_news (books_in w.books) s < side_news (books_in v.books) s → news start w < news start v
          by A more_a = let b = sides_up B in omega (arith, crew, more_a, b)
          by B more_b = let a = sides_up A in omega (arith, crew, a, more_b)

  pub each_gain_counts : (k : Codec C) → EachGainCounts k
  each_gain_counts k start before more s gain = news_gained start k before more s gain

  pub news_never_falls : (k : Codec C) → NewsNeverFalls k
  news_never_falls k start before more = news_up start k before more

  pub each_news_counts : (k : Codec C) → EachNewsCounts k
  each_news_counts k start before more actor c d there later counts = news_more start k before more actor c d there later counts
