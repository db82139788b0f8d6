-- What an end acknowledges of its peer's stream never falls: not at the reassembly book, and not at the end.
use Rattle.std.proofs.Common.{⊎_elim, length, ◌∙◌, zero, suc, ◌≤◌, ◌⊎◌, inl, inr, is_some, drop, min, arith, ◌≡◌, refl, sym, ap, subst, ℕ, ◌+◌, ◌==◌, Bool, true, false, if◌then◌else◌, Option, Some, None, List, [], ◌∷◌}
use Rattle.actor_desk.specs.declared.ask.Reply.{Reply}
use Rattle.path_agenda.specs.declared.duty.AskDuty.{AskDuty}
use Rattle.path_agenda.specs.declared.duty.Duty.{Duty}
use Rattle.path_agenda.specs.declared.duty.SendDuty.{SendDuty}
use Rattle.path_agenda.specs.declared.duty.SilentDuty.{SilentDuty}
use Rattle.path_agenda.specs.declared.duty.StepDuty.{StepDuty}
use Rattle.path_agenda.specs.declared.heard.Heard.{Heard}
use Rattle.path_core.specs.Breaking.{answered_break}
use Rattle.path_core.specs.DssIn.{counts, is_clash, with_data_fin, with_learned, with_skipped}
use Rattle.path_core.specs.Duties.{answered, passed}
use Rattle.path_core.specs.End.{PathEnd}
use Rattle.path_core.specs.Fallback.{breaks_by_ack}
use Rattle.path_core.specs.State.{PathState, end_at, goes_on, with_end}
use Rattle.path_core.specs.Steps.{takes, next_round}
use Rattle.path_core.specs.Treating.{answered_heard, answered_item, item_of, item_passed}
use Rattle.path_core.specs.Values.{Carried, values}
use Rattle.sides.specs.declared.side.Side.TheVariants.{A, B}
use Rattle.sides.specs.declared.side.Side.{Side}
use Rattle.world_laws.proofs.Writes.Paths.{writes_no_more, passes_no_more}
use Rattle.world_laws.proofs.Writes.Steps.{Lasts, both_ends, unwritten, begins_lasts}
use Rattle.world_laws.specs.Writes.{writes, side_of, EndView}
use Rattle.world_laws.proofs.Falls.FailedChecks.{infinite_came_so}
use Rattle.std.specs.Option.{IfSome}
use Rattle.std.proofs.lemmas.Bool.{eq-eqb, eqb-true}
use Rattle.sides.specs.Side.{peer}
use Rattle.actor_desk.specs.Desk.{SixBooks, after_ask, reassembly_of, reply_of}
use Rattle.actor_desk.specs.declared.ask.Ask.{Ask}
use Rattle.path_core.specs.Standing.{window_in}
use Rattle.path_core.specs.Fallback.{after_fell, fell_duties, with_plain_ack}
use Rattle.fallback_state.specs.declared.fall.Event.{Event as FellEvent}
use Rattle.reassembly_book.proofs.Bounds.{sound-after_call}
use Rattle.reassembly_book.specs.State.{Arriving, IsSound, filled, received, top}
use Rattle.reassembly_book.specs.Steps.{after_call, after_reading, bytes_reply, clash, edge, fin_clash, fin_reply_by, is_end, next_wanted, placed_reply, reading, reaches_past, reply_to}
use Rattle.reassembly_book.specs.declared.call.ReassemblyReply.{ReassemblyReply}
use Rattle.path_store.specs.Receiving.{Receiving}
use Rattle.path_core.specs.Deliver.{after_pieces}
use Rattle.world_laws.specs.Asking.{IsAt}
use Rattle.world_laws.proofs.Writes.Asks.{asks_no_more}
use Rattle.path_core.specs.Steps.{answers, asks_first, settled}
use Rattle.path_core.specs.Duties.{ask_for}
use Rattle.world_laws.proofs.Writes.Steps.{settled_lasts}
use Rattle.std.specs.Prelude.{take}
use Rattle.reassembly_book.specs.declared.call.ReassemblyCall.{ReassemblyCall}
use Rattle.world_laws.proofs.Rounds.CatchingUp.{arrives}
use Rattle.world_laws.specs.Writes.{PathView}

-- ---- the book

filled_drop : (n : ℕ) (places : List (Option ℕ)) → n ≤ length (filled places) → n + length (filled (drop n places)) ≡ length (filled places)
filled_drop zero places within = omega arith
filled_drop (suc n) [] within = absurd (omega (arith, within))
filled_drop (suc n) (None ∷ places) within = absurd (omega (arith, within))
filled_drop (suc n) (Some byte ∷ places) within = omega (arith, filled_drop n places (omega (arith, within)))

-- what was received grows, and a known end stays
record Grows (b c : Arriving) : Type 0 where
  received_more : received b ≤ received c
  known : (e : ℕ) → b.known_end ≡ Some e → c.known_end ≡ Some e

grows_by : (call : ReassemblyCall) (b : Arriving) → Grows b (after_call b call)
grows_by (ReassemblyCall.Read max) b = by (is_some b.aborted)
  where
    by : (c : Bool) → Grows b (if c then b else after_reading max b)
    by true = record { received_more = omega arith; known = λ e is. is }
    by false = record { received_more = (let same = filled_drop (min max (length (filled b.places))) b.places (omega arith) in omega (arith, same)); known = λ e is. is }
grows_by (ReassemblyCall.Place at bytes) b = let g = arrives b (ReassemblyCall.Place at bytes) tt in record { received_more = g.grows; known = g.known }
grows_by (ReassemblyCall.Fin at) b = let g = arrives b (ReassemblyCall.Fin at) tt in record { received_more = g.grows; known = g.known }
grows_by ReassemblyCall.AckOut b = record { received_more = omega arith; known = λ e is. is }
grows_by (ReassemblyCall.Abort by_peer) b = record { received_more = omega arith; known = λ e is. is }

filled_few : (places : List (Option ℕ)) → length (filled places) ≤ length places
filled_few [] = omega arith
filled_few (None ∷ places) = omega arith
filled_few (Some byte ∷ places) = omega (arith, filled_few places)

-- what is received lies below the known end
received_below : (b : Arriving) → IsSound b → IfSome b.known_end (λ e. received b ≤ e)
received_below b sound = by b.known_end sound.ends
  where
    by : (o : Option ℕ) → IfSome o (λ e. top b ≤ e) → IfSome o (λ e. received b ≤ e)
    by None is = tt
    by (Some e) is = omega (arith, is, filled_few b.places)

-- the end is counted where it is reached
end_stays : (o later : Option ℕ) (place past : ℕ) → ((e : ℕ) → o ≡ Some e → later ≡ Some e) → place ≤ past → IfSome later (λ e. past ≤ e)
    → (if is_end o place then 1 else 0) ≤ (if is_end later past then 1 else 0)
end_stays None later place past stays more ends = omega arith
end_stays (Some e) later place past stays more ends = by (e == place) refl
  where
    known : later ≡ Some e
    known = stays e refl

    by : (c : Bool) → (e == place) ≡ c → (if c then 1 else 0) ≤ (if is_end later past then 1 else 0)
    by false is = omega arith
    by true is =
        let same : e ≡ place = eqb-true e place is in
        let most : past ≤ e = subst (λ o. IfSome o (λ k. past ≤ k)) known ends in
        let reached : (e == past) ≡ true = eq-eqb e past (omega (arith, same, most, more)) in
        rw (known, reached) (omega arith)

next_up : (call : ReassemblyCall) (b : Arriving) → IsSound b → next_wanted b ≤ next_wanted (after_call b call)
next_up call b sound =
    let c : Arriving = after_call b call in
    let g = grows_by call b in
    let more = g.received_more in
    let ends = end_stays b.known_end c.known_end (received b) (received c) g.known g.received_more (received_below c (sound-after_call call b sound)) in
    omega (arith, more, ends)

pub record AreSound (six : SixBooks) : Type 0 where
  pub a : IsSound six.reassembly_a
  pub b : IsSound six.reassembly_b

pub sound_on : (x : Ask) (six : SixBooks) → AreSound six → AreSound (after_ask x six)
sound_on (Ask.Reassembly A call) six h = record { a = sound-after_call call six.reassembly_a h.a; b = h.b }
sound_on (Ask.Reassembly B call) six h = record { a = h.a; b = sound-after_call call six.reassembly_b h.b }
sound_on (Ask.Send A call) six h = record { a = h.a; b = h.b }
sound_on (Ask.Send B call) six h = record { a = h.a; b = h.b }
sound_on (Ask.Control A call) six h = record { a = h.a; b = h.b }
sound_on (Ask.Control B call) six h = record { a = h.a; b = h.b }
sound_on (Ask.Local step) six h = h

abbrev pub wanted : Side → SixBooks → ℕ
wanted s six = next_wanted (reassembly_of s six)

pub wanted_up : (s : Side) (x : Ask) (six : SixBooks) → AreSound six → wanted s six ≤ wanted s (after_ask x six)
wanted_up A (Ask.Reassembly A call) six h = next_up call six.reassembly_a h.a
wanted_up B (Ask.Reassembly B call) six h = next_up call six.reassembly_b h.b
wanted_up A (Ask.Reassembly B call) six h = omega arith
wanted_up B (Ask.Reassembly A call) six h = omega arith
wanted_up A (Ask.Send A call) six h = omega arith
wanted_up A (Ask.Send B call) six h = omega arith
wanted_up B (Ask.Send A call) six h = omega arith
wanted_up B (Ask.Send B call) six h = omega arith
wanted_up A (Ask.Control A call) six h = omega arith
wanted_up A (Ask.Control B call) six h = omega arith
wanted_up B (Ask.Control A call) six h = omega arith
wanted_up B (Ask.Control B call) six h = omega arith
wanted_up s (Ask.Local step) six h = omega arith

-- ---- an end

-- what it acknowledges is as before, or what the reply tells
abbrev Own : Reply → PathEnd → PathEnd → Type 0
Own r e f = (f.receiving.next ≡ e.receiving.next) ⊎ (f.receiving.next ≡ (window_in r e.receiving).next)

module _ (r : Reply) (p : PathState Carried) where
  either : (s : Side) (b : Bool) (x y : PathState Carried) → Own r (end_at s p) (end_at s x) → Own r (end_at s p) (end_at s y) → Own r (end_at s p) (end_at s (if b then x else y))
  either s true x y h g = h
  either s false x y h g = g

  break_own : (s : Side) (reason : ℕ) → Own r (end_at s p) (end_at s (answered_break values s reason r p))
  break_own A reason = either A (end_at A p).treated.asked _ _ (inr refl) (inl refl)
  break_own B reason = either B (end_at B p).treated.asked _ _ (inr refl) (inl refl)

  thing_own : (s : Side) (item : Heard) → Own r (end_at s p) (end_at s (answered_heard values s item r p))
  thing_own A (Heard.DataAck next window) = inl refl
  thing_own B (Heard.DataAck next window) = inl refl
  thing_own A (Heard.Mapping fin) = either A (is_clash (end_at A p)) _ _ (break_own A 1) (inl refl)
  thing_own B (Heard.Mapping fin) = either B (is_clash (end_at B p)) _ _ (break_own B 1) (inl refl)
  thing_own A (Heard.DataFin place) = inl refl
  thing_own B (Heard.DataFin place) = inl refl
  thing_own A (Heard.InfiniteMapping place position) = inl (infinite_came_so (λ f. f.receiving.next ≡ (end_at A p).receiving.next) place position r (end_at A p) (λ other. refl))
  thing_own B (Heard.InfiniteMapping place position) = inl (infinite_came_so (λ f. f.receiving.next ≡ (end_at B p).receiving.next) place position r (end_at B p) (λ other. refl))
  thing_own A (Heard.Keys own peer) = inl refl
  thing_own B (Heard.Keys own peer) = inl refl
  thing_own A (Heard.Notice notice) = inl refl
  thing_own B (Heard.Notice notice) = inl refl
  thing_own A Heard.Fail = either A _ _ _ (inl refl) (inl refl)
  thing_own B Heard.Fail = either B _ _ _ (inl refl) (inl refl)
  thing_own A _ = inl refl
  thing_own B _ = inl refl

  item_own : (s : Side) (o : Option Heard) → Own r (end_at s p) (end_at s (answered_item values s o r p))
  item_own s None = inl refl
  item_own s (Some item) = thing_own s item

  plain_own : (s : Side) (b : Bool) → Own r (end_at s p)
      (end_at s (if b then answered_break values s 6 r p else goes_on s (with_plain_ack (after_fell FellEvent.PlainAck r (end_at s p))) (fell_duties s r p) p))
  plain_own s true = break_own s 6
  plain_own A false = inl refl
  plain_own B false = inl refl

  own_only : (d : Duty) → (writes d).own.next ≡ false → Own r (end_at (side_of d) p) (end_at (side_of d) (answered values d r p))
  own_only d never =
      inl (unwritten (writes d).own.next (end_at (side_of d) p).receiving.next (end_at (side_of d) (answered values d r p)).receiving.next never
      (ap (λ (v : PathView Carried). v.own.next) (writes_no_more values d r p).same))

  answered_own : (d : Duty) → Own r (end_at (side_of d) p) (end_at (side_of d) (answered values d r p))
  answered_own (Duty.Ask (AskDuty.Window A)) = inr refl
  answered_own (Duty.Ask (AskDuty.Window B)) = inr refl
  answered_own (Duty.Ask (AskDuty.AckOut A)) = inr refl
  answered_own (Duty.Ask (AskDuty.AckOut B)) = inr refl
  answered_own (Duty.Ask (AskDuty.BreakAck A reason)) = inr refl
  answered_own (Duty.Ask (AskDuty.BreakAck B reason)) = inr refl
  answered_own (Duty.Step (StepDuty.Heard s index)) = item_own s (item_of index (end_at s p))
  answered_own (Duty.Step (StepDuty.PlainAck s)) = plain_own s (breaks_by_ack p.profile (end_at s p))
  answered_own (Duty.Step (StepDuty.Unmapped s)) = break_own s 6
  answered_own (Duty.Send d) = own_only (Duty.Send d) (none d)
    where
      none : (d : SendDuty) → (writes (Duty.Send d)).own.next ≡ false
      none (SendDuty.Update s) = refl
      none d = refl
  answered_own (Duty.Silent d) = inl refl
  answered_own d = own_only d refl

  answered_other : (d : Duty) → (end_at (peer (side_of d)) (answered values d r p)).receiving.next ≡ (end_at (peer (side_of d)) p).receiving.next
  answered_other d =
      unwritten (writes d).other.next (end_at (peer (side_of d)) p).receiving.next (end_at (peer (side_of d)) (answered values d r p)).receiving.next (none d)
      (ap (λ (v : PathView Carried). v.other.next) (writes_no_more values d r p).same)
    where
      none : (d : Duty) → (writes d).other.next ≡ false
      none (Duty.Step StepDuty.Events) = refl
      none d = refl

-- ---- a path

-- both ends acknowledge what they did
abbrev pub Same : PathState Carried → PathState Carried → Type 0
Same p q = (q.a.receiving.next ≡ p.a.receiving.next) × (q.b.receiving.next ≡ p.b.receiving.next)

ends : (s : Side) (e : PathEnd) (p : PathState Carried) → e.receiving.next ≡ (end_at s p).receiving.next → Same p (with_end s e p)
ends A e p h = (h, refl)
ends B e p h = (refl, h)

item_same : (s : Side) (o : Option Heard) (e : PathEnd) → (item_passed s o e).receiving.next ≡ e.receiving.next
item_same s None e = refl
item_same s (Some (Heard.Mapping fin)) e = by (counts e)
  where
    by : (b : Bool) → (if b then with_learned e else with_skipped e).receiving.next ≡ e.receiving.next
    by true = refl
    by false = refl
item_same s (Some (Heard.DataFin place)) e = by (counts e)
  where
    by : (b : Bool) → (if b then with_data_fin place e else e).receiving.next ≡ e.receiving.next
    by true = refl
    by false = refl
item_same s (Some _) e = refl

quiet : (d : Duty) (p : PathState Carried) → (writes d).own.next ≡ false → (writes d).other.next ≡ false → Same p (passed d p)
quiet d p own other =
    both_ends (λ e f. f.receiving.next ≡ e.receiving.next) (side_of d) (writes d) p (passed d p)
    (λ e f x. unwritten (writes d).own.next e.receiving.next f.receiving.next own (ap (λ (v : EndView). v.next) x.same))
    (λ e f x. unwritten (writes d).other.next e.receiving.next f.receiving.next other (ap (λ (v : EndView). v.next) x.same))
    (passes_no_more d p)

passed_same : (d : Duty) (p : PathState Carried) → Same p (passed d p)
passed_same (Duty.Step (StepDuty.Heard s index)) p = ends s (item_passed s (item_of index (end_at s p)) (end_at s p)) p (item_same s (item_of index (end_at s p)) (end_at s p))
passed_same (Duty.Step (StepDuty.PlainAck s)) p = ends s (with_plain_ack (end_at s p)) p refl
passed_same (Duty.Step (StepDuty.Unmapped s)) p = ends s (after_pieces (end_at s p)) p refl
passed_same (Duty.Step _) p = (refl, refl)
passed_same (Duty.Ask (AskDuty.CheckFailed s)) p = quiet (Duty.Ask (AskDuty.CheckFailed s)) p refl refl
passed_same (Duty.Ask _) p = (refl, refl)
passed_same (Duty.Silent (SilentDuty.Timer s)) p = quiet (Duty.Silent (SilentDuty.Timer s)) p refl refl
passed_same (Duty.Silent (SilentDuty.Keep s)) p = quiet (Duty.Silent (SilentDuty.Keep s)) p refl refl
passed_same (Duty.Silent (SilentDuty.PassFin s)) p = quiet (Duty.Silent (SilentDuty.PassFin s)) p refl refl
passed_same (Duty.Send d) p = (refl, refl)
passed_same Duty.End p = (refl, refl)

pub same_lasts : Lasts Same
same_lasts = record {
  agenda = λ ds p. (refl, refl);
  chains = λ p q r x y. (y.0 ∙ x.0, y.1 ∙ x.1);
  passes = λ d p. passed_same d p;
}

same_at : (s : Side) (p q : PathState Carried) → Same p q → (end_at s q).receiving.next ≡ (end_at s p).receiving.next
same_at A p q x = x.0
same_at B p q x = x.1

-- the book tells what it wants
told_wanted : (b : Arriving) (call : ReassemblyCall) (next window : ℕ) → reply_to b call ≡ ReassemblyReply.Ack next window → next ≡ next_wanted b
told_wanted b ReassemblyCall.AckOut next window is = cc
told_wanted b (ReassemblyCall.Abort by_peer) next window is = cc
told_wanted b (ReassemblyCall.Fin at) next window is = by (fin_clash b.known_end at b) is
  where
    by : (o : Option ℕ) → fin_reply_by o at ≡ ReassemblyReply.Ack next window → next ≡ next_wanted b
    by None is = cc
    by (Some fin) is = cc
told_wanted b (ReassemblyCall.Place at bytes) next window is = by (reaches_past (edge b) at bytes) (clash b.known_end at bytes) is
  where
    by : (past : Bool) (o : Option ℕ) → (if past then ReassemblyReply.Beyond (edge b) else placed_reply o at bytes b) ≡ ReassemblyReply.Ack next window → next ≡ next_wanted b
    by true o is = cc
    by false None is = cc
    by false (Some e) is = cc
told_wanted b (ReassemblyCall.Read max) next window is = by b.aborted is
  where
    ended : (c : Bool) → (if c then ReassemblyReply.End else ReassemblyReply.NoneYet) ≡ ReassemblyReply.Ack next window → next ≡ next_wanted b
    ended true is = cc
    ended false is = cc

    given : (bytes : List ℕ) → bytes_reply bytes b ≡ ReassemblyReply.Ack next window → next ≡ next_wanted b
    given [] is = ended (is_end b.known_end b.read) is
    given (byte ∷ more) is = cc

    by : (o : Option Bool) → reading o max b ≡ ReassemblyReply.Ack next window → next ≡ next_wanted b
    by None is = given (take max (filled b.places)) is
    by (Some by_peer) is = cc

-- at each moment an end acknowledges no more than its side's book wants
abbrev pub Below : SixBooks → PathState Carried → Type 0
Below six p = (s : Side) → (end_at s p).receiving.next ≤ wanted s six

-- a step later no less
abbrev pub NextUp : PathState Carried → PathState Carried → Type 0
NextUp p q = (s : Side) → (end_at s p).receiving.next ≤ (end_at s q).receiving.next

told_here : (s : Side) (x : Ask) (six : SixBooks) (v : Receiving) → IsAt s x → v.next ≤ wanted s six
    → (v.next ≤ (window_in (reply_of six x) v).next) × ((window_in (reply_of six x) v).next ≤ wanted s six)
told_here s (Ask.Reassembly t call) six v here low = by (reply_to (reassembly_of t six) call) refl
  where
    by : (r : ReassemblyReply) → reply_to (reassembly_of t six) call ≡ r → (v.next ≤ (window_in (Reply.Reassembly r) v).next) × ((window_in (Reply.Reassembly r) v).next ≤ wanted s six)
    by (ReassemblyReply.Ack next window) is = let at = told_wanted (reassembly_of t six) call next window is in let same = ap (λ (u : Side). wanted u six) here in (omega (arith, at, same, low), omega (arith, at, same))
    by _ is = (omega arith, low)
told_here s (Ask.Send t call) six v here low = (omega arith, low)
told_here s (Ask.Control t call) six v here low = (omega arith, low)
told_here s (Ask.Local step) six v here low = (omega arith, low)

-- ---- a step of a path

sides : (s t : Side) → (s ≡ t) ⊎ (s ≡ peer t)
sides A A = inl refl
sides A B = inr refl
sides B A = inr refl
sides B B = inl refl

duty_step : (six : SixBooks) (d : Duty) (p : PathState Carried) → AreSound six → Below six p
    → let x = ask_for values d p in let q = answered values d (reply_of six x) p in NextUp p q × Below (after_ask x six) q
duty_step six d p sound low = (λ s. (each s).0, λ s. (each s).1)
  where
    x : Ask
    x = ask_for values d p

    q : PathState Carried
    q = answered values d (reply_of six x) p

    own : ((end_at (side_of d) p).receiving.next ≤ (end_at (side_of d) q).receiving.next) × ((end_at (side_of d) q).receiving.next ≤ wanted (side_of d) (after_ask x six))
    own =
        let e : PathEnd = end_at (side_of d) p in
        let up = wanted_up (side_of d) x six sound in
        let low_now = low (side_of d) in
        let here = told_here (side_of d) x six e.receiving (asks_no_more values p d).side low_now in
        let upon = here.0 in let most = here.1 in
        ⊎_elim (λ same. (omega (arith, same), omega (arith, same, low_now, up))) (λ told. (omega (arith, told, upon), omega (arith, told, most, up))) (answered_own (reply_of six x) p d)

    other : ((end_at (peer (side_of d)) p).receiving.next ≤ (end_at (peer (side_of d)) q).receiving.next) × ((end_at (peer (side_of d)) q).receiving.next ≤ wanted (peer (side_of d)) (after_ask x six))
    other =
        let same = answered_other (reply_of six x) p d in
        let low_now = low (peer (side_of d)) in
        let up = wanted_up (peer (side_of d)) x six sound in
        (omega (arith, same), omega (arith, same, low_now, up))

    each : (s : Side) → ((end_at s p).receiving.next ≤ (end_at s q).receiving.next) × ((end_at s q).receiving.next ≤ wanted s (after_ask x six))
    each s = ⊎_elim
        (λ here. subst (λ (u : Side). ((end_at u p).receiving.next ≤ (end_at u q).receiving.next) × ((end_at u q).receiving.next ≤ wanted u (after_ask x six))) (sym here) own)
        (λ there. subst (λ (u : Side). ((end_at u p).receiving.next ≤ (end_at u q).receiving.next) × ((end_at u q).receiving.next ≤ wanted u (after_ask x six))) (sym there) other)
        (sides s (side_of d))

-- whatever a path is answered
pub path_step : (six : SixBooks) (p : PathState Carried) (x : Ask) → asks_first values p.agenda p ≡ Some x → AreSound six → Below six p
    → NextUp p (takes values (reply_of six x) p) × Below (after_ask x six) (takes values (reply_of six x) p)
path_step six p x asks sound low = by p.agenda asks
  where
    by : (ds : List Duty) → asks_first values ds p ≡ Some x
        → let q = answers values ds (reply_of six x) p in NextUp p (settled q.agenda q) × Below (after_ask x six) (settled q.agenda q)
    by [] is = cc
    by (d ∷ ds) is =
        let one : ask_for values d p ≡ x = cc in
        let q = answered values d (reply_of six x) p in
        let step = subst (λ (y : Ask). let q = answered values d (reply_of six y) p in NextUp p q × Below (after_ask y six) q) one (duty_step six d p sound low) in
        let rest = settled_lasts Same same_lasts q.agenda q in (
          λ s. let up = step.0 s in let same = same_at s q (settled q.agenda q) rest in omega (arith, up, same),
          λ s. let most = step.1 s in let same = same_at s q (settled q.agenda q) rest in omega (arith, most, same),
        )

pub round_step : (p : PathState Carried) → Same p (next_round p)
round_step p = let k = begins_lasts Same same_lasts (record p { clock = p.until; until = p.until + 100 }) in (k.0, k.1)
