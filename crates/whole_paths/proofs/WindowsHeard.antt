-- Each window that an end is told counts.
use Rattle.std.proofs.Common.{◌≡◌, refl, sym, subst, ap, ◌∙◌, ◌⊎◌, inl, inr, ⊎_elim, ℕ, ◌+◌, ◌-◌, ◌≤◌, arith, max, min, Bool, true, false, true≢false, if◌then◌else◌, Some, List, [], ◌∷◌, ◌++◌, drop, length, replicate}
use Rattle.std.proofs.Math.Nat.{le-max_right}
use Rattle.std.proofs.lemmas.Option.{same_Some}
use Rattle.sides.specs.declared.side.Side.{Side}
use Rattle.sides.specs.declared.side.Side.TheVariants.{A, B}
use Rattle.send_book.specs.declared.call.SendCall.{SendCall}
use Rattle.send_book.specs.declared.call.SendReply.TheVariants as send_replies
use Rattle.send_book.specs.declared.mark.ByteMark.TheVariants.{Acked}
use Rattle.send_book.specs.State as books
use Rattle.send_book.specs.State.{acked_len}
use Rattle.send_book.specs.Steps.{fin_after, is_future}
use Rattle.actor_desk.specs.declared.ask.Ask.{Ask}
use Rattle.actor_desk.specs.declared.ask.Note.{Note}
use Rattle.actor_desk.specs.declared.ask.Reply.{Reply}
use Rattle.actor_desk.specs.declared.ask.Reply.TheVariants as replies
use Rattle.actor_desk.specs.Desk.{SixBooks, after_ask, reply_of, send_of}
use Rattle.actor_desk.specs.Words.{is_nil}
use Rattle.path_agenda.specs.Agenda.{start_of_turn}
use Rattle.path_agenda.specs.declared.duty.Duty.{Duty}
use Rattle.path_agenda.specs.declared.duty.Duty.TheVariants as duties
use Rattle.path_agenda.specs.declared.duty.StepDuty.TheVariants as step_duties
use Rattle.path_agenda.specs.declared.heard.Heard.{Heard}
use Rattle.path_agenda.specs.declared.heard.Heard.TheVariants as says
use Rattle.path_core.specs.Choices.{item_at}
use Rattle.path_core.specs.Codec.{Codec}
use Rattle.path_core.specs.Duties.{ask_for, answered}
use Rattle.path_core.specs.End.{PathEnd}
use Rattle.path_core.specs.MpJoin.{is_joined}
use Rattle.path_core.specs.OptionsIn.{items_of, options_heard}
use Rattle.path_core.specs.State.{PathState, end_at, with_agenda}
use Rattle.path_core.specs.Steps.{asks_of, next_round, settled, takes}
use Rattle.world_laws.specs.Promises.{tells_refusal}
use Rattle.whole_paths.specs.Brought.{Brings}
use Rattle.whole_paths.specs.DataAcksHeard.{IsToHear}
use Rattle.whole_paths.specs.WindowsHeard.{IsOpenTo, StaysOpenTo, HearsWindows, EachWindowCounts}
use Rattle.whole_paths.specs.WindowsHeard.{IsOpenTo as open_by}
use Rattle.whole_paths.specs.WindowsHeard.{StaysOpenTo as stay}
use Rattle.whole_paths.proofs.Bringing.{first_so}
use Rattle.whole_paths.proofs.Books.{side_up}
use Rattle.whole_paths.proofs.DataAcksHeard.{CountsOn, Now, copy_now, counts_now, hear_now, settled_now}
use Rattle.whole_paths.proofs.DataAcksHeard.Now.{at_place, to_hear, at_dead, resets_next, fallen, endless}
use Rattle.whole_paths.proofs.Turns.{TellsSteps, paths_between}

-- ---- a send book

-- a Data ACK that isn't refused moves the edge to its window's end, unless it was there
edge_so : (next window at : ℕ) (b : books.Sending) (future : Bool) → at ≤ next + window
    → let after : books.Sending = if future then b else record b { marks = replicate (min next (length b.marks)) Acked ++ drop next b.marks; edge = max b.edge (next + window); fin = fin_after next b } in
    let r : Reply = replies.Send (if future then send_replies.AckFuture (length b.written) else send_replies.Acked (min next (length b.written) - acked_len b.marks) (fin_after next b)) in
    (at ≤ after.edge) ⊎ (tells_refusal r ≡ true)
edge_so next window at b true low = inr refl
edge_so next window at b false low = inl (let most = le-max_right b.edge (next + window) in omega (arith, low, most))

abbrev OpenTo : Side → ℕ → SixBooks → PathEnd → Type 0
OpenTo s at six e = at ≤ (send_of s six).edge

abbrev Reaches : ℕ → ℕ → ℕ → Type 0
Reaches at next window = at ≤ next + window

ack_opens : (s : Side) (at next window : ℕ) (six : SixBooks) → at ≤ next + window → let x : Ask = Ask.Send s (SendCall.AckIn next window) in
    (at ≤ (send_of s (after_ask x six)).edge) ⊎ (tells_refusal (reply_of six x) ≡ true)
ack_opens A at next window six low = edge_so next window at six.send_a (is_future next six.send_a) low
ack_opens B at next window six low = edge_so next window at six.send_b (is_future next six.send_b) low

module _ (s : Side) (at : ℕ) where
  same_far : (six : SixBooks) → CountsOn (OpenTo s at six) (OpenTo s at six)
  same_far six e f far h = h

  next_far : (x : Ask) (six : SixBooks) → CountsOn (OpenTo s at six) (OpenTo s at (after_ask x six))
  next_far x six e f far h = let up = (side_up x six s).send.edge in omega (arith, h, up)

  now_so : {C : Type 0} (after : SixBooks) (steps : List Note) (q : PathState C) → Now s (OpenTo s at after) (Reaches at) q.agenda (end_at s q) → StaysOpenTo after s at steps q
  now_so after steps q (at_place h) = stay.on (open_by.counts h)
  now_so after steps q (to_hear next window low hear) = stay.on (open_by.told next window low hear)
  now_so after steps q (at_dead is) = stay.gone is
  now_so after steps q (resets_next is) = stay.reset is
  now_so after steps q (fallen is) = stay.plain is
  now_so after steps q (endless some) = stay.infinite some

  settled_so : {C : Type 0} (after : SixBooks) (steps : List Note) (ds : List Duty) (p : PathState C) → Now s (OpenTo s at after) (Reaches at) ds (end_at s p) → StaysOpenTo after s at steps (settled ds p)
  settled_so after steps ds p h = now_so after steps (settled ds p) (settled_now s (OpenTo s at after) (Reaches at) (same_far after) ds p h)

  module _ {C : Type 0} (k : Codec C) (six : SixBooks) (x : Ask) (ds : List Duty) (p : PathState C) where
    hears_so : (next window : ℕ) → Reaches at next window → x ≡ Ask.Send s (SendCall.AckIn next window) → (at ≤ (send_of s (after_ask x six)).edge) ⊎ (tells_refusal (reply_of six x) ≡ true)
    hears_so next window low is = subst (λ x. (at ≤ (send_of s (after_ask x six)).edge) ⊎ (tells_refusal (reply_of six x) ≡ true)) (sym is) (ack_opens s at next window six low)

    open_now : (d : Duty) → x ≡ ask_for k d (with_agenda (d ∷ ds) p) → IsOpenTo six s at (with_agenda (d ∷ ds) p)
        → let q : PathState C = answered k d (reply_of six x) (with_agenda (d ∷ ds) p) in Now s (OpenTo s at (after_ask x six)) (Reaches at) q.agenda (end_at s q) ⊎ (tells_refusal (reply_of six x) ≡ true)
    open_now d is (open_by.counts h) = counts_now s (OpenTo s at six) (OpenTo s at (after_ask x six)) (Reaches at) (next_far x six) k x (reply_of six x) ds p hears_so d h
    open_now d is (open_by.told next window low hear) = hear_now s (OpenTo s at six) (OpenTo s at (after_ask x six)) (Reaches at) (next_far x six) k x (reply_of six x) ds p hears_so next window low d is hear

module _ {C : Type 0} (k : Codec C) where
  -- ---- a turn

  module _ (six : SixBooks) (x : Ask) (steps : List Note) (ds : List Duty) (p : PathState C) where
    abbrev r : Reply
    r = reply_of six x

    abbrev after : SixBooks
    after = after_ask x six

    abbrev behind : Duty → PathState C
    behind d = with_agenda (d ∷ ds) p

    abbrev to : Duty → PathState C
    to d = answered k d r (behind d)

    abbrev Tells : (d : Duty) → Brings k (behind d) → Type 0
    Tells d b = (index next window at : ℕ) → at ≤ next + window → item_at index (items_of (is_joined p.profile) b.copy.due.to (options_heard (end_at b.copy.due.to p) b.copy.segment)) ≡ Some (says.DataAck next window)
        → (takes k r (behind d) ≡ behind d) ⊎ StaysOpenTo after b.copy.due.to at steps (takes k r (behind d))

    tells : (b : Brings k (behind (duties.Step step_duties.Events))) → Tells (duties.Step step_duties.Events) b
    tells b index next window at low is =
        let d : Duty = duties.Step step_duties.Events in
        let t : Side = b.copy.due.to in
        inr (settled_so t at after steps (to d).agenda (to d) (copy_now (OpenTo t at after) (Reaches at) k ds r p b index next window low is))

    answer_hears : (d : Duty) → x ≡ ask_for k d (behind d) → TellsSteps r steps → HearsWindows k six after steps (behind d) (takes k r (behind d))
    answer_hears d is refuses = record {
      tells = λ b. subst (λ d. (b : Brings k (behind d)) → Tells d b) (sym (first_so d (duties.Step step_duties.Events) ds b.copy.others b.copy.first)) tells b;
      stays = λ s at h. ⊎_elim (λ done. settled_so s at after steps (to d).agenda (to d) done) (λ refused. stay.refused (refuses refused)) (open_now s at k six x ds p d is h);
    }

  others_hear : (six : SixBooks) (x : Ask) (steps : List Note) (p : PathState C) → HearsWindows k six (after_ask x six) steps p p
  others_hear six x steps p = record { tells = λ b index next window at low is. inl refl; stays = by }
    where
      by : (s : Side) (at : ℕ) → IsOpenTo six s at p → StaysOpenTo (after_ask x six) s at steps p
      by s at (open_by.counts h) = stay.on (open_by.counts (let up = (side_up x six s).send.edge in omega (arith, h, up)))
      by s at (open_by.told next window low hear) = stay.on (open_by.told next window low hear)

  takes_hears : (six : SixBooks) (x : Ask) (steps : List Note) (p : PathState C) → asks_of k p ≡ Some x → TellsSteps (reply_of six x) steps → HearsWindows k six (after_ask x six) steps p (takes k (reply_of six x) p)
  takes_hears six x steps p asks refuses = by p.agenda asks
    where
      by : (ds : List Duty) → let y : PathState C = with_agenda ds p in asks_of k y ≡ Some x → HearsWindows k six (after_ask x six) steps y (takes k (reply_of six x) y)
      by [] asks = others_hear six x steps (with_agenda [] p)
      by (d ∷ ds) asks = answer_hears six x steps ds p d (sym (same_Some (ask_for k d (with_agenda (d ∷ ds) p)) x asks)) refuses

  next_hears : (six : SixBooks) (steps : List Note) (p : PathState C) → is_nil p.agenda ≡ true → HearsWindows k six six steps p (next_round p)
  next_hears six steps p over = record {
    tells = λ b index next window at low is. absurd (true≢false (sym over ∙ ap is_nil b.copy.first));
    stays = λ s at h. settled_so s at six steps start_of_turn (with_agenda start_of_turn (record p { clock = p.until; until = p.until + 100 })) (by s at h);
  }
    where
      idle : (s : Side) (item : Heard) (xs : List Heard) (ds : List Duty) → is_nil ds ≡ true → IsToHear s item xs ds → ⊥
      idle s item xs [] over hear = hear
      idle s item xs (d ∷ ds) over hear = true≢false (sym over)

      by : (s : Side) (at : ℕ) → IsOpenTo six s at p → Now s (OpenTo s at six) (Reaches at) start_of_turn (end_at s p)
      by s at (open_by.counts h) = at_place h
      by s at (open_by.told next window low hear) = absurd (idle s (says.DataAck next window) (end_at s p).treated.items p.agenda over hear)

  pub each_window_counts : EachWindowCounts k
  each_window_counts = paths_between k (HearsWindows k) others_hear takes_hears next_hears
