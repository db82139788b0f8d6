-- A copy that is taken arrives: the world from the side of the end that takes it, to the first duty of its treatment.
use Rattle.clean_finish.proofs.Words.{◌≡◌, refl, sym, subst, ap, ◌∙◌, ℕ, ◌+◌, ◌≤◌, Bool, true, false, ◌⊎◌, inl, inr, ⊎_elim, None, List, [], ◌∷◌, arith, suc}
use Rattle.clean_finish.proofs.Words.{zero, both_ways, Side, peer, KeptMapping, Receiving, EndState, Outgoing, Flight, Duty, SendDuty, StepDuty, AskDuty}
use Rattle.clean_finish.proofs.Words.{heard_and, payload_came, copy_came, SilentDuty, Profile, Carried, Setting, Lane, Stage, goes_back, rests, AreTaken, EndIs}
use Rattle.clean_finish.proofs.Words.{WayIs, Sent, Keys, Facing, Half, Has, StageIs, LaneStands}
use Rattle.clean_finish.proofs.CopyHeeded.{Heeds}
use Rattle.clean_finish.proofs.Hands.{in_hand, way_arrives}
use Rattle.clean_finish.proofs.Passing.{stands_then}
use Rattle.clean_finish.proofs.Raised.{raised, before_raised, Emits}
use Rattle.clean_finish.proofs.SynArrived.{last, not_last, done, all_settled}
use Rattle.clean_finish.proofs.TakenOwn.{rested_if, held, owes_after, fresh, end_by}

pub stands_rested : {k : Setting} {begun : Lane} {p : Stage} {w : Lane} (b : Bool) → LaneStands k begun p w → LaneStands k begun p (rested_if b w)
stands_rested {k} {begun} {p} {w} true h = stands_then h p (rested_if true w) rests
stands_rested false h = h

-- ---- what is ahead

-- behind what it says
behind_heard : (s : Side) (d : Duty) (from count : ℕ) (ds : List Duty) → Has d ds → Has d (heard_and s from count ds)
behind_heard s d from zero ds there = there
behind_heard s d from (suc count) ds there = inr (behind_heard s d (from + 1) count ds there)

in_copy : (s : Side) (d : Duty) (count : ℕ) → Has d (payload_came s) → Has d (copy_came s count)
in_copy s d count there = inr (inr (behind_heard s d 0 count (payload_came s) there))

pub copy_emits : (s : Side) (count : ℕ) → Emits s (copy_came s count)
copy_emits s count = record {
  bytes = in_copy s (Duty.Step (StepDuty.Data s)) count (inr (inr (inr (inr (inr (inr (inr (inr (inr (inr (inr (inr (inr (inr (inr (inr (inr (inr (inr (inl refl))))))))))))))))))));
  end = in_copy s (Duty.Send (SendDuty.DataFin s)) count (inr (inr (inr (inr (inr (inr (inr (inr (inr (inr (inr (inr (inr (inr (inr (inr (inr (inr (inr (inr (inl refl)))))))))))))))))))));
  timer = in_copy s (Duty.Silent (SilentDuty.Timer s)) count (inr (inr (inr (inr (inr (inr (inr (inr (inr (inr (inr (inr (inr (inr (inr (inr (inr (inr (inr (inr (inr (inr (inl refl)))))))))))))))))))))));
  events = in_copy s (Duty.Step StepDuty.Events) count (inr (inr (inr (inr (inr (inr (inr (inr (inr (inr (inr (inr (inr (inr (inr (inr (inr (inr (inr (inr (inr (inr (inr (inl refl))))))))))))))))))))))));
}

module _ {s : Side} {keys : Keys} {k j : Setting} {c : Profile} {begun begun_back : Lane} {m n : Half} {clock until : ℕ}
    (h : Facing s keys k j c begun begun_back m n clock until ((Duty.Step StepDuty.Events) ∷ Duty.End ∷ []))
    (x : Sent) (told : List KeptMapping) (answer : Outgoing) (y : EndState)
    (heed : Heeds k h.out.sender (rested_if (fresh h x told answer) h.out).sender x (held h x told answer) y)
    (edge : (held h x told answer).recv.edge ≡ m.end.tcp.recv.edge)
    (waiting : h.waiting ≡ 0) (sent_some : 1 ≤ h.out.control_sent) (sent_back : 1 ≤ h.back.control_sent) (count : ℕ)
    (f : Flight Carried) (fs : List (Flight Carried)) (xs : List Sent)
    (w : WayIs c keys k j (peer s) h.back.sender h.back.receiver h.back.datas h.out.acks None m.end.tcp.send.una n.end.tcp.recv.edge (f ∷ fs))
    (sent : w.sent ≡ x ∷ xs)
    (own : EndIs s keys k j (rested_if (fresh h x told answer) h.out).sender h.back.receiver (in_hand x true true) (owes_after h x told answer) 0
    (end_by h x told answer y))
  where
    abbrev pub out_after : Lane
    out_after = rested_if (fresh h x told answer) h.out

    pub there : Emits s (copy_came s count)
    there = copy_emits s count

    pub room_on : {waits written : ℕ} (granted : ℕ) → waits ≡ 0 → granted + waits ≤ written → granted + 0 ≤ written
    room_on granted none less = omega (arith, none, less)

    pub stages_after : StageIs s (peer s) (copy_came s count) n.end.treated.asked h.owes_back (raised h.stage)
    stages_after = record {
      window = inl (done refl refl h.stages.window);
      update = inl (done refl refl h.stages.update);
      emit = inr there.bytes;
      finish = inr there.end;
      wait = inr there.events;
      tell = inl (⊎_elim (λ is. is) (λ i. absurd (never_tells i)) h.stages.tell);
      ask = inl (⊎_elim (λ is. is) (λ i. absurd (never_asks i)) h.stages.ask);
    }
      where
        never_tells : Has (Duty.Send (SendDuty.SynAck (peer s))) last ⊎ (Has (Duty.Send (SendDuty.Acknowledge (peer s))) last × (h.owes_back ≡ true)) → ⊥
        never_tells (inl i) = not_last refl refl i
        never_tells (inr i) = not_last refl refl i.0

        never_asks : Has (Duty.Ask (AskDuty.Window (peer s))) last ⊎ (Has (Duty.Ask (AskDuty.AckOut (peer s))) last × (n.end.treated.asked ≡ true)) → ⊥
        never_asks (inl i) = not_last refl refl i
        never_asks (inr i) = not_last refl refl i.0

    pub stages_back_after : StageIs (peer s) s (copy_came s count) false (owes_after h x told answer) h.stage_back
    stages_back_after = record {
      window = inl (done refl refl h.stages_back.window);
      update = inl (done refl refl h.stages_back.update);
      emit = inl (done refl refl h.stages_back.emit);
      finish = inl (done refl refl h.stages_back.finish);
      wait = inr there.events;
      tell = inl (⊎_elim (λ is. is) (λ i. absurd (never_tells i)) h.stages_back.tell);
      ask = inl (⊎_elim (λ is. is) (λ i. absurd (never_asks i)) h.stages_back.ask);
    }
      where
        never_tells : Has (Duty.Send (SendDuty.SynAck s)) last ⊎ (Has (Duty.Send (SendDuty.Acknowledge s)) last × (h.owes ≡ true)) → ⊥
        never_tells (inl i) = not_last refl refl i
        never_tells (inr i) = not_last refl refl i.0

        never_asks : Has (Duty.Ask (AskDuty.Window s)) last ⊎ (Has (Duty.Ask (AskDuty.AckOut s)) last × (m.end.treated.asked ≡ true)) → ⊥
        never_asks (inl i) = not_last refl refl i
        never_asks (inr i) = not_last refl refl i.0

    pub way_after : WayIs c keys j k s out_after.sender out_after.receiver out_after.datas h.back.acks h.hand_back n.end.tcp.send.una
        (end_by h x told answer y).tcp.recv.edge m.flying
    way_after = subst (λ (e : ℕ). WayIs c keys j k s out_after.sender out_after.receiver out_after.datas h.back.acks h.hand_back n.end.tcp.send.una
        e m.flying) (sym (ap (λ (v : Receiving). v.edge) heed.recv ∙ edge)) record {
          sent = h.way.sent;
          flights = h.way.flights;
          datas_are = h.way.datas_are;
          acks_are = h.way.acks_are;
          follow = h.way.follow;
          low = h.way.low;
          control = h.way.control;
          keys_shown = h.way.keys_shown;
          rise = h.way.rise;
          passed = h.way.passed;
        }

    pub way_back_after : WayIs c keys k j (peer s) h.back.sender h.back.receiver h.back.datas out_after.acks (in_hand x true true)
        (end_by h x told answer y).tcp.send.una n.end.tcp.recv.edge fs
    way_back_after = way_arrives c keys k j (peer s) h.back.sender h.back.receiver h.back.datas h.out.acks m.end.tcp.send.una n.end.tcp.recv.edge
        y.send.una f fs x xs w sent (same heed.una)
      where
        same : {a b : ℕ} → a ≡ b → a ≤ b
        same is = omega (arith, is)

    abbrev pub copy_arrived : Facing s keys k j c begun begun_back (record m { end = end_by h x told answer y }) (record n { flying = fs }) clock until
        (copy_came s count)
    copy_arrived = record {
      out = out_after;
      back = h.back;
      stage = raised h.stage;
      stage_back = h.stage_back;
      going = stands_rested (fresh h x told answer) (stands_then h.going (raised h.stage) h.out (goes_back (raised h.stage) (before_raised h.stage)));
      going_back = h.going_back;
      now = h.now;
      now_back = h.now_back;
      hand = in_hand x true true;
      hand_back = h.hand_back;
      owes = owes_after h x told answer;
      owes_back = h.owes_back;
      waiting = 0;
      waiting_back = h.waiting_back;
      own = own;
      other = h.other;
      way = way_after;
      way_back = way_back_after;
      apps = record {
        writes = record { numbers = h.apps.writes.numbers; over = h.apps.writes.over };
        reads = record { numbers = h.apps.reads.numbers; received = h.apps.reads.received; over = h.apps.reads.over };
        receives = record {
          read = h.apps.receives.read;
          received = h.apps.receives.received;
          known = h.apps.receives.known;
          capacity = h.apps.receives.capacity;
        };
        book = record {
          edge = h.apps.book.edge;
          owner = h.apps.book.owner;
          marks = h.apps.book.marks;
          taken = subst (λ (n : ℕ). AreTaken (h.out.granted + n) m.send.marks) waiting h.apps.book.taken;
        };
        room = room_on h.out.granted waiting h.apps.room;
        whole = h.apps.whole;
        fin = h.apps.fin;
      };
      apps_back = h.apps_back;
      stages = stages_after;
      stages_back = stages_back_after;
      control = h.control;
      control_back = h.control_back;
      turn = h.turn;
      turn_back = h.turn_back;
      settles = inr there.timer;
      settles_back = inl (all_settled (peer s) n.end h.settles_back);
      begins = inl sent_some;
      begins_back = inl sent_back;
      owed = λ e b. absurd (both_ways true b refl);
      owed_back = h.owed_back;
    }
