-- The SYN/ACK arrives at A: the world from A's side, from the arrival to the first duty of its treatment.
use Rattle.clean_finish.proofs.Words.{◌≡◌, refl, sym, subst, ap, ◌∙◌, ℕ, ◌+◌, ◌<◌, ◌≤◌, max, true, false, ◌⊎◌, inl, inr, ⊎_elim, Option, None, List, [], ◌∷◌}
use Rattle.clean_finish.proofs.Words.{map, arith, le_refl, both_ways, A, B, KeptMapping, Outgoing, Flight, Duty, SendDuty, StepDuty, AskDuty, syn_ack_came}
use Rattle.clean_finish.proofs.Words.{Profile, Carried, PathEnd, Setting, Copy, Lane, IsBefore, MayHearData, hears, goes_back, rests, hears_data, rested}
use Rattle.clean_finish.proofs.Words.{AreTaken, Hand, WayIs, Sent, Keys, copy_in, Facing, Half, Has, StageIs, HasNotBegun, end_known, ReaderIs}
use Rattle.clean_finish.proofs.AnswerHeard.{answer_at, heard_own, end_after as heard_end}
use Rattle.clean_finish.proofs.Hands.{in_hand, way_arrives, way_brought}
use Rattle.clean_finish.proofs.Passing.{stands_then}
use Rattle.clean_finish.proofs.SynArrived.{last, not_last, done, all_settled}

module _ {keys : Keys} {k j : Setting} {c : Profile} {begun begun_back : Lane} {m n : Half} {clock until : ℕ}
    (h : Facing A keys k j c begun begun_back m n clock until ((Duty.Step StepDuty.Events) ∷ Duty.End ∷ []))
    (none_came : h.back.control_came ≡ 0) (none_keys : h.back.keys_came ≡ 0)
    (low : m.end.tcp.send.una ≡ 0) (sent_one : h.out.control_sent ≡ 1) (nothing_waits : h.waiting ≡ 0)
    (tick window edge : ℕ) (some : 1 ≤ edge) (one_edge : edge ≤ 1) (most_edge : edge ≤ m.end.tcp.send.nxt)
    (f : Flight Carried) (fs : List (Flight Carried)) (xs : List Sent)
    (w : WayIs c keys k j B h.back.sender h.back.receiver h.back.datas h.out.acks None m.end.tcp.send.una n.end.tcp.recv.edge (f ∷ fs))
    (sent : w.sent ≡ answer_at tick h.back.received window edge k.least ∷ xs) (turn : h.stage_back.wait ≡ true)
    (told : List KeptMapping) (answer : Outgoing)
  where
    abbrev pub x : Sent
    x = answer_at tick h.back.received window edge k.least

    abbrev pub hand_after : Option Hand
    hand_after = in_hand x false true

    abbrev pub rest : List Copy
    rest = map copy_in xs

    abbrev pub back_after : Lane
    back_after = hears_data (copy_in x) rest h.back

    abbrev pub end_after : PathEnd
    end_after = heard_end h none_came low sent_one nothing_waits tick h.back.received window edge refl some one_edge most_edge told answer

    pub max_none : (y : ℕ) → max y 0 ≡ y
    max_none y = omega arith

    pub plus_none : (y : ℕ) → y + 0 ≡ y
    plus_none y = omega arith

    pub one_new : {y : ℕ} → y ≡ 0 → y < 1
    one_new is = omega (arith, is)

    pub no_more : (y : ℕ) → y + 0 ≤ y
    no_more y = omega arith

    pub came_one : {y : ℕ} → y ≡ 0 → max y 1 ≡ 1
    came_one is = omega (arith, is)

    pub sent_some : {y : ℕ} → y ≡ 1 → 1 ≤ y
    sent_some is = omega (arith, is)

    pub zero_max : {y : ℕ} → y ≡ 0 → max y 0 ≡ 0
    zero_max is = omega (arith, is)

    pub room_on : {waiting written : ℕ} (granted : ℕ) → waiting ≡ 0 → granted + waiting ≤ written → granted + 0 ≤ written
    room_on granted none less = omega (arith, none, less)

    pub not_b : B ≡ A → ⊥
    not_b e = cc

    -- ---- the moves

    pub may_hear : MayHearData h.stage_back false (copy_in x) rest h.back
    may_hear = record {
      first = w.datas_are ∙ ap (λ (ys : List Sent). map copy_in ys) sent;
      turn = turn;
      news = inr (inr (inl (one_new none_came)));
      asked = λ e. (⊎_elim (λ is. is) (λ there. absurd (never there)) h.stages_back.ask, no_more h.back.received, omega arith);
    }
      where
        never : Has (Duty.Ask (AskDuty.Window A)) last ⊎ (Has (Duty.Ask (AskDuty.AckOut A)) last × (m.end.treated.asked ≡ true)) → ⊥
        never (inl there) = not_last refl refl there
        never (inr there) = not_last refl refl there.0

    pub emits : IsBefore (record h.stage { emit = true; finish = true }) h.stage
    emits = record {
      ask = λ e. e;
      tell = refl;
      window = λ e. e;
      update = λ e. e;
      emit = λ e. absurd (both_ways _ e refl);
      finish = λ e. absurd (both_ways _ e refl);
      wait = λ e. e;
    }

    -- ---- what is still to be done

    pub stages_after : StageIs A B (syn_ack_came A) n.end.treated.asked h.owes_back (record h.stage { emit = true; finish = true })
    stages_after = record {
      window = inl (done refl refl h.stages.window);
      update = inl (done refl refl h.stages.update);
      emit = inr (inr (inr (inr (inr (inr (inr (inr (inl refl))))))));
      finish = inr (inr (inr (inr (inr (inr (inr (inr (inr (inl refl)))))))));
      wait = inr (inr (inr (inr (inr (inr (inr (inr (inr (inr (inr (inr (inl refl))))))))))));
      tell = inl (⊎_elim (λ is. is) (λ there. absurd (never_tells there)) h.stages.tell);
      ask = inl (⊎_elim (λ is. is) (λ there. absurd (never_asks there)) h.stages.ask);
    }
      where
        never_tells : Has (Duty.Send (SendDuty.SynAck B)) last ⊎ (Has (Duty.Send (SendDuty.Acknowledge B)) last × (h.owes_back ≡ true)) → ⊥
        never_tells (inl there) = not_last refl refl there
        never_tells (inr there) = not_last refl refl there.0

        never_asks : Has (Duty.Ask (AskDuty.Window B)) last ⊎ (Has (Duty.Ask (AskDuty.AckOut B)) last × (n.end.treated.asked ≡ true)) → ⊥
        never_asks (inl there) = not_last refl refl there
        never_asks (inr there) = not_last refl refl there.0

    pub stages_back_after : StageIs B A (syn_ack_came A) false true (record h.stage_back { ask = false; tell = true })
    stages_back_after = record {
      window = inl (done refl refl h.stages_back.window);
      update = inl (done refl refl h.stages_back.update);
      emit = inl (done refl refl h.stages_back.emit);
      finish = inl (done refl refl h.stages_back.finish);
      wait = inr (inr (inr (inr (inr (inr (inr (inr (inr (inr (inr (inr (inl refl))))))))))));
      tell = inr (inr (inr (inr (inr (inl refl))), refl));
      ask = inl refl;
    }

    pub begins_back_after : (1 ≤ h.back.control_sent) ⊎ HasNotBegun B k h.back.sender h.out.receiver n.end last
        → (1 ≤ h.back.control_sent) ⊎ HasNotBegun B k h.back.sender h.out.receiver n.end (syn_ack_came A)
    begins_back_after (inl already) = inl already
    begins_back_after (inr nothing) = inr (record {
      ready = nothing.ready;
      received = nothing.received;
      data_fin = nothing.data_fin;
      keys = nothing.keys;
      told = nothing.told;
      next = nothing.next;
      window = inl (⊎_elim (λ is. is) (λ there. absurd (not_last refl refl there)) nothing.window);
      syn = λ is. absurd (not_b is);
    })

    pub came_same : {now : _} {book : _} → ReaderIs j h.back.read h.back.data_fin_came h.back.got h.back.told_end now book
        → ReaderIs j h.back.read (max h.back.data_fin_came 0) h.back.got h.back.told_end now book
    came_same {now} {book} is =
        subst (λ (y : ℕ). ReaderIs j h.back.read y h.back.got h.back.told_end now book) (sym (max_none h.back.data_fin_came)) is

    pub way_after : WayIs c keys k j B h.back.sender back_after.receiver back_after.datas h.out.acks hand_after edge n.end.tcp.recv.edge fs
    way_after = way_brought c keys k j B h.back.sender h.back.receiver h.back.datas h.out.acks edge n.end.tcp.recv.edge true fs x
        back_after.receiver (way_arrives c keys k j B h.back.sender h.back.receiver h.back.datas h.out.acks m.end.tcp.send.una n.end.tcp.recv.edge
        edge f fs x xs w sent (le_refl edge)) refl (came_one none_came) (zero_max none_keys)

    abbrev pub answer_arrived : Facing A keys k j c begun begun_back (record m { end = end_after }) (record n { flying = fs }) clock until (syn_ack_came A)
    answer_arrived = record {
      out = rested h.out;
      back = back_after;
      stage = record h.stage { emit = true; finish = true };
      stage_back = record h.stage_back { ask = false; tell = true };
      going = stands_then (stands_then h.going (record h.stage { emit = true; finish = true }) h.out
          (goes_back (record h.stage { emit = true; finish = true }) emits)) (record h.stage { emit = true; finish = true }) (rested h.out) rests;
      going_back = stands_then h.going_back (record h.stage_back { ask = false; tell = true }) back_after
          (hears false (copy_in x) rest may_hear);
      now = h.now;
      now_back = h.now_back;
      hand = hand_after;
      hand_back = h.hand_back;
      owes = true;
      owes_back = h.owes_back;
      waiting = 0;
      waiting_back = h.waiting_back;
      own = heard_own h none_came low sent_one nothing_waits tick h.back.received window edge refl some one_edge most_edge told answer;
      other = h.other;
      way = record {
        sent = h.way.sent;
        flights = h.way.flights;
        datas_are = h.way.datas_are;
        acks_are = h.way.acks_are;
        follow = h.way.follow;
        low = h.way.low;
        control = h.way.control;
        keys_shown = h.way.keys_shown;
        rise = h.way.rise;
        passed = h.way.passed;
      };
      way_back = way_after;
      apps = record {
        writes = record { numbers = h.apps.writes.numbers; over = h.apps.writes.over };
        reads = record { numbers = h.apps.reads.numbers; received = h.apps.reads.received; over = h.apps.reads.over };
        receives = record {
          read = h.apps.receives.read;
          received = h.apps.receives.received;
          known = h.apps.receives.known;
          capacity = h.apps.receives.capacity;
        };
        book = record {
          edge = h.apps.book.edge;
          owner = h.apps.book.owner;
          marks = h.apps.book.marks;
          taken = subst (λ (n : ℕ). AreTaken (h.out.granted + n) m.send.marks) nothing_waits h.apps.book.taken;
        };
        room = room_on h.out.granted nothing_waits h.apps.room;
        whole = h.apps.whole;
        fin = h.apps.fin;
      };
      apps_back = record {
        writes = record { numbers = h.apps_back.writes.numbers; over = h.apps_back.writes.over };
        reads = record {
          numbers = came_same h.apps_back.reads.numbers;
          received = plus_none h.back.received ∙ h.apps_back.reads.received;
          over = h.apps_back.reads.over;
        };
        receives = record {
          read = h.apps_back.receives.read;
          received = plus_none h.back.received ∙ h.apps_back.receives.received;
          known = h.apps_back.receives.known ∙ ap (λ (n : ℕ). end_known n j.total) (sym (max_none h.back.data_fin_came));
          capacity = h.apps_back.receives.capacity;
        };
        book = record {
          edge = h.apps_back.book.edge;
          owner = h.apps_back.book.owner;
          marks = h.apps_back.book.marks;
          taken = h.apps_back.book.taken;
        };
        room = h.apps_back.room;
        whole = h.apps_back.whole;
        fin = h.apps_back.fin;
      };
      stages = stages_after;
      stages_back = stages_back_after;
      control = h.control;
      control_back = h.control_back;
      turn = h.turn;
      turn_back = h.turn_back;
      settles = inr (inr (inr (inr (inr (inr (inr (inr (inr (inr (inr (inl refl)))))))))));
      settles_back = inl (all_settled B n.end h.settles_back);
      begins = inl (sent_some sent_one);
      begins_back = begins_back_after h.begins_back;
      owed = λ e b. refl;
      owed_back = h.owed_back;
    }
