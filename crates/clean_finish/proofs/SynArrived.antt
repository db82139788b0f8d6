-- The SYN arrives at B: the world from B's side, from the arrival to the first duty of its treatment.
use Rattle.clean_finish.proofs.Words.{◌≡◌, refl, sym, subst, ap, ◌∙◌, ℕ, ◌+◌, ◌<◌, ◌≤◌, max, Bool, true, false, ◌||◌, ◌⊎◌, inl, inr, ⊎_elim, Option, None, List}
use Rattle.clean_finish.proofs.Words.{[], ◌∷◌, map, arith, ◌==◌, both_ways, Side, A, B, KeptMapping, Outgoing, Listen, Flight, Duty, SendDuty, StepDuty}
use Rattle.clean_finish.proofs.Words.{AskDuty, syn_came, Profile, Carried, PathEnd, is_connected, Setting, Copy, Lane, IsBefore, MayHearData, hears, goes_back}
use Rattle.clean_finish.proofs.Words.{hears_data, Hand, WayIs, Sent, Keys, copy_in, Facing, Half, Has, StageIs, HasNotBegun, IsSettledSoon, end_known, ReaderIs}
use Rattle.clean_finish.proofs.Dropping.{differ, kind}
use Rattle.clean_finish.proofs.Hands.{in_hand, way_arrives, way_brought}
use Rattle.clean_finish.proofs.Passing.{stands_then}
use Rattle.clean_finish.proofs.SynHeard.{syn_at, heard_own, end_after as heard_end}

abbrev pub last : List Duty
last = (Duty.Step StepDuty.Events) ∷ Duty.End ∷ []

pub not_last : {d : Duty} → (kind d == kind (Duty.Step StepDuty.Events)) ≡ false → (kind d == kind Duty.End) ≡ false → Has d last → ⊥
not_last a b (inl e) = differ a e
not_last a b (inr (inl e)) = differ b e
not_last a b (inr (inr never)) = never

pub done : {b : Bool} {d : Duty} → (kind d == kind (Duty.Step StepDuty.Events)) ≡ false → (kind d == kind Duty.End) ≡ false → (b ≡ false) ⊎ Has d last → b ≡ false
done x y (inl is) = is
done x y (inr there) = absurd (not_last x y there)

pub all_settled : (s : Side) (e : PathEnd) → IsSettledSoon s last e → (e.tcp.timing.news || e.sending.news) ≡ false
all_settled s e (inl is) = is
all_settled s e (inr there) = absurd (not_last refl refl there)

module _ {keys : Keys} {k j : Setting} {c : Profile} {begun begun_back : Lane} {m n : Half} {clock until : ℕ}
    (h : Facing B keys k j c begun begun_back m n clock until ((Duty.Step StepDuty.Events) ∷ Duty.End ∷ []))
    (none : h.hand ≡ None) (none_came : h.back.control_came ≡ 0)
    (low : m.end.tcp.send.una ≡ 0) (listens : m.end.tcp.state ≡ Listen) (unsent : h.out.control_sent ≡ 0) (unrowed : h.out.row ≡ 0)
    (tick window edge : ℕ) (f : Flight Carried) (fs : List (Flight Carried)) (xs : List Sent)
    (w : WayIs c keys k j A h.back.sender h.back.receiver h.back.datas h.out.acks None m.end.tcp.send.una n.end.tcp.recv.edge (f ∷ fs))
    (sent : w.sent ≡ syn_at tick h.back.received window edge k.least ∷ xs) (turn : h.stage_back.wait ≡ true)
    (told : List KeptMapping) (answer : Outgoing)
  where
    abbrev pub x : Sent
    x = syn_at tick h.back.received window edge k.least

    abbrev pub hand_after : Option Hand
    hand_after = in_hand x false true

    abbrev pub rest : List Copy
    rest = map copy_in xs

    abbrev pub back_after : Lane
    back_after = hears_data (copy_in x) rest h.back

    abbrev pub end_after : PathEnd
    end_after = heard_end h none none_came low listens tick h.back.received window edge refl unrowed told answer

    pub max_none : (y : ℕ) → max y 0 ≡ y
    max_none y = omega arith

    pub plus_none : (y : ℕ) → y + 0 ≡ y
    plus_none y = omega arith

    one_new : {y : ℕ} → y ≡ 0 → y < 1
    one_new is = omega (arith, is)

    no_more : (y : ℕ) → y + 0 ≤ y
    no_more y = omega arith

    came_one : {y : ℕ} → y ≡ 0 → max y 1 ≡ 1
    came_one is = omega (arith, is)

    keys_low : {y z : ℕ} → y ≤ z → z ≡ 0 → max y 0 ≡ 0
    keys_low a b = omega (arith, a, b)

    not_both : {y : ℕ} → 1 ≤ y → y ≡ 0 → ⊥
    not_both a b = absurd (omega (arith, a, b))

    zero_low : {y : ℕ} (z : ℕ) → y ≡ 0 → y ≤ z
    zero_low z is = omega (arith, is)

    zero_plus : {y : ℕ} → y ≡ 0 → y + 0 ≡ 0
    zero_plus is = omega (arith, is)

    zero_max : {y : ℕ} → y ≡ 0 → max y 0 ≡ 0
    zero_max is = omega (arith, is)

    not_a : B ≡ A → ⊥
    not_a e = cc

    -- ---- the moves

    pub may_hear : MayHearData h.stage_back false (copy_in x) rest h.back
    may_hear = record {
      first = w.datas_are ∙ ap (λ (ys : List Sent). map copy_in ys) sent;
      turn = turn;
      news = inr (inr (inl (one_new none_came)));
      asked = λ e. (⊎_elim (λ is. is) (λ there. absurd (never there)) h.stages_back.ask, no_more h.back.received, omega arith);
    }
      where
        never : Has (Duty.Ask (AskDuty.Window B)) last ⊎ (Has (Duty.Ask (AskDuty.AckOut B)) last × (m.end.treated.asked ≡ true)) → ⊥
        never (inl there) = not_last refl refl there
        never (inr there) = not_last refl refl there.0

    pub emits : IsBefore (record h.stage { emit = true; finish = true }) h.stage
    emits = record {
      ask = λ e. e;
      tell = refl;
      window = λ e. e;
      update = λ e. e;
      emit = λ e. absurd (both_ways _ e refl);
      finish = λ e. absurd (both_ways _ e refl);
      wait = λ e. e;
    }

    -- ---- what is still to be done

    pub stages_after : StageIs B A (syn_came B) n.end.treated.asked h.owes_back (record h.stage { emit = true; finish = true })
    stages_after = record {
      window = inl (done refl refl h.stages.window);
      update = inl (done refl refl h.stages.update);
      emit = inr (inr (inr (inr (inr (inr (inr (inl refl)))))));
      finish = inr (inr (inr (inr (inr (inr (inr (inr (inl refl))))))));
      wait = inr (inr (inr (inr (inr (inr (inr (inr (inr (inr (inr (inl refl)))))))))));
      tell = inl (⊎_elim (λ is. is) (λ there. absurd (never_tells there)) h.stages.tell);
      ask = inl (⊎_elim (λ is. is) (λ there. absurd (never_asks there)) h.stages.ask);
    }
      where
        never_tells : Has (Duty.Send (SendDuty.SynAck A)) last ⊎ (Has (Duty.Send (SendDuty.Acknowledge A)) last × (h.owes_back ≡ true)) → ⊥
        never_tells (inl there) = not_last refl refl there
        never_tells (inr there) = not_last refl refl there.0

        never_asks : Has (Duty.Ask (AskDuty.Window A)) last ⊎ (Has (Duty.Ask (AskDuty.AckOut A)) last × (n.end.treated.asked ≡ true)) → ⊥
        never_asks (inl there) = not_last refl refl there
        never_asks (inr there) = not_last refl refl there.0

    pub stages_back_after : StageIs A B (syn_came B) false h.owes (record h.stage_back { ask = false; tell = true })
    stages_back_after = record {
      window = inl (done refl refl h.stages_back.window);
      update = inl (done refl refl h.stages_back.update);
      emit = inl (done refl refl h.stages_back.emit);
      finish = inl (done refl refl h.stages_back.finish);
      wait = inr (inr (inr (inr (inr (inr (inr (inr (inr (inr (inr (inl refl)))))))))));
      tell = inr (inl (inr (inr (inl refl))));
      ask = inl refl;
    }

    pub begins_after : HasNotBegun B j h.out.sender back_after.receiver end_after (syn_came B)
    begins_after = ⊎_elim (λ some. absurd (not_both some unsent)) (λ nothing. record {
      ready = nothing.ready;
      received = zero_plus nothing.received;
      data_fin = zero_max nothing.data_fin;
      keys = zero_max nothing.keys;
      told = nothing.told;
      next = nothing.next;
      window = inl (⊎_elim (λ is. is) (λ there. absurd (not_last refl refl there)) nothing.window);
      syn = λ is. absurd (not_a is);
    }) h.begins

    pub begins_back_after : (1 ≤ h.back.control_sent) ⊎ HasNotBegun A k h.back.sender h.out.receiver n.end last
        → (1 ≤ h.back.control_sent) ⊎ HasNotBegun A k h.back.sender h.out.receiver n.end (syn_came B)
    begins_back_after (inl some) = inl some
    begins_back_after (inr nothing) = absurd (not_last refl refl (nothing.syn refl).1)

    pub came_same : {now : _} {book : _} → ReaderIs j h.back.read h.back.data_fin_came h.back.got h.back.told_end now book
        → ReaderIs j h.back.read (max h.back.data_fin_came 0) h.back.got h.back.told_end now book
    came_same {now} {book} is =
        subst (λ (y : ℕ). ReaderIs j h.back.read y h.back.got h.back.told_end now book) (sym (max_none h.back.data_fin_came)) is

    pub way_after : WayIs c keys k j A h.back.sender back_after.receiver back_after.datas h.out.acks hand_after m.end.tcp.send.una n.end.tcp.recv.edge fs
    way_after = way_brought c keys k j A h.back.sender h.back.receiver h.back.datas h.out.acks m.end.tcp.send.una n.end.tcp.recv.edge true fs x
        back_after.receiver (way_arrives c keys k j A h.back.sender h.back.receiver h.back.datas h.out.acks m.end.tcp.send.una n.end.tcp.recv.edge
        m.end.tcp.send.una f fs x xs w sent (zero_low edge low)) refl (came_one none_came)
        (keys_low (h.own.modes.both refl).1 (h.own.subflow.quiet (ap is_connected listens)).1)

    abbrev pub syn_arrived : Facing B keys k j c begun begun_back (record m { end = end_after }) (record n { flying = fs }) clock until (syn_came B)
    syn_arrived = record {
      out = h.out;
      back = back_after;
      stage = record h.stage { emit = true; finish = true };
      stage_back = record h.stage_back { ask = false; tell = true };
      going = stands_then h.going (record h.stage { emit = true; finish = true }) h.out
          (goes_back (record h.stage { emit = true; finish = true }) emits);
      going_back = stands_then h.going_back (record h.stage_back { ask = false; tell = true }) back_after
          (hears false (copy_in x) rest may_hear);
      now = h.now;
      now_back = h.now_back;
      hand = hand_after;
      hand_back = h.hand_back;
      owes = h.owes;
      owes_back = h.owes_back;
      waiting = h.waiting;
      waiting_back = h.waiting_back;
      own = heard_own h none none_came low listens tick h.back.received window edge refl unrowed told answer;
      other = h.other;
      way = h.way;
      way_back = way_after;
      apps = h.apps;
      apps_back = record {
        writes = record { numbers = h.apps_back.writes.numbers; over = h.apps_back.writes.over };
        reads = record {
          numbers = came_same h.apps_back.reads.numbers;
          received = plus_none h.back.received ∙ h.apps_back.reads.received;
          over = h.apps_back.reads.over;
        };
        receives = record {
          read = h.apps_back.receives.read;
          received = plus_none h.back.received ∙ h.apps_back.receives.received;
          known = h.apps_back.receives.known ∙ ap (λ (n : ℕ). end_known n j.total) (sym (max_none h.back.data_fin_came));
          capacity = h.apps_back.receives.capacity;
        };
        book = record {
          edge = h.apps_back.book.edge;
          owner = h.apps_back.book.owner;
          marks = h.apps_back.book.marks;
          taken = h.apps_back.book.taken;
        };
        room = h.apps_back.room;
        whole = h.apps_back.whole;
        fin = h.apps_back.fin;
      };
      stages = stages_after;
      stages_back = stages_back_after;
      control = h.control;
      control_back = h.control_back;
      turn = h.turn;
      turn_back = h.turn_back;
      settles = inl (all_settled B m.end h.settles);
      settles_back = inl (all_settled A n.end h.settles_back);
      begins = inr begins_after;
      begins_back = begins_back_after h.begins_back;
      owed = λ e b. refl;
      owed_back = h.owed_back;
    }
