-- Where each turn is over, the relation holds as the next round begins.
use Rattle.clean_finish.proofs.Words.{◌≡◌, refl, subst, ap, ℕ, ◌+◌, ◌≤◌, min, ◌⊎◌, inl, inr, List, [], map, arith, both_ways, Side, A, B, going_to, next_number}
use Rattle.clean_finish.proofs.Words.{Duty, SendDuty, start_of_turn, SilentDuty, SixBooks, books_in, AppState, app_next_round, Carried, PathEnd, PathState}
use Rattle.clean_finish.proofs.Words.{with_agenda, next_round, Setting, Lane, all_left, Going, opens_round, Linked, PathPlan, Start, Walker, Cast, world_of}
use Rattle.clean_finish.proofs.Words.{walks_on, next_cast, greatest, Treats, own_bench, other_bench, Runs, keys_in, Has, HasNotBegun, Running, FacesOfA}
use Rattle.clean_finish.proofs.Words.{IsSettledSoon}
use Rattle.clean_finish.proofs.AppTurns.{BothBegin, both_begin, turn_is}
use Rattle.clean_finish.proofs.Arriving.{later}
use Rattle.clean_finish.proofs.First.{first_plain}
use Rattle.clean_finish.proofs.Stepping.{Passes, settles}

none_among : (d : Duty) (ds : List Duty) → ds ≡ [] → Has d ds → ⊥
none_among d ds over there = subst (λ (es : List Duty). Has d es) over there

still_settled : (s : Side) (ds : List Duty) (e : PathEnd) → ds ≡ [] → IsSettledSoon s ds e → IsSettledSoon s start_of_turn e
still_settled s ds e over (inl none) = inl none
still_settled s ds e over (inr there) = absurd (none_among (Duty.Silent (SilentDuty.Timer s)) ds over there)

module _ (start : Start) (plan : PathPlan) (k j : Setting) (s v : Lane) (a b : AppState) (books : SixBooks) (p : PathState Carried)
    (h : Runs start plan k j s v a b books p) (over : p.agenda ≡ [])
  where
    treated : Treats (keys_in start) (own_bench h.faces) (other_bench h.faces) []
    treated = subst (λ (ds : List Duty). Treats (keys_in start) (own_bench h.faces) (other_bench h.faces) ds) over h.treats

    -- how the lanes hang together
    pub linked : Linked h.out h.back
    linked = record {
      answered = treated.0.1.answered;
      ready = treated.0.0.ready refl;
      keys = up (treated.0.0.ready refl) (treated.0.0.shown refl);
      ready_back = least (h.other.modes.both refl).1;
      clear_back = least (subst (λ (n : ℕ). h.out.keys_came ≤ n) (h.other.modes.both refl).0 (h.other.modes.both refl).1);
    }
      where
        up : {x y z : ℕ} → x ≤ y → y ≤ z → x ≤ z
        up less more = omega (arith, less, more)

        least : {x y : ℕ} → x ≤ y → min 1 x ≤ y
        least less = omega (arith, less)

    -- A's SYN was sent
    pub syn_sent : 1 ≤ h.out.control_sent
    syn_sent = by h.begins
      where
        by : (1 ≤ h.out.control_sent) ⊎ HasNotBegun A j h.out.sender h.back.receiver p.a p.agenda → 1 ≤ h.out.control_sent
        by (inl one) = one
        by (inr none) = absurd (none_among (Duty.Send (SendDuty.Syn A)) p.agenda over (none.syn refl).1)

    abbrev w : Lane
    w = opens_round h.out

    abbrev x : Lane
    x = opens_round h.back

    -- as the next round begins, before a duty is passed
    abbrev begun : PathState Carried
    begun = record p { clock = p.until; until = p.until + 100 }

    module _ (t u : ℕ) (going : Going k w t all_left w) (going_back : Going j x u all_left x) (early : p.clock ≤ p.until) where
      out : BothBegin k w a b books.send_a books.reassembly_b
      out = both_begin k w t a b books.send_a books.reassembly_b going h.apps.writes.numbers refl (record {
        bytes = h.apps.reads.numbers.bytes;
        count = refl;
        known = h.apps.reads.numbers.known;
        end = h.apps.reads.numbers.end;
        whole = h.apps.reads.numbers.whole;
        buffer = h.apps.reads.numbers.buffer;
        unaborted = h.apps.reads.numbers.unaborted;
        stays = h.apps.reads.numbers.stays;
      }) h.apps.reads.received refl

      back : BothBegin j x b a books.send_b books.reassembly_a
      back = both_begin j x u b a books.send_b books.reassembly_a going_back h.apps_back.writes.numbers refl (record {
        bytes = h.apps_back.reads.numbers.bytes;
        count = refl;
        known = h.apps_back.reads.numbers.known;
        end = h.apps_back.reads.numbers.end;
        whole = h.apps_back.reads.numbers.whole;
        buffer = h.apps_back.reads.numbers.buffer;
        unaborted = h.apps_back.reads.numbers.unaborted;
        stays = h.apps_back.reads.numbers.stays;
      }) h.apps_back.reads.received refl

      same_room : (granted waiting : ℕ) {written later size : ℕ} → granted + waiting ≤ written → written ≡ size → later ≡ size → granted + waiting ≤ later
      same_room granted waiting less one two = omega (arith, less, one, two)

      plus : {m n : ℕ} → m ≤ n → m + p.link.delay ≤ n + p.link.delay
      plus less = omega (arith, less)

      begins_anew : HasNotBegun B k h.back.sender h.out.receiver p.b p.agenda → HasNotBegun B k h.back.sender h.out.receiver p.b start_of_turn
      begins_anew none = record {
        ready = none.ready;
        received = none.received;
        data_fin = none.data_fin;
        keys = none.keys;
        told = none.told;
        next = none.next;
        window = inr (inr (inr (inr (inr (inr (inl refl))))));
        syn = λ is. cc;
      }

      both_sent : (1 ≤ h.back.control_sent) ⊎ HasNotBegun B k h.back.sender h.out.receiver p.b p.agenda
          → (1 ≤ h.back.control_sent) ⊎ HasNotBegun B k h.back.sender h.out.receiver p.b start_of_turn
      both_sent (inl sent) = inl sent
      both_sent (inr none) = inr (begins_anew none)

      abbrev faces : FacesOfA (keys_in start) k j w x (app_next_round a) (app_next_round b) books (with_agenda start_of_turn begun)
      faces = record {
        out = record w { writer = out.writer; reader = out.reader };
        back = record x { writer = back.writer; reader = back.reader };
        stage = all_left;
        stage_back = all_left;
        going = record { count = out.count; moves = out.moves };
        going_back = record { count = back.count; moves = back.moves };
        now = (h.now.1, ap (λ (n : ℕ). n + 100) h.now.1);
        now_back = (h.now_back.1, ap (λ (n : ℕ). n + 100) h.now_back.1);
        hand = h.hand;
        hand_back = h.hand_back;
        owes = h.owes;
        owes_back = h.owes_back;
        waiting = h.waiting;
        waiting_back = h.waiting_back;
        own = h.own;
        other = h.other;
        way = h.way;
        way_back = h.way_back;
        apps = record {
          writes = out.writes;
          reads = out.reads;
          receives = record {
            read = out.reads.numbers.bytes;
            received = out.reads.received;
            known = out.reads.numbers.known;
            capacity = h.apps.receives.capacity;
          };
          book = h.apps.book;
          room = same_room h.out.granted h.waiting h.apps.room h.apps.writes.numbers.bytes out.writes.numbers.bytes;
          whole = h.apps.whole;
          fin = h.apps.fin;
        };
        apps_back = record {
          writes = back.writes;
          reads = back.reads;
          receives = record {
            read = back.reads.numbers.bytes;
            received = back.reads.received;
            known = back.reads.numbers.known;
            capacity = h.apps_back.receives.capacity;
          };
          book = h.apps_back.book;
          room = same_room h.back.granted h.waiting_back h.apps_back.room h.apps_back.writes.numbers.bytes back.writes.numbers.bytes;
          whole = h.apps_back.whole;
          fin = h.apps_back.fin;
        };
        stages = record {
          window = inr (inr (inr (inr (inr (inr (inl refl))))));
          update = inr (inr (inr (inr (inr (inr (inr (inl refl)))))));
          emit = inr (inr (inr (inr (inr (inr (inr (inr (inr (inr (inr (inr (inr (inl refl)))))))))))));
          finish = inr (inr (inr (inr (inr (inr (inr (inr (inr (inr (inr (inr (inr (inr (inl refl))))))))))))));
          wait = inr (inr (inr (inr (inr (inr (inr (inr (inr (inr (inr (inr (inr (inr (inr (inr (inr (inr (inr (inr (inr (inr (inr (inr (inr (inr (inl refl))))))))))))))))))))))))));
          tell = inl refl;
          ask = inr (inl (inr (inr (inr (inr (inr (inl refl)))))));
        };
        stages_back = record {
          window = inr (inr (inr (inr (inl refl))));
          update = inr (inr (inr (inr (inr (inl refl)))));
          emit = inr (inr (inr (inr (inr (inr (inr (inr (inr (inr (inr (inr (inr (inr (inr (inr (inr (inr (inr (inr (inr (inr (inl refl))))))))))))))))))))));
          finish = inr (inr (inr (inr (inr (inr (inr (inr (inr (inr (inr (inr (inr (inr (inr (inr (inr (inr (inr (inr (inr (inr (inr (inl refl)))))))))))))))))))))));
          wait = inr (inr (inr (inr (inr (inr (inr (inr (inr (inr (inr (inr (inr (inr (inr (inr (inr (inr (inr (inr (inr (inr (inr (inr (inr (inr (inl refl))))))))))))))))))))))))));
          tell = inl refl;
          ask = inr (inl (inr (inr (inr (inl refl)))));
        };
        control = h.control;
        control_back = h.control_back;
        turn = turn_is a h.apps.writes.numbers.stays;
        turn_back = turn_is b h.apps_back.writes.numbers.stays;
        settles = still_settled A p.agenda p.a over h.settles;
        settles_back = still_settled B p.agenda p.b over h.settles_back;
        begins = inl syn_sent;
        begins_back = both_sent h.begins_back;
        owed = λ e still. absurd (both_ways h.owes treated.0.0.owes e);
        owed_back = λ e still. absurd (both_ways h.owes_back treated.0.1.owes e);
      }

      runs_anew : Runs start plan k j w x (app_next_round a) (app_next_round b) books (with_agenda start_of_turn begun)
      runs_anew = record {
        path = h.path;
        link = record {
          order = h.link.order;
          from_a = later (next_number A p.link) (p.clock + p.link.delay) (p.until + p.link.delay) (going_to B p.link.under_way) (plus early) h.link.from_a;
          from_b = later (next_number B p.link) (p.clock + p.link.delay) (p.until + p.link.delay) (going_to A p.link.under_way) (plus early) h.link.from_b;
        };
        faces = faces;
        treats = (treated.0, treated.1, treated.2, refl, tt, (refl, tt, (refl, tt, first_plain)));
      }

      pub next_runs : Passes start plan k j w x → Runs start plan k j w x (app_next_round a) (app_next_round b) books (next_round p)
      next_runs passes = settles start plan k j w x passes (app_next_round a) (app_next_round b) books start_of_turn (with_agenda start_of_turn begun) runs_anew

-- the world where each turn is over goes on to the next round
module _ (start : Start) (plan : PathPlan) (k j : Setting) (s v : Lane) (t : Cast Carried) (h : Running start plan k j s v t)
    (over : h.walker.path.agenda ≡ []) (t0 u0 : ℕ)
    (going : Going k (opens_round h.out) t0 all_left (opens_round h.out))
    (going_back : Going j (opens_round h.back) u0 all_left (opens_round h.back)) (early : h.walker.path.clock ≤ h.walker.path.until)
    (passes : Passes start plan k j (opens_round h.out) (opens_round h.back))
  where
    pub next_running : Running start plan k j (opens_round h.out) (opens_round h.back) (next_cast t)
    next_running =
        let stamp = greatest 0 (world_of t).crew in
        record {
          walker = walks_on stamp h.walker;
          alone = ap (λ (xs : List (Walker Carried)). map (walks_on stamp) xs) h.alone;
          runs = next_runs start plan k j s v t.a t.b (books_in t.books) h.walker.path h.runs over t0 u0 going going_back early passes;
        }
