-- The peer's DATA_FIN is told to the reassembly book.
use Rattle.clean_finish.proofs.Words.{◌≡◌, refl, sym, subst, ap, ◌∙◌, ℕ, ◌+◌, ◌<◌, ◌≤◌, max, Bool, true, false, if◌then◌else◌, inl, inr, Option, None, List, []}
use Rattle.clean_finish.proofs.Words.{◌∷◌, ◌++◌, length, map, arith, Some, suc, is_some, both_ways, le-ltb, Side, B, Arriving, filled, top, fin_clash}
use Rattle.clean_finish.proofs.Words.{after_fin, Duty, SendDuty, StepDuty, AskDuty, Profile, PathEnd, with_peer_data_fin, having_asked, Setting, Copy, Lane}
use Rattle.clean_finish.proofs.Words.{all_left, Going, data_fins, Hand, brings_in, IsOpen, Sent, Keys, Brings, BringsAs, copy_in, octets_of, CountsAs}
use Rattle.clean_finish.proofs.Words.{data_fin_of, EndsStream, IsSetting, Facing, Half, Has, end_known, ReaderShows, ReceiverIs}
use Rattle.clean_finish.specs.Segments.{is_opening}
use Rattle.clean_finish.proofs.Brought.{brought}
use Rattle.clean_finish.proofs.Hands.{in_hand}
use Rattle.clean_finish.proofs.Quiet.{now_back}
use Rattle.clean_finish.proofs.TakesIn.{follow, back_now, all_of, own_taken, control_is}

module _ {s : Side} {keys : Keys} {k j : Setting} {c : Profile} {begun begun_back : Lane} {m n : Half} {clock until : ℕ} (ticks t u : ℕ)
    (k_is : IsSetting c ticks k) (j_is : IsSetting c ticks j)
    (going : Going k begun t all_left begun) (going_back : Going j begun_back u all_left begun_back)
    {ds : List Duty} (h : Facing s keys k j c begun begun_back m n clock until (Duty.Ask (AskDuty.HeardFin s 0) ∷ ds))
    (x : Sent) (hand : h.hand ≡ in_hand x true false) (place : ℕ) (brings : x.brings ≡ EndsStream place)
  where
    pub lane : Going j begun_back u h.stage_back h.back
    lane = now_back ticks t u k_is j_is going going_back h

    pub kind : is_opening x.brings ≡ false
    kind = ap is_opening brings

    pub none : length (octets_of x.brings) ≡ 0
    none = ap (λ (b : Brings). length (octets_of b)) brings

    pub one_fin : data_fin_of x.brings ≡ 1
    one_fin = ap data_fin_of brings

    pub counts : (1 ≤ h.back.control_came) × (x.control ≡ h.back.control_came) × (x.keys ≡ h.back.keys_came)
    counts = subst (λ (b : Brings). CountsAs h.back.control_came h.back.keys_came x.control x.keys b) brings (follow h refl x hand kind).1

    pub place_is : place ≡ j.total
    place_is = subst (λ (b : Brings). BringsAs j.total x.low x.edge b) brings (follow h refl x hand kind).3.2

    -- the DATA_FIN is the first one
    pub none_came : h.back.data_fin_came ≡ 0
    none_came = once (data_fins (map copy_in h.way_back.sent)) one_fin (subst (λ (a : ℕ). a + h.back.data_fin_came ≤ h.back.data_fin_sent) counted lane.flags.once)
        lane.numbers.data_fin_sent lane.numbers.known lane.numbers.closed
      where
        counted : data_fins h.back.datas ≡ data_fin_of x.brings + data_fins (map copy_in h.way_back.sent)
        counted = ap (λ (cs : List Copy). data_fins cs) h.way_back.datas_are ∙ ap (λ (o : Option Hand). data_fins (map copy_in (brings_in o ++ h.way_back.sent))) hand

        once : {f came sent known closed : ℕ} (more : ℕ) → f ≡ 1 → f + more + came ≤ sent → sent ≤ known → known ≤ closed → closed ≤ 1 → came ≡ 0
        once more is p q g z = omega (arith, is, p, q, g, z)

    -- nothing stands at it, or beyond
    pub no_clash : fin_clash m.arrived.known_end place m.arrived ≡ None
    no_clash = ap (λ (o : Option ℕ). fin_clash o place m.arrived) (h.apps_back.receives.known ∙ ap (λ (a : ℕ). end_known a j.total) none_came)
        ∙ ap (λ (b : Bool). if b then Some (top m.arrived) else None) (le-ltb place (top m.arrived) (high (ap (λ (ps : List (Option ℕ)). length ps) h.apps_back.whole
        ∙ length_some (filled m.arrived.places)) h.apps_back.receives.received lane.numbers.received lane.numbers.granted lane.numbers.written place_is))
      where
        length_some : (xs : List ℕ) → length (map Some xs) ≡ length xs
        length_some [] = refl
        length_some (y ∷ xs) = ap (λ (n : ℕ). suc n) (length_some xs)

        high : {l f w g v total : ℕ} → l ≡ f → w ≡ m.arrived.read + f → w ≤ g → g ≤ v → v ≤ total → place ≡ total → m.arrived.read + l ≤ place
        high p q a b g is = omega (arith, p, q, a, b, g, is)

    abbrev pub arrived_after : Arriving
    arrived_after = after_fin place m.arrived

    pub arrived_is : arrived_after ≡ record m.arrived { known_end = Some place }
    arrived_is = ap (λ (o : Option ℕ). if is_some o then m.arrived else record m.arrived { known_end = Some place }) no_clash

    pub fin_is : max h.back.data_fin_came (data_fin_of x.brings) ≡ 1
    fin_is = sum none_came one_fin
      where
        sum : {a b : ℕ} → a ≡ 0 → b ≡ 1 → max a b ≡ 1
        sum p q = omega (arith, p, q)

    pub received : (back_now h refl x hand kind).received ≡ h.back.received
    received = all_of h refl x hand kind ∙ plus h.back.received none
      where
        plus : {b : ℕ} (a : ℕ) → b ≡ 0 → a + b ≡ a
        plus a is = omega (arith, is)

    pub reads_after : ReaderShows j (back_now h refl x hand kind) m.app arrived_after
    reads_after = subst (λ (b : Arriving). ReaderShows j (back_now h refl x hand kind) m.app b) (sym arrived_is) (record {
      numbers = record {
        bytes = h.apps_back.reads.numbers.bytes;
        count = h.apps_back.reads.numbers.count;
        known = ap (λ (a : ℕ). Some a) place_is ∙ ap (λ (a : ℕ). end_known a j.total) (sym fin_is);
        end = h.apps_back.reads.numbers.end;
        whole = h.apps_back.reads.numbers.whole;
        buffer = h.apps_back.reads.numbers.buffer;
        unaborted = h.apps_back.reads.numbers.unaborted;
        stays = h.apps_back.reads.numbers.stays;
      };
      received = received ∙ h.apps_back.reads.received;
      over = h.apps_back.reads.over;
    })

    pub receives_after : ReceiverIs j (back_now h refl x hand kind) arrived_after
    receives_after = subst (λ (b : Arriving). ReceiverIs j (back_now h refl x hand kind) b) (sym arrived_is) (record {
      read = h.apps_back.receives.read;
      received = received ∙ h.apps_back.receives.received;
      known = ap (λ (a : ℕ). Some a) place_is ∙ ap (λ (a : ℕ). end_known a j.total) (sym fin_is);
      capacity = h.apps_back.receives.capacity;
    })

    pub whole_after : arrived_after.places ≡ map Some (filled arrived_after.places)
    whole_after = subst (λ (b : Arriving). b.places ≡ map Some (filled b.places)) (sym arrived_is) h.apps_back.whole

    module _ (una : 1 ≤ m.end.tcp.send.una) (is_open : IsOpen m.end.tcp.send.finished m.end.tcp.state) (clear : 1 ≤ h.out.clear) (some_sent : 1 ≤ h.out.control_sent)
        (owes : h.owes ≡ true) (acknowledges : Has (Duty.Send (SendDuty.Acknowledge s)) ds) (events : Has (Duty.Step StepDuty.Events) ds)
        (asks : Has (Duty.Ask (AskDuty.AckOut s)) ds)
      where
        abbrev pub end_after : PathEnd
        end_after = having_asked (with_peer_data_fin m.end)

        pub keys_low : s ≡ B → max h.back.keys_came x.keys ≤ h.out.ready
        keys_low is = low counts.2 (h.own.modes.both is).1
          where
            low : {a b g : ℕ} → b ≡ a → a ≤ g → max a b ≤ g
            low same p = omega (arith, same, p)

        abbrev pub fin_told : Facing s keys k j c begun begun_back (record m { end = end_after; arrived = arrived_after }) n clock until ds
        fin_told = brought h refl x false hand m.end.tcp.recv m.end.tcp.state end_after.sending m.end.receiving m.end.modes end_after.treated arrived_after
            true some_sent owes acknowledges events (inr (inl (some one_fin))) (λ e. absurd (both_ways true e refl)) (inr (inr (asks, refl)))
            (all_of h refl x hand kind) (control_is h refl x hand kind counts.1) (same_keys counts.2) (same m.end.tcp.recv.edge)
            (own_taken h refl x hand kind owes una is_open counts.0 clear counts.1 keys_low m.end.tcp.recv (plus m.end.tcp.recv.edge none) refl
            end_after.sending.close refl fin_is m.end.receiving.mappings m.end.receiving.mapped_data_fin end_after.treated)
            reads_after receives_after whole_after refl
          where
            some : {a : ℕ} → a ≡ 1 → 0 < a
            some is = omega (arith, is)

            same_keys : {a b : ℕ} → b ≡ a → max a b ≡ b
            same_keys is = omega (arith, is)

            same : (a : ℕ) → a ≤ a
            same a = omega arith

            plus : {b : ℕ} (a : ℕ) → b ≡ 0 → a ≡ a + b
            plus a is = omega (arith, is)
