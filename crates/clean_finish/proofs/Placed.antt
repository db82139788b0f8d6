-- The bytes of a copy are placed: their lane takes them.
use Rattle.clean_finish.proofs.Words.{◌≡◌, refl, sym, subst, ap, ◌∙◌, ℕ, ◌+◌, ◌<◌, ◌≤◌, max, true, false, inl, inr, List, ◌∷◌, ◌++◌, length, map, arith, Some}
use Rattle.clean_finish.proofs.Words.{both_ways, Side, B, Arriving, filled, received, edge, after_place, Duty, SendDuty, StepDuty, AskDuty, Profile, PathEnd}
use Rattle.clean_finish.proofs.Words.{having_asked, after_piece, Setting, Lane, all_left, Going, Chain, IsOpen, Sent, Keys, copy_in, octets_of, CountsAs}
use Rattle.clean_finish.proofs.Words.{data_fin_of, IsSetting, Facing, Half, Has, end_known, ReaderShows, ReceiverIs}
use Rattle.path_store.specs.Passing.{Piece}
use Rattle.clean_finish.specs.Segments.{is_opening}
use Rattle.clean_finish.proofs.Brought.{brought}
use Rattle.clean_finish.proofs.BytesPlaced.{placed_is, more_filled}
use Rattle.clean_finish.proofs.DutyMore.{duty_more}
use Rattle.clean_finish.proofs.Hands.{in_hand}
use Rattle.clean_finish.proofs.NoneBehind.{chain as chain_behind, high as high_behind, one_came as one_behind}
use Rattle.clean_finish.proofs.Quiet.{now_back}
use Rattle.clean_finish.proofs.TakesIn.{follow, back_now, all_of, own_taken, control_is, data_fin, numbers_on}
use Rattle.clean_finish.proofs.Whole.{whole_by}

module _ {s : Side} {keys : Keys} {k j : Setting} {c : Profile} {begun begun_back : Lane} {m n : Half} {clock until : ℕ} (ticks t u : ℕ)
    (k_is : IsSetting c ticks k) (j_is : IsSetting c ticks j)
    (going : Going k begun t all_left begun) (going_back : Going j begun_back u all_left begun_back)
    {ds : List Duty} (g : Facing s keys k j c begun begun_back m n clock until (Duty.Ask (AskDuty.Edge s) ∷ ds))
    (x : Sent) (hand : g.hand ≡ in_hand x true false) (kind : is_opening x.brings ≡ false) (some : 1 ≤ length (octets_of x.brings))
  where
    pub lane : Going j begun_back u g.stage_back g.back
    lane = now_back ticks t u k_is j_is going going_back g

    -- the duty stays
    abbrev pub h : Facing s keys k j c begun begun_back m n clock until (Duty.Ask (AskDuty.Edge s) ∷ Duty.Ask (AskDuty.Edge s) ∷ ds)
    h = duty_more (Duty.Ask (AskDuty.Edge s)) (Duty.Ask (AskDuty.Edge s) ∷ ds) g

    pub chain : Chain g.back.received (copy_in x ∷ map copy_in g.way_back.sent) g.back.granted
    chain = chain_behind ticks t u k_is j_is going going_back g x false hand

    pub high : x.low + length (octets_of x.brings) ≤ g.back.granted
    high = high_behind ticks t u k_is j_is going going_back g x false hand

    pub counts : CountsAs g.back.control_came g.back.keys_came x.control x.keys x.brings
    counts = (follow h refl x hand kind).1

    pub one_came : g.back.control_came ≤ 1
    one_came = one_behind ticks t u k_is j_is going going_back g x false hand some

    -- ---- the book

    pub place_is : x.low ≡ received m.arrived
    place_is = chain.0 ∙ g.apps_back.receives.received

    pub room : received m.arrived + length (octets_of x.brings) ≤ edge m.arrived
    room = fits (length (octets_of x.brings)) chain.0 g.apps_back.receives.received high lane.numbers.fits g.apps_back.receives.read g.apps_back.receives.capacity
      where
        fits : {l w b g r read capacity buffer : ℕ} (n : ℕ) → l ≡ w → w ≡ b → l + n ≤ g → g ≤ r + buffer → r ≡ read → capacity ≡ buffer → b + n ≤ read + capacity
        fits n a e p q c d = omega (arith, a, e, p, q, c, d)

    pub under : received m.arrived + length (octets_of x.brings) ≤ j.total
    under = low (length (octets_of x.brings)) chain.0 g.apps_back.receives.received high lane.numbers.granted lane.numbers.written
      where
        low : {l w b g v total : ℕ} (n : ℕ) → l ≡ w → w ≡ b → l + n ≤ g → g ≤ v → v ≤ total → b + n ≤ total
        low n a e p q z = omega (arith, a, e, p, q, z)

    abbrev pub arrived_after : Arriving
    arrived_after = after_place x.low (octets_of x.brings) m.arrived

    pub arrived_is : arrived_after ≡ record m.arrived { places = map Some (filled m.arrived.places ++ octets_of x.brings) }
    arrived_is = ap (λ (a : ℕ). after_place a (octets_of x.brings) m.arrived) place_is
        ∙ placed_is m.arrived (octets_of x.brings) g.apps_back.whole some g.back.data_fin_came j.total g.apps_back.receives.known room under

    module _ (none : data_fin_of x.brings ≡ 0) where
      pub received_is : (back_now h refl x hand kind).received ≡ m.arrived.read + length (filled (map Some (filled m.arrived.places ++ octets_of x.brings)))
      received_is = all_of h refl x hand kind ∙ sum m.arrived.read (length (filled m.arrived.places)) (length (octets_of x.brings)) g.apps_back.receives.received (more_filled m.arrived (octets_of x.brings) g.apps_back.whole some)
        where
          sum : {w n : ℕ} (r f l : ℕ) → w ≡ r + f → n ≡ f + l → w + l ≡ r + n
          sum r f l a b = omega (arith, a, b)

      pub reads_after : ReaderShows j (back_now h refl x hand kind) m.app arrived_after
      reads_after = subst (λ (b : Arriving). ReaderShows j (back_now h refl x hand kind) m.app b) (sym arrived_is) (record {
        numbers = record {
          bytes = (numbers_on h refl x hand kind none).bytes;
          count = (numbers_on h refl x hand kind none).count;
          known = (numbers_on h refl x hand kind none).known;
          end = (numbers_on h refl x hand kind none).end;
          whole = (numbers_on h refl x hand kind none).whole;
          buffer = (numbers_on h refl x hand kind none).buffer;
          unaborted = (numbers_on h refl x hand kind none).unaborted;
          stays = (numbers_on h refl x hand kind none).stays;
        };
        received = received_is;
        over = g.apps_back.reads.over;
      })

      pub receives_after : ReceiverIs j (back_now h refl x hand kind) arrived_after
      receives_after = subst (λ (b : Arriving). ReceiverIs j (back_now h refl x hand kind) b) (sym arrived_is) (record {
        read = g.apps_back.receives.read;
        received = received_is;
        known = g.apps_back.receives.known ∙ ap (λ (y : ℕ). end_known y j.total) (sym (data_fin h refl x hand kind none));
        capacity = g.apps_back.receives.capacity;
      })

      pub whole_after : arrived_after.places ≡ map Some (filled arrived_after.places)
      whole_after = subst (λ (b : Arriving). b.places ≡ map Some (filled b.places)) (sym arrived_is)
          (whole_by (filled m.arrived.places ++ octets_of x.brings) (map Some (filled m.arrived.places ++ octets_of x.brings)) refl)

      abbrev pub piece : Piece
      piece = record { place = x.low; octets = octets_of x.brings }

      abbrev pub end_after : PathEnd
      end_after = having_asked (after_piece piece m.end)

      module _ (una : 1 ≤ m.end.tcp.send.una) (is_open : IsOpen m.end.tcp.send.finished m.end.tcp.state) (clear : 1 ≤ g.out.clear) (some_sent : 1 ≤ g.out.control_sent)
          (owes : g.owes ≡ true) (came : 1 ≤ g.back.control_came) (control : x.control ≡ g.back.control_came) (keys_low : s ≡ B → max g.back.keys_came x.keys ≤ g.out.ready)
          (shown_is : max g.back.keys_came x.keys ≡ x.keys)
          (acknowledges : Has (Duty.Send (SendDuty.Acknowledge s)) ds) (events : Has (Duty.Step StepDuty.Events) ds) (asks : Has (Duty.Ask (AskDuty.AckOut s)) ds)
        where
          pub fin_same : max g.back.data_fin_came (data_fin_of x.brings) ≡ g.back.data_fin_came
          fin_same = same none
            where
              same : {a b : ℕ} → b ≡ 0 → max a b ≡ a
              same is = omega (arith, is)

          abbrev pub placed : Facing s keys k j c begun begun_back (record m { end = end_after; arrived = arrived_after }) n clock until (Duty.Ask (AskDuty.Edge s) ∷ ds)
          placed = brought h refl x false hand end_after.tcp.recv m.end.tcp.state m.end.sending end_after.receiving m.end.modes end_after.treated arrived_after
              true some_sent owes (inr acknowledges) (inr events) (inl (more x.low some)) (λ e. absurd (both_ways true e refl)) (inr (inr (inr asks, refl)))
              (all_of h refl x hand kind) (control_is h refl x hand kind control) shown_is (further m.end.tcp.recv.edge (length (octets_of x.brings)))
              (own_taken h refl x hand kind owes una is_open came clear control keys_low end_after.tcp.recv refl refl m.end.sending.close refl
              (fin_same ∙ g.own.sending.came) end_after.receiving.mappings m.end.receiving.mapped_data_fin end_after.treated)
              reads_after receives_after whole_after refl
            where
              more : {b : ℕ} (a : ℕ) → 1 ≤ b → a < a + b
              more a one = omega (arith, one)

              further : (a b : ℕ) → a ≤ a + b
              further a b = omega arith
