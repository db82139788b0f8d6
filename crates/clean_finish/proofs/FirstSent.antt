-- A sends its first bytes before it heard a DSS: they show both keys again (RFC 8684, section 3.1).
use Rattle.clean_finish.proofs.Words.{◌≡◌, refl, sym, subst, ap, ℕ, ◌+◌, ◌-◌, ◌<◌, ◌≤◌, min, max, true, false, inl, inr, Option, None, List, [], ◌∷◌, ◌++◌}
use Rattle.clean_finish.proofs.Words.{length, arith, Some, le_refl, both_ways, A, B, Record, is_unsent, Data, Flight, window_told, Capable, Duty, StepDuty}
use Rattle.clean_finish.proofs.Words.{Profile, Carried, PathEnd, record_said, mapping_of, checksum_told, is_first_piece, Setting, Lane, is_whole, all_left}
use Rattle.clean_finish.proofs.Words.{Going, pending, MaySay, MaySend, sends_bytes, is_same, Hand, HeardIs, last_told, row_seen, brings_still, IsMapping, Sent}
use Rattle.clean_finish.proofs.Words.{Keys, copy_in, said, FliesAs, FirstPiece, Before, IsSetting, Facing, Half, Has}
use Rattle.subflow_tcp.specs.States.{is_opening}
use Rattle.mptcp_options.specs.declared.capable.CapableKeys.TheVariants.{WithData}
use Rattle.clean_finish.proofs.Bringing.{end_after, own_brought}
use Rattle.clean_finish.proofs.BytesSent.{no_duplicate}
use Rattle.clean_finish.proofs.EndSent.{ended_stays}
use Rattle.clean_finish.proofs.Hands.{way_none}
use Rattle.clean_finish.proofs.Opened.{waiting_on}
use Rattle.clean_finish.proofs.Sendings.{sent_off}
use Rattle.clean_finish.proofs.TellsAll.{lane, lane_back, came}

-- as a lane counts them
abbrev pub first_at : (at low least window edge : ℕ) → List ℕ → Sent
first_at at low least window edge octets = record {
  at = at;
  brings = FirstPiece octets;
  low = low;
  control = 1;
  keys = 1;
  telling = record { next = 0; edge = least; seen = 1; dss = 0 };
  window = window;
  edge = edge;
}

-- what is said is the record's segment
pub first_is : (c : Profile) (keys : Keys) (at low least : ℕ) (r : Record) (e : PathEnd) → IsMapping e.modes
    → is_first_piece A r e ≡ true → e.modes.peer_key ≡ Some keys.b → e.modes.own_key ≡ keys.a → is_opening e.tcp.state ≡ false → r.kind ≡ Data
    → r.pos ≡ low + 1 → r.mapping ≡ mapping_of c A low (low + 1) r.piece
    → record_said c A r e ≡ said c keys A (first_at at low least e.receiving.window e.tcp.recv.edge r.piece)
first_is c keys at low least r e mptcp first key own established kind pos mapping =
    rw (kind, mptcp.0, mptcp.1, first, key, own, established, pos)
    (ap (λ (mapped : _). record {
      position = low + 1;
      acknowledged = Some e.tcp.recv.edge;
      syn = false;
      fin = false;
      rst = false;
      window = e.receiving.window;
      mss = None;
      options = Capable c.spelling.checksums false (WithData keys.a keys.b mapped.length (checksum_told c mapped.checksum)) ∷ [];
      payload = r.piece;
    }) mapping)

module _ {keys : Keys} {k j : Setting} {c : Profile} {begun begun_back : Lane} {m n : Half} {clock until : ℕ} (ticks t u : ℕ)
    (k_is : IsSetting c ticks k) (j_is : IsSetting c ticks j)
    (going : Going k begun t all_left begun) (going_back : Going j begun_back u all_left begun_back)
    {ds : List Duty} (h : Facing A keys k j c begun begun_back m n clock until (Duty.Step (StepDuty.Data A) ∷ ds)) (r : Record)
  where
    abbrev pub first : Sent
    first = first_at (clock + ticks) h.out.granted j.least m.end.receiving.window m.end.tcp.recv.edge r.piece

    module _ (none : h.hand ≡ None) (unowed : h.owes ≡ false) (una : 1 ≤ m.end.tcp.send.una)
        (answered : min 1 h.back.control_came ≤ h.out.control_sent) (asked : h.stage_back.window ≡ false)
        (rest : h.own.subflow.records.rest ≡ r ∷ []) (unsent : is_unsent r ≡ true) (one : h.out.control_sent ≡ 1)
        (waits : h.waiting ≡ length r.piece) (some : 1 ≤ length r.piece) (edge : h.out.granted + length r.piece ≤ h.out.edge)
        (unclear : h.out.clear ≡ 0) (ready : 1 ≤ h.out.ready) (shown_before : h.out.ready ≤ h.out.keys_sent) (none_granted : h.out.granted ≡ 0)
      where
        pub still : brings_still h.hand ≡ false
        still = ap brings_still none

        pub received : h.back.received ≡ 0
        received = (h.own.receiving.unheard refl unclear).0

        pub data_fin : h.back.data_fin_came ≡ 0
        data_fin = (h.own.receiving.unheard refl unclear).1

        pub may_send : MaySend k (waiting_on h.stage) (copy_in first) h.out
        may_send = record {
          turn = refl;
          at = at_is h.now.0 k_is.delay;
          low = refl;
          high = plus h.out.granted (length r.piece);
          written = subst (λ (x : ℕ). h.out.granted + x ≤ h.out.written) waits h.apps.room;
          edge = edge;
          data_fin = few (lane ticks t u k_is j_is going going_back h).numbers.data_fin_sent;
        }
          where
            at_is : {x y d e : ℕ} → x ≡ y → d ≡ e → y + d ≡ x + e
            at_is is ticks_are = omega (arith, is, ticks_are)

            plus : (x y : ℕ) → x ≤ x + y
            plus x y = omega arith

            few : {x y : ℕ} → x ≤ y → 0 + x ≤ y
            few less = omega (arith, less)

        pub may_say : MaySay j begun_back (waiting_on h.stage_back) false false (copy_in first) h.back
        may_say = record {
          turn = refl;
          at = at_is h.now_back.0 j_is.delay;
          so = (omega arith, least h.back.read (is_whole j h.back) j_is.ranges.least, came ticks t u k_is j_is going going_back h still una answered, omega arith);
          all = λ e. (
            nothing j.total received data_fin,
            h.own.receiving.unended refl unclear,
            no_keys (lane_back ticks t u k_is j_is going going_back h).numbers.keys h.other.modes.shown,
          );
          window = λ e one. near j.least j.threshold (lane_back ticks t u k_is j_is going going_back h).since.read
              (lane_back ticks t u k_is j_is going going_back h).numbers.read received;
          paid = no_more h.back.said (pending j (waiting_on h.stage_back) h.back)
              (no_duplicate h.back.told r.piece (is_same h.back.told (record { next = 0; edge = j.least; seen = 1; dss = 0 })) some);
        }
          where
            at_is : {x y d e : ℕ} → x ≡ y → d ≡ e → y + d ≡ x + e
            at_is is ticks_are = omega (arith, is, ticks_are)

            least : {buffer low : ℕ} (read whole : ℕ) → low ≤ buffer → low ≤ read + buffer + whole
            least read whole fits = omega (arith, fits)

            nothing : {came received_now : ℕ} (total : ℕ) → received_now ≡ 0 → came ≡ 0 → received_now + min came ((received_now + 1) - total) ≤ 0
            nothing total a b = omega (arith, a, b)

            no_keys : {x y : ℕ} → x ≤ y → y ≤ 0 → x ≤ 0
            no_keys a b = omega (arith, a, b)

            near : {x y z : ℕ} (low threshold : ℕ) → x ≤ y → y ≤ z → z ≡ 0 → x + low < low + 31 + threshold
            near low threshold a b is = omega (arith, a, b, is, j_is.some)

            no_more : {x : ℕ} (y z : ℕ) → x ≡ 0 → x + y + 0 ≤ max y 0 + z
            no_more y z is = omega (arith, is)

        pub row : m.end.tcp.congestion.duplicates ≤ row_seen h.out.sender None
        row = subst (λ (o : Option Hand). m.end.tcp.congestion.duplicates ≤ row_seen h.out.sender o) none h.own.subflow.congestion.row

        pub heard : HeardIs A k.total (last_told h.out.heard None) m.end.tcp
        heard = subst (λ (o : Option Hand). HeardIs A k.total (last_told h.out.heard o) m.end.tcp) none h.own.subflow.heard

        pub all_bytes : h.out.granted + length r.piece ≡ h.out.granted + h.waiting
        all_bytes = ap (λ (x : ℕ). h.out.granted + x) (sym waits)

        pub none_left : {x y : ℕ} → x ≡ y → x + 0 ≡ y
        none_left is = omega (arith, is)

        pub room : h.out.granted + length r.piece + 0 ≤ h.out.written
        room = up all_bytes h.apps.room
          where
            up : {x y z : ℕ} → x ≡ y → y ≤ z → x + 0 ≤ z
            up is less = omega (arith, is, less)

        pub full : j.buffer ≤ m.end.receiving.next + window_told false m.end.receiving.window + 31
        full = up begun_back.read ((lane_back ticks t u k_is j_is going going_back h).asked.limit asked) h.own.receiving.limit
          where
            up : {buffer limit edge : ℕ} (x : ℕ) → x + buffer ≤ limit + 31 → limit ≡ edge → buffer ≤ edge + 31
            up x less is = omega (arith, less, is)

        pub one_again : {x : ℕ} → x ≡ 1 → 1 ≡ max x 1
        one_again is = omega (arith, is)

        pub few_keys : {x r : ℕ} → x ≤ r → 1 ≤ r → max x 1 ≤ r
        few_keys p q = omega (arith, p, q)

        pub key_is : {x r : ℕ} (d : ℕ) → x ≤ r → r ≤ min 1 d → 1 ≡ max x 1
        key_is d p q = omega (arith, p, q)

        pub some_one : (x : ℕ) → 1 ≤ max x 1
        some_one x = omega arith

        pub under : (x : ℕ) → x ≤ x + 31
        under x = omega arith

        pub edge_is : {e r d : ℕ} → e ≡ 1 + r + (d - 1) → r ≡ 0 → d ≤ 1 → e ≡ 1
        edge_is is a b = omega (arith, is, a, b)

        -- the keys were shown before
        pub keyed : h.out.keys_sent ≡ 1
        keyed = once h.back.control_came ready shown_before h.own.modes.shown h.own.modes.ready
          where
            once : {r x : ℕ} (d : ℕ) → 1 ≤ r → r ≤ x → x ≤ r → r ≤ min 1 d → x ≡ 1
            once d p q a b = omega (arith, p, q, a, b)

        pub edge_some : {e : ℕ} (received_now d : ℕ) → e ≡ 1 + received_now + (d - 1) → 1 ≤ e
        edge_some received_now d is = omega (arith, is)

        pub edge_most : {e received_now d : ℕ} (total : ℕ) → e ≡ 1 + received_now + (d - 1) → received_now ≡ 0 → d ≤ 1 → e ≤ 1 + total + 0
        edge_most total is a b = omega (arith, is, a, b)

        module _ (events : Has (Duty.Step StepDuty.Events) ds) (fs gs : List (Flight Carried)) (f : Flight Carried) (flies : FliesAs c keys A f first)
            (more : fs ≡ m.flying ++ f ∷ []) (same_back : gs ≡ n.flying)
          where
            abbrev pub first_goes : Facing A keys k j c begun begun_back (record m { end = end_after h first; flying = fs })
                (record n { flying = gs }) clock until (Duty.Step (StepDuty.Data A) ∷ ds)
            first_goes = sent_off h first false (Duty.Step (StepDuty.Data A) ∷ ds) (sends_bytes (copy_in first) may_send) false false may_say
                (end_after h first) None false 0
                (own_brought h first still unowed r rest unsent (subst (λ (x : ℕ). 1 ≤ x) (sym waits) some) all_bytes refl one refl
                (few_keys h.own.modes.shown ready) (Before refl (inl received) refl full) (under j.least)
                (λ is clear. (received, data_fin, λ more. full)) row heard)
                fs gs f flies more same_back (
                  record {
                    some = edge_some h.back.received h.back.control_came h.own.subflow.come.edge;
                    bytes = omega arith;
                    most = edge_most j.total h.own.subflow.come.edge received (h.own.receiving.unended refl unclear);
                    end = λ e. absurd (omega (arith, e));
                  },
                  λ is e. omega arith,
                  (edge_is h.own.subflow.come.edge received (h.own.receiving.unended refl unclear), none_granted),
                )
                (refl, refl, refl, refl) refl (one, refl, refl, some, keyed)
                (le_refl m.end.tcp.recv.edge) (le_refl m.end.tcp.recv.edge) (one_again one) (key_is h.back.control_came h.own.modes.shown h.own.modes.ready)
                (way_none c keys k j B h.back.sender h.back.receiver h.back.datas h.out.acks m.end.tcp.send.una n.end.tcp.recv.edge h.hand none n.flying h.way_back)
                room (none_left all_bytes) (inr events) h.stages (ended_stays B A (inr events) h.stages_back) h.settles h.settles_back
                (some_one h.out.control_sent) h.begins_back (λ e b. absurd (both_ways false refl e))
