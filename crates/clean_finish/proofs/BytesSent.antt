-- An end sends the bytes of a grant, with the DSS.
use Rattle.clean_finish.proofs.Words.{◌≡◌, refl, sym, subst, ap, ◌∙◌, ℕ, ◌+◌, ◌<◌, ◌≤◌, min, max, Bool, true, false, cond, not, inr, Option, None, List, []}
use Rattle.clean_finish.proofs.Words.{◌∷◌, ◌++◌, length, arith, Some, le_refl, ◌^◌, both_ways, Side, A, peer, Record, is_unsent, Data, Flight, window_told, Dss}
use Rattle.clean_finish.proofs.Words.{Duty, StepDuty, pick, is_nil, Profile, Carried, PathEnd, record_said, mapping_of, place_numbered, checksum_told}
use Rattle.clean_finish.proofs.Words.{is_first_piece, Setting, Telling, Lane, all_left, Going, pending, MaySay, MaySend, sends_bytes, is_same, Hand, HeardIs}
use Rattle.clean_finish.proofs.Words.{last_told, row_seen, brings_still, IsMapping, Sent, Keys, copy_in, said, FliesAs, Piece, Same, IsSetting, Facing, Half}
use Rattle.clean_finish.proofs.Words.{Has}
use Rattle.path_segments.specs.declared.segment.PathMapping.{PathMapping}
use Rattle.path_segments.specs.declared.segment.PathMapping.TheVariants.{Bytes}
use Rattle.subflow_tcp.specs.States.{is_opening}
use Rattle.world_laws.proofs.Lanes.Doing.{place_is}
use Rattle.clean_finish.proofs.Bringing.{end_after, own_brought}
use Rattle.clean_finish.proofs.EndSent.{ended_stays}
use Rattle.clean_finish.proofs.Hands.{way_none}
use Rattle.clean_finish.proofs.Opened.{waiting_on}
use Rattle.clean_finish.proofs.Sendings.{sent_off}
use Rattle.clean_finish.proofs.TakenMeant.{acknowledges_some}
use Rattle.clean_finish.proofs.TellsAll.{lane, lane_back, all_told, came, sent_some, so, acks, all, near, least_told}

-- as a lane counts them
abbrev pub piece_at : (at low control shown : ℕ) → Telling → (window edge : ℕ) → List ℕ → Sent
piece_at at low control shown telling window edge octets = record {
  at = at;
  brings = Piece octets;
  low = low;
  control = control;
  keys = shown;
  telling = telling;
  window = window;
  edge = edge;
}

-- what is said is the record's segment
pub piece_is : (c : Profile) (keys : Keys) (s : Side) (at low control shown : ℕ) (t : Telling) (r : Record) (e : PathEnd) → IsMapping e.modes
    → is_first_piece s r e ≡ false → is_opening e.tcp.state ≡ false → r.kind ≡ Data → r.pos ≡ low + control → t.next ≡ e.receiving.next
    → r.mapping ≡ mapping_of c s low (low + control) r.piece → low < 2 ^ 64
    → record_said c s r e ≡ said c keys s (piece_at at low control shown t e.receiving.window e.tcp.recv.edge r.piece)
piece_is c keys s at low control shown t r e mptcp later established kind pos next mapping few =
    rw (kind, mptcp.0, mptcp.1, later, established, acknowledges_some s (Piece r.piece) e.tcp.recv.edge refl, pos, next)
    (ap (λ (o : PathMapping ℕ). record {
      position = low + control;
      acknowledged = Some e.tcp.recv.edge;
      syn = false;
      fin = false;
      rst = false;
      window = e.receiving.window;
      mss = None;
      options = Dss (Some e.receiving.next) (Some o) ∷ [];
      payload = r.piece;
    }) mapped)
  where
    mapped : Bytes (place_numbered c s r.mapping.number) (low + control) r.mapping.length false (checksum_told c r.mapping.checksum)
        ≡ Bytes low (low + control) (length r.piece) false (checksum_told c (mapping_of c s low (low + control) r.piece).checksum)
    mapped = ap (λ (mapping : _). Bytes (place_numbered c s mapping.number) (low + control) mapping.length false (checksum_told c mapping.checksum)) mapping
        ∙ ap (λ (place : ℕ). Bytes place (low + control) (length r.piece) false (checksum_told c (mapping_of c s low (low + control) r.piece).checksum))
        (place_is c s low (low + control) (length r.piece) few)

-- bytes aren't a duplicate
pub no_duplicate : (t : Telling) (octets : List ℕ) (again : Bool) → 1 ≤ length octets → ◌≡◌ {A = ℕ} (cond (not (is_nil octets)) 0 (cond again 1 0)) 0
no_duplicate t [] again some = absurd (omega (arith, some))
no_duplicate t (x ∷ octets) again some = refl

module _ {s : Side} {keys : Keys} {k j : Setting} {c : Profile} {begun begun_back : Lane} {m n : Half} {clock until : ℕ} (ticks t u : ℕ)
    (k_is : IsSetting c ticks k) (j_is : IsSetting c ticks j)
    (going : Going k begun t all_left begun) (going_back : Going j begun_back u all_left begun_back)
    {ds : List Duty} (h : Facing s keys k j c begun begun_back m n clock until (Duty.Step (StepDuty.Data s) ∷ ds)) (r : Record)
  where
    abbrev pub piece : Sent
    piece = piece_at (clock + ticks) h.out.granted h.out.control_sent h.out.keys_sent (all_told ticks t u k_is j_is going going_back h)
        m.end.receiving.window m.end.tcp.recv.edge r.piece

    module _ (none : h.hand ≡ None) (unowed : h.owes ≡ false) (una : 1 ≤ m.end.tcp.send.una)
        (answered : min 1 h.back.control_came ≤ h.out.control_sent) (ready : s ≡ A → min 1 h.back.control_came ≤ h.out.ready)
        (shown : s ≡ A → h.out.ready ≤ h.out.keys_sent) (asked : h.stage_back.window ≡ false) (asks : h.stage_back.ask ≡ false)
        (rest : h.own.subflow.records.rest ≡ r ∷ []) (unsent : is_unsent r ≡ true) (one : h.out.control_sent ≡ 1)
        (waits : h.waiting ≡ length r.piece) (some : 1 ≤ length r.piece) (edge : h.out.granted + length r.piece ≤ h.out.edge)
        (keyed : s ≡ A → 1 ≤ h.out.keys_sent)
      where
        pub still : brings_still h.hand ≡ false
        still = ap brings_still none

        pub may_send : MaySend k (waiting_on h.stage) (copy_in piece) h.out
        may_send = record {
          turn = refl;
          at = at_is h.now.0 k_is.delay;
          low = refl;
          high = plus h.out.granted (length r.piece);
          written = subst (λ (x : ℕ). h.out.granted + x ≤ h.out.written) waits h.apps.room;
          edge = edge;
          data_fin = few (lane ticks t u k_is j_is going going_back h).numbers.data_fin_sent;
        }
          where
            at_is : {x y d e : ℕ} → x ≡ y → d ≡ e → y + d ≡ x + e
            at_is is ticks_are = omega (arith, is, ticks_are)

            plus : (x y : ℕ) → x ≤ x + y
            plus x y = omega arith

            few : {x y : ℕ} → x ≤ y → 0 + x ≤ y
            few less = omega (arith, less)

        pub may_say : MaySay j begun_back (waiting_on h.stage_back) false false (copy_in piece) h.back
        may_say = record {
          turn = refl;
          at = at_is h.now_back.0 j_is.delay;
          so = so ticks t u k_is j_is going going_back h still una answered;
          all = λ e. all ticks t u k_is j_is going going_back h still una answered asked asks;
          window = λ e one. near ticks t u k_is j_is going going_back h still una answered asked asks;
          paid = no_more h.back.said (pending j (waiting_on h.stage_back) h.back)
              (no_duplicate h.back.told r.piece (is_same h.back.told (all_told ticks t u k_is j_is going going_back h)) some);
        }
          where
            at_is : {x y d e : ℕ} → x ≡ y → d ≡ e → y + d ≡ x + e
            at_is is ticks_are = omega (arith, is, ticks_are)

            no_more : {x : ℕ} (y z : ℕ) → x ≡ 0 → x + y + 0 ≤ max y 0 + z
            no_more y z is = omega (arith, is)

        pub row : m.end.tcp.congestion.duplicates ≤ row_seen h.out.sender None
        row = subst (λ (o : Option Hand). m.end.tcp.congestion.duplicates ≤ row_seen h.out.sender o) none h.own.subflow.congestion.row

        pub heard : HeardIs s k.total (last_told h.out.heard None) m.end.tcp
        heard = subst (λ (o : Option Hand). HeardIs s k.total (last_told h.out.heard o) m.end.tcp) none h.own.subflow.heard

        pub same : (x : ℕ) → max x x ≡ x
        same x = omega arith

        pub all_bytes : h.out.granted + length r.piece ≡ h.out.granted + h.waiting
        all_bytes = ap (λ (x : ℕ). h.out.granted + x) (sym waits)

        pub none_left : {x y : ℕ} → x ≡ y → x + 0 ≡ y
        none_left is = omega (arith, is)

        pub room : h.out.granted + length r.piece + 0 ≤ h.out.written
        room = up all_bytes h.apps.room
          where
            up : {x y z : ℕ} → x ≡ y → y ≤ z → x + 0 ≤ z
            up is less = omega (arith, is, less)

        pub full : j.buffer ≤ m.end.receiving.next + window_told false m.end.receiving.window + 31
        full = up begun_back.read ((lane_back ticks t u k_is j_is going going_back h).asked.limit asked) h.own.receiving.limit
          where
            up : {buffer limit edge : ℕ} (x : ℕ) → x + buffer ≤ limit + 31 → limit ≡ edge → buffer ≤ edge + 31
            up x less is = omega (arith, less, is)

        pub up_one : {x : ℕ} → x ≡ 1 → 1 ≤ max x x
        up_one is = omega (arith, is)

        module _ (events : Has (Duty.Step StepDuty.Events) ds) (fs gs : List (Flight Carried)) (f : Flight Carried) (flies : FliesAs c keys s f piece)
            (more : fs ≡ m.flying ++ f ∷ []) (same_back : gs ≡ n.flying)
          where
            abbrev pub piece_goes : Facing s keys k j c begun begun_back (record m { end = end_after h piece; flying = fs })
                (record n { flying = gs }) clock until (Duty.Step (StepDuty.Data s) ∷ ds)
            piece_goes = sent_off h piece false (Duty.Step (StepDuty.Data s) ∷ ds) (sends_bytes (copy_in piece) may_send) false false may_say
                (end_after h piece) None false 0
                (own_brought h piece still unowed r rest unsent (subst (λ (x : ℕ). 1 ≤ x) (sym waits) some) all_bytes refl one one
                (subst (λ (x : ℕ). x ≤ pick s h.out.ready 0) (sym (same h.out.keys_sent)) h.own.modes.shown) (Same refl)
                (least_told ticks t u k_is j_is going going_back h still una answered asked asks)
                (λ is clear. ((h.own.receiving.unheard is clear).0, (h.own.receiving.unheard is clear).1, λ more. full)) row heard)
                fs gs f flies more same_back
                (acks ticks t u k_is j_is going going_back h still una answered piece refl refl, λ is e. keyed is, tt)
                (refl, came ticks t u k_is j_is going going_back h still una answered, refl) refl
                (sent_some ticks t u k_is j_is going going_back h still una answered, refl, refl, some)
                (le_refl m.end.tcp.recv.edge) (le_refl m.end.tcp.recv.edge) (sym (same h.out.control_sent)) (sym (same h.out.keys_sent))
                (way_none c keys k j (peer s) h.back.sender h.back.receiver h.back.datas h.out.acks m.end.tcp.send.una n.end.tcp.recv.edge h.hand none n.flying h.way_back)
                room (none_left all_bytes) (inr events) h.stages (ended_stays (peer s) s (inr events) h.stages_back) h.settles h.settles_back
                (up_one one) h.begins_back (λ e b. absurd (both_ways false refl e))
