-- What an acknowledgement is to the open end that it comes to.
use Rattle.std.proofs.Common.{◌≡◌, refl, sym, ap, ◌∙◌, ⊎_elim, ℕ, ◌+◌, ◌<◌, ◌≤◌, arith, nat_lt, ◌==◌, Bool, true, false, true≢false, not, ◌&&◌, ◌||◌, if◌then◌else◌, ◌-◌, Option, Some, None, is_none, List, [], length}
use Rattle.std.specs.Prelude.{option_map}
use Rattle.std.proofs.lemmas.Bool.{and_from, cases_lt, eq-eqb, le-leb, lt-ltb, le-ltb, lt-leb, ne_eqb, or_right}
use Rattle.path_segments.specs.Heard.{HeardSegment}
use Rattle.path_segments.specs.Laws.{meant}
use Rattle.path_segments.specs.Spelled.{PlainSegment}
use Rattle.path_segments.specs.declared.position.HeardPosition.TheVariants.{At}
use Rattle.sides.specs.declared.side.Side.{Side}
use Rattle.sides.specs.declared.side.Side.TheVariants.{A, B}
use Rattle.sides.specs.Side.{peer}
use Rattle.link_model.specs.Steps.{changed, due_of}
use Rattle.link_model.specs.declared.flight.Flight.{Flight}
use Rattle.subflow_tcp.specs.declared.handshake.State.{State as EndPhase}
use Rattle.subflow_tcp.specs.declared.handshake.State.TheVariants as phase
use Rattle.subflow_tcp.specs.declared.verdicts.Meaning.TheVariants as means
use Rattle.subflow_tcp.specs.Judging.{meaning_of, meaning_at, meaning_connected, meaning_placed, meaning_within, meaning_acknowledging, meaning_outside, is_repeated_syn, is_in_window, ends_in_window, is_at_right_edge, is_acceptable, is_at}
use Rattle.subflow_tcp.specs.Segments.{Copy, occupied, one_if}
use Rattle.subflow_tcp.specs.State.{EndState}
use Rattle.subflow_tcp.specs.States.{is_dead, is_half_open}
use Rattle.path_core.specs.Arrival.{copy_of, heard_in, acknowledged_in}
use Rattle.path_core.specs.DataFin.{is_data_fin_owed}
use Rattle.path_core.specs.Emission.{ack_resent}
use Rattle.path_core.specs.End.{PathEnd}
use Rattle.path_core.specs.Judged.{judged_of}
use Rattle.path_core.specs.OptionsIn.{items_of, options_heard}
use Rattle.path_core.specs.OptionsOut.{ack_said, carried_said}
use Rattle.path_core.specs.Profile.{Profile}
use Rattle.path_core.specs.State.{PathState, end_at}
use Rattle.path_core.specs.Values.{Carried, carried_by, as_arrived, values}
use Rattle.path_core.specs.declared.judged.Judged.TheVariants as judged
use Rattle.whole_paths.specs.Arrivals.{Arrival, HasJoined}
use Rattle.whole_paths.specs.AsFar.{stage}
use Rattle.whole_paths.specs.Brought.{Comes, IsTo}
use Rattle.whole_paths.specs.DataAcksCome.{IsBare, IsOpen, AckComes, EachAckComes, EachAskArrives}
use Rattle.path_core.specs.MpJoin.{is_joined}
use Rattle.whole_paths.proofs.Arrivals.{judged_outside, judged_taken}

and_false : (b : Bool) → (b && false) ≡ false
and_false true = refl
and_false false = refl

past_connected : (state : EndPhase) (c : Copy) (s : EndState) → 2 ≤ stage state → is_dead state ≡ false → meaning_at state c s ≡ meaning_connected c s
past_connected phase.Waiting c s high living = absurd (omega (arith, high))
past_connected phase.Listen c s high living = absurd (omega (arith, high))
past_connected phase.SynSent c s high living = absurd (omega (arith, high))
past_connected phase.Dead c s high living = absurd (true≢false living)
past_connected _ c s high living = refl

unrepeated : (b : Bool) (c : Copy) → c.syn ≡ false → (not b && (c.syn && (not c.rst && (is_none c.acknowledged && is_at 0 c.position)))) ≡ false
unrepeated true c syn = refl
unrepeated false c syn = ap (λ b. b && (not c.rst && (is_none c.acknowledged && is_at 0 c.position))) syn

-- a copy without flags and bytes
module _ (c : Copy) (s : EndState) (pos : ℕ) (syn : c.syn ≡ false) (fin : c.fin ≡ false) (rst : c.rst ≡ false) (empty : c.payload ≡ []) (at : c.position ≡ Some pos) (h : IsOpen s) where
  none_so : occupied c ≡ 0
  none_so = ap (λ (octets : List ℕ). length octets + (one_if c.syn + one_if c.fin)) empty ∙ ap (λ b. 0 + (one_if b + one_if c.fin)) syn ∙ ap (λ b. 0 + (0 + one_if b)) fin

  placed_so : meaning_of c s ≡ (if is_acceptable s.recv.edge pos c then meaning_within pos c s else meaning_outside c)
  placed_so =
      past_connected s.state c s h.opened h.living
      ∙ ap (λ b. if b then means.Ignored else (if is_repeated_syn c s then means.RepeatedSyn else meaning_placed c.position c s)) h.below_limit
      ∙ ap (λ b. if b then means.RepeatedSyn else meaning_placed c.position c s) (unrepeated s.numbers.opens c syn)
      ∙ ap (λ o. meaning_placed o c s) at

  acked_so : (n : ℕ) → 0 < n → n ≤ s.send.nxt → meaning_acknowledging (Some n) pos s ≡ means.Taken pos n
  acked_so n some sent =
      ap (λ b. if b then means.Ahead else (if is_half_open s.state && n == 0 then means.Unacknowledging else means.Taken pos n)) (le-ltb s.send.nxt n sent)
      ∙ ap (λ b. if is_half_open s.state && b then means.Unacknowledging else means.Taken pos n) (ne_eqb n 0 (λ none. omega (arith, some, none)))
      ∙ ap (λ b. if b then means.Unacknowledging else means.Taken pos n) (and_false (is_half_open s.state))

  -- at the window's edge it may stand too
  acceptable_so : s.recv.edge ≤ pos → pos ≤ s.recv.edge + 1048576 → is_acceptable s.recv.edge pos c ≡ true
  acceptable_so from within = ⊎_elim
      (λ inside.
      ap (λ b. (b && nat_lt pos (s.recv.edge + 1048576)) || (ends_in_window s.recv.edge pos (occupied c) || is_at_right_edge s.recv.edge pos (length c.payload))) (le-leb s.recv.edge pos from)
      ∙ ap (λ b. b || (ends_in_window s.recv.edge pos (occupied c) || is_at_right_edge s.recv.edge pos (length c.payload))) (lt-ltb pos (s.recv.edge + 1048576) inside))
      (λ over. or_right (is_in_window s.recv.edge pos) _ (or_right (ends_in_window s.recv.edge pos (occupied c)) _
      (and_from (length c.payload == 0) (pos == s.recv.edge + 1048576) (ap (λ (octets : List ℕ). length octets == 0) empty) (eq-eqb pos (s.recv.edge + 1048576) (omega (arith, over, within))))))
      (cases_lt pos (s.recv.edge + 1048576))

  taken_so : (n : ℕ) → s.recv.edge ≤ pos → pos ≤ s.recv.edge + 1048576 → c.acknowledged ≡ Some n → 0 < n → n ≤ s.send.nxt → meaning_of c s ≡ means.Taken pos n
  taken_so n from within acks some sent =
      placed_so
      ∙ ap (λ b. if b then meaning_within pos c s else meaning_outside c) (acceptable_so from within)
      ∙ ap (λ b. if b then (if pos == s.recv.edge then means.Kills else means.Challenged) else (if c.syn then means.Challenged else meaning_acknowledging c.acknowledged pos s)) rst
      ∙ ap (λ b. if b then means.Challenged else meaning_acknowledging c.acknowledged pos s) syn
      ∙ ap (λ o. meaning_acknowledging o pos s) acks
      ∙ acked_so n some sent

  outside_so : (edge octets : ℕ) → pos < edge → (is_in_window edge pos || (ends_in_window edge pos 0 || is_at_right_edge edge pos octets)) ≡ false
  outside_so edge octets low =
      ap (λ b. (b && nat_lt pos (edge + 1048576)) || (ends_in_window edge pos 0 || is_at_right_edge edge pos octets)) (lt-leb edge pos low)
      ∙ ap (λ b. octets == 0 && b) (ne_eqb pos (edge + 1048576) (λ is. omega (arith, is, low)))
      ∙ and_false (octets == 0)

  again_so : pos < s.recv.edge → meaning_of c s ≡ means.Outside
  again_so low =
      placed_so
      ∙ ap (λ n. if is_in_window s.recv.edge pos || (ends_in_window s.recv.edge pos n || is_at_right_edge s.recv.edge pos (length c.payload)) then meaning_within pos c s else meaning_outside c) none_so
      ∙ ap (λ b. if b then meaning_within pos c s else meaning_outside c) (outside_so s.recv.edge (length c.payload) low)
      ∙ ap (λ b. if b then means.Ignored else means.Outside) rst

module _ (x : PlainSegment) (p : PathState Carried) (a : Arrival x p) (joins : HasJoined a.due.to p) (bare : IsBare x) (opened : IsOpen (end_at a.due.to p).tcp) where
  abbrev to : Side
  to = a.due.to

  abbrev e : PathEnd
  e = end_at to p

  abbrev said : HeardSegment
  said = options_heard e (meant x)

  abbrev copy : Comes values p
  copy = record {
    others = a.others;
    first = a.first;
    due = a.due;
    next = a.next;
    segment = meant x;
    heard = ap (λ (o : Option (Flight Carried)). heard_in values to o p) a.there ∙ ap (λ (c : Carried). Some (meant (as_arrived c))) a.carried;
  }

  is_taken : (pos n : ℕ) → meaning_of (copy_of said) e.tcp ≡ means.Taken pos n → IsTo values p copy (judged.As (means.Taken pos n))
  is_taken pos n is = ap (λ m. judged_of (is_joined p.profile) said.rst (items_of (is_joined p.profile) to said) m e) is
      ∙ judged_taken (is_joined p.profile) said.rst (items_of (is_joined p.profile) to said) pos n e joins

  is_outside : meaning_of (copy_of said) e.tcp ≡ means.Outside → IsTo values p copy (judged.As means.Outside)
  is_outside is = ap (λ m. judged_of (is_joined p.profile) said.rst (items_of (is_joined p.profile) to said) m e) is
      ∙ judged_outside (is_joined p.profile) said.rst (items_of (is_joined p.profile) to said) e joins

  ack_comes : AckComes x p e.tcp
  ack_comes = record {
    taken = λ h. record {
      brings = record {
        copy = copy;
        position = x.position;
        acknowledged = h.acknowledged;
        taken = is_taken x.position h.acknowledged (taken_so (copy_of said) e.tcp x.position bare.syn bare.fin bare.rst bare.empty refl opened h.acknowledged h.from h.within
            (ap (λ (o : Option ℕ). acknowledged_in (option_map (λ n. At n) o)) h.acknowledges) h.answered h.sent);
      };
      segment = refl;
    };
    again = λ low. record { copy = copy; outside = is_outside (again_so (copy_of said) e.tcp x.position bare.syn bare.fin bare.rst bare.empty refl opened low) };
  }

pub each_ack_comes : EachAckComes
each_ack_comes x p a joins bare opened = ack_comes x p a joins bare opened

-- ---- what an end without a record asks again

sender_of : (s : Side) → peer (peer s) ≡ s
sender_of A = refl
sender_of B = refl

ack_bare : (c : Profile) (s : Side) (pos : ℕ) (fin : Option ℕ) (e : PathEnd) → IsBare (ack_said c s pos fin e)
ack_bare c s pos fin e = record { syn = refl; fin = refl; rst = refl; empty = refl }

carried_bare : (c : Profile) (s : Side) (key : Option ℕ) (e : PathEnd) → IsBare (carried_said c s key e)
carried_bare c s (Some key) e = record { syn = refl; fin = refl; rst = refl; empty = refl }
carried_bare c s None e = ack_bare c s e.tcp.send.nxt None e

resent_bare : (c : Profile) (s : Side) (e : PathEnd) (third close fin : Bool) → IsBare (if third then ack_said c s e.tcp.send.nxt None e
    else (if close then carried_said c s e.notices.carrier e
    else (if fin then ack_said c s e.tcp.send.nxt e.sending.known_end e
    else ack_said c s (e.tcp.send.una - 1) None e)))
resent_bare c s e true close fin = ack_bare c s e.tcp.send.nxt None e
resent_bare c s e false true fin = carried_bare c s e.notices.carrier e
resent_bare c s e false false true = ack_bare c s e.tcp.send.nxt e.sending.known_end e
resent_bare c s e false false false = ack_bare c s (e.tcp.send.una - 1) None e

probe_at : (c : Profile) (s : Side) (e : PathEnd) → e.modes.owes_third ≡ false → e.notices.fast_closed ≡ false → is_data_fin_owed e ≡ false → (ack_resent c s e).position ≡ e.tcp.send.una - 1
probe_at c s e third close owed =
    ap (λ b. (if b then ack_said c s e.tcp.send.nxt None e
    else (if e.notices.fast_closed then carried_said c s e.notices.carrier e
    else (if is_data_fin_owed e then ack_said c s e.tcp.send.nxt e.sending.known_end e
    else ack_said c s (e.tcp.send.una - 1) None e))).position) third
    ∙ ap (λ b. (if b then carried_said c s e.notices.carrier e
    else (if is_data_fin_owed e then ack_said c s e.tcp.send.nxt e.sending.known_end e
    else ack_said c s (e.tcp.send.una - 1) None e)).position) close
    ∙ ap (λ b. (if b then ack_said c s e.tcp.send.nxt e.sending.known_end e else ack_said c s (e.tcp.send.una - 1) None e).position) owed

pub each_ask_arrives : EachAskArrives
each_ask_arrives s p f h whole same there few arrive others first next =
    let comes = arrive f there few in record {
      arrival = record {
        others = others;
        first = first;
        due = due_of f;
        next = next;
        flight = comes.first;
        there = comes.there;
        carried = comes.same ∙ h.carried
            ∙ ap (λ b. changed (values.strips p.profile.spelling s) (values.alters p.profile.spelling s) b h.altered (carried_by p.profile.spelling s (ack_resent p.profile s h.sender))) whole
            ∙ ap (λ b. changed (values.strips p.profile.spelling s) (values.alters p.profile.spelling s) false b (carried_by p.profile.spelling s (ack_resent p.profile s h.sender))) same
            ∙ ap (λ t. carried_by p.profile.spelling t (ack_resent p.profile s h.sender)) (sym (ap peer h.to ∙ sender_of s));
      };
      due_is = refl;
      bare = resent_bare p.profile s h.sender h.sender.modes.owes_third h.sender.notices.fast_closed (is_data_fin_owed h.sender);
      probes = probe_at p.profile s h.sender;
    }
