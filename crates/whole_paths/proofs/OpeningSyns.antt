-- What a SYN is to the end that it comes to.
use Rattle.std.proofs.Common.{◌≡◌, refl, sym, ap, ◌∙◌, ◌⊎◌, inl, inr, ⊎_elim, ℕ, ◌+◌, ◌<◌, ◌≤◌, arith, nat_lt, nat_le, ◌==◌, Bool, true, false, true≢false, not, ◌&&◌, ◌||◌, if◌then◌else◌, Option, Some, None, is_none, List, [], length}
use Rattle.std.specs.Prelude.{option_map}
use Rattle.std.proofs.lemmas.Bool.{le-leb, lt-ltb, lt-leb, ne_eqb}
use Rattle.path_segments.specs.Heard.{HeardSegment}
use Rattle.path_segments.specs.Laws.{meant}
use Rattle.path_segments.specs.Spelled.{PlainSegment}
use Rattle.path_segments.specs.declared.position.HeardPosition.TheVariants.{At}
use Rattle.sides.specs.declared.side.Side.{Side}
use Rattle.link_model.specs.declared.flight.Flight.{Flight}
use Rattle.subflow_tcp.specs.declared.handshake.State.{State as EndPhase}
use Rattle.subflow_tcp.specs.declared.handshake.State.TheVariants as phase
use Rattle.subflow_tcp.specs.declared.verdicts.Meaning.{Meaning}
use Rattle.subflow_tcp.specs.declared.verdicts.Meaning.TheVariants as means
use Rattle.subflow_tcp.specs.Judging.{is_at, meaning_of, meaning_at, meaning_answering, meaning_answer, meaning_connected, meaning_placed, meaning_within, meaning_outside, is_repeated_syn, is_in_window, ends_in_window, is_at_right_edge, is_acceptable}
use Rattle.subflow_tcp.specs.Segments.{Copy, occupied, one_if}
use Rattle.subflow_tcp.specs.State.{EndState, is_at_limit}
use Rattle.subflow_tcp.specs.States.{is_dead}
use Rattle.path_core.specs.Arrival.{copy_of, heard_in, acknowledged_in}
use Rattle.path_core.specs.End.{PathEnd}
use Rattle.path_core.specs.Judged.{judged_of}
use Rattle.path_core.specs.OptionsIn.{items_of, options_heard}
use Rattle.path_core.specs.State.{PathState, end_at}
use Rattle.path_core.specs.Values.{Carried, as_arrived, values}
use Rattle.path_core.specs.declared.judged.Judged.TheVariants as judged
use Rattle.whole_paths.specs.Arrivals.{Arrival}
use Rattle.whole_paths.specs.AsFar.{stage}
use Rattle.whole_paths.specs.Brought.{Comes}
use Rattle.whole_paths.specs.Opening.{IsSyn, ComesAs, SynCounts, EachSynCounts}
use Rattle.path_core.specs.MpJoin.{is_joined}

and_false : (b : Bool) → (b && false) ≡ false
and_false true = refl
and_false false = refl

-- position 0 is outside each window behind the peer's SYN
syn_outside : (edge octets : ℕ) → 0 < edge → (is_in_window edge 0 || (ends_in_window edge 0 1 || is_at_right_edge edge 0 octets)) ≡ false
syn_outside edge octets some =
    ap (λ b. (b && nat_lt 0 (edge + 1048576)) || (ends_in_window edge 0 1 || is_at_right_edge edge 0 octets)) (lt-leb edge 0 some)
    ∙ ap (λ b. (nat_lt 0 1 && (b && nat_lt 0 (edge + 1048576))) || is_at_right_edge edge 0 octets) (lt-leb edge 0 some)
    ∙ ap (λ b. octets == 0 && b) (ne_eqb 0 (edge + 1048576) (λ is. omega (arith, is))) ∙ and_false (octets == 0)

past_connected : (state : EndPhase) (c : Copy) (s : EndState) → 2 ≤ stage state → is_dead state ≡ false → meaning_at state c s ≡ meaning_connected c s
past_connected phase.Waiting c s high living = absurd (omega (arith, high))
past_connected phase.Listen c s high living = absurd (omega (arith, high))
past_connected phase.SynSent c s high living = absurd (omega (arith, high))
past_connected phase.Dead c s high living = absurd (true≢false living)
past_connected _ c s high living = refl

-- a copy with a SYN alone, perhaps with an acknowledgement
module _ (c : Copy) (s : EndState) (syn : c.syn ≡ true) (fin : c.fin ≡ false) (rst : c.rst ≡ false) (at : c.position ≡ Some 0) (empty : c.payload ≡ []) where
  pub asks_so : s.state ≡ phase.Listen → c.acknowledged ≡ None → meaning_of c s ≡ means.Opens
  asks_so state none =
      ap (λ (state : EndPhase). meaning_at state c s) state
      ∙ ap (λ b. if b && (not c.fin && (not c.rst && is_none c.acknowledged)) then means.Opens else means.Ignored) syn
      ∙ ap (λ b. if not b && (not c.rst && is_none c.acknowledged) then means.Opens else means.Ignored) fin
      ∙ ap (λ b. if not b && is_none c.acknowledged then means.Opens else means.Ignored) rst
      ∙ ap (λ (o : Option ℕ). if is_none o then means.Opens else means.Ignored) none

  pub answers_so : (n : ℕ) → s.state ≡ phase.SynSent → is_at_limit s ≡ false → c.acknowledged ≡ Some n → 0 < n → n ≤ s.send.nxt → meaning_of c s ≡ means.Accepts n
  answers_so n state limit acks some sent =
      ap (λ (state : EndPhase). meaning_at state c s) state
      ∙ ap (λ b. if b then means.Ignored else meaning_answering c.acknowledged c s) limit
      ∙ ap (λ o. meaning_answering o c s) acks
      ∙ ap (λ b. if b && nat_le n s.send.nxt then meaning_answer c n else means.Ignored) (lt-ltb 0 n some)
      ∙ ap (λ b. if b then meaning_answer c n else means.Ignored) (le-leb n s.send.nxt sent)
      ∙ ap (λ b. if b then means.Kills else (if c.syn then means.Accepts n else means.Ignored)) rst
      ∙ ap (λ b. if b then means.Accepts n else means.Ignored) syn

  one : occupied c ≡ 1
  one = ap (λ (octets : List ℕ). length octets + (one_if c.syn + one_if c.fin)) empty ∙ ap (λ b. 0 + (one_if b + one_if c.fin)) syn ∙ ap (λ b. 0 + (1 + one_if b)) fin

  outside : 0 < s.recv.edge → is_acceptable s.recv.edge 0 c ≡ false
  outside some =
      ap (λ n. is_in_window s.recv.edge 0 || (ends_in_window s.recv.edge 0 n || is_at_right_edge s.recv.edge 0 (length c.payload))) one ∙ syn_outside s.recv.edge (length c.payload) some

  pub again_so : 2 ≤ stage s.state → is_dead s.state ≡ false → is_at_limit s ≡ false → 0 < s.recv.edge → (meaning_of c s ≡ means.RepeatedSyn) ⊎ (meaning_of c s ≡ means.Outside)
  again_so high living limit some = (elim (is_repeated_syn c s) as
      (λ b. (if b then means.RepeatedSyn else meaning_placed c.position c s) ≡ meaning_of c s → (meaning_of c s ≡ means.RepeatedSyn) ⊎ (meaning_of c s ≡ means.Outside)) [
        | true ↦ λ is. inl (sym is)
        | false ↦ λ is. inr (sym is ∙ ap (λ o. meaning_placed o c s) at ∙ ap (λ b. if b then meaning_within 0 c s else meaning_outside c) (outside some) ∙ ap (λ b. if b then means.Ignored else means.Outside) rst)
      ]) (sym (past_connected s.state c s high living ∙ ap (λ b. if b then means.Ignored else (if is_repeated_syn c s then means.RepeatedSyn else meaning_placed c.position c s)) limit))

  unrepeated : (n : ℕ) → c.acknowledged ≡ Some n → is_repeated_syn c s ≡ false
  unrepeated n acks =
      ap (λ (o : Option ℕ). not s.numbers.opens && (c.syn && (not c.rst && (is_none o && is_at 0 c.position)))) acks
      ∙ ap (λ b. not s.numbers.opens && (c.syn && b)) (and_false (not c.rst))
      ∙ ap (λ b. not s.numbers.opens && b) (and_false c.syn)
      ∙ and_false (not s.numbers.opens)

  once_more_so : (n : ℕ) → c.acknowledged ≡ Some n → 2 ≤ stage s.state → is_dead s.state ≡ false → is_at_limit s ≡ false → 0 < s.recv.edge → meaning_of c s ≡ means.Outside
  once_more_so n acks high living limit some =
      past_connected s.state c s high living ∙ ap (λ b. if b then means.Ignored else (if is_repeated_syn c s then means.RepeatedSyn else meaning_placed c.position c s)) limit
      ∙ ap (λ b. if b then means.RepeatedSyn else meaning_placed c.position c s) (unrepeated n acks)
      ∙ ap (λ o. meaning_placed o c s) at ∙ ap (λ b. if b then meaning_within 0 c s else meaning_outside c) (outside some) ∙ ap (λ b. if b then means.Ignored else means.Outside) rst

module _ (x : PlainSegment) (p : PathState Carried) (a : Arrival x p) (joined : is_joined p.profile ≡ false) (h : IsSyn x) where
  abbrev to : Side
  to = a.due.to

  abbrev e : PathEnd
  e = end_at to p

  abbrev said : HeardSegment
  said = options_heard e (meant x)

  abbrev copy : Comes values p
  copy = record {
    others = a.others;
    first = a.first;
    due = a.due;
    next = a.next;
    segment = meant x;
    heard = ap (λ (o : Option (Flight Carried)). heard_in values to o p) a.there ∙ ap (λ (c : Carried). Some (meant (as_arrived c))) a.carried;
  }

  comes_as : (m : Meaning) → meaning_of (copy_of said) e.tcp ≡ m → ComesAs p m
  comes_as m is = record { copy = copy; is = ap (λ j. judged_of j said.rst (items_of j to said) (meaning_of (copy_of said) e.tcp) e) joined ∙ ap (λ m. judged.As m) is }

  acks : (o : Option ℕ) → x.acknowledged ≡ o → (copy_of said).acknowledged ≡ o
  acks None is = ap (λ (o : Option ℕ). acknowledged_in (option_map (λ n. At n) o)) is
  acks (Some n) is = ap (λ (o : Option ℕ). acknowledged_in (option_map (λ n. At n) o)) is

  first : (copy_of said).position ≡ Some 0
  first = ap (λ n. Some n) h.first

  syn_counts : SynCounts x p e.tcp
  syn_counts = record {
    asks = λ state none. comes_as means.Opens (asks_so (copy_of said) e.tcp h.syn h.fin h.rst first h.empty state (acks None none));
    answers = λ n state limit is some sent. comes_as (means.Accepts n) (answers_so (copy_of said) e.tcp h.syn h.fin h.rst first h.empty n state limit (acks (Some n) is) some sent);
    again = λ high living limit some. ⊎_elim
        (λ is. inl (comes_as means.RepeatedSyn is))
        (λ is. inr (comes_as means.Outside is))
        (again_so (copy_of said) e.tcp h.syn h.fin h.rst first h.empty high living limit some);
    once_more = λ n is high living limit some. comes_as means.Outside (once_more_so (copy_of said) e.tcp h.syn h.fin h.rst first h.empty n (acks (Some n) is) high living limit some);
  }

pub each_syn_counts : EachSynCounts
each_syn_counts x p a joined h = syn_counts x p a joined h
