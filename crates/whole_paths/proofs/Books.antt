-- What each call makes of a book is as far as the book was.
use Rattle.std.proofs.Common.{◌≡◌, refl, sym, ◌∙◌, ap, ℕ, ◌+◌, ◌≤◌, ◌==◌, ◌||◌, nat_lt, min, max, Bool, true, false, if◌then◌else◌, is_some, Option, Some, None, Ok, Err, List, [], ◌∷◌, ◌++◌, length, take, drop, replicate, le_refl, arith}
use Rattle.std.proofs.lemmas.Bool.{or_left, eqb-true}
use Rattle.std.proofs.lemmas.List.{append-nil, append_assoc}
use Rattle.octet_text.specs.Prefix.{IsPrefix}
use Rattle.sides.specs.declared.side.Side.{Side}
use Rattle.sides.specs.declared.side.Side.TheVariants.{A, B}
use Rattle.send_book.specs.declared.call.SendCall.{SendCall}
use Rattle.send_book.specs.declared.call.SendCall.TheVariants as send_calls
use Rattle.send_book.specs.declared.mark.ByteMark.TheVariants.{Acked, Free}
use Rattle.send_book.specs.Tried.{no_paths}
use Rattle.send_book.specs.Laws.{IsAckedAt}
use Rattle.send_book.specs.State.{Sending}
use Rattle.send_book.specs.Steps.{bytes_taken, decision, given_by, is_future, is_gathered, after_call, fin_after}
use Rattle.send_book.proofs.Grants.{acknowledged_stays}
use Rattle.reassembly_book.specs.declared.call.ReassemblyCall.{ReassemblyCall}
use Rattle.reassembly_book.specs.declared.call.ReassemblyCall.TheVariants as reassembly_calls
use Rattle.reassembly_book.specs.State.{Arriving, filled, received}
use Rattle.reassembly_book.specs.Steps.{merged, places_after, is_taken, fin_clash, after_reading}
use Rattle.reassembly_book.specs.Steps as arriving
use Rattle.stream_lanes.proofs.Arrivals.{filled_left}
use Rattle.actor_desk.specs.declared.ask.Ask.{Ask}
use Rattle.actor_desk.specs.declared.ask.Ask.TheVariants as asks
use Rattle.actor_desk.specs.Desk.{SixBooks, after_ask}
use Rattle.whole_paths.specs.AsFar.{IsSendAsFar, IsArrivalAsFar, IsSideAsFar}

-- ---- a send book

prefix_stays : (xs : List ℕ) → IsPrefix xs xs
prefix_stays xs = record { rest = []; whole_is = sym (append-nil xs) }

module _ (b : Sending) where
  abbrev Acks : Sending → Type 0
  Acks c = (place : ℕ) → IsAckedAt place b → IsAckedAt place c

  -- its marks alone may change
  marks_alone : (c : Sending) → c.written ≡ b.written → c.closed ≡ b.closed → c.edge ≡ b.edge → c.fin ≡ b.fin → Acks c → IsSendAsFar b c
  marks_alone c written closed edge fin acks = record {
    written = record { rest = []; whole_is = written ∙ sym (append-nil b.written) };
    closed = λ is. closed ∙ is;
    acknowledged = acks;
    edge = omega (arith, edge);
    fin = λ is. fin ∙ is;
  }

  acks_stay : (call : SendCall) → Acks (after_call b call)
  acks_stay call place = acknowledged_stays (call ∷ []) b place

  pub send_up : (call : SendCall) → IsSendAsFar b (after_call b call)
  send_up (send_calls.Write bytes) = by (b.closed || b.aborted) (acks_stay (send_calls.Write bytes))
    where
      more : Sending
      more = record b { written = b.written ++ take (bytes_taken bytes b) bytes; marks = b.marks ++ replicate (bytes_taken bytes b) (Free no_paths) }

      by : (x : Bool) → Acks (if x then b else more) → IsSendAsFar b (if x then b else more)
      by true acks = marks_alone b refl refl refl refl acks
      by false acks = record {
        written = record { rest = take (bytes_taken bytes b) bytes; whole_is = refl };
        closed = λ is. is;
        acknowledged = acks;
        edge = le_refl b.edge;
        fin = λ is. is;
      }
  send_up send_calls.Close = (elim b.aborted as (λ x. Acks (if x then b else record b { closed = true }) → IsSendAsFar b (if x then b else record b { closed = true })) [
    | true ↦ λ acks. marks_alone b refl refl refl refl acks
    | false ↦ λ acks. record { written = prefix_stays b.written; closed = λ is. refl; acknowledged = acks; edge = le_refl b.edge; fin = λ is. is }
  ]) (acks_stay send_calls.Close)
  send_up (send_calls.Grant path most standby) = (elim (decision path most standby b) as (λ r. Acks (given_by path r b) → IsSendAsFar b (given_by path r b))
      [ Ok span ↦ λ acks. marks_alone _ refl refl refl refl acks | Err why ↦ λ acks. marks_alone b refl refl refl refl acks ]) (acks_stay (send_calls.Grant path most standby))
  send_up (send_calls.AckIn next window) = by (is_future next b) (acks_stay (send_calls.AckIn next window))
    where
      acked : Sending
      acked = record b { marks = replicate (min next (length b.marks)) Acked ++ drop next b.marks; edge = max b.edge (next + window); fin = fin_after next b }

      by : (x : Bool) → Acks (if x then b else acked) → IsSendAsFar b (if x then b else acked)
      by true acks = marks_alone b refl refl refl refl acks
      by false acks = record {
        written = prefix_stays b.written;
        closed = λ is. is;
        acknowledged = acks;
        edge = omega arith;
        fin = λ is. or_left b.fin (nat_lt (length b.written) next) is;
      }
  send_up (send_calls.GoInfinite path) = (elim (is_gathered path b) as (λ x. Acks (if x then record b { owner = Some path } else b) → IsSendAsFar b (if x then record b { owner = Some path } else b))
      [ true ↦ λ acks. marks_alone _ refl refl refl refl acks | false ↦ λ acks. marks_alone b refl refl refl refl acks ]) (acks_stay (send_calls.GoInfinite path))
  send_up (send_calls.Return path) = marks_alone _ refl refl refl refl (acks_stay (send_calls.Return path))
  send_up send_calls.GoIdentity = marks_alone _ refl refl refl refl (acks_stay send_calls.GoIdentity)
  send_up send_calls.Abort = marks_alone _ refl refl refl refl (acks_stay send_calls.Abort)

  pub send_stays : IsSendAsFar b b
  send_stays = marks_alone b refl refl refl refl (λ place is. is)

send_then : (b c d : Sending) → IsSendAsFar b c → IsSendAsFar c d → IsSendAsFar b d
send_then b c d x y = record {
  written = record {
    rest = x.written.rest ++ y.written.rest;
    whole_is = y.written.whole_is ∙ ap (λ xs. xs ++ y.written.rest) x.written.whole_is ∙ append_assoc b.written x.written.rest y.written.rest;
  };
  closed = λ is. y.closed (x.closed is);
  acknowledged = λ place is. y.acknowledged place (x.acknowledged place is);
  edge = omega (arith, x.edge, y.edge);
  fin = λ is. y.fin (x.fin is);
}

-- ---- a reassembly book

-- what comes fills no less without a gap
filled_more : (places others : List (Option ℕ)) → length (filled places) ≤ length (filled (merged places others))
filled_more [] others = omega arith
filled_more (place ∷ places) [] = le_refl (length (filled (place ∷ places)))
filled_more (Some byte ∷ places) (other ∷ others) = let rest = filled_more places others in omega (arith, rest)
filled_more (None ∷ places) (other ∷ others) = omega arith

module _ (b : Arriving) where
  -- but for how the stream was aborted
  arrival_same : (c : Arriving) → c.read ≡ b.read → c.places ≡ b.places → c.known_end ≡ b.known_end → IsArrivalAsFar b c
  arrival_same c read places end = record {
    read = omega (arith, read);
    received = (let same : length (filled c.places) ≡ length (filled b.places) = ap (λ ps. length (filled ps)) places in omega (arith, same, read));
    end = λ place is. end ∙ is;
  }

  end_stays : (at : ℕ) (o : Option ℕ) (place : ℕ) → o ≡ Some place → b.known_end ≡ o
      → (if is_some (fin_clash o at b) then b else record b { known_end = Some at }).known_end ≡ Some place
  end_stays at None place is known = cc
  end_stays at (Some e) place is known = (elim (e == at) as (λ x. (e == at) ≡ x → (if is_some (if x then None else Some e) then b else record b { known_end = Some at }).known_end ≡ Some place)
      [ true ↦ λ same. ap (λ n. Some n) (sym (eqb-true e at same)) ∙ is | false ↦ λ same. known ∙ is ]) refl

  pub arrival_up : (call : ReassemblyCall) → IsArrivalAsFar b (arriving.after_call b call)
  arrival_up (reassembly_calls.Place at bytes) = by (is_taken at bytes b)
    where
      by : (x : Bool) → IsArrivalAsFar b (if x then record b { places = places_after at bytes b } else b)
      by true = record {
        read = le_refl b.read;
        received = (let more = filled_more b.places (drop b.read (arriving.by_place at bytes)) in omega (arith, more));
        end = λ place is. is;
      }
      by false = arrival_same b refl refl refl
  arrival_up (reassembly_calls.Fin at) = record {
    read = by_read (is_some (fin_clash b.known_end at b));
    received = by_received (is_some (fin_clash b.known_end at b));
    end = λ place is. end_stays at b.known_end place is refl;
  }
    where
      by_read : (x : Bool) → b.read ≤ (if x then b else record b { known_end = Some at }).read
      by_read = elim [ true ↦ le_refl b.read | false ↦ le_refl b.read ]

      by_received : (x : Bool) → received b ≤ received (if x then b else record b { known_end = Some at })
      by_received = elim [ true ↦ le_refl (received b) | false ↦ le_refl (received b) ]
  arrival_up (reassembly_calls.Read most) = elim (is_some b.aborted) as (λ x. IsArrivalAsFar b (if x then b else after_reading most b)) [
    | true ↦ arrival_same b refl refl refl
    | false ↦ let n : ℕ = min most (length (filled b.places)) in let left = filled_left n b.places (omega arith) in record { read = omega arith; received = omega (arith, left); end = λ place is. is }
  ]
  arrival_up reassembly_calls.AckOut = arrival_same b refl refl refl
  arrival_up (reassembly_calls.Abort by_peer) = arrival_same _ refl refl refl

  pub arrival_stays : IsArrivalAsFar b b
  arrival_stays = arrival_same b refl refl refl

arrival_then : (b c d : Arriving) → IsArrivalAsFar b c → IsArrivalAsFar c d → IsArrivalAsFar b d
arrival_then b c d x y = record { read = omega (arith, x.read, y.read); received = omega (arith, x.received, y.received); end = λ place is. y.end place (x.end place is) }

-- ---- a side

pub side_stays : (s : Side) (six : SixBooks) → IsSideAsFar s six six
side_stays A six = record { send = send_stays six.send_a; arrival = arrival_stays six.reassembly_a }
side_stays B six = record { send = send_stays six.send_b; arrival = arrival_stays six.reassembly_b }

pub side_then : (s : Side) (six seven eight : SixBooks) → IsSideAsFar s six seven → IsSideAsFar s seven eight → IsSideAsFar s six eight
side_then s six seven eight x y = record { send = send_then _ _ _ x.send y.send; arrival = arrival_then _ _ _ x.arrival y.arrival }

-- whatever is asked
pub side_up : (ask : Ask) (six : SixBooks) (s : Side) → IsSideAsFar s six (after_ask ask six)
side_up (asks.Send A call) six A = record { send = send_up six.send_a call; arrival = arrival_stays six.reassembly_a }
side_up (asks.Send B call) six B = record { send = send_up six.send_b call; arrival = arrival_stays six.reassembly_b }
side_up (asks.Reassembly A call) six A = record { send = send_stays six.send_a; arrival = arrival_up six.reassembly_a call }
side_up (asks.Reassembly B call) six B = record { send = send_stays six.send_b; arrival = arrival_up six.reassembly_b call }
side_up (asks.Send B call) six A = record { send = send_stays six.send_a; arrival = arrival_stays six.reassembly_a }
side_up (asks.Send A call) six B = record { send = send_stays six.send_b; arrival = arrival_stays six.reassembly_b }
side_up (asks.Reassembly B call) six A = record { send = send_stays six.send_a; arrival = arrival_stays six.reassembly_a }
side_up (asks.Reassembly A call) six B = record { send = send_stays six.send_b; arrival = arrival_stays six.reassembly_b }
side_up (asks.Control t call) six A = record { send = send_stays six.send_a; arrival = arrival_stays six.reassembly_a }
side_up (asks.Control t call) six B = record { send = send_stays six.send_b; arrival = arrival_stays six.reassembly_b }
side_up (asks.Local step) six s = side_stays s six
