-- What a read makes of a reassembly book, of its view and of its reader.
use Rattle.stream_lanes.proofs.Words.{◌≡◌, refl, sym, ◌∙◌, ap, subst, ℕ, ◌+◌, ◌-◌, ◌<◌, ◌≤◌, min, Bool, true, false, ⊎_elim, List, [], ◌∷◌, ◌++◌, length, take}
use Rattle.stream_lanes.proofs.Words.{drop, Option, Some, None, if◌then◌else◌, arith, is_some, false≢true, eqb-true, cases_lt, or_parts, length-take}
use Rattle.stream_lanes.proofs.Words.{length-drop, append-nil, length-append, take_min, IfSome, Arriving, filled, received, bytes_reply, reading, after_reading}
use Rattle.stream_lanes.proofs.Words.{End, NoneYet, Sending, slice_get-drop, Flags, Reader, is_done, takes_read, From, view_of, IsEnd, IsPlaced, was_read}
use Rattle.stream_lanes.proofs.Words.{stands, IsSent, ArrivedHolds, SendHolds, ReaderHolds}
use Rattle.std.proofs.Math.Seq.{take-add}
use Rattle.reassembly_book.specs.declared.call.ReassemblyCall.TheVariants.{Read}
use Rattle.reassembly_book.specs.Steps.{after_call, reply_to, is_end}
use Rattle.stream_lanes.proofs.Lists.{Cells-map, Cells-drop, From-map, item_at}
use Rattle.stream_lanes.proofs.Bytes.{From-filled}
use Rattle.stream_lanes.proofs.Later.{Later, Anyone, sent_later}
use Rattle.stream_lanes.proofs.Views.{received_written}
use Rattle.stream_lanes.proofs.Arrivals.{ReceiveStep, went_on, sends_on, same_step, filled_left, filled_within, row_is}

module _ (granted : ℕ → Type 0) (f : Flags) (s : Sending) (b : Arriving) (send : SendHolds s (view_of f s b)) (arrived : ArrivedHolds granted (view_of f s b) b) (max : ℕ) where
  -- the bytes that are read
  row : From (IsSent granted (view_of f s b)) b.read (filled b.places)
  row = From-filled arrived.cells

  left : min max (length (filled b.places)) + length (filled (drop (min max (length (filled b.places))) b.places)) ≡ length (filled b.places)
  left = filled_left (min max (length (filled b.places))) b.places (omega arith)

  next_bytes : (view_of f s b).exact ≡ true → take (b.read + min max (length (filled b.places))) s.written ≡ take b.read s.written ++ take max (filled b.places)
  next_bytes exact =
      let n : ℕ = min max (length (filled b.places)) in
      take-add b.read n s.written
      ∙ ap (λ ys. take b.read s.written ++ ys)
      (row_is s.written b.read (filled b.places) n (omega arith) (From-map (λ place x sent. sent.written exact) row) ∙ take_min max (filled b.places))

  -- the book after a read, whatever the reader makes of it
  read_with : (q : Reader) → ReaderHolds (view_of f s (after_reading max b)) (after_reading max b) q → ReceiveStep granted f s b (after_reading max b) q
  read_with q reader = record {
    later = later;
    send = sends_on f s b (after_reading max b) (omega arith) (omega (arith, left)) now stays send;
    arrived = record {
      top = omega (arith, arrived.top, length-drop (min max (length (filled b.places))) b.places, filled_within b.places);
      cells = Cells-drop (min max (length (filled b.places))) (Cells-map (sent_later later (λ place is. is)) arrived.cells);
      end = arrived.end;
      before = λ place below. ⊎_elim (λ old. arrived.before place old) (λ new. came place new below) (cases_lt place b.read);
    };
    reader = reader;
  }
    where
      now : received (after_reading max b) ≤ length s.written
      now = omega (arith, left, received_written (view_of f s b) b arrived)

      -- what was placed is there, or was read
      stays : (place : ℕ) → IsPlaced b.read b.places place → IsPlaced (b.read + min max (length (filled b.places))) (drop (min max (length (filled b.places))) b.places) place
      stays place (was_read below) = was_read (omega (arith, below))
      stays place (stands i byte is e) = ⊎_elim
          (λ old. was_read (omega (arith, old, is)))
          (λ new. stands (i - min max (length (filled b.places))) byte (omega (arith, new, is))
          (slice_get-drop (min max (length (filled b.places))) b.places (i - min max (length (filled b.places))) i (omega (arith, new)) ∙ e))
          (cases_lt i (min max (length (filled b.places))))

      later : Later Anyone (view_of f s b) (view_of f s (after_reading max b))
      later = went_on f s b (after_reading max b) (omega arith) (omega (arith, left)) now stays

      came : (place : ℕ) → b.read ≤ place → place < b.read + min max (length (filled b.places)) → granted place
      came place new below =
          let there = item_at (filled b.places) (place - b.read) (omega (arith, new, below)) in
          (row.each (place - b.read) place there.0 (omega (arith, new)) there.1).recorded

  pub read_step : (r : Reader) → is_done r ≡ false → ReaderHolds (view_of f s b) b r
      → ReceiveStep granted f s b (after_call b (Read max)) (takes_read (reply_to b (Read max)) r)
  read_step r goes reader = by_abort b.aborted
    where
      untold : r.told ≡ false
      untold = (or_parts r.told r.stopped goes).0

      running : r.stopped ≡ false
      running = (or_parts r.told r.stopped goes).1

      none_read : take max (filled b.places) ≡ [] → (min max (length (filled b.places)) ≡ 0)
      none_read is = omega (arith, length-take max (filled b.places), ap length is)

      end_at : (o : Option ℕ) → IfSome o (IsEnd (view_of f s b).end) → is_end o b.read ≡ true → IsEnd (view_of f s b).end b.read
      end_at None end is = cc
      end_at (Some e) end is = subst (IsEnd (view_of f s b).end) (eqb-true e b.read is) end

      by_end : (c : Bool) → is_end b.known_end b.read ≡ c → take max (filled b.places) ≡ []
          → ReceiveStep granted f s b (after_reading max b) (takes_read (if c then End else NoneYet) r)
      by_end true is none = read_with (record r { told = true }) (record {
        size = omega (arith, reader.size, none_read none);
        out = λ exact. reader.out exact ∙ sym (append-nil (take b.read s.written)) ∙ ap (λ ys. take b.read s.written ++ ys) (sym none) ∙ sym (next_bytes exact);
        told = λ _. subst (IsEnd (view_of f s b).end) (omega (arith, none_read none)) (end_at b.known_end arrived.end is);
        once = λ stopped. absurd (false≢true (sym running ∙ stopped));
      })
      by_end false is none = read_with r (record {
        size = omega (arith, reader.size, none_read none);
        out = λ exact. reader.out exact ∙ sym (append-nil (take b.read s.written)) ∙ ap (λ ys. take b.read s.written ++ ys) (sym none) ∙ sym (next_bytes exact);
        told = λ told. absurd (false≢true (sym untold ∙ told));
        once = reader.once;
      })

      by_bytes : (bytes : List ℕ) → take max (filled b.places) ≡ bytes → ReceiveStep granted f s b (after_reading max b) (takes_read (bytes_reply bytes b) r)
      by_bytes [] is = by_end (is_end b.known_end b.read) refl is
      by_bytes (x ∷ bytes) is = read_with (record r { out = r.out ++ x ∷ bytes }) (record {
        size = omega (arith, length-append r.out (x ∷ bytes), reader.size, length-take max (filled b.places), ap length is);
        out = λ exact. ap (λ ys. r.out ++ ys) (sym is) ∙ ap (λ ys. ys ++ take max (filled b.places)) (reader.out exact) ∙ sym (next_bytes exact);
        told = λ told. absurd (false≢true (sym untold ∙ told));
        once = reader.once;
      })

      by_abort : (o : Option Bool) → ReceiveStep granted f s b (if is_some o then b else after_reading max b) (takes_read (reading o max b) r)
      by_abort None = by_bytes (take max (filled b.places)) refl
      by_abort (Some by_peer) = same_step granted f s b send arrived (record r { stopped = true })
          (record { size = reader.size; out = reader.out; told = reader.told; once = λ _. untold })
