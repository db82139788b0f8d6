-- Each move of a lane by itself keeps what holds of it.
use Rattle.stream_lanes.proofs.Words.{◌≡◌, refl, sym, ◌∙◌, subst, ℕ, ◌+◌, ◌-◌, ◌<◌, ◌≤◌, max, Bool, true, false, ◌==◌, ⊎_elim, [], ◌∷◌, ◌++◌, length, take}
use Rattle.stream_lanes.proofs.Words.{Option, Some, None, if◌then◌else◌, arith, ◌⊎◌, ◌||◌, or_cases, both_ways, eqb-true, slice_get, IfSome, DataCopy, AckCopy}
use Rattle.stream_lanes.proofs.Words.{Mapping, Ask, Lane, AskGrant, AskAckIn, AskFin, Flags, hears, sends_piece, sends_altered, altered_piece_of, keeps}
use Rattle.stream_lanes.proofs.Words.{learns_mapping, learns, hears_data_fin, hears_fin, clashes, part_of, known, piece_of, Every, IsEnd, IsIn, View, IsAll}
use Rattle.stream_lanes.proofs.Words.{IsAck, AskHolds, LaneHolds, IsRight, IsPiece, IsAckCopy, as_sent, AreAcked}
use Rattle.stream_lanes.proofs.Lists.{Every-nil, Every-append, Every-push, From-map, in_one}
use Rattle.stream_lanes.proofs.Bytes.{Cells-merged, Cells-by_place, Cells-take, From-take, part_is_honest, part_within}
use Rattle.stream_lanes.proofs.Checking.{length-turned, turned_came}
use Rattle.stream_lanes.proofs.LaneParts.{parts_of, whole, new_modes, new_link, new_passed, new_bytes, new_ends, new_receiver, new_ask}

-- What holds of a view by itself.
pub record ViewFits (v : View) : Type 0 where
  pub size : length v.marks ≡ length v.written
  pub first : AreAcked v.acked v.marks
  pub end : (e : ℕ) → IsEnd v.end e → e ≡ length v.written
  pub received : v.received ≤ length v.written
  pub next : v.received ≤ v.next
  pub room : v.room ≤ v.edge
  pub whole : (e : ℕ) → IsEnd v.end e → e ≤ v.received → (v.next ≡ v.received + 1) × (v.edge ≡ v.room + 1)
  pub confirmed : (v.confirmed ≤ v.acked) ⊎ IsAll v
  pub fallen : v.fallen ≡ true → v.alone ≡ true
  pub acked : v.acked ≤ v.received
  pub reached : (first n : ℕ) → first ≤ v.received → ((place : ℕ) → first ≤ place → place < n → IsIn v place) → n ≤ v.received

pub record FlagsFit (f : Flags) (v : View) : Type 0 where
  pub answered : f.answered ≡ true → v.alone ≡ false
  pub sender : f.sender ≡ true → v.fallen ≡ true
  pub receiver : f.receiver ≡ true → v.fallen ≡ true
  pub inexact : f.receiver ≡ true → v.exact ≡ true → v.alters ≡ false
  pub loose : f.loose ≡ true → v.exact ≡ true → v.alters ≡ false

module _ (v : View) (path : ℕ) where
  pub held_if : (c : Bool) (p q : Lane) → (c ≡ true → LaneHolds v path q) → LaneHolds v path p → LaneHolds v path (if c then q else p)
  held_if = elim [ true ↦ λ p q allowed h. allowed refl | false ↦ λ p q allowed h. h ]

  pub with_ask : (p : Lane) (a : Ask) → AskHolds v p.sent p.opened p.edge a → LaneHolds v path p → LaneHolds v path (record p { asking = a })
  with_ask p a fits h = whole (new_ask fits (parts_of h))

  pub open_held : (f : Flags) (p : Lane) → FlagsFit f v → LaneHolds v path p → LaneHolds v path (if f.answered || path == 0 then record p { opened = true } else p)
  open_held f p flags h = held_if (f.answered || path == 0) p (record p { opened = true }) (λ c. (whole (new_modes (record {
    joined = λ _ alone. ⊎_elim (λ answered. absurd (both_ways _ (flags.answered answered) alone)) (λ zero. eqb-true path 0 zero) (or_cases f.answered (path == 0) c);
    sender = h.modes.sender;
    receiver = h.modes.receiver;
    inexact = h.modes.inexact;
  })
      (new_ask (opened_ask p.asking h.ask) (parts_of h))))) h
    where
      opened_ask : (a : Ask) → AskHolds v p.sent p.opened p.edge a → AskHolds v p.sent true p.edge a
      opened_ask = elim [ AskGrant max standby ↦ λ fits. (refl, fits.1) | _ ↦ λ fits. fits ]

  pub look_at_sender_held : (f : Flags) (p : Lane) → FlagsFit f v → LaneHolds v path p → LaneHolds v path (record p { sender_plain = f.sender })
  look_at_sender_held f p flags h = whole (new_modes (record { joined = h.modes.joined; sender = flags.sender; receiver = h.modes.receiver; inexact = h.modes.inexact }) (parts_of h))

  pub look_at_receiver_held : (f : Flags) (p : Lane) → FlagsFit f v → LaneHolds v path p → LaneHolds v path (record p { receiver_plain = f.receiver; receiver_loose = f.loose })
  look_at_receiver_held f p flags h = whole (new_modes (record { joined = h.modes.joined; sender = h.modes.sender; receiver = flags.receiver; inexact = flags.inexact })
      (new_link (record { alters_is = h.link.alters_is; checked_is = h.link.checked_is; must = h.link.must; inexact = flags.loose }) (parts_of h)))

  pub hear_ack_held : (o : Option AckCopy) (copy : ℕ) (p : Lane) → ViewFits v → slice_get p.acks copy ≡ o → LaneHolds v path p → LaneHolds v path (hears o p)
  hear_ack_held None copy p fits is h = h
  hear_ack_held (Some a) copy p fits is h =
      with_ask p (AskAckIn (if p.sender_plain then a.sub else a.next) a.window) (by_mode p.sender_plain (λ plain. fits.fallen (h.modes.sender plain))) h
    where
      copy_fits : IsAckCopy v a
      copy_fits = h.receiver.copies.each copy a is

      by_mode : (plain : Bool) → (plain ≡ true → v.alone ≡ true) → IsAck v (if plain then a.sub else a.next) a.window
      by_mode = elim [ true ↦ λ alone. copy_fits.subflow (alone refl) | false ↦ λ alone. copy_fits.stream ]

  pub send_piece_held : (mapped : Bool) (o : Option Mapping) (piece : ℕ) (p : Lane) → slice_get p.pieces piece ≡ o → LaneHolds v path p → LaneHolds v path (sends_piece mapped o p)
  send_piece_held mapped None piece p is h = h
  send_piece_held mapped (Some m) piece p is h = whole (new_bytes (record {
    granted = h.bytes.granted;
    apart = h.bytes.apart;
    honest = Every-push (piece_of mapped p m) h.bytes.honest (record {
      within = part_within p.sent m right;
      bytes = From-map (λ pos byte is. as_sent is) (part_is_honest p.sent m right);
      mapping = by_mapping mapped;
      piece = by_piece mapped;
    });
    within = h.bytes.within;
    came = h.bytes.came;
    right = h.bytes.right;
    learned = h.bytes.learned;
    acked = h.bytes.acked;
  }) (parts_of h))
    where
      right : IsRight p.sent m
      right = h.bytes.granted.each piece m is

      by_mapping : (mapped : Bool) → IfSome (if mapped then Some m else None) (IsRight p.sent)
      by_mapping = elim [ true ↦ right | false ↦ tt ]

      by_piece : (mapped : Bool) → IfSome (if mapped then Some m else None) (IsPiece p.pieces)
      by_piece true = record { at = piece; item = m; there = is; holds = refl }
      by_piece false = tt

  pub send_altered_held : (mapped : Bool) (o : Option Mapping) (piece : ℕ) (p : Lane) → slice_get p.pieces piece ≡ o → LaneHolds v path p → LaneHolds v path (sends_altered mapped o p)
  send_altered_held mapped None piece p is h = h
  send_altered_held mapped (Some m) piece p is h = held_if p.alters p (record p { datas = p.datas ++ altered_piece_of mapped p m ∷ [] }) (λ alters. (whole (new_bytes (record {
    granted = h.bytes.granted;
    apart = h.bytes.apart;
    honest = Every-push (altered_piece_of mapped p m) h.bytes.honest (record {
      within = omega (arith, part_within p.sent m right, length-turned (part_of p.sent m));
      bytes = turned_came p.alters p.pieces p.sent m alters (record { at = piece; item = m; there = is; holds = refl }) (part_of p.sent m) (part_is_honest p.sent m right);
      mapping = by_mapping mapped;
      piece = by_piece mapped;
    });
    within = h.bytes.within;
    came = h.bytes.came;
    right = h.bytes.right;
    learned = h.bytes.learned;
    acked = h.bytes.acked;
  }) (parts_of h)))) h
    where
      right : IsRight p.sent m
      right = h.bytes.granted.each piece m is

      by_mapping : (mapped : Bool) → IfSome (if mapped then Some m else None) (IsRight p.sent)
      by_mapping = elim [ true ↦ right | false ↦ tt ]

      by_piece : (mapped : Bool) → IfSome (if mapped then Some m else None) (IsPiece p.pieces)
      by_piece true = record { at = piece; item = m; there = is; holds = refl }
      by_piece false = tt

  pub forget_held : (from : ℕ) (p : Lane) → LaneHolds v path p → LaneHolds v path (record p { kept = take (from - p.edge) p.kept })
  forget_held from p h = whole (new_bytes (record {
    granted = h.bytes.granted;
    apart = h.bytes.apart;
    honest = h.bytes.honest;
    within = h.bytes.within;
    came = Cells-take (from - p.edge) h.bytes.came;
    right = h.bytes.right;
    learned = h.bytes.learned;
    acked = h.bytes.acked;
  }) (parts_of h))

  pub send_data_fin_held : (o : Option ℕ) (p : Lane) → p.known_end ≡ o → LaneHolds v path p → LaneHolds v path (record p { data_fins = p.data_fins ++ known o })
  send_data_fin_held o p is h = whole (new_ends (record { told = h.ends.told; named = Every-append h.ends.named (names o (subst (λ k. IfSome k (IsEnd v.end)) is h.ends.told)) }) (parts_of h))
    where
      names : (o : Option ℕ) → IfSome o (IsEnd v.end) → Every (IsEnd v.end) (known o)
      names None told = Every-nil (IsEnd v.end)
      names (Some e) told = record { each = λ i x is. let one = in_one e x i is in subst (IsEnd v.end) one.1 told }

  pub hear_held : (count : ℕ) (o : Option DataCopy) (copy : ℕ) (p : Lane) → slice_get p.datas copy ≡ o → LaneHolds v path p → LaneHolds v path (keeps count o p)
  hear_held count None copy p is h = h
  hear_held count (Some d) copy p is h = whole (new_bytes (record {
    granted = h.bytes.granted;
    apart = h.bytes.apart;
    honest = h.bytes.honest;
    within = h.bytes.within;
    came = Cells-merged h.bytes.came (Cells-by_place p.edge (From-take count (h.bytes.honest.each copy d is).bytes));
    right = h.bytes.right;
    learned = h.bytes.learned;
    acked = h.bytes.acked;
  }) (parts_of h))

  pub learn_held : (o : Option DataCopy) (copy : ℕ) (p : Lane) → slice_get p.datas copy ≡ o → LaneHolds v path p → LaneHolds v path (learns o p)
  learn_held None copy p is h = h
  learn_held (Some d) copy p is h = by_mapping d.mapping (h.bytes.honest.each copy d is).mapping (h.bytes.honest.each copy d is).piece
    where
      by_mapping : (o : Option Mapping) → IfSome o (IsRight p.sent) → IfSome o (IsPiece p.pieces) → LaneHolds v path (learns_mapping o p)
      by_mapping None right piece = h
      by_mapping (Some m) right piece = by_clash (clashes m p.maps)
        where
          by_clash : (c : Bool) → LaneHolds v path (if c then p else record p { maps = p.maps ++ m ∷ [] })
          by_clash true = h
          by_clash false = whole (new_bytes (record {
            granted = h.bytes.granted;
            apart = h.bytes.apart;
            honest = h.bytes.honest;
            within = h.bytes.within;
            came = h.bytes.came;
            right = Every-push m h.bytes.right right;
            learned = Every-push m h.bytes.learned piece;
            acked = h.bytes.acked;
          }) (parts_of h))

  pub hear_data_fin_held : (o : Option ℕ) (copy : ℕ) (p : Lane) → slice_get p.data_fins copy ≡ o → LaneHolds v path p → LaneHolds v path (hears_data_fin o p)
  hear_data_fin_held None copy p is h = h
  hear_data_fin_held (Some e) copy p is h = with_ask p (AskFin e) (h.ends.named.each copy e is) h

  pub hear_fin_held : (o : Option ℕ) (copy : ℕ) (p : Lane) → slice_get p.fins copy ≡ o → LaneHolds v path p → LaneHolds v path (hears_fin o p)
  hear_fin_held None copy p is h = h
  hear_fin_held (Some pos) copy p is h = held_if (pos == p.edge) p (record p { fin_in = true }) (λ here.
      let at : pos ≡ p.edge = eqb-true pos p.edge here in
      whole (new_passed (record { bytes = h.passed.bytes; fin = λ _. let fin = h.fins.each copy pos is in (sym at ∙ fin.last, fin.left); copies = h.passed.copies })
      (new_receiver (record {
        told = h.receiver.told;
        passed = h.receiver.passed;
        fin = λ alone _. subst (IsEnd v.end) at ((h.fins.each copy pos is).ends alone);
        fresh = h.receiver.fresh;
        copies = h.receiver.copies;
      }) (parts_of h)))) h
