-- What is sent, acknowledged or marked leaves the records with the octets and mappings that they were granted with.
use Rattle.world_laws.proofs.Words.{◌≡◌, refl, subst, ℕ, zero, suc, ◌&&◌, ◌==◌, nat_lt, nat_le, Bool, true, false, if◌then◌else◌, Some, None, List, [], ◌∷◌}
use Rattle.world_laws.proofs.Words.{map, same_Some, slice_get, IfSome, Side, Record, SendState, RecordKind, Syn, Data, Fin, is_unsent, uncovered}
use Rattle.world_laws.proofs.Words.{first_unsent_sent, first_sent, unsent_again, expired_records, after_acknowledge, after_sent, after_resent, after_expired}
use Rattle.world_laws.proofs.Words.{after_fin_sent, is_fin, syn_resent, EndPhase, Occasion, PlainSegment, PathEnd, Profile, having_sent, Every, Lane, if_so}
use Rattle.std.specs.List.{find}
use Rattle.subflow_send.specs.declared.record.Sending.{Sending}
use Rattle.subflow_send.specs.Records.{end_of}
use Rattle.subflow_send.specs.Rules.{fin_sent}
use Rattle.subflow_send.specs.Sendings.{sent_again}
use Rattle.world_laws.proofs.Lanes.Showing.{KindShows, RecordShows, Knowledge, SenderShows, EndShows}
use Rattle.world_laws.proofs.Lanes.EndParts.{new_sender}

module _ {X : Type 0} {P : X → Type 0} where
  pub every_cons : (x : X) (xs : List X) → P x → Every P xs → Every P (x ∷ xs)
  every_cons x xs first rest = record { each = at }
    where
      at : (i : ℕ) (y : X) → slice_get (x ∷ xs) i ≡ Some y → P y
      at = elim [ zero ↦ λ y is. subst P (same_Some x y is) first | suc i ↦ λ y is. rest.each i y is ]

  pub every_rest : (x : X) (xs : List X) → Every P (x ∷ xs) → Every P xs
  every_rest x xs h = record { each = λ i y is. h.each (suc i) y is }

  pub every_first : (x : X) (xs : List X) → Every P (x ∷ xs) → P x
  every_first x xs h = h.each 0 x refl

  pub every_find : (test : X → Bool) (xs : List X) → Every P xs → IfSome (find test xs) P
  every_find test [] h = tt
  every_find test (x ∷ xs) h = (elim (test x) as (λ b. IfSome (find test xs) P → IfSome (if b then Some x else find test xs) P)
      [ true ↦ λ rest. every_first x xs h | false ↦ λ rest. rest ]) (every_find test xs (every_rest x xs h))

  pub every_at : (i : ℕ) (xs : List X) → Every P xs → IfSome (slice_get xs i) P
  every_at i xs h = (elim (slice_get xs i) as (λ o. slice_get xs i ≡ o → IfSome o P) [ None ↦ λ is. tt | Some x ↦ λ is. h.each i x is ]) refl

-- a fact of a record that doesn't depend on how it was sent
module _ (P : Record → Type 0) (any : (r : Record) (x : Sending) → P r → P (record r { sending = x })) where
  pub unsent_sent_kept : (now : ℕ) (rs : List Record) → Every P rs → Every P (first_unsent_sent now rs)
  unsent_sent_kept now [] h = h
  unsent_sent_kept now (r ∷ rs) h =
      (elim (is_unsent r) as (λ b. Every P (first_unsent_sent now rs) → Every P (if b then record r { sending = sent_again now r.sending } ∷ rs else r ∷ first_unsent_sent now rs))
      [ true ↦ λ more. every_cons _ rs (any r _ (every_first r rs h)) (every_rest r rs h) | false ↦ λ more. every_cons r _ (every_first r rs h) more ]) (unsent_sent_kept now rs (every_rest r rs h))

  pub first_sent_kept : (now : ℕ) (rs : List Record) → Every P rs → Every P (first_sent now rs)
  first_sent_kept now [] h = h
  first_sent_kept now (r ∷ rs) h = every_cons _ rs (any r _ (every_first r rs h)) (every_rest r rs h)

  pub fin_sent_kept : (now : ℕ) (rs : List Record) → Every P rs → Every P (map (fin_sent now) rs)
  fin_sent_kept now [] h = h
  fin_sent_kept now (r ∷ rs) h = every_cons _ _ (by (is_fin r.kind)) (fin_sent_kept now rs (every_rest r rs h))
    where
      by : (b : Bool) → P (if b then record r { sending = sent_again now r.sending } else r)
      by = elim [ true ↦ any r _ (every_first r rs h) | false ↦ every_first r rs h ]

  unsent_again_kept : (rs : List Record) → Every P rs → Every P (map unsent_again rs)
  unsent_again_kept [] h = h
  unsent_again_kept (r ∷ rs) h = every_cons _ _ (any r _ (every_first r rs h)) (unsent_again_kept rs (every_rest r rs h))

  pub expired_kept : (rs : List Record) → Every P rs → Every P (expired_records rs)
  expired_kept [] h = h
  expired_kept (r ∷ rs) h = every_cons _ _ (any r _ (every_first r rs h)) (unsent_again_kept rs (every_rest r rs h))

pub uncovered_kept : {P : Record → Type 0} (pos : ℕ) (rs : List Record) → Every P rs → Every P (uncovered pos rs)
uncovered_kept pos [] h = h
uncovered_kept {P} pos (r ∷ rs) h = (elim (nat_le (end_of r) pos) as (λ b. Every P (uncovered pos rs) → Every P (if b then uncovered pos rs else r ∷ rs))
    [ true ↦ λ more. more | false ↦ λ more. h ]) (uncovered_kept pos rs (every_rest r rs h))

-- ---- the sending half

module _ (c : Profile) (s : Side) (k : Knowledge) (p : Lane) where
  same_kind : (kind : RecordKind) (r : Record) (x : Sending) → KindShows c s p.alters p.sent p.datas p.fins kind r → KindShows c s p.alters p.sent p.datas p.fins kind (record r { sending = x })
  same_kind Syn r x h = h
  same_kind Data r x h = record { octets = h.octets; turned = h.turned; mapping = h.mapping; summed = h.summed }
  same_kind Fin r x h = h

  same_record : (r : Record) (x : Sending) → RecordShows c s p.alters p.sent p.datas p.fins r → RecordShows c s p.alters p.sent p.datas p.fins (record r { sending = x })
  same_record r x h = same_kind r.kind r x h

  abbrev Shows : EndPhase → SendState → Type 0
  Shows state v = SenderShows c s state v k p

  -- other records of the same octets
  with_records : (state : EndPhase) (v : SendState) (rs : List Record) → Shows state v → Every (RecordShows c s p.alters p.sent p.datas p.fins) rs → Shows state (record v { records = rs })
  with_records state v rs h pieces = record {
    plain = h.plain;
    next = h.next;
    unfinished = h.unfinished;
    pieces = pieces;
    known_end = h.known_end;
    same_end = h.same_end;
    heard = h.heard;
    granted = h.granted;
    fin_acked = h.fin_acked;
    sent = h.sent;
  }

  pub sent_shows : (now : ℕ) (state : EndPhase) (v : SendState) → Shows state v → Shows state (after_sent now v)
  sent_shows now state v h = with_records state v _ h (unsent_sent_kept _ same_record now v.records h.pieces)

  pub resent_shows : (now : ℕ) (state : EndPhase) (v : SendState) → Shows state v → Shows state (after_resent now v)
  resent_shows now state v h = with_records state v _ h (first_sent_kept _ same_record now v.records h.pieces)

  pub fin_sent_shows : (now : ℕ) (state : EndPhase) (v : SendState) → Shows state v → Shows state (after_fin_sent now v)
  fin_sent_shows now state v h = with_records state v _ h (fin_sent_kept _ same_record now v.records h.pieces)

  pub expired_shows : (state : EndPhase) (v : SendState) → Shows state v → Shows state (after_expired v)
  expired_shows state v h = with_records state v _ h (expired_kept _ same_record v.records h.pieces)

  pub syn_resent_shows : (now : ℕ) (state : EndPhase) (v : SendState) → Shows state v → Shows state (syn_resent now v)
  syn_resent_shows now state v h = if_so (Shows state) (v.una == 0) (after_resent now v) v (resent_shows now state v h) h

  pub acknowledged_shows : (pos : ℕ) (state : EndPhase) (v : SendState) → Shows state v → Shows state (after_acknowledge pos v)
  acknowledged_shows pos state v h = by (nat_lt v.una pos && nat_le pos v.nxt)
    where
      by : (b : Bool) → Shows state (if b then record v { una = pos; records = uncovered pos v.records } else v)
      by true = record {
        plain = h.plain;
        next = h.next;
        unfinished = h.unfinished;
        pieces = uncovered_kept pos v.records h.pieces;
        known_end = h.known_end;
        same_end = h.same_end;
        heard = h.heard;
        granted = h.granted;
        fin_acked = h.fin_acked;
        sent = h.sent;
      }
      by false = h

-- an end that has sent a segment
pub sent_end : (c : Profile) (s : Side) (out back : Lane) (occasion : Occasion) (now : ℕ) (sg : PlainSegment) (e : PathEnd) → EndShows c s e out back
    → EndShows c s (having_sent occasion now sg e) out back
sent_end c s out back Occasion.Reset now sg e h = h
sent_end c s out back Occasion.Answer now sg e h = h
sent_end c s out back Occasion.SynAck now sg e h = new_sender (syn_resent_shows c s _ out now e.tcp.state e.tcp.send h.sender) h
sent_end c s out back Occasion.Ack now sg e h = h
sent_end c s out back Occasion.Probe now sg e h = h
sent_end c s out back Occasion.First now sg e h = new_sender (resent_shows c s _ out now e.tcp.state e.tcp.send h.sender) h
sent_end c s out back Occasion.Unsent now sg e h = new_sender (sent_shows c s _ out now e.tcp.state e.tcp.send h.sender) h
sent_end c s out back Occasion.Fin now sg e h = new_sender (fin_sent_shows c s _ out now e.tcp.state e.tcp.send h.sender) h
