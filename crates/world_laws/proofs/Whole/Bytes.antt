-- The bytes of what an end has sent: none lies below a position, or at one. What it sends later lies behind, so that it stays so.
use Rattle.world_laws.proofs.Words.{◌≡◌, refl, sym, ◌∙◌, ap, subst, ℕ, suc, ◌+◌, ◌≤◌, ◌&&◌, ◌==◌, nat_lt, nat_le, inl, inr, ◌⊎◌, ⊎_elim, true, false, Some}
use Rattle.world_laws.proofs.Words.{List, [], ◌∷◌, length, arith, false≢true, slice_get, sum_by-cons, sum_by, Record, SendState, after_sending, EndState}
use Rattle.world_laws.proofs.Words.{Occasion, Every-push, Every, if_so}
use Rattle.seq_units.specs.declared.mapping.Mapping.{Mapping}
use Rattle.subflow_send.specs.declared.record.Sending.{Sending}
use Rattle.subflow_send.specs.Rules as sending
use Rattle.world_laws.proofs.Lanes.Records.{every_first, every_rest, unsent_sent_kept, first_sent_kept, fin_sent_kept, expired_kept, uncovered_kept}

-- ---- where bytes lie

-- the record has no byte below the position
abbrev pub IsAbove : ℕ → Record → Type 0
IsAbove n r = (length r.piece ≡ 0) ⊎ (n ≤ r.pos)

-- none has, and positions up to there were given away
pub record NoneBelow (n : ℕ) (v : SendState) : Type 0 where
  pub reached : n ≤ v.nxt
  pub above : Every (IsAbove n) v.records

-- the record has no byte at the position
abbrev pub IsBeside : ℕ → Record → Type 0
IsBeside n r = (r.pos + length r.piece ≤ n) ⊎ (suc n ≤ r.pos)

pub record NoneAt (n : ℕ) (v : SendState) : Type 0 where
  pub reached : suc n ≤ v.nxt
  pub beside : Every (IsBeside n) v.records

-- below the next position none lies then
pub none_below_next : (n : ℕ) (v : SendState) → NoneBelow n v → NoneAt n v → NoneBelow (suc n) v
none_below_next n v below at = record { reached = at.reached; above = record { each = λ i r there. by r (below.above.each i r there) (at.beside.each i r there) } }
  where
    by : (r : Record) → IsAbove n r → IsBeside n r → IsAbove (suc n) r
    by r (inl none) beside = inl none
    by r (inr more) (inl ends) = inl (omega (arith, more, ends))
    by r (inr more) (inr behind) = inr behind

-- an acknowledgement of that position acknowledges no byte
pub none_acknowledged : (n : ℕ) (v : SendState) → NoneBelow n v → sending.newly_acknowledged n v ≡ 0
none_acknowledged n v h = by v.records h.above
  where
    one : (r : Record) → IsAbove n r → sending.octets_between v.una n r ≡ 0
    one r (inl none) = omega (arith, none)
    one r (inr more) = omega (arith, more)

    by : (rs : List Record) → Every (IsAbove n) rs → sum_by (sending.octets_between v.una n) rs ≡ 0
    by [] each = refl
    by (r ∷ rs) each = rw (sum_by-cons (sending.octets_between v.una n) r rs, one r (every_first r rs each), by rs (every_rest r rs each)) refl

-- ---- what is sent later

-- a record is one of those that were there, sent as often as may be
pub record IsOld (v : SendState) (r : Record) : Type 0 where
  pub place : ℕ
  pub it : Record
  pub there : slice_get v.records place ≡ Some it
  pub pos : r.pos ≡ it.pos
  pub kind : r.kind ≡ it.kind
  pub piece : r.piece ≡ it.piece

-- the side has what it had, and more behind it
pub record Grows (v w : SendState) : Type 0 where
  pub nxt : v.nxt ≤ w.nxt
  pub records : Every (λ r. IsOld v r ⊎ (v.nxt ≤ r.pos)) w.records

-- or no more than that
pub record Remains (v w : SendState) : Type 0 where
  pub nxt : w.nxt ≡ v.nxt
  pub records : Every (IsOld v) w.records

pub remains_grows : (v w : SendState) → Remains v w → Grows v w
remains_grows v w h = record { nxt = let same = h.nxt in omega (arith, same); records = record { each = λ i r there. inl (h.records.each i r there) } }

old_all : (v : SendState) → Every (IsOld v) v.records
old_all v = record { each = λ i r there. record { place = i; it = r; there = there; pos = refl; kind = refl; piece = refl } }

pub remains_self : (v : SendState) → Remains v v
remains_self v = record { nxt = refl; records = old_all v }

pub grows_self : (v : SendState) → Grows v v
grows_self v = remains_grows v v (remains_self v)

pub below_later : (n : ℕ) (v w : SendState) → Grows v w → NoneBelow n v → NoneBelow n w
below_later n v w g h = record {
  reached = let more = g.nxt in let low = h.reached in omega (arith, more, low);
  above = record { each = λ i r there. by r (g.records.each i r there) };
}
  where
    was : (r : Record) (old : IsOld v r) → IsAbove n old.it → IsAbove n r
    was r old (inl none) = inl (ap length old.piece ∙ none)
    was r old (inr more) = inr (subst (λ m. n ≤ m) (sym old.pos) more)

    by : (r : Record) → IsOld v r ⊎ (v.nxt ≤ r.pos) → IsAbove n r
    by r (inl old) = was r old (h.above.each old.place old.it old.there)
    by r (inr new) = inr (let low = h.reached in omega (arith, low, new))

pub at_later : (n : ℕ) (v w : SendState) → Grows v w → NoneAt n v → NoneAt n w
at_later n v w g h = record {
  reached = let more = g.nxt in let low = h.reached in omega (arith, more, low);
  beside = record { each = λ i r there. by r (g.records.each i r there) };
}
  where
    was : (r : Record) (old : IsOld v r) → IsBeside n old.it → IsBeside n r
    was r old (inl ends) = let pos = old.pos in let len = ap length old.piece in inl (omega (arith, pos, len, ends))
    was r old (inr behind) = inr (subst (λ m. suc n ≤ m) (sym old.pos) behind)

    by : (r : Record) → IsOld v r ⊎ (v.nxt ≤ r.pos) → IsBeside n r
    by r (inl old) = was r old (h.beside.each old.place old.it old.there)
    by r (inr new) = inr (let low = h.reached in omega (arith, low, new))

-- ---- what an end keeps of it

-- no record ends behind the next position, and at a FIN is no byte
pub record EndsWell (v : SendState) : Type 0 where
  pub within : Every (λ r. r.pos + length r.piece ≤ v.nxt) v.records
  pub fins : Every (λ r. sending.is_fin r.kind ≡ true → NoneAt (r.pos + length r.piece) v) v.records

pub remains_well : (v w : SendState) → Remains v w → EndsWell v → EndsWell w
remains_well v w h ends = record {
  within = record {
    each = λ i r there. let old = h.records.each i r there in
        let pos = old.pos in let len = ap length old.piece in let next = h.nxt in let le = ends.within.each old.place old.it old.there in omega (arith, pos, len, next, le);
  };
  fins = record {
    each = λ i r there is. let old = h.records.each i r there in
        at_later (r.pos + length r.piece) v w (remains_grows v w h)
        (subst (λ n. NoneAt n v) (let pos = old.pos in let len = ap length old.piece in omega (arith, pos, len))
        (ends.fins.each old.place old.it old.there (ap sending.is_fin (sym old.kind) ∙ is)));
  };
}

-- ---- what marks records, or lets go of them

module _ (v : SendState) where
  marked : (r : Record) (x : Sending) → IsOld v r → IsOld v (record r { sending = x })
  marked r x old = record { place = old.place; it = old.it; there = old.there; pos = old.pos; kind = old.kind; piece = old.piece }

  pub expired_remains : Remains v (sending.after_expired v)
  expired_remains = record { nxt = refl; records = expired_kept (IsOld v) marked v.records (old_all v) }

  resent_remains : (now : ℕ) → Remains v (sending.after_resent now v)
  resent_remains now = record { nxt = refl; records = first_sent_kept (IsOld v) marked now v.records (old_all v) }

  pub fin_sent_remains : (now : ℕ) → Remains v (sending.after_fin_sent now v)
  fin_sent_remains now = record { nxt = refl; records = fin_sent_kept (IsOld v) marked now v.records (old_all v) }

  pub acknowledged_remains : (pos : ℕ) → Remains v (sending.after_acknowledge pos v)
  acknowledged_remains pos =
      if_so (Remains v) (nat_lt v.una pos && nat_le pos v.nxt) (record v { una = pos; records = sending.uncovered pos v.records }) v
      (record { nxt = refl; records = uncovered_kept pos v.records (old_all v) }) (remains_self v)

pub sent_remains : (o : Occasion) (now : ℕ) (s : EndState) → Remains s.send (after_sending o now s).send
sent_remains Occasion.SynAck now s = if_so (Remains s.send) (s.send.una == 0) (sending.after_resent now s.send) s.send (resent_remains s.send now) (remains_self s.send)
sent_remains Occasion.First now s = resent_remains s.send now
sent_remains Occasion.Unsent now s = record { nxt = refl; records = unsent_sent_kept (IsOld s.send) (marked s.send) now s.send.records (old_all s.send) }
sent_remains Occasion.Fin now s = fin_sent_remains s.send now
sent_remains _ now s = remains_self s.send

-- ---- what is pushed

pub pushed_grows : (piece : List ℕ) (mapping : Mapping) (v : SendState) → Grows v (sending.after_push piece mapping v)
pushed_grows piece mapping v =
    record { nxt = omega arith; records = Every-push _ (record { each = λ i r there. inl ((old_all v).each i r there) }) (inr (omega arith)) }

pub pushed_well : (piece : List ℕ) (mapping : Mapping) (v : SendState) → EndsWell v → EndsWell (sending.after_push piece mapping v)
pushed_well piece mapping v h =
    let w : SendState = sending.after_push piece mapping v in
    record {
      within = Every-push _ (record { each = λ i r there. let le = h.within.each i r there in omega (arith, le) }) (omega arith);
      fins = Every-push _ (record { each = λ i r there is. at_later (r.pos + length r.piece) v w (pushed_grows piece mapping v) (h.fins.each i r there is) }) (λ is. absurd (false≢true is));
    }

finished_grows : (v : SendState) → Grows v (sending.after_finish v)
finished_grows v = record { nxt = omega arith; records = Every-push _ (record { each = λ i r there. inl ((old_all v).each i r there) }) (inr (omega arith)) }

-- where the FIN stands that comes behind all
pub finished_at : (v : SendState) → EndsWell v → NoneAt (v.nxt + 0) (sending.after_finish v)
finished_at v h = record {
  reached = omega arith;
  beside = Every-push _ (record { each = λ i r there. let le = h.within.each i r there in inl (omega (arith, le)) }) (inl (omega arith));
}

finished_well : (v : SendState) → EndsWell v → EndsWell (sending.after_finish v)
finished_well v h =
    let w : SendState = sending.after_finish v in
    record {
      within = Every-push _ (record { each = λ i r there. let le = h.within.each i r there in omega (arith, le) }) (omega arith);
      fins = Every-push _ (record { each = λ i r there is. at_later (r.pos + length r.piece) v w (finished_grows v) (h.fins.each i r there is) }) (λ is. finished_at v h);
    }

-- and is sent at once
pub fin_grows : (now : ℕ) (v : SendState) → Grows v (sending.after_fin_sent now (sending.after_finish v))
fin_grows now v =
    let w : SendState = sending.after_finish v in
    record { nxt = omega arith; records = fin_sent_kept (λ r. IsOld v r ⊎ (v.nxt ≤ r.pos)) (λ r x from. ⊎_elim (λ old. inl (marked v r x old)) (λ new. inr new) from) now w.records (finished_grows v).records }

pub fin_well : (now : ℕ) (v : SendState) → EndsWell v → EndsWell (sending.after_fin_sent now (sending.after_finish v))
fin_well now v h = let w : SendState = sending.after_finish v in remains_well w (sending.after_fin_sent now w) (fin_sent_remains w now) (finished_well v h)
