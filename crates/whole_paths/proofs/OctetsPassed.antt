-- What comes up to a position is passed: the record in which RCV.NXT lies came whole.
use Rattle.std.proofs.Common.{◌≡◌, refl, sym, subst, ap, ◌∙◌, inl, inr, ⊎_elim, ℕ, zero, suc, ◌<◌, ◌≤◌, arith, Some, List, [], ◌∷◌, map}
use Rattle.std.specs.List.{slice_get}
use Rattle.std.proofs.lemmas.Bool.{cases_lt}
use Rattle.std.proofs.lemmas.Option.{same_Some}
use Rattle.sides.specs.declared.side.Side.{Side}
use Rattle.sides.specs.Side.{peer}
use Rattle.subflow_send.specs.Records.{Record, end_of, span_of}
use Rattle.subflow_send.specs.declared.record.RecordKind.TheVariants.{Data}
use Rattle.path_core.specs.State.{PathState, end_at}
use Rattle.path_core.specs.Values.{Carried, values}
use Rattle.world_laws.specs.Members.{HoldsOfKind}
use Rattle.world_laws.specs.Openings.{Start}
use Rattle.world_laws.specs.RoundDone.{reached}
use Rattle.world_laws.specs.Worlds.{Turn}
use Rattle.whole_paths.specs.Came.{HasCome}
use Rattle.whole_paths.specs.Kept.{EndsKeepWhatWaits, IsSameRecord}
use Rattle.whole_paths.specs.Mending.{IsOpenTurn, IsRecordOf, IsThereBy}
use Rattle.whole_paths.specs.Mild.{IsMildStart}
use Rattle.whole_paths.specs.OctetsPassed.{ComesUpTo, IsInOneThatComes, OctetsArePassed}
use Rattle.whole_paths.specs.OpenCourses.{IsOpenAfter}
use Rattle.whole_paths.specs.RecordsPassed.{ComesInTime}
use Rattle.whole_paths.specs.RecordsPassed.{ComesInTime as in_time}
use Rattle.whole_paths.specs.WholeMappings.{HasRecord}
use Rattle.whole_paths.proofs.Came.{what_is_acknowledged_came}
use Rattle.whole_paths.proofs.Flying.{same_record}
use Rattle.whole_paths.proofs.Keeping.{what_waits_is_kept}
use Rattle.whole_paths.proofs.Losing.{same_end}
use Rattle.whole_paths.proofs.OpenTurns.{with_both}
use Rattle.whole_paths.proofs.Reached.{EndsAreReached, Joined, Line, each_is_reached}
use Rattle.whole_paths.proofs.RecordsInTime.{records_come_in_time}
use Rattle.whole_paths.proofs.RecordsPassed.{whole_records_are_passed}

on_so : (start : Start) (turns : List Turn) (turn : Turn) (h : IsOpenTurn start turns turn) (s : Side) (last by_then : ℕ) → ComesUpTo s last by_then h.before.path → ComesUpTo s last by_then h.after.path
on_so start turns turn h s last by_then comes pos low = ⊎_elim
    (λ below. inl (let more = (with_both start turns turn h EndsKeepWhatWaits (what_waits_is_kept values (reached values start turns) (turn ∷ []) 2 h.before.here.crew h.before.here.there) s).una in omega (arith, below, more)))
    (λ is. inr (record { one = is.one; data_is = is.data_is; begins = is.begins; ends = is.ends; comes = records_come_in_time.on start turns turn h s is.one by_then is.data_is is.comes }))
    (comes pos low)

module _ (start : Start) (turns : List Turn) (mild : IsMildStart start) (h : IsOpenAfter start turns) (over : h.path.agenda ≡ []) (s : Side) (by_then : ℕ) (early : by_then < h.path.until) where
  abbrev p : PathState Carried
  p = h.path

  abbrev edge : ℕ
  edge = (end_at (peer s) p).tcp.recv.edge

  acked : (end_at s p).tcp.send.una ≤ edge
  acked = (subst (HoldsOfKind (λ app. Unit {0}) HasCome) h.here.is ((what_is_acknowledged_came start turns).each 2 h.here.crew h.here.there)).una s (h.is_open.living s)

  has : (t : Record) → IsRecordOf (end_at s p) t → HasRecord t (end_at s p)
  has t is = record { at = is.at; item = is.item; there = is.there; holds = subst (λ (x : Record). IsSameRecord t x) (sym is.holds) (same_record t) }

  -- a record that comes in time doesn't lie around RCV.NXT
  none_around : (r : Record) → r.kind ≡ Data → r.pos ≤ edge → edge < end_of r → ComesInTime s r by_then p → ⊥
  none_around r data_is begins ends (in_time.acknowledged low) = omega (arith, low, acked, ends)
  none_around r data_is begins ends (in_time.comes t is_one same soon) =
      let kind = same.kind in let at = same.pos in
      let passed = whole_records_are_passed start turns mild h over s t (has t is_one) (same.kind ∙ data_is) (omega (arith, at, begins)) by_then early soon in let to = same_end r t same in omega (arith, passed, to, ends)

  due_so : (last : ℕ) → ComesUpTo s last by_then p → last ≤ edge
  due_so last comes = ⊎_elim
      (λ behind. absurd (⊎_elim (λ below. let low = acked in omega (arith, below, low)) (λ is. none_around is.one is.data_is is.begins is.ends is.comes) (comes edge behind)))
      (λ low. low) (cases_lt edge last)

-- ---- where such a wait begins

record IsInOneBefore (rs : List Record) (at pos : ℕ) : Type 0 where
  index : ℕ
  item : Record
  early : index < at
  there : slice_get rs index ≡ Some item
  begins : item.pos ≤ pos
  ends : pos < end_of item

-- records stand one behind another: a position before one of them lies in one before it
before_in : (nxt : ℕ) (rs : List Record) (from : ℕ) → Joined from nxt (map span_of rs) → (at : ℕ) (r : Record) → slice_get rs at ≡ Some r → (pos : ℕ) → from ≤ pos → pos < r.pos → IsInOneBefore rs at pos
before_in nxt [] from line at r there_r pos low high = cc
before_in nxt (x ∷ xs) from line zero r there_r pos low high = absurd (let is = line.0 in let same = ap (λ (t : Record). t.pos) (same_Some x r there_r) in omega (arith, is, same, low, high))
before_in nxt (x ∷ xs) from line (suc at) r there_r pos low high = ⊎_elim
    (λ inside. record { index = 0; item = x; early = omega arith; there = refl; begins = (let is = line.0 in omega (arith, is, low)); ends = inside })
    (λ past. behind (before_in nxt xs (end_of x) line.1 at r there_r pos past high))
    (cases_lt pos (end_of x))
  where
    behind : IsInOneBefore xs at pos → IsInOneBefore (x ∷ xs) (suc at) pos
    behind b = record { index = suc b.index; item = b.item; early = (let early = b.early in omega (arith, early)); there = b.there; begins = b.begins; ends = b.ends }

-- SND.UNA may lie within the first one
before_in_line : (una nxt : ℕ) (rs : List Record) → Line una nxt (map span_of rs) → (at : ℕ) (r : Record) → slice_get rs at ≡ Some r → (pos : ℕ) → una ≤ pos → pos < r.pos → IsInOneBefore rs at pos
before_in_line una nxt [] line at r there_r pos low high = cc
before_in_line una nxt (x ∷ xs) line zero r there_r pos low high = absurd (let is = line.0 in let same = ap (λ (t : Record). t.pos) (same_Some x r there_r) in omega (arith, is, same, low, high))
before_in_line una nxt (x ∷ xs) line (suc at) r there_r pos low high = ⊎_elim
    (λ inside. record { index = 0; item = x; early = omega arith; there = refl; begins = (let is = line.0 in omega (arith, is, low)); ends = inside })
    (λ past. behind (before_in nxt xs (end_of x) line.2 at r there_r pos past high))
    (cases_lt pos (end_of x))
  where
    behind : IsInOneBefore xs at pos → IsInOneBefore (x ∷ xs) (suc at) pos
    behind b = record { index = suc b.index; item = b.item; early = (let early = b.early in omega (arith, early)); there = b.there; begins = b.begins; ends = b.ends }

begins_so : (start : Start) (turns : List Turn) (h : IsOpenAfter start turns) (s : Side) (by_then at : ℕ) (r : Record) → slice_get (end_at s h.path).tcp.send.records at ≡ Some r
    → ((i : ℕ) (t : Record) → i < at → slice_get (end_at s h.path).tcp.send.records i ≡ Some t → (t.kind ≡ Data) × IsThereBy s t by_then h.path) → ComesUpTo s r.pos by_then h.path
begins_so start turns h s by_then at r there_r each pos low = ⊎_elim (λ below. inl below)
    (λ above. inr (one (before_in_line (end_at s h.path).tcp.send.una (end_at s h.path).tcp.send.nxt (end_at s h.path).tcp.send.records lined at r there_r pos above low)))
    (cases_lt pos (end_at s h.path).tcp.send.una)
  where
    lined : Line (end_at s h.path).tcp.send.una (end_at s h.path).tcp.send.nxt (map span_of (end_at s h.path).tcp.send.records)
    lined = ((subst (HoldsOfKind (λ app. Unit {0}) EndsAreReached) h.here.is ((each_is_reached values start turns).each 2 h.here.crew h.here.there)) s).lined.line

    one : IsInOneBefore (end_at s h.path).tcp.send.records at pos → IsInOneThatComes s pos by_then h.path
    one b = record {
      one = b.item;
      data_is = (each b.index b.item b.early b.there).0;
      begins = b.begins;
      ends = b.ends;
      comes = in_time.comes b.item (record { at = b.index; item = b.item; there = b.there; holds = refl }) (same_record b.item) (each b.index b.item b.early b.there).1;
    }

pub octets_are_passed : OctetsArePassed
octets_are_passed = record { begins = begins_so; on = on_so; due = λ start turns mild h over s last by_then early comes. due_so start turns mild h over s by_then early last comes }
