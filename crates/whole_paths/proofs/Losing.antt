-- No more records of a side may be lost than before, but one for a segment that is harmed.
use Rattle.std.proofs.Common.{◌≡◌, refl, sym, subst, ap, ◌∙◌, ◌⊎◌, inl, inr, ⊎_elim, ℕ, suc, ◌+◌, ◌<◌, ◌≤◌, arith, Bool, true, false, true≢false, Option, Some, None, List, [], ◌∷◌, ◌++◌, length}
use Rattle.std.specs.Prelude.{IfSome}
use Rattle.std.specs.List.{slice_get}
use Rattle.sides.specs.declared.side.Side.{Side}
use Rattle.path_segments.specs.Spelled.{PlainSegment}
use Rattle.stream_lanes.specs.Words.{Has}
use Rattle.subflow_send.specs.declared.record.RecordKind.{RecordKind}
use Rattle.subflow_send.specs.declared.record.RecordKind.TheVariants as kinds
use Rattle.subflow_send.specs.Records.{Record, end_of}
use Rattle.subflow_tcp.specs.declared.handshake.State.{State as EndPhase}
use Rattle.subflow_tcp.specs.declared.handshake.State.TheVariants as phase
use Rattle.subflow_tcp.specs.States.{is_dead}
use Rattle.path_core.specs.End.{PathEnd}
use Rattle.path_core.specs.Looking.{first_sends, segment_sent}
use Rattle.path_core.specs.State.{PathState, end_at}
use Rattle.path_core.specs.Values.{Carried, values}
use Rattle.world_laws.proofs.Numbers.TellSmall.{RecordKindTells}
use Rattle.world_laws.specs.RoundDone.{reached}
use Rattle.world_laws.specs.Worlds.{WorldState}
use Rattle.whole_paths.specs.Answered.{AcksGoFirst, IsBareAck}
use Rattle.whole_paths.specs.Answered.{IsBareAck as bare}
use Rattle.whole_paths.specs.AsFar.{stage}
use Rattle.whole_paths.specs.Exchanges.{IsSentWhole}
use Rattle.whole_paths.specs.Expiries.{IsSegmentOf}
use Rattle.whole_paths.specs.Finish.{is_harmed}
use Rattle.whole_paths.specs.Kept.{IsSameRecord}
use Rattle.whole_paths.specs.Mending.{ComesBy, IsAllThereOf, IsRecordOf, IsThereBy, IsWell, RecordsStayWell, WasSent}
use Rattle.whole_paths.specs.Mending.{IsThereBy as there_by}
use Rattle.whole_paths.specs.Mending.{IsWell as is_well}
use Rattle.whole_paths.specs.News.{one_if}
use Rattle.whole_paths.specs.RecordsGo.{GoesNext, IsOneSo, PathsGoAlone, RecordsGoAlone}
use Rattle.whole_paths.specs.Unmended.{AreWellBut, HarmsAloneLoseRecords, LosesNoMore}
use Rattle.whole_paths.proofs.DataLeft.{EndsAreBegun, each_is_begun}
use Rattle.whole_paths.proofs.Exchanges.{Shown, each_shown}
use Rattle.whole_paths.proofs.Flying.{same_said, same_segment}
use Rattle.whole_paths.proofs.OpenTurns.{of_after, of_before, with_both}
use Rattle.whole_paths.proofs.Owing.{copies_are_answered}
use Rattle.whole_paths.proofs.RecordsGo.{each_record_goes_alone}
use Rattle.whole_paths.proofs.RecordsWell.{each_record_stays_well}

-- ---- the same record

pub back : (r t : Record) → IsSameRecord r t → IsSameRecord t r
back r t x = record { pos = sym x.pos; kind = sym x.kind; piece = sym x.piece; mapping = sym x.mapping }

pub same_end : (r t : Record) → IsSameRecord r t → end_of t ≡ end_of r
same_end r t x = rw (x.pos, x.kind, x.piece) refl

module _ (s : Side) (r t : Record) (same : IsSameRecord r t) (p : PathState Carried) where
  pub all_there : IsAllThereOf s r p → IsAllThereOf s t p
  all_there h pos from low = h pos (let at = same.pos in omega (arith, at, from)) (let end = same_end r t same in omega (arith, end, low))

  but_sendings : t ≡ record r { sending = t.sending }
  but_sendings = rw (sym same.pos, sym same.kind, sym same.piece, sym same.mapping) refl

  pub sent_whole : (e : PathEnd) (stripped altered : Bool) → IsSentWhole p.profile s r e stripped altered → IsSentWhole p.profile s t e stripped altered
  sent_whole e stripped altered h = subst (λ x. IsSentWhole p.profile s x e stripped altered) (sym but_sendings) (record {
    mapped = record {
      kind = h.mapped.kind;
      some = h.mapped.some;
      behind_syn = h.mapped.behind_syn;
      short = h.mapped.short;
      whole = h.mapped.whole;
      low = h.mapped.low;
      mapped = h.mapped.mapped;
      finite = h.mapped.finite;
      few = h.mapped.few;
      told = h.mapped.told;
    };
    acknowledges = h.acknowledges;
    edge = h.edge;
    unstripped = h.unstripped;
    unaltered = h.unaltered;
  })

  pub comes_so : (first later : ℕ) → first ≤ later → ComesBy s r first p → ComesBy s t later p
  comes_so first later low h = record {
    copy = h.copy;
    there = h.there;
    of_it = record {
      to = h.of_it.to;
      segment = h.of_it.segment;
      of_it = same_segment t r h.of_it.segment (back r t same) h.of_it.of_it;
      sender = h.of_it.sender;
      says = same_said p.profile s h.of_it.sender t r h.of_it.segment (back r t same) h.of_it.says;
      stripped = h.of_it.stripped;
      altered = h.of_it.altered;
      whole = h.of_it.whole;
      plain = h.of_it.plain;
      carried = h.of_it.carried;
    };
    whole = sent_whole h.of_it.sender h.of_it.stripped h.of_it.altered h.whole;
    soon = (let soon = h.soon in omega (arith, soon, low));
  }

  pub there_so : (first later : ℕ) → first ≤ later → IsThereBy s r first p → IsThereBy s t later p
  there_so first later low (there_by.there h) = there_by.there (all_there h)
  there_so first later low (there_by.comes h) = there_by.comes (comes_so first later low h)

-- ---- what is harmed

-- what holds of each, and of one
both_so : {X : Type 0} (o : Option X) (P Q : X → Type 0) → IfSome o P → IsOneSo o Q → (x : X) × P x × Q x
both_so None P Q each one = absurd one
both_so (Some x) P Q each one = (x, each, one)

-- where a segment is harmed the record that it is of may be lost
abbrev pub lost_then : {X : Type 0} → (X → ℕ) → Bool → Option X → List ℕ → List ℕ
lost_then at false o lost = lost
lost_then at true None lost = lost
lost_then at true (Some x) lost = at x ∷ lost

pub few_lost : {X : Type 0} (at : X → ℕ) (b : Bool) (o : Option X) (lost : List ℕ) → length (lost_then at b o lost) ≤ length lost + one_if b
few_lost at false o lost = omega arith
few_lost at true None lost = omega arith
few_lost at true (Some x) lost = omega arith

pub still_lost : {X : Type 0} (at : X → ℕ) (b : Bool) (o : Option X) (lost : List ℕ) (n : ℕ) → Has (λ m. m ≡ n) lost → Has (λ m. m ≡ n) (lost_then at b o lost)
still_lost at false o lost n h = h
still_lost at true None lost n h = h
still_lost at true (Some x) lost n h = record { at = suc h.at; item = h.item; there = h.there; holds = h.holds }

pub lost_here : {X : Type 0} (at : X → ℕ) (o : Option X) (lost : List ℕ) (n : ℕ) (Q : X → Type 0) → ((x : X) → Q x → at x ≡ n) → IsOneSo o Q → Has (λ m. m ≡ n) (lost_then at true o lost)
lost_here at None lost n Q is one = absurd one
lost_here at (Some x) lost n Q is one = record { at = 0; item = at x; there = refl; holds = is x one }

-- ---- a turn of a path

module _ (s : Side) (p q : PathState Carried) (records : RecordsStayWell s p q) (alone : RecordsGoAlone p q) (acks : AcksGoFirst p)
    (living : is_dead (end_at s p).tcp.state ≡ false) (some : 0 < (end_at s p).tcp.send.una)
    (filled : (t : Record) → IsRecordOf (end_at s q) t → t.kind ≡ kinds.Data → 0 < length t.piece) where
  -- a record that was sent before
  before : (lost : List ℕ) → AreWellBut s lost p → (t : Record) → t.kind ≡ kinds.Data → WasSent (end_at s p) t → IsWell s q t ⊎ Has (λ n. n ≡ t.pos) lost
  before lost well t data_is was = by (well r was.there)
    where
      r : Record
      r = was.record_before

      kind : r.kind ≡ kinds.Data
      kind = sym was.same.kind ∙ data_is

      by : IsWell s p r ⊎ Has (λ n. n ≡ r.pos) lost → IsWell s q t ⊎ Has (λ n. n ≡ t.pos) lost
      by (inl (is_well.other none)) = absurd (none kind)
      by (inl (is_well.unsent is)) = absurd (true≢false (sym is ∙ was.sent))
      by (inl (is_well.sent h)) = inl (is_well.sent (there_so s r t was.same q (p.clock + 400) (q.clock + 400) (let up = records.clock in omega (arith, up)) (records.comes r (p.clock + 400) was.there kind h)))
      by (inr h) = inr (record { at = h.at; item = h.item; there = h.there; holds = h.holds ∙ sym was.same.pos })

  -- each record, by what is known of those of data that were sent
  by_kind : (lost : List ℕ) → ((t : Record) → IsRecordOf (end_at s q) t → t.kind ≡ kinds.Data → t.sending.unsent ≡ false → IsWell s q t ⊎ Has (λ n. n ≡ t.pos) lost) → AreWellBut s lost q
  by_kind lost sent t h = by t.kind refl
    where
      no_data : (k : RecordKind) → t.kind ≡ k → (k ≡ kinds.Data → ⊥) → IsWell s q t
      no_data k is apart = is_well.other (λ data_is. apart (sym is ∙ data_is))

      by : (k : RecordKind) → t.kind ≡ k → IsWell s q t ⊎ Has (λ n. n ≡ t.pos) lost
      by kinds.Syn is = inl (no_data kinds.Syn is (λ same. cc))
      by kinds.Fin is = inl (no_data kinds.Fin is (λ same. cc))
      by kinds.Data is = by_mark t.sending.unsent refl
        where
          by_mark : (b : Bool) → t.sending.unsent ≡ b → IsWell s q t ⊎ Has (λ n. n ≡ t.pos) lost
          by_mark true unsent = inl (is_well.unsent unsent)
          by_mark false gone = sent t h is gone

  -- an end that owes an acknowledgement sends no record
  none_goes : (end_at s p).tcp.due.ack ≡ true → (t : Record) → IsRecordOf (end_at s q) t → t.kind ≡ kinds.Data → GoesNext s t p → ⊥
  none_goes due t h data_is goes = let one = both_so (first_sends p.agenda p) _ _ (acks s living due) goes in by (segment_sent p one.0) (one.1 one.2.0) one.2.1
    where
      by : (x : PlainSegment) → IsBareAck p.profile s (end_at s p) x → IsSegmentOf t x → ⊥
      by x (bare.acks is) of_it =
          let none : length x.payload ≡ 0 = ap (λ (y : PlainSegment). length y.payload) is in
          let full = filled t h data_is in
          let same : length x.payload ≡ length t.piece = ap (λ (o : List ℕ). length o) of_it.payload in omega (arith, none, full, same)
      by x (bare.resets is) of_it = true≢false (sym is ∙ of_it.rst)

  quiet_records : (end_at s p).tcp.due.ack ≡ true → (lost : List ℕ) → AreWellBut s lost p → AreWellBut s lost q
  quiet_records due lost well = by_kind lost (λ t h data_is sent. ⊎_elim (λ was. before lost well t data_is was) (λ goes. absurd (none_goes due t h data_is goes)) (alone s some t h data_is sent))

  -- where the segment that goes is
  abbrev after_harm : Bool → List ℕ → List ℕ
  after_harm b lost = lost_then (λ x. (segment_sent p x).position) b (first_sends p.agenda p) lost

  records_on : (lost : List ℕ) → AreWellBut s lost p → AreWellBut s (after_harm (is_harmed s p q) lost) q
  records_on lost well = by_kind _ each
    where
      after : List ℕ
      after = after_harm (is_harmed s p q) lost

      old : (t : Record) → t.kind ≡ kinds.Data → WasSent (end_at s p) t → IsWell s q t ⊎ Has (λ n. n ≡ t.pos) after
      old t data_is was = ⊎_elim (λ is. inl is) (λ h. inr (still_lost (λ x. (segment_sent p x).position) (is_harmed s p q) (first_sends p.agenda p) lost t.pos h)) (before lost well t data_is was)

      is_lost : (t : Record) → GoesNext s t p → is_harmed s p q ≡ true → Has (λ n. n ≡ t.pos) after
      is_lost t goes harmed = subst (λ b. Has (λ n. n ≡ t.pos) (after_harm b lost)) (sym harmed)
          (lost_here (λ x. (segment_sent p x).position) (first_sends p.agenda p) lost t.pos _ (λ x one. one.1.position) goes)

      each : (t : Record) → IsRecordOf (end_at s q) t → t.kind ≡ kinds.Data → t.sending.unsent ≡ false → IsWell s q t ⊎ Has (λ n. n ≡ t.pos) after
      each t h data_is sent = ⊎_elim (λ was. old t data_is was) new (alone s some t h data_is sent)
        where
          new : GoesNext s t p → IsWell s q t ⊎ Has (λ n. n ≡ t.pos) after
          new goes = ⊎_elim
              (λ was. old t data_is was)
              (λ x. ⊎_elim
              (λ harmed. inr (is_lost t goes harmed))
              (λ comes. inl (is_well.sent (there_so s t t (record { pos = refl; kind = refl; piece = refl; mapping = refl }) q (p.clock + 400) (q.clock + 400) (let up = records.clock in omega (arith, up)) comes)))
              x)
              (records.sent t h data_is sent)

  pub loses_no_more : LosesNoMore s p q
  loses_no_more = record {
    unharmed = λ unharmed lost well. subst (λ b. AreWellBut s (after_harm b lost) q) unharmed (records_on lost well);
    owing = quiet_records;
    one_more = λ lost well. (after_harm (is_harmed s p q) lost, few_lost (λ x. (segment_sent p x).position) (is_harmed s p q) (first_sends p.agenda p) lost, records_on lost well);
  }

-- ---- a turn of a connection

pub living_low : (state : EndPhase) → is_dead state ≡ false → stage state ≤ 6
living_low phase.Dead living = absurd (true≢false living)
living_low _ living = omega arith

-- a record of data has bytes
pub data_filled : (s : Side) (x : PathState Carried) → Shown x → (t : Record) → IsRecordOf (end_at s x) t → t.kind ≡ kinds.Data → 0 < length t.piece
data_filled s x shown t has data_is =
    let there : slice_get (end_at s x).tcp.send.records has.at ≡ Some t = subst (λ y. slice_get (end_at s x).tcp.send.records has.at ≡ Some y) has.holds has.there in
    let mapped : RecordKindTells x.profile s kinds.Data t = subst (λ k. RecordKindTells x.profile s k t) data_is ((shown.tells s).sender.records.each has.at t there).mapped in
    let octets = mapped.0 in let whole = mapped.4 in omega (arith, octets, whole)

pub harms_alone_lose_records : HarmsAloneLoseRecords
harms_alone_lose_records start turns turn h s = loses_no_more s p q (each_record_stays_well start turns turn h s) alone acks (h.before.is_open.living s) some filled
  where
    p : PathState Carried
    p = h.before.path

    q : PathState Carried
    q = h.after.path

    w : WorldState Carried
    w = reached values start turns

    alone : RecordsGoAlone p q
    alone = with_both start turns turn h PathsGoAlone (each_record_goes_alone values w turn 2 h.before.here.crew h.before.here.there)

    acks : AcksGoFirst p
    acks = of_before start turns turn h AcksGoFirst ((copies_are_answered values start turns).first 2 h.before.here.crew h.before.here.there)

    begun : EndsAreBegun p
    begun = of_before start turns turn h EndsAreBegun ((each_is_begun values start turns).each 2 h.before.here.crew h.before.here.there)

    some : 0 < (end_at s p).tcp.send.una
    some = let one = (begun s).past (h.before.is_open.past s) (living_low (end_at s p).tcp.state (h.before.is_open.living s)) in omega (arith, one)

    shown : Shown q
    shown = of_after start turns turn h Shown (each_shown start (turns ++ turn ∷ []) h.mild.plain.size h.mild.fit 2 h.after.here.crew h.after.here.there)

    filled : (t : Record) → IsRecordOf (end_at s q) t → t.kind ≡ kinds.Data → 0 < length t.piece
    filled t has data_is = data_filled s q shown t has data_is
