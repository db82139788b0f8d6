-- A Data ACK is heard: what it acknowledges of the own stream.
use Rattle.clean_finish.proofs.Words.{◌≡◌, refl, sym, subst, ap, ◌∙◌, ℕ, ◌+◌, ◌-◌, ◌<◌, ◌≤◌, min, max, nat_lt, Bool, true, false, cond, not, ◌&&◌, ◌||◌}
use Rattle.clean_finish.proofs.Words.{if◌then◌else◌, ◌⊎◌, inl, inr, ⊎_elim, Option, None, List, [], ◌∷◌, ◌++◌, length, map, filter, All, arith, cases_lt}
use Rattle.clean_finish.proofs.Words.{lt-ltb, le-ltb, ltb-false, All-nil, All-cons, All-head, All-tail, list_any, Side, fin_after, after_ack, is_future, Record}
use Rattle.clean_finish.proofs.Words.{one_if, GrantedPiece, is_newly_heard, is_open, Duty, Profile, PathEnd, after_acked, is_data_fin_news, covered_by, Setting}
use Rattle.clean_finish.proofs.Words.{Copy, Lane, all_left, Sender, Going, Covers, may_tell, In, seen_timer, Hand, EndIs, HeardIs, IsGranted, last_told}
use Rattle.clean_finish.proofs.Words.{row_seen, brings_still, Waits, tells_in, AreSpans, WaitsSyn, WaitsNone, WaitsBytes, Sent, Keys, copy_in, AcknowledgesAs}
use Rattle.clean_finish.proofs.Words.{IsSetting, Facing, Half}
use Rattle.path_core.specs.Sending.{Sending}
use Rattle.path_core.specs.DataFin.{is_news}
use Rattle.clean_finish.proofs.Acknowledged.{out_after as out_heard, hears_on}
use Rattle.clean_finish.proofs.Dropping.{is_waited}
use Rattle.clean_finish.proofs.Hands.{in_hand}
use Rattle.clean_finish.proofs.Quiet.{now_out}
use Rattle.clean_finish.proofs.Raised.{Emits}
use Rattle.clean_finish.proofs.Spans.{some_news, spans_acked, spans_to}

or_true : (b : Bool) → (b || true) ≡ true
or_true true = refl
or_true false = refl

or_false : (b : Bool) → (b || false) ≡ b
or_false true = refl
or_false false = refl

is_sent : (b : Bool) → 1 ≤ one_if b → b ≡ true
is_sent true e = refl
is_sent false e = absurd (omega (arith, e))

rest_now : (a b : Bool) (o : Option ℕ) → seen_timer (a || (b || true)) o ≡ None
rest_now true b o = refl
rest_now false true o = refl
rest_now false false o = refl

-- pieces that aren't acknowledged whole
granted_acked : (out later : Sender) (waiting : ℕ) → later.granted ≡ out.granted → (ps : List GrantedPiece) → All (IsGranted out waiting) ps
    → All (IsGranted later waiting) (filter (is_open later.acked) ps)
granted_acked out later waiting same [] all = All-nil (IsGranted later waiting)
granted_acked out later waiting same (p ∷ ps) all =
    by (granted_acked out later waiting same ps (All-tail (IsGranted out waiting) p ps all)) (All-head (IsGranted out waiting) p ps all) (cases_lt later.acked p.to)
  where
    up : {to g : ℕ} → later.granted ≡ g → to ≤ g + waiting → to ≤ later.granted + waiting
    up is less = omega (arith, is, less)

    by : All (IsGranted later waiting) (filter (is_open later.acked) ps) → IsGranted out waiting p → (later.acked < p.to) ⊎ (p.to ≤ later.acked)
        → All (IsGranted later waiting) (cond (nat_lt later.acked p.to) (p ∷ filter (is_open later.acked) ps) (filter (is_open later.acked) ps))
    by rest is (inl more) = subst (λ (b : Bool). All (IsGranted later waiting) (cond b (p ∷ filter (is_open later.acked) ps) (filter (is_open later.acked) ps))) (sym (lt-ltb later.acked p.to more))
        (All-cons (IsGranted later waiting) p (filter (is_open later.acked) ps) (record { waits = more; within = up same is.within }) rest)
    by rest is (inr less) = subst (λ (b : Bool). All (IsGranted later waiting) (cond b (p ∷ filter (is_open later.acked) ps) (filter (is_open later.acked) ps))) (sym (le-ltb later.acked p.to less)) rest

-- nothing is new below what was acknowledged
none_new : (acked next : ℕ) (ps : List GrantedPiece) → next ≤ acked → list_any (is_newly_heard acked next) ps ≡ false
none_new acked next [] less = refl
none_new acked next (p ∷ ps) less = by (none_new acked next ps less)
  where
    low : (from : ℕ) → next ≤ acked → next ≤ max from acked
    low from p = omega (arith, p)

    by : list_any (is_newly_heard acked next) ps ≡ false → list_any (is_newly_heard acked next) (p ∷ ps) ≡ false
    by rest = ap (λ (b : Bool). b || list_any (is_newly_heard acked next) ps) (le-ltb (max p.from acked) next (low p.from less)) ∙ rest

module _ {s : Side} {keys : Keys} {k j : Setting} {c : Profile} {begun begun_back : Lane} {m n : Half} {clock until : ℕ} (ticks t u : ℕ)
    (k_is : IsSetting c ticks k) (j_is : IsSetting c ticks j)
    (going : Going k begun t all_left begun) (going_back : Going j begun_back u all_left begun_back)
    {d : Duty} {ds : List Duty} (h : Facing s keys k j c begun begun_back m n clock until (d ∷ ds)) (free : is_waited d ≡ false) (there : Emits s ds)
    (x : Sent) (brings : Bool) (hand : h.hand ≡ in_hand x brings true)
  where
    pub lane : Going k begun t h.stage h.out
    lane = now_out ticks t u k_is j_is going going_back h

    abbrev pub out_after : Lane
    out_after = out_heard h free there x brings hand

    pub covers : Covers (may_tell k h.out) x.telling
    covers = lane.under_way.acks_are (copy_in x) (subst (λ (cs : List Copy). In (copy_in x) cs)
        (sym (h.way_back.acks_are ∙ ap (λ (o : Option Hand). map copy_in (tells_in o ++ h.way_back.sent)) hand)) (inl refl))

    -- the Data ACK isn't ahead of what was written
    pub now : is_future x.telling.next m.send ≡ false
    now = le-ltb (length m.send.written + (if m.send.closed then 1 else 0)) x.telling.next (by m.send.closed refl)
      where
        shut : {next r g w len : ℕ} (dfc total : ℕ) → next ≤ r + min dfc ((r + 1) - total) → r ≤ g → g ≤ w → w ≡ len → w ≤ total → next ≤ len + 1
        shut dfc total p q z is most = omega (arith, p, q, z, is, most)

        open_yet : {next r dfc dfs known closed g w len : ℕ} (total : ℕ) → next ≤ r + min dfc ((r + 1) - total) → dfc ≤ dfs → dfs ≤ known → known ≤ closed → closed ≡ 0
            → r ≤ g → g ≤ w → w ≡ len → next ≤ len + 0
        open_yet total p a b e z q y is = omega (arith, p, a, b, e, z, q, y, is)

        by : (b : Bool) → m.send.closed ≡ b → x.telling.next ≤ length m.send.written + (if m.send.closed then 1 else 0)
        by true e = subst (λ (b : Bool). x.telling.next ≤ length m.send.written + (if b then 1 else 0)) (sym e)
            (shut h.out.data_fin_came k.total covers.0 lane.numbers.received lane.numbers.granted h.apps.writes.numbers.bytes lane.numbers.written)
        by false e = subst (λ (b : Bool). x.telling.next ≤ length m.send.written + (if b then 1 else 0)) (sym e)
            (open_yet k.total covers.0 lane.numbers.data_fin_came lane.numbers.data_fin_sent lane.numbers.known (h.apps.writes.numbers.shut ∙ ap one_if e)
            lane.numbers.received lane.numbers.granted h.apps.writes.numbers.bytes)

    pub few : min x.telling.next (length m.send.marks) ≤ h.out.granted + h.waiting
    few = low h.waiting h.out.data_fin_came covers.0 lane.numbers.received lane.numbers.granted lane.numbers.written h.apps.book.marks h.apps.writes.numbers.bytes
      where
        low : {next marks len r total g w : ℕ} (waits dfc : ℕ) → next ≤ r + min dfc ((r + 1) - total) → r ≤ g → g ≤ w → w ≤ total → marks ≡ len → w ≡ len
            → min next marks ≤ g + waits
        low waits dfc p q y z a b = omega (arith, p, q, y, z, a, b)

    abbrev pub fin : Bool
    fin = fin_after x.telling.next m.send

    abbrev pub sending_after : Sending
    sending_after = after_acked x.telling.next fin m.end.sending

    abbrev pub end_after : PathEnd
    end_after = record m.end {
      sending = sending_after;
      modes = covered_by x.telling.next m.end.modes;
      treated = record m.end.treated { data_ack_taken = true };
    }

    -- ---- the end of the stream

    low_written : length m.send.written ≤ k.total
    low_written = up h.apps.writes.numbers.bytes lane.numbers.written
      where
        up : {w len total : ℕ} → w ≡ len → w ≤ total → len ≤ total
        up is less = omega (arith, is, less)

    fin_beyond : k.total < x.telling.next → fin ≡ true
    fin_beyond more = ap (λ (b : Bool). m.send.fin || b) (lt-ltb (length m.send.written) x.telling.next (up low_written more)) ∙ or_true m.send.fin
      where
        up : {w total next : ℕ} → w ≤ total → total < next → w < next
        up p q = omega (arith, p, q)

    fin_below : x.telling.next ≤ k.total → h.out.acked ≤ k.total → fin ≡ false
    fin_below less under = ap (λ (b : Bool). b || nat_lt (length m.send.written) x.telling.next) (none m.send.fin refl)
        ∙ le-ltb (length m.send.written) x.telling.next (by m.send.closed refl)
      where
        none : (b : Bool) → m.send.fin ≡ b → b ≡ false
        none false e = refl
        none true e = absurd (over (h.apps.fin e) under)
          where
            over : {a total : ℕ} → total < a → a ≤ total → ⊥
            over p q = absurd (omega (arith, p, q))

        whole_of : {w r total next : ℕ} → w + r ≡ total → r ≡ 0 → next ≤ total → next ≤ w
        whole_of p q z = omega (arith, p, q, z)

        low : {w next : ℕ} → next ≤ w + 0 → next ≤ w
        low p = omega (arith, p)

        by : (b : Bool) → m.send.closed ≡ b → x.telling.next ≤ length m.send.written
        by true e = whole_of h.apps.writes.numbers.file (ap (λ (xs : List ℕ). length xs) (h.apps.writes.numbers.whole e)) less
        by false e = low (ltb-false (length m.send.written + 0) x.telling.next
            (subst (λ (b : Bool). nat_lt (length m.send.written + (if b then 1 else 0)) x.telling.next ≡ false) e now))

    own_below : h.out.acked ≤ k.total → m.end.sending.close.own_acked ≡ false
    own_below less = h.own.sending.acked ∙ le-ltb k.total h.out.acked less

    acked_is : (m.end.sending.close.own_acked || fin) ≡ nat_lt k.total (max h.out.acked x.telling.next)
    acked_is = ⊎_elim
        (λ more. ap (λ (b : Bool). m.end.sending.close.own_acked || b) (fin_beyond more) ∙ (or_true m.end.sending.close.own_acked ∙ sym (lt-ltb k.total (max h.out.acked x.telling.next) (right h.out.acked more))))
        (λ less. ⊎_elim
        (λ over. ap (λ (b : Bool). b || fin) (h.own.sending.acked ∙ lt-ltb k.total h.out.acked over) ∙ sym (lt-ltb k.total (max h.out.acked x.telling.next) (left x.telling.next over)))
        (λ under. ap (λ (b : Bool). b || fin) (own_below under) ∙ (fin_below less under ∙ sym (le-ltb k.total (max h.out.acked x.telling.next) (both less under))))
        (cases_lt k.total h.out.acked))
        (cases_lt k.total x.telling.next)
      where
        right : {total next : ℕ} (a : ℕ) → total < next → total < max a next
        right a p = omega (arith, p)

        left : {total a : ℕ} (next : ℕ) → total < a → total < max a next
        left next p = omega (arith, p)

        both : {total a next : ℕ} → next ≤ total → a ≤ total → max a next ≤ total
        both p q = omega (arith, p, q)

    -- ---- the timer

    module _ (waiting : h.waiting ≡ 0) where
      beyond : h.out.granted + h.waiting < x.telling.next → k.total < x.telling.next
      beyond more = up h.out.data_fin_came k.total covers.0 lane.numbers.received waiting more
        where
          up : {next r g w : ℕ} (dfc total : ℕ) → next ≤ r + min dfc ((r + 1) - total) → r ≤ g → w ≡ 0 → g + w < next → total < next
          up dfc total p q is z = omega (arith, p, q, is, z)

      sent_fin : k.total < x.telling.next → 1 ≤ h.out.data_fin_sent
      sent_fin more = up covers.0 lane.numbers.received lane.numbers.granted lane.numbers.written lane.numbers.data_fin_came more
        where
          up : {next r dfc total g w dfs : ℕ} → next ≤ r + min dfc ((r + 1) - total) → r ≤ g → g ≤ w → w ≤ total → dfc ≤ dfs → total < next → 1 ≤ dfs
          up p q y v z e = omega (arith, p, q, y, v, z, e)

      low_next : x.telling.next ≤ k.total + 1
      low_next = up h.out.data_fin_came covers.0 lane.numbers.received lane.numbers.granted lane.numbers.written
        where
          up : {next r total g w : ℕ} (dfc : ℕ) → next ≤ r + min dfc ((r + 1) - total) → r ≤ g → g ≤ w → w ≤ total → next ≤ total + 1
          up dfc p q y v = omega (arith, p, q, y, v)

      news_is : h.out.acked < x.telling.next → is_news x.telling.next fin m.end.sending ≡ true
      news_is less = ap (λ (a : ℕ). list_any (is_newly_heard a x.telling.next) m.end.sending.granted || is_data_fin_news fin m.end.sending) h.own.sending.heard
          ∙ by (cases_lt (h.out.granted + h.waiting) x.telling.next)
        where
          under : {a next total : ℕ} → a < next → next ≤ total + 1 → a ≤ total
          under p q = omega (arith, p, q)

          all_three : (a b e : Bool) → a ≡ true → b ≡ true → e ≡ false → (a && (b && not e)) ≡ true
          all_three a b e p q r = rw (p, q, r) refl

          by : (h.out.granted + h.waiting < x.telling.next) ⊎ (x.telling.next ≤ h.out.granted + h.waiting)
              → (list_any (is_newly_heard h.out.acked x.telling.next) m.end.sending.granted || is_data_fin_news fin m.end.sending) ≡ true
          by (inr within) = ap (λ (b : Bool). b || is_data_fin_news fin m.end.sending) (some_news m.end.sending.granted h.out.acked (h.out.granted + h.waiting) x.telling.next h.own.sending.spans less within)
          by (inl past) = ap (λ (b : Bool). list_any (is_newly_heard h.out.acked x.telling.next) m.end.sending.granted || b)
              (all_three fin m.end.sending.fin_sent m.end.sending.close.own_acked (fin_beyond (beyond past))
              (is_sent m.end.sending.fin_sent (subst (λ (a : ℕ). 1 ≤ a) h.own.sending.data_fin (sent_fin (beyond past))))
              (own_below (under less low_next)))
              ∙ or_true (list_any (is_newly_heard h.out.acked x.telling.next) m.end.sending.granted)

      old_is : x.telling.next ≤ h.out.acked → is_news x.telling.next fin m.end.sending ≡ false
      old_is less = ap (λ (a : ℕ). list_any (is_newly_heard a x.telling.next) m.end.sending.granted || is_data_fin_news fin m.end.sending) h.own.sending.heard
          ∙ (ap (λ (b : Bool). b || is_data_fin_news fin m.end.sending) (none_new h.out.acked x.telling.next m.end.sending.granted less) ∙ by (cases_lt k.total h.out.acked))
        where
          low : {a next total : ℕ} → next ≤ a → a ≤ total → next ≤ total
          low p q = omega (arith, p, q)

          not_over : (a b : Bool) → (a && (b && false)) ≡ false
          not_over true true = refl
          not_over true false = refl
          not_over false b = refl

          by : (k.total < h.out.acked) ⊎ (h.out.acked ≤ k.total) → is_data_fin_news fin m.end.sending ≡ false
          by (inl over) = ap (λ (b : Bool). fin && (m.end.sending.fin_sent && not b)) (h.own.sending.acked ∙ lt-ltb k.total h.out.acked over) ∙ not_over fin m.end.sending.fin_sent
          by (inr under) = ap (λ (b : Bool). b && (m.end.sending.fin_sent && not m.end.sending.close.own_acked)) (fin_below (low less under) under)

      timer_is : cond (nat_lt h.out.acked x.telling.next) None h.out.timer ≡ seen_timer (m.end.tcp.timing.news || sending_after.news) m.end.tcp.timing.timer
      timer_is = ⊎_elim
          (λ less. ap (λ (b : Bool). cond b None h.out.timer) (lt-ltb h.out.acked x.telling.next less)
          ∙ sym (ap (λ (b : Bool). seen_timer (m.end.tcp.timing.news || (m.end.sending.news || b)) m.end.tcp.timing.timer) (news_is less)
          ∙ rest_now m.end.tcp.timing.news m.end.sending.news m.end.tcp.timing.timer))
          (λ less. ap (λ (b : Bool). cond b None h.out.timer) (le-ltb h.out.acked x.telling.next less)
          ∙ (h.own.timer ∙ sym (ap (λ (b : Bool). seen_timer (m.end.tcp.timing.news || (m.end.sending.news || b)) m.end.tcp.timing.timer) (old_is less)
          ∙ ap (λ (b : Bool). seen_timer (m.end.tcp.timing.news || b) m.end.tcp.timing.timer) (or_false m.end.sending.news))))
          (cases_lt h.out.acked x.telling.next)

      -- ---- all

      module _ (una : m.end.tcp.send.una ≡ x.edge) (high : x.edge ≤ m.end.tcp.send.nxt) (clear : 1 ≤ h.out.clear) (acknowledges : AcknowledgesAs k.total x)
          (dss : x.telling.dss ≤ 1)
        where
          pub up_max : {a : ℕ} (b e : ℕ) → a ≤ b → a ≤ max b e
          up_max b e p = omega (arith, p)

          pub more_max : {a b : ℕ} (e : ℕ) → a < b → a < max b e
          more_max e p = omega (arith, p)

          pub not_clear : {a : ℕ} → 1 ≤ a → a ≡ 0 → ⊥
          not_clear p q = absurd (omega (arith, p, q))

          pub seen_on : (a b : ℕ) → b ≤ max a b
          seen_on a b = omega arith

          clear_same : max h.out.clear x.telling.dss ≡ h.out.clear
          clear_same = same dss clear
            where
              same : {a b : ℕ} → b ≤ 1 → 1 ≤ a → max a b ≡ a
              same p q = omega (arith, p, q)

          waits_on : {rest : List Record} {waits : ℕ} → Waits k h.out.sender rest waits → Waits k out_after.sender rest waits
          waits_on (WaitsSyn unsent) = WaitsSyn unsent
          waits_on (WaitsNone sent) = WaitsNone sent
          waits_on (WaitsBytes sent r kind pos unsent some most edge) = WaitsBytes sent r kind pos unsent some most (up_max h.out.edge x.telling.edge edge)

          ahead_bytes : min (max h.out.acked x.telling.next) k.total ≤ m.end.tcp.send.una - 1
          ahead_bytes = up h.out.acked x.telling.next k.total h.own.subflow.ahead.bytes acknowledges.bytes una
            where
              up : {una edge : ℕ} (a next total : ℕ) → min a total ≤ una - 1 → min next total ≤ edge - 1 → una ≡ edge → min (max a next) total ≤ una - 1
              up a next total p q is = omega (arith, p, q, is)

          ahead_opened : (a b : ℕ) → min 1 (max a b) ≤ m.end.tcp.send.una
          ahead_opened a b = up acknowledges.some una
            where
              up : {una edge : ℕ} → 1 ≤ edge → una ≡ edge → min 1 (max a b) ≤ una
              up p is = omega (arith, p, is)

          ahead_finished : max h.out.control_acked x.telling.seen ≡ 2 → m.end.tcp.send.una ≡ m.end.tcp.send.nxt
          ahead_finished two = ⊎_elim
              (λ less. last (acknowledges.end (second less two)) una high h.own.subflow.records.next lane.numbers.granted lane.numbers.written waiting h.own.subflow.records.control)
              (λ more. h.own.subflow.ahead.finished (first x.telling.seen more two))
              (cases_lt h.out.control_acked 2)
            where
              second : {a b : ℕ} → a < 2 → max a b ≡ 2 → b ≡ 2
              second p q = omega (arith, p, q)

              first : {a : ℕ} (b : ℕ) → 2 ≤ a → max a b ≡ 2 → a ≡ 2
              first b p q = omega (arith, p, q)

              last : {total edge una nxt g v w e : ℕ} → total + 2 ≤ edge → una ≡ edge → edge ≤ nxt → nxt ≡ 1 + g + w + (e - 1) → g ≤ v → v ≤ total → w ≡ 0 → e ≤ 2 → una ≡ nxt
              last p is q at a b z f = omega (arith, p, is, q, at, a, b, z, f)

          spans_on : AreSpans (max h.out.acked x.telling.next) (h.out.granted + h.waiting) (filter (is_open (max m.end.sending.heard x.telling.next)) m.end.sending.granted)
          spans_on = subst (λ (a : ℕ). AreSpans (max h.out.acked x.telling.next) (h.out.granted + h.waiting) (filter (is_open (max a x.telling.next)) m.end.sending.granted))
              (sym h.own.sending.heard)
              (spans_to (filter (is_open (max h.out.acked x.telling.next)) m.end.sending.granted) (max h.out.acked (max h.out.acked x.telling.next)) (h.out.granted + h.waiting)
              (max h.out.acked x.telling.next) (h.out.granted + h.waiting)
              (spans_acked m.end.sending.granted h.out.acked (h.out.granted + h.waiting) (max h.out.acked x.telling.next) h.own.sending.spans)
              (twice h.out.acked x.telling.next) (same (h.out.granted + h.waiting)))
            where
              twice : (a b : ℕ) → max a (max a b) ≤ max a b
              twice a b = omega arith

              same : (a : ℕ) → a ≤ a
              same a = omega arith

          acked_end_on : k.total < max h.out.acked x.telling.next → 1 ≤ h.out.data_fin_sent
          acked_end_on more = ⊎_elim (λ past. sent_fin past) (λ less. h.own.sending.acked_end (before less more)) (cases_lt k.total x.telling.next)
            where
              before : {total a next : ℕ} → next ≤ total → total < max a next → total < a
              before p q = omega (arith, p, q)

          pub own_acked : EndIs s keys k j out_after.sender h.back.receiver (in_hand x brings false) h.owes h.waiting end_after
          own_acked = record {
            subflow = record {
              phase = h.own.subflow.phase;
              opens = h.own.subflow.opens;
              records = record {
                sent = h.own.subflow.records.sent;
                rest = h.own.subflow.records.rest;
                all = h.own.subflow.records.all;
                gone = h.own.subflow.records.gone;
                waits = waits_on h.own.subflow.records.waits;
                pieces = h.own.subflow.records.pieces;
                tile = h.own.subflow.records.tile;
                next = h.own.subflow.records.next;
                finished = h.own.subflow.records.finished;
                control = h.own.subflow.records.control;
                fits = h.own.subflow.records.fits;
              };
              ahead = record {
                bytes = ahead_bytes;
                opened = ahead_opened h.out.control_acked x.telling.seen;
                finished = ahead_finished;
                seen = seen_on h.out.control_acked x.telling.seen;
              };
              congestion = record {
                window = h.own.subflow.congestion.window;
                most = h.own.subflow.congestion.most;
                steady = h.own.subflow.congestion.steady;
                row = subst (λ (o : Option Hand). m.end.tcp.congestion.duplicates ≤ row_seen h.out.sender o) hand h.own.subflow.congestion.row;
              };
              come = record { edge = h.own.subflow.come.edge; window = h.own.subflow.come.window };
              heard = subst (λ (o : Option Hand). HeardIs s k.total (last_told h.out.heard o) m.end.tcp) hand h.own.subflow.heard;
              quiet = h.own.subflow.quiet;
              begun = h.own.subflow.begun;
              keyed = λ is one still. h.own.subflow.keyed is one (ap brings_still hand ∙ still);
              long = h.own.subflow.long;
              due = h.own.subflow.due;
            };
            sending = record {
              heard = ap (λ (a : ℕ). max a x.telling.next) h.own.sending.heard;
              known = h.own.sending.known;
              data_fin = h.own.sending.data_fin;
              acked = acked_is;
              came = h.own.sending.came;
              shut = h.own.sending.shut;
              granted = subst (λ (a : ℕ). All (IsGranted out_after.sender h.waiting) (filter (is_open (max a x.telling.next)) m.end.sending.granted)) (sym h.own.sending.heard)
                  (granted_acked h.out.sender out_after.sender h.waiting refl m.end.sending.granted h.own.sending.granted);
              spans = spans_on;
              bytes = h.own.sending.bytes;
              end = up_max h.out.clear x.telling.dss h.own.sending.end;
              acked_end = acked_end_on;
              finish = λ two. more_max x.telling.next (h.own.sending.finish two);
            };
            receiving = record {
              next = h.own.receiving.next;
              limit = h.own.receiving.limit;
              told = h.own.receiving.told;
              least = h.own.receiving.least;
              unmapped = h.own.receiving.unmapped;
              fin_told = h.own.receiving.fin_told;
              said = h.own.receiving.said;
              unended = λ is none. absurd (not_clear (up_max h.out.clear x.telling.dss clear) none);
              unheard = λ is none. absurd (not_clear (up_max h.out.clear x.telling.dss clear) none);
            };
            modes = record {
              mode = h.own.modes.mode;
              standby = h.own.modes.standby;
              mapping = h.own.modes.mapping;
              owes_third = h.own.modes.owes_third;
              owes_mapping = h.own.modes.owes_mapping;
              mapped_to = h.own.modes.mapped_to;
              plain_acks = refl;
              own_key = h.own.modes.own_key;
              peer_key = h.own.modes.peer_key;
              clear = clear_same ∙ h.own.modes.clear;
              capable = h.own.modes.capable;
              ready = h.own.modes.ready;
              cleared = subst (λ (a : ℕ). a ≤ h.out.ready) (sym clear_same) h.own.modes.cleared;
              both = λ is. ((h.own.modes.both is).0 ∙ sym clear_same, (h.own.modes.both is).1);
              shown = h.own.modes.shown;
            };
            timer = timer_is;
            notices = h.own.notices;
          }

          module _ (window : ℕ) (edge : x.telling.edge ≡ x.telling.next + window) (rests : h.out.control_acked < x.telling.seen → h.out.timer ≡ None) where
            abbrev pub data_acked : Facing s keys k j c begun begun_back (record m { end = end_after; send = after_ack x.telling.next window m.send }) n clock until ds
            data_acked = hears_on h free there x brings hand x.telling.next window now few refl edge rests sending_after (covered_by x.telling.next m.end.modes)
                (record m.end.treated { data_ack_taken = true }) refl own_acked
