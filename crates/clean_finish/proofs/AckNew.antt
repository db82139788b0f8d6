-- What an acknowledgement makes of a subflow: of its records, its windows and its state.
use Rattle.clean_finish.proofs.Words.{◌≡◌, refl, sym, subst, ap, ◌∙◌, ℕ, ◌+◌, ◌-◌, ◌<◌, ◌≤◌, nat_lt, Bool, true, false, not, if◌then◌else◌, List, [], ◌∷◌, ◌++◌}
use Rattle.clean_finish.proofs.Words.{map, All, arith, nat_le, lt-ltb, le-ltb, le-leb, eq-eqb, append-nil, All-tail, AckKind, Duplicate, Record, SendState}
use Rattle.clean_finish.proofs.Words.{Tile, span_of, is_unsent, uncovered, newly_acknowledged, ack_kind, after_acknowledge, sample_of, Congestion}
use Rattle.clean_finish.proofs.Words.{is_growth_linked, State, EndState, after_fin_acked, after_new_ack, after_acknowledgement, after_ack_kind}
use Rattle.clean_finish.proofs.Words.{acknowledged_grows, Setting, Sender, IsPiece, RecordsAre, IsOpen, Waits, WaitsSyn, WaitsNone, WaitsBytes}
use Rattle.loss_recovery.specs.Windows.{acknowledged}
use Rattle.subflow_send.specs.declared.record.AckKind.TheVariants.{New}
use Rattle.subflow_send.specs.Records.{end_of}
use Rattle.subflow_send.proofs.Covering.{Tile-uncovered}

-- ---- the kind of it

pub kind_new : (pos : ℕ) (v : SendState) → v.una < pos → pos ≤ v.nxt → ack_kind pos v ≡ New (newly_acknowledged pos v)
kind_new pos v low high = rw (le-ltb v.nxt pos high, lt-ltb v.una pos low) refl

pub kind_same : (pos : ℕ) (v : SendState) → pos ≡ v.una → pos ≤ v.nxt → ack_kind pos v ≡ Duplicate
kind_same pos v same high = rw (le-ltb v.nxt pos high, le-ltb v.una pos (low same), eq-eqb pos v.una same) refl
  where
    low : {x y : ℕ} → x ≡ y → x ≤ y
    low is = omega (arith, is)

send_new : (pos : ℕ) (v : SendState) → v.una < pos → pos ≤ v.nxt → after_acknowledge pos v ≡ record v { una = pos; records = uncovered pos v.records }
send_new pos v low high = rw (lt-ltb v.una pos low, le-leb pos v.nxt high) refl

send_same : (pos : ℕ) (v : SendState) → pos ≡ v.una → after_acknowledge pos v ≡ v
send_same pos v same = rw (le-ltb v.una pos (low same)) refl
  where
    low : {x y : ℕ} → x ≡ y → x ≤ y
    low is = omega (arith, is)

-- with the records that it doesn't cover
abbrev pub acked_to : ℕ → EndState → EndState
acked_to pos s = record s { send = record s.send { una = pos; records = uncovered pos s.send.records } }

-- something new
pub new_ack : (pos now : ℕ) (s : EndState) → s.send.una < pos → pos ≤ s.send.nxt
    → after_acknowledgement pos now s ≡ after_new_ack (newly_acknowledged pos s.send) (sample_of pos s.send) now (acked_to pos s)
new_ack pos now s low high =
    ap (λ (kind : AckKind). after_ack_kind kind (sample_of pos s.send) now (record s { send = after_acknowledge pos s.send })) (kind_new pos s.send low high)
    ∙ ap (λ (v : SendState). after_new_ack (newly_acknowledged pos s.send) (sample_of pos s.send) now (record s { send = v })) (send_new pos s.send low high)

-- an acknowledgement of SND.UNA once more changes nothing
pub same_ack : (pos now : ℕ) (s : EndState) → pos ≡ s.send.una → pos ≤ s.send.nxt → after_acknowledgement pos now s ≡ s
same_ack pos now s same high =
    ap (λ (kind : AckKind). after_ack_kind kind (sample_of pos s.send) now (record s { send = after_acknowledge pos s.send })) (kind_same pos s.send same high)
    ∙ ap (λ (v : SendState). record s { send = v }) (send_same pos s.send same)

-- ---- the records

none_left : (pos : ℕ) (P : Record → Type 0) (rs : List Record) → All P rs → All P (uncovered pos rs)
none_left pos P [] all = all
none_left pos P (r ∷ rs) all = by (nat_le (end_of r) pos) (none_left pos P rs (All-tail P r rs all))
  where
    by : (covered : Bool) → All P (uncovered pos rs) → All P (if covered then uncovered pos rs else r ∷ rs)
    by true rest = rest
    by false rest = all

-- once the SYN was sent, and nothing waits
none_wait : (k : Setting) (out : Sender) (rest : List Record) (waiting : ℕ) → Waits k out rest waiting → waiting ≡ 0 → 1 ≤ out.control_sent → rest ≡ []
none_wait k out _ _ (WaitsSyn unsent) none sent = absurd (omega (arith, unsent, sent))
none_wait k out _ _ (WaitsNone some) none sent = refl
none_wait k out _ _ (WaitsBytes one r kind pos unsent some most edge) none sent = absurd (omega (arith, none, some))

pub records_sent : (k : Setting) (out : Sender) (waiting : ℕ) (tcp : EndState) (h : RecordsAre k out waiting tcp) → waiting ≡ 0 → 1 ≤ out.control_sent
    → All (λ r. is_unsent r ≡ false) tcp.send.records
records_sent k out waiting tcp h none sent =
    subst (λ (rs : List Record). All (λ r. is_unsent r ≡ false) rs)
    (sym (h.all ∙ (ap (λ (rs : List Record). h.sent ++ rs) (none_wait k out h.rest waiting h.waits none sent) ∙ append-nil h.sent))) h.gone

pub records_acked : (k : Setting) (out later : Sender) (waiting pos : ℕ) (tcp after : EndState) (h : RecordsAre k out waiting tcp) → waiting ≡ 0
    → 1 ≤ out.control_sent → tcp.send.una < pos → pos ≤ tcp.send.nxt
    → after.send ≡ record tcp.send { una = pos; records = uncovered pos tcp.send.records }
    → later.granted ≡ out.granted → later.control_sent ≡ out.control_sent → RecordsAre k later 0 after
records_acked k out later waiting pos tcp after h none sent low high is granted control = record {
  sent = uncovered pos tcp.send.records;
  rest = [];
  all = ap (λ (v : SendState). v.records) is ∙ sym (append-nil (uncovered pos tcp.send.records));
  gone = none_left pos (λ r. is_unsent r ≡ false) tcp.send.records (records_sent k out waiting tcp h none sent);
  waits = WaitsNone (subst (λ (n : ℕ). 1 ≤ n) (sym control) sent);
  pieces = subst (λ (v : SendState). All (IsPiece k.payload) v.records) (sym is)
      (none_left pos (IsPiece k.payload) tcp.send.records h.pieces);
  tile = subst (λ (v : SendState). Tile v.una v.nxt (map span_of v.records)) (sym is)
      (Tile-uncovered tcp.send.records tcp.send.una tcp.send.nxt pos h.tile low high);
  next = ap (λ (v : SendState). v.nxt) is ∙ same h.next none granted control;
  finished = ap (λ (v : SendState). v.finished) is ∙ (h.finished ∙ ap (λ (n : ℕ). nat_lt 1 n) (sym control));
  control = subst (λ (n : ℕ). n ≤ 2) (sym control) h.control;
  fits = omega arith;
}
  where
    same : {next g w c g' c' : ℕ} → next ≡ 1 + g + w + (c - 1) → w ≡ 0 → g' ≡ g → c' ≡ c → next ≡ 1 + g' + 0 + (c' - 1)
    same is none a b = omega (arith, is, none, a, b)

-- nothing changes of them
pub records_same : (k : Setting) (out later : Sender) (waiting : ℕ) (tcp after : EndState) (h : RecordsAre k out waiting tcp) → waiting ≡ 0
    → 1 ≤ out.control_sent → after.send ≡ tcp.send → later.granted ≡ out.granted → later.control_sent ≡ out.control_sent → RecordsAre k later 0 after
records_same k out later waiting tcp after h none sent is granted control = record {
  sent = tcp.send.records;
  rest = [];
  all = ap (λ (v : SendState). v.records) is ∙ sym (append-nil tcp.send.records);
  gone = records_sent k out waiting tcp h none sent;
  waits = WaitsNone (subst (λ (n : ℕ). 1 ≤ n) (sym control) sent);
  pieces = subst (λ (v : SendState). All (IsPiece k.payload) v.records) (sym is) h.pieces;
  tile = subst (λ (v : SendState). Tile v.una v.nxt (map span_of v.records)) (sym is) h.tile;
  next = ap (λ (v : SendState). v.nxt) is ∙ same h.next none granted control;
  finished = ap (λ (v : SendState). v.finished) is ∙ (h.finished ∙ ap (λ (n : ℕ). nat_lt 1 n) (sym control));
  control = subst (λ (n : ℕ). n ≤ 2) (sym control) h.control;
  fits = omega arith;
}
  where
    same : {next g w c g' c' : ℕ} → next ≡ 1 + g + w + (c - 1) → w ≡ 0 → g' ≡ g → c' ≡ c → next ≡ 1 + g' + 0 + (c' - 1)
    same is none a b = omega (arith, is, none, a, b)

-- ---- the windows

-- a row ends where something new is acknowledged
pub row_ends : (octets rtt : ℕ) (c : Congestion) → (acknowledged octets rtt c).duplicates ≡ 0
row_ends octets rtt c = by (is_growth_linked octets c.reno) _ _ refl refl
  where
    by : (b : Bool) (x y : Congestion) → x.duplicates ≡ 0 → y.duplicates ≡ 0 → (if b then x else y).duplicates ≡ 0
    by true x y one other = one
    by false x y one other = other

pub window_on : (payload window octets rtt : ℕ) (c : Congestion) → payload + window ≤ c.reno.window → c.reno.window ≤ 1048576 → c.reno.in_fast_recovery ≡ false
    → payload + window ≤ (acknowledged octets rtt c).reno.window
window_on payload window octets rtt c room most calm = up room (acknowledged_grows octets rtt c most calm).window
  where
    up : {x y z : ℕ} → x ≤ y → y ≤ z → x ≤ z
    up a b = omega (arith, a, b)

-- ---- the state

-- both SYNs stay acknowledged
pub open_acked : (finished acked : Bool) (state : State) → (acked ≡ true → finished ≡ true) → IsOpen finished state
    → IsOpen finished (if acked then after_fin_acked state else state)
open_acked finished false state sent is = is
open_acked finished true State.FinWait1 sent is = by (sent refl)
  where
    by : finished ≡ true → IsOpen finished State.FinWait2
    by e = record { finish = ap not (sym e); closed = refl; half = refl; opening = refl; connected = refl }
open_acked finished true State.Closing sent is = by (sent refl)
  where
    by : finished ≡ true → IsOpen finished State.TimeWait
    by e = record { finish = ap not (sym e); closed = refl; half = refl; opening = refl; connected = refl }
open_acked finished true State.Waiting sent is = is
open_acked finished true _ sent is = is
