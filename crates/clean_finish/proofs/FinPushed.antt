-- The records of an end that sends its FIN.
use Rattle.clean_finish.proofs.Words.{◌≡◌, refl, sym, subst, ap, ◌∙◌, ℕ, ◌+◌, ◌-◌, ◌≤◌, nat_lt, Bool, true, false, if◌then◌else◌, List, [], ◌∷◌, ◌++◌, map, All}
use Rattle.clean_finish.proofs.Words.{arith, both_ways, append-nil, All-nil, All-cons, All-head, All-tail, Record, SendState, Tile, span_of, is_unsent, is_fin}
use Rattle.clean_finish.proofs.Words.{fin_record, fin_sent, after_fin_sent, never_sent, sent_again, State, EndState, Setting, Sender, IsPiece, RecordsAre}
use Rattle.clean_finish.proofs.Words.{IsOpen, WaitsNone}
use Rattle.subflow_send.specs.Rules.{after_finish}
use Rattle.subflow_send.proofs.Whole.{Tile-push}
use Rattle.subflow_tcp.specs.States as phases
use Rattle.clean_finish.proofs.AckNew.{records_sent}

-- ---- each record

abbrev is_gone : Record → Type 0
is_gone r = is_unsent r ≡ false

abbrev pushed : ℕ → ℕ → List Record → List Record
pushed now pos rs = map (fin_sent now) (rs ++ fin_record pos never_sent ∷ [])

gone_on : (now : ℕ) (r : Record) → is_gone r → is_gone (fin_sent now r)
gone_on now r gone = by (is_fin r.kind)
  where
    by : (b : Bool) → is_gone (if b then record r { sending = sent_again now r.sending } else r)
    by true = refl
    by false = gone

all_gone : (now pos : ℕ) (rs : List Record) → All is_gone rs → All is_gone (pushed now pos rs)
all_gone now pos [] all = All-cons is_gone (fin_sent now (fin_record pos never_sent)) [] refl (All-nil is_gone)
all_gone now pos (r ∷ rs) all = All-cons is_gone (fin_sent now r) (pushed now pos rs) (gone_on now r (All-head is_gone r rs all))
    (all_gone now pos rs (All-tail is_gone r rs all))

piece_on : (payload now : ℕ) (r : Record) → IsPiece payload r → IsPiece payload (fin_sent now r)
piece_on payload now r piece = by (is_fin r.kind)
  where
    by : (b : Bool) → IsPiece payload (if b then record r { sending = sent_again now r.sending } else r)
    by true = piece
    by false = piece

all_pieces : (payload now pos : ℕ) (rs : List Record) → All (IsPiece payload) rs → All (IsPiece payload) (pushed now pos rs)
all_pieces payload now pos [] all =
    All-cons (IsPiece payload) (fin_sent now (fin_record pos never_sent)) [] (omega arith, omega arith) (All-nil (IsPiece payload))
all_pieces payload now pos (r ∷ rs) all = All-cons (IsPiece payload) (fin_sent now r) (pushed now pos rs)
    (piece_on payload now r (All-head (IsPiece payload) r rs all)) (all_pieces payload now pos rs (All-tail (IsPiece payload) r rs all))

span_on : (now : ℕ) (r : Record) → span_of (fin_sent now r) ≡ span_of r
span_on now r = by (is_fin r.kind)
  where
    by : (b : Bool) → span_of (if b then record r { sending = sent_again now r.sending } else r) ≡ span_of r
    by true = refl
    by false = refl

spans : (now pos : ℕ) (rs : List Record) → map span_of (pushed now pos rs) ≡ map span_of rs ++ (pos, pos + 1) ∷ []
spans now pos [] = refl
spans now pos (r ∷ rs) =
    ap (λ (x : _). x ∷ map span_of (pushed now pos rs)) (span_on now r) ∙ ap (λ (xs : List _). span_of r ∷ xs) (spans now pos rs)

-- ---- all of them

pub fin_pushed : (k : Setting) (out later : Sender) (waiting now : ℕ) (tcp after : EndState) (h : RecordsAre k out waiting tcp) → waiting ≡ 0
    → out.control_sent ≡ 1 → after.send ≡ after_fin_sent now (after_finish tcp.send) → later.granted ≡ out.granted → later.control_sent ≡ 2
    → RecordsAre k later 0 after
fin_pushed k out later waiting now tcp after h none one is granted control = record {
  sent = pushed now tcp.send.nxt tcp.send.records;
  rest = [];
  all = ap (λ (v : SendState). v.records) is ∙ sym (append-nil (pushed now tcp.send.nxt tcp.send.records));
  gone = all_gone now tcp.send.nxt tcp.send.records (records_sent k out waiting tcp h none (some one));
  waits = WaitsNone (subst (λ (x : ℕ). 1 ≤ x) (sym control) (omega arith));
  pieces = subst (λ (v : SendState). All (IsPiece k.payload) v.records) (sym is)
      (all_pieces k.payload now tcp.send.nxt tcp.send.records h.pieces);
  tile = subst (λ (v : SendState). Tile v.una v.nxt (map span_of v.records)) (sym is)
      (subst (λ (ss : List _). Tile tcp.send.una (tcp.send.nxt + 1) ss) (sym (spans now tcp.send.nxt tcp.send.records))
      (Tile-push (map span_of tcp.send.records) tcp.send.una tcp.send.nxt (tcp.send.nxt + 1) h.tile (omega arith)));
  next = ap (λ (v : SendState). v.nxt) is ∙ next h.next none one granted control;
  finished = ap (λ (v : SendState). v.finished) is ∙ ap (λ (x : ℕ). nat_lt 1 x) (sym control);
  control = two control;
  fits = omega arith;
}
  where
    some : {x : ℕ} → x ≡ 1 → 1 ≤ x
    some is_one = omega (arith, is_one)

    two : {x : ℕ} → x ≡ 2 → x ≤ 2
    two is_two = omega (arith, is_two)

    next : {nxt g w d g' d' : ℕ} → nxt ≡ 1 + g + w + (d - 1) → w ≡ 0 → d ≡ 1 → g' ≡ g → d' ≡ 2 → nxt + 1 ≡ 1 + g' + 0 + (d' - 1)
    next at a b x y = omega (arith, at, a, b, x, y)

-- ---- the state

pub open_finished : (state : State) → phases.may_finish state ≡ true → IsOpen true (phases.after_finish state)
open_finished State.Established e = record { finish = refl; closed = refl; half = refl; opening = refl; connected = refl }
open_finished State.CloseWait e = record { finish = refl; closed = refl; half = refl; opening = refl; connected = refl }
open_finished _ e = absurd (both_ways _ refl e)
