-- What comes behind a SYN in order is taken by the subflow.
use Rattle.clean_finish.proofs.Words.{◌≡◌, refl, ap, ◌∙◌, ℕ, ◌+◌, ◌-◌, ◌<◌, ◌≤◌, nat_lt, Bool, true, false, not, ◌&&◌, ◌||◌, if◌then◌else◌, Option, length}
use Rattle.clean_finish.proofs.Words.{arith, Some, nat_le, ◌==◌, ◌^◌, both_ways, lt-ltb, le-ltb, le-leb, ne_eqb, Side, A, B, State, EndState, is_half_open}
use Rattle.clean_finish.proofs.Words.{Meaning, is_in_window, ends_in_window, is_at_right_edge, is_acceptable, is_repeated_syn, meaning_acknowledging}
use Rattle.clean_finish.proofs.Words.{meaning_at, meaning_connected, meaning_of, meaning_outside, meaning_placed, meaning_within, SubflowCopy, occupied, meant}
use Rattle.clean_finish.proofs.Words.{Profile, copy_of, IsPhase, IsOpen, Sent, Keys, Brings, position_of, said, acknowledged_by, OpensSubflow, ShowsKeys}
use Rattle.clean_finish.proofs.Words.{FirstPiece, Piece, Acknowledges, EndsStream, EndsSubflow, Opening, Listening, HalfOpen, Open}
use Rattle.clean_finish.specs.Segments.{is_opening}

-- an end that heard a SYN judges by positions
connected_open : (state : State) (finished : Bool) (c : SubflowCopy) (s : EndState) → IsOpen finished state → meaning_at state c s ≡ meaning_connected c s
connected_open State.Waiting finished c s is = absurd (both_ways _ is.closed refl)
connected_open State.Listen finished c s is = absurd (both_ways _ is.closed refl)
connected_open State.SynSent finished c s is = absurd (both_ways _ is.opening refl)
connected_open State.Dead finished c s is = absurd (both_ways _ is.closed refl)
connected_open _ finished c s is = refl

judges : (q : Side) (came una : ℕ) (finished : Bool) (state : State) (c : SubflowCopy) (s : EndState) → IsPhase q came una finished state → 1 ≤ came
    → meaning_at state c s ≡ meaning_connected c s
judges q came una finished state c s (Opening side none low is) some = absurd (omega (arith, none, some))
judges q came una finished state c s (Listening side none low is) some = absurd (omega (arith, none, some))
judges q came una finished state c s (HalfOpen side one low is) some = rw is refl
judges q came una finished state c s (Open one high is) some = connected_open state finished c s is

-- at the receive edge
at_edge : (edge : ℕ) (c : SubflowCopy) → is_acceptable edge edge c ≡ true
at_edge edge c = ap (λ (b : Bool). b || (ends_in_window edge edge (occupied c) || is_at_right_edge edge edge (length c.payload))) here
  where
    less : edge < edge + 1048576
    less = omega arith

    same : edge ≤ edge
    same = omega arith

    here : is_in_window edge edge ≡ true
    here = rw (le-leb edge edge same, lt-ltb edge (edge + 1048576) less) refl

-- a segment at the edge that acknowledges something sent is taken
taken_there : (c : SubflowCopy) (s : EndState) (pos acknowledged : ℕ) → nat_le (2 ^ 61) s.send.nxt ≡ false → nat_le (2 ^ 61) s.recv.edge ≡ false
    → c.position ≡ Some pos → pos ≡ s.recv.edge → c.acknowledged ≡ Some acknowledged → c.syn ≡ false → c.rst ≡ false
    → nat_lt s.send.nxt acknowledged ≡ false → (acknowledged == 0) ≡ false → meaning_connected c s ≡ Meaning.Taken pos acknowledged
taken_there c s pos acknowledged far far_edge position same is syn reset ahead some =
    ap (λ (b : Bool). if b then Meaning.Ignored else (if is_repeated_syn c s then Meaning.RepeatedSyn else meaning_placed c.position c s)) (neither _ _ far far_edge)
    ∙ (ap (λ (b : Bool). if b then Meaning.RepeatedSyn else meaning_placed c.position c s) (no_syn (not s.numbers.opens) c.syn _ syn)
    ∙ (ap (λ (o : Option ℕ). meaning_placed o c s) position
    ∙ (ap (λ (b : Bool). if b then meaning_within pos c s else meaning_outside c)
    (ap (λ (n : ℕ). is_acceptable s.recv.edge n c) same ∙ at_edge s.recv.edge c)
    ∙ (ap (λ (b : Bool). if b then (if pos == s.recv.edge then Meaning.Kills else Meaning.Challenged)
    else (if c.syn then Meaning.Challenged else meaning_acknowledging c.acknowledged pos s)) reset
    ∙ (ap (λ (b : Bool). if b then Meaning.Challenged else meaning_acknowledging c.acknowledged pos s) syn
    ∙ (ap (λ (o : Option ℕ). meaning_acknowledging o pos s) is
    ∙ (ap (λ (b : Bool). if b then Meaning.Ahead
    else (if is_half_open s.state && acknowledged == 0 then Meaning.Unacknowledging else Meaning.Taken pos acknowledged)) ahead
    ∙ ap (λ (b : Bool). if b then Meaning.Unacknowledging else Meaning.Taken pos acknowledged) (not_zero (is_half_open s.state) _ some))))))))
  where
    neither : (a b : Bool) → a ≡ false → b ≡ false → a || b ≡ false
    neither a b e f = rw (e, f) refl

    no_syn : (a b x : Bool) → b ≡ false → a && (b && x) ≡ false
    no_syn true b x e = rw e refl
    no_syn false b x e = refl

    not_zero : (a b : Bool) → b ≡ false → a && b ≡ false
    not_zero true b e = e
    not_zero false b e = refl

pub acknowledges_some : (s : Side) (b : Brings) (edge : ℕ) → is_opening b ≡ false → acknowledged_by s b edge ≡ Some edge
acknowledges_some A OpensSubflow edge e = absurd (both_ways _ e refl)
acknowledges_some B OpensSubflow edge e = refl
acknowledges_some A ShowsKeys edge e = refl
acknowledges_some B ShowsKeys edge e = refl
acknowledges_some A (FirstPiece octets) edge e = refl
acknowledges_some B (FirstPiece octets) edge e = refl
acknowledges_some A (Piece octets) edge e = refl
acknowledges_some B (Piece octets) edge e = refl
acknowledges_some A Acknowledges edge e = refl
acknowledges_some B Acknowledges edge e = refl
acknowledges_some A (EndsStream place) edge e = refl
acknowledges_some B (EndsStream place) edge e = refl
acknowledges_some A EndsSubflow edge e = refl
acknowledges_some B EndsSubflow edge e = refl

pub taken_meant : (c : Profile) (keys : Keys) (from q : Side) (x : Sent) (came una : ℕ) (finished : Bool) (s : EndState)
    → IsPhase q came una finished s.state → 1 ≤ came → is_opening x.brings ≡ false → nat_le (2 ^ 61) s.send.nxt ≡ false
    → nat_le (2 ^ 61) s.recv.edge ≡ false → position_of x ≡ s.recv.edge → x.edge ≤ s.send.nxt → 1 ≤ x.edge
    → meaning_of (copy_of (meant (said c keys from x))) s ≡ Meaning.Taken (position_of x) x.edge
taken_meant c keys from q x came una finished s phase some opens far far_edge at high one =
    judges q came una finished s.state (copy_of (meant (said c keys from x))) s phase some
    ∙ taken_there (copy_of (meant (said c keys from x))) s (position_of x) x.edge far far_edge refl at acknowledged opens refl
    (le-ltb s.send.nxt x.edge high) (ne_eqb x.edge 0 (not_zero one))
  where
    not_zero : {n : ℕ} → 1 ≤ n → n ≡ 0 → ⊥
    not_zero some is = absurd (omega (arith, some, is))

    acknowledged : (copy_of (meant (said c keys from x))).acknowledged ≡ Some x.edge
    acknowledged = rw (acknowledges_some from x.brings x.edge opens) refl
