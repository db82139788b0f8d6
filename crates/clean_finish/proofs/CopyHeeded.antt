-- A copy that is taken, as the subflow of an end hears it: what it acknowledges, and how that goes with its lane.
use Rattle.clean_finish.proofs.Words.{◌≡◌, refl, sym, subst, ap, ◌∙◌, ℕ, ◌+◌, ◌<◌, ◌≤◌, Bool, true, false, not, ◌&&◌, if◌then◌else◌, ⊎_elim, arith, both_ways}
use Rattle.clean_finish.proofs.Words.{cases_lt, and_parts, lt-ltb, Side, AckKind, Duplicate, newly_acknowledged, ack_kind, sample_of, Congestion, duplicated}
use Rattle.clean_finish.proofs.Words.{measured, rtt_told, Told, State, EndState, after_handshake, after_new_ack, after_acknowledgement, is_fin_acked}
use Rattle.clean_finish.proofs.Words.{is_duplicate, after_row, after_duplicate, after_interruption, acknowledged_grows, SubflowCopy, Setting, Sender, repeats}
use Rattle.clean_finish.proofs.Words.{is_same, next_row, IsLong, RecordsAre, IsPhase, IsOpen, Sent, copy_in, Opening, Listening, HalfOpen, Open}
use Rattle.loss_recovery.specs.Windows.{is_third}
use Rattle.subflow_send.specs.declared.record.AckKind.TheVariants.{New}
use Rattle.clean_finish.proofs.AckNew.{acked_to, new_ack, same_ack, kind_new, kind_same, records_acked, records_same, window_on, open_acked}
use Rattle.clean_finish.proofs.Machine.{stays_long}

-- ---- the state

-- a copy that is taken ends the handshake
pub open_now : (state : State) (finished : Bool) → IsOpen finished state → after_handshake state ≡ state
open_now State.SynReceived finished is = absurd (both_ways _ is.half refl)
open_now _ finished is = refl

pub open_after : (s : Side) (came una : ℕ) (finished : Bool) (state : State) → IsPhase s came una finished state → 1 ≤ came
    → (state ≡ State.SynReceived → finished ≡ false) → IsOpen finished (after_handshake state)
open_after s came una finished state (Opening side none low is) some unsent = absurd (omega (arith, none, some))
open_after s came una finished state (Listening side none low is) some unsent = absurd (omega (arith, none, some))
open_after s came una finished state (HalfOpen side one low is) some unsent =
    subst (λ (x : State). IsOpen finished (after_handshake x)) (sym is)
    (record { finish = ap not (sym (unsent is)); closed = refl; half = refl; opening = refl; connected = refl })
open_after s came una finished state (Open one high is) some unsent =
    subst (λ (x : State). IsOpen finished x) (sym (open_now state finished is)) is

-- ---- the row of duplicates

-- a duplicate for the subflow is one for the lane
pub record Repeated (out : Sender) (x : Sent) (row : ℕ) : Type 0 where
  pub solid : (copy_in x).solid ≡ false
  pub same : is_same out.heard x.telling ≡ true

row_on : (out : Sender) (x : Sent) (row : ℕ) → Repeated out x row → row ≤ out.row → row + 1 ≤ next_row (repeats out.heard (copy_in x)) out.row
row_on out x row is less = rw (is.solid, is.same) (more less)
  where
    more : {y z : ℕ} → y ≤ z → y + 1 ≤ z + 1
    more low = omega (arith, low)

-- the window of an end, and its row, after a duplicate that isn't the third
twice : (flight : ℕ) (c : Congestion) → c.reno.in_fast_recovery ≡ false → c.duplicates < 2 → duplicated flight c ≡ record c { duplicates = c.duplicates + 1 }
twice flight c calm few = rw (calm, lt-ltb c.duplicates 2 few) refl

not_third : (c : Congestion) → c.duplicates < 2 → is_third c ≡ false
not_third c few = by (not c.reno.in_fast_recovery) (lt-ltb c.duplicates 2 few)
  where
    by : (b : Bool) {l : Bool} → l ≡ true → b && not l ≡ false
    by true e = rw e refl
    by false e = refl

-- ---- what an acknowledgement makes of the subflow, which is open by then

-- all that its lane keeps of it
pub record Heeds (k : Setting) (out later : Sender) (x : Sent) (before after : EndState) : Type 0 where
  pub records : RecordsAre k later 0 after
  pub una : after.send.una ≡ x.edge
  pub next : after.send.nxt ≡ before.send.nxt
  pub stands : IsOpen after.send.finished after.state
  pub window : k.payload + out.window ≤ after.congestion.reno.window
  pub most : after.congestion.reno.window ≤ 1048576
  pub steady : after.congestion.reno.in_fast_recovery ≡ false
  pub row : after.congestion.duplicates ≤ next_row (repeats out.heard (copy_in x)) out.row
  pub long : IsLong after.timing
  pub recv : after.recv ≡ before.recv
  pub fin_at : after.fin_at ≡ before.fin_at
  pub due : after.due ≡ before.due
  pub numbers : after.numbers ≡ before.numbers
  -- the timer is news where something new is acknowledged, and stays else
  pub news : (before.send.una < x.edge → after.timing.news ≡ true)
  pub rest : x.edge ≡ before.send.una → after.timing ≡ before.timing

module _ (k : Setting) (out later : Sender) (same_granted : later.granted ≡ out.granted) (same_control : later.control_sent ≡ out.control_sent)
    (waiting : ℕ) (x : Sent) (now : ℕ) (told : Told) (c : SubflowCopy) (s : EndState)
    (records : RecordsAre k out waiting s) (none : waiting ≡ 0) (sent : 1 ≤ out.control_sent) (stands : IsOpen s.send.finished s.state)
    (window : k.payload + out.window ≤ s.congestion.reno.window) (most : s.congestion.reno.window ≤ 1048576)
    (steady : s.congestion.reno.in_fast_recovery ≡ false) (row : s.congestion.duplicates ≤ out.row) (long : IsLong s.timing)
    (low : s.send.una ≤ x.edge) (high : x.edge ≤ s.send.nxt)
    (few : (copy_in x).solid ≡ false → is_same out.heard x.telling ≡ true → out.row ≤ 1)
    (repeated : is_duplicate Duplicate told c s ≡ true → x.edge ≡ s.send.una → Repeated out x s.congestion.duplicates)
  where
    abbrev pub heeded : EndState
    heeded = after_row (ack_kind x.edge s.send) told c (after_acknowledgement x.edge now s)

    -- ---- something new

    module _ (less : s.send.una < x.edge) where
      abbrev news : EndState
      news = after_interruption (after_new_ack (newly_acknowledged x.edge s.send) (sample_of x.edge s.send) now (acked_to x.edge s))

      news_is : heeded ≡ news
      news_is = ap (λ (kind : AckKind). after_row kind told c (after_acknowledgement x.edge now s)) (kind_new x.edge s.send less high)
          ∙ ap (λ (y : EndState). after_row (New (newly_acknowledged x.edge s.send)) told c y) (new_ack x.edge now s less high)

      not_same : {y z : ℕ} → y < z → z ≡ y → ⊥
      not_same a b = absurd (omega (arith, a, b))

      heeds_news : Heeds k out later x s news
      heeds_news =
          let rtt = rtt_told (measured (sample_of x.edge s.send) now s.timing) in
          let grows = acknowledged_grows (newly_acknowledged x.edge s.send) rtt s.congestion most steady in
          record {
            records = records_acked k out later waiting x.edge s news records none sent less high refl same_granted same_control;
            una = refl;
            next = refl;
            stands = open_acked s.send.finished (is_fin_acked (acked_to x.edge s).send) s.state (λ is. (and_parts s.send.finished _ is).0) stands;
            window = window_on k.payload out.window (newly_acknowledged x.edge s.send) rtt s.congestion window most steady;
            most = grows.cap;
            steady = grows.calm;
            row = omega arith;
            long = stays_long.measured (sample_of x.edge s.send) now s.timing long;
            recv = refl;
            fin_at = refl;
            due = refl;
            numbers = refl;
            news = λ again. refl;
            rest = λ same. absurd (not_same less same);
          }

    -- ---- the same again

    module _ (same : x.edge ≡ s.send.una) where
      not_less : {y z : ℕ} → z ≡ y → y < z → ⊥
      not_less a b = absurd (omega (arith, a, b))

      abbrev again : Bool → EndState
      again duplicate = if duplicate then after_duplicate s else after_interruption s

      again_is : heeded ≡ again (is_duplicate Duplicate told c s)
      again_is = ap (λ (kind : AckKind). after_row kind told c (after_acknowledgement x.edge now s)) (kind_same x.edge s.send same high)
          ∙ ap (λ (y : EndState). after_row Duplicate told c y) (same_ack x.edge now s same high)

      kept : (after : EndState) → after.send ≡ s.send → RecordsAre k later 0 after
      kept after is = records_same k out later waiting s after records none sent is same_granted same_control

      heeds_interrupted : Heeds k out later x s (after_interruption s)
      heeds_interrupted = record {
        records = kept (after_interruption s) refl;
        una = sym same;
        next = refl;
        stands = stands;
        window = window;
        most = most;
        steady = steady;
        row = omega arith;
        long = long;
        recv = refl;
        fin_at = refl;
        due = refl;
        numbers = refl;
        news = λ less. absurd (not_less same less);
        rest = λ is. refl;
      }

      -- with one duplicate more
      abbrev counted : EndState
      counted = record s { congestion = record s.congestion { duplicates = s.congestion.duplicates + 1 } }

      heeds_repeated : is_duplicate Duplicate told c s ≡ true → Heeds k out later x s (after_duplicate s)
      heeds_repeated duplicate =
          let is = repeated duplicate same in
          let two = under row (few is.solid is.same) in
          subst (λ (y : EndState). Heeds k out later x s y) (sym (counted_is two)) (record {
            records = kept counted refl;
            una = sym same;
            next = refl;
            stands = stands;
            window = window;
            most = most;
            steady = steady;
            row = row_on out x s.congestion.duplicates is row;
            long = long;
            recv = refl;
            fin_at = refl;
            due = refl;
            numbers = refl;
            news = λ less. absurd (not_less same less);
            rest = λ e. refl;
          })
        where
          under : {y z : ℕ} → y ≤ z → z ≤ 1 → y < 2
          under a b = omega (arith, a, b)

          counted_is : s.congestion.duplicates < 2 → after_duplicate s ≡ counted
          counted_is two = rw (twice _ s.congestion steady two, not_third s.congestion two) refl

      by : (duplicate : Bool) → is_duplicate Duplicate told c s ≡ duplicate → Heeds k out later x s (again duplicate)
      by true is = heeds_repeated is
      by false is = heeds_interrupted

      heeds_again : Heeds k out later x s heeded
      heeds_again = subst (λ (y : EndState). Heeds k out later x s y) (sym again_is) (by (is_duplicate Duplicate told c s) refl)

    pub heeds : Heeds k out later x s heeded
    heeds = ⊎_elim (λ less. subst (λ (y : EndState). Heeds k out later x s y) (sym (news_is less)) (heeds_news less))
        (λ rest. heeds_again (both low rest)) (cases_lt s.send.una x.edge)
      where
        both : {y z : ℕ} → y ≤ z → z ≤ y → z ≡ y
        both a b = omega (arith, a, b)
