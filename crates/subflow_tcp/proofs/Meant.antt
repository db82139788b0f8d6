-- What a segment that arrives can mean for an end.
use Rattle.std.proofs.Common.{◌≡◌, ℕ, ◌+◌, ◌-◌, ◌^◌, ◌<◌, ◌≤◌, Bool, true, false, true≢false, nat_lt, nat_le, if◌then◌else◌, Option, Some, None, List, length, refl, sym, ap, ◌∙◌, subst, arith}
use Rattle.std.specs.Prelude.{◌&&◌, ◌||◌, ◌==◌}
use Rattle.std.proofs.lemmas.Bool.{ltb-true, leb-false}
use Rattle.subflow_tcp.specs.declared.handshake.State.{State}
use Rattle.subflow_tcp.specs.declared.verdicts.Meaning.{Meaning}
use Rattle.subflow_tcp.specs.States.{is_behind_fin, is_half_open}
use Rattle.subflow_tcp.specs.State.{EndState, IsFinTold, is_at_limit}
use Rattle.subflow_tcp.specs.Segments.{Copy, occupied}
use Rattle.subflow_tcp.specs.Judging.{is_syn_alone, is_repeated_syn, is_in_window, ends_in_window, is_at_right_edge, is_acceptable, meaning_outside, meaning_acknowledging, meaning_within, meaning_placed, meaning_connected, meaning_answer, meaning_answering, meaning_opening, meaning_at, meaning_of, IsBelow}
use Rattle.subflow_tcp.specs.Taking.{after_keeping_for, is_kept}

-- ---- where a segment may stand that is taken

or-right : (a b : Bool) → (a || b) ≡ false → b ≡ false
or-right true b e = absurd (true≢false e)
or-right false b e = e

and-right : (a b : Bool) → (a && b) ≡ true → b ≡ true
and-right true b e = e
and-right false b e = absurd (true≢false (sym e))

edge-below : (s : EndState) → is_at_limit s ≡ false → s.recv.edge < 2 ^ 61
edge-below s e = leb-false (2 ^ 61) s.recv.edge (or-right (nat_le (2 ^ 61) s.send.nxt) (nat_le (2 ^ 61) s.recv.edge) e)

window-below : (edge pos : ℕ) → is_in_window edge pos ≡ true → pos < edge + 1048576
window-below edge pos e = ltb-true pos (edge + 1048576) (and-right (nat_le edge pos) (nat_lt pos (edge + 1048576)) e)

ends-below : (edge pos len : ℕ) → ends_in_window edge pos len ≡ true → pos < edge + 1048576
ends-below edge pos len e = omega (arith, window-below edge (pos + (len - 1)) (and-right (nat_lt 0 len) (is_in_window edge (pos + (len - 1))) e))

at-edge : (edge pos octets : ℕ) → is_at_right_edge edge pos octets ≡ true → pos ≡ edge + 1048576
at-edge edge pos octets e = grind (arith, and-right (octets == 0) (pos == edge + 1048576) e)

acceptable-below : (edge pos : ℕ) (c : Copy) → is_acceptable edge pos c ≡ true → pos ≤ edge + 1048576
acceptable-below edge pos c e = by (is_in_window edge pos) (ends_in_window edge pos (occupied c)) refl refl e
  where
    by : (a b : Bool) → is_in_window edge pos ≡ a → ends_in_window edge pos (occupied c) ≡ b → (a || (b || is_at_right_edge edge pos (length c.payload))) ≡ true
        → pos ≤ edge + 1048576
    by true b is ends both = omega (arith, window-below edge pos is)
    by false true is ends both = omega (arith, ends-below edge pos (occupied c) ends)
    by false false is ends both = omega (arith, at-edge edge pos (length c.payload) both)

-- ---- what holds of each meaning that an end with the peer's SYN finds holds of what it means
module _ (P : Meaning → Type 0) where
  chosen : (b : Bool) (x y : Meaning) → (b ≡ true → P x) → (b ≡ false → P y) → P (if b then x else y)
  chosen true x y f g = f refl
  chosen false x y f g = g refl

  pub record Each : Type 0 where
    pub ignored : P Meaning.Ignored
    pub unwanted : P Meaning.Unwanted
    pub repeated : P Meaning.RepeatedSyn
    pub outside : P Meaning.Outside
    pub kills : P Meaning.Kills
    pub challenged : P Meaning.Challenged
    pub unacknowledging : P Meaning.Unacknowledging
    pub ahead : P Meaning.Ahead
    pub taken : (pos acknowledged : ℕ) → pos < 2 ^ 61 + 2 ^ 20 → P (Meaning.Taken pos acknowledged)

  at-outside : Each → (c : Copy) → P (meaning_outside c)
  at-outside all c = chosen c.rst Meaning.Ignored Meaning.Outside (λ _. all.ignored) (λ _. all.outside)

  at-acknowledging : Each → (o : Option ℕ) (pos : ℕ) (s : EndState) → pos < 2 ^ 61 + 2 ^ 20 → P (meaning_acknowledging o pos s)
  at-acknowledging all None pos s h = all.unacknowledging
  at-acknowledging all (Some acknowledged) pos s h =
      chosen (nat_lt s.send.nxt acknowledged) Meaning.Ahead (if is_half_open s.state && acknowledged == 0 then Meaning.Unacknowledging else Meaning.Taken pos acknowledged)
      (λ _. all.ahead)
      (λ _. chosen (is_half_open s.state && acknowledged == 0) Meaning.Unacknowledging (Meaning.Taken pos acknowledged) (λ _. all.unacknowledging) (λ _. all.taken pos acknowledged h))

  at-within : Each → (pos : ℕ) (c : Copy) (s : EndState) → pos < 2 ^ 61 + 2 ^ 20 → P (meaning_within pos c s)
  at-within all pos c s h =
      chosen c.rst (if pos == s.recv.edge then Meaning.Kills else Meaning.Challenged) (if c.syn then Meaning.Challenged else meaning_acknowledging c.acknowledged pos s)
      (λ _. chosen (pos == s.recv.edge) Meaning.Kills Meaning.Challenged (λ _. all.kills) (λ _. all.challenged))
      (λ _. chosen c.syn Meaning.Challenged (meaning_acknowledging c.acknowledged pos s) (λ _. all.challenged) (λ _. at-acknowledging all c.acknowledged pos s h))

  at-placed : Each → (o : Option ℕ) (c : Copy) (s : EndState) → s.recv.edge < 2 ^ 61 → P (meaning_placed o c s)
  at-placed all None c s h = at-outside all c
  at-placed all (Some pos) c s h =
      chosen (is_acceptable s.recv.edge pos c) (meaning_within pos c s) (meaning_outside c)
      (λ e. at-within all pos c s (omega (arith, h, acceptable-below s.recv.edge pos c e)))
      (λ _. at-outside all c)

  pub at-connected : Each → (c : Copy) (s : EndState) → P (meaning_connected c s)
  at-connected all c s =
      chosen (is_at_limit s) Meaning.Ignored (if is_repeated_syn c s then Meaning.RepeatedSyn else meaning_placed c.position c s)
      (λ _. all.ignored)
      (λ low. chosen (is_repeated_syn c s) Meaning.RepeatedSyn (meaning_placed c.position c s)
      (λ _. all.repeated)
      (λ _. at-placed all c.position c s (edge-below s low)))

  pub at-dead : Each → (c : Copy) → P (if c.rst then Meaning.Ignored else Meaning.Unwanted)
  at-dead all c = chosen c.rst Meaning.Ignored Meaning.Unwanted (λ _. all.ignored) (λ _. all.unwanted)

  pub at-listening : Each → P Meaning.Opens → (c : Copy) → P (if is_syn_alone c then Meaning.Opens else Meaning.Ignored)
  at-listening all opens c = chosen (is_syn_alone c) Meaning.Opens Meaning.Ignored (λ _. opens) (λ _. all.ignored)

  at-answering : Each → ((acknowledged : ℕ) → P (Meaning.Accepts acknowledged)) → (o : Option ℕ) (c : Copy) (s : EndState) → P (meaning_answering o c s)
  at-answering all accepts None c s = all.ignored
  at-answering all accepts (Some acknowledged) c s =
      chosen (nat_lt 0 acknowledged && nat_le acknowledged s.send.nxt) (meaning_answer c acknowledged) Meaning.Ignored
      (λ _. chosen c.rst Meaning.Kills (if c.syn then Meaning.Accepts acknowledged else Meaning.Ignored)
      (λ _. all.kills)
      (λ _. chosen c.syn (Meaning.Accepts acknowledged) Meaning.Ignored (λ _. accepts acknowledged) (λ _. all.ignored)))
      (λ _. all.ignored)

  pub at-opening : Each → ((acknowledged : ℕ) → P (Meaning.Accepts acknowledged)) → (c : Copy) (s : EndState) → P (meaning_opening c s)
  at-opening all accepts c s =
      chosen (is_at_limit s) Meaning.Ignored (meaning_answering c.acknowledged c s) (λ _. all.ignored) (λ _. at-answering all accepts c.acknowledged c s)

-- ---- it is below the end of the window
each-below : Each IsBelow
each-below = record {
  ignored = tt;
  unwanted = tt;
  repeated = tt;
  outside = tt;
  kills = tt;
  challenged = tt;
  unacknowledging = tt;
  ahead = tt;
  taken = λ pos acknowledged h. h;
}

pub below-meant : (state : State) (c : Copy) (s : EndState) → s.state ≡ state → IsBelow (meaning_of c s)
below-meant state c s e = subst (λ state. IsBelow (meaning_at state c s)) (sym e) (at state)
  where
    at : (state : State) → IsBelow (meaning_at state c s)
    at State.Dead = at-dead IsBelow each-below c
    at State.Waiting = tt
    at State.Listen = at-listening IsBelow each-below tt c
    at State.SynSent = at-opening IsBelow each-below (λ _. tt) c s
    at _ = at-connected IsBelow each-below c s

-- ---- no end behind its FIN opens
abbrev pub OpensNothing : Meaning → Type 0
OpensNothing Meaning.Opens = ⊥
OpensNothing (Meaning.Accepts acknowledged) = ⊥
OpensNothing _ = Unit {0}

each-stays : Each OpensNothing
each-stays = record {
  ignored = tt;
  unwanted = tt;
  repeated = tt;
  outside = tt;
  kills = tt;
  challenged = tt;
  unacknowledging = tt;
  ahead = tt;
  taken = λ pos acknowledged h. tt;
}

stays-meant : (state : State) (c : Copy) (s : EndState) → is_behind_fin state ≡ true → OpensNothing (meaning_at state c s)
stays-meant State.Dead c s e = at-dead OpensNothing each-stays c
stays-meant State.Waiting c s e = absurd (true≢false (sym e))
stays-meant State.Listen c s e = absurd (true≢false (sym e))
stays-meant State.SynSent c s e = absurd (true≢false (sym e))
stays-meant State.SynReceived c s e = absurd (true≢false (sym e))
stays-meant State.Established c s e = absurd (true≢false (sym e))
stays-meant State.CloseWait c s e = absurd (true≢false (sym e))
stays-meant State.FinWait1 c s e = at-connected OpensNothing each-stays c s
stays-meant State.FinWait2 c s e = at-connected OpensNothing each-stays c s
stays-meant State.Closing c s e = at-connected OpensNothing each-stays c s
stays-meant State.LastAck c s e = at-connected OpensNothing each-stays c s
stays-meant State.TimeWait c s e = at-connected OpensNothing each-stays c s

-- the FIN of an end that opens isn't pushed
pub open-meant : (c : Copy) (s : EndState) (meaning : Meaning) → IsFinTold s.send.finished s.state → meaning ≡ meaning_of c s → (OpensNothing meaning → ⊥)
    → s.send.finished ≡ false
open-meant c s meaning told e opens = (elim s.send.finished as (λ b. IsFinTold b s.state → b ≡ false)
    [ false ↦ λ h. refl | true ↦ λ h. absurd (opens (subst OpensNothing (sym e) (stays-meant s.state c s h))) ]) told

-- ---- a payload that is kept first
abbrev beside : List (Option ℕ) → Option (List (Option ℕ)) → EndState → EndState
beside places incoming s = record s { recv = record s.recv { places = places; incoming = incoming } }

module _ (places : List (Option ℕ)) (incoming : Option (List (Option ℕ))) (c : Copy) (s : EndState) where
  acknowledging-beside : (o : Option ℕ) (pos : ℕ) → meaning_acknowledging o pos (beside places incoming s) ≡ meaning_acknowledging o pos s
  acknowledging-beside None pos = refl
  acknowledging-beside (Some acknowledged) pos = refl

  within-beside : (pos : ℕ) → meaning_within pos c (beside places incoming s) ≡ meaning_within pos c s
  within-beside pos =
      ap (λ (m : Meaning). if c.rst then (if pos == s.recv.edge then Meaning.Kills else Meaning.Challenged) else (if c.syn then Meaning.Challenged else m))
      (acknowledging-beside c.acknowledged pos)

  placed-beside : (o : Option ℕ) → meaning_placed o c (beside places incoming s) ≡ meaning_placed o c s
  placed-beside None = refl
  placed-beside (Some pos) = ap (λ (m : Meaning). if is_acceptable s.recv.edge pos c then m else meaning_outside c) (within-beside pos)

  connected-beside : meaning_connected c (beside places incoming s) ≡ meaning_connected c s
  connected-beside =
      ap (λ (m : Meaning). if is_at_limit s then Meaning.Ignored else (if is_repeated_syn c s then Meaning.RepeatedSyn else m)) (placed-beside c.position)

  answering-beside : (o : Option ℕ) → meaning_answering o c (beside places incoming s) ≡ meaning_answering o c s
  answering-beside None = refl
  answering-beside (Some acknowledged) = refl

  opening-beside : meaning_opening c (beside places incoming s) ≡ meaning_opening c s
  opening-beside = ap (λ (m : Meaning). if is_at_limit s then Meaning.Ignored else m) (answering-beside c.acknowledged)

  at-beside : (state : State) → meaning_at state c (beside places incoming s) ≡ meaning_at state c s
  at-beside State.Dead = refl
  at-beside State.Waiting = refl
  at-beside State.Listen = refl
  at-beside State.SynSent = opening-beside
  at-beside _ = connected-beside

  meant-beside : (b : Bool) → meaning_of c (record s { recv = (if b then record s.recv { places = places; incoming = incoming } else s.recv) }) ≡ meaning_of c s
  meant-beside true = at-beside s.state
  meant-beside false = refl

pub meant-kept : (meaning : Meaning) (keep : Bool) (payload : List ℕ) (c : Copy) (s : EndState) → meaning_of c (after_keeping_for meaning keep payload s) ≡ meaning_of c s
meant-kept Meaning.Opens keep payload c s = meant-beside _ _ c s (is_kept keep s)
meant-kept (Meaning.Accepts acknowledged) keep payload c s = meant-beside _ _ c s (is_kept keep s)
meant-kept (Meaning.Taken pos acknowledged) keep payload c s = meant-beside _ _ c s (is_kept keep s)
meant-kept _ keep payload c s = refl
