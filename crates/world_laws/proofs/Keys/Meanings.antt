-- What a copy means to an end, and what copy and end are then.
use Rattle.world_laws.proofs.Words.{◌≡◌, refl, ap, ℕ, zero, suc, ◌≤◌, ◌&&◌, ◌==◌, not, nat_lt, nat_le, Bool, true, false, if◌then◌else◌, Option, Some, None}
use Rattle.world_laws.proofs.Words.{arith, is_none, ltb-true, and_parts, false≢true, true≢false, ltb-false, leb-true, is_half_open, Meaning, EndState}
use Rattle.world_laws.proofs.Words.{is_at_limit, EndPhase, is_syn_alone, is_repeated_syn, is_acceptable, meaning_outside, meaning_acknowledging, meaning_within}
use Rattle.world_laws.proofs.Words.{meaning_placed, meaning_connected, meaning_answer, meaning_answering, meaning_at, meaning_of, Copy}
use Rattle.world_laws.proofs.Keys.AreDrawn.{is_past}

-- a SYN comes to a listening end, its answer to an opening one, which acknowledges what was sent; all else to one that has the peer's SYN
abbrev pub Means : Copy → EndState → Meaning → Type 0
Means c s Meaning.Opens = (s.state ≡ EndPhase.Listen) × ((c.syn ≡ true) × ((c.rst ≡ false) × (c.fin ≡ false)))
Means c s (Meaning.Accepts acknowledged) = (s.state ≡ EndPhase.SynSent) × ((c.syn ≡ true) × ((c.rst ≡ false) × ((1 ≤ acknowledged) × (acknowledged ≤ s.send.nxt))))
Means c s (Meaning.Taken pos acknowledged) =
    (is_past s.state ≡ true) × ((c.syn ≡ false) × ((c.rst ≡ false) × ((c.position ≡ Some pos) × ((c.acknowledged ≡ Some acknowledged)
    × (is_half_open s.state ≡ true → (1 ≤ acknowledged) × (acknowledged ≤ s.send.nxt))))))
Means c s Meaning.Kills = Unit {0}
Means c s Meaning.Ignored = Unit {0}
Means c s Meaning.Unwanted = Unit {0}
Means c s _ = is_past s.state ≡ true

some_acked : (half : Bool) (n : ℕ) → half ≡ true → (half && n == 0) ≡ false → 1 ≤ n
some_acked true zero is none = absurd (true≢false none)
some_acked true (suc n) is none = omega arith
some_acked false n is none = absurd (false≢true is)

positive : (n : ℕ) → nat_lt 0 n ≡ true → 1 ≤ n
positive n is = let more = ltb-true 0 n is in omega (arith, more)

module _ (c : Copy) (s : EndState) where
  abbrev Is : Meaning → Type 0
  Is = Means c s

  either : (b : Bool) (x y : Meaning) → (b ≡ true → Is x) → (b ≡ false → Is y) → Is (if b then x else y)
  either = elim [ true ↦ λ x y first second. first refl | false ↦ λ x y first second. second refl ]

  module _ (past : is_past s.state ≡ true) where
    acknowledging : (o : Option ℕ) (pos : ℕ) → c.acknowledged ≡ o → c.position ≡ Some pos → c.rst ≡ false → c.syn ≡ false → Is (meaning_acknowledging o pos s)
    acknowledging None pos acks at rst syn = past
    acknowledging (Some acknowledged) pos acks at rst syn =
        either (nat_lt s.send.nxt acknowledged) Meaning.Ahead (if is_half_open s.state && acknowledged == 0 then Meaning.Unacknowledging else Meaning.Taken pos acknowledged) (λ is. past)
        (λ low. either (is_half_open s.state && acknowledged == 0) Meaning.Unacknowledging (Meaning.Taken pos acknowledged) (λ none. past)
        (λ none. (past, (syn, (rst, (at, (acks, λ half. (some_acked (is_half_open s.state) acknowledged half none, ltb-false s.send.nxt acknowledged low))))))))

    outside : Is (meaning_outside c)
    outside = either c.rst Meaning.Ignored Meaning.Outside (λ is. tt) (λ is. past)

    within : (pos : ℕ) → c.position ≡ Some pos → Is (meaning_within pos c s)
    within pos at =
        either c.rst (if pos == s.recv.edge then Meaning.Kills else Meaning.Challenged) (if c.syn then Meaning.Challenged else meaning_acknowledging c.acknowledged pos s)
        (λ is. either (pos == s.recv.edge) Meaning.Kills Meaning.Challenged (λ here. tt) (λ here. past))
        (λ rst. either c.syn Meaning.Challenged (meaning_acknowledging c.acknowledged pos s) (λ syn. past) (λ syn. acknowledging c.acknowledged pos refl at rst syn))

    placed : (o : Option ℕ) → c.position ≡ o → Is (meaning_placed o c s)
    placed None at = outside
    placed (Some pos) at = either (is_acceptable s.recv.edge pos c) (meaning_within pos c s) (meaning_outside c) (λ is. within pos at) (λ is. outside)

    connected : Is (meaning_connected c s)
    connected =
        either (is_at_limit s) Meaning.Ignored (if is_repeated_syn c s then Meaning.RepeatedSyn else meaning_placed c.position c s) (λ is. tt)
        (λ is. either (is_repeated_syn c s) Meaning.RepeatedSyn (meaning_placed c.position c s) (λ again. past) (λ again. placed c.position refl))

  answering : s.state ≡ EndPhase.SynSent → (o : Option ℕ) → Is (meaning_answering o c s)
  answering sent None = tt
  answering sent (Some acknowledged) =
      either (nat_lt 0 acknowledged && nat_le acknowledged s.send.nxt) (meaning_answer c acknowledged) Meaning.Ignored
      (λ is. let parts = and_parts (nat_lt 0 acknowledged) (nat_le acknowledged s.send.nxt) is in
      either c.rst Meaning.Kills (if c.syn then Meaning.Accepts acknowledged else Meaning.Ignored) (λ rst. tt)
      (λ rst. either c.syn (Meaning.Accepts acknowledged) Meaning.Ignored (λ syn. (sent, (syn, (rst, (positive acknowledged parts.0, leb-true acknowledged s.send.nxt parts.1))))) (λ syn. tt)))
      (λ is. tt)

  alone : s.state ≡ EndPhase.Listen → is_syn_alone c ≡ true → Is Meaning.Opens
  alone listens is =
      let syn = and_parts c.syn (not c.fin && (not c.rst && is_none c.acknowledged)) is in
      let fin = and_parts (not c.fin) (not c.rst && is_none c.acknowledged) syn.1 in
      let rst = and_parts (not c.rst) (is_none c.acknowledged) fin.1 in
      (listens, (syn.0, (is_not c.rst rst.0, is_not c.fin fin.0)))
    where
      is_not : (b : Bool) → not b ≡ true → b ≡ false
      is_not = elim [ true ↦ λ is. absurd (false≢true is) | false ↦ λ is. refl ]

  pub means : Means c s (meaning_of c s)
  means = (elim s.state as (λ state. s.state ≡ state → Means c s (meaning_at state c s)) [
    | EndPhase.Dead ↦ λ is. either c.rst Meaning.Ignored Meaning.Unwanted (λ rst. tt) (λ rst. tt)
    | EndPhase.Waiting ↦ λ is. tt
    | EndPhase.Listen ↦ λ is. either (is_syn_alone c) Meaning.Opens Meaning.Ignored (alone is) (λ no. tt)
    | EndPhase.SynSent ↦ λ is. either (is_at_limit s) Meaning.Ignored (meaning_answering c.acknowledged c s) (λ limit. tt) (λ limit. answering is c.acknowledged)
    | _ ↦ λ is. connected (ap is_past is)
  ]) refl
