-- What a copy is to an end that has both SYNs: it is answered at once or taken, where it is no reset and acknowledges something; and in the
-- window it is acceptable.
use Rattle.std.proofs.Common.{◌≡◌, refl, sym, subst, ap, ◌∙◌, inl, inr, ◌⊎◌, ⊎_elim, ℕ, ◌+◌, ◌<◌, ◌≤◌, ◌==◌, arith, eq-eqb, nat_le, nat_lt, ◌&&◌, ◌||◌, Bool, true, false, true≢false, if◌then◌else◌, Option, Some, None, List, [], length}
use Rattle.std.proofs.lemmas.Bool.{eqb-true, le-leb, le-ltb, lt-leb, lt-ltb, ne_eqb}
use Rattle.subflow_tcp.specs.Judging.{ends_in_window, is_acceptable, is_at_right_edge, is_in_window, is_repeated_syn, meaning_acknowledging, meaning_at, meaning_connected, meaning_of, meaning_outside, meaning_placed, meaning_within}
use Rattle.subflow_tcp.specs.Segments.{Copy, occupied}
use Rattle.subflow_tcp.specs.State.{EndState, is_at_limit}
use Rattle.subflow_tcp.specs.States.{is_dead, is_half_open}
use Rattle.subflow_tcp.specs.declared.handshake.State.{State as EndPhase}
use Rattle.subflow_tcp.specs.declared.handshake.State.TheVariants as phase
use Rattle.subflow_tcp.specs.declared.verdicts.Meaning.{Meaning}
use Rattle.subflow_tcp.specs.declared.verdicts.Meaning.TheVariants as means
use Rattle.path_core.specs.Judged.{is_taken}
use Rattle.whole_paths.specs.AsFar.{stage}
use Rattle.whole_paths.specs.ComingCopies.{ends_row, is_answered}

past_connected : (state : EndPhase) (c : Copy) (s : EndState) → 2 ≤ stage state → is_dead state ≡ false → meaning_at state c s ≡ meaning_connected c s
past_connected phase.Waiting c s high living = absurd (omega (arith, high))
past_connected phase.Listen c s high living = absurd (omega (arith, high))
past_connected phase.SynSent c s high living = absurd (omega (arith, high))
past_connected phase.Dead c s high living = absurd (true≢false living)
past_connected _ c s high living = refl

positive : (n : ℕ) → 0 < n → (n == 0) ≡ true → ⊥
positive n some is = let zero = eqb-true n 0 is in omega (arith, some, zero)

half_none : (half : Bool) (n : ℕ) → 0 < n → (half && n == 0) ≡ true → ⊥
half_none true n some is = positive n some is
half_none false n some is = true≢false (sym is)

module _ (c : Copy) (s : EndState) (opened : 2 ≤ stage s.state) (living : is_dead s.state ≡ false) (limit : is_at_limit s ≡ false) (rst : c.rst ≡ false) (n : ℕ) (acks : c.acknowledged ≡ Some n) (some : 0 < n) where
  -- what holds of both holds of the choice
  module _ (P : Meaning → Type 0) where
    choice : (b : Bool) (x y : Meaning) → (b ≡ true → P x) → (b ≡ false → P y) → P (if b then x else y)
    choice true x y first second = first refl
    choice false x y first second = second refl

    acknowledging : (pos : ℕ) → P means.Ahead → P (means.Taken pos n) → P (meaning_acknowledging c.acknowledged pos s)
    acknowledging pos far taken = subst (λ o. P (meaning_acknowledging o pos s)) (sym acks)
        (choice (nat_lt s.send.nxt n) means.Ahead (if is_half_open s.state && n == 0 then means.Unacknowledging else means.Taken pos n) (λ more. far)
        (λ sent. choice (is_half_open s.state && n == 0) means.Unacknowledging (means.Taken pos n) (λ none. absurd (half_none (is_half_open s.state) n some none)) (λ one. taken)))

    within : (pos : ℕ) → P means.Challenged → P means.Ahead → P (means.Taken pos n) → P (meaning_within pos c s)
    within pos syn far taken =
        subst (λ b. P (if b then (if pos == s.recv.edge then means.Kills else means.Challenged) else (if c.syn then means.Challenged else meaning_acknowledging c.acknowledged pos s))) (sym rst)
        (choice c.syn means.Challenged (meaning_acknowledging c.acknowledged pos s) (λ is. syn) (λ is. acknowledging pos far taken))

    outside : P means.Outside → P (meaning_outside c)
    outside away = subst (λ b. P (if b then means.Ignored else means.Outside)) (sym rst) away

    connected : P (if is_repeated_syn c s then means.RepeatedSyn else meaning_placed c.position c s) → P (meaning_of c s)
    connected h = subst P (sym (past_connected s.state c s opened living)) (subst (λ b. P (if b then means.Ignored else (if is_repeated_syn c s then means.RepeatedSyn else meaning_placed c.position c s))) (sym limit) h)

  -- it is answered at once, or taken
  abbrev IsHeeded : Meaning → Type 0
  IsHeeded m = (is_answered m ≡ true) ⊎ (is_taken m ≡ true)

  placed : (o : Option ℕ) → IsHeeded (meaning_placed o c s)
  placed None = outside IsHeeded (inl refl)
  placed (Some pos) = choice IsHeeded (is_acceptable s.recv.edge pos c) (meaning_within pos c s) (meaning_outside c) (λ is. within IsHeeded pos (inl refl) (inl refl) (inr refl)) (λ is. outside IsHeeded (inl refl))

  pub is_heeded : IsHeeded (meaning_of c s)
  is_heeded = connected IsHeeded (choice IsHeeded (is_repeated_syn c s) means.RepeatedSyn (meaning_placed c.position c s) (λ again. inl refl) (λ other. placed c.position))

  -- a segment that acknowledges something is no SYN that comes again
  abbrev Other : Meaning → Type 0
  Other m = m ≡ means.RepeatedSyn → ⊥

  placed_other : (o : Option ℕ) → Other (meaning_placed o c s)
  placed_other None = outside Other (λ is. cc)
  placed_other (Some pos) = choice Other (is_acceptable s.recv.edge pos c) (meaning_within pos c s) (meaning_outside c)
      (λ in_window. within Other pos (λ is. cc) (λ is. cc) (λ is. cc)) (λ away. outside Other (λ is. cc))

  pub is_other : is_repeated_syn c s ≡ false → Other (meaning_of c s)
  is_other once = connected Other (subst (λ b. Other (if b then means.RepeatedSyn else meaning_placed c.position c s)) (sym once) (placed_other c.position))

  -- ---- in the window

  module _ (pos : ℕ) (at : c.position ≡ Some pos) (from : s.recv.edge ≤ pos) (up_to : (pos < s.recv.edge + 1048576) ⊎ ((pos ≡ s.recv.edge + 1048576) × (c.payload ≡ []))) where
    accepted : is_acceptable s.recv.edge pos c ≡ true
    accepted = ⊎_elim
        (λ low. ap (λ b. b || (ends_in_window s.recv.edge pos (occupied c) || is_at_right_edge s.recv.edge pos (length c.payload)))
        (ap (λ b. b && nat_lt pos (s.recv.edge + 1048576)) (le-leb s.recv.edge pos from) ∙ lt-ltb pos (s.recv.edge + 1048576) low))
        (λ (edge : (pos ≡ s.recv.edge + 1048576) × (c.payload ≡ [])). last (is_in_window s.recv.edge pos) (ends_in_window s.recv.edge pos (occupied c))
        (ap (λ (octets : List ℕ). length octets == 0 && pos == s.recv.edge + 1048576) edge.1 ∙ ap (λ k. k == s.recv.edge + 1048576) edge.0 ∙ same (s.recv.edge + 1048576)))
        up_to
      where
        same : (k : ℕ) → (k == k) ≡ true
        same k = eq-eqb k k refl

        last : (a b : Bool) {d : Bool} → d ≡ true → (a || (b || d)) ≡ true
        last true b is = refl
        last false true is = refl
        last false false is = is

    -- it ends the row
    pub is_heard : is_repeated_syn c s ≡ false → ends_row (meaning_of c s) ≡ true
    is_heard other =
        let Ends : Meaning → Type 0 = λ m. ends_row m ≡ true in
        connected Ends (subst (λ b. Ends (if b then means.RepeatedSyn else meaning_placed c.position c s)) (sym other)
        (subst (λ o. Ends (meaning_placed o c s)) (sym at) (subst (λ b. Ends (if b then meaning_within pos c s else meaning_outside c)) (sym accepted) (within Ends pos refl refl refl))))

    -- where it is no SYN, and acknowledges what was sent, it is taken
    pub is_taken_there : is_repeated_syn c s ≡ false → c.syn ≡ false → n ≤ s.send.nxt → meaning_of c s ≡ means.Taken pos n
    is_taken_there other syn sent =
        let Takes : Meaning → Type 0 = λ m. m ≡ means.Taken pos n in
        connected Takes (subst (λ b. Takes (if b then means.RepeatedSyn else meaning_placed c.position c s)) (sym other)
        (subst (λ o. Takes (meaning_placed o c s)) (sym at) (subst (λ b. Takes (if b then meaning_within pos c s else meaning_outside c)) (sym accepted)
        (subst (λ b. Takes (if b then (if pos == s.recv.edge then means.Kills else means.Challenged) else (if c.syn then means.Challenged else meaning_acknowledging c.acknowledged pos s))) (sym rst)
        (subst (λ b. Takes (if b then means.Challenged else meaning_acknowledging c.acknowledged pos s)) (sym syn)
        (subst (λ o. Takes (meaning_acknowledging o pos s)) (sym acks)
        (subst (λ b. Takes (if b then means.Ahead else (if is_half_open s.state && n == 0 then means.Unacknowledging else means.Taken pos n))) (sym (le-ltb s.send.nxt n sent))
        (choice Takes (is_half_open s.state && n == 0) means.Unacknowledging (means.Taken pos n) (λ none. absurd (half_none (is_half_open s.state) n some none)) (λ one. refl)))))))))

  -- ---- before the window

  -- what occupies nothing there is outside, and answered
  module _ (pos : ℕ) (at : c.position ≡ Some pos) (behind : pos < s.recv.edge) (none : occupied c ≡ 0) where
    refused : is_acceptable s.recv.edge pos c ≡ false
    refused =
        let low : nat_le s.recv.edge pos ≡ false = lt-leb s.recv.edge pos behind in let apart : (pos == s.recv.edge + 1048576) ≡ false = ne_eqb pos (s.recv.edge + 1048576) (λ is. omega (arith, is, behind)) in
        outside_all (nat_le s.recv.edge pos) (nat_lt pos (s.recv.edge + 1048576)) (nat_lt 0 (occupied c)) _ (length c.payload == 0) (pos == s.recv.edge + 1048576) low (ap (λ k. nat_lt 0 k) none) apart
      where
        outside_all : (a b d e f g : Bool) → a ≡ false → d ≡ false → g ≡ false → ((a && b) || ((d && e) || (f && g))) ≡ false
        outside_all false b false e true false x y z = refl
        outside_all false b false e false false x y z = refl
        outside_all true b d e f g x y z = absurd (true≢false x)
        outside_all false b true e f g x y z = absurd (true≢false y)
        outside_all false b false e f true x y z = absurd (true≢false z)

    pub is_refused : is_answered (meaning_of c s) ≡ true
    is_refused =
        let Answers : Meaning → Type 0 = λ m. is_answered m ≡ true in
        connected Answers (choice Answers (is_repeated_syn c s) means.RepeatedSyn (meaning_placed c.position c s) (λ again. refl)
        (λ other. subst (λ o. Answers (meaning_placed o c s)) (sym at) (subst (λ b. Answers (if b then meaning_within pos c s else meaning_outside c)) (sym refused) (outside Answers refl))))
