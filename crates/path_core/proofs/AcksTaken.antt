-- A copy that is taken acknowledges a position that was sent.
use Rattle.path_core.proofs.Words.{◌≡◌, inl, inr, refl, sym, subst, ℕ, ◌≤◌, ◌&&◌, nat_lt, Bool, true, false, if◌then◌else◌, Option, Some, None, arith, ◌==◌}
use Rattle.path_core.proofs.Words.{unwrap_or, State, Meaning, is_syn_alone, is_acceptable, is_repeated_syn, meaning_answer, meaning_answering, meaning_opening}
use Rattle.path_core.proofs.Words.{meaning_outside, meaning_acknowledging, meaning_within, meaning_placed, meaning_connected, meaning_at, Copy, EndState}
use Rattle.path_core.proofs.Words.{is_at_limit, is_half_open, IsTakenAs}

module _ (c : Copy) (s : EndState) where
  pub record IsSent (acknowledged : ℕ) : Type 0 where
    pub so : unwrap_or c.acknowledged 0 ≡ acknowledged
    pub sent : acknowledged ≤ s.send.nxt

  abbrev pub AcknowledgesSent : Meaning → Type 0
  AcknowledgesSent (Meaning.Taken pos acknowledged) = IsSent acknowledged
  AcknowledgesSent _ = Unit {0}

  chosen : (b : Bool) (x y : Meaning) → AcknowledgesSent x → (b ≡ false → AcknowledgesSent y) → AcknowledgesSent (if b then x else y)
  chosen = elim [ true ↦ λ x y first second. first | false ↦ λ x y first second. second refl ]

  not_ahead : (acknowledged : ℕ) → nat_lt s.send.nxt acknowledged ≡ false → acknowledged ≤ s.send.nxt
  not_ahead acknowledged low = grind (arith, low)

  acknowledging : (o : Option ℕ) (pos : ℕ) → c.acknowledged ≡ o → AcknowledgesSent (meaning_acknowledging o pos s)
  acknowledging None pos is = tt
  acknowledging (Some acknowledged) pos is =
      chosen (nat_lt s.send.nxt acknowledged) Meaning.Ahead (if is_half_open s.state && acknowledged == 0 then Meaning.Unacknowledging else Meaning.Taken pos acknowledged)
      tt
      (λ low. chosen (is_half_open s.state && acknowledged == 0) Meaning.Unacknowledging (Meaning.Taken pos acknowledged) tt
      (λ _. record { so = rw is refl; sent = not_ahead acknowledged low }))

  outside : AcknowledgesSent (meaning_outside c)
  outside = chosen c.rst Meaning.Ignored Meaning.Outside tt (λ _. tt)

  within : (pos : ℕ) → AcknowledgesSent (meaning_within pos c s)
  within pos =
      chosen c.rst (if pos == s.recv.edge then Meaning.Kills else Meaning.Challenged) (if c.syn then Meaning.Challenged else meaning_acknowledging c.acknowledged pos s)
      (chosen (pos == s.recv.edge) Meaning.Kills Meaning.Challenged tt (λ _. tt))
      (λ _. chosen c.syn Meaning.Challenged (meaning_acknowledging c.acknowledged pos s) tt (λ _. acknowledging c.acknowledged pos refl))

  placed : (o : Option ℕ) → AcknowledgesSent (meaning_placed o c s)
  placed None = outside
  placed (Some pos) = elim (is_acceptable s.recv.edge pos c) as (λ b. AcknowledgesSent (if b then meaning_within pos c s else meaning_outside c))
      [ true ↦ within pos | false ↦ outside ]

  connected : AcknowledgesSent (meaning_connected c s)
  connected =
      chosen (is_at_limit s) Meaning.Ignored (if is_repeated_syn c s then Meaning.RepeatedSyn else meaning_placed c.position c s) tt
      (λ _. chosen (is_repeated_syn c s) Meaning.RepeatedSyn (meaning_placed c.position c s) tt (λ _. placed c.position))

  answering : (o : Option ℕ) → AcknowledgesSent (meaning_answering o c s)
  answering None = tt
  answering (Some acknowledged) = by _
    where
      answer : AcknowledgesSent (meaning_answer c acknowledged)
      answer =
          chosen c.rst Meaning.Kills (if c.syn then Meaning.Accepts acknowledged else Meaning.Ignored) tt
          (λ _. chosen c.syn (Meaning.Accepts acknowledged) Meaning.Ignored tt (λ _. tt))

      by : (b : Bool) → AcknowledgesSent (if b then meaning_answer c acknowledged else Meaning.Ignored)
      by = elim [ true ↦ answer | false ↦ tt ]

  opening : AcknowledgesSent (meaning_opening c s)
  opening = chosen (is_at_limit s) Meaning.Ignored (meaning_answering c.acknowledged c s) tt (λ _. answering c.acknowledged)

  meant : (state : State) → AcknowledgesSent (meaning_at state c s)
  meant State.Waiting = tt
  meant State.Listen = chosen (is_syn_alone c) Meaning.Opens Meaning.Ignored tt (λ _. tt)
  meant State.SynSent = opening
  meant State.Dead = chosen c.rst Meaning.Ignored Meaning.Unwanted tt (λ _. tt)
  meant _ = connected

  taken : (pos acknowledged : ℕ) → IsTakenAs (Meaning.Taken pos acknowledged) c s → IsSent acknowledged
  taken pos acknowledged (inl none) = absurd cc
  taken pos acknowledged (inr means) = subst AcknowledgesSent (sym means) (meant s.state)

-- a copy acknowledges what it is taken to acknowledge
pub acknowledges_so : (c : Copy) (s : EndState) (pos acknowledged : ℕ) → IsTakenAs (Meaning.Taken pos acknowledged) c s → unwrap_or c.acknowledged 0 ≡ acknowledged
acknowledges_so c s pos acknowledged is = (taken c s pos acknowledged is).so

-- and no later position than was sent
pub acknowledges_sent : (c : Copy) (s : EndState) (pos acknowledged : ℕ) → IsTakenAs (Meaning.Taken pos acknowledged) c s → acknowledged ≤ s.send.nxt
acknowledges_sent c s pos acknowledged is = (taken c s pos acknowledged is).sent
