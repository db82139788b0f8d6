-- What is held doesn't change what a copy means.
use Rattle.path_core.proofs.Words.{◌≡◌, inl, inr, refl, sym, ap, ◌∙◌, ℕ, Bool, true, false, if◌then◌else◌, Option, Some, None, List, ◌==◌, State, Meaning}
use Rattle.path_core.proofs.Words.{is_acceptable, is_repeated_syn, meaning_answering, meaning_opening, meaning_outside, meaning_acknowledging, meaning_within}
use Rattle.path_core.proofs.Words.{meaning_placed, meaning_connected, meaning_at, meaning_of, Copy, EndState, is_at_limit, after_holding, is_nil, IsTakenAs}
use Rattle.path_core.proofs.Words.{with_payload}

module _ (position : ℕ) (octets : List ℕ) (s : EndState) where
  abbrev held : EndState
  held = after_holding position octets s

  acknowledging : (acknowledged : Option ℕ) (pos : ℕ) → meaning_acknowledging acknowledged pos held ≡ meaning_acknowledging acknowledged pos s
  acknowledging = elim [ None ↦ λ pos. refl | Some acknowledged ↦ λ pos. refl ]

  within : (pos : ℕ) (c : Copy) → meaning_within pos c held ≡ meaning_within pos c s
  within pos c =
      ap (λ (m : Meaning). if c.rst then (if pos == s.recv.edge then Meaning.Kills else Meaning.Challenged) else (if c.syn then Meaning.Challenged else m))
      (acknowledging c.acknowledged pos)

  placed : (pos : Option ℕ) (c : Copy) → meaning_placed pos c held ≡ meaning_placed pos c s
  placed None c = refl
  placed (Some pos) c = ap (λ (m : Meaning). if is_acceptable s.recv.edge pos c then m else meaning_outside c) (within pos c)

  connected : (c : Copy) → meaning_connected c held ≡ meaning_connected c s
  connected c =
      ap (λ (m : Meaning). if is_at_limit s then Meaning.Ignored else (if is_repeated_syn c s then Meaning.RepeatedSyn else m)) (placed c.position c)

  answering : (acknowledged : Option ℕ) (c : Copy) → meaning_answering acknowledged c held ≡ meaning_answering acknowledged c s
  answering = elim [ None ↦ λ c. refl | Some acknowledged ↦ λ c. refl ]

  opening : (c : Copy) → meaning_opening c held ≡ meaning_opening c s
  opening c = ap (λ (m : Meaning). if is_at_limit s then Meaning.Ignored else m) (answering c.acknowledged c)

  in_state : (state : State) (c : Copy) → meaning_at state c held ≡ meaning_at state c s
  in_state State.Waiting c = refl
  in_state State.Listen c = refl
  in_state State.SynSent c = opening c
  in_state State.Dead c = refl
  in_state _ c = connected c

  pub holding_means : (c : Copy) (nothing : Bool) → meaning_of c (if nothing then s else held) ≡ meaning_of c s
  holding_means c true = refl
  holding_means c false = in_state s.state c

pub means_the_same : (meaning : Meaning) (octets : List ℕ) (c : Copy) (s : EndState) → meaning_of c (with_payload meaning octets s) ≡ meaning_of c s
means_the_same (Meaning.Taken position acknowledged) octets c s = holding_means position octets s c (is_nil octets)
means_the_same _ octets c s = refl

-- a copy with its payload put in is taken as before
pub taken_the_same : (meaning : Meaning) (octets : List ℕ) (c : Copy) (s : EndState) → IsTakenAs meaning c s → IsTakenAs meaning c (with_payload meaning octets s)
taken_the_same meaning octets c s (inl ignored) = inl ignored
taken_the_same meaning octets c s (inr means) = inr (means ∙ sym (means_the_same meaning octets c s))
