-- What the rules of a subflow leave of what its end shows.
--
-- Facts by cases on an enum under an `if` need a record around them, else nothing infers the arms (`Fitting` in
-- `proofs/Lanes/Hearing`).
use Rattle.world_laws.proofs.Words.{◌≡◌, refl, ◌∙◌, ap, ℕ, zero, suc, ◌&&◌, ◌==◌, nat_lt, nat_le, inl, inr, ◌⊎◌, ⊎_elim, Bool, true, false, if◌then◌else◌}
use Rattle.world_laws.proofs.Words.{Option, Some, None, List, [], ◌∷◌, take, arith, ◌<◌, and_parts, slice_get, Side, KeptMapping, Receiving, SendState, Meaning}
use Rattle.world_laws.proofs.Words.{EndState, is_at_limit, EndPhase, Copy, Profile, Lane}
use Rattle.byte_pieces.specs.Places.{cut, gap_before}
use Rattle.subflow_tcp.specs.Judging as judging
use Rattle.subflow_tcp.specs.States as states
use Rattle.world_laws.proofs.Lanes.Showing.{Under, Knowledge, is_unfinished, SenderShows, ReceiverShows}

-- ---- fewer octets

gap_there : (places : List (Option ℕ)) (i b : ℕ) → slice_get (gap_before places) (suc i) ≡ Some (Some b) → slice_get places i ≡ Some (Some b)
gap_there = elim [ [] ↦ λ i b e. cc | place ∷ places ↦ λ i b e. e ]

no_gap : (places : List (Option ℕ)) (b : ℕ) → slice_get (gap_before places) 0 ≡ Some (Some b) → ⊥
no_gap = elim [ [] ↦ λ b e. cc | place ∷ places ↦ λ b e. cc ]

pub cut_there : (n : ℕ) (places : List (Option ℕ)) (i b : ℕ) → slice_get (cut n places) i ≡ Some (Some b) → slice_get places i ≡ Some (Some b)
cut_there zero places i b e = cc
cut_there (suc n) [] i b e = cc
cut_there (suc n) (Some x ∷ places) zero b e = e
cut_there (suc n) (Some x ∷ places) (suc i) b e = cut_there n places i b e
cut_there (suc n) (None ∷ places) zero b e = absurd (no_gap (cut n places) b e)
cut_there (suc n) (None ∷ places) (suc i) b e = cut_there n places i b (gap_there (cut n places) i b e)

-- what is left after a cut, and that it is left
pub cut_within : (n : ℕ) (places : List (Option ℕ)) (i b : ℕ) → slice_get (cut n places) i ≡ Some (Some b) → i < n
cut_within zero places i b e = cc
cut_within (suc n) [] i b e = cc
cut_within (suc n) (Some x ∷ places) zero b e = omega arith
cut_within (suc n) (Some x ∷ places) (suc i) b e = let below = cut_within n places i b e in omega (arith, below)
cut_within (suc n) (None ∷ places) zero b e = omega arith
cut_within (suc n) (None ∷ places) (suc i) b e = let below = cut_within n places i b (gap_there (cut n places) i b e) in omega (arith, below)

pub cut_leaves : (n : ℕ) (places : List (Option ℕ)) (i b : ℕ) → i < n → slice_get places i ≡ Some (Some b) → slice_get (cut n places) i ≡ Some (Some b)
cut_leaves zero places i b below e = absurd (omega (arith, below))
cut_leaves (suc n) [] i b below e = cc
cut_leaves (suc n) (Some x ∷ places) zero b below e = e
cut_leaves (suc n) (Some x ∷ places) (suc i) b below e = cut_leaves n places i b (omega (arith, below)) e
cut_leaves (suc n) (None ∷ places) zero b below e = cc
cut_leaves (suc n) (None ∷ places) (suc i) b below e = (elim (cut n places) as (λ xs. (i b : ℕ) → slice_get xs i ≡ Some (Some b) → slice_get (gap_before xs) (suc i) ≡ Some (Some b))
    [ [] ↦ λ i b e. cc | x ∷ xs ↦ λ i b e. e ]) i b (cut_leaves n places i b (omega (arith, below)) e)

-- the lane forgets what the end does
taken_there : (n : ℕ) (places : List (Option ℕ)) (i b : ℕ) → slice_get (take n places) i ≡ Some (Some b) → (i < n) × (slice_get places i ≡ Some (Some b))
taken_there zero places i b e = cc
taken_there (suc n) [] i b e = cc
taken_there (suc n) (x ∷ places) zero b e = (omega arith, e)
taken_there (suc n) (x ∷ places) (suc i) b e = let rest = taken_there n places i b e in let below = rest.0 in (omega (arith, below), rest.1)

take_leaves : (n : ℕ) (places : List (Option ℕ)) (i b : ℕ) → i < n → slice_get places i ≡ Some (Some b) → slice_get (take n places) i ≡ Some (Some b)
take_leaves zero places i b below e = absurd (omega (arith, below))
take_leaves (suc n) [] i b below e = cc
take_leaves (suc n) (x ∷ places) zero b below e = e
take_leaves (suc n) (x ∷ places) (suc i) b below e = take_leaves n places i b (omega (arith, below)) e

pub under_cut : (n : ℕ) (places kept : List (Option ℕ)) → Under places kept → Under (cut n places) (take n kept)
under_cut n places kept u = record { each = λ i b e. take_leaves n kept i b (cut_within n places i b e) (u.each i b (cut_there n places i b e)) }

pub only_cut : (n : ℕ) (places kept : List (Option ℕ)) → Under kept places ⊎ (places ≡ []) → Under (take n kept) (cut n places) ⊎ (cut n places ≡ [])
only_cut n places kept (inl u) = inl (record { each = λ i b e. let there = taken_there n kept i b e in cut_leaves n places i b there.0 (u.each i b there.1) })
only_cut n places kept (inr none) = inr (ap (cut n) none ∙ (elim n as (λ n. cut n [] ≡ []) [ zero ↦ refl | suc n ↦ refl ]))

module _ (fin_at : Option ℕ) (live : List KeptMapping) (plain : Bool) (p : Lane) where
  -- all octets are let go, and what is held
  pub cut_shows : (n : ℕ) → n ≡ 0 → (recv : Receiving) → ReceiverShows recv fin_at live plain p → ReceiverShows (record recv { places = cut n recv.places; incoming = None }) fin_at live plain p
  cut_shows n none recv h = record {
    same_mode = h.same_mode;
    edge = ⊎_elim
        (λ at. inl (record { edge_is = at.edge_is; under = record { each = λ i b e. at.under.each i b (cut_there n recv.places i b e) }; only = inr (ap (λ m. cut m recv.places) none); held = tt }))
        (λ past. inr (record { at_is = past.at_is; none = λ i b e. past.none i b (cut_there n recv.places i b e); edge_is = past.edge_is; fin_in = past.fin_in }))
        h.edge;
    fin = h.fin;
    mapped = h.mapped;
  }

  pub dropped_shows : (recv : Receiving) → ReceiverShows recv fin_at live plain p → ReceiverShows (record recv { incoming = None }) fin_at live plain p
  dropped_shows recv h = record {
    same_mode = h.same_mode;
    edge = ⊎_elim
        (λ at. inl (record { edge_is = at.edge_is; under = at.under; only = at.only; held = tt }))
        (λ past. inr (record { at_is = past.at_is; none = past.none; edge_is = past.edge_is; fin_in = past.fin_in }))
        h.edge;
    fin = h.fin;
    mapped = h.mapped;
  }

-- ---- the state

module _ (c : Profile) (s : Side) (k : Knowledge) (p : Lane) where
  pub state_shows : (state after : EndPhase) (v : SendState) → (is_unfinished after ≡ true → is_unfinished state ≡ true) → SenderShows c s state v k p
      → SenderShows c s after v k p
  state_shows state after v back h = record {
    plain = h.plain;
    next = λ un. h.next (back un);
    unfinished = λ un. h.unfinished (back un);
    pieces = h.pieces;
    known_end = h.known_end;
    same_end = h.same_end;
    heard = h.heard;
    granted = h.granted;
    fin_acked = h.fin_acked;
    sent = h.sent;
  }

pub handshake_back : (state : EndPhase) → is_unfinished (states.after_handshake state) ≡ true → is_unfinished state ≡ true
handshake_back EndPhase.FinWait1 is = is
handshake_back EndPhase.FinWait2 is = is
handshake_back EndPhase.Closing is = is
handshake_back EndPhase.LastAck is = is
handshake_back EndPhase.TimeWait is = is
handshake_back EndPhase.Dead is = is
handshake_back _ is = refl

pub fin_acked_back : (state : EndPhase) → is_unfinished (states.after_fin_acked state) ≡ true → is_unfinished state ≡ true
fin_acked_back EndPhase.FinWait1 is = is
fin_acked_back EndPhase.FinWait2 is = is
fin_acked_back EndPhase.Closing is = is
fin_acked_back EndPhase.LastAck is = is
fin_acked_back EndPhase.TimeWait is = is
fin_acked_back EndPhase.Dead is = is
fin_acked_back _ is = refl

pub fin_passed_back : (state : EndPhase) → is_unfinished (states.after_fin_passed state) ≡ true → is_unfinished state ≡ true
fin_passed_back EndPhase.FinWait1 is = is
fin_passed_back EndPhase.FinWait2 is = is
fin_passed_back EndPhase.Closing is = is
fin_passed_back EndPhase.LastAck is = is
fin_passed_back EndPhase.TimeWait is = is
fin_passed_back EndPhase.Dead is = is
fin_passed_back _ is = refl

-- ---- what a copy means says something of it

-- a copy stands there, acknowledges so much, and is no SYN and no reset
pub record IsPlainCopy (c : Copy) (pos acknowledged : ℕ) : Type 0 where
  pub position_is : c.position ≡ Some pos
  pub acknowledged_is : c.acknowledged ≡ Some acknowledged
  pub no_syn : c.syn ≡ false
  pub no_reset : c.rst ≡ false

-- and of the end, whether it is unfinished
abbrev pub Fits : Copy → Bool → Meaning → Type 0
Fits c u (Meaning.Taken pos acknowledged) = IsPlainCopy c pos acknowledged
Fits c u (Meaning.Accepts acknowledged) = (c.syn ≡ true) × (u ≡ true)
Fits c u Meaning.Opens = (c.syn ≡ true) × (u ≡ true)
Fits c u _ = Unit {0}

pub record Fitting (c : Copy) (u : Bool) (m : Meaning) : Type 0 where
  pub fits : Fits c u m

fits_if : (c : Copy) {u : Bool} (b : Bool) (m n : Meaning) → (b ≡ true → Fitting c u m) → (b ≡ false → Fitting c u n) → Fitting c u (if b then m else n)
fits_if c true m n first other = first refl
fits_if c false m n first other = other refl

module _ (c : Copy) (s : EndState) (u : Bool) where
  outside_fits : Fitting c u (judging.meaning_outside c)
  outside_fits = fits_if c c.rst Meaning.Ignored Meaning.Outside (λ is. record { fits = tt }) (λ is. record { fits = tt })

  answer_fits : u ≡ true → (acknowledged : ℕ) → Fitting c u (judging.meaning_answer c acknowledged)
  answer_fits un acknowledged = fits_if c c.rst Meaning.Kills (if c.syn then Meaning.Accepts acknowledged else Meaning.Ignored) (λ rst. record { fits = tt }) (λ other. fits_if c c.syn (Meaning.Accepts acknowledged) Meaning.Ignored (λ syn. record { fits = (syn, un) }) (λ none. record { fits = tt }))

  answering_fits : u ≡ true → (o : Option ℕ) → Fitting c u (judging.meaning_answering o c s)
  answering_fits un None = record { fits = tt }
  answering_fits un (Some acknowledged) = fits_if c (nat_lt 0 acknowledged && nat_le acknowledged s.send.nxt) (judging.meaning_answer c acknowledged) Meaning.Ignored (λ is. answer_fits un acknowledged) (λ is. record { fits = tt })

  acknowledging_fits : (pos : ℕ) → c.position ≡ Some pos → c.syn ≡ false → c.rst ≡ false → (o : Option ℕ) → c.acknowledged ≡ o → Fitting c u (judging.meaning_acknowledging o pos s)
  acknowledging_fits pos at no_syn no_reset None is = record { fits = tt }
  acknowledging_fits pos at no_syn no_reset (Some acknowledged) is =
      fits_if c (nat_lt s.send.nxt acknowledged) Meaning.Ahead (if states.is_half_open s.state && acknowledged == 0 then Meaning.Unacknowledging else Meaning.Taken pos acknowledged) (λ ahead. record { fits = tt })
      (λ near. fits_if c (states.is_half_open s.state && acknowledged == 0) Meaning.Unacknowledging (Meaning.Taken pos acknowledged) (λ half. record { fits = tt })
      (λ other. record { fits = record { position_is = at; acknowledged_is = is; no_syn = no_syn; no_reset = no_reset } }))

  within_fits : (pos : ℕ) → c.position ≡ Some pos → Fitting c u (judging.meaning_within pos c s)
  within_fits pos at = fits_if c c.rst (if pos == s.recv.edge then Meaning.Kills else Meaning.Challenged) (if c.syn then Meaning.Challenged else judging.meaning_acknowledging c.acknowledged pos s)
      (λ rst. fits_if c (pos == s.recv.edge) Meaning.Kills Meaning.Challenged (λ edge. record { fits = tt }) (λ other. record { fits = tt }))
      (λ other. fits_if c c.syn Meaning.Challenged (judging.meaning_acknowledging c.acknowledged pos s) (λ syn. record { fits = tt }) (λ none. acknowledging_fits pos at none other c.acknowledged refl))

  placed_fits : (o : Option ℕ) → c.position ≡ o → Fitting c u (judging.meaning_placed o c s)
  placed_fits None at = outside_fits
  placed_fits (Some pos) at = fits_if c (judging.is_acceptable s.recv.edge pos c) (judging.meaning_within pos c s) (judging.meaning_outside c) (λ is. within_fits pos at) (λ is. outside_fits)

  connected_fits : Fitting c u (judging.meaning_connected c s)
  connected_fits = fits_if c (is_at_limit s) Meaning.Ignored (if judging.is_repeated_syn c s then Meaning.RepeatedSyn else judging.meaning_placed c.position c s) (λ is. record { fits = tt })
      (λ is. fits_if c (judging.is_repeated_syn c s) Meaning.RepeatedSyn (judging.meaning_placed c.position c s) (λ again. record { fits = tt }) (λ other. placed_fits c.position refl))

module _ (c : Copy) (s : EndState) where
  fits_at : (state : EndPhase) → Fitting c (is_unfinished state) (judging.meaning_at state c s)
  fits_at EndPhase.Dead = fits_if c c.rst Meaning.Ignored Meaning.Unwanted (λ is. record { fits = tt }) (λ is. record { fits = tt })
  fits_at EndPhase.Waiting = record { fits = tt }
  fits_at EndPhase.Listen = fits_if c (judging.is_syn_alone c) Meaning.Opens Meaning.Ignored (λ is. record { fits = ((and_parts c.syn _ is).0, refl) }) (λ is. record { fits = tt })
  fits_at EndPhase.SynSent = fits_if c (is_at_limit s) Meaning.Ignored (judging.meaning_answering c.acknowledged c s) (λ is. record { fits = tt }) (λ is. answering_fits c s true refl c.acknowledged)
  fits_at _ = connected_fits c s _

  pub meaning_fits : Fits c (is_unfinished s.state) (judging.meaning_of c s)
  meaning_fits = (fits_at s.state).fits
