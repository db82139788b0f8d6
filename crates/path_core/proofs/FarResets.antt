-- A reset far ahead of what an end expects does the same to it, whether its position is heard or not.
use Rattle.path_core.proofs.Words.{◌≡◌, ◌⊎◌, inl, inr, refl, sym, ap, ◌∙◌, ℕ, ◌+◌, ◌-◌, ◌<◌, ◌≤◌, ◌&&◌, ◌||◌, nat_lt, Bool, true, false, if◌then◌else◌, Option}
use Rattle.path_core.proofs.Words.{Some, None, List, [], length, arith, ◌^◌, ◌==◌, ⊎_elim, cases_lt, result_ok, Side, peer, segment_meaning-written}
use Rattle.path_core.proofs.Words.{addresses_from, EndPhase, Meaning, is_acceptable, is_repeated_syn, meaning_answering, meaning_within, meaning_connected}
use Rattle.path_core.proofs.Words.{meaning_at, meaning_of, is_in_window, ends_in_window, is_at_right_edge, Copy, occupied, EndState, is_at_limit, Spelling}
use Rattle.path_core.proofs.Words.{PlainSegment, spelled, CanSay, spelled_text, stripped_means, stripped_is_heard, four, written, heard_as_meant, Expected}
use Rattle.path_core.proofs.Words.{meant, IsPositionFresh, numbers_of, subflow_number, heard_segment, HeardSegment, Heard, position_in, copy_of, reset_by}
use Rattle.path_core.proofs.Words.{reset_for, with_held, after_copy, judged_in, after_judged, template_of, told_at, copy_heard, IsFarReset, held_of, is_joined}
use Rattle.path_core.proofs.Words.{options_heard, items_of, PathState, end_at, goes_on, Judged, judged_of, taken_as, after_join, PathEnd, Profile}
use Rattle.std.proofs.Common.{option_map}
use Rattle.std.proofs.lemmas.Int.{ints}
use Rattle.std.specs.Option.{IsSome}
use Rattle.seq_units.specs.Number.{number_of, position_near}
use Rattle.segment_wire.specs.Changes as changes
use Rattle.path_segments.specs.declared.position.HeardPosition.{HeardPosition}
use Rattle.path_segments.specs.declared.position.HeardPosition.TheVariants.{At, Nowhere}
use Rattle.path_segments.specs.Heard.{heard_in}
use Rattle.path_segments.specs.HeardLent.{IsExpected}
use Rattle.subflow_tcp.specs.declared.segments.Outgoing.{Outgoing}

-- by this number, which names no position
abbrev pub unplaced : ℕ → HeardSegment → HeardSegment
unplaced number h = record h { position = Nowhere number }

-- ---- what octets tell

far_is_nowhere : (base expected position : ℕ) → expected + 2 ^ 31 ≤ position → position < 2 ^ 32
    → position_near (2 ^ 32) base expected (number_of (2 ^ 32) base position) ≡ None
unfolding position_near
far_is_nowhere base expected position ahead low = grind arith

module _ (spelling : Spelling) (from : Side) (expected : Expected) where
  from_text : (s : PlainSegment) → CanSay spelling from s
      → heard_in spelling from expected (spelled_text spelling from s) ≡ Some (heard_segment spelling from expected (spelled spelling from s))
  from_text s can =
      ap (λ r. option_map (heard_segment spelling from expected) (result_ok r))
      (segment_meaning-written (addresses_from spelling.path from) (spelled spelling from s)
      (four spelling.path from) (four spelling.path (peer from)) (written spelling from s can))

  module _ (s : PlainSegment) (can : CanSay spelling from s) (far : IsFarReset spelling from expected s) where
    -- a far reset, at the position that is expected in place of its own
    abbrev moved : PlainSegment
    moved = record s { position = expected.edge }

    can_move : CanSay spelling from moved
    can_move = record { path = can.path; window = can.window; options = can.options; room = can.room; fits = can.fits }

    position_alone : heard_segment spelling from expected (spelled spelling from s)
        ≡ unplaced (subflow_number spelling from s.position) (heard_segment spelling from expected (spelled spelling from moved))
    unfolding spelled
    position_alone = rw (far_is_nowhere (numbers_of spelling from).initial.0 expected.edge s.position far.ahead far.low) refl

    pub far_heard : IsExpected expected → heard_in spelling from expected (spelled_text spelling from s) ≡ Some (unplaced (subflow_number spelling from s.position) (meant s))
    far_heard is =
        from_text s can ∙ ap (λ h. Some h) position_alone
        ∙ ap (option_map (unplaced (subflow_number spelling from s.position))) (sym (from_text moved can_move) ∙ heard_as_meant spelling from expected moved can_move is far.others)

    stripped_position_alone : heard_segment spelling from expected (changes.stripped (spelled spelling from s))
        ≡ unplaced (subflow_number spelling from s.position) (heard_segment spelling from expected (changes.stripped (spelled spelling from moved)))
    unfolding spelled
    stripped_position_alone = rw (far_is_nowhere (numbers_of spelling from).initial.0 expected.edge s.position far.ahead far.low) refl

    -- a far reset without its options is heard at no position
    pub far_stripped_heard : IsExpected expected
        → heard_in spelling from expected (changes.text_stripped (addresses_from spelling.path from) (spelled_text spelling from s))
        ≡ Some (unplaced (subflow_number spelling from s.position) (record (meant s) { options = [] }))
    far_stripped_heard is =
        stripped_means spelling from s can expected ∙ ap (λ h. Some h) stripped_position_alone
        ∙ ap (option_map (unplaced (subflow_number spelling from s.position))) (sym (stripped_means spelling from moved can_move expected) ∙ stripped_is_heard spelling from expected moved can_move is far.others)

-- ---- what it means for the subflow

far_outside : (edge pos : ℕ) → edge + 2 ^ 31 ≤ pos → is_in_window edge pos ≡ false
far_outside edge pos far = grind arith

far_end : (edge pos len : ℕ) → edge + 2 ^ 31 ≤ pos → ends_in_window edge pos len ≡ false
far_end edge pos len far = (elim (nat_lt 0 len) as (λ b. is_in_window edge (pos + (len - 1)) ≡ false → (b && is_in_window edge (pos + (len - 1))) ≡ false)
    [ true ↦ λ last. last | false ↦ λ last. refl ]) (far_outside edge (pos + (len - 1)) (omega (arith, far)))

far_right_edge : (edge pos octets : ℕ) → edge + 2 ^ 31 ≤ pos → is_at_right_edge edge pos octets ≡ false
far_right_edge edge pos octets far = grind arith

far_unacceptable : (edge pos : ℕ) (c : Copy) → edge + 2 ^ 31 ≤ pos → is_acceptable edge pos c ≡ false
far_unacceptable edge pos c far = by _ _ _ (far_outside edge pos far) (far_end edge pos (occupied c) far) (far_right_edge edge pos (length c.payload) far)
  where
    by : (x y z : Bool) → x ≡ false → y ≡ false → z ≡ false → (x || (y || z)) ≡ false
    by false false false first last at = refl
    by true y z first last at = first
    by false true z first last at = last
    by false false true first last at = at

module _ (c : Copy) (pos : ℕ) (tcp : EndState) (far : tcp.recv.edge + 2 ^ 31 ≤ pos) where
  abbrev placed : Copy
  placed = record c { rst = true; position = Some pos }

  abbrev nowhere : Copy
  nowhere = record c { rst = true; position = None }

  connected : meaning_connected nowhere tcp ≡ meaning_connected placed tcp
  connected =
      ap (λ (b : Bool). if is_at_limit tcp then Meaning.Ignored
      else (if is_repeated_syn placed tcp then Meaning.RepeatedSyn else (if b then meaning_within pos placed tcp else Meaning.Ignored)))
      (sym (far_unacceptable tcp.recv.edge pos placed far))

  answering : (acknowledged : Option ℕ) → meaning_answering acknowledged nowhere tcp ≡ meaning_answering acknowledged placed tcp
  answering = elim [ None ↦ refl | Some acknowledged ↦ refl ]

  by_phase : (state : EndPhase) → meaning_at state nowhere tcp ≡ meaning_at state placed tcp
  by_phase EndPhase.Dead = refl
  by_phase EndPhase.Waiting = refl
  by_phase EndPhase.Listen = refl
  by_phase EndPhase.SynSent = ap (λ (m : Meaning). if is_at_limit tcp then Meaning.Ignored else m) (answering c.acknowledged)
  by_phase _ = connected

  pub same_meaning : meaning_of nowhere tcp ≡ meaning_of placed tcp
  same_meaning = by_phase tcp.state

-- ---- what it makes of the end

same_answer : (c : Profile) (s : Side) (position another : HeardPosition) (occupied : ℕ) (acknowledged : Option HeardPosition) → IsSome acknowledged
    → reset_by c s acknowledged position occupied ≡ reset_by c s acknowledged another occupied
same_answer c s position another occupied (Some heard) some = refl
same_answer c s position another occupied None some = absurd (cc some)

module _ (items : List Heard) (now number : ℕ) (h : HeardSegment) where
  same_effect : (answer : Outgoing) (m : Meaning) (e : PathEnd) → after_copy items answer now (unplaced number h) m e ≡ after_copy items answer now h m e
  same_effect answer Meaning.Ignored e = refl
  same_effect answer _ e = refl

module _ (s : Side) (now number : ℕ) (h : HeardSegment) where
  same_end : (c : Profile) (verdict : Judged) (e : PathEnd) → IsSome h.acknowledged
      → after_judged c s now (unplaced number h) verdict e ≡ after_judged c s now h verdict e
  same_end c verdict e some =
      let items = items_of (is_joined c) s h in let m = taken_as verdict in
      let before : PathEnd = after_join (is_joined c) items m (with_held (held_of c s h) h m e) in
      ap (λ (answer : Outgoing). after_copy items answer now (unplaced number h) m before)
      (same_answer c s (Nowhere number) h.position (occupied (copy_of h)) h.acknowledged some)
      ∙ same_effect items now number h (reset_for c s h) m before

module _ (number : ℕ) (h : HeardSegment) (pos : ℕ) (reset : h.rst ≡ true) (at : h.position ≡ At pos) where
  heard_meaning : (tcp : EndState) → tcp.recv.edge + 2 ^ 31 ≤ pos → meaning_of (copy_of (unplaced number h)) tcp ≡ meaning_of (copy_of h) tcp
  heard_meaning tcp far =
      ap (λ (b : Bool). meaning_of (record (copy_of (unplaced number h)) { rst = b }) tcp) reset
      ∙ same_meaning (copy_of h) pos tcp far
      ∙ sym (ap (λ (b : Bool). meaning_of (record (copy_of h) { rst = b }) tcp) reset
      ∙ ap (λ (o : HeardPosition). meaning_of (record (copy_of h) { rst = true; position = position_in o }) tcp) at)

  far_told : {C : Type 0} (s : Side) (now : ℕ) (p : PathState C) → IsSome h.acknowledged → (end_at s p).tcp.recv.edge + 2 ^ 31 ≤ pos
      → told_at now s (unplaced number h) p ≡ told_at now s h p
  far_told s now p some far =
      let e = end_at s p in let joined = is_joined p.profile in let items = items_of joined s h in
      ap (λ (m : Meaning).
      let verdict = judged_of joined h.rst items m e in goes_on s (after_judged p.profile s now (unplaced number h) verdict e) (template_of joined s items verdict) p)
      (heard_meaning e.tcp far)
      ∙ ap (λ (after : PathEnd). goes_on s after (template_of joined s items (judged_in joined s h e)) p)
      (same_end s now number h p.profile (judged_in joined s h e) e some)

pub far_treated : (number : ℕ) (h : HeardSegment) (pos : ℕ) → h.rst ≡ true → h.position ≡ At pos
    → {C : Type 0} (s : Side) (p : PathState C) → IsSome h.acknowledged → (end_at s p).tcp.recv.edge + 2 ^ 31 ≤ pos
    → copy_heard s (Some (unplaced number h)) p ≡ copy_heard s (Some h) p
far_treated number h pos reset at s p some far = far_told number (options_heard (end_at s p) h) pos reset at s p.clock p some far

-- ---- which resets are far

-- to an end that expects at most position 2^31 each position below 2^32 is near, or far ahead
pub near_or_far : (edge position : ℕ) → edge ≤ 2 ^ 31 → position < 2 ^ 32 → IsPositionFresh edge position ⊎ (edge + 2 ^ 31 ≤ position)
near_or_far edge position few low =
    ⊎_elim (λ near. inl (record { behind = omega (arith, ints, few); ahead = omega (arith, ints, near) })) (λ far. inr far)
    (cases_lt position (edge + 2 ^ 31))
