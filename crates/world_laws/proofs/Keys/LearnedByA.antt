-- Every step of path 0 keeps that A's side has B's key, or is past being sure, where B answered, and where it may tell a sign of B.
--
-- A fact on the books in a path's invariant is a type `T` that the path's facts are said with
-- (`proofs/Keys/LearnedByA`); a step gives `T → U`.
use Rattle.world_laws.proofs.Words.{◌≡◌, refl, sym, ◌∙◌, ap, subst, ℕ, ◌||◌, inl, inr, ◌⊎◌, Bool, true, false, if◌then◌else◌, Option, Some, None, List, [], ◌∷◌}
use Rattle.world_laws.proofs.Words.{◌++◌, length, is_some, or_parts, both_ways, false≢true, IfSome, Verdict, Mode, FallEvent, is_starting, Side, A, B}
use Rattle.world_laws.proofs.Words.{ControlCall, ControlReply, KeptMapping, is_dead, is_waiting, Meaning, is_sixth, after_expiry, Outgoing}
use Rattle.world_laws.proofs.Words.{after_death, after_dropping_held, after_keeping_held, after_begin, is_fin_next, after_passing_fin, meaning_of, arriving}
use Rattle.world_laws.proofs.Words.{after_delivery, HeardSegment, PlainSegment, LineAction, rest_of_turn, emission, leaves, announces, withdraws, Duty}
use Rattle.world_laws.proofs.Words.{SendDuty, StepDuty, AskDuty, SilentDuty, Heard, KeyPair, key_heard, Ask, Reply, tail_of, stands, passed, PathEnd, died}
use Rattle.world_laws.proofs.Words.{modes_told, at_tick, PathState, end_at, goes_on, with_end, with_agenda, path_of, settled, Carried, values, hint_of}
use Rattle.world_laws.proofs.Words.{items_of, owes_by, options_heard, after_judged, asked_in, copy_judged, copy_of, judged_in, reset_for, template_of, heard_in}
use Rattle.world_laws.proofs.Words.{copy_heard, heard_at, Judged, step_for, after_line, happens_if, join_begun, never_joined, is_never, keys_begun, opened_by}
use Rattle.world_laws.proofs.Words.{is_joined, mode_refused, with_timer_settled, template_fired, timer_fired, mapping_here, forgotten_by, after_keep}
use Rattle.world_laws.proofs.Words.{after_pieces, is_dropped, after_check, after_pass_fin, with_learned, with_data_fin, with_skipped, held_of, HeardOption}
use Rattle.world_laws.proofs.Words.{after_dss, with_data_ack, item_of, item_passed, with_plain_ack, fell_in, mode_in, with_priority, sent_on, taken_as, Modes}
use Rattle.world_laws.proofs.Falls.FailedChecks.{forgets_so}
use Rattle.path_core.specs.declared.events.Event.{Event}
use Rattle.world_laws.proofs.Writes.Ends.{item_so}
use Rattle.world_laws.proofs.Keys.AnswerHeardFirst.{is_met, passed_met_state, is_accepts, Fits, fits, is_calm, signs, Fewer, same_duties, tail_fewer, new_duties, b_template, arrived_state, unmet_stays, a_template, a_signs}

-- ---- what is told

-- the mode that a reply tells of
abbrev pub mode_told : Reply → Option Mode
mode_told (Reply.Control (ControlReply.Standing mode standby sole notice)) = Some mode
mode_told (Reply.Control (ControlReply.Verdict (Verdict.Went mode))) = Some mode
mode_told (Reply.Control (ControlReply.Never mode)) = Some mode
mode_told (Reply.Control (ControlReply.Fallen mode)) = Some mode
mode_told _ = None

-- What is said of path 0, where T is that A's control book has B's key, or is past being sure.
module _ (T : Type 0) where
  -- T holds where a mode is told that isn't the first one
  abbrev pub ModeGains : Reply → Type 0
  ModeGains r = IfSome (mode_told r) (λ mode. is_starting mode ≡ false → T)

  -- where B's answer to the SYN shows no key, A's side falls back
  abbrev pub FellGains : FallEvent → Type 0
  FellGains FallEvent.PlainHandshake = T
  FellGains _ = Unit {0}

  abbrev pub CallGains : ControlCall → Type 0
  CallGains (ControlCall.PeerKey key) = T
  CallGains (ControlCall.Fell path event) = FellGains event
  CallGains _ = Unit {0}

  abbrev pub Gains : Ask → Reply → Type 0
  Gains (Ask.Control A call) r = ModeGains r × CallGains call
  Gains _ r = Unit {0}

  abbrev pub OfA : Side → Type 0 → Type 0
  OfA A P = P
  OfA B P = Unit {0}

  -- a mode that is told
  pub look_mode : (r : Reply) (m : Modes) → ModeGains r → is_starting (modes_told r m).mode ≡ false → (is_starting m.mode ≡ false) ⊎ T
  look_mode (Reply.Control (ControlReply.Standing mode standby sole notice)) m gains is = inr (gains is)
  look_mode (Reply.Control ControlReply.Noted) m gains is = inl is
  look_mode _ m gains is = inl is

  verdict_mode : (v : Verdict) (m : Modes) → ModeGains (Reply.Control (ControlReply.Verdict v)) → is_starting (mode_in (Reply.Control (ControlReply.Verdict v)) m).mode ≡ false
      → (is_starting m.mode ≡ false) ⊎ T
  verdict_mode = elim [ Verdict.Went mode ↦ λ m gains is. inr (gains is) | _ ↦ λ m gains is. inl is ]

  told_mode : (r : Reply) (m : Modes) → ModeGains r → is_starting (mode_in r m).mode ≡ false → (is_starting m.mode ≡ false) ⊎ T
  told_mode (Reply.Control (ControlReply.Verdict v)) m gains is = verdict_mode v m gains is
  told_mode (Reply.Control ControlReply.Noted) m gains is = inl is
  told_mode _ m gains is = inl is

  pub fell_mode : (event : FallEvent) (r : Reply) (m : Modes) → ModeGains r → is_starting (fell_in event r m).mode ≡ false → (is_starting m.mode ≡ false) ⊎ T
  fell_mode FallEvent.PlainData r m gains is = told_mode r m gains is
  fell_mode FallEvent.PlainAck r m gains is = told_mode r m gains is
  fell_mode FallEvent.PlainHandshake r m gains is = told_mode r m gains is
  fell_mode _ r m gains is = told_mode r m gains is

  pub refused_mode : (r : Reply) (mode : Mode) → ModeGains r → is_starting (mode_refused r mode) ≡ false → (is_starting mode ≡ false) ⊎ T
  refused_mode (Reply.Control (ControlReply.Never told)) mode gains is = inr (gains is)
  refused_mode (Reply.Control (ControlReply.Fallen told)) mode gains is = inr (gains is)
  refused_mode (Reply.Control ControlReply.Noted) mode gains is = inl is
  refused_mode _ mode gains is = inl is

  -- ---- a path

  pub record CalmMet (p : PathState Carried) : Type 0 where
    pub first : is_joined p.profile ≡ false
    pub calm : is_calm p.agenda ≡ true
    pub met : is_met p.a.tcp.state ≡ true → T
    pub signed : signs p.agenda ≡ true → T
    pub mode : is_starting p.a.modes.mode ≡ false → T

  -- A heard B's answer, and learns next whether that shows a key
  pub record Keying (p : PathState Carried) : Type 0 where
    pub first : is_joined p.profile ≡ false
    pub begins : Bool
    pub rest : List Duty
    pub agenda_is : p.agenda ≡ (if begins then Duty.Ask (AskDuty.SynAnswered A) ∷ Duty.Ask (AskDuty.PeerKey A) ∷ rest else Duty.Ask (AskDuty.PeerKey A) ∷ rest)
    pub calm : is_calm rest ≡ true
    pub mode : is_starting p.a.modes.mode ≡ false → T

  abbrev pub PathMet : PathState Carried → Type 0
  PathMet p = CalmMet p ⊎ Keying p

  -- once that is known
  pub known_met : (p : PathState Carried) → is_joined p.profile ≡ false → is_calm p.agenda ≡ true → T → CalmMet p
  known_met p first calm known = record { first = first; calm = calm; met = λ is. known; signed = λ is. known; mode = λ is. known }

  -- ---- an end goes on

  -- A's end is met where it was, and was told no more
  abbrev pub Goes : Side → PathState Carried → PathEnd → Type 0
  Goes A p e = (is_met e.tcp.state ≡ true → is_met p.a.tcp.state ≡ true) × (is_starting e.modes.mode ≡ false → (is_starting p.a.modes.mode ≡ false) ⊎ T)
  Goes B p e = Unit {0}

  told_more : (p : PathState Carried) → CalmMet p → (is_starting p.a.modes.mode ≡ false) ⊎ T → T
  told_more p h (inl is) = h.mode is
  told_more p h (inr known) = known

  pub goes_met : (s : Side) (e : PathEnd) (ds : List Duty) (p : PathState Carried) → Goes s p e → Fewer p.agenda ds → CalmMet p → CalmMet (goes_on s e ds p)
  goes_met A e ds p g fewer h =
      record { first = h.first; calm = fewer.calm h.calm; met = λ is. h.met (g.0 is); signed = λ is. h.signed (fewer.signs_fewer is); mode = λ is. told_more p h (g.1 is) }
  goes_met B e ds p g fewer h = record { first = h.first; calm = fewer.calm h.calm; met = h.met; signed = λ is. h.signed (fewer.signs_fewer is); mode = h.mode }

  pub sent_met : (s : Side) (sg : PlainSegment) (e : PathEnd) (ds : List Duty) (p : PathState Carried) → Goes s p e → Fewer p.agenda ds → CalmMet p → CalmMet (sent_on values s sg e ds p)
  sent_met A sg e ds p g fewer h = let n = goes_met A e ds p g fewer h in record { first = n.first; calm = n.calm; met = n.met; signed = n.signed; mode = n.mode }
  sent_met B sg e ds p g fewer h = let n = goes_met B e ds p g fewer h in record { first = n.first; calm = n.calm; met = n.met; signed = n.signed; mode = n.mode }

  pub same_goes : (s : Side) (e : PathEnd) (p : PathState Carried) → e.tcp.state ≡ (end_at s p).tcp.state → e.modes.mode ≡ (end_at s p).modes.mode → Goes s p e
  same_goes A e p state mode = (λ is. ap is_met (sym state) ∙ is, λ is. inl (ap is_starting (sym mode) ∙ is))
  same_goes B e p state mode = tt

  -- with another mode
  pub told_goes : (s : Side) (e : PathEnd) (p : PathState Carried) → e.tcp.state ≡ (end_at s p).tcp.state → OfA s (is_starting e.modes.mode ≡ false → (is_starting p.a.modes.mode ≡ false) ⊎ T) → Goes s p e
  told_goes = elim [ A ↦ λ e p state mode. (λ is. ap is_met (sym state) ∙ is, mode) | B ↦ λ e p state mode. tt ]

  -- with another state, in which it is met where it was
  pub state_goes : (s : Side) (e : PathEnd) (p : PathState Carried) → (is_met e.tcp.state ≡ true → is_met (end_at s p).tcp.state ≡ true) → e.modes.mode ≡ (end_at s p).modes.mode → Goes s p e
  state_goes A e p state mode = (state, λ is. inl (ap is_starting (sym mode) ∙ is))
  state_goes B e p state mode = tt

  pub agenda_met : (ds : List Duty) (p : PathState Carried) → Fewer p.agenda ds → CalmMet p → CalmMet (with_agenda ds p)
  agenda_met ds p fewer h = record { first = h.first; calm = fewer.calm h.calm; met = h.met; signed = λ is. h.signed (fewer.signs_fewer is); mode = h.mode }

  -- ---- in silence

  item_goes : (s : Side) (o : Option Heard) (p : PathState Carried) → Goes s p (item_passed s o (end_at s p))
  item_goes s o p =
      let e : PathEnd = end_at s p in
      item_so (Goes s p) s o e (same_goes s e p refl refl) (same_goes s (after_dss s e) p refl refl) (λ next. same_goes s (with_data_ack next e) p refl refl)
      (same_goes s (with_learned e) p refl refl) (same_goes s (with_skipped e) p refl refl) (λ place. same_goes s (with_data_fin place e) p refl refl)

  edge_goes : (s : Side) (checksums : Bool) (o : Option KeptMapping) (p : PathState Carried) → Goes s p (forgotten_by checksums o (end_at s p))
  edge_goes s checksums o p = let e : PathEnd = end_at s p in
      forgets_so (Goes s p) checksums o e (λ recv forgotten. same_goes s (record e { tcp = record e.tcp { recv = recv } }) p refl refl)

  keep_goes : (s : Side) (b : Bool) (held : Option ℕ) (p : PathState Carried)
      → Goes s p (record (end_at s p) { tcp = (if b then after_dropping_held (end_at s p).tcp else after_keeping_held (end_at s p).tcp); treated = record (end_at s p).treated { held_edge = held } })
  keep_goes s true held p = same_goes s (record (end_at s p) { tcp = after_dropping_held (end_at s p).tcp; treated = record (end_at s p).treated { held_edge = held } }) p refl refl
  keep_goes s false held p = same_goes s (record (end_at s p) { tcp = after_keeping_held (end_at s p).tcp; treated = record (end_at s p).treated { held_edge = held } }) p refl refl

  fin_goes : (s : Side) (b : Bool) (p : PathState Carried) → Goes s p (record (end_at s p) { tcp = (if b then after_passing_fin (end_at s p).tcp else (end_at s p).tcp) })
  fin_goes s true p = state_goes s (record (end_at s p) { tcp = after_passing_fin (end_at s p).tcp }) p (λ is. sym (passed_met_state (end_at s p).tcp.state) ∙ is) refl
  fin_goes s false p = same_goes s (end_at s p) p refl refl

  -- an end in the place of the path's own
  put_met : (s : Side) (e : PathEnd) (ds : List Duty) (p : PathState Carried) → Goes s p e → CalmMet (with_agenda ds p) → CalmMet (with_agenda ds (with_end s e p))
  put_met A e ds p g h = record { first = h.first; calm = h.calm; met = λ is. h.met (g.0 is); signed = h.signed; mode = λ is. told_more (with_agenda ds p) h (g.1 is) }
  put_met B e ds p g h = record { first = h.first; calm = h.calm; met = h.met; signed = h.signed; mode = h.mode }

  passed_met : (d : Duty) (ds : List Duty) (p : PathState Carried) → CalmMet (with_agenda ds p) → CalmMet (with_agenda ds (passed d p))
  passed_met (Duty.Silent (SilentDuty.Timer s)) ds p h = put_met s (with_timer_settled p.clock (end_at s p)) ds p (same_goes s (with_timer_settled p.clock (end_at s p)) p refl refl) h
  passed_met (Duty.Step (StepDuty.Heard s index)) ds p h = put_met s (item_passed s (item_of index (end_at s p)) (end_at s p)) ds p (item_goes s (item_of index (end_at s p)) p) h
  passed_met (Duty.Silent (SilentDuty.Keep s)) ds p h = put_met s (after_keep s (end_at s p)) ds p (keep_goes s (is_dropped s (end_at s p)) _ p) h
  passed_met (Duty.Step (StepDuty.PlainAck s)) ds p h = put_met s (with_plain_ack (end_at s p)) ds p (same_goes s (with_plain_ack (end_at s p)) p refl refl) h
  passed_met (Duty.Step (StepDuty.Unmapped s)) ds p h = put_met s (after_pieces (end_at s p)) ds p (same_goes s (after_pieces (end_at s p)) p refl refl) h
  passed_met (Duty.Ask (AskDuty.CheckFailed s)) ds p h = put_met s (after_check p.profile (end_at s p)) ds p (edge_goes s p.profile.spelling.checksums (mapping_here (end_at s p)) p) h
  passed_met (Duty.Silent (SilentDuty.PassFin s)) ds p h = put_met s (after_pass_fin (end_at s p)) ds p (fin_goes s (is_fin_next (end_at s p).tcp) p) h
  passed_met _ ds p h = h

  -- the first duty of a list is passed
  tail_met : (d : Duty) (ds : List Duty) (p : PathState Carried) → CalmMet (with_agenda (d ∷ ds) p) → CalmMet (with_agenda ds p)
  tail_met d ds p h =
      record { first = h.first; calm = (tail_fewer (d ∷ ds)).calm h.calm; met = h.met; signed = λ is. h.signed ((tail_fewer (d ∷ ds)).signs_fewer is); mode = h.mode }

  pub settled_met : (ds : List Duty) (p : PathState Carried) → CalmMet (with_agenda ds p) → CalmMet (settled ds p)
  settled_met [] p h = h
  settled_met (d ∷ ds) p h = (elim (stands d p) as (λ b. CalmMet (settled ds (passed d p)) → CalmMet (if b then with_agenda (d ∷ ds) p else settled ds (passed d p)))
      [ true ↦ λ rest. h | false ↦ λ rest. rest ]) (settled_met ds (passed d p) (passed_met d ds p (tail_met d ds p h)))

  pub own_agenda : (p : PathState Carried) → CalmMet p → CalmMet (with_agenda p.agenda p)
  own_agenda p h = agenda_met p.agenda p (same_duties p.agenda) h

  -- what A learns next stands, or its side isn't in the first mode any more
  keying_settled : (p : PathState Carried) → Keying p → PathMet (settled p.agenda p)
  keying_settled p h = subst (λ ds. PathMet (settled ds p)) (sym h.agenda_is) (by h.begins)
    where
      stays : (begins : Bool) (ds : List Duty) → ds ≡ (if begins then Duty.Ask (AskDuty.SynAnswered A) ∷ Duty.Ask (AskDuty.PeerKey A) ∷ h.rest else Duty.Ask (AskDuty.PeerKey A) ∷ h.rest) → Keying (with_agenda ds p)
      stays begins ds is = record { first = h.first; begins = begins; rest = h.rest; agenda_is = is; calm = h.calm; mode = h.mode }

      key : (b : Bool) → is_some (key_heard p.a.treated.items) || is_starting p.a.modes.mode ≡ b
          → PathMet (if b then with_agenda (Duty.Ask (AskDuty.PeerKey A) ∷ h.rest) p else settled h.rest p)
      key true is = inr (stays false (Duty.Ask (AskDuty.PeerKey A) ∷ h.rest) refl)
      key false is =
          inl (settled_met h.rest p (known_met (with_agenda h.rest p) h.first h.calm (h.mode (or_parts (is_some (key_heard p.a.treated.items)) (is_starting p.a.modes.mode) is).1)))

      by : (begins : Bool) → PathMet (settled (if begins then Duty.Ask (AskDuty.SynAnswered A) ∷ Duty.Ask (AskDuty.PeerKey A) ∷ h.rest else Duty.Ask (AskDuty.PeerKey A) ∷ h.rest) p)
      by true = inr (stays true (Duty.Ask (AskDuty.SynAnswered A) ∷ Duty.Ask (AskDuty.PeerKey A) ∷ h.rest) refl)
      by false = key (is_some (key_heard p.a.treated.items) || is_starting p.a.modes.mode) refl

  pub settles_met : (p : PathState Carried) → PathMet p → PathMet (settled p.agenda p)
  settles_met p (inl h) = inl (settled_met p.agenda p (own_agenda p h))
  settles_met p (inr h) = keying_settled p h

  -- ---- events

  pub died_goes : (s : Side) (p : PathState Carried) → Goes s p (died (end_at s p))
  died_goes s p = state_goes s (died (end_at s p)) p (λ is. absurd (false≢true is)) refl

  unless_dead_met : (p : PathState Carried) → CalmMet p → (b : Bool) → is_met (if b then p.a else died p.a).tcp.state ≡ true → T
  unless_dead_met p h true is = h.met is
  unless_dead_met p h false is = absurd (false≢true is)

  unless_dead_mode : (p : PathState Carried) → CalmMet p → (b : Bool) → is_starting (if b then p.a else died p.a).modes.mode ≡ false → T
  unless_dead_mode p h true is = h.mode is
  unless_dead_mode p h false is = h.mode is

  line_met : (action : LineAction) (p : PathState Carried) → CalmMet p → CalmMet (after_line action p)
  line_met (LineAction.Prio s backup) p h =
      goes_met s (with_priority backup (end_at s p)) (emission s) p (same_goes s (with_priority backup (end_at s p)) p refl refl) (new_duties p.agenda (emission s) refl refl) h
  line_met (LineAction.Announce s id) p h = agenda_met (announces s id) p (new_duties p.agenda (announces s id) refl refl) h
  line_met (LineAction.Withdraw s id) p h = agenda_met (withdraws s id) p (new_duties p.agenda (withdraws s id) refl refl) h
  line_met LineAction.Die p h = record {
    first = h.first;
    calm = calm (is_dead p.a.tcp.state) (is_dead p.b.tcp.state);
    met = unless_dead_met p h (is_dead p.a.tcp.state);
    signed = λ is. absurd (both_ways _ (quiet (is_dead p.a.tcp.state) (is_dead p.b.tcp.state)) is);
    mode = unless_dead_mode p h (is_dead p.a.tcp.state);
  }
    where
      calm : (x y : Bool) → is_calm ((if x then [] else Duty.Ask (AskDuty.Leave A) ∷ []) ++ ((if y then [] else Duty.Ask (AskDuty.Leave B) ∷ []) ++ rest_of_turn)) ≡ true
      calm true true = refl
      calm true false = refl
      calm false true = refl
      calm false false = refl

      quiet : (x y : Bool) → signs ((if x then [] else Duty.Ask (AskDuty.Leave A) ∷ []) ++ ((if y then [] else Duty.Ask (AskDuty.Leave B) ∷ []) ++ rest_of_turn)) ≡ false
      quiet true true = refl
      quiet true false = refl
      quiet false true = refl
      quiet false false = refl

  -- A begins a join
  pub begun_met : (r : Reply) (dead living : List Duty) (p : PathState Carried) → ModeGains r → Fewer p.agenda dead → Fewer p.agenda living → CalmMet p → CalmMet (join_begun r dead living p)
  begun_met r dead living p gains to_dead to_living h = elim (is_never r) as (λ b. CalmMet (if b then goes_on A (never_joined r p.a) dead p else goes_on A (opened_by (keys_begun r) p.a) living p))
      [ true ↦ goes_met A (never_joined r p.a) dead p (λ is. absurd (false≢true is), λ is. refused_mode r p.a.modes.mode gains is) to_dead h | false ↦ opens (keys_begun r) ]
    where
      begun : (b : Bool) → is_met (if b then after_begin p.a.tcp else p.a.tcp).state ≡ true → is_met p.a.tcp.state ≡ true
      begun = elim [ true ↦ λ is. absurd (false≢true is) | false ↦ λ is. is ]

      opens : (o : Option KeyPair) → CalmMet (goes_on A (opened_by o p.a) living p)
      opens None = goes_met A p.a living p (same_goes A p.a p refl refl) to_living h
      opens (Some keys) = goes_met A (opened_by (Some keys) p.a) living p (state_goes A (opened_by (Some keys) p.a) p (begun (is_waiting p.a.tcp.state)) refl) to_living h

  fired_met : (s : Side) (p : PathState Carried) → CalmMet p → CalmMet (timer_fired s p)
  fired_met s p h = elim (is_sixth (end_at s p).tcp) as (λ b. CalmMet (goes_on s (record e { tcp = (if b then after_death true e.tcp else after_expiry p.clock e.tcp) }) (template_fired b s) p)) [
    | true ↦ goes_met s (record e { tcp = after_death true e.tcp }) (template_fired true s) p (state_goes s (record e { tcp = after_death true e.tcp }) p (λ is. absurd (false≢true is)) refl) (calm true s) h
    | false ↦ goes_met s (record e { tcp = after_expiry p.clock e.tcp }) (template_fired false s) p (same_goes s (record e { tcp = after_expiry p.clock e.tcp }) p refl refl) (calm false s) h
  ]
    where
      e : PathEnd
      e = end_at s p

      calm : (b : Bool) (s : Side) → Fewer p.agenda (template_fired b s)
      calm true A = new_duties p.agenda _ refl refl
      calm true B = new_duties p.agenda _ refl refl
      calm false A = new_duties p.agenda _ refl refl
      calm false B = new_duties p.agenda _ refl refl

  -- ---- a copy

  asked_mode : (m : Meaning) (options : List HeardOption) (modes : Modes) → (asked_in m options modes).mode ≡ modes.mode
  asked_mode Meaning.Opens options modes = refl
  asked_mode Meaning.Ignored options modes = refl
  asked_mode _ options modes = refl

  module _ (now : ℕ) (heard : HeardSegment) (p : PathState Carried) where
    -- at A
    a_heard : (told : List KeptMapping) (answer : Outgoing) → CalmMet p
        → PathMet (goes_on A (copy_judged false told answer A now heard (meaning_of (copy_of heard) p.a.tcp) p.a) (template_of false A (items_of false A heard) (Judged.As (meaning_of (copy_of heard) p.a.tcp))) p)
    a_heard told answer h = by (meaning_of (copy_of heard) p.a.tcp) (fits (copy_of heard) p.a.tcp)
      where
        items : List Heard
        items = items_of false A heard

        after : Meaning → PathState Carried
        after m = goes_on A (copy_judged false told answer A now heard m p.a) (template_of false A items (Judged.As m)) p

        mode : (m : Meaning) → is_starting (after m).a.modes.mode ≡ false → T
        mode m is = h.mode (ap is_starting (sym (asked_mode m heard.options p.a.modes)) ∙ is)

        calm : (m : Meaning) → is_accepts m ≡ false → Fits p.a.tcp.state (copy_of heard) m → CalmMet (after m)
        calm m none fit = record {
          first = h.first;
          calm = a_template false (length items) (Judged.As m) (λ is. none);
          met = λ met. h.met (unmet_stays m (hint_of items) now (copy_of heard) heard.payload p.a.tcp none fit.0
              (ap is_met (sym (arrived_state m (owes_by m items) (hint_of items) now (copy_of heard) heard.payload p.a.tcp)) ∙ met));
          signed = λ is. h.met (fit.0 (a_signs false (length items) (Judged.As m) is).0);
          mode = mode m;
        }

        by : (m : Meaning) → Fits p.a.tcp.state (copy_of heard) m → PathMet (after m)
        by (Meaning.Accepts acknowledged) fit = inr (record {
          first = h.first;
          begins = true;
          rest = Duty.Ask (AskDuty.Live A) ∷ Duty.Send (SendDuty.Acknowledge A) ∷ emission A;
          agenda_is = refl;
          calm = refl;
          mode = mode (Meaning.Accepts acknowledged);
        })
        by Meaning.Ignored fit = inl (calm Meaning.Ignored refl fit)
        by m fit = inl (calm m refl fit)

    heard_a : (joined : Bool) → joined ≡ false → CalmMet p
        → PathMet (goes_on A (copy_judged joined (held_of p.profile A heard) (reset_for p.profile A heard) A now heard (taken_as (judged_in joined A heard p.a)) p.a)
        (template_of joined A (items_of joined A heard) (judged_in joined A heard p.a)) p)
    heard_a true joins h = absurd (false≢true (sym joins))
    heard_a false joins h = a_heard (held_of p.profile A heard) (reset_for p.profile A heard) h

    heard_b : (joined : Bool) → CalmMet p → (e : PathEnd) → CalmMet (goes_on B e (template_of joined B (items_of joined B heard) (judged_in joined B heard p.b)) p)
    heard_b joined h e =
        let due = b_template joined (length (items_of joined B heard)) (judged_in joined B heard p.b) in
        goes_met B e (template_of joined B (items_of joined B heard) (judged_in joined B heard p.b)) p tt (new_duties p.agenda _ due.0 due.1) h

  heard_met : (now : ℕ) (s : Side) (h : HeardSegment) (p : PathState Carried) → CalmMet p → PathMet (heard_at now s (Some h) p)
  heard_met now A h p calm = heard_a now (options_heard p.a h) p (is_joined p.profile) calm.first calm
  heard_met now B h p calm = inl (heard_b now (options_heard p.b h) p (is_joined p.profile) calm (after_judged p.profile B now (options_heard p.b h) (judged_in (is_joined p.profile) B (options_heard p.b h) p.b) p.b))

  copy_met : (s : Side) (o : Option HeardSegment) (p : PathState Carried) → CalmMet p → PathMet (copy_heard s o p)
  copy_met s None p h = inl (agenda_met (emission s) p (calm s) h)
    where
      calm : (s : Side) → Fewer p.agenda (emission s)
      calm = elim [ A ↦ new_duties p.agenda _ refl refl | B ↦ new_duties p.agenda _ refl refl ]
  copy_met s (Some heard) p h = heard_met p.clock s heard p h

  pub event_met : (o : Option Event) (r : Reply) (p : PathState Carried) → Gains (step_for (path_of p) o) r → CalmMet p → PathMet (happens_if values o r p)
  event_met None r p gains h = inl (agenda_met rest_of_turn p (new_duties p.agenda rest_of_turn refl refl) h)
  event_met (Some (Event.Joins tick)) r p gains h =
      inl (begun_met r (leaves A) (emission A) (record (at_tick tick p) { joined_at = None }) gains.0 (new_duties p.agenda _ refl refl) (new_duties p.agenda _ refl refl)
      (record { first = h.first; calm = h.calm; met = h.met; signed = h.signed; mode = h.mode }))
  event_met (Some (Event.Takes line)) r p gains h =
      inl (line_met line.action (record (at_tick line.tick p) { lines = tail_of p.lines }) (record { first = h.first; calm = h.calm; met = h.met; signed = h.signed; mode = h.mode }))
  event_met (Some (Event.Arrives due)) r p gains h =
      copy_met due.to (heard_in values due.to (arriving due p.link) p) (record (at_tick due.tick p) { link = after_delivery due p.link })
      (record { first = h.first; calm = h.calm; met = h.met; signed = h.signed; mode = h.mode })
  event_met (Some (Event.Fires s tick)) r p gains h = inl (fired_met s (at_tick tick p) (record { first = h.first; calm = h.calm; met = h.met; signed = h.signed; mode = h.mode }))

-- the more T says
pub more_met : (T U : Type 0) (p : PathState Carried) → (T → U) → PathMet T p → PathMet U p
more_met T U p more (inl h) = inl (record { first = h.first; calm = h.calm; met = λ is. more (h.met is); signed = λ is. more (h.signed is); mode = λ is. more (h.mode is) })
more_met T U p more (inr h) = inr (record { first = h.first; begins = h.begins; rest = h.rest; agenda_is = h.agenda_is; calm = h.calm; mode = λ is. more (h.mode is) })
