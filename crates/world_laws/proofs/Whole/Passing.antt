-- What path 0 passes in silence, as long as no options are taken away.
use Rattle.world_laws.proofs.Words.{◌≡◌, refl, sym, ◌∙◌, ap, subst, ℕ, suc, ◌+◌, ◌||◌, not, nat_lt, inl, inr, ◌⊎◌, ⊎_elim, Bool, true, false, if◌then◌else◌}
use Rattle.world_laws.proofs.Words.{Option, Some, None, List, [], ◌∷◌, arith, is_some, ◌^◌, eqb-true, and_parts, both_ways, false≢true, or_right, IfSome, Side}
use Rattle.world_laws.proofs.Words.{A, B, peer, without_held, after_keep_held, Receiving, SendState, EndState, is_fin_passed, EndPhase, after_dropping_held}
use Rattle.world_laws.proofs.Words.{is_fin_next, after_passing_fin, is_at, Duty, SendDuty, StepDuty, AskDuty, SilentDuty, Heard, stands, passed, PathEnd}
use Rattle.world_laws.proofs.Words.{PathState, end_at, with_agenda, settled, Carried, with_timer_settled, mapping_here, forgotten_by, after_keep, is_dropped}
use Rattle.world_laws.proofs.Words.{after_check, is_not_kept, with_learned, with_data_fin, with_skipped, counts, item_of, item_passed, item_at}
use Rattle.subflow_tcp.specs.States as states
use Rattle.world_laws.proofs.Falls.FailedChecks.{forgets_so}
use Rattle.world_laws.proofs.Keys.AnswerHeardFirst.{passed_apart}
use Rattle.world_laws.proofs.Keys.AreDrawn.{is_past}
use Rattle.world_laws.proofs.Keys.DssIsTheSign.{IsUnclear, Leads, passed_leads, unheard, unled}
use Rattle.world_laws.proofs.Keys.WhatWakes.{NoWaking, is_up, passing_up, timer_up}
use Rattle.world_laws.proofs.Whole.Bytes.{NoneAt, NoneBelow, grows_self, none_below_next}
use Rattle.world_laws.proofs.Whole.Ends.{Base, Opens, Parts, TreatedIs, Unmet, parts_of}
use Rattle.world_laws.proofs.Whole.Paths.{PathIs, Steps, end_is, moved_step, path_any, path_fewer, path_puts, same_step, small_step, tail_fewer}

-- ---- states

never_now : (b c : Bool) → (c ≡ true → b ≡ true) → b ≡ false → c ≡ false
never_now b true back none = absurd (both_ways b none (back refl))
never_now b false back none = refl

-- an end that is no more awake than it was
pub unmet_moves : (x y : EndState) (p q : Parts) → p.state ≡ x.state → p.timing ≡ x.timing → q.state ≡ y.state → q.timing ≡ y.timing → NoWaking x y → (Opens p → Opens q) → Unmet p → Unmet q
unmet_moves x y p q ps pt qs qt moves opens h = record {
  past = ap is_past qs ∙ never_now (is_past x.state) (is_past y.state) moves.past (ap is_past (sym ps) ∙ h.past);
  still = ⊎_elim
      (λ closed. inl (rw (qs, qt) (never_now (is_up x) (is_up y) moves.up (subst (λ t. not (states.is_closed_to_segments x.state) || is_some t.timer ≡ false) pt (subst (λ z. not (states.is_closed_to_segments z) || is_some p.timing.timer ≡ false) ps closed)))))
      (λ is. inr (opens is))
      h.still;
}

-- ---- what is passed

module _ (s : Side) (ds : List Duty) (p : PathState Carried) (h : PathIs ds p) where
  abbrev e : PathEnd
  e = end_at s p

  abbrev vs : SendState
  vs = (end_at (peer s) p).tcp.send

  abbrev x : Parts
  x = parts_of (end_at s p)

  treated_is : TreatedIs x.copy x.held_edge
  treated_is = (end_is s ds p h).base.treated

  either_step : (b : Bool) (f g : PathEnd) → Steps s p f → Steps s p g → Steps s p (if b then f else g)
  either_step = elim [ true ↦ λ f g one other. one | false ↦ λ f g one other. other ]

  pub check_step : (checksums : Bool) → Steps s p (forgotten_by checksums (mapping_here e) e)
  check_step checksums = forgets_so (Steps s p) checksums (mapping_here e) e
      (λ recv forgets. small_step s ds p (record e { tcp = record e.tcp { recv = recv } }) refl refl refl refl refl refl (λ is. is)
      (inr (refl, (refl, (⊎_elim (λ same. ap (λ (r : Receiving). r.edge) same) (λ cut. ap (λ (r : Receiving). r.edge) cut.1) forgets, refl)))) treated_is h)

  or_never : (b : Bool) → b || false ≡ b
  or_never = elim [ true ↦ refl | false ↦ refl ]

  -- where it may send a DSS from now on
  pub cleared : (f : PathEnd) → (parts_of f).send ≡ x.send → (parts_of f).fin_at ≡ x.fin_at → (parts_of f).state ≡ x.state → (parts_of f).timing ≡ x.timing → (parts_of f).peer_infinite ≡ x.peer_infinite
      → (parts_of f).asked ≡ x.asked → (parts_of f).peer_key ≡ x.peer_key → (parts_of f).copy ≡ x.copy → (parts_of f).held_edge ≡ x.held_edge → f.modes.clear ≡ true → Steps s p f
  cleared f send fin state timing infinite asked key copy held clear =
      small_step s ds p f send fin state timing infinite asked (λ is. ap is_some key ∙ is) (inl clear)
      (subst (λ t. TreatedIs t f.treated.held_edge) (sym copy) (subst (TreatedIs x.copy) (sym held) treated_is)) h

  -- a mapping is learned where a DSS may be sent
  pub learned_step : e.modes.clear ≡ true → Steps s p (with_learned e)
  learned_step clear = cleared (with_learned e) refl refl refl refl refl refl refl refl refl clear

  dss_step : (t : Side) → s ≡ t → Steps s p (item_passed t (Some Heard.Dss) e)
  dss_step A same = cleared (item_passed A (Some Heard.Dss) e) refl refl refl refl refl refl refl refl refl (or_right e.modes.clear true refl)
  dss_step B same =
      small_step s ds p (item_passed B (Some Heard.Dss) e) refl refl refl refl refl refl (λ is. is) (inr (or_never e.modes.clear, (refl, (refl, refl)))) treated_is h

  pub heard_step : (o : Option Heard) → ((fin : Bool) → o ≡ Some (Heard.Mapping fin) → counts e ≡ true → e.modes.clear ≡ true) → Steps s p (item_passed s o e)
  heard_step None clears = same_step s ds p e refl h
  heard_step (Some Heard.Dss) clears = dss_step s refl
  heard_step (Some (Heard.Mapping fin)) clears = (elim (counts e) as (λ b. counts e ≡ b → Steps s p (if b then with_learned e else with_skipped e)) [
    | true ↦ λ is. learned_step (clears fin refl is)
    | false ↦ λ is. small_step s ds p (with_skipped e) refl refl refl refl refl refl (λ is. is) (inr (refl, (refl, (refl, refl)))) treated_is h
  ]) refl
  heard_step (Some (Heard.DataFin place)) clears = either_step (counts e) (with_data_fin place e) e (same_step s ds p (with_data_fin place e) refl h) (same_step s ds p e refl h)
  heard_step (Some (Heard.DataAck next window)) clears = same_step s ds p (item_passed s (Some (Heard.DataAck next window)) e) refl h
  heard_step (Some item) clears = same_step s ds p e refl h

  keep_step : (dropped passed lost : Bool)
      → Steps s p (record e {
        tcp = (if dropped then after_dropping_held e.tcp else record e.tcp { recv = (if passed then without_held e.tcp.recv else after_keep_held e.tcp.recv) });
        treated = record e.treated { held_edge = (if lost then None else e.treated.held_edge) };
      })
  keep_step dropped passed lost = by dropped passed lost
    where
      held : (b : Bool) → TreatedIs x.copy (if b then None else x.held_edge)
      held true = record { plain = treated_is.plain; opens = treated_is.opens; holds = tt; finite = treated_is.finite; answer = treated_is.answer }
      held false = treated_is

      by : (d q l : Bool) → Steps s p (record e {
        tcp = (if d then after_dropping_held e.tcp else record e.tcp { recv = (if q then without_held e.tcp.recv else after_keep_held e.tcp.recv) });
        treated = record e.treated { held_edge = (if l then None else e.treated.held_edge) };
      })
      by true q l = small_step s ds p _ refl refl refl refl refl refl (λ is. is) (inr (refl, (refl, (refl, refl)))) (held l) h
      by false true l = small_step s ds p _ refl refl refl refl refl refl (λ is. is) (inr (refl, (refl, (refl, refl)))) (held l) h
      by false false l = small_step s ds p _ refl refl refl refl refl refl (λ is. is) (inr (refl, (refl, (refl, refl)))) (held l) h

  opening_passed : (state : EndPhase) → states.is_opening state ≡ true → states.is_opening (states.after_fin_passed state) ≡ true
  opening_passed EndPhase.SynSent is = refl
  opening_passed EndPhase.Established is = absurd (false≢true is)
  opening_passed EndPhase.FinWait1 is = absurd (false≢true is)
  opening_passed EndPhase.FinWait2 is = absurd (false≢true is)
  opening_passed _ is = absurd (false≢true is)

  passed_edge : (o : Option ℕ) → IfSome o (λ n. NoneAt n vs) → is_at e.tcp.recv.edge o ≡ true → NoneBelow e.tcp.recv.edge vs → NoneBelow (e.tcp.recv.edge + 1) vs
  passed_edge None at is below = absurd (false≢true is)
  passed_edge (Some n) at is below =
      let same : n ≡ e.tcp.recv.edge = eqb-true n e.tcp.recv.edge is in
      let next : suc e.tcp.recv.edge ≡ e.tcp.recv.edge + 1 = omega arith in
      subst (λ k. NoneBelow k vs) next (none_below_next e.tcp.recv.edge vs below (subst (λ k. NoneAt k vs) same at))

  fin_step : Steps s p (record e { tcp = (if is_fin_next e.tcp then after_passing_fin e.tcp else e.tcp) })
  fin_step = by (is_fin_next e.tcp) refl
    where
      was : Base s (end_at (peer s) p).tcp.send (parts_of (end_at s p))
      was = (end_is s ds p h).base

      low : is_fin_next e.tcp ≡ true → (e.modes.clear ≡ true) ⊎ (NoneBelow (e.tcp.recv.edge + 1) vs × (x.mappings.live ≡ []))
      low is = ⊎_elim (λ clear. inl clear)
          (λ (both : NoneBelow x.recv.edge vs × (x.mappings.live ≡ [])). inr (passed_edge e.tcp.fin_at was.fin_at (and_parts (is_at e.tcp.recv.edge e.tcp.fin_at) (nat_lt e.tcp.recv.edge (2 ^ 62)) is).0 both.0, both.1)) was.low

      opens : Opens x → Opens (parts_of (record e { tcp = after_passing_fin e.tcp }))
      opens is = record { state = opening_passed e.tcp.state is.state; syns = is.syns; some = is.some }

      by : (b : Bool) → is_fin_next e.tcp ≡ b → Steps s p (record e { tcp = (if b then after_passing_fin e.tcp else e.tcp) })
      by true is = moved_step s ds p (record e { tcp = after_passing_fin e.tcp }) was.sends (grows_self e.tcp.send) refl refl refl refl (passed_apart s e.tcp.state ∙ was.apart) (low is) refl treated_is
          (λ unmet. unmet_moves e.tcp (after_passing_fin e.tcp) x (parts_of (record e { tcp = after_passing_fin e.tcp })) refl refl refl refl
          (subst (λ (c : Bool). NoWaking e.tcp (if c then after_passing_fin e.tcp else e.tcp)) is (passing_up e.tcp)) opens unmet) h
      by false is = same_step s ds p e refl h

  timer_step : Steps s p (with_timer_settled p.clock e)
  timer_step =
      let f : PathEnd = with_timer_settled p.clock e in let was = (end_is s ds p h).base in
      moved_step s ds p f was.sends (grows_self e.tcp.send) refl refl refl refl was.apart was.low refl treated_is
      (λ unmet. unmet_moves e.tcp f.tcp x (parts_of f) refl refl refl refl (timer_up p.clock e) (λ is. record { state = is.state; syns = is.syns; some = is.some }) unmet) h

-- A's end hears no mapping before a DSS, and B's counts none before it may send one
pub mapping_clear : (s : Side) (index : ℕ) (ds : List Duty) (p : PathState Carried) → PathIs (Duty.Step (StepDuty.Heard s index) ∷ ds) p → Leads (Duty.Step (StepDuty.Heard s index) ∷ ds) p → (fin : Bool)
    → item_of index (end_at s p) ≡ Some (Heard.Mapping fin) → counts (end_at s p) ≡ true → (end_at s p).modes.clear ≡ true
mapping_clear B index ds p h leads fin is has = h.b.base.keyed refl has
mapping_clear A index ds p h leads fin is has = ⊎_elim (λ clear. clear) (λ (u : IsUnclear (Duty.Step (StepDuty.Heard A index) ∷ ds) p). by p.a.modes.identity refl is u) leads.clear
  where
    by : (b : Bool) → p.a.modes.identity ≡ b → (if b then None else item_at index p.a.treated.items) ≡ Some (Heard.Mapping fin) → IsUnclear (Duty.Step (StepDuty.Heard A index) ∷ ds) p → p.a.modes.clear ≡ true
    by true plain is u = cc
    by false above is u =
        absurd (false≢true (unled u.n p.a.treated.items (Heard.Mapping fin) leads.led (unheard p u.n above u.none) (subst (λ n. item_at n p.a.treated.items ≡ Some (Heard.Mapping fin)) u.follows.0 is)))

passed_is : (d : Duty) (ds : List Duty) (p : PathState Carried) → Leads (d ∷ ds) p → PathIs (d ∷ ds) p → PathIs ds (passed d p)
passed_is (Duty.Ask (AskDuty.CheckFailed s)) ds p leads h =
    path_puts s (Duty.Ask (AskDuty.CheckFailed s) ∷ ds) ds p (after_check p.profile (end_at s p)) (check_step s (Duty.Ask (AskDuty.CheckFailed s) ∷ ds) p h p.profile.spelling.checksums) (tail_fewer (Duty.Ask (AskDuty.CheckFailed s)) ds) h
passed_is (Duty.Step (StepDuty.Heard s index)) ds p leads h =
    path_puts s (Duty.Step (StepDuty.Heard s index) ∷ ds) ds p (item_passed s (item_of index (end_at s p)) (end_at s p))
    (heard_step s (Duty.Step (StepDuty.Heard s index) ∷ ds) p h (item_of index (end_at s p)) (mapping_clear s index ds p h leads)) (tail_fewer (Duty.Step (StepDuty.Heard s index)) ds) h
passed_is (Duty.Step (StepDuty.PlainAck s)) ds p leads h =
    path_puts s (Duty.Step (StepDuty.PlainAck s) ∷ ds) ds p _ (same_step s (Duty.Step (StepDuty.PlainAck s) ∷ ds) p _ refl h) (tail_fewer (Duty.Step (StepDuty.PlainAck s)) ds) h
passed_is (Duty.Step (StepDuty.Unmapped s)) ds p leads h =
    path_puts s (Duty.Step (StepDuty.Unmapped s) ∷ ds) ds p _ (same_step s (Duty.Step (StepDuty.Unmapped s) ∷ ds) p _ refl h) (tail_fewer (Duty.Step (StepDuty.Unmapped s)) ds) h
passed_is (Duty.Silent (SilentDuty.Timer s)) ds p leads h =
    path_puts s (Duty.Silent (SilentDuty.Timer s) ∷ ds) ds p _ (timer_step s (Duty.Silent (SilentDuty.Timer s) ∷ ds) p h) (tail_fewer (Duty.Silent (SilentDuty.Timer s)) ds) h
passed_is (Duty.Silent (SilentDuty.Keep s)) ds p leads h =
    path_puts s (Duty.Silent (SilentDuty.Keep s) ∷ ds) ds p (after_keep s (end_at s p))
    (keep_step s (Duty.Silent (SilentDuty.Keep s) ∷ ds) p h (is_dropped s (end_at s p)) (is_fin_passed (end_at s p).tcp) (is_not_kept s (end_at s p))) (tail_fewer (Duty.Silent (SilentDuty.Keep s)) ds) h
passed_is (Duty.Silent (SilentDuty.PassFin s)) ds p leads h =
    path_puts s (Duty.Silent (SilentDuty.PassFin s) ∷ ds) ds p _ (fin_step s (Duty.Silent (SilentDuty.PassFin s) ∷ ds) p h) (tail_fewer (Duty.Silent (SilentDuty.PassFin s)) ds) h
passed_is (Duty.Send (SendDuty.Update s)) ds p leads h = path_fewer _ ds p (tail_fewer (Duty.Send (SendDuty.Update s)) ds) h
passed_is d ds p leads h = path_fewer (d ∷ ds) ds p (tail_fewer d ds) h

-- all that is passed, up to a duty that stands
pub settled_is : (ds : List Duty) (p : PathState Carried) → Leads ds p → PathIs ds p → PathIs (settled ds p).agenda (settled ds p)
settled_is [] p leads h = path_any [] [] p h
settled_is (d ∷ ds) p leads h = by (stands d p) refl (λ none. settled_is ds (passed d p) (passed_leads d ds p leads none) (passed_is d ds p leads h))
  where
    by : (b : Bool) → stands d p ≡ b → (stands d p ≡ false → PathIs (settled ds (passed d p)).agenda (settled ds (passed d p)))
        → PathIs (if b then with_agenda (d ∷ ds) p else settled ds (passed d p)).agenda (if b then with_agenda (d ∷ ds) p else settled ds (passed d p))
    by = elim [ true ↦ λ is rest. path_any (d ∷ ds) (d ∷ ds) p h | false ↦ λ is rest. rest is ]
