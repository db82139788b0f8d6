-- Duties that are done at an end that stands so: a SYN/ACK and an answer at one that isn't closed, a refusal at one that listens, and the answer of a dead end
-- at a dead one.
use Rattle.std.proofs.Common.{◌≡◌, refl, sym, ap, ◌∙◌, subst, inl, inr, ◌⊎◌, not, Bool, true, false, if◌then◌else◌, Option, Some, None, List, [], ◌∷◌, ◌++◌}
use Rattle.std.proofs.lemmas.Bool.{and_parts, false≢true}
use Rattle.actor_desk.specs.Words.{tail_of}
use Rattle.actor_desk.specs.declared.ask.Reply.{Reply}
use Rattle.fallback_state.specs.declared.fall.Event.{Event as FallEvent}
use Rattle.join_handshake.specs.declared.hearing.JoinSyn.{JoinSyn}
use Rattle.path_agenda.specs.Agenda.{emission, expired, leaves, rest_of_turn}
use Rattle.path_agenda.specs.Words.{replaced}
use Rattle.path_agenda.specs.declared.duty.AskDuty.{AskDuty}
use Rattle.path_agenda.specs.declared.duty.Duty.{Duty}
use Rattle.path_agenda.specs.declared.duty.SendDuty.{SendDuty}
use Rattle.path_agenda.specs.declared.keys.KeyPair.{KeyPair}
use Rattle.path_core.specs.Duties.{answered, passed, stands}
use Rattle.path_core.specs.End.{PathEnd}
use Rattle.path_core.specs.Events.{after_line}
use Rattle.path_core.specs.Fallback.{answered_fell, fell_duties}
use Rattle.path_core.specs.MpJoin.{asked_at, is_listening, is_never, join_begun, join_taken, joined_by, keys_begun, syn_of_window}
use Rattle.path_core.specs.Standing.{is_connected}
use Rattle.path_core.specs.State.{PathState, end_at, goes_on, left, with_agenda}
use Rattle.path_core.specs.Steps.{settled}
use Rattle.path_core.specs.Timer.{template_fired, timer_fired}
use Rattle.path_core.specs.Values.{Carried, values}
use Rattle.path_store.specs.declared.lines.LineAction.{LineAction}
use Rattle.sides.specs.declared.side.Side.TheVariants.{A, B}
use Rattle.sides.specs.declared.side.Side.{Side}
use Rattle.subflow_tcp.specs.Expiring.{after_expiry, is_sixth}
use Rattle.subflow_tcp.specs.State.{EndState}
use Rattle.subflow_tcp.specs.States.{is_closed_to_segments, is_dead}
use Rattle.subflow_tcp.specs.Taking.{after_death, after_syn, unkept}
use Rattle.world_laws.proofs.Falls.Verdicts.{fell_cases}
use Rattle.world_laws.specs.Writes.{side_of}
use Rattle.own_runs.proofs.DutiesFew.{IsNoEvent, JoinsNone, duty_free, is_free, is_rare, settled_free}

-- these tell how an end stands
abbrev pub is_weighty : Duty → Bool
is_weighty (Duty.Ask (AskDuty.JoinHeard s)) = true
is_weighty (Duty.Send (SendDuty.SynAck s)) = true
is_weighty (Duty.Send (SendDuty.Refuse s)) = true
is_weighty (Duty.Send (SendDuty.Answer s)) = true
is_weighty (Duty.Send (SendDuty.ResetAnswer s)) = true
is_weighty (Duty.Send (SendDuty.Resend s)) = true
is_weighty _ = false

pub rare : (x : Duty) → is_rare x ≡ false → is_weighty x ≡ false
rare (Duty.Ask (AskDuty.JoinHeard s)) is = absurd (false≢true (sym is))
rare (Duty.Send (SendDuty.SynAck s)) is = absurd (false≢true (sym is))
rare (Duty.Send (SendDuty.Refuse s)) is = absurd (false≢true (sym is))
rare (Duty.Send (SendDuty.Answer s)) is = absurd (false≢true (sym is))
rare (Duty.Send (SendDuty.ResetAnswer s)) is = absurd (false≢true (sym is))
rare (Duty.Send (SendDuty.Resend s)) is = absurd (false≢true (sym is))
rare _ is = refl

abbrev pub none_weighty : List Duty → Type 0
none_weighty ds = is_free is_weighty rare ds ≡ true

-- what goes before one, and leaves the end as it stands
abbrev pub is_lead : Duty → Bool
is_lead (Duty.Ask (AskDuty.SynHeard s)) = true
is_lead (Duty.Ask (AskDuty.PlainHandshake s)) = true
is_lead (Duty.Ask (AskDuty.GoIdentity s)) = true
is_lead (Duty.Ask (AskDuty.Return s)) = true
is_lead _ = false

passed_lead : (d : Duty) (q : PathState Carried) → is_lead d ≡ true → passed d q ≡ q
passed_lead (Duty.Ask (AskDuty.SynHeard s)) q is = refl
passed_lead (Duty.Ask (AskDuty.PlainHandshake s)) q is = refl
passed_lead (Duty.Ask (AskDuty.GoIdentity s)) q is = refl
passed_lead (Duty.Ask (AskDuty.Return s)) q is = refl
passed_lead _ q is = absurd (false≢true is)

-- ---- what holds of the end of a side on a path on which that end went on

pub put_holds : (s : Side) (P : EndState → Type 0) (e : PathEnd) (es : List Duty) (p : PathState Carried) → P e.tcp → P (end_at s (goes_on s e es p)).tcp
put_holds A P e es p h = h
put_holds B P e es p h = h

-- with the same subflow at each end
abbrev pub SameEnds : PathState Carried → PathState Carried → Type 0
SameEnds p q = (s : Side) → (end_at s q).tcp ≡ (end_at s p).tcp

agenda_same : (es : List Duty) (p : PathState Carried) → SameEnds p (with_agenda es p)
agenda_same es p A = refl
agenda_same es p B = refl

goes_same : (s : Side) (e : PathEnd) (es : List Duty) (p : PathState Carried) → e.tcp ≡ (end_at s p).tcp → SameEnds p (goes_on s e es p)
goes_same A e es p same A = same
goes_same A e es p same B = refl
goes_same B e es p same A = refl
goes_same B e es p same B = same

-- where A's SYN was sent
module _ (U : Type 0) where
  -- the end at which this is done
  abbrev pub FitsAt : Duty → EndState → Type 0
  FitsAt (Duty.Ask (AskDuty.JoinHeard s)) t = (is_listening t.state ≡ true) × U
  FitsAt (Duty.Send (SendDuty.SynAck s)) t = is_closed_to_segments t.state ≡ false
  FitsAt (Duty.Send (SendDuty.Refuse s)) t = is_listening t.state ≡ true
  FitsAt (Duty.Send (SendDuty.Answer s)) t = (is_closed_to_segments t.state ≡ false) × ((t.due.syn_ack ≡ true) ⊎ (is_connected t.state ≡ true))
  FitsAt (Duty.Send (SendDuty.ResetAnswer s)) t = is_dead t.state ≡ true
  FitsAt (Duty.Send (SendDuty.Resend s)) t = is_closed_to_segments t.state ≡ false
  FitsAt _ t = ⊥

  abbrev pub Fits : Duty → PathState Carried → Type 0
  Fits d p = FitsAt d (end_at (side_of d) p).tcp

  -- such a duty is the only one, behind some that leave the end as it stands
  abbrev pub Led : List Duty → PathState Carried → Type 0
  Led [] p = ⊥
  Led (d ∷ ds) p = (Fits d p × none_weighty ds) ⊎ ((is_lead d ≡ true) × Led ds p)

  abbrev pub OwesAt : List Duty → PathState Carried → Type 0
  OwesAt ds p = none_weighty ds ⊎ Led ds p

  abbrev pub Owes : PathState Carried → Type 0
  Owes p = OwesAt p.agenda p

  fits_same : (d : Duty) (p q : PathState Carried) → SameEnds p q → Fits d p → Fits d q
  fits_same d p q same h = subst (FitsAt d) (sym (same (side_of d))) h

  led_same : (ds : List Duty) (p q : PathState Carried) → SameEnds p q → Led ds p → Led ds q
  led_same [] p q same h = h
  led_same (d ∷ ds) p q same (inl fits) = inl (fits_same d p q same fits.0, fits.1)
  led_same (d ∷ ds) p q same (inr more) = inr (more.0, led_same ds p q same more.1)

  owes_same : (ds : List Duty) (p q : PathState Carried) → SameEnds p q → OwesAt ds p → OwesAt ds q
  owes_same ds p q same (inl free) = inl free
  owes_same ds p q same (inr led) = inr (led_same ds p q same led)

  -- ---- what is passed

  free_settles : (ds : List Duty) (q : PathState Carried) → none_weighty ds → Owes (settled ds q)
  free_settles ds q free = inl (settled_free is_weighty rare (with_agenda ds q) free ds q free)

  if_settles : (b : Bool) (d : Duty) (ds : List Duty) (q : PathState Carried) → Owes (with_agenda (d ∷ ds) q) → Owes (settled ds (passed d q)) → Owes (if b then with_agenda (d ∷ ds) q else settled ds (passed d q))
  if_settles true d ds q stays rest = stays
  if_settles false d ds q stays rest = rest

  led_settles : (ds : List Duty) (q : PathState Carried) → Led ds q → Owes (settled ds q)
  led_settles [] q h = absurd h
  led_settles (d ∷ ds) q (inl fits) = if_settles (stands d q) d ds q (inr (inl (fits_same d q (with_agenda (d ∷ ds) q) (agenda_same (d ∷ ds) q) fits.0, fits.1))) (free_settles ds (passed d q) fits.1)
  led_settles (d ∷ ds) q (inr more) =
      if_settles (stands d q) d ds q (inr (inr (more.0, led_same ds q (with_agenda (d ∷ ds) q) (agenda_same (d ∷ ds) q) more.1)))
      (subst (λ (x : PathState Carried). Owes (settled ds x)) (sym (passed_lead d q more.0)) (led_settles ds q more.1))

  pub owes_settles : (ds : List Duty) (q : PathState Carried) → OwesAt ds q → Owes (settled ds q)
  owes_settles ds q (inl free) = free_settles ds q free
  owes_settles ds q (inr led) = led_settles ds q led

  -- ---- what is next

  pub first_owes : (d : Duty) (ds : List Duty) (p : PathState Carried) → OwesAt (d ∷ ds) p → (is_weighty d ≡ true) → is_lead d ≡ false → Fits d p
  first_owes d ds p (inl free) is lead = let none = (and_parts (not (is_weighty d)) _ free).0 in absurd (false≢true (sym (ap not is) ∙ none))
  first_owes d ds p (inr (inl fits)) is lead = fits.0
  first_owes d ds p (inr (inr more)) is lead = absurd (false≢true (sym lead ∙ more.0))

  -- ---- replies

  module _ (r : Reply) (p : PathState Carried) where
    on_led : (s : Side) (e : PathEnd) (es : List Duty) → e.tcp ≡ (end_at s p).tcp → OwesAt es p → Owes (goes_on s e es p)
    on_led s e es same h = owes_same es p (goes_on s e es p) (goes_same s e es p same) h

    -- where such a one comes next
    module _ (d : Duty) (ds : List Duty) (same : p.agenda ≡ d ∷ ds) where
      left_is : left p ≡ ds
      left_is = ap tail_of same

      rest_owes : OwesAt ds p → OwesAt (left p) p
      rest_owes h = subst (λ (xs : List Duty). OwesAt xs p) (sym left_is) h

      done_owes : OwesAt ds p → Owes (with_agenda (left p) p)
      done_owes h = owes_same (left p) p (with_agenda (left p) p) (agenda_same (left p) p) (rest_owes h)

      fell_owes : (s : Side) (event : FallEvent) → Led ds p → Owes (answered_fell s event r p)
      fell_owes s event rest =
          on_led s _ (fell_duties s r p) refl
          (fell_cases (λ es. OwesAt es p) s p r
          (λ fell. subst (λ (xs : List Duty). OwesAt (replaced (Duty.Ask (AskDuty.GoIdentity s)) xs) p) (sym same) (inr (inr (refl, rest))))
          (λ reason. inl refl) (λ reason. inl refl) (rest_owes (inr rest)))

      lead_owes : is_lead d ≡ true → Led ds p → Owes (answered values d r p)
      lead_owes is rest = by d is
        where
          by : (x : Duty) → is_lead x ≡ true → Owes (answered values x r p)
          by (Duty.Ask (AskDuty.SynHeard s)) is = done_owes (inr rest)
          by (Duty.Ask (AskDuty.PlainHandshake s)) is = fell_owes s FallEvent.PlainHandshake rest
          by (Duty.Ask (AskDuty.GoIdentity s)) is = on_led s _ (left p) refl (rest_owes (inr rest))
          by (Duty.Ask (AskDuty.Return s)) is = done_owes (inr rest)
          by _ is = absurd (false≢true is)

      refuses_at : (s : Side) → is_listening (end_at s p).tcp.state ≡ true → none_weighty ds → OwesAt (replaced (Duty.Send (SendDuty.Refuse s)) p.agenda) p
      refuses_at s listens free = subst (λ (xs : List Duty). OwesAt (replaced (Duty.Send (SendDuty.Refuse s)) xs) p) (sym same) (inr (inl (listens, free)))

      refused_owes : (s : Side) → is_listening (end_at s p).tcp.state ≡ true → none_weighty ds → Owes (with_agenda (replaced (Duty.Send (SendDuty.Refuse s)) p.agenda) p)
      refused_owes s listens free =
          let es : List Duty = replaced (Duty.Send (SendDuty.Refuse s)) p.agenda in owes_same es p (with_agenda es p) (agenda_same es p) (refuses_at s listens free)

      -- a join is answered
      joined_owes : (s : Side) → is_listening (end_at s p).tcp.state ≡ true → none_weighty ds → (o : Option KeyPair) (asked : Option JoinSyn) → Owes (join_taken s o asked r p)
      joined_owes s listens free (Some keys) (Some asked) =
          let q : PathState Carried = goes_on s (joined_by keys asked (end_at s p)) (replaced (Duty.Send (SendDuty.SynAck s)) p.agenda) p in
          subst (λ (xs : List Duty). OwesAt (replaced (Duty.Send (SendDuty.SynAck s)) xs) q) (sym same)
          (inr (inl (put_holds s (λ t. is_closed_to_segments t.state ≡ false) (joined_by keys asked (end_at s p)) [] p (by (is_listening (end_at s p).tcp.state) listens), free)))
        where
          by : (b : Bool) → b ≡ true → is_closed_to_segments (if b then after_syn (unkept None) (syn_of_window (end_at s p).treated.window) (end_at s p).tcp else (end_at s p).tcp).state ≡ false
          by true is = refl
          by false is = absurd (false≢true is)
      joined_owes s listens free None (Some asked) = on_led s _ _ refl (refuses_at s listens free)
      joined_owes s listens free (Some keys) None = refused_owes s listens free
      joined_owes s listens free None None = refused_owes s listens free

      -- the one that tells how an end stands is done
      fit_owes : Fits d p → none_weighty ds → Owes (answered values d r p)
      fit_owes fits free = by d fits
        where
          done : none_weighty (left p)
          done = subst none_weighty (sym left_is) free

          by : (x : Duty) → Fits x p → Owes (answered values x r p)
          by (Duty.Ask (AskDuty.JoinHeard s)) fits = joined_owes s fits.0 free (keys_begun r) (asked_at s p)
          by (Duty.Send (SendDuty.SynAck s)) fits = inl done
          by (Duty.Send (SendDuty.Refuse s)) fits = inl done
          by (Duty.Send (SendDuty.Answer s)) fits = inl done
          by (Duty.Send (SendDuty.ResetAnswer s)) fits = inl done
          by (Duty.Send (SendDuty.Resend s)) fits = inl done
          by _ fits = absurd fits

      led_owes : Led (d ∷ ds) p → Owes (answered values d r p)
      led_owes (inl fits) = fit_owes fits.0 fits.1
      led_owes (inr more) = lead_owes more.0 more.1

      -- where there is none
      no_join : (x : Duty) → not (is_weighty x) ≡ true → JoinsNone is_weighty rare x
      no_join (Duty.Ask (AskDuty.JoinHeard s)) is = absurd (false≢true is)
      no_join _ is = tt

      free_owes : none_weighty p.agenda → IsNoEvent d → Owes (answered values d r p)
      free_owes free other = inl (duty_free is_weighty rare p free d r other (no_join d (and_parts (not (is_weighty d)) _ (subst none_weighty same free)).0))

      pub duty_owes : IsNoEvent d → Owes p → Owes (answered values d r p)
      duty_owes other (inl free) = free_owes free other
      duty_owes other (inr led) = led_owes (subst (λ (xs : List Duty). Led xs p) same led)

  -- ---- events that are no arrivals

  line_none : (action : LineAction) (p : PathState Carried) → none_weighty (after_line action p).agenda
  line_none LineAction.Die p = by (is_dead p.a.tcp.state) (is_dead p.b.tcp.state)
    where
      by : (x y : Bool) → none_weighty ((if x then [] else Duty.Ask (AskDuty.Leave A) ∷ []) ++ ((if y then [] else Duty.Ask (AskDuty.Leave B) ∷ []) ++ rest_of_turn))
      by true true = refl
      by true false = refl
      by false true = refl
      by false false = refl
  line_none (LineAction.Prio s backup) p = refl
  line_none (LineAction.Announce s id) p = refl
  line_none (LineAction.Withdraw s id) p = refl

  pub line_owes : (action : LineAction) (p : PathState Carried) → Owes (after_line action p)
  line_owes action p = inl (line_none action p)

  pub begun_owes : (r : Reply) (p : PathState Carried) → Owes (join_begun r (leaves A) (emission A) p)
  begun_owes r p = by (is_never r) _ _ (inl refl) (inl refl)
    where
      by : (b : Bool) (q s : PathState Carried) → Owes q → Owes s → Owes (if b then q else s)
      by true q s x y = x
      by false q s x y = y

  pub fired_owes : (s : Side) (p : PathState Carried) → is_closed_to_segments (end_at s p).tcp.state ≡ false → Owes (timer_fired s p)
  fired_owes s p is_open = by (is_sixth (end_at s p).tcp)
    where
      e : PathEnd
      e = end_at s p

      by : (b : Bool) → Owes (goes_on s (record e { tcp = (if b then after_death true e.tcp else after_expiry p.clock e.tcp) }) (template_fired b s) p)
      by true = inl refl
      by false = inr (inr (refl, inl (put_holds s (λ t. is_closed_to_segments t.state ≡ false) (record e { tcp = after_expiry p.clock e.tcp }) (expired s) p is_open, refl)))

  pub rest_owes_none : (p : PathState Carried) → Owes (with_agenda rest_of_turn p)
  rest_owes_none p = inl refl
