-- What an event makes of an end: none connects it but a copy that opens it. Then its side's control book is told so first. And
-- an end that is to leave behind an event is dead.
use Rattle.std.proofs.Common.{◌≡◌, refl, sym, ap, ◌∙◌, subst, ℕ, zero, suc, ◌+◌, ◌⊎◌, inl, inr, ⊎_elim, ◌||◌, Bool, true, false, if◌then◌else◌, Option, Some, None, List, [], ◌∷◌, length}
use Rattle.std.proofs.lemmas.Bool.{both_ways, false≢true}
use Rattle.actor_desk.specs.Words.{pick, tail_of}
use Rattle.actor_desk.specs.declared.ask.Reply.{Reply}
use Rattle.link_model.specs.Steps.{after_delivery, arriving}
use Rattle.link_script.specs.Places.{same_side}
use Rattle.path_agenda.specs.Agenda.{emission, heard_and, leaves, payload_came}
use Rattle.path_agenda.specs.declared.duty.Duty.{Duty}
use Rattle.path_agenda.specs.declared.heard.Heard.{Heard}
use Rattle.path_core.specs.Arrival.{after_judged, copy_of, heard_at, heard_in, judged_in, template_judged, told_at, with_payload}
use Rattle.path_core.specs.Breaking.{died_unless_dead, path_died}
use Rattle.path_core.specs.Codec.{Codec}
use Rattle.path_core.specs.End.{PathEnd, died}
use Rattle.path_core.specs.Events.{after_line, happens_if}
use Rattle.path_core.specs.Judged.{taken_as}
use Rattle.path_core.specs.MpJoin.{is_joined, is_never, join_begun, keys_begun, never_joined, opened_by}
use Rattle.path_core.specs.OptionsIn.{hint_of, items_of, options_heard}
use Rattle.path_core.specs.Profile.{Profile}
use Rattle.path_core.specs.Standing.{is_connected}
use Rattle.path_core.specs.State.{PathState, at_tick, end_at}
use Rattle.path_core.specs.Timer.{after_firing, template_fired, timer_fired}
use Rattle.path_core.specs.declared.events.Event.{Event}
use Rattle.path_core.specs.declared.judged.Judged.{Judged}
use Rattle.path_segments.specs.Heard.{HeardSegment}
use Rattle.path_store.specs.declared.lines.LineAction.{LineAction}
use Rattle.sides.specs.declared.side.Side.TheVariants.{A, B}
use Rattle.sides.specs.declared.side.Side.{Side}
use Rattle.subflow_tcp.specs.Expiring.{after_expiry, is_sixth}
use Rattle.subflow_tcp.specs.State.{EndState}
use Rattle.subflow_tcp.specs.States.{is_dead, is_half_open}
use Rattle.subflow_tcp.specs.Taking.{after_death}
use Rattle.subflow_tcp.specs.declared.handshake.State.{State as EndPhase}
use Rattle.subflow_tcp.specs.declared.verdicts.Meaning.{Meaning}
use Rattle.world_laws.proofs.Keys.Meanings.{Means}
use Rattle.world_laws.proofs.Lanes.Showing.{is_unfinished}
use Rattle.own_runs.proofs.Leaving.{is_up, leaving, opened_up, own_leaves}
use Rattle.own_runs.proofs.OpeningHears.{IsMeeting, copy_comes, past_cases, taken_means}
use Rattle.own_runs.proofs.StandsFirst.{owing}

-- ---- states

half_opens : (state : EndPhase) → is_half_open state ≡ true → state ≡ EndPhase.SynReceived
half_opens EndPhase.SynReceived is = refl
half_opens _ is = absurd (false≢true is)

held_state : (pos n : ℕ) (octets : List ℕ) (s : EndState) → (with_payload (Meaning.Taken pos n) octets s).state ≡ s.state
held_state pos n [] s = refl
held_state pos n (x ∷ octets) s = refl

-- ---- templates

heard_leaving : (t s : Side) (from count : ℕ) (ds : List Duty) → leaving t (heard_and s from count ds) ≡ true → leaving t ds ≡ true
heard_leaving t s from zero ds is = is
heard_leaving t s from (suc count) ds is = heard_leaving t s (from + 1) count ds is

accepts_leaving : (t s : Side) (joined : Bool) (n : ℕ) (count : ℕ) → leaving t (template_judged joined s count (Judged.As (Meaning.Accepts n))) ≡ true → ⊥
accepts_leaving t s true n count is = false≢true is
accepts_leaving t s false n count is = false≢true is

-- what a copy kills leaves
template_leaving : (t s : Side) (joined : Bool) (count : ℕ) (v : Judged) → leaving t (template_judged joined s count v) ≡ true → (v ≡ Judged.As Meaning.Kills) × (t ≡ s)
template_leaving t s joined count (Judged.As Meaning.Kills) is = (refl, own_leaves s t is)
template_leaving t s joined count (Judged.As (Meaning.Accepts n)) is = absurd (accepts_leaving t s joined n count is)
template_leaving t s joined count (Judged.As (Meaning.Taken pos n)) is = absurd (false≢true (heard_leaving t s 0 count (payload_came s) is))
template_leaving t s joined count (Judged.As Meaning.Ignored) is = absurd (false≢true is)
template_leaving t s joined count (Judged.As Meaning.Unwanted) is = absurd (false≢true is)
template_leaving t s joined count (Judged.As Meaning.Opens) is = absurd (false≢true is)
template_leaving t s joined count (Judged.As Meaning.RepeatedSyn) is = absurd (false≢true is)
template_leaving t s joined count (Judged.As Meaning.Outside) is = absurd (false≢true is)
template_leaving t s joined count (Judged.As Meaning.Challenged) is = absurd (false≢true is)
template_leaving t s joined count (Judged.As Meaning.Unacknowledging) is = absurd (false≢true is)
template_leaving t s joined count (Judged.As Meaning.Ahead) is = absurd (false≢true is)
template_leaving t s joined count Judged.Asks is = absurd (false≢true is)
template_leaving t s joined count Judged.Lacks is = absurd (false≢true is)
template_leaving t s joined count Judged.Forged is = absurd (false≢true is)

-- its side's book is told first that the path lives
or_own : (s : Side) (x : Bool) → (same_side s s || x) ≡ true
or_own A x = refl
or_own B x = refl

accepted_owing : (s : Side) (joined : Bool) (n count : ℕ) → owing s true (template_judged joined s count (Judged.As (Meaning.Accepts n))) ≡ true
accepted_owing A true n count = refl
accepted_owing B true n count = refl
accepted_owing A false n count = refl
accepted_owing B false n count = refl

came_owing : (s : Side) (joined : Bool) (pos n count : ℕ) → owing s true (template_judged joined s count (Judged.As (Meaning.Taken pos n))) ≡ true
came_owing A joined pos n count = refl
came_owing B joined pos n count = refl

-- ---- a copy

-- the end was connected, or it is to tell its side's book first
abbrev pub Arises : Side → List Duty → PathEnd → PathEnd → Type 0
Arises s ds e f = is_up f ≡ true → (is_up e ≡ true) ⊎ ((owing s f.treated.opened ds ≡ true) × (is_unfinished e.tcp.state ≡ true))

module _ (c : Profile) (s : Side) (now : ℕ) (h : HeardSegment) (e : PathEnd) where
  abbrev joined : Bool
  joined = is_joined c

  abbrev items : List Heard
  items = items_of joined s h

  abbrev told_end : Judged → PathEnd
  told_end v = after_judged c s now h v e

  abbrev ArisesBy : Judged → Type 0
  ArisesBy v = Arises s (template_judged joined s (length items) v) e (told_end v)

  means_by : (v : Judged) → judged_in joined s h e ≡ v → Means (copy_of h) e.tcp (taken_as v)
  means_by v is = subst (λ (x : Judged). Means (copy_of h) e.tcp (taken_as x)) is (taken_means joined h.rst items (copy_of h) e)

  -- it opens no end
  opens_none : (v : Judged) → Means (copy_of h) e.tcp (taken_as v) → (IsMeeting (taken_as v) → ⊥) → ArisesBy v
  opens_none v means none up =
      ⊎_elim (λ was. inl was) (λ meets. absurd (none meets)) ((copy_comes (taken_as v) items (hint_of items) now (copy_of h) h.payload e.tcp means).connected up)

  copy_arises : (v : Judged) → Means (copy_of h) e.tcp (taken_as v) → ArisesBy v
  copy_arises (Judged.As (Meaning.Accepts n)) means up = inr (accepted_owing s joined n (length items), ap is_unfinished means.0)
  copy_arises (Judged.As (Meaning.Taken pos n)) means up = ⊎_elim (λ was. inl was) (λ half. inr (
    ap (λ (b : Bool). owing s b (template_judged joined s (length items) (Judged.As (Meaning.Taken pos n)))) (ap is_half_open (held_state pos n h.payload e.tcp) ∙ half) ∙ came_owing s joined pos n (length items),
    ap is_unfinished (half_opens e.tcp.state half),
  )) (past_cases e.tcp.state means.0)
  copy_arises (Judged.As Meaning.Ignored) means up = opens_none (Judged.As Meaning.Ignored) means (λ no. no) up
  copy_arises (Judged.As Meaning.Unwanted) means up = opens_none (Judged.As Meaning.Unwanted) means (λ no. no) up
  copy_arises (Judged.As Meaning.Opens) means up = opens_none (Judged.As Meaning.Opens) means (λ no. no) up
  copy_arises (Judged.As Meaning.RepeatedSyn) means up = opens_none (Judged.As Meaning.RepeatedSyn) means (λ no. no) up
  copy_arises (Judged.As Meaning.Outside) means up = opens_none (Judged.As Meaning.Outside) means (λ no. no) up
  copy_arises (Judged.As Meaning.Kills) means up = opens_none (Judged.As Meaning.Kills) means (λ no. no) up
  copy_arises (Judged.As Meaning.Challenged) means up = opens_none (Judged.As Meaning.Challenged) means (λ no. no) up
  copy_arises (Judged.As Meaning.Unacknowledging) means up = opens_none (Judged.As Meaning.Unacknowledging) means (λ no. no) up
  copy_arises (Judged.As Meaning.Ahead) means up = opens_none (Judged.As Meaning.Ahead) means (λ no. no) up
  copy_arises Judged.Asks means up = opens_none Judged.Asks means (λ no. no) up
  copy_arises Judged.Lacks means up = opens_none Judged.Lacks means (λ no. no) up
  copy_arises Judged.Forged means up = opens_none Judged.Forged means (λ no. no) up

  told_arises : ArisesBy (judged_in joined s h e)
  told_arises = copy_arises (judged_in joined s h e) (means_by (judged_in joined s h e) refl)

  told_leaves : (t : Side) → leaving t (template_judged joined s (length items) (judged_in joined s h e)) ≡ true → (t ≡ s) × (is_up (told_end (judged_in joined s h e)) ≡ false)
  told_leaves t is =
      let kills = template_leaving t s joined (length items) (judged_in joined s h e) is in (kills.1, ap (λ (v : Judged). is_up (told_end v)) kills.0)

-- ---- an event

died_down : (e : PathEnd) → is_up (died_unless_dead e) ≡ false
died_down e = by (is_dead e.tcp.state) refl
  where
    dead_down : (state : EndPhase) → is_dead state ≡ true → is_connected state ≡ false
    dead_down EndPhase.Dead is = refl
    dead_down _ is = absurd (false≢true is)

    by : (b : Bool) → is_dead e.tcp.state ≡ b → is_up (if b then e else died e) ≡ false
    by true is = dead_down e.tcp.state is
    by false is = refl

module _ {C : Type 0} where
  pub record Happens (p q : PathState C) : Type 0 where
    pub arises : (s : Side) → Arises s q.agenda (end_at s p) (end_at s q)
    pub leaves : (t : Side) → leaving t q.agenda ≡ true → is_up (end_at t q) ≡ false

  -- one end is set so, the other one stays
  put : (s : Side) (f : PathEnd) (p q : PathState C) → q.a ≡ pick s f p.a → q.b ≡ pick s p.b f → Arises s q.agenda (end_at s p) f
      → ((t : Side) → leaving t q.agenda ≡ true → (t ≡ s) × (is_up f ≡ false)) → Happens p q
  put A f p q a b rises leave = record { arises = arises; leaves = leaves }
    where
      arises : (s : Side) → Arises s q.agenda (end_at s p) (end_at s q)
      arises A = subst (Arises A q.agenda p.a) (sym a) rises
      arises B = λ up. inl (ap is_up (sym b) ∙ up)

      leaves : (t : Side) → leaving t q.agenda ≡ true → is_up (end_at t q) ≡ false
      leaves t is = let it = leave t is in subst (λ (u : Side). is_up (end_at u q) ≡ false) (sym it.0) (ap is_up a ∙ it.1)
  put B f p q a b rises leave = record { arises = arises; leaves = leaves }
    where
      arises : (s : Side) → Arises s q.agenda (end_at s p) (end_at s q)
      arises A = λ up. inl (ap is_up (sym a) ∙ up)
      arises B = subst (Arises B q.agenda p.b) (sym b) rises

      leaves : (t : Side) → leaving t q.agenda ≡ true → is_up (end_at t q) ≡ false
      leaves t is = let it = leave t is in subst (λ (u : Side). is_up (end_at u q) ≡ false) (sym it.0) (ap is_up b ∙ it.1)

  -- both stay
  same : (p q : PathState C) → q.a ≡ p.a → q.b ≡ p.b → ((t : Side) → leaving t q.agenda ≡ false) → Happens p q
  same p q a b none = record { arises = arises; leaves = λ t is. absurd (both_ways (leaving t q.agenda) (none t) is) }
    where
      arises : (s : Side) → Arises s q.agenda (end_at s p) (end_at s q)
      arises A = λ up. inl (ap is_up (sym a) ∙ up)
      arises B = λ up. inl (ap is_up (sym b) ∙ up)

  either : (b : Bool) (p q r : PathState C) → Happens p q → Happens p r → Happens p (if b then q else r)
  either true p q r x y = x
  either false p q r x y = y

  begun : (r : Reply) (p : PathState C) → Happens p (join_begun r (leaves A) (emission A) p)
  begun r p = either (is_never r) p _ _
      (put A (never_joined r p.a) p _ refl refl (λ up. absurd (false≢true up)) (λ t is. (own_leaves A t is, refl)))
      (put A (opened_by (keys_begun r) p.a) p _ refl refl (λ up. inl (opened_up (keys_begun r) p.a up)) (λ t is. absurd (false≢true is)))

  line : (action : LineAction) (p : PathState C) → Happens p (after_line action p)
  line LineAction.Die p = record { arises = arises; leaves = λ t is. downs t }
    where
      downs : (t : Side) → is_up (end_at t (path_died p)) ≡ false
      downs A = died_down p.a
      downs B = died_down p.b

      arises : (s : Side) → Arises s (path_died p).agenda (end_at s p) (end_at s (path_died p))
      arises s up = absurd (both_ways (is_up (end_at s (path_died p))) (downs s) up)
  line (LineAction.Prio s backup) p = put s _ p _ refl refl (λ up. inl up) (λ t is. absurd (false≢true is))
  line (LineAction.Announce s id) p = same p _ refl refl (λ t. refl)
  line (LineAction.Withdraw s id) p = same p _ refl refl (λ t. refl)

  fires : (s : Side) (p : PathState C) → Happens p (timer_fired s p)
  fires s p = put s (after_firing p.clock (end_at s p)) p (timer_fired s p) refl refl (λ up. inl (fire_up (is_sixth (end_at s p).tcp) up)) (λ t is. absurd (fired_none (is_sixth (end_at s p).tcp) t is))
    where
      fire_up : (b : Bool) → is_connected (if b then after_death true (end_at s p).tcp else after_expiry p.clock (end_at s p).tcp).state ≡ true → is_up (end_at s p) ≡ true
      fire_up true up = absurd (false≢true up)
      fire_up false up = up

      fired_none : (b : Bool) (t : Side) → leaving t (template_fired b s) ≡ true → ⊥
      fired_none true t is = false≢true is
      fired_none false t is = false≢true is

  told : (now : ℕ) (s : Side) (h : HeardSegment) (p : PathState C) → Happens p (told_at now s h p)
  told now s h p = put s (after_judged p.profile s now h (judged_in (is_joined p.profile) s h (end_at s p)) (end_at s p)) p (told_at now s h p) refl refl (told_arises p.profile s now h (end_at s p))
      (told_leaves p.profile s now h (end_at s p))

  heard : (now : ℕ) (s : Side) (o : Option HeardSegment) (p : PathState C) → Happens p (heard_at now s o p)
  heard now s None p = same p _ refl refl (λ t. refl)
  heard now s (Some h) p = told now s (options_heard (end_at s p) h) p

  -- with another link, lines and times
  beside : (p q r : PathState C) → q.a ≡ p.a → q.b ≡ p.b → Happens q r → Happens p r
  beside p q r a b x = record { arises = arises; leaves = x.leaves }
    where
      arises : (s : Side) → Arises s r.agenda (end_at s p) (end_at s r)
      arises A = subst (λ (e : PathEnd). Arises A r.agenda e r.a) a (x.arises A)
      arises B = subst (λ (e : PathEnd). Arises B r.agenda e r.b) b (x.arises B)

  pub event_happens : (k : Codec C) (o : Option Event) (r : Reply) (p : PathState C) → Happens p (happens_if k o r p)
  event_happens k None r p = same p _ refl refl (λ t. refl)
  event_happens k (Some (Event.Joins tick)) r p = beside p (record (at_tick tick p) { joined_at = None }) _ refl refl (begun r (record (at_tick tick p) { joined_at = None }))
  event_happens k (Some (Event.Takes l)) r p = beside p (record (at_tick l.tick p) { lines = tail_of p.lines }) _ refl refl (line l.action (record (at_tick l.tick p) { lines = tail_of p.lines }))
  event_happens k (Some (Event.Arrives due)) r p =
      let q : PathState C = record (at_tick due.tick p) { link = after_delivery due p.link } in
      beside p q _ refl refl (heard q.clock due.to (heard_in k due.to (arriving due p.link) p) q)
  event_happens k (Some (Event.Fires s tick)) r p = beside p (at_tick tick p) _ refl refl (fires s (at_tick tick p))
