-- At each moment of a run an end is connected only where its path stands at its side's control book, or it is to tell that book first, and was granted nothing
-- yet; and an end that is to leave isn't connected.
use Rattle.std.proofs.Common.{◌≡◌, refl, sym, ap, ◌∙◌, subst, ℕ, ◌+◌, ◌<◌, ◌⊎◌, inl, inr, ⊎_elim, Bool, true, false, Some, List, [], ◌∷◌, length, arith}
use Rattle.std.proofs.lemmas.Bool.{both_ways, false≢true}
use Rattle.std.proofs.lemmas.Option.{same_Some}
use Rattle.actor_desk.specs.Desk.{SixBooks, after_ask, control_of}
use Rattle.actor_desk.specs.declared.ask.Ask.{Ask}
use Rattle.actor_desk.specs.declared.ask.Reply.{Reply}
use Rattle.control_book.specs.Registry.{stands as stands_at}
use Rattle.control_book.specs.declared.call.ControlCall.{ControlCall}
use Rattle.path_agenda.specs.Agenda.{start_of_turn}
use Rattle.path_agenda.specs.declared.duty.AskDuty.{AskDuty}
use Rattle.path_agenda.specs.declared.duty.Duty.{Duty}
use Rattle.path_agenda.specs.declared.duty.StepDuty.{StepDuty}
use Rattle.path_core.specs.Duties.{answered, ask_for}
use Rattle.path_core.specs.Events.{next_event}
use Rattle.path_core.specs.State.{PathState, end_at, path_of, with_agenda}
use Rattle.path_core.specs.Steps.{answers, asks_first, next_round, settled, takes}
use Rattle.path_core.specs.Values.{Carried, values}
use Rattle.sides.specs.declared.side.Side.TheVariants.{A, B}
use Rattle.sides.specs.declared.side.Side.{Side}
use Rattle.stream_apps.specs.AppSteps.{app_asks_first}
use Rattle.stream_apps.specs.Apps.{AppState}
use Rattle.stream_apps.specs.declared.duty.AppDuty.{AppDuty}
use Rattle.subflow_send.specs.Records.{Record}
use Rattle.world_laws.proofs.Lanes.Showing.{is_unfinished}
use Rattle.world_laws.proofs.Writes.Asks.{asks_no_more}
use Rattle.world_laws.proofs.Writes.Steps.{settled_lasts}
use Rattle.world_laws.specs.Asking.{IsAsked, asking, asks_of_steps}
use Rattle.world_laws.specs.Writes.{side_of}
use Rattle.own_runs.proofs.Arising.{event_happens}
use Rattle.own_runs.proofs.Leaving.{Ups, answered_next, is_up, leaving, settled_leaving, ups_at, ups_last}
use Rattle.own_runs.proofs.RecordsKept.{event_kept, kept_at}
use Rattle.own_runs.proofs.StandsFirst.{Fresh, Stands, answered_stands, owing, settled_stands}
use Rattle.own_runs.proofs.StandsOn.{as_long, live_stands, stands_on}

-- ---- an ask

-- a path stands at a side's control book
abbrev pub At : SixBooks → Side → ℕ → Type 0
At six s n = stands_at (control_of s six).paths n ≡ true

abbrev pub Long : SixBooks → Type 0
Long six = (s : Side) → length (control_of s six).paths ≡ 16

pub ask_stands : (six : SixBooks) (x : Ask) (s : Side) (n : ℕ) → n < 16 → Long six → (x ≡ Ask.Control s (ControlCall.Dead n) → ⊥) → At six s n → At (after_ask x six) s n
ask_stands six (Ask.Control A call) A n few long alive h = stands_on n six.control_a call (let len = long A in omega (arith, few, len)) (λ is. alive (ap (λ (c : ControlCall). Ask.Control A c) is)) h
ask_stands six (Ask.Control B call) B n few long alive h = stands_on n six.control_b call (let len = long B in omega (arith, few, len)) (λ is. alive (ap (λ (c : ControlCall). Ask.Control B c) is)) h
ask_stands six (Ask.Control A call) B n few long alive h = h
ask_stands six (Ask.Control B call) A n few long alive h = h
ask_stands six (Ask.Send A call) A n few long alive h = h
ask_stands six (Ask.Send A call) B n few long alive h = h
ask_stands six (Ask.Send B call) A n few long alive h = h
ask_stands six (Ask.Send B call) B n few long alive h = h
ask_stands six (Ask.Reassembly A call) A n few long alive h = h
ask_stands six (Ask.Reassembly A call) B n few long alive h = h
ask_stands six (Ask.Reassembly B call) A n few long alive h = h
ask_stands six (Ask.Reassembly B call) B n few long alive h = h
ask_stands six (Ask.Local step) s n few long alive h = h

pub ask_long : (six : SixBooks) (x : Ask) → Long six → Long (after_ask x six)
ask_long six (Ask.Control A call) long A = as_long six.control_a call ∙ long A
ask_long six (Ask.Control B call) long B = as_long six.control_b call ∙ long B
ask_long six (Ask.Control A call) long B = long B
ask_long six (Ask.Control B call) long A = long A
ask_long six (Ask.Send A call) long A = long A
ask_long six (Ask.Send A call) long B = long B
ask_long six (Ask.Send B call) long A = long A
ask_long six (Ask.Send B call) long B = long B
ask_long six (Ask.Reassembly A call) long A = long A
ask_long six (Ask.Reassembly A call) long B = long B
ask_long six (Ask.Reassembly B call) long A = long A
ask_long six (Ask.Reassembly B call) long B = long B
ask_long six (Ask.Local step) long s = long s

live_asked : (six : SixBooks) (s : Side) (n : ℕ) (backup : Bool) → n < 16 → Long six → At (after_ask (Ask.Control s (ControlCall.Live n backup)) six) s n
live_asked six A n backup few long = live_stands n six.control_a backup (let len = long A in omega (arith, few, len))
live_asked six B n backup few long = live_stands n six.control_b backup (let len = long B in omega (arith, few, len))

step_never : (d : StepDuty) → (asks_of_steps d).lives ≡ true → ⊥
step_never (StepDuty.Look s) is = false≢true is
step_never _ is = false≢true is

-- a book is told that a path is dead by that path's own duty alone
pub dead_asked : (d : Duty) (p : PathState Carried) (s : Side) (n : ℕ) → ask_for values d p ≡ Ask.Control s (ControlCall.Dead n) → (d ≡ Duty.Ask (AskDuty.Dead s)) × (path_of p ≡ n)
dead_asked d p s n is = (by d (ap (λ (x : Ask). x) is) it.kind it.side, sym it.own)
  where
    it : IsAsked p (side_of d) (asking d) (Ask.Control s (ControlCall.Dead n))
    it = subst (λ (x : Ask). IsAsked p (side_of d) (asking d) x) is (asks_no_more values p d)

    by : (e : Duty) → ask_for values e p ≡ Ask.Control s (ControlCall.Dead n) → (asking e).lives ≡ true → s ≡ side_of e → e ≡ Duty.Ask (AskDuty.Dead s)
    by (Duty.Ask (AskDuty.Dead t)) same kind side = ap (λ (u : Side). Duty.Ask (AskDuty.Dead u)) (sym side)
    by (Duty.Ask (AskDuty.Live t)) same kind side = cc
    by (Duty.Step e) same kind side = absurd (step_never e kind)
    by _ same kind side = absurd (false≢true kind)

-- nor by an application
pub app_asked : (ds : List AppDuty) (a : AppState) (s : Side) (n : ℕ) → app_asks_first ds a ≡ Some (Ask.Control s (ControlCall.Dead n)) → ⊥
app_asked [] a s n is = cc
app_asked (AppDuty.FastClose ∷ ds) a s n is = cc
app_asked (d ∷ ds) a s n is = cc

-- ---- a path

not_up : (b c : Bool) → (c ≡ true → b ≡ true) → b ≡ false → c ≡ false
not_up b false up none = refl
not_up b true up none = absurd (both_ways b none (up refl))

pub record PathStands (six : SixBooks) (n : ℕ) (p : PathState Carried) : Type 0 where
  pub stand : (s : Side) → Stands (At six s n) s p.agenda p
  pub leave : (s : Side) → leaving s p.agenda ≡ true → is_up (end_at s p) ≡ false

-- an end that isn't connected yet has no octets to send
abbrev pub PathOnes : PathState Carried → Type 0
PathOnes p = (s : Side) → is_up (end_at s p) ≡ false → is_unfinished (end_at s p).tcp.state ≡ true → Fresh (end_at s p)

settle : (six : SixBooks) (n : ℕ) (ds : List Duty) (q : PathState Carried) → q.agenda ≡ ds → PathStands six n q → PathStands six n (settled ds q)
settle six n ds q is h = record {
  stand = λ s. settled_stands (At six s n) s ds q (subst (λ (es : List Duty). Stands (At six s n) s es q) is (h.stand s));
  leave = λ s leave. not_up (is_up (end_at s q)) (is_up (end_at s (settled ds q))) (ups_at s q (settled ds q) (settled_lasts (λ (x y : PathState Carried). Ups x y) ups_last ds q))
      (h.leave s (ap (leaving s) is ∙ settled_leaving s ds q leave));
}

abbrev is_event : Duty → Bool
is_event (Duty.Step StepDuty.Events) = true
is_event _ = false

dead_leaving : (s : Side) (ds : List Duty) → leaving s (Duty.Ask (AskDuty.Dead s) ∷ ds) ≡ true
dead_leaving A ds = refl
dead_leaving B ds = refl

module _ (six : SixBooks) (n : ℕ) (few : n < 16) (long : Long six) (p : PathState Carried) (number : path_of p ≡ n) (ones : PathOnes p) (h : PathStands six n p) (ds : List Duty) (r : Reply) where
  event_step : p.agenda ≡ Duty.Step StepDuty.Events ∷ ds → PathStands (after_ask (ask_for values (Duty.Step StepDuty.Events) p) six) n (answered values (Duty.Step StepDuty.Events) r p)
  event_step first = record { stand = stand; leave = λ s. (event_happens values (next_event p) r p).leaves s }
    where
      q : PathState Carried
      q = answered values (Duty.Step StepDuty.Events) r p

      kept : (s : Side) → Fresh (end_at s p) → Fresh (end_at s q)
      kept s = kept_at (λ (r : Record). r.piece ≡ []) (λ r x is. is) (λ n. refl) s p q (event_kept (λ (r : Record). r.piece ≡ []) (λ r x is. is) (λ n. refl) (next_event p) r p)

      lives : (s : Side) → At six s n → At (after_ask (ask_for values (Duty.Step StepDuty.Events) p) six) s n
      lives s = ask_stands six (ask_for values (Duty.Step StepDuty.Events) p) s n few long
          (λ dead. false≢true (sym (ap is_event (dead_asked (Duty.Step StepDuty.Events) p s n dead).0)))

      was : (s : Side) → is_up (end_at s p) ≡ true → At six s n
      was s up = ⊎_elim (λ it. it) (λ owes. absurd (false≢true (sym (ap (owing s (end_at s p).treated.opened) first) ∙ owes.0))) (h.stand s up)

      stand : (s : Side) → Stands (At (after_ask (ask_for values (Duty.Step StepDuty.Events) p) six) s n) s q.agenda q
      stand s up = by (is_up (end_at s p)) refl
        where
          by : (b : Bool) → is_up (end_at s p) ≡ b
              → At (after_ask (ask_for values (Duty.Step StepDuty.Events) p) six) s n ⊎ ((owing s (end_at s q).treated.opened q.agenda ≡ true) × Fresh (end_at s q))
          by true before = inl (lives s (was s before))
          by false none = ⊎_elim (λ before. inl (lives s (was s before))) (λ new. inr (new.0, kept s (ones s none new.1))) ((event_happens values (next_event p) r p).arises s up)

  other_step : (d : Duty) → p.agenda ≡ d ∷ ds → (d ≡ Duty.Step StepDuty.Events → ⊥) → PathStands (after_ask (ask_for values d p) six) n (answered values d r p)
  other_step d first other = record { stand = stand; leave = leave }
    where
      q : PathState Carried
      q = answered values d r p

      ups : (s : Side) → is_up (end_at s q) ≡ true → is_up (end_at s p) ≡ true
      ups s = ups_at s p q (answered_next values d ds r p first other).ups

      on : (s : Side) → is_up (end_at s q) ≡ true → At six s n → At (after_ask (ask_for values d p) six) s n
      on s up = ask_stands six (ask_for values d p) s n few long (λ dead.
          let it : d ≡ Duty.Ask (AskDuty.Dead s) = (dead_asked d p s n dead).0 in
          both_ways (is_up (end_at s p)) (h.leave s (ap (leaving s) (first ∙ ap (λ (e : Duty). e ∷ ds) it) ∙ dead_leaving s ds)) (ups s up))

      told : (s : Side) → d ≡ Duty.Ask (AskDuty.Live s) → At (after_ask (ask_for values d p) six) s n
      told s is = subst (λ (e : Duty). At (after_ask (ask_for values e p) six) s n) (sym is)
          (subst (λ (m : ℕ). At (after_ask (Ask.Control s (ControlCall.Live m (end_at s p).modes.backup_heard)) six) s n) (sym number) (live_asked six s n (end_at s p).modes.backup_heard few long))

      stand : (s : Side) → Stands (At (after_ask (ask_for values d p) six) s n) s q.agenda q
      stand s = answered_stands (At six s n) (At (after_ask (ask_for values d p) six) s n) values s d ds r p first other (on s) (told s) (h.stand s)

      leave : (s : Side) → leaving s q.agenda ≡ true → is_up (end_at s q) ≡ false
      leave s is = ⊎_elim (λ before. not_up (is_up (end_at s p)) (is_up (end_at s q)) (ups s) (h.leave s before)) (λ down. down) ((answered_next values d ds r p first other).leaves s is)

  duty_step : (d : Duty) → p.agenda ≡ d ∷ ds → PathStands (after_ask (ask_for values d p) six) n (answered values d r p)
  duty_step (Duty.Step StepDuty.Events) first = event_step first
  duty_step d first = other_step d first (λ is. false≢true (ap is_event is))

pub path_takes : (six : SixBooks) (n : ℕ) → n < 16 → Long six → (p : PathState Carried) → path_of p ≡ n → PathOnes p → PathStands six n p → (x : Ask) → asks_first values p.agenda p ≡ Some x → (r : Reply)
    → PathStands (after_ask x six) n (takes values r p)
path_takes six n few long p number ones h x asks r = by p.agenda refl asks
  where
    Now : PathState Carried → Type 0
    Now q = PathStands (after_ask x six) n q

    one : (d : Duty) (ds : List Duty) → p.agenda ≡ d ∷ ds → ask_for values d p ≡ x → Now (answers values p.agenda r p)
    one d ds first is =
        subst (λ (y : Ask). PathStands (after_ask y six) n (answers values p.agenda r p)) is
        (subst (λ (es : List Duty). PathStands (after_ask (ask_for values d p) six) n (answers values es r p)) (sym first) (duty_step six n few long p number ones h ds r d first))

    by : (ds : List Duty) → p.agenda ≡ ds → asks_first values ds p ≡ Some x → Now (takes values r p)
    by [] first is = cc
    by (d ∷ ds) first is = let q : PathState Carried = answers values p.agenda r p in settle (after_ask x six) n q.agenda q refl (one d ds first (same_Some (ask_for values d p) x is))

pub path_next : (six : SixBooks) (n : ℕ) (p : PathState Carried) → p.agenda ≡ [] → PathStands six n p → PathStands six n (next_round p)
path_next six n p over h = settle six n start_of_turn q refl (record { stand = stand; leave = λ s is. absurd (false≢true is) })
  where
    q : PathState Carried
    q = with_agenda start_of_turn (record p { clock = p.until; until = p.until + 100 })

    was : (s : Side) → is_up (end_at s p) ≡ true → At six s n
    was s up = ⊎_elim (λ it. it) (λ owes. absurd (false≢true (sym (ap (owing s (end_at s p).treated.opened) over) ∙ owes.0))) (h.stand s up)

    stand : (s : Side) → Stands (At six s n) s start_of_turn q
    stand A up = inl (was A up)
    stand B up = inl (was B up)
