-- An application stops the connection in the round of its tick.
use Rattle.std.proofs.Common.{◌≡◌, refl, sym, ◌∙◌, ap, subst, ℕ, zero, suc, ◌-◌, ◌/◌, ◌≤◌, ◌==◌, ◌↔◌, not, ◌&&◌, Bool, true, false, if◌then◌else◌, Option, Some, None, List, [], ◌∷◌, length, arith}
use Rattle.std.proofs.lemmas.Bool.{eqb-true, false≢true}
use Rattle.actor_desk.specs.declared.ask.Reply.{Reply}
use Rattle.actor_desk.specs.Words.{is_nil}
use Rattle.stream_apps.specs.declared.duty.AppDuty.{AppDuty}
use Rattle.stream_apps.specs.declared.duty.AppDuty.TheVariants.{FastClose, AbortSend, AbortReceive, Write, Close, Read, End}
use Rattle.stream_apps.specs.Apps.{AppState}
use Rattle.stream_apps.specs.AppSteps.{is_due, a_round_less, app_stands, app_answered, app_answers, app_settled, app_takes, app_next_round, fresh_turn, start_of_app}
use Rattle.stream_apps.specs.OnTime.{after_replies, after_rounds, HoldsTick, AsksFastClose, StopsOnTime}
use Rattle.stream_apps.specs.Starts.{untouched, first_app_turn}

-- ---- what is kept in a turn

settled_keeps : (ds : List AppDuty) (a : AppState) → (app_settled ds a).stops_in ≡ a.stops_in
settled_keeps [] a = refl
settled_keeps (d ∷ ds) a = (elim (app_stands d a) as (λ b. (app_settled ds a).stops_in ≡ a.stops_in → (if b then record a { agenda = d ∷ ds } else app_settled ds a).stops_in ≡ a.stops_in)
    [ true ↦ λ rest. refl | false ↦ λ rest. rest ]) (settled_keeps ds a)

answered_keeps : (d : AppDuty) (r : Reply) (a : AppState) → (app_answered d r a).stops_in ≡ a.stops_in
answered_keeps FastClose r a = refl
answered_keeps _ r a = refl

answers_keep : (ds : List AppDuty) (r : Reply) (a : AppState) → (app_answers ds r a).stops_in ≡ a.stops_in
answers_keep [] r a = refl
answers_keep (d ∷ ds) r a = answered_keeps d r a

takes_keeps : (r : Reply) (a : AppState) → (app_takes r a).stops_in ≡ a.stops_in
takes_keeps r a = settled_keeps (app_answers a.agenda r a).agenda (app_answers a.agenda r a) ∙ answers_keep a.agenda r a

replies_keep : (rs : List Reply) (a : AppState) → (after_replies rs a).stops_in ≡ a.stops_in
replies_keep [] a = refl
replies_keep (r ∷ rs) a = replies_keep rs (app_takes r a) ∙ takes_keeps r a

-- ---- rounds

-- how many rounds are left, a number of rounds later
abbrev less : ℕ → Option ℕ → Option ℕ
less zero o = o
less (suc n) o = less n (a_round_less o)

rounds_left : (rounds : List (List Reply)) (a : AppState) → (after_rounds rounds a).stops_in ≡ less (length rounds) a.stops_in
rounds_left [] a = refl
rounds_left (rs ∷ rounds) a =
    rounds_left rounds (app_next_round (after_replies rs a))
    ∙ ap (less (length rounds)) (settled_keeps start_of_app (fresh_turn (after_replies rs a)) ∙ ap a_round_less (replies_keep rs a))

none_due : (n : ℕ) → is_due (less n None) ≡ false
none_due zero = refl
none_due (suc n) = none_due n

-- a stop is due after as many rounds as were to end before
due_after : (n rounds : ℕ) → (is_due (less n (Some rounds)) ≡ true) ↔ (n ≡ rounds)
due_after zero rounds = (λ due. sym (eqb-true rounds 0 due), λ is. by (sym is))
  where
    by : rounds ≡ 0 → (rounds == 0) ≡ true
    by is = ap (λ m. m == 0) is
due_after (suc n) rounds = by (rounds == 0) refl (due_after n (rounds - 1))
  where
    by : (b : Bool) → (rounds == 0) ≡ b → (is_due (less n (Some (rounds - 1))) ≡ true) ↔ (n ≡ rounds - 1)
        → (is_due (less n (if b then None else Some (rounds - 1))) ≡ true) ↔ (suc n ≡ rounds)
    by true is rest =
        let none : rounds ≡ 0 = eqb-true rounds 0 is in
        (λ due. absurd (false≢true (sym (none_due n) ∙ due)), λ same. absurd (omega (arith, none, same)))
    by false is rest =
        let some : 1 ≤ rounds = (elim rounds as (λ m. (m == 0) ≡ false → 1 ≤ m) [ zero ↦ λ is. absurd (false≢true (sym is)) | suc m ↦ λ is. omega arith ]) is in
        (λ due. let same = rest.0 due in omega (arith, some, same), λ same. rest.1 (omega (arith, some, same)))

-- ---- what it asks as a round begins

-- a turn begins
abbrev IsBegun : AppState → Type 0
IsBegun a = (m : AppState) × (a ≡ app_settled start_of_app m)

begun_after : (rounds : List (List Reply)) (a : AppState) → IsBegun a → IsBegun (after_rounds rounds a)
begun_after [] a h = h
begun_after (rs ∷ rounds) a h = begun_after rounds (app_next_round (after_replies rs a)) (fresh_turn (after_replies rs a), refl)

-- what comes after the stop asks for none
no_stop : (m : AppState) → AsksFastClose (app_settled (Write ∷ Close ∷ Read ∷ End ∷ []) m) → ⊥
no_stop m = by (not (is_nil m.rest)) (is_nil m.rest && not m.closed) (not m.told)
  where
    by : (w c r : Bool) → AsksFastClose (if w then record m { agenda = Write ∷ Close ∷ Read ∷ End ∷ [] }
        else (if c then record m { agenda = Close ∷ Read ∷ End ∷ [] }
        else (if r then record m { agenda = Read ∷ End ∷ [] } else record m { agenda = End ∷ [] }))) → ⊥
    by true c r is = cc
    by false true r is = cc
    by false false true is = cc
    by false false false is = cc

begun_asks : (m : AppState) → AsksFastClose (app_settled start_of_app m) ↔ (is_due m.stops_in ≡ true)
begun_asks m = by (is_due m.stops_in)
  where
    rest : AppState
    rest = app_settled (Write ∷ Close ∷ Read ∷ End ∷ []) m

    by : (b : Bool) → AsksFastClose (if b then record m { agenda = start_of_app }
        else (if b then record m { agenda = AbortSend ∷ AbortReceive ∷ Write ∷ Close ∷ Read ∷ End ∷ [] }
        else (if b then record m { agenda = AbortReceive ∷ Write ∷ Close ∷ Read ∷ End ∷ [] } else rest))) ↔ (b ≡ true)
    by true = (λ asks. refl, λ is. refl)
    by false = (λ asks. absurd (no_stop m asks), λ is. absurd (false≢true is))

asks_where : (a : AppState) → IsBegun a → AsksFastClose a ↔ (is_due a.stops_in ≡ true)
asks_where a h = subst (λ b. AsksFastClose b ↔ (is_due b.stops_in ≡ true)) (sym h.1) (both (begun_asks h.0) (settled_keeps start_of_app h.0))
  where
    both : AsksFastClose (app_settled start_of_app h.0) ↔ (is_due h.0.stops_in ≡ true) → (app_settled start_of_app h.0).stops_in ≡ h.0.stops_in
        → AsksFastClose (app_settled start_of_app h.0) ↔ (is_due (app_settled start_of_app h.0).stops_in ≡ true)
    both same kept = (λ asks. ap is_due kept ∙ same.0 asks, λ due. same.1 (sym (ap is_due kept) ∙ due))

pub stops_on_time : StopsOnTime
stops_on_time = record { due = due; never = never }
  where
    due : (s : _) (buffer : ℕ) (file : List ℕ) (tick : ℕ) (rounds : List (List Reply))
        → AsksFastClose (after_rounds rounds (first_app_turn s buffer file (Some tick))) ↔ HoldsTick (length rounds) tick
    due s buffer file tick rounds =
        let a = first_app_turn s buffer file (Some tick) in
        let left : (after_rounds rounds a).stops_in ≡ less (length rounds) (Some (tick / 100)) =
        rounds_left rounds a ∙ ap (less (length rounds)) (settled_keeps start_of_app (untouched s buffer file (Some tick))) in
        let asks = asks_where (after_rounds rounds a) (begun_after rounds a (untouched s buffer file (Some tick), refl)) in
        let count = due_after (length rounds) (tick / 100) in (
          λ now. let same = count.0 (sym (ap is_due left) ∙ asks.0 now) in (omega (arith, same), omega (arith, same)),
          λ holds. let first = holds.0 in let last = holds.1 in asks.1 (ap is_due left ∙ count.1 (omega (arith, first, last))),
        )

    never : (s : _) (buffer : ℕ) (file : List ℕ) (rounds : List (List Reply))
        → AsksFastClose (after_rounds rounds (first_app_turn s buffer file None)) → ⊥
    never s buffer file rounds now =
        let a = first_app_turn s buffer file None in
        let left : (after_rounds rounds a).stops_in ≡ less (length rounds) None =
        rounds_left rounds a ∙ ap (less (length rounds)) (settled_keeps start_of_app (untouched s buffer file None)) in
        let asks = asks_where (after_rounds rounds a) (begun_after rounds a (untouched s buffer file None, refl)) in
        false≢true (sym (ap is_due left ∙ none_due (length rounds)) ∙ asks.0 now)
