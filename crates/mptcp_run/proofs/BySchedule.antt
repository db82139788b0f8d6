-- Rounds by a schedule: what one is made of, that the next one begins behind it, and what many of them come to.
use Rattle.std.proofs.Common.{◌≡◌, refl, sym, ◌∙◌, ap, subst, ℕ, zero, suc, Bool, true, false, List, [], ◌∷◌, ◌++◌, map, length, append_assoc}
use Rattle.path_core.specs.Octets.{octets}
use Rattle.world_laws.specs.Fine.{lists_of}
use Rattle.world_laws.specs.Outcomes.{outcome_of}
use Rattle.world_laws.specs.Serial.{goes_on, OneOf, round_and, steps_and, spelled, after_round, AreRounds}
use Rattle.world_laws.specs.Weaving.{steps_by}
use Rattle.world_laws.specs.Worlds.{Turn, world_step, end_round, world_run}
use Rattle.world_laws.proofs.Weaving.WholeRounds.{run_append}
use Rattle.world_core.specs.RoundEnds.{round_ends, last_end}
use Rattle.world_core.specs.TimedRounds.{TimedRoundTo, IsTimed, AreTimedRounds, after_timed, turns_by}
use Rattle.world_core.specs.Weaving.{IsSince}
use Rattle.mptcp_run.specs.Rounds.{Begins}
use Rattle.mptcp_run.specs.Schedules.{RoundBy, AreRoundsBy}
use Rattle.mptcp_run.specs.Task.{Connection}
use Rattle.mptcp_run.specs.WovenRounds.{AreAtMost}
use Rattle.mptcp_run.specs.declared.schedule.Schedule.{Schedule}
use Rattle.mptcp_run.specs.declared.schedule.Schedule.TheVariants.{Serial, Timed}
use Rattle.mptcp_run.proofs.AllTurns.{round_begins, round_since}
use Rattle.mptcp_run.proofs.Courses.{one_true, one_false, one_both, counts_ends, serial_kind}
use Rattle.mptcp_run.proofs.LogWoven.{steps_end}
use Rattle.mptcp_run.proofs.RoundsMade.{IsKind}
use Rattle.mptcp_run.proofs.RoundsWoven.{steps_begin, steps_since}

-- ---- one round

-- the next one begins behind it
pub begins_by : (schedule : Schedule) (w v : Connection) → Begins w → RoundBy schedule w v → Begins v
begins_by Serial w v begins r = round_begins w v begins r
begins_by Timed w v begins r = steps_begin r.order w v begins r.turns.over r.world

-- and its lists grew
pub since_by : (schedule : Schedule) (made : List ℕ) (w v : Connection) → made ≡ map length (lists_of w.crew) → Begins w → RoundBy schedule w v → IsSince w made v
since_by Serial made w v is begins r = round_since made w v is begins r
since_by Timed made w v is begins r = steps_since r.order made w v is begins r.world

-- ---- many of them

timed_kind : IsKind (TimedRoundTo octets) (λ n ts w. IsTimed octets n ts w)
timed_kind = record {
  turns_of = λ w v r. steps_by r.order ++ Turn.Round ∷ [];
  ran = λ w v r. run_append octets (steps_by r.order) (Turn.Round ∷ []) w ∙ sym r.world;
  ends = λ w v r rest.
      ap (λ ts. round_ends ts w) (append_assoc (steps_by r.order) (Turn.Round ∷ []) rest) ∙ steps_end r.order (Turn.Round ∷ rest) w
      ∙ ap (λ x. x ∷ round_ends rest x) (sym r.world);
  none = λ w. ([], refl, refl);
  one = λ w v r. (r.order ∷ [], (r.turns, one_both _ _ _ refl refl), refl);
  last = λ n w v r over. (r.order ∷ [], (r.turns, one_false _ _ _ (subst (λ z. goes_on (outcome_of z.crew) ≡ false) r.world over) refl), refl);
  more = λ n w v r rest going h. (
    r.order ∷ h.0,
    (r.turns, one_true _ _ _ (subst (λ z. goes_on (outcome_of z.crew) ≡ true) r.world going) (subst (λ z. AreTimedRounds octets n h.0 z) r.world h.1)),
    append_assoc (steps_by r.order) (Turn.Round ∷ []) rest ∙ ap (λ ts. steps_by r.order ++ Turn.Round ∷ ts) h.2,
  );
}

pub kind_by : (schedule : Schedule) → IsKind (RoundBy schedule) (λ n ts w. AreRoundsBy schedule n ts w)
kind_by Serial = serial_kind
kind_by Timed = timed_kind

-- ---- they are at most so many

-- with those behind the first one
few_more : {Are : Type 0} (most : ℕ) (v : Connection) (rest : List Turn) (none : Type 0) → (none → rest ≡ [])
    → (Are → AreAtMost most (round_ends rest v)) → OneOf (goes_on (outcome_of v.crew)) Are none → AreAtMost (suc most) (v ∷ round_ends rest v)
few_more {Are} most v rest none is more = by (goes_on (outcome_of v.crew))
  where
    by : (b : Bool) → OneOf b Are none → OneOf b (AreAtMost most (round_ends rest v)) (round_ends rest v ≡ [])
    by true are = more are
    by false over = ap (λ ts. round_ends ts v) (is over)

serial_at_most : (most : ℕ) (counted : List (List ℕ)) (w : Connection) → AreRounds octets most counted w → AreAtMost most (round_ends (spelled counted) w)
serial_at_most zero counted w are = ap (λ (cs : List (List ℕ)). round_ends (spelled cs) w) are
serial_at_most (suc most) [] w are = absurd are
serial_at_most (suc most) (counts ∷ counted) w are =
    let v : Connection = after_round octets counts w in
    subst (λ (es : List Connection). AreAtMost (suc most) es) (sym (counts_ends 0 counts (spelled counted) w))
    (few_more most v (spelled counted) (counted ≡ []) (ap spelled) (serial_at_most most counted v) are.1)

timed_at_most : (most : ℕ) (orders : List (List ℕ)) (w : Connection) → AreTimedRounds octets most orders w → AreAtMost most (round_ends (turns_by orders) w)
timed_at_most zero orders w are = ap (λ (os : List (List ℕ)). round_ends (turns_by os) w) are
timed_at_most (suc most) [] w are = absurd are
timed_at_most (suc most) (order ∷ orders) w are =
    let v : Connection = after_timed octets order w in
    subst (λ (es : List Connection). AreAtMost (suc most) es) (sym (steps_end order (Turn.Round ∷ turns_by orders) w))
    (few_more most v (turns_by orders) (orders ≡ []) (ap turns_by) (timed_at_most most orders v) are.1)

pub few_by : (schedule : Schedule) (most : ℕ) (turns : List Turn) (w : Connection) → AreRoundsBy schedule most turns w → AreAtMost most (round_ends turns w)
few_by Serial most turns w (counted, are, is) = subst (λ ts. AreAtMost most (round_ends ts w)) (sym is) (serial_at_most most counted w are)
few_by Timed most turns w (orders, are, is) = subst (λ ts. AreAtMost most (round_ends ts w)) (sym is) (timed_at_most most orders w are)

-- ---- the last turn is the end of a round

last_end_of_steps : (actor n : ℕ) (rest : List Turn) (w first : Connection)
    → ((v : Connection) → last_end first (round_ends rest v) ≡ world_run octets rest v)
    → last_end first (round_ends (steps_and actor n rest) w) ≡ world_run octets (steps_and actor n rest) w
last_end_of_steps actor zero rest w first behind = behind w
last_end_of_steps actor (suc n) rest w first behind = last_end_of_steps actor n rest (world_step octets actor w) first behind

last_end_of_round : (counts : List ℕ) (actor : ℕ) (rest : List Turn) (w first : Connection)
    → ((v : Connection) → last_end v (round_ends rest v) ≡ world_run octets rest v)
    → last_end first (round_ends (round_and actor counts rest) w) ≡ world_run octets (round_and actor counts rest) w
last_end_of_round [] actor rest w first behind = behind (end_round w)
last_end_of_round (n ∷ counts) actor rest w first behind =
    last_end_of_steps actor n (round_and (suc actor) counts rest) w first (λ v. last_end_of_round counts (suc actor) rest v first behind)

last_end_of_rounds : (counted : List (List ℕ)) (w : Connection) → last_end w (round_ends (spelled counted) w) ≡ world_run octets (spelled counted) w
last_end_of_rounds [] w = refl
last_end_of_rounds (counts ∷ counted) w = last_end_of_round counts 0 (spelled counted) w w (last_end_of_rounds counted)

last_end_of_orders : (orders : List (List ℕ)) (w : Connection) → last_end w (round_ends (turns_by orders) w) ≡ world_run octets (turns_by orders) w
last_end_of_orders [] w = refl
last_end_of_orders (order ∷ orders) w =
    ap (last_end w) (steps_end order (Turn.Round ∷ turns_by orders) w) ∙ last_end_of_orders orders (after_timed octets order w)
    ∙ sym (run_append octets (steps_by order) (Turn.Round ∷ turns_by orders) w)

pub last_end_by : (schedule : Schedule) (most : ℕ) (turns : List Turn) (w : Connection) → AreRoundsBy schedule most turns w
    → last_end w (round_ends turns w) ≡ world_run octets turns w
last_end_by Serial most turns w (counted, are, is) = subst (λ ts. last_end w (round_ends ts w) ≡ world_run octets ts w) (sym is) (last_end_of_rounds counted w)
last_end_by Timed most turns w (orders, are, is) = subst (λ ts. last_end w (round_ends ts w) ≡ world_run octets ts w) (sym is) (last_end_of_orders orders w)
