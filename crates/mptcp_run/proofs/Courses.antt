-- The turns of a course, from what the rounds or turns of a loop come to.
--
-- Three kinds of turns share their words: `CourseMade` and `CourseCut` speak of lists of turns of a course, with the
-- ports and the calls of the same turns. A loop counts backwards in its own words (`proofs/Folding`), and is turned
-- into these once, at its end (`proofs/Courses`); all lemmas above are over any course. Loops of rounds share their
-- lemmas (`proofs/RoundsMade`): a kind of rounds is a record (`IsKind`) of the turns of one, and of how those of
-- several are made of it (`serial_kind`, `timed_kind`, `woven_kind`).
use Rattle.std.proofs.Common.{◌≡◌, refl, sym, ◌∙◌, ap, subst, ℕ, zero, suc, Bool, true, false, inl, List, [], ◌∷◌, ◌++◌, length, Option, arith}
use Rattle.outside_kit.specs.Outside.{Told}
use Rattle.path_core.specs.Octets.{octets}
use Rattle.world_laws.specs.Outcomes.{outcome_of}
use Rattle.world_laws.specs.Serial.{goes_on, OneOf, round_and, steps_and, after_steps, after_turns, AreRounds, IsSerial}
use Rattle.world_laws.specs.Worlds.{Turn, world_step, end_round, world_run}
use Rattle.world_core.specs.Rounds.{RoundTo}
use Rattle.world_core.specs.RoundEnds.{round_ends}
use Rattle.run_outside.specs.declared.status.Status.{Status}
use Rattle.run_outside.specs.declared.status.Status.TheVariants.{Put, Memory, Log}
use Rattle.mptcp_run.specs.Courses.{CourseMade, CourseCut, LogStops}
use Rattle.mptcp_run.specs.Putting.{AreFirstOf}
use Rattle.mptcp_run.specs.Schedules.{AreRoundsBy}
use Rattle.mptcp_run.specs.declared.schedule.Schedule.{Schedule}
use Rattle.mptcp_run.specs.declared.schedule.Schedule.TheVariants.{Serial, Timed}
use Rattle.mptcp_run.specs.Task.{Connection}
use Rattle.mptcp_run.specs.Task as course
use Rattle.mptcp_run.specs.WovenRounds.{AreWovenRounds}
use Rattle.mptcp_run.proofs.Folding.{RoundsPut, RoundsCut, TurnsPut, TurnsCut, TurnsFault}
use Rattle.mptcp_run.proofs.RoundsMade.{IsKind}

pub one_true : (b : Bool) (this that : Type 0) → b ≡ true → this → OneOf b this that
one_true b this that is x = subst (λ c. OneOf c this that) (sym is) x

pub one_false : (b : Bool) (this that : Type 0) → b ≡ false → that → OneOf b this that
one_false b this that is x = subst (λ c. OneOf c this that) (sym is) x

pub one_both : (b : Bool) (this that : Type 0) → this → that → OneOf b this that
one_both true this that x y = x
one_both false this that x y = y

-- ---- whole turns

steps_ends : (actor n : ℕ) (rest : List Turn) (w : Connection) → round_ends (steps_and actor n rest) w ≡ round_ends rest (after_steps octets actor n w)
steps_ends actor zero rest w = refl
steps_ends actor (suc n) rest w = steps_ends actor n rest (world_step octets actor w)

pub counts_ends : (actor : ℕ) (counts : List ℕ) (rest : List Turn) (w : Connection)
    → round_ends (round_and actor counts rest) w ≡ end_round (after_turns octets actor counts w) ∷ round_ends rest (end_round (after_turns octets actor counts w))
counts_ends actor [] rest w = refl
counts_ends actor (n ∷ counts) rest w =
    steps_ends actor n (round_and (suc actor) counts rest) w ∙ counts_ends (suc actor) counts rest (after_steps octets actor n w)

steps-append : (actor n : ℕ) (rest more : List Turn) → steps_and actor n rest ++ more ≡ steps_and actor n (rest ++ more)
steps-append actor zero rest more = refl
steps-append actor (suc n) rest more = ap (λ ts. Turn.Step actor ∷ ts) (steps-append actor n rest more)

counts-append : (actor : ℕ) (counts : List ℕ) (rest more : List Turn) → round_and actor counts rest ++ more ≡ round_and actor counts (rest ++ more)
counts-append actor [] rest more = refl
counts-append actor (n ∷ counts) rest more =
    steps-append actor n (round_and (suc actor) counts rest) more ∙ ap (steps_and actor n) (counts-append (suc actor) counts rest more)

steps_run : (actor n : ℕ) (rest : List Turn) (w : Connection) → world_run octets (steps_and actor n rest) w ≡ world_run octets rest (after_steps octets actor n w)
steps_run actor zero rest w = refl
steps_run actor (suc n) rest w = steps_run actor n rest (world_step octets actor w)

counts_run : (actor : ℕ) (counts : List ℕ) (rest : List Turn) (w : Connection)
    → world_run octets (round_and actor counts rest) w ≡ world_run octets rest (end_round (after_turns octets actor counts w))
counts_run actor [] rest w = refl
counts_run actor (n ∷ counts) rest w =
    steps_run actor n (round_and (suc actor) counts rest) w ∙ counts_run (suc actor) counts rest (after_steps octets actor n w)

-- a round is spelled by the numbers of its steps
pub serial_kind : IsKind (RoundTo octets) (λ n ts w. IsSerial octets n ts w)
serial_kind = record {
  turns_of = λ w v r. round_and 0 r.0 [];
  ran = λ w v r. counts_run 0 r.0 [] w ∙ sym r.2;
  ends = λ w v r rest. ap (λ ts. round_ends ts w) (counts-append 0 r.0 [] rest) ∙ counts_ends 0 r.0 rest w ∙ ap (λ x. x ∷ round_ends rest x) (sym r.2);
  none = λ w. ([], refl, refl);
  one = λ w v r. (r.0 ∷ [], (r.1, one_both _ _ _ refl refl), refl);
  last = λ n w v r over. (r.0 ∷ [], (r.1, one_false _ _ _ (subst (λ z. goes_on (outcome_of z.crew) ≡ false) r.2 over) refl), refl);
  more = λ n w v r rest going h. (
    r.0 ∷ h.0,
    (r.1, one_true _ _ _ (subst (λ z. goes_on (outcome_of z.crew) ≡ true) r.2 going) (subst (λ z. AreRounds octets n h.0 z) r.2 h.1)),
    counts-append 0 r.0 [] rest ∙ ap (round_and 0 r.0) h.2,
  );
}

-- ---- courses of rounds

module _ (opening : Option (List ℕ)) (most : ℕ) (w : Connection) (a b : Told) where
  -- all rounds, and how many they are
  pub scheduled_made : (schedule : Schedule) (count : ℕ) (v : Connection) → RoundsPut (λ n ts x. AreRoundsBy schedule n ts x) opening most 0 count w v a b
      → (made : CourseMade (course.rounds schedule most) opening w v a b) × (count ≡ length (round_ends made.turns w))
  scheduled_made schedule count v p = (record { turns = p.turns; are = p.are; world = p.world; ports = p.ports; calls = p.calls }, let many = p.count_is in omega (arith, many))

  pub woven_made : (count : ℕ) (v : Connection) → RoundsPut AreWovenRounds opening most 0 count w v a b
      → (made : CourseMade (course.threads most) opening w v a b) × (count ≡ length (round_ends made.turns w))
  woven_made count v p = (record { turns = p.turns; are = p.are; world = p.world; ports = p.ports; calls = p.calls }, let many = p.count_is in omega (arith, many))

  -- some of them
  pub scheduled_cut : (schedule : Schedule) (status : Status) → RoundsCut (λ n ts x. AreRoundsBy schedule n ts x) opening most 0 w a b status
      → CourseCut (course.rounds schedule most) opening w a b status
  scheduled_cut schedule status p = record { turns = p.turns; more = p.more; are = p.are; one = p.one; ports = p.ports; calls = p.calls }

  pub woven_cut : (status : Status) → RoundsCut AreWovenRounds opening most 0 w a b status → CourseCut (course.threads most) opening w a b status
  woven_cut status p = record { turns = p.turns; more = p.more; are = p.are; one = p.one; ports = p.ports; calls = p.calls }

-- no round yet
pub no_round : (schedule : Schedule) (most : ℕ) (w : Connection) → AreFirstOf (course.rounds schedule most) [] [] w
no_round Serial most w = (0, (omega arith, (([], refl, refl), inl refl)))
no_round Timed most w = (0, (omega arith, (([], refl, refl), inl refl)))

pub no_woven_round : (most : ℕ) (w : Connection) → AreFirstOf (course.threads most) [] [] w
no_woven_round most w = (0, (omega arith, (record { lawful = tt; in_order = refl; few = refl }, inl refl)))

-- ---- the turns of a log

module _ (opening : Option (List ℕ)) (order : List Turn) (w : Connection) (a b : Told) where
  -- all of them
  pub turns_made : (v : Connection) → TurnsPut opening 0 order w w v a b → CourseMade (course.told order) opening w v a b
  turns_made v p = record { turns = order; are = (refl, p.lawful); world = p.world; ports = p.ports; calls = p.calls }

  turns_cut : (status : Status) → TurnsCut opening 0 order w w a b status → CourseCut (course.told order) opening w a b status
  turns_cut status p = record {
    turns = p.turns;
    more = p.more;
    are = (p.behind, (p.order_is, p.lawful));
    one = p.one;
    ports = p.ports;
    calls = p.calls;
  }

  -- some of them, by the status with which they end a run
  pub turns_stop : (lines : ℕ) (status : Status) → TurnsFault opening 0 order w w lines a b status → LogStops order lines opening w a b status
  turns_stop lines (Log at) fault = (
    fault.0,
    (
      fault.1.0,
      record {
        made = fault.1.1.made;
        turn = fault.1.1.turn;
        behind = fault.1.1.behind;
        order_is = fault.1.1.order_is;
        count_is = fault.1.1.count_is;
        lawful = fault.1.1.lawful;
        refused = fault.1.1.refused;
        ports = fault.1.1.ports;
        calls = fault.1.1.calls;
      },
    ),
  )
  turns_stop lines (Put p) fault = turns_cut (Put p) fault
  turns_stop lines Memory fault = turns_cut Memory fault
  turns_stop lines _ fault = absurd fault

-- no turn yet
pub no_turn : (order : List Turn) (w : Connection) → AreFirstOf (course.told order) [] [] w
no_turn order w = (order, (refl, tt))
