-- Rounds of a kind, made and put one after the other.
use Rattle.std.proofs.Common.{◌≡◌, refl, sym, ◌∙◌, ap, subst, ℕ, suc, ◌+◌, ◌≤◌, true, false, inl, inr, ◌⊎◌, List, [], ◌∷◌, ◌++◌, length, Option, append_assoc, arith}
use Rattle.std.proofs.lemmas.List.{append-nil}
use Rattle.outside_kit.specs.Outside.{Told}
use Rattle.sides.specs.declared.side.Side.TheVariants.{A, B}
use Rattle.path_core.specs.Octets.{octets}
use Rattle.world_laws.specs.Outcomes.{outcome_of, output_of}
use Rattle.world_laws.specs.Serial.{goes_on}
use Rattle.world_laws.specs.Worlds.{Turn, world_run}
use Rattle.world_laws.proofs.Weaving.WholeRounds.{run_append}
use Rattle.world_core.specs.RoundEnds.{round_ends}
use Rattle.run_outside.specs.declared.status.Status.{Status}
use Rattle.mptcp_run.specs.Making.{RoundMade, RoundStops}
use Rattle.run_outside.specs.Plan.{AddsAll, AddsCut}
use Rattle.mptcp_run.specs.Plan.{round_puts, puts_by_round}
use Rattle.mptcp_run.specs.Putting.{AreFirst}
use Rattle.mptcp_run.specs.Rounds.{HoldsEnds, HoldsPart}
use Rattle.mptcp_run.specs.Task.{Connection}
use Rattle.run_outside.proofs.Calls.{adds_none, all_then, cut_then, cut_longer, cut_none}
use Rattle.mptcp_run.proofs.Folding.{RoundsPut, RoundsCut}
use Rattle.run_outside.proofs.PortsLemmas.{IsPrefix-refl}
use Rattle.mptcp_run.proofs.RoundSteps.{nothing_part, nothing_ends, ends_more, part_behind}

-- What a kind of rounds has: the turns of each, and those of at most so many.
pub record IsKind (To : Connection → Connection → Type 0) (Are : ℕ → List Turn → Connection → Type 0) : Type 0 where
  pub turns_of : (w v : Connection) → To w v → List Turn
  pub ran : (w v : Connection) (r : To w v) → world_run octets (turns_of w v r) w ≡ v
  pub ends : (w v : Connection) (r : To w v) (rest : List Turn) → round_ends (turns_of w v r ++ rest) w ≡ v ∷ round_ends rest v
  pub none : (w : Connection) → Are 0 [] w
  pub one : (w v : Connection) (r : To w v) → Are 1 (turns_of w v r) w
  pub last : (n : ℕ) (w v : Connection) (r : To w v) → goes_on (outcome_of v.crew) ≡ false → Are (suc n) (turns_of w v r) w
  pub more : (n : ℕ) (w v : Connection) (r : To w v) (rest : List Turn) → goes_on (outcome_of v.crew) ≡ true → Are n rest v
      → Are (suc n) (turns_of w v r ++ rest) w

module _ (To : Connection → Connection → Type 0) (Are : ℕ → List Turn → Connection → Type 0) (kind : IsKind To Are) (opening : Option (List ℕ)) where
  ran_more : (w v : Connection) (r : To w v) (rest : List Turn) → world_run octets (kind.turns_of w v r ++ rest) w ≡ world_run octets rest v
  ran_more w v r rest = run_append octets (kind.turns_of w v r) rest w ∙ ap (world_run octets rest) (kind.ran w v r)

  one_end : (w v : Connection) (r : To w v) → round_ends (kind.turns_of w v r) w ≡ v ∷ []
  one_end w v r = ap (λ ts. round_ends ts w) (sym (append-nil (kind.turns_of w v r))) ∙ kind.ends w v r []

  -- ---- all of them

  -- a round first, whose outcome is Going
  rounds_more : (left number count : ℕ) (w v x : Connection) (a b c : Told) → goes_on (outcome_of v.crew) ≡ true
      → RoundMade To opening number w v a b → RoundsPut Are opening left (suc number) count v x b c
      → RoundsPut Are opening (suc left) number count w x a c
  rounds_more left number count w v x a b c going made rest =
      let ends = kind.ends w v made.round rest.turns in
      record {
        turns = kind.turns_of w v made.round ++ rest.turns;
        are = kind.more left w v made.round rest.turns going rest.are;
        world = rest.world ∙ sym (ran_more w v made.round rest.turns);
        count_is = let many = rest.count_is in
            let as_many : length (round_ends (kind.turns_of w v made.round ++ rest.turns) w) ≡ suc (length (round_ends rest.turns v)) = ap length ends in omega (arith, many, as_many);
        ports = subst (λ es. HoldsEnds opening number w es a.holds c.holds) (sym ends) (ends_more opening number w v (round_ends rest.turns v) a.holds b.holds c.holds made.ports rest.ports);
        calls = subst (λ es. AddsAll (puts_by_round opening number w es) a.calls c.calls) (sym ends)
            (all_then (round_puts opening number w v) (puts_by_round opening (suc number) v (round_ends rest.turns v)) a.calls b.calls c.calls made.calls rest.calls);
      }

  -- the last one
  rounds_last : (left number count : ℕ) (w v : Connection) (a b : Told) → goes_on (outcome_of v.crew) ≡ false
      → RoundMade To opening number w v a b → count ≡ number + 1 → RoundsPut Are opening (suc left) number count w v a b
  rounds_last left number count w v a b over made many =
      let end = one_end w v made.round in
      record {
        turns = kind.turns_of w v made.round;
        are = kind.last left w v made.round over;
        world = sym (kind.ran w v made.round);
        count_is = let one : length (round_ends (kind.turns_of w v made.round) w) ≡ 1 = ap length end in omega (arith, many, one);
        ports = subst (λ es. HoldsEnds opening number w es a.holds b.holds) (sym end)
            (ends_more opening number w v [] a.holds b.holds b.holds made.ports (nothing_ends opening (suc number) v b.holds b.holds (λ p. refl)));
        calls = subst (λ es. AddsAll (puts_by_round opening number w es) a.calls b.calls) (sym end) (all_then (round_puts opening number w v) [] a.calls b.calls b.calls made.calls (adds_none b.calls));
      }

  pub rounds_over : (most number count : ℕ) (w : Connection) (a : Told) → most ≡ 0 → count ≡ number → RoundsPut Are opening most number count w w a a
  rounds_over most number count w a none many = subst (λ m. RoundsPut Are opening m number count w w a a) (sym none) (record {
    turns = [];
    are = kind.none w;
    world = refl;
    count_is = omega (arith, many);
    ports = nothing_ends opening number w a.holds a.holds (λ p. refl);
    calls = adds_none a.calls;
  })

  -- ---- some of them

  cut_more : (left number : ℕ) (w v : Connection) (a b c : Told) (status : Status) → goes_on (outcome_of v.crew) ≡ true
      → RoundMade To opening number w v a b → RoundsCut Are opening left (suc number) v b c status
      → RoundsCut Are opening (suc left) number w a c status
  cut_more left number w v a b c status going made rest = record {
    turns = turns ++ rest.turns;
    more = rest.more;
    are = first rest.are;
    one = subst (λ z. length (round_ends rest.more z) ≤ 1) (sym (ran_more w v made.round rest.turns)) rest.one;
    ports = subst (λ es. HoldsPart opening number w es (round_ends ((turns ++ rest.turns) ++ rest.more) w) a.holds c.holds) (sym (kind.ends w v made.round rest.turns))
        (subst (λ es. HoldsPart opening number w (v ∷ round_ends rest.turns v) es a.holds c.holds) (sym ends)
        (part_behind opening number w v (round_ends rest.turns v) (round_ends (rest.turns ++ rest.more) v) a.holds b.holds c.holds made.ports rest.ports));
    calls = subst (λ es. AddsCut (puts_by_round opening number w es) status a.calls c.calls) (sym ends)
        (cut_then (round_puts opening number w v) (puts_by_round opening (suc number) v (round_ends (rest.turns ++ rest.more) v)) status a.calls b.calls c.calls made.calls rest.calls);
  }
    where
      turns : List Turn
      turns = kind.turns_of w v made.round

      ends : round_ends ((turns ++ rest.turns) ++ rest.more) w ≡ v ∷ round_ends (rest.turns ++ rest.more) v
      ends = ap (λ ts. round_ends ts w) (append_assoc turns rest.turns rest.more) ∙ kind.ends w v made.round (rest.turns ++ rest.more)

      next : (n : ℕ) → (rest.more ≡ []) ⊎ ((suc n ≤ left) × Are (suc n) (rest.turns ++ rest.more) v)
          → (rest.more ≡ []) ⊎ ((suc (suc n) ≤ suc left) × Are (suc (suc n)) ((turns ++ rest.turns) ++ rest.more) w)
      next n (inl none) = inl none
      next n (inr (few, are)) = inr (
        omega (arith, few),
        subst (λ ts. Are (suc (suc n)) ts w) (sym (append_assoc turns rest.turns rest.more)) (kind.more (suc n) w v made.round (rest.turns ++ rest.more) going are),
      )

      first : AreFirst (λ n ts. Are n ts v) left rest.turns rest.more → AreFirst (λ n ts. Are n ts w) (suc left) (turns ++ rest.turns) rest.more
      first (n, (few, (are, after))) = (suc n, (omega (arith, few), (kind.more n w v made.round rest.turns going are, next n after)))

  -- a part of the first one, or nothing
  cut_here : (left number : ℕ) (w : Connection) (a b : Told) (status : Status) → RoundStops To opening number w a b status
      → RoundsCut Are opening (suc left) number w a b status
  cut_here left number w a b status (inl (is, (same, none))) = record {
    turns = [];
    more = [];
    are = (0, (omega arith, (kind.none w, inl refl)));
    one = omega arith;
    ports = nothing_part opening number w [] a.holds b.holds same (IsPrefix-refl (output_of B w)) (IsPrefix-refl (output_of A w));
    calls = cut_none [] status a.calls b.calls is none;
  }
  cut_here left number w a b status (inr cut) =
      let end = one_end w cut.end cut.round in
      record {
        turns = [];
        more = kind.turns_of w cut.end cut.round;
        are = (0, (omega arith, (kind.none w, inr (omega arith, kind.one w cut.end cut.round))));
        one = let many : length (round_ends (kind.turns_of w cut.end cut.round) w) ≡ 1 = ap length end in omega (arith, many);
        ports = subst (λ es. HoldsPart opening number w [] es a.holds b.holds) (sym end) cut.ports;
        calls = subst (λ es. AddsCut (puts_by_round opening number w es) status a.calls b.calls) (sym end) (cut_longer (round_puts opening number w cut.end) [] status a.calls b.calls cut.calls);
      }

-- ---- the same, with numbers as a loop counts them

module _ (To : Connection → Connection → Type 0) (Are : ℕ → List Turn → Connection → Type 0) (kind : IsKind To Are) (op : Option (List ℕ)) (most left i n : ℕ)
    (e : most ≡ suc left) (g : n ≡ i) where
  pub put_more : (next_op : Option (List ℕ)) (next count : ℕ) (w v x : Connection) (a b c : Told) → next_op ≡ op → next ≡ suc i
      → goes_on (outcome_of v.crew) ≡ true → RoundMade To op n w v a b → RoundsPut Are next_op left next count v x b c
      → RoundsPut Are op most i count w x a c
  put_more next_op next count w v x a b c same f going made rest =
      subst (λ m. RoundsPut Are op m i count w x a c) (sym e)
      (rounds_more To Are kind op left i count w v x a b c going (subst (λ m. RoundMade To op m w v a b) g made)
      (subst (λ m. RoundsPut Are op left m count v x b c) f (subst (λ o. RoundsPut Are o left next count v x b c) same rest)))

  pub put_last : (count : ℕ) (w v : Connection) (a b : Told) → goes_on (outcome_of v.crew) ≡ false → RoundMade To op n w v a b
      → count ≡ i + 1 → RoundsPut Are op most i count w v a b
  put_last count w v a b over made many =
      subst (λ m. RoundsPut Are op m i count w v a b) (sym e)
      (rounds_last To Are kind op left i count w v a b over (subst (λ m. RoundMade To op m w v a b) g made) many)

  pub cut_later : (next_op : Option (List ℕ)) (next : ℕ) (w v : Connection) (a b c : Told) (status : Status) → next_op ≡ op → next ≡ suc i
      → goes_on (outcome_of v.crew) ≡ true → RoundMade To op n w v a b → RoundsCut Are next_op left next v b c status
      → RoundsCut Are op most i w a c status
  cut_later next_op next w v a b c status same f going made rest =
      subst (λ m. RoundsCut Are op m i w a c status) (sym e)
      (cut_more To Are kind op left i w v a b c status going (subst (λ m. RoundMade To op m w v a b) g made)
      (subst (λ m. RoundsCut Are op left m v b c status) f (subst (λ o. RoundsCut Are o left next v b c status) same rest)))

  pub cut_now : (w : Connection) (a b : Told) (status : Status) → RoundStops To op n w a b status → RoundsCut Are op most i w a b status
  cut_now w a b status stops =
      subst (λ m. RoundsCut Are op m i w a b status) (sym e)
      (cut_here To Are kind op left i w a b status (subst (λ m. RoundStops To op m w a b status) g stops))
