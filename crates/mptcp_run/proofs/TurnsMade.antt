-- The turns of a log, made and put one after the other.
use Rattle.std.proofs.Common.{◌≡◌, refl, sym, ap, subst, ℕ, suc, ◌+◌, ◌≤◌, inl, inr, List, [], ◌∷◌, ◌++◌, length, Option, arith}
use Rattle.outside_kit.specs.declared.port.Port.{Port}
use Rattle.outside_kit.specs.Outside.{Told}
use Rattle.outside_kit.specs.declared.port.Port.TheVariants as port
use Rattle.sides.specs.declared.side.Side.TheVariants.{A, B}
use Rattle.path_core.specs.Octets.{octets}
use Rattle.world_laws.specs.Outcomes.{output_of}
use Rattle.world_core.specs.Kept.{Kept, standing}
use Rattle.world_laws.specs.Worlds.{Turn, end_round, after_turn, IsLawfulTurn}
use Rattle.run_outside.specs.declared.status.Status.{Status}
use Rattle.run_outside.specs.declared.status.Status.TheVariants.{Put, Memory, Log}
use Rattle.mptcp_run.specs.Adding.{turn_puts}
use Rattle.run_outside.specs.Plan.{AddsAll}
use Rattle.run_outside.specs.Ports.{HoldsMore, IsBetween, Ports}
use Rattle.world_core.specs.RoundEnds.{round_ends, last_end, steps_by_round}
use Rattle.run_outside.specs.LogText.{log_text}
use Rattle.mptcp_run.specs.Replaying.{last_after, rounds_after, TurnHolds, TurnCut, TurnStops}
use Rattle.mptcp_run.specs.Rounds.{HoldsEnds, HoldsPart}
use Rattle.mptcp_run.specs.Task.{Connection}
use Rattle.run_outside.proofs.Calls.{adds_none, cut_none}
use Rattle.run_outside.proofs.PortsLemmas.{IsPrefix-refl}
use Rattle.mptcp_run.proofs.PutsMade.{puts_more, puts_cut_more, puts_cut}
use Rattle.mptcp_run.proofs.RoundSteps.{nothing_part, nothing_ends, ends_more, part_behind}
use Rattle.mptcp_run.proofs.Folding.{TurnsPut, TurnRefused, TurnsCut, TurnsFault}

-- from ports that hold the same
more_from : (a b c : Option (List ℕ)) (prefix : List ℕ) (P : List ℕ → Type 0) → b ≡ a → HoldsMore b c prefix P → HoldsMore a c prefix P
more_from a b c prefix P same h = subst (λ o. HoldsMore o c prefix P) same h

ends_from : (opening : Option (List ℕ)) (number : ℕ) (w : Connection) (ends : List Connection) (a b c : Ports) → ((p : Port) → b p ≡ a p) → HoldsEnds opening number w ends b c
    → HoldsEnds opening number w ends a c
ends_from opening number w ends a b c same h = record {
  read_by_b = more_from (a port.ReadByB) (b port.ReadByB) (c port.ReadByB) (output_of B w) (λ text. text ≡ output_of B (last_end w ends)) (same port.ReadByB) h.read_by_b;
  read_by_a = more_from (a port.ReadByA) (b port.ReadByA) (c port.ReadByA) (output_of A w) (λ text. text ≡ output_of A (last_end w ends)) (same port.ReadByA) h.read_by_a;
  log = more_from (a port.Log) (b port.Log) (c port.Log) [] (λ text. text ≡ log_text opening number (steps_by_round w ends)) (same port.Log) h.log;
  fits = h.fits;
}

part_from : (opening : Option (List ℕ)) (number : ℕ) (w : Connection) (low high : List Connection) (a b c : Ports) → ((p : Port) → b p ≡ a p) → HoldsPart opening number w low high b c
    → HoldsPart opening number w low high a c
part_from opening number w low high a b c same h = record {
  read_by_b = more_from (a port.ReadByB) (b port.ReadByB) (c port.ReadByB) (output_of B w) (IsBetween (output_of B (last_end w low)) (output_of B (last_end w high))) (same port.ReadByB) h.read_by_b;
  read_by_a = more_from (a port.ReadByA) (b port.ReadByA) (c port.ReadByA) (output_of A w) (IsBetween (output_of A (last_end w low)) (output_of A (last_end w high))) (same port.ReadByA) h.read_by_a;
  log = more_from (a port.Log) (b port.Log) (c port.Log) [] (IsBetween (log_text opening number (steps_by_round w low)) (log_text opening number (steps_by_round w high))) (same port.Log) h.log;
}

module _ (opening : Option (List ℕ)) where
  -- a turn before what others put
  ends_behind : (number : ℕ) (turn : Turn) (rest : List Turn) (last w : Connection) (a b c : Ports) → TurnHolds opening number turn last w a b
      → HoldsEnds opening (rounds_after turn number) (last_after turn last w) (round_ends rest (after_turn octets turn w)) b c
      → HoldsEnds opening number last (round_ends (turn ∷ rest) w) a c
  ends_behind number (Turn.Step actor) rest last w a b c holds h = ends_from opening number last _ a b c holds h
  ends_behind number Turn.Round rest last w a b c holds h = ends_more opening number last (end_round w) _ a b c holds h

  parts_behind : (number : ℕ) (turn : Turn) (low high : List Turn) (last w : Connection) (a b c : Ports) → TurnHolds opening number turn last w a b
      → HoldsPart opening (rounds_after turn number) (last_after turn last w) (round_ends low (after_turn octets turn w)) (round_ends high (after_turn octets turn w)) b c
      → HoldsPart opening number last (round_ends (turn ∷ low) w) (round_ends (turn ∷ high) w) a c
  parts_behind number (Turn.Step actor) low high last w a b c holds h = part_from opening number last _ _ a b c holds h
  parts_behind number Turn.Round low high last w a b c holds h = part_behind opening number last (end_round w) _ _ a b c holds h

  -- ---- all turns

  pub turns_more : (number : ℕ) (turn : Turn) (rest : List Turn) (last w x : Connection) (a b c : Told) → IsLawfulTurn turn w
      → TurnHolds opening number turn last w a.holds b.holds → AddsAll (turn_puts opening number turn last w) a.calls b.calls
      → TurnsPut opening (rounds_after turn number) rest (last_after turn last w) (after_turn octets turn w) x b c
      → TurnsPut opening number (turn ∷ rest) last w x a c
  turns_more number turn rest last w x a b c lawful holds made h = record {
    lawful = (lawful, h.lawful);
    world = h.world;
    ports = ends_behind number turn rest last w a.holds b.holds c.holds holds h.ports;
    calls = puts_more opening number turn last w rest a.calls b.calls c.calls made h.calls;
  }

  pub turns_over : (number : ℕ) (last w : Connection) (a : Told) → TurnsPut opening number [] last w w a a
  turns_over number last w a = record { lawful = tt; world = refl; ports = nothing_ends opening number last a.holds a.holds (λ p. refl); calls = adds_none a.calls }

  -- ---- up to a fault

  refused_more : (number : ℕ) (turn : Turn) (rest : List Turn) (count : ℕ) (last w : Connection) (a b c : Told) → IsLawfulTurn turn w
      → TurnHolds opening number turn last w a.holds b.holds → AddsAll (turn_puts opening number turn last w) a.calls b.calls
      → TurnRefused opening (rounds_after turn number) rest count (last_after turn last w) (after_turn octets turn w) b c
      → TurnRefused opening number (turn ∷ rest) (suc count) last w a c
  refused_more number turn rest count last w a b c lawful holds made h = record {
    made = turn ∷ h.made;
    turn = h.turn;
    behind = h.behind;
    order_is = ap (λ ts. turn ∷ ts) h.order_is;
    count_is = ap suc h.count_is;
    lawful = (lawful, h.lawful);
    refused = h.refused;
    ports = ends_behind number turn h.made last w a.holds b.holds c.holds holds h.ports;
    calls = puts_more opening number turn last w h.made a.calls b.calls c.calls made h.calls;
  }

  cut_more : (number : ℕ) (turn : Turn) (rest : List Turn) (last w : Connection) (a b c : Told) (status : Status) → IsLawfulTurn turn w
      → TurnHolds opening number turn last w a.holds b.holds → AddsAll (turn_puts opening number turn last w) a.calls b.calls
      → TurnsCut opening (rounds_after turn number) rest (last_after turn last w) (after_turn octets turn w) b c status
      → TurnsCut opening number (turn ∷ rest) last w a c status
  cut_more number turn rest last w a b c status lawful holds made h = record {
    turns = turn ∷ h.turns;
    more = h.more;
    behind = h.behind;
    order_is = ap (λ ts. turn ∷ ts) h.order_is;
    lawful = (lawful, h.lawful);
    one = h.one;
    ports = parts_behind number turn h.turns (h.turns ++ h.more) last w a.holds b.holds c.holds holds h.ports;
    calls = puts_cut_more opening number turn last w (h.turns ++ h.more) a.calls b.calls c.calls status made h.calls;
  }

  pub fault_more : (number : ℕ) (turn : Turn) (rest : List Turn) (last w : Connection) (lines : ℕ) (a b c : Told) (status : Status)
      → IsLawfulTurn turn w → TurnHolds opening number turn last w a.holds b.holds → AddsAll (turn_puts opening number turn last w) a.calls b.calls
      → TurnsFault opening (rounds_after turn number) rest (last_after turn last w) (after_turn octets turn w) (lines + 1) b c status
      → TurnsFault opening number (turn ∷ rest) last w lines a c status
  fault_more number turn rest last w lines a b c (Log line) lawful holds made h =
      (suc h.0, (let is = h.1.0 in omega (arith, is), refused_more number turn rest h.0 last w a b c lawful holds made h.1.1))
  fault_more number turn rest last w lines a b c (Put p) lawful holds made h = cut_more number turn rest last w a b c (Put p) lawful holds made h
  fault_more number turn rest last w lines a b c Memory lawful holds made h = cut_more number turn rest last w a b c Memory lawful holds made h
  fault_more number turn rest last w lines a b c _ lawful holds made h = absurd h

  cut_here : (number : ℕ) (turn : Turn) (rest : List Turn) (last w : Connection) (a b : Told) (status : Status)
      → TurnCut opening number turn last w a b status → TurnsCut opening number (turn ∷ rest) last w a b status
  cut_here number turn rest last w a b status (inl (is, (same, none))) = record {
    turns = [];
    more = [];
    behind = turn ∷ rest;
    order_is = refl;
    lawful = tt;
    one = omega arith;
    ports = nothing_part opening number last [] a.holds b.holds same (IsPrefix-refl (output_of B last)) (IsPrefix-refl (output_of A last));
    calls = cut_none [] status a.calls b.calls is none;
  }
  cut_here number turn rest last w a b status (inr (lawful, (part, cut))) = record {
    turns = [];
    more = turn ∷ [];
    behind = rest;
    order_is = refl;
    lawful = (lawful, tt);
    one = one turn;
    ports = part;
    calls = puts_cut opening number turn last w a.calls b.calls status cut;
  }
    where
      one : (turn : Turn) → length (round_ends (turn ∷ []) w) ≤ 1
      one (Turn.Step actor) = omega arith
      one Turn.Round = omega arith

  pub fault_here : (number : ℕ) (turn : Turn) (rest : List Turn) (last w : Connection) (lines line : ℕ) (a b : Told) (status : Status) → line ≡ lines + 1
      → TurnStops opening number turn last w line a b status → TurnsFault opening number (turn ∷ rest) last w lines a b status
  fault_here number turn rest last w lines line a b (Log at) is h = (
    0,
    (
      let at_is = h.0 in omega (arith, is, at_is),
      record {
        made = [];
        turn = turn;
        behind = rest;
        order_is = refl;
        count_is = refl;
        lawful = tt;
        refused = h.1.0;
        ports = nothing_ends opening number last a.holds b.holds h.1.1.0;
        calls = h.1.1.1;
      },
    ),
  )
  fault_here number turn rest last w lines line a b (Put p) is h = cut_here number turn rest last w a b (Put p) h
  fault_here number turn rest last w lines line a b Memory is h = cut_here number turn rest last w a b Memory h
  fault_here number turn rest last w lines line a b _ is h = absurd h

-- ---- the same, as a loop has them

module _ (op next_op : Option (List ℕ)) (n m : ℕ) (turn : Turn) (rest order : List Turn) (last w : Connection) (k : Kept) (a b c : Told)
    (same : next_op ≡ op) (many : m ≡ rounds_after turn n) (order_is : order ≡ turn ∷ rest) (world : k ≡ standing (after_turn octets turn w)) (lawful : IsLawfulTurn turn w)
    (holds : TurnHolds op n turn last w a.holds b.holds) (made : AddsAll (turn_puts op n turn last w) a.calls b.calls) where
  pub put_turn : (x : Connection) → TurnsPut next_op m rest (last_after turn last w) k.state x b c → TurnsPut op n order last w x a c
  put_turn x h =
      subst (λ ts. TurnsPut op n ts last w x a c) (sym order_is)
      (turns_more op n turn rest last w x a b c lawful holds made
      (subst (λ (z : Kept). TurnsPut op (rounds_after turn n) rest (last_after turn last w) z.state x b c) world
      (subst (λ i. TurnsPut op i rest (last_after turn last w) k.state x b c) many
      (subst (λ o. TurnsPut o m rest (last_after turn last w) k.state x b c) same h))))

  pub fault_later : (line next : ℕ) (status : Status) → next ≡ line + 1 → TurnsFault next_op m rest (last_after turn last w) k.state next b c status
      → TurnsFault op n order last w line a c status
  fault_later line next status next_is h =
      subst (λ ts. TurnsFault op n ts last w line a c status) (sym order_is)
      (fault_more op n turn rest last w line a b c status lawful holds made
      (subst (λ (z : Kept). TurnsFault op (rounds_after turn n) rest (last_after turn last w) z.state (line + 1) b c status) world
      (subst (λ i. TurnsFault op (rounds_after turn n) rest (last_after turn last w) k.state i b c status) next_is
      (subst (λ i. TurnsFault op i rest (last_after turn last w) k.state next b c status) many
      (subst (λ o. TurnsFault o m rest (last_after turn last w) k.state next b c status) same h)))))

pub fault_now : (op : Option (List ℕ)) (n line at : ℕ) (turn : Turn) (rest order : List Turn) (last w : Connection) (a b : Told) (status : Status)
    → at ≡ line + 1 → order ≡ turn ∷ rest → TurnStops op n turn last w at a b status → TurnsFault op n order last w line a b status
fault_now op n line at turn rest order last w a b status at_is order_is h =
    subst (λ ts. TurnsFault op n ts last w line a b status) (sym order_is) (fault_here op n turn rest last w line at a b status at_is h)

-- a turn ends one round at most
pub rounds_few : (turn : Turn) (n i m : ℕ) → n ≤ i → m ≡ rounds_after turn n → m ≤ i + 1
rounds_few (Turn.Step actor) n i m few is = omega (arith, few, is)
rounds_few Turn.Round n i m few is = omega (arith, few, is)
