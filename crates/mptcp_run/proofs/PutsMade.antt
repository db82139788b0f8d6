-- The calls of a round's end, and of the turns of a log.
use Rattle.std.proofs.Common.{◌≡◌, refl, sym, ◌∙◌, ap, subst, ℕ, List, [], ◌∷◌, ◌++◌, drop, length, Option, Result, Ok, Err, OnOk, OnErr}
use Rattle.std.proofs.Math.Seq.{drop-append_seam}
use Rattle.outside_kit.specs.declared.port.Port.TheVariants as port
use Rattle.sides.specs.declared.side.Side.TheVariants.{A, B}
use Rattle.outside_kit.specs.Outside.{Told, HoldsAfter, HoldsPrefix}
use Rattle.path_core.specs.Octets.{octets}
use Rattle.world_laws.specs.Fine.{lists_of}
use Rattle.world_laws.specs.Outcomes.{notes_at, read_by}
use Rattle.world_laws.specs.Worlds.{Turn, after_turn}
use Rattle.run_outside.specs.declared.status.Status.{Status}
use Rattle.mptcp_run.specs.Adding.{turn_puts}
use Rattle.run_outside.specs.Plan.{AddsAll, AddsCut, puts_of}
use Rattle.mptcp_run.specs.Plan.{read_in, round_puts, puts_by_round}
use Rattle.world_core.specs.RoundEnds.{round_ends}
use Rattle.run_outside.specs.LogText.{round_text, NotesFit}
use Rattle.run_outside.specs.Calling.{Puts}
use Rattle.run_log.specs.Fitting.{IsLong}
use Rattle.mptcp_run.specs.Making.{RoundPut}
use Rattle.mptcp_run.specs.Replaying.{last_after, rounds_after}
use Rattle.mptcp_run.specs.Task.{Connection}
use Rattle.world_core.specs.Weaving.{IsSince, made_at, since}
use Rattle.run_outside.proofs.Calls.{ToldCalls, all_then, cut_then, cut_longer}
use Rattle.world_core.proofs.SinceRound.{read_grew, steps_since}
use Rattle.run_outside.proofs.Calling.{puts_by}
use Rattle.mptcp_run.proofs.RoundSteps.{round_held, round_part}

-- ---- one round

-- the steps since have read what was read in the round
read_is : (made : List ℕ) (last w : Connection) (actor : ℕ) → IsSince last made w
    → read_by (drop (made_at actor made) (notes_at actor w.crew)) ≡ drop (length (read_by (notes_at actor last.crew))) (read_by (notes_at actor w.crew))
read_is made last w actor h =
    sym (ap (drop (length (read_by (notes_at actor last.crew)))) (read_grew made last w actor h)
    ∙ drop-append_seam (read_by (notes_at actor last.crew)) (read_by (drop (made_at actor made) (notes_at actor w.crew))))

pub puts_are : (made : List ℕ) (last w : Connection) (opening : Option (List ℕ)) (number : ℕ) (read_by_b read_by_a lines : List ℕ)
    → read_by_b ≡ read_by (drop (made_at 1 made) (notes_at 1 w.crew)) → read_by_a ≡ read_by (drop (made_at 0 made) (notes_at 0 w.crew))
    → lines ≡ round_text opening number (since made (lists_of w.crew)) → IsSince last made w → puts_of read_by_b read_by_a lines ≡ round_puts opening number last w
puts_are made last w opening number read_by_b read_by_a lines b_is a_is lines_are h =
    ap (λ xs. puts_of xs read_by_a lines) (b_is ∙ read_is made last w 1 h) ∙ ap (λ xs. puts_of (read_in B last w) xs lines) (a_is ∙ read_is made last w 0 h)
    ∙ ap (puts_of (read_in B last w) (read_in A last w)) (lines_are ∙ ap (round_text opening number) (steps_since made last w h))

-- ---- the turns of a log

module _ (opening : Option (List ℕ)) (number : ℕ) (turn : Turn) (last w : Connection) where
  turn_first : (rest : List Turn)
      → turn_puts opening number turn last w ++ puts_by_round opening (rounds_after turn number) (last_after turn last w) (round_ends rest (after_turn octets turn w))
      ≡ puts_by_round opening number last (round_ends (turn ∷ rest) w)
  turn_first = by turn
    where
      by : (turn : Turn) (rest : List Turn)
          → turn_puts opening number turn last w ++ puts_by_round opening (rounds_after turn number) (last_after turn last w) (round_ends rest (after_turn octets turn w))
          ≡ puts_by_round opening number last (round_ends (turn ∷ rest) w)
      by (Turn.Step actor) rest = refl
      by Turn.Round rest = refl

  -- before those of others
  pub puts_more : (rest : List Turn) (a b c : ToldCalls) → AddsAll (turn_puts opening number turn last w) a b
      → AddsAll (puts_by_round opening (rounds_after turn number) (last_after turn last w) (round_ends rest (after_turn octets turn w))) b c
      → AddsAll (puts_by_round opening number last (round_ends (turn ∷ rest) w)) a c
  puts_more rest a b c one more = subst (λ plan. AddsAll plan a c) (turn_first rest) (all_then (turn_puts opening number turn last w) _ a b c one more)

  -- before some
  pub puts_cut_more : (rest : List Turn) (a b c : ToldCalls) (status : Status) → AddsAll (turn_puts opening number turn last w) a b
      → AddsCut (puts_by_round opening (rounds_after turn number) (last_after turn last w) (round_ends rest (after_turn octets turn w))) status b c
      → AddsCut (puts_by_round opening number last (round_ends (turn ∷ rest) w)) status a c
  puts_cut_more rest a b c status one more = subst (λ plan. AddsCut plan status a c) (turn_first rest) (cut_then (turn_puts opening number turn last w) _ status a b c one more)

  -- some of them
  pub puts_cut : (a b : ToldCalls) (status : Status) → AddsCut (turn_puts opening number turn last w) status a b
      → AddsCut (puts_by_round opening number last (round_ends (turn ∷ []) w)) status a b
  puts_cut a b status cut = subst (λ plan. AddsCut plan status a b) (turn_first []) (cut_longer (turn_puts opening number turn last w) [] status a b cut)

-- ---- what the end of a round puts

module _ {X : Type 0} (made : List ℕ) (last w : Connection) (opening : Option (List ℕ)) (number : ℕ) (read_by_b read_by_a lines : List ℕ)
    (b_is : read_by_b ≡ read_by (drop (made_at 1 made) (notes_at 1 w.crew))) (a_is : read_by_a ≡ read_by (drop (made_at 0 made) (notes_at 0 w.crew)))
    (lines_are : lines ≡ round_text opening number (since made (lists_of w.crew))) (h : IsSince last made w) (few : IsLong number) (fit : NotesFit opening (since made (lists_of w.crew)))
    (a b : Told) where
  pub piece_put : (r : Result X Status) → OnOk r (HoldsAfter (a.holds port.ReadByB) (b.holds port.ReadByB) (λ held. held ++ read_by_b))
      → OnOk r (HoldsAfter (a.holds port.ReadByA) (b.holds port.ReadByA) (λ held. held ++ read_by_a)) → OnOk r (HoldsAfter (a.holds port.Log) (b.holds port.Log) (λ held. held ++ lines))
      → OnErr r (HoldsPrefix (a.holds port.ReadByB) (b.holds port.ReadByB) read_by_b) → OnErr r (HoldsPrefix (a.holds port.ReadByA) (b.holds port.ReadByA) read_by_a)
      → OnErr r (HoldsPrefix (a.holds port.Log) (b.holds port.Log) lines) → Puts (puts_of read_by_b read_by_a lines) a b r → RoundPut opening number last w a b r
  piece_put (Ok x) by_b by_a log b_part a_part log_part puts = record {
    whole = round_held made last w opening number a.holds b.holds read_by_b read_by_a lines b_is a_is lines_are h few fit by_b by_a log;
    part = tt;
    puts = puts_by _ _ a b (Ok x) (puts_are made last w opening number read_by_b read_by_a lines b_is a_is lines_are h) puts;
  }
  piece_put (Err e) by_b by_a log b_part a_part log_part puts = record {
    whole = tt;
    part = round_part made last w opening number a.holds b.holds read_by_b read_by_a lines b_is a_is lines_are h b_part a_part log_part;
    puts = puts_by _ _ a b (Err e) (puts_are made last w opening number read_by_b read_by_a lines b_is a_is lines_are h) puts;
  }
