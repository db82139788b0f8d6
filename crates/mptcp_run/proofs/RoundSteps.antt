-- A round that was made: its steps, what its readers have read, and what the ports hold then.
use Rattle.std.proofs.Common.{◌≡◌, refl, sym, ◌∙◌, ap, subst, ℕ, suc, Option, List, [], ◌∷◌, ◌++◌, drop}
use Rattle.std.proofs.lemmas.List.{append-nil}
use Rattle.outside_kit.specs.declared.port.Port.{Port}
use Rattle.outside_kit.specs.declared.port.Port.TheVariants as port
use Rattle.sides.specs.declared.side.Side.TheVariants.{A, B}
use Rattle.outside_kit.specs.Outside.{HoldsAfter, HoldsPrefix}
use Rattle.octet_text.specs.Prefix.{IsPrefix}
use Rattle.run_log.specs.Fitting.{IsLong}
use Rattle.world_laws.specs.Fine.{lists_of}
use Rattle.world_laws.specs.Outcomes.{read_by, notes_at, output_of}
use Rattle.world_core.proofs.SinceRound.{steps_since, read_grew}
use Rattle.run_outside.specs.Ports.{IsBetween}
use Rattle.world_core.specs.RoundEnds.{round_steps, steps_by_round, last_end}
use Rattle.run_outside.specs.LogText.{NotesFit, round_text, log_text}
use Rattle.mptcp_run.specs.Rounds.{HoldsRound, HoldsEnds, HoldsPart}
use Rattle.mptcp_run.specs.Task.{Connection}
use Rattle.world_core.specs.Weaving.{IsSince, made_at, since}
use Rattle.run_outside.proofs.PortsLemmas.{IsPrefix-refl, IsPrefix-behind, whole_more, part_more, nothing_more, more_then, more_behind}

module _ (made : List ℕ) (last w : Connection) (opening : Option (List ℕ)) (number : ℕ) (old new : Port → Option (List ℕ)) (read_by_b read_by_a lines : List ℕ)
    (b_is : read_by_b ≡ read_by (drop (made_at 1 made) (notes_at 1 w.crew))) (a_is : read_by_a ≡ read_by (drop (made_at 0 made) (notes_at 0 w.crew)))
    (lines_are : lines ≡ round_text opening number (since made (lists_of w.crew))) where
  -- a round that was put whole
  pub round_held : IsSince last made w → IsLong number → NotesFit opening (since made (lists_of w.crew)) → HoldsAfter (old port.ReadByB) (new port.ReadByB) (λ held. held ++ read_by_b)
      → HoldsAfter (old port.ReadByA) (new port.ReadByA) (λ held. held ++ read_by_a) → HoldsAfter (old port.Log) (new port.Log) (λ held. held ++ lines)
      → HoldsRound opening number last w old new
  round_held h few fit b a log = record {
    read_by_b = whole_more (old port.ReadByB) (new port.ReadByB) (output_of B last) read_by_b (output_of B w) b
        (read_grew made last w 1 h ∙ ap (λ xs. output_of B last ++ xs) (sym b_is));
    read_by_a = whole_more (old port.ReadByA) (new port.ReadByA) (output_of A last) read_by_a (output_of A w) a
        (read_grew made last w 0 h ∙ ap (λ xs. output_of A last ++ xs) (sym a_is));
    log = whole_more (old port.Log) (new port.Log) [] lines (round_text opening number (round_steps last w)) log
        (ap (round_text opening number) (sym (steps_since made last w h)) ∙ sym lines_are);
    fits = (few, subst (NotesFit opening) (steps_since made last w h) fit);
  }

  -- or a part of it
  pub round_part : IsSince last made w → HoldsPrefix (old port.ReadByB) (new port.ReadByB) read_by_b
      → HoldsPrefix (old port.ReadByA) (new port.ReadByA) read_by_a → HoldsPrefix (old port.Log) (new port.Log) lines
      → HoldsPart opening number last [] (w ∷ []) old new
  round_part h b a log = record {
    read_by_b = part_more (old port.ReadByB) (new port.ReadByB) (output_of B last) read_by_b (output_of B w) b
        (read_grew made last w 1 h ∙ ap (λ xs. output_of B last ++ xs) (sym b_is));
    read_by_a = part_more (old port.ReadByA) (new port.ReadByA) (output_of A last) read_by_a (output_of A w) a
        (read_grew made last w 0 h ∙ ap (λ xs. output_of A last ++ xs) (sym a_is));
    log = part_more (old port.Log) (new port.Log) [] lines (round_text opening number (round_steps last w) ++ []) log
        (append-nil (round_text opening number (round_steps last w)) ∙ ap (round_text opening number) (sym (steps_since made last w h)) ∙ sym lines_are);
  }

-- nothing was put
pub nothing_part : (opening : Option (List ℕ)) (number : ℕ) (w : Connection) (high : List Connection) (old new : Port → Option (List ℕ)) → ((p : Port) → new p ≡ old p)
    → IsPrefix (output_of B w) (output_of B (last_end w high)) → IsPrefix (output_of A w) (output_of A (last_end w high))
    → HoldsPart opening number w [] high old new
nothing_part opening number w high old new same b a = record {
  read_by_b = nothing_more (old port.ReadByB) (new port.ReadByB) (output_of B w) (IsBetween (output_of B w) (output_of B (last_end w high))) (same port.ReadByB) (record { least = IsPrefix-refl (output_of B w); most = b });
  read_by_a = nothing_more (old port.ReadByA) (new port.ReadByA) (output_of A w) (IsBetween (output_of A w) (output_of A (last_end w high))) (same port.ReadByA) (record { least = IsPrefix-refl (output_of A w); most = a });
  log = nothing_more (old port.Log) (new port.Log) [] (IsBetween [] (log_text opening number (steps_by_round w high))) (same port.Log) (record {
    least = IsPrefix-refl [];
    most = record { rest = log_text opening number (steps_by_round w high); whole_is = refl };
  });
}

pub nothing_ends : (opening : Option (List ℕ)) (number : ℕ) (w : Connection) (old new : Port → Option (List ℕ)) → ((p : Port) → new p ≡ old p) → HoldsEnds opening number w [] old new
nothing_ends opening number w old new same = record {
  read_by_b = nothing_more (old port.ReadByB) (new port.ReadByB) (output_of B w) (λ text. text ≡ output_of B w) (same port.ReadByB) refl;
  read_by_a = nothing_more (old port.ReadByA) (new port.ReadByA) (output_of A w) (λ text. text ≡ output_of A w) (same port.ReadByA) refl;
  log = nothing_more (old port.Log) (new port.Log) [] (λ text. text ≡ []) (same port.Log) refl;
  fits = tt;
}

-- a round before others
pub ends_more : (opening : Option (List ℕ)) (number : ℕ) (w v : Connection) (ends : List Connection) (a b c : Port → Option (List ℕ)) → HoldsRound opening number w v a b
    → HoldsEnds opening (suc number) v ends b c → HoldsEnds opening number w (v ∷ ends) a c
ends_more opening number w v ends a b c h k = record {
  read_by_b = more_then (a port.ReadByB) (b port.ReadByB) (c port.ReadByB) (output_of B w) (output_of B v) (λ text. text ≡ output_of B (last_end v ends)) h.read_by_b k.read_by_b;
  read_by_a = more_then (a port.ReadByA) (b port.ReadByA) (c port.ReadByA) (output_of A w) (output_of A v) (λ text. text ≡ output_of A (last_end v ends)) h.read_by_a k.read_by_a;
  log = more_behind (a port.Log) (b port.Log) (c port.Log) (round_text opening number (round_steps w v)) (λ text. text ≡ log_text opening (suc number) (steps_by_round v ends))
      (λ text. text ≡ log_text opening number (steps_by_round w (v ∷ ends))) h.log k.log
      (λ text is. ap (λ xs. round_text opening number (round_steps w v) ++ xs) is);
  fits = (h.fits, k.fits);
}

-- before some, and of a part
pub part_behind : (opening : Option (List ℕ)) (number : ℕ) (w v : Connection) (low high : List Connection) (a b c : Port → Option (List ℕ)) → HoldsRound opening number w v a b
    → HoldsPart opening (suc number) v low high b c → HoldsPart opening number w (v ∷ low) (v ∷ high) a c
part_behind opening number w v low high a b c h k = record {
  read_by_b = more_then (a port.ReadByB) (b port.ReadByB) (c port.ReadByB) (output_of B w) (output_of B v) (IsBetween (output_of B (last_end v low)) (output_of B (last_end v high))) h.read_by_b k.read_by_b;
  read_by_a = more_then (a port.ReadByA) (b port.ReadByA) (c port.ReadByA) (output_of A w) (output_of A v) (IsBetween (output_of A (last_end v low)) (output_of A (last_end v high))) h.read_by_a k.read_by_a;
  log = more_behind (a port.Log) (b port.Log) (c port.Log) (round_text opening number (round_steps w v))
      (IsBetween (log_text opening (suc number) (steps_by_round v low)) (log_text opening (suc number) (steps_by_round v high)))
      (IsBetween (log_text opening number (steps_by_round w (v ∷ low))) (log_text opening number (steps_by_round w (v ∷ high)))) h.log k.log
      (λ text between. record {
        least = IsPrefix-behind (round_text opening number (round_steps w v)) _ text between.least;
        most = IsPrefix-behind (round_text opening number (round_steps w v)) text _ between.most;
      });
}

-- of a round nothing was put
pub round_untouched : (made : List ℕ) (last w : Connection) (opening : Option (List ℕ)) (number : ℕ) (old new : Port → Option (List ℕ)) → ((p : Port) → new p ≡ old p)
    → IsSince last made w → HoldsPart opening number last [] (w ∷ []) old new
round_untouched made last w opening number old new same h =
    nothing_part opening number last (w ∷ []) old new same
    (record { rest = read_by (drop (made_at 1 made) (notes_at 1 w.crew)); whole_is = read_grew made last w 1 h })
    (record { rest = read_by (drop (made_at 0 made) (notes_at 0 w.crew)); whole_is = read_grew made last w 0 h })
