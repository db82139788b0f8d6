-- Turns that are made one after the other, with what they hand to the links.
use Rattle.std.proofs.Common.{◌≡◌, ◌∙◌, inl, inr, ℕ, suc, ◌+◌, true, false, List, [], ◌∷◌, ◌++◌, take, refl, sym, ap, subst, arith, Option, Some, None, IfSome, All, option_to_list}
use Rattle.std.proofs.lemmas.List.{append-nil}
use Rattle.std.proofs.lemmas.List.Elements.{All-append, All-cons, All-nil}
use mathlib.Core.List.{append_assoc}
use Rattle.path_core.specs.Octets.{octets}
use Rattle.link_trace.specs.declared.rows.Rates.{Rates}
use Rattle.link_trace.specs.declared.sent.Sent.{Sent}
use Rattle.world_laws.specs.Worlds.{AreLawful, IsLawfulTurn, Turn, WorldState, after_turn, world_run}
use Rattle.world_core.specs.Kept.{Kept}
use Rattle.run_trace.specs.declared.making.TraceFault.{TraceFault}
use Rattle.run_trace.specs.Rates.{measured_at, measured_in}
use Rattle.run_trace.specs.Trace.{FailedOrIs, IsWhole, StandsAtFault, StandsBehind, StopsAt, can_be_made, sent_at, trace_of}

lawful_turn : (t : Turn) (w : WorldState (List ℕ)) → can_be_made t w ≡ true → IsLawfulTurn t w
lawful_turn (Turn.Step actor) w h = h
lawful_turn Turn.Round w h = h

-- Of the order, these turns are left in this world, so many were made, and this was gathered.
pub record Gathers (order left : List Turn) (start w : WorldState (List ℕ)) (trace : List Sent) (measured : List Rates) (place : ℕ) : Type 0 where
  pub told : trace ++ trace_of left w ≡ trace_of order start
  pub measures : measured ++ measured_in left w ≡ measured_in order start
  pub run : world_run octets left w ≡ world_run octets order start
  pub lawful : AreLawful octets left w → AreLawful octets order start
  pub stops : (n : ℕ) → StopsAt n left w → StopsAt (place + n) order start
  pub behind : (n : ℕ) → world_run octets (take n left) w ≡ world_run octets (take (place + n) order) start
  pub whole : All IsWhole trace

pub all_whole : (o : Option Sent) → IfSome o IsWhole → All IsWhole (option_to_list o)
all_whole None one = All-nil IsWhole
all_whole (Some s) one = All-cons IsWhole s [] one (All-nil IsWhole)

module _ (order rest : List Turn) (start w : WorldState (List ℕ)) (trace : List Sent) (measured : List Rates) (place : ℕ) (t : Turn) where
  -- a turn more
  one_more : Gathers order (t ∷ rest) start w trace measured place → can_be_made t w ≡ true → All IsWhole (sent_at t w)
      → Gathers order rest start (after_turn octets t w) (trace ++ sent_at t w) (measured ++ measured_at t w) (place + 1)
  one_more g made whole = record {
    told = append_assoc trace (sent_at t w) (trace_of rest (after_turn octets t w)) ∙ g.told;
    measures = append_assoc measured (measured_at t w) (measured_in rest (after_turn octets t w)) ∙ g.measures;
    run = g.run;
    lawful = λ lawful. g.lawful (lawful_turn t w made, lawful);
    stops = λ n stops. let P : ℕ → Type 0 = λ m. StopsAt m order start in let e : place + suc n ≡ place + 1 + n = omega arith in
        subst P e (g.stops (suc n) (made, stops));
    behind = λ n. let e : place + suc n ≡ place + 1 + n = omega arith in
        g.behind (suc n) ∙ ap (λ (m : ℕ). world_run octets (take m order) start) e;
    whole = All-append IsWhole trace (sent_at t w) g.whole whole;
  }

  pub gathers_more : (left : List Turn) (v : WorldState (List ℕ)) (new : List Sent) (more : List Rates) → left ≡ t ∷ rest → v ≡ after_turn octets t w
      → new ≡ trace ++ sent_at t w → more ≡ measured ++ measured_at t w
      → Gathers order left start w trace measured place → can_be_made t w ≡ true → All IsWhole (sent_at t w)
      → Gathers order rest start v new more (place + 1)
  gathers_more left v new more left_is v_is new_is more_is g made whole =
      rw (v_is, new_is, more_is) (one_more (subst (λ (ts : List Turn). Gathers order ts start w trace measured place) left_is g) made whole)

  pub stops_here : (left : List Turn) → left ≡ t ∷ rest → Gathers order left start w trace measured place → can_be_made t w ≡ false → StopsAt place order start
  stops_here left left_is g not_made =
      let P : ℕ → Type 0 = λ m. StopsAt m order start in let e : place + 0 ≡ place = omega arith in
      subst P e ((subst (λ (ts : List Turn). Gathers order ts start w trace measured place) left_is g).stops 0 not_made)

module _ (order left : List Turn) (start w : WorldState (List ℕ)) (trace : List Sent) (measured : List Rates) (place : ℕ) where
  -- all turns were made
  pub all_gathered : left ≡ [] → Gathers order left start w trace measured place → trace ≡ trace_of order start
  all_gathered is g = let h = subst (λ (ts : List Turn). Gathers order ts start w trace measured place) is g in sym (append-nil trace) ∙ h.told

  pub all_measured : left ≡ [] → Gathers order left start w trace measured place → measured ≡ measured_in order start
  all_measured is g = let h = subst (λ (ts : List Turn). Gathers order ts start w trace measured place) is g in sym (append-nil measured) ∙ h.measures

  pub all_lawful : left ≡ [] → Gathers order left start w trace measured place → AreLawful octets order start
  all_lawful is g = let h = subst (λ (ts : List Turn). Gathers order ts start w trace measured place) is g in h.lawful tt

  pub all_made : left ≡ [] → Gathers order left start w trace measured place → w ≡ world_run octets order start
  all_made is g = let h = subst (λ (ts : List Turn). Gathers order ts start w trace measured place) is g in h.run

module _ (order left : List Turn) (start : WorldState (List ℕ)) (old : Kept) (trace : List Sent) (measured : List Rates) (place : ℕ) where
  -- a world stands behind the turns that were made
  pub stands_here : Gathers order left start old.state trace measured place → old.failed ≡ false → StandsBehind place order start old
  stands_here g stands =
      let e : place + 0 ≡ place = omega arith in
      let here : old.state ≡ world_run octets (take place order) start = g.behind 0 ∙ ap (λ (m : ℕ). world_run octets (take m order) start) e in
      rw (← stands, ← here) refl

  -- the next one left the world as it was
  pub stands_still : (new : Kept) → Gathers order left start old.state trace measured place → new.failed ≡ false → new.state ≡ old.state → StandsBehind place order start new
  stands_still new g stands same =
      let e : place + 0 ≡ place = omega arith in
      let here : new.state ≡ world_run octets (take place order) start = same ∙ g.behind 0 ∙ ap (λ (m : ℕ). world_run octets (take m order) start) e in
      rw (← stands, ← here) refl

  -- memory was wanting in the next one
  pub stands_cut : (new : Kept) → Gathers order left start old.state trace measured place → old.failed ≡ false → FailedOrIs new old
      → StandsAtFault TraceFault.Memory order start new
  stands_cut new g stands (inl failed) = inl failed
  stands_cut new g stands (inr same) = inr (place, same ∙ stands_here g stands)
