-- The next world of a run by threads.
use Rattle.std.proofs.Common.{◌≡◌, refl, sym, ◌∙◌, ap, subst, ℕ, ◌-◌, Bool, true, false, not, Result, List, length, take, arith}
use Rattle.std.proofs.Math.Seq.{take-length}
use Rattle.std.specs.Prelude.{Ok, Err, IfOk, IfErr, OnOk}
use Rattle.actor_desk.specs.declared.ask.Note.{Note}
use Rattle.actor_desk.specs.Books.{StampedBooks}
use Rattle.world_laws.specs.Actors.{ActorCrew}
use Rattle.sides.specs.declared.side.Side.TheVariants.{A, B}
use Rattle.world_laws.specs.Fine.{IsFine}
use Rattle.world_laws.specs.Outcomes.{notes_at, notes_of}
use Rattle.world_laws.specs.Weaving as weaving
use Rattle.world_laws.specs.Worlds.{end_round, greatest}
use Rattle.journal_weave.specs.Rounds.{HaveTurned, WeavesTo}
use Rattle.world_core.specs.declared.hearing.Heard.{Heard}
use Rattle.world_core.specs.declared.hearing.Hearing.{Hearing}
use Rattle.world_core.specs.Hearing.{WasHeard, heard_first, told_by}
use Rattle.world_core.specs.Kept.{Kept, IsInRoundAbove, IsSound, standing, world}
use Rattle.world_core.proofs.InRound.{steps_in_round}
use Rattle.mptcp_run.specs.Rounds.{Begins}
use Rattle.mptcp_run.specs.Task.{Connection}
use Rattle.mptcp_run.specs.Threads.{GoesTo, IsWoven, has_order}
use Rattle.mptcp_run.proofs.LogWoven.{steps_fine}
use Rattle.mptcp_run.proofs.TurnsTimely.{each_timely, first_notes}

-- ---- orders

-- what holds of an order that was found, from what else holds of it
where_found : {V E : Type 0} (P Q : V → Type 0) (r : Result V E) → (has_order r ≡ true → (order : V) → P order → Q order)
    → IfOk r P → IfOk r Q
where_found P Q (Ok order) f h = f refl order h
where_found P Q (Err e) f h = tt

-- an order that was found, and what else holds then
found_order : {V E T : Type 0} (P : V → Type 0) (r : Result V E) → has_order r ≡ true → IfOk r P → OnOk r T → (order : V) × P order × T
found_order P (Ok order) is h t = (order, h, t)
found_order P (Err e) is h t = cc

-- what a result that is known tells
pub when_ok : {T E P : Type 0} (r : Result T E) (x : T) → r ≡ Ok x → OnOk r P → P
when_ok (Ok y) x is h = h
when_ok (Err e) x is h = cc

pub when_err : {T E : Type 0} (P : E → Type 0) (r : Result T E) (e : E) → r ≡ Err e → IfErr r P → P e
when_err P (Ok y) e is h = cc
when_err P (Err d) e is h = let same : d ≡ e = cc in subst P same h

pub if_ok : {T E : Type 0} (P : T → Type 0) (r : Result T E) (x : T) → r ≡ Ok x → IfOk r P → P x
if_ok P (Ok y) x is h = let same : y ≡ x = cc in subst P same h
if_ok P (Err e) x is h = cc

not_false : (b : Bool) → not b ≡ false → b ≡ true
not_false true is = refl
not_false false is = cc

-- ---- by threads

-- a round begins in its parts
pub parts_begin : (k : Kept) (crew : List (ActorCrew (List ℕ))) (books : StampedBooks) → k ≡ standing (world crew books) → Begins k.state
    → weaving.Begins (greatest 0 crew) (world crew books)
parts_begin k crew books is h =
    let begins = subst (λ (k : Kept). Begins k.state) is h in record { fine = begins.fine; known = begins.known }

-- what is left of it is of a world again
left_sound : (crew after : List (ActorCrew (List ℕ))) (books left : StampedBooks) → IsSound (world crew books) → HaveTurned crew after
    → (actors : List ℕ) → WeavesTo (world crew books) (world after left) actors → IsSound (world after left)
left_sound crew after books left sound have actors h = record {
  top = sound.top;
  fine = subst (IsFine sound.top) h.leads (steps_fine actors sound.top (world crew books) sound.fine);
  timely = record { each = λ i d at. each_timely crew after have.many have.turned (λ j c there. sound.timely.each j c there) i d at };
  round = subst (IsInRoundAbove sound.top) h.leads (steps_in_round actors sound.top (world crew books) sound.round);
}

abbrev hearing : List Note → List Note → Hearing
hearing a b = record { a = told_by a; b = told_by b }

-- what its readers were told before the round was told by their first steps
heard_still : (heard : Heard) (crew after : List (ActorCrew (List ℕ))) → WasHeard heard crew → heard.steps_a ≡ length (notes_of A crew)
    → heard.steps_b ≡ length (notes_of B crew) → HaveTurned crew after → WasHeard heard after
heard_still heard crew after was a b have = was ∙ by (first 0 heard.steps_a a) (first 1 heard.steps_b b)
  where
    first : (i n : ℕ) → n ≡ length (notes_at i crew) → take n (notes_at i crew) ≡ take n (notes_at i after)
    first i n is =
        ap (λ k. take k (notes_at i crew)) is ∙ take-length (notes_at i crew) ∙ sym (first_notes crew after have.many have.turned i)
        ∙ ap (λ k. take k (notes_at i after)) (sym is)

    by : take heard.steps_a (notes_at 0 crew) ≡ take heard.steps_a (notes_at 0 after) → take heard.steps_b (notes_at 1 crew) ≡ take heard.steps_b (notes_at 1 after)
        → heard_first heard.steps_a heard.steps_b crew ≡ heard_first heard.steps_a heard.steps_b after
    by e f = ap (λ notes. hearing notes (take heard.steps_b (notes_at 1 crew))) e ∙ ap (λ notes. hearing (take heard.steps_a (notes_at 0 after)) notes) f

pub found_heard : {V E : Type 0} (heard : Heard) (r : Result V E) (found : Bool) (k : Kept) (crew after : List (ActorCrew (List ℕ))) (books : StampedBooks)
    → found ≡ has_order r → k ≡ standing (world crew books) → WasHeard heard k.state.crew → heard.steps_a ≡ length (notes_of A k.state.crew)
    → heard.steps_b ≡ length (notes_of B k.state.crew) → OnOk r (HaveTurned crew after) → not found ≡ false → WasHeard heard after
found_heard heard (Ok order) found k crew after books found_is is was a b have stands =
    heard_still heard crew after (subst (λ (k : Kept). WasHeard heard k.state.crew) is was) (a ∙ ap (λ (k : Kept). length (notes_of A k.state.crew)) is)
    (b ∙ ap (λ (k : Kept). length (notes_of B k.state.crew)) is) have
found_heard heard (Err e) found k crew after books found_is is was a b have stands =
    let no : found ≡ true = not_false found stands in cc

-- an order was found, or not
module _ {V E : Type 0} (items : V → List ℕ) (r : Result V E) (found : Bool) (found_is : found ≡ has_order r)
    (crew after : List (ActorCrew (List ℕ))) (books left : StampedBooks)
    (order : IfOk r (λ order. WeavesTo (world crew books) (world after left) (items order))) where
  pub found_sound : IsSound (world crew books) → OnOk r (HaveTurned crew after) → not found ≡ false → IsSound (world after left)
  found_sound sound have stands =
      let one = found_order (λ order. WeavesTo (world crew books) (world after left) (items order)) r (sym found_is ∙ not_false found stands) order have in
      left_sound crew after books left sound one.2 (items one.0) one.1

  pub found_woven : (k next : Kept) → k ≡ standing (world crew books) → next ≡ record { failed = not found; state = world after left }
      → IfOk r (λ order. IsWoven k.state next (items order))
  found_woven k next was is =
      where_found (λ order. WeavesTo (world crew books) (world after left) (items order)) (λ order. IsWoven k.state next (items order)) r
      (λ there order weaves. record {
        weaves = subst (λ (x : Kept). WeavesTo k.state x.state (items order)) (sym is)
            (subst (λ (x : Kept). WeavesTo x.state (world after left) (items order)) (sym was) weaves);
        stands = ap (λ (x : Kept). x.failed) is ∙ ap not (found_is ∙ there);
      })
      order

-- ---- the next world

-- all are left
pub less_none : (P : ℕ → Type 0) (most : ℕ) → P (most - 0) → P most
less_none P most h = let is : most - 0 ≡ most = omega arith in subst P is h

-- behind the end of a round by threads
pub woven_goes : (w : Connection) (mid next : Kept) (actors : List ℕ) → IsWoven w mid actors → next ≡ standing (end_round mid.state) → GoesTo w next
woven_goes w mid next actors h is = record {
  round = record {
    actors = actors;
    round = h.weaves.round;
    world = ap (λ (k : Kept). k.state) is ∙ ap end_round (sym h.weaves.leads);
  };
  stands = ap (λ (k : Kept). k.failed) is;
}
