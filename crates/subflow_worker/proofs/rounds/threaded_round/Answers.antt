use Rattle.std.proofs.Common.{rules, subst, ◌≡◌, ◌<◌, ◌↔◌, ℕ, true, false, None, All, List, length, OnOk, Err, arith}
use Rattle.std.specs.List.{list_any, slice_index_or}
use Rattle.stamped_book.specs.declared.stamped.Refusal.TheVariants.{Memory, Stamps}
use Rattle.actor_desk.specs.declared.actor.Crew.{Crew}
use Rattle.actor_turn.specs.Turns.{Turned, is_refused}
use Rattle.subflow_worker.proofs.Lists.{written_back}
use Rattle.subflow_worker.proofs.rounds.threaded_round.Goals as goal

pub returns-clause-turned : goal.returns-clause-turned
returns-clause-turned g c =
    written_back (λ (items : List (Crew g.row.A.Denot)). (i : ℕ) (d : Crew g.row.A.Denot) → i < length c.args.crew.now.items
    → Turned g.A.Actor.asks g.A.Actor.takes (slice_index_or c.args.crew.now.items i d) (slice_index_or items i d))
    c.args.crew.now.len c.round_of.new.crew c.args.crew.now.items (omega (arith, c.deref_mut.ensures.len, c.round_of.ensures.many))
    (subst (λ (items : List (Crew g.row.A.Denot)). (i : ℕ) (d : Crew g.row.A.Denot) → i < length items
    → Turned g.A.Actor.asks g.A.Actor.takes (slice_index_or items i d) (slice_index_or c.round_of.new.crew i d)) c.deref_mut.ensures.value c.round_of.ensures.turned)

pub returns-clause-done : goal.returns-clause-done
returns-clause-done g c =
    written_back (λ (items : List (Crew g.row.A.Denot)). OnOk c.round_of.result.0 (All (λ (x : Crew g.row.A.Denot). x.refused ≡ None) items))
    c.args.crew.now.len c.round_of.new.crew c.args.crew.now.items (omega (arith, c.deref_mut.ensures.len, c.round_of.ensures.many)) c.round_of.ensures.done

pub returns-clause-memory : goal.returns-clause-memory
returns-clause-memory g c =
    written_back (λ (items : List (Crew g.row.A.Denot)). (c.round_of.result.0 ≡ Err Memory) ↔ (list_any (is_refused Memory) items ≡ true))
    c.args.crew.now.len c.round_of.new.crew c.args.crew.now.items (omega (arith, c.deref_mut.ensures.len, c.round_of.ensures.many)) c.round_of.ensures.memory

pub returns-clause-stamps : goal.returns-clause-stamps
returns-clause-stamps g c =
    written_back (λ (items : List (Crew g.row.A.Denot)). (c.round_of.result.0 ≡ Err Stamps)
    ↔ ((list_any (is_refused Memory) items ≡ false) × (list_any (is_refused Stamps) items ≡ true)))
    c.args.crew.now.len c.round_of.new.crew c.args.crew.now.items (omega (arith, c.deref_mut.ensures.len, c.round_of.ensures.many)) c.round_of.ensures.stamps
