use Rattle.std.proofs.Common.{refl, sym, ◌∙◌, ap, subst, ℕ, Err, List}
use Rattle.std.proofs.lemmas.Result.{IfOk-weaker}
use Rattle.std.specs.List.{slice_get}
use Rattle.stamped_book.specs.declared.stamped.Refusal.TheVariants.{Stamps}
use Rattle.actor_desk.specs.Journals.{ArePaired, order_of}
use Rattle.world_laws.specs.Actors.{ActorCrew}
use Rattle.world_laws.specs.StampedBooks.{journals_of}
use Rattle.journal_weave.specs.Rounds.{known_by}
use Rattle.journal_weave.specs.Weaving.{AreOwn, lists_in}
use Rattle.journal_weave.proofs.RoundsWoven.{are_actors, have_turned, lists_own, still_paired, whole_woven}
use Rattle.journal_weave.proofs.Results.{at_ok, never_stamps, same_error, when_ok}
use Rattle.journal_weave.proofs.rounds.woven_round.Goals as goal

pub round_at_tables-told-requires-clause-numbered : goal.round_at_tables-told-requires-clause-numbered
round_at_tables-told-requires-clause-numbered g c = are_actors c.args.crew.now.items c.args.books c.requires.begins

pub put_in_order-order-requires-clause-own : goal.put_in_order-order-requires-clause-own
put_in_order-order-requires-clause-own g c =
    let whole = when_ok c.round_at_tables-told.result.0 c.in-Ok.field-0 c.in-Ok.is c.round_at_tables-told.ensures.ok in
    subst (λ (crew : List (ActorCrew (List ℕ))). AreOwn 0 (lists_in crew)) (sym c.deref-in-Ok.ensures.value)
    (lists_own c.args.crew.now.items c.round_at_tables-told.new.crew.items c.args.books c.round_at_tables-told.result.1 c.requires.begins whole)

pub put_in_order-order-requires-clause-paired : goal.put_in_order-order-requires-clause-paired
put_in_order-order-requires-clause-paired g c =
    let whole = when_ok c.round_at_tables-told.result.0 c.in-Ok.field-0 c.in-Ok.is c.round_at_tables-told.ensures.ok in
    subst (λ (crew : List (ActorCrew (List ℕ))). ArePaired 0 (lists_in crew) (journals_of c.round_at_tables-told.result.1)) (sym c.deref-in-Ok.ensures.value)
    (still_paired c.args.crew.now.items c.round_at_tables-told.new.crew.items c.args.books c.round_at_tables-told.result.1 c.requires.begins whole
    c.gaining_alike_stays_paired.ensures)

pub returns-in-Ok-clause-turned : goal.returns-in-Ok-clause-turned
returns-in-Ok-clause-turned g c =
    let whole = when_ok c.round_at_tables-told.result.0 c.in-Ok.field-0 c.in-Ok.is c.round_at_tables-told.ensures.ok in
    at_ok c.put_in_order-order.result
    (have_turned c.args.crew.now.items c.round_at_tables-told.new.crew.items c.args.books c.round_at_tables-told.result.1 c.requires.begins whole)

pub returns-in-Ok-clause-order : goal.returns-in-Ok-clause-order
returns-in-Ok-clause-order g c =
    let whole = when_ok c.round_at_tables-told.result.0 c.in-Ok.field-0 c.in-Ok.is c.round_at_tables-told.ensures.ok in
    IfOk-weaker c.put_in_order-order.result _ _
    (λ order is. whole_woven c.args.crew.now.items c.round_at_tables-told.new.crew.items c.args.books c.round_at_tables-told.result.1 c.requires.begins whole
    c.gaining_alike_stays_paired.ensures c.are_journals.ensures
    c.known_stamp-stamp.result (c.known_stamp-stamp.ensures ∙ ap (λ (crew : List (ActorCrew (List ℕ))). known_by (slice_get crew 0)) c.deref.ensures.value)
    order.items (is ∙ ap (λ (crew : List (ActorCrew (List ℕ))). order_of c.known_stamp-stamp.result (lists_in crew)) c.deref-in-Ok.ensures.value))
    c.put_in_order-order.ensures.order

pub returns-in-Ok-clause-used_up : goal.returns-in-Ok-clause-used_up
returns-in-Ok-clause-used_up g c is = never_stamps c.put_in_order-order.result is c.put_in_order-order.ensures.err

pub returns-in-Err-clause-used_up : goal.returns-in-Err-clause-used_up
returns-in-Err-clause-used_up g c is =
    c.round_at_tables-told.ensures.used_up (c.in-Err.is ∙ ap Err (same_error _ c.in-Err.refusal Stamps refl is))
