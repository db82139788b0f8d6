use Rattle.mptcp_run.proofs.ThreadsMade.{parts_begin, found_heard, found_sound, found_woven}
use Rattle.mptcp_run.proofs.threads.by_threads.Goals as goal

pub woven_round-books-requires-clause-begins : goal.woven_round-books-requires-clause-begins
woven_round-books-requires-clause-begins g c =
    parts_begin c.args.world c.into_parts-books.result.1.items c.into_parts-books.result.0 c.into_parts-books.ensures.parts c.requires.begins

pub from_parts_since-requires-clause-sound : goal.from_parts_since-requires-clause-sound
from_parts_since-requires-clause-sound g c =
    found_sound (λ order. order.items) c.woven_round-books.result.1 c.has_order-failed.result c.has_order-failed.ensures
    c.into_parts-books.result.1.items c.woven_round-books.new.crew.items c.into_parts-books.result.0 c.woven_round-books.result.0 c.woven_round-books.ensures.order
    c.into_parts-books.ensures.sound c.woven_round-books.ensures.turned

pub from_parts_since-requires-clause-heard : goal.from_parts_since-requires-clause-heard
from_parts_since-requires-clause-heard g c =
    found_heard c.heard-heard.result c.woven_round-books.result.1 c.has_order-failed.result c.args.world c.into_parts-books.result.1.items
    c.woven_round-books.new.crew.items c.into_parts-books.result.0 c.has_order-failed.ensures c.into_parts-books.ensures.parts
    c.heard-heard.ensures.heard c.heard-heard.ensures.steps_a c.heard-heard.ensures.steps_b c.woven_round-books.ensures.turned

pub returns-clause-woven : goal.returns-clause-woven
returns-clause-woven g c =
    found_woven (λ order. order.items) c.woven_round-books.result.1 c.has_order-failed.result c.has_order-failed.ensures
    c.into_parts-books.result.1.items c.woven_round-books.new.crew.items c.into_parts-books.result.0 c.woven_round-books.result.0 c.woven_round-books.ensures.order
    c.args.world c.from_parts_since.result c.into_parts-books.ensures.parts c.from_parts_since.ensures
