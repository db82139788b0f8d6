use Rattle.std.proofs.Common.{◌∙◌, ap, arith, List, map}
use Rattle.std.proofs.Math.ListN.{set}
use Rattle.std.proofs.lemmas.List.{map-set}
use Rattle.capture_reader.specs.Seen.{as_seen}
use Rattle.seen_connections.specs.Connections.{SeenFlows}
use Rattle.rule_book.specs.Judged.{Told, with_key}
use Rattle.rule_book.specs.State.{BookValue, JudgedValue, LanesValue, book_of, judged_of, lanes_of}
use Rattle.rule_book.proofs.Growing.{item_is}
use Rattle.rule_book.proofs.Steps.{known_by_steps}
use Rattle.rule_book.proofs.judged.Judged.judge_known.Goals as goal

abbrev made : SeenFlows → List BookValue → List LanesValue → JudgedValue
made seen books lanes = record { seen = seen; books = books; lanes = lanes }

pub returns : goal.returns
returns c =
    let connection = c.args.belongs.now.connection in
    let books = c.args.self.now.books.items in
    let lanes = c.args.self.now.lanes.items in
    let book = c.judge_side.new.book in
    let lane = c.judge_side.new.lanes in
    let told : Told = record { left = record { book = book_of book; lanes = lanes_of lane }; keys = c.in_ok-keys.keys } in
    let seen = with_key connection c.args.known.now.a c.in_ok-keys.keys.a c.args.self.now.seen in
    known_by_steps c.args.at c.args.packet (as_seen c.args.seen.now) c.args.index c.args.flow.now c.args.belongs.now c.args.known.now (judged_of c.args.self.now)
    (book_of c.index_mut-book.result.now) (lanes_of c.index_mut-lanes.result.now) c.side_of-side.result told (judged_of c.learn.new.self)
    (item_is book_of books connection c.index_mut-book.result.now _ (omega arith) c.index_mut-book.ensures.value)
    (item_is lanes_of lanes c.args.index c.index_mut-lanes.result.now _ (omega arith) c.index_mut-lanes.ensures.value)
    c.side_of-side.ensures c.in_ok-keys.ensures
    (c.in_ok-learn.ensures
    ∙ ap (λ (bs : List BookValue). made seen bs (map lanes_of (set lanes c.args.index lane))) (map-set book_of books connection book)
    ∙ ap (λ (ls : List LanesValue). made seen (set (map book_of books) connection (book_of book)) ls) (map-set lanes_of lanes c.args.index lane))
