use Rattle.std.proofs.Common.{◌∙◌, ◌+◌, ◌||◌, List, ap, sym, drop, map}
use Rattle.std.specs.List.{list_any}
use Rattle.std.proofs.lemmas.List.{at_drop_more}
use Rattle.rule_book.specs.declared.book.Book.{Book}
use Rattle.rule_book.specs.State.{book_of}
use Rattle.capture_verdict.specs.Ending.{broke_rule}
use Rattle.capture_verdict.proofs.ending.any_broke_rule.Goals as goal

pub returns-then-broke_rule : goal.returns-then-broke_rule
returns-then-broke_rule c =
    let later = list_any broke_rule (map book_of (drop (c.loop-book.book-index + 1) c.args.books.now)) in
    ap (λ b. b || later) (sym c.if-broke_rule.true ∙ c.broke_rule.ensures)
    ∙ ap (λ (book : Book). broke_rule (book_of book) || later) c.book-item.is
    ∙ sym (at_drop_more (λ (books : List Book). list_any broke_rule (map book_of books)) c.args.books.now c.loop-book.book-index _ c.loop-book-test.true)
    ∙ c.loop-book.invariant

pub loop-book-preserved : goal.loop-book-preserved
loop-book-preserved c =
    let later = list_any broke_rule (map book_of (drop (c.loop-book.book-index + 1) c.args.books.now)) in
    ap (λ b. b || later) (sym c.if-broke_rule.false ∙ c.broke_rule.ensures)
    ∙ ap (λ (book : Book). broke_rule (book_of book) || later) c.book-item.is
    ∙ sym (at_drop_more (λ (books : List Book). list_any broke_rule (map book_of books)) c.args.books.now c.loop-book.book-index _ c.loop-book-test.true)
    ∙ c.loop-book.invariant
