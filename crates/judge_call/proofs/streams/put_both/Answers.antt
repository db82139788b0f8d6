use Rattle.std.proofs.Common.{◌∙◌, List, ℕ, subst, Err}
use Rattle.std.proofs.lemmas.Result.{err_from_is_err_and}
use Rattle.sides.specs.declared.side.Side.TheVariants.{A, B}
use Rattle.outside_kit.specs.declared.port.Port.TheVariants.{ReadByA, ReadByB}
use Rattle.rule_book.specs.State.{book_of}
use Rattle.seen_streams.specs.Shows.{stream_of}
use Rattle.judge_call.specs.Plan.{AddsAll, Follows, book_steps, stream_steps}
use Rattle.judge_call.specs.Streams.{stream_name}
use Rattle.judge_call.proofs.Planned.{follows_between, follows_longer, follows_none, follows_then}
use Rattle.judge_call.proofs.streams.put_both.Goals as goal

pub returns-in_err-name : goal.returns-in_err-name
returns-in_err-name g c =
    let p = err_from_is_err_and c.from_residual.result c.from_residual.ensures.1 in
    rw (p.1, p.2) (follows_none (book_steps c.args.prefix.now c.args.number (book_of c.args.book.now)) (g.O.Outside.told c.args.outside.now).calls)

pub returns-in_err-put_stream : goal.returns-in_err-put_stream
returns-in_err-put_stream g c =
    let a = (stream_of c.args.book.now.a).octet in
    let old = (g.O.Outside.told c.args.outside.now).calls in
    let new = (g.O.Outside.told c.put_stream.new.outside).calls in
    let p = err_from_is_err_and c.from_residual-in_err-put_stream.result c.from_residual-in_err-put_stream.ensures.1 in
    rw (p.1, p.2) (follows_longer (stream_steps ReadByB (stream_name c.args.prefix.now c.args.number A) a)
    (stream_steps ReadByA (stream_name c.args.prefix.now c.args.number B) (stream_of c.args.book.now.b).octet) old new c.in_err-put_stream.field-0.0
    (subst (λ (name : List ℕ). Follows (stream_steps ReadByB name a) old new (Err c.in_err-put_stream.field-0.0)) (c.as_str.ensures.value ∙ c.in_ok-name.ensures)
    c.in_err-put_stream.ensures))

pub returns-in_err-name-2 : goal.returns-in_err-name-2
returns-in_err-name-2 g c =
    let a = (stream_of c.args.book.now.a).octet in
    let old = (g.O.Outside.told c.args.outside.now).calls in
    let middle = (g.O.Outside.told c.put_stream.new.outside).calls in
    let p = err_from_is_err_and c.from_residual-in_err-name-2.result c.from_residual-in_err-name-2.ensures.1 in
    rw (p.1, p.2) (follows_between (stream_steps ReadByB (stream_name c.args.prefix.now c.args.number A) a)
    (stream_steps ReadByA (stream_name c.args.prefix.now c.args.number B) (stream_of c.args.book.now.b).octet) old middle
    (subst (λ (name : List ℕ). AddsAll (stream_steps ReadByB name a) old middle) (c.as_str.ensures.value ∙ c.in_ok-name.ensures) c.in_ok-put_stream.ensures.done))

pub returns : goal.returns
returns g c =
    let a = (stream_of c.args.book.now.a).octet in
    let b = (stream_of c.args.book.now.b).octet in
    let old = (g.O.Outside.told c.args.outside.now).calls in
    let middle = (g.O.Outside.told c.put_stream.new.outside).calls in
    let new = (g.O.Outside.told c.put_stream-2.new.outside).calls in
    follows_then (stream_steps ReadByB (stream_name c.args.prefix.now c.args.number A) a) (stream_steps ReadByA (stream_name c.args.prefix.now c.args.number B) b) old middle new
    c.put_stream-2.result
    (subst (λ (name : List ℕ). AddsAll (stream_steps ReadByB name a) old middle) (c.as_str.ensures.value ∙ c.in_ok-name.ensures) c.in_ok-put_stream.ensures.done)
    (subst (λ (name : List ℕ). Follows (stream_steps ReadByA name b) middle new c.put_stream-2.result) (c.as_str-2.ensures.value ∙ c.in_ok-name-2.ensures) c.put_stream-2.ensures)
