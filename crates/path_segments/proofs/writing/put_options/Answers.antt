use Rattle.std.proofs.Common.{◌++◌, List, ℕ, ap, sym, ◌∙◌, arith}
use Rattle.std.specs.List.{flat_map}
use Rattle.std.proofs.lemmas.List.{take_all}
use Rattle.path_segments.proofs.SaidOptions.{said_text, options_text-each, can_say_at, room_at}
use Rattle.path_segments.proofs.writing.put_options.Goals as goal

pub octets_of-said-requires : goal.octets_of-said-requires
octets_of-said-requires c =
    rw c.said_option.ensures
    (can_say_at c.args.spelling.now c.args.from c.args.options.now c.requires.can c.loop-option.option-index _ c.loop-option-test.true).form

pub put-requires : goal.put-requires
put-requires c =
    rw (c.as_slice.ensures.value, c.octets_of-said.ensures, c.said_option.ensures)
    (room_at c.args.spelling.now c.args.from c.args.options.now c.args.octets.now.items c.requires.room
    c.loop-option.option-index _ c.loop-option-test.true c.loop-option.octets.items c.loop-option.invariant)

pub returns : goal.returns
returns c =
    c.loop-option.invariant
    ∙ ap (λ (text : List ℕ). c.args.octets.now.items ++ text)
    (ap (flat_map (said_text c.args.spelling.now c.args.from))
    (take_all c.loop-option.option-index c.args.options.now (omega (arith, c.loop-option-test.false)))
    ∙ sym (options_text-each c.args.spelling.now c.args.from c.args.options.now))
