use Rattle.std.proofs.Common.{◌<◌, length, ap, subst, ◌∙◌, rules, arith}
use Rattle.mptcp_options.specs.Text.{option_text}
use Rattle.path_segments.proofs.SaidOptions.{can_say_at, room_after, room_of_all}
use Rattle.path_segments.proofs.sayable.are_within.Goals as goal

pub octets_of-requires : goal.octets_of-requires
octets_of-requires c =
    rw c.said_option.ensures
    (can_say_at c.args.spelling.now c.args.from c.args.options.now c.requires c.loop-option.option-index _ c.loop-option-test.true).form

pub returns-then-left-len : goal.returns-then-left-len
returns-then-left-len c = (
  λ no. absurd (cc),
  λ within. search (
    rules,
    room_after c.args.spelling.now c.args.from c.args.options.now c.loop-option.left c.args.room c.loop-option.option-index _
        c.loop-option-test.true c.loop-option.invariant
        (subst (λ n. c.loop-option.left < n)
        (c.len-len.ensures.value ∙ ap length (c.octets_of.ensures ∙ ap option_text c.said_option.ensures))
        (omega (arith, c.if-left-len.true))),
  ),
)

pub returns : goal.returns
returns c = (
  λ yes. room_of_all c.args.spelling.now c.args.from c.args.options.now c.loop-option.left c.args.room
      c.loop-option.option-index (omega (arith, c.loop-option-test.false)) c.loop-option.invariant,
  λ within. search rules,
)
