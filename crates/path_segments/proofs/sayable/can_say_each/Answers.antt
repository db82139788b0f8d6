use Rattle.std.proofs.Common.{rules, arith}
use Rattle.std.proofs.lemmas.List.Elements.{All-more}
use Rattle.path_segments.specs.Spelled.{CanSayOption}
use Rattle.path_segments.proofs.SaidOptions.{can_say_at, each_of_all}
use Rattle.path_segments.proofs.sayable.can_say_each.Goals as goal

pub returns-then-not-can_say_option : goal.returns-then-not-can_say_option
returns-then-not-can_say_option c = (
  λ no. absurd (cc),
  λ all. search (
    rules,
    c.can_say_option.ensures.1
        (can_say_at c.args.spelling.now c.args.from c.args.options.now all c.loop-option.option-index _ c.loop-option-test.true),
  ),
)

pub loop-option-preserved : goal.loop-option-preserved
loop-option-preserved c =
    All-more (CanSayOption c.args.spelling.now c.args.from) c.args.options.now
    c.loop-option.option-index _ c.loop-option-test.true c.loop-option.invariant (c.can_say_option.ensures.0 (search rules))

pub returns : goal.returns
returns c = (
  λ yes. each_of_all c.args.spelling.now c.args.from c.args.options.now c.loop-option.option-index
      (omega (arith, c.loop-option-test.false)) c.loop-option.invariant,
  λ all. search rules,
)
