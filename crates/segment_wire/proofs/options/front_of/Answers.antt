use Rattle.std.proofs.Common.{◌≡◌, ◌<◌, length, get_or, arith, inl, inr, ◌⊎◌, rules}
use Rattle.std.proofs.lemmas.Bool.{eqb-true}
use Rattle.std.proofs.lemmas.List.{get_or_past, take_rest}
use Rattle.segment_wire.proofs.Fronts.{IsFront-end, IsFront-padding, IsFront-option, IsFront-broken}
use Rattle.segment_wire.proofs.options.front_of.Goals as goal
use Rattle.segment_wire.proofs.options.front_of.Goals.{then-is_empty-via-then-is_empty, then-is_empty-via-else-is_empty+then-options-eq-END_OF_OPTIONS, then-len-lt2-via-then-len-lt2, then-len-lt2-via-else-len-lt2+then-options-len}

pub returns-then-is_empty : goal.returns-then-is_empty
returns-then-is_empty c =
    let xs = c.args.options.now in
    let end : get_or xs 0 0 ≡ 0 = elim c.then-is_empty.branch [
      | then-is_empty-via-then-is_empty w ↦ get_or_past xs 0 0 (omega (arith, eqb-true (length xs) 0 (search rules)))
      | then-is_empty-via-else-is_empty+then-options-eq-END_OF_OPTIONS w ↦ w.if-options-eq-END_OF_OPTIONS.true
    ] in
    IsFront-end c.args.options end

pub returns-then-options-eq-NO_OPERATION : goal.returns-then-options-eq-NO_OPERATION
returns-then-options-eq-NO_OPERATION c = IsFront-padding c.args.options _ c.if-options-eq-NO_OPERATION.true (take_rest c.args.options.now 1) (search rules)

pub returns-then-options-lt2 : goal.returns-then-options-lt2
returns-then-options-lt2 c = IsFront-broken c.args.options (omega arith) (inl c.if-options-lt2.true)

pub returns-then-len-lt2 : goal.returns-then-len-lt2
returns-then-len-lt2 c =
    let xs = c.args.options.now in
    let broken : (length xs < 2) ⊎ ((get_or xs 1 0 < 2) ⊎ (length xs < get_or xs 1 0)) = elim c.then-len-lt2.branch [
      | then-len-lt2-via-then-len-lt2 w ↦ inr (inl (omega arith))
      | then-len-lt2-via-else-len-lt2+then-options-len w ↦ inr (inr (omega arith))
    ] in
    IsFront-broken c.args.options (omega arith) broken

pub returns : goal.returns
returns c =
    IsFront-option c.from-len.result c.args.options _ _ (omega arith) c.from-len.ensures (omega arith) (omega arith) (search rules) (search rules) (take_rest c.args.options.now c.from-len.result) (search rules)
