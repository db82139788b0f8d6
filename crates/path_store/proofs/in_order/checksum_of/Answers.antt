use Rattle.std.proofs.Common.{◌≡◌, ◌∙◌, sym, refl, ap, ◌-◌, ◌++◌, List, ℕ, length, length-append, take, [], arith}
use Rattle.std.specs.List.{concat}
use Rattle.std.proofs.lemmas.List.{length-take}
use Rattle.dss_checksum.specs.Checksum.{dss_checksum}
use Rattle.dss_checksum.specs.MappingSum.{MappingSum}
use Rattle.path_store.proofs.Parts.{part-taken, append-nil, take-nil}
use Rattle.path_store.proofs.in_order.checksum_of.Goals as goal

pub loop-part-init : goal.loop-part-init
loop-part-init c = record {
  added = [];
  is = c.new-sum.ensures;
  few = omega (arith, c.from-left.ensures);
  whole =
      ap (λ n. take n (concat c.into_iter-part-iterator.result)) c.from-left.ensures
      ∙ ap (λ (parts : List (List ℕ)). take c.args.count (concat parts)) c.into_iter-part-iterator.ensures.into_iter_gives;
}

pub add-requires : goal.add-requires
add-requires c =
    let so = c.loop-part.invariant in
    omega (arith, ap (λ (sum : MappingSum). sum.count) so.is, so.few, length-take c.min-taken.result c.as_slice.result.now, c.min-taken.ensures, c.ranges.count.fits)

pub loop-part-preserved : goal.loop-part-preserved
loop-part-preserved c =
    let so = c.loop-part.invariant in
    let left = c.loop-part.left in
    let taken = c.min-taken.result in
    let part = c.as_slice.result.now in
    let same : length c.as_slice.result.now ≡ length c.in-Some.part.now = ap (λ (part : List ℕ). length part) c.as_slice.ensures in
    record {
      added = so.added ++ take taken part;
      is = c.add.ensures c.args.mapping.now so.added so.is;
      few = omega (arith, so.few, length-append so.added (take taken part), length-take taken part, c.min-taken.ensures);
      whole =
          part-taken so.added left taken (left - taken) part (concat c.next.new.self) (omega (arith, c.min-taken.ensures, c.len.ensures.value, same)) refl
          ∙ ap (λ (part : List ℕ). so.added ++ take left (part ++ concat c.next.new.self)) c.as_slice.ensures
          ∙ ap (λ (parts : List (List ℕ)). so.added ++ take left (concat parts)) (sym c.in-Some.ensures.steps)
          ∙ so.whole;
    }

pub returns : goal.returns
returns c =
    let so = c.loop-part.invariant in
    let all : so.added ≡ take c.args.count (concat c.args.parts) =
    sym (append-nil so.added ∙ refl)
    ∙ ap (λ rest. so.added ++ rest) (sym (take-nil c.loop-part.left))
    ∙ ap (λ (parts : List (List ℕ)). so.added ++ take c.loop-part.left (concat parts)) (sym c.in-None.ensures.steps.0)
    ∙ so.whole in
    c.make-2.ensures c.args.mapping.now so.added so.is ∙ ap (dss_checksum c.args.mapping.now) all
