use Rattle.std.proofs.Common.{refl, subst, sym, ap, ◌∙◌}
use Rattle.std.specs.List.{prefix_len}
use Rattle.dss_mapping.specs.Kept.{AreOrdered, AreApart, places_of, lies_before, absorbed, count_joined}
use Rattle.dss_mapping.proofs.PlacesOf.{same_places}
use Rattle.dss_mapping.proofs.RunsInOrder.{ordered-drop, part_is, put, put-is, placed_by_put, ordered_by_put, fewest_by_put}
use Rattle.dss_mapping.proofs.ordered.put_in.Goals as goal

pub absorb-count-requires-clause-ordered : goal.absorb-count-requires-clause-ordered
absorb-count-requires-clause-ordered c =
    subst (AreOrdered 0) (sym (part_is c.count_before-from.result _ c.deref-2.result.now c.args.runs.now.items c.deref-2.ensures.value refl))
    (ordered-drop c.count_before-from.result c.args.runs.now.items c.requires.ordered)

pub returns-clause-places : goal.returns-clause-places
returns-clause-places c =
    let part = part_is c.count_before-from.result _ c.deref-2.result.now c.args.runs.now.items c.deref-2.ensures.value refl in
    let before = c.count_before-from.ensures.value ∙ ap (prefix_len (lies_before c.args.told)) c.deref.ensures.value in
    let whole = put-is c.args.told c.absorb-count.result.0 c.count_before-from.result c.absorb-count.result.1 _ c.args.runs.now.items
    (c.absorb-count.ensures.run ∙ ap (absorbed c.args.told) part) (c.absorb-count.ensures.count ∙ ap (count_joined c.args.told) part) refl in
    ap places_of (c.replace.ensures.items ∙ whole)
    ∙ same_places (put c.args.told c.count_before-from.result c.args.runs.now.items) c.args.runs.now.items c.args.told
    (λ p. placed_by_put c.args.told c.count_before-from.result c.args.runs.now.items p before c.requires.ordered c.requires.some c.requires.agree)

pub returns-clause-ordered : goal.returns-clause-ordered
returns-clause-ordered c =
    let part = part_is c.count_before-from.result _ c.deref-2.result.now c.args.runs.now.items c.deref-2.ensures.value refl in
    let before = c.count_before-from.ensures.value ∙ ap (prefix_len (lies_before c.args.told)) c.deref.ensures.value in
    let whole = put-is c.args.told c.absorb-count.result.0 c.count_before-from.result c.absorb-count.result.1 _ c.args.runs.now.items
    (c.absorb-count.ensures.run ∙ ap (absorbed c.args.told) part) (c.absorb-count.ensures.count ∙ ap (count_joined c.args.told) part) refl in
    subst (AreOrdered 0) (sym (c.replace.ensures.items ∙ whole))
    (ordered_by_put c.args.told c.count_before-from.result c.args.runs.now.items before c.requires.ordered c.requires.some c.requires.sound c.requires.agree)

pub returns-clause-fewest : goal.returns-clause-fewest
returns-clause-fewest c =
    let part = part_is c.count_before-from.result _ c.deref-2.result.now c.args.runs.now.items c.deref-2.ensures.value refl in
    let before = c.count_before-from.ensures.value ∙ ap (prefix_len (lies_before c.args.told)) c.deref.ensures.value in
    let whole = put-is c.args.told c.absorb-count.result.0 c.count_before-from.result c.absorb-count.result.1 _ c.args.runs.now.items
    (c.absorb-count.ensures.run ∙ ap (absorbed c.args.told) part) (c.absorb-count.ensures.count ∙ ap (count_joined c.args.told) part) refl in
    subst AreApart (sym (c.replace.ensures.items ∙ whole))
    (fewest_by_put c.args.told c.count_before-from.result c.args.runs.now.items before c.requires.ordered c.requires.some c.requires.fewest)
