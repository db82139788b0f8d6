use Rattle.path_core.proofs.Words.{◌≡◌, sym, ap, subst, ◌∙◌, List, ◌++◌, All, flat_map, KeptMapping, heard_left, Heard, IsFair, HeardOption, items_in, held_in}
use Rattle.dss_mapping.specs.Learning.{IsWithin}
use Rattle.path_core.proofs.Fair.{items_are_fair}
use Rattle.path_core.proofs.FewThings.{room_left}
use Rattle.path_core.proofs.Filling.{append-nil}
use Rattle.path_core.proofs.Mapped.{all_within}
use Rattle.path_store.proofs.Parts.{append-nil as nothing_more}
use Rattle.path_core.proofs.options_in.read_options.Goals as goal

pub put_option-requires : goal.put_option-requires
put_option-requires c =
    room_left (items_in c.args.joined c.args.side c.args.heard.now.window) _ _ _ _ _ c.loop-option.invariant.items c.in-Some.ensures.steps
    (c.requires.few.few c.args.joined c.args.side c.args.heard.now.window)

pub returns-clause-fair : goal.returns-clause-fair
returns-clause-fair c =
    let says = items_in c.args.joined c.args.side c.args.heard.now.window in
    let all : c.loop-option.items.items ≡ flat_map says (heard_left c.args.heard.now.options) =
    sym (append-nil c.loop-option.items.items)
    ∙ sym (ap (λ (options : List HeardOption). c.loop-option.items.items ++ flat_map says options) c.in-None.ensures.steps.0)
    ∙ c.loop-option.invariant.items in
    subst (λ (items : List Heard). All IsFair items) (sym all)
    (items_are_fair c.args.joined c.args.side c.args.heard.now.window (heard_left c.args.heard.now.options))

pub returns-clause-within : goal.returns-clause-within
returns-clause-within c =
    let told = c.loop-option.told.items in
    let all : told ≡ flat_map (held_in c.args.profile.now c.args.side) (heard_left c.args.heard.now.options) =
    sym (nothing_more told)
    ∙ ap (λ (options : List HeardOption). told ++ flat_map (held_in c.args.profile.now c.args.side) options) (sym c.in-None.ensures.steps.0)
    ∙ c.loop-option.invariant.told in
    subst (λ (kept : List KeptMapping). All IsWithin kept) (sym all) (all_within c.args.profile.now c.args.side (heard_left c.args.heard.now.options))
