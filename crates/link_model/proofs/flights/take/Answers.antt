use Rattle.std.proofs.Common.{◌∙◌, sym, ap, Some, refl}
use Rattle.link_model.proofs.Found.{found_nowhere, found_at, none_is_not_some, IfSome-is}
use Rattle.link_model.proofs.flights.take.Goals as goal

pub unreachable-requires-in-None : goal.unreachable-requires-in-None
unreachable-requires-in-None c = none_is_not_some _ (found_nowhere _ c.args.flights.now.items (sym c.place_of.ensures ∙ c.in-None.is)) c.requires

pub returns-clause-octets : goal.returns-clause-octets
returns-clause-octets c =
    IfSome-is _ c.in-Some-remove.flight _
    (found_at _ c.args.flights.now.items c.in-Some.place c.in-Some-remove.flight (sym c.place_of.ensures ∙ c.in-Some.is) ∙ ap (λ f. Some f) (sym c.in-Some-remove.ensures.value)) refl
