use Rattle.std.proofs.Common.{◌∙◌, ap, ◌++◌, ◌∷◌, []}
use Rattle.seen_connections.proofs.FirstTold.{told-push}
use Rattle.seen_connections.proofs.known_keys.KnownKeys.learn.Goals as goal

pub invariant_of-self-2 : goal.invariant_of-self-2
invariant_of-self-2 c = λ token.
    told-push _ _ token c.self.inside.known.items c.push.new.self.items c.args.key (c.in_ok-keep_first.ensures.ok token)
    (c.self.invariant token) (c.in-Ok.ensures.items ∙ ap (λ known. known ++ c.args.key ∷ []) c.reserve.ensures.items)
