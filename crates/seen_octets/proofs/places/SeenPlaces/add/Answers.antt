use Rattle.std.proofs.Common.{ℕ, ◌^◌, ◌≤◌, ◌∙◌, ap, sym, subst}
use Rattle.first_runs.specs.declared.run.Run.{Run}
use Rattle.seen_octets.specs.Places.{is_seen, whole}
use Rattle.seen_octets.proofs.Whole.{stays_by, whole_few, whole_on}
use Rattle.seen_octets.proofs.places.SeenPlaces.add.Goals as goal

pub end_from-self-inside-requires : goal.end_from-self-inside-requires
end_from-self-inside-requires c =
    subst (λ (n : ℕ). n ≤ 2 ^ 62) (sym c.self.invariant.1) (whole_few (is_seen c.self.inside.runs) c.self.inside.from c.self.invariant.0)

pub invariant_of-self : goal.invariant_of-self
invariant_of-self c =
    let run : Run = record { from = c.args.from; to = c.args.to; image = 0; teller = 0 } in (
      c.self.invariant.0,
      c.end_from-self-inside.ensures ∙ ap (whole (is_seen c.fill-added.new.self)) c.self.invariant.1
          ∙ whole_on c.self.inside.runs c.fill-added.new.self c.self.inside.from c.self.invariant.0
          (stays_by c.fill-added.result c.self.inside.runs c.fill-added.new.self run c.fill-added.ensures.ok c.fill-added.ensures.err),
    )
