use Rattle.std.proofs.Common.{◌≡◌, ◌∙◌, ⊎_elim, inl, inr, ap, length, subst, arith}
use Rattle.std.proofs.lemmas.Result.{IfOk-weaker, on_err_weaker, on_ok_weaker}
use Rattle.std.specs.Prelude.{IsSomeAnd, slice_set}
use Rattle.run_outside.proofs.PortsLemmas.{OnOk-both}
use Rattle.world_core.specs.Steps.{StampRises, is_made, next_note, stepped_by}
use Rattle.world_laws.specs.Worlds.{is_going}
use Rattle.world_core.specs.declared.stepped.Stepped.{Stepped}
use Rattle.connection_table.specs.Routes.{home_of}
use Rattle.connection_table.specs.Steps.{IsStopped, after_step}
use Rattle.connection_table.specs.Tables.{Entry, IsTable, Stands, entry_at, with_entry}
use Rattle.connection_table.proofs.Changing.{changed_table, of_new, of_old, others, put_next, put_same}
use Rattle.connection_table.proofs.Home.{short_stays_home}
use Rattle.connection_table.proofs.table.ConnectionTable.step.Goals as goal

pub invariant_of-self : goal.invariant_of-self
invariant_of-self c =
    changed_table c.args.self.now c.self.inside.slots.items c.self.view_is (home_of c.args.connection c.args.actor c.args.self.now) c.from.result
    (c.from.ensures ∙ c.home_of-home.ensures.home) (omega (arith, c.from.ensures, c.home_of-home.ensures.within, ap length c.self.view_is))
    c.index_mut.result.now c.step.new.self c.index_mut.ensures.value
    c.self.invariant c.step.ensures.input

pub returns-clause-told : goal.returns-clause-told
returns-clause-told c =
    IfOk-weaker c.step.result _ _
    (λ (stepped : Stepped) told. of_old c.args.self.now c.self.inside.slots.items c.self.view_is (home_of c.args.connection c.args.actor c.args.self.now) c.from.result
    (c.from.ensures ∙ c.home_of-home.ensures.home) (omega (arith, c.from.ensures, c.home_of-home.ensures.within, ap length c.self.view_is))
    c.index_mut.result.now c.step.new.self c.index_mut.ensures.value
    (λ (entry : Entry). stepped ≡ stepped_by (next_note c.args.actor entry.world.state)) told)
    c.step.ensures.told

pub returns-clause-ok : goal.returns-clause-ok
returns-clause-ok c =
    on_ok_weaker c.step.result
    (λ is. of_old c.args.self.now c.self.inside.slots.items c.self.view_is (home_of c.args.connection c.args.actor c.args.self.now) c.from.result
    (c.from.ensures ∙ c.home_of-home.ensures.home) (omega (arith, c.from.ensures, c.home_of-home.ensures.within, ap length c.self.view_is))
    c.index_mut.result.now c.step.new.self c.index_mut.ensures.value
    (λ (entry : Entry). slice_set c.self.inside.slots.items c.from.result c.step.new.self
    ≡ with_entry (home_of c.args.connection c.args.actor c.args.self.now) (after_step c.args.actor entry) c.args.self.now)
    (put_next c.args.self.now c.self.inside.slots.items c.self.view_is (home_of c.args.connection c.args.actor c.args.self.now) c.from.result
    (c.from.ensures ∙ c.home_of-home.ensures.home) (omega (arith, c.from.ensures, c.home_of-home.ensures.within, ap length c.self.view_is))
    c.index_mut.result.now c.step.new.self c.index_mut.ensures.value
    (after_step c.args.actor c.index_mut.result.now) is))
    c.step.ensures.ok

pub returns-clause-going : goal.returns-clause-going
returns-clause-going c =
    IfOk-weaker c.step.result _ _
    (λ (stepped : Stepped) going. of_old c.args.self.now c.self.inside.slots.items c.self.view_is (home_of c.args.connection c.args.actor c.args.self.now) c.from.result
    (c.from.ensures ∙ c.home_of-home.ensures.home) (omega (arith, c.from.ensures, c.home_of-home.ensures.within, ap length c.self.view_is))
    c.index_mut.result.now c.step.new.self c.index_mut.ensures.value
    (λ (entry : Entry). is_made stepped ≡ is_going c.args.actor entry.world.state) going)
    c.step.ensures.going

pub returns-clause-rises : goal.returns-clause-rises
returns-clause-rises c =
    OnOk-both c.step.result
    (λ is rises. of_old c.args.self.now c.self.inside.slots.items c.self.view_is (home_of c.args.connection c.args.actor c.args.self.now) c.from.result
    (c.from.ensures ∙ c.home_of-home.ensures.home) (omega (arith, c.from.ensures, c.home_of-home.ensures.within, ap length c.self.view_is))
    c.index_mut.result.now c.step.new.self c.index_mut.ensures.value
    (λ (entry : Entry). StampRises c.args.actor entry.world.state (after_step c.args.actor entry).world.state)
    (subst (λ (e : Entry). StampRises c.args.actor c.index_mut.result.now.world.state e.world.state) is rises))
    c.step.ensures.ok c.step.ensures.rises

pub returns-clause-stood : goal.returns-clause-stood
returns-clause-stood c =
    on_ok_weaker c.step.result
    (λ stood. of_old c.args.self.now c.self.inside.slots.items c.self.view_is (home_of c.args.connection c.args.actor c.args.self.now) c.from.result
    (c.from.ensures ∙ c.home_of-home.ensures.home) (omega (arith, c.from.ensures, c.home_of-home.ensures.within, ap length c.self.view_is))
    c.index_mut.result.now c.step.new.self c.index_mut.ensures.value
    Stands stood)
    c.step.ensures.stood

pub returns-clause-home : goal.returns-clause-home
returns-clause-home c =
    short_stays_home c.args.self.now c.args.connection c.args.actor (subst IsTable c.self.view_is c.self.invariant) c.home_of-home.ensures.alone

pub returns-clause-others : goal.returns-clause-others
returns-clause-others c =
    others c.args.self.now c.self.inside.slots.items c.self.view_is (home_of c.args.connection c.args.actor c.args.self.now) c.from.result
    (c.from.ensures ∙ c.home_of-home.ensures.home) (omega (arith, c.from.ensures, c.home_of-home.ensures.within, ap length c.self.view_is))
    c.index_mut.result.now c.step.new.self c.index_mut.ensures.value

pub returns-clause-err : goal.returns-clause-err
returns-clause-err c =
    on_err_weaker c.step.result
    (λ err. ⊎_elim
    (λ same. inl (put_same c.args.self.now c.self.inside.slots.items c.self.view_is (home_of c.args.connection c.args.actor c.args.self.now) c.from.result
    (c.from.ensures ∙ c.home_of-home.ensures.home) (omega (arith, c.from.ensures, c.home_of-home.ensures.within, ap length c.self.view_is))
    c.index_mut.result.now c.step.new.self c.index_mut.ensures.value
    same))
    (λ stopped. inr (of_old c.args.self.now c.self.inside.slots.items c.self.view_is (home_of c.args.connection c.args.actor c.args.self.now) c.from.result
    (c.from.ensures ∙ c.home_of-home.ensures.home) (omega (arith, c.from.ensures, c.home_of-home.ensures.within, ap length c.self.view_is))
    c.index_mut.result.now c.step.new.self c.index_mut.ensures.value
    (λ (entry : Entry). IsSomeAnd (entry_at (home_of c.args.connection c.args.actor c.args.self.now)
    (slice_set c.self.inside.slots.items c.from.result c.step.new.self)) (IsStopped entry))
    (of_new c.args.self.now c.self.inside.slots.items c.self.view_is (home_of c.args.connection c.args.actor c.args.self.now) c.from.result
    (c.from.ensures ∙ c.home_of-home.ensures.home) (omega (arith, c.from.ensures, c.home_of-home.ensures.within, ap length c.self.view_is))
    c.index_mut.result.now c.step.new.self c.index_mut.ensures.value
    (IsStopped c.index_mut.result.now) stopped)))
    err)
    c.step.ensures.err
