-- Bounds of what a direction of a link does to its segments.
use Rattle.std.specs.Prelude.{◌≤◌, Option, IfSome}
use Rattle.link_model.specs.declared.passage.Rate.{Rate}
use Rattle.link_model.specs.declared.passage.Shape.{Shape}

-- a rate that a script can say
pub record IsRate (rate : Rate) : Type 0 where
  pub some_octets : 10 ≤ rate.octets
  pub few_octets : rate.octets ≤ 1000000
  pub small_queue : rate.queue ≤ 1000000

abbrev pub HasRate : Option Rate → Type 0
HasRate rate = IfSome rate IsRate

-- what a script can say of a direction
pub record IsShape (shape : Shape) : Type 0 where
  pub rate : HasRate shape.rate
  pub loss : shape.loss ≤ 1000000
  pub jitter : shape.jitter ≤ 100000
