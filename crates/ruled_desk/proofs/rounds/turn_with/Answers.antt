use Rattle.ruled_desk.proofs.Ridden.{rode_at_seat}
use Rattle.ruled_desk.proofs.rounds.turn_with.Goals as goal

pub returns : goal.returns
returns g c =
    let t = c.turn-told in
    rode_at_seat g.A.Actor.asks g.A.Actor.takes c.args.desk.now c.seat-seat.result.desk.now t.new.desk.desk.now c.args.crew.now t.new.crew c.args.pass
    c.seat-seat.result.pass c.into_pass.result t.new.desk.pass t.result c.seat-seat.ensures.desk c.seat-seat.ensures.pass c.into_pass.ensures t.ensures.root
    c.requires.actor c.requires.of t.ensures.serving t.ensures.ok t.ensures.over t.ensures.err t.ensures.refused t.ensures.few t.ensures.full
