use Rattle.message_pipe.proofs.PortsStand.{stands_shown, stands_still}
use Rattle.message_pipe.proofs.CallsBelow.{piece_counted, piece_shown}
use Rattle.message_pipe.proofs.line_port.put_for.Goals as goal

pub returns-in-Some-clause-stands : goal.returns-in-Some-clause-stands
returns-in-Some-clause-stands g c =
    λ first faults_first before. stands_still c.in-Some.field-0 c.args.lines.now.octets.items c.args.piece.now c.extend_from_slice.new.self.items c.args.lines.now.end c.args.lines.now.refused
    first _ faults_first _ c.in-Ok.ensures.items c.in-Some.is before

pub returns-in-None-clause-stands : goal.returns-in-None-clause-stands
returns-in-None-clause-stands g c =
    λ first faults_first before. stands_shown c.show.result c.args.lines.now.octets.items c.args.piece.now c.extend_from_slice.new.self.items c.show.new.lines.octets.items
    c.args.lines.now.end c.show.new.lines.end c.args.lines.now.refused c.show.new.lines.refused first _ _ faults_first _ _ c.in-Ok.ensures.items c.show.ensures.octets
    c.requires c.in-None.is c.show.ensures.ok c.show.ensures.all c.show.ensures.kept c.show.ensures.err c.show.ensures.refused c.show.ensures.stays.counted c.show.ensures.failed before

pub returns-in-Some-clause-comes : goal.returns-in-Some-clause-comes
returns-in-Some-clause-comes g c = piece_counted c.args.port c.in-Some.field-0 c.args.lines.now.refused _ _ c.args.piece.now _ c.in-Some.is

pub returns-in-None-clause-comes : goal.returns-in-None-clause-comes
returns-in-None-clause-comes g c =
    piece_shown c.show.result c.args.port c.args.lines.now.refused c.args.lines.now.octets.items c.args.piece.now c.extend_from_slice.new.self.items c.show.new.lines.octets.items
    c.args.lines.now.end c.show.new.lines.end _ _ c.in-Ok.ensures.items c.show.ensures.octets c.requires c.show.ensures.puts c.show.ensures.all c.show.ensures.part
