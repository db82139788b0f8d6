use Rattle.message_pipe.proofs.LinesAgain.{whole_ports_show_all_lines, ports_show_first_lines, refused_ports_show_prefixes}
use Rattle.message_pipe.proofs.laws.ports_show_lines.Goals as goal

pub returns-clause-whole : goal.returns-clause-whole
returns-clause-whole c = whole_ports_show_all_lines

pub returns-clause-first : goal.returns-clause-first
returns-clause-first c = ports_show_first_lines

pub returns-clause-refused : goal.returns-clause-refused
returns-clause-refused c = refused_ports_show_prefixes
