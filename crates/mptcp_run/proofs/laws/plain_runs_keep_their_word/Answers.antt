use Rattle.mptcp_run.proofs.Promised as promised
use Rattle.mptcp_run.proofs.laws.plain_runs_keep_their_word.Goals as goal

pub returns-clause-whole : goal.returns-clause-whole
returns-clause-whole c = promised.whole_runs_give_prefixes

pub returns-clause-delivered : goal.returns-clause-delivered
returns-clause-delivered c = promised.delivered_runs_give_files

pub returns-clause-stopped : goal.returns-clause-stopped
returns-clause-stopped c = promised.stopped_runs_give_prefixes

pub returns-clause-cut_off : goal.returns-clause-cut_off
returns-clause-cut_off c = promised.cut_runs_give_prefixes

pub returns-clause-line_cut : goal.returns-clause-line_cut
returns-clause-line_cut c = promised.lines_cut_give_prefixes
