use Rattle.subflow_worker.proofs.rounds.round_of.Given as goal

-- the books that are given are the named ones
abbrev pub ghosts-round_at : goal.ghosts-round_at
ghosts-round_at g a = record { given = a.books }
