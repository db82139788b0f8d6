use Rattle.mptcp_run.proofs.messages.run_line.Given as goal

abbrev pub ghosts-run_over_frames : goal.ghosts-run_over_frames
ghosts-run_over_frames g a = record { held = (g.O.Outside.told a.outside).holds; faults = (g.O.Outside.told a.outside).port_faults; calls = (g.O.Outside.told a.outside).calls }
