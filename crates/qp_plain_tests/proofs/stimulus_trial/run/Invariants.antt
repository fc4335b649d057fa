use Rattle.qp_plain_tests.proofs.stimulus_trial.run.Given as goal

-- the ledger is the new one
abbrev pub ghosts-play : goal.ghosts-play
ghosts-play g a = record { name = a.blank.name; parts = a.blank.parts }
