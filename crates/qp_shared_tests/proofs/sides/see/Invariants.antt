use Rattle.qp_shared_tests.proofs.sides.see.Given as goal

-- the ledger is the new one
abbrev pub ghosts-play : goal.ghosts-play
ghosts-play a = record { name = a.blank.name; parts = a.blank.parts }
