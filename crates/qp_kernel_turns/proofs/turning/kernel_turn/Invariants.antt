use Rattle.qp_kernel_turns.proofs.turning.kernel_turn.Given as goal

-- the ledger is the new one
abbrev pub ghosts-rounds : goal.ghosts-rounds
ghosts-rounds g a = record { name = a.blank.name; parts = a.blank.parts }
