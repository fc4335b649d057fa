use Rattle.qp_base_tests.proofs.steps.steps_are_counted_in_a_ledger_of_their_own.Given as goal

-- the ledger is the new one
abbrev pub ghosts-is_done_in : goal.ghosts-is_done_in
ghosts-is_done_in g a = record { name = a.blank.name; parts = a.blank.parts }
