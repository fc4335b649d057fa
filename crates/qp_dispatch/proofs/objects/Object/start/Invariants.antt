use Rattle.qp_dispatch.proofs.objects.Object.start.Given as goal

-- the ledger is the new one
abbrev pub ghosts-start_in : goal.ghosts-start_in
ghosts-start_in g a = record { name = a.blank.name; parts = a.blank.parts }
