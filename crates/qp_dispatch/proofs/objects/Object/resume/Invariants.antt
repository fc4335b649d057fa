use Rattle.qp_dispatch.proofs.objects.Object.resume.Given as goal

-- the ledger is the new one
abbrev pub ghosts-resume_in : goal.ghosts-resume_in
ghosts-resume_in g a = record { name = a.blank.name; parts = a.blank.parts }
