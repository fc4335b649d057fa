use Rattle.qp_shared_tests.proofs.rings.post_and_count.Given as goal

-- the ledger is the new one
abbrev pub ghosts-post_go : goal.ghosts-post_go
ghosts-post_go a = record { name = a.blank.name; parts = a.blank.parts }
