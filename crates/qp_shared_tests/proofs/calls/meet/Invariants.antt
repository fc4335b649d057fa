use Rattle.qp_shared_tests.proofs.calls.meet.Given as goal

-- the ledgers are the new ones
abbrev pub ghosts-post_go : goal.ghosts-post_go
ghosts-post_go a = record { name = a.blank.name; parts = a.blank.parts }

abbrev pub ghosts-leave_one : goal.ghosts-leave_one
ghosts-leave_one a = record { name = a.blank.name; parts = a.blank.parts }
