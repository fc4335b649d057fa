use Rattle.qp_port_lanes.proofs.source_turning.source_turn.Given as goal

-- the ledger is the new one
abbrev pub ghosts-turn_in : goal.ghosts-turn_in
ghosts-turn_in g a = record { name = a.blank.name; parts = a.blank.parts }
