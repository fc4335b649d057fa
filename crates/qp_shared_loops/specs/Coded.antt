-- Entries as cells have them.
use Rattle.std.specs.Prelude.{ℕ, ◌/◌, ◌%◌, eqb, cond}
use Rattle.qp_model.specs.declared.bodies.Entry.{Entry}
use Rattle.qp_model.specs.Record.{entry}

-- the entry of which a cell has the code; a static one has its signal as its block
abbrev pub entry_of_cell : ℕ → Entry
entry_of_cell c = cond {A = Entry} (eqb (c / 9007199254740992 % 16) 0) (entry 0 (c % 65536) 0) (entry (c / 9007199254740992 % 16) (c / 281474976710656 % 32) (c % 281474976710656))
