-- The rule of a parker.
use Rattle.std.specs.Prelude.{◌+◌, ◌≤◌, Bool, List, if◌then◌else◌}
use Rattle.qp_wait_bells.specs.declared.parking.Notes.{Notes}
use Rattle.qp_wait_bells.specs.Tallies.{tally_sum}

-- a pass that gave no note and made no park
abbrev pub no_notes : Notes
no_notes = record { given = 0; parks = 0 }

abbrev pub with_note : Notes → Notes
with_note v = record v { given = v.given + 1 }

abbrev pub with_park : Notes → Notes
with_park v = record v { parks = v.parks + 1 }

-- each park took a note that was given, and the one that is there was given too
abbrev pub HasNoted : Bool → List Notes → Type 0
HasNoted there views = tally_sum (λ v. v.parks) views + (if there then 1 else 0) ≤ tally_sum (λ v. v.given) views
