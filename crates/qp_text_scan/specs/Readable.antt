-- What a record, a lane and a first line have to have to be read.
use Rattle.std.specs.Prelude.{◌≡◌, ◌≤◌, ◌&&◌, ◌⊎◌, ℕ, Bool, List, length, nat_le}
use Rattle.std.specs.List.{list_all}
use Rattle.qp_model.specs.declared.record.Rec.{Rec}
use Rattle.qp_model.specs.Output.{is_record_in_range, last_kernel}
use Rattle.qp_model.specs.Limits.{budget_limit}
use Rattle.qp_text.specs.TextLaw.{record_has_64_bits}

-- a record in range, with numbers of 64 bits
abbrev pub is_readable : ℕ → Rec → Bool
is_readable form r = is_record_in_range form r && record_has_64_bits r

-- at most a million of them and a `spill`
abbrev pub is_readable_lane : ℕ → List Rec → Bool
is_readable_lane form lane = nat_le (length lane) 1000001 && list_all (is_readable form) lane

-- form, kernel and budget in range
pub record IsHead (form kernel budget : ℕ) : Type 0 where
  pub is_form : (form ≡ 1) ⊎ (form ≡ 2)
  pub is_kernel : kernel ≤ last_kernel form
  pub least : 1 ≤ budget
  pub most : budget ≤ budget_limit
