-- The actions within `locked`.
use Rattle.std.specs.Prelude.{◌≡◌, List, Some, None}
use Rattle.std.specs.declared.option.Option.{Option}
use Rattle.qp_chart.specs.declared.actions.Plain.{Plain}
use Rattle.qp_chart.specs.declared.actions.Act.{Act}
use Rattle.qp_chart.specs.declared.actions.Act.TheVariants as act

-- these actions stand within the action
abbrev pub IsLocked : List Plain → Option Act → Type 0
IsLocked plains None = ⊥
IsLocked plains (Some (act.Plain p)) = ⊥
IsLocked plains (Some (act.Locked c acts)) = acts ≡ plains
