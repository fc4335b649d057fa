-- The notes of a start or a step: which handler, which exits, entries and initial transitions.
use Rattle.std.specs.Prelude.{Bool, true, false, List, Some, None, if◌then◌else◌}
use Rattle.std.specs.declared.option.Option.{Option}
use Rattle.std.specs.List.{filter_map}
use Rattle.qp_chart.specs.Task.{Task, Begin, Run, Unhandled, Exit, Enter, Init, Done}
use Rattle.qp_model.specs.declared.bodies.Body.{Body}
use Rattle.qp_model.specs.declared.bodies.Body.TheVariants as item
use Rattle.qp_model.specs.Told.{Told}

-- the note that a task is, or None for an action and for the marks of `locked`
abbrev pub note_of : Task → Option Body
note_of Begin = Some item.Begin
note_of (Run s k) = Some (item.Run s k)
note_of Unhandled = Some item.Unhandled
note_of (Exit s) = Some (item.Exit s)
note_of (Enter s) = Some (item.Enter s)
note_of (Init s) = Some (item.Init s)
note_of Done = Some item.Done
note_of _ = None

-- a note that the agenda alone leaves
abbrev pub is_step_note : Body → Bool
is_step_note item.Begin = true
is_step_note (item.Run s k) = true
is_step_note item.Unhandled = true
is_step_note (item.Exit s) = true
is_step_note (item.Enter s) = true
is_step_note (item.Init s) = true
is_step_note item.Done = true
is_step_note _ = false

-- the notes of an agenda, in order
unfoldable pub notes_of : List Task → List Body
notes_of ts = filter_map note_of ts

abbrev pub step_note_in : Told → Option Body
step_note_in t = if is_step_note t.body then Some t.body else None

-- such notes among some records, in order
unfoldable pub notes_in : List Told → List Body
notes_in g = filter_map step_note_in g
