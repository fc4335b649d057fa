-- Notes and events, as the definitions see them.
use Rattle.qp_check_course.specs.Note as note
use Rattle.qp_check_course.specs.declared.notes.Note.{Note}
use Rattle.qp_check_course.specs.declared.notes.Note.TheVariants as own

abbrev pub as_note : Note → note.Note
as_note own.Begin = note.Begin
as_note (own.Run s k) = note.Run s k
as_note own.Unhandled = note.Unhandled
as_note (own.Exit s) = note.Exit s
as_note (own.Enter s) = note.Enter s
as_note (own.Init s) = note.Init s
as_note own.Done = note.Done
as_note (own.Say v) = note.Say v
as_note (own.Unlock c) = note.Unlock c
