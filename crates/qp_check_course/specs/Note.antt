-- The notes of an object's list that state all.
use Rattle.std.specs.Prelude.{ℕ, ◌+◌, ◌==◌, max, Bool, true, false, ◌&&◌, if◌then◌else◌, Some, None}
use Rattle.std.specs.declared.option.Option.{Option}
use Rattle.qp_model.specs.declared.bodies.Entry.{Entry}
use Rattle.qp_model.specs.declared.bodies.Body.{Body}
use Rattle.qp_model.specs.declared.bodies.Body.TheVariants as item
use Rattle.qp_model.specs.Told as told
use Rattle.qp_model.specs.Told.{Event, Known}

pub data Note : Type 0 where
  Begin : Note
  Run : (state place : ℕ) → Note
  Unhandled : Note
  Exit : (state : ℕ) → Note
  Enter : (state : ℕ) → Note
  Init : (state : ℕ) → Note
  Done : Note
  Say : (value : ℕ) → Note
  Unlock : (ceiling : ℕ) → Note

-- what the record of a note says
abbrev pub body_of_note : Note → Body
body_of_note Begin = item.Begin
body_of_note (Run s k) = item.Run s k
body_of_note Unhandled = item.Unhandled
body_of_note (Exit s) = item.Exit s
body_of_note (Enter s) = item.Enter s
body_of_note (Init s) = item.Init s
body_of_note Done = item.Done
body_of_note (Say v) = item.Say v
body_of_note (Unlock c) = item.Unlock c

-- the note that a record says
unfoldable pub note_in : Body → Option Note
note_in item.Begin = Some Begin
note_in (item.Run s k) = Some (Run s k)
note_in item.Unhandled = Some Unhandled
note_in (item.Exit s) = Some (Exit s)
note_in (item.Enter s) = Some (Enter s)
note_in (item.Init s) = Some (Init s)
note_in item.Done = Some Done
note_in (item.Say v) = Some (Say v)
note_in (item.Unlock c) = Some (Unlock c)
note_in body = None

unfoldable pub same_note : Note → Note → Bool
same_note Begin Begin = true
same_note (Run s k) (Run t j) = (s == t) && (k == j)
same_note Unhandled Unhandled = true
same_note (Exit s) (Exit t) = s == t
same_note (Enter s) (Enter t) = s == t
same_note (Init s) (Init t) = s == t
same_note Done Done = true
same_note (Say v) (Say w) = v == w
same_note (Unlock c) (Unlock d) = c == d
same_note n m = false

abbrev pub is_noted : Option Note → Note → Bool
is_noted None n = false
is_noted (Some m) n = same_note m n

-- a record says this note, and states all
unfoldable pub tells : Note → Body → Known → Bool
unfolding note_in same_note
tells n body told.Nothing = is_noted (note_in body) n
tells n body known = false

-- the ceiling before it was raised for this one
unfoldable pub raised_from : ℕ → Body → Known → Option ℕ
raised_from ceiling (item.Lock raised) (told.Former former) = if raised == max former ceiling then Some former else None
raised_from ceiling body known = None

-- the entry that is taken, and its event
unfoldable pub entry_and_event_taken : Body → Known → Option (Entry × Event)
entry_and_event_taken (item.Took f l m e) (told.OfEvent ev) = Some (e, ev)
entry_and_event_taken body known = None

-- the operation that drops the reference of an entry, and the references left
unfoldable pub dropped_by : Entry → Body → Known → Option (ℕ × ℕ)
dropped_by e (item.Dec p b d k) (told.Left left) = if (p == e.pool) && (b == e.block) && (k == e.name) then Some (d, left) else None
dropped_by e body known = None

-- the block comes back behind operation d
unfoldable pub comes_back : (p b d : ℕ) → Body → Known → Bool
comes_back p b d (item.Back q n c to) told.Nothing = (q == p) && (c == b) && (to == d + 1)
comes_back p b d body known = false
