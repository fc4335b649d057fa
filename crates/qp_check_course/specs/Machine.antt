-- An object's course, piece by piece: its states, and what each piece makes of them.
use Rattle.std.specs.Prelude.{◌≡◌, ℕ, zero, suc, ◌+◌, max, Bool, true, false, ◌&&◌, List, [], ◌∷◌, ◌++◌, slice_set, if◌then◌else◌, Some, None}
use Rattle.std.specs.declared.option.Option.{Option}
use Rattle.std.specs.Option.{option_map, option_and_then}
use Rattle.std.specs.Bool.{MatchBool}
use Rattle.qp_chart.specs.Task as task
use Rattle.qp_chart.specs.Task.{Task}
use Rattle.qp_chart.specs.Agenda.{start_plan, step_plan}
use Rattle.qp_model.specs.declared.systems.System.{System}
use Rattle.qp_model.specs.declared.bodies.Entry.{Entry}
use Rattle.qp_model.specs.declared.bodies.Body.TheVariants as item
use Rattle.qp_model.specs.Told.{Told, Event, plain, raised}
use Rattle.qp_model.specs.Groups.{is_post}
use Rattle.qp_model.specs.Calls as call
use Rattle.qp_model.specs.Calls.{Call, Answer, Deed, Sets, Says, Calls, deed_of, ok_after, is_assertion}
use Rattle.qp_model.specs.Shapes.{Releases}
use Rattle.qp_model.specs.Pieces.{Piece, Tell, Point, with_points, tell}
use Rattle.qp_model.specs.Acts.{Config, Actor, Later, names_of, Notes}
use Rattle.qp_check_calls.specs.CallState.{CallState}
use Rattle.qp_check_calls.specs.CallStateNext.{call_state_begin, call_state_next, stage_answer}
use Rattle.qp_check_calls.specs.Reads.{IsRestOfCall}
use Rattle.qp_check_course.specs.Note.{Note, Begin, Run, Unhandled, Exit, Enter, Init, Done, Say, Unlock, body_of_note, tells, raised_from, entry_and_event_taken, dropped_by, comes_back}
use Rattle.qp_check_course.specs.Goes.{Aim, Way, Starting, Stepping, moment_of, Ends, LeftGoes, StepsGo}

pub data State : Type 0 where
  -- between steps
  Between : (c : Config) → State
  -- this note is to come; where it ends an action, its point after it
  Telling : (way : Way) (n : Note) (ends : Bool) (ts : List Task) (leaf : ℕ) (c : Config) → State
  -- the ceiling is to be raised
  Raising : (way : Way) (ceiling : ℕ) (ts : List Task) (leaf : ℕ) (c : Config) → State
  -- the point of an action is to come
  AtPoint : (ev : Event) (e : Entry) (ts : List Task) (leaf : ℕ) (c : Config) → State
  -- a call is under way, with or without points after its posts
  InCall : (way : Way) (inner : Bool) (rest : CallState) (ts : List Task) (leaf : ℕ) (c : Config) → State
  -- the point after a post of a publication is to come
  AtPost : (way : Way) (rest : CallState) (ts : List Task) (leaf : ℕ) (c : Config) → State
  -- the reference of the step's entry is to be dropped
  Releasing : (e : Entry) (c : Config) → State
  -- and its block is to come back
  Returning : (p b d : ℕ) (c : Config) → State
  -- nothing more is to come
  Asserted : State

-- records of a call, with points after its posts or without
abbrev pub inner_pieces : Bool → List Told → List Piece
inner_pieces true g = with_points g
inner_pieces false g = tell g

-- a publication of a step has points after its posts
abbrev pub has_inner : Way → Call → Bool
has_inner (Stepping ev e) (call.Publish sig pars reserve) = true
has_inner way x = false

-- the rest of a call, and what comes after it
unfoldable pub CallStateGoes : System → Actor → Way → Bool → CallState → Later → Config → List Piece → Type 0
unfolding IsRestOfCall with_points
CallStateGoes sys a way inner rest later c ps =
    (answer : Answer) × (g : List Told) × (kept : List Entry) × IsRestOfCall sys a.o (moment_of way).entry rest answer kept g
    × MatchBool (is_assertion answer)
    (ps ≡ inner_pieces inner g)
    ((more : List Piece) × (ps ≡ inner_pieces inner g ++ more) × Ends way (later (record c { ok = ok_after answer c.ok; kept = kept })) more)

-- what comes after a note
abbrev pub NoteEnds : Way → Bool → (List Piece → Type 0) → List Piece → Type 0
NoteEnds way true later ps = Ends way later ps
NoteEnds way false later ps = later ps

-- the pieces that may come from a state on
unfoldable pub Goes : System → Actor → Aim → State → List Piece → Type 0
unfolding StepsGo LeftGoes CallStateGoes
Goes sys a aim (Between c) ps = StepsGo sys a aim c ps
Goes sys a aim (Telling way n ends ts leaf c) ps = Notes (plain (body_of_note n)) (NoteEnds way ends (LeftGoes sys a aim way ts leaf c)) ps
Goes sys a aim (Raising way ceiling ts leaf c) ps =
    (former : ℕ) × Notes (raised (max former ceiling) former) (LeftGoes sys a aim way ts leaf (record c { former = former })) ps
Goes sys a aim (AtPoint ev e ts leaf c) ps = (rest : List Piece) × (ps ≡ Point ∷ rest) × LeftGoes sys a aim (Stepping ev e) ts leaf c rest
Goes sys a aim (InCall way inner rest ts leaf c) ps = CallStateGoes sys a way inner rest (LeftGoes sys a aim way ts leaf) c ps
Goes sys a aim (AtPost way rest ts leaf c) ps = (more : List Piece) × (ps ≡ Point ∷ more) × CallStateGoes sys a way true rest (LeftGoes sys a aim way ts leaf) c more
Goes sys a aim (Releasing e c) ps =
    (rel : List Told) × (rest : List Piece) × Releases e.pool e.block e.name rel × (ps ≡ tell rel ++ rest) × StepsGo sys a aim c rest
Goes sys a aim (Returning p b d c) ps = (n : ℕ) × Notes (plain (item.Back p n b (d + 1))) (StepsGo sys a aim c) ps
Goes sys a aim Asserted ps = ps ≡ []

-- an action is done: in a step its point is to come, and in a start what comes next
abbrev pub action_done : Way → ℕ → List Task → (Config → State) → Config → State
action_done Starting leaf ts go c = go c
action_done (Stepping ev e) leaf ts go c = AtPoint ev e ts leaf c

-- a call is done with this answer
abbrev pub answered : Bool → Way → ℕ → List Task → (Config → State) → Config → State
answered true way leaf ts go c = Asserted
answered false way leaf ts go c = action_done way leaf ts go c

-- the rest of a call, or what comes after it
abbrev pub resumed : Option Answer → Way → Bool → CallState → ℕ → List Task → (Config → State) → Config → State
resumed None way inner rest leaf ts go c = InCall way inner rest ts leaf c
resumed (Some answer) way inner rest leaf ts go c = answered (is_assertion answer) way leaf ts go (record c { ok = ok_after answer c.ok; kept = rest.kept })

abbrev pub resume : Way → Bool → CallState → ℕ → List Task → (Config → State) → Config → State
resume way inner rest leaf ts go c = resumed (stage_answer rest.stage) way inner rest leaf ts go c

-- the first task is an action
unfoldable pub deed_state : Actor → Way → ℕ → List Task → (Config → State) → Config → Deed → State
deed_state a way leaf ts go c (Sets var value) = action_done way leaf ts go (record c { vars = slice_set c.vars var value })
deed_state a way leaf ts go c (Says value) = Telling way (Say value) true ts leaf c
deed_state a way leaf ts go c (Calls x) = resume way (has_inner way x) (call_state_begin a.room c.kept x) leaf ts go c

-- the first of some tasks
unfoldable pub task_state : Actor → Way → ℕ → List Task → (Config → State) → Config → Task → State
unfolding deed_state deed_of
task_state a way leaf ts go c (task.Do p) = deed_state a way leaf ts go c (deed_of (names_of a c (moment_of way).event) p)
task_state a way leaf ts go c (task.Raise ceiling) = Raising way ceiling ts leaf c
task_state a way leaf ts go c task.Restore = Telling way (Unlock c.former) true ts leaf c
task_state a way leaf ts go c task.Begin = Telling way Begin false ts leaf c
task_state a way leaf ts go c (task.Run s k) = Telling way (Run s k) false ts leaf c
task_state a way leaf ts go c task.Unhandled = Telling way Unhandled false ts leaf c
task_state a way leaf ts go c (task.Exit s) = Telling way (Exit s) false ts leaf c
task_state a way leaf ts go c (task.Enter s) = Telling way (Enter s) false ts leaf c
task_state a way leaf ts go c (task.Init s) = Telling way (Init s) false ts leaf c
task_state a way leaf ts go c task.Done = Telling way Done false ts leaf c

-- a step is done: the reference of its entry is to be dropped, unless its event is static
abbrev pub step_closed : ℕ → Entry → Config → State
step_closed zero e c = Between c
step_closed (suc p) e c = Releasing e c

abbrev pub closing : Way → ℕ → Config → State
closing Starting leaf c = Between (record c { leaf = leaf })
closing (Stepping ev e) leaf c = step_closed e.pool e (record c { leaf = leaf })

-- the state in which these tasks are left
unfoldable pub tasks_state : Actor → Way → ℕ → List Task → Config → State
unfolding task_state
tasks_state a way leaf [] c = closing way leaf c
tasks_state a way leaf (t ∷ ts) c = task_state a way leaf ts (λ d. tasks_state a way leaf ts d) c t

-- after a note
abbrev pub behind_note : Actor → Way → Bool → ℕ → List Task → Config → State
behind_note a way true leaf ts c = action_done way leaf ts (tasks_state a way leaf ts) c
behind_note a way false leaf ts c = tasks_state a way leaf ts c

-- a record of a call was a post of a publication, or not
abbrev pub call_told : Bool → Actor → Way → Bool → CallState → ℕ → List Task → Config → State
call_told true a way inner rest leaf ts c = AtPost way rest ts leaf c
call_told false a way inner rest leaf ts c = resume way inner rest leaf ts (tasks_state a way leaf ts) c

-- a step over an event begins
unfoldable pub step_state : Actor → Entry → Event → Config → State
unfolding tasks_state step_plan
step_state a e ev c =
    tasks_state a (Stepping ev e) (step_plan a.chart c.leaf (names_of a c ev) ev.sig).leaf (step_plan a.chart c.leaf (names_of a c ev) ev.sig).tasks c

-- an object's course begins
unfoldable pub start_state : Actor → Config → State
unfolding tasks_state start_plan
start_state a first = tasks_state a Starting (start_plan a.chart).leaf (start_plan a.chart).tasks first

-- a reference was dropped, and so many are left
abbrev pub behind_dec : Entry → ℕ → ℕ → Config → State
behind_dec e d zero c = Returning e.pool e.block d c
behind_dec e d (suc left) c = Between c

-- what a record makes of a state, where it may come
unfoldable pub tell_next : System → Actor → State → Told → Option State
unfolding comes_back dropped_by raised_from call_state_next tasks_state step_state entry_and_event_taken tells
tell_next sys a (Between c) t = option_map (λ x. step_state a x.0 x.1 c) (entry_and_event_taken t.body t.known)
tell_next sys a (Telling way n ends ts leaf c) t = if tells n t.body t.known then Some (behind_note a way ends leaf ts c) else None
tell_next sys a (Raising way ceiling ts leaf c) t =
    option_map (λ former. tasks_state a way leaf ts (record c { former = former })) (raised_from ceiling t.body t.known)
tell_next sys a (AtPoint ev e ts leaf c) t = None
tell_next sys a (InCall way inner rest ts leaf c) t =
    option_map (λ more. call_told (inner && is_post t.body) a way inner more leaf ts (record c { kept = more.kept })) (call_state_next sys a.o (moment_of way).entry rest t)
tell_next sys a (AtPost way rest ts leaf c) t = None
tell_next sys a (Releasing e c) t = option_map (λ x. behind_dec e x.0 x.1 c) (dropped_by e t.body t.known)
tell_next sys a (Returning p b d c) t = if comes_back p b d t.body t.known then Some (Between c) else None
tell_next sys a Asserted t = None

-- what a point makes of it
unfoldable pub point_next : Actor → State → Option State
unfolding tasks_state
point_next a (AtPoint ev e ts leaf c) = Some (tasks_state a (Stepping ev e) leaf ts c)
point_next a (AtPost way rest ts leaf c) = Some (resume way true rest leaf ts (tasks_state a way leaf ts) c)
point_next a s = None

-- what a piece makes of it
unfoldable pub state_next : System → Actor → State → Piece → Option State
unfolding point_next tell_next
state_next sys a s (Tell t) = tell_next sys a s t
state_next sys a s Point = point_next a s

-- the course may end here
abbrev pub is_course_end : State → Bool
is_course_end (Between c) = true
is_course_end Asserted = true
is_course_end s = false

-- a point is to come
abbrev pub expects_point : State → Bool
expects_point (AtPoint ev e ts leaf c) = true
expects_point (AtPost way rest ts leaf c) = true
expects_point s = false

-- a call under way isn't whole
abbrev pub IsCallUnderWay : State → Type 0
IsCallUnderWay (InCall way inner rest ts leaf c) = stage_answer rest.stage ≡ None
IsCallUnderWay s = Unit {0}

-- what some pieces make of it, one after another
unfoldable pub state_after : System → Actor → State → List Piece → Option State
unfolding state_next
state_after sys a s [] = Some s
state_after sys a s (p ∷ ps) = option_and_then (λ later. state_after sys a later ps) (state_next sys a s p)
