-- The states of a course, as the definitions see them.
use Rattle.std.specs.Prelude.{List}
use Rattle.qp_model.specs.declared.bodies.Entry.{Entry}
use Rattle.qp_model.specs.Acts as acts
use Rattle.qp_check_course.specs.Goes as goes
use Rattle.qp_check_course.specs.Machine as machine
use Rattle.qp_check_course.specs.AsNote.{as_note}
use Rattle.qp_check_course.specs.AsTask.{as_tasks}
use Rattle.qp_check_course.specs.declared.states.Actor.{Actor}
use Rattle.qp_check_course.specs.declared.states.Way.{Way}
use Rattle.qp_check_course.specs.declared.states.Way.TheVariants as way
use Rattle.qp_check_course.specs.declared.states.Own.{Own}
use Rattle.qp_check_course.specs.declared.states.State.{State}
use Rattle.qp_check_course.specs.declared.states.State.TheVariants as state

abbrev pub as_actor : Actor → acts.Actor
as_actor a = record { o = a.o; chart = a.chart.now; room = a.room }

abbrev pub as_way : Way → goes.Way
as_way way.Starting = goes.Starting
as_way (way.Stepping s) = goes.Stepping (record { sig = s.sig; pars = s.pars }) s.entry

-- with its deferred list
abbrev pub own_config : Own → List Entry → acts.Config
own_config own kept = record { leaf = own.leaf; vars = own.vars.items; ok = own.ok; kept = kept; former = own.former }

abbrev pub as_state : State → machine.State
as_state (state.Between own kept) = machine.Between (own_config own kept)
as_state (state.Telling w note ends left own kept) = machine.Telling (as_way w) (as_note note) ends (as_tasks left.tasks.items) left.leaf (own_config own kept)
as_state (state.Raising w ceiling left own kept) = machine.Raising (as_way w) ceiling (as_tasks left.tasks.items) left.leaf (own_config own kept)
as_state (state.AtPoint step left own kept) =
    machine.AtPoint (record { sig = step.sig; pars = step.pars }) step.entry (as_tasks left.tasks.items) left.leaf (own_config own kept)
as_state (state.InCall w inner rest left own) = machine.InCall (as_way w) inner rest (as_tasks left.tasks.items) left.leaf (own_config own rest.kept)
as_state (state.AtPost w rest left own) = machine.AtPost (as_way w) rest (as_tasks left.tasks.items) left.leaf (own_config own rest.kept)
as_state (state.Releasing entry own kept) = machine.Releasing entry (own_config own kept)
as_state (state.Returning p b d own kept) = machine.Returning p b d (own_config own kept)
as_state state.Asserted = machine.Asserted
