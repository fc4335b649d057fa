-- Where an object that has a lane of its own is: before its start, between two turns, and within a step.
use Rattle.std.specs.Prelude.{◌≡◌, ℕ, ◌+◌, ◌≤◌, Bool, true, false, List, [], length, Some}
use Rattle.std.specs.List.{list_all}
use Rattle.qp_chart.specs.declared.checked.Chart.{Chart}
use Rattle.qp_model.specs.declared.systems.System.{System}
use Rattle.qp_model.specs.declared.systems.ObjectDef.{ObjectDef}
use Rattle.qp_model.specs.declared.bodies.Entry.{Entry}
use Rattle.qp_model.specs.Told.{Event}
use Rattle.qp_model.specs.Acts.{Config}
use Rattle.qp_model.specs.Step.{Remainder}
use Rattle.qp_model.specs.Course.{chart_at}
use Rattle.qp_model.specs.Sites.{object_at}
use Rattle.qp_calls.specs.Counting.{count_of}
use Rattle.qp_calls.specs.Tokens.{Token}
use Rattle.qp_calls.specs.Deferring.{is_named}
use Rattle.qp_calls.specs.LaneView.{LaneView, ceiling_in}
use Rattle.qp_calls.specs.Notes.{spills_told}
use Rattle.qp_chart_compiled.specs.Compiled.{IsCompiled}
use Rattle.qp_dispatch.specs.Objects.{IsNewObject, setting_for}
use Rattle.qp_dispatch.specs.Resume.{held_in}
use Rattle.qp_kernel_turns.specs.Knowing.{IsAtRest, IsInTurn, own_count}
use Rattle.qp_port_law.specs.HomeLaws.{IsBusy, HomeRests}
use Rattle.qp_port_lanes.specs.declared.home.Home.{Home}

-- the object of this priority before its start
pub record IsUnstartedHome (sys : System) (priority : ℕ) (x : Home) : Type 0 where
  pub object : IsNewObject sys priority x.object
  pub me : x.me ≡ priority
  pub ceiling : x.ceiling ≡ 0
  pub unseen : x.looked ≡ false
  pub calm : x.busy ≡ false

-- a lane that serves the object, in which nothing has happened
pub record HasEmptyLane (sys : System) (priority : ℕ) (v : LaneView) : Type 0 where
  pub of : v.sys ≡ sys
  pub serves : v.serves priority ≡ true
  pub told : v.told ≡ []
  pub hands : v.hands ≡ []

-- An object of the system, with its chart, in a lane that serves it. What stands in the hands is what the object keeps.
pub record IsIn (sys : System) (d : ObjectDef) (chart : Chart) (x : Home) (v : LaneView) : Type 0 where
  pub found : object_at sys d.priority ≡ Some d
  pub its : chart_at sys d.chart ≡ Some chart
  pub me : x.me ≡ d.priority
  pub object : x.object.me ≡ d.priority
  pub of : x.object.chart ≡ d.chart
  pub compiled : IsCompiled chart x.object.compiled
  pub room : x.object.lasting.list.entries.capacity ≡ d.defer
  pub named : list_all (is_named sys) (held_in x.object.lasting x.object.stage) ≡ true
  pub lane : v.sys ≡ sys
  pub serves : v.serves d.priority ≡ true
  pub ceiling : x.ceiling ≡ ceiling_in 0 v.told
  pub spills : spills_told v.told ≡ false
  pub only : (t : Token) → count_of t v.hands ≡ own_count t x.object

-- The object rests, and whole groups stand in its lane. The lane has looked at the stop word once for each entry that was taken, and once for each
-- scheduling point, or more often.
pub record IsHome (sys : System) (budget : ℕ) (x : Home) (v : LaneView) : Type 0 where
  pub d : ObjectDef
  pub chart : Chart
  pub at : IsIn sys d chart x v
  pub es : List Entry
  pub points : ℕ
  pub c : Config
  pub calm : x.busy ≡ false
  pub rest : IsAtRest c x.object
  pub taken : x.object.taken ≡ length es
  pub records : HomeRests sys d chart budget (v.own d.priority) x.looked v.told es points c
  pub asked : x.object.taken + points ≤ v.asked

-- at a scheduling point a look at the stop word is owed
abbrev pub owed : Bool → ℕ
owed true = 1
owed false = 0

-- a step is under way; `waits` tells that it waits at a scheduling point
pub record IsBusyHome (sys : System) (budget : ℕ) (waits : Bool) (x : Home) (v : LaneView) : Type 0 where
  pub d : ObjectDef
  pub chart : Chart
  pub at : IsIn sys d chart x v
  pub es : List Entry
  pub points : ℕ
  pub ev : Event
  pub e : Entry
  pub left : Remainder
  pub c : Config
  pub busy : x.busy ≡ true
  pub unseen : x.looked ≡ false
  pub turn : IsInTurn (setting_for sys chart x.object) ev e left c x.object v
  pub taken : x.object.taken ≡ length es
  pub records : IsBusy sys d chart budget (v.own d.priority) false waits v.told es points ev e left c
  pub asked : x.object.taken + points ≤ v.asked + owed waits
