use Rattle.std.proofs.Common.{ap}
use Rattle.qp_check_course.specs.AsState.{as_actor, as_state}
use Rattle.qp_check_course.specs.Passing.{run_told}
use Rattle.qp_check_course.proofs.AnswerLemmas.{begun-can, its-able, missing}
use Rattle.qp_check_course.proofs.reading.CourseReading.begin.Goals as goal

pub returns-in_ok-state-in-Some : goal.returns-in_ok-state-in-Some
returns-in_ok-state-in-Some c =
    let who = c.in-Some.who in
    let is = c.in-Some.ensures in
    let able = its-able c.args.sys.now c.args.d.now c.requires who.chart.now is.found who.sys.now (as_actor who) is.system is.object is.room in
    let can = begun-can who.sys.now (as_actor who) c.args.d.now (as_state c.in_ok-state-in-Some.state) able c.in_ok-state-in-Some.ensures in (
      (able, can),
      λ all. record { chart = who.chart.now; is = is; led = ap (λ s. run_told who.sys.now (as_actor who) s all) c.in_ok-state-in-Some.ensures },
    )

pub returns-in-None : goal.returns-in-None
returns-in-None c = missing c.args.sys.now c.args.d.now c.requires c.in-None.ensures
