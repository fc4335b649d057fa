use Rattle.std.proofs.Common.{sym, ◌∙◌}
use Rattle.std.proofs.lemmas.Result.{IfOk-weaker}
use Rattle.qp_check_calls.specs.AsPiece.{as_cut}
use Rattle.qp_check_course.specs.AsState.{as_actor}
use Rattle.qp_check_course.proofs.AnswerLemmas.{its-able, told-answer, told-asserted, missing}
use Rattle.qp_check_course.proofs.decide.follows.Goals as goal

pub reads_told-requires : goal.reads_told-requires
reads_told-requires c =
    let who = c.in-Some.who in
    let is = c.in-Some.ensures in
    its-able c.args.sys.now c.args.d.now c.requires who.chart.now is.found who.sys.now (as_actor who) is.system is.object is.room

pub returns-then-not-asserts_where_cut : goal.returns-then-not-asserts_where_cut
returns-then-not-asserts_where_cut c =
    told-asserted c.args.sys.now c.args.d.now c.requires (as_cut c.args.cut) c.args.told.now (sym c.asserts_where_cut.ensures ∙ c.if-not-asserts_where_cut.true)

pub returns-in-Some : goal.returns-in-Some
returns-in-Some c =
    let who = c.in-Some.who in
    let is = c.in-Some.ensures in
    IfOk-weaker c.reads_told.result _ _
    (told-answer c.args.sys.now c.args.d.now c.requires who.chart.now is.found who.sys.now (as_actor who) is.system is.object (as_cut c.args.cut) c.args.told.now
    (sym c.asserts_where_cut.ensures ∙ c.if-not-asserts_where_cut.false))
    c.reads_told.ensures

pub returns-in-None : goal.returns-in-None
returns-in-None c = absurd (missing c.args.sys.now c.args.d.now c.requires c.in-None.ensures)
