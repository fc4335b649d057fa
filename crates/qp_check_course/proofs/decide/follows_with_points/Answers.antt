use Rattle.std.proofs.Common.{map, sym, ◌∙◌}
use Rattle.std.proofs.lemmas.Result.{IfOk-weaker}
use Rattle.qp_check_calls.specs.AsPiece.{as_piece, as_cut}
use Rattle.qp_check_course.specs.AsState.{as_actor}
use Rattle.qp_check_course.proofs.AnswerLemmas.{its-able, pieces-answer, pieces-asserted, missing}
use Rattle.qp_check_course.proofs.decide.follows_with_points.Goals as goal

pub reads_pieces-requires : goal.reads_pieces-requires
reads_pieces-requires c =
    let who = c.in-Some.who in
    let is = c.in-Some.ensures in
    its-able c.args.sys.now c.args.d.now c.requires who.chart.now is.found who.sys.now (as_actor who) is.system is.object is.room

pub returns-then-not-pieces_assert_where_cut : goal.returns-then-not-pieces_assert_where_cut
returns-then-not-pieces_assert_where_cut c =
    pieces-asserted c.args.sys.now c.args.d.now c.requires (as_cut c.args.cut) (map as_piece c.args.pieces.now)
    (sym c.pieces_assert_where_cut.ensures ∙ c.if-not-pieces_assert_where_cut.true)

pub returns-in-Some : goal.returns-in-Some
returns-in-Some c =
    let who = c.in-Some.who in
    let is = c.in-Some.ensures in
    IfOk-weaker c.reads_pieces.result _ _
    (pieces-answer c.args.sys.now c.args.d.now c.requires who.chart.now is.found who.sys.now (as_actor who) is.system is.object (as_cut c.args.cut) (map as_piece c.args.pieces.now)
    (sym c.pieces_assert_where_cut.ensures ∙ c.if-not-pieces_assert_where_cut.false))
    c.reads_pieces.ensures

pub returns-in-None : goal.returns-in-None
returns-in-None c = absurd (missing c.args.sys.now c.args.d.now c.requires c.in-None.ensures)
