use Rattle.std.proofs.Common.{◌∙◌, ◌++◌, IsSome, subst, ap, sym, arith}
use Rattle.qp_model.specs.History.{lane_items}
use Rattle.qp_model.specs.KernelLane.{lane_on, lane_read, unread}
use Rattle.qp_model.specs.Lawful.{facts_of}
use Rattle.qp_model.specs.Points.{lane_pieces, pieces_in}
use Rattle.qp_check_kernel.specs.LaneState.{as_reading, as_setting}
use Rattle.qp_check_knowledge.specs.Knowledge.{known_facts}
use Rattle.qp_check.specs.ObjectPieces.{pieces_of_object}
use Rattle.qp_check.proofs.PieceLemmas.{pieces-end, pieces-next, stands-next}
use Rattle.qp_check.proofs.pieces.pieces_in.Goals as goal

pub loop-r-init : goal.loop-r-init
unfolding lane_read lane_pieces facts_of
loop-r-init c =
    let w = known_facts c.args.knowledge.now in
    let s = as_setting c.args.rules.now in
    let lane = lane_items c.args.lane.now in
    record {
      each = λ o.
          ap (λ l. l ++ pieces_in w s o (as_reading c.of_none-reading.result) lane) (c.none-pieces.ensures o)
          ∙ ap (λ k. pieces_in w s o k lane) (c.of_none-reading.ensures.exact ∙ ap unread c.requires.same);
      stands = subst (λ k. IsSome (lane_on s k lane)) (sym c.of_none-reading.ensures.exact) c.requires.stands;
      few = omega (arith, c.of_none-reading.ensures.none);
    }

pub loop-r-preserved : goal.loop-r-preserved
loop-r-preserved c =
    let w = known_facts c.args.knowledge.now in
    let s = as_setting c.args.rules.now in
    let k = as_reading c.loop-r.reading in
    let next = as_reading c.next.new.self in
    let reads = c.in_ok-_stands.ensures.exact in
    record {
      each = λ o.
          pieces-next w s k c.args.lane.now c.loop-r.r-index c.r-item.result c.loop-r-test.true c.r-item.is next c.in_ok-_stands._stands reads c.loop-r.invariant.stands
          o (pieces_of_object c.put_record.new.pieces o) (pieces_of_object c.loop-r.pieces o) (lane_pieces w s o (lane_items c.args.lane.now)) (c.in_ok-put_record.ensures o) (c.loop-r.invariant.each o);
      stands = stands-next w s k c.args.lane.now c.loop-r.r-index c.r-item.result c.loop-r-test.true c.r-item.is next c.in_ok-_stands._stands reads c.loop-r.invariant.stands;
      few = omega (arith, c.in_ok-_stands.ensures.few, c.loop-r.invariant.few);
    }

pub returns : goal.returns
returns c o =
    pieces-end (known_facts c.args.knowledge.now) (as_setting c.args.rules.now) (as_reading c.loop-r.reading) c.args.lane.now c.loop-r.r-index
    o (pieces_of_object c.loop-r.pieces o) (lane_pieces (known_facts c.args.knowledge.now) (as_setting c.args.rules.now) o (lane_items c.args.lane.now)) c.loop-r-test.false (c.loop-r.invariant.each o)
