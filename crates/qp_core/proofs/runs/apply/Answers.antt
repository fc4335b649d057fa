use Rattle.std.proofs.Common.{sym, ◌∙◌}
use Rattle.qp_core.proofs.ApplyLemmas.{split-one, split-kept, join-one, join-kept, own-one, own-kept}
use Rattle.qp_core.proofs.runs.apply.Goals as goal

pub returns-in-Split-clause-one : goal.returns-in-Split-clause-one
returns-in-Split-clause-one c = split-one c.args.s.now c.args.lane c.in-Some.at (sym c.place_in.ensures ∙ c.in-Some.is) c.split.new.seats c.split.result c.lanes_in-lanes.result c.in-Split.into c.in-Split.serves c.lanes_in-lanes.ensures c.split.ensures c.args.op.now c.in-Split.is

pub returns-in-Split-clause-kept : goal.returns-in-Split-clause-kept
returns-in-Split-clause-kept c = split-kept c.args.s.now c.args.lane c.in-Some.at (sym c.place_in.ensures ∙ c.in-Some.is) c.split.new.seats c.split.result c.lanes_in-lanes.result c.in-Split.into c.in-Split.serves c.lanes_in-lanes.ensures c.split.ensures

pub returns-in-Join-clause-one : goal.returns-in-Join-clause-one
returns-in-Join-clause-one c = join-one c.args.s.now c.args.lane c.in-Some.at (sym c.place_in.ensures ∙ c.in-Some.is) c.join.new.seats c.join.result c.in-Join.from c.join.ensures c.args.op.now c.in-Join.is

pub returns-in-Join-clause-kept : goal.returns-in-Join-clause-kept
returns-in-Join-clause-kept c = join-kept c.args.s.now c.args.lane c.in-Some.at (sym c.place_in.ensures ∙ c.in-Some.is) c.join.new.seats c.join.result c.in-Join.from c.join.ensures

pub returns-in_default-op-clause-one : goal.returns-in_default-op-clause-one
returns-in_default-op-clause-one c = own-one c.args.s.now c.args.lane c.in-Some.at (sym c.place_in.ensures ∙ c.in-Some.is) c.system_of-sys.result.now c.lanes_in-lanes.result c.system_of-sys.ensures c.lanes_in-lanes.ensures c.args.op.now c.in_default-op.not-Split c.in_default-op.not-Join
    c.step_at.new.words c.step_at.new.seats c.step_at.result c.step_at.ensures

pub returns-in_default-op-clause-kept : goal.returns-in_default-op-clause-kept
returns-in_default-op-clause-kept c = own-kept c.args.s.now c.args.lane c.in-Some.at (sym c.place_in.ensures ∙ c.in-Some.is) c.system_of-sys.result.now c.lanes_in-lanes.result c.system_of-sys.ensures c.lanes_in-lanes.ensures c.args.op.now c.in_default-op.not-Split c.in_default-op.not-Join
    c.step_at.new.words c.step_at.new.seats c.step_at.result c.step_at.ensures
