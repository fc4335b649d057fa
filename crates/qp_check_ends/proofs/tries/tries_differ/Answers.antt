use Rattle.std.proofs.Common.{rules, ◌≡◌, false, take}
use Rattle.std.specs.Cmp.Lexicographic.{slice_cmp}
use Rattle.std.specs.Ordering.{nat_cmp}
use Rattle.std.specs.BTreeSet.{contains}
use Rattle.qp_model.specs.History.{lane_items}
use Rattle.qp_check_ends.specs.Tries.{entries_seen}
use Rattle.qp_check_ends.proofs.TryLemmas.{seen-none, differ-none, seen-next, seen-again}
use Rattle.qp_check_ends.proofs.tries.tries_differ.Goals as goal

pub loop-r-init : goal.loop-r-init
loop-r-init c = record {
  held = seen-none c.new-seen.result (λ q. let e : contains (slice_cmp nat_cmp) c.new-seen.result q ≡ false = search rules in e);
  differ = differ-none;
}

pub returns-then-not-branch : goal.returns-then-not-branch
returns-then-not-branch c =
    seen-again c.args.lane.now c.loop-r.r-index c.r-item.result c.loop-r-test.true c.r-item.is
    c.in_ok-is_new.field-0 c.is_new.new.seen c.entry_seen.result c.entry_seen.ensures
    (c.in_ok-is_new.ensures (entries_seen (lane_items (take c.loop-r.r-index c.args.lane.now))) c.loop-r.invariant.held) c.if-not-branch.true

pub loop-r-preserved : goal.loop-r-preserved
loop-r-preserved c =
    let next =
    seen-next c.args.lane.now c.loop-r.r-index c.r-item.result c.loop-r-test.true c.r-item.is
    c.in_ok-is_new.field-0 c.is_new.new.seen c.entry_seen.result c.entry_seen.ensures
    (c.in_ok-is_new.ensures (entries_seen (lane_items (take c.loop-r.r-index c.args.lane.now))) c.loop-r.invariant.held) c.loop-r.invariant.differ c.if-not-branch.false in
    record { held = next.0; differ = next.1 }
