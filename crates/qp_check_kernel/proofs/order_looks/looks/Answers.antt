use Rattle.std.proofs.Common.{rules, ◌≡◌, ◌∙◌, ap, sym, false, ℕ, List}
use Rattle.std.specs.BTreeSet.{contains}
use Rattle.std.specs.Ordering.{nat_cmp}
use Rattle.qp_chart.specs.StateTree.{has}
use Rattle.qp_check_kernel.proofs.LookLemmas.{look_numbers-none, looks-more}
use Rattle.qp_check_kernel.proofs.order_looks.looks.Goals as goal

pub loop-r-init : goal.loop-r-init
loop-r-init c k = let e : contains nat_cmp c.new-looks.result k ≡ false = search rules in e ∙ sym (ap (λ (l : List ℕ). has l k) look_numbers-none)

pub loop-r-preserved : goal.loop-r-preserved
loop-r-preserved c k =
    looks-more c.args.lane0.now c.loop-r.r-index c.r-item.result c.loop-r-test.true c.r-item.is c.look_number.result c.look_number.ensures
    k (contains nat_cmp c.add.new.looks k) (contains nat_cmp c.loop-r.looks k) (c.in_ok-add.ensures k) (c.loop-r.invariant k)
