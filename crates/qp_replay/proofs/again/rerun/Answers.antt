use Rattle.std.proofs.Common.{◌≡◌, ◌∙◌, ℕ, suc, ◌+◌, List, length, map, take, drop, get_or, sym, ap, arith}
use Rattle.qp_replay.specs.declared.marks.At.{At}
use Rattle.qp_replay.specs.RerunLaws.{made}
use Rattle.qp_replay.specs.Rerun.{world_in}
use Rattle.qp_replay.proofs.Rerunning.{all-made, all-taken, begins, goes-next, lanes-few, lanes-some, made-next, one-more, place_of, split-at}
use Rattle.qp_replay.proofs.again.rerun.Goals as goal

pub count-requires : goal.count-requires
count-requires c = lanes-few c.args.sys.now c.args._stim.now c.args.j.now c.requires.sound c.requires.fit c.requires.lawful

pub new-requires-clause-some : goal.new-requires-clause-some
new-requires-clause-some c =
    let some = lanes-some c.args.sys.now c.args._stim.now c.args.j.now c.requires.lawful in
    omega (arith, some, c.count.ensures)

pub new-requires-clause-few : goal.new-requires-clause-few
new-requires-clause-few c =
    let few = lanes-few c.args.sys.now c.args._stim.now c.args.j.now c.requires.sound c.requires.fit c.requires.lawful in
    omega (arith, few, c.count.ensures)

pub loop-at-init : goal.loop-at-init
loop-at-init c =
    let new = c.in_ok-world.ensures in
    let long : c.count.result ≡ length c.args.j.now.lanes = c.count.ensures in
    record { sys_is = new.sys_is; made_is = begins c.args.sys.now c.args.j.now.lanes c.count.result c.in_ok-world.world new long; lanes_are = new.lanes ∙ long }

pub make-requires : goal.make-requires
make-requires c =
    let items : List At = c.deref-at-items.result.now in
    let i : ℕ = c.loop-at.at-index in
    let all : map place_of items ≡ c.args.order.now = ap (map place_of) c.deref-at-items.ensures.value ∙ c.order.view_is in
    let split = sym all ∙ split-at items i (record { lane = 0; place = 0 }) c.loop-at-test.true in
    let inv = c.loop-at.invariant in
    goes-next c.args.sys.now c.args._stim.now c.args.j.now c.args.order.now c.requires.sound c.requires.fit c.requires.lawful c.requires.serial
    (map place_of (take i items)) (map place_of (drop (suc i) items)) (place_of (get_or items i (record { lane = 0; place = 0 }))) split c.loop-at.world inv.sys_is inv.made_is inv.lanes_are

pub loop-at-preserved : goal.loop-at-preserved
loop-at-preserved c =
    let items : List At = c.deref-at-items.result.now in
    let i : ℕ = c.loop-at.at-index in
    let all : map place_of items ≡ c.args.order.now = ap (map place_of) c.deref-at-items.ensures.value ∙ c.order.view_is in
    let split = sym all ∙ split-at items i (record { lane = 0; place = 0 }) c.loop-at-test.true in
    let inv = c.loop-at.invariant in
    let step = c.in_ok-make.ensures in
    let up : suc i ≡ i + 1 = omega arith in
    let made_is =
    made-next c.args.sys.now c.args._stim.now c.args.j.now c.args.order.now c.requires.sound c.requires.fit c.requires.lawful c.requires.serial
    (map place_of (take i items)) (map place_of (drop (suc i) items)) (place_of (get_or items i (record { lane = 0; place = 0 }))) split (world_in c.loop-at.world) (world_in c.make.new.world) inv.made_is step.made in
    record {
      sys_is = step.sys ∙ inv.sys_is;
      made_is = made_is ∙ ap (made c.args.j.now.lanes) (one-more items i (record { lane = 0; place = 0 }) c.loop-at-test.true ∙ ap (λ k. map place_of (take k items)) up);
      lanes_are = step.lanes ∙ inv.lanes_are;
    }

pub returns : goal.returns
returns c =
    let items : List At = c.deref-at-items.result.now in
    let i : ℕ = c.loop-at.at-index in
    let all : map place_of items ≡ c.args.order.now = ap (map place_of) c.deref-at-items.ensures.value ∙ c.order.view_is in
    let inv = c.loop-at.invariant in
    all-made c.args.sys.now c.args._stim.now c.args.j.now c.args.order.now c.requires.sound c.requires.fit c.requires.lawful c.requires.serial
    c.loop-at.world inv.sys_is (inv.made_is ∙ ap (made c.args.j.now.lanes) (all-taken items i c.loop-at-test.false ∙ all))
