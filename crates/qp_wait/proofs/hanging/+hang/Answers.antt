use Rattle.std.proofs.Common.{◌≡◌, ◌++◌, ◌∷◌, [], Some, rules, sym, ◌∙◌, subst}
use Rattle.std.specs.Arc.{arc_value}
use Rattle.qp_wait.specs.declared.hanging.Waking.{Waking}
use Rattle.qp_wait.specs.declared.hanging.Rope.{Rope}
use Rattle.qp_wait.specs.Ropes.{AreRopes, IsRopeOf}
use Rattle.qp_wait.proofs.Saying.{ropes-last}
use Rattle.qp_wait.proofs.hanging.+hang.Goals as goal

pub hang-requires : goal.hang-requires
hang-requires t c =
    let w : Waking = record { object = c.in-Some.one.now.priority; waker = c.in-Ok-clone.waker } in
    let r : Rope = record { bell = Some c.in-Ok.bell; pass = c.in-Ok.pass } in
    let same : (arc_value c.in-Ok-clone.waker.state).shared.table_id ≡ (arc_value c.in-Ok.bell.unparker.state).shared.table_id = search rules in
    let own : c.in-Ok.pass.table_id ≡ (arc_value c.in-Ok.bell.unparker.state).shared.table_id = search rules in
    let one : IsRopeOf w r = record { pass = own ∙ sym same; bell = sym same } in
    let more : c.push.new.self.items ≡ c.args.wakers.now.items ++ w ∷ [] = search rules in
    let last : c.push-2.new.self.items ≡ c.args.ropes.now.items ++ r ∷ [] = search rules in
    let all = ropes-last c.args.wakers.now.items c.args.ropes.now.items w r one c.requires.ropes in
    (search rules, subst (λ xs. AreRopes xs c.push-2.new.self.items) (sym more) (subst (λ ys. AreRopes (c.args.wakers.now.items ++ w ∷ []) ys) (sym last) all))
