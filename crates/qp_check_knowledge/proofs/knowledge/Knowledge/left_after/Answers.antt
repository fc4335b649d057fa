use Rattle.std.proofs.Common.{◌∙◌, ◌≤◌, length, ap, sym, subst, arith}
use Rattle.qp_model.specs.History.{all_items}
use Rattle.qp_check_knowledge.specs.KnownWords.{IsKnownBlock}
use Rattle.qp_check_knowledge.proofs.KnownFactLemmas.{left-at}
use Rattle.qp_check_knowledge.proofs.knowledge.Knowledge.left_after.Goals as goal

pub returns-in-Some : goal.returns-in-Some
returns-in-Some c =
    let known = c.requires.blocks_are c.args.p c.args.b c.in-Some.block.now (sym c.in-Some.ensures.value) in
    let few : length c.deref.result.now ≤ 18446744073709551615 = omega (arith, ap length c.deref.ensures.value, c.in-Some.block.now.left.ok.0) in
    c.number_at.ensures
    ∙ left-at c.args.self.now.sys.now c.args.self.now.journal.now c.deref.result.now c.args.p c.args.b c.args.d c.saturating_add-n.result c.saturating_add-n.ensures few
    (c.deref.ensures.value ∙ known.left)

pub returns-in_ok-block-in-None : goal.returns-in_ok-block-in-None
returns-in_ok-block-in-None c =
    let block = c.in_ok-block-in-None.block in
    let known : IsKnownBlock (all_items c.args.self.now.journal.now.lanes) c.args.p c.args.b block =
    subst (λ l. IsKnownBlock (all_items l) c.args.p c.args.b block) c.requires.same c.in_ok-block-in-None.ensures in
    let few : length c.deref-in-None.result.now ≤ 18446744073709551615 = omega (arith, ap length c.deref-in-None.ensures.value, block.left.ok.0) in
    c.number_at-in-None.ensures
    ∙ left-at c.args.self.now.sys.now c.args.self.now.journal.now c.deref-in-None.result.now c.args.p c.args.b c.args.d c.saturating_add-n.result c.saturating_add-n.ensures few
    (c.deref-in-None.ensures.value ∙ known.left)
