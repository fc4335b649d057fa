use Rattle.std.proofs.Common.{refl, subst}
use Rattle.std.specs.BTreeMap.{get}
use Rattle.qp_model.specs.History.{all_items}
use Rattle.qp_check_lanes.specs.Keys.{key_cmp}
use Rattle.qp_check_knowledge.specs.KnownWords.{IsKnownBlock}
use Rattle.qp_check_knowledge.proofs.KnownFactLemmas.{block-put}
use Rattle.qp_check_knowledge.proofs.knowledge.Knowledge.learn_block.Goals as goal

pub returns : goal.returns
returns c =
    let block = c.in_ok-block.block in
    let here = subst (λ l. IsKnownBlock (all_items l) c.args.p c.args.b block) c.requires.same c.in_ok-block.ensures in (
      record {
        same = c.requires.same;
        pools_are = c.requires.pools_are;
        blocks_are =
            block-put (all_items c.args.self.now.journal.now.lanes) (get key_cmp c.args.self.now.blocks) (get key_cmp c.insert.new.self) c.args.p c.args.b block c.in_ok-insert.ensures.updates.0 here c.requires.blocks_are;
        signals_are = c.requires.signals_are;
      },
      refl,
      refl,
    )
