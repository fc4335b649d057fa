use Rattle.qp_model.specs.declared.words.Word.TheVariants as word
use Rattle.qp_check_lanes.proofs.word_totals.Totals.add_block.Goals as goal

pub add-requires : goal.add-requires
add-requires c q = rw (← c.in-Some.ensures.value) at (c.requires (word.Block c.args.p q))
