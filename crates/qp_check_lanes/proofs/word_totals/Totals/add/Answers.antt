use Rattle.qp_model.specs.declared.words.Word.TheVariants as word
use Rattle.qp_check_lanes.proofs.word_totals.Totals.add.Goals as goal

pub add-requires : goal.add-requires
add-requires c q = c.requires (word.Pool q)

pub add-requires-in-Queue : goal.add-requires-in-Queue
add-requires-in-Queue c q = c.requires (word.Queue q)

pub add-requires-in-Signal : goal.add-requires-in-Signal
add-requires-in-Signal c q = c.requires (word.Signal q)

pub add-requires-in-Timer : goal.add-requires-in-Timer
add-requires-in-Timer c q = c.requires (word.Timer q)
