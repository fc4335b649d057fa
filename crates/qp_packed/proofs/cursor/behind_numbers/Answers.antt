use Rattle.std.proofs.Common.{◌∙◌}
use Rattle.qp_packed.proofs.SkipLemmas.{skips, within}
use Rattle.qp_packed.proofs.cursor.behind_numbers.Goals as goal

pub words_from-requires : goal.words_from-requires
words_from-requires c = within c.args.mark c.args.words.now c.words_of.result c.requires (c.words_of.ensures c.requires.xs c.requires.few c.requires.marked)

pub returns : goal.returns
returns c = c.words_from.ensures ∙ skips c.args.mark c.args.words.now c.words_of.result c.requires (c.words_of.ensures c.requires.xs c.requires.few c.requires.marked)
