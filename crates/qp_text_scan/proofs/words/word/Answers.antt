use Rattle.std.proofs.lemmas.Bool.Decides.{Decides-eqb}
use Rattle.std.proofs.lemmas.Slice.Eq.{strip_prefix_is}
use Rattle.qp_text_scan.proofs.words.word.Goals as goal

pub returns-clause-text : goal.returns-clause-text
returns-clause-text c =
    let found = strip_prefix_is Decides-eqb c.args.text.now c.as_bytes.result.now c.strip_prefix.result c.strip_prefix.ensures.cases in
    rw (← c.word_text.ensures.word, ← c.as_bytes.ensures.value) (rw c.in_ok-rest.was at found)
