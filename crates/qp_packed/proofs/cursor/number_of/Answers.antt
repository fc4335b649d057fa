use Rattle.std.proofs.Common.{◌∙◌}
use Rattle.qp_packed.proofs.NumberLemmas.{waits-some}
use Rattle.qp_packed.proofs.NumberReads.{reading-narrow, reading-wide, wide-more}
use Rattle.qp_packed.proofs.cursor.number_of.Goals as goal

pub cut-low-requires : goal.cut-low-requires
cut-low-requires c = waits-some c.requires.x c.requires.xs c.args.words.now c.requires.rest c.requires.words

pub returns-then-mark-eq0 : goal.returns-then-mark-eq0
returns-then-mark-eq0 c =
    λ x xs rest m w.
    let r = reading-narrow c.args.mark c.args.words.now c.cut-low.result.0 c.cut-low.result.1.now c.cut-low.ensures c.if-mark-eq0.true x xs rest m w in
    (c.from.ensures ∙ r.0, r.1, r.2)

pub cut-high-requires : goal.cut-high-requires
cut-high-requires c = wide-more c.args.mark c.args.words.now c.cut-low.result.0 c.cut-low.result.1.now c.cut-low.ensures c.if-mark-eq0.false c.requires

pub returns : goal.returns
returns c =
    λ x xs rest m w.
    let r = reading-wide c.args.mark c.args.words.now c.cut-low.result.0 c.cut-low.result.1.now c.cut-high.result.0 c.cut-high.result.1.now c.cut-low.ensures c.cut-high.ensures c.if-mark-eq0.false x xs rest m w in
    (rw (c.from-2.ensures, c.from-3.ensures) r.0, r.1, r.2)
