use Rattle.std.proofs.Common.{◌≡◌, ◌∙◌, true, false, sym, arith}
use Rattle.std.specs.Str.{bytes_eq}
use Rattle.qp_model.specs.Vocabulary.{word_text}
use Rattle.qp_text.proofs.VocabularyLemmas.{id-next, id-none}
use Rattle.qp_text.proofs.items.id_of.Goals as goal

pub returns-then-eq-clause-id : goal.returns-then-eq-clause-id
returns-then-eq-clause-id c =
    let same : bytes_eq (word_text c.loop-id.id) c.args.word.now ≡ true =
    rw (← c.word_text.ensures.word, ← c.as_bytes.ensures.value, ← c.eq.ensures) c.if-eq.true in
    let here = rw same at (id-next c.last_id-last.result c.loop-id.id c.args.word.now c.loop-id-test.true) in
    rw (← c.last_id-last.ensures.value) (sym here ∙ c.loop-id.invariant.so_far)

pub loop-id-preserved : goal.loop-id-preserved
loop-id-preserved c =
    let other : bytes_eq (word_text c.loop-id.id) c.args.word.now ≡ false =
    rw (← c.word_text.ensures.word, ← c.as_bytes.ensures.value, ← c.eq.ensures) c.if-eq.false in
    let passed = rw other at (id-next c.last_id-last.result c.loop-id.id c.args.word.now c.loop-id-test.true) in
    record { so_far = sym passed ∙ c.loop-id.invariant.so_far; first = omega arith; past = omega arith }

pub returns-clause-id : goal.returns-clause-id
returns-clause-id c =
    rw (← c.last_id-last.ensures.value)
    (sym (id-none c.last_id-last.result c.loop-id.id c.args.word.now c.loop-id-test.false) ∙ c.loop-id.invariant.so_far)
