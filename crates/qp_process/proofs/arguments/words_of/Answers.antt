use Rattle.std.proofs.Common.{◌≡◌, ◌∙◌, sym, ap}
use Rattle.std.proofs.lemmas.Iterator.Adapters.{YieldsList-from_skip, YieldsList-from_vec}
use Rattle.std.proofs.lemmas.Iterator.Consumers.{YieldsList-end}
use Rattle.std.proofs.lemmas.List.{map-id}
use Rattle.std.specs.Vec.Iter.{into_iter_items, into_iter_len}
use Rattle.qp_process.proofs.arguments.words_of.Goals as goal

pub returns : goal.returns
returns c =
    let words = c.into_iter-word-iterator.result in
    let source : words.iter ≡ c.args.args = cc in
    let count : words.n ≡ 1 = cc in
    let args = YieldsList-from_vec {s = words.iter} _ (ap into_iter_items source) (ap into_iter_len source ∙ c.args.args.rest.ok.0) in
    let all = YieldsList-end (YieldsList-from_skip {s = words} 1 args count) c.loop-word.yielded c.loop-word.word-iterator c.loop-word.yielded_by c.next.result c.next.new.self c.in-None.is c.next.ensures.steps in
    c.loop-word.invariant ∙ sym (map-id c.loop-word.yielded) ∙ all.0
