use Rattle.std.proofs.Common.{◌∙◌, ap, sym, ◌&&◌, ◌+◌, drop, Bool}
use Rattle.std.specs.List.{list_all}
use Rattle.qp_model.specs.Record.{item_of, Item}
use Rattle.qp_model.specs.History.{touch}
use Rattle.qp_check_words.specs.Marks.{shows_within}
use Rattle.qp_check_lanes.proofs.WalkLemmas.{rest_none, test_rest}
use Rattle.qp_check_words.proofs.judging.all_within.Goals as goal

pub returns-then-not-is_within : goal.returns-then-not-is_within
returns-then-not-is_within c =
    let p : Item → Bool = λ i. shows_within c.args.count (touch i) in
    let rest = test_rest (λ r. item_of r.now) c.touched.view_is c.deref-r-items.ensures.value c.loop-r.r-index c.r-item.result c.loop-r-test.true c.r-item.is p in
    sym (c.loop-r.invariant ∙ rest ∙ ap (λ b. b && list_all p (drop (c.loop-r.r-index + 1) c.args.touched.now)) (sym c.if-not-is_within.ensures))

pub loop-r-preserved : goal.loop-r-preserved
loop-r-preserved c =
    let p : Item → Bool = λ i. shows_within c.args.count (touch i) in
    let rest = test_rest (λ r. item_of r.now) c.touched.view_is c.deref-r-items.ensures.value c.loop-r.r-index c.r-item.result c.loop-r-test.true c.r-item.is p in
    c.loop-r.invariant ∙ rest ∙ ap (λ b. b && list_all p (drop (c.loop-r.r-index + 1) c.args.touched.now)) (sym c.if-not-is_within.ensures)

pub returns : goal.returns
returns c =
    let p : Item → Bool = λ i. shows_within c.args.count (touch i) in
    sym (c.loop-r.invariant ∙ ap (list_all p) (rest_none (λ r. item_of r.now) c.touched.view_is c.deref-r-items.ensures.value c.loop-r.r-index c.loop-r-test.false))
