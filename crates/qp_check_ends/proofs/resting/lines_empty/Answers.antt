use Rattle.std.proofs.Common.{◌∙◌, ◌==◌, ◌&&◌, ◌+◌, Bool, ap, sym, refl, length, drop}
use Rattle.std.specs.List.{list_all}
use Rattle.std.proofs.lemmas.List.{drop_all}
use Rattle.qp_model.specs.declared.systems.ObjectDef.{ObjectDef}
use Rattle.qp_model.specs.declared.systems.System.{System}
use Rattle.qp_model.specs.declared.words.Word.TheVariants as word
use Rattle.qp_model.specs.End.{lines_empty}
use Rattle.qp_model.specs.History.{all_items, hist}
use Rattle.qp_model.specs.Line.{line}
use Rattle.qp_model.specs.Machine.{after}
use Rattle.qp_model.specs.Sites.{ring_of}
use Rattle.qp_check_lanes.proofs.WalkLemmas.{rest_at}
use Rattle.qp_check_ends.proofs.resting.lines_empty.Goals as goal

pub loop-d-init : goal.loop-d-init
loop-d-init c = refl

pub loop-d-preserved : goal.loop-d-preserved
loop-d-preserved c =
    let p : ObjectDef → Bool = λ d. length (after (line (ring_of c.args.sys.now d.priority)) (hist (word.Queue d.priority) (all_items c.args.records.now))).entries == 0 in
    let xs = c.deref-d-items.result.now in
    let i = c.loop-d.d-index in
    sym (ap (list_all p) (rest_at xs i c.d-item.result c.loop-d-test.true c.d-item.is)
    ∙ ap (λ b. b && list_all p (drop (i + 1) xs)) (sym c.in_ok-line_is_empty.ensures ∙ c.if-not-branch.false))
    ∙ c.loop-d.invariant

pub returns-then-not-branch : goal.returns-then-not-branch
unfolding lines_empty
returns-then-not-branch c =
    let p : ObjectDef → Bool = λ d. length (after (line (ring_of c.args.sys.now d.priority)) (hist (word.Queue d.priority) (all_items c.args.records.now))).entries == 0 in
    let xs = c.deref-d-items.result.now in
    let i = c.loop-d.d-index in
    sym (ap (list_all p) (rest_at xs i c.d-item.result c.loop-d-test.true c.d-item.is)
    ∙ ap (λ b. b && list_all p (drop (i + 1) xs)) (sym c.in_ok-line_is_empty.ensures ∙ c.if-not-branch.true))
    ∙ c.loop-d.invariant ∙ ap (list_all p) (c.deref-d-items.ensures.value ∙ ap (λ (s : System). s.objects) c.sys.view_is)

pub returns : goal.returns
unfolding lines_empty
returns c =
    let p : ObjectDef → Bool = λ d. length (after (line (ring_of c.args.sys.now d.priority)) (hist (word.Queue d.priority) (all_items c.args.records.now))).entries == 0 in
    let xs = c.deref-d-items.result.now in
    sym (ap (list_all p) (drop_all c.loop-d.d-index xs c.loop-d-test.false))
    ∙ c.loop-d.invariant ∙ ap (list_all p) (c.deref-d-items.ensures.value ∙ ap (λ (s : System). s.objects) c.sys.view_is)
