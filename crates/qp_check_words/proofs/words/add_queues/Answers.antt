use Rattle.std.proofs.Common.{◌≡◌, ◌∙◌, ap, sym, arith, map, ◌++◌}
use Rattle.std.specs.List.{filter}
use Rattle.qp_model.specs.Lists.{count_up}
use Rattle.qp_model.specs.declared.words.Word.TheVariants as word
use Rattle.qp_model.specs.WordLaw.{is_object}
use Rattle.qp_check_lanes.proofs.ShortListLemmas.{passed-more, passed-same}
use Rattle.qp_check_words.proofs.words.add_queues.Goals as goal
use Rattle.qp_check_words.proofs.words.add_queues.Goals.{then-is_object+in_ok-push, else-is_object}

pub loop-n-preserved : goal.loop-n-preserved
loop-n-preserved c = elim c.if-is_object.branch [
  | then-is_object+in_ok-push w ↦
      rw w.words-is
      (w.in_ok-push.ensures.items ∙ passed-more (λ a. word.Queue a) (λ a. is_object c.args.sys.now a) c.args.words.now.items c.loop-n.n c.loop-n.words.items c.loop-n.invariant (sym c.is_object.ensures ∙ w.if-is_object.true))
  | else-is_object w ↦
      rw w.words-is
      (passed-same (λ a. word.Queue a) (λ a. is_object c.args.sys.now a) c.args.words.now.items c.loop-n.n c.loop-n.words.items c.loop-n.invariant (sym c.is_object.ensures ∙ w.if-is_object.false))
]

pub returns : goal.returns
returns c =
    let all : c.loop-n.n ≡ 256 = omega (arith, c.loop-n-test.false, c.loop-n.auto.n-end) in
    c.loop-n.invariant ∙ ap (λ n. c.args.words.now.items ++ map (λ a. word.Queue a) (filter (λ a. is_object c.args.sys.now a) (count_up 0 n))) all
