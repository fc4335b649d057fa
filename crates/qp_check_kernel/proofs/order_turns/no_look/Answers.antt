use Rattle.std.proofs.Common.{rules, tests, ◌∙◌, sym, not}
use Rattle.std.specs.Option.{is_some}
use Rattle.std.proofs.lemmas.Iterator.{YieldsList-from_slice}
use Rattle.std.proofs.lemmas.Iterator.Search.{all_from_yields_List}
use Rattle.std.proofs.lemmas.List.Folds.{list_all-map}
use Rattle.qp_model.specs.OneOrder.{look_of, Placed}
use Rattle.qp_check_kernel.specs.AsPlaced.{as_placed, said_at}
use Rattle.qp_check_kernel.proofs.order_turns.no_look.Goals as goal

pub returns : goal.returns
returns c =
    all_from_yields_List (λ x. not (is_some (look_of (said_at x).body))) _ _ _ c.all.ensures.ran (YieldsList-from_slice c.args.after.now cc) (λ x b q k. search (rules, tests))
    ∙ sym (list_all-map (λ (x : Placed). not (is_some (look_of x.item.body))) as_placed c.args.after.now)
