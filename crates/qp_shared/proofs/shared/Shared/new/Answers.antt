use Rattle.std.proofs.Common.{◌≡◌, ap, sym, subst}
use Rattle.std.specs.List.{list_any}
use Rattle.qp_table.specs.Counting.{Each}
use Rattle.qp_table.specs.First.{IsFreshServe, first_serves}
use Rattle.qp_table.specs.Rule.{is_serve}
use Rattle.qp_table.specs.declared.view.View.{View}
use Rattle.qp_table.proofs.Start.{serves-fresh}
use Rattle.qp_model.specs.WordLaw.{is_object}
use Rattle.qp_shared.proofs.Serving.{all-served}
use Rattle.qp_shared.proofs.Roots.{new-root, new-side}
use Rattle.qp_shared.proofs.shared.Shared.new.Goals as goal

pub returns-clause-root : goal.returns-clause-root
returns-clause-root c = let sys = c.args.sys.now in let served = ap (λ (z : View). z.serves) c.in_ok-words.ensures.view in record {
  sound = c.requires.sound;
  root = record {
    own = c.in_ok-words.ensures.seat.0;
    beside = c.in_ok-side.ensures.seat.0;
    bare = c.in_ok-side.ensures.seat.2;
    table = new-root (first_serves sys 32) c.in_ok-words.seat.me.0 c.in_ok-words.ensures.view;
    side_table = new-side (first_serves sys 32) c.in_ok-words.seat.me.0 c.in_ok-side.root.me.0 c.in_ok-words.ensures.view c.in_ok-side.ensures.view;
    fresh = subst (Each IsFreshServe) (sym served) (serves-fresh sys 32);
  };
  serves = λ o. subst (λ xs. list_any (is_serve o) xs ≡ is_object sys o) (sym served) (all-served sys c.requires.sound o);
}
