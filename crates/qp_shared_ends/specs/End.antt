-- All hands at the end.
use Rattle.std.specs.Prelude.{◌≡◌, ◌<◌, List}
use Rattle.qp_model.specs.declared.bodies.Entry.{Entry}
use Rattle.qp_calls.specs.Tokens.{Token}
use Rattle.qp_table.specs.Counting.{many}
use Rattle.qp_table.specs.Rule.{is_entry}
use Rattle.qp_table.specs.declared.view.View.{View}
use Rattle.qp_table.specs.Lane.{tokens, tokens_of_view}

-- these are the tokens of the view, and none is a reference of pool 0
pub record AreHands (hands : List Token) (v : View) : Type 0 where
  pub counts : (t : Token) → tokens t hands ≡ tokens_of_view v t
  pub pooled : (e : Entry) → 0 < many (is_entry e) v.hands → 0 < e.pool
