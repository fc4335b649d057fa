use Rattle.std.proofs.Common.{◌∙◌, ℕ, List, ◌++◌, ◌∷◌, [], Option, Some, cond, sym, ap}
use Rattle.std.proofs.lemmas.Result.{on_ok_weaker}
use Rattle.std.specs.Option.{is_some, unwrap_or}
use Rattle.std.specs.BTreeMap.{get}
use Rattle.std.specs.Ordering.{is_eq}
use Rattle.qp_model.specs.Record.{Item, item_of}
use Rattle.qp_check_lanes.specs.Keys.{key_cmp}
use Rattle.qp_check_lanes.proofs.KeyLemmas.{row-more}
use Rattle.qp_check_lanes.proofs.rows.KeyedRecords.put.Goals as goal

pub returns-in-Some : goal.returns-in-Some
returns-in-Some c =
    let found = sym c.in-Some.ensures.value in
    let old : ℕ × ℕ × ℕ → Option (List Item) = λ k. get key_cmp c.args.self.now.rows k in
    on_ok_weaker c.put.result
    (λ longer q. row-more c.args.key q (item_of c.args.r.now) old _ c.put.new.self
    (((c.get_mut.follows.holds c.put.new.self).3 (ap is_some found)).0 q) (longer ∙ ap (λ o. unwrap_or o [] ++ item_of c.args.r.now ∷ []) (sym found)))
    c.put.ensures

pub returns-in_ok-insert-in-None : goal.returns-in_ok-insert-in-None
returns-in_ok-insert-in-None c =
    let old : ℕ × ℕ × ℕ → Option (List Item) = λ k. get key_cmp c.args.self.now.rows k in
    let row = c.put-in-None.new.self in
    let longer = c.in_ok-put-in-None.ensures ∙ ap (λ l. l ++ item_of c.args.r.now ∷ []) (c.new-row.ensures ∙ ap (λ (o : Option (List Item)). unwrap_or o []) c.in-None.ensures.value) in
    λ q. row-more c.args.key q (item_of c.args.r.now) old _ row
    (c.in_ok-insert-in-None.ensures.updates.0 q ∙ ap (λ m. cond (is_eq (key_cmp c.args.key q)) (Some row) (get key_cmp m q)) c.get_mut.follows.holds-at-none) longer
