use Rattle.std.proofs.Common.{◌∷◌, [], List, length, ◌∙◌, ap, arith, length-append}
use Rattle.std.specs.List.{list_all}
use Rattle.qp_calls_log.specs.declared.log.Log.{Log}
use Rattle.qp_plain.specs.Fresh.{is_fresh_log}
use Rattle.qp_plain.proofs.FreshLemmas.{all-more, is-new}
use Rattle.qp_plain.proofs.tables.lanes.Goals as goal

pub loop-init : goal.loop-init
loop-init c = (ap (list_all is_fresh_log) c.new-logs.ensures.items, ap (λ (xs : List Log). length xs) c.new-logs.ensures.items)

pub loop-preserved : goal.loop-preserved
loop-preserved c =
    let e = c.in_ok-log.ensures in
    let more = c.in-Ok.ensures.items in
    let both = length-append c.loop.logs.items (c.in_ok-log.log ∷ []) in
    let long = ap (λ (xs : List Log). length xs) more in
    let old = c.loop.invariant.1 in
    (ap (list_all is_fresh_log) more ∙ all-more c.loop.logs.items c.in_ok-log.log c.loop.invariant.0 (is-new c.in_ok-log.log e.recs e.spare e.spilled e.stops e.answered), omega (arith, both, long, old))
