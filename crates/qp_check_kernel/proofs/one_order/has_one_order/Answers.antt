use Rattle.std.proofs.Common.{rules, ◌≡◌, ◌∙◌, ◌&&◌, ◌||◌, [], not, ap, sym, map, List, true}
use Rattle.std.specs.Option.{option_map_or}
use Rattle.std.specs.List.{list_any}
use Rattle.std.specs.BTreeSet.{contains}
use Rattle.std.specs.Ordering.{nat_cmp}
use Rattle.qp_model.specs.Record.{Item}
use Rattle.qp_model.specs.History.{lane_items}
use Rattle.qp_model.specs.Ends.{ends_last, spills_in}
use Rattle.qp_model.specs.Places.{in_order}
use Rattle.qp_model.specs.OneOrder.{look_numbers, looks_right, stims_placed}
use Rattle.qp_check_kernel.specs.AsPlaced.{as_placed}
use Rattle.qp_check_kernel.specs.StimulusIndex.{parts_at}
use Rattle.qp_check_kernel.specs.OneOrder.{run_of, has_no_turn, last_of}
use Rattle.qp_check_kernel.proofs.ProgressLemmas.{turns-are}
use Rattle.qp_check_kernel.proofs.OneOrderLemmas.{one-order, placed-is, free-is, items-said, late-is}
use Rattle.qp_check_kernel.proofs.one_order.has_one_order.Goals as goal

pub returns : goal.returns
unfolding stims_placed
returns c =
    let r = run_of c.args.run.now.sys.now c.args.run.now.stimuli.now c.args.cuts c.args.lane0.now c.args.sources.now in
    let numbers = look_numbers (lane_items c.args.lane0.now) in
    let parts = parts_at c.args.run.now.index.now in
    let xs = c.deref.result.now in
    let e : c.if-stands.result ≡ (c.stims_stand-placed.result && c.in_ok-stands.stands && c.end_is_free-free.result) = search rules in
    rw e (one-order r c.stims_stand-placed.result c.in_ok-stands.stands c.end_is_free-free.result (map as_placed xs)
    (ap (map as_placed) c.deref.ensures.value ∙ c.order.view_is ∙ c.in_ok-order.ensures)
    (c.stims_stand-placed.ensures ∙ placed-is c.args.sources.now numbers (contains nat_cmp c.in_ok-looks.looks) c.in_ok-looks.ensures)
    (c.in_ok-stands.ensures r c.requires.run ∙ ap (λ (l : List Item). looks_right r [] (map as_placed xs) && in_order [] l && ends_last l) (sym (items-said xs)))
    (c.end_is_free-free.ensures
    ∙ ap (λ b. c.args.cuts || not b || option_map_or (has_no_turn parts) (last_of numbers) true) (c.requires.late ∙ late-is c.args.sources.now)
    ∙ ap (λ b. c.args.cuts || not (list_any spills_in r.sources) || b) (free-is r parts (turns-are c.args.run.now r c.requires.run) numbers)))
