use Rattle.std.proofs.Common.{false, sym, ap, ◌∙◌}
use Rattle.std.specs.Option.{is_some, option_map_or}
use Rattle.std.specs.BTreeMap.{get}
use Rattle.std.specs.BTreeSet.{contains}
use Rattle.qp_check_lanes.specs.Keys.{key_cmp}
use Rattle.qp_replay.proofs.MarkLemmas.{take-has, take-none}
use Rattle.qp_replay.proofs.marks.Marks.take.Goals as goal

pub returns-in-Some : goal.returns-in-Some
returns-in-Some c = λ q e.
    let found = sym c.in-Some.ensures.value in
    take-has c.args.key q c.args.mark e (λ k. get key_cmp c.args.self.now.marks k) _ c.in-Some.row.now c.remove.new.self
    (((c.get_mut.follows.holds c.remove.new.self).3 (ap is_some found)).0 q) (c.remove.ensures.updates.0 e) found

pub returns-in-None : goal.returns-in-None
returns-in-None c = λ q e.
    ap (λ m. option_map_or (λ s. contains key_cmp s e) (get key_cmp m q) false) c.get_mut.follows.holds-at-none
    ∙ take-none c.args.key q c.args.mark e (λ k. get key_cmp c.args.self.now.marks k) (sym c.in-None.ensures.value)
