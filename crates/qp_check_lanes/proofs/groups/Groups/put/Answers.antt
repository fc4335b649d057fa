use Rattle.std.proofs.Common.{◌∙◌, sym, ap, set, ◌++◌, ◌∷◌, []}
use Rattle.std.proofs.lemmas.Result.{on_ok_weaker}
use Rattle.qp_model.specs.Record.{item_of}
use Rattle.qp_check_lanes.proofs.GroupLemmas.{put_at-set, put_at-none}
use Rattle.qp_check_lanes.proofs.groups.Groups.put.Goals as goal
use Rattle.qp_check_lanes.proofs.groups.Groups.put.Goals.{in-Some, in-None}

pub returns : goal.returns
returns c = elim c.match-get_mut.branch [
  | in-Some w ↦
      let gs = c.self.inside.items.items in
      let i = item_of c.args.r.now in
      rw (w.result-is, w.self-inside-is, ← c.self.view_is)
      (on_ok_weaker w.put.result
      (λ e. ap (λ g. set gs c.args.k g) (e ∙ ap (λ h. h ++ i ∷ []) w.in-Some.ensures.value) ∙ put_at-set c.args.k i gs w.in-Some.group.now w.in-Some.ensures.item.3.0) w.put.ensures)
  | in-None w ↦
      rw (w.result-is, w.self-inside-is, ← c.self.view_is)
      (sym (put_at-none c.args.k (item_of c.args.r.now) c.self.inside.items.items w.in-None.ensures.item.3))
]
