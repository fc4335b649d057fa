use Rattle.std.proofs.Common.{◌∷◌, refl, sym, ap, ◌∙◌}
use Rattle.qp_dispatch.specs.declared.objects.Turn.TheVariants as turn
use Rattle.qp_port.proofs.Coming.{first-taken}
use Rattle.qp_port.proofs.making.add.Goals as goal

pub returns : goal.returns
returns g c =
    let taken = first-taken c.args.lanes.now.items c.remove.result c.requires c.remove.ensures.value in
    record {
      one = record {
        lane = c.remove.result;
        job = c.args.job;
        turn = turn.Idle;
        number = c.in-Ok.number;
        sys = c.args.at.now.sys;
        budget = c.args.at.now.budget;
        gate = c.args.at.now.gate;
        turns = c.args.at.now.turns;
      };
      made = (record { sys_is = refl; budget_is = refl; idle = refl }, refl);
      now_are = c.in-Ok-push.ensures.items;
      lanes_are = taken ∙ ap (λ xs. c.remove.result ∷ xs) (sym c.remove.ensures.items);
    }
