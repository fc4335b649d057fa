use Rattle.std.proofs.Common.{◌-◌, ap, ◌∙◌}
use Rattle.qp_model.specs.declared.systems.System.{System}
use Rattle.qp_shared.proofs.Serving.{bits-for, no-bits-for, found-at, none-at}
use Rattle.qp_shared.proofs.shared.Shared.objects_for.Goals as goal

pub returns-in-Some : goal.returns-in-Some
returns-in-Some c = let e = c.in-Some.ensures.lookup in bits-for c.args.self.now.sys.now c.requires.sound c.args.port c.args.k c.in-Some.object.now c.if-not-port.false
    (found-at c.deref.result.now c.args.self.now.sys.now.objects (c.args.k - 1) c.in-Some.object.now (c.deref.ensures.value ∙ ap (λ (s : System). s.objects) c.sys.view_is) e.0 e.1)

pub returns-in-None : goal.returns-in-None
returns-in-None c = no-bits-for c.args.self.now.sys.now c.args.port c.args.k c.if-not-port.false (none-at c.deref.result.now c.args.self.now.sys.now.objects (c.args.k - 1) (c.deref.ensures.value ∙ ap (λ (s : System). s.objects) c.sys.view_is) c.in-None.ensures.lookup.0)
