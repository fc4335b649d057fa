use Rattle.std.proofs.Common.{◌∙◌, ap, max}
use Rattle.qp_kernel_turns.specs.Turning.{terms_of}
use Rattle.qp_kernel_turns.proofs.Tops.{floor-none, floor-some, floor-within}
use Rattle.qp_kernel_turns.proofs.turning.floor.Goals as goal

pub returns-in-None : goal.returns-in-None
returns-in-None c = floor-none c.args.at.now.sys.now (terms_of c.args.at.now) c.args.kernel.now.stack.items c.args.objects.now c.in-None.ensures

pub returns-then-at : goal.returns-then-at
returns-then-at c = floor-within c.args.at.now.sys.now (terms_of c.args.at.now) c.args.kernel.now.stack.items c.args.objects.now c.in-Some.p (c.requires.single c.if-at.true) c.if-at.true c.in-Some.ensures

pub returns-else-at : goal.returns-else-at
returns-else-at c = floor-some c.args.at.now.sys.now (terms_of c.args.at.now) c.args.kernel.now.stack.items c.args.objects.now c.in-Some.p c.max.result c.if-at.false c.requires.held c.in-Some.ensures (c.max.ensures ∙ ap (λ t. max t c.args.objects.now.ceiling) c.threshold.ensures)
