use Rattle.std.proofs.Common.{◌≡◌, ◌∙◌, ap, Some}
use Rattle.std.specs.Prelude.{get_or, slice_get}
use Rattle.qp_model.specs.declared.systems.System.{System}
use Rattle.qp_kernel_turns.proofs.AllStarts.{got-is, may-start-next, starts-next}
use Rattle.qp_kernel_turns.proofs.objects.Objects.start_next.Goals as goal

pub start_one-answer-requires : goal.start_one-answer-requires
start_one-answer-requires g c =
    let at : slice_get c.args.sys.now.objects c.args.place ≡ Some c.index.result.now = got-is c.args.sys.now.objects c.args.place c.index.result.now c.index.result.now c.requires.place (c.index.ensures ∙ ap (λ (y : System). get_or y.objects c.args.place c.index.result.now) c.sys.view_is) in
    may-start-next c.args.sys.now c.requires.sound c.args.place c.index.result.now at c.args.self.now (g.O.Ops.lane c.args.ops.now) c.requires.begun

pub returns : goal.returns
returns g c =
    let at : slice_get c.args.sys.now.objects c.args.place ≡ Some c.index.result.now = got-is c.args.sys.now.objects c.args.place c.index.result.now c.index.result.now c.requires.place (c.index.ensures ∙ ap (λ (y : System). get_or y.objects c.args.place c.index.result.now) c.sys.view_is) in
    starts-next c.args.sys.now c.requires.sound c.args.place c.index.result.now at c.args.self.now (g.O.Ops.lane c.args.ops.now) c.requires.begun c.start_one-answer.new.ceiling c.start_one-answer.new.self
    (g.O.Ops.lane c.start_one-answer.new.ops) c.start_one-answer.result c.start_one-answer.ensures
