use Rattle.std.proofs.Common.{◌≡◌, ℕ, true, List, [], ◌∷◌, Some, refl, sym, ◌∙◌}
use Rattle.qp_model.specs.declared.systems.System.{System}
use Rattle.qp_model.specs.Told.{Told}
use Rattle.qp_check_shapes.specs.declared.shape_stage.PublishStage.{PublishStage}
use Rattle.qp_check_shapes.specs.ShapePublication.{behind_stage, is_whole_publication}
use Rattle.qp_check_shapes.proofs.shape_publication.+behind_stage.Goals as goal

whole-leaves : (sys : System) (o : ℕ) (told : List Told) (s : PublishStage) → is_whole_publication s ≡ true → Some told ≡ behind_stage sys o told s
unfolding behind_stage
whole-leaves sys o [] s h = rw h refl
whole-leaves sys o (t ∷ ts) s h = rw h refl

pub returns-then-is_whole : goal.returns-then-is_whole
returns-then-is_whole t c = whole-leaves c.args.scene.now.sys.now c.args.scene.now.o c.args.told.now c.args.stage (sym c.is_whole.ensures ∙ c.if-is_whole.true)
