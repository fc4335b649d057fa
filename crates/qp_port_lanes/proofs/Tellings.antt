-- What a source tells where its turn ends.
use Rattle.std.proofs.Common.{◌≡◌, ℕ, ◌+◌, List, [], ◌∷◌, ◌++◌, length, sym, ◌∙◌, ap, subst, arith, inl, inr}
use Rattle.qp_model.specs.declared.bodies.Body.TheVariants as body
use Rattle.qp_model.specs.Told.{for_object, plain}
use Rattle.qp_calls.specs.LaneView.{LaneView}
use Rattle.qp_calls.specs.Halting.{HaltsDry, HaltsFull}
use Rattle.qp_calls_stimulus.specs.declared.doing.Stimulated.TheVariants as stimulated
use Rattle.qp_dispatch.specs.declared.objects.Turn.{Turn}
use Rattle.qp_dispatch.specs.declared.objects.Turn.TheVariants as turn
use Rattle.qp_calls_stimulus.specs.Stimulating.{StimulusTells}
use Rattle.qp_told.specs.Steps.{TellsSteps}
use Rattle.qp_told.proofs.ToldLemmas.{tells-kept, tells-more}
use Rattle.qp_port_lanes.specs.declared.cursor.Cursor.{Cursor}
use Rattle.qp_port_lanes.specs.Tells.{BreakTells, EndTells, NotBegun, SourceTells, TurnEndTells}

full-none : (v u w : LaneView) → u.told ≡ v.told → HaltsFull u w → NotBegun v w
full-none v u w same h =
    inr (length u.told, ap (λ x. x.told) h.stops ∙ h.spills.told ∙ ap (λ ts. ts ++ for_object 0 (plain (body.Spill (length u.told))) ∷ []) same)

dry-none : (v u w : LaneView) → u.told ≡ v.told → HaltsDry u w → NotBegun v w
dry-none v u w same h = inl (ap (λ x. x.told) h.stops ∙ same)

pub ends-stopped : (place : ℕ) (v u w : LaneView) (old new : List ℕ) → u.told ≡ v.told → StimulusTells place u w old new stimulated.Stopped → EndTells place v w old new
ends-stopped place v u w old new same (inl told) = inl told
ends-stopped place v u w old new same (inr (none, full)) = inr (none, full-none v u w same full)

pub ends-memory : (place : ℕ) (v u w : LaneView) (old new : List ℕ) → u.told ≡ v.told → StimulusTells place u w old new stimulated.Memory → EndTells place v w old new
ends-memory place v u w old new same (inl told) = inl told
ends-memory place v u w old new same (inr (none, dry)) = inr (none, dry-none v u w same dry)

breaks-turn : (x y z : Cursor) (v w : LaneView) (old mid new : List ℕ) → TellsSteps x.begun y.begun old mid → z.begun ≡ y.begun → EndTells (y.begun + 1) v w mid new → BreakTells x z old new
breaks-turn x y z v w old mid new so_far same (inl told) =
    inr (tells-more x.begun y.begun (z.begun + 1) old mid new so_far (omega (arith, same)) (told ∙ ap (λ n. (n + 1) ∷ mid) (sym same)))
breaks-turn x y z v w old mid new so_far same (inr (none, begun)) =
    inl (subst (TellsSteps x.begun z.begun old) (sym none) (tells-kept x.begun y.begun z.begun old mid so_far same))

pub ends-turn : (x y z : Cursor) (v w : LaneView) (old mid new : List ℕ) (t : Turn) → TellsSteps x.begun y.begun old mid → z.begun ≡ y.begun → TurnEndTells (y.begun + 1) v w mid new t → SourceTells x z old new t
ends-turn x y z v w old mid new turn.Idle so_far same none = subst (TellsSteps x.begun z.begun old) (sym none) (tells-kept x.begun y.begun z.begun old mid so_far same)
ends-turn x y z v w old mid new turn.Stopped so_far same h = breaks-turn x y z v w old mid new so_far same h
ends-turn x y z v w old mid new turn.Memory so_far same h = breaks-turn x y z v w old mid new so_far same h
