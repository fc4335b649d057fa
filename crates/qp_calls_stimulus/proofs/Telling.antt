-- What is told of a stimulus.
use Rattle.std.proofs.Common.{◌≡◌, ℕ, List, ◌∷◌, refl, subst, inl, inr}
use Rattle.qp_calls.specs.LaneView.{LaneView}
use Rattle.qp_calls_stimulus.specs.declared.doing.Stimulated.{Stimulated}
use Rattle.qp_calls_stimulus.specs.declared.doing.Stimulated.TheVariants as stimulated
use Rattle.qp_calls_stimulus.specs.Stimulating.{StimulusHalts, StimulusTells}

-- it has begun
pub tells-it : (place : ℕ) (v w : LaneView) (old new : List ℕ) (r : Stimulated) → new ≡ place ∷ old → StimulusTells place v w old new r
tells-it place v w old new stimulated.Done told = told
tells-it place v w old new stimulated.Tried told = told
tells-it place v w old new stimulated.Stopped told = inl told
tells-it place v w old new stimulated.Memory told = inl told

-- it hasn't
pub tells-none : (place : ℕ) (v u w : LaneView) (old : List ℕ) (r : Stimulated) → u ≡ v → StimulusHalts u w r → StimulusTells place v w old old r
tells-none place v u w old stimulated.Done same h = absurd h
tells-none place v u w old stimulated.Tried same h = absurd h
tells-none place v u w old stimulated.Stopped same h = inr (refl, subst (λ x. StimulusHalts x w stimulated.Stopped) same h)
tells-none place v u w old stimulated.Memory same h = inr (refl, subst (λ x. StimulusHalts x w stimulated.Memory) same h)
