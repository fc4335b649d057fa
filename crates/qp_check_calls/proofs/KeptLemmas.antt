-- Which records leave the deferred list as it is.
use Rattle.std.proofs.Common.{◌≡◌, ℕ, zero, suc, List, [], ◌++◌, Some, None, refl, inl, inr}
use Rattle.std.specs.declared.option.Option.{Option}
use Rattle.qp_model.specs.declared.bodies.Entry.{Entry}
use Rattle.qp_model.specs.Told.{Told}
use Rattle.qp_model.specs.Calls.{Answer, Granted, AtFront}
use Rattle.qp_model.specs.Shapes.{Drops, releases_by, MakesAgain, again_by, MakesAgainNow, PostsFront}
use Rattle.qp_model.specs.Deferral.{keep, kept_after}

module _ (room : ℕ) (kept : List Entry) where
  pub kept-drops : (e : Entry) (rel rest : List Told) → Drops e rel → kept_after room kept (rel ++ rest) ≡ kept_after room kept rest
  unfolding Drops kept_after keep
  kept-drops e rel rest h = by e.pool h
    where
      by : (p : ℕ) → releases_by p e rel → kept_after room kept (rel ++ rest) ≡ kept_after room kept rest
      by zero h = rw h refl
      by (suc p) (inl h) = rw h.2 refl
      by (suc p) (inr h) = rw h.2 refl

  pub kept-again : (old : Entry) (head rest : List Told) (e : Entry) → MakesAgain old head e → kept_after room kept (head ++ rest) ≡ kept_after room kept rest
  unfolding MakesAgain kept_after keep
  kept-again old head rest e h = by old.pool h
    where
      by : (p : ℕ) → again_by p old head e → kept_after room kept (head ++ rest) ≡ kept_after room kept rest
      by zero h = rw h.0 refl
      by (suc p) h = rw h.1 refl

  pub kept-now : (now : Option Entry) (head rest : List Told) (e : Entry) → MakesAgainNow now head e → kept_after room kept (head ++ rest) ≡ kept_after room kept rest
  unfolding MakesAgainNow
  kept-now None head rest e h = absurd h
  kept-now (Some old) head rest e h = kept-again old head rest e h

  pub kept-front : (o : ℕ) (e : Entry) (answer : Answer) (one rest : List Told) → PostsFront o [] e answer one
      → kept_after room kept (one ++ rest) ≡ kept_after room kept rest
  unfolding PostsFront kept_after keep
  kept-front o e Granted one rest h = rw h.3 refl
  kept-front o e AtFront one rest h = rw h.3 refl
  kept-front o e answer one rest h = absurd h
