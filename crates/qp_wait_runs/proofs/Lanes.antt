-- Lanes before a run are of its system, and have no records.
use Rattle.std.proofs.Common.{◌≡◌, ℕ, List, [], ◌∷◌, map}
use Rattle.std.specs.List.{AllByRecursion}
use Rattle.qp_model.specs.declared.stimulus.Stim.{Stim}
use Rattle.qp_model.specs.declared.systems.System.{System}
use Rattle.qp_model.specs.declared.systems.ObjectDef.{ObjectDef}
use Rattle.qp_calls.specs.LaneView.{LaneView}
use Rattle.qp_port_runs.specs.Handed.{AreNew, AreNewLanes}

module _ {L : Type 0} (see : L → LaneView) (sys : System) where
  later-of : (world : List ℕ) (ds : List ObjectDef) (more : List (List Stim)) (ls : List L) → AreNew sys world ds more (map see ls) → AllByRecursion (λ l. (see l).sys ≡ sys) ls
  later-of world (d ∷ ds) more (l ∷ ls) h = (h.0.of, later-of world ds more ls h.2)
  later-of world [] (ss ∷ more) (l ∷ ls) h = (h.0.of, later-of world [] more ls h.1)
  later-of world [] [] [] h = tt
  later-of world [] [] (l ∷ ls) h = absurd h
  later-of world (d ∷ ds) more [] h = absurd h
  later-of world [] (ss ∷ more) [] h = absurd h

  later-fresh : (world : List ℕ) (ds : List ObjectDef) (more : List (List Stim)) (ls : List L) → AreNew sys world ds more (map see ls) → AllByRecursion (λ l. (see l).told ≡ []) ls
  later-fresh world (d ∷ ds) more (l ∷ ls) h = (h.0.new.told, later-fresh world ds more ls h.2)
  later-fresh world [] (ss ∷ more) (l ∷ ls) h = (h.0.new.told, later-fresh world [] more ls h.1)
  later-fresh world [] [] [] h = tt
  later-fresh world [] [] (l ∷ ls) h = absurd h
  later-fresh world (d ∷ ds) more [] h = absurd h
  later-fresh world [] (ss ∷ more) [] h = absurd h

  pub all-fresh : (stimuli : List (List Stim)) (ls : List L) → AreNewLanes sys stimuli (map see ls) → AllByRecursion (λ l. (see l).told ≡ []) ls
  all-fresh stimuli [] h = absurd h
  all-fresh stimuli (l ∷ ls) h = (h.0.new.told, later-fresh (see l).world sys.objects stimuli ls h.1)

  pub all-of : (stimuli : List (List Stim)) (ls : List L) → AreNewLanes sys stimuli (map see ls) → AllByRecursion (λ l. (see l).sys ≡ sys) ls
  all-of stimuli [] h = absurd h
  all-of stimuli (l ∷ ls) h = (h.0.of, later-of (see l).world sys.objects stimuli ls h.1)
