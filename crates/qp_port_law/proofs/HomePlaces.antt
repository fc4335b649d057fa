-- Where the homes of objects are: the n-th object has lane n, counted from 1.
use Rattle.std.proofs.Common.{◌≡◌, ℕ, ◌+◌, ◌<◌, ◌==◌, true, List, [], ◌∷◌, ◌++◌, length, refl, subst, arith, Some}
use Rattle.std.specs.List.{position, AllByRecursion}
use Rattle.std.proofs.lemmas.Bool.Decides.{nat_tests}
use Rattle.std.proofs.lemmas.List.{length-append}
use Rattle.qp_model.specs.declared.systems.System.{System}
use Rattle.qp_model.specs.declared.systems.ObjectDef.{ObjectDef}
use Rattle.qp_model.specs.declared.journals.Journal.{Journal}
use Rattle.qp_model.specs.Kernels.{port}
use Rattle.qp_model.specs.Home.{home_of}
use Rattle.qp_model.proofs.HomeLemmas.{position-front, differ}

-- the home lane of an object
pub home-at : (sys : System) (j : Journal) → j.kernel ≡ port → (front : List ObjectDef) (d : ObjectDef) (rest : List ObjectDef) → front ++ d ∷ rest ≡ sys.objects
    → AllByRecursion (λ x. x.priority < d.priority) front → home_of sys j d.priority ≡ length front + 1
unfolding home_of
home-at sys j is_port front d rest at below =
    let self : (d.priority == d.priority) ≡ true = grind (arith, nat_tests) in
    let found : position (λ x. x.priority == d.priority) sys.objects ≡ Some (length front) =
    subst (λ xs. position (λ x. x.priority == d.priority) xs ≡ Some (length front)) at
    (position-front (λ x. x.priority == d.priority) front d rest (differ front d.priority below) self) in
    rw is_port (rw found refl)

pub next-count : (front : List ObjectDef) (d : ObjectDef) (n : ℕ) → n ≡ length front + 1 → n + 1 ≡ length (front ++ d ∷ []) + 1
next-count front d n here = let longer : length (front ++ d ∷ []) ≡ length front + 1 = length-append front (d ∷ []) in omega (arith, here, longer)
