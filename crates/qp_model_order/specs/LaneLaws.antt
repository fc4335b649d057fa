-- The law of words over lanes in another order.
use Rattle.std.specs.Prelude.{◌≡◌, Bool, List, [], ◌∷◌, ◌++◌, length, IsTrue, IsPermutation}
use Rattle.std.specs.List.{filter, AllByRecursion}
use Rattle.qp_model.specs.declared.record.Rec.{Rec}
use Rattle.qp_model.specs.declared.words.Word.{Word}
use Rattle.qp_model.specs.declared.systems.System.{System}
use Rattle.qp_model.specs.Record.{Item}
use Rattle.qp_model.specs.History.{all_items, hist, is_numbered}
use Rattle.qp_model.specs.WordLaw.{Words}

abbrev pub LanesStandInAnyOrder : Type 0
LanesStandInAnyOrder = (sys : System) (xs ys : List (List Rec)) → IsPermutation xs ys → Words sys xs → Words sys ys

abbrev pub NeighboursChangePlaces : Type 0
NeighboursChangePlaces = (sys : System) (before : List (List Rec)) (x y : List Rec) (behind : List (List Rec)) → Words sys (before ++ x ∷ y ∷ behind) → Words sys (before ++ y ∷ x ∷ behind)

-- added or left out at the end; with the law above, anywhere
abbrev pub EmptyLanesAreNoMatter : Type 0
EmptyLanesAreNoMatter = (sys : System) (xs : List (List Rec)) → (Words sys xs → Words sys (xs ++ [] ∷ [])) × (Words sys (xs ++ [] ∷ []) → Words sys xs)

abbrev pub HistoriesStayInAnyOrder : Type 0
HistoriesStayInAnyOrder = (w : Word) (xs ys : List (List Rec)) → IsPermutation xs ys → IsTrue (is_numbered w (all_items xs)) → IsTrue (is_numbered w (all_items ys)) × (hist w (all_items ys) ≡ hist w (all_items xs))

abbrev pub SameRecordsInAnyOrder : Type 0
SameRecordsInAnyOrder =
    (xs ys : List (List Rec)) → IsPermutation xs ys
    → ((p : Item → Bool) → length (filter p (all_items ys)) ≡ length (filter p (all_items xs))) × ((p : Item → Bool) → AllByRecursion (λ i. IsTrue (p i)) (all_items xs) → AllByRecursion (λ i. IsTrue (p i)) (all_items ys))
