-- In a word's history, each reference is made with a number below the word's count.
use Rattle.std.proofs.Common.{◌≡◌, ℕ, zero, suc, ◌≤◌, ◌<◌, ◌==◌, nat_lt, true, List, refl, ◌∙◌, arith}
use Rattle.std.specs.List.{filter, list_all}
use Rattle.std.proofs.lemmas.Bool.{and_from, and_parts}
use Rattle.std.proofs.lemmas.Bool.Decides.{nat_tests}
use Rattle.std.proofs.lemmas.List.Folds.{list_all-append}
use Rattle.qp_model.specs.declared.words.Word.{Word}
use Rattle.qp_model.specs.declared.words.Word.TheVariants as word
use Rattle.qp_model.specs.declared.bodies.Body.{Body}
use Rattle.qp_model.specs.declared.bodies.Body.TheVariants.{Inc}
use Rattle.qp_model.specs.Record.{Item}
use Rattle.qp_model.specs.History.{drawn_as, hist, numbered, same_word, total, touch, touch_of}
use Rattle.qp_model.proofs.HistoryLemmas.{filtered-pass}
use Rattle.qp_check_ends.specs.Resting.{makes_below}

below-made : (r n m : ℕ) → (suc r == suc n) ≡ true → n < m → nat_lt r m ≡ true
below-made r n m e lt = grind (arith, nat_tests)

drawn-below : (w : Word) (o n m : ℕ) (b : Body) → drawn_as w n (touch_of o b) ≡ true → n < m → makes_below m b ≡ true
drawn-below w o n m (Inc p b r) h lt = below-made r n m (and_parts (same_word (word.Block p b) w) (suc r == suc n) h).1 lt
drawn-below w o n m _ h lt = refl

numbered-below : (w : Word) (items : List Item) (n m : ℕ) → n ≤ m → list_all (λ i. makes_below m i.body) (numbered w items n) ≡ true
unfolding numbered
numbered-below w items zero m le = refl
numbered-below w items (suc n) m le =
    list_all-append (λ i. makes_below m i.body) (numbered w items n) (filter (λ i. drawn_as w n (touch i)) items)
    ∙ and_from _ _ (numbered-below w items n m (omega arith))
    (filtered-pass (λ i. makes_below m i.body) (λ i. drawn_as w n (touch i)) items (λ i drawn. drawn-below w i.of n m i.body drawn (omega arith)))

pub hist-below : (w : Word) (items : List Item) → list_all (λ i. makes_below (total w items) i.body) (hist w items) ≡ true
unfolding hist
hist-below w items = numbered-below w items (total w items) (total w items) (omega arith)
