-- Lists that were found empty.
use Rattle.std.proofs.Common.{◌≡◌, ◌==◌, Bool, true, List, [], length, sym, ◌∙◌, arith}
use Rattle.std.proofs.lemmas.Bool.Decides.{nat_tests}
use Rattle.std.proofs.lemmas.List.{nil_from_length}

pub found-empty : {X : Type 0} (b : Bool) (xs ys : List X) → b ≡ (length xs == 0) → xs ≡ ys → b ≡ true → ys ≡ []
found-empty b xs ys tests same is =
    let test : (length xs == 0) ≡ true = sym tests ∙ is in
    let zero : length xs ≡ 0 = grind (arith, nat_tests) in
    sym same ∙ nil_from_length xs zero
