-- A refused post that does not drop its reference.
use Rattle.std.proofs.Common.{◌≡◌, ◌<◌, ℕ, zero, suc, nat_lt, refl, true, false, IsTrue, arith}
use Rattle.std.proofs.lemmas.Bool.Decides.{nat_tests}
use Rattle.qp_model.specs.declared.words.Word.TheVariants as word
use Rattle.qp_model.specs.History.{all_items, hist}
use Rattle.qp_model.specs.WordLaw.{is_block}
use Rattle.qp_model.specs.Lives.{has_lives, edges_empty}
use Rattle.qp_model.proofs.WordTestLemmas.{has_lives-is}
use Rattle.qp_model_rows.specs.Systems.{careful}
use Rattle.qp_model_rows.specs.Broken.{BreaksLives, LivesOf, numbers_stand, blocks_allowed}
use Rattle.qp_model_rows.specs.Journals.{not_dropped, not_dropped_lanes}

first_block : LivesOf not_dropped_lanes 1 0
unfolding has_lives hist all_items
first_block = has_lives-is 0 (hist (word.Pool 1) (all_items not_dropped_lanes)) (hist (word.Block 1 0) (all_items not_dropped_lanes)) refl

blocks_before : (c : ℕ) → IsTrue (nat_lt c 1) → LivesOf not_dropped_lanes 1 c
blocks_before zero below = first_block
blocks_before (suc c) below = let less : suc c < 1 = grind (arith, nat_tests, below) in absurd (omega (arith, less))

no_life : LivesOf not_dropped_lanes 1 1 → ⊥
unfolding edges_empty hist all_items
no_life h = let wrong : false ≡ true = h.empty in cc

pub broken : BreaksLives careful not_dropped 1 1
unfolding numbers_stand blocks_allowed is_block
broken = record {
  numbers = refl;
  blocks = refl;
  before = blocks_before;
  broken = no_life;
  unlawful = λ stimuli h. no_life (h.words.lives 1 1 refl);
}
