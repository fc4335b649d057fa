-- What a record that may come does to its word: it draws the word's next number, or shows how many there were.
use Rattle.std.proofs.Common.{◌≡◌, suc, ◌≤◌, Bool, true, false, List, ◌∷◌, ◌++◌, length, refl, sym, ◌∙◌, ap, arith, IsTrue}
use Rattle.qp_model.specs.declared.words.Word.{Word}
use Rattle.qp_model.specs.Record.{Item}
use Rattle.qp_model.specs.History.{Touch, Draws, Shows, Neither, touch, same_word, mark_of, drawn_on, total, is_numbered}
use Rattle.qp_model.proofs.ListLemmas.{length_filter-insert, filter-insert_not}
use Rattle.qp_model.proofs.KnowingLemmas.{same_word-is}
use Rattle.qp_calls.specs.LaneView.{mark_or}

-- a record that draws the next number of a word, shows how many it had, or is on none
pub data Next (items : List Item) (t : Touch) : Type 0 where
  Drawing : (w : Word) → t ≡ Draws w (suc (total w items)) → IsTrue (is_numbered w items) → Next items t
  Showing : (w : Word) → t ≡ Shows w (total w items) → Next items t
  Silent : t ≡ Neither → Next items t

module _ (xs : List Item) (i : Item) (ys : List Item) where
  pub total-on : (w : Word) → drawn_on w (touch i) ≡ true → total w (xs ++ i ∷ ys) ≡ suc (total w (xs ++ ys))
  unfolding total
  total-on w on = length_filter-insert (λ j. drawn_on w (touch j)) xs i ys on

  pub total-off : (w : Word) → drawn_on w (touch i) ≡ false → total w (xs ++ i ∷ ys) ≡ total w (xs ++ ys)
  unfolding total
  total-off w off = ap length (filter-insert_not (λ j. drawn_on w (touch j)) xs i ys off)

  -- the number of a word's operations never falls
  pub total-rises : (w : Word) → total w (xs ++ ys) ≤ total w (xs ++ i ∷ ys)
  total-rises w = go (drawn_on w (touch i)) refl
    where
      go : (b : Bool) → drawn_on w (touch i) ≡ b → total w (xs ++ ys) ≤ total w (xs ++ i ∷ ys)
      go true k = let t = total-on w k in omega (arith, t)
      go false k = let t = total-off w k in omega (arith, t)

  -- where it doesn't rise, the record draws nothing of the word
  pub total-same : (w : Word) → total w (xs ++ i ∷ ys) ≡ total w (xs ++ ys) → drawn_on w (touch i) ≡ false
  total-same w same = go (drawn_on w (touch i)) refl
    where
      go : (b : Bool) → drawn_on w (touch i) ≡ b → b ≡ false
      go true k = let t = total-on w k in absurd (omega (arith, t, same))
      go false k = refl

  -- the marks of all words are the totals
  pub total-next : (v : Word) → Next (xs ++ ys) (touch i) → total v (xs ++ i ∷ ys) ≡ mark_or (total v (xs ++ ys)) (mark_of v (touch i))
  total-next v (Drawing w is numbers) = go (same_word w v) refl
    where
      go : (b : Bool) → same_word w v ≡ b → total v (xs ++ i ∷ ys) ≡ mark_or (total v (xs ++ ys)) (mark_of v (touch i))
      go true e =
          let w_is : w ≡ v = same_word-is w v e in
          let on : drawn_on v (touch i) ≡ true = rw (is, e) refl in
          let same : suc (total w (xs ++ ys)) ≡ suc (total v (xs ++ ys)) = ap (λ x. suc (total x (xs ++ ys))) w_is in
          total-on v on ∙ rw (is, e) (sym same)
      go false e =
          let off : drawn_on v (touch i) ≡ false = rw (is, e) refl in
          total-off v off ∙ rw (is, e) refl
  total-next v (Showing w is) = go (same_word w v) refl
    where
      go : (b : Bool) → same_word w v ≡ b → total v (xs ++ i ∷ ys) ≡ mark_or (total v (xs ++ ys)) (mark_of v (touch i))
      go true e =
          let w_is : w ≡ v = same_word-is w v e in
          let off : drawn_on v (touch i) ≡ false = rw is refl in
          total-off v off ∙ rw (is, e) (sym (ap (λ x. total x (xs ++ ys)) w_is))
      go false e =
          let off : drawn_on v (touch i) ≡ false = rw is refl in
          total-off v off ∙ rw (is, e) refl
  total-next v (Silent is) = let off : drawn_on v (touch i) ≡ false = rw is refl in total-off v off ∙ rw is refl
