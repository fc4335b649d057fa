-- Words and ids are one to one.
use Rattle.std.proofs.Common.{◌≡◌, ℕ, zero, suc, ◌+◌, ◌-◌, ◌<◌, ◌≤◌, Bool, true, false, List, Option, Some, None, cond, refl, ap, arith}
use Rattle.std.specs.Prelude.{◌==◌}
use Rattle.std.specs.Str.{bytes_eq}
use Rattle.std.proofs.lemmas.Bool.{eqb-true}
use Rattle.std.proofs.lemmas.Slice.Eq.{bytes_eq-Decides}
use Rattle.qp_model.proofs.ListLemmas.{all_below_at}
use Rattle.qp_model.specs.Lists.{all_below}
use Rattle.qp_model.specs.Vocabulary.{word_text}
use Rattle.qp_model.specs.Output.{last_id}
use Rattle.qp_text.specs.LineItem.{id_from, id_of}
use Rattle.qp_text.proofs.SplitLemmas.{is_free}

-- the id that is found has the word
pub id_from-is : (left first id : ℕ) (word : List ℕ) → id_from left first word ≡ Some id
    → (word_text id ≡ word) × (first ≤ id) × (id < first + left)
id_from-is zero first id word is = absurd cc
id_from-is (suc left) first id word is = go (bytes_eq (word_text first) word) refl is (id_from-is left (first + 1) id word) where
  go : (here : Bool) → bytes_eq (word_text first) word ≡ here → cond here (Some first) (id_from left (first + 1) word) ≡ Some id
      → (id_from left (first + 1) word ≡ Some id → (word_text id ≡ word) × (first + 1 ≤ id) × (id < (first + 1) + left))
      → (word_text id ≡ word) × (first ≤ id) × (id < first + suc left)
  go true here is later =
      let at : first ≡ id = cc in
      (rw (← at) ((bytes_eq-Decides (word_text first) word).0 here), omega (arith, at), omega (arith, at))
  go false here is later = let there = later is in (there.0, omega (arith, there.1), omega (arith, there.2))

-- this id was found
is_id : ℕ → Option ℕ → Bool
is_id id None = false
is_id id (Some found) = found == id

is_id-found : (id : ℕ) (found : Option ℕ) → is_id id found ≡ true → found ≡ Some id
unfolding is_id
is_id-found id None is = absurd cc
is_id-found id (Some found) is = ap Some (eqb-true found id is)

-- the word of an id is read as this id
reads : ℕ → ℕ → Bool
reads last id = is_id id (id_from last 1 (word_text id))

reads_1 : all_below 45 (λ k. reads 45 (k + 1)) ≡ true
unfolding all_below reads is_id
reads_1 = refl

reads_2 : all_below 46 (λ k. reads 46 (k + 1)) ≡ true
unfolding all_below reads is_id
reads_2 = refl

id_from-word : (last : ℕ) → all_below last (λ k. reads last (k + 1)) ≡ true → (id : ℕ) → 1 ≤ id → id ≤ last → id_from last 1 (word_text id) ≡ Some id
unfolding reads
id_from-word last table id first past =
    let here : (id - 1) + 1 ≡ id = omega arith in
    is_id-found id (id_from last 1 (word_text id)) (rw here at (all_below_at last (λ k. reads last (k + 1)) table (id - 1) (omega arith)))

-- the word of an id is read as this id, in each form
pub id_of-word : (form id : ℕ) → 1 ≤ id → id ≤ last_id form → id_of form (word_text id) ≡ Some id
id_of-word form id first past = go (form == 2) first past where
  go : (is_2 : Bool) → 1 ≤ id → id ≤ cond is_2 46 45 → id_from (cond is_2 46 45) 1 (word_text id) ≡ Some id
  go true first past = id_from-word 46 reads_2 id first past
  go false first past = id_from-word 45 reads_1 id first past

-- no word has a space or a newline in it
free_of : ℕ → ℕ → Bool
free_of separator id = is_free separator (word_text id)

no_space : all_below 47 (free_of 32) ≡ true
unfolding all_below free_of
no_space = refl

no_newline : all_below 47 (free_of 10) ≡ true
unfolding all_below free_of
no_newline = refl

pub word-no_space : (id : ℕ) → id ≤ 46 → is_free 32 (word_text id) ≡ true
unfolding free_of
word-no_space id past = all_below_at 47 (free_of 32) no_space id (omega arith)

pub word-no_newline : (id : ℕ) → id ≤ 46 → is_free 10 (word_text id) ≡ true
unfolding free_of
word-no_newline id past = all_below_at 47 (free_of 10) no_newline id (omega arith)
