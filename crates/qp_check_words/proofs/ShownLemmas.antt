-- What is shown of a word, by the records on it alone and by the number of operations that each shows.
use Rattle.std.proofs.Common.{◌≡◌, ℕ, zero, suc, ◌+◌, ◌^◌, ◌<◌, ◌≤◌, ◌==◌, nat_lt, nat_le, Bool, true, false, not, ◌&&◌, ◌||◌, List, [], ◌∷◌, length, take, refl, ap, sym, ◌∙◌, Some, None, arith}
use Rattle.std.specs.declared.option.Option.{Option}
use Rattle.std.specs.List.{filter, list_all}
use Rattle.std.proofs.Math.Bool.{and-true}
use Rattle.std.proofs.lemmas.Bool.Decides.{nat_tests}
use Rattle.qp_model.specs.declared.words.Word.{Word}
use Rattle.qp_model.specs.declared.bodies.Body.{Body}
use Rattle.qp_model.specs.Record.{Item}
use Rattle.qp_model.specs.History.{Touch, Draws, Shows, Neither, touch}
use Rattle.qp_model.specs.Machine.{Machine, after, after_from, shown_by}
use Rattle.qp_model.specs.WordOf.{fitting_number}
use Rattle.qp_check_lanes.specs.Groups.{has_key, of_key, grouped_from, grouped}
use Rattle.qp_check_words.specs.Marks.{word_use, touched, shown_number, shown_key, shows_within}
use Rattle.qp_check_lanes.specs.WordState.{shows_from}
use Rattle.qp_check_words.specs.Judging.{shown_of}
use Rattle.qp_check_words.proofs.NumberLemmas.{list_all_within}

list_all-and : (p q : Item → Bool) (xs : List Item) → (list_all p xs && list_all q xs) ≡ list_all (λ i. p i && q i) xs
list_all-and p q [] = refl
list_all-and p q (x ∷ xs) = swap (p x) (list_all p xs) (q x) (list_all q xs) ∙ ap (λ b. (p x && q x) && b) (list_all-and p q xs)
  where
    swap : (a b c d : Bool) → ((a && b) && (c && d)) ≡ ((a && c) && (b && d))
    swap true true c d = refl
    swap true false true d = refl
    swap true false false d = refl
    swap false b c d = refl

list_all-key : (k : ℕ) (says : Item → Bool) (xs : List Item) → list_all says (filter (λ i. has_key k (shown_key i)) xs) ≡ list_all (λ i. not (has_key k (shown_key i)) || says i) xs
list_all-key k says xs =
    list_all_within (λ i. not (has_key k (shown_key i)) || says i) (λ i. has_key k (shown_key i)) says (λ i h. rw h refl) (λ i h. rw h refl) xs

module _ {S : Type 0} (m : Machine S) where
  -- what is shown at place n of a history that begins at place k, where it is within
  told : ℕ → S → List Item → Body → Option ℕ → Bool
  told k s [] b key = not (has_key k key) || m.says s b
  told k s (i ∷ is) b key = (not (has_key k key) || m.says s b) && told (suc k) (m.next s i) is b key

  shows-told : (k : ℕ) (s : S) (h : List Item) (xs : List Item) → shows_from m s h (grouped_from shown_key k (suc (length h)) xs) ≡ list_all (λ i. told k s h i.body (shown_key i)) xs
  unfolding shows_from grouped_from of_key told
  shows-told k s [] xs = list_all-key k (λ i. m.says s i.body) xs
  shows-told k s (i ∷ is) xs =
      rw (list_all-key k (λ i. m.says s i.body) xs, shows-told (suc k) (m.next s i) is xs)
      (list_all-and (λ i. not (has_key k (shown_key i)) || m.says s i.body) (λ j. told (suc k) (m.next s i) is j.body (shown_key j)) xs)

  told-none : (k : ℕ) (s : S) (h : List Item) (b : Body) → told k s h b None ≡ true
  unfolding told
  told-none k s [] b = refl
  told-none k s (i ∷ is) b = told-none (suc k) (m.next s i) is b

  told-before : (k n : ℕ) (s : S) (h : List Item) (b : Body) → n < k → told k s h b (Some n) ≡ true
  unfolding told
  told-before k n s [] b lt = let no : (n == k) ≡ false = grind (arith, nat_tests) in rw no refl
  told-before k n s (i ∷ is) b lt = let no : (n == k) ≡ false = grind (arith, nat_tests) in rw no (told-before (suc k) n (m.next s i) is b (omega arith))

  told-at : (k j : ℕ) (s : S) (h : List Item) (b : Body) → j ≤ length h → told k s h b (Some (k + j)) ≡ m.says (after_from m s (take j h)) b
  unfolding told after_from
  told-at k zero s [] b le = let yes : (k + zero == k) ≡ true = grind (arith, nat_tests) in rw yes refl
  told-at k (suc j) s [] b le = absurd (omega arith)
  told-at k zero s (i ∷ is) b le =
      let yes : (k + zero == k) ≡ true = grind (arith, nat_tests) in
      rw (yes, told-before (suc k) (k + zero) (m.next s i) is b (omega arith)) (and-true (m.says s b))
  told-at k (suc j) s (i ∷ is) b le =
      let no : (k + suc j == k) ≡ false = grind (arith, nat_tests) in
      let e : k + suc j ≡ suc k + j = omega arith in
      rw no (ap (λ n. told (suc k) (m.next s i) is b (Some n)) e ∙ told-at (suc k) j (m.next s i) is b (omega arith))

  module _ (w : Word) (items : List Item) (h : List Item) (short : length h < 2 ^ 64) where
    here : (b : Body) (t : Touch) → word_use w t ≡ true → (shows_within (length h) t && told 0 m.first h b (shown_number t)) ≡ shown_by m w h b t
    unfolding shown_by after
    here b (Draws v n) e = told-none 0 m.first h b
    here b Neither e = cc
    here b (Shows v n) e = rw e (go (nat_le n (length h)) refl)
      where
        go : (c : Bool) → nat_le n (length h) ≡ c → (c && told 0 m.first h b (fitting_number n)) ≡ (c && m.says (after_from m m.first (take n h)) b)
        go false f = refl
        go true f =
            let fits : nat_lt n (2 ^ 64) ≡ true = grind (arith, nat_tests) in
            let le : n ≤ length h = grind (arith, nat_tests) in
            let e : n ≡ 0 + n = omega arith in
            rw fits (ap (λ k. told 0 m.first h b (Some k)) e ∙ told-at 0 n m.first h b le)

    elsewhere : (b : Body) (t : Touch) → word_use w t ≡ false → shown_by m w h b t ≡ true
    unfolding shown_by
    elsewhere b (Draws v n) e = refl
    elsewhere b Neither e = refl
    elsewhere b (Shows v n) e = rw e refl

    pub shown-touched : list_all (λ i. shown_by m w h i.body (touch i)) items ≡ shown_of m h (touched w items)
    unfolding shown_of grouped touched
    shown-touched =
        let e : length h + 1 ≡ suc (length h) = omega arith in
        sym (rw (e, shows-told 0 m.first h (filter (λ i. word_use w (touch i)) items))
        (list_all-and (λ i. shows_within (length h) (touch i)) (λ i. told 0 m.first h i.body (shown_key i)) (filter (λ i. word_use w (touch i)) items)
        ∙ list_all_within (λ i. shown_by m w h i.body (touch i)) (λ i. word_use w (touch i)) (λ i. shows_within (length h) (touch i) && told 0 m.first h i.body (shown_key i))
        (λ i q. here i.body (touch i) q) (λ i q. elsewhere i.body (touch i) q) items))
