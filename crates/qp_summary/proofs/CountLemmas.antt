-- A record more is counted.
use Rattle.std.proofs.Common.{◌≡◌, ◌≢◌, ◌∙◌, ℕ, zero, suc, ◌+◌, ◌<◌, ◌≤◌, ◌&&◌, ◌==◌, nat_lt, min, Bool, true, false, cond, List, [], ◌∷◌, ◌++◌, length, get_or, refl, sym, ap, subst, Some, None, arith}
use Rattle.std.specs.Prelude.{slice_get, slice_set}
use Rattle.std.specs.declared.option.Option.{Option}
use Rattle.std.specs.Option.{is_some}
use Rattle.std.specs.List.{count_by}
use Rattle.std.proofs.lemmas.Bool.Decides.{nat_tests}
use Rattle.std.proofs.lemmas.List.{length-set}
use Rattle.std.proofs.lemmas.List.Sums.{sum_by-cons}
use Rattle.qp_model.specs.declared.bodies.Body.{Body}
use Rattle.qp_model.specs.declared.bodies.Body.TheVariants as body
use Rattle.qp_model.specs.KindSorts.{is_malformed, kind_in}
use Rattle.qp_model.specs.OutputSummary.{is_back_of, is_done_record, is_new_of, is_took}
use Rattle.qp_model.specs.Record.{Item}
use Rattle.qp_summary.specs.Counting.{AreBlocks, AreCounts, AreTurns, IsCountAt, IsTold, pool_gets_back, with_one_more, done_of, pool_gives, giver, most, taker, took_of}
use Rattle.qp_summary.specs.declared.turns.TurnCounts.{TurnCounts}
use Rattle.qp_summary.specs.declared.blocks.Blocks.{Blocks}
use Rattle.qp_model.proofs.NumberLemmas.{count-append}
use Rattle.qp_model.proofs.ListLemmas.{and-true}
use Rattle.qp_check_course.proofs.DoneLemmas.{one_if}

get-set : (xs : List ℕ) (k v n : ℕ) → slice_get (slice_set xs k v) k ≡ Some n → n ≡ v
get-set [] k v n h = absurd (cc)
get-set (x ∷ xs) zero v n h = cc
get-set (x ∷ xs) (suc k) v n h = get-set xs k v n h

get-other : (xs : List ℕ) (k q v : ℕ) → k ≢ q → slice_get (slice_set xs k v) q ≡ slice_get xs q
get-other [] k q v other = refl
get-other (x ∷ xs) zero zero v other = absurd (other refl)
get-other (x ∷ xs) zero (suc q) v other = refl
get-other (x ∷ xs) (suc k) zero v other = refl
get-other (x ∷ xs) (suc k) (suc q) v other = get-other xs k q v (λ e. other (ap suc e))

get-inside : (xs : List ℕ) (k n : ℕ) → slice_get xs k ≡ Some n → k < length xs
get-inside [] k n h = absurd (cc)
get-inside (x ∷ xs) zero n h = omega arith
get-inside (x ∷ xs) (suc k) n h = let less = get-inside xs k n h in omega (arith, less)

get-there : (xs : List ℕ) (k : ℕ) → k < length xs → slice_get xs k ≡ Some (get_or xs k 0)
get-there [] k lt = absurd (omega (arith, lt))
get-there (x ∷ xs) zero lt = refl
get-there (x ∷ xs) (suc k) lt = get-there xs k (omega (arith, lt))

more-counts : (test : Item → Bool) (items : List Item) (x : Item) (b : Bool) → test x ≡ b → count_by test (items ++ x ∷ []) ≡ count_by test items + one_if b
more-counts test items x b is =
    let whole = count-append test items (x ∷ []) in
    let last : count_by test (x ∷ []) ≡ one_if (test x) + 0 = sum_by-cons (λ (y : Item). cond (test y) 1 0) x [] in
    let its : one_if (test x) ≡ one_if b = ap one_if is in
    omega (arith, whole, last, its)

module _ (size : ℕ) (test : ℕ → Item → Bool) (counts : List ℕ) where
  module _ (items : List Item) (x : Item) (are : AreCounts size test counts items) where
    -- one that isn't counted
    pub counts-skip : ((k : ℕ) → test k x ≡ false) → AreCounts size test counts (items ++ x ∷ [])
    counts-skip none = record {
      many = are.many;
      each = λ k n at.
          let more : count_by (test k) (items ++ x ∷ []) ≡ count_by (test k) items + 0 = more-counts (test k) items x false (none k) in
          let old = are.each k n at in
          omega (arith, more, old);
    }

    counted-length : (number : ℕ) (inside : Bool) → length (cond inside (slice_set counts number (min (get_or counts number 0 + 1) most)) counts) ≡ size
    counted-length number true = length-set counts number (min (get_or counts number 0 + 1) most) ∙ are.many
    counted-length number false = are.many

    -- one of this number
    pub counts-more : (number : ℕ) → ((k : ℕ) → test k x ≡ (number == k)) → AreCounts size test (with_one_more counts number) (items ++ x ∷ [])
    counts-more number its = record {
      many = counted-length number (nat_lt number (length counts));
      each = λ k n at. by k n (nat_lt number (length counts)) refl (number == k) refl at;
    }
      where
        by : (k n : ℕ) (inside : Bool) → nat_lt number (length counts) ≡ inside → (same : Bool) → (number == k) ≡ same
            → slice_get (cond inside (slice_set counts number (min (get_or counts number 0 + 1) most)) counts) k ≡ Some n → n ≡ min (count_by (test k) (items ++ x ∷ [])) most
        by k n true inside true same at =
            let equal : number ≡ k = grind (arith, nat_tests, same) in
            let lt : number < length counts = grind (arith, nat_tests, inside) in
            let value : n ≡ min (get_or counts number 0 + 1) most =
            get-set counts number (min (get_or counts number 0 + 1) most) n (subst (λ q. slice_get (slice_set counts number (min (get_or counts number 0 + 1) most)) q ≡ Some n) (sym equal) at) in
            let old = are.each k (get_or counts number 0) (subst (λ q. slice_get counts q ≡ Some (get_or counts number 0)) equal (get-there counts number lt)) in
            let more : count_by (test k) (items ++ x ∷ []) ≡ count_by (test k) items + 1 = more-counts (test k) items x true (its k ∙ same) in
            omega (arith, value, old, more)
        by k n true inside false same at =
            let other : number ≢ k = λ e. let wrong : true ≡ false = (let yes : (number == k) ≡ true = grind (arith, nat_tests, e) in sym yes ∙ same) in absurd (cc) in
            let old = are.each k n (sym (get-other counts number k (min (get_or counts number 0 + 1) most) other) ∙ at) in
            let more : count_by (test k) (items ++ x ∷ []) ≡ count_by (test k) items + 0 = more-counts (test k) items x false (its k ∙ same) in
            omega (arith, old, more)
        by k n false inside true same at =
            let equal : number ≡ k = grind (arith, nat_tests, same) in
            let past : length counts ≤ number = grind (arith, nat_tests, inside) in
            let lt = get-inside counts k n at in
            absurd (omega (arith, equal, past, lt))
        by k n false inside false same at =
            let old = are.each k n at in
            let more : count_by (test k) (items ++ x ∷ []) ≡ count_by (test k) items + 0 = more-counts (test k) items x false (its k ∙ same) in
            omega (arith, old, more)

  -- what is told of a number
  pub told-of : (items : List Item) → AreCounts size test counts items → (k : ℕ) (o : Option ℕ) → IsCountAt counts k o → IsTold (nat_lt k size) (test k) items o
  told-of items are k None none = λ with_one_more.
      let lt : k < size = grind (arith, nat_tests, with_one_more) in
      let there = get-there counts k (subst (λ n. k < n) (sym are.many) lt) in
      let high = none (get_or counts k 0) there in
      let is = are.each k (get_or counts k 0) there in
      omega (arith, high, is)
  told-of items are k (Some n) at =
      let its = are.each k n at.0 in
      let less = at.1 in
      let lt = get-inside counts k n at.0 in
      let many = are.many in
      let inside : k < size = omega (arith, lt, many) in
      (grind (arith, nat_tests, inside), record { is = omega (arith, its, less); less = less })

-- What bodies say alone.

pub took-alone : (b : Body) → is_took b ≡ true → (is_malformed b ≡ false) × (kind_in b ≡ 5)
took-alone (body.Took f l m e) h = (refl, refl)
took-alone _ h = absurd (cc)

pub done-alone : (b : Body) → is_done_record b ≡ true → (is_malformed b ≡ false) × (kind_in b ≡ 14)
done-alone body.Done h = (refl, refl)
done-alone _ h = absurd (cc)

pub giver-alone : (b : Body) → is_some (giver b) ≡ true → (is_malformed b ≡ false) × (kind_in b ≡ 15)
giver-alone (body.New p n c from sig pars) h = (refl, refl)
giver-alone _ h = absurd (cc)

pub taker-alone : (b : Body) → is_some (taker b) ≡ true → (is_malformed b ≡ false) × (kind_in b ≡ 19)
taker-alone (body.Back p n c to) h = (refl, refl)
taker-alone _ h = absurd (cc)

pub none-of : (o : Option ℕ) → is_some o ≡ false → o ≡ None
none-of None h = refl
none-of (Some n) h = absurd (cc)

took-undone : (b : Body) → is_took b ≡ true → is_done_record b ≡ false
took-undone (body.Took f l m e) h = refl
took-undone _ h = absurd (cc)

given-is : (b : Body) (p k : ℕ) → giver b ≡ Some p → is_new_of k b ≡ (p == k)
given-is (body.New q n c from sig pars) p k h = let same : q ≡ p = cc in ap (λ x. x == k) same
given-is _ p k h = absurd (cc)

given-none : (b : Body) (k : ℕ) → giver b ≡ None → is_new_of k b ≡ false
given-none (body.New q n c from sig pars) k h = absurd (cc)
given-none _ k h = refl

given-unback : (b : Body) (p k : ℕ) → giver b ≡ Some p → is_back_of k b ≡ false
given-unback (body.New q n c from sig pars) p k h = refl
given-unback _ p k h = absurd (cc)

back-is : (b : Body) (p k : ℕ) → taker b ≡ Some p → is_back_of k b ≡ (p == k)
back-is (body.Back q n c to) p k h = let same : q ≡ p = cc in ap (λ x. x == k) same
back-is _ p k h = absurd (cc)

back-none : (b : Body) (k : ℕ) → taker b ≡ None → is_back_of k b ≡ false
back-none (body.Back q n c to) k h = absurd (cc)
back-none _ k h = refl

and-is : (a b c : Bool) → b ≡ c → (a && b) ≡ (a && c)
and-is a b c h = ap (λ x. a && x) h

and-false : (a : Bool) → (a && false) ≡ false
and-false true = refl
and-false false = refl

-- A record more, of each sort.
module _ (items : List Item) (x : Item) where
  pub took-more : (t u : TurnCounts) → is_took x.body ≡ true → u.taken ≡ with_one_more t.taken x.of → u.done ≡ t.done → AreTurns t items → AreTurns u (items ++ x ∷ [])
  took-more t u is taken done a = record {
    taken =
        subst (λ c. AreCounts 33 took_of c (items ++ x ∷ [])) (sym taken)
        (counts-more 33 took_of t.taken items x a.taken x.of (λ k. and-is (x.of == k) (is_took x.body) true is ∙ and-true (x.of == k)));
    done =
        subst (λ c. AreCounts 33 done_of c (items ++ x ∷ [])) (sym done)
        (counts-skip 33 done_of t.done items x a.done (λ k. and-is (x.of == k) (is_done_record x.body) false (took-undone x.body is) ∙ and-false (x.of == k)));
  }

  pub done-more : (t u : TurnCounts) → is_took x.body ≡ false → is_done_record x.body ≡ true → u.taken ≡ t.taken → u.done ≡ with_one_more t.done x.of → AreTurns t items → AreTurns u (items ++ x ∷ [])
  done-more t u untook is taken done a = record {
    taken =
        subst (λ c. AreCounts 33 took_of c (items ++ x ∷ [])) (sym taken)
        (counts-skip 33 took_of t.taken items x a.taken (λ k. and-is (x.of == k) (is_took x.body) false untook ∙ and-false (x.of == k)));
    done =
        subst (λ c. AreCounts 33 done_of c (items ++ x ∷ [])) (sym done)
        (counts-more 33 done_of t.done items x a.done x.of (λ k. and-is (x.of == k) (is_done_record x.body) true is ∙ and-true (x.of == k)));
  }

  pub turn-skip : (t : TurnCounts) → is_took x.body ≡ false → is_done_record x.body ≡ false → AreTurns t items → AreTurns t (items ++ x ∷ [])
  turn-skip t untook undone a = record {
    taken = counts-skip 33 took_of t.taken items x a.taken (λ k. and-is (x.of == k) (is_took x.body) false untook ∙ and-false (x.of == k));
    done = counts-skip 33 done_of t.done items x a.done (λ k. and-is (x.of == k) (is_done_record x.body) false undone ∙ and-false (x.of == k));
  }

  pub given-more : (size : ℕ) (b c : Blocks) (p : ℕ) → giver x.body ≡ Some p → c.given ≡ with_one_more b.given p → c.back ≡ b.back → AreBlocks size b items → AreBlocks size c (items ++ x ∷ [])
  given-more size b c p is given back a = record {
    given = subst (λ n. AreCounts size pool_gives n (items ++ x ∷ [])) (sym given) (counts-more size pool_gives b.given items x a.given p (λ k. given-is x.body p k is));
    back = subst (λ n. AreCounts size pool_gets_back n (items ++ x ∷ [])) (sym back) (counts-skip size pool_gets_back b.back items x a.back (λ k. given-unback x.body p k is));
  }

  pub back-more : (size : ℕ) (b c : Blocks) (p : ℕ) → giver x.body ≡ None → taker x.body ≡ Some p → c.given ≡ b.given → c.back ≡ with_one_more b.back p → AreBlocks size b items → AreBlocks size c (items ++ x ∷ [])
  back-more size b c p ungiven is given back a = record {
    given = subst (λ n. AreCounts size pool_gives n (items ++ x ∷ [])) (sym given) (counts-skip size pool_gives b.given items x a.given (λ k. given-none x.body k ungiven));
    back = subst (λ n. AreCounts size pool_gets_back n (items ++ x ∷ [])) (sym back) (counts-more size pool_gets_back b.back items x a.back p (λ k. back-is x.body p k is));
  }

  pub block-skip : (size : ℕ) (b : Blocks) → giver x.body ≡ None → taker x.body ≡ None → AreBlocks size b items → AreBlocks size b (items ++ x ∷ [])
  block-skip size b ungiven unback a = record {
    given = counts-skip size pool_gives b.given items x a.given (λ k. given-none x.body k ungiven);
    back = counts-skip size pool_gets_back b.back items x a.back (λ k. back-none x.body k unback);
  }
