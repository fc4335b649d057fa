-- Where each block stands, and the end of a world.
use Rattle.std.proofs.Common.{◌≡◌, ◌≢◌, ℕ, zero, suc, ◌+◌, ◌<◌, ◌==◌, nat_lt, nat_le, Bool, true, false, not, ◌&&◌, ◌||◌, cond, List, [], ◌∷◌, ◌++◌, length, refl, sym, ◌∙◌, ap, subst, arith, IsTrue, inl, inr, Some, append_assoc}
use Rattle.std.specs.List.{list_all, find}
use Rattle.std.specs.Option.{is_some}
use Rattle.std.proofs.lemmas.Bool.{and_from, or_right}
use Rattle.std.proofs.lemmas.Bool.Decides.{nat_tests}
use Rattle.qp_chart.specs.StateTree.{has}
use Rattle.qp_model.specs.declared.record.Rec.{Rec}
use Rattle.qp_model.specs.declared.systems.System.{System}
use Rattle.qp_model.specs.declared.systems.ObjectDef.{ObjectDef}
use Rattle.qp_model.specs.declared.bodies.Entry.{Entry}
use Rattle.qp_model.specs.Lists.{all_below, without_one}
use Rattle.qp_model.specs.History.{all_items}
use Rattle.qp_model.specs.Sites.{object_at, blocks_of}
use Rattle.qp_model.specs.End.{lines_empty, names_on, same_numbers, block_rests, blocks_rest}
use Rattle.qp_model.specs.WordLaw.{is_block, is_object}
use Rattle.qp_model.proofs.ListLemmas.{all_below_from}
use Rattle.qp_calls.specs.Tokens.{Token, Held, Loose}
use Rattle.qp_calls.specs.Counting.{one_if, times, count_of}
use Rattle.qp_calls.specs.Deferring.{tokens_in}
use Rattle.qp_calls.proofs.CountLemmas.{count-with}
use Rattle.qp_plain_sound.specs.WordStates.{pool_in, life_in, refs_in, line_in}
use Rattle.qp_plain_sound.specs.Sound.{Sound, BlockIn, sum_below, queued, queues, entries_in, is_token_of, hands_in}
use Rattle.qp_plain_sound.specs.Ending.{BlockStands, IsFree, IsLoose, IsReferred, OnlyDeferred, stands_in}
use Rattle.qp_plain_sound.specs.Laws.{EveryBlockStands, QuietEndRests}
use Rattle.qp_plain_sound.proofs.Times.{has-times, times-without_one}
use Rattle.qp_plain_sound.proofs.Standing.{free-life, names-in}
use Rattle.qp_plain_sound.proofs.FreeLemmas.{length-without_one}
use Rattle.qp_model.proofs.LineLemmas.{same_number}
use Rattle.qp_model.proofs.NumberLemmas.{eqb-sym}

-- Where each block stands.
module _ (sys : System) (lanes : List (List Rec)) (hands : List Token) (sound : Sound sys lanes hands) (p b : ℕ) (h : IsTrue (is_block sys p b)) where
  ok : BlockIn sys lanes hands p b
  ok = sound.block p b h

  free_is : has (pool_in sys lanes p).free b ≡ not (life_in lanes p b).out
  free_is = free-life sys lanes sound.words p b h

  owned_none : (refs_in lanes p b).names ≡ [] → (r : ℕ) → stands_in sys lanes hands (Held p b r) ≡ 0
  unfolding times
  owned_none empty r = ok.owned r ∙ ap (times (λ x. x == r)) empty

  none_fresh : (n : ℕ) → (0 < n → ⊥) → n ≡ 0
  none_fresh zero never = refl
  none_fresh (suc n) never = absurd (never (omega arith))

  stands-free : (life_in lanes p b).out ≡ false → IsFree sys lanes hands p b
  stands-free out = record {
    free = free_is ∙ ap not out;
    loose = λ u. loose u;
    referred = owned_none (ok.idle out);
  }
    where
      loose : (u : Bool) → count_of (Loose p b u) hands ≡ 0
      loose false = none_fresh _ (λ some. let wrong : true ≡ false = sym (ok.fresh_is some).1 ∙ out in cc)
      loose true = none_fresh _ (λ some. let wrong : true ≡ false = sym (ok.used_is some).1 ∙ out in cc)

  stands-loose : (life_in lanes p b).out ≡ true → (refs_in lanes p b).names ≡ [] → IsLoose sys lanes hands p b
  stands-loose out empty = record {
    given = free_is ∙ ap not out;
    loose = ok.kept out empty;
    referred = owned_none empty;
  }

  stands-referred : (life_in lanes p b).out ≡ true → (refs_in lanes p b).names ≢ [] → IsReferred sys lanes hands p b
  stands-referred out some = record {
    given = free_is ∙ ap not out;
    some = some;
    loose = λ u. loose u;
    referred = ok.owned;
    once = (names-in sys lanes sound.words p b h).once;
  }
    where
      loose : (u : Bool) → count_of (Loose p b u) hands ≡ 0
      loose false = none_fresh _ (λ more. some (ok.fresh_is more).0)
      loose true = none_fresh _ (λ more. some (ok.used_is more).0)

  block-stands : BlockStands sys lanes hands p b
  block-stands = go (life_in lanes p b).out refl (refs_in lanes p b).names refl
    where
      go : (out : Bool) → (life_in lanes p b).out ≡ out → (names : List ℕ) → (refs_in lanes p b).names ≡ names → BlockStands sys lanes hands p b
      go false e names f = inl (inl (stands-free e))
      go true e [] f = inl (inr (stands-loose e f))
      go true e (x ∷ xs) f = inr (stands-referred e (λ empty. let wrong : x ∷ xs ≡ [] = sym f ∙ empty in cc))

pub every-block : EveryBlockStands
every-block sys lanes order world p b h = block-stands sys lanes (hands_in sys lanes order) world.sound p b h

-- Two lists of numbers in which each occurs as often.

times-has : (xs : List ℕ) (r : ℕ) → has xs r ≡ true → 0 < times (λ x. x == r) xs
unfolding times
times-has [] r h = absurd (cc)
times-has (x ∷ xs) r h = go (x == r) h (times-has xs r)
  where
    go : (u : Bool) → (u || has xs r) ≡ true → (has xs r ≡ true → 0 < times (λ y. y == r) xs) → 0 < one_if u + times (λ y. y == r) xs
    go true k later = omega arith
    go false k later = let n = later k in omega (arith, n)

first-occurs : (x : ℕ) (xs : List ℕ) → 0 < times (λ y. y == x) (x ∷ xs)
unfolding times
first-occurs x xs = rw (same_number x) (omega arith)

same-length : (xs ys : List ℕ) → ((r : ℕ) → times (λ x. x == r) xs ≡ times (λ x. x == r) ys) → length xs ≡ length ys
unfolding times
same-length [] [] same = refl
same-length [] (y ∷ ys) same = let none = same y in let some = first-occurs y ys in absurd (omega (arith, none, some))
same-length (x ∷ xs) ys same =
    let here : 0 < times (λ y. y == x) ys = subst (λ n. 0 < n) (same x) (first-occurs x xs) in
    let there = has-times ys x here in
    let shorter = same-length xs (without_one x ys) (λ r. let less = times-without_one ys x r there in let all = same r in omega (arith, less, all)) in
    let long = length-without_one ys x there in
    omega (arith, shorter, long)

all-has : (xs ys zs : List ℕ) → ((r : ℕ) → has xs r ≡ true → has ys r ≡ true) → ((r : ℕ) → has zs r ≡ true → has xs r ≡ true) → list_all (λ x. has ys x) zs ≡ true
all-has xs ys [] h k = refl
all-has xs ys (z ∷ zs) h k = and_from _ _ (h z (k z (rw (same_number z) refl))) (all-has xs ys zs h (λ r e. k r (rw e (or-true (z == r)))))
  where
    or-true : (u : Bool) → (u || true) ≡ true
    or-true true = refl
    or-true false = refl

pub numbers-same : (xs ys : List ℕ) → ((r : ℕ) → times (λ x. x == r) xs ≡ times (λ x. x == r) ys) → same_numbers xs ys ≡ true
numbers-same xs ys same =
    let long = same-length xs ys same in
    let lengths : (length xs == length ys) ≡ true = grind (arith, nat_tests) in
    and_from _ _ (and_from _ _ lengths (all-has xs ys xs (λ r e. has-times ys r (subst (λ n. 0 < n) (same r) (times-has xs r e))) (λ r e. e)))
    (all-has ys xs ys (λ r e. has-times xs r (subst (λ n. 0 < n) (sym (same r)) (times-has ys r e))) (λ r e. e))

-- The references of deferred entries.

names-tokens : (p b r : ℕ) → 0 < p → (es : List Entry) → count_of (Held p b r) (tokens_in es) ≡ times (λ x. x == r) (names_on p b es)
unfolding times names_on
names-tokens p b r some [] = refl
names-tokens p b r some (e ∷ es) =
    count-with (Held p b r) e (tokens_in es) ∙ go (e.pool == p) (e.block == b) (e.pool == 0) refl refl refl (names-tokens p b r some es)
  where
    go : (u v z : Bool) → (e.pool == p) ≡ u → (e.block == b) ≡ v → (e.pool == 0) ≡ z → count_of (Held p b r) (tokens_in es) ≡ times (λ x. x == r) (names_on p b es)
        → cond z 0 (one_if (((p == e.pool) && (b == e.block)) && (r == e.name))) + count_of (Held p b r) (tokens_in es)
        ≡ times (λ x. x == r) (cond (u && v) (e.name ∷ names_on p b es) (names_on p b es))
    go true v true eu ev ez later = let wrong : p ≡ 0 = grind (arith, nat_tests) in absurd (omega (arith, wrong, some))
    go true true false eu ev ez later = rw (eqb-sym p e.pool, eqb-sym b e.block, eu, ev, eqb-sym r e.name) (omega (arith, later))
    go true false false eu ev ez later = rw (eqb-sym p e.pool, eqb-sym b e.block, eu, ev) (omega (arith, later))
    go false v true eu ev ez later = omega (arith, later)
    go false v false eu ev ez later = rw (eqb-sym p e.pool, eu) (omega (arith, later))

pub none-loose : (p b : ℕ) (u : Bool) (es : List Entry) → count_of (Loose p b u) (tokens_in es) ≡ 0
unfolding times
none-loose p b u [] = refl
none-loose p b u (e ∷ es) = count-with (Loose p b u) e (tokens_in es) ∙ go (e.pool == 0) (none-loose p b u es)
  where
    go : (z : Bool) → count_of (Loose p b u) (tokens_in es) ≡ 0 → cond z 0 0 + count_of (Loose p b u) (tokens_in es) ≡ 0
    go true later = omega (arith, later)
    go false later = omega (arith, later)

-- A quiet end.
pub sum-none : (n : ℕ) (f : ℕ → ℕ) → ((a : ℕ) → f a ≡ 0) → sum_below n f ≡ 0
unfolding sum_below
sum-none zero f h = refl
sum-none (suc n) f h = let k = sum-none n f h in let z = h n in omega (arith, k, z)

module _ (sys : System) (lanes : List (List Rec)) (hands : List Token) (deferred : List Entry) (sound : Sound sys lanes hands) (only : OnlyDeferred sys lanes hands deferred) where
  none-queued : (t : Token) → queued sys lanes t ≡ 0
  unfolding queued entries_in times
  none-queued t = sum-none queues (λ a. times (is_token_of t) (entries_in sys lanes a)) (λ a. go a (is_object sys a) refl)
    where
      go : (a : ℕ) (u : Bool) → is_object sys a ≡ u → times (is_token_of t) (cond u (line_in sys lanes a).entries []) ≡ 0
      go a true e = ap (times (is_token_of t)) (only.queues a e)
      go a false e = refl

  rests : (p b : ℕ) → IsTrue (is_block sys p b) → 0 < p → block_rests sys (all_items lanes) deferred p b ≡ true
  unfolding block_rests pool_in refs_in
  rests p b h some = go (life_in lanes p b).out refl
    where
      names : (r : ℕ) → times (λ x. x == r) (refs_in lanes p b).names ≡ times (λ x. x == r) (names_on p b deferred)
      names r =
          let owned = (sound.block p b h).owned r in
          let none = none-queued (Held p b r) in
          let held = only.hands_are (Held p b r) in
          let same = names-tokens p b r some deferred in
          omega (arith, owned, none, held, same)

      go : (out : Bool) → (life_in lanes p b).out ≡ out → (has (pool_in sys lanes p).free b || same_numbers (refs_in lanes p b).names (names_on p b deferred)) ≡ true
      go out e = or_right _ _ (numbers-same (refs_in lanes p b).names (names_on p b deferred) names)

  abbrev pool_rests : ℕ → Bool
  pool_rests k = all_below (blocks_of sys (suc k)) (block_rests sys (all_items lanes) deferred (suc k))

  all-rest : blocks_rest sys (all_items lanes) deferred ≡ true
  unfolding blocks_rest is_block
  all-rest = all_below_from (length sys.pools) pool_rests (λ k lt. all_below_from (blocks_of sys (suc k)) (block_rests sys (all_items lanes) deferred (suc k))
      (λ b below. rests (suc k) b (block k b lt below) (omega arith)))
    where
      block : (k b : ℕ) → k < length sys.pools → b < blocks_of sys (suc k) → is_block sys (suc k) b ≡ true
      block k b lt below =
          let some : nat_lt 0 (suc k) ≡ true = grind (arith, nat_tests) in
          let few : nat_le (suc k) (length sys.pools) ≡ true = grind (arith, nat_tests) in
          let here : nat_lt b (blocks_of sys (suc k)) ≡ true = grind (arith, nat_tests) in
          and_from _ _ (and_from _ _ some few) here

find-there : (p : ObjectDef → Bool) (xs : List ObjectDef) (d : ObjectDef) (ys : List ObjectDef) → p d ≡ true → is_some (find p (xs ++ d ∷ ys)) ≡ true
find-there p [] d ys h = rw h refl
find-there p (x ∷ xs) d ys h = go (p x) (find-there p xs d ys h)
  where
    go : (u : Bool) → is_some (find p (xs ++ d ∷ ys)) ≡ true → is_some (cond u (Some x) (find p (xs ++ d ∷ ys))) ≡ true
    go true later = refl
    go false later = later

lines-none : (sys : System) (lanes : List (List Rec)) → ((a : ℕ) → IsTrue (is_object sys a) → (line_in sys lanes a).entries ≡ []) → (done left : List ObjectDef) → sys.objects ≡ done ++ left
    → list_all (λ d. length (line_in sys lanes d.priority).entries == 0) left ≡ true
unfolding is_object object_at
lines-none sys lanes empty done [] split = refl
lines-none sys lanes empty done (d ∷ left) split =
    let object : is_some (find (λ x. x.priority == d.priority) sys.objects) ≡ true = subst (λ xs. is_some (find (λ x. x.priority == d.priority) xs) ≡ true) (sym split)
    (find-there (λ x. x.priority == d.priority) done d left (same_number d.priority)) in
    let none : (line_in sys lanes d.priority).entries ≡ [] = empty d.priority object in
    and_from _ _ (ap (λ es. length es == 0) none)
    (lines-none sys lanes empty (done ++ d ∷ []) left (split ∙ sym (append_assoc done (d ∷ []) left)))

pub quiet-end : QuietEndRests
unfolding lines_empty line_in
quiet-end sys lanes hands deferred sound only = (lines-none sys lanes only.queues [] sys.objects refl, all-rest sys lanes hands deferred sound only)
