-- Starts, and what comes behind them.
use Rattle.std.proofs.Common.{◌≡◌, ℕ, zero, suc, ◌+◌, Bool, true, false, cond, List, [], ◌∷◌, ◌++◌, map, refl, sym, ◌∙◌, ap, subst, arith, append-nil}
use Rattle.std.proofs.lemmas.List.{map-append}
use Rattle.qp_model.specs.declared.bodies.Body.{Body}
use Rattle.qp_model.specs.declared.bodies.Body.TheVariants as body
use Rattle.qp_model.specs.History.{marks}
use Rattle.qp_model.specs.KernelLane.{role_of}
use Rattle.qp_model.specs.Record.{Item}
use Rattle.qp_model.specs.Told.{Told, ToldItem, for_object, plain, untold}
use Rattle.qp_model.proofs.KernelRowLemmas.{IsOwnRole}
use Rattle.qp_model_order.specs.SourceRun.{untold_all}
use Rattle.qp_kernel.specs.Turning.{spill_told}
use Rattle.qp_kernel.proofs.ToldPieces.{AreOwn}
use Rattle.qp_kernel.specs.Starts.{AreStarts, IsStartAlone, behind_starts, dones, up_to}
use Rattle.qp_model.specs.OutputSummary.{is_done_record}

-- a lane is its starts and what stands behind them
pub parts : (n : ℕ) (is : List Item) → up_to n is ++ behind_starts n is ≡ is
parts zero is = refl
parts (suc n) [] = refl
parts (suc n) (i ∷ is) = by (is_done_record i.body) (parts n is) (parts (suc n) is)
  where
    by : (b : Bool) → up_to n is ++ behind_starts n is ≡ is → up_to (suc n) is ++ behind_starts (suc n) is ≡ is → (i ∷ cond b (up_to n is) (up_to (suc n) is)) ++ cond b (behind_starts n is) (behind_starts (suc n) is) ≡ i ∷ is
    by true one more = ap (λ js. i ∷ js) one
    by false one more = ap (λ js. i ∷ js) more

-- starts to their end, with records behind them
pub starts-split : (n : ℕ) (xs ys : List Item) → behind_starts n xs ≡ [] → dones xs ≡ n → (up_to n (xs ++ ys) ≡ xs) × (behind_starts n (xs ++ ys) ≡ ys)
starts-split zero [] ys b d = (refl, refl)
starts-split zero (x ∷ xs) ys b d = absurd (cc)
starts-split (suc n) [] ys b d = absurd (omega (arith, d))
starts-split (suc n) (x ∷ xs) ys b d = by (is_done_record x.body) b d (λ k e. starts-split n xs ys k e) (λ k e. starts-split (suc n) xs ys k e)
  where
    by : (c : Bool) → cond c (behind_starts n xs) (behind_starts (suc n) xs) ≡ [] → cond c (suc (dones xs)) (dones xs) ≡ suc n
        → (behind_starts n xs ≡ [] → dones xs ≡ n → (up_to n (xs ++ ys) ≡ xs) × (behind_starts n (xs ++ ys) ≡ ys))
        → (behind_starts (suc n) xs ≡ [] → dones xs ≡ suc n → (up_to (suc n) (xs ++ ys) ≡ xs) × (behind_starts (suc n) (xs ++ ys) ≡ ys))
        → (x ∷ cond c (up_to n (xs ++ ys)) (up_to (suc n) (xs ++ ys)) ≡ x ∷ xs) × (cond c (behind_starts n (xs ++ ys)) (behind_starts (suc n) (xs ++ ys)) ≡ ys)
    by true b d one more = let k = one b (omega (arith, d)) in (ap (λ l. x ∷ l) k.0, k.1)
    by false b d one more = let k = more b d in (ap (λ l. x ∷ l) k.0, k.1)

-- behind so many starts to their end
pub behind-more : (n m r : ℕ) (xs ys : List Item) → r ≡ n + m → behind_starts n xs ≡ [] → dones xs ≡ n → behind_starts r (xs ++ ys) ≡ behind_starts m ys
behind-more zero m r [] ys e b d = let same : r ≡ m = omega (arith, e) in ap (λ k. behind_starts k ys) same
behind-more zero m r (x ∷ xs) ys e b d = absurd (cc)
behind-more (suc n) m r [] ys e b d = absurd (omega (arith, d))
behind-more (suc n) m zero (x ∷ xs) ys e b d = absurd (omega (arith, e))
behind-more (suc n) m (suc r) (x ∷ xs) ys e b d = by (is_done_record x.body) b d (λ k f. behind-more n m r xs ys (omega (arith, e)) k f) (λ k f. behind-more (suc n) m (suc r) xs ys e k f)
  where
    by : (c : Bool) → cond c (behind_starts n xs) (behind_starts (suc n) xs) ≡ [] → cond c (suc (dones xs)) (dones xs) ≡ suc n → (behind_starts n xs ≡ [] → dones xs ≡ n → behind_starts r (xs ++ ys) ≡ behind_starts m ys)
        → (behind_starts (suc n) xs ≡ [] → dones xs ≡ suc n → behind_starts (suc r) (xs ++ ys) ≡ behind_starts m ys) → cond c (behind_starts r (xs ++ ys)) (behind_starts (suc r) (xs ++ ys)) ≡ behind_starts m ys
    by true b d one more = one b (omega (arith, d))
    by false b d one more = more b d

plus-none : (n : ℕ) → n ≡ 0 + n
plus-none n = omega arith

dones-append : (xs ys : List Item) → dones (xs ++ ys) ≡ dones xs + dones ys
dones-append [] ys = plus-none (dones ys)
dones-append (x ∷ xs) ys = by (is_done_record x.body) (dones-append xs ys)
  where
    by : (c : Bool) → dones (xs ++ ys) ≡ dones xs + dones ys → cond c (suc (dones (xs ++ ys))) (dones (xs ++ ys)) ≡ cond c (suc (dones xs)) (dones xs) + dones ys
    by true e = omega (arith, e)
    by false e = e

-- so many starts, and more behind them
pub starts-then : (n m : ℕ) (xs ys : List Item) → AreStarts n xs → AreStarts m ys → AreStarts (n + m) (xs ++ ys)
starts-then n m xs ys one two = (behind-more n m (n + m) xs ys refl one.0 one.1 ∙ two.0, dones-append xs ys ∙ ap (λ k. k + dones ys) one.1 ∙ ap (λ k. n + k) two.1)

pub starts-none : AreStarts 0 []
starts-none = (refl, refl)

-- so many starts, and what came of one more
pub alone-then : (n m r : ℕ) (xs ys : List Item) → r ≡ n + m → AreStarts n xs → IsStartAlone m ys → IsStartAlone r (xs ++ ys)
alone-then n m r xs ys e one two w = ap (marks w) (behind-more n m r xs ys e one.0 one.1) ∙ two w

-- whole starts alone
pub starts-alone : (n : ℕ) (is : List Item) → AreStarts n is → IsStartAlone n is
starts-alone n is h w = ap (marks w) h.0

own-undone : (b : Body) → IsOwnRole (role_of b) → is_done_record b ≡ false
unfolding role_of
own-undone body.Done h = absurd h
own-undone _ h = refl

-- records of a start before its `done`
own-behind : (n o : ℕ) (g : List Told) (more : List Item) → AreOwn g → behind_starts (suc n) (untold_all (map (for_object o) g) ++ more) ≡ behind_starts (suc n) more
own-behind n o [] more own = refl
own-behind n o (t ∷ g) more own = ap (λ (c : Bool). cond c (behind_starts n (untold_all (map (for_object o) g) ++ more)) (behind_starts (suc n) (untold_all (map (for_object o) g) ++ more))) (own-undone t.body own.0) ∙ own-behind n o g more own.2

own-dones : (o : ℕ) (g : List Told) (more : List Item) → AreOwn g → dones (untold_all (map (for_object o) g) ++ more) ≡ dones more
own-dones o [] more own = refl
own-dones o (t ∷ g) more own = ap (λ (c : Bool). cond c (suc (dones (untold_all (map (for_object o) g) ++ more))) (dones (untold_all (map (for_object o) g) ++ more))) (own-undone t.body own.0) ∙ own-dones o g more own.2

items-append : (o : ℕ) (g : List Told) (ts : List ToldItem) → untold_all (map (for_object o) g ++ ts) ≡ untold_all (map (for_object o) g) ++ untold_all ts
items-append o g ts = map-append untold (map (for_object o) g) ts

done-item : (o : ℕ) (front : List Told) → untold_all (map (for_object o) (front ++ plain body.Done ∷ [])) ≡ untold_all (map (for_object o) front) ++ untold (for_object o (plain body.Done)) ∷ []
done-item o front = ap untold_all (map-append (for_object o) front (plain body.Done ∷ [])) ∙ items-append o front (for_object o (plain body.Done) ∷ [])

-- a start to its end
pub done-starts : (o : ℕ) (g front : List Told) → g ≡ front ++ plain body.Done ∷ [] → AreOwn front → AreStarts 1 (untold_all (map (for_object o) g))
done-starts o g front whole own = subst (λ x. AreStarts 1 (untold_all (map (for_object o) x))) (sym whole) (subst (AreStarts 1) (sym (done-item o front)) (
  own-behind 0 o front (untold (for_object o (plain body.Done)) ∷ []) own,
  own-dones o front (untold (for_object o (plain body.Done)) ∷ []) own,
))

-- one that asserts
pub own-alone : (n o : ℕ) (g : List Told) → AreOwn g → IsStartAlone (suc n) (untold_all (map (for_object o) g))
own-alone n o g own w = ap (λ is. marks w (behind_starts (suc n) is)) (sym (append-nil (untold_all (map (for_object o) g)))) ∙ ap (marks w) (own-behind n o g [] own)

-- one whose lane is full within it, or behind it
pub own-spills : (n o many : ℕ) (g : List Told) → AreOwn g → IsStartAlone (suc n) (untold_all (map (for_object o) g ++ spill_told many ∷ []))
own-spills n o many g own w = ap (λ is. marks w (behind_starts (suc n) is)) (items-append o g (spill_told many ∷ [])) ∙ ap (marks w) (own-behind n o g (untold (spill_told many) ∷ []) own)

pub done-spills : (n o many : ℕ) (g front : List Told) → g ≡ front ++ plain body.Done ∷ [] → AreOwn front → IsStartAlone (suc n) (untold_all (map (for_object o) g ++ spill_told many ∷ []))
done-spills n o many g front whole own w =
    let starts = done-starts o g front whole own in
    ap (λ is. marks w (behind_starts (suc n) is)) (items-append o g (spill_told many ∷ []))
    ∙ ap (marks w) (behind-more 1 n (suc n) (untold_all (map (for_object o) g)) (untold (spill_told many) ∷ []) (omega arith) starts.0 starts.1) ∙ by n
  where
    by : (m : ℕ) → marks w (behind_starts m (untold (spill_told many) ∷ [])) ≡ []
    by zero = refl
    by (suc m) = refl
