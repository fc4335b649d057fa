-- The event words of blocks: given out to be written, written, and read.
use Rattle.std.proofs.Common.{◌≡◌, ℕ, suc, ◌+◌, ◌-◌, ◌*◌, ◌<◌, ◌≤◌, ◌≢◌, ◌⊎◌, List, [], ◌∷◌, ◌++◌, Bool, true, false, cond, ◌&&◌, length, set, get_or, refl, sym, ap, subst, ◌∙◌, arith, eqb, eq-eqb, ne_eqb, eqb-true, true≢false, inl, inr, IsTrue, get_or-set_other, get_or-set_same}
use mathlib.Core.Option.{some}
use mathlib.Core.Logic.{dite}
use native.Mathlib.Decide.{ℕ_discrete}
use lib.ListN.{get_elem?}
use lib.Seq.{set-get_or}
use Rattle.atomic_table.proofs.Lists.{set_again}
use Rattle.std.proofs.lemmas.Bool.{and_parts}
use Rattle.qp_chart.specs.StateTree.{has}
use Rattle.qp_model.specs.declared.systems.System.{System}
use Rattle.qp_model.specs.FreeBlocks.{Pool}
use Rattle.qp_model.specs.WordLaw.{is_block}
use Rattle.qp_table.specs.Counting.{Each, sum_over, many, without}
use Rattle.qp_table.specs.Now.{Now, at_two, with_given}
use Rattle.qp_table.specs.Rule.{event_word_at, cell_at, is_fill, fills_of, fills_with, gives_of, IsContent, HasEvent, Tells, Beside, is_spot, spots, Tokens, Events, Holds}
use Rattle.qp_table.specs.After.{spot, begun_give, fills_for, filled}
use Rattle.qp_table.specs.declared.view.Fill.{Fill}
use Rattle.qp_table.specs.declared.view.PendingGive.{PendingGive}
use Rattle.qp_table.specs.declared.view.View.{View}
use Rattle.qp_table.proofs.Counting.{each-snoc, total-set, total-at, total-le, alone-total, many-snoc, many-without, total-append, cond-le}
use Rattle.qp_table.proofs.Growing.{two-here, two-else, two-each}
use Rattle.qp_table.proofs.Views.{total-two, quiet-same, fits-set, seen-kept}
use Rattle.qp_table.proofs.Tokens.{b2n, pair-else, spot-self, each-two, standing, held-stands, fresh-alone, tokens-set, begun-kept, worn-kept}
use Rattle.qp_table.proofs.Kept.{shows-else, queues-kept}
use Rattle.qp_table.proofs.Step.{plain-step}

pub two-same : {X : Type 0} (p b : ℕ) (f : ℕ → ℕ → X) (q c : ℕ) → at_two p b (f p b) f q c ≡ f q c
two-same p b f q c = two-each (λ q c x. x ≡ f q c) p b (f p b) f refl (λ q c n. refl) q c

total-times : (f : View → ℕ) (views : List View) → sum_over (λ (v : View). 9 * f v) views ≡ 9 * sum_over f views
total-times f [] = refl
total-times f (v ∷ views) = let s = total-times f views in omega arith

-- the words to be written of a new event
fills-else : (p b q c j k : ℕ) (ns : List ℕ) → (q ≢ p) ⊎ (c ≢ b) → (many (fills_of q c) (fills_for p b k ns) ≡ 0) × (many (is_fill q c j) (fills_for p b k ns) ≡ 0)
fills-else p b q c j k [] ne = (refl, refl)
fills-else p b q c j k (n ∷ ns) ne = let r = fills-else p b q c j (suc k) ns ne in let r0 = r.0 in let r1 = r.1 in let e : (eqb p q && eqb b c) ≡ false = pair-else p b q c ne in
    let a = ap b2n e in let d : b2n ((eqb p q && eqb b c) && eqb k j) ≡ 0 = ap (λ t. b2n (t && eqb k j)) e in (omega arith, omega arith)

value-else : (p b q c j m k : ℕ) (ns : List ℕ) → (q ≢ p) ⊎ (c ≢ b) → many (fills_with q c j m) (fills_for p b k ns) ≡ 0
value-else p b q c j m k [] ne = refl
value-else p b q c j m k (n ∷ ns) ne = let r = value-else p b q c j m (suc k) ns ne in let e : (eqb p q && eqb b c) ≡ false = pair-else p b q c ne in
    let d : b2n (((eqb p q && eqb b c) && eqb k j) && eqb n m) ≡ 0 = ap (λ t. b2n ((t && eqb k j) && eqb n m)) e in omega arith

fills-few : (p b k : ℕ) (ns : List ℕ) → many (fills_of p b) (fills_for p b k ns) ≤ length ns
fills-few p b k [] = omega arith
fills-few p b k (n ∷ ns) = let r = fills-few p b (suc k) ns in let c = cond-le (eqb p p && eqb b b) in omega arith

fills-there : (p b j k : ℕ) (ns : List ℕ) → k ≤ j → j < k + length ns → 0 < many (is_fill p b j) (fills_for p b k ns)
fills-there p b j k [] le lt = absurd (omega arith)
fills-there p b j k (n ∷ ns) le lt = dite (ℕ_discrete k j)
    (λ e. let s : (eqb p p && eqb b b) ≡ true = spot-self p b 0 in let d : b2n ((eqb p p && eqb b b) && eqb k j) ≡ 1 = (λ i. b2n (s i && eq-eqb k j e i)) in omega arith)
    (λ ne. let r = fills-there p b j (suc k) ns (omega arith) (omega arith) in omega arith)

value-before : (p b j m k : ℕ) (ns : List ℕ) → j < k → many (fills_with p b j m) (fills_for p b k ns) ≡ 0
value-before p b j m k [] lt = refl
value-before p b j m k (n ∷ ns) lt = let r = value-before p b j m (suc k) ns (omega arith) in
    let d : b2n (((eqb p p && eqb b b) && eqb k j) && eqb n m) ≡ 0 = off (eqb p p && eqb b b) (eqb k j) (eqb n m) (ne_eqb k j (λ e. omega arith)) in omega arith
  where
    off : (s t u : Bool) → t ≡ false → b2n ((s && t) && u) ≡ 0
    off true t u e = rw e refl
    off false t u e = refl

-- none has another value than the content's
value-right : (p b j m k : ℕ) (ns : List ℕ) → k ≤ j → m ≢ get_or ns (j - k) 0 → many (fills_with p b j m) (fills_for p b k ns) ≡ 0
value-right p b j m k [] le ne = refl
value-right p b j m k (n ∷ ns) le ne = dite (ℕ_discrete k j)
    (λ e. let z : j - k ≡ 0 = omega arith in let x : m ≢ n = subst (λ i. m ≢ get_or (n ∷ ns) i 0) z ne in
    let d : b2n (((eqb p p && eqb b b) && eqb k j) && eqb n m) ≡ 0 = off ((eqb p p && eqb b b) && eqb k j) (eqb n m) (ne_eqb n m (λ q. x (sym q))) in let r = value-before p b j m (suc k) ns (omega arith) in omega arith)
    (λ no. let z : j - k ≡ suc (j - suc k) = omega arith in let r = value-right p b j m (suc k) ns (omega arith) (subst (λ i. m ≢ get_or (n ∷ ns) i 0) z ne) in
    let d : b2n (((eqb p p && eqb b b) && eqb k j) && eqb n m) ≡ 0 = mid (eqb p p && eqb b b) (eqb k j) (eqb n m) (ne_eqb k j no) in omega arith)
  where
    off : (s u : Bool) → u ≡ false → b2n (s && u) ≡ 0
    off true u e = ap b2n e
    off false u e = refl

    mid : (s t u : Bool) → t ≡ false → b2n ((s && t) && u) ≡ 0
    mid true t u e = rw e refl
    mid false t u e = refl

module _ (sys : System) (words : List ℕ) (views : List View) (now : Now) (id : ℕ) (v : View) (at_id : get_elem? views id ≡ some v) (tokens : Tokens sys views now) (events : Events sys words views now) (p b : ℕ) where
  fills-fresh : sum_over (λ (z : View). many (fills_of p b) z.fills) views ≤ 9 * spots (λ z. z.fresh) views p b
  fills-fresh = let t = total-le (λ (z : View). many (fills_of p b) z.fills) (λ (z : View). 9 * many (is_spot p b) z.fresh) views (λ i z e. (events.beside i z e).fills p b) in let x = total-times (λ (z : View). many (is_spot p b) z.fresh) views in omega arith

fill-le : (p b j : ℕ) (xs : List Fill) → many (is_fill p b j) xs ≤ many (fills_of p b) xs
fill-le p b j [] = omega arith
fill-le p b j (x ∷ xs) = let r = fill-le p b j xs in let c = and-le (eqb x.pool p && eqb x.block b) (eqb x.place j) in omega arith
  where
    and-le : (s t : Bool) → b2n (s && t) ≤ b2n s
    and-le true t = cond-le t
    and-le false t = omega arith

value-le : (p b j n : ℕ) (xs : List Fill) → many (fills_with p b j n) xs ≤ many (fills_of p b) xs
value-le p b j n [] = omega arith
value-le p b j n (x ∷ xs) = let r = value-le p b j n xs in let c = and-le (eqb x.pool p && eqb x.block b) (eqb x.place j) (eqb x.value n) in omega arith
  where
    and-le : (s t u : Bool) → b2n ((s && t) && u) ≤ b2n s
    and-le true t u = cond-le (t && u)
    and-le false t u = omega arith

-- The block is given out, its words still to be written
module _ (sys : System) (words after : List ℕ) (views : List View) (now : Now) (id : ℕ) (v u : View) (at_id : get_elem? views id ≡ some v) (tokens : Tokens sys views now) (events : Events sys words views now) (p b from : ℕ) (s : Pool) (sig : ℕ) (pars : List ℕ) (content : IsContent sys sig pars) (short : length pars ≤ 8) (was : has (now.pool p).free b ≡ true) (block : is_block sys p b ≡ true) where
  abbrev next : Now
  next = with_given now p s b from (sig ∷ pars)

  tells-case : (g : PendingGive) (x y : Bool) → eqb p g.pool ≡ x → eqb b g.block ≡ y → gives_of p b g ≡ false → (g.pool ≢ p) ⊎ (g.block ≢ b)
  tells-case g true true e f other = let z : gives_of p b g ≡ true = (λ i. eq-eqb g.pool p (sym (eqb-true p g.pool e)) i && eq-eqb g.block b (sym (eqb-true b g.block f)) i) in absurd (true≢false (sym z ∙ other))
  tells-case g true false e f other = inr (λ q. absurd (true≢false (sym (eq-eqb b g.block (sym q)) ∙ f)))
  tells-case g false y e f other = inl (λ q. absurd (true≢false (sym (eq-eqb p g.pool (sym q)) ∙ e)))

  none-given : (g : PendingGive) (t : Bool) → gives_of p b g ≡ t → b2n t ≡ 0 → (g.pool ≢ p) ⊎ (g.block ≢ b)
  none-given g true e z = absurd (omega arith)
  none-given g false e z = tells-case g (eqb p g.pool) (eqb b g.block) refl refl e

  -- gives of other blocks know their contents still
  tells-else : (gs : List PendingGive) → many (gives_of p b) gs ≡ 0 → Each (Tells now) gs → Each (Tells next) gs
  tells-else [] z e = tt
  tells-else (g ∷ gs) z e = (e.0 ∙ sym (two-else p b (sig ∷ pars) now.content g.pool g.block (none-given g (gives_of p b g) refl (omega arith))), tells-else gs (omega arith) e.1)

  pub gave-events : (k : ℕ) → ((w : ℕ) → 12936 ≤ w → get_or after w 0 ≡ get_or words w 0) → u.fresh ≡ v.fresh ++ spot p b k ∷ [] → u.gives ≡ v.gives ++ begun_give p b (sig ∷ pars) ∷ [] → u.fills ≡ v.fills ++ fills_for p b 0 (sig ∷ pars) → Events sys after (set views id u) next
  gave-events k stay fresh gives fills =
      let here : next.content p b ≡ sig ∷ pars = two-here p b (sig ∷ pars) now.content in
      let else : (q c : ℕ) → (q ≢ p) ⊎ (c ≢ b) → next.content q c ≡ now.content q c = (λ q c n. two-else p b (sig ∷ pars) now.content q c n) in
      let gain : (t : Fill → Bool) → many t u.fills ≡ many t v.fills + many t (fills_for p b 0 (sig ∷ pars)) = (λ t. ap (many t) fills ∙ total-append (λ x. cond (t x) 1 0) v.fills (fills_for p b 0 (sig ∷ pars))) in
      let sum : (t : Fill → Bool) → sum_over (λ (z : View). many t z.fills) (set views id u) ≡ sum_over (λ (z : View). many t z.fills) views + many t (fills_for p b 0 (sig ∷ pars)) = (λ t. let a = total-set (λ (z : View). many t z.fills) views id v u at_id in let g = gain t in omega arith) in
      let unfresh : spots (λ z. z.fresh) views p b ≡ 0 = (let t = tokens.place p b in let f = ap b2n was in let k = ap b2n block in omega arith) in
      let unfilled : sum_over (λ (z : View). many (fills_of p b) z.fills) views ≡ 0 = (let f = fills-fresh sys words views now id v at_id tokens events p b in omega arith) in record {
        few = λ q c h. each-two (λ q c. IsTrue (is_block sys q c) → length (next.content q c) ≤ 9) p b (λ _. rw here (omega arith)) (λ q c n k. rw (else q c n) (events.few q c k)) q c h;
        word = λ q c j h l none_left. each-two (λ q c. IsTrue (is_block sys q c) → j < length (next.content q c) → sum_over (λ (z : View). many (is_fill q c j) z.fills) (set views id u) ≡ 0 → get_or after (event_word_at q c j) 0 ≡ get_or (next.content q c) j 0) p b
            (λ _ l gone. let lt : j < length (sig ∷ pars) = subst (λ (x : List ℕ). j < length x) here l in let t = fills-there p b j 0 (sig ∷ pars) (omega arith) (omega arith) in let g = sum (is_fill p b j) in absurd (omega arith))
            (λ q c n k l gone. stay (event_word_at q c j) (omega arith) ∙ (events.word q c j k (subst (λ (x : List ℕ). j < length x) (else q c n) l) (let g = sum (is_fill q c j) in omega arith) ∙ ap (λ (x : List ℕ). get_or x j 0) (sym (else q c n)))) q c h l none_left;
        right = λ q c j n ne. each-two (λ q c. n ≢ get_or (next.content q c) j 0 → sum_over (λ (z : View). many (fills_with q c j n) z.fills) (set views id u) ≡ 0) p b
            (λ no. let g = sum (fills_with p b j n) in let r = value-right p b j n 0 (sig ∷ pars) (omega arith) (λ e. no (e ∙ (let z : j - 0 ≡ j = omega arith in ap (λ i. get_or (sig ∷ pars) i 0) z) ∙ ap (λ (x : List ℕ). get_or x j 0) (sym here))) in
            let le = total-le (λ (z : View). many (fills_with p b j n) z.fills) (λ (z : View). many (fills_of p b) z.fills) views (λ i z e. value-le p b j n z.fills) in omega arith)
            (λ q c m no. let g = sum (fills_with q c j n) in let r = value-else p b q c j n 0 (sig ∷ pars) m in let o = events.right q c j n (λ e. no (e ∙ ap (λ (x : List ℕ). get_or x j 0) (sym (else q c m)))) in omega arith) q c ne;
        beside = fits-set (Beside now) (Beside next) views id u
            (λ j z ne there o. record { fills = o.fills; gives = o.gives; told = tells-else z.gives (let g = o.gives p b in let t = total-at (λ (y : View). many (is_spot p b) y.fresh) views j z there in omega arith) o.told })
            (let o = events.beside id v at_id in let mine = total-at (λ (y : View). many (is_spot p b) y.fresh) views id v at_id in
            let placed : (q c : ℕ) → many (is_spot q c) u.fresh ≡ many (is_spot q c) v.fresh + b2n (is_spot q c (spot p b k)) = (λ q c. ap (many (is_spot q c)) fresh ∙ many-snoc (is_spot q c) v.fresh (spot p b k)) in
            let given : (q c : ℕ) → many (gives_of q c) u.gives ≡ many (gives_of q c) v.gives + b2n (is_spot q c (spot p b k)) = (λ q c. ap (many (gives_of q c)) gives ∙ many-snoc (gives_of q c) v.gives (begun_give p b (sig ∷ pars))) in record {
              fills = each-two (λ q c. many (fills_of q c) u.fills ≤ 9 * many (is_spot q c) u.fresh) p b
                  (let f0 = o.fills p b in let g = gain (fills_of p b) in let f = fills-few p b 0 (sig ∷ pars) in let m = placed p b in let one = ap b2n (spot-self p b k) in omega arith)
                  (λ q c n. let f0 = o.fills q c in let g = gain (fills_of q c) in let f = (fills-else p b q c 0 0 (sig ∷ pars) n).0 in let m = placed q c in omega arith);
              gives = λ q c. let a = o.gives q c in let g = given q c in let m = placed q c in omega arith;
              told = subst (Each (Tells next)) (sym gives) (each-snoc (Tells next) v.gives (begun_give p b (sig ∷ pars)) (tells-else v.gives (let g = o.gives p b in omega arith) o.told) (sym here));
            })
            events.beside;
        event = λ q c h. each-two (λ q c. IsTrue (is_block sys q c) → HasEvent sys (next.content q c)) p b (λ _. subst (HasEvent sys) (sym here) content) (λ q c n k. subst (HasEvent sys) (sym (else q c n)) (events.event q c k)) q c h;
      }

both-fill : (p b j n : ℕ) (x : Fill) → fills_with p b j n x ≡ true → x ≡ record { pool = p; block = b; place = j; value = n }
both-fill p b j n x e = let t = and_parts ((eqb x.pool p && eqb x.block b) && eqb x.place j) (eqb x.value n) e in let s = and_parts (eqb x.pool p && eqb x.block b) (eqb x.place j) t.0 in let r = and_parts (eqb x.pool p) (eqb x.block b) s.0 in
    λ i. record { pool = eqb-true x.pool p r.0 i; block = eqb-true x.block b r.1 i; place = eqb-true x.place j s.1 i; value = eqb-true x.value n t.1 i }

without-cons : (p q : Fill → Bool) (t : Bool) (x : Fill) (xs : List Fill) → many q (without p xs) ≤ many q xs → many q (cond t xs (x ∷ without p xs)) ≤ b2n (q x) + many q xs
without-cons p q true x xs h = omega arith
without-cons p q false x xs h = omega arith

without-le : (p q : Fill → Bool) (xs : List Fill) → many q (without p xs) ≤ many q xs
without-le p q [] = omega arith
without-le p q (x ∷ xs) = without-cons p q (p x) x xs (without-le p q xs)

module _ (sys : System) (words : List ℕ) (views : List View) (holds : Holds sys words views) (id : ℕ) (v : View) (at_id : get_elem? views id ≡ some v) (p b : ℕ) (block : IsTrue (is_block sys p b)) where
  abbrev now : Now
  now = holds.now

  -- Who holds a reference reads what the block was given last
  pub reads : (k j : ℕ) → 0 < many (λ x. (eqb x.pool p && eqb x.block b) && eqb x.name k) v.hands → j < length (now.content p b) → get_or words (event_word_at p b j) 0 ≡ get_or (now.content p b) j 0
  reads k j mine l =
      let z = holds.fitting.pools p b block in let there = held-stands sys views now id v at_id holds.tokens p b k z.0 mine in let alone = standing sys views now id v at_id holds.tokens p b k there in
      let f = fills-fresh sys words views now id v at_id holds.tokens holds.events p b in let o = alone.3 in
      let le = total-le (λ (z : View). many (is_fill p b j) z.fills) (λ (z : View). many (fills_of p b) z.fills) views (λ i z e. fill-le p b j z.fills) in
      holds.events.word p b j block l (omega arith)

  -- An event word is written by the lane that was given the block
  pub fills : (j n : ℕ) → j < 9 → 0 < many (fills_with p b j n) v.fills → Holds sys (set words (event_word_at p b j) n) (set views id (filled v p b j n))
  fills j n low mine =
      let u : View = filled v p b j n in let wd = holds.shows.wide in let z = holds.fitting.pools p b block in let z1 = z.1 in let z2 = z.2 in
      let value_is : n ≡ get_or (now.content p b) j 0 = dite (ℕ_discrete n (get_or (now.content p b) j 0)) (λ e. e) (λ ne. let r = holds.events.right p b j n ne in let t = total-at (λ (z : View). many (fills_with p b j n) z.fills) views id v at_id in absurd (omega arith)) in
      let less : (t : Fill → Bool) → many t (without (fills_with p b j n) v.fills) ≤ many t v.fills = (λ t. without-le (fills_with p b j n) t v.fills) in
      let sum : (t : Fill → Bool) → sum_over (λ (z : View). many t z.fills) (set views id u) ≤ sum_over (λ (z : View). many t z.fills) views = (λ t. let a = total-set (λ (z : View). many t z.fills) views id v u at_id in let m = less t in omega arith) in
      let low_words : (y : ℕ) → y < 4488 → get_or (set words (event_word_at p b j) n) y 0 ≡ get_or words y 0 = (λ y l. get_or-set_other words (event_word_at p b j) y n 0 (λ e. absurd (omega arith))) in
      plain-step sys words (set words (event_word_at p b j) n) views holds id v u at_id holds.items
      (shows-else sys holds.fitting words now holds.shows (event_word_at p b j) n (omega arith))
      (tokens-set sys views now now id v u at_id holds.tokens (λ q c. refl) (λ q c k l. refl)
      (begun-kept sys views now now id v u at_id holds.tokens refl (λ q c. refl) (λ q c. refl)) (worn-kept sys views now now id v u at_id holds.tokens refl (λ q c. refl) (λ q c. refl)) holds.tokens.named)
      (record {
        few = holds.events.few;
        word = λ q c i h l gone. dite (ℕ_discrete (event_word_at q c i) (event_word_at p b j))
            (λ e. let y = holds.fitting.pools q c h in let y1 = y.1 in let y2 = y.2 in let fw = holds.events.few q c h in let same_p : q ≡ p = omega arith in let same_b : c ≡ b = omega arith in let same_i : i ≡ j = omega arith in
            subst (λ (x : ℕ). get_or (set words (event_word_at p b j) n) x 0 ≡ get_or (now.content q c) i 0) (sym e)
            (get_or-set_same words (event_word_at p b j) n 0 (omega arith) ∙ (value_is ∙ (λ t. get_or (now.content (sym same_p t) (sym same_b t)) (sym same_i t) 0))))
            (λ ne. get_or-set_other words (event_word_at p b j) (event_word_at q c i) n 0 ne ∙ holds.events.word q c i h l
            (let a = total-set (λ (z : View). many (is_fill q c i) z.fills) views id v u at_id in
            let m = many-without (fills_with p b j n) (is_fill q c i) (is_fill q c i (record { pool = p; block = b; place = j; value = n })) (λ x e. ap (is_fill q c i) (both-fill p b j n x e)) v.fills mine in
            let d : b2n ((eqb p q && eqb b c) && eqb j i) ≡ 0 = not-this q c i ne in omega arith));
        right = λ q c i m ne. let o = holds.events.right q c i m ne in let s = sum (fills_with q c i m) in omega arith;
        beside = fits-set (Beside now) (Beside now) views id u (λ j z ne there o. o)
            (let o = holds.events.beside id v at_id in record { fills = λ q c. let f = o.fills q c in let m = less (fills_of q c) in omega arith; gives = o.gives; told = o.told }) holds.events.beside;
        event = holds.events.event;
      })
      (queues-kept sys words (set words (event_word_at p b j) n) views now now holds.items id v u at_id holds.queues (λ a k h l. get_or-set_other words (event_word_at p b j) (cell_at a k) n 0 (λ e. let y = (holds.fitting.objects a h).0 in absurd (omega arith))) (λ a. refl) refl refl refl (quiet-same v u refl))
      refl refl
      (λ nothing. let c = (holds.idle id v at_id nothing).fills in let z = ap (many (fills_with p b j n)) c in absurd (omega arith))
      (seen-kept words (set words (event_word_at p b j) n) views holds.was id v u holds.seen at_id low_words refl)
      (holds.contents id v at_id)
    where
      not-this : (q c i : ℕ) → event_word_at q c i ≢ event_word_at p b j → b2n ((eqb p q && eqb b c) && eqb j i) ≡ 0
      not-this q c i ne = go (eqb p q) (eqb b c) (eqb j i) refl refl refl
        where
          go : (x y z : Bool) → eqb p q ≡ x → eqb b c ≡ y → eqb j i ≡ z → b2n ((x && y) && z) ≡ 0
          go true true true e f g = let a = eqb-true p q e in let d = eqb-true b c f in let h = eqb-true j i g in absurd (ne (omega arith))
          go true true false e f g = refl
          go true false z e f g = refl
          go false y z e f g = refl

-- One of a list's fills for this word has a value
some-value : (p b j : ℕ) (xs : List Fill) → 0 < many (is_fill p b j) xs → (n : ℕ) × (0 < many (fills_with p b j n) xs)
some-value p b j [] h = absurd (omega arith)
some-value p b j (x ∷ xs) h = go (is_fill p b j x) refl (some-value p b j xs) h
  where
    go : (t : Bool) → is_fill p b j x ≡ t → (0 < many (is_fill p b j) xs → (n : ℕ) × (0 < many (fills_with p b j n) xs)) → 0 < cond t 1 0 + many (is_fill p b j) xs → (n : ℕ) × (0 < many (fills_with p b j n) (x ∷ xs))
    go true e r l = let one : b2n (fills_with p b j x.value x) ≡ 1 = (λ i. b2n (e i && eq-eqb x.value x.value refl i)) in (x.value, omega arith)
    go false e r l = let z = r (omega arith) in let z1 = z.1 in (z.0, omega arith)

without-none : (t : Fill → Bool) (xs : List Fill) → many t xs ≡ 0 → without t xs ≡ xs
without-none t [] e = refl
without-none t (x ∷ xs) e = go (t x) (without-none t xs) e
  where
    go : (b : Bool) → (many t xs ≡ 0 → without t xs ≡ xs) → cond {A = ℕ} b 1 0 + many t xs ≡ 0 → cond b xs (x ∷ without t xs) ≡ x ∷ xs
    go true r z = absurd (omega arith)
    go false r z = ap (λ ys. x ∷ ys) (r (omega arith))

module _ (sys : System) (words : List ℕ) (views : List View) (holds : Holds sys words views) (id : ℕ) (v : View) (at_id : get_elem? views id ≡ some v) (p b : ℕ) (block : IsTrue (is_block sys p b)) where
  -- what a give under way knows of the event words
  module _ (event : List ℕ) (told : event ≡ holds.now.content p b) (mine : 0 < many (is_spot p b) v.fresh) (j : ℕ) (inside : j < length event) where
    others-none : sum_over (λ (z : View). many (is_fill p b j) z.fills) views ≡ many (is_fill p b j) v.fills
    others-none = alone-total (λ (z : View). many (is_fill p b j) z.fills) views id v at_id
        (λ i z ne there. let o = (holds.events.beside i z there).fills p b in let le = fill-le p b j z.fills in
        let one = fresh-alone sys views holds.now id v at_id holds.tokens p b mine in let two = total-two (λ (y : View). many (is_spot p b) y.fresh) views id i v z at_id there (λ e. ne (sym e)) in let o4 = one.4 in omega arith)

    -- an event word that isn't to be written any more has its value
    pub written : many (is_fill p b j) v.fills ≡ 0 → get_or words (event_word_at p b j) 0 ≡ get_or event j 0
    written none_left = holds.events.word p b j block (subst (λ (x : List ℕ). j < length x) told inside) (others-none ∙ none_left) ∙ ap (λ (x : List ℕ). get_or x j 0) (sym told)

    -- A word of the give under way is written, the first time or again
    pub fills_in : (n : ℕ) → n ≡ get_or event j 0 → Holds sys (set words (event_word_at p b j) n) (set views id (filled v p b j n))
    fills_in n is = dite (ℕ_discrete (many (is_fill p b j) v.fills) 0)
        (λ none_left.
        let same : set words (event_word_at p b j) n ≡ words = ap (set words (event_word_at p b j)) (is ∙ sym (written none_left)) ∙ set-get_or words (event_word_at p b j) 0 in
        let still : filled v p b j n ≡ v = (λ i. record v { fills = without-none (fills_with p b j n) v.fills (let le = value-fill p b j n v.fills in omega arith) i }) in
        subst (λ (z : List ℕ × List View). Holds sys z.0 z.1) (λ i. (sym same i, sym (ap (set views id) still ∙ set_again views id v at_id) i)) holds)
        (λ some_left. let z = some-value p b j v.fills (omega arith) in let few = holds.events.few p b block in let l = ap length told in
        fills sys words views holds id v at_id p b block j n (omega arith) (dite (ℕ_discrete z.0 n) (λ e. subst (λ y. 0 < many (fills_with p b j y) v.fills) e z.1)
        (λ ne. let r = holds.events.right p b j z.0 (λ e. ne (e ∙ (ap (λ (x : List ℕ). get_or x j 0) (sym told) ∙ sym is))) in let t = total-at (λ (y : View). many (fills_with p b j z.0) y.fills) views id v at_id in let z1 = z.1 in absurd (omega arith))))
      where
        value-fill : (p b j n : ℕ) (xs : List Fill) → many (fills_with p b j n) xs ≤ many (is_fill p b j) xs
        value-fill p b j n [] = omega arith
        value-fill p b j n (x ∷ xs) = let r = value-fill p b j n xs in let c = and-le (is_fill p b j x) (eqb x.value n) in omega arith
          where
            and-le : (s t : Bool) → b2n (s && t) ≤ b2n s
            and-le true t = cond-le t
            and-le false t = omega arith
