-- Tokens in the hands of a lane, and in its view.
use Rattle.std.proofs.Common.{◌≡◌, ◌⊎◌, inl, inr, ⊎_elim, ℕ, ◌+◌, ◌<◌, ◌≤◌, ◌==◌, ◌&&◌, ◌||◌, List, [], ◌∷◌, ◌++◌, Bool, true, false, cond, refl, sym, ap, subst, ◌∙◌, arith, eqb, eqb-true, eq-eqb, ne_eqb, IsTrue, nat_lt, if◌then◌else◌}
use Rattle.std.proofs.lemmas.Bool.Decides.{nat_tests}
use mathlib.Core.Logic.{dite}
use native.Mathlib.Decide.{ℕ_discrete}
use Rattle.std.specs.List.{list_any}
use Rattle.std.proofs.lemmas.Bool.{and_parts}
use Rattle.qp_model.specs.declared.bodies.Entry.{Entry}
use Rattle.qp_model.specs.Told.{ToldItem}
use Rattle.qp_table.specs.Counting.{many, without}
use Rattle.qp_table.specs.Rule.{is_ref, is_entry}
use Rattle.qp_table.specs.After.{ref}
use Rattle.qp_table.specs.declared.view.View.{View}
use Rattle.qp_table.specs.declared.view.Content.{Content}
use Rattle.qp_table.proofs.Counting.{many-without, many-snoc}
use Rattle.qp_calls.specs.Tokens.{Token, Held, Loose, same_token, token_of, take_out, stands, hands_after, handles}
use Rattle.qp_calls.specs.LaneView.{handled_in}
use Rattle.qp_calls.proofs.HandLemmas.{same-equal}
use Rattle.qp_table.specs.Lane.{tokens, tokens_of_view, has_content, is_read}
use Rattle.qp_model.proofs.ListLemmas.{and-true}

pub eq-turned : (a b : ℕ) → eqb a b ≡ (b == a)
eq-turned a b = dite (ℕ_discrete a b)
    (λ e. eq-eqb a b e ∙ sym (eq-eqb b a (sym e)))
    (λ ne. ne_eqb a b ne ∙ sym (ne_eqb b a (λ e. ne (sym e))))

-- a token taken out
pub tokens-out : (t x : Token) (hands : List Token) → IsTrue (stands x hands) → tokens t (take_out x hands) + cond (same_token t x) 1 0 ≡ tokens t hands
unfolding take_out stands
tokens-out t x [] h = absurd (cc)
tokens-out t x (y ∷ ys) h = go (same_token x y) refl h (tokens-out t x ys)
  where
    go : (u : Bool) → same_token x y ≡ u → (u || list_any (λ z. same_token x z) ys) ≡ true
        → (list_any (λ z. same_token x z) ys ≡ true → many (same_token t) (take_out x ys) + cond (same_token t x) 1 0 ≡ many (same_token t) ys)
        → many (same_token t) (if u then ys else y ∷ take_out x ys) + cond (same_token t x) 1 0 ≡ cond (same_token t y) 1 0 + many (same_token t) ys
    go true e k ih = let s : same_token t x ≡ same_token t y = ap (same_token t) (same-equal x y e) in let z = ap (λ (b : Bool). cond {A = ℕ} b 1 0) s in omega arith
    go false e k ih = let z = ih k in omega arith

-- a reference taken out of a view's hands
ref-parts : (p b k : ℕ) (e : Entry) → is_ref p b k e ≡ true → (e.pool ≡ p) × (e.block ≡ b) × (e.name ≡ k)
ref-parts p b k e h = let t = and_parts (eqb e.pool p && eqb e.block b) (eqb e.name k) h in let u = and_parts (eqb e.pool p) (eqb e.block b) t.0 in (eqb-true e.pool p u.0, eqb-true e.block b u.1, eqb-true e.name k t.1)

turned-three : (p b k q c s : ℕ) → ((eqb p q && eqb b c) && eqb k s) ≡ same_token (Held q c s) (Held p b k)
turned-three p b k q c s = (λ i. (eq-turned p q i && eq-turned b c i) && eq-turned k s i)

ref-same : (q c s p b k : ℕ) (e : Entry) → is_ref p b k e ≡ true → is_ref q c s e ≡ same_token (Held q c s) (Held p b k)
ref-same q c s p b k e h = let t = ref-parts p b k e h in (λ i. (eqb (t.0 i) q && eqb (t.1 i) c) && eqb (t.2 i) s) ∙ turned-three p b k q c s

pub refs-out : (q c s p b k : ℕ) (xs : List Entry) → 0 < many (is_ref p b k) xs → many (is_ref q c s) (without (is_ref p b k) xs) + cond (same_token (Held q c s) (Held p b k)) 1 0 ≡ many (is_ref q c s) xs
refs-out q c s p b k xs h = many-without (is_ref p b k) (is_ref q c s) (same_token (Held q c s) (Held p b k)) (ref-same q c s p b k) xs h

pub refs-in : (q c s p b k : ℕ) (xs : List Entry) → many (is_ref q c s) (xs ++ ref p b k ∷ []) ≡ many (is_ref q c s) xs + cond (same_token (Held q c s) (Held p b k)) 1 0
refs-in q c s p b k xs = let m = many-snoc (is_ref q c s) xs (ref p b k) in let z = ap (λ (t : Bool). cond {A = ℕ} t 1 0) (turned-three p b k q c s) in omega arith

pub loose-true : (q c p b : ℕ) → same_token (Loose q c true) (Loose p b true) ≡ (eqb p q && eqb b c)
loose-true q c p b = and-true ((q == p) && (c == b)) ∙ (λ i. sym (eq-turned p q) i && sym (eq-turned b c) i)

-- the token that a lane handed in stands in its view
pub held-in : (told : List ToldItem) (v : View) (p b k : ℕ) → ((t : Token) → tokens t (hands_after [] told) ≡ tokens_of_view v t) → IsTrue (stands (Held p b k) (hands_after [] told)) → 0 < many (is_ref p b k) v.hands
unfolding stands
held-in told v p b k all h = let z = some (hands_after [] told) h in let e = all (Held p b k) in omega arith
  where
    some : (hs : List Token) → list_any (λ x. same_token (Held p b k) x) hs ≡ true → 0 < tokens (Held p b k) hs
    some [] h = absurd (cc)
    some (x ∷ xs) h = go (same_token (Held p b k) x) h (some xs)
      where
        go : (u : Bool) → (u || list_any (λ x. same_token (Held p b k) x) xs) ≡ true → (list_any (λ x. same_token (Held p b k) x) xs ≡ true → 0 < tokens (Held p b k) xs) → 0 < cond u 1 0 + tokens (Held p b k) xs
        go true h r = omega arith
        go false h r = let z = r h in omega arith

pub without-le : {A : Type 0} (p q : A → Bool) (xs : List A) → many q (without p xs) ≤ many q xs
without-le p q [] = omega arith
without-le {A} p q (x ∷ xs) = go (p x) (without-le p q xs)
  where
    go : (t : Bool) → many q (without p xs) ≤ many q xs → many q (cond t xs (x ∷ without p xs)) ≤ cond (q x) 1 0 + many q xs
    go true h = omega arith
    go false h = omega arith

pub any-more : {A : Type 0} (p : A → Bool) (xs : List A) (x : A) → list_any p (xs ++ x ∷ []) ≡ true → list_any p xs ≡ true ⊎ p x ≡ true
any-more p [] x h = go (p x) h
  where
    go : (t : Bool) → (t || false) ≡ true → (false ≡ true) ⊎ (t ≡ true)
    go true h = inr refl
    go false h = absurd (cc)
any-more {A} p (y ∷ ys) x h = go (p y) h (any-more p ys x)
  where
    go : (t : Bool) → (t || list_any p (ys ++ x ∷ [])) ≡ true → (list_any p (ys ++ x ∷ []) ≡ true → list_any p ys ≡ true ⊎ p x ≡ true) → (t || list_any p ys) ≡ true ⊎ p x ≡ true
    go true h r = inl refl
    go false h r = r h

-- what is read of hands: every entry in hand, and every reference that a record handled, has its event among the contents
abbrev pub HandsRead : View → Type 0
HandsRead v = (e : Entry) → 0 < many (is_entry e) v.hands → IsTrue (is_read v.contents e)

abbrev pub ToldRead : List ToldItem → View → Type 0
ToldRead told v = (e : Entry) → IsTrue (handled_in (token_of e) told) → IsTrue (has_content v.contents e)

pub read-has : (qs : List Content) (e : Entry) → IsTrue (is_read qs e) → IsTrue (has_content qs e)
read-has qs e h = (and_parts (has_content qs e) (nat_lt e.pool 16 && nat_lt e.block 32) h).0

lt-of : (a b : ℕ) → nat_lt a b ≡ true → a < b
lt-of a b h = grind (arith, nat_tests)

pub read-small : (qs : List Content) (e : Entry) → IsTrue (is_read qs e) → (e.pool < 16) × (e.block < 32)
read-small qs e h = let z = (and_parts (has_content qs e) (nat_lt e.pool 16 && nat_lt e.block 32) h).1 in let y = and_parts (nat_lt e.pool 16) (nat_lt e.block 32) z in (lt-of e.pool 16 y.0, lt-of e.block 32 y.1)

pub hands-read : (v u : View) (d : Entry) → u.hands ≡ without (is_entry d) v.hands → u.contents ≡ v.contents → HandsRead v → HandsRead u
hands-read v u d hands contents read e h =
    let l = without-le (is_entry d) (is_entry e) v.hands in
    let i = ap (many (is_entry e)) hands in
    subst (λ qs. IsTrue (is_read qs e)) (sym contents) (read e (omega arith))

-- a record that handles one reference in hand at most
pub told-read : (told : List ToldItem) (t : ToldItem) (v u : View) (p b k : ℕ) → u.contents ≡ v.contents → ((x : Token) → handles x t.told.body ≡ true → x ≡ Held p b k) → 0 < many (is_ref p b k) v.hands → HandsRead v → ToldRead told v → ToldRead (told ++ t ∷ []) u
told-read told t v u p b k contents only mine hands read e h = subst (λ qs. IsTrue (has_content qs e)) (sym contents)
    (⊎_elim (λ old. read e old)
    (λ new. let i = only (token_of e) new in let j = held-parts e.pool e.block e.name p b k i in read-has v.contents e (hands e (subst (λ (z : ℕ × ℕ × ℕ). 0 < many (is_ref z.0 z.1 z.2) v.hands) (λ i. (sym j.0 i, sym j.1 i, sym j.2 i)) mine)))
    (any-more (λ (t : ToldItem). handles (token_of e) t.told.body) told t h))
  where
    parts : Token → ℕ × ℕ × ℕ
    parts (Held p b k) = (p, b, k)
    parts (Loose p b u) = (0, 0, 0)

    held-parts : (p b k q c s : ℕ) → Held p b k ≡ Held q c s → (p ≡ q) × (b ≡ c) × (k ≡ s)
    held-parts p b k q c s e = (ap (λ t. (parts t).0) e, ap (λ t. (parts t).1) e, ap (λ t. (parts t).2) e)
