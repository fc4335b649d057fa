-- Tokens in the hands of a lane.
use Rattle.std.proofs.Common.{◌≡◌, ℕ, zero, ◌==◌, Bool, true, false, ◌&&◌, ◌||◌, List, [], ◌∷◌, ◌++◌, refl, sym, ◌∙◌, IsTrue, if◌then◌else◌}
use Rattle.std.specs.List.{list_any}
use Rattle.qp_model.specs.declared.bodies.Entry as model
use Rattle.qp_model.specs.declared.bodies.Body.{Body}
use Rattle.qp_model.specs.declared.bodies.Body.TheVariants.{Took, New, Inc, Dec, Back, Post, Lifo}
use Rattle.qp_model.specs.Told.{ToldItem, Known, Left}
use Rattle.std.proofs.lemmas.Bool.{and_parts, eqb-true, or_right}
use Rattle.qp_calls.specs.Tokens.{Token, Held, Loose, same_token, token_of, take_out, stands, with_entry, without_entry, with_left, hands_of, hands_by, hands_after, handles}
use Rattle.qp_model.proofs.LineLemmas.{same_number}

pub hands-append : (hands : List Token) (g h : List ToldItem) → hands_after hands (g ++ h) ≡ hands_after (hands_after hands g) h
unfolding hands_after
hands-append hands [] h = refl
hands-append hands (t ∷ g) h = hands-append (hands_by hands t.told) g h

pub held-first : (p b r : ℕ) (hands : List Token) → IsTrue (stands (Held p b r) (Held p b r ∷ hands))
unfolding stands
held-first p b r hands = rw (same_number p, same_number b, same_number r) refl

pub loose-first : (p b : ℕ) (u : Bool) (hands : List Token) → IsTrue (stands (Loose p b u) (Loose p b u ∷ hands))
unfolding stands
loose-first p b true hands = rw (same_number p, same_number b) refl
loose-first p b false hands = rw (same_number p, same_number b) refl

-- what stands still does behind one more
pub stands-more : (t x : Token) (hands : List Token) → IsTrue (stands t hands) → IsTrue (stands t (x ∷ hands))
unfolding stands
stands-more t x hands h = go (same_token t x) (list_any (λ y. same_token t y) hands) h
  where
    go : (u v : Bool) → IsTrue v → IsTrue (u || v)
    go true v h = refl
    go false v h = h

apart_bool : {X : Type 0} (u : Bool) → (u && false) ≡ true → X
apart_bool u h = let e : false ≡ true = (and_parts u false h).1 in absurd (cc)

loose_equal : (p b q c : ℕ) (u : Bool) → ((p == q) && (b == c)) ≡ true → Loose p b u ≡ Loose q c u
loose_equal p b q c u h =
    let parts = and_parts _ _ h in
    let p_is : p ≡ q = eqb-true p q parts.0 in
    let b_is : b ≡ c = eqb-true b c parts.1 in
    cc

-- two tokens that test as the same are
pub same-equal : (t x : Token) → same_token t x ≡ true → t ≡ x
same-equal (Held p b r) (Held q c s) h =
    let parts = and_parts _ _ h in
    let first = and_parts _ _ parts.0 in
    let p_is : p ≡ q = eqb-true p q first.0 in
    let b_is : b ≡ c = eqb-true b c first.1 in
    let r_is : r ≡ s = eqb-true r s parts.1 in
    cc
same-equal (Loose p b true) (Loose q c true) h = loose_equal p b q c true (and_parts _ _ h).0
same-equal (Loose p b true) (Loose q c false) h = apart_bool _ h
same-equal (Loose p b false) (Loose q c true) h = apart_bool _ h
same-equal (Loose p b false) (Loose q c false) h = loose_equal p b q c false (and_parts _ _ h).0
same-equal (Held p b r) (Loose q c v) h = absurd (cc)
same-equal (Loose p b u) (Held q c s) h = absurd (cc)

pub same-self : (t : Token) → same_token t t ≡ true
same-self (Held p b r) = rw (same_number p, same_number b, same_number r) refl
same-self (Loose p b true) = rw (same_number p, same_number b) refl
same-self (Loose p b false) = rw (same_number p, same_number b) refl

-- what stands is the token taken out, or still stands
pub stands-out : (t x : Token) (hands : List Token) → stands t hands ≡ true → (same_token t x || stands t (take_out x hands)) ≡ true
unfolding stands take_out
stands-out t x [] h = absurd (cc)
stands-out t x (y ∷ ys) h = go (same_token x y) (same_token t y) refl refl h (stands-out t x ys)
  where
    go : (u v : Bool) → same_token x y ≡ u → same_token t y ≡ v → (v || list_any (λ z. same_token t z) ys) ≡ true
        → (list_any (λ z. same_token t z) ys ≡ true → (same_token t x || list_any (λ z. same_token t z) (take_out x ys)) ≡ true)
        → (same_token t x || list_any (λ z. same_token t z) (if u then ys else y ∷ take_out x ys)) ≡ true
    go true true xy ty k ih =
        let same : t ≡ x = same-equal t y ty ∙ sym (same-equal x y xy) in
        rw (same, same-self x) refl
    go true false xy ty k ih = rw k (or_right (same_token t x) true refl)
    go false true xy ty k ih = rw ty (or_right (same_token t x) true refl)
    go false false xy ty k ih = rw ty (ih k)

pub stands-with : (t : Token) (e : model.Entry) (hands : List Token) → stands t hands ≡ true → stands t (with_entry e hands) ≡ true
stands-with t e hands h = go (e.pool == 0)
  where
    go : (u : Bool) → stands t (if u then hands else token_of e ∷ hands) ≡ true
    go true = h
    go false = stands-more t (token_of e) hands h

stands-without : (t : Token) (e : model.Entry) (hands : List Token) → stands t hands ≡ true → (same_token t (token_of e) || stands t (without_entry e hands)) ≡ true
stands-without t e hands h = go (e.pool == 0)
  where
    go : (u : Bool) → (same_token t (token_of e) || stands t (if u then hands else take_out (token_of e) hands)) ≡ true
    go true = or_right (same_token t (token_of e)) (stands t hands) h
    go false = stands-out t (token_of e) hands h

stands-left : (t : Token) (p b : ℕ) (known : Known) (u : Bool) (hands : List Token) → (u || stands t hands) ≡ true → (u || stands t (with_left p b known hands)) ≡ true
stands-left t p b (Left zero) true hands h = refl
stands-left t p b (Left zero) false hands h = stands-more t (Loose p b true) hands h
stands-left t p b _ u hands h = h

-- a reference that stands was handled by the record, or still stands after it
pub stands-by : (e : model.Entry) (hands : List Token) (b : Body) (known : Known)
    → stands (token_of e) hands ≡ true → (handles (token_of e) b || stands (token_of e) (hands_of hands b known)) ≡ true
stands-by e hands (Took f l m x) known h = or_right (same_token (token_of e) (token_of x)) _ (stands-with (token_of e) x hands h)
stands-by e hands (New p n b from sig pars) known h = stands-more (token_of e) (Loose p b false) hands h
stands-by e hands (Inc p b r) known h =
    or_right (same_token (token_of e) (Held p b r)) _
    (stands-more (token_of e) (Held p b r) (take_out (Loose p b false) hands) (stands-out (token_of e) (Loose p b false) hands h))
stands-by e hands (Dec p b d k) known h =
    stands-left (token_of e) p b known (same_token (token_of e) (Held p b k)) (take_out (Held p b k) hands) (stands-out (token_of e) (Held p b k) hands h)
stands-by e hands (Back p n b to) known h = stands-out (token_of e) (Loose p b true) hands h
stands-by e hands (Post a f l m x) known h = stands-without (token_of e) x hands h
stands-by e hands (Lifo f l m x) known h = stands-without (token_of e) x hands h
stands-by e hands _ known h = h

abbrev pub handled : model.Entry → List ToldItem → Bool
handled e ts = list_any (λ t. handles (token_of e) t.told.body) ts

-- the same of several records
pub stands-after : (e : model.Entry) (hands : List Token) (ts : List ToldItem)
    → stands (token_of e) hands ≡ true → (handled e ts || stands (token_of e) (hands_after hands ts)) ≡ true
unfolding hands_after hands_by
stands-after e hands [] h = h
stands-after e hands (t ∷ ts) h = go (handles (token_of e) t.told.body) (stands-by e hands t.told.body t.told.known h) (stands-after e (hands_of hands t.told.body t.told.known) ts)
  where
    go : (u : Bool) → (u || stands (token_of e) (hands_of hands t.told.body t.told.known)) ≡ true
        → (stands (token_of e) (hands_of hands t.told.body t.told.known) ≡ true → (handled e ts || stands (token_of e) (hands_after (hands_of hands t.told.body t.told.known) ts)) ≡ true)
        → ((u || handled e ts) || stands (token_of e) (hands_after (hands_of hands t.told.body t.told.known) ts)) ≡ true
    go true k ih = refl
    go false k ih = ih k
