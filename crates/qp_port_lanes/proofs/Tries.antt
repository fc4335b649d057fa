-- Tries of a `settle`, one behind another.
use Rattle.std.proofs.Common.{◌≡◌, ℕ, zero, suc, ◌+◌, ◌<◌, ◌==◌, nat_lt, Bool, true, false, not, ◌||◌, List, [], ◌∷◌, ◌++◌, refl, sym, ◌∙◌, ap, subst, inl, inr, ◌⊎◌, arith, append_assoc, append-nil}
use Rattle.std.specs.Prelude.{◌≢◌}
use Rattle.std.specs.List.{list_all, list_any, filter_map, AllByRecursion}
use Rattle.std.proofs.lemmas.Bool.{and_from, and_parts, or_right}
use Rattle.std.proofs.lemmas.Bool.Decides.{nat_tests}
use Rattle.qp_model.specs.declared.stimulus.Stim.TheVariants as stim
use Rattle.qp_model.specs.declared.systems.System.{System}
use Rattle.qp_model.specs.declared.bodies.Body.TheVariants as body
use Rattle.qp_model.specs.Told.{Told, plain}
use Rattle.qp_model.specs.Kernels.{sim, may_try}
use Rattle.qp_model.specs.Sources.{SeesEmpty, SeesEntry, Settles, StimFits, Tries, entry_seen, none_twice, priorities, same_list}
use Rattle.qp_model_order.specs.Stimulus.{ArePlain, IsPlain, StimulusForm, source_items}
use Rattle.qp_model_order.proofs.StimulusForm.{cut-plain, stimulus-form}

pub tries-join : (os : List ℕ) (m n : ℕ) (a b : List Told) → Tries os m a → Tries os n b → Tries os (m + n) (a ++ b)
unfolding Tries
tries-join os zero n a b h k =
    let none : n ≡ zero + n = omega arith in
    let bare : b ≡ a ++ b = ap (λ x. x ++ b) (sym h) in
    subst (λ x. Tries os (zero + n) x) bare (subst (λ i. Tries os i b) none k)
tries-join os (suc m) n a b h k =
    let more : suc (m + n) ≡ suc m + n = omega arith in
    let on : Tries os (m + n) (h.1 ++ b) = tries-join os m n h.1 b h.4 k in
    let here : Tries os (suc (m + n)) ((plain body.Settle ∷ (h.0 ++ h.1)) ++ b) =
    (h.0, h.1 ++ b, ap (λ x. plain body.Settle ∷ x) (append_assoc h.0 h.1 b), h.3, on) in
    subst (λ i. Tries os i (a ++ b)) more (subst (λ x. Tries os (suc (m + n)) (x ++ b)) (sym h.2) here)

-- one try more
pub tries-more : (os : List ℕ) (m : ℕ) (a one : List Told) → Tries os m a → SeesEntry os one → Tries os (suc m) (a ++ plain body.Settle ∷ one)
unfolding Tries
tries-more os m a one h k =
    let last : Tries os 1 (plain body.Settle ∷ one) = (one, [], ap (λ x. plain body.Settle ∷ x) (sym (append-nil one)), k, refl) in
    let more : m + 1 ≡ suc m = omega arith in
    subst (λ n. Tries os n (a ++ plain body.Settle ∷ one)) more (tries-join os m 1 a (plain body.Settle ∷ one) h last)

-- tries, and then a whole `settle`
pub settles-behind : (sys : System) (kernel m : ℕ) (a g : List Told) → may_try kernel ≡ true → Tries (priorities sys) m a → Settles sys kernel g → Settles sys kernel (a ++ g)
unfolding Settles
settles-behind sys kernel m a g may h k = (
  m + k.0,
  a ++ k.1,
  k.2,
  ap (λ x. a ++ x) k.3 ∙ sym (append_assoc a k.1 (plain body.Settle ∷ k.2)),
  tries-join (priorities sys) m k.0 a k.1 h k.4,
  inl may,
  k.6,
)

pub settle-alone : (sys : System) (kernel : ℕ) (one : List Told) → SeesEmpty (priorities sys) one → Settles sys kernel (plain body.Settle ∷ one)
unfolding Settles Tries
settle-alone sys kernel one h = (0, [], one, refl, refl, inr refl, h)

-- Plain records in the lane of a source.

pub plain-seen : (g : List Told) → ArePlain g → filter_map (λ i. entry_seen i.body) (source_items g) ≡ []
plain-seen [] h = refl
plain-seen (t ∷ ts) h = rw (h.0.seen) (plain-seen ts h.1)

pub settle-plain : (sys : System) (one : List Told) → SeesEmpty (priorities sys) one → ArePlain (plain body.Settle ∷ one)
unfolding StimFits StimulusForm
settle-plain sys one h = stimulus-form sys stim.Settle false (plain body.Settle ∷ one) (settle-alone sys sim one h, refl)

pub cut-is-plain : (sys : System) (g rest : List Told) → rest ≢ [] → Settles sys sim (g ++ rest) → ArePlain g
unfolding StimFits
cut-is-plain sys g rest some h = cut-plain false g rest some (stimulus-form sys stim.Settle false (g ++ rest) (h, refl))

-- A try: looks that showed empty queues, and one that showed an entry.

pub record EndsTry (os : List ℕ) (one : List Told) : Type 0 where
  pub es : List Told
  pub p : ℕ
  pub f : ℕ
  pub l : ℕ
  pub m : ℕ
  pub is : one ≡ es ++ plain (body.Seen p f l m) ∷ []
  pub some : m < f + l
  pub plain_are : ArePlain es
  pub its : list_any (λ q. q == p) os ≡ true

empty-plain : (o f l m : ℕ) → f + l ≡ m → IsPlain (body.Seen o f l m)
empty-plain o f l m e =
    let none : nat_lt m (f + l) ≡ false = grind (arith, nat_tests, e) in
    record { look = refl; stim = refl; calm = refl; seen = rw none refl }

pub entry-ends : (os : List ℕ) (one : List Told) → SeesEntry os one → EndsTry os one
unfolding SeesEntry
entry-ends [] one h = absurd h
entry-ends (o ∷ os) one h = by h.5 (λ k. entry-ends os h.3 k)
  where
    by : ((h.0 + h.1 ≡ h.2) × SeesEntry os h.3) ⊎ ((h.2 < h.0 + h.1) × (h.3 ≡ [])) → (SeesEntry os h.3 → EndsTry os h.3) → EndsTry (o ∷ os) one
    by (inl k) later =
        let on = later k.1 in
        record {
          es = plain (body.Seen o h.0 h.1 h.2) ∷ on.es;
          p = on.p;
          f = on.f;
          l = on.l;
          m = on.m;
          is = h.4 ∙ ap (λ g. plain (body.Seen o h.0 h.1 h.2) ∷ g) on.is;
          some = on.some;
          plain_are = (empty-plain o h.0 h.1 h.2 k.0, on.plain_are);
          its = or_right (o == on.p) (list_any (λ q. q == on.p) os) on.its;
        }
    by (inr k) later =
        record {
          es = [];
          p = o;
          f = h.0;
          l = h.1;
          m = h.2;
          is = h.4 ∙ ap (λ g. plain (body.Seen o h.0 h.1 h.2) ∷ g) k.1;
          some = k.0;
          plain_are = tt;
          its = let same : (o == o) ≡ true = grind (arith, nat_tests) in rw same refl;
        }

-- what holds of each of these holds of one of them
pub pick : (P : ℕ → Type 0) (p : ℕ) (os : List ℕ) → list_any (λ q. q == p) os ≡ true → AllByRecursion P os → P p
pick P p [] h all = absurd (cc)
pick P p (o ∷ os) h all = go (o == p) refl h (λ k. pick P p os k all.1)
  where
    go : (b : Bool) → (o == p) ≡ b → (b || list_any (λ q. q == p) os) ≡ true → (list_any (λ q. q == p) os ≡ true → P p) → P p
    go true e k later = let same : o ≡ p = grind (arith, nat_tests, e) in subst P same all.0
    go false e k later = later k

-- No two tries are the same.

pub same-is : (xs ys : List ℕ) → same_list xs ys ≡ true → xs ≡ ys
same-is [] [] h = refl
same-is (x ∷ xs) (y ∷ ys) h =
    let parts = and_parts (x == y) (same_list xs ys) h in
    let head : x ≡ y = let e = parts.0 in grind (arith, nat_tests, e) in
    rw (head, same-is xs ys parts.1) refl
same-is [] (y ∷ ys) h = absurd (cc)
same-is (x ∷ xs) [] h = absurd (cc)

pub twice-snoc : (xs : List (List ℕ)) (x : List ℕ) → none_twice xs ≡ true → list_all (λ y. not (same_list y x)) xs ≡ true → none_twice (xs ++ x ∷ []) ≡ true
unfolding none_twice
twice-snoc [] x h k = refl
twice-snoc (y ∷ ys) x h k =
    let parts = and_parts (not (list_any (same_list y) ys)) (none_twice ys) h in
    let more = and_parts (not (same_list y x)) (list_all (λ z. not (same_list z x)) ys) k in
    and_from (not (list_any (same_list y) (ys ++ x ∷ []))) (none_twice (ys ++ x ∷ [])) (none ys parts.0) (twice-snoc ys x parts.1 more.1)
  where
    here : not (same_list y x) ≡ true
    here = (and_parts (not (same_list y x)) (list_all (λ z. not (same_list z x)) ys) k).0

    none : (zs : List (List ℕ)) → not (list_any (same_list y) zs) ≡ true → not (list_any (same_list y) (zs ++ x ∷ [])) ≡ true
    none [] e = one (same_list y x) here
      where
        one : (b : Bool) → not b ≡ true → not (b || false) ≡ true
        one true e = e
        one false e = refl
    none (z ∷ zs) e = go (same_list y z) e (none zs)
      where
        go : (b : Bool) → not (b || list_any (same_list y) zs) ≡ true → (not (list_any (same_list y) zs) ≡ true → not (list_any (same_list y) (zs ++ x ∷ [])) ≡ true) → not (b || list_any (same_list y) (zs ++ x ∷ [])) ≡ true
        go true e on = e
        go false e on = on e
