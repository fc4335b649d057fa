-- A list that is a front of the release of an entry.
use Rattle.std.proofs.Common.{◌≡◌, ℕ, zero, suc, ◌+◌, ◌<◌, ◌==◌, nat_lt, Bool, true, false, ◌&&◌, ◌||◌, ◌⊎◌, inl, inr, List, [], ◌∷◌, ◌++◌, length, Some, refl, sym, ◌∙◌, ap, subst, append-nil, arith}
use Rattle.std.proofs.lemmas.Bool.{and_parts, or_cases, eqb-true, false≢true, or_right}
use Rattle.std.proofs.lemmas.Bool.Decides.{nat_tests}
use Rattle.std.specs.declared.option.Option.{Option}
use Rattle.qp_check_calls.specs.Decides.{Decides}
use Rattle.qp_model.specs.declared.bodies.Entry.{Entry}
use Rattle.qp_model.specs.declared.bodies.Body.{Body}
use Rattle.qp_model.specs.declared.bodies.Body.TheVariants as item
use Rattle.qp_model.specs.Told.{Told, Known, Left, plain, dropped}
use Rattle.qp_model.specs.Shapes.{Drops, Releases, releases_by}
use Rattle.qp_model.proofs.LineLemmas.{same_number}
use Rattle.qp_check_shapes.specs.ShapeRelease.{IsUnambiguous, behind_back, behind_release}
use Rattle.qp_check_shapes.specs.ObjectRead.{FrontOf}
use Rattle.qp_check_shapes.specs.ShapePublication.{is_nothing_behind}
use Rattle.qp_check_shapes.specs.ObjectFirst.{drop_front, release_first}
use Rattle.qp_check_shapes.proofs.ShapeReleaseLemmas.{release-sound, release-leaves}
use Rattle.qp_check_shapes.proofs.ObjectTestLemmas.{decides-by, empty-rest}
use Rattle.qp_check_shapes.proofs.ObjectCutLemmas.{released}
use Rattle.qp_model.proofs.RecordLemmas.{told-is}
use Rattle.qp_check_shapes.proofs.ShapeDecideLemmas.{done-is}

-- a release of an entry of a pool
pooled : (e : Entry) (g : List Told) → nat_lt 0 e.pool ≡ true → Releases e.pool e.block e.name g → Drops e g
unfolding Drops releases_by
pooled e g h r = by e.pool h
  where
    by : (p : ℕ) → nat_lt 0 p ≡ true → releases_by p e g
    by zero h = absurd (none h)
      where
        none : nat_lt 0 0 ≡ true → ⊥
        none h = let e : 0 < 0 = grind (arith, nat_tests) in omega arith
    by (suc p) h = r

-- behind the last reference the block comes back
drop-reads : (e : Entry) (d : ℕ) (ts : List Told) → nat_lt 0 e.pool ≡ true → behind_release e (dropped e.pool e.block d e.name 0 ∷ ts) ≡ behind_back e.pool e.block d ts
unfolding behind_release
drop-reads e d ts above = let some : (e.pool == 0) ≡ false = not_zero e.pool above in rw (some, same_number e.pool, same_number e.block, same_number e.name) refl
  where
    not_zero : (p : ℕ) → nat_lt 0 p ≡ true → (p == 0) ≡ false
    not_zero p h = grind (arith, nat_tests)

-- a front can be made whole
front-of : (e : Entry) (told : List Told) → release_first e told ≡ true → FrontOf (Drops e) told
unfolding FrontOf
front-of e [] h = released e
front-of e (t ∷ ts) h =
    let tests = and_parts (nat_lt 0 e.pool) (drop_front e t.body t.known ts) h in
    by t.body t.known refl refl tests.0 tests.1
  where
    last : (p b d k left : ℕ) → t ≡ dropped p b d k left → p ≡ e.pool → b ≡ e.block → k ≡ e.name → t ≡ dropped e.pool e.block d e.name left
    last p b d k left t_is e1 e2 e3 = t_is ∙ ap (λ x. dropped x b d k left) e1 ∙ ap (λ x. dropped e.pool x d k left) e2 ∙ ap (λ x. dropped e.pool e.block d x left) e3

    alone : nat_lt 0 e.pool ≡ true → (d left : ℕ) → t ≡ dropped e.pool e.block d e.name left → ts ≡ [] → (back : List Told) × Drops e (t ∷ (ts ++ back))
    alone above d zero t_is none = (
      plain (item.Back e.pool 0 e.block (d + 1)) ∷ [],
      pooled e _ above (inr (d, 0, ap (λ x. x ∷ (ts ++ (plain (item.Back e.pool 0 e.block (d + 1)) ∷ []))) t_is ∙ ap (λ us. dropped e.pool e.block d e.name 0 ∷ (us ++ (plain (item.Back e.pool 0 e.block (d + 1)) ∷ []))) none)),
    )
    alone above d (suc left) t_is none =
        ([], pooled e _ above (inl (d, left, ap (λ x. x ∷ (ts ++ [])) t_is ∙ ap (λ us. dropped e.pool e.block d e.name (suc left) ∷ (us ++ [])) none)))

    returned : nat_lt 0 e.pool ≡ true → (d left : ℕ) → t ≡ dropped e.pool e.block d e.name left → left ≡ 0 → behind_back e.pool e.block d ts ≡ Some [] → (back : List Told) × Drops e (t ∷ (ts ++ back))
    returned above d left t_is zero_left back_is =
        let first : t ≡ dropped e.pool e.block d e.name 0 = t_is ∙ ap (λ x. dropped e.pool e.block d e.name x) zero_left in
        let reads : behind_release e (t ∷ ts) ≡ Some [] = ap (λ x. behind_release e (x ∷ ts)) first ∙ drop-reads e d ts above ∙ back_is in
        let rel = release-sound e (t ∷ ts) [] reads in
        ([], subst (Drops e) (sym (append-nil (t ∷ ts) ∙ rel.2 ∙ append-nil rel.0)) rel.1)

    by : (body : Body) (known : Known) → t.body ≡ body → t.known ≡ known → nat_lt 0 e.pool ≡ true → drop_front e body known ts ≡ true → (back : List Told) × Drops e (t ∷ (ts ++ back))
    by (item.Dec p b d k) (Left left) is_body is_known above h =
        let tests = and_parts ((p == e.pool) && (b == e.block) && (k == e.name)) ((length ts == 0) || (left == 0) && is_nothing_behind (behind_back p b d ts)) h in
        let same = and_parts ((p == e.pool) && (b == e.block)) (k == e.name) tests.0 in
        let of_block = and_parts (p == e.pool) (b == e.block) same.0 in
        let e1 : p ≡ e.pool = eqb-true p e.pool of_block.0 in
        let e2 : b ≡ e.block = eqb-true b e.block of_block.1 in
        let t_is = last p b d k left (told-is t _ _ is_body is_known) e1 e2 (eqb-true k e.name same.1) in
        ends d left p b t_is e1 e2 (or_cases (length ts == 0) ((left == 0) && is_nothing_behind (behind_back p b d ts)) tests.1)
      where
        ends : (d left p b : ℕ) → t ≡ dropped e.pool e.block d e.name left → p ≡ e.pool → b ≡ e.block → ((length ts == 0) ≡ true) ⊎ (((left == 0) && is_nothing_behind (behind_back p b d ts)) ≡ true)
            → (back : List Told) × Drops e (t ∷ (ts ++ back))
        ends d left p b t_is e1 e2 (inl none) = alone above d left t_is (empty-rest ts none)
        ends d left p b t_is e1 e2 (inr back) =
            let tests = and_parts (left == 0) (is_nothing_behind (behind_back p b d ts)) back in
            returned above d left t_is (eqb-true left 0 tests.0)
            (ap (λ x. behind_back x e.block d ts) (sym e1) ∙ ap (λ x. behind_back p x d ts) (sym e2) ∙ done-is (behind_back p b d ts) tests.1)
    by body known is_body is_known above h = absurd (false≢true h)

-- each front is one
of-front : (e : Entry) (told : List Told) → FrontOf (Drops e) told → release_first e told ≡ true
unfolding FrontOf Drops releases_by
of-front e told f = by e.pool refl told f.0 f.1
  where
    above : (p : ℕ) → nat_lt 0 (suc p) ≡ true
    above p = grind (arith, nat_tests)

    drops : (p : ℕ) → e.pool ≡ suc p → (d left : ℕ) (ts : List Told) → ((length ts == 0) || (left == 0) && is_nothing_behind (behind_back e.pool e.block d ts)) ≡ true
        → release_first e (dropped e.pool e.block d e.name left ∷ ts) ≡ true
    drops p is d left ts h = let some : nat_lt 0 e.pool ≡ true = ap (nat_lt 0) is ∙ above p in rw (some, same_number e.pool, same_number e.block, same_number e.name) h

    one : (p : ℕ) → e.pool ≡ suc p → (told back : List Told) (d left : ℕ) → told ++ back ≡ dropped e.pool e.block d e.name (suc left) ∷ [] → release_first e told ≡ true
    one p is [] back d left k = refl
    one p is (t ∷ []) back d left k =
        let first : t ≡ dropped e.pool e.block d e.name (suc left) = cc in
        ap (λ x. release_first e (x ∷ [])) first ∙ drops p is d (suc left) [] refl
    one p is (t ∷ u ∷ us) back d left k = absurd (cc)

    two : (p : ℕ) → e.pool ≡ suc p → (told back : List Told) (d n : ℕ) → told ++ back ≡ dropped e.pool e.block d e.name 0 ∷ plain (item.Back e.pool n e.block (d + 1)) ∷ [] → release_first e told ≡ true
    two p is [] back d n k = refl
    two p is (t ∷ []) back d n k =
        let first : t ≡ dropped e.pool e.block d e.name 0 = cc in
        ap (λ x. release_first e (x ∷ [])) first ∙ drops p is d 0 [] refl
    two p is (t ∷ u ∷ []) back d n k =
        let first : t ≡ dropped e.pool e.block d e.name 0 = cc in
        let second : u ≡ plain (item.Back e.pool n e.block (d + 1)) = cc in
        let reads : is_nothing_behind (behind_back e.pool e.block d (plain (item.Back e.pool n e.block (d + 1)) ∷ [])) ≡ true =
        rw (same_number e.pool, same_number e.block, same_number (d + 1)) refl in
        ap (λ x. release_first e (x ∷ u ∷ [])) first ∙ ap (λ x. release_first e (dropped e.pool e.block d e.name 0 ∷ x ∷ [])) second
        ∙ drops p is d 0 (plain (item.Back e.pool n e.block (d + 1)) ∷ [])
        (or_right (length (plain (item.Back e.pool n e.block (d + 1)) ∷ []) == 0) (is_nothing_behind (behind_back e.pool e.block d (plain (item.Back e.pool n e.block (d + 1)) ∷ []))) reads)
    two p is (t ∷ u ∷ v ∷ vs) back d n k = absurd (cc)

    by : (p : ℕ) → e.pool ≡ p → (told back : List Told) → releases_by p e (told ++ back) → release_first e told ≡ true
    by zero is [] back r = refl
    by zero is (t ∷ ts) back r = absurd (cc)
    by (suc p) is told back (inl r) = one p is told back r.0 r.1 r.2
    by (suc p) is told back (inr r) = two p is told back r.0 r.1 r.2

pub release-decided : (e : Entry) (told : List Told) (b : Bool) → b ≡ release_first e told → Decides b (FrontOf (Drops e) told)
release-decided e told b is = decides-by (FrontOf (Drops e) told) b (λ h. front-of e told (sym is ∙ h)) (λ f. is ∙ of-front e told f)

pub release-group : (e : Entry) (more : List Told) (r : Option (List Told)) → r ≡ behind_release e more → IsUnambiguous (Drops e) more r
release-group e more r is = subst (IsUnambiguous (Drops e) more) (sym is) (release-leaves e more)
