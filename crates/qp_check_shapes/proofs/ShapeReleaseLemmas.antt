-- Releases of entries are read off the front of a list.
use Rattle.std.proofs.Common.{◌≡◌, ℕ, zero, suc, ◌+◌, ◌==◌, Bool, true, false, cond, ◌&&◌, List, [], ◌∷◌, ◌++◌, Some, None, refl, sym, ◌∙◌, ap, inl, inr, arith}
use Rattle.std.proofs.lemmas.Bool.Decides.{nat_tests}
use Rattle.std.specs.declared.option.Option.{Option}
use Rattle.std.proofs.lemmas.Option.{none-some}
use Rattle.qp_model.specs.declared.bodies.Entry.{Entry}
use Rattle.qp_model.specs.declared.bodies.Body.{Body}
use Rattle.qp_model.specs.declared.bodies.Body.TheVariants as item
use Rattle.qp_model.specs.Told.{Told, Known, Nothing, Left, plain, dropped}
use Rattle.qp_model.specs.Shapes.{Drops, Releases, releases_by}
use Rattle.qp_model.proofs.LineLemmas.{same_number}
use Rattle.qp_check_shapes.specs.ShapeRelease.{IsUnambiguous, when, back_first, behind_back, left_behind, drop_first, behind_drop, behind_release}
use Rattle.qp_model.proofs.RecordLemmas.{told-is}

-- what a reader answers is what stands behind, where it answers that behind each such list, and only there
pub leaves : (P : List Told → Type 0) (behind : List Told → Option (List Told))
    → ((told rest : List Told) → behind told ≡ Some rest → (g : List Told) × P g × (told ≡ g ++ rest))
    → ((g rest : List Told) → P g → behind (g ++ rest) ≡ Some rest)
    → (told : List Told) → IsUnambiguous P told (behind told)
unfolding IsUnambiguous
leaves P behind sound whole told = by (behind told) refl
  where
    by : (r : Option (List Told)) → behind told ≡ r → IsUnambiguous P told r
    by None is = λ g rest e h. let one : behind (g ++ rest) ≡ Some rest = whole g rest h in let two : behind (g ++ rest) ≡ None = ap behind (sym e) ∙ is in cc
    by (Some rest) is = (
      sound told rest is,
      λ g other e h. let one : behind (g ++ other) ≡ Some other = whole g other h in let two : behind (g ++ other) ≡ Some rest = ap behind (sym e) ∙ is in cc,
    )

-- a test that is passed, and what stands behind it
pub when-passed : (test : Bool) (told rest : List Told) → when test told ≡ Some rest → (test ≡ true) × (told ≡ rest)
when-passed true told rest h = (refl, cc)
when-passed false told rest h = cc

back-sound : (p b d : ℕ) (told rest : List Told) → behind_back p b d told ≡ Some rest → (n : ℕ) × (told ≡ plain (item.Back p n b (d + 1)) ∷ rest)
back-sound p b d [] rest h = absurd (cc)
back-sound p b d (t ∷ ts) rest h = by t.body t.known refl refl h
  where
    by : (body : Body) (known : Known) → t.body ≡ body → t.known ≡ known → back_first p b d body known ts ≡ Some rest → (n : ℕ) × (t ∷ ts ≡ plain (item.Back p n b (d + 1)) ∷ rest)
    by (item.Back q n c to) Nothing is_body is_known k =
        let passed = when-passed _ ts rest k in
        let test : ((q == p) && (c == b) && (to == d + 1)) ≡ true = passed.0 in
        let e1 : q ≡ p = grind (arith, nat_tests) in
        let e2 : c ≡ b = grind (arith, nat_tests) in
        let e3 : to ≡ d + 1 = grind (arith, nat_tests) in
        let whole : t ≡ plain (item.Back q n c to) = told-is t _ _ is_body is_known in
        let behind : ts ≡ rest = passed.1 in
        (n, cc)
    by body known is_body is_known k = absurd (none-some _ k)

-- the release of an entry of a pool
drop-sound : (e : Entry) (told rest : List Told) → behind_drop e told ≡ Some rest → (g : List Told) × Releases e.pool e.block e.name g × (told ≡ g ++ rest)
drop-sound e [] rest h = absurd (cc)
drop-sound e (t ∷ ts) rest h = by t.body t.known refl refl h
  where
    by : (body : Body) (known : Known) → t.body ≡ body → t.known ≡ known → drop_first e body known ts ≡ Some rest
        → (g : List Told) × Releases e.pool e.block e.name g × (t ∷ ts ≡ g ++ rest)
    by (item.Dec p b d k) (Left left) is_body is_known h = go ((p == e.pool) && (b == e.block) && (k == e.name)) refl left is_known h
      where
        go : (same : Bool) → ((p == e.pool) && (b == e.block) && (k == e.name)) ≡ same → (left : ℕ) → t.known ≡ Left left
            → cond same (left_behind p b d left ts) None ≡ Some rest → (g : List Told) × Releases e.pool e.block e.name g × (t ∷ ts ≡ g ++ rest)
        go false is left is_known h = absurd (cc)
        go true is zero is_known h =
            let e1 : p ≡ e.pool = grind (arith, nat_tests) in
            let e2 : b ≡ e.block = grind (arith, nat_tests) in
            let e3 : k ≡ e.name = grind (arith, nat_tests) in
            let back = back-sound p b d ts rest h in
            let behind : ts ≡ plain (item.Back p back.0 b (d + 1)) ∷ rest = back.1 in
            let whole : t ≡ dropped p b d k 0 = told-is t _ _ is_body is_known in
            (dropped e.pool e.block d e.name 0 ∷ plain (item.Back e.pool back.0 e.block (d + 1)) ∷ [], inr (d, back.0, refl), cc)
        go true is (suc left) is_known h =
            let e1 : p ≡ e.pool = grind (arith, nat_tests) in
            let e2 : b ≡ e.block = grind (arith, nat_tests) in
            let e3 : k ≡ e.name = grind (arith, nat_tests) in
            let whole : t ≡ dropped p b d k (suc left) = told-is t _ _ is_body is_known in
            (dropped e.pool e.block d e.name (suc left) ∷ [], inl (d, left, refl), cc)
    by body known is_body is_known h = absurd (none-some _ h)

drop-whole : (e : Entry) (g rest : List Told) → Releases e.pool e.block e.name g → behind_drop e (g ++ rest) ≡ Some rest
drop-whole e g rest (inl h) = rw (h.2, same_number e.pool, same_number e.block, same_number e.name) refl
drop-whole e g rest (inr h) = rw (h.2, same_number e.pool, same_number e.block, same_number e.name, same_number (h.0 + 1)) refl

pub release-sound : (e : Entry) (told rest : List Told) → behind_release e told ≡ Some rest → (g : List Told) × Drops e g × (told ≡ g ++ rest)
unfolding behind_release Drops releases_by
release-sound e told rest h = by e.pool refl h
  where
    by : (p : ℕ) → e.pool ≡ p → cond (p == 0) (Some told) (behind_drop e told) ≡ Some rest → (g : List Told) × releases_by p e g × (told ≡ g ++ rest)
    by zero is h = ([], refl, cc)
    by (suc p) is h = let more : (suc p == 0) ≡ false = grind (arith, nat_tests) in drop-sound e told rest (rw more at h)

pub release-whole : (e : Entry) (g rest : List Told) → Drops e g → behind_release e (g ++ rest) ≡ Some rest
unfolding behind_release Drops releases_by
release-whole e g rest h = by e.pool h
  where
    by : (p : ℕ) → releases_by p e g → cond (p == 0) (Some (g ++ rest)) (behind_drop e (g ++ rest)) ≡ Some rest
    by zero h = rw h refl
    by (suc p) h = let more : (suc p == 0) ≡ false = grind (arith, nat_tests) in rw more (drop-whole e g rest h)

-- the release of an entry is read off
pub release-leaves : (e : Entry) (told : List Told) → IsUnambiguous (Drops e) told (behind_release e told)
release-leaves e told = leaves (Drops e) (behind_release e) (release-sound e) (release-whole e) told
