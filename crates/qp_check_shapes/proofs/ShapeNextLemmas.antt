-- The next post, as a loop over the members finds it.
use Rattle.std.proofs.Common.{◌≡◌, ℕ, zero, suc, ◌+◌, ◌-◌, ◌/◌, ◌%◌, ◌^◌, ◌==◌, ◌<◌, ◌≤◌, true, false, refl, subst, arith}
use Rattle.qp_model.specs.declared.bodies.Entry.{Entry}
use Rattle.qp_check_shapes.specs.declared.shape_stage.Ceiling.{Ceiling}
use Rattle.qp_check_shapes.specs.declared.shape_stage.PublishStage.TheVariants as stage
use Rattle.qp_check_shapes.specs.ShapePublication.{after_posts, next_post}

pub next-here : (e : Entry) (set : ℕ) (c : Ceiling) (n : ℕ) → 0 < n → ((set / 2 ^ (n - 1)) % 2 == 1) ≡ true
    → stage.Posts (record { entry = e; to = n - 1 + 1; below = n - 1; set = set; ceiling = c }) ≡ next_post e set c n
unfolding next_post
next-here e set c zero h bit = absurd (omega arith)
next-here e set c (suc k) h bit =
    let low : suc k - 1 ≡ k = omega arith in
    let next : suc k - 1 + 1 ≡ suc k = omega arith in
    let here : ((set / 2 ^ k) % 2 == 1) ≡ true = subst (λ x. ((set / 2 ^ x) % 2 == 1) ≡ true) low bit in
    rw (next, low, here) refl

pub next-later : (e : Entry) (set : ℕ) (c : Ceiling) (n : ℕ) → 0 < n → ((set / 2 ^ (n - 1)) % 2 == 1) ≡ false → next_post e set c n ≡ next_post e set c (n - 1)
unfolding next_post
next-later e set c zero h bit = absurd (omega arith)
next-later e set c (suc k) h bit =
    let low : suc k - 1 ≡ k = omega arith in
    let here : ((set / 2 ^ k) % 2 == 1) ≡ false = subst (λ x. ((set / 2 ^ x) % 2 == 1) ≡ false) low bit in
    rw (low, here) refl

pub next-end : (e : Entry) (set : ℕ) (c : Ceiling) (n : ℕ) → n ≤ 0 → after_posts e c ≡ next_post e set c n
unfolding next_post
next-end e set c zero h = refl
next-end e set c (suc k) h = absurd (omega arith)
