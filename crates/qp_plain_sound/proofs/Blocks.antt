-- One block and its tokens, when a record is added.
use Rattle.std.proofs.Common.{◌≡◌, ℕ, zero, suc, ◌+◌, ◌<◌, ◌≤◌, ◌==◌, true, false, List, [], ◌∷◌, refl, sym, ◌∙◌, arith}
use Rattle.qp_chart.specs.StateTree.{has}
use Rattle.qp_model.specs.Lists.{without_one}
use Rattle.qp_model.specs.References.{Refs}
use Rattle.qp_model.specs.Lives.{Life}
use Rattle.qp_calls.specs.Counting.{one_if, times}
use Rattle.qp_plain_sound.specs.Sound.{BlockOk}
use Rattle.qp_plain_sound.proofs.Times.{times-without_one}

-- nothing of the block changes
pub ok-same : (life lifeʹ : Life) (refs refsʹ : Refs) (held queued heldʹ queuedʹ : ℕ → ℕ) (fresh used freshʹ usedʹ : ℕ) → lifeʹ ≡ life → refsʹ ≡ refs
    → ((r : ℕ) → heldʹ r ≡ held r) → ((r : ℕ) → queuedʹ r ≡ queued r) → freshʹ ≡ fresh → usedʹ ≡ used
    → BlockOk life refs held queued fresh used → BlockOk lifeʹ refsʹ heldʹ queuedʹ freshʹ usedʹ
ok-same life lifeʹ refs refsʹ held queued heldʹ queuedʹ fresh used freshʹ usedʹ life_is refs_is held_is queued_is fresh_same used_same old = record {
  owned = λ r. rw (refs_is, held_is r, queued_is r) (old.owned r);
  lone = rw (fresh_same, used_same) old.lone;
  fresh_is = rw (fresh_same, refs_is, life_is) old.fresh_is;
  used_is = rw (used_same, refs_is, life_is) old.used_is;
  kept = rw (fresh_same, used_same, refs_is, life_is) old.kept;
  idle = rw (refs_is, life_is) old.idle;
}

abbrev pub refs_of : ℕ → List ℕ → Refs
refs_of count names = record { count = count; names = names }

-- the block is given out; its word has had as many operations as its life's edge
pub ok-new : (life : Life) (refs : Refs) (held queued : ℕ → ℕ) (fresh used from : ℕ) → life.out ≡ false → from ≡ refs.count
    → BlockOk life refs held queued fresh used → BlockOk (record { out = true; edge = from }) refs held queued (suc fresh) used
ok-new life refs held queued fresh used from out at old = record {
  owned = old.owned;
  lone = omega (arith, none_fresh fresh old.fresh_is, none_used used old.used_is);
  fresh_is = λ some. (old.idle out, refl, at);
  used_is = λ some. absurd (omega (arith, some, none_used used old.used_is));
  kept = λ given empty. omega (arith, none_fresh fresh old.fresh_is, none_used used old.used_is);
  idle = λ wrong. absurd (cc);
}
  where
    none_fresh : (n : ℕ) → (0 < n → (refs.names ≡ []) × (life.out ≡ true) × (life.edge ≡ refs.count)) → n ≡ 0
    none_fresh zero h = refl
    none_fresh (suc n) h = let k = h (omega arith) in let wrong : true ≡ false = sym k.1 ∙ out in absurd (cc)

    none_used : (n : ℕ) → (0 < n → (refs.names ≡ []) × (life.out ≡ true) × (life.edge < refs.count)) → n ≡ 0
    none_used zero h = refl
    none_used (suc n) h = let k = h (omega arith) in let wrong : true ≡ false = sym k.1 ∙ out in absurd (cc)

-- where a reference stands, the block isn't in hands without one
pub none : (refs : Refs) (n k : ℕ) → has refs.names k ≡ true → (0 < n → refs.names ≡ []) → n ≡ 0
none refs zero k stands h = refl
none refs (suc n) k stands h = let e = h (omega arith) in let wrong = rw e at stands in absurd (cc)

-- a reference is made: the first one, or another one
pub ok-inc : (life : Life) (refs : Refs) (held heldʹ queued : ℕ → ℕ) (fresh freshʹ used usedʹ : ℕ) → life.out ≡ true
    → ((r : ℕ) → heldʹ r ≡ held r + one_if (refs.count == r)) → freshʹ ≡ 0 → usedʹ ≡ 0
    → BlockOk life refs held queued fresh used → BlockOk life (refs_of (refs.count + 1) (refs.count ∷ refs.names)) heldʹ queued freshʹ usedʹ
unfolding times
ok-inc life refs held heldʹ queued fresh freshʹ used usedʹ out more no_fresh no_used old = record {
  owned = λ r. omega (arith, more r, old.owned r);
  lone = omega (arith, no_fresh, no_used);
  fresh_is = λ some. absurd (omega (arith, some, no_fresh));
  used_is = λ some. absurd (omega (arith, some, no_used));
  kept = λ given empty. absurd (cc);
  idle = λ wrong. let bad : true ≡ false = sym out ∙ wrong in absurd (cc);
}

-- a reference is dropped; where none is left, the block is loose and used
pub ok-dec : (life : Life) (refs : Refs) (held heldʹ queued : ℕ → ℕ) (k fresh used : ℕ) → life.out ≡ true → has refs.names k ≡ true
    → ((r : ℕ) → heldʹ r + one_if (k == r) ≡ held r) → life.edge ≤ refs.count
    → BlockOk life refs held queued fresh used → (left : List ℕ) → without_one k refs.names ≡ left → (more : ℕ) → (0 < more → left ≡ []) → (left ≡ [] → more ≡ 1) → more ≤ 1
    → BlockOk life (refs_of (refs.count + 1) left) heldʹ queued fresh (used + more)
ok-dec life refs held heldʹ queued k fresh used out stands less within old left left_is more last whole few =
    let no_fresh : fresh ≡ 0 = none refs fresh k stands (λ some. (old.fresh_is some).0) in
    let no_used : used ≡ 0 = none refs used k stands (λ some. (old.used_is some).0) in
    record {
      owned = λ r. let t = times-without_one refs.names k r stands in rw (sym left_is) (omega (arith, less r, old.owned r, t));
      lone = omega (arith, no_fresh, no_used, few);
      fresh_is = λ some. absurd (omega (arith, some, no_fresh));
      used_is = λ some. (last (omega (arith, some, no_used)), out, omega (arith, within));
      kept = λ given empty. let all = whole empty in omega (arith, no_fresh, no_used, all);
      idle = λ wrong. let bad : true ≡ false = sym out ∙ wrong in absurd (cc);
    }

-- the block comes back
pub ok-back : (life : Life) (refs : Refs) (held queued : ℕ → ℕ) (fresh used usedʹ to : ℕ) → 0 < used → usedʹ + 1 ≡ used
    → BlockOk life refs held queued fresh used → BlockOk (record { out = false; edge = to }) refs held queued fresh usedʹ
ok-back life refs held queued fresh used usedʹ to some less old = record {
  owned = old.owned;
  lone = omega (arith, old.lone, less);
  fresh_is = λ f. absurd (omega (arith, old.lone, f, some));
  used_is = λ f. absurd (omega (arith, old.lone, f, less));
  kept = λ given empty. absurd (cc);
  idle = λ e. (old.used_is some).0;
}

-- a reference goes from the hands into a queue, or back
pub ok-moved : (life : Life) (refs : Refs) (held queued heldʹ queuedʹ : ℕ → ℕ) (fresh used : ℕ) → ((r : ℕ) → heldʹ r + queuedʹ r ≡ held r + queued r)
    → BlockOk life refs held queued fresh used → BlockOk life refs heldʹ queuedʹ fresh used
ok-moved life refs held queued heldʹ queuedʹ fresh used moved old = record {
  owned = λ r. omega (arith, moved r, old.owned r);
  lone = old.lone;
  fresh_is = old.fresh_is;
  used_is = old.used_is;
  kept = old.kept;
  idle = old.idle;
}
