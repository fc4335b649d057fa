-- Each record says what is of its kind.
use Rattle.std.proofs.Common.{◌≡◌, ℕ, Bool, true, false, ◌||◌, ◌==◌, refl, arith}
use Rattle.std.proofs.lemmas.Bool.Decides.{nat_tests}
use Rattle.qp_model.specs.declared.record.Rec.{Rec}
use Rattle.qp_model.specs.declared.bodies.Body.{Body}
use Rattle.qp_model.specs.declared.bodies.Body.TheVariants as body
use Rattle.qp_model.specs.Record.{body_of}
use Rattle.qp_model.specs.Ends.{is_assert, is_spent, is_spill}
use Rattle.qp_model.specs.Knowing.{ceiling_after}
use Rattle.qp_model.specs.KindSorts.{is_malformed, kind_in}
use Rattle.qp_model.proofs.KindLemmas.{kinds_hold}
use Rattle.qp_model.specs.TellingKinds.{KindsTell}

pub kinds_tell : KindsTell
unfolding body_of
kinds_tell r = kinds_hold r.kind r.nums.items

-- a record of another kind doesn't say what is of this kind alone
pub says-other : (p : Body → Bool) (k : ℕ) → ((b : Body) → p b ≡ true → (is_malformed b ≡ false) × (kind_in b ≡ k)) → (r : Rec) → (r.kind ≡ k → ⊥) → p (body_of r) ≡ false
says-other p k alone r other = go (p (body_of r)) refl
  where
    go : (says : Bool) → p (body_of r) ≡ says → p (body_of r) ≡ false
    go false is = is
    go true is =
        let b = alone (body_of r) is in
        let tells : (is_malformed (body_of r) || (kind_in (body_of r) == r.kind)) ≡ true = kinds_tell r in
        let same : (k == r.kind) ≡ true = rw (b.0, b.1) at tells in
        absurd (other (grind (arith, nat_tests)))

pub assert-alone : (b : Body) → is_assert b ≡ true → (is_malformed b ≡ false) × (kind_in b ≡ 42)
assert-alone (body.NoEntry a f l m) h = (refl, refl)
assert-alone (body.NoBlock p n free) h = (refl, refl)
assert-alone (body.Armed t n c) h = (refl, refl)
assert-alone (body.BadTicks t ticks interval) h = (refl, refl)
assert-alone (body.NoLifo a f l m) h = (refl, refl)
assert-alone _ h = absurd (cc)

pub spent-alone : (b : Body) → is_spent b ≡ true → (is_malformed b ≡ false) × (kind_in b ≡ 43)
spent-alone body.Spent h = (refl, refl)
spent-alone _ h = absurd (cc)

pub spill-alone : (b : Body) → is_spill b ≡ true → (is_malformed b ≡ false) × (kind_in b ≡ 44)
spill-alone (body.Spill n) h = (refl, refl)
spill-alone _ h = absurd (cc)

-- a record of another kind doesn't set the ceiling
pub ceiling-stays : (r : Rec) → (r.kind ≡ 24 → ⊥) → (r.kind ≡ 25 → ⊥) → (ceiling : ℕ) → ceiling_after ceiling (body_of r) ≡ ceiling
ceiling-stays r lock unlock ceiling = go (body_of r) (kinds_tell r)
  where
    go : (b : Body) → (is_malformed b || (kind_in b == r.kind)) ≡ true → ceiling_after ceiling b ≡ ceiling
    go (body.Lock c) tells = absurd (lock (grind (arith, nat_tests, tells)))
    go (body.Unlock c) tells = absurd (unlock (grind (arith, nat_tests, tells)))
    go _ tells = refl
