-- Records at the front of a list, and tests.
use Rattle.std.proofs.Common.{◌≡◌, Bool, true, false, cond, List, [], ◌∷◌, Some, None, refl}
use Rattle.std.specs.declared.option.Option.{Option}
use Rattle.std.specs.Option.{option_map}
use Rattle.qp_model.specs.Told.{Told}
use Rattle.qp_check_calls.specs.Decides.{Decides}

-- the first record, and those behind it
pub first-is : (t s : Told) (g h : List Told) → t ∷ g ≡ s ∷ h → (t ≡ s) × (g ≡ h)
first-is t s g h e = (cc, cc)

pub none-first : (t : Told) (g : List Told) → t ∷ g ≡ [] → ⊥
none-first t g e = cc

-- a test that is passed
pub passed : {A : Type 0} (test : Bool) (s s' : A) → cond test (Some s) None ≡ Some s' → (test ≡ true) × (s' ≡ s)
passed true s s' h = (refl, cc)
passed false s s' h = absurd (cc)

-- an answer that is right in both cases
pub decides : (b : Bool) (P : Type 0) → (b ≡ true → P) → (b ≡ false → P → ⊥) → Decides b P
unfolding Decides
decides true P holds fails = holds refl
decides false P holds fails = fails refl

-- a test decides what is the same
pub decides-same : (b : Bool) (P Q : Type 0) → (P → Q) → (Q → P) → Decides b P → Decides b Q
unfolding Decides
decides-same true P Q to back d = to d
decides-same false P Q to back d = λ q. d (back q)

-- an option of another that has a value
pub mapped : {A B : Type 0} (f : A → B) (o : Option A) (b : B) → option_map f o ≡ Some b → (a : A) × (o ≡ Some a) × (b ≡ f a)
mapped f None b e = absurd (cc)
mapped f (Some a) b e = (a, refl, cc)
