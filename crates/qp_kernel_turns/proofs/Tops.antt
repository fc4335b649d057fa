-- The top of the stack.
use Rattle.std.proofs.Common.{◌≡◌, ℕ, ◌-◌, ◌<◌, max, cond, Bool, true, false, List, [], ◌∷◌, ◌++◌, length, reverse, refl, sym, ◌∙◌, ap, subst, Option, Some, None, arith, length-append}
use Rattle.std.specs.Prelude.{IsSome, slice_get}
use Rattle.std.specs.List.{AllByRecursion}
use Rattle.std.specs.Option.{option_to_list}
use Rattle.std.proofs.lemmas.List.{reverse-append}
use Rattle.qp_model.specs.declared.systems.System.{System}
use Rattle.qp_model.specs.Kernels.{sim, qk, qv}
use Rattle.qp_model.specs.KernelLane.{floor_in, threshold_of}
use Rattle.qp_kernel.specs.Turning.{Terms, kernel_in}
use Rattle.qp_kernel_turns.specs.declared.objects.Objects.{Objects}
use Rattle.qp_kernel_turns.specs.Objects.{threshold_in}
use Rattle.qp_kernel_turns.specs.Turning.{AreHeld}

pub last-get : (front : List ℕ) (p : ℕ) → slice_get (front ++ p ∷ []) (length (front ++ p ∷ []) - 1) ≡ Some p
last-get front p = ap (λ n. slice_get (front ++ p ∷ []) (n - 1)) (length-append front (p ∷ [])) ∙ ap (slice_get (front ++ p ∷ [])) (omega arith) ∙ at front
  where
    at : (xs : List ℕ) → slice_get (xs ++ p ∷ []) (length xs) ≡ Some p
    at [] = refl
    at (x ∷ xs) = at xs

pub top-is : (stack front : List ℕ) (p q : ℕ) → stack ≡ front ++ p ∷ [] → Some q ≡ slice_get stack (length stack - 1) → q ≡ p
top-is stack front p q is h = let all : Some q ≡ Some p = h ∙ ap (λ xs. slice_get xs (length xs - 1)) is ∙ last-get front p in cc

-- a list that isn't empty has a last element
pub split-last : (xs : List ℕ) → (x : ℕ) (ys : List ℕ) → xs ≡ x ∷ ys → (front : List ℕ) × (p : ℕ) × (xs ≡ front ++ p ∷ [])
split-last [] x ys h = absurd (cc)
split-last (z ∷ []) x ys h = ([], z, refl)
split-last (z ∷ u ∷ zs) x ys h = let rest = split-last (u ∷ zs) u zs refl in (z ∷ rest.0, rest.1, ap (λ l. z ∷ l) rest.2)

all-last : {A : Type 0} (P : A → Type 0) (front : List A) (p : A) → AllByRecursion P (front ++ p ∷ []) → P p
all-last P [] p h = h.0
all-last P (x ∷ xs) p h = all-last P xs p h.1

-- the floor
pub floor-none : (sys : System) (terms : Terms) (stack : List ℕ) (xs : Objects) → None ≡ slice_get stack (length stack - 1) → 0 ≡ floor_in sys (kernel_in terms) (reverse stack) xs.ceiling
unfolding floor_in
floor-none sys terms [] xs h = refl
floor-none sys terms (x ∷ rest) xs h =
    let s = split-last (x ∷ rest) x rest refl in
    let wrong : None ≡ Some s.1 = h ∙ ap (λ l. slice_get l (length l - 1)) s.2 ∙ last-get s.0 s.1 in absurd (cc)

floor-top : (sys : System) (terms : Terms) (p : ℕ) (outer running : List ℕ) (ceiling : ℕ) → terms.cooperative ≡ false → running ≡ p ∷ outer → (threaded : Bool) → terms.threaded ≡ threaded
    → max (threshold_of sys p) ceiling ≡ floor_in sys (kernel_in terms) running ceiling
unfolding floor_in
floor-top sys terms p outer running ceiling plain turned false is =
    let kernel : kernel_in terms ≡ sim = ap (λ b. cond b qk (cond terms.cooperative qv sim)) is ∙ ap (λ b. cond b qv sim) plain in
    sym (ap (λ l. floor_in sys sim l ceiling) turned) ∙ sym (ap (λ k. floor_in sys k running ceiling) kernel)
floor-top sys terms p outer running ceiling plain turned true is =
    let kernel : kernel_in terms ≡ qk = ap (λ b. cond b qk (cond terms.cooperative qv sim)) is in
    sym (ap (λ l. floor_in sys qk l ceiling) turned) ∙ sym (ap (λ k. floor_in sys k running ceiling) kernel)

-- the floor within a step of a kernel whose steps interrupt one another
pub floor-some : (sys : System) (terms : Terms) (stack : List ℕ) (xs : Objects) (p floor : ℕ) → terms.cooperative ≡ false → AreHeld sys stack xs → Some p ≡ slice_get stack (length stack - 1)
    → floor ≡ max (threshold_in xs.slots.items p) xs.ceiling → floor ≡ floor_in sys (kernel_in terms) (reverse stack) xs.ceiling
unfolding floor_in
floor-some sys terms [] xs p floor plain held h is = absurd (cc)
floor-some sys terms (x ∷ rest) xs p floor plain held h is =
    let s = split-last (x ∷ rest) x rest refl in
    let same : p ≡ s.1 = top-is (x ∷ rest) s.0 s.1 p s.2 h in
    let here : threshold_in xs.slots.items s.1 ≡ threshold_of sys s.1 = all-last (λ q. threshold_in xs.slots.items q ≡ threshold_of sys q) s.0 s.1 (subst (λ l. AreHeld sys l xs) s.2 held) in
    let turned : reverse (x ∷ rest) ≡ s.1 ∷ reverse s.0 = ap reverse s.2 ∙ reverse-append s.0 (s.1 ∷ []) in
    is ∙ ap (λ q. max (threshold_in xs.slots.items q) xs.ceiling) same ∙ ap (λ t. max t xs.ceiling) here ∙ floor-top sys terms s.1 (reverse s.0) (reverse (x ∷ rest)) xs.ceiling plain turned terms.threaded refl

-- and of one whose steps don't
pub floor-within : (sys : System) (terms : Terms) (stack : List ℕ) (xs : Objects) (p : ℕ) → terms.threaded ≡ false → terms.cooperative ≡ true → Some p ≡ slice_get stack (length stack - 1)
    → 32 ≡ floor_in sys (kernel_in terms) (reverse stack) xs.ceiling
unfolding floor_in
floor-within sys terms [] xs p single alone h = absurd (cc)
floor-within sys terms (x ∷ rest) xs p single alone h =
    let s = split-last (x ∷ rest) x rest refl in
    let turned : reverse (x ∷ rest) ≡ s.1 ∷ reverse s.0 = ap reverse s.2 ∙ reverse-append s.0 (s.1 ∷ []) in
    let kernel : kernel_in terms ≡ qv = ap (λ b. cond b qk (cond terms.cooperative qv sim)) single ∙ ap (λ b. cond b qv sim) alone in
    sym (ap (λ l. floor_in sys qv l xs.ceiling) turned) ∙ sym (ap (λ k. floor_in sys k (reverse (x ∷ rest)) xs.ceiling) kernel)

snoc-inj : (xs ys : List ℕ) (x y : ℕ) → xs ++ x ∷ [] ≡ ys ++ y ∷ [] → xs ≡ ys
snoc-inj [] [] x y h = refl
snoc-inj [] (b ∷ []) x y h = absurd (cc)
snoc-inj [] (b ∷ c ∷ ys) x y h = absurd (cc)
snoc-inj (a ∷ []) [] x y h = absurd (cc)
snoc-inj (a ∷ b ∷ xs) [] x y h = absurd (cc)
snoc-inj (a ∷ xs) (b ∷ ys) x y h =
    let rest : xs ++ x ∷ [] ≡ ys ++ y ∷ [] = cc in
    let head : a ≡ b = cc in
    ap (λ z. z ∷ xs) head ∙ ap (λ l. b ∷ l) (snoc-inj xs ys x y rest)

-- what `pop` leaves
pub popped-is : (stack front rest : List ℕ) (p : ℕ) (out : Option ℕ) → stack ≡ front ++ p ∷ [] → stack ≡ rest ++ option_to_list out → (0 < length stack → IsSome out) → rest ≡ front
popped-is stack front rest p None is h some =
    let one : 0 < length stack = let all = ap length is ∙ length-append front (p ∷ []) in omega (arith, all) in
    let wrong = some one in absurd (cc)
popped-is stack front rest p (Some q) is h some = snoc-inj rest front q p (sym h ∙ is)

pub empty-is : (stack : List ℕ) → None ≡ slice_get stack (length stack - 1) → stack ≡ []
empty-is [] h = refl
empty-is (x ∷ rest) h =
    let s = split-last (x ∷ rest) x rest refl in
    let wrong : None ≡ Some s.1 = h ∙ ap (λ l. slice_get l (length l - 1)) s.2 ∙ last-get s.0 s.1 in absurd (cc)

pub some-last : (stack : List ℕ) (p : ℕ) → Some p ≡ slice_get stack (length stack - 1) → (front : List ℕ) × (stack ≡ front ++ p ∷ [])
some-last [] p h = absurd (cc)
some-last (x ∷ rest) p h =
    let s = split-last (x ∷ rest) x rest refl in
    let same : p ≡ s.1 = top-is (x ∷ rest) s.0 s.1 p s.2 h in
    (s.0, subst (λ q. x ∷ rest ≡ s.0 ++ q ∷ []) (sym same) s.2)
