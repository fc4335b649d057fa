-- Which looks have a stimulus, after one happening more.
use Rattle.std.proofs.Common.{◌≡◌, ℕ, ◌+◌, ◌<◌, ◌≤◌, ◌==◌, cond, Bool, true, false, ◌||◌, List, [], ◌∷◌, ◌++◌, length, refl, sym, ◌∙◌, ap, None, arith, append-nil, append_assoc}
use Rattle.std.specs.List.{list_any}
use Rattle.std.proofs.lemmas.Bool.{or_right}
use Rattle.std.proofs.lemmas.Bool.Decides.{nat_tests}
use Rattle.qp_model.specs.declared.stimulus.Stim.{Stim}
use Rattle.qp_model.specs.declared.bodies.Body.{Body}
use Rattle.qp_model.specs.declared.bodies.Body.TheVariants as body
use Rattle.qp_model.specs.Record.{Item}
use Rattle.qp_model.specs.Told.{Told, plain}
use Rattle.qp_model.specs.OneOrder.{is_stim_at, stim_of}
use Rattle.qp_model_order.specs.Placing.{AreBehind}
use Rattle.qp_model_order.specs.RunOrder.{has_stim}
use Rattle.qp_model_order.specs.Stimulus.{source_items}
use Rattle.qp_model_order.proofs.StimulusForm.{items-append}
use Rattle.qp_calls.specs.LaneView.{Happening}
use Rattle.qp_kernel.specs.Happenings.{lanes_from, told_by_source}

abbrev pub has_at : ℕ → List Item → Bool
has_at k is = list_any (λ i. is_stim_at k i.body) is

any-append : (k : ℕ) (xs ys : List Item) → has_at k (xs ++ ys) ≡ (has_at k xs || has_at k ys)
any-append k [] ys = refl
any-append k (x ∷ xs) ys = by (is_stim_at k x.body) (any-append k xs ys)
  where
    by : (b : Bool) → has_at k (xs ++ ys) ≡ (has_at k xs || has_at k ys) → (b || has_at k (xs ++ ys)) ≡ ((b || has_at k xs) || has_at k ys)
    by true h = refl
    by false h = h

or-none : (b c : Bool) → c ≡ false → (b || c) ≡ b
or-none true c h = refl
or-none false c h = h

told-more : (n : ℕ) (hs : List Happening) (h : Happening) → told_by_source n (hs ++ h ∷ []) ≡ told_by_source n hs ++ (cond (h.source == n) h.told [])
unfolding told_by_source
told-more n [] h = append-nil (cond (h.source == n) h.told [])
told-more n (x ∷ hs) h = ap (λ ts. cond (x.source == n) x.told [] ++ ts) (told-more n hs h) ∙ sym (append_assoc (cond (x.source == n) x.told []) (told_by_source n hs) (cond (h.source == n) h.told []))

lane-more : (k n : ℕ) (hs : List Happening) (h : Happening) → has_at k (source_items (told_by_source n (hs ++ h ∷ []))) ≡ (has_at k (source_items (told_by_source n hs)) || has_at k (source_items (cond (h.source == n) h.told [])))
lane-more k n hs h =
    ap (λ ts. has_at k (source_items ts)) (told-more n hs h) ∙ ap (has_at k) (items-append (told_by_source n hs) (cond (h.source == n) h.told [])) ∙ any-append k (source_items (told_by_source n hs)) (source_items (cond (h.source == n) h.told []))

-- a look that it has no `stim` of
pub stims-same : (k i : ℕ) (plan : List (List Stim)) (hs : List Happening) (h : Happening) → has_at k (source_items h.told) ≡ false → has_stim (lanes_from i plan (hs ++ h ∷ [])) k ≡ has_stim (lanes_from i plan hs) k
unfolding lanes_from
stims-same k i [] hs h none = refl
stims-same k i (ss ∷ more) hs h none =
    let rest = stims-same k (i + 1) more hs h none in
    let head : has_at k (source_items (told_by_source i (hs ++ h ∷ []))) ≡ has_at k (source_items (told_by_source i hs)) = lane-more k i hs h ∙ or-none (has_at k (source_items (told_by_source i hs))) (has_at k (source_items (cond (h.source == i) h.told []))) (by (h.source == i)) in
    ap (λ b. b || has_stim (lanes_from (i + 1) more (hs ++ h ∷ [])) k) head ∙ ap (λ b. has_at k (source_items (told_by_source i hs)) || b) rest
  where
    by : (b : Bool) → has_at k (source_items (cond b h.told [])) ≡ false
    by true = none
    by false = refl

-- its own look
pub stims-more : (k i : ℕ) (plan : List (List Stim)) (hs : List Happening) (h : Happening) → has_at k (source_items h.told) ≡ true → i ≤ h.source → h.source < i + length plan → has_stim (lanes_from i plan (hs ++ h ∷ [])) k ≡ true
unfolding lanes_from
stims-more k i [] hs h some low few = absurd (omega (arith, low, few))
stims-more k i (ss ∷ more) hs h some low few = by (h.source == i) refl (λ l f. stims-more k (i + 1) more hs h some l f) (lane-more k i hs h)
  where
    by : (b : Bool) → (h.source == i) ≡ b → (i + 1 ≤ h.source → h.source < i + 1 + length more → has_stim (lanes_from (i + 1) more (hs ++ h ∷ [])) k ≡ true)
        → has_at k (source_items (told_by_source i (hs ++ h ∷ []))) ≡ (has_at k (source_items (told_by_source i hs)) || has_at k (source_items (cond b h.told [])))
        → (has_at k (source_items (told_by_source i (hs ++ h ∷ []))) || has_stim (lanes_from (i + 1) more (hs ++ h ∷ [])) k) ≡ true
    by true is go lane = let here : has_at k (source_items (told_by_source i (hs ++ h ∷ []))) ≡ true = lane ∙ or_right (has_at k (source_items (told_by_source i hs))) (has_at k (source_items h.told)) some in rw here refl
    by false is go lane =
        let other : i + 1 ≤ h.source = grind (arith, nat_tests) in
        or_right (has_at k (source_items (told_by_source i (hs ++ h ∷ [])))) (has_stim (lanes_from (i + 1) more (hs ++ h ∷ [])) k) (go other (omega (arith, few)))

-- records behind a `stim` have none
pub behind-none : (cuts : Bool) (k : ℕ) (is : List Item) → AreBehind cuts is → has_at k is ≡ false
behind-none cuts k [] h = refl
behind-none cuts k (i ∷ is) h = rw (no-stim i.body h.0, behind-none cuts k is h.2) refl
  where
    no-stim : (b : Body) → stim_of b ≡ None → is_stim_at k b ≡ false
    no-stim (body.Stim p n) e = absurd (cc)
    no-stim _ e = refl

-- a stimulus with its records
pub stim-here : (p n : ℕ) (one : List Told) → has_at n (source_items (plain (body.Stim p n) ∷ one)) ≡ true
stim-here p n one = let self : (n == n) ≡ true = grind (arith, nat_tests) in rw self refl

pub stim-there : (cuts : Bool) (p n k : ℕ) (one : List Told) → (n == k) ≡ false → AreBehind cuts (source_items one) → has_at k (source_items (plain (body.Stim p n) ∷ one)) ≡ false
stim-there cuts p n k one other behind = rw (other, behind-none cuts k (source_items one) behind) refl
