-- What all objects keep at rest, in the order of the system.
use Rattle.std.proofs.Common.{◌≡◌, ℕ, zero, suc, ◌+◌, ◌-◌, ◌<◌, ◌≤◌, ◌==◌, Bool, true, false, cond, List, [], ◌∷◌, map, refl, sym, ◌∙◌, ap, subst, arith, Option, Some, None, append-nil}
use Rattle.std.specs.Prelude.{slice_get}
use Rattle.std.specs.List.{AllByRecursion, find}
use Rattle.std.specs.Option.{is_some, option_map}
use Rattle.std.proofs.lemmas.Bool.Decides.{nat_tests}
use Rattle.qp_model.specs.declared.systems.System.{System}
use Rattle.qp_model.specs.declared.systems.ObjectDef.{ObjectDef}
use Rattle.qp_model.specs.declared.bodies.Entry as model
use Rattle.qp_model.specs.Acts.{Config}
use Rattle.qp_model.specs.Laws.{Ascend}
use Rattle.qp_model.specs.Sites.{object_at}
use Rattle.qp_calls.specs.Tokens.{Token}
use Rattle.qp_calls.specs.Counting.{count_of, times}
use Rattle.qp_calls.specs.Deferring.{tokens_in}
use Rattle.qp_model.specs.Sound.{IsSound}
use Rattle.qp_calls.specs.Clauses.{entry_of}
use Rattle.qp_calls.specs.LaneView.{LaneView}
use Rattle.qp_dispatch.specs.Resume.{held_in}
use Rattle.qp_dispatch.proofs.ActLemmas.{tokens-join}
use Rattle.qp_kernel.specs.Laws.{kept_by}
use Rattle.qp_kernel.specs.Stages as stage
use Rattle.qp_kernel.specs.Stages.{Stage}
use Rattle.qp_kernel_turns.specs.declared.objects.Slot.{Slot}
use Rattle.qp_kernel_turns.specs.declared.objects.Objects.{Objects}
use Rattle.qp_kernel_turns.specs.Objects.{AreMade}
use Rattle.qp_kernel_turns.specs.Knowing.{HandsFollow, IsAtRest, IsObjectWithChart, KnowsAll, StageIs, kept_count, own_count}
use Rattle.qp_kernel_turns.proofs.Fresh.{kept-none, made-held}
use Rattle.qp_kernel_turns.proofs.SoundObjects.{named}

-- an object stands at each place from n on that the list has, and nowhere else
abbrev pub Seated : ℕ → List (Option Slot) → List ObjectDef → Type 0
Seated n xs ds = (k : ℕ) → option_map (λ (x : Option Slot). is_some x) (slice_get xs k) ≡ Some true → is_some (find (λ d. d.priority == n + k) ds) ≡ true

-- each object of the list stands at its place
abbrev pub Stands : ℕ → List (Option Slot) → (ℕ → Config) → Token → List ObjectDef → Type 0
Stands n xs keeps t ds =
    AllByRecursion (λ d. (slot : Slot) × (n ≤ d.priority) × (slice_get xs (d.priority - n) ≡ Some (Some slot)) × (own_count t slot.object ≡ count_of t (tokens_in (keeps d.priority).kept))) ds

-- of objects that ascend from a higher number on, none has this one
none-below : (n : ℕ) (ds : List ObjectDef) → AllByRecursion (λ d. n < d.priority) ds → find (λ d. d.priority == n) ds ≡ None
none-below n [] h = refl
none-below n (d ∷ ds) h =
    let lt = h.0 in
    let other : (d.priority == n) ≡ false = grind (arith, nat_tests, lt) in
    rw other (none-below n ds h.1)

all-above : (n : ℕ) (d : ObjectDef) (ds : List ObjectDef) → n < d.priority → AllByRecursion (λ e. d.priority < e.priority) ds → AllByRecursion (λ e. n < e.priority) ds
all-above n d [] lt h = tt
all-above n d (e ∷ ds) lt h = let next = h.0 in (omega (arith, lt, next), all-above n d ds lt h.1)

module _ (keeps : ℕ → Config) (t : Token) where
  -- the rest of the places, for objects that stand behind the first
  stands-behind : (n : ℕ) (x : Option Slot) (xs : List (Option Slot)) (ds : List ObjectDef) → AllByRecursion (λ d. n < d.priority) ds → Stands n (x ∷ xs) keeps t ds → Stands (n + 1) xs keeps t ds
  stands-behind n x xs [] above h = tt
  stands-behind n x xs (d ∷ ds) above h =
      let lt = above.0 in
      let step : d.priority - n ≡ suc (d.priority - (n + 1)) = omega (arith, lt) in
      ((h.0.0, omega (arith, lt), ap (slice_get (x ∷ xs)) (sym step) ∙ h.0.2, h.0.3), stands-behind n x xs ds above.1 h.1)

  seated-behind : (n : ℕ) (x : Option Slot) (xs : List (Option Slot)) (ds : List ObjectDef) → Seated n (x ∷ xs) ds → Seated (n + 1) xs ds
  seated-behind n x xs ds h k is = let same : n + suc k ≡ (n + 1) + k = omega arith in subst (λ m. is_some (find (λ d. d.priority == m) ds) ≡ true) same (h (suc k) is)

  pub kept-counts : (n : ℕ) (xs : List (Option Slot)) (ds : List ObjectDef) → Ascend ds → Stands n xs keeps t ds → Seated n xs ds
      → kept_count t xs ≡ count_of t (tokens_in (kept_by keeps ds))
  unfolding kept_count times
  kept-counts n [] [] ascend stands seated = refl
  kept-counts n [] (d ∷ ds) ascend stands seated = absurd (cc (stands.0.2))
  kept-counts n (x ∷ xs) [] ascend stands seated = empty x seated (kept-counts (n + 1) xs [] tt tt (seated-behind n x xs [] seated))
    where
      empty : (x : Option Slot) → Seated n (x ∷ xs) [] → kept_count t xs ≡ 0 → kept_count t (x ∷ xs) ≡ 0
      empty None seated later = later
      empty (Some s) seated later = let wrong : false ≡ true = seated 0 refl in absurd (cc)
  kept-counts n (x ∷ xs) (d ∷ ds) ascend stands seated = by (d.priority == n) refl x refl
      (kept-counts (n + 1) xs ds ascend.2) (kept-counts (n + 1) xs (d ∷ ds) ascend)
    where
      first : n ≤ d.priority
      first = stands.0.1

      by : (b : Bool) → (d.priority == n) ≡ b → (y : Option Slot) → x ≡ y
          → (Stands (n + 1) xs keeps t ds → Seated (n + 1) xs ds → kept_count t xs ≡ count_of t (tokens_in (kept_by keeps ds)))
          → (Stands (n + 1) xs keeps t (d ∷ ds) → Seated (n + 1) xs (d ∷ ds) → kept_count t xs ≡ count_of t (tokens_in (kept_by keeps (d ∷ ds))))
          → kept_count t (x ∷ xs) ≡ count_of t (tokens_in (kept_by keeps (d ∷ ds)))
      by true is y same behind whole =
          let here : d.priority ≡ n = grind (arith, nat_tests, is) in
          let none : d.priority - n ≡ 0 = omega (arith, here) in
          let slot_is : Some x ≡ Some (Some stands.0.0) = ap (slice_get (x ∷ xs)) (sym none) ∙ stands.0.2 in
          let is_slot : x ≡ Some stands.0.0 = cc in
          let above : AllByRecursion (λ e. n < e.priority) ds = subst (λ m. AllByRecursion (λ e. m < e.priority) ds) here ascend.1 in
          let later = behind (stands-behind n x xs ds above stands.1) (λ k h. seated-here k (seated-behind n x xs (d ∷ ds) seated k h)) in
          let own = stands.0.3 in
          let both = tokens-join t (keeps d.priority).kept (kept_by keeps ds) in
          rw is_slot (omega (arith, later, own, both))
        where
          seated-here : (k : ℕ) → is_some (find (λ e. e.priority == (n + 1) + k) (d ∷ ds)) ≡ true → is_some (find (λ e. e.priority == (n + 1) + k) ds) ≡ true
          seated-here k h =
              let at : d.priority ≡ n = grind (arith, nat_tests, is) in
              let other : (d.priority == (n + 1) + k) ≡ false = grind (arith, nat_tests, at) in
              subst (λ b. is_some (cond b (Some d) (find (λ e. e.priority == (n + 1) + k) ds)) ≡ true) other h
      by false is None same behind whole =
          let lt : n < d.priority = grind (arith, nat_tests, is, first) in
          let above : AllByRecursion (λ e. n < e.priority) (d ∷ ds) = (lt, all-above n d ds lt ascend.1) in
          rw same (whole (stands-behind n x xs (d ∷ ds) above stands) (seated-behind n x xs (d ∷ ds) seated))
      by false is (Some s) same behind whole =
          let lt : n < d.priority = grind (arith, nat_tests, is, first) in
          let here : n + 0 ≡ n = omega arith in
          let some : is_some (find (λ e. e.priority == n) (d ∷ ds)) ≡ true = subst (λ m. is_some (find (λ e. e.priority == m) (d ∷ ds)) ≡ true) here (seated 0 (rw same refl)) in
          let none = none-below n (d ∷ ds) (lt, all-above n d ds lt ascend.1) in
          let wrong : false ≡ true = sym (ap (λ (o : Option ObjectDef). is_some o) none) ∙ some in
          absurd (cc)

-- All objects rest, where none had anything before its start: the hands are the entries that they keep.
module _ (sys : System) (xs ys : Objects) (v w : LaneView) (sound : IsSound sys) (made : AreMade sys xs) (none : v.hands ≡ []) (follow : HandsFollow xs v ys w)
    (stages : ℕ → Stage) (entries : ℕ → List model.Entry) (all : KnowsAll sys ys w stages entries)
    (keeps : ℕ → Config) (rest : (d : ObjectDef) → object_at sys d.priority ≡ Some d → stages d.priority ≡ stage.Resting (keeps d.priority)) where
  get-map : (slots : List (Option Slot)) (k : ℕ) → slice_get (map (λ (x : Option Slot). is_some x) slots) k ≡ option_map (λ (x : Option Slot). is_some x) (slice_get slots k)
  get-map [] k = refl
  get-map (x ∷ slots) zero = refl
  get-map (x ∷ slots) (suc k) = get-map slots k

  seated : Seated 0 ys.slots.items sys.objects
  unfolding object_at
  seated k is =
      let zero_k : 0 + k ≡ k = omega arith in
      let same : option_map (λ (x : Option Slot). is_some x) (slice_get xs.slots.items k) ≡ Some true =
      sym (get-map xs.slots.items k) ∙ ap (λ bs. slice_get bs k) (sym follow.seats) ∙ get-map ys.slots.items k ∙ is in
      subst (λ m. is_some (find (λ d. d.priority == m) sys.objects) ≡ true) (sym zero_k) (by (slice_get xs.slots.items k) refl same)
    where
      by : (o : Option (Option Slot)) → slice_get xs.slots.items k ≡ o → option_map (λ (x : Option Slot). is_some x) o ≡ Some true → is_some (find (λ d. d.priority == k) sys.objects) ≡ true
      by None at e = absurd (cc)
      by (Some None) at e = absurd (cc)
      by (Some (Some slot)) at e = ap (λ (o : Option ObjectDef). is_some o) (made.each k (Some slot) at).0.of

  kept-at_rest : (t : Token) (slot : Slot) (c : Config) → IsAtRest c slot.object → own_count t slot.object ≡ count_of t (tokens_in c.kept)
  kept-at_rest t slot c r =
      ap (λ s. count_of t (tokens_in (map entry_of (held_in slot.object.lasting s)))) r.between
      ∙ ap (λ es. count_of t (tokens_in (map entry_of es))) (append-nil slot.object.lasting.list.entries.items)
      ∙ ap (λ (k : Config). count_of t (tokens_in k.kept)) (sym r.config)

  stands : (t : Token) → Stands 0 ys.slots.items keeps t sys.objects
  stands t = go sys.objects (named sys sound)
    where
      go : (ds : List ObjectDef) → AllByRecursion (λ d. IsObjectWithChart sys d.priority) ds → Stands 0 ys.slots.items keeps t ds
      go [] h = tt
      go (d ∷ ds) h =
          let n = h.0 in
          let k = all n.object n.chart n.found n.its in
          let zero_is : n.object.priority - 0 ≡ n.object.priority = omega arith in
          let at_rest : IsAtRest (keeps n.object.priority) k.slot.object = subst (λ s. StageIs sys n.object n.chart k.slot.object w s) (rest n.object n.found) k.is.stage in (
            subst (λ p. (slot : Slot) × (0 ≤ p) × (slice_get ys.slots.items (p - 0) ≡ Some (Some slot)) × (own_count t slot.object ≡ count_of t (tokens_in (keeps p).kept))) n.is
                (k.slot, omega arith, ap (slice_get ys.slots.items) zero_is ∙ k.there, kept-at_rest t k.slot (keeps n.object.priority) at_rest),
            go ds h.1,
          )

  pub rests-kept : (t : Token) → count_of t w.hands ≡ count_of t (tokens_in (kept_by keeps sys.objects))
  unfolding times
  rests-kept t =
      let follows = follow.counts t in
      let nothing : count_of t v.hands ≡ 0 = ap (count_of t) none in
      let fresh : kept_count t xs.slots.items ≡ 0 = kept-none t xs.slots.items (λ p slot at. let new = (made.each p (Some slot) at).0 in made-held new.object new.chart slot.object new.made) in
      let counts = kept-counts keeps t 0 ys.slots.items sys.objects sound.ascend (stands t) seated in
      omega (arith, follows, nothing, fresh, counts)
