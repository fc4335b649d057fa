-- What starts first, by floors.
use Rattle.std.proofs.Common.{◌≡◌, ℕ, zero, suc, ◌+◌, ◌<◌, ◌≤◌, nat_lt, Bool, true, false, cond, List, [], ◌∷◌, ◌++◌, length, Option, Some, None, refl, sym, ◌∙◌, ap, subst, inl, inr, arith}
use Rattle.std.specs.Prelude.{◌⊎◌, slice_get}
use Rattle.std.specs.List.{AllByRecursion}
use Rattle.std.specs.Option.{unwrap_or}
use Rattle.std.proofs.lemmas.Bool.Decides.{nat_tests}
use Rattle.qp_model.specs.declared.words.Word.{Word}
use Rattle.qp_model.specs.declared.journals.Journal.{Journal}
use Rattle.qp_model.specs.declared.systems.System.{System}
use Rattle.qp_model.specs.History.{lane_items, marks}
use Rattle.qp_model.specs.Home.{lane_at}
use Rattle.qp_model.specs.Kernels.{port, qk}
use Rattle.qp_model.specs.Lawful.{facts_of}
use Rattle.qp_model_order.specs.SourceRun.{untold_all}
use Rattle.qp_model_order.proofs.SourceLanes.{untold-lane}
use Rattle.qp_calls.specs.LaneView.{LaneView}
use Rattle.qp_port_law.specs.Sealed.{SealsLanes}
use Rattle.qp_kernel.specs.Starts.{behind_starts, up_to}
use Rattle.qp_port_law.specs.SealedLaws.{HomesThatStartFirst, ZeroThatStartsFirst}
use Rattle.qp_port_law.specs.StartsFirst.{AreApart, HomesStartFirst, IsAmong, IsApart, StartsFirst, ZeroStartsFirst, draws, starts_at_home, starts_in, starts_in_first}

among-all : (P : ℕ → Type 0) (ks : List ℕ) (k : ℕ) → AllByRecursion P ks → IsAmong k ks → P k
among-all P [] k all h = absurd h
among-all P (x ∷ ks) k all (inl e) = subst P (sym e) all.0
among-all P (x ∷ ks) k all (inr h) = among-all P ks k all.1 h

-- a floor between the starts and the rest
pub floors-first : (sys : System) (j : Journal) (floor : Word → ℕ) → ((n : ℕ) → IsApart floor (starts_in (length sys.objects) j n) (lane_items (lane_at j n))) → StartsFirst sys j
floors-first sys j floor apart n m mark later w one two =
    let a = among-all (λ k. k ≤ floor w) (draws w (up_to (starts_in (length sys.objects) j n) (lane_items (lane_at j n)))) mark ((apart n).below w) one in
    let b = among-all (λ k. floor w ≤ k) (marks w (behind_starts (starts_in (length sys.objects) j m) (lane_items (lane_at j m)))) later ((apart m).above w) two in
    omega (arith, a, b)

no-items : (floor : Word → ℕ) (n : ℕ) → IsApart floor n []
no-items floor zero = record { below = λ w. tt; above = λ w. tt }
no-items floor (suc n) = record { below = λ w. tt; above = λ w. tt }

no-records : lane_items [] ≡ []
unfolding lane_items
no-records = refl

-- where nothing stands
none-long : {A : Type 0} (xs : List A) (n : ℕ) → slice_get xs n ≡ None → length xs ≤ n
none-long [] n h = omega arith
none-long (x ∷ xs) zero h = absurd (cc)
none-long (x ∷ xs) (suc n) h = let k = none-long xs n h in omega (arith, k)

long-none : {A : Type 0} (xs : List A) (n : ℕ) → length xs ≤ n → slice_get xs n ≡ None
long-none [] n h = refl
long-none (x ∷ xs) zero h = absurd (omega (arith, h))
long-none (x ∷ xs) (suc n) h = long-none xs n (omega (arith, h))

all-get : {A : Type 0} (P : A → Type 0) (xs : List A) (i : ℕ) (x : A) → AllByRecursion P xs → slice_get xs i ≡ Some x → P x
all-get P [] i x all at = absurd (cc)
all-get P (y ∷ xs) zero x all at = let same : y ≡ x = cc in subst P same all.0
all-get P (y ∷ xs) (suc i) x all at = all-get P xs i x all.1 at

module _ (sys : System) (kernel budget : ℕ) (vs : List LaneView) (j : Journal) (seals : SealsLanes sys kernel budget vs j) (floor : Word → ℕ) where
  items-are : (n : ℕ) (v : LaneView) → slice_get vs n ≡ Some v → lane_items (lane_at j n) ≡ untold_all v.told
  items-are n v at = sym (untold-lane (facts_of sys j) 0 (lane_items (lane_at j n))) ∙ ap untold_all (seals.told n v at)

  -- one lane
  lane-apart : (n starts : ℕ) → ((v : LaneView) → slice_get vs n ≡ Some v → IsApart floor starts (untold_all v.told)) → IsApart floor starts (lane_items (lane_at j n))
  lane-apart n starts h = by (slice_get vs n) refl
    where
      by : (o : Option LaneView) → slice_get vs n ≡ o → IsApart floor starts (lane_items (lane_at j n))
      by (Some v) at = subst (IsApart floor starts) (sym (items-are n v at)) (h v at)
      by None at =
          let long = none-long vs n at in
          let many = seals.count in
          let none : slice_get j.lanes n ≡ None = long-none j.lanes n (omega (arith, long, many)) in
          subst (IsApart floor starts) (sym (ap (λ o. lane_items (unwrap_or o [])) none ∙ no-records)) (no-items floor starts)

-- a home, or the lane of a source
home-or-source : (floor : Word → ℕ) (homes sources : List LaneView) (i : ℕ) (v : LaneView) → AreApart floor 1 homes → AreApart floor 0 sources → slice_get (homes ++ sources) i ≡ Some v
    → ((i < length homes) × IsApart floor 1 (untold_all v.told)) ⊎ ((length homes ≤ i) × IsApart floor 0 (untold_all v.told))
home-or-source floor [] sources i v h s at = inr (omega arith, all-get (λ u. IsApart floor 0 (untold_all u.told)) sources i v s at)
home-or-source floor (x ∷ homes) sources zero v h s at = let same : x ≡ v = cc in inl (omega arith, subst (λ u. IsApart floor 1 (untold_all u.told)) same h.0)
home-or-source floor (x ∷ homes) sources (suc i) v h s at = by (home-or-source floor homes sources i v h.1 s at)
  where
    by : ((i < length homes) × IsApart floor 1 (untold_all v.told)) ⊎ ((length homes ≤ i) × IsApart floor 0 (untold_all v.told))
        → ((suc i < length (x ∷ homes)) × IsApart floor 1 (untold_all v.told)) ⊎ ((length (x ∷ homes) ≤ suc i) × IsApart floor 0 (untold_all v.told))
    by (inl k) = inl (omega (arith, k.0), k.1)
    by (inr k) = inr (omega (arith, k.0), k.1)

port-starts : (sys : System) (j : Journal) (n : ℕ) → j.kernel ≡ port → starts_in (length sys.objects) j n ≡ starts_at_home (length sys.objects) n
port-starts sys j n is = rw is refl

qk-starts : (sys : System) (j : Journal) (n : ℕ) → j.kernel ≡ qk → starts_in (length sys.objects) j n ≡ starts_in_first (length sys.objects) n
qk-starts sys j n is = rw is refl

one-or-none : (b : Bool) (c : Bool) → b ≡ c → cond {A = ℕ} c 1 0 ≡ cond {A = ℕ} b 1 0
one-or-none b c e = ap (λ (x : Bool). cond {A = ℕ} x 1 0) (sym e)

module _ (sys : System) (budget : ℕ) (first : LaneView) (homes sources : List LaneView) (j : Journal)
    (seals : SealsLanes sys port budget (first ∷ homes ++ sources) j) (empty : first.told ≡ []) (many : length homes ≡ length sys.objects) (starts : HomesStartFirst homes sources) where
  lane-of : (n k : ℕ) → k ≡ starts_at_home (length sys.objects) n → ((v : LaneView) → slice_get (first ∷ homes ++ sources) n ≡ Some v → IsApart starts.floor k (untold_all v.told)) → IsApart starts.floor (starts_in (length sys.objects) j n) (lane_items (lane_at j n))
  lane-of n k same h = subst (λ s. IsApart starts.floor s (lane_items (lane_at j n))) (same ∙ sym (port-starts sys j n seals.kernel_is)) (lane-apart sys port budget (first ∷ homes ++ sources) j seals starts.floor n k h)

  home-apart : (n : ℕ) → IsApart starts.floor (starts_in (length sys.objects) j n) (lane_items (lane_at j n))
  home-apart zero = lane-of zero 0 refl (λ v at. let same : first ≡ v = cc in subst (λ u. IsApart starts.floor 0 (untold_all u.told)) same (subst (λ ts. IsApart starts.floor 0 (untold_all ts)) (sym empty) (no-items starts.floor 0)))
  home-apart (suc i) = by (slice_get (homes ++ sources) i) refl
    where
      by : (o : Option LaneView) → slice_get (homes ++ sources) i ≡ o → IsApart starts.floor (starts_in (length sys.objects) j (suc i)) (lane_items (lane_at j (suc i)))
      by None none = lane-of (suc i) (starts_at_home (length sys.objects) (suc i)) refl (λ v at. absurd (let wrong : None ≡ Some v = sym none ∙ at in cc))
      by (Some v) at = which (home-or-source starts.floor homes sources i v starts.homes_apart starts.sources_apart at)
        where
          its : (k : ℕ) → IsApart starts.floor k (untold_all v.told) → (u : LaneView) → slice_get (first ∷ homes ++ sources) (suc i) ≡ Some u → IsApart starts.floor k (untold_all u.told)
          its k apart u there = let both : Some v ≡ Some u = sym at ∙ there in let same : v ≡ u = cc in subst (λ x. IsApart starts.floor k (untold_all x.told)) same apart

          which : ((i < length homes) × IsApart starts.floor 1 (untold_all v.told)) ⊎ ((length homes ≤ i) × IsApart starts.floor 0 (untold_all v.told)) → IsApart starts.floor (starts_in (length sys.objects) j (suc i)) (lane_items (lane_at j (suc i)))
          which (inl h) = let lt = h.0 in let within : nat_lt i (length sys.objects) ≡ true = grind (arith, nat_tests, lt, many) in lane-of (suc i) 1 (one-or-none (nat_lt i (length sys.objects)) true within) (its 1 h.1)
          which (inr h) = let le = h.0 in let beyond : nat_lt i (length sys.objects) ≡ false = grind (arith, nat_tests, le, many) in lane-of (suc i) 0 (one-or-none (nat_lt i (length sys.objects)) false beyond) (its 0 h.1)

pub homes-first : HomesThatStartFirst
homes-first sys budget first homes sources j seals empty many starts = floors-first sys j starts.floor (home-apart sys budget first homes sources j seals empty many starts)

module _ (sys : System) (budget : ℕ) (first : LaneView) (sources : List LaneView) (j : Journal) (seals : SealsLanes sys qk budget (first ∷ sources) j) (starts : ZeroStartsFirst (length sys.objects) first sources) where
  zero-apart : (n : ℕ) → IsApart starts.floor (starts_in (length sys.objects) j n) (lane_items (lane_at j n))
  zero-apart zero = subst (λ s. IsApart starts.floor s (lane_items (lane_at j zero))) (sym (qk-starts sys j zero seals.kernel_is))
      (lane-apart sys qk budget (first ∷ sources) j seals starts.floor zero (length sys.objects) (λ v at. let same : first ≡ v = cc in subst (λ u. IsApart starts.floor (length sys.objects) (untold_all u.told)) same starts.zero_apart))
  zero-apart (suc i) = subst (λ s. IsApart starts.floor s (lane_items (lane_at j (suc i)))) (sym (qk-starts sys j (suc i) seals.kernel_is))
      (lane-apart sys qk budget (first ∷ sources) j seals starts.floor (suc i) 0 (λ v at. all-get (λ u. IsApart starts.floor 0 (untold_all u.told)) sources i v starts.sources_apart at))

pub zero-first : ZeroThatStartsFirst
zero-first sys budget first sources j seals starts = floors-first sys j starts.floor (zero-apart sys budget first sources j seals starts)
