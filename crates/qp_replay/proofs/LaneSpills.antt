-- In each lane of a lawful journal a `spill` is the last record.
use Rattle.std.proofs.Common.{◌≡◌, ℕ, ◌+◌, ◌-◌, ◌<◌, ◌==◌, Bool, true, false, not, ◌&&◌, ◌||◌, List, [], ◌∷◌, ◌++◌, length, length-append, refl, subst, arith, Option, Some, None, IsTrue}
use Rattle.std.specs.List.{AllByRecursion, count_by}
use Rattle.std.specs.Prelude.{⊤}
use Rattle.std.proofs.lemmas.Bool.{and_parts}
use Rattle.std.proofs.lemmas.Bool.Decides.{nat_tests}
use Rattle.qp_model.specs.declared.stimulus.Stim.{Stim}
use Rattle.qp_model.specs.declared.systems.System.{System}
use Rattle.qp_model.specs.declared.systems.ObjectDef.{ObjectDef}
use Rattle.qp_model.specs.declared.journals.Journal.{Journal}
use Rattle.qp_model.specs.declared.bodies.Body.{Body}
use Rattle.qp_model.specs.declared.bodies.Body.TheVariants as item
use Rattle.qp_model.specs.Record.{Item}
use Rattle.qp_model.specs.History.{all_items, lane_items}
use Rattle.qp_model.specs.Kernels.{port}
use Rattle.qp_model.specs.Ends.{is_spill, may_cut, spills_cut, spills_in}
use Rattle.qp_model.specs.Home.{lane_at, home_of}
use Rattle.qp_model.specs.HomeLane.{is_at_home, are_at_home, count_taken, is_home_lane}
use Rattle.qp_model.specs.KernelLane.{Reading, lane_read}
use Rattle.qp_model.specs.Sound.{IsSound}
use Rattle.qp_model.specs.Lawful.{Lawful, is_settle, ObjectHolds, KernelHolds, reading_holds, setting_of}
use Rattle.qp_replay.proofs.LaneRecords.{every-lane, home-lane}
use Rattle.qp_model.specs.WordLaw.{is_object}

-- no `spill` stands before a record of the lane
abbrev pub SpillLast : List Item → Type 0
SpillLast lane = (xs : List Item) (y : Item) (ys : List Item) → lane ≡ xs ++ y ∷ ys → spills_in xs ≡ false

cut-last : (end : ℕ) (xs : List Item) (y : Item) (ys : List Item) → spills_cut end (xs ++ y ∷ ys) ≡ true → spills_in xs ≡ false
unfolding spills_cut
cut-last end [] y ys h = refl
cut-last end (x ∷ []) y ys h = none (is_spill x.body) (and_parts (not (is_spill x.body)) (spills_cut end (y ∷ ys)) h).0
  where
    none : (b : Bool) → not b ≡ true → (b || false) ≡ false
    none false h = refl
    none true h = absurd (cc)
cut-last end (x ∷ z ∷ xs) y ys h =
    let parts = and_parts (not (is_spill x.body)) (spills_cut end (z ∷ (xs ++ y ∷ ys))) h in
    none (is_spill x.body) parts.0 (cut-last end (z ∷ xs) y ys parts.1)
  where
    none : (b : Bool) → not b ≡ true → spills_in (z ∷ xs) ≡ false → (b || spills_in (z ∷ xs)) ≡ false
    none false h rest = rest
    none true h rest = absurd (cc)

home-last : (o budget : ℕ) (cuts : Bool) (n : ℕ) (xs : List Item) (y : Item) (ys : List Item) → are_at_home o budget cuts n (xs ++ y ∷ ys) ≡ true → spills_in xs ≡ false
unfolding are_at_home
home-last o budget cuts n [] y ys h = refl
home-last o budget cuts n (x ∷ xs) y ys h =
    let parts = and_parts (is_at_home o (n == budget) (cuts && (length (xs ++ y ∷ ys) == 0)) x.of x.body) (are_at_home o budget cuts (count_taken n x.body) (xs ++ y ∷ ys)) h in
    let long = length-append xs (y ∷ ys) in
    let more : (length (xs ++ y ∷ ys) == 0) ≡ false = not-none (length (xs ++ y ∷ ys)) (omega (arith, long)) in
    one x.body (length (xs ++ y ∷ ys) == 0) more parts.0 (home-last o budget cuts (count_taken n x.body) xs y ys parts.1)
  where
    not-none : (m : ℕ) → 0 < m → (m == 0) ≡ false
    not-none m some = grind (arith, nat_tests)

    never : (u v w : Bool) → w ≡ false → (u && (v && w)) ≡ true → ⊥
    never u v true e h = absurd (cc)
    never true true false e h = absurd (cc)
    never true false false e h = absurd (cc)
    never false v false e h = absurd (cc)

    one : (b : Body) (last : Bool) → last ≡ false → is_at_home o (n == budget) (cuts && last) x.of b ≡ true → spills_in xs ≡ false → (is_spill b || spills_in xs) ≡ false
    one (item.Spill len) last e h rest = absurd (never (x.of == 0) cuts last e h)
    one b last e h rest = rest

module _ (sys : System) (stimuli : List (List Stim)) (j : Journal) (sound : IsSound sys) (lawful : Lawful sys stimuli j) where
  by-cut : (lane : List Item) → spills_cut j.end lane ≡ true → SpillLast lane
  by-cut lane h xs y ys is = cut-last j.end xs y ys (subst (λ l. spills_cut j.end l ≡ true) is h)

  -- lane 0 of a kernel
  zero-last : (j.kernel == port) ≡ false → SpillLast (lane_items (lane_at j 0))
  zero-last is = by-cut (lane_items (lane_at j 0)) (read (lane_read (setting_of sys j) (lane_items (lane_at j 0))) kernel.lane)
    where
      kernel : KernelHolds sys j
      kernel = rw is at lawful.kernel

      read : (end : Option Reading) → IsTrue (reading_holds j (lane_items (lane_at j 0)) (count_by (λ i. is_settle i.body) (all_items j.lanes)) end) → spills_cut j.end (lane_items (lane_at j 0)) ≡ true
      read None h = absurd (cc)
      read (Some k) h = (and_parts _ _ (and_parts _ _ h).0).1

  -- a home lane
  home-spills : (j.kernel == port) ≡ true → (d : ObjectDef) → IsTrue (is_object sys d.priority) → ObjectHolds sys j d → SpillLast (lane_items (lane_at j (home_of sys j d.priority)))
  unfolding is_home_lane
  home-spills is_port d object holds xs y ys is =
      let all = (and_parts _ _ (and_parts _ _ (home-lane sys j d is_port holds)).0).0 in
      home-last d.priority j.budget (may_cut j.end) 0 xs y ys (subst (λ l. are_at_home d.priority j.budget (may_cut j.end) 0 l ≡ true) is all)

  any-stimuli : (sss : List (List Stim)) → AllByRecursion (λ ss. ⊤) sss
  any-stimuli [] = tt
  any-stimuli (ss ∷ more) = (tt, any-stimuli more)

  -- each lane
  pub spill-last : (a : ℕ) → SpillLast (lane_items (lane_at j a))
  spill-last = every-lane sys stimuli j sound lawful (λ ss. ⊤) SpillLast (record { empty = none; kernel = zero-last; home = home-spills; source = λ ss lane any h. by-cut lane h.spills }) (any-stimuli stimuli)
    where
      none : SpillLast []
      none [] y ys is = refl
      none (x ∷ xs) y ys is = absurd (cc)
