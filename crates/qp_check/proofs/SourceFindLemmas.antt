-- The first source at which a definition fails, and a test of all sources.
use Rattle.std.proofs.Common.{◌≡◌, ℕ, ◌+◌, ◌<◌, ◌≤◌, Bool, List, ◌∷◌, length, drop, get_or, ap, arith, Some, None}
use Rattle.std.specs.declared.option.Option.{Option}
use Rattle.std.specs.Bool.{MatchBool}
use Rattle.std.specs.Prelude.{⊤}
use Rattle.std.specs.List.{AllByRecursion}
use Rattle.std.proofs.lemmas.List.{drop_all}
use Rattle.qp_model.specs.declared.stimulus.Stim.{Stim}
use Rattle.qp_model.specs.declared.systems.System.{System}
use Rattle.qp_model.specs.declared.journals.Journal.{Journal}
use Rattle.qp_model.specs.Ends.{spills_in}
use Rattle.qp_model.specs.History.{lane_items}
use Rattle.qp_model.specs.Home.{lane_at}
use Rattle.qp_model.specs.Lawful.{SpillStands, SpillsStand, facts_of}
use Rattle.qp_model.specs.Sources.{IsSourceLane}
use Rattle.qp_check_words.specs.declared.verdict.Broken.{Broken}
use Rattle.qp_check_words.specs.declared.verdict.Site.TheVariants as site
use Rattle.qp_check.specs.Judged.{Finds, Trial, source_trials}
use Rattle.qp_check_lanes.proofs.WalkLemmas.{rest_at}
use Rattle.qp_check.proofs.FindLemmas.{finds-fails, finds-holds}

module _ (sys : System) (j : Journal) (stimuli : List (List Stim)) (n : ℕ) where
  -- what is found from source i on is found among all
  abbrev pub SourcesFrom : ℕ → Type 0
  SourcesFrom i = (o : Option Broken) → Finds (source_trials sys j (n + i) (drop i stimuli)) o → Finds (source_trials sys j n stimuli) o

  pub sources-first : SourcesFrom 0
  sources-first = λ o h. let e : n + 0 ≡ n = omega arith in rw e at h

  pub sources-last : (i : ℕ) → length stimuli ≤ i → SourcesFrom i → (m : ℕ) (whole : List (List Stim)) → n ≡ m → stimuli ≡ whole → Finds (source_trials sys j m whole) None
  unfolding source_trials
  sources-last i le from m whole first same = rw (← first, ← same) (from None (rw (drop_all i stimuli le) tt))

  module _ (i : ℕ) (ss : List Stim) (lt : i < length stimuli) (is : ss ≡ get_or stimuli i ss) (from : SourcesFrom i) where
    abbrev Here : Type 0
    Here = IsSourceLane (facts_of sys j) j.kernel j.end ss (lane_items (lane_at j (n + i)))

    abbrev trial : Trial
    trial = record { definition = 20; site = site.Lane (n + i); Holds = Here }

    begins : source_trials sys j (n + i) (drop i stimuli) ≡ trial ∷ source_trials sys j (n + i + 1) (drop (i + 1) stimuli)
    unfolding source_trials
    begins = ap (source_trials sys j (n + i)) (rest_at stimuli i ss lt is)

    pub sources-next : Here → SourcesFrom (i + 1)
    sources-next here = λ o h.
        let e : n + (i + 1) ≡ n + i + 1 = omega arith in
        let later : Finds (source_trials sys j (n + i + 1) (drop (i + 1) stimuli)) o = rw e at h in
        from o (rw begins (finds-holds trial (source_trials sys j (n + i + 1) (drop (i + 1) stimuli)) o here later))

    pub sources-broken : (Here → ⊥) → (b : Broken) → 20 ≡ b.definition → site.Lane (n + i) ≡ b.site → (m : ℕ) (whole : List (List Stim)) → n ≡ m → stimuli ≡ whole → Finds (source_trials sys j m whole) (Some b)
    sources-broken fails b number place m whole first same =
        rw (← first, ← same) (from (Some b) (rw begins (finds-fails trial (source_trials sys j (n + i + 1) (drop (i + 1) stimuli)) fails b number place)))

module _ (sys : System) (j : Journal) (cuts : Bool) (stimuli : List (List Stim)) where
  abbrev pub Spills : ℕ → List (List Stim) → Type 0
  Spills n more = SpillsStand sys j cuts n more

  -- the spills of all sources stand where those from source i on do, and the other way round
  pub record SpillsFrom (i : ℕ) : Type 0 where
    pub to : Spills (i + 1) (drop i stimuli) → Spills 1 stimuli
    pub back : Spills 1 stimuli → Spills (i + 1) (drop i stimuli)

  module _ (i : ℕ) (ss : List Stim) (lt : i < length stimuli) (is : ss ≡ get_or stimuli i ss) (from : SpillsFrom i) where
    abbrev May : Type 0
    May = MatchBool (spills_in (lane_items (lane_at j (i + 1)))) (SpillStands sys j cuts ss (lane_items (lane_at j (i + 1)))) ⊤

    one : Spills (i + 1) (drop i stimuli) ≡ (May × Spills (i + 1 + 1) (drop (i + 1) stimuli))
    unfolding SpillsStand
    one = ap (SpillsStand sys j cuts (i + 1)) (rest_at stimuli i ss lt is)

    pub spills-next : May → SpillsFrom (i + 1)
    spills-next here = record {
      to = λ h. let all : May × Spills (i + 1 + 1) (drop (i + 1) stimuli) = (here, h) in from.to (rw one all);
      back = λ h. let all : May × Spills (i + 1 + 1) (drop (i + 1) stimuli) = rw one at (from.back h) in all.1;
    }

    pub spills-broken : (May → ⊥) → Spills 1 stimuli → ⊥
    spills-broken fails h = let all : May × Spills (i + 1 + 1) (drop (i + 1) stimuli) = rw one at (from.back h) in fails all.0

  pub spills-first : SpillsFrom 0
  spills-first = record {
    to = λ h. h;
    back = λ h. h;
  }

  pub spills-last : (i : ℕ) → length stimuli ≤ i → SpillsFrom i → Spills 1 stimuli
  unfolding SpillsStand
  spills-last i le from = from.to (rw (drop_all i stimuli le) tt)

-- a test of each of some objects or the like
module _ {X : Type 0} (P : X → Type 0) (xs : List X) where
  pub record AllFrom (i : ℕ) : Type 0 where
    pub to : AllByRecursion P (drop i xs) → AllByRecursion P xs
    pub back : AllByRecursion P xs → AllByRecursion P (drop i xs)

  pub all-first : AllFrom 0
  all-first = record { to = λ h. h; back = λ h. h }

  pub all-last : (i : ℕ) → length xs ≤ i → AllFrom i → (whole : List X) → xs ≡ whole → AllByRecursion P whole
  all-last i le from whole same = rw (← same) (from.to (rw (drop_all i xs le) tt))

  module _ (i : ℕ) (x : X) (lt : i < length xs) (is : x ≡ get_or xs i x) (from : AllFrom i) where
    pub all-next : P x → AllFrom (i + 1)
    all-next here = record {
      to = λ h. from.to (rw (rest_at xs i x lt is) (here, h));
      back = λ h. let both : P x × AllByRecursion P (drop (i + 1) xs) = rw (rest_at xs i x lt is) at (from.back h) in both.1;
    }

    pub all-broken : (P x → ⊥) → AllByRecursion P xs → ⊥
    all-broken fails h = let both : P x × AllByRecursion P (drop (i + 1) xs) = rw (rest_at xs i x lt is) at (from.back h) in fails both.0
