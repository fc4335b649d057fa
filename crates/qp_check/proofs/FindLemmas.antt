-- The first of some definitions that fails, found in lists of them one behind another.
use Rattle.std.proofs.Common.{◌≡◌, ℕ, ◌+◌, ◌<◌, ◌≤◌, Bool, true, false, List, [], ◌∷◌, ◌++◌, cond, length, drop, get_or, refl, sym, ◌∙◌, inl, inr, IsTrue, Some, None}
use Rattle.std.specs.declared.option.Option.{Option}
use Rattle.std.proofs.lemmas.List.{drop_all}
use Rattle.qp_model.specs.declared.systems.ObjectDef.{ObjectDef}
use Rattle.qp_check_words.specs.declared.verdict.Broken.{Broken}
use Rattle.qp_check_words.specs.declared.verdict.Site.TheVariants as site
use Rattle.qp_check.specs.Judged.{Trial, AllHold, Finds, as_trials, at_objects}
use Rattle.qp_check_words.specs.WordRules.{Try, first_broken}
use Rattle.qp_check_lanes.proofs.WalkLemmas.{rest_at}

pub finds-holds : (t : Trial) (ts : List Trial) (o : Option Broken) → t.Holds → Finds ts o → Finds (t ∷ ts) o
finds-holds t ts None here rest = (here, rest)
finds-holds t ts (Some b) here rest = inr (here, rest)

pub finds-fails : (t : Trial) (ts : List Trial) → (t.Holds → ⊥) → (b : Broken) → t.definition ≡ b.definition → t.site ≡ b.site → Finds (t ∷ ts) (Some b)
finds-fails t ts fails b number place = inl (fails, number, place)

-- behind others that hold
pub finds-behind : (xs ys : List Trial) (o : Option Broken) → AllHold xs → Finds ys o → Finds (xs ++ ys) o
finds-behind [] ys o all h = h
finds-behind (t ∷ ts) ys o all h = finds-holds t (ts ++ ys) o all.0 (finds-behind ts ys o all.1 h)

-- before others
pub finds-before : (xs ys : List Trial) (b : Broken) → Finds xs (Some b) → Finds (xs ++ ys) (Some b)
finds-before [] ys b h = absurd h
finds-before (t ∷ ts) ys b h = elim h [ inl here ↦ inl here | inr later ↦ inr (later.0, finds-before ts ys b later.1) ]

-- tests
abbrev as_trial : Try → Trial
as_trial t = record { definition = t.definition; site = t.site; Holds = IsTrue t.holds }

abbrev as_broken : Try → Broken
as_broken t = record { definition = t.definition; site = t.site }

pub finds-tries : (ts : List Try) → Finds (as_trials ts) (first_broken ts)
unfolding first_broken
finds-tries [] = tt
finds-tries (t ∷ ts) = go t.holds refl (finds-tries ts)
  where
    go : (b : Bool) → t.holds ≡ b → Finds (as_trials ts) (first_broken ts) → Finds (as_trials (t ∷ ts)) (cond t.holds (first_broken ts) (Some (as_broken t)))
    go true e later =
        let is : cond t.holds (first_broken ts) (Some (as_broken t)) ≡ first_broken ts = rw e refl in
        rw is (finds-holds (as_trial t) (as_trials ts) (first_broken ts) e later)
    go false e later =
        let is : cond t.holds (first_broken ts) (Some (as_broken t)) ≡ Some (as_broken t) = rw e refl in
        rw is (finds-fails (as_trial t) (as_trials ts) (λ holds. let bad : true ≡ false = sym holds ∙ e in let absent : ⊥ = cc in absent) (as_broken t) refl refl)

-- one object after another
module _ (n : ℕ) (P : ObjectDef → Type 0) (ds : List ObjectDef) where
  -- what is found from object i on is found among all
  abbrev pub From : ℕ → Type 0
  From i = (o : Option Broken) → Finds (at_objects n P (drop i ds)) o → Finds (at_objects n P ds) o

  pub from-last : (i : ℕ) → length ds ≤ i → From i → (whole : List ObjectDef) → ds ≡ whole → Finds (at_objects n P whole) None
  from-last i le from whole same = rw (← same) (from None (rw (drop_all i ds le) tt))

  module _ (i : ℕ) (d : ObjectDef) (lt : i < length ds) (is : d ≡ get_or ds i d) (from : From i) where
    abbrev trial : Trial
    trial = record { definition = n; site = site.Object d.priority; Holds = P d }

    pub from-next : P d → From (i + 1)
    from-next here = λ o h. from o (rw (rest_at ds i d lt is) (finds-holds trial (at_objects n P (drop (i + 1) ds)) o here h))

    pub from-broken : (P d → ⊥) → (b : Broken) → n ≡ b.definition → b.site ≡ site.Object d.priority → (whole : List ObjectDef) → ds ≡ whole → Finds (at_objects n P whole) (Some b)
    from-broken fails b number place whole same = rw (← same) (from (Some b) (rw (rest_at ds i d lt is) (finds-fails trial (at_objects n P (drop (i + 1) ds)) fails b number (sym place))))

-- what was found, by cases
pub found : (ts : List Trial) (o : Option Broken) (b : Broken) → Finds ts o → o ≡ Some b → Finds ts (Some b)
found ts None b h is = let bad : ⊥ = cc in absurd bad
found ts (Some a) b h is = let same : a ≡ b = cc in rw (← same) h

pub found-none : (ts : List Trial) (o : Option Broken) → Finds ts o → o ≡ None → AllHold ts
found-none ts None h is = h
found-none ts (Some a) h is = let bad : ⊥ = cc in absurd bad
