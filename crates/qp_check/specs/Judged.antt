-- The definitions of a lawful journal at all their sites, in the order in which they are tried, and what a verdict says of them.
use Rattle.std.specs.Prelude.{◌≡◌, ℕ, ◌+◌, ◌==◌, not, ◌||◌, ◌⊎◌, List, [], ◌∷◌, ◌++◌, map, length, IsTrue, Some, None, ⊤}
use Rattle.std.specs.declared.option.Option.{Option}
use Rattle.std.specs.Bool.{MatchBool}
use Rattle.qp_model.specs.declared.stimulus.Stim.{Stim}
use Rattle.qp_model.specs.declared.systems.System.{System}
use Rattle.qp_model.specs.declared.systems.ObjectDef.{ObjectDef}
use Rattle.qp_model.specs.declared.journals.Journal.{Journal}
use Rattle.qp_model.specs.History.{lane_items}
use Rattle.qp_model.specs.Home.{lane_at}
use Rattle.qp_model.specs.Kernels.{port, has_one_order}
use Rattle.qp_model.specs.Sources.{IsSourceLane}
use Rattle.qp_model.specs.Lawful.{facts_of, lanes_before, ShapesHold, deferral_holds, CourseHolds, KernelHolds, OrderHolds, EndHolds}
use Rattle.qp_check_words.specs.declared.verdict.Broken.{Broken}
use Rattle.qp_check_words.specs.declared.verdict.Site.{Site}
use Rattle.qp_check_words.specs.declared.verdict.Site.TheVariants as site
use Rattle.qp_check_words.specs.declared.verdict.Verdict.{Verdict}
use Rattle.qp_check_words.specs.declared.verdict.Verdict.TheVariants as verdict
use Rattle.qp_check_words.specs.WordRules.{Try, word_tries}

-- a definition at a site, and that it holds there
pub record Trial : Type 1 where
  pub definition : ℕ
  pub site : Site
  pub Holds : Type 0

abbrev pub AllHold : List Trial → Type 0
AllHold [] = ⊤
AllHold (t ∷ ts) = t.Holds × AllHold ts

-- the first of these that fails is this definition at this site
abbrev pub FailsFirst : List Trial → ℕ → Site → Type 0
FailsFirst [] d s = ⊥
FailsFirst (t ∷ ts) d s = ((t.Holds → ⊥) × (t.definition ≡ d) × (t.site ≡ s)) ⊎ (t.Holds × FailsFirst ts d s)

-- all of these hold, or the first that fails is the one found
abbrev pub Finds : List Trial → Option Broken → Type 0
Finds ts None = AllHold ts
Finds ts (Some b) = FailsFirst ts b.definition b.site

-- a journal is lawful where all of these hold, and else is broken by the first that fails
abbrev pub IsVerdict : List Trial → Verdict → Type 0
IsVerdict ts verdict.Lawful = AllHold ts
IsVerdict ts (verdict.Broken d s) = FailsFirst ts d s

abbrev pub as_trials : List Try → List Trial
as_trials ts = map (λ t. record { definition = t.definition; site = t.site; Holds = IsTrue t.holds }) ts

-- a definition at each of these objects
abbrev pub at_objects : ℕ → (ObjectDef → Type 0) → List ObjectDef → List Trial
at_objects n P ds = map (λ d. record { definition = n; site = site.Object d.priority; Holds = P d }) ds

-- the lanes of these sources, from lane n on
unfoldable pub source_trials : System → Journal → ℕ → List (List Stim) → List Trial
unfolding facts_of lane_items
source_trials sys j n [] = []
source_trials sys j n (ss ∷ more) =
    record { definition = 20; site = site.Lane n; Holds = IsSourceLane (facts_of sys j) j.kernel j.end ss (lane_items (lane_at j n)) } ∷ source_trials sys j (n + 1) more

-- every word keeps its law
unfoldable pub word_trials : System → Journal → List Trial
unfolding word_tries
word_trials sys j = as_trials (word_tries sys j.lanes)

-- each object has its shapes, its deferred list and its course
unfoldable pub object_trials : System → Journal → List Trial
unfolding CourseHolds deferral_holds
object_trials sys j =
    at_objects 15 (ShapesHold sys j) sys.objects
    ++ at_objects 17 (λ d. IsTrue (deferral_holds sys j d)) sys.objects
    ++ at_objects 7 (CourseHolds sys j) sys.objects

-- a kernel has its lane, and without one it is empty
unfoldable pub kernel_trials : System → Journal → List Trial
kernel_trials sys j = record { definition = 19; site = site.Lane 0; Holds = MatchBool (j.kernel == port) ⊤ (KernelHolds sys j) } ∷ []

-- there are no lanes more, and the records of a run with one thread have one order
unfoldable pub order_trial : System → List (List Stim) → Journal → Trial
unfolding OrderHolds
order_trial sys stimuli j = record {
  definition = 20;
  site = site.Whole;
  Holds = IsTrue (length j.lanes == lanes_before sys j + length stimuli) × MatchBool (has_one_order j.kernel) (OrderHolds sys stimuli j) ⊤;
}

-- in `port` lane 0 is empty, each source has its lane, and all lanes together are as they must be
unfoldable pub lane_trials : System → List (List Stim) → Journal → List Trial
unfolding order_trial source_trials
lane_trials sys stimuli j =
    record { definition = 20; site = site.Lane 0; Holds = IsTrue (not (j.kernel == port) || (length (lane_at j 0) == 0)) }
    ∷ source_trials sys j (lanes_before sys j) stimuli
    ++ order_trial sys stimuli j ∷ []

-- the end is as it says
unfoldable pub end_trials : System → Journal → List Trial
unfolding EndHolds
end_trials sys j = record { definition = 21; site = site.Whole; Holds = EndHolds sys j } ∷ []

-- all definitions at all their sites, in the order in which they are tried
unfoldable pub trials : System → List (List Stim) → Journal → List Trial
unfolding word_trials object_trials kernel_trials lane_trials end_trials
trials sys stimuli j = word_trials sys j ++ (object_trials sys j ++ (kernel_trials sys j ++ (lane_trials sys stimuli j ++ end_trials sys j)))
