-- What is said of objects at rest, by the records that they have.
use Rattle.std.specs.Prelude.{◌≡◌, ℕ, List, Some}
use Rattle.std.specs.List.{AllByRecursion}
use Rattle.qp_chart.specs.declared.checked.Chart.{Chart}
use Rattle.qp_model.specs.declared.journals.Journal.{Journal}
use Rattle.qp_model.specs.declared.systems.System.{System}
use Rattle.qp_model.specs.declared.systems.ObjectDef.{ObjectDef}
use Rattle.qp_model.specs.Acts.{Config}
use Rattle.qp_model.specs.Course.{chart_at}
use Rattle.qp_model.specs.Home.{by_object}
use Rattle.qp_model.specs.Lawful.{facts_of}
use Rattle.qp_model.specs.OutputSummary.{CourseLeaves}
use Rattle.qp_model.specs.Told.{Told}
use Rattle.qp_kernel_end.specs.declared.rest.Rest.{Rest}

-- the rest of an object that stands in this configuration
pub record IsRestIn (c : Config) (x : Rest) : Type 0 where
  pub leaf : x.leaf ≡ c.leaf
  pub vars : x.vars.items ≡ c.vars

-- where it is of this object, it shows what the course of these records leaves
unfoldable pub IsRestOf : System → ObjectDef → List Told → Rest → Type 0
unfolding CourseLeaves
IsRestOf sys d ts x =
    x.priority ≡ d.priority → (chart : Chart) → chart_at sys d.chart ≡ Some chart → (c : Config) × CourseLeaves sys d chart ts c × IsRestIn c x

-- all of them are of objects that have these records
abbrev pub AreRests : System → (ℕ → List Told) → List Rest → Type 0
AreRests sys records xs = AllByRecursion (λ d. AllByRecursion (IsRestOf sys d (records d.priority)) xs) sys.objects

-- they are of objects of the journal
abbrev pub AreRestsIn : System → Journal → List Rest → Type 0
AreRestsIn sys j xs = AreRests sys (λ o. by_object (facts_of sys j) j o) xs
