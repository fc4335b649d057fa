-- The choices of the leaves, one leaf after another.
use Rattle.std.proofs.Common.{◌≡◌, ℕ, zero, suc, ◌+◌, ◌<◌, ◌≤◌, ◌⊎◌, inl, inr, List, [], ◌∷◌, ◌++◌, length, refl, sym, ◌∙◌, ap, subst, Option, Some, arith, append-nil, length-append}
use Rattle.std.specs.List.{slice_get, filter}
use Rattle.qp_chart.specs.Task.{Task}
use Rattle.qp_chart.specs.declared.checked.Chart.{Chart}
use Rattle.qp_chart_names.specs.Pairs.{Corresponds}
use Rattle.qp_chart.specs.StateTree.{up}
use Rattle.qp_chart.specs.Agenda.{start_plan}
use Rattle.qp_chart_compiled.specs.declared.choice.Choices.{Choices}
use Rattle.qp_chart_compiled.specs.declared.choice.Leaf.{Leaf}
use Rattle.qp_chart_compiled.specs.declared.code.Code.{Code}
use Rattle.qp_chart_compiled.specs.declared.code.Code.TheVariants as code
use Rattle.qp_chart_compiled.specs.declared.compiled.Compiled.{Compiled}
use Rattle.qp_chart_compiled.specs.Codes.{task_at, tasks_at}
use Rattle.qp_chart_compiled.specs.Rows.{rows_on, leaves_rest}
use Rattle.qp_chart_compiled.specs.Compiled.{IsClass, IsLeaf, AreClasses, AreLeaves, IsCompiled, choices_of, classes_of, between}
use Rattle.qp_chart_compiled.specs.Building.{AppendsTasks, Offers, Places, MakesLeaf, MakesLeaves}
use Rattle.qp_chart_compiled.proofs.ChoiceLemmas.{extends-trans, choices-stay, plan-stays}

get-before : {X : Type 0} (xs : List X) (x : X) (i : ℕ) → i < length xs → slice_get (xs ++ x ∷ []) i ≡ slice_get xs i
get-before [] x i h = absurd (omega (arith, h))
get-before (y ∷ ys) x zero h = refl
get-before (y ∷ ys) x (suc i) h = get-before ys x i (omega (arith, h))

get-last : {X : Type 0} (xs : List X) (x : X) → slice_get (xs ++ x ∷ []) (length xs) ≡ Some x
get-last [] x = refl
get-last (y ∷ ys) x = get-last ys x

-- a number below the next one
below-next : (i n : ℕ) → i < n + 1 → (i < n) ⊎ (i ≡ n)
below-next zero zero h = inr refl
below-next zero (suc n) h = inl (omega arith)
below-next (suc i) zero h = absurd (omega (arith, h))
below-next (suc i) (suc n) h = by (below-next i n (omega (arith, h)))
  where
    by : (i < n) ⊎ (i ≡ n) → (suc i < suc n) ⊎ (suc i ≡ suc n)
    by (inl below) = inl (omega (arith, below))
    by (inr same) = inr (ap suc same)

-- what holds at each place of a list, and at the next
each-more : {X : Type 0} (P : ℕ → Option X → Type 0) (xs ys : List X) (x : X) → ys ≡ xs ++ x ∷ [] → ((i : ℕ) → i < length xs → P i (slice_get xs i)) → P (length xs) (Some x)
    → (i : ℕ) → i < length ys → P i (slice_get ys i)
each-more P xs ys x e before last i h = by (below-next i (length xs) (omega (arith, h, ap length e, length-append xs (x ∷ []))))
  where
    by : (i < length xs) ⊎ (i ≡ length xs) → P i (slice_get ys i)
    by (inl below) = subst (λ o. P i o) (sym (ap (λ zs. slice_get zs i) e ∙ get-before xs x i below)) (before i below)
    by (inr same) = rw same (subst (λ o. P (length xs) o) (sym (ap (λ zs. slice_get zs (length xs)) e ∙ get-last xs x)) last)

-- some classes of a leaf are made
pub record Classes (chart : Chart) (width leaf count : ℕ) (old new : List Task) (classes : List Choices) : Type 0 where
  pub more : AppendsTasks old new
  pub whole : length classes ≡ count
  pub each : AreClasses chart new width leaf classes

pub classes-none : (chart : Chart) (width leaf : ℕ) (ts : List Task) (classes : List Choices) → classes ≡ [] → Classes chart width leaf 0 ts ts classes
classes-none chart width leaf ts classes e =
    record {
      more = ([], sym (append-nil ts));
      whole = ap length e;
      each = λ rest h. absurd (omega (arith, h, ap length e));
    }

pub classes-more : (chart : Chart) (width leaf count : ℕ) (a b c : List Task) (path : List ℕ) (classes new : List Choices) (made : Choices) → path ≡ up chart leaf
    → Offers chart leaf (filter (leaves_rest width count) (rows_on chart path)) b c [] made.items.items → new ≡ classes ++ made ∷ []
    → Classes chart width leaf count a b classes → Classes chart width leaf (count + 1) a c new
unfolding Corresponds
classes-more chart width leaf count a b c path classes new made is h e k =
    record {
      more = extends-trans a b c k.more h.more;
      whole = omega (arith, ap length e, length-append classes (made ∷ []), k.whole);
      each = each-more (λ rest o. IsClass chart c width leaf rest (choices_of o)) classes new made e
          (λ rest below. choices-stay chart leaf b c h.more _ _ (k.each rest below))
          (rw k.whole (rw is at (h.choices [] tt)));
    }

pub classes-all : (chart : Chart) (width leaf count : ℕ) (a b : List Task) (classes : List Choices) → count ≡ width → Classes chart width leaf count a b classes → MakesLeaf chart width leaf a b classes
classes-all chart width leaf count a b classes e k = record { more = k.more; made = record { whole = k.whole ∙ e; each = k.each } }

-- some leaves are made
pub record Leaves (chart : Chart) (width count : ℕ) (old new : List Task) (leaves : List Leaf) : Type 0 where
  pub more : AppendsTasks old new
  pub whole : length leaves ≡ count
  pub each : AreLeaves chart new width leaves

pub leaves-none : (chart : Chart) (width : ℕ) (ts : List Task) (leaves : List Leaf) → leaves ≡ [] → Leaves chart width 0 ts ts leaves
leaves-none chart width ts leaves e =
    record {
      more = ([], sym (append-nil ts));
      whole = ap length e;
      each = λ leaf h. absurd (omega (arith, h, ap length e));
    }

leaf-stays : (chart : Chart) (width leaf : ℕ) (a b : List Task) (classes : List Choices) → AppendsTasks a b → IsLeaf chart a width leaf classes → IsLeaf chart b width leaf classes
leaf-stays chart width leaf a b classes more h = record { whole = h.whole; each = λ rest below. choices-stay chart leaf a b more _ _ (h.each rest below) }

pub leaves-more : (chart : Chart) (width count : ℕ) (a b c : List Task) (leaves new : List Leaf) (made : Leaf) → MakesLeaf chart width count b c made.classes.items
    → new ≡ leaves ++ made ∷ [] → Leaves chart width count a b leaves → Leaves chart width (count + 1) a c new
leaves-more chart width count a b c leaves new made h e k =
    record {
      more = extends-trans a b c k.more h.more;
      whole = omega (arith, ap length e, length-append leaves (made ∷ []), k.whole);
      each = each-more (λ leaf o. IsLeaf chart c width leaf (classes_of o)) leaves new made e
          (λ leaf below. leaf-stays chart width leaf b c _ h.more (k.each leaf below)) (rw k.whole h.made);
    }

pub leaves-all : (chart : Chart) (width count : ℕ) (a b : List Task) (leaves : List Leaf) → count ≡ suc (length chart.state) → Leaves chart width count a b leaves → MakesLeaves chart width a b leaves
leaves-all chart width count a b leaves e k = record { more = k.more; whole = k.whole ∙ e; each = k.each }

-- the tables of a chart
pub compiled-is : (chart : Chart) (c : Compiled) (none one two three : List Code) → none ≡ [] → one ≡ none ++ code.Unhandled ∷ [] → two ≡ one ++ code.Done ∷ [] → c.unhandled.from ≡ 0 → c.unhandled.to ≡ 2
    → Places (start_plan chart) (tasks_at chart two) (tasks_at chart three) c.start → MakesLeaves chart c.width (tasks_at chart three) (tasks_at chart c.codes.items) c.leaves.items
    → 1 ≤ c.width → IsCompiled chart c
unfolding task_at
compiled-is chart c none one two three e f g from to started made some =
    let all = extends-trans (tasks_at chart two) (tasks_at chart three) (tasks_at chart c.codes.items) started.more made.more in
    let first : two ≡ code.Unhandled ∷ code.Done ∷ [] = g ∙ ap (λ cs. cs ++ code.Done ∷ []) (f ∙ ap (λ cs. cs ++ code.Unhandled ∷ []) e) in
    record {
      start = plan-stays (tasks_at chart three) (tasks_at chart c.codes.items) (start_plan chart) c.start made.more started.placed;
      unhandled = rw (from, to) (ap (λ ts. between 0 2 ts) (all.1 ∙ ap (λ cs. tasks_at chart cs ++ all.0) first));
      some = some;
      whole = made.whole;
      each = made.each;
    }
