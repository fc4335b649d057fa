-- Plans that are added task by task.
use Rattle.std.proofs.Common.{◌≡◌, ℕ, ◌+◌, ◌-◌, List, [], ◌∷◌, ◌++◌, length, take, drop, refl, sym, ◌∙◌, ap, Some, None, arith, append_assoc, length-append}
use Rattle.std.proofs.lemmas.List.{take_all, length-map}
use Rattle.std.proofs.Math.Seq.{drop-append_seam}
use Rattle.qp_chart.specs.Task as task
use Rattle.qp_chart.specs.declared.checked.Row.{Row}
use Rattle.qp_chart.specs.declared.checked.Chart.{Chart}
use Rattle.qp_chart.specs.MainState.{entered}
use Rattle.qp_chart.specs.Agenda.{moves, handled, ended, start_plan}
use Rattle.qp_chart.specs.Task.{tasks_of, entries}
use Rattle.qp_chart.specs.Drill as drill
use Rattle.qp_chart.specs.Drill.{initial, drill}
use Rattle.qp_chart_compiled.specs.declared.code.Code.{Code}
use Rattle.qp_chart_compiled.specs.declared.code.Code.TheVariants as code
use Rattle.qp_chart_compiled.specs.declared.code.ActionList.TheVariants as of
use Rattle.qp_chart_compiled.specs.Codes.{row_at, acts_in, task_at, tasks_at}
use Rattle.qp_chart_compiled.specs.Compiled.{between}
use Rattle.qp_chart_tree.specs.Plans.{AddsTasks}
use Rattle.qp_chart_tree.proofs.PlanLemmas.{adds-more}
use Rattle.qp_chart_compiled.specs.Building.{Places}
use Rattle.qp_chart_compiled.proofs.PushLemmas.{pushed}

-- the initial transition of a state: its note, its actions, and the entries down to its target
pub initial-is : (chart : Chart) (s t : ℕ) (path : List ℕ) (codes note mid new : List Code) → path ≡ entered chart (Some s) t → note ≡ codes ++ code.Init s ∷ []
    → tasks_at chart mid ≡ tasks_at chart note ++ tasks_of (acts_in chart (of.Init s)) → tasks_at chart new ≡ tasks_at chart mid ++ entries chart path
    → tasks_at chart new ≡ tasks_at chart codes ++ initial chart s t
unfolding initial task_at acts_in
initial-is chart s t path codes note mid new is one two three =
    let acts : List task.Task = tasks_of (acts_in chart (of.Init s)) in
    three ∙ ap (λ p. tasks_at chart mid ++ entries chart p) is
    ∙ ap (λ ys. ys ++ entries chart (entered chart (Some s) t)) (two ∙ ap (λ ys. ys ++ acts) (pushed chart codes note (code.Init s) (task.Init s) refl one) ∙ append_assoc (tasks_at chart codes) (task.Init s ∷ []) acts)
    ∙ append_assoc (tasks_at chart codes) (task.Init s ∷ acts) (entries chart (entered chart (Some s) t))

-- what was added stands between the old end and the new one
placed : (old xs new : List task.Task) (from to : ℕ) → new ≡ old ++ xs → from ≡ length old → to ≡ length new → between from to new ≡ xs
placed old xs new from to e one two =
    let count : to - from ≡ length xs = omega (arith, one, two, ap length e, length-append old xs) in
    ap (λ ts. take (to - from) (drop from ts)) e ∙ ap (λ n. take (to - from) (drop n (old ++ xs))) one ∙ ap (λ ts. take (to - from) ts) (drop-append_seam old xs)
    ∙ take_all (to - from) xs (omega (arith, count))

-- a plan that is placed among the codes
placed-plan : (chart : Chart) (whole : drill.Plan) (codes new : List Code) (from to after : ℕ) → tasks_at chart new ≡ tasks_at chart codes ++ whole.tasks → after ≡ whole.leaf
    → from ≡ length codes → to ≡ length new → Places whole (tasks_at chart codes) (tasks_at chart new) (record { agenda = record { from = from; to = to }; leaf = after })
placed-plan chart whole codes new from to after e l one two =
    let first : from ≡ length (tasks_at chart codes) = one ∙ sym (length-map codes (task_at chart)) in
    let last : to ≡ length (tasks_at chart new) = two ∙ sym (length-map new (task_at chart)) in
    record {
      more = (whole.tasks, e);
      placed = record { inside = omega (arith, last); tasks = placed (tasks_at chart codes) whole.tasks (tasks_at chart new) from to e first last; leaf = l };
    }

-- a step by a row
pub step-is : (chart : Chart) (leaf s k : ℕ) (row : Row) (codes note acts mid new : List Code) (from to after : ℕ) → row_at chart s k ≡ Some row → note ≡ codes ++ code.Run s k ∷ []
    → tasks_at chart acts ≡ tasks_at chart note ++ tasks_of (acts_in chart (of.Row s k)) → AddsTasks (moves chart leaf s row.to) (tasks_at chart acts) (tasks_at chart mid) after
    → new ≡ mid ++ code.Done ∷ [] → from ≡ length codes → to ≡ length new
    → Places (ended (handled chart leaf (Some (record { state = s; place = k; row = row })))) (tasks_at chart codes) (tasks_at chart new) (record { agenda = record { from = from; to = to }; leaf = after })
unfolding handled task_at acts_in
step-is chart leaf s k row codes note acts mid new from to after is one two three four begin end =
    let told = pushed chart codes note (code.Run s k) (task.Run s k) refl one in
    let done : List task.Task = tasks_of row.acts in
    let its : tasks_of (acts_in chart (of.Row s k)) ≡ done = rw is refl in
    let head : tasks_at chart acts ≡ tasks_at chart codes ++ (task.Run s k ∷ done) =
    two ∙ ap (λ ys. tasks_at chart note ++ ys) its ∙ ap (λ ys. ys ++ done) told ∙ append_assoc (tasks_at chart codes) (task.Run s k ∷ []) done in
    let whole = adds-more (task.Run s k ∷ done) (tasks_at chart codes) (tasks_at chart acts) (tasks_at chart mid) (moves chart leaf s row.to) after head three in
    placed-plan chart _ codes new from to after
    (pushed chart mid new code.Done task.Done refl four ∙ ap (λ ys. ys ++ task.Done ∷ []) whole.tasks ∙ append_assoc (tasks_at chart codes) _ (task.Done ∷ []))
    whole.leaf begin end

-- a start
pub start-is : (chart : Chart) (path : List ℕ) (codes note acts inner mid new : List Code) (from to leaf : ℕ) → note ≡ codes ++ code.Begin ∷ []
    → tasks_at chart acts ≡ tasks_at chart note ++ tasks_of (acts_in chart of.Start) → path ≡ entered chart None chart.init
    → tasks_at chart inner ≡ tasks_at chart acts ++ entries chart path → AddsTasks (drill chart chart.init) (tasks_at chart inner) (tasks_at chart mid) leaf
    → new ≡ mid ++ code.Done ∷ [] → from ≡ length codes → to ≡ length new
    → Places (start_plan chart) (tasks_at chart codes) (tasks_at chart new) (record { agenda = record { from = from; to = to }; leaf = leaf })
unfolding start_plan task_at acts_in
start-is chart path codes note acts inner mid new from to leaf one two is three four five begin end =
    let told = pushed chart codes note code.Begin task.Begin refl one in
    let done : List task.Task = tasks_of chart.init_do in
    let down : List task.Task = entries chart (entered chart None chart.init) in
    let head : tasks_at chart inner ≡ tasks_at chart codes ++ (task.Begin ∷ done ++ down) =
    three ∙ ap (λ p. tasks_at chart acts ++ entries chart p) is
    ∙ ap (λ ys. ys ++ down) (two ∙ ap (λ ys. ys ++ done) told ∙ append_assoc (tasks_at chart codes) (task.Begin ∷ []) done)
    ∙ append_assoc (tasks_at chart codes) (task.Begin ∷ done) down in
    let whole = adds-more (task.Begin ∷ done ++ down) (tasks_at chart codes) (tasks_at chart inner) (tasks_at chart mid) (drill chart chart.init) leaf head four in
    placed-plan chart _ codes new from to leaf
    (pushed chart mid new code.Done task.Done refl five ∙ ap (λ ys. ys ++ task.Done ∷ []) whole.tasks ∙ append_assoc (tasks_at chart codes) _ (task.Done ∷ []))
    whole.leaf begin end
