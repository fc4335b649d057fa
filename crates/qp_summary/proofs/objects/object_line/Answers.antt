use Rattle.std.proofs.Common.{◌≡◌, ◌++◌, ◌∷◌, ◌+◌, ◌∙◌, List, ap, subst, rules, arith, Option}
use Rattle.std.proofs.lemmas.Result.{IfOk-weaker}
use Rattle.std.specs.Prelude.{codes, decimal, string_bytes}
use Rattle.qp_model.specs.Course.{chart_at}
use Rattle.qp_model.specs.History.{lane_items}
use Rattle.qp_model.specs.Home.{by_object}
use Rattle.qp_model.specs.Knowing.{records_of}
use Rattle.qp_model.specs.Lawful.{dispatched, facts_of}
use Rattle.qp_model.specs.OutputSummary.{IsStateText, count_events_taken}
use Rattle.qp_model.specs.Told.{Told}
use Rattle.qp_check_knowledge.specs.Knowledge.{known_facts}
use Rattle.qp_summary.specs.Coming.{HasCome}
use Rattle.qp_summary.specs.declared.coming.Came.{Came}
use Rattle.qp_summary.proofs.ComingLemmas.{records-home}
use Rattle.qp_summary.proofs.SummaryLemmas.{course-follows, object-line}
use Rattle.qp_summary.proofs.objects.object_line.Goals as goal

pub read_lane-requires-clause-known : goal.read_lane-requires-clause-known
read_lane-requires-clause-known c = c.requires.known.0

pub returns-in_ok-text-in-Some : goal.returns-in_ok-text-in-Some
returns-in_ok-text-in-Some c =
    let sys = c.args.sys.now in
    let j = c.args.j.now in
    let d = c.args.d.now in
    let k = c.args.knowledge.now in
    let o = d.priority in
    let all = records_of (known_facts k) o 0 (lane_items c.lane_at.result.now) in
    let same = records-home k.sys.now sys k.journal.now j o c.home_lane-home.result c.lane_at.result.now c.requires.known.1 c.requires.known.2 c.home_lane-home.ensures c.lane_at.ensures in
    let on = subst (λ (x : Option Came). HasCome sys d all x) c.in-Some.is c.in_ok-read.ensures in
    let follow = course-follows sys j d (dispatched all) (ap dispatched same) c.requires.course in
    let stands = c.standing.ensures sys d (dispatched all) c.requires.followable follow on.leaves in
    let state = subst (λ (ts : List Told). IsStateText sys d (chart_at sys d.chart) ts (string_bytes c.in_ok-text-in-Some.text)) same (c.in_ok-text-in-Some.ensures all stands) in
    let taken : c.in-Some.came.taken ≡ count_events_taken (by_object (facts_of sys j) j o) = (let plus : c.in-Some.came.taken ≡ c.in-Some.came.taken + 0 = omega arith in plus) ∙ on.taken ∙ ap count_events_taken same in
    let name : c.as_str.result.now ≡ d.name = search rules in
    let text : c.deref.result.now ≡ string_bytes c.in_ok-text-in-Some.text = search rules in
    IfOk-weaker c.line_of.result _ _
    (λ line told. object-line sys j d (string_bytes c.in_ok-text-in-Some.text) (string_bytes line) state
    (told ∙ ap (λ n. codes "object " ++ n ++ 32 ∷ decimal c.in-Some.came.taken ++ 32 ∷ c.deref.result.now ++ codes "\n") name
    ∙ ap (λ n. codes "object " ++ d.name ++ 32 ∷ decimal n ++ 32 ∷ c.deref.result.now ++ codes "\n") taken
    ∙ ap (λ t. codes "object " ++ d.name ++ 32 ∷ decimal (count_events_taken (by_object (facts_of sys j) j o)) ++ 32 ∷ t ++ codes "\n") text))
    c.line_of.ensures

pub returns-in-None : goal.returns-in-None
returns-in-None c =
    let sys = c.args.sys.now in
    let j = c.args.j.now in
    let d = c.args.d.now in
    let k = c.args.knowledge.now in
    let all = records_of (known_facts k) d.priority 0 (lane_items c.lane_at.result.now) in
    let same = records-home k.sys.now sys k.journal.now j d.priority c.home_lane-home.result c.lane_at.result.now c.requires.known.1 c.requires.known.2 c.home_lane-home.ensures c.lane_at.ensures in
    let none = subst (λ (x : Option Came). HasCome sys d all x) c.in-None.is c.in_ok-read.ensures in
    absurd (none (course-follows sys j d (dispatched all) (ap dispatched same) c.requires.course))
