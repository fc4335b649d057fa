-- A lawful journal of `sim`, `qk` or `qv` can be written.
use Rattle.std.proofs.Common.{◌≡◌, ℕ, suc, ◌+◌, ◌<◌, ◌≤◌, ◌==◌, nat_le, nat_lt, Bool, true, false, not, ◌||◌, cond, List, [], ◌∷◌, map, length, drop, refl, sym, ◌∙◌, ap, subst, Some, None, inl, inr, arith}
use Rattle.std.specs.Prelude.{⊤, slice_get}
use Rattle.std.specs.declared.option.Option.{Option}
use Rattle.std.specs.Option.{unwrap_or}
use Rattle.std.specs.List.{AllByRecursion, list_all, list_any, count_by, prefix_len}
use Rattle.std.proofs.lemmas.Bool.{and_from, and_parts, or_right}
use Rattle.std.proofs.lemmas.Bool.Decides.{nat_tests}
use Rattle.qp_chart.specs.Task.{Task, Do}
use Rattle.qp_chart.specs.declared.checked.Chart.{Chart}
use Rattle.qp_model.specs.declared.bodies.Body.{Body}
use Rattle.qp_model.specs.declared.bodies.Body.TheVariants as body
use Rattle.qp_model.specs.declared.record.Rec.{Rec}
use Rattle.qp_model.specs.declared.journals.Journal.{Journal}
use Rattle.qp_model.specs.declared.stimulus.Stim.{Stim}
use Rattle.qp_model.specs.declared.stimulus.Stim.TheVariants as stim
use Rattle.qp_model.specs.Calls as call
use Rattle.qp_model.specs.Calls.{Call, Deed, Calls, deed_of}
use Rattle.qp_calls.specs.Tokens.{Token}
use Rattle.qp_model.specs.declared.systems.ObjectDef.{ObjectDef}
use Rattle.qp_model.specs.declared.systems.PoolDef.{PoolDef}
use Rattle.qp_model.specs.declared.systems.System.{System}
use Rattle.qp_model.specs.Record.{Item}
use Rattle.qp_model.specs.History.{all_items, lane_items}
use Rattle.qp_model.specs.Home.{lane_at}
use Rattle.qp_model.specs.Kernels.{sim, port, qk, qv}
use Rattle.qp_model.specs.KernelLane.{Reading, Setting, lane_read, role_of}
use Rattle.qp_model.specs.Ends.{is_assert, is_end, is_spill, ends_last, end_asserted, spent, quiet}
use Rattle.qp_model.specs.End.{end_of, has_room}
use Rattle.qp_model.specs.Lawful.{Lawful, EndHolds, deferred_of, KernelHolds, SourceLanes, lanes_before, is_settle, reading_holds, setting_of}
use Rattle.qp_model.specs.Output.{has_form, has_no_rest, is_end_status, is_lane_in_range, last_kernel}
use Rattle.qp_model.specs.Parts.{first_pool, members, sizes_of}
use Rattle.qp_model.specs.Sound.{IsSound, IsSoundPool}
use Rattle.qp_model.proofs.ListLemmas.{every-parts}
use Rattle.qp_model.proofs.TakenLemmas.{drop-head}
use Rattle.qp_model.proofs.LastLemmas.{lane-long}
use Rattle.qp_unique.specs.FormLaws.{CanBeWritten, QkHasForms, QvHasForm, SimHasForms}
use Rattle.qp_unique.proofs.CountLemmas.{form_for, is_said_by, is_kept_by, lane-kept, or-both}
use Rattle.qp_replay.proofs.CallRecords.{CallNames, Claims, Named, Rules, Uses}
use Rattle.qp_replay.proofs.CourseRecords.{ChartNames, DeedNames, TaskNames}
use Rattle.qp_replay.proofs.LaneRecords.{Whose, lane-each}
use Rattle.qp_replay.proofs.OwnerRecords.{all-fine}
use Rattle.qp_replay.proofs.SourceRecords.{StimNames}
use Rattle.qp_replay.proofs.NamedRecords.{all-unit, none-known}

lane-short : (lane : List Item) → ends_last lane ≡ true → has_room lane ≡ true → length lane ≤ 1000001
unfolding has_room
lane-short lane last room =
    let long = lane-long lane last in
    let few : count_by (λ i. not (is_spill i.body)) lane ≤ 1000000 = grind (arith, nat_tests, room) in
    omega (arith, long, few)

lanes-kept : (rests : Bool) (lanes : List (List Rec)) → list_all (λ lane. list_all (is_kept_by rests) (lane_items lane)) lanes ≡ true → list_all (λ lane. ends_last (lane_items lane)) lanes ≡ true
    → list_all (λ lane. has_room (lane_items lane)) lanes ≡ true → (list_all (is_lane_in_range (form_for rests)) lanes ≡ true) × ((rests || has_no_rest lanes) ≡ true)
unfolding lane_items
lanes-kept rests [] kept last room = (refl, or_right rests true refl)
lanes-kept rests (lane ∷ lanes) kept last room =
    let k = and_parts (list_all (is_kept_by rests) (lane_items lane)) _ kept in
    let l = and_parts (ends_last (lane_items lane)) _ last in
    let r = and_parts (has_room (lane_items lane)) _ room in
    let here = lane-kept rests lane k.0 (lane-short (lane_items lane) l.0 r.0) in
    let rest = lanes-kept rests lanes k.1 l.1 r.1 in
    (and_from _ _ here.0 rest.0, or-both rests _ _ here.1 rest.1)

-- What each record says, of any system: no more is claimed than that a new event has at most eight parameters, and that a `rest` is of `qv`.

abbrev unnamed : Named
unnamed = record { Object = λ a. ⊤; Signal = λ sig. ⊤; Timer = λ t. ⊤; Event = λ sig pars. ⊤ }

abbrev said_claims : Bool → Claims
said_claims rests = record {
  names = unnamed;
  Pool = λ p. ⊤;
  Block = λ p b. ⊤;
  Good = λ e. ⊤;
  New = λ p sig pars. nat_le (length pars) 8 ≡ true;
  Member = λ a. ⊤;
  Rests = rests ≡ true;
  Knows = λ t. ⊤;
}

-- no pool has room for more
none-large : (n : ℕ) → 8 < n → (sizes : List ℕ) → AllByRecursion (λ size. size ≤ 8) sizes → prefix_len (λ size. not (nat_le n size)) sizes ≡ length sizes
none-large n large [] small = refl
none-large n large (size ∷ sizes) small =
    let within = small.0 in
    let no : nat_le n size ≡ false = grind (arith, nat_tests, large, within) in
    let rest : prefix_len (λ size. not (nat_le n size)) sizes ≡ length sizes = none-large n large sizes small.1 in
    rw no (omega (arith, rest))

-- an event for which there is a pool has at most as many parameters as the largest pool has room for
pars-few : (sizes : List ℕ) (n p : ℕ) → AllByRecursion (λ size. size ≤ 8) sizes → first_pool sizes n ≡ Some p → nat_le n 8 ≡ true
unfolding first_pool
pars-few sizes n p small first = by (nat_le n 8) refl
  where
    by : (b : Bool) → nat_le n 8 ≡ b → nat_le n 8 ≡ true
    by true e = e
    by false e =
        let large : 8 < n = grind (arith, nat_tests, e) in
        let none = none-large n large sizes small in
        let test : nat_lt (prefix_len (λ size. not (nat_le n size)) sizes) (length sizes) ≡ false = grind (arith, nat_tests, none) in
        let wrong = rw test at first in absurd (cc)

said-rules : (sys : System) → AllByRecursion (λ size. size ≤ 8) (sizes_of sys) → (rests : Bool) → Rules sys (said_claims rests)
said-rules sys small rests = record {
  object = λ a is. tt;
  timer = λ t is. tt;
  pool = λ p is. tt;
  new = λ p sig pars first event. pars-few (sizes_of sys) (length pars) p small first;
  made = λ p n b from sig free pars pool known. tt;
  good = λ p b r block. tt;
  block = λ e some good. tt;
  static = λ sig is. tt;
  takes = λ f l m e ev known. tt;
  member = λ a is. tt;
  subscribed = λ sig n set signal known. all-unit (members set);
}

uses-said : (rests : Bool) (o : ℕ) (H : List Token) (b : Body) → Uses o (said_claims rests) H b → is_said_by rests b ≡ true
uses-said rests o H (body.New p n b from sig pars) uses = uses
uses-said rests o H (body.Rest k) uses = uses
uses-said rests o H body.Malformed uses = absurd uses
uses-said rests o H _ uses = refl

unnamed-call : (sys : System) (o : ℕ) (x : Call) → CallNames unnamed sys o x
unnamed-call sys o (call.Post to sig pars margin reserve) = (tt, tt)
unnamed-call sys o (call.Lifo sig pars reserve) = (tt, tt)
unnamed-call sys o (call.Publish sig pars reserve) = (tt, tt)
unnamed-call sys o (call.Subscribe sig) = (tt, tt)
unnamed-call sys o _ = tt

unnamed-tasks : (sys : System) (o : ℕ) (ts : List Task) → AllByRecursion (TaskNames unnamed sys o) ts
unnamed-tasks sys o [] = tt
unnamed-tasks sys o (t ∷ ts) = (task t, unnamed-tasks sys o ts)
  where
    deed : (d : Deed) → DeedNames unnamed sys o d
    deed (Calls x) = unnamed-call sys o x
    deed _ = tt

    task : (t : Task) → TaskNames unnamed sys o t
    task (Do p) = λ names is. deed (deed_of names p)
    task _ = tt

unnamed-chart : (sys : System) (o : ℕ) (chart : Chart) → ChartNames unnamed sys o chart
unnamed-chart sys o chart = record { start = unnamed-tasks sys o _; steps = λ leaf names sig. unnamed-tasks sys o _ }

unnamed-stimuli : (sources : List (List Stim)) → AllByRecursion (AllByRecursion (StimNames unnamed)) sources
unnamed-stimuli [] = tt
unnamed-stimuli (ss ∷ more) = (source ss, unnamed-stimuli more)
  where
    one : (s : Stim) → StimNames unnamed s
    one (stim.Post to ev margin reserve) = (tt, tt)
    one (stim.Publish ev reserve) = (tt, tt)
    one _ = tt

    source : (ss : List Stim) → AllByRecursion (StimNames unnamed) ss
    source [] = tt
    source (s ∷ ss) = (one s, source ss)

-- Each record is of an object of at most 32, or of none.

abbrev pub IsLow : List Item → Type 0
IsLow lane = AllByRecursion (λ i. i.of ≤ 32) lane

both-kept : (rests : Bool) (is : List Item) → IsLow is → AllByRecursion (λ i. is_said_by rests i.body ≡ true) is → list_all (is_kept_by rests) is ≡ true
both-kept rests [] low said = refl
both-kept rests (i ∷ is) low said = and_from _ _ (and_from _ _ (here low.0) said.0) (both-kept rests is low.1 said.1)
  where
    here : i.of ≤ 32 → nat_le i.of 32 ≡ true
    here le = grind (arith, nat_tests, le)

lanes-said : (rests : Bool) (lanes : List (List Rec)) → AllByRecursion (λ lane. IsLow (lane_items lane)) lanes → AllByRecursion (λ i. is_said_by rests i.body ≡ true) (all_items lanes)
    → list_all (λ lane. list_all (is_kept_by rests) (lane_items lane)) lanes ≡ true
unfolding all_items
lanes-said rests [] low said = refl
lanes-said rests (lane ∷ lanes) low said =
    let parts = every-parts (λ i. is_said_by rests i.body ≡ true) (lane_items lane) (all_items lanes) said in
    and_from _ _ (both-kept rests (lane_items lane) low.0 parts.0) (lanes-said rests lanes low.1 parts.1)

alone-low : (lane : List Item) → list_all (λ i. i.of == 0) lane ≡ true → IsLow lane
alone-low [] h = tt
alone-low (i ∷ lane) h = let parts = and_parts (i.of == 0) _ h in (here parts.0, alone-low lane parts.1)
  where
    here : (i.of == 0) ≡ true → i.of ≤ 32
    here is = let none : i.of ≡ 0 = grind (arith, nat_tests, is) in omega (arith, none)

-- the lanes of the sources
pub sources-low : (sys : System) (j : Journal) (ls : List (List Rec)) (n : ℕ) (stimuli : List (List Stim)) → drop n j.lanes ≡ ls → SourceLanes sys j n stimuli → length ls ≡ length stimuli
    → AllByRecursion (λ lane. IsLow (lane_items lane)) ls
unfolding SourceLanes
sources-low sys j [] n stimuli at h len = tt
sources-low sys j (l ∷ ls) n [] at h len = absurd (omega (arith, len))
sources-low sys j (l ∷ ls) n (ss ∷ more) at h len =
    let behind = drop-head n j.lanes l ls at in
    let here : lane_at j n ≡ l = ap (λ x. unwrap_or x []) behind.0 in
    (subst (λ x. IsLow (lane_items x)) here (alone-low (lane_items (lane_at j n)) h.0.alone), sources-low sys j ls (n + 1) more behind.1 h.1 (omega (arith, len)))

small-pools : (pools : List PoolDef) → AllByRecursion IsSoundPool pools → AllByRecursion (λ size. size ≤ 8) (map (λ d. d.size) pools)
small-pools [] all = tt
small-pools (p ∷ pools) all = (all.0.size, small-pools pools all.1)

small-sizes : (sys : System) → IsSound sys → AllByRecursion (λ size. size ≤ 8) (sizes_of sys)
unfolding sizes_of
small-sizes sys sound = small-pools sys.pools sound.pools

end-known : (a e : Bool) → is_end_status (cond a end_asserted (cond e spent quiet)) ≡ true
end-known true e = refl
end-known false true = refl
end-known false false = refl

module _ (sys : System) (stimuli : List (List Stim)) (j : Journal) (sound : IsSound sys) (few : length stimuli ≤ 16) (rests : Bool) (kernel : ℕ) (is : j.kernel ≡ kernel) (h : Lawful sys stimuli j) where
  small : AllByRecursion (λ size. size ≤ 8) (sizes_of sys)
  small = small-sizes sys sound

  all-said : (kernel == qv) ≡ rests → AllByRecursion (λ i. is_said_by rests i.body ≡ true) (all_items j.lanes)
  all-said resting =
      all-fine sys stimuli j (said_claims rests) (said-rules sys small rests) (λ e. sym resting ∙ sym (ap (λ k. k == qv) is) ∙ e) sound (unnamed-stimuli stimuli) h
      (λ d found chart its. unnamed-chart sys d.priority chart) (λ o b. is_said_by rests b ≡ true) (uses-said rests) (none-known (all_items j.lanes))

  -- where each record is of an object of at most 32, or of none, and there aren't too many lanes, it can be written
  pub its-form : (kernel == qv) ≡ rests → nat_le kernel (last_kernel (form_for rests)) ≡ true → AllByRecursion (λ lane. IsLow (lane_items lane)) j.lanes → length j.lanes ≤ 49
      → 0 < j.budget → j.budget ≤ 1000000 → CanBeWritten (form_for rests) j
  unfolding EndHolds deferred_of
  its-form resting known low count some most =
      let lanes = lanes-kept rests j.lanes (lanes-said rests j.lanes low (all-said resting)) h.end.last h.end.room in
      let kernel_known : nat_le j.kernel (last_kernel (form_for rests)) ≡ true = ap (λ k. nat_le k (last_kernel (form_for rests))) is ∙ known in
      let least : nat_le 1 j.budget ≡ true = grind (arith, nat_tests, some) in
      let greatest : nat_le j.budget 1000000 ≡ true = grind (arith, nat_tests, most) in
      let stated : j.end ≡ end_of (all_items j.lanes) = grind (arith, nat_tests, h.end.stated) in
      let end : is_end_status j.end ≡ true = rw stated (end-known (list_any (λ i. is_assert i.body) (all_items j.lanes)) (list_any (λ i. is_end i.body) (all_items j.lanes))) in
      let lanes_few : nat_le (length j.lanes) 49 ≡ true = grind (arith, nat_tests, count) in
      record {
        has = formed rests (ap (λ k. k == qv) is ∙ resting) lanes.1;
        range = and_from _ _ (and_from _ _ (and_from _ _ (and_from _ _ (and_from _ _ kernel_known least) greatest) end) lanes_few) lanes.0;
      }
    where
      formed : (b : Bool) → (j.kernel == qv) ≡ b → (b || has_no_rest j.lanes) ≡ true → has_form (form_for b) j ≡ true
      formed true e none = refl
      formed false e none = and_from _ _ (ap (λ x. not x) e) none

module _ (sys : System) (stimuli : List (List Stim)) (j : Journal) (sound : IsSound sys) (few : length stimuli ≤ 16) (rests : Bool) (kernel : ℕ) (is : j.kernel ≡ kernel) (alone : (kernel == port) ≡ false)
    (h : Lawful sys stimuli j) where
  other : (j.kernel == port) ≡ false
  other = ap (λ k. k == port) is ∙ alone

  kernel-holds : KernelHolds sys j
  kernel-holds = rw other at h.kernel

  zero-low : IsLow (lane_items (lane_at j 0))
  unfolding setting_of
  zero-low = by (lane_read (setting_of sys j) (lane_items (lane_at j 0))) refl (count_by (λ i. is_settle i.body) (all_items j.lanes)) kernel-holds.lane
    where
      low : (ds : List ObjectDef) → AllByRecursion (λ d. d.priority ≤ 32) ds → AllByRecursion (λ p. p ≤ 32) (map (λ d. d.priority) ds)
      low [] h = tt
      low (d ∷ ds) h = (h.0, low ds h.1)

      each : (s : Setting) (objects : AllByRecursion (λ p. p ≤ 32) (map (λ d. d.priority) s.sys.objects)) (is : List Item) → AllByRecursion (λ i. Whose s (λ p. p ≤ 32) objects i.of (role_of i.body)) is → IsLow is
      each s objects [] h = tt
      each s objects (i ∷ is) h = (elim h.0 [ inl role ↦ (let none = role.0 in omega (arith, none)) | inr le ↦ le ], each s objects is h.1)

      by : (o : Option Reading) → lane_read (setting_of sys j) (lane_items (lane_at j 0)) ≡ o → (settles : ℕ) → reading_holds j (lane_items (lane_at j 0)) settles o ≡ true → IsLow (lane_items (lane_at j 0))
      by None at settles wrong = absurd (cc)
      by (Some last) at settles reads =
          let objects = low sys.objects sound.priorities in
          each (setting_of sys j) objects (lane_items (lane_at j 0)) (lane-each (setting_of sys j) (λ p. p ≤ 32) objects last (lane_items (lane_at j 0)) at)

  -- lane 0 and those of the sources
  all-low : (lanes : List (List Rec)) → j.lanes ≡ lanes → length j.lanes ≡ 1 + length stimuli → SourceLanes sys j 1 stimuli → AllByRecursion (λ lane. IsLow (lane_items lane)) j.lanes
  all-low [] at count sources = let none : length j.lanes ≡ 0 = ap length at in absurd (omega (arith, count, none))
  all-low (l ∷ ls) at count sources =
      let whole : length j.lanes ≡ suc (length ls) = ap length at in
      let rest : length ls ≡ length stimuli = omega (arith, count, whole) in
      let first : lane_at j 0 ≡ l = ap (λ x. unwrap_or (slice_get x 0) []) at in
      subst (AllByRecursion (λ lane. IsLow (lane_items lane))) (sym at) (subst (λ x. IsLow (lane_items x)) first zero-low, sources-low sys j ls 1 stimuli (ap (drop 1) at) sources rest)

  count : length j.lanes ≡ 1 + length stimuli
  count =
      let one : lanes_before sys j ≡ 1 = rw other refl in
      let counted : length j.lanes ≡ lanes_before sys j + length stimuli = grind (arith, nat_tests, h.sources.count) in
      omega (arith, one, counted)

  lanes-low : AllByRecursion (λ lane. IsLow (lane_items lane)) j.lanes
  lanes-low = let one : lanes_before sys j ≡ 1 = rw other refl in all-low j.lanes refl count (subst (λ n. SourceLanes sys j n stimuli) one h.sources.lanes)

  -- so in all lanes
  pub each-kept : (kernel == qv) ≡ rests → list_all (λ lane. list_all (is_kept_by rests) (lane_items lane)) j.lanes ≡ true
  each-kept resting = lanes-said rests j.lanes lanes-low (all-said sys stimuli j sound few rests kernel is h resting)

  -- and a journal of a kernel with a lane of its own can be written
  kernel-form : (kernel == qv) ≡ rests → nat_le kernel (last_kernel (form_for rests)) ≡ true → 0 < j.budget → j.budget ≤ 1000000 → CanBeWritten (form_for rests) j
  kernel-form resting known some most = its-form sys stimuli j sound few rests kernel is h resting known lanes-low (omega (arith, count, few)) some most

pub written : SimHasForms
written sys stimuli j sound few is_sim some most h = kernel-form sys stimuli j sound few false sim is_sim refl h refl refl some most

pub written-qv : QvHasForm
written-qv sys stimuli j sound few is_qv some most h = kernel-form sys stimuli j sound few true qv is_qv refl h refl refl some most

pub written-qk : QkHasForms
written-qk sys stimuli j sound few is_qk some most h = kernel-form sys stimuli j sound few false qk is_qk refl h refl refl some most
