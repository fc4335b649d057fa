-- What is read fits the system.
use Rattle.std.proofs.Common.{◌≡◌, ℕ, suc, ◌+◌, ◌-◌, ◌^◌, ◌<◌, ◌≤◌, Bool, true, false, cond, not, ◌&&◌, ◌||◌, ◌==◌, nat_lt, nat_le, List, [], ◌∷◌, length, Some, None, Ok, Err, refl, sym, ◌∙◌, ap, subst, arith, is_some, length-append}
use Rattle.std.specs.Prelude.{IfSome, IfOk, ⊤, slice_get}
use Rattle.std.specs.declared.option.Option.{Option}
use Rattle.std.specs.declared.result.Result.{Result}
use Rattle.std.specs.List.{AllByRecursion, Any}
use Rattle.std.specs.Str.{bytes_eq}
use Rattle.std.proofs.lemmas.Bool.{and_parts, eqb-true, ltb-false, ltb-true, not-false, or_parts}
use Rattle.std.proofs.lemmas.Bool.Decides.{nat_tests}
use Rattle.qp_model.specs.declared.stimulus.Stim.{Stim}
use Rattle.qp_model.specs.declared.stimulus.Stim.TheVariants as stim
use Rattle.qp_model.specs.declared.systems.System.{System}
use Rattle.qp_model.specs.declared.systems.SignalDef.{SignalDef}
use Rattle.qp_model.specs.declared.systems.ObjectDef.{ObjectDef}
use Rattle.qp_stim.specs.declared.fault.StimFault.{StimFault}
use Rattle.qp_stim.specs.declared.names.Signal.{Signal}
use Rattle.qp_stim.specs.declared.verdict.LineStep.{LineStep}
use Rattle.qp_stim.specs.declared.verdict.LineStep.TheVariants.{Skips, Opens, Adds}
use Rattle.qp_stim.specs.Parts.{is_skipped, lines}
use Rattle.qp_stim.specs.Names.{Dictionary, FewParams, dictionary_of, object_in, signal_in}
use Rattle.qp_stim.specs.Grammar.{Said, said_of}
use Rattle.qp_stim.specs.Grammar as line
use Rattle.qp_stim.specs.Codes.{exceeds, all_fit, is_out, event, source_stands, post_step, publish_step, source_step, step_said, step_if, step_of}
use Rattle.qp_stim.specs.Stimuli.{FaultLine, add_to_last, sources_after, fails_at, read_on, stimuli_of}
use Rattle.qp_model.specs.Results.{◌>>=◌}
use Rattle.qp_stim.specs.Answer.{StimuliAnswers}
use Rattle.qp_stim.specs.Rules.{EventFits, PostFits, StimulusFits, StimuliFit}
use Rattle.qp_model.proofs.HomeLemmas.{All-snoc}

few_by : (b : Bool) (s : Signal) (rest : Option Signal) → s.params ≤ 8 → IfSome rest (λ r. r.params ≤ 8) → IfSome (cond b (Some s) rest) (λ r. r.params ≤ 8)
few_by true s rest first others = first
few_by false s rest first others = others

few_in : (n : ℕ) (ds : List SignalDef) → AllByRecursion (λ d. d.params ≤ 8) ds → (name : List ℕ) → IfSome (signal_in n ds name) (λ s. s.params ≤ 8)
few_in n [] all name = tt
few_in n (d ∷ ds) all name =
    few_by (bytes_eq d.name name) (record { number = n; params = d.params; fixed = d.fixed }) (signal_in (n + 1) ds name) all.0 (few_in (n + 1) ds all.1 name)

-- a system whose signals have at most eight parameters
pub names_of-few : (sys : System) → AllByRecursion (λ d. d.params ≤ 8) sys.signals → FewParams (dictionary_of sys)
names_of-few sys all name = few_in 4 sys.signals all name

pub stimuli_of-names : (sys : System) (text : List ℕ) → stimuli_of sys text ≡ read_on (dictionary_of sys) 1 [] (lines text)
unfolding stimuli_of
stimuli_of-names sys text = refl

-- an object that was found is declared
abbrev HasPriority : ℕ → ObjectDef → Type 0
HasPriority to d = d.priority ≡ to

any_later : (to : ℕ) (d : ObjectDef) (ds : List ObjectDef) → Any (HasPriority to) ds → Any (HasPriority to) (d ∷ ds)
any_later to d ds h = (suc h.0, h.1, omega (arith, h.2), h.3, h.4)

object_by : (to : ℕ) (b : Bool) (d : ObjectDef) (ds : List ObjectDef) (rest : Option ℕ) → (rest ≡ Some to → Any (HasPriority to) ds)
    → cond b (Some d.priority) rest ≡ Some to → Any (HasPriority to) (d ∷ ds)
object_by to true d ds rest others h = let same : d.priority ≡ to = cc in (0, d, omega arith, refl, same)
object_by to false d ds rest others h = any_later to d ds (others h)

object_in-Some : (ds : List ObjectDef) (name : List ℕ) (to : ℕ) → object_in ds name ≡ Some to → Any (HasPriority to) ds
object_in-Some [] name to h = cc
object_in-Some (d ∷ ds) name to h = object_by to (bytes_eq d.name name) d ds (object_in ds name) (object_in-Some ds name to) h

-- a signal that was found is declared
record Declared (n : ℕ) (ds : List SignalDef) (s : Signal) : Type 0 where
  def : SignalDef
  from : n ≤ s.number
  place : slice_get ds (s.number - n) ≡ Some def
  params : s.params ≡ def.params
  fixed : s.fixed ≡ def.fixed

signal_by : (n : ℕ) (s : Signal) (b : Bool) (d : SignalDef) (ds : List SignalDef) (rest : Option Signal) → (rest ≡ Some s → Declared (n + 1) ds s)
    → cond b (Some (record { number = n; params = d.params; fixed = d.fixed })) rest ≡ Some s → Declared n (d ∷ ds) s
signal_by n s true d ds rest others h =
    let found : Signal = record { number = n; params = d.params; fixed = d.fixed } in
    let same : found ≡ s = cc in
    let zero_apart : 0 ≡ n - n = omega arith in
    let P : ℕ → Type 0 = λ k. slice_get (d ∷ ds) k ≡ Some d in
    let here : Declared n (d ∷ ds) found = record { def = d; from = omega arith; place = subst P zero_apart refl; params = refl; fixed = refl } in
    subst (Declared n (d ∷ ds)) same here
signal_by n s false d ds rest others h =
    let later = others h in
    let one_more : suc (s.number - (n + 1)) ≡ s.number - n = omega (arith, later.from) in
    let P : ℕ → Type 0 = λ k. slice_get (d ∷ ds) k ≡ Some later.def in
    record { def = later.def; from = omega (arith, later.from); place = subst P one_more later.place; params = later.params; fixed = later.fixed }

signal_in-Some : (n : ℕ) (ds : List SignalDef) (name : List ℕ) (s : Signal) → signal_in n ds name ≡ Some s → Declared n ds s
signal_in-Some n [] name s h = cc
signal_in-Some n (d ∷ ds) name s h =
    signal_by n s (bytes_eq d.name name) d ds (signal_in (n + 1) ds name) (signal_in-Some (n + 1) ds name s) h

chosen_Ok : {A : Type 0} (b : Bool) (code : ℕ) (r : Result A ℕ) (x : A) → cond b (Err code) r ≡ Ok x → (b ≡ false) × (r ≡ Ok x)
chosen_Ok true code r x h = cc
chosen_Ok false code r x h = (refl, h)

record Stands (out miscounted : Bool) (step found : LineStep) : Type 0 where
  in_range : out ≡ false
  counted : miscounted ≡ false
  same : step ≡ found

stands_Ok : (sources : ℕ) (out miscounted : Bool) (step found : LineStep) → source_stands sources out miscounted step ≡ Ok found → Stands out miscounted step found
stands_Ok sources out miscounted step found h =
    let a = chosen_Ok out 3 (cond (sources == 0) (Err 4) (cond miscounted (Err 5) (Ok step))) found h in
    let b = chosen_Ok (sources == 0) 4 (cond miscounted (Err 5) (Ok step)) found a.1 in
    let c = chosen_Ok miscounted 5 (Ok step) found b.1 in
    let last : Ok step ≡ Ok found = c.1 in
    record { in_range = a.0; counted = c.0; same = cc }

and_true_right : (a : Bool) → (a && true) ≡ false → a ≡ false
and_true_right true h = h
and_true_right false h = refl

all_below_limit : (pars : List ℕ) → all_fit pars ≡ true → AllByRecursion (λ p. p < 2 ^ 64) pars
all_below_limit [] h = tt
all_below_limit (p ∷ ps) h = let parts = and_parts (nat_lt p (2 ^ 64)) (all_fit ps) h in (ltb-true p (2 ^ 64) parts.0, all_below_limit ps parts.1)

below_256 : (m : Option ℕ) → exceeds 255 m ≡ false → IfSome m (λ n. n < 256)
below_256 None h = tt
below_256 (Some n) h = omega (arith, ltb-false 255 n h)

reserve_fits : (fixed : Bool) (reserve : Option ℕ) → exceeds 255 reserve ≡ false → (fixed && is_some reserve) ≡ false → IfSome reserve (λ r. (r < 256) × (fixed ≡ false))
reserve_fits fixed None small free = tt
reserve_fits fixed (Some r) small free = (omega (arith, ltb-false 255 r small), and_true_right fixed free)

event_fits : (sys : System) (name : List ℕ) (signal : Signal) (pars : List ℕ) (reserve : Option ℕ) → signal_in 4 sys.signals name ≡ Some signal
    → is_out signal pars reserve ≡ false → not (length pars == signal.params) ≡ false → EventFits sys (event signal pars) reserve
event_fits sys name signal pars reserve found in_range counted =
    let d = signal_in-Some 4 sys.signals name signal found in
    let a = or_parts (not (all_fit pars) || exceeds 255 reserve) (signal.fixed && is_some reserve) in_range in
    let b = or_parts (not (all_fit pars)) (exceeds 255 reserve) a.0 in
    let P : Bool → Type 0 = λ fixed. IfSome reserve (λ r. (r < 256) × (fixed ≡ false)) in
    record {
      def = d.def;
      above_reserved = d.from;
      declared = d.place;
      count = eqb-true (length pars) signal.params (not-false (length pars == signal.params) counted) ∙ d.params;
      pars = all_below_limit pars (not-false (all_fit pars) b.0);
      reserved = subst P d.fixed (reserve_fits signal.fixed reserve b.1 a.1);
    }

-- what a line that stands does, behind so many sources
StepFits : System → ℕ → LineStep → Type 0
StepFits sys sources Skips = ⊤
StepFits sys sources Opens = sources + 1 ≤ 16
StepFits sys sources (Adds s) = StimulusFits sys s

post_fits : (sys : System) (sources : ℕ) (o name : List ℕ) (to : Option ℕ) (signal : Option Signal) (pars : List ℕ) (margin reserve : Option ℕ) (step : LineStep)
    → object_in sys.objects o ≡ to → signal_in 4 sys.signals name ≡ signal → post_step sources to signal pars margin reserve ≡ Ok step → StepFits sys sources step
unfolding post_step StepFits
post_fits sys sources o name None None pars margin reserve step object found h = cc
post_fits sys sources o name None (Some signal) pars margin reserve step object found h = cc
post_fits sys sources o name (Some to) None pars margin reserve step object found h = cc
post_fits sys sources o name (Some to) (Some signal) pars margin reserve step object found h =
    let s = stands_Ok sources (exceeds 255 margin || is_out signal pars reserve) (not (length pars == signal.params))
    (Adds (stim.Post to (event signal pars) margin reserve)) step h in
    let a = or_parts (exceeds 255 margin) (is_out signal pars reserve) s.in_range in
    let fits : PostFits sys to (event signal pars) margin reserve = record {
      object = object_in-Some sys.objects o to object;
      event = event_fits sys name signal pars reserve found a.1 s.counted;
      margined = below_256 margin a.0;
    } in
    subst (StepFits sys sources) s.same fits

publish_fits : (sys : System) (sources : ℕ) (name : List ℕ) (signal : Option Signal) (pars : List ℕ) (reserve : Option ℕ) (step : LineStep)
    → signal_in 4 sys.signals name ≡ signal → publish_step sources signal pars reserve ≡ Ok step → StepFits sys sources step
unfolding publish_step StepFits
publish_fits sys sources name None pars reserve step found h = cc
publish_fits sys sources name (Some signal) pars reserve step found h =
    let s = stands_Ok sources (is_out signal pars reserve) (not (length pars == signal.params)) (Adds (stim.Publish (event signal pars) reserve)) step h in
    let fits : EventFits sys (event signal pars) reserve = event_fits sys name signal pars reserve found s.in_range s.counted in
    subst (StepFits sys sources) s.same fits

opens_by : (b : Bool) (step : LineStep) → cond {A = Result LineStep ℕ} b (Ok Opens) (Err 4) ≡ Ok step → (b ≡ true) × (Opens ≡ step)
opens_by true step h = let same : Opens ≡ step = cc in (refl, same)
opens_by false step h = cc

next_below : (sources n : ℕ) → ((n == sources + 1) && nat_le n 16) ≡ true → sources + 1 ≤ 16
next_below sources n h = grind (arith, nat_tests)

source_fits : (sys : System) (sources n : ℕ) (step : LineStep) → source_step sources n ≡ Ok step → StepFits sys sources step
unfolding source_step StepFits
source_fits sys sources n step h =
    let opens = opens_by ((n == sources + 1) && nat_le n 16) step h in
    subst (StepFits sys sources) opens.1 (next_below sources n opens.0)

tick_fits : (sys : System) (sources rate : ℕ) (step : LineStep) → source_stands sources (nat_lt 3 rate) false (Adds (stim.Tick rate)) ≡ Ok step → StepFits sys sources step
unfolding StepFits
tick_fits sys sources rate step h =
    let s = stands_Ok sources (nat_lt 3 rate) false (Adds (stim.Tick rate)) step h in
    let below : rate < 4 = omega (arith, ltb-false 3 rate s.in_range) in
    subst (StepFits sys sources) s.same below

settle_fits : (sys : System) (sources : ℕ) (step : LineStep) → source_stands sources false false (Adds stim.Settle) ≡ Ok step → StepFits sys sources step
unfolding StepFits
settle_fits sys sources step h = subst (StepFits sys sources) (stands_Ok sources false false (Adds stim.Settle) step h).same tt

said_fits : (sys : System) (sources : ℕ) (said : Said) (step : LineStep) → step_said (dictionary_of sys) sources said ≡ Ok step → StepFits sys sources step
unfolding step_said
said_fits sys sources (line.Source n) step h = source_fits sys sources n step h
said_fits sys sources (line.Post o e margin reserve) step h =
    post_fits sys sources o e.signal (object_in sys.objects o) (signal_in 4 sys.signals e.signal) e.pars margin reserve step refl refl h
said_fits sys sources (line.Publish e reserve) step h = publish_fits sys sources e.signal (signal_in 4 sys.signals e.signal) e.pars reserve step refl h
said_fits sys sources (line.Tick rate) step h = tick_fits sys sources rate step h
said_fits sys sources line.Settle step h = settle_fits sys sources step h

if_fits : (sys : System) (sources : ℕ) (said : Option Said) (step : LineStep) → step_if (dictionary_of sys) sources said ≡ Ok step → StepFits sys sources step
if_fits sys sources None step h = cc
if_fits sys sources (Some said) step h = said_fits sys sources said step h

line_by : (sys : System) (sources : ℕ) (b : Bool) (said : Option Said) (step : LineStep) → cond b (Ok Skips) (step_if (dictionary_of sys) sources said) ≡ Ok step
    → StepFits sys sources step
unfolding StepFits
line_by sys sources true said step h = let same : Skips ≡ step = cc in subst (StepFits sys sources) same tt
line_by sys sources false said step h = if_fits sys sources said step h

line_fits : (sys : System) (sources : ℕ) (text : List ℕ) (step : LineStep) → step_of (dictionary_of sys) sources text ≡ Ok step → StepFits sys sources step
unfolding step_of
line_fits sys sources text step h = line_by sys sources (is_skipped text) (said_of text) step h

length-add_to_last : (s : Stim) (sources : List (List Stim)) → length (add_to_last s sources) ≡ length sources
length-add_to_last s [] = refl
length-add_to_last s (x ∷ []) = refl
length-add_to_last s (x ∷ y ∷ xs) = ap suc (length-add_to_last s (y ∷ xs))

add_to_last-fits : (sys : System) (s : Stim) (sources : List (List Stim)) → StimulusFits sys s → AllByRecursion (AllByRecursion (StimulusFits sys)) sources
    → AllByRecursion (AllByRecursion (StimulusFits sys)) (add_to_last s sources)
add_to_last-fits sys s [] fits all = tt
add_to_last-fits sys s (x ∷ []) fits all = (All-snoc (StimulusFits sys) x s all.0 fits, tt)
add_to_last-fits sys s (x ∷ y ∷ xs) fits all = (all.0, add_to_last-fits sys s (y ∷ xs) fits all.1)

after_fits : (sys : System) (sources : List (List Stim)) (step : LineStep) → StimuliFit sys sources → StepFits sys (length sources) step
    → StimuliFit sys (sources_after sources step)
unfolding StepFits
after_fits sys sources Skips fits step = fits
after_fits sys sources Opens fits step = record {
  few = omega (arith, length-append sources ([] ∷ []), step);
  stimuli = All-snoc (AllByRecursion (StimulusFits sys)) sources [] fits.stimuli tt;
}
after_fits sys sources (Adds s) fits step = record {
  few = omega (arith, length-add_to_last s sources, fits.few);
  stimuli = add_to_last-fits sys s sources step fits.stimuli;
}

next_fits : (sys : System) (n : ℕ) (sources found : List (List Stim)) (text : List ℕ) (more : List (List ℕ)) (r : Result LineStep ℕ) → StimuliFit sys sources
    → ((step : LineStep) → StimuliFit sys (sources_after sources step) → read_on (dictionary_of sys) (n + 1) (sources_after sources step) more ≡ Ok found → StimuliFit sys found)
    → step_of (dictionary_of sys) (length sources) text ≡ r
    → (fails_at n r >>= λ step. read_on (dictionary_of sys) (n + 1) (sources_after sources step) more) ≡ Ok found → StimuliFit sys found
next_fits sys n sources found text more (Ok step) fits others is h = others step (after_fits sys sources step fits (line_fits sys (length sources) text step is)) h
next_fits sys n sources found text more (Err code) fits others is h = cc

lines_fit : (sys : System) (n : ℕ) (sources found : List (List Stim)) (texts : List (List ℕ)) → StimuliFit sys sources
    → read_on (dictionary_of sys) n sources texts ≡ Ok found → StimuliFit sys found
unfolding read_on
lines_fit sys n sources found [] fits h = let same : sources ≡ found = cc in subst (StimuliFit sys) same fits
lines_fit sys n sources found (text ∷ more) fits h =
    next_fits sys n sources found text more (step_of (dictionary_of sys) (length sources) text) fits
    (λ step after. lines_fit sys (n + 1) (sources_after sources step) found more after) refl h

-- stimuli that were read fit the system
pub stimuli_of-fits : (sys : System) (text : List ℕ) (sources : List (List Stim)) → stimuli_of sys text ≡ Ok sources → StimuliFit sys sources
stimuli_of-fits sys text sources h =
    lines_fit sys 1 [] sources (lines text) (record { few = omega arith; stimuli = tt }) (sym (stimuli_of-names sys text) ∙ h)

pub answers-fit : (sys : System) (text : List ℕ) (r : Result (List (List Stim)) StimFault) → StimuliAnswers r (stimuli_of sys text) → IfOk r (StimuliFit sys)
answers-fit sys text (Ok sources) h = stimuli_of-fits sys text sources h
answers-fit sys text (Err fault) h = tt

pub answers-names : (sys : System) (names : Dictionary) (text : List ℕ) (r : Result (List (List Stim)) StimFault) → names ≡ dictionary_of sys
    → StimuliAnswers r (read_on names 1 [] (lines text)) → StimuliAnswers r (stimuli_of sys text)
answers-names sys names text r same h =
    let P : Dictionary → Type 0 = λ d. StimuliAnswers r (read_on d 1 [] (lines text)) in
    let Q : Result (List (List Stim)) FaultLine → Type 0 = StimuliAnswers r in
    subst Q (sym (stimuli_of-names sys text)) (subst P same h)
