-- Calls with names as their operands.
use Rattle.std.proofs.Common.{◌≡◌, ◌∙◌, ◌++◌, ◌<◌, ◌==◌, arith, ap, ap₂, codes, decimal, fold, get_or, refl, sym, List, [], ◌∷◌, Bool, true, false, not, None, Some, option_and_then, option_map}
use Rattle.std.proofs.lemmas.Fmt.{first_decimal}
use Rattle.std.proofs.lemmas.Bool.{eqb-true, le-leb}
use Rattle.std.specs.Fmt.{digits}
use Rattle.std.proofs.lemmas.List.Sums.{fold-append}
use Rattle.qp_text.proofs.NumberLaw.{number_of-decimal}
use Rattle.clap.specs.Words.{Kinds, Row, Rule, Shape, Text, built, reading_of}
use Rattle.clap.specs.Walk.{Held, Names, Walk, nothing_held, value, walk, walk_from, walked}
use Rattle.clap.specs.Faults.{defaults_fault, step_fault, turn_fault, walk_fault}
use Rattle.clap.specs.Kinds.{or_else}
use Rattle.clap.specs.declared.builder.value_parser.ValueParser.TheVariants as vp
use Rattle.clap.specs.declared.parser.matches.ValueSource.TheVariants.{CommandLine}
use Rattle.clap.proofs.OnLiterals.{clap_on_literals}
use Rattle.qp_commands.specs.declared.values.KernelName.{KernelName}
use Rattle.qp_commands.specs.declared.values.KernelName.TheVariants.{Sim, Qk, Port, Wait, Qv}
use Rattle.qp_commands.specs.declared.values.Form.{Form}
use Rattle.qp_commands.specs.declared.values.Form.TheVariants.{One, Two}
use Rattle.qp_commands.specs.declared.values.Output.{Output}
use Rattle.qp_commands.specs.declared.values.Output.TheVariants.{Whole, Summary}
use Rattle.qp_commands.specs.declared.values.Kind.{Kind}
use Rattle.qp_commands.specs.declared.values.Kind.TheVariants.{Journal, Frames}
use Rattle.qp_commands.specs.WordLaws.{BudgetWords, CheckOfNames, CooperativeWords, DecodeOfName, EachBudget, GenerateOfNumber, MigrateInFull, MigrateOfName, RefusedCalls, ReplayOfNames, RunInFull, RunOfNames, is_operand, word_of_form, word_of_kernel, word_of_kind, word_of_output}
use Rattle.qp_commands.specs.WordTable.{asked_by, budget_in, check, check_words, command_in, decode_app, decode_in, decode_with, default_form, files_app, files_in, files_with, form_in, form_under, found_in, generate_app, generate_in, generate_with, is_form_of, kernel_named, kind_named, made_in, migrate_app, migrate_in, migrate_with, output_in, replay, run_app, run_in, run_with}
use Rattle.qp_commands.proofs.WordNames.{found-walked, name-turn, name-walked, next_at, standing}

-- ---- options, and then one name or two

or_else-assoc : (a b c : Kinds) → or_else (or_else a b) c ≡ or_else a (or_else b c)
or_else-assoc [] b c = refl
or_else-assoc (k ∷ ks) b c = refl

walk_fault-append : (s : Shape) (names : Names) (w : Walk) (xs ys : List Text)
    → walk_fault s names w (xs ++ ys) ≡ or_else (walk_fault s names w xs) (walk_fault s names (fold (walked s.rules names) w xs) ys)
unfolding walk_fault
walk_fault-append s names w [] ys = refl
walk_fault-append s names w (x ∷ xs) ys =
    ap (or_else (turn_fault s names w x)) (walk_fault-append s names (walked s.rules names w x) xs ys)
    ∙ sym (or_else-assoc (turn_fault s names w x) _ _)

one_walked : (rules : List Rule) (options : List Text) (h : Held) (x : Text) → is_operand x ≡ true
    → walk rules [] nothing_held options ≡ standing h 1
    → walk rules [] nothing_held (options ++ x ∷ []) ≡ next_at rules h 1 x
one_walked rules options h x name stands =
    fold-append (walked rules []) (walk_from nothing_held) options (x ∷ [])
    ∙ (ap (λ (w : Walk). walked rules [] w x) stands ∙ name-walked rules h 1 x name)

one_faults : (s : Shape) (options : List Text) (h : Held) (x : Text) → is_operand x ≡ true
    → walk s.rules [] nothing_held options ≡ standing h 1 → walk_fault s [] (walk_from nothing_held) options ≡ []
    → step_fault s 1 h value ≡ []
    → walk_fault s [] (walk_from nothing_held) (options ++ x ∷ []) ≡ []
unfolding walk_fault
one_faults s options h x name stands none first =
    walk_fault-append s [] (walk_from nothing_held) options (x ∷ [])
    ∙ ap₂ or_else none (ap (λ (w : Walk). walk_fault s [] w (x ∷ [])) stands ∙ ap₂ or_else (name-turn s h 1 x name ∙ first) refl)

two_walked : (rules : List Rule) (options : List Text) (h g : Held) (x y : Text) → is_operand x ≡ true → is_operand y ≡ true
    → walk rules [] nothing_held options ≡ standing h 1 → next_at rules h 1 x ≡ standing g 2
    → walk rules [] nothing_held (options ++ x ∷ y ∷ []) ≡ next_at rules g 2 y
two_walked rules options h g x y name_x name_y stands next =
    fold-append (walked rules []) (walk_from nothing_held) options (x ∷ y ∷ [])
    ∙ (ap (λ (w : Walk). walked rules [] (walked rules [] w x) y) stands
    ∙ (ap (λ (w : Walk). walked rules [] w y) (name-walked rules h 1 x name_x ∙ next) ∙ name-walked rules g 2 y name_y))

two_faults : (s : Shape) (options : List Text) (h g : Held) (x y : Text) → is_operand x ≡ true → is_operand y ≡ true
    → walk s.rules [] nothing_held options ≡ standing h 1 → walk_fault s [] (walk_from nothing_held) options ≡ []
    → next_at s.rules h 1 x ≡ standing g 2 → step_fault s 1 h value ≡ [] → step_fault s 2 g value ≡ []
    → walk_fault s [] (walk_from nothing_held) (options ++ x ∷ y ∷ []) ≡ []
unfolding walk_fault
two_faults s options h g x y name_x name_y stands none next first second =
    walk_fault-append s [] (walk_from nothing_held) options (x ∷ y ∷ [])
    ∙ ap₂ or_else none (ap (λ (w : Walk). walk_fault s [] w (x ∷ y ∷ [])) stands
    ∙ ap₂ or_else (name-turn s h 1 x name_x ∙ first)
    (ap (λ (w : Walk). walk_fault s [] w (y ∷ [])) (name-walked s.rules h 1 x name_x ∙ next)
    ∙ ap₂ or_else (name-turn s g 2 y name_y ∙ second) refl))

three_walked : (rules : List Rule) (g k : Held) (x y z : Text) → is_operand x ≡ true → is_operand y ≡ true → is_operand z ≡ true
    → next_at rules nothing_held 1 x ≡ standing g 2 → next_at rules g 2 y ≡ standing k 3
    → walk rules [] nothing_held (x ∷ y ∷ z ∷ []) ≡ next_at rules k 3 z
three_walked rules g k x y z name_x name_y name_z first second =
    ap (λ (w : Walk). walked rules [] (walked rules [] w y) z) (name-walked rules nothing_held 1 x name_x ∙ first)
    ∙ (ap (λ (w : Walk). walked rules [] w z) (name-walked rules g 2 y name_y ∙ second) ∙ name-walked rules k 3 z name_z)

three_faults : (s : Shape) (g k : Held) (x y z : Text) → is_operand x ≡ true → is_operand y ≡ true → is_operand z ≡ true
    → next_at s.rules nothing_held 1 x ≡ standing g 2 → next_at s.rules g 2 y ≡ standing k 3
    → step_fault s 1 nothing_held value ≡ [] → step_fault s 2 g value ≡ [] → step_fault s 3 k value ≡ []
    → walk_fault s [] (walk_from nothing_held) (x ∷ y ∷ z ∷ []) ≡ []
unfolding walk_fault
three_faults s g k x y z name_x name_y name_z first second none_x none_y none_z =
    ap₂ or_else (name-turn s nothing_held 1 x name_x ∙ none_x)
    (ap (λ (w : Walk). walk_fault s [] w (y ∷ z ∷ [])) (name-walked s.rules nothing_held 1 x name_x ∙ first)
    ∙ ap₂ or_else (name-turn s g 2 y name_y ∙ none_y)
    (ap (λ (w : Walk). walk_fault s [] w (z ∷ [])) (name-walked s.rules g 2 y name_y ∙ second)
    ∙ ap₂ or_else (name-turn s k 3 z name_z ∙ none_z) refl))

-- ---- what is held

abbrev given : (id text : Text) → Row
given id text = record { id = id; values = text ∷ []; count = None; source = Some CommandLine; reading = reading_of vp.String }

abbrev pending : List Row → (id text : Text) → Held
pending rows id text = record { rows = rows; pending = Some (id, text ∷ []); skip = 0 }

-- ---- names alone

pub run-names : RunOfNames
unfolding run_app command_in asked_by run_with kernel_named budget_in output_in form_in form_under walk_fault defaults_fault
run-names x y name_x name_y =
    ap (option_and_then run_in) (found-walked run_app (codes "run" ∷ x ∷ y ∷ []) (next_at (built run_app).top.rules (pending [] (codes "system") x) 2 y)
    (two_walked (built run_app).top.rules [] nothing_held (pending [] (codes "system") x) x y name_x name_y refl refl)
    (two_faults (built run_app).top [] nothing_held (pending [] (codes "system") x) x y name_x name_y refl refl refl refl refl))

pub decode-name : DecodeOfName
unfolding decode_app command_in asked_by decode_with walk_fault defaults_fault
decode-name x name =
    ap (option_and_then decode_in) (found-walked decode_app (codes "decode" ∷ x ∷ []) (next_at (built decode_app).top.rules nothing_held 1 x)
    (one_walked (built decode_app).top.rules [] nothing_held x name refl) (one_faults (built decode_app).top [] nothing_held x name refl refl refl))

pub migrate-name : MigrateOfName
unfolding migrate_app command_in asked_by migrate_with kind_named form_in walk_fault defaults_fault
migrate-name x name =
    ap (option_and_then migrate_in) (found-walked migrate_app (codes "migrate" ∷ x ∷ []) (next_at (built migrate_app).top.rules nothing_held 1 x)
    (one_walked (built migrate_app).top.rules [] nothing_held x name refl) (one_faults (built migrate_app).top [] nothing_held x name refl refl refl))

abbrev one_held : Text → Held
one_held x = pending [] (codes "system") x

abbrev two_held : Text → Text → Held
two_held x y = pending (given (codes "system") x ∷ []) (codes "stimuli") y

files_found : (word x y z : Text) → is_operand x ≡ true → is_operand y ≡ true → is_operand z ≡ true
    → option_and_then files_in (found_in (files_app word) (word ∷ x ∷ y ∷ z ∷ [])) ≡ Some (check_words x y z)
unfolding files_app files_with walk_fault defaults_fault
files_found word x y z name_x name_y name_z =
    ap (option_and_then files_in) (found-walked (files_app word) (word ∷ x ∷ y ∷ z ∷ []) (next_at (built (files_app word)).top.rules (two_held x y) 3 z)
    (three_walked (built (files_app word)).top.rules (one_held x) (two_held x y) x y z name_x name_y name_z refl refl)
    (three_faults (built (files_app word)).top (one_held x) (two_held x y) x y z name_x name_y name_z refl refl refl refl refl))

pub check-names : CheckOfNames
unfolding command_in asked_by
check-names x y z name_x name_y name_z = ap (option_map check) (files_found (codes "check") x y z name_x name_y name_z)

pub replay-names : ReplayOfNames
unfolding command_in asked_by
replay-names x y z name_x name_y name_z = ap (option_map replay) (files_found (codes "replay") x y z name_x name_y name_z)

-- ---- all options, and names

abbrev run_options : KernelName → Output → Form → List Text
run_options kernel out form =
    codes "--kernel" ∷ word_of_kernel kernel ∷ codes "--out" ∷ word_of_output out ∷ codes "--form" ∷ word_of_form form ∷ []

abbrev given_kernel : KernelName → Row
given_kernel kernel = given (codes "kernel") (word_of_kernel kernel)

abbrev run_held : KernelName → Output → Form → Held
run_held kernel out form = pending (given_kernel kernel ∷ given (codes "out") (word_of_output out) ∷ []) (codes "form") (word_of_form form)

abbrev run_next : KernelName → Output → Form → Text → Held
run_next kernel out form x =
    pending (given_kernel kernel ∷ given (codes "out") (word_of_output out) ∷ given (codes "form") (word_of_form form) ∷ []) (codes "system") x

-- one option after another, whatever the values before it are

abbrev run_rules : List Rule
run_rules = (built run_app).top.rules

abbrev kernel_held : Text → Held
kernel_held k = pending [] (codes "kernel") k

abbrev out_held : (k o : Text) → Held
out_held k o = pending (given (codes "kernel") k ∷ []) (codes "out") o

kernel_stands : (kernel : KernelName) → walk run_rules [] nothing_held (codes "--kernel" ∷ word_of_kernel kernel ∷ []) ≡ standing (kernel_held (word_of_kernel kernel)) 1
unfolding run_app clap_on_literals
kernel_stands Sim = refl
kernel_stands Qk = refl
kernel_stands Port = refl
kernel_stands Wait = refl
kernel_stands Qv = refl

out_stands : (k : Text) (out : Output) → fold (walked run_rules []) (standing (kernel_held k) 1) (codes "--out" ∷ word_of_output out ∷ [])
    ≡ standing (out_held k (word_of_output out)) 1
unfolding run_app clap_on_literals
out_stands k (Whole Journal) = refl
out_stands k (Whole Frames) = refl
out_stands k Summary = refl

form_stands : (k o : Text) (form : Form) → fold (walked run_rules []) (standing (out_held k o) 1) (codes "--form" ∷ word_of_form form ∷ [])
    ≡ standing (pending (given (codes "kernel") k ∷ given (codes "out") o ∷ []) (codes "form") (word_of_form form)) 1
unfolding run_app clap_on_literals
form_stands k o One = refl
form_stands k o Two = refl

kernel_faultless : (kernel : KernelName) → walk_fault (built run_app).top [] (walk_from nothing_held) (codes "--kernel" ∷ word_of_kernel kernel ∷ []) ≡ []
unfolding run_app clap_on_literals
kernel_faultless Sim = refl
kernel_faultless Qk = refl
kernel_faultless Port = refl
kernel_faultless Wait = refl
kernel_faultless Qv = refl

out_faultless : (k : Text) (out : Output) → walk_fault (built run_app).top [] (standing (kernel_held k) 1) (codes "--out" ∷ word_of_output out ∷ []) ≡ []
unfolding run_app clap_on_literals
out_faultless k (Whole Journal) = refl
out_faultless k (Whole Frames) = refl
out_faultless k Summary = refl

form_faultless : (k o : Text) (form : Form) → walk_fault (built run_app).top [] (standing (out_held k o) 1) (codes "--form" ∷ word_of_form form ∷ []) ≡ []
unfolding run_app clap_on_literals
form_faultless k o One = refl
form_faultless k o Two = refl

module _ (kernel : KernelName) (out : Output) (form : Form) where
  abbrev first_option : List Text
  first_option = codes "--kernel" ∷ word_of_kernel kernel ∷ []

  abbrev second_option : List Text
  second_option = codes "--out" ∷ word_of_output out ∷ []

  abbrev third_option : List Text
  third_option = codes "--form" ∷ word_of_form form ∷ []

  run_stands : walk run_rules [] nothing_held (run_options kernel out form) ≡ standing (run_held kernel out form) 1
  run_stands =
      fold-append (walked run_rules []) (walk_from nothing_held) first_option (second_option ++ third_option)
      ∙ (ap (λ (w : Walk). fold (walked run_rules []) w (second_option ++ third_option)) (kernel_stands kernel)
      ∙ (fold-append (walked run_rules []) (standing (kernel_held (word_of_kernel kernel)) 1) second_option third_option
      ∙ (ap (λ (w : Walk). fold (walked run_rules []) w third_option) (out_stands (word_of_kernel kernel) out)
      ∙ form_stands (word_of_kernel kernel) (word_of_output out) form)))

  run_faultless : walk_fault (built run_app).top [] (walk_from nothing_held) (run_options kernel out form) ≡ []
  run_faultless =
      walk_fault-append (built run_app).top [] (walk_from nothing_held) first_option (second_option ++ third_option)
      ∙ ap₂ or_else (kernel_faultless kernel)
      (ap (λ (w : Walk). walk_fault (built run_app).top [] w (second_option ++ third_option)) (kernel_stands kernel)
      ∙ (walk_fault-append (built run_app).top [] (standing (kernel_held (word_of_kernel kernel)) 1) second_option third_option
      ∙ ap₂ or_else (out_faultless (word_of_kernel kernel) out)
      (ap (λ (w : Walk). walk_fault (built run_app).top [] w third_option) (out_stands (word_of_kernel kernel) out)
      ∙ form_faultless (word_of_kernel kernel) (word_of_output out) form)))

kernel_in-word : (k : KernelName) → kernel_named (Some (word_of_kernel k)) ≡ Some k
unfolding kernel_named
kernel_in-word Sim = refl
kernel_in-word Qk = refl
kernel_in-word Port = refl
kernel_in-word Wait = refl
kernel_in-word Qv = refl

output_in-word : (o : Output) → output_in (Some (word_of_output o)) ≡ Some o
unfolding output_in
output_in-word (Whole Journal) = refl
output_in-word (Whole Frames) = refl
output_in-word Summary = refl

kind_in-word : (k : Kind) → kind_named (Some (word_of_kind k)) ≡ Some k
unfolding kind_named
kind_in-word Journal = refl
kind_in-word Frames = refl

form_in-word : (default f : Form) → form_in default (Some (word_of_form f)) ≡ Some f
unfolding form_in
form_in-word default One = refl
form_in-word default Two = refl

run_read : (kernel : KernelName) (out : Output) (form : Form) (x y : Text) → is_operand x ≡ true → is_operand y ≡ true
    → command_in (codes "run" ∷ run_options kernel out form ++ x ∷ y ∷ [])
    ≡ run_with (kernel_named (Some (word_of_kernel kernel))) (budget_in None) (output_in (Some (word_of_output out)))
    (option_and_then (λ k. form_under k (Some (word_of_form form))) (kernel_named (Some (word_of_kernel kernel)))) (Some x) (Some y)
unfolding run_app command_in asked_by defaults_fault
run_read kernel out form x y name_x name_y =
    ap (option_and_then run_in) (found-walked run_app (codes "run" ∷ run_options kernel out form ++ x ∷ y ∷ []) (next_at (built run_app).top.rules (run_next kernel out form x) 2 y)
    (two_walked (built run_app).top.rules (run_options kernel out form) (run_held kernel out form) (run_next kernel out form x) x y name_x name_y (run_stands kernel out form) refl)
    (two_faults (built run_app).top (run_options kernel out form) (run_held kernel out form) (run_next kernel out form x) x y name_x name_y
    (run_stands kernel out form) (run_faultless kernel out form) refl refl refl))

form_under-word : (kernel : KernelName) (form : Form) → is_form_of kernel form ≡ true → form_under kernel (Some (word_of_form form)) ≡ Some form
unfolding form_under
form_under-word kernel form fits = rw (form_in-word (default_form kernel) form, fits) refl

pub run-full : RunInFull
unfolding run_with budget_in
run-full kernel out form x y fits name_x name_y =
    run_read kernel out form x y name_x name_y ∙ rw (kernel_in-word kernel, output_in-word out, form_under-word kernel form fits) refl

pub cooperative-words : CooperativeWords
unfolding clap_on_literals command_in asked_by run_app run_with kernel_named budget_in output_in form_in form_under
cooperative-words = refl

abbrev migrate_options : Kind → Form → List Text
migrate_options from to = codes "--from" ∷ word_of_kind from ∷ codes "--to" ∷ word_of_form to ∷ []

abbrev migrate_held : Kind → Form → Held
migrate_held from to = pending (given (codes "from") (word_of_kind from) ∷ []) (codes "to") (word_of_form to)

migrate_stands : (from : Kind) (to : Form) → walk (built migrate_app).top.rules [] nothing_held (migrate_options from to) ≡ standing (migrate_held from to) 1
unfolding migrate_app clap_on_literals
migrate_stands Journal One = refl
migrate_stands Journal Two = refl
migrate_stands Frames One = refl
migrate_stands Frames Two = refl

migrate_faultless : (from : Kind) (to : Form) → walk_fault (built migrate_app).top [] (walk_from nothing_held) (migrate_options from to) ≡ []
unfolding migrate_app clap_on_literals
migrate_faultless Journal One = refl
migrate_faultless Journal Two = refl
migrate_faultless Frames One = refl
migrate_faultless Frames Two = refl

migrate_read : (from : Kind) (to : Form) (x : Text) → is_operand x ≡ true
    → command_in (codes "migrate" ∷ migrate_options from to ++ x ∷ [])
    ≡ migrate_with (kind_named (Some (word_of_kind from))) (form_in Two (Some (word_of_form to))) (Some x)
unfolding migrate_app command_in asked_by defaults_fault
migrate_read from to x name =
    ap (option_and_then migrate_in) (found-walked migrate_app (codes "migrate" ∷ migrate_options from to ++ x ∷ []) (next_at (built migrate_app).top.rules (migrate_held from to) 1 x)
    (one_walked (built migrate_app).top.rules (migrate_options from to) (migrate_held from to) x name (migrate_stands from to))
    (one_faults (built migrate_app).top (migrate_options from to) (migrate_held from to) x name (migrate_stands from to) (migrate_faultless from to) refl))

pub migrate-full : MigrateInFull
unfolding migrate_with
migrate-full from to x name = migrate_read from to x name ∙ rw (kind_in-word from, form_in-word Two to) refl

-- ---- calls that are refused

pub calls-refused : RefusedCalls
unfolding clap_on_literals command_in asked_by run_app decode_app migrate_app files_app generate_app run_with decode_with migrate_with files_with generate_with kernel_named budget_in made_in output_in kind_named form_in form_under digits
calls-refused = refl

-- ---- budgets

pub budget-words : BudgetWords
unfolding clap_on_literals command_in asked_by run_app run_with kernel_named budget_in output_in form_in form_under digits
budget-words = (refl, refl)

pub each-budget : EachBudget
unfolding budget_in
each-budget n some most = rw (number_of-decimal n (omega (arith, most)), le-leb 1 n some, le-leb n 1000000 most) refl

-- ---- a number to be made

name-above : (text : Text) → 48 < get_or text 0 0 → is_operand text ≡ true
name-above [] above = refl
name-above (b ∷ bs) above = go (b == 45) refl
  where
    go : (t : Bool) → (b == 45) ≡ t → not t ≡ true
    go true e = let same : b ≡ 45 = eqb-true b 45 e in absurd (omega (arith, same, above))
    go false e = refl

generate-name : (x : Text) → is_operand x ≡ true → command_in (codes "gen" ∷ x ∷ []) ≡ generate_with (made_in (Some x))
unfolding generate_app command_in asked_by walk_fault defaults_fault
generate-name x name =
    ap (option_and_then generate_in) (found-walked generate_app (codes "gen" ∷ x ∷ []) (next_at (built generate_app).top.rules nothing_held 1 x)
    (one_walked (built generate_app).top.rules [] nothing_held x name refl) (one_faults (built generate_app).top [] nothing_held x name refl refl refl))

pub generate-number : GenerateOfNumber
unfolding generate_with made_in
generate-number n some most =
    generate-name (decimal n) (name-above (decimal n) (first_decimal n some (omega (arith, most))))
    ∙ rw (number_of-decimal n (omega (arith, most)), le-leb 1 n some, le-leb n 1000 most) refl
