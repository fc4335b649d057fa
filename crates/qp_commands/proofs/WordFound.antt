-- What `clap` found, as a command.
use Rattle.std.proofs.Common.{◌≡◌, ◌∙◌, ℕ, ap, refl, sym, Option, None, Some, option_map}
use Rattle.std.specs.Borrow.{Bor}
use Rattle.clap.specs.Words.{Text, first_of, first_value, rows_of}
use Rattle.clap.specs.declared.parser.matches.Found.{Found}
use Rattle.clap.proofs.WalkLemmas.{first_value-rows}
use Rattle.qp_commands.specs.declared.values.KernelName.{KernelName}
use Rattle.qp_commands.specs.declared.values.Kind.{Kind}
use Rattle.qp_commands.specs.declared.values.Output.{Output}
use Rattle.qp_commands.specs.declared.values.Form.{Form}
use Rattle.qp_commands.specs.WordTable.{files_with, generate_with, migrate_with, run_with}

-- the text of an option or operand, by the rows
pub text-rows : (f : Found) (id : Text) (text o : Option (Bor Text)) → option_map (λ s. s.now) text ≡ first_value f id → text ≡ o
    → first_of id (rows_of f) ≡ option_map (λ s. s.now) o
text-rows f id text o is e = sym (first_value-rows f id) ∙ (sym is ∙ ap (option_map (λ s. s.now)) e)

-- what the text of an option is read as, by the rows
pub read-rows : {A : Type 0} (read : Option Text → A) (f : Found) (id : Text) (text : Option (Bor Text)) (value a : A)
    → option_map (λ s. s.now) text ≡ first_value f id → value ≡ read (option_map (λ s. s.now) text) → value ≡ a
    → read (first_of id (rows_of f)) ≡ a
read-rows read f id text value a is e was = ap read (text-rows f id text text is refl) ∙ (sym e ∙ was)

-- a run without one of its parts is none

pub run-no_kernel : (b : Option ℕ) (o : Option Output) (f : Option Form) (s t : Option Text) → run_with None b o f s t ≡ None
unfolding run_with
run-no_kernel b o f s t = refl

pub run-no_budget : (k : Option KernelName) (o : Option Output) (f : Option Form) (s t : Option Text) → run_with k None o f s t ≡ None
unfolding run_with
run-no_budget None o f s t = refl
run-no_budget (Some k) o f s t = refl

pub run-no_output : (k : Option KernelName) (b : Option ℕ) (f : Option Form) (s t : Option Text) → run_with k b None f s t ≡ None
unfolding run_with
run-no_output None b f s t = refl
run-no_output (Some k) None f s t = refl
run-no_output (Some k) (Some b) f s t = refl

pub run-no_form : (k : Option KernelName) (b : Option ℕ) (o : Option Output) (s t : Option Text) → run_with k b o None s t ≡ None
unfolding run_with
run-no_form None b o s t = refl
run-no_form (Some k) None o s t = refl
run-no_form (Some k) (Some b) None s t = refl
run-no_form (Some k) (Some b) (Some o) s t = refl

pub run-no_system : (k : Option KernelName) (b : Option ℕ) (o : Option Output) (f : Option Form) (t : Option Text) → run_with k b o f None t ≡ None
unfolding run_with
run-no_system None b o f t = refl
run-no_system (Some k) None o f t = refl
run-no_system (Some k) (Some b) None f t = refl
run-no_system (Some k) (Some b) (Some o) None t = refl
run-no_system (Some k) (Some b) (Some o) (Some f) t = refl

pub run-no_stimuli : (k : Option KernelName) (b : Option ℕ) (o : Option Output) (f : Option Form) (s : Option Text) → run_with k b o f s None ≡ None
unfolding run_with
run-no_stimuli None b o f s = refl
run-no_stimuli (Some k) None o f s = refl
run-no_stimuli (Some k) (Some b) None f s = refl
run-no_stimuli (Some k) (Some b) (Some o) None s = refl
run-no_stimuli (Some k) (Some b) (Some o) (Some f) None = refl
run-no_stimuli (Some k) (Some b) (Some o) (Some f) (Some s) = refl

pub migrate-no_kind : (f : Option Form) (file : Option Text) → migrate_with None f file ≡ None
unfolding migrate_with
migrate-no_kind f file = refl

pub migrate-no_form : (k : Option Kind) (file : Option Text) → migrate_with k None file ≡ None
unfolding migrate_with
migrate-no_form None file = refl
migrate-no_form (Some k) file = refl

pub migrate-no_file : (k : Option Kind) (f : Option Form) → migrate_with k f None ≡ None
unfolding migrate_with
migrate-no_file None f = refl
migrate-no_file (Some k) None = refl
migrate-no_file (Some k) (Some f) = refl

pub files-no_system : (t j : Option Text) → files_with None t j ≡ None
unfolding files_with
files-no_system t j = refl

pub files-no_stimuli : (s j : Option Text) → files_with s None j ≡ None
unfolding files_with
files-no_stimuli None j = refl
files-no_stimuli (Some s) j = refl

pub files-no_journal : (s t : Option Text) → files_with s t None ≡ None
unfolding files_with
files-no_journal None t = refl
files-no_journal (Some s) None = refl
files-no_journal (Some s) (Some t) = refl

pub generate-no_number : generate_with None ≡ None
unfolding generate_with
generate-no_number = refl
