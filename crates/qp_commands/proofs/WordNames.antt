-- Words that are names, as `clap` walks over them.
use Rattle.std.proofs.Common.{◌≡◌, ◌==◌, ap, ap₂, refl, ℕ, List, [], ◌∷◌, Bool, true, false, None, is_some}
use Rattle.std.specs.Str.{bytes_eq}
use Rattle.clap.specs.Lexer.{long_of, short_of}
use Rattle.clap.specs.Words.{App, Kinds, Rule, Shape, Text, built}
use Rattle.clap.specs.Walk.{Held, Step, Walk, after_step, arg_by_index, finished, idle, nothing_held, settled, to_positional, value, walk, walk_from, walked, word_met}
use Rattle.clap.specs.Simple.{argument_words, entered, names_of}
use Rattle.clap.specs.Faults.{check_fault, defaults_fault, entered_fault, settle_fault, step_fault, turn_fault, walk_fault, word_fault}
use Rattle.clap.specs.Kinds.{or_else}
use Rattle.qp_commands.specs.WordLaws.{is_operand}
use Rattle.qp_commands.specs.WordTable.{found_in, rows_unless}

byte_of_name : (b : ℕ) (bs : List ℕ) → is_operand (b ∷ bs) ≡ true → (b == 45) ≡ false
byte_of_name b bs name = go (b == 45) refl
  where
    go : (t : Bool) → (b == 45) ≡ t → t ≡ false
    go true e = let bad : false ≡ true = rw e at name in cc
    go false e = refl

name-no_long : (word : Text) → is_operand word ≡ true → long_of word ≡ None
name-no_long [] name = refl
name-no_long (b ∷ bs) name = let other = byte_of_name b bs name in rw other refl

name-no_short : (word : Text) → is_operand word ≡ true → short_of word ≡ None
name-no_short [] name = refl
name-no_short (b ∷ bs) name = let other = byte_of_name b bs name in rw other refl

name-no_end : (word : Text) → is_operand word ≡ true → bytes_eq word (45 ∷ 45 ∷ []) ≡ false
name-no_end [] name = refl
name-no_end (b ∷ bs) name = let other = byte_of_name b bs name in rw other refl

-- where nothing waits for a value, a name goes to a positional
pub name-met : (rules : List Rule) (position : ℕ) (word : Text) (h : Held) → is_operand word ≡ true
    → word_met rules [] false idle position word h ≡ (h, value)
name-met rules position word h name = rw (name-no_end word name, name-no_long word name, name-no_short word name) refl

pub name-no_fault : (s : Shape) (word : Text) (h : Held) → is_operand word ≡ true → word_fault s [] false idle word h ≡ []
name-no_fault s word h name = rw (name-no_end word name, name-no_long word name, name-no_short word name) refl

-- where the walk stands while nothing waits for a value
abbrev pub standing : Held → ℕ → Walk
standing h position = record { held = h; waiting = idle; position = position; is_trailing = false; stopped = None }

-- where it stands after one more name
abbrev pub next_at : List Rule → Held → ℕ → Text → Walk
next_at rules h position word = to_positional rules (arg_by_index rules position) word (standing h position) h

pub name-walked : (rules : List Rule) (h : Held) (position : ℕ) (word : Text) → is_operand word ≡ true
    → walked rules [] (standing h position) word ≡ next_at rules h position word
unfolding walked
name-walked rules h position word name =
    ap (λ (met : Held × Step). after_step rules word (standing h position) met.0 met.1) (name-met rules position word h name)

pub name-turn : (s : Shape) (h : Held) (position : ℕ) (word : Text) → is_operand word ≡ true
    → turn_fault s [] (standing h position) word ≡ step_fault s position h value
name-turn s h position word name =
    ap₂ (λ (faults : Kinds) (met : Held × Step). or_else faults (step_fault s position met.0 met.1)) (name-no_fault s word h name) (name-met s.rules position word h name)

-- where the walk over a call's words ends
abbrev pub end_of : App → List Text → Walk
end_of a words = walk (built a).top.rules (names_of (built a)) nothing_held (argument_words a words)

abbrev pub walk_faults : App → List Text → Kinds
walk_faults a words = walk_fault (built a).top (names_of (built a)) (walk_from nothing_held) (argument_words a words)

-- the faults of a parse, by the end of its walk and the walk's faults
abbrev pub faults_at : App → Walk → Kinds → Kinds
faults_at a w faults = or_else faults (or_else (entered_fault a w.stopped)
    (or_else (settle_fault a.top.rules a.top.args_override_self w.held)
    (or_else (defaults_fault (settled a.top.rules w.held).rows a.top.rules)
    (check_fault a.top (finished a.top.rules w.held) (is_some (entered a w.stopped))))))

pub found-walked : (a : App) (words : List Text) (w : Walk) → end_of a words ≡ w → walk_faults a words ≡ []
    → found_in a words ≡ rows_unless (faults_at (built a) w []) (finished (built a).top.rules w.held)
found-walked a words w ends none =
    ap₂ (λ (v : Walk) (faults : Kinds). rows_unless (faults_at (built a) v faults) (finished (built a).top.rules v.held)) ends none
