-- The numbers of an order's records on the words of a system.
use Rattle.std.specs.Prelude.{Bool, true, not, ◌&&◌, ◌||◌, List, [], ◌∷◌, ◌++◌, IsTrue}
use Rattle.std.specs.List.{list_all}
use Rattle.qp_model.specs.declared.record.Rec.{Rec}
use Rattle.qp_model.specs.declared.words.Word.{Word}
use Rattle.qp_model.specs.declared.words.Word.TheVariants as word
use Rattle.qp_model.specs.declared.systems.System.{System}
use Rattle.qp_model.specs.Record.{Item}
use Rattle.qp_model.specs.History.{Touch, Draws, Shows, Neither, touch, all_items}
use Rattle.qp_model.specs.Places.{is_next}
use Rattle.qp_model.specs.WordLaw.{is_pool, is_block, is_object, is_signal, is_timer}

-- the word is one of the system
abbrev pub has_word : System → Word → Bool
has_word sys (word.Pool p) = is_pool sys p
has_word sys (word.Block p b) = is_block sys p b
has_word sys (word.Queue a) = is_object sys a
has_word sys (word.Signal s) = is_signal sys s
has_word sys (word.Timer t) = is_timer sys t

-- the touch is of a word that passes the test, if it is of any
abbrev pub is_on : (Word → Bool) → Touch → Bool
is_on test (Draws w mark) = test w
is_on test (Shows w mark) = test w
is_on test Neither = true

-- each record of the lanes that touches a word touches one of the system
abbrev pub TouchKnownWords : System → List (List Rec) → Type 0
TouchKnownWords sys lanes = IsTrue (list_all (λ i. is_on (has_word sys) (touch i)) (all_items lanes))

-- the touch of a word that passes the test draws or shows the number of the word's operations before it
abbrev pub is_next_where : (Word → Bool) → List Item → Touch → Bool
is_next_where test before (Draws w mark) = not (test w) || is_next before (Draws w mark)
is_next_where test before (Shows w mark) = not (test w) || is_next before (Shows w mark)
is_next_where test before Neither = true

-- each record on such a word does
unfoldable pub numbers_stand : (Word → Bool) → List Item → List Item → Bool
numbers_stand test before [] = true
numbers_stand test before (i ∷ is) = is_next_where test before (touch i) && numbers_stand test (before ++ i ∷ []) is
