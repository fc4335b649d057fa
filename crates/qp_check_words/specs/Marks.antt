-- What a record does to a word, without the word.
use Rattle.std.specs.Prelude.{ℕ, ◌==◌, nat_lt, nat_le, Bool, true, false, ◌&&◌, ◌||◌, List, [], ◌∷◌, length, None}
use Rattle.std.specs.declared.option.Option.{Option}
use Rattle.std.specs.List.{filter, list_all}
use Rattle.qp_model.specs.declared.words.Word.{Word}
use Rattle.qp_model.specs.Record.{Item}
use Rattle.qp_model.specs.History.{Touch, Draws, Shows, Neither, touch, drawn_on, shown_on}
use Rattle.qp_model.specs.WordOf.{number_before, fitting_number}
use Rattle.qp_check_words.specs.declared.marks.Mark.{Mark}
use Rattle.qp_check_words.specs.declared.marks.Mark.TheVariants as mark
use Rattle.qp_check_lanes.specs.Groups.{grouped, groups_joined}

abbrev pub mark_touched : Touch → Mark
mark_touched (Draws w n) = mark.Drawn n
mark_touched (Shows w n) = mark.Shown n
mark_touched Neither = mark.Unmarked

-- the number of a mark, 0 where there is none
abbrev pub mark_number : Touch → ℕ
mark_number (Draws w n) = n
mark_number (Shows w n) = n
mark_number Neither = 0

-- the record draws a number
abbrev pub draws_number : Touch → Bool
draws_number (Draws w n) = true
draws_number _ = false

-- the record draws a number of w or shows w
abbrev pub word_use : Word → Touch → Bool
word_use w t = drawn_on w t || shown_on w t

-- the records on w
unfoldable pub touched : Word → List Item → List Item
touched w items = filter (λ i. word_use w (touch i)) items

-- the number that a record draws
abbrev pub drawn_number : Touch → Option ℕ
drawn_number (Draws w n) = number_before n
drawn_number _ = None

abbrev pub drawn_key : Item → Option ℕ
drawn_key i = drawn_number (touch i)

-- the number of operations that a record shows
abbrev pub shown_number : Touch → Option ℕ
shown_number (Shows w n) = fitting_number n
shown_number _ = None

abbrev pub shown_key : Item → Option ℕ
shown_key i = shown_number (touch i)

-- how many of these records draw a number
unfoldable pub draw_count : List Item → ℕ
draw_count items = length (filter (λ i. draws_number (touch i)) items)

-- where it draws a number, it is one below n
abbrev pub draws_below : ℕ → Touch → Bool
draws_below n (Draws w k) = nat_lt 0 k && nat_le k n
draws_below n _ = true

-- the records of each number drawn below n
unfoldable pub by_number : List Item → List (List Item)
unfolding draw_count grouped
by_number items = grouped drawn_key (draw_count items) items

abbrev pub has_one : List Item → Bool
has_one g = length g == 1

-- of records on one word: their numbers are 0, 1 and so on, each drawn once
unfoldable pub numbers_hold : List Item → Bool
unfolding by_number draw_count
numbers_hold items = list_all (λ i. draws_below (draw_count items) (touch i)) items && list_all has_one (by_number items)

-- of records on one word: those that draw its numbers, in their order
unfoldable pub history_of : List Item → List Item
unfolding by_number
history_of items = groups_joined (by_number items)

-- no mark is below the one before it, nor the first below this number
unfoldable pub rises_from : ℕ → List Item → Bool
rises_from last [] = true
rises_from last (i ∷ is) = nat_le last (mark_number (touch i)) && rises_from (mark_number (touch i)) is

-- where it shows a number of operations, it is at most n
abbrev pub shows_within : ℕ → Touch → Bool
shows_within n (Shows w k) = nat_le k n
shows_within n _ = true
