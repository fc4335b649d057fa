-- What a record says, by the table of journal items.
use Rattle.std.specs.Prelude.{ℕ, ◌==◌, List, [], ◌∷◌, slice_get, if◌then◌else◌, Some, None}
use Rattle.std.specs.declared.option.Option.{Option}
use Rattle.qp_model.specs.declared.record.Rec.{Rec}
use Rattle.qp_model.specs.declared.bodies.Entry.{Entry}
use Rattle.qp_model.specs.declared.bodies.Body.{Body}
use Rattle.qp_model.specs.declared.bodies.Body.TheVariants.{Begin, Took, Nil, Seen, Run, Unhandled, Exit, Enter, Init, Say, Done, New, Short, Inc, Dec, Back, Post, Lifo, Full, Pub, Lock, Unlock, Defer, NoDefer, Recall, NoRecall, Flush, Sub, Unsub, Same, Arm, Disarm, Rearm, Idle, Tick, Fire, Stim, Settle, NoEntry, NoBlock, Armed, BadTicks, NoLifo, Spent, Spill, Look, Rest, Malformed}

-- an entry by its pool, its block and its reference
abbrev pub entry : ℕ → ℕ → ℕ → Entry
entry p b r = record { pool = p; block = b; name = r }

-- a kind that is none of a record
abbrev pub never : List ℕ → Body
never _ = Malformed

-- a form with no number
abbrev pub plain_body : Body → List ℕ → Body
plain_body x [] = x
plain_body x _ = Malformed

-- forms with one number, two, and so on
abbrev pub one : (ℕ → Body) → List ℕ → Body
one x (a ∷ []) = x a
one x _ = Malformed

abbrev pub two : (ℕ → ℕ → Body) → List ℕ → Body
two x (a ∷ b ∷ []) = x a b
two x _ = Malformed

abbrev pub three : (ℕ → ℕ → ℕ → Body) → List ℕ → Body
three x (a ∷ b ∷ c ∷ []) = x a b c
three x _ = Malformed

abbrev pub four : (ℕ → ℕ → ℕ → ℕ → Body) → List ℕ → Body
four x (a ∷ b ∷ c ∷ d ∷ []) = x a b c d
four x _ = Malformed

abbrev pub five : (ℕ → ℕ → ℕ → ℕ → ℕ → Body) → List ℕ → Body
five x (a ∷ b ∷ c ∷ d ∷ e ∷ []) = x a b c d e
five x _ = Malformed

abbrev pub six : (ℕ → ℕ → ℕ → ℕ → ℕ → ℕ → Body) → List ℕ → Body
six x (a ∷ b ∷ c ∷ d ∷ e ∷ f ∷ []) = x a b c d e f
six x _ = Malformed

abbrev pub seven : (ℕ → ℕ → ℕ → ℕ → ℕ → ℕ → ℕ → Body) → List ℕ → Body
seven x (a ∷ b ∷ c ∷ d ∷ e ∷ f ∷ g ∷ []) = x a b c d e f g
seven x _ = Malformed

-- five numbers, then the event's parameters, at most eight
abbrev pub new_form : List ℕ → Body
new_form (p ∷ n ∷ b ∷ from ∷ sig ∷ pars) = New p n b from sig pars
new_form _ = Malformed

-- the code of the assertion, then its numbers
abbrev pub asserted : List ℕ → Body
asserted (code ∷ a ∷ f ∷ l ∷ m ∷ []) = if code == 1 then NoEntry a f l m else (if code == 5 then NoLifo a f l m else Malformed)
asserted (code ∷ a ∷ b ∷ c ∷ []) = if code == 2 then NoBlock a b c else (if code == 3 then Armed a b c else (if code == 4 then BadTicks a b c else Malformed))
asserted _ = Malformed

-- the table of journal items by kind, from 0 on; the object isn't counted among the numbers
abbrev pub forms : List (List ℕ → Body)
forms =
    never ∷ never ∷ never ∷ never
    ∷ plain_body Begin
    ∷ six (λ f l m p b r. Took f l m (entry p b r))
    ∷ three Nil
    ∷ four Seen
    ∷ two Run
    ∷ plain_body Unhandled
    ∷ one Exit
    ∷ one Enter
    ∷ one Init
    ∷ one Say
    ∷ plain_body Done
    ∷ new_form
    ∷ four Short
    ∷ three Inc
    ∷ four Dec
    ∷ four Back
    ∷ seven (λ a f l m p b r. Post a f l m (entry p b r))
    ∷ six (λ f l m p b r. Lifo f l m (entry p b r))
    ∷ five Full
    ∷ three Pub
    ∷ one Lock
    ∷ one Unlock
    ∷ three (λ p b r. Defer (entry p b r))
    ∷ plain_body NoDefer
    ∷ three (λ p b r. Recall (entry p b r))
    ∷ plain_body NoRecall
    ∷ three (λ p b r. Flush (entry p b r))
    ∷ two Sub
    ∷ two Unsub
    ∷ two Same
    ∷ four Arm
    ∷ three Disarm
    ∷ four Rearm
    ∷ two Idle
    ∷ three Tick
    ∷ three Fire
    ∷ two Stim
    ∷ plain_body Settle
    ∷ asserted
    ∷ plain_body Spent
    ∷ one Spill
    ∷ two Look
    ∷ one Rest
    ∷ []

abbrev pub read_by : Option (List ℕ → Body) → List ℕ → Body
read_by None nums = Malformed
read_by (Some form) nums = form nums

-- what a record of this kind with these numbers says
unfoldable pub body_at : ℕ → List ℕ → Body
body_at kind nums = read_by (slice_get forms kind) nums

unfoldable pub body_of : Rec → Body
unfolding body_at
body_of r = body_at r.kind r.nums.items

-- a record as its object and what it says
pub record Item : Type 0 where
  pub of : ℕ
  pub body : Body

unfoldable pub item_of : Rec → Item
unfolding body_of
item_of r = record { of = r.of; body = body_of r }
