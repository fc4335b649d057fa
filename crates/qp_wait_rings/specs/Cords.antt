-- A lane's cords.
use Rattle.std.specs.Prelude.{◌≡◌, ℕ, ◌+◌, ◌%◌, ◌^◌, ◌==◌, Bool, true, false, ◌||◌, List, [], ◌∷◌, map, if◌then◌else◌}
use Rattle.std.specs.List.{list_all}
use Rattle.qp_model.specs.declared.systems.System.{System}
use Rattle.qp_model.specs.Sources.{priorities}
use Rattle.qp_calls.specs.declared.answers.Claim.{Claim}
use Rattle.qp_calls.specs.declared.answers.Claim.TheVariants as claim
use Rattle.qp_wait_bells.specs.declared.tally.Tally.{Tally}
use Rattle.qp_wait_bells.specs.Tallies.{with_taken}
use Rattle.qp_wait_rings.specs.declared.cord.Cord.{Cord}

-- the notes given to object a
abbrev pub notes_given : ℕ → List Cord → ℕ
notes_given a [] = 0
notes_given a (c ∷ cs) = if c.object == a then c.pulls else notes_given a cs

abbrev pub has_cord : ℕ → List Cord → Bool
has_cord a [] = false
has_cord a (c ∷ cs) = (c.object == a) || has_cord a cs

-- by none of these a note was given
abbrev pub are_unpulled : List Cord → Bool
are_unpulled cs = list_all (λ c. c.pulls == 0) cs

-- a cord for each object, by which no note was given
pub record AreLoose (sys : System) (cords : List Cord) : Type 0 where
  pub objects : map (λ c. c.object) cords ≡ priorities sys
  pub none : are_unpulled cords ≡ true

-- one note was given to object a, and none to another
pub record RingsOne (a : ℕ) (old new : List Cord) : Type 0 where
  pub objects : map (λ c. c.object) new ≡ map (λ c. c.object) old
  pub its : notes_given a new ≡ (notes_given a old + 1) % 2 ^ 64
  pub others : (b : ℕ) → (a == b) ≡ false → notes_given b new ≡ notes_given b old

-- one was taken off the count, and no note was given
pub record TakesOff (old new : List Cord) (refused more : ℕ) (was is : Tally) : Type 0 where
  pub cords : new ≡ old
  pub refused_is : more ≡ refused + 1
  pub found : ℕ
  pub taken : is ≡ with_taken found was

-- nothing was taken off
pub record RingsFor (a : ℕ) (old new : List Cord) (refused more : ℕ) (was is : Tally) : Type 0 where
  pub cords : RingsOne a old new
  pub refused_is : more ≡ refused
  pub taken : is ≡ was

-- behind a claim on the queue of object a
abbrev pub SettlesClaim : ℕ → List Cord → List Cord → ℕ → ℕ → Tally → Tally → Claim → Type 0
SettlesClaim a old new refused more was is claim.Done = RingsFor a old new refused more was is
SettlesClaim a old new refused more was is (claim.Short e f l m) = TakesOff old new refused more was is
