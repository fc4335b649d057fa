-- The groups of records within a start or a step, whatever the chart is.
use Rattle.std.specs.Prelude.{◌≡◌, ℕ, max, Bool, true, false, List, [], ◌∷◌, ◌++◌, IsTrue, IsFalse}
use Rattle.std.specs.declared.option.Option.{Option}
use Rattle.qp_model.specs.declared.systems.System.{System}
use Rattle.qp_model.specs.declared.bodies.Entry.{Entry}
use Rattle.qp_model.specs.declared.bodies.Body.{Body}
use Rattle.qp_model.specs.declared.bodies.Body.TheVariants as item
use Rattle.qp_model.specs.Told.{Told, plain, raised}
use Rattle.qp_model.specs.Calls as call
use Rattle.qp_model.specs.Calls.{Call, Answer, is_assertion}
use Rattle.qp_model.specs.Shapes.{FitsAny}
use Rattle.qp_model.specs.Sequence.{Sequence}

-- an exit, an entry, or an initial transition
abbrev pub is_move : Body → Bool
is_move (item.Exit s) = true
is_move (item.Enter s) = true
is_move (item.Init s) = true
is_move _ = false

-- the records of an action: what it says, or those of a call that doesn't end in an assertion
pub data IsAction (sys : System) (o : ℕ) (now : Option Entry) (g : List Told) : Type 0 where
  SaysValue : (value : ℕ) → g ≡ plain (item.Say value) ∷ [] → IsAction sys o now g
  MakesCall : (x : Call) (answer : Answer) → FitsAny sys o now x answer g → IsFalse (is_assertion answer) → IsAction sys o now g

-- actions one after another
unfoldable pub Actions : System → ℕ → Option Entry → List Told → Type 0
unfolding Sequence
Actions sys o now g = Sequence (IsAction sys o now) g

-- a group: a note, an action, or actions under a raised ceiling, which is then restored
pub data IsGroup (sys : System) (o : ℕ) (now : Option Entry) (g : List Told) : Type 0 where
  IsMove : (b : Body) → IsTrue (is_move b) → g ≡ plain b ∷ [] → IsGroup sys o now g
  IsAct : IsAction sys o now g → IsGroup sys o now g
  IsLocked : (former ceiling : ℕ) (inner : List Told) → Actions sys o now inner
      → g ≡ raised (max former ceiling) former ∷ (inner ++ (plain (item.Unlock former) ∷ [])) → IsGroup sys o now g

-- groups one after another
unfoldable pub Groups : System → ℕ → Option Entry → List Told → Type 0
unfolding Sequence
Groups sys o now g = Sequence (IsGroup sys o now) g

abbrev pub is_post : Body → Bool
is_post (item.Post a f l m e) = true
is_post _ = false

-- the last record is a post
unfoldable pub ends_in_post : List Told → Bool
ends_in_post [] = false
ends_in_post (t ∷ []) = is_post t.body
ends_in_post (t ∷ u ∷ ts) = ends_in_post (u ∷ ts)

-- what stands last where a list breaks off: a call that ends in its assertion; and, where a lane may stop,
-- nothing, or a publication up to one of its posts
pub data IsLast (sys : System) (o : ℕ) (now : Option Entry) (stops : Bool) (g : List Told) : Type 0 where
  Asserts : (x : Call) (answer : Answer) → FitsAny sys o now x answer g → IsTrue (is_assertion answer) → IsLast sys o now stops g
  Stops : IsTrue stops → g ≡ [] → IsLast sys o now stops g
  StopsInPublication : (sig : ℕ) (pars : List ℕ) (reserve : Option ℕ) (answer : Answer) (back : List Told)
      → IsTrue stops → FitsAny sys o now (call.Publish sig pars reserve) answer (g ++ back) → IsTrue (ends_in_post g) → IsLast sys o now stops g

-- groups that break off, perhaps under a raised ceiling
pub data BreaksOff (sys : System) (o : ℕ) (now : Option Entry) (stops : Bool) (g : List Told) : Type 0 where
  Plainly : (whole last : List Told) → Groups sys o now whole → IsLast sys o now stops last → g ≡ whole ++ last → BreaksOff sys o now stops g
  UnderCeiling : (former ceiling : ℕ) (whole inner last : List Told)
      → Groups sys o now whole → Actions sys o now inner → IsLast sys o now stops last
      → g ≡ whole ++ (raised (max former ceiling) former ∷ (inner ++ last)) → BreaksOff sys o now stops g
