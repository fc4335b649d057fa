-- Fronts of units and of calls that end in their assertions: the records that are still wanting can come.
use Rattle.std.specs.Prelude.{ℕ, ◌==◌, nat_lt, Bool, true, false, ◌&&◌, ◌||◌, not, List, [], ◌∷◌, length, if◌then◌else◌}
use Rattle.std.specs.declared.option.Option.{Option}
use Rattle.std.specs.Option.{is_some}
use Rattle.qp_model.specs.declared.systems.System.{System}
use Rattle.qp_model.specs.declared.bodies.Entry.{Entry}
use Rattle.qp_model.specs.declared.bodies.Body.{Body}
use Rattle.qp_model.specs.declared.bodies.Body.TheVariants as item
use Rattle.qp_model.specs.Record.{entry}
use Rattle.qp_model.specs.Line.{same_entry}
use Rattle.qp_model.specs.Told.{Told, Known, Nothing, Free}
use Rattle.qp_model.specs.Parts.{is_static, sizes_of}
use Rattle.qp_check_shapes.specs.ShapeRelease.{behind_release}
use Rattle.qp_check_shapes.specs.ShapeUnit.{goes_to, works_on, had_room, again_first, new_first, plain_first, given_first, unit_first}
use Rattle.qp_check_shapes.specs.ShapeAssertion.{no_entry_first, no_lifo_first, cut_first, plain_cut, given_cut, assertion_first}
use Rattle.qp_check_shapes.specs.ShapePublication.{publication_released, stage_after, is_nothing_behind}

-- a front of the release of an entry
unfoldable pub release_front : System → ℕ → Entry → List Told → Bool
unfolding stage_after
release_front sys o e told = is_some (stage_after sys o told (publication_released e))

-- a front of what a post of a new event's entry leaves
unfoldable pub entry_front_first : System → ℕ → Entry → Body → Known → List Told → Bool
unfolding release_front had_room behind_release
entry_front_first sys o e (item.Full a f l m k) Nothing rest = release_front sys o e rest
entry_front_first sys o e body known rest = is_nothing_behind (new_first sys e body known rest) || is_nothing_behind (cut_first o body known rest)

unfoldable pub entry_front : System → ℕ → Entry → List Told → Bool
unfolding entry_front_first
entry_front sys o e [] = true
entry_front sys o e (t ∷ rest) = entry_front_first sys o e t.body t.known rest

-- likewise of an entry with a new reference
unfoldable pub again_front_first : System → ℕ → Entry → Body → Known → List Told → Bool
unfolding release_front had_room behind_release
again_front_first sys o e (item.Full a f l m k) Nothing rest = release_front sys o e rest
again_front_first sys o e body known rest = is_nothing_behind (again_first sys e body known rest) || is_nothing_behind (no_entry_first body known rest)

unfoldable pub again_front : System → ℕ → Entry → List Told → Bool
unfolding again_front_first
again_front sys o e [] = true
again_front sys o e (t ∷ rest) = again_front_first sys o e t.body t.known rest

-- a front of a new block's first reference, and of the post
unfoldable pub new_front_first : System → ℕ → ℕ → ℕ → Body → Known → List Told → Bool
unfolding entry_front
new_front_first sys o p b (item.Inc q c r) Nothing rest = (q == p) && (c == b) && entry_front sys o (entry p b r) rest
new_front_first sys o p b body known rest = false

unfoldable pub new_front : System → ℕ → ℕ → ℕ → List Told → Bool
unfolding new_front_first
new_front sys o p b [] = true
new_front sys o p b (t ∷ rest) = new_front_first sys o p b t.body t.known rest

-- a front of the last-in post of a recalled entry, and of its release
unfoldable pub lifo_front_first : System → ℕ → Entry → Entry → Body → Known → List Told → Bool
unfolding release_front
lifo_front_first sys o k e (item.Lifo f l m x) Nothing rest = same_entry x e && release_front sys o k rest
lifo_front_first sys o k e body known rest = is_nothing_behind (no_lifo_first o body known rest)

unfoldable pub lifo_front : System → ℕ → Entry → Entry → List Told → Bool
unfolding lifo_front_first
lifo_front sys o k e [] = true
lifo_front sys o k e (t ∷ rest) = lifo_front_first sys o k e t.body t.known rest

unfoldable pub reference_front_first : System → ℕ → Entry → Body → Known → List Told → Bool
unfolding lifo_front
reference_front_first sys o k (item.Inc p b r) Nothing rest = (p == k.pool) && (b == k.block) && lifo_front sys o k (entry p b r) rest
reference_front_first sys o k body known rest = false

unfoldable pub reference_front : System → ℕ → Entry → List Told → Bool
unfolding reference_front_first
reference_front sys o k [] = true
reference_front sys o k (t ∷ rest) = reference_front_first sys o k t.body t.known rest

unfoldable pub recall_front : System → ℕ → Entry → List Told → Bool
unfolding lifo_front reference_front
recall_front sys o k told = if k.pool == 0 then lifo_front sys o k k told else reference_front sys o k told

-- a front that begins with a record that states all
unfoldable pub plain_front : System → ℕ → Option Entry → Body → List Told → Bool
unfolding again_front recall_front release_front plain_first plain_cut
plain_front sys o now (item.Inc p b r) rest = works_on now p b && again_front sys o (entry p b r) rest
plain_front sys o now (item.Recall k) rest = recall_front sys o k rest
plain_front sys o now (item.Flush k) rest = release_front sys o k rest
plain_front sys o now body rest = is_nothing_behind (plain_first sys o now body rest) || is_nothing_behind (plain_cut sys o now body rest)

-- one that begins with a block given out
unfoldable pub given_front : System → ℕ → ℕ → Body → List Told → Bool
unfolding new_front goes_to is_static sizes_of
given_front sys o free (item.New p n b from sig pars) rest = nat_lt 0 free && goes_to (sizes_of sys) (length pars) p && not (is_static sys sig) && new_front sys o p b rest
given_front sys o free body rest = false

unfoldable pub unit_front_first : System → ℕ → Option Entry → Body → Known → List Told → Bool
unfolding plain_front given_front plain_first given_first plain_cut given_cut
unit_front_first sys o now body Nothing rest = plain_front sys o now body rest
unit_front_first sys o now body (Free free) rest = given_front sys o free body rest
unit_front_first sys o now body known rest = is_nothing_behind (unit_first sys o now body known rest) || is_nothing_behind (assertion_first sys o now body known rest)

-- a front of a unit, or of a call that ends in its assertion and is no publication
unfoldable pub unit_front : System → ℕ → Option Entry → List Told → Bool
unfolding unit_front_first
unit_front sys o now [] = true
unit_front sys o now (t ∷ rest) = unit_front_first sys o now t.body t.known rest
