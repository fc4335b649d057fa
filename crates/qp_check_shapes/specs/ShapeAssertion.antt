-- Calls that end in their assertions, told by their first records, and what stands behind these.
use Rattle.std.specs.Prelude.{◌≡◌, ℕ, ◌==◌, nat_lt, true, ◌&&◌, ◌||◌, not, List, [], ◌∷◌, length, if◌then◌else◌, IsTrue, Some, None}
use Rattle.std.specs.declared.option.Option.{Option}
use Rattle.qp_model.specs.declared.systems.System.{System}
use Rattle.qp_model.specs.declared.bodies.Entry.{Entry}
use Rattle.qp_model.specs.declared.bodies.Body.{Body}
use Rattle.qp_model.specs.declared.bodies.Body.TheVariants as item
use Rattle.qp_model.specs.Told.{Told, Known, Nothing, Free}
use Rattle.qp_model.specs.Calls.{Call, Answer, is_assertion}
use Rattle.qp_model.specs.Parts.{is_static, sizes_of}
use Rattle.qp_model.specs.Shapes.{FitsAny}
use Rattle.qp_check_shapes.specs.ShapeRelease.{when}
use Rattle.qp_check_shapes.specs.ShapeUnit.{is_unit_call, is_used, goes_to, some_static, works_on, works_on_static}

-- the records of a single call that ends in its assertion
pub data IsAsserted (sys : System) (o : ℕ) (now : Option Entry) (g : List Told) : Type 0 where
  Asserts : (x : Call) (answer : Answer) → is_unit_call x ≡ true → FitsAny sys o now x answer g → IsTrue (is_assertion answer) → IsAsserted sys o now g

-- behind a post that finds no entry
abbrev pub no_entry_first : Body → Known → List Told → Option (List Told)
no_entry_first (item.NoEntry a f l m) Nothing rest = Some rest
no_entry_first body known rest = None

abbrev pub behind_no_entry : List Told → Option (List Told)
behind_no_entry [] = None
behind_no_entry (t ∷ rest) = no_entry_first t.body t.known rest

-- behind a last-in post of o that finds no entry
abbrev pub no_lifo_first : ℕ → Body → Known → List Told → Option (List Told)
no_lifo_first o (item.NoLifo a f l m) Nothing rest = when (a == o) rest
no_lifo_first o body known rest = None

abbrev pub behind_no_lifo : ℕ → List Told → Option (List Told)
behind_no_lifo o [] = None
behind_no_lifo o (t ∷ rest) = no_lifo_first o t.body t.known rest

-- behind either, where an entry was made for a new event
abbrev pub cut_first : ℕ → Body → Known → List Told → Option (List Told)
cut_first o (item.NoEntry a f l m) Nothing rest = Some rest
cut_first o body known rest = no_lifo_first o body known rest

abbrev pub behind_cut : ℕ → List Told → Option (List Told)
behind_cut o [] = None
behind_cut o (t ∷ rest) = cut_first o t.body t.known rest

-- behind the first reference of a new block, and a post that finds no entry
abbrev pub new_cut_first : ℕ → ℕ → ℕ → Body → Known → List Told → Option (List Told)
new_cut_first o p b (item.Inc q c r) Nothing rest = if (q == p) && (c == b) then behind_cut o rest else None
new_cut_first o p b body known rest = None

abbrev pub behind_new_cut : ℕ → ℕ → ℕ → List Told → Option (List Told)
behind_new_cut o p b [] = None
behind_new_cut o p b (t ∷ rest) = new_cut_first o p b t.body t.known rest

-- behind a recalled entry that finds no place
abbrev pub recall_cut_first : ℕ → Entry → Body → Known → List Told → Option (List Told)
recall_cut_first o k (item.Inc p b r) Nothing rest = if (p == k.pool) && (b == k.block) then behind_no_lifo o rest else None
recall_cut_first o k body known rest = None

abbrev pub behind_recall_reference : ℕ → Entry → List Told → Option (List Told)
behind_recall_reference o k [] = None
behind_recall_reference o k (t ∷ rest) = recall_cut_first o k t.body t.known rest

unfoldable pub behind_recall_cut : ℕ → Entry → List Told → Option (List Told)
behind_recall_cut o k told = if k.pool == 0 then behind_no_lifo o told else behind_recall_reference o k told

-- behind a call that ends in its assertion and whose first record states all
unfoldable pub plain_cut : System → ℕ → Option Entry → Body → List Told → Option (List Told)
unfolding is_used sizes_of behind_recall_cut
plain_cut sys o now (item.NoEntry a f l m) rest = when (some_static sys || works_on_static now) rest
plain_cut sys o now (item.NoLifo a f l m) rest = when (some_static sys && (a == o)) rest
plain_cut sys o now (item.NoBlock p n free) rest = when (is_used (sizes_of sys) p) rest
plain_cut sys o now (item.Armed t n counter) rest = Some rest
plain_cut sys o now (item.BadTicks t ticks interval) rest = Some rest
plain_cut sys o now (item.Inc p b r) rest = if works_on now p b then behind_no_entry rest else None
plain_cut sys o now (item.Recall k) rest = behind_recall_cut o k rest
plain_cut sys o now body rest = None

-- behind one that begins with a block given out
unfoldable pub given_cut : System → ℕ → ℕ → Body → List Told → Option (List Told)
unfolding goes_to is_static sizes_of
given_cut sys o free (item.New p n b from sig pars) rest =
    if nat_lt 0 free && goes_to (sizes_of sys) (length pars) p && not (is_static sys sig) then behind_new_cut o p b rest else None
given_cut sys o free body rest = None

abbrev pub assertion_first : System → ℕ → Option Entry → Body → Known → List Told → Option (List Told)
assertion_first sys o now body Nothing rest = plain_cut sys o now body rest
assertion_first sys o now body (Free free) rest = given_cut sys o free body rest
assertion_first sys o now body known rest = None

-- behind a call that ends in its assertion
abbrev pub behind_assertion : System → ℕ → Option Entry → List Told → Option (List Told)
behind_assertion sys o now [] = None
behind_assertion sys o now (t ∷ rest) = assertion_first sys o now t.body t.known rest
