-- Actions whose records are told by the first of them, and what stands behind these.
use Rattle.std.specs.Prelude.{◌≡◌, ℕ, zero, suc, ◌+◌, ◌==◌, nat_lt, nat_le, Bool, true, false, ◌&&◌, ◌||◌, List, [], ◌∷◌, length, max, if◌then◌else◌, IsFalse, not, Some, None}
use Rattle.std.specs.declared.option.Option.{Option}
use Rattle.std.specs.List.{list_any}
use Rattle.qp_model.specs.declared.systems.System.{System}
use Rattle.qp_model.specs.declared.bodies.Entry.{Entry}
use Rattle.qp_model.specs.declared.bodies.Body.{Body}
use Rattle.qp_model.specs.declared.bodies.Body.TheVariants as item
use Rattle.qp_model.specs.Record.{entry}
use Rattle.qp_model.specs.Line.{same_entry}
use Rattle.qp_model.specs.Told.{Told, Known, Nothing, Free, Member, plain}
use Rattle.qp_model.specs.Calls as call
use Rattle.qp_model.specs.Calls.{Call, Answer, is_assertion}
use Rattle.qp_model.specs.Parts.{is_static, sizes_of, room_before}
use Rattle.qp_model.specs.Sites.{ring_of}
use Rattle.qp_model.specs.Shapes.{FitsAny, Flushes}
use Rattle.qp_check_shapes.specs.ShapeRelease.{when, behind_release}

-- no publication, whose posts are as many as its members, and no flush, whose entries are any number
abbrev pub is_unit_call : Call → Bool
is_unit_call (call.Publish sig pars reserve) = false
is_unit_call call.Flush = false
is_unit_call x = true

-- the records of a value said, of a single call that doesn't end in an assertion, or of one flushed entry
pub data IsUnit (sys : System) (o : ℕ) (now : Option Entry) (g : List Told) : Type 0 where
  SaysValue : (value : ℕ) → g ≡ plain (item.Say value) ∷ [] → IsUnit sys o now g
  MakesCall : (x : Call) (answer : Answer) → is_unit_call x ≡ true → FitsAny sys o now x answer g → IsFalse (is_assertion answer) → IsUnit sys o now g
  FlushesOne : Flushes 1 g → IsUnit sys o now g

-- the size at this place is at least so large, and larger than those before it
unfoldable pub stands_out : ℕ → List ℕ → ℕ → Bool
stands_out low [] place = false
stands_out low (size ∷ sizes) zero = nat_le low size
stands_out low (size ∷ sizes) (suc place) = stands_out (max low (size + 1)) sizes place

-- some events go to this pool
unfoldable pub is_used : List ℕ → ℕ → Bool
unfolding stands_out
is_used sizes zero = false
is_used sizes (suc place) = stands_out 0 sizes place

-- the same of pools that stand behind others, whose largest size is below `low`
unfoldable pub used_on : ℕ → List ℕ → ℕ → Bool
unfolding stands_out
used_on low sizes zero = false
used_on low sizes (suc place) = stands_out low sizes place

-- events with n parameters go to this pool
unfoldable pub goes_to : List ℕ → ℕ → ℕ → Bool
goes_to [] n p = false
goes_to (size ∷ sizes) n zero = false
goes_to (size ∷ sizes) n (suc place) = if nat_le n size then place == 0 else goes_to sizes n place

-- the system has static events
abbrev pub some_static : System → Bool
some_static sys = list_any (λ d. d.fixed) sys.signals

-- an entry was free before a post after which the counts are these
unfoldable pub had_room : System → ℕ → ℕ → ℕ → ℕ → Bool
unfolding ring_of room_before
had_room sys to f l m = nat_lt 0 (room_before (ring_of sys to) f l m)

-- the entry is one of a static event
unfoldable pub is_static_entry : System → Entry → Bool
unfolding is_static
is_static_entry sys e = (e.pool == 0) && (e.name == 0) && is_static sys e.block

-- a step works on a static entry, and on this one
abbrev pub works_on_static : Option Entry → Bool
works_on_static None = false
works_on_static (Some k) = k.pool == 0

abbrev pub is_static_now : Option Entry → Entry → Bool
is_static_now None e = false
is_static_now (Some k) e = (k.pool == 0) && same_entry k e

-- a step works on an entry of this block
abbrev pub works_on : Option Entry → ℕ → ℕ → Bool
works_on None p b = false
works_on (Some k) p b = nat_lt 0 p && (k.pool == p) && (k.block == b)

-- behind a post of this entry, or a refusal and the entry's release
abbrev pub post_first : System → Entry → Body → Known → List Told → Option (List Told)
post_first sys e (item.Post to f l m x) Nothing rest = when (same_entry x e && had_room sys to f l m) rest
post_first sys e (item.Full to f l m margin) Nothing rest = behind_release e rest
post_first sys e body known rest = None

-- the same, or behind a deferral
abbrev pub again_first : System → Entry → Body → Known → List Told → Option (List Told)
again_first sys e (item.Defer x) Nothing rest = when (same_entry x e) rest
again_first sys e body known rest = post_first sys e body known rest

-- the same, or behind a last-in post
abbrev pub new_first : System → Entry → Body → Known → List Told → Option (List Told)
new_first sys e (item.Lifo f l m x) Nothing rest = when (same_entry x e) rest
new_first sys e body known rest = post_first sys e body known rest

abbrev pub behind_post : System → Entry → List Told → Option (List Told)
behind_post sys e [] = None
behind_post sys e (t ∷ rest) = post_first sys e t.body t.known rest

abbrev pub behind_again : System → Entry → List Told → Option (List Told)
behind_again sys e [] = None
behind_again sys e (t ∷ rest) = again_first sys e t.body t.known rest

abbrev pub behind_entry : System → Entry → List Told → Option (List Told)
behind_entry sys e [] = None
behind_entry sys e (t ∷ rest) = new_first sys e t.body t.known rest

-- behind the first reference of a new block, and the post of its entry
abbrev pub reference_first : System → ℕ → ℕ → Body → Known → List Told → Option (List Told)
reference_first sys p b (item.Inc q c r) Nothing rest = if (q == p) && (c == b) then behind_entry sys (entry p b r) rest else None
reference_first sys p b body known rest = None

abbrev pub behind_new : System → ℕ → ℕ → List Told → Option (List Told)
behind_new sys p b [] = None
behind_new sys p b (t ∷ rest) = reference_first sys p b t.body t.known rest

-- behind the last-in post of an entry that is recalled, and the release of the deferral's reference
abbrev pub lifo_first : Entry → Entry → Body → Known → List Told → Option (List Told)
lifo_first k e (item.Lifo f l m x) Nothing rest = if same_entry x e then behind_release k rest else None
lifo_first k e body known rest = None

abbrev pub behind_lifo : Entry → Entry → List Told → Option (List Told)
behind_lifo k e [] = None
behind_lifo k e (t ∷ rest) = lifo_first k e t.body t.known rest

abbrev pub recalled_first : Entry → Body → Known → List Told → Option (List Told)
recalled_first k (item.Inc p b r) Nothing rest = if (p == k.pool) && (b == k.block) then behind_lifo k (entry p b r) rest else None
recalled_first k body known rest = None

abbrev pub behind_reference : Entry → List Told → Option (List Told)
behind_reference k [] = None
behind_reference k (t ∷ rest) = recalled_first k t.body t.known rest

unfoldable pub behind_recall : Entry → List Told → Option (List Told)
behind_recall k told = if k.pool == 0 then behind_lifo k k told else behind_reference k told

-- behind an action whose first record states all
unfoldable pub plain_first : System → ℕ → Option Entry → Body → List Told → Option (List Told)
unfolding had_room is_static_entry is_used sizes_of behind_recall behind_release
plain_first sys o now (item.Say value) rest = Some rest
plain_first sys o now (item.Sub sig n) rest = Some rest
plain_first sys o now (item.Unsub sig n) rest = Some rest
plain_first sys o now item.NoDefer rest = Some rest
plain_first sys o now item.NoRecall rest = Some rest
plain_first sys o now (item.Short p n free reserve) rest = when (is_used (sizes_of sys) p) rest
plain_first sys o now (item.Arm t n ticks interval) rest = Some rest
plain_first sys o now (item.Rearm t n former ticks) rest = Some rest
plain_first sys o now (item.Disarm t n former) rest = Some rest
plain_first sys o now (item.Idle t n) rest = Some rest
plain_first sys o now (item.Post to f l m e) rest = when (had_room sys to f l m && (is_static_entry sys e || is_static_now now e)) rest
plain_first sys o now (item.Full to f l m margin) rest = when (some_static sys || works_on_static now) rest
plain_first sys o now (item.Lifo f l m e) rest = when (is_static_entry sys e) rest
plain_first sys o now (item.Defer e) rest = when (is_static_now now e) rest
plain_first sys o now (item.Inc p b r) rest = if works_on now p b then behind_again sys (entry p b r) rest else None
plain_first sys o now (item.Recall k) rest = behind_recall k rest
plain_first sys o now (item.Flush k) rest = behind_release k rest
plain_first sys o now body rest = None

-- behind an action that begins with a block given out
unfoldable pub given_first : System → ℕ → Body → List Told → Option (List Told)
unfolding goes_to is_static sizes_of had_room behind_release
given_first sys free (item.New p n b from sig pars) rest =
    if nat_lt 0 free && goes_to (sizes_of sys) (length pars) p && not (is_static sys sig) then behind_new sys p b rest else None
given_first sys free body rest = None

abbrev pub member_first : Body → List Told → Option (List Told)
member_first (item.Same sig n) rest = Some rest
member_first body rest = None

abbrev pub unit_first : System → ℕ → Option Entry → Body → Known → List Told → Option (List Told)
unit_first sys o now body Nothing rest = plain_first sys o now body rest
unit_first sys o now body (Free free) rest = given_first sys free body rest
unit_first sys o now body (Member is) rest = member_first body rest
unit_first sys o now body known rest = None

-- behind a unit
abbrev pub behind_unit : System → ℕ → Option Entry → List Told → Option (List Told)
behind_unit sys o now [] = None
behind_unit sys o now (t ∷ rest) = unit_first sys o now t.body t.known rest
