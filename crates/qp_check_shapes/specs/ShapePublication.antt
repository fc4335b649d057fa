-- A publication is read record by record: what it waits for after each.
use Rattle.std.specs.Prelude.{ℕ, zero, suc, ◌+◌, ◌/◌, ◌%◌, ◌^◌, ◌==◌, nat_lt, max, Bool, true, false, ◌&&◌, not, List, [], ◌∷◌, length, if◌then◌else◌, Some, None}
use Rattle.std.specs.declared.option.Option.{Option}
use Rattle.std.specs.Option.{option_and_then}
use Rattle.qp_model.specs.declared.systems.System.{System}
use Rattle.qp_model.specs.declared.bodies.Entry.{Entry}
use Rattle.qp_model.specs.declared.bodies.Body.{Body}
use Rattle.qp_model.specs.declared.bodies.Body.TheVariants as item
use Rattle.qp_model.specs.Record.{entry}
use Rattle.qp_model.specs.Line.{same_entry}
use Rattle.qp_model.specs.Told.{Told, Known, Nothing, Free, Left, Former}
use Rattle.qp_model.specs.Parts.{is_static, sizes_of}
use Rattle.qp_check_shapes.specs.ShapeUnit.{goes_to, had_room}
use Rattle.qp_check_shapes.specs.declared.shape_stage.Ceiling.{Ceiling}
use Rattle.qp_check_shapes.specs.declared.shape_stage.Ceiling.TheVariants as ceiling
use Rattle.qp_check_shapes.specs.declared.shape_stage.Posting.{Posting}
use Rattle.qp_check_shapes.specs.declared.shape_stage.PublishStage.{PublishStage}
use Rattle.qp_check_shapes.specs.declared.shape_stage.PublishStage.TheVariants as stage

-- the next stage, where a test is passed
abbrev pub stage_if : Bool → PublishStage → Option PublishStage
stage_if passed s = if passed then Some s else None

-- the publication's own reference is released last; a static event has none
abbrev pub publication_released : Entry → PublishStage
publication_released e = if e.pool == 0 then stage.Whole else stage.Posted e

-- a ceiling that rose is restored behind the last post
abbrev pub after_posts : Entry → Ceiling → PublishStage
after_posts e (ceiling.Rose former) = stage.Raised e former
after_posts e c = publication_released e

-- the post to the highest member up to n is next
unfoldable pub next_post : Entry → ℕ → Ceiling → ℕ → PublishStage
next_post e set c zero = after_posts e c
next_post e set c (suc n) =
    if (set / 2 ^ n) % 2 == 1 then stage.Posts (record { entry = e; to = suc n; below = n; set = set; ceiling = c }) else next_post e set c n

-- behind `pub`: an object's ceiling rises where the set has a member
unfoldable pub published : ℕ → Entry → ℕ → PublishStage
unfolding next_post
published o e set = next_post e set (if o == 0 then ceiling.Stays else ceiling.Rises) 32

unfoldable pub start_first : System → ℕ → Body → Known → Option PublishStage
unfolding published goes_to is_static sizes_of
start_first sys o (item.New p n b from sig pars) (Free free) =
    stage_if (nat_lt 0 free && goes_to (sizes_of sys) (length pars) p && not (is_static sys sig)) (stage.Given p b sig)
start_first sys o (item.Pub sig n set) Nothing = stage_if (is_static sys sig) (published o (entry 0 sig 0) set)
start_first sys o body known = None

abbrev pub given_next : ℕ → ℕ → ℕ → Body → Known → Option PublishStage
given_next p b sig (item.Inc q c r) Nothing = stage_if ((q == p) && (c == b)) (stage.Made (entry p b r) sig)
given_next p b sig body known = None

unfoldable pub made_next : ℕ → Entry → ℕ → Body → Known → Option PublishStage
unfolding published
made_next o e sig (item.Pub s n set) Nothing = stage_if (s == sig) (published o e set)
made_next o e sig body known = None

-- the post of this entry, or a queue with no entry left, which ends the call
unfoldable pub post_next : System → Posting → Entry → Body → Known → Option PublishStage
unfolding next_post had_room
post_next sys p e (item.Post a f l m x) Nothing = stage_if ((a == p.to) && same_entry x e && had_room sys a f l m) (next_post p.entry p.set p.ceiling p.below)
post_next sys p e (item.NoEntry a f l m) Nothing = stage_if (a == p.to) stage.Cut
post_next sys p e body known = None

-- a post's own reference
abbrev pub reference_next : Posting → Body → Known → Option PublishStage
reference_next p (item.Inc q c r) Nothing = stage_if ((q == p.entry.pool) && (c == p.entry.block)) (stage.Referred p r)
reference_next p body known = None

abbrev pub lock_next : Posting → Body → Known → Option PublishStage
lock_next p (item.Lock c) (Former former) =
    stage_if (c == max former p.to) (stage.Posts (record { entry = p.entry; to = p.to; below = p.below; set = p.set; ceiling = ceiling.Rose former }))
lock_next p body known = None

unfoldable pub posts_next : System → Posting → Ceiling → Body → Known → Option PublishStage
unfolding post_next
posts_next sys p ceiling.Rises body known = lock_next p body known
posts_next sys p c body known = if p.entry.pool == 0 then post_next sys p p.entry body known else reference_next p body known

abbrev pub raised_next : Entry → ℕ → Body → Known → Option PublishStage
raised_next e former (item.Unlock c) Nothing = stage_if (c == former) (publication_released e)
raised_next e former body known = None

abbrev pub left_next : ℕ → ℕ → ℕ → ℕ → PublishStage
left_next p b d zero = stage.Dropped p b d
left_next p b d (suc left) = stage.Whole

abbrev pub posted_next : Entry → Body → Known → Option PublishStage
posted_next e (item.Dec p b d k) (Left left) = stage_if ((p == e.pool) && (b == e.block) && (k == e.name)) (left_next p b d left)
posted_next e body known = None

abbrev pub dropped_next : ℕ → ℕ → ℕ → Body → Known → Option PublishStage
dropped_next p b d (item.Back q n c to) Nothing = stage_if ((q == p) && (c == b) && (to == d + 1)) stage.Whole
dropped_next p b d body known = None

-- the stage behind a record, where it can stand there
unfoldable pub publish_next : System → ℕ → PublishStage → Body → Known → Option PublishStage
unfolding start_first made_next posts_next post_next
publish_next sys o stage.Start body known = start_first sys o body known
publish_next sys o (stage.Given p b sig) body known = given_next p b sig body known
publish_next sys o (stage.Made e sig) body known = made_next o e sig body known
publish_next sys o (stage.Posts p) body known = posts_next sys p p.ceiling body known
publish_next sys o (stage.Referred p r) body known = post_next sys p (entry p.entry.pool p.entry.block r) body known
publish_next sys o (stage.Raised e former) body known = raised_next e former body known
publish_next sys o (stage.Posted e) body known = posted_next e body known
publish_next sys o (stage.Dropped p b d) body known = dropped_next p b d body known
publish_next sys o stage.Whole body known = None
publish_next sys o stage.Cut body known = None

-- the stage behind all these records
unfoldable pub stage_after : System → ℕ → List Told → PublishStage → Option PublishStage
unfolding publish_next
stage_after sys o [] s = Some s
stage_after sys o (t ∷ ts) s = option_and_then (λ x. stage_after sys o ts x) (publish_next sys o s t.body t.known)

abbrev pub is_whole_publication : PublishStage → Bool
is_whole_publication stage.Whole = true
is_whole_publication s = false

-- what stands behind the records that make the publication whole
unfoldable pub behind_stage : System → ℕ → List Told → PublishStage → Option (List Told)
unfolding publish_next
behind_stage sys o [] s = if is_whole_publication s then Some [] else None
behind_stage sys o (t ∷ ts) s = if is_whole_publication s then Some (t ∷ ts) else option_and_then (λ x. behind_stage sys o ts x) (publish_next sys o s t.body t.known)

-- nothing stands behind
abbrev pub is_nothing_behind : Option (List Told) → Bool
is_nothing_behind None = false
is_nothing_behind (Some []) = true
is_nothing_behind (Some (t ∷ ts)) = false

abbrev pub is_cut_publication : Option PublishStage → Bool
is_cut_publication None = false
is_cut_publication (Some stage.Cut) = true
is_cut_publication (Some s) = false

-- what stands behind, by another reader where the first finds nothing
abbrev pub else_behind : Option (List Told) → Option (List Told) → Option (List Told)
else_behind None other = other
else_behind (Some rest) other = Some rest
