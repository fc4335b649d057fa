-- Which records ring, add to the count, and take off it again.
use Rattle.std.specs.Prelude.{ℕ, ◌==◌, Bool, true, false, not, ◌||◌}
use Rattle.qp_model.specs.declared.bodies.Body.{Body}
use Rattle.qp_model.specs.declared.bodies.Body.TheVariants.{Post, Lifo, Full, NoEntry, NoLifo}
use Rattle.qp_model.specs.Told.{ToldItem}

-- a post on the queue of a, made for object o
abbrev pub is_post_on : ℕ → ℕ → Body → Bool
is_post_on a o (Post to f l m e) = to == a
is_post_on a o (Lifo f l m e) = o == a
is_post_on a o _ = false

abbrev pub posts_on : ℕ → ToldItem → Bool
posts_on a t = is_post_on a t.of t.told.body

abbrev pub has_posted : Body → Bool
has_posted (Post to f l m e) = true
has_posted (Lifo f l m e) = true
has_posted _ = false

-- a claim that was refused
abbrev pub is_refused : Body → Bool
is_refused (Full to f l m k) = true
is_refused (NoEntry to f l m) = true
is_refused (NoLifo a f l m) = true
is_refused _ = false

abbrev pub tells_refusal : ToldItem → Bool
tells_refusal t = is_refused t.told.body

abbrev pub is_claim : ToldItem → Bool
is_claim t = has_posted t.told.body || is_refused t.told.body

-- neither a post nor a claim that was refused
abbrev pub rings_nothing : ToldItem → Bool
rings_nothing t = not (has_posted t.told.body || is_refused t.told.body)
