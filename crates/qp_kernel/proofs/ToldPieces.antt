-- The pieces of an object in lane 0, when records come to the lane.
use Rattle.std.proofs.Common.{◌≡◌, ℕ, ◌<◌, ◌==◌, Bool, true, false, cond, List, [], ◌∷◌, ◌++◌, map, refl, sym, ◌∙◌, ap, arith, Option, Some, None, append_assoc, append-nil}
use Rattle.std.specs.Prelude.{⊤}
use Rattle.std.specs.Option.{unwrap_or, option_and_then}
use Rattle.std.proofs.lemmas.Bool.Decides.{nat_tests}
use Rattle.qp_model.specs.declared.bodies.Body.{Body}
use Rattle.qp_model.specs.declared.bodies.Body.TheVariants as body
use Rattle.qp_model.specs.Told.{Told, ToldItem, for_object, untold}
use Rattle.qp_model.specs.Pieces.{Piece, Tell, Point, tell}
use Rattle.qp_model.specs.KernelLane.{Setting, Reading, Upcoming, Inside, lane_next, lane_on, ceiling_of, role_of}
use Rattle.qp_model.specs.Points.{is_look, begins_row}
use Rattle.qp_model.specs.Ends.{is_turn_mark}
use Rattle.qp_model.proofs.KernelRowLemmas.{own-next, start-next, IsOwnRole, IsWithin, no-row}
use Rattle.qp_kernel.specs.LaneZero.{told_pieces_at, told_pieces, owed_point, row_of}

-- the pieces of a lane and of more records
pub pieces-then : (s : Setting) (o : ℕ) (k m : Reading) (ts us : List ToldItem) → lane_on s k (map untold ts) ≡ Some m
    → told_pieces s o k (ts ++ us) ≡ told_pieces s o k ts ++ told_pieces s o m us
unfolding told_pieces lane_on
pieces-then s o k m [] us h = let same : k ≡ m = cc in rw same refl
pieces-then s o k m (x ∷ xs) us h = go (lane_next s k (untold x)) h (λ n e. pieces-then s o n m xs us e)
  where
    go : (r : Option Reading) → option_and_then (λ n. lane_on s n (map untold xs)) r ≡ Some m
        → ((n : Reading) → lane_on s n (map untold xs) ≡ Some m → told_pieces s o n (xs ++ us) ≡ told_pieces s o n xs ++ told_pieces s o m us)
        → told_pieces_at o k x ++ told_pieces s o (unwrap_or r k) (xs ++ us) ≡ (told_pieces_at o k x ++ told_pieces s o (unwrap_or r k) xs) ++ told_pieces s o m us
    go None e h = absurd (cc)
    go (Some n) e h = ap (λ ps. told_pieces_at o k x ++ ps) (h n e) ∙ sym (append_assoc (told_pieces_at o k x) (told_pieces s o n xs) (told_pieces s o m us))

-- one record alone
pub pieces-one : (s : Setting) (o : ℕ) (k : Reading) (t : ToldItem) → told_pieces s o k (t ∷ []) ≡ told_pieces_at o k t
unfolding told_pieces
pieces-one s o k t = append-nil (told_pieces_at o k t)

pub not-zero : (o : ℕ) → 0 < o → (0 == o) ≡ false
not-zero o lt = grind (arith, nat_tests)

-- nothing is owed by object 0
pub none-owed : (o : ℕ) → 0 < o → owed_point 0 o ≡ []
none-owed o lt = let z : (0 == o) ≡ false = not-zero o lt in rw z refl

-- a look begins the row of the object that stands at its point
pub pieces-look : (o : ℕ) (k : Reading) (n : ℕ) (t : ToldItem) → 0 < o → t.of ≡ 0 → is_look t.told.body ≡ true → told_pieces_at o k t ≡ owed_point (row_of k.place k.running) o
unfolding told_pieces_at
pieces-look o k n t some zero look = rw (zero, not-zero o some, look) (go k.place k.running)
  where
    go : (place : Upcoming) (running : List ℕ) → cond (begins_row o place running true) (Point ∷ []) [] ≡ owed_point (row_of place running) o
    go Inside [] = sym (none-owed o some)
    go Inside (p ∷ outer) = refl
    go _ running = sym (none-owed o some)

-- a record of another object, or of none, that is no look, is no piece
pub pieces-other : (o : ℕ) (k : Reading) (t : ToldItem) → (t.of == o) ≡ false → is_look t.told.body ≡ false → told_pieces_at o k t ≡ []
unfolding told_pieces_at
pieces-other o k t other look = rw (other, look, no-row o k.place k.running) refl

-- a record of the object itself
pub pieces-self : (o : ℕ) (k : Reading) (t : ToldItem) → (t.of == o) ≡ true → is_turn_mark t.told.body ≡ false → told_pieces_at o k t ≡ Tell t.told ∷ []
unfolding told_pieces_at
pieces-self o k t self mark = rw (self, mark) refl

-- records of a start or a step: notes, actions, `lock` and `unlock`, and dropped references, and no mark of a turn
abbrev pub AreOwn : List Told → Type 0
AreOwn [] = ⊤
AreOwn (t ∷ ts) = IsOwnRole (role_of t.body) × (is_turn_mark t.body ≡ false) × AreOwn ts

abbrev pub ceiling_through : ℕ → List Told → ℕ
ceiling_through c [] = c
ceiling_through c (t ∷ ts) = ceiling_through (ceiling_of c (role_of t.body)) ts

pub own-not_look : (b : Body) → IsOwnRole (role_of b) → is_look b ≡ false
unfolding role_of
own-not_look (body.Look n floor) own = absurd own
own-not_look _ own = refl

-- the pieces of o that records of p are
abbrev pub pieces_for : ℕ → ℕ → List Told → List Piece
pieces_for p o g = cond (p == o) (tell g) []

-- no look and no mark of a turn
abbrev pub AreTold : List Told → Type 0
AreTold [] = ⊤
AreTold (t ∷ ts) = (is_look t.body ≡ false) × (is_turn_mark t.body ≡ false) × AreTold ts

-- such records are the pieces of their object, whatever the lane reads
pub pieces-told : (s : Setting) (p o : ℕ) (k : Reading) (g : List Told) → AreTold g → told_pieces s o k (map (for_object p) g) ≡ pieces_for p o g
unfolding told_pieces
pieces-told s p o k [] own = go (p == o)
  where
    go : (v : Bool) → [] ≡ cond v (tell []) []
    go true = refl
    go false = refl
pieces-told s p o k (t ∷ ts) own =
    let rest = pieces-told s p o (unwrap_or (lane_next s k (untold (for_object p t))) k) ts own.2 in
    rw rest (go (p == o) refl)
  where
    go : (v : Bool) → (p == o) ≡ v → told_pieces_at o k (for_object p t) ++ cond v (tell ts) [] ≡ cond v (tell (t ∷ ts)) []
    go true e = rw (pieces-self o k (for_object p t) e own.1) refl
    go false e = rw (pieces-other o k (for_object p t) e own.0) refl

pub own-told : (g : List Told) → AreOwn g → AreTold g
own-told [] own = tt
own-told (t ∷ ts) own = (own-not_look t.body own.0, own.1, own-told ts own.2)

pub told-append : (g h : List Told) → AreTold g → AreTold h → AreTold (g ++ h)
told-append [] h a b = b
told-append (t ∷ ts) h a b = (a.0, a.1, told-append ts h a.2 b)

-- they are read within the step of their object
pub reads-own : (s : Setting) (p : ℕ) (outer : List ℕ) (k : Reading) (g : List Told) → IsWithin k p outer → AreOwn g
    → lane_on s k (map untold (map (for_object p) g)) ≡ Some (record k { ceiling = ceiling_through k.ceiling g })
unfolding lane_on
reads-own s p outer k [] at own = refl
reads-own s p outer k (t ∷ ts) at own =
    rw (own-next s k p outer (record { of = p; body = t.body }) at (record { of_it = refl; own = own.0 }))
    (reads-own s p outer (record k { ceiling = ceiling_of k.ceiling (role_of t.body) }) ts (record { started = at.started; running = at.running; inside = at.inside }) own.2)

-- and in the start of their object
pub reads-start : (s : Setting) (p : ℕ) (others : List ℕ) (k : Reading) (g : List Told) → k.unstarted ≡ p ∷ others → AreOwn g
    → lane_on s k (map untold (map (for_object p) g)) ≡ Some (record k { ceiling = ceiling_through k.ceiling g })
unfolding lane_on
reads-start s p others k [] at own = refl
reads-start s p others k (t ∷ ts) at own =
    rw (start-next s k p others (record { of = p; body = t.body }) at (record { of_it = refl; own = own.0 }))
    (reads-start s p others (record k { ceiling = ceiling_of k.ceiling (role_of t.body) }) ts at own.2)
