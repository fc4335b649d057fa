-- Pieces that end in an assertion have its record.
use Rattle.std.proofs.Common.{◌≡◌, ℕ, Bool, true, false, List, [], ◌∷◌, ◌++◌, sym, ◌∙◌, ap, subst, Option, Some, None}
use Rattle.std.proofs.Common.{inl, inr}
use Rattle.std.specs.Bool.{MatchBool}
use Rattle.qp_chart.specs.Task.{Task, Do, Raise, Restore, Begin, Run, Unhandled, Exit, Enter, Init, Done}
use Rattle.qp_model.specs.declared.systems.System.{System}
use Rattle.qp_model.specs.declared.bodies.Body.TheVariants as item
use Rattle.qp_model.specs.Told.{Told, plain}
use Rattle.qp_model.specs.Calls.{Call, Deed, Sets, Says, Calls, deed_of, ok_after, is_assertion}
use Rattle.qp_model.specs.Shapes.{Posts, PostsOne}
use Rattle.qp_model.specs.Pieces.{Piece, Tell, Point, records_in, tell, pieces_of}
use Rattle.qp_model.specs.Acts.{Config, Actor, Moment, Later, Notes, DoesCall, DoesDeed, DoesTask, Does, names_of}
use Rattle.qp_model.specs.Step.{Publishing, GoesOnPublishing, DoesLeft, tasks_left, publishing_left}
use Rattle.qp_model.proofs.FitsLemmas.{Usual, Ending, Answers, fits-usual}
use Rattle.qp_model.proofs.GroupLemmas.{bare-append, bare-tell, bare-pieces_of}
use Rattle.qp_dispatch.specs.declared.part.Under.{Under}
use Rattle.qp_dispatch.specs.Parts.{left_by, publishing_of}
use Rattle.qp_model.specs.Parts.{members}

pub behind-none : {A : Type 0} (xs ys : List A) → xs ++ ys ≡ [] → ys ≡ []
behind-none [] ys h = h
behind-none (x ∷ xs) ys h = absurd (cc)

end-some : {A : Type 0} (xs : List A) (x : A) → xs ++ x ∷ [] ≡ [] → ⊥
end-some xs x h = let wrong : x ∷ [] ≡ [] = behind-none xs (x ∷ []) h in cc

told-some : (t : Told) (rest : List Piece) → records_in (Tell t ∷ rest) ≡ [] → ⊥
unfolding records_in
told-some t rest h = cc

-- what is behind a point leaves no record either
pub point-behind : (front ps rest : List Piece) → records_in ps ≡ [] → ps ≡ front ++ (Point ∷ rest) → records_in rest ≡ []
unfolding records_in
point-behind front ps rest none is = behind-none (records_in front) (records_in rest) (sym (bare-append front (Point ∷ rest)) ∙ ap records_in (sym is) ∙ none)

-- where there is no record, what is to come can't be
abbrev Never : Later → Type 0
Never later = (d : Config) (rest : List Piece) → records_in rest ≡ [] → later d rest → ⊥

note-tells : (t : Told) (later : List Piece → Type 0) (ps : List Piece) → records_in ps ≡ [] → Notes t later ps → ⊥
note-tells t later ps none h = told-some t h.0 (ap records_in (sym h.1) ∙ none)

module _ (sys : System) (a : Actor) (at : Moment) where
  call-tells : (c : Config) (later : Later) (failed : Type 0) (x : Call) (ps : List Piece) → records_in ps ≡ [] → Never later → DoesCall sys a at.entry c later failed x ps → ⊥
  unfolding DoesCall Answers Ending
  call-tells c later failed x ps none on h = by (is_assertion h.0) (fits-usual sys a.o at.entry x h.0 h.1 h.3) h.5
    where
      by : (b : Bool) → MatchBool b (Ending Usual h.0 h.1) (Usual h.1)
          → MatchBool b ((ps ≡ pieces_of x h.1) × failed) ((rest : List Piece) × (ps ≡ pieces_of x h.1 ++ (Point ∷ rest)) × later (record c { ok = ok_after h.0 c.ok; kept = h.2 }) rest)
          → ⊥
      by true u k = end-some u.0 u.1 (sym u.4 ∙ sym (bare-pieces_of x h.1) ∙ ap records_in (sym k.0) ∙ none)
      by false u k = on (record c { ok = ok_after h.0 c.ok; kept = h.2 }) k.0 (point-behind (pieces_of x h.1) ps k.0 none k.1) k.2

  task-tells : (c : Config) (later : Later) (failed : Type 0) (t : Task) (ps : List Piece) → records_in ps ≡ [] → Never later → DoesTask sys a at c later failed t ps → ⊥
  unfolding DoesTask DoesDeed
  task-tells c later failed (Do p) ps none on h = by (deed_of (names_of a c at.event) p) h
    where
      by : (d : Deed) → DoesDeed sys a at.entry c later failed d ps → ⊥
      by (Sets var value) h = on _ h.0 (point-behind [] ps h.0 none h.1) h.2
      by (Says value) h = told-some (plain (item.Say value)) (Point ∷ h.0) (ap records_in (sym h.1) ∙ none)
      by (Calls x) h = call-tells c later failed x ps none on h
  task-tells c later failed (Raise ceiling) ps none on h = note-tells _ _ ps none h.1
  task-tells c later failed Restore ps none on h = note-tells _ _ ps none h
  task-tells c later failed Begin ps none on h = note-tells _ _ ps none h
  task-tells c later failed (Run s k) ps none on h = note-tells _ _ ps none h
  task-tells c later failed Unhandled ps none on h = note-tells _ _ ps none h
  task-tells c later failed (Exit s) ps none on h = note-tells _ _ ps none h
  task-tells c later failed (Enter s) ps none on h = note-tells _ _ ps none h
  task-tells c later failed (Init s) ps none on h = note-tells _ _ ps none h
  task-tells c later failed Done ps none on h = note-tells _ _ ps none h

  does-tells : (ts : List Task) (c : Config) (ps : List Piece) → records_in ps ≡ [] → Does sys a at ts c ps None → ⊥
  unfolding Does
  does-tells [] c ps none h = let wrong = h.1 in cc
  does-tells (t ∷ ts) c ps none h = task-tells c (λ d rest. Does sys a at ts d rest None) (None ≡ None) t ps none (λ d rest. does-tells ts d rest) h

  posts-tells : (p : Publishing) (posts : List ℕ) (c : Config) (later : Later) (failed : Type 0) (ps : List Piece) → records_in ps ≡ [] → Never later → GoesOnPublishing sys a c p posts later failed ps → ⊥
  unfolding GoesOnPublishing PostsOne Posts
  posts-tells p [] c later failed ps none on h = on _ h.1 (point-behind (tell h.0) ps h.1 none h.3) h.4
  posts-tells p (to ∷ others) c later failed ps none on (inl h) =
      let same : h.0 ≡ [] = sym (bare-tell h.0) ∙ ap records_in (sym h.2) ∙ none in
      end-some h.1.0 _ (sym h.1.3.3 ∙ same)
  posts-tells p (to ∷ others) c later failed ps none on (inr h) =
      posts-tells p others c later failed h.1 (point-behind (tell h.0) ps h.1 none h.3) on h.4

pub left-tells : (sys : System) (a : Actor) (at : Moment) (u : Option Under) (ts : List Task) (leaf : ℕ) (c : Config) (ps : List Piece) (end : Option Config) → end ≡ None
    → DoesLeft sys a at (left_by u ts leaf).publishing (left_by u ts leaf).posts (left_by u ts leaf).tasks c ps end → records_in ps ≡ [] → ⊥
unfolding DoesLeft tasks_left publishing_left
left-tells sys a at None ts leaf c ps end fails h none = does-tells sys a at ts c ps none (subst (λ x. Does sys a at ts c ps x) fails h)
left-tells sys a at (Some u) ts leaf c ps end fails h none =
    posts-tells sys a at (publishing_of u) (members u.publication.left) c (λ d rest. Does sys a at ts d rest None) _ ps none (λ d rest. does-tells sys a at ts d rest)
    (subst (λ x. GoesOnPublishing sys a c (publishing_of u) (members u.publication.left) (λ d rest. Does sys a at ts d rest x) (x ≡ None) ps) fails h)
