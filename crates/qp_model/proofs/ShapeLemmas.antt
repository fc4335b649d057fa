-- The records of a course have the shape of an object's records.
use Rattle.std.proofs.Common.{◌≡◌, ℕ, Bool, true, false, List, [], ◌∷◌, ◌++◌, refl, sym, ◌∙◌, ap, subst, inl, inr, ◌⊎◌, Option, Some, None, append_assoc, append-nil}
use Rattle.qp_chart.specs.Task.{Task, Begin, Run, Unhandled, Done}
use Rattle.qp_chart.specs.Agenda.{step_plan, start_plan}
use Rattle.qp_model.specs.declared.systems.System.{System}
use Rattle.qp_model.specs.declared.bodies.Entry.{Entry}
use Rattle.qp_model.specs.declared.bodies.Body.{Body}
use Rattle.qp_model.specs.declared.bodies.Body.TheVariants as item
use Rattle.qp_model.specs.Told.{Told, OfEvent, plain, told_took}
use Rattle.qp_model.specs.Pieces.{Piece, records_in, tell}
use Rattle.qp_model.specs.Acts.{Config, Actor, Moment, DoesTask, Does, names_of}
use Rattle.qp_model.specs.Step.{Step, StepBehind, Closes, at_leaf, moment}
use Rattle.qp_model.specs.Course.{Starts, Steps, Course, at_start}
use Rattle.qp_model.specs.Sequence.{Sequence}
use Rattle.qp_model.specs.ObjectShape.{StartGroup, BrokenStart, StepHead, is_head, StepGroup, BrokenStep, IsTurn, Dispatches, IsTail, Ends, BreaksStep, ObjectGroups}
use Rattle.qp_model.proofs.SequenceLemmas.{sequence-none, sequence-cons, sequence-snoc}
use Rattle.qp_model.proofs.BlockLemmas.{Blocks, step-blocks, start-blocks}
use Rattle.qp_model.proofs.GroupLemmas.{bare-append, bare-tell, GroupsThen, GroupsFail, blocks-parts}

-- the shape of a step that ended so
unfoldable pub StepShape : System → ℕ → Option Config → List Told → Type 0
StepShape sys o (Some d) bs = StepGroup sys o bs
StepShape sys o None bs = BrokenStep sys o bs

-- the shape of a start that ended so
unfoldable pub StartShape : System → ℕ → Option Config → List Told → Type 0
StartShape sys o (Some d) bs = StartGroup sys o bs
StartShape sys o None bs = BrokenStart sys o bs

module _ (sys : System) (a : Actor) where
  -- `done`, and nothing more
  pub done-parts : (at : Moment) (d : Config) (ps : List Piece) (end : Option Config) → Does sys a at (Done ∷ []) d ps end → (records_in ps ≡ plain item.Done ∷ []) × (end ≡ Some d)
  unfolding Does DoesTask records_in
  done-parts at d ps end h = (ap records_in h.1 ∙ ap (λ us. plain item.Done ∷ records_in us) h.2.0, h.2.1)

  -- a step's records have its shape
  pub step-shape : (e : Entry) (c : Config) (ps : List Piece) (end : Option Config) → Step sys a e c ps end → StepShape sys a.o end (records_in ps)
  unfolding Step StepBehind Closes Blocks Does DoesTask StepShape StepGroup BrokenStep StepHead records_in
  step-shape e c ps end h = by_blocks (step-blocks a.chart c.leaf (names_of a c h.3) h.3.sig)
    where
      -- h.0 h.1 h.2: the counts; h.3: the event; h.4: the rest
      body : List Piece
      body = h.6.0

      rel : List Told
      rel = h.6.1

      mid : Option Config
      mid = h.6.2

      whole : records_in ps ≡ told_took h.0 h.1 h.2 e h.3 ∷ (records_in body ++ rel)
      whole =
          ap records_in h.5 ∙ ap (λ us. told_took h.0 h.1 h.2 e h.3 ∷ us) (ap records_in h.6.5 ∙ bare-append body (tell rel) ∙ ap (λ us. records_in body ++ us) (bare-tell rel))

      by_blocks : (head : Task) × (ts : List Task) × ((head ≡ Unhandled) ⊎ ((s k : ℕ) × (head ≡ Run s k))) × Blocks ts
          × ((step_plan a.chart c.leaf (names_of a c h.3) h.3.sig).tasks ≡ head ∷ (ts ++ (Done ∷ [])))
          → StepShape sys a.o end (records_in ps)
      by_blocks b = by_head b.2 (subst (λ us. Does sys a (moment h.3 e) us c body mid) b.4 h.6.3)
        where
          -- behind the handler's note
          after_head : (head : Body) → is_head head ≡ true → (rest : List Piece) → records_in body ≡ plain head ∷ records_in rest
              → Does sys a (moment h.3 e) (b.1 ++ (Done ∷ [])) c rest mid → StepShape sys a.o end (records_in ps)
          after_head head is rest eq does =
              either (blocks-parts sys a (moment h.3 e) true b.3.0 (Done ∷ []) c rest mid (subst (λ us. Does sys a (moment h.3 e) (us ++ (Done ∷ [])) c rest mid) b.3.1 does))
            where
              starts : List Told
              starts = told_took h.0 h.1 h.2 e h.3 ∷ plain head ∷ []

              heads : StepHead e starts
              heads = (h.0, h.1, h.2, OfEvent h.3, head, is, refl)

              all : records_in ps ≡ starts ++ (records_in rest ++ rel)
              all = whole ∙ ap (λ us. told_took h.0 h.1 h.2 e h.3 ∷ (us ++ rel)) eq

              either : GroupsThen sys a (moment h.3 e) true (λ d more. Does sys a (moment h.3 e) (Done ∷ []) d more mid) rest
                  ⊎ GroupsFail sys a (moment h.3 e) true (mid ≡ None) rest → StepShape sys a.o end (records_in ps)
              either (inl k) =
                  let done = done-parts (moment h.3 e) k.1 k.2 mid k.5 in
                  let drops = subst (λ m. Closes e m rel) done.1 h.6.4 in
                  let ended : end ≡ Some _ = h.6.6 ∙ ap (at_leaf _) done.1 in
                  subst (λ x. StepShape sys a.o x (records_in ps)) (sym ended)
                  (e, starts, k.0, rel, heads, k.3, drops, all ∙ ap (λ us. starts ++ (us ++ rel)) (k.4 ∙ ap (λ us. k.0 ++ us) done.0) ∙ ap (λ us. starts ++ us) (append_assoc k.0 (plain item.Done ∷ []) rel))
              either (inr k) =
                  let gone : rel ≡ [] = subst (λ m. Closes e m rel) k.1 h.6.4 in
                  let ended : end ≡ None = h.6.6 ∙ ap (at_leaf _) k.1 in
                  subst (λ x. StepShape sys a.o x (records_in ps)) (sym ended)
                  (e, starts, records_in rest, heads, k.0, all ∙ ap (λ us. starts ++ (records_in rest ++ us)) gone ∙ ap (λ us. starts ++ us) (append-nil (records_in rest)))

          by_head : ((b.0 ≡ Unhandled) ⊎ ((s k : ℕ) × (b.0 ≡ Run s k))) → Does sys a (moment h.3 e) (b.0 ∷ (b.1 ++ (Done ∷ []))) c body mid → StepShape sys a.o end (records_in ps)
          by_head (inl is) does =
              let note = subst (λ x. Does sys a (moment h.3 e) (x ∷ (b.1 ++ (Done ∷ []))) c body mid) is does in
              after_head item.Unhandled refl note.0 (ap records_in note.1) note.2
          by_head (inr is) does =
              let note = subst (λ x. Does sys a (moment h.3 e) (x ∷ (b.1 ++ (Done ∷ []))) c body mid) is.2 does in
              after_head (item.Run is.0 is.1) refl note.0 (ap records_in note.1) note.2

  -- a start's records have its shape
  pub starts-shape : (first : Config) (ps : List Piece) (end : Option Config) → Starts sys a first ps end → StartShape sys a.o end (records_in ps)
  unfolding Starts Blocks Does DoesTask StartShape StartGroup BrokenStart records_in
  starts-shape first ps end h = by_blocks (start-blocks a.chart)
    where
      by_blocks : (ts : List Task) × Blocks ts × ((start_plan a.chart).tasks ≡ Begin ∷ (ts ++ (Done ∷ []))) → StartShape sys a.o end (records_in ps)
      by_blocks b = after_head (subst (λ us. Does sys a at_start us first h.0 h.1) b.2 h.2)
        where
          after_head : Does sys a at_start (Begin ∷ (b.0 ++ (Done ∷ []))) first h.0 h.1 → StartShape sys a.o end (records_in ps)
          after_head note = either (blocks-parts sys a at_start false b.1.0 (Done ∷ []) first note.0 h.1 (subst (λ us. Does sys a at_start (us ++ (Done ∷ [])) first note.0 h.1) b.1.1 note.2))
            where
              all : records_in ps ≡ plain item.Begin ∷ records_in note.0
              all = ap records_in h.3 ∙ bare-tell (records_in h.0) ∙ ap records_in note.1

              either : GroupsThen sys a at_start false (λ d more. Does sys a at_start (Done ∷ []) d more h.1) note.0
                  ⊎ GroupsFail sys a at_start false (h.1 ≡ None) note.0 → StartShape sys a.o end (records_in ps)
              either (inl k) =
                  let done = done-parts at_start k.1 k.2 h.1 k.5 in
                  let ended : end ≡ Some _ = h.4 ∙ ap (at_leaf _) done.1 in
                  subst (λ x. StartShape sys a.o x (records_in ps)) (sym ended)
                  (k.0, k.3, all ∙ ap (λ us. plain item.Begin ∷ us) (k.4 ∙ ap (λ us. k.0 ++ us) done.0))
              either (inr k) =
                  let ended : end ≡ None = h.4 ∙ ap (at_leaf _) k.1 in
                  subst (λ x. StartShape sys a.o x (records_in ps)) (sym ended) (records_in note.0, k.0, all)

  -- steps are turns, perhaps with one that breaks off behind them
  unfoldable pub Turned : Bool → List Told → Type 0
  Turned nils bs = (turns tail : List Told) × Sequence (IsTurn sys a.o nils) turns × IsTail sys a.o true tail × (bs ≡ turns ++ tail)

  pub no-turns : (nils : Bool) → Turned nils []
  unfolding Turned
  no-turns nils = ([], [], sequence-none (IsTurn sys a.o nils), Ends refl, refl)

  pub turn-more : (nils : Bool) (one bs : List Told) → StepGroup sys a.o one → Turned nils bs → Turned nils (one ++ bs)
  unfolding Turned
  turn-more nils one bs h k =
      (one ++ k.0, k.1, sequence-cons (IsTurn sys a.o nils) one k.0 (Dispatches h) k.2, k.3, ap (λ us. one ++ us) k.4 ∙ sym (append_assoc one k.0 k.1))

  pub broken : (nils : Bool) (one bs : List Told) → BrokenStep sys a.o one → bs ≡ [] → Turned nils (one ++ bs)
  unfolding Turned
  broken nils one bs h is =
      ([], one, sequence-none (IsTurn sys a.o nils), BreaksStep refl h, ap (λ us. one ++ us) is ∙ append-nil one)

  pub started : (nils : Bool) (one bs : List Told) → StartGroup sys a.o one → Turned nils bs → ObjectGroups sys a.o nils true (one ++ bs)
  unfolding Turned ObjectGroups
  started nils one bs h k = inr (one, k.0, k.1, h, k.2, k.3, ap (λ us. one ++ us) k.4)

  pub steps-shape : (nils : Bool) (es : List Entry) (c : Option Config) (ps : List Piece) (end : Option Config) → Steps sys a es c ps end → Turned nils (records_in ps)
  unfolding Steps StepShape records_in
  steps-shape nils [] c ps end h = subst (λ us. Turned nils (records_in us)) (sym h.0) (no-turns nils)
  steps-shape nils (e ∷ es) None ps end h = absurd h
  steps-shape nils (e ∷ es) (Some c) ps end h =
      subst (λ us. Turned nils us) (sym (ap records_in h.3 ∙ bare-append h.0 h.1))
      (by_end h.2 (step-shape e c h.0 h.2 h.4) (steps-shape nils es h.2 h.1 end h.5) h.5)
    where
      -- nothing follows a step that broke off
      nothing : (es : List Entry) (ps : List Piece) → Steps sys a es None ps end → records_in ps ≡ []
      nothing [] ps k = ap records_in k.0
      nothing (x ∷ xs) ps k = absurd k

      by_end : (mid : Option Config) → StepShape sys a.o mid (records_in h.0) → Turned nils (records_in h.1) → Steps sys a es mid h.1 end → Turned nils (records_in h.0 ++ records_in h.1)
      by_end (Some d) one rest k = turn-more nils (records_in h.0) (records_in h.1) one rest
      by_end None one rest k = broken nils (records_in h.0) (records_in h.1) one (nothing es h.1 k)

  -- the records of a course have the shape of an object's
  pub course-shape : (nils : Bool) (first : Config) (es : List Entry) (ps : List Piece) (end : Option Config)
      → Course sys a first es ps end → ObjectGroups sys a.o nils true (records_in ps)
  unfolding Course ObjectGroups StartShape Steps
  course-shape nils first es ps end h =
      subst (λ us. ObjectGroups sys a.o nils true us) (sym (ap records_in h.3 ∙ bare-append h.0 h.1))
      (by_end h.2 (starts-shape first h.0 h.2 h.4) h.5)
    where
      nothing : (es : List Entry) (ps : List Piece) → Steps sys a es None ps end → records_in ps ≡ []
      nothing [] ps k = ap records_in k.0
      nothing (x ∷ xs) ps k = absurd k

      by_end : (mid : Option Config) → StartShape sys a.o mid (records_in h.0) → Steps sys a es mid h.1 end → ObjectGroups sys a.o nils true (records_in h.0 ++ records_in h.1)
      by_end (Some d) one k = started nils (records_in h.0) (records_in h.1) one (steps-shape nils es (Some d) h.1 end k)
      by_end None one k = inl (refl, subst (λ us. BrokenStart sys a.o us) (sym (ap (λ us. records_in h.0 ++ us) (nothing es h.1 k) ∙ append-nil (records_in h.0))) one)

module _ (sys : System) (a : Actor) where
  -- steps that ran to completion are turns
  pub steps-turns : (nils : Bool) (es : List Entry) (c d : Config) (ps : List Piece) → Steps sys a es (Some c) ps (Some d) → Sequence (IsTurn sys a.o nils) (records_in ps)
  unfolding Steps StepShape records_in
  steps-turns nils [] c d ps h = subst (λ us. Sequence (IsTurn sys a.o nils) (records_in us)) (sym h.0) (sequence-none (IsTurn sys a.o nils))
  steps-turns nils (e ∷ es) c d ps h =
      subst (λ us. Sequence (IsTurn sys a.o nils) us) (sym (ap records_in h.3 ∙ bare-append h.0 h.1))
      (by h.2 (step-shape sys a e c h.0 h.2 h.4) (λ f k. steps-turns nils es f d h.1 k) h.5)
    where
      gone : (es : List Entry) → Steps sys a es None h.1 (Some d) → ⊥
      gone [] k = let wrong : Some d ≡ None = k.1 in cc
      gone (x ∷ xs) k = k

      by : (mid : Option Config) → StepShape sys a.o mid (records_in h.0) → ((f : Config) → Steps sys a es (Some f) h.1 (Some d) → Sequence (IsTurn sys a.o nils) (records_in h.1)) → Steps sys a es mid h.1 (Some d)
          → Sequence (IsTurn sys a.o nils) (records_in h.0 ++ records_in h.1)
      by (Some f) one go k = sequence-cons (IsTurn sys a.o nils) (records_in h.0) (records_in h.1) (Dispatches one) (go f k)
      by None one go k = absurd (gone es k)

  -- a course that goes on is a start group and turns
  pub course-turns : (nils : Bool) (first d : Config) (es : List Entry) (ps : List Piece) → Course sys a first es ps (Some d)
      → (start turns : List Told) × StartGroup sys a.o start × Sequence (IsTurn sys a.o nils) turns × (records_in ps ≡ start ++ turns)
  unfolding Course Steps StartShape
  course-turns nils first d es ps h = by h.2 (starts-shape sys a first h.0 h.2 h.4) h.5
    where
      gone : (es : List Entry) → Steps sys a es None h.1 (Some d) → ⊥
      gone [] k = let wrong : Some d ≡ None = k.1 in cc
      gone (x ∷ xs) k = k

      by : (mid : Option Config) → StartShape sys a.o mid (records_in h.0) → Steps sys a es mid h.1 (Some d)
          → (start turns : List Told) × StartGroup sys a.o start × Sequence (IsTurn sys a.o nils) turns × (records_in ps ≡ start ++ turns)
      by (Some f) one k = (records_in h.0, records_in h.1, one, steps-turns nils es f d h.1 k, ap records_in h.3 ∙ bare-append h.0 h.1)
      by None one k = absurd (gone es k)

  -- a course that goes on is whole, whether or not the list may be cut
  pub course-whole : (nils cuts : Bool) (first d : Config) (es : List Entry) (ps : List Piece) → Course sys a first es ps (Some d) → ObjectGroups sys a.o nils cuts (records_in ps)
  unfolding ObjectGroups
  course-whole nils cuts first d es ps h =
      let parts = course-turns nils first d es ps h in
      inr (parts.0, parts.1, [], parts.2, parts.3, Ends refl, parts.4 ∙ ap (λ us. parts.0 ++ us) (sym (append-nil parts.1)))

-- a turn more: a step, or a queue found empty, or looked at
pub turn-step : (sys : System) (o : ℕ) (nils : Bool) (turns one : List Told) → Sequence (IsTurn sys o nils) turns → StepGroup sys o one → Sequence (IsTurn sys o nils) (turns ++ one)
turn-step sys o nils turns one h k = sequence-snoc (IsTurn sys o nils) turns one h (Dispatches k)

-- a start, turns, and what may stand behind them
pub groups-of : (sys : System) (o : ℕ) (nils cuts : Bool) (start turns tail : List Told) → StartGroup sys o start → Sequence (IsTurn sys o nils) turns → IsTail sys o cuts tail
    → ObjectGroups sys o nils cuts (start ++ (turns ++ tail))
unfolding ObjectGroups
groups-of sys o nils cuts start turns tail h k l = inr (start, turns, tail, h, k, l, refl)
