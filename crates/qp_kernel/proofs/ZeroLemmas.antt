-- Lane 0 of a kernel, step by step of its loop.
use Rattle.std.proofs.Common.{◌≡◌, ℕ, ◌+◌, ◌<◌, ◌≤◌, ◌==◌, Bool, true, false, cond, List, [], ◌∷◌, ◌++◌, map, length, refl, ◌∙◌, ap, subst, arith, Some, append_assoc, append-nil, length-append}
use Rattle.std.specs.Prelude.{⊤}
use Rattle.std.specs.List.{list_any, count_by}
use Rattle.std.proofs.lemmas.List.{map-append}
use Rattle.std.proofs.lemmas.Bool.Decides.{nat_tests}
use Rattle.qp_chart.specs.declared.checked.Chart.{Chart}
use Rattle.qp_model.specs.declared.systems.System.{System}
use Rattle.qp_model.specs.declared.systems.ObjectDef.{ObjectDef}
use Rattle.qp_model.specs.declared.bodies.Entry.{Entry}
use Rattle.qp_model.specs.declared.bodies.Body.{Body}
use Rattle.qp_model.specs.declared.bodies.Body.TheVariants as body
use Rattle.qp_model.specs.Told.{Told, ToldItem, Event, for_object, plain, told_took, untold}
use Rattle.qp_model.specs.Pieces.{Piece, Point, tell}
use Rattle.qp_model.specs.KernelLane.{Setting, Reading, Inside, Looking, Chosen, Ended, Resting, floor_in, above, base_ended, looking_at, lane_next, lane_on, unread, role_of, Drops}
use Rattle.qp_model.specs.Points.{is_look}
use Rattle.qp_model.specs.Ends.{is_turn_mark, is_end}
use Rattle.qp_model.specs.End.{took_count, takes_of}
use Rattle.qp_model.specs.Sites.{object_at}
use Rattle.qp_model.specs.Course.{actor, first_config, chart_at, Starts}
use Rattle.qp_model.specs.Standing.{StepAdvances}
use Rattle.qp_model.specs.Step.{Remainder, StepGoesOn, whole_step}
use Rattle.qp_model.specs.Acts.{Config}
use Rattle.qp_model.proofs.KernelRowLemmas.{lane_on-then, look-next, seen-empty, seen-entry, rest-next, took-next, done-next, release-next, started-next, MayLook, IsOwnRole, IsWithin}
use Rattle.qp_kernel.specs.Stages as stage
use Rattle.qp_kernel.specs.Stages.{Stage, IsReady, ComesTo}
use Rattle.qp_model_order.proofs.StimLemmas.{any-both}
use Rattle.qp_kernel.specs.LaneZero.{told_pieces, Agree, setting, owed_point, row_of, HasRows, LaneZero}
use Rattle.qp_kernel.specs.Turning.{AreNumbered, AreAble, IsWithinStep, moved, having}
use Rattle.qp_kernel.proofs.StageLemmas.{comes-took, comes-point, comes-done, comes-started}
use Rattle.qp_kernel.proofs.ToldPieces.{pieces-then, pieces-one, none-owed, not-zero, pieces-look, pieces-other, pieces-told, AreOwn, AreTold, own-told, told-append, ceiling_through, reads-own, reads-start}
use Rattle.qp_model.proofs.NumberLemmas.{count-append}

-- an element that doesn't pass
pub count-cons : {A : Type 0} (p : A → Bool) (x : A) (xs : List A) → p x ≡ false → count_by p (x ∷ xs) ≡ count_by p xs
count-cons p x xs h = let parts = count-append p (x ∷ []) xs in let one : count_by p (x ∷ []) ≡ 0 = rw h refl in omega (arith, parts, one)

-- The stimuli of later looks don't matter to what has been read; so a look that had none, or has had its one, is settled.
pub zero-settled : (sys : System) (kernel budget : ℕ) (told : List ToldItem) (now later : ℕ → Bool) (upto more : ℕ) (k : Reading) (owed : ℕ) (stages : ℕ → Stage) (entries : ℕ → List Entry)
    → upto ≤ more → Agree upto later now → LaneZero sys kernel budget told now upto k owed stages entries → LaneZero sys kernel budget told later more k owed stages entries
zero-settled sys kernel budget told now later upto more k owed stages entries le same old = record {
  read = λ has agree. old.read has (along has agree);
  pieces = λ has agree d chart at is. old.pieces has (along has agree) d chart at is;
  took = old.took;
  budgets = old.budgets;
  calm = old.calm;
  unmarked = old.unmarked;
  rows = old.rows;
}
  where
    along : (has : ℕ → Bool) → Agree more has later → Agree upto has now
    along has agree n few = agree n (omega (arith, few, le)) ∙ same n few

module _ (sys : System) (kernel budget : ℕ) (told : List ToldItem) (now : ℕ → Bool) (upto : ℕ) (k : Reading) (owed : ℕ) (stages : ℕ → Stage) (entries : ℕ → List Entry)
    (old : LaneZero sys kernel budget told now upto k owed stages entries) where
  -- Records come to the lane, and each object to its stage.
  pub zero-more : (ts : List ToldItem) (k2 : Reading) (owed2 : ℕ) (stages2 : ℕ → Stage) (entries2 : ℕ → List Entry)
      → ((has : ℕ → Bool) → Agree upto has now → lane_on (setting sys kernel has) k (map untold ts) ≡ Some k2)
      → ((has : ℕ → Bool) → Agree upto has now → (d : ObjectDef) (chart : Chart) → object_at sys d.priority ≡ Some d → chart_at sys d.chart ≡ Some chart → (ps : List Piece)
      → ComesTo sys (actor d chart) (first_config d) (entries d.priority) (ps ++ owed_point owed d.priority) (stages d.priority)
      → ComesTo sys (actor d chart) (first_config d) (entries2 d.priority) ((ps ++ told_pieces (setting sys kernel has) d.priority k ts) ++ owed_point owed2 d.priority) (stages2 d.priority))
      → ((o : ℕ) → length (entries o) + took_count (map untold ts) o ≡ length (entries2 o)) → ((o : ℕ) → length (entries2 o) ≤ budget)
      → list_any (λ i. is_end i.body) (map untold ts) ≡ false → list_any (λ i. is_turn_mark i.body) (map untold ts) ≡ false → HasRows kernel k2.place k2.idle
      → LaneZero sys kernel budget (told ++ ts) now upto k2 owed2 stages2 entries2
  unfolding took_count
  zero-more ts k2 owed2 stages2 entries2 reads comes counts few calm unmarked rows = record {
    read = λ has agree.
        rw (map-append untold told ts) (lane_on-then (setting sys kernel has) (unread sys) k (map untold told) (map untold ts) (old.read has agree) ∙ reads has agree);
    pieces = λ has agree d chart at is.
        rw (pieces-then (setting sys kernel has) d.priority (unread sys) k told ts (old.read has agree))
        (comes has agree d chart at is (told_pieces (setting sys kernel has) d.priority (unread sys) told) (old.pieces has agree d chart at is));
    took = λ o.
        let both = count-append (takes_of o) (map untold told) (map untold ts) in
        let before = old.took o in
        let new = counts o in
        rw (map-append untold told ts) (omega (arith, both, before, new));
    budgets = few;
    calm = rw (map-append untold told ts) (any-both (λ i. is_end i.body) (map untold told) (map untold ts) old.calm calm);
    unmarked = rw (map-append untold told ts) (any-both (λ i. is_turn_mark i.body) (map untold told) (map untold ts) old.unmarked unmarked);
    rows = rows;
  }

  -- a record that is no piece of any object
  pub zero-beside : (t : ToldItem) (k2 : Reading) → t.of ≡ 0 → is_look t.told.body ≡ false → owed ≡ 0
      → ((has : ℕ → Bool) → Agree upto has now → lane_next (setting sys kernel has) k (untold t) ≡ Some k2)
      → is_end t.told.body ≡ false → is_turn_mark t.told.body ≡ false → ((o : ℕ) → takes_of o (untold t) ≡ false) → HasRows kernel k2.place k2.idle → AreNumbered sys
      → LaneZero sys kernel budget (told ++ t ∷ []) now upto k2 0 stages entries
  unfolding lane_on took_count
  zero-beside t k2 zero look none reads calm unmarked takes rows numbered =
      zero-more (t ∷ []) k2 0 stages entries
      (λ has agree. rw (reads has agree) refl)
      (λ has agree d chart at is ps h.
      let other : (t.of == d.priority) ≡ false = rw zero (not-zero d.priority (numbered d at)) in
      rw (pieces-one (setting sys kernel has) d.priority k t, pieces-other d.priority k t other look, append-nil ps)
      (subst (λ x. ComesTo sys (actor d chart) (first_config d) (entries d.priority) (ps ++ owed_point x d.priority) (stages d.priority)) none h))
      (λ o. let no = takes o in rw no (omega arith))
      old.budgets (rw calm refl) (rw unmarked refl) rows

  -- A look: the row of the object that stands at its point begins.
  pub zero-look : (n floor : ℕ) (k2 : Reading) → k.unstarted ≡ [] → MayLook kernel k.place k.running → owed ≡ row_of k.place k.running
      → n ≡ k.looks + 1 → floor ≡ floor_in sys kernel k.running k.ceiling
      → ((has : ℕ → Bool) → Agree upto has now → looking_at (setting sys kernel has) (record k { looks = n }) (above sys floor) ≡ k2) → HasRows kernel k2.place k2.idle
      → AreNumbered sys → LaneZero sys kernel budget (told ++ for_object 0 (plain (body.Look n floor)) ∷ []) now upto k2 0 stages entries
  unfolding lane_on took_count
  zero-look n floor k2 started may owes count level same rows numbered =
      zero-more (for_object 0 (plain (body.Look n floor)) ∷ []) k2 0 stages entries
      (λ has agree. rw (look-next (setting sys kernel has) k n floor started may count level ∙ ap (λ x. Some x) (same has agree)) refl)
      (λ has agree d chart at is ps h.
      let some : 0 < d.priority = numbered d at in
      rw (pieces-one (setting sys kernel has) d.priority k (for_object 0 (plain (body.Look n floor))), pieces-look d.priority k n (for_object 0 (plain (body.Look n floor))) some refl refl, none-owed d.priority some, append-nil (ps ++ owed_point (row_of k.place k.running) d.priority))
      (subst (λ x. ComesTo sys (actor d chart) (first_config d) (entries d.priority) (ps ++ owed_point x d.priority) (stages d.priority)) owes h))
      (λ o. omega arith)
      old.budgets refl refl rows

  -- The next object's queue is seen empty.
  pub zero-seen-empty : (p : ℕ) (others : List ℕ) (f l m : ℕ) (k2 : Reading) → k.unstarted ≡ [] → k.place ≡ Looking p others → owed ≡ 0 → f + l ≤ m
      → ((has : ℕ → Bool) → Agree upto has now → looking_at (setting sys kernel has) k others ≡ k2) → HasRows kernel k2.place k2.idle
      → AreNumbered sys → LaneZero sys kernel budget (told ++ for_object 0 (plain (body.Seen p f l m)) ∷ []) now upto k2 0 stages entries
  zero-seen-empty p others f l m k2 started at none empty same rows numbered =
      zero-beside (for_object 0 (plain (body.Seen p f l m))) k2 refl refl none
      (λ has agree. seen-empty (setting sys kernel has) k p others f l m started at empty ∙ ap (λ x. Some x) (same has agree))
      refl refl (λ o. refl) rows numbered

  -- It is seen with an entry.
  pub zero-seen-entry : (p : ℕ) (others : List ℕ) (f l m : ℕ) → k.unstarted ≡ [] → k.place ≡ Looking p others → owed ≡ 0 → m < f + l
      → AreNumbered sys → LaneZero sys kernel budget (told ++ for_object 0 (plain (body.Seen p f l m)) ∷ []) now upto (record k { place = Chosen p }) 0 stages entries
  zero-seen-entry p others f l m started at none some numbered =
      zero-beside (for_object 0 (plain (body.Seen p f l m))) (record k { place = Chosen p }) refl refl none
      (λ has agree. seen-entry (setting sys kernel has) k p others f l m started at some)
      refl refl (λ o. refl) (subst (λ x. HasRows kernel x k.idle) at old.rows) numbered

  -- The kernel rests behind a look at the base that has shown no entry.
  pub zero-rest : (n : ℕ) (k2 : Reading) → k.unstarted ≡ [] → k.place ≡ Resting → owed ≡ 0 → n ≡ k.looks
      → ((has : ℕ → Bool) → Agree upto has now → base_ended (setting sys kernel has) k ≡ k2) → HasRows kernel k2.place k2.idle
      → AreNumbered sys → LaneZero sys kernel budget (told ++ for_object 0 (plain (body.Rest n)) ∷ []) now upto k2 0 stages entries
  zero-rest n k2 started at none count same rows numbered =
      zero-beside (for_object 0 (plain (body.Rest n))) k2 refl refl none
      (λ has agree. ap (λ x. lane_next (setting sys kernel has) k (record { of = 0; body = body.Rest x })) count ∙ rest-next (setting sys kernel has) k started at ∙ ap (λ x. Some x) (same has agree))
      refl refl (λ o. refl) rows numbered

-- dropped references
abbrev pub AreDrops : List Told → Type 0
AreDrops [] = ⊤
AreDrops (t ∷ ts) = (role_of t.body ≡ Drops) × AreDrops ts

pub drop-not_look : (b : Body) → role_of b ≡ Drops → (is_look b ≡ false) × (is_turn_mark b ≡ false) × (is_end b ≡ false) × ((p o : ℕ) → takes_of o (record { of = p; body = b }) ≡ false)
unfolding role_of
drop-not_look (body.Dec p b d k) h = (refl, refl, refl, λ p o. refl)
drop-not_look (body.Back p n b to) h = (refl, refl, refl, λ p o. refl)
drop-not_look _ h = absurd (cc)

pub drops-told : (rel : List Told) → AreDrops rel → AreTold rel
drops-told [] h = tt
drops-told (t ∷ ts) h = let is = drop-not_look t.body h.0 in (is.0, is.1, drops-told ts h.1)

pub drops-calm : (rel : List Told) → AreDrops rel → list_any (λ t. is_end t.body) rel ≡ false
drops-calm [] h = refl
drops-calm (t ∷ ts) h = let is = drop-not_look t.body h.0 in rw (is.2, drops-calm ts h.1) refl

pub drops-takes : (p : ℕ) (rel : List Told) (o : ℕ) → AreDrops rel → took_count (map untold (map (for_object p) rel)) o ≡ 0
unfolding took_count
drops-takes p [] o h = refl
drops-takes p (t ∷ ts) o h =
    let rest : count_by (takes_of o) (map untold (map (for_object p) ts)) ≡ 0 = drops-takes p ts o h.1 in
    count-cons (takes_of o) (record { of = p; body = t.body }) (map untold (map (for_object p) ts)) ((drop-not_look t.body h.0).3 p o) ∙ rest

-- the end of a lane among told records
pub ends-told : (p : ℕ) (g : List Told) → list_any (λ t. is_end t.body) g ≡ false → list_any (λ i. is_end i.body) (map untold (map (for_object p) g)) ≡ false
ends-told p g h = same g ∙ h
  where
    same : (g : List Told) → list_any (λ i. is_end i.body) (map untold (map (for_object p) g)) ≡ list_any (λ t. is_end t.body) g
    same [] = refl
    same (t ∷ ts) = rw (same ts) refl

pub told-unmarked : (p : ℕ) (g : List Told) → AreTold g → list_any (λ i. is_turn_mark i.body) (map untold (map (for_object p) g)) ≡ false
told-unmarked p [] h = refl
told-unmarked p (t ∷ ts) h = rw (h.1, told-unmarked p ts h.2) refl

-- the release after a step
pub reads-drops : (s : Setting) (p : ℕ) (k : Reading) (rel : List Told) → k.unstarted ≡ [] → k.place ≡ Ended p → AreDrops rel
    → lane_on s k (map untold (map (for_object p) rel)) ≡ Some k
unfolding lane_on
reads-drops s p k [] started at h = refl
reads-drops s p k (t ∷ ts) started at h =
    rw (release-next s k p (record { of = p; body = t.body }) started at refl h.0) (reads-drops s p k ts started at h.1)

-- a step's records to its end
pub reads-done : (s : Setting) (p : ℕ) (outer : List ℕ) (k : Reading) (g rel : List Told) → IsWithin k p outer → AreOwn g → AreDrops rel
    → lane_on s k (map untold (map (for_object p) (g ++ plain body.Done ∷ rel))) ≡ Some (record k { ceiling = ceiling_through k.ceiling g; running = outer; place = Ended p })
unfolding lane_on
reads-done s p outer k g rel at own drops =
    let mid = record k { ceiling = ceiling_through k.ceiling g } in
    let last = record k { ceiling = ceiling_through k.ceiling g; running = outer; place = Ended p } in
    let done : lane_next s mid (record { of = p; body = body.Done }) ≡ Some last = done-next s mid p outer (record { started = at.started; running = at.running; inside = at.inside }) in
    ap (λ x. lane_on s k (map untold x)) (map-append (for_object p) g (plain body.Done ∷ rel))
    ∙ ap (lane_on s k) (map-append untold (map (for_object p) g) (map (for_object p) (plain body.Done ∷ rel)))
    ∙ lane_on-then s k mid (map untold (map (for_object p) g)) (map untold (map (for_object p) (plain body.Done ∷ rel))) (reads-own s p outer k g at own)
    ∙ rw done (reads-drops s p last rel at.started refl drops)

-- a start's records to its end
pub reads-started : (s : Setting) (p : ℕ) (others : List ℕ) (k : Reading) (g : List Told) → k.unstarted ≡ p ∷ others → AreOwn g
    → lane_on s k (map untold (map (for_object p) (g ++ plain body.Done ∷ []))) ≡ Some (record k { ceiling = ceiling_through k.ceiling g; unstarted = others })
unfolding lane_on
reads-started s p others k g first own =
    let mid = record k { ceiling = ceiling_through k.ceiling g } in
    let last = record k { ceiling = ceiling_through k.ceiling g; unstarted = others } in
    let done : lane_next s mid (record { of = p; body = body.Done }) ≡ Some last = started-next s mid p others first in
    ap (λ x. lane_on s k (map untold x)) (map-append (for_object p) g (plain body.Done ∷ []))
    ∙ ap (lane_on s k) (map-append untold (map (for_object p) g) (map (for_object p) (plain body.Done ∷ [])))
    ∙ lane_on-then s k mid (map untold (map (for_object p) g)) (map untold (map (for_object p) (plain body.Done ∷ []))) (reads-start s p others k g first own)
    ∙ rw done refl

own-not_took : (p o : ℕ) (b : Body) → IsOwnRole (role_of b) → takes_of o (record { of = p; body = b }) ≡ false
unfolding role_of
own-not_took p o (body.Took f l m e) h = absurd h
own-not_took p o _ h = refl

-- records of a step's inside are no `took`
pub own-takes : (p : ℕ) (g : List Told) (o : ℕ) → AreOwn g → took_count (map untold (map (for_object p) g)) o ≡ 0
unfolding took_count
own-takes p [] o own = refl
own-takes p (t ∷ ts) o own =
    let rest : count_by (takes_of o) (map untold (map (for_object p) ts)) ≡ 0 = own-takes p ts o own.2 in
    count-cons (takes_of o) (record { of = p; body = t.body }) (map untold (map (for_object p) ts)) (own-not_took p o t.body own.0) ∙ rest

pub done-takes : (p : ℕ) (g rel : List Told) (o : ℕ) → AreOwn g → AreDrops rel → took_count (map untold (map (for_object p) (g ++ plain body.Done ∷ rel))) o ≡ 0
unfolding took_count
done-takes p g rel o own drops =
    let front : count_by (takes_of o) (map untold (map (for_object p) g)) ≡ 0 = own-takes p g o own in
    let back : count_by (takes_of o) (map untold (map (for_object p) rel)) ≡ 0 = drops-takes p rel o drops in
    ap (λ x. count_by (takes_of o) (map untold x)) (map-append (for_object p) g (plain body.Done ∷ rel))
    ∙ ap (count_by (takes_of o)) (map-append untold (map (for_object p) g) (map (for_object p) (plain body.Done ∷ rel)))
    ∙ count-append (takes_of o) (map untold (map (for_object p) g)) (map untold (map (for_object p) (plain body.Done ∷ rel)))
    ∙ rw (front, back) refl

-- the object that owes its point, or none
abbrev pub owing : Bool → ℕ → ℕ
owing b p = cond b p 0

abbrev pub point_if : Bool → List Piece
point_if b = cond b (Point ∷ []) []

module _ (sys : System) (kernel budget : ℕ) (told : List ToldItem) (now : ℕ → Bool) (upto : ℕ) (k : Reading) (stages : ℕ → Stage) (entries : ℕ → List Entry)
    (old : LaneZero sys kernel budget told now upto k 0 stages entries) (numbered : AreNumbered sys) (p : ℕ) (some : 0 < p) where
  -- Records of one object come, and it goes to another stage.
  pub zero-moves : (g : List Told) (owes : Bool) (k2 : Reading) (there : Stage) (es : List Entry)
      → ((has : ℕ → Bool) → Agree upto has now → lane_on (setting sys kernel has) k (map untold (map (for_object p) g)) ≡ Some k2) → AreTold g
      → ((d : ObjectDef) (chart : Chart) → d.priority ≡ p → object_at sys d.priority ≡ Some d → chart_at sys d.chart ≡ Some chart → (ps : List Piece)
      → ComesTo sys (actor d chart) (first_config d) (entries p) ps (stages p) → ComesTo sys (actor d chart) (first_config d) es (ps ++ (tell g ++ point_if owes)) there)
      → ((o : ℕ) → length (entries o) + took_count (map untold (map (for_object p) g)) o ≡ length (having entries p es o)) → length es ≤ budget
      → list_any (λ i. is_end i.body) (map untold (map (for_object p) g)) ≡ false → HasRows kernel k2.place k2.idle
      → LaneZero sys kernel budget (told ++ map (for_object p) g) now upto k2 (owing owes p) (moved stages p there) (having entries p es)
  zero-moves g owes k2 there es reads are comes counts few calm rows =
      zero-more sys kernel budget told now upto k 0 stages entries old (map (for_object p) g) k2 (owing owes p) (moved stages p there) (having entries p es) reads
      (λ has agree d chart at is ps h. piece has d chart at is ps h (p == d.priority) refl) counts (λ o. within o (p == o) refl) calm (told-unmarked p g are) rows
    where
      within : (o : ℕ) (v : Bool) → (p == o) ≡ v → length (having entries p es o) ≤ budget
      within o true e = rw e few
      within o false e = rw e (old.budgets o)

      owed-other : (o : ℕ) → 0 < o → (p == o) ≡ false → (b : Bool) → owed_point (owing b p) o ≡ []
      owed-other o lt e true = rw e refl
      owed-other o lt e false = none-owed o lt

      owed-own : (o : ℕ) → 0 < o → (p == o) ≡ true → (b : Bool) → owed_point (owing b p) o ≡ point_if b
      owed-own o lt e true = rw e refl
      owed-own o lt e false = none-owed o lt

      piece : (has : ℕ → Bool) (d : ObjectDef) (chart : Chart) → object_at sys d.priority ≡ Some d → chart_at sys d.chart ≡ Some chart → (ps : List Piece)
          → ComesTo sys (actor d chart) (first_config d) (entries d.priority) (ps ++ owed_point 0 d.priority) (stages d.priority) → (v : Bool) → (p == d.priority) ≡ v
          → ComesTo sys (actor d chart) (first_config d) (having entries p es d.priority) ((ps ++ told_pieces (setting sys kernel has) d.priority k (map (for_object p) g)) ++ owed_point (owing owes p) d.priority) (moved stages p there d.priority)
      piece has d chart at is ps h true e =
          let same : d.priority ≡ p = grind (arith, nat_tests) in
          let lt = numbered d at in
          let plain_h : ComesTo sys (actor d chart) (first_config d) (entries d.priority) ps (stages d.priority) =
          subst (λ x. ComesTo sys (actor d chart) (first_config d) (entries d.priority) x (stages d.priority)) (ap (λ x. ps ++ x) (none-owed d.priority lt) ∙ append-nil ps) h in
          let was : ComesTo sys (actor d chart) (first_config d) (entries p) ps (stages p) =
          subst (λ x. ComesTo sys (actor d chart) (first_config d) (entries x) ps (stages x)) same plain_h in
          rw (pieces-told (setting sys kernel has) p d.priority k g are, owed-own d.priority lt e owes, e, append_assoc ps (tell g) (point_if owes))
          (comes d chart same at is ps was)
      piece has d chart at is ps h false e =
          let lt = numbered d at in
          let plain_h : ComesTo sys (actor d chart) (first_config d) (entries d.priority) ps (stages d.priority) =
          subst (λ x. ComesTo sys (actor d chart) (first_config d) (entries d.priority) x (stages d.priority)) (ap (λ x. ps ++ x) (none-owed d.priority lt) ∙ append-nil ps) h in
          rw (pieces-told (setting sys kernel has) p d.priority k g are, owed-other d.priority lt e owes, e, append-nil ps, append-nil ps) plain_h

  having-same : (o : ℕ) (es : List Entry) (n : ℕ) → n ≡ 0 → length (entries p) ≡ length es → length (entries o) + n ≡ length (having entries p es o)
  having-same o es n zero same = go (p == o) refl
    where
      go : (v : Bool) → (p == o) ≡ v → length (entries o) + n ≡ length (having entries p es o)
      go true e = let is : o ≡ p = grind (arith, nat_tests) in let at : length (entries o) ≡ length (entries p) = ap (λ x. length (entries x)) is in rw e (omega (arith, zero, same, at))
      go false e = rw e (omega (arith, zero))

  -- The object found takes its entry up: its step begins.
  pub zero-took : (f l m : ℕ) (e : Entry) (ev : Event) (c : Config) (left : Remainder) → k.unstarted ≡ [] → k.place ≡ Chosen p → stages p ≡ stage.Resting c → length (entries p) < budget
      → AreAble sys
      → ((d : ObjectDef) (chart : Chart) → d.priority ≡ p → object_at sys d.priority ≡ Some d → chart_at sys d.chart ≡ Some chart → left ≡ whole_step (actor d chart) c ev)
      → LaneZero sys kernel budget (told ++ for_object p (told_took f l m e ev) ∷ []) now upto (record k { running = p ∷ k.running; place = Inside; stepped = true }) 0
      (moved stages p (stage.Begun ev e left c)) (having entries p (entries p ++ e ∷ []))
  unfolding lane_on took_count
  zero-took f l m e ev c left started at rests few able plan =
      zero-moves (told_took f l m e ev ∷ []) false (record k { running = p ∷ k.running; place = Inside; stepped = true }) (stage.Begun ev e left c) (entries p ++ e ∷ [])
      (λ has agree. rw (took-next (setting sys kernel has) k p f l m e started at) refl)
      (refl, refl, tt)
      (λ d chart same at is ps h.
      comes-took sys (actor d chart) (first_config d) (entries p) ps c f l m e ev left (plan d chart same at is) (able d chart at is) (subst (ComesTo sys (actor d chart) (first_config d) (entries p) ps) rests h))
      (λ o. counts o (p == o) refl)
      (let long = length-append (entries p) (e ∷ []) in omega (arith, long, few))
      refl (subst (λ x. HasRows kernel x k.idle) at old.rows)
    where
      counts : (o : ℕ) (v : Bool) → (p == o) ≡ v → length (entries o) + (0 + cond (p == o) 1 0) ≡ length (having entries p (entries p ++ e ∷ []) o)
      counts o true is =
          let same : o ≡ p = grind (arith, nat_tests) in
          let at : length (entries o) ≡ length (entries p) = ap (λ x. length (entries x)) same in
          let long = length-append (entries p) (e ∷ []) in
          rw is (omega (arith, long, at))
      counts o false is = rw is (omega arith)

  -- The running object goes on to its next scheduling point: its records come, and it owes a point.
  pub zero-point : (outer : List ℕ) (g : List Told) (ev : Event) (e : Entry) (left later : Remainder) (c d : Config) → IsWithin k p outer → AreOwn g
      → list_any (λ t. is_end t.body) g ≡ false → IsWithinStep (stages p) ev e left c
      → ((o : ObjectDef) (chart : Chart) → o.priority ≡ p → object_at sys o.priority ≡ Some o → chart_at sys o.chart ≡ Some chart
      → StepAdvances sys (actor o chart) ev e left c (tell g ++ Point ∷ []) later d × IsReady sys (actor o chart) later d)
      → LaneZero sys kernel budget (told ++ map (for_object p) g) now upto (record k { ceiling = ceiling_through k.ceiling g }) p
      (moved stages p (stage.Paused ev e later d)) (having entries p (entries p))
  zero-point outer g ev e left later c d at own calm within goes =
      zero-moves g true (record k { ceiling = ceiling_through k.ceiling g }) (stage.Paused ev e later d) (entries p)
      (λ has agree. reads-own (setting sys kernel has) p outer k g at own) (own-told g own)
      (λ o chart same there is ps h.
      let its = goes o chart same there is in
      comes-point sys (actor o chart) (first_config o) (entries p) ps (stages p) ev e left later c d g within its.0 its.1 h)
      (λ o. having-same o (entries p) (took_count (map untold (map (for_object p) g)) o) (own-takes p g o own) refl)
      (old.budgets p) (ends-told p g calm) old.rows

  -- The running object's step runs to completion.
  pub zero-done : (outer : List ℕ) (g rel : List Told) (ev : Event) (e : Entry) (left : Remainder) (c d : Config) → IsWithin k p outer → AreOwn g → AreDrops rel
      → list_any (λ t. is_end t.body) g ≡ false → IsWithinStep (stages p) ev e left c
      → ((o : ObjectDef) (chart : Chart) → o.priority ≡ p → object_at sys o.priority ≡ Some o → chart_at sys o.chart ≡ Some chart
      → StepGoesOn sys (actor o chart) ev e left c (tell (g ++ plain body.Done ∷ rel)) (Some d))
      → LaneZero sys kernel budget (told ++ map (for_object p) (g ++ plain body.Done ∷ rel)) now upto
      (record k { ceiling = ceiling_through k.ceiling g; running = outer; place = Ended p }) 0 (moved stages p (stage.Resting d)) (having entries p (entries p))
  zero-done outer g rel ev e left c d at own drops calm within goes =
      zero-moves (g ++ plain body.Done ∷ rel) false (record k { ceiling = ceiling_through k.ceiling g; running = outer; place = Ended p }) (stage.Resting d) (entries p)
      (λ has agree. reads-done (setting sys kernel has) p outer k g rel at own drops)
      (told-append g (plain body.Done ∷ rel) (own-told g own) (refl, refl, drops-told rel drops))
      (λ o chart same there is ps h.
      comes-done sys (actor o chart) (first_config o) (entries p) ps (stages p) ev e left c d (g ++ plain body.Done ∷ rel) within (goes o chart same there is) (omega arith) h)
      (λ o. having-same o (entries p) (took_count (map untold (map (for_object p) (g ++ plain body.Done ∷ rel))) o) (done-takes p g rel o own drops) refl)
      (old.budgets p) (ends-told p (g ++ plain body.Done ∷ rel) (any-both (λ t. is_end t.body) g (plain body.Done ∷ rel) calm (drops-calm rel drops)))
      (subst (λ x. HasRows kernel x k.idle) at.inside old.rows)

  -- The next object starts.
  pub zero-started : (others : List ℕ) (g : List Told) (c : Config) → k.unstarted ≡ p ∷ others → AreOwn g → list_any (λ t. is_end t.body) g ≡ false → stages p ≡ stage.Unstarted
      → ((o : ObjectDef) (chart : Chart) → o.priority ≡ p → object_at sys o.priority ≡ Some o → chart_at sys o.chart ≡ Some chart
      → Starts sys (actor o chart) (first_config o) (tell (g ++ plain body.Done ∷ [])) (Some c))
      → LaneZero sys kernel budget (told ++ map (for_object p) (g ++ plain body.Done ∷ [])) now upto
      (record k { ceiling = ceiling_through k.ceiling g; unstarted = others }) 0 (moved stages p (stage.Resting c)) (having entries p (entries p))
  zero-started others g c first own calm unstarted goes =
      zero-moves (g ++ plain body.Done ∷ []) false (record k { ceiling = ceiling_through k.ceiling g; unstarted = others }) (stage.Resting c) (entries p)
      (λ has agree. reads-started (setting sys kernel has) p others k g first own)
      (told-append g (plain body.Done ∷ []) (own-told g own) (refl, refl, tt))
      (λ o chart same there is ps h.
      comes-started sys (actor o chart) (first_config o) (entries p) ps c (g ++ plain body.Done ∷ []) (goes o chart same there is) (omega arith) (subst (ComesTo sys (actor o chart) (first_config o) (entries p) ps) unstarted h))
      (λ o. having-same o (entries p) (took_count (map untold (map (for_object p) (g ++ plain body.Done ∷ []))) o) (done-takes p g [] o own tt) refl)
      (old.budgets p) (ends-told p (g ++ plain body.Done ∷ []) (any-both (λ t. is_end t.body) g (plain body.Done ∷ []) calm refl)) old.rows
