-- A settle, queue by queue.
use Rattle.std.proofs.Common.{◌≡◌, ℕ, ◌+◌, ◌<◌, ◌≤◌, List, [], ◌∷◌, ◌++◌, map, length, take, drop, slice_get, get_or, refl, sym, ◌∙◌, ap, subst, arith, append_assoc, IsTrue, Some, inl, inr}
use Rattle.std.proofs.lemmas.List.{map-append, append-nil, take_all, take_more, take-append-drop}
use Rattle.std.proofs.lemmas.Option.{slice_get-get_or}
use Rattle.qp_model.specs.declared.systems.System.{System}
use Rattle.qp_model.specs.declared.systems.ObjectDef.{ObjectDef}
use Rattle.qp_model.specs.declared.bodies.Body.TheVariants as body
use Rattle.qp_model.specs.Sites.{object_at}
use Rattle.qp_model.specs.Told.{Told, plain}
use Rattle.qp_model.specs.Sources.{SeesEmpty, SeesEntry, Settles, Tries, priorities}
use Rattle.qp_model.specs.WordLaw.{is_object}
use Rattle.qp_model.proofs.ObjectLemmas.{object-there}
use Rattle.qp_calls.specs.declared.answers.Counts as counts
use Rattle.qp_calls.specs.Tokens.{hands_after, hands_by}
use Rattle.qp_calls.specs.LaneView.{LaneView, AddsTold, Grows, GrowsOf, Roomier}
use Rattle.qp_calls.specs.Clauses.{Sees}
use Rattle.qp_calls.proofs.Growing.{gains-none, grows-room, grows-then}
use Rattle.qp_calls_stimulus.specs.Settling.{SeesNone, SeesSome, SettleCut}

pub is-object : (sys : System) (k : ℕ) (d : ObjectDef) → slice_get sys.objects k ≡ Some d → IsTrue (is_object sys d.priority)
unfolding is_object object_at
is-object sys k d at = object-there d.priority sys.objects k d at refl

-- The object at a place of the list.
pub record At (sys : System) (i : ℕ) (d : ObjectDef) : Type 0 where
  pub object : IsTrue (is_object sys d.priority)
  pub more : map (λ x. x.priority) (take (i + 1) sys.objects) ≡ map (λ x. x.priority) (take i sys.objects) ++ d.priority ∷ []
  pub split : priorities sys ≡ map (λ x. x.priority) (take i sys.objects) ++ d.priority ∷ map (λ x. x.priority) (drop (i + 1) sys.objects)

pub at : (sys : System) (ys : List ObjectDef) (i : ℕ) (d : ObjectDef) → ys ≡ sys.objects → i < length ys → d ≡ get_or ys i d → At sys i d
at sys ys i d same lt is =
    let p : ObjectDef → ℕ = λ x. x.priority in
    let here : slice_get sys.objects i ≡ Some d = ap (λ zs. slice_get zs i) (sym same) ∙ slice_get-get_or ys i d lt ∙ ap Some (sym is) in
    let front : take (i + 1) ys ≡ take i ys ++ d ∷ [] = take_more ys i d lt ∙ ap (λ x. take i ys ++ x ∷ []) (sym is) in
    let whole : ys ≡ take i ys ++ d ∷ drop (i + 1) ys =
    sym (take-append-drop (i + 1) ys) ∙ ap (λ zs. zs ++ drop (i + 1) ys) front ∙ append_assoc (take i ys) (d ∷ []) (drop (i + 1) ys) in
    record {
      object = is-object sys i d here;
      more = subst (λ zs. map p (take (i + 1) zs) ≡ map p (take i zs) ++ d.priority ∷ []) same (ap (map p) front ∙ map-append p (take i ys) (d ∷ []));
      split = subst (λ zs. map p zs ≡ map p (take i zs) ++ d.priority ∷ map p (drop (i + 1) zs)) same (ap (map p) whole ∙ map-append p (take i ys) (d ∷ drop (i + 1) ys));
    }

-- what the lane is on the way
pub by-none : (a r : LaneView) → Roomier a r → a.by ≡ 0 → 0 ≡ r.by
by-none a r room none = let here : r.by ≡ a.by = rw room.same refl in sym (here ∙ none)

-- Queues that are seen.

sees-append : (os ps : List ℕ) (g h : List Told) → SeesEmpty os g → SeesEmpty ps h → SeesEmpty (os ++ ps) (g ++ h)
unfolding SeesEmpty
sees-append [] ps g h a b = rw a b
sees-append (o ∷ os) ps g h a b = (a.0, a.1, a.2, a.3 ++ h, ap (λ x. x ++ h) a.4, a.5, sees-append os ps a.3 h a.6 b)

entry-behind : (os : List ℕ) (o : ℕ) (ps : List ℕ) (g : List Told) (f l m : ℕ) → SeesEmpty os g → m < f + l → SeesEntry (os ++ o ∷ ps) (g ++ plain (body.Seen o f l m) ∷ [])
unfolding SeesEmpty SeesEntry
entry-behind [] o ps g f l m a some = rw a (f, l, m, [], refl, inr (some, refl))
entry-behind (x ∷ os) o ps g f l m a some =
    (a.0, a.1, a.2, a.3 ++ plain (body.Seen o f l m) ∷ [], ap (λ y. y ++ plain (body.Seen o f l m) ∷ []) a.4, inl (a.5, entry-behind os o ps a.3 f l m a.6 some))

could_see : (os : List ℕ) → (g : List Told) × SeesEmpty os g
unfolding SeesEmpty
could_see [] = ([], refl)
could_see (o ∷ os) = let rest = could_see os in (plain (body.Seen o 0 0 0) ∷ rest.0, (0, 0, 0, rest.0, refl, refl, rest.1))

-- queues that are all seen empty are a `settle` that is done
pub settles : (sys : System) (kernel : ℕ) (one : List Told) → SeesEmpty (priorities sys) one → Settles sys kernel (plain body.Settle ∷ one)
unfolding Settles Tries
settles sys kernel one h = (0, [], one, refl, refl, inr refl, h)

see_hands : (p f l m : ℕ) (a v : LaneView) → GrowsOf 0 (plain (body.Seen p f l m) ∷ []) a v → v.hands ≡ a.hands
unfolding hands_after hands_by
see_hands p f l m a v g = g.hands

settle_hands : (a v : LaneView) → Grows (plain body.Settle ∷ []) a v → v.hands ≡ a.hands
unfolding hands_after hands_by
settle_hands a v g = g.hands

-- The loop over the objects.

pub none-seen : (a r v : LaneView) → Roomier a r → AddsTold (plain body.Settle ∷ []) r v → SeesNone [] a v
unfolding SeesEmpty
none-seen a r v room note = record { one = []; grows = grows-room (plain body.Settle ∷ []) a r v room note.grows; fits = refl; hands = settle_hands r v note.grows ∙ rw room.same refl }

-- a `seen` is one of the object set by `by`, which is none
seen-grows : (p : ℕ) (c : counts.Counts) (v r w : LaneView) → v.by ≡ 0 → Roomier v r → Sees p r w c → Grows (plain (body.Seen p c.f c.l c.m) ∷ []) v w
seen-grows p c v r w none room sees =
    let by : r.by ≡ 0 = let here : r.by ≡ v.by = rw room.same refl in here ∙ none in
    grows-room (plain (body.Seen p c.f c.l c.m) ∷ []) v r w room (subst (λ o. GrowsOf o (plain (body.Seen p c.f c.l c.m) ∷ []) r w) (sym by) sees.0.grows)

seen-hands : (p : ℕ) (c : counts.Counts) (v r w : LaneView) → Roomier v r → Sees p r w c → w.hands ≡ v.hands
seen-hands p c v r w room sees = see_hands p c.f c.l c.m r w sees.0.grows ∙ rw room.same refl

module _ (os : List ℕ) (p : ℕ) (c : counts.Counts) (a v r w : LaneView) (none : a.by ≡ 0) (seen : SeesNone os a v) (room : Roomier v r) (sees : Sees p r w c) where
  one_more : List Told
  one_more = plain (body.Seen p c.f c.l c.m) ∷ []

  grown : Grows ((plain body.Settle ∷ seen.one) ++ one_more) a w
  unfolding one_more
  grown = grows-then (plain body.Settle ∷ seen.one) one_more a v w seen.grows (seen-grows p c v r w (seen.grows.by ∙ none) room sees)

  pub seen-more : (c.m < c.f + c.l → ⊥) → SeesNone (os ++ p ∷ []) a w
  unfolding one_more SeesEmpty
  seen-more empty =
      let is : c.f + c.l ≡ c.m = omega (arith, empty, sees.2) in
      record {
        one = seen.one ++ one_more;
        grows = grown;
        fits = sees-append os (p ∷ []) seen.one one_more seen.fits (c.f, c.l, c.m, [], refl, is, refl);
        hands = seen-hands p c v r w room sees ∙ seen.hands;
      }

  pub seen-some : (sys : System) (others : List ℕ) → priorities sys ≡ os ++ p ∷ others → IsTrue (is_object sys p) → c.m < c.f + c.l → SeesSome sys a w
  unfolding one_more
  seen-some sys others split object some = record {
    one = seen.one ++ one_more;
    grows = grown;
    fits = subst (λ ps. SeesEntry ps (seen.one ++ one_more)) (sym split) (entry-behind os p others seen.one c.f c.l c.m seen.fits some);
    hands = seen-hands p c v r w room sees ∙ seen.hands;
    found = record {
      object = p;
      its = object;
      g = plain body.Settle ∷ seen.one;
      before = r;
      counts = c;
      grows = reaches;
      sees = sees;
      some = some;
    };
  }
    where
      reaches : Grows (plain body.Settle ∷ seen.one) a r
      reaches = subst (λ g. Grows g a r) (append-nil (plain body.Settle ∷ seen.one))
          (grows-then (plain body.Settle ∷ seen.one) [] a v r seen.grows (grows-room [] v r r room (gains-none r)))

  pub seen-entry : (sys : System) (others : List ℕ) → priorities sys ≡ os ++ p ∷ others → IsTrue (is_object sys p) → c.m < c.f + c.l
      → (h : SeesSome sys a w) × (h.found.object ≡ p) × (h.found.counts ≡ c)
  unfolding seen-some
  seen-entry sys others split object some = (seen-some sys others split object some, refl, refl)

pub object-here : (sys : System) (p : ℕ) (os : List ℕ) (a v r : LaneView) → SeesNone os a v → Roomier v r → a.sys ≡ sys → IsTrue (is_object sys p) → IsTrue (is_object r.sys p)
object-here sys p os a v r seen room of h = let here : r.sys ≡ v.sys = rw room.same refl in rw (here, seen.grows.sys, of) h

-- `room` refused at once, or before the next look
pub settle-none : (sys : System) (a w : LaneView) → w ≡ a → SettleCut sys a w
settle-none sys a w same =
    let could = could_see (priorities sys) in
    record { g = []; rest = plain body.Settle ∷ could.0; grows = subst (λ x. Grows [] a x) (sym same) (gains-none a); fits = λ kernel. settles sys kernel could.0 could.1; some = λ none. absurd (cc) }

pub settle-cut : (sys : System) (os : List ℕ) (p : ℕ) (others : List ℕ) (a v w : LaneView) → SeesNone os a v → priorities sys ≡ os ++ p ∷ others → w ≡ v → SettleCut sys a w
unfolding could_see
settle-cut sys os p others a v w seen split same =
    let could = could_see (p ∷ others) in
    record {
      g = plain body.Settle ∷ seen.one;
      rest = could.0;
      grows = subst (λ x. Grows (plain body.Settle ∷ seen.one) a x) (sym same) seen.grows;
      fits = λ kernel. settles sys kernel (seen.one ++ could.0) (subst (λ ps. SeesEmpty ps (seen.one ++ could.0)) (sym split) (sees-append os (p ∷ others) seen.one could.0 seen.fits could.1));
      some = λ none. absurd (cc);
    }

pub seen-all : (sys : System) (i : ℕ) (a w : LaneView) → SeesNone (map (λ x. x.priority) (take i sys.objects)) a w → length sys.objects ≤ i → SeesNone (priorities sys) a w
seen-all sys i a w seen all = subst (λ os. SeesNone (map (λ x. x.priority) os) a w) (take_all i sys.objects all) seen
