-- Looks of a source that add nothing.
use Rattle.std.proofs.Common.{◌≡◌, ℕ, ◌+◌, ◌<◌, ◌≤◌, Bool, true, false, List, [], ◌∷◌, ◌++◌, map, length, take, slice_get, get_or, refl, sym, ◌∙◌, ap, subst, arith, IsTrue, Some}
use Rattle.std.specs.List.{AllByRecursion}
use Rattle.std.proofs.lemmas.List.{map-append, take_all, take_more}
use Rattle.std.proofs.lemmas.Option.{slice_get-get_or}
use Rattle.qp_model.specs.declared.systems.System.{System}
use Rattle.qp_model.specs.declared.systems.ObjectDef.{ObjectDef}
use Rattle.qp_model.specs.declared.words.Word.TheVariants as word
use Rattle.qp_model.specs.History.{same_word}
use Rattle.qp_model.specs.Sites.{object_at}
use Rattle.qp_model.specs.Sources.{priorities}
use Rattle.qp_model.specs.WordLaw.{is_object}
use Rattle.qp_model.proofs.ObjectLemmas.{object-there}
use Rattle.qp_model.proofs.KnowingLemmas.{same_word-is}
use Rattle.qp_calls.specs.declared.answers.Counts as counts
use Rattle.qp_calls.specs.LaneView.{LaneView, Counts}
use Rattle.qp_calls.specs.Clauses.{Counted}
use Rattle.qp_calls.proofs.Advancing.{advances-looks, advances-none, advances-then, looks-rise}
use Rattle.qp_port_lanes.specs.Passing.{Glances, IsClear, ShowsEntry}

is-object : (sys : System) (k : ℕ) (d : ObjectDef) → slice_get sys.objects k ≡ Some d → IsTrue (is_object sys d.priority)
unfolding is_object object_at
is-object sys k d at = object-there d.priority sys.objects k d at refl

-- the object at a place of the list
pub record At (sys : System) (i : ℕ) (d : ObjectDef) : Type 0 where
  pub object : IsTrue (is_object sys d.priority)
  pub more : map (λ x. x.priority) (take (i + 1) sys.objects) ≡ map (λ x. x.priority) (take i sys.objects) ++ d.priority ∷ []

pub at : (sys : System) (ys : List ObjectDef) (i : ℕ) (d : ObjectDef) → ys ≡ sys.objects → i < length ys → d ≡ get_or ys i d → At sys i d
at sys ys i d same lt is =
    let p : ObjectDef → ℕ = λ x. x.priority in
    let here : slice_get sys.objects i ≡ Some d = ap (λ zs. slice_get zs i) (sym same) ∙ slice_get-get_or ys i d lt ∙ ap Some (sym is) in
    let front : take (i + 1) ys ≡ take i ys ++ d ∷ [] = take_more ys i d lt ∙ ap (λ x. take i ys ++ x ∷ []) (sym is) in
    record {
      object = is-object sys i d here;
      more = subst (λ zs. map p (take (i + 1) zs) ≡ map p (take i zs) ++ d.priority ∷ []) same (ap (map p) front ∙ map-append p (take i ys) (d ∷ []));
    }

pub glances-none : (v : LaneView) → Glances v v
glances-none v = record {
  told = refl;
  by = refl;
  rise = λ x. omega arith;
  shown = λ x e. refl;
  hands = refl;
  stops = refl;
  answered = refl;
  asked = refl;
  keeps = record { sys = refl; lane = refl; world = refl; plan = refl; happened = refl; serves = λ o. refl; advances = advances-none v };
}

pub glances-then : (u v w : LaneView) (p : ℕ) (c : counts.Counts) → Glances u v → Counted p v w c → Glances u w
glances-then u v w p c a h =
    let rise = looks-rise (word.Queue p) (c.f + c.l + c.m) (Counts c.f c.l c.m) v w h.0 in
    record {
      told = h.0.told ∙ a.told;
      by = h.0.by ∙ a.by;
      rise = λ x. let one = a.rise x in let two = rise x in omega (arith, one, two);
      shown = λ x e. let one = a.rise x in let two = rise x in h.0.shown x (omega (arith, one, two, e)) ∙ a.shown x (omega (arith, one, two, e));
      hands = h.0.hands ∙ a.hands;
      stops = h.0.stops ∙ a.stops;
      answered = h.0.answered ∙ a.answered;
      asked = h.0.asked ∙ a.asked;
      keeps = record {
        sys = h.0.sys ∙ a.keeps.sys;
        lane = h.0.lane ∙ a.keeps.lane;
        world = h.0.world ∙ a.keeps.world;
        plan = h.0.plan ∙ a.keeps.plan;
        happened = h.0.happened ∙ a.keeps.happened;
        serves = λ o. h.0.serves o ∙ a.keeps.serves o;
        advances = advances-then u v w a.keeps.advances (advances-looks (word.Queue p) (c.f + c.l + c.m) (Counts c.f c.l c.m) v w h.0);
      };
    }

-- a look at one queue that shows it empty
module _ (p : ℕ) (c : counts.Counts) (v w : LaneView) (h : Counted p v w c) (empty : c.f + c.l ≤ c.m) where
  clear-here : IsClear w p
  clear-here = record { f = c.f; l = c.l; m = c.m; mark = h.0.here; shown = h.0.says; empty = empty }

  clear-still : (q : ℕ) → IsClear v q → IsClear w q
  clear-still q k = by (same_word (word.Queue p) (word.Queue q)) refl
    where
      by : (b : Bool) → same_word (word.Queue p) (word.Queue q) ≡ b → IsClear w q
      by true e = let same : p ≡ q = let is = same_word-is (word.Queue p) (word.Queue q) e in cc in subst (IsClear w) same clear-here
      by false e = let stays = h.0.mark (word.Queue q) e in record { f = k.f; l = k.l; m = k.m; mark = stays ∙ k.mark; shown = h.0.shown (word.Queue q) stays ∙ k.shown; empty = k.empty }

  pub clear-more : (os : List ℕ) → AllByRecursion (IsClear v) os → AllByRecursion (IsClear w) (os ++ p ∷ [])
  clear-more [] k = (clear-here, tt)
  clear-more (o ∷ os) k = (clear-still o k.0, clear-more os k.1)

pub shows-entry : (sys : System) (p : ℕ) (c : counts.Counts) (v w : LaneView) → IsTrue (is_object sys p) → Counted p v w c → c.m < c.f + c.l → ShowsEntry sys p c w
shows-entry sys p c v w its h some = record { its = its; some = some; mark = h.0.here; shown = h.0.says }

pub clear-all : (sys : System) (i : ℕ) (w : LaneView) → AllByRecursion (IsClear w) (map (λ x. x.priority) (take i sys.objects)) → length sys.objects ≤ i → AllByRecursion (IsClear w) (priorities sys)
clear-all sys i w seen all = subst (λ os. AllByRecursion (IsClear w) (map (λ x. x.priority) os)) (take_all i sys.objects all) seen
