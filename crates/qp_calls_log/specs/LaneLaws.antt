-- The laws of a lane, by its log.
use Rattle.std.specs.Prelude.{◌≡◌, ℕ, ◌+◌, ◌==◌, nat_lt, Bool, true, false, not, ◌&&◌, ◌||◌, List, [], ◌∷◌, length, map, refl}
use Rattle.std.specs.List.{count_by, list_all, list_any}
use Rattle.std.proofs.Common.{sym, ◌∙◌, ap, subst, cond, arith}
use Rattle.std.proofs.lemmas.List.{length-map}
use Rattle.std.proofs.lemmas.List.Sums.{sum_by-cons}
use Rattle.qp_model.specs.declared.bodies.Body.{Body}
use Rattle.qp_model.specs.Ends.{is_spill}
use Rattle.qp_model.specs.History.{lane_items}
use Rattle.qp_model.specs.Told.{ToldItem, untold}
use Rattle.qp_calls.specs.LaneView.{LaneView, Shown}
use Rattle.qp_calls.specs.Clauses.{last_nil, nil_by}
use Rattle.qp_calls.specs.LaneLaws.{IsWithinLimit, HasCauses, is_caused, is_caused_in}
use Rattle.qp_calls.specs.Notes.{stop_code}
use Rattle.qp_calls_log.specs.declared.log.Log.{Log}
use Rattle.qp_calls_log.specs.Lane.{last_nil_in}

-- The lane tells the records of the log in their order. Its spare and the codes that it handed in are the log's.
pub record TellsLog (g : Log) (v : LaneView) : Type 0 where
  pub told : map untold v.told ≡ lane_items g.recs.items
  pub spare : v.spare ≡ g.spare
  pub stops : v.stops ≡ g.stops.list

-- a test of what is told is one of the records
pub told-count : (p : Body → Bool) (ts : List ToldItem) → count_by (λ t. p t.told.body) ts ≡ count_by (λ i. p i.body) (map untold ts)
told-count p [] = refl
told-count p (t ∷ ts) =
    sum_by-cons (λ u. cond (p u.told.body) 1 0) t ts
    ∙ ap (λ n. cond (p t.told.body) 1 0 + n) (told-count p ts)
    ∙ sym (sum_by-cons (λ j. cond (p j.body) 1 0) (untold t) (map untold ts))

pub told-any : (p : Body → Bool) (ts : List ToldItem) → list_any (λ t. p t.told.body) ts ≡ list_any (λ i. p i.body) (map untold ts)
told-any p [] = refl
told-any p (t ∷ ts) = ap (λ b. p t.told.body || b) (told-any p ts)

-- so is the last `nil` of a queue
pub told-nil : (a : ℕ) (x : Shown) (ts : List ToldItem) → last_nil a x ts ≡ last_nil_in a x (map untold ts)
unfolding last_nil last_nil_in
told-nil a x [] = refl
told-nil a x (t ∷ ts) = told-nil a (nil_by a x t.of t.told.body) ts

module _ (g : Log) (v : LaneView) (tells : TellsLog g v) where
  pub told-items : length v.told ≡ length (lane_items g.recs.items)
  told-items = sym (length-map v.told untold) ∙ ap length tells.told

  pub keeps-limit : IsWithinLimit v
  keeps-limit =
      let counted = told-count (λ b. not (is_spill b)) v.told in
      let items = ap (count_by (λ i. not (is_spill i.body))) tells.told in
      omega (arith, g.few, counted, items, tells.spare)

  caused : (codes : List ℕ) → list_all (is_caused_in (lane_items g.recs.items)) codes ≡ true → list_all (λ code. is_caused v.told code) codes ≡ true
  caused [] h = refl
  caused (x ∷ xs) h = subst (λ b. (b && list_all (λ code. is_caused v.told code) xs) ≡ true) (sym (same x)) (go (is_caused_in (lane_items g.recs.items) x) h (caused xs))
    where
      same : (x : ℕ) → is_caused v.told x ≡ is_caused_in (lane_items g.recs.items) x
      same x = ap (λ b. (x == 7) || (nat_lt 0 x && b)) (told-any (λ b. stop_code b == x) v.told ∙ ap (list_any (λ i. stop_code i.body == x)) tells.told)

      go : (b : Bool) → (b && list_all (is_caused_in (lane_items g.recs.items)) xs) ≡ true
          → (list_all (is_caused_in (lane_items g.recs.items)) xs ≡ true → list_all (λ code. is_caused v.told code) xs ≡ true)
          → (b && list_all (λ code. is_caused v.told code) xs) ≡ true
      go true h later = later h
      go false h later = absurd (cc)

  pub has-causes : HasCauses v
  has-causes = subst (λ codes. list_all (λ code. is_caused v.told code) codes ≡ true) (sym tells.stops) (caused g.stops.list g.causes)
