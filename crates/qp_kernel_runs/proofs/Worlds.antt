-- The lanes of a plain world, whichever is chosen.
use Rattle.std.proofs.Common.{◌≡◌, ◌≢◌, ℕ, zero, suc, ◌<◌, List, [], ◌∷◌, map, length, get_or, slice_set, refl, sym, ◌∙◌, ap, subst}
use Rattle.std.proofs.lemmas.List.{length-map, length-set, map-set, get_or-set_same, get_or-set_other}
use Rattle.qp_model.specs.declared.record.Rec.{Rec}
use Rattle.qp_model.specs.Told.{ToldItem}
use Rattle.qp_model.specs.History.{lane_items}
use Rattle.qp_model.specs.Knowing.{told_lane}
use Rattle.qp_calls.specs.LaneView.{Purse}
use Rattle.qp_plain_sound.specs.Log.{lane_recs}
use Rattle.qp_plain_sound.specs.Sound.{facts_in}
use Rattle.qp_plain_sound.specs.View.{view_of}
use Rattle.qp_plain.specs.declared.world.PlainWorld.{PlainWorld}
use Rattle.qp_plain.specs.Book.{lists_of, logs_of, purse_of, no_purse}
use Rattle.qp_plain.specs.Books.{log_recs}
use Rattle.qp_plain.specs.NewWorld.{GoesTo, chosen, lanes_in}
use Rattle.qp_plain.specs.WorldView.{world_view}

pub map-at : {X Y : Type 0} (f : X → Y) (d : X) (xs : List X) (k : ℕ) → get_or (map f xs) k (f d) ≡ f (get_or xs k d)
map-at f d [] k = refl
map-at f d (x ∷ xs) zero = refl
map-at f d (x ∷ xs) (suc k) = map-at f d xs k

-- what each lane tells, and its purse
abbrev pub tells : PlainWorld → List Rec → List ToldItem
tells w l = told_lane (facts_in w.sys.now (lists_of w.book)) 0 (lane_items l)

abbrev pub tolds : PlainWorld → List (List ToldItem)
tolds w = map (tells w) (lists_of w.book)

abbrev pub purses : PlainWorld → List Purse
purses w = map purse_of (logs_of w.book)

module _ (w : PlainWorld) where
  nothing : tells w [] ≡ []
  unfolding told_lane lane_items
  nothing = refl

  pub told-of : (k : ℕ) → get_or (tolds w) k [] ≡ tells w (lane_recs (lists_of w.book) k)
  told-of k = ap (get_or (tolds w) k) (sym nothing) ∙ map-at (tells w) [] (lists_of w.book) k

  pub told-here : (world_view w).told ≡ get_or (tolds w) (chosen w) []
  unfolding view_of
  told-here = sym (told-of (chosen w))

  pub told-aside : (world_view w).aside.told ≡ slice_set (tolds w) (chosen w) []
  unfolding view_of
  told-aside = map-set (tells w) (lists_of w.book) (chosen w) [] ∙ ap (slice_set (tolds w) (chosen w)) nothing

  pub lane-is : (world_view w).lane ≡ chosen w
  unfolding view_of
  lane-is = refl

  pub no-name : (world_view w).world ≡ []
  unfolding view_of
  no-name = refl

  pub long : length (tolds w) ≡ lanes_in w
  long =
      length-map (lists_of w.book) (tells w) ∙ length-map (logs_of w.book) log_recs
      ∙ length-set w.book.others.items w.book.at w.book.here

  pub within : chosen w < length (tolds w)
  within = subst (λ n. chosen w < n) (sym long) w.book.within

  pub long-aside : length (world_view w).aside.told ≡ lanes_in w
  long-aside = ap length told-aside ∙ length-set (tolds w) (chosen w) [] ∙ long

  pub purses-aside : (world_view w).aside.purses ≡ slice_set (purses w) (chosen w) no_purse
  unfolding view_of
  purses-aside = refl

  pub long-purses : length (purses w) ≡ lanes_in w
  long-purses = length-map (logs_of w.book) purse_of ∙ length-set w.book.others.items w.book.at w.book.here

  pub long-beside : length (world_view w).aside.purses ≡ lanes_in w
  long-beside = ap length purses-aside ∙ length-set (purses w) (chosen w) no_purse ∙ long-purses

  abbrev pub own_purse : Purse
  own_purse = record { spare = (world_view w).spare; stops = (world_view w).stops; answered = (world_view w).answered }

  pub purse-here : own_purse ≡ get_or (purses w) (chosen w) no_purse
  unfolding view_of
  purse-here =
      sym (ap (λ xs. get_or xs (chosen w) no_purse) (map-set purse_of w.book.others.items w.book.at w.book.here)
      ∙ get_or-set_same (map purse_of w.book.others.items) w.book.at (purse_of w.book.here) no_purse
      (subst (λ n. w.book.at < n) (sym (length-map w.book.others.items purse_of)) w.book.within))

  -- what other lanes tell, and their purses
  pub told-other : (k : ℕ) → k ≢ chosen w → get_or (world_view w).aside.told k [] ≡ get_or (tolds w) k []
  told-other k other = ap (λ xs. get_or xs k []) told-aside ∙ get_or-set_other (tolds w) (chosen w) k [] [] other

  pub purse-other : (k : ℕ) → k ≢ chosen w → get_or (world_view w).aside.purses k no_purse ≡ get_or (purses w) k no_purse
  purse-other k other = ap (λ xs. get_or xs k no_purse) purses-aside ∙ get_or-set_other (purses w) (chosen w) k no_purse no_purse other

-- Another lane is chosen, and none changes.
module _ (lane : ℕ) (old new : PlainWorld) (goes : GoesTo lane old new) where
  pub tolds-stay : tolds new ≡ tolds old
  tolds-stay =
      ap (λ logs. map (λ l. told_lane (facts_in new.sys.now (map log_recs logs)) 0 (lane_items l)) (map log_recs logs)) goes.logs
      ∙ ap (λ sys. map (λ l. told_lane (facts_in sys (lists_of old.book)) 0 (lane_items l)) (lists_of old.book)) goes.sys_is

  pub purses-stay : purses new ≡ purses old
  purses-stay = ap (map purse_of) goes.logs
