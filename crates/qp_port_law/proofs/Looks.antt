-- A queue that was last seen empty is empty over the whole history.
use Rattle.std.proofs.Common.{◌≡◌, ℕ, zero, suc, ◌<◌, ◌≤◌, nat_le, Bool, true, false, ◌&&◌, List, [], ◌∷◌, length, refl, sym, ◌∙◌, ap, subst, arith, Some}
use Rattle.std.specs.Prelude.{slice_get}
use Rattle.std.specs.Option.{unwrap_or}
use Rattle.std.specs.List.{list_all}
use Rattle.std.proofs.lemmas.Bool.Decides.{nat_tests}
use Rattle.std.proofs.lemmas.Option.{slice_get_within}
use Rattle.qp_model.specs.declared.journals.Journal.{Journal}
use Rattle.qp_model.specs.declared.record.Rec.{Rec}
use Rattle.qp_model.specs.declared.systems.System.{System}
use Rattle.qp_model.specs.declared.words.Word.{Word}
use Rattle.qp_model.specs.declared.words.Word.TheVariants as word
use Rattle.qp_model.specs.History.{all_items, lane_items, marks, total}
use Rattle.qp_model.specs.Home.{lane_at}
use Rattle.qp_model.specs.Lawful.{facts_of}
use Rattle.qp_model.specs.WordLaw.{is_object}
use Rattle.qp_model_order.specs.SourceRun.{untold_all}
use Rattle.qp_model_order.proofs.SourceLanes.{untold-lane}
use Rattle.qp_calls.specs.LaneView.{Counts, LaneView, Shown}
use Rattle.qp_plain_sound.specs.View.{shown_in, counts_of}
use Rattle.qp_plain_sound.specs.WordStates.{line_in}
use Rattle.qp_plain_sound.proofs.Standing.{line-in}
use Rattle.qp_port_law.specs.Sealed.{IsLaneAt, SealsLanes}
use Rattle.qp_port_law.specs.QuietLaws.{IsLastLook}
use Rattle.qp_port_law.proofs.Histories.{histories_are_seen}

firsts : Shown → ℕ
firsts (Counts f l m) = f
firsts _ = 0

lasts : Shown → ℕ
lasts (Counts f l m) = l
lasts _ = 0

takes : Shown → ℕ
takes (Counts f l m) = m
takes _ = 0

empty : {A : Type 0} (xs : List A) → length xs ≡ 0 → xs ≡ []
empty [] e = refl
empty (x ∷ xs) e = absurd (omega (arith, e))

some-at : {A : Type 0} (xs : List A) (n : ℕ) → n < length xs → (x : A) × (slice_get xs n ≡ Some x)
some-at [] n h = absurd (omega (arith, h))
some-at (x ∷ xs) zero h = (x, refl)
some-at (x ∷ xs) (suc n) h = some-at xs n (omega (arith, h))

bounded-up : (low high : ℕ) (ms : List ℕ) → low ≤ high → list_all (λ m. nat_le m low) ms ≡ true → list_all (λ m. nat_le m high) ms ≡ true
bounded-up low high [] le h = refl
bounded-up low high (m ∷ ms) le h = go (nat_le m low) refl h (bounded-up low high ms le)
  where
    go : (b : Bool) → nat_le m low ≡ b → (b && list_all (λ m. nat_le m low) ms) ≡ true → (list_all (λ m. nat_le m low) ms ≡ true → list_all (λ m. nat_le m high) ms ≡ true)
        → (nat_le m high && list_all (λ m. nat_le m high) ms) ≡ true
    go true e h later = let here : nat_le m high ≡ true = grind (arith, nat_tests, e, le) in rw (here, later h) refl
    go false e h later = absurd (cc)

module _ (sys : System) (kernel budget : ℕ) (vs : List LaneView) (j : Journal) (k a : ℕ) (v0 : LaneView) (seals : SealsLanes sys kernel budget vs j)
    (at : IsLaneAt vs k v0) (object : is_object sys a ≡ true) (look : IsLastLook vs a v0) where
  abbrev x : Word
  x = word.Queue a

  -- each lane's records have marks that lane v0 has seen
  bounded : (n : ℕ) (lane : List Rec) → slice_get j.lanes n ≡ Some lane → list_all (λ m. nat_le m (v0.mark x)) (marks x (lane_items lane)) ≡ true
  bounded n lane there =
      let count = seals.count in
      let within = slice_get_within j.lanes n lane there in
      let its = some-at vs n (omega (arith, within, count)) in
      let items : untold_all (its.0).told ≡ lane_items lane =
      ap untold_all (sym (seals.told n its.0 its.1)) ∙ untold-lane (facts_of sys j) 0 (lane_items (lane_at j n)) ∙ ap (λ o. lane_items (unwrap_or o [])) there in
      subst (λ is. list_all (λ m. nat_le m (v0.mark x)) (marks x is) ≡ true) items
      (bounded-up ((its.0).mark x) (v0.mark x) (marks x (untold_all (its.0).told)) (look.below n its.0 its.1) (seals.behind n its.0 x its.1 refl))

  -- so it has seen all operations of the word
  all-seen : v0.mark x ≡ total x (all_items j.lanes)
  all-seen =
      let most = histories_are_seen x j.lanes (v0.mark x) (seals.sound.words.queues a object).numbers bounded in
      let least = seals.known k v0 x at refl in
      omega (arith, most, least)

  pub queues_are_empty : (line_in sys j.lanes a).entries ≡ []
  unfolding shown_in firsts lasts takes
  queues_are_empty =
      let shows : Counts look.f look.l look.m ≡ counts_of (line_in sys j.lanes a) = sym look.says ∙ seals.says k v0 x at refl all-seen in
      let f_is : look.f ≡ (line_in sys j.lanes a).f = ap firsts shows in
      let l_is : look.l ≡ (line_in sys j.lanes a).l = ap lasts shows in
      let m_is : look.m ≡ (line_in sys j.lanes a).m = ap takes shows in
      let counted = (line-in sys j.lanes seals.sound.words a object).counted in
      let all = look.none in
      let none : length (line_in sys j.lanes a).entries ≡ 0 = omega (arith, f_is, l_is, m_is, counted, all) in
      empty (line_in sys j.lanes a).entries none
