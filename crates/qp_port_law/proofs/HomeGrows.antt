-- A home lane with more records.
use Rattle.std.proofs.Common.{◌≡◌, ℕ, ◌+◌, ◌<◌, ◌≤◌, ◌==◌, nat_le, Bool, true, false, not, ◌&&◌, ◌||◌, List, [], ◌∷◌, ◌++◌, length, refl, sym, ◌∙◌, ap, subst, arith, append-nil, length-append}
use Rattle.std.specs.List.{list_all, list_any}
use Rattle.std.proofs.lemmas.Bool.{and_from, and_parts, or_parts}
use Rattle.std.proofs.lemmas.Bool.Decides.{nat_tests}
use Rattle.std.proofs.lemmas.List.Folds.{list_all-append, list_any-append}
use Rattle.qp_model.specs.declared.bodies.Entry.{Entry}
use Rattle.qp_model.specs.declared.bodies.Body.TheVariants as body
use Rattle.qp_model.specs.Told.{Told, ToldItem, Event, for_object, plain, told_took}
use Rattle.qp_model.specs.Ends.{is_end}
use Rattle.qp_model.specs.End.{took_count, takes_of}
use Rattle.qp_model.specs.HomeLane.{are_at_home, all_differ}
use Rattle.qp_model.proofs.NumberLemmas.{count-append}
use Rattle.qp_model_order.specs.SourceRun.{untold_all}
use Rattle.qp_model_order.proofs.SourceLanes.{untold-append}
use Rattle.qp_model_order.proofs.StimLemmas.{any-both}
use Rattle.qp_calls.specs.Clauses.{last_nil, same_counts}
use Rattle.qp_calls.specs.LaneView.{Own, Shown, NotShown, Counts}
use Rattle.qp_kernel.specs.Turning.{seen_told}
use Rattle.qp_port_law.specs.HomeLanes.{nils_in, looks_in, is_empty_by, shows, NilsDiffer, LooksOnce, IsHomeLane}
use Rattle.qp_port_law.proofs.HomeRecords.{taken_after, at-home_then, taken-count, AreInside, of_it, inside-home, inside-takes, inside-nils, inside-looks, inside-last, nils-append, looks-append, last-append}

-- what is at most so much is at most more
below-more : (own more : Own) (xs : List (ℕ × ℕ × ℕ)) → own.l ≤ more.l → own.m ≤ more.m → list_all (is_empty_by own) xs ≡ true → list_all (is_empty_by more) xs ≡ true
below-more own more [] l m h = refl
below-more own more (x ∷ xs) l m h =
    let parts = and_parts (is_empty_by own x) (list_all (is_empty_by own) xs) h in
    let one = and_parts ((x.0 + x.1 == x.2) && nat_le x.1 own.l) (nat_le x.2 own.m) parts.0 in
    let two = and_parts (x.0 + x.1 == x.2) (nat_le x.1 own.l) one.0 in
    let low = two.1 in
    let high = one.1 in
    let first : nat_le x.1 more.l ≡ true = grind (arith, nat_tests, low, l) in
    let second : nat_le x.2 more.m ≡ true = grind (arith, nat_tests, high, m) in
    and_from _ _ (rw (two.0, first, second) refl) (below-more own more xs l m parts.1)

-- and where one shows just so much, it is no more, and empty
pub record IsJust (own more : Own) (f : ℕ) : Type 0 where
  pub l : more.l ≤ own.l
  pub m : more.m ≤ own.m
  pub empty : f + more.l ≡ more.m

shows-just : (own more : Own) (f : ℕ) (xs : List (ℕ × ℕ × ℕ)) → list_all (is_empty_by own) xs ≡ true → list_any (shows f more) xs ≡ true → IsJust own more f
shows-just own more f [] h any = absurd (cc)
shows-just own more f (x ∷ xs) h any =
    let parts = and_parts (is_empty_by own x) (list_all (is_empty_by own) xs) h in
    by (shows f more x) refl parts.0 any (shows-just own more f xs parts.1)
  where
    by : (b : Bool) → shows f more x ≡ b → is_empty_by own x ≡ true → (b || list_any (shows f more) xs) ≡ true → (list_any (shows f more) xs ≡ true → IsJust own more f) → IsJust own more f
    by false e one any later = later any
    by true e one any later =
        let a = and_parts ((x.0 == f) && (x.1 == more.l)) (x.2 == more.m) e in
        let b = and_parts (x.0 == f) (x.1 == more.l) a.0 in
        let c = and_parts ((x.0 + x.1 == x.2) && nat_le x.1 own.l) (nat_le x.2 own.m) one in
        let d = and_parts (x.0 + x.1 == x.2) (nat_le x.1 own.l) c.0 in
        let first = b.0 in
        let second = b.1 in
        let third = a.1 in
        let sum = d.0 in
        let low = d.1 in
        let high = c.1 in
        record {
          l = grind (arith, nat_tests, second, low);
          m = grind (arith, nat_tests, third, high);
          empty = grind (arith, nat_tests, first, second, third, sum);
        }

shows-same : (own more : Own) (f : ℕ) (xs : List (ℕ × ℕ × ℕ)) → own.l ≡ more.l → own.m ≡ more.m → list_any (shows f more) xs ≡ true → list_any (shows f own) xs ≡ true
shows-same own more f xs l m h = rw (l, m) h

-- records that are no `nil` come, and the lane may have posted and taken more
nils-more : (o : ℕ) (own more : Own) (told ts : List ToldItem) → own.l ≤ more.l → own.m ≤ more.m → NilsDiffer o own told → nils_in ts ≡ [] → ((x : Shown) → last_nil o x ts ≡ x) → NilsDiffer o more (told ++ ts)
nils-more o own more told ts l m old none still =
    let same : nils_in (told ++ ts) ≡ nils_in told = nils-append told ts ∙ ap (λ xs. nils_in told ++ xs) none ∙ append-nil (nils_in told) in
    record {
      differ = rw same old.differ;
      below = rw same (below-more own more (nils_in told) l m old.below);
      last = λ f any.
          let here : list_any (shows f more) (nils_in told) ≡ true = subst (λ xs. list_any (shows f more) xs ≡ true) same any in
          let just = shows-just own more f (nils_in told) old.below here in
          let low = just.l in
          let high = just.m in
          let l_is : own.l ≡ more.l = omega (arith, l, low) in
          let m_is : own.m ≡ more.m = omega (arith, m, high) in
          last-append o NotShown told ts ∙ still (last_nil o NotShown told) ∙ old.last f (shows-same own more f (nils_in told) l_is m_is here)
          ∙ ap (λ n. Counts f n own.m) l_is ∙ ap (λ n. Counts f more.l n) m_is;
    }

-- what the lane has taken before more records
pub taken-so_far : (o budget : ℕ) (own : Own) (looked : Bool) (told : List ToldItem) (es : List Entry) → IsHomeLane o budget own looked told es → taken_after 0 (untold_all told) ≡ length es
taken-so_far o budget own looked told es lane =
    let all = taken-count o budget 0 (untold_all told) lane.home in
    let took = lane.took in
    omega (arith, all, took)

-- more records at home
home-more : (o budget : ℕ) (own : Own) (looked cuts : Bool) (told ts : List ToldItem) (es : List Entry) → IsHomeLane o budget own looked told es
    → are_at_home o budget cuts (length es) (untold_all ts) ≡ true → are_at_home o budget cuts 0 (untold_all (told ++ ts)) ≡ true
home-more o budget own looked cuts told ts es lane more =
    subst (λ is. are_at_home o budget cuts 0 is ≡ true) (sym (untold-append told ts))
    (at-home_then o budget cuts 0 (untold_all told) (untold_all ts) lane.home
    (subst (λ n. are_at_home o budget cuts n (untold_all ts) ≡ true) (sym (taken-so_far o budget own looked told es lane)) more))

pub took-more : (o : ℕ) (told ts : List ToldItem) (n k : ℕ) → took_count (untold_all told) o ≡ n → took_count (untold_all ts) o ≡ k → took_count (untold_all (told ++ ts)) o ≡ n + k
unfolding took_count
took-more o told ts n k a b =
    let both = count-append (takes_of o) (untold_all told) (untold_all ts) in
    ap (λ is. took_count is o) (untold-append told ts) ∙ omega (arith, both, a, b)

pub home-at_end : (o budget : ℕ) (own : Own) (looked : Bool) (told ts : List ToldItem) (es : List Entry) → IsHomeLane o budget own looked told es
    → are_at_home o budget true (length es) (untold_all ts) ≡ true → are_at_home o budget true 0 (untold_all (told ++ ts)) ≡ true
home-at_end o budget own looked told ts es lane more = home-more o budget own looked true told ts es lane more

-- a lane that hasn't looked hasn't after records that are no look
looks-none : (looked : Bool) (own more : Own) (told ts : List ToldItem) → looked ≡ false → LooksOnce looked own (looks_in told) → looks_in ts ≡ [] → LooksOnce looked more (looks_in (told ++ ts))
looks-none true own more told ts is h none = absurd (cc)
looks-none false own more told ts is h none = looks-append told ts ∙ ap (λ xs. xs ++ looks_in ts) h ∙ none

looks-still : (looked : Bool) (own : Own) (told ts : List ToldItem) → LooksOnce looked own (looks_in told) → looks_in ts ≡ [] → LooksOnce looked own (looks_in (told ++ ts))
looks-still true own told ts h none = (h.0, looks-append told ts ∙ ap (λ xs. looks_in told ++ xs) none ∙ append-nil (looks_in told) ∙ h.1, h.2)
looks-still false own told ts h none = looks-append told ts ∙ ap (λ xs. xs ++ looks_in ts) h ∙ none

-- below the budget the lane hasn't looked
pub not-looked : (o budget : ℕ) (own : Own) (looked : Bool) (told : List ToldItem) (es : List Entry) → IsHomeLane o budget own looked told es → length es < budget → looked ≡ false
not-looked o budget own true told es lane few = let all = lane.spent refl in absurd (omega (arith, all, few))
not-looked o budget own false told es lane few = refl

-- Nothing has been recorded yet.
pub home-new : (o budget : ℕ) (own : Own) → IsHomeLane o budget own false [] []
unfolding are_at_home took_count all_differ
home-new o budget own = record {
  home = refl;
  took = refl;
  budgets = omega arith;
  calm = refl;
  nils = record { differ = refl; below = refl; last = λ f any. absurd (cc) };
  looks = refl;
  spent = λ e. absurd (cc);
}

-- Records of a start or a step come.
pub home-inside : (o budget : ℕ) (own more : Own) (told : List ToldItem) (es : List Entry) (g : List Told) → own.l ≤ more.l → own.m ≤ more.m → IsHomeLane o budget own false told es → AreInside g
    → list_any (λ i. is_end i.body) (untold_all (of_it o g)) ≡ false → IsHomeLane o budget more false (told ++ of_it o g) es
home-inside o budget own more told es g l m lane inside calm = record {
  home = home-more o budget own false false told (of_it o g) es lane (inside-home o budget false (length es) g inside);
  took = took-more o told (of_it o g) (length es) 0 lane.took (inside-takes o g inside) ∙ omega arith;
  budgets = lane.budgets;
  calm =
      subst (λ is. list_any (λ i. is_end i.body) is ≡ false) (sym (untold-append told (of_it o g)))
      (any-both (λ i. is_end i.body) (untold_all told) (untold_all (of_it o g)) lane.calm calm);
  nils = nils-more o own more told (of_it o g) l m lane.nils (inside-nils o g inside) (λ x. inside-last o x g inside);
  looks = looks-none false own more told (of_it o g) refl lane.looks (inside-looks o g inside);
  spent = lane.spent;
}

-- It takes an entry up.
pub home-took : (o budget : ℕ) (own more : Own) (looked : Bool) (told : List ToldItem) (es : List Entry) (f l m : ℕ) (e : Entry) (ev : Event) → own.l ≤ more.l → own.m ≤ more.m
    → IsHomeLane o budget own looked told es → length es < budget → IsHomeLane o budget more looked (told ++ for_object o (told_took f l m e ev) ∷ []) (es ++ e ∷ [])
unfolding are_at_home took_count last_nil
home-took o budget own more looked told es f l m e ev low high lane few =
    let self : (o == o) ≡ true = grind (arith, nat_tests) in
    let long = length-append es (e ∷ []) in
    let none = not-looked o budget own looked told es lane few in
    record {
      home = home-more o budget own looked false told (for_object o (told_took f l m e ev) ∷ []) es lane (rw self refl);
      took = took-more o told (for_object o (told_took f l m e ev) ∷ []) (length es) 1 lane.took (rw self refl) ∙ sym long;
      budgets = omega (arith, long, few);
      calm =
          subst (λ is. list_any (λ i. is_end i.body) is ≡ false) (sym (untold-append told (for_object o (told_took f l m e ev) ∷ [])))
          (any-both (λ i. is_end i.body) (untold_all told) (untold_all (for_object o (told_took f l m e ev) ∷ [])) lane.calm refl);
      nils = nils-more o own more told (for_object o (told_took f l m e ev) ∷ []) low high lane.nils refl (λ x. refl);
      looks = looks-none looked own more told (for_object o (told_took f l m e ev) ∷ []) none lane.looks refl;
      spent = λ yes. absurd (let no : false ≡ true = sym none ∙ yes in cc);
    }

-- Its queue is found empty, and the lane tells so, since its last `nil` showed another thing.
differ-one : (xs : List (ℕ × ℕ × ℕ)) (f : ℕ) (own : Own) → all_differ xs ≡ true → list_any (shows f own) xs ≡ false → all_differ (xs ++ (f, own.l, own.m) ∷ []) ≡ true
unfolding all_differ
differ-one [] f own h none = refl
differ-one (x ∷ xs) f own h none =
    let parts = and_parts (not (list_any (λ y. (x.0 == y.0) && (x.1 == y.1) && (x.2 == y.2)) xs)) (all_differ xs) h in
    let two = or_parts (shows f own x) (list_any (shows f own) xs) none in
    and_from _ _ (one parts.0 two.0) (differ-one xs f own parts.1 two.1)
  where
    none-of : (a b : Bool) → not a ≡ true → b ≡ false → not (a || (b || false)) ≡ true
    none-of true b h e = absurd (cc)
    none-of false b h e = rw e refl

    one : not (list_any (λ y. (x.0 == y.0) && (x.1 == y.1) && (x.2 == y.2)) xs) ≡ true → ((x.0 == f) && (x.1 == own.l) && (x.2 == own.m)) ≡ false
        → not (list_any (λ y. (x.0 == y.0) && (x.1 == y.1) && (x.2 == y.2)) (xs ++ (f, own.l, own.m) ∷ [])) ≡ true
    one a b =
        ap not (list_any-append (λ (y : ℕ × ℕ × ℕ). (x.0 == y.0) && (x.1 == y.1) && (x.2 == y.2)) xs ((f, own.l, own.m) ∷ []))
        ∙ none-of (list_any (λ y. (x.0 == y.0) && (x.1 == y.1) && (x.2 == y.2)) xs) ((x.0 == f) && (x.1 == own.l) && (x.2 == own.m)) a b

abbrev pub nil_told : ℕ → ℕ → ℕ → ℕ → ToldItem
nil_told o f l m = for_object o (plain (body.Nil f l m))

just-nil : (o budget : ℕ) (own : Own) (looked : Bool) (told : List ToldItem) (es : List Entry) (f : ℕ) → f + own.l ≡ own.m → same_counts (last_nil o NotShown told) f own.l own.m ≡ false
    → IsHomeLane o budget own looked told es → IsHomeLane o budget own looked (told ++ nil_told o f own.l own.m ∷ []) es
unfolding are_at_home took_count last_nil
just-nil o budget own looked told es f empty another lane = record {
  home = home-more o budget own looked false told (nil_told o f own.l own.m ∷ []) es lane (rw self refl);
  took = took-more o told (nil_told o f own.l own.m ∷ []) (length es) 0 lane.took refl ∙ omega arith;
  budgets = lane.budgets;
  calm =
      subst (λ is. list_any (λ i. is_end i.body) is ≡ false) (sym (untold-append told (nil_told o f own.l own.m ∷ [])))
      (any-both (λ i. is_end i.body) (untold_all told) (untold_all (nil_told o f own.l own.m ∷ [])) lane.calm refl);
  nils = record {
    differ = rw all (differ-one (nils_in told) f own lane.nils.differ none);
    below = rw all (list_all-append (is_empty_by own) (nils_in told) ((f, own.l, own.m) ∷ []) ∙ rw (lane.nils.below, sum, low, high) refl);
    last = λ g any.
        last-append o NotShown told (nil_told o f own.l own.m ∷ []) ∙ shown (last_nil o NotShown told)
        ∙ ap (λ k. Counts k own.l own.m) (same g (subst (λ xs. list_any (shows g own) xs ≡ true) all any));
  };
  looks = looks-still looked own told (nil_told o f own.l own.m ∷ []) lane.looks refl;
  spent = lane.spent;
}
  where
    self : (o == o) ≡ true
    self = grind (arith, nat_tests)

    sum : (f + own.l == own.m) ≡ true
    sum = grind (arith, nat_tests, empty)

    low : nat_le own.l own.l ≡ true
    low = grind (arith, nat_tests)

    high : nat_le own.m own.m ≡ true
    high = grind (arith, nat_tests)

    all : nils_in (told ++ nil_told o f own.l own.m ∷ []) ≡ nils_in told ++ (f, own.l, own.m) ∷ []
    all = nils-append told (nil_told o f own.l own.m ∷ [])

    shown : (x : Shown) → last_nil o x (nil_told o f own.l own.m ∷ []) ≡ Counts f own.l own.m
    shown x = rw self refl

    these : same_counts (Counts f own.l own.m) f own.l own.m ≡ true
    these =
        let a : (f == f) ≡ true = grind (arith, nat_tests) in
        let b : (own.l == own.l) ≡ true = grind (arith, nat_tests) in
        let c : (own.m == own.m) ≡ true = grind (arith, nat_tests) in
        rw (a, b, c) refl

    none : list_any (shows f own) (nils_in told) ≡ false
    none = by (list_any (shows f own) (nils_in told)) refl
      where
        by : (b : Bool) → list_any (shows f own) (nils_in told) ≡ b → list_any (shows f own) (nils_in told) ≡ false
        by false e = e
        by true e =
            let yes : same_counts (last_nil o NotShown told) f own.l own.m ≡ true = ap (λ x. same_counts x f own.l own.m) (lane.nils.last f e) ∙ these in
            absurd (let wrong : true ≡ false = sym yes ∙ another in cc)

    same : (g : ℕ) → list_any (shows g own) (nils_in told ++ (f, own.l, own.m) ∷ []) ≡ true → f ≡ g
    same g any = by (list_any (shows g own) (nils_in told)) refl (sym (list_any-append (shows g own) (nils_in told) ((f, own.l, own.m) ∷ [])) ∙ any)
      where
        by : (b : Bool) → list_any (shows g own) (nils_in told) ≡ b → (list_any (shows g own) (nils_in told) || (((f == g) && (own.l == own.l) && (own.m == own.m)) || false)) ≡ true → f ≡ g
        by true e any = let just = (shows-just own own g (nils_in told) lane.nils.below e).empty in omega (arith, just, empty)
        by false e any = one (f == g) refl (subst (λ b. (b || (((f == g) && (own.l == own.l) && (own.m == own.m)) || false)) ≡ true) e any)
          where
            one : (b : Bool) → (f == g) ≡ b → (((f == g) && (own.l == own.l) && (own.m == own.m)) || false) ≡ true → f ≡ g
            one true e any = grind (arith, nat_tests, e)
            one false e any = absurd (let wrong : false ≡ true = subst (λ b. ((b && (own.l == own.l) && (own.m == own.m)) || false) ≡ true) e any in cc)

pub home-nil : (o budget : ℕ) (own : Own) (looked : Bool) (told : List ToldItem) (es : List Entry) (f l m : ℕ) → l ≡ own.l → m ≡ own.m → f + l ≡ m → same_counts (last_nil o NotShown told) f l m ≡ false
    → IsHomeLane o budget own looked told es → IsHomeLane o budget own looked (told ++ nil_told o f l m ∷ []) es
home-nil o budget own looked told es f l m l_is m_is empty another lane =
    subst (λ n. IsHomeLane o budget own looked (told ++ nil_told o f n m ∷ []) es) (sym l_is)
    (subst (λ n. IsHomeLane o budget own looked (told ++ nil_told o f own.l n ∷ []) es) (sym m_is)
    (just-nil o budget own looked told es f (omega (arith, empty, l_is, m_is)) (subst (λ n. same_counts (last_nil o NotShown told) f own.l n ≡ false) m_is (subst (λ n. same_counts (last_nil o NotShown told) f n m ≡ false) l_is another)) lane))

-- At the budget its queue is looked at for the first time, and is empty.
pub home-look : (o budget : ℕ) (own : Own) (told : List ToldItem) (es : List Entry) (f l m : ℕ) → l ≡ own.l → m ≡ own.m → f + l ≡ m → length es ≡ budget
    → IsHomeLane o budget own false told es → IsHomeLane o budget own true (told ++ seen_told o f l m ∷ []) es
unfolding are_at_home took_count last_nil
home-look o budget own told es f l m l_is m_is empty spent lane =
    let self : (o == o) ≡ true = grind (arith, nat_tests) in
    let at : (length es == budget) ≡ true = grind (arith, nat_tests, spent) in
    record {
      home = home-more o budget own false false told (seen_told o f l m ∷ []) es lane (rw (self, at) refl);
      took = took-more o told (seen_told o f l m ∷ []) (length es) 0 lane.took refl ∙ omega arith;
      budgets = lane.budgets;
      calm =
          subst (λ is. list_any (λ i. is_end i.body) is ≡ false) (sym (untold-append told (seen_told o f l m ∷ [])))
          (any-both (λ i. is_end i.body) (untold_all told) (untold_all (seen_told o f l m ∷ [])) lane.calm refl);
      nils = nils-more o own own told (seen_told o f l m ∷ []) (omega arith) (omega arith) lane.nils refl (λ x. refl);
      looks = (
        f,
        looks-append told (seen_told o f l m ∷ []) ∙ ap (λ xs. xs ++ (f, l, m) ∷ []) lane.looks ∙ ap (λ n. (f, n, m) ∷ []) l_is ∙ ap (λ n. (f, own.l, n) ∷ []) m_is,
        omega (arith, empty, l_is, m_is),
      );
      spent = λ e. spent;
    }
