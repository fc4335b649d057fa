-- One record more of lane 0: what it is to the lane, to its object, and to the words.
use Rattle.std.proofs.Common.{◌≡◌, ◌∙◌, ℕ, ◌+◌, ◌==◌, nat_lt, Bool, true, false, not, ◌&&◌, cond, List, [], ◌∷◌, refl, sym, ap, subst, inl, inr, ◌⊎◌}
use Rattle.qp_model.specs.declared.bodies.Entry.{Entry}
use Rattle.qp_model.specs.declared.bodies.Body.TheVariants as body
use Rattle.qp_model.specs.Record.{Item}
use Rattle.qp_model.specs.Kernels.{qk, qv}
use Rattle.qp_model.specs.KernelLane.{Drops, role_of, Setting, floor_in, Upcoming, Inside, Looking, Chosen, Ended, Resting, Again, Over, Halted, Reading, base_ended, found_none, looking_at}
use Rattle.qp_check_course.specs.Machine.{state_after}
use Rattle.qp_model_order.specs.Placing.{look_item}
use Rattle.qp_unique.proofs.KernelLemmas.{Slot, Starts, Runs, Releases, IsLook, IsSeen, IsTook, IsSpent, IsRest, IsDone, GoesOn, IsOwned, MayLook}

-- the count of looks stays
kept-base : (s : Setting) (k : Reading) → (base_ended s k).looks ≡ k.looks
kept-base s k = by (not (s.kernel == qk) && s.has_stimulus k.looks)
  where
    by : (b : Bool) → (cond b (record k { place = Again }) (record k { place = Over; idle = cond k.stepped k.idle (k.idle + 1); stepped = false })).looks ≡ k.looks
    by true = refl
    by false = refl

kept : (s : Setting) (k : Reading) (ps : List ℕ) → (looking_at s k ps).looks ≡ k.looks
kept s k (q ∷ others) = refl
kept s k [] = by k.running
  where
    rests : (b : Bool) → (cond b (record k { place = Resting }) (base_ended s k)).looks ≡ k.looks
    rests true = refl
    rests false = kept-base s k

    by : (os : List ℕ) → (found_none s k os).looks ≡ k.looks
    by [] = rests (s.kernel == qv)
    by (o ∷ outer) = refl

-- what may come where the lane has been read so far, by the place
module _ (s : Setting) (k next : Reading) (i : Item) where
  abbrev pub LookHere : Type 0
  LookHere = i ≡ look_item (k.looks + 1) (floor_in s.sys s.kernel k.running k.ceiling)

  abbrev pub OwnOf : ℕ → Type 0
  OwnOf p = (i.of ≡ p) × IsOwned (role_of i.body)

  pub starts-only : (p : ℕ) (others : List ℕ) → k.unstarted ≡ p ∷ others → Slot s k next i → OwnOf p
  starts-only p others us (Starts q more vs of own state_after place left looks) = let same : q ∷ more ≡ p ∷ others = sym vs ∙ us in let e : q ≡ p = cc in (of ∙ e, own)
  starts-only p others us (Runs q outer none at state_after of own went) = absurd (let no : [] ≡ p ∷ others = sym none ∙ us in cc)
  starts-only p others us (Releases q none at of role is) = absurd (let no : [] ≡ p ∷ others = sym none ∙ us in cc)
  starts-only p others us (IsLook none may at is) = absurd (let no : [] ≡ p ∷ others = sym none ∙ us in cc)
  starts-only p others us (IsSeen q more f l m none at item is) = absurd (let no : [] ≡ p ∷ others = sym none ∙ us in cc)
  starts-only p others us (IsTook q f l m e none at item is) = absurd (let no : [] ≡ p ∷ others = sym none ∙ us in cc)
  starts-only p others us (IsSpent q none at item is) = absurd (let no : [] ≡ p ∷ others = sym none ∙ us in cc)
  starts-only p others us (IsRest none at item is) = absurd (let no : [] ≡ p ∷ others = sym none ∙ us in cc)

  module _ (started : k.unstarted ≡ []) where
    pub runs-only : (p : ℕ) (outer : List ℕ) → k.place ≡ Inside → k.running ≡ p ∷ outer → Slot s k next i → OwnOf p ⊎ LookHere
    runs-only p outer at state_after (Starts q more vs of own r place left looks) = absurd (let no : [] ≡ q ∷ more = sym started ∙ vs in cc)
    runs-only p outer at state_after (Runs q others none place r of own went) = let same : q ∷ others ≡ p ∷ outer = sym r ∙ state_after in let e : q ≡ p = cc in inl (of ∙ e, own)
    runs-only p outer at state_after (Releases q none place of role is) = absurd (let no : Inside ≡ Ended q = sym at ∙ place in cc)
    runs-only p outer at state_after (IsLook none may item is) = inr item
    runs-only p outer at state_after (IsSeen q others f l m none place item is) = absurd (let no : Inside ≡ Looking q others = sym at ∙ place in cc)
    runs-only p outer at state_after (IsTook q f l m e none place item is) = absurd (let no : Inside ≡ Chosen q = sym at ∙ place in cc)
    runs-only p outer at state_after (IsSpent q none place item is) = absurd (let no : Inside ≡ Chosen q = sym at ∙ place in cc)
    runs-only p outer at state_after (IsRest none place item is) = absurd (let no : Inside ≡ Resting = sym at ∙ place in cc)

    pub ended-only : (p : ℕ) → k.place ≡ Ended p → Slot s k next i → ((i.of ≡ p) × (role_of i.body ≡ Drops)) ⊎ LookHere
    ended-only p at (Starts q more vs of own r place left looks) = absurd (let no : [] ≡ q ∷ more = sym started ∙ vs in cc)
    ended-only p at (Runs q others none place r of own went) = absurd (let no : Inside ≡ Ended p = sym place ∙ at in cc)
    ended-only p at (Releases q none place of role is) = let same : Ended q ≡ Ended p = sym place ∙ at in let e : q ≡ p = cc in inl (of ∙ e, role)
    ended-only p at (IsLook none may item is) = inr item
    ended-only p at (IsSeen q others f l m none place item is) = absurd (let no : Ended p ≡ Looking q others = sym at ∙ place in cc)
    ended-only p at (IsTook q f l m e none place item is) = absurd (let no : Ended p ≡ Chosen q = sym at ∙ place in cc)
    ended-only p at (IsSpent q none place item is) = absurd (let no : Ended p ≡ Chosen q = sym at ∙ place in cc)
    ended-only p at (IsRest none place item is) = absurd (let no : Ended p ≡ Resting = sym at ∙ place in cc)

    -- where no step is under way in which a record may come
    pub look-only : (k.place ≡ Again) ⊎ ((k.place ≡ Inside) × (k.running ≡ [])) → Slot s k next i → LookHere
    look-only (inl at) (Starts q more vs of own r place left looks) = absurd (let no : [] ≡ q ∷ more = sym started ∙ vs in cc)
    look-only (inl at) (Runs q others none place r of own went) = absurd (let no : Inside ≡ Again = sym place ∙ at in cc)
    look-only (inl at) (Releases q none place of role is) = absurd (let no : Ended q ≡ Again = sym place ∙ at in cc)
    look-only (inl at) (IsLook none may item is) = item
    look-only (inl at) (IsSeen q others f l m none place item is) = absurd (let no : Again ≡ Looking q others = sym at ∙ place in cc)
    look-only (inl at) (IsTook q f l m e none place item is) = absurd (let no : Again ≡ Chosen q = sym at ∙ place in cc)
    look-only (inl at) (IsSpent q none place item is) = absurd (let no : Again ≡ Chosen q = sym at ∙ place in cc)
    look-only (inl at) (IsRest none place item is) = absurd (let no : Again ≡ Resting = sym at ∙ place in cc)
    look-only (inr (at, state_after)) (Starts q more vs of own r place left looks) = absurd (let no : [] ≡ q ∷ more = sym started ∙ vs in cc)
    look-only (inr (at, state_after)) (Runs q others none place r of own went) = absurd (let no : q ∷ others ≡ [] = sym r ∙ state_after in cc)
    look-only (inr (at, state_after)) (Releases q none place of role is) = absurd (let no : Ended q ≡ Inside = sym place ∙ at in cc)
    look-only (inr (at, state_after)) (IsLook none may item is) = item
    look-only (inr (at, state_after)) (IsSeen q others f l m none place item is) = absurd (let no : Inside ≡ Looking q others = sym at ∙ place in cc)
    look-only (inr (at, state_after)) (IsTook q f l m e none place item is) = absurd (let no : Inside ≡ Chosen q = sym at ∙ place in cc)
    look-only (inr (at, state_after)) (IsSpent q none place item is) = absurd (let no : Inside ≡ Chosen q = sym at ∙ place in cc)
    look-only (inr (at, state_after)) (IsRest none place item is) = absurd (let no : Inside ≡ Resting = sym at ∙ place in cc)

    pub seen-only : (p : ℕ) (others : List ℕ) → k.place ≡ Looking p others → Slot s k next i → (f l m : ℕ) × (i ≡ record { of = 0; body = body.Seen p f l m })
    seen-only p others at (Starts q more vs of own r place left looks) = absurd (let no : [] ≡ q ∷ more = sym started ∙ vs in cc)
    seen-only p others at (Runs q outer none place r of own went) = absurd (let no : Inside ≡ Looking p others = sym place ∙ at in cc)
    seen-only p others at (Releases q none place of role is) = absurd (let no : Ended q ≡ Looking p others = sym place ∙ at in cc)
    seen-only p others at (IsLook none may item is) = absurd (subst MayLook at may)
    seen-only p others at (IsSeen q more f l m none place item is) =
        let same : Looking q more ≡ Looking p others = sym place ∙ at in
        let e : q ≡ p = cc in
        (f, l, m, item ∙ ap (λ x. record { of = 0; body = body.Seen x f l m }) e)
    seen-only p others at (IsTook q f l m e none place item is) = absurd (let no : Looking p others ≡ Chosen q = sym at ∙ place in cc)
    seen-only p others at (IsSpent q none place item is) = absurd (let no : Looking p others ≡ Chosen q = sym at ∙ place in cc)
    seen-only p others at (IsRest none place item is) = absurd (let no : Looking p others ≡ Resting = sym at ∙ place in cc)

    pub chosen-only : (p : ℕ) → k.place ≡ Chosen p → Slot s k next i
        → ((f l m : ℕ) × (e : Entry) × (i ≡ record { of = p; body = body.Took f l m e })) ⊎ (i ≡ record { of = p; body = body.Spent })
    chosen-only p at (Starts q more vs of own r place left looks) = absurd (let no : [] ≡ q ∷ more = sym started ∙ vs in cc)
    chosen-only p at (Runs q outer none place r of own went) = absurd (let no : Inside ≡ Chosen p = sym place ∙ at in cc)
    chosen-only p at (Releases q none place of role is) = absurd (let no : Ended q ≡ Chosen p = sym place ∙ at in cc)
    chosen-only p at (IsLook none may item is) = absurd (subst MayLook at may)
    chosen-only p at (IsSeen q others f l m none place item is) = absurd (let no : Chosen p ≡ Looking q others = sym at ∙ place in cc)
    chosen-only p at (IsTook q f l m e none place item is) =
        let same : Chosen q ≡ Chosen p = sym place ∙ at in
        let e1 : q ≡ p = cc in
        inl (f, l, m, e, item ∙ ap (λ x. record { of = x; body = body.Took f l m e }) e1)
    chosen-only p at (IsSpent q none place item is) =
        let same : Chosen q ≡ Chosen p = sym place ∙ at in
        let e1 : q ≡ p = cc in
        inr (item ∙ ap (λ x. record { of = x; body = body.Spent }) e1)
    chosen-only p at (IsRest none place item is) = absurd (let no : Chosen p ≡ Resting = sym at ∙ place in cc)

    pub rest-only : k.place ≡ Resting → Slot s k next i → i ≡ record { of = 0; body = body.Rest k.looks }
    rest-only at (Starts q more vs of own r place left looks) = absurd (let no : [] ≡ q ∷ more = sym started ∙ vs in cc)
    rest-only at (Runs q outer none place r of own went) = absurd (let no : Inside ≡ Resting = sym place ∙ at in cc)
    rest-only at (Releases q none place of role is) = absurd (let no : Ended q ≡ Resting = sym place ∙ at in cc)
    rest-only at (IsLook none may item is) = absurd (subst MayLook at may)
    rest-only at (IsSeen q others f l m none place item is) = absurd (let no : Resting ≡ Looking q others = sym at ∙ place in cc)
    rest-only at (IsTook q f l m e none place item is) = absurd (let no : Resting ≡ Chosen q = sym at ∙ place in cc)
    rest-only at (IsSpent q none place item is) = absurd (let no : Resting ≡ Chosen q = sym at ∙ place in cc)
    rest-only at (IsRest none place item is) = item

    apart : {q : Upcoming} → (k.place ≡ Over) ⊎ (k.place ≡ Halted) → k.place ≡ q → (Over ≡ q → ⊥) → (Halted ≡ q → ⊥) → ⊥
    apart (inl e) at one two = one (sym e ∙ at)
    apart (inr e) at one two = two (sym e ∙ at)

    pub over-none : (k.place ≡ Over) ⊎ (k.place ≡ Halted) → Slot s k next i → ⊥
    over-none at (Starts q more vs of own r place left looks) = let no : [] ≡ q ∷ more = sym started ∙ vs in cc
    over-none at (Runs q outer none place r of own went) = apart at place (λ e. cc) (λ e. cc)
    over-none at (Releases q none place of role is) = apart at place (λ e. cc) (λ e. cc)
    over-none (inl at) (IsLook none may item is) = subst MayLook at may
    over-none (inr at) (IsLook none may item is) = subst MayLook at may
    over-none at (IsSeen q others f l m none place item is) = apart at place (λ e. cc) (λ e. cc)
    over-none at (IsTook q f l m e none place item is) = apart at place (λ e. cc) (λ e. cc)
    over-none at (IsSpent q none place item is) = apart at place (λ e. cc) (λ e. cc)
    over-none at (IsRest none place item is) = apart at place (λ e. cc) (λ e. cc)

  -- a look alone raises the count of looks
  pub slot-looks : Slot s k next i → (next.looks ≡ k.looks) ⊎ (LookHere × (next.looks ≡ k.looks + 1))
  slot-looks (Starts q more vs of own r place left looks) = inl looks
  slot-looks (Runs q outer none place r of own (IsDone ends is)) = inl (ap (λ (x : Reading). x.looks) is)
  slot-looks (Runs q outer none place r of own (GoesOn us rs pl looks)) = inl looks
  slot-looks (Releases q none place of role is) = inl (ap (λ (x : Reading). x.looks) (sym is))
  slot-looks (IsLook none may item is) = inr (item, ap (λ (x : Reading). x.looks) (sym is) ∙ kept s (record k { looks = k.looks + 1 }) _)
  slot-looks (IsSeen q others f l m none place item is) = inl (ap (λ (x : Reading). x.looks) (sym is) ∙ by (nat_lt m (f + l)))
    where
      by : (b : Bool) → (cond b (record k { place = Chosen q }) (looking_at s k others)).looks ≡ k.looks
      by true = refl
      by false = kept s k others
  slot-looks (IsTook q f l m e none place item is) = inl (ap (λ (x : Reading). x.looks) (sym is))
  slot-looks (IsSpent q none place item is) = inl (ap (λ (x : Reading). x.looks) (sym is))
  slot-looks (IsRest none place item is) = inl (ap (λ (x : Reading). x.looks) (sym is) ∙ kept-base s k)
