-- What is left of a settle reads its records one by one.
use Rattle.std.proofs.Common.{◌≡◌, ℕ, zero, suc, ◌+◌, ◌<◌, ◌==◌, nat_lt, Bool, true, false, cond, ◌&&◌, List, [], ◌∷◌, ◌++◌, Some, None, refl, sym, ◌∙◌, ap, subst, inl, inr, ◌⊎◌, arith, append_assoc}
use Rattle.std.specs.Prelude.{IsTrue}
use Rattle.std.proofs.lemmas.Bool.Decides.{nat_tests}
use Rattle.qp_model.specs.declared.systems.System.{System}
use Rattle.qp_model.specs.declared.bodies.Body.{Body}
use Rattle.qp_model.specs.declared.bodies.Body.TheVariants as body
use Rattle.qp_model.specs.Told.{Told, Known, Nothing, plain}
use Rattle.qp_model.specs.Kernels.{may_try}
use Rattle.qp_model.specs.Sources.{SeesEmpty, SeesEntry, Tries, Settles, priorities}
use Rattle.qp_model.proofs.LineLemmas.{same_number}
use Rattle.qp_check_ends.specs.SettleState.{SettleState, Before, Seeing, before_next, behind_seen, settle_seen_next, settle_next}
use Rattle.qp_model.proofs.RecordLemmas.{told-is}
use Rattle.qp_check_ends.proofs.RecordLemmas.{first-is}

-- the queues that are left are seen empty, or a try ends and others follow
pub data SeesOn (sys : System) (kernel : ℕ) (os : List ℕ) (g : List Told) : Type 0 where
  AllEmpty : SeesEmpty os g → SeesOn sys kernel os g
  InVain : (one rest : List Told) → g ≡ one ++ rest → may_try kernel ≡ true → SeesEntry os one → Settles sys kernel rest → SeesOn sys kernel os g

-- the records of what is left of a settle
unfoldable pub SettleFits : System → ℕ → SettleState → List Told → Type 0
SettleFits sys kernel (Before tried) g = Settles sys kernel g
SettleFits sys kernel (Seeing os) g = SeesOn sys kernel os g

before-whole : (sys : System) (kernel : ℕ) (t : Told) (g : List Told) → Settles sys kernel (t ∷ g) → (t ≡ plain body.Settle) × SeesOn sys kernel (priorities sys) g
unfolding Settles Tries
before-whole sys kernel t g h = by h.0 h.1 h.3 h.4 h.5
  where
    by : (n : ℕ) (tries : List Told) → t ∷ g ≡ tries ++ (plain body.Settle ∷ h.2) → Tries (priorities sys) n tries → IsTrue (may_try kernel) ⊎ (n ≡ 0)
        → (t ≡ plain body.Settle) × SeesOn sys kernel (priorities sys) g
    by zero tries e none may =
        let whole : t ∷ g ≡ plain body.Settle ∷ h.2 = e ∙ ap (λ us. us ++ (plain body.Settle ∷ h.2)) none in
        let behind : h.2 ≡ g = cc in
        (cc, AllEmpty (subst (SeesEmpty (priorities sys)) behind h.6))
    by (suc n) tries e some (inr none) = absurd (cc)
    by (suc n) tries e some (inl may) =
        let whole : t ∷ g ≡ plain body.Settle ∷ ((some.0 ++ some.1) ++ (plain body.Settle ∷ h.2)) = e ∙ ap (λ us. us ++ (plain body.Settle ∷ h.2)) some.2 in
        let behind : g ≡ (some.0 ++ some.1) ++ (plain body.Settle ∷ h.2) = cc in (
          cc,
          InVain some.0 (some.1 ++ (plain body.Settle ∷ h.2)) (behind ∙ append_assoc some.0 some.1 (plain body.Settle ∷ h.2)) may some.3
              (n, some.1, h.2, refl, some.4, inl may, h.6),
        )

pub before-sound : (sys : System) (kernel : ℕ) (g : List Told) → SeesOn sys kernel (priorities sys) g → Settles sys kernel (plain body.Settle ∷ g)
unfolding Settles Tries
before-sound sys kernel g (AllEmpty h) = (0, [], g, refl, refl, inr refl, h)
before-sound sys kernel g (InVain one rest e may some h) =
    let tries : List Told = plain body.Settle ∷ (one ++ h.1) in
    let joined : (one ++ h.1) ++ (plain body.Settle ∷ h.2) ≡ one ++ (h.1 ++ (plain body.Settle ∷ h.2)) = append_assoc one h.1 (plain body.Settle ∷ h.2) in
    let behind : one ++ rest ≡ one ++ (h.1 ++ (plain body.Settle ∷ h.2)) = ap (λ us. one ++ us) h.3 in
    (suc h.0, tries, h.2, ap (λ us. plain body.Settle ∷ us) (e ∙ behind ∙ sym joined), (one, h.1, refl, some, h.4), inl may, h.6)

-- behind a queue that was empty, and behind one with an entry
pub empty-behind : (kernel : ℕ) (os : List ℕ) (posted taken : ℕ) → posted ≡ taken → behind_seen kernel os posted taken ≡ Some (Seeing os)
empty-behind kernel os posted taken e = let same : (posted == taken) ≡ true = grind (arith, nat_tests) in rw same refl

pub entry-behind : (kernel : ℕ) (os : List ℕ) (posted taken : ℕ) → taken < posted → may_try kernel ≡ true → behind_seen kernel os posted taken ≡ Some (Before true)
entry-behind kernel os posted taken h may =
    let other : (posted == taken) ≡ false = grind (arith, nat_tests) in
    let above : nat_lt taken posted ≡ true = grind (arith, nat_tests) in
    rw (other, above, may) refl

seen-shut : (b : Body) (known : Known) (kernel o : ℕ) (os : List ℕ) (f l m : ℕ) → b ≡ body.Seen o f l m → known ≡ Nothing → settle_seen_next kernel o os b known ≡ behind_seen kernel os (f + l) m
seen-shut b known kernel o os f l m is_body is_known = rw (is_body, is_known, same_number o) refl

pub seen-is : (t : Told) (kernel o : ℕ) (os : List ℕ) (f l m : ℕ) → t ≡ plain (body.Seen o f l m) → settle_seen_next kernel o os t.body t.known ≡ behind_seen kernel os (f + l) m
seen-is t kernel o os f l m e = seen-shut t.body t.known kernel o os f l m (ap (λ (t : Told). t.body) e) (ap (λ (t : Told). t.known) e)

-- what is left of a settle reads one record
abbrev pub Goes : System → ℕ → SettleState → Told → List Told → Type 0
Goes sys kernel s t g = (s' : SettleState) × (settle_next sys kernel s t ≡ Some s') × SettleFits sys kernel s' g

settle-whole-seen : (sys : System) (kernel o : ℕ) (os : List ℕ) (t : Told) (g : List Told) → SeesOn sys kernel (o ∷ os) (t ∷ g) → Goes sys kernel (Seeing (o ∷ os)) t g
unfolding settle_next SettleFits SeesEmpty SeesEntry
settle-whole-seen sys kernel o os t g (AllEmpty h) =
    let is : t ≡ plain (body.Seen o h.0 h.1 h.2) = (first-is _ _ _ _ h.4).0 in
    let behind : h.3 ≡ g = sym (first-is _ _ _ _ h.4).1 in
    (Seeing os, seen-is t kernel o os h.0 h.1 h.2 is ∙ empty-behind kernel os (h.0 + h.1) h.2 h.5, AllEmpty (subst (SeesEmpty os) behind h.6))
settle-whole-seen sys kernel o os t g (InVain one rest e may some h) =
    by some.5
  where
    whole : t ∷ g ≡ plain (body.Seen o some.0 some.1 some.2) ∷ (some.3 ++ rest)
    whole = e ∙ ap (λ us. us ++ rest) some.4

    is : settle_seen_next kernel o os t.body t.known ≡ behind_seen kernel os (some.0 + some.1) some.2
    is = seen-is t kernel o os some.0 some.1 some.2 (first-is _ _ _ _ whole).0

    behind : g ≡ some.3 ++ rest
    behind = (first-is _ _ _ _ whole).1

    by : ((some.0 + some.1 ≡ some.2) × SeesEntry os some.3) ⊎ ((some.2 < some.0 + some.1) × (some.3 ≡ [])) → Goes sys kernel (Seeing (o ∷ os)) t g
    by (inl k) = (Seeing os, is ∙ empty-behind kernel os (some.0 + some.1) some.2 k.0, InVain some.3 rest behind may k.1 h)
    by (inr k) =
        let last : rest ≡ g = sym (behind ∙ ap (λ us. us ++ rest) k.1) in
        (Before true, is ∙ entry-behind kernel os (some.0 + some.1) some.2 k.0 may, subst (Settles sys kernel) last h)

pub settle-whole : (sys : System) (kernel : ℕ) (s : SettleState) (t : Told) (g : List Told) → SettleFits sys kernel s (t ∷ g) → Goes sys kernel s t g
unfolding settle_next SettleFits SeesEmpty SeesEntry
settle-whole sys kernel (Before tried) t g h =
    let read = before-whole sys kernel t g h in
    let next : before_next (priorities sys) t.body t.known ≡ Some (Seeing (priorities sys)) = ap (λ (t : Told). before_next (priorities sys) t.body t.known) read.0 in
    (Seeing (priorities sys), next, read.1)
settle-whole sys kernel (Seeing []) t g (AllEmpty h) = absurd (cc)
settle-whole sys kernel (Seeing []) t g (InVain one rest e may some h) = absurd some
settle-whole sys kernel (Seeing (o ∷ os)) t g h = settle-whole-seen sys kernel o os t g h

-- and only such
pub before-back : (objects : List ℕ) (t : Told) (s' : SettleState) → before_next objects t.body t.known ≡ Some s' → (t ≡ plain body.Settle) × (s' ≡ Seeing objects)
before-back objects t s' h = by t.body t.known refl refl h
  where
    by : (b : Body) (known : Known) → t.body ≡ b → t.known ≡ known → before_next objects b known ≡ Some s' → (t ≡ plain body.Settle) × (s' ≡ Seeing objects)
    by body.Settle Nothing is_body is_known k = (told-is t _ _ is_body is_known, cc)
    by b known is_body is_known k = absurd (cc)

-- what a queue that was seen leads to
pub data Saw (kernel : ℕ) (os : List ℕ) (posted taken : ℕ) (s' : SettleState) : Type 0 where
  SawNone : posted ≡ taken → s' ≡ Seeing os → Saw kernel os posted taken s'
  SawSome : taken < posted → may_try kernel ≡ true → s' ≡ Before true → Saw kernel os posted taken s'

saw : (kernel : ℕ) (os : List ℕ) (posted taken : ℕ) (s' : SettleState) → behind_seen kernel os posted taken ≡ Some s' → Saw kernel os posted taken s'
saw kernel os posted taken s' h = by (posted == taken) (nat_lt taken posted) (may_try kernel) refl refl refl h
  where
    by : (same above may : Bool) → (posted == taken) ≡ same → nat_lt taken posted ≡ above → may_try kernel ≡ may
        → cond same (Some (Seeing os)) (cond (above && may) (Some (Before true)) None) ≡ Some s' → Saw kernel os posted taken s'
    by true above may e a m k = let same : posted ≡ taken = grind (arith, nat_tests) in SawNone same (cc)
    by false true true e a m k = let above : taken < posted = grind (arith, nat_tests) in SawSome above m (cc)
    by false true false e a m k = absurd (cc)
    by false false may e a m k = absurd (cc)

-- a queue that was seen
pub data SawAt (kernel o : ℕ) (os : List ℕ) (t : Told) (s' : SettleState) : Type 0 where
  At : (f l m : ℕ) → t ≡ plain (body.Seen o f l m) → Saw kernel os (f + l) m s' → SawAt kernel o os t s'

pub saw-at : (kernel o : ℕ) (os : List ℕ) (t : Told) (s' : SettleState) → settle_seen_next kernel o os t.body t.known ≡ Some s' → SawAt kernel o os t s'
saw-at kernel o os t s' h = by t.body t.known refl refl h
  where
    by : (b : Body) (known : Known) → t.body ≡ b → t.known ≡ known → settle_seen_next kernel o os b known ≡ Some s' → SawAt kernel o os t s'
    by (body.Seen p f l m) Nothing is_body is_known k = go (p == o) refl k
      where
        go : (same : Bool) → (p == o) ≡ same → cond same (behind_seen kernel os (f + l) m) None ≡ Some s' → SawAt kernel o os t s'
        go true e k =
            let same : p ≡ o = grind (arith, nat_tests) in
            At f l m (told-is t _ _ is_body is_known ∙ ap (λ p. plain (body.Seen p f l m)) same) (saw kernel os (f + l) m s' k)
        go false e k = absurd (cc)
    by b known is_body is_known k = absurd (cc)

settle-sound-seen : (sys : System) (kernel o : ℕ) (os : List ℕ) (t : Told) (g : List Told) (s' : SettleState)
    → SawAt kernel o os t s' → SettleFits sys kernel s' g → SeesOn sys kernel (o ∷ os) (t ∷ g)
unfolding SettleFits SeesEmpty SeesEntry
settle-sound-seen sys kernel o os t g s' (At f l m is (SawNone e next)) h = by (subst (λ s. SettleFits sys kernel s g) next h)
  where
    by : SeesOn sys kernel os g → SeesOn sys kernel (o ∷ os) (t ∷ g)
    by (AllEmpty k) = AllEmpty (f, l, m, g, ap (λ t. t ∷ g) is, e, k)
    by (InVain one rest split may some k) =
        InVain (t ∷ one) rest (ap (λ us. t ∷ us) split) may (f, l, m, one, ap (λ t. t ∷ one) is, inl (e, some)) k
settle-sound-seen sys kernel o os t g s' (At f l m is (SawSome above may next)) h =
    InVain (t ∷ []) g refl may (f, l, m, [], ap (λ t. t ∷ []) is, inr (above, refl)) (subst (λ s. SettleFits sys kernel s g) next h)

pub settle-sound : (sys : System) (kernel : ℕ) (s : SettleState) (t : Told) (g : List Told) (s' : SettleState)
    → settle_next sys kernel s t ≡ Some s' → SettleFits sys kernel s' g → SettleFits sys kernel s (t ∷ g)
unfolding settle_next SettleFits
settle-sound sys kernel (Before tried) t g s' h k =
    let read = before-back (priorities sys) t s' h in
    let behind : SeesOn sys kernel (priorities sys) g = subst (λ s. SettleFits sys kernel s g) read.1 k in
    subst (λ t. Settles sys kernel (t ∷ g)) (sym read.0) (before-sound sys kernel g behind)
settle-sound sys kernel (Seeing []) t g s' h k = absurd (cc)
settle-sound sys kernel (Seeing (o ∷ os)) t g s' h k = settle-sound-seen sys kernel o os t g s' (saw-at kernel o os t s' h) k
