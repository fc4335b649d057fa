-- How a settle may end: done, behind a try, or with more to follow.
use Rattle.std.proofs.Common.{◌≡◌, ◌≢◌, ℕ, zero, suc, ◌+◌, ◌<◌, Bool, true, false, List, [], ◌∷◌, ◌++◌, Some, refl, sym, ◌∙◌, ap, subst, inl, inr, ◌⊎◌}
use Rattle.std.specs.Prelude.{IsTrue}
use Rattle.qp_model.specs.declared.systems.System.{System}
use Rattle.qp_model.specs.declared.bodies.Body.TheVariants as body
use Rattle.qp_model.specs.Told.{Told, plain}
use Rattle.qp_model.specs.Kernels.{may_try}
use Rattle.qp_model.specs.Sources.{SeesEmpty, SeesEntry, Tries, Settles, priorities}
use Rattle.qp_model.proofs.ListLemmas.{nil-front}
use Rattle.qp_check_calls.specs.Decides.{Decides}
use Rattle.qp_check_ends.specs.SettleState.{SettleState, Before, Seeing, before_next, settle_next, settle_done, settle_tried, settle_open}
use Rattle.qp_check_ends.proofs.RecordLemmas.{first-is, none-first, decides}
use Rattle.qp_check_ends.proofs.SettleLemmas.{SeesOn, AllEmpty, InVain, SettleFits, SawNone, SawSome, SawAt, At, saw-at, before-back, empty-behind, entry-behind, seen-is, before-sound}

-- nothing follows exactly where it is done
empty-never : (o : ℕ) (os : List ℕ) → SeesEmpty (o ∷ os) [] → ⊥
unfolding SeesEmpty
empty-never o os h = none-first _ _ (sym h.4)

entry-never : (os : List ℕ) → SeesEntry os [] → ⊥
unfolding SeesEntry
entry-never [] h = h
entry-never (o ∷ os) h = none-first _ _ (sym h.4)

entry-joined : (os : List ℕ) (one rest : List Told) → [] ≡ one ++ rest → SeesEntry os one → ⊥
entry-joined os one rest e h = entry-never os (subst (SeesEntry os) (nil-front one rest (sym e)) h)

settles-never : (sys : System) (kernel : ℕ) → Settles sys kernel [] → ⊥
unfolding Settles
settles-never sys kernel h =
    let none : h.1 ≡ [] = nil-front h.1 _ (sym h.3) in
    none-first _ _ (sym (h.3 ∙ ap (λ us. us ++ (plain body.Settle ∷ h.2)) none))

pub settle-end : (sys : System) (kernel : ℕ) (s : SettleState) → Decides (settle_done s) (SettleFits sys kernel s [])
unfolding Decides SettleFits SeesEmpty
settle-end sys kernel (Before tried) = settles-never sys kernel
settle-end sys kernel (Seeing []) = AllEmpty refl
settle-end sys kernel (Seeing (o ∷ os)) = by
  where
    by : SeesOn sys kernel (o ∷ os) [] → ⊥
    by (AllEmpty h) = empty-never o os h
    by (InVain one rest e may some h) = entry-joined (o ∷ os) one rest e some

-- more follows
all_seen : List ℕ → List Told
all_seen [] = []
all_seen (o ∷ os) = plain (body.Seen o 0 0 0) ∷ all_seen os

all-empty : (os : List ℕ) → SeesEmpty os (all_seen os)
unfolding SeesEmpty all_seen
all-empty [] = refl
all-empty (o ∷ os) = (0, 0, 0, all_seen os, refl, refl, all-empty os)

-- some records other than none are left
abbrev pub SettlesOn : System → ℕ → SettleState → Type 0
SettlesOn sys kernel s = (back : List Told) × (back ≢ []) × SettleFits sys kernel s back

pub settle-open : (sys : System) (kernel : ℕ) (s : SettleState) → Decides (settle_open s) (SettlesOn sys kernel s)
unfolding Decides SettleFits SeesEmpty SeesEntry all_seen
settle-open sys kernel (Before tried) =
    (plain body.Settle ∷ all_seen (priorities sys), none-first _ _, before-sound sys kernel (all_seen (priorities sys)) (AllEmpty (all-empty (priorities sys))))
settle-open sys kernel (Seeing []) = λ h. by h.0 h.1 h.2
  where
    by : (back : List Told) → back ≢ [] → SeesOn sys kernel [] back → ⊥
    by back some (AllEmpty none) = some none
    by back some (InVain one rest e may none h) = none
settle-open sys kernel (Seeing (o ∷ os)) = (all_seen (o ∷ os), none-first _ _, AllEmpty (all-empty (o ∷ os)))

-- what is left is tries, at least one where none was made
unfoldable pub TriedFits : System → ℕ → SettleState → List Told → Type 0
TriedFits sys kernel (Before false) g = (n : ℕ) × Tries (priorities sys) (suc n) g × IsTrue (may_try kernel)
TriedFits sys kernel (Before true) g = (n : ℕ) × Tries (priorities sys) n g × IsTrue (may_try kernel)
TriedFits sys kernel (Seeing os) g =
    (n : ℕ) × (one rest : List Told) × (g ≡ one ++ rest) × SeesEntry os one × Tries (priorities sys) n rest × IsTrue (may_try kernel)

abbrev pub GoesTried : System → ℕ → SettleState → Told → List Told → Type 0
GoesTried sys kernel s t g = (s' : SettleState) × (settle_next sys kernel s t ≡ Some s') × TriedFits sys kernel s' g

tries-whole : (sys : System) (kernel : ℕ) (tried : Bool) (n : ℕ) (t : Told) (g : List Told) → Tries (priorities sys) (suc n) (t ∷ g) → IsTrue (may_try kernel) → GoesTried sys kernel (Before tried) t g
unfolding settle_next TriedFits Tries
tries-whole sys kernel tried n t g h may =
    let is = first-is _ _ _ _ h.2 in
    let next : before_next (priorities sys) t.body t.known ≡ Some (Seeing (priorities sys)) = ap (λ (t : Told). before_next (priorities sys) t.body t.known) is.0 in
    (Seeing (priorities sys), next, (n, h.0, h.1, is.1, h.3, h.4, may))

tried-whole-seen : (sys : System) (kernel o : ℕ) (os : List ℕ) (t : Told) (g : List Told) → TriedFits sys kernel (Seeing (o ∷ os)) (t ∷ g) → GoesTried sys kernel (Seeing (o ∷ os)) t g
unfolding settle_next TriedFits SeesEntry
tried-whole-seen sys kernel o os t g h = by h.4.5
  where
    whole : t ∷ g ≡ plain (body.Seen o h.4.0 h.4.1 h.4.2) ∷ (h.4.3 ++ h.2)
    whole = h.3 ∙ ap (λ us. us ++ h.2) h.4.4

    by : ((h.4.0 + h.4.1 ≡ h.4.2) × SeesEntry os h.4.3) ⊎ ((h.4.2 < h.4.0 + h.4.1) × (h.4.3 ≡ [])) → GoesTried sys kernel (Seeing (o ∷ os)) t g
    by (inl k) =
        (Seeing os, seen-is t kernel o os _ _ _ (first-is _ _ _ _ whole).0 ∙ empty-behind kernel os _ _ k.0, (h.0, h.4.3, h.2, (first-is _ _ _ _ whole).1, k.1, h.5, h.6))
    by (inr k) =
        let last : h.2 ≡ g = sym ((first-is _ _ _ _ whole).1 ∙ ap (λ us. us ++ h.2) k.1) in (
          Before true,
          seen-is t kernel o os _ _ _ (first-is _ _ _ _ whole).0 ∙ entry-behind kernel os _ _ k.0 h.6,
          (h.0, subst (Tries (priorities sys) h.0) last h.5, h.6),
        )

pub tried-whole : (sys : System) (kernel : ℕ) (s : SettleState) (t : Told) (g : List Told) → TriedFits sys kernel s (t ∷ g) → GoesTried sys kernel s t g
unfolding TriedFits Tries SeesEntry
tried-whole sys kernel (Before false) t g h = tries-whole sys kernel false h.0 t g h.1 h.2
tried-whole sys kernel (Before true) t g h = by h.0 h.1
  where
    by : (n : ℕ) → Tries (priorities sys) n (t ∷ g) → GoesTried sys kernel (Before true) t g
    by zero none = absurd (none-first t g none)
    by (suc n) some = tries-whole sys kernel true n t g some h.2
tried-whole sys kernel (Seeing []) t g h = absurd h.4
tried-whole sys kernel (Seeing (o ∷ os)) t g h = tried-whole-seen sys kernel o os t g h

tried-sound-seen : (sys : System) (kernel o : ℕ) (os : List ℕ) (t : Told) (g : List Told) (s' : SettleState)
    → SawAt kernel o os t s' → TriedFits sys kernel s' g → TriedFits sys kernel (Seeing (o ∷ os)) (t ∷ g)
unfolding TriedFits SeesEntry
tried-sound-seen sys kernel o os t g s' (At f l m is (SawNone e next)) h =
    let k = subst (λ s. TriedFits sys kernel s g) next h in
    (k.0, t ∷ k.1, k.2, ap (λ us. t ∷ us) k.3, (f, l, m, k.1, ap (λ t. t ∷ k.1) is, inl (e, k.4)), k.5, k.6)
tried-sound-seen sys kernel o os t g s' (At f l m is (SawSome above may next)) h =
    let k = subst (λ s. TriedFits sys kernel s g) next h in
    (k.0, t ∷ [], g, refl, (f, l, m, [], ap (λ t. t ∷ []) is, inr (above, refl)), k.1, k.2)

tries-sound : (sys : System) (kernel : ℕ) (t : Told) (g : List Told) (s' : SettleState) → before_next (priorities sys) t.body t.known ≡ Some s' → TriedFits sys kernel s' g
    → (n : ℕ) × Tries (priorities sys) (suc n) (t ∷ g) × IsTrue (may_try kernel)
unfolding TriedFits Tries
tries-sound sys kernel t g s' h k =
    let read = before-back (priorities sys) t s' h in
    let b = subst (λ s. TriedFits sys kernel s g) read.1 k in
    let first : t ∷ g ≡ plain body.Settle ∷ g = ap (λ t. t ∷ g) read.0 in
    (b.0, (b.1, b.2, first ∙ ap (λ us. plain body.Settle ∷ us) b.3, b.4, b.5), b.6)

pub tried-sound : (sys : System) (kernel : ℕ) (s : SettleState) (t : Told) (g : List Told) (s' : SettleState)
    → settle_next sys kernel s t ≡ Some s' → TriedFits sys kernel s' g → TriedFits sys kernel s (t ∷ g)
unfolding settle_next TriedFits
tried-sound sys kernel (Before false) t g s' h k = tries-sound sys kernel t g s' h k
tried-sound sys kernel (Before true) t g s' h k = let some = tries-sound sys kernel t g s' h k in (suc some.0, some.1, some.2)
tried-sound sys kernel (Seeing []) t g s' h k = absurd (cc)
tried-sound sys kernel (Seeing (o ∷ os)) t g s' h k = tried-sound-seen sys kernel o os t g s' (saw-at kernel o os t s' h) k

tries-never : (os : List ℕ) (n : ℕ) → Tries os (suc n) [] → ⊥
unfolding Tries
tries-never os n h = none-first _ _ (sym h.2)

pub tried-end : (sys : System) (kernel : ℕ) (s : SettleState) → Decides (settle_tried kernel s) (TriedFits sys kernel s [])
unfolding Decides TriedFits Tries
tried-end sys kernel (Before false) = λ h. tries-never (priorities sys) h.0 h.1
tried-end sys kernel (Before true) = decides (may_try kernel) _ (λ may. (0, refl, may)) (λ not h. let is : may_try kernel ≡ true = h.2 in cc)
tried-end sys kernel (Seeing os) = λ h. entry-joined os h.1 h.2 h.3 h.4
