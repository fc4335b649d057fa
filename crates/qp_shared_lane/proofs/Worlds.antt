-- The name of a world says which tables it has.
use Rattle.std.proofs.Common.{◌≡◌, ℕ, List, [], ◌∷◌, ◌++◌, length, refl, ap, arith}
use Rattle.atomic_table.specs.Seated.{TableId}
use Rattle.qp_shared_lane.specs.Lane.{table_name, world_of}
use Rattle.qp_shared_lane.specs.Laws.{WorldsNameTables}

abbrev head-of : ℕ → List ℕ → ℕ
head-of d [] = d
head-of d (x ∷ xs) = x

abbrev tail-of : List ℕ → List ℕ
tail-of [] = []
tail-of (x ∷ xs) = xs

same-parts : (xs ys more less : List ℕ) → length xs ≡ length ys → xs ++ more ≡ ys ++ less → (xs ≡ ys) × (more ≡ less)
same-parts [] [] more less n e = (refl, e)
same-parts [] (y ∷ ys) more less n e = absurd (omega arith)
same-parts (x ∷ xs) [] more less n e = absurd (omega arith)
same-parts (x ∷ xs) (y ∷ ys) more less n e = let r = same-parts xs ys more less (omega arith) (ap tail-of e) in let h : x ≡ y = ap (head-of x) e in ((λ i. h i ∷ r.0 i), r.1)

same-table : (a b : TableId) (more less : List ℕ) → table_name a more ≡ table_name b less → (a ≡ b) × (more ≡ less)
same-table a b more less e =
    let r = same-parts a.slot_names b.slot_names more less (ap (λ xs. head-of 0 (tail-of (tail-of (tail-of (tail-of (tail-of (tail-of xs))))))) e) (ap (λ xs. tail-of (tail-of (tail-of (tail-of (tail-of (tail-of (tail-of xs))))))) e) in (
      (λ i. record {
        words = head-of 0 (e i);
        slots = head-of 0 (tail-of (e i));
        views_name = head-of 0 (tail-of (tail-of (e i)));
        atom = head-of 0 (tail-of (tail-of (tail-of (e i))));
        block = head-of 0 (tail-of (tail-of (tail-of (tail-of (e i)))));
        offset = head-of 0 (tail-of (tail-of (tail-of (tail-of (tail-of (e i))))));
        slot_names = r.0 i;
      }),
      r.1,
    )

pub worlds_name : WorldsNameTables
unfolding world_of
worlds_name a b c d n m e =
    let r = same-table a c (table_name b []) (table_name d []) (ap tail-of e) in
    let q = same-table b d [] [] r.1 in
    (r.0, q.0, ap (head-of 0) e)
