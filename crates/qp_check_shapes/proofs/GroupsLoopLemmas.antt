-- A loop that eats parts from the front of a list.
use Rattle.std.proofs.Common.{◌≡◌, suc, ◌+◌, ◌<◌, List, [], ◌∷◌, ◌++◌, length, Some, None, refl, sym, ◌∙◌, ap, append_assoc, length-append, arith}
use Rattle.qp_model.specs.Told.{Told}
use Rattle.qp_model.specs.Sequence.{Sequence}
use Rattle.qp_check_shapes.specs.ShapeRelease.{IsUnambiguous}
use Rattle.qp_check_shapes.specs.GroupsRead.{ReadsAll}
use Rattle.qp_check_shapes.proofs.GroupsSequenceLemmas.{sequence-none, sequence-one, sequence-append}

-- parts stand between the whole list and what is left
pub record ReadsSome (P : List Told → Type 0) (told rest : List Told) : Type 0 where
  pub whole : List Told
  pub parts : Sequence P whole
  pub is : told ≡ whole ++ rest

pub reads-none : (P : List Told → Type 0) (told : List Told) → ReadsSome P told told
reads-none P told = record { whole = []; parts = sequence-none P; is = refl }

pub reads-more : (P : List Told → Type 0) (told left rest : List Told) → ReadsSome P told left → IsUnambiguous P left (Some rest) → ReadsSome P told rest
unfolding IsUnambiguous
reads-more P told left rest reads l = record {
  whole = reads.whole ++ l.0.0;
  parts = sequence-append P reads.whole l.0.0 reads.parts (sequence-one P l.0.0 l.0.1);
  is = reads.is ∙ ap (λ us. reads.whole ++ us) l.0.2 ∙ sym (append_assoc reads.whole l.0.0 rest);
}

pub reads-all : (P : List Told → Type 0) (told rest : List Told) → ReadsSome P told rest → IsUnambiguous P rest None → ReadsAll P told rest
reads-all P told rest reads none = record { whole = reads.whole; parts = reads.parts; is = reads.is; none = none }

-- each part makes the list shorter
pub reads-shorter : (P : List Told → Type 0) → (P [] → ⊥) → (left rest : List Told) → IsUnambiguous P left (Some rest) → length rest < length left
unfolding IsUnambiguous
reads-shorter P filled left rest l = by l.0.0 l.0.1 l.0.2
  where
    by : (g : List Told) → P g → left ≡ g ++ rest → length rest < length left
    by [] p is = absurd (filled p)
    by (t ∷ ts) p is =
        let long : length left ≡ suc (length (ts ++ rest)) = ap length is in
        let more : length (ts ++ rest) ≡ length ts + length rest = length-append ts rest in omega arith
