-- The tests of what is settled say the same as the facts.
use Rattle.std.proofs.Common.{◌≡◌, ◌<◌, ◌==◌, nat_lt, Bool, true, false, ◌||◌, List, [], ◌∷◌, length, refl, arith, ◌⊎◌, inl, inr}
use Rattle.std.proofs.lemmas.Bool.{and_from, and_parts, lt-ltb, ltb-true, leb-true, le-leb}
use Rattle.std.proofs.lemmas.Bool.Decides.{nat_tests}
use Rattle.qp_model.specs.declared.words.Word.TheVariants as word
use Rattle.qp_model.specs.declared.bodies.Body.{Body}
use Rattle.qp_model.specs.declared.bodies.Body.TheVariants.{Took, New, Dec, Same}
use Rattle.qp_model.specs.Record.{Item}
use Rattle.qp_model.specs.History.{hist}
use Rattle.qp_model.specs.Settled.{Settled, AllSettled, is_settled, all_settled}

pub settled-from : (items : List Item) (b : Body) → is_settled items b ≡ true → Settled items b
unfolding Settled is_settled
settled-from items (Took f l m e) h = go (e.pool == 0) (nat_lt e.name (length (hist (word.Block e.pool e.block) items))) refl refl h
  where
    go : (u v : Bool) → (e.pool == 0) ≡ u → nat_lt e.name (length (hist (word.Block e.pool e.block) items)) ≡ v → (u || v) ≡ true → (e.pool ≡ 0) ⊎ (e.name < length (hist (word.Block e.pool e.block) items))
    go true v p q k = inl (grind (arith, nat_tests))
    go false true p q k = inr (ltb-true e.name (length (hist (word.Block e.pool e.block) items)) q)
    go false false p q k = absurd (cc)
settled-from items (New p n b from sig pars) h = leb-true n (length (hist (word.Pool p) items)) h
settled-from items (Dec p b d k) h = ltb-true d (length (hist (word.Block p b) items)) h
settled-from items (Same sig n) h = leb-true n (length (hist (word.Signal sig) items)) h
settled-from items _ h = tt

pub settled-to : (items : List Item) (b : Body) → Settled items b → is_settled items b ≡ true
unfolding Settled is_settled
settled-to items (Took f l m e) (inl h) = let is : (e.pool == 0) ≡ true = grind (arith, nat_tests) in rw is refl
settled-to items (Took f l m e) (inr h) = rw (lt-ltb e.name (length (hist (word.Block e.pool e.block) items)) h) (or_true (e.pool == 0))
  where
    or_true : (u : Bool) → (u || true) ≡ true
    or_true true = refl
    or_true false = refl
settled-to items (New p n b from sig pars) h = le-leb n (length (hist (word.Pool p) items)) h
settled-to items (Dec p b d k) h = lt-ltb d (length (hist (word.Block p b) items)) h
settled-to items (Same sig n) h = le-leb n (length (hist (word.Signal sig) items)) h
settled-to items _ h = refl

pub all_settled-from : (items lane : List Item) → all_settled items lane ≡ true → AllSettled items lane
unfolding AllSettled all_settled
all_settled-from items [] h = tt
all_settled-from items (j ∷ js) h = (settled-from items j.body (and_parts _ _ h).0, all_settled-from items js (and_parts _ _ h).1)

pub all_settled-to : (items lane : List Item) → AllSettled items lane → all_settled items lane ≡ true
unfolding AllSettled all_settled
all_settled-to items [] h = refl
all_settled-to items (j ∷ js) h = and_from _ _ (settled-to items j.body h.0) (all_settled-to items js h.1)
