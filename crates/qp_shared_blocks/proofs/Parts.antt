-- Parts of what a step on a block owes: tokens, what was read, and used blocks.
use Rattle.std.proofs.Common.{◌≡◌, ℕ, ◌+◌, ◌≤◌, ◌&&◌, List, [], ◌∷◌, ◌++◌, Bool, true, false, refl, sym, ap, subst, ◌∙◌, arith, eqb, eqb-true, eq-eqb, IsTrue}
use Rattle.std.specs.List.{list_any}
use Rattle.std.proofs.lemmas.Bool.{and_from, and_parts, or_left, or_right}
use Rattle.std.proofs.lemmas.List.Folds.{list_any-append}
use Rattle.qp_model.specs.declared.systems.System.{System}
use Rattle.qp_model.specs.declared.words.Word.{Word}
use Rattle.qp_model.specs.declared.words.Word.TheVariants as word
use Rattle.qp_model.specs.declared.bodies.Entry.{Entry}
use Rattle.qp_table.specs.Counting.{many, without}
use Rattle.qp_table.specs.Rule.{is_spot, is_spot_at, is_entry}
use Rattle.qp_table.specs.After.{spot, ref}
use Rattle.qp_table.specs.declared.view.Glance.{Glance}
use Rattle.qp_table.specs.declared.view.Content.{Content}
use Rattle.qp_table.specs.declared.view.View.{View}
use Rattle.qp_calls.specs.Tokens.{Token, Held, Loose, token_of}
use Rattle.qp_table.specs.Words.{mark_seen}
use Rattle.qp_table.specs.Lane.{has_content, is_read, event_seen}
use Rattle.qp_table.specs.Asked.{is_unfinished, is_begun}
use Rattle.qp_shared_lane.specs.Holds.{IsRead, IsStill, IsPlaced, IsWorn, was_seen}
use Rattle.qp_shared_lane.specs.More.{KeepsContents}
use Rattle.qp_table.proofs.Hands.{without-le}

-- Where nothing else was read.
pub grown-same : (v u : View) → u.contents ≡ v.contents → KeepsContents v u
grown-same v u contents e has = (subst (λ (qs : List Content). IsTrue (has_content qs e)) (sym contents) has, ap (λ (qs : List Content). event_seen qs e) contents)

pub read-fewer : (v u : View) → u.contents ≡ v.contents → ((e : Entry) → many (is_entry e) u.hands ≤ many (is_entry e) v.hands) → IsRead v → IsRead u
read-fewer v u contents fewer read e h = let f = fewer e in let z = read e (omega arith) in (subst (λ (qs : List Content). IsTrue (is_read qs e)) (sym contents) z.0, z.1, z.2)

pub read-without : (v u : View) (d : Entry) → u.contents ≡ v.contents → u.hands ≡ without (is_entry d) v.hands → IsRead v → IsRead u
read-without v u d contents hands = read-fewer v u contents (λ e. let l = without-le (is_entry d) (is_entry e) v.hands in let i = ap (many (is_entry e)) hands in omega arith)

pub still-same : (v u : View) → u.fills ≡ v.fills → u.claims ≡ v.claims → u.takes ≡ v.takes → u.gives ≡ v.gives → u.fresh ≡ v.fresh → IsStill v → IsStill u
still-same v u fills claims takes gives fresh s = record {
  fills = fills ∙ s.fills;
  claims = claims ∙ s.claims;
  takes = takes ∙ s.takes;
  done = (λ i. list_any (is_unfinished (fills i)) (gives i)) ∙ s.done;
  begun = λ p b. let f = ap (many (is_spot p b)) fresh in let g = ap (many (is_begun p b)) gives in let n = s.begun p b in omega arith;
}

pub placed-same : (v u : View) → u.fresh ≡ v.fresh → u.used ≡ v.used → IsPlaced v → IsPlaced u
placed-same v u fresh used placed p b h = placed p b (let f = ap (many (is_spot p b)) fresh in let g = ap (many (is_spot p b)) used in omega arith)

pub worn-same : (sys : System) (v u : View) → ((w : Word) → mark_seen sys v.seen w ≤ mark_seen sys u.seen w) → u.used ≡ v.used → IsWorn sys v → IsWorn sys u
worn-same sys v u rise used worn p b n h = let f = ap (many (is_spot_at p b n)) used in let m = worn p b n (omega arith) in let r = rise (word.Block p b) in omega arith

-- a block whose spot comes
pub spot-is : (q c p b n m : ℕ) → is_spot_at q c n (spot p b m) ≡ true → (p ≡ q) × (b ≡ c) × (m ≡ n)
spot-is q c p b n m h =
    let t = and_parts (eqb p q && eqb b c) (eqb m n) h in let u = and_parts (eqb p q) (eqb b c) t.0 in (eqb-true p q u.0, eqb-true b c u.1, eqb-true m n t.1)

-- what was seen last
pub seen-last : (xs : List Glance) (w x : ℕ) (test : ℕ → Bool) → test x ≡ true → was_seen (xs ++ record { word = w; value = x } ∷ []) w test ≡ true
seen-last xs w x test h = list_any-append (λ (g : Glance). eqb g.word w && test g.value) xs (record { word = w; value = x } ∷ [])
    ∙ or_right (was_seen xs w test) (was_seen (record { word = w; value = x } ∷ []) w test) (or_left (eqb w w && test x) false (and_from (eqb w w) (test x) (eq-eqb w w refl) h))

-- a token handled that is the one in hand
pub held-parts : (e : Entry) (p b k : ℕ) → token_of e ≡ Held p b k → e ≡ ref p b k
held-parts e p b k is = (λ i. record { pool = (parts (is i)).0; block = (parts (is i)).1; name = (parts (is i)).2 })
  where
    parts : Token → ℕ × ℕ × ℕ
    parts (Held p b k) = (p, b, k)
    parts (Loose p b u) = (0, 0, 0)
