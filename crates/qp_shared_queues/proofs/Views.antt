-- A view after a call on a queue: parts that are as before.
use Rattle.std.proofs.Common.{◌≡◌, ℕ, ◌<◌, ◌≤◌, List, [], ◌∷◌, ◌++◌, append_assoc, true, false, sym, ap, subst, ◌∙◌, arith, IsTrue}
use Rattle.std.specs.List.{list_any}
use Rattle.qp_model.specs.declared.systems.System.{System}
use Rattle.qp_model.specs.declared.words.Word.{Word}
use Rattle.qp_model.specs.declared.words.Word.TheVariants as word
use Rattle.qp_model.specs.declared.bodies.Entry.{Entry}
use Rattle.qp_table.specs.Counting.{many}
use Rattle.qp_table.specs.Rule.{is_ref, is_spot, is_spot_at, is_entry, is_serve}
use Rattle.qp_table.specs.declared.view.Content.{Content}
use Rattle.qp_table.specs.declared.view.Glance.{Glance}
use Rattle.qp_table.specs.declared.view.View.{View}
use Rattle.qp_calls.specs.Tokens.{Token, Held, Loose}
use Rattle.qp_table.specs.Words.{mark_seen}
use Rattle.qp_table.specs.Lane.{event_seen, has_content, is_read, tokens_of_view}
use Rattle.qp_table.specs.Asked.{is_unfinished, is_begun}
use Rattle.qp_shared_lane.specs.Holds.{IsRead, IsStill, IsPlaced, IsWorn}
use Rattle.qp_shared_lane.specs.More.{KeepsContents}
use Rattle.qp_table.specs.After.{SeesMore}

-- the same tokens
pub same-tokens : (v u : View) → u.hands ≡ v.hands → u.fresh ≡ v.fresh → u.used ≡ v.used → (t : Token) → tokens_of_view u t ≡ tokens_of_view v t
same-tokens v u hands fresh used (Held p b k) = ap (many (is_ref p b k)) hands
same-tokens v u hands fresh used (Loose p b false) = ap (many (is_spot p b)) fresh
same-tokens v u hands fresh used (Loose p b true) = ap (many (is_spot p b)) used

pub grown-still : (v u : View) → u.contents ≡ v.contents → KeepsContents v u
grown-still v u e d h = (subst (λ (qs : List Content). IsTrue (has_content qs d)) (sym e) h, ap (λ (qs : List Content). event_seen qs d) e)

pub read-still : (v u : View) → u.contents ≡ v.contents → ((e : Entry) → 0 < many (is_entry e) u.hands → 0 < many (is_entry e) v.hands) → IsRead v → IsRead u
read-still v u contents fewer h e mine = let z = h e (fewer e mine) in (subst (λ (qs : List Content). IsTrue (is_read qs e)) (sym contents) z.0, z.1, z.2)

pub worn-still : (sys : System) (v u : View) → u.used ≡ v.used → ((w : Word) → mark_seen sys v.seen w ≤ mark_seen sys u.seen w) → IsWorn sys v → IsWorn sys u
worn-still sys v u used rise worn p b n h = let f = ap (many (is_spot_at p b n)) used in let m = worn p b n (omega arith) in let r = rise (word.Block p b) in omega arith

pub placed-still : (v u : View) → u.fresh ≡ v.fresh → u.used ≡ v.used → IsPlaced v → IsPlaced u
placed-still v u fresh used placed p b h = placed p b (let f = ap (many (is_spot p b)) fresh in let g = ap (many (is_spot p b)) used in omega arith)

-- Nothing of a view changes but its own records, its hands, what was read of entries and what was seen; a queue that it serves may have other counts.
pub record Alike (v u : View) : Type 0 where
  pub lane_numbers : u.lane_numbers ≡ v.lane_numbers
  pub serves : (o : ℕ) → list_any (is_serve o) u.serves ≡ list_any (is_serve o) v.serves
  pub fresh : u.fresh ≡ v.fresh
  pub used : u.used ≡ v.used
  pub fills : u.fills ≡ v.fills
  pub claims : u.claims ≡ v.claims
  pub takes : u.takes ≡ v.takes
  pub gives : u.gives ≡ v.gives

pub still-alike : (v u : View) → Alike v u → IsStill v → IsStill u
still-alike v u a s = record {
  fills = a.fills ∙ s.fills;
  claims = a.claims ∙ s.claims;
  takes = a.takes ∙ s.takes;
  done = (λ i. list_any (is_unfinished (a.fills i)) (a.gives i)) ∙ s.done;
  begun = λ p b. let f = ap (many (is_spot p b)) a.fresh in let g = ap (many (is_begun p b)) a.gives in let n = s.begun p b in omega arith;
}

-- one glance behind others
pub sees-last : (v u : View) (glances : List Glance) (g : Glance) → SeesMore v.seen glances → u.seen ≡ glances ++ g ∷ [] → SeesMore v.seen u.seen
sees-last v u glances g more is = (more.0 ++ g ∷ [], is ∙ (ap (λ (xs : List Glance). xs ++ g ∷ []) more.1 ∙ append_assoc v.seen more.0 (g ∷ [])))
