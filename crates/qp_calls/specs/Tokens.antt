-- What a lane has in its hands, and what each of its records does to them.
use Rattle.std.specs.Prelude.{ℕ, zero, ◌==◌, Bool, true, false, not, ◌&&◌, List, [], ◌∷◌, if◌then◌else◌}
use Rattle.std.specs.List.{list_any}
use Rattle.qp_model.specs.declared.bodies.Entry.{Entry}
use Rattle.qp_model.specs.declared.bodies.Body.{Body}
use Rattle.qp_model.specs.declared.bodies.Body.TheVariants.{Took, New, Inc, Dec, Back, Post, Lifo}
use Rattle.qp_model.specs.Told.{Told, ToldItem, Known, Left}

-- a reference to a block: its name is the number of the operation that made it
pub record Hold : Type 0 where
  pub pool : ℕ
  pub block : ℕ
  pub name : ℕ

-- a reference, or a block that none names
pub data Token : Type 0 where
  Held : (p b r : ℕ) → Token
  Loose : (p b : ℕ) (used : Bool) → Token

abbrev pub same_bool : Bool → Bool → Bool
same_bool true c = c
same_bool false c = not c

abbrev pub same_token : Token → Token → Bool
same_token (Held p b r) (Held q c s) = (p == q) && (b == c) && (r == s)
same_token (Loose p b u) (Loose q c v) = (p == q) && (b == c) && same_bool u v
same_token _ _ = false

-- the reference of an entry
abbrev pub token_of : Entry → Token
token_of e = Held e.pool e.block e.name

-- the tokens without the first that is that one
unfoldable pub take_out : Token → List Token → List Token
take_out t [] = []
take_out t (x ∷ xs) = if same_token t x then xs else x ∷ take_out t xs

unfoldable pub stands : Token → List Token → Bool
stands t hands = list_any (λ x. same_token t x) hands

-- a static entry counts as no token
abbrev pub with_entry : Entry → List Token → List Token
with_entry e hands = if e.pool == 0 then hands else token_of e ∷ hands

abbrev pub without_entry : Entry → List Token → List Token
without_entry e hands = if e.pool == 0 then hands else take_out (token_of e) hands

-- a reference is dropped; where none is left, the block is loose and used
abbrev pub with_left : ℕ → ℕ → Known → List Token → List Token
with_left p b (Left zero) hands = Loose p b true ∷ hands
with_left p b _ hands = hands

-- the hands after a record
abbrev pub hands_of : List Token → Body → Known → List Token
hands_of hands (Took f l m e) known = with_entry e hands
hands_of hands (New p n b from sig pars) known = Loose p b false ∷ hands
hands_of hands (Inc p b r) known = Held p b r ∷ take_out (Loose p b false) hands
hands_of hands (Dec p b d k) known = with_left p b known (take_out (Held p b k) hands)
hands_of hands (Back p n b to) known = take_out (Loose p b true) hands
hands_of hands (Post a f l m e) known = without_entry e hands
hands_of hands (Lifo f l m e) known = without_entry e hands
hands_of hands _ known = hands

unfoldable pub hands_by : List Token → Told → List Token
unfolding take_out
hands_by hands t = hands_of hands t.body t.known

-- the hands after these records
unfoldable pub hands_after : List Token → List ToldItem → List Token
unfolding hands_by
hands_after hands [] = hands
hands_after hands (t ∷ ts) = hands_after (hands_by hands t.told) ts

-- the record makes, takes, drops or posts this reference
abbrev pub handles : Token → Body → Bool
handles t (Took f l m e) = same_token t (token_of e)
handles t (Inc p b r) = same_token t (Held p b r)
handles t (Dec p b d k) = same_token t (Held p b k)
handles t (Post a f l m e) = same_token t (token_of e)
handles t (Lifo f l m e) = same_token t (token_of e)
handles t _ = false
