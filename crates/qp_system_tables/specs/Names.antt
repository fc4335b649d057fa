-- What is a name.
use Rattle.std.specs.Prelude.{ℕ, nat_le, Bool, not, ◌&&◌, List, [], ◌∷◌, length, codes}
use Rattle.std.specs.List.{list_any}
use Rattle.std.specs.Str.{bytes_eq}
use Rattle.qp_chart_text.specs.Tokens.{is_identifier}

-- the words that stand for something else where a name may stand
unfoldable pub reserved : List (List ℕ)
reserved =
    codes "me" ∷ codes "ok" ∷ codes "p1" ∷ codes "p2" ∷ codes "p3" ∷ codes "p4" ∷ codes "p5" ∷ codes "p6" ∷ codes "p7" ∷ codes "p8"
    ∷ codes "locked" ∷ codes "say" ∷ codes "post" ∷ codes "lifo" ∷ codes "forward" ∷ codes "publish" ∷ codes "defer" ∷ codes "recall"
    ∷ codes "flush" ∷ codes "subscribe" ∷ codes "unsubscribe" ∷ codes "arm" ∷ codes "rearm" ∷ codes "disarm"
    ∷ codes "margin" ∷ codes "reserve" ∷ []

-- a word of at most 24 bytes that isn't reserved
unfoldable pub is_name : List ℕ → Bool
unfolding is_identifier reserved
is_name text = is_identifier text && nat_le (length text) 24 && not (list_any (bytes_eq text) reserved)
