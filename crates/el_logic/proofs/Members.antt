-- Bridges between the meaning by cases, which goes down a row of operands, and plain lists.
use Rattle.std.specs.Prelude.{ℕ, ◌<◌, List, [], ◌∷◌, All}
use Rattle.std.proofs.lemmas.List.Elements.{All-nil, All-cons, All-head, All-tail}
use Rattle.el_logic.specs.Meaning.{IsMember, AreRelated}
use Rattle.el_logic.specs.declared.types.Interp.{Interp}
use Rattle.el_logic.specs.declared.types.Expr.{Expr}
use Rattle.el_logic.specs.declared.types.Expr.TheVariants.{And, Exists}

pub from_intersection : (i : Interp) (x : ℕ) (es : List Expr) → IsMember i x (And es) → (x < i.size) × All (IsMember i x) es
unfolding Rattle.el_logic.specs.declared.types.Expr.TheBlock.hidden-the_row-Expr-0 denote.Hole.Carrier.hidden
from_intersection i x [] h = (h.0, All-nil (IsMember i x))
from_intersection i x (e ∷ es) h = (h.0, All-cons (IsMember i x) e es h.1.0 (from_intersection i x es (h.0, h.1.1)).1)

pub to_intersection : (i : Interp) (x : ℕ) (es : List Expr) → x < i.size → All (IsMember i x) es → IsMember i x (And es)
unfolding Rattle.el_logic.specs.declared.types.Expr.TheBlock.hidden-the_row-Expr-0 denote.Hole.Carrier.hidden
to_intersection i x [] l h = (l, tt)
to_intersection i x (e ∷ es) l h = (l, (All-head (IsMember i x) e es h, (to_intersection i x es l (All-tail (IsMember i x) e es h)).1))

pub from_restriction : (i : Interp) (x r : ℕ) (e : Expr) → IsMember i x (Exists r e) → (y : ℕ) × AreRelated i r x y × IsMember i y e
unfolding Rattle.el_logic.specs.declared.types.Expr.TheBlock.hidden-the_row-Expr-1 denote.Hole.Carrier.hidden
from_restriction i x r e h = h

pub to_restriction : (i : Interp) (x r : ℕ) (e : Expr) → (y : ℕ) × AreRelated i r x y × IsMember i y e → IsMember i x (Exists r e)
unfolding Rattle.el_logic.specs.declared.types.Expr.TheBlock.hidden-the_row-Expr-1 denote.Hole.Carrier.hidden
to_restriction i x r e h = h
