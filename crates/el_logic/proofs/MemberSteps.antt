-- What the steps of a test of membership show.
use Rattle.std.proofs.Common.{◌≡◌, ◌<◌, ◌≤◌, ℕ, List, All, Contains, take, get_or, length, sym, subst}
use Rattle.std.proofs.lemmas.List.{take_all}
use Rattle.std.proofs.lemmas.List.Elements.{Contains-get_or}
use Rattle.el_logic.specs.Meaning.{IsMember, pairs_of}
use Rattle.el_logic.specs.declared.types.Interp.{Interp}
use Rattle.el_logic.specs.declared.types.Expr.{Expr}
use Rattle.el_logic.specs.declared.types.Expr.TheVariants.{And, Exists}
use Rattle.el_logic.proofs.Members.{from_intersection, to_intersection, from_restriction, to_restriction}
use Rattle.el_logic.proofs.Walks.{all_passed}

-- a pair that leads to a member of the filler shows a member of the restriction
pub leads : (i : Interp) (x r k : ℕ) (e filler : Expr) (pairs : List (ℕ × ℕ)) → e ≡ Exists r filler → pairs ≡ pairs_of i r → k < length pairs → (get_or pairs k (0, 0)).0 ≡ x → IsMember i (get_or pairs k (0, 0)).1 filler → IsMember i x e
leads i x r k e filler pairs is own within from member =
    subst (IsMember i x) (sym is) (to_restriction i x r filler (
      (get_or pairs k (0, 0)).1,
      subst (λ ps. Contains ps (x, (get_or pairs k (0, 0)).1)) own
          (subst (λ z. Contains pairs (z, (get_or pairs k (0, 0)).1)) from (Contains-get_or pairs k (0, 0) within)),
      member,
    ))

-- if no pair leads to a member of the filler, there is no member of the restriction
pub none_leads : (i : Interp) (x r k : ℕ) (e filler : Expr) (pairs : List (ℕ × ℕ)) → e ≡ Exists r filler → pairs ≡ pairs_of i r → length pairs ≤ k → ¬ ((y : ℕ) × Contains (take k pairs) (x, y) × IsMember i y filler) → ¬ (IsMember i x e)
none_leads i x r k e filler pairs is own end none member =
    let found = from_restriction i x r filler (subst (IsMember i x) is member) in
    none (found.0, subst (λ ps. Contains ps (x, found.0)) (sym (take_all k pairs end)) (subst (λ ps. Contains ps (x, found.0)) (sym own) found.1), found.2)

-- an element of the domain that belongs to each operand belongs to the intersection
pub all_belong : (i : Interp) (x k : ℕ) (e : Expr) (operands items : List Expr) → e ≡ And operands → items ≡ operands → length items ≤ k → All (IsMember i x) (take k items) → x < i.size → IsMember i x e
all_belong i x k e operands items is own end all within =
    subst (IsMember i x) (sym is) (to_intersection i x operands within (subst (All (IsMember i x)) own (all_passed (IsMember i x) items k end all)))

-- and a member of an intersection is one of the domain
pub in_domain : (i : Interp) (x : ℕ) (e : Expr) (operands : List Expr) → e ≡ And operands → IsMember i x e → x < i.size
in_domain i x e operands is member = (from_intersection i x operands (subst (IsMember i x) is member)).0
