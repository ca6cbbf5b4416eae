-- Interpretations with the same elements, members and pairs mean the same.
use Rattle.std.proofs.Common.{◌≡◌, ◌<◌, ℕ, List, [], ◌∷◌, length, All, subst, refl}
use Rattle.std.specs.Prelude.{◌↔◌}
use Rattle.std.proofs.lemmas.List.Elements.{All-weaker}
use Rattle.el_logic.specs.declared.types.Expr.{Expr, Row_of-Expr, end_of-Expr, more_of-Expr}
use Rattle.el_logic.specs.declared.types.Expr.TheVariants.{Top, Bottom, Name, And', Exists'}
use Rattle.el_logic.specs.declared.types.Axiom.{Axiom}
use Rattle.el_logic.specs.declared.types.Axiom.TheVariants.{SubClass, Equivalent, Disjoint, SubRole, EquivalentRoles, Transitive, Reflexive, Domain}
use Rattle.el_logic.specs.declared.types.Interp.{Interp}
use Rattle.el_logic.specs.Meaning.{IsInterp, IsMember, IsInEach, IsWithin, AreRelated, AreChained, AreDisjoint, AreApart, Holds, members_of, pairs_of}
use Rattle.closed_model.specs.Models.{HaveTheSame}
use Rattle.model_members.specs.Inside.Keyed.{AreMadeOf}
use Rattle.model_members.proofs.KeyLaws.{all_made}

-- the same elements, members and pairs
pub record AreAlike (one other : Interp) : Type 0 where
  pub size : one.size ≡ other.size
  pub members : (class : ℕ) → HaveTheSame (members_of one class) (members_of other class)
  pub pairs : (role : ℕ) → HaveTheSame (pairs_of one role) (pairs_of other role)

module _ (i j : Interp) (alike : AreAlike i j) where
  mutual
    -- a member of an expression is one in the other interpretation
    pub member_over : (e : Expr) (x : ℕ) → IsMember i x e → IsMember j x e
    member_over Top x h = subst (λ n. x < n) alike.size h
    member_over Bottom x h = absurd h
    member_over (Name class) x h = (alike.members class x).0 h
    member_over (And' _ es) x h = (subst (λ n. x < n) alike.size h.0, each_over es x h.1)
    member_over (Exists' role _ (more_of-Expr e _)) x (y, related, h) = (y, (alike.pairs role (x, y)).0 related, member_over e y h)

    -- so is one of each operand
    each_over : {n : _} (es : Row_of-Expr n) (x : ℕ) → IsInEach i x es → IsInEach j x es
    each_over end_of-Expr x h = tt
    each_over (more_of-Expr e es) x (h, hs) = (member_over e x h, each_over es x hs)

  -- a chain leads the same way
  pub chain_over : (chain : List ℕ) (x y : ℕ) → AreChained i chain x y → AreChained j chain x y
  chain_over [] x y h = h
  chain_over (role ∷ chain) x y (z, related, h) = (z, (alike.pairs role (x, z)).0 related, chain_over chain z y h)

module _ (i j : Interp) (there : AreAlike i j) (back : AreAlike j i) where
  -- what is within another stays so
  within_over : (c d : Expr) → IsWithin i c d → IsWithin j c d
  within_over c d within x member = member_over i j there d x (within x (member_over j i back c x member))

  disjoint_over : (c d : Expr) → AreDisjoint i c d → AreDisjoint j c d
  disjoint_over c d apart x one two = apart x (member_over j i back c x one) (member_over j i back d x two)

  apart_over : (cs : List Expr) → AreApart i cs → AreApart j cs
  apart_over [] apart = tt
  apart_over (c ∷ cs) apart = (All-weaker (AreDisjoint i c) (AreDisjoint j c) (disjoint_over c) cs apart.0, apart_over cs apart.1)

  -- what one property relates, the other does
  related_over : (r s : ℕ) → ((x y : ℕ) → AreRelated i r x y → AreRelated i s x y) → (x y : ℕ) → AreRelated j r x y → AreRelated j s x y
  related_over r s within x y related = (there.pairs s (x, y)).0 (within x y ((back.pairs r (x, y)).0 related))

  -- an axiom that holds, holds in the other interpretation
  pub holds_over : (a : Axiom) → Holds i a → Holds j a
  holds_over (SubClass c d) holds = within_over c d holds
  holds_over (Equivalent cs) holds =
      All-weaker (λ c. All (IsWithin i c) cs) (λ c. All (IsWithin j c) cs) (λ c. All-weaker (IsWithin i c) (IsWithin j c) (within_over c) cs) cs holds
  holds_over (Disjoint cs) holds = apart_over cs holds
  holds_over (SubRole chain s) holds = λ x y chained. (there.pairs s (x, y)).0 (holds x y (chain_over j i back chain x y chained))
  holds_over (EquivalentRoles rs) holds =
      All-weaker (λ r. All (λ s. (x y : ℕ) → AreRelated i r x y → AreRelated i s x y) rs) (λ r. All (λ s. (x y : ℕ) → AreRelated j r x y → AreRelated j s x y) rs)
      (λ r. All-weaker (λ s. (x y : ℕ) → AreRelated i r x y → AreRelated i s x y) (λ s. (x y : ℕ) → AreRelated j r x y → AreRelated j s x y) (related_over r) rs) rs holds
  holds_over (Transitive r) holds = λ x y z one two. (there.pairs r (x, z)).0 (holds x y z ((back.pairs r (x, y)).0 one) ((back.pairs r (y, z)).0 two))
  holds_over (Reflexive r) holds = λ x below. (there.pairs r (x, x)).0 (holds x (subst (λ n. x < n) back.size below))
  holds_over (Domain r c) holds = λ x y related. member_over i j there c x (holds x y ((back.pairs r (x, y)).0 related))

-- lists made with the same elements are those of an interpretation
pub fits_made : (model : Interp) (classes : List (List ℕ)) (roles : List (List (ℕ × ℕ))) → IsInterp (length model.classes) (length model.roles) model
    → AreMadeOf HaveTheSame model.classes classes → AreMadeOf HaveTheSame model.roles roles
    → IsInterp (length classes) (length roles) (record { size = model.size; classes = classes; roles = roles })
fits_made model classes roles fits members pairs = record {
  inhabited = fits.inhabited;
  each_class = refl;
  each_role = refl;
  members_below = all_made (λ x. x < model.size) model.classes classes members fits.members_below;
  pairs_below = all_made (λ p. (p.0 < model.size) × (p.1 < model.size)) model.roles roles pairs fits.pairs_below;
}

-- and it means the same
pub means_same : (model : Interp) (classes : List (List ℕ)) (roles : List (List (ℕ × ℕ))) → AreMadeOf HaveTheSame model.classes classes → AreMadeOf HaveTheSame model.roles roles
    → (a : Axiom) → Holds (record { size = model.size; classes = classes; roles = roles }) a ↔ Holds model a
means_same model classes roles members pairs a =
    let made : Interp = record { size = model.size; classes = classes; roles = roles } in
    let there : AreAlike made model = record { size = refl; members = members.keyed; pairs = pairs.keyed } in
    let back : AreAlike model made = record {
      size = refl;
      members = λ class x. ((members.keyed class x).1, (members.keyed class x).0);
      pairs = λ role p. ((pairs.keyed role p).1, (pairs.keyed role p).0);
    } in
    (holds_over made model there back a, holds_over model made back there a)
